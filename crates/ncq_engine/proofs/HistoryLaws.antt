-- Laws of histories: names, install numbers, marks of subscriptions that are not there yet, and histories up to a change.
use Rattle.std.proofs.Common.{◌≡◌, ℕ, ◌+◌, ◌<◌, ◌≤◌, true, false, not, ◌&&◌, ◌==◌, List, [], ◌∷◌, refl, sym, ◌∙◌, arith}
use Rattle.std.specs.Prelude.{Option, Some, None, nat_le, if◌then◌else◌}
use Rattle.std.proofs.lemmas.Bool.Decides.{nat_tests}
use Rattle.std.specs.List.{AllByRecursion}
use Rattle.std.specs.Ordering.{nat_cmp}
use Rattle.std.specs.Cmp.{eq_by_cmp_equiv}
use Rattle.std.specs.Cmp.Lexicographic.{slice_cmp, texts_ties, nat_list_cmp_total}
use Rattle.std.specs.Str.{bytes_eq}
use Rattle.ncq_base.proofs.Keyed.{bytes_apart}
use Rattle.ncq_base.proofs.Totals.{is_equal}
use Rattle.ncq_script.specs.declared.command.Command.{Command}
use Rattle.ncq_script.specs.declared.command.Command.TheVariants.{Declare, Delta, Batch, Create, Delete, Clock, Report, Malformed}
use Rattle.ncq_event.specs.Instants.{is_expired, due}
use Rattle.ncq_engine.specs.History.{History, now, changes, creates, up_to, Subscription, created, timing_of, is_named, live}
use Rattle.ncq_engine.specs.Firing.{is_installed, is_new, is_told_of, has_news, fires_at, marked, mark}
use Rattle.ncq_engine.proofs.Lists.{each_more, each_push, each_filter}

-- texts that the test takes for one are one
pub key_is : (a b : List ℕ) → bytes_eq a b ≡ true → a ≡ b
key_is a b t = bytes_apart a b (is_equal (slice_cmp nat_cmp a b) (sym (texts_ties a b) ∙ t))

pub key_itself : (a : List ℕ) → bytes_eq a a ≡ true
key_itself a = texts_ties a a ∙ (eq_by_cmp_equiv nat_list_cmp_total).refl a

-- a command adds at most one to the creates
pub creates_grow : (command : Command) (before : History) → creates before ≤ creates (command ∷ before)
creates_grow command before = omega arith

abbrev pub Installed : History → List Subscription → Type 0
Installed history subscriptions = AllByRecursion (λ s. s.install ≤ creates history) subscriptions

pub installed_more : (command : Command) (before : History) (xs : List Subscription) → Installed before xs → Installed (command ∷ before) xs
installed_more command before xs h = each_more _ _ (λ s few. let grow = creates_grow command before in omega arith) xs h

-- each live subscription was created before now
pub installed : (history : History) → Installed history (live history)
installed [] = tt
installed ((Declare name root key) ∷ before) = installed_more (Declare name root key) before (live before) (installed before)
installed ((Delta changed) ∷ before) = installed_more (Delta changed) before (live before) (installed before)
installed ((Batch changed) ∷ before) = installed_more (Batch changed) before (live before) (installed before)
installed ((Create statement) ∷ before) =
    each_push _ (live before) (created statement before) (installed_more (Create statement) before (live before) (installed before)) (let e : creates before + 1 ≤ creates (Create statement ∷ before) = omega arith in e)
installed ((Delete name) ∷ before) = each_filter _ (λ s. not (is_named name s)) (live before) (installed_more (Delete name) before (live before) (installed before))
installed ((Clock instant) ∷ before) =
    each_filter _ (λ s. not (is_expired (timing_of s) instant)) (live before) (installed_more (Clock instant) before (live before) (installed before))
installed (Report ∷ before) = installed_more Report before (live before) (installed before)
installed ((Malformed why) ∷ before) = installed_more (Malformed why) before (live before) (installed before)

-- a subscription that is not there yet does not fire
pub not_yet : (m : Option ℕ) (s : Subscription) (command : Command) (before : History) → creates (command ∷ before) < s.install → fires_at m s before command ≡ None
not_yet m s (Declare name root key) before later = refl
not_yet m s (Delta changed) before later =
    let off : is_installed s before ≡ false = grind (arith, nat_tests) in
    λ i. if off i && is_told_of changed s before then Some (now before) else None
not_yet m s (Batch changed) before later =
    let off : is_installed s before ≡ false = grind (arith, nat_tests) in
    λ i. if off i && is_told_of changed s before then Some (now before) else None
not_yet m s (Create statement) before later =
    let off : is_new s before ≡ false = grind (arith, nat_tests) in
    λ i. if off i && s.start == now before then Some (now before) else None
not_yet m s (Delete name) before later = refl
not_yet m s (Clock instant) before later =
    let off : is_installed s before ≡ false = grind (arith, nat_tests) in
    λ i. if off i && has_news m s.statement before then due (timing_of s) (now before) instant else None
not_yet m s Report before later = refl
not_yet m s (Malformed why) before later = refl

-- and has no mark
pub never : (s : Subscription) (history : History) → creates history < s.install → mark s history ≡ None
never s [] later = refl
never s (command ∷ before) later =
    let sooner : creates before < s.install = let grow = creates_grow command before in omega arith in
    (λ i. marked (not_yet (mark s before) s command before later i) (changes (command ∷ before)) (mark s before)) ∙ never s before sooner

-- a history that has no more changes is whole
pub up_to_whole : (number : ℕ) (history : History) → nat_le (changes history) number ≡ true → up_to number history ≡ history
up_to_whole number [] h = refl
up_to_whole number (command ∷ before) h = λ i. if h i then command ∷ before else up_to number before
