-- Timers that pin files: as rows and subscriptions come, and what a look at the timers of a file tells.
use Rattle.std.proofs.Common.{◌≡◌, ℕ, ◌<◌, ◌≤◌, ◌&&◌, ◌||◌, Bool, true, false, not, cond, List, [], ◌∷◌, ◌++◌, inl, inr, refl, sym, ◌∙◌, ap, subst, true≢false, arith}
use Rattle.std.specs.Prelude.{Option, Some, None, nat_eq, nat_lt}
use Rattle.std.specs.FinMap.{get, insert}
use Rattle.std.specs.List.{find, list_any, AllByRecursion}
use Rattle.std.proofs.lemmas.Bool.{and_parts, and_right, cases_eq, cases_lt, ltb-false, or_parts}
use Rattle.std.proofs.lemmas.Bool.Decides.{nat_tests}
use Rattle.std.proofs.lemmas.List.Folds.{list_any-append}
use Rattle.std.proofs.Math.Bool.{or-true}
use mathlib.Core.Bool.{or-false}
use Rattle.ncq_midfile.specs.Files.{FileState}
use Rattle.ncq_midfile.specs.Views.{IsLast}
use Rattle.ncq_midfile.specs.declared.signed.SignedRow.{SignedRow}
use Rattle.ncq_shelf.specs.Contents.{IsRaised}
use Rattle.ncq_shelf.specs.KeptFiles.{KeptFile}
use Rattle.ncq_shelf.proofs.CallerLemmas.{put_same, put_other, one_value}
use Rattle.ncq_group.specs.Tables.{TableState}
use Rattle.ncq_book.specs.declared.subscription.Subscription.{Subscription}
use Rattle.ncq_book.specs.Books.{is_of, is_timer_of, timers_of, InstallsRise}
use Rattle.ncq_book.proofs.Lists.{any_mapped, each_leads, none_passes}
use Rattle.ncq_book.proofs.SubscriptionLaws.{none_above}
use Rattle.ncq_live.specs.Wears.{is_among, is_behind, pins, is_pinned, ArePinned, IsToldBefore, LeavesBehind}

-- a test that some pass, where each that passes the one passes the other
any_leads : {A : Type 0} (p q : A → Bool) → ((x : A) → p x ≡ true → q x ≡ true) → (xs : List A) → list_any p xs ≡ true → list_any q xs ≡ true
any_leads p q leads [] h = h
any_leads p q leads (x ∷ xs) h =
    elim (p x) as (λ t. p x ≡ t → (t || list_any p xs) ≡ true → (q x || list_any q xs) ≡ true) [
      | true ↦ λ e _ i. leads x e i || list_any q xs
      | false ↦ λ _ rest. (λ i. q x || any_leads p q leads xs rest i) ∙ or-true (q x)
    ] refl h

-- the last of three is another
last_of_three : (a b c d : Bool) → (c ≡ true → d ≡ true) → (a && b && c) ≡ true → (a && b && d) ≡ true
last_of_three true true c d leads h = leads h
last_of_three true false c d leads h = h
last_of_three false b c d leads h = h

-- who is behind some rows is behind them with more
behind_more : (noted : Option ℕ) (rows news : List SignedRow) → is_behind rows noted ≡ true → is_behind (rows ++ news) noted ≡ true
behind_more None rows news h = h
behind_more (Some noted) rows news h = list_any-append (λ (r : SignedRow). nat_lt noted r.number) rows news ∙ (λ i. h i || list_any (λ (r : SignedRow). nat_lt noted r.number) news)

-- a file that is pinned is so with more rows
pub pinned_more : (subscriptions : List Subscription) (number : ℕ) (rows news : List SignedRow) → is_pinned subscriptions number rows ≡ true → is_pinned subscriptions number (rows ++ news) ≡ true
pinned_more subscriptions number rows news =
    any_leads (pins number rows) (pins number (rows ++ news))
    (λ m. last_of_three (not (nat_eq m.timing.every 0)) (nat_eq number m.file.0) (is_behind rows m.noted) (is_behind (rows ++ news) m.noted) (behind_more m.noted rows news)) subscriptions

-- and with one subscription more
pub pinned_pushed : (subscriptions : List Subscription) (m : Subscription) (number : ℕ) (rows : List SignedRow) → is_pinned subscriptions number rows ≡ true → is_pinned (subscriptions ++ m ∷ []) number rows ≡ true
pinned_pushed subscriptions m number rows h = list_any-append (pins number rows) subscriptions (m ∷ []) ∙ (λ i. h i || list_any (pins number rows) (m ∷ []))

-- no file counts as pinned
pub pinned_none : (table : TableState) (subscriptions : List Subscription) (pinned : List ℕ) → pinned ≡ [] → ArePinned table subscriptions pinned
pinned_none table subscriptions pinned none number has = absurd (true≢false (sym has ∙ ap (is_among number) none))

-- no other file than before counts as pinned
pub pinned_fewer : (table : TableState) (subscriptions : List Subscription) (before after : List ℕ) → ((number : ℕ) → is_among number after ≡ true → is_among number before ≡ true) → ArePinned table subscriptions before → ArePinned table subscriptions after
pinned_fewer table subscriptions before after fewer are number has = are number (fewer number has)

-- a file that does not count as pinned has other rows
pub pinned_put : (old new : TableState) (subscriptions : List Subscription) (pinned : List ℕ) (number : ℕ) (next : KeptFile) → new.files ≡ insert old.files number next → new.next_file ≡ old.next_file
    → is_among number pinned ≡ false → ArePinned old subscriptions pinned → ArePinned new subscriptions pinned
pinned_put old new subscriptions pinned number next put same free are other has =
    let under = (are other has).0 in (
      omega arith,
      λ file at. elim (cases_eq other number) [
        | inl here ↦ absurd (true≢false (sym (subst (λ n. is_among n pinned ≡ true) here has) ∙ free))
        | inr differs ↦ (are other has).1 file (sym ((λ i. get (put i) other) ∙ put_other old.files number next other differs) ∙ at)
      ],
    )

-- a file that keeps its rows has another base
pub pinned_raised : (old new : TableState) (subscriptions : List Subscription) (pinned : List ℕ) (number change : ℕ) (kept next : KeptFile) → get old.files number ≡ Some kept → IsRaised change kept next
    → new.files ≡ insert old.files number next → new.next_file ≡ old.next_file → ArePinned old subscriptions pinned → ArePinned new subscriptions pinned
pinned_raised old new subscriptions pinned number change kept next here raised put same are other has =
    let under = (are other has).0 in (
      omega arith,
      λ file at. elim (cases_eq other number) [
        | inl e ↦
            let is : file ≡ next = one_value (subst (λ n. get new.files n ≡ Some file) e at) ((λ i. get (put i) number) ∙ put_same old.files number next) in
            let rows : file.content.rows ≡ kept.content.rows = ap (λ (f : KeptFile). f.content.rows) is ∙ raised.rows in
            subst (λ rs. is_pinned subscriptions other rs ≡ true) (sym rows) ((are other has).1 kept (subst (λ n. get old.files n ≡ Some kept) (sym e) here))
        | inr differs ↦ (are other has).1 file (sym ((λ i. get (put i) other) ∙ put_other old.files number next other differs) ∙ at)
      ],
    )

-- rows none of which is above a number
none_above_it : (n : ℕ) (rows : List SignedRow) → list_any (λ (r : SignedRow). nat_lt n r.number) rows ≡ false → AllByRecursion (λ r. r.number ≤ n) rows
none_above_it n [] none = tt
none_above_it n (r ∷ rows) none =
    let parts = or_parts (nat_lt n r.number) (list_any (λ (s : SignedRow). nat_lt n s.number) rows) none in
    (ltb-false n r.number parts.0, none_above_it n rows parts.1)

-- the last number, where it is above the base, is that of a row
pub last_leaves : (file : FileState) (last : ℕ) → IsLast file last → file.base < last → LeavesBehind last file.rows
last_leaves file last is above noted under =
    elim (list_any (λ (r : SignedRow). nat_lt noted r.number) file.rows) as (λ t. list_any (λ (r : SignedRow). nat_lt noted r.number) file.rows ≡ t → t ≡ true) [
      | true ↦ λ _. refl
      | false ↦ λ none.
          let low = none_above_it noted file.rows none in
          elim (cases_lt noted file.base) [
            | inl less ↦
                let most = is.least file.base (omega arith) (each_leads (λ r. r.number ≤ noted) (λ r. r.number ≤ file.base) (λ r few. omega arith) file.rows low) in
                absurd (omega arith)
            | inr no_less ↦ let most = is.least noted no_less low in absurd (omega arith)
          ]
    ] refl

all_three : (a b c : Bool) → a ≡ true → b ≡ true → c ≡ true → (a && b && c) ≡ true
all_three a b c p q r i = p i && q i && r i

swapped : (a b : ℕ) → nat_eq a b ≡ nat_eq b a
swapped a b = grind (arith, nat_tests)

-- a timer with a file that is behind rows of the file pins it
module _ (file install : ℕ) (rows : List SignedRow) (m : Subscription) (behind : is_behind rows m.noted ≡ true) where
  -- whether it is a timer with the file, and of the install number
  abbrev is_it : Subscription → Bool
  is_it k = is_timer_of (file ∷ []) k && nat_eq install k.install

  pins_here : is_timer_of (file ∷ []) m ≡ true → pins file rows m ≡ true
  pins_here timer =
      let parts = and_parts (not (nat_eq m.timing.every 0)) (nat_eq m.file.0 file || false) timer in
      all_three (not (nat_eq m.timing.every 0)) (nat_eq file m.file.0) (is_behind rows m.noted) parts.0 (swapped file m.file.0 ∙ sym (or-false (nat_eq m.file.0 file)) ∙ parts.1) behind

  timer_pins : (subscriptions : List Subscription) → InstallsRise subscriptions → list_any is_it subscriptions ≡ true → find (is_of install) subscriptions ≡ Some m → is_pinned subscriptions file rows ≡ true
  timer_pins [] rise has found = has
  timer_pins (k ∷ subscriptions) rise has found =
      elim (is_of install k) as (λ t. is_of install k ≡ t → cond t (Some k) (find (is_of install) subscriptions) ≡ Some m → is_pinned (k ∷ subscriptions) file rows ≡ true) [
        | true ↦ λ here q.
            let same : k ≡ m = grind arith in
            let none : list_any is_it subscriptions ≡ false =
            none_passes is_it subscriptions
            (each_leads (λ n. is_of install n ≡ false) (λ n. is_it n ≡ false) (λ n e. and_right (is_timer_of (file ∷ []) n) (nat_eq install n.install) (swapped install n.install ∙ e)) subscriptions (none_above install k subscriptions here rise.0)) in
            let one : is_it k ≡ true = sym (or-false (is_it k)) ∙ (λ i. is_it k || sym none i) ∙ has in
            let timer : is_timer_of (file ∷ []) m ≡ true = sym (ap (is_timer_of (file ∷ [])) same) ∙ (and_parts (is_timer_of (file ∷ []) k) (nat_eq install k.install) one).0 in
            λ i. (ap (pins file rows) same ∙ pins_here timer) i || list_any (pins file rows) subscriptions
        | false ↦ λ other q.
            let less : is_it k ≡ false = and_right (is_timer_of (file ∷ []) k) (nat_eq install k.install) (swapped install k.install ∙ other) in
            let rest : list_any is_it subscriptions ≡ true = (λ i. sym less i || list_any is_it subscriptions) ∙ has in
            (λ i. pins file rows k || timer_pins subscriptions rise.1 rest q i) ∙ or-true (pins file rows k)
      ] refl found

-- a timer of the file that was told up to a number below that of a row pins the file
pub told_pins : (file install last : ℕ) (rows : List SignedRow) (subscriptions : List Subscription) → InstallsRise subscriptions → list_any (nat_eq install) (timers_of (file ∷ []) subscriptions) ≡ true
    → IsToldBefore last install subscriptions → LeavesBehind last rows → is_pinned subscriptions file rows ≡ true
told_pins file install last rows subscriptions rise has told leaves =
    timer_pins file install rows told.subscription (ap (is_behind rows) told.told ∙ leaves told.noted told.before) subscriptions rise
    (sym (any_mapped (nat_eq install) (λ (m : Subscription). m.install) (is_timer_of (file ∷ [])) subscriptions) ∙ has) told.found
