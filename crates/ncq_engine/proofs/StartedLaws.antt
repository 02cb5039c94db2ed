-- Who is live, fires at changes and has started has fired: so a change is never a first firing, and nothing has to be written down at it.
use Rattle.std.proofs.Common.{◌≡◌, ℕ, ◌-◌, ◌%◌, ◌<◌, ◌≤◌, Bool, true, false, not, ◌&&◌, ◌==◌, cond, List, [], ◌∷◌, refl, sym, ◌∙◌, arith, true≢false, inl, inr}
use Rattle.std.specs.Prelude.{Option, Some, None, nat_le, if◌then◌else◌}
use Rattle.std.specs.List.{filter, AllByRecursion}
use Rattle.std.proofs.lemmas.Bool.{cases_lt}
use Rattle.std.proofs.lemmas.Bool.Decides.{nat_tests}
use Rattle.ncq_script.specs.declared.command.Command.{Command}
use Rattle.ncq_script.specs.declared.command.Command.TheVariants.{Declare, Delta, Batch, Create, Delete, Clock, Report, Malformed}
use Rattle.ncq_event.specs.declared.timing.Timing.{Timing}
use Rattle.ncq_event.specs.Instants.{due, is_expired, is_instant, is_past}
use Rattle.ncq_event.proofs.DueLaws.{due_none}
use Rattle.ncq_xmlql.specs.declared.model.Statement.{Statement}
use Rattle.ncq_engine.specs.History.{History, now, changes, creates, Subscription, created, is_named, live, start_of, timing_of}
use Rattle.ncq_source.specs.declared.change.Section.{Section}
use Rattle.ncq_engine.specs.Firing.{fires, has_news, is_installed, is_new, is_told_of, are_named, mark, marked, sources_of}
use Rattle.ncq_engine.specs.Marks.{first_mark, first_marked, noted}
use Rattle.ncq_engine.proofs.HistoryLaws.{installed}
use Rattle.ncq_engine.proofs.Lists.{each_both, each_filter, each_more, each_push}

-- it has a number of a first firing
abbrev pub HasFirst : Subscription → History → Type 0
HasFirst s h = (number : ℕ) × (first_mark s h ≡ Some number)

-- where it fires at changes and has started, it has fired
abbrev pub FiresFirst : History → Subscription → Type 0
FiresFirst h s = s.statement.every == 0 ≡ true → s.start ≤ now h → HasFirst s h

-- a firing is there from then on
first_of_fired : (s : Subscription) (h : History) (command : Command) (instant : ℕ) → fires s h command ≡ Some instant → HasFirst s (command ∷ h)
first_of_fired s h command instant f = by (first_mark s h) refl
  where
    by : (o : Option ℕ) → first_mark s h ≡ o → HasFirst s (command ∷ h)
    by None e = (changes (command ∷ h), λ i. first_marked (f i) (changes (command ∷ h)) (e i))
    by (Some number) e = (number, λ i. first_marked (f i) (changes (command ∷ h)) (e i))

first_stays : (s : Subscription) (h : History) (command : Command) → HasFirst s h → HasFirst s (command ∷ h)
first_stays s h command (number, e) = (number, λ i. first_marked (fires s h command) (changes (command ∷ h)) (e i))

-- what has never fired has no mark
no_mark : (s : Subscription) (h : History) → first_mark s h ≡ None → mark s h ≡ None
no_mark s [] e = refl
no_mark s (command ∷ h) e = by (no_mark s h) (fires s h command) refl (first_mark s h) refl
  where
    by : (first_mark s h ≡ None → mark s h ≡ None) → (f : Option ℕ) → fires s h command ≡ f → (o : Option ℕ) → first_mark s h ≡ o → mark s (command ∷ h) ≡ None
    by before None p None q = (λ i. marked (p i) (changes (command ∷ h)) (mark s h)) ∙ before q
    by before None p (Some number) q = absurd (let bad : Some number ≡ None = (λ i. first_marked (sym p i) (changes (command ∷ h)) (sym q i)) ∙ e in cc)
    by before (Some instant) p None q = absurd (let bad : Some (changes (command ∷ h)) ≡ None = (λ i. first_marked (sym p i) (changes (command ∷ h)) (sym q i)) ∙ e in cc)
    by before (Some instant) p (Some number) q = absurd (let bad : Some number ≡ None = (λ i. first_marked (sym p i) (changes (command ∷ h)) (sym q i)) ∙ e in cc)

-- a command that leaves the clock leaves this
stays_fired : (command : Command) (h : History) → now (command ∷ h) ≡ now h → (xs : List Subscription) → AllByRecursion (FiresFirst h) xs → AllByRecursion (FiresFirst (command ∷ h)) xs
stays_fired command h same = each_more (FiresFirst h) (FiresFirst (command ∷ h)) (λ s f based started. first_stays s h command (f based (omega (arith, same, started))))

-- a start that the clock passes is due, unless the subscription has expired then
start_due : (timing : Timing) (from to : ℕ) → timing.every == 0 ≡ true → from < timing.start → timing.start ≤ to → is_expired timing to ≡ false → (instant : ℕ) × (due timing from to ≡ Some instant)
start_due timing from to based after within fresh = by (due timing from to) refl
  where
    here : is_instant timing timing.start ≡ true
    here =
        let same : (timing.start == timing.start) ≡ true = grind (arith, nat_tests) in
        (λ i. if based i then timing.start == timing.start else nat_le timing.start timing.start && (timing.start - timing.start) % timing.every == 0) ∙ same

    unexpired : (o : Option ℕ) → is_past o to ≡ false → is_past o timing.start ≡ false
    unexpired None e = refl
    unexpired (Some expire) e = grind (arith, nat_tests, e, within)

    by : (o : Option ℕ) → due timing from to ≡ o → (instant : ℕ) × (due timing from to ≡ Some instant)
    by None e = absurd (due_none timing from to e timing.start (record { above = after; within = within; instant = here; unexpired = unexpired timing.expire fresh }))
    by (Some instant) e = (instant, e)

clock_fires : (instant : ℕ) (h : History) (s : Subscription) → s.install ≤ creates h → is_expired (timing_of s) instant ≡ false → FiresFirst h s → FiresFirst (Clock instant ∷ h) s
clock_fires instant h s before fresh f based started =
    elim (cases_lt (now h) s.start) [
      | inl later ↦ by_first later (first_mark s h) refl
      | inr early ↦ first_stays s h (Clock instant) (f based early)
    ]
  where
    by_first : now h < s.start → (o : Option ℕ) → first_mark s h ≡ o → HasFirst s (Clock instant ∷ h)
    by_first later (Some number) e = first_stays s h (Clock instant) (number, e)
    by_first later None e =
        let there : is_installed s h ≡ true = grind (arith, nat_tests, before) in
        let d = start_due (timing_of s) (now h) instant based later started fresh in
        first_of_fired s h (Clock instant) d.0
        ((λ i. if there i && has_news (no_mark s h e i) s.statement h then due (timing_of s) (now h) instant else None) ∙ d.1)

create_fires : (statement : Statement) (h : History) → FiresFirst (Create statement ∷ h) (created statement h)
create_fires statement h based started =
    let on : is_new (created statement h) h ≡ true = grind (arith, nat_tests) in
    let low = late statement.start in
    let same : (start_of statement.start (now h) == now h) ≡ true = grind (arith, nat_tests, low, started) in
    first_of_fired (created statement h) h (Create statement) (now h) (λ i. if on i && same i then Some (now h) else None)
  where
    late : (o : Option ℕ) → now h ≤ start_of o (now h)
    late None = omega arith
    late (Some written) = omega arith

-- what is kept passes the test
kept_pass : (P : Subscription → Type 0) (test : Subscription → Bool) (xs : List Subscription) → AllByRecursion (λ s. test s ≡ true → P s) xs → AllByRecursion P (filter test xs)
kept_pass P test [] h = tt
kept_pass P test (x ∷ xs) h =
    elim (test x) as (λ t. test x ≡ t → AllByRecursion P (cond t (x ∷ filter test xs) (filter test xs))) [
      | true ↦ λ e. (h.0 e, kept_pass P test xs h.1)
      | false ↦ λ e. kept_pass P test xs h.1
    ] refl

-- so it is of all that are live
pub all_fired : (h : History) → AllByRecursion (FiresFirst h) (live h)
all_fired [] = tt
all_fired ((Declare name root key) ∷ before) = stays_fired (Declare name root key) before refl (live before) (all_fired before)
all_fired ((Delta changed) ∷ before) = stays_fired (Delta changed) before refl (live before) (all_fired before)
all_fired ((Batch changed) ∷ before) = stays_fired (Batch changed) before refl (live before) (all_fired before)
all_fired ((Create statement) ∷ before) =
    each_push (FiresFirst (Create statement ∷ before)) (live before) (created statement before) (stays_fired (Create statement) before refl (live before) (all_fired before)) (create_fires statement before)
all_fired ((Delete name) ∷ before) = each_filter (FiresFirst (Delete name ∷ before)) (λ s. not (is_named name s)) (live before) (stays_fired (Delete name) before refl (live before) (all_fired before))
all_fired ((Clock instant) ∷ before) =
    kept_pass (FiresFirst (Clock instant ∷ before)) (λ s. not (is_expired (timing_of s) instant)) (live before)
    (each_both (λ s. s.install ≤ creates before) (FiresFirst before) (λ s. not (is_expired (timing_of s) instant) ≡ true → FiresFirst (Clock instant ∷ before) s)
    (λ s few f fresh. clock_fires instant before s few (off (is_expired (timing_of s) instant) fresh) f) (live before) (installed before) (all_fired before))
  where
    off : (b : Bool) → not b ≡ true → b ≡ false
    off true e = absurd (true≢false (sym e))
    off false e = refl
all_fired (Report ∷ before) = stays_fired Report before refl (live before) (all_fired before)
all_fired ((Malformed why) ∷ before) = stays_fired (Malformed why) before refl (live before) (all_fired before)

-- a change writes nothing down of who is live
pub delta_notes : (s : Subscription) (h : History) (changed : List Section) → FiresFirst h s → noted s (Delta changed ∷ h) ≡ noted s h
delta_notes s h changed f = by_kind (s.statement.every == 0) refl
  where
    quiet : s.statement.every == 0 ≡ false → fires s h (Delta changed) ≡ None
    quiet timer = (λ i. if is_installed s h && ((timer i && are_named changed (sources_of s.statement)) && nat_le s.start (now h)) then Some (now h) else None) ∙ none (is_installed s h)
      where
        none : (b : Bool) → (if b && false then Some (now h) else None) ≡ None
        none true = refl
        none false = refl

    stays : s.statement.every == 0 ≡ true → (told started : Bool) → is_told_of changed s h ≡ told → nat_le s.start (now h) ≡ started → first_mark s (Delta changed ∷ h) ≡ first_mark s h
    stays based told true t e =
        let fired = f based (let l : s.start ≤ now h = grind (arith, nat_tests, e) in l) in
        (λ i. first_marked (fires s h (Delta changed)) (changes (Delta changed ∷ h)) (fired.1 i)) ∙ sym fired.1
    stays based told false t e =
        let none : fires s h (Delta changed) ≡ None = (λ i. if is_installed s h && ((based i && are_named changed (sources_of s.statement)) && e i) then Some (now h) else None) ∙ nobody (is_installed s h) (are_named changed (sources_of s.statement)) in
        (λ i. first_marked (none i) (changes (Delta changed ∷ h)) (first_mark s h)) ∙ unmarked (first_mark s h)
      where
        nobody : (a b : Bool) → (if a && ((true && b) && false) then Some (now h) else None) ≡ None
        nobody true true = refl
        nobody true false = refl
        nobody false b = refl

        unmarked : (o : Option ℕ) → first_marked None (changes (Delta changed ∷ h)) o ≡ o
        unmarked None = refl
        unmarked (Some number) = refl

    by_kind : (b : Bool) → s.statement.every == 0 ≡ b → noted s (Delta changed ∷ h) ≡ noted s h
    by_kind true based =
        (λ i. if based i then first_mark s (Delta changed ∷ h) else mark s (Delta changed ∷ h))
        ∙ stays based (is_told_of changed s h) (nat_le s.start (now h)) refl refl
        ∙ (λ i. if sym based i then first_mark s h else mark s h)
    by_kind false timer =
        (λ i. if timer i then first_mark s (Delta changed ∷ h) else mark s (Delta changed ∷ h))
        ∙ (λ i. marked (quiet timer i) (changes (Delta changed ∷ h)) (mark s h))
        ∙ (λ i. if sym timer i then first_mark s h else mark s h)
