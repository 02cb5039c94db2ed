-- A change-based subscription's mark is the greatest of the number at its first firing and the last changes of its sources.
use Rattle.std.proofs.Common.{◌≡◌, ℕ, ◌<◌, ◌≤◌, max, Bool, true, false, ◌&&◌, ◌||◌, ◌==◌, List, [], ◌∷◌, refl, sym, ◌∙◌, ap, arith, true≢false, inl, inr}
use Rattle.std.specs.Prelude.{Option, Some, None, nat_le, nat_lt, if◌then◌else◌}
use Rattle.std.specs.Option.{option_map}
use Rattle.std.proofs.lemmas.Bool.Decides.{nat_tests}
use Rattle.std.specs.List.{list_any}
use Rattle.std.specs.Str.{bytes_eq}
use Rattle.ncq_base.proofs.Tests.{both_true}
use Rattle.ncq_script.specs.declared.command.Command.{Command}
use Rattle.ncq_script.specs.declared.command.Command.TheVariants.{Declare, Delta, Batch, Create, Delete, Clock, Report, Malformed}
use Rattle.ncq_event.specs.Instants.{due}
use Rattle.std.proofs.lemmas.Bool.{cases_lt}
use Rattle.ncq_event.proofs.DueLaws.{due_some, early}
use Rattle.ncq_engine.specs.History.{History, moved, now, is_delta_of, changes, creates, last_change, Subscription, timing_of}
use Rattle.ncq_source.specs.Sections.{is_named}
use Rattle.ncq_source.specs.declared.change.Section.{Section}
use Rattle.ncq_engine.specs.Firing.{are_named, sources_of, is_installed, is_new, has_news, is_told_of, fires_at, marked, mark, fires}
use Rattle.ncq_engine.specs.Marks.{first_marked, first_mark, latest_change, noted, mark_from, IsRising}
use Rattle.ncq_engine.proofs.HistoryLaws.{key_is, key_itself, not_yet, creates_grow}

-- no last change is above the number of changes
pub last_few : (name : List ℕ) (history : History) → last_change name history ≤ changes history
last_few name [] = omega arith
last_few name (command ∷ before) =
    let few = last_few name before in
    elim (is_delta_of name command) as (λ t. (if t then changes (command ∷ before) else last_change name before) ≤ changes (command ∷ before)) [ true ↦ omega arith | false ↦ omega arith ]

pub latest_few : (names : List (List ℕ)) (history : History) → latest_change names history ≤ changes history
latest_few [] history = omega arith
latest_few (name ∷ more) history = let a = last_few name history in let b = latest_few more history in omega arith

-- a last change never falls
last_grows : (name : List ℕ) (command : Command) (before : History) → last_change name before ≤ last_change name (command ∷ before)
last_grows name command before =
    let few = last_few name before in
    elim (is_delta_of name command) as (λ t. last_change name before ≤ (if t then changes (command ∷ before) else last_change name before)) [ true ↦ omega arith | false ↦ omega arith ]

latest_grows : (names : List (List ℕ)) (command : Command) (before : History) → latest_change names before ≤ latest_change names (command ∷ before)
latest_grows [] command before = omega arith
latest_grows (name ∷ more) command before = let a = last_grows name command before in let b = latest_grows more command before in omega arith

-- a command that is no delta of them leaves them
latest_stays : (names : List (List ℕ)) (command : Command) (before : History) → ((name : List ℕ) → is_delta_of name command ≡ true → list_any (bytes_eq name) names ≡ true → ⊥) → latest_change names (command ∷ before) ≡ latest_change names before
latest_stays [] command before apart = refl
latest_stays (name ∷ more) command before apart =
    let rest = latest_stays more command before (λ n d h. apart n d (elim (bytes_eq n name) as (λ t. (t || list_any (bytes_eq n) more) ≡ true) [ true ↦ refl | false ↦ h ])) in
    elim (is_delta_of name command) as (λ t. is_delta_of name command ≡ t → max (if t then changes (command ∷ before) else last_change name before) (latest_change more (command ∷ before)) ≡ max (last_change name before) (latest_change more before)) [
      | true ↦ λ p. absurd (apart name p (ap (λ (t : Bool). t || list_any (bytes_eq name) more) (key_itself name)))
      | false ↦ λ p. ap (max (last_change name before)) rest
    ] refl

-- a change of one of them makes the latest
latest_now : (names : List (List ℕ)) (command : Command) (before : History) → list_any (λ name. is_delta_of name command) names ≡ true → latest_change names (command ∷ before) ≡ changes (command ∷ before)
latest_now [] command before h = absurd (true≢false (sym h))
latest_now (name ∷ more) command before h =
    let few = latest_few more (command ∷ before) in
    elim (is_delta_of name command) as (λ t. (t || list_any (λ name. is_delta_of name command) more) ≡ true → max (if t then changes (command ∷ before) else last_change name before) (latest_change more (command ∷ before)) ≡ changes (command ∷ before)) [
      | true ↦ λ e. omega arith
      | false ↦ λ e.
          let rest = latest_now more command before e in
          let one = last_few name before in
          omega arith
    ] h

-- what is so of a name is so of some of the names that it is among
pub any_named : (test : List ℕ → Bool) (name : List ℕ) (names : List (List ℕ)) → test name ≡ true → list_any (bytes_eq name) names ≡ true → list_any test names ≡ true
any_named test name [] own h = absurd (true≢false (sym h))
any_named test name (x ∷ names) own h =
    elim (bytes_eq name x) as (λ t. bytes_eq name x ≡ t → (t || list_any (bytes_eq name) names) ≡ true → (test x || list_any test names) ≡ true) [
      | true ↦ λ e _. (λ i. (ap test (sym (key_is name x e)) ∙ own) i || list_any test names)
      | false ↦ λ e rest. elim (test x) as (λ t. (t || list_any test names) ≡ true) [ true ↦ refl | false ↦ any_named test name names own rest ]
    ] refl h

-- nothing has changed since the greatest of the last changes
no_news : (names : List (List ℕ)) (number : ℕ) (history : History) → latest_change names history ≤ number → list_any (λ source. nat_lt number (last_change source history)) names ≡ false
no_news [] number history h = refl
no_news (name ∷ more) number history h =
    let quiet : nat_lt number (last_change name history) ≡ false = grind (arith, nat_tests) in
    λ i. quiet i || no_news more number history (omega arith) i

-- what a command does to the two numbers, where they agree before it: it fires for the first time, or at a delta of one of the sources, or neither fires nor changes a source
module _ (s : Subscription) (command : Command) (before : History) where
  abbrev names : List (List ℕ)
  names = sources_of s.statement

  abbrev greatest : Option ℕ → History → Option ℕ
  greatest note history = option_map (λ first. max first (latest_change (sources_of s.statement) history)) note

  -- the three ways
  pub data Way : Type 0 where
    First : first_mark s before ≡ None → (instant : ℕ) → fires s before command ≡ Some instant → Way
    Changed : (instant : ℕ) → fires s before command ≡ Some instant → latest_change (sources_of s.statement) (command ∷ before) ≡ changes (command ∷ before) → Way
    Quiet : fires s before command ≡ None → ((first : ℕ) → first_mark s before ≡ Some first → latest_change (sources_of s.statement) (command ∷ before) ≡ latest_change (sources_of s.statement) before) → Way

  -- no first number is above the number of changes
  step : ((first : ℕ) → first_mark s before ≡ Some first → first ≤ changes before) → Way → mark s before ≡ greatest (first_mark s before) before → mark s (command ∷ before) ≡ greatest (first_mark s (command ∷ before)) (command ∷ before)
  step few (First none instant f) e =
      let bound = latest_few (sources_of s.statement) (command ∷ before) in
      (λ i. marked (f i) (changes (command ∷ before)) (mark s before))
      ∙ ap Some (let m : changes (command ∷ before) ≡ max (changes (command ∷ before)) (latest_change (sources_of s.statement) (command ∷ before)) = omega arith in m)
      ∙ sym (λ i. greatest (first_marked (f i) (changes (command ∷ before)) (none i)) (command ∷ before))
  step few (Changed instant f new) e =
      (λ i. marked (f i) (changes (command ∷ before)) (mark s before))
      ∙ elim (first_mark s before) as (λ o. first_mark s before ≡ o → Some (changes (command ∷ before)) ≡ greatest (first_marked (Some instant) (changes (command ∷ before)) o) (command ∷ before)) [
        | None ↦ λ p. ap Some (let m : changes (command ∷ before) ≡ max (changes (command ∷ before)) (latest_change (sources_of s.statement) (command ∷ before)) = omega arith in m)
        | Some first ↦ λ p.
            let below = few first p in
            ap Some (let m : changes (command ∷ before) ≡ max first (latest_change (sources_of s.statement) (command ∷ before)) = omega arith in m)
      ] refl
      ∙ sym (λ i. greatest (first_marked (f i) (changes (command ∷ before)) (first_mark s before)) (command ∷ before))
  step few (Quiet f stays) e =
      (λ i. marked (f i) (changes (command ∷ before)) (mark s before))
      ∙ e
      ∙ elim (first_mark s before) as (λ o. first_mark s before ≡ o → greatest o before ≡ greatest (first_marked None (changes (command ∷ before)) o) (command ∷ before)) [
        | None ↦ λ p. refl
        | Some first ↦ λ p. ap Some (ap (max first) (sym (stays first p)))
      ] refl
      ∙ sym (λ i. greatest (first_marked (f i) (changes (command ∷ before)) (first_mark s before)) (command ∷ before))

-- a subscription that is not there yet has not fired
pub never_first : (s : Subscription) (history : History) → creates history < s.install → first_mark s history ≡ None
never_first s [] later = refl
never_first s (command ∷ before) later =
    let sooner : creates before < s.install = let grow = creates_grow command before in omega arith in
    λ i. first_marked (not_yet (mark s before) s command before later i) (changes (command ∷ before)) (never_first s before sooner i)

-- the first number is one of the changes so far
first_few : (s : Subscription) (history : History) (first : ℕ) → first_mark s history ≡ Some first → first ≤ changes history
first_few s [] first h = cc
first_few s (command ∷ before) first h =
    elim (first_mark s before) as (λ o. first_mark s before ≡ o → first_marked (fires s before command) (changes (command ∷ before)) o ≡ Some first → first ≤ changes (command ∷ before)) [
      | None ↦ λ p e.
          elim (fires s before command) as (λ f. marked f (changes (command ∷ before)) None ≡ Some first → first ≤ changes (command ∷ before)) [
            | None ↦ λ x. cc
            | Some instant ↦ λ x. let same : changes (command ∷ before) ≡ first = cc in omega arith
          ] e
      | Some old ↦ λ p e. let few = first_few s before old p in let same : old ≡ first = cc in omega arith
    ] refl h

-- what fires has started
fires_started : (m : Option ℕ) (s : Subscription) (command : Command) (before : History) (d : ℕ) → fires_at m s before command ≡ Some d → s.start ≤ moved command (now before)
fires_started m s (Declare name root key) before d h = cc
fires_started m s (Delta changed) before d h =
    elim (is_installed s before && is_told_of changed s before) as (λ t. is_installed s before && is_told_of changed s before ≡ t → (if t then Some (now before) else None) ≡ Some d → s.start ≤ now before) [
      | true ↦ λ p e.
          let a = both_true (is_installed s before) (is_told_of changed s before) p in
          let b = both_true (s.statement.every == 0 && are_named changed (sources_of s.statement)) (nat_le s.start (now before)) a.1 in
          let t = b.1 in
          grind (arith, nat_tests)
      | false ↦ λ p e. cc
    ] refl h
fires_started m s (Batch changed) before d h =
    elim (is_installed s before && is_told_of changed s before) as (λ t. is_installed s before && is_told_of changed s before ≡ t → (if t then Some (now before) else None) ≡ Some d → s.start ≤ now before) [
      | true ↦ λ p e.
          let a = both_true (is_installed s before) (is_told_of changed s before) p in
          let b = both_true (s.statement.every == 0 && are_named changed (sources_of s.statement)) (nat_le s.start (now before)) a.1 in
          let t = b.1 in
          grind (arith, nat_tests)
      | false ↦ λ p e. cc
    ] refl h
fires_started m s (Create statement) before d h =
    elim (is_new s before && s.start == now before) as (λ t. is_new s before && s.start == now before ≡ t → (if t then Some (now before) else None) ≡ Some d → s.start ≤ now before) [
      | true ↦ λ p e. let a = both_true (is_new s before) (s.start == now before) p in let t = a.1 in grind (arith, nat_tests)
      | false ↦ λ p e. cc
    ] refl h
fires_started m s (Delete name) before d h = cc
fires_started m s (Clock instant) before d h =
    elim (is_installed s before && has_news m s.statement before) as (λ t. (if t then due (timing_of s) (now before) instant else None) ≡ Some d → s.start ≤ instant) [
      | true ↦ λ e.
          let least = due_some (timing_of s) (now before) instant d e in
          elim (cases_lt d s.start) [
            | inl less ↦ absurd (true≢false (sym least.due.instant ∙ early (timing_of s) d less))
            | inr more ↦ let within = least.due.within in omega arith
          ]
      | false ↦ λ e. cc
    ] h
fires_started m s Report before d h = cc
fires_started m s (Malformed why) before d h = cc

first_started : (s : Subscription) (history : History) → IsRising history → (first : ℕ) → first_mark s history ≡ Some first → s.start ≤ now history
first_started s [] rising first h = cc
first_started s (command ∷ before) rising first h =
    elim (first_mark s before) as (λ o. first_mark s before ≡ o → first_marked (fires s before command) (changes (command ∷ before)) o ≡ Some first → s.start ≤ now (command ∷ before)) [
      | None ↦ λ p e.
          elim (fires s before command) as (λ f. fires s before command ≡ f → marked f (changes (command ∷ before)) None ≡ Some first → s.start ≤ now (command ∷ before)) [
            | None ↦ λ q x. cc
            | Some instant ↦ λ q x. fires_started (mark s before) s command before instant q
          ] refl e
      | Some old ↦ λ p e. let started = first_started s before rising.1 old p in let up = rising.0 in omega arith
    ] refl h

-- the way of each command, for a change-based subscription
module _ (s : Subscription) (based : s.statement.every == 0 ≡ true) (before : History) where
  abbrev stays : (command : Command) → ((name : List ℕ) → is_delta_of name command ≡ true → list_any (bytes_eq name) (sources_of s.statement) ≡ true → ⊥) → (first : ℕ) → first_mark s before ≡ Some first
      → latest_change (sources_of s.statement) (command ∷ before) ≡ latest_change (sources_of s.statement) before
  stays command apart first p = latest_stays (sources_of s.statement) command before apart

  -- one that fired is there, and has started
  there : (first : ℕ) → first_mark s before ≡ Some first → is_installed s before ≡ true
  there first p =
      elim (cases_lt (creates before) s.install) [
        | inl later ↦ let none = never_first s before later in cc
        | inr few ↦ grind (arith, nat_tests)
      ]

  -- the command is a change of these sections
  module _ (command : Command) (changed : List Section) (names : (name : List ℕ) → is_delta_of name command ≡ is_named name changed)
      (firing : fires s before command ≡ (if is_installed s before && is_told_of changed s before then Some (now before) else None)) where
    delta_apart : IsRising before → is_installed s before && is_told_of changed s before ≡ false → (first : ℕ) → first_mark s before ≡ Some first
        → (name : List ℕ) → is_delta_of name command ≡ true → list_any (bytes_eq name) (sources_of s.statement) ≡ true → ⊥
    delta_apart rising quiet first p name d h =
        let started = first_started s before rising first p in
        let late : nat_le s.start (now before) ≡ true = grind (arith, nat_tests) in
        let asked : are_named changed (sources_of s.statement) ≡ true = any_named (λ source. is_named source changed) name (sources_of s.statement) (sym (names name) ∙ d) h in
        true≢false (sym (λ i. there first p i && ((based i && asked i) && late i)) ∙ quiet)

    way_delta : IsRising before → Way s command before
    way_delta rising =
        elim (is_installed s before && is_told_of changed s before) as (λ t. is_installed s before && is_told_of changed s before ≡ t → Way s command before) [
          | true ↦ λ p.
              let a = both_true (is_installed s before) (is_told_of changed s before) p in
              let b = both_true (s.statement.every == 0 && are_named changed (sources_of s.statement)) (nat_le s.start (now before)) a.1 in
              let c = both_true (s.statement.every == 0) (are_named changed (sources_of s.statement)) b.0 in
              Changed (now before) (firing ∙ (λ i. if p i then Some (now before) else None))
              (latest_now (sources_of s.statement) command before ((λ i. list_any (λ name. names name i) (sources_of s.statement)) ∙ c.1))
          | false ↦ λ p. Quiet (firing ∙ (λ i. if p i then Some (now before) else None)) (λ first q. stays command (delta_apart rising p first q) first q)
        ] refl

  way_create : (statement : _) → Way s (Create statement) before
  way_create statement =
      elim (is_new s before && s.start == now before) as (λ t. is_new s before && s.start == now before ≡ t → Way s (Create statement) before) [
        | true ↦ λ p.
            let a = both_true (is_new s before) (s.start == now before) p in
            let new = a.0 in
            let later : creates before < s.install = grind (arith, nat_tests) in
            First (never_first s before later) (now before) (λ i. if p i then Some (now before) else None)
        | false ↦ λ p. Quiet (λ i. if p i then Some (now before) else None) (stays (Create statement) (λ name d h. true≢false (sym d)))
      ] refl

  way_clock : (instant : ℕ) → mark s before ≡ greatest s (Clock instant) before (first_mark s before) before → Way s (Clock instant) before
  way_clock instant e =
      elim (first_mark s before) as (λ o. first_mark s before ≡ o → Way s (Clock instant) before) [
        | None ↦ λ p.
            elim (fires s before (Clock instant)) as (λ f. fires s before (Clock instant) ≡ f → Way s (Clock instant) before) [
              | None ↦ λ q. Quiet q (stays (Clock instant) (λ name d h. true≢false (sym d)))
              | Some d ↦ λ q. First p d q
            ] refl
        | Some first ↦ λ p.
            let m : mark s before ≡ Some (max first (latest_change (sources_of s.statement) before)) = e ∙ ap (λ o. greatest s (Clock instant) before o before) p in
            let quiet : has_news (mark s before) s.statement before ≡ false = ap (λ o. has_news o s.statement before) m ∙ no_news (sources_of s.statement) (max first (latest_change (sources_of s.statement) before)) before (omega arith) in
            Quiet (λ i. if there first p i && quiet i then due (timing_of s) (now before) instant else None) (stays (Clock instant) (λ name d h. true≢false (sym d)))
      ] refl

  way : (command : Command) → IsRising before → mark s before ≡ greatest s command before (first_mark s before) before → Way s command before
  way (Declare name root key) rising e = Quiet refl (stays (Declare name root key) (λ n d h. true≢false (sym d)))
  way (Delta changed) rising e = way_delta (Delta changed) changed (λ name. refl) refl rising
  way (Batch changed) rising e = way_delta (Batch changed) changed (λ name. refl) refl rising
  way (Create statement) rising e = way_create statement
  way (Delete name) rising e = Quiet refl (stays (Delete name) (λ n d h. true≢false (sym d)))
  way (Clock instant) rising e = way_clock instant e
  way Report rising e = Quiet refl (stays Report (λ n d h. true≢false (sym d)))
  way (Malformed why) rising e = Quiet refl (stays (Malformed why) (λ n d h. true≢false (sym d)))

-- the mark of a change-based subscription
based_mark : (s : Subscription) → s.statement.every == 0 ≡ true → (history : History) → IsRising history
    → mark s history ≡ option_map (λ first. max first (latest_change (sources_of s.statement) history)) (first_mark s history)
based_mark s based [] rising = refl
based_mark s based (command ∷ before) rising =
    let e = based_mark s based before rising.1 in
    step s command before (first_few s before) (way s based before command rising.1 e) e

pub marks_follow : (s : Subscription) (history : History) → IsRising history
    → mark s history ≡ mark_from (noted s history) s history
marks_follow s history rising =
    elim (s.statement.every == 0) as (λ t. s.statement.every == 0 ≡ t → mark s history ≡ (if t then option_map (λ first. max first (latest_change (sources_of s.statement) history)) (if t then first_mark s history else mark s history) else (if t then first_mark s history else mark s history))) [
      | true ↦ λ p. based_mark s p history rising
      | false ↦ λ p. refl
    ] refl

-- a clock does not fire one that fires at changes and has fired
pub clock_quiet : (s : Subscription) (h : History) (instant : ℕ) → s.statement.every == 0 ≡ true → IsRising h → (first : ℕ) → first_mark s h ≡ Some first → fires s h (Clock instant) ≡ None
clock_quiet s h instant based rising first p =
    let m : mark s h ≡ Some (max first (latest_change (sources_of s.statement) h)) = based_mark s based h rising ∙ ap (λ o. option_map (λ first. max first (latest_change (sources_of s.statement) h)) o) p in
    let quiet : has_news (mark s h) s.statement h ≡ false =
    ap (λ o. has_news o s.statement h) m ∙ no_news (sources_of s.statement) (max first (latest_change (sources_of s.statement) h)) h (omega arith) in
    λ i. if there s based h first p i && quiet i then due (timing_of s) (now h) instant else None
