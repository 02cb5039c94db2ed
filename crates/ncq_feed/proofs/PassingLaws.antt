-- A change reaches every file, though only files that got rows pass it on.
use Rattle.std.proofs.Common.{◌≡◌, ℕ, zero, suc, ◌<◌, ◌≤◌, ◌+◌, Bool, true, false, List, [], ◌⊎◌, inl, inr, refl, sym, ap, ◌∙◌, subst, arith, true≢false}
use Rattle.std.proofs.lemmas.Bool.{cases_eq, cases_lt}
use Rattle.std.specs.List.{filter}
use Rattle.ncq_feed.specs.Passing.{Wiring, MissesBelow, IsPassedTo, Passes}

-- an empty list misses all rows, and a join gets nothing of rows that miss each other
pub record AreMisses {X : Type 0} (wiring : Wiring X) : Type 0 where
  pub no_lefts : (number : ℕ) → wiring.LeftMisses number []
  pub no_rights : (number : ℕ) → wiring.RightMisses number []
  pub none_left : (number : ℕ) (rights : List X) → wiring.BothMiss number [] rights
  pub none_right : (number : ℕ) (lefts : List X) → wiring.BothMiss number lefts []
  pub nothing : (number : ℕ) (lefts rights : List X) → wiring.LeftMisses number lefts → wiring.RightMisses number rights → wiring.BothMiss number lefts rights → wiring.JoinGets number lefts rights []

module _ {X : Type 0} (wiring : Wiring X) (selects_down : (number input : ℕ) (test : X → Bool) → wiring.Selects number input test → input < number)
    (joins_down : (number left right : ℕ) → wiring.Joins number left right → (left < number) × (right < number))
    (misses : AreMisses wiring) where
  not_true : (b : Bool) → (b ≡ true → ⊥) → b ≡ false
  not_true true h = absurd (h refl)
  not_true false h = refl

  module _ (next : ℕ) (pending : ℕ → Bool) (news : ℕ → List X) (at : IsPassedTo wiring next pending news) where
    -- the files before the first that is pending have nothing to pass on
    module _ (first : ℕ) (up : next ≤ first) (least : (number : ℕ) → pending number ≡ true → first ≤ number) where
      idle_before : (number : ℕ) → number < first → pending number ≡ false
      idle_before number less = not_true (pending number) (λ is. let l = least number is in absurd (omega arith))

      still : (number : ℕ) → next ≤ number → number < first → news number ≡ []
      still number above less = at.quiet number above (idle_before number less)

      missed : (number left right : ℕ) → MissesBelow wiring next number left right news → MissesBelow wiring first number left right news
      missed number left right before = record {
        lefts = λ less. elim (cases_lt left next) [ inl under ↦ before.lefts under | inr over ↦ subst (wiring.LeftMisses number) (sym (still left over less)) (misses.no_lefts number) ];
        rights = λ less. elim (cases_lt right next) [ inl under ↦ before.rights under | inr over ↦ subst (wiring.RightMisses number) (sym (still right over less)) (misses.no_rights number) ];
        both = λ less less'. elim (cases_lt left next) [
          | inl under ↦ elim (cases_lt right next) [
            | inl under' ↦ before.both under under'
            | inr over' ↦ subst (wiring.BothMiss number (news left)) (sym (still right over' less')) (misses.none_right number (news left))
          ]
          | inr over ↦ subst (λ x. wiring.BothMiss number x (news right)) (sym (still left over less)) (misses.none_left number (news right))
        ];
      }

      pub skip : IsPassedTo wiring first pending news
      skip = record {
        ahead = least;
        scans = at.scans;
        selected = λ number input test selects less. elim (cases_lt input next) [
          | inl under ↦ at.selected number input test selects under
          | inr over ↦ at.waiting number input test selects over ∙ sym (ap (filter test) (still input over less))
        ];
        waiting = λ number input test selects above. at.waiting number input test selects (omega arith);
        joined = λ number left right joins less. elim (cases_lt number next) [
          | inl under ↦ at.joined number left right joins under
          | inr over ↦
              let down = joins_down number left right joins in
              let l : left < first = let d = down.0 in omega arith in
              let r : right < first = let d = down.1 in omega arith in
              let m = missed number left right (at.calm number left right joins over (idle_before number less)) in
              subst (wiring.JoinGets number (news left) (news right)) (sym (at.unjoined number left right joins over))
              (misses.nothing number (news left) (news right) (m.lefts l) (m.rights r) (m.both l r))
        ];
        unjoined = λ number left right joins above. at.unjoined number left right joins (omega arith);
        quiet = λ number above idle. at.quiet number (omega arith) idle;
        calm = λ number left right joins above idle. missed number left right (at.calm number left right joins (omega arith) idle);
      }

    -- the first file passes its rows on, and is done
    module _ (pending' : ℕ → Bool) (news' : ℕ → List X) (passes : Passes wiring next pending news pending' news') where
      joined_below : (number left right : ℕ) → wiring.Joins number left right → number ≤ next → wiring.JoinGets number (news left) (news right) (news' number) → wiring.JoinGets number (news' left) (news' right) (news' number)
      joined_below number left right joins under gets =
          let down = joins_down number left right joins in
          subst (λ x. wiring.JoinGets number x (news' right) (news' number)) (sym (passes.below left (omega arith)))
          (subst (λ x. wiring.JoinGets number (news left) x (news' number)) (sym (passes.below right (omega arith))) gets)

      same_selected : (number input : ℕ) (test : X → Bool) → wiring.Selects number input test → input < next → news' number ≡ news number
      same_selected number input test selects less = elim (cases_lt number next) [
        | inl under ↦ passes.below number under
        | inr over ↦ elim (cases_eq number next) [
          | inl same ↦ subst (λ n. wiring.Selects n input test → news' n ≡ news n) (sym same) (passes.own input test) selects
          | inr differs ↦ passes.kept number input test selects less (omega arith)
        ]
      ]

      missed_more : (number left right : ℕ) → wiring.Joins number left right → pending' number ≡ false → MissesBelow wiring next number left right news → MissesBelow wiring (next + 1) number left right news'
      missed_more number left right joins idle before = record {
        lefts = λ less. elim (cases_eq left next) [
          | inl same ↦ (on_left same).0
          | inr differs ↦ let under : left < next = omega arith in subst (wiring.LeftMisses number) (sym (passes.below left under)) (before.lefts under)
        ];
        rights = λ less. elim (cases_eq right next) [
          | inl same ↦ (on_right same).0
          | inr differs ↦ let under : right < next = omega arith in subst (wiring.RightMisses number) (sym (passes.below right under)) (before.rights under)
        ];
        both = λ less less'. elim (cases_eq left next) [
          | inl same ↦ (on_left same).1
          | inr differs ↦ elim (cases_eq right next) [
            | inl same' ↦ (on_right same').1
            | inr differs' ↦
                let under : left < next = omega arith in
                let under' : right < next = omega arith in
                subst (λ x. wiring.BothMiss number x (news' right)) (sym (passes.below left under))
                (subst (wiring.BothMiss number (news left)) (sym (passes.below right under')) (before.both under under'))
          ]
        ];
      }
        where
          on_left : left ≡ next → wiring.LeftMisses number (news' left) × wiring.BothMiss number (news' left) (news' right)
          on_left same =
              subst (λ l. wiring.Joins number l right → wiring.LeftMisses number (news' l) × wiring.BothMiss number (news' l) (news' right)) (sym same)
              (λ j. passes.left_told number right j idle) joins

          on_right : right ≡ next → wiring.RightMisses number (news' right) × wiring.BothMiss number (news' left) (news' right)
          on_right same =
              subst (λ r. wiring.Joins number left r → wiring.RightMisses number (news' r) × wiring.BothMiss number (news' left) (news' r)) (sym same)
              (λ j. passes.right_told number left j idle) joins

      pub pass : IsPassedTo wiring (next + 1) pending' news'
      pass = record {
        ahead = λ number is. let l = passes.later number is in omega arith;
        scans = λ number scan. subst (wiring.ScanGets number) (sym (passes.scan number scan)) (at.scans number scan);
        selected = λ number input test selects less. elim (cases_eq input next) [
          | inl same ↦ passes.taken number test (subst (λ i. wiring.Selects number i test) same selects) ∙ ap (λ i. filter test (news' i)) (sym same)
          | inr differs ↦
              let under : input < next = omega arith in
              same_selected number input test selects under ∙ at.selected number input test selects under ∙ sym (ap (filter test) (passes.below input under))
        ];
        waiting = λ number input test selects above. passes.idle number input test selects (omega arith);
        joined = λ number left right joins less. elim (cases_eq number next) [
          | inl same ↦
              joined_below number left right joins (omega arith)
              (subst (λ n. wiring.Joins n left right → wiring.JoinGets n (news left) (news right) (news' n)) (sym same) (passes.join left right) joins)
          | inr differs ↦
              let under : number < next = omega arith in
              joined_below number left right joins (omega arith)
              (subst (λ x. wiring.JoinGets number (news left) (news right) x) (sym (passes.below number under)) (at.joined number left right joins under))
        ];
        unjoined = λ number left right joins above. passes.others number left right joins (omega arith) ∙ at.unjoined number left right joins (omega arith);
        quiet = λ number above idle. (passes.stays number (omega arith) idle).1;
        calm = λ number left right joins above idle.
            missed_more number left right joins idle (at.calm number left right joins (omega arith) (passes.stays number (omega arith) idle).0);
      }

    -- once nothing is pending, every file below the bound has its rows
    pub all_passed : (bound : ℕ) → next ≤ bound → ((number : ℕ) → pending number ≡ false) → IsPassedTo wiring bound pending news
    all_passed bound up idle = skip bound up (λ number is. absurd (true≢false (sym is ∙ idle number)))

-- where every file has its rows by those of its inputs, and scans, selections and joins keep what is right of rows, every file has the right ones
module _ {X : Type 0} (wiring : Wiring X) (selects_down : (number input : ℕ) (test : X → Bool) → wiring.Selects number input test → input < number)
    (joins_down : (number left right : ℕ) → wiring.Joins number left right → (left < number) × (right < number))
    (pending : ℕ → Bool) (news : ℕ → List X) (Right : ℕ → List X → Type 0) (bound : ℕ) (done : IsPassedTo wiring bound pending news)
    (of_scan : (number : ℕ) → wiring.IsScan number → wiring.ScanGets number (news number) → Right number (news number))
    (of_selection : (number input : ℕ) (test : X → Bool) → wiring.Selects number input test → Right input (news input) → Right number (filter test (news input)))
    (of_join : (number left right : ℕ) → wiring.Joins number left right → Right left (news left) → Right right (news right) → wiring.JoinGets number (news left) (news right) (news number) → Right number (news number))
    (Live : ℕ → Type 0)
    (kind : (number : ℕ) → Live number → wiring.IsScan number ⊎ (((input : ℕ) × (test : X → Bool) × wiring.Selects number input test × Live input) ⊎ ((left : ℕ) × (right : ℕ) × wiring.Joins number left right × Live left × Live right))) where
  reached_within : (fuel number : ℕ) → number < fuel → Live number → number < bound → Right number (news number)
  reached_within zero number less live under = absurd (omega arith)
  reached_within (suc fuel) number less live under = elim (kind number live) [
    | inl scan ↦ of_scan number scan (done.scans number scan)
    | inr reads ↦ elim reads [
      | inl selection ↦
          let down = selects_down number selection.0 selection.1 selection.2 in
          subst (Right number) (sym (done.selected number selection.0 selection.1 selection.2 (omega arith)))
          (of_selection number selection.0 selection.1 selection.2 (reached_within fuel selection.0 (omega arith) selection.3 (omega arith)))
      | inr join ↦
          let down = joins_down number join.0 join.1 join.2 in
          of_join number join.0 join.1 join.2 (reached_within fuel join.0 (let d = down.0 in omega arith) join.3 (let d = down.0 in omega arith))
          (reached_within fuel join.1 (let d = down.1 in omega arith) join.4 (let d = down.1 in omega arith)) (done.joined number join.0 join.1 join.2 under)
    ]
  ]

  pub reached : (number : ℕ) → Live number → number < bound → Right number (news number)
  reached number live under = reached_within (number + 1) number (omega arith) live under
