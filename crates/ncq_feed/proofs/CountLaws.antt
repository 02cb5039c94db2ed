-- How many signed rows of a change files have, and how many they are to have.
use Rattle.std.proofs.Common.{◌≡◌, ℕ, ◌<◌, ◌≤◌, ◌+◌, ◌-◌, Bool, true, false, cond, List, [], ◌∷◌, length, length-append, Some, None, Option, inl, inr, refl, sym, ap, ◌∙◌, subst, arith}
use Rattle.std.specs.List.{filter}
use Rattle.std.specs.Option.{option_map}
use Rattle.std.specs.FinMap.{get}
use Rattle.std.proofs.lemmas.Bool.{cases_eq, cases_lt}
use Rattle.ncq_plan.specs.Totals.{SignedRow as PlainRow, SameChanges, plus_total, minus_total}
use Rattle.ncq_midfile.specs.declared.signed.SignedRow.{SignedRow}
use Rattle.ncq_delta.specs.Leads.{unnumbered}
use Rattle.ncq_shelf.specs.KeptFiles.{KeptFile, Files}
use Rattle.ncq_shelf.specs.Stands.{IsThere}
use Rattle.ncq_shelf.specs.Contents.{sum_over, with_more}
use Rattle.ncq_shelf.specs.Readers.{SelectsFrom}
use Rattle.ncq_feed.specs.Feeds.{delta_by, feed_work}
use Rattle.ncq_feed.specs.Passing.{IsPassedTo}
use Rattle.ncq_feed.specs.Runs.{Run, IsUnderWay, ArePassed, AreRight, wiring_of, is_among, news_of, news_in, due_of, due, count_in, all_due, all_in}
use Rattle.ncq_feed.specs.JoinFeeds.{IsJoined}
use Rattle.ncq_feed.specs.Turns.{IsPassedDown}
use Rattle.ncq_feed.proofs.WiringLaws.{kind, selects_down, joins_down, scan_no_join, join_no_selection, selects_or_not, selection_there}
use Rattle.ncq_feed.proofs.FedLaws.{fed, of_selection, of_join}
use Rattle.ncq_feed.proofs.SumLaws.{sum_same, sum_more, sum_raised, sum_missing, sum_by_file, there_only}

one_each : (b : Bool) (p m : ℕ) → cond b 1 0 + p + (cond b 0 1 + m) ≡ 1 + (p + m)
one_each true p m = omega arith
one_each false p m = omega arith

both_signs : (rows : List PlainRow) → plus_total (λ r. 1) rows + minus_total (λ r. 1) rows ≡ length rows
both_signs [] = refl
both_signs (r ∷ rows) = one_each r.plus (plus_total (λ r. 1) rows) (minus_total (λ r. 1) rows) ∙ (let e = both_signs rows in omega arith)

plain_length : (rows : List SignedRow) → length (unnumbered rows) ≡ length rows
plain_length [] = refl
plain_length (r ∷ rows) = let e = plain_length rows in omega arith

-- the same changes are as many
pub same_length : (rows : List SignedRow) (delta : List PlainRow) → SameChanges (unnumbered rows) delta → length rows ≡ length delta
same_length rows delta same =
    let p = same.plus (λ r. 1) in
    let m = same.minus (λ r. 1) in
    let a = both_signs (unnumbered rows) in
    let b = both_signs delta in
    let l = plain_length rows in
    omega arith

module _ (run : Run) where
  -- what is right is as much as is due
  pub right_count : (number : ℕ) (file : KeptFile) → get run.files number ≡ Some file → (rows : List SignedRow) → AreRight run number rows → length rows ≡ due run number
  right_count number file at rows right = same_length rows (delta_by run.store run.change file.expr) (right file at) ∙ ap (due_of run) (sym at)

  pub all_due_is : all_due run ≡ feed_work run.store run.change run.files
  all_due_is = sum_by_file run.files (due run) (λ file. length (delta_by run.store run.change file.expr)) (λ number file at. ap (due_of run) at)

  module _ (files : Files) (under : IsUnderWay run files) where
    same_there : (o : Option KeptFile) (f : KeptFile → KeptFile) → there_only (option_map f o) ≡ there_only o
    same_there None f = refl
    same_there (Some file) f = refl

    -- the files have the numbers that they had
    pub sums_are : (f : ℕ → ℕ) → sum_over files f ≡ sum_over run.files f
    sums_are f = sum_same files run.files (λ n. ap there_only (under.grown n) ∙ same_there (get run.files n) _) f

    abbrev news : ℕ → List SignedRow
    news number = news_in run.store.changes files number

    none_count : (rows : List SignedRow) (n : ℕ) → rows ≡ [] → length rows ≤ n
    none_count rows n none = let e : length rows ≡ 0 = ap length none in omega arith

    pub nowhere : (number : ℕ) → get run.files number ≡ None → news number ≡ []
    nowhere number none = ap (news_of run.store.changes) (under.grown number ∙ ap (option_map (λ file. with_more file (news number))) none)

    module _ (next : ℕ) (pending : ℕ → Bool) (passed : IsPassedTo (wiring_of run) next pending news) where
      right_input : (number : ℕ) → IsThere run.files number → number < next → AreRight run number (news number)
      right_input number t less = fed run under.start news under.stamped pending next passed number t.file t.at less

      file_few : (number : ℕ) (file : KeptFile) → get run.files number ≡ Some file → length (news number) ≤ due run number
      file_few number file at = elim (kind run.files under.start.ready.grounded number (file, at)) [
        | inl scan ↦ let e = right_count number file at (news number) (passed.scans number scan) in omega arith
        | inr reads ↦ elim reads [
          | inl s ↦ elim (cases_lt s.0 next) [
            | inl less ↦
                let right = of_selection run under.start (news s.0) number s.0 s.1 s.2 (right_input s.0 (record { file = s.3.0; at = s.3.1 }) less) in
                let e = right_count number file at (news number) (subst (AreRight run number) (sym (passed.selected number s.0 s.1 s.2 less)) right) in omega arith
            | inr above ↦ none_count (news number) (due run number) (passed.waiting number s.0 s.1 s.2 above)
          ]
          | inr j ↦ elim (cases_lt number next) [
            | inl less ↦ let e = right_count number file at (news number) (right_input number (record { file = file; at = at }) less) in omega arith
            | inr above ↦ none_count (news number) (due run number) (passed.unjoined number j.0 j.1 j.2 above)
          ]
        ]
      ]

      -- no file has more than it is to have
      pub few : (number : ℕ) → count_in run files number ≤ due run number
      few number = by (get run.files number) refl
        where
          by : (o : Option KeptFile) → get run.files number ≡ o → length (news number) ≤ due run number
          by None e = none_count (news number) (due run number) (nowhere number e)
          by (Some file) e = file_few number file e

-- one turn
module _ (run : Run) (at : ℕ) (keys : List ℕ) (files0 files1 : Files) (under : IsUnderWay run files0) (under1 : IsUnderWay run files1) (passed : ArePassed run at (at ∷ keys) files0) (join : IsJoined run at files0 files1) (is_there : IsThere run.files at) where
  abbrev n0 : ℕ → ℕ
  n0 = count_in run files0

  abbrev n1 : ℕ → ℕ
  n1 = count_in run files1

  few0 : (number : ℕ) → n0 number ≤ due run number
  few0 = few run files0 under at (λ number. is_among number (at ∷ keys)) passed.passed

  input_right : (number : ℕ) (file : KeptFile) → get run.files number ≡ Some file → number < at → AreRight run number (news_in run.store.changes files0 number)
  input_right number file here less = fed run under.start (λ n. news_in run.store.changes files0 n) under.stamped (λ n. is_among n (at ∷ keys)) at passed.passed number file here less

  -- the file whose turn it is has, after the join, what it is to have
  pub own_right : AreRight run at (news_in run.store.changes files1 at)
  own_right = elim (kind run.files under.start.ready.grounded at (is_there.file, is_there.at)) [
    | inl scan ↦ subst (AreRight run at) (sym (join.own (λ left right j. scan_no_join run.files at scan.source scan.shape j.first j.second j.pairs scan.stands j.stands))) (passed.passed.scans at scan)
    | inr reads ↦ elim reads [
      | inl s ↦
          let down = selects_down run.files under.start.ready.grounded at s.0 s.1 s.2 in
          subst (AreRight run at) (sym (passed.passed.selected at s.0 s.1 s.2 down) ∙ sym (join.own (λ left right j. join_no_selection run.files at s.0 s.1 s.2 j.first j.second j.pairs j.stands)))
          (of_selection run under.start (news_in run.store.changes files0 s.0) at s.0 s.1 s.2 (input_right s.0 s.3.0 s.3.1 down))
      | inr j ↦
          let down = joins_down run.files under.start.ready.grounded at j.0 j.1 j.2 in
          let l = join.others j.0 (λ e. let d = down.0 in absurd (omega arith)) in
          let r = join.others j.1 (λ e. let d = down.1 in absurd (omega arith)) in
          let gets = join.joined j.0 j.1 j.2 (passed.passed.unjoined at j.0 j.1 j.2 (omega arith)) in
          of_join run under.start (λ n. news_in run.store.changes files1 n) under1.stamped at j.0 j.1 j.2
          (subst (AreRight run j.0) (sym l) (input_right j.0 j.3.0 j.3.1 down.0)) (subst (AreRight run j.1) (sym r) (input_right j.1 j.4.0 j.4.1 down.1))
          (subst (λ (p : List SignedRow × List SignedRow). (wiring_of run).JoinGets at p.0 p.1 (news_in run.store.changes files1 at)) (λ i. (sym l i, sym r i)) gets)
    ]
  ]

  own_count : n1 at ≡ due run at
  own_count = right_count run at is_there.file is_there.at (news_in run.store.changes files1 at) own_right

  pub few1 : (number : ℕ) → n1 number ≤ due run number
  few1 number = elim (cases_eq number at) [
    | inl same ↦ subst (λ n. n1 n ≤ due run n) (sym same) (let e = own_count in omega arith)
    | inr differs ↦ subst (λ (xs : List SignedRow). length xs ≤ due run number) (sym (join.others number differs)) (few0 number)
  ]

  pub grows1 : (number : ℕ) → n0 number ≤ n1 number
  grows1 number = elim (cases_eq number at) [
    | inl same ↦ subst (λ n. n0 n ≤ n1 n) (sym same) (let e = own_count in let f = few0 at in omega arith)
    | inr differs ↦ subst (λ (xs : List SignedRow). n0 number ≤ length xs) (sym (join.others number differs)) (omega arith)
  ]

  module _ (s0 s1 : ℕ) (cost : s1 + n0 at ≤ s0 + n1 at) where
    pub join_spent : s1 + all_in run files0 ≤ s0 + all_in run files1
    join_spent = sum_raised run.files n0 n1 at is_there.file is_there.at grows1 s0 s1 cost

    pub join_cost : s1 + all_in run files0 ≤ s0 + all_due run
    join_cost = let a = join_spent in let b = sum_more run.files n1 (due run) few1 in omega arith

    -- what the selections may cost
    pub left_due : (number : ℕ) (test : SignedRow → Bool) → SelectsFrom run.files number at test → length (filter test (news_in run.store.changes files1 at)) ≤ due run number - n1 number
    left_due number test selects =
        let t = selection_there run.files under.start.ready.grounded number at test selects in
        let e = right_count run number t.0 t.1 (filter test (news_in run.store.changes files1 at)) (of_selection run under.start (news_in run.store.changes files1 at) number at test selects own_right) in
        let up = selects_down run.files under.start.ready.grounded number at test selects in
        let none : n1 number ≡ 0 = ap length (join.others number (λ e. absurd (omega arith)) ∙ passed.passed.waiting number at test selects (omega arith)) in
        omega arith

    pub down_cost : (s2 : ℕ) → s2 ≤ s1 + sum_over run.files (λ number. due run number - n1 number) → s2 + all_in run files0 ≤ s0 + all_due run
    down_cost s2 step = let a = join_spent in let b = sum_missing run.files n1 (due run) few1 in omega arith

    module _ (files2 : Files) (old_pending new_pending : List ℕ) (down : IsPassedDown run at old_pending new_pending files1 files2) where
      abbrev n2 : ℕ → ℕ
      n2 = count_in run files2

      pub grows2 : (number : ℕ) → n1 number ≤ n2 number
      grows2 number = elim (selects_or_not run.files under.start.ready.grounded number at) [
        | inl s ↦ let e = ap length (down.taken number s.0 s.1) ∙ length-append (news_in run.store.changes files1 number) (filter s.0 (news_in run.store.changes files1 at)) in omega arith
        | inr not_over ↦ let e = ap length (down.others number not_over) in omega arith
      ]

      pub made_due : (number : ℕ) (test : SignedRow → Bool) → SelectsFrom run.files number at test → length (filter test (news_in run.store.changes files1 at)) ≤ n2 number - n1 number
      made_due number test selects = let e = ap length (down.taken number test selects) ∙ length-append (news_in run.store.changes files1 number) (filter test (news_in run.store.changes files1 at)) in omega arith

      pub down_spent : (s2 : ℕ) → s2 ≤ s1 + sum_over run.files (λ number. n2 number - n1 number) → s2 + all_in run files0 ≤ s0 + all_in run files2
      down_spent s2 step = let a = join_spent in let b = sum_missing run.files n1 n2 grows2 in omega arith

-- a turn that ends before the file got its rows
pub turn_refused : (run : Run) (at : ℕ) (keys : List ℕ) (files : Files) (under : IsUnderWay run files) → ArePassed run at (at ∷ keys) files → IsThere run.files at → (s0 s1 : ℕ) → s1 + count_in run files at ≤ s0 + due run at
    → s1 + all_in run files ≤ s0 + all_due run
turn_refused run at keys files under passed t s0 s1 cost =
    sum_raised run.files (count_in run files) (due run) at t.file t.at (few run files under at (λ number. is_among number (at ∷ keys)) passed.passed) s0 s1 cost

-- the files never have more than they are to have
pub all_within : (run : Run) (files : Files) (under : IsUnderWay run files) (next : ℕ) (pending : List ℕ) → ArePassed run next pending files → all_in run files ≤ all_due run
all_within run files under next pending passed = sum_more run.files (count_in run files) (due run) (few run files under next (λ number. is_among number pending) passed.passed)
