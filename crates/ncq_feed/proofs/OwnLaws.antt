-- What a turn costs, where the rows that selections by intervals of one slot take count once.
use Rattle.std.proofs.Common.{◌≡◌, ℕ, ◌<◌, ◌≤◌, ◌+◌, ◌-◌, Bool, true, false, cond, nat_eq, nat_lt, List, ◌∷◌, length, Some, None, Option, inl, inr, refl, sym, ap, ◌∙◌, subst, arith, true≢false}
use Rattle.std.specs.FinMap.{get}
use Rattle.std.proofs.lemmas.Bool.Decides.{nat_tests}
use Rattle.std.proofs.lemmas.Bool.{cases_lt, cases_Bool, eq-eqb, or_left}
use Rattle.ncq_midfile.specs.declared.signed.SignedRow.{SignedRow}
use Rattle.ncq_readers.specs.Passed.{size_of}
use Rattle.ncq_readers.specs.declared.ranges.HeldRows.{HeldRows}
use Rattle.ncq_plan.specs.Exprs.{expr_width}
use Rattle.ncq_shelf.specs.KeptFiles.{KeptFile, Files}
use Rattle.ncq_shelf.specs.Stands.{IsThere}
use Rattle.ncq_shelf.specs.Contents.{sum_over}
use Rattle.ncq_shelf.specs.Ranges.{AreHeldOf}
use Rattle.ncq_shelf.specs.Readers.{SelectsEqual, AreBoundBy}
use Rattle.ncq_shelf.specs.Readers.SelectsEqual.{equal as by_constant}
use Rattle.ncq_feed.specs.Feeds.{delta_by, is_range, plain_work, held_work, sum_below}
use Rattle.ncq_feed.specs.Runs.{Run, IsUnderWay, IsScanFile, ArePassed, AreRight, AreCounted, is_among, news_in, due, due_of, count_in, all_due, all_in, own_of, own, own_due, own_in, groups, groups_of, held_below}
use Rattle.ncq_feed.specs.JoinFeeds.{IsJoined}
use Rattle.ncq_feed.specs.Turns.{IsPassedDown}
use Rattle.ncq_feed.proofs.CountLaws.{right_count, few, few1, grows1, grows2, own_right, left_due, made_due}
use Rattle.ncq_feed.proofs.FedLaws.{fed, of_selection}
use Rattle.ncq_feed.proofs.HeldCounts.{size_counted}
use Rattle.ncq_feed.proofs.RangeLaws.{by_equal}
use Rattle.ncq_feed.proofs.SumLaws.{sum_more, sum_raised, sum_missing, sum_by_entry}
use Rattle.ncq_feed.proofs.Variants.{range_scan, range_equal, range_join}
use Rattle.ncq_feed.proofs.WiringLaws.{kind, selects_down, one_expr}

of_more : (o : Option KeptFile) (a b : ℕ) → a ≤ b → own_of o a ≤ own_of o b
of_more None a b h = omega arith
of_more (Some file) a b h = elim (is_range file.expr) as (λ r. cond r 0 a ≤ cond r 0 b) [
  | true ↦ omega arith
  | false ↦ h
]

of_less : (o : Option KeptFile) (a : ℕ) → own_of o a ≤ a
of_less None a = omega arith
of_less (Some file) a = elim (is_range file.expr) as (λ r. cond r 0 a ≤ a) [
  | true ↦ omega arith
  | false ↦ omega arith
]

module _ (run : Run) where
  pub own_more : (f g : ℕ → ℕ) → ((n : ℕ) → f n ≤ g n) → (n : ℕ) → own run f n ≤ own run g n
  own_more f g le n = of_more (get run.files n) (f n) (g n) (le n)

  pub own_is : (number : ℕ) (file : KeptFile) → get run.files number ≡ Some file → is_range file.expr ≡ false → (f : ℕ → ℕ) → own run f number ≡ f number
  own_is number file at plain f = ap (λ (o : Option KeptFile). own_of o (f number)) at ∙ ap (λ r. cond r 0 (f number)) plain

  pub own_none : (number : ℕ) (file : KeptFile) → get run.files number ≡ Some file → is_range file.expr ≡ true → (f : ℕ → ℕ) → own run f number ≡ 0
  own_none number file at range f = ap (λ (o : Option KeptFile). own_of o (f number)) at ∙ ap (λ r. cond r 0 (f number)) range

  -- a scan is no selection by an interval
  pub own_scan : (number : ℕ) → IsScanFile run.files number → (f : ℕ → ℕ) → own run f number ≡ f number
  own_scan number scan = own_is number scan.stands.file scan.stands.at (ap is_range scan.stands.of ∙ range_scan scan.source scan.shape)

  -- nor is a selection by a constant
  pub own_equal : (number input : ℕ) (test : SignedRow → Bool) → SelectsEqual run.files number input test → (f : ℕ → ℕ) → own run f number ≡ f number
  own_equal number input _ (by_constant inner slot constant s t) = own_is number s.file s.at (ap is_range s.of ∙ range_equal inner slot constant)

  pub own_due_less : own_due run ≤ all_due run
  own_due_less = sum_more run.files (own run (due run)) (due run) (λ n. of_less (get run.files n) (due run n))

  pub own_in_less : (files : Files) → own_in run files ≤ all_in run files
  own_in_less files = sum_more run.files (own run (count_in run files)) (count_in run files) (λ n. of_less (get run.files n) (count_in run files n))

  pub own_due_is : own_due run ≡ plain_work run.store run.change run.files
  own_due_is =
      sum_by_entry run.files (own run (due run)) (λ number file. cond (is_range file.expr) 0 (length (delta_by run.store run.change file.expr)))
      (λ number file at. ap (λ (o : Option KeptFile). own_of o (due_of run o)) at)

  -- the counts of files by their numbers
  module _ (held : ℕ → ℕ → ℕ) where
    pub groups_are : sum_over run.files (groups run held) ≡ held_work run.files held
    groups_are =
        sum_by_entry run.files (groups run held) (λ number file. sum_below (expr_width file.expr) (held number))
        (λ number file at. ap (λ (o : Option KeptFile). groups_of o (held number)) at)

    abbrev before : ℕ → ℕ → ℕ
    before next number = cond (nat_lt number next) (groups run held number) 0

    is_before : (next number : ℕ) → number < next → before next number ≡ groups run held number
    is_before next number less = let e : nat_lt number next ≡ true = grind (arith, nat_tests) in ap (λ b. cond b (groups run held number) 0) e

    is_behind : (next number : ℕ) → next ≤ number → before next number ≡ 0
    is_behind next number above = let e : nat_lt number next ≡ false = grind (arith, nat_tests) in ap (λ b. cond b (groups run held number) 0) e

    pub below_more : (next at : ℕ) → next ≤ at → IsThere run.files at → held_below run held next + groups run held at ≤ held_below run held (at + 1)
    below_more next at up t =
        let r : groups run held at + held_below run held next ≤ 0 + held_below run held (at + 1) =
        sum_raised run.files (before next) (before (at + 1)) at t.file t.at grows 0 (groups run held at) (let a = is_behind next at up in let b = is_before (at + 1) at (omega arith) in omega arith) in
        omega arith
      where
        grows : (n : ℕ) → before next n ≤ before (at + 1) n
        grows n = elim (cases_lt n next) [
          | inl less ↦ let a = is_before next n less in let b = is_before (at + 1) n (omega arith) in omega arith
          | inr above ↦ let a = is_behind next n above in omega arith
        ]

    pub below_all : (next : ℕ) → held_below run held next ≤ sum_over run.files (groups run held)
    below_all next = sum_more run.files (before next) (groups run held) (λ n. elim (cases_lt n next) [
      | inl less ↦ let a = is_before next n less in omega arith
      | inr above ↦ let a = is_behind next n above in omega arith
    ])

-- before a turn
module _ (run : Run) (at : ℕ) (keys : List ℕ) (files : Files) (under : IsUnderWay run files) (passed : ArePassed run at (at ∷ keys) files) (is_there : IsThere run.files at) where
  abbrev counts : ℕ → ℕ
  counts = count_in run files

  not_both : (b : Bool) → b ≡ true → b ≡ false → ⊥
  not_both b t f = true≢false (sym t ∙ f)

  -- a selection by an interval has all its rows already
  range_full : is_range is_there.file.expr ≡ true → counts at ≡ due run at
  range_full range = elim (kind run.files under.start.ready.grounded at (is_there.file, is_there.at)) [
    | inl scan ↦ absurd (not_both (is_range is_there.file.expr) range (ap is_range (one_expr run.files at is_there.file.expr _ (record { file = is_there.file; at = is_there.at; of = refl }) scan.stands) ∙ range_scan scan.source scan.shape))
    | inr reads ↦ elim reads [
      | inl s ↦
          let down = selects_down run.files under.start.ready.grounded at s.0 s.1 s.2 in
          right_count run at is_there.file is_there.at (news_in run.store.changes files at)
          (subst (AreRight run at) (sym (passed.passed.selected at s.0 s.1 s.2 down))
          (of_selection run under.start (news_in run.store.changes files s.0) at s.0 s.1 s.2
          (fed run under.start (λ n. news_in run.store.changes files n) under.stamped (λ n. is_among n (at ∷ keys)) at passed.passed s.0 s.3.0 s.3.1 down)))
      | inr j ↦ absurd (not_both (is_range is_there.file.expr) range
          (ap is_range (one_expr run.files at is_there.file.expr _ (record { file = is_there.file; at = is_there.at; of = refl }) j.2.stands) ∙ range_join j.2.first j.2.second j.2.pairs))
    ]
  ]

  -- what its rows cost
  pub own_step : (s0 s1 : ℕ) (f : ℕ → ℕ) → f at ≤ due run at → s1 + counts at ≤ s0 + f at → s1 + own run counts at ≤ s0 + own run f at
  own_step s0 s1 f less cost = elim (cases_Bool (is_range is_there.file.expr)) [
    | inl range ↦
        let full = range_full range in
        let a = own_none run at is_there.file is_there.at range counts in
        let b = own_none run at is_there.file is_there.at range f in
        omega arith
    | inr plain ↦
        let a = own_is run at is_there.file is_there.at plain counts in
        let b = own_is run at is_there.file is_there.at plain f in
        omega arith
  ]

  -- a turn that ends before the file got its rows
  pub own_refused : (s0 s1 : ℕ) → s1 + counts at ≤ s0 + due run at → s1 + own_in run files ≤ s0 + own_due run
  own_refused s0 s1 cost =
      sum_raised run.files (own run counts) (own run (due run)) at is_there.file is_there.at
      (own_more run counts (due run) (few run files under at (λ number. is_among number (at ∷ keys)) passed.passed)) s0 s1 (own_step s0 s1 (due run) (omega arith) cost)

-- one turn
module _ (run : Run) (at : ℕ) (keys : List ℕ) (files0 files1 : Files) (under : IsUnderWay run files0) (under1 : IsUnderWay run files1) (passed : ArePassed run at (at ∷ keys) files0) (join : IsJoined run at files0 files1) (is_there : IsThere run.files at)
    (s0 s1 : ℕ) (cost : s1 + count_in run files0 at ≤ s0 + count_in run files1 at) where
  abbrev n0 : ℕ → ℕ
  n0 = count_in run files0

  abbrev n1 : ℕ → ℕ
  n1 = count_in run files1

  abbrev rows : List SignedRow
  rows = news_in run.store.changes files1 at

  few_now : (number : ℕ) → n1 number ≤ due run number
  few_now = few1 run at keys files0 files1 under under1 passed join is_there

  pub own_joined : s1 + own_in run files0 ≤ s0 + own_in run files1
  own_joined =
      sum_raised run.files (own run n0) (own run n1) at is_there.file is_there.at (own_more run n0 n1 (grows1 run at keys files0 files1 under under1 passed join is_there)) s0 s1
      (own_step run at keys files0 under passed is_there s0 s1 n1 (few_now at) cost)

  pub own_join_cost : s1 + own_in run files0 ≤ s0 + own_due run
  own_join_cost = let a = own_joined in let b = sum_more run.files (own run n1) (own run (due run)) (own_more run n1 (due run) few_now) in omega arith

  module _ (s2 : ℕ) (paid : (bound : ℕ → ℕ) → AreBoundBy run.files at rows bound → (held : List HeldRows) × AreHeldOf run.files at rows held × (s2 ≤ s1 + (sum_over run.files bound + size_of held)))
      (counts : ℕ → ℕ → ℕ) (counted : AreCounted run counts) where
    shared : (bound : ℕ → ℕ) → AreBoundBy run.files at rows bound → s2 ≤ s1 + (sum_over run.files bound + groups run counts at)
    shared bound bounded =
        let p = paid bound bounded in
        let size = size_counted run under.start at is_there.file is_there.at rows p.0 (own_right run at keys files0 files1 under under1 passed join is_there) p.1 counts counted in
        let less = p.2 in
        omega arith

    equals_due : AreBoundBy run.files at rows (λ number. own run (due run) number - own run n1 number)
    equals_due number test selects =
        let l = left_due run at keys files0 files1 under under1 passed join is_there s0 s1 cost number test (by_equal run.files number at test selects) in
        let a = own_equal run number at test selects (due run) in
        let b = own_equal run number at test selects n1 in
        omega arith

    pub shared_cost : s2 + own_in run files0 ≤ s0 + (own_due run + groups run counts at)
    shared_cost =
        let a = own_joined in
        let b = shared (λ number. own run (due run) number - own run n1 number) equals_due in
        let c = sum_missing run.files (own run n1) (own run (due run)) (own_more run n1 (due run) few_now) in
        omega arith

    module _ (files2 : Files) (old_pending new_pending : List ℕ) (down : IsPassedDown run at old_pending new_pending files1 files2) where
      abbrev n2 : ℕ → ℕ
      n2 = count_in run files2

      equals_made : AreBoundBy run.files at rows (λ number. own run n2 number - own run n1 number)
      equals_made number test selects =
          let l = made_due run at keys files0 files1 under under1 passed join is_there s0 s1 cost files2 old_pending new_pending down number test (by_equal run.files number at test selects) in
          let a = own_equal run number at test selects n2 in
          let b = own_equal run number at test selects n1 in
          omega arith

      pub shared_spent : s2 + own_in run files0 ≤ s0 + (own_in run files2 + groups run counts at)
      shared_spent =
          let a = own_joined in
          let b = shared (λ number. own run n2 number - own run n1 number) equals_made in
          let c = sum_missing run.files (own run n1) (own run n2)
          (own_more run n1 n2 (grows2 run at keys files0 files1 under under1 passed join is_there s0 s1 cost files2 old_pending new_pending down)) in
          omega arith

-- the files never have more than they are to have
pub own_within : (run : Run) (files : Files) (under : IsUnderWay run files) (next : ℕ) (pending : List ℕ) → ArePassed run next pending files → own_in run files ≤ own_due run
own_within run files under next pending passed =
    sum_more run.files (own run (count_in run files)) (own run (due run)) (own_more run (count_in run files) (due run) (few run files under next (λ number. is_among number pending) passed.passed))

-- one turn more
module _ (run : Run) (files : Files) (under : IsUnderWay run files) (next at : ℕ) (pending keys : List ℕ) (passed : ArePassed run next pending files)
    (some : pending ≡ at ∷ keys) (held : ℕ → ℕ → ℕ) (start s0 s1 : ℕ) (before : s0 ≤ start + (own_in run files + held_below run held next)) where
  more : held_below run held next + groups run held at ≤ held_below run held (at + 1)
  more =
      let p : ArePassed run next (at ∷ keys) files = subst (λ ks. ArePassed run next ks files) some passed in
      let first : is_among at (at ∷ keys) ≡ true = or_left (nat_eq at at) (is_among at keys) (eq-eqb at at refl) in
      below_more run held next at (p.passed.ahead at first) (p.there at first)

  pub turn_shared : (now : ℕ) → s1 + own_in run files ≤ s0 + (now + groups run held at) → s1 ≤ start + (now + held_below run held (at + 1))
  turn_shared now cost = let m = more in omega arith

  pub turn_refused : s1 + own_in run files ≤ s0 + (own_due run + groups run held at) → s1 ≤ start + (own_due run + sum_over run.files (groups run held))
  turn_refused cost = let m = more in let all = below_all run held (at + 1) in omega arith
