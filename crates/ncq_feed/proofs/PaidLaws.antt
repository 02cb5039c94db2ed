-- What it costs to pass rows on: a step for each parcel, and one for each held row.
use Rattle.std.proofs.Common.{◌≡◌, ℕ, ◌≤◌, ◌+◌, Bool, true, cond, List, [], ◌∷◌, ◌++◌, length, length-append, nat_eq, Some, inl, inr, refl, sym, ap, ◌∙◌, subst, arith}
use Rattle.std.specs.List.{AllByRecursion, filter}
use Rattle.std.specs.FinMap.{get}
use Rattle.std.proofs.lemmas.Bool.{eq-eqb}
use Rattle.std.proofs.lemmas.List.Elements.{filter-append}
use Rattle.ncq_plan.specs.Meets.{is_within}
use Rattle.ncq_midfile.specs.Content.{since}
use Rattle.ncq_midfile.specs.Views.{of_rows}
use Rattle.ncq_midfile.specs.declared.signed.SignedRow.{SignedRow}
use Rattle.ncq_readers.specs.Passed.{held_at, size_of}
use Rattle.ncq_readers.specs.declared.ranges.HeldRows.{HeldRows}
use Rattle.ncq_shelf.specs.KeptFiles.{KeptFile, Files}
use Rattle.ncq_shelf.specs.Stands.{IsThere}
use Rattle.ncq_shelf.specs.Contents.{sum_over}
use Rattle.ncq_shelf.specs.Ranges.{AreHeldOf, IsHeldBy, Takes}
use Rattle.ncq_shelf.specs.Readers.{SelectsFrom, AreBoundBy}
use Rattle.ncq_feed.specs.Runs.{Run, IsStarted, IsUnderWay, news_of, news_in}
use Rattle.ncq_feed.specs.Shares.{at_slot}
use Rattle.ncq_feed.proofs.CountLaws.{sums_are}
use Rattle.ncq_feed.proofs.GrowthLaws.{there_up, equals_back}
use Rattle.ncq_feed.proofs.RangeLaws.{TellsRange, range_or_not, one_range, no_equal, by_equal, by_interval, of_taken, only_taken, each_group, held_of_back}
use Rattle.ncq_feed.proofs.ShareLaws.{slot_more}
use Rattle.ncq_feed.proofs.SumLaws.{sum_both, sum_more, sum_one}

-- what the two calls of the shelf cost
module _ (run : Run) (files : Files) (under : IsUnderWay run files) (at : ℕ) (is_there : IsThere run.files at) (n : ℕ) (n_is : n ≡ run.store.changes) where
  abbrev news : List SignedRow
  news = news_in run.store.changes files at

  shown_rows : (file : KeptFile) → get files at ≡ Some file → since n file.content.rows ≡ news
  shown_rows file here = ap (λ m. since m file.content.rows) n_is ∙ sym (ap (news_of run.store.changes) here)

  pub parcels_paid : (bound : ℕ → ℕ) → AreBoundBy run.files at news bound → (s0 s1 : ℕ)
      → ((file : KeptFile) (bound : ℕ → ℕ) → get files at ≡ Some file → AreBoundBy files at (since n file.content.rows) bound → s1 ≤ s0 + sum_over files bound)
      → s1 ≤ s0 + sum_over run.files bound
  parcels_paid bound bounded s0 s1 cost =
      let t = there_up run files under at is_there in
      subst (λ m. s1 ≤ s0 + m) (sums_are run files under bound)
      (cost t.file bound t.at (λ number test selects. subst (λ rows. length (filter test rows) ≤ bound number) (sym (shown_rows t.file t.at)) (bounded number test (equals_back run files under number at test selects))))

  pub held_here : (held : List HeldRows) → ((file : KeptFile) → get files at ≡ Some file → AreHeldOf files at (since n file.content.rows) held) → AreHeldOf run.files at news held
  held_here held are =
      let t = there_up run files under at is_there in
      subst (λ rows. AreHeldOf run.files at rows held) (shown_rows t.file t.at) (held_of_back run files under at (since n t.file.content.rows) held (are t.file t.at))

  pub held_paid : (s0 s1 : ℕ) → ((file : KeptFile) → get files at ≡ Some file → (held : List HeldRows) × AreHeldOf files at (since n file.content.rows) held × (s1 ≤ s0 + size_of held))
      → (bound : ℕ → ℕ) → (held : List HeldRows) × AreHeldOf run.files at news held × (s1 ≤ s0 + (sum_over run.files bound + size_of held))
  held_paid s0 s1 cost bound =
      let t = there_up run files under at is_there in
      let c = cost t.file t.at in
      let less = c.2 in
      (c.0, subst (λ rows. AreHeldOf run.files at rows c.0) (shown_rows t.file t.at) (held_of_back run files under at (since n t.file.content.rows) c.0 c.1), omega arith)

-- held rows are no more than the selections by intervals get together
module _ (run : Run) (start : IsStarted run) (at : ℕ) where
  abbrev gets : (number : ℕ) → TellsRange run.files start.ready.grounded number at → (ℕ → List SignedRow) → ℕ
  gets number (inl r) rows = length (of_rows (is_within r.slot r.interval) (rows r.slot))
  gets number (inr none) rows = 0

  abbrev share : (ℕ → List SignedRow) → ℕ → ℕ
  share rows number = gets number (range_or_not run.files start.ready.grounded number at) rows

  gets_more : (number : ℕ) (t : TellsRange run.files start.ready.grounded number at) (first second all : ℕ → List SignedRow) → ((slot : ℕ) → first slot ++ second slot ≡ all slot)
      → gets number t all ≡ gets number t first + gets number t second
  gets_more number (inl r) first second all is =
      ap (λ xs. length (of_rows (is_within r.slot r.interval) xs)) (sym (is r.slot))
      ∙ ap length (filter-append (λ (x : SignedRow). is_within r.slot r.interval x.row) (first r.slot) (second r.slot))
      ∙ length-append (of_rows (is_within r.slot r.interval) (first r.slot)) (of_rows (is_within r.slot r.interval) (second r.slot))
  gets_more number (inr none) first second all is = refl

  shares_more : (first second all : ℕ → List SignedRow) → ((slot : ℕ) → first slot ++ second slot ≡ all slot) → sum_over run.files (share all) ≡ sum_over run.files (share first) + sum_over run.files (share second)
  shares_more first second all is =
      ap (sum_over run.files) (λ i. λ number. gets_more number (range_or_not run.files start.ready.grounded number at) first second all is i)
      ∙ sum_both run.files (share first) (share second)

  one_gets : (slot : ℕ) (row : SignedRow) (number : ℕ) (t : TellsRange run.files start.ready.grounded number at) → Takes run.files at slot row.row number → 1 ≤ gets number t (at_slot slot (row ∷ []))
  one_gets slot row number (inl r) takes =
      let p = one_range run.files number at at slot r.slot takes.interval r.interval takes.selects r.selects in
      let within : is_within r.slot r.interval row.row ≡ true = (λ i. is_within (sym p.0 i) (sym p.1 i) row.row) ∙ takes.within in
      let e : length (of_rows (is_within r.slot r.interval) (cond (nat_eq slot r.slot) (row ∷ []) [])) ≡ 1 =
      ap (λ b. length (of_rows (is_within r.slot r.interval) (cond b (row ∷ []) []))) (eq-eqb slot r.slot p.0) ∙ ap (λ b. length (cond b (row ∷ []) [])) within in
      omega arith
  one_gets slot row number (inr none) takes = absurd (none (record { slot = slot; interval = takes.interval; selects = takes.selects }))

  slot_size : (slot : ℕ) (rows : List SignedRow) → AllByRecursion (λ r. IsHeldBy run.files at slot r.row) rows → length rows ≤ sum_over run.files (share (at_slot slot rows))
  slot_size slot [] all = omega arith
  slot_size slot (row ∷ rows) all =
      let h = all.0 in
      let one = one_gets slot row h.number (range_or_not run.files start.ready.grounded h.number at) h.takes in
      let sum = sum_one run.files (share (at_slot slot (row ∷ []))) h.number h.takes.selects.stands.file h.takes.selects.stands.at in
      let more = shares_more (at_slot slot (row ∷ [])) (at_slot slot rows) (at_slot slot (row ∷ rows)) (slot_more run at slot row rows) in
      let rest = slot_size slot rows all.1 in
      omega arith

  groups_size : (held : List HeldRows) → AllByRecursion (λ h. AllByRecursion (λ r. IsHeldBy run.files at h.slot r.row) h.rows) held → size_of held ≤ sum_over run.files (share (λ slot. held_at slot held))
  groups_size [] all = omega arith
  groups_size (h ∷ held) all =
      let one = slot_size h.slot h.rows all.0 in
      let more = shares_more (at_slot h.slot h.rows) (λ slot. held_at slot held) (λ slot. held_at slot (h ∷ held)) (λ slot. refl) in
      let rest = groups_size held all.1 in
      omega arith

  module _ (rows : List SignedRow) (bound : ℕ → ℕ) (bounded : (number : ℕ) (test : SignedRow → Bool) → SelectsFrom run.files number at test → length (filter test rows) ≤ bound number) where
    abbrev of_equals : (number : ℕ) → TellsRange run.files start.ready.grounded number at → ℕ
    of_equals number (inl r) = 0
    of_equals number (inr none) = bound number

    abbrev equal_bound : ℕ → ℕ
    equal_bound number = of_equals number (range_or_not run.files start.ready.grounded number at)

    equals_bounded : AreBoundBy run.files at rows equal_bound
    equals_bounded number test e = elim (range_or_not run.files start.ready.grounded number at) as (λ t. length (filter test rows) ≤ of_equals number t) [
      | inl r ↦ absurd (no_equal run.files number at at test e r)
      | inr none ↦ bounded number test (by_equal run.files number at test e)
    ]

    module _ (held : List HeldRows) (are : AreHeldOf run.files at rows held) where
      both : (number : ℕ) (t : TellsRange run.files start.ready.grounded number at) → of_equals number t + gets number t (λ slot. held_at slot held) ≤ bound number
      both number (inl r) =
          let e = ap length (of_taken run.files at r.slot r.interval number r.selects rows (held_at r.slot held) (are r.slot)) in
          let b = bounded number (λ x. is_within r.slot r.interval x.row) (by_interval run.files number at r.slot r.interval r.selects) in
          omega arith
      both number (inr none) = omega arith

      together : sum_over run.files equal_bound + size_of held ≤ sum_over run.files bound
      together =
          let size = groups_size held (each_group (λ slot r. IsHeldBy run.files at slot r.row) held (λ slot. only_taken run.files at slot rows (held_at slot held) (are slot))) in
          let sum = sum_both run.files equal_bound (share (λ slot. held_at slot held)) in
          let more = sum_more run.files (λ n. equal_bound n + share (λ slot. held_at slot held) n) bound (λ n. both n (range_or_not run.files start.ready.grounded n at)) in
          omega arith

    -- what bounds all selections bounds the steps
    pub turn_paid : (s0 s1 : ℕ) → ((bound : ℕ → ℕ) → AreBoundBy run.files at rows bound → (held : List HeldRows) × AreHeldOf run.files at rows held × (s1 ≤ s0 + (sum_over run.files bound + size_of held)))
        → s1 ≤ s0 + sum_over run.files bound
    turn_paid s0 s1 cost =
        let paid = cost equal_bound equals_bounded in
        let all = together paid.0 paid.1 in
        let less = paid.2 in
        omega arith
