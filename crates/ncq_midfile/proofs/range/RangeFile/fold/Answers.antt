use Rattle.std.proofs.Common.{◌≡◌, ℕ, Bool, ◌<◌, List, length, map, ap, ◌∙◌, sym, subst, arith}
use Rattle.std.specs.List.{All, range_with_len}
use Rattle.std.proofs.lemmas.List.Elements.{All-from_recursion}
use Rattle.ncq_midfile.specs.Content.{Row, AreRising, IsPart, signed_at}
use Rattle.ncq_midfile.specs.Folds.{AreBoundBy, AreBoundTo, IsFolded, IsLeftOneWay}
use Rattle.ncq_midfile.specs.Finders.{cut_finder}
use Rattle.ncq_midfile.specs.Views.{RangeState, of_rows}
use Rattle.ncq_midfile.specs.declared.signed.SignedRow.{SignedRow}
use Rattle.ncq_midfile.proofs.Parts.{range_below, range_rises, part_all, part_rising}
use Rattle.ncq_midfile.proofs.Rangeds.{ranged_at, cut_whole, ranged_as}
use Rattle.ncq_midfile.proofs.range.RangeFile.fold.Goals as goal

pub keep_at-requires-clause-rising : goal.keep_at-requires-clause-rising
keep_at-requires-clause-rising c =
    subst (AreRising 0) (sym c.as_slice-2.ensures)
    (part_rising 0 c.in_ok-places.places _ c.in_ok-places.ensures.part (range_rises 0 _))

pub keep_at-requires-clause-within : goal.keep_at-requires-clause-within
keep_at-requires-clause-within c =
    let rows = c.self.inside.rows.items in
    let below = λ (place : ℕ). place < length rows in
    let part = subst (λ (rs : List SignedRow). IsPart c.in_ok-places.places (range_with_len 0 (length rs))) c.as_slice.ensures.value c.in_ok-places.ensures.part in
    subst (All below) (sym c.as_slice-2.ensures) (All-from_recursion below _ (part_all below c.in_ok-places.places _ part (range_below 0 (length rows) (length rows) (omega arith))))

pub invariant_of-self : goal.invariant_of-self
invariant_of-self c =
    let slot = c.self.inside.slot in
    let rows = c.self.inside.rows.items in
    let part = subst (λ (rs : List SignedRow). IsPart c.in_ok-places.places (range_with_len 0 (length rs))) c.as_slice.ensures.value c.in_ok-places.ensures.part in
    let finders = c.self.inside.finders.items in
    let len = c.self.inside.finders.ok.0 in
    let whole = cut_whole (cut_finder 0) finders c.cut_all.new.finders c.self.inside.finders.len (c.cut_all.ensures ∙ ap (map (cut_finder 0)) c.deref_mut.ensures.value) (omega arith) in
    ranged_as slot _ _ _ _ (sym (c.keep_at.ensures ∙ ap (λ ps. signed_at ps rows) c.as_slice-2.ensures)) (sym whole)
    (ranged_at slot rows finders c.self.invariant c.in_ok-places.places part)

pub returns-clause-ok : goal.returns-clause-ok
returns-clause-ok c =
    let rows = c.self.inside.rows.items in
    let bounds = c.args.bounds.now in
    let old : rows ≡ c.args.self.now.rows = ap (λ (f : RangeState). f.rows) c.self.view_is in
    subst (λ (rs : List SignedRow). (test : Row → Bool) (m : ℕ) → AreBoundBy test m rs bounds → IsFolded m (of_rows test rs) (of_rows test c.keep_at.new.rows.items)) old
    (subst (λ (rs : List SignedRow). (test : Row → Bool) (m : ℕ) → AreBoundBy test m rows bounds → IsFolded m (of_rows test rows) (of_rows test rs)) (sym (c.keep_at.ensures ∙ ap (λ ps. signed_at ps rows) c.as_slice-2.ensures))
    (subst (λ (rs : List SignedRow). (test : Row → Bool) (m : ℕ) → AreBoundBy test m rs bounds → IsFolded m (of_rows test rs) (of_rows test (signed_at c.in_ok-places.places rs))) c.as_slice.ensures.value c.in_ok-places.ensures.folded))

pub returns-clause-single : goal.returns-clause-single
returns-clause-single c =
    let rows = c.self.inside.rows.items in
    let bounds = c.args.bounds.now in
    let old : rows ≡ c.args.self.now.rows = ap (λ (f : RangeState). f.rows) c.self.view_is in
    subst (λ (rs : List SignedRow). (row : Row) (m : ℕ) → AreBoundTo row m rs bounds → IsLeftOneWay row m c.keep_at.new.rows.items) old
    (subst (λ (rs : List SignedRow). (row : Row) (m : ℕ) → AreBoundTo row m rows bounds → IsLeftOneWay row m rs) (sym (c.keep_at.ensures ∙ ap (λ ps. signed_at ps rows) c.as_slice-2.ensures))
    (subst (λ (rs : List SignedRow). (row : Row) (m : ℕ) → AreBoundTo row m rs bounds → IsLeftOneWay row m (signed_at c.in_ok-places.places rs)) c.as_slice.ensures.value c.in_ok-places.ensures.single))
