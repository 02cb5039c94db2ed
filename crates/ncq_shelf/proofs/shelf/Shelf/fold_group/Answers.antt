use Rattle.std.proofs.Common.{◌<◌, length, get_or, sym, ap, ◌∙◌, subst, rules}
use Rattle.ncq_midfile.specs.Views.{RangeState}
use Rattle.ncq_readers.proofs.GroupLaws.{any_err}
use Rattle.ncq_shelf.specs.Contents.{AreFolded}
use Rattle.ncq_shelf.specs.Shown.{shown}
use Rattle.ncq_shelf.specs.Stands.{IsThere}
use Rattle.ncq_shelf.proofs.FoldBounds.{as_many}
use Rattle.ncq_shelf.proofs.GroupFolds.{are_folded, bounds_there, folds_itself, kept_folded}
use Rattle.ncq_shelf.proofs.GroupNews.{kept_same, same_shown}
use Rattle.ncq_shelf.proofs.Maps.{there}
use Rattle.ncq_shelf.proofs.shelf.Shelf.fold_group.Goals as goal

pub returns-in_default-clause-ok : goal.returns-in_default-clause-ok
returns-in_default-clause-ok c = folds_itself c.args.self.now

pub bounds_of-requires-clause-slot : goal.bounds_of-requires-clause-slot
bounds_of-requires-clause-slot c = λ k d less.
    subst (λ s. s < length (get_or c.rows.result.now k d).row) (c.self.invariant.grouped.slots c.args.group c.in-Some.range.now (sym c.in-Some.ensures.value)) (c.rows.ensures.numbers k d less).within

pub unreachable-requires : goal.unreachable-requires
unreachable-requires c = there (sym c.in-Some.ensures.value) (sym c.in_default-get_mut.ensures.value)

pub fold-requires : goal.fold-requires
fold-requires c =
    as_many (shown c.self.inside.groups.entries c.self.inside.files.entries) c.args.group.input c.args.group.slot c.in-Some-get_mut.held.now.rows c.as_slice.result.now
    (bounds_there c.self.inside.groups.entries c.self.inside.files.entries c.args.self.now c.self.view_is c.args.group c.in-Some.range.now c.in-Some-get_mut.held.now c.in-Some.ensures.value c.in-Some-get_mut.ensures.value c.rows.result.now c.rows.ensures.rows c.in_ok-bounds.bounds c.as_slice.result.now c.as_slice.ensures c.in_ok-bounds.ensures)

pub invariant_of-self : goal.invariant_of-self
invariant_of-self c =
    let w = c.fold.new.self in
    kept_same c.self.inside.groups.entries c.self.inside.files.entries c.self.inside.numbers.entries c.self.inside.scans.entries c.self.inside.keys c.self.invariant
    (c.get_mut.follows.lender w).entries c.args.group c.in-Some-get_mut.held.now w (sym c.in-Some-get_mut.ensures.value) ((c.get_mut.follows.holds w).3 (search rules)).0 c.fold.ensures.slot
    (ap (λ (s : RangeState). s.rows) c.in_err-fold.ensures.err)

pub returns-in_err-fold-clause-err : goal.returns-in_err-fold-clause-err
returns-in_err-fold-clause-err c =
    let w = c.fold.new.self in
    any_err c.from_residual-in_err-fold.result
    (same_shown c.self.inside.groups.entries c.self.inside.files.entries c.self.inside.numbers.entries c.self.inside.scans.entries c.self.inside.keys c.self.invariant
    (c.get_mut.follows.lender w).entries c.args.group c.in-Some-get_mut.held.now w (sym c.in-Some-get_mut.ensures.value) ((c.get_mut.follows.holds w).3 (search rules)).0 c.fold.ensures.slot
    (ap (λ (s : RangeState). s.rows) c.in_err-fold.ensures.err) ∙ c.self.view_is)

pub invariant_of-self-2 : goal.invariant_of-self-2
invariant_of-self-2 c =
    let w = c.fold.new.self in
    let held = c.in-Some-get_mut.held.now in
    let are = bounds_there c.self.inside.groups.entries c.self.inside.files.entries c.args.self.now c.self.view_is c.args.group c.in-Some.range.now held c.in-Some.ensures.value c.in-Some-get_mut.ensures.value c.rows.result.now c.rows.ensures.rows c.in_ok-bounds.bounds c.as_slice.result.now c.as_slice.ensures c.in_ok-bounds.ensures in
    kept_folded c.self.inside.groups.entries c.self.inside.files.entries c.self.inside.numbers.entries c.self.inside.scans.entries c.self.inside.keys c.self.invariant
    (c.get_mut.follows.lender w).entries c.args.group held w (sym c.in-Some-get_mut.ensures.value) ((c.get_mut.follows.holds w).3 (search rules)).0 c.fold.ensures.slot
    c.as_slice.result.now are c.in_ok-fold.ensures.ok (subst (λ f. IsThere f c.args.group.input) (sym c.self.view_is) c.requires)

pub returns-clause-ok : goal.returns-clause-ok
returns-clause-ok c =
    let w = c.fold.new.self in
    let held = c.in-Some-get_mut.held.now in
    let are = bounds_there c.self.inside.groups.entries c.self.inside.files.entries c.args.self.now c.self.view_is c.args.group c.in-Some.range.now held c.in-Some.ensures.value c.in-Some-get_mut.ensures.value c.rows.result.now c.rows.ensures.rows c.in_ok-bounds.bounds c.as_slice.result.now c.as_slice.ensures c.in_ok-bounds.ensures in
    subst (λ f. AreFolded f (shown (c.get_mut.follows.lender w).entries c.self.inside.files.entries)) c.self.view_is
    (are_folded c.self.inside.groups.entries c.self.inside.files.entries c.self.inside.numbers.entries c.self.inside.scans.entries c.self.inside.keys c.self.invariant
    (c.get_mut.follows.lender w).entries c.args.group held w (sym c.in-Some-get_mut.ensures.value) ((c.get_mut.follows.holds w).3 (search rules)).0 c.fold.ensures.slot
    c.as_slice.result.now are c.in_ok-fold.ensures.ok)
