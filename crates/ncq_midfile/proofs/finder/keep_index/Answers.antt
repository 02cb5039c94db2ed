use Rattle.std.proofs.Common.{get_or, sym, ap, ◌∙◌}
use Rattle.ncq_midfile.proofs.FinderLaws.{no_order}
use Rattle.ncq_midfile.proofs.finder.keep_index.Goals as goal

pub unreachable-requires : goal.unreachable-requires
unreachable-requires c =
    let it = c.index_mut.result.now in
    no_order c.args.slots.now _ (c.in-Some.ensures.index it) c.in_default-index_mut.field-0
    (sym (c.index_mut.ensures.value ∙ ap (λ finders. get_or finders c.in-Some.at it) (sym c.as_slice.ensures.value)) ∙ c.in_default-index_mut.is)
