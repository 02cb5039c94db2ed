use Rattle.std.proofs.Common.{rules, arith, sym, ap, ◌∙◌, bit_or, length}
use Rattle.std.proofs.lemmas.Result.{IfOk-weaker}
use Rattle.ncq_path.specs.declared.path.Path.TheVariants.{Seq, Alt, Star, Plus}
use Rattle.ncq_path.specs.declared.path.Path.TheViews.{the_lemmas}
use Rattle.ncq_path.proofs.LinkSteps.{seq_fits, alt_fits, star_fits, plus_fits, plus_ends, grown, each_rest, each_next, each_linked, any_rest, any_next, any_end, any_linked}
use Rattle.ncq_path.proofs.compiling.+link.Goals as goal

pub link-link_each-requires : goal.link-link_each-requires
link-link_each-requires t c =
    (search (rules, the_lemmas), seq_fits c.args.path.now c.as_slice.result.now (length c.args.kept.now) (c.in-Seq.is ∙ ap Seq (sym c.as_slice.ensures)) c.requires)

pub link-link_any-requires : goal.link-link_any-requires
link-link_any-requires t c =
    (search (rules, the_lemmas), alt_fits c.args.path.now c.as_slice-in-Alt.result.now (length c.args.kept.now) (c.in-Alt.is ∙ ap Alt (sym c.as_slice-in-Alt.ensures)) c.requires)

pub link-link-requires : goal.link-link-requires
link-link-requires t c =
    (search (rules, the_lemmas), star_fits c.args.path.now c.get-in-Star.result.now (length c.args.kept.now) (c.in-Star.is ∙ ap Star (sym c.get-in-Star.ensures)) c.requires)

pub link-link-requires-in-Plus : goal.link-link-requires-in-Plus
link-link-requires-in-Plus t c =
    (search (rules, the_lemmas), plus_fits c.args.path.now c.get-in-Plus-2.result.now (length c.args.kept.now) (c.in-Plus.is ∙ ap Plus (sym c.get-in-Plus-2.ensures)) c.requires)

pub link-returns-in-Plus-clause-ends : goal.link-returns-in-Plus-clause-ends
link-returns-in-Plus-clause-ends t c =
    IfOk-weaker c.link-in-Plus.result _ _
    (λ ends h. plus_ends c.args.path.now c.get-in-Plus.result.now c.get-in-Plus-2.result.now (length c.args.kept.now)
    c.len-in-Plus.result c.args.before c.ends_of-in-Plus.result ends (c.in-Plus.is ∙ ap Plus (sym c.get-in-Plus.ensures))
    (c.get-in-Plus-2.ensures ∙ sym c.get-in-Plus.ensures) c.len-in-Plus.ensures c.ends_of-in-Plus.ensures h)
    c.link-in-Plus.ensures.ends

pub link_each-loop-item-preserved : goal.link_each-loop-item-preserved
link_each-loop-item-preserved t c =
    let more = grown c.args.items.now c.loop-item.item-index c.item-item.result (omega arith) c.item-item.is
    c.loop-item.kept c.link.new.kept c.loop-item.before c.in_ok-before.ensures.linked in
    record {
      fits = each_rest c.args.items.now c.loop-item.item-index c.item-item.result (omega arith) c.item-item.is
          (length c.loop-item.kept) (length c.link.new.kept) c.loop-item.invariant.fits more;
      ends = each_next c.args.items.now c.loop-item.item-index c.item-item.result (omega arith) c.item-item.is
          (length c.loop-item.kept) c.loop-item.before (length c.link.new.kept) _ _ more
          c.in_ok-before.ensures.ends c.loop-item.invariant.ends;
      linked = each_linked c.args.items.now c.loop-item.item-index c.item-item.result (omega arith) c.item-item.is
          c.loop-item.kept c.link.new.kept _ c.loop-item.before _ c.in_ok-before.ensures.linked
          c.in_ok-before.ensures.ends c.loop-item.invariant.linked;
    }

pub link_any-loop-item-preserved : goal.link_any-loop-item-preserved
link_any-loop-item-preserved t c =
    let more = grown c.args.items.now c.loop-item.item-index c.item-item.result (omega arith) c.item-item.is
    c.loop-item.kept c.link.new.kept c.args.before c.in_ok-all.ensures.linked in
    record {
      fits = any_rest c.args.items.now c.loop-item.item-index c.item-item.result (omega arith) c.item-item.is
          (length c.loop-item.kept) (length c.link.new.kept) c.loop-item.invariant.fits more;
      ends = any_next c.args.items.now c.loop-item.item-index c.item-item.result (omega arith) c.item-item.is
          (length c.loop-item.kept) c.args.before (length c.link.new.kept) c.loop-item.all _ _ more
          (ap (λ n. bit_or c.loop-item.all n) c.in_ok-all.ensures.ends) c.loop-item.invariant.ends;
      linked = any_linked c.args.items.now c.loop-item.item-index c.item-item.result (omega arith) c.item-item.is
          c.loop-item.kept c.link.new.kept _ c.args.before c.in_ok-all.ensures.linked c.loop-item.invariant.linked;
    }

pub link_any-returns-clause-ends : goal.link_any-returns-clause-ends
link_any-returns-clause-ends t c =
    any_end c.args.items.now c.loop-item.item-index (length c.loop-item.kept) c.args.before c.loop-item.all _ (omega arith) c.loop-item.invariant.ends
