use Rattle.std.proofs.Common.{sym, subst, ◌∙◌}
use Rattle.ncq_shelf.specs.Keyed.{HoldsOthers, HoldsBoth}
use Rattle.ncq_shelf.proofs.KeyLaws.{forgets_more, forgets_stale}
use Rattle.ncq_shelf.proofs.keys.forget_gone.Goals.{then-not-is_holder, else-not-is_holder}
use Rattle.ncq_shelf.proofs.keys.forget_gone.Goals as goal

pub loop-atom-preserved : goal.loop-atom-preserved
loop-atom-preserved c =
    let number = c.args.number in
    let old = c.args.holders.now in
    let mid = c.loop-atom.holders in
    let fresh = c.args.fresh.now in
    elim c.if-not-is_holder.branch [
      | then-not-is_holder w ↦ record {
        others = subst (HoldsOthers number old) (sym w.holders-is) (forgets_more number old mid w.forget.new.self c.atom-item.result c.loop-atom.invariant.others w.forget.ensures);
        both = subst (HoldsBoth fresh number old) (sym w.holders-is) (forgets_stale fresh number old mid w.forget.new.self c.atom-item.result c.loop-atom.invariant.both (sym c.is_holder.ensures ∙ w.if-not-is_holder.true) w.forget.ensures);
      }
      | else-not-is_holder w ↦ record {
        others = subst (HoldsOthers number old) (sym w.holders-is) c.loop-atom.invariant.others;
        both = subst (HoldsBoth fresh number old) (sym w.holders-is) c.loop-atom.invariant.both;
      }
    ]
