use Rattle.std.proofs.Common.{refl, ◌∙◌, arith}
use Rattle.std.proofs.Common.{ap}
use Rattle.ncq_holders.specs.Held.{is_holder}
use Rattle.ncq_shelf.specs.Met.{IsHolderMet}
use Rattle.ncq_shelf.proofs.KeyLaws.{all_step, all_end, all_among}
use Rattle.ncq_shelf.proofs.MetLaws.{gathers_on, holder_more}
use Rattle.ncq_shelf.proofs.met.add_slot.Goals as goal

pub loop-holder-preserved : goal.loop-holder-preserved
loop-holder-preserved c =
    let files = c.args.files.now.entries in
    let old = c.loop-holder.met.keys in
    let new = c.add_holder.new.met.keys in
    record {
      gathers = gathers_on files c.args.input c.args.met.now.keys old new c.loop-holder.invariant.gathers c.add_holder.ensures.gathers;
      done = all_step (IsHolderMet files c.args.input old) (IsHolderMet files c.args.input new) c.holders-holder-items.result.now c.loop-holder.holder-index 0 _ refl c.loop-holder-test.true
          (holder_more files c.args.input old new c.add_holder.ensures.gathers) c.loop-holder.invariant.done c.in_ok-add_holder.ensures.ok;
    }

pub returns-clause-ok : goal.returns-clause-ok
returns-clause-ok c less holder held =
    let none = c.loop-holder-test.false in
    let met = IsHolderMet c.args.files.now.entries c.args.input c.loop-holder.met.keys in
    all_among met c.holders-holder-items.result.now (all_end met c.holders-holder-items.result.now c.loop-holder.holder-index (omega arith) c.loop-holder.invariant.done) holder
    (c.holders-holder-items.ensures holder ∙ ap (λ a. is_holder c.args.keys.now.holders a holder) c.atom.ensures ∙ held)
