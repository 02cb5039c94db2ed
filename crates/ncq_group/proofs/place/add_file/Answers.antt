use Rattle.std.proofs.Common.{◌≡◌, OnOk, None, sym, ◌∙◌, subst}
use Rattle.std.specs.FinMap.{get}
use Rattle.std.proofs.lemmas.Result.{on_err_weaker}
use Rattle.ncq_change.specs.Stores.{world_in}
use Rattle.ncq_plan.specs.Exprs.{rows_in}
use Rattle.ncq_midfile.specs.Content.{IsSoundAt}
use Rattle.ncq_shelf.specs.Contents.{Fits}
use Rattle.ncq_shelf.specs.Inputs.{AreInputs}
use Rattle.ncq_shelf.specs.Stands.{Stands}
use Rattle.ncq_fill.proofs.FileLaws.{sound_content}
use Rattle.ncq_group.specs.Grown.{IsAdded}
use Rattle.ncq_group.proofs.AddedFiles.{ranged_added, own_added}
use Rattle.ncq_group.proofs.place.add_file.Goals as goal

pub add_ranged-requires-clause-sound : goal.add_ranged-requires-clause-sound
add_ranged-requires-clause-sound g c = λ other file at.
    subst (λ n. IsSoundAt n file.content.rows) (sym c.changes.ensures) (sound_content c.args.store.now.changes file.content.rows (rows_in file.expr (world_in c.args.store.now)) (c.requires.ready.fits other file at))

pub returns-in-RangeSel-clause-ok : goal.returns-in-RangeSel-clause-ok
returns-in-RangeSel-clause-ok g c =
    let old = c.args.shelf.now in
    let world = world_in c.args.store.now in
    subst (λ n. OnOk c.add_ranged.result (IsAdded old c.args.number c.args.expr.now n world c.add_ranged.new.self)) c.changes.ensures
    (ranged_added old c.add_ranged.new.self c.args.number c.args.expr.now c.changes.result world (subst (λ n. Fits n world old) (sym c.changes.ensures) c.requires.ready.fits)
    c.add_ranged.result c.add_ranged.ensures.ok c.add_ranged.ensures.fits)

pub add-requires : goal.add-requires
add-requires g c =
    let same = c.first_rows.ensures.same in
    record {
      absent = subst (λ f. get f c.args.number ≡ None) (sym same) c.requires.absent;
      new = λ other s. c.requires.new other (subst (λ f. Stands f c.args.expr.now other) same s);
      inputs = subst (λ f. AreInputs f c.args.expr.now c.args.inputs) (sym same) c.requires.inputs;
      own = λ r. c.in_default.not-RangeSel r.inner r.slot r.interval r.is;
    }

pub returns : goal.returns
returns g c =
    let same = c.first_rows.ensures.same in
    record {
      ok = own_added c.args.shelf.now c.first_rows.new.shelf c.add.new.self c.args.number c.args.expr.now c.args.store.now.changes c.changes-2.result (world_in c.args.store.now) c.in_ok-content.content c.in_ok-rows.rows same c.changes-2.ensures
          c.in_ok-content.ensures.base c.in_ok-content.ensures.rows c.in_ok-rows.ensures.wide c.in_ok-rows.ensures.counts c.add.result c.add.ensures.ok;
      err = on_err_weaker c.add.result (λ e. e ∙ same) c.add.ensures.err;
      cost = c.first_rows.ensures.cost;
    }
