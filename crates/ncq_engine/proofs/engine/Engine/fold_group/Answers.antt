use Rattle.std.proofs.Common.{◌∙◌, ℕ, List, ap, get_or, subst, sym}
use Rattle.std.specs.List.{AllByRecursion}
use Rattle.ncq_group.specs.Tables.{TableState}
use Rattle.ncq_shelf.specs.Stands.{IsThere}
use Rattle.ncq_engine.specs.Stands.{EngineState}
use Rattle.ncq_engine.proofs.MovedBases.{moved_more, moved_none, there_moved}
use Rattle.ncq_engine.proofs.TellingLoops.{each_here}
use Rattle.ncq_engine.proofs.engine.Engine.fold_group.Goals.{After-as_slice-sibling-items}
use Rattle.ncq_engine.proofs.engine.Engine.fold_group.Goals as goal

each_there : (c : After-as_slice-sibling-items) → AllByRecursion (IsThere c.args.self.now.table.files) c.as_slice-sibling-items.result.now
each_there c =
    subst (λ (p : List ℕ × TableState). AllByRecursion (IsThere p.1.files) p.0)
    (λ i. (sym c.as_slice-sibling-items.ensures i, (c.groups.ensures ∙ ap (λ (e : EngineState). e.table) c.self.view_is) i)) c.in_ok-siblings.ensures

pub loop-sibling-init : goal.loop-sibling-init
loop-sibling-init c = moved_none _

pub raise_base-requires-clause-there : goal.raise_base-requires-clause-there
raise_base-requires-clause-there c =
    let before = (goal.at.raise_base-requires-clause-there c).After-as_slice-sibling-items in
    let list = c.as_slice-sibling-items.result.now in
    let at = c.loop-sibling.sibling-index in
    there_moved c.args.self.now c.loop-sibling.self c.loop-sibling.invariant.bases (get_or list at 0) (each_here (IsThere c.args.self.now.table.files) list at 0 c.loop-sibling-test.true (each_there before))

pub loop-sibling-preserved : goal.loop-sibling-preserved
loop-sibling-preserved c =
    moved_more c.args.self.now c.loop-sibling.self c.raise_base.new.self c.loop-sibling.invariant c.raise_base.ensures.same c.raise_base.ensures.follows c.raise_base.ensures.bases

pub returns-in_err-raise_base-clause-bases : goal.returns-in_err-raise_base-clause-bases
returns-in_err-raise_base-clause-bases c =
    (moved_more c.args.self.now c.loop-sibling.self c.raise_base.new.self c.loop-sibling.invariant c.raise_base.ensures.same c.raise_base.ensures.follows c.raise_base.ensures.bases).bases

pub raise_base-requires-clause-nothing : goal.raise_base-requires-clause-nothing
raise_base-requires-clause-nothing c = ap (λ (e : EngineState). e.cache) c.loop-sibling.invariant.same ∙ c.requires.nothing

pub fold-requires-clause-there : goal.fold-requires-clause-there
fold-requires-clause-there c = there_moved c.args.self.now c.loop-sibling.self c.loop-sibling.invariant.bases c.args.number c.requires.there

pub fold-requires-clause-nothing : goal.fold-requires-clause-nothing
fold-requires-clause-nothing c = ap (λ (e : EngineState). e.cache) c.loop-sibling.invariant.same ∙ c.requires.nothing

pub returns-clause-bases : goal.returns-clause-bases
returns-clause-bases c = (moved_more c.args.self.now c.loop-sibling.self c.fold.new.self c.loop-sibling.invariant c.fold.ensures.same c.fold.ensures.follows c.fold.ensures.bases).bases
