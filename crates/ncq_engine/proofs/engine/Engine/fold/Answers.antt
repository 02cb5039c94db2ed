use Rattle.std.proofs.Common.{◌∙◌, ap}
use Rattle.ncq_live.specs.LiveTables.{LiveState}
use Rattle.ncq_engine.specs.Stands.{EngineState}
use Rattle.ncq_engine.proofs.CompactAnswers.{on_err}
use Rattle.ncq_engine.proofs.FoldAnswers.{folded, have_moved, moved_holds}
use Rattle.ncq_engine.proofs.GivenUp.{with_parts}
use Rattle.ncq_engine.proofs.MovedBases.{AreMoved, HaveMoved}
use Rattle.ncq_engine.proofs.Views.{view_of}
use Rattle.ncq_engine.proofs.engine.Engine.fold.Goals.{After-fold}
use Rattle.ncq_engine.proofs.engine.Engine.fold.Goals as goal

moved : (c : After-fold) → AreMoved (view_of c.self.inside) c.fold.new.self.table.files
moved c = folded (view_of c.self.inside) c.fold.new.self c.fold.result c.fold.ensures.ok (on_err c.fold.result (ap (λ (l : LiveState). l.table)) c.fold.ensures.err)

has_moved : (c : After-fold) → HaveMoved c.args.self.now (with_parts (view_of c.self.inside) c.self.inside.store c.fold.new.self)
has_moved c =
    have_moved (view_of c.self.inside) c.fold.new.self (moved c) c.fold.ensures.number c.fold.ensures.next_file c.fold.ensures.subscriptions c.args.self.now c.self.view_is c.fold.ensures.instant

pub invariant_of-self : goal.invariant_of-self
invariant_of-self c =
    moved_holds (view_of c.self.inside) c.fold.new.self (moved c) c.fold.ensures.number c.fold.ensures.next_file c.fold.ensures.subscriptions c.facts.ensures.facts.up_to (ap (λ (e : EngineState). e.cache) c.self.view_is ∙ c.requires.nothing) c.self.invariant

pub returns-clause-follows : goal.returns-clause-follows
returns-clause-follows c = (has_moved c).follows

pub returns-clause-bases : goal.returns-clause-bases
returns-clause-bases c = (has_moved c).bases
