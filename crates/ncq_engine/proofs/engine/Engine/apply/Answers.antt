use Rattle.std.proofs.Common.{◌≡◌, ◌∷◌, ◌∙◌, ap, length, rules, subst, sym}
use Rattle.std.specs.Prelude.{Err}
use Rattle.ncq_engine.specs.Applies.{AreNotices, IfAnswered, KeepsCache}
use Rattle.ncq_engine.specs.Compactions.{AreCompacted, IsChange}
use Rattle.ncq_engine.specs.History.{History}
use Rattle.ncq_engine.specs.Stands.{EngineState, Follows, Stands}
use Rattle.ncq_engine.specs.declared.engine.Applied.{Applied}
use Rattle.ncq_engine.specs.declared.engine.ApplyError.TheVariants.{Refused}
use Rattle.ncq_engine.proofs.BoundLaws.{stands_behind, stands_with}
use Rattle.ncq_engine.proofs.CachedLaws.{Goes, goes_not, goes_on}
use Rattle.ncq_engine.proofs.EngineLaws.{follows_still}
use Rattle.ncq_engine.proofs.Views.{view_of}
use Rattle.ncq_engine.proofs.engine.Engine.apply.Given.{Over}
use Rattle.ncq_engine.proofs.engine.Engine.apply.Goals.{After-stands}
use Rattle.ncq_engine.proofs.engine.Engine.apply.Goals as goal

-- what the engine followed behind the answer, it stands for once the places of notices are forgotten
still : (g : Over) (c : After-stands g) {earlier later : History} → Goes earlier later → Stands c.args.self.now earlier → Follows c.answer-result.new.self later → Stands (record (view_of c.self.inside) { spans = c.new.result }) later
still g c {later = later} goes s follows =
    let after = c.answer-result.new.self in
    let here = subst (λ (e : EngineState). Follows (record e { spans = c.new.result }) later) (sym c.self.view_is) (follows_still after after.count c.new.result later follows) in
    stands_behind c.args.self.now (record (view_of c.self.inside) { spans = c.new.result }) (ap (λ (e : EngineState). e.handed) c.self.view_is ∙ c.answer-result.ensures.handed) goes s here (c.stands.ensures.bounded later here) c.stands.ensures.shares c.stands.ensures.serve c.stands.ensures.counts
    (subst (λ (e : EngineState). KeepsCache c.args.self.now e) (sym c.self.view_is) c.answer-result.ensures.cached)

pub returns-in-Ok-clause-joined : goal.returns-in-Ok-clause-joined
returns-in-Ok-clause-joined g c = λ h s.
    let at = goal.at.returns-in-Ok-clause-joined g c in
    let now = c.args.command.now ∷ h in
    stands_with _ c.keep.new.self _ c.keep.ensures.kept now (still g at.After-stands (goes_on c.args.command.now h) s (c.in-Ok.ensures.applies.follows h s.follows))

pub returns-in-Ok-clause-notices : goal.returns-in-Ok-clause-notices
returns-in-Ok-clause-notices g c = λ h s.
    let places = c.in-Ok.ensures.applies.places h s.follows in
    subst (λ (a : Applied). AreNotices c.args.self.now h c.args.command.now c.args.out.now.items a) (sym c.keep.ensures.applied) (record { between = places.between; notices = ap length places.spans })

pub returns-in-Err-Refused-clause-stays : goal.returns-in-Err-Refused-clause-stays
returns-in-Err-Refused-clause-stays g c = λ h s.
    let was = s.follows in
    still g (goal.at.returns-in-Err-Refused-clause-stays g c).After-stands (goes_not h) s (search rules)

pub returns-in-Err-OutOfMemory-clause-stays : goal.returns-in-Err-OutOfMemory-clause-stays
returns-in-Err-OutOfMemory-clause-stays g c = λ h s.
    let was = s.follows in
    still g (goal.at.returns-in-Err-OutOfMemory-clause-stays g c).After-stands (goes_not h) s (search rules)

-- to forget the places of notices leaves the files
pub returns-in-Ok-clause-compacted : goal.returns-in-Ok-clause-compacted
returns-in-Ok-clause-compacted g c = λ is.
    let was = c.args.self.now in
    subst (λ (e : EngineState). AreCompacted was e) (sym c.keep.ensures.kept) (subst (λ (e : EngineState). AreCompacted was e) (sym c.self.view_is) (c.in-Ok.ensures.compacted is))

pub returns-in-Err-Refused-clause-compacted : goal.returns-in-Err-Refused-clause-compacted
returns-in-Err-Refused-clause-compacted g c = λ is.
    let was = c.args.self.now in
    let after = c.answer-result.new.self in
    let refused : c.answer-result.result ≡ Err (Refused c.in-Err-Refused.refusal) = search rules in
    subst (λ (e : EngineState). AreCompacted was e) (sym c.self.view_is) (subst (λ r. IfAnswered r (IsChange c.args.command.now → AreCompacted was after)) refused c.answer-result.ensures.compacted is)
