use Rattle.std.proofs.Common.{◌≡◌, ◌+◌, ◌++◌, ℕ, List, subst}
use Rattle.std.specs.Prelude.{Err, OnOk}
use Rattle.ncq_engine.specs.Applies.{AreSpans, IfGivenUp, OfEach}
use Rattle.ncq_engine.specs.Languages.{language_of}
use Rattle.ncq_engine.specs.Output.{accepted_text}
use Rattle.ncq_engine.specs.declared.engine.ApplyError.{ApplyError}
use Rattle.ncq_run.proofs.SecondTries.{StandsAgain, again_accepted, again_answer, again_counted, again_joined, again_of, again_refused, again_spans, again_stays}
use Rattle.ncq_run.proofs.WorkLaws.{one_try, two_tries}
use Rattle.ncq_run.proofs.twice.apply_twice.Given.{Over}
use Rattle.ncq_run.proofs.twice.apply_twice.Goals.{After-shed}
use Rattle.ncq_run.proofs.twice.apply_twice.Goals as goal

-- the engine that is asked once more
again : (g : Over) (c : After-shed g) → StandsAgain c.args.engine.now c.shed.new.self
again g c =
    let was = c.args.engine.now in
    let given_up = c.apply.new.self in
    let uncounted = subst (λ (why : ApplyError). IfGivenUp (Err why) (given_up.count ≡ was.count)) c.in-Err-OutOfMemory.field-0-is c.in-Err-OutOfMemory.ensures.uncounted in
    again_of was given_up c.shed.new.self c.apply.ensures.handed uncounted c.in-Err-OutOfMemory.ensures.stays c.shed.ensures.shed c.shed.ensures.stands

pub returns-clause-accepted : goal.returns-clause-accepted
returns-clause-accepted g c = again_accepted (again g (goal.at.returns-clause-accepted g c).After-shed) c.args.command.now c.apply-2.result c.apply-2.ensures.accepted

pub returns-clause-joined : goal.returns-clause-joined
returns-clause-joined g c = again_joined (again g (goal.at.returns-clause-joined g c).After-shed) c.args.command.now c.apply-2.result c.apply-2.new.self c.apply-2.ensures.joined

pub returns-clause-answer : goal.returns-clause-answer
returns-clause-answer g c =
    let new = c.apply-2.new.out.items in
    let a = again g (goal.at.returns-clause-answer g c).After-shed in
    subst (λ (out : List ℕ). OnOk c.apply-2.result (OfEach c.args.engine.now (λ h. new ≡ out ++ accepted_text (language_of c.args.engine.now.handed) h (c.args.engine.now.count + 1) c.args.command.now))) c.in-Err-OutOfMemory.ensures.unwritten
    (again_answer a c.args.command.now c.apply-2.result c.apply.new.out.items new c.apply-2.ensures.answer)

pub returns-clause-spans : goal.returns-clause-spans
returns-clause-spans g c =
    let places = c.apply-2.new.self.spans in
    let a = again g (goal.at.returns-clause-spans g c).After-shed in
    subst (λ (out : List ℕ). OnOk c.apply-2.result (OfEach c.args.engine.now (λ h. AreSpans c.args.engine.now h c.args.command.now out places))) c.in-Err-OutOfMemory.ensures.unwritten
    (again_spans a c.args.command.now c.apply-2.result c.apply.new.out.items places c.apply-2.ensures.spans)

pub returns-clause-refused : goal.returns-clause-refused
returns-clause-refused g c = again_refused (again g (goal.at.returns-clause-refused g c).After-shed) c.args.command.now c.apply-2.result c.apply-2.ensures.refused

pub returns-clause-stays : goal.returns-clause-stays
returns-clause-stays g c = again_stays (again g (goal.at.returns-clause-stays g c).After-shed) c.args.command.now c.apply-2.result c.apply-2.new.self c.apply-2.ensures.stays

pub returns-clause-counted : goal.returns-clause-counted
returns-clause-counted g c = again_counted (again g (goal.at.returns-clause-counted g c).After-shed) c.args.command.now c.apply-2.result c.apply-2.new.self c.apply-2.ensures.counted

pub returns-in_default-clause-work : goal.returns-in_default-clause-work
returns-in_default-clause-work g c = one_try c.args.engine.now c.args.command.now c.args.steps.now c.apply.new.steps c.apply.ensures.work

pub returns-in_default-2-clause-work : goal.returns-in_default-2-clause-work
returns-in_default-2-clause-work g c = one_try c.args.engine.now c.args.command.now c.args.steps.now c.apply.new.steps c.apply.ensures.work

pub returns-clause-work : goal.returns-clause-work
returns-clause-work g c =
    let a = again g (goal.at.returns-clause-work g c).After-shed in
    two_tries c.args.engine.now c.shed.new.self c.args.command.now a.handed a.stands c.args.steps.now c.apply.new.steps c.apply-2.new.steps c.apply.ensures.work c.apply-2.ensures.work
