use Rattle.std.proofs.Common.{◌≡◌, List, ap, subst}
use Rattle.ncq_cache.specs.Cached.{Cached}
use Rattle.ncq_group.specs.Tables.{TableState}
use Rattle.ncq_script.specs.declared.command.Command.TheVariants.{Delta}
use Rattle.ncq_engine.specs.History.{History}
use Rattle.ncq_engine.specs.Stands.{EngineState, Stands}
use Rattle.ncq_engine.specs.Works.{IsWithinWork}
use Rattle.ncq_engine.proofs.BaseLaws.{answered_more, compacted_still, stands_still, work_from}
use Rattle.ncq_engine.proofs.CachedAnswers.{keeps_behind, keeps_itself}
use Rattle.ncq_engine.proofs.engine.Engine.change.Goals as goal

pub returns-clause-compacted : goal.returns-clause-compacted
returns-clause-compacted g c =
    answered_more c.make_change.result (compacted_still c.args.self.now c.compact_worn.new.self c.make_change.new.self c.in_ok-compact_worn.ensures.compacted) c.make_change.ensures.bases

pub returns-clause-cached : goal.returns-clause-cached
returns-clause-cached g c = keeps_behind c.args.self.now c.compact_worn.new.self c.make_change.new.self (ap (λ (e : EngineState). e.handed) c.compact_worn.ensures.same) c.compact_worn.ensures.cached c.make_change.ensures.cached

pub returns-in_err-compact_worn-clause-cached : goal.returns-in_err-compact_worn-clause-cached
returns-in_err-compact_worn-clause-cached g c = keeps_behind c.args.self.now c.compact_worn.new.self c.compact_worn.new.self (ap (λ (e : EngineState). e.handed) c.compact_worn.ensures.same) c.compact_worn.ensures.cached (keeps_itself c.compact_worn.new.self)

pub returns-clause-work : goal.returns-clause-work
returns-clause-work g c =
    let was = c.args.self.now in
    let mid = c.compact_worn.new.self in
    let table : TableState = mid.table in
    let cache : List Cached = mid.cache in
    let same : mid ≡ record was { table = table; cache = cache } = c.compact_worn.ensures.same in
    let command = Delta c.args.sections.now in
    let stands : (h : History) → Stands was h → Stands mid h = stands_still was mid c.compact_worn.ensures.follows c.stands.ensures.bounded c.stands.ensures.shares c.stands.ensures.counts c.compact_worn.ensures.cached in
    work_from was table cache (λ h s. subst (λ (e : EngineState). Stands e h) same (stands h s)) command c.args.steps.now c.make_change.new.steps
    (subst (λ (e : EngineState). IsWithinWork e command c.args.steps.now c.make_change.new.steps) same c.make_change.ensures.work)
