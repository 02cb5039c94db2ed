use Rattle.std.proofs.Common.{◌∙◌, subst, sym}
use Rattle.std.specs.Prelude.{Option, IfSome}
use Rattle.ncq_cache.specs.declared.key.NoticeKey.{NoticeKey}
use Rattle.ncq_engine.specs.Cached.{IsFresh}
use Rattle.ncq_engine.specs.Tellings.{IsKeyed}
use Rattle.ncq_engine.specs.declared.latest.Latest.{Latest}
use Rattle.ncq_engine.proofs.CachedLaws.{grows_none}
use Rattle.ncq_engine.proofs.KeptLaws.{grows_back}
use Rattle.ncq_engine.proofs.latest.put_back.Goals as goal

pub returns-in_default-clause-cached : goal.returns-in_default-clause-cached
returns-in_default-clause-cached c = λ relations table keyed. grows_none relations table c.args.cache.now

pub returns-in_default-key-clause-cached : goal.returns-in_default-key-clause-cached
returns-in_default-key-clause-cached c = λ relations table keyed. grows_none relations table c.args.cache.now

pub returns-in-Some-key-clause-cached : goal.returns-in-Some-key-clause-cached
returns-in-Some-key-clause-cached c = λ relations table keyed.
    let told = c.in-Some.told in
    let known : IsKeyed relations table told = subst (λ (o : Option Latest). IfSome o (IsKeyed relations table)) (sym c.take.ensures.value ∙ c.in-Some.is) keyed in
    let fresh : IsFresh relations table c.in-Some-key.key told.notice.entries = subst (λ (o : Option NoticeKey). IfSome o (λ key. IsFresh relations table key told.notice.entries)) c.in-Some-key.is known in
    grows_back relations table c.in-Some-key.key told.notice.entries c.args.cache.now c.put.new.self fresh c.put.ensures
