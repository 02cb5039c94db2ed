use Rattle.std.proofs.Common.{◌<◌, length, arith}
use Rattle.ncq_source.specs.Views.{source_of}
use Rattle.ncq_source.proofs.Shown.{shows_proper}
use Rattle.ncq_source.proofs.store.Store.written.Goals as goal

pub prove-unreachable-requires : goal.prove-unreachable-requires
prove-unreachable-requires c =
    let within : c.args.at < length c.source.result.now.elements.pairs = c.requires.at (source_of c.source.result.now) c.source.ensures in
    omega (arith, within, c.len.ensures.count, c.if-prove.true)

pub at-requires : goal.at-requires
at-requires c = c.requires.at (source_of c.source.result.now) c.source.ensures

pub returns-clause-proper : goal.returns-clause-proper
returns-clause-proper c proper =
    let d = c.source.result.now in
    shows_proper d.elements.pairs c.args.at c.at.result.now (proper c.args.id.0 (source_of d) c.source.ensures) c.len.ensures.once c.at.ensures
