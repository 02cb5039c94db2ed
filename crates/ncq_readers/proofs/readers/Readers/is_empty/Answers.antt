use Rattle.ncq_readers.proofs.ReaderLaws.{tells_equal, tells_range, tells_join}
use Rattle.ncq_readers.specs.contracts.readers.Readers.{the_view}
use Rattle.ncq_readers.proofs.readers.Readers.is_empty.Goals as goal

pub returns-then-not-is_empty-clause-tells : goal.returns-then-not-is_empty-clause-tells
returns-then-not-is_empty-clause-tells c = tells_equal (the_view c.self.inside) c.args.self.now c.self.view_is c.self.invariant c.is_empty.result c.is_empty.ensures c.if-not-is_empty.true

pub returns-then-not-is_empty-2-clause-tells : goal.returns-then-not-is_empty-2-clause-tells
returns-then-not-is_empty-2-clause-tells c = tells_range (the_view c.self.inside) c.args.self.now c.self.view_is c.self.invariant c.is_empty-2.result c.is_empty-2.ensures c.if-not-is_empty-2.true

pub returns-clause-tells : goal.returns-clause-tells
returns-clause-tells c =
    tells_join (the_view c.self.inside) c.args.self.now c.self.view_is c.is_empty.result c.is_empty-2.result c.is_empty.ensures c.if-not-is_empty.false c.is_empty-2.ensures c.if-not-is_empty-2.false
    c.is_empty-3.result c.is_empty-3.ensures
