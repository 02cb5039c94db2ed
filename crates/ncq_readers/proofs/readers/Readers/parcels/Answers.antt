use Rattle.ncq_midfile.specs.Shown.{rows_below}
use Rattle.ncq_readers.proofs.ReaderLaws.{equal_slots_had, have_slots}
use Rattle.ncq_readers.specs.contracts.readers.Readers.{the_view}
use Rattle.ncq_readers.proofs.readers.Readers.parcels.Goals as goal

pub add_equal_parcels-requires-clause-slots : goal.add_equal_parcels-requires-clause-slots
add_equal_parcels-requires-clause-slots g c = equal_slots_had (the_view c.self.inside) c.self.invariant (rows_below c.args.input.now) (have_slots (the_view c.self.inside) c.args.self.now c.self.view_is (rows_below c.args.input.now) c.requires.slots)
