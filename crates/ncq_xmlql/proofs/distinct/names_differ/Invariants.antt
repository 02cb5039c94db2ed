use Rattle.std.proofs.Common.{◌≡◌, true, take}
use Rattle.ncq_xmlql.specs.Reading.{all_differ, names_of}
use Rattle.ncq_xmlql.proofs.NameLaws.{Knows}
use Rattle.ncq_xmlql.proofs.distinct.names_differ.Given as goal

abbrev pub invariant-loop-attribute : goal.invariant-loop-attribute
invariant-loop-attribute l =
    record {
      differ : all_differ (names_of (take l.attribute-index l.attributes)) ≡ true;
      knows : Knows l.seen (names_of (take l.attribute-index l.attributes));
    }
