-- How a declared source is seen. Only the crate's private clauses cite it.
use Rattle.ncq_source.specs.Held.{map_of}
use Rattle.ncq_source.specs.Stores.{Source}
use Rattle.ncq_source.specs.declared.declared.Declared.{Declared}

-- the source that callers see
abbrev pub source_of : Declared → Source
source_of d = record {
  name = d.name;
  root = d.root;
  key = d.key;
  elements = map_of d.elements.pairs;
  last = d.last;
  shown = d.elements.pairs;
  room = d.elements.room;
}
