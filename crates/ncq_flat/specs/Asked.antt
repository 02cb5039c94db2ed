-- What is asked for, as the item that a block spells.
use Rattle.ncq_pyx.specs.declared.item.Item.{Item}
use Rattle.ncq_pyx.specs.declared.item.Item.TheVariants as items
use Rattle.ncq_flat.specs.declared.item.Asked.{Asked}
use Rattle.ncq_flat.specs.declared.item.Asked.TheVariants.{Put, Remove}

abbrev pub asked_of : Asked → Item
asked_of (Put element) = items.Put element
asked_of (Remove key) = items.Remove key
