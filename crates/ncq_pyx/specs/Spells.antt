-- What the lines of a block spell, and where its first fault is.
use Rattle.std.specs.Prelude.{◌≡◌, ◌+◌, ◌<◌, ◌≤◌, ℕ, Bool, true, nat_lt, List, [], ◌∷◌, ◌++◌}
use Rattle.std.specs.Prelude.{length, take, Option, Some, None, Result, Ok, Err, ◌⊎◌, if◌then◌else◌}
use Rattle.std.specs.Option.{option_map}
use Rattle.ncq_tree.specs.Normal.{whole_normal}
use Rattle.ncq_tree.specs.declared.model.Attribute.{Attribute}
use Rattle.ncq_tree.specs.declared.model.Element.{Element}
use Rattle.ncq_tree.specs.declared.model.Node.{Node}
use Rattle.ncq_tree.specs.declared.model.Node.TheVariants.{Text, Element as element_node}
use Rattle.ncq_pyx.specs.declared.turns.Turn.{Turn}
use Rattle.ncq_pyx.specs.declared.turns.Turn.TheVariants.{Nothing, Begin, Give, Say, Finish, Erase}
use Rattle.ncq_pyx.specs.declared.item.Item.{Item}
use Rattle.ncq_pyx.specs.declared.item.Item.TheVariants.{Put, Remove}
use Rattle.ncq_pyx.specs.declared.error.PyxError.{PyxError}
use Rattle.ncq_pyx.specs.declared.error.PyxError.TheVariants.{BadLine, TooDeep, OutOfMemory}
use Rattle.ncq_pyx.specs.LineKinds.{turn_at}

-- where a line stands: the names of the open elements, the innermost first, and the attributes of
-- the innermost so far, if more may stand here
pub record Place : Type 0 where
  pub open_names : List (List ℕ)
  pub given : Option (List Attribute)

-- at the first line no element is open
abbrev pub outside : Place
outside = record { open_names = []; given = None }

-- the name of the innermost open element, if there is one
abbrev pub innermost : List (List ℕ) → Option (List ℕ)
innermost [] = None
innermost (name ∷ names) = Some name

-- the names of the others
abbrev pub outer : List (List ℕ) → List (List ℕ)
outer [] = []
outer (name ∷ names) = names

-- what a line does where it stands
abbrev pub turn : Place → List ℕ → Option Turn
turn place line = turn_at (innermost place.open_names) place.given line

-- whether no more elements are open behind the turn, if so many are before it
abbrev pub fits : ℕ → ℕ → Turn → Bool
fits limit depth Nothing = true
fits limit depth (Begin name) = nat_lt depth limit
fits limit depth (Give attribute) = true
fits limit depth (Say text) = true
fits limit depth Finish = true
fits limit depth (Erase key) = true

-- an attribute more, where attributes may stand
abbrev pub one_more : Option (List Attribute) → Attribute → Option (List Attribute)
one_more None attribute = None
one_more (Some given) attribute = Some (given ++ attribute ∷ [])

-- where the next line stands
abbrev pub moved : Turn → Place → Place
moved Nothing place = place
moved (Begin name) place = record { open_names = name ∷ place.open_names; given = Some [] }
moved (Give attribute) place = record {
  open_names = place.open_names;
  given = one_more place.given attribute;
}
moved (Say text) place = record { open_names = place.open_names; given = None }
moved Finish place = record { open_names = outer place.open_names; given = None }
moved (Erase key) place = place

-- what is still to come in an open element
pub record Content : Type 0 where
  pub attributes : List Attribute
  pub nodes : List Node

-- nothing is to come
abbrev pub no_content : Content
no_content = record { attributes = []; nodes = [] }

-- what is still to come: in each open element, the innermost first, and as items
pub record Rest : Type 0 where
  pub contents : List Content
  pub items : List Item

-- nothing is to come anywhere
abbrev pub nothing : Rest
nothing = record { contents = []; items = [] }

-- the attribute comes first in the innermost element
abbrev pub with_attribute : Attribute → List Content → List Content
with_attribute attribute [] = []
with_attribute attribute (content ∷ contents)
    = record { attributes = attribute ∷ content.attributes; nodes = content.nodes } ∷ contents

-- the node comes first in the innermost element
abbrev pub with_node : Node → List Content → List Content
with_node node [] = []
with_node node (content ∷ contents)
    = record { attributes = content.attributes; nodes = node ∷ content.nodes } ∷ contents

-- what is to come in the innermost element
abbrev pub first_content : List Content → Content
first_content [] = no_content
first_content (content ∷ contents) = content

-- what is to come in the others
abbrev pub other_contents : List Content → List Content
other_contents [] = []
other_contents (content ∷ contents) = contents

-- the element with this name and content
abbrev pub element_of : List ℕ → Content → Element
element_of name content = record {
  name = name;
  attributes = content.attributes;
  children = content.nodes;
}

-- a put of an element in normal form
abbrev pub put : Element → Item
put element = Put (whole_normal element)

-- behind an opening line with these names open round it: what is to come in the innermost element
-- is the element's
abbrev pub begun : List (List ℕ) → List ℕ → Rest → Rest
begun [] name rest = record {
  contents = [];
  items = put (element_of name (first_content rest.contents)) ∷ rest.items;
}
begun (outer ∷ names) name rest = record {
  contents = with_node (element_node (element_of name (first_content rest.contents)))
      (other_contents rest.contents);
  items = rest.items;
}

-- what is to come from a line on, from what is to come behind it
abbrev pub told : Turn → Place → Rest → Rest
told Nothing place rest = rest
told (Begin name) place rest = begun place.open_names name rest
told (Give attribute) place rest
    = record { contents = with_attribute attribute rest.contents; items = rest.items }
told (Say text) place rest = record {
  contents = with_node (Text text) rest.contents;
  items = rest.items;
}
told Finish place rest = record { contents = no_content ∷ rest.contents; items = rest.items }
told (Erase key) place rest = record { contents = rest.contents; items = Remove key ∷ rest.items }

-- no element is open
abbrev pub spell_end : List (List ℕ) → Option Rest
spell_end [] = Some nothing
spell_end (name ∷ names) = None

-- a turn that is none, or opens too deep an element, ends it
abbrev pub spell_turn : ℕ → (Place → Option Rest) → Place → Option Turn → Option Rest
spell_turn limit more place None = None
spell_turn limit more place (Some found)
    = if fits limit (length place.open_names) found
    then option_map (told found place) (more (moved found place)) else None

-- what the lines spell from this place on, with at most so many elements open
abbrev pub spell : ℕ → List (List ℕ) → Place → Option Rest
spell limit [] place = spell_end place.open_names
spell limit (line ∷ lines) place
    = spell_turn limit (λ p. spell limit lines p) place (turn place line)

-- the items that the lines spell
abbrev pub spelled : ℕ → List (List ℕ) → Option (List Item)
spelled limit lines = option_map (λ (rest : Rest). rest.items) (spell limit lines outside)

-- the lines spell these items
abbrev pub Spells : ℕ → List (List ℕ) → List Item → Type 0
Spells limit lines items = spelled limit lines ≡ Some items

-- the lines spell some items
abbrev pub IsBlock : ℕ → List (List ℕ) → Type 0
IsBlock limit lines = (items : List Item) × Spells limit lines items

-- some lines behind these make a block
abbrev pub CanGoOn : ℕ → List (List ℕ) → Type 0
CanGoOn limit lines = (more : List (List ℕ)) × IsBlock limit (lines ++ more)

-- no continuation of the lines up to this one is a block, but some continuation of those before it;
-- or the lines end inside an element, and this is their number plus 1
abbrev pub EndsAt : ℕ → List (List ℕ) → ℕ → Type 0
EndsAt limit lines k = ((k < length lines) × ¬ CanGoOn limit (take (k + 1) lines))
    ⊎ ((k ≡ length lines) × ¬ IsBlock limit lines)

-- the first fault is at line n, counted from 1: the lines before it can go on to a block, and not
-- with it
pub record IsFault (limit : ℕ) (lines : List (List ℕ)) (n : ℕ) : Type 0 where
  pub before : ℕ
  pub next : n ≡ before + 1
  pub good : CanGoOn limit (take before lines)
  pub bad : EndsAt limit lines before

-- the first fault is the depth: with one more element open it would be none
pub record IsTooDeep (limit : ℕ) (lines : List (List ℕ)) (n : ℕ) : Type 0 where
  pub fault : IsFault limit lines n
  pub within : n ≤ length lines
  pub deeper : CanGoOn (limit + 1) (take n lines)

-- the first fault is another
pub record IsBadLine (limit : ℕ) (lines : List (List ℕ)) (n : ℕ) : Type 0 where
  pub fault : IsFault limit lines n
  pub other : n ≤ length lines → ¬ CanGoOn (limit + 1) (take n lines)

-- what is to be answered
abbrev pub Refusal : ℕ → List (List ℕ) → PyxError → Type 0
Refusal limit lines (BadLine n) = IsBadLine limit lines n
Refusal limit lines (TooDeep n) = IsTooDeep limit lines n
Refusal limit lines OutOfMemory = Unit {0}

-- the answer is right: the items that the lines spell, or a refusal that is due
abbrev pub Reads : ℕ → List (List ℕ) → Result (List Item) PyxError → Type 0
Reads limit lines (Ok items) = Spells limit lines items
Reads limit lines (Err why) = Refusal limit lines why

-- an answer that tells something of the lines
abbrev pub IsAnswer : Result (List Item) PyxError → Type 0
IsAnswer (Ok items) = Unit {0}
IsAnswer (Err (BadLine n)) = Unit {0}
IsAnswer (Err (TooDeep n)) = Unit {0}
IsAnswer (Err OutOfMemory) = ⊥

-- the answer is this, unless memory ran out
abbrev pub Gives : Result (List Item) PyxError → Result (List Item) PyxError → Type 0
Gives (Ok items) wanted = Ok items ≡ wanted
Gives (Err (BadLine n)) wanted = Err (BadLine n) ≡ wanted
Gives (Err (TooDeep n)) wanted = Err (TooDeep n) ≡ wanted
Gives (Err OutOfMemory) wanted = Unit {0}
