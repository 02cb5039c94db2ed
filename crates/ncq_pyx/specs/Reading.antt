-- What a reader holds, against what the lines spell. Only the crate's private clauses cite it.
use Rattle.std.specs.Prelude.{◌≡◌, ◌≤◌, ◌<◌, ◌+◌, ℕ, Bool, true, false, List, [], ◌∷◌, ◌++◌, map}
use Rattle.std.specs.Prelude.{reverse, Option, Some, None, Result, Ok, Err, vec_len}
use Rattle.std.specs.Option.{option_map}
use Rattle.ncq_tree.specs.declared.model.Attribute.{Attribute}
use Rattle.ncq_tree.specs.declared.model.Element.{Element}
use Rattle.ncq_pyx.specs.declared.reader.OpenElement.{OpenElement}
use Rattle.ncq_pyx.specs.declared.turns.Turn.{Turn}
use Rattle.ncq_pyx.specs.declared.turns.Turn.TheVariants.{Nothing, Begin, Give, Say, Finish, Erase}
use Rattle.ncq_pyx.specs.declared.item.Item.{Item}
use Rattle.ncq_pyx.specs.declared.turns.Stop.{Stop}
use Rattle.ncq_pyx.specs.declared.turns.Stop.TheVariants.{Fault, TooDeep, OutOfMemory}
use Rattle.ncq_pyx.specs.declared.reader.Reader.{Reader}
use Rattle.ncq_pyx.specs.declared.error.PyxError.{PyxError}
use Rattle.ncq_pyx.specs.declared.error.PyxError.TheVariants as errors
use Rattle.ncq_pyx.specs.Spells.{Place, Content, Rest, begun, told, moved, spell, spelled}

-- the open elements with what was read of each, the innermost first
abbrev pub frames_of : Reader → List OpenElement
frames_of reader = reverse reader.stack.items

abbrev pub given_of : Bool → List OpenElement → Option (List Attribute)
given_of in_tag [] = None
given_of false (frame ∷ frames) = None
given_of true (frame ∷ frames) = Some frame.attributes

abbrev pub names_of : List OpenElement → List (List ℕ)
names_of = map (λ (e : OpenElement). e.name)

abbrev pub place_at : List OpenElement → Bool → Place
place_at frames in_tag = record { open_names = names_of frames; given = given_of in_tag frames }

-- what was read of the innermost element, before what is to come in it
abbrev pub behind : OpenElement → List Content → List Content
behind frame [] = []
behind frame (content ∷ contents) = record {
  attributes = frame.attributes ++ content.attributes;
  nodes = frame.children ++ content.nodes;
} ∷ contents

-- all items, from what was read and what is to come
abbrev pub filled : List OpenElement → List Item → Rest → List Item
filled [] items rest = items ++ rest.items
filled (frame ∷ frames) items rest
    = filled frames items (begun (names_of frames) frame.name
    (record { contents = behind frame rest.contents; items = rest.items }))

abbrev pub place_of : Reader → Place
place_of reader = place_at (frames_of reader) reader.in_tag

abbrev pub whole_of : Reader → Rest → List Item
whole_of reader = filled (frames_of reader) reader.items

-- a deletion comes outside elements alone
abbrev pub ErasesOutside : ℕ → Turn → Type 0
ErasesOutside depth Nothing = Unit {0}
ErasesOutside depth (Begin name) = Unit {0}
ErasesOutside depth (Give attribute) = Unit {0}
ErasesOutside depth (Say text) = Unit {0}
ErasesOutside depth Finish = Unit {0}
ErasesOutside depth (Erase key) = depth ≡ 0

-- the reader took the turn
pub record Takes (old new : Reader) (turn : Turn) : Type 0 where
  pub place : place_of new ≡ moved turn (place_of old)
  pub whole : (rest : Rest) → whole_of new rest ≡ whole_of old (told turn (place_of old) rest)

-- the element, which was closed, was put where it belongs
pub record Places (old new : Reader) (element : Element) : Type 0 where
  pub in_tag : new.in_tag ≡ old.in_tag
  pub names : names_of (frames_of new) ≡ names_of (frames_of old)
  pub whole : (rest : Rest) → whole_of new rest
      ≡ whole_of old (begun (names_of (frames_of old)) element.name (record {
        contents = record { attributes = element.attributes; nodes = element.children } ∷
            rest.contents;
        items = rest.items;
      }))

-- the reader took the line
abbrev pub TakesLine : ℕ → Reader → Reader → List ℕ → Type 0
TakesLine limit old new line = (bound : ℕ) → limit ≤ bound → (lines : List (List ℕ)) →
    option_map (whole_of old) (spell bound (line ∷ lines) (place_of old))
    ≡ option_map (whole_of new) (spell bound lines (place_of new))

-- why the reader took no line
abbrev pub Refuses : ℕ → Reader → List ℕ → Stop → Type 0
Refuses limit old line Fault = (bound : ℕ) (lines : List (List ℕ))
    → spell bound (line ∷ lines) (place_of old) ≡ None
Refuses limit old line TooDeep = ((lines : List (List ℕ))
    → spell limit (line ∷ lines) (place_of old) ≡ None)
    × ((bound : ℕ) → limit < bound
    → (lines : List (List ℕ)) × (rest : Rest)
    × (spell bound (line ∷ lines) (place_of old) ≡ Some rest))
Refuses limit old line OutOfMemory = Unit {0}

abbrev pub Answers : ℕ → Reader → Reader → List ℕ → Result Unit Stop → Type 0
Answers limit old new line (Ok done) = TakesLine limit old new line
Answers limit old new line (Err why) = Refuses limit old line why

-- the error for the line of this number
abbrev pub refusal_of : ℕ → Stop → PyxError
refusal_of number Fault = errors.BadLine number
refusal_of number TooDeep = errors.TooDeep number
refusal_of number OutOfMemory = errors.OutOfMemory

-- the reader's items, where no element is open; else the line behind the last is bad
abbrev pub Ends : Reader → ℕ → Result (List Item) PyxError → Type 0
Ends reader count (Ok items) = (items ≡ reader.items) × (frames_of reader ≡ [])
Ends reader count (Err why) = (why ≡ errors.BadLine (count + 1)) × (0 < vec_len reader.stack)

-- the reader stands behind these lines
abbrev pub Stands : ℕ → List (List ℕ) → Reader → Type 0
Stands limit done reader = (bound : ℕ) → limit ≤ bound → (lines : List (List ℕ)) →
    spelled bound (done ++ lines) ≡ option_map (whole_of reader)
    (spell bound lines (place_of reader))
