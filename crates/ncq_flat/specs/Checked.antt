-- Lines that are canonical as they stand. Escapes are left to the slow way.
use Rattle.std.specs.Prelude.{◌≡◌, ℕ, ◌==◌, ◌&&◌, not, nat_eq, nat_lt, Bool, true, false, List, []}
use Rattle.std.specs.Prelude.{◌∷◌, if◌then◌else◌, map, reverse, length, Option, Some, None}
use Rattle.std.specs.List.{list_all, prefix_len}
use Rattle.std.specs.Option.{option_copied}
use Rattle.std.specs.Borrow.{Bor}
use lib.Pointwise.{pointwise}
use Rattle.ncq_base.specs.Escapes.{is_plain}
use Rattle.ncq_base.specs.Names.{is_pyx_name}
use Rattle.ncq_tree.specs.Normal.{is_before, is_trim}
use Rattle.ncq_pyx.specs.LineKinds.{is_no_blank, name_part, value_part}
use Rattle.ncq_flat.specs.declared.checking.Place.{Place as GivenPlace}
use Rattle.ncq_flat.specs.declared.checking.Place.TheVariants as given

-- what stands in front of a line in the innermost open element: its opening line and attributes,
-- the last of this name, if there is one; a child; or a text
pub data Place : Type 0 where
  Tag : Option (List ℕ) → Place
  Child : Place
  Text : Place

-- a text stands in front
abbrev pub is_said : Place → Bool
is_said (Tag last) = false
is_said Child = false
is_said Text = true

-- a text may stand there: it stands behind no other, and is trimmed and without escapes
abbrev pub is_text_at : Place → List ℕ → Bool
is_text_at place text = not (is_said place) && (list_all is_plain text && is_trim text)

-- a space ends the name of an attribute
abbrev pub has_blank : List ℕ → Bool
has_blank text = nat_lt (prefix_len is_no_blank text) (length text)

-- the text is the name and the value of an attribute, parted by the first space
pub record IsParted (text name value : List ℕ) : Type 0 where
  pub blank : has_blank text ≡ true
  pub name_is : name ≡ name_part text
  pub value_is : value ≡ value_part text

-- an attribute may stand there: its name stands behind the last one's, and its value is without
-- escapes
abbrev pub is_attribute_at : Place → List ℕ → Bool
is_attribute_at (Tag last) text = (has_blank text && is_pyx_name (name_part text))
    && (is_before last (name_part text) && list_all is_plain (value_part text))
is_attribute_at Child text = false
is_attribute_at Text text = false

-- the lines close the open elements, the innermost first, where that stands in front of them
abbrev pub are_checked : List (List ℕ) → Place → List (List ℕ) → Bool
are_checked [] place [] = true
are_checked [] place (line ∷ lines) = false
are_checked (name ∷ names) place [] = false
are_checked (name ∷ names) place ([] ∷ lines) = false
are_checked (name ∷ names) place ((mark ∷ word) ∷ lines) =
    if mark == 40 then is_pyx_name word && are_checked (word ∷ name ∷ names) (Tag None) lines
    else (if mark == 41 then pointwise nat_eq word name && are_checked names Child lines
    else (if mark == 45 then is_text_at place word && are_checked (name ∷ names) Text lines
    else ((mark == 65) && (is_attribute_at place word
    && are_checked (name ∷ names) (Tag (Some (name_part word))) lines))))

-- an element whose opening line is the first
abbrev pub is_checked : List (List ℕ) → Bool
is_checked [] = false
is_checked ([] ∷ lines) = false
is_checked ((mark ∷ word) ∷ lines) = (mark == 40)
    && (is_pyx_name word && are_checked (word ∷ []) (Tag None) lines)

-- what the code knows to stand in front
abbrev pub place_of : GivenPlace → Place
place_of (given.Tag last) = Tag (option_copied last)
place_of given.Child = Child
place_of given.Text = Text

-- the names of the open elements, the innermost first, from those in the order of their opening
abbrev pub open_names : List (Bor (List ℕ)) → List (List ℕ)
open_names names = reverse (map (λ name. name.now) names)

-- lines are canonical from this one on, where they are so behind it
abbrev pub Takes : List (List ℕ) → Place → List ℕ → List (List ℕ) → Place → Type 0
Takes names place line next behind = (lines : List (List ℕ))
    → are_checked next behind lines ≡ true → are_checked names place (line ∷ lines) ≡ true
