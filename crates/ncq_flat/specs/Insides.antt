-- What stands inside the direct children of an element, found on its lines.
use Rattle.std.specs.Prelude.{ℕ, ◌+◌, ◌-◌, ◌==◌, ◌&&◌, nat_eq, Bool, false, if◌then◌else◌}
use Rattle.std.specs.Prelude.{List, [], ◌∷◌, ◌++◌, map}
use Rattle.ncq_tree.specs.declared.model.Element.{Element}
use Rattle.ncq_pyx.specs.Canonical.{attribute_line, canonical}
use lib.Pointwise.{pointwise}
use Rattle.ncq_flat.specs.Behind.{has_mark}
use Rattle.ncq_flat.specs.declared.child.Sight.{Sight}
use Rattle.ncq_flat.specs.declared.child.Sight.TheVariants.{Found, Closed, Open}

-- of each child whose opening line is wanted, the lines from inside it on; so many others are open
abbrev pub insides : (List ℕ → Bool) → ℕ → List (List ℕ) → List (List (List ℕ))
insides wanted depth [] = []
insides wanted depth (line ∷ lines) = if has_mark 40 line
    then (if (depth == 0) && wanted line then lines ∷ insides wanted (depth + 1) lines
    else insides wanted (depth + 1) lines)
    else (if has_mark 41 line then (if depth == 0 then [] else insides wanted (depth - 1) lines)
    else insides wanted depth lines)

-- the lines from inside an element on, with what follows behind it
abbrev pub inside_of : Element → List (List ℕ) → List (List ℕ)
inside_of e more = map attribute_line e.attributes ++ (canonical e.children ++ (41 ∷ e.name) ∷ more)

-- of an element: its inside, if it is wanted
abbrev pub if_wanted : (List ℕ → Bool) → Element → List (List ℕ) → List (List (List ℕ))
if_wanted wanted e more = if wanted (40 ∷ e.name) then inside_of e more ∷ [] else []

-- the opening line of the tag
abbrev pub opens : List ℕ → List ℕ → Bool
opens tag [] = false
opens tag (b ∷ name) = (b == 40) && pointwise nat_eq name tag

-- what a line is that stands inside so many others: a wanted child's, the closing line, or one
-- behind which so many are open
abbrev pub after : (List ℕ → Bool) → Sight → List (List ℕ) → List (List (List ℕ))
after wanted Found lines = lines ∷ insides wanted 1 lines
after wanted Closed lines = []
after wanted (Open depth) lines = insides wanted depth lines
