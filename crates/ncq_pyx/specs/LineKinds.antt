-- What one line of a block is.
use Rattle.std.specs.Prelude.{ℕ, Bool, ◌&&◌, ◌||◌, not, ◌==◌, nat_eq, List, [], ◌∷◌, ◌+◌, take}
use Rattle.std.specs.Prelude.{drop, Option, Some, None, if◌then◌else◌}
use Rattle.std.specs.List.{list_all, prefix_len}
use Rattle.std.specs.BTreeSet.{BTreeSet, contains}
use Rattle.std.specs.Cmp.Lexicographic.{slice_cmp}
use Rattle.std.specs.Ordering.{nat_cmp}
use lib.Pointwise.{pointwise}
use Rattle.ncq_base.specs.Escapes.{unescaped}
use Rattle.ncq_base.specs.Names.{is_space, is_pyx_name}
use Rattle.ncq_tree.specs.Normal.{has_name}
use Rattle.ncq_tree.specs.declared.model.Attribute.{Attribute}
use Rattle.ncq_pyx.specs.declared.turns.Turn.{Turn}
use Rattle.ncq_pyx.specs.declared.turns.Turn.TheVariants.{Nothing, Begin, Give, Say, Finish, Erase}

-- the same bytes
abbrev pub same : List ℕ → List ℕ → Bool
same = pointwise nat_eq

-- not a space
abbrev pub is_no_blank : ℕ → Bool
is_no_blank b = not (b == 32)

-- the name of an attribute ends at the first space
abbrev pub name_part : List ℕ → List ℕ
name_part text = take (prefix_len is_no_blank text) text

-- the value is all behind that space
abbrev pub value_part : List ℕ → List ℕ
value_part text = drop (prefix_len is_no_blank text + 1) text

-- an opening line, where what follows is a name
abbrev pub begin_of : List ℕ → Option Turn
begin_of name = if is_pyx_name name then Some (Begin name) else None

-- an attribute line, where attributes may stand and these stand already: its name is none of theirs
abbrev pub give_of : Option (List Attribute) → List ℕ → Option Turn
give_of None text = None
give_of (Some given) text =
    if is_pyx_name (name_part text) && not (has_name given (name_part text))
    then Some (Give (record { name = name_part text; value = unescaped (value_part text) }))
    else None

-- character data, inside an element or, if it is white space, outside
abbrev pub say_of : Option (List ℕ) → List ℕ → Option Turn
say_of None text = if list_all is_space text then Some Nothing else None
say_of (Some name) text = Some (Say text)

-- a closing line, where this is the innermost open element
abbrev pub finish_of : Option (List ℕ) → List ℕ → Option Turn
finish_of None text = None
finish_of (Some name) text = if same name text then Some Finish else None

-- a deletion, outside elements
abbrev pub erase_of : Option (List ℕ) → List ℕ → Option Turn
erase_of None text = Some (Erase (unescaped text))
erase_of (Some name) text = None

-- `?`, `C`, `D`, `N` and `U` begin lines that are skipped
abbrev pub is_skipped : ℕ → Bool
is_skipped b = (b == 63) || (b == 67) || (b == 68) || (b == 78) || (b == 85)

-- what a line is, by its first byte, behind the innermost open tag with this name, if there is one,
-- and with these attributes, if more may stand here
abbrev pub turn_at : Option (List ℕ) → Option (List Attribute) → List ℕ → Option Turn
turn_at innermost given [] = Some Nothing
turn_at innermost given (b ∷ text) =
    if is_skipped b then Some Nothing else
    (if b == 40 then begin_of text else
    (if b == 65 then give_of given text else
    (if b == 45 then say_of innermost (unescaped text) else
    (if b == 41 then finish_of innermost text else
    (if b == 33 then erase_of innermost text else
    None)))))

-- the set has the name
abbrev pub is_among : BTreeSet (List ℕ) → List ℕ → Bool
is_among names = contains (slice_cmp nat_cmp) names
