-- The text of a path.
use Rattle.std.specs.Prelude.{ℕ, Bool, ◌&&◌, not, if◌then◌else◌, List, ◌++◌, map, codes}
use Rattle.std.specs.List.{join_with_byte}
use Rattle.ncq_path.specs.declared.path.Path.{Path}
use Rattle.ncq_path.specs.declared.path.Path.TheOpen.{Path-F}
use Rattle.ncq_path.specs.declared.path.Path.TheOpen.Path-F.{Tag, Seq, Alt, Star, Plus}
use Rattle.ncq_path.specs.declared.path.Path.TheFolds.{para-Path}
use Rattle.ncq_path.specs.Kinds.{is_alt, is_tag}

-- in round brackets, where this is so
abbrev pub bracketed : Bool → List ℕ → List ℕ
bracketed needed text = if needed then codes "(" ++ text ++ codes ")" else text

abbrev pub text_layer : Path-F (Path × List ℕ) → List ℕ
text_layer (Tag name) = name
text_layer (Seq items) = join_with_byte 46 (map (λ p. bracketed (is_alt p.0) p.1) items)
text_layer (Alt items) = join_with_byte 124 (map (λ p. p.1) items)
text_layer (Star item) = bracketed (not (is_tag item.0)) item.1 ++ codes "*"
text_layer (Plus item) = bracketed (not (is_tag item.0)) item.1 ++ codes "+"

-- names as they are, a sequence joined by `.`, an alternative by `|`, a star and a plus behind their
-- item; an alternative in a sequence, and every item of a star or plus but a name, in round brackets
unfoldable pub path_text : Path → List ℕ
path_text = para-Path (List ℕ) text_layer

-- the text of an item, an alternative in round brackets where these are wanted. Only the crate's
-- private clauses cite it.
abbrev pub item_text : Bool → Path → List ℕ
item_text brackets path = bracketed (brackets && is_alt path) (path_text path)
