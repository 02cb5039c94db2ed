-- Reading patterns from the front of a token list. The code reads by these; the grammar is apart
-- from them.
use Rattle.std.specs.Prelude.{◌++◌, ℕ, zero, suc, Bool, false, if◌then◌else◌}
use Rattle.std.specs.Prelude.{List, [], ◌∷◌, Option, Some, None}
use Rattle.ncq_path.specs.declared.path.Path.{Path}
use Rattle.ncq_path.specs.declared.path.Path.TheOpen.{Path-F}
use Rattle.ncq_path.specs.declared.path.Path.TheOpen.Path-F.{Tag, Seq, Alt, Star, Plus}
use Rattle.ncq_path.specs.declared.path.Path.TheFolds.{para-Path}
use Rattle.ncq_token.specs.declared.token.Token.{Token}
use Rattle.ncq_token.specs.declared.token.Token.TheVariants.{TagStart, TagEnd}
use Rattle.ncq_token.specs.declared.token.Token.TheVariants.{Name, Variable, Quoted, Word}
use Rattle.ncq_xmlql.specs.declared.model.Operand.TheVariants as operand
use Rattle.ncq_xmlql.specs.declared.model.Content.{Content}
use Rattle.ncq_xmlql.specs.declared.model.Content.TheVariants.{Parts, Value}
use Rattle.ncq_xmlql.specs.declared.model.Pattern.{Pattern}
use Rattle.ncq_xmlql.specs.declared.pattern.Opening.{Opening}
use Rattle.ncq_xmlql.specs.Reading.{Read, ◌>>=◌, is_same, checked, tail_at, end_close_at, suffix_at}
use Rattle.ncq_xmlql.specs.Reading.{words_at, starts_tag, many}
use Rattle.ncq_xmlql.specs.PathReading.{path_at}

-- the path of the tag that begins there
abbrev pub tag_path_at : ℕ → List Token → Read Path
tag_path_at depth (TagStart ∷ rest) = path_at depth rest
tag_path_at depth tokens = None

unfoldable pub pattern_opening_at : ℕ → List Token → Read Opening
pattern_opening_at depth tokens = do
  path ← tag_path_at depth tokens
  tail ← tail_at path.1
  Some (record { path = path.0; attributes = tail.0.0; is_empty = tail.0.1 }, tail.1)

abbrev pub is_name_layer : List ℕ → Path-F (Path × Bool) → Bool
is_name_layer name (Tag tag) = is_same tag name
is_name_layer name (Seq items) = false
is_name_layer name (Alt items) = false
is_name_layer name (Star item) = false
is_name_layer name (Plus item) = false

-- the path is the one name
unfoldable pub is_the_name : List ℕ → Path → Bool
is_the_name name = para-Path Bool (is_name_layer name)

-- what stands behind the end of a tag, which has a name only where the tag's path is that name
unfoldable pub path_end_at : Path → List Token → Option (List Token)
path_end_at path (TagEnd ∷ (Name name) ∷ rest) = checked (is_the_name name path) (end_close_at rest)
path_end_at path (TagEnd ∷ rest) = end_close_at rest
path_end_at path tokens = None

unfoldable pub content_at : (List Token → Read Pattern) → List Token → Read Content
content_at one ((Variable x) ∷ rest) = Some (Value (operand.Variable x), rest)
content_at one ((Quoted text) ∷ rest) = Some (Value (operand.Literal text), rest)
content_at one ((Word word) ∷ rest) = let more = words_at rest
    in Some (Value (operand.Literal (word ++ more.0)), more.1)
content_at one tokens = many starts_tag one tokens >>= λ parts. Some (Parts parts.0, parts.1)

abbrev pub body_at : (List Token → Read Pattern) → Opening → List Token → Read Content
body_at one opening tokens =
    if opening.is_empty then Some (Parts [], tokens)
    else (content_at one tokens >>= λ content. path_end_at opening.path content.1 >>= λ rest.
    Some (content.0, rest))

-- a pattern, whose parts are read by `one` and whose path nests less deep than the number
unfoldable pub pattern_of : ℕ → (List Token → Read Pattern) → List Token → Read Pattern
pattern_of depth one tokens = do
  opening ← pattern_opening_at depth tokens
  content ← body_at one opening.0 opening.1
  suffix ← suffix_at content.1
  Some (
    record {
      tag = opening.0.path;
      attributes = opening.0.attributes;
      content = content.0;
      suffix = suffix.0;
    },
    suffix.1,
  )

-- a pattern, nested no deeper than the number
unfoldable pub pattern_at : ℕ → List Token → Read Pattern
pattern_at zero tokens = None
pattern_at (suc depth) tokens = pattern_of depth (pattern_at depth) tokens
