-- Reading templates from the front of a token list.
use Rattle.std.specs.Prelude.{ℕ, zero, suc, Bool, true, false, if◌then◌else◌, List, [], ◌∷◌, ◌++◌}
use Rattle.std.specs.Prelude.{map, Some, None}
use Rattle.ncq_token.specs.declared.token.Token.{Token}
use Rattle.ncq_token.specs.declared.token.Token.TheVariants.{TagStart, Variable, Quoted, Word}
use Rattle.ncq_xmlql.specs.declared.model.PatternAttribute.{PatternAttribute}
use Rattle.ncq_xmlql.specs.declared.model.TemplateAttribute.{TemplateAttribute}
use Rattle.ncq_xmlql.specs.declared.model.Template.{Template}
use Rattle.ncq_xmlql.specs.declared.model.Template.TheVariants as template
use Rattle.ncq_xmlql.specs.declared.parts.Tag.{Tag}
use Rattle.ncq_xmlql.specs.Reading.{Read, ◌>>=◌, opening_at, end_at, words_at, many}

-- attributes are written alike in patterns and in templates
abbrev pub template_attribute : PatternAttribute → TemplateAttribute
template_attribute a = record { name = a.name; value = a.value }

-- something of an element's content begins there
abbrev pub starts_part : List Token → Bool
starts_part (TagStart ∷ rest) = true
starts_part ((Variable x) ∷ rest) = true
starts_part ((Quoted text) ∷ rest) = true
starts_part ((Word word) ∷ rest) = true
starts_part tokens = false

-- what stands between the tags of an element
abbrev pub inside_at : (List Token → Read Template) → Tag → List Token → Read (List Template)
inside_at one opening tokens =
    if opening.is_empty then Some ([], tokens)
    else (many starts_part one tokens >>= λ content. end_at opening.name content.1 >>= λ rest.
    Some (content.0, rest))

-- an element, whose content is read by `one`
unfoldable pub element_of : (List Token → Read Template) → List Token → Read Template
element_of one tokens = do
  opening ← opening_at tokens
  content ← inside_at one opening.0 opening.1
  Some (
    template.Element opening.0.name (map template_attribute opening.0.attributes) content.0,
    content.1,
  )

-- an element, a variable, a quoted text or a run of words
unfoldable pub part_of : (List Token → Read Template) → List Token → Read Template
part_of one ((Variable x) ∷ rest) = Some (template.Variable x, rest)
part_of one ((Quoted text) ∷ rest) = Some (template.Literal text, rest)
part_of one ((Word word) ∷ rest) = let more = words_at rest
    in Some (template.Literal (word ++ more.0), more.1)
part_of one tokens = element_of one tokens

-- the same, nested no deeper than the number
unfoldable pub part_at : ℕ → List Token → Read Template
part_at zero tokens = None
part_at (suc depth) tokens = part_of (part_at depth) tokens

-- the whole template of a query
unfoldable pub top_at : ℕ → List Token → Read Template
top_at depth ((Variable x) ∷ rest) = Some (template.Variable x, rest)
top_at depth tokens = element_of (part_at depth) tokens
