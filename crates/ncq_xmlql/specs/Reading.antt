-- Reading the parts of tags from the front of a token list. The code reads by these; the grammar is
-- apart from them.
use Rattle.std.specs.Prelude.{◌≡◌, ◌++◌, ℕ, zero, suc, Bool, true, false, ◌&&◌, not, if◌then◌else◌}
use Rattle.std.specs.Prelude.{List, [], ◌∷◌, length, map, Option, Some, None, Result, Ok, Err}
use Rattle.std.specs.Prelude.{codes}
use Rattle.std.specs.Char.{to_ascii_lowercase}
use Rattle.std.specs.List.{list_any}
use Rattle.std.specs.Option.{option_and_then}
use Rattle.std.specs.Str.{bytes_eq, str_eq_ignore_ascii_case}
use Rattle.ncq_base.specs.declared.atom.Op.TheVariants.{Eq}
use Rattle.ncq_token.specs.declared.token.Token.{Token}
use Rattle.ncq_token.specs.declared.token.Token.TheVariants.{TagStart, TagEnd, TagClose, EmptyClose}
use Rattle.ncq_token.specs.declared.token.Token.TheVariants.{Name, Variable, Quoted, Word, Cmp}
use Rattle.ncq_xmlql.specs.declared.model.Operand.{Operand}
use Rattle.ncq_xmlql.specs.declared.model.Operand.TheVariants as operand
use Rattle.ncq_xmlql.specs.declared.model.PatternAttribute.{PatternAttribute}
use Rattle.ncq_xmlql.specs.declared.model.Suffix.{Suffix}
use Rattle.ncq_xmlql.specs.declared.model.Suffix.TheVariants.{Plain, ElementAs, ContentAs}
use Rattle.ncq_xmlql.specs.declared.parts.Tag.{Tag}
use Rattle.ncq_xmlql.specs.declared.mismatch.Mismatch.{Mismatch}
use Rattle.ncq_xmlql.specs.declared.mismatch.Mismatch.TheVariants.{OutOfMemory, NotSpelled}

-- a value at the front of the tokens, and the tokens behind it
abbrev pub Read : Type 0 → Type 0
Read A = Option (A × List Token)

-- std's `and_then`, between its two sides
infixl 10 ◌>>=◌
abbrev pub ◌>>=◌ : {A B : Type 0} → Option A → (A → Option B) → Option B
o >>= f = option_and_then f o

-- What a call answered, seen by view, is what is read, unless memory ran out.
abbrev pub Fails : {Y : Type 0} → Mismatch → Option Y → Type 0
Fails OutOfMemory read = Unit {0}
Fails NotSpelled read = read ≡ None

abbrev pub Gives : {X Y : Type 0} → (X → Y) → Result X Mismatch → Option Y → Type 0
Gives view (Ok x) read = read ≡ Some (view x)
Gives view (Err e) read = Fails e read

-- two names of the same bytes
abbrev pub is_same : List ℕ → List ℕ → Bool
is_same = bytes_eq

-- a word, in any case of letters
abbrev pub is_keyword : List ℕ → List ℕ → Bool
is_keyword keyword word = str_eq_ignore_ascii_case word keyword

-- a word in lower case
abbrev pub lowered : List ℕ → List ℕ
lowered word = map to_ascii_lowercase word

-- the value of an attribute, behind its name
abbrev pub value_at : List Token → Read Operand
value_at ((Cmp Eq) ∷ (Quoted text) ∷ rest) = Some (operand.Literal text, rest)
value_at ((Cmp Eq) ∷ (Variable x) ∷ rest) = Some (operand.Variable x, rest)
value_at tokens = None

abbrev pub with_attribute : List ℕ → Operand → Read (List PatternAttribute)
    → Read (List PatternAttribute)
with_attribute name value more
    = more >>= λ m. Some (record { name = name; value = value } ∷ m.0, m.1)

-- the attributes, up to what is no name
unfoldable pub attributes_at : List Token → Read (List PatternAttribute)
attributes_at ((Name name) ∷ (Cmp Eq) ∷ (Quoted text) ∷ rest)
    = with_attribute name (operand.Literal text) (attributes_at rest)
attributes_at ((Name name) ∷ (Cmp Eq) ∷ (Variable x) ∷ rest)
    = with_attribute name (operand.Variable x) (attributes_at rest)
attributes_at ((Name name) ∷ rest) = None
attributes_at tokens = Some ([], tokens)

-- one of the names is this one
abbrev pub has_name : List ℕ → List (List ℕ) → Bool
has_name name names = list_any (λ other. is_same other name) names

-- no name comes twice
abbrev pub all_differ : List (List ℕ) → Bool
all_differ [] = true
all_differ (name ∷ more) = not (has_name name more) && all_differ more

abbrev pub names_of : List PatternAttribute → List (List ℕ)
names_of attributes = map (λ a. a.name) attributes

-- no two attributes have one name
abbrev pub names_differ : List PatternAttribute → Bool
names_differ attributes = all_differ (names_of attributes)

-- how a tag closes: whether it is empty
abbrev pub close_at : List Token → Read Bool
close_at (TagClose ∷ rest) = Some (false, rest)
close_at (EmptyClose ∷ rest) = Some (true, rest)
close_at tokens = None

abbrev pub name_at : List Token → Read (List ℕ)
name_at ((Name name) ∷ rest) = Some (name, rest)
name_at tokens = None

abbrev pub variable_at : List Token → Read (List ℕ)
variable_at ((Variable x) ∷ rest) = Some (x, rest)
variable_at tokens = None

abbrev pub tag_at : List Token → Read (List ℕ)
tag_at (TagStart ∷ rest) = name_at rest
tag_at tokens = None

-- only where it holds
abbrev pub checked : {A : Type 0} → Bool → Option A → Option A
checked true o = o
checked false o = None

-- what stands in a tag behind its name or path: attributes of which no two have one name, and
-- whether the tag is empty
unfoldable pub tail_at : List Token → Read (List PatternAttribute × Bool)
tail_at tokens = do
  attributes ← attributes_at tokens
  close ← checked (names_differ attributes.0) (close_at attributes.1)
  Some ((attributes.0, close.0), close.1)

unfoldable pub opening_at : List Token → Read Tag
opening_at tokens = do
  tag ← tag_at tokens
  tail ← tail_at tag.1
  Some (record { name = tag.0; attributes = tail.0.0; is_empty = tail.0.1 }, tail.1)

-- `>` behind the name of a tag's end, or behind `</`
abbrev pub end_close_at : List Token → Option (List Token)
end_close_at (TagClose ∷ rest) = Some rest
end_close_at tokens = None

-- what stands behind the end of a tag
unfoldable pub end_at : List ℕ → List Token → Option (List Token)
end_at tag (TagEnd ∷ (Name name) ∷ rest) = checked (is_same tag name) (end_close_at rest)
end_at tag (TagEnd ∷ rest) = end_close_at rest
end_at tag tokens = None

unfoldable pub suffix_at : List Token → Read Suffix
suffix_at ((Word word) ∷ rest) =
    if is_keyword (codes "element_as") word then
    (variable_at rest >>= λ x. Some (ElementAs x.0, x.1))
    else (if is_keyword (codes "content_as") word then
    (variable_at rest >>= λ x. Some (ContentAs x.0, x.1))
    else Some (Plain, Word word ∷ rest))
suffix_at tokens = Some (Plain, tokens)

-- the words in front, each behind a space, and what stands behind them
abbrev pub words_at : List Token → List ℕ × List Token
words_at ((Word word) ∷ rest) = let more = words_at rest in (32 ∷ word ++ more.0, more.1)
words_at tokens = ([], tokens)

-- text in front of words
abbrev pub with_text : List ℕ → List ℕ × List Token → List ℕ × List Token
with_text front found = (front ++ found.0, found.1)

abbrev pub starts_tag : List Token → Bool
starts_tag (TagStart ∷ rest) = true
starts_tag tokens = false

-- one behind the other, as long as one starts. The number bounds the turns: the count of the tokens
-- is always enough
unfoldable pub many_in : {A : Type 0} → (List Token → Bool) → (List Token → Read A) → ℕ → List Token
    → Read (List A)
many_in starts one zero tokens = Some ([], tokens)
many_in starts one (suc turns) tokens =
    if starts tokens
    then (one tokens >>= λ first. many_in starts one turns first.1 >>= λ more.
    Some (first.0 ∷ more.0, more.1))
    else Some ([], tokens)

abbrev pub many : {A : Type 0} → (List Token → Bool) → (List Token → Read A) → List Token
    → Read (List A)
many starts one tokens = many_in starts one (length tokens) tokens
