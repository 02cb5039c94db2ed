-- Reading the items of a query: matches and conditions.
use Rattle.std.specs.Prelude.{ℕ, Bool, true, false, ◌||◌, not, if◌then◌else◌, List, [], ◌∷◌}
use Rattle.std.specs.Prelude.{Option, Some, None, codes}
use Rattle.ncq_base.specs.declared.atom.Op.{Op}
use Rattle.ncq_token.specs.declared.token.Token.{Token}
use Rattle.ncq_token.specs.declared.token.Token.TheVariants.{Variable, Quoted, Word, Cmp, Comma}
use Rattle.ncq_xmlql.specs.declared.model.Operand.{Operand}
use Rattle.ncq_xmlql.specs.declared.model.Operand.TheVariants as operand
use Rattle.ncq_xmlql.specs.declared.model.Pattern.{Pattern}
use Rattle.ncq_xmlql.specs.declared.model.QueryItem.{QueryItem}
use Rattle.ncq_xmlql.specs.declared.model.QueryItem.TheVariants.{Match, Condition, Satisfies}
use Rattle.ncq_xmlql.specs.Reading.{Read, ◌>>=◌, is_keyword, checked, tag_at, end_close_at, end_at}
use Rattle.ncq_xmlql.specs.Reading.{lowered, variable_at, starts_tag, many}
use Rattle.ncq_xmlql.specs.PatternReading.{pattern_at}

abbrev pub literal_at : List Token → Read (List ℕ)
literal_at ((Quoted text) ∷ rest) = Some (text, rest)
literal_at ((Word text) ∷ rest) = Some (text, rest)
literal_at tokens = None

-- "in", and the name of a source
abbrev pub source_at : List Token → Read (List ℕ)
source_at ((Word word) ∷ rest) = checked (is_keyword (codes "in") word) (literal_at rest)
source_at tokens = None

abbrev pub root_at : List Token → Read (List ℕ)
root_at tokens = tag_at tokens >>= λ tag. end_close_at tag.1 >>= λ rest. Some (tag.0, rest)

abbrev pub has_arm : List Pattern → Bool
has_arm [] = false
has_arm (arm ∷ arms) = true

unfoldable pub match_at : ℕ → List Token → Read QueryItem
match_at depth tokens = do
  root ← root_at tokens
  arms ← many starts_tag (pattern_at depth) root.1
  end ← checked (has_arm arms.0) (end_at root.0 arms.1)
  source ← source_at end
  Some (Match root.0 arms.0 source.0, source.1)

abbrev pub operand_at : List Token → Read Operand
operand_at ((Variable x) ∷ rest) = Some (operand.Variable x, rest)
operand_at ((Quoted text) ∷ rest) = Some (operand.Literal text, rest)
operand_at ((Word text) ∷ rest) = Some (operand.Literal text, rest)
operand_at tokens = None

abbrev pub op_at : List Token → Read Op
op_at ((Cmp op) ∷ rest) = Some (op, rest)
op_at tokens = None

abbrev pub is_variable : Operand → Bool
is_variable (operand.Variable x) = true
is_variable (operand.Literal text) = false

unfoldable pub comparison_at : List Token → Read QueryItem
comparison_at tokens = do
  left ← operand_at tokens
  op ← op_at left.1
  right ← operand_at op.1
  checked (is_variable left.0 || is_variable right.0)
      (Some (Condition left.0 op.0 right.0, right.1))

abbrev pub starts_satisfies : List Token → Bool
starts_satisfies ((Word word) ∷ rest) = is_keyword (codes "satisfies") word
starts_satisfies tokens = false

-- a variable with the word `satisfies` behind it
abbrev pub asks : List Token → Bool
asks ((Variable x) ∷ rest) = starts_satisfies rest
asks tokens = false

-- a word that is passed over, then the name of a predicate in lower case
abbrev pub predicate_at : List Token → Read (List ℕ)
predicate_at ((Word word) ∷ (Word name) ∷ rest) = Some (lowered name, rest)
predicate_at tokens = None

-- whether an argument stands in front
abbrev pub starts_argument : List Token → Bool
starts_argument ((Quoted text) ∷ rest) = true
starts_argument ((Word word) ∷ rest) = not (is_keyword (codes "construct") word)
starts_argument tokens = false

-- the argument of a predicate, or none: `construct` is none
abbrev pub value_behind : List Token → Read (Option (List ℕ))
value_behind ((Quoted text) ∷ rest) = Some (Some text, rest)
value_behind ((Word word) ∷ rest) = if is_keyword (codes "construct") word
    then Some (None, Word word ∷ rest) else Some (Some word, rest)
value_behind tokens = Some (None, tokens)

unfoldable pub satisfies_at : List Token → Read QueryItem
satisfies_at tokens = do
  variable ← variable_at tokens
  predicate ← predicate_at variable.1
  argument ← value_behind predicate.1
  Some (Satisfies variable.0 predicate.0 argument.0, argument.1)

abbrev pub condition_at : List Token → Read QueryItem
condition_at tokens = if asks tokens then satisfies_at tokens else comparison_at tokens

abbrev pub item_at : ℕ → List Token → Read QueryItem
item_at depth tokens = if starts_tag tokens then match_at depth tokens else condition_at tokens

abbrev pub next_item_at : ℕ → List Token → Read QueryItem
next_item_at depth (Comma ∷ rest) = item_at depth rest
next_item_at depth tokens = None

abbrev pub starts_construct : List Token → Bool
starts_construct ((Word word) ∷ rest) = is_keyword (codes "construct") word
starts_construct tokens = false

-- a comma that another item follows: behind it `construct` is always the keyword
abbrev pub continues : List Token → Bool
continues (Comma ∷ rest) = not (starts_construct rest)
continues tokens = false

unfoldable pub items_at : ℕ → List Token → Read (List QueryItem)
items_at depth tokens = do
  first ← match_at depth tokens
  more ← many continues (next_item_at depth) first.1
  Some (first.0 ∷ more.0, more.1)
