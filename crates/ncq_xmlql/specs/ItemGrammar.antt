-- The grammar of items.
use Rattle.std.specs.Prelude.{◌≡◌, ◌||◌, ℕ, false, IsTrue, List, [], ◌∷◌, codes}
use Rattle.std.specs.Prelude.{Option, Some, None}
use Rattle.ncq_base.specs.declared.atom.Op.{Op}
use Rattle.ncq_token.specs.declared.token.Token.{Token}
use Rattle.ncq_token.specs.declared.token.Token.TheVariants.{TagStart, TagClose, Name, Variable}
use Rattle.ncq_token.specs.declared.token.Token.TheVariants.{Quoted, Word, Cmp, Comma}
use Rattle.ncq_xmlql.specs.declared.model.Operand.{Operand}
use Rattle.ncq_xmlql.specs.declared.model.Operand.TheVariants as operand
use Rattle.ncq_xmlql.specs.declared.model.Pattern.{Pattern}
use Rattle.ncq_xmlql.specs.declared.model.QueryItem.{QueryItem}
use Rattle.ncq_xmlql.specs.declared.model.QueryItem.TheVariants.{Match, Condition, Satisfies}
use Rattle.ncq_xmlql.specs.Reading.{is_keyword, lowered}
use Rattle.ncq_xmlql.specs.Grammar.{IsEnd, IsPatterns}
use Rattle.ncq_xmlql.specs.ItemReading.{is_variable, starts_argument, starts_construct}

pub data IsLiteral : List Token → List ℕ → List Token → Type 0 where
  quoted : {text : List ℕ} {a : List Token} → IsLiteral (Quoted text ∷ a) text a
  word : {text : List ℕ} {a : List Token} → IsLiteral (Word text ∷ a) text a

pub data IsOperand : List Token → Operand → List Token → Type 0 where
  variable : {x : List ℕ} {a : List Token} → IsOperand (Variable x ∷ a) (operand.Variable x) a
  literal : {text : List ℕ} {a b : List Token} → IsLiteral a text b
      → IsOperand a (operand.Literal text) b

pub data IsMatch : List Token → QueryItem → List Token → Type 0 where
  matched : {root w source : List ℕ} {arm : Pattern} {arms : List Pattern} {a b c d : List Token}
      → IsPatterns a (arm ∷ arms) b → IsEnd root b (Word w ∷ c) → IsTrue (is_keyword (codes "in") w)
      → IsLiteral c source d
      → IsMatch (TagStart ∷ Name root ∷ TagClose ∷ a) (Match root (arm ∷ arms) source) d

-- a quoted text, or a word other than `construct`; none where neither stands next
pub data IsArgument : List Token → Option (List ℕ) → List Token → Type 0 where
  quoted : {text : List ℕ} {a : List Token} → IsArgument (Quoted text ∷ a) (Some text) a
  word : {text : List ℕ} {a : List Token} → is_keyword (codes "construct") text ≡ false
      → IsArgument (Word text ∷ a) (Some text) a
  none : {a : List Token} → starts_argument a ≡ false → IsArgument a None a

pub data IsCondition : List Token → QueryItem → List Token → Type 0 where
  compared : {left right : Operand} {op : Op} {a b c : List Token}
      → IsOperand a left (Cmp op ∷ b) → IsOperand b right c
      → IsTrue (is_variable left || is_variable right)
      → IsCondition a (Condition left op right) c
  satisfied : {x keyword name : List ℕ} {argument : Option (List ℕ)} {a b : List Token}
      → IsTrue (is_keyword (codes "satisfies") keyword) → IsArgument a argument b
      → IsCondition (Variable x ∷ Word keyword ∷ Word name ∷ a)
      (Satisfies x (lowered name) argument) b

-- { Comma (match | condition) }, where `construct` behind a comma is the keyword
pub data IsMore : List Token → List QueryItem → List Token → Type 0 where
  no_more : {a : List Token} → IsMore a [] a
  more_match : {item : QueryItem} {more : List QueryItem} {a b c : List Token} → IsMatch a item b
      → IsMore b more c → IsMore (Comma ∷ a) (item ∷ more) c
  more_condition : {item : QueryItem} {more : List QueryItem} {a b c : List Token}
      → starts_construct a ≡ false → IsCondition a item b → IsMore b more c
      → IsMore (Comma ∷ a) (item ∷ more) c

pub data IsItems : List Token → List QueryItem → List Token → Type 0 where
  items : {first : QueryItem} {more : List QueryItem} {a b c : List Token} → IsMatch a first b
      → IsMore b more c → IsItems a (first ∷ more) c
