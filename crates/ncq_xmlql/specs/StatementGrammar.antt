-- The grammar of statements: which tokens spell which statement.
use Rattle.std.specs.Prelude.{◌≡◌, ℕ, Bool, true, false, IsTrue, List, ◌∷◌, Option, Some}
use Rattle.std.specs.Prelude.{None, codes}
use Rattle.ncq_base.specs.Names.{is_name}
use Rattle.ncq_token.specs.declared.token.Token.{Token}
use Rattle.ncq_token.specs.declared.token.Token.TheVariants.{Quoted, Word, Comma}
use Rattle.ncq_xmlql.specs.declared.model.QueryItem.{QueryItem}
use Rattle.ncq_xmlql.specs.declared.model.Template.{Template}
use Rattle.ncq_xmlql.specs.declared.model.Query.{Query}
use Rattle.ncq_xmlql.specs.declared.model.Statement.{Statement}
use Rattle.ncq_xmlql.specs.declared.time.Times.{Times}
use Rattle.ncq_xmlql.specs.Reading.{is_keyword, lowered}
use Rattle.ncq_xmlql.specs.ItemGrammar.{IsItems}
use Rattle.ncq_xmlql.specs.TemplateGrammar.{IsTop}
use Rattle.ncq_xmlql.specs.Times.{times, AreTimes, is_time_word}
use Rattle.ncq_xmlql.specs.StatementReading.{or_zero}

-- [Comma]
pub data IsComma : List Token → List Token → Type 0 where
  none : {a : List Token} → IsComma a a
  comma : {a : List Token} → IsComma (Comma ∷ a) a

-- [ "distinct" ]: whether the word stands there
pub data IsDistinct : List Token → Bool → List Token → Type 0 where
  none : {a : List Token} → IsDistinct a false a
  word : {w : List ℕ} {a : List Token} → IsTrue (is_keyword (codes "distinct") w)
      → IsDistinct (Word w ∷ a) true a

-- items [Comma] "construct" [ "distinct" ] top
pub data IsQuery : List Token → Query → List Token → Type 0 where
  query : {items : List QueryItem} {distinct : Bool} {template : Template} {w : List ℕ}
      {a b c d e : List Token}
      → IsItems a items b → IsComma b (Word w ∷ c) → IsTrue (is_keyword (codes "construct") w)
      → IsDistinct c distinct d → IsTop d template e
      → IsQuery a (record { items = items; distinct = distinct; template = template }) e

-- [ Quoted | a Word other than "start", "every", "expire" ]
pub data IsArgument : List Token → Option (List ℕ) → List Token → Type 0 where
  none : {a : List Token} → IsArgument a None a
  quoted : {text : List ℕ} {a : List Token} → IsArgument (Quoted text ∷ a) (Some text) a
  word : {w : List ℕ} {a : List Token} → is_time_word w ≡ false → IsArgument (Word w ∷ a) (Some w) a

-- "create" Word "where" query "do" Word [argument] times
pub data IsSpelled : List Token → Statement → Type 0 where
  statement : {create name where_ do_ action : List ℕ} {query : Query} {argument : Option (List ℕ)}
      {written : Times} {a b c : List Token}
      → IsTrue (is_keyword (codes "create") create) → IsTrue (is_name name)
      → IsTrue (is_keyword (codes "where") where_)
      → IsQuery a query (Word do_ ∷ Word action ∷ b) → IsTrue (is_keyword (codes "do") do_)
      → IsArgument b argument c → AreTimes (times None None None) c written
      → IsSpelled (Word create ∷ Word name ∷ Word where_ ∷ a)
      (record {
        name = name;
        query = query;
        action = lowered action;
        argument = argument;
        start = written.start;
        every = or_zero written.every;
        expire = written.expire;
      })
