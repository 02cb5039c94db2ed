-- The grammar of templates: which tokens spell which template, and what stands behind it.
use Rattle.std.specs.Prelude.{◌≡◌, ◌++◌, ℕ, false, IsTrue, List, [], ◌∷◌, map}
use Rattle.ncq_token.specs.declared.token.Token.{Token}
use Rattle.ncq_token.specs.declared.token.Token.TheVariants.{TagStart, TagClose, EmptyClose, Name}
use Rattle.ncq_token.specs.declared.token.Token.TheVariants.{Variable, Quoted, Word}
use Rattle.ncq_xmlql.specs.declared.model.PatternAttribute.{PatternAttribute}
use Rattle.ncq_xmlql.specs.declared.model.Template.{Template}
use Rattle.ncq_xmlql.specs.declared.model.Template.TheVariants as template
use Rattle.ncq_xmlql.specs.Reading.{names_differ}
use Rattle.ncq_xmlql.specs.Grammar.{IsAttributes, IsWords, IsEnd, starts_word}
use Rattle.ncq_xmlql.specs.TemplateReading.{template_attribute}

mutual
  -- TagStart Name { attr } TagClose { part } end, or TagStart Name { attr } EmptyClose
  pub data IsElement : List Token → Template → List Token → Type 0 where
    whole : {tag : List ℕ} {attributes : List PatternAttribute} {content : List Template}
        {a b c d : List Token}
        → IsAttributes a attributes (TagClose ∷ b) → IsTrue (names_differ attributes)
        → IsParts b content c → IsEnd tag c d
        → IsElement (TagStart ∷ Name tag ∷ a)
        (template.Element tag (map template_attribute attributes) content) d
    empty : {tag : List ℕ} {attributes : List PatternAttribute} {a b : List Token}
        → IsAttributes a attributes (EmptyClose ∷ b) → IsTrue (names_differ attributes)
        → IsElement (TagStart ∷ Name tag ∷ a)
        (template.Element tag (map template_attribute attributes) []) b

  -- element, Variable, Quoted or Word { Word }, where the run of words is as long as possible
  pub data IsPart : List Token → Template → List Token → Type 0 where
    element : {t : Template} {a b : List Token} → IsElement a t b → IsPart a t b
    variable : {x : List ℕ} {a : List Token} → IsPart (Variable x ∷ a) (template.Variable x) a
    quoted : {text : List ℕ} {a : List Token} → IsPart (Quoted text ∷ a) (template.Literal text) a
    words : {w text : List ℕ} {a b : List Token} → IsWords a text b → starts_word b ≡ false
        → IsPart (Word w ∷ a) (template.Literal (w ++ text)) b

  -- { part }
  pub data IsParts : List Token → List Template → List Token → Type 0 where
    no_part : {a : List Token} → IsParts a [] a
    part : {t : Template} {ts : List Template} {a b c : List Token} → IsPart a t b → IsParts b ts c
        → IsParts a (t ∷ ts) c

-- Variable or element
pub data IsTop : List Token → Template → List Token → Type 0 where
  variable : {x : List ℕ} {a : List Token} → IsTop (Variable x ∷ a) (template.Variable x) a
  element : {t : Template} {a b : List Token} → IsElement a t b → IsTop a t b
