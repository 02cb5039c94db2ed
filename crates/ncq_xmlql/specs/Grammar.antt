-- The grammar of patterns: which tokens spell which pattern, and what stands behind it.
use Rattle.std.specs.Prelude.{◌≡◌, ◌++◌, ◌||◌, ℕ, Bool, true, false, IsTrue, List, [], ◌∷◌, codes}
use Rattle.ncq_base.specs.declared.atom.Op.TheVariants.{Eq}
use Rattle.ncq_path.specs.declared.path.Path.{Path}
use Rattle.ncq_path.specs.declared.path.Path.TheVariants as path
use Rattle.ncq_token.specs.declared.token.Token.{Token}
use Rattle.ncq_token.specs.declared.token.Token.TheVariants.{TagStart, TagEnd, TagClose, EmptyClose}
use Rattle.ncq_token.specs.declared.token.Token.TheVariants.{Name, Variable, Quoted, Word, Cmp}
use Rattle.ncq_xmlql.specs.declared.model.Operand.TheVariants as operand
use Rattle.ncq_xmlql.specs.declared.model.PatternAttribute.{PatternAttribute}
use Rattle.ncq_xmlql.specs.declared.model.Content.{Content}
use Rattle.ncq_xmlql.specs.declared.model.Content.TheVariants.{Parts, Value}
use Rattle.ncq_xmlql.specs.declared.model.Suffix.{Suffix}
use Rattle.ncq_xmlql.specs.declared.model.Suffix.TheVariants.{Plain, ElementAs, ContentAs}
use Rattle.ncq_xmlql.specs.declared.model.Pattern.{Pattern}
use Rattle.ncq_xmlql.specs.Reading.{is_same, is_keyword, names_differ}
use Rattle.ncq_xmlql.specs.PathGrammar.{IsPath}

-- { Name Cmp(Eq) (Quoted | Variable) }
pub data IsAttributes : List Token → List PatternAttribute → List Token → Type 0 where
  no_attribute : {a : List Token} → IsAttributes a [] a
  quoted : {name text : List ℕ} {a b : List Token} {more : List PatternAttribute}
      → IsAttributes a more b
      → IsAttributes (Name name ∷ Cmp Eq ∷ Quoted text ∷ a)
      (record { name = name; value = operand.Literal text } ∷ more) b
  variable : {name x : List ℕ} {a b : List Token} {more : List PatternAttribute}
      → IsAttributes a more b
      → IsAttributes (Name name ∷ Cmp Eq ∷ Variable x ∷ a)
      (record { name = name; value = operand.Variable x } ∷ more) b

-- a word stands in front
abbrev pub starts_word : List Token → Bool
starts_word ((Word w) ∷ rest) = true
starts_word tokens = false

-- { Word }, each word behind a space
pub data IsWords : List Token → List ℕ → List Token → Type 0 where
  no_word : {a : List Token} → IsWords a [] a
  word : {w text : List ℕ} {a b : List Token} → IsWords a text b
      → IsWords (Word w ∷ a) (32 ∷ w ++ text) b

-- TagEnd [Name] TagClose, where the name is the tag's
pub data IsEnd : List ℕ → List Token → List Token → Type 0 where
  named : {tag name : List ℕ} {a : List Token} → IsTrue (is_same tag name)
      → IsEnd tag (TagEnd ∷ Name name ∷ TagClose ∷ a) a
  unnamed : {tag : List ℕ} {a : List Token} → IsEnd tag (TagEnd ∷ TagClose ∷ a) a

abbrev pub is_suffix_word : List ℕ → Bool
is_suffix_word w = is_keyword (codes "element_as") w || is_keyword (codes "content_as") w

-- a suffix begins there
abbrev pub starts_suffix : List Token → Bool
starts_suffix ((Word w) ∷ rest) = is_suffix_word w
starts_suffix tokens = false

-- [ "element_as" Variable | "content_as" Variable ]: it always stands where one of the two words
-- does
pub data IsSuffix : List Token → Suffix → List Token → Type 0 where
  plain : {a : List Token} → starts_suffix a ≡ false → IsSuffix a Plain a
  element_as : {w x : List ℕ} {a : List Token} → IsTrue (is_keyword (codes "element_as") w)
      → IsSuffix (Word w ∷ Variable x ∷ a) (ElementAs x) a
  content_as : {w x : List ℕ} {a : List Token} → IsTrue (is_keyword (codes "content_as") w)
      → IsSuffix (Word w ∷ Variable x ∷ a) (ContentAs x) a

-- TagEnd [Name] TagClose, where a name is the whole path of the tag
pub data IsPathEnd : Path → List Token → List Token → Type 0 where
  named : {p : Path} {name : List ℕ} {a : List Token} → p ≡ path.Tag name
      → IsPathEnd p (TagEnd ∷ Name name ∷ TagClose ∷ a) a
  unnamed : {p : Path} {a : List Token} → IsPathEnd p (TagEnd ∷ TagClose ∷ a) a

mutual
  pub data IsPattern : List Token → Pattern → List Token → Type 0 where
    whole : {tag : Path} {attributes : List PatternAttribute} {content : Content}
        {suffix : Suffix} {a b c d e f : List Token}
        → IsPath a tag b → IsAttributes b attributes (TagClose ∷ c)
        → IsTrue (names_differ attributes)
        → IsContent c content d → IsPathEnd tag d e → IsSuffix e suffix f
        → IsPattern (TagStart ∷ a)
        (record { tag = tag; attributes = attributes; content = content; suffix = suffix }) f
    empty : {tag : Path} {attributes : List PatternAttribute} {suffix : Suffix}
        {a b c d : List Token}
        → IsPath a tag b → IsAttributes b attributes (EmptyClose ∷ c)
        → IsTrue (names_differ attributes)
        → IsSuffix c suffix d
        → IsPattern (TagStart ∷ a)
        (record { tag = tag; attributes = attributes; content = Parts []; suffix = suffix }) d

  pub data IsContent : List Token → Content → List Token → Type 0 where
    parts : {ps : List Pattern} {a b : List Token} → IsPatterns a ps b → IsContent a (Parts ps) b
    variable : {x : List ℕ} {a : List Token}
        → IsContent (Variable x ∷ a) (Value (operand.Variable x)) a
    quoted : {text : List ℕ} {a : List Token}
        → IsContent (Quoted text ∷ a) (Value (operand.Literal text)) a
    words : {w text : List ℕ} {a b : List Token} → IsWords a text b
        → IsContent (Word w ∷ a) (Value (operand.Literal (w ++ text))) b

  pub data IsPatterns : List Token → List Pattern → List Token → Type 0 where
    no_pattern : {a : List Token} → IsPatterns a [] a
    pattern : {p : Pattern} {ps : List Pattern} {a b c : List Token} → IsPattern a p b
        → IsPatterns b ps c → IsPatterns a (p ∷ ps) c
