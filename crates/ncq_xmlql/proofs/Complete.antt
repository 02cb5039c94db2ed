-- What is spelled so is read.
use Rattle.std.proofs.Common.{◌≡◌, ℕ, zero, suc, ◌≤◌, ◌<◌, Bool, true, false, List, [], ◌∷◌, ◌++◌, length, Some, IsTrue, refl, ap, ◌∙◌, arith, map}
use Rattle.std.specs.Prelude.{codes, ◌||◌}
use Rattle.std.specs.Char.{to_ascii_lowercase}
use lib.Pointwise.{bytes_decides}
use Rattle.ncq_path.specs.declared.path.Path.{Path}
use Rattle.ncq_token.specs.declared.token.Token.{Token}
use Rattle.ncq_token.specs.declared.token.Token.TheVariants.{TagStart, TagEnd, TagClose, EmptyClose, Name, Variable, Quoted, Word}
use Rattle.ncq_xmlql.specs.declared.model.Operand.TheVariants as operand
use Rattle.ncq_xmlql.specs.declared.model.PatternAttribute.{PatternAttribute}
use Rattle.ncq_xmlql.specs.declared.model.Content.{Content}
use Rattle.ncq_xmlql.specs.declared.model.Content.TheVariants.{Parts, Value}
use Rattle.ncq_xmlql.specs.declared.model.Suffix.{Suffix}
use Rattle.ncq_xmlql.specs.declared.model.Suffix.TheVariants.{Plain}
use Rattle.ncq_xmlql.specs.declared.model.Pattern.{Pattern}
use Rattle.ncq_xmlql.specs.Reading.{Read, ◌>>=◌, attributes_at, names_differ, tail_at, end_at, is_same, is_keyword, suffix_at, words_at, starts_tag, many_in, many}
use Rattle.ncq_xmlql.specs.PathReading.{path_at}
use Rattle.ncq_xmlql.specs.PatternReading.{pattern_opening_at, path_end_at, content_at, pattern_of, pattern_at}
use Rattle.ncq_xmlql.proofs.Loops.{last_turn, next_turn}
use Rattle.ncq_xmlql.proofs.Sound.{close_of}
use Rattle.ncq_xmlql.proofs.PathComplete.{Ends, path_shorter, path_complete}
use Rattle.ncq_xmlql.proofs.PathValueLaws.{is_name}
use Rattle.ncq_xmlql.proofs.PatternSound.{pattern_sound}
use Rattle.ncq_xmlql.specs.Grammar.{IsAttributes, IsWords, IsEnd, IsPathEnd, IsSuffix, starts_word, starts_suffix, IsPattern, IsContent, IsPatterns}

-- ---- the next token

abbrev pub starts_name : List Token → Bool
starts_name ((Name n) ∷ rest) = true
starts_name tokens = false

abbrev pub starts_end : List Token → Bool
starts_end (TagEnd ∷ rest) = true
starts_end tokens = false

pub end_starts : {tag : List ℕ} {a b : List Token} → IsEnd tag a b → starts_end a ≡ true
end_starts (IsEnd.named h) = refl
end_starts IsEnd.unnamed = refl

pattern_starts : {a b : List Token} {p : Pattern} → IsPattern a p b → starts_tag a ≡ true
pattern_starts (IsPattern.whole leads attrs differ content end suffix) = refl
pattern_starts (IsPattern.empty leads attrs differ suffix) = refl

path_end_starts : {tag : Path} {a b : List Token} → IsPathEnd tag a b → starts_end a ≡ true
path_end_starts (IsPathEnd.named h) = refl
path_end_starts IsPathEnd.unnamed = refl

pub no_word : (a : List Token) → starts_end a ≡ true → starts_word a ≡ false
no_word (TagEnd ∷ rest) e = refl
no_word tokens e = absurd cc

pub no_tag : (a : List Token) → starts_end a ≡ true → starts_tag a ≡ false
no_tag (TagEnd ∷ rest) e = refl
no_tag tokens e = absurd cc

-- ---- how much is left

pub attributes_within : {a b : List Token} {attrs : List PatternAttribute} → IsAttributes a attrs b → length b ≤ length a
attributes_within IsAttributes.no_attribute = omega arith
attributes_within (IsAttributes.quoted h) = omega (arith, attributes_within h)
attributes_within (IsAttributes.variable h) = omega (arith, attributes_within h)

pub words_within : {a b : List Token} {text : List ℕ} → IsWords a text b → length b ≤ length a
words_within IsWords.no_word = omega arith
words_within (IsWords.word h) = omega (arith, words_within h)

pub end_within : {tag : List ℕ} {a b : List Token} → IsEnd tag a b → length b ≤ length a
end_within (IsEnd.named h) = omega arith
end_within IsEnd.unnamed = omega arith

path_end_within : {tag : Path} {a b : List Token} → IsPathEnd tag a b → length b ≤ length a
path_end_within (IsPathEnd.named h) = omega arith
path_end_within IsPathEnd.unnamed = omega arith

suffix_within : {a b : List Token} {s : Suffix} → IsSuffix a s b → length b ≤ length a
suffix_within (IsSuffix.plain h) = omega arith
suffix_within (IsSuffix.element_as h) = omega arith
suffix_within (IsSuffix.content_as h) = omega arith

mutual
  pub pattern_shorter : {a b : List Token} {p : Pattern} → IsPattern a p b → length b < length a
  pattern_shorter (IsPattern.whole leads attrs differ content end suffix) = omega (arith, path_shorter leads, attributes_within attrs, content_within content, path_end_within end, suffix_within suffix)
  pattern_shorter (IsPattern.empty leads attrs differ suffix) = omega (arith, path_shorter leads, attributes_within attrs, suffix_within suffix)

  content_within : {a b : List Token} {c : Content} → IsContent a c b → length b ≤ length a
  content_within (IsContent.parts h) = patterns_within h
  content_within IsContent.variable = omega arith
  content_within IsContent.quoted = omega arith
  content_within (IsContent.words h) = omega (arith, words_within h)

  pub patterns_within : {a b : List Token} {ps : List Pattern} → IsPatterns a ps b → length b ≤ length a
  patterns_within IsPatterns.no_pattern = omega arith
  patterns_within (IsPatterns.pattern h hs) = omega (arith, pattern_shorter h, patterns_within hs)

-- ---- the parts

no_attributes : (a : List Token) → starts_name a ≡ false → attributes_at a ≡ Some ([], a)
unfolding attributes_at
no_attributes ((Name n) ∷ rest) e = absurd cc
no_attributes (TagStart ∷ rest) e = refl
no_attributes tokens e = refl

pub attributes_complete : {a b : List Token} {attrs : List PatternAttribute} → IsAttributes a attrs b → starts_name b ≡ false → attributes_at a ≡ Some (attrs, b)
unfolding attributes_at
attributes_complete {a = a} IsAttributes.no_attribute e = no_attributes a e
attributes_complete (IsAttributes.quoted h) e = rw (attributes_complete h e) refl
attributes_complete (IsAttributes.variable h) e = rw (attributes_complete h e) refl

pub words_complete : {a b : List Token} {text : List ℕ} → IsWords a text b → starts_word b ≡ false → words_at a ≡ (text, b)
words_complete {a = a} IsWords.no_word e = none a e
  where
    none : (a : List Token) → starts_word a ≡ false → words_at a ≡ ([], a)
    none ((Word w) ∷ rest) e = absurd cc
    none (TagStart ∷ rest) e = refl
    none tokens e = refl
words_complete (IsWords.word h) e = rw (words_complete h e) refl

pub end_complete : {tag : List ℕ} {a b : List Token} → IsEnd tag a b → end_at tag a ≡ Some b
unfolding end_at
end_complete (IsEnd.named h) = rw h refl
end_complete IsEnd.unnamed = refl

path_end_complete : {tag : Path} {a b : List Token} → IsPathEnd tag a b → path_end_at tag a ≡ Some b
unfolding path_end_at
path_end_complete (IsPathEnd.named {name = name} h) = rw (is_name name _ h) refl
path_end_complete IsPathEnd.unnamed = refl

-- attributes end a path
attributes_end : {a b : List Token} {attrs : List PatternAttribute} → IsAttributes a attrs b → Ends b → Ends a
attributes_end IsAttributes.no_attribute e = e
attributes_end (IsAttributes.quoted h) e = record { repeats_not = refl; dot_not = refl; bar_not = refl }
attributes_end (IsAttributes.variable h) e = record { repeats_not = refl; dot_not = refl; bar_not = refl }

close_ends : (is_empty : Bool) (rest : List Token) → Ends (close_of is_empty ∷ rest)
close_ends true rest = record { repeats_not = refl; dot_not = refl; bar_not = refl }
close_ends false rest = record { repeats_not = refl; dot_not = refl; bar_not = refl }

both_false : (a b : Bool) → (a || b) ≡ false → (a ≡ false) × (b ≡ false)
both_false true b e = absurd cc
both_false false b e = (refl, e)

not_both : (w : List ℕ) → IsTrue (is_keyword (codes "content_as") w) → is_keyword (codes "element_as") w ≡ false
not_both w h =
    let e = (bytes_decides (map to_ascii_lowercase w) (map to_ascii_lowercase (codes "content_as"))).0 h in
    ap (λ (x : List ℕ). is_same x (map to_ascii_lowercase (codes "element_as"))) e

no_suffix : (a : List Token) → starts_suffix a ≡ false → suffix_at a ≡ Some (Plain, a)
unfolding suffix_at
no_suffix ((Word w) ∷ rest) e = let b = both_false (is_keyword (codes "element_as") w) (is_keyword (codes "content_as") w) e in rw (b.0, b.1) refl
no_suffix (TagStart ∷ rest) e = refl
no_suffix tokens e = refl

suffix_complete : {a b : List Token} {s : Suffix} → IsSuffix a s b → suffix_at a ≡ Some (s, b)
unfolding suffix_at
suffix_complete {a = a} (IsSuffix.plain h) = no_suffix a h
suffix_complete (IsSuffix.element_as h) = rw h refl
suffix_complete (IsSuffix.content_as {w = w} h) = rw (not_both w h, h) refl

-- ---- contents and patterns

-- a content that begins with a tag or ends at once is read attrs parts
parts_at : (one : List Token → Read Pattern) (a : List Token) → (starts_tag a || starts_end a) ≡ true → content_at one a ≡ (many starts_tag one a >>= λ parts. Some (Parts parts.0, parts.1))
unfolding content_at
parts_at one (TagStart ∷ rest) e = refl
parts_at one (TagEnd ∷ rest) e = refl
parts_at one tokens e = absurd cc

or_right : (a b : Bool) → b ≡ true → (a || b) ≡ true
or_right true b e = refl
or_right false b e = e

patterns_start : {a b : List Token} {ps : List Pattern} → IsPatterns a ps b → starts_end b ≡ true → (starts_tag a || starts_end a) ≡ true
patterns_start {a = a} IsPatterns.no_pattern e = or_right (starts_tag a) (starts_end a) e
patterns_start {a = a} (IsPatterns.pattern h hs) e = ap (λ (t : Bool). t || starts_end a) (pattern_starts h)

whole_at : (depth : ℕ) (tag : Path) (attributes : List PatternAttribute) (content : Content) (suffix : Suffix) (a b c d e f : List Token)
    → path_at depth a ≡ Some (tag, b) → attributes_at b ≡ Some (attributes, TagClose ∷ c) → names_differ attributes ≡ true → content_at (pattern_at depth) c ≡ Some (content, d) → path_end_at tag d ≡ Some e → suffix_at e ≡ Some (suffix, f)
    → pattern_at (suc depth) (TagStart ∷ a) ≡ Some (record { tag = tag; attributes = attributes; content = content; suffix = suffix }, f)
unfolding pattern_at pattern_of pattern_opening_at tail_at
whole_at depth tag attributes content suffix a b c d e f h0 h1 h2 h3 h4 h5 = rw (h0, h1, h2, h3, h4, h5) refl

empty_at : (depth : ℕ) (tag : Path) (attributes : List PatternAttribute) (suffix : Suffix) (a b c d : List Token)
    → path_at depth a ≡ Some (tag, b) → attributes_at b ≡ Some (attributes, EmptyClose ∷ c) → names_differ attributes ≡ true → suffix_at c ≡ Some (suffix, d)
    → pattern_at (suc depth) (TagStart ∷ a) ≡ Some (record { tag = tag; attributes = attributes; content = Parts []; suffix = suffix }, d)
unfolding pattern_at pattern_of pattern_opening_at tail_at
empty_at depth tag attributes suffix a b c d h0 h1 h2 h3 = rw (h0, h1, h2, h3) refl

variable_content : {x : List ℕ} {a : List Token} (depth : ℕ) → content_at (pattern_at depth) (Variable x ∷ a) ≡ Some (Value (operand.Variable x), a)
unfolding content_at
variable_content depth = refl

quoted_content : {text : List ℕ} {a : List Token} (depth : ℕ) → content_at (pattern_at depth) (Quoted text ∷ a) ≡ Some (Value (operand.Literal text), a)
unfolding content_at
quoted_content depth = refl

words_content : (w text : List ℕ) (a b : List Token) (depth : ℕ) → words_at a ≡ (text, b) → content_at (pattern_at depth) (Word w ∷ a) ≡ Some (Value (operand.Literal (w ++ text)), b)
unfolding content_at
words_content w text a b depth e = rw e refl

mutual
  pub pattern_complete : {a b : List Token} {p : Pattern} → IsPattern a p b → (depth : ℕ) → length a ≤ depth → pattern_at depth a ≡ Some (p, b)
  pattern_complete (IsPattern.whole leads attrs differ content end suffix) zero room = absurd (omega arith)
  pattern_complete (IsPattern.whole {tag = tag} {attributes = attributes} {content = body} {suffix = last} {a = a} {b = b} {c = c} {d = d} {e = e} {f = f} leads attrs differ content end suffix) (suc depth) room =
      whole_at depth tag attributes body last a b c d e f
      (path_complete leads (attributes_end attrs (close_ends false c)) depth (omega arith)) (attributes_complete attrs refl) differ
      (content_complete content (path_end_starts end) depth (omega (arith, path_shorter leads, attributes_within attrs))) (path_end_complete end) (suffix_complete suffix)
  pattern_complete (IsPattern.empty leads attrs differ suffix) zero room = absurd (omega arith)
  pattern_complete (IsPattern.empty {tag = tag} {attributes = attributes} {suffix = last} {a = a} {b = b} {c = c} {d = d} leads attrs differ suffix) (suc depth) room =
      empty_at depth tag attributes last a b c d
      (path_complete leads (attributes_end attrs (close_ends true c)) depth (omega arith)) (attributes_complete attrs refl) differ (suffix_complete suffix)

  content_complete : {a b : List Token} {c : Content} → IsContent a c b → starts_end b ≡ true → (depth : ℕ) → length a ≤ depth → content_at (pattern_at depth) a ≡ Some (c, b)
  content_complete {a = a} {b = b} (IsContent.parts {ps = ps} h) e depth room =
      parts_at (pattern_at depth) a (patterns_start h e) ∙ ap (λ (o : Read (List Pattern)). o >>= λ parts. Some (Parts parts.0, parts.1)) (patterns_complete h e depth room (length a) (omega arith))
  content_complete IsContent.variable e depth room = variable_content depth
  content_complete IsContent.quoted e depth room = quoted_content depth
  content_complete {b = b} (IsContent.words {w = w} {text = text} {a = a} h) e depth room = words_content w text a b depth (words_complete h (no_word b e))

  pub patterns_complete : {a b : List Token} {ps : List Pattern} → IsPatterns a ps b → starts_end b ≡ true → (depth : ℕ) → length a ≤ depth → (turns : ℕ) → length a ≤ turns
      → many_in starts_tag (pattern_at depth) turns a ≡ Some (ps, b)
  patterns_complete {a = a} IsPatterns.no_pattern e depth room turns enough = last_turn starts_tag (pattern_at depth) turns a (no_tag a e)
  patterns_complete (IsPatterns.pattern h hs) e depth room zero enough = absurd (omega (arith, pattern_shorter h))
  patterns_complete {a = a} (IsPatterns.pattern {p = p} {ps = ps} {b = b} {c = c} h hs) e depth room (suc turns) enough =
      next_turn starts_tag (pattern_at depth) turns a b c p ps (pattern_starts h) (pattern_complete h depth room)
      (patterns_complete hs e depth (omega (arith, pattern_shorter h)) turns (omega (arith, pattern_shorter h)))

-- what is read of the front is shorter than the whole
pub shorter : (depth : ℕ) (tokens : List Token) (x : Pattern × List Token) → pattern_at depth tokens ≡ Some x → length x.1 < length tokens
shorter depth tokens x e = pattern_shorter (pattern_sound depth tokens x e)
