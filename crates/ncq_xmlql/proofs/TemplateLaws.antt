-- Templates: what is read is spelled so, and what is spelled so is read.
use Rattle.std.proofs.Common.{◌≡◌, ℕ, zero, suc, ◌≤◌, ◌<◌, Bool, true, false, List, [], ◌∷◌, ◌++◌, length, Some, IsTrue, refl, sym, subst, ◌∙◌, arith, map}
use Rattle.ncq_token.specs.declared.token.Token.{Token}
use Rattle.ncq_token.specs.declared.token.Token.TheVariants.{TagStart, TagEnd, TagClose, EmptyClose, Name, Variable, Quoted, Word}
use Rattle.ncq_xmlql.specs.declared.model.PatternAttribute.{PatternAttribute}
use Rattle.ncq_xmlql.specs.declared.model.Template.{Template}
use Rattle.ncq_xmlql.specs.declared.model.Template.TheVariants as template
use Rattle.ncq_xmlql.specs.declared.parts.Tag.{Tag}
use Rattle.ncq_xmlql.specs.Reading.{Read, ◌>>=◌, attributes_at, names_differ, tail_at, opening_at, end_at, words_at, starts_tag, many_in, many}
use Rattle.ncq_xmlql.specs.Grammar.{IsAttributes, starts_word}
use Rattle.ncq_xmlql.specs.TemplateReading.{template_attribute, starts_part, inside_at, element_of, part_of, part_at, top_at}
use Rattle.ncq_xmlql.specs.TemplateGrammar.{IsElement, IsPart, IsParts, IsTop}
use Rattle.ncq_xmlql.proofs.Sound.{bind_some, at_value, close_of, opening_sound, end_sound, words_sound, Opens}
use Rattle.ncq_xmlql.proofs.Complete.{starts_end, end_starts, end_within, end_complete, attributes_within, attributes_complete, words_within, words_complete}
use Rattle.ncq_xmlql.proofs.Loops.{last_turn, next_turn}
use Rattle.ncq_xmlql.proofs.Many.{many_spells}

-- ---- what is read is spelled so

words_stop : (tokens : List Token) → starts_word (words_at tokens).1 ≡ false
words_stop ((Word w) ∷ rest) = words_stop rest
words_stop [] = refl
words_stop (TagStart ∷ rest) = refl
words_stop tokens = refl

module _ (one : List Token → Read Template) (sound : (tokens : List Token) (x : Template × List Token) → one tokens ≡ Some x → IsPart tokens x.0 x.1) where
  parts_sound : (n : ℕ) (tokens : List Token) (x : List Template × List Token) → many_in starts_part one n tokens ≡ Some x → IsParts tokens x.0 x.1
  parts_sound n tokens x e =
      many_spells starts_part one IsParts (λ a. IsParts.no_part) (λ tokens x xs c go e more. IsParts.part (sound tokens x e) more) n tokens x e

  spelled : (name : List ℕ) (attributes : List PatternAttribute) (is_empty : Bool) (behind after : List Token) (content : List Template × List Token)
      → IsAttributes behind attributes (close_of is_empty ∷ after) → IsTrue (names_differ attributes)
      → inside_at one (record { name = name; attributes = attributes; is_empty = is_empty }) after ≡ Some content
      → IsElement (TagStart ∷ Name name ∷ behind) (template.Element name (map template_attribute attributes) content.0) content.1
  spelled name attributes true behind after content attrs differ inside =
      at_value (λ (y : List Template × List Token). IsElement (TagStart ∷ Name name ∷ behind) (template.Element name (map template_attribute attributes) y.0) y.1)
      ([], after) content inside (IsElement.empty attrs differ)
  spelled name attributes false behind after content attrs differ inside =
      let c = bind_some (many starts_part one after) (λ content. end_at name content.1 >>= λ rest. Some (content.0, rest)) content inside in
      let d = bind_some (end_at name c.0.1) (λ rest. Some (c.0.0, rest)) content c.2 in
      at_value (λ (y : List Template × List Token). IsElement (TagStart ∷ Name name ∷ behind) (template.Element name (map template_attribute attributes) y.0) y.1)
      (c.0.0, d.0) content d.2 (IsElement.whole attrs differ (parts_sound (length after) after c.0 c.1) (end_sound name c.0.1 d.0 d.1))

  opened_sound : (tokens : List Token) (tag : Tag) (rest : List Token) (x : Template × List Token) → Opens tokens tag rest
      → (inside_at one tag rest >>= λ content. Some (template.Element tag.name (map template_attribute tag.attributes) content.0, content.1)) ≡ Some x
      → IsElement tokens x.0 x.1
  opened_sound tokens tag rest x opens e =
      let a = bind_some (inside_at one tag rest) (λ content. Some (template.Element tag.name (map template_attribute tag.attributes) content.0, content.1)) x e in
      at_value (λ (y : Template × List Token). IsElement tokens y.0 y.1) (template.Element tag.name (map template_attribute tag.attributes) a.0.0, a.0.1) x a.2
      (subst (λ (ts : List Token). IsElement ts (template.Element tag.name (map template_attribute tag.attributes) a.0.0) a.0.1) (sym opens.starts)
      (spelled tag.name tag.attributes tag.is_empty opens.behind rest a.0 opens.attributes opens.differ a.1))

  element_sound : (tokens : List Token) (x : Template × List Token) → element_of one tokens ≡ Some x → IsElement tokens x.0 x.1
  unfolding element_of
  element_sound tokens x e =
      let a = bind_some (opening_at tokens) (λ opening. inside_at one opening.0 opening.1 >>= λ content. Some (template.Element opening.0.name (map template_attribute opening.0.attributes) content.0, content.1)) x e in
      opened_sound tokens a.0.0 a.0.1 x (opening_sound tokens a.0 a.1) a.2

  of_sound : (tokens : List Token) (x : Template × List Token) → part_of one tokens ≡ Some x → IsPart tokens x.0 x.1
  unfolding part_of
  of_sound ((Variable v) ∷ rest) x e = at_value (λ (y : Template × List Token). IsPart (Variable v ∷ rest) y.0 y.1) (template.Variable v, rest) x e IsPart.variable
  of_sound ((Quoted text) ∷ rest) x e = at_value (λ (y : Template × List Token). IsPart (Quoted text ∷ rest) y.0 y.1) (template.Literal text, rest) x e IsPart.quoted
  of_sound ((Word w) ∷ rest) x e =
      at_value (λ (y : Template × List Token). IsPart (Word w ∷ rest) y.0 y.1) (template.Literal (w ++ (words_at rest).0), (words_at rest).1) x e (IsPart.words (words_sound rest) (words_stop rest))
  of_sound tokens x e = IsPart.element (element_sound tokens x e)

part_sound : (depth : ℕ) (tokens : List Token) (x : Template × List Token) → part_at depth tokens ≡ Some x → IsPart tokens x.0 x.1
unfolding part_at
part_sound zero tokens x e = absurd cc
part_sound (suc depth) tokens x e = of_sound (part_at depth) (part_sound depth) tokens x e

pub top_sound : (depth : ℕ) (tokens : List Token) (x : Template × List Token) → top_at depth tokens ≡ Some x → IsTop tokens x.0 x.1
unfolding top_at
top_sound depth ((Variable v) ∷ rest) x e = at_value (λ (y : Template × List Token). IsTop (Variable v ∷ rest) y.0 y.1) (template.Variable v, rest) x e IsTop.variable
top_sound depth tokens x e = IsTop.element (element_sound (part_at depth) (part_sound depth) tokens x e)

-- ---- how much is left

mutual
  element_shorter : {a b : List Token} {t : Template} → IsElement a t b → length b < length a
  element_shorter (IsElement.whole attrs differ content end) = omega (arith, attributes_within attrs, parts_within content, end_within end)
  element_shorter (IsElement.empty attrs differ) = omega (arith, attributes_within attrs)

  part_shorter : {a b : List Token} {t : Template} → IsPart a t b → length b < length a
  part_shorter (IsPart.element h) = element_shorter h
  part_shorter IsPart.variable = omega arith
  part_shorter IsPart.quoted = omega arith
  part_shorter (IsPart.words h stop) = omega (arith, words_within h)

  parts_within : {a b : List Token} {ts : List Template} → IsParts a ts b → length b ≤ length a
  parts_within IsParts.no_part = omega arith
  parts_within (IsParts.part h hs) = omega (arith, part_shorter h, parts_within hs)

-- what is read of the front is shorter than the whole
pub shorter : (depth : ℕ) (tokens : List Token) (x : Template × List Token) → part_at depth tokens ≡ Some x → length x.1 < length tokens
shorter depth tokens x e = part_shorter (part_sound depth tokens x e)

pub top_within : {a b : List Token} {t : Template} → IsTop a t b → length b ≤ length a
top_within IsTop.variable = omega arith
top_within (IsTop.element h) = omega (arith, element_shorter h)

-- ---- what is spelled so is read

element_starts : {a b : List Token} {t : Template} → IsElement a t b → starts_tag a ≡ true
element_starts (IsElement.whole attrs differ content end) = refl
element_starts (IsElement.empty attrs differ) = refl

tag_is_part : (a : List Token) → starts_tag a ≡ true → starts_part a ≡ true
tag_is_part (TagStart ∷ rest) e = refl
tag_is_part tokens e = absurd cc

part_starts : {a b : List Token} {t : Template} → IsPart a t b → starts_part a ≡ true
part_starts {a = a} (IsPart.element h) = tag_is_part a (element_starts h)
part_starts IsPart.variable = refl
part_starts IsPart.quoted = refl
part_starts (IsPart.words h stop) = refl

end_is_no_part : (a : List Token) → starts_end a ≡ true → starts_part a ≡ false
end_is_no_part (TagEnd ∷ rest) e = refl
end_is_no_part tokens e = absurd cc

-- what begins with a tag is read as an element
tag_first : (one : List Token → Read Template) (a : List Token) → starts_tag a ≡ true → part_of one a ≡ element_of one a
unfolding part_of
tag_first one (TagStart ∷ rest) e = refl
tag_first one tokens e = absurd cc

top_first : (depth : ℕ) (a : List Token) → starts_tag a ≡ true → top_at depth a ≡ element_of (part_at depth) a
unfolding top_at
top_first depth (TagStart ∷ rest) e = refl
top_first depth tokens e = absurd cc

whole_at : (depth : ℕ) (tag : List ℕ) (attributes : List PatternAttribute) (content : List Template) (a b c d : List Token)
    → attributes_at a ≡ Some (attributes, TagClose ∷ b) → names_differ attributes ≡ true → many starts_part (part_at depth) b ≡ Some (content, c) → end_at tag c ≡ Some d
    → element_of (part_at depth) (TagStart ∷ Name tag ∷ a) ≡ Some (template.Element tag (map template_attribute attributes) content, d)
unfolding element_of opening_at tail_at
whole_at depth tag attributes content a b c d h1 h2 h3 h4 = rw (h1, h2, h3, h4) refl

empty_at : (depth : ℕ) (tag : List ℕ) (attributes : List PatternAttribute) (a b : List Token)
    → attributes_at a ≡ Some (attributes, EmptyClose ∷ b) → names_differ attributes ≡ true
    → element_of (part_at depth) (TagStart ∷ Name tag ∷ a) ≡ Some (template.Element tag (map template_attribute attributes) [], b)
unfolding element_of opening_at tail_at
empty_at depth tag attributes a b h1 h2 = rw (h1, h2) refl

one_deeper : (depth : ℕ) (a : List Token) → part_at (suc depth) a ≡ part_of (part_at depth) a
unfolding part_at
one_deeper depth a = refl

variable_part : {x : List ℕ} {a : List Token} (depth : ℕ) → part_at (suc depth) (Variable x ∷ a) ≡ Some (template.Variable x, a)
unfolding part_at part_of
variable_part depth = refl

quoted_part : {text : List ℕ} {a : List Token} (depth : ℕ) → part_at (suc depth) (Quoted text ∷ a) ≡ Some (template.Literal text, a)
unfolding part_at part_of
quoted_part depth = refl

words_part : (w text : List ℕ) (a b : List Token) (depth : ℕ) → words_at a ≡ (text, b) → part_at (suc depth) (Word w ∷ a) ≡ Some (template.Literal (w ++ text), b)
unfolding part_at part_of
words_part w text a b depth e = rw e refl

mutual
  element_complete : {a b : List Token} {t : Template} → IsElement a t b → (depth : ℕ) → length a ≤ suc depth → element_of (part_at depth) a ≡ Some (t, b)
  element_complete (IsElement.whole {tag = tag} {attributes = attributes} {content = inside} {a = a} {b = b} {c = c} {d = d} attrs differ content end) depth room =
      whole_at depth tag attributes inside a b c d (attributes_complete attrs refl) differ
      (parts_complete content (end_starts end) depth (omega (arith, attributes_within attrs)) (length b) (omega arith)) (end_complete end)
  element_complete (IsElement.empty {tag = tag} {attributes = attributes} {a = a} {b = b} attrs differ) depth room =
      empty_at depth tag attributes a b (attributes_complete attrs refl) differ

  part_complete : {a b : List Token} {t : Template} → IsPart a t b → (depth : ℕ) → length a ≤ depth → part_at depth a ≡ Some (t, b)
  part_complete h zero room = absurd (omega (arith, part_shorter h))
  part_complete {a = a} (IsPart.element h) (suc depth) room = one_deeper depth a ∙ tag_first (part_at depth) a (element_starts h) ∙ element_complete h depth room
  part_complete IsPart.variable (suc depth) room = variable_part depth
  part_complete IsPart.quoted (suc depth) room = quoted_part depth
  part_complete {b = b} (IsPart.words {w = w} {text = text} {a = a} h stop) (suc depth) room = words_part w text a b depth (words_complete h stop)

  parts_complete : {a b : List Token} {ts : List Template} → IsParts a ts b → starts_end b ≡ true → (depth : ℕ) → length a ≤ depth → (turns : ℕ) → length a ≤ turns
      → many_in starts_part (part_at depth) turns a ≡ Some (ts, b)
  parts_complete {a = a} IsParts.no_part e depth room turns enough = last_turn starts_part (part_at depth) turns a (end_is_no_part a e)
  parts_complete (IsParts.part h hs) e depth room zero enough = absurd (omega (arith, part_shorter h))
  parts_complete {a = a} (IsParts.part {t = t} {ts = ts} {b = b} {c = c} h hs) e depth room (suc turns) enough =
      next_turn starts_part (part_at depth) turns a b c t ts (part_starts h) (part_complete h depth room)
      (parts_complete hs e depth (omega (arith, part_shorter h)) turns (omega (arith, part_shorter h)))

variable_top : {x : List ℕ} {a : List Token} (depth : ℕ) → top_at depth (Variable x ∷ a) ≡ Some (template.Variable x, a)
unfolding top_at
variable_top depth = refl

pub top_complete : {a b : List Token} {t : Template} → IsTop a t b → (depth : ℕ) → length a ≤ depth → top_at depth a ≡ Some (t, b)
top_complete IsTop.variable depth room = variable_top depth
top_complete {a = a} (IsTop.element h) depth room = top_first depth a (element_starts h) ∙ element_complete h depth (omega arith)
