-- What is read is spelled so.
use Rattle.std.proofs.Common.{◌≡◌, ℕ, Bool, true, false, List, [], ◌∷◌, Option, Some, None, IsTrue, cond, ◌⊎◌, inl, inr, refl, sym, ap, subst}
use Rattle.std.specs.Prelude.{codes, ◌||◌}
use Rattle.ncq_base.specs.declared.atom.Op.TheVariants.{Eq}
use Rattle.ncq_token.specs.declared.token.Token.{Token}
use Rattle.ncq_token.specs.declared.token.Token.TheVariants.{TagStart, TagEnd, TagClose, EmptyClose, Name, Variable, Quoted, Word, Cmp}
use Rattle.ncq_xmlql.specs.declared.model.Operand.TheVariants as operand
use Rattle.ncq_xmlql.specs.declared.model.PatternAttribute.{PatternAttribute}
use Rattle.ncq_xmlql.specs.declared.model.Suffix.{Suffix}
use Rattle.ncq_xmlql.specs.declared.model.Suffix.TheVariants.{Plain, ElementAs, ContentAs}
use Rattle.ncq_xmlql.specs.declared.parts.Tag.{Tag}
use Rattle.ncq_xmlql.specs.Reading.{Read, ◌>>=◌, attributes_at, names_differ, close_at, name_at, variable_at, tag_at, checked, tail_at, opening_at, end_close_at, end_at, is_same, is_keyword, suffix_at, words_at}
use Rattle.ncq_xmlql.specs.Grammar.{IsAttributes, IsWords, IsEnd, IsSuffix}

-- the value of a step that did not fail
pub bind_some : {A B : Type 0} (o : Option A) (f : A → Option B) (y : B) → (o >>= f) ≡ Some y → (x : A) × (o ≡ Some x) × (f x ≡ Some y)
bind_some None f y e = absurd cc
bind_some (Some x) f y e = (x, refl, e)

pub some_is : {A : Type 0} (x y : A) → Some x ≡ Some y → x ≡ y
some_is x y e = cc

pub checked_is : {A : Type 0} (b : Bool) (o : Option A) (y : A) → checked b o ≡ Some y → (b ≡ true) × (o ≡ Some y)
checked_is true o y e = (refl, e)
checked_is false o y e = absurd cc

module _ {A : Type 0} (P : A → Type 0) where
  -- what holds of the value that was read
  pub at_value : (x y : A) → Some x ≡ Some y → P x → P y
  at_value x y e p = subst P (some_is x y e) p

attributes_sound : (tokens : List Token) (x : List PatternAttribute × List Token) → attributes_at tokens ≡ Some x → IsAttributes tokens x.0 x.1
unfolding attributes_at
attributes_sound ((Name name) ∷ (Cmp Eq) ∷ (Quoted text) ∷ rest) x e =
    let b = bind_some (attributes_at rest) (λ m. Some (record { name = name; value = operand.Literal text } ∷ m.0, m.1)) x e in
    at_value (λ (y : List PatternAttribute × List Token). IsAttributes (Name name ∷ Cmp Eq ∷ Quoted text ∷ rest) y.0 y.1) (record { name = name; value = operand.Literal text } ∷ b.0.0, b.0.1) x b.2 (IsAttributes.quoted (attributes_sound rest b.0 b.1))
attributes_sound ((Name name) ∷ (Cmp Eq) ∷ (Variable v) ∷ rest) x e =
    let b = bind_some (attributes_at rest) (λ m. Some (record { name = name; value = operand.Variable v } ∷ m.0, m.1)) x e in
    at_value (λ (y : List PatternAttribute × List Token). IsAttributes (Name name ∷ Cmp Eq ∷ Variable v ∷ rest) y.0 y.1) (record { name = name; value = operand.Variable v } ∷ b.0.0, b.0.1) x b.2 (IsAttributes.variable (attributes_sound rest b.0 b.1))
attributes_sound ((Name name) ∷ rest) x e = absurd cc
attributes_sound tokens x e = at_value (λ (y : List PatternAttribute × List Token). IsAttributes tokens y.0 y.1) ([], tokens) x e IsAttributes.no_attribute

pub words_sound : (tokens : List Token) → IsWords tokens (words_at tokens).0 (words_at tokens).1
words_sound ((Word w) ∷ rest) = IsWords.word (words_sound rest)
words_sound tokens = IsWords.no_word

-- the close of an opening tag
abbrev pub close_of : Bool → Token
close_of true = EmptyClose
close_of false = TagClose

close_sound : (tokens : List Token) (x : Bool × List Token) → close_at tokens ≡ Some x → tokens ≡ close_of x.0 ∷ x.1
close_sound (TagClose ∷ rest) x e = at_value (λ (y : Bool × List Token). (TagClose ∷ rest) ≡ close_of y.0 ∷ y.1) (false, rest) x e refl
close_sound (EmptyClose ∷ rest) x e = at_value (λ (y : Bool × List Token). (EmptyClose ∷ rest) ≡ close_of y.0 ∷ y.1) (true, rest) x e refl
close_sound tokens x e = absurd cc

pub name_sound : (tokens : List Token) (x : List ℕ × List Token) → name_at tokens ≡ Some x → tokens ≡ Name x.0 ∷ x.1
name_sound ((Name name) ∷ rest) x e = at_value (λ (y : List ℕ × List Token). (Name name ∷ rest) ≡ Name y.0 ∷ y.1) (name, rest) x e refl
name_sound tokens x e = absurd cc

pub variable_sound : (tokens : List Token) (x : List ℕ × List Token) → variable_at tokens ≡ Some x → tokens ≡ Variable x.0 ∷ x.1
variable_sound ((Variable v) ∷ rest) x e = at_value (λ (y : List ℕ × List Token). (Variable v ∷ rest) ≡ Variable y.0 ∷ y.1) (v, rest) x e refl
variable_sound tokens x e = absurd cc

pub tag_sound : (tokens : List Token) (x : List ℕ × List Token) → tag_at tokens ≡ Some x → tokens ≡ TagStart ∷ Name x.0 ∷ x.1
tag_sound (TagStart ∷ rest) x e = ap (λ (ts : List Token). TagStart ∷ ts) (name_sound rest x e)
tag_sound tokens x e = absurd cc

-- what stands in a tag behind its name or path
pub record Tails (tokens : List Token) (attributes : List PatternAttribute) (is_empty : Bool) (rest : List Token) : Type 0 where
  pub attributes_are : IsAttributes tokens attributes (close_of is_empty ∷ rest)
  pub differ : IsTrue (names_differ attributes)

pub tail_sound : (tokens : List Token) (x : (List PatternAttribute × Bool) × List Token) → tail_at tokens ≡ Some x → Tails tokens x.0.0 x.0.1 x.1
unfolding tail_at
tail_sound tokens x e =
    let b = bind_some (attributes_at tokens) (λ attributes. checked (names_differ attributes.0) (close_at attributes.1) >>= λ close. Some ((attributes.0, close.0), close.1)) x e in
    let c = bind_some (checked (names_differ b.0.0) (close_at b.0.1)) (λ close. Some ((b.0.0, close.0), close.1)) x b.2 in
    let d = checked_is (names_differ b.0.0) (close_at b.0.1) c.0 c.1 in
    at_value (λ (y : (List PatternAttribute × Bool) × List Token). Tails tokens y.0.0 y.0.1 y.1) ((b.0.0, c.0.0), c.0.1) x c.2
    (record {
      attributes_are = subst (λ (ts : List Token). IsAttributes tokens b.0.0 ts) (close_sound b.0.1 c.0 d.1) (attributes_sound tokens b.0 b.1);
      differ = d.0;
    })

-- a tag opens, with its attributes and its close
pub record Opens (tokens : List Token) (tag : Tag) (rest : List Token) : Type 0 where
  pub behind : List Token
  pub starts : tokens ≡ TagStart ∷ Name tag.name ∷ behind
  pub attributes : IsAttributes behind tag.attributes (close_of tag.is_empty ∷ rest)
  pub differ : IsTrue (names_differ tag.attributes)

pub opening_sound : (tokens : List Token) (x : Tag × List Token) → opening_at tokens ≡ Some x → Opens tokens x.0 x.1
unfolding opening_at
opening_sound tokens x e =
    let a = bind_some (tag_at tokens) (λ tag. tail_at tag.1 >>= λ tail. Some (record { name = tag.0; attributes = tail.0.0; is_empty = tail.0.1 }, tail.1)) x e in
    let b = bind_some (tail_at a.0.1) (λ tail. Some (record { name = a.0.0; attributes = tail.0.0; is_empty = tail.0.1 }, tail.1)) x a.2 in
    let tail = tail_sound a.0.1 b.0 b.1 in
    at_value (λ (y : Tag × List Token). Opens tokens y.0 y.1) (record { name = a.0.0; attributes = b.0.0.0; is_empty = b.0.0.1 }, b.0.1) x b.2
    (record {
      behind = a.0.1;
      starts = tag_sound tokens a.0 a.1;
      attributes = tail.attributes_are;
      differ = tail.differ;
    })

pub end_close_sound : (tokens rest : List Token) → end_close_at tokens ≡ Some rest → tokens ≡ TagClose ∷ rest
end_close_sound (TagClose ∷ after) rest e = ap (λ (ts : List Token). TagClose ∷ ts) (some_is after rest e)
end_close_sound tokens rest e = absurd cc

pub end_sound : (tag : List ℕ) (tokens rest : List Token) → end_at tag tokens ≡ Some rest → IsEnd tag tokens rest
unfolding end_at
end_sound tag (TagEnd ∷ (Name name) ∷ after) rest e =
    let d = checked_is (is_same tag name) (end_close_at after) rest e in
    subst (λ (ts : List Token). IsEnd tag (TagEnd ∷ Name name ∷ ts) rest) (sym (end_close_sound after rest d.1)) (IsEnd.named d.0)
end_sound tag (TagEnd ∷ after) rest e = subst (λ (ts : List Token). IsEnd tag (TagEnd ∷ ts) rest) (sym (end_close_sound after rest e)) IsEnd.unnamed
end_sound tag tokens rest e = absurd cc

pub chosen : {A : Type 0} (b : Bool) (x y z : A) → cond b x y ≡ z → (x ≡ z) ⊎ (y ≡ z)
chosen true x y z e = inl e
chosen false x y z e = inr e

neither : (a b : Bool) → a ≡ false → b ≡ false → (a || b) ≡ false
neither true b p q = absurd cc
neither false b p q = q

abbrev suffix_choice : Bool → Bool → Token → List Token → Read Suffix
suffix_choice s t word rest = cond s (variable_at rest >>= λ v. Some (ElementAs v.0, v.1)) (cond t (variable_at rest >>= λ v. Some (ContentAs v.0, v.1)) (Some (Plain, word ∷ rest)))

-- ---- suffixes

suffix_of_word : (w : List ℕ) (rest : List Token) (s t : Bool) → is_keyword (codes "element_as") w ≡ s → is_keyword (codes "content_as") w ≡ t → (x : Suffix × List Token)
    → suffix_choice s t (Word w) rest ≡ Some x → IsSuffix (Word w ∷ rest) x.0 x.1
suffix_of_word w rest true t p q x e =
    let b = bind_some (variable_at rest) (λ v. Some (ElementAs v.0, v.1)) x e in
    at_value (λ (y : Suffix × List Token). IsSuffix (Word w ∷ rest) y.0 y.1) (ElementAs b.0.0, b.0.1) x b.2
    (subst (λ (ts : List Token). IsSuffix (Word w ∷ ts) (ElementAs b.0.0) b.0.1) (sym (variable_sound rest b.0 b.1)) (IsSuffix.element_as p))
suffix_of_word w rest false true p q x e =
    let b = bind_some (variable_at rest) (λ v. Some (ContentAs v.0, v.1)) x e in
    at_value (λ (y : Suffix × List Token). IsSuffix (Word w ∷ rest) y.0 y.1) (ContentAs b.0.0, b.0.1) x b.2
    (subst (λ (ts : List Token). IsSuffix (Word w ∷ ts) (ContentAs b.0.0) b.0.1) (sym (variable_sound rest b.0 b.1)) (IsSuffix.content_as q))
suffix_of_word w rest false false p q x e =
    at_value (λ (y : Suffix × List Token). IsSuffix (Word w ∷ rest) y.0 y.1) (Plain, Word w ∷ rest) x e (IsSuffix.plain (neither (is_keyword (codes "element_as") w) (is_keyword (codes "content_as") w) p q))

pub suffix_sound : (tokens : List Token) (x : Suffix × List Token) → suffix_at tokens ≡ Some x → IsSuffix tokens x.0 x.1
unfolding suffix_at
suffix_sound ((Word w) ∷ rest) x e = suffix_of_word w rest (is_keyword (codes "element_as") w) (is_keyword (codes "content_as") w) refl refl x e
suffix_sound tokens x e = at_value (λ (y : Suffix × List Token). IsSuffix tokens y.0 y.1) (Plain, tokens) x e (IsSuffix.plain refl)
