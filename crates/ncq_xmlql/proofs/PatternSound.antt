-- What is read as a pattern is spelled so.
use Rattle.std.proofs.Common.{◌≡◌, ℕ, zero, suc, Bool, true, false, List, [], ◌∷◌, ◌++◌, length, Some, inl, inr, refl, sym, subst}
use Rattle.ncq_path.specs.declared.path.Path.{Path}
use Rattle.ncq_token.specs.declared.token.Token.{Token}
use Rattle.ncq_token.specs.declared.token.Token.TheVariants.{TagStart, TagEnd, Name, Variable, Quoted, Word}
use Rattle.ncq_xmlql.specs.declared.model.Operand.TheVariants as operand
use Rattle.ncq_xmlql.specs.declared.model.PatternAttribute.{PatternAttribute}
use Rattle.ncq_xmlql.specs.declared.model.Content.{Content}
use Rattle.ncq_xmlql.specs.declared.model.Content.TheVariants.{Parts, Value}
use Rattle.ncq_xmlql.specs.declared.model.Suffix.{Suffix}
use Rattle.ncq_xmlql.specs.declared.model.Pattern.{Pattern}
use Rattle.ncq_xmlql.specs.declared.pattern.Opening.{Opening}
use Rattle.ncq_xmlql.specs.Reading.{Read, ◌>>=◌, tail_at, end_close_at, suffix_at, words_at, starts_tag, many_in, many}
use Rattle.ncq_xmlql.specs.PathGrammar.{IsPath}
use Rattle.ncq_xmlql.specs.PatternReading.{tag_path_at, pattern_opening_at, is_the_name, path_end_at, content_at, body_at, pattern_of, pattern_at}
use Rattle.ncq_xmlql.specs.Grammar.{IsPathEnd, IsSuffix, IsPattern, IsContent, IsPatterns}
use Rattle.ncq_xmlql.proofs.Sound.{bind_some, checked_is, at_value, chosen, Tails, tail_sound, end_close_sound, suffix_sound, words_sound}
use Rattle.ncq_xmlql.proofs.PathSound.{path_sound}
use Rattle.ncq_xmlql.proofs.PathValueLaws.{name_is}

-- a tag opens, with its path
record Starts (depth : ℕ) (tokens : List Token) (p : Path) (behind : List Token) : Type 0 where
  pub inside : List Token
  pub starts : tokens ≡ TagStart ∷ inside
  pub leads : IsPath inside p behind

tag_path_sound : (depth : ℕ) (tokens : List Token) (x : Path × List Token) → tag_path_at depth tokens ≡ Some x → Starts depth tokens x.0 x.1
tag_path_sound depth (TagStart ∷ rest) x e = record { inside = rest; starts = refl; leads = path_sound depth rest x e }
tag_path_sound depth tokens x e = absurd cc

-- a tag opens, with its path, its attributes and its close
record Begins (tokens : List Token) (opening : Opening) (rest : List Token) : Type 0 where
  pub inside : List Token
  pub behind : List Token
  pub starts : tokens ≡ TagStart ∷ inside
  pub leads : IsPath inside opening.path behind
  pub tails : Tails behind opening.attributes opening.is_empty rest

opening_sound : (depth : ℕ) (tokens : List Token) (x : Opening × List Token) → pattern_opening_at depth tokens ≡ Some x → Begins tokens x.0 x.1
unfolding pattern_opening_at
opening_sound depth tokens x e =
    let a = bind_some (tag_path_at depth tokens) (λ p. tail_at p.1 >>= λ tail. Some (record { path = p.0; attributes = tail.0.0; is_empty = tail.0.1 }, tail.1)) x e in
    let b = bind_some (tail_at a.0.1) (λ tail. Some (record { path = a.0.0; attributes = tail.0.0; is_empty = tail.0.1 }, tail.1)) x a.2 in
    let start = tag_path_sound depth tokens a.0 a.1 in
    at_value (λ (y : Opening × List Token). Begins tokens y.0 y.1) (record { path = a.0.0; attributes = b.0.0.0; is_empty = b.0.0.1 }, b.0.1) x b.2
    (record {
      inside = start.inside;
      behind = a.0.1;
      starts = start.starts;
      leads = start.leads;
      tails = tail_sound a.0.1 b.0 b.1;
    })

pub path_end_sound : (tag : Path) (tokens rest : List Token) → path_end_at tag tokens ≡ Some rest → IsPathEnd tag tokens rest
unfolding path_end_at
path_end_sound tag (TagEnd ∷ (Name name) ∷ after) rest e =
    let d = checked_is (is_the_name name tag) (end_close_at after) rest e in
    subst (λ (ts : List Token). IsPathEnd tag (TagEnd ∷ Name name ∷ ts) rest) (sym (end_close_sound after rest d.1)) (IsPathEnd.named (name_is name tag d.0))
path_end_sound tag (TagEnd ∷ after) rest e = subst (λ (ts : List Token). IsPathEnd tag (TagEnd ∷ ts) rest) (sym (end_close_sound after rest e)) IsPathEnd.unnamed
path_end_sound tag tokens rest e = absurd cc

module _ (one : List Token → Read Pattern) (sound : (tokens : List Token) (x : Pattern × List Token) → one tokens ≡ Some x → IsPattern tokens x.0 x.1) where
  pub many_sound : (n : ℕ) (tokens : List Token) (x : List Pattern × List Token) → many_in starts_tag one n tokens ≡ Some x → IsPatterns tokens x.0 x.1
  unfolding many_in
  many_sound zero tokens x e = at_value (λ (y : List Pattern × List Token). IsPatterns tokens y.0 y.1) ([], tokens) x e IsPatterns.no_pattern
  many_sound (suc n) tokens x e = elim (chosen (starts_tag tokens) (one tokens >>= λ first. many_in starts_tag one n first.1 >>= λ more. Some (first.0 ∷ more.0, more.1)) (Some ([], tokens)) (Some x) e) [
    | inl h ↦
        let a = bind_some (one tokens) (λ first. many_in starts_tag one n first.1 >>= λ more. Some (first.0 ∷ more.0, more.1)) x h in
        let b = bind_some (many_in starts_tag one n a.0.1) (λ more. Some (a.0.0 ∷ more.0, more.1)) x a.2 in
        at_value (λ (y : List Pattern × List Token). IsPatterns tokens y.0 y.1) (a.0.0 ∷ b.0.0, b.0.1) x b.2 (IsPatterns.pattern (sound tokens a.0 a.1) (many_sound n a.0.1 b.0 b.1))
    | inr h ↦ at_value (λ (y : List Pattern × List Token). IsPatterns tokens y.0 y.1) ([], tokens) x h IsPatterns.no_pattern
  ]

  parts_sound : (tokens : List Token) (x : Content × List Token) → (many starts_tag one tokens >>= λ parts. Some (Parts parts.0, parts.1)) ≡ Some x → IsContent tokens x.0 x.1
  parts_sound tokens x e =
      let b = bind_some (many starts_tag one tokens) (λ parts. Some (Parts parts.0, parts.1)) x e in
      at_value (λ (y : Content × List Token). IsContent tokens y.0 y.1) (Parts b.0.0, b.0.1) x b.2 (IsContent.parts (many_sound (length tokens) tokens b.0 b.1))

  content_sound : (tokens : List Token) (x : Content × List Token) → content_at one tokens ≡ Some x → IsContent tokens x.0 x.1
  unfolding content_at
  content_sound ((Variable v) ∷ rest) x e = at_value (λ (y : Content × List Token). IsContent (Variable v ∷ rest) y.0 y.1) (Value (operand.Variable v), rest) x e IsContent.variable
  content_sound ((Quoted text) ∷ rest) x e = at_value (λ (y : Content × List Token). IsContent (Quoted text ∷ rest) y.0 y.1) (Value (operand.Literal text), rest) x e IsContent.quoted
  content_sound ((Word w) ∷ rest) x e = at_value (λ (y : Content × List Token). IsContent (Word w ∷ rest) y.0 y.1) (Value (operand.Literal (w ++ (words_at rest).0)), (words_at rest).1) x e (IsContent.words (words_sound rest))
  content_sound tokens x e = parts_sound tokens x e

  spelled : (tag : Path) (attributes : List PatternAttribute) (is_empty : Bool) (inside behind after : List Token) (content : Content × List Token) (suffix : Suffix × List Token)
      → IsPath inside tag behind → Tails behind attributes is_empty after
      → body_at one (record { path = tag; attributes = attributes; is_empty = is_empty }) after ≡ Some content → IsSuffix content.1 suffix.0 suffix.1
      → IsPattern (TagStart ∷ inside) (record { tag = tag; attributes = attributes; content = content.0; suffix = suffix.0 }) suffix.1
  spelled tag attributes true inside behind after content suffix leads tails body suf =
      at_value (λ (y : Content × List Token). IsSuffix y.1 suffix.0 suffix.1 → IsPattern (TagStart ∷ inside) (record { tag = tag; attributes = attributes; content = y.0; suffix = suffix.0 }) suffix.1)
      (Parts [], after) content body (λ s. IsPattern.empty leads tails.attributes_are tails.differ s) suf
  spelled tag attributes false inside behind after content suffix leads tails body suf =
      let c = bind_some (content_at one after) (λ content. path_end_at tag content.1 >>= λ rest. Some (content.0, rest)) content body in
      let d = bind_some (path_end_at tag c.0.1) (λ rest. Some (c.0.0, rest)) content c.2 in
      at_value (λ (y : Content × List Token). IsSuffix y.1 suffix.0 suffix.1 → IsPattern (TagStart ∷ inside) (record { tag = tag; attributes = attributes; content = y.0; suffix = suffix.0 }) suffix.1)
      (c.0.0, d.0) content d.2 (λ s. IsPattern.whole leads tails.attributes_are tails.differ (content_sound after c.0 c.1) (path_end_sound tag c.0.1 d.0 d.1) s) suf

  whole_sound : (tokens : List Token) (opening : Opening) (rest : List Token) (x : Pattern × List Token) → Begins tokens opening rest
      → (body_at one opening rest >>= λ content. suffix_at content.1 >>= λ suffix. Some (record { tag = opening.path; attributes = opening.attributes; content = content.0; suffix = suffix.0 }, suffix.1)) ≡ Some x
      → IsPattern tokens x.0 x.1
  whole_sound tokens opening rest x begins e =
      let a = bind_some (body_at one opening rest) (λ content. suffix_at content.1 >>= λ suffix. Some (record { tag = opening.path; attributes = opening.attributes; content = content.0; suffix = suffix.0 }, suffix.1)) x e in
      let b = bind_some (suffix_at a.0.1) (λ suffix. Some (record { tag = opening.path; attributes = opening.attributes; content = a.0.0; suffix = suffix.0 }, suffix.1)) x a.2 in
      at_value (λ (y : Pattern × List Token). IsPattern tokens y.0 y.1) (record { tag = opening.path; attributes = opening.attributes; content = a.0.0; suffix = b.0.0 }, b.0.1) x b.2
      (subst (λ (ts : List Token). IsPattern ts (record { tag = opening.path; attributes = opening.attributes; content = a.0.0; suffix = b.0.0 }) b.0.1) (sym begins.starts)
      (spelled opening.path opening.attributes opening.is_empty begins.inside begins.behind rest a.0 b.0 begins.leads begins.tails a.1 (suffix_sound a.0.1 b.0 b.1)))

  pub of_sound : (depth : ℕ) (tokens : List Token) (x : Pattern × List Token) → pattern_of depth one tokens ≡ Some x → IsPattern tokens x.0 x.1
  unfolding pattern_of
  of_sound depth tokens x e =
      let a = bind_some (pattern_opening_at depth tokens) (λ opening. body_at one opening.0 opening.1 >>= λ content. suffix_at content.1 >>= λ suffix. Some (record { tag = opening.0.path; attributes = opening.0.attributes; content = content.0; suffix = suffix.0 }, suffix.1)) x e in
      whole_sound tokens a.0.0 a.0.1 x (opening_sound depth tokens a.0 a.1) a.2

-- what is read is spelled so, and the tokens behind it stand behind it
pub pattern_sound : (depth : ℕ) (tokens : List Token) (x : Pattern × List Token) → pattern_at depth tokens ≡ Some x → IsPattern tokens x.0 x.1
unfolding pattern_at
pattern_sound zero tokens x e = absurd cc
pattern_sound (suc depth) tokens x e = of_sound (pattern_at depth) (pattern_sound depth) depth tokens x e
