-- Items: what is read is spelled so, and what is spelled so is read.
use Rattle.std.proofs.Common.{◌≡◌, ℕ, zero, suc, ◌≤◌, ◌<◌, Bool, true, false, List, [], ◌∷◌, length, Some, None, IsTrue, cond, refl, sym, ap, subst, ◌∙◌, arith, true≢false}
use Rattle.std.specs.Prelude.{codes, ◌||◌, not, Option}
use Rattle.ncq_base.specs.declared.atom.Op.{Op}
use Rattle.ncq_token.specs.declared.token.Token.{Token}
use Rattle.ncq_token.specs.declared.token.Token.TheVariants.{TagStart, TagClose, Name, Variable, Quoted, Word, Cmp, Comma}
use Rattle.ncq_xmlql.specs.declared.model.Operand.{Operand}
use Rattle.ncq_xmlql.specs.declared.model.Operand.TheVariants as operand
use Rattle.ncq_xmlql.specs.declared.model.Pattern.{Pattern}
use Rattle.ncq_xmlql.specs.declared.model.QueryItem.{QueryItem}
use Rattle.ncq_xmlql.specs.declared.model.QueryItem.TheVariants.{Match, Condition, Satisfies}
use Rattle.ncq_xmlql.specs.Reading.{◌>>=◌, is_keyword, lowered, checked, tag_at, end_close_at, end_at, starts_tag, many_in, many}
use Rattle.ncq_xmlql.specs.PatternReading.{pattern_at}
use Rattle.ncq_xmlql.specs.Grammar.{IsEnd, IsPatterns}
use Rattle.ncq_xmlql.specs.ItemReading.{literal_at, source_at, root_at, has_arm, match_at, operand_at, op_at, is_variable, asks, comparison_at, satisfies_at, value_behind, starts_argument, condition_at, next_item_at, starts_construct, continues, items_at}
use Rattle.ncq_xmlql.specs.ItemGrammar.{IsLiteral, IsOperand, IsMatch, IsArgument, IsCondition, IsMore, IsItems}
use Rattle.ncq_xmlql.proofs.Sound.{bind_some, checked_is, at_value, tag_sound, end_close_sound, end_sound}
use Rattle.ncq_xmlql.proofs.PatternSound.{many_sound, pattern_sound}
use Rattle.ncq_xmlql.proofs.Loops.{last_turn}
use Rattle.ncq_xmlql.proofs.Many.{many_spells}
use Rattle.ncq_xmlql.proofs.Complete.{end_within, end_complete, end_starts, patterns_within, patterns_complete}

-- ---- what is read is spelled so

literal_sound : (tokens : List Token) (x : List ℕ × List Token) → literal_at tokens ≡ Some x → IsLiteral tokens x.0 x.1
literal_sound ((Quoted text) ∷ rest) x e = at_value (λ (y : List ℕ × List Token). IsLiteral (Quoted text ∷ rest) y.0 y.1) (text, rest) x e IsLiteral.quoted
literal_sound ((Word text) ∷ rest) x e = at_value (λ (y : List ℕ × List Token). IsLiteral (Word text ∷ rest) y.0 y.1) (text, rest) x e IsLiteral.word
literal_sound tokens x e = absurd cc

operand_sound : (tokens : List Token) (x : Operand × List Token) → operand_at tokens ≡ Some x → IsOperand tokens x.0 x.1
operand_sound ((Variable v) ∷ rest) x e = at_value (λ (y : Operand × List Token). IsOperand (Variable v ∷ rest) y.0 y.1) (operand.Variable v, rest) x e IsOperand.variable
operand_sound ((Quoted text) ∷ rest) x e = at_value (λ (y : Operand × List Token). IsOperand (Quoted text ∷ rest) y.0 y.1) (operand.Literal text, rest) x e (IsOperand.literal IsLiteral.quoted)
operand_sound ((Word text) ∷ rest) x e = at_value (λ (y : Operand × List Token). IsOperand (Word text ∷ rest) y.0 y.1) (operand.Literal text, rest) x e (IsOperand.literal IsLiteral.word)
operand_sound tokens x e = absurd cc

op_sound : (tokens : List Token) (x : Op × List Token) → op_at tokens ≡ Some x → tokens ≡ Cmp x.0 ∷ x.1
op_sound ((Cmp op) ∷ rest) x e = at_value (λ (y : Op × List Token). (Cmp op ∷ rest) ≡ Cmp y.0 ∷ y.1) (op, rest) x e refl
op_sound tokens x e = absurd cc

comparison_sound : (tokens : List Token) (x : QueryItem × List Token) → comparison_at tokens ≡ Some x → IsCondition tokens x.0 x.1
unfolding comparison_at
comparison_sound tokens x e =
    let a = bind_some (operand_at tokens) (λ left. op_at left.1 >>= λ op. operand_at op.1 >>= λ right. checked (is_variable left.0 || is_variable right.0) (Some (Condition left.0 op.0 right.0, right.1))) x e in
    let b = bind_some (op_at a.0.1) (λ op. operand_at op.1 >>= λ right. checked (is_variable a.0.0 || is_variable right.0) (Some (Condition a.0.0 op.0 right.0, right.1))) x a.2 in
    let c = bind_some (operand_at b.0.1) (λ right. checked (is_variable a.0.0 || is_variable right.0) (Some (Condition a.0.0 b.0.0 right.0, right.1))) x b.2 in
    let d = checked_is (is_variable a.0.0 || is_variable c.0.0) (Some (Condition a.0.0 b.0.0 c.0.0, c.0.1)) x c.2 in
    at_value (λ (y : QueryItem × List Token). IsCondition tokens y.0 y.1) (Condition a.0.0 b.0.0 c.0.0, c.0.1) x d.1
    (IsCondition.compared (subst (λ (ts : List Token). IsOperand tokens a.0.0 ts) (op_sound a.0.1 b.0 b.1) (operand_sound tokens a.0 a.1)) (operand_sound b.0.1 c.0 c.1) d.0)

argument_sound : (tokens : List Token) (x : Option (List ℕ) × List Token) → value_behind tokens ≡ Some x → IsArgument tokens x.0 x.1
argument_sound [] x e = at_value (λ (y : Option (List ℕ) × List Token). IsArgument [] y.0 y.1) (None, []) x e (IsArgument.none refl)
argument_sound ((Quoted text) ∷ rest) x e = at_value (λ (y : Option (List ℕ) × List Token). IsArgument (Quoted text ∷ rest) y.0 y.1) (Some text, rest) x e IsArgument.quoted
argument_sound ((Word word) ∷ rest) x e = elim (is_keyword (codes "construct") word) as (λ t. is_keyword (codes "construct") word ≡ t
    → cond {A = Option (Option (List ℕ) × List Token)} t (Some (None, Word word ∷ rest)) (Some (Some word, rest)) ≡ Some x → IsArgument (Word word ∷ rest) x.0 x.1) [
      | true ↦ λ k q. at_value (λ (y : Option (List ℕ) × List Token). IsArgument (Word word ∷ rest) y.0 y.1) (None, Word word ∷ rest) x q (IsArgument.none (ap not k))
      | false ↦ λ k q. at_value (λ (y : Option (List ℕ) × List Token). IsArgument (Word word ∷ rest) y.0 y.1) (Some word, rest) x q (IsArgument.word k)
    ] refl e
argument_sound (other ∷ rest) x e = at_value (λ (y : Option (List ℕ) × List Token). IsArgument (other ∷ rest) y.0 y.1) (None, other ∷ rest) x e (IsArgument.none refl)

satisfies_sound : (tokens : List Token) (x : QueryItem × List Token) → asks tokens ≡ true → satisfies_at tokens ≡ Some x → IsCondition tokens x.0 x.1
unfolding satisfies_at
satisfies_sound ((Variable v) ∷ (Word keyword) ∷ (Word name) ∷ rest) x asked e =
    let c = bind_some (value_behind rest) (λ argument. Some (Satisfies v (lowered name) argument.0, argument.1)) x e in
    at_value (λ (y : QueryItem × List Token). IsCondition (Variable v ∷ Word keyword ∷ Word name ∷ rest) y.0 y.1) (Satisfies v (lowered name) c.0.0, c.0.1) x c.2 (IsCondition.satisfied asked (argument_sound rest c.0 c.1))
satisfies_sound tokens x asked e = absurd cc

condition_by : (b : Bool) (tokens : List Token) (x : QueryItem × List Token) → asks tokens ≡ b → cond b (satisfies_at tokens) (comparison_at tokens) ≡ Some x → IsCondition tokens x.0 x.1
condition_by true tokens x asked e = satisfies_sound tokens x asked e
condition_by false tokens x asked e = comparison_sound tokens x e

condition_sound : (tokens : List Token) (x : QueryItem × List Token) → condition_at tokens ≡ Some x → IsCondition tokens x.0 x.1
condition_sound tokens x e = condition_by (asks tokens) tokens x refl e

record Sourced (tokens : List Token) (source : List ℕ) (rest : List Token) : Type 0 where
  pub word : List ℕ
  pub behind : List Token
  pub starts : tokens ≡ Word word ∷ behind
  pub keyword : IsTrue (is_keyword (codes "in") word)
  pub literal : IsLiteral behind source rest

source_sound : (tokens : List Token) (x : List ℕ × List Token) → source_at tokens ≡ Some x → Sourced tokens x.0 x.1
source_sound ((Word w) ∷ rest) x e =
    let d = checked_is (is_keyword (codes "in") w) (literal_at rest) x e in
    record { word = w; behind = rest; starts = refl; keyword = d.0; literal = literal_sound rest x d.1 }
source_sound tokens x e = absurd cc

root_sound : (tokens : List Token) (x : List ℕ × List Token) → root_at tokens ≡ Some x → tokens ≡ TagStart ∷ Name x.0 ∷ TagClose ∷ x.1
root_sound tokens x e =
    let a = bind_some (tag_at tokens) (λ tag. end_close_at tag.1 >>= λ rest. Some (tag.0, rest)) x e in
    let b = bind_some (end_close_at a.0.1) (λ rest. Some (a.0.0, rest)) x a.2 in
    at_value (λ (y : List ℕ × List Token). tokens ≡ TagStart ∷ Name y.0 ∷ TagClose ∷ y.1) (a.0.0, b.0) x b.2
    (tag_sound tokens a.0 a.1 ∙ ap (λ (ts : List Token). TagStart ∷ Name a.0.0 ∷ ts) (end_close_sound a.0.1 b.0 b.1))

spelled_match : (root source : List ℕ) (arms : List Pattern) (tokens a b c d : List Token) → tokens ≡ TagStart ∷ Name root ∷ TagClose ∷ a → IsPatterns a arms b → has_arm arms ≡ true
    → IsEnd root b c → Sourced c source d → IsMatch tokens (Match root arms source) d
spelled_match root source [] tokens a b c d starts ps some end sourced = absurd cc
spelled_match root source (arm ∷ arms) tokens a b c d starts ps some end sourced =
    subst (λ (ts : List Token). IsMatch ts (Match root (arm ∷ arms) source) d) (sym starts)
    (IsMatch.matched ps (subst (λ (ts : List Token). IsEnd root b ts) sourced.starts end) sourced.keyword sourced.literal)

match_sound : (depth : ℕ) (tokens : List Token) (x : QueryItem × List Token) → match_at depth tokens ≡ Some x → IsMatch tokens x.0 x.1
unfolding match_at
match_sound depth tokens x e =
    let arms_of = many starts_tag (pattern_at depth) in
    let a = bind_some (root_at tokens) (λ root. many starts_tag (pattern_at depth) root.1 >>= λ arms. checked (has_arm arms.0) (end_at root.0 arms.1) >>= λ end. source_at end >>= λ source. Some (Match root.0 arms.0 source.0, source.1)) x e in
    let b = bind_some (many starts_tag (pattern_at depth) a.0.1) (λ arms. checked (has_arm arms.0) (end_at a.0.0 arms.1) >>= λ end. source_at end >>= λ source. Some (Match a.0.0 arms.0 source.0, source.1)) x a.2 in
    let c = bind_some (checked (has_arm b.0.0) (end_at a.0.0 b.0.1)) (λ end. source_at end >>= λ source. Some (Match a.0.0 b.0.0 source.0, source.1)) x b.2 in
    let d = bind_some (source_at c.0) (λ source. Some (Match a.0.0 b.0.0 source.0, source.1)) x c.2 in
    let k = checked_is (has_arm b.0.0) (end_at a.0.0 b.0.1) c.0 c.1 in
    at_value (λ (y : QueryItem × List Token). IsMatch tokens y.0 y.1) (Match a.0.0 b.0.0 d.0.0, d.0.1) x d.2
    (spelled_match a.0.0 d.0.0 b.0.0 tokens a.0.1 b.0.1 c.0 d.0.1 (root_sound tokens a.0 a.1)
    (many_sound (pattern_at depth) (pattern_sound depth) (length a.0.1) a.0.1 b.0 b.1) k.0 (end_sound a.0.0 b.0.1 c.0 k.1) (source_sound c.0 d.0 d.1))

-- ---- how much is left

literal_within : {a b : List Token} {text : List ℕ} → IsLiteral a text b → length b < length a
literal_within IsLiteral.quoted = omega arith
literal_within IsLiteral.word = omega arith

operand_within : {a b : List Token} {o : Operand} → IsOperand a o b → length b < length a
operand_within IsOperand.variable = omega arith
operand_within (IsOperand.literal h) = literal_within h

argument_within : {a b : List Token} {argument : Option (List ℕ)} → IsArgument a argument b → length b ≤ length a
argument_within IsArgument.quoted = omega arith
argument_within (IsArgument.word other) = omega arith
argument_within (IsArgument.none free) = omega arith

condition_within : {a b : List Token} {i : QueryItem} → IsCondition a i b → length b < length a
condition_within (IsCondition.compared l r some) = omega (arith, operand_within l, operand_within r)
condition_within (IsCondition.satisfied keyword argument) = omega (arith, argument_within argument)

match_within : {a b : List Token} {i : QueryItem} → IsMatch a i b → length b < length a
match_within (IsMatch.matched ps end w source) = omega (arith, patterns_within ps, end_within end, literal_within source)

more_within : {a b : List Token} {more : List QueryItem} → IsMore a more b → length b ≤ length a
more_within IsMore.no_more = omega arith
more_within (IsMore.more_match m more) = omega (arith, match_within m, more_within more)
more_within (IsMore.more_condition free m more) = omega (arith, condition_within m, more_within more)

pub items_within : {a b : List Token} {items : List QueryItem} → IsItems a items b → length b ≤ length a
items_within (IsItems.items m more) = omega (arith, match_within m, more_within more)

item_shorter : (depth : ℕ) (b : Bool) (tokens : List Token) (x : QueryItem × List Token) → cond b (match_at depth tokens) (condition_at tokens) ≡ Some x → length x.1 < length tokens
item_shorter depth true tokens x e = match_within (match_sound depth tokens x e)
item_shorter depth false tokens x e = condition_within (condition_sound tokens x e)

pub next_shorter : (depth : ℕ) (tokens : List Token) (x : QueryItem × List Token) → next_item_at depth tokens ≡ Some x → length x.1 < length tokens
next_shorter depth (Comma ∷ rest) x e = omega (arith, item_shorter depth (starts_tag rest) rest x e)
next_shorter depth tokens x e = absurd cc

more_step_sound : (depth : ℕ) (b : Bool) (a : List Token) (x : QueryItem × List Token) (more : List QueryItem) (c : List Token) → starts_construct a ≡ false → cond b (match_at depth a) (condition_at a) ≡ Some x → IsMore x.1 more c
    → IsMore (Comma ∷ a) (x.0 ∷ more) c
more_step_sound depth true a x more c free e m = IsMore.more_match (match_sound depth a x e) m
more_step_sound depth false a x more c free e m = IsMore.more_condition free (condition_sound a x e) m

next_sound : (depth : ℕ) (tokens : List Token) (x : QueryItem × List Token) (more : List QueryItem) (c : List Token) → continues tokens ≡ true → next_item_at depth tokens ≡ Some x → IsMore x.1 more c → IsMore tokens (x.0 ∷ more) c
next_sound depth (Comma ∷ rest) x more c go e m = more_step_sound depth (starts_tag rest) rest x more c (was_false (starts_construct rest) go) e m
  where
    was_false : (b : Bool) → not b ≡ true → b ≡ false
    was_false true h = absurd cc
    was_false false h = refl
next_sound depth tokens x more c go e m = absurd cc

more_sound : (depth n : ℕ) (tokens : List Token) (x : List QueryItem × List Token) → many_in continues (next_item_at depth) n tokens ≡ Some x → IsMore tokens x.0 x.1
more_sound depth n tokens x e = many_spells continues (next_item_at depth) IsMore (λ a. IsMore.no_more) (next_sound depth) n tokens x e

pub items_sound : (depth : ℕ) (tokens : List Token) (x : List QueryItem × List Token) → items_at depth tokens ≡ Some x → IsItems tokens x.0 x.1
unfolding items_at
items_sound depth tokens x e =
    let a = bind_some (match_at depth tokens) (λ first. many continues (next_item_at depth) first.1 >>= λ more. Some (first.0 ∷ more.0, more.1)) x e in
    let b = bind_some (many continues (next_item_at depth) a.0.1) (λ more. Some (a.0.0 ∷ more.0, more.1)) x a.2 in
    at_value (λ (y : List QueryItem × List Token). IsItems tokens y.0 y.1) (a.0.0 ∷ b.0.0, b.0.1) x b.2 (IsItems.items (match_sound depth tokens a.0 a.1) (more_sound depth (length a.0.1) a.0.1 b.0 b.1))

-- ---- what is spelled so is read

literal_complete : {a b : List Token} {text : List ℕ} → IsLiteral a text b → literal_at a ≡ Some (text, b)
literal_complete IsLiteral.quoted = refl
literal_complete IsLiteral.word = refl

operand_complete : {a b : List Token} {o : Operand} → IsOperand a o b → operand_at a ≡ Some (o, b)
operand_complete IsOperand.variable = refl
operand_complete (IsOperand.literal IsLiteral.quoted) = refl
operand_complete (IsOperand.literal IsLiteral.word) = refl

operand_starts : {a b : List Token} {o : Operand} → IsOperand a o b → starts_tag a ≡ false
operand_starts IsOperand.variable = refl
operand_starts (IsOperand.literal IsLiteral.quoted) = refl
operand_starts (IsOperand.literal IsLiteral.word) = refl

operand_compared : {a b : List Token} {o : Operand} {op : Op} → IsOperand a o (Cmp op ∷ b) → asks a ≡ false
operand_compared IsOperand.variable = refl
operand_compared (IsOperand.literal IsLiteral.quoted) = refl
operand_compared (IsOperand.literal IsLiteral.word) = refl

argument_complete : {a b : List Token} {argument : Option (List ℕ)} → IsArgument a argument b → value_behind a ≡ Some (argument, b)
argument_complete IsArgument.quoted = refl
argument_complete (IsArgument.word other) = rw other refl
argument_complete (IsArgument.none {a = a} free) = nothing a free
  where
    was_true : (b : Bool) → not b ≡ false → b ≡ true
    was_true true h = refl
    was_true false h = absurd cc

    nothing : (a : List Token) → starts_argument a ≡ false → value_behind a ≡ Some (None, a)
    nothing [] free = refl
    nothing ((Quoted text) ∷ rest) free = absurd cc
    nothing ((Word word) ∷ rest) free = rw (was_true (is_keyword (codes "construct") word) free) refl
    nothing (other ∷ rest) free = refl

comparison_complete : {a b : List Token} {i : QueryItem} → IsCondition a i b → asks a ≡ false → comparison_at a ≡ Some (i, b)
unfolding comparison_at
comparison_complete (IsCondition.compared l r some) plain = rw (operand_complete l, operand_complete r, some) refl
comparison_complete (IsCondition.satisfied keyword argument) plain = absurd (true≢false (sym keyword ∙ plain))

satisfies_complete : (x keyword name : List ℕ) {argument : Option (List ℕ)} {a b : List Token} → IsArgument a argument b → satisfies_at (Variable x ∷ Word keyword ∷ Word name ∷ a) ≡ Some (Satisfies x (lowered name) argument, b)
unfolding satisfies_at
satisfies_complete x keyword name argument = rw (argument_complete argument) refl

condition_complete : {a b : List Token} {i : QueryItem} → IsCondition a i b → condition_at a ≡ Some (i, b)
condition_complete (IsCondition.compared {a = a} l r some) = let plain : asks a ≡ false = operand_compared l in rw plain (comparison_complete (IsCondition.compared l r some) plain)
condition_complete (IsCondition.satisfied {x = x} {keyword = word} {name = name} keyword argument) = rw keyword (satisfies_complete x word name argument)

condition_starts : {a b : List Token} {i : QueryItem} → IsCondition a i b → starts_tag a ≡ false
condition_starts (IsCondition.compared l r some) = operand_starts l
condition_starts (IsCondition.satisfied keyword argument) = refl

match_starts : {a b : List Token} {i : QueryItem} → IsMatch a i b → starts_tag a ≡ true
match_starts (IsMatch.matched ps end w source) = refl

match_free : {a b : List Token} {i : QueryItem} → IsMatch a i b → starts_construct a ≡ false
match_free (IsMatch.matched ps end w source) = refl

match_complete : {a b : List Token} {i : QueryItem} → IsMatch a i b → (depth : ℕ) → length a ≤ depth → match_at depth a ≡ Some (i, b)
unfolding match_at
match_complete (IsMatch.matched {a = a} ps end w source) depth room =
    rw (patterns_complete ps (end_starts end) depth (omega arith) (length a) (omega arith), end_complete end, w, literal_complete source) refl

more_turn : (depth n : ℕ) (a b c : List Token) (i : QueryItem) (more : List QueryItem) (t : Bool) → starts_construct a ≡ false → starts_tag a ≡ t → cond t (match_at depth a) (condition_at a) ≡ Some (i, b)
    → many_in continues (next_item_at depth) n b ≡ Some (more, c) → many_in continues (next_item_at depth) (suc n) (Comma ∷ a) ≡ Some (i ∷ more, c)
unfolding many_in
more_turn depth n a b c i more t free starts e m = rw (free, starts, e, m) refl

more_complete : {a b : List Token} {more : List QueryItem} → IsMore a more b → continues b ≡ false → (depth : ℕ) → length a ≤ depth → (n : ℕ) → length a ≤ n → many_in continues (next_item_at depth) n a ≡ Some (more, b)
more_complete {a = a} IsMore.no_more e depth room n enough = last_turn continues (next_item_at depth) n a e
more_complete (IsMore.more_match m more) e depth room zero enough = absurd (omega arith)
more_complete (IsMore.more_match {item = i} {more = is} {a = a} {b = b} {c = c} m more) e depth room (suc n) enough =
    more_turn depth n a b c i is true (match_free m) (match_starts m) (match_complete m depth (omega arith)) (more_complete more e depth (omega (arith, match_within m)) n (omega (arith, match_within m)))
more_complete (IsMore.more_condition free m more) e depth room zero enough = absurd (omega arith)
more_complete (IsMore.more_condition {item = i} {more = is} {a = a} {b = b} {c = c} free m more) e depth room (suc n) enough =
    more_turn depth n a b c i is false free (condition_starts m) (condition_complete m) (more_complete more e depth (omega (arith, condition_within m)) n (omega (arith, condition_within m)))

pub items_complete : {a b : List Token} {items : List QueryItem} → IsItems a items b → continues b ≡ false → (depth : ℕ) → length a ≤ depth → items_at depth a ≡ Some (items, b)
unfolding items_at
items_complete (IsItems.items {b = b} m more) e depth room = rw (match_complete m depth room, more_complete more e depth (omega (arith, match_within m)) (length b) (omega arith)) refl
