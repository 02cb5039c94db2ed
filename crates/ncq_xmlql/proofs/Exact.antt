-- Answers: what the function says is right, and only that is.
use Rattle.std.proofs.Common.{◌≡◌, ℕ, ◌≤◌, Bool, true, false, List, Option, Some, None, Result, Ok, Err, cond, refl, sym, ap, subst, ◌∙◌}
use Rattle.std.specs.Prelude.{nat_lt}
use Rattle.std.proofs.lemmas.Bool.{ltb-true, ltb-false, lt-ltb, le-ltb}
use Rattle.ncq_base.specs.declared.limit.Limit.{Limit as LimitKind}
use Rattle.ncq_base.specs.declared.limit.Limit.TheVariants as limit
use Rattle.ncq_token.specs.declared.token.Token.{Token}
use Rattle.ncq_token.specs.Tokens.{Read as TokensRead, tokens_of}
use Rattle.ncq_xmlql.specs.declared.model.QueryItem.{QueryItem}
use Rattle.ncq_xmlql.specs.declared.model.Statement.{Statement}
use Rattle.ncq_xmlql.specs.declared.statement.StatementError.{StatementError}
use Rattle.ncq_xmlql.specs.declared.statement.StatementError.TheVariants.{NotAStatement, Limit, OutOfMemory}
use Rattle.ncq_xmlql.specs.Nesting.{nest}
use Rattle.ncq_xmlql.specs.Counts.{arms, slots, conditions}
use Rattle.ncq_xmlql.specs.PatternPaths.{all_paths, is_few}
use Rattle.ncq_xmlql.specs.StatementReading.{statement_at}
use Rattle.ncq_xmlql.specs.Statements.{IsStatement, IsShallow, IsDeep, AreWithin, Exceed, Answers}
use Rattle.ncq_xmlql.specs.Answered.{exceeded, unless_exceeded, limited, answered_tokens, statement_of, GivesStatement}
use Rattle.ncq_xmlql.proofs.StatementLaws.{ok_is, statement_sound, statement_complete}

-- ---- the limits on counts

-- within the limits, or the first that is exceeded
abbrev Counted : List QueryItem → Option LimitKind → Type 0
Counted items None = AreWithin items
Counted items (Some which) = Exceed items which

counted_at : (items : List QueryItem) (a b c d : Bool) → nat_lt 8 (arms items) ≡ a → nat_lt 64 (slots items) ≡ b → nat_lt 32 (conditions items) ≡ c → all_paths is_few items ≡ d
    → Counted items (cond a (Some limit.Arms) (cond b (Some limit.Slots) (cond c (Some limit.Conditions) (cond d None (Some limit.Path)))))
counted_at items true b c d p q r s = ltb-true 8 (arms items) p
counted_at items false true c d p q r s = (ltb-false 8 (arms items) p, ltb-true 64 (slots items) q)
counted_at items false false true d p q r s = (ltb-false 8 (arms items) p, ltb-false 64 (slots items) q, ltb-true 32 (conditions items) r)
counted_at items false false false true p q r s = (ltb-false 8 (arms items) p, ltb-false 64 (slots items) q, ltb-false 32 (conditions items) r, s)
counted_at items false false false false p q r s = (ltb-false 8 (arms items) p, ltb-false 64 (slots items) q, ltb-false 32 (conditions items) r, s)

counted : (items : List QueryItem) → Counted items (exceeded items)
counted items = counted_at items (nat_lt 8 (arms items)) (nat_lt 64 (slots items)) (nat_lt 32 (conditions items)) (all_paths is_few items) refl refl refl refl

exceeded_none : (items : List QueryItem) → AreWithin items → exceeded items ≡ None
exceeded_none items h = rw (le-ltb 8 (arms items) h.0, le-ltb 64 (slots items) h.1, le-ltb 32 (conditions items) h.2, h.3) refl

exceeded_some : (items : List QueryItem) (which : LimitKind) → Exceed items which → exceeded items ≡ Some which
exceeded_some items limit.Arms h = rw (lt-ltb 8 (arms items) h) refl
exceeded_some items limit.Slots h = rw (le-ltb 8 (arms items) h.0, lt-ltb 64 (slots items) h.1) refl
exceeded_some items limit.Conditions h = rw (le-ltb 8 (arms items) h.0, le-ltb 64 (slots items) h.1, lt-ltb 32 (conditions items) h.2) refl
exceeded_some items limit.Path h = rw (le-ltb 8 (arms items) h.0, le-ltb 64 (slots items) h.1, le-ltb 32 (conditions items) h.2, h.3) refl
exceeded_some items limit.Line h = absurd h
exceeded_some items limit.Nesting h = absurd h
exceeded_some items limit.Pattern h = absurd h

-- ---- what the function says is right

limit_answer : (text : List ℕ) (st : Statement) (which : LimitKind) → IsStatement text st → IsShallow text → Exceed st.query.items which → Answers text (Err (Limit which))
limit_answer text st limit.Arms is shallow more = (st, is, shallow, more)
limit_answer text st limit.Slots is shallow more = (st, is, shallow, more)
limit_answer text st limit.Conditions is shallow more = (st, is, shallow, more)
limit_answer text st limit.Line is shallow more = absurd more
limit_answer text st limit.Nesting is shallow more = absurd more
limit_answer text st limit.Pattern is shallow more = absurd more
limit_answer text st limit.Path is shallow more = (st, is, shallow, more)

counted_answer : (text : List ℕ) (st : Statement) (which : Option LimitKind) → IsStatement text st → IsShallow text → Counted st.query.items which → Answers text (unless_exceeded st which)
counted_answer text st None is shallow h = (is, shallow, h)
counted_answer text st (Some which) is shallow h = limit_answer text st which is shallow h

module _ (text : List ℕ) (tokens : List Token) (are : tokens_of text ≡ Ok tokens) where
  same_tokens : (others : List Token) → tokens_of text ≡ Ok others → tokens ≡ others
  same_tokens others e = ok_is (tokens_of text) tokens others are e

  spelled_here : (st : Statement) → IsStatement text st → statement_at tokens ≡ Some st
  spelled_here st h = ap statement_at (same_tokens h.tokens h.are_tokens) ∙ statement_complete h.spelled

  shallow_text : nest tokens ≤ 32 → IsShallow text
  shallow_text h = λ others e. subst (λ (ts : List Token). nest ts ≤ 32) (same_tokens others e) h

  read_answer : (read : Option Statement) → statement_at tokens ≡ read → IsShallow text → Answers text (limited read)
  read_answer None e shallow = (λ st h. absurd (none_some st (sym e ∙ spelled_here st h)), shallow)
    where
      none_some : (st : Statement) → None ≡ Some st → ⊥
      none_some st f = cc
  read_answer (Some st) e shallow = counted_answer text st (exceeded st.query.items) (record { tokens = tokens; are_tokens = are; spelled = statement_sound tokens st e }) shallow (counted st.query.items)

  tokens_answer : (deep : Bool) → nat_lt 32 (nest tokens) ≡ deep → Answers text (cond deep (Err (Limit limit.Pattern)) (limited (statement_at tokens)))
  tokens_answer true e = (tokens, are, ltb-true 32 (nest tokens) e)
  tokens_answer false e = read_answer (statement_at tokens) refl (shallow_text (ltb-false 32 (nest tokens) e))

no_tokens : (text : List ℕ) (at : ℕ) (tokens : List Token) → tokens_of text ≡ Err at → tokens_of text ≡ Ok tokens → ⊥
no_tokens text at tokens e f = cc

answer_of : (text : List ℕ) (read : TokensRead) → tokens_of text ≡ read → Answers text (answered_tokens read)
answer_of text (Ok tokens) e = tokens_answer text tokens e (nat_lt 32 (nest tokens)) refl
answer_of text (Err at) e = (λ st h. no_tokens text at h.tokens e h.are_tokens, λ tokens f. absurd (no_tokens text at tokens e f))

pub answer_is_exact : (text : List ℕ) → Answers text (statement_of text)
unfolding statement_of
answer_is_exact text = answer_of text (tokens_of text) refl

pub given : (text : List ℕ) (answer : Result Statement StatementError) → GivesStatement answer (statement_of text) → Answers text answer
given text (Ok st) h = subst (λ (r : Result Statement StatementError). Answers text r) h (answer_is_exact text)
given text (Err OutOfMemory) h = tt
given text (Err NotAStatement) h = subst (λ (r : Result Statement StatementError). Answers text r) h (answer_is_exact text)
given text (Err (Limit which)) h = subst (λ (r : Result Statement StatementError). Answers text r) h (answer_is_exact text)

-- ---- only what the function says is right

none_spelled : (text : List ℕ) (tokens : List Token) → tokens_of text ≡ Ok tokens → ((st : Statement) → ¬ IsStatement text st) → (read : Option Statement) → statement_at tokens ≡ read → read ≡ None
none_spelled text tokens are none None e = refl
none_spelled text tokens are none (Some st) e = absurd (none st (record { tokens = tokens; are_tokens = are; spelled = statement_sound tokens st e }))

none_answer : (text : List ℕ) (read : TokensRead) → tokens_of text ≡ read → ((st : Statement) → ¬ IsStatement text st) → IsShallow text → answered_tokens read ≡ Err NotAStatement
none_answer text (Ok tokens) are none shallow = rw (le-ltb 32 (nest tokens) (shallow tokens are), none_spelled text tokens are none (statement_at tokens) refl) refl
none_answer text (Err at) are none shallow = refl

deep_answer : (text : List ℕ) → IsDeep text → answered_tokens (tokens_of text) ≡ Err (Limit limit.Pattern)
deep_answer text (tokens, are, deep) = rw (are, lt-ltb 32 (nest tokens) deep) refl

statement_answer : (text : List ℕ) (st : Statement) (which : Option LimitKind) → IsStatement text st → IsShallow text → exceeded st.query.items ≡ which → answered_tokens (tokens_of text) ≡ unless_exceeded st which
statement_answer text st which h shallow e = rw (h.are_tokens, le-ltb 32 (nest h.tokens) (shallow h.tokens h.are_tokens), statement_complete h.spelled) (ap (λ (w : Option LimitKind). unless_exceeded st w) e)

exceeded_answer : (text : List ℕ) (which : LimitKind) (st : Statement) → IsStatement text st → IsShallow text → Exceed st.query.items which → answered_tokens (tokens_of text) ≡ Err (Limit which)
exceeded_answer text which st h shallow more = statement_answer text st (Some which) h shallow (exceeded_some st.query.items which more)

limit_given : (text : List ℕ) (which : LimitKind) → Answers text (Err (Limit which)) → answered_tokens (tokens_of text) ≡ Err (Limit which)
limit_given text limit.Pattern h = deep_answer text h
limit_given text limit.Arms h = exceeded_answer text limit.Arms h.0 h.1 h.2 h.3
limit_given text limit.Slots h = exceeded_answer text limit.Slots h.0 h.1 h.2 h.3
limit_given text limit.Conditions h = exceeded_answer text limit.Conditions h.0 h.1 h.2 h.3
limit_given text limit.Line h = absurd h.3
limit_given text limit.Nesting h = absurd h.3
limit_given text limit.Path h = exceeded_answer text limit.Path h.0 h.1 h.2 h.3

pub exact_is_given : (text : List ℕ) (answer : Result Statement StatementError) → Answers text answer → GivesStatement answer (statement_of text)
unfolding statement_of
exact_is_given text (Ok st) h = statement_answer text st None h.0 h.1 (exceeded_none st.query.items h.2)
exact_is_given text (Err OutOfMemory) h = tt
exact_is_given text (Err NotAStatement) h = none_answer text (tokens_of text) refl h.0 h.1
exact_is_given text (Err (Limit which)) h = limit_given text which h
