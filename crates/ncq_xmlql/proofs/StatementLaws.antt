-- Statements: what is read is spelled so, and what is spelled so is read.
use Rattle.std.proofs.Common.{◌≡◌, ℕ, ◌≤◌, Bool, true, false, List, ◌∷◌, length, Option, Some, None, Result, Ok, Err, IsTrue, cond, refl, sym, ap, subst, ◌∙◌, arith}
use Rattle.std.specs.Prelude.{codes, IfOk}
use Rattle.ncq_base.specs.Names.{is_name}
use Rattle.ncq_token.specs.declared.token.Token.{Token}
use Rattle.ncq_token.specs.declared.token.Token.TheVariants.{Quoted, Word, Comma}
use Rattle.ncq_token.specs.Tokens.{tokens_of}
use Rattle.ncq_xmlql.specs.declared.mismatch.Mismatch.{Mismatch}
use Rattle.ncq_xmlql.specs.declared.model.QueryItem.{QueryItem}
use Rattle.ncq_xmlql.specs.declared.model.Template.{Template}
use Rattle.ncq_xmlql.specs.declared.model.Query.{Query}
use Rattle.ncq_xmlql.specs.declared.model.Statement.{Statement}
use Rattle.ncq_xmlql.specs.declared.time.Times.{Times}
use Rattle.ncq_xmlql.specs.Reading.{◌>>=◌, Gives, is_keyword, lowered}
use Rattle.ncq_xmlql.specs.ItemReading.{items_at, continues}
use Rattle.ncq_xmlql.specs.TemplateReading.{top_at}
use Rattle.ncq_xmlql.specs.Times.{times, AreTimes, times_from, is_time_word}
use Rattle.ncq_xmlql.specs.TemplateGrammar.{IsElement, IsTop}
use Rattle.ncq_xmlql.specs.StatementReading.{keyword_at, title_at, head_at, construct_at, distinct_at, query_at, action_word_at, action_at, argument_at, or_zero, statement_at}
use Rattle.ncq_xmlql.specs.StatementGrammar.{IsComma, IsDistinct, IsQuery, IsArgument, IsSpelled}
use Rattle.ncq_xmlql.specs.Statements.{IsStatement}
use Rattle.ncq_xmlql.proofs.Sound.{bind_some, some_is, checked_is, at_value}
use Rattle.ncq_xmlql.proofs.ItemLaws.{items_sound, items_complete, items_within}
use Rattle.ncq_xmlql.proofs.TemplateLaws.{top_sound, top_complete}
use Rattle.ncq_xmlql.proofs.TimeLaws.{times_sound, times_complete}

-- ---- what is read is spelled so

record Keyed (keyword : List ℕ) (tokens rest : List Token) : Type 0 where
  pub word : List ℕ
  pub starts : tokens ≡ Word word ∷ rest
  pub same : IsTrue (is_keyword keyword word)

keyword_sound : (keyword : List ℕ) (tokens rest : List Token) → keyword_at keyword tokens ≡ Some rest → Keyed keyword tokens rest
keyword_sound keyword ((Word w) ∷ after) rest e =
    let d = checked_is (is_keyword keyword w) (Some after) rest e in
    record { word = w; starts = ap (λ (ts : List Token). Word w ∷ ts) (some_is after rest d.1); same = d.0 }
keyword_sound keyword tokens rest e = absurd cc

title_sound : (tokens : List Token) (x : List ℕ × List Token) → title_at tokens ≡ Some x → (tokens ≡ Word x.0 ∷ x.1) × IsTrue (is_name x.0)
title_sound ((Word w) ∷ after) x e =
    let d = checked_is (is_name w) (Some (w, after)) x e in
    at_value (λ (y : List ℕ × List Token). ((Word w ∷ after) ≡ Word y.0 ∷ y.1) × IsTrue (is_name y.0)) (w, after) x d.1 (refl, d.0)
title_sound tokens x e = absurd cc

record Headed (tokens : List Token) (name : List ℕ) (rest : List Token) : Type 0 where
  pub create : List ℕ
  pub where_ : List ℕ
  pub starts : tokens ≡ Word create ∷ Word name ∷ Word where_ ∷ rest
  pub is_create : IsTrue (is_keyword (codes "create") create)
  pub named : IsTrue (is_name name)
  pub is_where : IsTrue (is_keyword (codes "where") where_)

head_sound : (tokens : List Token) (x : List ℕ × List Token) → head_at tokens ≡ Some x → Headed tokens x.0 x.1
head_sound tokens x e =
    let a = bind_some (keyword_at (codes "create") tokens) (λ a. title_at a >>= λ title. keyword_at (codes "where") title.1 >>= λ b. Some (title.0, b)) x e in
    let t = bind_some (title_at a.0) (λ title. keyword_at (codes "where") title.1 >>= λ b. Some (title.0, b)) x a.2 in
    let b = bind_some (keyword_at (codes "where") t.0.1) (λ b. Some (t.0.0, b)) x t.2 in
    let create = keyword_sound (codes "create") tokens a.0 a.1 in
    let title = title_sound a.0 t.0 t.1 in
    let where_ = keyword_sound (codes "where") t.0.1 b.0 b.1 in
    at_value (λ (y : List ℕ × List Token). Headed tokens y.0 y.1) (t.0.0, b.0) x b.2
    (record {
      create = create.word;
      where_ = where_.word;
      starts = create.starts ∙ ap (λ (ts : List Token). Word create.word ∷ ts) (title.0 ∙ ap (λ (ts : List Token). Word t.0.0 ∷ ts) where_.starts);
      is_create = create.same;
      named = title.1;
      is_where = where_.same;
    })

abbrev asked : List QueryItem → Bool → Template → Query
asked items distinct template = record { items = items; distinct = distinct; template = template }

record Constructed (tokens rest : List Token) : Type 0 where
  pub word : List ℕ
  pub comma : IsComma tokens (Word word ∷ rest)
  pub same : IsTrue (is_keyword (codes "construct") word)

construct_sound : (tokens rest : List Token) → construct_at tokens ≡ Some rest → Constructed tokens rest
construct_sound (Comma ∷ after) rest e =
    let k = keyword_sound (codes "construct") after rest e in
    record { word = k.word; comma = subst (λ (ts : List Token). IsComma (Comma ∷ after) ts) k.starts IsComma.comma; same = k.same }
construct_sound tokens rest e =
    let k = keyword_sound (codes "construct") tokens rest e in
    record { word = k.word; comma = subst (λ (ts : List Token). IsComma tokens ts) k.starts IsComma.none; same = k.same }

-- what is found at a word, by whether it is `distinct`
abbrev found_distinct : List ℕ → List Token → Bool → Bool × List Token
found_distinct w rest b = cond {A = Bool × List Token} b (true, rest) (false, Word w ∷ rest)

word_distinct : (w : List ℕ) (rest : List Token) (b : Bool) → is_keyword (codes "distinct") w ≡ b
    → IsDistinct (Word w ∷ rest) (found_distinct w rest b).0 (found_distinct w rest b).1
word_distinct w rest true h = IsDistinct.word h
word_distinct w rest false h = IsDistinct.none

distinct_sound : (tokens : List Token) → IsDistinct tokens (distinct_at tokens).0 (distinct_at tokens).1
distinct_sound ((Word w) ∷ rest) = word_distinct w rest (is_keyword (codes "distinct") w) refl
distinct_sound tokens = IsDistinct.none

query_sound : (depth : ℕ) (tokens : List Token) (x : Query × List Token) → query_at depth tokens ≡ Some x → IsQuery tokens x.0 x.1
unfolding query_at
query_sound depth tokens x e =
    let a = bind_some (items_at depth tokens) (λ items. construct_at items.1 >>= λ behind. top_at depth (distinct_at behind).1 >>= λ template. Some (asked items.0 (distinct_at behind).0 template.0, template.1)) x e in
    let b = bind_some (construct_at a.0.1) (λ behind. top_at depth (distinct_at behind).1 >>= λ template. Some (asked a.0.0 (distinct_at behind).0 template.0, template.1)) x a.2 in
    let d = distinct_at b.0 in
    let c = bind_some (top_at depth d.1) (λ template. Some (asked a.0.0 d.0 template.0, template.1)) x b.2 in
    let k = construct_sound a.0.1 b.0 b.1 in
    at_value (λ (y : Query × List Token). IsQuery tokens y.0 y.1) (asked a.0.0 d.0 c.0.0, c.0.1) x c.2
    (IsQuery.query (items_sound depth tokens a.0 a.1) k.comma k.same (distinct_sound b.0) (top_sound depth d.1 c.0 c.1))

record Acts (tokens : List Token) (action : List ℕ) (rest : List Token) : Type 0 where
  pub do_ : List ℕ
  pub word : List ℕ
  pub starts : tokens ≡ Word do_ ∷ Word word ∷ rest
  pub same : IsTrue (is_keyword (codes "do") do_)
  pub lower : lowered word ≡ action

action_word_sound : (keyword : List ℕ) (before : List Token) (do_ : List ℕ) (tokens : List Token) → before ≡ Word do_ ∷ tokens → IsTrue (is_keyword (codes "do") do_)
    → (x : List ℕ × List Token) → action_word_at tokens ≡ Some x → Acts before x.0 x.1
action_word_sound keyword before do_ ((Word w) ∷ rest) starts same x e =
    at_value (λ (y : List ℕ × List Token). Acts before y.0 y.1) (lowered w, rest) x e (record { do_ = do_; word = w; starts = starts; same = same; lower = refl })
action_word_sound keyword before do_ tokens starts same x e = absurd cc

action_sound : (tokens : List Token) (x : List ℕ × List Token) → action_at tokens ≡ Some x → Acts tokens x.0 x.1
action_sound tokens x e =
    let a = bind_some (keyword_at (codes "do") tokens) (λ a. action_word_at a) x e in
    let k = keyword_sound (codes "do") tokens a.0 a.1 in
    action_word_sound (codes "do") tokens k.word a.0 k.starts k.same x a.2

word_argument : (w : List ℕ) (rest : List Token) (b : Bool) → is_time_word w ≡ b → (x : Option (List ℕ) × List Token)
    → cond b (Some (None, Word w ∷ rest)) (Some (Some w, rest)) ≡ Some x → IsArgument (Word w ∷ rest) x.0 x.1
word_argument w rest true h x e = at_value (λ (y : Option (List ℕ) × List Token). IsArgument (Word w ∷ rest) y.0 y.1) (None, Word w ∷ rest) x e IsArgument.none
word_argument w rest false h x e = at_value (λ (y : Option (List ℕ) × List Token). IsArgument (Word w ∷ rest) y.0 y.1) (Some w, rest) x e (IsArgument.word h)

argument_sound : (tokens : List Token) (x : Option (List ℕ) × List Token) → argument_at tokens ≡ Some x → IsArgument tokens x.0 x.1
argument_sound ((Quoted text) ∷ rest) x e = at_value (λ (y : Option (List ℕ) × List Token). IsArgument (Quoted text ∷ rest) y.0 y.1) (Some text, rest) x e IsArgument.quoted
argument_sound ((Word w) ∷ rest) x e = word_argument w rest (is_time_word w) refl x e
argument_sound tokens x e = at_value (λ (y : Option (List ℕ) × List Token). IsArgument tokens y.0 y.1) (None, tokens) x e IsArgument.none

abbrev made : List ℕ → Query → List ℕ → Option (List ℕ) → Times → Statement
made name query action argument written =
    record { name = name; query = query; action = action; argument = argument; start = written.start; every = or_zero written.every; expire = written.expire }

spelled : (tokens : List Token) (name : List ℕ) (query : Query) (action : List ℕ) (argument : Option (List ℕ)) (written : Times) (a b c d : List Token)
    → Headed tokens name a → IsQuery a query b → Acts b action c → IsArgument c argument d → AreTimes (times None None None) d written
    → IsSpelled tokens (made name query action argument written)
spelled tokens name query action argument written a b c d head q acts arg written_so =
    subst (λ (ts : List Token). IsSpelled ts (made name query action argument written)) (sym head.starts)
    (subst (λ (word : List ℕ). IsSpelled (Word head.create ∷ Word name ∷ Word head.where_ ∷ a) (made name query word argument written)) acts.lower
    (IsSpelled.statement head.is_create head.named head.is_where (subst (λ (ts : List Token). IsQuery a query ts) acts.starts q) acts.same arg written_so))

pub statement_sound : (tokens : List Token) (st : Statement) → statement_at tokens ≡ Some st → IsSpelled tokens st
unfolding statement_at
statement_sound tokens st e =
    let a = bind_some (head_at tokens) (λ title. query_at (length tokens) title.1 >>= λ query. action_at query.1 >>= λ action. argument_at action.1 >>= λ argument. times_from (times None None None) argument.1 >>= λ written. Some (made title.0 query.0 action.0 argument.0 written)) st e in
    let b = bind_some (query_at (length tokens) a.0.1) (λ query. action_at query.1 >>= λ action. argument_at action.1 >>= λ argument. times_from (times None None None) argument.1 >>= λ written. Some (made a.0.0 query.0 action.0 argument.0 written)) st a.2 in
    let c = bind_some (action_at b.0.1) (λ action. argument_at action.1 >>= λ argument. times_from (times None None None) argument.1 >>= λ written. Some (made a.0.0 b.0.0 action.0 argument.0 written)) st b.2 in
    let d = bind_some (argument_at c.0.1) (λ argument. times_from (times None None None) argument.1 >>= λ written. Some (made a.0.0 b.0.0 c.0.0 argument.0 written)) st c.2 in
    let f = bind_some (times_from (times None None None) d.0.1) (λ written. Some (made a.0.0 b.0.0 c.0.0 d.0.0 written)) st d.2 in
    subst (λ (s : Statement). IsSpelled tokens s) (some_is (made a.0.0 b.0.0 c.0.0 d.0.0 f.0) st f.2)
    (spelled tokens a.0.0 b.0.0 c.0.0 d.0.0 f.0 a.0.1 b.0.1 c.0.1 d.0.1 (head_sound tokens a.0 a.1) (query_sound (length tokens) a.0.1 b.0 b.1)
    (action_sound b.0.1 c.0 c.1) (argument_sound c.0.1 d.0 d.1) (times_sound d.0.1 (times None None None) f.0 f.1))

-- ---- what is spelled so is read

comma_stops : {b c : List Token} {w : List ℕ} → IsComma b (Word w ∷ c) → is_keyword (codes "construct") w ≡ true → continues b ≡ false
comma_stops IsComma.none h = refl
comma_stops IsComma.comma h = rw h refl

construct_complete : {b c : List Token} {w : List ℕ} → IsComma b (Word w ∷ c) → is_keyword (codes "construct") w ≡ true → construct_at b ≡ Some c
construct_complete IsComma.none h = rw h refl
construct_complete IsComma.comma h = rw h refl

comma_within : {b c : List Token} → IsComma b c → length c ≤ length b
comma_within IsComma.none = omega arith
comma_within IsComma.comma = omega arith

-- a template begins with no word
no_distinct : {a b : List Token} {t : Template} → IsTop a t b → distinct_at a ≡ (false, a)
no_distinct IsTop.variable = refl
no_distinct (IsTop.element (IsElement.whole attrs differ content end)) = refl
no_distinct (IsTop.element (IsElement.empty attrs differ)) = refl

distinct_complete : {a b c : List Token} {d : Bool} {t : Template} → IsDistinct a d b → IsTop b t c → distinct_at a ≡ (d, b)
distinct_complete IsDistinct.none top = no_distinct top
distinct_complete (IsDistinct.word h) top = rw h refl

distinct_within : {a b : List Token} {d : Bool} → IsDistinct a d b → length b ≤ length a
distinct_within IsDistinct.none = omega arith
distinct_within (IsDistinct.word h) = omega arith

query_complete : {a b : List Token} {q : Query} → IsQuery a q b → (depth : ℕ) → length a ≤ depth → query_at depth a ≡ Some (q, b)
unfolding query_at
query_complete (IsQuery.query spelled before h asked_once top) depth room =
    rw (items_complete spelled (comma_stops before h) depth room, construct_complete before h, distinct_complete asked_once top)
    (rw (top_complete top depth (omega (arith, items_within spelled, comma_within before, distinct_within asked_once))) refl)

every_is_time : (s v x : Bool) → v ≡ true → cond s true (cond v true x) ≡ true
every_is_time true v x h = refl
every_is_time false true x h = refl
every_is_time false false x h = absurd cc

expire_is_time : (s v x : Bool) → x ≡ true → cond s true (cond v true x) ≡ true
expire_is_time true v x h = refl
expire_is_time false true x h = refl
expire_is_time false false x h = h

no_argument : {t u : Times} {a : List Token} → AreTimes t a u → argument_at a ≡ Some (None, a)
no_argument AreTimes.no_time = refl
no_argument (AreTimes.start {w = w} h d more) = rw h refl
no_argument (AreTimes.every {w = w} h d more) = rw (every_is_time (is_keyword (codes "start") w) (is_keyword (codes "every") w) (is_keyword (codes "expire") w) h) refl
no_argument (AreTimes.expire {w = w} h d more) = rw (expire_is_time (is_keyword (codes "start") w) (is_keyword (codes "every") w) (is_keyword (codes "expire") w) h) refl

argument_complete : {a b : List Token} {argument : Option (List ℕ)} {t u : Times} → IsArgument a argument b → AreTimes t b u → argument_at a ≡ Some (argument, b)
argument_complete IsArgument.none more = no_argument more
argument_complete IsArgument.quoted more = refl
argument_complete (IsArgument.word h) more = rw h refl

statement_at_front : (create name where_ do_ action : List ℕ) (query : Query) (argument : Option (List ℕ)) (written : Times) (a b c : List Token)
    → is_keyword (codes "create") create ≡ true → is_name name ≡ true → is_keyword (codes "where") where_ ≡ true
    → query_at (length (Word create ∷ Word name ∷ Word where_ ∷ a)) a ≡ Some (query, Word do_ ∷ Word action ∷ b) → is_keyword (codes "do") do_ ≡ true
    → argument_at b ≡ Some (argument, c) → times_from (times None None None) c ≡ Some written
    → statement_at (Word create ∷ Word name ∷ Word where_ ∷ a) ≡ Some (made name query (lowered action) argument written)
unfolding statement_at
statement_at_front create name where_ do_ action query argument written a b c h1 h2 h3 h4 h5 h6 h7 = rw (h1, h2, h3, h4, h5, h6, h7) refl

pub statement_complete : {tokens : List Token} {st : Statement} → IsSpelled tokens st → statement_at tokens ≡ Some st
statement_complete (IsSpelled.statement {create = create} {name = name} {where_ = where_} {do_ = do_} {action = action} {query = query} {argument = argument} {written = written} {a = a} {b = b} {c = c} h1 h2 h3 q h5 arg written_so) =
    statement_at_front create name where_ do_ action query argument written a b c h1 h2 h3 (query_complete q (length (Word create ∷ Word name ∷ Word where_ ∷ a)) (omega arith)) h5
    (argument_complete arg written_so) (times_complete written_so)

-- ---- answers

pub is_found : (tokens : List Token) (r : Result Statement Mismatch) → Gives (λ s. s) r (statement_at tokens) → IfOk r (λ st. IsSpelled tokens st)
is_found tokens (Ok st) given = statement_sound tokens st given
is_found tokens (Err e) given = tt

pub ok_is : {A E : Type 0} (r : Result A E) (x y : A) → r ≡ Ok x → r ≡ Ok y → x ≡ y
ok_is r x y e f = cc

pub same_meaning : (text : List ℕ) (p q : Statement) → IsStatement text p → IsStatement text q → p ≡ q
same_meaning text p q h k =
    let e = ok_is (tokens_of text) h.tokens k.tokens h.are_tokens k.are_tokens in
    some_is p q (sym (statement_complete h.spelled) ∙ ap statement_at e ∙ statement_complete k.spelled)
