-- What is kept of a subscription is told what the notice of the subscription says.
use Rattle.std.proofs.Common.{◌≡◌, ℕ, ◌≤◌, Bool, true, false, List, [], ◌∷◌, map, refl, sym, ◌∙◌, ap, subst, arith}
use Rattle.std.specs.Prelude.{Option, Some, None, IfSome, nat_le, if◌then◌else◌}
use Rattle.std.specs.List.{filter}
use Rattle.std.proofs.lemmas.Bool.Decides.{nat_tests}
use Rattle.ncq_bag.specs.Bags.{difference}
use Rattle.ncq_bag.specs.Counts.{each_once, each_once_by, turns}
use Rattle.ncq_bag.proofs.CallerLemmas.{tells_distinct}
use Rattle.ncq_bag.proofs.OnceLaws.{texts_once}
use Rattle.ncq_bind.specs.Answers.{all, same_forest}
use Rattle.ncq_bind.specs.Bound.{query_is_bound}
use Rattle.ncq_bind.specs.NormalQueries.{normal_query}
use Rattle.ncq_bind.proofs.AnswerLaws.{bound_answers}
use Rattle.ncq_callback.specs.Gathered.{answer_of}
use Rattle.ncq_callback.specs.Labels.{Handed}
use Rattle.ncq_distinct.specs.DistinctTables.{counts_at, DistinctTable}
use Rattle.ncq_midfile.specs.Content.{IsContent}
use Rattle.ncq_midfile.specs.declared.signed.SignedRow.{SignedRow}
use Rattle.ncq_news.specs.News.{answers_in, entries_of, since_mark}
use Rattle.ncq_news.proofs.CallerLemmas.{all_tell, since_tell}
use Rattle.ncq_plan.specs.declared.query.NormalQuery.{NormalQuery}
use Rattle.ncq_plan.specs.Exprs.{World, rows_in}
use Rattle.ncq_plan.specs.Plans.{plan_of}
use Rattle.ncq_plan.specs.WellFormed.{IsWellFormed as IsPlannable}
use Rattle.ncq_plan.specs.declared.expr.Expr.{Expr}
use Rattle.ncq_strategy.proofs.ChoiceLaws.{either_rows}
use Rattle.ncq_live.specs.LiveTables.{plan_in}
use Rattle.ncq_plan.specs.Residuals.{passes}
use Rattle.ncq_plan.specs.Templates.{constructed}
use Rattle.ncq_pyx.specs.Canonical.{pyx}
use Rattle.ncq_row.specs.Embeddings.{Row}
use Rattle.ncq_shelf.specs.Contents.{AreUpTo}
use Rattle.ncq_group.specs.Tables.{TableState}
use Rattle.ncq_source.specs.StoreStates.{StoreState}
use Rattle.ncq_script.specs.declared.command.Command.{Command}
use Rattle.ncq_xmlql.specs.declared.model.Query.{Query}
use Rattle.ncq_xmlql.specs.declared.model.Statement.{Statement}
use Rattle.ncq_xmlql.specs.WellFormed.{IsWellFormed}
use Rattle.ncq_book.specs.declared.subscription.Subscription.{Subscription as Kept}
use Rattle.ncq_engine.specs.DistinctCounts.{IsCounted, all_at, all_news, all_over}
use Rattle.ncq_engine.specs.Engines.{CanTell, last_in, mark_in, news_in, notice_text, rows_in_file, told_in}
use Rattle.ncq_engine.specs.Firing.{mark}
use Rattle.ncq_engine.specs.History.{History, Source, Subscription, changes, last_change, sources, up_to, world}
use Rattle.ncq_engine.specs.Languages.{language_of}
use Rattle.ncq_engine.specs.Marks.{IsRising}
use Rattle.ncq_engine.specs.Notices.{answer_at, answer_over, news, notice_at, rendered}
use Rattle.ncq_engine.specs.Stands.{AreContents, Keeps}
use Rattle.ncq_engine.proofs.HistoryLaws.{up_to_whole}
use Rattle.ncq_engine.proofs.Keeping.{mark_few, mark_is}
use Rattle.ncq_plan.specs.Relations.{Relations}
use Rattle.ncq_engine.proofs.Worlds.{world_at_mark}

-- the bytes of forests, from those of rows
each_bytes : (query : NormalQuery) (rows : List Row) → map (answer_of query.template) rows ≡ map pyx (map (constructed query.template) rows)
each_bytes query [] = refl
each_bytes query (row ∷ rows) = ap (λ more. answer_of query.template row ∷ more) (each_bytes query rows)

-- what rows of the plan tell is all that the query answers
pub answer_is : (relations : Relations) (statement : Statement) (query : NormalQuery) → IsWellFormed statement → query_is_bound statement.query ≡ true → query ≡ normal_query statement.query
    → (w : World) → answers_in relations query (rows_in (plan_of query) w) ≡ map pyx (all relations statement.query w)
answer_is relations statement query whole bound is w =
    each_bytes query (filter (passes relations query.residual) (rows_in (plan_of query) w))
    ∙ ap (map pyx) (bound_answers relations statement query whole bound is w)

-- its file has the rows of the plan that selects first, by either choice
pub own_rows : (m : Kept) (expr : Expr) → expr ≡ plan_in m → IsPlannable m.query → (w : World) → rows_in expr w ≡ rows_in (plan_of m.query) w
own_rows m expr own formed w = ap (λ e. rows_in e w) own ∙ either_rows m.choice m.query w formed

-- so it is of what is kept, from the rows of the plan then
at_mark : (handed : Handed) (h : History) (s : Subscription) (m : Kept) → Keeps handed h s m → (w : World) → answers_in handed.relations m.query (rows_in (plan_of m.query) w) ≡ map pyx (all handed.relations s.statement.query w)
at_mark handed h s m k w = answer_is handed.relations s.statement m.query k.whole k.bound k.query w

-- each byte string once, where the test says so
abbrev once_if : Bool → List (List ℕ) → List (List ℕ)
once_if test strings = if test then each_once strings else strings

-- the answer has with DISTINCT each of all once
answer_over_is : (handed : Handed) (query : Query) (declared : List Source) → answer_over (language_of handed) query declared ≡ once_if query.distinct (all_over handed.relations query declared)
answer_over_is handed query declared =
    let forests = all handed.relations query (world declared) in
    elim query.distinct as (λ t. map pyx (if t then each_once_by same_forest forests else forests) ≡ once_if t (map pyx forests)) [ true ↦ texts_once pyx forests | false ↦ refl ]

answer_at_is : (handed : Handed) (query : Query) (h : History) (o : Option ℕ) → answer_at (language_of handed) query h o ≡ once_if query.distinct (all_at handed.relations query h o)
answer_at_is handed query h None = elim query.distinct as (λ t. [] ≡ once_if t []) [ true ↦ refl | false ↦ refl ]
answer_at_is handed query h (Some number) = answer_over_is handed query (sources (up_to number h))

-- the notice of a subscription whose files tell the sources behind the command: its mark follows from the store before the command
module _ (handed : Handed) (h : History) (command : Command) (store : StoreState) (table : TableState)
    (last : (name : List ℕ) → last_in store name ≡ last_change name h) (rising : IsRising h) (contents : AreContents table.files (command ∷ h))
    (upto : AreUpTo (changes (command ∷ h)) table.files) where
  module _ (s : Subscription) (m : Kept) (k : Keeps handed h s m) (can : CanTell handed store table m) where
    abbrev rows : List SignedRow
    rows = can.file.content.rows

    -- the rows of the plan at a change
    abbrev then_rows : ℕ → List Row
    then_rows number = rows_in (plan_of m.query) (world (sources (up_to number (command ∷ h))))

    content_then : (number : ℕ) → can.file.content.base ≤ number → number ≤ changes (command ∷ h) → IsContent number rows (then_rows number)
    content_then number low high = subst (IsContent number rows) (own_rows m can.file.expr can.own can.formed (world (sources (up_to number (command ∷ h))))) (contents m.file.0 can.file number can.at low high)

    whole : up_to (changes (command ∷ h)) (command ∷ h) ≡ command ∷ h
    whole = up_to_whole (changes (command ∷ h)) (command ∷ h) (let w : nat_le (changes (command ∷ h)) (changes (command ∷ h)) ≡ true = grind (arith, nat_tests) in w)

    content_now : IsContent (changes (command ∷ h)) rows (rows_in (plan_of m.query) (world (sources (command ∷ h))))
    content_now = subst (λ (g : History). IsContent (changes (command ∷ h)) rows (rows_in (plan_of m.query) (world (sources g)))) whole
        (content_then (changes (command ∷ h)) (upto m.file.0 can.file can.at).base (let w : changes (command ∷ h) ≤ changes (command ∷ h) = omega arith in w))

    all_now : answers_in handed.relations m.query (rows_in (plan_of m.query) (world (sources (command ∷ h)))) ≡ all_over handed.relations s.statement.query (sources (command ∷ h))
    all_now = at_mark handed h s m k (world (sources (command ∷ h)))

    -- by the mark
    by_mark : (o : Option ℕ) → mark s h ≡ o → IfSome o (λ number. can.file.content.base ≤ number)
        → entries_of handed.relations m.query (since_mark o rows) ≡ difference (all_over handed.relations s.statement.query (sources (command ∷ h))) (all_at handed.relations s.statement.query h o)
    by_mark None e base =
        all_tell handed.relations m.query (changes (command ∷ h)) rows (rows_in (plan_of m.query) (world (sources (command ∷ h)))) (upto m.file.0 can.file can.at).last content_now
        ∙ ap (λ now. difference now []) all_now
    by_mark (Some number) e base =
        let few : number ≤ changes h = mark_few s h number e in
        let within : number ≤ changes (command ∷ h) = omega (arith, few) in
        let before : answers_in handed.relations m.query (then_rows number) ≡ all_at handed.relations s.statement.query h (Some number) =
        ap (λ w. answers_in handed.relations m.query (rows_in (plan_of m.query) w)) (world_at_mark number command h few) ∙ at_mark handed h s m k (world (sources (up_to number h))) in
        since_tell handed.relations m.query number (changes (command ∷ h)) rows (then_rows number) (rows_in (plan_of m.query) (world (sources (command ∷ h)))) (upto m.file.0 can.file can.at).last (content_then number base within) content_now
        ∙ (λ i. difference (all_now i) (before i))

    -- what the rows tell is what differs in all that the query answers
    pub news_is : news_in handed.relations store table.files m ≡ all_news handed.relations s h command
    news_is =
        let is : mark_in store m ≡ mark s h = mark_is handed h s m k rising store last in
        (λ i. entries_of handed.relations m.query (since_mark (is i) (rows_in_file (can.at i))))
        ∙ by_mark (mark s h) refl (subst (λ o. IfSome o (λ number. can.file.content.base ≤ number)) is can.base)

    -- what is told of that is what differs in the answer
    module _ (distinct : DistinctTable) (counted : IsCounted handed.relations h distinct s) where
      told_is : told_in handed.relations store table.files distinct m ≡ news (language_of handed) s h command
      told_is =
          (λ i. if k.distinct i then turns (counts_at distinct (k.install i)) (news_is i) else news_is i)
          ∙ by_kind s.statement.query.distinct refl
          ∙ (λ i. difference (sym (answer_over_is handed s.statement.query (sources (command ∷ h))) i) (sym (answer_at_is handed s.statement.query h (mark s h)) i))
        where
          by_kind : (b : Bool) → s.statement.query.distinct ≡ b → (if b then turns (counts_at distinct s.install) (all_news handed.relations s h command) else all_news handed.relations s h command)
              ≡ difference (once_if b (all_over handed.relations s.statement.query (sources (command ∷ h)))) (once_if b (all_at handed.relations s.statement.query h (mark s h)))
          by_kind true is = (tells_distinct (counts_at distinct s.install) (all_over handed.relations s.statement.query (sources (command ∷ h))) (all_at handed.relations s.statement.query h (mark s h)) (counted is)).turns
          by_kind false is = refl

      pub text_is : (instant : ℕ) → notice_text handed store table.files distinct m instant ≡ notice_at (language_of handed) h command (record { instant = instant; install = s.install }, s)
      text_is instant = λ i. rendered (k.kind i) (k.argument i) (k.name i) instant (told_is i)
