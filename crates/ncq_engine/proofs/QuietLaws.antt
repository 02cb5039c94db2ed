-- What a change does not tell: of a subscription that does not ask its source, and of one whose file got no row, the rows tell nothing.
use Rattle.std.proofs.Common.{◌≡◌, ℕ, ◌≤◌, max, true, false, ◌||◌, ◌==◌, cond, List, [], ◌∷◌, refl, sym, ◌∙◌, ap, subst, arith, true≢false}
use Rattle.std.specs.Prelude.{Some, IfSome, nat_le, nat_lt, if◌then◌else◌}
use Rattle.std.specs.Option.{option_map}
use Rattle.std.proofs.lemmas.Bool.Decides.{nat_tests}
use Rattle.std.specs.List.{list_any, AllByRecursion}
use Rattle.std.specs.Str.{bytes_eq}
use Rattle.ncq_bag.specs.Bags.{difference}
use Rattle.ncq_book.specs.declared.subscription.Subscription.{Subscription as Kept}
use Rattle.ncq_callback.specs.Labels.{Handed}
use Rattle.ncq_event.specs.declared.timing.Timing.{Timing}
use Rattle.ncq_group.specs.Tables.{TableState}
use Rattle.ncq_midfile.specs.Content.{IsContent, since}
use Rattle.ncq_midfile.specs.declared.signed.SignedRow.{SignedRow}
use Rattle.ncq_news.specs.News.{answers_in, entries_of, since_mark}
use Rattle.ncq_news.proofs.CallerLemmas.{since_tell}
use Rattle.ncq_plan.specs.declared.expr.Expr.{Expr}
use Rattle.ncq_plan.specs.Exprs.{World, rows_in}
use Rattle.ncq_plan.specs.Plans.{plan_of}
use Rattle.ncq_row.specs.Embeddings.{Row}
use Rattle.ncq_script.specs.declared.command.Command.TheVariants.{Delta}
use Rattle.ncq_shelf.specs.Contents.{AreUpTo}
use Rattle.ncq_source.specs.Sections.{is_named}
use Rattle.ncq_source.specs.declared.change.Section.{Section}
use Rattle.ncq_source.specs.StoreStates.{StoreState}
use Rattle.ncq_engine.specs.DistinctCounts.{all_at, all_news, all_over}
use Rattle.ncq_engine.specs.Engines.{CanTell, last_in, mark_in, news_in, rows_in_file}
use Rattle.ncq_engine.specs.Firing.{are_named, mark, sources_of}
use Rattle.ncq_engine.specs.History.{History, Subscription, changes, last_change, now, sources, up_to, world}
use Rattle.ncq_engine.specs.Marks.{IsRising, first_mark, latest_change, noted}
use Rattle.ncq_engine.specs.Stands.{AreContents, Keeps}
use Rattle.ncq_engine.proofs.AskedLaws.{other_stays, same_all, same_bag, stays_since}
use Rattle.ncq_engine.proofs.HistoryLaws.{key_is}
use Rattle.ncq_engine.proofs.Keeping.{mark_few, mark_is}
use Rattle.ncq_engine.proofs.MarkLaws.{any_named, last_few, marks_follow}
use Rattle.ncq_engine.proofs.NoticeLaws.{own_rows, answer_is, news_is}
use Rattle.ncq_engine.proofs.StartedLaws.{FiresFirst}
use Rattle.ncq_engine.proofs.Worlds.{world_at_mark}

-- a mark that is no lower than the last change of each of its sources
record HasMark (s : Subscription) (h : History) : Type 0 where
  pub number : ℕ
  pub is : mark s h ≡ Some number
  pub few : number ≤ changes h
  pub covers : (asked : List ℕ) → list_any (bytes_eq asked) (sources_of s.statement) ≡ true → last_change asked h ≤ number

latest_covers : (names : List (List ℕ)) (h : History) (asked : List ℕ) → list_any (bytes_eq asked) names ≡ true → last_change asked h ≤ latest_change names h
latest_covers [] h asked there = absurd (true≢false (sym there))
latest_covers (name ∷ more) h asked there =
    elim (bytes_eq asked name) as (λ t. bytes_eq asked name ≡ t → (t || list_any (bytes_eq asked) more) ≡ true → last_change asked h ≤ max (last_change name h) (latest_change more h)) [
      | true ↦ λ p e. let same : last_change asked h ≡ last_change name h = ap (λ n. last_change n h) (key_is asked name p) in omega (arith, same)
      | false ↦ λ p e. let rest = latest_covers more h asked e in omega (arith, rest)
    ] refl there

-- one that fires at changes and has started has such a mark
started_mark : (s : Subscription) (h : History) → IsRising h → FiresFirst h s → s.statement.every == 0 ≡ true → s.start ≤ now h → HasMark s h
started_mark s h rising fired based started =
    record {
      number = max first.0 (latest_change (sources_of s.statement) h);
      is = is;
      few = mark_few s h (max first.0 (latest_change (sources_of s.statement) h)) is;
      covers = λ asked there. let below = latest_covers (sources_of s.statement) h asked there in omega (arith, below);
    }
  where
    first : (number : ℕ) × (first_mark s h ≡ Some number)
    first = fired based started

    is : mark s h ≡ Some (max first.0 (latest_change (sources_of s.statement) h))
    is =
        marks_follow s h rising
        ∙ (λ i. if based i then option_map (λ first. max first (latest_change (sources_of s.statement) h)) (if based i then first_mark s h else mark s h) else noted s h)
        ∙ ap (option_map (λ first. max first (latest_change (sources_of s.statement) h))) first.1

not_asked : (changed : List Section) (asked : List ℕ) (names : List (List ℕ)) → are_named changed names ≡ false → list_any (bytes_eq asked) names ≡ true → is_named asked changed ≡ false
not_asked changed asked names elsewhere there =
    elim (is_named asked changed) as (λ t. is_named asked changed ≡ t → t ≡ false) [
      | true ↦ λ p. sym (any_named (λ source. is_named source changed) asked names p there) ∙ elsewhere
      | false ↦ λ p. refl
    ] refl

-- where no row is behind a number, each is at most there
none_since : (n : ℕ) (rows : List SignedRow) → since n rows ≡ [] → AllByRecursion (λ r. r.number ≤ n) rows
none_since n [] none = tt
none_since n (r ∷ rows) none =
    elim (nat_lt n r.number) as (λ t. nat_lt n r.number ≡ t → cond t (r ∷ since n rows) (since n rows) ≡ [] → (r.number ≤ n) × AllByRecursion (λ (r : SignedRow). r.number ≤ n) rows) [
      | true ↦ λ late e. absurd (let bad : ⊥ = cc in bad)
      | false ↦ λ early e. (grind (arith, nat_tests, early), none_since n rows e)
    ] refl none

-- a subscription that fires at changes and has started, behind a change
module _ (handed : Handed) (h : History) (changed : List Section) (store : StoreState) (table : TableState)
    (last : (asked : List ℕ) → last_in store asked ≡ last_change asked h) (rising : IsRising h) (contents : AreContents table.files (Delta changed ∷ h))
    (upto : AreUpTo (changes (Delta changed ∷ h)) table.files) where
  module _ (s : Subscription) (m : Kept) (k : Keeps handed h s m) (can : CanTell handed store table m) (fired : FiresFirst h s)
      (based : m.timing.every == 0 ≡ true) (started : nat_le m.timing.start (now h) ≡ true) where
    has_mark : HasMark s h
    has_mark =
        let late : nat_le s.start (now h) ≡ true = ap (λ (t : Timing). nat_le t.start (now h)) (sym k.timing) ∙ started in
        started_mark s h rising fired (ap (λ (t : Timing). t.every == 0) (sym k.timing) ∙ based) (grind (arith, nat_tests, late))

    -- all that its query answers before the change
    abbrev all_before : List (List ℕ)
    all_before = all_over handed.relations s.statement.query (sources h)

    -- the rows of its plan at a number
    abbrev then_rows : ℕ → List Row
    then_rows number = rows_in (plan_of m.query) (world (sources (up_to number h)))

    -- at a number that covers the sources it answers that
    all_since : (number : ℕ) → ((asked : List ℕ) → list_any (bytes_eq asked) (sources_of s.statement) ≡ true → last_change asked h ≤ number)
        → all_over handed.relations s.statement.query (sources (up_to number h)) ≡ all_before
    all_since number covers = same_all handed.relations s.statement (sources (up_to number h)) (sources h) (λ asked there. stays_since asked number h (covers asked there))

    -- nothing is told of a source that it does not ask
    pub quiet_elsewhere : are_named changed m.sources ≡ false → news_in handed.relations store table.files m ≡ []
    quiet_elsewhere elsewhere = news_is handed h (Delta changed) store table last rising contents upto s m k can ∙ nothing
      where
        unasked : are_named changed (sources_of s.statement) ≡ false
        unasked = ap (are_named changed) (sym k.sources) ∙ elsewhere

        all_now : all_over handed.relations s.statement.query (sources (Delta changed ∷ h)) ≡ all_before
        all_now = same_all handed.relations s.statement (sources (Delta changed ∷ h)) (sources h)
            (λ asked there. other_stays asked changed h (not_asked changed asked (sources_of s.statement) unasked there))

        nothing : all_news handed.relations s h (Delta changed) ≡ []
        nothing =
            (λ i. difference (all_now i) (all_at handed.relations s.statement.query h (has_mark.is i)))
            ∙ ap (difference all_before) (all_since has_mark.number has_mark.covers)
            ∙ same_bag all_before

    -- nothing is told where its file has no row of the change
    pub quiet_unfed : since (changes h) can.file.content.rows ≡ [] → news_in handed.relations store table.files m ≡ []
    quiet_unfed unfed =
        (λ i. entries_of handed.relations m.query (since_mark (marks i) (rows_in_file (can.at i))))
        ∙ since_tell handed.relations m.query has_mark.number (changes h) can.file.content.rows (then_rows has_mark.number) (then_rows (changes h))
        (none_since (changes h) can.file.content.rows unfed) (content_then has_mark.number base has_mark.few) content_now
        ∙ (λ i. difference (answers_then (changes h) (λ asked there. last_few asked h) i) (answers_then has_mark.number has_mark.covers i))
        ∙ same_bag all_before
      where
        marks : mark_in store m ≡ Some has_mark.number
        marks = mark_is handed h s m k rising store last ∙ has_mark.is

        base : can.file.content.base ≤ has_mark.number
        base = subst (λ o. IfSome o (λ number. can.file.content.base ≤ number)) marks can.base

        content_then : (number : ℕ) → can.file.content.base ≤ number → number ≤ changes h → IsContent number can.file.content.rows (then_rows number)
        content_then number low few =
            let within : number ≤ changes (Delta changed ∷ h) = omega (arith, few) in
            subst (IsContent number can.file.content.rows) (own_rows m can.file.expr can.own can.formed (world (sources (up_to number h))))
            (subst (λ (w : World). IsContent number can.file.content.rows (rows_in can.file.expr w)) (world_at_mark number (Delta changed) h few)
            (contents m.file.0 can.file number can.at low within))

        answers_then : (number : ℕ) → ((asked : List ℕ) → list_any (bytes_eq asked) (sources_of s.statement) ≡ true → last_change asked h ≤ number)
            → answers_in handed.relations m.query (then_rows number) ≡ all_before
        answers_then number covers = answer_is handed.relations s.statement m.query k.whole k.bound k.query (world (sources (up_to number h))) ∙ all_since number covers

        content_now : IsContent (changes h) can.file.content.rows (then_rows (changes h))
        content_now = let few = has_mark.few in content_then (changes h) (omega (arith, few, base)) (omega arith)
