-- What the engine stands for behind a move of the clock.
use Rattle.std.proofs.Common.{◌≡◌, ℕ, ◌+◌, ◌≤◌, true, false, not, ◌||◌, ◌&&◌, List, [], ◌∷◌, ◌++◌, map, length, refl, sym, ◌∙◌, ap, subst, arith, zero-add, append_assoc}
use Rattle.std.specs.Prelude.{Option, Some, None, Ok, if◌then◌else◌, nat_lt, is_some}
use Rattle.std.proofs.lemmas.Bool.Decides.{nat_tests}
use Rattle.std.specs.List.{filter, flat_map, list_any, AllByRecursion}
use Rattle.ncq_callback.specs.Labels.{Handed}
use Rattle.ncq_distinct.specs.DistinctTables.{DistinctTable}
use Rattle.ncq_event.specs.Instants.{due, is_expired}
use Rattle.ncq_event.specs.Orders.{ordered_by}
use Rattle.ncq_script.specs.declared.command.Command.TheVariants.{Clock}
use Rattle.ncq_script.specs.declared.refusal.Refusal.TheVariants as refusal
use Rattle.ncq_source.specs.StoreStates.{StoreState}
use Rattle.ncq_xmlql.specs.declared.model.Statement.{Statement}
use Rattle.ncq_engine.specs.declared.telling.Answered.{Answered}
use Rattle.ncq_book.specs.declared.subscription.Subscription.{Subscription as Kept}
use Rattle.ncq_group.specs.Tables.{TableState}
use Rattle.ncq_shelf.specs.Contents.{AreUpTo}
use Rattle.ncq_engine.specs.Marks.{IsRising, first_mark}
use Rattle.ncq_engine.specs.Tellings.{AreOf}
use Rattle.ncq_engine.specs.Applies.{Applies, ok_text}
use Rattle.ncq_engine.specs.DistinctCounts.{AreCounted}
use Rattle.ncq_engine.specs.Engines.{CanTell, Pairwise, NoticeText, fired_if, has_news_in, last_in, moved_instant}
use Rattle.ncq_engine.specs.Firing.{fires, has_news, is_installed, mark, sources_of}
use Rattle.ncq_engine.specs.History.{History, Subscription, changes, creates as creates_of, last_change, live, now, timing_of}
use Rattle.ncq_engine.specs.Languages.{language_of}
use Rattle.ncq_engine.specs.Notices.{firings}
use Rattle.ncq_engine.specs.Output.{expired_line, expired_text, notices, refused_if}
use Rattle.ncq_engine.specs.Stands.{AreContents, EngineState, Follows, Keeps}
use Rattle.ncq_engine.proofs.EngineLaws.{accepts, pairwise_filter, pairwise_texts}
use Rattle.ncq_engine.proofs.HistoryLaws.{Installed, installed, installed_more}
use Rattle.ncq_engine.proofs.ContentLaws.{contents_left, contents_stay}
use Rattle.ncq_engine.proofs.Keeping.{Agrees, IsFirst, keep_all, mark_is}
use Rattle.ncq_engine.proofs.MarkLaws.{clock_quiet}
use Rattle.ncq_engine.proofs.ToldLaws.{noticed, tells_each, told_list, told_of, told_spans, told_spans_are, told_text_is}
use Rattle.ncq_engine.specs.Spans.{spans}

module _ (handed : Handed) (h : History) (store : StoreState) (last : (name : List ℕ) → last_in store name ≡ last_change name h) (rising : IsRising h) (clock instant : ℕ) (at_now : clock ≡ now h) where
  news_any : (number : ℕ) (names : List (List ℕ)) → list_any (λ source. nat_lt number (last_in store source)) names ≡ list_any (λ source. nat_lt number (last_change source h)) names
  news_any number [] = refl
  news_any number (name ∷ names) = λ i. nat_lt number (last name i) || news_any number names i

  news_is : (o : Option ℕ) (statement : Statement) → has_news_in store o (sources_of statement) ≡ has_news o statement h
  news_is None statement = refl
  news_is (Some number) statement = news_any number (sources_of statement)

  -- a move of the clock fires a subscription where it fires its subscription
  moved_one : (s : Subscription) (m : Kept) → Keeps handed h s m → s.install ≤ creates_of h → moved_instant store clock instant m ≡ fires s h (Clock instant)
  moved_one s m k before =
      let here : is_installed s h ≡ true = grind (arith, nat_tests, before) in
      (λ i. if has_news_in store (mark_is handed h s m k rising store last i) (k.sources i) then due (k.timing i) (at_now i) instant else None)
      ∙ (λ i. if news_is (mark s h) s.statement i then due (timing_of s) (now h) instant else None)
      ∙ (λ i. if sym here i && has_news (mark s h) s.statement h then due (timing_of s) (now h) instant else None)

  pub moved_each : (subs : List Subscription) (ms : List Kept) → Pairwise (Keeps handed h) subs ms → Installed h subs
      → Pairwise (λ s m. Keeps handed h s m × (moved_instant store clock instant m ≡ fires s h (Clock instant))) subs ms
  moved_each [] [] p i = tt
  moved_each [] (m ∷ ms) p i = absurd p
  moved_each (s ∷ subs) [] p i = absurd p
  moved_each (s ∷ subs) (m ∷ ms) p i = ((p.0, moved_one s m p.0 i.0), moved_each subs ms p.1 i.1)

  -- one that fires at changes is fired by the clock at its start alone, and that is its first firing
  first_moved : (s : Subscription) → IsFirst s h (Clock instant)
  first_moved s at fired based = by (first_mark s h) refl
    where
      by : (o : Option ℕ) → first_mark s h ≡ o → first_mark s h ≡ None
      by None e = e
      by (Some number) e = absurd (let bad : Some at ≡ None = sym fired ∙ clock_quiet s h instant based rising number e in cc)

  -- so the test that the code makes agrees
  pub moved_agree : (subs : List Subscription) (ms : List Kept) → Pairwise (λ s m. Keeps handed h s m × (moved_instant store clock instant m ≡ fires s h (Clock instant))) subs ms
      → Pairwise (λ s m. Keeps handed h s m × (Agrees (is_some (moved_instant store clock instant m)) (fires s h (Clock instant)) × IsFirst s h (Clock instant))) subs ms
  moved_agree [] [] p = tt
  moved_agree [] (m ∷ ms) p = absurd p
  moved_agree (s ∷ subs) [] p = absurd p
  moved_agree (s ∷ subs) (m ∷ ms) p = ((p.0.0, (ap is_some p.0.1, first_moved s)), moved_agree subs ms p.1)

-- those that a move of the clock leaves on the live table
abbrev pub unexpired : ℕ → List Kept → List Kept
unexpired instant ms = filter (λ m. not (is_expired m.timing instant)) ms

-- the lines of those that it takes off
abbrev pub expired_names : ℕ → List Kept → List ℕ
expired_names instant ms = flat_map (λ m. expired_line m.name) (filter (λ m. is_expired m.timing instant) ms)

module _ (engine : EngineState) (instant : ℕ) where
  -- what the code tells the subscriptions
  abbrev pub moved_list : List NoticeText
  moved_list = told_of engine.handed engine.store engine.table.files engine.distinct (moved_instant engine.store engine.clock instant) engine.subscriptions

  abbrev pub moved_text : List ℕ
  moved_text = flat_map (λ (t : NoticeText). t.text) (ordered_by (λ (t : NoticeText). t.firing) moved_list)

  -- the subscriptions behind the move, before those that expire are taken off
  abbrev pub moved_subscriptions : List Kept
  moved_subscriptions = map (λ m. fired_if (is_some (moved_instant engine.store engine.clock instant m)) engine.store m) engine.subscriptions

  -- the counts behind the move are right
  abbrev pub AreCountedBehind : DistinctTable → Type 0
  AreCountedBehind distinct' = (h : History) → Follows engine h → AreContents engine.table.files (Clock instant ∷ h) → AreUpTo (changes (Clock instant ∷ h)) engine.table.files → AreCounted engine.handed.relations (Clock instant ∷ h) distinct'

  module _ (upto : AreUpTo engine.store.changes engine.table.files) (can : AllByRecursion (CanTell engine.handed engine.store engine.table) engine.subscriptions) (h : History) (s : Follows engine h) where
    changes_are : engine.store.changes ≡ changes (Clock instant ∷ h)
    changes_are = s.changes ∙ sym (zero-add (changes h))

    firing : Pairwise (λ s m. Keeps engine.handed h s m × (moved_instant engine.store engine.clock instant m ≡ fires s h (Clock instant))) (live h) engine.subscriptions
    firing = moved_each engine.handed h engine.store s.last s.rising engine.clock instant s.clock (live h) engine.subscriptions s.subscriptions (installed h)

    kept : Pairwise (Keeps engine.handed (Clock instant ∷ h)) (live h) moved_subscriptions
    kept =
        keep_all engine.handed h (Clock instant) engine.store changes_are (λ m. is_some (moved_instant engine.store engine.clock instant m)) (live h) engine.subscriptions
        (installed_more (Clock instant) h (live h) (installed h))
        (moved_agree engine.handed h engine.store s.last s.rising engine.clock instant s.clock (live h) engine.subscriptions firing)

    -- so do those that are left
    pub left_kept : Pairwise (Keeps engine.handed (Clock instant ∷ h)) (live (Clock instant ∷ h)) (unexpired instant moved_subscriptions)
    left_kept = pairwise_filter (Keeps engine.handed (Clock instant ∷ h)) (λ s. not (is_expired (timing_of s) instant)) (λ m. not (is_expired m.timing instant))
        (λ s m k. ap (λ t. not (is_expired t instant)) (sym k.timing)) (live h) moved_subscriptions kept

    upto_now : AreUpTo (changes (Clock instant ∷ h)) engine.table.files
    upto_now = subst (λ n. AreUpTo n engine.table.files) changes_are upto

    contents_are : AreContents engine.table.files (Clock instant ∷ h)
    contents_are = contents_stay engine.table.files h (Clock instant) (zero-add (changes h)) s.contents

    -- the engine with its subscriptions and counts after the move
    clock_follows : nat_lt instant engine.clock ≡ false → (left : TableState) → AreOf engine.table.files left.files → (distinct' : DistinctTable) → AreCountedBehind distinct'
        → Follows (record engine { clock = instant; count = engine.count + 1; subscriptions = unexpired instant moved_subscriptions; table = left; distinct = distinct' }) (Clock instant ∷ h)
    clock_follows later left fewer distinct' counted = record {
      sources = s.sources;
      last = s.last;
      changes = changes_are;
      clock = refl;
      creates = s.creates ∙ sym (zero-add (creates_of h));
      subscriptions = left_kept;
      contents = contents_left engine.table.files left.files (Clock instant ∷ h) fewer contents_are;
      counted = counted h s contents_are upto_now;
      rising = ((let c = s.clock in let l : now h ≤ instant = grind (arith, nat_tests, later, c) in l), s.rising);
    }

    list_is : moved_list ≡ map (noticed engine.handed h (Clock instant)) (firings h (Clock instant))
    list_is = told_list engine.handed h (Clock instant) engine.store engine.table.files engine.distinct (moved_instant engine.store engine.clock instant) (live h) engine.subscriptions
        (tells_each engine.handed h (Clock instant) engine.store engine.table engine.distinct s.last s.rising contents_are upto_now (moved_instant engine.store engine.clock instant) (live h) engine.subscriptions firing can s.counted)

    -- what is told, and where it stands
    clock_texts : moved_text ≡ notices (language_of engine.handed) h (Clock instant)
    clock_texts = told_text_is engine.handed h (Clock instant) moved_list list_is

    clock_spans : (from : ℕ) → told_spans from (ordered_by (λ (t : NoticeText). t.firing) moved_list) ≡ spans (language_of engine.handed) h (Clock instant) from
    clock_spans from = told_spans_are engine.handed h (Clock instant) moved_list list_is from

    -- the lines of those that expire
    clock_ends : expired_names instant moved_subscriptions ≡ expired_text (Clock instant) h
    clock_ends =
        sym (pairwise_texts (Keeps engine.handed (Clock instant ∷ h)) (λ s. is_expired (timing_of s) instant) (λ m. is_expired m.timing instant) (λ s m k. ap (λ t. is_expired t instant) (sym k.timing))
        (λ s. expired_line s.statement.name) (λ m. expired_line m.name) (λ s m k. ap expired_line (sym k.name)) (live h) moved_subscriptions kept)

  pub clock_accepted : AreUpTo engine.store.changes engine.table.files → AllByRecursion (CanTell engine.handed engine.store engine.table) engine.subscriptions
      → (distinct' : DistinctTable) → AreCountedBehind distinct'
      → (out first second third : List ℕ) (left : List Kept) (after : TableState) (applied : Answered) → nat_lt instant engine.clock ≡ false → left ≡ unexpired instant moved_subscriptions → AreOf engine.table.files after.files
      → first ≡ out ++ ok_text (engine.count + 1) → second ≡ first ++ moved_text → third ≡ second ++ expired_names instant moved_subscriptions
      → applied.from ≡ length first → applied.to ≡ length second → applied.spans ≡ told_spans (length first) (ordered_by (λ (t : NoticeText). t.firing) moved_list)
      → Applies engine (Clock instant) out (Ok applied) (record engine { clock = instant; count = engine.count + 1; subscriptions = left; table = after; distinct = distinct' }) third
  clock_accepted upto can distinct' counted out first second third left after applied later off fewer one two three from to places =
      subst (λ (ms : List Kept). Applies engine (Clock instant) out (Ok applied) (record engine { clock = instant; count = engine.count + 1; subscriptions = ms; table = after; distinct = distinct' }) third) (sym off)
      (accepts engine (Clock instant) out applied (record engine { clock = instant; count = engine.count + 1; subscriptions = unexpired instant moved_subscriptions; table = after; distinct = distinct' }) third moved_text (expired_names instant moved_subscriptions)
      (record {
        accepted = λ h s. (λ i. refused_if (nat_lt instant (sym s.clock i)) refusal.Clock) ∙ ap (λ t. refused_if t refusal.Clock) later;
        follows = λ h s. clock_follows upto can h s later after fewer distinct' counted;
        tells = λ h s. clock_texts upto can h s;
        stand = λ h s. places ∙ clock_spans upto can h s (length first) ∙ ap (spans (language_of engine.handed) h (Clock instant)) (sym from);
        ends = λ h s. clock_ends upto can h s;
        counted = refl;
        named = refl;
      })
      (three ∙ (λ i. two i ++ expired_names instant moved_subscriptions) ∙ (λ i. (one i ++ moved_text) ++ expired_names instant moved_subscriptions) ∙ append_assoc (out ++ ok_text (engine.count + 1)) moved_text (expired_names instant moved_subscriptions))
      (from ∙ ap length one) (to ∙ ap length (two ∙ (λ i. one i ++ moved_text))))
