-- How the counts of subscriptions with DISTINCT follow the history: one that fires has the counts of now, and one that does not keeps those of its mark.
use Rattle.std.proofs.Common.{◌≡◌, ◌⊎◌, ℕ, Bool, true, false, ◌&&◌, ◌==◌, cond, not, List, [], ◌∷◌, ◌++◌, map, refl, sym, ◌∙◌, ap, subst, inl, inr, arith}
use Rattle.std.specs.Prelude.{Option, Some, None, is_some, nat_eq, nat_le, if◌then◌else◌}
use Rattle.std.proofs.lemmas.Bool.Decides.{nat_tests}
use Rattle.std.specs.FinMap.{empty}
use Rattle.std.specs.List.{filter, flat_map, list_any, AllByRecursion}
use Rattle.ncq_bag.specs.Bags.{count_in}
use Rattle.ncq_bag.specs.Counts.{after, stands, AreCountsOf}
use Rattle.ncq_bag.specs.declared.bag.Difference.{Difference}
use Rattle.ncq_bag.proofs.CallerLemmas.{tells_distinct}
use Rattle.ncq_bind.specs.Answers.{all}
use Rattle.ncq_book.specs.declared.subscription.Subscription.{Subscription as Kept}
use Rattle.ncq_book.specs.Books.{InstallsRise, subscription_of, watchers_of, watches}
use Rattle.ncq_callback.specs.Labels.{Handed}
use Rattle.ncq_distinct.specs.DistinctTables.{counts_at, waiting_at, DistinctTable, HaveSameCounts}
use Rattle.ncq_event.specs.Calendars.{firing_at}
use Rattle.ncq_event.specs.declared.firing.Firing.{Firing}
use Rattle.ncq_live.specs.LiveTables.{LiveState}
use Rattle.ncq_pyx.specs.Canonical.{pyx}
use Rattle.ncq_script.specs.declared.command.Command.{Command}
use Rattle.ncq_shelf.specs.Contents.{AreUpTo}
use Rattle.ncq_shelf.specs.KeptFiles.{Files}
use Rattle.ncq_source.specs.StoreStates.{StoreState}
use Rattle.ncq_engine.specs.DistinctCounts.{all_at, all_news, all_over, IsCounted}
use Rattle.ncq_engine.specs.Engines.{CanTell, Pairwise, last_in, news_in}
use Rattle.ncq_engine.specs.Firing.{fires, mark, marked}
use Rattle.ncq_engine.specs.History.{History, Subscription, changes, last_change, sources, up_to}
use Rattle.ncq_engine.specs.Marks.{IsRising}
use Rattle.ncq_engine.specs.Stands.{AreContents, Keeps}
use Rattle.ncq_engine.specs.Tellings.{Awaits, awaited_of, has_started, is_fired, started_at, without}
use Rattle.ncq_engine.proofs.ByInstall.{AreFound, fires_each, firings_of}
use Rattle.ncq_engine.proofs.HistoryLaws.{up_to_whole}
use Rattle.ncq_engine.proofs.Keeping.{mark_few}
use Rattle.ncq_engine.proofs.KeptCounts.{AreRemoved}
use Rattle.ncq_engine.proofs.Lists.{each_more}
use Rattle.ncq_engine.proofs.NotedLaws.{any_flip}
use Rattle.ncq_engine.proofs.NoticeLaws.{news_is}
use Rattle.ncq_plan.specs.Relations.{Relations}
use Rattle.ncq_engine.proofs.Worlds.{world_at_mark}

-- a subscription behind a command
module _ (relations : Relations) (h : History) (command : Command) (old new : DistinctTable) (s : Subscription) where
  at_mark_still : (o : Option ℕ) → mark s h ≡ o → all_at relations s.statement.query (command ∷ h) o ≡ all_at relations s.statement.query h o
  at_mark_still None e = refl
  at_mark_still (Some number) e = ap (λ w. map pyx (all relations s.statement.query w)) (world_at_mark number command h (mark_few s h number e))

  -- one that does not fire keeps its mark
  pub counted_kept : fires s h command ≡ None → counts_at new s.install ≡ counts_at old s.install → IsCounted relations h old s → IsCounted relations (command ∷ h) new s
  counted_kept quiet same counted asked = λ key. ap (λ counts. stands counts key) same ∙ counted asked key ∙ ap (count_in key) (sym answers)
    where
      answers : all_at relations s.statement.query (command ∷ h) (mark s (command ∷ h)) ≡ all_at relations s.statement.query h (mark s h)
      answers = (λ i. all_at relations s.statement.query (command ∷ h) (marked (quiet i) (changes (command ∷ h)) (mark s h))) ∙ at_mark_still (mark s h) refl

  -- one that fires has the counts of now
  pub counted_fired : (instant : ℕ) → fires s h command ≡ Some instant → counts_at new s.install ≡ after (counts_at old s.install) (all_news relations s h command) → IsCounted relations h old s → IsCounted relations (command ∷ h) new s
  counted_fired instant fired same counted asked =
      λ key. ap (λ counts. stands counts key) same
      ∙ (tells_distinct (counts_at old s.install) (all_over relations s.statement.query (sources (command ∷ h))) (all_at relations s.statement.query h (mark s h)) (counted asked)).after key
      ∙ ap (count_in key) (sym answers)
    where
      whole : up_to (changes (command ∷ h)) (command ∷ h) ≡ command ∷ h
      whole = up_to_whole (changes (command ∷ h)) (command ∷ h) (let w : nat_le (changes (command ∷ h)) (changes (command ∷ h)) ≡ true = grind (arith, nat_tests) in w)

      answers : all_at relations s.statement.query (command ∷ h) (mark s (command ∷ h)) ≡ all_over relations s.statement.query (sources (command ∷ h))
      answers = (λ i. all_at relations s.statement.query (command ∷ h) (marked (fired i) (changes (command ∷ h)) (mark s h))) ∙ ap (λ (g : History). all_over relations s.statement.query (sources g)) whole

  -- one whose counts change by what its rows tell, where it is asked: as it fires, or its rows tell nothing
  module _ (news : List Difference) (is_news : news ≡ all_news relations s h command) (asked : Bool)
      (settled : counts_at new s.install ≡ after (counts_at old s.install) (if asked then news else [])) (counted : IsCounted relations h old s) where
    nothing : news ≡ [] → (b : Bool) → (if b then news else []) ≡ []
    nothing none true = none
    nothing none false = refl

    by : (o : Option ℕ) → fires s h command ≡ o → (asked ≡ is_some o) ⊎ (news ≡ []) → IsCounted relations (command ∷ h) new s
    by None e (inl same) = counted_kept e (settled ∙ (λ i. after (counts_at old s.install) (if same i then news else []))) counted
    by None e (inr none) = counted_kept e (settled ∙ ap (after (counts_at old s.install)) (nothing none asked)) counted
    by (Some instant) e (inl same) =
        counted_fired instant e (settled ∙ (λ i. after (counts_at old s.install) (if same i then news else [])) ∙ ap (after (counts_at old s.install)) is_news) counted
    by (Some instant) e (inr none) =
        counted_fired instant e (settled ∙ ap (after (counts_at old s.install)) (nothing none asked ∙ sym none ∙ is_news)) counted

    pub counted_asked : (asked ≡ is_some (fires s h command)) ⊎ (news ≡ []) → IsCounted relations (command ∷ h) new s
    counted_asked told = by (fires s h command) refl told

-- what waited for the firings was settled
pub record HasSettled (relations : Relations) (store : StoreState) (live_table : LiveState) (firings : List Firing) (old new : DistinctTable) : Type 0 where
  pub waited : DistinctTable
  pub same : HaveSameCounts old waited
  pub waits : Awaits relations store live_table firings waited
  pub settled : (any : ℕ) → counts_at new any ≡ after (counts_at waited any) (waiting_at waited any)

-- the counts of a subscription then
pub settled_at : (relations : Relations) (store : StoreState) (live_table : LiveState) (firings : List Firing) (old new : DistinctTable) → HasSettled relations store live_table firings old new → (m : Kept) → subscription_of m.install live_table.subscriptions ≡ Some m
    → counts_at new m.install ≡ after (counts_at old m.install) (if m.distinct && is_fired firings m then news_in relations store live_table.table.files m else [])
settled_at relations store live_table firings old new s m found =
    s.settled m.install ∙ (λ i. after (s.same m.install i) ((s.waits m.install ∙ ap (awaited_of relations store live_table.table.files firings) found) i))

-- a subscription is asked as it fires, or its rows tell nothing
abbrev pub IsAskedAs : Relations → StoreState → Files → List Firing → (Kept → Option ℕ) → Kept → Type 0
IsAskedAs relations store files firings instant m = (is_fired firings m ≡ is_some (instant m)) ⊎ (news_in relations store files m ≡ [])

-- the counts of all subscriptions follow a command at which these fire
module _ (handed : Handed) (h : History) (command : Command) (store : StoreState) (live_table : LiveState)
    (last : (name : List ℕ) → last_in store name ≡ last_change name h) (rising : IsRising h) (contents : AreContents live_table.table.files (command ∷ h))
    (upto : AreUpTo (changes (command ∷ h)) live_table.table.files) (instant : Kept → Option ℕ) (firings : List Firing) (old new : DistinctTable) (settles : HasSettled handed.relations store live_table firings old new) where
  abbrev Fires : Subscription → Kept → Type 0
  Fires s m = Keeps handed h s m × (instant m ≡ fires s h command)

  follows_one : (s : Subscription) (m : Kept) → Fires s m → CanTell handed store live_table.table m → subscription_of m.install live_table.subscriptions ≡ Some m
      → IsAskedAs handed.relations store live_table.table.files firings instant m → IsCounted handed.relations h old s → IsCounted handed.relations (command ∷ h) new s
  follows_one s m f can found asks counted asked =
      let k = f.0 in
      counted_asked handed.relations h command old new s (news_in handed.relations store live_table.table.files m) (news_is handed h command store live_table.table last rising contents upto s m k can) (is_fired firings m)
      (subst (λ install. counts_at new install ≡ after (counts_at old install) (if is_fired firings m then news_in handed.relations store live_table.table.files m else [])) k.install
      (settled_at handed.relations store live_table firings old new settles m found
      ∙ (λ i. after (counts_at old m.install) (if (k.distinct ∙ asked) i && is_fired firings m then news_in handed.relations store live_table.table.files m else []))))
      counted (told asks) asked
    where
      told : IsAskedAs handed.relations store live_table.table.files firings instant m → (is_fired firings m ≡ is_some (fires s h command)) ⊎ (news_in handed.relations store live_table.table.files m ≡ [])
      told (inl same) = inl (same ∙ ap is_some f.1)
      told (inr none) = inr none

  pub counts_follow : (subs : List Subscription) (ms : List Kept) → Pairwise Fires subs ms → AllByRecursion (CanTell handed store live_table.table) ms → AreFound live_table.subscriptions ms
      → AllByRecursion (IsAskedAs handed.relations store live_table.table.files firings instant) ms → AllByRecursion (IsCounted handed.relations h old) subs → AllByRecursion (IsCounted handed.relations (command ∷ h) new) subs
  counts_follow [] [] p can found asks counted = tt
  counts_follow [] (m ∷ ms) p can found asks counted = absurd p
  counts_follow (s ∷ subs) [] p can found asks counted = absurd p
  counts_follow (s ∷ subs) (m ∷ ms) p can found asks counted =
      (follows_one s m p.0 can.0 found.0 asks.0 counted.0, counts_follow subs ms p.1 can.1 found.1 asks.1 counted.1)

-- where nobody fires and the counts are the same, they stay right
pub counted_quietly : (relations : Relations) (h : History) (command : Command) → ((s : Subscription) → fires s h command ≡ None) → (distinct : DistinctTable) (subs : List Subscription)
    → AllByRecursion (IsCounted relations h distinct) subs → AllByRecursion (IsCounted relations (command ∷ h) distinct) subs
counted_quietly relations h command quiet distinct =
    each_more (IsCounted relations h distinct) (IsCounted relations (command ∷ h) distinct) (λ s counted. counted_kept relations h command distinct distinct s (quiet s) refl counted)

-- those that are left are none of those that went
pub stay_out : (installs : List ℕ) (ms : List Kept) → AllByRecursion (λ m. list_any (nat_eq m.install) installs ≡ false) (without installs ms)
stay_out installs [] = tt
stay_out installs (m ∷ ms) =
    elim (list_any (nat_eq m.install) installs) as (λ t. list_any (nat_eq m.install) installs ≡ t → AllByRecursion (λ m. list_any (nat_eq m.install) installs ≡ false) (cond (not t) (m ∷ without installs ms) (without installs ms))) [
      | true ↦ λ gone. stay_out installs ms
      | false ↦ λ left. (left, stay_out installs ms)
    ] refl

-- and keep their counts
module _ (handed : Handed) (h : History) (installs : List ℕ) (old new : DistinctTable) (removed : AreRemoved installs old new) where
  pub counted_left : (subs : List Subscription) (ms : List Kept) → Pairwise (Keeps handed h) subs ms → AllByRecursion (λ m. list_any (nat_eq m.install) installs ≡ false) ms
      → AllByRecursion (IsCounted handed.relations h old) subs → AllByRecursion (IsCounted handed.relations h new) subs
  counted_left [] [] p out counted = tt
  counted_left [] (m ∷ ms) p out counted = absurd p
  counted_left (s ∷ subs) [] p out counted = absurd p
  counted_left (s ∷ subs) (m ∷ ms) p out counted =
      let same : counts_at new s.install ≡ counts_at old s.install =
      subst (λ install. counts_at new install ≡ counts_at old install) p.0.install (removed m.install ∙ (λ i. if out.0 i then empty else counts_at old m.install)) in
      (λ asked. subst (λ counts. AreCountsOf counts (all_at handed.relations s.statement.query h (mark s h))) (sym same) (counted.0 asked), counted_left subs ms p.1 out.1 counted.1)

-- the firings at a change are those of the subscriptions that watch a file that got rows and have started
module _ (clock : ℕ) (all : List Kept) (fed : List ℕ) where
  abbrev asked_at : Kept → Option ℕ
  asked_at m = if watches fed m && nat_le m.timing.start clock then Some clock else None

  started_is : (ms : List Kept) → AreFound all ms → flat_map (started_at clock all) (watchers_of fed ms) ≡ firings_of asked_at ms
  started_is [] found = refl
  started_is (m ∷ ms) found =
      elim (watches fed m) as (λ t. flat_map (started_at clock all) (map (λ m. m.install) (cond t (m ∷ filter (watches fed) ms) (filter (watches fed) ms)))
      ≡ firing_at m.install (if t && nat_le m.timing.start clock then Some clock else None) ++ firings_of asked_at ms) [
        | true ↦
            (λ i. (if has_started clock (found.0 i) then record { instant = clock; install = m.install } ∷ [] else []) ++ started_is ms found.1 i)
            ∙ elim (nat_le m.timing.start clock) as (λ t. ((if t then record { instant = clock; install = m.install } ∷ [] else []) ++ firings_of asked_at ms)
            ≡ firing_at m.install (if t then Some clock else None) ++ firings_of asked_at ms) [ true ↦ refl | false ↦ refl ]
        | false ↦ started_is ms found.1
      ]

if_some : (b : Bool) (clock : ℕ) → is_some (if b then Some clock else None) ≡ b
if_some true clock = refl
if_some false clock = refl

pub change_fires : (clock : ℕ) (all : List Kept) (fed : List ℕ) → InstallsRise all → AreFound all all
    → AllByRecursion (λ m. is_fired (flat_map (started_at clock all) (watchers_of fed all)) m ≡ (watches fed m && nat_le m.timing.start clock)) all
change_fires clock all fed rise found =
    each_more (λ m. list_any (λ f. f.install == m.install) (firings_of (asked_at clock all fed) all) ≡ is_some (asked_at clock all fed m))
    (λ m. is_fired (flat_map (started_at clock all) (watchers_of fed all)) m ≡ (watches fed m && nat_le m.timing.start clock))
    (λ m e. any_flip m (flat_map (started_at clock all) (watchers_of fed all)) ∙ ap (list_any (λ f. f.install == m.install)) (started_is clock all fed all found) ∙ e
    ∙ if_some (watches fed m && nat_le m.timing.start clock) clock)
    all (fires_each (asked_at clock all fed) all rise)
