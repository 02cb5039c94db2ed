-- Which counts there are: counts are kept of subscriptions with DISTINCT alone, behind each step of a command.
use Rattle.std.proofs.Common.{◌≡◌, ℕ, Bool, true, false, ◌&&◌, ◌||◌, ◌==◌, cond, not, List, [], ◌∷◌, ◌++◌, map, refl, sym, ◌∙◌, ap, subst, arith, true≢false}
use Rattle.std.specs.Prelude.{Some, nat_eq, if◌then◌else◌}
use Rattle.std.specs.FinMap.{empty}
use Rattle.std.specs.List.{list_any, AllByRecursion}
use Rattle.std.proofs.lemmas.Bool.Decides.{nat_tests}
use Rattle.std.proofs.lemmas.List.Folds.{list_any-append}
use Rattle.ncq_bag.specs.Counts.{after, AreCountsOf}
use Rattle.ncq_book.specs.declared.subscription.Subscription.{Subscription as Kept}
use Rattle.ncq_book.specs.Books.{is_of, subscription_of}
use Rattle.ncq_distinct.specs.DistinctTables.{DistinctTable, HaveSameCounts, counts_at, waiting_at}
use Rattle.ncq_live.specs.LiveTables.{LiveState}
use Rattle.ncq_shelf.specs.KeptFiles.{Files}
use Rattle.ncq_source.specs.StoreStates.{StoreState}
use Rattle.ncq_event.specs.declared.firing.Firing.{Firing}
use Rattle.ncq_engine.specs.DistinctCounts.{all_at, IsCounted}
use Rattle.ncq_engine.specs.Engines.{KeepsCounts, fired_if, news_in}
use Rattle.ncq_engine.specs.Firing.{mark}
use Rattle.ncq_engine.specs.History.{History, Subscription}
use Rattle.ncq_engine.specs.Tellings.{Awaits, awaited_of, is_fired, without}
use Rattle.ncq_plan.specs.Relations.{Relations}
use Rattle.ncq_engine.proofs.Lists.{each_more}

-- the same counts are right for the same history
pub counted_same : (relations : Relations) (h : History) (old new : DistinctTable) → HaveSameCounts old new → (subs : List Subscription)
    → AllByRecursion (IsCounted relations h old) subs → AllByRecursion (IsCounted relations h new) subs
counted_same relations h old new same =
    each_more (IsCounted relations h old) (IsCounted relations h new)
    (λ s counted asked. subst (λ counts. AreCountsOf counts (all_at relations s.statement.query h (mark s h))) (sym (same s.install)) (counted asked))

-- whether the subscription has DISTINCT and this install number
abbrev is_counted : ℕ → Kept → Bool
is_counted install m = m.distinct && nat_eq m.install install

-- the same counts are kept of the same subscriptions
pub counts_same : (subscriptions : List Kept) (old new : DistinctTable) → HaveSameCounts old new
    → KeepsCounts subscriptions old → KeepsCounts subscriptions new
counts_same subscriptions old new same kept install none = same install ∙ kept install none

-- one subscription more
any_more : (test : Kept → Bool) (ms : List Kept) (m : Kept) → list_any test (ms ++ m ∷ []) ≡ false → list_any test ms ≡ false
any_more test [] m none = refl
any_more test (x ∷ ms) m none =
    elim (test x) as (λ t. (t || list_any test (ms ++ m ∷ [])) ≡ false → (t || list_any test ms) ≡ false) [
      | true ↦ λ e. e
      | false ↦ λ e. any_more test ms m e
    ] none

pub counts_joined : (subscriptions : List Kept) (m : Kept) (distinct : DistinctTable)
    → KeepsCounts subscriptions distinct → KeepsCounts (subscriptions ++ m ∷ []) distinct
counts_joined subscriptions m distinct kept install none = kept install (any_more (is_counted install) subscriptions m none)

-- what is written down of firings
counted_still : (t : Bool) (store : StoreState) (install : ℕ) (m : Kept) → is_counted install (fired_if t store m) ≡ is_counted install m
counted_still true store install m = refl
counted_still false store install m = refl

any_noted : (test : Kept → Bool) (store : StoreState) (install : ℕ) (ms : List Kept)
    → list_any (is_counted install) (map (λ m. fired_if (test m) store m) ms) ≡ list_any (is_counted install) ms
any_noted test store install [] = refl
any_noted test store install (m ∷ ms) = λ i. counted_still (test m) store install m i || any_noted test store install ms i

pub counts_noted : (test : Kept → Bool) (store : StoreState) (subscriptions : List Kept) (distinct : DistinctTable)
    → KeepsCounts subscriptions distinct → KeepsCounts (map (λ m. fired_if (test m) store m) subscriptions) distinct
counts_noted test store subscriptions distinct kept install none = kept install (sym (any_noted test store install subscriptions) ∙ none)

-- the changes that wait were made: they wait for none but subscriptions with DISTINCT
none_awaited : (relations : Relations) (store : StoreState) (files : Files) (firings : List Firing) (install : ℕ) (ms : List Kept)
    → list_any (is_counted install) ms ≡ false → awaited_of relations store files firings (subscription_of install ms) ≡ []
none_awaited relations store files firings install [] none = refl
none_awaited relations store files firings install (m ∷ ms) none =
    elim (is_of install m) as (λ t. (m.distinct && t || list_any (is_counted install) ms) ≡ false
    → awaited_of relations store files firings (cond t (Some m) (subscription_of install ms)) ≡ []) [
      | true ↦ λ e. undistinct m.distinct e
      | false ↦ λ e. none_awaited relations store files firings install ms (later m.distinct e)
    ] none
  where
    undistinct : (d : Bool) → (d && true || list_any (is_counted install) ms) ≡ false
        → (if d && is_fired firings m then news_in relations store files m else []) ≡ []
    undistinct true e = absurd (true≢false e)
    undistinct false e = refl

    later : (d : Bool) → (d && false || list_any (is_counted install) ms) ≡ false → list_any (is_counted install) ms ≡ false
    later true e = e
    later false e = e

pub counts_settled : (relations : Relations) (store : StoreState) (live_table : LiveState) (firings : List Firing) (old waiting new : DistinctTable)
    → KeepsCounts live_table.subscriptions old → Awaits relations store live_table firings waiting → HaveSameCounts old waiting
    → ((any : ℕ) → counts_at new any ≡ after (counts_at waiting any) (waiting_at waiting any))
    → KeepsCounts live_table.subscriptions new
counts_settled relations store live_table firings old waiting new kept awaits same settled install none =
    settled install
    ∙ ap (after (counts_at waiting install)) (awaits install ∙ none_awaited relations store live_table.table.files firings install live_table.subscriptions none)
    ∙ same install ∙ kept install none

-- the counts of these numbers are gone
abbrev pub AreRemoved : List ℕ → DistinctTable → DistinctTable → Type 0
AreRemoved installs old new =
    (any : ℕ) → counts_at new any ≡ (if list_any (nat_eq any) installs then empty else counts_at old any)

pub removed_none : (distinct : DistinctTable) → AreRemoved [] distinct distinct
removed_none distinct any = refl

-- those of one number more
pub removed_more : (before after : List ℕ) (install : ℕ) (first old new : DistinctTable) → after ≡ before ++ install ∷ []
    → AreRemoved before first old
    → ((any : ℕ) → counts_at new any ≡ (if any == install then empty else counts_at old any)) → AreRemoved after first new
removed_more before after install first old new all was one any =
    one any ∙ (λ i. if any == install then empty else was any i)
    ∙ either (any == install) (list_any (nat_eq any) before)
    ∙ (λ i. if sym (list_any-append (nat_eq any) before (install ∷ [])) i then empty else counts_at first any)
    ∙ (λ i. if list_any (nat_eq any) (sym all i) then empty else counts_at first any)
  where
    either : (a b : Bool)
        → (if a then empty else (if b then empty else counts_at first any)) ≡ (if b || (a || false) then empty else counts_at first any)
    either true true = refl
    either true false = refl
    either false true = refl
    either false false = refl

-- subscriptions are gone, with their counts
gone_here : (installs : List ℕ) (install : ℕ) → list_any (nat_eq install) installs ≡ false
    → (m : Kept) → list_any (nat_eq m.install) installs ≡ true → is_counted install m ≡ false
gone_here installs install stays m gone = by (nat_eq m.install install) refl
  where
    by : (t : Bool) → nat_eq m.install install ≡ t → (m.distinct && nat_eq m.install install) ≡ false
    by true is =
        let same : m.install ≡ install = grind (arith, nat_tests, is) in
        absurd (true≢false (sym gone ∙ ap (λ n. list_any (nat_eq n) installs) same ∙ stays))
    by false is = (λ i. m.distinct && is i) ∙ elim m.distinct as (λ d. (d && false) ≡ false) [ true ↦ refl | false ↦ refl ]

any_left : (installs : List ℕ) (install : ℕ) → list_any (nat_eq install) installs ≡ false → (ms : List Kept)
    → list_any (is_counted install) (without installs ms) ≡ false → list_any (is_counted install) ms ≡ false
any_left installs install stays [] none = refl
any_left installs install stays (m ∷ ms) none =
    by (any_left installs install stays ms) (list_any (nat_eq m.install) installs) refl none
  where
    by : (list_any (is_counted install) (without installs ms) ≡ false → list_any (is_counted install) ms ≡ false)
        → (t : Bool) → list_any (nat_eq m.install) installs ≡ t
        → list_any (is_counted install) (cond (not t) (m ∷ without installs ms) (without installs ms)) ≡ false
        → (is_counted install m || list_any (is_counted install) ms) ≡ false
    by others true gone rest = λ i. gone_here installs install stays m gone i || others rest i
    by others false left both =
        elim (is_counted install m) as (λ t. (t || list_any (is_counted install) (without installs ms)) ≡ false
        → (t || list_any (is_counted install) ms) ≡ false) [
          | true ↦ λ e. e
          | false ↦ λ e. others e
        ] both

pub counts_left : (installs : List ℕ) (subscriptions : List Kept) (old new : DistinctTable)
    → KeepsCounts subscriptions old → AreRemoved installs old new → KeepsCounts (without installs subscriptions) new
counts_left installs subscriptions old new kept left install none = by (list_any (nat_eq install) installs) refl
  where
    by : (t : Bool) → list_any (nat_eq install) installs ≡ t → counts_at new install ≡ empty
    by true gone = left install ∙ (λ i. if gone i then empty else counts_at old install)
    by false stays =
        left install ∙ (λ i. if stays i then empty else counts_at old install)
        ∙ kept install (any_left installs install stays subscriptions none)
