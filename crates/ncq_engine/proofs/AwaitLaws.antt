-- What a subscription with DISTINCT is told, and the changes of counts that wait while firings are told one by one.
use Rattle.std.proofs.Common.{◌≡◌, ℕ, Bool, true, false, ◌&&◌, ◌||◌, cond, List, [], ◌∷◌, ◌++◌, refl, sym, ◌∙◌, ap, arith}
use Rattle.std.specs.Prelude.{Option, Some, None, nat_eq, if◌then◌else◌}
use Rattle.std.specs.FinMap.{empty}
use Rattle.std.proofs.lemmas.Bool.Decides.{nat_tests}
use Rattle.std.proofs.lemmas.List.Folds.{list_any-append}
use mathlib.Core.Bool.{or-false}
use Rattle.ncq_bag.proofs.CallerLemmas.{differences_are_rising}
use Rattle.ncq_bag.specs.Counts.{turns}
use Rattle.ncq_bag.specs.declared.bag.Difference.{Difference}
use Rattle.ncq_book.specs.declared.subscription.Subscription.{Subscription as Kept}
use Rattle.ncq_book.specs.Books.{is_of, subscription_of}
use Rattle.ncq_callback.specs.Gathered.{answer_of, counts_after}
use Rattle.ncq_callback.specs.Labels.{Handed}
use Rattle.ncq_delta.specs.Leads.{unnumbered}
use Rattle.ncq_distinct.specs.DistinctTables.{AreRising, DistinctTable, HaveSameCounts, waiting_at}
use Rattle.ncq_event.specs.declared.firing.Firing.{Firing}
use Rattle.ncq_live.specs.LiveTables.{LiveState}
use Rattle.ncq_plan.specs.Residuals.{passes}
use Rattle.ncq_shelf.specs.KeptFiles.{Files}
use Rattle.ncq_source.specs.StoreStates.{StoreState}
use Rattle.ncq_engine.specs.Engines.{entries_text, news_in, news_of, notice_text, told_in}
use Rattle.ncq_plan.specs.Relations.{Relations}
use Rattle.ncq_engine.specs.Tellings.{Awaits, AwaitsNews, awaited_of, firing_text, is_fired, text_of}

-- what the rows of a subscription tell rises
pub news_rise : (relations : Relations) (store : StoreState) (files : Files) (m : Kept) → AreRising (news_in relations store files m)
news_rise relations store files m =
    differences_are_rising
    (counts_after (passes relations m.query.residual) (answer_of m.query.template) empty (unnumbered (news_of store files m)))

-- what is told follows from the counts alone
module _ (handed : Handed) (store : StoreState) (files : Files) (old new : DistinctTable) (same : HaveSameCounts old new) where
  told_same : (m : Kept) → told_in handed.relations store files new m ≡ told_in handed.relations store files old m
  told_same m = λ i. if m.distinct then turns (same m.install i) (news_in handed.relations store files m) else news_in handed.relations store files m

  pub notice_same : (m : Kept) (instant : ℕ)
      → notice_text handed store files new m instant ≡ notice_text handed store files old m instant
  notice_same m instant = ap (entries_text handed m instant) (told_same m)

  text_same : (instant : ℕ) (o : Option Kept) → text_of handed store files new instant o ≡ text_of handed store files old instant o
  text_same instant None = refl
  text_same instant (Some m) = notice_same m instant

  pub firing_same : (subscriptions : List Kept)
      → ◌≡◌ {A = Firing → List ℕ} (firing_text handed store files new subscriptions) (firing_text handed store files old subscriptions)
  firing_same subscriptions = λ i firing. text_same firing.instant (subscription_of firing.install subscriptions) i

-- a subscription that is found has the install number
pub found_install : (install : ℕ) (ms : List Kept) (m : Kept) → subscription_of install ms ≡ Some m → m.install ≡ install
found_install install [] m e = absurd cc
found_install install (x ∷ ms) m e = by (found_install install ms m) (is_of install x) refl e
  where
    by : (subscription_of install ms ≡ Some m → m.install ≡ install) → (t : Bool) → is_of install x ≡ t
        → cond t (Some x) (subscription_of install ms) ≡ Some m → m.install ≡ install
    by others true is here =
        let same : x ≡ m = cc in
        let own : x.install ≡ install = grind (arith, nat_tests, is) in
        ap (λ (k : Kept). k.install) (sym same) ∙ own
    by others false is later = others later

-- one firing more
fired_more : (done : List Firing) (firing : Firing) (m : Kept) → is_fired (done ++ firing ∷ []) m ≡ (is_fired done m || is_of firing.install m)
fired_more done firing m =
    list_any-append (λ f. is_of f.install m) done (firing ∷ []) ∙ ap (λ t. is_fired done m || t) (or-false (is_of firing.install m))

-- where the changes of some firings wait, those of these firings wait too
abbrev pub AwaitMore : Relations → StoreState → LiveState → List Firing → DistinctTable → DistinctTable → Type 0
AwaitMore relations store live_table more old new = (firings : List Firing) → Awaits relations store live_table firings old → Awaits relations store live_table (firings ++ more) new

module _ (relations : Relations) (store : StoreState) (live_table : LiveState) where
  abbrev awaited : List Firing → Option Kept → List Difference
  awaited = awaited_of relations store live_table.table.files

  abbrev found : ℕ → Option Kept
  found install = subscription_of install live_table.subscriptions

  -- nobody fires, and nothing waits
  pub awaits_none : (distinct : DistinctTable) → ((any : ℕ) → waiting_at distinct any ≡ []) → Awaits relations store live_table [] distinct
  awaits_none distinct settled any = settled any ∙ none (found any)
    where
      none : (o : Option Kept) → [] ≡ awaited [] o
      none None = refl
      none (Some m) = elim m.distinct as (λ d. [] ≡ (if d && false then news_in relations store live_table.table.files m else [])) [ true ↦ refl | false ↦ refl ]

  -- the subscription of a firing is told, behind these
  module _ (firing : Firing) (m : Kept) (is_its : found firing.install ≡ Some m) (done : List Firing) where
    own : m.install ≡ firing.install
    own = found_install firing.install live_table.subscriptions m is_its

    fired_here : is_fired (done ++ firing ∷ []) m ≡ true
    fired_here =
        let is : is_of firing.install m ≡ true = grind (arith, nat_tests, own) in
        fired_more done firing m ∙ (λ i. is_fired done m || is i)
        ∙ elim (is_fired done m) as (λ t. (t || true) ≡ true) [ true ↦ refl | false ↦ refl ]

    fired_other : (other : Kept) → is_of firing.install other ≡ false → is_fired (done ++ firing ∷ []) other ≡ is_fired done other
    fired_other other differs =
        fired_more done firing other ∙ (λ i. is_fired done other || differs i) ∙ or-false (is_fired done other)

    abbrev news : List Difference
    news = news_in relations store live_table.table.files m

    -- what its rows tell waits too
    pub awaits_more : (old new : DistinctTable) → AwaitsNews relations store live_table.table.files m old new
        → Awaits relations store live_table done old → Awaits relations store live_table (done ++ firing ∷ []) new
    awaits_more old new told waits any = told any ∙ by (nat_eq any m.install) refl
      where
        others : nat_eq any m.install ≡ false → (o : Option Kept) → found any ≡ o → awaited done o ≡ awaited (done ++ firing ∷ []) o
        others differs None e = refl
        others differs (Some n) e =
            let its = found_install any live_table.subscriptions n e in
            let apart : is_of firing.install n ≡ false = grind (arith, nat_tests, differs, its, own) in
            λ i. if n.distinct && sym (fired_other n apart) i then news_in relations store live_table.table.files n else []

        -- where it is plain nothing waited for it
        its_own : (d : Bool) → waiting_at old any ≡ (if d && is_fired done m then news else [])
            → (if d && true then news else waiting_at old any) ≡ (if d && true then news else [])
        its_own true waited = refl
        its_own false waited = waited

        by : (t : Bool) → nat_eq any m.install ≡ t
            → (if m.distinct && nat_eq any m.install then news else waiting_at old any) ≡ awaited (done ++ firing ∷ []) (found any)
        by true is =
            let same : any ≡ m.install = grind (arith, nat_tests, is) in
            let at : found any ≡ Some m = ap found (same ∙ own) ∙ is_its in
            (λ i. if m.distinct && is i then news else waiting_at old any)
            ∙ its_own m.distinct (waits any ∙ ap (awaited done) at)
            ∙ (λ i. if m.distinct && sym fired_here i then news else [])
            ∙ ap (awaited (done ++ firing ∷ [])) (sym at)
        by false differs =
            (λ i. if m.distinct && differs i then news else waiting_at old any)
            ∙ elim m.distinct as (λ d. (if d && false then news else waiting_at old any) ≡ waiting_at old any) [ true ↦ refl | false ↦ refl ]
            ∙ waits any ∙ others differs (found any) refl

  pub more_one : (firing : Firing) (m : Kept) → found firing.install ≡ Some m → (old new : DistinctTable)
      → AwaitsNews relations store live_table.table.files m old new → AwaitMore relations store live_table (firing ∷ []) old new
  more_one firing m is_its old new told done = awaits_more firing m is_its done old new told
