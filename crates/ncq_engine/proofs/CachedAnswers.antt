-- What a command makes of what is kept of what was told, from what the calls give.
use Rattle.std.proofs.Common.{◌≡◌, ℕ, List, [], ◌∷◌, refl, sym, ◌∙◌, ap, subst, arith, inl, inr}
use Rattle.std.specs.Prelude.{◌⊎◌, Option, Some, None, IfSome, IfNone, Contains}
use Rattle.std.specs.FinMap.{get}
use Rattle.ncq_bag.specs.declared.bag.Difference.{Difference}
use Rattle.ncq_cache.specs.Cached.{Cached}
use Rattle.ncq_cache.specs.declared.key.NoticeKey.{NoticeKey}
use Rattle.ncq_feed.specs.Feeds.{AreFed}
use Rattle.ncq_group.specs.Tables.{TableState}
use Rattle.ncq_shelf.specs.KeptFiles.{KeptFile}
use Rattle.ncq_source.specs.declared.change.Portion.{Portion}
use Rattle.ncq_source.specs.StoreStates.{StoreState}
use Rattle.ncq_callback.specs.Labels.{Handed}
use Rattle.ncq_distinct.specs.DistinctTables.{DistinctTable}
use Rattle.ncq_event.specs.declared.firing.Firing.{Firing}
use Rattle.ncq_live.specs.LiveTables.{LiveState}
use Rattle.ncq_engine.specs.Applies.{KeepsCache}
use Rattle.ncq_engine.specs.Cached.{AllServe, Grows, IsFresh, IsOfOld, KeepsPairs}
use Rattle.ncq_engine.specs.Stands.{EngineState}
use Rattle.ncq_engine.specs.Tellings.{AreOf, Awaits}
use Rattle.ncq_engine.proofs.CachedLaws.{each_contained, fresh_serves, keeps_grown, of_itself, serve_left}
use Rattle.ncq_plan.specs.Relations.{Relations}
use Rattle.ncq_engine.proofs.Lists.{each_more}

-- an engine with the same files that keeps the same
pub keeps_same : (old new : EngineState) → new.table ≡ old.table → new.cache ≡ old.cache → KeepsCache old new
keeps_same old new table cache =
    subst (λ (p : TableState × List Cached). KeepsPairs old.handed.relations old.table old.cache p.0 p.1) (λ i. (sym table i, sym cache i))
    (each_more (Contains old.cache) (λ pair. IsFresh old.handed.relations old.table pair.0 pair.1 ⊎ (Contains old.cache pair × IsOfOld old.table old.table pair.0.file.0))
    (λ pair there. inr (there, of_itself old.table pair.0.file.0)) old.cache (each_contained old.cache))

-- so does the engine itself
pub keeps_itself : (e : EngineState) → KeepsCache e e
keeps_itself e = keeps_same e e refl refl

-- and one that is as it was
pub keeps_as_was : {was e : EngineState} → was ≡ e → KeepsCache e was
keeps_as_was {was = was} {e = e} is = keeps_same e was (ap (λ (x : EngineState). x.table) is) (ap (λ (x : EngineState). x.cache) is)

-- and one that has counted a command that it refused
pub keeps_counted : (old new : EngineState) (count : ℕ) → new ≡ record old { count = count } → KeepsCache old new
keeps_counted old new count is = keeps_same old new (ap (λ (e : EngineState). e.table) is) (ap (λ (e : EngineState). e.cache) is)

-- and one that refused a command or gave it up
pub keeps_refused : {X : Type 0} (o : Option X) (old new : EngineState) (count : ℕ) → IfSome o (λ _. new ≡ record old { count = count }) → IfNone o (new ≡ old) → KeepsCache old new
keeps_refused None old new count some none = subst (λ (e : EngineState). KeepsCache old e) (sym none) (keeps_itself old)
keeps_refused (Some x) old new count some none = keeps_counted old new count some

-- an engine that keeps nothing
pub keeps_none : (old : EngineState) (table : TableState) (cache : List Cached) → cache ≡ [] → KeepsPairs old.handed.relations old.table old.cache table cache
keeps_none old table cache nothing = subst (KeepsPairs old.handed.relations old.table old.cache table) (sym nothing) tt

-- somebody was told, and the files are the same
pub keeps_told : (relations : Relations) (old table : TableState) (pairs cache : List Cached) → table ≡ old → AllServe relations old pairs → Grows relations old pairs cache → KeepsPairs relations old pairs table cache
keeps_told relations old table pairs cache same serve grows = subst (λ t. KeepsPairs relations old pairs t cache) (sym same) (keeps_grown relations old old pairs cache serve (λ number below. of_itself old number) grows)

-- files that were fed
pub of_old_fed : (store : StoreState) (change : List Portion) (old new : TableState) → AreFed store change old.files new.files → (number : ℕ) → IsOfOld old new number
of_old_fed store change old new fed number file at = by (get old.files number) refl
  where
    by : (o : Option KeptFile) → get old.files number ≡ o → (was : KeptFile) × (get old.files number ≡ Some was) × (file.expr ≡ was.expr)
    by None e = absurd (let bad : Some file ≡ None = sym at ∙ fed.no_other number e in cc)
    by (Some was) e =
        let f = fed.each number was e in
        let one : Some file ≡ Some f.0 = sym at ∙ f.1 in
        let is : file ≡ f.0 = cc in
        (was, e, ap (λ (k : KeptFile). k.expr) is ∙ ap (λ (k : KeptFile). k.expr) f.2.behind)

pub keeps_fed : (relations : Relations) (store : StoreState) (change : List Portion) (old new : TableState) (pairs cache : List Cached) → AreFed store change old.files new.files → AllServe relations old pairs → Grows relations new pairs cache → KeepsPairs relations old pairs new cache
keeps_fed relations store change old new pairs cache fed serve = keeps_grown relations old new pairs cache serve (λ number below. of_old_fed store change old new fed number)

-- files that are left
module _ (relations : Relations) (old new : TableState) (left : AreOf old.files new.files) (number : new.number ≡ old.number) (next : new.next_file ≡ old.next_file) where
  of_old_left : (at : ℕ) → IsOfOld old new at
  of_old_left at file here = let was = left at file here in (was.0, was.1, was.2.0)

  fresh_left : (key : NoticeKey) (entries : List Difference) → IsFresh relations old key entries → IsFresh relations new key entries
  fresh_left key entries fresh =
      let serves = serve_left relations old new ((key, entries) ∷ []) left number next (fresh_serves relations old key entries fresh, tt) in
      serves.0.fresh (fresh.change ∙ sym number)

  -- somebody was told, and then subscriptions went with their files
  pub keeps_left : (pairs cache : List Cached) → Grows relations old pairs cache → KeepsPairs relations old pairs new cache
  keeps_left pairs =
      each_more (λ pair. Contains pairs pair ⊎ IsFresh relations old pair.0 pair.1) (λ pair. IsFresh relations new pair.0 pair.1 ⊎ (Contains pairs pair × IsOfOld old new pair.0.file.0))
      (λ pair c. elim c [
        | inl there ↦ inr (there, of_old_left pair.0.file.0)
        | inr fresh ↦ inl (fresh_left pair.0 pair.1 fresh)
      ])

-- what was kept before was kept still, or was all given up
pub keeps_behind : (old mid new : EngineState) → mid.handed ≡ old.handed → (mid ≡ old) ⊎ (mid.cache ≡ []) → KeepsCache mid new → KeepsCache old new
keeps_behind old mid new handed (inl same) keeps = subst (λ (e : EngineState). KeepsCache e new) same keeps
keeps_behind old mid new handed (inr nothing) keeps =
    each_more (λ pair. IsFresh old.handed.relations new.table pair.0 pair.1 ⊎ (Contains mid.cache pair × IsOfOld mid.table new.table pair.0.file.0)) (λ pair. IsFresh old.handed.relations new.table pair.0 pair.1 ⊎ (Contains old.cache pair × IsOfOld old.table new.table pair.0.file.0))
    (λ pair c. elim c [
      | inl fresh ↦ inl fresh
      | inr there ↦ absurd (none_there pair (subst (λ pairs. Contains pairs pair) nothing there.0))
    ]) new.cache (subst (λ (k : Handed). KeepsPairs k.relations mid.table mid.cache new.table new.cache) handed keeps)
  where
    none_there : (pair : Cached) → Contains [] pair → ⊥
    none_there pair (k, below, is) = let bad : ⊥ = omega (arith, below) in bad

-- what is said by the relations that were handed in is said by those that the engine keeps
module _ (own given : Handed) (same : own ≡ given) where
  pub grows_as : (table : TableState) (old new : List Cached) → Grows given.relations table old new → Grows own.relations table old new
  grows_as table old new = subst (λ (k : Handed). Grows k.relations table old new) (sym same)

  pub serve_as : (table : TableState) (pairs : List Cached) → AllServe own.relations table pairs → AllServe given.relations table pairs
  serve_as table pairs = subst (λ (k : Handed). AllServe k.relations table pairs) same

  pub awaits_as : (store : StoreState) (live_table : LiveState) (firings : List Firing) (distinct : DistinctTable) → Awaits given.relations store live_table firings distinct → Awaits own.relations store live_table firings distinct
  awaits_as store live_table firings distinct = subst (λ (k : Handed). Awaits k.relations store live_table firings distinct) (sym same)
