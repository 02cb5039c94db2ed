-- What bounds an engine, from what holds of it whatever was answered.
use Rattle.std.proofs.Common.{◌≡◌, ℕ, ◌*◌, ◌≤◌, List, [], ◌∷◌, sym, ◌∙◌, subst, arith}
use Rattle.std.specs.Prelude.{Option, Some, IfSome}
use Rattle.std.specs.List.{AllByRecursion}
use Rattle.ncq_book.specs.declared.subscription.Subscription.{Subscription as Kept}
use Rattle.ncq_callback.specs.Labels.{Handed}
use Rattle.ncq_group.specs.Tables.{Facts, TableState}
use Rattle.ncq_live.specs.Shares.{Shares}
use Rattle.ncq_shelf.specs.Contents.{AreUpTo}
use Rattle.ncq_shelf.specs.KeptFiles.{KeptFile}
use Rattle.ncq_source.specs.StoreStates.{StoreState}
use Rattle.ncq_engine.specs.declared.span.Span.{Span}
use Rattle.ncq_engine.specs.Applies.{KeepsCache}
use Rattle.ncq_engine.specs.Cached.{AllServe, AreToldRight}
use Rattle.ncq_engine.specs.Engines.{CanTell, KeepsCounts, Pairwise, last_in}
use Rattle.ncq_engine.specs.Firing.{mark}
use Rattle.ncq_engine.specs.History.{History, Subscription, changes, creates, last_change, live}
use Rattle.ncq_engine.specs.Marks.{IsRising}
use Rattle.ncq_engine.specs.Stands.{EngineState, Follows, IsBounded, IsMarked, Keeps, Stands}
use Rattle.ncq_engine.proofs.CachedLaws.{Goes, cached_right}
use Rattle.ncq_engine.proofs.EngineLaws.{follows_cached, follows_still}
use Rattle.ncq_engine.proofs.InvariantLaws.{Invariant}
use Rattle.ncq_engine.proofs.Keeping.{mark_is}
use Rattle.ncq_engine.proofs.PlanningLaws.{kept_alike}

module _ (handed : Handed) (h : History) (store : StoreState) (table : TableState) (last : (name : List ℕ) → last_in store name ≡ last_change name h) (rising : IsRising h) where
  marked_one : (s : Subscription) (m : Kept) → Keeps handed h s m → CanTell handed store table m → IsMarked table.files h s m
  marked_one s m k can file at =
      let one : can.file ≡ file = (let e : Some can.file ≡ Some file = sym can.at ∙ at in cc) in
      subst (λ (f : KeptFile). IfSome (mark s h) (λ number. f.content.base ≤ number)) one
      (subst (λ (o : Option ℕ). IfSome o (λ number. can.file.content.base ≤ number)) (mark_is handed h s m k rising store last) can.base)

  pub marked_each : (subs : List Subscription) (ms : List Kept) → Pairwise (Keeps handed h) subs ms → AllByRecursion (CanTell handed store table) ms → Pairwise (IsMarked table.files h) subs ms
  marked_each [] [] p can = tt
  marked_each [] (m ∷ ms) p can = absurd p
  marked_each (s ∷ subs) [] p can = absurd p
  marked_each (s ∷ subs) (m ∷ ms) p can = (marked_one s m p.0 can.0, marked_each subs ms p.1 can.1)

pub bounded : (e : EngineState) → Invariant e → Facts e.table → (h : History) → Follows e h → IsBounded e h
bounded e holds facts h s = record {
  number = same;
  up_to = subst (λ n. AreUpTo n e.table.files) same facts.up_to;
  marks = marked_each e.handed h e.store e.table s.last s.rising (live h) e.subscriptions s.subscriptions holds.can;
  few_changes = (let a = holds.changes in let b = s.changes in let l : changes h ≤ e.count = omega (arith, a, b) in l);
  few_creates = (let a = holds.creates_too in let b = s.creates in let l : creates h ≤ e.count = omega (arith, a, b) in l);
  few_files = (let a = holds.next in let b = s.creates in let l : e.table.next_file ≤ 256 * creates h = omega (arith, a, b) in l);
}
  where
    same : e.table.number ≡ changes h
    same = holds.number ∙ s.changes

-- so an engine that follows a history, shares its files, keeps of what was told what is right, and counts of those with DISTINCT alone stands for it
pub stands_of : (e : EngineState) (h : History) → Follows e h → IsBounded e h → Shares e.subscriptions e.table → AreToldRight e.handed.relations h e.table e.cache → KeepsCounts e.subscriptions e.distinct → Stands e h
stands_of e h follows bounded shares cached counts =
    record { follows = follows; bounded = bounded; shares = shares; cached = cached; counts = counts; alike = λ bare. kept_alike e.handed h bare (live h) e.subscriptions follows.subscriptions }

-- behind a command that keeps what is kept an engine stands for what it follows
pub stands_behind : (old e : EngineState) {earlier later : History} → e.handed ≡ old.handed → Goes earlier later → Stands old earlier → Follows e later → IsBounded e later → Shares e.subscriptions e.table → AllServe e.handed.relations e.table e.cache → KeepsCounts e.subscriptions e.distinct → KeepsCache old e → Stands e later
stands_behind old e {later = later} same goes s follows bounded shares serve counts keeps =
    let serve_old = subst (λ (k : Handed). AllServe k.relations e.table e.cache) same serve in
    stands_of e later follows bounded shares
    (subst (λ (k : Handed). AreToldRight k.relations later e.table e.cache) (sym same)
    (cached_right old.handed.relations goes old.table e.table old.cache e.cache follows.contents bounded.up_to bounded.number serve_old keeps s.cached)) counts

-- where the notices of the last answer stand is no matter
pub stands_with : (e e' : EngineState) (places : List Span) → e' ≡ record e { spans = places } → (h : History) → Stands e h → Stands e' h
stands_with e e' places is h s = subst (λ (x : EngineState). Stands x h) (sym is) (record {
  follows = follows_still e e.count places h s.follows;
  bounded = let b = s.bounded in record { number = b.number; up_to = b.up_to; marks = b.marks; few_changes = b.few_changes; few_creates = b.few_creates; few_files = b.few_files };
  shares = s.shares;
  cached = s.cached;
  counts = s.counts;
  alike = s.alike;
})

-- nor does it matter that what is kept of what was told is given back
pub stands_shed : (e e' : EngineState) → e' ≡ record e { cache = [] } → (h : History) → Stands e h → Stands e' h
stands_shed e e' is h s = subst (λ (x : EngineState). Stands x h) (sym is) (record {
  follows = follows_cached e [] h s.follows;
  bounded = let b = s.bounded in record { number = b.number; up_to = b.up_to; marks = b.marks; few_changes = b.few_changes; few_creates = b.few_creates; few_files = b.few_files };
  shares = s.shares;
  cached = tt;
  counts = s.counts;
  alike = s.alike;
})
