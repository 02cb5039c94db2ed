-- A change behind a compaction: what it does to the engine whose files were compacted, it does to the engine before.
use Rattle.std.proofs.Common.{◌≡◌, ℕ, List, [], refl, sym, ◌∙◌, ap, subst, inl, inr}
use Rattle.std.specs.Prelude.{Option, Some, None, IfSome, IfNone, Result, Ok, Err, ◌⊎◌}
use Rattle.std.specs.FinMap.{get}
use Rattle.ncq_cache.specs.Cached.{Cached}
use Rattle.ncq_feed.specs.Feeds.{AreFed}
use Rattle.ncq_group.specs.Tables.{TableState}
use Rattle.ncq_live.specs.Shares.{Shares}
use Rattle.ncq_script.specs.declared.command.Command.{Command}
use Rattle.ncq_source.specs.declared.change.Portion.{Portion}
use Rattle.ncq_source.specs.StoreStates.{StoreState}
use Rattle.ncq_shelf.specs.KeptFiles.{KeptFile}
use Rattle.ncq_engine.specs.Applies.{Applies, IfAnswered}
use Rattle.ncq_engine.specs.Cached.{AreToldRight}
use Rattle.ncq_engine.specs.Compactions.{AreCompacted, KeepBases}
use Rattle.ncq_engine.specs.Engines.{KeepsCounts}
use Rattle.ncq_engine.specs.History.{History, live}
use Rattle.ncq_engine.specs.Stands.{EngineState, Follows, IsBounded, Stands}
use Rattle.ncq_engine.specs.Works.{IsWithinWork}
use Rattle.ncq_engine.specs.declared.engine.ApplyError.{ApplyError}
use Rattle.ncq_engine.specs.declared.engine.ApplyError.TheVariants.{Refused, OutOfMemory}
use Rattle.ncq_engine.specs.declared.telling.Answered.{Answered}
use Rattle.ncq_engine.proofs.PlanningLaws.{kept_alike}

-- what holds, holds where the command was answered
pub answered_so : {T A : Type 0} (r : Result T ApplyError) → A → IfAnswered r A
answered_so (Ok x) a = a
answered_so (Err (Refused why)) a = a
answered_so (Err OutOfMemory) a = tt

pub answered_more : {T A B : Type 0} (r : Result T ApplyError) → (A → B) → IfAnswered r A → IfAnswered r B
answered_more (Ok x) f a = f a
answered_more (Err (Refused why)) f a = f a
answered_more (Err OutOfMemory) f a = tt

-- an engine with another table that keeps other pairs of what was told, which follows what it followed
module _ (old : EngineState) (table : TableState) (cache : List Cached) (follows : (h : History) → Follows old h → Follows (record old { table = table; cache = cache }) h) where
  pub applies_from : (command : Command) (out : List ℕ) (r : Result Answered ApplyError) (new : EngineState) (out' : List ℕ) → Applies (record old { table = table; cache = cache }) command out r new out'
      → Applies old command out r new out'
  applies_from command out (Ok answered) new out' a = record {
    accepted = λ h s. a.accepted h (follows h s);
    follows = λ h s. a.follows h (follows h s);
    answer = λ h s. a.answer h (follows h s);
    counted = a.counted;
    handed = a.handed;
    places = λ h s.
        let p = a.places h (follows h s) in
        record { between = record { begins = p.between.begins; ends = p.between.ends }; spans = p.spans };
  }
  applies_from command out (Err (Refused why)) new out' a = record {
    refused = λ h s. a.refused h (follows h s);
    follows = λ h s. a.follows h (follows h s);
    counted = a.counted;
    handed = a.handed;
    unwritten = a.unwritten;
  }
  applies_from command out (Err OutOfMemory) new out' a = record { follows = λ h s. a.follows h (follows h s); uncounted = a.uncounted; handed = a.handed; front = a.front }

-- where that engine stands for what the other stands for, the work is the same
pub work_from : (old : EngineState) (table : TableState) (cache : List Cached) → ((h : History) → Stands old h → Stands (record old { table = table; cache = cache }) h)
    → (command : Command) (before after : ℕ) → IsWithinWork (record old { table = table; cache = cache }) command before after → IsWithinWork old command before after
work_from old table cache stands command before after within h s bound work = within h (stands h s) bound work

-- an engine that follows what another followed, and keeps what that kept of what was told, or nothing
pub stands_still : (old mid : EngineState) → ((h : History) → Follows old h → Follows mid h) → ((h : History) → Follows mid h → IsBounded mid h) → Shares mid.subscriptions mid.table
    → KeepsCounts mid.subscriptions mid.distinct → (mid ≡ old) ⊎ (mid.cache ≡ []) → (h : History) → Stands old h → Stands mid h
stands_still old mid follows bounded shares counts (inl same) h s = subst (λ (e : EngineState). Stands e h) (sym same) s
stands_still old mid follows bounded shares counts (inr nothing) h s =
    let f = follows h s.follows in
    record { follows = f; bounded = bounded h f; shares = shares; cached = subst (AreToldRight mid.handed.relations h mid.table) (sym nothing) tt; counts = counts; alike = λ bare. kept_alike mid.handed h bare (live h) mid.subscriptions f.subscriptions }

-- a change keeps the bases
pub bases_fed : (store : StoreState) (change : List Portion) (old new : EngineState) → AreFed store change old.table.files new.table.files → KeepBases old new
bases_fed store change old new fed number file at =
    let f = fed.each number file at in
    record { file = f.0; at = f.1; base = ap (λ (k : KeptFile). k.content.base) f.2.behind }

pub bases_same : (old new : EngineState) → new.table ≡ old.table → KeepBases old new
bases_same old new same number file at = record { file = file; at = subst (λ (t : TableState). get t.files number ≡ Some file) (sym same) at; base = refl }

-- a refusal leaves the table
pub refused_table : {X : Type 0} (o : Option X) (old new : EngineState) (count : ℕ) → IfSome o (λ _. new ≡ record old { count = count }) → IfNone o (new ≡ old) → new.table ≡ old.table
refused_table None old new count some none = ap (λ (e : EngineState). e.table) none
refused_table (Some x) old new count some none = ap (λ (e : EngineState). e.table) some

-- files that were compacted, and then kept their bases
pub compacted_still : (old mid new : EngineState) → AreCompacted old mid → KeepBases mid new → AreCompacted old new
compacted_still old mid new compacted keep number file at worn =
    let had = compacted number file at worn in
    let has = keep number had.file had.at in
    record { file = has.file; at = has.at; base = has.base ∙ had.base }
