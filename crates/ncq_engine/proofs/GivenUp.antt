-- A command that is given up for want of memory: nothing is new but room in the store, and what was written stands in front.
use Rattle.std.proofs.Common.{◌≡◌, ◌∙◌, ℕ, List, ◌++◌, length, take, ap, refl, subst, sym}
use Rattle.std.specs.Prelude.{Result, Err}
use Rattle.std.specs.Io.{StartsWith}
use Rattle.std.proofs.Math.Seq.{take-append_seam}
use Rattle.ncq_live.specs.LiveTables.{LiveState}
use Rattle.ncq_script.specs.declared.command.Command.{Command}
use Rattle.ncq_source.specs.StoreStates.{StoreState, IsAlike}
use Rattle.ncq_engine.specs.declared.telling.Answered.{Answered}
use Rattle.ncq_engine.specs.declared.engine.ApplyError.{ApplyError}
use Rattle.ncq_engine.specs.declared.engine.ApplyError.TheVariants.{OutOfMemory}
use Rattle.ncq_engine.specs.Applies.{Applies, GivesUp}
use Rattle.ncq_engine.specs.History.{History}
use Rattle.ncq_engine.specs.Stands.{EngineState, Follows}
use Rattle.ncq_engine.proofs.Places.{room_is_no_content}
use Rattle.ncq_engine.proofs.StoreLaws.{last_alike}

-- what is appended leaves what was there in front
pub front_of : (out more after : List ℕ) → after ≡ out ++ more → StartsWith after out
front_of out more after is = ap (take (length out)) is ∙ take-append_seam out more

-- more room in the store is no other history
follows_ready : (e : EngineState) (ready : StoreState) → IsAlike e.store ready → (h : History) → Follows e h → Follows (record e { store = ready }) h
follows_ready e ready alike h s = record {
  sources = room_is_no_content e.store.sources ready.sources alike.sources ∙ s.sources;
  last = λ name. last_alike e.store ready name alike.sources ∙ s.last name;
  changes = alike.changes ∙ s.changes;
  clock = s.clock;
  creates = s.creates;
  subscriptions = s.subscriptions;
  contents = s.contents;
  counted = s.counted;
  rising = s.rising;
}

-- the live table is that of the engine
pub record IsStill (e : EngineState) (live_table : LiveState) : Type 0 where
  pub subscriptions : live_table.subscriptions ≡ e.subscriptions
  pub table : live_table.table ≡ e.table
  pub instant : live_table.instant ≡ e.clock

-- the engine with this store and this live table
abbrev pub with_parts : EngineState → StoreState → LiveState → EngineState
with_parts e store live_table = record e { store = store; clock = live_table.instant; subscriptions = live_table.subscriptions; table = live_table.table }

-- a command that is given up, from what the calls leave
pub given_up : {was e : EngineState} → was ≡ e → (command : Command) (out : List ℕ) (result : Result Answered ApplyError) → result ≡ Err OutOfMemory
    → (ready : StoreState) → IsAlike was.store ready → (live_table : LiveState) → IsStill was live_table → (out' : List ℕ) → StartsWith out' out
    → Applies e command out result (with_parts was ready live_table) out'
given_up {was = was} is command out result failed ready alike live_table still out' front =
    subst (λ (e : EngineState). Applies e command out result (with_parts was ready live_table) out') is
    (subst (λ (r : Result Answered ApplyError). Applies was command out r (with_parts was ready live_table) out') (sym failed)
    (subst (λ (n : EngineState). GivesUp was out n out') (λ i. with_parts was ready (record { table = sym still.table i; subscriptions = sym still.subscriptions i; instant = sym still.instant i }))
    (record { follows = follows_ready was ready alike; uncounted = refl; handed = refl; front = front })))
