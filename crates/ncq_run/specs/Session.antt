-- How far a session and a load have come. Only the crate's private clauses cite it.
use Rattle.std.specs.Prelude.{◌≡◌, ◌+◌, ◌*◌, ◌<◌, ◌≤◌, ◌-◌, ◌^◌, ℕ, List, [], Option, Some, None}
use Rattle.std.specs.Prelude.{length, min, take, false, Result, Ok, Err, OnOk, IfSome, IsErrOf}
use Rattle.std.specs.Io.KnownBytes.{Appends, Consumes}
use Rattle.ncq_outside.specs.Causes.{IsFull, Rose}
use Rattle.ncq_report.specs.declared.tally.Tally.{Tally}
use Rattle.ncq_script.specs.declared.command.Command.{Command}
use Rattle.ncq_script.specs.Script.{known_script, script}
use Rattle.ncq_script.specs.ScriptReading.{ScriptState, FollowsScript, limit_of, is_finished}
use Rattle.ncq_engine.specs.Applies.{OfEach}
use Rattle.ncq_engine.specs.History.{History}
use Rattle.ncq_engine.specs.Languages.{language_of}
use Rattle.ncq_engine.specs.Notices.{Language}
use Rattle.ncq_engine.specs.Output.{after, history_of}
use Rattle.ncq_engine.specs.Stands.{EngineState, Stands}
use Rattle.ncq_engine.specs.Works.{IsWorkUpTo}
use Rattle.ncq_run.specs.declared.answer.Stop.{Stop}
use Rattle.ncq_run.specs.declared.answer.Stop.TheVariants.{NoMemory, WriteFault}
use Rattle.ncq_run.specs.declared.session.Status.{Status}
use Rattle.ncq_run.specs.declared.session.Status.TheVariants as status
use Rattle.ncq_run.specs.Output.{AreWithinTries, shown}
use Rattle.ncq_run.specs.Status.{AppendsPrefix, AppendsProperPrefix, Ended, Outside, StandsAfter}
use Rattle.ncq_run.specs.Tallies.{tally_of}

-- so many bytes were given since, as far as the count tells
pub record Gave (before n now : ℕ) : Type 0 where
  pub at_least : min (before + n) (2 ^ 64 - 1) ≤ now
  pub at_most : now ≤ before + n

-- the commands of these bytes that the reader can tell
abbrev pub commands_in : ScriptState → List ℕ → List Command
commands_in reader bytes = known_script (limit_of reader) (is_finished reader) bytes

-- those of them that the engine has counted
abbrev pub answered_in : ScriptState → EngineState → List ℕ → List Command
answered_in reader engine bytes = take engine.count (commands_in reader bytes)

-- the reader was pushed these bytes, the engine stands for those of their commands that it counted,
-- and the steps since are within twice their work
pub record IsUpTo (bytes : List ℕ) (reader : ScriptState) (engine : EngineState)
    (begun steps : ℕ) : Type 0 where
  pub follows : FollowsScript reader bytes engine.count
  pub few : engine.count ≤ length (commands_in reader bytes)
  pub stands : Stands engine
      (history_of (language_of engine.handed) [] (answered_in reader engine bytes))
  pub work : AreWithinTries (language_of engine.handed) (answered_in reader engine bytes)
      begun steps

-- and what is shown of them was written
pub record IsAnswered (whose : Option (List ℕ)) (bytes : List ℕ) (reader : ScriptState)
    (engine : EngineState) (before held : Option (List ℕ)) (begun steps : ℕ) : Type 0 where
  pub up_to : IsUpTo bytes reader engine begun steps
  pub written : Appends before held
      (shown (language_of engine.handed) whose (answered_in reader engine bytes))

-- what a tally counts is small enough to count on
pub record IsSmall (tally : Tally) (count : ℕ) : Type 0 where
  pub commands : tally.commands ≡ count
  pub refused : tally.refused ≤ count
  pub notices : tally.notices ≤ count * 2 ^ 64
  pub bytes : tally.bytes ≤ count * 2 ^ 64

-- or they were tallied
pub record IsTallied (bytes : List ℕ) (reader : ScriptState) (engine : EngineState)
    (tally : Tally) (begun steps : ℕ) : Type 0 where
  pub up_to : IsUpTo bytes reader engine begun steps
  pub tallied : tally
      ≡ tally_of (language_of engine.handed) (answered_in reader engine bytes)
  pub small : IsSmall tally engine.count

-- the steps are within twice the work of the command, for each history that the engine stands for:
-- it is tried once more where memory runs out
abbrev pub IsWithinTries : EngineState → Command → ℕ → ℕ → Type 0
IsWithinTries engine command old new =
    OfEach engine (λ history. (bound : ℕ)
    → IsWorkUpTo (language_of engine.handed) history command bound → new ≤ old + 2 * bound)

-- the engine was asked a command: where it answered, it counted it and stands for what is after it
pub record Asks {T E : Type 0} (engine : EngineState) (command : Command) (steps : ℕ)
    (engine' : EngineState) (steps' : ℕ) (result : Result T E) : Type 0 where
  pub stands : OnOk result ((history : History) → Stands engine history
      → Stands engine' (after (language_of engine.handed) history command))
  pub counted : OnOk result (engine'.count ≡ engine.count + 1)
  pub handed : engine'.handed ≡ engine.handed
  pub work : IsWithinTries engine command steps steps'

-- all commands of these bytes were to be answered: they are, unless the call failed; either way the
-- steps are within twice their work
pub record IsThrough {T E : Type 0} (bytes : List ℕ) (reader : ScriptState) (engine : EngineState)
    (begun steps : ℕ) (result : Result T E) : Type 0 where
  pub up_to : OnOk result (IsUpTo bytes reader engine begun steps)
  pub all : OnOk result (engine.count ≡ length (commands_in reader bytes))
  pub work : AreWithinTries (language_of engine.handed) (commands_in reader bytes) begun steps

-- a call answers all that its reader can tell; what the reader can tell stays, and the handlers
pub record Advances {T E : Type 0} (reader : ScriptState) (engine : EngineState) (steps : ℕ)
    (reader' : ScriptState) (engine' : EngineState) (steps' : ℕ) (result : Result T E)
    : Type 0 where
  pub through : (bytes : List ℕ) (begun : ℕ) → IsUpTo bytes reader engine begun steps
      → IsThrough bytes reader' engine' begun steps' result
  pub limit : limit_of reader' ≡ limit_of reader
  pub finished : is_finished reader' ≡ is_finished reader
  pub handed : engine'.handed ≡ engine.handed

-- all of these bytes were written, unless the call stopped: then a front of them, and after a write
-- fault not all
abbrev pub Writes : {T : Type 0} → Option (List ℕ) → Option (List ℕ) → List ℕ → Result T Stop
    → Type 0
Writes old new bytes (Ok done) = Appends old new bytes
Writes old new bytes (Err NoMemory) = AppendsPrefix old new bytes
Writes old new bytes (Err WriteFault) = AppendsProperPrefix old new bytes

-- how a session ends that stopped
abbrev pub status_of : Stop → Status
status_of NoMemory = status.NoMemory
status_of WriteFault = status.WriteFault

-- what a call that writes leaves of the sink: its count of faults does not fall, and it is as sure
-- as before; a write fault comes only where the count rose and the sink is full
pub record LeavesSink {T : Type 0} (faults faults' sure sure' : ℕ) (held' : Option (List ℕ))
    (result : Result T Stop) : Type 0 where
  pub later : faults ≤ faults'
  pub cause : IsErrOf result WriteFault → Rose faults faults'
  pub full : IsErrOf result WriteFault → IsFull sure held'
  pub stays : sure' ≡ sure

-- so many bytes were read since the start, and all commands that are whole in them are answered
pub record SoFar (whose : Option (List ℕ)) (reader : ScriptState) (engine : EngineState)
    (taken : ℕ) (start now : Outside) (begun steps : ℕ) : Type 0 where
  pub bytes : List ℕ
  pub long : length bytes ≡ taken
  pub answered : IsAnswered whose bytes reader engine start.held now.held begun steps
  pub all : engine.count ≡ length (commands_in reader bytes)
  pub read : Consumes start.left now.left bytes
  pub given : Gave start.given taken now.given
  pub read_later : start.read_faults ≤ now.read_faults
  pub write_later : start.write_faults ≤ now.write_faults

-- a session can take a turn
pub record IsReady (reader : ScriptState) (engine : EngineState) (taken most room steps : ℕ)
    : Type 0 where
  pub some : (bytes : List ℕ) × (begun : ℕ) × (length bytes ≡ taken)
      × IsUpTo bytes reader engine begun steps
  pub within : taken ≤ most
  pub small : most < 2 ^ 48
  pub room_is : room ≡ 65536
  pub is_open : is_finished reader ≡ false

-- how a session ended, for what the engine stands then, and the steps since it began
pub record IsOver (language : Language) (whose : Option (List ℕ)) (limit most : ℕ)
    (start now : Outside) (engine : EngineState) (begun steps : ℕ) (status : Status)
    : Type 0 where
  pub ended : Ended language whose limit most start now status
  pub stands : StandsAfter language limit most start.left now.left engine status
  pub work : IfSome start.left (λ bytes.
      AreWithinTries language (script limit bytes) begun steps)

-- after a turn the session goes on, or it is over
abbrev pub Turns : Language → Option (List ℕ) → ℕ → ℕ → Outside → Outside → ScriptState
    → EngineState → ℕ → ℕ → ℕ → Option Status → Type 0
Turns language whose limit most start now reader engine taken begun steps None =
    SoFar whose reader engine taken start now begun steps
Turns language whose limit most start now reader engine taken begun steps (Some status) =
    IsOver language whose limit most start now engine begun steps status
