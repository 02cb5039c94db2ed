-- What each status says of the source, the sink and the engine, before and after.
use Rattle.std.specs.Prelude.{◌≡◌, ◌+◌, ◌<◌, ◌≤◌, ◌-◌, ◌^◌, min, ℕ, List, [], ◌++◌}
use Rattle.std.specs.Prelude.{length, take, Bool, true, false, Option, None, Some, IfSome, ◌⊎◌, ⊤}
use Rattle.std.specs.Io.KnownBytes.{Appends, Consumes, IsAtEnd}
use Rattle.ncq_outside.specs.Causes.{Rose}
use Rattle.ncq_report.specs.Loads.{load_text}
use Rattle.ncq_script.specs.declared.command.Command.{Command}
use Rattle.ncq_script.specs.Script.{script, whole_script}
use Rattle.ncq_words.specs.Forms.{Form}
use Rattle.ncq_words.specs.Forms.Form.{run, alone, load}
use Rattle.ncq_engine.specs.Notices.{Language}
use Rattle.ncq_engine.specs.Output.{history_of}
use Rattle.ncq_engine.specs.Stands.{EngineState, Stands}
use Rattle.ncq_run.specs.declared.session.Status.{Status}
use Rattle.ncq_run.specs.declared.session.Status.TheVariants.{Done, Usage, ReadFault}
use Rattle.ncq_run.specs.declared.session.Status.TheVariants.{WriteFault, NoMemory, ScriptTooLong}
use Rattle.ncq_run.specs.Output.{AreWithinTries, load_output, output_of, output_of_whole}

-- what a source and a sink show: the bytes left and held, the bytes given, and the faults of each
pub record Outside : Type 0 where
  pub left : Option (List ℕ)
  pub held : Option (List ℕ)
  pub given : ℕ
  pub read_faults : ℕ
  pub write_faults : ℕ

abbrev pub outside : Option (List ℕ) → Option (List ℕ) → ℕ → ℕ → ℕ → Outside
outside left held given read_faults write_faults = record {
  left = left;
  held = held;
  given = given;
  read_faults = read_faults;
  write_faults = write_faults;
}

-- some front of these bytes was appended
abbrev pub AppendsPrefix : Option (List ℕ) → Option (List ℕ) → List ℕ → Type 0
AppendsPrefix old new bytes = (front : List ℕ) × (rest : List ℕ)
    × (bytes ≡ front ++ rest) × Appends old new front

-- some front of these bytes was appended, and not all of them
abbrev pub AppendsProperPrefix : Option (List ℕ) → Option (List ℕ) → List ℕ → Type 0
AppendsProperPrefix old new bytes = (front : List ℕ) × (rest : List ℕ)
    × (bytes ≡ front ++ rest) × (0 < length rest) × Appends old new front

-- the source gave more than n bytes, or its count stands at its end
abbrev pub GaveMore : ℕ → ℕ → ℕ → Type 0
GaveMore before n now = min (before + (n + 1)) (2 ^ 64 - 1) ≤ now

-- done: the source was read to its end within the limit, and the whole output was written
pub record IsDone (language : Language) (whose : Option (List ℕ)) (limit most : ℕ)
    (old new : Outside) : Type 0 where
  pub at_end : IsAtEnd new.left
  pub written : IfSome old.left (λ script.
      Appends old.held new.held (output_of language whose limit script))
  pub within : new.given ≤ old.given + most

-- a read fault: the source failed, and the commands that were whole in the bytes read are answered
pub record IsReadFault (language : Language) (whose : Option (List ℕ)) (limit : ℕ)
    (old new : Outside) : Type 0 where
  pub rose : Rose old.read_faults new.read_faults
  pub bytes : List ℕ
  pub read : Consumes old.left new.left bytes
  pub written : Appends old.held new.held (output_of_whole language whose limit bytes)

-- a write fault: the sink failed, and not all of the output was written
pub record IsWriteFault (language : Language) (whose : Option (List ℕ)) (limit : ℕ)
    (old new : Outside) : Type 0 where
  pub rose : Rose old.write_faults new.write_faults
  pub written : IfSome old.left (λ script.
      AppendsProperPrefix old.held new.held (output_of language whose limit script))

-- too long a script: the source gave more than the limit, and the commands that were whole within
-- it are answered
pub record IsTooLong (language : Language) (whose : Option (List ℕ)) (limit most : ℕ)
    (old new : Outside) : Type 0 where
  pub more : GaveMore old.given most new.given
  pub long : IfSome old.left (λ script. most < length script)
  pub written : IfSome old.left (λ script.
      Appends old.held new.held (output_of_whole language whose limit (take most script)))

-- want of memory: some front of the output was written
pub record IsOutOfMemory (language : Language) (whose : Option (List ℕ)) (limit : ℕ)
    (old new : Outside) : Type 0 where
  pub written : IfSome old.left (λ script.
      AppendsPrefix old.held new.held (output_of language whose limit script))

-- how a session over a script ends
abbrev pub Ended
    : Language → Option (List ℕ) → ℕ → ℕ → Outside → Outside → Status → Type 0
Ended language whose limit most old new Done = IsDone language whose limit most old new
Ended language whose limit most old new Usage = ⊥
Ended language whose limit most old new ReadFault = IsReadFault language whose limit old new
Ended language whose limit most old new WriteFault = IsWriteFault language whose limit old new
Ended language whose limit most old new NoMemory = IsOutOfMemory language whose limit old new
Ended language whose limit most old new ScriptTooLong =
    IsTooLong language whose limit most old new

-- the script is within the limit: its bytes are told and are no more, or the count of the bytes
-- given says so
abbrev pub IsShort : ℕ → Outside → Outside → Type 0
IsShort most old new = ((script : List ℕ) × (old.left ≡ Some script) × (length script ≤ most))
    ⊎ ¬ GaveMore old.given most new.given

-- the sink is sure to hold what it holds already and the whole output
abbrev pub HoldsAll : Language → Option (List ℕ) → ℕ → ℕ → Outside → Type 0
HoldsAll language whose limit sure old = (script : List ℕ) × (held : List ℕ)
    × (old.left ≡ Some script) × (old.held ≡ Some held)
    × (length held + length (output_of language whose limit script) ≤ sure)

-- how a load of n subscribers ends: the tally of its commands is written
abbrev pub Loaded : Language → ℕ → ℕ → Outside → Outside → Status → Type 0
Loaded language limit n old new Done = Appends old.held new.held (load_output language limit n)
Loaded language limit n old new WriteFault = Rose old.write_faults new.write_faults
    × AppendsProperPrefix old.held new.held (load_output language limit n)
Loaded language limit n old new NoMemory =
    AppendsPrefix old.held new.held (load_output language limit n)
Loaded language limit n old new status = ⊥

-- how it ends with words of this form
abbrev pub EndedAs : Form → Language → ℕ → ℕ → Outside → Outside → Status → Type 0
EndedAs run language limit most old new status = Ended language None limit most old new status
EndedAs (alone name) language limit most old new status =
    Ended language (Some name) limit most old new status
EndedAs (load n) language limit most old new status = Loaded language limit n old new status

-- the sink is sure to hold what it holds already and the whole output of the form
abbrev pub HoldsAllOf : Form → Language → ℕ → ℕ → Outside → Type 0
HoldsAllOf run language limit sure old = HoldsAll language None limit sure old
HoldsAllOf (alone name) language limit sure old = HoldsAll language (Some name) limit sure old
HoldsAllOf (load n) language limit sure old = (held : List ℕ) × (old.held ≡ Some held)
    × (length held + length (load_output language limit n) ≤ sure)

-- the engine stands for these commands, and counted them
abbrev pub StandsForThe : Language → List Command → EngineState → Type 0
StandsForThe language commands engine =
    Stands engine (history_of language [] commands) × (engine.count ≡ length commands)

-- it stands for the whole script
abbrev pub StandsForAll : Language → ℕ → Option (List ℕ) → EngineState → Type 0
StandsForAll language limit left engine =
    IfSome left (λ bytes. StandsForThe language (script limit bytes) engine)

-- it stands for the commands that are whole in the bytes that were read
abbrev pub StandsForRead
    : Language → ℕ → Option (List ℕ) → Option (List ℕ) → EngineState → Type 0
StandsForRead language limit left left' engine = (bytes rest : List ℕ)
    → left ≡ Some (bytes ++ rest) → left' ≡ Some rest
    → StandsForThe language (whole_script limit bytes) engine

-- it stands for those that are whole within the limit of a script
abbrev pub StandsForFront : Language → ℕ → ℕ → Option (List ℕ) → EngineState → Type 0
StandsForFront language limit most left engine = IfSome left (λ script.
    StandsForThe language (whole_script limit (take most script)) engine)

-- for which commands of a script it stands, by how the session ended
abbrev pub StandsAfter : Language → ℕ → ℕ → Option (List ℕ) → Option (List ℕ)
    → EngineState → Status → Type 0
StandsAfter language limit most left left' engine Done = StandsForAll language limit left engine
StandsAfter language limit most left left' engine ReadFault =
    StandsForRead language limit left left' engine
StandsAfter language limit most left left' engine ScriptTooLong =
    StandsForFront language limit most left engine
StandsAfter language limit most left left' engine status = ⊤

-- for which it stands with words of this form
abbrev pub StandsAs : Form → Language → ℕ → ℕ → Option (List ℕ) → Option (List ℕ)
    → EngineState → Status → Type 0
StandsAs run language limit most left left' engine status =
    StandsAfter language limit most left left' engine status
StandsAs (alone name) language limit most left left' engine status =
    StandsAfter language limit most left left' engine status
StandsAs (load n) language limit most left left' engine Done =
    StandsForThe language (script limit (load_text n)) engine
StandsAs (load n) language limit most left left' engine status = ⊤

-- the steps are within twice the work of the whole script of the form
abbrev pub WorksAs : Form → Language → ℕ → Option (List ℕ) → ℕ → ℕ → Type 0
WorksAs run language limit left old new =
    IfSome left (λ bytes. AreWithinTries language (script limit bytes) old new)
WorksAs (alone name) language limit left old new =
    IfSome left (λ bytes. AreWithinTries language (script limit bytes) old new)
WorksAs (load n) language limit left old new =
    AreWithinTries language (script limit (load_text n)) old new

-- whether the form reads no script
abbrev pub is_load : Form → Bool
is_load (load n) = true
is_load form = false

-- the exit code of each status
abbrev pub exit_code_of : Status → ℕ
exit_code_of Done = 0
exit_code_of Usage = 2
exit_code_of ReadFault = 3
exit_code_of WriteFault = 4
exit_code_of NoMemory = 5
exit_code_of ScriptTooLong = 6
