-- What the answer to a command does.
use Rattle.std.specs.Prelude.{◌≡◌, ◌+◌, ◌++◌, ◌∷◌, ℕ, List, length, None}
use Rattle.std.specs.Prelude.{Some, Result, Ok, Err}
use Rattle.std.specs.Prelude.{Option, slice_get}
use Rattle.std.specs.Io.{StartsWith}
use Rattle.std.specs.Option.{option_map}
use Rattle.ncq_bind.specs.declared.binding.BindError.{BindError}
use Rattle.ncq_bind.specs.declared.binding.BindError.TheVariants as binding
use Rattle.ncq_callback.specs.Labels.{Label}
use Rattle.ncq_callback.specs.declared.notice.Kind.{Kind}
use Rattle.ncq_source.specs.declared.change.ChangeError.{ChangeError}
use Rattle.ncq_script.specs.declared.refusal.Refusal.TheVariants as refusal
use Rattle.ncq_script.specs.declared.command.Command.{Command}
use Rattle.ncq_script.specs.declared.refusal.Refusal.{Refusal}
use Rattle.ncq_engine.specs.declared.telling.Answered.{Answered}
use Rattle.ncq_engine.specs.declared.engine.Applied.{Applied}
use Rattle.ncq_engine.specs.declared.engine.ApplyError.{ApplyError}
use Rattle.ncq_engine.specs.declared.span.Span.{Span}
use Rattle.ncq_engine.specs.declared.engine.ApplyError.TheVariants.{Refused, OutOfMemory}
use Rattle.ncq_engine.specs.Cached.{KeepsPairs}
use Rattle.ncq_engine.specs.History.{History}
use Rattle.ncq_engine.specs.Languages.{language_of}
use Rattle.ncq_engine.specs.Output.{accepted_text, first_refusal, notices}
pub use Rattle.ncq_engine.specs.Output.{change_refusal, ok_text}
use Rattle.ncq_engine.specs.Spans.{spans}
use Rattle.ncq_engine.specs.Stands.{EngineState, Follows, Stands}

-- the kind of the handler at a place
abbrev pub kind_at : List Label → ℕ → Option Kind
kind_at labels at = option_map (λ label. label.1) (slice_get labels at)

-- the refusal of a query that does not bind; none where memory ran out
abbrev pub query_refusal : BindError → Option Refusal
query_refusal binding.NoSource = Some refusal.NoSource
query_refusal binding.RootDiffers = Some refusal.Root
query_refusal binding.Unbound = Some refusal.Unbound
query_refusal binding.OutOfMemory = None

abbrev pub error_of : Option Refusal → ApplyError
error_of None = OutOfMemory
error_of (Some why) = Refused why

abbrev pub refused_change : ChangeError → ApplyError
refused_change error = error_of (change_refusal error)

abbrev pub refused_query : BindError → ApplyError
refused_query error = error_of (query_refusal error)

-- it holds of each history that the engine stands for
abbrev pub OfEach : EngineState → (History → Type 0) → Type 0
OfEach engine holds = (history : History) → Stands engine history → holds history

-- it holds of the refusal, where the command was refused
abbrev pub IfRefused : Result Applied ApplyError → (Refusal → Type 0) → Type 0
IfRefused (Ok applied) holds = Unit {0}
IfRefused (Err (Refused why)) holds = holds why
IfRefused (Err OutOfMemory) holds = Unit {0}

-- it holds where the command was accepted or refused: memory did not run out
abbrev pub IfAnswered : {T : Type 0} → Result T ApplyError → Type 0 → Type 0
IfAnswered (Ok answered) holds = holds
IfAnswered (Err (Refused why)) holds = holds
IfAnswered (Err OutOfMemory) holds = Unit {0}

-- it holds where memory ran out: the command was given up, neither accepted nor refused
abbrev pub IfGivenUp : Result Applied ApplyError → Type 0 → Type 0
IfGivenUp (Ok applied) holds = Unit {0}
IfGivenUp (Err (Refused why)) holds = Unit {0}
IfGivenUp (Err OutOfMemory) holds = holds

-- the notices begin behind the first line of the answer, and end where they are all written
pub record StandBetween (from to : ℕ) (old : EngineState) (history : History) (command : Command)
    (out : List ℕ) : Type 0 where
  pub begins : from ≡ length out + length (ok_text (old.count + 1))
  pub ends : to ≡ from + length (notices (language_of old.handed) history command)

-- where the notices begin and end, and how many there are
pub record AreNotices (old : EngineState) (history : History) (command : Command) (out : List ℕ)
    (applied : Applied) : Type 0 where
  pub between : StandBetween applied.from applied.to old history command out
  pub notices : applied.notices
      ≡ length (spans (language_of old.handed) history command applied.from)

abbrev pub WritesNotices : EngineState → Command → List ℕ → Applied → Type 0
WritesNotices old command out applied =
    OfEach old (λ history. AreNotices old history command out applied)

-- where each notice stands
abbrev pub AreSpans : EngineState → History → Command → List ℕ → List Span → Type 0
AreSpans old history command out places =
    places ≡ spans (language_of old.handed) history command
    (length out + length (ok_text (old.count + 1)))

-- it holds of each history that the engine follows. Only the crate's private clauses cite this and
-- what is below.
abbrev pub OfFollowed : EngineState → (History → Type 0) → Type 0
OfFollowed engine holds = (history : History) → Follows engine history → holds history

-- where the notices begin and end, and where each of them stands
pub record ArePlaces (old : EngineState) (history : History) (command : Command) (out : List ℕ)
    (answered : Answered) : Type 0 where
  pub between : StandBetween answered.from answered.to old history command out
  pub spans : answered.spans ≡ spans (language_of old.handed) history command answered.from

-- the command is accepted: it meets no refusal, the engine follows it, and its answer was appended
pub record Accepts (old : EngineState) (command : Command) (out : List ℕ) (answered : Answered)
    (new : EngineState) (out' : List ℕ) : Type 0 where
  pub accepted : OfFollowed old (λ history.
      first_refusal (language_of old.handed) history command ≡ None)
  pub follows : OfFollowed old (λ history. Follows new (command ∷ history))
  pub answer : OfFollowed old (λ history. out'
      ≡ out ++ accepted_text (language_of old.handed) history (old.count + 1) command)
  pub counted : new.count ≡ old.count + 1
  pub handed : new.handed ≡ old.handed
  pub places : OfFollowed old (λ history. ArePlaces old history command out answered)

-- the command is refused for this: the engine follows what it followed, and nothing was written
pub record Refuses (old : EngineState) (command : Command) (out : List ℕ) (why : Refusal)
    (new : EngineState) (out' : List ℕ) : Type 0 where
  pub refused : OfFollowed old (λ history.
      first_refusal (language_of old.handed) history command ≡ Some why)
  pub follows : OfFollowed old (Follows new)
  pub counted : new.count ≡ old.count + 1
  pub handed : new.handed ≡ old.handed
  pub unwritten : out' ≡ out

-- the command is given up for want of memory: the engine follows what it followed, the command is
-- not counted, and what was written before it stands in front
pub record GivesUp (old : EngineState) (out : List ℕ) (new : EngineState) (out' : List ℕ)
    : Type 0 where
  pub follows : OfFollowed old (Follows new)
  pub uncounted : new.count ≡ old.count
  pub handed : new.handed ≡ old.handed
  pub front : StartsWith out' out

-- what each answer says
abbrev pub Applies : EngineState → Command → List ℕ → Result Answered ApplyError → EngineState
    → List ℕ → Type 0
Applies old command out (Ok answered) new out' = Accepts old command out answered new out'
Applies old command out (Err (Refused why)) new out' = Refuses old command out why new out'
Applies old command out (Err OutOfMemory) new out' = GivesUp old out new out'

-- each pair of the cache was there, with the file that it was, or tells the rows of now
abbrev pub KeepsCache : EngineState → EngineState → Type 0
KeepsCache old new = KeepsPairs old.handed.relations old.table old.cache new.table new.cache
