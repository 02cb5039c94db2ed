-- A history is the list of the accepted commands, the newest first; and what stands after it.
use Rattle.std.specs.Prelude.{ℕ, ◌+◌, max, Bool, true, false, not, nat_le, if◌then◌else◌, List, []}
use Rattle.std.specs.Prelude.{◌∷◌, ◌++◌, map, Option, Some, None}
use Rattle.std.specs.Option.{is_some}
use Rattle.std.specs.FinMap.{empty, entries}
use Rattle.std.specs.List.{filter}
use Rattle.ncq_base.specs.Keys.{times}
use Rattle.std.specs.Str.{bytes_eq}
use Rattle.ncq_tree.specs.declared.model.Element.{Element}
use Rattle.ncq_source.specs.declared.key.Key.{Key}
use Rattle.ncq_pyx.specs.declared.item.Item.{Item}
use Rattle.ncq_source.specs.Held.{Kept}
use Rattle.ncq_source.specs.Changes.{store_after}
use Rattle.ncq_source.specs.Sections as sections
use Rattle.ncq_source.specs.declared.change.Section.{Section}
use Rattle.ncq_xmlql.specs.declared.model.Statement.{Statement}
use Rattle.ncq_script.specs.declared.command.Command.{Command}
use Rattle.ncq_script.specs.declared.command.Command.TheVariants.{Declare, Delta, Batch}
use Rattle.ncq_script.specs.declared.command.Command.TheVariants.{Create, Delete, Clock}
use Rattle.ncq_plan.specs.Exprs.{World}
use Rattle.ncq_event.specs.declared.timing.Timing.{Timing}
use Rattle.ncq_event.specs.Instants.{is_expired}

abbrev pub History : Type 0
History = List Command

-- the instant behind a command that comes at this one
abbrev pub moved : Command → ℕ → ℕ
moved (Clock instant) now = instant
moved command now = now

-- the instant of the last clock command, or 0
abbrev pub now : History → ℕ
now [] = 0
now (command ∷ before) = moved command (now before)

-- what a change asks of the sources: a delta is a batch of one section
abbrev pub sections_of : Command → Option (List Section)
sections_of (Delta sections) = Some sections
sections_of (Batch sections) = Some sections
sections_of command = None

-- whether it is a change: a delta or a batch
abbrev pub is_delta : Command → Bool
is_delta command = is_some (sections_of command)

abbrev pub is_create : Command → Bool
is_create (Create statement) = true
is_create command = false

-- how many deltas and batches were accepted
abbrev pub changes : History → ℕ
changes history = times is_delta history

-- how many creates were accepted
abbrev pub creates : History → ℕ
creates history = times is_create history

-- whether the sections of a change name the source
abbrev pub name_it : List ℕ → Option (List Section) → Bool
name_it name None = false
name_it name (Some changed) = sections.is_named name changed

abbrev pub is_delta_of : List ℕ → Command → Bool
is_delta_of name command = name_it name (sections_of command)

-- the number of the last change of the source of this name, 0 where it never changed
abbrev pub last_change : List ℕ → History → ℕ
last_change name [] = 0
last_change name (command ∷ before) = if is_delta_of name command then changes (command ∷ before)
    else last_change name before

-- a declared source, with its elements by their keys
pub record Source : Type 0 where
  pub name : List ℕ
  pub root : List ℕ
  pub key : Key
  pub elements : Kept

-- the source of this name with the items applied, one after the other
abbrev pub with_items : List ℕ → List Item → List Source → List Source
with_items name items [] = []
with_items name items (source ∷ more) =
    if bytes_eq name source.name
    then record source { elements = store_after source.key source.elements items } ∷ more
    else source ∷ with_items name items more

-- the sources with the sections applied, one after the other
abbrev pub with_sections : List Section → List Source → List Source
with_sections [] sources = sources
with_sections (section ∷ more) sources =
    with_sections more (with_items section.source section.items sources)

-- the sources behind a command
abbrev pub sources_after : Command → List Source → List Source
sources_after (Declare name root key) sources = sources
    ++ record { name = name; root = root; key = key; elements = empty } ∷ []
sources_after (Delta changed) sources = with_sections changed sources
sources_after (Batch changed) sources = with_sections changed sources
sources_after command sources = sources

-- the declared sources, in the order in which they were declared
abbrev pub sources : History → List Source
sources [] = []
sources (command ∷ before) = sources_after command (sources before)

-- the source of this name
abbrev pub source_in : List ℕ → List Source → Option Source
source_in name [] = None
source_in name (source ∷ more) = if bytes_eq name source.name then Some source
    else source_in name more

abbrev pub elements_of : Option Source → List Element
elements_of None = []
elements_of (Some source) = map (λ entry. entry.1) (entries source.elements)

-- for each name the elements of the source of this name, rising by key
abbrev pub world : List Source → World
world sources name = elements_of (source_in name sources)

-- the history up to its change of this number
abbrev pub up_to : ℕ → History → History
up_to number [] = []
up_to number (command ∷ before) = if nat_le (changes (command ∷ before)) number then command
    ∷ before else up_to number before

-- what an accepted create makes: its statement, its number among the accepted creates, and its
-- start
pub record Subscription : Type 0 where
  pub statement : Statement
  pub install : ℕ
  pub start : ℕ

-- the written start or now, whichever is later
abbrev pub start_of : Option ℕ → ℕ → ℕ
start_of None now = now
start_of (Some written) now = max written now

abbrev pub created : Statement → History → Subscription
created statement before = record {
  statement = statement;
  install = creates before + 1;
  start = start_of statement.start (now before);
}

abbrev pub timing_of : Subscription → Timing
timing_of s = record { start = s.start; every = s.statement.every; expire = s.statement.expire }

abbrev pub is_named : List ℕ → Subscription → Bool
is_named name s = bytes_eq name s.statement.name

-- the live subscriptions behind a command that comes after a history: a create adds its own, a
-- delete ends that of its name, and a move of the clock ends those whose expiry it passes
abbrev pub live_after : Command → History → List Subscription → List Subscription
live_after (Create statement) before live = live ++ created statement before ∷ []
live_after (Delete name) before live = filter (λ s. not (is_named name s)) live
live_after (Clock instant) before live = filter (λ s. not (is_expired (timing_of s) instant)) live
live_after command before live = live

-- the live subscriptions, in the order of their install numbers
abbrev pub live : History → List Subscription
live [] = []
live (command ∷ before) = live_after command before (live before)
