-- When a subscription fires, and its mark.
use Rattle.std.specs.Prelude.{ℕ, ◌+◌, Bool, true, ◌==◌, ◌&&◌, nat_le, nat_lt, if◌then◌else◌}
use Rattle.std.specs.Prelude.{List, [], ◌∷◌, Option, Some, None}
use Rattle.std.specs.List.{flat_map, list_any}
use Rattle.ncq_xmlql.specs.declared.model.QueryItem.{QueryItem}
use Rattle.ncq_xmlql.specs.declared.model.QueryItem.TheVariants.{Match, Condition, Satisfies}
use Rattle.ncq_xmlql.specs.declared.model.Statement.{Statement}
use Rattle.ncq_script.specs.declared.command.Command.{Command}
use Rattle.ncq_script.specs.declared.command.Command.TheVariants.{Delta, Batch, Create}
use Rattle.ncq_script.specs.declared.command.Command.TheVariants.{Clock}
use Rattle.ncq_event.specs.Instants.{due}
use Rattle.ncq_source.specs.Sections.{is_named}
use Rattle.ncq_source.specs.declared.change.Section.{Section}
use Rattle.ncq_engine.specs.History.{History, now, changes, creates, last_change, Subscription}
use Rattle.ncq_engine.specs.History.{timing_of}

abbrev pub source_of : QueryItem → List (List ℕ)
source_of (Match root arms source) = source ∷ []
source_of (Condition left op right) = []
source_of (Satisfies variable predicate argument) = []

-- the sources that a statement asks
abbrev pub sources_of : Statement → List (List ℕ)
sources_of statement = flat_map source_of statement.query.items

-- whether its create was accepted, and whether it comes now
abbrev pub is_installed : Subscription → History → Bool
is_installed s before = nat_le s.install (creates before)

abbrev pub is_new : Subscription → History → Bool
is_new s before = s.install == creates before + 1

-- whether a subscription with this mark has not fired yet, or one of its sources has changed since
abbrev pub has_news : Option ℕ → Statement → History → Bool
has_news None statement before = true
has_news (Some number) statement before
    = list_any (λ source. nat_lt number (last_change source before)) (sources_of statement)

-- whether one of the sources is named by the sections
abbrev pub are_named : List Section → List (List ℕ) → Bool
are_named changed sources = list_any (λ source. is_named source changed) sources

-- whether it is change-based, about a source that the sections name, and has started
abbrev pub is_told_of : List Section → Subscription → History → Bool
is_told_of changed s before = s.statement.every == 0
    && are_named changed (sources_of s.statement) && nat_le s.start (now before)

-- the instant at which a live subscription with this mark fires, where the command is accepted
-- after the history: at its create where its start is now; at a delta of one of its sources where
-- it is change-based and has started; and at a move of the clock where it is due, and has not fired
-- yet or has news
abbrev pub fires_at : Option ℕ → Subscription → History → Command → Option ℕ
fires_at mark s before (Create statement) = if is_new s before
    && s.start == now before then Some (now before) else None
fires_at mark s before (Delta changed) = if is_installed s before
    && is_told_of changed s before then Some (now before) else None
fires_at mark s before (Batch changed) = if is_installed s before
    && is_told_of changed s before then Some (now before) else None
fires_at mark s before (Clock instant) = if is_installed s before
    && has_news mark s.statement before then due (timing_of s) (now before) instant else None
fires_at mark s before command = None

abbrev pub marked : Option ℕ → ℕ → Option ℕ → Option ℕ
marked None number mark = mark
marked (Some instant) number mark = Some number

-- the number of changes at its latest firing, or none
abbrev pub mark : Subscription → History → Option ℕ
mark s [] = None
mark s (command ∷ before) = marked (fires_at (mark s before) s before command)
    (changes (command ∷ before)) (mark s before)

abbrev pub fires : Subscription → History → Command → Option ℕ
fires s before command = fires_at (mark s before) s before command
