-- What is written for commands: the answer of each in turn.
use Rattle.std.specs.Prelude.{ℕ, ◌+◌, Bool, true, false, not, nat_lt, List, []}
use Rattle.std.specs.Prelude.{◌∷◌, ◌++◌, codes, Option, Some, None, decimal}
use Rattle.std.specs.Option.{is_some, is_none, option_and_then, option_map, option_or}
use Rattle.std.specs.List.{flat_map, filter, list_any}
use Rattle.ncq_callback.specs.declared.notice.Kind.{Kind}
use Rattle.ncq_callback.specs.declared.notice.Kind.TheVariants.{Print, Count, MailTo}
use Rattle.ncq_source.specs.Faults.{sections_fault}
use Rattle.ncq_source.specs.Sections.{Holding, Holdings}
use Rattle.ncq_source.specs.declared.change.ChangeError.{ChangeError}
use Rattle.ncq_source.specs.declared.change.ChangeError.TheVariants as change
use Rattle.ncq_source.specs.declared.change.Section.{Section}
use Rattle.ncq_xmlql.specs.declared.model.Statement.{Statement}
use Rattle.ncq_script.specs.Refusals.{refused_text}
use Rattle.ncq_script.specs.declared.refusal.Refusal.{Refusal}
use Rattle.ncq_script.specs.declared.refusal.Refusal.TheVariants as refusal
use Rattle.ncq_script.specs.declared.command.Command.{Command}
use Rattle.ncq_script.specs.declared.command.Command.TheVariants.{Declare, Delta, Batch}
use Rattle.ncq_script.specs.declared.command.Command.TheVariants.{Create, Delete}
use Rattle.ncq_script.specs.declared.command.Command.TheVariants.{Clock, Report, Malformed}
use Rattle.ncq_event.specs.Instants.{is_past, is_expired}
use Rattle.ncq_engine.specs.History.{History, Source, now, sources, source_in}
use Rattle.ncq_engine.specs.History.{start_of, timing_of, is_named, live}
use Rattle.ncq_engine.specs.Notices.{Language, kind_in, notice_at, firings_in_order}
use Rattle.ncq_engine.specs.Reports.{summary}
use Rattle.ncq_report.specs.Texts.{report_text}

abbrev pub refused_if : Bool → Refusal → Option Refusal
refused_if true why = Some why
refused_if false why = None

-- what stands for a command that nothing refuses, and the first value for one that is refused
abbrev pub unless_refused : {A : Type 0} → A → Option Refusal → A → A
unless_refused none None value = value
unless_refused none (Some why) value = none

-- the refusal of a change that cannot be made; none where memory ran out
abbrev pub change_refusal : ChangeError → Option Refusal
change_refusal change.NoSource = Some refusal.NoSource
change_refusal (change.BadKey position) = Some (refusal.Key position)
change_refusal (change.NoSuchKey position) = Some (refusal.NoKey position)
change_refusal change.OutOfMemory = None

-- what sections are tried on: the declared sources by their names
abbrev pub holding_in : Source → Holding
holding_in source = record { rule = source.key; elements = source.elements }

abbrev pub holdings_in : List Source → Holdings
holdings_in sources name = option_map holding_in (source_in name sources)

-- the refusal of a change of these sections: one of them names no source, else the first item that
-- cannot be applied decides
abbrev pub sections_refusal : List Section → Holdings → Option Refusal
sections_refusal changed holdings =
    option_and_then change_refusal (sections_fault holdings changed)

-- whether the kind is at odds with the argument: `mailto` needs one, `print` and `count` have none
abbrev pub is_at_odds : Option Kind → Option (List ℕ) → Bool
is_at_odds None argument = true
is_at_odds (Some Print) argument = is_some argument
is_at_odds (Some Count) argument = is_some argument
is_at_odds (Some MailTo) argument = is_none argument

-- whether the expiry is below the start, which is never below now
abbrev pub ends_early : Statement → ℕ → Bool
ends_early statement now = is_past statement.expire (start_of statement.start now)

-- whether a live subscription has the name
abbrev pub is_taken : List ℕ → History → Bool
is_taken name history = list_any (is_named name) (live history)

-- the line that begins the answer to an accepted command
abbrev pub ok_text : ℕ → List ℕ
ok_text number = decimal number ++ codes " ok\n"

-- the line of a subscription of this name that expires
abbrev pub expired_line : List ℕ → List ℕ
expired_line name = codes "expired " ++ name ++ codes "\n"

-- the lines of the subscriptions that a command ends by their expiry, in the order of their install
-- numbers
abbrev pub expired_text : Command → History → List ℕ
expired_text (Clock instant) history
    = flat_map (λ s. expired_line s.statement.name)
    (filter (λ s. is_expired (timing_of s) instant) (live history))
expired_text command history = []

-- the history with an accepted command; a refused one changes nothing
abbrev pub with_accepted : History → Command → Option Refusal → History
with_accepted history command None = command ∷ history
with_accepted history command (Some why) = history

module _ (language : Language) where
  -- the first refusal of a command after a history
  abbrev pub first_refusal : History → Command → Option Refusal
  first_refusal history (Declare name root key)
      = refused_if (is_some (source_in name (sources history))) refusal.SourceExists
  first_refusal history (Delta changed) = sections_refusal changed (holdings_in (sources history))
  first_refusal history (Batch changed) = sections_refusal changed (holdings_in (sources history))
  first_refusal history (Create statement) =
      option_or (refused_if (is_taken statement.name history) refusal.NameTaken)
      (option_or (language.binding statement.query (sources history))
      (option_or (refused_if (is_at_odds
      (kind_in statement.action language.handlers) statement.argument) refusal.Action)
      (refused_if (ends_early statement (now history)) refusal.Times)))
  first_refusal history (Delete name) = refused_if (not (is_taken name history)) refusal.NoName
  first_refusal history (Clock instant) = refused_if (nat_lt instant (now history)) refusal.Clock
  first_refusal history Report = None
  first_refusal history (Malformed why) = Some why

  -- the notices of a command, by instant and then by install number
  abbrev pub notices : History → Command → List ℕ
  notices history command =
      flat_map (notice_at language history command) (firings_in_order history command)

  -- what stands behind the notices: the lines of those that a move of the clock ends, or the report
  abbrev pub closing_text : Command → History → List ℕ
  closing_text (Clock instant) history = expired_text (Clock instant) history
  closing_text Report history = report_text (summary language history)
  closing_text command history = []

  -- the answer to an accepted command with this number
  abbrev pub accepted_text : History → ℕ → Command → List ℕ
  accepted_text history number command =
      ok_text number ++ notices history command ++ closing_text command history

  abbrev pub answered : History → ℕ → Command → Option Refusal → List ℕ
  answered history number command None = accepted_text history number command
  answered history number command (Some why) = refused_text number why

  -- the answer to the command with this number
  unfoldable pub output : History → ℕ → Command → List ℕ
  output history number command = answered history number command (first_refusal history command)

  -- the history after a command: a refused one changes nothing
  unfoldable pub after : History → Command → History
  after history command = with_accepted history command (first_refusal history command)

  -- the answers to commands, the first with this number
  abbrev pub out_of : History → ℕ → List Command → List ℕ
  out_of history number [] = []
  out_of history number (command ∷ more) = output history number command
      ++ out_of (after history command) (number + 1) more

  -- the history after commands
  abbrev pub history_of : History → List Command → History
  history_of history [] = history
  history_of history (command ∷ more) = history_of (after history command) more
