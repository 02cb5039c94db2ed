-- What the lines of a command say, or the first refusal of reading.
use Rattle.std.specs.Prelude.{◌==◌, ℕ, Bool, List, [], ◌∷◌, Option, Some, None, Result, Ok, Err}
use Rattle.std.specs.Prelude.{if◌then◌else◌, nat_le, length, option_map}
use Rattle.std.specs.Option.{option_and_then}
use Rattle.ncq_base.specs.Names.{is_pyx_name}
use Rattle.ncq_base.specs.Numbers.{read_u64}
use Rattle.ncq_base.specs.declared.limit.Limit.TheVariants.{Line, Nesting}
use Rattle.ncq_pyx.specs.Faults.{block_of, max_nesting}
use Rattle.ncq_pyx.specs.declared.item.Item.{Item}
use Rattle.ncq_pyx.specs.declared.error.PyxError.{PyxError}
use Rattle.ncq_pyx.specs.declared.error.PyxError.TheVariants.{BadLine, TooDeep, OutOfMemory}
use Rattle.ncq_source.specs.declared.key.Key.{Key}
use Rattle.ncq_xmlql.specs.Answered.{statement_of}
use Rattle.ncq_xmlql.specs.declared.model.Statement.{Statement}
use Rattle.ncq_xmlql.specs.declared.statement.StatementError.{StatementError}
use Rattle.ncq_xmlql.specs.declared.statement.StatementError.TheVariants.{NotAStatement, Limit}
use Rattle.ncq_xmlql.specs.declared.statement.StatementError.TheVariants as statement_error
use Rattle.ncq_source.specs.declared.key.Key.TheVariants.{Child, Attribute}
use Rattle.ncq_source.specs.declared.change.Section.{Section}
use Rattle.ncq_script.specs.Batches.{batch_of}
use Rattle.ncq_script.specs.Words.{words}
use Rattle.ncq_script.specs.Forms.{source_form, one_argument, statement_text}
use Rattle.ncq_script.specs.declared.command_lines.CommandLines.{CommandLines}
use Rattle.ncq_script.specs.declared.word.Keyword.{Keyword}
use Rattle.ncq_script.specs.declared.word.Keyword.TheVariants as keyword
use Rattle.ncq_script.specs.declared.command.Command.{Command}
use Rattle.ncq_script.specs.declared.command.Command.TheVariants.{Declare, Delta, Batch, Create}
use Rattle.ncq_script.specs.declared.command.Command.TheVariants.{Delete, Clock, Report, Malformed}
use Rattle.ncq_script.specs.declared.refusal.Refusal.TheVariants as refusal

-- the key rule that a word writes: `@<attribute>` or `<tag>`
abbrev pub rule_of : List ℕ → Option Key
rule_of [] = None
rule_of (b ∷ name) =
    if b == 64
    then (if is_pyx_name name then Some (Attribute name) else None)
    else (if is_pyx_name (b ∷ name) then Some (Child (b ∷ name)) else None)

-- `source <name> root <tag> key <rule>`
abbrev pub declare_of : List (List ℕ) → Option Command
declare_of line_words = option_and_then
    (λ form. option_map (λ key. Declare form.name form.root key) (rule_of form.rule))
    (source_form line_words)

-- `clock <n>`
abbrev pub clock_of : List (List ℕ) → Option Command
clock_of line_words = option_map Clock (option_and_then read_u64 (one_argument line_words))

-- the command, or that its line has not the form
abbrev pub or_refused : Option Command → Command
or_refused None = Malformed refusal.Command
or_refused (Some command) = command

-- the command, or that its block has no end
abbrev pub if_closed : Bool → Command → Command
if_closed closed command = if closed then command else Malformed refusal.Unfinished

-- a delta of what its block says, as the one section of its source; a block never says that memory
-- ran out
abbrev pub delta_of : List ℕ → Result (List Item) PyxError → Command
delta_of source (Ok items) = Delta (record { source = source; items = items } ∷ [])
delta_of source (Err (BadLine line)) = Malformed (refusal.Pyx line)
delta_of source (Err (TooDeep line)) = Malformed (refusal.Limit Nesting)
delta_of source (Err OutOfMemory) = Malformed refusal.Command

-- `delta <source>` with its block
abbrev pub delta_form : Option (List ℕ) → CommandLines → Command
delta_form None lines = Malformed refusal.Command
delta_form (Some source) lines
    = if_closed lines.closed (delta_of source (block_of max_nesting lines.block))

-- a batch of what its block says; a block never says that memory ran out
abbrev pub batch_said : Result (List Section) PyxError → Command
batch_said (Ok sections) = Batch sections
batch_said (Err (BadLine line)) = Malformed (refusal.Pyx line)
batch_said (Err (TooDeep line)) = Malformed (refusal.Limit Nesting)
batch_said (Err OutOfMemory) = Malformed refusal.Command

-- `batch` with its block
abbrev pub batch_form : CommandLines → Command
batch_form lines =
    if nat_le (length (words lines.head)) 1
    then if_closed lines.closed (batch_said (batch_of max_nesting lines.block))
    else Malformed refusal.Command

-- a create of what its text says, or why it says nothing; a text never says that memory ran out
abbrev pub create_of : Result Statement StatementError → Command
create_of (Ok statement) = Create statement
create_of (Err NotAStatement) = Malformed refusal.Query
create_of (Err (Limit which)) = Malformed (refusal.Limit which)
create_of (Err statement_error.OutOfMemory) = Malformed refusal.Query

-- the command of lines none of which is long
abbrev pub form_of : Keyword → CommandLines → Command
form_of keyword.Source lines = or_refused (declare_of (words lines.head))
form_of keyword.Delta lines = delta_form (one_argument (words lines.head)) lines
form_of keyword.Batch lines = batch_form lines
form_of keyword.Create lines = if_closed lines.closed
    (create_of (statement_of (statement_text lines)))
form_of keyword.Delete lines = or_refused (option_map Delete (one_argument (words lines.head)))
form_of keyword.Clock lines = or_refused (clock_of (words lines.head))
form_of keyword.Report lines = if nat_le (length (words lines.head)) 1 then Report
    else Malformed refusal.Command
form_of keyword.Unknown lines = Malformed refusal.Command

-- what the lines of a command say, or the first refusal of reading
abbrev pub read : CommandLines → Command
read lines = if lines.long then Malformed (refusal.Limit Line) else form_of lines.keyword lines
