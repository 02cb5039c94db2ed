-- What a command says by its first word, and that it is proper.
use Rattle.std.proofs.Common.{◌≡◌, ◌∙◌, ap, sym, subst, refl, Bool, true, false, List, ℕ}
use Rattle.std.specs.Prelude.{Result, Ok, Err, Option, Some, None, IfOk, option_map, unwrap_or, if◌then◌else◌}
use Rattle.std.specs.Option.{option_and_then}
use Rattle.std.specs.declared.alloc.AllocError.{AllocError}
use Rattle.ncq_base.specs.declared.limit.Limit.TheVariants.{Line}
use Rattle.ncq_script.specs.Forms.{SourceWords, source_form}
use Rattle.ncq_script.specs.Proper.{IsProperCommand}
use Rattle.ncq_script.specs.Reads.{declare_of, form_of, or_refused, read, rule_of}
use Rattle.ncq_script.specs.declared.command.Command.{Command}
use Rattle.ncq_script.specs.declared.command.Command.TheVariants.{Declare, Report, Malformed}
use Rattle.ncq_script.specs.declared.command_lines.CommandLines.{CommandLines}
use Rattle.ncq_script.specs.declared.refusal.Refusal.TheVariants as refusal
use Rattle.ncq_script.specs.declared.word.Keyword.{Keyword}

-- lines none of which is long say what the form of their first word says
pub read_as : (word : Keyword) (lines : CommandLines) → lines.long ≡ false → lines.keyword ≡ word → form_of word lines ≡ read lines
read_as word lines short is =
    sym (ap (λ (long : Bool). if long then Malformed (refusal.Limit Line) else form_of lines.keyword lines) short ∙ ap (λ (k : Keyword). form_of k lines) is)

pub said_as : (word : Keyword) (lines : CommandLines) (result : Result Command AllocError) → lines.long ≡ false → lines.keyword ≡ word → IfOk result (λ command. command ≡ form_of word lines) → IfOk result (λ command. command ≡ read lines)
said_as word lines result short is said =
    subst (λ (form : Command). IfOk result (λ command. command ≡ form)) (read_as word lines short is) said

pub refused_else : (o : Option Command) → unwrap_or o (Malformed refusal.Command) ≡ or_refused o
refused_else None = refl
refused_else (Some command) = refl

-- a form whose commands are proper, or a refusal
pub form_proper : {A : Type 0} (f : A → Command) → ((a : A) → IsProperCommand (f a)) → (o : Option A) → IsProperCommand (or_refused (option_map f o))
form_proper f proper None = tt
form_proper f proper (Some a) = proper a

-- the command that a source's form makes
abbrev declared : SourceWords → Option Command
declared form = option_map (λ key. Declare form.name form.root key) (rule_of form.rule)

declared_proper : (o : Option SourceWords) → IsProperCommand (or_refused (option_and_then declared o))
declared_proper None = tt
declared_proper (Some form) = form_proper (λ key. Declare form.name form.root key) (λ key. tt) (rule_of form.rule)

pub declare_proper : (line_words : List (List ℕ)) → IsProperCommand (or_refused (declare_of line_words))
declare_proper line_words = declared_proper (source_form line_words)

pub report_proper : (one : Bool) → IsProperCommand (if one then Report else Malformed refusal.Command)
report_proper true = tt
report_proper false = tt

pub said_proper : (result : Result Command AllocError) (form : Command) → IsProperCommand form → IfOk result (λ command. command ≡ form) → IfOk result (λ command. IsProperCommand command)
said_proper (Ok command) form proper is = subst (λ (x : Command). IsProperCommand x) (sym is) proper
said_proper (Err why) form proper is = tt
