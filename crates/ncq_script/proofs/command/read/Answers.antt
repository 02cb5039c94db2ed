use Rattle.std.proofs.Common.{◌≡◌, ◌∙◌, ap, sym, subst, List, ℕ, nat_le, length}
use Rattle.std.specs.Prelude.{IfOk, option_map, unwrap_or, if◌then◌else◌}
use Rattle.ncq_script.specs.Forms.{one_argument}
use Rattle.ncq_script.specs.Proper.{IsProperCommand}
use Rattle.ncq_script.specs.Reads.{clock_of, declare_of, delta_form, or_refused}
use Rattle.ncq_script.specs.Words.{words}
use Rattle.ncq_script.specs.declared.command.Command.{Command}
use Rattle.ncq_script.specs.declared.command.Command.TheVariants.{Clock, Delete, Malformed, Report}
use Rattle.ncq_script.specs.declared.refusal.Refusal.TheVariants as refusal
use Rattle.ncq_script.specs.declared.word.Keyword.TheVariants as keyword
use Rattle.ncq_script.proofs.ReadLaws.{read_as, said_as, refused_else, form_proper, declare_proper, report_proper, said_proper}
use Rattle.ncq_script.proofs.command.read.Goals as goal

pub returns-in_ok-declare_of-in-Source-clause-said : goal.returns-in_ok-declare_of-in-Source-clause-said
returns-in_ok-declare_of-in-Source-clause-said c =
    c.unwrap_or.ensures ∙ (λ i. unwrap_or (c.in_ok-declare_of-in-Source.ensures i) (c.refused-in-Source.ensures i)) ∙ refused_else (declare_of (words c.as_slice-head.result.now)) ∙ ap (λ (head : List ℕ). or_refused (declare_of (words head))) c.as_slice-head.ensures ∙ read_as keyword.Source c.args.lines.now c.if-lines.false c.in-Source.is

pub returns-in_ok-declare_of-in-Source-clause-proper : goal.returns-in_ok-declare_of-in-Source-clause-proper
returns-in_ok-declare_of-in-Source-clause-proper c =
    let is : c.unwrap_or.result ≡ or_refused (declare_of (words c.as_slice-head.result.now)) =
    c.unwrap_or.ensures ∙ (λ i. unwrap_or (c.in_ok-declare_of-in-Source.ensures i) (c.refused-in-Source.ensures i)) ∙ refused_else (declare_of (words c.as_slice-head.result.now)) in
    subst (λ (command : Command). IsProperCommand command) (sym is) (declare_proper (words c.as_slice-head.result.now))

pub returns-in-Delta-clause-said : goal.returns-in-Delta-clause-said
returns-in-Delta-clause-said c =
    said_as keyword.Delta c.args.lines.now c.delta_form.result c.if-lines.false c.in-Delta.is
    (subst (λ (head : List ℕ). IfOk c.delta_form.result (λ command. command ≡ delta_form (one_argument (words head)) c.args.lines.now)) c.as_slice-head.ensures c.delta_form.ensures.said)

pub returns-in-Batch-clause-said : goal.returns-in-Batch-clause-said
returns-in-Batch-clause-said c = said_as keyword.Batch c.args.lines.now c.batch_form.result c.if-lines.false c.in-Batch.is c.batch_form.ensures.said

pub returns-in-Create-clause-said : goal.returns-in-Create-clause-said
returns-in-Create-clause-said c = said_as keyword.Create c.args.lines.now c.create_form.result c.if-lines.false c.in-Create.is c.create_form.ensures.said

pub returns-in-Delete-clause-said : goal.returns-in-Delete-clause-said
returns-in-Delete-clause-said c =
    said_as keyword.Delete c.args.lines.now c.delete_form.result c.if-lines.false c.in-Delete.is
    (subst (λ (head : List ℕ). IfOk c.delete_form.result (λ command. command ≡ or_refused (option_map Delete (one_argument (words head))))) c.as_slice-head.ensures c.delete_form.ensures)

pub returns-in-Delete-clause-proper : goal.returns-in-Delete-clause-proper
returns-in-Delete-clause-proper c =
    said_proper c.delete_form.result _ (form_proper Delete (λ name. tt) (one_argument (words c.as_slice-head.result.now))) c.delete_form.ensures

pub returns-in-Clock-clause-said : goal.returns-in-Clock-clause-said
returns-in-Clock-clause-said c =
    c.clock_form.ensures ∙ ap (λ (head : List ℕ). or_refused (clock_of (words head))) c.as_slice-head.ensures ∙ read_as keyword.Clock c.args.lines.now c.if-lines.false c.in-Clock.is

pub returns-in-Clock-clause-proper : goal.returns-in-Clock-clause-proper
returns-in-Clock-clause-proper c =
    subst (λ (command : Command). IsProperCommand command) (sym c.clock_form.ensures) (form_proper Clock (λ instant. tt) _)

pub returns-in-Report-clause-said : goal.returns-in-Report-clause-said
returns-in-Report-clause-said c =
    c.report_form.ensures ∙ ap (λ (head : List ℕ). if nat_le (length (words head)) 1 then Report else Malformed refusal.Command) c.as_slice-head.ensures ∙ read_as keyword.Report c.args.lines.now c.if-lines.false c.in-Report.is

pub returns-in-Report-clause-proper : goal.returns-in-Report-clause-proper
returns-in-Report-clause-proper c =
    subst (λ (command : Command). IsProperCommand command) (sym c.report_form.ensures) (report_proper (nat_le (length (words c.as_slice-head.result.now)) 1))

pub returns-in-Unknown-clause-said : goal.returns-in-Unknown-clause-said
returns-in-Unknown-clause-said c =
    c.refused-in-Unknown.ensures ∙ read_as keyword.Unknown c.args.lines.now c.if-lines.false c.in-Unknown.is
