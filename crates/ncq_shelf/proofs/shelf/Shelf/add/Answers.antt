use Rattle.std.proofs.Common.{◌≡◌, cond, Some, refl, sym, ap, ◌∙◌, subst}
use Rattle.std.specs.Map.{lookup}
use Rattle.std.specs.FinMap.{insert}
use Rattle.ncq_plan.specs.declared.expr.Expr.{Expr}
use Rattle.ncq_plan.specs.ExprLists.{is_expr}
use Rattle.ncq_shelf.specs.declared.file.File.{File}
use Rattle.ncq_shelf.specs.declared.rows.Rows.TheVariants.{Whole}
use Rattle.ncq_shelf.proofs.Added.{nothing_yet}
use Rattle.ncq_shelf.proofs.Admitted.{shown_refused, kept_refused, shown_admitted, kept_admitted, unread_now}
use Rattle.ncq_shelf.proofs.Others.{one_each}
use Rattle.ncq_shelf.proofs.Turns.{any_err}
use Rattle.ncq_shelf.proofs.shelf.Shelf.add.Goals as goal

pub admit-requires-clause-one : goal.admit-requires-clause-one
admit-requires-clause-one c = one_each c.self.inside.groups.entries c.self.inside.files.entries c.self.inside.numbers.entries c.self.invariant.shelved.indexed

pub admit-requires-clause-unread : goal.admit-requires-clause-unread
admit-requires-clause-unread c = unread_now c.self.inside.groups.entries c.self.inside.files.entries c.args.self.now c.self.view_is c.self.inside.numbers.entries c.self.inside.scans.entries c.self.inside.keys c.self.invariant c.args.number c.args.expr.now c.requires.absent c.requires.new

pub invariant_of-self : goal.invariant_of-self
invariant_of-self c =
    kept_refused c.self.inside.groups.entries c.self.inside.files.entries c.args.self.now c.self.view_is c.self.inside.numbers.entries c.self.inside.scans.entries c.self.inside.keys c.self.invariant
    c.admit.new.numbers.entries c.admit.ensures.numbers c.admit.new.keys c.admit.ensures.grows c.admit.new.files.entries c.in_err-key.ensures.alike c.admit.new.scans.entries c.in_err-key.ensures.scans

pub returns-in_err-key-clause-err : goal.returns-in_err-key-clause-err
returns-in_err-key-clause-err c =
    any_err _ (shown_refused c.self.inside.groups.entries c.self.inside.files.entries c.args.self.now c.self.view_is c.admit.new.files.entries c.in_err-key.ensures.alike)

pub invariant_of-self-2 : goal.invariant_of-self-2
invariant_of-self-2 c =
    let file : File = record { expr = c.in_ok-key.copy; uses = 0; content = Whole c.args.content; inputs = c.args.inputs; readers = c.new.result; rows_lost = 0 } in
    let known : (q : Expr) → lookup (is_expr q) c.put_file.new.numbers.entries ≡ cond (is_expr file.expr q) (Some c.args.number) (lookup (is_expr q) c.admit.new.numbers.entries) =
    λ q. c.put_file.ensures.numbers q ∙ (λ i. cond (is_expr ((c.in_ok-key.ensures.copies.0 ∙ sym c.in_ok-key.ensures.copies.1) i) q) (Some c.args.number) (lookup (is_expr q) c.admit.new.numbers.entries)) in
    kept_admitted c.self.inside.groups.entries c.self.inside.files.entries c.args.self.now c.self.view_is c.self.inside.numbers.entries c.self.inside.scans.entries c.self.inside.keys c.self.invariant
    c.admit.new.numbers.entries c.admit.ensures.numbers c.admit.new.keys c.admit.ensures.grows
    c.args.number c.args.expr.now c.requires.absent c.requires.new c.args.inputs c.requires.inputs c.requires.own c.in_ok-key.ensures.found
    file c.in_ok-key.ensures.copies.1 refl refl (nothing_yet c.self.inside.groups.entries c.new.result c.new.ensures)
    c.admit.new.files.entries c.in_ok-key.ensures.known c.put_file.new.files.entries c.put_file.ensures.files c.put_file.new.numbers.entries known c.admit.new.scans.entries c.in_ok-key.ensures.scan

pub returns-clause-ok : goal.returns-clause-ok
returns-clause-ok c =
    let file : File = record { expr = c.in_ok-key.copy; uses = 0; content = Whole c.args.content; inputs = c.args.inputs; readers = c.new.result; rows_lost = 0 } in
    shown_admitted c.self.inside.groups.entries c.self.inside.files.entries c.args.self.now c.self.view_is c.args.expr.now c.args.number c.admit.new.files.entries c.in_ok-key.ensures.known file c.put_file.new.files.entries c.put_file.ensures.files
    ∙ (λ i. insert c.args.self.now c.args.number (record { expr = c.in_ok-key.ensures.copies.1 i; uses = 0; content = c.args.content }))
