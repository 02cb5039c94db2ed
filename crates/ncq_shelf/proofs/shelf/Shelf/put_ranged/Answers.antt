use Rattle.std.proofs.Common.{◌≡◌, ◌≤◌, [], cond, Some, refl, sym, ap, ◌∙◌, subst}
use Rattle.std.specs.Map.{lookup}
use Rattle.std.specs.FinMap.{get}
use Rattle.ncq_plan.specs.declared.expr.Expr.{Expr}
use Rattle.ncq_plan.specs.ExprLists.{is_expr}
use Rattle.ncq_midfile.specs.Content.{IsSoundAt}
use Rattle.ncq_midfile.specs.Files.{FileState}
use Rattle.ncq_shelf.specs.Contents.{Fits}
use Rattle.ncq_shelf.specs.Inputs.{AreInputs}
use Rattle.ncq_shelf.specs.Shown.{shown, state_of}
use Rattle.ncq_shelf.specs.Stands.{Stands}
use Rattle.ncq_shelf.specs.declared.file.File.{File}
use Rattle.ncq_shelf.specs.declared.group.Group.{Group}
use Rattle.ncq_shelf.specs.declared.inputs.Inputs.TheVariants.{One}
use Rattle.ncq_shelf.specs.declared.rows.Rows.TheVariants.{Ranged}
use Rattle.ncq_shelf.proofs.Added.{unread_yet, nothing_yet}
use Rattle.ncq_shelf.proofs.AnyGroups.{inputs_any}
use Rattle.ncq_shelf.proofs.Arrivals.{arrives, reads_one, input_there, inner_at, slots_below, costs, its_there, brings_them, have_numbers, are_behind, is_new, all_fit, seen_then, kept_then}
use Rattle.ncq_shelf.proofs.Installed.{kept_same, shown_failed, kept_failed}
use Rattle.ncq_shelf.proofs.Others.{one_each}
use Rattle.ncq_shelf.proofs.Turns.{any_err}
use Rattle.ncq_shelf.proofs.shelf.Shelf.put_ranged.Goals as goal

pub unreachable-requires-in_default-inputs : goal.unreachable-requires-in_default-inputs
unreachable-requires-in_default-inputs g c = reads_one c.args.self.now c.args.expr.now c.in-RangeSel.input c.in-RangeSel.slot c.in-RangeSel.interval c.in-RangeSel.is c.args.inputs c.requires.inputs (λ n e. c.in_default-inputs.not-One n e)

pub unreachable-requires-in_default-get : goal.unreachable-requires-in_default-get
unreachable-requires-in_default-get g c = input_there c.self.inside.groups.entries c.self.inside.files.entries c.args.self.now c.self.view_is c.args.expr.now c.in-RangeSel.input c.in-RangeSel.slot c.in-RangeSel.interval c.in-RangeSel.is c.args.inputs c.requires.inputs c.in-One.input c.in-One.is (sym c.in_default-get.ensures.value)

pub missing_at-requires-clause-base : goal.missing_at-requires-clause-base
missing_at-requires-clause-base g c =
    let gs = c.self.inside.groups.entries in
    let inner = c.in-Some.inner.now in
    subst (λ (s : FileState). s.base ≤ c.args.change) (sym c.view_of-view.ensures.shown)
    (c.requires.up_to c.in-One.input (state_of gs inner) (inner_at gs c.self.inside.files.entries c.args.self.now c.self.view_is c.args.expr.now c.in-RangeSel.input c.in-RangeSel.slot c.in-RangeSel.interval c.in-RangeSel.is c.args.inputs c.requires.inputs c.in-One.input c.in-One.is inner c.in-Some.ensures.value)).base

pub missing_at-requires-clause-sound : goal.missing_at-requires-clause-sound
missing_at-requires-clause-sound g c =
    let gs = c.self.inside.groups.entries in
    let inner = c.in-Some.inner.now in
    subst (λ (s : FileState). IsSoundAt c.args.change s.rows) (sym c.view_of-view.ensures.shown)
    (c.requires.sound c.in-One.input (state_of gs inner) (inner_at gs c.self.inside.files.entries c.args.self.now c.self.view_is c.args.expr.now c.in-RangeSel.input c.in-RangeSel.slot c.in-RangeSel.interval c.in-RangeSel.is c.args.inputs c.requires.inputs c.in-One.input c.in-One.is inner c.in-Some.ensures.value))

pub missing_at-requires-clause-slots : goal.missing_at-requires-clause-slots
missing_at-requires-clause-slots g c =
    slots_below c.self.inside.groups.entries c.self.inside.files.entries c.args.self.now c.self.view_is c.args.expr.now c.in-RangeSel.input c.in-RangeSel.slot c.in-RangeSel.interval c.in-RangeSel.is c.args.inputs c.requires.inputs c.in-One.input c.in-One.is c.in-Some.inner.now c.in-Some.ensures.value
    c.self.inside.numbers.entries c.self.inside.scans.entries c.self.inside.keys c.self.invariant c.requires.wide c.requires.formed c.view_of-view.result c.view_of-view.ensures.shown c.view_of-view.ensures.own c.view_of-view.ensures.below

pub returns-in_err-missing-clause-cost : goal.returns-in_err-missing-clause-cost
returns-in_err-missing-clause-cost g c =
    costs c.self.inside.groups.entries c.self.inside.files.entries c.args.self.now c.self.view_is c.args.expr.now c.in-RangeSel.input c.in-RangeSel.slot c.in-RangeSel.interval c.in-RangeSel.is c.args.inputs c.requires.inputs c.in-One.input c.in-One.is c.in-Some.inner.now c.in-Some.ensures.value
    c.self.inside.numbers.entries c.self.inside.scans.entries c.self.inside.keys c.self.invariant c.args.change _ c.view_of-view.ensures.shown c.args.steps.now c.missing_at.new.steps c.missing_at.ensures.cost

pub returns-in_err-key-clause-cost : goal.returns-in_err-key-clause-cost
returns-in_err-key-clause-cost g c =
    costs c.self.inside.groups.entries c.self.inside.files.entries c.args.self.now c.self.view_is c.args.expr.now c.in-RangeSel.input c.in-RangeSel.slot c.in-RangeSel.interval c.in-RangeSel.is c.args.inputs c.requires.inputs c.in-One.input c.in-One.is c.in-Some.inner.now c.in-Some.ensures.value
    c.self.inside.numbers.entries c.self.inside.scans.entries c.self.inside.keys c.self.invariant c.args.change _ c.view_of-view.ensures.shown c.args.steps.now c.missing_at.new.steps c.missing_at.ensures.cost

pub returns-in_err-install-clause-cost : goal.returns-in_err-install-clause-cost
returns-in_err-install-clause-cost g c =
    costs c.self.inside.groups.entries c.self.inside.files.entries c.args.self.now c.self.view_is c.args.expr.now c.in-RangeSel.input c.in-RangeSel.slot c.in-RangeSel.interval c.in-RangeSel.is c.args.inputs c.requires.inputs c.in-One.input c.in-One.is c.in-Some.inner.now c.in-Some.ensures.value
    c.self.inside.numbers.entries c.self.inside.scans.entries c.self.inside.keys c.self.invariant c.args.change _ c.view_of-view.ensures.shown c.args.steps.now c.missing_at.new.steps c.missing_at.ensures.cost

pub returns-clause-cost : goal.returns-clause-cost
returns-clause-cost g c =
    costs c.self.inside.groups.entries c.self.inside.files.entries c.args.self.now c.self.view_is c.args.expr.now c.in-RangeSel.input c.in-RangeSel.slot c.in-RangeSel.interval c.in-RangeSel.is c.args.inputs c.requires.inputs c.in-One.input c.in-One.is c.in-Some.inner.now c.in-Some.ensures.value
    c.self.inside.numbers.entries c.self.inside.scans.entries c.self.inside.keys c.self.invariant c.args.change _ c.view_of-view.ensures.shown c.args.steps.now c.missing_at.new.steps c.missing_at.ensures.cost

pub install-requires-clause-inputs : goal.install-requires-clause-inputs
install-requires-clause-inputs g c =
    inputs_any c.make_room.new.files.entries c.self.inside.groups.entries [] c.args.expr.now (One c.in-One.input) (subst (λ x. AreInputs x c.args.expr.now (One c.in-One.input)) (sym (ap (shown c.self.inside.groups.entries) c.make_room.ensures.files ∙ c.self.view_is)) (subst (AreInputs c.args.self.now c.args.expr.now) c.in-One.is c.requires.inputs))

pub install-requires-clause-one : goal.install-requires-clause-one
install-requires-clause-one g c =
    one_each c.self.inside.groups.entries c.make_room.new.files.entries c.make_room.new.numbers.entries (kept_same c.self.inside.groups.entries c.self.inside.files.entries c.make_room.new.files.entries c.self.inside.numbers.entries c.make_room.new.numbers.entries c.self.inside.scans.entries c.self.inside.keys c.make_room.ensures.files c.make_room.ensures.numbers c.self.invariant).shelved.indexed

pub install-requires-clause-unread : goal.install-requires-clause-unread
install-requires-clause-unread g c =
    unread_yet c.self.inside.groups.entries c.make_room.new.files.entries c.make_room.new.numbers.entries c.self.inside.scans.entries (kept_same c.self.inside.groups.entries c.self.inside.files.entries c.make_room.new.files.entries c.self.inside.numbers.entries c.make_room.new.numbers.entries c.self.inside.scans.entries c.self.inside.keys c.make_room.ensures.files c.make_room.ensures.numbers c.self.invariant).shelved c.args.number c.args.expr.now (ap (λ m. get m c.args.number) (ap (shown c.self.inside.groups.entries) c.make_room.ensures.files ∙ c.self.view_is) ∙ c.requires.absent) (λ n s. c.requires.new n (subst (λ m. Stands m c.args.expr.now n) (ap (shown c.self.inside.groups.entries) c.make_room.ensures.files ∙ c.self.view_is) s))

pub install-requires-clause-there : goal.install-requires-clause-there
install-requires-clause-there g c =
    let group : Group = record { input = c.in-One.input; slot = c.in-RangeSel.slot } in
    let a =
    arrives c.self.inside.groups.entries c.self.inside.files.entries c.self.inside.numbers.entries c.self.inside.scans.entries c.self.inside.keys c.self.invariant c.args.self.now c.self.view_is c.make_room.new.files.entries c.make_room.ensures.files c.make_room.new.numbers.entries c.make_room.ensures.numbers
    group c.args.expr.now c.in-RangeSel.input c.in-RangeSel.interval c.in-RangeSel.is c.args.inputs c.requires.inputs c.in-One.is c.in-Some.inner.now c.in-Some.ensures.value c.args.change c.in_ok-missing.missing _ c.view_of-view.ensures.shown c.in_ok-missing.ensures.rows in
    record { file = a.inner; at = a.at }

pub install-requires-clause-slot : goal.install-requires-clause-slot
install-requires-clause-slot g c =
    let group : Group = record { input = c.in-One.input; slot = c.in-RangeSel.slot } in
    λ held at. c.self.invariant.grouped.slots group held at

pub install-requires-clause-held : goal.install-requires-clause-held
install-requires-clause-held g c =
    let group : Group = record { input = c.in-One.input; slot = c.in-RangeSel.slot } in
    let a =
    arrives c.self.inside.groups.entries c.self.inside.files.entries c.self.inside.numbers.entries c.self.inside.scans.entries c.self.inside.keys c.self.invariant c.args.self.now c.self.view_is c.make_room.new.files.entries c.make_room.ensures.files c.make_room.new.numbers.entries c.make_room.ensures.numbers
    group c.args.expr.now c.in-RangeSel.input c.in-RangeSel.interval c.in-RangeSel.is c.args.inputs c.requires.inputs c.in-One.is c.in-Some.inner.now c.in-Some.ensures.value c.args.change c.in_ok-missing.missing _ c.view_of-view.ensures.shown c.in_ok-missing.ensures.rows in
    its_there c.self.inside.groups.entries c.make_room.new.files.entries c.make_room.new.numbers.entries c.self.inside.scans.entries c.self.inside.keys c.args.self.now group c.args.expr.now c.args.change c.in_ok-missing.missing a

pub install-requires-clause-brings : goal.install-requires-clause-brings
install-requires-clause-brings g c =
    let group : Group = record { input = c.in-One.input; slot = c.in-RangeSel.slot } in
    let a =
    arrives c.self.inside.groups.entries c.self.inside.files.entries c.self.inside.numbers.entries c.self.inside.scans.entries c.self.inside.keys c.self.invariant c.args.self.now c.self.view_is c.make_room.new.files.entries c.make_room.ensures.files c.make_room.new.numbers.entries c.make_room.ensures.numbers
    group c.args.expr.now c.in-RangeSel.input c.in-RangeSel.interval c.in-RangeSel.is c.args.inputs c.requires.inputs c.in-One.is c.in-Some.inner.now c.in-Some.ensures.value c.args.change c.in_ok-missing.missing _ c.view_of-view.ensures.shown c.in_ok-missing.ensures.rows in
    brings_them c.self.inside.groups.entries c.make_room.new.files.entries c.make_room.new.numbers.entries c.self.inside.scans.entries c.self.inside.keys c.args.self.now group c.args.expr.now c.args.change c.in_ok-missing.missing a

pub install-requires-clause-numbers : goal.install-requires-clause-numbers
install-requires-clause-numbers g c =
    let group : Group = record { input = c.in-One.input; slot = c.in-RangeSel.slot } in
    let a =
    arrives c.self.inside.groups.entries c.self.inside.files.entries c.self.inside.numbers.entries c.self.inside.scans.entries c.self.inside.keys c.self.invariant c.args.self.now c.self.view_is c.make_room.new.files.entries c.make_room.ensures.files c.make_room.new.numbers.entries c.make_room.ensures.numbers
    group c.args.expr.now c.in-RangeSel.input c.in-RangeSel.interval c.in-RangeSel.is c.args.inputs c.requires.inputs c.in-One.is c.in-Some.inner.now c.in-Some.ensures.value c.args.change c.in_ok-missing.missing _ c.view_of-view.ensures.shown c.in_ok-missing.ensures.rows in
    have_numbers c.self.inside.groups.entries c.make_room.new.files.entries c.make_room.new.numbers.entries c.self.inside.scans.entries c.self.inside.keys c.args.self.now group c.args.expr.now c.args.change c.in_ok-missing.missing a c.requires.wide c.requires.formed

pub install-requires-clause-rising : goal.install-requires-clause-rising
install-requires-clause-rising g c =
    let group : Group = record { input = c.in-One.input; slot = c.in-RangeSel.slot } in
    let a =
    arrives c.self.inside.groups.entries c.self.inside.files.entries c.self.inside.numbers.entries c.self.inside.scans.entries c.self.inside.keys c.self.invariant c.args.self.now c.self.view_is c.make_room.new.files.entries c.make_room.ensures.files c.make_room.new.numbers.entries c.make_room.ensures.numbers
    group c.args.expr.now c.in-RangeSel.input c.in-RangeSel.interval c.in-RangeSel.is c.args.inputs c.requires.inputs c.in-One.is c.in-Some.inner.now c.in-Some.ensures.value c.args.change c.in_ok-missing.missing _ c.view_of-view.ensures.shown c.in_ok-missing.ensures.rows in
    are_behind c.self.inside.groups.entries c.make_room.new.files.entries c.make_room.new.numbers.entries c.self.inside.scans.entries c.self.inside.keys c.args.self.now group c.args.expr.now c.args.change c.in_ok-missing.missing a c.requires.up_to

pub invariant_of-self-in_err-install : goal.invariant_of-self-in_err-install
invariant_of-self-in_err-install g c =
    let group : Group = record { input = c.in-One.input; slot = c.in-RangeSel.slot } in
    kept_failed c.self.inside.groups.entries c.make_room.new.files.entries c.make_room.new.numbers.entries c.self.inside.scans.entries c.self.inside.keys (kept_same c.self.inside.groups.entries c.self.inside.files.entries c.make_room.new.files.entries c.self.inside.numbers.entries c.make_room.new.numbers.entries c.self.inside.scans.entries c.self.inside.keys c.make_room.ensures.files c.make_room.ensures.numbers c.self.invariant) c.args.self.now (ap (shown c.self.inside.groups.entries) c.make_room.ensures.files ∙ c.self.view_is) group c.install.new.groups.entries c.in_err-install.ensures.err c.install.new.files.entries c.in_err-install.ensures.alike

pub returns-in_err-install-clause-err : goal.returns-in_err-install-clause-err
returns-in_err-install-clause-err g c =
    let group : Group = record { input = c.in-One.input; slot = c.in-RangeSel.slot } in
    any_err _ (shown_failed c.self.inside.groups.entries c.make_room.new.files.entries c.make_room.new.numbers.entries c.self.inside.scans.entries c.self.inside.keys (kept_same c.self.inside.groups.entries c.self.inside.files.entries c.make_room.new.files.entries c.self.inside.numbers.entries c.make_room.new.numbers.entries c.self.inside.scans.entries c.self.inside.keys c.make_room.ensures.files c.make_room.ensures.numbers c.self.invariant) c.args.self.now (ap (shown c.self.inside.groups.entries) c.make_room.ensures.files ∙ c.self.view_is) group c.install.new.groups.entries c.in_err-install.ensures.err c.install.new.files.entries c.in_err-install.ensures.alike)

pub invariant_of-self-2 : goal.invariant_of-self-2
invariant_of-self-2 g c =
    let group : Group = record { input = c.in-One.input; slot = c.in-RangeSel.slot } in
    let a =
    arrives c.self.inside.groups.entries c.self.inside.files.entries c.self.inside.numbers.entries c.self.inside.scans.entries c.self.inside.keys c.self.invariant c.args.self.now c.self.view_is c.make_room.new.files.entries c.make_room.ensures.files c.make_room.new.numbers.entries c.make_room.ensures.numbers
    group c.args.expr.now c.in-RangeSel.input c.in-RangeSel.interval c.in-RangeSel.is c.args.inputs c.requires.inputs c.in-One.is c.in-Some.inner.now c.in-Some.ensures.value c.args.change c.in_ok-missing.missing _ c.view_of-view.ensures.shown c.in_ok-missing.ensures.rows in
    let file : File = record { expr = c.in_ok-key.copy; uses = 0; content = Ranged group c.args.change; inputs = One c.in-One.input; readers = c.new.result; rows_lost = 0 } in
    let known : (q : Expr) → lookup (is_expr q) c.put_file.new.numbers.entries ≡ cond (is_expr file.expr q) (Some c.args.number) (lookup (is_expr q) c.make_room.new.numbers.entries) =
    λ q. c.put_file.ensures.numbers q ∙ (λ i. cond (is_expr ((c.in_ok-key.ensures.copies.0 ∙ sym c.in_ok-key.ensures.copies.1) i) q) (Some c.args.number) (lookup (is_expr q) c.make_room.new.numbers.entries)) in
    kept_then c.self.inside.groups.entries c.make_room.new.files.entries c.make_room.new.numbers.entries c.self.inside.scans.entries c.self.inside.keys c.args.self.now group c.args.expr.now c.args.change c.in_ok-missing.missing a c.install.new.groups.entries c.in_ok-install.ensures.ok file c.in_ok-key.ensures.copies.1 refl
    c.args.number c.requires.absent c.requires.new (subst (AreInputs c.args.self.now c.args.expr.now) c.in-One.is c.requires.inputs) refl (nothing_yet c.self.inside.groups.entries c.new.result c.new.ensures)
    c.install.new.files.entries c.in_ok-install.ensures.known c.put_file.new.files.entries c.put_file.ensures.files c.put_file.new.numbers.entries known

pub returns-clause-ok : goal.returns-clause-ok
returns-clause-ok g c =
    let group : Group = record { input = c.in-One.input; slot = c.in-RangeSel.slot } in
    let a =
    arrives c.self.inside.groups.entries c.self.inside.files.entries c.self.inside.numbers.entries c.self.inside.scans.entries c.self.inside.keys c.self.invariant c.args.self.now c.self.view_is c.make_room.new.files.entries c.make_room.ensures.files c.make_room.new.numbers.entries c.make_room.ensures.numbers
    group c.args.expr.now c.in-RangeSel.input c.in-RangeSel.interval c.in-RangeSel.is c.args.inputs c.requires.inputs c.in-One.is c.in-Some.inner.now c.in-Some.ensures.value c.args.change c.in_ok-missing.missing _ c.view_of-view.ensures.shown c.in_ok-missing.ensures.rows in
    let file : File = record { expr = c.in_ok-key.copy; uses = 0; content = Ranged group c.args.change; inputs = One c.in-One.input; readers = c.new.result; rows_lost = 0 } in
    let known : (q : Expr) → lookup (is_expr q) c.put_file.new.numbers.entries ≡ cond (is_expr file.expr q) (Some c.args.number) (lookup (is_expr q) c.make_room.new.numbers.entries) =
    λ q. c.put_file.ensures.numbers q ∙ (λ i. cond (is_expr ((c.in_ok-key.ensures.copies.0 ∙ sym c.in_ok-key.ensures.copies.1) i) q) (Some c.args.number) (lookup (is_expr q) c.make_room.new.numbers.entries)) in (
      state_of c.install.new.groups.entries file,
      seen_then c.self.inside.groups.entries c.make_room.new.files.entries c.make_room.new.numbers.entries c.self.inside.scans.entries c.self.inside.keys c.args.self.now group c.args.expr.now c.args.change c.in_ok-missing.missing a c.install.new.groups.entries c.in_ok-install.ensures.ok file c.in_ok-key.ensures.copies.1 refl
          c.args.number c.requires.absent c.requires.new (subst (AreInputs c.args.self.now c.args.expr.now) c.in-One.is c.requires.inputs) refl (nothing_yet c.self.inside.groups.entries c.new.result c.new.ensures)
          c.install.new.files.entries c.in_ok-install.ensures.known c.put_file.new.files.entries c.put_file.ensures.files c.put_file.new.numbers.entries known,
      is_new c.self.inside.groups.entries c.make_room.new.files.entries c.make_room.new.numbers.entries c.self.inside.scans.entries c.self.inside.keys c.args.self.now group c.args.expr.now c.args.change c.in_ok-missing.missing a c.install.new.groups.entries c.in_ok-install.ensures.ok file c.in_ok-key.ensures.copies.1 refl refl c.requires.wide c.requires.up_to,
    )

pub returns-clause-fits : goal.returns-clause-fits
returns-clause-fits g c =
    let group : Group = record { input = c.in-One.input; slot = c.in-RangeSel.slot } in
    let a =
    arrives c.self.inside.groups.entries c.self.inside.files.entries c.self.inside.numbers.entries c.self.inside.scans.entries c.self.inside.keys c.self.invariant c.args.self.now c.self.view_is c.make_room.new.files.entries c.make_room.ensures.files c.make_room.new.numbers.entries c.make_room.ensures.numbers
    group c.args.expr.now c.in-RangeSel.input c.in-RangeSel.interval c.in-RangeSel.is c.args.inputs c.requires.inputs c.in-One.is c.in-Some.inner.now c.in-Some.ensures.value c.args.change c.in_ok-missing.missing _ c.view_of-view.ensures.shown c.in_ok-missing.ensures.rows in
    let file : File = record { expr = c.in_ok-key.copy; uses = 0; content = Ranged group c.args.change; inputs = One c.in-One.input; readers = c.new.result; rows_lost = 0 } in
    let known : (q : Expr) → lookup (is_expr q) c.put_file.new.numbers.entries ≡ cond (is_expr file.expr q) (Some c.args.number) (lookup (is_expr q) c.make_room.new.numbers.entries) =
    λ q. c.put_file.ensures.numbers q ∙ (λ i. cond (is_expr ((c.in_ok-key.ensures.copies.0 ∙ sym c.in_ok-key.ensures.copies.1) i) q) (Some c.args.number) (lookup (is_expr q) c.make_room.new.numbers.entries)) in
    λ world fits. subst (Fits c.args.change world) (sym (seen_then c.self.inside.groups.entries c.make_room.new.files.entries c.make_room.new.numbers.entries c.self.inside.scans.entries c.self.inside.keys c.args.self.now group c.args.expr.now c.args.change c.in_ok-missing.missing a c.install.new.groups.entries c.in_ok-install.ensures.ok file c.in_ok-key.ensures.copies.1 refl
    c.args.number c.requires.absent c.requires.new (subst (AreInputs c.args.self.now c.args.expr.now) c.in-One.is c.requires.inputs) refl (nothing_yet c.self.inside.groups.entries c.new.result c.new.ensures)
    c.install.new.files.entries c.in_ok-install.ensures.known c.put_file.new.files.entries c.put_file.ensures.files c.put_file.new.numbers.entries known))
    (all_fit c.self.inside.groups.entries c.make_room.new.files.entries c.make_room.new.numbers.entries c.self.inside.scans.entries c.self.inside.keys c.args.self.now group c.args.expr.now c.args.change c.in_ok-missing.missing a c.install.new.groups.entries c.in_ok-install.ensures.ok file c.in_ok-key.ensures.copies.1 refl c.args.number world fits)

pub returns-in_err-key-clause-err : goal.returns-in_err-key-clause-err
returns-in_err-key-clause-err g c = any_err _ (ap (shown c.self.inside.groups.entries) c.make_room.ensures.files ∙ c.self.view_is)

pub make_room-requires-clause-inputs : goal.make_room-requires-clause-inputs
make_room-requires-clause-inputs g c =
    inputs_any c.self.inside.files.entries c.self.inside.groups.entries [] c.args.expr.now (One c.in-One.input)
    (subst (λ x. AreInputs x c.args.expr.now (One c.in-One.input)) (sym c.self.view_is) (subst (AreInputs c.args.self.now c.args.expr.now) c.in-One.is c.requires.inputs))

pub make_room-requires-clause-one : goal.make_room-requires-clause-one
make_room-requires-clause-one g c =
    one_each c.self.inside.groups.entries c.self.inside.files.entries c.self.inside.numbers.entries c.self.invariant.shelved.indexed
