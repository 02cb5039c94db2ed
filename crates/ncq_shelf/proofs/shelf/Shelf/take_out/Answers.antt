use Rattle.std.proofs.Common.{◌≡◌, [], Some, sym, ap, ◌∙◌, subst}
use Rattle.std.specs.Option.{option_map}
use Rattle.std.specs.FinMap.{get, remove}
use Rattle.ncq_shelf.specs.Stands.{IsIdle}
use Rattle.ncq_shelf.specs.Inputs.{AreInputs}
use Rattle.ncq_shelf.specs.Shown.{shown, state_of}
use Rattle.ncq_shelf.proofs.Maps.{one_value, there}
use Rattle.ncq_shelf.proofs.ShownFiles.{get_shown}
use Rattle.ncq_shelf.proofs.Indexes.{shown_at}
use Rattle.ncq_shelf.specs.Enrolled.{HasFile, IsKnown, LosesScan, ScansSource}
use Rattle.ncq_shelf.specs.Wired.{IsStruck}
use Rattle.ncq_shelf.specs.Groups.{group_of}
use Rattle.ncq_shelf.specs.declared.group.Group.{Group}
use Rattle.ncq_shelf.proofs.AnyGroups.{inputs_any, shelved_any}
use Rattle.ncq_shelf.proofs.Others.{struck_others}
use Rattle.ncq_shelf.proofs.Released.{input_there, shown_released, grouped_released}
use Rattle.ncq_shelf.proofs.Removed.{inputs_left, one_left, known_left, shown_less, shelved_less}
use Rattle.ncq_shelf.specs.Keyed.{IsKeyed}
use Rattle.ncq_shelf.proofs.KeyedLaws.{keyed_less}
use Rattle.ncq_shelf.proofs.shelf.Shelf.take_out.Goals as goal

pub returns-in_default-clause-gone : goal.returns-in_default-clause-gone
returns-in_default-clause-gone c =
    absurd (there (subst (λ f. get f c.args.number ≡ Some c.requires.file) (sym c.self.view_is) c.requires.at) (get_shown c.self.inside.groups.entries c.self.inside.files.entries c.args.number ∙ ap (option_map (state_of c.self.inside.groups.entries)) (sym c.in_default.ensures.value)))

pub returns-in_default-clause-inputs : goal.returns-in_default-clause-inputs
returns-in_default-clause-inputs c =
    absurd (there (subst (λ f. get f c.args.number ≡ Some c.requires.file) (sym c.self.view_is) c.requires.at) (get_shown c.self.inside.groups.entries c.self.inside.files.entries c.args.number ∙ ap (option_map (state_of c.self.inside.groups.entries)) (sym c.in_default.ensures.value)))

pub strike-requires-clause-inputs : goal.strike-requires-clause-inputs
strike-requires-clause-inputs c =
    let idle : IsIdle (shown c.self.inside.groups.entries c.self.inside.files.entries) c.args.number = subst (λ f. IsIdle f c.args.number) (sym c.self.view_is) c.requires in
    subst (λ e. AreInputs (shown [] c.swap_remove.new.self.entries) e c.in-Some.file.inputs) (sym c.get.ensures)
    (inputs_any c.swap_remove.new.self.entries c.self.inside.groups.entries [] c.in-Some.file.expr c.in-Some.file.inputs
    (inputs_left c.self.inside.groups.entries c.self.inside.files.entries c.self.inside.numbers.entries c.self.inside.scans.entries c.self.invariant.shelved c.args.number idle c.in-Some.file (sym c.in-Some.ensures.value)
    c.swap_remove.new.self.entries c.swap_remove.ensures.updates.0 c.swap_remove-number.new.self.entries c.swap_remove-number.ensures.updates.0))

pub strike-requires-clause-one : goal.strike-requires-clause-one
strike-requires-clause-one c =
    let idle : IsIdle (shown c.self.inside.groups.entries c.self.inside.files.entries) c.args.number = subst (λ f. IsIdle f c.args.number) (sym c.self.view_is) c.requires in
    one_left c.self.inside.groups.entries c.self.inside.files.entries c.self.inside.numbers.entries c.self.inside.scans.entries c.self.invariant.shelved c.args.number idle c.in-Some.file (sym c.in-Some.ensures.value)
    c.swap_remove.new.self.entries c.swap_remove.ensures.updates.0 c.swap_remove-number.new.self.entries c.swap_remove-number.ensures.updates.0

pub strike-requires-clause-known : goal.strike-requires-clause-known
strike-requires-clause-known c =
    let idle : IsIdle (shown c.self.inside.groups.entries c.self.inside.files.entries) c.args.number = subst (λ f. IsIdle f c.args.number) (sym c.self.view_is) c.requires in
    subst (λ e. IsKnown c.swap_remove.new.self.entries e c.args.number) (sym c.get.ensures)
    (known_left c.self.inside.groups.entries c.self.inside.files.entries c.self.inside.numbers.entries c.self.inside.scans.entries c.self.invariant.shelved c.args.number idle c.in-Some.file (sym c.in-Some.ensures.value)
    c.swap_remove.new.self.entries c.swap_remove.ensures.updates.0 c.swap_remove-number.new.self.entries c.swap_remove-number.ensures.updates.0)

pub release_of-requires-clause-right : goal.release_of-requires-clause-right
release_of-requires-clause-right c = c.self.invariant.grouped.right c.args.number c.in-Some.file (sym c.in-Some.ensures.value)

pub release_of-requires-clause-there : goal.release_of-requires-clause-there
release_of-requires-clause-there c =
    let idle : IsIdle (shown c.self.inside.groups.entries c.self.inside.files.entries) c.args.number = subst (λ f. IsIdle f c.args.number) (sym c.self.view_is) c.requires in
    λ group of. input_there c.self.inside.groups.entries c.swap_remove.new.self.entries c.strike.new.files.entries (struck_others c.self.inside.groups.entries c.swap_remove.new.self.entries c.strike.new.files.entries c.in-Some.file.expr c.args.number (subst (λ e. IsStruck c.swap_remove.new.self.entries e c.args.number c.strike.new.files.entries) c.get.ensures c.strike.ensures)) c.in-Some.file group
    (inputs_left c.self.inside.groups.entries c.self.inside.files.entries c.self.inside.numbers.entries c.self.inside.scans.entries c.self.invariant.shelved c.args.number idle c.in-Some.file (sym c.in-Some.ensures.value)
    c.swap_remove.new.self.entries c.swap_remove.ensures.updates.0 c.swap_remove-number.new.self.entries c.swap_remove-number.ensures.updates.0) (c.self.invariant.grouped.over c.args.number c.in-Some.file group (sym c.in-Some.ensures.value) of)

pub invariant_of-self-2 : goal.invariant_of-self-2
invariant_of-self-2 c =
    let idle : IsIdle (shown c.self.inside.groups.entries c.self.inside.files.entries) c.args.number = subst (λ f. IsIdle f c.args.number) (sym c.self.view_is) c.requires in
    let has : (group : Group) → group_of c.in-Some.file.content ≡ Some group → HasFile c.strike.new.files.entries group.input = λ group of. input_there c.self.inside.groups.entries c.swap_remove.new.self.entries c.strike.new.files.entries (struck_others c.self.inside.groups.entries c.swap_remove.new.self.entries c.strike.new.files.entries c.in-Some.file.expr c.args.number (subst (λ e. IsStruck c.swap_remove.new.self.entries e c.args.number c.strike.new.files.entries) c.get.ensures c.strike.ensures)) c.in-Some.file group
    (inputs_left c.self.inside.groups.entries c.self.inside.files.entries c.self.inside.numbers.entries c.self.inside.scans.entries c.self.invariant.shelved c.args.number idle c.in-Some.file (sym c.in-Some.ensures.value)
    c.swap_remove.new.self.entries c.swap_remove.ensures.updates.0 c.swap_remove-number.new.self.entries c.swap_remove-number.ensures.updates.0) (c.self.invariant.grouped.over c.args.number c.in-Some.file group (sym c.in-Some.ensures.value) of) in
    let shelved = shelved_less c.self.inside.groups.entries c.self.inside.files.entries c.self.inside.numbers.entries c.self.inside.scans.entries c.self.invariant.shelved c.args.number idle c.in-Some.file (sym c.in-Some.ensures.value)
    c.swap_remove.new.self.entries c.swap_remove.ensures.updates.0 c.swap_remove-number.new.self.entries c.swap_remove-number.ensures.updates.0
    c.strike.new.files.entries (subst (λ e. IsStruck c.swap_remove.new.self.entries e c.args.number c.strike.new.files.entries) c.get.ensures c.strike.ensures) c.strike_scan.new.scans.entries (subst (λ e. LosesScan c.self.inside.scans.entries (λ source. ScansSource source e) c.args.number c.strike_scan.new.scans.entries) c.get-2.ensures c.strike_scan.ensures) in
    let less = shown_released c.self.inside.groups.entries c.self.inside.files.entries c.self.invariant.grouped c.args.number c.in-Some.file (sym c.in-Some.ensures.value) c.swap_remove.new.self.entries c.swap_remove.ensures.updates.0 c.strike.new.files.entries (struck_others c.self.inside.groups.entries c.swap_remove.new.self.entries c.strike.new.files.entries c.in-Some.file.expr c.args.number (subst (λ e. IsStruck c.swap_remove.new.self.entries e c.args.number c.strike.new.files.entries) c.get.ensures c.strike.ensures))
    c.swap_remove-number.new.self.entries c.strike_scan.new.scans.entries shelved c.release_of.new.groups.entries c.release_of.ensures.own (λ group of. (has group of, c.release_of.ensures.ranged group of)) ∙ shown_less c.self.inside.groups.entries c.self.inside.files.entries c.self.inside.numbers.entries c.self.inside.scans.entries c.self.invariant.shelved c.args.number idle c.in-Some.file (sym c.in-Some.ensures.value)
    c.swap_remove.new.self.entries c.swap_remove.ensures.updates.0 c.swap_remove-number.new.self.entries c.swap_remove-number.ensures.updates.0
    c.strike.new.files.entries (subst (λ e. IsStruck c.swap_remove.new.self.entries e c.args.number c.strike.new.files.entries) c.get.ensures c.strike.ensures) c.strike_scan.new.scans.entries (subst (λ e. LosesScan c.self.inside.scans.entries (λ source. ScansSource source e) c.args.number c.strike_scan.new.scans.entries) c.get-2.ensures c.strike_scan.ensures) in
    record {
      shelved = shelved_any c.strike.new.files.entries c.self.inside.groups.entries c.release_of.new.groups.entries c.swap_remove-number.new.self.entries c.strike_scan.new.scans.entries shelved;
      grouped = grouped_released c.self.inside.groups.entries c.self.inside.files.entries c.self.invariant.grouped c.args.number c.in-Some.file (sym c.in-Some.ensures.value) c.swap_remove.new.self.entries c.swap_remove.ensures.updates.0 c.strike.new.files.entries (struck_others c.self.inside.groups.entries c.swap_remove.new.self.entries c.strike.new.files.entries c.in-Some.file.expr c.args.number (subst (λ e. IsStruck c.swap_remove.new.self.entries e c.args.number c.strike.new.files.entries) c.get.ensures c.strike.ensures))
          c.swap_remove-number.new.self.entries c.strike_scan.new.scans.entries shelved c.release_of.new.groups.entries c.release_of.ensures.own (λ group of. (has group of, c.release_of.ensures.ranged group of));
      keyed = subst (λ m. IsKeyed m c.forget.new.self) (sym less) (keyed_less c.self.inside.groups.entries (shown c.self.inside.groups.entries c.self.inside.files.entries) c.args.number c.self.inside.keys c.forget.new.self c.forget.ensures c.self.invariant.keyed);
    }

pub returns-clause-gone : goal.returns-clause-gone
returns-clause-gone c =
    let idle : IsIdle (shown c.self.inside.groups.entries c.self.inside.files.entries) c.args.number = subst (λ f. IsIdle f c.args.number) (sym c.self.view_is) c.requires in
    let has : (group : Group) → group_of c.in-Some.file.content ≡ Some group → HasFile c.strike.new.files.entries group.input = λ group of. input_there c.self.inside.groups.entries c.swap_remove.new.self.entries c.strike.new.files.entries (struck_others c.self.inside.groups.entries c.swap_remove.new.self.entries c.strike.new.files.entries c.in-Some.file.expr c.args.number (subst (λ e. IsStruck c.swap_remove.new.self.entries e c.args.number c.strike.new.files.entries) c.get.ensures c.strike.ensures)) c.in-Some.file group
    (inputs_left c.self.inside.groups.entries c.self.inside.files.entries c.self.inside.numbers.entries c.self.inside.scans.entries c.self.invariant.shelved c.args.number idle c.in-Some.file (sym c.in-Some.ensures.value)
    c.swap_remove.new.self.entries c.swap_remove.ensures.updates.0 c.swap_remove-number.new.self.entries c.swap_remove-number.ensures.updates.0) (c.self.invariant.grouped.over c.args.number c.in-Some.file group (sym c.in-Some.ensures.value) of) in
    let shelved = shelved_less c.self.inside.groups.entries c.self.inside.files.entries c.self.inside.numbers.entries c.self.inside.scans.entries c.self.invariant.shelved c.args.number idle c.in-Some.file (sym c.in-Some.ensures.value)
    c.swap_remove.new.self.entries c.swap_remove.ensures.updates.0 c.swap_remove-number.new.self.entries c.swap_remove-number.ensures.updates.0
    c.strike.new.files.entries (subst (λ e. IsStruck c.swap_remove.new.self.entries e c.args.number c.strike.new.files.entries) c.get.ensures c.strike.ensures) c.strike_scan.new.scans.entries (subst (λ e. LosesScan c.self.inside.scans.entries (λ source. ScansSource source e) c.args.number c.strike_scan.new.scans.entries) c.get-2.ensures c.strike_scan.ensures) in
    shown_released c.self.inside.groups.entries c.self.inside.files.entries c.self.invariant.grouped c.args.number c.in-Some.file (sym c.in-Some.ensures.value) c.swap_remove.new.self.entries c.swap_remove.ensures.updates.0 c.strike.new.files.entries (struck_others c.self.inside.groups.entries c.swap_remove.new.self.entries c.strike.new.files.entries c.in-Some.file.expr c.args.number (subst (λ e. IsStruck c.swap_remove.new.self.entries e c.args.number c.strike.new.files.entries) c.get.ensures c.strike.ensures))
    c.swap_remove-number.new.self.entries c.strike_scan.new.scans.entries shelved c.release_of.new.groups.entries c.release_of.ensures.own (λ group of. (has group of, c.release_of.ensures.ranged group of))
    ∙ shown_less c.self.inside.groups.entries c.self.inside.files.entries c.self.inside.numbers.entries c.self.inside.scans.entries c.self.invariant.shelved c.args.number idle c.in-Some.file (sym c.in-Some.ensures.value)
    c.swap_remove.new.self.entries c.swap_remove.ensures.updates.0 c.swap_remove-number.new.self.entries c.swap_remove-number.ensures.updates.0
    c.strike.new.files.entries (subst (λ e. IsStruck c.swap_remove.new.self.entries e c.args.number c.strike.new.files.entries) c.get.ensures c.strike.ensures) c.strike_scan.new.scans.entries (subst (λ e. LosesScan c.self.inside.scans.entries (λ source. ScansSource source e) c.args.number c.strike_scan.new.scans.entries) c.get-2.ensures c.strike_scan.ensures)
    ∙ (λ i. remove (c.self.view_is i) c.args.number)

pub returns-clause-inputs : goal.returns-clause-inputs
returns-clause-inputs c = λ state at.
    let e : state_of c.self.inside.groups.entries c.in-Some.file ≡ state =
    one_value (shown_at c.self.inside.groups.entries c.self.inside.files.entries c.args.number c.in-Some.file (sym c.in-Some.ensures.value)) (subst (λ f. get f c.args.number ≡ Some state) (sym c.self.view_is) at) in
    subst (λ f. AreInputs f state.expr c.in-Some.file.inputs) c.self.view_is
    (subst (λ s. AreInputs (shown c.self.inside.groups.entries c.self.inside.files.entries) s.expr c.in-Some.file.inputs) e (c.self.invariant.shelved.indexed.inputs c.args.number c.in-Some.file (sym c.in-Some.ensures.value)))
