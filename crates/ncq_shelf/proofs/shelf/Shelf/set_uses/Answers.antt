use Rattle.std.proofs.Common.{◌≡◌, Some, sym, ap, ◌∙◌, subst, refl, rules}
use Rattle.std.specs.Option.{option_map}
use Rattle.std.specs.FinMap.{get, insert}
use Rattle.ncq_shelf.specs.Shown.{shown, state_of}
use Rattle.ncq_shelf.specs.declared.file.File.{File}
use Rattle.ncq_shelf.proofs.Maps.{one_value, there}
use Rattle.ncq_shelf.proofs.ShownFiles.{get_shown}
use Rattle.ncq_shelf.proofs.Indexes.{shown_at}
use Rattle.ncq_shelf.proofs.SameFiles.{shown_written, shelved_written, grouped_written}
use Rattle.ncq_shelf.specs.Keyed.{IsKeyed}
use Rattle.ncq_shelf.proofs.KeyedLaws.{keyed_put}
use Rattle.ncq_shelf.proofs.shelf.Shelf.set_uses.Goals as goal

pub returns-in_default : goal.returns-in_default
returns-in_default c = λ file at.
    absurd (there (subst (λ f. get f c.args.number ≡ Some file) (sym c.self.view_is) at) (get_shown c.self.inside.groups.entries c.self.inside.files.entries c.args.number ∙ ap (option_map (state_of c.self.inside.groups.entries)) (sym c.in_default.ensures.value)))

pub invariant_of-self-2 : goal.invariant_of-self-2
invariant_of-self-2 c =
    let file = c.in-Some.file.now in
    let w : File = record file { uses = c.args.uses } in
    let shelved =
    shelved_written c.self.inside.groups.entries c.self.inside.files.entries c.args.number file w (sym c.in-Some.ensures.value) refl refl refl refl
    (c.get_mut.follows.lender w).entries ((c.get_mut.follows.holds w).3 (search rules)).0 c.self.inside.numbers.entries c.self.inside.scans.entries c.self.invariant.shelved in
    let written = shown_written c.self.inside.groups.entries c.self.inside.files.entries c.args.number file w (sym c.in-Some.ensures.value) refl refl refl refl
    (c.get_mut.follows.lender w).entries ((c.get_mut.follows.holds w).3 (search rules)).0 in
    let grouped = grouped_written c.self.inside.groups.entries c.self.inside.files.entries c.args.number file w (sym c.in-Some.ensures.value) refl refl refl refl
    (c.get_mut.follows.lender w).entries ((c.get_mut.follows.holds w).3 (search rules)).0 c.self.invariant.grouped in
    record {
      shelved = shelved;
      grouped = grouped;
      keyed = subst (λ m. IsKeyed m c.self.inside.keys) (sym written)
          (keyed_put c.self.inside.groups.entries (shown c.self.inside.groups.entries c.self.inside.files.entries) c.args.number (state_of c.self.inside.groups.entries file) (state_of c.self.inside.groups.entries w) c.self.inside.keys (shown_at c.self.inside.groups.entries c.self.inside.files.entries c.args.number file (sym c.in-Some.ensures.value)) refl
          (λ slot k h. h) c.self.invariant.keyed);
    }

pub returns : goal.returns
returns c = λ file at.
    let w : File = record c.in-Some.file.now { uses = c.args.uses } in
    let e : state_of c.self.inside.groups.entries c.in-Some.file.now ≡ file =
    one_value (shown_at c.self.inside.groups.entries c.self.inside.files.entries c.args.number c.in-Some.file.now (sym c.in-Some.ensures.value)) (subst (λ f. get f c.args.number ≡ Some file) (sym c.self.view_is) at) in
    shown_written c.self.inside.groups.entries c.self.inside.files.entries c.args.number c.in-Some.file.now w (sym c.in-Some.ensures.value) refl refl refl refl
    (c.get_mut.follows.lender w).entries ((c.get_mut.follows.holds w).3 (search rules)).0
    ∙ (λ i. insert (c.self.view_is i) c.args.number (record (e i) { uses = c.args.uses }))
