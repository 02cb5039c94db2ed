use Rattle.std.proofs.Common.{◌≡◌, ◌≤◌, ℕ, Some, true, sym, ap, ◌∙◌, subst, rules}
use Rattle.std.specs.FinMap.{get}
use Rattle.std.specs.List.{AllByRecursion}
use Rattle.ncq_base.specs.Intervals.{in_interval}
use Rattle.ncq_base.specs.declared.atom.FileId.{FileId}
use Rattle.ncq_midfile.specs.Views.{HasNumber, RangeState}
use Rattle.ncq_midfile.specs.declared.signed.SignedRow.{SignedRow}
use Rattle.ncq_readers.proofs.GroupLaws.{any_err}
use Rattle.ncq_shelf.specs.Keyed.{IsHeld, IsKey, nowhere}
use Rattle.ncq_shelf.specs.Ranges.{AppendsHeld, IsHeldBy, SelectsRange}
use Rattle.ncq_shelf.specs.Shown.{shown}
use Rattle.ncq_shelf.specs.declared.group.Group.{Group}
use Rattle.ncq_shelf.proofs.GroupNews.{among_all, kept_row, kept_same, number_of_held, of_views, row_appended, same_shown}
use Rattle.ncq_shelf.proofs.KeyedLaws.{keyed_grown}
use Rattle.ncq_shelf.proofs.VirtualFiles.{none_selects}
use Rattle.ncq_shelf.proofs.shelf.Shelf.append_held.Goals as goal

pub invariant_of-self : goal.invariant_of-self
invariant_of-self c = record {
  shelved = c.self.invariant.shelved;
  grouped = c.self.invariant.grouped;
  keyed = keyed_grown c.self.inside.groups.entries (shown c.self.inside.groups.entries c.self.inside.files.entries) nowhere c.self.inside.keys c.note_takers.new.keys c.note_takers.ensures.grows (λ n s h. absurd h) c.self.invariant.keyed;
}

pub unreachable-requires : goal.unreachable-requires
unreachable-requires c =
    let taken = subst (λ f. IsHeldBy f c.args.input c.args.slot c.args.row.row) (sym c.self.view_is) c.requires.taken in
    none_selects c.self.inside.groups.entries c.self.inside.files.entries c.self.inside.numbers.entries c.self.inside.scans.entries c.self.invariant.shelved c.self.invariant.grouped c.args.input c.args.slot (sym c.in_default.ensures.value)
    taken.takes.interval taken.number taken.takes.selects

pub add-requires-clause-number : goal.add-requires-clause-number
add-requires-clause-number c =
    let group : Group = record { input = c.args.input; slot = c.args.slot } in
    subst (λ s. HasNumber s c.args.row.row) (sym (c.self.invariant.grouped.slots group c.in-Some.held.now (sym c.in-Some.ensures.value)))
    (number_of_held c.args.self.now c.args.input c.args.slot c.args.row.row c.requires.taken c.requires.slot)

pub add-requires-clause-last : goal.add-requires-clause-last
add-requires-clause-last c =
    let group : Group = record { input = c.args.input; slot = c.args.slot } in
    of_views c.self.inside.groups.entries c.self.inside.files.entries c.self.inside.numbers.entries c.self.inside.scans.entries c.self.invariant.shelved c.self.invariant.grouped group
    (λ (r : SignedRow). r.number ≤ c.args.row.number) c.in-Some.held.now (sym c.in-Some.ensures.value)
    (λ interval number selects state at. c.requires.last interval number (subst (λ f. SelectsRange f c.args.input c.args.slot interval number) c.self.view_is selects) state (subst (λ f. get f number ≡ Some state) c.self.view_is at))

pub invariant_of-self-in_err-add : goal.invariant_of-self-in_err-add
invariant_of-self-in_err-add c =
    let group : Group = record { input = c.args.input; slot = c.args.slot } in
    let w = c.add.new.self in
    kept_same c.self.inside.groups.entries c.self.inside.files.entries c.self.inside.numbers.entries c.self.inside.scans.entries c.note_takers.new.keys
    (record {
      shelved = c.self.invariant.shelved;
      grouped = c.self.invariant.grouped;
      keyed = keyed_grown c.self.inside.groups.entries (shown c.self.inside.groups.entries c.self.inside.files.entries) nowhere c.self.inside.keys c.note_takers.new.keys c.note_takers.ensures.grows (λ n s h. absurd h) c.self.invariant.keyed;
    })
    (c.get_mut.follows.lender w).entries group c.in-Some.held.now w (sym c.in-Some.ensures.value) ((c.get_mut.follows.holds w).3 (search rules)).0 c.add.ensures.slot
    (ap (λ (s : RangeState). s.rows) c.in_err-add.ensures.err)

pub returns-in_err-add-clause-err : goal.returns-in_err-add-clause-err
returns-in_err-add-clause-err c =
    let group : Group = record { input = c.args.input; slot = c.args.slot } in
    let w = c.add.new.self in
    any_err c.from_residual-in_err-add.result
    (same_shown c.self.inside.groups.entries c.self.inside.files.entries c.self.inside.numbers.entries c.self.inside.scans.entries c.self.inside.keys c.self.invariant
    (c.get_mut.follows.lender w).entries group c.in-Some.held.now w (sym c.in-Some.ensures.value) ((c.get_mut.follows.holds w).3 (search rules)).0 c.add.ensures.slot
    (ap (λ (s : RangeState). s.rows) c.in_err-add.ensures.err) ∙ c.self.view_is)

pub invariant_of-self-2 : goal.invariant_of-self-2
invariant_of-self-2 c =
    let group : Group = record { input = c.args.input; slot = c.args.slot } in
    let w = c.add.new.self in
    let keys = c.note_takers.new.keys in
    let taken = subst (λ f. IsHeldBy f c.args.input c.args.slot c.args.row.row) (sym c.self.view_is) c.requires.taken in
    kept_row c.self.inside.groups.entries c.self.inside.files.entries c.self.inside.numbers.entries c.self.inside.scans.entries keys
    (record {
      shelved = c.self.invariant.shelved;
      grouped = c.self.invariant.grouped;
      keyed = keyed_grown c.self.inside.groups.entries (shown c.self.inside.groups.entries c.self.inside.files.entries) nowhere c.self.inside.keys keys c.note_takers.ensures.grows (λ n s h. absurd h) c.self.invariant.keyed;
    })
    (c.get_mut.follows.lender w).entries group c.in-Some.held.now w (sym c.in-Some.ensures.value) ((c.get_mut.follows.holds w).3 (search rules)).0 c.add.ensures.slot
    c.args.row c.in_ok-add.ensures.ok taken
    (λ n takes. among_all (λ n. (s : ℕ) → IsKey keys n s → IsHeld keys.holders n s c.args.row.row) c.in_ok-takers.takers
    (subst (AllByRecursion (λ (file : FileId). (s : ℕ) → IsKey keys file.0 s → IsHeld keys.holders file.0 s c.args.row.row)) c.as_slice.ensures c.in_ok-note_takers.ensures.ok) n
    ((c.in_ok-takers.ensures n).1 (record {
      interval = takes.interval;
      selects = subst (λ f. SelectsRange f c.args.input c.args.slot takes.interval n) c.self.view_is takes.selects;
      within = subst (λ a. in_interval takes.interval a ≡ true) (sym c.atom.ensures) takes.within;
    })))

pub returns-clause-ok : goal.returns-clause-ok
returns-clause-ok c =
    let group : Group = record { input = c.args.input; slot = c.args.slot } in
    let w = c.add.new.self in
    subst (λ f. AppendsHeld f c.args.input c.args.slot c.args.row (shown (c.get_mut.follows.lender w).entries c.self.inside.files.entries)) c.self.view_is
    (row_appended c.self.inside.groups.entries c.self.inside.files.entries c.self.inside.numbers.entries c.self.inside.scans.entries c.self.inside.keys c.self.invariant
    (c.get_mut.follows.lender w).entries group c.in-Some.held.now w (sym c.in-Some.ensures.value) ((c.get_mut.follows.holds w).3 (search rules)).0 c.add.ensures.slot
    c.args.row c.in_ok-add.ensures.ok)
