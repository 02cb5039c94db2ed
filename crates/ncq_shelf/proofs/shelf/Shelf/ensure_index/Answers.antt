use Rattle.std.proofs.Common.{◌≡◌, Some, sym, ap, ◌∙◌, subst, refl, rules}
use Rattle.std.specs.Option.{option_map}
use Rattle.std.specs.FinMap.{get, insert}
use Rattle.std.specs.List.{AllByRecursion}
use Rattle.ncq_plan.specs.Exprs.{expr_width}
use Rattle.ncq_shelf.specs.Groups.{content_of, group_of}
use Rattle.ncq_shelf.specs.Keyed.{IsKept, IsKeyed, AreHeld}
use Rattle.ncq_shelf.specs.Shown.{shown, state_of}
use Rattle.ncq_shelf.specs.declared.file.File.{File}
use Rattle.ncq_shelf.specs.declared.rows.Rows.{Rows}
use Rattle.ncq_shelf.proofs.Grouped.{own_content, seen_there, group_there}
use Rattle.ncq_shelf.proofs.Maps.{there, put_again}
use Rattle.ncq_shelf.proofs.ShownFiles.{get_shown}
use Rattle.ncq_shelf.proofs.Indexes.{shown_at}
use Rattle.ncq_shelf.proofs.SameFiles.{shown_written, shelved_written, grouped_written}
use Rattle.ncq_shelf.proofs.KeyedLaws.{keyed_put}
use Rattle.ncq_shelf.proofs.Widths.{wide_at, wide_group, slots_had}
use Rattle.ncq_shelf.proofs.shelf.Shelf.ensure_index.Goals as goal

pub unreachable-requires : goal.unreachable-requires
unreachable-requires c =
    there (subst (λ f. get f c.args.number ≡ Some c.requires.there.file) (sym c.self.view_is) c.requires.there.at) (get_shown c.self.inside.groups.entries c.self.inside.files.entries c.args.number ∙ ap (option_map (state_of c.self.inside.groups.entries)) (sym c.in_default.ensures.value))

pub index_rows-requires-clause-own : goal.index_rows-requires-clause-own
index_rows-requires-clause-own c = λ own is.
    let file = c.in-Some.file.now in
    let at = sym c.in-Some.ensures.value in
    let slots = c.requires.slots (state_of c.self.inside.groups.entries file) (seen_there c.self.inside.groups.entries c.self.inside.files.entries c.args.self.now c.self.view_is c.self.invariant.grouped c.args.number file at) in
    slots_had c.args.slots.now (expr_width file.expr) own.rows slots
    (subst (λ s. AllByRecursion (λ r. Rattle.std.specs.Prelude.length r.row ≡ expr_width file.expr) s.rows) (own_content c.self.inside.groups.entries file.expr file.content own is)
    (wide_at c.self.inside.groups.entries c.self.inside.files.entries c.self.inside.numbers.entries c.self.inside.scans.entries c.self.invariant.shelved c.self.invariant.grouped c.args.self.now c.self.view_is c.requires.wide c.args.number file at))

pub index_rows-requires-clause-there : goal.index_rows-requires-clause-there
index_rows-requires-clause-there c = λ group of.
    group_there c.self.inside.groups.entries c.self.inside.files.entries c.args.self.now c.self.view_is c.self.invariant.grouped c.args.number c.in-Some.file.now (sym c.in-Some.ensures.value) group of

pub index_rows-requires-clause-ranged : goal.index_rows-requires-clause-ranged
index_rows-requires-clause-ranged c = λ group of.
    let file = c.in-Some.file.now in
    let at = sym c.in-Some.ensures.value in
    let slots = c.requires.slots (state_of c.self.inside.groups.entries file) (seen_there c.self.inside.groups.entries c.self.inside.files.entries c.args.self.now c.self.view_is c.self.invariant.grouped c.args.number file at) in
    slots_had c.args.slots.now (expr_width file.expr) _ slots
    (wide_group c.self.inside.groups.entries c.self.inside.files.entries c.self.inside.numbers.entries c.self.inside.scans.entries c.self.invariant.shelved c.self.invariant.grouped c.args.self.now c.self.view_is c.requires.wide c.args.number file group at of)

pub invariant_of-self : goal.invariant_of-self
invariant_of-self c =
    let file = c.in-Some.file.now in
    let at = sym c.in-Some.ensures.value in
    let w : File = record file { content = c.index_rows.new.rows; rows_lost = 0 } in
    let same : group_of c.index_rows.new.rows ≡ group_of file.content = ap group_of c.index_rows.ensures.rows in
    let step = (c.get_mut.follows.lender w).entries in
    let is = ((c.get_mut.follows.holds w).3 (search rules)).0 in
    let written = shown_written c.self.inside.groups.entries c.self.inside.files.entries c.args.number file w at refl refl refl same step is in
    let kept : IsKept c.self.inside.groups.entries step c.self.inside.numbers.entries c.self.inside.scans.entries c.self.inside.keys = record {
      shelved = shelved_written c.self.inside.groups.entries c.self.inside.files.entries c.args.number file w at refl refl refl same step is c.self.inside.numbers.entries c.self.inside.scans.entries c.self.invariant.shelved;
      grouped = grouped_written c.self.inside.groups.entries c.self.inside.files.entries c.args.number file w at refl refl refl same step is c.self.invariant.grouped;
      keyed = subst (λ m. IsKeyed m c.self.inside.keys) (sym written)
          (keyed_put c.self.inside.groups.entries (shown c.self.inside.groups.entries c.self.inside.files.entries) c.args.number (state_of c.self.inside.groups.entries file) (state_of c.self.inside.groups.entries w) c.self.inside.keys (shown_at c.self.inside.groups.entries c.self.inside.files.entries c.args.number file at) refl
          (λ slot k h. subst (λ (rows : Rows). AreHeld c.self.inside.keys.holders c.args.number slot (content_of c.self.inside.groups.entries file.expr rows).rows) (sym c.index_rows.ensures.rows) h) c.self.invariant.keyed);
    } in
    subst (λ gs. IsKept gs step c.self.inside.numbers.entries c.self.inside.scans.entries c.self.inside.keys) (sym c.index_rows.ensures.groups) kept

pub returns : goal.returns
returns c =
    let file = c.in-Some.file.now in
    let at = sym c.in-Some.ensures.value in
    let w : File = record file { content = c.index_rows.new.rows; rows_lost = 0 } in
    let same : group_of c.index_rows.new.rows ≡ group_of file.content = ap group_of c.index_rows.ensures.rows in
    let step = (c.get_mut.follows.lender w).entries in
    (λ i. shown (c.index_rows.ensures.groups i) step)
    ∙ shown_written c.self.inside.groups.entries c.self.inside.files.entries c.args.number file w at refl refl refl same step ((c.get_mut.follows.holds w).3 (search rules)).0
    ∙ (λ i. insert (shown c.self.inside.groups.entries c.self.inside.files.entries) c.args.number (record (state_of c.self.inside.groups.entries file) { content = content_of c.self.inside.groups.entries file.expr (c.index_rows.ensures.rows i) }))
    ∙ put_again (shown c.self.inside.groups.entries c.self.inside.files.entries) c.args.number (state_of c.self.inside.groups.entries file) (shown_at c.self.inside.groups.entries c.self.inside.files.entries c.args.number file at) ∙ c.self.view_is
