use Rattle.std.proofs.Common.{◌≡◌, ◌<◌, ◌≤◌, ◌∷◌, [], Some, sym, ap, ◌∙◌, subst, refl, rules}
use Rattle.std.proofs.lemmas.Result.{on_ok_weaker, on_err_weaker}
use Rattle.std.specs.List.{AllByRecursion}
use Rattle.std.specs.Option.{option_map}
use Rattle.std.specs.FinMap.{get, insert}
use Rattle.ncq_midfile.specs.Files.{FileState}
use Rattle.ncq_shelf.specs.KeptFiles.{KeptFile}
use Rattle.ncq_shelf.specs.Contents.{with_more}
use Rattle.ncq_shelf.specs.Groups.{content_of}
use Rattle.ncq_shelf.specs.Shown.{shown, state_of}
use Rattle.ncq_shelf.specs.declared.file.File.{File}
use Rattle.ncq_shelf.proofs.Maps.{one_value, there, put_again}
use Rattle.ncq_shelf.proofs.ShownFiles.{get_shown}
use Rattle.ncq_shelf.proofs.Indexes.{shown_at}
use Rattle.ncq_shelf.proofs.SameFiles.{shown_written, shelved_written, grouped_written}
use Rattle.ncq_shelf.proofs.Grouped.{own_content, seen_there, no_group}
use Rattle.ncq_shelf.specs.Keyed.{IsKeyed, IsHeld, nowhere}
use Rattle.ncq_shelf.proofs.KeyedLaws.{keyed_grown, keyed_put}
use Rattle.ncq_shelf.proofs.KeyedAdded.{appended_held}
use Rattle.ncq_shelf.proofs.shelf.Shelf.append.Goals as goal

pub append_own-requires-clause-own : goal.append_own-requires-clause-own
append_own-requires-clause-own c = (no_group c.self.inside.groups.entries c.self.inside.files.entries c.args.self.now c.self.view_is c.self.invariant.grouped c.args.number c.in-Some.file.now (sym c.in-Some.ensures.value) c.requires.own)

pub unreachable-requires : goal.unreachable-requires
unreachable-requires c =
    there (subst (λ f. get f c.args.number ≡ Some c.requires.there.file) (sym c.self.view_is) c.requires.there.at) (get_shown c.self.inside.groups.entries c.self.inside.files.entries c.args.number ∙ ap (option_map (state_of c.self.inside.groups.entries)) (sym c.in_default.ensures.value))

pub append_own-requires-clause-above : goal.append_own-requires-clause-above
append_own-requires-clause-above c = λ own is.
    subst (λ (s : FileState). s.base < c.args.row.number) (own_content c.self.inside.groups.entries c.in-Some.file.now.expr c.in-Some.file.now.content own is) (c.requires.above (state_of c.self.inside.groups.entries c.in-Some.file.now) (seen_there c.self.inside.groups.entries c.self.inside.files.entries c.args.self.now c.self.view_is c.self.invariant.grouped c.args.number c.in-Some.file.now (sym c.in-Some.ensures.value)))

pub append_own-requires-clause-last : goal.append_own-requires-clause-last
append_own-requires-clause-last c = λ own is.
    subst (λ (s : FileState). AllByRecursion (λ r. r.number ≤ c.args.row.number) s.rows) (own_content c.self.inside.groups.entries c.in-Some.file.now.expr c.in-Some.file.now.content own is) (c.requires.last (state_of c.self.inside.groups.entries c.in-Some.file.now) (seen_there c.self.inside.groups.entries c.self.inside.files.entries c.args.self.now c.self.view_is c.self.invariant.grouped c.args.number c.in-Some.file.now (sym c.in-Some.ensures.value)))

pub invariant_of-self : goal.invariant_of-self
invariant_of-self c = record {
  shelved = c.self.invariant.shelved;
  grouped = c.self.invariant.grouped;
  keyed = keyed_grown c.self.inside.groups.entries (shown c.self.inside.groups.entries c.self.inside.files.entries) nowhere c.self.inside.keys c.note_row.new.self c.note_row.ensures.grows (λ n s h. absurd h) c.self.invariant.keyed;
}

pub invariant_of-self-2 : goal.invariant_of-self-2
invariant_of-self-2 c =
    let file = c.in-Some.file.now in
    let keys = c.note_row.new.self in
    let w : File = record file { content = c.append_own.new.rows } in
    let shelved = shelved_written c.self.inside.groups.entries c.self.inside.files.entries c.args.number file w (sym c.in-Some.ensures.value) refl refl refl (c.append_own.ensures.own ∙ sym (no_group c.self.inside.groups.entries c.self.inside.files.entries c.args.self.now c.self.view_is c.self.invariant.grouped c.args.number c.in-Some.file.now (sym c.in-Some.ensures.value) c.requires.own))
    (c.get_mut.follows.lender w).entries ((c.get_mut.follows.holds w).3 (search rules)).0 c.self.inside.numbers.entries c.self.inside.scans.entries c.self.invariant.shelved in
    let written = shown_written c.self.inside.groups.entries c.self.inside.files.entries c.args.number file w (sym c.in-Some.ensures.value) refl refl refl (c.append_own.ensures.own ∙ sym (no_group c.self.inside.groups.entries c.self.inside.files.entries c.args.self.now c.self.view_is c.self.invariant.grouped c.args.number c.in-Some.file.now (sym c.in-Some.ensures.value) c.requires.own))
    (c.get_mut.follows.lender w).entries ((c.get_mut.follows.holds w).3 (search rules)).0 in
    let grouped = grouped_written c.self.inside.groups.entries c.self.inside.files.entries c.args.number file w (sym c.in-Some.ensures.value) refl refl refl (c.append_own.ensures.own ∙ sym (no_group c.self.inside.groups.entries c.self.inside.files.entries c.args.self.now c.self.view_is c.self.invariant.grouped c.args.number c.in-Some.file.now (sym c.in-Some.ensures.value) c.requires.own))
    (c.get_mut.follows.lender w).entries ((c.get_mut.follows.holds w).3 (search rules)).0 c.self.invariant.grouped in
    record {
      shelved = shelved;
      grouped = grouped;
      keyed = subst (λ m. IsKeyed m keys) (sym written)
          (keyed_put c.self.inside.groups.entries (shown c.self.inside.groups.entries c.self.inside.files.entries) c.args.number (state_of c.self.inside.groups.entries file) (state_of c.self.inside.groups.entries w) keys (shown_at c.self.inside.groups.entries c.self.inside.files.entries c.args.number file (sym c.in-Some.ensures.value)) refl
          (λ slot k. appended_held c.self.inside.groups.entries c.append_own.result (λ r. IsHeld keys.holders c.args.number slot r.row) c.self.inside.groups.entries file.expr file.content c.append_own.new.rows c.args.row c.append_own.ensures.ok c.append_own.ensures.err (c.in_ok-note_row.ensures.ok slot k))
          (keyed_grown c.self.inside.groups.entries (shown c.self.inside.groups.entries c.self.inside.files.entries) nowhere c.self.inside.keys keys c.note_row.ensures.grows (λ n s h. absurd h) c.self.invariant.keyed));
    }

pub returns-clause-ok : goal.returns-clause-ok
returns-clause-ok c =
    let file = c.in-Some.file.now in
    let w : File = record file { content = c.append_own.new.rows } in
    let written = shown_written c.self.inside.groups.entries c.self.inside.files.entries c.args.number file w (sym c.in-Some.ensures.value) refl refl refl (c.append_own.ensures.own ∙ sym (no_group c.self.inside.groups.entries c.self.inside.files.entries c.args.self.now c.self.view_is c.self.invariant.grouped c.args.number c.in-Some.file.now (sym c.in-Some.ensures.value) c.requires.own))
    (c.get_mut.follows.lender w).entries ((c.get_mut.follows.holds w).3 (search rules)).0 in
    let same : (state : KeptFile) → get c.args.self.now c.args.number ≡ Some state → state_of c.self.inside.groups.entries file ≡ state = λ state at.
    one_value (shown_at c.self.inside.groups.entries c.self.inside.files.entries c.args.number file (sym c.in-Some.ensures.value)) (subst (λ f. get f c.args.number ≡ Some state) (sym c.self.view_is) at) in
    on_ok_weaker c.append_own.result (λ rows state at.
    written ∙ (λ i. insert (c.self.view_is i) c.args.number (record (state_of c.self.inside.groups.entries file) { content = rows c.self.inside.groups.entries file.expr i })) ∙ ap (λ (s : KeptFile). insert c.args.self.now c.args.number (with_more s (c.args.row ∷ []))) (same state at)) c.append_own.ensures.ok

pub returns-clause-err : goal.returns-clause-err
returns-clause-err c =
    let file = c.in-Some.file.now in
    let w : File = record file { content = c.append_own.new.rows } in
    let written = shown_written c.self.inside.groups.entries c.self.inside.files.entries c.args.number file w (sym c.in-Some.ensures.value) refl refl refl (c.append_own.ensures.own ∙ sym (no_group c.self.inside.groups.entries c.self.inside.files.entries c.args.self.now c.self.view_is c.self.invariant.grouped c.args.number c.in-Some.file.now (sym c.in-Some.ensures.value) c.requires.own))
    (c.get_mut.follows.lender w).entries ((c.get_mut.follows.holds w).3 (search rules)).0 in
    on_err_weaker c.append_own.result
    (λ e. written ∙ (λ i. insert (shown c.self.inside.groups.entries c.self.inside.files.entries) c.args.number (record (state_of c.self.inside.groups.entries file) { content = content_of c.self.inside.groups.entries file.expr (e i) })) ∙ put_again (shown c.self.inside.groups.entries c.self.inside.files.entries) c.args.number (state_of c.self.inside.groups.entries file) (shown_at c.self.inside.groups.entries c.self.inside.files.entries c.args.number file (sym c.in-Some.ensures.value)) ∙ c.self.view_is) c.append_own.ensures.err
