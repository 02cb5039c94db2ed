use Rattle.std.proofs.Common.{◌≡◌, ◌≤◌, Some, None, Ok, sym, ap, ◌∙◌, subst, refl, rules}
use Rattle.std.specs.Option.{option_map}
use Rattle.std.specs.FinMap.{get, insert}
use Rattle.ncq_midfile.specs.Content.{IsSoundAt}
use Rattle.ncq_midfile.specs.Files.{AreLeftAt, FileState}
use Rattle.ncq_shelf.specs.KeptFiles.{KeptFile}
use Rattle.ncq_shelf.specs.Contents.{IsCompacted}
use Rattle.ncq_shelf.specs.Groups.{content_of, group_of}
use Rattle.ncq_shelf.specs.Shown.{shown, state_of}
use Rattle.ncq_shelf.specs.declared.file.File.{File}
use Rattle.ncq_shelf.specs.Ranges.{IsRange}
use Rattle.ncq_shelf.proofs.Maps.{one_value, there, put_again, put_same}
use Rattle.ncq_shelf.proofs.ShownFiles.{get_shown}
use Rattle.ncq_shelf.proofs.Indexes.{shown_at}
use Rattle.ncq_shelf.proofs.SameFiles.{shown_written}
use Rattle.ncq_shelf.proofs.Grouped.{own_content, seen_there, no_group, has_group}
use Rattle.ncq_shelf.proofs.Turns.{any_err}
use Rattle.ncq_shelf.proofs.MovedBases.{moved_on, moved_rows, moved_held}
use Rattle.ncq_shelf.proofs.KeyedLaws.{kept_written}
use Rattle.ncq_shelf.proofs.shelf.Shelf.compact.Goals as goal

pub unreachable-requires : goal.unreachable-requires
unreachable-requires c =
    there (subst (λ f. get f c.args.number ≡ Some c.requires.there.file) (sym c.self.view_is) c.requires.there.at) (get_shown c.self.inside.groups.entries c.self.inside.files.entries c.args.number ∙ ap (option_map (state_of c.self.inside.groups.entries)) (sym c.in_default.ensures.value))

pub compact_rows-requires-clause-base : goal.compact_rows-requires-clause-base
compact_rows-requires-clause-base c = λ own is.
    let file = c.in-Some.file.now in
    subst (λ (s : FileState). s.base ≤ c.args.change) (own_content c.self.inside.groups.entries file.expr file.content own is) (c.requires.base (state_of c.self.inside.groups.entries file) (seen_there c.self.inside.groups.entries c.self.inside.files.entries c.args.self.now c.self.view_is c.self.invariant.grouped c.args.number c.in-Some.file.now (sym c.in-Some.ensures.value)))

pub compact_rows-requires-clause-sound : goal.compact_rows-requires-clause-sound
compact_rows-requires-clause-sound c = λ own is.
    let file = c.in-Some.file.now in
    subst (λ (s : FileState). IsSoundAt c.args.change s.rows) (own_content c.self.inside.groups.entries file.expr file.content own is) (c.requires.sound (state_of c.self.inside.groups.entries file) (seen_there c.self.inside.groups.entries c.self.inside.files.entries c.args.self.now c.self.view_is c.self.invariant.grouped c.args.number c.in-Some.file.now (sym c.in-Some.ensures.value)))

-- the file as `compact_rows` leaves it, before its keys are renewed
pub invariant_of-self : goal.invariant_of-self
invariant_of-self c =
    let gs = c.self.inside.groups.entries in
    let file = c.in-Some.file.now in
    let w : File = record file { content = c.compact_rows.new.rows } in
    kept_written gs c.self.inside.files.entries c.self.inside.numbers.entries c.self.inside.scans.entries c.self.inside.keys c.args.number file w (sym c.in-Some.ensures.value) refl refl refl c.compact_rows.ensures.group
    (c.get_mut.follows.lender w).entries ((c.get_mut.follows.holds w).3 (search rules)).0
    (moved_held c.compact_rows.result c.args.change gs file.expr file.content c.compact_rows.new.rows c.compact_rows.ensures.own c.compact_rows.ensures.ranged c.compact_rows.ensures.err c.self.inside.keys.holders c.args.number) c.self.invariant

pub invariant_of-self-2 : goal.invariant_of-self-2
invariant_of-self-2 c =
    let gs = c.self.inside.groups.entries in
    let file = c.in-Some.file.now in
    let w : File = record file { content = c.compact_rows.new.rows } in
    kept_written gs c.self.inside.files.entries c.self.inside.numbers.entries c.self.inside.scans.entries c.self.inside.keys c.args.number file w (sym c.in-Some.ensures.value) refl refl refl c.compact_rows.ensures.group
    (c.get_mut.follows.lender w).entries ((c.get_mut.follows.holds w).3 (search rules)).0
    (moved_held c.compact_rows.result c.args.change gs file.expr file.content c.compact_rows.new.rows c.compact_rows.ensures.own c.compact_rows.ensures.ranged c.compact_rows.ensures.err c.self.inside.keys.holders c.args.number) c.self.invariant

pub returns-clause-ok : goal.returns-clause-ok
returns-clause-ok c = λ state here.
    let gs = c.self.inside.groups.entries in
    let files = c.self.inside.files.entries in
    let file = c.in-Some.file.now in
    let at = sym c.in-Some.ensures.value in
    let w : File = record file { content = c.compact_rows.new.rows } in
    let written = shown_written gs files c.args.number file w at refl refl refl c.compact_rows.ensures.group
    (c.get_mut.follows.lender w).entries ((c.get_mut.follows.holds w).3 (search rules)).0 in
    let same : state_of gs file ≡ state = one_value (shown_at gs files c.args.number file at) (subst (λ f. get f c.args.number ≡ Some state) (sym c.self.view_is) here) in
    let moved = moved_on {E = ⊥} (Ok c.in_ok-compact_rows.field-0) c.args.change gs file.expr file.content c.compact_rows.new.rows c.in_ok-compact_rows.ensures.own c.compact_rows.ensures.ranged tt in (
      state_of gs w,
      c.drop_unasked.ensures ∙ c.renew_keys.ensures ∙ written ∙ (λ i. insert (c.self.view_is i) c.args.number (state_of gs w)),
      subst (λ (s : KeptFile). IsCompacted c.args.change s (state_of gs w)) same (record { expr = refl; uses = refl; base = moved.base; later = moved.later; stays = moved.stays }),
    )

pub returns-clause-rows : goal.returns-clause-rows
returns-clause-rows c = λ state here is_no_range kept after.
    let gs = c.self.inside.groups.entries in
    let files = c.self.inside.files.entries in
    let file = c.in-Some.file.now in
    let at = sym c.in-Some.ensures.value in
    let w : File = record file { content = c.compact_rows.new.rows } in
    let written = shown_written gs files c.args.number file w at refl refl refl c.compact_rows.ensures.group
    (c.get_mut.follows.lender w).entries ((c.get_mut.follows.holds w).3 (search rules)).0 in
    let same : state_of gs file ≡ state = one_value (shown_at gs files c.args.number file at) (subst (λ f. get f c.args.number ≡ Some state) (sym c.self.view_is) here) in
    let kept_is : state_of gs w ≡ kept = one_value (ap (λ f. get f c.args.number) (c.drop_unasked.ensures ∙ c.renew_keys.ensures ∙ written) ∙ put_same (shown gs files) c.args.number (state_of gs w)) after in
    let own : group_of file.content ≡ None = no_group gs files c.args.self.now c.self.view_is c.self.invariant.grouped c.args.number file at (λ other there. subst (λ (s : KeptFile). IsRange s.expr → ⊥) (one_value here there) is_no_range) in
    let is = c.in_ok-compact_rows.ensures.own own gs file.expr in
    subst (λ (k : KeptFile). AreLeftAt c.args.change state.content.rows k.content.rows) kept_is
    (subst (λ (s : KeptFile). AreLeftAt c.args.change s.content.rows (state_of gs w).content.rows) same is.left)

pub returns-clause-ranged : goal.returns-clause-ranged
returns-clause-ranged c = λ state here is_range kept after.
    let gs = c.self.inside.groups.entries in
    let files = c.self.inside.files.entries in
    let file = c.in-Some.file.now in
    let at = sym c.in-Some.ensures.value in
    let w : File = record file { content = c.compact_rows.new.rows } in
    let written = shown_written gs files c.args.number file w at refl refl refl c.compact_rows.ensures.group
    (c.get_mut.follows.lender w).entries ((c.get_mut.follows.holds w).3 (search rules)).0 in
    let same : state_of gs file ≡ state = one_value (shown_at gs files c.args.number file at) (subst (λ f. get f c.args.number ≡ Some state) (sym c.self.view_is) here) in
    let kept_is : state_of gs w ≡ kept = one_value (ap (λ f. get f c.args.number) (c.drop_unasked.ensures ∙ c.renew_keys.ensures ∙ written) ∙ put_same (shown gs files) c.args.number (state_of gs w)) after in
    let g = has_group gs files c.args.self.now c.self.view_is c.self.invariant.grouped c.args.number file at (subst (λ (s : KeptFile). IsRange s.expr) (sym same) is_range) in
    ap (λ (k : KeptFile). k.content.rows) (sym kept_is)
    ∙ moved_rows c.compact_rows.result c.args.change gs file.expr file.content c.compact_rows.new.rows c.compact_rows.ensures.own c.compact_rows.ensures.ranged c.compact_rows.ensures.err g.0 g.1
    ∙ ap (λ (s : KeptFile). s.content.rows) same

pub returns-in_err-compact_rows-clause-err : goal.returns-in_err-compact_rows-clause-err
returns-in_err-compact_rows-clause-err c =
    let gs = c.self.inside.groups.entries in
    let files = c.self.inside.files.entries in
    let file = c.in-Some.file.now in
    let at = sym c.in-Some.ensures.value in
    let w : File = record file { content = c.compact_rows.new.rows } in
    let written = shown_written gs files c.args.number file w at refl refl refl c.compact_rows.ensures.group
    (c.get_mut.follows.lender w).entries ((c.get_mut.follows.holds w).3 (search rules)).0 in
    any_err c.from_residual.result (written
    ∙ (λ i. insert (shown gs files) c.args.number (record (state_of gs file) { content = content_of gs file.expr (c.in_err-compact_rows.ensures.err i) }))
    ∙ put_again (shown gs files) c.args.number (state_of gs file) (shown_at gs files c.args.number file at) ∙ c.self.view_is)
