use Rattle.std.proofs.Common.{◌≡◌, Some, sym, ap, ◌∙◌, subst, refl, rules}
use Rattle.std.specs.Option.{option_map}
use Rattle.std.specs.FinMap.{get, insert}
use Rattle.ncq_shelf.specs.KeptFiles.{KeptFile}
use Rattle.ncq_shelf.specs.Contents.{IsRaised}
use Rattle.ncq_shelf.specs.Keyed.{AreHeld, IsKeyed}
use Rattle.ncq_shelf.specs.Ranges.{IsRange}
use Rattle.ncq_shelf.specs.Shown.{shown, state_of}
use Rattle.ncq_shelf.specs.declared.file.File.{File}
use Rattle.ncq_shelf.proofs.Maps.{one_value, there, put_same}
use Rattle.ncq_shelf.proofs.ShownFiles.{get_shown}
use Rattle.ncq_shelf.proofs.Indexes.{shown_at}
use Rattle.ncq_shelf.proofs.SameFiles.{shown_written, shelved_written, grouped_written}
use Rattle.ncq_shelf.proofs.Grouped.{has_group}
use Rattle.ncq_shelf.proofs.MovedBases.{either_base, same_group, same_rows, with_base}
use Rattle.ncq_shelf.proofs.KeyedLaws.{keyed_put}
use Rattle.ncq_shelf.proofs.shelf.Shelf.set_base.Goals as goal

pub unreachable-requires : goal.unreachable-requires
unreachable-requires c =
    there (subst (λ f. get f c.args.number ≡ Some c.requires.there.file) (sym c.self.view_is) c.requires.there.at) (get_shown c.self.inside.groups.entries c.self.inside.files.entries c.args.number ∙ ap (option_map (state_of c.self.inside.groups.entries)) (sym c.in_default.ensures.value))

pub invariant_of-self : goal.invariant_of-self
invariant_of-self c =
    let gs = c.self.inside.groups.entries in
    let files = c.self.inside.files.entries in
    let file = c.in-Some.file.now in
    let at = sym c.in-Some.ensures.value in
    let w : File = record file { content = c.raise_rows.new.rows } in
    let same = same_group c.args.change gs file.expr file.content c.raise_rows.new.rows c.raise_rows.ensures.own c.raise_rows.ensures.ranged in
    let step = (c.get_mut.follows.lender w).entries in
    let is = ((c.get_mut.follows.holds w).3 (search rules)).0 in
    record {
      shelved = shelved_written gs files c.args.number file w at refl refl refl same step is c.self.inside.numbers.entries c.self.inside.scans.entries c.self.invariant.shelved;
      grouped = grouped_written gs files c.args.number file w at refl refl refl same step is c.self.invariant.grouped;
      keyed = subst (λ m. IsKeyed m c.self.inside.keys) (sym (shown_written gs files c.args.number file w at refl refl refl same step is))
          (keyed_put gs (shown gs files) c.args.number (state_of gs file) (state_of gs w) c.self.inside.keys (shown_at gs files c.args.number file at) refl
          (λ slot k h. subst (AreHeld c.self.inside.keys.holders c.args.number slot) (sym (same_rows c.args.change gs file.expr file.content c.raise_rows.new.rows c.raise_rows.ensures.own c.raise_rows.ensures.ranged)) h) c.self.invariant.keyed);
    }

pub returns-clause-raised : goal.returns-clause-raised
returns-clause-raised c = λ state here.
    let gs = c.self.inside.groups.entries in
    let files = c.self.inside.files.entries in
    let file = c.in-Some.file.now in
    let at = sym c.in-Some.ensures.value in
    let w : File = record file { content = c.raise_rows.new.rows } in
    let same = same_group c.args.change gs file.expr file.content c.raise_rows.new.rows c.raise_rows.ensures.own c.raise_rows.ensures.ranged in
    let its : state_of gs file ≡ state = one_value (shown_at gs files c.args.number file at) (subst (λ f. get f c.args.number ≡ Some state) (sym c.self.view_is) here) in (
      state_of gs w,
      shown_written gs files c.args.number file w at refl refl refl same (c.get_mut.follows.lender w).entries ((c.get_mut.follows.holds w).3 (search rules)).0 ∙ (λ i. insert (c.self.view_is i) c.args.number (state_of gs w)),
      subst (λ (s : KeptFile). IsRaised c.args.change s (state_of gs w)) its
          (record {
            expr = refl;
            uses = refl;
            rows = same_rows c.args.change gs file.expr file.content c.raise_rows.new.rows c.raise_rows.ensures.own c.raise_rows.ensures.ranged;
            base = either_base c.args.change gs file.expr file.content c.raise_rows.new.rows c.raise_rows.ensures.own c.raise_rows.ensures.ranged;
          }),
    )

pub returns-clause-ranged : goal.returns-clause-ranged
returns-clause-ranged c = λ state here is_range kept after.
    let gs = c.self.inside.groups.entries in
    let files = c.self.inside.files.entries in
    let file = c.in-Some.file.now in
    let at = sym c.in-Some.ensures.value in
    let w : File = record file { content = c.raise_rows.new.rows } in
    let same = same_group c.args.change gs file.expr file.content c.raise_rows.new.rows c.raise_rows.ensures.own c.raise_rows.ensures.ranged in
    let written = shown_written gs files c.args.number file w at refl refl refl same (c.get_mut.follows.lender w).entries ((c.get_mut.follows.holds w).3 (search rules)).0 in
    let its : state_of gs file ≡ state = one_value (shown_at gs files c.args.number file at) (subst (λ f. get f c.args.number ≡ Some state) (sym c.self.view_is) here) in
    let kept_is : state_of gs w ≡ kept = one_value (ap (λ f. get f c.args.number) written ∙ put_same (shown gs files) c.args.number (state_of gs w)) after in
    let g = has_group gs files c.args.self.now c.self.view_is c.self.invariant.grouped c.args.number file at (subst (λ (s : KeptFile). IsRange s.expr) (sym its) is_range) in
    ap (λ (k : KeptFile). k.content.base) (sym kept_is)
    ∙ with_base c.args.change gs file.expr file.content c.raise_rows.new.rows c.raise_rows.ensures.own c.raise_rows.ensures.ranged g.0 g.1
