use Rattle.std.proofs.Common.{◌≡◌, sym, ap, ◌∙◌, subst, refl, rules}
use Rattle.std.specs.FinMap.{insert}
use Rattle.ncq_shelf.specs.Groups.{content_of, group_of}
use Rattle.ncq_shelf.specs.Keyed.{IsKeyed, AreHeld}
use Rattle.ncq_shelf.specs.Shown.{shown, state_of}
use Rattle.ncq_shelf.specs.declared.file.File.{File}
use Rattle.ncq_shelf.specs.declared.rows.Rows.{Rows}
use Rattle.ncq_shelf.proofs.Maps.{put_again}
use Rattle.ncq_shelf.proofs.Indexes.{shown_at}
use Rattle.ncq_shelf.proofs.SameFiles.{shown_written, shelved_written, grouped_written}
use Rattle.ncq_shelf.proofs.KeyedLaws.{keyed_put}
use Rattle.ncq_shelf.proofs.shelf.Shelf.drop_unjoined.Goals as goal

pub invariant_of-self-2 : goal.invariant_of-self-2
invariant_of-self-2 c =
    let file = c.in-Some.file.now in
    let at = sym c.in-Some.ensures.value in
    let w : File = record file { content = c.unindex_rows.new.rows } in
    let same : group_of c.unindex_rows.new.rows ≡ group_of file.content = ap group_of c.unindex_rows.ensures in
    let step = (c.get_mut.follows.lender w).entries in
    let is = ((c.get_mut.follows.holds w).3 (search rules)).0 in
    let written = shown_written c.self.inside.groups.entries c.self.inside.files.entries c.args.number file w at refl refl refl same step is in
    record {
      shelved = shelved_written c.self.inside.groups.entries c.self.inside.files.entries c.args.number file w at refl refl refl same step is c.self.inside.numbers.entries c.self.inside.scans.entries c.self.invariant.shelved;
      grouped = grouped_written c.self.inside.groups.entries c.self.inside.files.entries c.args.number file w at refl refl refl same step is c.self.invariant.grouped;
      keyed = subst (λ m. IsKeyed m c.self.inside.keys) (sym written)
          (keyed_put c.self.inside.groups.entries (shown c.self.inside.groups.entries c.self.inside.files.entries) c.args.number (state_of c.self.inside.groups.entries file) (state_of c.self.inside.groups.entries w) c.self.inside.keys (shown_at c.self.inside.groups.entries c.self.inside.files.entries c.args.number file at) refl
          (λ slot k h. subst (λ (rows : Rows). AreHeld c.self.inside.keys.holders c.args.number slot (content_of c.self.inside.groups.entries file.expr rows).rows) (sym c.unindex_rows.ensures) h) c.self.invariant.keyed);
    }

pub returns : goal.returns
returns c =
    let file = c.in-Some.file.now in
    let at = sym c.in-Some.ensures.value in
    let w : File = record file { content = c.unindex_rows.new.rows } in
    let same : group_of c.unindex_rows.new.rows ≡ group_of file.content = ap group_of c.unindex_rows.ensures in
    let step = (c.get_mut.follows.lender w).entries in
    shown_written c.self.inside.groups.entries c.self.inside.files.entries c.args.number file w at refl refl refl same step ((c.get_mut.follows.holds w).3 (search rules)).0
    ∙ (λ i. insert (shown c.self.inside.groups.entries c.self.inside.files.entries) c.args.number (record (state_of c.self.inside.groups.entries file) { content = content_of c.self.inside.groups.entries file.expr (c.unindex_rows.ensures i) }))
    ∙ put_again (shown c.self.inside.groups.entries c.self.inside.files.entries) c.args.number (state_of c.self.inside.groups.entries file) (shown_at c.self.inside.groups.entries c.self.inside.files.entries c.args.number file at) ∙ c.self.view_is
