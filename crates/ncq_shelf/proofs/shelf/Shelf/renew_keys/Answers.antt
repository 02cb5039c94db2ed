use Rattle.std.proofs.Common.{sym, subst}
use Rattle.ncq_midfile.specs.Files.{FileState}
use Rattle.ncq_shelf.specs.Keyed.{Renews}
use Rattle.ncq_shelf.specs.Shown.{shown, state_of}
use Rattle.ncq_shelf.proofs.Indexes.{shown_at}
use Rattle.ncq_shelf.proofs.KeyedLaws.{keyed_renewed}
use Rattle.ncq_shelf.proofs.shelf.Shelf.renew_keys.Goals as goal

pub view_of-view-requires : goal.view_of-view-requires
view_of-view-requires c = c.self.invariant.grouped.right c.args.number c.in-Some.file.now (sym c.in-Some.ensures.value)

pub invariant_of-self : goal.invariant_of-self
invariant_of-self c =
    let gs = c.self.inside.groups.entries in
    let files = c.self.inside.files.entries in
    let file = c.in-Some.file.now in
    let new = c.renew.new.self in
    record {
      shelved = c.self.invariant.shelved;
      grouped = c.self.invariant.grouped;
      keyed = keyed_renewed gs (shown gs files) c.args.number (state_of gs file) c.self.inside.keys new (shown_at gs files c.args.number file (sym c.in-Some.ensures.value))
          (subst (λ (s : FileState). Renews c.self.inside.keys c.args.number s.rows new) c.view_of-view.ensures.shown c.renew.ensures) c.self.invariant.keyed;
    }
