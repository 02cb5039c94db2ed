use Rattle.std.proofs.Common.{map}
use Rattle.ncq_base.specs.declared.atom.FileId.{FileId}
use Rattle.ncq_feed.proofs.GrowthLaws.{there_up}
use Rattle.ncq_feed.proofs.ShareLaws.{asks_taken, asks_slot, asks_last, shared_under, one_shared}
use Rattle.ncq_feed.proofs.turn.share_row.Goals as goal

pub append_held-requires : goal.append_held-requires
append_held-requires g c =
    let files = c.args.shelf.now in
    let under = c.requires.0 in
    let fits = c.requires.1.1 in
    record {
      there = there_up g.run files under c.args.at c.requires.1.0;
      taken = asks_taken g.run files under c.args.at c.args.slot c.args.row fits;
      slot = asks_slot g.run files under c.args.at c.args.slot c.args.row fits;
      last = asks_last g.run files under c.args.at c.args.slot c.args.row fits;
    }

pub returns-clause-under : goal.returns-clause-under
returns-clause-under g c = shared_under g.run c.args.shelf.now c.requires.0 c.args.at c.args.slot c.args.row c.requires.1.1 c.append_held.new.self c.in_ok-takers.ensures.ok

pub returns-clause-shared : goal.returns-clause-shared
returns-clause-shared g c =
    one_shared g.run c.args.shelf.now c.requires.0 c.args.at c.args.slot c.args.row c.requires.1.1 c.append_held.new.self c.in_ok-takers.ensures.ok
    (map (λ (file : FileId). file.0) c.in_ok-takers.takers) c.args.pending.now c.note_files.new.self c.in_ok-takers.ensures.told c.in_ok-note_files.ensures

pub returns-in_err-note_files-clause-under : goal.returns-in_err-note_files-clause-under
returns-in_err-note_files-clause-under g c = shared_under g.run c.args.shelf.now c.requires.0 c.args.at c.args.slot c.args.row c.requires.1.1 c.append_held.new.self c.in_ok-takers.ensures.ok
