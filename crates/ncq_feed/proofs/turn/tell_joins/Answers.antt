use Rattle.std.proofs.Common.{◌||◌, ◌∙◌, ap, arith}
use Rattle.ncq_feed.specs.Runs.{is_among}
use Rattle.ncq_feed.proofs.GrowthLaws.{there_up, formed, based}
use Rattle.ncq_feed.proofs.ParcelLaws.{joins_told}
use Rattle.ncq_feed.proofs.turn.tell_joins.Goals as goal

pub joins_met-requires : goal.joins_met-requires
joins_met-requires g c =
    let files = c.args.shelf.now in
    let under = c.requires.1.0 in
    record {
      there = there_up g.run files under c.args.at c.requires.1.1;
      base = λ file at. let b = based g.run files under c.args.at file at in let now = c.requires.0 in omega arith;
      formed = formed g.run files under;
      wide = under.wide;
    }

pub returns : goal.returns
returns g c =
    joins_told g.run c.args.shelf.now c.requires.1.0 c.args.at c.args.now c.requires.0 c.in_ok-joins.joins c.args.pending.now c.note_all.new.self c.in_ok-joins.ensures.met
    (λ number. c.in_ok-note_all.ensures number ∙ ap (λ numbers. is_among number numbers || is_among number c.args.pending.now) c.as_slice.ensures)
