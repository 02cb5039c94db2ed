use Rattle.std.proofs.Common.{◌≡◌, ◌+◌, ◌-◌, Some, subst, arith}
use Rattle.std.specs.FinMap.{get}
use Rattle.ncq_midfile.specs.Content.{since}
use Rattle.ncq_shelf.specs.KeptFiles.{KeptFile}
use Rattle.ncq_shelf.specs.Ranges.{AreHeldOf}
use Rattle.ncq_shelf.specs.Readers.{ArePassedOn}
use Rattle.ncq_feed.proofs.GrowthLaws.{there_up, grounded, formed, based}
use Rattle.ncq_feed.proofs.PaidLaws.{held_here, held_paid, parcels_paid}
use Rattle.ncq_feed.proofs.ParcelLaws.{parcels_fit, held_fit, passed_down}
use Rattle.ncq_feed.proofs.turn.pass_down.Goals as goal

pub held-requires : goal.held-requires
held-requires g c =
    let files = c.args.shelf.now in
    let under = c.requires.1.1.0 in
    record {
      there = there_up g.run files under c.args.at c.requires.1.1.1;
      base = λ file at. let b = based g.run files under c.args.at file at in let now = c.requires.1.0 in omega arith;
      grounded = grounded g.run files under;
      formed = formed g.run files under;
      wide = under.wide;
    }

pub parcels-requires : goal.parcels-requires
parcels-requires g c =
    let files = c.args.shelf.now in
    let under = c.requires.1.1.0 in
    record {
      there = there_up g.run files under c.args.at c.requires.1.1.1;
      base = λ file at. let b = based g.run files under c.args.at file at in let now = c.requires.1.0 in omega arith;
      grounded = grounded g.run files under;
      formed = formed g.run files under;
      wide = under.wide;
    }

pub deliver-requires : goal.deliver-requires
deliver-requires g c =
    let files = c.args.shelf.now in
    let parcels = c.in_ok-parcels.parcels in
    let back : (c.args.now + 1) - 1 ≡ g.run.store.changes = let now = c.requires.1.0 in omega arith in
    let passed = subst (λ n. (file : KeptFile) → get files c.args.at ≡ Some file → ArePassedOn files c.args.at (since n file.content.rows) parcels) back c.in_ok-parcels.ensures.parcels in
    (c.requires.1.1.0, parcels_fit g.run files c.requires.1.1.0 c.args.at c.requires.1.1.1 parcels passed)

pub deliver_held-requires : goal.deliver_held-requires
deliver_held-requires g c =
    let files = c.args.shelf.now in
    let parcels = c.in_ok-parcels.parcels in
    let held = c.in_ok-held.held in
    let back : (c.args.now + 1) - 1 ≡ g.run.store.changes = let now = c.requires.1.0 in omega arith in
    let passed = subst (λ n. (file : KeptFile) → get files c.args.at ≡ Some file → ArePassedOn files c.args.at (since n file.content.rows) parcels) back c.in_ok-parcels.ensures.parcels in
    let are = subst (λ n. (file : KeptFile) → get files c.args.at ≡ Some file → AreHeldOf files c.args.at (since n file.content.rows) held) back c.in_ok-held.ensures.held in
    (c.deliver.ensures.under, (c.requires.1.1.1, held_fit g.run files c.requires.1.1.0 c.args.at c.requires.1.1.1 parcels passed held are))

pub returns-clause-down : goal.returns-clause-down
returns-clause-down g c =
    let files = c.args.shelf.now in
    let parcels = c.in_ok-parcels.parcels in
    let held = c.in_ok-held.held in
    let back : (c.args.now + 1) - 1 ≡ g.run.store.changes = let now = c.requires.1.0 in omega arith in
    let passed = subst (λ n. (file : KeptFile) → get files c.args.at ≡ Some file → ArePassedOn files c.args.at (since n file.content.rows) parcels) back c.in_ok-parcels.ensures.parcels in
    let are = subst (λ n. (file : KeptFile) → get files c.args.at ≡ Some file → AreHeldOf files c.args.at (since n file.content.rows) held) back c.in_ok-held.ensures.held in
    passed_down g.run files c.requires.1.1.0 c.args.at c.requires.1.1.1 parcels passed held are c.args.pending.now c.deliver.new.pending c.deliver_held.new.pending c.deliver.new.shelf c.deliver_held.new.shelf
    c.in_ok-deliver.ensures.delivered c.in_ok-deliver_held.ensures.shared

pub returns-in_err-held-clause-cost : goal.returns-in_err-held-clause-cost
returns-in_err-held-clause-cost g c = λ bound bounded.
    let back : (c.args.now + 1) - 1 ≡ g.run.store.changes = let now = c.requires.1.0 in omega arith in
    held_paid g.run c.args.shelf.now c.requires.1.1.0 c.args.at c.requires.1.1.1 _ back c.args.steps.now c.held.new.steps c.held.ensures.cost bound

pub returns-in_err-parcels-clause-cost : goal.returns-in_err-parcels-clause-cost
returns-in_err-parcels-clause-cost g c = λ bound bounded.
    let back : (c.args.now + 1) - 1 ≡ g.run.store.changes = let now = c.requires.1.0 in omega arith in
    let paid = parcels_paid g.run c.args.shelf.now c.requires.1.1.0 c.args.at c.requires.1.1.1 _ back bound bounded c.held.new.steps c.parcels.new.steps c.parcels.ensures.cost in
    let spent = c.in_ok-held.ensures.spent in
    (c.in_ok-held.held, held_here g.run c.args.shelf.now c.requires.1.1.0 c.args.at c.requires.1.1.1 _ back c.in_ok-held.held c.in_ok-held.ensures.held, omega arith)

pub returns-in_err-deliver-clause-cost : goal.returns-in_err-deliver-clause-cost
returns-in_err-deliver-clause-cost g c = λ bound bounded.
    let back : (c.args.now + 1) - 1 ≡ g.run.store.changes = let now = c.requires.1.0 in omega arith in
    let paid = parcels_paid g.run c.args.shelf.now c.requires.1.1.0 c.args.at c.requires.1.1.1 _ back bound bounded c.held.new.steps c.parcels.new.steps c.parcels.ensures.cost in
    let spent = c.in_ok-held.ensures.spent in
    (c.in_ok-held.held, held_here g.run c.args.shelf.now c.requires.1.1.0 c.args.at c.requires.1.1.1 _ back c.in_ok-held.held c.in_ok-held.ensures.held, omega arith)

pub returns-in_err-deliver_held-clause-cost : goal.returns-in_err-deliver_held-clause-cost
returns-in_err-deliver_held-clause-cost g c = λ bound bounded.
    let back : (c.args.now + 1) - 1 ≡ g.run.store.changes = let now = c.requires.1.0 in omega arith in
    let paid = parcels_paid g.run c.args.shelf.now c.requires.1.1.0 c.args.at c.requires.1.1.1 _ back bound bounded c.held.new.steps c.parcels.new.steps c.parcels.ensures.cost in
    let spent = c.in_ok-held.ensures.spent in
    (c.in_ok-held.held, held_here g.run c.args.shelf.now c.requires.1.1.0 c.args.at c.requires.1.1.1 _ back c.in_ok-held.held c.in_ok-held.ensures.held, omega arith)

pub returns-clause-cost : goal.returns-clause-cost
returns-clause-cost g c = λ bound bounded.
    let back : (c.args.now + 1) - 1 ≡ g.run.store.changes = let now = c.requires.1.0 in omega arith in
    let paid = parcels_paid g.run c.args.shelf.now c.requires.1.1.0 c.args.at c.requires.1.1.1 _ back bound bounded c.held.new.steps c.parcels.new.steps c.parcels.ensures.cost in
    let spent = c.in_ok-held.ensures.spent in
    (c.in_ok-held.held, held_here g.run c.args.shelf.now c.requires.1.1.0 c.args.at c.requires.1.1.1 _ back c.in_ok-held.held c.in_ok-held.ensures.held, omega arith)
