use Rattle.std.proofs.Common.{◌≡◌, ◌+◌, ◌≤◌, ℕ, refl, sym, subst, arith}
use Rattle.std.specs.Option.{option_map}
use Rattle.std.specs.FinMap.{get}
use Rattle.ncq_shelf.specs.Contents.{cut_to}
use Rattle.ncq_feed.specs.Runs.{Run, all_due, own_due, groups}
use Rattle.ncq_shelf.specs.Contents.{sum_over}
use Rattle.ncq_feed.proofs.CountLaws.{all_due_is}
use Rattle.ncq_feed.proofs.FeedLaws.{are_fed, are_ready}
use Rattle.ncq_feed.proofs.GrowthLaws.{rolled_back, based}
use Rattle.ncq_feed.proofs.OwnLaws.{own_due_is, groups_are}
use Rattle.ncq_feed.proofs.feeding.feed.Goals as goal

pub pass_on-requires : goal.pass_on-requires
pass_on-requires g c = λ κs within.
    (within, (refl, (refl, (refl, record { change = c.requires.change; more = c.requires.more; ready = c.requires.ready }))))

pub roll_back-requires : goal.roll_back-requires
roll_back-requires g c = λ number file at.
    subst (λ (n : ℕ). file.content.base ≤ n) (sym c.changes.ensures) (based _ c.pass_on.new.shelf c.pass_on.ensures.under number file at)

pub returns-in-Ok-clause-fed : goal.returns-in-Ok-clause-fed
returns-in-Ok-clause-fed g c = are_fed _ c.pass_on.new.shelf c.pass_on.ensures.under c.in-Ok.ensures.right

pub returns-in-Ok-clause-ready : goal.returns-in-Ok-clause-ready
returns-in-Ok-clause-ready g c = are_ready _ c.pass_on.new.shelf c.pass_on.ensures.under c.in-Ok.ensures.right

pub returns-in-Ok-clause-named : goal.returns-in-Ok-clause-named
returns-in-Ok-clause-named g c = c.in-Ok.ensures.named

pub returns-in-Err-clause-err : goal.returns-in-Err-clause-err
returns-in-Err-clause-err g c =
    rolled_back _ c.pass_on.new.shelf c.pass_on.ensures.under c.roll_back.new.self
    (subst (λ (n : ℕ). (number : ℕ) → get c.roll_back.new.self number ≡ option_map (cut_to n) (get c.pass_on.new.shelf number)) c.changes.ensures c.roll_back.ensures)

pub returns-in-Ok-clause-cost : goal.returns-in-Ok-clause-cost
returns-in-Ok-clause-cost g c =
    let run : Run = record { store = c.args.store.now; change = c.args.change.now; files = c.args.shelf.now } in
    let cost : c.pass_on.new.steps ≤ c.args.steps.now + all_due run = c.pass_on.ensures.cost in
    subst (λ (n : ℕ). c.pass_on.new.steps ≤ c.args.steps.now + n) (all_due_is run) cost

pub returns-in-Err-clause-cost : goal.returns-in-Err-clause-cost
returns-in-Err-clause-cost g c =
    let run : Run = record { store = c.args.store.now; change = c.args.change.now; files = c.args.shelf.now } in
    let cost : c.pass_on.new.steps ≤ c.args.steps.now + all_due run = c.pass_on.ensures.cost in
    subst (λ (n : ℕ). c.pass_on.new.steps ≤ c.args.steps.now + n) (all_due_is run) cost

pub returns-in-Ok-clause-shared : goal.returns-in-Ok-clause-shared
returns-in-Ok-clause-shared g c = λ held counted.
    let run : Run = record { store = c.args.store.now; change = c.args.change.now; files = c.args.shelf.now } in
    let cost : c.pass_on.new.steps ≤ c.args.steps.now + (own_due run + sum_over run.files (groups run held)) = c.pass_on.ensures.shared held counted in
    let own = own_due_is run in
    let all = groups_are run held in
    omega arith

pub returns-in-Err-clause-shared : goal.returns-in-Err-clause-shared
returns-in-Err-clause-shared g c = λ held counted.
    let run : Run = record { store = c.args.store.now; change = c.args.change.now; files = c.args.shelf.now } in
    let cost : c.pass_on.new.steps ≤ c.args.steps.now + (own_due run + sum_over run.files (groups run held)) = c.pass_on.ensures.shared held counted in
    let own = own_due_is run in
    let all = groups_are run held in
    omega arith
