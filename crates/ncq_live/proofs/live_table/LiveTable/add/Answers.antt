use Rattle.std.proofs.Common.{◌≡◌, ◌∙◌, ◌<◌, ◌-◌, ◌^◌, ap, subst, sym, length}
use Rattle.std.specs.List.{AllByRecursion}
use Rattle.ncq_plan.specs.WellFormed.{IsWellFormedExpr}
use Rattle.ncq_strategy.proofs.ChoiceLaws.{either_formed}
use Rattle.ncq_book.specs.Books.{BookState}
use Rattle.ncq_book.specs.declared.subscription.Subscription.{Subscription}
use Rattle.ncq_change.specs.Stores.{world_in}
use Rattle.ncq_shelf.specs.Contents.{Fits}
use Rattle.ncq_group.specs.Tables.{TableState, Facts}
use Rattle.ncq_group.specs.Installs.{NamesTheMissing}
use Rattle.ncq_live.specs.LiveTables.{LiveState}
use Rattle.ncq_live.specs.Wears.{IsInOrder}
use Rattle.ncq_live.proofs.LiveTableLaws.{uses_few, table_more}
use Rattle.ncq_live.proofs.UndoLaws.{installed_use, at_mark, table_back}
use Rattle.ncq_live.proofs.WearLaws.{bounds_installed, pinned_installed}
use Rattle.ncq_live.proofs.live_table.LiveTable.add.Given.{Over}
use Rattle.ncq_live.proofs.live_table.LiveTable.add.Goals as goal

pub install-requires-clause-formed : goal.install-requires-clause-formed
install-requires-clause-formed g c = subst IsWellFormedExpr (sym c.requires.plan) (either_formed c.args.subscription.choice c.args.subscription.query c.requires.formed)

pub install-requires-clause-uses : goal.install-requires-clause-uses
install-requires-clause-uses g c =
    uses_few c.self.inside.groups c.self.inside.book.subscriptions c.self.invariant.live_table (subst (λ (r : LiveState). length r.subscriptions < 2 ^ 64 - 1) (sym c.self.view_is) c.requires.few)

pub returns-in_err-file-clause-cost : goal.returns-in_err-file-clause-cost
returns-in_err-file-clause-cost g c = λ missing names.
    c.install.ensures.cost missing (subst (λ (r : LiveState). NamesTheMissing r.table.files c.args.plan.now missing) (sym c.self.view_is) names)

pub add-requires-clause-above : goal.add-requires-clause-above
add-requires-clause-above g c = subst (λ (r : LiveState). AllByRecursion (λ (m : Subscription). m.install < c.args.subscription.install) r.subscriptions) (sym c.self.view_is) c.requires.above

pub add-requires-clause-few : goal.add-requires-clause-few
add-requires-clause-few g c = subst (λ (r : LiveState). length r.subscriptions < 2 ^ 64 - 1) (sym c.self.view_is) c.requires.few

pub invariant_of-self-in-Ok : goal.invariant_of-self-in-Ok
invariant_of-self-in-Ok g c =
    let facts : Facts c.self.inside.groups = subst (λ (r : LiveState). Facts r.table) (sym c.self.view_is) c.facts.ensures.facts in
    let subscription : Subscription = record (c.args.subscription) { file = c.in_ok-file.file } in
    subst (λ (b : BookState). IsInOrder c.install.new.self b.subscriptions c.self.inside.wear) (sym c.in-Ok.ensures.ok)
    (record {
      live_table = table_more c.self.inside.groups c.install.new.self facts c.self.inside.book.subscriptions c.self.invariant.live_table subscription c.args.plan.now c.requires.formed c.requires.plan c.in_ok-file.ensures.ok;
      bounds = bounds_installed c.args.plan.now c.self.inside.groups c.install.new.self c.in_ok-file.file.0 c.in_ok-file.ensures.ok c.self.inside.wear.bounds c.self.invariant.bounds;
      pinned =
          pinned_installed c.args.plan.now c.self.inside.groups c.install.new.self c.in_ok-file.file.0 c.in_ok-file.ensures.ok c.self.inside.book.subscriptions subscription c.self.inside.wear.pinned
          c.self.invariant.pinned;
    })

pub release-requires : goal.release-requires
release-requires g c = installed_use c.args.plan.now c.self.inside.groups c.install.new.self c.in_ok-file.file.0 c.in_ok-file.ensures.ok

pub roll_back-requires-clause-base : goal.roll_back-requires-clause-base
roll_back-requires-clause-base g c =
    let facts : Facts c.self.inside.groups = subst (λ (r : LiveState). Facts r.table) (sym c.self.view_is) c.facts.ensures.facts in
    λ number file at.
    (at_mark c.args.plan.now c.self.inside.groups c.install.new.self c.in_ok-file.file.0 c.in_ok-file.ensures.ok facts c.facts-2.ensures.facts c.release.new.self.files c.release.ensures.files c.mark-before.result c.mark-before.ensures number file at).0

pub roll_back-requires-clause-below : goal.roll_back-requires-clause-below
roll_back-requires-clause-below g c =
    let facts : Facts c.self.inside.groups = subst (λ (r : LiveState). Facts r.table) (sym c.self.view_is) c.facts.ensures.facts in
    λ number file at.
    (at_mark c.args.plan.now c.self.inside.groups c.install.new.self c.in_ok-file.file.0 c.in_ok-file.ensures.ok facts c.facts-2.ensures.facts c.release.new.self.files c.release.ensures.files c.mark-before.result c.mark-before.ensures number file at).1

-- a refused subscription leaves the table of before
back : (g : Over) (c : goal.After-roll_back g) → c.roll_back.new.self ≡ c.self.inside.groups
back g c =
    let facts : Facts c.self.inside.groups = subst (λ (r : LiveState). Facts r.table) (sym c.self.view_is) c.facts.ensures.facts in
    table_back c.args.plan.now c.self.inside.groups c.install.new.self c.in_ok-file.file.0 c.in_ok-file.ensures.ok facts c.facts-2.ensures.facts c.release.new.self.files c.release.ensures.files
    c.mark-before.result c.roll_back.new.self c.mark-before.ensures c.roll_back.ensures.number c.roll_back.ensures.next_file c.roll_back.ensures.files

pub invariant_of-self-in-Err : goal.invariant_of-self-in-Err
invariant_of-self-in-Err g c =
    subst (λ (t : TableState). IsInOrder t c.add.new.self.subscriptions c.self.inside.wear) (sym (back g c))
    (subst (λ (b : BookState). IsInOrder c.self.inside.groups b.subscriptions c.self.inside.wear) (sym c.in-Err.ensures.err) c.self.invariant)

pub returns-in-Ok-clause-cost : goal.returns-in-Ok-clause-cost
returns-in-Ok-clause-cost g c = λ missing names.
    c.install.ensures.cost missing (subst (λ (r : LiveState). NamesTheMissing r.table.files c.args.plan.now missing) (sym c.self.view_is) names)

pub returns-in-Err-clause-fits : goal.returns-in-Err-clause-fits
returns-in-Err-clause-fits g c =
    subst (λ (t : TableState). Fits c.args.self.now.table.number (world_in c.args.store.now) t.files) (sym (back g c ∙ ap (λ (r : LiveState). r.table) c.self.view_is)) c.requires.fits

pub returns-in-Err-clause-err : goal.returns-in-Err-clause-err
returns-in-Err-clause-err g c =
    (λ i. record { table = back g c i; subscriptions = (c.in-Err.ensures.err i).subscriptions; instant = (c.in-Err.ensures.err i).instant }) ∙ c.self.view_is

pub returns-in-Err-clause-cost : goal.returns-in-Err-clause-cost
returns-in-Err-clause-cost g c = λ missing names.
    c.install.ensures.cost missing (subst (λ (r : LiveState). NamesTheMissing r.table.files c.args.plan.now missing) (sym c.self.view_is) names)
