use Rattle.std.proofs.Common.{◌≡◌, ℕ, List, true, subst}
use Rattle.std.specs.Prelude.{IfOk, nat_eq}
use Rattle.std.specs.List.{list_any}
use Rattle.std.proofs.lemmas.Result.{IfOk-weaker}
use Rattle.ncq_shelf.specs.KeptFiles.{Files}
use Rattle.ncq_shelf.specs.Stands.{IsThere}
use Rattle.ncq_group.specs.Tables.{TableState}
use Rattle.ncq_book.specs.declared.subscription.Subscription.{Subscription}
use Rattle.ncq_live.specs.LiveTables.{LiveState}
use Rattle.ncq_live.specs.Wears.{HasTheWorn, is_among}
use Rattle.ncq_live.proofs.WearLaws.{order_same, worn_listed}
use Rattle.ncq_live.proofs.live_table.LiveTable.worn.Goals as goal

pub invariant_of-self : goal.invariant_of-self
invariant_of-self c = order_same c.self.inside.groups c.self.inside.book.subscriptions c.self.inside.wear c.gather.new.self c.gather.ensures.bounds c.gather.ensures.pinned c.self.invariant

pub invariant_of-self-2 : goal.invariant_of-self-2
invariant_of-self-2 c = order_same c.self.inside.groups c.self.inside.book.subscriptions c.self.inside.wear c.gather.new.self c.gather.ensures.bounds c.gather.ensures.pinned c.self.invariant

pub returns-clause-worn : goal.returns-clause-worn
returns-clause-worn c =
    let table : TableState = c.self.inside.groups in
    let files : Files = table.files in
    let subscriptions : List Subscription = c.self.inside.book.subscriptions in
    let order = order_same table subscriptions c.self.inside.wear c.gather.new.self c.gather.ensures.bounds c.gather.ensures.pinned c.self.invariant in
    subst (λ (r : LiveState). IfOk c.those_there.result (HasTheWorn r.table.files r.subscriptions)) c.self.view_is
    (IfOk-weaker c.those_there.result _ _
    (λ list has. worn_listed table subscriptions c.gather.new.self list order c.in_ok-gather.ensures.ok
    (subst (λ keys. (number : ℕ) → IsThere files number → is_among number keys ≡ true → list_any (nat_eq number) list ≡ true) c.worn.ensures has))
    c.those_there.ensures.has)
