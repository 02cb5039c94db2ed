use Rattle.std.proofs.Common.{◌≡◌, ◌∙◌, List, ap}
use Rattle.std.specs.Prelude.{Some}
use Rattle.std.specs.FinMap.{get, insert}
use Rattle.ncq_shelf.specs.KeptFiles.{Files}
use Rattle.ncq_shelf.proofs.CallerLemmas.{put_same}
use Rattle.ncq_group.specs.Tables.{TableState}
use Rattle.ncq_book.specs.declared.subscription.Subscription.{Subscription}
use Rattle.ncq_live.specs.LiveTables.{LiveState}
use Rattle.ncq_live.proofs.LiveTableLaws.{table_put}
use Rattle.ncq_live.proofs.PinLaws.{pinned_raised}
use Rattle.ncq_live.proofs.WearLaws.{bounds_raised}
use Rattle.ncq_live.proofs.live_table.LiveTable.raise_base.Goals as goal

pub invariant_of-self : goal.invariant_of-self
invariant_of-self c =
    let table : TableState = c.self.inside.groups in
    let new : TableState = c.raise_base.new.self in
    let subscriptions : List Subscription = c.self.inside.book.subscriptions in
    let kept = c.requires.there.file in
    let at : get table.files c.args.number ≡ Some kept = (λ i. get (c.self.view_is i).table.files c.args.number) ∙ c.requires.there.at in
    let put = c.raise_base.ensures.raised kept at in
    let up = c.requires.base kept c.requires.there.at in
    record {
      live_table = table_put table new subscriptions c.self.invariant.live_table c.args.number kept put.0 at put.1 put.2.expr put.2.uses;
      bounds = bounds_raised table.files new.files c.args.number c.args.change kept put.0 at up put.2 put.1 c.self.inside.wear.bounds c.self.invariant.bounds;
      pinned = pinned_raised table new subscriptions c.self.inside.wear.pinned c.args.number c.args.change kept put.0 at put.2 put.1 c.raise_base.ensures.next_file c.self.invariant.pinned;
    }

pub recount-requires : goal.recount-requires
recount-requires c =
    let files : Files = c.self.inside.groups.files in
    let put = c.raise_base.ensures.raised c.requires.there.file ((λ i. get (c.self.view_is i).table.files c.args.number) ∙ c.requires.there.at) in
    record { file = put.0; at = (λ i. get (put.1 i) c.args.number) ∙ put_same files c.args.number put.0 }

pub returns-clause-raised : goal.returns-clause-raised
returns-clause-raised c = λ file at.
    let put = c.raise_base.ensures.raised file ((λ i. get (c.self.view_is i).table.files c.args.number) ∙ at) in
    (put.0, ap (λ (r : LiveState). r.table.files) c.recount.ensures ∙ put.1 ∙ (λ i. insert (c.self.view_is i).table.files c.args.number put.0), put.2)
