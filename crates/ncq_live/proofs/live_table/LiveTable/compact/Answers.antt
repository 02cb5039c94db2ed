use Rattle.std.proofs.Common.{◌≡◌, ◌∙◌, List}
use Rattle.std.specs.Prelude.{Some}
use Rattle.std.specs.FinMap.{get, insert}
use Rattle.ncq_shelf.specs.KeptFiles.{Files}
use Rattle.ncq_shelf.proofs.CallerLemmas.{put_same}
use Rattle.ncq_group.specs.Tables.{TableState}
use Rattle.ncq_book.specs.declared.subscription.Subscription.{Subscription}
use Rattle.ncq_live.specs.Wears.{WearState}
use Rattle.ncq_live.proofs.LiveTableLaws.{table_put}
use Rattle.ncq_live.proofs.PinLaws.{pinned_fewer, pinned_put}
use Rattle.ncq_live.proofs.WearLaws.{bounds_compacted}
use Rattle.ncq_live.proofs.live_table.LiveTable.compact.Goals as goal

pub count_anew-requires : goal.count_anew-requires
count_anew-requires c =
    let files : Files = c.self.inside.groups.files in
    let put = c.in_ok-compact.ensures.ok c.requires.there.file ((λ i. get (c.self.view_is i).table.files c.args.number) ∙ c.requires.there.at) in
    record { file = put.0; at = (λ i. get (put.1 i) c.args.number) ∙ put_same files c.args.number put.0 }

pub invariant_of-self-2 : goal.invariant_of-self-2
invariant_of-self-2 c =
    let table : TableState = c.self.inside.groups in
    let new : TableState = c.compact.new.self in
    let subscriptions : List Subscription = c.self.inside.book.subscriptions in
    let before : WearState = c.self.inside.wear in
    let after : WearState = c.count_anew.new.wear in
    let kept = c.requires.there.file in
    let at : get table.files c.args.number ≡ Some kept = (λ i. get (c.self.view_is i).table.files c.args.number) ∙ c.requires.there.at in
    let put = c.in_ok-compact.ensures.ok kept at in
    let next_at : get new.files c.args.number ≡ Some put.0 = (λ i. get (put.1 i) c.args.number) ∙ put_same table.files c.args.number put.0 in
    let up = c.requires.base kept c.requires.there.at in
    record {
      live_table = table_put table new subscriptions c.self.invariant.live_table c.args.number kept put.0 at put.1 put.2.expr put.2.uses;
      bounds = bounds_compacted table.files new.files c.args.number c.args.change kept put.0 at up put.2 put.1 before.bounds after.bounds (c.count_anew.ensures.here put.0 next_at) c.count_anew.ensures.others c.self.invariant.bounds;
      pinned =
          pinned_put table new subscriptions after.pinned c.args.number put.0 put.1 c.compact.ensures.next_file c.count_anew.ensures.free
          (pinned_fewer table subscriptions before.pinned after.pinned c.count_anew.ensures.pinned c.self.invariant.pinned);
    }

pub returns-clause-ok : goal.returns-clause-ok
returns-clause-ok c = λ file at.
    let put = c.in_ok-compact.ensures.ok file ((λ i. get (c.self.view_is i).table.files c.args.number) ∙ at) in
    (put.0, put.1 ∙ (λ i. insert (c.self.view_is i).table.files c.args.number put.0), put.2)

pub returns-clause-rows : goal.returns-clause-rows
returns-clause-rows c = λ file at. c.in_ok-compact.ensures.rows file ((λ i. get (c.self.view_is i).table.files c.args.number) ∙ at)
