use Rattle.std.proofs.Common.{◌≡◌, ◌∙◌, ap, subst, sym}
use Rattle.ncq_group.specs.Tables.{TableState}
use Rattle.ncq_group.specs.declared.mark.GroupMark.{GroupMark}
use Rattle.ncq_live.specs.LiveTables.{LiveState}
use Rattle.ncq_live.specs.Wears.{ArePinned, IsInOrder}
use Rattle.ncq_live.proofs.LiveTableLaws.{table_fed}
use Rattle.ncq_live.proofs.WearLaws.{AreNoted, bounds_fed, bounds_more, pinned_fed, table_unfed}
use Rattle.ncq_live.proofs.live_table.LiveTable.feed.Given.{Over}
use Rattle.ncq_live.proofs.live_table.LiveTable.feed.Goals as goal

pub invariant_of-self-in-Ok : goal.invariant_of-self-in-Ok
invariant_of-self-in-Ok g c =
    let before : TableState = c.self.inside.groups in
    let mid : TableState = c.feed.new.self in
    let store = c.args.store.now in
    let changes : store.changes ≡ before.number = c.requires.number ∙ sym (ap (λ (r : LiveState). r.table.number) c.self.view_is) in
    let number : c.mark-before.result.number ≡ store.changes = ap (λ (m : GroupMark). m.number) c.mark-before.ensures ∙ sym changes in
    let noted : AreNoted mid.files store.changes c.self.inside.wear.bounds c.wear_out.new.wear.bounds c.in_ok-fed.fed =
    subst (λ n. AreNoted mid.files n c.self.inside.wear.bounds c.wear_out.new.wear.bounds c.in_ok-fed.fed) number
    (subst (AreNoted mid.files c.mark-before.result.number c.self.inside.wear.bounds c.wear_out.new.wear.bounds) c.as_slice.ensures c.in-Ok.ensures.fed) in
    record {
      live_table = table_fed store c.args.change.now before mid c.self.inside.book.subscriptions c.self.invariant.live_table c.in_ok-fed.ensures.fed;
      bounds =
          bounds_fed store c.args.change.now before mid c.facts.ensures.facts changes c.in_ok-fed.ensures.fed c.self.inside.wear.bounds c.wear_out.new.wear.bounds c.in_ok-fed.fed c.in_ok-fed.ensures.named
          c.wear_out.ensures.more noted c.self.invariant.bounds;
      pinned =
          pinned_fed store c.args.change.now before mid c.facts.ensures.facts changes c.in_ok-fed.ensures.fed c.self.inside.book.subscriptions c.wear_out.new.wear.pinned c.feed.ensures.next_file
          (subst (ArePinned before c.self.inside.book.subscriptions) (sym c.wear_out.ensures.pinned) c.self.invariant.pinned);
    }

-- rolled back, the table is the one of before
back : (g : Over) (c : goal.After-drop-fed-inside g) → c.roll_back.new.self ≡ c.self.inside.groups
back g c =
    let changes = c.requires.number ∙ sym (ap (λ (r : LiveState). r.table.number) c.self.view_is) in
    table_unfed c.args.store.now c.args.change.now c.self.inside.groups c.feed.new.self c.facts.ensures.facts changes c.in_ok-fed.ensures.fed c.mark-before.result c.mark-before.ensures c.roll_back.new.self
    c.roll_back.ensures.number c.roll_back.ensures.next_file c.roll_back.ensures.files

pub invariant_of-self-in-Err-1 : goal.invariant_of-self-in-Err-1
invariant_of-self-in-Err-1 g c =
    subst (λ (t : TableState). IsInOrder t c.self.inside.book.subscriptions c.wear_out.new.wear) (sym (back g c))
    (record {
      live_table = c.self.invariant.live_table;
      bounds = bounds_more c.self.inside.groups.files c.self.inside.wear.bounds c.wear_out.new.wear.bounds c.wear_out.ensures.more c.self.invariant.bounds;
      pinned = subst (ArePinned c.self.inside.groups c.self.inside.book.subscriptions) (sym c.wear_out.ensures.pinned) c.self.invariant.pinned;
    })

pub returns-in-Err-clause-err : goal.returns-in-Err-clause-err
returns-in-Err-clause-err g c = back g c ∙ ap (λ (r : LiveState). r.table) c.self.view_is
