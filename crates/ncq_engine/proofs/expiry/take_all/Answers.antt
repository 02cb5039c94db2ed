use Rattle.std.proofs.Common.{◌≡◌, ◌+◌, ◌≤◌, arith, take, length, get_or, subst, ap, List, ℕ}
use Rattle.std.proofs.lemmas.List.{take_all, take_more}
use Rattle.std.specs.Prelude.{Option, IfNone}
use Rattle.ncq_book.specs.Books.{subscription_of}
use Rattle.ncq_book.specs.declared.subscription.Subscription.{Subscription as Kept}
use Rattle.ncq_group.specs.Tables.{TableState}
use Rattle.ncq_engine.specs.Tellings.{IsLeftBy}
use Rattle.ncq_engine.proofs.ExpiryLaws.{left_more, left_none, removed_of}
use Rattle.ncq_engine.proofs.KeptCounts.{AreRemoved, removed_more, removed_none}
use Rattle.ncq_engine.proofs.expiry.take_all.Goals as goal

pub loop-install-init : goal.loop-install-init
loop-install-init c = record { left = left_none c.args.live_table.now; counts = removed_none c.args.distinct.now }

pub loop-install-preserved : goal.loop-install-preserved
loop-install-preserved c =
    let installs = c.args.installs.now in
    let at = c.loop-install.install-index in
    let item = get_or installs at 0 in
    let one = take_more installs at 0 c.loop-install-test.true in
    record {
      left = left_more (take at installs) (take (at + 1) installs) item c.args.live_table.now c.loop-install.live_table c.remove.new.self one c.loop-install.invariant.left
          c.remove.ensures.subscriptions
          (removed_of c.loop-install.live_table.table.files c.remove.new.self.table.files (subscription_of item c.loop-install.live_table.subscriptions) c.remove.ensures.files
          (λ none. ap (λ (t : TableState). t.files) (subst (λ (o : Option Kept). IfNone o (c.remove.new.self.table ≡ c.loop-install.live_table.table)) none c.remove.ensures.none)))
          c.remove.ensures.next_file c.remove.ensures.number c.remove.ensures.instant;
      counts = removed_more (take at installs) (take (at + 1) installs) item c.args.distinct.now c.loop-install.distinct c.remove-in-loop-install.new.self one c.loop-install.invariant.counts c.remove-in-loop-install.ensures.counts;
    }

pub returns : goal.returns
returns c =
    let past : length c.args.installs.now ≤ c.loop-install.install-index = omega (arith, c.loop-install-test.false) in
    let all = take_all c.loop-install.install-index c.args.installs.now past in
    record {
      left = subst (λ (xs : List ℕ). IsLeftBy xs c.args.live_table.now c.loop-install.live_table) all c.loop-install.invariant.left;
      counts = subst (λ (xs : List ℕ). AreRemoved xs c.args.distinct.now c.loop-install.distinct) all c.loop-install.invariant.counts;
    }
