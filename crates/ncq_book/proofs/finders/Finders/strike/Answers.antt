use Rattle.std.proofs.Common.{◌≡◌, ◌==◌, ◌&&◌, not, true, false, arith, sym, ◌∙◌}
use Rattle.std.specs.List.{list_any}
use mathlib.Core.Bool.{and-true}
use Rattle.std.proofs.lemmas.Bool.Decides.{nat_tests}
use Rattle.ncq_book.specs.Kept.{watch_of}
use Rattle.ncq_book.specs.Watches.{is_watch}
use Rattle.ncq_book.proofs.AlikeLaws.{counted_less}
use Rattle.ncq_book.proofs.finders.Finders.strike.Goals as goal

pub returns-then-subscription-eq0 : goal.returns-then-subscription-eq0
returns-then-subscription-eq0 c =
    let m = c.args.subscription.now in
    let old = c.args.self.now in
    let at_changes : (m.timing.every == 0) ≡ true = grind (arith, nat_tests, c.if-subscription-eq0.true) in
    record {
      names = c.free.ensures;
      calendar = c.remove.ensures;
      watchers = λ w. c.remove-then-subscription-eq0.ensures w ∙ (λ i. list_any (is_watch w) old.watchers && not (sym at_changes i && is_watch w (watch_of m)));
      timers = λ w. sym (and-true (list_any (is_watch w) old.timers)) ∙ (λ i. list_any (is_watch w) old.timers && not (not (sym at_changes i) && is_watch w (watch_of m)));
      strategy = λ bare. counted_less old.strategy c.forget.new.self m bare c.requires c.forget.ensures;
    }

pub returns-else-subscription-eq0 : goal.returns-else-subscription-eq0
returns-else-subscription-eq0 c =
    let m = c.args.subscription.now in
    let old = c.args.self.now in
    let at_instants : (m.timing.every == 0) ≡ false = grind (arith, nat_tests, c.if-subscription-eq0.false) in
    record {
      names = c.free.ensures;
      calendar = c.remove.ensures;
      watchers = λ w. sym (and-true (list_any (is_watch w) old.watchers)) ∙ (λ i. list_any (is_watch w) old.watchers && not (sym at_instants i && is_watch w (watch_of m)));
      timers = λ w. c.remove-else-subscription-eq0.ensures w ∙ (λ i. list_any (is_watch w) old.timers && not (not (sym at_instants i) && is_watch w (watch_of m)));
      strategy = λ bare. counted_less old.strategy c.forget.new.self m bare c.requires c.forget.ensures;
    }
