use Rattle.std.proofs.Common.{sym, ◌∙◌, ap}
use Rattle.ncq_strategy.specs.Numbers.{Numbers, live_with}
use Rattle.ncq_book.proofs.AlikeLaws.{noted_back, noted_more, noted_some}
use Rattle.ncq_book.proofs.Lists.{at_ok, at_err}
use Rattle.ncq_book.proofs.finders.Finders.enroll.Goals as goal

pub forget-requires : goal.forget-requires
forget-requires c =
    noted_some c.args.self.now.strategy c.note.new.self c.args.subscription.now c.in_ok-share.field-0 c.in_ok-share.ensures c.in_ok-note.ensures.ok c.enroll_name.new.self.strategy c.enroll_name.ensures.strategy

pub returns-then-is_err-clause-err : goal.returns-then-is_err-clause-err
returns-then-is_err-clause-err c =
    let back = at_err c.enroll_name.result (sym c.is_err.ensures.value ∙ c.if-is_err.true) c.enroll_name.ensures.err in
    record {
      names = back.names;
      calendar = back.calendar;
      watchers = back.watchers;
      timers = back.timers;
      strategy =
          noted_back c.args.self.now.strategy c.note.new.self c.args.subscription.now c.in_ok-share.field-0 c.in_ok-share.ensures c.in_ok-note.ensures.ok c.enroll_name.new.self.strategy c.enroll_name.ensures.strategy
          c.forget.new.self c.forget.ensures;
    }

pub returns-clause-ok : goal.returns-clause-ok
returns-clause-ok c =
    let found = at_ok c.enroll_name.result (sym c.is_err.ensures.value ∙ c.if-is_err.false) c.enroll_name.ensures.ok in
    record {
      found = record { names = found.names; calendar = found.calendar; watchers = found.watchers; timers = found.timers };
      strategy = λ bare.
          ap (λ (n : Numbers). live_with n bare) c.enroll_name.ensures.strategy
          ∙ noted_more c.args.self.now.strategy c.note.new.self c.args.subscription.now c.in_ok-share.field-0 c.in_ok-share.ensures c.in_ok-note.ensures.ok bare;
    }
