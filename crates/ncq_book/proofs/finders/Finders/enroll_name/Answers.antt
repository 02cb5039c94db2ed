use Rattle.std.proofs.Common.{sym, ◌∙◌, ap, cond}
use Rattle.std.specs.Prelude.{None}
use Rattle.std.specs.Map.{lookup, remove_entry}
use Rattle.std.specs.BTreeMap.{is_at}
use Rattle.std.specs.Ordering.{nat_cmp}
use Rattle.std.specs.Str.{bytes_eq}
use Rattle.ncq_strategy.specs.Numbers.{live_with}
use Rattle.ncq_book.specs.declared.finders.Finders.{Finders}
use Rattle.ncq_book.proofs.Lists.{at_ok, at_err}
use Rattle.ncq_book.proofs.FinderLaws.{name_freed, entry_gone}
use Rattle.ncq_book.proofs.finders.Finders.enroll_name.Goals as goal

pub returns-then-is_err-2-clause-err : goal.returns-then-is_err-2-clause-err
returns-then-is_err-2-clause-err c =
    let m = c.args.subscription.now in
    let old = c.args.self.now in
    let put = at_ok c.add.result (sym c.is_err.ensures.value ∙ c.if-is_err.false) c.add.ensures.ok in
    let added = c.enroll_file.ensures.calendar ∙ put in
    let back = at_err c.enroll_file.result (sym c.is_err-2.ensures.value ∙ c.if-is_err-2.true) c.enroll_file.ensures.err in
    record {
      names = λ name. name_freed m.name name m.install old.names c.put.new.self c.free-then-is_err-2.new.self c.requires.free (c.in_ok-put.ensures.ok name)
          (c.free-then-is_err-2.ensures name ∙ ap (λ names. cond (bytes_eq m.name name) None (lookup (bytes_eq name) names)) c.enroll_file.ensures.names);
      calendar =
          c.remove.ensures
          ∙ (λ i. record (added i) { entries = remove_entry (is_at (nat_cmp m.install)) (added i).entries })
          ∙ (λ i. record old.calendar { entries = entry_gone m.install m.timing old.calendar.entries c.requires.above i });
      watchers = ap (λ (f : Finders). f.watchers) back;
      timers = ap (λ (f : Finders). f.timers) back;
      strategy = λ bare. ap (λ (f : Finders). live_with f.strategy bare) back;
    }
