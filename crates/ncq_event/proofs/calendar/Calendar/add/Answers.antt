use Rattle.std.proofs.Common.{◌≡◌, refl, rules}
use Rattle.std.specs.BTreeMap.{insert_entry}
use Rattle.std.specs.Ordering.{nat_cmp}
use Rattle.ncq_event.specs.Agendas.{with_firings}
use Rattle.ncq_event.specs.Calendars.{firing_at}
use Rattle.ncq_event.proofs.CalendarSteps.{grown, more, gone_firings, gone_ends, as_before}
use Rattle.ncq_event.proofs.calendar.Calendar.add.Goals as goal

pub invariant_of-self-then-is_err : goal.invariant_of-self-then-is_err
invariant_of-self-then-is_err c =
    let ends_stay : c.put-2.new.agenda ≡ c.self.inside.expiries = search rules in
    as_before _ _ c.self.inside.timings.entries _ c.self.inside.firings _ c.self.inside.expiries _ c.self.invariant refl
    (gone_firings _ _ c.self.inside.timings.entries c.self.inside.timings.entries c.self.inside.firings _ c.self.inside.expiries c.self.inside.expiries c.args.self.now c.self.view_is c.self.invariant c.args.install c.args.timing c.requires
    c.due-next.result c.due-next.ensures.value c.in_ok-put.ensures.ok _ c.forget.ensures)
    ends_stay

pub invariant_of-self-then-is_err-2 : goal.invariant_of-self-then-is_err-2
invariant_of-self-then-is_err-2 c =
    let same : c.insert.new.self.entries ≡ c.self.inside.timings.entries = search rules in
    let ended : c.put-2.new.agenda ≡ with_firings c.self.inside.expiries (firing_at c.args.install c.args.timing.expire) = search rules in
    as_before _ _ c.self.inside.timings.entries _ c.self.inside.firings _ c.self.inside.expiries _ c.self.invariant same
    (gone_firings _ _ c.self.inside.timings.entries c.self.inside.timings.entries c.self.inside.firings _ c.self.inside.expiries c.put-2.new.agenda c.args.self.now c.self.view_is c.self.invariant c.args.install c.args.timing c.requires
    c.due-next.result c.due-next.ensures.value c.in_ok-put.ensures.ok _ c.forget-then-is_err-2.ensures)
    (gone_ends _ _ c.self.inside.timings.entries c.self.inside.timings.entries c.self.inside.firings _ c.self.inside.expiries c.put-2.new.agenda c.args.self.now c.self.view_is c.self.invariant c.args.install c.args.timing c.requires
    c.due-next.result c.due-next.ensures.value c.in_ok-put.ensures.ok ended _ c.forget-then-is_err-2-2.ensures)

pub invariant_of-self-else-is_err-2 : goal.invariant_of-self-else-is_err-2
invariant_of-self-else-is_err-2 c =
    let put : c.insert.new.self.entries ≡ insert_entry nat_cmp c.self.inside.timings.entries c.args.install c.args.timing = search rules in
    let ended : c.put-2.new.agenda ≡ with_firings c.self.inside.expiries (firing_at c.args.install c.args.timing.expire) = search rules in
    more _ _ c.self.inside.timings.entries _ c.self.inside.firings _ c.self.inside.expiries c.put-2.new.agenda c.args.self.now c.self.view_is c.self.invariant c.args.install c.args.timing c.requires
    c.due-next.result c.due-next.ensures.value c.in_ok-put.ensures.ok ended put c.insert.ensures.ordered

pub returns-clause-ok : goal.returns-clause-ok
returns-clause-ok c =
    let put : c.insert.new.self.entries ≡ insert_entry nat_cmp c.self.inside.timings.entries c.args.install c.args.timing = search rules in
    grown _ _ c.self.inside.timings.entries _ c.self.inside.firings c.self.inside.firings c.self.inside.expiries c.self.inside.expiries c.args.self.now c.self.view_is c.self.invariant c.args.install c.args.timing c.requires put
