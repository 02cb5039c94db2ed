use Rattle.std.proofs.Common.{◌∙◌, sym, subst, ap, List, ℕ, Some, refl}
use Rattle.ncq_base.specs.Keys.{ByBytes}
use Rattle.ncq_bag.specs.Counts.{turns}
use Rattle.ncq_bag.specs.declared.bag.Difference.{Difference}
use Rattle.ncq_distinct.specs.DistinctTables.{AwaitsAt}
use Rattle.ncq_distinct.specs.Kept.{HasRoom, state_at, table_of}
use Rattle.ncq_distinct.proofs.ShownTables.{awaits, counts_shown, is_change, same_counts, set_waits}
use Rattle.ncq_distinct.proofs.ShownTables.{still_waits, waiting_unless}
use Rattle.ncq_distinct.proofs.table.DistinctTable.prepare.Goals as goal

pub returns-in_err-told-clause-counts : goal.returns-in_err-told-clause-counts
returns-in_err-told-clause-counts c =
    let waiting = c.self.inside.waiting.entries in
    rw (← c.self.view_is)
    (same_counts c.self.inside.counts.entries c.turns_at.new.counts.entries waiting waiting c.turns_at.ensures.kept)

pub returns-in_err-told-clause-err : goal.returns-in_err-told-clause-err
returns-in_err-told-clause-err c =
    let waiting = c.self.inside.waiting.entries in
    rw (← c.self.view_is)
    (waiting_unless c.from_residual.result c.self.inside.counts.entries c.turns_at.new.counts.entries
    waiting waiting c.turns_at.ensures.kept c.self.invariant refl)

pub returns-in_err-insert-clause-counts : goal.returns-in_err-insert-clause-counts
returns-in_err-insert-clause-counts c =
    rw (← c.self.view_is)
    (same_counts c.self.inside.counts.entries c.turns_at.new.counts.entries c.self.inside.waiting.entries
    c.insert.new.self.entries c.turns_at.ensures.kept)

pub returns-in_err-insert-clause-err : goal.returns-in_err-insert-clause-err
returns-in_err-insert-clause-err c =
    rw (← c.self.view_is)
    (waiting_unless c.from_residual-in_err-insert.result c.self.inside.counts.entries
    c.turns_at.new.counts.entries c.self.inside.waiting.entries c.insert.new.self.entries
    c.turns_at.ensures.kept c.self.invariant c.in_err-insert.ensures.err)

pub returns-clause-told : goal.returns-clause-told
returns-clause-told c =
    let shown = counts_shown c.self.inside.counts.entries c.self.inside.waiting.entries c.args.install in
    rw (← c.self.view_is)
    (c.in_ok-told.ensures.told ∙ ap (λ (counts : ByBytes ℕ). turns counts c.args.entries.now) (sym shown))

pub returns-clause-can : goal.returns-clause-can
returns-clause-can c =
    rw (← c.self.view_is)
    (is_change c.self.inside.counts.entries c.turns_at.new.counts.entries c.self.inside.waiting.entries
    c.args.install c.args.entries.now c.turns_at.ensures.kept c.in_ok-told.ensures.can)

pub returns-clause-counts : goal.returns-clause-counts
returns-clause-counts c =
    rw (← c.self.view_is)
    (same_counts c.self.inside.counts.entries c.turns_at.new.counts.entries c.self.inside.waiting.entries
    c.insert.new.self.entries c.turns_at.ensures.kept)

pub returns-clause-waiting : goal.returns-clause-waiting
returns-clause-waiting c =
    let new = c.turns_at.new.counts.entries in
    let before = c.self.inside.waiting.entries in
    let now = c.insert.new.self.entries in
    let install = c.args.install in
    let put = c.in_ok-insert.ensures.updates.0 in
    let is = c.in_ok-told.ensures.pending in
    let room =
    subst (λ (changes : List Difference). HasRoom (state_at new install) changes) (sym is) c.in_ok-told.ensures.can in
    let could = still_waits c.self.inside.counts.entries new before c.turns_at.ensures.kept c.self.invariant in
    let can = set_waits new new before now install (Some c.in_ok-told.pending) put (λ any other. refl) room could in
    rw (← c.self.view_is)
    (subst
    (λ (changes : List Difference). AwaitsAt install changes (table_of c.self.inside.counts.entries before)
    (table_of new now)) is
    (awaits c.self.inside.counts.entries new before now install (Some c.in_ok-told.pending) put c.self.invariant can))
