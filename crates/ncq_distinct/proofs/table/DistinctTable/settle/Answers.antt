use Rattle.std.proofs.Common.{◌∙◌, None, IfSome, ap, append-nil, subst, sym}
use Rattle.ncq_bag.specs.Counts.{after}
use Rattle.ncq_distinct.specs.Kept.{ChangesKept, HasRoom, changes_at, state_at}
use Rattle.ncq_distinct.proofs.ShownTables.{all_made, counts_shown, last_found, left_at, nothing_waits}
use Rattle.ncq_distinct.proofs.ShownTables.{set_waits, still_left, waiting_shown}
use Rattle.ncq_distinct.proofs.table.DistinctTable.settle.Goals as goal

pub commit_at-requires : goal.commit_at-requires
commit_at-requires c =
    let some =
    ap (λ (waiting : ChangesKept). changes_at waiting c.in-Some.install) c.in-Some.ensures.entries
    ∙ last_found c.pop.new.self.entries c.in-Some.install c.in-Some.pending c.in-Some.ensures.updates.1 in
    subst (λ changes. IfSome changes (HasRoom (state_at c.loop-install.self-inside.counts.entries c.in-Some.install)))
    some (c.loop-install.invariant.waits c.in-Some.install)

pub loop-install-preserved : goal.loop-install-preserved
loop-install-preserved c =
    let old = c.loop-install.self-inside.counts.entries in
    let new = c.commit_at.new.counts.entries in
    let before = c.loop-install.self-inside.waiting.entries in
    let now = c.pop.new.self.entries in
    let install = c.in-Some.install in
    let gone = c.in-Some.ensures.updates in
    let some =
    ap (λ (waiting : ChangesKept). changes_at waiting install) c.in-Some.ensures.entries
    ∙ last_found now install c.in-Some.pending gone.1 in
    record {
      waits =
          set_waits old new before now install None gone.0 c.commit_at.ensures.others tt c.loop-install.invariant.waits;
      left = λ any.
          still_left old new before now install c.in-Some.pending gone.0 c.commit_at.ensures.others some
          c.commit_at.ensures.here any
          ∙ c.loop-install.invariant.left any;
    }

pub returns-clause-counts : goal.returns-clause-counts
returns-clause-counts c =
    let counts = c.loop-install.self-inside.counts.entries in
    let none = all_made c.loop-install.self-inside.waiting.entries c.in_default.ensures.found.1 in
    let old = c.self.inside.counts.entries in
    let before = c.self.inside.waiting.entries in
    rw (← c.self.view_is)
    (λ any. counts_shown counts c.pop.new.self.entries any
    ∙ ap (λ (waiting : ChangesKept). left_at counts waiting any) (sym none) ∙ c.loop-install.invariant.left any
    ∙ (λ i. after (sym (counts_shown old before any) i) (sym (waiting_shown old before any c.self.invariant) i)))

pub returns-clause-settled : goal.returns-clause-settled
returns-clause-settled c =
    let none = all_made c.loop-install.self-inside.waiting.entries c.in_default.ensures.found.1 in
    nothing_waits c.loop-install.self-inside.counts.entries c.pop.new.self.entries
    (sym (append-nil c.pop.new.self.entries) ∙ sym c.in_default.ensures.entries ∙ none)
