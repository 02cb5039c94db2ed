use Rattle.std.proofs.Common.{◌≡◌, ◌≤◌, Some, sym, ◌∙◌, subst}
use Rattle.std.specs.FinMap.{get, insert}
use Rattle.ncq_count.proofs.CallerLemmas.{counted_again, one_changed}
use Rattle.ncq_group.specs.Inside.{table_of}
use Rattle.ncq_group.specs.Tables.{TableState}
use Rattle.ncq_group.proofs.CompactLaws.{facts_raised}
use Rattle.ncq_group.proofs.table.GroupTable.raise_base.Goals as goal

pub invariant_of-self : goal.invariant_of-self
invariant_of-self c =
    let old = table_of c.self.inside.filed c.self.inside.number in
    let at : get old.files c.args.file.0 ≡ Some c.requires.there.file = subst (λ (t : TableState). get t.files c.args.file.0 ≡ Some c.requires.there.file) (sym c.self.view_is) c.requires.there.at in
    let r = c.raise_base.ensures.raised c.requires.there.file at in
    record {
      facts = facts_raised old c.self.invariant.facts c.args.file.0 c.args.change c.requires.there.file r.0 at r.2 (subst (λ (t : TableState). c.args.change ≤ t.number) (sym c.self.view_is) c.requires.number) c.raise_base.new.self r.1;
      counted = counted_again old.files c.raise_base.new.self (one_changed old.files c.raise_base.new.self c.args.file.0 c.requires.there.file r.0 at r.2.expr r.1) c.self.inside.filed.groups c.self.invariant.counted;
    }

pub returns-clause-raised : goal.returns-clause-raised
returns-clause-raised c = λ kept at.
    let r = c.raise_base.ensures.raised kept (subst (λ (t : TableState). get t.files c.args.file.0 ≡ Some kept) (sym c.self.view_is) at) in
    (r.0, r.1 ∙ (λ i. insert (c.self.view_is i).files c.args.file.0 r.0), r.2)
