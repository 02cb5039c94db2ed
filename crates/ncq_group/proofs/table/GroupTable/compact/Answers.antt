use Rattle.std.proofs.Common.{◌≡◌, ◌≤◌, Some, sym, ap, ◌∙◌, subst}
use Rattle.std.specs.FinMap.{get, insert}
use Rattle.ncq_shelf.proofs.CallerLemmas.{put_same}
use Rattle.ncq_count.proofs.CallerLemmas.{counted_again, one_changed}
use Rattle.ncq_group.specs.Inside.{table_of}
use Rattle.ncq_group.specs.Tables.{TableState}
use Rattle.ncq_group.proofs.CompactLaws.{facts_compacted}
use Rattle.ncq_group.proofs.table.GroupTable.compact.Goals as goal

pub invariant_of-self-2 : goal.invariant_of-self-2
invariant_of-self-2 c =
    let old = table_of c.self.inside.filed c.self.inside.number in
    let at : get old.files c.args.file.0 ≡ Some c.requires.there.file = subst (λ (t : TableState). get t.files c.args.file.0 ≡ Some c.requires.there.file) (sym c.self.view_is) c.requires.there.at in
    let r = c.in_ok-compact.ensures.ok c.requires.there.file at in
    let next_at : get c.compact.new.self c.args.file.0 ≡ Some r.0 = ap (λ f. get f c.args.file.0) r.1 ∙ put_same old.files c.args.file.0 r.0 in
    record {
      facts = facts_compacted old c.self.invariant.facts c.args.file.0 c.args.change c.requires.there.file r.0 at r.2 (λ own. c.in_ok-compact.ensures.rows c.requires.there.file at own r.0 next_at) (λ range. c.in_ok-compact.ensures.ranged c.requires.there.file at range r.0 next_at)
          (subst (λ (t : TableState). c.args.change ≤ t.number) (sym c.self.view_is) c.requires.number) c.compact.new.self r.1;
      counted = counted_again old.files c.compact.new.self (one_changed old.files c.compact.new.self c.args.file.0 c.requires.there.file r.0 at r.2.expr r.1) c.self.inside.filed.groups c.self.invariant.counted;
    }

pub returns-clause-ok : goal.returns-clause-ok
returns-clause-ok c = λ kept at.
    let r = c.in_ok-compact.ensures.ok kept (subst (λ (t : TableState). get t.files c.args.file.0 ≡ Some kept) (sym c.self.view_is) at) in
    (r.0, r.1 ∙ (λ i. insert (c.self.view_is i).files c.args.file.0 r.0), r.2)

pub returns-clause-rows : goal.returns-clause-rows
returns-clause-rows c = λ kept at. c.in_ok-compact.ensures.rows kept (subst (λ (t : TableState). get t.files c.args.file.0 ≡ Some kept) (sym c.self.view_is) at)
