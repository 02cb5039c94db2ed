use Rattle.std.proofs.Common.{subst}
use Rattle.ncq_shelf.specs.Contents.{AreFolded}
use Rattle.ncq_count.proofs.CallerLemmas.{counted_again}
use Rattle.ncq_group.specs.Inside.{table_of}
use Rattle.ncq_group.specs.Tables.{TableState}
use Rattle.ncq_group.proofs.FoldFacts.{exprs_folded, facts_folded}
use Rattle.ncq_group.proofs.table.GroupTable.fold.Goals as goal

pub invariant_of-self-2 : goal.invariant_of-self-2
invariant_of-self-2 c =
    let old = table_of c.self.inside.filed c.self.inside.number in
    record {
      facts = facts_folded old c.self.invariant.facts c.fold.new.self c.in_ok-fold.ensures.ok;
      counted = counted_again old.files c.fold.new.self (exprs_folded old.files c.fold.new.self c.in_ok-fold.ensures.ok) c.self.inside.filed.groups c.self.invariant.counted;
    }

pub returns-clause-ok : goal.returns-clause-ok
returns-clause-ok c = subst (λ (t : TableState). AreFolded t.files c.fold.new.self) c.self.view_is c.in_ok-fold.ensures.ok
