use Rattle.std.proofs.Common.{◌+◌, ◌∙◌, List, map, refl, subst, sym}
use Rattle.ncq_source.specs.StoreStates.{AreCommitted}
use Rattle.ncq_source.specs.Views.{source_of}
use Rattle.ncq_source.specs.declared.change.Portion.{Portion}
use Rattle.ncq_source.proofs.Commits.{commit_stays_proper}
use Rattle.ncq_source.proofs.Portions.{names_stay}
use Rattle.ncq_source.proofs.store.Store.commit.Goals as goal

pub invariant_of-self : goal.invariant_of-self
invariant_of-self c = c.self.invariant ∙ sym (names_stay _ _ _ _ c.commit_all.ensures)

pub returns-clause-done : goal.returns-clause-done
returns-clause-done c =
    rw (← c.self.view_is) (record {
      changes = refl;
      sources = subst (λ (portions : List Portion). AreCommitted (map source_of c.self.inside.sources.items) portions (c.self.inside.changes + 1) (map source_of c.commit_all.new.sources.items)) c.into_portions.ensures.portions c.commit_all.ensures;
    })

pub returns-clause-proper : goal.returns-clause-proper
returns-clause-proper c puts proper = commit_stays_proper _ _ c.args.change (returns-clause-done c) puts proper
