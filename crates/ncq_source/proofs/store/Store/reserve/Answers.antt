use Rattle.std.proofs.Common.{◌≡◌, ◌∷◌, [], ◌∙◌, List, ℕ, map, ap, refl, sym}
use Rattle.ncq_source.specs.Stores.{Source, without_room}
use Rattle.ncq_source.proofs.Commits.{room_stays_proper}
use Rattle.ncq_source.proofs.store.Store.reserve.Goals as goal

plain_names : (sources : List Source) → map (λ s. s.name) sources ≡ map (λ s. s.name) (map without_room sources)
plain_names [] = refl
plain_names (s ∷ sources) = ap (λ (names : List (List ℕ)). s.name ∷ names) (plain_names sources)

pub invariant_of-self : goal.invariant_of-self
invariant_of-self c = c.self.invariant ∙ plain_names _ ∙ ap (map (λ (s : Source). s.name)) (sym c.reserve_all.ensures.same) ∙ sym (plain_names _)

pub returns-clause-same : goal.returns-clause-same
returns-clause-same c = rw (← c.self.view_is) (record { changes = refl; sources = c.reserve_all.ensures.same })

pub returns-clause-proper : goal.returns-clause-proper
returns-clause-proper c proper = room_stays_proper _ _ (returns-clause-same c) proper
