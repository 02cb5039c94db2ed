-- What crates above use of changes that sections were prepared to.
use Rattle.std.proofs.Common.{◌≡◌, ℕ, List, Some, None, refl, sym, subst, ap, ◌∙◌}
use Rattle.std.specs.Prelude.{Option}
use Rattle.std.specs.FinMap.{get}
use Rattle.ncq_source.specs.Stores.{Source}
use Rattle.ncq_source.specs.StoreStates.{ArePortionsOf, IsPortion, StoreState, found}
use Rattle.ncq_source.specs.declared.change.Portion.{Portion}
use Rattle.ncq_source.specs.declared.change.Section.{Section}
use Rattle.ncq_change.specs.Entries.{world_of}
use Rattle.ncq_change.specs.Stores.{Applies, world_in}
use Rattle.ncq_change.proofs.CallerLemmas.{commits_after, prepared_chains}
use Rattle.ncq_shelf.specs.KeptFiles.{KeptFile, Files}
use Rattle.ncq_shelf.specs.Stands.{IsGrounded}
use Rattle.ncq_shelf.proofs.CallerLemmas.{one_value, there}
use Rattle.ncq_feed.specs.Feeds.{IsNamed, IsPreparedFrom, CountsHeld, CountsTaken, delta_by, name_in, world_after}
use Rattle.ncq_feed.proofs.HeldCounts.{some_count}
use Rattle.ncq_feed.proofs.ParcelLaws.{all_map}

-- a change that sections were prepared to
pub prepared_from : (store : StoreState) (sections : List Section) (change : List Portion) → ArePortionsOf store sections change → IsPreparedFrom store change
prepared_from store sections change portions = record {
  rising = portions.rising;
  named = all_map (IsPortion store sections) (IsNamed store) (λ portion is. ap (λ (o : Option Source). found store (name_in o)) is.here ∙ is.found) change portions.each;
  chains = prepared_chains store sections change portions;
}

-- the world after a change is that of the store that committed it
pub world_committed : (before ready after : StoreState) (change : List Portion) → Applies before ready after change → world_after before change ≡ world_in after
world_committed before ready after change applies = ap world_of (sym (λ i. λ name. commits_after before ready after change applies name i))

-- held rows can be counted
module _ (store : StoreState) (change : List Portion) (files : Files) (grounded : IsGrounded files) where
  abbrev count_by : (o : Option KeptFile) → ℕ → ℕ → ℕ
  count_by None number slot = 0
  count_by (Some file) number slot = (some_count files grounded number slot (delta_by store change file.expr)).0

  counts_by : (number slot : ℕ) (file : KeptFile) (o : Option KeptFile) → get files number ≡ o → get files number ≡ Some file → CountsTaken files number slot (delta_by store change file.expr) (count_by o number slot)
  counts_by number slot file None e at = absurd (there at e)
  counts_by number slot file (Some other) e at =
      let same : other ≡ file = one_value e at in
      subst (λ (f : KeptFile). CountsTaken files number slot (delta_by store change f.expr) (count_by (Some other) number slot)) same (some_count files grounded number slot (delta_by store change other.expr)).1

  pub counts_held : (held : ℕ → ℕ → ℕ) × CountsHeld store change files held
  counts_held = (λ number slot. count_by (get files number) number slot, λ number file at slot. counts_by number slot file (get files number) refl at)
