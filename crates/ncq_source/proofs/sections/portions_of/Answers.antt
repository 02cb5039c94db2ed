use Rattle.std.proofs.Common.{◌≡◌, ◌++◌, ◌∷◌, [], ◌∙◌, List, ℕ, map, ap, sym, append_assoc, append-nil}
use Rattle.ncq_source.specs.Seens.{placed_portion, placed_seen}
use Rattle.ncq_source.specs.declared.change.Entry.{Entry}
use Rattle.ncq_source.specs.declared.change.Portion.{Portion}
use Rattle.ncq_source.specs.declared.sections.Seen.{Seen}
use Rattle.ncq_source.proofs.Places.{map_push}
use Rattle.ncq_source.proofs.sections.portions_of.Goals as goal

one_more : (portions new : List Portion) (portion : Portion) (left more : List (ℕ × Seen)) (pair : ℕ × Seen) (whole : List (ℕ × List Entry)) → new ≡ portions ++ portion ∷ [] → left ≡ pair ∷ more → placed_portion portion ≡ placed_seen pair
    → map placed_portion portions ++ map placed_seen left ≡ whole → map placed_portion new ++ map placed_seen more ≡ whole
one_more portions new portion left more pair whole is split same all =
    ap (λ (ps : List Portion). map placed_portion ps ++ map placed_seen more) is
    ∙ ap (λ (xs : List (ℕ × List Entry)). xs ++ map placed_seen more) (map_push placed_portion portions portion)
    ∙ append_assoc (map placed_portion portions) (placed_portion portion ∷ []) (map placed_seen more)
    ∙ ap (λ (x : ℕ × List Entry). map placed_portion portions ++ x ∷ map placed_seen more) same
    ∙ ap (λ (ps : List (ℕ × Seen)). map placed_portion portions ++ map placed_seen ps) (sym split) ∙ all

pub loop-at-preserved : goal.loop-at-preserved
loop-at-preserved c = one_more _ _ _ _ _ _ _ c.in_ok-push.ensures.items c.in-Some.ensures.steps c.portion_of.ensures c.loop-at.invariant

pub returns-clause-portions : goal.returns-clause-portions
returns-clause-portions c =
    sym (append-nil (map placed_portion c.loop-at.portions.items)) ∙ ap (λ (ps : List (ℕ × Seen)). map placed_portion c.loop-at.portions.items ++ map placed_seen ps) (sym c.in-None.ensures.steps.0) ∙ c.loop-at.invariant ∙ ap (map placed_seen) c.into_iter-at-iterator.ensures.into_iter_gives.0
