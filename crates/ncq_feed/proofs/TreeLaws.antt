-- A tree of numbers, as the list of its keys.
use Rattle.std.proofs.Common.{◌≡◌, ℕ, ◌<◌, Bool, true, false, cond, ◌||◌, nat_eq, List, [], ◌∷◌, inl, inr, refl, sym, ◌∙◌}
use Rattle.std.specs.Prelude.{Option, Some, None, IfSome}
use Rattle.std.specs.List.{All, list_any}
use Rattle.std.specs.Ordering.{nat_cmp}
use Rattle.std.specs.declared.cmp.Ordering.TheVariants.{Less}
use Rattle.std.specs.BTreeSet.{BTreeSet, Updates}
use Rattle.std.specs.BTreeMap.{is_at}
use Rattle.std.specs.BTreeMap.Range.{IsLtBy}
use Rattle.std.specs.Cmp.{unsigned_tied}
use Rattle.std.proofs.lemmas.Bool.{cases_eq, eq-eqb, ne_eqb, eqb-true}
use Rattle.std.proofs.lemmas.Cmp.{ranked}
use Rattle.std.proofs.lemmas.List.Elements.{All-contains}
use Rattle.std.proofs.lemmas.Map.Views.{Contains-from_any}
use Rattle.ncq_feed.specs.Runs.{is_among}

among_keys : (q : ℕ) (keys : List ℕ) → list_any (is_at (nat_cmp q)) keys ≡ is_among q keys
among_keys q [] = refl
among_keys q (k ∷ keys) = λ i. unsigned_tied q k i || among_keys q keys i

same_either_way : (a b : ℕ) → nat_eq a b ≡ nat_eq b a
same_either_way a b = elim (cases_eq a b) [
  | inl e ↦ eq-eqb a b e ∙ sym (eq-eqb b a (sym e))
  | inr n ↦ ne_eqb a b n ∙ sym (ne_eqb b a (λ e. n (sym e)))
]

cond_or : (b c : Bool) → cond b true c ≡ (b || c)
cond_or true c = refl
cond_or false c = refl

-- one number more
pub put : (old new : BTreeSet ℕ) (number : ℕ) → Updates nat_cmp old new number true → (other : ℕ) → is_among other new.keys ≡ (nat_eq other number || is_among other old.keys)
put old new number updates other =
    sym (among_keys other new.keys) ∙ updates.0 other
    ∙ (λ i. cond ((unsigned_tied number other ∙ same_either_way number other) i) true (among_keys other old.keys i))
    ∙ cond_or (nat_eq other number) (is_among other old.keys)

less : (a b : ℕ) → nat_cmp a b ≡ Less → a < b
less a b e = ranked a b Less (sym e)

pub above_least : (number : ℕ) (keys : List ℕ) → All (IsLtBy nat_cmp number) keys → (other : ℕ) → is_among other keys ≡ true → number < other
above_least number keys all other is = less number other (All-contains (IsLtBy nat_cmp number) keys other all (Contains-from_any {eq = nat_eq} eqb-true other keys is))

pub above_first : (o : Option ℕ) (keys : List ℕ) → IfSome o (λ number. All (IsLtBy nat_cmp number) keys) → IfSome o (λ number. (other : ℕ) → is_among other keys ≡ true → number < other)
above_first None keys h = tt
above_first (Some number) keys h = above_least number keys h
