-- Finite maps from numbers, at one number and at the others.
use Rattle.std.proofs.Common.{◌≡◌, ◌≢◌, ℕ, true, false, cond, Some, None, Option, is_some, inl, inr, refl, sym, ap, ◌∙◌, subst, true≢false}
use Rattle.std.specs.Ordering.{nat_cmp, eq_by_cmp}
use Rattle.std.specs.Cmp.{unsigned_tied}
use Rattle.std.proofs.lemmas.Cmp.{nat_cmp_total}
use Rattle.std.proofs.lemmas.Bool.{cases_eq, eq-eqb, ne_eqb}
use Rattle.std.specs.FinMap.{FinMap, get, insert, remove, get-insert, get-remove, same_map, nat_cmp-IsAntisymmetric}

same : (k : ℕ) → eq_by_cmp nat_cmp k k ≡ true
same k = unsigned_tied k k ∙ eq-eqb k k refl

other : (q k : ℕ) → q ≢ k → eq_by_cmp nat_cmp q k ≡ false
other q k h = unsigned_tied q k ∙ ne_eqb q k h

module _ {X : Type 0} (m : FinMap nat_cmp X) where
  pub put_same : (k : ℕ) (v : X) → get (insert m k v) k ≡ Some v
  put_same k v = get-insert nat_cmp_total m k v k ∙ ap (λ b. cond b (Some v) (get m k)) (same k)

  pub put_other : (k : ℕ) (v : X) (q : ℕ) → q ≢ k → get (insert m k v) q ≡ get m q
  put_other k v q h = get-insert nat_cmp_total m k v q ∙ ap (λ b. cond b (Some v) (get m q)) (other q k h)

  pub gone_same : (k : ℕ) → get (remove m k) k ≡ None
  gone_same k = get-remove nat_cmp_total m k k ∙ ap (λ b. cond b None (get m k)) (same k)

  pub gone_other : (k q : ℕ) → q ≢ k → get (remove m k) q ≡ get m q
  gone_other k q h = get-remove nat_cmp_total m k q ∙ ap (λ b. cond b None (get m q)) (other q k h)

-- what is there is not absent
pub there : {X : Type 0} {o : Option X} {x : X} → o ≡ Some x → o ≡ None → ⊥
there e n = true≢false (ap is_some (sym e ∙ n))

abbrev unwrapped : {X : Type 0} → X → Option X → X
unwrapped d (Some x) = x
unwrapped d None = d

-- one place holds one value
pub one_value : {X : Type 0} {o : Option X} {x y : X} → o ≡ Some x → o ≡ Some y → x ≡ y
one_value {x = x} e h = ap (unwrapped x) (sym e ∙ h)

-- what is there after a removal was there before
pub rest_stays : {X : Type 0} (m : FinMap nat_cmp X) (number other : ℕ) (x : X) → get (remove m number) other ≡ Some x → get m other ≡ Some x
rest_stays m number other x at = elim (cases_eq other number) [
  | inl same ↦ absurd (there (subst (λ n. get (remove m number) n ≡ Some x) same at) (gone_same m number))
  | inr differs ↦ sym (gone_other m number other differs) ∙ at
]

-- what is put in again where it stands changes nothing
pub put_again : {X : Type 0} (m : FinMap nat_cmp X) (number : ℕ) (x : X) → get m number ≡ Some x → insert m number x ≡ m
put_again m number x at = same_map nat_cmp_total nat_cmp-IsAntisymmetric (insert m number x) m (λ q. elim (cases_eq q number) [
  | inl same ↦ subst (λ n. get (insert m number x) n ≡ get m n) (sym same) (put_same m number x ∙ sym at)
  | inr differs ↦ put_other m number x q differs
])
