-- What lies in both of two intervals.
use Rattle.std.proofs.Common.{◌≡◌, Bool, true, false, ◌&&◌, ℤ, ◌≤ℤ◌, ◌<ℤ◌, refl, sym, ◌∙◌, arith, if◌then◌else◌, Decides}
use Rattle.std.proofs.lemmas.Int.{ints}
use Rattle.std.specs.Prelude.{int_le, int_lt}
use Rattle.ncq_base.specs.declared.atom.Atom.{Atom}
use Rattle.ncq_base.specs.declared.atom.Atom.TheVariants.{Num, Text}
use Rattle.ncq_base.specs.declared.interval.End.{End}
use Rattle.ncq_base.specs.declared.interval.End.TheVariants.{Unbounded, Included, Excluded}
use Rattle.ncq_base.specs.declared.interval.Interval.{Interval}
use Rattle.ncq_base.specs.Intervals.{is_above, is_below, in_interval}
use Rattle.ncq_bind.specs.Ranges.{higher, lower, both}
use Rattle.std.proofs.Math.Bool.{and-true}
use Rattle.ncq_bind.proofs.Bools.{and_both}

-- a test that the other implies adds nothing to it
implied_left : (a b : Bool) (P Q : Type 0) → Decides a P → Decides b Q → (Q → P) → b ≡ (a && b)
implied_left true b P Q d e h = refl
implied_left false true P Q d e h = absurd (let c : false ≡ true = d.1 (h (e.0 refl)) in cc)
implied_left false false P Q d e h = refl

implied_right : (a b : Bool) (P Q : Type 0) → Decides a P → Decides b Q → (P → Q) → a ≡ (a && b)
implied_right true true P Q d e h = refl
implied_right true false P Q d e h = absurd (let c : false ≡ true = e.1 (h (d.0 refl)) in cc)
implied_right false b P Q d e h = refl

-- ---- tests of two numbers

pub le_is : (m n : ℤ) → Decides (int_le m n) (m ≤ℤ n)
le_is m n = (λ e. grind (arith, ints), λ k. grind (arith, ints))

pub lt_is : (m n : ℤ) → Decides (int_lt m n) (m <ℤ n)
lt_is m n = (λ e. grind (arith, ints), λ k. grind (arith, ints))

-- either the first test is true, or the numbers stand the other way round
below_or_not : (m n : ℤ) (P : Bool → Type 0) → (m <ℤ n → P true) → (n ≤ℤ m → P false) → P (int_lt m n)
below_or_not m n P under over = by_test (int_lt m n) refl
  where
    by_test : (b : Bool) → int_lt m n ≡ b → P b
    by_test true e = under ((lt_is m n).0 e)
    by_test false e = over (grind (arith, ints))

-- ---- ends

pub above_higher : (a b : End) (n : ℤ) → is_above (higher a b) n ≡ (is_above a n && is_above b n)
above_higher Unbounded b n = refl
above_higher (Included m) Unbounded n = sym (and-true (is_above (Included m) n))
above_higher (Excluded m) Unbounded n = sym (and-true (is_above (Excluded m) n))
above_higher (Included m) (Included k) n =
    below_or_not m k (λ t. is_above (if t then Included k else Included m) n ≡ (is_above (Included m) n && is_above (Included k) n))
    (λ h. implied_left _ _ (m ≤ℤ n) (k ≤ℤ n) (le_is m n) (le_is k n) (λ q. omega (arith, ints)))
    (λ h. implied_right _ _ (m ≤ℤ n) (k ≤ℤ n) (le_is m n) (le_is k n) (λ p. omega (arith, ints)))
above_higher (Included m) (Excluded k) n =
    below_or_not k m (λ t. is_above (if t then Included m else Excluded k) n ≡ (is_above (Included m) n && is_above (Excluded k) n))
    (λ h. implied_right _ _ (m ≤ℤ n) (k <ℤ n) (le_is m n) (lt_is k n) (λ p. omega (arith, ints)))
    (λ h. implied_left _ _ (m ≤ℤ n) (k <ℤ n) (le_is m n) (lt_is k n) (λ q. omega (arith, ints)))
above_higher (Excluded m) (Included k) n =
    below_or_not m k (λ t. is_above (if t then Included k else Excluded m) n ≡ (is_above (Excluded m) n && is_above (Included k) n))
    (λ h. implied_left _ _ (m <ℤ n) (k ≤ℤ n) (lt_is m n) (le_is k n) (λ q. omega (arith, ints)))
    (λ h. implied_right _ _ (m <ℤ n) (k ≤ℤ n) (lt_is m n) (le_is k n) (λ p. omega (arith, ints)))
above_higher (Excluded m) (Excluded k) n =
    below_or_not m k (λ t. is_above (if t then Excluded k else Excluded m) n ≡ (is_above (Excluded m) n && is_above (Excluded k) n))
    (λ h. implied_left _ _ (m <ℤ n) (k <ℤ n) (lt_is m n) (lt_is k n) (λ q. omega (arith, ints)))
    (λ h. implied_right _ _ (m <ℤ n) (k <ℤ n) (lt_is m n) (lt_is k n) (λ p. omega (arith, ints)))

pub below_lower : (a b : End) (n : ℤ) → is_below (lower a b) n ≡ (is_below a n && is_below b n)
below_lower Unbounded b n = refl
below_lower (Included m) Unbounded n = sym (and-true (is_below (Included m) n))
below_lower (Excluded m) Unbounded n = sym (and-true (is_below (Excluded m) n))
below_lower (Included m) (Included k) n =
    below_or_not k m (λ t. is_below (if t then Included k else Included m) n ≡ (is_below (Included m) n && is_below (Included k) n))
    (λ h. implied_left _ _ (n ≤ℤ m) (n ≤ℤ k) (le_is n m) (le_is n k) (λ q. omega (arith, ints)))
    (λ h. implied_right _ _ (n ≤ℤ m) (n ≤ℤ k) (le_is n m) (le_is n k) (λ p. omega (arith, ints)))
below_lower (Included m) (Excluded k) n =
    below_or_not m k (λ t. is_below (if t then Included m else Excluded k) n ≡ (is_below (Included m) n && is_below (Excluded k) n))
    (λ h. implied_right _ _ (n ≤ℤ m) (n <ℤ k) (le_is n m) (lt_is n k) (λ p. omega (arith, ints)))
    (λ h. implied_left _ _ (n ≤ℤ m) (n <ℤ k) (le_is n m) (lt_is n k) (λ q. omega (arith, ints)))
below_lower (Excluded m) (Included k) n =
    below_or_not k m (λ t. is_below (if t then Included k else Excluded m) n ≡ (is_below (Excluded m) n && is_below (Included k) n))
    (λ h. implied_left _ _ (n <ℤ m) (n ≤ℤ k) (lt_is n m) (le_is n k) (λ q. omega (arith, ints)))
    (λ h. implied_right _ _ (n <ℤ m) (n ≤ℤ k) (lt_is n m) (le_is n k) (λ p. omega (arith, ints)))
below_lower (Excluded m) (Excluded k) n =
    below_or_not k m (λ t. is_below (if t then Excluded k else Excluded m) n ≡ (is_below (Excluded m) n && is_below (Excluded k) n))
    (λ h. implied_left _ _ (n <ℤ m) (n <ℤ k) (lt_is n m) (lt_is n k) (λ q. omega (arith, ints)))
    (λ h. implied_right _ _ (n <ℤ m) (n <ℤ k) (lt_is n m) (lt_is n k) (λ p. omega (arith, ints)))

-- an atom lies in both where it lies in each
pub in_both : (a b : Interval) (atom : Atom) → in_interval (both a b) atom ≡ (in_interval a atom && in_interval b atom)
in_both a b (Num n) =
    (λ i. above_higher a.low b.low n i && below_lower a.high b.high n i) ∙ and_both (is_above a.low n) (is_above b.low n) (is_below a.high n) (is_below b.high n)
in_both a b (Text t) = refl
