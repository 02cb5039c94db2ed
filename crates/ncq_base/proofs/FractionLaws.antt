-- The digits of a fraction, one after the other.
use Rattle.std.proofs.Common.{◌≡◌, ◌≢◌, ℕ, zero, suc, ◌+◌, ◌-◌, ◌*◌, ◌/◌, ◌%◌, true, false, cond, [], ◌∷◌, refl, ◌∙◌, ap, arith}
use Rattle.std.specs.Prelude.{◌==◌}
use Rattle.std.proofs.lemmas.Bool.Decides.{nat_tests}
use Rattle.ncq_base.specs.AtomTexts.{fraction_digits}

is_zero : (n : ℕ) → n ≡ 0 → (n == 0) ≡ true
is_zero n e = grind (arith, nat_tests)

not_zero : (n : ℕ) → n ≢ 0 → (n == 0) ≡ false
not_zero n e = grind (arith, nat_tests)

-- where something is left, one digit and then those of ten times the rest
pub digits_next : (most fraction : ℕ) → most ≢ 0 → fraction ≢ 0 → fraction_digits most fraction ≡ (48 + fraction * 10 / 1000000) ∷ fraction_digits (most - 1) (fraction * 10 % 1000000)
digits_next zero fraction some left = absurd (some refl)
digits_next (suc most) fraction some left =
    let back : most ≡ suc most - 1 = omega arith in
    ap (λ t. cond t [] ((48 + fraction * 10 / 1000000) ∷ fraction_digits most (fraction * 10 % 1000000))) (not_zero fraction left)
    ∙ ap (λ n. (48 + fraction * 10 / 1000000) ∷ fraction_digits n (fraction * 10 % 1000000)) back

-- where no more are wanted or nothing is left there is none
pub digits_none : (most fraction : ℕ) → most ≡ 0 → fraction_digits most fraction ≡ []
digits_none most fraction e = ap (λ n. fraction_digits n fraction) e

pub digits_done : (most fraction : ℕ) → fraction ≡ 0 → fraction_digits most fraction ≡ []
digits_done zero fraction e = refl
digits_done (suc most) fraction e = ap (λ t. cond t [] ((48 + fraction * 10 / 1000000) ∷ fraction_digits most (fraction * 10 % 1000000))) (is_zero fraction e)

pub ruleset digits_are = (digits_next, digits_none, digits_done)
