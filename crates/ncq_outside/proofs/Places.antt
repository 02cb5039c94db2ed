-- Places of a line that is given again and again.
use Rattle.std.proofs.Common.{◌≡◌, ◌+◌, ◌<◌, ◌≤◌, ◌%◌, ℕ, arith}
use Rattle.std.proofs.Math.Nat.{mod-add-mod, mod-eq_of_lt, mod-lt, mod_self}

-- the next place within the line
pub next_place : (x n : ℕ) → x % n + 1 < n → (x + 1) % n ≡ x % n + 1
next_place x n within = rw (← mod-add-mod x n 1) (mod-eq_of_lt within)

-- behind the last place comes the first
pub first_place : (x n : ℕ) → 0 < n → n ≤ x % n + 1 → (x + 1) % n ≡ 0
first_place x n some behind =
    let last : x % n + 1 ≡ n = omega (arith, mod-lt x some) in
    rw (← mod-add-mod x n 1) (rw last (mod_self n))
