-- Whole numbers in decimal digits.
use Rattle.std.specs.Prelude.{◌+◌, ◌-◌, ◌*◌, ◌^◌, ℕ, Bool, ◌&&◌, List, Option, Some, None}
use Rattle.std.specs.Prelude.{if◌then◌else◌, nat_lt, nat_le, length, fold}
use Rattle.std.specs.List.{list_all}

-- `0` to `9`
abbrev pub is_digit : ℕ → Bool
is_digit b = nat_le 48 b && nat_le b 57

-- the number that the digits write
abbrev pub digits_value : List ℕ → ℕ
digits_value digits = fold (λ n d. n * 10 + (d - 48)) 0 digits

-- 1 to 20 digits of a number below 2^64
abbrev pub read_u64 : List ℕ → Option ℕ
read_u64 text =
    if nat_lt 0 (length text) && nat_le (length text) 20 && list_all is_digit text
    && nat_lt (digits_value text) (2 ^ 64)
    then Some (digits_value text)
    else None
