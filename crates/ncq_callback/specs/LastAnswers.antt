-- The answer that came last, which is not yet counted. Only the crate's private clauses cite it.
use Rattle.std.specs.Prelude.{ℕ, ℤ, Bool, List, Option, Some, None, refl}
use Rattle.std.specs.Coded.{Coded, code_by, coded×, coded_ℕ, coded_bool, coded_list}
use Rattle.ncq_base.specs.Keys.{ByBytes}
use Rattle.ncq_bag.specs.Bags.{added}

-- an answer that stands so many times more, or so many times less
pub record Last : Type 0 where
  pub answer : List ℕ
  pub times : ℕ
  pub gain : Bool

abbrev pub last_code : Coded Last
last_code =
    code_by (List ℕ × (ℕ × Bool)) (coded× (coded_list coded_ℕ) (coded× coded_ℕ coded_bool))
    (λ l. (l.answer, (l.times, l.gain)))
    (λ p. record { answer = p.0; times = p.1.0; gain = p.1.1 }) (λ _. refl)

-- the counts with those of the last answer
abbrev pub with_last : ByBytes ℤ → Option Last → ByBytes ℤ
with_last counts None = counts
with_last counts (Some last) = added counts last.answer last.times last.gain

-- how many adds the last answer stands for
abbrev pub adds_of : Option Last → ℕ
adds_of None = 0
adds_of (Some last) = last.times
