-- Counts of byte strings, with the number of changes that made them.
use Rattle.std.specs.Prelude.{ℕ, ℤ, refl}
use Rattle.std.specs.Coded.{Coded, code_by, coded×, coded_ℕ, coded_ℤ, coded_list}
use Rattle.std.specs.FinMap.{code}
use Rattle.ncq_base.specs.Keys.{ByBytes}

pub record Counted : Type 0 where
  pub counts : ByBytes ℤ
  pub adds : ℕ

abbrev pub counted_code : Coded Counted
counted_code = code_by (ByBytes ℤ × ℕ) (coded× (code (coded_list coded_ℕ) coded_ℤ) coded_ℕ)
    (λ c. (c.counts, c.adds))
    (λ p. record { counts = p.0; adds = p.1 }) (λ _. refl)
