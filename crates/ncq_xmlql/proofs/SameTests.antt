-- Two tests of one fact.
use Rattle.std.proofs.Common.{◌≡◌, Bool, true, false, IsTrue, ◌↔◌, refl, sym}

pub same_tests : (P : Type 0) {s t : Bool} → IsTrue s ↔ P → (t ≡ true → P) × (P → t ≡ true) → s ≡ t
same_tests P {s = true} {t = true} a b = refl
same_tests P {s = false} {t = false} a b = refl
same_tests P {s = true} {t = false} a b = sym (b.1 (a.0 refl))
same_tests P {s = false} {t = true} a b = a.1 (b.0 refl)
