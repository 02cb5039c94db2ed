-- Which keys and which signatures are one.
use Rattle.std.proofs.Common.{◌≡◌, Bool, true, false, refl, sym, ap}
use Rattle.std.proofs.lemmas.Bool.{eqb-true, eq-eqb, and_parts, and_from}
use Rattle.ncq_base.specs.Exact.{exact_is, exact_itself}
use Rattle.ncq_signature.specs.declared.signature.Signature.{Signature}
use Rattle.ncq_signature.specs.contracts.signature.Signature.{the_row as signature_row}
use Rattle.ncq_signature.specs.Groups.{is_signature}
use Rattle.ncq_count.specs.declared.key.GroupKey.{GroupKey}
use Rattle.ncq_count.specs.declared.key.GroupKey.TheVariants.{Alone, Equals, Ranges}
use Rattle.ncq_count.specs.Counted.{is_key}

pub key_is : (a b : GroupKey) → is_key a b ≡ true → a ≡ b
key_is (Alone m) (Alone n) h = ap Alone (eqb-true m n h)
key_is (Equals m i) (Equals n j) h = let b = and_parts _ _ h in λ k. Equals (eqb-true m n b.0 k) (eqb-true i j b.1 k)
key_is (Ranges m i) (Ranges n j) h = let b = and_parts _ _ h in λ k. Ranges (eqb-true m n b.0 k) (eqb-true i j b.1 k)
key_is (Alone m) (Equals n j) h = cc
key_is (Alone m) (Ranges n j) h = cc
key_is (Equals m i) (Alone n) h = cc
key_is (Equals m i) (Ranges n j) h = cc
key_is (Ranges m i) (Alone n) h = cc
key_is (Ranges m i) (Equals n j) h = cc

pub key_itself : (a : GroupKey) → is_key a a ≡ true
key_itself (Alone n) = eq-eqb n n refl
key_itself (Equals n i) = and_from _ _ (eq-eqb n n refl) (eq-eqb i i refl)
key_itself (Ranges n i) = and_from _ _ (eq-eqb n n refl) (eq-eqb i i refl)

pub signature_is : (s t : Signature) → is_signature s t ≡ true → s ≡ t
signature_is = exact_is signature_row.coded

pub signature_itself : (s : Signature) → is_signature s s ≡ true
signature_itself = exact_itself signature_row.coded

-- tests that follow from each other answer alike
pub alike : (a b : Bool) → (a ≡ true → b ≡ true) → (b ≡ true → a ≡ true) → a ≡ b
alike true true to back = refl
alike true false to back = sym (to refl)
alike false true to back = back refl
alike false false to back = refl
