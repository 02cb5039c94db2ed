-- Texts without escapes stand for themselves.
use Rattle.std.proofs.Common.{◌≡◌, ◌≢◌, ℕ, Bool, true, false, not, ◌&&◌, cond, List, [], ◌∷◌, ◌++◌, refl, sym, ap, ◌∙◌, arith}
use Rattle.std.specs.Prelude.{◌==◌}
use Rattle.std.specs.List.{list_all}
use Rattle.std.proofs.lemmas.Bool.Decides.{nat_tests}
use Rattle.ncq_base.specs.Escapes.{escaped, escaped_byte, is_literal, is_plain, meant, unescaped, unescaped_behind}
use Rattle.ncq_base.proofs.Tests.{both_true}

last_of : {A : Type 0} (s t u v : Bool) (a b c d e : A) → (not s && (not t && (not u && not v))) ≡ true → cond s a (cond t b (cond u c (cond v d e))) ≡ e
last_of true t u v a b c d e h = cc
last_of false true u v a b c d e h = cc
last_of false false true v a b c d e h = cc
last_of false false false true a b c d e h = cc
last_of false false false false a b c d e h = refl

plain_byte : (b : ℕ) → is_plain b ≡ true → escaped_byte b ≡ b ∷ []
plain_byte b h = last_of (b == 10) (b == 9) (b == 13) (b == 92) _ _ _ _ _ h

-- a text of plain bytes is written as it stands
pub plain_escaped : (text : List ℕ) → list_all is_plain text ≡ true → escaped text ≡ text
plain_escaped [] h = refl
plain_escaped (b ∷ more) h =
    let p = both_true (is_plain b) (list_all is_plain more) h in
    λ i. plain_byte b p.0 i ++ plain_escaped more p.1 i

second_of : {A : Type 0} (s : Bool) (a b : A) → not s ≡ true → cond s a b ≡ b
second_of true a b h = cc
second_of false a b h = refl

-- a text without a backslash is read as it stands
pub literal_unescaped : (text : List ℕ) → list_all is_literal text ≡ true → unescaped text ≡ text
literal_unescaped [] h = refl
literal_unescaped (b ∷ more) h =
    let p = both_true (is_literal b) (list_all is_literal more) h in
    second_of (b == 92) (unescaped_behind true more) (b ∷ unescaped more) p.0 ∙ ap (λ rest. b ∷ rest) (literal_unescaped more p.1)

-- one byte of a text is read, behind a backslash or not
module _ (x : ℕ) (rest : List ℕ) (s t : Bool) where
  pub reads_meant : s ≡ true → t ≡ false → unescaped_behind s (x ∷ rest) ≡ meant x ++ unescaped_behind t rest
  reads_meant p q = ap (λ b. unescaped_behind b (x ∷ rest)) p ∙ ap (λ b. meant x ++ unescaped_behind b rest) (sym q)

  pub reads_backslash : s ≡ false → t ≡ true → x ≡ 92 → unescaped_behind s (x ∷ rest) ≡ unescaped_behind t rest
  reads_backslash p q e =
      ap (λ b. unescaped_behind b (x ∷ rest)) p
      ∙ ap (λ y. cond (y == 92) (unescaped_behind true rest) (y ∷ unescaped_behind false rest)) e
      ∙ ap (λ b. unescaped_behind b rest) (sym q)

  pub reads_itself : s ≡ false → t ≡ false → x ≢ 92 → unescaped_behind s (x ∷ rest) ≡ x ∷ unescaped_behind t rest
  reads_itself p q e =
      ap (λ b. unescaped_behind b (x ∷ rest)) p
      ∙ ap (λ (b : Bool). cond b (unescaped_behind true rest) (x ∷ unescaped_behind false rest)) (other x e)
      ∙ ap (λ b. x ∷ unescaped_behind b rest) (sym q)
    where
      other : (x : ℕ) → x ≢ 92 → (x == 92) ≡ false
      other x e = grind (arith, nat_tests)
