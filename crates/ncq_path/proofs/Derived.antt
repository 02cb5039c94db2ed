-- The test whether a list is in an expression is right.
use Rattle.std.proofs.Common.{◌≡◌, ◌⊎◌, inl, inr, ℕ, Bool, true, false, if◌then◌else◌, List, [], ◌∷◌, ◌++◌, refl, sym, ◌∙◌, subst, arith}
use Rattle.std.specs.Prelude.{◌↔◌, nat_le}
use Rattle.std.specs.List.{AllByRecursion, flat_map}
use Rattle.std.specs.Str.{bytes_eq}
use Rattle.std.proofs.lemmas.Bool.Decides.{nat_tests}
use lib.Pointwise.{bytes_decides}
use Rattle.ncq_path.specs.declared.path.Path.{Path}
use Rattle.ncq_path.specs.Deciding.{nullable, derived, is_in, in_path}
use Rattle.ncq_path.specs.Expressions.{Expression, IsIn, ArePartsOf, AreCut}
use Rattle.ncq_path.specs.Expressions.Expression.{Letter, Empty, Never, Then, Or, ZeroOrMore, OneOrMore}
use Rattle.ncq_path.specs.Paths.{InPath, expression}
use Rattle.ncq_path.specs.Formed.{IsWellFormed, names_in, is_joined, is_formed}
use Rattle.ncq_path.proofs.Language.{null_in, in_null, cut_at, in_front, in_rest, nil_front, more_parts, each_both}

begins : {A : Type 0} (front rest : List A) (l : A) (v : List A) → l ∷ v ≡ front ++ rest
    → ((more : List A) × (front ≡ l ∷ more) × (v ≡ more ++ rest)) ⊎ (([] ≡ front) × (rest ≡ l ∷ v))
begins front rest l v e =
    elim (cut_at front rest [] l v e) [
      | in_front more f g ↦ inl (more, f, g)
      | in_rest more f g ↦ let n = nil_front front more f in inr (n.0, g ∙ (λ i. sym n.1 i ++ l ∷ v))
    ]

-- what the first of some parts leaves, and the parts behind it
module _ (a : Expression (List ℕ)) (tag : List ℕ)
    (known : (tags : List (List ℕ)) → IsIn a (tag ∷ tags) → IsIn (derived tag a) tags) where
  parts_derived : (parts : List (List (List ℕ))) → AllByRecursion (IsIn a) parts
      → (tags : List (List ℕ)) → tag ∷ tags ≡ flat_map (λ p. p) parts
      → AreCut (IsIn (derived tag a)) (ArePartsOf (IsIn a)) tags
  parts_derived [] all tags e = cc
  parts_derived (p ∷ parts) all tags e =
      elim (begins p (flat_map (λ p. p) parts) tag tags e) [
        | inl k ↦ (k.0, flat_map (λ p. p) parts, known k.0 (subst (IsIn a) k.1 all.0), (parts, all.1, refl), k.2)
        | inr k ↦ parts_derived parts all.1 tags (sym k.1)
      ]

-- what stands behind a name that stands first is in what may
pub to_derived : (e : Expression (List ℕ)) (tag : List ℕ) (tags : List (List ℕ)) → IsIn e (tag ∷ tags)
    → IsIn (derived tag e) tags
to_derived (Letter name) tag tags h =
    let same : name ≡ tag = cc in
    let none : tags ≡ [] = cc in
    subst (λ (b : Bool). IsIn (if b then Empty else Never) tags) (sym ((bytes_decides name tag).1 same)) none
to_derived Empty tag tags h = cc
to_derived Never tag tags h = h
to_derived (Then a b) tag tags (front, rest, p, q, e) =
    elim (begins front rest tag tags e) [
      | inl k ↦
          let here : IsIn (Then (derived tag a) b) tags =
          (k.0, rest, to_derived a tag k.0 (subst (IsIn a) k.1 p), q, k.2) in
          elim (nullable a) as (λ c. IsIn (if c then Or (Then (derived tag a) b) (derived tag b) else Then (derived tag a) b) tags) [
            | true ↦ inl here
            | false ↦ here
          ]
      | inr k ↦
          subst (λ (c : Bool). IsIn (if c then Or (Then (derived tag a) b) (derived tag b) else Then (derived tag a) b) tags)
          (sym (in_null a (subst (IsIn a) (sym k.0) p))) (inr (to_derived b tag tags (subst (IsIn b) k.1 q)))
    ]
to_derived (Or a b) tag tags (inl h) = inl (to_derived a tag tags h)
to_derived (Or a b) tag tags (inr h) = inr (to_derived b tag tags h)
to_derived (ZeroOrMore a) tag tags (parts, all, e) = parts_derived a tag (to_derived a tag) parts all tags e
to_derived (OneOrMore a) tag tags (front, rest, p, (parts, all, f), e) =
    elim (begins front rest tag tags e) [
      | inl k ↦ (k.0, rest, to_derived a tag k.0 (subst (IsIn a) k.1 p), (parts, all, f), k.2)
      | inr k ↦ parts_derived a tag (to_derived a tag) parts all tags (sym k.1 ∙ f)
    ]

-- and what may stand behind it stands there
pub from_derived : (e : Expression (List ℕ)) (tag : List ℕ) (tags : List (List ℕ))
    → IsIn (derived tag e) tags → IsIn e (tag ∷ tags)
from_derived (Letter name) tag tags h = letter (bytes_eq name tag) refl h
  where
    letter : (b : Bool) → bytes_eq name tag ≡ b → IsIn (if b then Empty else Never) tags
        → tag ∷ tags ≡ name ∷ []
    letter true e k = λ i. sym ((bytes_decides name tag).0 e) i ∷ k i
    letter false e k = absurd k
from_derived Empty tag tags h = absurd h
from_derived Never tag tags h = h
from_derived (Then a b) tag tags h =
    both (nullable a) refl h (λ k. (tag ∷ k.0, k.1, from_derived a tag k.0 k.2, k.3, (λ i. tag ∷ k.4 i)))
    (from_derived b tag tags)
  where
    both : (c : Bool) → nullable a ≡ c
        → IsIn (if c then Or (Then (derived tag a) b) (derived tag b) else Then (derived tag a) b) tags
        → (IsIn (Then (derived tag a) b) tags → IsIn (Then a b) (tag ∷ tags))
        → (IsIn (derived tag b) tags → IsIn b (tag ∷ tags))
        → IsIn (Then a b) (tag ∷ tags)
    both true n (inl k) first second = first k
    both true n (inr k) first second = ([], tag ∷ tags, null_in a n, second k, refl)
    both false n k first second = first k
from_derived (Or a b) tag tags (inl h) = inl (from_derived a tag tags h)
from_derived (Or a b) tag tags (inr h) = inr (from_derived b tag tags h)
from_derived (ZeroOrMore a) tag tags (front, rest, p, q, e) =
    subst (ArePartsOf (IsIn a)) (λ i. tag ∷ sym e i)
    (more_parts (IsIn a) (tag ∷ front) rest (from_derived a tag front p) q)
from_derived (OneOrMore a) tag tags (front, rest, p, q, e) =
    (tag ∷ front, rest, from_derived a tag front p, q, (λ i. tag ∷ e i))

pub is_in_right : (e : Expression (List ℕ)) (tags : List (List ℕ)) → (is_in e tags ≡ true) ↔ IsIn e tags
is_in_right e [] = (null_in e, in_null e)
is_in_right e (tag ∷ tags) =
    let k = is_in_right (derived tag e) tags in
    (λ h. from_derived e tag tags (k.0 h), λ h. k.1 (to_derived e tag tags h))

pub in_path_right : (path : Path) (tags : List (List ℕ)) → (in_path path tags ≡ true) ↔ InPath path tags
in_path_right path tags = is_in_right (expression path) tags

-- the test of a path is right
pub formed_right : (path : Path) → (is_formed path ≡ true) ↔ IsWellFormed path
formed_right path = (
  λ h. let s = each_both (nat_le (names_in path) 32) (is_joined path) h in
      record { few = grind (arith, nat_tests, s.0); joined = s.1 },
  λ w. let few = w.few in let joined = w.joined in grind (arith, nat_tests, few, joined),
)
