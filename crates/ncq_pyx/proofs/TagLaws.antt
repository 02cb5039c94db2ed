-- The set of names beside the attributes of a tag, after one more.
use Rattle.std.proofs.Common.{◌≡◌, ◌||◌, nat_eq, ℕ, Bool, true, false, cond, List, [], ◌∷◌, ◌++◌, refl, ap, sym, ◌∙◌}
use Rattle.std.specs.BTreeSet.{BTreeSet, contains}
use Rattle.std.specs.Cmp.Lexicographic.{slice_cmp}
use Rattle.std.specs.Ordering.{nat_cmp, is_eq}
use lib.Pointwise.{pointwise}
use Rattle.ncq_base.specs.contracts.bytes.BytesOrd.TheImpl.Laws.{matches_eq-law}
use Rattle.ncq_tree.specs.declared.model.Attribute.{Attribute}
use Rattle.ncq_tree.specs.Normal.{has_name}
use Rattle.ncq_pyx.specs.LineKinds.{is_among}

or_more : (a b c : Bool) → a || (b || c) ≡ (a || b) || c
or_more true b c = refl
or_more false b c = refl

or_none : (a : Bool) → a || false ≡ a
or_none true = refl
or_none false = refl

has_more : (attributes : List Attribute) (a : Attribute) (name : List ℕ) → has_name (attributes ++ a ∷ []) name ≡ has_name attributes name || pointwise nat_eq a.name name
has_more [] a name = or_none (pointwise nat_eq a.name name)
has_more (b ∷ more) a name =
    ap (λ v. pointwise nat_eq b.name name || v) (has_more more a name)
    ∙ or_more (pointwise nat_eq b.name name) (has_name more name) (pointwise nat_eq a.name name)

or_cond : (s t : Bool) → cond s true t ≡ t || s
or_cond true true = refl
or_cond true false = refl
or_cond false true = refl
or_cond false false = refl

pub names_more : (names more : BTreeSet (List ℕ)) (attributes : List Attribute) (a : Attribute) (key : List ℕ)
    → ((q : List ℕ) → contains (slice_cmp nat_cmp) more q ≡ cond (is_eq (slice_cmp nat_cmp key q)) true (contains (slice_cmp nat_cmp) names q))
    → key ≡ a.name
    → ((q : List ℕ) → is_among names q ≡ has_name attributes q)
    → (q : List ℕ) → is_among more q ≡ has_name (attributes ++ a ∷ []) q
names_more names more attributes a key updated same known q =
    updated q
    ∙ ap (λ v. cond (is_eq (slice_cmp nat_cmp v q)) true (is_among names q)) same
    ∙ ap (λ v. cond v true (is_among names q)) (sym (matches_eq-law a.name q))
    ∙ or_cond (pointwise nat_eq a.name q) (is_among names q)
    ∙ ap (λ v. v || pointwise nat_eq a.name q) (known q)
    ∙ sym (has_more attributes a q)
