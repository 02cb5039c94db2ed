-- The lists that are in an expression.
use Rattle.std.proofs.Common.{◌≡◌, ◌⊎◌, inl, inr, Bool, true, false, List, [], ◌∷◌, ◌++◌, refl, sym, ap, subst}
use Rattle.std.specs.Prelude.{◌&&◌, ◌||◌}
use Rattle.ncq_path.specs.Deciding.{nullable}
use Rattle.ncq_path.specs.Expressions.{Expression, IsIn, ArePartsOf}
use Rattle.ncq_path.specs.Expressions.Expression.{Letter, Empty, Never, Then, Or, ZeroOrMore, OneOrMore}

-- the expression has a list
abbrev pub Filled : {L : Type 0} → Expression L → Type 0
Filled (Letter l) = Unit {0}
Filled Empty = Unit {0}
Filled Never = ⊥
Filled (Then a b) = Filled a × Filled b
Filled (Or a b) = Filled a ⊎ Filled b
Filled (ZeroOrMore a) = Unit {0}
Filled (OneOrMore a) = Filled a

-- each prefix of a list in it goes on to a whole one: what stands second has a list
abbrev pub Live : {L : Type 0} → Expression L → Type 0
Live (Letter l) = Unit {0}
Live Empty = Unit {0}
Live Never = Unit {0}
Live (Then a b) = Live a × Live b × Filled b
Live (Or a b) = Live a × Live b
Live (ZeroOrMore a) = Live a
Live (OneOrMore a) = Live a

pub nil_front : {A : Type 0} (xs ys : List A) → [] ≡ xs ++ ys → ([] ≡ xs) × ([] ≡ ys)
nil_front [] ys e = (refl, e)
nil_front (x ∷ xs) ys e = cc

both : (s t : Bool) → s ≡ true → t ≡ true → (s && t) ≡ true
both s t p q = (λ i. p i && q i)

pub each_both : (s t : Bool) → (s && t) ≡ true → (s ≡ true) × (t ≡ true)
each_both true t h = (refl, h)
each_both false t h = cc

left_of : (s t : Bool) → s ≡ true → (s || t) ≡ true
left_of s t p = (λ i. p i || t)

right_of : (s t : Bool) → t ≡ true → (s || t) ≡ true
right_of true t p = refl
right_of false t p = p

pub either_of : (s t : Bool) → (s || t) ≡ true → (s ≡ true) ⊎ (t ≡ true)
either_of true t h = inl refl
either_of false t h = inr h

-- the empty list is in it where it is nullable
pub null_in : {L : Type 0} (x : Expression L) → nullable x ≡ true → IsIn x []
null_in (Letter l) h = cc
null_in Empty h = refl
null_in Never h = cc
null_in (Then a b) h =
    let e = each_both (nullable a) (nullable b) h in ([], [], null_in a e.0, null_in b e.1, refl)
null_in (Or a b) h =
    elim (either_of (nullable a) (nullable b) h) [ inl p ↦ inl (null_in a p) | inr p ↦ inr (null_in b p) ]
null_in (ZeroOrMore a) h = ([], tt, refl)
null_in (OneOrMore a) h = ([], [], null_in a h, ([], tt, refl), refl)

-- and nowhere else
pub in_null : {L : Type 0} (x : Expression L) → IsIn x [] → nullable x ≡ true
in_null (Letter l) h = cc
in_null Empty h = refl
in_null Never h = absurd h
in_null {L = L} (Then a b) (front, rest, p, q, e) =
    let n = nil_front front rest e in
    both (nullable a) (nullable b)
    (in_null a (subst (IsIn a) (sym n.0) p)) (in_null b (subst (IsIn b) (sym n.1) q))
in_null (Or a b) (inl p) = left_of (nullable a) (nullable b) (in_null a p)
in_null (Or a b) (inr p) = right_of (nullable a) (nullable b) (in_null b p)
in_null (ZeroOrMore a) h = refl
in_null (OneOrMore a) (front, rest, p, q, e) =
    let n = nil_front front rest e in in_null a (subst (IsIn a) (sym n.0) p)

pub some_in : {L : Type 0} (x : Expression L) → Filled x → (w : List L) × IsIn x w
some_in (Letter l) h = (l ∷ [], refl)
some_in Empty h = ([], refl)
some_in Never h = absurd h
some_in (Then a b) h =
    let p = some_in a h.0 in let q = some_in b h.1 in (p.0 ++ q.0, (p.0, q.0, p.1, q.1, refl))
some_in (Or a b) (inl h) = let p = some_in a h in (p.0, inl p.1)
some_in (Or a b) (inr h) = let p = some_in b h in (p.0, inr p.1)
some_in (ZeroOrMore a) h = ([], ([], tt, refl))
some_in (OneOrMore a) h =
    let p = some_in a h in (p.0 ++ [], (p.0, [], p.1, ([], tt, refl), refl))

-- a list that has an element, cut in two: the element is in the front or in the rest
pub data Cut {A : Type 0} (front rest u : List A) (l : A) (v : List A) : Type 0 where
  in_front : (more : List A) → front ≡ u ++ l ∷ more → v ≡ more ++ rest → Cut front rest u l v
  in_rest : (more : List A) → u ≡ front ++ more → rest ≡ more ++ l ∷ v → Cut front rest u l v

head_is : {A : Type 0} (x y : A) (xs ys : List A) → x ∷ xs ≡ y ∷ ys → x ≡ y
head_is x y xs ys e = cc

tail_is : {A : Type 0} (x y : A) (xs ys : List A) → x ∷ xs ≡ y ∷ ys → xs ≡ ys
tail_is x y xs ys e = cc

pub cut_at : {A : Type 0} (front rest u : List A) (l : A) (v : List A) → u ++ l ∷ v ≡ front ++ rest
    → Cut front rest u l v
cut_at [] rest u l v e = in_rest u refl (sym e)
cut_at (x ∷ front) rest [] l v e =
    in_front front (λ i. sym (head_is l x v (front ++ rest) e) i ∷ front) (tail_is l x v (front ++ rest) e)
cut_at {A = A} (x ∷ front) rest (y ∷ u) l v e =
    let first : y ≡ x = head_is y x (u ++ l ∷ v) (front ++ rest) e in
    elim (cut_at front rest u l v (tail_is y x (u ++ l ∷ v) (front ++ rest) e)) [
      | in_front more p q ↦ in_front more (λ i. sym first i ∷ p i) q
      | in_rest more p q ↦ in_rest more (λ i. first i ∷ p i) q
    ]

-- parts, the first of which has the list in front
pub more_parts : {L : Type 0} (language : List L → Type 0) (first rest : List L) → language first
    → ArePartsOf language rest → ArePartsOf language (first ++ rest)
more_parts language first rest p (parts, all, e) = (first ∷ parts, (p, all), ap (λ w. first ++ w) e)
