-- How a list goes on behind a place of a numbered expression.
use Rattle.std.proofs.Common.{◌≡◌, inl, inr, ℕ, Bool, true, false, if◌then◌else◌, List, [], ◌∷◌, ◌++◌, refl, sym, ap, ◌∙◌, subst, append_assoc}
use Rattle.std.specs.Prelude.{◌&&◌, ◌||◌, nat_eq}
use Rattle.std.specs.List.{AllByRecursion, flat_map}
use Rattle.std.proofs.lemmas.Bool.{eq-eqb}
use Rattle.ncq_path.specs.Expressions.{Expression, IsIn, ArePartsOf, AreCut}
use Rattle.ncq_path.specs.Expressions.Expression.{Letter, Empty, Never, Then, Or, ZeroOrMore, OneOrMore}
use Rattle.ncq_path.specs.After.{Place}
use Rattle.ncq_path.specs.Deciding.{nullable}
use Rattle.ncq_path.proofs.Language.{cut_at, in_front, in_rest, more_parts}

abbrev pub Numbered : Type 0
Numbered = Expression Place

-- whether the expression has the position
abbrev pub within : Numbered → ℕ → Bool
within (Letter l) r = nat_eq l.0 r
within Empty r = false
within Never r = false
within (Then a b) r = within a r || within b r
within (Or a b) r = within a r || within b r
within (ZeroOrMore a) r = within a r
within (OneOrMore a) r = within a r

-- whether a list in the expression may begin at the position
abbrev pub is_first : Numbered → ℕ → Bool
is_first (Letter l) q = nat_eq l.0 q
is_first Empty q = false
is_first Never q = false
is_first (Then a b) q = is_first a q || nullable a && is_first b q
is_first (Or a b) q = is_first a q || is_first b q
is_first (ZeroOrMore a) q = is_first a q
is_first (OneOrMore a) q = is_first a q

-- what may stand behind the position
abbrev pub continued : Numbered → ℕ → Numbered
continued (Letter l) r = Empty
continued Empty r = Empty
continued Never r = Empty
continued (Then a b) r = if within a r then Then (continued a r) b else continued b r
continued (Or a b) r = if within a r then continued a r else continued b r
continued (ZeroOrMore a) r = Then (continued a r) (ZeroOrMore a)
continued (OneOrMore a) r = Then (continued a r) (ZeroOrMore a)

-- no position stands in two places
abbrev pub Apart : Numbered → Type 0
Apart (Letter l) = Unit {0}
Apart Empty = Unit {0}
Apart Never = Unit {0}
Apart (Then a b) = Apart a × Apart b × ((r : ℕ) → within b r ≡ true → within a r ≡ false)
Apart (Or a b) = Apart a × Apart b × ((r : ℕ) → within b r ≡ true → within a r ≡ false)
Apart (ZeroOrMore a) = Apart a
Apart (OneOrMore a) = Apart a

left_of : (s t : Bool) → s ≡ true → (s || t) ≡ true
left_of s t p = (λ i. p i || t)

right_of : (s t : Bool) → t ≡ true → (s || t) ≡ true
right_of true t p = refl
right_of false t p = p

one_letter : {A : Type 0} (u : List A) (l : A) (v : List A) (m : A) → u ++ l ∷ v ≡ m ∷ []
    → (u ≡ []) × (l ≡ m) × (v ≡ [])
one_letter [] l v m e = (refl, cc, cc)
one_letter (x ∷ []) l v m e = cc
one_letter (x ∷ y ∷ u) l v m e = cc

no_letter : {A : Type 0} {B : Type 0} (u : List A) (l : A) (v : List A) → u ++ l ∷ v ≡ [] → B
no_letter [] l v e = cc
no_letter (x ∷ u) l v e = cc

-- what stands in a list of the expression stands in the expression
module _ (x : Numbered) (r : ℕ) (t : List ℕ)
    (known : (u v : List Place) → IsIn x (u ++ (r, t) ∷ v) → within x r ≡ true) where
  parts_within : (parts : List (List Place)) → AllByRecursion (IsIn x) parts
      → (u v : List Place) → u ++ (r, t) ∷ v ≡ flat_map (λ p. p) parts → within x r ≡ true
  parts_within [] all u v e = no_letter u (r, t) v e
  parts_within (p ∷ parts) all u v e =
      elim (cut_at p (flat_map (λ p. p) parts) u (r, t) v e) [
        | in_front more f g ↦ known u more (subst (IsIn x) f all.0)
        | in_rest more f g ↦ parts_within parts all.1 more v (sym g)
      ]

pub in_within : (x : Numbered) (r : ℕ) (t : List ℕ) (u v : List Place) → IsIn x (u ++ (r, t) ∷ v)
    → within x r ≡ true
in_within (Letter l) r t u v h =
    let e = one_letter u (r, t) v l h in eq-eqb l.0 r (ap (λ p. p.0) (sym e.1))
in_within Empty r t u v h = no_letter u (r, t) v h
in_within Never r t u v h = absurd h
in_within (Then a b) r t u v (front, rest, p, q, e) =
    elim (cut_at front rest u (r, t) v e) [
      | in_front more f g ↦ left_of (within a r) (within b r) (in_within a r t u more (subst (IsIn a) f p))
      | in_rest more f g ↦ right_of (within a r) (within b r) (in_within b r t more v (subst (IsIn b) g q))
    ]
in_within (Or a b) r t u v (inl h) = left_of (within a r) (within b r) (in_within a r t u v h)
in_within (Or a b) r t u v (inr h) = right_of (within a r) (within b r) (in_within b r t u v h)
in_within (ZeroOrMore a) r t u v (parts, all, e) =
    parts_within a r t (λ u v. in_within a r t u v) parts all u v e
in_within (OneOrMore a) r t u v (front, rest, p, (parts, all, f), e) =
    elim (cut_at front rest u (r, t) v e) [
      | in_front more g h ↦ in_within a r t u more (subst (IsIn a) g p)
      | in_rest more g h ↦ parts_within a r t (λ u v. in_within a r t u v) parts all more v (sym h ∙ f)
    ]

-- what stands behind a place is what may, and anything that may can stand there in its stead
abbrev pub GoesOn : (List Place → Type 0) → Numbered → Place → List Place → List Place → Type 0
GoesOn language rest l u v =
    IsIn rest v × ((w : List Place) → IsIn rest w → language (u ++ l ∷ w))

module _ (x : Numbered) (l : Place)
    (known : (u v : List Place) → IsIn x (u ++ l ∷ v)
    → GoesOn (IsIn x) (continued x l.0) l u v) where
  -- in the front of two parts
  front_goes_on : (language : List Place → Type 0) (second : List Place → Type 0)
      (u v more rest : List Place) → IsIn x (u ++ l ∷ more)
      → v ≡ more ++ rest → second rest
      → AreCut (IsIn (continued x l.0)) second v
      × ((w : List Place) → AreCut (IsIn (continued x l.0)) second w
      → AreCut (IsIn x) second (u ++ l ∷ w))
  front_goes_on language second u v more rest p e q =
      let k = known u more p in (
        (more, rest, k.0, q, e),
        λ w c. (
          u ++ l ∷ c.0,
          c.1,
          k.1 c.0 c.2,
          c.3,
          (λ i. u ++ l ∷ c.4 i) ∙ sym (append_assoc u (l ∷ c.0) c.1),
        ),
      )

  parts_go_on : (parts : List (List Place)) → AllByRecursion (IsIn x) parts
      → (u v : List Place) → u ++ l ∷ v ≡ flat_map (λ p. p) parts
      → GoesOn (ArePartsOf (IsIn x)) (Then (continued x l.0) (ZeroOrMore x)) l u v
  parts_go_on [] all u v e = no_letter u l v e
  parts_go_on (p ∷ parts) all u v e =
      elim (cut_at p (flat_map (λ p. p) parts) u l v e) [
        | in_front more f g ↦
            let k = front_goes_on (IsIn x) (ArePartsOf (IsIn x)) u v more (flat_map (λ p. p) parts)
            (subst (IsIn x) f all.0) g (parts, all.1, refl) in (
              k.0,
              λ w c. let d = k.1 w c in
                  subst (ArePartsOf (IsIn x)) (sym d.4) (more_parts (IsIn x) d.0 d.1 d.2 d.3),
            )
        | in_rest more f g ↦
            let k = parts_go_on parts all.1 more v (sym g) in (
              k.0,
              λ w c. subst (ArePartsOf (IsIn x)) (sym (append_assoc p more (l ∷ w)) ∙ (λ i. sym f i ++ l ∷ w))
                  (more_parts (IsIn x) p (more ++ l ∷ w) all.0 (k.1 w c)),
            )
      ]

pub goes_on : (x : Numbered) → Apart x → (l : Place) (u v : List Place) → IsIn x (u ++ l ∷ v)
    → GoesOn (IsIn x) (continued x l.0) l u v
goes_on (Letter m) apart l u v h =
    let e = one_letter u l v m h in
    (e.2, λ w c. (λ i. e.0 i ++ e.1 i ∷ c i))
goes_on Empty apart l u v h = no_letter u l v h
goes_on Never apart l u v h = absurd h
goes_on (Then a b) apart l u v (front, rest, p, q, e) =
    elim (cut_at front rest u l v e) [
      | in_front more f g ↦
          let here : within a l.0 ≡ true = in_within a l.0 l.1 u more (subst (IsIn a) f p) in
          let k = front_goes_on a l (λ u v. goes_on a apart.0 l u v) (IsIn a) (IsIn b) u v more rest
          (subst (IsIn a) f p) g q in
          subst (λ (c : Bool). GoesOn (IsIn (Then a b)) (if c then Then (continued a l.0) b else continued b l.0) l u v)
          (sym here) k
      | in_rest more f g ↦
          let there : within a l.0 ≡ false = apart.2 l.0 (in_within b l.0 l.1 more v (subst (IsIn b) g q)) in
          let k = goes_on b apart.1 l more v (subst (IsIn b) g q) in
          subst (λ (c : Bool). GoesOn (IsIn (Then a b)) (if c then Then (continued a l.0) b else continued b l.0) l u v)
          (sym there) (
            k.0,
            λ w c. (
              front,
              more ++ l ∷ w,
              p,
              k.1 w c,
              (λ i. f i ++ l ∷ w) ∙ append_assoc front more (l ∷ w),
            ),
          )
    ]
goes_on (Or a b) apart l u v (inl h) =
    let here : within a l.0 ≡ true = in_within a l.0 l.1 u v h in
    let k = goes_on a apart.0 l u v h in
    subst (λ (c : Bool). GoesOn (IsIn (Or a b)) (if c then continued a l.0 else continued b l.0) l u v)
    (sym here) (k.0, λ w c. inl (k.1 w c))
goes_on (Or a b) apart l u v (inr h) =
    let there : within a l.0 ≡ false = apart.2 l.0 (in_within b l.0 l.1 u v h) in
    let k = goes_on b apart.1 l u v h in
    subst (λ (c : Bool). GoesOn (IsIn (Or a b)) (if c then continued a l.0 else continued b l.0) l u v)
    (sym there) (k.0, λ w c. inr (k.1 w c))
goes_on (ZeroOrMore a) apart l u v (parts, all, e) =
    parts_go_on a l (λ u v. goes_on a apart l u v) parts all u v e
goes_on (OneOrMore a) apart l u v (front, rest, p, (parts, all, f), e) =
    elim (cut_at front rest u l v e) [
      | in_front more g h ↦
          front_goes_on a l (λ u v. goes_on a apart l u v) (IsIn a) (ArePartsOf (IsIn a)) u v more rest
          (subst (IsIn a) g p) h (parts, all, f)
      | in_rest more g h ↦
          let k = parts_go_on a l (λ u v. goes_on a apart l u v) parts all more v (sym h ∙ f) in
          (k.0, λ w c. (front, more ++ l ∷ w, p, k.1 w c, (λ i. g i ++ l ∷ w) ∙ append_assoc front more (l ∷ w)))
    ]
