-- Readings of a path: where they begin, how they go on, what they read.
use Rattle.std.proofs.Common.{◌≡◌, ◌⊎◌, inl, inr, ℕ, ◌+◌, ◌<◌, Bool, true, false, if◌then◌else◌, List, [], ◌∷◌, ◌++◌, length, length-append, get_or, map, refl, sym, ap, ◌∙◌, subst, append-nil, arith}
use Rattle.std.specs.Prelude.{◌&&◌, ◌||◌}
use Rattle.std.specs.List.{AllByRecursion, flat_map}
use Rattle.std.proofs.lemmas.List.{map-append, get_or_append_left, get_or-append-add}
use Rattle.std.proofs.lemmas.Bool.{eqb-true, eq-eqb}
use Rattle.ncq_path.specs.Expressions.{Expression, IsIn, ArePartsOf, size, numbered}
use Rattle.ncq_path.specs.Expressions.Expression.{Letter, Empty, Never, Then, Or, ZeroOrMore, OneOrMore}
use Rattle.ncq_path.specs.After.{Place}
use Rattle.ncq_path.specs.Links.{ends_of, links}
use Rattle.ncq_path.specs.Deciding.{nullable}
use Rattle.ncq_path.proofs.Language.{Live, null_in, in_null, some_in, cut_at, in_front, in_rest, nil_front, each_both, either_of}
use Rattle.ncq_path.proofs.Continued.{Numbered, within, is_first, continued}
use Rattle.std.specs.Int.Bits.{bit_or}

left_of : (s t : Bool) → s ≡ true → (s || t) ≡ true
left_of s t p = (λ i. p i || t)

right_of : (s t : Bool) → t ≡ true → (s || t) ≡ true
right_of true t p = refl
right_of false t p = p

-- a list that begins with a place is cut in two: the place begins the first part, or the first part
-- is empty and it begins the second
begins : {A : Type 0} (front rest : List A) (l : A) (v : List A) → l ∷ v ≡ front ++ rest
    → ((more : List A) × (front ≡ l ∷ more)) ⊎ (([] ≡ front) × (rest ≡ l ∷ v))
begins front rest l v e =
    elim (cut_at front rest [] l v e) [
      | in_front more f g ↦ inl (more, f)
      | in_rest more f g ↦ let n = nil_front front more f in inr (n.0, g ∙ (λ i. sym n.1 i ++ l ∷ v))
    ]

module _ (x : Numbered) (q : ℕ) (t : List ℕ)
    (known : (v : List Place) → IsIn x ((q, t) ∷ v) → is_first x q ≡ true) where
  parts_begin : (parts : List (List Place)) → AllByRecursion (IsIn x) parts → (v : List Place)
      → (q, t) ∷ v ≡ flat_map (λ p. p) parts → is_first x q ≡ true
  parts_begin [] all v e = cc
  parts_begin (p ∷ parts) all v e =
      elim (begins p (flat_map (λ p. p) parts) (q, t) v e) [
        | inl k ↦ known k.0 (subst (IsIn x) k.1 all.0)
        | inr k ↦ parts_begin parts all.1 v (sym k.1)
      ]

-- a list in the expression begins where it may
pub first_in : (x : Numbered) (q : ℕ) (t : List ℕ) (v : List Place) → IsIn x ((q, t) ∷ v)
    → is_first x q ≡ true
first_in (Letter l) q t v h = eq-eqb l.0 q (let e : (q, t) ≡ l = cc in ap (λ p. p.0) (sym e))
first_in Empty q t v h = cc
first_in Never q t v h = absurd h
first_in (Then a b) q t v (front, rest, p, s, e) =
    elim (begins front rest (q, t) v e) [
      | inl k ↦ left_of (is_first a q) (nullable a && is_first b q) (first_in a q t k.0 (subst (IsIn a) k.1 p))
      | inr k ↦ right_of (is_first a q) (nullable a && is_first b q)
          (λ i. in_null a (subst (IsIn a) (sym k.0) p) i && first_in b q t v (subst (IsIn b) k.1 s) i)
    ]
first_in (Or a b) q t v (inl h) = left_of (is_first a q) (is_first b q) (first_in a q t v h)
first_in (Or a b) q t v (inr h) = right_of (is_first a q) (is_first b q) (first_in b q t v h)
first_in (ZeroOrMore a) q t v (parts, all, e) =
    parts_begin a q t (λ v. first_in a q t v) parts all v e
first_in (OneOrMore a) q t v (front, rest, p, (parts, all, f), e) =
    elim (begins front rest (q, t) v e) [
      | inl k ↦ first_in a q t k.0 (subst (IsIn a) k.1 p)
      | inr k ↦ parts_begin a q t (λ v. first_in a q t v) parts all v (sym k.1 ∙ f)
    ]

-- and where it may, one begins
pub first_some : (x : Numbered) → Live x → (q : ℕ) → is_first x q ≡ true
    → (t : List ℕ) × (v : List Place) × IsIn x ((q, t) ∷ v)
first_some (Letter l) h q e = (l.1, [], (λ i. (sym (eqb-true l.0 q e) i, l.1) ∷ []))
first_some Empty h q e = cc
first_some Never h q e = cc
first_some (Then a b) h q e =
    elim (either_of (is_first a q) (nullable a && is_first b q) e) [
      | inl k ↦
          let p = first_some a h.0 q k in let w = some_in b h.2 in
          (p.0, p.1 ++ w.0, ((q, p.0) ∷ p.1, w.0, p.2, w.1, refl))
      | inr k ↦
          let s = each_both (nullable a) (is_first b q) k in let p = first_some b h.1 q s.1 in
          (p.0, p.1, ([], (q, p.0) ∷ p.1, null_in a s.0, p.2, refl))
    ]
first_some (Or a b) h q e =
    elim (either_of (is_first a q) (is_first b q) e) [
      | inl k ↦ let p = first_some a h.0 q k in (p.0, p.1, inl p.2)
      | inr k ↦ let p = first_some b h.1 q k in (p.0, p.1, inr p.2)
    ]
first_some (ZeroOrMore a) h q e =
    let p = first_some a h q e in
    (p.0, p.1, (((q, p.0) ∷ p.1) ∷ [], (p.2, tt), sym (append-nil ((q, p.0) ∷ p.1))))
first_some (OneOrMore a) h q e =
    let p = first_some a h q e in
    (p.0, p.1, ((q, p.0) ∷ p.1, [], p.2, ([], tt, refl), sym (append-nil ((q, p.0) ∷ p.1))))

-- what may stand behind a position goes on to a whole list too
pub live_continued : (x : Numbered) (r : ℕ) → Live x → Live (continued x r)
live_continued (Letter l) r h = tt
live_continued Empty r h = tt
live_continued Never r h = tt
live_continued (Then a b) r h =
    elim (within a r) as (λ c. Live (if c then Then (continued a r) b else continued b r)) [
      | true ↦ (live_continued a r h.0, h.1, h.2)
      | false ↦ live_continued b r h.1
    ]
live_continued (Or a b) r h =
    elim (within a r) as (λ c. Live (if c then continued a r else continued b r)) [
      | true ↦ live_continued a r h.0
      | false ↦ live_continued b r h.1
    ]
live_continued (ZeroOrMore a) r h = (live_continued a r h, h, tt)
live_continued (OneOrMore a) r h = (live_continued a r h, h, tt)

-- the letters of places
abbrev pub letters_of : {L : Type 0} → List (ℕ × L) → List L
letters_of places = map (λ p. p.1) places

letters_of_parts : {L : Type 0} (parts : List (List (ℕ × L)))
    → letters_of (flat_map (λ p. p) parts) ≡ flat_map (λ p. p) (map letters_of parts)
letters_of_parts [] = refl
letters_of_parts (p ∷ parts) =
    map-append (λ p. p.1) p (flat_map (λ p. p) parts) ∙ (λ i. letters_of p ++ letters_of_parts parts i)

module _ {L : Type 0} (e : Expression L) (n : ℕ)
    (known : (w : List (ℕ × L)) → IsIn (numbered n e) w → IsIn e (letters_of w)) where
  parts_letters : (parts : List (List (ℕ × L))) → AllByRecursion (IsIn (numbered n e)) parts
      → AllByRecursion (IsIn e) (map letters_of parts)
  parts_letters [] all = tt
  parts_letters (p ∷ parts) all = (known p all.0, parts_letters parts all.1)

-- the letters of a list of places in the numbered expression are in the expression
pub letters_in : {L : Type 0} (n : ℕ) (e : Expression L) (w : List (ℕ × L)) → IsIn (numbered n e) w
    → IsIn e (letters_of w)
letters_in n (Letter l) w h = ap letters_of h
letters_in n Empty w h = ap letters_of h
letters_in n Never w h = h
letters_in n (Then a b) w (front, rest, p, q, e) = (
  letters_of front,
  letters_of rest,
  letters_in n a front p,
  letters_in (n + size a) b rest q,
  ap letters_of e ∙ map-append (λ p. p.1) front rest,
)
letters_in n (Or a b) w (inl h) = inl (letters_in n a w h)
letters_in n (Or a b) w (inr h) = inr (letters_in (n + size a) b w h)
letters_in n (ZeroOrMore a) w (parts, all, e) =
    (map letters_of parts, parts_letters a n (letters_in n a) parts all, ap letters_of e ∙ letters_of_parts parts)
letters_in n (OneOrMore a) w (front, rest, p, (parts, all, f), e) = (
  letters_of front,
  letters_of rest,
  letters_in n a front p,
  (map letters_of parts, parts_letters a n (letters_in n a) parts all, ap letters_of f ∙ letters_of_parts parts),
  ap letters_of e ∙ map-append (λ p. p.1) front rest,
)

-- places that have these letters
abbrev PlacesOf : {L : Type 0} → (List (ℕ × L) → Type 0) → List L → Type 0
PlacesOf {L = L} language letters =
    (w : List (ℕ × L)) × language w × (letters_of w ≡ letters)

module _ {L : Type 0} (e : Expression L) (n : ℕ)
    (known : (ls : List L) → IsIn e ls → PlacesOf (IsIn (numbered n e)) ls) where
  parts_placed : (parts : List (List L)) → AllByRecursion (IsIn e) parts
      → PlacesOf (ArePartsOf (IsIn (numbered n e))) (flat_map (λ p. p) parts)
  parts_placed [] all = ([], ([], tt, refl), refl)
  parts_placed (p ∷ parts) all =
      let k = known p all.0 in let m = parts_placed parts all.1 in (
        k.0 ++ m.0,
        (k.0 ∷ m.1.0, (k.1, m.1.1), (λ i. k.0 ++ m.1.2 i)),
        map-append (λ p. p.1) k.0 m.0 ∙ (λ i. k.2 i ++ m.2 i),
      )

-- a list in the expression has places
pub placed : {L : Type 0} (n : ℕ) (e : Expression L) (ls : List L) → IsIn e ls
    → PlacesOf (IsIn (numbered n e)) ls
placed n (Letter l) ls h = ((n + 1, l) ∷ [], refl, sym h)
placed n Empty ls h = ([], refl, sym h)
placed n Never ls h = absurd h
placed n (Then a b) ls (front, rest, p, q, e) =
    let k = placed n a front p in let m = placed (n + size a) b rest q in
    (k.0 ++ m.0, (k.0, m.0, k.1, m.1, refl), map-append (λ p. p.1) k.0 m.0 ∙ (λ i. k.2 i ++ m.2 i) ∙ sym e)
placed n (Or a b) ls (inl h) = let k = placed n a ls h in (k.0, inl k.1, k.2)
placed n (Or a b) ls (inr h) = let k = placed (n + size a) b ls h in (k.0, inr k.1, k.2)
placed n (ZeroOrMore a) ls (parts, all, e) =
    let k = parts_placed a n (placed n a) parts all in (k.0, k.1, k.2 ∙ sym e)
placed n (OneOrMore a) ls (front, rest, p, (parts, all, f), e) =
    let k = placed n a front p in let m = parts_placed a n (placed n a) parts all in (
      k.0 ++ m.0,
      (k.0, m.0, k.1, m.1, refl),
      map-append (λ p. p.1) k.0 m.0 ∙ (λ i. k.2 i ++ (m.2 ∙ sym f) i) ∙ sym e,
    )

-- the letters, in reading order
abbrev pub letters : {L : Type 0} → Expression L → List L
letters (Letter l) = l ∷ []
letters Empty = []
letters Never = []
letters (Then a b) = letters a ++ letters b
letters (Or a b) = letters a ++ letters b
letters (ZeroOrMore a) = letters a
letters (OneOrMore a) = letters a

pub length_letters : {L : Type 0} (e : Expression L) → length (letters e) ≡ size e
length_letters (Letter l) = refl
length_letters Empty = refl
length_letters Never = refl
length_letters (Then a b) =
    length-append (letters a) (letters b) ∙ (λ i. length_letters a i + length_letters b i)
length_letters (Or a b) =
    length-append (letters a) (letters b) ∙ (λ i. length_letters a i + length_letters b i)
length_letters (ZeroOrMore a) = length_letters a
length_letters (OneOrMore a) = length_letters a

pub letters_of_links : (e : Expression (List ℕ)) (n before : ℕ)
    → map (λ p. p.name) (links e n before) ≡ letters e
letters_of_links (Letter l) n before = refl
letters_of_links Empty n before = refl
letters_of_links Never n before = refl
letters_of_links (Then a b) n before =
    map-append (λ p. p.name) (links a n before) (links b (n + size a) (ends_of a n before))
    ∙ (λ i. letters_of_links a n before i ++ letters_of_links b (n + size a) (ends_of a n before) i)
letters_of_links (Or a b) n before =
    map-append (λ p. p.name) (links a n before) (links b (n + size a) before)
    ∙ (λ i. letters_of_links a n before i ++ letters_of_links b (n + size a) before i)
letters_of_links (ZeroOrMore a) n before = letters_of_links a n (bit_or before (ends_of a n 0))
letters_of_links (OneOrMore a) n before = letters_of_links a n (bit_or before (ends_of a n 0))

-- the place has the letter at its position
pub record IsPlaced {L : Type 0} (n : ℕ) (ls : List L) (p : ℕ × L) : Type 0 where
  pub at : ℕ
  pub below : at < length ls
  pub position : p.0 ≡ n + 1 + at
  pub letter : get_or ls at p.1 ≡ p.1

placed_left : {L : Type 0} (n : ℕ) (xs ys : List L) (p : ℕ × L) → IsPlaced n xs p
    → IsPlaced n (xs ++ ys) p
placed_left n xs ys p h = record {
  at = h.at;
  below = let e = length-append xs ys in omega (arith, h.below);
  position = h.position;
  letter = get_or_append_left xs ys p.1 h.at h.below ∙ h.letter;
}

placed_right : {L : Type 0} (n m : ℕ) (xs ys : List L) (p : ℕ × L) → m ≡ n + length xs → IsPlaced m ys p
    → IsPlaced n (xs ++ ys) p
placed_right n m xs ys p e h = record {
  at = length xs + h.at;
  below = let k = length-append xs ys in omega (arith, h.below);
  position = let k = h.position in omega arith;
  letter = get_or-append-add xs ys h.at p.1 ∙ h.letter;
}

all_append : {A : Type 0} (P : A → Type 0) (xs ys : List A) → AllByRecursion P xs
    → AllByRecursion P ys → AllByRecursion P (xs ++ ys)
all_append P [] ys p q = q
all_append P (x ∷ xs) ys p q = (p.0, all_append P xs ys p.1 q)

all_map : {A : Type 0} (P Q : A → Type 0) → ((x : A) → P x → Q x) → (xs : List A)
    → AllByRecursion P xs → AllByRecursion Q xs
all_map P Q f [] p = tt
all_map P Q f (x ∷ xs) p = (f x p.0, all_map P Q f xs p.1)

module _ {A : Type 0} (P : A → Type 0) (language : List A → Type 0)
    (known : (w : List A) → language w → AllByRecursion P w) where
  all_parts : (parts : List (List A)) → AllByRecursion language parts
      → AllByRecursion P (flat_map (λ p. p) parts)
  all_parts [] all = tt
  all_parts (p ∷ parts) all = all_append P p (flat_map (λ p. p) parts) (known p all.0) (all_parts parts all.1)

-- each place of a list in the numbered expression has the letter at its position
pub all_placed : {L : Type 0} (n : ℕ) (e : Expression L) (w : List (ℕ × L)) → IsIn (numbered n e) w
    → AllByRecursion (IsPlaced n (letters e)) w
all_placed {L = L} n (Letter l) w h =
    let one : IsPlaced n (l ∷ []) (n + 1, l) = record { at = 0; below = omega arith; position = omega arith; letter = refl } in
    subst (AllByRecursion (IsPlaced n (l ∷ []))) (sym h) (one, tt)
all_placed n Empty w h = subst (AllByRecursion (IsPlaced n [])) (sym h) tt
all_placed n Never w h = absurd h
all_placed n (Then a b) w (front, rest, p, q, e) =
    subst (AllByRecursion (IsPlaced n (letters a ++ letters b))) (sym e)
    (all_append (IsPlaced n (letters a ++ letters b)) front rest
    (all_map (IsPlaced n (letters a)) (IsPlaced n (letters a ++ letters b))
    (λ x k. placed_left n (letters a) (letters b) x k) front (all_placed n a front p))
    (all_map (IsPlaced (n + size a) (letters b)) (IsPlaced n (letters a ++ letters b))
    (λ x k. placed_right n (n + size a) (letters a) (letters b) x (λ i. n + sym (length_letters a) i) k)
    rest (all_placed (n + size a) b rest q)))
all_placed n (Or a b) w (inl h) =
    all_map (IsPlaced n (letters a)) (IsPlaced n (letters a ++ letters b))
    (λ x k. placed_left n (letters a) (letters b) x k) w (all_placed n a w h)
all_placed n (Or a b) w (inr h) =
    all_map (IsPlaced (n + size a) (letters b)) (IsPlaced n (letters a ++ letters b))
    (λ x k. placed_right n (n + size a) (letters a) (letters b) x (λ i. n + sym (length_letters a) i) k)
    w (all_placed (n + size a) b w h)
all_placed n (ZeroOrMore a) w (parts, all, e) =
    subst (AllByRecursion (IsPlaced n (letters a))) (sym e)
    (all_parts (IsPlaced n (letters a)) (IsIn (numbered n a)) (all_placed n a) parts all)
all_placed n (OneOrMore a) w (front, rest, p, (parts, all, f), e) =
    subst (AllByRecursion (IsPlaced n (letters a))) (sym e)
    (all_append (IsPlaced n (letters a)) front rest (all_placed n a front p)
    (subst (AllByRecursion (IsPlaced n (letters a))) (sym f)
    (all_parts (IsPlaced n (letters a)) (IsIn (numbered n a)) (all_placed n a) parts all)))

-- what holds of each holds of one in the middle
pub all_middle : {A : Type 0} (P : A → Type 0) (u : List A) (l : A) (v : List A)
    → AllByRecursion P (u ++ l ∷ v) → P l
all_middle P [] l v h = h.0
all_middle P (x ∷ u) l v h = all_middle P u l v h.1
