-- What a machine keeps is right: the sets of positions in terms of what may stand behind each.
use Rattle.std.proofs.Common.{◌≡◌, ◌⊎◌, inl, inr, ℕ, ◌+◌, ◌<◌, ◌≤◌, Bool, true, false, if◌then◌else◌, List, [], ◌∷◌, ◌++◌, length, length-append, refl, sym, ◌∙◌, subst, arith, true≢false}
use Rattle.std.specs.Prelude.{◌&&◌, ◌||◌, nat_eq}
use Rattle.std.specs.Int.Bits.{bit_or}
use Rattle.std.proofs.lemmas.Bool.{eqb-true, eq-eqb}
use Rattle.ncq_path.specs.Expressions.{Expression, size, numbered}
use Rattle.ncq_path.specs.Expressions.Expression.{Letter, Empty, Never, Then, Or, ZeroOrMore, OneOrMore}
use Rattle.ncq_path.specs.declared.link.Link.{Link}
use Rattle.ncq_path.specs.Positions.{has}
use Rattle.ncq_path.specs.PositionLaws.{has_or, has_none, has_one, same_set}
use Rattle.ncq_path.specs.Links.{ends_of, links}
use Rattle.ncq_path.specs.Deciding.{nullable}
use Rattle.ncq_path.proofs.Language.{Live, Filled}
use Rattle.ncq_path.proofs.Continued.{Numbered, within, is_first, continued, Apart}
use Rattle.ncq_path.proofs.Bools.{again, then_ends, or_ends, many_ends, once_ends, then_left, then_right, or_left, or_right, many_link}

pub null_numbered : {L : Type 0} (n : ℕ) (e : Expression L) → nullable (numbered n e) ≡ nullable e
null_numbered n (Letter l) = refl
null_numbered n Empty = refl
null_numbered n Never = refl
null_numbered n (Then a b) = λ i. null_numbered n a i && null_numbered (n + size a) b i
null_numbered n (Or a b) = λ i. null_numbered n a i || null_numbered (n + size a) b i
null_numbered n (ZeroOrMore a) = refl
null_numbered n (OneOrMore a) = null_numbered n a

-- the positions of a numbered expression
pub within_range : (n : ℕ) (e : Expression (List ℕ)) (r : ℕ)
    → within (numbered n e) r ≡ true → (n < r) × (r ≤ n + size e)
within_range n (Letter l) r h = let e : n + 1 ≡ r = eqb-true (n + 1) r h in (omega arith, omega arith)
within_range n Empty r h = cc
within_range n Never r h = cc
within_range n (Then a b) r h =
    elim (either (within (numbered n a) r) (within (numbered (n + size a) b) r) h) [
      | inl p ↦ let k = within_range n a r p in (k.0, omega arith)
      | inr p ↦ let k = within_range (n + size a) b r p in (omega arith, omega arith)
    ]
  where
    either : (s t : Bool) → (s || t) ≡ true → (s ≡ true) ⊎ (t ≡ true)
    either true t h = inl refl
    either false t h = inr h
within_range n (Or a b) r h =
    elim (either (within (numbered n a) r) (within (numbered (n + size a) b) r) h) [
      | inl p ↦ let k = within_range n a r p in (k.0, omega arith)
      | inr p ↦ let k = within_range (n + size a) b r p in (omega arith, omega arith)
    ]
  where
    either : (s t : Bool) → (s || t) ≡ true → (s ≡ true) ⊎ (t ≡ true)
    either true t h = inl refl
    either false t h = inr h
within_range n (ZeroOrMore a) r h = within_range n a r h
within_range n (OneOrMore a) r h = within_range n a r h

false_where : (b : Bool) → (b ≡ true → ⊥) → b ≡ false
false_where true h = absurd (h refl)
false_where false h = refl

apart_two : (n : ℕ) (a b : Expression (List ℕ)) (r : ℕ)
    → within (numbered (n + size a) b) r ≡ true → within (numbered n a) r ≡ false
apart_two n a b r h =
    let q = within_range (n + size a) b r h in
    false_where (within (numbered n a) r) (λ k. let p = within_range n a r k in omega arith)

pub apart_numbered : (n : ℕ) (e : Expression (List ℕ)) → Apart (numbered n e)
apart_numbered n (Letter l) = tt
apart_numbered n Empty = tt
apart_numbered n Never = tt
apart_numbered n (Then a b) =
    (apart_numbered n a, apart_numbered (n + size a) b, apart_two n a b)
apart_numbered n (Or a b) = (apart_numbered n a, apart_numbered (n + size a) b, apart_two n a b)
apart_numbered n (ZeroOrMore a) = apart_numbered n a
apart_numbered n (OneOrMore a) = apart_numbered n a

pub filled_numbered : {L : Type 0} (n : ℕ) (e : Expression L) → Filled e → Filled (numbered n e)
filled_numbered n (Letter l) h = tt
filled_numbered n Empty h = tt
filled_numbered n Never h = h
filled_numbered n (Then a b) h = (filled_numbered n a h.0, filled_numbered (n + size a) b h.1)
filled_numbered n (Or a b) (inl h) = inl (filled_numbered n a h)
filled_numbered n (Or a b) (inr h) = inr (filled_numbered (n + size a) b h)
filled_numbered n (ZeroOrMore a) h = tt
filled_numbered n (OneOrMore a) h = filled_numbered n a h

pub live_numbered : {L : Type 0} (n : ℕ) (e : Expression L) → Live e → Live (numbered n e)
live_numbered n (Letter l) h = tt
live_numbered n Empty h = tt
live_numbered n Never h = tt
live_numbered n (Then a b) h =
    (live_numbered n a h.0, live_numbered (n + size a) b h.1, filled_numbered (n + size a) b h.2)
live_numbered n (Or a b) h = (live_numbered n a h.0, live_numbered (n + size a) b h.1)
live_numbered n (ZeroOrMore a) h = live_numbered n a h
live_numbered n (OneOrMore a) h = live_numbered n a h

null_if : (c : Bool) (x y : Numbered) → nullable (if c then x else y)
    ≡ (if c then nullable x else nullable y)
null_if true x y = refl
null_if false x y = refl

first_if : (c : Bool) (x y : Numbered) (q : ℕ) → is_first (if c then x else y) q
    ≡ (if c then is_first x q else is_first y q)
first_if true x y q = refl
first_if false x y q = refl

-- whether a reading that stands behind the position may end there
abbrev pub is_last : Numbered → ℕ → Bool
is_last x r = within x r && nullable (continued x r)

letter_ends : (s : Bool) (h : Bool) → s ≡ (s && true || false && h)
letter_ends true h = refl
letter_ends false h = refl

pub ends_of_has : (e : Expression (List ℕ)) (n before r : ℕ) → has (ends_of e n before) r
    ≡ (is_last (numbered n e) r || nullable e && has before r)
ends_of_has (Letter l) n before r = has_one (n + 1) r ∙ letter_ends (nat_eq (n + 1) r) (has before r)
ends_of_has Empty n before r = refl
ends_of_has Never n before r = has_none r
ends_of_has (Then a b) n before r =
    let x : Numbered = numbered n a in let y : Numbered = numbered (n + size a) b in
    ends_of_has b (n + size a) (ends_of a n before) r
    ∙ (λ i. is_last y r || nullable b && ends_of_has a n before r i)
    ∙ then_ends (within x r) (within y r) (nullable (continued x r)) (nullable (continued y r))
    (nullable a) (nullable b) (has before r) (apart_two n a b r)
    ∙ (λ i. (within x r || within y r)
    && (if within x r then nullable (continued x r) && sym (null_numbered (n + size a) b) i else nullable (continued y r))
    || (nullable a && nullable b) && has before r)
    ∙ (λ i. (within x r || within y r)
    && sym (null_if (within x r) (Then (continued x r) y) (continued y r)) i
    || (nullable a && nullable b) && has before r)
ends_of_has (Or a b) n before r =
    let x : Numbered = numbered n a in let y : Numbered = numbered (n + size a) b in
    has_or (ends_of a n before) (ends_of b (n + size a) before) r
    ∙ (λ i. ends_of_has a n before r i || ends_of_has b (n + size a) before r i)
    ∙ or_ends (within x r) (within y r) (nullable (continued x r)) (nullable (continued y r))
    (nullable a) (nullable b) (has before r) (apart_two n a b r)
    ∙ (λ i. (within x r || within y r)
    && sym (null_if (within x r) (continued x r) (continued y r)) i
    || (nullable a || nullable b) && has before r)
ends_of_has (ZeroOrMore a) n before r =
    let x : Numbered = numbered n a in
    has_or before (ends_of a n 0) r
    ∙ (λ i. has before r || ends_of_has a n 0 r i)
    ∙ (λ i. has before r || (is_last x r || nullable a && has_none r i))
    ∙ many_ends (within x r) (nullable (continued x r)) (nullable a) (has before r)
ends_of_has (OneOrMore a) n before r =
    let x : Numbered = numbered n a in
    ends_of_has a n before r
    ∙ once_ends (within x r) (nullable (continued x r)) (nullable a) (has before r)

-- to begin behind its own ends as well changes nothing of where it may end
pub ends_of_again : (e : Expression (List ℕ)) (n before : ℕ)
    → ends_of e n (bit_or before (ends_of e n 0)) ≡ ends_of e n before
ends_of_again e n before = same_set _ _ (λ r.
    ends_of_has e n (bit_or before (ends_of e n 0)) r
    ∙ (λ i. is_last (numbered n e) r || nullable e && (has_or before (ends_of e n 0) r
    ∙ (λ j. has before r || ends_of_has e n 0 r j)
    ∙ (λ j. has before r || (is_last (numbered n e) r || nullable e && has_none r j))) i)
    ∙ again (is_last (numbered n e) r) (nullable e) (has before r)
    ∙ sym (ends_of_has e n before r))

-- what may stand first is in the expression
pub first_within : (x : Numbered) (q : ℕ) → is_first x q ≡ true → within x q ≡ true
first_within (Letter l) q h = h
first_within Empty q h = cc
first_within Never q h = cc
first_within (Then a b) q h = grind (arith, first_within a q, first_within b q)
first_within (Or a b) q h = grind (arith, first_within a q, first_within b q)
first_within (ZeroOrMore a) q h = first_within a q h
first_within (OneOrMore a) q h = first_within a q h

-- so is what may stand behind a position of it
pub continued_within : (x : Numbered) (r q : ℕ) → is_first (continued x r) q ≡ true → within x q ≡ true
continued_within (Letter l) r q h = cc
continued_within Empty r q h = cc
continued_within Never r q h = cc
continued_within (Then a b) r q h =
    let k : (if within a r then is_first (continued a r) q || nullable (continued a r) && is_first b q
    else is_first (continued b r) q) ≡ true = sym (first_if (within a r) (Then (continued a r) b) (continued b r) q) ∙ h in
    grind (arith, continued_within a r q, continued_within b r q, first_within b q, k)
continued_within (Or a b) r q h =
    let k : (if within a r then is_first (continued a r) q else is_first (continued b r) q) ≡ true =
    sym (first_if (within a r) (continued a r) (continued b r) q) ∙ h in
    grind (arith, continued_within a r q, continued_within b r q, k)
continued_within (ZeroOrMore a) r q h = grind (arith, continued_within a r q, first_within a q)
continued_within (OneOrMore a) r q h = grind (arith, continued_within a r q, first_within a q)

-- a letter with its set, of the position q
pub record LinkAt (x : Numbered) (before q : ℕ) (link : Link) : Type 0 where
  pub inside : within x q ≡ true
  pub is : (r : ℕ) → has link.before r
      ≡ (is_first x q && has before r || within x r && is_first (continued x r) q)

-- each of a list that goes on from n
abbrev pub AllFrom : {A : Type 0} → ℕ → (ℕ → A → Type 0) → List A → Type 0
AllFrom n P [] = Unit {0}
AllFrom n P (x ∷ xs) = P (n + 1) x × AllFrom (n + 1) P xs

all_from_append : {A : Type 0} (P : ℕ → A → Type 0) (n m : ℕ) (xs ys : List A) → m ≡ n + length xs
    → AllFrom n P xs → AllFrom m P ys → AllFrom n P (xs ++ ys)
all_from_append P n m [] ys e p q = let k : m ≡ n = omega arith in subst (λ (i : ℕ). AllFrom i P ys) k q
all_from_append P n m (x ∷ xs) ys e p q =
    (p.0, all_from_append P (n + 1) m xs ys (omega arith) p.1 q)

all_from_map : {A : Type 0} (P Q : ℕ → A → Type 0) → ((i : ℕ) (x : A) → P i x → Q i x) → (n : ℕ)
    (xs : List A) → AllFrom n P xs → AllFrom n Q xs
all_from_map P Q f n [] p = tt
all_from_map P Q f n (x ∷ xs) p = (f (n + 1) x p.0, all_from_map P Q f (n + 1) xs p.1)

pub length_links : (e : Expression (List ℕ)) (n before : ℕ) → length (links e n before) ≡ size e
length_links (Letter l) n before = refl
length_links Empty n before = refl
length_links Never n before = refl
length_links (Then a b) n before =
    length-append (links a n before) (links b (n + size a) (ends_of a n before))
    ∙ (λ i. length_links a n before i + length_links b (n + size a) (ends_of a n before) i)
length_links (Or a b) n before =
    length-append (links a n before) (links b (n + size a) before)
    ∙ (λ i. length_links a n before i + length_links b (n + size a) before i)
length_links (ZeroOrMore a) n before = length_links a n (bit_or before (ends_of a n 0))
length_links (OneOrMore a) n before = length_links a n (bit_or before (ends_of a n 0))

module _ (n before : ℕ) (a b : Expression (List ℕ)) where
  abbrev x : Numbered
  x = numbered n a

  abbrev y : Numbered
  y = numbered (n + size a) b

  not_in_second : (q : ℕ) → within x q ≡ true → within y q ≡ false
  not_in_second q h =
      false_where (within y q) (λ k. true≢false (sym h ∙ apart_two n a b q k))

  first_of_none : (z : Numbered) (q : ℕ) → within z q ≡ false → is_first z q ≡ false
  first_of_none z q h = false_where (is_first z q) (λ k. true≢false (sym (first_within z q k) ∙ h))

  none_behind : (z : Numbered) (r q : ℕ) → within z q ≡ false → is_first (continued z r) q ≡ false
  none_behind z r q h =
      false_where (is_first (continued z r) q) (λ k. true≢false (sym (continued_within z r q k) ∙ h))

  of_then_left : (q : ℕ) (link : Link) → LinkAt x before q link → LinkAt (Then x y) before q link
  of_then_left q link h = let out = not_in_second q h.inside in record {
    inside = (λ i. h.inside i || within y q);
    is = λ r. h.is r
        ∙ then_left (is_first x q) (nullable x) (has before r) (within x r) (within y r)
        (is_first (continued x r) q) (nullable (continued x r)) (is_first y q) (is_first (continued y r) q)
        (first_of_none y q out) (none_behind y r q out)
        ∙ (λ i. (is_first x q || nullable x && is_first y q) && has before r
        || (within x r || within y r) && sym (first_if (within x r) (Then (continued x r) y) (continued y r) q) i);
  }

  of_then_right : (q : ℕ) (link : Link) → LinkAt y (ends_of a n before) q link
      → LinkAt (Then x y) before q link
  of_then_right q link h = let out = apart_two n a b q h.inside in record {
    inside = grind (arith, h.inside);
    is = λ r. h.is r
        ∙ (λ i. is_first y q && ends_of_has a n before r i || within y r && is_first (continued y r) q)
        ∙ (λ i. is_first y q && (is_last x r || sym (null_numbered n a) i && has before r)
        || within y r && is_first (continued y r) q)
        ∙ then_right (is_first y q) (nullable x) (has before r) (within x r) (within y r)
        (is_first (continued y r) q) (nullable (continued x r)) (is_first x q)
        (is_first (continued x r) q) (apart_two n a b r)
        (first_of_none x q out) (none_behind x r q out)
        ∙ (λ i. (is_first x q || nullable x && is_first y q) && has before r
        || (within x r || within y r) && sym (first_if (within x r) (Then (continued x r) y) (continued y r) q) i);
  }

  of_or_left : (q : ℕ) (link : Link) → LinkAt x before q link → LinkAt (Or x y) before q link
  of_or_left q link h = let out = not_in_second q h.inside in record {
    inside = (λ i. h.inside i || within y q);
    is = λ r. h.is r
        ∙ or_left (is_first x q) (has before r) (within x r) (within y r)
        (is_first (continued x r) q) (is_first y q) (is_first (continued y r) q)
        (first_of_none y q out) (none_behind y r q out)
        ∙ (λ i. (is_first x q || is_first y q) && has before r
        || (within x r || within y r) && sym (first_if (within x r) (continued x r) (continued y r) q) i);
  }

  of_or_right : (q : ℕ) (link : Link) → LinkAt y before q link → LinkAt (Or x y) before q link
  of_or_right q link h = let out = apart_two n a b q h.inside in record {
    inside = grind (arith, h.inside);
    is = λ r. h.is r
        ∙ or_right (is_first y q) (has before r) (within x r) (within y r)
        (is_first (continued y r) q) (is_first x q) (is_first (continued x r) q) (apart_two n a b r)
        (first_of_none x q out) (none_behind x r q out)
        ∙ (λ i. (is_first x q || is_first y q) && has before r
        || (within x r || within y r) && sym (first_if (within x r) (continued x r) (continued y r) q) i);
  }

of_many : (n before : ℕ) (a : Expression (List ℕ)) (q : ℕ) (link : Link)
    → LinkAt (numbered n a) (bit_or before (ends_of a n 0)) q link → (r : ℕ) → has link.before r
    ≡ (is_first (numbered n a) q && has before r || within (numbered n a) r
    && (is_first (continued (numbered n a) r) q || nullable (continued (numbered n a) r) && is_first (numbered n a) q))
of_many n before a q link h r =
    let x : Numbered = numbered n a in
    h.is r
    ∙ (λ i. is_first x q && (has_or before (ends_of a n 0) r
    ∙ (λ j. has before r || ends_of_has a n 0 r j)
    ∙ (λ j. has before r || (is_last x r || nullable a && has_none r j))) i
    || within x r && is_first (continued x r) q)
    ∙ many_link (is_first x q) (has before r) (within x r) (nullable (continued x r)) (nullable a)
    (is_first (continued x r) q)

one_link : (s w h : Bool) → s ≡ true → h ≡ (s && h || w && false)
one_link s w h e = grind (arith, e)

-- each letter is kept with the set of the positions behind which it may be read
pub links_are : (e : Expression (List ℕ)) (n before : ℕ)
    → AllFrom n (LinkAt (numbered n e) before) (links e n before)
links_are (Letter l) n before =
    let e : nat_eq (n + 1) (n + 1) ≡ true = eq-eqb (n + 1) (n + 1) refl in
    (record { inside = e; is = λ r. one_link (nat_eq (n + 1) (n + 1)) (nat_eq (n + 1) r) (has before r) e }, tt)
links_are Empty n before = tt
links_are Never n before = tt
links_are (Then a b) n before =
    all_from_append (LinkAt (numbered n (Then a b)) before) n (n + size a) (links a n before)
    (links b (n + size a) (ends_of a n before)) (λ i. n + sym (length_links a n before) i)
    (all_from_map (LinkAt (numbered n a) before) (LinkAt (numbered n (Then a b)) before)
    (of_then_left n before a b) n (links a n before) (links_are a n before))
    (all_from_map (LinkAt (numbered (n + size a) b) (ends_of a n before)) (LinkAt (numbered n (Then a b)) before)
    (of_then_right n before a b) (n + size a) (links b (n + size a) (ends_of a n before))
    (links_are b (n + size a) (ends_of a n before)))
links_are (Or a b) n before =
    all_from_append (LinkAt (numbered n (Or a b)) before) n (n + size a) (links a n before)
    (links b (n + size a) before) (λ i. n + sym (length_links a n before) i)
    (all_from_map (LinkAt (numbered n a) before) (LinkAt (numbered n (Or a b)) before)
    (of_or_left n before a b) n (links a n before) (links_are a n before))
    (all_from_map (LinkAt (numbered (n + size a) b) before) (LinkAt (numbered n (Or a b)) before)
    (of_or_right n before a b) (n + size a) (links b (n + size a) before)
    (links_are b (n + size a) before))
links_are (ZeroOrMore a) n before =
    all_from_map (LinkAt (numbered n a) (bit_or before (ends_of a n 0))) (LinkAt (numbered n (ZeroOrMore a)) before)
    (λ q link h. record { inside = h.inside; is = of_many n before a q link h }) n
    (links a n (bit_or before (ends_of a n 0))) (links_are a n (bit_or before (ends_of a n 0)))
links_are (OneOrMore a) n before =
    all_from_map (LinkAt (numbered n a) (bit_or before (ends_of a n 0))) (LinkAt (numbered n (OneOrMore a)) before)
    (λ q link h. record { inside = h.inside; is = of_many n before a q link h }) n
    (links a n (bit_or before (ends_of a n 0))) (links_are a n (bit_or before (ends_of a n 0)))
