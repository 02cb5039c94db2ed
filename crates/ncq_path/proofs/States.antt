-- States as lists of positions and as sets, and the names that take a tag.
use Rattle.std.proofs.Common.{◌≡◌, inl, inr, ℕ, zero, suc, ◌+◌, ◌^◌, ◌<◌, ◌≤◌, min, Bool, true, false, List, [], ◌∷◌, ◌++◌, length, get_or, drop, refl, sym, ap, ◌∙◌, subst, arith, true≢false, add-zero, add-one, append_assoc}
use Rattle.std.specs.Prelude.{◌&&◌, ◌||◌, not, nat_eq, ◌↔◌}
use Rattle.std.specs.List.{Contains}
use Rattle.std.specs.List.Sorted.{IsStrictlyIncreasing}
use Rattle.std.specs.Int.{bit_at, w64, trailing_zeros}
use Rattle.std.specs.Int.Bits.{bit_and, bit_or}
use Rattle.std.proofs.Math.Bool.{or_assoc}
use Rattle.std.proofs.Math.Seq.{drop-cons}
use Rattle.std.specs.Str.{bytes_eq}
use Rattle.std.proofs.lemmas.Bool.{eqb-true, eq-eqb}
use Rattle.std.proofs.lemmas.Bool.Decides.{nat_tests}
use Rattle.std.proofs.lemmas.Nat.{and_le_l}
use Rattle.std.proofs.lemmas.Nat.Bits.{bit_at_and, bit_at-lt, bit_at-zero, bit_at-trailing_zeros}
use lib.Pointwise.{bytes_decides}
use Rattle.ncq_path.specs.declared.link.Link.{Link}
use Rattle.ncq_path.specs.declared.path.Path.{Path}
use Rattle.ncq_path.specs.After.{Place, IsReached, IsAfter, TakesLast}
use Rattle.ncq_path.specs.Compiled.{IsCompiled}
use Rattle.ncq_path.specs.Expressions.{size, IsIn, numbered}
use Rattle.ncq_path.specs.Paths.{expression, InPath}
use Rattle.ncq_path.specs.Positions.{has, positions}
use Rattle.ncq_path.specs.Links.{links, meets, takes}
use Rattle.ncq_path.proofs.Language.{each_both, either_of}
use Rattle.ncq_path.specs.PositionLaws.{has_or, has_one, has_none, same_set, contains_positions, positions_rise, contains_more, contains_cases, contains_none}
use Rattle.ncq_path.proofs.Linked.{length_links}
use Rattle.ncq_path.proofs.PathCases.{whole}
use Rattle.ncq_path.proofs.Readings.{letters_of, placed}
use Rattle.ncq_path.proofs.Steps.{IsTaken, no_link, step_is, accepts_is, last_of}

-- a set with the positions that are reached is a state
pub after_from : (path : Path) (tags : List (List ℕ)) (bits : ℕ) → bits < 2 ^ 64
    → ((r : ℕ) → (has bits r ≡ true) ↔ IsReached path tags r) → IsAfter path tags (positions bits)
after_from path tags bits h is = record {
  rising = positions_rise bits;
  reached = λ r. let c = contains_positions bits r h in
      (λ k. (is r).0 (c.0 k), λ k. c.1 ((is r).1 k));
}

-- and a state is such a set
pub reached_from : (path : Path) (tags : List (List ℕ)) (bits : ℕ) → bits < 2 ^ 64
    → IsAfter path tags (positions bits) → (r : ℕ) → (has bits r ≡ true) ↔ IsReached path tags r
reached_from path tags bits h after r =
    let c = contains_positions bits r h in
    (λ k. (after.reached r).0 (c.1 k), λ k. c.0 ((after.reached r).1 k))

smaller_bit : (m n : ℕ) → m < 2 → n < 2 → nat_eq (min m n) 1 ≡ (nat_eq m 1 && nat_eq n 1)
smaller_bit m n p q = grind (arith, nat_tests)

has_and : (a b r : ℕ) → has (bit_and a b) r ≡ (has a r && has b r)
has_and a b r =
    ap (λ (n : ℕ). nat_eq n 1) (bit_at_and a b r)
    ∙ smaller_bit (bit_at a r) (bit_at b r) (bit_at-lt a r) (bit_at-lt b r)

none_meets : (n : ℕ) → not (nat_eq n 0) ≡ true → 0 < n
none_meets n h = grind (arith, nat_tests)

-- sets meet where they have a position in common
pub meets_some : (a b : ℕ) → a < 2 ^ 64 → meets a b ≡ true
    → (r : ℕ) × (has a r ≡ true) × (has b r ≡ true)
meets_some a b h m =
    let l = and_le_l a b in
    let below : bit_and a b < 2 ^ 64 = omega arith in
    let k = bit_at-trailing_zeros w64 (bit_and a b) (none_meets (bit_and a b) m) below in
    let r : ℕ = trailing_zeros w64 (bit_and a b) in
    let both : (has a r && has b r) ≡ true = sym (has_and a b r) ∙ eq-eqb (bit_at (bit_and a b) r) 1 k.1 in
    let s = each_both (has a r) (has b r) both in (r, s.0, s.1)

pub some_meets : (a b r : ℕ) → has a r ≡ true → has b r ≡ true → meets a b ≡ true
some_meets a b r p q =
    elim (nat_eq (bit_and a b) 0) as (λ t. nat_eq (bit_and a b) 0 ≡ t → not t ≡ true) [
      | true ↦ λ e.
          let zero_is : bit_and a b ≡ 0 = eqb-true (bit_and a b) 0 e in
          absurd (true≢false (sym ((λ i. p i && q i)) ∙ sym (has_and a b r)
          ∙ ap (λ (n : ℕ). has n r) zero_is ∙ ap (λ (n : ℕ). nat_eq n 1) (bit_at-zero r)))
      | false ↦ λ e. refl
    ] refl

-- the position takes the tag, of those from n + 1 on
abbrev TakenFrom : ℕ → List Link → ℕ → List ℕ → ℕ → Type 0
TakenFrom n kept bits tag position =
    (i : ℕ) × (i < length kept) × (position ≡ i + 1 + n) × ((get_or kept i no_link).name ≡ tag)
    × ((r : ℕ) × (has bits r ≡ true) × (has (get_or kept i no_link).before r ≡ true))

takes_some : (kept : List Link) (n bits : ℕ) (tag : List ℕ) (position : ℕ) → bits < 2 ^ 64
    → takes kept n bits tag position ≡ true → TakenFrom n kept bits tag position
takes_some [] n bits tag position h t = cc
takes_some (link ∷ kept) n bits tag position h t =
    elim (either_of (nat_eq (n + 1) position && (bytes_eq link.name tag && meets bits link.before)) (takes kept (n + 1) bits tag position) t) [
      | inl f ↦
          let a = each_both (nat_eq (n + 1) position) (bytes_eq link.name tag && meets bits link.before) f in
          let b = each_both (bytes_eq link.name tag) (meets bits link.before) a.1 in
          let e : n + 1 ≡ position = eqb-true (n + 1) position a.0 in
          (0, omega arith, omega arith, (bytes_decides link.name tag).0 b.0, meets_some bits link.before h b.1)
      | inr f ↦
          let k = takes_some kept (n + 1) bits tag position h f in
          (suc k.0, (let l = k.1 in omega arith), (let l = k.2 in omega arith), k.3, k.4)
    ]

some_takes : (kept : List Link) (n bits : ℕ) (tag : List ℕ) (position i : ℕ) → i < length kept
    → position ≡ i + 1 + n → (get_or kept i no_link).name ≡ tag
    → (r : ℕ) → has bits r ≡ true → has (get_or kept i no_link).before r ≡ true
    → takes kept n bits tag position ≡ true
some_takes [] n bits tag position i l e name r p q = absurd (omega arith)
some_takes (link ∷ kept) n bits tag position zero l e name r p q =
    let at : n + 1 ≡ position = omega arith in
    λ i. (eq-eqb (n + 1) position at i && ((bytes_decides link.name tag).1 name i && some_meets bits link.before r p q i)) || takes kept (n + 1) bits tag position
some_takes (link ∷ kept) n bits tag position (suc i) l e name r p q =
    right (nat_eq (n + 1) position && (bytes_eq link.name tag && meets bits link.before)) (takes kept (n + 1) bits tag position)
    (some_takes kept (n + 1) bits tag position i (omega arith) (omega arith) name r p q)
  where
    right : (a b : Bool) → b ≡ true → (a || b) ≡ true
    right true b e = refl
    right false b e = e

-- the test says which positions take the tag
pub takes_is : (kept : List Link) (bits next : ℕ) (tag : List ℕ) → bits < 2 ^ 64
    → ((q : ℕ) → has next q ≡ takes kept 0 bits tag q)
    → (q : ℕ) → (has next q ≡ true) ↔ IsTaken kept bits tag q
takes_is kept bits next tag h is q = (
  λ t. let k = takes_some kept 0 bits tag q h (sym (is q) ∙ t) in
      (k.0, k.1, k.2 ∙ add-zero (k.0 + 1), k.3, k.4),
  λ k. is q ∙ some_takes kept 0 bits tag q k.0 k.1 (k.2 ∙ sym (add-zero (k.0 + 1))) k.3 k.4.0 k.4.1 k.4.2,
)

-- each is above the number, and below those behind it
abbrev Rising : ℕ → List ℕ → Type 0
Rising n [] = Unit {0}
Rising n (x ∷ xs) = (n ≤ x) × Rising (x + 1) xs

rising_from : (n : ℕ) (xs : List ℕ) → ((i : ℕ) → i < length xs → n ≤ get_or xs i 0)
    → ((k : ℕ) → suc k < length xs → get_or xs k 0 < get_or xs (suc k) 0) → Rising n xs
rising_from n [] low up = tt
rising_from n (x ∷ xs) low up =
    (low 0 (omega arith), rising_from (x + 1) xs (λ i l. above i l) (λ k l. up (suc k) (omega arith)))
  where
    above : (i : ℕ) → i < length xs → x + 1 ≤ get_or xs i 0
    above zero l = let u : x < get_or xs 0 0 = up 0 (omega arith) in omega arith
    above (suc i) l =
        let u : get_or xs i 0 < get_or xs (suc i) 0 = up (suc i) (omega arith) in
        let a = above i (omega arith) in omega arith

below_all : (n : ℕ) (xs : List ℕ) (x : ℕ) → Rising n xs → Contains xs x → n ≤ x
below_all n [] x r c = contains_none x c
below_all n (y ∷ xs) x r c =
    elim (contains_cases y xs x c) [
      | inl e ↦ let l = r.0 in omega arith
      | inr k ↦ let l = r.0 in let m = below_all (y + 1) xs x r.1 k in omega arith
    ]

same_rising : (m n : ℕ) (xs ys : List ℕ) → Rising m xs → Rising n ys
    → ((q : ℕ) → Contains xs q → Contains ys q) → ((q : ℕ) → Contains ys q → Contains xs q) → xs ≡ ys
same_rising m n [] [] p q f g = refl
same_rising m n [] (y ∷ ys) p q f g = contains_none y (g y (0, omega arith, refl))
same_rising m n (x ∷ xs) [] p q f g = contains_none x (f x (0, omega arith, refl))
same_rising m n (x ∷ xs) (y ∷ ys) p q f g =
    let e : x ≡ y = first in
    (λ i. e i ∷ same_rising (x + 1) (y + 1) xs ys p.1 q.1
    (λ z c. elim (contains_cases y ys z (f z (contains_more x xs z c))) [
      | inl k ↦ let l = below_all (x + 1) xs z p.1 c in absurd (omega arith)
      | inr k ↦ k
    ])
    (λ z c. elim (contains_cases x xs z (g z (contains_more y ys z c))) [
      | inl k ↦ let l = below_all (y + 1) ys z q.1 c in absurd (omega arith)
      | inr k ↦ k
    ]) i)
  where
    first : x ≡ y
    first =
        elim (contains_cases y ys x (f x (0, omega arith, refl))) [
          | inl k ↦ sym k
          | inr k ↦ elim (contains_cases x xs y (g y (0, omega arith, refl))) [
            | inl j ↦ j
            | inr j ↦
                let a = below_all (y + 1) ys x q.1 k in let b = below_all (x + 1) xs y p.1 j in
                absurd (omega arith)
          ]
        ]

pub one_state : (path : Path) (tags : List (List ℕ)) (a b : List ℕ) → IsAfter path tags a
    → IsAfter path tags b → a ≡ b
one_state path tags a b p q =
    same_rising 0 0 a b (rises a p.rising) (rises b q.rising)
    (λ r c. (q.reached r).1 ((p.reached r).0 c)) (λ r c. (p.reached r).1 ((q.reached r).0 c))
  where
    rises : (xs : List ℕ) → IsStrictlyIncreasing xs → Rising 0 xs
    rises xs up = rising_from 0 xs (λ i l. omega arith) (λ k l.
        subst (λ (m : ℕ). get_or xs k 0 < get_or xs m 0) (add-one k) (up k (omega arith)))

-- one name more
pub taken_layer : (kept : List Link) (i : ℕ) (link : Link) (bits : ℕ) (tag : List ℕ) (found next : ℕ)
    (taken : Bool) (position : ℕ) (total : Bool) → i < length kept → link ≡ get_or kept i link
    → taken ≡ (bytes_eq link.name tag && meets bits link.before)
    → has next position ≡ (has found position || nat_eq (i + 1) position && taken)
    → (has found position || takes (drop i kept) i bits tag position) ≡ total
    → (has next position || takes (drop (i + 1) kept) (i + 1) bits tag position) ≡ total
taken_layer kept i link bits tag found next taken position total h p t n e =
    let rest = takes (drop (i + 1) kept) (i + 1) bits tag position in
    let split : drop i kept ≡ link ∷ drop (i + 1) kept =
    (let d : drop i kept ≡ get_or kept i link ∷ drop (i + 1) kept = rw (add-one, drop-cons kept i link h) refl in d)
    ∙ (λ j. sym p j ∷ drop (i + 1) kept) in
    (λ j. n j || rest)
    ∙ or_assoc (has found position) (nat_eq (i + 1) position && taken) rest
    ∙ (λ j. has found position || (nat_eq (i + 1) position && t j || rest))
    ∙ ap (λ (ls : List Link). has found position || takes ls i bits tag position) (sym split)
    ∙ e

-- a name that takes the tag adds its position, any other nothing
pub taken_more : (found at position : ℕ) (taken : Bool) → taken ≡ true
    → has (bit_or found (2 ^ at)) position ≡ (has found position || nat_eq at position && taken)
taken_more found at position taken e =
    has_or found (2 ^ at) position ∙ (λ i. has found position || has_one at position i)
    ∙ same (has found position) (nat_eq at position) taken e
  where
    same : (a b t : Bool) → t ≡ true → (a || b) ≡ (a || b && t)
    same a b t e = grind (arith, e)

pub taken_none : (found at position : ℕ) (taken : Bool) → taken ≡ false
    → has found position ≡ (has found position || nat_eq at position && taken)
taken_none found at position taken e = same (has found position) (nat_eq at position) taken e
  where
    same : (a b t : Bool) → t ≡ false → a ≡ (a || b && t)
    same a b t e = grind (arith, e)

-- what a machine keeps serves each state of its path: a step
pub step_after : (path : Path) (kept : List Link) (last bits next : ℕ) (tag : List ℕ)
    → IsCompiled path kept last → bits < 2 ^ 64 → next < 2 ^ 64
    → ((position : ℕ) → has next position ≡ takes kept 0 bits tag position) → (tags : List (List ℕ))
    → IsAfter path tags (positions bits) → IsAfter path (tags ++ tag ∷ []) (positions next)
step_after path kept last bits next tag made b n is tags after =
    let live = (whole path made.formed.joined).1 in
    after_from path (tags ++ tag ∷ []) next n
    (step_is path live tags bits next tag (reached_from path tags bits b after)
    (takes_is (links (expression path) 0 1) bits next tag b
    (λ q. is q ∙ ap (λ (ls : List Link). takes ls 0 bits tag q) made.linked)))

-- and the test
pub accepts_after : (path : Path) (kept : List Link) (last bits : ℕ) (result : Bool)
    → IsCompiled path kept last → bits < 2 ^ 64 → result ≡ meets bits last
    → (tags : List (List ℕ)) → IsAfter path tags (positions bits)
    → (result ≡ true) ↔ InPath path tags
accepts_after path kept last bits result made b r tags after =
    let live = (whole path made.formed.joined).1 in
    let is = accepts_is path live tags bits (reached_from path tags bits b after) in (
      λ t. is.0 (let m = meets_some bits last b (sym r ∙ t) in
          (m.0, m.1, ap (λ (n : ℕ). has n m.0) (sym made.ended) ∙ m.2)),
      λ p. let m = is.1 p in
          r ∙ some_meets bits last m.0 m.1 (ap (λ (n : ℕ). has n m.0) made.ended ∙ m.2),
    )

-- a machine keeps at most 32 names
pub few_kept : (path : Path) (kept : List Link) (last : ℕ) → IsCompiled path kept last
    → length kept ≤ 32
few_kept path kept last made =
    let l : length kept ≡ size (expression path) = ap length made.linked ∙ length_links (expression path) 0 1 in
    let f = made.formed.few in omega arith

-- a set without positions is 0
pub empty_is : (bits : ℕ) → bits < 2 ^ 64 → (nat_eq bits 0 ≡ true) ↔ (positions bits ≡ [])
empty_is bits h = (
  λ t. let zero_is : bits ≡ 0 = eqb-true bits 0 t in
      nothing (positions bits) (λ q c. true≢false (sym ((contains_positions bits q h).0 c)
      ∙ ap (λ (n : ℕ). has n q) zero_is ∙ has_none q)),
  λ e. let none : bits ≡ 0 = same_set bits 0 (λ q. same_false (has bits q) (has 0 q)
      (λ t. contains_none q (subst (λ (xs : List ℕ). Contains xs q) e ((contains_positions bits q h).1 t))) (has_none q)) in
      eq-eqb bits 0 none,
)
  where
    nothing : (xs : List ℕ) → ((q : ℕ) → Contains xs q → ⊥) → xs ≡ []
    nothing [] never = refl
    nothing (x ∷ xs) never = absurd (never x (0, omega arith, refl))

    same_false : (a b : Bool) → (a ≡ true → ⊥) → b ≡ false → a ≡ b
    same_false true b never e = absurd (never refl)
    same_false false b never e = sym e

-- places of which the names are those and one more, by the places of those
cut_names : (w : List Place) (front : List (List ℕ)) (tag : List ℕ) (more : List (List ℕ))
    → letters_of w ≡ front ++ tag ∷ more
    → (u : List Place) × (p : Place) × (v : List Place) × (w ≡ u ++ p ∷ v) × (letters_of u ≡ front) × (p.1 ≡ tag)
cut_names [] [] tag more e = cc
cut_names [] (x ∷ front) tag more e = cc
cut_names (p ∷ w) [] tag more e =
    let h : p.1 ≡ tag = cc in ([], p, w, refl, refl, h)
cut_names (p ∷ w) (x ∷ front) tag more e =
    let h : p.1 ≡ x = cc in
    let t : letters_of w ≡ front ++ tag ∷ more = cc in
    let k = cut_names w front tag more t in
    (p ∷ k.0, k.1, k.2, (λ i. p ∷ k.3 i), (λ i. h i ∷ k.4 i), k.5)

pub nowhere : (path : Path) (tags more : List (List ℕ)) → IsAfter path tags []
    → InPath path (tags ++ more) → ⊥
nowhere path tags more after inside =
    elim (last_of tags) [
      | inl none ↦ contains_none 0 ((after.reached 0).1 (inl (none, refl)))
      | inr k ↦
          let w = placed 0 (expression path) (tags ++ more) inside in
          let names : letters_of w.0 ≡ k.0 ++ k.1 ∷ more =
          w.2 ∙ (λ i. k.2 i ++ more) ∙ append_assoc k.0 (k.1 ∷ []) more in
          let cut = cut_names w.0 k.0 k.1 more names in
          let reads : IsIn (numbered 0 (expression path)) (cut.0 ++ (cut.1.0, cut.1.1) ∷ cut.2) =
          subst (IsIn (numbered 0 (expression path))) cut.3 w.1 in
          let last : TakesLast path tags cut.1.0 = record {
            front = cut.0;
            tag = cut.1.1;
            rest = cut.2;
            reads = reads;
            tags_are = k.2 ∙ (λ i. sym cut.4 i ++ sym cut.5 i ∷ []);
          } in
          contains_none cut.1.0 ((after.reached cut.1.0).1 (inr last))
    ]
