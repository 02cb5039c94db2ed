-- One more name along a path: which positions take it, and whether the names so far are in the path.
use Rattle.std.proofs.Common.{◌≡◌, ◌⊎◌, inl, inr, ℕ, zero, suc, ◌+◌, ◌<◌, Bool, true, false, List, [], ◌∷◌, ◌++◌, length, get_or, map, refl, sym, ap, ◌∙◌, subst, append_assoc, arith, true≢false, add-zero}
use Rattle.std.specs.Prelude.{◌&&◌, ◌||◌, nat_eq, ◌↔◌}
use Rattle.std.proofs.lemmas.List.{map-append, get_or-map}
use Rattle.std.proofs.lemmas.Bool.{eqb-true, eq-eqb}
use Rattle.std.proofs.lemmas.Bool.Decides.{nat_tests}
use Rattle.ncq_path.specs.declared.link.Link.{Link}
use Rattle.ncq_path.specs.declared.path.Path.{Path}
use Rattle.ncq_path.specs.Expressions.{Expression, IsIn, numbered}
use Rattle.ncq_path.specs.Paths.{expression, InPath}
use Rattle.ncq_path.specs.After.{Place, TakesLast, IsReached}
use Rattle.ncq_path.specs.Positions.{has}
use Rattle.ncq_path.specs.Links.{ends_of, links}
use Rattle.ncq_path.specs.Deciding.{nullable}
use Rattle.ncq_path.proofs.Language.{Live, null_in, in_null, each_both, either_of}
use Rattle.ncq_path.proofs.Continued.{Numbered, within, is_first, continued, in_within, goes_on}
use Rattle.ncq_path.proofs.Linked.{LinkAt, AllFrom, links_are, length_links, ends_of_has, apart_numbered, live_numbered, within_range}
use Rattle.ncq_path.specs.PositionLaws.{has_one}
use Rattle.ncq_path.proofs.Readings.{letters, letters_of_links, length_letters, IsPlaced, all_placed, all_middle, first_in, first_some, live_continued, letters_in, placed, letters_of}

-- the last of a list, or there is none
pub last_of : {A : Type 0} (xs : List A) → (xs ≡ []) ⊎ ((front : List A) × (x : A) × (xs ≡ front ++ x ∷ []))
last_of [] = inl refl
last_of {A = A} (x ∷ xs) =
    elim (last_of xs) [
      | inl e ↦ inr ([], x, (λ i. x ∷ e i))
      | inr k ↦ inr (x ∷ k.0, k.1, (λ i. x ∷ k.2 i))
    ]

nonempty : {A : Type 0} {B : Type 0} (xs : List A) (x : A) → [] ≡ xs ++ x ∷ [] → B
nonempty [] x e = cc
nonempty (y ∷ xs) x e = cc

-- lists with one behind them are equal part by part
pub ends_equal : {A : Type 0} (xs ys : List A) (x y : A) → xs ++ x ∷ [] ≡ ys ++ y ∷ [] → (xs ≡ ys) × (x ≡ y)
ends_equal [] [] x y e = (refl, cc)
ends_equal [] (z ∷ ys) x y e =
    let t : [] ≡ ys ++ y ∷ [] = cc in nonempty ys y t
ends_equal (z ∷ xs) [] x y e =
    let t : [] ≡ xs ++ x ∷ [] = cc in nonempty xs x t
ends_equal (z ∷ xs) (w ∷ ys) x y e =
    let t : xs ++ x ∷ [] ≡ ys ++ y ∷ [] = cc in
    let h : z ≡ w = cc in
    let k = ends_equal xs ys x y t in ((λ i. h i ∷ k.0 i), k.1)

all_from_get : {A : Type 0} (P : ℕ → A → Type 0) (n : ℕ) (xs : List A) (i : ℕ) (d : A)
    → AllFrom n P xs → i < length xs → P (n + 1 + i) (get_or xs i d)
all_from_get P n [] i d p h = absurd (omega arith)
all_from_get P n (x ∷ xs) zero d p h = subst (λ (k : ℕ). P k x) (sym (add-zero (n + 1))) p.0
all_from_get P n (x ∷ xs) (suc i) d p h =
    let e : n + 1 + 1 + i ≡ n + 1 + suc i = omega arith in
    subst (λ (k : ℕ). P k (get_or xs i d)) e (all_from_get P (n + 1) xs i d p.1 (omega arith))

-- no link
abbrev pub no_link : Link
no_link = record { name = []; before = 0 }

-- the position takes the tag behind one of the set
abbrev pub IsTaken : List Link → ℕ → List ℕ → ℕ → Type 0
IsTaken kept bits tag position =
    (i : ℕ) × (i < length kept) × (position ≡ i + 1) × ((get_or kept i no_link).name ≡ tag)
    × ((r : ℕ) × (has bits r ≡ true) × (has (get_or kept i no_link).before r ≡ true))

module _ (path : Path) (live : Live (expression path)) where
  abbrev e : Expression (List ℕ)
  e = expression path

  abbrev x : Numbered
  x = numbered 0 e

  abbrev kept : List Link
  kept = links e 0 1

  link_at : (i : ℕ) → i < length kept → LinkAt x 1 (i + 1) (get_or kept i no_link)
  link_at i h =
      let k : 0 + 1 + i ≡ i + 1 = omega arith in
      subst (λ (q : ℕ). LinkAt x 1 q (get_or kept i no_link)) k
      (all_from_get (LinkAt x 1) 0 kept i no_link (links_are e 0 1) h)

  -- the name at a place of a reading is that of the link
  named : (u v : List Place) (q : ℕ) (t : List ℕ) → IsIn x (u ++ (q, t) ∷ v)
      → (i : ℕ) × (i < length kept) × (q ≡ i + 1) × ((get_or kept i no_link).name ≡ t)
  named u v q t h =
      let p = all_middle (IsPlaced 0 (letters e)) u (q, t) v (all_placed 0 e (u ++ (q, t) ∷ v) h) in
      let long : length kept ≡ length (letters e) = length_links e 0 1 ∙ sym (length_letters e) in
      let inside : p.at < length kept = let b = p.below in omega arith in (
        p.at,
        inside,
        (let b = p.position in omega arith),
        sym (get_or-map (λ (l : Link). l.name) kept p.at no_link t inside)
            ∙ (λ i. get_or (letters_of_links e 0 1 i) p.at t) ∙ p.letter,
      )

  none_at_zero : within x 0 ≡ false
  none_at_zero =
      elim (within x 0) as (λ b. within x 0 ≡ b → b ≡ false) [
        | true ↦ λ h. let k = within_range 0 e 0 h in absurd (omega arith)
        | false ↦ λ h. refl
      ] refl

  -- 0 alone is in the first set
  only_zero : (r : ℕ) → has 1 r ≡ nat_eq 0 r
  only_zero r = has_one 0 r

  reads_within : (tags : List (List ℕ)) (r : ℕ) → TakesLast path tags r → within x r ≡ true
  reads_within tags r h = in_within x r h.tag h.front h.rest h.reads

  not_zero : (tags : List (List ℕ)) (r : ℕ) → TakesLast path tags r → has 1 r ≡ false
  not_zero tags r h =
      let k = within_range 0 e r (reads_within tags r h) in
      only_zero r ∙ differ r k.0
    where
      differ : (r : ℕ) → 0 < r → nat_eq 0 r ≡ false
      differ r h = grind (arith, nat_tests)

  module _ (tags : List (List ℕ)) (bits next : ℕ) (tag : List ℕ)
      (now : (r : ℕ) → (has bits r ≡ true) ↔ IsReached path tags r)
      (taken : (q : ℕ) → (has next q ≡ true) ↔ IsTaken kept bits tag q) where
    -- a reading that takes the tag at the position, where one begins there
    at_first : (q : ℕ) → is_first x q ≡ true → (i : ℕ) → i < length kept → q ≡ i + 1
        → (get_or kept i no_link).name ≡ tag → tags ≡ [] → TakesLast path (tags ++ tag ∷ []) q
    at_first q f i below is name none =
        let s = first_some x (live_numbered 0 e live) q f in
        let n = named [] s.1 q s.0 s.2 in
        let same : n.0 ≡ i = (let k = n.2 in omega arith) in
        record {
          front = [];
          tag = s.0;
          rest = s.1;
          reads = s.2;
          tags_are = (λ j. none j ++ tag ∷ [])
              ∙ (λ j. (sym name ∙ (λ k. (get_or kept (sym same k) no_link).name) ∙ n.3) j ∷ []);
        }

    at_next : (q r : ℕ) → TakesLast path tags r → is_first (continued x r) q ≡ true → (i : ℕ)
        → i < length kept → q ≡ i + 1 → (get_or kept i no_link).name ≡ tag
        → TakesLast path (tags ++ tag ∷ []) q
    at_next q r h f i below is name =
        let s = first_some (continued x r) (live_continued x r (live_numbered 0 e live)) q f in
        let reads = (goes_on x (apart_numbered 0 e) (r, h.tag) h.front h.rest h.reads).1 ((q, s.0) ∷ s.1) s.2 in
        let longer : h.front ++ (r, h.tag) ∷ (q, s.0) ∷ s.1 ≡ (h.front ++ (r, h.tag) ∷ []) ++ (q, s.0) ∷ s.1 =
        sym (append_assoc h.front ((r, h.tag) ∷ []) ((q, s.0) ∷ s.1)) in
        let all : IsIn x ((h.front ++ (r, h.tag) ∷ []) ++ (q, s.0) ∷ s.1) = subst (IsIn x) longer reads in
        let n = named (h.front ++ (r, h.tag) ∷ []) s.1 q s.0 all in
        let same : n.0 ≡ i = (let k = n.2 in omega arith) in
        record {
          front = h.front ++ (r, h.tag) ∷ [];
          tag = s.0;
          rest = s.1;
          reads = all;
          tags_are = (λ j. (h.tags_are ∙ sym (map-append (λ (p : Place). p.1) h.front ((r, h.tag) ∷ []))) j
              ++ (sym name ∙ (λ k. (get_or kept (sym same k) no_link).name) ∙ n.3) j ∷ []);
        }

    reached_next : (q : ℕ) → IsTaken kept bits tag q → IsReached path (tags ++ tag ∷ []) q
    reached_next q (i, below, is, name, (r, here, before)) =
        let l = link_at i below in
        let b : (is_first x (i + 1) && has 1 r || within x r && is_first (continued x r) (i + 1)) ≡ true =
        sym (l.is r) ∙ before in
        inr (elim ((now r).0 here) [
          | inl k ↦ elim (either_of (is_first x (i + 1) && has 1 r) (within x r && is_first (continued x r) (i + 1)) b) [
            | inl f ↦ at_first q (subst (λ (n : ℕ). is_first x n ≡ true) (sym is) (each_both (is_first x (i + 1)) (has 1 r) f).0) i below is name k.0
            | inr f ↦ absurd (true≢false (sym (each_both (within x r) (is_first (continued x r) (i + 1)) f).0
                ∙ ap (within x) k.1 ∙ none_at_zero))
          ]
          | inr h ↦ elim (either_of (is_first x (i + 1) && has 1 r) (within x r && is_first (continued x r) (i + 1)) b) [
            | inl f ↦ absurd (true≢false (sym (each_both (is_first x (i + 1)) (has 1 r) f).1 ∙ not_zero tags r h))
            | inr f ↦ at_next q r h (subst (λ (n : ℕ). is_first (continued x r) n ≡ true) (sym is) (each_both (within x r) (is_first (continued x r) (i + 1)) f).1) i below is name
          ]
        ])

    taken_next : (q : ℕ) → IsReached path (tags ++ tag ∷ []) q → IsTaken kept bits tag q
    taken_next q (inl k) = nonempty tags tag (sym k.0)
    taken_next q (inr h) =
        let n = named h.front h.rest q h.tag h.reads in
        let split = ends_equal tags (map (λ (p : Place). p.1) h.front) tag h.tag h.tags_are in
        let l = link_at n.0 n.1 in
        elim (last_of h.front) [
          | inl none ↦
              let none_tags : tags ≡ [] = split.0 ∙ (λ i. map (λ (p : Place). p.1) (none i)) in
              let f : is_first x q ≡ true = first_in x q h.tag h.rest (subst (λ (u : List Place). IsIn x (u ++ (q, h.tag) ∷ h.rest)) none h.reads) in
              let g : is_first x (n.0 + 1) ≡ true = subst (λ (m : ℕ). is_first x m ≡ true) n.2 f in (
                n.0,
                n.1,
                n.2,
                n.3 ∙ sym split.1,
                (
                  0,
                  (now 0).1 (inl (none_tags, refl)),
                  l.is 0 ∙ (λ i. g i && only_zero 0 i || within x 0 && is_first (continued x 0) (n.0 + 1)),
                ),
              )
          | inr k ↦
              let reads : IsIn x (k.0 ++ k.1 ∷ (q, h.tag) ∷ h.rest) =
              subst (IsIn x) ((λ i. k.2 i ++ (q, h.tag) ∷ h.rest) ∙ append_assoc k.0 (k.1 ∷ []) ((q, h.tag) ∷ h.rest)) h.reads in
              let before : TakesLast path tags k.1.0 = record {
                front = k.0;
                tag = k.1.1;
                rest = (q, h.tag) ∷ h.rest;
                reads = reads;
                tags_are = split.0 ∙ (λ i. map (λ (p : Place). p.1) (k.2 i)) ∙ map-append (λ (p : Place). p.1) k.0 (k.1 ∷ []);
              } in
              let f : is_first (continued x k.1.0) q ≡ true =
              first_in (continued x k.1.0) q h.tag h.rest (goes_on x (apart_numbered 0 e) k.1 k.0 ((q, h.tag) ∷ h.rest) reads).0 in
              let g : is_first (continued x k.1.0) (n.0 + 1) ≡ true = subst (λ (m : ℕ). is_first (continued x k.1.0) m ≡ true) n.2 f in
              let w : within x k.1.0 ≡ true = reads_within tags k.1.0 before in (
                n.0,
                n.1,
                n.2,
                n.3 ∙ sym split.1,
                (
                  k.1.0,
                  (now k.1.0).1 (inr before),
                  l.is k.1.0 ∙ (λ i. is_first x (n.0 + 1) && has 1 k.1.0 || w i && g i)
                      ∙ always (is_first x (n.0 + 1) && has 1 k.1.0),
                ),
              )
        ]
      where
        always : (b : Bool) → (b || true && true) ≡ true
        always true = refl
        always false = refl

    pub step_is : (q : ℕ) → (has next q ≡ true) ↔ IsReached path (tags ++ tag ∷ []) q
    step_is q = (λ h. reached_next q ((taken q).0 h), λ h. (taken q).1 (taken_next q h))

  module _ (tags : List (List ℕ)) (bits : ℕ)
      (now : (r : ℕ) → (has bits r ≡ true) ↔ IsReached path tags r) where
    -- a position that is reached, behind which a reading may end
    abbrev pub MayEnd : Type 0
    MayEnd = (r : ℕ) × (has bits r ≡ true) × (has (ends_of e 0 1) r ≡ true)

    in_path : MayEnd → InPath path tags
    in_path (r, here, ends) =
        let b : (within x r && nullable (continued x r) || nullable e && has 1 r) ≡ true = sym (ends_of_has e 0 1 r) ∙ ends in
        elim ((now r).0 here) [
          | inl k ↦ elim (either_of (within x r && nullable (continued x r)) (nullable e && has 1 r) b) [
            | inl f ↦ absurd (true≢false (sym (each_both (within x r) (nullable (continued x r)) f).0 ∙ ap (within x) k.1 ∙ none_at_zero))
            | inr f ↦ subst (IsIn e) (sym k.0) (null_in e (each_both (nullable e) (has 1 r) f).0)
          ]
          | inr h ↦ elim (either_of (within x r && nullable (continued x r)) (nullable e && has 1 r) b) [
            | inl f ↦
                let reads = (goes_on x (apart_numbered 0 e) (r, h.tag) h.front h.rest h.reads).1 [] (null_in (continued x r) (each_both (within x r) (nullable (continued x r)) f).1) in
                subst (IsIn e) (map-append (λ (p : Place). p.1) h.front ((r, h.tag) ∷ []) ∙ sym h.tags_are)
                (letters_in 0 e (h.front ++ (r, h.tag) ∷ []) reads)
            | inr f ↦ absurd (true≢false (sym (each_both (nullable e) (has 1 r) f).1 ∙ not_zero tags r h))
          ]
        ]

    may_end : InPath path tags → MayEnd
    may_end h =
        let w = placed 0 e tags h in
        elim (last_of w.0) [
          | inl none ↦
              let none_tags : tags ≡ [] = sym w.2 ∙ ap letters_of none in (
                0,
                (now 0).1 (inl (none_tags, refl)),
                ends_of_has e 0 1 0 ∙ (λ i. within x 0 && nullable (continued x 0) || in_null e (subst (IsIn e) none_tags h) i && only_zero 0 i)
                    ∙ always (within x 0 && nullable (continued x 0)),
              )
          | inr k ↦
              let reads : IsIn x (k.0 ++ k.1 ∷ []) = subst (IsIn x) k.2 w.1 in
              let last : TakesLast path tags k.1.0 = record {
                front = k.0;
                tag = k.1.1;
                rest = [];
                reads = reads;
                tags_are = sym w.2 ∙ ap letters_of k.2 ∙ map-append (λ (p : Place). p.1) k.0 (k.1 ∷ []);
              } in
              let ends : nullable (continued x k.1.0) ≡ true =
              in_null (continued x k.1.0) (goes_on x (apart_numbered 0 e) k.1 k.0 [] reads).0 in (
                k.1.0,
                (now k.1.0).1 (inr last),
                ends_of_has e 0 1 k.1.0 ∙ (λ i. reads_within tags k.1.0 last i && ends i || nullable e && has 1 k.1.0),
              )
        ]
      where
        always : (b : Bool) → (b || true && true) ≡ true
        always true = refl
        always false = refl

    pub accepts_is : MayEnd ↔ InPath path tags
    accepts_is = (in_path, may_end)

-- in front of the path stands position 0
pub start_is : (path : Path) (r : ℕ) → (has 1 r ≡ true) ↔ IsReached path [] r
start_is path r = (
  λ h. inl (refl, sym (eqb-true 0 r (sym (has_one 0 r) ∙ h))),
  λ h. elim h [
    | inl k ↦ has_one 0 r ∙ eq-eqb 0 r (sym k.1)
    | inr t ↦ nonempty (map (λ (p : Place). p.1) t.front) t.tag t.tags_are
  ],
)
