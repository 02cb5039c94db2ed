-- A stable sort by name gives what the definition of `sorted` gives.
use Rattle.std.proofs.Common.{◌≡◌, ◌&&◌, ◌≤◌, ◌<◌, not, ℕ, Bool, true, false, cond, suc, List, [], ◌∷◌, ◌++◌, length, get_or, refl, ap, sym, ◌∙◌, append-nil, append_assoc, arith}
use Rattle.std.specs.List.{filter}
use Rattle.std.specs.Ordering.{nat_cmp, is_lt}
use Rattle.std.specs.declared.cmp.Ordering.{Ordering}
use Rattle.std.specs.Cmp.{IsStrictWeakOrder}
use Rattle.std.specs.Fn.{ComparesAs, Called}
use denote.Ref.{Bor}
use denote.Param.Members.{Mut}
use Rattle.std.proofs.lemmas.Fn.{always_returns_same}
use Rattle.std.specs.Cmp.Lexicographic.{slice_cmp}
use Rattle.std.specs.List.Sorted.{IsSortedBy, IsStableBy, ties}
use Rattle.std.proofs.lemmas.Cmp.{nat_list_cmp_total}
use Rattle.std.proofs.lemmas.List.Elements.{filter-append}
use Rattle.std.proofs.lemmas.List.Sorted.{ranks_by, sorted_far}
use Rattle.ncq_tree.specs.declared.model.Attribute.{Attribute}
use Rattle.ncq_tree.specs.Normal.{not_before, insert_by_name, sorted_onto, sorted}

rest_of : {X : Type 0} → List X → List X
rest_of [] = []
rest_of (x ∷ xs) = xs

same_rest : {X : Type 0} (b : Bool) (x : X) (xs ys : List X) → cond b (x ∷ xs) xs ≡ cond b (x ∷ ys) ys → xs ≡ ys
unfolding rest_of
same_rest true x xs ys h = ap rest_of h
same_rest false x xs ys h = h

-- two sorted lists in which each element ties with the same elements in the same order are one
module _ {X : Type 0} (lt : X → X → Bool) (o : IsStrictWeakOrder lt) where
  abbrev Above : X → List X → Type 0
  Above x [] = Unit {0}
  Above x (y ∷ ys) = (lt y x ≡ false) × Above x ys

  abbrev Rises : List X → Type 0
  Rises [] = Unit {0}
  Rises (x ∷ xs) = Above x xs × Rises xs

  above_of : (x : X) (xs : List X) → ((k : ℕ) → k < length xs → lt (get_or xs k x) x ≡ false) → Above x xs
  above_of x [] h = tt
  above_of x (y ∷ ys) h = (h 0 (omega arith), above_of x ys (λ k p. h (suc k) (omega arith)))

  rises_of : (xs : List X) → ((i j : ℕ) (d : X) → i ≤ j → j < length xs → lt (get_or xs j d) (get_or xs i d) ≡ false) → Rises xs
  rises_of [] h = tt
  rises_of (x ∷ xs) h = (above_of x xs (λ k p. h 0 (suc k) x (omega arith) (omega arith)), rises_of xs (λ i j d p q. h (suc i) (suc j) d (omega arith) (omega arith)))

  irreflexive : (x : X) → lt x x ≡ false
  irreflexive x = by (lt x x) refl
    where
      by : (b : Bool) → lt x x ≡ b → lt x x ≡ false
      by true e = o.one_way x x e
      by false e = e

  tied_itself : (x : X) → ties lt x x ≡ true
  tied_itself x = ap (λ b. not b && not b) (irreflexive x)

  less_not_tied : (x z : X) → lt x z ≡ true → ties lt x z ≡ false
  less_not_tied x z h = ap (λ b. not b && not (lt z x)) h

  -- what is less than y is less than what is not less than y
  less_on : (x z y : X) → lt x y ≡ true → lt z y ≡ false → lt x z ≡ true
  less_on x z y h k = by (lt x z) refl
    where
      by : (b : Bool) → lt x z ≡ b → lt x z ≡ true
      by true e = e
      by false e = let w = o.chain x z y e k in cc

  none_tied : (x y : X) (ys : List X) → lt x y ≡ true → Above y ys → filter (ties lt x) ys ≡ []
  none_tied x y [] h above = refl
  none_tied x y (z ∷ zs) h above =
      ap (λ b. cond b (z ∷ filter (ties lt x) zs) (filter (ties lt x) zs)) (less_not_tied x z (less_on x z y h above.0))
      ∙ none_tied x y zs h above.1

  none_of_all : (x y : X) (ys : List X) → lt x y ≡ true → Above y ys → filter (ties lt x) (y ∷ ys) ≡ []
  none_of_all x y ys h above =
      ap (λ b. cond b (y ∷ filter (ties lt x) ys) (filter (ties lt x) ys)) (less_not_tied x y h) ∙ none_tied x y ys h above

  first_kept : (x : X) (xs : List X) → filter (ties lt x) (x ∷ xs) ≡ x ∷ filter (ties lt x) xs
  first_kept x xs = ap (λ b. cond b (x ∷ filter (ties lt x) xs) (filter (ties lt x) xs)) (tied_itself x)

  not_less : (x y : X) (xs ys : List X) → Above y ys → filter (ties lt x) (y ∷ ys) ≡ filter (ties lt x) (x ∷ xs) → lt x y ≡ false
  not_less x y xs ys above h = by (lt x y) refl
    where
      by : (b : Bool) → lt x y ≡ b → lt x y ≡ false
      by true e =
          let w : [] ≡ x ∷ filter (ties lt x) xs = sym (none_of_all x y ys e above) ∙ h ∙ first_kept x xs in
          cc
      by false e = e

  one_order : (xs ys : List X) → Rises xs → Rises ys → ((x : X) → filter (ties lt x) ys ≡ filter (ties lt x) xs) → ys ≡ xs
  one_order [] [] up down h = refl
  one_order [] (y ∷ ys) up down h = let w : y ∷ filter (ties lt y) ys ≡ [] = sym (first_kept y ys) ∙ h y in cc
  one_order (x ∷ xs) [] up down h = let w : [] ≡ x ∷ filter (ties lt x) xs = h x ∙ first_kept x xs in cc
  one_order (x ∷ xs) (y ∷ ys) up down h =
      let a : lt x y ≡ false = not_less x y xs ys down.0 (h x) in
      let b : lt y x ≡ false = not_less y x ys xs up.0 (sym (h y)) in
      let tie : ties lt x y ≡ true = ap (λ t. not t && not (lt y x)) a ∙ ap not b in
      let heads : y ∷ filter (ties lt x) ys ≡ x ∷ filter (ties lt x) xs =
      sym (ap (λ t. cond t (y ∷ filter (ties lt x) ys) (filter (ties lt x) ys)) tie) ∙ h x ∙ first_kept x xs in
      let e : y ≡ x = ap (λ (l : List X). get_or l 0 x) heads in
      let ih : ys ≡ xs = one_order xs ys up.1 down.1
      (λ w. same_rest (ties lt w x) x (filter (ties lt w) ys) (filter (ties lt w) xs)
      (sym (ap (λ v. cond (ties lt w v) (v ∷ filter (ties lt w) ys) (filter (ties lt w) ys)) e) ∙ h w)) in
      λ i. e i ∷ ih i

-- the name of the first stands before that of the second
abbrev pub by_name : Attribute → Attribute → Bool
by_name a b = is_lt (slice_cmp nat_cmp a.name b.name)

pub by_name_ranks : IsStrictWeakOrder by_name
by_name_ranks = ranks_by nat_list_cmp_total (λ (a : Attribute). a.name)

above_insert : (b a : Attribute) (more : List Attribute) → by_name a b ≡ false → Above by_name by_name_ranks b more → Above by_name by_name_ranks b (insert_by_name a more)
above_insert b a [] h above = (h, tt)
above_insert b a (c ∷ more) h above = by (not_before a.name c) (above_insert b a more h above.1)
  where
    by : (t : Bool) → Above by_name by_name_ranks b (insert_by_name a more) → Above by_name by_name_ranks b (cond t (c ∷ insert_by_name a more) (a ∷ c ∷ more))
    by true below = (above.0, below)
    by false below = (h, above)

above_far : (a b : Attribute) (more : List Attribute) → by_name b a ≡ false → Above by_name by_name_ranks b more → Above by_name by_name_ranks a more
above_far a b [] h above = tt
above_far a b (c ∷ more) h above = (by_name_ranks.chain c b a above.0 h, above_far a b more h above.1)

rises_insert : (a : Attribute) (done : List Attribute) → Rises by_name by_name_ranks done → Rises by_name by_name_ranks (insert_by_name a done)
rises_insert a [] up = (tt, tt)
rises_insert a (b ∷ more) up = by (by_name a b) refl (rises_insert a more up.1)
  where
    by : (t : Bool) → by_name a b ≡ t → Rises by_name by_name_ranks (insert_by_name a more) → Rises by_name by_name_ranks (cond (not t) (b ∷ insert_by_name a more) (a ∷ b ∷ more))
    by true e below = let back = by_name_ranks.one_way a b e in ((back, above_far a b more back up.0), up)
    by false e below = (above_insert b a more e up.0, below)

abbrev tied : Attribute → List Attribute → List Attribute
tied w xs = filter (ties by_name w) xs

-- what ties with a is less than what a is less than
tied_less : (w a b : Attribute) → ties by_name w a ≡ true → by_name a b ≡ true → by_name w b ≡ true
tied_less w a b tie h = by (by_name w b) refl (by_name a w) refl tie
  where
    by : (t : Bool) → by_name w b ≡ t → (s : Bool) → by_name a w ≡ s → (not (by_name w a) && not s) ≡ true → by_name w b ≡ true
    by true e s f k = e
    by false e false f k = let v = by_name_ranks.chain a w b f e in cc
    by false e true f k = never (by_name w a) k
      where
        never : (r : Bool) → (not r && false) ≡ true → by_name w b ≡ true
        never true q = cc
        never false q = cc

tied_insert : (w a : Attribute) (done : List Attribute) → Rises by_name by_name_ranks done → tied w (insert_by_name a done) ≡ tied w done ++ tied w (a ∷ [])
tied_insert w a [] up = refl
tied_insert w a (b ∷ more) up = by (by_name a b) refl (tied_insert w a more up.1)
  where
    front : (t : Bool) → ties by_name w a ≡ t → by_name a b ≡ true → cond t (a ∷ tied w (b ∷ more)) (tied w (b ∷ more)) ≡ tied w (b ∷ more) ++ cond t (a ∷ []) []
    front true tie e =
        let none = none_of_all by_name by_name_ranks w b more (tied_less w a b tie e) up.0 in
        ap (λ l. a ∷ l) none ∙ sym (ap (λ l. l ++ a ∷ []) none)
    front false tie e = sym (append-nil (tied w (b ∷ more)))

    behind : (t : Bool) → tied w (insert_by_name a more) ≡ tied w more ++ tied w (a ∷ [])
        → cond t (b ∷ tied w (insert_by_name a more)) (tied w (insert_by_name a more)) ≡ cond t (b ∷ tied w more) (tied w more) ++ tied w (a ∷ [])
    behind true h = ap (λ l. b ∷ l) h
    behind false h = h

    by : (t : Bool) → by_name a b ≡ t → tied w (insert_by_name a more) ≡ tied w more ++ tied w (a ∷ [])
        → tied w (cond (not t) (b ∷ insert_by_name a more) (a ∷ b ∷ more)) ≡ tied w (b ∷ more) ++ tied w (a ∷ [])
    by true e h = front (ties by_name w a) refl e
    by false e h = behind (ties by_name w b) h

rises_onto : (attributes done : List Attribute) → Rises by_name by_name_ranks done → Rises by_name by_name_ranks (sorted_onto done attributes)
rises_onto [] done up = up
rises_onto (a ∷ more) done up = rises_onto more (insert_by_name a done) (rises_insert a done up)

tied_onto : (w : Attribute) (attributes done : List Attribute) → Rises by_name by_name_ranks done → tied w (sorted_onto done attributes) ≡ tied w done ++ tied w attributes
tied_onto w [] done up = sym (append-nil (tied w done))
tied_onto w (a ∷ more) done up =
    tied_onto w more (insert_by_name a done) (rises_insert a done up)
    ∙ ap (λ l. l ++ tied w more) (tied_insert w a done up)
    ∙ append_assoc (tied w done) (tied w (a ∷ [])) (tied w more)
    ∙ ap (λ l. tied w done ++ l) (sym (filter-append (ties by_name w) (a ∷ []) more))

-- what a stable sort by name gives
pub stably_sorted : (attributes made : List Attribute) → IsSortedBy by_name made → IsStableBy by_name attributes made → made ≡ sorted attributes
stably_sorted attributes made up stable =
    one_order by_name by_name_ranks (sorted attributes) made
    (rises_onto attributes [] tt)
    (rises_of by_name by_name_ranks made (sorted_far by_name by_name_ranks made up))
    (λ w. stable w ∙ sym (tied_onto w attributes [] tt))

-- the same, where the sort calls a closure that compares the names
pub sorted_by_names : {F : Type 0} {g : Mut F (Bor Attribute × (Bor Attribute × Unit {0})) Ordering} {f : F} (attributes made : List Attribute)
    → ((lt : Attribute → Attribute → Bool) → IsStrictWeakOrder lt → ComparesAs g lt f → IsSortedBy lt made)
    → ((lt : Attribute → Attribute → Bool) → IsStrictWeakOrder lt → ComparesAs g lt f → IsStableBy lt attributes made)
    → ((a : Bor Attribute × (Bor Attribute × Unit {0})) (r : Ordering) (f' : F) → Called g f a r f' → (r ≡ slice_cmp nat_cmp a.0.now.name a.1.0.now.name) × (f' ≡ f))
    → made ≡ sorted attributes
sorted_by_names {g = g} {f = f} attributes made up stable h =
    let compares = always_returns_same g (λ a r. is_lt r ≡ by_name a.0.now a.1.0.now) f (λ a r f' k. (ap is_lt (h a r f' k).0, (h a r f' k).1)) in
    stably_sorted attributes made (up by_name by_name_ranks compares) (stable by_name by_name_ranks compares)
