-- What holds of all items holds of them sorted, and the other way round.
use Rattle.std.proofs.Common.{◌≡◌, ℕ, zero, suc, ◌+◌, ◌≤◌, Bool, true, false, List, [], ◌∷◌, ◌++◌, length, take, drop, set, get_or, ◌<◌, refl, sym, ap, ◌∙◌, arith}
use Rattle.std.specs.Prelude.{◌&&◌}
use Rattle.std.specs.List.{list_all, flat_map}
use Rattle.std.proofs.lemmas.List.{take_more, flat_map_more, set_split}
use Rattle.std.proofs.Math.Seq.{drop-cons}
use Rattle.std.specs.declared.cmp.Ordering.{Ordering}
use Rattle.std.specs.declared.cmp.Ordering.TheVariants.{Less, Equal as Same, Greater}
use Rattle.std.specs.Ordering.{nat_cmp, ordering_then}
use Rattle.ncq_base.specs.Atoms.{same_atom, atom_cmp}
use Rattle.ncq_row.specs.declared.value.Value.{Value}
use Rattle.ncq_row.specs.Values.{atom_at}
use Rattle.ncq_row.specs.declared.pair.Pair.{Pair}
use Rattle.ncq_plan.specs.declared.query.EqualTo.{EqualTo}
use Rattle.ncq_plan.specs.declared.query.Within.{Within}
use Rattle.ncq_base.specs.Intervals.{in_interval}
use Rattle.ncq_plan.specs.Products.{equal_holds, range_holds, pair_holds}
use Rattle.ncq_bind.specs.Sorted.{insert_once, sorted_onto, equal_order, pair_order}
use Rattle.ncq_bind.specs.Ranges.{within_both, insert_range, ranges_onto}
use Rattle.ncq_bind.proofs.Bools.{and_front, and_again}
use Rattle.std.proofs.Math.Bool.{and_assoc, and-true}
use Rattle.ncq_bind.proofs.AtomLaws.{nat_tied, atoms_tied}
use Rattle.ncq_bind.proofs.IntervalLaws.{in_both}

tie_drops : (a b c : Bool) → a ≡ b → (b && c) ≡ (a && (b && c))
tie_drops a b c e = and_again b c ∙ ap (λ v. v && (b && c)) (sym e)

module _ {A : Type 0} (order : A → A → Ordering) (P : A → Bool) (tie : (x y : A) → order x y ≡ Same → P x ≡ P y) where
  insert_by : (x y : A) (ys : List A) → list_all P (insert_once order x ys) ≡ (P x && list_all P ys) → (o : Ordering) → (o ≡ Same → P x ≡ P y)
      → list_all P (elim o [ Less ↦ x ∷ y ∷ ys | Same ↦ y ∷ ys | Greater ↦ y ∷ insert_once order x ys ]) ≡ (P x && (P y && list_all P ys))
  insert_by x y ys h Less t = refl
  insert_by x y ys h Same t = tie_drops (P x) (P y) (list_all P ys) (t refl)
  insert_by x y ys h Greater t = ap (λ v. P y && v) h ∙ and_front (P y) (P x) (list_all P ys)

  all-insert : (x : A) (ys : List A) → list_all P (insert_once order x ys) ≡ (P x && list_all P ys)
  all-insert x [] = refl
  all-insert x (y ∷ ys) = insert_by x y ys (all-insert x ys) (order x y) (tie x y)

  pub all-sorted_onto : (done xs : List A) → list_all P (sorted_onto order done xs) ≡ (list_all P done && list_all P xs)
  all-sorted_onto done [] = sym (and-true (list_all P done))
  all-sorted_onto done (x ∷ xs) =
      all-sorted_onto (insert_once order x done) xs ∙ ap (λ v. v && list_all P xs) (all-insert x done)
      ∙ and_assoc (P x) (list_all P done) (list_all P xs) ∙ and_front (P x) (list_all P done) (list_all P xs)

pub then_tied : (a b : Ordering) → ordering_then a b ≡ Same → (a ≡ Same) × (b ≡ Same)
then_tied Less b e = absurd cc
then_tied Same b e = (refl, e)
then_tied Greater b e = absurd cc

equal_tied : (offset : ℕ) (row : List Value) (x y : EqualTo) → equal_order x y ≡ Same → equal_holds offset row x ≡ equal_holds offset row y
equal_tied offset row x y e =
    let t = then_tied (nat_cmp x.slot y.slot) (atom_cmp x.constant y.constant) e in
    λ i. same_atom (atom_at row (offset + nat_tied x.slot y.slot t.0 i)) (atoms_tied x.constant y.constant t.1 i)

pub all-equals : (offset : ℕ) (row : List Value) (xs : List EqualTo) → list_all (equal_holds offset row) (sorted_onto equal_order [] xs) ≡ list_all (equal_holds offset row) xs
all-equals offset row xs = all-sorted_onto equal_order (equal_holds offset row) (equal_tied offset row) [] xs

pair_tied : (offset : ℕ) (row : List Value) (x y : Pair) → pair_order x y ≡ Same → pair_holds offset row x ≡ pair_holds offset row y
pair_tied offset row x y e =
    let t = then_tied (nat_cmp x.left y.left) (nat_cmp x.right y.right) e in
    λ i. same_atom (atom_at row (nat_tied x.left y.left t.0 i)) (atom_at row (offset + nat_tied x.right y.right t.1 i))

pub all-pairs : (offset : ℕ) (row : List Value) (xs : List Pair) → list_all (pair_holds offset row) (sorted_onto pair_order [] xs) ≡ list_all (pair_holds offset row) xs
all-pairs offset row xs = all-sorted_onto pair_order (pair_holds offset row) (pair_tied offset row) [] xs

-- a test of ranges that the two together pass where each passes it
module _ (P : Within → Bool) (tie : (w y : Within) → nat_cmp w.slot y.slot ≡ Same → P (within_both y w) ≡ (P w && P y)) where
  range_by : (w y : Within) (ys : List Within) → list_all P (insert_range w ys) ≡ (P w && list_all P ys)
      → (o : Ordering) → (o ≡ Same → P (within_both y w) ≡ (P w && P y))
      → list_all P (elim o [ Less ↦ w ∷ y ∷ ys | Same ↦ within_both y w ∷ ys | Greater ↦ y ∷ insert_range w ys ]) ≡ (P w && (P y && list_all P ys))
  range_by w y ys h Less t = refl
  range_by w y ys h Same t = ap (λ v. v && list_all P ys) (t refl) ∙ and_assoc (P w) (P y) (list_all P ys)
  range_by w y ys h Greater t = ap (λ v. P y && v) h ∙ and_front (P y) (P w) (list_all P ys)

  all-insert_range : (w : Within) (ys : List Within) → list_all P (insert_range w ys) ≡ (P w && list_all P ys)
  all-insert_range w [] = refl
  all-insert_range w (y ∷ ys) = range_by w y ys (all-insert_range w ys) (nat_cmp w.slot y.slot) (tie w y)

  pub all-ranges_onto : (done ws : List Within) → list_all P (ranges_onto done ws) ≡ (list_all P done && list_all P ws)
  all-ranges_onto done [] = sym (and-true (list_all P done))
  all-ranges_onto done (w ∷ ws) =
      all-ranges_onto (insert_range w done) ws ∙ ap (λ v. v && list_all P ws) (all-insert_range w done)
      ∙ and_assoc (P w) (list_all P done) (list_all P ws) ∙ and_front (P w) (list_all P done) (list_all P ws)

and_flip : (a b : Bool) → (a && b) ≡ (b && a)
and_flip true true = refl
and_flip true false = refl
and_flip false true = refl
and_flip false false = refl

both_hold : (offset : ℕ) (row : List Value) (w y : Within) → nat_cmp w.slot y.slot ≡ Same → range_holds offset row (within_both y w) ≡ (range_holds offset row w && range_holds offset row y)
both_hold offset row w y e =
    in_both y.interval w.interval (atom_at row (offset + y.slot))
    ∙ and_flip (in_interval y.interval (atom_at row (offset + y.slot))) (in_interval w.interval (atom_at row (offset + y.slot)))
    ∙ ap (λ s. in_interval w.interval (atom_at row (offset + s)) && in_interval y.interval (atom_at row (offset + y.slot))) (sym (nat_tied w.slot y.slot e))

pub all-ranges : (offset : ℕ) (row : List Value) (ws : List Within) → list_all (range_holds offset row) (ranges_onto [] ws) ≡ list_all (range_holds offset row) ws
all-ranges offset row ws = all-ranges_onto (range_holds offset row) (both_hold offset row) [] ws

-- ---- order and counts

pub sorted_onto-append : {A : Type 0} (order : A → A → Ordering) (done xs ys : List A) → sorted_onto order done (xs ++ ys) ≡ sorted_onto order (sorted_onto order done xs) ys
sorted_onto-append order done [] ys = refl
sorted_onto-append order done (x ∷ xs) ys = sorted_onto-append order (insert_once order x done) xs ys

pub ranges_onto-append : (done xs ys : List Within) → ranges_onto done (xs ++ ys) ≡ ranges_onto (ranges_onto done xs) ys
ranges_onto-append done [] ys = refl
ranges_onto-append done (x ∷ xs) ys = ranges_onto-append (insert_range x done) xs ys

-- a range put in where its slot has one
pub range_at : (w y : Within) (rs : List Within) (at : ℕ) → at < length rs → y ≡ get_or rs at y → nat_cmp w.slot y.slot ≡ Same
    → take at rs ++ insert_range w (drop at rs) ≡ set rs at (within_both y w)
range_at w y rs at h e tie =
    ap (λ v. take at rs ++ insert_range w v) (drop-cons rs at y h ∙ ap (λ x. x ∷ drop (suc at) rs) (sym e))
    ∙ ap (λ o. take at rs ++ elim o [ Less ↦ w ∷ y ∷ drop (suc at) rs | Same ↦ within_both y w ∷ drop (suc at) rs | Greater ↦ y ∷ insert_range w (drop (suc at) rs) ]) tie
    ∙ sym (set_split rs at (within_both y w) h)

-- two looks at one item
pub same_item : {A : Type 0} (rs : List A) (at : ℕ) (x y : A) → at < length rs → x ≡ get_or rs at x → y ≡ get_or rs at y → x ≡ y
same_item [] at x y h e f = absurd (omega arith)
same_item (r ∷ rs) zero x y h e f = e ∙ sym f
same_item (r ∷ rs) (suc at) x y h e f = let less : at < length rs = omega arith in same_item rs at x y less e f

-- a range put in before one of a greater slot
pub range_less : (w y : Within) (rs : List Within) (at : ℕ) → at < length rs → y ≡ get_or rs at y → nat_cmp w.slot y.slot ≡ Less
    → take at rs ++ w ∷ drop at rs ≡ take at rs ++ insert_range w (drop at rs)
range_less w y rs at h e tie =
    let front : drop at rs ≡ y ∷ drop (suc at) rs = drop-cons rs at y h ∙ ap (λ x. x ∷ drop (suc at) rs) (sym e) in
    ap (λ v. take at rs ++ w ∷ v) front
    ∙ sym (ap (λ o. take at rs ++ elim o [ Less ↦ w ∷ y ∷ drop (suc at) rs | Same ↦ within_both y w ∷ drop (suc at) rs | Greater ↦ y ∷ insert_range w (drop (suc at) rs) ]) tie)
    ∙ sym (ap (λ v. take at rs ++ insert_range w v) front)

-- a range put in behind all others
pub range_end : (w : Within) (rs : List Within) (at : ℕ) → length rs ≤ at → take at rs ++ w ∷ drop at rs ≡ take at rs ++ insert_range w (drop at rs)
range_end w rs at h = ap (λ v. take at rs ++ w ∷ v) (none_left rs at h) ∙ sym (ap (λ v. take at rs ++ insert_range w v) (none_left rs at h))
  where
    none_left : (rs : List Within) (at : ℕ) → length rs ≤ at → drop at rs ≡ []
    none_left [] zero h = refl
    none_left [] (suc at) h = refl
    none_left (r ∷ rs) zero h = absurd (omega arith)
    none_left (r ∷ rs) (suc at) h = let less : length rs ≤ at = omega arith in none_left rs at less

-- one constraint more
pub sorted_more : {C A : Type 0} (order : A → A → Ordering) (f : C → List A) (cs : List C) (i : ℕ) (c : C) → i < length cs → c ≡ get_or cs i c
    → sorted_onto order [] (flat_map f (take (i + 1) cs)) ≡ sorted_onto order (sorted_onto order [] (flat_map f (take i cs))) (f c)
sorted_more order f cs i c h e =
    ap (λ v. sorted_onto order [] (flat_map f v)) (take_more cs i c h ∙ ap (λ x. take i cs ++ x ∷ []) (sym e))
    ∙ ap (sorted_onto order []) (sym (flat_map_more f [] (take i cs) c))
    ∙ sorted_onto-append order [] (flat_map f (take i cs)) (f c)

pub ranges_more : {C : Type 0} (f : C → List Within) (cs : List C) (i : ℕ) (c : C) → i < length cs → c ≡ get_or cs i c
    → ranges_onto [] (flat_map f (take (i + 1) cs)) ≡ ranges_onto (ranges_onto [] (flat_map f (take i cs))) (f c)
ranges_more f cs i c h e =
    ap (λ v. ranges_onto [] (flat_map f v)) (take_more cs i c h ∙ ap (λ x. take i cs ++ x ∷ []) (sym e))
    ∙ ap (ranges_onto []) (sym (flat_map_more f [] (take i cs) c))
    ∙ ranges_onto-append [] (flat_map f (take i cs)) (f c)

-- sorting adds nothing
inserted_count : {A : Type 0} (order : A → A → Ordering) (x y : A) (ys : List A) → length (insert_once order x ys) ≤ suc (length ys) → (o : Ordering)
    → length {A = A} (elim o [ Less ↦ x ∷ y ∷ ys | Same ↦ y ∷ ys | Greater ↦ y ∷ insert_once order x ys ]) ≤ suc (suc (length ys))
inserted_count order x y ys h Less = omega arith
inserted_count order x y ys h Same = omega arith
inserted_count order x y ys h Greater = omega arith

insert_count : {A : Type 0} (order : A → A → Ordering) (x : A) (ys : List A) → length (insert_once order x ys) ≤ suc (length ys)
insert_count order x [] = omega arith
insert_count order x (y ∷ ys) = inserted_count order x y ys (insert_count order x ys) (order x y)

pub sorted_count : {A : Type 0} (order : A → A → Ordering) (done xs : List A) → length (sorted_onto order done xs) ≤ length done + length xs
sorted_count order done [] = omega arith
sorted_count order done (x ∷ xs) =
    let more : length (sorted_onto order (insert_once order x done) xs) ≤ length (insert_once order x done) + length xs = sorted_count order (insert_once order x done) xs in
    let one : length (insert_once order x done) ≤ suc (length done) = insert_count order x done in
    omega arith

ranged_count : (w y : Within) (ys : List Within) → length (insert_range w ys) ≤ suc (length ys) → (o : Ordering)
    → length {A = Within} (elim o [ Less ↦ w ∷ y ∷ ys | Same ↦ within_both y w ∷ ys | Greater ↦ y ∷ insert_range w ys ]) ≤ suc (suc (length ys))
ranged_count w y ys h Less = omega arith
ranged_count w y ys h Same = omega arith
ranged_count w y ys h Greater = omega arith

range_count : (w : Within) (ys : List Within) → length (insert_range w ys) ≤ suc (length ys)
range_count w [] = omega arith
range_count w (y ∷ ys) = ranged_count w y ys (range_count w ys) (nat_cmp w.slot y.slot)

pub ranges_count : (done ws : List Within) → length (ranges_onto done ws) ≤ length done + length ws
ranges_count done [] = omega arith
ranges_count done (w ∷ ws) =
    let more : length (ranges_onto (insert_range w done) ws) ≤ length (insert_range w done) + length ws = ranges_count (insert_range w done) ws in
    let one : length (insert_range w done) ≤ suc (length done) = range_count w done in
    omega arith
