-- The rows of the other side that have a row's atoms are those where the pairs agree.
use Rattle.std.proofs.Common.{◌≡◌, Bool, true, false, cond, ◌&&◌, List, [], ◌∷◌, ◌++◌, map, filter, append-nil, refl, sym, ◌∙◌, ap}
use Rattle.std.specs.Cmp.{int_eq_equiv}
use Rattle.std.proofs.lemmas.Cmp.{nat_list_eq_equiv}
use Rattle.ncq_base.specs.Atoms.{same_atom}
use Rattle.ncq_base.specs.declared.atom.Atom.{Atom}
use Rattle.ncq_base.specs.declared.atom.Atom.TheVariants.{Num, Text}
use Rattle.ncq_row.specs.declared.pair.Pair.{Pair}
use Rattle.ncq_row.specs.Embeddings.{Row}
use Rattle.ncq_row.specs.Values.{atom_at}
use Rattle.ncq_plan.specs.Meets.{agree}
use Rattle.ncq_plan.specs.Exprs.{followed_by, join_rows}
use Rattle.ncq_midfile.specs.Matching.{has_key}
use Rattle.ncq_delta.specs.declared.probe.Side.{Side}
use Rattle.ncq_delta.specs.declared.probe.Side.TheVariants.{Left, Right}
use Rattle.ncq_delta.specs.Probes.{slots_on, across, beside, joined_on}

atom_turned : (a b : Atom) → same_atom a b ≡ same_atom b a
atom_turned (Num m) (Num n) = int_eq_equiv.symm m n
atom_turned (Num m) (Text t) = refl
atom_turned (Text s) (Num n) = refl
atom_turned (Text s) (Text t) = nat_list_eq_equiv.symm s t

-- the atoms of the row at the slots of its side
abbrev pub key_on : Side → List Pair → Row → List Atom
key_on side pairs row = map (atom_at row) (slots_on side pairs)

right_agrees : (pairs : List Pair) (row other : Row) → has_key (slots_on Right pairs) (key_on Left pairs row) other ≡ agree pairs row other
right_agrees [] row other = refl
right_agrees (p ∷ pairs) row other = λ i. atom_turned (atom_at other p.right) (atom_at row p.left) i && right_agrees pairs row other i

left_agrees : (pairs : List Pair) (row other : Row) → has_key (slots_on Left pairs) (key_on Right pairs row) other ≡ agree pairs other row
left_agrees [] row other = refl
left_agrees (p ∷ pairs) row other = ap (λ b. same_atom (atom_at other p.left) (atom_at row p.right) && b) (left_agrees pairs row other)

filter_alike : {A : Type 0} (p q : A → Bool) → ((x : A) → p x ≡ q x) → (xs : List A) → filter p xs ≡ filter q xs
filter_alike p q e [] = refl
filter_alike p q e (x ∷ xs) = λ i. cond (e x i) (x ∷ filter_alike p q e xs i) (filter_alike p q e xs i)

-- the row in front of those that have its atoms
rights_are : (pairs : List Pair) (row : Row) (others : List Row)
    → map (beside Left row) (filter (has_key (slots_on Right pairs) (key_on Left pairs row)) others) ≡ join_rows pairs (row ∷ []) others
rights_are pairs row others =
    ap (map (beside Left row)) (filter_alike (has_key (slots_on Right pairs) (key_on Left pairs row)) (agree pairs row) (right_agrees pairs row) others)
    ∙ sym (append-nil (followed_by pairs others row))

one_left : (row other : Row) (b : Bool) (others rest : List Row) → map (beside Right row) others ≡ rest
    → map (beside Right row) (cond b (other ∷ others) others) ≡ map (λ right. other ++ right) (cond b (row ∷ []) []) ++ rest
one_left row other true others rest e = ap (λ rows. (other ++ row) ∷ rows) e
one_left row other false others rest e = e

-- the row behind those that have its atoms
lefts_are : (pairs : List Pair) (row : Row) (others : List Row)
    → map (beside Right row) (filter (has_key (slots_on Left pairs) (key_on Right pairs row)) others) ≡ join_rows pairs others (row ∷ [])
lefts_are pairs row [] = refl
lefts_are pairs row (other ∷ others) =
    let key = has_key (slots_on Left pairs) (key_on Right pairs row) in
    ap (λ b. map (beside Right row) (cond b (other ∷ filter key others) (filter key others))) (left_agrees pairs row other)
    ∙ one_left row other (agree pairs other row) (filter key others) (join_rows pairs others (row ∷ [])) (lefts_are pairs row others)

-- the row joined with those that have its atoms
pub joined_are : (side : Side) (pairs : List Pair) (row : Row) (others : List Row)
    → map (beside side row) (filter (has_key (slots_on (across side) pairs) (key_on side pairs row)) others) ≡ joined_on side pairs others row
joined_are Left pairs row others = rights_are pairs row others
joined_are Right pairs row others = lefts_are pairs row others
