-- Rows that are noted at the slots of their file.
use Rattle.std.proofs.Common.{◌≡◌, ◌≢◌, ℕ, zero, suc, ◌+◌, ◌<◌, ◌≤◌, Bool, true, false, ◌&&◌, ◌||◌, cond, List, [], ◌∷◌, ◌++◌, length, take, get_or, map, filter, Some, None, Option, Ok, Err, Result, OnOk, OnErr, nat_eq, inl, inr, refl, sym, ap, ◌∙◌, subst, true≢false, arith}
use Rattle.std.specs.Prelude.{nat_lt, nat_le, not, slice_get}
use Rattle.std.specs.List.{AllByRecursion, list_any}
use Rattle.std.specs.Map.{lookup}
use Rattle.std.specs.Option.{option_map, option_map_or}
use Rattle.std.proofs.lemmas.Bool.{cases_eq, eq-eqb, cases_lt, lt-ltb, le-ltb, le-leb, lt-leb, ne_eqb, eqb-true}
use Rattle.std.proofs.lemmas.List.{take_all, take_more}
use Rattle.ncq_base.specs.Atoms.{same_atom}
use Rattle.ncq_base.specs.Counts.{total_by}
use Rattle.ncq_base.proofs.CountLaws.{total_by-append}
use Rattle.ncq_base.specs.declared.atom.Atom.{Atom}
use Rattle.ncq_row.specs.Embeddings.{Row}
use Rattle.ncq_row.specs.Values.{atom_at}
use Rattle.ncq_midfile.specs.Content.{up_to, since, gains, losses, rows_of, rows_at, signed_at, IsContent, IsSoundAt}
use Rattle.ncq_midfile.specs.Files.{IsFile, IsBased}
use Rattle.ncq_midfile.specs.declared.signed.SignedRow.{SignedRow}
use Rattle.ncq_holders.specs.Held.{Held, is_holder, Notes, Forgets, HaveSame}
use Rattle.ncq_holders.proofs.CallerLemmas.{atoms_same, noted_here, noted_kept, forgotten_kept}
use Rattle.ncq_shelf.specs.Keyed.{IsHeld, AreHeld, HoldsMore, HoldsOthers, HoldsBoth, HaveKept, slots_in}
use Rattle.ncq_shelf.specs.declared.keys.KeyedFile.{KeyedFile}

-- lists, item by item
module _ {A : Type 0} where
  pub all_map : (P Q : A → Type 0) → ((x : A) → P x → Q x) → (xs : List A) → AllByRecursion P xs → AllByRecursion Q xs
  all_map P Q f [] a = tt
  all_map P Q f (x ∷ xs) a = (f x a.0, all_map P Q f xs a.1)

  pub all_part : (P : A → Type 0) (part : A → Bool) (xs : List A) → AllByRecursion P xs → AllByRecursion P (filter part xs)
  all_part P part [] a = tt
  all_part P part (x ∷ xs) a = by (part x) (all_part P part xs a.1)
    where
      by : (b : Bool) → AllByRecursion P (filter part xs) → AllByRecursion P (cond b (x ∷ filter part xs) (filter part xs))
      by true rest = (a.0, rest)
      by false rest = rest

  pub push : (P : A → Type 0) (xs : List A) (x : A) → AllByRecursion P xs → P x → AllByRecursion P (xs ++ x ∷ [])
  push P [] x a h = (h, tt)
  push P (y ∷ ys) x a h = (a.0, push P ys x a.1 h)

  -- one item more in a loop that makes more true of those before
  pub all_step : (P Q : A → Type 0) (xs : List A) (i : ℕ) (d x : A) → x ≡ get_or xs i d → i < length xs → ((y : A) → P y → Q y) → AllByRecursion P (take i xs) → Q x → AllByRecursion Q (take (i + 1) xs)
  all_step P Q xs i d x is less up done here =
      subst (AllByRecursion Q) (ap (λ y. take i xs ++ y ∷ []) is ∙ sym (take_more xs i d less)) (push Q (take i xs) x (all_map P Q up (take i xs) done) here)

  pub all_end : (P : A → Type 0) (xs : List A) (i : ℕ) → length xs ≤ i → AllByRecursion P (take i xs) → AllByRecursion P xs
  all_end P xs i long done = subst (AllByRecursion P) (take_all i xs long) done

-- what holds of each number of a list
pub all_among : (P : ℕ → Type 0) (xs : List ℕ) → AllByRecursion P xs → (n : ℕ) → list_any (nat_eq n) xs ≡ true → P n
all_among P [] a n h = absurd (true≢false (sym h))
all_among P (x ∷ xs) a n h = by (nat_eq n x) refl h (all_among P xs a.1 n)
  where
    by : (b : Bool) → nat_eq n x ≡ b → (b || list_any (nat_eq n) xs) ≡ true → (list_any (nat_eq n) xs ≡ true → P n) → P n
    by true e h rest = subst P (sym (eqb-true n x e)) a.0
    by false e h rest = rest h

-- what is noted stays noted
pub more_itself : (held : Held) → HoldsMore held held
more_itself held atom n h = h

pub more_on : (a b c : Held) → HoldsMore a b → HoldsMore b c → HoldsMore a c
more_on a b c f g atom n h = g atom n (f atom n h)

pub held_more : (old new : Held) → HoldsMore old new → (number slot : ℕ) (row : Row) → IsHeld old number slot row → IsHeld new number slot row
held_more old new more number slot row h = by (not (nat_lt slot (length row))) h
  where
    by : (b : Bool) → (b || is_holder old (atom_at row slot) number) ≡ true → (b || is_holder new (atom_at row slot) number) ≡ true
    by true h = refl
    by false h = more (atom_at row slot) number h

pub are_held_more : (old new : Held) → HoldsMore old new → (number slot : ℕ) (rows : List SignedRow) → AreHeld old number slot rows → AreHeld new number slot rows
are_held_more old new more number slot rows h = all_map (λ r. IsHeld old number slot r.row) (λ r. IsHeld new number slot r.row) (λ r. held_more old new more number slot r.row) rows h

-- and so by the others' files
pub held_others : (number : ℕ) (old new : Held) → HoldsOthers number old new → (other slot : ℕ) (row : Row) → other ≢ number → IsHeld old other slot row → IsHeld new other slot row
held_others number old new more other slot row differs h = by (not (nat_lt slot (length row))) h
  where
    by : (b : Bool) → (b || is_holder old (atom_at row slot) other) ≡ true → (b || is_holder new (atom_at row slot) other) ≡ true
    by true h = refl
    by false h = more (atom_at row slot) other differs h

pub held_by : (held : Held) (number slot : ℕ) (row : Row) → is_holder held (atom_at row slot) number ≡ true → IsHeld held number slot row
held_by held number slot row h = ap (λ b. not (nat_lt slot (length row)) || b) h ∙ or_true (not (nat_lt slot (length row)))
  where
    or_true : (b : Bool) → (b || true) ≡ true
    or_true true = refl
    or_true false = refl

-- a row with the slot has an atom there for which the file is noted
pub holder_of : (held : Held) (number slot : ℕ) (row : Row) → slot < length row → IsHeld held number slot row → is_holder held (atom_at row slot) number ≡ true
holder_of held number slot row less h = subst (λ b. (not b || is_holder held (atom_at row slot) number) ≡ true) (lt-ltb slot (length row) less) h

pub note_more : {T E : Type 0} (r : Result T E) (old new : Held) (atom : Atom) (number : ℕ) → OnOk r (Notes old atom number new) → OnErr r (HaveSame old new) → HoldsMore old new
note_more (Ok x) old new atom number n s a m h = noted_kept old new atom number n a m h
note_more (Err e) old new atom number n s a m h = s a m ∙ h

pub note_held : {T E : Type 0} (r : Result T E) (old new : Held) (atom : Atom) (number slot : ℕ) (row : Row) → atom ≡ atom_at row slot → OnOk r (Notes old atom number new) → OnOk r (IsHeld new number slot row)
note_held (Ok x) old new atom number slot row is n = held_by new number slot row (subst (λ a. is_holder new a number ≡ true) is (noted_here old new atom number n))
note_held (Err e) old new atom number slot row is n = tt

pub others_itself : (number : ℕ) (held : Held) → HoldsOthers number held held
others_itself number held atom n differs h = h

-- one atom more is forgotten
pub forgets_more : (number : ℕ) (a b c : Held) (atom : Atom) → HoldsOthers number a b → Forgets b atom number c → HoldsOthers number a c
forgets_more number a b c atom f g other n differs h = forgotten_kept b c atom number g other n (ne_eqb number n (λ e. differs (sym e))) (f other n differs h)

-- and it is none of the fresh ones
pub forgets_stale : (fresh : Held) (number : ℕ) (a b c : Held) (atom : Atom) → HoldsBoth fresh number a b → is_holder fresh atom number ≡ false → Forgets b atom number c → HoldsBoth fresh number a c
forgets_stale fresh number a b c atom f stale g other h was = g other number ∙ (λ i. f other h was i && not (differs (same_atom atom other) refl i && nat_eq number number))
  where
    differs : (same : Bool) → same_atom atom other ≡ same → same_atom atom other ≡ false
    differs true e = absurd (true≢false (sym h ∙ subst (λ x. is_holder fresh x number ≡ false) (atoms_same atom other e) stale))
    differs false e = e

-- a row is noted that is so before and among the fresh ones
pub held_both : (fresh : Held) (number : ℕ) (old new : Held) → HoldsBoth fresh number old new → (slot : ℕ) (row : Row) → IsHeld fresh number slot row → IsHeld old number slot row → IsHeld new number slot row
held_both fresh number old new both slot row now was = by (not (nat_lt slot (length row))) now was
  where
    by : (b : Bool) → (b || is_holder fresh (atom_at row slot) number) ≡ true → (b || is_holder old (atom_at row slot) number) ≡ true → (b || is_holder new (atom_at row slot) number) ≡ true
    by true now was = refl
    by false now was = both (atom_at row slot) now was

pub are_held_both : (fresh : Held) (number : ℕ) (old new : Held) → HoldsBoth fresh number old new → (slot : ℕ) (rows : List SignedRow) → AreHeld fresh number slot rows → AreHeld old number slot rows → AreHeld new number slot rows
are_held_both fresh number old new both slot [] now was = tt
are_held_both fresh number old new both slot (r ∷ rows) now was = (held_both fresh number old new both slot r.row now.0 was.0, are_held_both fresh number old new both slot rows now.1 was.1)

abbrev slots_at : Option KeyedFile → List ℕ
slots_at o = option_map_or (λ (f : KeyedFile). f.slots.keys) o []

-- one file's atoms are others, and its slots are the same
pub slots_kept : (old new : List (ℕ × KeyedFile)) (number : ℕ) (file w : KeyedFile) → lookup (nat_eq number) old ≡ Some file → w.slots.keys ≡ file.slots.keys → ((q : ℕ) → lookup (nat_eq q) new ≡ cond (nat_eq number q) (Some w) (lookup (nat_eq q) old)) → HaveKept old new
slots_kept old new number file w at same is n = elim (cases_eq n number) as (λ _. slots_in new n ≡ slots_in old n) [
  | inl here ↦ ap slots_at (is n ∙ ap (λ b. cond b (Some w) (lookup (nat_eq n) old)) (eq-eqb number n (sym here))) ∙ same ∙ sym (ap slots_at (subst (λ m. lookup (nat_eq m) old ≡ Some file) (sym here) at))
  | inr differs ↦ ap slots_at (is n ∙ ap (λ b. cond b (Some w) (lookup (nat_eq n) old)) (ne_eqb number n (λ e. differs (sym e))))
]

-- the rows at places
pub row_at_place : (rows : List SignedRow) (place : ℕ) (row : Row) → slice_get (map (λ (r : SignedRow). r.row) rows) place ≡ Some row → (r : SignedRow) → slice_get rows place ≡ Some r → r.row ≡ row
row_at_place [] place row e r at = absurd (none place at)
  where
    no_rows : List SignedRow
    no_rows = []

    none : (i : ℕ) → slice_get no_rows i ≡ Some r → ⊥
    none zero at = cc
    none (suc i) at = cc
row_at_place (x ∷ xs) zero row e r at = let a : ◌≡◌ {A = Option Row} (Some r.row) (Some row) = sym (ap (option_map (λ (s : SignedRow). s.row)) at) ∙ e in cc
row_at_place (x ∷ xs) (suc i) row e r at = row_at_place xs i row e r at

abbrev kept : Option SignedRow → List SignedRow → List SignedRow
kept (Some r) rest = r ∷ rest
kept None rest = rest

pub held_at : (P : SignedRow → Type 0) (rows : List SignedRow) (places : List ℕ) → AllByRecursion (λ place. (r : SignedRow) → slice_get rows place ≡ Some r → P r) places → AllByRecursion P (signed_at places rows)
held_at P rows [] a = tt
held_at P rows (place ∷ places) a = by (slice_get rows place) refl (held_at P rows places a.1)
  where
    by : (o : Option SignedRow) → slice_get rows place ≡ o → AllByRecursion P (signed_at places rows) → AllByRecursion P (signed_at (place ∷ places) rows)
    by (Some r) e rest = subst (λ o. AllByRecursion P (kept o (signed_at places rows))) (sym e) (a.0 r e, rest)
    by None e rest = subst (λ o. AllByRecursion P (kept o (signed_at places rows))) (sym e) rest

-- what holds of the rows up to a number and of those above it
pub all_parts : (P : SignedRow → Type 0) (n : ℕ) (rows : List SignedRow) → AllByRecursion P (up_to n rows) → AllByRecursion P (since n rows) → AllByRecursion P rows
all_parts P n [] a b = tt
all_parts P n (r ∷ rows) a b = elim (cases_lt n r.number) as (λ _. AllByRecursion P (r ∷ rows)) [
  | inl above ↦
      let first : AllByRecursion P (up_to n rows) = subst (λ t. AllByRecursion P (cond t (r ∷ up_to n rows) (up_to n rows))) (lt-leb r.number n above) a in
      let last : AllByRecursion P (r ∷ since n rows) = subst (λ t. AllByRecursion P (cond t (r ∷ since n rows) (since n rows))) (lt-ltb n r.number above) b in
      (last.0, all_parts P n rows first last.1)
  | inr low ↦
      let first : AllByRecursion P (r ∷ up_to n rows) = subst (λ t. AllByRecursion P (cond t (r ∷ up_to n rows) (up_to n rows))) (le-leb r.number n low) a in
      let last : AllByRecursion P (since n rows) = subst (λ t. AllByRecursion P (cond t (r ∷ since n rows) (since n rows))) (le-ltb n r.number low) b in
      (first.0, all_parts P n rows first.1 last)
]

-- what is left at the base are the rows of the base
module _ (test : Row → Bool) (base : ℕ) where
  abbrev Passes : List SignedRow → Type 0
  Passes rows = AllByRecursion (λ r. test r.row ≡ true) rows

  abbrev fails : Row → ℕ
  fails row = cond (test row) 0 1

  no_fails : (rows : List SignedRow) → Passes rows → total_by fails (rows_of rows) ≡ 0
  no_fails [] a = refl
  no_fails (r ∷ rows) a = λ i. cond (a.0 i) 0 1 + no_fails rows a.1 i

  passed : (row : Row) → fails row ≡ 0 → test row ≡ true
  passed row e = by (test row) e
    where
      by : (b : Bool) → ◌≡◌ {A = ℕ} (cond b 0 1) 0 → b ≡ true
      by true e = refl
      by false e = absurd (omega arith)

  -- a row of the base came in
  came_in : (r : SignedRow) → IsBased base r → r.number ≤ base → r.plus ≡ true
  came_in r based low = elim based as (λ _. r.plus ≡ true) [ inl above ↦ absurd (omega arith) | inr p ↦ p.1 ]

  pub no_losses : (rows : List SignedRow) → AllByRecursion (IsBased base) rows → losses (up_to base rows) ≡ []
  no_losses [] a = refl
  no_losses (r ∷ rows) a = elim (cases_lt base r.number) as (λ _. losses (up_to base (r ∷ rows)) ≡ []) [
    | inl above ↦ (λ i. rows_of (filter (λ s. not s.plus) (cond (lt-leb r.number base above i) (r ∷ up_to base rows) (up_to base rows)))) ∙ no_losses rows a.1
    | inr low ↦
        (λ i. rows_of (filter (λ s. not s.plus) (cond (le-leb r.number base low i) (r ∷ up_to base rows) (up_to base rows))))
        ∙ (λ i. rows_of (cond (not (came_in r a.0 low i)) (r ∷ filter (λ s. not s.plus) (up_to base rows)) (filter (λ s. not s.plus) (up_to base rows))))
        ∙ no_losses rows a.1
  ]

  pub sound_base : (rows : List SignedRow) → AllByRecursion (IsBased base) rows → IsSoundAt base rows
  sound_base rows a f = subst (λ ls. total_by f ls ≤ total_by f (gains (up_to base rows))) (sym (no_losses rows a)) (omega arith)

  whole : (rows : List SignedRow) → AllByRecursion (IsBased base) rows → total_by fails (gains (up_to base rows)) ≡ 0 → Passes (since base rows) → Passes rows
  whole [] a none later = tt
  whole (r ∷ rows) a none later = elim (cases_lt base r.number) as (λ _. Passes (r ∷ rows)) [
    | inl above ↦
        let rest : total_by fails (gains (up_to base rows)) ≡ 0 = (λ i. total_by fails (gains (cond (sym (lt-leb r.number base above) i) (r ∷ up_to base rows) (up_to base rows)))) ∙ none in
        let more : Passes (r ∷ since base rows) = subst (λ b. Passes (cond b (r ∷ since base rows) (since base rows))) (lt-ltb base r.number above) later in
        (more.0, whole rows a.1 rest more.1)
    | inr low ↦
        let sum : fails r.row + total_by fails (gains (up_to base rows)) ≡ 0 =
        (λ i. total_by fails (rows_of (cond (sym (came_in r a.0 low) i) (r ∷ filter (λ s. s.plus) (up_to base rows)) (filter (λ s. s.plus) (up_to base rows)))))
        ∙ (λ i. total_by fails (gains (cond (sym (le-leb r.number base low) i) (r ∷ up_to base rows) (up_to base rows)))) ∙ none in
        let same : Passes (since base rows) = subst (λ b. Passes (cond b (r ∷ since base rows) (since base rows))) (le-ltb base r.number low) later in
        let here : fails r.row ≡ 0 = omega arith in
        let rest : total_by fails (gains (up_to base rows)) ≡ 0 = omega arith in
        (passed r.row here, whole rows a.1 rest same)
  ]

  no_fails_in : (rows : List SignedRow) → total_by fails (rows_of rows) ≡ 0 → Passes rows
  no_fails_in [] e = tt
  no_fails_in (r ∷ rows) e =
      let here : fails r.row ≡ 0 = omega arith in
      let rest : total_by fails (rows_of rows) ≡ 0 = omega arith in
      (passed r.row here, no_fails_in rows rest)

  -- and so do rows that are left of rows that pass
  pub passes_left : (n : ℕ) (old new : List SignedRow) → IsContent n old (rows_of new) → Passes old → Passes new
  passes_left n old new content a =
      let came : total_by fails (gains (up_to n old)) ≡ 0 = no_fails (filter (λ r. r.plus) (up_to n old)) (all_part (λ r. test r.row ≡ true) (λ r. r.plus) (up_to n old) (all_part (λ r. test r.row ≡ true) (λ r. nat_le r.number n) old a)) in
      let all : total_by fails (rows_of new) + total_by fails (losses (up_to n old)) ≡ 0 = sym (total_by-append fails (rows_of new) (losses (up_to n old))) ∙ content fails ∙ came in
      no_fails_in new (omega arith)

  pub passes_all : (rows : List SignedRow) → IsFile base rows → (places : List ℕ) → IsContent base rows (rows_at places rows) → Passes (signed_at places rows) → Passes (since base rows) → Passes rows
  passes_all rows file places content first later =
      let all : rows_at places rows ++ [] ≡ rows_at places rows = nothing (rows_at places rows) in
      whole rows file.based
      (sym (content fails) ∙ ap (λ ls. total_by fails (rows_at places rows ++ ls)) (no_losses rows file.based) ∙ ap (total_by fails) all ∙ no_fails (signed_at places rows) first)
      later
    where
      nothing : (xs : List Row) → xs ++ [] ≡ xs
      nothing [] = refl
      nothing (x ∷ xs) = ap (λ ys. x ∷ ys) (nothing xs)
