-- Files without the rows of later changes, one after the other, and what is seen of them.
use Rattle.std.proofs.Common.{◌≡◌, ℕ, zero, suc, ◌<◌, ◌≤◌, true, false, cond, List, [], ◌∷◌, map, length, Some, None, Option, nat_eq, ◌+◌, refl, sym, ap, ◌∙◌, arith, add-one}
use Rattle.std.specs.Prelude.{slice_get}
use Rattle.indexmap.specs.IndexMap.{IndexMap, with_entries, with_value_at}
use Rattle.std.specs.Option.{option_map}
use Rattle.std.specs.Map.{lookup}
use Rattle.ncq_plan.specs.declared.expr.Expr.{Expr}
use Rattle.ncq_readers.specs.ReaderTables.{ReaderTables}
use Rattle.ncq_shelf.specs.Wired.{IsShelved}
use Rattle.ncq_shelf.specs.Shown.{cut_file, cut_entry}
use Rattle.ncq_shelf.specs.declared.file.File.{File}
use Rattle.ncq_shelf.proofs.Maps.{one_value, there}
use Rattle.ncq_shelf.proofs.SameFiles.{HasSame, HaveSame, shelved_same, grouped_same}
use Rattle.ncq_shelf.specs.Groups.{Groups, IsGrouped, group_of}
use Rattle.ncq_shelf.specs.Shown.{cut_own}
use Rattle.ncq_shelf.specs.declared.rows.Rows.{Rows}
use Rattle.ncq_shelf.specs.declared.rows.Rows.TheVariants.{Whole, Ranged}

module _ (gs : Groups) where
  -- the entries with another value at a place
  abbrev pub put_at : List (ℕ × File) → ℕ → File → List (ℕ × File)
  put_at [] i file = []
  put_at (e ∷ es) zero file = (e.0, file) ∷ es
  put_at (e ∷ es) (suc i) file = e ∷ put_at es i file

  -- the first files are cut, the others are as before
  abbrev pub cut_front : ℕ → ℕ → List (ℕ × File) → List (ℕ × File)
  cut_front change zero es = es
  cut_front change (suc i) [] = []
  cut_front change (suc i) (e ∷ es) = cut_entry change e ∷ cut_front change i es

  -- what a write by place leaves
  pub written : {S : Type 0} (m : IndexMap ℕ File S) (es : List (ℕ × File)) (i : ℕ) (file : File) → (with_value_at (with_entries m es) i file).entries ≡ put_at es i file
  written m [] i file = refl
  written m (e ∷ es) zero file = refl
  written m (e ∷ es) (suc i) file = ap (λ xs. e ∷ xs) (written m es i file)

  some_below : (es : List (ℕ × File)) (i : ℕ) → i < length es → slice_get es i ≡ None → ⊥
  some_below [] i less none = omega arith
  some_below (e ∷ es) zero less none = there refl none
  some_below (e ∷ es) (suc i) less none = some_below es i (omega arith) none

  module _ (change : ℕ) where
    -- one file more is cut
    pub cut_step : (i : ℕ) (es : List (ℕ × File)) (number : ℕ) (file : File) → slice_get es i ≡ Some (number, file)
        → put_at (cut_front change i es) i (cut_file change file) ≡ cut_front change (suc i) es
    cut_step i [] number file at = absurd (there at (none i))
      where
        no_entries : List (ℕ × File)
        no_entries = []

        none : (i : ℕ) → slice_get no_entries i ≡ None
        none zero = refl
        none (suc i) = refl
    cut_step zero (e ∷ es) number file at = ap (λ (f : File). (e.0, cut_file change f) ∷ es) (ap (λ p. p.1) (one_value at refl))
    cut_step (suc i) (e ∷ es) number file at = ap (λ xs. cut_entry change e ∷ xs) (cut_step i es number file at)

    -- the next file is as before
    pub next_is : (i : ℕ) (es : List (ℕ × File)) → slice_get (cut_front change i es) i ≡ slice_get es i
    next_is zero es = refl
    next_is (suc i) [] = refl
    next_is (suc i) (e ∷ es) = next_is i es

    -- so the loop goes on
    pub cut_more : (i : ℕ) (start now new : List (ℕ × File)) → i < length start → now ≡ cut_front change i start
        → ((number : ℕ) (file : File) → slice_get now i ≡ Some (number, file) → new ≡ put_at now i (cut_file change file)) → new ≡ cut_front change (i + 1) start
    cut_more i start now new less is step = elim (slice_get start i) as (λ o. slice_get start i ≡ o → new ≡ cut_front change (i + 1) start) [
      | Some entry ↦ λ at.
          step entry.0 entry.1 (ap (λ es. slice_get es i) is ∙ next_is i start ∙ at) ∙ ap (λ es. put_at es i (cut_file change entry.1)) is ∙ cut_step i start entry.0 entry.1 at
          ∙ ap (λ n. cut_front change n start) (sym (add-one i))
      | None ↦ λ none. absurd (some_below start i less none)
    ] refl

    -- when all are cut
    pub whole_cut : (i : ℕ) (es : List (ℕ × File)) → length es ≤ i → cut_front change i es ≡ map (cut_entry change) es
    whole_cut zero [] h = refl
    whole_cut zero (e ∷ es) h = absurd (omega arith)
    whole_cut (suc i) [] h = refl
    whole_cut (suc i) (e ∷ es) h = ap (λ xs. cut_entry change e ∷ xs) (whole_cut i es (omega arith))

    pub cut_length : (i : ℕ) (es : List (ℕ × File)) → length (cut_front change i es) ≡ length es
    cut_length zero es = refl
    cut_length (suc i) [] = refl
    cut_length (suc i) (e ∷ es) = ap suc (cut_length i es)

    -- what is kept at a number after that
    pub lookup_cut : (n : ℕ) (es : List (ℕ × File)) → lookup (nat_eq n) (map (cut_entry change) es) ≡ option_map (cut_file change) (lookup (nat_eq n) es)
    lookup_cut n [] = refl
    lookup_cut n (e ∷ es) = ap (λ o. cond (nat_eq n e.0) (Some (cut_file change e.1)) o) (lookup_cut n es) ∙ mapped (nat_eq n e.0) e.1 (lookup (nat_eq n) es)
      where
        mapped : (b : _) (f : File) (o : Option File) → cond b (Some (cut_file change f)) (option_map (cut_file change) o) ≡ option_map (cut_file change) (cond b (Some f) o)
        mapped true f o = refl
        mapped false f o = refl

    group_cut : (rows : Rows) → group_of (cut_own change rows) ≡ group_of rows
    group_cut (Whole file) = refl
    group_cut (Ranged group base) = refl

    there_cut : (es : List (ℕ × File)) → HaveSame gs es (map (cut_entry change) es)
    there_cut es n file at = record { file = cut_file change file; at = lookup_cut n es ∙ ap (option_map (cut_file change)) at; expr = refl; inputs = refl; readers = refl; group = group_cut file.content }

    back_cut : (es : List (ℕ × File)) → HaveSame gs (map (cut_entry change) es) es
    back_cut es n file at = elim (lookup (nat_eq n) es) as (λ o. lookup (nat_eq n) es ≡ o → HasSame gs es n file) [
      | Some old ↦ λ before.
          let e : cut_file change old ≡ file = one_value (lookup_cut n es ∙ ap (option_map (cut_file change)) before) at in
          record { file = old; at = before; expr = ap (λ f. f.expr) e; inputs = ap (λ f. f.inputs) e; readers = ap (λ f. f.readers) e; group = sym (group_cut old.content) ∙ ap (λ (f : File). group_of f.content) e }
      | None ↦ λ none. absurd (there at (lookup_cut n es ∙ ap (option_map (cut_file change)) none))
    ] refl

    pub shelved_cut : (es : List (ℕ × File)) (numbers : List (Expr × ℕ)) (scans : List (List ℕ × ReaderTables)) → IsShelved gs es numbers scans → IsShelved gs (map (cut_entry change) es) numbers scans
    shelved_cut es numbers scans shelved = shelved_same gs es (map (cut_entry change) es) (there_cut es) (back_cut es) numbers scans shelved

    pub grouped_cut : (es : List (ℕ × File)) → IsGrouped es gs → IsGrouped (map (cut_entry change) es) gs
    grouped_cut es grouped = grouped_same gs es (map (cut_entry change) es) (there_cut es) (back_cut es) grouped
