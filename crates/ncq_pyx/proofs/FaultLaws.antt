-- The first fault of a block, found line by line, is the one that no continuation mends.
use Rattle.std.proofs.Common.{◌≡◌, inl, inr, ℕ, ◌+◌, ◌≤◌, true, false, List, [], ◌∷◌, ◌++◌, Some, None, Result, Ok, Err, if◌then◌else◌, subst, length, take, refl, ap, sym, ◌∙◌, append_assoc, append-nil, length-append, arith}
use Rattle.std.specs.Option.{option_map}
use Rattle.std.proofs.Math.Seq.{take-append_seam}
use Rattle.ncq_pyx.specs.declared.turns.Turn.{Turn}
use Rattle.ncq_pyx.specs.declared.item.Item.{Item}
use Rattle.ncq_pyx.specs.declared.error.PyxError.{PyxError}
use Rattle.ncq_pyx.specs.declared.error.PyxError.TheVariants.{BadLine, TooDeep, OutOfMemory}
use Rattle.ncq_pyx.specs.Spells.{Place, Rest, outside, nothing, turn, fits, moved, told, spell, spell_end, spelled, CanGoOn, IsFault, IsBadLine, IsTooDeep, Refusal, Reads, IsAnswer}
use Rattle.ncq_pyx.specs.Faults.{with_told, read_turn, read_end, read_from, items_of, block_of}
use Rattle.ncq_pyx.proofs.Steps.{spell_line, spell_none, spell_deep, map_map, fits_more, fits_deeper, moved_depth, closes}

-- these lines lead to this place, and say what the items are from what is to come there
abbrev IsAt : ℕ → List (List ℕ) → Place → (Rest → List Item) → Type 0
IsAt limit done place whole = (bound : ℕ) → limit ≤ bound → (lines : List (List ℕ)) → spelled bound (done ++ lines) ≡ option_map whole (spell bound lines place)

module _ (limit : ℕ) (done : List (List ℕ)) (place : Place) (whole : Rest → List Item) (at : IsAt limit done place whole) where
  good : CanGoOn limit done
  good = let c = closes limit place.open_names place.given in (c.0, (whole c.1, at limit (omega arith) c.0 ∙ ap (option_map whole) c.2))

  module _ (line : List ℕ) where
    one_more : (more : List (List ℕ)) → (done ++ line ∷ []) ++ more ≡ done ++ line ∷ more
    one_more more = append_assoc done (line ∷ []) more

    stuck : (bound : ℕ) → limit ≤ bound → ((more : List (List ℕ)) → spell bound (line ∷ more) place ≡ None) → CanGoOn bound (done ++ line ∷ []) → ⊥
    stuck bound le none block =
        let e : None ≡ Some block.1.0 = sym (ap (spelled bound) (one_more block.0) ∙ at bound le (line ∷ block.0) ∙ ap (option_map whole) (none block.0)) ∙ block.1.1 in
        (let w : ⊥ = cc in w)

    module _ (rest : List (List ℕ)) where
      front : take (length done) (done ++ line ∷ rest) ≡ done
      front = take-append_seam done (line ∷ rest)

      behind : take (length done + 1) (done ++ line ∷ rest) ≡ done ++ line ∷ []
      behind =
          let long : length done + 1 ≡ length (done ++ line ∷ []) = omega (arith, length-append done (line ∷ [])) in
          ap (λ (n : ℕ). take n (done ++ line ∷ rest)) long ∙ ap (take (length (done ++ line ∷ []))) (sym (one_more rest)) ∙ take-append_seam (done ++ line ∷ []) rest

      fault_here : ((more : List (List ℕ)) → spell limit (line ∷ more) place ≡ None) → IsFault limit (done ++ line ∷ rest) (length done + 1)
      fault_here none = record {
        before = length done;
        next = refl;
        good = subst (CanGoOn limit) (sym front) good;
        bad = inl (omega (arith, length-append done (line ∷ rest)), λ can. stuck limit (omega arith) none (subst (CanGoOn limit) behind can));
      }

      bad_here : turn place line ≡ None → IsBadLine limit (done ++ line ∷ rest) (length done + 1)
      bad_here e = record {
        fault = fault_here (λ more. spell_none limit more line place e);
        other = λ within can. stuck (limit + 1) (omega arith) (λ more. spell_none (limit + 1) more line place e) (subst (CanGoOn (limit + 1)) behind can);
      }

      deep_here : (found : Turn) → turn place line ≡ Some found → fits limit (length place.open_names) found ≡ false → length place.open_names ≤ limit → IsTooDeep limit (done ++ line ∷ rest) (length done + 1)
      deep_here found e f small =
          let place' = moved found place in
          let c = closes (limit + 1) place'.open_names place'.given in
          let fit = fits_deeper limit (limit + 1) (length place.open_names) found (omega arith) small in
          let can : CanGoOn (limit + 1) (done ++ line ∷ []) = (
            c.0,
            (
              whole (told found place c.1),
              ap (spelled (limit + 1)) (one_more c.0) ∙ at (limit + 1) (omega arith) (line ∷ c.0)
                  ∙ ap (option_map whole) (spell_line (limit + 1) c.0 line place found e fit ∙ ap (option_map (told found place)) c.2),
            ),
          ) in
          record {
            fault = fault_here (λ more. spell_deep limit more line place found e f);
            within = omega (arith, length-append done (line ∷ rest));
            deeper = subst (CanGoOn (limit + 1)) (sym behind) can;
          }

    -- a line that is good leads on
    leads : (found : Turn) → turn place line ≡ Some found → fits limit (length place.open_names) found ≡ true → IsAt limit (done ++ line ∷ []) (moved found place) (λ rest. whole (told found place rest))
    leads found e f = λ bound le lines.
        ap (spelled bound) (one_more lines) ∙ at bound le (line ∷ lines)
        ∙ ap (option_map whole) (spell_line bound lines line place found e (fits_more limit bound _ found le f))
        ∙ map_map (spell bound lines (moved found place)) whole (told found place) (λ rest. whole (told found place rest)) (λ rest. refl)

  -- lines that end inside an element
  ends_inside : (name : List ℕ) (names : List (List ℕ)) → place.open_names ≡ name ∷ names → IsBadLine limit (done ++ []) (length done + 1)
  ends_inside name names e =
      let same : done ++ [] ≡ done = append-nil done in
      let none : spelled limit (done ++ []) ≡ None = at limit (omega arith) [] ∙ ap (λ (ns : List (List ℕ)). option_map whole (spell_end ns)) e in
      record {
        fault = record {
          before = length done;
          next = refl;
          good = subst (CanGoOn limit) (sym (take-append_seam done [])) good;
          bad = inr (ap length (sym same), λ block. let w : None ≡ Some block.0 = sym none ∙ block.1 in (let v : ⊥ = cc in v));
        };
        other = λ within. absurd (let e : length (done ++ []) ≡ length done = ap length same in omega arith);
      }

told_error : (found : Turn) (place : Place) (r : Result Rest PyxError) (why : PyxError) → with_told found place r ≡ Err why → r ≡ Err why
told_error found place (Ok rest) why e = cc
told_error found place (Err w) why e = e

same_error : (a b : PyxError) → ◌≡◌ {A = Result Rest PyxError} (Err a) (Err b) → a ≡ b
same_error a b e = cc

faults : (limit : ℕ) (rest done : List (List ℕ)) (place : Place) (whole : Rest → List Item) → IsAt limit done place whole → length place.open_names ≤ limit → (number : ℕ) → number ≡ length done + 1
    → (why : PyxError) → read_from limit number rest place ≡ Err why → Refusal limit (done ++ rest) why
faults limit [] done place whole at small number count why e =
    elim place.open_names as (λ ns. place.open_names ≡ ns → read_end number ns ≡ Err why → Refusal limit (done ++ []) why) [
      | [] ↦ λ is e. cc
      | name ∷ names ↦ λ is e. subst (Refusal limit (done ++ [])) (same_error (BadLine number) why e) (subst (λ (n : ℕ). IsBadLine limit (done ++ []) n) (sym count) (ends_inside limit done place whole at name names is))
    ] refl e
faults limit (line ∷ rest) done place whole at small number count why e =
    elim (turn place line) as (λ t. turn place line ≡ t → read_turn limit number (λ p. read_from limit (number + 1) rest p) place t ≡ Err why → Refusal limit (done ++ line ∷ rest) why) [
      | None ↦ λ is e. subst (Refusal limit (done ++ line ∷ rest)) (same_error (BadLine number) why e) (subst (λ (n : ℕ). IsBadLine limit (done ++ line ∷ rest) n) (sym count) (bad_here limit done place whole at line rest is))
      | Some found ↦ λ is e.
          elim (fits limit (length place.open_names) found) as (λ b. fits limit (length place.open_names) found ≡ b
          → (if b then with_told found place (read_from limit (number + 1) rest (moved found place)) else Err (TooDeep number)) ≡ Err why → Refusal limit (done ++ line ∷ rest) why) [
            | true ↦ λ fit e.
                subst (λ (all : List (List ℕ)). Refusal limit all why) (one_more limit done place whole at line rest)
                (faults limit rest (done ++ line ∷ []) (moved found place) (λ r. whole (told found place r)) (leads limit done place whole at line found is fit) (moved_depth limit place found fit small)
                (number + 1) (omega (arith, count, length-append done (line ∷ []))) why (told_error found place _ why e))
            | false ↦ λ fit e.
                subst (Refusal limit (done ++ line ∷ rest)) (same_error (TooDeep number) why e) (subst (λ (n : ℕ). IsTooDeep limit (done ++ line ∷ rest) n) (sym count) (deep_here limit done place whole at line rest found is fit small))
          ] refl e
    ] refl e

-- what is read is spelled
told_ok : (found : Turn) (place : Place) (r : Result Rest PyxError) (all : Rest) → with_told found place r ≡ Ok all → (rest : Rest) × (r ≡ Ok rest) × (told found place rest ≡ all)
told_ok found place (Ok rest) all e = (rest, refl, cc)
told_ok found place (Err w) all e = cc

same_rest : (a b : Rest) → ◌≡◌ {A = Result Rest PyxError} (Ok a) (Ok b) → a ≡ b
same_rest a b e = cc

read_is_spelled : (limit number : ℕ) (lines : List (List ℕ)) (place : Place) (all : Rest) → read_from limit number lines place ≡ Ok all → spell limit lines place ≡ Some all
read_is_spelled limit number [] place all e =
    elim place.open_names as (λ ns. read_end number ns ≡ Ok all → spell_end ns ≡ Some all) [
      | [] ↦ λ e. ap Some (same_rest nothing all e)
      | name ∷ names ↦ λ e. cc
    ] e
read_is_spelled limit number (line ∷ lines) place all e =
    elim (turn place line) as (λ t. turn place line ≡ t → read_turn limit number (λ p. read_from limit (number + 1) lines p) place t ≡ Ok all → spell limit (line ∷ lines) place ≡ Some all) [
      | None ↦ λ is e. cc
      | Some found ↦ λ is e.
          elim (fits limit (length place.open_names) found) as (λ b. fits limit (length place.open_names) found ≡ b
          → (if b then with_told found place (read_from limit (number + 1) lines (moved found place)) else Err (TooDeep number)) ≡ Ok all → spell limit (line ∷ lines) place ≡ Some all) [
            | true ↦ λ fit e.
                let t = told_ok found place _ all e in
                spell_line limit lines line place found is fit ∙ ap (option_map (told found place)) (read_is_spelled limit (number + 1) lines (moved found place) t.0 t.1) ∙ ap Some t.2
            | false ↦ λ fit e. cc
          ] refl e
    ] refl e

-- an answer that memory ran out is none of these
not_memory : (limit number : ℕ) (lines : List (List ℕ)) (place : Place) → read_from limit number lines place ≡ Err OutOfMemory → ⊥
not_memory limit number [] place e =
    elim place.open_names as (λ ns. read_end number ns ≡ Err OutOfMemory → ⊥) [ [] ↦ λ e. (let w : ⊥ = cc in w) | name ∷ names ↦ λ e. (let w : ⊥ = cc in w) ] e
not_memory limit number (line ∷ lines) place e =
    elim (turn place line) as (λ t. read_turn limit number (λ p. read_from limit (number + 1) lines p) place t ≡ Err OutOfMemory → ⊥) [
      | None ↦ λ e. (let w : ⊥ = cc in w)
      | Some found ↦ λ e.
          elim (fits limit (length place.open_names) found) as (λ b. (if b then with_told found place (read_from limit (number + 1) lines (moved found place)) else Err (TooDeep number)) ≡ Err OutOfMemory → ⊥) [
            | true ↦ λ e. not_memory limit (number + 1) lines (moved found place) (told_error found place _ OutOfMemory e)
            | false ↦ λ e. (let w : ⊥ = cc in w)
          ] e
    ] e

answered : (limit : ℕ) (lines : List (List ℕ)) (r : Result Rest PyxError) → read_from limit 1 lines outside ≡ r → Reads limit lines (items_of r) × IsAnswer (items_of r)
answered limit lines (Ok rest) e = (ap (option_map (λ (rest : Rest). rest.items)) (read_is_spelled limit 1 lines outside rest e), tt)
answered limit lines (Err (BadLine n)) e = (faults limit lines [] outside (λ (rest : Rest). rest.items) (λ bound le lines. refl) (omega arith) 1 refl (BadLine n) e, tt)
answered limit lines (Err (TooDeep n)) e = (faults limit lines [] outside (λ (rest : Rest). rest.items) (λ bound le lines. refl) (omega arith) 1 refl (TooDeep n) e, tt)
answered limit lines (Err OutOfMemory) e = absurd (not_memory limit 1 lines outside e)

-- the function is the answer to be given
pub block_reads : (limit : ℕ) (lines : List (List ℕ)) → Reads limit lines (block_of limit lines) × IsAnswer (block_of limit lines)
block_reads limit lines = answered limit lines (read_from limit 1 lines outside) refl
