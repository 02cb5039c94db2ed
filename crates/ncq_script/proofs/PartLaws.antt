-- Blocks of lines that may stand in a section: none of their lines begins with `@`, and what they spell within a limit they spell within any higher one.
use Rattle.std.proofs.Common.{◌≡◌, ℕ, ◌≤◌, true, false, List, [], ◌∷◌, ◌++◌, length, Option, Some, None, refl, sym, ap, ◌∙◌, subst, arith}
use Rattle.std.specs.Prelude.{◌==◌, Ok, Err, if◌then◌else◌}
use Rattle.std.specs.List.{AllByRecursion}
use Rattle.std.specs.Option.{option_map}
use Rattle.std.proofs.lemmas.Bool.{eqb-true}
use Rattle.ncq_tree.specs.declared.model.Attribute.{Attribute}
use Rattle.ncq_pyx.specs.Faults.{block_of}
use Rattle.ncq_pyx.specs.LineKinds.{turn_at}
use Rattle.ncq_pyx.specs.Spells.{IsAnswer, IsBlock, Place, Reads, Refusal, Rest, Spells, fits, moved, outside, spell, spell_turn, told, turn}
use Rattle.ncq_pyx.specs.declared.error.PyxError.{PyxError}
use Rattle.ncq_pyx.specs.declared.error.PyxError.TheVariants.{OutOfMemory}
use Rattle.ncq_pyx.specs.declared.item.Item.{Item}
use Rattle.ncq_pyx.proofs.Exactly.{one_answer}
use Rattle.ncq_pyx.proofs.FaultLaws.{block_reads}
use Rattle.ncq_pyx.proofs.Steps.{fits_more, spell_line}
use Rattle.ncq_script.specs.SpellsBatch.{IsIdle, is_header}
use Rattle.ncq_script.proofs.GroupLaws.{Plain}

-- what is spelled is read
pub block_ok : (limit : ℕ) (lines : List (List ℕ)) (items : List Item) → Spells limit lines items → block_of limit lines ≡ Ok items
block_ok limit lines items spells = let law = block_reads limit lines in sym (one_answer limit lines (Ok items) (block_of limit lines) spells law.0 law.1)

pub block_spells : (limit : ℕ) (lines : List (List ℕ)) (items : List Item) → block_of limit lines ≡ Ok items → Spells limit lines items
block_spells limit lines items is = subst (Reads limit lines) is (block_reads limit lines).0

pub block_refused : (limit : ℕ) (lines : List (List ℕ)) (why : PyxError) → block_of limit lines ≡ Err why → Refusal limit lines why
block_refused limit lines why is = subst (Reads limit lines) is (block_reads limit lines).0

pub never_memory : (limit : ℕ) (lines : List (List ℕ)) → block_of limit lines ≡ Err OutOfMemory → ⊥
never_memory limit lines is = subst IsAnswer is (block_reads limit lines).1

-- one line of what is spelled
record Step (limit : ℕ) (line : List ℕ) (lines : List (List ℕ)) (place : Place) (all : Rest) : Type 0 where
  found : _
  is : turn place line ≡ Some found
  fit : fits limit (length place.open_names) found ≡ true
  rest : Rest
  goes : spell limit lines (moved found place) ≡ Some rest
  gives : told found place rest ≡ all

map_some : {A B : Type 0} (f : A → B) (o : Option A) (b : B) → option_map f o ≡ Some b → (a : A) × (o ≡ Some a) × (f a ≡ b)
map_some f None b e = absurd (let w : ⊥ = cc in w)
map_some f (Some a) b e = (a, refl, cc)

step_of : (limit : ℕ) (line : List ℕ) (lines : List (List ℕ)) (place : Place) (all : Rest) → spell limit (line ∷ lines) place ≡ Some all → Step limit line lines place all
step_of limit line lines place all e =
    elim (turn place line) as (λ t. turn place line ≡ t → spell_turn limit (λ p. spell limit lines p) place t ≡ Some all → Step limit line lines place all) [
      | None ↦ λ is e. absurd (let w : ⊥ = cc in w)
      | Some found ↦ λ is e.
          elim (fits limit (length place.open_names) found) as (λ b. fits limit (length place.open_names) found ≡ b
          → (if b then option_map (told found place) (spell limit lines (moved found place)) else None) ≡ Some all → Step limit line lines place all) [
            | true ↦ λ fit e.
                let m = map_some (told found place) (spell limit lines (moved found place)) all e in
                record { found = found; is = is; fit = fit; rest = m.0; goes = m.1; gives = m.2 }
            | false ↦ λ fit e. absurd (let w : ⊥ = cc in w)
          ] refl e
    ] refl e

-- and back
step_goes : (bound : ℕ) (line : List ℕ) (lines : List (List ℕ)) (place : Place) (all : Rest) (found : _) (rest : Rest) → turn place line ≡ Some found → fits bound (length place.open_names) found ≡ true → spell bound lines (moved found place) ≡ Some rest
    → told found place rest ≡ all → spell bound (line ∷ lines) place ≡ Some all
step_goes bound line lines place all found rest is fit goes gives = spell_line bound lines line place found is fit ∙ ap (option_map (told found place)) goes ∙ ap Some gives

-- no line that begins with `@` has a turn
plain_line : (innermost : Option (List ℕ)) (given : Option (List Attribute)) (line : List ℕ) (found : _) → turn_at innermost given line ≡ Some found → is_header line ≡ false
plain_line innermost given [] found is = refl
plain_line innermost given (b ∷ text) found is =
    elim (b == 64) as (λ t. (b == 64) ≡ t → t ≡ false) [
      | true ↦ λ same. let e : None ≡ Some found = sym (ap (λ n. turn_at innermost given (n ∷ text)) (eqb-true b 64 same)) ∙ is in absurd (let w : ⊥ = cc in w)
      | false ↦ λ other. refl
    ] refl

spell_plain : (limit : ℕ) (lines : List (List ℕ)) (place : Place) (all : Rest) → spell limit lines place ≡ Some all → AllByRecursion Plain lines
spell_plain limit [] place all e = tt
spell_plain limit (line ∷ lines) place all e =
    let s = step_of limit line lines place all e in
    (plain_line _ _ line s.found s.is, spell_plain limit lines (moved s.found place) s.rest s.goes)

pub spells_plain : (limit : ℕ) (lines : List (List ℕ)) (items : List Item) → Spells limit lines items → AllByRecursion Plain lines
spells_plain limit lines items spells = let m = map_some (λ (rest : Rest). rest.items) (spell limit lines outside) items spells in spell_plain limit lines outside m.0 m.1

spell_more : (limit bound : ℕ) → limit ≤ bound → (lines : List (List ℕ)) (place : Place) (all : Rest) → spell limit lines place ≡ Some all → spell bound lines place ≡ Some all
spell_more limit bound le [] place all e = e
spell_more limit bound le (line ∷ lines) place all e =
    let s = step_of limit line lines place all e in
    step_goes bound line lines place all s.found s.rest s.is (fits_more limit bound _ s.found le s.fit) (spell_more limit bound le lines (moved s.found place) s.rest s.goes) s.gives

pub spells_more : (limit bound : ℕ) → limit ≤ bound → (lines : List (List ℕ)) (items : List Item) → Spells limit lines items → Spells bound lines items
spells_more limit bound le lines items spells =
    let m = map_some (λ (rest : Rest). rest.items) (spell limit lines outside) items spells in
    ap (option_map (λ (rest : Rest). rest.items)) (spell_more limit bound le lines outside m.0 m.1) ∙ ap Some m.2

-- what goes on within a limit is spelled within it, if within any
spell_within : (limit bound : ℕ) (lines more : List (List ℕ)) (place : Place) (longer all : Rest) → spell limit (lines ++ more) place ≡ Some longer → spell bound lines place ≡ Some all → spell limit lines place ≡ Some all
spell_within limit bound [] more place longer all goes e = e
spell_within limit bound (line ∷ lines) more place longer all goes e =
    let s = step_of bound line lines place all e in
    let l = step_of limit line (lines ++ more) place longer goes in
    let same : l.found ≡ s.found = let both : Some l.found ≡ Some s.found = sym l.is ∙ s.is in cc in
    let fit : fits limit (length place.open_names) s.found ≡ true = ap (fits limit (length place.open_names)) (sym same) ∙ l.fit in
    let on : spell limit (lines ++ more) (moved s.found place) ≡ Some l.rest = ap (λ found. spell limit (lines ++ more) (moved found place)) (sym same) ∙ l.goes in
    step_goes limit line lines place all s.found s.rest s.is fit (spell_within limit bound lines more (moved s.found place) l.rest s.rest on s.goes) s.gives

pub block_within : (limit bound : ℕ) (lines more : List (List ℕ)) → IsBlock limit (lines ++ more) → IsBlock bound lines → IsBlock limit lines
block_within limit bound lines more longer block =
    let m = map_some (λ (rest : Rest). rest.items) (spell bound lines outside) block.0 block.1 in
    let n = map_some (λ (rest : Rest). rest.items) (spell limit (lines ++ more) outside) longer.0 longer.1 in
    (block.0, ap (option_map (λ (rest : Rest). rest.items)) (spell_within limit bound lines more outside n.0 m.0 n.1 m.1) ∙ ap Some m.2)

-- a line that is skipped opens no element
idle_fits : (a b : ℕ) (found : _) (rest : Rest) → spell a [] (moved found outside) ≡ Some rest → fits b 0 found ≡ true
idle_fits a b found rest e = grind arith

pub idle_any : (a b : ℕ) (line : List ℕ) → IsIdle a line → IsIdle b line
idle_any a b line idle =
    let m = map_some (λ (rest : Rest). rest.items) (spell a (line ∷ []) outside) [] idle in
    let s = step_of a line [] outside m.0 m.1 in
    ap (option_map (λ (rest : Rest). rest.items)) (step_goes b line [] outside m.0 s.found s.rest s.is (idle_fits a b s.found s.rest s.goes) s.goes s.gives) ∙ ap Some m.2
