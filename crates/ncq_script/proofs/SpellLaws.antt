-- The sections that the lines of a block spell are those that are read of them.
use Rattle.std.proofs.Common.{◌≡◌, ℕ, ◌+◌, true, false, List, [], ◌∷◌, ◌++◌, length, Option, Some, None, refl, sym, ap, ◌∙◌, subst, arith, append_assoc, append-nil, length-append}
use Rattle.std.specs.Prelude.{Result, Ok, Err, if◌then◌else◌}
use Rattle.std.specs.List.{AllByRecursion, AllZip, flat_map}
use Rattle.std.proofs.lemmas.Bool.{eqb-true}
use Rattle.ncq_pyx.specs.Faults.{block_of}
use Rattle.ncq_pyx.specs.declared.error.PyxError.{PyxError}
use Rattle.ncq_pyx.specs.declared.error.PyxError.TheVariants.{BadLine, TooDeep, OutOfMemory}
use Rattle.ncq_pyx.specs.declared.item.Item.{Item}
use Rattle.ncq_source.specs.declared.change.Section.{Section}
use Rattle.ncq_script.specs.BatchReading.{StartsSection, behind, said_from}
use Rattle.ncq_script.specs.Batches.{Groups, batch_of, grouped_from, groups, idle_then, in_front, is_idle, name_in, one_word, says_nothing, section_then, sections_from}
use Rattle.ncq_script.specs.SpellsBatch.{Headed, IsIdle, Names, SpellsBatch, SpellsSection, is_header, lines_of}
use Rattle.ncq_script.specs.Words.{words}
use Rattle.ncq_script.proofs.BatchLaws.{Said, behind_all, idle_one}
use Rattle.ncq_script.proofs.GroupLaws.{Plain, groups-header, groups-plain, starts_front}
use Rattle.ncq_script.proofs.PartLaws.{block_ok, block_spells, spells_plain}

-- the first line of a section
pub named : (line name : List ℕ) → Names line name → name_in line ≡ Some name
named line name names = ap name_in names.begins ∙ ap one_word names.one

pub named_header : (line name : List ℕ) → Names line name → is_header line ≡ true
named_header line name names = ap is_header names.begins

one_word_only : (found : List (List ℕ)) (name : List ℕ) → one_word found ≡ Some name → found ≡ name ∷ []
one_word_only [] name e = absurd (let w : ⊥ = cc in w)
one_word_only (word ∷ []) name e = cc
one_word_only (word ∷ next ∷ more) name e = absurd (let w : ⊥ = cc in w)

pub names : (line name : List ℕ) → is_header line ≡ true → name_in line ≡ Some name → Names line name
names [] name header e = absurd (let w : ⊥ = cc in w)
names (b ∷ text) name header e = record { text = text; begins = ap (λ n. n ∷ text) (eqb-true b 64 header); one = one_word_only (words text) name e }

nothing_said : (said : Result (List Item) PyxError) → says_nothing said ≡ true → said ≡ Ok []
nothing_said (Ok []) e = refl
nothing_said (Ok (item ∷ items)) e = absurd (let w : ⊥ = cc in w)
nothing_said (Err why) e = absurd (let w : ⊥ = cc in w)

-- a part of a block: a line that begins a section, and lines that begin none
pub record IsPart (part : Headed) : Type 0 where
  pub header : is_header part.head ≡ true
  pub own : AllByRecursion Plain part.body

-- how the lines of a block are grouped
pub record AreGrouped (lines : List (List ℕ)) (g : Groups) : Type 0 where
  pub split : lines ≡ g.front ++ flat_map lines_of g.sections
  pub plain : AllByRecursion Plain g.front
  pub parts : AllByRecursion IsPart g.sections

pub grouped : (lines : List (List ℕ)) → AreGrouped lines (groups lines)
grouped [] = record { split = refl; plain = tt; parts = tt }
grouped (line ∷ lines) =
    let more = grouped lines in
    let g = groups lines in
    elim (is_header line) as (λ t. is_header line ≡ t
    → AreGrouped (line ∷ lines) (if t then record { front = []; sections = record { head = line; body = g.front } ∷ g.sections } else record { front = line ∷ g.front; sections = g.sections })) [
      | true ↦ λ header. record { split = ap (λ (ls : List (List ℕ)). line ∷ ls) more.split; plain = tt; parts = (record { header = header; own = more.plain }, more.parts) }
      | false ↦ λ other. record { split = ap (λ (ls : List (List ℕ)). line ∷ ls) more.split; plain = (other, more.plain); parts = more.parts }
    ] refl

no_sections : (name : List ℕ) (number : ℕ) (why : PyxError) (rest : Said) (sections : List Section) → section_then (Some name) number (Err why) rest ≡ Ok sections → ⊥
no_sections name number (BadLine n) rest sections e = let w : ⊥ = cc in w
no_sections name number (TooDeep n) rest sections e = let w : ⊥ = cc in w
no_sections name number OutOfMemory rest sections e = let w : ⊥ = cc in w

module _ (limit : ℕ) where
  pub idle_yes : (line : List ℕ) → IsIdle limit line → is_idle limit line ≡ true
  idle_yes line idle = ap says_nothing (block_ok limit (line ∷ []) [] idle)

  pub yes_idle : (line : List ℕ) → is_idle limit line ≡ true → IsIdle limit line
  yes_idle line says = block_spells limit (line ∷ []) [] (nothing_said (block_of limit (line ∷ [])) says)

  pub idle_plain : (front : List (List ℕ)) → AllByRecursion (IsIdle limit) front → AllByRecursion Plain front
  idle_plain [] idle = tt
  idle_plain (line ∷ front) idle = ((spells_plain limit (line ∷ []) [] idle.0).0, idle_plain front idle.1)

  -- skipped lines in front of others
  pub idle_front : (front more : List (List ℕ)) (number : ℕ) (rest : Said) → AllByRecursion (IsIdle limit) front → idle_then limit number (front ++ more) rest ≡ idle_then limit (number + length front) more rest
  idle_front [] more number rest idle = let same : number ≡ number + 0 = omega arith in ap (λ n. idle_then limit n more rest) same
  idle_front (line ∷ front) more number rest idle =
      let same : number + 1 + length front ≡ number + length (line ∷ front) = omega arith in
      idle_one limit number line (front ++ more) rest (idle_yes line idle.0) ∙ idle_front front more (number + 1) rest idle.1 ∙ ap (λ n. idle_then limit n more rest) same

  pub idle_all : (front : List (List ℕ)) (number : ℕ) (rest : Said) → AllByRecursion (IsIdle limit) front → idle_then limit number front rest ≡ rest
  idle_all front number rest idle = ap (λ (lines : List (List ℕ)). idle_then limit number lines rest) (sym (append-nil front)) ∙ idle_front front [] number rest idle

  groups-parts : (parts : List Headed) (sections : List Section) (left : List (List ℕ)) → AllZip (SpellsSection limit) parts sections → StartsSection left → groups (flat_map lines_of parts ++ left) ≡ record { front = []; sections = parts ++ (groups left).sections }
  groups-parts [] [] left all starts = ap (λ (front : List (List ℕ)). record { front = front; sections = (groups left).sections }) (starts_front left starts)
  groups-parts [] (section ∷ sections) left all starts = absurd all
  groups-parts (part ∷ parts) [] left all starts = absurd all
  groups-parts (part ∷ parts) (section ∷ sections) left all starts =
      let inner : groups ((part.body ++ flat_map lines_of parts) ++ left) ≡ record { front = part.body; sections = parts ++ (groups left).sections } =
      ap groups (append_assoc part.body (flat_map lines_of parts) left)
      ∙ groups-plain part.body (flat_map lines_of parts ++ left) all.0.own
      ∙ ap (λ (g : Groups). record { front = part.body ++ g.front; sections = g.sections }) (groups-parts parts sections left all.1 starts)
      ∙ ap (λ (front : List (List ℕ)). record { front = front; sections = parts ++ (groups left).sections }) (append-nil part.body) in
      groups-header part.head ((part.body ++ flat_map lines_of parts) ++ left) (named_header part.head section.source all.0.source)
      ∙ ap (λ (g : Groups). record { front = []; sections = record { head = part.head; body = g.front } ∷ g.sections }) inner

  parts_said : (parts : List Headed) (sections : List Section) (more : List Headed) (number : ℕ) → AllZip (SpellsSection limit) parts sections
      → sections_from limit number (parts ++ more) ≡ behind sections (sections_from limit (number + length (flat_map lines_of parts)) more)
  parts_said [] [] more number all = let same : number ≡ number + 0 = omega arith in ap (λ n. sections_from limit n more) same
  parts_said [] (section ∷ sections) more number all = absurd all
  parts_said (part ∷ parts) [] more number all = absurd all
  parts_said (part ∷ parts) (section ∷ sections) more number all =
      let rest = sections_from limit (number + 1 + length part.body) (parts ++ more) in
      let same : number + 1 + length part.body + length (flat_map lines_of parts) ≡ number + length (lines_of part ++ flat_map lines_of parts) = omega (arith, length-append part.body (flat_map lines_of parts)) in
      ap (λ (name : Option (List ℕ)). section_then name number (block_of limit part.body) rest) (named part.head section.source all.0.source)
      ∙ ap (λ (said : Result (List Item) PyxError). section_then (Some section.source) number said rest) (block_ok limit part.body section.items all.0.items)
      ∙ ap (in_front section) (parts_said parts sections more (number + 1 + length part.body) all.1 ∙ ap (λ n. behind sections (sections_from limit n more)) same)

  -- lines that spell sections, in front of others with which a section begins
  pub spelled_then : (lines left : List (List ℕ)) (sections : List Section) → SpellsBatch limit lines sections → StartsSection left → batch_of limit (lines ++ left) ≡ behind sections (said_from limit (1 + length lines) left)
  spelled_then lines left sections s starts =
      let flat = flat_map lines_of s.parts in
      let whole : groups (lines ++ left) ≡ record { front = s.front; sections = s.parts ++ (groups left).sections } =
      ap (λ (ls : List (List ℕ)). groups (ls ++ left)) s.split
      ∙ ap groups (append_assoc s.front flat left)
      ∙ groups-plain s.front (flat ++ left) (idle_plain s.front s.idle)
      ∙ ap (λ (g : Groups). record { front = s.front ++ g.front; sections = g.sections }) (groups-parts s.parts sections left s.spelled starts)
      ∙ ap (λ (front : List (List ℕ)). record { front = front; sections = s.parts ++ (groups left).sections }) (append-nil s.front) in
      let same : 1 + length s.front + length flat ≡ 1 + length lines = omega (arith, ap length s.split, length-append s.front flat) in
      ap (grouped_from limit 1) whole
      ∙ idle_all s.front 1 (sections_from limit (1 + length s.front) (s.parts ++ (groups left).sections)) s.idle
      ∙ parts_said s.parts sections (groups left).sections (1 + length s.front) s.spelled
      ∙ ap (λ n. behind sections (sections_from limit n (groups left).sections)) same

  pub spelled_is_read : (lines : List (List ℕ)) (sections : List Section) → SpellsBatch limit lines sections → batch_of limit lines ≡ Ok sections
  spelled_is_read lines sections s = ap (batch_of limit) (sym (append-nil lines)) ∙ spelled_then lines [] sections s tt ∙ behind_all sections

  -- and back
  all_idle : (front : List (List ℕ)) (number : ℕ) (rest : Said) (sections : List Section) → idle_then limit number front rest ≡ Ok sections → AllByRecursion (IsIdle limit) front × (rest ≡ Ok sections)
  all_idle [] number rest sections e = (tt, e)
  all_idle (line ∷ front) number rest sections e =
      elim (is_idle limit line) as (λ t. is_idle limit line ≡ t → (if t then idle_then limit (number + 1) front rest else Err (BadLine number)) ≡ Ok sections → AllByRecursion (IsIdle limit) (line ∷ front) × (rest ≡ Ok sections)) [
        | true ↦ λ says e. let more = all_idle front (number + 1) rest sections e in ((yes_idle line says, more.0), more.1)
        | false ↦ λ other e. absurd (let w : ⊥ = cc in w)
      ] refl e

  in_front_ok : (section : Section) (rest : Said) (sections : List Section) → in_front section rest ≡ Ok sections → (more : List Section) × (rest ≡ Ok more) × (sections ≡ section ∷ more)
  in_front_ok section (Ok more) sections e = (more, refl, cc)
  in_front_ok section (Err why) sections e = absurd (let w : ⊥ = cc in w)

  all_spelled : (parts : List Headed) (number : ℕ) (sections : List Section) → AllByRecursion IsPart parts → sections_from limit number parts ≡ Ok sections → AllZip (SpellsSection limit) parts sections
  all_spelled [] number [] are e = tt
  all_spelled [] number (section ∷ sections) are e = absurd (let w : ⊥ = cc in w)
  all_spelled (part ∷ parts) number sections are e =
      let rest = sections_from limit (number + 1 + length part.body) parts in
      elim (name_in part.head) as (λ o. name_in part.head ≡ o → section_then o number (block_of limit part.body) rest ≡ Ok sections → AllZip (SpellsSection limit) (part ∷ parts) sections) [
        | None ↦ λ none e. absurd (let w : ⊥ = cc in w)
        | Some name ↦ λ is e.
            elim (block_of limit part.body) as (λ r. block_of limit part.body ≡ r → section_then (Some name) number r rest ≡ Ok sections → AllZip (SpellsSection limit) (part ∷ parts) sections) [
              | Ok items ↦ λ says e.
                  let m = in_front_ok (record { source = name; items = items }) rest sections e in
                  subst (AllZip (SpellsSection limit) (part ∷ parts)) (sym m.2)
                  ((
                    record { source = names part.head name are.0.header is; own = are.0.own; items = block_spells limit part.body items says },
                    all_spelled parts (number + 1 + length part.body) m.0 are.1 m.1,
                  ))
              | Err why ↦ λ says e. absurd (no_sections name number why rest sections e)
            ] refl e
      ] refl e

  pub read_is_spelled : (lines : List (List ℕ)) (sections : List Section) → batch_of limit lines ≡ Ok sections → SpellsBatch limit lines sections
  read_is_spelled lines sections e =
      let g = groups lines in
      let are = grouped lines in
      let front = all_idle g.front 1 (sections_from limit (1 + length g.front) g.sections) sections e in
      record { front = g.front; parts = g.sections; split = are.split; idle = front.0; spelled = all_spelled g.sections (1 + length g.front) sections are.parts front.1 }
