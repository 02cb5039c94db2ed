-- The first fault that is read in the block of a batch is the one that no continuation mends.
use Rattle.std.proofs.Common.{◌≡◌, inl, inr, ℕ, zero, suc, ◌+◌, ◌<◌, ◌≤◌, true, false, List, [], ◌∷◌, ◌++◌, length, take, Option, Some, None, refl, sym, ap, ◌∙◌, subst, arith, append_assoc, append-nil, length-append}
use Rattle.std.specs.Prelude.{Result, Ok, Err, if◌then◌else◌}
use Rattle.std.specs.List.{AllByRecursion, AllZip, flat_map}
use Rattle.std.proofs.lemmas.List.{length-take-le}
use Rattle.std.proofs.Math.Seq.{take-append_seam, take-length}
use Rattle.ncq_pyx.specs.Faults.{block_of}
use Rattle.ncq_pyx.specs.Spells.{CanGoOn, IsBadLine, IsBlock, IsTooDeep}
use Rattle.ncq_pyx.specs.declared.error.PyxError.{PyxError}
use Rattle.ncq_pyx.specs.declared.error.PyxError.TheVariants.{BadLine, TooDeep, OutOfMemory}
use Rattle.ncq_pyx.specs.declared.item.Item.{Item}
use Rattle.ncq_source.specs.declared.change.Section.{Section}
use Rattle.ncq_script.specs.BatchReading.{IsParted, StartsSection, behind, said_from}
use Rattle.ncq_script.specs.Batches.{batch_of, grouped_from, groups, idle_then, in_front, is_idle, name_in, section_then, sections_from}
use Rattle.ncq_script.specs.SpellsBatch.{BatchRefusal, CanBeBatch, Headed, IsBadBatch, IsBatch, IsBatchFault, IsIdle, IsTooDeepBatch, SpellsBatch, SpellsSection, is_header, lines_of}
use Rattle.ncq_script.proofs.BatchLaws.{Said, behind_err, idle_fault, nameless, said_header}
use Rattle.ncq_script.proofs.GroupLaws.{Plain, groups-plain}
use Rattle.ncq_script.proofs.PartLaws.{block_refused, block_spells, block_within, idle_any, never_memory, spells_more, spells_plain}
use Rattle.ncq_script.proofs.SpellLaws.{IsPart, grouped, idle_front, idle_plain, idle_yes, names, spelled_is_read, spelled_then, yes_idle}

not_ok : (why : PyxError) (sections : List Section) → ◌≡◌ {A = Said} (Err why) (Ok sections) → ⊥
not_ok why sections e = cc

same_error : (a b : PyxError) → ◌≡◌ {A = Said} (Err a) (Err b) → a ≡ b
same_error a b e = cc

one_line : (before : List (List ℕ)) (line : List ℕ) (more : List (List ℕ)) → (before ++ line ∷ []) ++ more ≡ before ++ line ∷ more
one_line before line more = append_assoc before (line ∷ []) more

-- a fault at a line
module _ (limit : ℕ) (before : List (List ℕ)) (line : List ℕ) (rest : List (List ℕ)) where
  longer : length before + 1 ≡ length (before ++ line ∷ [])
  longer = sym (length-append before (line ∷ []))

  up_to : take (length before + 1) (before ++ line ∷ rest) ≡ before ++ line ∷ []
  up_to =
      ap (λ (n : ℕ). take n (before ++ line ∷ rest)) longer
      ∙ ap (take (length (before ++ line ∷ []))) (sym (one_line before line rest)) ∙ take-append_seam (before ++ line ∷ []) rest

  within : length before + 1 ≤ length (before ++ line ∷ rest)
  within = omega (arith, length-append before (line ∷ rest))

  module _ (good : CanBeBatch limit before) (bad : CanBeBatch limit (before ++ line ∷ []) → ⊥) where
    fault_here : IsBatchFault limit (before ++ line ∷ rest) (length before + 1)
    fault_here = record {
      before = length before;
      next = refl;
      good = subst (CanBeBatch limit) (sym (take-append_seam before (line ∷ rest))) good;
      bad = inl (omega (arith, within), λ can. bad (subst (CanBeBatch limit) up_to can));
    }

    bad_here : (CanBeBatch (limit + 1) (before ++ line ∷ []) → ⊥) → IsBadBatch limit (before ++ line ∷ rest) (length before + 1)
    bad_here other = record { fault = fault_here; other = λ inside can. other (subst (CanBeBatch (limit + 1)) up_to can) }

    deep_here : CanBeBatch (limit + 1) (before ++ line ∷ []) → IsTooDeepBatch limit (before ++ line ∷ rest) (length before + 1)
    deep_here deeper = record { fault = fault_here; within = within; deeper = subst (CanBeBatch (limit + 1)) (sym up_to) deeper }

-- lines that spell sections, with one section more
all_zip_push : (limit : ℕ) (parts : List Headed) (sections : List Section) (part : Headed) (section : Section) → AllZip (SpellsSection limit) parts sections → SpellsSection limit part section
    → AllZip (SpellsSection limit) (parts ++ part ∷ []) (sections ++ section ∷ [])
all_zip_push limit [] [] part section all one = (one, tt)
all_zip_push limit [] (first ∷ sections) part section all one = absurd all
all_zip_push limit (first ∷ parts) [] part section all one = absurd all
all_zip_push limit (first ∷ parts) (other ∷ sections) part section all one = (all.0, all_zip_push limit parts sections part section all.1 one)

lines_push : (parts : List Headed) (part : Headed) → flat_map lines_of parts ++ lines_of part ≡ flat_map lines_of (parts ++ part ∷ [])
lines_push [] part = sym (append-nil (lines_of part))
lines_push (first ∷ parts) part = append_assoc (lines_of first) (flat_map lines_of parts) (lines_of part) ∙ ap (λ (ls : List (List ℕ)). lines_of first ++ ls) (lines_push parts part)

section_more : (limit : ℕ) (before : List (List ℕ)) (sections : List Section) (part : Headed) (section : Section) → SpellsBatch limit before sections → SpellsSection limit part section → SpellsBatch limit (before ++ lines_of part) (sections ++ section ∷ [])
section_more limit before sections part section s one = record {
  front = s.front;
  parts = s.parts ++ part ∷ [];
  split = ap (λ (ls : List (List ℕ)). ls ++ lines_of part) s.split ∙ append_assoc s.front (flat_map lines_of s.parts) (lines_of part) ∙ ap (λ (ls : List (List ℕ)). s.front ++ ls) (lines_push s.parts part);
  idle = s.idle;
  spelled = all_zip_push limit s.parts sections part section s.spelled one;
}

-- what is spelled within a limit is spelled within a higher one
module _ (limit bound : ℕ) (le : limit ≤ bound) where
  idle_more : (front : List (List ℕ)) → AllByRecursion (IsIdle limit) front → AllByRecursion (IsIdle bound) front
  idle_more [] idle = tt
  idle_more (line ∷ front) idle = (idle_any limit bound line idle.0, idle_more front idle.1)

  sections_more : (parts : List Headed) (sections : List Section) → AllZip (SpellsSection limit) parts sections → AllZip (SpellsSection bound) parts sections
  sections_more [] [] all = tt
  sections_more [] (section ∷ sections) all = absurd all
  sections_more (part ∷ parts) [] all = absurd all
  sections_more (part ∷ parts) (section ∷ sections) all =
      (record { source = all.0.source; own = all.0.own; items = spells_more limit bound le part.body section.items all.0.items }, sections_more parts sections all.1)

  batch_more : (lines : List (List ℕ)) (sections : List Section) → SpellsBatch limit lines sections → SpellsBatch bound lines sections
  batch_more lines sections s = record { front = s.front; parts = s.parts; split = s.split; idle = idle_more s.front s.idle; spelled = sections_more s.parts sections s.spelled }

pub can_be : (limit : ℕ) (lines : List (List ℕ)) → IsBatch limit lines → CanBeBatch limit lines
can_be limit lines batch = ([], (batch.0, subst (λ (ls : List (List ℕ)). SpellsBatch limit ls batch.0) (sym (append-nil lines)) batch.1))

-- a line before the first section that is not skipped
idle_push : (limit : ℕ) (front : List (List ℕ)) (line : List ℕ) → AllByRecursion (IsIdle limit) front → IsIdle limit line → AllByRecursion (IsIdle limit) (front ++ line ∷ [])
idle_push limit [] line all one = (one, tt)
idle_push limit (first ∷ front) line all one = (all.0, idle_push limit front line all.1 one)

plain_push : (front : List (List ℕ)) (line : List ℕ) → AllByRecursion Plain front → is_header line ≡ false → AllByRecursion Plain (front ++ line ∷ [])
plain_push [] line all one = (one, tt)
plain_push (first ∷ front) line all one = (all.0, plain_push front line all.1 one)

busy_cannot : (bound : ℕ) (front : List (List ℕ)) (line : List ℕ) → AllByRecursion (IsIdle bound) front → is_header line ≡ false → is_idle bound line ≡ false → CanBeBatch bound (front ++ line ∷ []) → ⊥
busy_cannot bound front line idle plain busy can =
    let more = can.0 in
    let g = groups more in
    let own = front ++ line ∷ [] in
    let rest = sections_from bound (1 + length (own ++ g.front)) g.sections in
    not_ok (BadLine (1 + length front)) can.1.0
    (sym (ap (grouped_from bound 1) (groups-plain own more (plain_push front line (idle_plain bound front idle) plain))
    ∙ ap (λ (ls : List (List ℕ)). idle_then bound 1 ls rest) (one_line front line g.front)
    ∙ idle_front bound front (line ∷ g.front) 1 rest idle ∙ idle_fault bound (1 + length front) line g.front rest busy)
    ∙ spelled_is_read bound (own ++ more) can.1.0 can.1.1)

busy_more : (a b : ℕ) (line : List ℕ) → is_idle a line ≡ false → is_idle b line ≡ false
busy_more a b line busy =
    elim (is_idle b line) as (λ t. is_idle b line ≡ t → t ≡ false) [
      | true ↦ λ says. sym (idle_yes a line (idle_any b a line (yes_idle b line says))) ∙ busy
      | false ↦ λ says. refl
    ] refl

-- a line that begins a section and names no source
header_cannot : (bound : ℕ) (before : List (List ℕ)) (sections : List Section) (head : List ℕ) → SpellsBatch bound before sections → is_header head ≡ true → name_in head ≡ None → CanBeBatch bound (before ++ head ∷ []) → ⊥
header_cannot bound before sections head s header none can =
    not_ok (BadLine (1 + length before)) can.1.0
    (sym (ap (batch_of bound) (one_line before head can.0)
    ∙ spelled_then bound before (head ∷ can.0) sections s header
    ∙ nameless bound sections head can.0 (1 + length before) header none)
    ∙ spelled_is_read bound ((before ++ head ∷ []) ++ can.0) can.1.0 can.1.1)

must_say : (sections : List Section) (name : List ℕ) (number : ℕ) (said : Result (List Item) PyxError) (rest : Said) (found : List Section) → behind sections (section_then (Some name) number said rest) ≡ Ok found → (items : List Item) × (said ≡ Ok items)
must_say sections name number (Ok items) rest found e = (items, refl)
must_say sections name number (Err (BadLine k)) rest found e = absurd (not_ok (BadLine (number + k)) found (sym (behind_err sections (BadLine (number + k))) ∙ e))
must_say sections name number (Err (TooDeep k)) rest found e = absurd (not_ok (TooDeep (number + k)) found (sym (behind_err sections (TooDeep (number + k))) ∙ e))
must_say sections name number (Err OutOfMemory) rest found e = absurd (not_ok OutOfMemory found (sym (behind_err sections OutOfMemory) ∙ e))

parts_start : (parts : List Headed) → AllByRecursion IsPart parts → StartsSection (flat_map lines_of parts)
parts_start [] are = tt
parts_start (part ∷ parts) are = are.0.header

all_append : (own more : List (List ℕ)) → AllByRecursion Plain own → AllByRecursion Plain more → AllByRecursion Plain (own ++ more)
all_append [] more plain others = others
all_append (line ∷ own) more plain others = (plain.0, all_append own more plain.1 others)

-- the lines of a section
module _ (head name : List ℕ) (header : is_header head ≡ true) (is : name_in head ≡ Some name) (before : List (List ℕ)) (sections : List Section) where
  module _ (bound : ℕ) (s : SpellsBatch bound before sections) where
    body_can : (lines : List (List ℕ)) → CanGoOn bound lines → CanBeBatch bound (before ++ head ∷ lines)
    body_can lines can =
        let section : Section = record { source = name; items = can.1.0 } in
        let part : Headed = record { head = head; body = lines ++ can.0 } in
        let one : SpellsSection bound part section = record { source = names head name header is; own = spells_plain bound (lines ++ can.0) can.1.0 can.1.1; items = can.1.1 } in (
          can.0,
          (
            sections ++ section ∷ [],
            subst (λ (ls : List (List ℕ)). SpellsBatch bound ls (sections ++ section ∷ [])) (sym (append_assoc before (head ∷ lines) can.0)) (section_more bound before sections part section s one),
          ),
        )

    body_is_not : (own left : List (List ℕ)) → AllByRecursion Plain own → StartsSection left → (IsBlock bound own → ⊥) → IsBatch bound (before ++ head ∷ (own ++ left)) → ⊥
    body_is_not own left plain starts not batch =
        let parted : IsParted (own ++ left) own left = record { split = refl; plain = plain; starts = starts } in
        let number = 1 + length before in
        let rest = said_from bound (number + 1 + length own) left in
        let said = spelled_then bound before (head ∷ (own ++ left)) sections s header
        ∙ ap (behind sections) (said_header bound head (own ++ left) own left number header parted ∙ ap (λ (found : Option (List ℕ)). section_then found number (block_of bound own) rest) is) in
        let m = must_say sections name number (block_of bound own) rest batch.0 (sym said ∙ spelled_is_read bound (before ++ head ∷ (own ++ left)) batch.0 batch.1) in
        not (m.0, block_spells bound own m.0 m.1)

    body_cannot : (own : List (List ℕ)) → AllByRecursion Plain own → (CanGoOn bound own → ⊥) → CanBeBatch bound (before ++ head ∷ own) → ⊥
    body_cannot own plain not can =
        let g = groups can.0 in
        let are = grouped can.0 in
        let flat = flat_map lines_of g.sections in
        let lines : (before ++ head ∷ own) ++ can.0 ≡ before ++ head ∷ ((own ++ g.front) ++ flat) =
        append_assoc before (head ∷ own) can.0
        ∙ ap (λ (ls : List (List ℕ)). before ++ head ∷ ls) (ap (λ (ls : List (List ℕ)). own ++ ls) are.split ∙ sym (append_assoc own g.front flat)) in
        body_is_not (own ++ g.front) flat (all_append own g.front plain are.plain) (parts_start g.sections are.parts) (λ block. not (g.front, block))
        (can.1.0, subst (λ (ls : List (List ℕ)). SpellsBatch bound ls can.1.0) lines can.1.1)

-- a line of a list
record AtLine (lines : List (List ℕ)) (k : ℕ) : Type 0 where
  line : List ℕ
  more : List (List ℕ)
  is : lines ≡ take k lines ++ line ∷ more
  up_to : take (k + 1) lines ≡ take k lines ++ line ∷ []

at_line : (lines : List (List ℕ)) (k : ℕ) → k < length lines → AtLine lines k
at_line [] k lt = absurd (omega arith)
at_line (line ∷ lines) zero lt = record { line = line; more = lines; is = refl; up_to = refl }
at_line (line ∷ lines) (suc k) lt =
    let a = at_line lines k (omega arith) in
    let same : suc k + 1 ≡ suc (k + 1) = omega arith in
    record {
      line = a.line;
      more = a.more;
      is = ap (λ (ls : List (List ℕ)). line ∷ ls) a.is;
      up_to = ap (λ (n : ℕ). take n (line ∷ lines)) same ∙ ap (λ (ls : List (List ℕ)). line ∷ ls) a.up_to;
    }

plain_take : (k : ℕ) (lines : List (List ℕ)) → AllByRecursion Plain lines → AllByRecursion Plain (take k lines)
plain_take zero lines plain = tt
plain_take (suc k) [] plain = tt
plain_take (suc k) (line ∷ lines) plain = (plain.0, plain_take k lines plain.1)

-- a fault in a section is one of the block, as many lines on as stand before the section and with its first line
module _ (limit : ℕ) (head name : List ℕ) (header : is_header head ≡ true) (is : name_in head ≡ Some name) (before : List (List ℕ)) (sections : List Section) (s : SpellsBatch limit before sections) (own rest : List (List ℕ)) (plain : AllByRecursion Plain own) (starts : StartsSection rest) where
  deeper : SpellsBatch (limit + 1) before sections
  deeper = batch_more limit (limit + 1) (omega arith) before sections s

  module _ (k : ℕ) (lt : k < length own) where
    here : AtLine own k
    here = at_line own k lt

    abbrev front : List (List ℕ)
    front = before ++ head ∷ take k own

    up_to_here : (line : List ℕ) (more : List (List ℕ)) → (before ++ head ∷ take k own) ++ line ∷ more ≡ before ++ head ∷ (take k own ++ line ∷ more)
    up_to_here line more = append_assoc before (head ∷ take k own) (line ∷ more)

    all_lines : front ++ here.line ∷ (here.more ++ rest) ≡ before ++ head ∷ (own ++ rest)
    all_lines =
        up_to_here here.line (here.more ++ rest)
        ∙ ap (λ (ls : List (List ℕ)). before ++ head ∷ ls) (sym (append_assoc (take k own) (here.line ∷ here.more) rest) ∙ ap (λ (ls : List (List ℕ)). ls ++ rest) (sym here.is))

    with_line : front ++ here.line ∷ [] ≡ before ++ head ∷ take (k + 1) own
    with_line = up_to_here here.line [] ∙ ap (λ (ls : List (List ℕ)). before ++ head ∷ ls) (sym here.up_to)

    line_number : (m : ℕ) → m ≡ k + 1 → length front + 1 ≡ 1 + length before + m
    line_number m next = let short : length (take k own) ≡ k = length-take-le k own (omega arith) in omega (arith, next, short, length-append before (head ∷ take k own))

    bad_line : (bound : ℕ) → SpellsBatch bound before sections → (CanGoOn bound (take (k + 1) own) → ⊥) → CanBeBatch bound (front ++ here.line ∷ []) → ⊥
    bad_line bound more not can = body_cannot head name header is before sections bound more (take (k + 1) own) (plain_take (k + 1) own plain) not (subst (CanBeBatch bound) with_line can)

    bad_inside : (m : ℕ) → m ≡ k + 1 → CanGoOn limit (take k own) → (CanGoOn limit (take (k + 1) own) → ⊥) → (CanGoOn (limit + 1) (take (k + 1) own) → ⊥) → IsBadBatch limit (before ++ head ∷ (own ++ rest)) (1 + length before + m)
    bad_inside m next good bad other =
        subst (λ (lines : List (List ℕ)). IsBadBatch limit lines (1 + length before + m)) all_lines
        (subst (IsBadBatch limit (front ++ here.line ∷ (here.more ++ rest))) (line_number m next)
        (bad_here limit front here.line (here.more ++ rest) (body_can head name header is before sections limit s (take k own) good) (bad_line limit s bad) (bad_line (limit + 1) deeper other)))

    deep_inside : (m : ℕ) → m ≡ k + 1 → CanGoOn limit (take k own) → (CanGoOn limit (take (k + 1) own) → ⊥) → CanGoOn (limit + 1) (take (k + 1) own) → IsTooDeepBatch limit (before ++ head ∷ (own ++ rest)) (1 + length before + m)
    deep_inside m next good bad deep =
        subst (λ (lines : List (List ℕ)). IsTooDeepBatch limit lines (1 + length before + m)) all_lines
        (subst (IsTooDeepBatch limit (front ++ here.line ∷ (here.more ++ rest))) (line_number m next)
        (deep_here limit front here.line (here.more ++ rest) (body_can head name header is before sections limit s (take k own) good) (bad_line limit s bad)
        (subst (CanBeBatch (limit + 1)) (sym with_line) (body_can head name header is before sections (limit + 1) deeper (take (k + 1) own) deep))))

  -- an element is open behind the last line
  module _ (good : CanGoOn limit own) (unclosed : IsBlock limit own → ⊥) where
    open_any : IsBlock (limit + 1) own → ⊥
    open_any block = unclosed (block_within limit (limit + 1) own good.0 good.1 block)

    open_last : IsBadBatch limit (before ++ head ∷ (own ++ [])) (1 + length before + (length own + 1))
    open_last =
        let all = before ++ head ∷ (own ++ []) in
        let count : 1 + length before + (length own + 1) ≡ length all + 1 = omega (arith, length-append before (head ∷ (own ++ [])), length-append own []) in
        record {
          fault = record {
            before = length all;
            next = count;
            good = subst (CanBeBatch limit) (ap (λ (ls : List (List ℕ)). before ++ head ∷ ls) (sym (append-nil own)) ∙ sym (take-length all)) (body_can head name header is before sections limit s own good);
            bad = inr (refl, body_is_not head name header is before sections limit s own [] plain tt unclosed);
          };
          other = λ inside. absurd (omega (arith, count, inside));
        }

    open_before : (line : List ℕ) (more : List (List ℕ)) → is_header line ≡ true → IsBadBatch limit (before ++ head ∷ (own ++ line ∷ more)) (1 + length before + (length own + 1))
    open_before line more next =
        let front = before ++ head ∷ own in
        let count : length front + 1 ≡ 1 + length before + (length own + 1) = omega (arith, length-append before (head ∷ own)) in
        let no_more : (bound : ℕ) → SpellsBatch bound before sections → (IsBlock bound own → ⊥) → CanBeBatch bound (front ++ line ∷ []) → ⊥ =
        λ bound t not can.
        body_is_not head name header is before sections bound t own (line ∷ can.0) plain next not
        (can.1.0, subst (λ (ls : List (List ℕ)). SpellsBatch bound ls can.1.0) (one_line front line can.0 ∙ append_assoc before (head ∷ own) (line ∷ can.0)) can.1.1) in
        subst (λ (lines : List (List ℕ)). IsBadBatch limit lines (1 + length before + (length own + 1))) (append_assoc before (head ∷ own) (line ∷ more))
        (subst (IsBadBatch limit (front ++ line ∷ more)) count
        (bad_here limit front line more (body_can head name header is before sections limit s own good) (no_more limit s unclosed) (no_more (limit + 1) deeper open_any)))

  open_body : (left : List (List ℕ)) → rest ≡ left → StartsSection left → CanGoOn limit own → (IsBlock limit own → ⊥) → IsBadBatch limit (before ++ head ∷ (own ++ left)) (1 + length before + (length own + 1))
  open_body [] same next good unclosed = open_last good unclosed
  open_body (line ∷ more) same next good unclosed = open_before good unclosed line more next

  bad_body : (m : ℕ) → IsBadLine limit own m → IsBadBatch limit (before ++ head ∷ (own ++ rest)) (1 + length before + m)
  bad_body m bad = elim bad.fault.bad [
    | inl ends ↦ bad_inside bad.fault.before ends.0 m bad.fault.next bad.fault.good ends.1
        (λ can. bad.other (omega (arith, bad.fault.next, ends.0)) (subst (λ (n : ℕ). CanGoOn (limit + 1) (take n own)) (sym bad.fault.next) can))
    | inr ends ↦
        let count : length own + 1 ≡ m = omega (arith, bad.fault.next, ends.0) in
        subst (λ (n : ℕ). IsBadBatch limit (before ++ head ∷ (own ++ rest)) (1 + length before + n)) count
        (open_body rest refl starts (subst (CanGoOn limit) (ap (λ (n : ℕ). take n own) ends.0 ∙ take-length own) bad.fault.good) ends.1)
  ]

  deep_body : (m : ℕ) → IsTooDeep limit own m → IsTooDeepBatch limit (before ++ head ∷ (own ++ rest)) (1 + length before + m)
  deep_body m deep = elim deep.fault.bad [
    | inl ends ↦ deep_inside deep.fault.before ends.0 m deep.fault.next deep.fault.good ends.1 (subst (λ (n : ℕ). CanGoOn (limit + 1) (take n own)) deep.fault.next deep.deeper)
    | inr ends ↦ absurd (omega (arith, deep.fault.next, deep.within, ends.0))
  ]

  body_refused : (why : PyxError) (behind : Said) (all : PyxError) → block_of limit own ≡ Err why → section_then (Some name) (1 + length before) (Err why) behind ≡ Err all → BatchRefusal limit (before ++ head ∷ (own ++ rest)) all
  body_refused (BadLine m) behind all says e = subst (BatchRefusal limit (before ++ head ∷ (own ++ rest))) (same_error (BadLine (1 + length before + m)) all e) (bad_body m (block_refused limit own (BadLine m) says))
  body_refused (TooDeep m) behind all says e = subst (BatchRefusal limit (before ++ head ∷ (own ++ rest))) (same_error (TooDeep (1 + length before + m)) all e) (deep_body m (block_refused limit own (TooDeep m) says))
  body_refused OutOfMemory behind all says e = absurd (never_memory limit own says)

in_front_err : (section : Section) (rest : Said) (why : PyxError) → in_front section rest ≡ Err why → rest ≡ Err why
in_front_err section (Ok more) why e = absurd (not_ok why (section ∷ more) (sym e))
in_front_err section (Err other) why e = e

module _ (limit : ℕ) where
  -- the sections that are left, behind lines that spell sections
  parts_refused : (parts : List Headed) → AllByRecursion IsPart parts → (before : List (List ℕ)) (sections : List Section) → SpellsBatch limit before sections → (why : PyxError) → sections_from limit (1 + length before) parts ≡ Err why
      → BatchRefusal limit (before ++ flat_map lines_of parts) why
  parts_refused [] are before sections s why e = absurd (not_ok why [] (sym e))
  parts_refused (part ∷ parts) are before sections s why e =
      let number = 1 + length before in
      let flat = flat_map lines_of parts in
      let all = before ++ part.head ∷ (part.body ++ flat) in
      let rest = sections_from limit (number + 1 + length part.body) parts in
      elim (name_in part.head) as (λ o. name_in part.head ≡ o → section_then o number (block_of limit part.body) rest ≡ Err why → BatchRefusal limit all why) [
        | None ↦ λ none e.
            let same : length before + 1 ≡ number = omega arith in
            subst (BatchRefusal limit all) (same_error (BadLine number) why e)
            (subst (IsBadBatch limit all) same
            (bad_here limit before part.head (part.body ++ flat) (can_be limit before (sections, s)) (header_cannot limit before sections part.head s are.0.header none)
            (header_cannot (limit + 1) before sections part.head (batch_more limit (limit + 1) (omega arith) before sections s) are.0.header none)))
        | Some name ↦ λ is e.
            elim (block_of limit part.body) as (λ r. block_of limit part.body ≡ r → section_then (Some name) number r rest ≡ Err why → BatchRefusal limit all why) [
              | Ok items ↦ λ says e.
                  let section : Section = record { source = name; items = items } in
                  let one : SpellsSection limit part section = record { source = names part.head name are.0.header is; own = are.0.own; items = block_spells limit part.body items says } in
                  let same : number + 1 + length part.body ≡ 1 + length (before ++ lines_of part) = omega (arith, length-append before (lines_of part)) in
                  subst (λ (lines : List (List ℕ)). BatchRefusal limit lines why) (append_assoc before (lines_of part) flat)
                  (parts_refused parts are.1 (before ++ lines_of part) (sections ++ section ∷ []) (section_more limit before sections part section s one) why
                  (ap (λ (n : ℕ). sections_from limit n parts) (sym same) ∙ in_front_err section rest why e))
              | Err w ↦ λ says e. body_refused limit part.head name are.0.header is before sections s part.body flat are.0.own (parts_start parts are.1) w rest why says e
            ] refl e
      ] refl e

  none_spelled : (front : List (List ℕ)) → AllByRecursion (IsIdle limit) front → SpellsBatch limit front []
  none_spelled front idle = record { front = front; parts = []; split = sym (append-nil front); idle = idle; spelled = tt }

  -- the lines before the first section that are left, behind skipped ones
  front_refused : (parts : List Headed) → AllByRecursion IsPart parts → (front done : List (List ℕ)) → AllByRecursion Plain front → AllByRecursion (IsIdle limit) done → (why : PyxError)
      → idle_then limit (1 + length done) front (sections_from limit (1 + length done + length front) parts) ≡ Err why → BatchRefusal limit (done ++ (front ++ flat_map lines_of parts)) why
  front_refused parts are [] done plain idle why e =
      let same : 1 + length done + 0 ≡ 1 + length done = omega arith in
      parts_refused parts are done [] (none_spelled done idle) why (ap (λ (n : ℕ). sections_from limit n parts) (sym same) ∙ e)
  front_refused parts are (line ∷ front) done plain idle why e =
      let flat = flat_map lines_of parts in
      let number = 1 + length done in
      let rest = sections_from limit (number + length (line ∷ front)) parts in
      elim (is_idle limit line) as (λ t. is_idle limit line ≡ t → (if t then idle_then limit (number + 1) front rest else Err (BadLine number)) ≡ Err why → BatchRefusal limit (done ++ line ∷ (front ++ flat)) why) [
        | true ↦ λ says e.
            let next : number + 1 ≡ 1 + length (done ++ line ∷ []) = omega (arith, length-append done (line ∷ [])) in
            let last : number + length (line ∷ front) ≡ 1 + length (done ++ line ∷ []) + length front = omega (arith, length-append done (line ∷ [])) in
            subst (λ (lines : List (List ℕ)). BatchRefusal limit lines why) (one_line done line (front ++ flat))
            (front_refused parts are front (done ++ line ∷ []) plain.1 (idle_push limit done line idle (yes_idle limit line says)) why
            (sym (λ i. idle_then limit (next i) front (sections_from limit (last i) parts)) ∙ e))
        | false ↦ λ says e.
            let same : length done + 1 ≡ number = omega arith in
            subst (BatchRefusal limit (done ++ line ∷ (front ++ flat))) (same_error (BadLine number) why e)
            (subst (IsBadBatch limit (done ++ line ∷ (front ++ flat))) same
            (bad_here limit done line (front ++ flat) (can_be limit done ([], none_spelled done idle)) (busy_cannot limit done line idle plain.0 says)
            (busy_cannot (limit + 1) done line (idle_more limit (limit + 1) (omega arith) done idle) plain.0 (busy_more limit (limit + 1) line says))))
      ] refl e

  pub batch_refused : (lines : List (List ℕ)) (why : PyxError) → batch_of limit lines ≡ Err why → BatchRefusal limit lines why
  batch_refused lines why e =
      let g = groups lines in
      let are = grouped lines in
      subst (λ (ls : List (List ℕ)). BatchRefusal limit ls why) (sym are.split) (front_refused g.sections are.parts g.front [] are.plain tt why e)
