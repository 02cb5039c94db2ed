-- The lists of the files that have rows, and of how many.
use Rattle.std.proofs.Common.{◌≡◌, ℕ, ◌+◌, ◌-◌, ◌^◌, ◌||◌, ◌++◌, Bool, true, false, cond, List, [], ◌∷◌, map, length, min, Some, None, Option, nat_eq, refl, sym, ap, ◌∙◌, subst, arith}
use Rattle.std.specs.FinMap.{get}
use Rattle.std.specs.List.{AllByRecursion, IsDistinct, flat_map, list_any}
use Rattle.std.specs.Map.{lookup, keys_of}
use Rattle.std.proofs.lemmas.Map.Keys.{IsDistinct-cons, IsDistinct-head, IsDistinct-tail}
use Rattle.ncq_base.specs.Counts.{total_by}
use Rattle.ncq_base.specs.declared.interval.Interval.{Interval}
use Rattle.ncq_base.proofs.CountLaws.{total_by-congr, total_by-flat_map, total_by-map}
use Rattle.ncq_plan.specs.declared.expr.Expr.{Expr}
use Rattle.ncq_midfile.specs.Files.{FileState}
use Rattle.ncq_midfile.specs.Views.{RangeState}
use Rattle.ncq_readers.specs.ReaderTables.{ReaderTables}
use Rattle.ncq_readers.proofs.TableLaws.{each_has, slot_is, slot_itself}
use Rattle.ncq_shelf.specs.KeptFiles.{KeptFile}
use Rattle.ncq_shelf.specs.Groups.{Groups, IsGrouped, IsRightFor, group_of, is_group}
use Rattle.ncq_shelf.specs.Ranges.{IsRange, IsRangeFile, SelectsRange}
use Rattle.ncq_shelf.specs.RowCounts.{AreOwnCounts, AreRangeFiles, CountsRows, HasOwnRows, is_slot}
use Rattle.ncq_shelf.specs.Shown.{count_of, shown, state_of}
use Rattle.ncq_shelf.specs.Wired.{IsShelved}
use Rattle.ncq_shelf.specs.declared.file.File.{File}
use Rattle.ncq_shelf.specs.declared.group.Group.{Group}
use Rattle.ncq_shelf.specs.declared.rows.Rows.{Rows}
use Rattle.ncq_shelf.specs.declared.rows.Rows.TheVariants.{Whole, Ranged}
use Rattle.ncq_shelf.proofs.Indexes.{shown_at, kept_at}
use Rattle.ncq_shelf.proofs.Maps.{one_value}
use Rattle.ncq_shelf.proofs.RowSums.{both_sums}
use Rattle.ncq_shelf.proofs.Grouped.{own_content}
use Rattle.ncq_shelf.proofs.VirtualFiles.{group_is, group_itself, is_range_file, none_selects}

-- the number and the rows of a file that has its own
abbrev own_entry : ℕ → Rows → List (ℕ × ℕ)
own_entry number (Whole file) = (number, length file.rows) ∷ []
own_entry number (Ranged group base) = []

abbrev own_of_entry : ℕ × File → List (ℕ × ℕ)
own_of_entry entry = own_entry entry.0 entry.1.content

abbrev own_of : List (ℕ × File) → List (ℕ × ℕ)
own_of files = flat_map own_of_entry files

-- the files of groups, each under its input's number and its slot
abbrev slot_of : Group × RangeState → (ℕ × ℕ) × RangeState
slot_of entry = ((entry.0.input, entry.0.slot), entry.1)

abbrev shared_of : Groups → List ((ℕ × ℕ) × RangeState)
shared_of groups = map slot_of groups

own_weighs : (number : ℕ) (rows : Rows) → total_by (λ (p : ℕ × ℕ). p.1) (own_entry number rows) ≡ count_of rows
own_weighs number (Whole file) = omega arith
own_weighs number (Ranged group base) = refl

own_total : (files : List (ℕ × File)) → total_by (λ (p : ℕ × ℕ). p.1) (own_of files) ≡ total_by (λ (entry : ℕ × File). count_of entry.1.content) files
own_total files =
    total_by-flat_map (λ (p : ℕ × ℕ). p.1) own_of_entry files
    ∙ total_by-congr (λ (entry : ℕ × File). total_by (λ (p : ℕ × ℕ). p.1) (own_of_entry entry)) (λ (entry : ℕ × File). count_of entry.1.content) (λ entry. own_weighs entry.0 entry.1.content) files

shared_total : (groups : Groups) → total_by (λ (p : (ℕ × ℕ) × RangeState). length p.1.rows) (shared_of groups) ≡ total_by (λ (entry : Group × RangeState). length entry.1.rows) groups
shared_total groups = total_by-map (λ (p : (ℕ × ℕ) × RangeState). length p.1.rows) slot_of groups

-- a number that stands at no file stands at none that has rows of its own
apart_from : (k : ℕ) (files : List (ℕ × File)) → AllByRecursion (λ y. nat_eq k y ≡ false) (keys_of files) → AllByRecursion (λ y. nat_eq k y ≡ false) (keys_of (own_of files))
apart_from k [] h = tt
apart_from k (e ∷ files) h = by e.1.content (apart_from k files h.1)
  where
    by : (rows : Rows) → AllByRecursion (λ y. nat_eq k y ≡ false) (keys_of (own_of files)) → AllByRecursion (λ y. nat_eq k y ≡ false) (keys_of (own_entry e.0 rows ++ own_of files))
    by (Whole file) rest = (h.0, rest)
    by (Ranged group base) rest = rest

own_once : (files : List (ℕ × File)) → IsDistinct nat_eq (keys_of files) → IsDistinct nat_eq (keys_of (own_of files))
own_once [] apart = apart
own_once (e ∷ files) apart = by e.1.content (own_once files (IsDistinct-tail nat_eq e.0 (keys_of files) apart))
  where
    by : (rows : Rows) → IsDistinct nat_eq (keys_of (own_of files)) → IsDistinct nat_eq (keys_of (own_entry e.0 rows ++ own_of files))
    by (Whole file) rest = IsDistinct-cons nat_eq e.0 (keys_of (own_of files)) (apart_from e.0 files (IsDistinct-head nat_eq e.0 (keys_of files) apart)) rest
    by (Ranged group base) rest = rest

-- a file that has rows of its own is in the list
found_own : (files : List (ℕ × File)) (number : ℕ) (file : File) (own : FileState) → file.content ≡ Whole own → lookup (nat_eq number) files ≡ Some file → list_any (nat_eq number) (keys_of (own_of files)) ≡ true
found_own [] number file own is at = cc
found_own (e ∷ files) number file own is at = by (nat_eq number e.0) refl at (found_own files number file own is)
  where
    here : (rows : Rows) → rows ≡ Whole own → nat_eq number e.0 ≡ true → list_any (nat_eq number) (keys_of (own_entry e.0 rows ++ own_of files)) ≡ true
    here (Whole kept) w same = ap (λ b. b || list_any (nat_eq number) (keys_of (own_of files))) same
    here (Ranged group base) w same = cc

    later : (rows : Rows) → nat_eq number e.0 ≡ false → list_any (nat_eq number) (keys_of (own_of files)) ≡ true → list_any (nat_eq number) (keys_of (own_entry e.0 rows ++ own_of files)) ≡ true
    later (Whole kept) differs rest = (λ i. differs i || list_any (nat_eq number) (keys_of (own_of files))) ∙ rest
    later (Ranged group base) differs rest = rest

    by : (b : Bool) → nat_eq number e.0 ≡ b → cond b (Some e.1) (lookup (nat_eq number) files) ≡ Some file
        → (lookup (nat_eq number) files ≡ Some file → list_any (nat_eq number) (keys_of (own_of files)) ≡ true) → list_any (nat_eq number) (keys_of (own_of (e ∷ files))) ≡ true
    by true same at rest = let one : e.1 ≡ file = one_value refl at in here e.1.content (ap (λ (f : File). f.content) one ∙ is) same
    by false differs at rest = later e.1.content differs (rest at)

-- a file of a group is in the list
found_shared : (groups : Groups) (group : Group) (held : RangeState) → lookup (is_group group) groups ≡ Some held → list_any (is_slot (group.input, group.slot)) (keys_of (shared_of groups)) ≡ true
found_shared [] group held at = cc
found_shared (e ∷ groups) group held at = by (is_group group e.0) refl at (found_shared groups group held)
  where
    by : (b : Bool) → is_group group e.0 ≡ b → cond b (Some e.1) (lookup (is_group group) groups) ≡ Some held
        → (lookup (is_group group) groups ≡ Some held → list_any (is_slot (group.input, group.slot)) (keys_of (shared_of groups)) ≡ true)
        → (is_slot (group.input, group.slot) (e.0.input, e.0.slot) || list_any (is_slot (group.input, group.slot)) (keys_of (shared_of groups))) ≡ true
    by true same at rest = ap (λ b. b || list_any (is_slot (group.input, group.slot)) (keys_of (shared_of groups))) same
    by false differs at rest = ap (λ b. b || list_any (is_slot (group.input, group.slot)) (keys_of (shared_of groups))) differs ∙ rest at

slots_from : (group : Group) (groups : Groups) → AllByRecursion (λ y. is_group group y ≡ false) (keys_of groups) → AllByRecursion (λ y. is_slot (group.input, group.slot) y ≡ false) (keys_of (shared_of groups))
slots_from group [] h = tt
slots_from group (e ∷ groups) h = (h.0, slots_from group groups h.1)

none_apart : IsDistinct is_slot []
unfolding IsDistinct
none_apart = tt

shared_once : (groups : Groups) → IsDistinct is_group (keys_of groups) → IsDistinct is_slot (keys_of (shared_of groups))
shared_once [] apart = none_apart
shared_once (e ∷ groups) apart =
    IsDistinct-cons is_slot (e.0.input, e.0.slot) (keys_of (shared_of groups)) (slots_from e.0 groups (IsDistinct-head is_group e.0 (keys_of groups) apart)) (shared_once groups (IsDistinct-tail is_group e.0 (keys_of groups) apart))

all_shared : (P : (ℕ × ℕ) × RangeState → Type 0) (groups : Groups) → AllByRecursion (λ e. P (slot_of e)) groups → AllByRecursion P (shared_of groups)
all_shared P [] all = tt
all_shared P (e ∷ groups) all = (all.0, all_shared P groups all.1)

module _ (gs : Groups) (files : List (ℕ × File)) (numbers : List (Expr × ℕ)) (scans : List (List ℕ × ReaderTables)) (shelved : IsShelved gs files numbers scans) (grouped : IsGrouped files gs)
    (apart : IsDistinct nat_eq (keys_of files)) (groups_apart : IsDistinct is_group (keys_of gs)) where
  -- a file with rows of its own selects by no interval
  right_own : (entries : List (ℕ × File)) → AllByRecursion (λ e. lookup (nat_eq e.0) files ≡ Some e.1) entries → AllByRecursion (λ p. HasOwnRows (shown gs files) p.0 p.1) (own_of entries)
  right_own [] all = tt
  right_own (e ∷ entries) all = by e.1.content refl (right_own entries all.1)
    where
      by : (rows : Rows) → e.1.content ≡ rows → AllByRecursion (λ p. HasOwnRows (shown gs files) p.0 p.1) (own_of entries)
          → AllByRecursion (λ p. HasOwnRows (shown gs files) p.0 p.1) (own_entry e.0 rows ++ own_of entries)
      by (Whole own) is rest = (
        record {
          file = state_of gs e.1;
          at = shown_at gs files e.0 e.1 all.0;
          plain = subst (λ rows. IsRightFor gs e.1.expr (group_of rows)) is (grouped.right e.0 e.1 all.0);
          count = ap (λ (f : FileState). length f.rows) (sym (own_content gs e.1.expr e.1.content own is));
        },
        rest,
      )
      by (Ranged group base) is rest = rest

  all_own : (number : ℕ) (state : KeptFile) → get (shown gs files) number ≡ Some state → (IsRange state.expr → ⊥) → list_any (nat_eq number) (keys_of (own_of files)) ≡ true
  all_own number state at plain = by file.content refl
    where
      k : (file : File) × (lookup (nat_eq number) files ≡ Some file) × (state ≡ state_of gs file)
      k = kept_at gs files number state at

      file : File
      file = k.0

      by : (rows : Rows) → file.content ≡ rows → list_any (nat_eq number) (keys_of (own_of files)) ≡ true
      by (Whole own) is = found_own files number file own is k.1
      by (Ranged group base) is =
          let v = subst (λ rows. IsRightFor gs file.expr (group_of rows)) is (grouped.right number file k.1) in
          absurd (plain (record { inner = v.inner; slot = group.slot; interval = v.interval; is = ap (λ (s : KeptFile). s.expr) k.2 ∙ v.is }))

  are_own : AreOwnCounts (shown gs files) (own_of files)
  are_own = record {
    once = own_once files apart;
    right = right_own files (each_has nat_eq slot_is slot_itself (λ number file. lookup (nat_eq number) files ≡ Some file) files apart (λ number file at. at));
    all = all_own;
  }

  are_shared : AreRangeFiles (shown gs files) (shared_of gs)
  are_shared = record {
    once = shared_once gs groups_apart;
    right = all_shared (λ p. IsRangeFile (shown gs files) p.0.0 p.0.1 p.1) gs
        (each_has is_group group_is group_itself (λ group held. IsRangeFile (shown gs files) group.input group.slot held) gs groups_apart (λ group held at. is_range_file gs files numbers scans shelved grouped group.input group.slot held at));
    all = λ input slot interval number selects. by input slot interval number selects (lookup (is_group (record { input = input; slot = slot })) gs) refl;
  }
    where
      by : (input slot : ℕ) (interval : Interval) (number : ℕ) → SelectsRange (shown gs files) input slot interval number → (o : Option RangeState) → lookup (is_group (record { input = input; slot = slot })) gs ≡ o
          → list_any (is_slot (input, slot)) (keys_of (shared_of gs)) ≡ true
      by input slot interval number selects (Some held) at = found_shared gs (record { input = input; slot = slot }) held at
      by input slot interval number selects None none = absurd (none_selects gs files numbers scans shelved grouped input slot none interval number selects)

  -- the two sums, put together, are the number of all rows
  pub counts_rows : (most own shared result : ℕ) → most ≡ 2 ^ 64 - 1 → own ≡ min most (total_by (λ (entry : ℕ × File). count_of entry.1.content) files) → shared ≡ min most (total_by (λ (entry : Group × RangeState). length entry.1.rows) gs)
      → result ≡ min (own + shared) most → CountsRows (shown gs files) result
  counts_rows most own shared result m o s is = record {
    own = own_of files;
    are_own = are_own;
    shared = shared_of gs;
    are_shared = are_shared;
    count = is ∙ (λ i. min (o i + s i) most) ∙ both_sums most _ _ ∙ (λ i. min (m i) (sym (own_total files) i + sym (shared_total gs) i));
  }
