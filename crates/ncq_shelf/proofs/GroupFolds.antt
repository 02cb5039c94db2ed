-- A group's file of which pairs of rows were struck out, and the files that are views of it.
use Rattle.std.proofs.Common.{◌≡◌, ℕ, ◌≤◌, ◌∙◌, Bool, true, cond, List, Some, nat_eq, inl, inr, refl, sym, ap, subst, arith}
use Rattle.std.specs.FinMap.{get}
use Rattle.std.specs.List.{AllByRecursion}
use Rattle.std.specs.Map.{lookup}
use Rattle.std.specs.Option.{option_map}
use Rattle.ncq_base.specs.Counts.{total_by}
use Rattle.ncq_row.specs.Embeddings.{Row}
use Rattle.ncq_plan.specs.declared.expr.Expr.{Expr}
use Rattle.ncq_plan.specs.Meets.{is_within}
use Rattle.ncq_midfile.specs.Folds.{AreBoundBy, IsFolded}
use Rattle.ncq_midfile.specs.Views.{RangeState, is_held, of_rows}
use Rattle.ncq_midfile.specs.declared.signed.SignedRow.{SignedRow}
use Rattle.ncq_midfile.proofs.FoldLaws.{folded_each}
use Rattle.ncq_readers.specs.ReaderTables.{ReaderTables}
use Rattle.ncq_shelf.specs.Bounds.{AreBounds, IsBelowBase}
use Rattle.ncq_shelf.specs.Contents.{AreFolded, KeepsContents}
use Rattle.ncq_shelf.specs.Groups.{Groups, IsTaken, intervals_in, is_group}
use Rattle.ncq_shelf.specs.KeptFiles.{KeptFile, Files}
use Rattle.ncq_shelf.specs.Keyed.{AreHeld, IsKept, IsKey, IsKeyed, is_held as is_noted}
use Rattle.ncq_shelf.specs.Shown.{shown, state_of}
use Rattle.ncq_shelf.specs.Stands.{IsThere}
use Rattle.ncq_shelf.specs.declared.file.File.{File}
use Rattle.ncq_shelf.specs.declared.group.Group.{Group}
use Rattle.ncq_shelf.specs.declared.keys.Keys.{Keys}
use Rattle.ncq_shelf.proofs.AnyGroups.{shelved_any}
use Rattle.ncq_shelf.proofs.Consumers.{range_reader, reader_range}
use Rattle.ncq_shelf.proofs.FoldBounds.{all_rows, bound_all, bound_by, content_stays}
use Rattle.ncq_shelf.proofs.GroupWrites.{IsViewOf, grouped_then, here, other_same, rows_in, same_base, view_or_other}
use Rattle.ncq_shelf.proofs.Grouped.{not_there}
use Rattle.ncq_shelf.proofs.Indexes.{shown_at, kept_at}
use Rattle.ncq_shelf.proofs.IntervalReaders.{holder_of, held_of}
use Rattle.ncq_shelf.proofs.KeyLaws.{all_map}
use Rattle.ncq_shelf.proofs.KeyedLaws.{keyed_back}
use Rattle.ncq_shelf.proofs.Maps.{one_value}
use Rattle.ncq_shelf.proofs.ShownFiles.{get_shown}
use Rattle.ncq_shelf.proofs.VirtualFiles.{held_taken, taken_held, view_selects}
use Rattle.ncq_shelf.proofs.Widths.{virtual_rows}

-- where no row went all is kept
pub keeps_itself : (file : KeptFile) → KeepsContents file file
keeps_itself file = record { expr = refl; uses = refl; base = refl; later = refl; stays = λ at list le is. is; fewer = λ f. omega arith }

pub folds_itself : (files : Files) → AreFolded files files
folds_itself files = record { each = λ number file at. (file, at, keeps_itself file); only = λ number none. none }

-- the bounds of the rows of a group's file, which is found once more
pub bounds_there : (gs : Groups) (files : List (ℕ × File)) (m : Files) → shown gs files ≡ m → (group : Group) (range held : RangeState) → Some range ≡ lookup (is_group group) gs → Some held ≡ lookup (is_group group) gs
    → (rows : List SignedRow) → rows ≡ range.rows → (bounds told : List ℕ) → told ≡ bounds → AreBounds m group.input group.slot rows bounds → AreBounds (shown gs files) group.input group.slot held.rows told
bounds_there gs files m seen group range held found again rows is bounds told same are =
    subst (λ f. AreBounds f group.input group.slot held.rows told) (sym seen)
    (subst (λ bs. AreBounds m group.input group.slot held.rows bs) (sym same)
    (subst (λ rs. AreBounds m group.input group.slot rs bounds) (is ∙ ap (λ (s : RangeState). s.rows) (one_value (sym found) (sym again))) are))

module _ (gs : Groups) (files : List (ℕ × File)) (numbers : List (Expr × ℕ)) (scans : List (List ℕ × ReaderTables)) (keys : Keys) (kept : IsKept gs files numbers scans keys)
    (hs : Groups) (group : Group) (held w : RangeState) (at : lookup (is_group group) gs ≡ Some held)
    (now : (q : Group) → lookup (is_group q) hs ≡ cond (is_group group q) (Some w) (lookup (is_group q) gs)) (slot : w.slot ≡ held.slot)
    (bounds : List ℕ) (are : AreBounds (shown gs files) group.input group.slot held.rows bounds)
    (folded : (test : Row → Bool) (m : ℕ) → AreBoundBy test m held.rows bounds → IsFolded m (of_rows test held.rows) (of_rows test w.rows)) where
  -- a view of the group is folded up to its base
  view_folded : (n : ℕ) (file : File) → lookup (nat_eq n) files ≡ Some file → IsViewOf group file → IsFolded (state_of gs file).content.base (state_of gs file).content.rows (state_of hs file).content.rows
  view_folded n file there v =
      let base = (state_of gs file).content.base in
      let selects = view_selects gs files numbers scans kept.shelved kept.grouped.right kept.grouped.over group v.interval n (record { file = file; inner = v.inner; at = there; of = v.of; is = v.is }) in
      let below : (b : ℕ) → IsBelowBase (shown gs files) b n → b ≤ base = λ b is. is (state_of gs file) (shown_at gs files n file there) in
      let old : (state_of gs file).content.rows ≡ of_rows (is_within group.slot v.interval) held.rows =
      virtual_rows gs file.expr v.inner file.content group v.interval v.of v.is ∙ ap (λ o. of_rows (is_within group.slot v.interval) (rows_in o)) at in
      let new : (state_of hs file).content.rows ≡ of_rows (is_within group.slot v.interval) w.rows =
      virtual_rows hs file.expr v.inner file.content group v.interval v.of v.is ∙ ap (λ o. of_rows (is_within group.slot v.interval) (rows_in o)) (here gs hs group held w at now) in
      let f = folded (is_within group.slot v.interval) base (bound_by (shown gs files) group.input group.slot v.interval n base selects below held.rows bounds are) in
      subst (λ rs. IsFolded base rs (state_of hs file).content.rows) (sym old) (subst (λ rs. IsFolded base (of_rows (is_within group.slot v.interval) held.rows) rs) (sym new) f)

  keeps : (n : ℕ) (file : File) → lookup (nat_eq n) files ≡ Some file → KeepsContents (state_of gs file) (state_of hs file)
  keeps n file there = elim (view_or_other gs files kept.grouped group n file there) as (λ _. KeepsContents (state_of gs file) (state_of hs file)) [
    | inl v ↦
        let f = view_folded n file there v in
        record {
          expr = refl;
          uses = refl;
          base = same_base gs hs group held w at now file.expr file.content;
          later = f.later;
          stays = λ at list up is. content_stays (state_of gs file).content.base at (state_of gs file).content.rows (state_of hs file).content.rows f up list is;
          fewer = f.fewer;
        }
    | inr o ↦ subst (KeepsContents (state_of gs file)) (sym (other_same gs hs group held w at now file o)) (keeps_itself (state_of gs file))
  ]

  pub are_folded : AreFolded (shown gs files) (shown hs files)
  are_folded = record {
    each = λ n f there.
        let k = kept_at gs files n f there in
        (state_of hs k.0, shown_at hs files n k.0 k.1, subst (λ (x : KeptFile). KeepsContents x (state_of hs k.0)) (sym k.2) (keeps n k.0 k.1));
    only = λ n none. get_shown hs files n ∙ ap (option_map (state_of hs)) (not_there gs files n none);
  }

  -- the rows of each file are noted still
  noted : (n : ℕ) (file : File) → lookup (nat_eq n) files ≡ Some file → (s : ℕ) → AreHeld keys.holders n s (state_of gs file).content.rows → AreHeld keys.holders n s (state_of hs file).content.rows
  noted n file there s was = elim (view_or_other gs files kept.grouped group n file there) as (λ _. AreHeld keys.holders n s (state_of hs file).content.rows) [
    | inl v ↦ folded_each (state_of gs file).content.base (λ r. is_noted keys.holders n s r.row) (state_of gs file).content.rows (state_of hs file).content.rows (view_folded n file there v) was
    | inr o ↦ subst (λ (f : KeptFile). AreHeld keys.holders n s f.content.rows) (sym (other_same gs hs group held w at now file o)) was
  ]

  keyed_then : IsKeyed (shown hs files) keys
  keyed_then = keyed_back gs (shown gs files) (shown hs files) keys forth back kept.keyed
    where
      forth : (n : ℕ) → IsThere (shown gs files) n → IsThere (shown hs files) n
      forth n t = let k = kept_at gs files n t.file t.at in record { file = state_of hs k.0; at = shown_at hs files n k.0 k.1 }

      back : (n : ℕ) (g : KeptFile) → get (shown hs files) n ≡ Some g → (f : KeptFile) × (get (shown gs files) n ≡ Some f) × (f.expr ≡ g.expr) × ((s : ℕ) → IsKey keys n s → AreHeld keys.holders n s f.content.rows → AreHeld keys.holders n s g.content.rows)
      back n g found =
          let k = kept_at hs files n g found in (
            state_of gs k.0,
            shown_at gs files n k.0 k.1,
            ap (λ (f : KeptFile). f.expr) (sym k.2),
            λ s key was. subst (λ (f : KeptFile). AreHeld keys.holders n s f.content.rows) (sym k.2) (noted n k.0 k.1 s was),
          )

  module _ (input : IsThere (shown gs files) group.input) where
    top : (file : File) × (lookup (nat_eq group.input) files ≡ Some file) × (input.file ≡ state_of gs file)
    top = kept_at gs files group.input input.file input.at

    -- a row is taken where an interval of the slot has it
    is_kept : (r : SignedRow) → IsTaken files group r.row → is_held group.slot (intervals_in top.0.readers group.slot) r.row ≡ true
    is_kept r t =
        let h = taken_held gs files numbers scans kept.shelved kept.grouped.right kept.grouped.over group r.row t in
        held_of top.0.readers group.slot h.takes.interval h.number (range_reader gs files numbers scans kept.shelved group.input top.0 top.1 h.number group.slot h.takes.interval h.takes.selects) r.row h.takes.within

    was_kept : (r : SignedRow) → is_held group.slot (intervals_in top.0.readers group.slot) r.row ≡ true → IsTaken files group r.row
    was_kept r h =
        let o = holder_of top.0.readers group.slot r.row h in
        held_taken gs files numbers scans kept.shelved kept.grouped.right kept.grouped.over group.input group.slot r.row
        (record { number = o.number; takes = record { interval = o.interval; selects = reader_range gs files numbers scans kept.shelved group.input top.0 top.1 o.number group.slot o.interval o.reads; within = o.within } })

    all_folded : IsFolded (total_by (λ (b : ℕ). b) bounds) held.rows w.rows
    all_folded =
        let m = total_by (λ (b : ℕ). b) bounds in
        let f = folded (λ _. true) m (bound_all (shown gs files) group.input group.slot m held.rows bounds are (omega arith)) in
        subst (λ rs. IsFolded m rs w.rows) (all_rows held.rows) (subst (λ rs. IsFolded m (of_rows (λ _. true) held.rows) rs) (all_rows w.rows) f)

    still_taken : AllByRecursion (λ r. IsTaken files group r.row) w.rows
    still_taken =
        let test : SignedRow → Bool = λ r. is_held group.slot (intervals_in top.0.readers group.slot) r.row in
        all_map (λ (r : SignedRow). test r ≡ true) (λ (r : SignedRow). IsTaken files group r.row) was_kept w.rows
        (folded_each (total_by (λ (b : ℕ). b) bounds) test held.rows w.rows all_folded
        (all_map (λ (r : SignedRow). IsTaken files group r.row) (λ (r : SignedRow). test r ≡ true) is_kept held.rows (kept.grouped.taken group held at)))

    pub kept_folded : IsKept hs files numbers scans keys
    kept_folded = record {
      shelved = shelved_any files gs hs numbers scans kept.shelved;
      grouped = grouped_then gs hs group held w at now slot files kept.grouped still_taken;
      keyed = keyed_then;
    }
