-- What files show where groups changed: all show what they did, or one more file has come.
use Rattle.std.proofs.Common.{◌≡◌, ◌⊎◌, ℕ, ◌++◌, Bool, true, false, not, cond, List, Some, None, Option, nat_eq, inl, inr, refl, sym, ap, ◌∙◌, subst, true≢false, append-nil}
use Rattle.std.specs.List.{AllByRecursion}
use Rattle.std.specs.Map.{lookup}
use Rattle.std.specs.Option.{option_map}
use Rattle.std.proofs.lemmas.Bool.{eqb-true, eq-eqb}
use Rattle.std.proofs.lemmas.Cmp.{nat_cmp_total}
use Rattle.std.specs.FinMap.{same_map, nat_cmp-IsAntisymmetric}
use Rattle.ncq_base.specs.declared.interval.Interval.{Interval}
use Rattle.ncq_base.proofs.Tests.{both_true}
use Rattle.ncq_plan.specs.declared.expr.Expr.{Expr}
use Rattle.ncq_plan.specs.declared.expr.Expr.TheVariants.{RangeSel}
use Rattle.ncq_plan.specs.declared.expr.Expr.TheViews.{out-Expr}
use Rattle.ncq_midfile.specs.Views.{RangeState, is_within, is_held, is_missing, of_rows}
use Rattle.ncq_midfile.specs.declared.signed.SignedRow.{SignedRow}
use Rattle.ncq_midfile.proofs.Withins.{filter_append}
use Rattle.ncq_readers.specs.Readings.Reading.{range}
use Rattle.ncq_readers.specs.ReaderTables.{ReaderTables, IsReader}
use Rattle.ncq_shelf.specs.Groups.{Groups, IsGrouped, IsRightFor, IsTaken, IsVirtual, HasGroup, BringsRows, GainsRows, KeepsRows, content_of, group_of, is_group, picked, rows_of_group, intervals_at}
use Rattle.ncq_shelf.specs.Shown.{shown, state_of}
use Rattle.ncq_shelf.specs.Wired.{IsShelved}
use Rattle.ncq_shelf.specs.declared.file.File.{File}
use Rattle.ncq_shelf.specs.declared.group.Group.{Group}
use Rattle.ncq_shelf.specs.declared.inputs.Inputs.TheVariants.{One}
use Rattle.ncq_shelf.specs.declared.rows.Rows.{Rows}
use Rattle.ncq_shelf.specs.declared.rows.Rows.TheVariants.{Whole, Ranged}
use Rattle.ncq_shelf.proofs.Consumers.{range_reader}
use Rattle.ncq_shelf.proofs.GroupGains.{group_is, all_both, none_of, rows_in_file}
use Rattle.ncq_shelf.proofs.Indexes.{shown_at, kept_at}
use Rattle.ncq_shelf.proofs.IntervalReaders.{first_of, held_of, intervals_here}
use Rattle.ncq_shelf.proofs.KeyLaws.{all_map}
use Rattle.ncq_shelf.proofs.Maps.{one_value, there as is_there}
use Rattle.ncq_shelf.proofs.ShownFiles.{get_shown}
use Rattle.ncq_shelf.proofs.Widths.{over_inner, virtual_rows}

-- each row of a group is one of its files'
pub all_taken : (files : List (ℕ × File)) (gs : Groups) (grouped : IsGrouped files gs) (group : Group) → AllByRecursion (λ r. IsTaken files group r.row) (rows_of_group gs group)
all_taken files gs grouped group = by (lookup (is_group group) gs) refl
  where
    by : (o : Option RangeState) → lookup (is_group group) gs ≡ o → AllByRecursion (λ r. IsTaken files group r.row) (rows_of_group gs group)
    by None e = subst (λ o. AllByRecursion (λ r. IsTaken files group r.row) (rows_in_file o)) (sym e) tt
    by (Some held) e = subst (λ o. AllByRecursion (λ r. IsTaken files group r.row) (rows_in_file o)) (sym e) (grouped.taken group held e)

-- a virtual file is a reader of its group's input
pub record ReadsGroup (files : List (ℕ × File)) (group : Group) (interval : Interval) (number : ℕ) : Type 0 where
  pub input : File
  pub at : lookup (nat_eq group.input) files ≡ Some input
  pub reads : IsReader input.readers (range group.slot interval) number

module _ (gs : Groups) (files : List (ℕ × File)) (numbers : List (Expr × ℕ)) (scans : List (List ℕ × ReaderTables)) (shelved : IsShelved gs files numbers scans) (grouped : IsGrouped files gs) where
  pub reads_group : (n : ℕ) (file : File) (group : Group) (inner : Expr) (interval : Interval) → lookup (nat_eq n) files ≡ Some file → group_of file.content ≡ Some group → file.expr ≡ RangeSel inner group.slot interval → ReadsGroup files group interval n
  reads_group n file group inner interval at of is =
      let over = over_inner gs files numbers scans shelved grouped n file group inner group.slot interval at of is in
      let k = kept_at gs files group.input over.file over.at in
      record {
        input = k.0;
        at = k.1;
        reads = range_reader gs files numbers scans shelved group.input k.0 k.1 n group.slot interval
            (record { inner = inner; stands = record { file = state_of gs file; at = shown_at gs files n file at; of = is }; over = over });
      }

module _ (gs hs : Groups) where
  -- where files have what they had, they are seen as they were
  pub shown_as : (files : List (ℕ × File)) → ((n : ℕ) (f : File) → lookup (nat_eq n) files ≡ Some f → content_of hs f.expr f.content ≡ content_of gs f.expr f.content) → shown hs files ≡ shown gs files
  shown_as files same = same_map nat_cmp_total nat_cmp-IsAntisymmetric _ _ (λ q. get_shown hs files q ∙ by q (lookup (nat_eq q) files) refl ∙ sym (get_shown gs files q))
    where
      by : (q : ℕ) (o : Option File) → lookup (nat_eq q) files ≡ o → option_map (state_of hs) o ≡ option_map (state_of gs) o
      by q None e = refl
      by q (Some f) e = λ i. Some (record { expr = f.expr; uses = f.uses; content = same q f e i })

  -- all groups have the rows that they had
  module _ (files : List (ℕ × File)) (group : Group) (keeps : KeepsRows files gs group hs) where
    pub rows_kept : (g : Group) → rows_of_group hs g ≡ rows_of_group gs g
    rows_kept g = by (is_group group g) refl
      where
        by : (b : Bool) → is_group group g ≡ b → rows_of_group hs g ≡ rows_of_group gs g
        by true q = subst (λ x. rows_of_group hs x ≡ rows_of_group gs x) (group_is group g q) keeps.here
        by false q = ap rows_in_file (keeps.others g q)

    same_content : (expr : Expr) (rows : Rows) → content_of hs expr rows ≡ content_of gs expr rows
    same_content expr (Whole file) = refl
    same_content expr (Ranged g base) = λ i. record { base = base; rows = picked (out-Expr expr) (rows_kept g i) }

    pub shown_kept : (all : List (ℕ × File)) → shown hs all ≡ shown gs all
    shown_kept all = shown_as all (λ n f at. same_content f.expr f.content)

    module _ (numbers : List (Expr × ℕ)) (scans : List (List ℕ × ReaderTables)) (shelved : IsShelved gs files numbers scans) (grouped : IsGrouped files gs) where
      right_kept : (n : ℕ) (f : File) → lookup (nat_eq n) files ≡ Some f → (o : Option Group) → group_of f.content ≡ o → IsRightFor gs f.expr o → IsRightFor hs f.expr o
      right_kept n f at None of h = h
      right_kept n f at (Some g) of v = by (is_group group g) refl
        where
          virtual : HasGroup hs g → IsVirtual hs f.expr g
          virtual has = record { inner = v.inner; interval = v.interval; is = v.is; held = has.held; at = has.at; slot = has.slot }

          by : (b : Bool) → is_group group g ≡ b → IsVirtual hs f.expr g
          by true q =
              let e = group_is group g q in
              let r = reads_group gs files numbers scans shelved grouped n f g v.inner v.interval at of v.is in
              let first = first_of r.input.readers g.slot v.interval n r.reads in
              let had : HasGroup gs g = record { held = v.held; at = v.at; slot = v.slot } in
              virtual (subst (HasGroup hs) e (keeps.some (subst (HasGroup gs) (sym e) had) first.0 first.1 (ap (intervals_at files) e ∙ intervals_here files g r.input r.at ∙ first.2)))
          by false q = virtual (record { held = v.held; at = keeps.others g q ∙ v.at; slot = v.slot })

      pub grouped_kept : IsGrouped files hs
      grouped_kept = record {
        right = λ n f at. right_kept n f at (group_of f.content) refl (grouped.right n f at);
        over = grouped.over;
        slots = λ g held at. slot_of g held at (is_group group g) refl;
        taken = λ g held at. subst (AllByRecursion (λ r. IsTaken files g r.row)) (sym (rows_kept g) ∙ ap rows_in_file at) (all_taken files gs grouped g);
      }
        where
          slot_of : (g : Group) (held : RangeState) → lookup (is_group g) hs ≡ Some held → (b : Bool) → is_group group g ≡ b → held.slot ≡ g.slot
          slot_of g held at true q =
              let e = group_is group g q in
              keeps.slot held (ap (λ x. lookup (is_group x) hs) e ∙ at) ∙ ap (λ (x : Group). x.slot) e
          slot_of g held at false q = grouped.slots g held (sym (keeps.others g q) ∙ at)

  -- a group has more rows, of which no file of it takes any
  module _ (group : Group) (rows : List SignedRow) (gains : GainsRows gs group rows hs) where
    pub rows_elsewhere : (g : Group) → is_group group g ≡ false → rows_of_group hs g ≡ rows_of_group gs g
    rows_elsewhere g q = ap rows_in_file (gains.others g q)

    module _ (files : List (ℕ × File)) (numbers : List (Expr × ℕ)) (scans : List (List ℕ × ReaderTables)) (shelved : IsShelved gs files numbers scans) (grouped : IsGrouped files gs) (whole : Expr) (brings : BringsRows files group whole rows) where
      not_so : (a b : Bool) → not b ≡ true → (a ≡ true → b ≡ true) → a ≡ false
      not_so true b e h = absurd (true≢false (sym e ∙ ap not (h refl)))
      not_so false b e h = refl

      -- what a file of the group has
      same_picked : (n : ℕ) (f : File) (inner : Expr) (interval : Interval) → lookup (nat_eq n) files ≡ Some f → group_of f.content ≡ Some group → f.expr ≡ RangeSel inner group.slot interval
          → of_rows (is_within group.slot interval) (rows_of_group hs group) ≡ of_rows (is_within group.slot interval) (rows_of_group gs group)
      same_picked n f inner interval at of is =
          let r = reads_group gs files numbers scans shelved grouped n f group inner interval at of is in
          let held : (x : SignedRow) → is_within group.slot interval x.row ≡ true → is_held group.slot (intervals_at files group) x.row ≡ true =
          λ x h. ap (λ l. is_held group.slot l x.row) (intervals_here files group r.input r.at) ∙ held_of r.input.readers group.slot interval n r.reads x.row h in
          ap (of_rows (is_within group.slot interval)) gains.here
          ∙ filter_append (λ (x : SignedRow). is_within group.slot interval x.row) (rows_of_group gs group) rows
          ∙ ap (λ l. of_rows (is_within group.slot interval) (rows_of_group gs group) ++ l)
          (none_of (is_within group.slot interval) rows
          (all_map (λ (x : SignedRow). is_missing group.slot (intervals_at files group) brings.interval x.row ≡ true) (λ (x : SignedRow). is_within group.slot interval x.row ≡ false)
          (λ x m. not_so (is_within group.slot interval x.row) (is_held group.slot (intervals_at files group) x.row) (both_true (is_within group.slot brings.interval x.row) (not (is_held group.slot (intervals_at files group) x.row)) m).1 (held x)) rows brings.missing))
          ∙ append-nil _

      still : (n : ℕ) (f : File) → lookup (nat_eq n) files ≡ Some f → content_of hs f.expr f.content ≡ content_of gs f.expr f.content
      still n f at = by f.content refl
        where
          by : (content : Rows) → f.content ≡ content → content_of hs f.expr content ≡ content_of gs f.expr content
          by (Whole own) is = refl
          by (Ranged g base) is = λ i. record { base = base; rows = seen (is_group group g) refl i }
            where
              of : group_of f.content ≡ Some g
              of = ap group_of is

              v : IsVirtual gs f.expr g
              v = subst (IsRightFor gs f.expr) of (grouped.right n f at)

              here : group ≡ g → of_rows (is_within g.slot v.interval) (rows_of_group hs g) ≡ of_rows (is_within g.slot v.interval) (rows_of_group gs g)
              here e = subst (λ x. of_rows (is_within x.slot v.interval) (rows_of_group hs x) ≡ of_rows (is_within x.slot v.interval) (rows_of_group gs x)) e
                  (same_picked n f v.inner v.interval at (of ∙ ap Some (sym e)) (v.is ∙ ap (λ (x : Group). RangeSel v.inner x.slot v.interval) (sym e)))

              seen : (b : Bool) → is_group group g ≡ b → picked (out-Expr f.expr) (rows_of_group hs g) ≡ picked (out-Expr f.expr) (rows_of_group gs g)
              seen true q =
                  virtual_rows hs f.expr v.inner (Ranged g base) g v.interval refl v.is ∙ here (group_is group g q)
                  ∙ sym (virtual_rows gs f.expr v.inner (Ranged g base) g v.interval refl v.is)
              seen false q = ap (picked (out-Expr f.expr)) (rows_elsewhere g q)

      pub shown_gained : shown hs files ≡ shown gs files
      shown_gained = shown_as files still

    -- and a file comes in that takes them
    module _ (old new : List (ℕ × File)) (number : ℕ) (file : File) (absent : lookup (nat_eq number) old ≡ None) (is : (q : ℕ) → lookup (nat_eq q) new ≡ cond (nat_eq number q) (Some file) (lookup (nat_eq q) old))
        (inner : Expr) (interval : Interval) (of : group_of file.content ≡ Some group) (expr : file.expr ≡ RangeSel inner group.slot interval) (input : file.inputs ≡ One group.input)
        (its : AllByRecursion (λ r. is_within group.slot interval r.row ≡ true) rows) (grouped : IsGrouped old gs) where
      which : (n : ℕ) (g : File) → lookup (nat_eq n) new ≡ Some g → (file ≡ g) ⊎ (lookup (nat_eq n) old ≡ Some g)
      which n g at = elim (nat_eq number n) as (λ b. cond b (Some file) (lookup (nat_eq n) old) ≡ Some g → (file ≡ g) ⊎ (lookup (nat_eq n) old ≡ Some g)) [ true ↦ λ e. inl (one_value refl e) | false ↦ λ e. inr e ] (sym (is n) ∙ at)

      stays : (n : ℕ) (g : File) → lookup (nat_eq n) old ≡ Some g → lookup (nat_eq n) new ≡ Some g
      stays n g at = elim (nat_eq number n) as (λ b. nat_eq number n ≡ b → lookup (nat_eq n) new ≡ Some g) [
        | true ↦ λ q. absurd (is_there (subst (λ m. lookup (nat_eq m) old ≡ Some g) (sym (eqb-true number n q)) at) absent)
        | false ↦ λ q. is n ∙ ap (λ b. cond b (Some file) (lookup (nat_eq n) old)) q ∙ at
      ] refl

      its_place : lookup (nat_eq number) new ≡ Some file
      its_place = is number ∙ ap (λ b. cond b (Some file) (lookup (nat_eq number) old)) (eq-eqb number number refl)

      right_more : (e : Expr) (o : Option Group) → IsRightFor gs e o → IsRightFor hs e o
      right_more e None h = h
      right_more e (Some g) v = by (is_group group g) refl
        where
          virtual : HasGroup hs g → IsVirtual hs e g
          virtual has = record { inner = v.inner; interval = v.interval; is = v.is; held = has.held; at = has.at; slot = has.slot }

          by : (b : Bool) → is_group group g ≡ b → IsVirtual hs e g
          by true q = virtual (subst (HasGroup hs) (group_is group g q) gains.there)
          by false q = virtual (record { held = v.held; at = gains.others g q ∙ v.at; slot = v.slot })

      taken_on : (g : Group) (r : SignedRow) → IsTaken old g r.row → IsTaken new g r.row
      taken_on g r t = record { number = t.number; file = t.file; inner = t.inner; interval = t.interval; at = stays t.number t.file t.at; of = t.of; is = t.is; within = t.within }

      all_more : (g : Group) → AllByRecursion (λ r. IsTaken new g r.row) (rows_of_group gs g)
      all_more g = all_map (λ (r : SignedRow). IsTaken old g r.row) (λ (r : SignedRow). IsTaken new g r.row) (taken_on g) (rows_of_group gs g) (all_taken old gs grouped g)

      all_here : AllByRecursion (λ r. IsTaken new group r.row) (rows_of_group hs group)
      all_here = subst (AllByRecursion (λ r. IsTaken new group r.row)) (sym gains.here)
          (all_both (λ (r : SignedRow). IsTaken new group r.row) (rows_of_group gs group) rows (all_more group)
          (all_map (λ (r : SignedRow). is_within group.slot interval r.row ≡ true) (λ (r : SignedRow). IsTaken new group r.row)
          (λ r h. record { number = number; file = file; inner = inner; interval = interval; at = its_place; of = of; is = expr; within = h }) rows its))

      pub grouped_gained : IsGrouped new hs
      grouped_gained = record {
        right = λ n g at. elim (which n g at) as (λ _. IsRightFor hs g.expr (group_of g.content)) [
          | inl e ↦ subst (λ (f : File). IsRightFor hs f.expr (group_of f.content)) e
              (subst (IsRightFor hs file.expr) (sym of) (record { inner = inner; interval = interval; is = expr; held = gains.there.held; at = gains.there.at; slot = gains.there.slot }))
          | inr was ↦ right_more g.expr (group_of g.content) (grouped.right n g was)
        ];
        over = λ n g other at by_it. elim (which n g at) as (λ _. g.inputs ≡ One other.input) [
          | inl e ↦ ap (λ (f : File). f.inputs) (sym e) ∙ input ∙ ap (λ (x : Group). One x.input) (one_value of (ap (λ (f : File). group_of f.content) e ∙ by_it))
          | inr was ↦ grouped.over n g other was by_it
        ];
        slots = λ g held at. slot_of g held at (is_group group g) refl;
        taken = λ g held at. subst (AllByRecursion (λ r. IsTaken new g r.row)) (ap rows_in_file at) (taken_at g (is_group group g) refl);
      }
        where
          slot_of : (g : Group) (held : RangeState) → lookup (is_group g) hs ≡ Some held → (b : Bool) → is_group group g ≡ b → held.slot ≡ g.slot
          slot_of g held at true q =
              let e = group_is group g q in
              ap (λ (h : RangeState). h.slot) (one_value at (ap (λ x. lookup (is_group x) hs) (sym e) ∙ gains.there.at)) ∙ gains.there.slot ∙ ap (λ (x : Group). x.slot) e
          slot_of g held at false q = grouped.slots g held (sym (gains.others g q) ∙ at)

          taken_at : (g : Group) (b : Bool) → is_group group g ≡ b → AllByRecursion (λ r. IsTaken new g r.row) (rows_of_group hs g)
          taken_at g true q = subst (λ x. AllByRecursion (λ r. IsTaken new x r.row) (rows_of_group hs x)) (group_is group g q) all_here
          taken_at g false q = subst (AllByRecursion (λ r. IsTaken new g r.row)) (sym (rows_elsewhere g q)) (all_more g)
