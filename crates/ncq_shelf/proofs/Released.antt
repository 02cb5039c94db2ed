-- A file goes, and with it the rows of its group that no other file of the group takes.
use Rattle.std.proofs.Common.{◌≡◌, ◌≢◌, ◌||◌, ℕ, Bool, true, false, cond, List, [], ◌∷◌, Some, None, Option, nat_eq, inl, inr, refl, sym, ap, ◌∙◌, subst, true≢false}
use Rattle.std.specs.List.{AllByRecursion}
use Rattle.std.specs.Map.{lookup, keys_of}
use Rattle.std.specs.Option.{option_map, option_map_or, option_and_then}
use Rattle.std.specs.FinMap.{same_map, nat_cmp-IsAntisymmetric}
use Rattle.std.proofs.lemmas.Cmp.{nat_cmp_total}
use Rattle.std.proofs.lemmas.Bool.{cases_eq, eq-eqb, ne_eqb}
use Rattle.ncq_base.specs.declared.atom.FileId.{FileId}
use Rattle.ncq_base.specs.declared.interval.Interval.{Interval}
use Rattle.ncq_consttab.specs.Ranges.{is_interval}
use Rattle.ncq_consttab.proofs.Intervals.{interval_is}
use Rattle.ncq_row.specs.Embeddings.{Row}
use Rattle.ncq_plan.specs.declared.expr.Expr.{Expr}
use Rattle.ncq_plan.specs.declared.expr.Expr.TheViews.{out-Expr}
use Rattle.ncq_plan.specs.Meets.{is_within}
use Rattle.ncq_midfile.specs.Views.{RangeState, AreHeld, is_held, of_rows}
use Rattle.ncq_midfile.specs.declared.signed.SignedRow.{SignedRow}
use Rattle.ncq_midfile.proofs.ViewLaws.{keep_leaves, keep_holds}
use Rattle.ncq_readers.specs.ReaderTables.{ReaderTables, IsReader}
use Rattle.ncq_readers.specs.Readings.Reading.{range}
use Rattle.ncq_shelf.specs.Enrolled.{HasFile}
use Rattle.ncq_shelf.specs.Groups.{Groups, HasGroup, IsGrouped, IsReleased, IsRightFor, IsTaken, IsVirtual, content_of, group_of, intervals_at, is_group, picked, rows_of_group}
use Rattle.ncq_shelf.specs.Inputs.{AreInputs}
use Rattle.ncq_shelf.specs.Shown.{shown, state_of}
use Rattle.ncq_shelf.specs.Wired.{HasOthers, IsShelved}
use Rattle.ncq_shelf.specs.declared.file.File.{File}
use Rattle.ncq_shelf.specs.declared.group.Group.{Group}
use Rattle.ncq_shelf.specs.declared.inputs.Inputs.TheVariants.{One}
use Rattle.ncq_shelf.specs.declared.rows.Rows.{Rows}
use Rattle.ncq_shelf.specs.declared.rows.Rows.TheVariants.{Whole, Ranged}
use Rattle.ncq_shelf.proofs.Consumers.{range_reader}
use Rattle.ncq_shelf.proofs.Grouped.{not_both}
use Rattle.ncq_shelf.proofs.HeldBy.{held_there, told_there, none_held_there}
use Rattle.ncq_shelf.proofs.Indexes.{kept_at}
use Rattle.ncq_shelf.proofs.KeyLaws.{all_map}
use Rattle.ncq_shelf.proofs.Maps.{one_value, there as is_there}
use Rattle.ncq_shelf.proofs.Others.{AreOthers, was_there}
use Rattle.ncq_shelf.proofs.ShownFiles.{get_shown}
use Rattle.ncq_shelf.proofs.VirtualFiles.{IsView, group_is, group_itself, held_taken, one_interval, rows_there, taken_held, view_selects}
use Rattle.ncq_shelf.proofs.Layers.{out-RangeSel}

-- what holds of each key holds of one that is found
all_at_key : (P : Interval → Type 0) (table : List (Interval × FileId)) (i : Interval) (f : FileId) → lookup (is_interval i) table ≡ Some f → AllByRecursion P (keys_of table) → P i
all_at_key P [] i f found all = cc
all_at_key P (e ∷ table) i f found all = by (is_interval i e.0) refl found (λ h. all_at_key P table i f h all.1)
  where
    by : (b : Bool) → is_interval i e.0 ≡ b → cond b (Some e.1) (lookup (is_interval i) table) ≡ Some f → (lookup (is_interval i) table ≡ Some f → P i) → P i
    by true q h rest = subst P (sym (interval_is i e.0 q)) all.0
    by false q h rest = rest h

-- what a file shows depends on the rows of its group that it takes
module _ (gs hs : Groups) (expr : Expr) where
  own_same : (rows : Rows) → group_of rows ≡ None → content_of hs expr rows ≡ content_of gs expr rows
  own_same (Whole file) none = refl
  own_same (Ranged group base) none = absurd (not_both (sym none))

  group_same : (rows : Rows) (group : Group) → group_of rows ≡ Some group → picked (out-Expr expr) (rows_of_group hs group) ≡ picked (out-Expr expr) (rows_of_group gs group)
      → content_of hs expr rows ≡ content_of gs expr rows
  group_same (Whole file) group of same = absurd (not_both of)
  group_same (Ranged g base) group of same =
      let is : g ≡ group = one_value {x = g} refl of in
      λ i. record { base = base; rows = (ap (λ x. picked (out-Expr expr) (rows_of_group hs x)) is ∙ same ∙ ap (λ x. picked (out-Expr expr) (rows_of_group gs x)) (sym is)) i }

-- a file that a virtual one reads stays
pub input_there : (gs : Groups) (f1 f2 : List (ℕ × File)) → AreOthers gs f1 f2 → (file : File) (group : Group) → AreInputs (shown gs f1) file.expr file.inputs → file.inputs ≡ One group.input → HasFile f2 group.input
input_there gs f1 f2 others file group are one =
    let a = subst (λ i. AreInputs (shown gs f1) file.expr i) one are in
    let k = kept_at gs f1 group.input a.stands.file a.stands.at in
    let t = others.there group.input k.0 k.1 in
    record { file = t.0; at = t.1 }

module _ (gs : Groups) (f0 : List (ℕ × File)) (grouped : IsGrouped f0 gs) (number : ℕ) (file : File) (at : lookup (nat_eq number) f0 ≡ Some file)
    (f1 : List (ℕ × File)) (is : (q : ℕ) → lookup (nat_eq q) f1 ≡ cond (nat_eq number q) None (lookup (nat_eq q) f0)) (f2 : List (ℕ × File)) (others : AreOthers gs f1 f2)
    (numbers : List (Expr × ℕ)) (scans : List (List ℕ × ReaderTables)) (shelved : IsShelved gs f2 numbers scans) where
  -- a file that is left was there
  was : (q : ℕ) (g : File) → lookup (nat_eq q) f2 ≡ Some g → (f : File) × (lookup (nat_eq q) f0 ≡ Some f) × HasOthers f g
  was q g here =
      let w = was_there gs f1 f2 others q g here in
      (w.0, before w.0 w.1, w.2)
    where
      before : (f : File) → lookup (nat_eq q) f1 ≡ Some f → lookup (nat_eq q) f0 ≡ Some f
      before f k = elim (cases_eq q number) [
        | inl same ↦ absurd (is_there k (is q ∙ ap (λ b. cond b None (lookup (nat_eq q) f0)) (eq-eqb number q (sym same))))
        | inr differs ↦ sym (is q ∙ ap (λ b. cond b None (lookup (nat_eq q) f0)) (ne_eqb number q (λ e. differs (sym e)))) ∙ k
      ]

  -- a file other than the one that goes is left
  stays : (q : ℕ) (f : File) → q ≢ number → lookup (nat_eq q) f0 ≡ Some f → (g : File) × (lookup (nat_eq q) f2 ≡ Some g) × HasOthers f g
  stays q f differs here = others.there q f (is q ∙ ap (λ b. cond b None (lookup (nat_eq q) f0)) (ne_eqb number q (λ e. differs (sym e))) ∙ here)

  right : (n : ℕ) (g : File) → lookup (nat_eq n) f2 ≡ Some g → IsRightFor gs g.expr (group_of g.content)
  right n g here =
      let w = was n g here in
      subst (λ e. IsRightFor gs e (group_of g.content)) (sym w.2.expr) (subst (λ (rows : Rows). IsRightFor gs w.0.expr (group_of rows)) (sym w.2.content) (grouped.right n w.0 w.1))

  over : (n : ℕ) (g : File) (group : Group) → lookup (nat_eq n) f2 ≡ Some g → group_of g.content ≡ Some group → g.inputs ≡ One group.input
  over n g group here of = let w = was n g here in w.2.inputs ∙ grouped.over n w.0 group w.1 (ap group_of (sym w.2.content) ∙ of)

  -- what another file takes is taken still
  taken_left : (group : Group) (row : Row) (t : IsTaken f0 group row) → t.number ≢ number → IsTaken f2 group row
  taken_left group row t differs =
      let s = stays t.number t.file differs t.at in
      record { number = t.number; file = s.0; inner = t.inner; interval = t.interval; at = s.1; of = ap group_of s.2.content ∙ t.of; is = s.2.expr ∙ t.is; within = t.within }

  -- what takes as the file that goes is that file
  taker_is : (group : Group) (row : Row) (t : IsTaken f0 group row) → t.number ≡ number → t.file ≡ file
  taker_is group row t same = one_value t.at (subst (λ n. lookup (nat_eq n) f0 ≡ Some file) (sym same) at)

  apart : (group : Group) → (group_of file.content ≡ Some group → ⊥) → (row : Row) → IsTaken f0 group row → IsTaken f2 group row
  apart group differs row t = taken_left group row t (λ same. differs (ap (λ (f : File). group_of f.content) (sym (taker_is group row t same)) ∙ t.of))

  -- a file with rows of its own leaves all groups as they are
  grouped_own : group_of file.content ≡ None → IsGrouped f2 gs
  grouped_own none = record {
    right = right;
    over = over;
    slots = grouped.slots;
    taken = λ group held here. all_map (λ (r : SignedRow). IsTaken f0 group r.row) (λ (r : SignedRow). IsTaken f2 group r.row) (λ r. apart group (λ of. not_both (sym none ∙ of)) r.row) held.rows (grouped.taken group held here);
  }

  module _ (group : Group) (of : group_of file.content ≡ Some group) (top : HasFile f2 group.input) (hs : Groups) (released : IsReleased f2 gs group file.expr hs) where
    gone : IsVirtual gs file.expr group
    gone = subst (λ o. IsRightFor gs file.expr o) of (grouped.right number file at)

    abbrev table_at : Option (List (Interval × FileId))
    table_at = lookup (nat_eq group.slot) top.file.readers.ranges

    intervals_are : (o : Option (List (Interval × FileId))) → table_at ≡ o → intervals_at f2 group ≡ option_map_or keys_of o []
    intervals_are o e =
        ap (λ x. option_map_or (λ (f : File). option_map_or keys_of (lookup (nat_eq group.slot) f.readers.ranges) []) x []) top.at
        ∙ ap (λ x. option_map_or keys_of x []) e

    -- the interval of a file that is left is one of those that read
    known : (P : Interval → Type 0) → AllByRecursion P (intervals_at f2 group) → (i : Interval) (n : ℕ) → IsView f2 group i n → P i
    known P all i n v =
        let reader : IsReader top.file.readers (range group.slot i) n = range_reader gs f2 numbers scans shelved group.input top.file top.at n group.slot i (view_selects gs f2 numbers scans shelved right over group i n v) in
        by table_at refl reader
      where
        no_reader : (n : ℕ) → ◌≡◌ {A = Option ℕ} None (Some n) → ⊥
        no_reader n h = cc

        in_table : (table : List (Interval × FileId)) → table_at ≡ Some table → (o : Option FileId) → lookup (is_interval i) table ≡ o → option_map (λ (x : FileId). x.0) o ≡ Some n → P i
        in_table table e None q r = absurd (no_reader n r)
        in_table table e (Some f) q r = all_at_key P table i f q (subst (AllByRecursion P) (intervals_are (Some table) e) all)

        by : (o : Option (List (Interval × FileId))) → table_at ≡ o → option_map (λ (x : FileId). x.0) (option_and_then (λ (t : List (Interval × FileId)). lookup (is_interval i) t) o) ≡ Some n → P i
        by None e r = absurd (no_reader n r)
        by (Some table) e r = in_table table e (lookup (is_interval i) table) refl r

    -- a row is held exactly where a file that is left takes it
    held_is_taken : (row : Row) → is_held group.slot (intervals_at f2 group) row ≡ true → IsTaken f2 group row
    held_is_taken row h = by table_at refl
      where
        by : (o : Option (List (Interval × FileId))) → table_at ≡ o → IsTaken f2 group row
        by None e = absurd (true≢false (sym h ∙ ap (λ is. is_held group.slot is row) (intervals_are None e)))
        by (Some table) e = held_taken gs f2 numbers scans shelved right over group.input group.slot row
            (held_there gs f2 numbers scans shelved group.input top.file top.at group.slot row table e (ap (λ is. is_held group.slot is row) (sym (intervals_are (Some table) e)) ∙ h))

    taken_is_held : (row : Row) → IsTaken f2 group row → is_held group.slot (intervals_at f2 group) row ≡ true
    taken_is_held row t = by table_at refl
      where
        by : (o : Option (List (Interval × FileId))) → table_at ≡ o → is_held group.slot (intervals_at f2 group) row ≡ true
        by None e = absurd (none_held_there gs f2 numbers scans shelved group.input top.file top.at group.slot row e (taken_held gs f2 numbers scans shelved right over group row t))
        by (Some table) e = ap (λ is. is_held group.slot is row) (intervals_are (Some table) e)
            ∙ told_there gs f2 numbers scans shelved group.input top.file top.at group.slot row table e (taken_held gs f2 numbers scans shelved right over group row t)

    either : (row : Row) → IsTaken f0 group row → is_held group.slot (gone.interval ∷ intervals_at f2 group) row ≡ true
    either row t = elim (cases_eq t.number number) [
      | inl same ↦
          let i : t.interval ≡ gone.interval = one_interval t.inner gone.inner group.slot group.slot t.interval gone.interval (sym t.is ∙ ap (λ (f : File). f.expr) (taker_is group row t same) ∙ gone.is) in
          ap (λ b. b || is_held group.slot (intervals_at f2 group) row) (subst (λ j. is_within group.slot j row ≡ true) i t.within)
      | inr differs ↦ ap (λ b. is_within group.slot gone.interval row || b) (taken_is_held row (taken_left group row t differs)) ∙ or_true (is_within group.slot gone.interval row)
    ]
      where
        or_true : (b : Bool) → (b || true) ≡ true
        or_true true = refl
        or_true false = refl

    rows_before : rows_of_group gs group ≡ gone.held.rows
    rows_before = rows_there gs group gone.held gone.at

    all_held : AreHeld group.slot (gone.interval ∷ intervals_at f2 group) (rows_of_group gs group)
    all_held =
        subst (AreHeld group.slot (gone.interval ∷ intervals_at f2 group)) (sym rows_before)
        (all_map (λ (r : SignedRow). IsTaken f0 group r.row) (λ (r : SignedRow). is_held group.slot (gone.interval ∷ intervals_at f2 group) r.row ≡ true) (λ r. either r.row) gone.held.rows (grouped.taken group gone.held gone.at))

    -- the rows that some interval has are left
    rows_after : rows_of_group hs group ≡ of_rows (is_held group.slot (intervals_at f2 group)) (rows_of_group gs group)
    rows_after = released.here gone.inner gone.interval gone.is all_held

    -- each file that is left shows what it showed
    view_same : (i : Interval) (n : ℕ) → IsView f2 group i n → of_rows (is_within group.slot i) (rows_of_group hs group) ≡ of_rows (is_within group.slot i) (rows_of_group gs group)
    view_same i n v =
        ap (of_rows (is_within group.slot i)) rows_after
        ∙ known (λ j. of_rows (is_within group.slot j) (of_rows (is_held group.slot (intervals_at f2 group)) (rows_of_group gs group)) ≡ of_rows (is_within group.slot j) (rows_of_group gs group)) (keep_leaves group.slot (intervals_at f2 group) (rows_of_group gs group)) i n v

    virtual_at : (n : ℕ) (g : File) → lookup (nat_eq n) f2 ≡ Some g → group_of g.content ≡ Some group → IsVirtual gs g.expr group
    virtual_at n g here its = subst (λ o. IsRightFor gs g.expr o) its (right n g here)

    its_group : (g : File) (other : Group) → group_of g.content ≡ Some other → is_group group other ≡ true → group_of g.content ≡ Some group
    its_group g other its same = its ∙ ap Some (sym (group_is group other same))

    content_same : (n : ℕ) (g : File) → lookup (nat_eq n) f2 ≡ Some g → content_of hs g.expr g.content ≡ content_of gs g.expr g.content
    content_same n g here = by (group_of g.content) refl
      where
        in_group : (other : Group) → group_of g.content ≡ Some other → (b : Bool) → is_group group other ≡ b → content_of hs g.expr g.content ≡ content_of gs g.expr g.content
        in_group other its false e = group_same gs hs g.expr g.content other its (ap (λ o. picked (out-Expr g.expr) (option_map_or (λ (h : RangeState). h.rows) o [])) (released.others other e))
        in_group other its true e =
            let same = its_group g other its e in
            let v = virtual_at n g here same in
            let layer = ap out-Expr v.is ∙ out-RangeSel v.inner group.slot v.interval in
            group_same gs hs g.expr g.content group same
            ((λ k. picked (layer k) (rows_of_group hs group))
            ∙ view_same v.interval n (record { file = g; inner = v.inner; at = here; of = same; is = v.is }) ∙ (λ k. picked (sym layer k) (rows_of_group gs group)))

        by : (o : Option Group) → group_of g.content ≡ o → content_of hs g.expr g.content ≡ content_of gs g.expr g.content
        by None e = own_same gs hs g.expr g.content e
        by (Some other) e = in_group other e (is_group group other) refl

    seen_same : (q : ℕ) (o : Option File) → lookup (nat_eq q) f2 ≡ o → option_map (state_of hs) o ≡ option_map (state_of gs) o
    seen_same q None e = refl
    seen_same q (Some g) e = λ i. Some (record { expr = g.expr; uses = g.uses; content = content_same q g e i })

    shown_ranged : shown hs f2 ≡ shown gs f2
    shown_ranged = same_map nat_cmp_total nat_cmp-IsAntisymmetric _ _ (λ q. get_shown hs f2 q ∙ seen_same q (lookup (nat_eq q) f2) refl ∙ sym (get_shown gs f2 q))

    -- where a virtual file of the group is left the group has a file
    group_left : (i : Interval) (n : ℕ) → IsView f2 group i n → HasGroup hs group
    group_left i n v = by (intervals_at f2 group) refl
      where
        by : (is : List Interval) → intervals_at f2 group ≡ is → HasGroup hs group
        by [] e = absurd (known (λ _. ⊥) (subst (AllByRecursion (λ _. ⊥)) (sym e) tt) i n v)
        by (j ∷ js) e = released.some (record { held = gone.held; at = gone.at; slot = gone.slot }) j js e

    right_ranged : (n : ℕ) (g : File) → lookup (nat_eq n) f2 ≡ Some g → IsRightFor hs g.expr (group_of g.content)
    right_ranged n g here = by (group_of g.content) refl (right n g here)
      where
        in_group : (other : Group) → group_of g.content ≡ Some other → IsVirtual gs g.expr other → (b : Bool) → is_group group other ≡ b → IsVirtual hs g.expr other
        in_group other its v false e = record { inner = v.inner; interval = v.interval; is = v.is; held = v.held; at = released.others other e ∙ v.at; slot = v.slot }
        in_group other its v true e =
            let h = subst (HasGroup hs) (group_is group other e) (let same = its_group g other its e in let w = virtual_at n g here same in group_left w.interval n (record { file = g; inner = w.inner; at = here; of = same; is = w.is })) in
            record { inner = v.inner; interval = v.interval; is = v.is; held = h.held; at = h.at; slot = h.slot }

        by : (o : Option Group) → group_of g.content ≡ o → IsRightFor gs g.expr o → IsRightFor hs g.expr o
        by None e r = r
        by (Some other) e v = in_group other e v (is_group group other) refl

    slots_ranged : (other : Group) (held : RangeState) → lookup (is_group other) hs ≡ Some held → held.slot ≡ other.slot
    slots_ranged other held here = by (is_group group other) refl
      where
        by : (b : Bool) → is_group group other ≡ b → held.slot ≡ other.slot
        by true e =
            let same = group_is group other e in
            released.slot (record { held = gone.held; at = gone.at; slot = gone.slot }) held (subst (λ g. lookup (is_group g) hs ≡ Some held) (sym same) here) ∙ ap (λ (g : Group). g.slot) same
        by false e = grouped.slots other held (sym (released.others other e) ∙ here)

    taken_ranged : (other : Group) (held : RangeState) → lookup (is_group other) hs ≡ Some held → AllByRecursion (λ r. IsTaken f2 other r.row) held.rows
    taken_ranged other held here = by (is_group group other) refl
      where
        by : (b : Bool) → is_group group other ≡ b → AllByRecursion (λ r. IsTaken f2 other r.row) held.rows
        by true e =
            let same = group_is group other e in
            let rows : held.rows ≡ of_rows (is_held group.slot (intervals_at f2 group)) (rows_of_group gs group) = sym (rows_there hs group held (subst (λ g. lookup (is_group g) hs ≡ Some held) (sym same) here)) ∙ rows_after in
            subst (λ g. AllByRecursion (λ (r : SignedRow). IsTaken f2 g r.row) held.rows) same
            (all_map (λ (r : SignedRow). is_held group.slot (intervals_at f2 group) r.row ≡ true) (λ (r : SignedRow). IsTaken f2 group r.row) (λ r. held_is_taken r.row) held.rows
            (subst (AreHeld group.slot (intervals_at f2 group)) (sym rows) (keep_holds group.slot (intervals_at f2 group) (rows_of_group gs group))))
        by false e =
            all_map (λ (r : SignedRow). IsTaken f0 other r.row) (λ (r : SignedRow). IsTaken f2 other r.row)
            (λ r. apart other (λ its. true≢false (sym (group_itself group) ∙ ap (is_group group) (one_value of its) ∙ e)) r.row) held.rows
            (grouped.taken other held (sym (released.others other e) ∙ here))

    grouped_ranged : IsGrouped f2 hs
    grouped_ranged = record { right = right_ranged; over = over; slots = slots_ranged; taken = taken_ranged }

  -- the files that are left have their groups, and show what they showed
  module _ (hs : Groups) (own : group_of file.content ≡ None → hs ≡ gs) (ranged : (group : Group) → group_of file.content ≡ Some group → HasFile f2 group.input × IsReleased f2 gs group file.expr hs) where
    pub shown_released : shown hs f2 ≡ shown gs f2
    shown_released = by (group_of file.content) refl
      where
        by : (o : Option Group) → group_of file.content ≡ o → shown hs f2 ≡ shown gs f2
        by None e = ap (λ g. shown g f2) (own e)
        by (Some group) e = let r = ranged group e in shown_ranged group e r.0 hs r.1

    pub grouped_released : IsGrouped f2 hs
    grouped_released = by (group_of file.content) refl
      where
        by : (o : Option Group) → group_of file.content ≡ o → IsGrouped f2 hs
        by None e = subst (IsGrouped f2) (sym (own e)) (grouped_own e)
        by (Some group) e = let r = ranged group e in grouped_ranged group e r.0 hs r.1
