-- How many of the rows that a change makes of a file some selection by an interval over it takes.
use Rattle.std.proofs.Common.{◌≡◌, ℕ, zero, suc, ◌<◌, ◌≤◌, ◌+◌, Bool, true, false, cond, ◌||◌, List, [], ◌∷◌, ◌++◌, length, length-append, nat_eq, nat_lt, Some, Option, ◌⊎◌, inl, inr, refl, sym, ap, ◌∙◌, subst, arith, true≢false}
use Rattle.std.specs.List.{AllByRecursion, list_any}
use Rattle.std.specs.FinMap.{get, entries, get-entries, find}
use Rattle.std.specs.Ordering.{nat_cmp}
use Rattle.std.specs.Cmp.{unsigned_tied}
use Rattle.std.proofs.lemmas.Bool.{cases_eq, eq-eqb, ne_eqb, and_parts, ltb-true}
use Rattle.ncq_base.specs.Counts.{total_by}
use Rattle.ncq_row.specs.Embeddings.{Row}
use Rattle.ncq_plan.specs.declared.expr.Expr.TheVariants.{RangeSel}
use Rattle.ncq_plan.specs.Exprs.{expr_width}
use Rattle.ncq_plan.specs.Totals.{SignedRow as PlainRow, SameChanges, plus_total, minus_total}
use Rattle.ncq_plan.specs.WellFormed.{IsWellFormedExpr, slots_fit}
use Rattle.ncq_plan.proofs.CallerLemmas.{fit_range}
use Rattle.ncq_midfile.specs.declared.signed.SignedRow.{SignedRow}
use Rattle.ncq_delta.specs.Leads.{unnumbered}
use Rattle.ncq_readers.specs.Passed.{held_at, size_of}
use Rattle.ncq_readers.specs.declared.ranges.HeldRows.{HeldRows}
use Rattle.ncq_shelf.specs.KeptFiles.{KeptFile}
use Rattle.ncq_shelf.specs.Ranges.{Takes, IsHeldBy, AreTaken, AreHeldOf}
use Rattle.ncq_shelf.specs.Ranges.AreTaken.{none as none_taken, taken as one_taken, left as one_left}
use Rattle.ncq_shelf.proofs.CallerLemmas.{there, one_value}
use Rattle.ncq_shelf.specs.KeptFiles.{Files}
use Rattle.ncq_shelf.specs.Stands.{IsGrounded}
use Rattle.ncq_feed.specs.Feeds.{CountsTaken, delta_by, sum_below}
use Rattle.ncq_feed.specs.Feeds.CountsTaken.{none as none_counted, taken as one_counted, left as one_passed}
use Rattle.ncq_feed.specs.Runs.{Run, IsStarted, AreRight, AreCounted, groups_of, groups}
use Rattle.ncq_feed.proofs.RangeLaws.{takes_or_not, only_taken, each_group}

abbrev tells : {A : Type 0} → A ⊎ (A → ⊥) → Bool
tells (inl a) = true
tells (inr none) = false

or_true : (b : Bool) → (b || true) ≡ true
or_true true = refl
or_true false = refl

module _ (files : Files) (grounded : IsGrounded files) (input slot : ℕ) where
  abbrev takes : Row → ℕ × KeptFile → Bool
  takes row e = tells (takes_or_not files grounded input slot row e.0)

  any_takes : (row : Row) (es : List (ℕ × KeptFile)) → list_any (takes row) es ≡ true → IsHeldBy files input slot row
  any_takes row [] h = absurd (true≢false (sym h))
  any_takes row (e ∷ es) h = by (takes_or_not files grounded input slot row e.0) h (any_takes row es)
    where
      by : (t : Takes files input slot row e.0 ⊎ (Takes files input slot row e.0 → ⊥)) → (tells t || list_any (takes row) es) ≡ true
          → (list_any (takes row) es ≡ true → IsHeldBy files input slot row) → IsHeldBy files input slot row
      by (inl t) h rest = record { number = e.0; takes = t }
      by (inr none) h rest = rest h

  takes_any : (row : Row) (number : ℕ) (file : KeptFile) (es : List (ℕ × KeptFile)) → find nat_cmp number es ≡ Some file → Takes files input slot row number → list_any (takes row) es ≡ true
  takes_any row number file [] found t = absurd (there found refl)
  takes_any row number file (e ∷ es) found t = elim (cases_eq number e.0) [
    | inl same ↦ ap (λ b. b || list_any (takes row) es) (here (subst (Takes files input slot row) same t) (takes_or_not files grounded input slot row e.0))
    | inr differs ↦
        ap (λ b. takes row e || b) (takes_any row number file es (sym (ap (λ b. cond b (Some e.1) (find nat_cmp number es)) (unsigned_tied number e.0 ∙ ne_eqb number e.0 differs)) ∙ found) t)
        ∙ or_true (takes row e)
  ]
    where
      here : Takes files input slot row e.0 → (o : Takes files input slot row e.0 ⊎ (Takes files input slot row e.0 → ⊥)) → tells o ≡ true
      here t (inl t') = refl
      here t (inr none) = absurd (none t)

  abbrev weight : Row → ℕ
  weight row = cond {A = ℕ} (list_any (takes row) (entries files)) 1 0

  held_weight : (row : Row) → IsHeldBy files input slot row → weight row ≡ 1
  held_weight row h =
      let s = h.takes.selects.stands in
      ap (λ b. cond {A = ℕ} b 1 0) (takes_any row h.number s.file (entries files) (sym (get-entries files h.number) ∙ s.at) h.takes)

  left_weight : (row : Row) → (IsHeldBy files input slot row → ⊥) → weight row ≡ 0
  left_weight row none = by (list_any (takes row) (entries files)) refl
    where
      by : (b : Bool) → list_any (takes row) (entries files) ≡ b → cond {A = ℕ} b 1 0 ≡ 0
      by true e = absurd (none (any_takes row (entries files) e))
      by false e = refl

  abbrev weigh : List PlainRow → ℕ
  weigh rows = total_by (λ r. weight r.row) rows

  count_is : (rows : List PlainRow) (n : ℕ) → CountsTaken files input slot rows n → n ≡ weigh rows
  count_is _ _ none_counted = refl
  count_is _ _ (one_counted {row} {rows} {count} is rest) = let w = held_weight row.row is in let r = count_is rows count rest in omega arith
  count_is _ _ (one_passed {row} {rows} {count} is rest) = let w = left_weight row.row is in let r = count_is rows count rest in omega arith

  taken_count : (rows held : List SignedRow) → AreTaken files input slot rows held → length held ≡ weigh (unnumbered rows)
  taken_count _ _ none_taken = refl
  taken_count _ _ (one_taken {row} {rows} {held} is rest) = let w = held_weight row.row is in let r = taken_count rows held rest in omega arith
  taken_count _ _ (one_left {row} {rows} {held} is rest) = let w = left_weight row.row is in let r = taken_count rows held rest in omega arith

  one_sign : (b : Bool) (w p m : ℕ) → cond b w 0 + p + (cond b 0 w + m) ≡ w + (p + m)
  one_sign true w p m = omega arith
  one_sign false w p m = omega arith

  both_signs : (rows : List PlainRow) → plus_total weight rows + minus_total weight rows ≡ weigh rows
  both_signs [] = refl
  both_signs (r ∷ rows) = one_sign r.plus (weight r.row) (plus_total weight rows) (minus_total weight rows) ∙ (let e = both_signs rows in omega arith)

  -- of the same changes as many are taken
  pub same_count : (rows held : List SignedRow) (delta : List PlainRow) (n : ℕ) → SameChanges (unnumbered rows) delta → AreTaken files input slot rows held → CountsTaken files input slot delta n → length held ≡ n
  same_count rows held delta n same are counts =
      let p = same.plus weight in
      let m = same.minus weight in
      let a = both_signs (unnumbered rows) in
      let b = both_signs delta in
      let t = taken_count rows held are in
      let c = count_is delta n counts in
      omega arith

  -- such counts there are
  held_or_not : (row : Row) → IsHeldBy files input slot row ⊎ (IsHeldBy files input slot row → ⊥)
  held_or_not row = by (list_any (takes row) (entries files)) refl
    where
      by : (b : Bool) → list_any (takes row) (entries files) ≡ b → IsHeldBy files input slot row ⊎ (IsHeldBy files input slot row → ⊥)
      by true e = inl (any_takes row (entries files) e)
      by false e = inr (λ h. true≢false (sym (found_by h) ∙ e))
        where
          found_by : IsHeldBy files input slot row → list_any (takes row) (entries files) ≡ true
          found_by h = let s = h.takes.selects.stands in takes_any row h.number s.file (entries files) (sym (get-entries files h.number) ∙ s.at) h.takes

  pub some_count : (rows : List PlainRow) → (n : ℕ) × CountsTaken files input slot rows n
  some_count [] = (0, none_counted)
  some_count (r ∷ rows) = let rest = some_count rows in elim (held_or_not r.row) [
    | inl is ↦ (suc rest.0, one_counted is rest.1)
    | inr none ↦ (rest.0, one_passed none rest.1)
  ]

-- the rows of all groups, slot by slot

below_more : (n : ℕ) (f g : ℕ → ℕ) → sum_below n (λ slot. f slot + g slot) ≡ sum_below n f + sum_below n g
below_more zero f g = refl
below_more (suc n) f g = let e = below_more n f g in omega arith

below_same : (n : ℕ) (f g : ℕ → ℕ) → ((slot : ℕ) → f slot ≡ g slot) → sum_below n f ≡ sum_below n g
below_same zero f g is = refl
below_same (suc n) f g is = let e = below_same n f g is in let h = is n in omega arith

one_below : (n slot : ℕ) (f : ℕ → ℕ) → slot < n → f slot ≤ sum_below n f
one_below zero slot f less = absurd (omega arith)
one_below (suc n) slot f less = elim (cases_eq slot n) [
  | inl same ↦ let e = ap f same in omega arith
  | inr differs ↦ let r = one_below n slot f (omega arith) in omega arith
]

group_length : (slot other : ℕ) (rows rest : List SignedRow) → length (cond (nat_eq slot other) rows [] ++ rest) ≡ length (cond (nat_eq slot other) rows []) + length rest
group_length slot other rows rest = length-append (cond (nat_eq slot other) rows []) rest

all_below : (width : ℕ) (held : List HeldRows) → AllByRecursion (λ h. (length h.rows ≡ 0) ⊎ (h.slot < width)) held → size_of held ≤ sum_below width (λ slot. length (held_at slot held))
all_below width [] all = omega arith
all_below width (h ∷ held) all =
    let rest = all_below width held all.1 in
    let e = below_same width (λ slot. length (held_at slot (h ∷ held))) (λ slot. length (cond (nat_eq h.slot slot) h.rows []) + length (held_at slot held)) (λ slot. group_length h.slot slot h.rows (held_at slot held)) in
    let m = below_more width (λ slot. length (cond (nat_eq h.slot slot) h.rows [])) (λ slot. length (held_at slot held)) in
    let o = one all.0 in
    omega arith
  where
    one : (length h.rows ≡ 0) ⊎ (h.slot < width) → length h.rows ≤ sum_below width (λ slot. length (cond (nat_eq h.slot slot) h.rows []))
    one (inl none) = omega arith
    one (inr less) =
        let l = one_below width h.slot (λ slot. length (cond (nat_eq h.slot slot) h.rows [])) less in
        subst (λ b. length (cond b h.rows []) ≤ sum_below width (λ slot. length (cond (nat_eq h.slot slot) h.rows []))) (eq-eqb h.slot h.slot refl) l

-- what a file passes on to range groups
module _ (run : Run) (start : IsStarted run) (at : ℕ) (file : KeptFile) (here : get run.files at ≡ Some file) where
  -- the slot of a selection over it is one of its own
  slot_there : (slot : ℕ) (row : Row) → IsHeldBy run.files at slot row → slot < expr_width file.expr
  slot_there slot row h =
      let s = h.takes.selects in
      let formed : IsWellFormedExpr (RangeSel s.inner slot h.takes.interval) = subst IsWellFormedExpr s.stands.of (start.ready.formed h.number s.stands.file s.stands.at) in
      let both = and_parts (slots_fit s.inner) (nat_lt slot (expr_width s.inner)) (sym (fit_range s.inner slot h.takes.interval) ∙ formed.slots) in
      let same : s.inner ≡ file.expr = sym s.over.of ∙ ap (λ (f : KeptFile). f.expr) (one_value s.over.at here) in
      subst (λ e. slot < expr_width e) same (ltb-true slot (expr_width s.inner) both.1)

  within : (held : List HeldRows) → AllByRecursion (λ h. AllByRecursion (λ r. IsHeldBy run.files at h.slot r.row) h.rows) held → AllByRecursion (λ h. (length h.rows ≡ 0) ⊎ (h.slot < expr_width file.expr)) held
  within [] all = tt
  within (h ∷ held) all = (by h.rows all.0, within held all.1)
    where
      by : (rows : List SignedRow) → AllByRecursion (λ r. IsHeldBy run.files at h.slot r.row) rows → (length rows ≡ 0) ⊎ (h.slot < expr_width file.expr)
      by [] all = inl refl
      by (r ∷ rows) all = inr (slot_there h.slot r.row all.0)

  -- its held rows are as many as are counted
  pub size_counted : (rows : List SignedRow) (held : List HeldRows) → AreRight run at rows → AreHeldOf run.files at rows held → (counts : ℕ → ℕ → ℕ) → AreCounted run counts → size_of held ≤ groups run counts at
  size_counted rows held right are counts counted =
      let all = each_group (λ slot r. IsHeldBy run.files at slot r.row) held (λ slot. only_taken run.files at slot rows (held_at slot held) (are slot)) in
      let size = all_below (expr_width file.expr) held (within held all) in
      let same = below_same (expr_width file.expr) (λ slot. length (held_at slot held)) (counts at)
      (λ slot. same_count run.files start.ready.grounded at slot rows (held_at slot held) (delta_by run.store run.change file.expr) (counts at slot) (right file here) (are slot) (counted at file here slot)) in
      let own : groups run counts at ≡ sum_below (expr_width file.expr) (counts at) = ap (λ (o : Option KeptFile). groups_of o (counts at)) here in
      omega arith
