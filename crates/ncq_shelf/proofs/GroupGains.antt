-- One group among the others, and the rows that come into its file and go again.
use Rattle.std.proofs.Common.{◌≡◌, ℕ, ◌&&◌, ◌||◌, ◌++◌, Bool, true, false, not, cond, List, [], ◌∷◌, Some, None, Option, refl, sym, ap, ◌∙◌, subst, append-nil}
use Rattle.std.specs.List.{AllByRecursion}
use Rattle.std.specs.Map.{lookup}
use Rattle.std.specs.Option.{option_map_or}
use Rattle.std.proofs.lemmas.Bool.{eqb-true, eq-eqb}
use Rattle.ncq_base.proofs.Tests.{both_true}
use Rattle.ncq_consttab.proofs.Intervals.{both}
use Rattle.ncq_plan.specs.declared.expr.Expr.{Expr}
use Rattle.ncq_row.specs.Embeddings.{Row}
use Rattle.ncq_midfile.specs.Views.{RangeState, is_within, is_held, is_missing, of_rows, AreHeld}
use Rattle.ncq_midfile.specs.declared.signed.SignedRow.{SignedRow}
use Rattle.ncq_midfile.proofs.ViewLaws.{all_pass}
use Rattle.ncq_midfile.proofs.Withins.{filter_append}
use Rattle.ncq_shelf.specs.Groups.{Groups, is_group, rows_of_group, HasGroup, OpensGroup, AddsToGroup, IsFrontOf, IsReleased, BringsRows, GainsRows, KeepsRows, intervals_at}
use Rattle.ncq_shelf.specs.declared.file.File.{File}
use Rattle.ncq_shelf.specs.declared.group.Group.{Group}
use Rattle.ncq_shelf.proofs.KeyLaws.{all_map}
use Rattle.ncq_shelf.proofs.IntervalReaders.{HoldAlike}

pub group_is : (a b : Group) → is_group a b ≡ true → a ≡ b
group_is a b h =
    let e = both (Rattle.std.specs.Prelude.nat_eq a.input b.input) (Rattle.std.specs.Prelude.nat_eq a.slot b.slot) h in
    λ i. record { input = eqb-true a.input b.input e.0 i; slot = eqb-true a.slot b.slot e.1 i }

pub group_itself : (a : Group) → is_group a a ≡ true
group_itself a = λ i. eq-eqb a.input a.input refl i && eq-eqb a.slot a.slot refl i

module _ {A : Type 0} (P : A → Type 0) where
  pub all_both : (xs ys : List A) → AllByRecursion P xs → AllByRecursion P ys → AllByRecursion P (xs ++ ys)
  all_both [] ys a b = b
  all_both (x ∷ xs) ys a b = (a.0, all_both xs ys a.1 b)

  pub all_front : (xs ys : List A) → AllByRecursion P (xs ++ ys) → AllByRecursion P xs
  all_front [] ys a = tt
  all_front (x ∷ xs) ys a = (a.0, all_front xs ys a.1)

-- rows of which none passes
pub none_of : (test : Row → Bool) (rows : List SignedRow) → AllByRecursion (λ r. test r.row ≡ false) rows → of_rows test rows ≡ []
none_of test [] all = refl
none_of test (r ∷ rows) all = (λ i. cond (all.0 i) (r ∷ of_rows test rows) (of_rows test rows)) ∙ none_of test rows all.1

abbrev pub rows_in_file : Option RangeState → List SignedRow
rows_in_file o = option_map_or (λ (h : RangeState). h.rows) o []

module _ (old : Groups) (group : Group) where
  -- a group that was opened, and rows that were added to it
  pub gained : (opened new : Groups) (rows : List SignedRow) → ((held : RangeState) → lookup (is_group group) old ≡ Some held → held.slot ≡ group.slot)
      → OpensGroup old group opened → AddsToGroup opened group rows new → GainsRows old group rows new
  gained opened new rows slot opens adds = by (lookup (is_group group) old) refl
    where
      others : (other : Group) → is_group group other ≡ false → lookup (is_group other) new ≡ lookup (is_group other) old
      others other differs = adds.others other differs ∙ opens.others other differs

      by : (o : Option RangeState) → lookup (is_group group) old ≡ o → GainsRows old group rows new
      by None e =
          let at = adds.here (record { slot = group.slot; rows = [] }) (opens.here e) in
          record { there = record { held = record { slot = group.slot; rows = rows }; at = at; slot = refl }; here = ap rows_in_file at ∙ ap (λ o. rows_in_file o ++ rows) (sym e); others = others }
      by (Some held) e =
          let same = opens.there (record { held = held; at = e; slot = slot held e }) in
          let at = adds.here held (ap (lookup (is_group group)) same ∙ e) in
          record { there = record { held = record { slot = held.slot; rows = held.rows ++ rows }; at = at; slot = slot held e }; here = ap rows_in_file at ∙ ap (λ o. rows_in_file o ++ rows) (sym e); others = others }

  -- a group that was opened at most
  pub opened_there : (opened : Groups) → ((held : RangeState) → lookup (is_group group) old ≡ Some held → held.slot ≡ group.slot) → OpensGroup old group opened
      → HasGroup opened group × (rows_of_group opened group ≡ rows_of_group old group)
  opened_there opened slot opens = by (lookup (is_group group) old) refl
    where
      by : (o : Option RangeState) → lookup (is_group group) old ≡ o → HasGroup opened group × (rows_of_group opened group ≡ rows_of_group old group)
      by None e = (record { held = record { slot = group.slot; rows = [] }; at = opens.here e; slot = refl }, ap rows_in_file (opens.here e) ∙ ap rows_in_file (sym e))
      by (Some held) e =
          let same = opens.there (record { held = held; at = e; slot = slot held e }) in
          (record { held = held; at = ap (lookup (is_group group)) same ∙ e; slot = slot held e }, ap (λ gs. rows_of_group gs group) same)

  -- nothing changed
  pub kept_so : (files : List (ℕ × File)) (new : Groups) → ((held : RangeState) → lookup (is_group group) old ≡ Some held → held.slot ≡ group.slot) → new ≡ old → KeepsRows files old group new
  kept_so files new slot same = record {
    here = ap (λ gs. rows_of_group gs group) same;
    some = λ has interval more is. subst (λ gs. HasGroup gs group) (sym same) has;
    slot = λ held at. slot held (ap (lookup (is_group group)) (sym same) ∙ at);
    others = λ other differs. ap (lookup (is_group other)) same;
  }

  -- what came in and went again
  module _ (files next : List (ℕ × File)) (alike : HoldAlike group.slot (intervals_at files group) (intervals_at next group)) (expr : Expr) (rows some : List SignedRow) (mid new : Groups)
      (held : AreHeld group.slot (intervals_at files group) (rows_of_group old group)) (brings : BringsRows files group expr rows) (front : IsFrontOf some rows) (gains : GainsRows old group some mid)
      (released : IsReleased next mid group expr new) where
    abbrev its : List SignedRow
    its = rows_of_group old group

    abbrev stays : Row → Bool
    stays row = is_held group.slot (intervals_at next group) row

    missing : AllByRecursion (λ (r : SignedRow). is_missing group.slot (intervals_at files group) brings.interval r.row ≡ true) some
    missing = all_front (λ (r : SignedRow). is_missing group.slot (intervals_at files group) brings.interval r.row ≡ true) some front.rest (subst (AllByRecursion (λ (r : SignedRow). is_missing group.slot (intervals_at files group) brings.interval r.row ≡ true)) (sym front.is) brings.missing)

    old_stay : AllByRecursion (λ (r : SignedRow). stays r.row ≡ true) its
    old_stay = all_map (λ (r : SignedRow). is_held group.slot (intervals_at files group) r.row ≡ true) (λ (r : SignedRow). stays r.row ≡ true) (λ r h. alike.held r.row ∙ h) its held

    not_so : (b : Bool) → not b ≡ true → b ≡ false
    not_so true h = cc
    not_so false h = refl

    or_true : (b : Bool) → (b || true) ≡ true
    or_true true = refl
    or_true false = refl

    new_go : AllByRecursion (λ (r : SignedRow). stays r.row ≡ false) some
    new_go = all_map (λ (r : SignedRow). is_missing group.slot (intervals_at files group) brings.interval r.row ≡ true) (λ (r : SignedRow). stays r.row ≡ false)
        (λ r h. alike.held r.row ∙ not_so (is_held group.slot (intervals_at files group) r.row) (both_true (is_within group.slot brings.interval r.row) (not (is_held group.slot (intervals_at files group) r.row)) h).1) some missing

    all_held : AreHeld group.slot (brings.interval ∷ intervals_at next group) (its ++ some)
    all_held = all_both (λ (r : SignedRow). is_held group.slot (brings.interval ∷ intervals_at next group) r.row ≡ true) its some
        (all_map (λ (r : SignedRow). stays r.row ≡ true) (λ (r : SignedRow). is_held group.slot (brings.interval ∷ intervals_at next group) r.row ≡ true) (λ r h. ap (λ b. is_within group.slot brings.interval r.row || b) h ∙ or_true (is_within group.slot brings.interval r.row)) its old_stay)
        (all_map (λ (r : SignedRow). is_missing group.slot (intervals_at files group) brings.interval r.row ≡ true) (λ (r : SignedRow). is_held group.slot (brings.interval ∷ intervals_at next group) r.row ≡ true)
        (λ r h. ap (λ b. b || stays r.row) (both_true (is_within group.slot brings.interval r.row) (not (is_held group.slot (intervals_at files group) r.row)) h).0) some missing)

    pub kept_after : KeepsRows files old group new
    kept_after = record {
      here =
          released.here brings.inner brings.interval brings.is (subst (AreHeld group.slot (brings.interval ∷ intervals_at next group)) (sym gains.here) all_held)
          ∙ ap (of_rows stays) gains.here ∙ filter_append (λ (r : SignedRow). stays r.row) its some
          ∙ (λ i. all_pass (λ (r : SignedRow). stays r.row) its old_stay i ++ none_of stays some new_go i) ∙ append-nil its;
      some = λ has interval more is. let n = alike.some interval more is in released.some gains.there n.0 n.1 n.2;
      slot = λ held at. released.slot gains.there held at;
      others = λ other differs. released.others other differs ∙ gains.others other differs;
    }
