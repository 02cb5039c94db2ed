-- A selection by an interval comes in, or fails to: what is kept and what is seen then.
use Rattle.std.proofs.Common.{◌≡◌, ℕ, cond, List, Some, None, nat_eq, inl, inr, sym, ap, ◌∙◌, subst, true}
use Rattle.std.specs.List.{AllByRecursion}
use Rattle.std.specs.Map.{lookup}
use Rattle.std.specs.FinMap.{get, insert}
use Rattle.ncq_base.specs.declared.interval.Interval.{Interval}
use Rattle.ncq_plan.specs.declared.expr.Expr.{Expr}
use Rattle.ncq_plan.specs.declared.expr.Expr.TheVariants.{RangeSel}
use Rattle.ncq_plan.specs.ExprLists.{is_expr}
use Rattle.ncq_midfile.specs.Views.{is_within}
use Rattle.ncq_midfile.specs.declared.signed.SignedRow.{SignedRow}
use Rattle.ncq_readers.specs.Readings.{Reading}
use Rattle.ncq_readers.specs.ReaderTables.{ReaderTables, IsReader}
use Rattle.ncq_shelf.specs.Enrolled.{GainsScan, ScansSource, IsScanIn}
use Rattle.ncq_shelf.specs.Groups.{Groups, BringsRows, GainsRows, KeepsRows, group_of}
use Rattle.ncq_shelf.specs.Inputs.{AreInputs}
use Rattle.ncq_shelf.specs.Keyed.{IsKept, IsKeyed, IsJoinFound}
use Rattle.ncq_shelf.specs.KeptFiles.{Files}
use Rattle.ncq_shelf.specs.Shown.{shown, state_of}
use Rattle.ncq_shelf.specs.Stands.{Stands}
use Rattle.ncq_shelf.specs.Wired.{IsEnrolled, AreAlike}
use Rattle.ncq_shelf.specs.declared.file.File.{File}
use Rattle.ncq_shelf.specs.declared.group.Group.{Group}
use Rattle.ncq_shelf.specs.declared.inputs.Inputs.TheVariants.{One}
use Rattle.ncq_shelf.specs.declared.keys.Keys.{Keys}
use Rattle.ncq_shelf.proofs.Added.{shelved_alike, shelved_more, same_scans}
use Rattle.ncq_shelf.proofs.AnyGroups.{shelved_any}
use Rattle.ncq_shelf.proofs.Arms.{layers, range_is_no_join}
use Rattle.ncq_shelf.proofs.Grouped.{not_there}
use Rattle.ncq_shelf.proofs.GroupShown.{shown_kept, grouped_kept, shown_gained, grouped_gained}
use Rattle.ncq_shelf.proofs.Indexes.{shown_put}
use Rattle.ncq_shelf.proofs.KeyedAdded.{keyed_added}
use Rattle.ncq_shelf.proofs.Layers.{out-RangeSel, out-Scan}
use Rattle.ncq_shelf.proofs.Others.{alike_others, enrolled_others, grouped_others, shown_others}

-- what a reservation leaves
pub kept_same : (gs : Groups) (old new : List (ℕ × File)) (n0 n1 : List (Expr × ℕ)) (scans : List (List ℕ × ReaderTables)) (keys : Keys) → new ≡ old → n1 ≡ n0 → IsKept gs old n0 scans keys → IsKept gs new n1 scans keys
kept_same gs old new n0 n1 scans keys e d kept = subst (λ fs. IsKept gs fs n1 scans keys) (sym e) (subst (λ ns. IsKept gs old ns scans keys) (sym d) kept)

module _ (gs : Groups) (f0 : List (ℕ × File)) (n0 : List (Expr × ℕ)) (scans : List (List ℕ × ReaderTables)) (keys : Keys) (kept : IsKept gs f0 n0 scans keys) (m : Files) (seen : shown gs f0 ≡ m) (group : Group) (hs : Groups) where
  -- it failed
  module _ (keeps : KeepsRows f0 gs group hs) (f1 : List (ℕ × File)) (alike : AreAlike f0 f1) where
    pub shown_failed : shown hs f1 ≡ m
    shown_failed = shown_others hs f0 f1 (alike_others hs f0 f1 alike) ∙ shown_kept gs hs f0 group keeps f0 ∙ seen

    pub kept_failed : IsKept hs f1 n0 scans keys
    kept_failed = record {
      shelved = shelved_any f1 gs hs n0 scans (shelved_alike gs f0 f1 n0 scans scans kept.shelved alike (same_scans gs scans));
      grouped = grouped_others hs f0 f1 (alike_others hs f0 f1 alike) (grouped_kept gs hs f0 group keeps n0 scans kept.shelved kept.grouped);
      keyed = subst (λ x. IsKeyed x keys) (sym (shown_failed ∙ sym seen)) kept.keyed;
    }

  -- it came in
  module _ (rows : List SignedRow) (gains : GainsRows gs group rows hs) (whole inner : Expr) (interval : Interval) (is : whole ≡ RangeSel inner group.slot interval) (brings : BringsRows f0 group whole rows)
      (its : AllByRecursion (λ r. is_within group.slot interval r.row ≡ true) rows) (number : ℕ) (absent : get m number ≡ None) (unknown : (n : ℕ) → Stands m whole n → ⊥) (inputs : AreInputs m whole (One group.input))
      (file : File) (same : file.expr ≡ whole) (of : group_of file.content ≡ Some group) (input : file.inputs ≡ One group.input) (empty : (way : Reading) (n : ℕ) → IsReader file.readers way n → ⊥)
      (f1 : List (ℕ × File)) (enrolled : IsEnrolled f0 whole number f1) (f2 : List (ℕ × File)) (put : (q : ℕ) → lookup (nat_eq q) f2 ≡ cond (nat_eq number q) (Some file) (lookup (nat_eq q) f1))
      (n1 : List (Expr × ℕ)) (known : (q : Expr) → lookup (is_expr q) n1 ≡ cond (is_expr file.expr q) (Some number) (lookup (is_expr q) n0)) where
    pub shown_installed : shown hs f2 ≡ insert m number (state_of hs file)
    shown_installed =
        shown_put hs f1 f2 number file put
        ∙ ap (λ x. insert x number (state_of hs file)) (shown_others hs f0 f1 (enrolled_others hs f0 f1 whole number enrolled) ∙ shown_gained gs hs group rows gains f0 n0 scans kept.shelved kept.grouped whole brings ∙ seen)

    absent_yet : get (shown gs f0) number ≡ None
    absent_yet = ap (λ x. get x number) seen ∙ absent

    unknown_yet : (n : ℕ) → Stands (shown gs f0) whole n → ⊥
    unknown_yet n s = unknown n (subst (λ x. Stands x whole n) seen s)

    inputs_yet : AreInputs (shown gs f0) whole (One group.input)
    inputs_yet = subst (λ x. AreInputs x whole (One group.input)) (sym seen) inputs

    no_scan : GainsScan scans (λ source. ScansSource source whole) number scans
    no_scan source n = (
      λ i. inl i,
      λ s. elim s as (λ _. IsScanIn scans source n) [
        | inl i ↦ i
        | inr p ↦ let l = layers gs _ _ _ _ (sym is ∙ p.0.is) (out-RangeSel inner group.slot interval) (out-Scan source p.0.shape) in cc
      ],
    )

    no_join : IsJoinFound keys number whole (One group.input)
    no_join first second pairs left right e sides = absurd (range_is_no_join gs inner group.slot interval first second pairs (sym is ∙ e))

    pub kept_installed : IsKept hs f2 n1 scans keys
    kept_installed = record {
      shelved = shelved_any f2 gs hs n1 scans
          (shelved_more gs f0 n0 scans kept.shelved number whole absent_yet unknown_yet file same (subst (AreInputs (shown gs f0) whole) (sym input) inputs_yet) empty f1 enrolled f2 put n1 known scans no_scan);
      grouped = grouped_gained gs hs group rows gains f1 f2 number file (enrolled.none number (not_there gs f0 number absent_yet)) put inner interval of (same ∙ is) input its
          (grouped_others gs f0 f1 (enrolled_others gs f0 f1 whole number enrolled) kept.grouped);
      keyed = subst (λ x. IsKeyed x keys) (sym (shown_installed ∙ ap (λ x. insert x number (state_of hs file)) (sym seen)))
          (keyed_added gs f0 n0 kept.shelved.indexed number whole absent_yet unknown_yet (One group.input) inputs_yet (state_of hs file) same keys kept.keyed no_join);
    }
