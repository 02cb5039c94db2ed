-- A file that has rows of its own comes in, or fails to: what is kept and what is seen then.
use Rattle.std.proofs.Common.{◌≡◌, ℕ, cond, List, Some, None, nat_eq, sym, ap, ◌∙◌, subst}
use Rattle.std.specs.Map.{lookup}
use Rattle.std.specs.FinMap.{get, insert}
use Rattle.ncq_plan.specs.declared.expr.Expr.{Expr}
use Rattle.ncq_plan.specs.ExprLists.{is_expr}
use Rattle.ncq_readers.specs.Readings.{Reading}
use Rattle.ncq_readers.specs.ReaderTables.{IsReader}
use Rattle.ncq_shelf.specs.Enrolled.{GainsScan, IsUnread, SameScans, ScansSource}
use Rattle.ncq_shelf.specs.Groups.{Groups, IsRightFor, group_of}
use Rattle.ncq_shelf.specs.Inputs.{AreInputs}
use Rattle.ncq_shelf.specs.Keyed.{AreNotedIn, Grows, IsJoinFound, IsKept, IsKeyed}
use Rattle.ncq_shelf.specs.KeptFiles.{Files}
use Rattle.ncq_shelf.specs.Ranges.{IsRange}
use Rattle.ncq_shelf.specs.Shown.{shown, state_of}
use Rattle.ncq_shelf.specs.Stands.{Stands}
use Rattle.ncq_shelf.specs.Wired.{AreAlike, IsEnrolled, IsShelved}
use Rattle.ncq_shelf.specs.declared.file.File.{File}
use Rattle.ncq_shelf.specs.declared.inputs.Inputs.{Inputs}
use Rattle.ncq_shelf.specs.declared.keys.Keys.{Keys}
use Rattle.ncq_shelf.proofs.Added.{shelved_alike, shelved_more, unread_yet}
use Rattle.ncq_shelf.proofs.Grouped.{not_both, not_there}
use Rattle.ncq_shelf.proofs.KeyedAdded.{keyed_added}
use Rattle.ncq_shelf.proofs.KeyedLaws.{keyed_noted}
use Rattle.ncq_shelf.proofs.Indexes.{shown_put}
use Rattle.ncq_shelf.proofs.Others.{alike_others, enrolled_others, grouped_more, grouped_others, shown_others}
use Rattle.ncq_shelf.proofs.ScanLaws.{Scans}

module _ (gs : Groups) (f0 : List (ℕ × File)) (m : Files) (seen : shown gs f0 ≡ m) where
  pub shown_refused : (f1 : List (ℕ × File)) → AreAlike f0 f1 → shown gs f1 ≡ m
  shown_refused f1 alike = shown_others gs f0 f1 (alike_others gs f0 f1 alike) ∙ seen

  pub shown_admitted : (whole : Expr) (number : ℕ) (f1 : List (ℕ × File)) → IsEnrolled f0 whole number f1 → (file : File) (f2 : List (ℕ × File)) → ((q : ℕ) → lookup (nat_eq q) f2 ≡ cond (nat_eq number q) (Some file) (lookup (nat_eq q) f1)) → shown gs f2 ≡ insert m number (state_of gs file)
  shown_admitted whole number f1 enrolled file f2 put = shown_put gs f1 f2 number file put ∙ ap (λ x. insert x number (state_of gs file)) (shown_others gs f0 f1 (enrolled_others gs f0 f1 whole number enrolled) ∙ seen)

  module _ (n0 : List (Expr × ℕ)) (s0 : Scans) (k0 : Keys) (kept : IsKept gs f0 n0 s0 k0) where
    -- nothing reads a new expression yet
    module _ (number : ℕ) (whole : Expr) (absent : get m number ≡ None) (unknown : (n : ℕ) → Stands m whole n → ⊥) where
      absent_yet : get (shown gs f0) number ≡ None
      absent_yet = ap (λ x. get x number) seen ∙ absent

      unknown_yet : (n : ℕ) → Stands (shown gs f0) whole n → ⊥
      unknown_yet n s = unknown n (subst (λ x. Stands x whole n) seen s)

      pub unread_now : IsUnread f0 whole number
      unread_now = unread_yet gs f0 n0 s0 kept.shelved number whole absent_yet unknown_yet

    -- its expression may be written down, and rows noted
    module _ (n1 : List (Expr × ℕ)) (same_numbers : n1 ≡ n0) (k1 : Keys) (grows : Grows (AreNotedIn gs f0 k1.holders) k0 k1) where
      shelved : IsShelved gs f0 n1 s0
      shelved = subst (λ n. IsShelved gs f0 n s0) (sym same_numbers) kept.shelved

      keyed : IsKeyed (shown gs f0) k1
      keyed = keyed_noted gs f0 k0 k1 grows kept.keyed

      -- it failed
      pub kept_refused : (f1 : List (ℕ × File)) → AreAlike f0 f1 → (s1 : Scans) → SameScans s0 s1 → IsKept gs f1 n1 s1 k1
      kept_refused f1 alike s1 same = record {
        shelved = shelved_alike gs f0 f1 n1 s0 s1 shelved alike same;
        grouped = grouped_others gs f0 f1 (alike_others gs f0 f1 alike) kept.grouped;
        keyed = subst (λ x. IsKeyed x k1) (seen ∙ sym (shown_refused f1 alike)) keyed;
      }

      -- it came in
      module _ (number : ℕ) (whole : Expr) (absent : get m number ≡ None) (unknown : (n : ℕ) → Stands m whole n → ⊥) (inputs : Inputs) (are : AreInputs m whole inputs) (own : IsRange whole → ⊥) (found : IsJoinFound k1 number whole inputs)
          (file : File) (same : file.expr ≡ whole) (holds : group_of file.content ≡ None) (reads : file.inputs ≡ inputs) (empty : (way : Reading) (n : ℕ) → IsReader file.readers way n → ⊥)
          (f1 : List (ℕ × File)) (enrolled : IsEnrolled f0 whole number f1) (f2 : List (ℕ × File)) (put : (q : ℕ) → lookup (nat_eq q) f2 ≡ cond (nat_eq number q) (Some file) (lookup (nat_eq q) f1))
          (n2 : List (Expr × ℕ)) (known : (q : Expr) → lookup (is_expr q) n2 ≡ cond (is_expr file.expr q) (Some number) (lookup (is_expr q) n1)) (s1 : Scans) (gains : GainsScan s0 (λ source. ScansSource source whole) number s1) where
        none : get (shown gs f0) number ≡ None
        none = absent_yet number whole absent unknown

        stands_not : (n : ℕ) → Stands (shown gs f0) whole n → ⊥
        stands_not = unknown_yet number whole absent unknown

        are_yet : AreInputs (shown gs f0) whole inputs
        are_yet = subst (λ x. AreInputs x whole inputs) (sym seen) are

        right : IsRightFor gs file.expr (group_of file.content)
        right = subst (IsRightFor gs file.expr) (sym holds) (λ is. own (subst IsRange same is))

        pub kept_admitted : IsKept gs f2 n2 s1 k1
        kept_admitted = record {
          shelved = shelved_more gs f0 n1 s0 shelved number whole none stands_not file same (subst (AreInputs (shown gs f0) whole) (sym reads) are_yet) empty f1 enrolled f2 put n2 known s1 gains;
          grouped = grouped_more gs f1 f2 number file (enrolled.none number (not_there gs f0 number none)) put right (λ group of. absurd (not_both (sym holds ∙ of))) (grouped_others gs f0 f1 (enrolled_others gs f0 f1 whole number enrolled) kept.grouped);
          keyed = subst (λ x. IsKeyed x k1) (ap (λ x. insert x number (state_of gs file)) seen ∙ sym (shown_admitted whole number f1 enrolled file f2 put))
              (keyed_added gs f0 n1 shelved.indexed number whole none stands_not inputs are_yet (state_of gs file) same k1 keyed found);
        }
