-- A file that is put beside others, above them all.
use Rattle.std.proofs.Common.{◌≡◌, ◌≢◌, ℕ, ◌<◌, ◌≤◌, Some, None, ◌⊎◌, inl, inr, refl, sym, ap, ◌∙◌, subst, arith}
use Rattle.std.proofs.lemmas.Bool.{cases_eq}
use Rattle.std.proofs.lemmas.Cmp.{nat_cmp_total}
use Rattle.std.specs.FinMap.{get, insert, remove, same_map, nat_cmp-IsAntisymmetric}
use Rattle.ncq_plan.specs.declared.expr.Expr.{Expr}
use Rattle.ncq_midfile.specs.Files.{FileState}
use Rattle.ncq_shelf.specs.Parts.{IsInput}
use Rattle.ncq_shelf.specs.KeptFiles.{KeptFile, Files}
use Rattle.ncq_shelf.specs.Stands.{Stands, IsGrounded, IsIdle}
use Rattle.ncq_shelf.specs.Inputs.{AreInputs}
use Rattle.ncq_shelf.specs.declared.inputs.Inputs.{Inputs}
use Rattle.ncq_shelf.specs.declared.inputs.Inputs.TheVariants.{Nothing, One, Two}
use Rattle.ncq_shelf.proofs.CallerLemmas.{put_same, put_other, gone_same, gone_other, one_value, only_told, sides_told}
use Rattle.ncq_count.proofs.CallerLemmas.{OneEach, distinct_added}
use Rattle.ncq_group.proofs.Collects.{stands_more}

abbrev pub AreBelow : Files → ℕ → Type 0
AreBelow files high = (number : ℕ) (file : KeptFile) → get files number ≡ Some file → number < high

-- no file has a number from the bound on
pub absent_from : (files : Files) (high number : ℕ) → AreBelow files high → high ≤ number → get files number ≡ None
absent_from files high number below above = elim (get files number) as (λ o. get files number ≡ o → o ≡ None) [
  | Some file ↦ λ at. let b = below number file at in absurd (omega arith)
  | None ↦ λ at. refl
] refl

module _ (whole : Expr) (old : Files) (number : ℕ) (new : Files) (content : FileState) (is : new ≡ insert old number (record { expr = whole; uses = 0; content = content }))
    (grounded : IsGrounded old) (below : AreBelow old number) (absent : (other : ℕ) → Stands old whole other → ⊥) where
  abbrev pub added : KeptFile
  added = record { expr = whole; uses = 0; content = content }

  pub at_number : get new number ≡ Some added
  at_number = subst (λ f. get f number ≡ Some added) (sym is) (put_same old number added)

  at_other : (other : ℕ) → other ≢ number → get new other ≡ get old other
  at_other other differs = subst (λ f. get f other ≡ get old other) (sym is) (put_other old number added other differs)

  pub stays_added : (other : ℕ) (file : KeptFile) → get old other ≡ Some file → get new other ≡ Some file
  stays_added other file at = let b = below other file at in at_other other (λ same. absurd (omega arith)) ∙ at

  pub from_added : (other : ℕ) (file : KeptFile) → get new other ≡ Some file → ((other ≡ number) × (file ≡ added)) ⊎ (get old other ≡ Some file)
  from_added other file at = elim (cases_eq other number) [
    | inl same ↦ inl (same, one_value (subst (λ n. get new n ≡ Some file) same at) at_number)
    | inr differs ↦ inr (sym (at_other other differs) ∙ at)
  ]

  pub added_stands : Stands new whole number
  added_stands = record { file = added; at = at_number; of = refl }

  distinct_new : OneEach new
  distinct_new = subst OneEach (sym is) (distinct_added old grounded number added (absent_from old number number below (omega arith)) absent)

  -- without it the files are as before
  pub added_gone : remove new number ≡ old
  added_gone = ap (λ f. remove f number) is ∙ same_map nat_cmp_total nat_cmp-IsAntisymmetric _ old (λ other. elim (cases_eq other number) [
    | inl same ↦ subst (λ n. get (remove (insert old number added) number) n ≡ get old n) (sym same) (gone_same (insert old number added) number ∙ sym (absent_from old number number below (omega arith)))
    | inr differs ↦ gone_other (insert old number added) number other differs ∙ put_other old number added other differs
  ])

  module _ (inputs : Inputs) (are : AreInputs old whole inputs) where
    pub input_stands : (input : Expr) → IsInput input whole → (lower : ℕ) × Stands old input lower
    input_stands input reads = elim inputs as (λ i. AreInputs old whole i → (lower : ℕ) × Stands old input lower) [
      | Nothing ↦ λ a. absurd (a input reads)
      | One only ↦ λ a. (only, only_told old whole only a input reads)
      | Two left right ↦ λ a. elim (sides_told old whole left right a input reads) [ inl s ↦ (left, s) | inr s ↦ (right, s) ]
    ] are

    pub grounded_added : IsGrounded new
    grounded_added = record {
      distinct = distinct_new;
      inputs = λ other file input at reads. elim (from_added other file at) [
        | inl here ↦
            let s = input_stands input (subst (λ f. IsInput input f.expr) here.1 reads) in
            let b = below s.0 s.1.file s.1.at in
            (s.0, subst (λ n. s.0 < n) (sym here.0) b, stands_more stays_added s.1)
        | inr before ↦
            let b = grounded.inputs other file input before reads in
            (b.0, b.1, stands_more stays_added b.2)
      ];
    }

    -- nothing reads it, since what reads it would have a greater number
    pub idle_added : IsIdle new number
    idle_added = record {
      file = added;
      at = at_number;
      unused = refl;
      unread = λ r.
          let b = grounded_added.inputs r.reader r.file whole r.at r.reads in
          let less = b.1 in
          let same : b.0 ≡ number = distinct_new b.0 number whole b.2 added_stands in
          elim (from_added r.reader r.file r.at) [
            | inl here ↦ let e = here.0 in absurd (omega arith)
            | inr before ↦ let lower = below r.reader r.file before in absurd (omega arith)
          ];
    }
