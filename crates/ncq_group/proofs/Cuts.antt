-- Taking away the greatest file that has no use.
use Rattle.std.proofs.Common.{◌≡◌, ℕ, ◌<◌, ◌≤◌, ◌-◌, Some, inl, inr, refl, sym, ◌∙◌, subst, arith}
use Rattle.std.proofs.lemmas.Bool.{cases_eq}
use Rattle.std.specs.FinMap.{get, remove}
use Rattle.ncq_shelf.specs.KeptFiles.{KeptFile, Files}
use Rattle.ncq_shelf.specs.Stands.{IsGrounded, IsIdle, IsReadIn}
use Rattle.ncq_group.specs.Grown.{IsCut, IsDropped}
use Rattle.ncq_shelf.proofs.CallerLemmas.{gone_same, gone_other, there}
use Rattle.ncq_group.proofs.Collects.{grounded_rest}
use Rattle.ncq_group.proofs.Closures.{reader_above}
use Rattle.ncq_group.proofs.Added.{AreBelow, absent_from}

pub dropped_rest : (old : Files) (number : ℕ) → IsGrounded old → IsIdle old number → IsDropped old number (remove old number)
dropped_rest old number grounded idle = record {
  grounded = grounded_rest old number idle grounded;
  others = λ other differs. gone_other old number other differs;
  here = λ file at. absurd (there at (gone_same old number));
  read = λ file at unused. absurd (there at (gone_same old number));
}

pub dropped_nothing : (old : Files) (number : ℕ) → IsGrounded old → ((file : KeptFile) → get old number ≡ Some file → file.uses ≡ 0 → IsReadIn old file.expr) → IsDropped old number old
dropped_nothing old number grounded busy = record { grounded = grounded; others = λ other differs. refl; here = λ file at. at; read = busy }

-- the files from low to below next are new; those before are as at first
pub record IsCutDownTo (low : ℕ) (first : Files) (next : ℕ) (files : Files) : Type 0 where
  pub grounded : IsGrounded files
  pub kept : (number : ℕ) → number < next → get files number ≡ get first number
  pub below : AreBelow files next
  pub order : low ≤ next

module _ (low next : ℕ) (first files new : Files) (unused : (number : ℕ) (file : KeptFile) → get first number ≡ Some file → low ≤ number → file.uses ≡ 0)
    (more : low < next) (so_far : IsCutDownTo low first next files) (step : IsDropped files (next - 1) new) where
  less : AreBelow new next
  less number file at = elim (cases_eq number (next - 1)) [
    | inl same ↦ omega arith
    | inr differs ↦ so_far.below number file (sym (step.others number differs) ∙ at)
  ]

  nothing_there : (file : KeptFile) → get new (next - 1) ≡ Some file → ⊥
  nothing_there file at =
      let before : get first (next - 1) ≡ Some file = sym (so_far.kept (next - 1) (omega arith)) ∙ step.here file at in
      let r = step.read file at (unused (next - 1) file before (omega arith)) in
      let above = reader_above new step.grounded (next - 1) file at r.reader r.file r.at r.reads in
      let b = less r.reader r.file r.at in
      absurd (omega arith)

  pub cut_step : IsCutDownTo low first (next - 1) new
  cut_step = record {
    grounded = step.grounded;
    kept = λ number under. step.others number (λ same. absurd (omega arith)) ∙ so_far.kept number (omega arith);
    below = λ number file at. elim (cases_eq number (next - 1)) [
      | inl same ↦ absurd (nothing_there file (subst (λ n. get new n ≡ Some file) same at))
      | inr differs ↦ let b = less number file at in omega arith
    ];
    order = omega arith;
  }

pub cut_all : (low next : ℕ) (first files : Files) → next ≤ low → IsCutDownTo low first next files → IsCut first low files
cut_all low next first files done so_far = record {
  kept = λ number under. let o = so_far.order in so_far.kept number (omega arith);
  gone = λ number above. absent_from files next number so_far.below (omega arith);
}
