-- A table without files.
use Rattle.std.proofs.Common.{◌≡◌, ℕ, Some, None, sym, subst}
use Rattle.std.specs.Ordering.{nat_cmp}
use Rattle.std.specs.FinMap.{get, empty, get-empty}
use Rattle.ncq_shelf.specs.KeptFiles.{KeptFile, Files}
use Rattle.ncq_group.specs.Tables.{Facts}
use Rattle.ncq_shelf.proofs.CallerLemmas.{there}

pub nothing_there : (files : Files) → files ≡ empty → (number : ℕ) (file : KeptFile) → get files number ≡ Some file → ⊥
nothing_there files e number file at = there at (subst (λ f. get f number ≡ None) (sym e) (get-empty nat_cmp number))

pub facts_of_none : (files : Files) → files ≡ empty → Facts (record { files = files; next_file = 0; number = 0 })
facts_of_none files e = record {
  grounded = record {
    distinct = λ first second expr s t. absurd (nothing_there files e first s.file s.at);
    inputs = λ number file input at reads. absurd (nothing_there files e number file at);
  };
  below = λ number file at. absurd (nothing_there files e number file at);
  read = λ number file at unused. absurd (nothing_there files e number file at);
  formed = λ number file at. absurd (nothing_there files e number file at);
  wide = λ number file at. absurd (nothing_there files e number file at);
  up_to = λ number file at. absurd (nothing_there files e number file at);
}
