-- What the removal of an idle file leaves.
use Rattle.std.proofs.Common.{◌≡◌, ◌≢◌, ℕ, ◌<◌, Some, ◌⊎◌, inl, inr, refl, ap, ◌∙◌, subst, arith}
use Rattle.std.proofs.lemmas.Bool.{cases_eq}
use Rattle.std.specs.FinMap.{get, remove}
use Rattle.ncq_plan.specs.declared.expr.Expr.{Expr}
use Rattle.ncq_shelf.specs.Parts.{IsInput}
use Rattle.ncq_shelf.specs.KeptFiles.{KeptFile, Files}
use Rattle.ncq_shelf.specs.Stands.{Stands, IsReadIn, IsIdle, IsGrounded}
use Rattle.ncq_group.specs.Closure.{IsNeeded}
use Rattle.ncq_group.specs.Closure.IsNeeded.{used, read}
use Rattle.ncq_group.specs.Collected.{IsCollected}
use Rattle.ncq_shelf.specs.Inputs.{AreInputs}
use Rattle.ncq_shelf.specs.declared.inputs.Inputs.TheVariants.{Nothing, One, Two}
pub use Rattle.ncq_count.proofs.CallerLemmas.{grounded_rest}
use Rattle.ncq_shelf.proofs.CallerLemmas.{gone_same, gone_other, there, one_value, rest_stays, only_told, sides_told}

-- an expression that has a file in less files has it in more
pub stands_more : {less more : Files} {expr : Expr} {number : ℕ} → ((n : ℕ) (f : KeptFile) → get less n ≡ Some f → get more n ≡ Some f) → Stands less expr number → Stands more expr number
stands_more stays s = record { file = s.file; at = stays _ s.file s.at; of = s.of }

pub read_more : {less more : Files} {expr : Expr} → ((n : ℕ) (f : KeptFile) → get less n ≡ Some f → get more n ≡ Some f) → IsReadIn less expr → IsReadIn more expr
read_more stays r = record { reader = r.reader; file = r.file; at = stays r.reader r.file r.at; reads = r.reads }

pub needed_more : {less more : Files} {number : ℕ} → ((n : ℕ) (f : KeptFile) → get less n ≡ Some f → get more n ≡ Some f) → IsNeeded less number → IsNeeded more number
needed_more stays (used {number} {file} at some) = used (stays number file at) some
needed_more stays (read {number} {reader} {file} {by} at_reader needed at reads) = read (stays reader by at_reader) (needed_more stays needed) (stays number file at) reads

module _ (old : Files) (number : ℕ) (idle : IsIdle old number) where
  needed_apart : (other : ℕ) → IsNeeded old other → other ≢ number
  needed_apart other (used {file = file} at some) = λ same.
      let e : file ≡ idle.file = one_value (subst (λ n. get old n ≡ Some file) same at) idle.at in
      let u : file.uses ≡ 0 = ap (λ f. f.uses) e ∙ idle.unused in
      absurd (omega arith)
  needed_apart other (read {file = file} {by = by} at_reader needed at reads) = λ same.
      let e : file ≡ idle.file = one_value (subst (λ n. get old n ≡ Some file) same at) idle.at in
      idle.unread (record { reader = _; file = by; at = at_reader; reads = subst (λ f. IsInput f.expr by.expr) e reads })

  pub needed_rest : (other : ℕ) → IsNeeded old other → IsNeeded (remove old number) other
  needed_rest other (used {file = file} at some) = used (gone_other old number other (needed_apart other (used at some)) ∙ at) some
  needed_rest other (read {reader = reader} {file = file} {by = by} at_reader needed at reads) =
      read (gone_other old number reader (needed_apart reader needed) ∙ at_reader) (needed_rest reader needed)
      (gone_other old number other (needed_apart other (read at_reader needed at reads)) ∙ at) reads

  pub kept_rest : (other : ℕ) → IsNeeded old other → get (remove old number) other ≡ get old other
  kept_rest other needed = gone_other old number other (needed_apart other needed)

  -- what was read is still read, or is an input of what went
  pub read_rest : (other : ℕ) (file : KeptFile) → get (remove old number) other ≡ Some file → IsReadIn old file.expr → IsReadIn (remove old number) file.expr ⊎ IsInput file.expr idle.file.expr
  read_rest other file at r = elim (cases_eq r.reader number) [
    | inl same ↦
        let e : r.file ≡ idle.file = one_value (subst (λ n. get old n ≡ Some r.file) same r.at) idle.at in
        inr (subst (λ f. IsInput file.expr f.expr) e r.reads)
    | inr differs ↦ inl (record { reader = r.reader; file = r.file; at = gone_other old number r.reader differs ∙ r.at; reads = r.reads })
  ]

-- nothing is taken away where the file is used or read
pub collected_as_it_is : (old : Files) (number : ℕ) → ((file : KeptFile) → get old number ≡ Some file → file.uses ≡ 0 → IsReadIn old file.expr) → IsCollected old number old
collected_as_it_is old number busy = record { stays = λ other file at. at; kept = λ other needed. (needed, refl); read = λ other file at unused r. r; done = busy }

module _ (old : Files) (number : ℕ) (idle : IsIdle old number) (new : Files) (stays : (other : ℕ) (file : KeptFile) → get new other ≡ Some file → get (remove old number) other ≡ Some file)
    (kept : (other : ℕ) → IsNeeded (remove old number) other → IsNeeded new other × (get new other ≡ get (remove old number) other))
    (read : (other : ℕ) (file : KeptFile) → get new other ≡ Some file → file.uses ≡ 0 → IsReadIn (remove old number) file.expr → IsReadIn new file.expr)
    (inputs : (other : ℕ) (file : KeptFile) → get new other ≡ Some file → file.uses ≡ 0 → IsInput file.expr idle.file.expr → IsReadIn new file.expr) where
  -- an idle file is gone, and below it all that nothing needs
  collected_below : IsCollected old number new
  collected_below = record {
    stays = λ other file at. rest_stays old number other file (stays other file at);
    kept = λ other needed.
        let below = kept other (needed_rest old number idle other needed) in
        (below.0, below.1 ∙ kept_rest old number idle other needed);
    read = λ other file at unused r. elim (read_rest old number idle other file (stays other file at) r) [
      | inl still ↦ read other file at unused still
      | inr reads ↦ inputs other file at unused reads
    ];
    done = λ file at unused. absurd (there (stays number file at) (gone_same old number));
  }

module _ (old : Files) (number : ℕ) (idle : IsIdle old number) where
  pub collected_leaf : AreInputs old idle.file.expr Nothing → IsCollected old number (remove old number)
  collected_leaf none = collected_below old number idle (remove old number) (λ other file at. at) (λ other needed. (needed, refl)) (λ other file at unused r. r)
      (λ other file at unused reads. absurd (none file.expr reads))

  module _ (grounded : IsGrounded old) (new : Files) where
    pub collected_one : (input : ℕ) → AreInputs old idle.file.expr (One input) → IsCollected (remove old number) input new → IsCollected old number new
    collected_one input are below = collected_below old number idle new below.stays below.kept below.read
        (λ other file at unused reads.
        let here : Stands old file.expr other = record { file = file; at = rest_stays old number other file (below.stays other file at); of = refl } in
        let same = grounded.distinct other input file.expr here (only_told old idle.file.expr input are file.expr reads) in
        below.done file (subst (λ n. get new n ≡ Some file) same at) unused)

    pub collected_two : (left right : ℕ) (mid : Files) → AreInputs old idle.file.expr (Two left right) → IsCollected (remove old number) left mid → IsCollected mid right new → IsCollected old number new
    collected_two left right mid are first second = collected_below old number idle new (λ other file at. first.stays other file (second.stays other file at))
        (λ other needed.
        let a = first.kept other needed in
        let b = second.kept other a.0 in
        (b.0, b.1 ∙ a.1))
        (λ other file at unused r. second.read other file at unused (first.read other file (second.stays other file at) unused r))
        (λ other file at unused reads.
        let in_mid = second.stays other file at in
        let here : Stands old file.expr other = record { file = file; at = rest_stays old number other file (first.stays other file in_mid); of = refl } in
        elim (sides_told old idle.file.expr left right are file.expr reads) [
          | inl stands ↦
              let same = grounded.distinct other left file.expr here stands in
              second.read other file at unused (first.done file (subst (λ n. get mid n ≡ Some file) same in_mid) unused)
          | inr stands ↦
              let same = grounded.distinct other right file.expr here stands in
              second.done file (subst (λ n. get new n ≡ Some file) same at) unused
        ])

-- what a file reads has a smaller number
pub input_below : (files : Files) (number below : ℕ) (file : KeptFile) (input : Expr) → IsGrounded files → get files number ≡ Some file → IsInput input file.expr → Stands files input below → below < number
input_below files number below file input grounded at reads stands =
    let b = grounded.inputs number file input at reads in
    subst (λ n. n < number) (grounded.distinct b.0 below input b.2 stands) b.1
