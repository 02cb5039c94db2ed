-- The signatures that keys tell: one each, and each file's by one key.
use Rattle.std.proofs.Common.{◌≡◌, ℕ, List, false, Some, inl, inr, refl, sym, ap, ◌∙◌, subst, true≢false}
use Rattle.std.specs.FinMap.{get}
use Rattle.ncq_base.specs.declared.atom.Atom.{Atom}
use Rattle.ncq_base.specs.declared.interval.Interval.{Interval}
use Rattle.ncq_row.specs.declared.pair.Pair.{Pair}
use Rattle.ncq_plan.specs.declared.expr.Expr.{Expr}
use Rattle.ncq_plan.specs.declared.expr.Expr.TheVariants.{Scan, EqSel, RangeSel, Join}
use Rattle.ncq_plan.proofs.CallerLemmas.{expr_cases}
use Rattle.ncq_signature.specs.declared.signature.Signature.{Signature}
use Rattle.ncq_signature.specs.declared.signature.Signature.TheVariants.{EqOn, RangeOn, JoinOf}
use Rattle.ncq_signature.specs.Signatures.{signature_of}
use Rattle.ncq_signature.specs.Groups.{is_of_selections}
use Rattle.ncq_signature.proofs.CallerLemmas.{differs, signature_scan, signature_equal, signature_range, signature_join}
use Rattle.ncq_shelf.specs.Parts.{IsInput}
use Rattle.ncq_shelf.specs.KeptFiles.{KeptFile, Files}
use Rattle.ncq_shelf.specs.Stands.{Stands, IsGrounded}
use Rattle.ncq_shelf.specs.Inputs.{AreInputs}
use Rattle.ncq_shelf.specs.declared.inputs.Inputs.{Inputs}
use Rattle.ncq_shelf.specs.declared.inputs.Inputs.TheVariants.{Nothing, One, Two}
use Rattle.ncq_shelf.proofs.CallerLemmas.{one_value, equal-input_of, range-input_of, only_told}
use Rattle.ncq_count.specs.declared.key.GroupKey.{GroupKey}
use Rattle.ncq_count.specs.declared.key.GroupKey.TheVariants.{Alone, Equals, Ranges}
use Rattle.ncq_count.specs.Keys.{Tells, file_of, told_by}

-- each expression has one file at most
abbrev pub OneEach : Files → Type 0
OneEach files = (first second : ℕ) (expr : Expr) → Stands files expr first → Stands files expr second → first ≡ second

-- scans and joins of one signature are one
pub same_alone : (a b : Expr) → signature_of a ≡ signature_of b → is_of_selections (signature_of a) ≡ false → a ≡ b
same_alone a b same alone = elim (differs a b same) [
  | inl is ↦ is
  | inr other ↦ elim other [
    | inl r ↦ absurd (true≢false (sym (ap is_of_selections (ap signature_of r.is ∙ signature_equal r.input r.slot r.constant)) ∙ alone))
    | inr r ↦ absurd (true≢false (sym (ap is_of_selections (ap signature_of r.is ∙ signature_range r.input r.slot r.interval)) ∙ alone))
  ]
]

module _ (files : Files) where
  same_file : (number : ℕ) (a b : Expr) → Stands files a number → Stands files b number → a ≡ b
  same_file number a b s t = sym s.of ∙ ap (λ (f : KeptFile). f.expr) (one_value s.at t.at) ∙ t.of

  -- a key tells one signature
  pub tells_one : (key : GroupKey) (s t : Signature) → Tells files key s → Tells files key t → s ≡ t
  tells_one key s t one other = one.told ∙ ap (told_by key) (same_file (file_of key) one.expr other.expr one.stands other.stands) ∙ sym other.told

  -- and no other key tells it
  pub told_once : OneEach files → (key other : GroupKey) (s : Signature) → Tells files key s → Tells files other s → key ≡ other
  told_once distinct (Alone m) (Alone n) s one other =
      let same = same_alone one.expr other.expr (sym one.told ∙ other.told) (subst (λ t. is_of_selections t ≡ false) one.told one.kind) in
      ap Alone (distinct m n other.expr (subst (λ e. Stands files e m) same one.stands) other.stands)
  told_once distinct (Equals m i) (Equals n j) s one other =
      let both : EqOn one.expr i ≡ EqOn other.expr j = sym one.told ∙ other.told in
      let same : one.expr ≡ other.expr = cc in
      let slots : i ≡ j = cc in
      let numbers = distinct m n other.expr (subst (λ e. Stands files e m) same one.stands) other.stands in
      λ k. Equals (numbers k) (slots k)
  told_once distinct (Ranges m i) (Ranges n j) s one other =
      let both : RangeOn one.expr i ≡ RangeOn other.expr j = sym one.told ∙ other.told in
      let same : one.expr ≡ other.expr = cc in
      let slots : i ≡ j = cc in
      let numbers = distinct m n other.expr (subst (λ e. Stands files e m) same one.stands) other.stands in
      λ k. Ranges (numbers k) (slots k)
  told_once distinct (Alone m) (Equals n j) s one other = absurd (true≢false (sym other.kind ∙ one.kind))
  told_once distinct (Alone m) (Ranges n j) s one other = absurd (true≢false (sym other.kind ∙ one.kind))
  told_once distinct (Equals m i) (Alone n) s one other = absurd (true≢false (sym one.kind ∙ other.kind))
  told_once distinct (Ranges m i) (Alone n) s one other = absurd (true≢false (sym one.kind ∙ other.kind))
  told_once distinct (Equals m i) (Ranges n j) s one other = let both : EqOn one.expr i ≡ RangeOn other.expr j = sym one.told ∙ other.told in cc
  told_once distinct (Ranges m i) (Equals n j) s one other = let both : RangeOn one.expr i ≡ EqOn other.expr j = sym one.told ∙ other.told in cc

  -- a scan or a join is told by its own number
  pub tells_alone : (expr : Expr) (number : ℕ) (s : Signature) → Stands files expr number → signature_of expr ≡ s → is_of_selections s ≡ false → Tells files (Alone number) (signature_of expr)
  tells_alone expr number s stands is alone = record { expr = expr; stands = stands; told = refl; kind = ap is_of_selections is ∙ alone }

  pub tells_equal : (inner whole : Expr) (number slot : ℕ) (constant : Atom) → Stands files inner number → whole ≡ EqSel inner slot constant → Tells files (Equals number slot) (signature_of whole)
  tells_equal inner whole number slot constant stands is =
      let told = ap signature_of is ∙ signature_equal inner slot constant in
      record { expr = inner; stands = stands; told = told; kind = ap is_of_selections told }

  pub tells_range : (inner whole : Expr) (number slot : ℕ) (interval : Interval) → Stands files inner number → whole ≡ RangeSel inner slot interval → Tells files (Ranges number slot) (signature_of whole)
  tells_range inner whole number slot interval stands is =
      let told = ap signature_of is ∙ signature_range inner slot interval in
      record { expr = inner; stands = stands; told = told; kind = ap is_of_selections told }

  -- the signature of each file is told
  pub has_key : IsGrounded files → (expr : Expr) (number : ℕ) → Stands files expr number → (key : GroupKey) × Tells files key (signature_of expr)
  has_key grounded = expr_cases (λ expr. (number : ℕ) → Stands files expr number → (key : GroupKey) × Tells files key (signature_of expr))
      (λ source shape number stands. (Alone number, tells_alone (Scan source shape) number _ stands (signature_scan source shape) refl))
      (λ input slot constant number stands.
      let below = grounded.inputs number stands.file input stands.at (subst (IsInput input) (sym stands.of) (equal-input_of input slot constant)) in
      (Equals below.0 slot, tells_equal input (EqSel input slot constant) below.0 slot constant below.2 refl))
      (λ input slot interval number stands.
      let below = grounded.inputs number stands.file input stands.at (subst (IsInput input) (sym stands.of) (range-input_of input slot interval)) in
      (Ranges below.0 slot, tells_range input (RangeSel input slot interval) below.0 slot interval below.2 refl))
      (λ left right pairs number stands. (Alone number, tells_alone (Join left right pairs) number _ stands (signature_join left right pairs) refl))

-- what is told by less files is told by more
pub tells_more : (less more : Files) → ((number : ℕ) (expr : Expr) → Stands less expr number → Stands more expr number) → (key : GroupKey) (s : Signature) → Tells less key s → Tells more key s
tells_more less more up key s t = record { expr = t.expr; stands = up (file_of key) t.expr t.stands; told = t.told; kind = t.kind }

-- a key that tells the signature of an expression wherever its file stands, tells that of the file
pub told_here : (files : Files) (number : ℕ) (file : KeptFile) → get files number ≡ Some file → (expr : Expr) (inputs : Inputs) (key : GroupKey) → expr ≡ file.expr → AreInputs files file.expr inputs
    → ((fs : Files) → Stands fs expr number → AreInputs fs expr inputs → Tells fs key (signature_of expr)) → Tells files key (signature_of file.expr)
told_here files number file at expr inputs key is are tells =
    subst (λ e. Tells files key (signature_of e)) is
    (tells files (record { file = file; at = at; of = sym is }) (subst (λ e. AreInputs files e inputs) (sym is) are))

-- the key of a file, by its expression and the numbers of its inputs
module _ (files : Files) (expr : Expr) (inputs : Inputs) (are : AreInputs files expr inputs) where
  pub key_equal : (inner : Expr) (slot : ℕ) (constant : Atom) (number : ℕ) → expr ≡ EqSel inner slot constant → inputs ≡ One number → Tells files (Equals number slot) (signature_of expr)
  key_equal inner slot constant number is one =
      let reads = subst (IsInput inner) (sym is) (equal-input_of inner slot constant) in
      tells_equal files inner expr number slot constant (only_told files expr number (subst (AreInputs files expr) one are) inner reads) is

  pub key_range : (inner : Expr) (slot : ℕ) (interval : Interval) (number : ℕ) → expr ≡ RangeSel inner slot interval → inputs ≡ One number → Tells files (Ranges number slot) (signature_of expr)
  key_range inner slot interval number is one =
      let reads = subst (IsInput inner) (sym is) (range-input_of inner slot interval) in
      tells_range files inner expr number slot interval (only_told files expr number (subst (AreInputs files expr) one are) inner reads) is

  -- what reads an expression and is no join has the number of one input
  one_input : (inner : Expr) → IsInput inner expr → ((left right : Expr) (pairs : List Pair) → expr ≡ Join left right pairs → ⊥) → ((number : ℕ) → inputs ≡ One number → ⊥) → ⊥
  one_input inner reads no_join none = elim inputs as (λ i. AreInputs files expr i → ((number : ℕ) → i ≡ One number → ⊥) → ⊥) [
    | Nothing ↦ λ a n. a inner reads
    | One number ↦ λ a n. n number refl
    | Two left right ↦ λ a n. no_join a.first a.second a.pairs a.is
  ] are none

  pub equal_has_one : (inner : Expr) (slot : ℕ) (constant : Atom) → expr ≡ EqSel inner slot constant → ((number : ℕ) → inputs ≡ One number → ⊥) → ⊥
  equal_has_one inner slot constant is =
      one_input inner (subst (IsInput inner) (sym is) (equal-input_of inner slot constant)) (λ left right pairs joins.
      let one = ap signature_of is ∙ signature_equal inner slot constant in
      let other = ap signature_of joins ∙ signature_join left right pairs in
      let same : EqOn inner slot ≡ JoinOf left right pairs = sym one ∙ other in
      cc)

  pub range_has_one : (inner : Expr) (slot : ℕ) (interval : Interval) → expr ≡ RangeSel inner slot interval → ((number : ℕ) → inputs ≡ One number → ⊥) → ⊥
  range_has_one inner slot interval is =
      one_input inner (subst (IsInput inner) (sym is) (range-input_of inner slot interval)) (λ left right pairs joins.
      let one = ap signature_of is ∙ signature_range inner slot interval in
      let other = ap signature_of joins ∙ signature_join left right pairs in
      let same : RangeOn inner slot ≡ JoinOf left right pairs = sym one ∙ other in
      cc)

-- what is no selection has the signature of none
pub alone_if_no_selection : (expr : Expr) → ((inner : Expr) (slot : ℕ) (constant : Atom) → expr ≡ EqSel inner slot constant → ⊥) → ((inner : Expr) (slot : ℕ) (interval : Interval) → expr ≡ RangeSel inner slot interval → ⊥) → is_of_selections (signature_of expr) ≡ false
alone_if_no_selection = expr_cases (λ expr. ((inner : Expr) (slot : ℕ) (constant : Atom) → expr ≡ EqSel inner slot constant → ⊥) → ((inner : Expr) (slot : ℕ) (interval : Interval) → expr ≡ RangeSel inner slot interval → ⊥) → is_of_selections (signature_of expr) ≡ false)
    (λ source shape no_equal no_range. ap is_of_selections (signature_scan source shape))
    (λ input slot constant no_equal no_range. absurd (no_equal input slot constant refl))
    (λ input slot interval no_equal no_range. absurd (no_range input slot interval refl))
    (λ left right pairs no_equal no_range. ap is_of_selections (signature_join left right pairs))
