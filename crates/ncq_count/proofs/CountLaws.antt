-- The counts of groups, as a file comes and goes.
use Rattle.std.proofs.Common.{◌≡◌, ◌≢◌, ℕ, ◌+◌, ◌-◌, ◌<◌, true, false, cond, List, [], Some, None, inl, inr, refl, sym, ap, ◌∙◌, subst, arith}
use Rattle.std.specs.Map.{lookup}
use Rattle.std.specs.Option.{unwrap_or}
use Rattle.std.specs.Ordering.{nat_cmp}
use Rattle.std.specs.FinMap.{get, insert, remove, empty, get-empty}
use Rattle.std.proofs.lemmas.Bool.{cases_eq, cases_lt, ne_eqb}
use Rattle.ncq_plan.specs.declared.expr.Expr.{Expr}
use Rattle.ncq_signature.specs.declared.signature.Signature.{Signature}
use Rattle.ncq_signature.specs.Signatures.{signature_of}
use Rattle.ncq_signature.specs.Groups.{is_signature, count_of}
use Rattle.ncq_shelf.specs.Parts.{IsInput}
use Rattle.ncq_shelf.specs.KeptFiles.{KeptFile, Files}
use Rattle.ncq_shelf.specs.Stands.{Stands, IsGrounded, IsIdle}
use Rattle.ncq_shelf.proofs.CallerLemmas.{put_same, put_other, gone_same, gone_other, there, one_value, rest_stays}
use Rattle.ncq_count.specs.declared.key.GroupKey.{GroupKey}
use Rattle.ncq_count.specs.FileExprs.{exprs_of}
use Rattle.ncq_count.specs.Keys.{Tells, file_of}
use Rattle.ncq_count.specs.Counted.{is_key, count_at, kept_count, GainsFile, LosesFile, AreCounted}
use Rattle.ncq_count.proofs.KeyLaws.{key_is, key_itself, signature_is, signature_itself, alike}
use Rattle.ncq_count.proofs.Tallies.{one, HasSignature, has_signature, count_added, count_removed, put_back}
use Rattle.ncq_count.proofs.TellLaws.{OneEach, tells_one, told_once, has_key, tells_more}

abbrev pub Counts : Type 0
Counts = List (GroupKey × ℕ)

none_positive : (n : ℕ) → (0 < n → ⊥) → n ≡ 0
none_positive n h = elim (cases_lt 0 n) [ inl some ↦ absurd (h some) | inr none ↦ omega arith ]

-- a count that is there
pub count_there : (counts : Counts) (key : GroupKey) (count : ℕ) → lookup (is_key key) counts ≡ Some count → count_at counts key ≡ count
count_there counts key count at = ap (λ o. unwrap_or o 0) at

-- a key without a count has 0
pub count_none : (counts : Counts) (key : GroupKey) → ((count : ℕ) → lookup (is_key key) counts ≡ Some count → ⊥) → count_at counts key ≡ 0
count_none counts key none = elim (lookup (is_key key) counts) as (λ o. lookup (is_key key) counts ≡ o → unwrap_or o 0 ≡ 0) [
  | Some count ↦ λ at. absurd (none count at)
  | None ↦ λ at. refl
] refl

-- a count that is not 0 is there
pub there_if_counted : (counts : Counts) (key : GroupKey) → 0 < count_at counts key → lookup (is_key key) counts ≡ Some (count_at counts key)
there_if_counted counts key some = elim (lookup (is_key key) counts) as (λ o. 0 < unwrap_or o 0 → o ≡ Some (unwrap_or o 0)) [
  | Some count ↦ λ h. refl
  | None ↦ λ h. absurd (omega arith)
] some

kept : (n : ℕ) → 0 < n → kept_count n ≡ Some n
kept n some = ap (λ b. cond b None (Some n)) (ne_eqb n 0 (λ e. absurd (omega arith)))

pub kept_some : (n count : ℕ) → kept_count n ≡ Some count → 0 < count
kept_some n count at = elim (cases_lt 0 n) [
  | inl some ↦ let e : n ≡ count = one_value (kept n some) at in omega arith
  | inr none ↦ let z : n ≡ 0 = omega arith in absurd (there at (ap kept_count z))
]

kept_at : (n : ℕ) → unwrap_or (kept_count n) 0 ≡ n
kept_at n = elim (cases_lt 0 n) [
  | inl some ↦ ap (λ o. unwrap_or o 0) (kept n some)
  | inr none ↦ let z : n ≡ 0 = omega arith in subst (λ m. unwrap_or (kept_count m) 0 ≡ m) (sym z) refl
]

module _ (key : GroupKey) (old new : Counts) where
  at_same : (other : GroupKey) → is_key key other ≡ true → count_at old key ≡ count_at old other
  at_same other is = ap (count_at old) (key_is key other is)

  pub gained : GainsFile old key new → (other : GroupKey) → count_at new other ≡ one (is_key key other) + count_at old other
  gained gains other = ap (λ o. unwrap_or o 0) (gains other) ∙ elim (is_key key other) as (λ b. is_key key other ≡ b → unwrap_or (cond b (Some (count_at old key + 1)) (lookup (is_key other) old)) 0 ≡ one b + count_at old other) [
    | true ↦ λ is. let e = at_same other is in omega arith
    | false ↦ λ is. omega arith
  ] refl

  pub lost : LosesFile old key new → 0 < count_at old key → (other : GroupKey) → count_at old other ≡ one (is_key key other) + count_at new other
  lost loses some other =
      let is_now = ap (λ o. unwrap_or o 0) (loses other) in
      elim (is_key key other) as (λ b. is_key key other ≡ b → count_at new other ≡ unwrap_or (cond b (kept_count (count_at old key - 1)) (lookup (is_key other) old)) 0 → count_at old other ≡ one b + count_at new other) [
        | true ↦ λ is now. let e = at_same other is in let k = kept_at (count_at old key - 1) in omega arith
        | false ↦ λ is now. omega arith
      ] refl is_now

-- the tests of a key and of the signature that it tells answer alike
pub tests_agree : (files : Files) → OneEach files → (key other : GroupKey) (s t : Signature) → Tells files key s → Tells files other t → is_key key other ≡ is_signature t s
tests_agree files distinct key other s t one two = alike (is_key key other) (is_signature t s)
    (λ is.
    let same : t ≡ s = tells_one files key t s (subst (λ k. Tells files k t) (sym (key_is key other is)) two) one in
    subst (λ u. is_signature t u ≡ true) same (signature_itself t))
    (λ is.
    let same : key ≡ other = told_once files distinct key other s one (subst (Tells files other) (signature_is t s is) two) in
    subst (λ k. is_key key k ≡ true) same (key_itself key))

-- a key tells the signature of a file
key_of_some : (files : Files) → IsGrounded files → (s : Signature) → HasSignature files s → (key : GroupKey) × Tells files key s
key_of_some files grounded s h =
    let k = has_key files grounded h.expr h.number h.stands in
    (k.0, subst (Tells files k.0) (sym h.is) k.1)

-- a file that comes
module _ (old : Files) (grounded : IsGrounded old) (number : ℕ) (file : KeptFile) (none : get old number ≡ None) (absent : (other : ℕ) → Stands old file.expr other → ⊥) where
  abbrev new : Files
  new = insert old number file

  stays : (other : ℕ) (expr : Expr) → Stands old expr other → Stands new expr other
  stays other expr s = record {
    file = s.file;
    at = put_other old number file other (λ same. there (subst (λ n. get old n ≡ Some s.file) same s.at) none) ∙ s.at;
    of = s.of;
  }

  -- what stands under another number stood before
  before : (other : ℕ) (expr : Expr) → other ≢ number → Stands new expr other → Stands old expr other
  before other expr differs s = record { file = s.file; at = sym (put_other old number file other differs) ∙ s.at; of = s.of }

  here : (expr : Expr) → Stands new expr number → expr ≡ file.expr
  here expr s = sym s.of ∙ ap (λ (f : KeptFile). f.expr) (one_value s.at (put_same old number file))

  pub distinct_added : OneEach new
  distinct_added first second expr s t = elim (cases_eq first number) [
    | inl one_is ↦ elim (cases_eq second number) [
      | inl other_is ↦ one_is ∙ sym other_is
      | inr apart ↦
          let e = here expr (subst (Stands new expr) one_is s) in
          absurd (absent second (subst (λ x. Stands old x second) e (before second expr apart t)))
    ]
    | inr differs ↦ elim (cases_eq second number) [
      | inl other_is ↦
          let e = here expr (subst (Stands new expr) other_is t) in
          absurd (absent first (subst (λ x. Stands old x first) e (before first expr differs s)))
      | inr apart ↦ grounded.distinct first second expr (before first expr differs s) (before second expr apart t)
    ]
  ]

  module _ (key : GroupKey) (told : Tells new key (signature_of file.expr)) (counts more : Counts) (counted : AreCounted old counts) (gains : GainsFile counts key more) where
    told_new : (other : GroupKey) (s : Signature) → Tells old other s → Tells new other s
    told_new = tells_more old new stays

    -- a key of the new number was none before
    zero_count : (other : GroupKey) → file_of other ≡ number → count_at counts other ≡ 0
    zero_count other is = count_none counts other (λ count at.
        let t = (counted.tells other count at).1 in
        there (subst (λ n. get old n ≡ Some t.stands.file) is t.stands.at) none)

    zero_files : (other : GroupKey) (s : Signature) → file_of other ≡ number → Tells new other s → count_of (exprs_of old) s ≡ 0
    zero_files other s is t = none_positive _ (λ some.
        let k = key_of_some old grounded s (has_signature old s some) in
        let same : k.0 ≡ other = told_once new distinct_added k.0 other s (told_new k.0 s k.1) t in
        let at : file_of k.0 ≡ number = ap file_of same ∙ is in
        there (subst (λ n. get old n ≡ Some k.1.stands.file) at k.1.stands.at) none)

    was_right : (other : GroupKey) (s : Signature) → Tells new other s → count_at counts other ≡ count_of (exprs_of old) s
    was_right other s t = elim (cases_eq (file_of other) number) [
      | inl is ↦ zero_count other is ∙ sym (zero_files other s is t)
      | inr differs ↦ counted.right other s (record { expr = t.expr; stands = before (file_of other) t.expr differs t.stands; told = t.told; kind = t.kind })
    ]

    pub counted_added : AreCounted new more
    counted_added = record {
      some = λ other count at. elim (is_key key other) as (λ b. cond b (Some (count_at counts key + 1)) (lookup (is_key other) counts) ≡ Some count → 0 < count) [
        | true ↦ λ h. let e : count_at counts key + 1 ≡ count = one_value refl h in omega arith
        | false ↦ λ h. counted.some other count h
      ] (sym (gains other) ∙ at);
      tells = λ other count at. elim (is_key key other) as (λ b. is_key key other ≡ b → cond b (Some (count_at counts key + 1)) (lookup (is_key other) counts) ≡ Some count → (s : Signature) × Tells new other s) [
        | true ↦ λ is h. (signature_of file.expr, subst (λ k. Tells new k (signature_of file.expr)) (key_is key other is) told)
        | false ↦ λ is h. let t = counted.tells other count h in (t.0, told_new other t.0 t.1)
      ] refl (sym (gains other) ∙ at);
      right = λ other s t.
          gained key counts more gains other
          ∙ (λ i. one (tests_agree new distinct_added key other (signature_of file.expr) s told t i) + was_right other s t i)
          ∙ sym (count_added old number file s none);
    }

-- an idle file that goes
module _ (old : Files) (number : ℕ) (idle : IsIdle old number) where
  stayed : (other : ℕ) (expr : Expr) → Stands (remove old number) expr other → Stands old expr other
  stayed other expr s = record { file = s.file; at = rest_stays old number other s.file s.at; of = s.of }

  pub grounded_rest : IsGrounded old → IsGrounded (remove old number)
  grounded_rest g = record {
    distinct = λ first second expr s t. g.distinct first second expr (stayed first expr s) (stayed second expr t);
    inputs = λ other file input at reads.
        let before = rest_stays old number other file at in
        let below = g.inputs other file input before reads in
        let apart : below.0 ≢ number = λ same.
        let s : Stands old input number = subst (Stands old input) same below.2 in
        let e : s.file ≡ idle.file = one_value s.at idle.at in
        idle.unread (record { reader = other; file = file; at = before; reads = subst (λ x. IsInput x file.expr) (sym s.of ∙ ap (λ f. f.expr) e) reads }) in
        (below.0, below.1, record { file = below.2.file; at = gone_other old number below.0 apart ∙ below.2.at; of = below.2.of });
  }

  module _ (grounded : IsGrounded old) (key : GroupKey) (told : Tells old key (signature_of idle.file.expr)) (counts : Counts) where
    no_other : (other : ℕ) → Stands (remove old number) idle.file.expr other → ⊥
    no_other other s =
        let same = grounded.distinct other number idle.file.expr (stayed other idle.file.expr s) (record { file = idle.file; at = idle.at; of = refl }) in
        there (subst (λ n. get (remove old number) n ≡ Some s.file) same s.at) (gone_same old number)

    -- an idle file that has come is counted in
    pub counted_come : AreCounted (remove old number) counts → (more : Counts) → GainsFile counts key more → AreCounted old more
    counted_come counted more gains =
        let again = put_back old number idle.file idle.at in
        subst (λ files. AreCounted files more) again
        (counted_added (remove old number) (grounded_rest grounded) number idle.file (gone_same old number) no_other key (subst (λ files. Tells files key (signature_of idle.file.expr)) (sym again) told) counts more counted gains)

  module _ (grounded : IsGrounded old) (key : GroupKey) (told : Tells old key (signature_of idle.file.expr)) (counts : Counts) (counted : AreCounted old counts) where
    -- the file that goes is counted
    pub some_counted : 0 < count_at counts key
    some_counted =
        let all = counted.right key (signature_of idle.file.expr) told in
        let gone = count_removed old number idle.file (signature_of idle.file.expr) idle.at in
        let itself : one (is_signature (signature_of idle.file.expr) (signature_of idle.file.expr)) ≡ 1 = ap one (signature_itself (signature_of idle.file.expr)) in
        omega arith

    module _ (less : Counts) (loses : LosesFile counts key less) where
      -- each key has as many files counted as are left of its signature
      still_right : (other : GroupKey) (s : Signature) → Tells old other s → count_at less other ≡ count_of (exprs_of (remove old number)) s
      still_right other s t =
          let was = counted.right other s t in
          let one_less = lost key counts less loses some_counted other in
          let gone = count_removed old number idle.file s idle.at in
          let agree = ap one (tests_agree old grounded.distinct key other (signature_of idle.file.expr) s told t) in
          omega arith

      told_before : (other : GroupKey) (count : ℕ) → lookup (is_key other) less ≡ Some count → (0 < count) × (s : Signature) × Tells old other s
      told_before other count at = elim (is_key key other) as (λ b. is_key key other ≡ b → cond b (kept_count (count_at counts key - 1)) (lookup (is_key other) counts) ≡ Some count → (0 < count) × (s : Signature) × Tells old other s) [
        | true ↦ λ is h. (kept_some _ count h, signature_of idle.file.expr, subst (λ k. Tells old k (signature_of idle.file.expr)) (key_is key other is) told)
        | false ↦ λ is h. let t = counted.tells other count h in (counted.some other count h, t.0, t.1)
      ] refl (sym (loses other) ∙ at)

      still_told : (other : GroupKey) (s : Signature) → Tells old other s → 0 < count_at less other → Tells (remove old number) other s
      still_told other s t some =
          let k = key_of_some (remove old number) (grounded_rest grounded) s (has_signature (remove old number) s (subst (λ n. 0 < n) (still_right other s t) some)) in
          let same : k.0 ≡ other = told_once old grounded.distinct k.0 other s (tells_more (remove old number) old stayed k.0 s k.1) t in
          subst (λ o. Tells (remove old number) o s) same k.1

      pub counted_removed : AreCounted (remove old number) less
      counted_removed = record {
        some = λ other count at. (told_before other count at).0;
        tells = λ other count at.
            let t = told_before other count at in
            (t.1, still_told other t.1 t.2 (subst (λ n. 0 < n) (sym (count_there less other count at)) t.0));
        right = λ other s t. still_right other s (tells_more (remove old number) old stayed other s t);
      }

-- no files
pub nothing_counted : AreCounted empty []
nothing_counted = record {
  some = λ key count at. absurd (there at refl);
  tells = λ key count at. absurd (there at refl);
  right = λ key s told. absurd (there told.stands.at (get-empty nat_cmp (file_of key)));
}
