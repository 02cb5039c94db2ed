-- How many files have a signature, as a file comes and goes.
use Rattle.std.proofs.Common.{◌≡◌, ◌⊎◌, ℕ, ◌+◌, ◌<◌, Bool, true, false, cond, ◌&&◌, ◌||◌, List, [], ◌∷◌, map, length, filter, Option, Some, None, inl, inr, refl, sym, ap, ◌∙◌, subst, arith}
use Rattle.std.specs.List.{AllByRecursion, list_any}
use Rattle.std.specs.Option.{option_map}
use Rattle.std.specs.Ordering.{nat_cmp, is_lt, is_eq, eq_by_cmp}
use Rattle.std.specs.declared.cmp.Ordering.TheVariants.{Less, Equal, Greater}
use Rattle.std.specs.Cmp.{unsigned_tied}
use Rattle.std.specs.FinMap.{get, insert, remove, entries, entries_sorted, entries-insert, get-entries, find, is_sorted, same_map, nat_cmp-IsAntisymmetric}
use Rattle.std.specs.FinMap.Entries.{below_all, put, by_order, same_entries}
use Rattle.std.proofs.lemmas.Cmp.{nat_cmp_total}
use Rattle.std.proofs.lemmas.Bool.{cases_eq, eq-eqb, ne_eqb}
use Rattle.ncq_base.proofs.Totals.{told, untold, not_tied}
use Rattle.ncq_base.proofs.Tests.{both_true}
use Rattle.ncq_plan.specs.declared.expr.Expr.{Expr}
use Rattle.ncq_signature.specs.declared.signature.Signature.{Signature}
use Rattle.ncq_signature.specs.Signatures.{signature_of}
use Rattle.ncq_signature.specs.Groups.{is_signature, count_of}
use Rattle.ncq_shelf.specs.KeptFiles.{KeptFile, Files}
use Rattle.ncq_shelf.specs.Stands.{Stands}
use Rattle.ncq_shelf.proofs.CallerLemmas.{put_same, put_other, gone_same, gone_other, there, one_value}
use Rattle.ncq_count.specs.FileExprs.{exprs_of}
use Rattle.ncq_count.proofs.KeyLaws.{signature_is, signature_itself}

-- 1 where a test holds
abbrev pub one : Bool → ℕ
one b = cond b 1 0

abbrev Entries : Type 0
Entries = List (ℕ × KeptFile)

-- the expressions of entries
abbrev exprs : Entries → List Expr
exprs es = map (λ f. f.expr) (map (λ e. e.1) es)

has : Signature → Expr → Bool
has s expr = is_signature s (signature_of expr)

by_case : (b : Bool) (x : Expr) (xs : List Expr) → length (cond b (x ∷ xs) xs) ≡ one b + length xs
by_case true x xs = omega arith
by_case false x xs = omega arith

count-cons : (s : Signature) (x : Expr) (xs : List Expr) → count_of (x ∷ xs) s ≡ one (is_signature s (signature_of x)) + count_of xs s
count-cons s x xs = by_case (is_signature s (signature_of x)) x (filter (λ e. is_signature s (signature_of e)) xs)

-- an entry in its place
count-put : (s : Signature) (k : ℕ) (v : KeptFile) (es : Entries) → find nat_cmp k es ≡ None → count_of (exprs (put nat_cmp k v es)) s ≡ one (is_signature s (signature_of v.expr)) + count_of (exprs es) s
count-put s k v [] none = count-cons s v.expr []
count-put s k v (e ∷ es) none =
    elim (nat_cmp k e.0) as (λ r. nat_cmp k e.0 ≡ r → count_of (exprs (by_order r ((k, v) ∷ e ∷ es) ((e.0, v) ∷ es) (e ∷ put nat_cmp k v es))) s ≡ one (is_signature s (signature_of v.expr)) + count_of (exprs (e ∷ es)) s) [
      | Less ↦ λ p. count-cons s v.expr (exprs (e ∷ es))
      | Equal ↦ λ p. absurd (there refl (subst (λ r. cond (is_eq r) (Some e.1) (find nat_cmp k es) ≡ None) p none))
      | Greater ↦ λ p.
          let rest = count-put s k v es (subst (λ r. cond (is_eq r) (Some e.1) (find nat_cmp k es) ≡ None) p none) in
          let was = count-cons s e.1.expr (exprs es) in
          let is = count-cons s e.1.expr (exprs (put nat_cmp k v es)) in
          omega arith
    ] refl

-- a file comes
pub count_added : (files : Files) (number : ℕ) (file : KeptFile) (s : Signature) → get files number ≡ None → count_of (exprs_of (insert files number file)) s ≡ one (is_signature s (signature_of file.expr)) + count_of (exprs_of files) s
count_added files number file s none =
    ap (λ es. count_of (exprs es) s) (entries-insert nat_cmp_total files number file)
    ∙ count-put s number file (entries files) (sym (get-entries files number) ∙ none)

-- a file that goes and comes again leaves all as it was
pub put_back : (files : Files) (number : ℕ) (file : KeptFile) → get files number ≡ Some file → insert (remove files number) number file ≡ files
put_back files number file at = same_map nat_cmp_total nat_cmp-IsAntisymmetric _ files (λ q. elim (cases_eq q number) [
  | inl same ↦ subst (λ n. get (insert (remove files number) number file) n ≡ get files n) (sym same) (put_same (remove files number) number file ∙ sym at)
  | inr differs ↦ put_other (remove files number) number file q differs ∙ gone_other files number q differs
])

-- a file goes
pub count_removed : (files : Files) (number : ℕ) (file : KeptFile) (s : Signature) → get files number ≡ Some file → count_of (exprs_of files) s ≡ one (is_signature s (signature_of file.expr)) + count_of (exprs_of (remove files number)) s
count_removed files number file s at =
    ap (λ f. count_of (exprs_of f) s) (sym (put_back files number file at))
    ∙ count_added (remove files number) number file s (gone_same files number)

-- each entry is what its number finds
no_tie : (q : ℕ) (es : Entries) → below_all nat_cmp q es ≡ true → find nat_cmp q es ≡ None
no_tie q [] h = refl
no_tie q (e ∷ es) h =
    let b = both_true (is_lt (nat_cmp q e.0)) (below_all nat_cmp q es) h in
    (λ i. cond (not_tied (nat_cmp q e.0) b.0 i) (Some e.1) (find nat_cmp q es)) ∙ no_tie q es b.1

all_found : (P : ℕ → KeptFile → Type 0) (es : Entries) → is_sorted nat_cmp es ≡ true → ((q : ℕ) (x : KeptFile) → find nat_cmp q es ≡ Some x → P q x) → AllByRecursion (λ e. P e.0 e.1) es
all_found P [] sorted is = tt
all_found P (e ∷ es) sorted is =
    let b = both_true (below_all nat_cmp e.0 es) (is_sorted nat_cmp es) sorted in
    (is e.0 e.1 own, all_found P es b.1 (λ q x found. is q x (later q x found b.0 (cases_eq q e.0))))
  where
    own : find nat_cmp e.0 (e ∷ es) ≡ Some e.1
    own = ap (λ b. cond b (Some e.1) (find nat_cmp e.0 es)) (unsigned_tied e.0 e.0 ∙ eq-eqb e.0 e.0 refl)

    later : (q : ℕ) (x : KeptFile) → find nat_cmp q es ≡ Some x → below_all nat_cmp e.0 es ≡ true → (q ≡ e.0) ⊎ (q ≡ e.0 → ⊥) → find nat_cmp q (e ∷ es) ≡ Some x
    later q x found low (inl same) = absurd (there found (ap (λ n. find nat_cmp n es) same ∙ no_tie e.0 es low))
    later q x found low (inr differs) = ap (λ b. cond b (Some e.1) (find nat_cmp q es)) (unsigned_tied q e.0 ∙ ne_eqb q e.0 differs) ∙ found

-- what holds of each file holds of each entry
pub each_entry : (files : Files) (P : ℕ → KeptFile → Type 0) → ((number : ℕ) (file : KeptFile) → get files number ≡ Some file → P number file) → AllByRecursion (λ e. P e.0 e.1) (entries files)
each_entry files P is = all_found P (entries files) (told _ (entries_sorted files)) (λ q x found. is q x (get-entries files q ∙ found))

-- what holds of the expression of each file holds of each of the expressions
of_exprs : (P : Expr → Type 0) (es : Entries) → AllByRecursion (λ e. P e.1.expr) es → AllByRecursion P (exprs es)
of_exprs P [] all = tt
of_exprs P (e ∷ es) all = (all.0, of_exprs P es all.1)

pub each_expr : (files : Files) (P : Expr → Type 0) → ((number : ℕ) (expr : Expr) → Stands files expr number → P expr) → AllByRecursion P (exprs_of files)
each_expr files P is = of_exprs P (entries files) (each_entry files (λ number file. P file.expr) (λ number file at. is number file.expr (record { file = file; at = at; of = refl })))

-- a file has the signature
pub record HasSignature (files : Files) (s : Signature) : Type 0 where
  pub number : ℕ
  pub expr : Expr
  pub stands : Stands files expr number
  pub is : s ≡ signature_of expr

-- where files of a signature are counted, there is one
among : (files : Files) (s : Signature) (es : Entries) → AllByRecursion (λ e. Stands files e.1.expr e.0) es → 0 < count_of (exprs es) s → HasSignature files s
among files s [] all some = absurd (omega arith)
among files s (e ∷ es) all some =
    elim (is_signature s (signature_of e.1.expr)) as (λ b. is_signature s (signature_of e.1.expr) ≡ b → HasSignature files s) [
      | true ↦ λ is. record { number = e.0; expr = e.1.expr; stands = all.0; is = signature_is s (signature_of e.1.expr) is }
      | false ↦ λ is.
          let here : one (is_signature s (signature_of e.1.expr)) ≡ 0 = ap one is in
          let c = count-cons s e.1.expr (exprs es) in
          among files s es all.1 (omega arith)
    ] refl

pub has_signature : (files : Files) (s : Signature) → 0 < count_of (exprs_of files) s → HasSignature files s
has_signature files s some = among files s (entries files) (each_entry files (λ number file. Stands files file.expr number) (λ number file at. record { file = file; at = at; of = refl })) some

-- where there is one, it is counted
found_counted : (s : Signature) (q : ℕ) (x : KeptFile) (es : Entries) → find nat_cmp q es ≡ Some x → s ≡ signature_of x.expr → 0 < count_of (exprs es) s
found_counted s q x [] found is = absurd (there found refl)
found_counted s q x (e ∷ es) found is =
    let c = count-cons s e.1.expr (exprs es) in
    elim (eq_by_cmp nat_cmp q e.0) as (λ b. cond b (Some e.1) (find nat_cmp q es) ≡ Some x → 0 < count_of (exprs (e ∷ es)) s) [
      | true ↦ λ f.
          let same : e.1 ≡ x = one_value refl f in
          let here : one (is_signature s (signature_of e.1.expr)) ≡ 1 =
          ap one (subst (λ t. is_signature s t ≡ true) (is ∙ ap (λ (f : KeptFile). signature_of f.expr) (sym same)) (signature_itself s)) in
          omega arith
      | false ↦ λ f. let rest = found_counted s q x es f is in omega arith
    ] found

pub signature_counted : (files : Files) (s : Signature) → HasSignature files s → 0 < count_of (exprs_of files) s
signature_counted files s h = found_counted s h.number h.stands.file (entries files) (sym (get-entries files h.number) ∙ h.stands.at) (h.is ∙ ap signature_of (sym h.stands.of))

-- where files of a signature are counted, an expression has it
pub any_has : (s : Signature) (xs : List Expr) → 0 < count_of xs s → list_any (λ e. is_signature s (signature_of e)) xs ≡ true
any_has s [] some = absurd (omega arith)
any_has s (x ∷ xs) some =
    let c = count-cons s x xs in
    elim (is_signature s (signature_of x)) as (λ b. is_signature s (signature_of x) ≡ b → (b || list_any (λ e. is_signature s (signature_of e)) xs) ≡ true) [
      | true ↦ λ is. refl
      | false ↦ λ is. let here : one (is_signature s (signature_of x)) ≡ 0 = ap one is in any_has s xs (omega arith)
    ] refl

-- entries by their expressions alone
abbrev bare : ℕ × KeptFile → ℕ × Expr
bare e = (e.0, e.1.expr)

bare_below : (k : ℕ) (es : Entries) → below_all nat_cmp k (map bare es) ≡ below_all nat_cmp k es
bare_below k [] = refl
bare_below k (e ∷ es) = ap (λ b. is_lt (nat_cmp k e.0) && b) (bare_below k es)

bare_sorted : (es : Entries) → is_sorted nat_cmp (map bare es) ≡ is_sorted nat_cmp es
bare_sorted [] = refl
bare_sorted (e ∷ es) = λ i. bare_below e.0 es i && bare_sorted es i

abbrev pub expr_at : Option KeptFile → Option Expr
expr_at o = option_map (λ (file : KeptFile). file.expr) o

bare_cond : (b : Bool) (e : ℕ × KeptFile) (o : Option KeptFile) (p : Option Expr) → p ≡ expr_at o → cond b (Some e.1.expr) p ≡ expr_at (cond b (Some e.1) o)
bare_cond true e o p h = refl
bare_cond false e o p h = h

bare_find : (q : ℕ) (es : Entries) → find nat_cmp q (map bare es) ≡ expr_at (find nat_cmp q es)
bare_find q [] = refl
bare_find q (e ∷ es) = bare_cond (eq_by_cmp nat_cmp q e.0) e (find nat_cmp q es) (find nat_cmp q (map bare es)) (bare_find q es)

bare_exprs : (es : Entries) → map (λ e. e.1) (map bare es) ≡ exprs es
bare_exprs [] = refl
bare_exprs (e ∷ es) = ap (λ xs. e.1.expr ∷ xs) (bare_exprs es)

-- files with the same expressions at the same numbers have the same expressions
pub same_exprs : (files more : Files) → ((n : ℕ) → expr_at (get files n) ≡ expr_at (get more n)) → exprs_of files ≡ exprs_of more
same_exprs files more same =
    let e = same_entries nat_cmp nat_cmp_total nat_cmp-IsAntisymmetric (map bare (entries files)) (map bare (entries more))
    (untold _ (bare_sorted (entries files) ∙ told _ (entries_sorted files))) (untold _ (bare_sorted (entries more) ∙ told _ (entries_sorted more)))
    (λ q. bare_find q (entries files) ∙ ap expr_at (sym (get-entries files q)) ∙ same q ∙ ap expr_at (get-entries more q) ∙ sym (bare_find q (entries more))) in
    sym (bare_exprs (entries files)) ∙ ap (λ (es : List (ℕ × Expr)). map (λ e. e.1) es) e ∙ bare_exprs (entries more)
