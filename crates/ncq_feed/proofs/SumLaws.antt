-- Sums over the numbers of files.
use Rattle.std.proofs.Common.{◌≡◌, ℕ, ◌≤◌, ◌+◌, ◌-◌, Bool, true, false, cond, nat_eq, List, [], ◌∷◌, map, Some, None, Option, ◌⊎◌, inl, inr, refl, sym, ap, ◌∙◌, subst, arith, ◌&&◌}
use Rattle.std.specs.Option.{option_map}
use Rattle.std.specs.FinMap.{get, entries, entries_sorted, get-entries, find, is_sorted, nat_cmp-IsAntisymmetric}
use Rattle.std.specs.FinMap.Entries.{below_all, same_entries}
use Rattle.std.specs.Ordering.{nat_cmp, is_lt, eq_by_cmp}
use Rattle.std.specs.Cmp.{unsigned_tied}
use Rattle.std.proofs.lemmas.Cmp.{nat_cmp_total}
use Rattle.std.proofs.lemmas.Bool.{cases_eq, eq-eqb, ne_eqb}
use Rattle.ncq_base.specs.Counts.{total_by}
use Rattle.ncq_base.proofs.CountLaws.{total_by-map, total_by-add}
use Rattle.ncq_base.proofs.Totals.{told, untold, not_tied}
use Rattle.ncq_base.proofs.Tests.{both_true}
use Rattle.ncq_shelf.specs.KeptFiles.{KeptFile, Files}
use Rattle.ncq_shelf.specs.Contents.{sum_over}
use Rattle.ncq_shelf.proofs.CallerLemmas.{there}

module _ {X : Type 0} where
  abbrev bare : ℕ × X → ℕ × Unit {0}
  bare e = (e.0, tt)

  bare_below : (k : ℕ) (es : List (ℕ × X)) → below_all nat_cmp k (map bare es) ≡ below_all nat_cmp k es
  bare_below k [] = refl
  bare_below k (e ∷ es) = ap (λ b. is_lt (nat_cmp k e.0) && b) (bare_below k es)

  bare_sorted : (es : List (ℕ × X)) → is_sorted nat_cmp (map bare es) ≡ is_sorted nat_cmp es
  bare_sorted [] = refl
  bare_sorted (e ∷ es) = λ i. bare_below e.0 es i && bare_sorted es i

  abbrev pub there_only : Option X → Option (Unit {0})
  there_only o = option_map (λ x. tt) o

  bare_cond : (b : Bool) (e : ℕ × X) (o : Option X) (p : Option (Unit {0})) → p ≡ there_only o → cond b (Some tt) p ≡ there_only (cond b (Some e.1) o)
  bare_cond true e o p h = refl
  bare_cond false e o p h = h

  bare_find : (q : ℕ) (es : List (ℕ × X)) → find nat_cmp q (map bare es) ≡ there_only (find nat_cmp q es)
  bare_find q [] = refl
  bare_find q (e ∷ es) = bare_cond (eq_by_cmp nat_cmp q e.0) e (find nat_cmp q es) (find nat_cmp q (map bare es)) (bare_find q es)

  no_tie : (q : ℕ) (es : List (ℕ × X)) → below_all nat_cmp q es ≡ true → find nat_cmp q es ≡ None
  no_tie q [] h = refl
  no_tie q (e ∷ es) h =
      let b = both_true (is_lt (nat_cmp q e.0)) (below_all nat_cmp q es) h in
      (λ i. cond (not_tied (nat_cmp q e.0) b.0 i) (Some e.1) (find nat_cmp q es)) ∙ no_tie q es b.1

  own_find : (e : ℕ × X) (es : List (ℕ × X)) → find nat_cmp e.0 (e ∷ es) ≡ Some e.1
  own_find e es = ap (λ b. cond b (Some e.1) (find nat_cmp e.0 es)) (unsigned_tied e.0 e.0 ∙ eq-eqb e.0 e.0 refl)

  -- each entry is what its key finds
  by_find : (g : ℕ → ℕ) (h : ℕ → X → ℕ) (es : List (ℕ × X)) → is_sorted nat_cmp es ≡ true → ((q : ℕ) (x : X) → find nat_cmp q es ≡ Some x → g q ≡ h q x) → total_by (λ e. g e.0) es ≡ total_by (λ e. h e.0 e.1) es
  by_find g h [] sorted is = refl
  by_find g h (e ∷ es) sorted is =
      let b = both_true (below_all nat_cmp e.0 es) (is_sorted nat_cmp es) sorted in
      λ i. is e.0 e.1 (own_find e es) i + by_find g h es b.1 (λ q x found. is q x (later q x found b.0 (cases_eq q e.0))) i
    where
      later : (q : ℕ) (x : X) → find nat_cmp q es ≡ Some x → below_all nat_cmp e.0 es ≡ true → (q ≡ e.0) ⊎ (q ≡ e.0 → ⊥) → find nat_cmp q (e ∷ es) ≡ Some x
      later q x found low (inl same) = absurd (there found (ap (λ n. find nat_cmp n es) same ∙ no_tie e.0 es low))
      later q x found low (inr differs) = ap (λ b. cond b (Some e.1) (find nat_cmp q es)) (unsigned_tied q e.0 ∙ ne_eqb q e.0 differs) ∙ found

  -- what is found is among the summands
  among : (f : ℕ → ℕ) (q : ℕ) (es : List (ℕ × X)) (x : X) → find nat_cmp q es ≡ Some x → f q ≤ total_by (λ e. f e.0) es
  among f q [] x found = absurd (there found refl)
  among f q (e ∷ es) x found = elim (cases_eq q e.0) [
    | inl same ↦ let s = ap f same in omega arith
    | inr differs ↦ let rest = among f q es x (sym (ap (λ b. cond b (Some e.1) (find nat_cmp q es)) (unsigned_tied q e.0 ∙ ne_eqb q e.0 differs)) ∙ found) in omega arith
  ]

  sum_mono : (f g : ℕ → ℕ) → ((n : ℕ) → f n ≤ g n) → (es : List (ℕ × X)) → total_by (λ e. f e.0) es ≤ total_by (λ e. g e.0) es
  sum_mono f g le [] = omega arith
  sum_mono f g le (e ∷ es) = let h = le e.0 in let rest = sum_mono f g le es in omega arith

module _ (files : Files) where
  pub sum_more : (f g : ℕ → ℕ) → ((n : ℕ) → f n ≤ g n) → sum_over files f ≤ sum_over files g
  sum_more f g le = sum_mono f g le (entries files)

  pub sum_both : (f g : ℕ → ℕ) → sum_over files (λ n. f n + g n) ≡ sum_over files f + sum_over files g
  sum_both f g = total_by-add (λ e. f e.0) (λ e. g e.0) (entries files)

  pub sum_one : (f : ℕ → ℕ) (number : ℕ) (file : KeptFile) → get files number ≡ Some file → f number ≤ sum_over files f
  sum_one f number file at = among f number (entries files) file (sym (get-entries files number) ∙ at)

  pub sum_by_file : (g : ℕ → ℕ) (h : KeptFile → ℕ) → ((number : ℕ) (file : KeptFile) → get files number ≡ Some file → g number ≡ h file) → sum_over files g ≡ total_by (λ e. h e.1) (entries files)
  sum_by_file g h is = by_find g (λ q. h) (entries files) (told _ (entries_sorted files)) (λ q x found. is q x (get-entries files q ∙ found))

  pub sum_by_entry : (g : ℕ → ℕ) (h : ℕ → KeptFile → ℕ) → ((number : ℕ) (file : KeptFile) → get files number ≡ Some file → g number ≡ h number file) → sum_over files g ≡ total_by (λ e. h e.0 e.1) (entries files)
  sum_by_entry g h is = by_find g h (entries files) (told _ (entries_sorted files)) (λ q x found. is q x (get-entries files q ∙ found))

  -- one number is raised, and the others do not fall
  pub sum_raised : (f g : ℕ → ℕ) (number : ℕ) (file : KeptFile) → get files number ≡ Some file → ((n : ℕ) → f n ≤ g n) → (before after : ℕ) → after + f number ≤ before + g number → after + sum_over files f ≤ before + sum_over files g
  sum_raised f g number file at le before after step =
      let h = λ (n : ℕ). cond (nat_eq n number) (g number - f number) 0 in
      let one : g number - f number ≤ sum_over files h = subst (λ n. n ≤ sum_over files h) (ap (λ b. cond b (g number - f number) 0) (eq-eqb number number refl)) (sum_one h number file at) in
      let both = sum_both f h in
      let more = sum_more (λ n. f n + h n) g (λ n. raised n (cases_eq n number)) in
      let here = le number in
      omega arith
    where
      raised : (n : ℕ) → (n ≡ number) ⊎ (n ≡ number → ⊥) → f n + cond (nat_eq n number) (g number - f number) 0 ≤ g n
      raised n (inl same) =
          subst (λ m. f m + cond (nat_eq m number) (g number - f number) 0 ≤ g m) (sym same)
          (subst (λ b. f number + cond b (g number - f number) 0 ≤ g number) (sym (eq-eqb number number refl)) (let l = le number in omega arith))
      raised n (inr differs) = subst (λ b. f n + cond b (g number - f number) 0 ≤ g n) (sym (ne_eqb n number differs)) (let l = le n in omega arith)

  -- what is missing to more
  pub sum_missing : (f g : ℕ → ℕ) → ((n : ℕ) → f n ≤ g n) → sum_over files f + sum_over files (λ n. g n - f n) ≤ sum_over files g
  sum_missing f g le = let both = sum_both f (λ n. g n - f n) in let more = sum_more (λ n. f n + (g n - f n)) g (λ n. let l = le n in omega arith) in omega arith

-- files of the same numbers have the same sums
pub sum_same : (files more : Files) → ((n : ℕ) → there_only (get files n) ≡ there_only (get more n)) → (f : ℕ → ℕ) → sum_over files f ≡ sum_over more f
sum_same files more same f =
    let e = same_entries nat_cmp nat_cmp_total nat_cmp-IsAntisymmetric (map bare (entries files)) (map bare (entries more))
    (untold _ (bare_sorted (entries files) ∙ told _ (entries_sorted files))) (untold _ (bare_sorted (entries more) ∙ told _ (entries_sorted more)))
    (λ q. bare_find q (entries files) ∙ ap there_only (sym (get-entries files q)) ∙ same q ∙ ap there_only (get-entries more q) ∙ sym (bare_find q (entries more))) in
    sym (total_by-map (λ (e : ℕ × Unit {0}). f e.0) bare (entries files)) ∙ ap (total_by (λ (e : ℕ × Unit {0}). f e.0)) e ∙ total_by-map (λ (e : ℕ × Unit {0}). f e.0) bare (entries more)
