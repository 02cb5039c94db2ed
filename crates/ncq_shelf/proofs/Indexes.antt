-- The index by expression and the files, through each change.
use Rattle.std.proofs.Common.{◌≡◌, ◌≢◌, ℕ, true, false, cond, List, [], Some, None, Option, nat_eq, inl, inr, refl, sym, ap, ◌∙◌, subst, true≢false}
use Rattle.std.specs.Option.{option_map}
use Rattle.std.specs.Map.{lookup}
use Rattle.std.proofs.lemmas.Cmp.{nat_cmp_total}
use Rattle.std.proofs.lemmas.Bool.{cases_eq, eq-eqb, ne_eqb}
use Rattle.std.specs.FinMap.{get, insert, remove, same_map, nat_cmp-IsAntisymmetric}
use Rattle.ncq_base.specs.Exact.{exact_is, exact_itself}
use Rattle.ncq_plan.specs.declared.expr.Expr.{Expr}
use Rattle.ncq_plan.specs.contracts.expr.Expr.{the_row as expr_row}
use Rattle.ncq_shelf.specs.KeptFiles.{KeptFile}
use Rattle.ncq_shelf.specs.Stands.{Stands, IsIdle, Finds}
use Rattle.ncq_shelf.specs.Inputs.{AreInputs}
use Rattle.ncq_plan.specs.ExprLists.{is_expr}
use Rattle.ncq_shelf.specs.Indexed.{IsIndexed}
use Rattle.ncq_shelf.specs.Shown.{shown, state_of}
use Rattle.ncq_shelf.specs.declared.file.File.{File}
use Rattle.ncq_shelf.proofs.Maps.{put_same, put_other, gone_same, gone_other, one_value, there}
use Rattle.ncq_shelf.proofs.ShownFiles.{get_shown}
use Rattle.ncq_shelf.proofs.Maps.{rest_stays}
use Rattle.ncq_shelf.proofs.InputLaws.{are_inputs_more, are_inputs_rest}
use Rattle.ncq_shelf.specs.Groups.{Groups}

module _ (gs : Groups) where
  -- what is shown where a file is kept
  pub shown_at : (files : List (ℕ × File)) (number : ℕ) (file : File) → lookup (nat_eq number) files ≡ Some file → get (shown gs files) number ≡ Some (state_of gs file)
  shown_at files number file at = get_shown gs files number ∙ ap (option_map (state_of gs)) at

  pub kept_at : (files : List (ℕ × File)) (number : ℕ) (state : KeptFile) → get (shown gs files) number ≡ Some state → (file : File) × (lookup (nat_eq number) files ≡ Some file) × (state ≡ state_of gs file)
  kept_at files number state at = elim (lookup (nat_eq number) files) as (λ o. lookup (nat_eq number) files ≡ o → (file : File) × (lookup (nat_eq number) files ≡ Some file) × (state ≡ state_of gs file)) [
    | Some file ↦ λ e. (file, e, one_value at (shown_at files number file e))
    | None ↦ λ e. absurd (there at (get_shown gs files number ∙ ap (option_map (state_of gs)) e))
  ] refl

  -- one number at which the new files have a value, and all others as before
  pub shown_put : (old new : List (ℕ × File)) (number : ℕ) (file : File) → ((q : ℕ) → lookup (nat_eq q) new ≡ cond (nat_eq number q) (Some file) (lookup (nat_eq q) old)) → shown gs new ≡ insert (shown gs old) number (state_of gs file)
  shown_put old new number file is = same_map nat_cmp_total nat_cmp-IsAntisymmetric _ _ (λ q. elim (cases_eq q number) [
    | inl same ↦
        get_shown gs new q ∙ ap (option_map (state_of gs)) (is q ∙ ap (λ b. cond b (Some file) (lookup (nat_eq q) old)) (eq-eqb number q (sym same)))
        ∙ sym (subst (λ n. get (insert (shown gs old) number (state_of gs file)) n ≡ Some (state_of gs file)) (sym same) (put_same (shown gs old) number (state_of gs file)))
    | inr differs ↦
        get_shown gs new q ∙ ap (option_map (state_of gs)) (is q ∙ ap (λ b. cond b (Some file) (lookup (nat_eq q) old)) (ne_eqb number q (λ e. differs (sym e))))
        ∙ sym (get_shown gs old q) ∙ sym (put_other (shown gs old) number (state_of gs file) q differs)
  ])

  pub shown_gone : (old new : List (ℕ × File)) (number : ℕ) → ((q : ℕ) → lookup (nat_eq q) new ≡ cond (nat_eq number q) None (lookup (nat_eq q) old)) → shown gs new ≡ remove (shown gs old) number
  shown_gone old new number is = same_map nat_cmp_total nat_cmp-IsAntisymmetric _ _ (λ q. elim (cases_eq q number) [
    | inl same ↦
        get_shown gs new q ∙ ap (option_map (state_of gs)) (is q ∙ ap (λ b. cond b None (lookup (nat_eq q) old)) (eq-eqb number q (sym same)))
        ∙ sym (subst (λ n. get (remove (shown gs old) number) n ≡ None) (sym same) (gone_same (shown gs old) number))
    | inr differs ↦
        get_shown gs new q ∙ ap (option_map (state_of gs)) (is q ∙ ap (λ b. cond b None (lookup (nat_eq q) old)) (ne_eqb number q (λ e. differs (sym e))))
        ∙ sym (get_shown gs old q) ∙ sym (gone_other (shown gs old) number q differs)
  ])

  -- what the index answers is what a look-up is to answer
  pub finds : (files : List (ℕ × File)) (numbers : List (Expr × ℕ)) → IsIndexed gs files numbers → (expr : Expr) (result : Option ℕ) → result ≡ lookup (is_expr expr) numbers → Finds (shown gs files) expr result
  finds files numbers indexed expr result is = elim result as (λ r. r ≡ lookup (is_expr expr) numbers → Finds (shown gs files) expr r) [
    | Some number ↦ λ e. (indexed.found expr number).0 (sym e)
    | None ↦ λ e number s. there ((indexed.found expr number).1 s) (sym e)
  ] is

  module _ (files : List (ℕ × File)) (numbers : List (Expr × ℕ)) (indexed : IsIndexed gs files numbers) where
    -- an idle file goes
    module _ (number : ℕ) (idle : IsIdle (shown gs files) number) (file : File) (at : lookup (nat_eq number) files ≡ Some file) (new : List (ℕ × File)) (left : List (Expr × ℕ))
        (is : (q : ℕ) → lookup (nat_eq q) new ≡ cond (nat_eq number q) None (lookup (nat_eq q) files))
        (gone : (q : Expr) → lookup (is_expr q) left ≡ cond (is_expr file.expr q) None (lookup (is_expr q) numbers)) where
      pub shown_rest : shown gs new ≡ remove (shown gs files) number
      shown_rest = shown_gone files new number is

      here_stands : Stands (shown gs files) file.expr number
      here_stands = record { file = state_of gs file; at = shown_at files number file at; of = refl }

      stays_in : (other : ℕ) (state : KeptFile) → get (shown gs new) other ≡ Some state → get (shown gs files) other ≡ Some state
      stays_in other state h = rest_stays (shown gs files) number other state (subst (λ f. get f other ≡ Some state) shown_rest h)

      apart : (expr : Expr) (n : ℕ) → Stands (shown gs new) expr n → n ≢ number
      apart expr n s same = there (subst (λ m. get (remove (shown gs files) number) m ≡ Some s.file) same (subst (λ f. get f n ≡ Some s.file) shown_rest s.at)) (gone_same (shown gs files) number)

      found_rest : (expr : Expr) (n : ℕ) → lookup (is_expr expr) left ≡ Some n → Stands (shown gs new) expr n
      found_rest expr n e = elim (is_expr file.expr expr) as (λ b. is_expr file.expr expr ≡ b → Stands (shown gs new) expr n) [
        | true ↦ λ b. absurd (there e (gone expr ∙ ap (λ x. cond x None (lookup (is_expr expr) numbers)) b))
        | false ↦ λ b.
            let s = (indexed.found expr n).0 (sym (gone expr ∙ ap (λ x. cond x None (lookup (is_expr expr) numbers)) b) ∙ e) in
            let differs : n ≢ number = λ same.
            let f : s.file ≡ state_of gs file = one_value (subst (λ m. get (shown gs files) m ≡ Some s.file) same s.at) (shown_at files number file at) in
            let same_expr : file.expr ≡ expr = sym (ap (λ x. x.expr) f) ∙ s.of in
            true≢false (sym (subst (λ x. is_expr file.expr x ≡ true) same_expr (exact_itself expr_row.coded file.expr)) ∙ b) in
            record { file = s.file; at = subst (λ x. get x n ≡ Some s.file) (sym shown_rest) (gone_other (shown gs files) number n differs ∙ s.at); of = s.of }
      ] refl

      stands_rest : (expr : Expr) (n : ℕ) → Stands (shown gs new) expr n → lookup (is_expr expr) left ≡ Some n
      stands_rest expr n s =
          let before : Stands (shown gs files) expr n = record { file = s.file; at = stays_in n s.file s.at; of = s.of } in
          let old = (indexed.found expr n).1 before in
          elim (is_expr file.expr expr) as (λ b. is_expr file.expr expr ≡ b → lookup (is_expr expr) left ≡ Some n) [
            | true ↦ λ b.
                let same_expr : file.expr ≡ expr = exact_is expr_row.coded file.expr expr b in
                let other = (indexed.found expr number).1 (subst (λ x. Stands (shown gs files) x number) same_expr here_stands) in
                absurd (apart expr n s (one_value old other))
            | false ↦ λ b. gone expr ∙ ap (λ x. cond x None (lookup (is_expr expr) numbers)) b ∙ old
          ] refl

      pub indexed_rest : IsIndexed gs new left
      indexed_rest = record {
        found = λ expr n. (found_rest expr n, stands_rest expr n);
        inputs = λ other kept here.
            let state = shown_at new other kept here in
            let before = stays_in other (state_of gs kept) state in
            let k = kept_at files other (state_of gs kept) before in
            let old_here : lookup (nat_eq other) files ≡ Some kept = elim (cases_eq other number) [
              | inl same ↦ absurd (there here (is other ∙ ap (λ b. cond b None (lookup (nat_eq other) files)) (eq-eqb number other (sym same))))
              | inr differs ↦ sym (is other ∙ ap (λ b. cond b None (lookup (nat_eq other) files)) (ne_eqb number other (λ e. differs (sym e)))) ∙ here
            ] in
            subst (λ f. AreInputs f kept.expr kept.inputs) (sym shown_rest) (are_inputs_rest (shown gs files) number idle other (state_of gs kept) before kept.inputs (indexed.inputs other kept old_here));
      }

    -- a file is added
    module _ (number : ℕ) (file : File) (absent : get (shown gs files) number ≡ None) (unknown : (n : ℕ) → Stands (shown gs files) file.expr n → ⊥) (are : AreInputs (shown gs files) file.expr file.inputs)
        (new : List (ℕ × File)) (more : List (Expr × ℕ))
        (is : (q : ℕ) → lookup (nat_eq q) new ≡ cond (nat_eq number q) (Some file) (lookup (nat_eq q) files))
        (known : (q : Expr) → lookup (is_expr q) more ≡ cond (is_expr file.expr q) (Some number) (lookup (is_expr q) numbers)) where
      pub shown_added : shown gs new ≡ insert (shown gs files) number (state_of gs file)
      shown_added = shown_put files new number file is

      at_new : get (shown gs new) number ≡ Some (state_of gs file)
      at_new = subst (λ f. get f number ≡ Some (state_of gs file)) (sym shown_added) (put_same (shown gs files) number (state_of gs file))

      still : (other : ℕ) (state : KeptFile) → get (shown gs files) other ≡ Some state → get (shown gs new) other ≡ Some state
      still other state at = elim (cases_eq other number) [
        | inl same ↦ absurd (there (subst (λ n. get (shown gs files) n ≡ Some state) same at) absent)
        | inr differs ↦ subst (λ f. get f other ≡ Some state) (sym shown_added) (put_other (shown gs files) number (state_of gs file) other differs ∙ at)
      ]

      rises : (e : Expr) (n : ℕ) → Stands (shown gs files) e n → Stands (shown gs new) e n
      rises e n s = record { file = s.file; at = still n s.file s.at; of = s.of }

      found_more : (expr : Expr) (n : ℕ) → lookup (is_expr expr) more ≡ Some n → Stands (shown gs new) expr n
      found_more expr n e = elim (is_expr file.expr expr) as (λ b. is_expr file.expr expr ≡ b → Stands (shown gs new) expr n) [
        | true ↦ λ b.
            subst (λ m. Stands (shown gs new) expr m) (one_value (known expr ∙ ap (λ x. cond x (Some number) (lookup (is_expr expr) numbers)) b) e)
            (record { file = state_of gs file; at = at_new; of = exact_is expr_row.coded file.expr expr b })
        | false ↦ λ b. rises expr n ((indexed.found expr n).0 (sym (known expr ∙ ap (λ x. cond x (Some number) (lookup (is_expr expr) numbers)) b) ∙ e))
      ] refl

      stands_in : (expr : Expr) (n : ℕ) → Stands (shown gs new) expr n → lookup (is_expr expr) more ≡ Some n
      stands_in expr n s = elim (cases_eq n number) [
        | inl same ↦
            let f : s.file ≡ state_of gs file = one_value (subst (λ m. get (shown gs new) m ≡ Some s.file) same s.at) at_new in
            let same_expr : file.expr ≡ expr = sym (ap (λ x. x.expr) f) ∙ s.of in
            known expr ∙ ap (λ x. cond x (Some number) (lookup (is_expr expr) numbers)) (subst (λ x. is_expr file.expr x ≡ true) same_expr (exact_itself expr_row.coded file.expr)) ∙ ap Some (sym same)
        | inr differs ↦
            let before : Stands (shown gs files) expr n = record { file = s.file; at = sym (put_other (shown gs files) number (state_of gs file) n differs) ∙ subst (λ f. get f n ≡ Some s.file) shown_added s.at; of = s.of } in
            elim (is_expr file.expr expr) as (λ b. is_expr file.expr expr ≡ b → lookup (is_expr expr) more ≡ Some n) [
              | true ↦ λ b. absurd (unknown n (subst (λ x. Stands (shown gs files) x n) (sym (exact_is expr_row.coded file.expr expr b)) before))
              | false ↦ λ b. known expr ∙ ap (λ x. cond x (Some number) (lookup (is_expr expr) numbers)) b ∙ (indexed.found expr n).1 before
            ] refl
      ]

      pub indexed_added : IsIndexed gs new more
      indexed_added = record {
        found = λ expr n. (found_more expr n, stands_in expr n);
        inputs = λ other kept here. are_inputs_more (shown gs files) (shown gs new) rises kept.expr kept.inputs (elim (cases_eq other number) [
          | inl same ↦
              let e : kept ≡ file = one_value here (is other ∙ ap (λ b. cond b (Some file) (lookup (nat_eq other) files)) (eq-eqb number other (sym same))) in
              subst (λ f. AreInputs (shown gs files) f.expr f.inputs) (sym e) are
          | inr differs ↦ indexed.inputs other kept (sym (is other ∙ ap (λ b. cond b (Some file) (lookup (nat_eq other) files)) (ne_eqb number other (λ e. differs (sym e)))) ∙ here)
        ]);
      }

  -- no files
  pub indexed_none : (files : List (ℕ × File)) (numbers : List (Expr × ℕ)) → files ≡ [] → numbers ≡ [] → IsIndexed gs files numbers
  indexed_none files numbers no_files no_numbers = record {
    found = λ expr n. (λ e. absurd (there e (ap (lookup (is_expr expr)) no_numbers)), λ s. absurd (there s.at (get_shown gs files n ∙ ap (λ f. option_map (state_of gs) (lookup (nat_eq n) f)) no_files)));
    inputs = λ n file e. absurd (there e (ap (lookup (nat_eq n)) no_files));
  }
