-- A join comes in, and is found when it is met.
use Rattle.std.proofs.Common.{◌≡◌, ◌⊎◌, ℕ, List, [], ◌∷◌, ◌++◌, Some, None, Ok, Err, Result, OnOk, OnErr, inl, inr, refl, sym, ap, ◌∙◌, subst}
use Rattle.std.specs.Prelude.{nat_lt}
use Rattle.std.specs.List.{AllByRecursion}
use Rattle.std.specs.FinMap.{get, insert}
use Rattle.std.proofs.lemmas.Bool.{cases_eq}
use Rattle.ncq_row.specs.declared.pair.Pair.{Pair}
use Rattle.ncq_plan.specs.declared.expr.Expr.{Expr}
use Rattle.ncq_plan.specs.declared.expr.Expr.TheVariants.{Join}
use Rattle.ncq_midfile.specs.Content.{up_to}
use Rattle.ncq_midfile.specs.Files.{FileState}
use Rattle.ncq_midfile.specs.declared.signed.SignedRow.{SignedRow}
use Rattle.ncq_holders.specs.Held.{Held}
use Rattle.ncq_shelf.specs.KeptFiles.{KeptFile, Files}
use Rattle.ncq_shelf.specs.Stands.{Stands}
use Rattle.ncq_shelf.specs.Inputs.{AreInputs}
use Rattle.ncq_shelf.specs.Indexed.{IsIndexed}
use Rattle.ncq_shelf.specs.Readers.{JoinsFrom}
use Rattle.ncq_shelf.specs.Enrolled.{AreSidesOf, OneEach}
use Rattle.ncq_shelf.specs.Keyed.{is_held, AreHeld, IsHeld, IsFound, IsKeyed, IsJoinFound}
use Rattle.ncq_shelf.specs.Shown.{shown}
use Rattle.ncq_shelf.specs.declared.file.File.{File}
use Rattle.ncq_shelf.specs.declared.keys.Keys.{Keys}
use Rattle.ncq_shelf.specs.declared.inputs.Inputs.{Inputs}
use Rattle.ncq_shelf.specs.declared.inputs.Inputs.TheVariants.{Nothing, One, Two}
use Rattle.ncq_shelf.proofs.Maps.{put_same, put_other, one_value, there as is_there}
use Rattle.ncq_shelf.proofs.Layers.{out-Join, left-input_of, right-input_of}
use Rattle.ncq_shelf.proofs.Arms.{layers, some_of_join, stand}
use Rattle.ncq_shelf.proofs.Others.{one_each}
use Rattle.ncq_shelf.proofs.Added.{input_of_kept}
use Rattle.ncq_shelf.proofs.KeyLaws.{all_part, all_parts, push, passes_left}
use Rattle.ncq_shelf.specs.Groups.{Groups, HasBase, content_of}
use Rattle.ncq_shelf.specs.declared.rows.Rows.{Rows}

module _ (gs : Groups) where
  -- the sides are told in one way
  sides_one : (inputs : Inputs) (l r left right : ℕ) → AreSidesOf inputs l r → AreSidesOf inputs left right → (l ≡ left) × (r ≡ right)
  sides_one inputs l r left right a b = elim inputs as (λ i. AreSidesOf i l r → AreSidesOf i left right → (l ≡ left) × (r ≡ right)) [
    | Nothing ↦ λ a b. absurd a
    | One n ↦ λ a b. (a.0 ∙ sym b.0, a.1 ∙ sym b.1)
    | Two x y ↦ λ a b. (a.0 ∙ sym b.0, a.1 ∙ sym b.1)
  ] a b

  -- the sides of a join are told
  pub some_sides : (files : List (ℕ × File)) (one : OneEach files) (whole : Expr) (inputs : Inputs) → AreInputs (shown gs files) whole inputs → (first second : Expr) (pairs : List Pair) → whole ≡ Join first second pairs → (l : ℕ) × (r : ℕ) × AreSidesOf inputs l r
  some_sides files one whole inputs are first second pairs is = elim inputs as (λ i. inputs ≡ i → (l : ℕ) × (r : ℕ) × AreSidesOf i l r) [
    | Nothing ↦ λ e. absurd (some_of_join gs files one whole inputs are first second pairs is e)
    | One n ↦ λ e. (n, n, (refl, refl))
    | Two l r ↦ λ e. (l, r, (refl, refl))
  ] refl

  pub join_found : (keys : Keys) (number : ℕ) (whole : Expr) (inputs : Inputs) (first second : Expr) (pairs : List Pair) → whole ≡ Join first second pairs → (left right : ℕ) → AreSidesOf inputs left right → IsFound keys number left right pairs → IsJoinFound keys number whole inputs
  join_found keys number whole inputs first second pairs is left right told found f s ps l r same sides =
      let k = layers gs _ _ _ _ (sym is ∙ same) (out-Join first second pairs) (out-Join f s ps) in
      let p : pairs ≡ ps = cc in
      let o = sides_one inputs l r left right sides told in
      subst (IsFound keys number l r) p (subst (λ m. IsFound keys number l m pairs) (sym o.1) (subst (λ m. IsFound keys number m right pairs) (sym o.0) found))

  module _ (f0 : List (ℕ × File)) (numbers : List (Expr × ℕ)) (indexed : IsIndexed gs f0 numbers) (number : ℕ) (whole : Expr) (absent : get (shown gs f0) number ≡ None) (unknown : (n : ℕ) → Stands (shown gs f0) whole n → ⊥)
      (inputs : Inputs) (are : AreInputs (shown gs f0) whole inputs) (state : KeptFile) (same : state.expr ≡ whole) (keys : Keys) (keyed : IsKeyed (shown gs f0) keys) (told : IsJoinFound keys number whole inputs) where
    abbrev more : Files
    more = insert (shown gs f0) number state

    abbrev OldOrNew : Expr → ℕ → Type 0
    OldOrNew e n = Stands (shown gs f0) e n ⊎ ((whole ≡ e) × (n ≡ number))

    split : (e : Expr) (n : ℕ) → Stands more e n → OldOrNew e n
    split e n s = elim (cases_eq n number) as (λ _. OldOrNew e n) [
      | inl this ↦
          let f : s.file ≡ state = one_value (subst (λ m. get more m ≡ Some s.file) this s.at) (put_same (shown gs f0) number state) in
          inr (sym same ∙ sym (ap (λ x. x.expr) f) ∙ s.of, this)
      | inr differs ↦ inl (record { file = s.file; at = sym (put_other (shown gs f0) number state n differs) ∙ s.at; of = s.of })
    ]

    one_file : (e : Expr) (n m : ℕ) → Stands (shown gs f0) e n → Stands (shown gs f0) e m → n ≡ m
    one_file e n m s t = one_value ((indexed.found e n).1 s) ((indexed.found e m).1 t)

    -- a file that some file before reads, or the new one, was there
    was : (e : Expr) (n m : ℕ) → Stands (shown gs f0) e m → Stands more e n → Stands (shown gs f0) e n
    was e n m old s = elim (split e n s) as (λ _. Stands (shown gs f0) e n) [ inl s ↦ s | inr p ↦ absurd (unknown m (subst (λ x. Stands (shown gs f0) x m) (sym p.0) old)) ]

    found_new : (n l r : ℕ) (j : JoinsFrom more n l r) → whole ≡ Join j.first j.second j.pairs → n ≡ number → IsFound keys n l r j.pairs
    found_new n l r j is this =
        let s = some_sides f0 (one_each gs f0 numbers indexed) whole inputs are j.first j.second j.pairs is in
        let on = stand gs f0 (one_each gs f0 numbers indexed) whole inputs are j.first j.second j.pairs is s.0 s.1 s.2 in
        let left : s.0 ≡ l = one_file j.first s.0 l on.0 (was j.first l s.0 on.0 j.on_left) in
        let right : s.1 ≡ r = one_file j.second s.1 r on.1 (was j.second r s.1 on.1 j.on_right) in
        let it : IsFound keys number s.0 s.1 j.pairs = told j.first j.second j.pairs s.0 s.1 is s.2 in
        subst (λ m. IsFound keys m l r j.pairs) (sym this) (subst (λ m. IsFound keys number l m j.pairs) right (subst (λ m. IsFound keys number m s.1 j.pairs) left it))

    found_old : (n l r : ℕ) (j : JoinsFrom more n l r) → Stands (shown gs f0) (Join j.first j.second j.pairs) n → IsFound keys n l r j.pairs
    found_old n l r j s =
        let a = input_of_kept gs f0 numbers indexed (Join j.first j.second j.pairs) n s j.first (left-input_of j.first j.second j.pairs) in
        let b = input_of_kept gs f0 numbers indexed (Join j.first j.second j.pairs) n s j.second (right-input_of j.first j.second j.pairs) in
        keyed.found n l r (record { first = j.first; second = j.second; pairs = j.pairs; stands = s; on_left = was j.first l a.0 a.1 j.on_left; on_right = was j.second r b.0 b.1 j.on_right })

    pub keyed_added : IsKeyed (insert (shown gs f0) number state) keys
    keyed_added = record {
      there = λ n s k.
          let t = keyed.there n s k in
          record { file = t.file; at = put_other (shown gs f0) number state n (λ e. is_there (subst (λ m. get (shown gs f0) m ≡ Some t.file) e t.at) absent) ∙ t.at };
      noted = λ n s g at k.
          let t = keyed.there n s k in
          keyed.noted n s g (sym (put_other (shown gs f0) number state n (λ e. is_there (subst (λ m. get (shown gs f0) m ≡ Some t.file) e t.at) absent)) ∙ at) k;
      found = λ n l r j. elim (split (Join j.first j.second j.pairs) n j.stands) as (λ _. IsFound keys n l r j.pairs) [
        | inl s ↦ found_old n l r j s
        | inr p ↦ found_new n l r j p.0 p.1
      ];
    }

  -- rows that are noted, and one more or none
  pub append_held : {T E : Type 0} (r : Result T E) (P : SignedRow → Type 0) (old new : FileState) (row : SignedRow) → OnOk r (new.rows ≡ old.rows ++ row ∷ []) → OnErr r (new ≡ old) → P row → AllByRecursion P old.rows → AllByRecursion P new.rows
  append_held (Ok x) P old new row ok err here h = subst (AllByRecursion P) (sym ok) (push P old.rows row h here)
  append_held (Err e) P old new row ok err here h = subst (λ (s : FileState). AllByRecursion P s.rows) (sym err) h

  pub appended_held : {T E : Type 0} (r : Result T E) (P : SignedRow → Type 0) (gs : Groups) (expr : Expr) (old new : Rows) (row : SignedRow)
      → OnOk r ((gs : Groups) (expr : Expr) → content_of gs expr new ≡ record { base = (content_of gs expr old).base; rows = (content_of gs expr old).rows ++ row ∷ [] }) → OnErr r (new ≡ old) → P row
      → AllByRecursion P (content_of gs expr old).rows → AllByRecursion P (content_of gs expr new).rows
  appended_held (Ok x) P gs expr old new row ok err here h = subst (λ (s : FileState). AllByRecursion P s.rows) (sym (ok gs expr)) (push P (content_of gs expr old).rows row h here)
  appended_held (Err e) P gs expr old new row ok err here h = subst (λ (rows : Rows). AllByRecursion P (content_of gs expr rows).rows) (sym err) h

  -- rows that are noted, and those that are left of them with those of later changes, or all
  pub compacted_held : {T E : Type 0} (r : Result T E) (held : Held) (number slot change : ℕ) (gs : Groups) (expr : Expr) (old new : Rows)
      → OnOk r ((gs : Groups) (expr : Expr) → HasBase change (content_of gs expr old) (content_of gs expr new)) → OnErr r (new ≡ old)
      → AreHeld held number slot (content_of gs expr old).rows → AreHeld held number slot (content_of gs expr new).rows
  compacted_held (Ok x) held number slot change gs expr old new ok err h =
      let left = (ok gs expr).left in
      let before = (content_of gs expr old).rows in
      let after = (content_of gs expr new).rows in
      let first = passes_left (is_held held number slot) 0 change before (up_to change after) left.content h in
      let last = subst (AreHeld held number slot) (sym left.later) (all_part (λ r. IsHeld held number slot r.row) (λ r. nat_lt change r.number) before h) in
      all_parts (λ r. IsHeld held number slot r.row) change after first last
  compacted_held (Err e) held number slot change gs expr old new ok err h = subst (λ (rows : Rows). AreHeld held number slot (content_of gs expr rows).rows) (sym err) h
