-- Files that differ in their readers at most are found and seen alike.
use Rattle.std.proofs.Common.{◌≡◌, ◌↔◌, ◌⊎◌, ℕ, true, false, cond, List, Some, None, Option, nat_eq, inl, inr, refl, sym, ap, ◌∙◌, subst}
use Rattle.std.specs.Option.{option_map}
use Rattle.std.specs.Map.{lookup}
use Rattle.std.proofs.lemmas.Cmp.{nat_cmp_total}
use Rattle.std.specs.FinMap.{same_map, nat_cmp-IsAntisymmetric}
use Rattle.ncq_plan.specs.declared.expr.Expr.{Expr}
use Rattle.ncq_shelf.specs.Stands.{Stands}
use Rattle.ncq_shelf.specs.Inputs.{AreInputs}
use Rattle.ncq_plan.specs.ExprLists.{is_expr}
use Rattle.ncq_shelf.specs.Indexed.{IsIndexed}
use Rattle.ncq_shelf.specs.Shown.{shown, state_of}
use Rattle.ncq_shelf.specs.Wired.{HasOthers, IsEnrolled, IsStruck, AreAlike}
use Rattle.ncq_shelf.specs.Enrolled.{OneEach}
use Rattle.ncq_shelf.specs.declared.file.File.{File}
use Rattle.ncq_shelf.proofs.Maps.{one_value, there as is_there}
use Rattle.ncq_shelf.proofs.ShownFiles.{get_shown}
use Rattle.ncq_shelf.proofs.Indexes.{shown_at}
use Rattle.ncq_shelf.specs.Groups.{Groups, IsGrouped, IsRightFor, IsTaken, content_of, group_of}
use Rattle.std.proofs.lemmas.Bool.{eqb-true}
use Rattle.ncq_midfile.specs.declared.signed.SignedRow.{SignedRow}
use Rattle.ncq_shelf.specs.declared.group.Group.{Group}
use Rattle.ncq_shelf.specs.declared.rows.Rows.{Rows}
use Rattle.ncq_shelf.specs.declared.inputs.Inputs.TheVariants.{One}
use Rattle.ncq_shelf.proofs.KeyLaws.{all_map}

module _ (gs : Groups) where
  pub record AreOthers (old new : List (ℕ × File)) : Type 0 where
    pub there : (at : ℕ) (file : File) → lookup (nat_eq at) old ≡ Some file → (next : File) × (lookup (nat_eq at) new ≡ Some next) × HasOthers file next
    pub none : (at : ℕ) → lookup (nat_eq at) old ≡ None → lookup (nat_eq at) new ≡ None

  pub enrolled_others : (old new : List (ℕ × File)) (whole : Expr) (number : ℕ) → IsEnrolled old whole number new → AreOthers old new
  enrolled_others old new whole number e = record { there = λ at file k. let a = e.there at file k in (a.0, a.1, a.2); none = e.none }

  pub struck_others : (old new : List (ℕ × File)) (whole : Expr) (number : ℕ) → IsStruck old whole number new → AreOthers old new
  struck_others old new whole number e = record { there = λ at file k. let a = e.there at file k in (a.0, a.1, a.2); none = e.none }

  pub alike_others : (old new : List (ℕ × File)) → AreAlike old new → AreOthers old new
  alike_others old new e = record { there = λ at file k. let a = e.there at file k in (a.0, a.1, a.2); none = e.none }

  same_state : (f g : File) → HasOthers f g → state_of gs g ≡ state_of gs f
  same_state f g h i = record { expr = h.expr i; uses = h.uses i; content = content_of gs (h.expr i) (h.content i) }

  module _ (old new : List (ℕ × File)) (others : AreOthers old new) where
    same_shown : (q : ℕ) (o : Option File) → lookup (nat_eq q) old ≡ o → option_map (state_of gs) (lookup (nat_eq q) new) ≡ option_map (state_of gs) o
    same_shown q (Some f) k = let a = others.there q f k in ap (option_map (state_of gs)) a.1 ∙ ap Some (same_state f a.0 a.2)
    same_shown q None k = ap (option_map (state_of gs)) (others.none q k)

    pub shown_others : shown gs new ≡ shown gs old
    shown_others = same_map nat_cmp_total nat_cmp-IsAntisymmetric _ _ (λ q. get_shown gs new q ∙ same_shown q (lookup (nat_eq q) old) refl ∙ sym (get_shown gs old q))

    -- a file that is there was there, with other readers at most
    pub was_there : (q : ℕ) (g : File) → lookup (nat_eq q) new ≡ Some g → (f : File) × (lookup (nat_eq q) old ≡ Some f) × HasOthers f g
    was_there q g k = elim (lookup (nat_eq q) old) as (λ o. lookup (nat_eq q) old ≡ o → (f : File) × (lookup (nat_eq q) old ≡ Some f) × HasOthers f g) [
      | Some f ↦ λ e. let a = others.there q f e in (f, e, subst (HasOthers f) (one_value a.1 k) a.2)
      | None ↦ λ e. absurd (is_there k (others.none q e))
    ] refl

    pub indexed_others : (numbers : List (Expr × ℕ)) → IsIndexed gs old numbers → IsIndexed gs new numbers
    indexed_others numbers indexed = record {
      found = λ expr n. subst (λ m. (lookup (is_expr expr) numbers ≡ Some n) ↔ Stands m expr n) (sym shown_others) (indexed.found expr n);
      inputs = λ n g at.
          let w = was_there n g at in
          subst (λ m. AreInputs m g.expr g.inputs) (sym shown_others) (step w.0 g w.2 (indexed.inputs n w.0 w.1));
    }
      where
        step : (f g : File) → HasOthers f g → AreInputs (shown gs old) f.expr f.inputs → AreInputs (shown gs old) g.expr g.inputs
        step f g h a = subst (λ x. AreInputs (shown gs old) x g.inputs) (sym h.expr) (subst (λ x. AreInputs (shown gs old) f.expr x) (sym h.inputs) a)

  -- each expression has one file, as the index finds one
  pub one_each : (files : List (ℕ × File)) (numbers : List (Expr × ℕ)) → IsIndexed gs files numbers → OneEach files
  one_each files numbers indexed first second one two a b same =
      let s : Stands (shown gs files) one.expr first = record { file = state_of gs one; at = shown_at gs files first one a; of = refl } in
      let t : Stands (shown gs files) one.expr second = record { file = state_of gs two; at = shown_at gs files second two b; of = sym same } in
      one_value ((indexed.found one.expr first).1 s) ((indexed.found one.expr second).1 t)

  -- virtual files stay in their groups
  module _ (old new : List (ℕ × File)) (others : AreOthers old new) where
    pub grouped_others : IsGrouped old gs → IsGrouped new gs
    grouped_others grouped = record {
      right = λ n g at. let w = was_there old new others n g at in subst (λ e. IsRightFor gs e (group_of g.content)) (sym w.2.expr) (subst (λ (rows : Rows). IsRightFor gs w.0.expr (group_of rows)) (sym w.2.content) (grouped.right n w.0 w.1));
      over = λ n g group at of. let w = was_there old new others n g at in w.2.inputs ∙ grouped.over n w.0 group w.1 (ap group_of (sym w.2.content) ∙ of);
      slots = grouped.slots;
      taken = λ group held at. all_map (λ (r : SignedRow). IsTaken old group r.row) (λ (r : SignedRow). IsTaken new group r.row) (taken_on group) held.rows (grouped.taken group held at);
    }
      where
        taken_on : (group : Group) (r : SignedRow) → IsTaken old group r.row → IsTaken new group r.row
        taken_on group r t =
            let a = others.there t.number t.file t.at in
            record { number = t.number; file = a.0; inner = t.inner; interval = t.interval; at = a.1; of = ap group_of a.2.content ∙ t.of; is = a.2.expr ∙ t.is; within = t.within }

  -- a file that has its own rows comes in
  module _ (old new : List (ℕ × File)) (number : ℕ) (file : File) (absent : lookup (nat_eq number) old ≡ None) (is : (q : ℕ) → lookup (nat_eq q) new ≡ cond (nat_eq number q) (Some file) (lookup (nat_eq q) old)) where
    pub grouped_more : IsRightFor gs file.expr (group_of file.content) → ((group : Group) → group_of file.content ≡ Some group → file.inputs ≡ One group.input) → IsGrouped old gs → IsGrouped new gs
    grouped_more right over grouped = record {
      right = λ n g at. elim (which n g at) as (λ _. IsRightFor gs g.expr (group_of g.content)) [ inl e ↦ subst (λ (f : File). IsRightFor gs f.expr (group_of f.content)) e right | inr was ↦ grouped.right n g was ];
      over = λ n g group at of. elim (which n g at) as (λ _. g.inputs ≡ One group.input) [
        | inl e ↦ ap (λ (f : File). f.inputs) (sym e) ∙ over group (ap (λ (f : File). group_of f.content) e ∙ of)
        | inr was ↦ grouped.over n g group was of
      ];
      slots = grouped.slots;
      taken = λ group held at. all_map (λ (r : SignedRow). IsTaken old group r.row) (λ (r : SignedRow). IsTaken new group r.row) (λ r t. record { number = t.number; file = t.file; inner = t.inner; interval = t.interval; at = stays t.number t.file t.at; of = t.of; is = t.is; within = t.within }) held.rows (grouped.taken group held at);
    }
      where
        which : (n : ℕ) (g : File) → lookup (nat_eq n) new ≡ Some g → (file ≡ g) ⊎ (lookup (nat_eq n) old ≡ Some g)
        which n g at = elim (nat_eq number n) as (λ b. cond b (Some file) (lookup (nat_eq n) old) ≡ Some g → (file ≡ g) ⊎ (lookup (nat_eq n) old ≡ Some g)) [ true ↦ λ e. inl (one_value refl e) | false ↦ λ e. inr e ] (sym (is n) ∙ at)

        stays : (n : ℕ) (g : File) → lookup (nat_eq n) old ≡ Some g → lookup (nat_eq n) new ≡ Some g
        stays n g at = elim (nat_eq number n) as (λ b. nat_eq number n ≡ b → lookup (nat_eq n) new ≡ Some g) [
          | true ↦ λ q. absurd (is_there (subst (λ m. lookup (nat_eq m) old ≡ Some g) (sym (eqb-true number n q)) at) absent)
          | false ↦ λ q. is n ∙ ap (λ b. cond b (Some file) (lookup (nat_eq n) old)) q ∙ at
        ] refl
