-- The joins that are gathered are those that rows of a file may meet.
use Rattle.std.proofs.Common.{◌≡◌, ◌≢◌, ◌⊎◌, ℕ, ◌<◌, Bool, true, false, ◌&&◌, List, [], ◌∷◌, length, Some, nat_eq, inl, inr, refl, sym, ap, ◌∙◌, subst, true≢false}
use Rattle.std.specs.Prelude.{nat_lt}
use Rattle.std.specs.List.{AllByRecursion, list_any, list_all}
use Rattle.std.specs.Map.{lookup}
use Rattle.std.proofs.lemmas.Bool.{ltb-true}
use Rattle.ncq_row.specs.Embeddings.{Row}
use Rattle.ncq_row.specs.Values.{atom_at}
use Rattle.ncq_row.specs.declared.pair.Pair.{Pair}
use Rattle.ncq_plan.specs.declared.expr.Expr.{Expr}
use Rattle.ncq_plan.specs.declared.expr.Expr.TheVariants.{Join}
use Rattle.ncq_plan.specs.Exprs.{expr_width}
use Rattle.ncq_plan.specs.Meets.{agree, pair_agrees}
use Rattle.ncq_plan.specs.WellFormed.{slots_fit, pair_fits}
use Rattle.ncq_plan.proofs.CallerLemmas.{fit_join}
use Rattle.ncq_midfile.specs.Content.{since}
use Rattle.ncq_readers.specs.ReaderTables.{ReaderTables}
use Rattle.ncq_holders.specs.Held.{is_holder}
use Rattle.ncq_holders.proofs.CallerLemmas.{atoms_same}
use Rattle.ncq_shelf.specs.KeptFiles.{KeptFile}
use Rattle.ncq_shelf.specs.Contents.{AreFormed, AreWide}
use Rattle.ncq_shelf.specs.Stands.{Stands}
use Rattle.ncq_shelf.specs.Readers.{IsAmong, JoinsFrom, IsJoinOver, NoneAgree, AreJoinsMet}
use Rattle.ncq_shelf.specs.Enrolled.{AreSidesOf, OneEach}
use Rattle.ncq_shelf.specs.Wired.{IsShelved}
use Rattle.ncq_shelf.specs.Keyed.{IsHeld, IsKey, IsFound, IsKeyed}
use Rattle.ncq_shelf.specs.Met.{IsSide, IsOver, IsGathered, IsRowMet}
use Rattle.ncq_shelf.specs.Shown.{shown, state_of}
use Rattle.ncq_shelf.specs.declared.file.File.{File}
use Rattle.ncq_shelf.specs.declared.keys.Keys.{Keys}
use Rattle.ncq_shelf.specs.declared.inputs.Inputs.{Inputs}
use Rattle.ncq_shelf.specs.declared.inputs.Inputs.TheVariants.{Nothing, One, Two}
use Rattle.ncq_shelf.proofs.Maps.{one_value}
use Rattle.ncq_shelf.proofs.Indexes.{shown_at, kept_at}
use Rattle.ncq_shelf.proofs.Arms.{stand}
use Rattle.ncq_shelf.proofs.Others.{one_each}
use Rattle.ncq_shelf.proofs.Consumers.{joins_told}
use Rattle.ncq_shelf.proofs.KeyLaws.{all_map, all_part, all_among, holder_of}
use Rattle.ncq_shelf.proofs.KeyedAdded.{some_sides}
use Rattle.ncq_shelf.specs.Groups.{Groups}

module _ (gs : Groups) where
  both_true : (a b : Bool) → (a && b) ≡ true → (a ≡ true) × (b ≡ true)
  both_true true b h = (refl, h)
  both_true false b h = absurd (true≢false (sym h))

  module _ {A : Type 0} (P Q : A → Type 0) where
    each_both : (xs : List A) → AllByRecursion P xs → AllByRecursion Q xs → AllByRecursion (λ x. P x × Q x) xs
    each_both [] p q = tt
    each_both (x ∷ xs) p q = ((p.0, q.0), each_both xs p.1 q.1)

  side_to : (inputs : Inputs) (l r input : ℕ) → AreSidesOf inputs l r → IsSide inputs input → (l ≡ input) ⊎ (r ≡ input)
  side_to inputs l r input told side = elim inputs as (λ i. AreSidesOf i l r → IsSide i input → (l ≡ input) ⊎ (r ≡ input)) [
    | Nothing ↦ λ t s. absurd t
    | One n ↦ λ t s. inl (t.0 ∙ s)
    | Two x y ↦ λ t s. elim s as (λ _. (l ≡ input) ⊎ (r ≡ input)) [ inl e ↦ inl (t.0 ∙ e) | inr e ↦ inr (t.1 ∙ e) ]
  ] told side

  side_from : (inputs : Inputs) (l r input : ℕ) → AreSidesOf inputs l r → (l ≡ input) ⊎ (r ≡ input) → IsSide inputs input
  side_from inputs l r input told side = elim inputs as (λ i. AreSidesOf i l r → (l ≡ input) ⊎ (r ≡ input) → IsSide i input) [
    | Nothing ↦ λ t s. absurd t
    | One n ↦ λ t s. elim s as (λ _. n ≡ input) [ inl e ↦ sym t.0 ∙ e | inr e ↦ sym t.1 ∙ e ]
    | Two x y ↦ λ t s. elim s as (λ _. (x ≡ input) ⊎ (y ≡ input)) [ inl e ↦ inl (sym t.0 ∙ e) | inr e ↦ inr (sym t.1 ∙ e) ]
  ] told side

  module _ (files : List (ℕ × File)) (numbers : List (Expr × ℕ)) (scans : List (List ℕ × ReaderTables)) (shelved : IsShelved gs files numbers scans) (keys : Keys) (keyed : IsKeyed (shown gs files) keys)
      (input : ℕ) (file : File) (at : lookup (nat_eq input) files ≡ Some file) where
    one : OneEach files
    one = one_each gs files numbers shelved.indexed

    one_file : (e : Expr) (n m : ℕ) → Stands (shown gs files) e n → Stands (shown gs files) e m → n ≡ m
    one_file e n m s t = one_value ((shelved.indexed.found e n).1 s) ((shelved.indexed.found e m).1 t)

    -- a file that is a join over this one, both ways
    is_over : (n : ℕ) → IsOver files input n → IsJoinOver (shown gs files) input n
    is_over n o =
        let are = shelved.indexed.inputs n o.file o.at in
        let s = some_sides gs files one o.file.expr o.file.inputs are o.over.first o.over.second o.over.pairs o.over.is in
        let on = stand gs files one o.file.expr o.file.inputs are o.over.first o.over.second o.over.pairs o.over.is s.0 s.1 s.2 in
        record {
          left = s.0;
          right = s.1;
          joins = record { first = o.over.first; second = o.over.second; pairs = o.over.pairs; stands = record { file = state_of gs o.file; at = shown_at gs files n o.file o.at; of = o.over.is }; on_left = on.0; on_right = on.1 };
          here = side_to o.file.inputs s.0 s.1 input s.2 o.over.side;
        }

    over_is : (n : ℕ) → IsJoinOver (shown gs files) input n → IsOver files input n
    over_is n j =
        let k = kept_at gs files n j.joins.stands.file j.joins.stands.at in
        let is : k.0.expr ≡ Join j.joins.first j.joins.second j.joins.pairs = sym (ap (λ x. x.expr) k.2) ∙ j.joins.stands.of in
        let are = shelved.indexed.inputs n k.0 k.1 in
        let s = some_sides gs files one k.0.expr k.0.inputs are j.joins.first j.joins.second j.joins.pairs is in
        let on = stand gs files one k.0.expr k.0.inputs are j.joins.first j.joins.second j.joins.pairs is s.0 s.1 s.2 in
        let left : s.0 ≡ j.left = one_file j.joins.first s.0 j.left on.0 j.joins.on_left in
        let right : s.1 ≡ j.right = one_file j.joins.second s.1 j.right on.1 j.joins.on_right in
        let here : (s.0 ≡ input) ⊎ (s.1 ≡ input) = elim j.here as (λ _. (s.0 ≡ input) ⊎ (s.1 ≡ input)) [ inl e ↦ inl (left ∙ e) | inr e ↦ inr (right ∙ e) ] in
        record { file = k.0; at = k.1; over = record { first = j.joins.first; second = j.joins.second; pairs = j.joins.pairs; is = is; side = side_from k.0.inputs s.0 s.1 input s.2 here } }

    module _ (formed : AreFormed (shown gs files)) (wide : AreWide (shown gs files)) (change : ℕ) (met : List ℕ) (only : (n : ℕ) → IsAmong n met → IsOver files input n) (always : AllByRecursion (IsGathered files input met) keys.always.keys)
        (rows : AllByRecursion (λ r. IsRowMet files keys input met r.row) (since change (state_of gs file).content.rows)) where
      -- a join that is left out is not met by a row and one of its other side
      module _ (n other : ℕ) (over : IsJoinOver (shown gs files) input n) (over_other : IsJoinOver (shown gs files) other n) (out : list_any (nat_eq n) met ≡ false) where
        not_in : IsAmong n met → ⊥
        not_in h = true≢false (sym h ∙ out)

        not_always : list_any (nat_eq n) keys.always.keys ≡ true → ⊥
        not_always h = not_in (all_among (IsGathered files input met) keys.always.keys always n h (over_is n over))

        hit : (g : File) → lookup (nat_eq other) files ≡ Some g → other ≢ input → (slot slot2 : ℕ) (mine theirs : Row) → IsKey keys input slot → IsRowMet files keys input met mine → slot < length mine → IsHeld keys.holders other slot2 theirs → slot2 < length theirs
            → atom_at mine slot ≡ atom_at theirs slot2 → ⊥
        hit g there differs slot slot2 mine theirs key row_met less held less2 same =
            let holder : is_holder keys.holders (atom_at mine slot) other ≡ true = subst (λ a. is_holder keys.holders a other ≡ true) (sym same) (holder_of keys.holders other slot2 theirs less2 held) in
            let all = row_met slot key less other holder differs g there in
            let among = (joins_told gs files numbers scans shelved other g there n).1 over_other in
            not_in (all_among (IsGathered files input met) g.readers.joins all n among (over_is n over))

      -- where the pairs find their slots
      fits : (n left right : ℕ) (j : JoinsFrom (shown gs files) n left right) → list_all (pair_fits (expr_width j.first) (expr_width j.second)) j.pairs ≡ true
      fits n left right j =
          let fit : slots_fit (Join j.first j.second j.pairs) ≡ true = subst (λ w. slots_fit w ≡ true) j.stands.of (formed n j.stands.file j.stands.at).slots in
          (both_true (slots_fit j.first && slots_fit j.second) (list_all (pair_fits (expr_width j.first) (expr_width j.second)) j.pairs) (sym (fit_join j.first j.second j.pairs) ∙ fit)).1

      its_width : (e : Expr) (n : ℕ) (s : Stands (shown gs files) e n) → AllByRecursion (λ r. length r.row ≡ expr_width e) s.file.content.rows
      its_width e n s = subst (λ x. AllByRecursion (λ r. length r.row ≡ expr_width x) s.file.content.rows) s.of (wide n s.file s.at)

      -- the rows above the change, with what was gathered for them
      mine : (e : Expr) (s : Stands (shown gs files) e input) → AllByRecursion (λ r. IsRowMet files keys input met r.row × (length r.row ≡ expr_width e)) (since change s.file.content.rows)
      mine e s =
          let same : state_of gs file ≡ s.file = one_value (shown_at gs files input file at) s.at in
          each_both (λ r. IsRowMet files keys input met r.row) (λ r. length r.row ≡ expr_width e) (since change s.file.content.rows)
          (subst (λ (x : KeptFile). AllByRecursion (λ r. IsRowMet files keys input met r.row) (since change x.content.rows)) same rows)
          (all_part (λ r. length r.row ≡ expr_width e) _ s.file.content.rows (its_width e input s))

      -- the rows of another file, with what is noted of them
      theirs : (e : Expr) (n slot : ℕ) (s : Stands (shown gs files) e n) → IsKey keys n slot → AllByRecursion (λ r. IsHeld keys.holders n slot r.row × (length r.row ≡ expr_width e)) s.file.content.rows
      theirs e n slot s key = each_both (λ r. IsHeld keys.holders n slot r.row) (λ r. length r.row ≡ expr_width e) s.file.content.rows (keyed.noted n slot s.file s.at key) (its_width e n s)

      differ : (pairs : List Pair) (p : Pair) (left right : Row) → (atom_at left p.left ≡ atom_at right p.right → ⊥) → agree (p ∷ pairs) left right ≡ false
      differ pairs p left right miss = by (agree (p ∷ pairs) left right) refl
        where
          by : (b : Bool) → agree (p ∷ pairs) left right ≡ b → b ≡ false
          by true e = absurd (miss (atoms_same (atom_at left p.left) (atom_at right p.right) (both_true (pair_agrees left right p) (list_all (pair_agrees left right) pairs) e).0))
          by false e = refl

      none_left : (n right : ℕ) (j : JoinsFrom (shown gs files) n input right) → list_any (nat_eq n) met ≡ false → (pairs : List Pair) → list_all (pair_fits (expr_width j.first) (expr_width j.second)) pairs ≡ true → IsFound keys n input right pairs
          → NoneAgree pairs (since change j.on_left.file.content.rows) j.on_right.file.content.rows
      none_left n right j out pairs fit found =
          let over : IsJoinOver (shown gs files) input n = record { left = input; right = right; joins = j; here = inl refl } in
          let over_other : IsJoinOver (shown gs files) right n = record { left = input; right = right; joins = j; here = inr refl } in
          by over over_other pairs fit found
        where
          by : IsJoinOver (shown gs files) input n → IsJoinOver (shown gs files) right n → (pairs : List Pair) → list_all (pair_fits (expr_width j.first) (expr_width j.second)) pairs ≡ true → IsFound keys n input right pairs
              → NoneAgree pairs (since change j.on_left.file.content.rows) j.on_right.file.content.rows
          by over over_other [] fit found = elim found as (λ _. NoneAgree [] (since change j.on_left.file.content.rows) j.on_right.file.content.rows) [ inl a ↦ absurd (not_always n right over over_other out a) | inr k ↦ absurd k ]
          by over over_other (p ∷ ps) fit found = elim found as (λ _. NoneAgree (p ∷ ps) (since change j.on_left.file.content.rows) j.on_right.file.content.rows) [
            | inl a ↦ absurd (not_always n right over over_other out a)
            | inr k ↦
                let first = both_true (pair_fits (expr_width j.first) (expr_width j.second) p) (list_all (pair_fits (expr_width j.first) (expr_width j.second)) ps) fit in
                let less = both_true (nat_lt p.left (expr_width j.first)) (nat_lt p.right (expr_width j.second)) first.0 in
                let g = kept_at gs files right j.on_right.file j.on_right.at in
                all_map (λ r. IsRowMet files keys input met r.row × (length r.row ≡ expr_width j.first)) (λ r. AllByRecursion (λ q. agree (p ∷ ps) r.row q.row ≡ false) j.on_right.file.content.rows)
                (λ r m. all_map (λ q. IsHeld keys.holders right p.right q.row × (length q.row ≡ expr_width j.second)) (λ q. agree (p ∷ ps) r.row q.row ≡ false)
                (λ q h. differ ps p r.row q.row (hit n right over over_other out g.0 g.1 (λ e. k.0 (sym e)) p.left p.right r.row q.row k.1 m.0
                (subst (λ w. p.left < w) (sym m.1) (ltb-true p.left (expr_width j.first) less.0)) h.0 (subst (λ w. p.right < w) (sym h.1) (ltb-true p.right (expr_width j.second) less.1))))
                j.on_right.file.content.rows (theirs j.second right p.right j.on_right k.2))
                (since change j.on_left.file.content.rows) (mine j.first j.on_left)
          ]

      none_right : (n left : ℕ) (j : JoinsFrom (shown gs files) n left input) → list_any (nat_eq n) met ≡ false → (pairs : List Pair) → list_all (pair_fits (expr_width j.first) (expr_width j.second)) pairs ≡ true → IsFound keys n left input pairs
          → NoneAgree pairs j.on_left.file.content.rows (since change j.on_right.file.content.rows)
      none_right n left j out pairs fit found =
          let over : IsJoinOver (shown gs files) input n = record { left = left; right = input; joins = j; here = inr refl } in
          let over_other : IsJoinOver (shown gs files) left n = record { left = left; right = input; joins = j; here = inl refl } in
          by over over_other pairs fit found
        where
          by : IsJoinOver (shown gs files) input n → IsJoinOver (shown gs files) left n → (pairs : List Pair) → list_all (pair_fits (expr_width j.first) (expr_width j.second)) pairs ≡ true → IsFound keys n left input pairs
              → NoneAgree pairs j.on_left.file.content.rows (since change j.on_right.file.content.rows)
          by over over_other [] fit found = elim found as (λ _. NoneAgree [] j.on_left.file.content.rows (since change j.on_right.file.content.rows)) [ inl a ↦ absurd (not_always n left over over_other out a) | inr k ↦ absurd k ]
          by over over_other (p ∷ ps) fit found = elim found as (λ _. NoneAgree (p ∷ ps) j.on_left.file.content.rows (since change j.on_right.file.content.rows)) [
            | inl a ↦ absurd (not_always n left over over_other out a)
            | inr k ↦
                let first = both_true (pair_fits (expr_width j.first) (expr_width j.second) p) (list_all (pair_fits (expr_width j.first) (expr_width j.second)) ps) fit in
                let less = both_true (nat_lt p.left (expr_width j.first)) (nat_lt p.right (expr_width j.second)) first.0 in
                let g = kept_at gs files left j.on_left.file j.on_left.at in
                all_map (λ q. IsHeld keys.holders left p.left q.row × (length q.row ≡ expr_width j.first)) (λ q. AllByRecursion (λ r. agree (p ∷ ps) q.row r.row ≡ false) (since change j.on_right.file.content.rows))
                (λ q h. all_map (λ r. IsRowMet files keys input met r.row × (length r.row ≡ expr_width j.second)) (λ r. agree (p ∷ ps) q.row r.row ≡ false)
                (λ r m. differ ps p q.row r.row (λ same. hit n left over over_other out g.0 g.1 k.0 p.right p.left r.row q.row k.2 m.0
                (subst (λ w. p.right < w) (sym m.1) (ltb-true p.right (expr_width j.second) less.1)) h.0 (subst (λ w. p.left < w) (sym h.1) (ltb-true p.left (expr_width j.first) less.0)) (sym same)))
                (since change j.on_right.file.content.rows) (mine j.second j.on_right))
                j.on_left.file.content.rows (theirs j.first left p.left j.on_left k.1)
          ]

      pub are_met : AreJoinsMet (shown gs files) input change met
      are_met = record {
        joins = λ n h. is_over n (only n h);
        others = λ n over out. record {
          on_left = λ right j. none_left n right j out j.pairs (fits n input right j) (keyed.found n input right j);
          on_right = λ left j. none_right n left j out j.pairs (fits n left input j) (keyed.found n left input j);
        };
      }
