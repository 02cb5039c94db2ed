-- Tables by slot, with one key set.
use Rattle.std.proofs.Common.{◌≡◌, ℕ, ◌&&◌, Bool, true, false, cond, nat_eq, List, [], ◌∷◌, refl, sym, ◌∙◌, ap, subst, arith, inl, inr, ◌⊎◌}
use Rattle.std.specs.Prelude.{Option, Some, None, IfSome}
use Rattle.std.specs.BTreeMap.{is_at}
use Rattle.std.specs.Ordering.{nat_cmp}
use Rattle.std.specs.List.{IsDistinct, AllByRecursion}
use Rattle.std.specs.List.Sorted.{IsStrictlySortedBy}
use Rattle.std.specs.Map.{lookup, keys_of, set_value}
use Rattle.std.specs.Option.{option_and_then, option_map}
use Rattle.std.proofs.lemmas.Bool.{eqb-true, eq-eqb}
use Rattle.std.proofs.lemmas.Bool.Decides.{nat_tests}
use Rattle.std.proofs.lemmas.Map.Keys.{IsDistinct-head, IsDistinct-tail, IsDistinct-from_sorted}
use Rattle.ncq_base.specs.declared.atom.FileId.{FileId}
use Rattle.ncq_readers.specs.Tables.{found_at, Sets, AreGroups}

-- the query of a tree finds its own number

number_at : (n k : ℕ) → is_at (nat_cmp n) k ≡ nat_eq n k
number_at n k = grind (arith, nat_tests)

tests_are : ◌≡◌ {A = ℕ → ℕ → Bool} (λ n k. is_at (nat_cmp n) k) (λ n k. nat_eq n k)
tests_are = λ i n k. number_at n k i

pub slots_apart : (slots : List ℕ) → IsStrictlySortedBy nat_cmp slots → IsDistinct nat_eq slots
slots_apart slots sorted = subst (λ (t : ℕ → ℕ → Bool). IsDistinct t slots) tests_are (IsDistinct-from_sorted nat_cmp slots sorted)

-- look-ups

pub absent : {K X : Type 0} (test : K → Bool) (es : List (K × X)) → AllByRecursion (λ k. test k ≡ false) (keys_of es) → lookup test es ≡ None
absent test [] h = refl
absent test (e ∷ es) h = (λ i. cond (h.0 i) (Some e.1) (lookup test es)) ∙ absent test es h.1

pub same_kept : {K X : Type 0} (test : K → Bool) (es : List (K × X)) (x : X) → lookup test es ≡ Some x → set_value test es x ≡ es
same_kept test [] x h = cc
same_kept test (e ∷ es) x h =
    elim (test e.0) as (λ b. cond b (Some e.1) (lookup test es) ≡ Some x → cond b ((e.0, x) ∷ es) (e ∷ set_value test es x) ≡ e ∷ es) [
      | true ↦ λ q. let is : e.1 ≡ x = cc in λ i. (e.0, sym is i) ∷ es
      | false ↦ λ q. ap (λ rest. e ∷ rest) (same_kept test es x q)
    ] h

-- what is found where no key stands twice

module _ {K T : Type 0} (eq : K → K → Bool) (exact : (a b : K) → eq a b ≡ true → a ≡ b) (itself : (a : K) → eq a a ≡ true) where
  pub tail_apart : (e : K × T) (es : List (K × T)) (k : K) (t : T) → IsDistinct eq (keys_of (e ∷ es)) → lookup (eq k) es ≡ Some t → eq k e.0 ≡ false
  tail_apart e es k t apart found = by (eq k e.0) refl
    where
      by : (b : Bool) → eq k e.0 ≡ b → b ≡ false
      by false q = refl
      by true q =
          let here : lookup (eq k) es ≡ None = ap (λ n. lookup (eq n) es) (exact k e.0 q) ∙ absent (eq e.0) es (IsDistinct-head eq e.0 (keys_of es) apart) in
          let no : ◌≡◌ {A = Option T} (Some t) None = sym found ∙ here in
          cc

  pub first_found : (e : K × T) (es : List (K × T)) → lookup (eq e.0) (e ∷ es) ≡ Some e.1
  first_found e es = ap (λ b. cond b (Some e.1) (lookup (eq e.0) es)) (itself e.0)

  pub later_found : (e : K × T) (es : List (K × T)) (k : K) (t : T) → IsDistinct eq (keys_of (e ∷ es)) → lookup (eq k) es ≡ Some t → lookup (eq k) (e ∷ es) ≡ Some t
  later_found e es k t apart found = ap (λ b. cond b (Some e.1) (lookup (eq k) es)) (tail_apart e es k t apart found) ∙ found

  -- what holds of each holds of the one that is found, and the other way round
  pub found_has : (P : K → T → Type 0) (es : List (K × T)) (k : K) (t : T) → AllByRecursion (λ e. P e.0 e.1) es → lookup (eq k) es ≡ Some t → P k t
  found_has P [] k t all h = cc
  found_has P (e ∷ es) k t all h =
      elim (eq k e.0) as (λ b. eq k e.0 ≡ b → cond b (Some e.1) (lookup (eq k) es) ≡ Some t → P k t) [
        | true ↦ λ q h. let is : e.1 ≡ t = cc in subst (P k) is (subst (λ n. P n e.1) (sym (exact k e.0 q)) all.0)
        | false ↦ λ q h. found_has P es k t all.1 h
      ] refl h

  pub each_has : (P : K → T → Type 0) (es : List (K × T)) → IsDistinct eq (keys_of es) → ((k : K) (t : T) → lookup (eq k) es ≡ Some t → P k t) → AllByRecursion (λ e. P e.0 e.1) es
  each_has P [] apart h = tt
  each_has P (e ∷ es) apart h =
      (h e.0 e.1 (first_found e es), each_has P es (IsDistinct-tail eq e.0 (keys_of es) apart) (λ k t found. h k t (later_found e es k t apart found)))

pub slot_is : (a b : ℕ) → nat_eq a b ≡ true → a ≡ b
slot_is a b = eqb-true a b

pub slot_itself : (a : ℕ) → nat_eq a a ≡ true
slot_itself a = eq-eqb a a refl

module _ {T : Type 0} where
  -- the slot has this table from now on, or none
  abbrev pub Updates : List (ℕ × T) → ℕ → Option T → List (ℕ × T) → Type 0
  Updates old slot table new = (s : ℕ) → lookup (nat_eq s) new ≡ cond (nat_eq slot s) table (lookup (nat_eq s) old)

  pub updated : (old new : List (ℕ × T)) (slot : ℕ) (table : Option T)
      → ((s : ℕ) → lookup (is_at (nat_cmp s)) new ≡ cond (is_at (nat_cmp slot) s) table (lookup (is_at (nat_cmp s)) old)) → Updates old slot table new
  updated old new slot table h s =
      subst (λ (t : ℕ → ℕ → Bool). lookup (t s) new ≡ cond (t slot s) table (lookup (t s) old)) tests_are (h s)

  pub found_by : (es : List (ℕ × T)) (slot : ℕ) (o : Option T) → lookup (is_at (nat_cmp slot)) es ≡ o → lookup (nat_eq slot) es ≡ o
  found_by es slot o h = subst (λ (t : ℕ → ℕ → Bool). lookup (t slot) es ≡ o) tests_are h

  -- tables stay good ones
  pub groups_updated : (IsGood : T → Type 0) (old new : List (ℕ × T)) (slot : ℕ) (table : Option T) → AreGroups IsGood old → IsDistinct nat_eq (keys_of new) → Updates old slot table new
      → IfSome table IsGood → AreGroups IsGood new
  groups_updated IsGood old new slot table groups apart updates good = record {
    slots = apart;
    each = each_has nat_eq slot_is slot_itself (λ s t. IsGood t) new apart (λ s t found. by (nat_eq slot s) s t (sym (updates s) ∙ found));
  }
    where
      one : (o : Option T) (t : T) → IfSome o IsGood → o ≡ Some t → IsGood t
      one None t g e = cc
      one (Some u) t g e = let is : u ≡ t = cc in subst IsGood is g

      by : (b : Bool) (s : ℕ) (t : T) → cond b table (lookup (nat_eq s) old) ≡ Some t → IsGood t
      by true s t e = one table t good e
      by false s t e = found_has nat_eq slot_is slot_itself (λ s t. IsGood t) old s t groups.each e

module _ {T K : Type 0} (find : T → K → Option FileId) (same : K → K → Bool) where
  -- the table that the slot has now has the key so, and all others as they were
  pub sets_updated : (old new : List (ℕ × T)) (slot : ℕ) (key : K) (value : Option FileId) (table : Option T) → Updates old slot table new
      → ((k : K) → option_and_then (λ t. find t k) table ≡ cond (same k key) value (found_at find old slot k)) → Sets find same old slot key value new
  sets_updated old new slot key value table updates here s k =
      ap (option_and_then (λ t. find t k)) (updates s) ∙ by (nat_eq slot s) refl
    where
      by : (b : Bool) → nat_eq slot s ≡ b → option_and_then (λ t. find t k) (cond b table (lookup (nat_eq s) old)) ≡ cond (b && same k key) value (found_at find old s k)
      by true e = here k ∙ ap (λ n. cond (same k key) value (found_at find old n k)) (eqb-true slot s e)
      by false e = refl

  -- where the slot has no table, no key has a file
  pub sets_nothing : (old new : List (ℕ × T)) (slot : ℕ) (key : K) → lookup (nat_eq slot) old ≡ None → new ≡ old → Sets find same old slot key None new
  sets_nothing old new slot key none is s k = ap (λ es. found_at find es s k) is ∙ by (nat_eq slot s) refl
    where
      nowhere : (b : Bool) (o : Option FileId) → o ≡ None → o ≡ cond b None o
      nowhere true o e = e
      nowhere false o e = refl

      by : (b : Bool) → nat_eq slot s ≡ b → found_at find old s k ≡ cond (b && same k key) None (found_at find old s k)
      by true e = nowhere (same k key) (found_at find old s k) (ap (option_and_then (λ t. find t k)) (ap (λ n. lookup (nat_eq n) old) (sym (eqb-true slot s e)) ∙ none))
      by false e = refl

-- what is told of a file by its number

abbrev pub reads : Option FileId → ℕ → Type 0
reads found number = option_map (λ file. file.0) found ≡ Some number

none_reads : (o : Option FileId) (n : ℕ) → o ≡ None → reads o n → ⊥
none_reads o n e h = let no : ◌≡◌ {A = Option ℕ} None (Some n) = sym (ap (option_map (λ (file : FileId). file.0)) e) ∙ h in cc

both : (a b : Bool) → (a && b) ≡ true → (a ≡ true) × (b ≡ true)
both true b h = (refl, h)
both false b h = cc

module _ {T K : Type 0} (find : T → K → Option FileId) (same : K → K → Bool) (exact : (a b : K) → same a b ≡ true → a ≡ b) (itself : (a : K) → same a a ≡ true)
    (old new : List (ℕ × T)) (slot : ℕ) (key : K) where
  abbrev At : ℕ → K → ℕ → Type 0
  At s k n = reads (found_at find old s k) n

  abbrev Then : ℕ → K → ℕ → Type 0
  Then s k n = reads (found_at find new s k) n

  abbrev Here : ℕ → K → ℕ → ℕ → Type 0
  Here s k n number = (s ≡ slot) × (k ≡ key) × (n ≡ number)

  at_key : (s : ℕ) (k : K) → (nat_eq slot s && same k key) ≡ true → (s ≡ slot) × (k ≡ key)
  at_key s k h =
      let two = both (nat_eq slot s) (same k key) h in
      (sym (eqb-true slot s two.0), exact k key two.1)

  its_value : (value : Option FileId) → Sets find same old slot key value new → found_at find new slot key ≡ value
  its_value value sets = sets slot key ∙ (λ i. cond (eq-eqb slot slot refl i && itself key i) value (found_at find old slot key))

  module _ (file : FileId) (free : found_at find old slot key ≡ None) (sets : Sets find same old slot key (Some file) new) where
    pub gain_here : Then slot key file.0
    gain_here = ap (option_map (λ (f : FileId). f.0)) (its_value (Some file) sets)

    pub gain_kept : (s : ℕ) (k : K) (n : ℕ) → At s k n → Then s k n
    gain_kept s k n h = subst (λ o. reads o n) (sym (sets s k)) (by (nat_eq slot s && same k key) refl)
      where
        by : (b : Bool) → (nat_eq slot s && same k key) ≡ b → reads (cond b (Some file) (found_at find old s k)) n
        by true e = let is = at_key s k e in absurd (none_reads _ n ((λ i. found_at find old (is.0 i) (is.1 i)) ∙ free) h)
        by false e = h

    pub gain_only : (s : ℕ) (k : K) (n : ℕ) → Then s k n → At s k n ⊎ Here s k n file.0
    gain_only s k n h = by (nat_eq slot s && same k key) refl (subst (λ o. reads o n) (sets s k) h)
      where
        by : (b : Bool) → (nat_eq slot s && same k key) ≡ b → reads (cond b (Some file) (found_at find old s k)) n → At s k n ⊎ Here s k n file.0
        by true e h = let is = at_key s k e in let number : n ≡ file.0 = cc in inr (is.0, is.1, number)
        by false e h = inl h

  module _ (sets : Sets find same old slot key None new) where
    pub lose_gone : (n : ℕ) → Then slot key n → ⊥
    lose_gone n h = none_reads _ n (its_value None sets) h

    pub lose_kept : (number : ℕ) → At slot key number → (s : ℕ) (k : K) (n : ℕ) → At s k n → Then s k n ⊎ Here s k n number
    lose_kept number there s k n h = by (nat_eq slot s && same k key) refl (subst (λ o. reads o n) (sym (sets s k)))
      where
        by : (b : Bool) → (nat_eq slot s && same k key) ≡ b → (reads (cond b None (found_at find old s k)) n → Then s k n) → Then s k n ⊎ Here s k n number
        by true e back =
            let is = at_key s k e in
            let one : ◌≡◌ {A = Option ℕ} (Some n) (Some number) = sym h ∙ (λ i. option_map (λ (f : FileId). f.0) (found_at find old (is.0 i) (is.1 i))) ∙ there in
            let number_is : n ≡ number = cc in
            inr (is.0, is.1, number_is)
        by false e back = inl (back h)

    pub lose_only : (s : ℕ) (k : K) (n : ℕ) → Then s k n → At s k n
    lose_only s k n h = by (nat_eq slot s && same k key) (subst (λ o. reads o n) (sets s k) h)
      where
        by : (b : Bool) → reads (cond b None (found_at find old s k)) n → At s k n
        by true h = absurd (none_reads None n refl h)
        by false h = h
