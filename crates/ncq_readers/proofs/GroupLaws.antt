-- A map of tables by slot, after one table was written, put in or taken out.
use Rattle.std.proofs.Common.{◌≡◌, ℕ, Bool, true, false, cond, nat_eq, List, refl, sym, ◌∙◌, ap, subst, is_some}
use Rattle.std.specs.Prelude.{Option, Some, None, IfSome, Result, Ok, Err, OnErr}
use Rattle.std.specs.BTreeMap.{BTreeMap, is_at}
use Rattle.std.specs.Ordering.{nat_cmp}
use Rattle.std.specs.List.Sorted.{IsStrictlySortedBy}
use Rattle.std.specs.Map.{lookup, keys_of, set_value}
use Rattle.std.specs.Option.{option_and_then}
use Rattle.ncq_base.specs.declared.atom.FileId.{FileId}
use Rattle.ncq_readers.specs.Tables.{found_at, Sets, AreGroups}
use Rattle.ncq_readers.proofs.TableLaws.{updated, found_by, found_has, same_kept, slot_is, slot_itself, slots_apart, groups_updated, sets_updated}

pub any_err : {T E P : Type 0} (r : Result T E) → P → OnErr r P
any_err (Ok x) p = tt
any_err (Err e) p = p

-- the map has this table at the slot, and all others as before
abbrev pub Turns : {T : Type 0} → List (ℕ × T) → ℕ → Option T → List (ℕ × T) → Type 0
Turns old slot table new = (s : ℕ) → lookup (is_at (nat_cmp s)) new ≡ cond (is_at (nat_cmp slot) s) table (lookup (is_at (nat_cmp s)) old)

-- a map that was looked at is as it was
pub turns_from : {T : Type 0} (old mid : BTreeMap ℕ T) (slot : ℕ) (table : Option T) (new : List (ℕ × T)) → mid ≡ old → Turns mid.entries slot table new → Turns old.entries slot table new
turns_from old mid slot table new same turns = subst (λ (m : BTreeMap ℕ _). Turns m.entries slot table new) same turns

module _ {T : Type 0} (old : List (ℕ × T)) (slot : ℕ) where
  pub kept_after : (t w : T) (new : List (ℕ × T)) → lookup (is_at (nat_cmp slot)) old ≡ Some t → new ≡ set_value (is_at (nat_cmp slot)) old w → w ≡ t → new ≡ old
  kept_after t w new found write same = write ∙ ap (set_value (is_at (nat_cmp slot)) old) same ∙ same_kept (is_at (nat_cmp slot)) old t found

  pub there : (t : T) → lookup (is_at (nat_cmp slot)) old ≡ Some t → is_some (lookup (is_at (nat_cmp slot)) old) ≡ true
  there t found = ap is_some found

  pub good_in : (IsGood : T → Type 0) (t : T) → AreGroups IsGood old → lookup (is_at (nat_cmp slot)) old ≡ Some t → IsGood t
  good_in IsGood t groups found = found_has nat_eq slot_is slot_itself (λ _ t. IsGood t) old slot t groups.each (found_by old slot (Some t) found)

  pub groups_after : (IsGood : T → Type 0) (new : List (ℕ × T)) (table : Option T) → AreGroups IsGood old → Turns old slot table new → IsStrictlySortedBy nat_cmp (keys_of new) → IfSome table IsGood → AreGroups IsGood new
  groups_after IsGood new table groups turns sorted good = groups_updated IsGood old new slot table groups (slots_apart (keys_of new) sorted) (updated old new slot table turns) good

  pub turned_again : (mid new : List (ℕ × T)) (first table : Option T) → Turns old slot first mid → Turns mid slot table new → Turns old slot table new
  turned_again mid new first table one two s = two s ∙ ap (cond (is_at (nat_cmp slot) s) table) (one s) ∙ by (is_at (nat_cmp slot) s)
    where
      by : (b : Bool) → cond b table (cond b first (lookup (is_at (nat_cmp s)) old)) ≡ cond b table (lookup (is_at (nat_cmp s)) old)
      by true = refl
      by false = refl

  module _ {K : Type 0} (find : T → K → Option FileId) (same : K → K → Bool) (key : K) where
    pub free_in : (t : T) → lookup (is_at (nat_cmp slot)) old ≡ Some t → found_at find old slot key ≡ None → find t key ≡ None
    free_in t found free = sym (ap (option_and_then (λ t. find t key)) (found_by old slot (Some t) found)) ∙ free

    module _ (value : Option FileId) (new : List (ℕ × T)) where
      -- the table of the slot was written
      pub sets_written : (t w : T) → lookup (is_at (nat_cmp slot)) old ≡ Some t → Turns old slot (Some w) new → ((k : K) → find w k ≡ cond (same k key) value (find t k)) → Sets find same old slot key value new
      sets_written t w found turns here =
          sets_updated find same old new slot key value (Some w) (updated old new slot (Some w) turns)
          (λ k. here k ∙ ap (cond (same k key) value) (sym (ap (option_and_then (λ t. find t k)) (found_by old slot (Some t) found))))

      -- the slot had none, and has one
      pub sets_made : (w : T) → lookup (is_at (nat_cmp slot)) old ≡ None → Turns old slot (Some w) new → ((k : K) → find w k ≡ cond (same k key) value None) → Sets find same old slot key value new
      sets_made w none turns here =
          sets_updated find same old new slot key value (Some w) (updated old new slot (Some w) turns)
          (λ k. here k ∙ ap (cond (same k key) value) (sym (ap (option_and_then (λ t. find t k)) (found_by old slot None none))))

    -- the slot had one, and has none: nothing else was in it
    pub sets_emptied : (t w : T) (new : List (ℕ × T)) → lookup (is_at (nat_cmp slot)) old ≡ Some t → Turns old slot None new → ((k : K) → find w k ≡ cond (same k key) None (find t k)) → ((k : K) → find w k ≡ None)
        → Sets find same old slot key None new
    sets_emptied t w new found turns here empty =
        sets_updated find same old new slot key None None (updated old new slot None turns)
        (λ k. sym (empty k) ∙ here k ∙ ap (cond (same k key) None) (sym (ap (option_and_then (λ t. find t k)) (found_by old slot (Some t) found))))
