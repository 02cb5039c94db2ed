-- Joins that rows of a file may meet, as they are gathered.
use Rattle.std.proofs.Common.{◌≡◌, ◌⊎◌, ℕ, Bool, true, false, cond, List, nat_eq, inl, inr, refl, sym, ◌∙◌, subst}
use Rattle.std.specs.List.{list_any}
use Rattle.std.proofs.lemmas.Bool.{eqb-true}
use Rattle.ncq_row.specs.Embeddings.{Row}
use Rattle.ncq_shelf.specs.Readers.{IsAmong}
use Rattle.ncq_shelf.specs.Met.{Gathers, IsGathered, IsHolderMet, IsSlotMet, IsRowMet, IsOver}
use Rattle.ncq_shelf.specs.declared.file.File.{File}
use Rattle.ncq_shelf.specs.declared.keys.Keys.{Keys}
use Rattle.ncq_shelf.proofs.KeyLaws.{all_map}

module _ (files : List (ℕ × File)) (input : ℕ) where
  pub gathers_itself : (met : List ℕ) → Gathers files input met met
  gathers_itself met = record { kept = λ n h. h; only = λ n h. inl h }

  pub gathers_on : (a b c : List ℕ) → Gathers files input a b → Gathers files input b c → Gathers files input a c
  gathers_on a b c f g = record {
    kept = λ n h. g.kept n (f.kept n h);
    only = λ n h. elim (g.only n h) as (λ _. IsAmong n a ⊎ IsOver files input n) [ inl m ↦ f.only n m | inr o ↦ inr o ];
  }

  -- what is met stays met
  module _ (old new : List ℕ) (g : Gathers files input old new) where
    pub gathered_more : (n : ℕ) → IsGathered files input old n → IsGathered files input new n
    gathered_more n h o = g.kept n (h o)

    pub holder_more : (holder : ℕ) → IsHolderMet files input old holder → IsHolderMet files input new holder
    holder_more holder h differs file at = all_map (IsGathered files input old) (IsGathered files input new) gathered_more file.readers.joins (h differs file at)

    pub slot_more : (keys : Keys) (row : Row) (slot : ℕ) → IsSlotMet files keys input old row slot → IsSlotMet files keys input new row slot
    slot_more keys row slot h less holder held = holder_more holder (h less holder held)

    pub row_more : (keys : Keys) (row : Row) → IsRowMet files keys input old row → IsRowMet files keys input new row
    row_more keys row h slot k = slot_more keys row slot (h slot k)

  -- a join comes in
  pub inserted : (old new : List ℕ) (number : ℕ) → IsOver files input number → ((n : ℕ) → list_any (nat_eq n) new ≡ cond (nat_eq number n) true (list_any (nat_eq n) old)) → Gathers files input old new
  inserted old new number over is = record { kept = λ n h. is n ∙ kept (nat_eq number n) (list_any (nat_eq n) old) h; only = λ n h. from n (nat_eq number n) refl (sym (is n) ∙ h) }
    where
      kept : (b o : Bool) → o ≡ true → cond b true o ≡ true
      kept true o h = refl
      kept false o h = h

      from : (n : ℕ) (b : Bool) → nat_eq number n ≡ b → cond b true (list_any (nat_eq n) old) ≡ true → IsAmong n old ⊎ IsOver files input n
      from n true e h = inr (subst (IsOver files input) (eqb-true number n e) over)
      from n false e h = inl h
