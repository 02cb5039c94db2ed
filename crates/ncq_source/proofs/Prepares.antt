-- What holds of the entries of a prepared change.
use Rattle.std.proofs.Common.{◌≡◌, ℕ, ◌+◌, true, List, [], ◌∷◌, Option, Some, None, refl, ap, subst}
use Rattle.std.specs.Prelude.{IfSome}
use Rattle.std.specs.List.{list_all}
use Rattle.std.specs.FinMap.{get}
use Rattle.ncq_base.proofs.Tests.{both_true}
use Rattle.ncq_tree.specs.declared.model.Element.{Element}
use Rattle.ncq_pyx.specs.Items.{item_is_proper}
use Rattle.ncq_pyx.specs.declared.item.Item.{Item}
use Rattle.ncq_pyx.specs.declared.item.Item.TheVariants.{Put, Remove}
use Rattle.ncq_source.specs.Changes.{Trial, prepared, entry_of, put_entry, gone_entry, behind, next}
use Rattle.ncq_source.specs.Changes.Trial.{Good, NoKey, NotThere}
use Rattle.ncq_source.specs.Held.{Kept, with_at}
use Rattle.ncq_source.specs.Keys.{key_of}
use Rattle.ncq_source.specs.Proper.{IsProper, PutsProper}
use Rattle.ncq_source.specs.declared.change.Entry.{Entry}
use Rattle.ncq_source.specs.declared.key.Key.{Key}
use Rattle.ncq_source.proofs.Folds.{no, value_or, rest_of}

module _ (rule : Key) (P : List Item → List Entry → Type 0) (none : P [] [])
    (more : (p : ℕ) (kept : Kept) (item : Item) (e : Entry) (items : List Item) (es : List Entry) → entry_of rule p kept item ≡ Good e → P items es → P (item ∷ items) (e ∷ es)) where
  -- what holds of nothing, and of one more item and its entry, holds of items and their entries
  pub by_items : (p : ℕ) (kept : Kept) (items : List Item) (es : List Entry) → prepared rule p kept items ≡ Good es → P items es
  by_items p kept [] es h = subst (P []) (ap (value_or es) h) none
  by_items p kept (item ∷ items) es h = by (λ e rest. by_items (p + 1) (with_at kept e.key e.after) items rest) (entry_of rule p kept item) refl h
    where
      last : (e : Entry) → ((rest : List Entry) → rest_of rule p kept items e ≡ Good rest → P items rest) → entry_of rule p kept item ≡ Good e
          → (t : Trial (List Entry)) → rest_of rule p kept items e ≡ t → behind e t ≡ Good es → P (item ∷ items) es
      last e again good (Good rest) is h = subst (P (item ∷ items)) (ap (value_or es) h) (more p kept item e items rest good (again rest is))
      last e again good (NoKey n) is h = no h refl
      last e again good (NotThere n) is h = no h refl

      by : ((e : Entry) (rest : List Entry) → rest_of rule p kept items e ≡ Good rest → P items rest) → (t : Trial Entry) → entry_of rule p kept item ≡ t → next t (rest_of rule p kept items) ≡ Good es → P (item ∷ items) es
      by again (Good e) good h = last e (again e) good (rest_of rule p kept items e) refl h
      by again (NoKey n) good h = no h refl
      by again (NotThere n) good h = no h refl

-- the entry of a proper item puts nothing that is not proper
proper_entry : (rule : Key) (p : ℕ) (kept : Kept) (item : Item) (e : Entry) → entry_of rule p kept item ≡ Good e → item_is_proper item ≡ true → IfSome e.after IsProper
proper_entry rule p kept (Put x) e good proper = by (key_of rule x) good
  where
    by : (o : Option (List ℕ)) → put_entry p kept o x ≡ Good e → IfSome e.after IsProper
    by None h = no h refl
    by (Some k) h = subst (λ (e : Entry). IfSome e.after IsProper) (ap (value_or e) h) proper
proper_entry rule p kept (Remove k) e good proper = by (get kept k) good
  where
    by : (o : Option Element) → gone_entry p k o ≡ Good e → IfSome e.after IsProper
    by None h = no h refl
    by (Some x) h = subst (λ (e : Entry). IfSome e.after IsProper) (ap (value_or e) h) tt

-- the entries of proper items put proper elements
pub puts_proper : (rule : Key) (p : ℕ) (kept : Kept) (items : List Item) (es : List Entry) → prepared rule p kept items ≡ Good es → list_all item_is_proper items ≡ true → PutsProper es
puts_proper rule = by_items rule (λ items es. list_all item_is_proper items ≡ true → PutsProper es) (λ h. tt)
    (λ p kept item e items es good rest h.
    let both = both_true (item_is_proper item) (list_all item_is_proper items) h in
    (proper_entry rule p kept item e good both.0, rest both.1))
