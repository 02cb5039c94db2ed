-- A prepared change is the fold of its items.
use Rattle.std.proofs.Common.{◌≡◌, ℕ, ◌+◌, Bool, true, false, List, [], ◌∷◌, Option, Some, None, refl, sym, ap, ◌∙◌, subst, true≢false}
use Rattle.ncq_tree.specs.declared.model.Element.{Element}
use Rattle.ncq_source.specs.declared.change.Entry.{Entry}
use Rattle.ncq_pyx.specs.declared.item.Item.{Item}
use Rattle.ncq_pyx.specs.declared.item.Item.TheVariants.{Put, Remove}
use Rattle.ncq_source.specs.declared.key.Key.{Key}
use Rattle.ncq_source.specs.Held.{Kept, with_at}
use Rattle.ncq_source.specs.Keys.{key_of}
use Rattle.std.specs.FinMap.{get}
use Rattle.ncq_source.specs.Changes.{Trial, prepared, entry_of, put_entry, gone_entry, behind, next, after, taken, put_at, store_after, Chains}
use Rattle.ncq_source.specs.Changes.Trial.{Good, NoKey, NotThere}

abbrev is_good : {A : Type 0} → Trial A → Bool
is_good (Good a) = true
is_good (NoKey n) = false
is_good (NotThere n) = false

abbrev pub value_or : {A : Type 0} → A → Trial A → A
value_or d (Good a) = a
value_or d (NoKey n) = d
value_or d (NotThere n) = d

pub no : {A : Type 0} {a : A} {t : Trial A} {B : Type 0} → t ≡ Good a → is_good t ≡ false → B
no e f = absurd (true≢false (ap is_good (sym e) ∙ f))

-- an entry does to the elements what its item does, and its key holds what it says
pub one : (rule : Key) (p : ℕ) (kept : Kept) (item : Item) (e : Entry) → entry_of rule p kept item ≡ Good e → (with_at kept e.key e.after ≡ taken rule kept item) × (e.before ≡ get kept e.key)
one rule p kept (Put x) e = by (key_of rule x)
  where
    by : (o : Option (List ℕ)) → put_entry p kept o x ≡ Good e → (with_at kept e.key e.after ≡ put_at kept o x) × (e.before ≡ get kept e.key)
    by None h = no h refl
    by (Some k) h = subst (λ (e : Entry). (with_at kept e.key e.after ≡ put_at kept (Some k) x) × (e.before ≡ get kept e.key)) (ap (value_or e) h) (refl, refl)
one rule p kept (Remove k) e = by (get kept k) refl
  where
    by : (o : Option Element) → get kept k ≡ o → gone_entry p k o ≡ Good e → (with_at kept e.key e.after ≡ taken rule kept (Remove k)) × (e.before ≡ get kept e.key)
    by None is h = no h refl
    by (Some x) is h = subst (λ (e : Entry). (with_at kept e.key e.after ≡ taken rule kept (Remove k)) × (e.before ≡ get kept e.key)) (ap (value_or e) h) (refl, sym is)

abbrev pub rest_of : Key → ℕ → Kept → List Item → Entry → Trial (List Entry)
rest_of rule p kept items e = prepared rule (p + 1) (with_at kept e.key e.after) items

-- the entries lead from the elements before to the elements after the items, and each says what its key held
pub fold_of_entries : (rule : Key) (p : ℕ) (kept : Kept) (items : List Item) (es : List Entry) → prepared rule p kept items ≡ Good es → (after kept es ≡ store_after rule kept items) × Chains kept es
fold_of_entries rule p kept [] es h = subst (λ (es : List Entry). (after kept es ≡ kept) × Chains kept es) (ap (value_or es) h) (refl, tt)
fold_of_entries rule p kept (item ∷ items) es h =
    by (λ e more. fold_of_entries rule (p + 1) (with_at kept e.key e.after) items more) (entry_of rule p kept item) refl h
  where
    last : (e : Entry) → ((more : List Entry) → rest_of rule p kept items e ≡ Good more → (after (with_at kept e.key e.after) more ≡ store_after rule (with_at kept e.key e.after) items) × Chains (with_at kept e.key e.after) more)
        → entry_of rule p kept item ≡ Good e → (t : Trial (List Entry)) → rest_of rule p kept items e ≡ t → behind e t ≡ Good es → (after kept es ≡ store_after rule kept (item ∷ items)) × Chains kept es
    last e again good (Good more) is h =
        let step = one rule p kept item e good in
        let r = again more is in
        subst (λ (es : List Entry). (after kept es ≡ store_after rule kept (item ∷ items)) × Chains kept es) (ap (value_or es) h)
        (r.0 ∙ ap (λ k. store_after rule k items) step.0, (step.1, r.1))
    last e again good (NoKey n) is h = no h refl
    last e again good (NotThere n) is h = no h refl

    by : ((e : Entry) (more : List Entry) → rest_of rule p kept items e ≡ Good more → (after (with_at kept e.key e.after) more ≡ store_after rule (with_at kept e.key e.after) items) × Chains (with_at kept e.key e.after) more)
        → (t : Trial Entry) → entry_of rule p kept item ≡ t → next t (rest_of rule p kept items) ≡ Good es → (after kept es ≡ store_after rule kept (item ∷ items)) × Chains kept es
    by again (Good e) good h = last e (again e) good (rest_of rule p kept items e) refl h
    by again (NoKey n) good h = no h refl
    by again (NotThere n) good h = no h refl
