-- What crates above use of changes and of the sources of a store.
use Rattle.std.proofs.Common.{◌≡◌, ℕ, ◌+◌, List, [], ◌∷◌, refl, ap, arith}
use Rattle.std.specs.Prelude.{Option, Some, None}
use Rattle.std.specs.FinMap.{get}
use Rattle.ncq_base.specs.Keys.{total_of, weight}
use Rattle.ncq_base.proofs.Totals.{insert_total, remove_total}
use Rattle.ncq_tree.specs.declared.model.Element.{Element}
use Rattle.ncq_source.specs.declared.change.Entry.{Entry}
use Rattle.ncq_source.specs.Changes.{after, Chains, gains, losses}
use Rattle.ncq_source.specs.Held.{Kept, with_at}

with_total : (f : Element → ℕ) (kept : Kept) (key : List ℕ) (now : Option Element) → total_of f (with_at kept key now) + weight f (get kept key) ≡ total_of f kept + weight f now
with_total f kept key (Some element) = insert_total f kept key element
with_total f kept key None = let e = remove_total f kept key in omega arith

-- a sum over the elements changes by what the entries put, less what they take
pub entries_total : (f : Element → ℕ) (kept : Kept) (entries : List Entry) → Chains kept entries → total_of f (after kept entries) + losses f entries ≡ total_of f kept + gains f entries
entries_total f kept [] chains = refl
entries_total f kept (entry ∷ entries) chains =
    let one = with_total f kept entry.key entry.after in
    let rest = entries_total f (with_at kept entry.key entry.after) entries chains.1 in
    let before : weight f entry.before ≡ weight f (get kept entry.key) = ap (weight f) chains.0 in
    omega arith
