-- Items applied to the elements of a source, and the entries that they make.
use Rattle.std.specs.Prelude.{◌≡◌, ℕ, ◌+◌, Ok, Err, List, [], ◌∷◌, Option, Some, None}
use Rattle.std.specs.FinMap.{get, insert, remove}
use Rattle.std.specs.declared.result.Result.{Result}
use Rattle.ncq_source.specs.declared.change.ChangeError.{ChangeError}
use Rattle.ncq_source.specs.declared.change.ChangeError.TheVariants.{BadKey, NoSuchKey, NoSource}
use Rattle.ncq_source.specs.declared.change.ChangeError.TheVariants.{OutOfMemory}
use Rattle.ncq_tree.specs.declared.model.Element.{Element}
use Rattle.ncq_base.specs.Keys.{weight}
use Rattle.ncq_source.specs.Held.{Kept, with_at}
use Rattle.ncq_source.specs.Keys.{key_of}
use Rattle.ncq_source.specs.declared.key.Key.{Key}
use Rattle.ncq_source.specs.declared.change.Entry.{Entry}
use Rattle.ncq_pyx.specs.declared.item.Item.{Item}
use Rattle.ncq_pyx.specs.declared.item.Item.TheVariants.{Put, Remove}

-- an element put under its key
abbrev pub put_at : Kept → Option (List ℕ) → Element → Kept
put_at kept (Some key) element = insert kept key element
put_at kept None element = kept

-- an item applied: a put sets its key, a removal takes its key away
abbrev pub taken : Key → Kept → Item → Kept
taken rule kept (Put element) = put_at kept (key_of rule element) element
taken rule kept (Remove key) = remove kept key

-- the elements after the items
abbrev pub store_after : Key → Kept → List Item → Kept
store_after rule kept [] = kept
store_after rule kept (item ∷ items) = store_after rule (taken rule kept item) items

-- the elements after the entries
abbrev pub after : Kept → List Entry → Kept
after kept [] = kept
after kept (entry ∷ entries) = after (with_at kept entry.key entry.after) entries

-- an item with the position in the list, counted from 1: its entry, or why it cannot be applied
pub data Trial (A : Type 0) : Type 0 where
  Good : A → Trial A
  NoKey : ℕ → Trial A
  NotThere : ℕ → Trial A

-- the entry of a put under this key, with what the key held; without a key there is none
abbrev pub put_entry : ℕ → Kept → Option (List ℕ) → Element → Trial Entry
put_entry position kept None element = NoKey position
put_entry position kept (Some key) element
    = Good (record { key = key; before = get kept key; after = Some element })

-- the entry of a removal of a key that held this; where it held nothing there is none
abbrev pub gone_entry : ℕ → List ℕ → Option Element → Trial Entry
gone_entry position key None = NotThere position
gone_entry position key (Some element)
    = Good (record { key = key; before = Some element; after = None })

-- the entry of one item
abbrev pub entry_of : Key → ℕ → Kept → Item → Trial Entry
entry_of rule position kept (Put element) = put_entry position kept (key_of rule element) element
entry_of rule position kept (Remove key) = gone_entry position key (get kept key)

-- an entry before the entries of a trial, where it is good
abbrev pub behind : Entry → Trial (List Entry) → Trial (List Entry)
behind entry (Good entries) = Good (entry ∷ entries)
behind entry (NoKey position) = NoKey position
behind entry (NotThere position) = NotThere position

-- what is behind a trial, where it is good
abbrev pub next : Trial Entry → (Entry → Trial (List Entry)) → Trial (List Entry)
next (Good entry) more = behind entry (more entry)
next (NoKey position) more = NoKey position
next (NotThere position) more = NotThere position

-- the entries of items, each with what its key holds after the items before it; the first item that
-- cannot be applied decides
abbrev pub prepared : Key → ℕ → Kept → List Item → Trial (List Entry)
prepared rule position kept [] = Good []
prepared rule position kept (item ∷ items) =
    next (entry_of rule position kept item)
    (λ entry. prepared rule (position + 1) (with_at kept entry.key entry.after) items)

-- what an answer tells of a trial
abbrev pub Tells : {A : Type 0} → Result A ChangeError → Trial A → Type 0
Tells (Ok value) trial = trial ≡ Good value
Tells (Err (BadKey position)) trial = trial ≡ NoKey position
Tells (Err (NoSuchKey position)) trial = trial ≡ NotThere position
Tells (Err NoSource) trial = ⊥
Tells (Err OutOfMemory) trial = Unit {0}

-- a trial behind entries
abbrev pub front : List Entry → Trial (List Entry) → Trial (List Entry)
front [] trial = trial
front (entry ∷ entries) trial = behind entry (front entries trial)

-- each entry says what its key held after the entries before it
abbrev pub Chains : Kept → List Entry → Type 0
Chains kept [] = Unit {0}
Chains kept (entry ∷ entries) = (entry.before ≡ get kept entry.key)
    × Chains (with_at kept entry.key entry.after) entries

-- the sum of f over the elements that the entries put
abbrev pub gains : (Element → ℕ) → List Entry → ℕ
gains f [] = 0
gains f (entry ∷ entries) = weight f entry.after + gains f entries

-- the sum of f over the elements that the entries take
abbrev pub losses : (Element → ℕ) → List Entry → ℕ
losses f [] = 0
losses f (entry ∷ entries) = weight f entry.before + losses f entries
