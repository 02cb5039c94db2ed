-- What a table shows of the counts that it keeps, and of the changes that wait.
use Rattle.std.proofs.Common.{◌≡◌, ℕ, ◌<◌, Bool, true, false, cond, List, [], ◌∷◌, ◌++◌, length, map, nat_eq}
use Rattle.std.proofs.Common.{Option, Some, None, IfSome, refl, sym, ap, ◌∙◌, subst, arith}
use Rattle.std.specs.Prelude.{if◌then◌else◌, ◌==◌, Result, Ok, Err, OnErr}
use Rattle.std.specs.Cmp.{unsigned_tied}
use Rattle.std.specs.FinMap.{empty, find, get-from_entries}
use Rattle.std.specs.Ordering.{nat_cmp}
use Rattle.std.proofs.lemmas.Bool.{eqb-true}
use Rattle.std.proofs.lemmas.Cmp.{nat_cmp_total, nat_eq_equiv}
use Rattle.ncq_base.specs.Keys.{ByBytes}
use Rattle.ncq_bag.specs.CountStates.{CountState}
use Rattle.ncq_bag.specs.Counts.{IsChange, after}
use Rattle.ncq_bag.specs.declared.bag.Difference.{Difference}
use Rattle.ncq_distinct.specs.DistinctTables.{AwaitsAt, HaveSameCounts, IsSettled, Tallied}
use Rattle.ncq_distinct.specs.DistinctTables.{counts_at, counts_in, waiting_at, waiting_in}
use Rattle.ncq_distinct.specs.Kept.{AreKept, CanWait, ChangesKept, CountsKept, HasRoom, IsKept}
use Rattle.ncq_distinct.specs.Kept.{changes_at, changes_of, counts_of, state_at, table_of, tally_of}

-- what is shown at an install number

module _ (waiting : ChangesKept) (install : ℕ) where
  abbrev shown_in : CountsKept → Option Tallied
  shown_in counts = find nat_cmp install (map (tally_of waiting) counts)

  found_counts : (counts : CountsKept) → counts_in (shown_in counts) ≡ counts_of (state_at counts install)
  found_counts [] = refl
  found_counts (e ∷ counts) =
      ap (λ (t : Bool). counts_in (cond t (Some (tally_of waiting e).1) (shown_in counts))) (unsigned_tied install e.0)
      ∙ elim (nat_eq install e.0) as
      (λ t. counts_in (cond t (Some (tally_of waiting e).1) (shown_in counts))
      ≡ counts_of (cond t (Some e.1) (state_at counts install))) [
        | true ↦ refl
        | false ↦ found_counts counts
      ]

  -- the changes, where there are counts
  abbrev changes_with : Option CountState → List Difference
  changes_with None = []
  changes_with (Some state) = changes_of (changes_at waiting install)

  found_changes : (counts : CountsKept) → waiting_in (shown_in counts) ≡ changes_with (state_at counts install)
  found_changes [] = refl
  found_changes (e ∷ counts) =
      ap (λ (t : Bool). waiting_in (cond t (Some (tally_of waiting e).1) (shown_in counts))) (unsigned_tied install e.0)
      ∙ elim (nat_eq install e.0) as
      (λ t. nat_eq install e.0 ≡ t → waiting_in (cond t (Some (tally_of waiting e).1) (shown_in counts))
      ≡ changes_with (cond t (Some e.1) (state_at counts install))) [
        | true ↦ λ is. ap (λ n. changes_of (changes_at waiting n)) (sym (eqb-true install e.0 is))
        | false ↦ λ is. found_changes counts
      ] refl

  has_counts : (state : Option CountState) → IfSome (changes_at waiting install) (HasRoom state)
      → changes_with state ≡ changes_of (changes_at waiting install)
  has_counts (Some state) can = refl
  has_counts None can = none (changes_at waiting install) can
    where
      none : (changes : Option (List Difference)) → IfSome changes (HasRoom None) → [] ≡ changes_of changes
      none None can = refl
      none (Some changes) can = absurd can

pub counts_shown : (counts : CountsKept) (waiting : ChangesKept) (any : ℕ)
    → counts_at (table_of counts waiting) any ≡ counts_of (state_at counts any)
counts_shown counts waiting any =
    ap counts_in (get-from_entries nat_cmp_total (map (tally_of waiting) counts) any)
    ∙ found_counts waiting any counts

pub waiting_shown : (counts : CountsKept) (waiting : ChangesKept) (any : ℕ) → CanWait counts waiting
    → waiting_at (table_of counts waiting) any ≡ changes_of (changes_at waiting any)
waiting_shown counts waiting any can =
    ap waiting_in (get-from_entries nat_cmp_total (map (tally_of waiting) counts) any)
    ∙ found_changes waiting any counts ∙ has_counts waiting any (state_at counts any) (can any)

-- what is kept

pub counts_kept : (old new : Option CountState) → IsKept old new → counts_of new ≡ counts_of old
counts_kept None None kept = refl
counts_kept None (Some new) kept = kept
counts_kept (Some old) None kept = absurd kept
counts_kept (Some old) (Some new) kept = kept.0

kept_twice : (old middle new : Option CountState) → IsKept old middle → IsKept middle new → IsKept old new
kept_twice None None new kept again = again
kept_twice None (Some middle) None kept again = absurd again
kept_twice None (Some middle) (Some new) kept again = again.0 ∙ kept
kept_twice (Some old) None new kept again = absurd kept
kept_twice (Some old) (Some middle) None kept again = absurd again
kept_twice (Some old) (Some middle) (Some new) kept again = (again.0 ∙ kept.0, omega arith)

room_kept : (old new : Option CountState) (changes : List Difference) → IsKept old new → HasRoom old changes
    → HasRoom new changes
room_kept None new changes kept room = absurd room
room_kept (Some old) None changes kept room = absurd kept
room_kept (Some old) (Some new) changes kept room =
    (subst (λ counts. IsChange counts changes) (sym kept.0) room.0, omega arith)

pub all_kept : (old middle new : CountsKept) → AreKept old middle → AreKept middle new → AreKept old new
all_kept old middle new kept again any =
    kept_twice (state_at old any) (state_at middle any) (state_at new any) (kept any) (again any)

pub still_waits : (old new : CountsKept) (waiting : ChangesKept) → AreKept old new → CanWait old waiting
    → CanWait new waiting
still_waits old new waiting kept can any = by (changes_at waiting any) (can any)
  where
    by : (changes : Option (List Difference)) → IfSome changes (HasRoom (state_at old any))
        → IfSome changes (HasRoom (state_at new any))
    by None can = can
    by (Some changes) can = room_kept (state_at old any) (state_at new any) changes (kept any) can

pub same_counts : (old new : CountsKept) (before now : ChangesKept) → AreKept old new
    → HaveSameCounts (table_of old before) (table_of new now)
same_counts old new before now kept any =
    counts_shown new now any ∙ counts_kept (state_at old any) (state_at new any) (kept any)
    ∙ sym (counts_shown old before any)

pub is_change : (old new : CountsKept) (waiting : ChangesKept) (install : ℕ) (changes : List Difference)
    → AreKept old new → HasRoom (state_at new install) changes
    → IsChange (counts_at (table_of old waiting) install) changes
is_change old new waiting install changes kept room =
    subst (λ (counts : ByBytes ℕ). IsChange counts changes)
    (counts_kept (state_at old install) (state_at new install) (kept install) ∙ sym (counts_shown old waiting install))
    (made (state_at new install) room)
  where
    made : (state : Option CountState) → HasRoom state changes → IsChange (counts_of state) changes
    made None room = absurd room
    made (Some state) room = room.0

pub waiting_unless : {T E : Type 0} (result : Result T E) (old new : CountsKept) (before now : ChangesKept)
    → AreKept old new → CanWait old before → now ≡ before
    → OnErr result ((any : ℕ) → waiting_at (table_of new now) any ≡ waiting_at (table_of old before) any)
waiting_unless (Ok done) old new before now kept can is = tt
waiting_unless (Err why) old new before now kept can is =
    λ any. ap (λ (waiting : ChangesKept). waiting_at (table_of new waiting) any) is
    ∙ waiting_shown new before any (still_waits old new before kept can) ∙ sym (waiting_shown old before any can)

pub nothing_waits : (counts : CountsKept) (waiting : ChangesKept) → waiting ≡ [] → IsSettled (table_of counts waiting)
nothing_waits counts waiting none any =
    subst (λ (left : ChangesKept). waiting_at (table_of counts left) any ≡ []) (sym none)
    (waiting_shown counts [] any (λ any. tt))

-- what is set at an install number

turned : {A : Type 0} (install any : ℕ) (here others : A)
    → cond (nat_eq install any) here others ≡ (if any == install then here else others)
turned install any here others = ap (λ (t : Bool). cond t here others) (nat_eq_equiv.symm install any)

-- the changes that wait were set at the install number, or are gone there
abbrev pub SetsChanges : ChangesKept → ChangesKept → ℕ → Option (List Difference) → Type 0
SetsChanges before now install set =
    (any : ℕ) → changes_at now any ≡ cond (nat_eq install any) set (changes_at before any)

-- the counts of every other subscription are as they were
abbrev pub KeepsOthers : CountsKept → CountsKept → ℕ → Type 0
KeepsOthers old new install = (any : ℕ) → nat_eq install any ≡ false → state_at new any ≡ state_at old any

pub set_waits : (old new : CountsKept) (before now : ChangesKept) (install : ℕ) (set : Option (List Difference))
    → SetsChanges before now install set → KeepsOthers old new install
    → IfSome set (HasRoom (state_at new install)) → CanWait old before → CanWait new now
set_waits old new before now install set is others room can any =
    subst (λ changes. IfSome changes (HasRoom (state_at new any))) (sym (is any)) (by (nat_eq install any) refl)
  where
    by : (t : Bool) → nat_eq install any ≡ t → IfSome (cond t set (changes_at before any)) (HasRoom (state_at new any))
    by true same = subst (λ n. IfSome set (HasRoom (state_at new n))) (eqb-true install any same) room
    by false other =
        subst (λ state. IfSome (changes_at before any) (HasRoom state)) (sym (others any other)) (can any)

pub awaits : (old new : CountsKept) (before now : ChangesKept) (install : ℕ) (set : Option (List Difference))
    → SetsChanges before now install set → CanWait old before → CanWait new now
    → AwaitsAt install (changes_of set) (table_of old before) (table_of new now)
awaits old new before now install set is could can any =
    waiting_shown new now any can ∙ ap changes_of (is any) ∙ apart (nat_eq install any)
    ∙ turned install any (changes_of set) (changes_of (changes_at before any))
    ∙ ap (λ (changes : List Difference). if any == install then changes_of set else changes)
    (sym (waiting_shown old before any could))
  where
    apart : (t : Bool) → changes_of (cond t set (changes_at before any))
        ≡ cond t (changes_of set) (changes_of (changes_at before any))
    apart true = refl
    apart false = refl

pub counts_gone : (old new : CountsKept) (before now : ChangesKept) (install any : ℕ)
    → state_at new any ≡ cond (nat_eq install any) None (state_at old any)
    → counts_at (table_of new now) any ≡ (if any == install then empty else counts_at (table_of old before) any)
counts_gone old new before now install any is =
    counts_shown new now any ∙ ap counts_of is ∙ apart (nat_eq install any)
    ∙ turned install any empty (counts_of (state_at old any))
    ∙ ap (λ (counts : ByBytes ℕ). if any == install then empty else counts) (sym (counts_shown old before any))
  where
    apart : (t : Bool) → counts_of (cond t None (state_at old any)) ≡ cond t empty (counts_of (state_at old any))
    apart true = refl
    apart false = refl

-- the last of the changes that wait

pub last_found : (waiting : ChangesKept) (install : ℕ) (changes : List Difference)
    → changes_at waiting install ≡ None
    → changes_at (waiting ++ (install, changes) ∷ []) install ≡ Some changes
last_found [] install changes none =
    ap (λ (t : Bool). cond t (Some changes) None) (nat_eq_equiv.refl install)
last_found (e ∷ waiting) install changes none =
    elim (nat_eq install e.0) as
    (λ t. cond t (Some e.1) (changes_at waiting install) ≡ None
    → cond t (Some e.1) (changes_at (waiting ++ (install, changes) ∷ []) install) ≡ Some changes) [
      | true ↦ λ some. absurd cc
      | false ↦ last_found waiting install changes
    ] none

-- the counts of a subscription, once the changes of them that wait are made
abbrev pub left_at : CountsKept → ChangesKept → ℕ → ByBytes ℕ
left_at counts waiting any = after (counts_of (state_at counts any)) (changes_of (changes_at waiting any))

pub still_left : (old new : CountsKept) (before now : ChangesKept) (install : ℕ) (changes : List Difference)
    → SetsChanges before now install None → KeepsOthers old new install
    → changes_at before install ≡ Some changes
    → counts_of (state_at new install) ≡ after (counts_of (state_at old install)) changes
    → (any : ℕ) → left_at new now any ≡ left_at old before any
still_left old new before now install changes is others some here any = by (nat_eq install any) refl
  where
    at_it : left_at new now install ≡ left_at old before install
    at_it =
        ap (λ (c : Option (List Difference)). after (counts_of (state_at new install)) (changes_of c))
        (is install ∙ ap (λ (t : Bool). cond t None (changes_at before install)) (nat_eq_equiv.refl install))
        ∙ here
        ∙ ap (λ (c : Option (List Difference)). after (counts_of (state_at old install)) (changes_of c)) (sym some)

    by : (t : Bool) → nat_eq install any ≡ t → left_at new now any ≡ left_at old before any
    by true same = subst (λ n. left_at new now n ≡ left_at old before n) (eqb-true install any same) at_it
    by false other =
        (λ i. after (counts_of (others any other i)) (changes_of (is any i)))
        ∙ ap (λ (t : Bool). after (counts_of (state_at old any)) (changes_of (cond t None (changes_at before any)))) other

pub all_made : (waiting : ChangesKept) → (0 < length waiting → false ≡ true) → waiting ≡ []
all_made [] none = refl
all_made (e ∷ waiting) none = let no : false ≡ true = none (omega arith) in cc
