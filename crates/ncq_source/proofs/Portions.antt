-- The portions of a change, given room and committed one after the other.
use Rattle.std.proofs.Common.{◌≡◌, ℕ, zero, suc, ◌<◌, ◌≤◌, ◌+◌, true, false, List, [], ◌∷◌, ◌++◌, map, length, set, get_or, slice_get, take, Option, Some, None, refl, sym, ap, ◌∙◌, subst, arith, inl, inr, true≢false}
use Rattle.std.specs.Prelude.{◌≢◌, ◌⊎◌, ◌==◌, if◌then◌else◌}
use Rattle.std.specs.List.{AllByRecursion}
use Rattle.std.specs.List.Sorted.{IsStrictlySortedBy}
use Rattle.std.specs.Ordering.{nat_cmp}
use Rattle.std.specs.declared.cmp.Ordering.TheVariants.{Less}
use Rattle.std.proofs.lemmas.Bool.Decides.{nat_tests}
use Rattle.std.specs.Option.{option_map}
use Rattle.std.proofs.lemmas.Option.{slice_get_within, slice_get-map}
use Rattle.std.proofs.Math.Seq.{take-suc}
use Rattle.std.proofs.Math.ListN.{length-set}
use Rattle.ncq_source.specs.CanCommit.{CanCommit}
use Rattle.ncq_source.specs.ChangeStates.{AreRising, entries_at, places}
use Rattle.ncq_source.specs.Stores.{Source, Follows}
use Rattle.ncq_source.specs.StoreStates.{AreCommitted, FollowsPortion, HasRoomIn}
use Rattle.ncq_source.specs.Views.{source_of}
use Rattle.ncq_source.specs.declared.change.Entry.{Entry}
use Rattle.ncq_source.specs.declared.change.Portion.{Portion}
use Rattle.ncq_source.specs.declared.declared.Declared.{Declared}
use Rattle.ncq_source.proofs.Commits.{some_at}
use Rattle.ncq_source.proofs.Places.{from_map, length_of, same_Some, map_set_is, seen_is}

module _ {A : Type 0} where
  -- what stands in a list where an item was set
  pub set_cases : (xs : List A) (i j : ℕ) (y t : A) → slice_get (set xs i y) j ≡ Some t → ((j ≡ i) × (y ≡ t)) ⊎ (slice_get xs j ≡ Some t)
  set_cases [] i j y t h = inr h
  set_cases (x ∷ xs) zero zero y t h = inl (refl, same_Some y t h)
  set_cases (x ∷ xs) zero (suc j) y t h = inr h
  set_cases (x ∷ xs) (suc i) zero y t h = inr h
  set_cases (x ∷ xs) (suc i) (suc j) y t h = by (set_cases xs i j y t h)
    where
      by : ((j ≡ i) × (y ≡ t)) ⊎ (slice_get xs j ≡ Some t) → ((suc j ≡ suc i) × (y ≡ t)) ⊎ (slice_get xs j ≡ Some t)
      by (inl p) = inl (ap suc p.0, p.1)
      by (inr p) = inr p

  pub set_there : (xs : List A) (i : ℕ) (y : A) → i < length xs → slice_get (set xs i y) i ≡ Some y
  set_there [] i y h = absurd (omega (arith, h))
  set_there (x ∷ xs) zero y h = refl
  set_there (x ∷ xs) (suc i) y h = set_there xs i y (let less : i < length xs = omega (arith, h) in less)

  pub set_apart : (xs : List A) (i j : ℕ) (y : A) → j ≢ i → slice_get (set xs i y) j ≡ slice_get xs j
  set_apart [] i j y apart = refl
  set_apart (x ∷ xs) zero zero y apart = absurd (apart refl)
  set_apart (x ∷ xs) zero (suc j) y apart = refl
  set_apart (x ∷ xs) (suc i) zero y apart = refl
  set_apart (x ∷ xs) (suc i) (suc j) y apart = set_apart xs i j y (λ e. apart (ap suc e))

  pub all_append : (P : A → Type 0) (xs ys : List A) → AllByRecursion P xs → AllByRecursion P ys → AllByRecursion P (xs ++ ys)
  all_append P [] ys a b = b
  all_append P (x ∷ xs) ys a b = (a.0, all_append P xs ys a.1 b)

  pub all_weaker : (P Q : A → Type 0) (xs : List A) → ((x : A) → P x → Q x) → AllByRecursion P xs → AllByRecursion Q xs
  all_weaker P Q [] f a = tt
  all_weaker P Q (x ∷ xs) f a = (f x a.0, all_weaker P Q xs f a.1)

  -- one more of those that were taken
  pub all_taken : (P : A → Type 0) (xs : List A) (i : ℕ) (x : A) → i < length xs → x ≡ get_or xs i x → P x → AllByRecursion P (take i xs) → AllByRecursion P (take (i + 1) xs)
  all_taken P xs i x within is one before =
      subst (λ n. AllByRecursion P (take n xs)) (next i)
      (subst (AllByRecursion P) (sym (take-suc xs i x within)) (all_append P (take i xs) (get_or xs i x ∷ []) before (subst P is one, tt)))
    where
      next : (i : ℕ) → suc i ≡ i + 1
      next i = omega arith

  pub all_at : (P : A → Type 0) (xs : List A) (i : ℕ) (x : A) → i < length xs → x ≡ get_or xs i x → AllByRecursion P xs → P x
  all_at P [] i x within is all = absurd (omega (arith, within))
  all_at P (y ∷ xs) zero x within is all = subst P (sym is) all.0
  all_at P (y ∷ xs) (suc i) x within is all = all_at P xs i x (let less : i < length xs = omega (arith, within) in less) is all.1

-- where a source gets more room, every portion that had its room has it
pub room_grows : (xs : List Declared) (i : ℕ) (x y : Declared) → i < length (map source_of xs) → x ≡ get_or xs i x → x.elements.room ≤ y.elements.room
    → (portion : Portion) → HasRoomIn (map source_of xs) portion → HasRoomIn (map source_of (set xs i y)) portion
room_grows xs i x y within at grows portion room s here =
    by (set_cases (map source_of xs) i portion.source.0 (source_of y) s (ap (λ all. slice_get all portion.source.0) (sym (map_set_is source_of xs i y)) ∙ here))
  where
    by : ((portion.source.0 ≡ i) × (source_of y ≡ s)) ⊎ (slice_get (map source_of xs) portion.source.0 ≡ Some s) → length portion.entries ≤ s.room
    by (inl p) =
        let before : length portion.entries ≤ x.elements.room = room (source_of x) (ap (slice_get (map source_of xs)) p.0 ∙ seen_is source_of xs i x within at) in
        let same : y.elements.room ≡ s.room = ap (λ (t : Source). t.room) p.1 in
        omega arith
    by (inr p) = room s p

-- a source that was given the room of its portion has it
pub room_given : (xs : List Declared) (y : Declared) (portion : Portion) → length portion.entries ≤ y.elements.room → portion.source.0 < length (map source_of xs) → HasRoomIn (map source_of (set xs portion.source.0 y)) portion
room_given xs y portion room within s here =
    let is : source_of y ≡ s = same_Some (source_of y) s (sym (set_there (map source_of xs) portion.source.0 (source_of y) within) ∙ ap (λ all. slice_get all portion.source.0) (sym (map_set_is source_of xs portion.source.0 y)) ∙ here) in
    subst (λ (t : Source). length portion.entries ≤ t.room) is room

-- the portions behind one are of other sources
pub others : (at : ℕ) (portions : List Portion) → AllByRecursion (λ q. nat_cmp at q ≡ Less) (places portions) → AllByRecursion (λ (portion : Portion). portion.source.0 ≢ at) portions
others at [] h = tt
others at (portion ∷ portions) h = (λ e. less_apart at portion.source.0 h.0 e, others at portions h.1)
  where
    less_apart : (a b : ℕ) → nat_cmp a b ≡ Less → b ≡ a → ⊥
    less_apart a b less same = let below : a < b = grind (arith, nat_tests, less) in omega arith

pub rising_front : (portion : Portion) (portions : List Portion) → AreRising (portion ∷ portions) → AllByRecursion (λ (q : Portion). q.source.0 ≢ portion.source.0) portions
unfolding IsStrictlySortedBy
rising_front portion portions rising = others portion.source.0 portions rising.0

pub rising_rest : (portion : Portion) (portions : List Portion) → AreRising (portion ∷ portions) → AreRising portions
unfolding IsStrictlySortedBy
rising_rest portion portions rising = rising.1

none_at : (at : ℕ) (portions : List Portion) → AllByRecursion (λ (q : Portion). q.source.0 ≢ at) portions → entries_at at portions ≡ None
none_at at [] apart = refl
none_at at (portion ∷ portions) apart =
    elim (at == portion.source.0) as (λ t. (at == portion.source.0) ≡ t → (if t then Some portion.entries else entries_at at portions) ≡ None) [
      | true ↦ λ same. absurd (apart.0 (let e : portion.source.0 ≡ at = grind (arith, nat_tests, same) in e))
      | false ↦ λ differs. none_at at portions apart.1
    ] refl

-- one portion, and then the others
pub one_committed : (old new : List Source) (portion : Portion) (portions : List Portion) (number : ℕ) (s t : Source) → slice_get old portion.source.0 ≡ Some s → Follows s t portion.entries number
    → AllByRecursion (λ (q : Portion). q.source.0 ≢ portion.source.0) portions → AreCommitted (set old portion.source.0 t) portions number new → AreCommitted old (portion ∷ portions) number new
one_committed old new portion portions number s t here follows apart rest = record {
  count = rest.count ∙ length-set old portion.source.0 t;
  each = λ at s0 there.
      elim (at == portion.source.0) as (λ b. (at == portion.source.0) ≡ b → (t0 : Source) × (slice_get new at ≡ Some t0) × FollowsPortion s0 t0 (if b then Some portion.entries else entries_at at portions) number) [
        | true ↦ λ same.
            let e : at ≡ portion.source.0 = grind (arith, nat_tests, same) in
            let within : portion.source.0 < length old = slice_get_within old portion.source.0 s here in
            let r = rest.each portion.source.0 t (set_there old portion.source.0 t within) in
            let stays : r.0 ≡ t = subst (λ (o : Option (List Entry)). FollowsPortion t r.0 o number) (none_at portion.source.0 portions apart) r.2 in
            let is : s ≡ s0 = same_Some s s0 (sym here ∙ ap (slice_get old) (sym e) ∙ there) in
            (r.0, ap (slice_get new) e ∙ r.1, subst (λ (x : Source). Follows x r.0 portion.entries number) is (subst (λ (x : Source). Follows s x portion.entries number) (sym stays) follows))
        | false ↦ λ differs.
            let ne : at ≢ portion.source.0 = λ e. let bad : (at == portion.source.0) ≡ true = grind (arith, nat_tests, e) in true≢false (sym bad ∙ differs) in
            rest.each at s0 (set_apart old portion.source.0 at t ne ∙ there)
      ] refl;
}

pub none_committed : (old : List Source) (number : ℕ) → AreCommitted old [] number old
none_committed old number = record { count = refl; each = λ at s here. (s, here, refl) }

-- a portion, and then the others
pub committed_behind : (old mid new : List Source) (portion : Portion) (portions : List Portion) (number : ℕ) → AllByRecursion (λ (q : Portion). q.source.0 ≢ portion.source.0) portions
    → AreCommitted old (portion ∷ []) number mid → AreCommitted mid portions number new → AreCommitted old (portion ∷ portions) number new
committed_behind old mid new portion portions number apart one rest = record {
  count = rest.count ∙ one.count;
  each = λ at s here.
      let first = one.each at s here in
      let second = rest.each at first.0 first.1 in (
        second.0,
        second.1,
        elim (at == portion.source.0) as (λ b. (at == portion.source.0) ≡ b → FollowsPortion s first.0 (if b then Some portion.entries else None) number → FollowsPortion s second.0 (if b then Some portion.entries else entries_at at portions) number) [
          | true ↦ λ same follows.
              let e : at ≡ portion.source.0 = grind (arith, nat_tests, same) in
              let stays : second.0 ≡ first.0 = subst (λ (o : Option (List Entry)). FollowsPortion first.0 second.0 o number) (ap (λ n. entries_at n portions) e ∙ none_at portion.source.0 portions apart) second.2 in
              subst (λ (x : Source). Follows s x portion.entries number) (sym stays) follows
          | false ↦ λ differs is. subst (λ (x : Source). FollowsPortion x second.0 (entries_at at portions) number) is second.2
        ] refl first.2,
      );
}

-- the other sources are as they were, so their portions have their room still
room_behind : (old mid : List Source) (portion : Portion) (number : ℕ) (portions : List Portion) → AreCommitted old (portion ∷ []) number mid → AllByRecursion (λ (q : Portion). q.source.0 ≢ portion.source.0) portions
    → AllByRecursion (HasRoomIn old) portions → AllByRecursion (HasRoomIn mid) portions
room_behind old mid portion number [] one apart room = tt
room_behind old mid portion number (q ∷ portions) one apart room = (still, room_behind old mid portion number portions one apart.1 room.1)
  where
    still : HasRoomIn mid q
    still t here =
        let within : q.source.0 < length old = subst (λ n. q.source.0 < n) one.count (slice_get_within mid q.source.0 t here) in
        let s = some_at old q.source.0 within in
        let r = one.each q.source.0 s.0 s.1 in
        let other : AllByRecursion (λ (p : Portion). p.source.0 ≢ q.source.0) (portion ∷ []) = (λ e. apart.0 (sym e), tt) in
        let as_was : r.0 ≡ s.0 = subst (λ (o : Option (List Entry)). FollowsPortion s.0 r.0 o number) (none_at q.source.0 (portion ∷ []) other) r.2 in
        let is : s.0 ≡ t = sym as_was ∙ same_Some r.0 t (sym r.1 ∙ here) in
        subst (λ (x : Source). length q.entries ≤ x.room) is (room.0 s.0 s.1)

-- the first portion alone can be committed
pub can_first : (sources : List Source) (portion : Portion) (portions : List Portion) → CanCommit sources (portion ∷ portions) → CanCommit sources (portion ∷ [])
unfolding IsStrictlySortedBy
can_first sources portion portions can = record { rising = (tt, tt); declared = (can.declared.0, tt); room = (can.room.0, tt) }

-- behind the first portion the others can
pub can_behind : (old mid : List Source) (portion : Portion) (portions : List Portion) (number : ℕ) → CanCommit old (portion ∷ portions) → AreCommitted old (portion ∷ []) number mid → CanCommit mid portions
can_behind old mid portion portions number can one = record {
  rising = rising_rest portion portions can.rising;
  declared = subst (λ n. AllByRecursion (λ (q : Portion). q.source.0 < n) portions) (sym one.count) can.declared.1;
  room = room_behind old mid portion number portions one (rising_front portion portions can.rising) can.room.1;
}

follows_name : (s t : Source) (o : Option (List Entry)) (number : ℕ) → FollowsPortion s t o number → t.name ≡ s.name
follows_name s t None number is = ap (λ (x : Source). x.name) is
follows_name s t (Some entries) number follows = follows.name

same_lists : {A : Type 0} (xs ys : List A) → length xs ≡ length ys → ((i : ℕ) (y : A) → slice_get ys i ≡ Some y → slice_get xs i ≡ Some y) → xs ≡ ys
same_lists [] [] count each = refl
same_lists [] (y ∷ ys) count each = absurd (omega arith)
same_lists (x ∷ xs) [] count each = absurd (omega arith)
same_lists (x ∷ xs) (y ∷ ys) count each =
    let rest : length xs ≡ length ys = omega arith in
    λ i. same_Some x y (each 0 y refl) i ∷ same_lists xs ys rest (λ j z there. each (suc j) z there) i

-- a commit renames no source
pub names_stay : (old new : List Source) (portions : List Portion) (number : ℕ) → AreCommitted old portions number new → map (λ (s : Source). s.name) new ≡ map (λ (s : Source). s.name) old
names_stay old new portions number committed = same_lists _ _ (sym (length_of _ new) ∙ committed.count ∙ length_of _ old) named
  where
    named : (i : ℕ) (n : List ℕ) → slice_get (map (λ (s : Source). s.name) old) i ≡ Some n → slice_get (map (λ (s : Source). s.name) new) i ≡ Some n
    named i n here =
        let s = from_map (λ (s : Source). s.name) old i n here in
        let t = committed.each i s.0 s.1 in
        slice_get-map (λ (s : Source). s.name) new i ∙ ap (option_map (λ (s : Source). s.name)) t.1 ∙ ap Some (follows_name s.0 t.0 (entries_at i portions) number t.2 ∙ s.2)
