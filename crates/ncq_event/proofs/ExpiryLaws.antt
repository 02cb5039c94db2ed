-- An agenda of expiries tells which timings have expired.
use Rattle.std.proofs.Common.{◌≡◌, ℕ, suc, ◌+◌, Bool, true, false, List, [], ◌∷◌, ◌++◌, map, refl, sym, ◌∙◌, ap, arith, cond, add-one, Less}
use Rattle.std.specs.Prelude.{Option, Some, None, nat_lt, nat_le}
use Rattle.std.specs.List.{filter, flat_map, take_while, AllByRecursion}
use Rattle.std.specs.List.Sorted.{IsPermutation, IsSorted, IsStrictlySortedBy}
use Rattle.std.specs.Ordering.{nat_cmp, is_lt}
use Rattle.std.specs.Map.{keys_of}
use Rattle.std.proofs.lemmas.Bool.Decides.{nat_tests}
use Rattle.std.proofs.lemmas.Map.Keys.{sorted_head, sorted_tail}
use native.Mathlib.Numerals.{unary_clauses}
use Rattle.ncq_base.specs.Counts.{total_by, SameCounts}
use Rattle.ncq_base.proofs.CountLaws.{counts_from_permutation, counts-map}
use Rattle.ncq_event.specs.declared.timing.Timing.{Timing}
use Rattle.ncq_event.specs.declared.firing.Firing.{Firing}
use Rattle.ncq_event.specs.Instants.{is_past, is_expired}
use Rattle.ncq_event.specs.Orders.{is_before, is_firing, AreRising}
use Rattle.ncq_event.specs.Calendars.{Entry, firing_at, firing_of, expired_at, KeepsExpiries}
use Rattle.ncq_event.proofs.OrderLaws.{IsBelow, rising_cons, one_rising, order_unique, ordered_counts, times_total}
use Rattle.ncq_event.proofs.CalendarLaws.{up_to, front_is, filter_rising, times_kept}

-- numbers as firings of one instant, so that what holds of rising firings holds of rising numbers
abbrev stamp : ℕ → Firing
stamp n = record { instant = 0; install = n }

abbrev install_of : Firing → ℕ
install_of firing = firing.install

unstamped : (ns : List ℕ) → map install_of (map stamp ns) ≡ ns
unstamped [] = refl
unstamped (n ∷ ns) = ap (λ r. n ∷ r) (unstamped ns)

same_numbers : (ms ns : List ℕ) → AreRising (map stamp ms) → AreRising (map stamp ns) → SameCounts ms ns → ms ≡ ns
same_numbers ms ns h k same =
    sym (unstamped ms)
    ∙ ap (map install_of) (one_rising (map stamp ms) (map stamp ns) h k (λ f.
    times_total (is_firing f) (map stamp ms) ∙ counts-map stamp ms ns same (λ x. cond (is_firing f x) 1 0) ∙ sym (times_total (is_firing f) (map stamp ns))))
    ∙ unstamped ns

not_less : (m n : ℕ) → is_lt (nat_cmp n m) ≡ false → is_before (stamp m) (stamp n) ≡ true
not_less m n h = grind (arith, nat_tests)

sorted_rises : (ns : List ℕ) → IsSorted nat_cmp ns → AreRising (map stamp ns)
sorted_rises [] h = tt
sorted_rises (m ∷ []) h = tt
sorted_rises (m ∷ n ∷ ns) h = (
  not_less m n (h 0 m (omega arith) (omega arith)),
  sorted_rises (n ∷ ns) (λ k d low high. simp add-one (simp unary_clauses at (h (suc k) d (omega arith) (omega arith)))),
)

-- the install numbers of some entries of those that rise
module _ (test : Entry → Bool) where
  abbrev some_of : List Entry → List ℕ
  some_of es = map (λ (e : Entry). e.0) (filter test es)

  some_below : (k : ℕ) (es : List Entry) → AllByRecursion (λ m. nat_cmp k m ≡ Less) (keys_of es) → IsBelow (stamp k) (map stamp (some_of es))
  some_below k [] h = tt
  some_below k (e ∷ es) h =
      let up = h.0 in
      let here : is_before (stamp k) (stamp e.0) ≡ true = grind (arith, nat_tests) in
      let rest = some_below k es h.1 in
      elim (test e) as (λ t. IsBelow (stamp k) (map stamp (map (λ (e : Entry). e.0) (cond t (e ∷ filter test es) (filter test es))))) [ true ↦ (here, rest) | false ↦ rest ]

  some_rising : (es : List Entry) → IsStrictlySortedBy nat_cmp (keys_of es) → AreRising (map stamp (some_of es))
  some_rising [] h = tt
  some_rising (e ∷ es) h =
      let rest = some_rising es (sorted_tail nat_cmp e.0 (keys_of es) h) in
      elim (test e) as (λ t. AreRising (map stamp (map (λ (e : Entry). e.0) (cond t (e ∷ filter test es) (filter test es))))) [
        | true ↦ rising_cons (stamp e.0) (map stamp (some_of es)) (some_below e.0 es (sorted_head nat_cmp e.0 (keys_of es) h)) rest
        | false ↦ rest
      ]

abbrev expiry_of : Timing → Option ℕ
expiry_of timing = timing.expire

module _ (last at : ℕ) (next : last + 1 ≡ at) where
  -- the expiries below an instant are those of what has expired there
  past_firings : (es : List Entry) → map install_of (filter (up_to last) (flat_map (firing_of expiry_of) es)) ≡ expired_at at es
  past_firings [] = refl
  past_firings (e ∷ es) =
      let rest = past_firings es in
      elim e.1.expire as (λ o. map install_of (filter (up_to last) (firing_at e.0 o ++ flat_map (firing_of expiry_of) es)) ≡ map (λ (x : Entry). x.0) (cond (is_past o at) (e ∷ filter (λ (x : Entry). is_expired x.1 at) es) (filter (λ (x : Entry). is_expired x.1 at) es))) [
        | None ↦ rest
        | Some d ↦
            let same : nat_lt d at ≡ nat_le d last = grind (arith, nat_tests) in
            elim (nat_le d last) as (λ t. nat_lt d at ≡ t → map install_of (cond t (record { instant = d; install = e.0 } ∷ filter (up_to last) (flat_map (firing_of expiry_of) es)) (filter (up_to last) (flat_map (firing_of expiry_of) es))) ≡ map (λ (x : Entry). x.0) (cond (nat_lt d at) (e ∷ filter (λ (x : Entry). is_expired x.1 at) es) (filter (λ (x : Entry). is_expired x.1 at) es))) [
              | true ↦ λ p. ap (λ r. e.0 ∷ r) rest ∙ sym (λ i. map (λ (x : Entry). x.0) (cond (p i) (e ∷ filter (λ (x : Entry). is_expired x.1 at) es) (filter (λ (x : Entry). is_expired x.1 at) es)))
              | false ↦ λ p. rest ∙ sym (λ i. map (λ (x : Entry). x.0) (cond (p i) (e ∷ filter (λ (x : Entry). is_expired x.1 at) es) (filter (λ (x : Entry). is_expired x.1 at) es)))
            ] same
      ]

  pub expired_are : (es : List Entry) (ends front : List Firing) (installs : List ℕ) → IsStrictlySortedBy nat_cmp (keys_of es) → KeepsExpiries es ends
      → front ≡ take_while (λ firing. nat_le firing.instant last) ends → IsPermutation (map (λ (f : Firing). f.install) front) installs → IsSorted nat_cmp installs → installs ≡ expired_at at es
  expired_are es ends front installs sorted keeps is moved rising =
      let entered = flat_map (firing_of expiry_of) es in
      let told = order_unique (filter (up_to last) entered) (filter (up_to last) ends) (filter_rising (up_to last) ends keeps.rising) (λ f.
      times_kept (up_to last) f ends ∙ ap (λ (n : ℕ). cond (up_to last f) n 0) (keeps.same f) ∙ sym (times_kept (up_to last) f entered)) in
      let front_told = is ∙ front_is last ends keeps.rising ∙ told in
      same_numbers installs (expired_at at es) (sorted_rises installs rising) (some_rising (λ (e : Entry). is_expired e.1 at) es sorted) (λ f.
      sym (counts_from_permutation (map install_of front) installs moved f)
      ∙ ap (λ (fs : List Firing). total_by f (map install_of fs)) front_told
      ∙ counts-map install_of _ (filter (up_to last) entered) (ordered_counts (filter (up_to last) entered)) f
      ∙ ap (total_by f) (past_firings es))

-- at the first instant nothing has expired
pub none_expired : (es : List Entry) → expired_at 0 es ≡ []
none_expired [] = refl
none_expired (e ∷ es) =
    let rest = none_expired es in
    elim e.1.expire as (λ o. map (λ (x : Entry). x.0) (cond (is_past o 0) (e ∷ filter (λ (x : Entry). is_expired x.1 0) es) (filter (λ (x : Entry). is_expired x.1 0) es)) ≡ []) [
      | None ↦ rest
      | Some d ↦
          let off : nat_lt d 0 ≡ false = grind (arith, nat_tests) in
          (λ i. map (λ (x : Entry). x.0) (cond (off i) (e ∷ filter (λ (x : Entry). is_expired x.1 0) es) (filter (λ (x : Entry). is_expired x.1 0) es))) ∙ rest
    ]
