-- What a calendar is after a move of the clock.
use Rattle.std.proofs.Common.{◌≡◌, ℕ, ◌+◌, ◌<◌, ◌≤◌, Bool, true, false, List, [], ◌∷◌, ◌++◌, refl, sym, ◌∙◌, ap, arith, cond, subst, Less, inl, inr, length, take, get_or}
use Rattle.std.specs.Prelude.{Option, Some, None, nat_le, option_and_then}
use Rattle.std.specs.Option.{is_some}
use Rattle.std.specs.List.{filter, flat_map, take_while, AllByRecursion}
use Rattle.std.specs.List.Sorted.{IsStrictlySortedBy}
use Rattle.std.specs.Ordering.{nat_cmp}
use Rattle.std.specs.Map.{keys_of, lookup}
use Rattle.std.specs.BTreeMap.{is_at}
use Rattle.std.proofs.lemmas.Bool.{cases_lt}
use Rattle.std.proofs.lemmas.Bool.Decides.{nat_tests}
use Rattle.std.proofs.lemmas.List.{flat_map_more, take_more}
use Rattle.std.proofs.lemmas.Map.Keys.{sorted_head, sorted_tail}
use Rattle.ncq_base.specs.Keys.{times}
use Rattle.ncq_base.proofs.CountLaws.{counts-flat_map}
use Rattle.ncq_event.specs.declared.firing.Firing.{Firing}
use Rattle.ncq_event.specs.Instants.{due}
use Rattle.ncq_event.specs.Orders.{is_firing}
use Rattle.ncq_event.specs.Agendas.{with_firings, without_firings, StandOnce}
use Rattle.ncq_event.specs.Calendars.{Entry, firing_at, due_of, is_due, due_firings, next_after, next_of, Keeps, IsCalendar}
use Rattle.ncq_event.proofs.DueLaws.{due_some}
use Rattle.ncq_event.proofs.OrderLaws.{times_total, ordered_counts}
use Rattle.ncq_event.proofs.AgendaSteps.{with_all_rising, with_all_times, without_all_rising, without_all_times}
use Rattle.ncq_event.proofs.CalendarLaws.{up_to, past, times_joined, times_kept, front_is, front_is_due, moves_on}
use Rattle.ncq_event.proofs.CalendarSteps.{at_most_once}

-- each entry is found by its install number, where they rise
abbrev FindsEach : List Entry → List Entry → Type 0
FindsEach all es = AllByRecursion (λ (e : Entry). lookup (is_at (nat_cmp e.0)) all ≡ Some e.1) es

found_behind : (first : Entry) (all es : List Entry) → AllByRecursion (λ k. nat_cmp first.0 k ≡ Less) (keys_of es) → FindsEach all es → FindsEach (first ∷ all) es
found_behind first all [] h k = tt
found_behind first all (e ∷ es) h k =
    let up = h.0 in
    let apart : is_at (nat_cmp e.0) first.0 ≡ false = grind (arith, nat_tests) in
    ((λ i. cond (apart i) (Some first.1) (lookup (is_at (nat_cmp e.0)) all)) ∙ k.0, found_behind first all es h.1 k.1)

found_each : (es : List Entry) → IsStrictlySortedBy nat_cmp (keys_of es) → FindsEach es es
found_each [] h = tt
found_each (e ∷ es) h =
    let here : is_at (nat_cmp e.0) e.0 ≡ true = grind (arith, nat_tests) in (
      (λ i. cond (here i) (Some e.1) (lookup (is_at (nat_cmp e.0)) es)),
      found_behind e es es (sorted_head nat_cmp e.0 (keys_of es) h) (found_each es (sorted_tail nat_cmp e.0 (keys_of es) h)),
    )

module _ (last from to : ℕ) where
  -- the next firings of what was due are those of the entries that were due
  next_found : (all es : List Entry) → FindsEach all es → flat_map (next_of last all to) (flat_map (due_of from to) es) ≡ flat_map (due_of to last) (filter (is_due from to) es)
  next_found all [] h = refl
  next_found all (e ∷ es) h =
      let rest = next_found all es h.1 in
      elim (due e.1 from to) as (λ o. flat_map (next_of last all to) (firing_at e.0 o ++ flat_map (due_of from to) es) ≡ flat_map (due_of to last) (cond (is_some o) (e ∷ filter (is_due from to) es) (filter (is_due from to) es))) [
        | None ↦ rest
        | Some d ↦ λ i. firing_at e.0 (option_and_then (λ timing. due timing to last) (h.0 i)) ++ rest i
      ]

  next_times : (g : Firing) (es : List Entry) → IsStrictlySortedBy nat_cmp (keys_of es)
      → times (is_firing g) (flat_map (next_of last es to) (due_firings from to es)) ≡ times (is_firing g) (flat_map (due_of to last) (filter (is_due from to) es))
  next_times g es sorted =
      times_total (is_firing g) (flat_map (next_of last es to) (due_firings from to es))
      ∙ counts-flat_map (next_of last es to) (due_firings from to es) (flat_map (due_of from to) es) (ordered_counts (flat_map (due_of from to) es)) (λ x. cond (is_firing g x) 1 0)
      ∙ sym (times_total (is_firing g) (flat_map (next_of last es to) (flat_map (due_of from to) es)))
      ∙ ap (times (is_firing g)) (next_found es es (found_each es sorted))

-- what is due is above the instant that the clock stood at
none_before : (from to : ℕ) (g : Firing) (es : List Entry) → g.instant ≤ from → times (is_firing g) (flat_map (due_of from to) es) ≡ 0
none_before from to g [] h = refl
none_before from to g (e ∷ es) h =
    let rest = none_before from to g es h in
    let joined = times_joined (is_firing g) (due_of from to e) (flat_map (due_of from to) es) in
    let one : times (is_firing g) (due_of from to e) ≡ 0 = elim (due e.1 from to) as (λ o. due e.1 from to ≡ o → times (is_firing g) (firing_at e.0 o) ≡ 0) [
      | None ↦ λ p. refl
      | Some d ↦ λ p.
          let up = (due_some e.1 from to d p).due.above in
          let apart : is_firing g (record { instant = d; install = e.0 }) ≡ false = grind (arith, nat_tests) in
          λ i. cond {A = ℕ} (apart i) 1 0 + 0
    ] refl in
    omega arith

module _ (last from to : ℕ) (es : List Entry) (agenda ends : List Firing) (is : IsCalendar last from es agenda ends) (up : from ≤ to) (within : to ≤ last)
    (done next : List Firing) (is_done : done ≡ take_while (λ firing. nat_le firing.instant to) agenda) (is_next : next ≡ flat_map (next_of last es to) done) where
  count_done : (g : Firing) → times (is_firing g) done ≡ cond (up_to to g) (times (is_firing g) agenda) 0
  count_done g = ap (times (is_firing g)) (is_done ∙ front_is to agenda is.firings.rising) ∙ times_kept (up_to to) g agenda

  count_next : (g : Firing) → times (is_firing g) next ≡ times (is_firing g) (flat_map (due_of to last) (filter (is_due from to) es))
  count_next g =
      ap (times (is_firing g)) (is_next ∙ ap (flat_map (next_of last es to)) (is_done ∙ front_is_due last from to es agenda is.firings within))
      ∙ next_times last from to g es is.rising

  count_after : (g : Firing) → times (is_firing g) (flat_map (due_of to last) es) ≡ cond (past to g) (times (is_firing g) agenda) 0 + times (is_firing g) next
  count_after g =
      let a = moves_on last from to es g up within in
      let b = times_kept (past to) g (flat_map (due_of from last) es) in
      let c : cond (past to g) (times (is_firing g) (flat_map (due_of from last) es)) 0 ≡ cond (past to g) (times (is_firing g) agenda) 0 = ap (λ (n : ℕ). cond (past to g) n 0) (sym (is.firings.same g)) in
      let d = count_next g in
      omega arith

  pub next_once : StandOnce agenda next
  next_once g =
      let after = count_after g in
      let here = is.firings.same g in
      let once_here = at_most_once (λ t. due t from last) g es is.rising in
      let once_after = at_most_once (λ t. due t to last) g es is.rising in
      elim (cases_lt to g.instant) [
        | inl l ↦
            let on : past to g ≡ true = grind (arith, nat_tests) in
            let split : cond (past to g) (times (is_firing g) agenda) 0 ≡ times (is_firing g) agenda = ap (λ (t : Bool). cond t (times (is_firing g) agenda) 0) on in
            omega arith
        | inr l ↦ let none = none_before to last g es l in omega arith
      ]

  pub moved : (agenda' : List Firing) → agenda' ≡ without_firings (with_firings agenda next) done → IsCalendar last to es agenda' ends
  moved agenda' left = record {
    rising = is.rising;
    firings = subst (λ (xs : List Firing). Keeps last to es xs) (sym left) (record {
      rising = without_all_rising done (with_firings agenda next) (with_all_rising next agenda is.firings.rising);
      same = λ g.
          let few : (q : Firing) → times (is_firing q) done ≤ times (is_firing q) (with_firings agenda next) = λ q.
          let a = with_all_times q next agenda next_once in
          let b = count_done q in
          let c : cond (up_to to q) (times (is_firing q) agenda) 0 ≤ times (is_firing q) agenda = elim (up_to to q) as (λ t. cond t (times (is_firing q) agenda) 0 ≤ times (is_firing q) agenda) [ true ↦ omega arith | false ↦ omega arith ] in
          omega arith in
          let a = with_all_times g next agenda next_once in
          let b = without_all_times g done (with_firings agenda next) few in
          let c = count_done g in
          let d = count_after g in
          elim (cases_lt to g.instant) [
            | inl l ↦
                let on : past to g ≡ true = grind (arith, nat_tests) in
                let off : up_to to g ≡ false = grind (arith, nat_tests) in
                let p : cond (past to g) (times (is_firing g) agenda) 0 ≡ times (is_firing g) agenda = ap (λ (t : Bool). cond t (times (is_firing g) agenda) 0) on in
                let q : cond (up_to to g) (times (is_firing g) agenda) 0 ≡ 0 = ap (λ (t : Bool). cond t (times (is_firing g) agenda) 0) off in
                omega arith
            | inr l ↦
                let off : past to g ≡ false = grind (arith, nat_tests) in
                let on : up_to to g ≡ true = grind (arith, nat_tests) in
                let p : cond (past to g) (times (is_firing g) agenda) 0 ≡ 0 = ap (λ (t : Bool). cond t (times (is_firing g) agenda) 0) off in
                let q : cond (up_to to g) (times (is_firing g) agenda) 0 ≡ times (is_firing g) agenda = ap (λ (t : Bool). cond t (times (is_firing g) agenda) 0) on in
                omega arith
          ];
    });
    expiries = is.expiries;
  }

-- one firing more, whose next is looked for
pub next_more : (last at : ℕ) (es : List Entry) (xs : List Firing) (n : ℕ) (d : Firing) → n < length xs → (next next' : List Firing) (o : Option ℕ) → next ≡ flat_map (next_of last es at) (take n xs)
    → next_after last es at (get_or xs n d).install ≡ o → next' ≡ next ++ firing_at (get_or xs n d).install o → next' ≡ flat_map (next_of last es at) (take (n + 1) xs)
next_more last at es xs n d h next next' o before found after =
    after
    ∙ (λ i. before i ++ firing_at (get_or xs n d).install (sym found i))
    ∙ flat_map_more (next_of last es at) [] (take n xs) (get_or xs n d)
    ∙ sym (ap (flat_map (next_of last es at)) (take_more xs n d h))
