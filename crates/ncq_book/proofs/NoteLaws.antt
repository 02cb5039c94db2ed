-- Subscriptions of whom one is noted to have fired: they are found as before.
use Rattle.std.proofs.Common.{◌≡◌, ℕ, ◌<◌, ◌==◌, ◌&&◌, ◌||◌, not, Bool, true, false, List, [], ◌∷◌, map, refl, sym, ◌∙◌, ap, cond, subst}
use Rattle.std.specs.Prelude.{Some, None}
use Rattle.std.specs.List.{find, list_any, AllByRecursion}
use Rattle.std.specs.Option.{option_map}
use Rattle.std.specs.Map.{lookup, set_value}
use Rattle.std.specs.BTreeMap.{is_at}
use Rattle.std.specs.Ordering.{nat_cmp}
use Rattle.std.specs.Str.{bytes_eq}
use Rattle.ncq_event.specs.declared.timing.Timing.{Timing}
use Rattle.ncq_book.specs.declared.finders.Finders.{Finders}
use Rattle.ncq_book.specs.declared.subscription.Subscription.{Subscription}
use Rattle.ncq_book.specs.declared.watchers.Watch.{Watch}
use Rattle.ncq_book.specs.Books.{is_named, is_of, timing_of, with_note, InstallsRise, NamesDiffer}
use Rattle.ncq_book.specs.Kept.{Placed, subscriptions_in, placed_of, install_of, IsKept}
use Rattle.ncq_book.proofs.AlikeLaws.{alike_mapped}
use Rattle.ncq_book.proofs.Lists.{number_at}
use Rattle.ncq_book.proofs.SubscriptionLaws.{NoneOf, none_above, get_is, noted_at}
use Rattle.ncq_book.proofs.KeptLaws.{shown, kept_at}
use Rattle.std.proofs.Common.{arith}

-- subscriptions that a map gives another note at most
module _ (g : Subscription → Subscription) (names : (m : Subscription) → (g m).name ≡ m.name) (installs : (m : Subscription) → (g m).install ≡ m.install) (timings : (m : Subscription) → (g m).timing ≡ m.timing) (files : (m : Subscription) → (g m).file ≡ m.file) (bares : (m : Subscription) → (g m).bare ≡ m.bare) where
  above_mapped : (m : Subscription) (ms : List Subscription) → AllByRecursion (λ n. m.install < n.install) ms → AllByRecursion (λ n. (g m).install < n.install) (map g ms)
  above_mapped m [] above = tt
  above_mapped m (n ∷ ms) above = (subst (λ k. k < (g n).install) (sym (installs m)) (subst (λ k. m.install < k) (sym (installs n)) above.0), above_mapped m ms above.1)

  rise_mapped : (ms : List Subscription) → InstallsRise ms → InstallsRise (map g ms)
  rise_mapped [] rise = tt
  rise_mapped (m ∷ ms) rise = (above_mapped m ms rise.0, rise_mapped ms rise.1)

  others_mapped : (m : Subscription) (ms : List Subscription) → AllByRecursion (λ n. is_named m.name n ≡ false) ms → AllByRecursion (λ n. is_named (g m).name n ≡ false) (map g ms)
  others_mapped m [] others = tt
  others_mapped m (n ∷ ms) others = ((λ i. bytes_eq (names m i) (names n i)) ∙ others.0, others_mapped m ms others.1)

  differ_mapped : (ms : List Subscription) → NamesDiffer ms → NamesDiffer (map g ms)
  differ_mapped [] differ = tt
  differ_mapped (m ∷ ms) differ = (others_mapped m ms differ.0, differ_mapped ms differ.1)

  named_mapped : (name : List ℕ) (ms : List Subscription) → install_of name ms ≡ install_of name (map g ms)
  named_mapped name [] = refl
  named_mapped name (m ∷ ms) =
      elim (is_named name m) as (λ t. option_map (λ n. n.install) (cond t (Some m) (find (is_named name) ms)) ≡ option_map (λ n. n.install) (cond t (Some (g m)) (find (is_named name) (map g ms)))) [
        | true ↦ ap Some (sym (installs m))
        | false ↦ named_mapped name ms
      ]
      ∙ (λ i. option_map (λ n. n.install) (cond (bytes_eq name (sym (names m) i)) (Some (g m)) (find (is_named name) (map g ms))))

  timed_mapped : (ms : List Subscription) → map timing_of ms ≡ map timing_of (map g ms)
  timed_mapped [] = refl
  timed_mapped (m ∷ ms) = λ i. (sym (installs m) i, sym (timings m) i) ∷ timed_mapped ms i

  -- those whose timing passes a test are found by their files as before
  noted_mapped : (of_kind : Timing → Bool) (w : Watch) (ms : List Subscription) → list_any (noted_at (λ m. of_kind m.timing) w) ms ≡ list_any (noted_at (λ m. of_kind m.timing) w) (map g ms)
  noted_mapped of_kind w [] = refl
  noted_mapped of_kind w (m ∷ ms) = λ i. (of_kind (sym (timings m) i) && (w.file == (sym (files m) i).0 && w.install == sym (installs m) i)) || noted_mapped of_kind w ms i

  pub kept_mapped : (placed after : List Placed) (ms : List Subscription) (finders : Finders) → IsKept ms placed finders → after ≡ map placed_of (map g ms) → IsKept (map g ms) after finders
  kept_mapped placed after ms finders kept numbered = record {
    numbered = numbered;
    rise = rise_mapped ms kept.rise;
    differ = differ_mapped ms kept.differ;
    named = λ name. kept.named name ∙ named_mapped name ms;
    timed = kept.timed ∙ timed_mapped ms;
    watched = λ w. kept.watched w ∙ noted_mapped (λ t. t.every == 0) w ms;
    timers = λ w. kept.timers w ∙ noted_mapped (λ t. not (t.every == 0)) w ms;
    strategy = λ bare. kept.strategy bare ∙ alike_mapped bare g bares ms;
  }

-- a number is noted for the subscription of an install number
module _ (i number : ℕ) where
  -- the subscription with the number noted
  abbrev fired : Subscription → Subscription
  fired m = record m { noted = Some number }

  -- and that only where it is the subscription of the install number
  abbrev changed : Subscription → Subscription
  changed = with_note i number

  -- a field that noting leaves
  left : {X : Type 0} (field : Subscription → X) → ((m : Subscription) → field (fired m) ≡ field m) → (m : Subscription) → field (changed m) ≡ field m
  left field same m = elim (is_of i m) as (λ t. field (cond t (fired m) m) ≡ field m) [ true ↦ same m | false ↦ refl ]

  noted_none : (ms : List Subscription) → NoneOf i ms → map changed ms ≡ ms
  noted_none [] none = refl
  noted_none (m ∷ ms) none = λ j. cond (none.0 j) (fired m) m ∷ noted_none ms none.1 j

  nobody_of : (ms : List Subscription) → find (is_of i) ms ≡ None → NoneOf i ms
  nobody_of [] none = tt
  nobody_of (m ∷ ms) none =
      elim (is_of i m) as (λ t. is_of i m ≡ t → cond t (Some m) (find (is_of i) ms) ≡ None → NoneOf i (m ∷ ms)) [
        | true ↦ λ h q. cc
        | false ↦ λ h q. (h, nobody_of ms q)
      ] refl none

  noted_pairs : (ms : List Subscription) (m : Subscription) → InstallsRise ms → find (is_of i) ms ≡ Some m → set_value (is_at (nat_cmp i)) (map placed_of ms) (fired m) ≡ map placed_of (map changed ms)
  noted_pairs [] m rise found = cc
  noted_pairs (n ∷ ms) m rise found =
      (λ j. cond (number_at i n.install j) ((n.install, fired m) ∷ map placed_of ms) (placed_of n ∷ set_value (is_at (nat_cmp i)) (map placed_of ms) (fired m)))
      ∙ elim (is_of i n) as (λ t. is_of i n ≡ t → cond t (Some n) (find (is_of i) ms) ≡ Some m
      → cond t ((n.install, fired m) ∷ map placed_of ms) (placed_of n ∷ set_value (is_at (nat_cmp i)) (map placed_of ms) (fired m)) ≡ placed_of (cond t (fired n) n) ∷ map placed_of (map changed ms)) [
        | true ↦ λ h q.
            let same : n ≡ m = grind arith in
            λ j. (n.install, fired (sym same j)) ∷ map placed_of (sym (noted_none ms (none_above i n ms h rise.0)) j)
        | false ↦ λ h q. ap (λ r. placed_of n ∷ r) (noted_pairs ms m rise.1 q)
      ] refl found

  module _ (placed : List Placed) (finders : Finders) (kept : IsKept (subscriptions_in placed) placed finders) where
    module _ (after : List Placed) (m : Subscription) (found : lookup (is_at (nat_cmp i)) placed ≡ Some m) (written : after ≡ set_value (is_at (nat_cmp i)) placed (fired m)) where
      noted_numbered : after ≡ map placed_of (map changed (subscriptions_in placed))
      noted_numbered =
          written ∙ ap (λ es. set_value (is_at (nat_cmp i)) es (fired m)) kept.numbered
          ∙ noted_pairs (subscriptions_in placed) m kept.rise (sym (get_is placed (subscriptions_in placed) i kept.numbered) ∙ found)

      pub noted_shown : subscriptions_in after ≡ map changed (subscriptions_in placed)
      noted_shown = shown after (map changed (subscriptions_in placed)) noted_numbered

      pub noted_kept : IsKept (subscriptions_in after) after finders
      noted_kept =
          kept_at after finders (map changed (subscriptions_in placed))
          (kept_mapped changed (left (λ m. m.name) (λ m. refl)) (left (λ m. m.install) (λ m. refl)) (left (λ m. m.timing) (λ m. refl)) (left (λ m. m.file) (λ m. refl)) (left (λ m. m.bare) (λ m. refl))
          placed after (subscriptions_in placed) finders kept noted_numbered)

    pub noted_nobody : lookup (is_at (nat_cmp i)) placed ≡ None → subscriptions_in placed ≡ map changed (subscriptions_in placed)
    noted_nobody none = sym (noted_none (subscriptions_in placed) (nobody_of (subscriptions_in placed) (sym (get_is placed (subscriptions_in placed) i kept.numbered) ∙ none)))
