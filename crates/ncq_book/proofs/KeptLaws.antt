-- What a book keeps, with one subscription more, with one less, and with one changed.
use Rattle.std.proofs.Common.{◌≡◌, ℕ, ◌+◌, ◌<◌, ◌≤◌, ◌==◌, ◌&&◌, ◌||◌, not, Bool, false, List, [], ◌∷◌, ◌++◌, map, length, refl, sym, ◌∙◌, ap, arith, cond, subst}
use Rattle.std.specs.Prelude.{Some, None, nat_eq}
use Rattle.std.specs.List.{filter, find, list_any, AllByRecursion}
use Rattle.std.specs.List.Sorted.{IsStrictlySortedBy}
use Rattle.std.specs.Map.{lookup, remove_entry}
use Rattle.std.specs.BTreeMap.{is_at, insert_entry}
use Rattle.std.specs.Ordering.{nat_cmp}
use Rattle.std.specs.Str.{bytes_eq}
use Rattle.std.proofs.lemmas.Bool.{eqb-true}
use Rattle.ncq_plan.specs.declared.expr.Expr.{Expr}
use Rattle.ncq_strategy.specs.Numbers.{live_with}
use Rattle.ncq_book.specs.declared.finders.Finders.{Finders}
use Rattle.ncq_book.specs.declared.subscription.Subscription.{Subscription}
use Rattle.ncq_book.specs.declared.watchers.Watch.{Watch}
use Rattle.ncq_book.specs.Books.{alike, is_named, is_of, timing_of, timers_of, watchers_of}
use Rattle.ncq_book.specs.Watches.{is_watch, is_watched}
use Rattle.ncq_book.specs.Kept.{Placed, subscriptions_in, placed_of, has_bare, is_timer_at, is_watch_of, IsEnrolled, IsStruck, FindsAlike, IsKept}
use Rattle.ncq_book.proofs.AlikeLaws.{has_its_own, alike_more, alike_less, alike_few, alike_some}
use Rattle.ncq_book.proofs.Lists.{found_passes, same_rising, any_agree}
use Rattle.ncq_book.proofs.SubscriptionLaws.{subscriptions_back, pairs_pushed, remove_pair, insert_pair, get_is, others_pushed, found_pushed, rise_more, differ_more, named_more, noted_more, rise_less, differ_less, named_less, noted_less, nobody_found, keys_below, subscriptions_rise, noted_at, has_file, installs_of, install_at}

-- whether the subscription fires at changes, and whether at instants
abbrev pub at_changes : Subscription → Bool
at_changes m = m.timing.every == 0

abbrev pub at_instants : Subscription → Bool
at_instants m = not (m.timing.every == 0)

-- subscriptions that stand under their numbers are those of the list
pub shown : (placed : List Placed) (ms : List Subscription) → placed ≡ map placed_of ms → subscriptions_in placed ≡ ms
shown placed ms e = ap subscriptions_in e ∙ subscriptions_back ms

pub kept_at : (placed : List Placed) (finders : Finders) (ms : List Subscription) → IsKept ms placed finders → IsKept (subscriptions_in placed) placed finders
kept_at placed finders ms kept = subst (λ xs. IsKept xs placed finders) (sym (shown placed ms kept.numbered)) kept

pub kept_alike : (placed : List Placed) (ms : List Subscription) (old new : Finders) → IsKept ms placed old → FindsAlike old new → IsKept ms placed new
kept_alike placed ms old new kept same = record {
  numbered = kept.numbered;
  rise = kept.rise;
  differ = kept.differ;
  named = λ name. same.names name ∙ kept.named name;
  timed = (λ i. (same.calendar i).entries) ∙ kept.timed;
  watched = λ w. ap (list_any (is_watch w)) same.watchers ∙ kept.watched w;
  timers = λ w. ap (list_any (is_watch w)) same.timers ∙ kept.timers w;
  strategy = λ bare. same.strategy bare ∙ kept.strategy bare;
}

module _ (placed : List Placed) (ms : List Subscription) (old new : Finders) (kept : IsKept ms placed old) (m : Subscription) where
  -- what is left of a number without the subscription
  less_left : (bare : Expr) → live_with new.strategy bare + has_bare bare m ≡ live_with old.strategy bare → live_with old.strategy bare ≡ alike bare ms → {rest : ℕ} → rest + has_bare bare m ≡ alike bare ms
      → live_with new.strategy bare ≡ rest
  less_left bare less all rest = omega arith

  pub kept_more : (after : List Placed) → AllByRecursion (λ n. n.install < m.install) ms → list_any (is_named m.name) ms ≡ false → IsEnrolled m old new → after ≡ map placed_of (ms ++ m ∷ [])
      → IsKept (ms ++ m ∷ []) after new
  kept_more after above free more numbered = record {
    numbered = numbered;
    rise = rise_more ms m kept.rise above;
    differ = differ_more ms m kept.differ free;
    named = λ name. more.found.names name ∙ ap (cond (bytes_eq m.name name) (Some m.install)) (kept.named name) ∙ named_more ms m name free;
    timed = (λ i. (more.found.calendar i).entries) ∙ ap (λ es. es ++ timing_of m ∷ []) kept.timed ∙ sym (pairs_pushed (λ n. n.timing) ms m);
    watched = λ w. more.found.watchers w ∙ ap (λ b. b || is_watch_of w m) (kept.watched w) ∙ sym (noted_more at_changes ms m w);
    timers = λ w. more.found.timers w ∙ ap (λ b. b || is_timer_at w m) (kept.timers w) ∙ sym (noted_more at_instants ms m w);
    strategy = λ bare. more.strategy bare ∙ ap (λ n. n + has_bare bare m) (kept.strategy bare) ∙ sym (alike_more bare ms m);
  }

  pub kept_less : (i : ℕ) (after : List Placed) → find (is_of i) ms ≡ Some m → IsStruck m old new → after ≡ map placed_of (filter (λ n. not (is_of i n)) ms)
      → IsKept (filter (λ n. not (is_of i n)) ms) after new
  kept_less i after found less numbered =
      let same : m.install ≡ i = eqb-true m.install i (found_passes (is_of i) ms m found) in
      record {
        numbered = numbered;
        rise = rise_less (λ n. not (is_of i n)) ms kept.rise;
        differ = differ_less (λ n. not (is_of i n)) ms kept.differ;
        named = λ name. less.names name ∙ ap (cond (bytes_eq m.name name) None) (kept.named name) ∙ named_less i ms m name kept.rise kept.differ found;
        timed = (λ j. (less.calendar j).entries) ∙ (λ j. remove_entry (is_at (nat_cmp (same j))) (kept.timed j)) ∙ remove_pair (λ n. n.timing) i ms kept.rise;
        watched = λ w. less.watchers w ∙ ap (λ b. b && not (is_watch_of w m)) (kept.watched w) ∙ noted_less at_changes i ms m w kept.rise found;
        timers = λ w. less.timers w ∙ ap (λ b. b && not (is_timer_at w m)) (kept.timers w) ∙ noted_less at_instants i ms m w kept.rise found;
        strategy = λ bare. less_left bare (less.strategy bare) (kept.strategy bare) (alike_less bare i ms m kept.rise found);
      }

-- the subscription of a number is taken
module _ (placed after : List Placed) (old : Finders) (kept : IsKept (subscriptions_in placed) placed old) (i : ℕ) (less : after ≡ remove_entry (is_at (nat_cmp i)) placed) where
  abbrev rest : List Subscription
  rest = filter (λ n. not (is_of i n)) (subscriptions_in placed)

  taken_numbered : after ≡ map placed_of rest
  taken_numbered = less ∙ ap (remove_entry (is_at (nat_cmp i))) kept.numbered ∙ remove_pair (λ n. n) i (subscriptions_in placed) kept.rise

  pub taken_shown : subscriptions_in after ≡ filter (λ n. not (is_of i n)) (subscriptions_in placed)
  taken_shown = shown after rest taken_numbered

  pub taken_counted : (m : Subscription) → lookup (is_at (nat_cmp i)) placed ≡ Some m → 1 ≤ live_with old.strategy m.bare
  taken_counted m found = subst (λ n. 1 ≤ n) (sym (kept.strategy m.bare)) (alike_some i (subscriptions_in placed) m kept.rise (sym (get_is placed (subscriptions_in placed) i kept.numbered) ∙ found))

  pub taken : (new : Finders) (m : Subscription) → lookup (is_at (nat_cmp i)) placed ≡ Some m → IsStruck m old new → IsKept (subscriptions_in after) after new
  taken new m found struck =
      kept_at after new rest (kept_less placed (subscriptions_in placed) old new kept m i after (sym (get_is placed (subscriptions_in placed) i kept.numbered) ∙ found) struck taken_numbered)

-- one more is put in, and taken out again
module _ (placed : List Placed) (old mid : Finders) (kept : IsKept (subscriptions_in placed) placed old) (m : Subscription) (above : AllByRecursion (λ n. n.install < m.install) (subscriptions_in placed)) (free : list_any (is_named m.name) (subscriptions_in placed) ≡ false) (enrolled : IsEnrolled m old mid) where
  abbrev joined : List Subscription
  joined = subscriptions_in placed ++ m ∷ []

  module _ (after : List Placed) (more : after ≡ insert_entry nat_cmp placed m.install m) where
    put_numbered : after ≡ map placed_of joined
    put_numbered = more ∙ ap (λ es. insert_entry nat_cmp es m.install m) kept.numbered ∙ insert_pair (λ n. n) (subscriptions_in placed) m above

    pub put_shown : subscriptions_in after ≡ subscriptions_in placed ++ m ∷ []
    put_shown = shown after joined put_numbered

    pub put : IsKept (subscriptions_in after) after mid
    put = kept_at after mid joined (kept_more placed (subscriptions_in placed) old mid kept m after above free enrolled put_numbered)

  pub put_counted : 1 ≤ live_with mid.strategy m.bare
  put_counted = let more = enrolled.strategy m.bare in let one = has_its_own m in omega arith

  pub put_back : (after : List Placed) (new : Finders) → IsStruck m mid new → after ≡ placed → IsKept (subscriptions_in after) after new
  put_back after new struck same =
      let one = kept_more placed (subscriptions_in placed) old mid kept m (map placed_of joined) above free enrolled refl in
      let gone = others_pushed (subscriptions_in placed) m above in
      let here = same ∙ kept.numbered in
      kept_at after new (subscriptions_in placed)
      (subst (λ ms. IsKept ms after new) gone (kept_less (map placed_of joined) joined mid new one m m.install after (found_pushed (subscriptions_in placed) m above) struck (here ∙ ap (map placed_of) (sym gone))))

-- before one more is found: it is above all, and its name is free
module _ (placed : List Placed) (ms : List Subscription) (finders : Finders) (kept : IsKept ms placed finders) where
  pub above_all : (i : ℕ) → AllByRecursion (λ n. n.install < i) ms → AllByRecursion (λ e. e.0 < i) finders.calendar.entries
  above_all i above = subst (AllByRecursion (λ e. e.0 < i)) (sym kept.timed) (keys_below (λ n. n.timing) i ms above)

  pub free_name : (name : List ℕ) → list_any (is_named name) ms ≡ false → lookup (bytes_eq name) finders.names ≡ None
  free_name name free = kept.named name ∙ nobody_found name ms free

  pub few_have : (bare : Expr) (n : ℕ) → length ms < n → live_with finders.strategy bare < n
  few_have bare n few = let all = kept.strategy bare in let most = alike_few bare ms in omega arith

  -- those of a kind that have one of these files
  installs_are : (kind : Subscription → Bool) (noted : List Watch) → ((w : Watch) → list_any (is_watch w) noted ≡ list_any (noted_at kind w) ms)
      → (files installs : List ℕ) → IsStrictlySortedBy nat_cmp installs → ((n : ℕ) → list_any (nat_eq n) installs ≡ is_watched noted files n) → installs ≡ installs_of kind files ms
  installs_are kind noted are_noted files installs rising are =
      same_rising installs (installs_of kind files ms) rising (subscriptions_rise (has_file kind files) ms kept.rise)
      (λ n. are n
      ∙ any_agree (λ f. list_any (is_watch (record { file = f; install = n })) noted) (λ f. list_any (noted_at kind (record { file = f; install = n })) ms)
      (λ f. are_noted (record { file = f; install = n })) files
      ∙ sym (install_at kind files n ms))

  pub watchers_are : (files installs : List ℕ) → IsStrictlySortedBy nat_cmp installs → ((n : ℕ) → list_any (nat_eq n) installs ≡ is_watched finders.watchers files n) → installs ≡ watchers_of files ms
  watchers_are = installs_are at_changes finders.watchers kept.watched

  pub timers_are : (files installs : List ℕ) → IsStrictlySortedBy nat_cmp installs → ((n : ℕ) → list_any (nat_eq n) installs ≡ is_watched finders.timers files n) → installs ≡ timers_of files ms
  timers_are = installs_are at_instants finders.timers kept.timers
