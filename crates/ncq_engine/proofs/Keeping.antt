-- What is kept of a subscription stays its own behind a command, with what is written down of its firing.
use Rattle.std.proofs.Common.{◌≡◌, ℕ, ◌≤◌, max, Bool, true, false, ◌==◌, List, [], ◌∷◌, map, refl, sym, ◌∙◌, ap, arith, true≢false}
use Rattle.std.specs.Prelude.{Option, Some, None, is_some, if◌then◌else◌}
use Rattle.std.specs.Option.{option_map}
use Rattle.ncq_callback.specs.Labels.{Handed}
use Rattle.ncq_script.specs.declared.command.Command.{Command}
use Rattle.ncq_source.specs.StoreStates.{StoreState}
use Rattle.ncq_book.specs.declared.subscription.Subscription.{Subscription as Kept}
use Rattle.ncq_engine.specs.Engines.{Pairwise, fired_if, last_in, latest_in, mark_in}
use Rattle.ncq_engine.specs.Firing.{fires, mark, marked, sources_of}
use Rattle.ncq_engine.specs.History.{History, Subscription, changes, creates, last_change}
use Rattle.ncq_engine.specs.Marks.{IsRising, first_mark, first_marked, latest_change, noted}
use Rattle.ncq_engine.specs.Stands.{Keeps}
use Rattle.ncq_engine.proofs.HistoryLaws.{Installed}
use Rattle.ncq_engine.proofs.MarkLaws.{marks_follow}
use Rattle.ncq_engine.proofs.PlanningLaws.{alike_stays}
use Rattle.ncq_strategy.specs.Choices.{choice_of}

changes_grow : (command : Command) (before : History) → changes before ≤ changes (command ∷ before)
changes_grow command before = omega arith

-- no mark is above the number of changes
pub mark_few : (s : Subscription) (h : History) (number : ℕ) → mark s h ≡ Some number → number ≤ changes h
mark_few s [] number e = absurd cc
mark_few s (command ∷ before) number e = by_firing (λ n q. mark_few s before n q) (fires s before command) e
  where
    by_firing : ((n : ℕ) → mark s before ≡ Some n → n ≤ changes before) → (o : Option ℕ) → marked o (changes (command ∷ before)) (mark s before) ≡ Some number → number ≤ changes (command ∷ before)
    by_firing few_before None e = let few = few_before number e in let more = changes_grow command before in omega (arith, few, more)
    by_firing few_before (Some instant) e = let same : changes (command ∷ before) ≡ number = cc in omega (arith, same)

-- the greatest of the last changes
pub latest_is : (store : StoreState) (h : History) → ((name : List ℕ) → last_in store name ≡ last_change name h) → (names : List (List ℕ)) → latest_in store names ≡ latest_change names h
latest_is store h last [] = refl
latest_is store h last (name ∷ more) = λ i. max (last name i) (latest_is store h last more i)

-- the mark that follows from what is written down is the subscription's
pub mark_is : (handed : Handed) (h : History) (s : Subscription) (m : Kept) → Keeps handed h s m → IsRising h → (store : StoreState) → ((name : List ℕ) → last_in store name ≡ last_change name h) → mark_in store m ≡ mark s h
mark_is handed h s m k rising store last =
    (λ i. if (k.timing i).every == 0 then option_map (λ first. max first (latest_in store (k.sources i))) (k.marked i) else k.marked i)
    ∙ (λ i. if s.statement.every == 0 then option_map (λ first. max first (latest_is store h last (sources_of s.statement) i)) (noted s h) else noted s h)
    ∙ sym (marks_follow s h rising)

-- a subscription that was created up to the command, and whose mark is written down as it is behind it, is kept
pub keeps_as : (handed : Handed) (h : History) (command : Command) (s : Subscription) (m : Kept) → s.install ≤ creates (command ∷ h) → Keeps handed h s m → (written : Option ℕ) → written ≡ noted s (command ∷ h)
    → Keeps handed (command ∷ h) s (record m { noted = written })
keeps_as handed h command s m there k written e = record {
  name = k.name;
  sources = k.sources;
  whole = k.whole;
  bound = k.bound;
  query = k.query;
  bare = k.bare;
  choice = k.choice ∙ ap (choice_of m.query) (sym (alike_stays handed s command h there));
  distinct = k.distinct;
  timing = k.timing;
  kind = k.kind;
  action = k.action;
  argument = k.argument;
  install = k.install;
  marked = e;
}

-- a command that writes nothing down keeps it as it is
pub keeps_noted : (handed : Handed) (h : History) (command : Command) (s : Subscription) (m : Kept) → s.install ≤ creates (command ∷ h) → Keeps handed h s m → noted s (command ∷ h) ≡ noted s h → Keeps handed (command ∷ h) s m
keeps_noted handed h command s m there k e = keeps_as handed h command s m there k m.noted (k.marked ∙ sym e)

-- nothing is written down of what does not fire
pub quiet_note : (s : Subscription) (h : History) (command : Command) → fires s h command ≡ None → noted s (command ∷ h) ≡ noted s h
quiet_note s h command quiet =
    λ i. if s.statement.every == 0 then (first ∙ unmarked (first_mark s h)) i else marked (quiet i) (changes (command ∷ h)) (mark s h)
  where
    first : first_mark s (command ∷ h) ≡ first_marked None (changes (command ∷ h)) (first_mark s h)
    first = λ i. first_marked (quiet i) (changes (command ∷ h)) (first_mark s h)

    unmarked : (o : Option ℕ) → first_marked None (changes (command ∷ h)) o ≡ o
    unmarked None = refl
    unmarked (Some number) = refl

pub keeps_quiet : (handed : Handed) (h : History) (command : Command) (s : Subscription) (m : Kept) → s.install ≤ creates (command ∷ h) → Keeps handed h s m → fires s h command ≡ None → Keeps handed (command ∷ h) s m
keeps_quiet handed h command s m there k quiet = keeps_noted handed h command s m there k (quiet_note s h command quiet)

-- what is written down of what fires: of a timer the number of now, and of one that fires at changes that too where it is its first firing
pub fired_note : (s : Subscription) (h : History) (command : Command) (instant : ℕ) → fires s h command ≡ Some instant → (s.statement.every == 0 ≡ true → first_mark s h ≡ None) → Some (changes (command ∷ h)) ≡ noted s (command ∷ h)
fired_note s h command instant fired first = by_kind (s.statement.every == 0) refl
  where
    by_kind : (b : Bool) → s.statement.every == 0 ≡ b → Some (changes (command ∷ h)) ≡ noted s (command ∷ h)
    by_kind true based =
        (λ i. first_marked (sym fired i) (changes (command ∷ h)) (sym (first based) i))
        ∙ (λ i. if sym based i then first_mark s (command ∷ h) else mark s (command ∷ h))
    by_kind false timer =
        (λ i. marked (sym fired i) (changes (command ∷ h)) (mark s h))
        ∙ (λ i. if sym timer i then first_mark s (command ∷ h) else mark s (command ∷ h))

-- the test that the code makes agrees with the definition
abbrev pub Agrees : Bool → Option ℕ → Type 0
Agrees test fired = test ≡ is_some fired

-- a firing that is first where it fires at changes
abbrev pub IsFirst : Subscription → History → Command → Type 0
IsFirst s h command = (instant : ℕ) → fires s h command ≡ Some instant → s.statement.every == 0 ≡ true → first_mark s h ≡ None

module _ (handed : Handed) (h : History) (command : Command) (store : StoreState) (count : store.changes ≡ changes (command ∷ h)) where
  pub keeps_one : (s : Subscription) (m : Kept) (test : Bool) → s.install ≤ creates (command ∷ h) → Agrees test (fires s h command) → Keeps handed h s m → IsFirst s h command → Keeps handed (command ∷ h) s (fired_if test store m)
  keeps_one s m test there agrees k first = by_firing (fires s h command) refl test agrees
    where
      by_firing : (o : Option ℕ) → fires s h command ≡ o → (test : Bool) → Agrees test o → Keeps handed (command ∷ h) s (fired_if test store m)
      by_firing None e true a = absurd (true≢false a)
      by_firing None e false a = keeps_quiet handed h command s m there k e
      by_firing (Some instant) e true a = keeps_as handed h command s m there k (Some store.changes) (ap Some count ∙ fired_note s h command instant e (first instant e))
      by_firing (Some instant) e false a = absurd (true≢false (sym a))

  -- so it is of all that are live
  pub keep_all : (test : Kept → Bool) (subs : List Subscription) (ms : List Kept) → Installed (command ∷ h) subs
      → Pairwise (λ s m. Keeps handed h s m × (Agrees (test m) (fires s h command) × IsFirst s h command)) subs ms
      → Pairwise (Keeps handed (command ∷ h)) subs (map (λ m. fired_if (test m) store m) ms)
  keep_all test [] [] i p = tt
  keep_all test [] (m ∷ ms) i p = absurd p
  keep_all test (s ∷ subs) [] i p = absurd p
  keep_all test (s ∷ subs) (m ∷ ms) i p = (keeps_one s m (test m) i.0 p.0.1.0 p.0.0 p.0.1.1, keep_all test subs ms i.1 p.1)
