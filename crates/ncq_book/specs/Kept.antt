-- What a book keeps beside its subscriptions. Only the crate's private clauses cite it.
use Rattle.std.specs.Prelude.{◌≡◌, ◌==◌, ◌+◌, ◌&&◌, ◌||◌, ◌++◌, ℕ, Bool, not, cond, List}
use Rattle.std.specs.Prelude.{[], ◌∷◌, map, Option, Some, None}
use Rattle.std.specs.Option.{option_map}
use Rattle.std.specs.List.{find, list_any}
use Rattle.std.specs.Map.{lookup, remove_entry}
use Rattle.std.specs.BTreeMap.{is_at}
use Rattle.std.specs.Ordering.{nat_cmp}
use Rattle.std.specs.Str.{bytes_eq}
use Rattle.ncq_plan.specs.declared.expr.Expr.{Expr}
use Rattle.ncq_plan.specs.ExprLists.{is_expr}
use Rattle.ncq_strategy.specs.Numbers.{live_with}
use Rattle.ncq_book.specs.declared.finders.Finders.{Finders}
use Rattle.ncq_book.specs.declared.subscription.Subscription.{Subscription}
use Rattle.ncq_book.specs.declared.watchers.Watch.{Watch}
use Rattle.ncq_book.specs.Books.{alike, is_named, timing_of, InstallsRise, NamesDiffer}
use Rattle.ncq_book.specs.Watches.{is_watch}

-- a subscription with the number that it stands under
abbrev pub Placed : Type 0
Placed = ℕ × Subscription

-- the subscriptions
abbrev pub subscriptions_in : List Placed → List Subscription
subscriptions_in placed = map (λ p. p.1) placed

-- a subscription under its install number
abbrev pub placed_of : Subscription → Placed
placed_of m = (m.install, m)

-- the install number of the subscription of this name, where there is one
abbrev pub install_of : List ℕ → List Subscription → Option ℕ
install_of name subscriptions = option_map (λ m. m.install) (find (is_named name) subscriptions)

-- that the subscription has its file
abbrev pub watch_of : Subscription → Watch
watch_of m = record { file = m.file.0; install = m.install }

-- whether the subscription fires at changes, and this is its watch
abbrev pub is_watch_of : Watch → Subscription → Bool
is_watch_of w m = m.timing.every == 0 && is_watch w (watch_of m)

-- whether the subscription fires at instants, and this is its watch
abbrev pub is_timer_at : Watch → Subscription → Bool
is_timer_at w m = not (m.timing.every == 0) && is_watch w (watch_of m)

-- those that fire at changes are found by their files as before, and the subscription if it does
abbrev pub AreWatchedBy : Subscription → Finders → Finders → Type 0
AreWatchedBy m old new = (w : Watch)
    → list_any (is_watch w) new.watchers ≡ (list_any (is_watch w) old.watchers || is_watch_of w m)

-- those that fire at instants are found by their files as before, and the subscription if it does
abbrev pub AreTimedBy : Subscription → Finders → Finders → Type 0
AreTimedBy m old new = (w : Watch)
    → list_any (is_watch w) new.timers ≡ (list_any (is_watch w) old.timers || is_timer_at w m)

-- 1 where the subscription has this bare plan, and else 0
abbrev pub has_bare : Expr → Subscription → ℕ
has_bare bare m = cond (is_expr bare m.bare) 1 0

-- the subscription is found, and all others as before
pub record IsFound (m : Subscription) (old new : Finders) : Type 0 where
  pub names : (name : List ℕ) → lookup (bytes_eq name) new.names
      ≡ cond (bytes_eq m.name name) (Some m.install) (lookup (bytes_eq name) old.names)
  pub calendar : new.calendar
      ≡ record old.calendar { entries = old.calendar.entries ++ timing_of m ∷ [] }
  pub watchers : AreWatchedBy m old new
  pub timers : AreTimedBy m old new

-- the subscription is found and its bare plan counted, and all others as before
pub record IsEnrolled (m : Subscription) (old new : Finders) : Type 0 where
  pub found : IsFound m old new
  pub strategy : (bare : Expr)
      → live_with new.strategy bare ≡ live_with old.strategy bare + has_bare bare m

-- the subscription is not found and not counted, and all others as before
pub record IsStruck (m : Subscription) (old new : Finders) : Type 0 where
  pub names : (name : List ℕ) → lookup (bytes_eq name) new.names
      ≡ cond (bytes_eq m.name name) None (lookup (bytes_eq name) old.names)
  pub calendar : new.calendar ≡ record old.calendar {
    entries = remove_entry (is_at (nat_cmp m.install)) old.calendar.entries;
  }
  pub watchers : (w : Watch) → list_any (is_watch w) new.watchers
      ≡ (list_any (is_watch w) old.watchers && not (is_watch_of w m))
  pub timers : (w : Watch) → list_any (is_watch w) new.timers
      ≡ (list_any (is_watch w) old.timers && not (is_timer_at w m))
  pub strategy : (bare : Expr)
      → live_with new.strategy bare + has_bare bare m ≡ live_with old.strategy bare

-- both find the same
pub record FindsAlike (old new : Finders) : Type 0 where
  pub names : (name : List ℕ)
      → lookup (bytes_eq name) new.names ≡ lookup (bytes_eq name) old.names
  pub calendar : new.calendar ≡ old.calendar
  pub watchers : new.watchers ≡ old.watchers
  pub timers : new.timers ≡ old.timers
  pub strategy : (bare : Expr) → live_with new.strategy bare ≡ live_with old.strategy bare

-- subscriptions stand under their install numbers, which rise; names differ, and each leads to its
-- subscription; the calendar has the timing of each, the files are noted of each, and of each bare
-- plan how many have it
pub record IsKept (subscriptions : List Subscription) (placed : List Placed) (finders : Finders) :
    Type 0 where
  pub numbered : placed ≡ map placed_of subscriptions
  pub rise : InstallsRise subscriptions
  pub differ : NamesDiffer subscriptions
  pub named : (name : List ℕ) → lookup (bytes_eq name) finders.names ≡ install_of name subscriptions
  pub timed : finders.calendar.entries ≡ map timing_of subscriptions
  pub watched : (w : Watch)
      → list_any (is_watch w) finders.watchers ≡ list_any (is_watch_of w) subscriptions
  pub timers : (w : Watch)
      → list_any (is_watch w) finders.timers ≡ list_any (is_timer_at w) subscriptions
  pub strategy : (bare : Expr) → live_with finders.strategy bare ≡ alike bare subscriptions
