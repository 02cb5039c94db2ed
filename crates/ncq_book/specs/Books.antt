-- A book of live subscriptions, as callers see it.
use Rattle.std.specs.Prelude.{ℕ, ◌<◌, ◌==◌, ◌&&◌, Bool, false, not, nat_eq, List, [], ◌∷◌, map, filter}
use Rattle.std.specs.Prelude.{refl}
use Rattle.std.specs.Prelude.{◌≡◌}
use Rattle.std.specs.Prelude.{Option, Some, if◌then◌else◌}
use Rattle.std.specs.List.{filter_map, find, list_any, AllByRecursion}
use Rattle.std.specs.Str.{bytes_eq}
use Rattle.std.specs.Coded.{Coded, code_by, coded×, coded_ℕ, coded_list}
use Rattle.ncq_base.specs.Keys.{times}
use Rattle.ncq_event.specs.Calendars.{Entry}
use Rattle.ncq_plan.specs.declared.expr.Expr.{Expr}
use Rattle.ncq_plan.specs.ExprLists.{is_expr}
use Rattle.ncq_book.specs.declared.listed.Listed.{Listed}
use Rattle.ncq_book.specs.declared.subscription.Subscription.{Subscription}
use Rattle.ncq_book.specs.contracts.subscription.Subscription.{the_row as subscription_row}

-- the subscriptions in the order of their creates, and the instant of the clock
pub record BookState : Type 0 where
  pub subscriptions : List Subscription
  pub instant : ℕ

-- how a book is written as a value
abbrev pub book_code : Coded BookState
book_code = code_by (List Subscription × ℕ) (coded× (coded_list subscription_row.coded) coded_ℕ)
    (λ b. (b.subscriptions, b.instant)) (λ p. record { subscriptions = p.0; instant = p.1 }) (λ _.
    refl)

-- whether the subscription has this name
abbrev pub is_named : List ℕ → Subscription → Bool
is_named name m = bytes_eq name m.name

-- whether the subscription has this install number
abbrev pub is_of : ℕ → Subscription → Bool
is_of install m = m.install == install

-- the subscription of this install number, where there is one
abbrev pub subscription_of : ℕ → List Subscription → Option Subscription
subscription_of install subscriptions = find (is_of install) subscriptions

-- the subscriptions of these install numbers, in that order; none of a number that nobody has
abbrev pub subscriptions_of : List ℕ → List Subscription → List Subscription
subscriptions_of installs subscriptions =
    filter_map (λ install. subscription_of install subscriptions) installs

-- one file, the same checks of its rows and the same template
pub record AskAlike (a b : Subscription) : Type 0 where
  pub file : a.file.0 ≡ b.file.0
  pub template : a.query.template ≡ b.query.template
  pub residual : a.query.residual ≡ b.query.residual

-- each of the list with this question asks like the subscription
abbrev pub AskLike : List Listed → ℕ → Subscription → Type 0
AskLike list question m =
    AllByRecursion (λ l. l.question ≡ question → AskAlike l.subscription.now m) list

-- those of the list with one question ask alike
abbrev pub AskByQuestion : List Listed → Type 0
AskByQuestion list = AllByRecursion (λ l. AskLike list l.question l.subscription.now) list

-- the timing of a subscription, with its install number
abbrev pub timing_of : Subscription → Entry
timing_of m = (m.install, m.timing)

-- whether the subscription fires at changes, and the file of its plan is one of these
abbrev pub watches : List ℕ → Subscription → Bool
watches files m = m.timing.every == 0 && list_any (nat_eq m.file.0) files

-- the install numbers of those that fire at changes and have one of these files
abbrev pub watchers_of : List ℕ → List Subscription → List ℕ
watchers_of files subscriptions = map (λ m. m.install) (filter (watches files) subscriptions)

-- whether the subscription fires at instants, and the file of its plan is one of these
abbrev pub is_timer_of : List ℕ → Subscription → Bool
is_timer_of files m = not (m.timing.every == 0) && list_any (nat_eq m.file.0) files

-- the install numbers of those that fire at instants and have one of these files
abbrev pub timers_of : List ℕ → List Subscription → List ℕ
timers_of files subscriptions = map (λ m. m.install) (filter (is_timer_of files) subscriptions)

-- the subscription with this number noted, if it is that of the install number
abbrev pub with_note : ℕ → ℕ → Subscription → Subscription
with_note install number m = if is_of install m then record m { noted = Some number } else m

-- how many of the subscriptions have this bare plan
abbrev pub alike : Expr → List Subscription → ℕ
alike bare subscriptions = times (λ m. is_expr bare m.bare) subscriptions

-- no two have one name
abbrev pub NamesDiffer : List Subscription → Type 0
NamesDiffer [] = Unit {0}
NamesDiffer (m ∷ more) =
    AllByRecursion (λ n. is_named m.name n ≡ false) more × NamesDiffer more

-- each has a greater install number than those before it
abbrev pub InstallsRise : List Subscription → Type 0
InstallsRise [] = Unit {0}
InstallsRise (m ∷ more) = AllByRecursion (λ n. m.install < n.install) more × InstallsRise more
