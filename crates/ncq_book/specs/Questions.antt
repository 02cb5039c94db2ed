-- What a book knows of those that ask alike. Only the crate's private clauses cite it.
use Rattle.std.specs.Prelude.{◌≡◌, ◌≤◌, ℕ, List, map, refl, Some}
use Rattle.std.specs.List.{filter_map, AllByRecursion}
use Rattle.std.specs.Map.{lookup}
use Rattle.std.specs.BTreeMap.{is_at}
use Rattle.std.specs.Ordering.{nat_cmp}
use Rattle.std.specs.Coded.{Coded, code_by, coded×, coded_ℕ}
use Rattle.ncq_book.specs.declared.finders.Finders.{Finders}
use Rattle.ncq_book.specs.declared.listed.Listed.{Listed}
use Rattle.ncq_book.specs.declared.subscription.Subscription.{Subscription}
use Rattle.ncq_book.specs.contracts.subscription.Subscription.{the_row as subscription_row}
use Rattle.ncq_book.specs.Books.{AskAlike}
use Rattle.ncq_book.specs.Kept.{Placed, subscriptions_in, IsKept}

-- a subscription with the number of its question
pub record Asked : Type 0 where
  pub subscription : Subscription
  pub question : ℕ

-- how it is written as a value
abbrev pub asked_code : Coded Asked
asked_code = code_by (Subscription × ℕ) (coded× subscription_row.coded coded_ℕ)
    (λ a. (a.subscription, a.question)) (λ p. record { subscription = p.0; question = p.1 }) (λ _.
    refl)

-- subscriptions with their questions, each under the number that it stands under
abbrev pub Questions : Type 0
Questions = List (ℕ × Asked)

-- without the questions
abbrev pub placed_in : Questions → List Placed
placed_in asked = map (λ e. (e.0, e.1.subscription)) asked

-- under this number stands this
abbrev pub Stands : Questions → ℕ → Asked → Type 0
Stands asked install a = lookup (is_at (nat_cmp install)) asked ≡ Some a

-- what stands under these numbers, in that order
abbrev pub standing_at : Questions → List ℕ → List Asked
standing_at asked installs = filter_map (λ install. lookup (is_at (nat_cmp install)) asked) installs

-- what a list gives, as it stands there
abbrev pub asked_by : Listed → Asked
asked_by l = record { subscription = l.subscription.now; question = l.question }

-- each of the entries stands there
abbrev pub StandEach : Questions → Questions → Type 0
StandEach asked entries = AllByRecursion (λ e. Stands asked e.0 e.1) entries

-- who has this question asks like the subscription
abbrev pub AsksLike : Questions → ℕ → Subscription → Type 0
AsksLike asked question m = (install : ℕ) (a : Asked) → Stands asked install a
    → a.question ≡ question → AskAlike a.subscription m

-- those with one question ask alike, and nobody's question is above the own number
pub record AreQuestions (asked : Questions) : Type 0 where
  pub alike : (install : ℕ) (a : Asked) → Stands asked install a
      → AsksLike asked a.question a.subscription
  pub up_to : (install : ℕ) (a : Asked) → Stands asked install a → a.question ≤ install

-- what a book keeps of its subscriptions, and of their questions
pub record IsBook (asked : Questions) (finders : Finders) : Type 0 where
  pub kept : IsKept (subscriptions_in (placed_in asked)) (placed_in asked) finders
  pub questions : AreQuestions asked
