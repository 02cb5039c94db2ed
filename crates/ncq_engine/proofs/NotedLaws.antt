-- Subscriptions behind firings that are written down by their install numbers.
use Rattle.std.proofs.Common.{◌≡◌, ℕ, Bool, true, false, ◌||◌, ◌==◌, List, [], ◌∷◌, map, refl, ◌∙◌, ap, arith}
use Rattle.std.specs.Prelude.{if◌then◌else◌}
use Rattle.std.proofs.lemmas.Bool.Decides.{nat_tests}
use Rattle.std.specs.List.{list_any, AllByRecursion}
use Rattle.ncq_book.specs.declared.subscription.Subscription.{Subscription as Kept}
use Rattle.ncq_book.specs.Books.{is_of}
use Rattle.ncq_event.specs.declared.firing.Firing.{Firing}
use Rattle.ncq_source.specs.StoreStates.{StoreState}
use Rattle.ncq_engine.specs.Engines.{fired_if, noted_at}
use Rattle.ncq_engine.specs.Tellings.{is_fired, noted_by}

flip : (a b : ℕ) → (a == b) ≡ (b == a)
flip a b = grind (arith, nat_tests)

pub any_flip : (m : Kept) (firings : List Firing) → is_fired firings m ≡ list_any (λ f. f.install == m.install) firings
any_flip m [] = refl
any_flip m (f ∷ more) = λ i. flip m.install f.install i || any_flip m more i

-- where the firings are those of the subscriptions that pass a test, these are noted
pub fired_subscriptions : (store : StoreState) (test : Kept → Bool) (firings : List Firing) (ms : List Kept) → AllByRecursion (λ m. list_any (λ f. f.install == m.install) firings ≡ test m) ms
    → noted_by store.changes firings ms ≡ map (λ m. fired_if (test m) store m) ms
fired_subscriptions store test firings [] h = refl
fired_subscriptions store test firings (m ∷ ms) h =
    λ i. (if (any_flip m firings ∙ h.0) i then noted_at store.changes m else m) ∷ fired_subscriptions store test firings ms h.1 i

-- noting one firing, and then others
pub noted_twice : (number : ℕ) (firing : Firing) (more : List Firing) (ms : List Kept) → noted_by number more (map (λ m. if is_of firing.install m then noted_at number m else m) ms) ≡ noted_by number (firing ∷ more) ms
noted_twice number firing more [] = refl
noted_twice number firing more (m ∷ ms) = λ i. by (is_of firing.install m) (is_fired more m) refl i ∷ noted_twice number firing more ms i
  where
    by : (first : Bool) (rest : Bool) → is_fired more m ≡ rest
        → (if is_fired more (if first then noted_at number m else m) then noted_at number (if first then noted_at number m else m) else (if first then noted_at number m else m))
        ≡ (if first || rest then noted_at number m else m)
    by true true e = λ i. if e i then noted_at number m else noted_at number m
    by true false e = λ i. if e i then noted_at number m else noted_at number m
    by false true e = λ i. if e i then noted_at number m else m
    by false false e = λ i. if e i then noted_at number m else m

pub noted_none : (number : ℕ) (ms : List Kept) → noted_by number [] ms ≡ ms
noted_none number [] = refl
noted_none number (m ∷ ms) = ap (λ more. m ∷ more) (noted_none number ms)
