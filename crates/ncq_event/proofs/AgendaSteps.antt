-- Firings that are put into an agenda and taken out of it.
use Rattle.std.proofs.Common.{◌≡◌, ℕ, zero, suc, ◌+◌, ◌<◌, ◌≤◌, Bool, true, false, List, [], ◌∷◌, refl, ap, arith, cond, take}
use Rattle.std.specs.Prelude.{if◌then◌else◌}
use Rattle.ncq_base.specs.Keys.{times}
use Rattle.ncq_event.specs.declared.firing.Firing.{Firing}
use Rattle.ncq_event.specs.Orders.{is_before, is_firing, AreRising}
use Rattle.ncq_event.specs.Agendas.{with_firing, without_firing, with_firings, without_firings, StandOnce}
use Rattle.ncq_event.proofs.OrderLaws.{IsBelow, heads, tails, rising_cons, firing_is, before_total, firing_self, one_rising}

count_self : (f : Firing) → cond {A = ℕ} (is_firing f f) 1 0 ≡ 1
count_self f = ap (λ (t : Bool). cond {A = ℕ} t 1 0) (firing_self f)

-- with a firing that is not there
with_times : (f g : Firing) (xs : List Firing) → times (is_firing f) xs ≡ 0 → times (is_firing g) (with_firing xs f) ≡ times (is_firing g) xs + cond (is_firing g f) 1 0
with_times f g [] h = omega arith
with_times f g (x ∷ xs) h =
    elim (is_firing f x) as (λ t. cond {A = ℕ} t 1 0 + times (is_firing f) xs ≡ 0 → times (is_firing g) (if t then x ∷ xs else (if is_before f x then f ∷ x ∷ xs else x ∷ with_firing xs f)) ≡ times (is_firing g) (x ∷ xs) + cond (is_firing g f) 1 0) [
      | true ↦ λ e. absurd (omega (arith, e))
      | false ↦ λ e.
          let rest = with_times f g xs (omega (arith, e)) in
          elim (is_before f x) as (λ t. times (is_firing g) (if t then f ∷ x ∷ xs else x ∷ with_firing xs f) ≡ times (is_firing g) (x ∷ xs) + cond (is_firing g f) 1 0) [
            | true ↦ omega arith
            | false ↦ omega arith
          ]
    ] h

with_below : (f b : Firing) (xs : List Firing) → is_before b f ≡ true → IsBelow b xs → IsBelow b (with_firing xs f)
with_below f b [] h k = (h, tt)
with_below f b (x ∷ xs) h k =
    elim (is_firing f x) as (λ t. IsBelow b (if t then x ∷ xs else (if is_before f x then f ∷ x ∷ xs else x ∷ with_firing xs f))) [
      | true ↦ k
      | false ↦ elim (is_before f x) as (λ t. IsBelow b (if t then f ∷ x ∷ xs else x ∷ with_firing xs f)) [ true ↦ (h, k) | false ↦ (k.0, with_below f b xs h k.1) ]
    ]

with_rising : (f : Firing) (xs : List Firing) → AreRising xs → AreRising (with_firing xs f)
with_rising f [] h = tt
with_rising f (x ∷ xs) h =
    elim (is_firing f x) as (λ t. AreRising (if t then x ∷ xs else (if is_before f x then f ∷ x ∷ xs else x ∷ with_firing xs f))) [
      | true ↦ h
      | false ↦ elim (is_before f x) as (λ t. is_before f x ≡ t → AreRising (if t then f ∷ x ∷ xs else x ∷ with_firing xs f)) [
        | true ↦ λ e. (e, h)
        | false ↦ λ e. rising_cons x (with_firing xs f) (with_below f x xs (before_total f x e) (heads x xs h)) (with_rising f xs (tails x xs h))
      ] refl
    ]

-- without a firing that is there
without_times : (f g : Firing) (xs : List Firing) → 0 < times (is_firing f) xs → times (is_firing g) (without_firing xs f) + cond (is_firing g f) 1 0 ≡ times (is_firing g) xs
without_times f g [] h = absurd (omega arith)
without_times f g (x ∷ xs) h =
    elim (is_firing f x) as (λ t. is_firing f x ≡ t → 0 < cond {A = ℕ} t 1 0 + times (is_firing f) xs → times (is_firing g) (if t then xs else x ∷ without_firing xs f) + cond (is_firing g f) 1 0 ≡ times (is_firing g) (x ∷ xs)) [
      | true ↦ λ p e.
          let same : cond {A = ℕ} (is_firing g f) 1 0 ≡ cond {A = ℕ} (is_firing g x) 1 0 = ap (λ (y : Firing). cond {A = ℕ} (is_firing g y) 1 0) (firing_is f x p) in
          omega arith
      | false ↦ λ p e. let rest = without_times f g xs (omega (arith, e)) in omega arith
    ] refl h

without_below : (f b : Firing) (xs : List Firing) → IsBelow b xs → IsBelow b (without_firing xs f)
without_below f b [] h = tt
without_below f b (x ∷ xs) h = elim (is_firing f x) as (λ t. IsBelow b (if t then xs else x ∷ without_firing xs f)) [ true ↦ h.1 | false ↦ (h.0, without_below f b xs h.1) ]

without_rising : (f : Firing) (xs : List Firing) → AreRising xs → AreRising (without_firing xs f)
without_rising f [] h = tt
without_rising f (x ∷ xs) h =
    elim (is_firing f x) as (λ t. AreRising (if t then xs else x ∷ without_firing xs f)) [
      | true ↦ tails x xs h
      | false ↦ rising_cons x (without_firing xs f) (without_below f x xs (heads x xs h)) (without_rising f xs (tails x xs h))
    ]

-- with firings, each of which stands once at most
pub with_all_rising : (fs xs : List Firing) → AreRising xs → AreRising (with_firings xs fs)
with_all_rising [] xs h = h
with_all_rising (f ∷ fs) xs h = with_all_rising fs (with_firing xs f) (with_rising f xs h)

pub with_all_times : (g : Firing) (fs xs : List Firing) → StandOnce xs fs → times (is_firing g) (with_firings xs fs) ≡ times (is_firing g) xs + times (is_firing g) fs
with_all_times g [] xs h = omega arith
with_all_times g (f ∷ fs) xs h =
    let one = count_self f in
    let none : times (is_firing f) xs ≡ 0 = let a = h f in omega arith in
    let first = with_times f g xs none in
    let rest = with_all_times g fs (with_firing xs f) (λ q. let a = with_times f q xs none in let b = h q in omega arith) in
    omega arith

-- without firings, each of which stands there as often
pub without_all_rising : (fs xs : List Firing) → AreRising xs → AreRising (without_firings xs fs)
without_all_rising [] xs h = h
without_all_rising (f ∷ fs) xs h = without_all_rising fs (without_firing xs f) (without_rising f xs h)

pub without_all_times : (g : Firing) (fs xs : List Firing) → ((q : Firing) → times (is_firing q) fs ≤ times (is_firing q) xs) → times (is_firing g) (without_firings xs fs) + times (is_firing g) fs ≡ times (is_firing g) xs
without_all_times g [] xs h = omega arith
without_all_times g (f ∷ fs) xs h =
    let one = count_self f in
    let some : 0 < times (is_firing f) xs = let a = h f in omega arith in
    let first = without_times f g xs some in
    let rest = without_all_times g fs (without_firing xs f) (λ q. let a = without_times f q xs some in let b = h q in omega arith) in
    omega arith

-- firings that are put in and taken out again
pub undone : (xs fs : List Firing) → AreRising xs → StandOnce xs fs → without_firings (with_firings xs fs) fs ≡ xs
undone xs fs up once =
    one_rising (without_firings (with_firings xs fs) fs) xs (without_all_rising fs (with_firings xs fs) (with_all_rising fs xs up)) up (λ g.
    let a = with_all_times g fs xs once in
    let b = without_all_times g fs (with_firings xs fs) (λ q. let c = with_all_times q fs xs once in omega arith) in
    omega arith)

-- the same of the first of them alone
times_front : (g : Firing) (n : ℕ) (fs : List Firing) → times (is_firing g) (take n fs) ≤ times (is_firing g) fs
times_front g zero fs = omega arith
times_front g (suc n) [] = omega arith
times_front g (suc n) (f ∷ fs) = let rest = times_front g n fs in omega arith

pub undone_front : (n : ℕ) (xs fs : List Firing) → AreRising xs → StandOnce xs fs → without_firings (with_firings xs (take n fs)) (take n fs) ≡ xs
undone_front n xs fs up once = undone xs (take n fs) up (λ g. let a = times_front g n fs in let b = once g in omega arith)
