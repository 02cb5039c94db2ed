-- How many subscriptions have a bare plan: with one more, with one less, and with one changed.
use Rattle.std.proofs.Common.{◌≡◌, ℕ, ◌+◌, ◌-◌, ◌≤◌, ◌==◌, Bool, true, false, not, cond, List, [], ◌∷◌, ◌++◌, map, length, refl, sym, ◌∙◌, ap, arith, subst}
use Rattle.std.specs.Prelude.{Option, Some, None}
use Rattle.std.specs.List.{filter, find}
use Rattle.std.specs.Map.{lookup}
use Rattle.std.specs.Option.{unwrap_or}
use Rattle.std.proofs.lemmas.Bool.{eqb-true}
use Rattle.ncq_base.specs.Exact.{exact_equiv, exact_is, exact_itself}
use Rattle.ncq_plan.specs.contracts.expr.Expr.{the_row as expr_row}
use Rattle.ncq_plan.specs.declared.expr.Expr.{Expr}
use Rattle.ncq_plan.specs.ExprLists.{is_expr}
use Rattle.ncq_strategy.specs.Numbers.{Numbers, HasNow, kept, live_with}
use Rattle.ncq_book.specs.declared.subscription.Subscription.{Subscription}
use Rattle.ncq_book.specs.Books.{alike, is_of, InstallsRise}
use Rattle.ncq_book.specs.Kept.{has_bare}
use Rattle.ncq_book.proofs.SubscriptionLaws.{none_above, others_all}

-- the subscription has its own bare plan
pub has_its_own : (m : Subscription) → has_bare m.bare m ≡ 1
has_its_own m = λ i. cond (exact_itself expr_row.coded m.bare i) 1 0

-- whether two bare plans are one, asked the other way round
turned : (m : Subscription) (other : Expr) (b : Bool) → is_expr m.bare other ≡ b → has_bare other m ≡ cond b 1 0
turned m other b h = λ i. cond (((exact_equiv expr_row.coded).symm other m.bare ∙ h) i) 1 0

-- what a strategy knows once a bare plan has another number
module _ (old new : Numbers) where
  kept_is : (n : ℕ) → unwrap_or (kept n) 0 ≡ n
  kept_is n = elim (n == 0) as (λ t. (n == 0) ≡ t → unwrap_or (cond t None (Some n)) 0 ≡ n) [ true ↦ λ h. sym (eqb-true n 0 h) | false ↦ λ h. refl ] refl

  number_now : (bare : Expr) (n : ℕ) → HasNow old bare n new → (other : Expr) → live_with new other ≡ cond (is_expr bare other) n (live_with old other)
  number_now bare n now other =
      ap (λ (o : Option ℕ). unwrap_or o 0) (now other)
      ∙ elim (is_expr bare other) as (λ t. unwrap_or (cond t (kept n) (lookup (is_expr other) old)) 0 ≡ cond t n (live_with old other)) [ true ↦ kept_is n | false ↦ refl ]

  module _ (m : Subscription) (other : Expr) where
    -- one number is found at one bare plan
    found_alike : is_expr m.bare other ≡ true → live_with old m.bare ≡ live_with old other
    found_alike h = ap (live_with old) (exact_is expr_row.coded m.bare other h)

    pub counted_more : HasNow old m.bare (live_with old m.bare + 1) new → live_with new other ≡ live_with old other + has_bare other m
    counted_more now =
        elim (is_expr m.bare other) as (λ t. is_expr m.bare other ≡ t → live_with new other ≡ cond t (live_with old m.bare + 1) (live_with old other) → live_with new other ≡ live_with old other + has_bare other m) [
          | true ↦ λ h is. let same = found_alike h in let one = turned m other true h in omega arith
          | false ↦ λ h is. let none = turned m other false h in omega arith
        ] refl (number_now m.bare (live_with old m.bare + 1) now other)

    pub counted_less : 1 ≤ live_with old m.bare → HasNow old m.bare (live_with old m.bare - 1) new → live_with new other + has_bare other m ≡ live_with old other
    counted_less some now =
        elim (is_expr m.bare other) as (λ t. is_expr m.bare other ≡ t → live_with new other ≡ cond t (live_with old m.bare - 1) (live_with old other) → live_with new other + has_bare other m ≡ live_with old other) [
          | true ↦ λ h is. let same = found_alike h in let one = turned m other true h in omega arith
          | false ↦ λ h is. let none = turned m other false h in omega arith
        ] refl (number_now m.bare (live_with old m.bare - 1) now other)

-- a subscription's bare plan was counted
module _ (old noted : Numbers) (m : Subscription) (shared : Expr) (is : shared ≡ m.bare) (now : HasNow old shared (live_with old shared + 1) noted) where
  pub noted_more : (other : Expr) → live_with noted other ≡ live_with old other + has_bare other m
  noted_more other = counted_more old noted m other (subst (λ e. HasNow old e (live_with old e + 1) noted) is now)

  module _ (left : Numbers) (same : left ≡ noted) where
    pub noted_some : 1 ≤ live_with left m.bare
    noted_some = let more = ap (λ (n : Numbers). live_with n m.bare) same ∙ noted_more m.bare in let one = has_its_own m in omega arith

    -- and is not any more
    pub noted_back : (after : Numbers) → HasNow left m.bare (live_with left m.bare - 1) after → (other : Expr) → live_with after other ≡ live_with old other
    noted_back after less other =
        let gone = counted_less left after m other noted_some less in
        let more = ap (λ (n : Numbers). live_with n other) same ∙ noted_more other in
        omega arith

module _ (bare : Expr) where
  -- one more
  pub alike_more : (ms : List Subscription) (m : Subscription) → alike bare (ms ++ m ∷ []) ≡ alike bare ms + has_bare bare m
  alike_more [] m = omega arith
  alike_more (n ∷ ms) m = let rest = alike_more ms m in omega arith

  -- one less
  pub alike_less : (i : ℕ) (ms : List Subscription) (m : Subscription) → InstallsRise ms → find (is_of i) ms ≡ Some m → alike bare (filter (λ n. not (is_of i n)) ms) + has_bare bare m ≡ alike bare ms
  alike_less i [] m rise found = cc
  alike_less i (n ∷ ms) m rise found =
      let rest : List Subscription = filter (λ k. not (is_of i k)) ms in
      elim (is_of i n) as (λ t. is_of i n ≡ t → cond t (Some n) (find (is_of i) ms) ≡ Some m → alike bare (cond (not t) (n ∷ rest) rest) + has_bare bare m ≡ alike bare (n ∷ ms)) [
        | true ↦ λ h q.
            let is : n ≡ m = grind arith in
            let all : alike bare rest ≡ alike bare ms = ap (alike bare) (others_all i ms (none_above i n ms h rise.0)) in
            let one : has_bare bare n ≡ has_bare bare m = ap (has_bare bare) is in
            omega arith
        | false ↦ λ h q. let less = alike_less i ms m rise.1 q in omega arith
      ] refl found

  -- a map that leaves the bare plans
  pub alike_mapped : (g : Subscription → Subscription) → ((m : Subscription) → (g m).bare ≡ m.bare) → (ms : List Subscription) → alike bare ms ≡ alike bare (map g ms)
  alike_mapped g bares [] = refl
  alike_mapped g bares (m ∷ ms) = λ i. cond (is_expr bare (sym (bares m) i)) 1 0 + alike_mapped g bares ms i

  one_at_most : (m : Subscription) → has_bare bare m ≤ 1
  one_at_most m = elim (is_expr bare m.bare) as (λ t. cond {A = ℕ} t 1 0 ≤ 1) [ true ↦ omega arith | false ↦ omega arith ]

  pub alike_few : (ms : List Subscription) → alike bare ms ≤ length ms
  alike_few [] = omega arith
  alike_few (m ∷ ms) = let rest = alike_few ms in let one = one_at_most m in omega arith

-- a bare plan that a subscription has is had
pub alike_some : (i : ℕ) (ms : List Subscription) (m : Subscription) → InstallsRise ms → find (is_of i) ms ≡ Some m → 1 ≤ alike m.bare ms
alike_some i ms m rise found = let less = alike_less m.bare i ms m rise found in let one = has_its_own m in omega arith
