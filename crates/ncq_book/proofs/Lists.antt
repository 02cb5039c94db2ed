-- Lists by a test, and lists of numbers that rise.
use Rattle.std.proofs.Common.{◌≡◌, ℕ, suc, ◌<◌, ◌==◌, ◌&&◌, ◌||◌, Bool, true, false, List, [], ◌∷◌, ◌++◌, map, refl, sym, ◌∙◌, ap, arith, cond, subst, Less}
use Rattle.std.specs.Prelude.{Option, Some, None, nat_eq, Result, Ok, Err, IfOk, OnOk, OnErr}
use Rattle.std.specs.Result.{is_err}
use Rattle.std.specs.List.{filter, find, list_any, All, AllByRecursion}
use Rattle.std.specs.List.Sorted.{IsStrictlySortedBy}
use Rattle.std.specs.Option.{is_some, option_map}
use Rattle.std.specs.Ordering.{nat_cmp}
use Rattle.std.specs.BTreeMap.{is_at}
use Rattle.std.specs.Cmp.{nat_cmp_total}
use Rattle.std.proofs.lemmas.Bool.Decides.{nat_tests}
use Rattle.std.proofs.lemmas.Map.Lookups.{btree_set_from_contains, exact_unsigned}

-- the query of a tree finds its own number
pub number_at : (i k : ℕ) → is_at (nat_cmp i) k ≡ (k == i)
number_at i k = grind (arith, nat_tests)

pub at_ok : {T E P : Type 0} (r : Result T E) → is_err r ≡ false → OnOk r P → P
at_ok (Ok x) h p = p
at_ok (Err e) h p = cc

pub at_err : {T E P : Type 0} (r : Result T E) → is_err r ≡ true → OnErr r P → P
at_err (Ok x) h p = cc
at_err (Err e) h p = p

pub if_ok_leads : {T E : Type 0} {P R : T → Type 0} (r : Result T E) → ((x : T) → P x → R x) → IfOk r P → IfOk r R
if_ok_leads (Ok x) leads p = leads x p
if_ok_leads (Err e) leads p = tt

pub if_ok_both : {T E : Type 0} {P Q R : T → Type 0} (r : Result T E) → ((x : T) → P x → Q x → R x) → IfOk r P → IfOk r Q → IfOk r R
if_ok_both (Ok x) leads p q = leads x p q
if_ok_both (Err e) leads p q = tt

-- what holds at each place holds of each
pub each_of_all : {A : Type 0} (P : A → Type 0) (xs : List A) → All P xs → AllByRecursion P xs
each_of_all P [] h = tt
each_of_all P (x ∷ xs) h = (h 0 x (omega arith), each_of_all P xs (λ k d less. h (suc k) d (omega (arith, less))))

pub or_left : (a b : Bool) → (a || b) ≡ false → a ≡ false
or_left true b h = cc
or_left false b h = refl

pub or_right : (a b : Bool) → (a || b) ≡ false → b ≡ false
or_right true b h = cc
or_right false b h = h

pub cond_map : {A B : Type 0} (f : A → B) (t : Bool) (a : A) → cond t (Some (f a)) None ≡ option_map f (cond t (Some a) None)
cond_map f true a = refl
cond_map f false a = refl

pub is_some_map : {A B : Type 0} (f : A → B) (o : Option A) → is_some (option_map f o) ≡ is_some o
is_some_map f None = refl
is_some_map f (Some a) = refl

pub map_itself : {A : Type 0} (o : Option A) → option_map (λ a. a) o ≡ o
map_itself None = refl
map_itself (Some a) = refl

module _ {A : Type 0} (test : A → Bool) where
  pub some_found : (xs : List A) → is_some (find test xs) ≡ list_any test xs
  some_found [] = refl
  some_found (x ∷ xs) = elim (test x) as (λ t. is_some (cond t (Some x) (find test xs)) ≡ (t || list_any test xs)) [ true ↦ refl | false ↦ some_found xs ]

  -- what holds of each holds of the one found
  pub found_has : (P : A → Type 0) (xs : List A) (y : A) → AllByRecursion P xs → find test xs ≡ Some y → P y
  found_has P [] y all h = cc
  found_has P (x ∷ xs) y all h =
      elim (test x) as (λ t. cond t (Some x) (find test xs) ≡ Some y → P y) [
        | true ↦ λ q. let e : x ≡ y = grind arith in subst P e all.0
        | false ↦ λ q. found_has P xs y all.1 q
      ] h

  -- the one found passes
  pub found_passes : (xs : List A) (y : A) → find test xs ≡ Some y → test y ≡ true
  found_passes [] y h = cc
  found_passes (x ∷ xs) y h =
      elim (test x) as (λ t. test x ≡ t → cond t (Some x) (find test xs) ≡ Some y → test y ≡ true) [
        | true ↦ λ p q. let e : x ≡ y = grind arith in sym (ap test e) ∙ p
        | false ↦ λ p q. found_passes xs y q
      ] refl h

  -- a filter that all pass
  pub all_pass : (xs : List A) → AllByRecursion (λ x. test x ≡ true) xs → filter test xs ≡ xs
  all_pass [] h = refl
  all_pass (x ∷ xs) h = λ i. cond (h.0 i) (x ∷ all_pass xs h.1 i) (all_pass xs h.1 i)

  pub none_passes : (xs : List A) → AllByRecursion (λ x. test x ≡ false) xs → list_any test xs ≡ false
  none_passes [] h = refl
  none_passes (x ∷ xs) h = λ i. h.0 i || none_passes xs h.1 i

  pub none_is_found : (xs : List A) → AllByRecursion (λ x. test x ≡ false) xs → find test xs ≡ None
  none_is_found [] h = refl
  none_is_found (x ∷ xs) h = (λ i. cond (h.0 i) (Some x) (find test xs)) ∙ none_is_found xs h.1

module _ {A : Type 0} (P Q : A → Type 0) (leads : (x : A) → P x → Q x) where
  pub each_leads : (xs : List A) → AllByRecursion P xs → AllByRecursion Q xs
  each_leads [] h = tt
  each_leads (x ∷ xs) h = (leads x h.0, each_leads xs h.1)

module _ {A : Type 0} (P : A → Type 0) where
  pub each_filtered : (test : A → Bool) (xs : List A) → AllByRecursion P xs → AllByRecursion P (filter test xs)
  each_filtered test [] h = tt
  each_filtered test (x ∷ xs) h = elim (test x) as (λ t. AllByRecursion P (cond t (x ∷ filter test xs) (filter test xs))) [ true ↦ (h.0, each_filtered test xs h.1) | false ↦ each_filtered test xs h.1 ]

  pub each_pushed : (xs : List A) (y : A) → AllByRecursion P xs → P y → AllByRecursion P (xs ++ y ∷ [])
  each_pushed [] y h p = (p, tt)
  each_pushed (x ∷ xs) y h p = (h.0, each_pushed xs y h.1 p)

-- a test of what a map makes of a filter
pub any_mapped : {A B : Type 0} (p : B → Bool) (f : A → B) (q : A → Bool) (xs : List A) → list_any p (map f (filter q xs)) ≡ list_any (λ x. q x && p (f x)) xs
any_mapped p f q [] = refl
any_mapped p f q (x ∷ xs) =
    elim (q x) as (λ t. list_any p (map f (cond t (x ∷ filter q xs) (filter q xs))) ≡ (t && p (f x) || list_any (λ x. q x && p (f x)) xs)) [
      | true ↦ λ i. p (f x) || any_mapped p f q xs i
      | false ↦ any_mapped p f q xs
    ]

-- whether one passes one of two tests
any_or : {A : Type 0} (p q : A → Bool) (xs : List A) → list_any (λ x. p x || q x) xs ≡ (list_any p xs || list_any q xs)
any_or p q [] = refl
any_or p q (x ∷ xs) =
    elim (p x) as (λ t. ((t || q x) || list_any (λ y. p y || q y) xs) ≡ ((t || list_any p xs) || (q x || list_any q xs))) [
      | true ↦ refl
      | false ↦ elim (q x) as (λ t. (t || list_any (λ y. p y || q y) xs) ≡ (list_any p xs || (t || list_any q xs))) [
        | true ↦ elim (list_any p xs) as (λ b. true ≡ (b || true)) [ true ↦ refl | false ↦ refl ]
        | false ↦ any_or p q xs
      ]
    ]

any_never : {A : Type 0} (xs : List A) → list_any (λ x. false) xs ≡ false
any_never [] = refl
any_never (x ∷ xs) = any_never xs

-- which of two lists is asked first is the same
pub any_swap : {A B : Type 0} (p : A → B → Bool) (xs : List A) (ys : List B) → list_any (λ y. list_any (λ x. p x y) xs) ys ≡ list_any (λ x. list_any (p x) ys) xs
any_swap p xs [] = sym (any_never xs)
any_swap p xs (y ∷ ys) = (λ i. list_any (λ x. p x y) xs || any_swap p xs ys i) ∙ sym (any_or (λ x. p x y) (λ x. list_any (p x) ys) xs)

pub any_agree : {A : Type 0} (p q : A → Bool) → ((x : A) → p x ≡ q x) → (xs : List A) → list_any p xs ≡ list_any q xs
any_agree p q h [] = refl
any_agree p q h (x ∷ xs) = λ i. h x i || any_agree p q h xs i

-- each number is below all behind it
abbrev pub NumbersRise : List ℕ → Type 0
NumbersRise [] = Unit {0}
NumbersRise (x ∷ xs) = AllByRecursion (λ y. x < y) xs × NumbersRise xs

sorted_rising : (xs : List ℕ) → NumbersRise xs → IsStrictlySortedBy nat_cmp xs
unfolding IsStrictlySortedBy
sorted_rising [] h = tt
sorted_rising (x ∷ xs) h = (each_leads (λ y. x < y) (λ y. nat_cmp x y ≡ Less) (λ y l. grind (arith, nat_tests)) xs h.0, sorted_rising xs h.1)

-- numbers that rise are told by which they are
pub same_rising : (xs ys : List ℕ) → IsStrictlySortedBy nat_cmp xs → NumbersRise ys → ((n : ℕ) → list_any (nat_eq n) xs ≡ list_any (nat_eq n) ys) → xs ≡ ys
same_rising xs ys rise rises same =
    let at : (n : ℕ) (zs : List ℕ) → list_any (is_at (nat_cmp n)) zs ≡ list_any (nat_eq n) zs = λ n zs. any_agree (is_at (nat_cmp n)) (nat_eq n) (λ k. grind (arith, nat_tests)) zs in
    btree_set_from_contains nat_cmp_total (record { keys = xs }) (record { keys = ys }) rise (sorted_rising ys rises)
    (λ n. at n xs ∙ same n ∙ sym (at n ys)) exact_unsigned
