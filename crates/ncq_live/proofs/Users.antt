-- How many subscriptions use a file: with one subscription more, and with one less.
use Rattle.std.proofs.Common.{◌≡◌, ◌≢◌, ℕ, ◌+◌, ◌<◌, ◌≤◌, Bool, true, false, not, cond, List, [], ◌∷◌, ◌++◌, map, length, refl, ap, arith}
use Rattle.std.specs.Prelude.{Some, nat_eq}
use Rattle.std.specs.List.{filter, find, AllByRecursion}
use Rattle.std.proofs.lemmas.Bool.{eq-eqb, ne_eqb}
use Rattle.ncq_base.specs.Keys.{times}
use Rattle.ncq_base.specs.declared.atom.FileId.{FileId}
use Rattle.ncq_book.specs.declared.subscription.Subscription.{Subscription}
use Rattle.ncq_book.specs.Books.{is_of, subscription_of, InstallsRise}
use Rattle.ncq_book.proofs.Lists.{each_leads}
use Rattle.ncq_book.proofs.SubscriptionLaws.{none_above, others_all}

-- how many subscriptions use the file of this number
abbrev pub users : ℕ → List Subscription → ℕ
users number subscriptions = times (λ m. nat_eq m.file.0 number) subscriptions

-- 1 if the two numbers are one, else 0
abbrev pub same : ℕ → ℕ → ℕ
same file number = cond (nat_eq file number) 1 0

pub same_itself : (number : ℕ) → same number number ≡ 1
same_itself number = λ i. cond (eq-eqb number number refl i) 1 0

pub same_other : (file number : ℕ) → file ≢ number → same file number ≡ 0
same_other file number differs = λ i. cond (ne_eqb file number differs i) 1 0

one_at_most : (b : Bool) → cond b 1 0 ≤ 1
one_at_most true = omega arith
one_at_most false = omega arith

pub users_push : (number : ℕ) (subscriptions : List Subscription) (subscription : Subscription) → users number (subscriptions ++ subscription ∷ []) ≡ users number subscriptions + same subscription.file.0 number
users_push number [] subscription = omega arith
users_push number (m ∷ subscriptions) subscription = let rest = users_push number subscriptions subscription in omega arith

pub users_few : (number : ℕ) (subscriptions : List Subscription) → users number subscriptions ≤ length subscriptions
users_few number [] = omega arith
users_few number (m ∷ subscriptions) =
    let rest = users_few number subscriptions in
    let one = one_at_most (nat_eq m.file.0 number) in
    omega arith

-- without the subscription of an install number its file has one less
pub users_rest : (number install : ℕ) (subscriptions : List Subscription) (subscription : Subscription) → InstallsRise subscriptions → subscription_of install subscriptions ≡ Some subscription
    → users number subscriptions ≡ users number (filter (λ m. not (is_of install m)) subscriptions) + same subscription.file.0 number
users_rest number install [] subscription rise found = cc
users_rest number install (m ∷ subscriptions) subscription rise found =
    let rest = filter (λ k. not (is_of install k)) subscriptions in
    elim (is_of install m) as (λ t. is_of install m ≡ t → cond t (Some m) (find (is_of install) subscriptions) ≡ Some subscription
    → same m.file.0 number + users number subscriptions ≡ users number (cond (not t) (m ∷ rest) rest) + same subscription.file.0 number) [
      | true ↦ λ h q.
          let is : m ≡ subscription = grind arith in
          let all : users number rest ≡ users number subscriptions = ap (users number) (others_all install subscriptions (none_above install m subscriptions h rise.0)) in
          let one : same m.file.0 number ≡ same subscription.file.0 number = ap (λ (k : Subscription). same k.file.0 number) is in
          omega arith
      | false ↦ λ h q. let less = users_rest number install subscriptions subscription rise.1 q in omega arith
    ] refl found

-- the file of each subscription has a user
pub users_some : (subscriptions : List Subscription) → AllByRecursion (λ m. 0 < users m.file.0 subscriptions) subscriptions
users_some [] = tt
users_some (m ∷ subscriptions) = (
  (let one = same_itself m.file.0 in omega arith),
  each_leads (λ k. 0 < users k.file.0 subscriptions) (λ k. 0 < users k.file.0 (m ∷ subscriptions)) (λ k some. omega arith) subscriptions (users_some subscriptions),
)

-- a change of subscriptions that leaves their files leaves the users
pub users_map : (number : ℕ) (change : Subscription → Subscription) → ((m : Subscription) → (change m).file ≡ m.file) → (subscriptions : List Subscription) → users number (map change subscriptions) ≡ users number subscriptions
users_map number change files [] = refl
users_map number change files (m ∷ subscriptions) =
    let rest = users_map number change files subscriptions in
    let one : same (change m).file.0 number ≡ same m.file.0 number = ap (λ (f : FileId). same f.0 number) (files m) in
    omega arith
