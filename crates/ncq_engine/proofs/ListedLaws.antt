-- What a list of the book gives, against its subscriptions: when those of it fire, and who asks as the one that was told last.
use Rattle.std.proofs.Common.{◌≡◌, ℕ, ◌+◌, ◌<◌, ◌≤◌, true, false, List, [], ◌∷◌, ◌++◌, map, length, take, get_or, refl, sym, ◌∙◌, ap, subst}
use Rattle.std.specs.Prelude.{Option, Some, None, IfSome, nat_le, if◌then◌else◌}
use Rattle.std.specs.List.{cons_option, flat_map, AllByRecursion}
use Rattle.std.proofs.lemmas.List.{take_all}
use Rattle.ncq_book.specs.declared.listed.Listed.{Listed}
use Rattle.ncq_book.specs.declared.subscription.Subscription.{Subscription as Kept}
use Rattle.ncq_book.specs.Books.{AskAlike, AskByQuestion, AskLike, BookState, subscription_of, subscriptions_of}
use Rattle.ncq_book.proofs.QuestionLaws.{alike_back, alike_on}
use Rattle.ncq_event.specs.declared.firing.Firing.{Firing}
use Rattle.ncq_engine.specs.Tellings.{has_started, started_at}
use Rattle.ncq_engine.specs.declared.latest.Latest.{Latest}
use Rattle.ncq_engine.proofs.AwaitLaws.{found_install}
use Rattle.ncq_engine.proofs.Lists.{each_more}
use Rattle.ncq_engine.proofs.TellingLoops.{each_here, made_more}

-- the subscription of one of a list
abbrev pub of_listed : Listed → Kept
of_listed l = l.subscription.now

each_mapped : {A B : Type 0} (f : A → B) (P : B → Type 0) (xs : List A) → AllByRecursion P (map f xs) → AllByRecursion (λ x. P (f x)) xs
each_mapped f P [] h = tt
each_mapped f P (x ∷ xs) h = (h.0, each_mapped f P xs h.1)

flat_map_mapped : {A B C : Type 0} (f : A → B) (g : B → List C) (xs : List A) → flat_map (λ x. g (f x)) xs ≡ flat_map g (map f xs)
flat_map_mapped f g [] = refl
flat_map_mapped f g (x ∷ xs) = ap (λ r. g (f x) ++ r) (flat_map_mapped f g xs)

-- it stands among the subscriptions under its install number
abbrev pub IsFound : List Kept → Kept → Type 0
IsFound ms m = subscription_of m.install ms ≡ Some m

module _ (ms : List Kept) where
  found_each : (installs : List ℕ) → AllByRecursion (IsFound ms) (subscriptions_of installs ms)
  found_each [] = tt
  found_each (i ∷ is) =
      elim (subscription_of i ms) as (λ o. subscription_of i ms ≡ o → AllByRecursion (IsFound ms) (cons_option o (subscriptions_of is ms))) [
        | None ↦ λ h. found_each is
        | Some m ↦ λ h. (ap (λ k. subscription_of k ms) (found_install i ms m h) ∙ h, found_each is)
      ] refl

  -- the firings now of one
  abbrev starts : ℕ → Kept → List Firing
  starts now m = started_at now ms m.install

  starts_each : (now : ℕ) (installs : List ℕ) → flat_map (starts now) (subscriptions_of installs ms) ≡ flat_map (started_at now ms) installs
  starts_each now [] = refl
  starts_each now (i ∷ is) =
      elim (subscription_of i ms) as (λ o. subscription_of i ms ≡ o
      → flat_map (starts now) (cons_option o (subscriptions_of is ms)) ≡ (if has_started now o then record { instant = now; install = i } ∷ [] else []) ++ flat_map (started_at now ms) is) [
        | None ↦ λ h. starts_each now is
        | Some m ↦ λ h.
            (λ j. started_at now ms (found_install i ms m h j) ++ starts_each now is j)
            ∙ (λ j. (if has_started now (h j) then record { instant = now; install = i } ∷ [] else []) ++ flat_map (started_at now ms) is)
      ] refl

  module _ (installs : List ℕ) (list : List Listed) (are : map of_listed list ≡ subscriptions_of installs ms) where
    pub listed_found : AllByRecursion (λ l. IsFound ms (of_listed l)) list
    listed_found = each_mapped of_listed (IsFound ms) list (subst (AllByRecursion (IsFound ms)) (sym are) (found_each installs))

    pub listed_starts : (now : ℕ) → flat_map (λ (l : Listed). started_at now ms (of_listed l).install) list ≡ flat_map (started_at now ms) installs
    listed_starts now = flat_map_mapped of_listed (starts now) list ∙ ap (flat_map (starts now)) are ∙ starts_each now installs

-- what is walked is what the book lists
pub are_listed : (installs : List ℕ) (list items : List Listed) (book now : BookState) → list ≡ items → map of_listed items ≡ subscriptions_of installs book.subscriptions → book ≡ now → map of_listed list ≡ subscriptions_of installs now.subscriptions
are_listed installs list items book now walked are is = ap (map of_listed) walked ∙ are ∙ ap (λ (b : BookState). subscriptions_of installs b.subscriptions) is

-- the firings of those before a place past the end
pub all_listed : (ms : List Kept) (now : ℕ) (installs : List ℕ) (list : List Listed) → map of_listed list ≡ subscriptions_of installs ms → (at : ℕ) → length list ≤ at
    → flat_map (λ (l : Listed). started_at now ms (of_listed l).install) (take at list) ≡ flat_map (started_at now ms) installs
all_listed ms now installs list are at past = ap (flat_map (λ (l : Listed). started_at now ms (of_listed l).install)) (take_all at list past) ∙ listed_starts ms installs list are now

-- whether one that is found has started
module _ (ms : List Kept) (now : ℕ) (m : Kept) (found : IsFound ms m) where
  pub begun : nat_le m.timing.start now ≡ true → has_started now (subscription_of m.install ms) ≡ true
  begun started = ap (has_started now) found ∙ started

  pub later : nat_le m.timing.start now ≡ false → started_at now ms m.install ≡ []
  later pending = λ i. if (ap (has_started now) found ∙ pending) i then record { instant = now; install = m.install } ∷ [] else []

-- those of the list with the question asked last ask like the one that was told last
abbrev pub AsksLast : List Listed → Option ℕ → Option Latest → Type 0
AsksLast list asked latest = IfSome asked (λ question. IfSome latest (λ told. AskLike list question told.subscription.now))

-- what holds where something was told
module _ {P Q : Latest → Type 0} (leads : (told : Latest) → P told → Q told) where
  pub told_leads : (o : Option Latest) → IfSome o P → IfSome o Q
  told_leads None h = tt
  told_leads (Some told) h = leads told h

-- one of a list
module _ (list : List Listed) (at : ℕ) (x : Listed) (here : at < length list) (is : x ≡ get_or list at x) where
  pub holds_here : (P : Listed → Type 0) → AllByRecursion P list → P x
  holds_here P all = subst P (sym is) (each_here P list at x here all)

  -- what is made of those before it, and of it
  pub made_with : {B : Type 0} (f : Listed → List B) → flat_map f (take (at + 1) list) ≡ flat_map f (take at list) ++ f x
  made_with f = made_more f list at x here ∙ ap (λ (l : Listed). flat_map f (take at list) ++ f l) (sym is)

  -- where it has the question asked last, it asks as what was told last
  pub known_alike : (asked : Option ℕ) (latest : Option Latest) → asked ≡ Some x.question → AsksLast list asked latest → IfSome latest (λ told. AskAlike told.subscription.now (of_listed x))
  known_alike asked latest same asks =
      told_leads (λ told like. alike_back (of_listed x) told.subscription.now (holds_here (λ l. l.question ≡ x.question → AskAlike (of_listed l) told.subscription.now) like refl)) latest
      (subst (λ (o : Option ℕ). AsksLast list o latest) same asks)

  -- and once it was told, those of its question do
  pub asks_last : AskByQuestion list → (latest : Option Latest) → IfSome latest (λ told. AskAlike told.subscription.now (of_listed x)) → AsksLast list (Some x.question) latest
  asks_last ask latest alike =
      let like : AskLike list x.question (of_listed x) = holds_here (λ l. AskLike list l.question (of_listed l)) ask in
      told_leads (λ told h. each_more (λ (l : Listed). l.question ≡ x.question → AskAlike (of_listed l) (of_listed x)) (λ (l : Listed). l.question ≡ x.question → AskAlike (of_listed l) told.subscription.now)
      (λ l asks same. alike_on (of_listed l) (of_listed x) told.subscription.now (asks same) (alike_back told.subscription.now (of_listed x) h)) list like) latest alike
