-- The subscription of a name, by its install number.
use Rattle.std.proofs.Common.{◌≡◌, ℕ, ◌<◌, not, true, false, List, [], ◌∷◌, refl, sym, ◌∙◌, ap, arith, cond, subst}
use Rattle.std.specs.Prelude.{Option, Some, None}
use Rattle.std.specs.List.{filter, find, AllByRecursion}
use Rattle.std.specs.Option.{option_map}
use Rattle.std.proofs.lemmas.Bool.{eq-eqb, ne_eqb}
use Rattle.std.proofs.lemmas.Option.{same_Some}
use Rattle.std.proofs.lemmas.Slice.Eq.{bytes_eq-Decides}
use Rattle.ncq_book.specs.declared.subscription.Subscription.{Subscription as Kept}
use Rattle.ncq_book.specs.Books.{is_named, is_of, InstallsRise, NamesDiffer}
use Rattle.ncq_book.specs.Kept.{install_of}
use Rattle.ncq_book.proofs.Lists.{all_pass, each_leads, found_has}
use Rattle.ncq_book.proofs.SubscriptionLaws.{none_above, others_all}

map_some : {A B : Type 0} (f : A → B) (o : Option A) (b : B) → option_map f o ≡ Some b → (a : A) × (o ≡ Some a) × (f a ≡ b)
map_some f None b h = cc
map_some f (Some a) b h = (a, refl, same_Some (f a) b h)

-- the subscription of a name has its install number: without the one is without the other
pub named_is : (name : List ℕ) (i : ℕ) (ms : List Kept) → InstallsRise ms → NamesDiffer ms → install_of name ms ≡ Some i
    → filter (λ m. not (is_of i m)) ms ≡ filter (λ m. not (is_named name m)) ms
named_is name i [] rise differ found = refl
named_is name i (m ∷ ms) rise differ found =
    elim (is_named name m) as (λ t. is_named name m ≡ t → option_map (λ k. k.install) (cond t (Some m) (find (is_named name) ms)) ≡ Some i
    → filter (λ m. not (is_of i m)) (m ∷ ms) ≡ cond (not t) (m ∷ filter (λ m. not (is_named name m)) ms) (filter (λ m. not (is_named name m)) ms)) [
      | true ↦ λ h q.
          let same : m.install ≡ i = grind arith in
          let here : is_of i m ≡ true = eq-eqb m.install i same in
          let e : name ≡ m.name = (bytes_eq-Decides name m.name).0 h in
          let unnamed : AllByRecursion (λ n. is_named name n ≡ false) ms = subst (λ a. AllByRecursion (λ n. is_named a n ≡ false) ms) (sym e) differ.0 in
          (λ j. cond (not (here j)) (m ∷ filter (λ m. not (is_of i m)) ms) (filter (λ m. not (is_of i m)) ms))
          ∙ others_all i ms (none_above i m ms here rise.0)
          ∙ sym (all_pass (λ n. not (is_named name n)) ms (each_leads (λ n. is_named name n ≡ false) (λ n. not (is_named name n) ≡ true) (λ n e. ap not e) ms unnamed))
      | false ↦ λ h q.
          let k = map_some (λ (k : Kept). k.install) (find (is_named name) ms) i q in
          let up : m.install < k.0.install = found_has (is_named name) (λ n. m.install < n.install) ms k.0 rise.0 k.1 in
          let other : is_of i m ≡ false = ne_eqb m.install i (λ e. let f = k.2 in absurd (omega (arith, e, f))) in
          (λ j. cond (not (other j)) (m ∷ filter (λ m. not (is_of i m)) ms) (filter (λ m. not (is_of i m)) ms))
          ∙ ap (λ r. m ∷ r) (named_is name i ms rise.1 differ.1 q)
    ] refl found
