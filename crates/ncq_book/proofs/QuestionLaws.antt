-- Subscriptions with their questions: without these, with one more, one less and one noted.
use Rattle.std.proofs.Common.{◌≡◌, ◌⊎◌, ℕ, ◌+◌, ◌<◌, ◌≤◌, Bool, true, false, List, [], ◌∷◌, ◌++◌, map, length, take, get_or, refl, sym, ◌∙◌, ap, arith, cond, subst, inl, inr}
use Rattle.std.specs.Prelude.{Option, Some, None}
use Rattle.std.specs.declared.cmp.Ordering.TheVariants.{Less, Equal, Greater}
use Rattle.std.specs.List.{cons_option, AllByRecursion}
use Rattle.std.proofs.lemmas.List.{append-nil, take_more}
use Rattle.std.proofs.lemmas.List.Elements.{filter_map-append}
use Rattle.std.specs.Option.{option_map}
use Rattle.std.specs.Map.{lookup, remove_entry, set_value}
use Rattle.std.specs.BTreeMap.{BTreeMap, is_at, insert_entry}
use Rattle.std.specs.BTreeMap.Range.{IsEntryInRange, IsRangeOf}
use Rattle.std.specs.declared.ops.Bound.{Bound}
use Rattle.std.specs.Ordering.{nat_cmp, match_ordering}
use Rattle.std.proofs.lemmas.Bool.{eqb-true}
use Rattle.ncq_book.specs.declared.listed.Listed.{Listed}
use Rattle.ncq_book.specs.declared.subscription.Subscription.{Subscription}
use Rattle.ncq_book.specs.Books.{subscription_of, subscriptions_of, AskAlike, AskLike}
use Rattle.ncq_book.specs.Kept.{Placed}
use Rattle.ncq_book.specs.Questions.{Asked, Questions, asked_by, placed_in, standing_at, Stands, StandEach, AsksLike, AreQuestions}
use Rattle.ncq_book.proofs.Lists.{each_leads, each_of_all, number_at}

-- the subscription of one that is asked for
abbrev pub subscription : Asked → Subscription
subscription a = a.subscription

-- without the questions
module _ (i : ℕ) where
  abbrev at : ℕ → Bool
  at = is_at (nat_cmp i)

  pub lookup_placed : (asked : Questions) → lookup (is_at (nat_cmp i)) (placed_in asked) ≡ option_map subscription (lookup (is_at (nat_cmp i)) asked)
  lookup_placed [] = refl
  lookup_placed (e ∷ es) =
      elim (at e.0) as (λ t. cond t (Some e.1.subscription) (lookup at (placed_in es)) ≡ option_map subscription (cond t (Some e.1) (lookup at es))) [ true ↦ refl | false ↦ lookup_placed es ]

  pub found_placed : (asked : Questions) (o : Option Asked) → o ≡ lookup (is_at (nat_cmp i)) asked → option_map subscription o ≡ lookup (is_at (nat_cmp i)) (placed_in asked)
  found_placed asked o found = ap (option_map subscription) found ∙ sym (lookup_placed asked)

  pub remove_placed : (asked : Questions) → placed_in (remove_entry (is_at (nat_cmp i)) asked) ≡ remove_entry (is_at (nat_cmp i)) (placed_in asked)
  remove_placed [] = refl
  remove_placed (e ∷ es) =
      elim (at e.0) as (λ t. placed_in (cond t es (e ∷ remove_entry at es)) ≡ cond t (placed_in es) ((e.0, e.1.subscription) ∷ remove_entry at (placed_in es))) [ true ↦ refl | false ↦ ap (λ r. (e.0, e.1.subscription) ∷ r) (remove_placed es) ]

  pub set_placed : (asked : Questions) (a : Asked) → placed_in (set_value (is_at (nat_cmp i)) asked a) ≡ set_value (is_at (nat_cmp i)) (placed_in asked) a.subscription
  set_placed [] a = refl
  set_placed (e ∷ es) a =
      elim (at e.0) as (λ t. placed_in (cond t ((e.0, a) ∷ es) (e ∷ set_value at es a)) ≡ cond t ((e.0, a.subscription) ∷ placed_in es) ((e.0, e.1.subscription) ∷ set_value at (placed_in es) a.subscription)) [
        | true ↦ refl
        | false ↦ ap (λ r. (e.0, e.1.subscription) ∷ r) (set_placed es a)
      ]

  pub insert_placed : (asked : Questions) (a : Asked) → placed_in (insert_entry nat_cmp asked i a) ≡ insert_entry nat_cmp (placed_in asked) i a.subscription
  insert_placed [] a = refl
  insert_placed (e ∷ es) a =
      elim (nat_cmp i e.0) as (λ o. placed_in (match_ordering o ((i, a) ∷ e ∷ es) ((e.0, a) ∷ es) (e ∷ insert_entry nat_cmp es i a))
      ≡ match_ordering o ((i, a.subscription) ∷ placed_in (e ∷ es)) ((e.0, a.subscription) ∷ placed_in es) ((e.0, e.1.subscription) ∷ insert_entry nat_cmp (placed_in es) i a.subscription)) [
        | Less ↦ refl
        | Equal ↦ refl
        | Greater ↦ ap (λ r. (e.0, e.1.subscription) ∷ r) (insert_placed es a)
      ]

-- who asks alike the other way round, and one further
pub alike_back : (a b : Subscription) → AskAlike a b → AskAlike b a
alike_back a b h = record { file = sym h.file; template = sym h.template; residual = sym h.residual }

pub alike_on : (a b c : Subscription) → AskAlike a b → AskAlike b c → AskAlike a c
alike_on a b c h k = record { file = h.file ∙ k.file; template = h.template ∙ k.template; residual = h.residual ∙ k.residual }

-- under the number stood one of the same question
pub record Stood (old : Questions) (i : ℕ) (a : Asked) : Type 0 where
  pub was : Asked
  pub there : Stands old i was
  pub question : a.question ≡ was.question
  pub alike : AskAlike a.subscription was.subscription

-- one that stood there as it is
pub stood : (old : Questions) (i : ℕ) (a : Asked) → Stands old i a → Stood old i a
stood old i a there = record { was = a; there = there; question = refl; alike = record { file = refl; template = refl; residual = refl } }

-- where each that stands there stood there before, questions are kept
pub questions_left : (old new : Questions) → ((i : ℕ) (a : Asked) → Stands new i a → Stood old i a) → AreQuestions old → AreQuestions new
questions_left old new before are = record {
  alike = λ i a there j b beside same.
      let x = before i a there in
      let y = before j b beside in
      alike_on b.subscription y.was.subscription a.subscription y.alike
      (alike_on y.was.subscription x.was.subscription a.subscription
      (are.alike i x.was x.there j y.was y.there (sym y.question ∙ same ∙ x.question))
      (alike_back a.subscription x.was.subscription x.alike));
  up_to = λ i a there. let x = before i a there in subst (λ q. q ≤ i) (sym x.question) (are.up_to i x.was x.there);
}

-- one less
pub questions_less : (old new : Questions) (i : ℕ) → ((q : ℕ) → lookup (is_at (nat_cmp q)) new ≡ cond (is_at (nat_cmp i) q) None (lookup (is_at (nat_cmp q)) old)) → AreQuestions old → AreQuestions new
questions_less old new i updates =
    questions_left old new
    (λ j a there.
    elim (is_at (nat_cmp i) j) as (λ t. cond t None (lookup (is_at (nat_cmp j)) old) ≡ Some a → Stood old j a) [ true ↦ λ q. cc | false ↦ λ q. stood old j a q ] (sym (updates j) ∙ there))

-- one noted
module _ (i : ℕ) (was now : Asked) (question : now.question ≡ was.question) (alike : AskAlike now.subscription was.subscription) where
  stood_noted : (old : Questions) → Stands old i was → (j : ℕ) (a : Asked) → Stands (set_value (is_at (nat_cmp i)) old now) j a → Stood old j a
  stood_noted [] found j a there = cc
  stood_noted (e ∷ es) found j a there =
      elim (is_at (nat_cmp i) e.0) as (λ t. cond t (Some e.1) (lookup (is_at (nat_cmp i)) es) ≡ Some was → lookup (is_at (nat_cmp j)) (cond t ((e.0, now) ∷ es) (e ∷ set_value (is_at (nat_cmp i)) es now)) ≡ Some a → Stood (e ∷ es) j a) [
        | true ↦ λ f q.
            elim (is_at (nat_cmp j) e.0) as (λ t. is_at (nat_cmp j) e.0 ≡ t → cond t (Some now) (lookup (is_at (nat_cmp j)) es) ≡ Some a → Stood (e ∷ es) j a) [
              | true ↦ λ h g.
                  let is : now ≡ a = cc in
                  let here : lookup (is_at (nat_cmp j)) (e ∷ es) ≡ Some was = (λ k. cond (h k) (Some e.1) (lookup (is_at (nat_cmp j)) es)) ∙ f in
                  subst (λ a. Stood (e ∷ es) j a) is (record { was = was; there = here; question = question; alike = alike })
              | false ↦ λ h g. stood (e ∷ es) j a ((λ k. cond (h k) (Some e.1) (lookup (is_at (nat_cmp j)) es)) ∙ g)
            ] refl q
        | false ↦ λ f q.
            elim (is_at (nat_cmp j) e.0) as (λ t. is_at (nat_cmp j) e.0 ≡ t → cond t (Some e.1) (lookup (is_at (nat_cmp j)) (set_value (is_at (nat_cmp i)) es now)) ≡ Some a → Stood (e ∷ es) j a) [
              | true ↦ λ h g. stood (e ∷ es) j a ((λ k. cond (h k) (Some e.1) (lookup (is_at (nat_cmp j)) es)) ∙ g)
              | false ↦ λ h g.
                  let x = stood_noted es f j a g in
                  record { was = x.was; there = (λ k. cond (h k) (Some e.1) (lookup (is_at (nat_cmp j)) es)) ∙ x.there; question = x.question; alike = x.alike }
            ] refl q
      ] found there

  pub questions_noted : (old new : Questions) → Stands old i was → new ≡ set_value (is_at (nat_cmp i)) old now → AreQuestions old → AreQuestions new
  questions_noted old new found written are = subst AreQuestions (sym written) (questions_left old (set_value (is_at (nat_cmp i)) old now) (stood_noted old found) are)

-- one more
module _ (old new : Questions) (i : ℕ) (one : Asked) (updates : (q : ℕ) → lookup (is_at (nat_cmp q)) new ≡ cond (is_at (nat_cmp i) q) (Some one) (lookup (is_at (nat_cmp q)) old)) where
  is_one : (j : ℕ) (a : Asked) → Stands new j a → ((j ≡ i) × (a ≡ one)) ⊎ Stands old j a
  is_one j a there =
      elim (is_at (nat_cmp i) j) as (λ t. is_at (nat_cmp i) j ≡ t → cond t (Some one) (lookup (is_at (nat_cmp j)) old) ≡ Some a → ((j ≡ i) × (a ≡ one)) ⊎ Stands old j a) [
        | true ↦ λ h q. let same : a ≡ one = cc in inl (eqb-true j i (sym (number_at i j) ∙ h), same)
        | false ↦ λ h q. inr q
      ] refl (sym (updates j) ∙ there)

  module _ (are : AreQuestions old) (like : AsksLike old one.question one.subscription) where
    like_more : (j k : ℕ) (a b : Asked) → ((j ≡ i) × (a ≡ one)) ⊎ Stands old j a → ((k ≡ i) × (b ≡ one)) ⊎ Stands old k b → b.question ≡ a.question → AskAlike b.subscription a.subscription
    like_more j k a b (inl x) (inl y) same = record { file = λ n. ((y.1 ∙ sym x.1) n).subscription.file.0; template = λ n. ((y.1 ∙ sym x.1) n).subscription.query.template; residual = λ n. ((y.1 ∙ sym x.1) n).subscription.query.residual }
    like_more j k a b (inl x) (inr y) same = subst (λ (a : Asked). AskAlike b.subscription a.subscription) (sym x.1) (like k b y (same ∙ ap (λ (a : Asked). a.question) x.1))
    like_more j k a b (inr x) (inl y) same = subst (λ (b : Asked). AskAlike b.subscription a.subscription) (sym y.1) (alike_back a.subscription one.subscription (like j a x (sym same ∙ ap (λ (a : Asked). a.question) y.1)))
    like_more j k a b (inr x) (inr y) same = are.alike j a x k b y same

    up_more : one.question ≤ i → (j : ℕ) (a : Asked) → ((j ≡ i) × (a ≡ one)) ⊎ Stands old j a → a.question ≤ j
    up_more up j a (inl x) = let n = x.0 in let q = ap (λ (a : Asked). a.question) x.1 in omega arith
    up_more up j a (inr x) = are.up_to j a x

    pub questions_more : one.question ≤ i → AreQuestions new
    questions_more up = record {
      alike = λ j a there k b beside same. like_more j k a b (is_one j a there) (is_one k b beside) same;
      up_to = λ j a there. up_more up j a (is_one j a there);
    }

-- whatever stands there has a number below
pub below_found : (n : ℕ) (asked : Questions) → AllByRecursion (λ e. e.0 < n) asked → (i : ℕ) (a : Asked) → Stands asked i a → i < n
below_found n [] above i a there = cc
below_found n (e ∷ es) above i a there =
    elim (is_at (nat_cmp i) e.0) as (λ t. is_at (nat_cmp i) e.0 ≡ t → cond t (Some e.1) (lookup (is_at (nat_cmp i)) es) ≡ Some a → i < n) [
      | true ↦ λ h q. subst (λ k. k < n) (eqb-true e.0 i (sym (number_at i e.0) ∙ h)) above.0
      | false ↦ λ h q. below_found n es above.1 i a q
    ] refl there

-- nobody has the number of one above all as a question
pub own_question : (asked : Questions) (m : Subscription) → AreQuestions asked → AllByRecursion (λ e. e.0 < m.install) asked → AsksLike asked m.install m
own_question asked m are above i a there same =
    let up = are.up_to i a there in
    let below = below_found m.install asked above i a there in
    absurd (let n : ⊥ = omega arith in n)

-- who asks like one that stands there
pub found_question : (asked : Questions) (m : Subscription) → AreQuestions asked → (i : ℕ) (a : Asked) → Stands asked i a → AskAlike a.subscription m → AsksLike asked a.question m
found_question asked m are i a there alike j b beside same = alike_on b.subscription a.subscription m (are.alike i a there j b beside same) alike

-- the numbers are below one, with questions as without
pub above_placed : (n : ℕ) (asked : Questions) → AllByRecursion (λ (p : Placed). p.0 < n) (placed_in asked) → AllByRecursion (λ (e : ℕ × Asked). e.0 < n) asked
above_placed n [] above = tt
above_placed n (e ∷ es) above = (above.0, above_placed n es above.1)

-- the entries of a range stand there
pub stand_in_range : (asked : BTreeMap ℕ Asked) (low high : Bound ℕ) (entries : Questions) → IsRangeOf nat_cmp low high asked entries → StandEach asked.entries entries
stand_in_range asked low high entries is =
    each_leads (IsEntryInRange nat_cmp low high asked) (λ e. Stands asked.entries e.0 e.1) (λ e h. h.1) entries (each_of_all (IsEntryInRange nat_cmp low high asked) entries is.0)

-- what stands under the numbers so far, with one number more
pub standing_more : (asked : Questions) (installs : List ℕ) (at : ℕ) → at < length installs
    → standing_at asked (take (at + 1) installs) ≡ standing_at asked (take at installs) ++ cons_option (lookup (is_at (nat_cmp (get_or installs at 0))) asked) []
standing_more asked installs at here = ap (standing_at asked) (take_more installs at 0 here) ∙ filter_map-append (λ i. lookup (is_at (nat_cmp i)) asked) (take at installs) (get_or installs at 0 ∷ [])

-- what stands under a number
pub record StandsSomewhere (asked : Questions) (a : Asked) : Type 0 where
  pub install : ℕ
  pub there : Stands asked install a

-- what is listed stands somewhere
pub standing_there : (asked : Questions) (installs : List ℕ) → AllByRecursion (StandsSomewhere asked) (standing_at asked installs)
standing_there asked [] = tt
standing_there asked (i ∷ is) =
    elim (lookup (is_at (nat_cmp i)) asked) as (λ o. lookup (is_at (nat_cmp i)) asked ≡ o → AllByRecursion (StandsSomewhere asked) (cons_option o (standing_at asked is))) [
      | None ↦ λ h. standing_there asked is
      | Some a ↦ λ h. (record { install = i; there = h }, standing_there asked is)
    ] refl

-- what stands somewhere has those of a list that ask what it asks
pub likes_listed : (asked : Questions) → AreQuestions asked → (a : Asked) → StandsSomewhere asked a → (list : List Listed) → AllByRecursion (λ l. StandsSomewhere asked (asked_by l)) list → AskLike list a.question a.subscription
likes_listed asked are a x [] all = tt
likes_listed asked are a x (l ∷ list) all = (λ same. are.alike x.install a x.there all.0.install (asked_by l) all.0.there same, likes_listed asked are a x list all.1)

pub ask_listed : (asked : Questions) → AreQuestions asked → (list some : List Listed) → AllByRecursion (λ l. StandsSomewhere asked (asked_by l)) list → AllByRecursion (λ l. StandsSomewhere asked (asked_by l)) some
    → AllByRecursion (λ l. AskLike list l.question l.subscription.now) some
ask_listed asked are list [] all these = tt
ask_listed asked are list (l ∷ some) all these = (likes_listed asked are (asked_by l) these.0 list all, ask_listed asked are list some all these.1)

-- what holds of each that a list gives
pub each_asked : (P : Asked → Type 0) (list : List Listed) → AllByRecursion P (map asked_by list) → AllByRecursion (λ l. P (asked_by l)) list
each_asked P [] all = tt
each_asked P (l ∷ list) all = (all.0, each_asked P list all.1)

-- without questions, those that stand under the numbers are the subscriptions of these
pub standing_are : (asked : Questions) (ms : List Subscription) → ((i : ℕ) → lookup (is_at (nat_cmp i)) (placed_in asked) ≡ subscription_of i ms) → (installs : List ℕ) → map subscription (standing_at asked installs) ≡ subscriptions_of installs ms
standing_are asked ms found [] = refl
standing_are asked ms found (i ∷ is) =
    elim (lookup (is_at (nat_cmp i)) asked) as (λ o. map subscription (cons_option o (standing_at asked is)) ≡ cons_option (option_map subscription o) (subscriptions_of is ms)) [
      | None ↦ standing_are asked ms found is
      | Some a ↦ ap (λ r. a.subscription ∷ r) (standing_are asked ms found is)
    ]
    ∙ ap (λ o. cons_option o (subscriptions_of is ms)) (sym (lookup_placed i asked) ∙ found i)

pub listed_subscriptions : (list : List Listed) → map (λ (l : Listed). l.subscription.now) list ≡ map subscription (map asked_by list)
listed_subscriptions [] = refl
listed_subscriptions (l ∷ list) = ap (λ r. l.subscription.now ∷ r) (listed_subscriptions list)

-- a list with what stands under one number more
module _ (asked : Questions) (installs : List ℕ) (at : ℕ) (list : List Listed) (here : at < length installs) (was : map asked_by list ≡ standing_at asked (take at installs)) where
  pub listed_more : (l : Listed) → Stands asked (get_or installs at 0) (asked_by l) → map asked_by (list ++ l ∷ []) ≡ standing_at asked (take (at + 1) installs)
  listed_more l there =
      map_push list ∙ (λ i. was i ++ asked_by l ∷ []) ∙ (λ i. standing_at asked (take at installs) ++ cons_option (sym there i) []) ∙ sym (standing_more asked installs at here)
    where
      map_push : (ls : List Listed) → map asked_by (ls ++ l ∷ []) ≡ map asked_by ls ++ asked_by l ∷ []
      map_push [] = refl
      map_push (k ∷ ls) = ap (λ r. asked_by k ∷ r) (map_push ls)

  pub listed_still : lookup (is_at (nat_cmp (get_or installs at 0))) asked ≡ None → map asked_by list ≡ standing_at asked (take (at + 1) installs)
  listed_still none =
      was ∙ sym (append-nil (standing_at asked (take at installs))) ∙ (λ i. standing_at asked (take at installs) ++ cons_option (sym none i) []) ∙ sym (standing_more asked installs at here)
