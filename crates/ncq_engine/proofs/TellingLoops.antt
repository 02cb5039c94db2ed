-- A loop over firings that appends their notices: what is made so far, with one more.
use Rattle.std.proofs.Common.{◌≡◌, ℕ, zero, suc, ◌+◌, ◌<◌, true, false, cond, List, [], ◌∷◌, ◌++◌, map, length, take, get_or, refl, sym, ◌∙◌, ap, subst, arith, append_assoc, length-append, true≢false}
use Rattle.std.specs.Prelude.{Option, Some, None, IsSome, is_some, if◌then◌else◌}
use Rattle.std.specs.Borrow.{Bor}
use Rattle.std.specs.Option.{option_copied}
use Rattle.std.proofs.lemmas.List.{append-nil, take_more}
use Rattle.std.specs.List.{flat_map, AllByRecursion}
use Rattle.ncq_book.specs.declared.subscription.Subscription.{Subscription as Kept}
use Rattle.ncq_book.specs.Books.{is_of, subscription_of}
use Rattle.ncq_cache.specs.Cached.{Cached}
use Rattle.ncq_callback.specs.Labels.{Handed}
use Rattle.ncq_distinct.specs.DistinctTables.{DistinctTable}
use Rattle.ncq_event.specs.declared.firing.Firing.{Firing}
use Rattle.ncq_group.specs.Tables.{TableState}
use Rattle.ncq_live.specs.LiveTables.{LiveState}
use Rattle.ncq_source.specs.StoreStates.{StoreState}
use Rattle.ncq_engine.specs.Cached.{Grows}
use Rattle.ncq_engine.specs.Engines.{Pairwise, notice_text}
use Rattle.ncq_shelf.specs.KeptFiles.{Files}
use Rattle.ncq_engine.specs.declared.span.Span.{Span}
use Rattle.ncq_engine.specs.Spans.{span_of, spans_of}
use Rattle.ncq_engine.specs.Tellings.{AwaitsNews, firing_name, firing_text, firings_spans, firings_text, has_started, name_of, started_at, text_of}
use Rattle.ncq_engine.proofs.AwaitLaws.{AwaitMore, more_one}
use Rattle.ncq_engine.proofs.CachedLaws.{grows_more}
use Rattle.ncq_plan.specs.Relations.{Relations}
use Rattle.ncq_engine.proofs.Lists.{flat_map_append}

pub pairwise_push : {A B : Type 0} (R : A → B → Type 0) (xs : List A) (ys : List B) (x : A) (y : B) → Pairwise R xs ys → R x y → Pairwise R (xs ++ x ∷ []) (ys ++ y ∷ [])
pairwise_push R [] [] x y h r = (r, tt)
pairwise_push R [] (b ∷ ys) x y h r = absurd h
pairwise_push R (a ∷ xs) [] x y h r = absurd h
pairwise_push R (a ∷ xs) (b ∷ ys) x y h r = (h.0, pairwise_push R xs ys x y h.1 r)

-- the spans of texts with one text behind them
pub spans_push : {A : Type 0} (name text : A → List ℕ) (from : ℕ) (xs : List A) (x : A) → spans_of name text from (xs ++ x ∷ []) ≡ spans_of name text from xs ++ span_of (name x) (from + length (flat_map text xs)) (text x)
spans_push name text from [] x = append-nil (span_of (name x) from (text x)) ∙ ap (λ at. span_of (name x) at (text x)) (let e : from ≡ from + 0 = omega arith in e)
spans_push name text from (y ∷ xs) x =
    let here = from + length (text y) in
    let there : here + length (flat_map text xs) ≡ from + length (text y ++ flat_map text xs) = omega (arith, length-append (text y) (flat_map text xs)) in
    ap (λ more. span_of (name y) from (text y) ++ more) (spans_push name text here xs x ∙ ap (λ at. spans_of name text here xs ++ span_of (name x) at (text x)) there)
    ∙ sym (append_assoc (span_of (name y) from (text y)) (spans_of name text here xs) (span_of (name x) (from + length (text y ++ flat_map text xs)) (text x)))

-- the spans of texts with others behind them
pub spans_append : {A : Type 0} (name text : A → List ℕ) (from : ℕ) (xs ys : List A) → spans_of name text from (xs ++ ys) ≡ spans_of name text from xs ++ spans_of name text (from + length (flat_map text xs)) ys
spans_append name text from [] ys = ap (λ at. spans_of name text at ys) (let e : from ≡ from + 0 = omega arith in e)
spans_append name text from (x ∷ xs) ys =
    let here = from + length (text x) in
    let there : here + length (flat_map text xs) ≡ from + length (text x ++ flat_map text xs) = omega (arith, length-append (text x) (flat_map text xs)) in
    ap (λ more. span_of (name x) from (text x) ++ more) (spans_append name text here xs ys ∙ ap (λ at. spans_of name text here xs ++ spans_of name text at ys) there)
    ∙ sym (append_assoc (span_of (name x) from (text x)) (spans_of name text here xs) (spans_of name text (from + length (text x ++ flat_map text xs)) ys))

-- what is made of items, with what is made of some more
module _ {A : Type 0} (before more after : List A) (all : after ≡ before ++ more) where
  pub texts_onto : (f : A → List ℕ) (first out out' : List ℕ) → out ≡ first ++ flat_map f before → out' ≡ out ++ flat_map f more → out' ≡ first ++ flat_map f after
  texts_onto f first out out' was new =
      new ∙ ap (λ l. l ++ flat_map f more) was ∙ append_assoc first (flat_map f before) (flat_map f more)
      ∙ ap (λ l. first ++ l) (sym (flat_map_append f before more) ∙ ap (flat_map f) (sym all))

  pub spans_onto : (name text : A → List ℕ) (from here : ℕ) (old new : List Span) → old ≡ spans_of name text from before → here ≡ from + length (flat_map text before)
      → new ≡ old ++ spans_of name text here more → new ≡ spans_of name text from after
  spans_onto name text from here old new was stands is =
      is ∙ (λ i. was i ++ spans_of name text (stands i) more) ∙ sym (spans_append name text from before more) ∙ ap (spans_of name text from) (sym all)

-- what is made of each of the items before a place, with what is made of one more
pub made_more : {A B : Type 0} (f : A → List B) (xs : List A) (at : ℕ) (d : A) → at < length xs → flat_map f (take (at + 1) xs) ≡ flat_map f (take at xs) ++ f (get_or xs at d)
made_more f xs at d here =
    ap (flat_map f) (take_more xs at d here) ∙ flat_map_append f (take at xs) (get_or xs at d ∷ []) ∙ ap (λ l. flat_map f (take at xs) ++ l) (append-nil (f (get_or xs at d)))

-- what is made of the items before a place, with one more
module _ {A : Type 0} (xs : List A) (at : ℕ) (item : A) (one : take (at + 1) xs ≡ take at xs ++ item ∷ []) where
  pub text_on : {B : Type 0} (f : A → List B) (first out out' : List B) → out ≡ first ++ flat_map f (take at xs) → out' ≡ out ++ f item → out' ≡ first ++ flat_map f (take (at + 1) xs)
  text_on f first out out' was more =
      more ∙ ap (λ l. l ++ f item) was ∙ append_assoc first (flat_map f (take at xs)) (f item)
      ∙ ap (λ l. first ++ l) (ap (λ l. flat_map f (take at xs) ++ l) (sym (append-nil (f item))) ∙ sym (flat_map_append f (take at xs) (item ∷ [])) ∙ ap (flat_map f) (sym one))

  pub spans_on : (name text : A → List ℕ) (from here : ℕ) (old new : List Span) → old ≡ spans_of name text from (take at xs) → here ≡ from + length (flat_map text (take at xs))
      → new ≡ old ++ span_of (name item) here (text item) → new ≡ spans_of name text from (take (at + 1) xs)
  spans_on name text from here old new was stands more =
      more ∙ (λ i. was i ++ span_of (name item) (stands i) (text item)) ∙ sym (spans_push name text from (take at xs) item) ∙ ap (spans_of name text from) (sym one)

  pub made_on : {B C : Type 0} (f : A → C) (g : B → C) (ys : List B) (y : B) → map g ys ≡ map f (take at xs) → g y ≡ f item → map g (ys ++ y ∷ []) ≡ map f (take (at + 1) xs)
  made_on f g ys y was same = map_push g ys y ∙ (λ i. was i ++ same i ∷ []) ∙ sym (map_push f (take at xs) item) ∙ ap (map f) (sym one)
    where
      map_push : {A B : Type 0} (f : A → B) (xs : List A) (x : A) → map f (xs ++ x ∷ []) ≡ map f xs ++ f x ∷ []
      map_push f [] x = refl
      map_push f (z ∷ xs) x = ap (λ more. f z ∷ more) (map_push f xs x)

-- what holds of each holds of the one that is found
pub found_has : (P : Kept → Type 0) (install : ℕ) (ms : List Kept) (m : Kept) → AllByRecursion P ms → subscription_of install ms ≡ Some m → P m
found_has P install [] m h e = absurd cc
found_has P install (x ∷ ms) m h e =
    elim (is_of install x) as (λ t. cond t (Some x) (subscription_of install ms) ≡ Some m → P m) [
      | true ↦ λ q. (let same : x ≡ m = cc in subst P same h.0)
      | false ↦ λ q. found_has P install ms m h.1 q
    ] e

-- the text of a firing whose subscription is found
pub text_found : (handed : Handed) (store : StoreState) (files : Files) (distinct : DistinctTable) (subscriptions : List Kept) (firing : Firing) (m : Kept) → Some m ≡ subscription_of firing.install subscriptions
    → notice_text handed store files distinct m firing.instant ≡ firing_text handed store files distinct subscriptions firing
text_found handed store files distinct subscriptions firing m e = ap (text_of handed store files distinct firing.instant) e

-- and its name
pub name_found : (subscriptions : List Kept) (firing : Firing) (m : Kept) → Some m ≡ subscription_of firing.install subscriptions → m.name ≡ firing_name subscriptions firing
name_found subscriptions firing m e = ap name_of e

-- what holds of each holds at each place
pub each_here : {A : Type 0} (P : A → Type 0) (xs : List A) (at : ℕ) (d : A) → at < length xs → AllByRecursion P xs → P (get_or xs at d)
each_here P [] at d less h = absurd (let n : ⊥ = omega (arith, less) in n)
each_here P (x ∷ xs) zero d less h = h.0
each_here P (x ∷ xs) (suc at) d less h = each_here P xs at d (let l : at < length xs = omega (arith, less) in l) h.1

-- a subscription that is there is found
pub not_missing : (o : Option (Bor Kept)) (p : Option Kept) → option_copied o ≡ p → o ≡ None → IsSome p → ⊥
not_missing o p e none some = true≢false (sym some ∙ ap is_some (sym e ∙ ap option_copied none))

pub found_as : (o : Option (Bor Kept)) (p : Option Kept) (m : Bor Kept) → option_copied o ≡ p → o ≡ Some m → p ≡ Some m.now
found_as o p m e is = sym e ∙ ap option_copied is

-- what one that is there and has started is told, and where that stands
module _ (handed : Handed) (store : StoreState) (distinct : DistinctTable) (live_table : LiveState) (install : ℕ) (m : Kept) (found : subscription_of install live_table.subscriptions ≡ Some m)
    (started : has_started live_table.instant (subscription_of install live_table.subscriptions) ≡ true) where
  starts : started_at live_table.instant live_table.subscriptions install ≡ record { instant = live_table.instant; install = install } ∷ []
  starts = λ i. if started i then record { instant = live_table.instant; install = install } ∷ [] else []

  pub text_started : firings_text handed store distinct live_table (started_at live_table.instant live_table.subscriptions install) ≡ notice_text handed store live_table.table.files distinct m live_table.instant
  text_started =
      ap (firings_text handed store distinct live_table) starts ∙ append-nil (text_of handed store live_table.table.files distinct live_table.instant (subscription_of install live_table.subscriptions))
      ∙ ap (text_of handed store live_table.table.files distinct live_table.instant) found

  pub spans_started : (from : ℕ) → firings_spans handed store distinct live_table from (started_at live_table.instant live_table.subscriptions install) ≡ span_of m.name from (notice_text handed store live_table.table.files distinct m live_table.instant)
  spans_started from =
      ap (firings_spans handed store distinct live_table from) starts
      ∙ append-nil (span_of (name_of (subscription_of install live_table.subscriptions)) from (text_of handed store live_table.table.files distinct live_table.instant (subscription_of install live_table.subscriptions)))
      ∙ (λ i. span_of (name_of (found i)) from (text_of handed store live_table.table.files distinct live_table.instant (found i)))

  -- with DISTINCT what its rows tell waits too
  pub waits_started : (old new : DistinctTable) → AwaitsNews handed.relations store live_table.table.files m old new → AwaitMore handed.relations store live_table (started_at live_table.instant live_table.subscriptions install) old new
  waits_started old new told =
      subst (λ (fs : List Firing). AwaitMore handed.relations store live_table fs old new) (sym starts) (more_one handed.relations store live_table (record { instant = live_table.instant; install = install }) m found old new told)

-- what grew, with what a call on the table added
pub grows_on : (relations : Relations) (table called : TableState) → called ≡ table → (old mid new : List Cached) → Grows relations table old mid → Grows relations called mid new → Grows relations table old new
grows_on relations table called is old mid new first second = grows_more relations table old mid new first (subst (λ (t : TableState). Grows relations t mid new) is second)
