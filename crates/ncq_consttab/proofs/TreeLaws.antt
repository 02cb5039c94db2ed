-- What trees hold when an entry comes in or goes out, and what a span rules out.
use Rattle.std.proofs.Common.{◌≡◌, ℕ, ◌+◌, ◌≤◌, Bool, true, false, cond, ◌&&◌, ◌||◌, nat_eq, map, filter, List, [], ◌∷◌, ◌++◌, refl, sym, ◌∙◌, ap, arith, true≢false}
use Rattle.std.specs.List.{list_any}
use Rattle.std.proofs.lemmas.Bool.{eqb-true, eq-eqb}
use Rattle.ncq_base.specs.Counts.{total_by, SameCounts}
use Rattle.ncq_base.specs.Intervals.{in_interval}
use Rattle.ncq_base.specs.Keys.{times}
use Rattle.ncq_base.specs.declared.atom.Atom.{Atom}
use Rattle.ncq_base.specs.declared.atom.FileId.{FileId}
use Rattle.ncq_base.specs.declared.interval.Interval.{Interval}
use Rattle.ncq_base.specs.contracts.interval.IntervalEq.TheImpl.Laws.{laws-law}
use Rattle.ncq_base.proofs.CountLaws.{total_by-append, total_by-map, total_by-filter}
use Rattle.ncq_consttab.specs.Ranges.{is_interval, holders}
use Rattle.ncq_consttab.specs.Trees.{Spans, IsTaken, is_entry}
use Rattle.ncq_consttab.proofs.Intervals.{both, interval_is}

abbrev Entry : Type 0
Entry = Interval × FileId

-- where the span does not hold the value, no interval in it does
pub none_held : (span : Interval) (value : Atom) (entries : List Entry) → in_interval span value ≡ false → Spans span entries → holders value entries ≡ []
none_held span value [] h all = refl
none_held span value (e ∷ entries) h all =
    let rest : holders value entries ≡ [] = none_held span value entries h all.1 in
    elim (in_interval e.0 value) as (λ b. in_interval e.0 value ≡ b
    → map (λ (p : Entry). p.1) (cond b (e ∷ filter (λ (p : Entry). in_interval p.0 value) entries) (filter (λ (p : Entry). in_interval p.0 value) entries)) ≡ []) [
      | true ↦ λ t. absurd (true≢false (sym (all.0 value t) ∙ h))
      | false ↦ λ t. rest
    ] refl

-- entries that the test takes for one are one
pub entry_is : (a b : Entry) → is_entry a b ≡ true → a ≡ b
entry_is a b h =
    let e = both (is_interval a.0 b.0) (nat_eq a.1.0 b.1.0) h in
    λ i. (interval_is a.0 b.0 e.0 i, record { 0 = eqb-true a.1.0 b.1.0 e.1 i })

module _ (e x : Entry) (l r : List Entry) where
  pub put_left : (new : List Entry) → SameCounts new (e ∷ l) → SameCounts (new ++ x ∷ r) (e ∷ (l ++ x ∷ r))
  put_left new same f =
      let a = total_by-append f new (x ∷ r) in
      let b = total_by-append f l (x ∷ r) in
      let c = same f in
      omega arith

  pub put_right : (new : List Entry) → SameCounts new (e ∷ r) → SameCounts (l ++ x ∷ new) (e ∷ (l ++ x ∷ r))
  put_right new same f =
      let a = total_by-append f l (x ∷ new) in
      let b = total_by-append f l (x ∷ r) in
      let c = same f in
      omega arith

  pub taken_here : is_entry x e ≡ true → IsTaken true e (l ++ x ∷ r) (l ++ r)
  taken_here h f =
      let a = total_by-append f l (x ∷ r) in
      let b = total_by-append f l r in
      let c = ap f (entry_is x e h) in
      omega arith

  pub taken_left : (new : List Entry) → IsTaken true e l new → IsTaken true e (l ++ x ∷ r) (new ++ x ∷ r)
  taken_left new same f =
      let a = total_by-append f new (x ∷ r) in
      let b = total_by-append f l (x ∷ r) in
      let c = same f in
      omega arith

  pub taken_right : (new : List Entry) → IsTaken true e r new → IsTaken true e (l ++ x ∷ r) (l ++ x ∷ new)
  taken_right new same f =
      let a = total_by-append f l (x ∷ new) in
      let b = total_by-append f l (x ∷ r) in
      let c = same f in
      omega arith

times_append : {A : Type 0} (test : A → Bool) (xs ys : List A) → times test (xs ++ ys) ≡ times test xs + times test ys
times_append test [] ys = omega arith
times_append test (x ∷ xs) ys = let rest = times_append test xs ys in omega arith

same_both : (x : Entry) (l r new_l new_r : List Entry) → SameCounts l new_l → SameCounts r new_r → SameCounts (l ++ x ∷ r) (new_l ++ x ∷ new_r)
same_both x l r new_l new_r a b f =
    let p = total_by-append f l (x ∷ r) in
    let q = total_by-append f new_l (x ∷ new_r) in
    let c = a f in
    let d = b f in
    omega arith

none_there : (e x : Entry) (l r : List Entry) → is_entry x e ≡ false → times (λ y. is_entry y e) l ≡ 0 → times (λ y. is_entry y e) r ≡ 0 → times (λ y. is_entry y e) (l ++ x ∷ r) ≡ 0
none_there e x l r other a b =
    times_append (λ y. is_entry y e) l (x ∷ r)
    ∙ (λ i. a i + (cond (other i) 1 0 + b i))

-- the one side had it not; what the other had of it
pub taken_right_then : (b : Bool) (e x : Entry) (l r new_l new_r : List Entry) → is_entry x e ≡ false → IsTaken false e l new_l → IsTaken b e r new_r
    → IsTaken b e (l ++ x ∷ r) (new_l ++ x ∷ new_r)
taken_right_then true e x l r new_l new_r other left right = λ f.
    let a = total_by-append f l (x ∷ r) in
    let b = total_by-append f new_l (x ∷ new_r) in
    let c = left.0 f in
    let d = right f in
    omega arith
taken_right_then false e x l r new_l new_r other left right = (same_both x l r new_l new_r left.0 right.0, none_there e x l r other left.1 right.1)

pub taken_left_then : (b : Bool) (e x : Entry) (l r new_l new_r : List Entry) → is_entry x e ≡ false → IsTaken false e r new_r → IsTaken b e l new_l
    → IsTaken b e (l ++ x ∷ r) (new_l ++ x ∷ new_r)
taken_left_then true e x l r new_l new_r other right left = λ f.
    let a = total_by-append f l (x ∷ r) in
    let b = total_by-append f new_l (x ∷ new_r) in
    let c = right.0 f in
    let d = left f in
    omega arith
taken_left_then false e x l r new_l new_r other right left = (same_both x l r new_l new_r left.0 right.0, none_there e x l r other left.1 right.1)

entry_itself : (e : Entry) → is_entry e e ≡ true
entry_itself e = (λ i. laws-law.refl e.0 i && nat_eq e.1.0 e.1.0) ∙ eq-eqb e.1.0 e.1.0 refl

times_total : {A : Type 0} (test : A → Bool) (xs : List A) → times test xs ≡ total_by (λ x. cond (test x) 1 0) xs
times_total test [] = refl
times_total test (x ∷ xs) = ap (λ n. cond (test x) 1 0 + n) (times_total test xs)

-- an entry weighs 1, and all others 0
abbrev one_of : Entry → Entry → ℕ
one_of e y = cond (is_entry y e) 1 0

-- an entry that stands in a list is taken out of a tree that has the same entries
pub left_same : (b : Bool) (e : Entry) (tree rest old new : List Entry) → IsTaken b e tree rest → SameCounts tree old → SameCounts old (e ∷ new) → SameCounts rest new
left_same true e tree rest old new taken same gone = λ f.
    let a = taken f in
    let b = same f in
    let c = gone f in
    omega arith
left_same false e tree rest old new taken same gone =
    absurd (never (times (λ y. is_entry y e) tree) (total_by (one_of e) tree) (total_by (one_of e) old) (total_by (one_of e) new) (one_of e e)
    (times_total (λ y. is_entry y e) tree) taken.1 (same (one_of e)) (gone (one_of e)) (ap (λ t. cond t 1 0) (entry_itself e)))
  where
    never : (n a b c d : ℕ) → n ≡ a → n ≡ 0 → a ≡ b → b ≡ d + c → d ≡ 1 → ⊥
    never n a b c d p q r s t = omega arith

-- lists with the same entries have the same holders of a value
pub same_holders : (value : Atom) (xs ys : List Entry) → SameCounts xs ys → SameCounts (holders value xs) (holders value ys)
same_holders value xs ys same f = held xs ∙ same (λ p. cond (in_interval p.0 value) (f p.1) 0) ∙ sym (held ys)
  where
    held : (es : List Entry) → total_by f (holders value es) ≡ total_by (λ (p : Entry). cond (in_interval p.0 value) (f p.1) 0) es
    held es = total_by-map f (λ (p : Entry). p.1) (filter (λ (p : Entry). in_interval p.0 value) es) ∙ total_by-filter (λ (p : Entry). f p.1) (λ (p : Entry). in_interval p.0 value) es

-- a tree and a list that get the same entry
pub same_put : (e : Entry) (tree new_tree old new : List Entry) → SameCounts new_tree (e ∷ tree) → SameCounts tree old → new ≡ old ++ e ∷ [] → SameCounts new_tree new
same_put e tree new_tree old new put same is = λ f.
    let a = put f in
    let b = same f in
    let c = total_by-append f old (e ∷ []) in
    let d = ap (total_by f) is in
    omega arith

-- whether some interval holds the value

or_append : (value : Atom) (xs ys : List Entry) → list_any (λ e. in_interval e.0 value) (xs ++ ys) ≡ (list_any (λ e. in_interval e.0 value) xs || list_any (λ e. in_interval e.0 value) ys)
or_append value [] ys = refl
or_append value (x ∷ xs) ys = ap (λ b. in_interval x.0 value || b) (or_append value xs ys) ∙ assoc (in_interval x.0 value) (list_any (λ e. in_interval e.0 value) xs) (list_any (λ e. in_interval e.0 value) ys)
  where
    assoc : (a b c : Bool) → (a || (b || c)) ≡ ((a || b) || c)
    assoc true b c = refl
    assoc false b c = refl

-- of a fork: its own interval, or one on the left, or one on the right
pub fork_holds : (value : Atom) (left : List Entry) (entry : Entry) (right : List Entry)
    → (in_interval entry.0 value || (list_any (λ e. in_interval e.0 value) left || list_any (λ e. in_interval e.0 value) right)) ≡ list_any (λ e. in_interval e.0 value) (left ++ entry ∷ right)
fork_holds value left entry right = turned (in_interval entry.0 value) (list_any (λ e. in_interval e.0 value) left) (list_any (λ e. in_interval e.0 value) right) ∙ sym (or_append value left (entry ∷ right))
  where
    turned : (a b c : Bool) → (a || (b || c)) ≡ (b || (a || c))
    turned true true c = refl
    turned true false c = refl
    turned false b c = refl

-- where the span does not hold it, none does
pub span_holds : (span : Interval) (value : Atom) (entries : List Entry) → in_interval span value ≡ false → Spans span entries → false ≡ list_any (λ e. in_interval e.0 value) entries
span_holds span value [] h all = refl
span_holds span value (e ∷ entries) h all =
    elim (in_interval e.0 value) as (λ b. in_interval e.0 value ≡ b → false ≡ (b || list_any (λ e. in_interval e.0 value) entries)) [
      | true ↦ λ t. absurd (true≢false (sym (all.0 value t) ∙ h))
      | false ↦ λ t. span_holds span value entries h all.1
    ] refl

-- the same intervals in another order hold the same
any_times : (value : Atom) (xs : List Entry) (b : Bool) → list_any (λ e. in_interval e.0 value) xs ≡ b → cond b (1 ≤ total_by (λ e. cond (in_interval e.0 value) 1 0) xs) (total_by (λ e. cond (in_interval e.0 value) 1 0) xs ≡ 0)
any_times value [] true e = absurd (true≢false (sym e))
any_times value [] false e = refl
any_times value (x ∷ xs) b e =
    elim (in_interval x.0 value) as (λ c. (c || list_any (λ e. in_interval e.0 value) xs) ≡ b → cond b (1 ≤ cond c 1 0 + total_by (λ e. cond (in_interval e.0 value) 1 0) xs) (cond c 1 0 + total_by (λ e. cond (in_interval e.0 value) 1 0) xs ≡ 0)) [
      | true ↦ λ e. by b e
      | false ↦ λ e. rest b (any_times value xs b e)
    ] e
  where
    by : (b : Bool) → true ≡ b → cond b (1 ≤ 1 + total_by (λ e. cond (in_interval e.0 value) 1 0) xs) (1 + total_by (λ e. cond (in_interval e.0 value) 1 0) xs ≡ 0)
    by true e = omega arith
    by false e = absurd (true≢false e)

    rest : (b : Bool) → cond b (1 ≤ total_by (λ e. cond (in_interval e.0 value) 1 0) xs) (total_by (λ e. cond (in_interval e.0 value) 1 0) xs ≡ 0)
        → cond b (1 ≤ 0 + total_by (λ e. cond (in_interval e.0 value) 1 0) xs) (0 + total_by (λ e. cond (in_interval e.0 value) 1 0) xs ≡ 0)
    rest true h = omega arith
    rest false h = omega arith

pub same_holds : (value : Atom) (xs ys : List Entry) → SameCounts xs ys → list_any (λ e. in_interval e.0 value) xs ≡ list_any (λ e. in_interval e.0 value) ys
same_holds value xs ys same = by (list_any (λ e. in_interval e.0 value) xs) (list_any (λ e. in_interval e.0 value) ys) refl refl
  where
    by : (a b : Bool) → list_any (λ e. in_interval e.0 value) xs ≡ a → list_any (λ e. in_interval e.0 value) ys ≡ b → list_any (λ e. in_interval e.0 value) xs ≡ list_any (λ e. in_interval e.0 value) ys
    by true true p q = p ∙ sym q
    by false false p q = p ∙ sym q
    by true false p q = let s = same (λ e. cond (in_interval e.0 value) 1 0) in let m = any_times value xs true p in let n = any_times value ys false q in absurd (omega (arith, s, m, n))
    by false true p q = let s = same (λ e. cond (in_interval e.0 value) 1 0) in let m = any_times value xs false p in let n = any_times value ys true q in absurd (omega (arith, s, m, n))

pub any_keys : (value : Atom) (xs : List Entry) → list_any (λ e. in_interval e.0 value) xs ≡ list_any (λ i. in_interval i value) (map (λ e. e.0) xs)
any_keys value [] = refl
any_keys value (x ∷ xs) = ap (λ b. in_interval x.0 value || b) (any_keys value xs)
