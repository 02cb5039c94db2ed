-- The signed rows of an expression lead from its rows before to its rows after.
use Rattle.std.proofs.Common.{◌≡◌, ℕ, ◌+◌, Bool, true, false, cond, List, [], ◌∷◌, ◌++◌, map, refl, sym, ◌∙◌, ap, arith, add_assoc, zero-add}
use Rattle.std.specs.List.{filter, flat_map}
use Rattle.ncq_base.specs.Counts.{total_by, SameCounts}
use Rattle.ncq_base.proofs.CountLaws.{total_by-append, total_by-filter}
use Rattle.ncq_row.specs.Embeddings.{Row}
use Rattle.ncq_row.specs.declared.pair.Pair.{Pair}
use Rattle.ncq_plan.specs.Meets.{agree}
use Rattle.ncq_plan.specs.Exprs.{followed_by, join_rows}
use Rattle.ncq_plan.specs.Totals.{SignedRow, plus_total, minus_total, SameChanges, LeadsTo, LeadOn, rows_after}
use Rattle.ncq_plan.specs.Deltas.{signed, selected_delta, left_delta, followed_by_changed, right_delta, join_delta}

swapped : (a b c d : ℕ) → (a + b) + (c + d) ≡ (a + c) + (b + d)
swapped a b c d = omega arith

-- f at what passes a test, 0 at the rest
abbrev pub only : (Row → Bool) → (Row → ℕ) → Row → ℕ
only test f row = cond (test row) (f row) 0

-- f of a row behind this one, where the pairs agree
abbrev pub behind : List Pair → (Row → ℕ) → Row → Row → ℕ
behind pairs f row other = cond (agree pairs row other) (f (row ++ other)) 0

module _ (f : Row → ℕ) where
  pub total-append : (xs ys : List Row) → total_by f (xs ++ ys) ≡ total_by f xs + total_by f ys
  total-append = total_by-append f

  pub plus_total-append : (xs ys : List SignedRow) → plus_total f (xs ++ ys) ≡ plus_total f xs + plus_total f ys
  plus_total-append [] ys = sym (zero-add (plus_total f ys))
  plus_total-append (x ∷ xs) ys = ap (λ n. cond x.plus (f x.row) 0 + n) (plus_total-append xs ys) ∙ sym (add_assoc (cond x.plus (f x.row) 0) (plus_total f xs) (plus_total f ys))

  pub minus_total-append : (xs ys : List SignedRow) → minus_total f (xs ++ ys) ≡ minus_total f xs + minus_total f ys
  minus_total-append [] ys = sym (zero-add (minus_total f ys))
  minus_total-append (x ∷ xs) ys = ap (λ n. cond x.plus 0 (f x.row) + n) (minus_total-append xs ys) ∙ sym (add_assoc (cond x.plus 0 (f x.row)) (minus_total f xs) (minus_total f ys))

  -- selections

  pub total-filter : (test : Row → Bool) (rows : List Row) → total_by f (filter test rows) ≡ total_by (only test f) rows
  total-filter = total_by-filter f

  pub plus_total-selected : (test : Row → Bool) (delta : List SignedRow) → plus_total f (selected_delta test delta) ≡ plus_total (only test f) delta
  plus_total-selected test [] = refl
  plus_total-selected test (c ∷ delta) =
      elim (test c.row) as (λ t. plus_total f (cond t (c ∷ selected_delta test delta) (selected_delta test delta)) ≡ cond c.plus (cond t (f c.row) 0) 0 + plus_total (only test f) delta) [
        | true ↦ ap (λ n. cond c.plus (f c.row) 0 + n) (plus_total-selected test delta)
        | false ↦ plus_total-selected test delta ∙ elim c.plus as (λ p. plus_total (only test f) delta ≡ cond p 0 0 + plus_total (only test f) delta) [
          | true ↦ sym (zero-add (plus_total (only test f) delta))
          | false ↦ sym (zero-add (plus_total (only test f) delta))
        ]
      ]

  pub minus_total-selected : (test : Row → Bool) (delta : List SignedRow) → minus_total f (selected_delta test delta) ≡ minus_total (only test f) delta
  minus_total-selected test [] = refl
  minus_total-selected test (c ∷ delta) =
      elim (test c.row) as (λ t. minus_total f (cond t (c ∷ selected_delta test delta) (selected_delta test delta)) ≡ cond c.plus 0 (cond t (f c.row) 0) + minus_total (only test f) delta) [
        | true ↦ ap (λ n. cond c.plus 0 (f c.row) + n) (minus_total-selected test delta)
        | false ↦ minus_total-selected test delta ∙ elim c.plus as (λ p. minus_total (only test f) delta ≡ cond p 0 0 + minus_total (only test f) delta) [
          | true ↦ sym (zero-add (minus_total (only test f) delta))
          | false ↦ sym (zero-add (minus_total (only test f) delta))
        ]
      ]

  -- joins: the sum over a join is a sum of sums

  module _ (pairs : List Pair) where
    pub total-followed_by : (row : Row) (right : List Row) → total_by f (followed_by pairs right row) ≡ total_by (behind pairs f row) right
    total-followed_by row [] = refl
    total-followed_by row (other ∷ right) =
        elim (agree pairs row other) as (λ t. total_by f (map (λ o. row ++ o) (cond t (other ∷ filter (agree pairs row) right) (filter (agree pairs row) right))) ≡ cond t (f (row ++ other)) 0 + total_by (behind pairs f row) right) [
          | true ↦ ap (λ n. f (row ++ other) + n) (total-followed_by row right)
          | false ↦ total-followed_by row right ∙ sym (zero-add (total_by (behind pairs f row) right))
        ]

    pub total-join : (left right : List Row) → total_by f (join_rows pairs left right) ≡ total_by (λ row. total_by (behind pairs f row) right) left
    total-join [] right = refl
    total-join (row ∷ left) right =
        total-append (followed_by pairs right row) (join_rows pairs left right)
        ∙ (λ i. total-followed_by row right i + total-join left right i)

    plus_total-followed : (row : Row) (delta : List SignedRow) → plus_total f (followed_by_changed pairs delta row) ≡ plus_total (behind pairs f row) delta
    plus_total-followed row [] = refl
    plus_total-followed row (c ∷ delta) =
        elim (agree pairs row c.row) as (λ t. plus_total f (map (λ change. record { plus = change.plus; row = row ++ change.row }) (cond t (c ∷ filter (λ change. agree pairs row change.row) delta) (filter (λ change. agree pairs row change.row) delta))) ≡ cond c.plus (cond t (f (row ++ c.row)) 0) 0 + plus_total (behind pairs f row) delta) [
          | true ↦ ap (λ n. cond c.plus (f (row ++ c.row)) 0 + n) (plus_total-followed row delta)
          | false ↦ plus_total-followed row delta ∙ elim c.plus as (λ p. plus_total (behind pairs f row) delta ≡ cond p 0 0 + plus_total (behind pairs f row) delta) [
            | true ↦ sym (zero-add (plus_total (behind pairs f row) delta))
            | false ↦ sym (zero-add (plus_total (behind pairs f row) delta))
          ]
        ]

    minus_total-followed : (row : Row) (delta : List SignedRow) → minus_total f (followed_by_changed pairs delta row) ≡ minus_total (behind pairs f row) delta
    minus_total-followed row [] = refl
    minus_total-followed row (c ∷ delta) =
        elim (agree pairs row c.row) as (λ t. minus_total f (map (λ change. record { plus = change.plus; row = row ++ change.row }) (cond t (c ∷ filter (λ change. agree pairs row change.row) delta) (filter (λ change. agree pairs row change.row) delta))) ≡ cond c.plus 0 (cond t (f (row ++ c.row)) 0) + minus_total (behind pairs f row) delta) [
          | true ↦ ap (λ n. cond c.plus 0 (f (row ++ c.row)) + n) (minus_total-followed row delta)
          | false ↦ minus_total-followed row delta ∙ elim c.plus as (λ p. minus_total (behind pairs f row) delta ≡ cond p 0 0 + minus_total (behind pairs f row) delta) [
            | true ↦ sym (zero-add (minus_total (behind pairs f row) delta))
            | false ↦ sym (zero-add (minus_total (behind pairs f row) delta))
          ]
        ]

    pub plus_total-right : (left : List Row) (delta : List SignedRow) → plus_total f (right_delta pairs left delta) ≡ total_by (λ row. plus_total (behind pairs f row) delta) left
    plus_total-right [] delta = refl
    plus_total-right (row ∷ left) delta =
        plus_total-append (followed_by_changed pairs delta row) (right_delta pairs left delta)
        ∙ (λ i. plus_total-followed row delta i + plus_total-right left delta i)

    pub minus_total-right : (left : List Row) (delta : List SignedRow) → minus_total f (right_delta pairs left delta) ≡ total_by (λ row. minus_total (behind pairs f row) delta) left
    minus_total-right [] delta = refl
    minus_total-right (row ∷ left) delta =
        minus_total-append (followed_by_changed pairs delta row) (right_delta pairs left delta)
        ∙ (λ i. minus_total-followed row delta i + minus_total-right left delta i)

  pub plus_total-signed : (plus : Bool) (rows : List Row) → plus_total f (signed plus rows) ≡ cond plus (total_by f rows) 0
  plus_total-signed true [] = refl
  plus_total-signed false [] = refl
  plus_total-signed true (row ∷ rows) = ap (λ n. f row + n) (plus_total-signed true rows)
  plus_total-signed false (row ∷ rows) = zero-add (plus_total f (signed false rows)) ∙ plus_total-signed false rows

  pub minus_total-signed : (plus : Bool) (rows : List Row) → minus_total f (signed plus rows) ≡ cond plus 0 (total_by f rows)
  minus_total-signed true [] = refl
  minus_total-signed false [] = refl
  minus_total-signed true (row ∷ rows) = zero-add (minus_total f (signed true rows)) ∙ minus_total-signed true rows
  minus_total-signed false (row ∷ rows) = ap (λ n. f row + n) (minus_total-signed false rows)

  module _ (pairs : List Pair) where
    pub plus_total-left : (delta : List SignedRow) (right : List Row) → plus_total f (left_delta pairs delta right) ≡ plus_total (λ row. total_by (behind pairs f row) right) delta
    plus_total-left [] right = refl
    plus_total-left (c ∷ delta) right =
        plus_total-append (signed c.plus (followed_by pairs right c.row)) (left_delta pairs delta right)
        ∙ (λ i. plus_total-signed c.plus (followed_by pairs right c.row) i + plus_total-left delta right i)
        ∙ (λ i. cond c.plus (total-followed_by pairs c.row right i) 0 + plus_total (λ row. total_by (behind pairs f row) right) delta)

    pub minus_total-left : (delta : List SignedRow) (right : List Row) → minus_total f (left_delta pairs delta right) ≡ minus_total (λ row. total_by (behind pairs f row) right) delta
    minus_total-left [] right = refl
    minus_total-left (c ∷ delta) right =
        minus_total-append (signed c.plus (followed_by pairs right c.row)) (left_delta pairs delta right)
        ∙ (λ i. minus_total-signed c.plus (followed_by pairs right c.row) i + minus_total-left delta right i)
        ∙ (λ i. cond c.plus 0 (total-followed_by pairs c.row right i) + minus_total (λ row. total_by (behind pairs f row) right) delta)

    -- a join's changes, by sums of sums
    pub plus_total-join : (left : List SignedRow) (before after : List Row) (right : List SignedRow)
        → plus_total f (join_delta pairs left before after right) ≡ plus_total (λ row. total_by (behind pairs f row) before) left + total_by (λ row. plus_total (behind pairs f row) right) after
    plus_total-join left before after right =
        plus_total-append (left_delta pairs left before) (right_delta pairs after right) ∙ (λ i. plus_total-left left before i + plus_total-right pairs after right i)

    pub minus_total-join : (left : List SignedRow) (before after : List Row) (right : List SignedRow)
        → minus_total f (join_delta pairs left before after right) ≡ minus_total (λ row. total_by (behind pairs f row) before) left + total_by (λ row. minus_total (behind pairs f row) right) after
    minus_total-join left before after right =
        minus_total-append (left_delta pairs left before) (right_delta pairs after right) ∙ (λ i. minus_total-left left before i + minus_total-right pairs after right i)

-- where the sum of two functions is that of two others at each row, so it is over rows
pub total_sums : (f g h k : Row → ℕ) → ((row : Row) → f row + g row ≡ h row + k row) → (rows : List Row) → total_by f rows + total_by g rows ≡ total_by h rows + total_by k rows
total_sums f g h k e [] = refl
total_sums f g h k e (row ∷ rows) =
    let one = e row in
    let rest = total_sums f g h k e rows in
    swapped (f row) (total_by f rows) (g row) (total_by g rows) ∙ (λ i. one i + rest i) ∙ swapped (h row) (k row) (total_by h rows) (total_by k rows)

-- selections and joins lead where their inputs do

pub select_leads : (test : Row → Bool) (before after : List Row) (delta : List SignedRow) → LeadsTo before delta after → LeadsTo (filter test before) (selected_delta test delta) (filter test after)
select_leads test before after delta leads f =
    (λ i. total-filter f test after i + minus_total-selected f test delta i)
    ∙ leads (only test f)
    ∙ (λ i. sym (total-filter f test before) i + sym (plus_total-selected f test delta) i)

sums_up : (after_after after_before before_before l_minus l_plus r_minus r_plus : ℕ)
    → after_after + r_minus ≡ after_before + r_plus → after_before + l_minus ≡ before_before + l_plus
    → after_after + (l_minus + r_minus) ≡ before_before + (l_plus + r_plus)
sums_up a b c d e g h p q = omega arith

pub join_leads : (pairs : List Pair) (left_before left_after right_before right_after : List Row) (left right : List SignedRow)
    → LeadsTo left_before left left_after → LeadsTo right_before right right_after
    → LeadsTo (join_rows pairs left_before right_before) (join_delta pairs left right_before left_after right) (join_rows pairs left_after right_after)
join_leads pairs left_before left_after right_before right_after left right leads_left leads_right f =
    (λ i. total-join f pairs left_after right_after i + minus_total-join f pairs left right_before left_after right i)
    ∙ sums_up
    (total_by (λ row. total_by (behind pairs f row) right_after) left_after)
    (total_by (λ row. total_by (behind pairs f row) right_before) left_after)
    (total_by (λ row. total_by (behind pairs f row) right_before) left_before)
    (minus_total (λ row. total_by (behind pairs f row) right_before) left)
    (plus_total (λ row. total_by (behind pairs f row) right_before) left)
    (total_by (λ row. minus_total (behind pairs f row) right) left_after)
    (total_by (λ row. plus_total (behind pairs f row) right) left_after)
    (total_sums (λ row. total_by (behind pairs f row) right_after) (λ row. minus_total (behind pairs f row) right)
    (λ row. total_by (behind pairs f row) right_before) (λ row. plus_total (behind pairs f row) right) (λ row. leads_right (behind pairs f row)) left_after)
    (leads_left (λ row. total_by (behind pairs f row) right_before))
    ∙ (λ i. sym (total-join f pairs left_before right_before) i + sym (plus_total-join f pairs left right_before left_after right) i)

-- signed rows behind others

pub leads_nowhere : (rows : List Row) → LeadsTo rows [] rows
leads_nowhere rows f = refl

-- rows that come lead from nothing to themselves
pub leads_from_nothing : (rows : List Row) → LeadsTo [] (signed true rows) rows
leads_from_nothing rows f =
    let m = minus_total-signed f true rows in
    let p = plus_total-signed f true rows in
    omega arith

pub leads_on : (first second third : List Row) (one other : List SignedRow) → LeadsTo first one second → LeadsTo second other third → LeadsTo first (one ++ other) third
leads_on first second third one other p q f =
    let a = p f in
    let b = q f in
    let m = minus_total-append f one other in
    let n = plus_total-append f one other in
    omega arith

pub changes_add_up : (before : List Row) (changes : List (List SignedRow × List Row)) → LeadOn before changes
    → LeadsTo before (flat_map (λ change. change.0) changes) (rows_after before changes)
changes_add_up before [] leads = leads_nowhere before
changes_add_up before (change ∷ changes) leads = leads_on before change.1 (rows_after change.1 changes) change.0 (flat_map (λ change. change.0) changes) leads.0 (changes_add_up change.1 changes leads.1)

-- rows of the same counts, and changes of the same counts, serve for one another

pub select_same : (test : Row → Bool) (rows others : List Row) → SameCounts rows others → SameCounts (filter test rows) (filter test others)
select_same test rows others same f = total-filter f test rows ∙ same (only test f) ∙ sym (total-filter f test others)

pub selected_same : (test : Row → Bool) (delta other : List SignedRow) → SameChanges delta other → SameChanges (selected_delta test delta) (selected_delta test other)
selected_same test delta other same = record {
  plus = λ f. plus_total-selected f test delta ∙ same.plus (only test f) ∙ sym (plus_total-selected f test other);
  minus = λ f. minus_total-selected f test delta ∙ same.minus (only test f) ∙ sym (minus_total-selected f test other);
}

pub total_alike : (f g : Row → ℕ) → ((row : Row) → f row ≡ g row) → (rows : List Row) → total_by f rows ≡ total_by g rows
total_alike f g e rows = λ i. total_by (λ row. e row i) rows

pub join_same : (pairs : List Pair) (left left' right right' : List Row) → SameCounts left left' → SameCounts right right' → SameCounts (join_rows pairs left right) (join_rows pairs left' right')
join_same pairs left left' right right' l r f =
    total-join f pairs left right
    ∙ total_alike (λ row. total_by (behind pairs f row) right) (λ row. total_by (behind pairs f row) right') (λ row. r (behind pairs f row)) left
    ∙ l (λ row. total_by (behind pairs f row) right')
    ∙ sym (total-join f pairs left' right')

pub join_delta_same : (pairs : List Pair) (left left' : List SignedRow) (before before' after after' : List Row) (right right' : List SignedRow)
    → SameChanges left left' → SameCounts before before' → SameCounts after after' → SameChanges right right'
    → SameChanges (join_delta pairs left before after right) (join_delta pairs left' before' after' right')
join_delta_same pairs left left' before before' after after' right right' l b a r = record {
  plus = λ f.
      plus_total-join f pairs left before after right
      ∙ (λ i. plus_total (λ row. b (behind pairs f row) i) left + total_by (λ row. r.plus (behind pairs f row) i) after)
      ∙ (λ i. l.plus (λ row. total_by (behind pairs f row) before') i + a (λ row. plus_total (behind pairs f row) right') i)
      ∙ sym (plus_total-join f pairs left' before' after' right');
  minus = λ f.
      minus_total-join f pairs left before after right
      ∙ (λ i. minus_total (λ row. b (behind pairs f row) i) left + total_by (λ row. r.minus (behind pairs f row) i) after)
      ∙ (λ i. l.minus (λ row. total_by (behind pairs f row) before') i + a (λ row. minus_total (behind pairs f row) right') i)
      ∙ sym (minus_total-join f pairs left' before' after' right');
}

-- what leads somewhere leads there also by rows and changes of the same counts
pub leads_same : (before before' after after' : List Row) (delta delta' : List SignedRow)
    → SameCounts before before' → SameChanges delta delta' → SameCounts after after' → LeadsTo before delta after → LeadsTo before' delta' after'
leads_same before before' after after' delta delta' b d a leads f =
    (λ i. sym (a f) i + sym (d.minus f) i) ∙ leads f ∙ (λ i. b f i + d.plus f i)
