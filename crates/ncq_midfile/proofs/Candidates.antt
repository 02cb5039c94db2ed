-- What is left where pairs are struck out of the rows with numbers up to their bounds, and of no other.
use Rattle.std.proofs.Common.{◌≡◌, ℕ, zero, suc, ◌+◌, ◌<◌, ◌≤◌, inl, inr, Bool, true, false, cond, not, List, [], ◌∷◌, filter, length, get_or, slice_get, Option, Some, None, nat_le, nat_lt, zero-add, refl, sym, ◌∙◌, ap, subst, arith}
use Rattle.std.specs.Borrow.{Bor}
use Rattle.std.specs.List.{All, cons_option, range_with_len}
use Rattle.std.proofs.lemmas.List.Elements.{All-from_recursion}
use Rattle.std.proofs.lemmas.Bool.{le-leb, le-ltb, lt-leb, leb-true, leb-false}
use Rattle.ncq_base.specs.Counts.{total_by}
use Rattle.ncq_base.specs.Keys.{times, weight}
use Rattle.ncq_base.proofs.CountLaws.{total_by-congr, total_by-filter, total_by-map, total_by-zero}
use Rattle.ncq_midfile.specs.Content.{Row, gains, losses, signed_at, up_to, since, IsPart}
use Rattle.ncq_midfile.specs.Folds.{AreBoundBy, AreBoundTo, IsFolded, IsLeftOneWay, is_candidate}
use Rattle.ncq_midfile.specs.LossCounts.{is_row, loss_count, early_count, AreUnstruck, IsStruck}
use Rattle.ncq_midfile.specs.Matching.{passes}
use Rattle.ncq_midfile.specs.Views.{of_rows}
use Rattle.ncq_midfile.specs.declared.signed.SignedRow.{SignedRow}
use Rattle.ncq_midfile.proofs.Foldeds.{AreDealt, AreUnpaired, all_places, are_unpaired, part_total}
use Rattle.ncq_midfile.proofs.Matches.{with_key}
use Rattle.ncq_midfile.proofs.Parts.{part_all, part_through, range_below}
use Rattle.ncq_midfile.proofs.Sounds.{gains_total, losses_total, in_one, out_one}
use Rattle.ncq_midfile.proofs.Strikes.{dealt_all, row_is, times_total}
use Rattle.ncq_midfile.proofs.ViewLaws.{gains_of, losses_of}
use Rattle.ncq_midfile.proofs.Wide.{all_filtered}

same_row : (x y : SignedRow) → ◌≡◌ {A = Option SignedRow} (Some x) (Some y) → x ≡ y
same_row x y e = cc

none_there : (r : SignedRow) → ◌≡◌ {A = Option SignedRow} None (Some r) → ⊥
none_there r e = cc

-- the bound at the place of a row that passes the test is at most m
bound_by : (test : Row → Bool) (m : ℕ) (rows : List SignedRow) (bounds : List ℕ) → AreBoundBy test m rows bounds
    → (place : ℕ) (r : SignedRow) → slice_get rows place ≡ Some r → test r.row ≡ true → get_or bounds place 0 ≤ m
bound_by test m [] bounds bound place r at t = absurd (none_there r at)
bound_by test m (x ∷ rows) [] bound place r at t = absurd bound
bound_by test m (x ∷ rows) (b ∷ bounds) bound zero r at t = bound.0 (ap (λ (s : SignedRow). test s.row) (same_row x r at) ∙ t)
bound_by test m (x ∷ rows) (b ∷ bounds) bound (suc place) r at t = bound_by test m rows bounds bound.1 place r at t

-- and that of each row equal to the one is m
bound_to : (row : Row) (m : ℕ) (rows : List SignedRow) (bounds : List ℕ) → AreBoundTo row m rows bounds
    → (place : ℕ) (r : SignedRow) → slice_get rows place ≡ Some r → r.row ≡ row → get_or bounds place 0 ≡ m
bound_to row m [] bounds bound place r at t = absurd (none_there r at)
bound_to row m (x ∷ rows) [] bound place r at t = absurd bound
bound_to row m (x ∷ rows) (b ∷ bounds) bound zero r at t = bound.0 (ap (λ (s : SignedRow). s.row) (same_row x r at) ∙ t)
bound_to row m (x ∷ rows) (b ∷ bounds) bound (suc place) r at t = bound_to row m rows bounds bound.1 place r at t

-- what the rows that came in weigh, and those that went out
gain_one : (Row → ℕ) → SignedRow → ℕ
gain_one f r = cond r.plus (f r.row) 0

loss_one : (Row → ℕ) → SignedRow → ℕ
loss_one f r = cond r.plus 0 (f r.row)

gained_total : (f : Row → ℕ) (rows : List SignedRow) → total_by f (gains rows) ≡ total_by (gain_one f) rows
unfolding gain_one
gained_total f rows = total_by-map f (λ r. r.row) (filter (λ r. r.plus) rows) ∙ total_by-filter (λ r. f r.row) (λ r. r.plus) rows

lost_total : (f : Row → ℕ) (rows : List SignedRow) → total_by f (losses rows) ≡ total_by (loss_one f) rows
unfolding loss_one
lost_total f rows =
    total_by-map f (λ r. r.row) (filter (λ r. not r.plus) rows) ∙ total_by-filter (λ r. f r.row) (λ r. not r.plus) rows
    ∙ total_by-congr (λ r. cond (not r.plus) (f r.row) 0) (λ r. cond r.plus 0 (f r.row)) (λ r. either r.plus (f r.row)) rows
  where
    either : (b : Bool) (n : ℕ) → cond (not b) n 0 ≡ cond b 0 n
    either true n = refl
    either false n = refl

-- a row that passes the test and has such a number weighs what it weighs at any number
settled_in : (low plus passed : Bool) (n : ℕ) → (passed ≡ true → low ≡ true) → cond low (cond plus (cond passed n 0) 0) 0 ≡ cond plus (cond passed n 0) 0
settled_in low plus true n h = λ i. cond (h refl i) (cond plus n 0) 0
settled_in true plus false n h = refl
settled_in false true false n h = refl
settled_in false false false n h = refl

settled_out : (low plus passed : Bool) (n : ℕ) → (passed ≡ true → low ≡ true) → cond low (cond plus 0 (cond passed n 0)) 0 ≡ cond plus 0 (cond passed n 0)
settled_out low plus true n h = λ i. cond (h refl i) (cond plus 0 n) 0
settled_out true plus false n h = refl
settled_out false true false n h = refl
settled_out false false false n h = refl

-- and one that has none weighs nothing
nothing_in : (low plus passed : Bool) (n : ℕ) → (passed ≡ true → low ≡ false) → cond low (cond plus (cond passed n 0) 0) 0 ≡ 0
nothing_in low plus true n h = λ i. cond (h refl i) (cond plus n 0) 0
nothing_in true true false n h = refl
nothing_in true false false n h = refl
nothing_in false plus false n h = refl

nothing_out : (low plus passed : Bool) (n : ℕ) → (passed ≡ true → low ≡ false) → cond low (cond plus 0 (cond passed n 0)) 0 ≡ 0
nothing_out low plus true n h = λ i. cond (h refl i) (cond plus 0 n) 0
nothing_out true true false n h = refl
nothing_out true false false n h = refl
nothing_out false plus false n h = refl

consed_weight : (f : SignedRow → ℕ) (o : Option SignedRow) (rows : List SignedRow) → total_by f (cons_option o rows) ≡ weight f o + total_by f rows
consed_weight f None rows = sym (zero-add _)
consed_weight f (Some r) rows = refl

-- the rows at some places are those where a test passes and those where it does not
split_total : (t : ℕ → Bool) (f : SignedRow → ℕ) (rows : List SignedRow) (places : List ℕ)
    → total_by f (signed_at places rows) ≡ total_by f (signed_at (filter t places) rows) + total_by f (signed_at (filter (λ place. not (t place)) places) rows)
split_total t f rows [] = refl
split_total t f rows (p ∷ places) =
    let rest = split_total t f rows places in
    let yes = filter t places in
    let no = filter (λ place. not (t place)) places in
    let whole = consed_weight f (slice_get rows p) (signed_at places rows) in
    elim (t p) as (λ b. total_by f (signed_at (p ∷ places) rows) ≡ total_by f (signed_at (cond b (p ∷ yes) yes) rows) + total_by f (signed_at (cond (not b) (p ∷ no) no) rows)) [
      | true ↦ let one = consed_weight f (slice_get rows p) (signed_at yes rows) in omega arith
      | false ↦ let one = consed_weight f (slice_get rows p) (signed_at no rows) in omega arith
    ]

-- where two weights are the same for each row at a place where the test passes, so are those of all of them
consed_alike : (f g : SignedRow → ℕ) (o : Option SignedRow) (rows : List SignedRow) → ((r : SignedRow) → o ≡ Some r → f r ≡ g r) → total_by f rows ≡ total_by g rows → total_by f (cons_option o rows) ≡ total_by g (cons_option o rows)
consed_alike f g None rows one rest = rest
consed_alike f g (Some r) rows one rest = λ i. one r refl i + rest i

weighs_alike : (t : ℕ → Bool) (f g : SignedRow → ℕ) (rows : List SignedRow) → ((place : ℕ) (r : SignedRow) → t place ≡ true → slice_get rows place ≡ Some r → f r ≡ g r)
    → (places : List ℕ) → total_by f (signed_at (filter t places) rows) ≡ total_by g (signed_at (filter t places) rows)
weighs_alike t f g rows alike [] = refl
weighs_alike t f g rows alike (p ∷ places) =
    let yes = filter t places in
    let rest = weighs_alike t f g rows alike places in
    elim (t p) as (λ b. t p ≡ b → total_by f (signed_at (cond b (p ∷ yes) yes) rows) ≡ total_by g (signed_at (cond b (p ∷ yes) yes) rows)) [
      | true ↦ λ e. consed_alike f g (slice_get rows p) (signed_at yes rows) (λ r at. alike p r e at) rest
      | false ↦ λ e. rest
    ] refl

not_passed : (b : Bool) → not b ≡ true → b ≡ false
not_passed true e = sym e
not_passed false e = refl

module _ (rows : List SignedRow) (bounds : List ℕ) where
  abbrev late : ℕ → Bool
  late place = not (is_candidate rows bounds place)

  -- a candidate's number is at most its bound, and that of another row is above it
  early_bound : (place : ℕ) (r : SignedRow) → is_candidate rows bounds place ≡ true → slice_get rows place ≡ Some r → r.number ≤ get_or bounds place 0
  early_bound place r early at =
      leb-true r.number (get_or bounds place 0) (sym (ap (passes (λ s. nat_le s.number (get_or bounds place 0))) at) ∙ early)

  late_bound : (place : ℕ) (r : SignedRow) → late place ≡ true → slice_get rows place ≡ Some r → get_or bounds place 0 < r.number
  late_bound place r later at =
      leb-false r.number (get_or bounds place 0) (sym (ap (passes (λ s. nat_le s.number (get_or bounds place 0))) at) ∙ not_passed (is_candidate rows bounds place) later)

  -- there are rows at the places of the candidates
  pub candidates_below : All (λ place. place < length rows) (filter (is_candidate rows bounds) (range_with_len 0 (length rows)))
  candidates_below =
      let below = λ (place : ℕ). place < length rows in
      All-from_recursion below _ (all_filtered below (is_candidate rows bounds) (range_with_len 0 (length rows)) (range_below 0 (length rows) (length rows) (omega arith)))

  module _ (test : Row → Bool) (m : ℕ) (bound : AreBoundBy test m rows bounds) where
    low_by : (place : ℕ) (r : SignedRow) → is_candidate rows bounds place ≡ true → slice_get rows place ≡ Some r → test r.row ≡ true → nat_le r.number m ≡ true
    low_by place r early at t =
        let a = early_bound place r early at in
        let b = bound_by test m rows bounds bound place r at t in
        le-leb r.number m (omega arith)

    -- what the rows of the test weigh up to m: the candidates at any number, and the others up to m
    gains_by : (f : Row → ℕ) (places : List ℕ) → total_by f (gains (up_to m (of_rows test (signed_at places rows))))
        ≡ total_by (with_key test f) (gains (signed_at (filter (is_candidate rows bounds) places) rows)) + total_by (in_one (with_key test f) m) (signed_at (filter late places) rows)
    unfolding gain_one
    gains_by f places =
        let w = with_key test f in
        let early = signed_at (filter (is_candidate rows bounds) places) rows in
        let a = gains_of f test m (signed_at places rows) in
        let b = gains_total w m (signed_at places rows) in
        let c = split_total (is_candidate rows bounds) (in_one w m) rows places in
        let d = weighs_alike (is_candidate rows bounds) (in_one w m) (gain_one w) rows (λ p r e at. settled_in (nat_le r.number m) r.plus (test r.row) (f r.row) (low_by p r e at)) places in
        let e = gained_total w early in
        omega arith

    losses_by : (f : Row → ℕ) (places : List ℕ) → total_by f (losses (up_to m (of_rows test (signed_at places rows))))
        ≡ total_by (with_key test f) (losses (signed_at (filter (is_candidate rows bounds) places) rows)) + total_by (out_one (with_key test f) m) (signed_at (filter late places) rows)
    unfolding loss_one
    losses_by f places =
        let w = with_key test f in
        let early = signed_at (filter (is_candidate rows bounds) places) rows in
        let a = losses_of f test m (signed_at places rows) in
        let b = losses_total w m (signed_at places rows) in
        let c = split_total (is_candidate rows bounds) (out_one w m) rows places in
        let d = weighs_alike (is_candidate rows bounds) (out_one w m) (loss_one w) rows (λ p r e at. settled_out (nat_le r.number m) r.plus (test r.row) (f r.row) (low_by p r e at)) places in
        let e = lost_total w early in
        omega arith

    -- above m there are no candidates
    since_by : (places : List ℕ) → since m (of_rows test (signed_at places rows)) ≡ since m (of_rows test (signed_at (filter late places) rows))
    since_by [] = refl
    since_by (p ∷ places) =
        let yes = filter late places in
        let rest = since_by places in
        elim (is_candidate rows bounds p) as (λ b. is_candidate rows bounds p ≡ b → since m (of_rows test (signed_at (p ∷ places) rows)) ≡ since m (of_rows test (signed_at (cond (not b) (p ∷ yes) yes) rows))) [
          | true ↦ λ e. passed_over (slice_get rows p) (λ r at t. low_by p r e at t) (signed_at places rows) ∙ rest
          | false ↦ λ e. kept_both (slice_get rows p) (signed_at places rows) (signed_at yes rows) rest
        ] refl
      where
        passed_over : (o : Option SignedRow) → ((r : SignedRow) → o ≡ Some r → test r.row ≡ true → nat_le r.number m ≡ true) → (xs : List SignedRow) → since m (of_rows test (cons_option o xs)) ≡ since m (of_rows test xs)
        passed_over None h xs = refl
        passed_over (Some r) h xs =
            elim (test r.row) as (λ b. test r.row ≡ b → since m (cond b (r ∷ of_rows test xs) (of_rows test xs)) ≡ since m (of_rows test xs)) [
              | true ↦ λ e. λ i. cond (le-ltb m r.number (leb-true r.number m (h r refl e)) i) (r ∷ since m (of_rows test xs)) (since m (of_rows test xs))
              | false ↦ λ e. refl
            ] refl

        kept_both : (o : Option SignedRow) (xs ys : List SignedRow) → since m (of_rows test xs) ≡ since m (of_rows test ys) → since m (of_rows test (cons_option o xs)) ≡ since m (of_rows test (cons_option o ys))
        kept_both None xs ys e = e
        kept_both (Some r) xs ys e =
            elim (test r.row) as (λ b. since m (cond b (r ∷ of_rows test xs) (of_rows test xs)) ≡ since m (cond b (r ∷ of_rows test ys) (of_rows test ys))) [
              | true ↦ ap (λ zs. cond (nat_lt m r.number) (r ∷ zs) zs) e
              | false ↦ e
            ]

  module _ (row : Row) (m : ℕ) (bound : AreBoundTo row m rows bounds) where
    low_to : (place : ℕ) (r : SignedRow) → is_candidate rows bounds place ≡ true → slice_get rows place ≡ Some r → is_row row r.row ≡ true → nat_le r.number m ≡ true
    low_to place r early at t =
        let a = early_bound place r early at in
        let b = bound_to row m rows bounds bound place r at (sym (row_is row r.row t)) in
        le-leb r.number m (omega arith)

    high_to : (place : ℕ) (r : SignedRow) → late place ≡ true → slice_get rows place ≡ Some r → is_row row r.row ≡ true → nat_le r.number m ≡ false
    high_to place r later at t =
        let a = late_bound place r later at in
        let b = bound_to row m rows bounds bound place r at (sym (row_is row r.row t)) in
        lt-leb r.number m (omega arith)

    abbrev one : Row → ℕ
    one = with_key (is_row row) (λ _. 1)

    -- of the row exactly the candidates are up to m
    gains_to : (places : List ℕ) → times (is_row row) (gains (up_to m (signed_at places rows))) ≡ times (is_row row) (gains (signed_at (filter (is_candidate rows bounds) places) rows))
    unfolding gain_one
    gains_to places =
        let early = signed_at (filter (is_candidate rows bounds) places) rows in
        let a = times_total (is_row row) (gains (up_to m (signed_at places rows))) in
        let b = gains_total one m (signed_at places rows) in
        let c = split_total (is_candidate rows bounds) (in_one one m) rows places in
        let d = weighs_alike (is_candidate rows bounds) (in_one one m) (gain_one one) rows (λ p r e at. settled_in (nat_le r.number m) r.plus (is_row row r.row) 1 (low_to p r e at)) places in
        let e = weighs_alike late (in_one one m) (λ _. 0) rows (λ p r e at. nothing_in (nat_le r.number m) r.plus (is_row row r.row) 1 (high_to p r e at)) places in
        let z = total_by-zero (signed_at (filter late places) rows) in
        let g = gained_total one early in
        let h = times_total (is_row row) (gains early) in
        omega arith

    losses_to : (places : List ℕ) → times (is_row row) (losses (up_to m (signed_at places rows))) ≡ times (is_row row) (losses (signed_at (filter (is_candidate rows bounds) places) rows))
    unfolding loss_one
    losses_to places =
        let early = signed_at (filter (is_candidate rows bounds) places) rows in
        let a = times_total (is_row row) (losses (up_to m (signed_at places rows))) in
        let b = losses_total one m (signed_at places rows) in
        let c = split_total (is_candidate rows bounds) (out_one one m) rows places in
        let d = weighs_alike (is_candidate rows bounds) (out_one one m) (loss_one one) rows (λ p r e at. settled_out (nat_le r.number m) r.plus (is_row row r.row) 1 (low_to p r e at)) places in
        let e = weighs_alike late (out_one one m) (λ _. 0) rows (λ p r e at. nothing_out (nat_le r.number m) r.plus (is_row row r.row) 1 (high_to p r e at)) places in
        let z = total_by-zero (signed_at (filter late places) rows) in
        let g = lost_total one early in
        let h = times_total (is_row row) (losses early) in
        omega arith

  -- the candidates without pairs, and all others
  pub record AreLeft (places : List ℕ) : Type 0 where
    pub part : IsPart places (range_with_len 0 (length rows))
    pub late : filter (λ place. not (is_candidate rows bounds place)) places ≡ filter (λ place. not (is_candidate rows bounds place)) (range_with_len 0 (length rows))
    pub alone : AreUnpaired (signed_at (filter (is_candidate rows bounds) (range_with_len 0 (length rows))) rows) (signed_at (filter (is_candidate rows bounds) places) rows)

  -- the rows that came in struck losses out, and what was left of these was dealt to the rows that went out
  pub are_left : (unstruck places : List ℕ) (old new : List (Bor Row × ℕ)) → AreUnstruck rows bounds (range_with_len 0 (length rows)) unstruck old → AreDealt rows bounds unstruck places old new → AreLeft places
  are_left unstruck places old new gone dealt =
      let all = range_with_len 0 (length rows) in
      record {
        part = part_through places unstruck all dealt.part gone.part;
        late = dealt.late ∙ gone.late;
        alone = are_unpaired (signed_at (filter (is_candidate rows bounds) all) rows) (signed_at (filter (is_candidate rows bounds) places) rows) (λ q. loss_count q old)
            (λ q. subst (λ n. IsStruck n (loss_count q old) (early_count false q rows bounds all) (early_count true q rows bounds all)) (sym (dealt.came q)) (gone.came q))
            (λ q. let f = gone.fewer q in let w = gone.went q in dealt_all _ (loss_count q new) (loss_count q old) (early_count false q rows bounds unstruck) (omega arith) (dealt.went q));
      }

  -- there are rows at the places of a part
  pub places_below : (places : List ℕ) → IsPart places (range_with_len 0 (length rows)) → All (λ place. place < length rows) places
  places_below places part =
      let below = λ (place : ℕ). place < length rows in
      All-from_recursion below places (part_all below places _ part (range_below 0 (length rows) (length rows) (omega arith)))

  module _ (places : List ℕ) (left : AreLeft places) where
    abbrev all : List ℕ
    all = range_with_len 0 (length rows)

    pub folded_by : (test : Row → Bool) (m : ℕ) → AreBoundBy test m rows bounds → IsFolded m (of_rows test rows) (of_rows test (signed_at places rows))
    folded_by test m bound = record {
      same = λ f.
          let w = with_key test f in
          let whole = all_places rows in
          let a = gains_by test m bound f places in
          let b = losses_by test m bound f places in
          let c = gains_by test m bound f all in
          let d = losses_by test m bound f all in
          let g = ap (λ rs. total_by f (gains (up_to m (of_rows test rs)))) whole in
          let h = ap (λ rs. total_by f (losses (up_to m (of_rows test rs)))) whole in
          let i = ap (λ ps. total_by (in_one w m) (signed_at ps rows)) left.late in
          let j = ap (λ ps. total_by (out_one w m) (signed_at ps rows)) left.late in
          let k = left.alone.same w in
          omega arith;
      later = since_by test m bound places ∙ ap (λ ps. since m (of_rows test (signed_at ps rows))) left.late
          ∙ sym (since_by test m bound all) ∙ ap (λ rs. since m (of_rows test rs)) (all_places rows);
      fewer = λ f.
          let a = total_by-filter f (λ r. test r.row) (signed_at places rows) in
          let b = total_by-filter f (λ r. test r.row) rows in
          let c = part_total (λ r. cond (test r.row) (f r) 0) places all rows left.part in
          let d = ap (total_by (λ (r : SignedRow). cond (test r.row) (f r) 0)) (all_places rows) in
          omega arith;
    }

    pub left_one_way : (row : Row) (m : ℕ) → AreBoundTo row m rows bounds → IsLeftOneWay row m (signed_at places rows)
    left_one_way row m bound =
        elim (left.alone.single row) [
          | inl z ↦ inl (gains_to row m bound places ∙ z)
          | inr z ↦ inr (losses_to row m bound places ∙ z)
        ]
