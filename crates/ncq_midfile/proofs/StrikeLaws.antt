-- Rows that went out are struck out one by one, each with an equal one that came in.
use Rattle.std.proofs.Common.{◌≡◌, ℕ, zero, suc, ◌+◌, ◌<◌, ◌≤◌, Bool, true, false, cond, List, [], ◌∷◌, ◌++◌, length, slice_get, Some, min, max, nat_le, refl, sym, ◌∙◌, ap, subst, arith, inl, inr, true≢false}
use Rattle.std.specs.List.{AllByRecursion}
use Rattle.std.proofs.lemmas.Option.{none-some, same_Some, slice_get_within}
use Rattle.ncq_base.specs.Counts.{total_by, SameCounts}
use Rattle.ncq_base.proofs.CountLaws.{total_by-append}
use Rattle.ncq_midfile.specs.Content.{Row, rows_of, gains, losses, IsBalanced, IsSoundAt, IsContent, AreRising}
use Rattle.ncq_midfile.specs.Files.{IsThere}
use Rattle.ncq_midfile.specs.LossCounts.{is_row}
use Rattle.ncq_midfile.specs.Pairs.{taken_out}
use Rattle.ncq_midfile.specs.declared.signed.SignedRow.{SignedRow}
use Rattle.ncq_midfile.proofs.ChainLaws.{three}
use Rattle.ncq_midfile.proofs.PairLaws.{taken_sum, signed_total, weight, lw, gw, losses_total, gains_total, rows_total, came_lw, all_weigh, none_weigh, up_to_whole}
use Rattle.ncq_midfile.proofs.Strikes.{row_is, row_itself}

-- the signed row did not come in as the row
abbrev pub IsNoPartner : Row → SignedRow → Type 0
IsNoPartner row r = r.plus ≡ true → r.row ≡ row → ⊥

-- what weighs a row that is there is at most what all weigh
weighs : (h : SignedRow → ℕ) (p : ℕ) (rows : List SignedRow) (s : SignedRow) → slice_get rows p ≡ Some s → h s ≤ total_by h rows
weighs h p [] s is = absurd (none-some s is)
weighs h zero (r ∷ rows) s is = let e : h r ≡ h s = ap h (same_Some r s is) in omega arith
weighs h (suc p) (r ∷ rows) s is = let rest = weighs h p rows s is in omega arith

-- a row that did not come in weighs nothing among the rows that did
none_gained : (q : Row) (rows : List SignedRow) → AllByRecursion (IsNoPartner q) rows → total_by (gw (λ x. cond (is_row x q) 1 0)) rows ≡ 0
none_gained q [] all = refl
none_gained q (r ∷ rows) all = let rest = none_gained q rows all.1 in let z : gw (λ x. cond (is_row x q) 1 0) r ≡ 0 = one r.plus (is_row r.row q) refl refl in omega arith
  where
    one : (b c : Bool) → r.plus ≡ b → is_row r.row q ≡ c → ◌≡◌ {A = ℕ} (cond b (cond c 1 0) 0) 0
    one true true e is = absurd (all.0 e (row_is r.row q is))
    one true false e is = refl
    one false c e is = refl

-- a row that went out is one that came in
pub must_have_come : (p : ℕ) (rows : List SignedRow) (s : SignedRow) → slice_get rows p ≡ Some s → s.plus ≡ false → IsBalanced rows → AllByRecursion (IsNoPartner s.row) rows → ⊥
must_have_come p rows s is went balanced none =
    let f : Row → ℕ = λ x. cond (is_row x s.row) 1 0 in
    let b = balanced f in
    let l = losses_total f rows in
    let g = gains_total f rows in
    let z = none_gained s.row rows none in
    let w = weighs (lw f) p rows s is in
    let one : lw f s ≡ 1 = (λ i. cond (went i) 0 (cond (row_itself s.row i) 1 0)) in
    absurd (omega arith)

numbers : (n : ℕ) (rows : List SignedRow) → AllByRecursion (λ r. nat_le r.number n ≡ true) rows → AllByRecursion (λ r. r.number ≤ n) rows
numbers n [] a = tt
numbers n (x ∷ rows) a = (leb-le a.0, numbers n rows a.1)
  where
    leb-le : {m n : ℕ} → nat_le m n ≡ true → m ≤ n
    leb-le e = grind (arith, e)

-- the rows without one that came in, and without an equal one that went out
pub record LosesPair (old new : List SignedRow) : Type 0 where
  pub balanced : IsBalanced old → IsBalanced new
  pub counts : SameCounts (gains new ++ losses old) (gains old ++ losses new)
  pub numbers : (n : ℕ) → AllByRecursion (λ r. r.number ≤ n) old → AllByRecursion (λ r. r.number ≤ n) new

-- a row that came in, and an equal one that went out, are taken out
module _ (p q : ℕ) (rows : List SignedRow) (r s : SignedRow) (here : slice_get rows p ≡ Some r) (there : slice_get rows q ≡ Some s) (came : r.plus ≡ true) (went : s.plus ≡ false) (same : r.row ≡ s.row) where
  abbrev places : List ℕ
  places = min p q ∷ max p q ∷ []

  abbrev rest : List SignedRow
  rest = taken_out places rows

  apart : p ≡ q → ⊥
  apart e =
      let one : r ≡ s = same_Some r s (sym here ∙ ap (slice_get rows) e ∙ there) in
      true≢false (sym came ∙ ap (λ (x : SignedRow). x.plus) one ∙ went)

  rising : AreRising 0 places
  rising = elim (three p q) [
    | inl e ↦ absurd (apart e)
    | inr t ↦ elim t [ inl l ↦ (omega arith, (omega arith, tt)) | inr g ↦ (omega arith, (omega arith, tt)) ]
  ]

  within : AllByRecursion (λ k. k < length rows) places
  within =
      let a = slice_get_within rows p r here in
      let b = slice_get_within rows q s there in
      (omega arith, (omega arith, tt))

  two : (h : SignedRow → ℕ) → total_by h rest + (h r + h s) ≡ total_by h rows
  two h =
      let t = taken_sum h 0 places rows rising within in
      let u = signed_total h places rows in
      let w : (ℕ → ℕ) = λ k. weight h (slice_get rows k) in
      let a : w p ≡ h r = ap (weight h) here in
      let b : w q ≡ h s = ap (weight h) there in
      let both : w (min p q) + w (max p q) ≡ w p + w q = either p q w in
      omega arith
    where
      either : (p q : ℕ) (w : ℕ → ℕ) → w (min p q) + w (max p q) ≡ w p + w q
      either p q w =
          elim (three p q) [
            | inl e ↦ (let x : min p q ≡ p = omega arith in let y : max p q ≡ q = omega arith in λ i. w (x i) + w (y i))
            | inr t ↦ elim t [
              | inl l ↦ (let x : min p q ≡ p = omega arith in let y : max p q ≡ q = omega arith in λ i. w (x i) + w (y i))
              | inr g ↦ (let x : min p q ≡ q = omega arith in let y : max p q ≡ p = omega arith in let z : w q + w p ≡ w p + w q = omega arith in (λ i. w (x i) + w (y i)) ∙ z)
            ]
          ]

  fewer_gains : (f : Row → ℕ) → total_by f (gains rest) + f s.row ≡ total_by f (gains rows)
  fewer_gains f =
      let t = two (gw f) in
      let a = gains_total f rest in
      let b = gains_total f rows in
      let x : gw f r ≡ f s.row = (λ i. cond (came i) (f (same i)) 0) in
      let y : gw f s ≡ 0 = (λ i. cond (went i) (f s.row) 0) in
      omega arith

  fewer_losses : (f : Row → ℕ) → total_by f (losses rest) + f s.row ≡ total_by f (losses rows)
  fewer_losses f =
      let t = two (lw f) in
      let a = losses_total f rest in
      let b = losses_total f rows in
      let x : lw f r ≡ 0 = (λ i. cond (came i) 0 (f r.row)) in
      let y : lw f s ≡ f s.row = (λ i. cond (went i) 0 (f s.row)) in
      omega arith

  below : (n : ℕ) → AllByRecursion (λ r. r.number ≤ n) rows → AllByRecursion (λ r. r.number ≤ n) rest
  below n all =
      let t = two (λ r. cond (nat_le r.number n) 0 1) in
      let z = all_weigh n rows all in
      numbers n rest (none_weigh (λ r. nat_le r.number n) rest (omega arith))

  pub struck : LosesPair rows (taken_out (min p q ∷ max p q ∷ []) rows)
  struck = record {
    balanced = λ b f. let x = b f in let y = fewer_gains f in let z = fewer_losses f in omega arith;
    counts = λ f.
        let y = fewer_gains f in
        let z = fewer_losses f in
        let a = total_by-append f (gains rest) (losses rows) in
        let b = total_by-append f (gains rows) (losses rest) in
        omega arith;
    numbers = below;
  }

-- more pairs are taken out
pub counts_more : (old now next : List SignedRow) → SameCounts (gains now ++ losses old) (gains old ++ losses now) → SameCounts (gains next ++ losses now) (gains now ++ losses next)
    → SameCounts (gains next ++ losses old) (gains old ++ losses next)
counts_more old now next p q f =
    let a = p f in
    let b = q f in
    let c = total_by-append f (gains now) (losses old) in
    let d = total_by-append f (gains old) (losses now) in
    let e = total_by-append f (gains next) (losses now) in
    let g = total_by-append f (gains now) (losses next) in
    let h = total_by-append f (gains next) (losses old) in
    let k = total_by-append f (gains old) (losses next) in
    omega arith

-- all that went out are struck
pub counts_done : (old now : List SignedRow) → SameCounts (gains now ++ losses old) (gains old ++ losses now) → AllByRecursion (λ r. r.plus ≡ true) now → SameCounts (gains now ++ losses old) (gains old)
counts_done old now p came f =
    let a = p f in
    let b = total_by-append f (gains old) (losses now) in
    let c = losses_total f now in
    let d = came_lw f now came in
    omega arith

-- what is left when all that went out are struck
pub struck_there : (n : ℕ) (rows : List SignedRow) → AllByRecursion (λ r. r.plus ≡ true) rows → AllByRecursion (λ r. r.number ≤ n) rows → AllByRecursion (IsThere n) rows
struck_there n [] a b = tt
struck_there n (r ∷ rows) a b = ((b.0, a.0), struck_there n rows a.1 b.1)

pub sound_balanced : (n : ℕ) (rows : List SignedRow) → AllByRecursion (λ r. r.number ≤ n) rows → IsSoundAt n rows → IsBalanced rows
sound_balanced n rows last sound = subst IsBalanced (up_to_whole n rows last) sound

pub struck_content : (n : ℕ) (old new : List SignedRow) → AllByRecursion (λ r. r.number ≤ n) old → AllByRecursion (λ r. r.plus ≡ true) new → SameCounts (gains new ++ losses old) (gains old) → IsContent n old (rows_of new)
struck_content n old new last came counts f =
    let a = counts f in
    let b = rows_total f new in
    let c = came_lw f new came in
    let d = gains_total f new in
    let e = total_by-append f (gains new) (losses old) in
    let g = total_by-append f (rows_of new) (losses old) in
    let got : total_by f (rows_of new ++ losses old) ≡ total_by f (gains old) = omega arith in
    subst (λ rs. total_by f (rows_of new ++ losses rs) ≡ total_by f (gains rs)) (sym (up_to_whole n old last)) got
