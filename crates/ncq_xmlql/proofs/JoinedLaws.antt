-- What is spelled as a path has joined lists.
use Rattle.std.proofs.Common.{◌≡◌, ℕ, ◌≤◌, Bool, true, false, List, [], ◌∷◌, ◌++◌, length, map, refl, sym, ◌∙◌, arith}
use Rattle.std.specs.Prelude.{◌&&◌, not, nat_le}
use Rattle.std.specs.List.{list_all, flat_map}
use Rattle.std.proofs.lemmas.Bool.Decides.{nat_tests}
use Rattle.ncq_path.specs.declared.path.Path.{Path}
use Rattle.ncq_path.specs.declared.path.Path.TheVariants.{Tag, Seq, Alt, Star, Plus}
use Rattle.ncq_path.specs.Formed.{is_joined, fits_seq, fits_alt}
use Rattle.ncq_path.specs.Kinds.{is_seq, is_alt}
use Rattle.ncq_path.proofs.PathCases.{path_induction}
use Rattle.ncq_path.proofs.TextCases.{seq_tag, seq_alt, seq_star, seq_plus, alt_tag, alt_seq, alt_star, alt_plus}
use Rattle.ncq_path.proofs.FormedLaws.{tested, joined_tag, joined_seq, joined_alt, joined_star, joined_plus}
use Rattle.ncq_token.specs.declared.token.Token.{Token}
use Rattle.ncq_xmlql.specs.PathValues.{seq_items, alt_items, alone_or, seq_of, alt_of}
use Rattle.ncq_xmlql.specs.PathGrammar.{IsPath, AreAlternatives, IsSeq, AreSteps, IsStep, IsItem}
use Rattle.ncq_xmlql.proofs.PathValueLaws.{seq_items_tag, seq_items_seq, seq_items_alt, seq_items_star, seq_items_plus}
use Rattle.ncq_xmlql.proofs.PathValueLaws.{alt_items_tag, alt_items_seq, alt_items_alt, alt_items_star, alt_items_plus}

both : (a b : Bool) → (a && b) ≡ true → (a ≡ true) × (b ≡ true)
both true b e = (refl, e)
both false b e = absurd cc

two_or_more : (n : ℕ) → nat_le 2 n ≡ true → 1 ≤ n
two_or_more n h = grind (arith, nat_tests)

at_least_two : (n : ℕ) → 2 ≤ n → nat_le 2 n ≡ true
at_least_two n h = grind (arith, nat_tests)

and_true : (a b : Bool) → a ≡ true → b ≡ true → (a && b) ≡ true
and_true true b e f = f
and_true false b e f = absurd cc

-- ---- items that fit, one at least

module _ (fits : Path × Bool → Bool) where
  record Fit (items : List Path) : Type 0 where
    pub some : 1 ≤ length items
    pub all : list_all fits (tested items) ≡ true

  fit_one : (p : Path) → fits (p, is_joined p) ≡ true → Fit (p ∷ [])
  fit_one p e = record { some = omega arith; all = rw e refl }

  fits_more : (xs ys : List Path) → list_all fits (tested xs) ≡ true → list_all fits (tested ys) ≡ true → list_all fits (tested (xs ++ ys)) ≡ true
  fits_more [] ys e f = f
  fits_more (x ∷ xs) ys e f = let s = both (fits (x, is_joined x)) (list_all fits (tested xs)) e in rw (s.0, fits_more xs ys s.1 f) refl

  longer : (xs ys : List Path) → 1 ≤ length xs → 1 ≤ length (xs ++ ys)
  longer [] ys h = absurd (omega arith)
  longer (x ∷ xs) ys h = omega arith

  module _ (list : List Path → Path) (items_of : Path → List Path)
      (whole : (items : List Path) → is_joined (list items) ≡ (nat_le 2 (length items) && list_all fits (tested items)))
      (fitting : (p : Path) → fits (p, is_joined p) ≡ true → is_joined p ≡ true)
      (split : (p : Path) → is_joined p ≡ true → Fit (items_of p)) where
    all_fit : (ps : List Path) → list_all is_joined ps ≡ true → list_all fits (tested (flat_map items_of ps)) ≡ true
    all_fit [] e = refl
    all_fit (p ∷ ps) e = let s = both (is_joined p) (list_all is_joined ps) e in fits_more (items_of p) (flat_map items_of ps) (split p s.0).all (all_fit ps s.1)

    one_or_list : (items : List Path) → Fit items → is_joined (alone_or list items) ≡ true
    one_or_list [] h = absurd (omega (arith, h.some))
    one_or_list (p ∷ []) h = fitting p (both (fits (p, is_joined p)) true h.all).0
    one_or_list (p ∷ q ∷ items) h =
        let all : List Path = p ∷ q ∷ items in
        whole all ∙ and_true (nat_le 2 (length all)) (list_all fits (tested all)) (at_least_two (length all) (omega arith)) h.all

    joined_of : (p : Path) (ps : List Path) → is_joined p ≡ true → list_all is_joined ps ≡ true → is_joined (alone_or list (flat_map items_of (p ∷ ps))) ≡ true
    joined_of p ps e f =
        let first = split p e in
        one_or_list (flat_map items_of (p ∷ ps)) (record {
          some = longer (items_of p) (flat_map items_of ps) first.some;
          all = fits_more (items_of p) (flat_map items_of ps) first.all (all_fit ps f);
        })

-- ---- sequences

seq_split : (p : Path) → is_joined p ≡ true → Fit fits_seq (seq_items p)
seq_split =
    path_induction (λ p. is_joined p ≡ true → Fit fits_seq (seq_items p))
    (λ tag e. rw (seq_items_tag tag) (fit_one fits_seq (Tag tag) (rw (e, seq_tag tag) refl)))
    (λ below e. let items : List Path = map (λ x. x.0) below in
    let s = both (nat_le 2 (length items)) (list_all fits_seq (tested items)) (sym (joined_seq items) ∙ e) in
    rw (seq_items_seq items) (record { some = two_or_more (length items) s.0; all = s.1 }))
    (λ below e. let items : List Path = map (λ x. x.0) below in rw (seq_items_alt items) (fit_one fits_seq (Alt items) (rw (e, seq_alt items) refl)))
    (λ item h e. rw (seq_items_star item) (fit_one fits_seq (Star item) (rw (e, seq_star item) refl)))
    (λ item h e. rw (seq_items_plus item) (fit_one fits_seq (Plus item) (rw (e, seq_plus item) refl)))

seq_fitting : (p : Path) → fits_seq (p, is_joined p) ≡ true → is_joined p ≡ true
seq_fitting p e = (both (is_joined p) (not (is_seq p)) e).0

seq_joined : (p : Path) (ps : List Path) → is_joined p ≡ true → list_all is_joined ps ≡ true → is_joined (seq_of (p ∷ ps)) ≡ true
seq_joined = joined_of fits_seq Seq seq_items joined_seq seq_fitting seq_split

-- ---- alternatives

alt_split : (p : Path) → is_joined p ≡ true → Fit fits_alt (alt_items p)
alt_split =
    path_induction (λ p. is_joined p ≡ true → Fit fits_alt (alt_items p))
    (λ tag e. rw (alt_items_tag tag) (fit_one fits_alt (Tag tag) (rw (e, alt_tag tag) refl)))
    (λ below e. let items : List Path = map (λ x. x.0) below in rw (alt_items_seq items) (fit_one fits_alt (Seq items) (rw (e, alt_seq items) refl)))
    (λ below e. let items : List Path = map (λ x. x.0) below in
    let s = both (nat_le 2 (length items)) (list_all fits_alt (tested items)) (sym (joined_alt items) ∙ e) in
    rw (alt_items_alt items) (record { some = two_or_more (length items) s.0; all = s.1 }))
    (λ item h e. rw (alt_items_star item) (fit_one fits_alt (Star item) (rw (e, alt_star item) refl)))
    (λ item h e. rw (alt_items_plus item) (fit_one fits_alt (Plus item) (rw (e, alt_plus item) refl)))

alt_fitting : (p : Path) → fits_alt (p, is_joined p) ≡ true → is_joined p ≡ true
alt_fitting p e = (both (is_joined p) (not (is_alt p)) e).0

alt_joined : (p : Path) (ps : List Path) → is_joined p ≡ true → list_all is_joined ps ≡ true → is_joined (alt_of (p ∷ ps)) ≡ true
alt_joined = joined_of fits_alt Alt alt_items joined_alt alt_fitting alt_split

-- ---- what is spelled

mutual
  pub path_joined : {a b : List Token} {p : Path} → IsPath a p b → is_joined p ≡ true
  path_joined (IsPath.any {first = p} {more = ps} first more) = alt_joined p ps (sequence_joined first) (alternatives_joined more)

  alternatives_joined : {a b : List Token} {ps : List Path} → AreAlternatives a ps b → list_all is_joined ps ≡ true
  alternatives_joined AreAlternatives.no_alternative = refl
  alternatives_joined (AreAlternatives.alternative first more) = rw (sequence_joined first, alternatives_joined more) refl

  sequence_joined : {a b : List Token} {p : Path} → IsSeq a p b → is_joined p ≡ true
  sequence_joined (IsSeq.each {first = p} {more = ps} first more) = seq_joined p ps (step_joined first) (steps_joined more)

  steps_joined : {a b : List Token} {ps : List Path} → AreSteps a ps b → list_all is_joined ps ≡ true
  steps_joined AreSteps.no_step = refl
  steps_joined (AreSteps.next_step first more) = rw (step_joined first, steps_joined more) refl

  step_joined : {a b : List Token} {p : Path} → IsStep a p b → is_joined p ≡ true
  step_joined (IsStep.once item) = item_joined item
  step_joined (IsStep.star {p = p} item) = joined_star p ∙ item_joined item
  step_joined (IsStep.plus {p = p} item) = joined_plus p ∙ item_joined item

  item_joined : {a b : List Token} {p : Path} → IsItem a p b → is_joined p ≡ true
  item_joined (IsItem.name {n = n}) = joined_tag n
  item_joined (IsItem.group inner) = path_joined inner
