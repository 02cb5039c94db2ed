-- The differences that one answer makes alone, and those that two make.
use Rattle.std.proofs.Common.{◌≡◌, ℕ, Bool, false, List, [], ◌∷◌, ◌++◌, length}
use Rattle.std.proofs.Common.{refl, sym, ap, ◌∙◌, append-nil, arith}
use Rattle.std.specs.Prelude.{ℤ, pos, ◌+ℤ◌, if◌then◌else◌}
use Rattle.std.specs.Option.{unwrap_or}
use Rattle.std.specs.List.{flat_map}
use Rattle.std.specs.Ordering.{nat_cmp, is_eq, ordering_reverse}
use Rattle.std.specs.declared.cmp.Ordering.{Ordering}
use Rattle.std.specs.declared.cmp.Ordering.TheVariants.{Less, Greater}
use Rattle.std.specs.Cmp.Lexicographic.{slice_cmp, texts_ties, nat_list_cmp_total}
use Rattle.std.specs.FinMap.{empty, entries, entries-insert, get-empty, len-empty, len-entries}
use Rattle.std.specs.FinMap.Entries.{by_order, put}
use Rattle.std.specs.Str.{bytes_eq}
use Rattle.std.proofs.lemmas.Int.{ints}
use Rattle.ncq_base.specs.Keys.{ByBytes}
use Rattle.ncq_bag.specs.Bags.{added, count_of, difference_of, differences, signed}
use Rattle.ncq_bag.specs.declared.bag.Difference.{Difference}
use Rattle.ncq_bag.proofs.CallerLemmas.{count_of-added}

abbrev R : List ℕ → List ℕ → Ordering
R = slice_cmp nat_cmp

abbrev nobody : ByBytes ℤ
nobody = empty

nothing : {A : Type 0} (es : List A) → length es ≡ 0 → es ≡ []
nothing [] h = refl
nothing (e ∷ es) h = absurd (omega arith)

entries_none : entries nobody ≡ []
entries_none = nothing (entries nobody) (sym (len-entries nobody) ∙ len-empty R ℤ)

nothing_more : (z : ℤ) → pos 0 +ℤ z ≡ z
nothing_more z = omega (arith, ints)

count_none : (key : List ℕ) → count_of nobody key ≡ pos 0
count_none key = ap (λ o. unwrap_or o (pos 0)) (get-empty R key)

-- one answer
entries_one : (a : List ℕ) (n : ℕ) (g : Bool) → entries (added nobody a n g) ≡ (a, signed g n) ∷ []
entries_one a n g =
    entries-insert nat_list_cmp_total nobody a (count_of nobody a +ℤ signed g n)
    ∙ ap (put R a (count_of nobody a +ℤ signed g n)) entries_none
    ∙ ap (λ (z : ℤ). (a, z) ∷ [])
    (ap (λ (c : ℤ). c +ℤ signed g n) (count_none a) ∙ nothing_more (signed g n))

pub one_is : (a : List ℕ) (n : ℕ) (g : Bool) → differences (added nobody a n g)
    ≡ difference_of (a, signed g n)
one_is a n g = ap (flat_map difference_of) (entries_one a n g)
    ∙ append-nil (difference_of (a, signed g n))

-- two answers
module _ (a b : List ℕ) (n m : ℕ) (g h : Bool) where
  count_other : bytes_eq b a ≡ false → count_of (added nobody a n g) b ≡ pos 0
  count_other apart =
      count_of-added nobody a b n g
      ∙ ap (λ (t : Bool). if t then count_of nobody b +ℤ signed g n else count_of nobody b) apart
      ∙ count_none b

  entries_two : (o : Ordering) → R b a ≡ o → is_eq o ≡ false
      → entries (added (added nobody a n g) b m h)
      ≡ by_order o ((b, signed h m) ∷ (a, signed g n) ∷ []) ((a, signed h m) ∷ [])
      ((a, signed g n) ∷ (b, signed h m) ∷ [])
  entries_two o is apart =
      let one = added nobody a n g in
      let more : count_of one b +ℤ signed h m ≡ signed h m =
      ap (λ (c : ℤ). c +ℤ signed h m)
      (count_other (texts_ties b a ∙ ap is_eq is ∙ apart)) ∙ nothing_more (signed h m) in
      entries-insert nat_list_cmp_total one b (count_of one b +ℤ signed h m)
      ∙ ap (put R b (count_of one b +ℤ signed h m)) (entries_one a n g)
      ∙ (λ i. by_order (is i) ((b, more i) ∷ (a, signed g n) ∷ []) ((a, more i) ∷ [])
      ((a, signed g n) ∷ (b, more i) ∷ []))

  turned : (o : Ordering) → R a b ≡ o → R b a ≡ ordering_reverse o
  turned o is = nat_list_cmp_total.antisymm b a ∙ ap ordering_reverse is

  pub two_rising : R a b ≡ Less → differences (added (added nobody a n g) b m h)
      ≡ difference_of (a, signed g n) ++ difference_of (b, signed h m)
  two_rising is =
      ap (flat_map difference_of) (entries_two Greater (turned Less is) refl)
      ∙ ap (λ (ds : List Difference). difference_of (a, signed g n) ++ ds)
      (append-nil (difference_of (b, signed h m)))

  pub two_falling : R a b ≡ Greater → differences (added (added nobody a n g) b m h)
      ≡ difference_of (b, signed h m) ++ difference_of (a, signed g n)
  two_falling is =
      ap (flat_map difference_of) (entries_two Less (turned Greater is) refl)
      ∙ ap (λ (ds : List Difference). difference_of (b, signed h m) ++ ds)
      (append-nil (difference_of (a, signed g n)))
