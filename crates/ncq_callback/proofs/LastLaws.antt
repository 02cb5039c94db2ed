-- The counts of a last answer that stands once more, or once less.
use Rattle.std.proofs.Common.{◌≡◌, ℕ, Bool, true, false, cond, List, refl, sym, ap, ◌∙◌, arith}
use Rattle.std.specs.Prelude.{ℤ, ◌+ℤ◌, Option, Some, if◌then◌else◌}
use Rattle.std.specs.Ordering.{nat_cmp, eq_by_cmp}
use Rattle.std.specs.Cmp.Lexicographic.{slice_cmp, nat_list_cmp_total}
use Rattle.std.specs.FinMap.{get, insert, get-insert, same_map}
use Rattle.std.specs.Str.{bytes_eq}
use Rattle.std.proofs.lemmas.Int.{ints}
use Rattle.std.proofs.lemmas.Slice.Eq.{bytes_eq-Decides}
use Rattle.ncq_base.specs.Keys.{ByBytes}
use Rattle.ncq_base.proofs.Keyed.{bytes_apart}
use Rattle.ncq_bag.specs.Bags.{count_of, added, signed}
use Rattle.ncq_bag.proofs.CallerLemmas.{count_of-added}

module _ {X : Type 0} where
  -- of two values at one key the later one stays
  insert_twice : (m : ByBytes X) (k : List ℕ) (v w : X) → insert (insert m k v) k w ≡ insert m k w
  insert_twice m k v w = same_map nat_list_cmp_total bytes_apart _ _ (λ q.
      get-insert nat_list_cmp_total (insert m k v) k w q
      ∙ ap (cond (eq_by_cmp (slice_cmp nat_cmp) q k) (Some w)) (get-insert nat_list_cmp_total m k v q)
      ∙ later (eq_by_cmp (slice_cmp nat_cmp) q k) (get m q)
      ∙ sym (get-insert nat_list_cmp_total m k w q))
    where
      later : (t : Bool) (o : Option X) → cond t (Some w) (cond t (Some v) o) ≡ cond t (Some w) o
      later true o = refl
      later false o = refl

plus_assoc : (a b c d : ℤ) → d ≡ b +ℤ c → a +ℤ d ≡ (a +ℤ b) +ℤ c
plus_assoc a b c d e = omega (arith, ints)

-- a count that is one more, or one less, is one add more
pub added_on : (counts : ByBytes ℤ) (key : List ℕ) (n m : ℕ) (g h gain : Bool) → signed h m ≡ signed g n +ℤ signed gain 1
    → added counts key m h ≡ added (added counts key n g) key 1 gain
added_on counts key n m g h gain e =
    ap (insert counts key)
    (plus_assoc (count_of counts key) (signed g n) (signed gain 1) (signed h m) e
    ∙ ap (λ (z : ℤ). z +ℤ signed gain 1) (sym here))
    ∙ sym (insert_twice counts key (count_of counts key +ℤ signed g n) (count_of (added counts key n g) key +ℤ signed gain 1))
  where
    same : bytes_eq key key ≡ true
    same = (bytes_eq-Decides key key).1 refl

    here : count_of (added counts key n g) key ≡ count_of counts key +ℤ signed g n
    here =
        count_of-added counts key key n g
        ∙ ap (λ (t : Bool). if t then count_of counts key +ℤ signed g n else count_of counts key) same
