-- What crates above use of counts.
use Rattle.std.proofs.Common.{◌≡◌, ℕ, Bool, true, false, cond, List, refl, sym, ◌∙◌, ap}
use Rattle.std.specs.Prelude.{ℤ, pos, ◌+ℤ◌, if◌then◌else◌, Option, Some}
use Rattle.std.specs.Option.{unwrap_or}
use Rattle.std.specs.Ordering.{nat_cmp}
use Rattle.std.specs.Cmp.Lexicographic.{slice_cmp, texts_ties, nat_list_cmp_total}
use Rattle.std.specs.FinMap.{get, get-insert}
use Rattle.std.specs.Str.{bytes_eq}
use Rattle.ncq_base.specs.Keys.{ByBytes}
use Rattle.ncq_base.proofs.Keyed.{bytes_apart}
use Rattle.ncq_base.proofs.Totals.{is_equal}
use Rattle.ncq_bag.specs.Bags.{count_of, added, signed}
pub use Rattle.ncq_bag.proofs.Tallies.{tally_decides}
pub use Rattle.ncq_bag.proofs.TurnLaws.{difference_is_rising, differences_are_rising, tells_distinct}

added_at : (t : Bool) (counts : ByBytes ℤ) (key q : List ℕ) (times : ℕ) (gain : Bool) → bytes_eq q key ≡ t
    → unwrap_or (cond t (Some (count_of counts key +ℤ signed gain times)) (get counts q)) (pos 0) ≡ (if t then count_of counts q +ℤ signed gain times else count_of counts q)
added_at true counts key q times gain t = ap (λ (k : List ℕ). count_of counts k +ℤ signed gain times) (sym (bytes_apart q key (is_equal (slice_cmp nat_cmp q key) (sym (texts_ties q key) ∙ t))))
added_at false counts key q times gain t = refl

-- what one add changes
pub count_of-added : (counts : ByBytes ℤ) (key q : List ℕ) (times : ℕ) (gain : Bool) → count_of (added counts key times gain) q ≡ (if bytes_eq q key then count_of counts q +ℤ signed gain times else count_of counts q)
count_of-added counts key q times gain =
    ap (λ (o : Option ℤ). unwrap_or o (pos 0)) (get-insert nat_list_cmp_total counts key (count_of counts key +ℤ signed gain times) q)
    ∙ ap (λ (t : Bool). unwrap_or (cond t (Some (count_of counts key +ℤ signed gain times)) (get counts q)) (pos 0)) (sym (texts_ties q key))
    ∙ added_at (bytes_eq q key) counts key q times gain refl
