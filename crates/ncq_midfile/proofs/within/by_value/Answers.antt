use Rattle.std.proofs.Common.{◌≡◌, ℕ, ◌++◌, List, length, take, drop, ap, sym, ◌∙◌, true, arith}
use Rattle.std.specs.List.{flat_map}
use Rattle.std.proofs.lemmas.List.Sorted.{IsNonDecreasingBy-from_sort}
use Rattle.ncq_base.specs.Counts.{total_by}
use Rattle.ncq_base.proofs.CountLaws.{counts_from_permutation}
use Rattle.ncq_row.specs.Values.{atom_at}
use Rattle.ncq_midfile.specs.Matching.{places_where}
use Rattle.ncq_midfile.specs.Orders.{with_value, is_known}
use Rattle.ncq_midfile.specs.Ranged.{is_early}
use Rattle.ncq_midfile.specs.declared.signed.SignedRow.{SignedRow}
use Rattle.ncq_midfile.proofs.ByValue.{values_counts, sorted_is}
use Rattle.ncq_midfile.proofs.Matches.{wanted_rising}
use Rattle.ncq_midfile.proofs.Parts.{rising_from}
use Rattle.ncq_midfile.proofs.Early.{all_drop}
use Rattle.ncq_midfile.proofs.within.by_value.Goals as goal

pub returns : goal.returns
returns c =
    let order = c.args.order.now in
    let from = c.args.from in
    let test = is_early order.slot c.args.interval.now c.args.n in
    let front = drop from (take (length order.index.hashes) c.args.rows.now) in
    let those = with_value order.slot c.args.interval.now c.args.n from front in
    let vs = order.values.keys in
    let all : c.push_ordered.new.found ≡ flat_map those vs = c.in_ok-push_ordered.ensures ∙ ap (λ (ps : List ℕ). ps ++ flat_map those vs) c.new-found.ensures in
    let sorted = c.sort_unstable.new.self.items in
    c.from_vec.ensures
    ∙ sorted_is sorted (places_where test from front) (IsNonDecreasingBy-from_sort (λ x. x) sorted c.sort_unstable.ensures.sorted)
    (rising_from 0 from _ (omega arith) (wanted_rising test from front))
    (λ f. sym (counts_from_permutation c.into_vec-places.result.items sorted c.sort_unstable.ensures.permutation f)
    ∙ ap (total_by f) (c.into_vec-places.ensures ∙ all)
    ∙ values_counts order.slot c.args.interval.now c.args.n vs c.requires.order.ordered from front
    (all_drop (λ (r : SignedRow). is_known (atom_at r.row order.slot) vs ≡ true) from _ c.requires.order.valued) f)
