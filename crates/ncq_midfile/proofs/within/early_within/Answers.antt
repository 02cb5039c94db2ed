use Rattle.std.proofs.Common.{rules, ◌≡◌, ◌++◌, ℕ, length, take, drop, max, ap, ◌∙◌, arith}
use Rattle.ncq_midfile.specs.Matching.{places_where}
use Rattle.ncq_midfile.specs.Ranged.{is_early}
use Rattle.ncq_midfile.proofs.Early.{places_join}
use Rattle.ncq_midfile.proofs.within.early_within.Goals as goal

pub returns : goal.returns
returns c =
    let order = c.in-Some.order.now in
    let rows = c.args.rows.now in
    let from = c.args.from in
    let k = length order.index.hashes in
    let behind = c.max.result in
    let test = is_early c.args.slot c.args.interval.now c.args.n in
    let same : order.slot ≡ c.args.slot = search rules in
    let is : behind ≡ max from k = let len = c.len.ensures in let most = c.max.ensures in omega arith in
    c.in_ok-push_early-2.ensures
    ∙ ap (λ ps. ps ++ places_where test behind (drop behind rows)) (c.in_ok-places.ensures ∙ ap (λ (s : ℕ). places_where (is_early s c.args.interval.now c.args.n) from (drop from (take k rows))) same)
    ∙ places_join test from k behind rows is
