use Rattle.std.proofs.Common.{◌-◌, ◌<◌, ◌≡◌, length, take, set, get_or, sym, ap, ◌∙◌, subst, arith}
use Rattle.std.proofs.lemmas.List.{get_or_default}
use Rattle.ncq_midfile.specs.Chains.{AreSpotted}
use Rattle.ncq_midfile.proofs.ChainLaws.{spotted_swap, stands_there}
use Rattle.ncq_midfile.proofs.chain.Chains.swap_remove.Goals as goal

pub shift-requires-clause-there : goal.shift-requires-clause-there
shift-requires-clause-there c =
    let xs = c.self.inside.numbers.items in
    let within : c.args.at < length xs = subst (λ ns. c.args.at < length ns) (sym c.self.view_is) c.requires in
    let counted = c.len-end.ensures in
    let end = c.len-end.result - 1 in
    let last : end < length xs = omega arith in
    stands_there xs end c.index-last.result.now c.self.inside.spots last (c.index-last.ensures ∙ get_or_default xs end c.index-last.result.now 0 last) c.self.invariant

pub invariant_of-self-2 : goal.invariant_of-self-2
invariant_of-self-2 c =
    let xs = c.self.inside.numbers.items in
    let within : c.args.at < length xs = subst (λ ns. c.args.at < length ns) (sym c.self.view_is) c.requires in
    let counted = c.len-end.ensures in
    let end = c.len-end.result - 1 in
    let last : end < length xs = omega arith in
    let size : end ≡ length xs - 1 = omega arith in
    let taken = c.swap_remove.result in
    let moved = c.index-last.ensures ∙ get_or_default xs end c.index-last.result.now taken last ∙ ap (λ k. get_or xs k taken) size in
    subst (λ ns. AreSpotted ns c.remove.new.self) (ap (λ x. take (length xs - 1) (set xs c.args.at x)) moved ∙ sym c.swap_remove.ensures.items)
    (spotted_swap xs c.args.at c.index-gone.result.now c.index-last.result.now end c.self.inside.spots c.shift.new.self c.remove.new.self within (omega arith)
    (c.index-gone.ensures ∙ get_or_default xs c.args.at c.index-gone.result.now 0 within) (c.index-last.ensures ∙ get_or_default xs end c.index-last.result.now 0 last) c.if-gone-last.false
    c.self.invariant c.in_ok-shift.ensures.ok c.remove.ensures)
