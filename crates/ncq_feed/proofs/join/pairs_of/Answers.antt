use Rattle.std.proofs.Common.{sym, ◌∙◌}
use Rattle.ncq_feed.proofs.Variants.{join_parts}
use Rattle.ncq_feed.proofs.join.pairs_of.Goals as goal

pub unreachable-requires : goal.unreachable-requires
unreachable-requires c =
    let r = c.requires in
    c.in_default.not-Join r.first r.second r.pairs (c.expr.ensures r.stands.file r.stands.at ∙ r.stands.of)

pub returns : goal.returns
returns c = λ first second pairs s.
    (join_parts c.in-Join.left c.in-Join.right first second c.in-Join.pairs pairs (sym c.in-Join.is ∙ c.expr.ensures s.file s.at ∙ s.of)).2
