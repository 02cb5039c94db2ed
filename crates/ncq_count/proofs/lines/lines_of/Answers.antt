use Rattle.std.proofs.Common.{◌++◌, map, sym, subst}
use Rattle.ncq_signature.specs.Groups.{line_of}
use Rattle.ncq_count.specs.FileExprs.{exprs_of}
use Rattle.ncq_count.proofs.LineLaws.{AreRight, signatures_of, all_right, are_signatures, line_is, line_more, lines_all}
use Rattle.ncq_count.proofs.lines.lines_of.Goals as goal

pub loop-key-init : goal.loop-key-init
loop-key-init c =
    let files = c.args.shelf.now in
    let made = c.into_iter-key-iterator.ensures.into_iter_gives in
    record {
      right = subst (AreRight files) (sym made.0) (all_right files c.requires.grounded c.args.counts.now.entries c.requires.counted made.4);
      left = λ i. c.new-lines.ensures.items i ++ map (line_of (exprs_of files)) (signatures_of files (made.0 i));
    }

pub line-requires : goal.line-requires
line-requires c =
    let all = subst (AreRight c.args.shelf.now) c.in-Some.ensures.steps c.loop-key.invariant.right in
    record { file = all.0.tells.stands.file; at = all.0.tells.stands.at }

pub loop-key-preserved : goal.loop-key-preserved
loop-key-preserved c =
    let files = c.args.shelf.now in
    let all = subst (AreRight files) c.in-Some.ensures.steps c.loop-key.invariant.right in
    record {
      right = all.1;
      left = line_more files c.in-Some.key.now c.in-Some.count.now c.loop-key.key-iterator c.next.new.self all.0 c.loop-key.lines.items c.push.new.self.items _ c.in_ok-line.field-0
          c.in-Some.ensures.steps c.in_ok-push.ensures.items (line_is files c.in-Some.key.now c.in-Some.count.now all.0 c.in_ok-line.field-0 c.in_ok-line.ensures) c.loop-key.invariant.left;
    }

pub returns : goal.returns
returns c =
    let files = c.args.shelf.now in
    let made = c.into_iter-key-iterator.ensures.into_iter_gives in
    let entries = c.args.counts.now.entries in (
      signatures_of files entries,
      are_signatures files c.requires.grounded entries c.requires.counted made.4,
      lines_all files c.loop-key.key-iterator c.loop-key.lines.items _ c.in-None.ensures.steps.0 c.loop-key.invariant.left,
    )
