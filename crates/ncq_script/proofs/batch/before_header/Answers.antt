use Rattle.std.proofs.Common.{◌∷◌, [], length, length-append, ap, arith, subst, sym}
use Rattle.std.specs.List.{AllByRecursion}
use Rattle.ncq_script.proofs.BatchLaws.{one_more, plain_more, starts_header, starts_none}
use Rattle.ncq_script.proofs.GroupLaws.{Plain}
use Rattle.ncq_script.proofs.batch.before_header.Goals as goal
use Rattle.ncq_script.proofs.batch.before_header.Goals.{in-Some+then-is_header, in_default}

pub loop-line-preserved : goal.loop-line-preserved
loop-line-preserved c =
    let l = c.loop-line in
    let line = c.in-Some.line.now in
    let more = c.in-Some.behind.now in
    let pushed = c.in_ok-push.ensures.ok in
    let longer = ap length pushed in
    let shorter = ap length c.in-Some.ensures.1 in
    record {
      split = one_more _ l.lines _ l.left.text.now line more l.invariant.split c.in-Some.ensures.0 c.in-Some.ensures.1 pushed;
      plain = subst (AllByRecursion Plain) (sym pushed) (plain_more l.lines line l.invariant.plain (sym c.if-is_header.ensures));
      number = omega (arith, longer, l.invariant.number, length-append l.lines (line ∷ []));
      few = omega (arith, shorter, l.invariant.few, length-append line (10 ∷ more));
    }

pub returns-clause-parted : goal.returns-clause-parted
returns-clause-parted c =
    let l = c.loop-line in
    record {
      split = l.invariant.split;
      plain = l.invariant.plain;
      starts = elim c.match-first_line.branch [
        | in-Some+then-is_header w ↦ starts_header l.left.text.now w.in-Some.line.now w.in-Some.behind.now w.in-Some.ensures.0 w.in-Some.ensures.1 (sym w.if-is_header.ensures)
        | in_default w ↦ starts_none l.left.text.now w.in_default.ensures
      ];
    }
