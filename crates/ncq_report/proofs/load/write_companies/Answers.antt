use Rattle.std.proofs.Common.{◌≡◌, ◌++◌, ◌∙◌, ap, arith}
use Rattle.std.specs.Prelude.{codes}
use Rattle.ncq_report.specs.Loads.{companies, block_end}
use Rattle.ncq_report.proofs.LoadLaws.{last_written}
use Rattle.ncq_report.proofs.load.write_companies.Goals as goal

pub returns-clause-ok : goal.returns-clause-ok
returns-clause-ok c =
    let begun = c.extend_from_slice.new.self.items in
    let all : c.loop-j.j ≡ 100 = omega arith in
    last_written _ c.args.out.now.items (codes "delta companies\n") (companies 100) block_end begun c.loop-j.out.items _
    c.in_ok-extend_from_slice.ensures.items
    (c.loop-j.invariant.so_far ∙ ap (λ j. begun ++ companies j) all)
    c.extend_from_slice-2.ensures.items
