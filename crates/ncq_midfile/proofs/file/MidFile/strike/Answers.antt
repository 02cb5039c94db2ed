use Rattle.std.proofs.Common.{◌≡◌, ◌≤◌, ◌++◌, List, sym, ap, subst}
use Rattle.ncq_base.specs.Counts.{SameCounts}
use Rattle.ncq_midfile.specs.Content.{IsBalanced, gains, losses}
use Rattle.ncq_midfile.specs.Files.{FileState}
use Rattle.std.specs.List.{AllByRecursion}
use Rattle.ncq_midfile.specs.declared.signed.SignedRow.{SignedRow}
use Rattle.ncq_midfile.proofs.FileLaws.{found_by_none}
use Rattle.ncq_midfile.proofs.Kept.{file_there}
use Rattle.ncq_midfile.proofs.LeftAt.{all_left}
use Rattle.ncq_midfile.proofs.StrikeLaws.{sound_balanced, struck_there, struck_content}
use Rattle.ncq_midfile.proofs.file.MidFile.strike.Goals as goal

pub strike_all-requires : goal.strike_all-requires
strike_all-requires c =
    let old : c.self.inside.rows.items ≡ c.args.self.now.rows = ap (λ (f : FileState). f.rows) c.self.view_is in
    subst IsBalanced (sym old) (sound_balanced c.args.n c.args.self.now.rows c.requires.last c.requires.sound)

pub invariant_of-self : goal.invariant_of-self
invariant_of-self c =
    let n = c.args.n in
    let new = c.strike_all.new.rows.items in
    let old : c.self.inside.rows.items ≡ c.args.self.now.rows = ap (λ (f : FileState). f.rows) c.self.view_is in
    let last = subst (AllByRecursion (λ r. r.number ≤ n)) (sym old) c.requires.last in
    found_by_none n _ _ (file_there n new (struck_there n new c.strike_all.ensures.came (c.strike_all.ensures.numbers n last))) c.clear.ensures.items

pub returns-clause-left : goal.returns-clause-left
returns-clause-left c =
    let n = c.args.n in
    let new = c.strike_all.new.rows.items in
    let rows = c.args.self.now.rows in
    let old : c.self.inside.rows.items ≡ rows = ap (λ (f : FileState). f.rows) c.self.view_is in
    let last = subst (AllByRecursion (λ r. r.number ≤ n)) (sym old) c.requires.last in
    all_left n rows new c.requires.last (struck_there n new c.strike_all.ensures.came (c.strike_all.ensures.numbers n last))
    (struck_content n rows new c.requires.last c.strike_all.ensures.came
    (subst (λ (rs : List SignedRow). SameCounts (gains new ++ losses rs) (gains rs)) old c.strike_all.ensures.counts))
