use Rattle.std.proofs.Common.{◌≡◌, ◌≤◌, List, ap, ◌∙◌, subst, arith}
use Rattle.std.specs.List.{AllByRecursion}
use Rattle.std.proofs.lemmas.Result.{on_ok_weaker}
use Rattle.ncq_midfile.specs.Files.{FileState}
use Rattle.ncq_midfile.specs.declared.signed.SignedRow.{SignedRow}
use Rattle.ncq_midfile.proofs.LeftAt.{left_stays}
use Rattle.ncq_midfile.proofs.Sounds.{all_up}
use Rattle.ncq_midfile.proofs.file.MidFile.compact.Goals as goal

pub returns-then-last_number-n-clause-stays : goal.returns-then-last_number-n-clause-stays
returns-then-last_number-n-clause-stays c =
    on_ok_weaker c.gather.result (λ left at list up content. left_stays c.args.n at c.args.self.now.rows c.gather.new.self.rows left up list content) c.gather.ensures.left

pub compact_all-requires-clause-last : goal.compact_all-requires-clause-last
compact_all-requires-clause-last c =
    let old : c.as_slice.result.now ≡ c.args.self.now.rows = c.as_slice.ensures.value ∙ ap (λ (f : FileState). f.rows) c.self.view_is in
    let few = c.if-last_number-n.false in
    all_up c.last_number.result c.args.n (omega arith) c.args.self.now.rows
    (subst (λ (rs : List SignedRow). AllByRecursion (λ r. r.number ≤ c.last_number.result) rs) old c.last_number.ensures.rows)

pub returns-clause-stays : goal.returns-clause-stays
returns-clause-stays c =
    on_ok_weaker c.compact_all.result (λ left at list up content. left_stays c.args.n at c.args.self.now.rows c.compact_all.new.self.rows left up list content) c.compact_all.ensures.left
