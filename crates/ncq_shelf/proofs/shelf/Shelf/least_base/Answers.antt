use Rattle.std.proofs.Common.{refl, arith}
use Rattle.ncq_base.specs.declared.atom.FileId.{FileId}
use Rattle.ncq_shelf.specs.Bounds.{IsBelowBase}
use Rattle.ncq_shelf.proofs.FoldBounds.{below_least}
use Rattle.ncq_shelf.proofs.KeyLaws.{all_step, all_end}
use Rattle.ncq_shelf.proofs.shelf.Shelf.least_base.Goals as goal

pub loop-file-preserved : goal.loop-file-preserved
loop-file-preserved c =
    let files = c.args.self.now in
    let old = c.loop-file.least in
    let new = c.min-least.result in
    all_step (λ (file : FileId). IsBelowBase files old file.0) (λ (file : FileId). IsBelowBase files new file.0) c.args.files.now c.loop-file.file-index _ _ refl c.loop-file-test.true
    (λ file h. below_least files old new file.0 (omega (arith, c.min-least.ensures)) h) c.loop-file.invariant
    (below_least files c.base_at.result new _ (omega (arith, c.min-least.ensures)) c.base_at.ensures)

pub returns : goal.returns
returns c =
    let none = c.loop-file-test.false in
    all_end (λ (file : FileId). IsBelowBase c.args.self.now c.loop-file.least file.0) c.args.files.now c.loop-file.file-index (omega arith) c.loop-file.invariant
