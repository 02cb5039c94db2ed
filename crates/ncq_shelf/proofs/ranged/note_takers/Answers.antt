use Rattle.std.proofs.Common.{ℕ, [], refl, inl, inr}
use Rattle.ncq_base.specs.declared.atom.FileId.{FileId}
use Rattle.ncq_shelf.specs.Keyed.{IsHeld, IsKey, nowhere}
use Rattle.ncq_shelf.proofs.KeyLaws.{all_step, held_more}
use Rattle.ncq_shelf.proofs.KeyedLaws.{grows_on}
use Rattle.ncq_shelf.proofs.ranged.note_takers.Goals as goal

pub returns-in_err-note_row-clause-grows : goal.returns-in_err-note_row-clause-grows
returns-in_err-note_row-clause-grows c = grows_on [] nowhere nowhere nowhere c.args.keys.now c.loop-file.keys c.note_row.new.self c.loop-file.invariant.grows c.note_row.ensures.grows (λ n s h. h) (λ n s h. h)

pub loop-file-preserved : goal.loop-file-preserved
loop-file-preserved c =
    let old = c.loop-file.keys in
    let new = c.note_row.new.self in
    record {
      grows = grows_on [] nowhere nowhere nowhere c.args.keys.now old new c.loop-file.invariant.grows c.note_row.ensures.grows (λ n s h. h) (λ n s h. h);
      done = all_step (λ (file : FileId). (slot : ℕ) → IsKey old file.0 slot → IsHeld old.holders file.0 slot c.args.row.now) (λ (file : FileId). (slot : ℕ) → IsKey new file.0 slot → IsHeld new.holders file.0 slot c.args.row.now)
          c.args.takers.now c.loop-file.file-index _ _ refl c.loop-file-test.true
          (λ file h slot key. elim (c.note_row.ensures.grows.only file.0 slot key) as (λ _. IsHeld new.holders file.0 slot c.args.row.now) [
            | inl was ↦ held_more old.holders new.holders c.note_row.ensures.grows.held file.0 slot c.args.row.now (h slot was)
            | inr nothing ↦ absurd nothing
          ]) c.loop-file.invariant.done c.in_ok-note_row.ensures.ok;
    }
