use Rattle.std.proofs.Common.{◌≡◌, ℕ, ◌||◌, map}
use Rattle.std.specs.Vec.Iter.{into_iter_items}
use Rattle.ncq_base.specs.declared.atom.FileId.{FileId}
use Rattle.ncq_feed.specs.Runs.{is_among}
use Rattle.ncq_feed.proofs.pending.Pending.note_files.Given as goal

abbrev pub invariant-loop-file : goal.invariant-loop-file
invariant-loop-file l = (other : ℕ) → (is_among other (map (λ (file : FileId). file.0) (into_iter_items l.file-iterator)) || is_among other l.self)
    ≡ (is_among other (map (λ (file : FileId). file.0) l.fn.files) || is_among other l.initial.self)
