use Rattle.std.proofs.Common.{rules, ◌≡◌, ◌∷◌, ◌||◌, ◌∙◌, map, ap, sym}
use Rattle.std.specs.Vec.Iter.{into_iter_items}
use Rattle.ncq_base.specs.declared.atom.FileId.{FileId}
use Rattle.ncq_feed.specs.Runs.{is_among}
use Rattle.ncq_feed.proofs.PendingLaws.{noted_rest}
use Rattle.ncq_feed.proofs.pending.Pending.note_files.Goals as goal

pub loop-file-preserved : goal.loop-file-preserved
loop-file-preserved c = λ other.
    let e : into_iter_items c.loop-file.file-iterator ≡ c.in-Some.file ∷ into_iter_items c.next.new.self = search rules in
    noted_rest other c.in-Some.file.0 (map (λ (file : FileId). file.0) (into_iter_items c.next.new.self)) (map (λ (file : FileId). file.0) c.args.files) c.args.self.now c.loop-file.self c.note.new.self
    (ap (λ xs. is_among other (map (λ (file : FileId). file.0) xs) || is_among other c.loop-file.self) (sym e) ∙ c.loop-file.invariant other) (c.in_ok-note.ensures other)
