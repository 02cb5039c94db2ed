use Rattle.std.proofs.Common.{◌≡◌, ◌<◌, ◌+◌, ◌||◌, [], ◌∷◌, ◌++◌, take, length, get_or, arith, ap, sym, ◌∙◌}
use Rattle.std.proofs.lemmas.List.{take_all, take_more}
use Rattle.ncq_feed.specs.Runs.{is_among}
use Rattle.ncq_feed.proofs.PendingLaws.{noted_more}
use Rattle.ncq_feed.proofs.pending.Pending.note_all.Goals as goal

pub loop-number-preserved : goal.loop-number-preserved
loop-number-preserved c = λ other.
    let i = c.loop-number.number-index in
    let numbers = c.args.numbers.now in
    let h : i < length numbers = omega arith in
    let e : take (i + 1) numbers ≡ take i numbers ++ get_or numbers i 0 ∷ [] = take_more numbers i 0 h in
    noted_more other (get_or numbers i 0) (take i numbers) c.args.self.now c.loop-number.self c.note.new.self (c.loop-number.invariant other) (c.in_ok-note.ensures other)
    ∙ ap (λ front. is_among other front || is_among other c.args.self.now) (sym e)

pub returns : goal.returns
returns c = λ other.
    c.loop-number.invariant other ∙ ap (λ front. is_among other front || is_among other c.args.self.now) (take_all c.loop-number.number-index c.args.numbers.now (omega arith))
