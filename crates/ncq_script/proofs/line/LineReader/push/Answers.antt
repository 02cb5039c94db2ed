use Rattle.std.proofs.Common.{◌≡◌, ◌≤◌, ◌++◌, ℕ, List, false, length, drop, ap, ◌∙◌, rules}
use Rattle.std.proofs.lemmas.List.{drop-append-le}
use Rattle.ncq_script.specs.LineReading.{LineState}
use Rattle.ncq_script.proofs.Follow.{pushed_piece}
use Rattle.ncq_script.proofs.line.LineReader.push.Goals as goal

pub returns-clause-ok : goal.returns-clause-ok
returns-clause-ok c =
    let within : c.self.inside.at ≤ length c.self.inside.pending.items = search rules in
    let e : drop c.self.inside.at c.extend_from_slice.new.self.items ≡ drop c.self.inside.at c.self.inside.pending.items ++ c.args.piece.now =
    ap (λ (xs : List ℕ). drop c.self.inside.at xs) c.in_ok-extend_from_slice.ensures.items ∙ drop-append-le c.self.inside.at c.self.inside.pending.items c.args.piece.now within in
    let is_open : c.self.inside.finished ≡ false = ap (λ (r : LineState). r.finished) c.self.view_is ∙ c.requires in
    rw (← c.self.view_is) (pushed_piece _ _ _ _ _ _ _ is_open e)
