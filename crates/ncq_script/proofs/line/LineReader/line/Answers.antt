use Rattle.std.proofs.Common.{◌≡◌, ◌∙◌, ℕ, List, ap, drop, length, rules, take}
use Rattle.ncq_base.specs.Lines.{IsClean}
use Rattle.ncq_script.proofs.Follow.{alone_line}
use Rattle.ncq_script.proofs.line.LineReader.line.Goals as goal

pub returns-then-is_empty-clause-line : goal.returns-then-is_empty-clause-line
returns-then-is_empty-clause-line c =
    let none : length c.self.inside.kept.items ≡ 0 = search rules in
    let seen : c.cut.result.now ≡ take c.args.len (drop c.self.inside.at c.self.inside.pending.items) =
    c.cut.ensures ∙ ap (take c.args.len) (c.ahead_of.ensures ∙ ap (λ (xs : List ℕ). drop c.self.inside.at xs) c.deref.ensures.value) in
    rw (← c.self.view_is) (alone_line _ _ _ _ c.cut.result.now c.args.len _ none seen c.line_at.ensures.line)

pub returns-then-is_empty-clause-clean : goal.returns-then-is_empty-clause-clean
returns-then-is_empty-clause-clean c =
    let seen : c.cut.result.now ≡ take c.args.len (drop c.self.inside.at c.self.inside.pending.items) =
    c.cut.ensures ∙ ap (take c.args.len) (c.ahead_of.ensures ∙ ap (λ (xs : List ℕ). drop c.self.inside.at xs) c.deref.ensures.value) in
    let ahead : IsClean (take c.args.len (drop c.self.inside.at c.self.inside.pending.items)) = rw (← c.self.view_is) at c.requires.clean in
    c.line_at.ensures.clean (rw seen ahead)
