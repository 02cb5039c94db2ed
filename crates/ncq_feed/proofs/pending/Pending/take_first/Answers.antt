use Rattle.std.proofs.Common.{◌≡◌, ℕ, ◌<◌, true, sym, subst}
use Rattle.std.specs.Prelude.{IfSome}
use Rattle.ncq_feed.specs.Pending.{numbers_in}
use Rattle.ncq_feed.specs.Runs.{is_among}
use Rattle.ncq_feed.proofs.TreeLaws.{above_first}
use Rattle.ncq_feed.proofs.pending.Pending.take_first.Goals as goal
use Rattle.ncq_feed.proofs.pending.Pending.take_first.Goals.{in-Few, in-Many}

pub returns-clause-above : goal.returns-clause-above
returns-clause-above c = elim c.match-self.branch [
  | in-Few w ↦
      subst (λ r. IfSome r (λ number. (other : ℕ) → is_among other (numbers_in c.match-self.self-inside.kept) ≡ true → number < other)) (sym w.result-is)
      (subst (λ inside. IfSome w.take_first.result (λ number. (other : ℕ) → is_among other (numbers_in inside.kept) ≡ true → number < other)) (sym w.self-inside-is) w.take_first.ensures.above)
  | in-Many w ↦
      subst (λ r. IfSome r (λ number. (other : ℕ) → is_among other (numbers_in c.match-self.self-inside.kept) ≡ true → number < other)) (sym w.result-is)
      (subst (λ inside. IfSome w.pop_first.result (λ number. (other : ℕ) → is_among other (numbers_in inside.kept) ≡ true → number < other)) (sym w.self-inside-is)
      (above_first w.pop_first.result w.pop_first.new.self.keys w.pop_first.ensures.all_above))
]
