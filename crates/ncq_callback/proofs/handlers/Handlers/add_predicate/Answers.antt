use Rattle.std.proofs.Common.{sym, ◌∙◌, ap}
use Rattle.std.specs.Prelude.{position}
use Rattle.std.specs.Option.{is_some}
use Rattle.std.specs.Str.{bytes_eq}
use Rattle.ncq_plan.specs.Relations.{relations}
use Rattle.ncq_callback.proofs.LabelLaws.{not_some}
use Rattle.ncq_callback.proofs.handlers.Handlers.add_predicate.Goals as goal
use Rattle.ncq_callback.proofs.handlers.Handlers.add_predicate.Goals.{in-Ok, in-Err}

pub returns-clause-taken : goal.returns-clause-taken
returns-clause-taken g c = (
  λ e. elim c.match-push.branch [ in-Ok w ↦ (cc) | in-Err w ↦ (cc) ],
  λ h.
      absurd (not_some _
      (sym (
      c.is_some.ensures
      ∙ ap is_some (c.find_predicate.ensures ∙ ap (λ n. position (λ p. bytes_eq n p.0) (relations c.args.self.now.predicates.items (λ x. x.name) (λ x. x.relation))) (c.as_slice.ensures ∙ c.name.ensures)))
      ∙ c.if-is_some.false) h),
)
