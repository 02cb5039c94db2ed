-- The work of a change and of a create, from what the calls give.
use Rattle.std.proofs.Common.{◌≡◌, ◌∙◌, ◌+◌, ◌≤◌, ℕ, List, refl, subst, sym}
use Rattle.ncq_book.specs.declared.subscription.Subscription.{Subscription as Kept}
use Rattle.ncq_change.specs.Stores.{world_in}
use Rattle.ncq_feed.specs.Feeds.{feed_work}
use Rattle.ncq_group.specs.Installs.{NamesTheMissing, rows_of_all}
use Rattle.ncq_plan.specs.declared.expr.Expr.{Expr}
use Rattle.ncq_live.specs.LiveTables.{plan_in}
use Rattle.ncq_script.specs.declared.command.Command.TheVariants.{Create, Delta}
use Rattle.ncq_source.specs.declared.change.Portion.{Portion}
use Rattle.ncq_source.specs.declared.change.Section.{Section}
use Rattle.ncq_source.specs.StoreStates.{StoreState}
use Rattle.ncq_xmlql.specs.declared.model.Statement.{Statement}
use Rattle.ncq_engine.specs.Joins.{IsSubscriptionOf}
use Rattle.ncq_engine.specs.Stands.{EngineState}
use Rattle.ncq_engine.specs.Works.{IsWithinWork}
use Rattle.ncq_engine.proofs.ChangeAnswers.{IsReserved, mid_engine}
use Rattle.ncq_engine.proofs.ClockAnswers.{counted_engine}
use Rattle.ncq_engine.proofs.CreateAnswers.{planned_now, read_in}
use Rattle.ncq_engine.proofs.WorkLaws.{change_steps, create_steps}

module _ {was e : EngineState} (is : was ≡ e) (old new : ℕ) where
  -- the steps of feeding a change that was prepared are within the work of the delta
  pub change_work : {ready : StoreState} {changed : List Section} {change : List Portion} → IsReserved was changed change ready
      → new ≤ old + feed_work ready change was.table.files → IsWithinWork e (Delta changed) old new
  change_work {ready = ready} {changed = changed} {change = change} r cost =
      subst (λ (x : EngineState). IsWithinWork x (Delta changed) old new) is (λ h stands bound work.
      change_steps was ready changed change r.alike r.known r.tried r.prepares h stands.follows stands.shares (mid_engine was ready) refl bound work old new cost)

  -- the steps of adding a new subscription are within the work of the create
  pub join_work : (m : Kept) (plan : Expr) → plan ≡ plan_in m
      → ((missing : List Expr) → NamesTheMissing was.table.files plan missing → new ≤ old + rows_of_all (world_in was.store) missing)
      → (statement : Statement) → IsSubscriptionOf e statement m → IsWithinWork e (Create statement) old new
  join_work m plan planned cost statement its =
      let was_its : IsSubscriptionOf was statement m = subst (λ (x : EngineState). IsSubscriptionOf x statement m) (sym is) its in
      subst (λ (x : EngineState). IsWithinWork x (Create statement) old new) is (λ h stands bound work.
      create_steps was (counted_engine was) refl h stands.follows stands.shares statement m.query m.action (read_in was statement m was_its)
      plan (planned ∙ planned_now was statement m was_its) bound work old new cost)
