-- The files of a live table are those of the parts of its subscriptions' plans.
use Rattle.std.proofs.Common.{◌≡◌, ℕ, ◌+◌, ◌<◌, true, false, cond, List, [], ◌∷◌, map, refl, sym, ◌∙◌, ap, subst, arith, inl, inr}
use Rattle.std.specs.Prelude.{Some, nat_eq}
use Rattle.std.specs.FinMap.{get}
use Rattle.std.specs.List.{AllByRecursion}
use Rattle.std.proofs.lemmas.Bool.Decides.{nat_tests}
use Rattle.ncq_base.specs.Keys.{times}
use Rattle.ncq_plan.specs.declared.expr.Expr.{Expr}
use Rattle.ncq_shelf.specs.Parts.{IsPart, IsPartOfOne}
use Rattle.ncq_shelf.specs.KeptFiles.{KeptFile, Files}
use Rattle.ncq_shelf.specs.Stands.{Stands}
use Rattle.ncq_group.specs.Tables.{TableState, Facts}
use Rattle.ncq_group.proofs.Closures.{keeps_the_live}
use Rattle.ncq_book.specs.declared.subscription.Subscription.{Subscription}
use Rattle.ncq_shelf.specs.Ranges.{ShareRows}
use Rattle.ncq_live.specs.LiveTables.{IsLiveTable, plan_in}
use Rattle.ncq_live.specs.Shares.{Shares}

module _ (files : Files) where
  -- a file that is used is that of a subscription's plan
  some_user : (number : ℕ) (file : KeptFile) → get files number ≡ Some file → (expr : Expr) → IsPart expr file.expr → (ms : List Subscription)
      → AllByRecursion (λ m. Stands files (plan_in m) m.file.0) ms → 0 < times (λ m. nat_eq m.file.0 number) ms → IsPartOfOne expr (map plan_in ms)
  some_user number file at expr part [] stands used = absurd (let n : ⊥ = omega (arith, used) in n)
  some_user number file at expr part (m ∷ ms) stands used =
      elim (nat_eq m.file.0 number) as (λ t. nat_eq m.file.0 number ≡ t → 0 < cond {A = ℕ} t 1 0 + times (λ m. nat_eq m.file.0 number) ms → IsPartOfOne expr (map plan_in (m ∷ ms))) [
        | true ↦ λ e u.
            let same : m.file.0 ≡ number = grind (arith, nat_tests, e) in
            let own = stands.0 in
            let one : Some own.file ≡ Some file = sym own.at ∙ ap (get files) same ∙ at in
            let is : own.file ≡ file = cc in
            inl (subst (IsPart expr) (ap (λ (k : KeptFile). k.expr) (sym is) ∙ own.of) part)
        | false ↦ λ e u. inr (some_user number file at expr part ms stands.1 (omega (arith, u)))
      ] refl used

  -- a subscription whose plan has the part
  record Planner (ms : List Subscription) (expr : Expr) : Type 0 where
    pub subscription : Subscription
    pub stands : Stands files (plan_in subscription) subscription.file.0
    pub part : IsPart expr (plan_in subscription)
    pub used : 0 < times (λ n. nat_eq n.file.0 subscription.file.0) ms

  planner : (expr : Expr) (ms : List Subscription) → AllByRecursion (λ m. Stands files (plan_in m) m.file.0) ms → IsPartOfOne expr (map plan_in ms) → Planner ms expr
  planner expr [] stands planned = absurd planned
  planner expr (m ∷ ms) stands (inl part) =
      let same : nat_eq m.file.0 m.file.0 ≡ true = grind (arith, nat_tests) in
      record {
        subscription = m;
        stands = stands.0;
        part = part;
        used = subst (λ t. 0 < cond {A = ℕ} t 1 0 + times (λ n. nat_eq n.file.0 m.file.0) ms) (sym same) (omega arith);
      }
  planner expr (m ∷ ms) stands (inr rest) =
      let p = planner expr ms stands.1 rest in
      let u = p.used in
      record {
        subscription = p.subscription;
        stands = p.stands;
        part = p.part;
        used = elim (nat_eq m.file.0 p.subscription.file.0) as (λ t. 0 < cond {A = ℕ} t 1 0 + times (λ n. nat_eq n.file.0 p.subscription.file.0) ms) [ true ↦ omega (arith, u) | false ↦ omega (arith, u) ];
      }

pub shares : (table : TableState) (subscriptions : List Subscription) → Facts table → ShareRows table.files → IsLiveTable table subscriptions → Shares subscriptions table
shares table subscriptions facts shared live_table = record {
  kept = λ expr. (
    λ kept.
        let live = ((keeps_the_live table facts).0 expr).0 kept in
        let uses = live_table.uses live.number live.file live.at in
        let used = live.used in
        some_user table.files live.number live.file live.at expr live.part subscriptions live_table.files (omega (arith, uses, used)),
    λ planned.
        let p = planner table.files expr subscriptions live_table.files planned in
        let uses = live_table.uses p.subscription.file.0 p.stands.file p.stands.at in
        let used = p.used in
        ((keeps_the_live table facts).0 expr).1 (record {
          number = p.subscription.file.0;
          file = p.stands.file;
          at = p.stands.at;
          used = omega (arith, uses, used);
          part = subst (IsPart expr) (sym p.stands.of) p.part;
        }),
  );
  facts = facts;
  shared = shared;
  live_table = live_table;
}
