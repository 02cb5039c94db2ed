-- A table of live subscriptions with the files of their plans, as callers see it.
use Rattle.std.specs.Prelude.{◌≡◌, ℕ, List, [], ◌∷◌, ◌++◌, Some, nat_eq, refl}
use Rattle.std.specs.List.{AllByRecursion}
use Rattle.std.specs.FinMap.{get}
use Rattle.std.specs.Coded.{Coded, code_by, coded×}
use Rattle.ncq_base.specs.Keys.{times}
use Rattle.ncq_base.specs.declared.atom.FileId.{FileId}
use Rattle.ncq_plan.specs.declared.expr.Expr.{Expr}
use Rattle.ncq_plan.specs.WellFormed.{IsWellFormed}
use Rattle.ncq_strategy.specs.Choices.{plan_by}
use Rattle.ncq_shelf.specs.KeptFiles.{KeptFile}
use Rattle.ncq_shelf.specs.Stands.{Stands}
use Rattle.ncq_group.specs.Installs.{IsInstalled}
use Rattle.ncq_group.specs.Tables.{TableState, table_code}
use Rattle.ncq_book.specs.declared.subscription.Subscription.{Subscription}
use Rattle.ncq_book.specs.Books.{BookState, book_code}

-- the table of files, the subscriptions in the order of their creates, and the instant of the clock
pub record LiveState : Type 0 where
  pub table : TableState
  pub subscriptions : List Subscription
  pub instant : ℕ

-- how a live table is written as a value
abbrev pub live_code : Coded LiveState
live_code =
    code_by (TableState × BookState) (coded× table_code book_code)
    (λ r. (r.table, record { subscriptions = r.subscriptions; instant = r.instant }))
    (λ p. record { table = p.0; subscriptions = p.1.subscriptions; instant = p.1.instant }) (λ _.
    refl)

-- the plan of a subscription
abbrev pub plan_in : Subscription → Expr
plan_in m = plan_by m.choice m.query

-- each subscription has the file of its plan, and each file is used by exactly its subscriptions
pub record IsLiveTable (table : TableState) (subscriptions : List Subscription) : Type 0 where
  pub formed : AllByRecursion (λ m. IsWellFormed m.query) subscriptions
  pub files : AllByRecursion (λ m. Stands table.files (plan_in m) m.file.0) subscriptions
  pub uses : (number : ℕ) (file : KeptFile) → get table.files number ≡ Some file
      → file.uses ≡ times (λ m. nat_eq m.file.0 number) subscriptions

-- the subscription came in behind the others with the file of the plan, which has one use more
pub record HasJoined (plan : Expr) (subscription : Subscription) (old new : LiveState) : Type 0
  where
    pub file : FileId
    pub installed : IsInstalled plan old.table new.table file.0
    pub subscriptions : new.subscriptions
        ≡ old.subscriptions ++ record subscription { file = file } ∷ []
