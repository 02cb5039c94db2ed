-- A create that is given up: the subscription goes, and the files are those before it came.
use Rattle.std.proofs.Common.{◌≡◌, ℕ, ◌<◌, ◌≤◌, ◌==◌, true, false, not, cond, List, [], ◌∷◌, ◌++◌, ◌∙◌, ap, subst, arith}
use Rattle.std.specs.Prelude.{Option, Some, None, IfSome}
use Rattle.std.specs.List.{filter, AllByRecursion}
use Rattle.std.proofs.lemmas.Bool.Decides.{nat_tests}
use Rattle.std.specs.FinMap.{get}
use Rattle.std.specs.Option.{option_map}
use Rattle.ncq_book.specs.declared.subscription.Subscription.{Subscription as Kept}
use Rattle.ncq_book.specs.Books.{is_of, subscription_of}
use Rattle.ncq_group.specs.Releases.{IsReleased}
use Rattle.ncq_group.specs.Tables.{TableState, Facts, mark_of}
use Rattle.ncq_group.specs.declared.mark.GroupMark.{GroupMark}
use Rattle.ncq_plan.specs.declared.expr.Expr.{Expr}
use Rattle.ncq_live.specs.LiveTables.{HasJoined, LiveState}
use Rattle.ncq_live.proofs.UndoLaws.{at_mark, table_back}
use Rattle.ncq_shelf.specs.Contents.{cut_to}
use Rattle.ncq_shelf.specs.KeptFiles.{KeptFile}

-- an install number above those of subscriptions is that of none of them
not_of : (install : ℕ) (m : Kept) → m.install < install → is_of install m ≡ false
not_of install m low = let w : m.install == install ≡ false = grind (arith, nat_tests, low) in w

own_of : (install : ℕ) (m : Kept) → m.install ≡ install → is_of install m ≡ true
own_of install m same = let w : m.install == install ≡ true = grind (arith, nat_tests, same) in w

-- without the last of them, which has this number, the others are left
without_last : (install : ℕ) (ms : List Kept) (new : Kept) → AllByRecursion (λ m. m.install < install) ms → new.install ≡ install → filter (λ m. not (is_of install m)) (ms ++ new ∷ []) ≡ ms
without_last install [] new below same = λ i. cond (not (own_of install new same i)) (new ∷ []) []
without_last install (m ∷ ms) new below same =
    (λ i. cond (not (not_of install m below.0 i)) (m ∷ filter (λ m. not (is_of install m)) (ms ++ new ∷ [])) (filter (λ m. not (is_of install m)) (ms ++ new ∷ [])))
    ∙ ap (λ more. m ∷ more) (without_last install ms new below.1 same)

-- and that one is found by it
last_found : (install : ℕ) (ms : List Kept) (new : Kept) → AllByRecursion (λ m. m.install < install) ms → new.install ≡ install → subscription_of install (ms ++ new ∷ []) ≡ Some new
last_found install [] new below same = λ i. cond (own_of install new same i) (Some new) None
last_found install (m ∷ ms) new below same =
    (λ i. cond (not_of install m below.0 i) (Some m) (subscription_of install (ms ++ new ∷ [])))
    ∙ last_found install ms new below.1 same

-- what a subscription that came in leaves when it goes again: all is as before it came
module _ (plan : Expr) (subscription : Kept) (old mid low : LiveState) (joined : HasJoined plan subscription old mid) (facts : Facts old.table) (mid_facts : Facts mid.table)
    (install : ℕ) (below : AllByRecursion (λ m. m.install < install) old.subscriptions) (own : subscription.install ≡ install)
    (gone : low.subscriptions ≡ filter (λ m. not (is_of install m)) mid.subscriptions) (released : IfSome (subscription_of install mid.subscriptions) (λ m. IsReleased mid.table.files m.file.0 low.table.files)) where
  abbrev new : Kept
  new = record subscription { file = joined.file }

  found : subscription_of install mid.subscriptions ≡ Some new
  found = ap (subscription_of install) joined.subscriptions ∙ last_found install old.subscriptions new below own

  released_here : IsReleased mid.table.files joined.file.0 low.table.files
  released_here = subst (λ (o : Option Kept). IfSome o (λ m. IsReleased mid.table.files m.file.0 low.table.files)) found released

  pub subscriptions_back : low.subscriptions ≡ old.subscriptions
  subscriptions_back = gone ∙ ap (filter (λ m. not (is_of install m))) joined.subscriptions ∙ without_last install old.subscriptions new below own

  pub at_mark_again : (mark : GroupMark) → mark ≡ mark_of old.table → (number : ℕ) (file : KeptFile) → get low.table.files number ≡ Some file → (file.content.base ≤ mark.number) × (number < mark.next_file)
  at_mark_again = at_mark plan old.table mid.table joined.file.0 joined.installed facts mid_facts low.table.files released_here

  pub table_again : (mark : GroupMark) (back : TableState) → mark ≡ mark_of old.table → back.number ≡ mark.number → back.next_file ≡ mark.next_file
      → ((number : ℕ) → get back.files number ≡ option_map (cut_to mark.number) (get low.table.files number)) → back ≡ old.table
  table_again = table_back plan old.table mid.table joined.file.0 joined.installed facts mid_facts low.table.files released_here
