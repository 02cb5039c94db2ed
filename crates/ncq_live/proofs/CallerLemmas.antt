-- What crates above read of a live table: the file of a subscription.
use Rattle.std.proofs.Common.{◌≡◌, ℕ, List}
use Rattle.std.specs.Prelude.{Some}
use Rattle.std.specs.List.{Contains}
use Rattle.std.specs.FinMap.{get}
use Rattle.std.proofs.lemmas.List.Elements.{All-from_recursion, All-contains}
use Rattle.ncq_shelf.specs.KeptFiles.{KeptFile}
use Rattle.ncq_group.specs.Tables.{TableState}
use Rattle.ncq_book.specs.declared.subscription.Subscription.{Subscription}
use Rattle.ncq_book.specs.Books.{is_of, subscription_of}
use Rattle.ncq_book.proofs.Lists.{found_has}
use Rattle.ncq_live.specs.LiveTables.{IsLiveTable, plan_in}
use Rattle.ncq_live.proofs.LiveTableLaws.{HasFile}

module _ (table : TableState) (subscriptions : List Subscription) (live_table : IsLiveTable table subscriptions) where
  -- a subscription has the file of its plan
  pub subscription_has_file : (m : Subscription) → Contains subscriptions m → (file : KeptFile) × (get table.files m.file.0 ≡ Some file) × (file.expr ≡ plan_in m)
  subscription_has_file m here =
      let s = All-contains (HasFile table.files) subscriptions m (All-from_recursion (HasFile table.files) subscriptions live_table.files) here in
      (s.file, s.at, s.of)

  -- and so has the subscription of an install number
  pub found_has_file : (install : ℕ) (m : Subscription) → subscription_of install subscriptions ≡ Some m → (file : KeptFile) × (get table.files m.file.0 ≡ Some file) × (file.expr ≡ plan_in m)
  found_has_file install m found =
      let s = found_has (is_of install) (HasFile table.files) subscriptions m live_table.files found in
      (s.file, s.at, s.of)
