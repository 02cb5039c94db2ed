-- Subscriptions whose files were rolled back, and a subscription that goes out.
use Rattle.std.proofs.Common.{◌≡◌, ℕ, true, false, not, cond, List, [], ◌∷◌, refl, sym, ◌∙◌, ap, subst}
use Rattle.std.specs.Prelude.{Option, Some, None, IfSome, IfNone}
use Rattle.ncq_live.proofs.LiveTableLaws.{table_taken, taken_uses}
use Rattle.ncq_group.specs.Releases.{HasUse, IsReleased}
use Rattle.std.specs.FinMap.{get}
use Rattle.std.specs.List.{filter, AllByRecursion}
use Rattle.std.specs.Option.{option_map}
use Rattle.ncq_base.specs.declared.atom.FileId.{FileId}
use Rattle.ncq_shelf.specs.Contents.{cut_to}
use Rattle.ncq_shelf.specs.KeptFiles.{KeptFile, Files}
use Rattle.ncq_shelf.specs.Stands.{Stands}
use Rattle.ncq_group.specs.Tables.{TableState}
use Rattle.ncq_book.specs.declared.subscription.Subscription.{Subscription}
use Rattle.ncq_book.specs.Books.{is_of, subscription_of, InstallsRise}
use Rattle.ncq_live.specs.LiveTables.{IsLiveTable, plan_in}

-- a file that is left has the expression and the uses that it had
pub cut_back : (change : ℕ) (o : Option KeptFile) (file : KeptFile) → option_map (cut_to change) o ≡ Some file → (was : KeptFile) × (o ≡ Some was) × (cut_to change was ≡ file)
cut_back change None file e = absurd cc
cut_back change (Some was) file e = (was, refl, (let same : cut_to change was ≡ file = cc in same))

cut_files : (change : ℕ) (old new : Files) → ((number : ℕ) → get new number ≡ option_map (cut_to change) (get old number)) → (ms : List Subscription)
    → AllByRecursion (λ m. Stands old (plan_in m) m.file.0) ms → AllByRecursion (λ m. Stands new (plan_in m) m.file.0) ms
cut_files change old new cut [] h = tt
cut_files change old new cut (m ∷ ms) h =
    let s = h.0 in
    (record { file = cut_to change s.file; at = cut m.file.0 ∙ ap (option_map (cut_to change)) s.at; of = s.of }, cut_files change old new cut ms h.1)

-- rolled back, a live table stays one
pub table_cut : (change : ℕ) (old new : TableState) (subscriptions : List Subscription) → ((number : ℕ) → get new.files number ≡ option_map (cut_to change) (get old.files number)) → IsLiveTable old subscriptions → IsLiveTable new subscriptions
table_cut change old new subscriptions cut live_table = record {
  formed = live_table.formed;
  files = cut_files change old.files new.files cut subscriptions live_table.files;
  uses = λ number file at.
      let b = cut_back change (get old.files number) file (sym (cut number) ∙ at) in
      ap (λ (f : KeptFile). f.uses) (sym b.2) ∙ live_table.uses number b.0 b.1;
}

-- the subscription whose file it is
some_of : (o : Option Subscription) (file : FileId) → option_map (λ m. m.file) o ≡ Some file → (m : Subscription) × (o ≡ Some m) × (m.file ≡ file)
some_of None file e = absurd cc
some_of (Some m) file e = (m, refl, (let same : m.file ≡ file = cc in same))

module _ (old : TableState) (subscriptions : List Subscription) (live_table : IsLiveTable old subscriptions) (rise : InstallsRise subscriptions) (install : ℕ) (file : FileId) (is : option_map (λ m. m.file) (subscription_of install subscriptions) ≡ Some file) where
  -- a file that is given up has a use
  pub used_file : HasUse old.files file.0
  used_file =
      let m = some_of (subscription_of install subscriptions) file is in
      subst (λ (f : FileId). HasUse old.files f.0) m.2 (taken_uses old subscriptions live_table install m.0 rise m.1)

  pub table_left : (new : TableState) → IsReleased old.files file.0 new.files → IsLiveTable new (filter (λ m. not (is_of install m)) subscriptions)
  table_left new r =
      let m = some_of (subscription_of install subscriptions) file is in
      table_taken old subscriptions live_table install m.0 rise m.1 new (subst (λ (f : FileId). IsReleased old.files f.0 new.files) (sym m.2) r)

  pub released_one : (new : Files) → IsReleased old.files file.0 new → IfSome (subscription_of install subscriptions) (λ m. IsReleased old.files m.file.0 new)
  released_one new r =
      let m = some_of (subscription_of install subscriptions) file is in
      subst (λ o. IfSome o (λ m. IsReleased old.files m.file.0 new)) (sym m.1) (subst (λ (f : FileId). IsReleased old.files f.0 new) (sym m.2) r)

  pub not_none : (X : Type 0) → IfNone (subscription_of install subscriptions) X
  not_none X = let m = some_of (subscription_of install subscriptions) file is in subst (λ o. IfNone o X) (sym m.1) tt

-- nobody is gone
nobody_of : (o : Option Subscription) → option_map (λ m. m.file) o ≡ None → o ≡ None
nobody_of None e = refl
nobody_of (Some m) e = absurd cc

nobody_gone : (install : ℕ) (ms : List Subscription) → subscription_of install ms ≡ None → filter (λ m. not (is_of install m)) ms ≡ ms
nobody_gone install [] e = refl
nobody_gone install (m ∷ ms) e =
    elim (is_of install m) as (λ t. cond t (Some m) (subscription_of install ms) ≡ None → cond (not t) (m ∷ filter (λ m. not (is_of install m)) ms) (filter (λ m. not (is_of install m)) ms) ≡ m ∷ ms) [
      | true ↦ λ q. absurd cc
      | false ↦ λ q. ap (λ more. m ∷ more) (nobody_gone install ms q)
    ] e

pub all_left : (subscriptions : List Subscription) (install : ℕ) → option_map (λ m. m.file) (subscription_of install subscriptions) ≡ None → filter (λ m. not (is_of install m)) subscriptions ≡ subscriptions
all_left subscriptions install e = nobody_gone install subscriptions (nobody_of (subscription_of install subscriptions) e)

pub no_release : (subscriptions : List Subscription) (install : ℕ) (P : Subscription → Type 0) → option_map (λ m. m.file) (subscription_of install subscriptions) ≡ None → IfSome (subscription_of install subscriptions) P
no_release subscriptions install P e = subst (λ o. IfSome o P) (sym (nobody_of (subscription_of install subscriptions) e)) tt
