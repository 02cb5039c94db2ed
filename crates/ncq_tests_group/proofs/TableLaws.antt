-- What the tests keep about a table and its store.
use Rattle.std.proofs.Common.{◌≡◌, ℕ, ◌+◌, ◌-◌, ◌^◌, ◌<◌, ◌≤◌, sym, ap, ◌∙◌, subst, length, arith, inl, inr, Some, List}
use Rattle.std.specs.FinMap.{empty, get, insert}
use Rattle.std.specs.List.{AllByRecursion}
use Rattle.std.proofs.lemmas.Bool.{cases_eq}
use Rattle.std.proofs.lemmas.List.{length-map}
use Rattle.ncq_change.specs.Stores.{world_in}
use Rattle.ncq_feed.specs.Feeds.{AreFed, IsPreparedFrom, world_after}
use Rattle.ncq_feed.proofs.CallerLemmas.{world_committed}
use Rattle.ncq_feed.proofs.ContentLaws.{content_sound}
use Rattle.ncq_group.proofs.Empty.{nothing_there}
use Rattle.ncq_group.specs.Installs.{IsInstalled}
use Rattle.ncq_group.specs.Tables.{TableState}
use Rattle.ncq_midfile.specs.Content.{IsContent, IsSoundAt}
use Rattle.ncq_plan.specs.declared.expr.Expr.{Expr}
use Rattle.ncq_plan.specs.Exprs.{World, rows_in}
use Rattle.ncq_shelf.specs.Contents.{Fits, IsCompacted}
use Rattle.ncq_shelf.specs.KeptFiles.{KeptFile, Files}
use Rattle.ncq_shelf.specs.Stands.{IsThere}
use Rattle.ncq_shelf.proofs.CallerLemmas.{one_value, put_same, put_other}
use Rattle.ncq_source.specs.declared.change.Portion.{Portion}
use Rattle.ncq_source.specs.Stores.{without_room}
use Rattle.ncq_source.specs.StoreStates.{AreDeclared, IsAlike, IsCommitted, StoreState}
use Rattle.ncq_tests_group.specs.Tables.{StandsFor}

-- sources that are declared are so when there is more room
pub declared_alike : (store ready : StoreState) (change : List Portion) → IsAlike store ready → AreDeclared store change → AreDeclared ready change
declared_alike store ready change alike within =
    let same : length ready.sources ≡ length store.sources = sym (length-map ready.sources without_room) ∙ ap length alike.sources ∙ length-map store.sources without_room in
    subst (λ n. AllByRecursion (λ (portion : Portion). portion.source.0 < n) change) (sym same) within

-- a table without files fits every store
pub fits_at_first : (files : Files) (now : ℕ) (world : World) → files ≡ empty → Fits now world files
fits_at_first files now world none other file at = absurd (nothing_there files none other file at)

-- no file has a use yet
pub uses_at_first : (files : Files) → files ≡ empty → (number : ℕ) (file : KeptFile) → get files number ≡ Some file → file.uses < 2 ^ 64 - 1
uses_at_first files none number file at = absurd (nothing_there files none number file at)

-- a new file stands for each number
pub stands_installed : (store : StoreState) (expr : Expr) (old new : TableState) (file : ℕ) → old.next_file ≡ 0 → store.changes ≡ old.number → IsInstalled expr old new file
    → Fits old.number (world_in store) new.files → StandsFor store new
stands_installed store expr old new file none same installed fits = record {
  number = same ∙ sym installed.same;
  fits = subst (λ n. Fits n (world_in store) new.files) (sym installed.same) fits;
  each = λ number below.
      let there = installed.dense number (let l : old.next_file ≤ number = omega (arith, none) in l) below in
      record { file = there.0; at = there.1 };
}

-- a table that was fed stands for the store after the commit
pub stands_fed : (store ready after : StoreState) (change : List Portion) (old new : TableState) → StandsFor store old → IsPreparedFrom store change → IsAlike store ready
    → IsCommitted ready change after → AreFed store change old.files new.files → Fits new.number (world_after store change) new.files → new.number ≡ old.number + 1
    → new.next_file ≡ old.next_file → StandsFor after new
stands_fed store ready after change old new stands prepared alike done fed fits number next = record {
  number = done.changes ∙ ap (λ n. n + 1) (alike.changes ∙ stands.number) ∙ sym number;
  fits = subst (λ w. Fits new.number w new.files) (world_committed store ready after change (record { chains = prepared.chains; room = alike; committed = done })) fits;
  each = λ at below.
      let there = stands.each at (subst (λ n. at < n) next below) in
      let got = fed.each at there.file there.at in
      record { file = got.0; at = got.1 };
}

-- each file of a table that stands for a store is sound
pub stands_sound : (store : StoreState) (table : TableState) → StandsFor store table → (number : ℕ) (file : KeptFile) → get table.files number ≡ Some file
    → IsSoundAt table.number file.content.rows
stands_sound store table stands number file at = content_sound table.number file.content.rows (rows_in file.expr (world_in store)) (stands.fits number file at)

-- a table stands for the store when a file was compacted
pub stands_compacted : (store : StoreState) (old new : TableState) (at : ℕ) (file next : KeptFile) → StandsFor store old → get old.files at ≡ Some file
    → new.files ≡ insert old.files at next → IsCompacted old.number file next → new.number ≡ old.number → new.next_file ≡ old.next_file → StandsFor store new
stands_compacted store old new at file next stands here files compacted number more = record {
  number = stands.number ∙ sym number;
  fits = subst (λ n. Fits n (world_in store) new.files) (sym number) (subst (λ fs. Fits old.number (world_in store) fs) (sym files) fits_put);
  each = λ other below. subst (λ fs. IsThere fs other) (sym files) (there_put other (stands.each other (subst (λ n. other < n) more below)));
}
  where
    fits_put : Fits old.number (world_in store) (insert old.files at next)
    fits_put other kept there = elim (cases_eq other at) [
      | inl same ↦
          let is : kept ≡ next = one_value (subst (λ n. get (insert old.files at next) n ≡ Some kept) same there) (put_same old.files at next) in
          subst (λ (k : KeptFile). IsContent old.number k.content.rows (rows_in k.expr (world_in store))) (sym is)
          (subst (λ e. IsContent old.number next.content.rows (rows_in e (world_in store))) (sym compacted.expr)
          (compacted.stays old.number (rows_in file.expr (world_in store)) (omega arith) (stands.fits at file here)))
      | inr differs ↦ stands.fits other kept (sym (put_other old.files at next other differs) ∙ there)
    ]

    there_put : (other : ℕ) → IsThere old.files other → IsThere (insert old.files at next) other
    there_put other there = elim (cases_eq other at) [
      | inl same ↦ record { file = next; at = subst (λ n. get (insert old.files at next) n ≡ Some next) (sym same) (put_same old.files at next) }
      | inr differs ↦ record { file = there.file; at = put_other old.files at next other differs ∙ there.at }
    ]
