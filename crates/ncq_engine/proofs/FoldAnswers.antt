-- Bases that are raised and rows that are folded, from what the calls give.
use Rattle.std.proofs.Common.{◌≡◌, ℕ, ◌≤◌, [], sym, subst, arith, refl}
use Rattle.std.specs.Prelude.{Result, Ok, Err, OnOk, OnErr}
use Rattle.std.specs.FinMap.{insert}
use Rattle.ncq_live.specs.LiveTables.{LiveState}
use Rattle.ncq_shelf.specs.Contents.{AreFolded, AreUpTo, IsRaised}
use Rattle.ncq_shelf.specs.KeptFiles.{AtFile, KeptFile}
use Rattle.ncq_shelf.specs.Stands.{IsThere}
use Rattle.ncq_engine.specs.Compactions.{least_of}
use Rattle.ncq_engine.specs.Stands.{EngineState}
use Rattle.ncq_engine.proofs.CompactAnswers.{table_alone}
use Rattle.ncq_engine.proofs.GivenUp.{with_parts}
use Rattle.ncq_engine.proofs.InvariantLaws.{Invariant, invariant_same}
use Rattle.ncq_engine.proofs.MovedBases.{AreMoved, HaveMoved, bases_moved, folded_moved, follows_moved, invariant_moved, raised_moved, still_moved}

-- what a raised base leaves
pub raised : (e : EngineState) (number least : ℕ) → least ≡ least_of e number → IsThere e.table.files number → (live_table : LiveState)
    → AtFile e.table.files number (λ kept. kept.content.base ≤ least)
    → AtFile e.table.files number (λ kept. (next : KeptFile) × (live_table.table.files ≡ insert e.table.files number next) × IsRaised least kept next) → AreMoved e live_table.table.files
raised e number least is there live_table low each =
    let made = each there.file there.at in
    let under = low there.file there.at in
    raised_moved e number live_table.table.files there.file made.0 there.at made.1 (subst (λ n. IsRaised n there.file made.0) is made.2) (let l : there.file.content.base ≤ least_of e number = omega (arith, under, is) in l)

-- what a fold leaves, also where memory ran out
pub folded : {T E : Type 0} (e : EngineState) (live_table : LiveState) (result : Result T E) → OnOk result (AreFolded e.table.files live_table.table.files) → OnErr result (live_table.table ≡ e.table) → AreMoved e live_table.table.files
folded e live_table (Ok x) done same = folded_moved e live_table.table.files done
folded e live_table (Err x) done same = subst (λ t. AreMoved e t.files) (sym same) (still_moved e)

-- the engine with a live table whose files are so moved
module _ (was : EngineState) (live_table : LiveState) (moved : AreMoved was live_table.table.files) (number : live_table.table.number ≡ was.table.number) (next_file : live_table.table.next_file ≡ was.table.next_file)
    (subscriptions : live_table.subscriptions ≡ was.subscriptions) where
  pub moved_holds : AreUpTo was.table.number was.table.files → was.cache ≡ [] → Invariant was → Invariant (record was { subscriptions = live_table.subscriptions; table = live_table.table })
  moved_holds upto nothing holds = invariant_same (record was { table = live_table.table }) live_table subscriptions refl (invariant_moved was live_table.table moved number next_file upto nothing holds)

  pub have_moved : (e : EngineState) → was ≡ e → live_table.instant ≡ was.clock → HaveMoved e (with_parts was was.store live_table)
  have_moved e is instant =
      subst (λ (x : EngineState). HaveMoved x (with_parts was was.store live_table)) is
      (subst (HaveMoved was) (sym (table_alone was live_table subscriptions instant))
      (record { same = refl; follows = follows_moved was live_table.table moved number next_file; bases = bases_moved was live_table.table moved number next_file }))
