-- A file that is compacted, or left, from what the calls give.
use Rattle.std.proofs.Common.{◌≡◌, ◌≢◌, ℕ, ◌<◌, ◌≤◌, ◌⊎◌, [], sym, ◌∙◌, ap, subst, arith, inl, inr}
use Rattle.std.specs.Prelude.{Result, Ok, Err, Some, OnOk, OnErr}
use Rattle.std.specs.FinMap.{get, insert}
use Rattle.ncq_live.specs.LiveTables.{LiveState}
use Rattle.ncq_midfile.specs.Content.{IsSoundAt}
use Rattle.ncq_midfile.specs.Files.{FileState}
use Rattle.ncq_shelf.specs.Contents.{IsCompacted}
use Rattle.ncq_shelf.specs.KeptFiles.{AtFile, KeptFile}
use Rattle.ncq_shelf.specs.Stands.{IsThere}
use Rattle.ncq_engine.specs.Compactions.{HasBase, IsWorn, least_of}
use Rattle.ncq_engine.specs.History.{History}
use Rattle.ncq_engine.specs.Stands.{EngineState, Follows}
use Rattle.ncq_engine.proofs.CompactedLaws.{follows_compacted, has_base, invariant_compacted, others}
use Rattle.ncq_engine.proofs.GivenUp.{with_parts}
use Rattle.ncq_engine.proofs.InvariantLaws.{Invariant}
use Rattle.ncq_engine.proofs.LeastLaws.{least_few}

either : {T E A B : Type 0} (r : Result T E) → OnOk r A → OnErr r B → A ⊎ B
either (Ok x) a b = inl a
either (Err x) a b = inr b

on_ok : {T E A B : Type 0} (r : Result T E) → (A → B) → OnOk r A → OnOk r B
on_ok (Ok x) f a = f a
on_ok (Err x) f a = a

pub ok_so : {T E A : Type 0} (r : Result T E) → A → OnOk r A
ok_so (Ok x) a = a
ok_so (Err x) a = tt

pub on_err : {T E A B : Type 0} (r : Result T E) → (A → B) → OnErr r A → OnErr r B
on_err (Ok x) f b = b
on_err (Err x) f b = f b

-- where the subscriptions and the clock stay, the table alone is another
pub table_alone : (e : EngineState) (live_table : LiveState) → live_table.subscriptions ≡ e.subscriptions → live_table.instant ≡ e.clock → with_parts e e.store live_table ≡ record e { table = live_table.table }
table_alone e live_table subscriptions instant = λ i. with_parts e e.store (record { table = live_table.table; subscriptions = subscriptions i; instant = instant i })

-- a number is the least mark of those who have a file, and this is its content
module _ (e : EngineState) (holds : Invariant e) (number least : ℕ) (is_least : least ≡ least_of e number) where
  pub early : least ≤ e.table.number
  early = let few = least_few e.store number e.subscriptions in let now = holds.number in omega (arith, is_least, few, now)

  -- what a compaction asks
  module _ (content : FileState) (shows : AtFile e.table.files number (λ kept. content ≡ kept.content)) (above : content.base < least) where
    pub base_asked : AtFile e.table.files number (λ kept. kept.content.base ≤ least)
    base_asked kept at = let same = ap (λ (c : FileState). c.base) (shows kept at) in omega (arith, above, same)

    pub sound_asked : AtFile e.table.files number (λ kept. IsSoundAt least kept.content.rows)
    sound_asked kept at = holds.sound number kept at least (base_asked kept at)

    -- what it gives
    module _ {T E : Type 0} (there : IsThere e.table.files number) (live_table : LiveState) (result : Result T E)
        (ok : OnOk result (AtFile e.table.files number (λ kept. (next : KeptFile) × (live_table.table.files ≡ insert e.table.files number next) × IsCompacted least kept next)))
        (err : OnErr result (live_table.table ≡ e.table)) (next_file : live_table.table.next_file ≡ e.table.next_file) (same : live_table.table.number ≡ e.table.number) where
      abbrev IsMade : Type 0
      IsMade = (next : KeptFile) × (live_table.table.files ≡ insert e.table.files number next) × IsCompacted (least_of e number) there.file next

      made_of : AtFile e.table.files number (λ kept. (next : KeptFile) × (live_table.table.files ≡ insert e.table.files number next) × IsCompacted least kept next) → IsMade
      made_of each =
          let m = each there.file there.at in
          (m.0, m.1, subst (λ n. IsCompacted n there.file m.0) is_least m.2)

      outcome : IsMade ⊎ (live_table.table ≡ e.table)
      outcome = either result (on_ok result made_of ok) err

      based : there.file.content.base ≤ least_of e number
      based = let low = base_asked there.file there.at in omega (arith, low, is_least)

      pub holds_compacted : e.cache ≡ [] → Invariant (record e { table = live_table.table })
      holds_compacted nothing = elim outcome [
        | inl m ↦ invariant_compacted e number there.file m.0 live_table.table there.at m.1 m.2 based same next_file nothing holds
        | inr stays ↦ subst (λ t. Invariant (record e { table = t })) (sym stays) holds
      ]

      pub compacted_follows : (h : History) → Follows e h → Follows (record e { table = live_table.table }) h
      compacted_follows h s = elim outcome [
        | inl m ↦ follows_compacted e number there.file m.0 live_table.table there.at m.1 m.2 based same next_file h s
        | inr stays ↦ subst (λ t. Follows (record e { table = t }) h) (sym stays) s
      ]

      pub compacted_others : (other : ℕ) → other ≢ number → get live_table.table.files other ≡ get e.table.files other
      compacted_others other differs = elim outcome [
        | inl m ↦ others e number there.file m.0 live_table.table there.at m.1 m.2 based same next_file other differs
        | inr stays ↦ ap (λ t. get t.files other) stays
      ]

      based_at : IsMade → HasBase live_table.table.files number (least_of e number)
      based_at m = has_base e number there.file m.0 live_table.table there.at m.1 m.2 based same next_file

      pub compacted_here : AtFile e.table.files number (λ file. (get live_table.table.files number ≡ Some file) ⊎ HasBase live_table.table.files number (least_of e number))
      compacted_here file at = elim outcome [
        | inl m ↦ inr (based_at m)
        | inr stays ↦ inl (ap (λ t. get t.files number) stays ∙ at)
      ]

      pub is_compacted : OnOk result (AtFile e.table.files number (λ file. IsWorn (least_of e number) file.content → HasBase live_table.table.files number (least_of e number)))
      is_compacted = on_ok result (λ each file at is. based_at (made_of each)) ok
