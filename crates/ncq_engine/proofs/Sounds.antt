-- The files of an engine are sound at each change since their bases, behind each kind of command.
use Rattle.std.proofs.Common.{◌≡◌, ℕ, ◌+◌, ◌≤◌, List, ◌++◌, refl, sym, ◌∙◌, subst, arith, inl, inr}
use Rattle.std.specs.Prelude.{Option, Some, None}
use Rattle.std.specs.FinMap.{get}
use Rattle.std.specs.List.{AllByRecursion}
use Rattle.std.proofs.lemmas.Bool.{cases_lt}
use Rattle.ncq_feed.specs.Feeds.{AreFed}
use Rattle.ncq_feed.proofs.ContentLaws.{all_up, content_sound}
use Rattle.ncq_group.specs.Installs.{IsFresh, IsInstalled}
use Rattle.ncq_group.specs.Tables.{TableState}
use Rattle.ncq_midfile.specs.Content.{IsBalanced, IsContent, IsSoundAt, Row}
use Rattle.ncq_midfile.specs.Files.{FileState}
use Rattle.ncq_midfile.specs.declared.signed.SignedRow.{SignedRow}
use Rattle.ncq_midfile.proofs.Contents.{has_content}
use Rattle.ncq_plan.specs.declared.expr.Expr.{Expr}
use Rattle.ncq_plan.specs.Exprs.{World}
use Rattle.ncq_shelf.specs.Contents.{AreUpTo, Fits, with_more}
use Rattle.ncq_shelf.specs.KeptFiles.{KeptFile, Files}
use Rattle.ncq_source.specs.declared.change.Portion.{Portion}
use Rattle.ncq_source.specs.StoreStates.{StoreState}
use Rattle.ncq_engine.specs.Engines.{AreSound}
use Rattle.ncq_engine.specs.Tellings.{AreOf}
use Rattle.ncq_engine.proofs.ContentLaws.{content_before, was_there}
use Rattle.ncq_engine.proofs.Lists.{each_more}
use Rattle.ncq_engine.proofs.TableLaws.{fits_sound}

-- where each content at a change stays one, rows that were sound there are so still
pub sound_stays : (n : ℕ) (old new : List SignedRow) → ((list : List Row) → IsContent n old list → IsContent n new list) → IsSoundAt n old → IsSoundAt n new
sound_stays n old new stays sound = let some = has_content n old sound in content_sound n new some.0 (stays some.0 some.1)

-- where no row is above a change, rows that are sound there are so at each later one
sound_later : (now n : ℕ) (rows : List SignedRow) → now ≤ n → AllByRecursion (λ r. r.number ≤ now) rows → IsSoundAt now rows → IsSoundAt n rows
sound_later now n rows late last sound = subst IsBalanced (all_up now rows last ∙ sym (all_up n rows last_then)) sound
  where
    last_then : AllByRecursion (λ (r : SignedRow). r.number ≤ n) rows
    last_then = each_more (λ (r : SignedRow). r.number ≤ now) (λ (r : SignedRow). r.number ≤ n) (λ r few. let l : r.number ≤ n = omega (arith, few, late) in l) rows last

-- a file is sound since its base, where one with the same content is
sound_alike : (was file : FileState) → file ≡ was → ((n : ℕ) → was.base ≤ n → IsSoundAt n was.rows) → (n : ℕ) → file.base ≤ n → IsSoundAt n file.rows
sound_alike was file same = subst (λ (c : FileState). (n : ℕ) → c.base ≤ n → IsSoundAt n c.rows) (sym same)

-- fewer files
pub sound_left : (old new : Files) → AreOf old new → AreSound old → AreSound new
sound_left old new left sound number file at = let was = left number file at in sound_alike was.0.content file.content was.2.1 (sound number was.0 was.1)

-- a change that the files were fed
pub sound_fed : (store : StoreState) (change : List Portion) (old new : Files) (w : World) → AreFed store change old new → Fits (store.changes + 1) w new → AreUpTo (store.changes + 1) new → AreSound old → AreSound new
sound_fed store change old new w fed fits upto sound number file at n low = by_old (get old number) refl
  where
    before : (was : KeptFile) → get old number ≡ Some was → n ≤ store.changes → IsSoundAt n file.content.rows
    before was here few =
        let f = fed.each number was here in
        let one : Some f.0 ≡ Some file = sym f.1 ∙ at in
        let is : f.0 ≡ file = cc in
        let behind : file ≡ with_more was f.2.news = sym is ∙ f.2.behind in
        let base : was.content.base ≤ n = subst (λ (k : KeptFile). k.content.base ≤ n) behind low in
        subst (λ (k : KeptFile). IsSoundAt n k.content.rows) (sym behind)
        (sound_stays n was.content.rows (was.content.rows ++ f.2.news) (λ list. content_before n store.changes was.content.rows f.2.news list few f.2.numbers) (sound number was here n base))

    by_old : (o : Option KeptFile) → get old number ≡ o → IsSoundAt n file.content.rows
    by_old None here = absurd (let bad : Some file ≡ None = sym at ∙ fed.no_other number here in cc)
    by_old (Some was) here = elim (cases_lt store.changes n) [
      | inl late ↦ sound_later (store.changes + 1) n file.content.rows (let l : store.changes + 1 ≤ n = omega (arith, late) in l) (upto number file at).last (fits_sound (store.changes + 1) w new fits number file at)
      | inr few ↦ before was here few
    ]

-- an install
pub sound_installed : (expr : Expr) (old new : TableState) (file_at : ℕ) (w : World) → IsInstalled expr old new file_at → Fits new.number w new.files → AreSound old.files → AreSound new.files
sound_installed expr old new file_at w done fits sound number file at = elim (cases_lt number old.next_file) [
  | inl below ↦ (let was = was_there expr old new file_at number file done at below in sound_alike was.0.content file.content was.2.1 (sound number was.0 was.1))
  | inr late ↦ new_file (done.fresh number file at late)
]
  where
    new_file : IsFresh expr old.number file → (n : ℕ) → file.content.base ≤ n → IsSoundAt n file.content.rows
    new_file fresh n low =
        let base = fresh.base in
        sound_later old.number n file.content.rows (let l : old.number ≤ n = omega (arith, base, low) in l) fresh.up_to.last
        (subst (λ m. IsSoundAt m file.content.rows) done.same (fits_sound new.number w new.files fits number file at))
