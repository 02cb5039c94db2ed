-- The files of an engine tell its sources at each change, behind each kind of command.
use Rattle.std.proofs.Common.{◌≡◌, ℕ, ◌+◌, ◌<◌, ◌≤◌, true, false, cond, List, [], ◌∷◌, ◌++◌, refl, sym, ◌∙◌, ap, subst, arith, inl, inr}
use Rattle.std.specs.Prelude.{Option, Some, None, nat_le}
use Rattle.std.specs.FinMap.{get}
use Rattle.std.specs.List.{AllByRecursion}
use Rattle.std.proofs.lemmas.Bool.{cases_eq, cases_lt}
use Rattle.std.proofs.lemmas.Bool.Decides.{nat_tests}
use Rattle.ncq_feed.specs.Feeds.{AreFed}
use Rattle.ncq_group.specs.Installs.{IsInstalled}
use Rattle.ncq_group.specs.Tables.{TableState}
use Rattle.ncq_midfile.specs.Files.{FileState}
use Rattle.ncq_midfile.specs.Content.{IsContent, gains, losses, up_to as rows_up_to}
use Rattle.ncq_midfile.specs.declared.signed.SignedRow.{SignedRow}
use Rattle.ncq_base.specs.Counts.{SameCounts}
use Rattle.ncq_plan.specs.declared.expr.Expr.{Expr}
use Rattle.ncq_plan.specs.Exprs.{World, rows_in}
use Rattle.ncq_row.specs.Embeddings.{Row}
use Rattle.ncq_script.specs.declared.command.Command.{Command}
use Rattle.ncq_shelf.specs.KeptFiles.{KeptFile, Files}
use Rattle.ncq_shelf.specs.Contents.{Fits}
use Rattle.ncq_source.specs.declared.change.Portion.{Portion}
use Rattle.ncq_source.specs.StoreStates.{StoreState}
use Rattle.ncq_engine.specs.History.{History, changes, sources, up_to, world}
use Rattle.ncq_engine.specs.Stands.{AreContents}
use Rattle.ncq_engine.specs.Tellings.{AreOf}
use Rattle.ncq_engine.proofs.HistoryLaws.{up_to_whole}
use Rattle.ncq_engine.proofs.Lists.{filter_append}
use Rattle.ncq_engine.proofs.Worlds.{world_at_mark}

-- at the last change the world is that of the whole history
whole_world : (h : History) → world (sources (up_to (changes h) h)) ≡ world (sources h)
whole_world h = ap (λ (g : History). world (sources g)) (up_to_whole (changes h) h (let w : nat_le (changes h) (changes h) ≡ true = grind (arith, nat_tests) in w))

-- before any change no file is there
pub contents_none : (files : Files) (h : History) → ((number : ℕ) → get files number ≡ None) → AreContents files h
contents_none files h none number file change at low high = absurd (let bad : Some file ≡ None = sym at ∙ none number in cc)

-- a command that changes no source leaves them
pub contents_stay : (files : Files) (h : History) (command : Command) → changes (command ∷ h) ≡ changes h → AreContents files h → AreContents files (command ∷ h)
contents_stay files h command same held number file change at low high =
    let few : change ≤ changes h = omega (arith, high, same) in
    subst (λ w. IsContent change file.content.rows (rows_in file.expr w)) (sym (world_at_mark change command h few)) (held number file change at low few)

-- fewer files tell what they told
pub contents_left : (old new : Files) (h : History) → AreOf old new → AreContents old h → AreContents new h
contents_left old new h left held number file change at low high =
    let was = left number file at in
    let base : was.0.content.base ≤ change = subst (λ (c : FileState). c.base ≤ change) was.2.1 low in
    subst (λ (e : Expr). IsContent change file.content.rows (rows_in e (world (sources (up_to change h))))) (sym was.2.0)
    (subst (λ (c : FileState). IsContent change c.rows (rows_in was.0.expr (world (sources (up_to change h))))) (sym was.2.1) (held number was.0 change was.1 base high))

-- rows of a later change do not count
none_up : (change now : ℕ) (news : List SignedRow) → change ≤ now → AllByRecursion (λ r. r.number ≡ now + 1) news → rows_up_to change news ≡ []
none_up change now [] few numbers = refl
none_up change now (r ∷ news) few numbers =
    let late = numbers.0 in
    let above : nat_le r.number change ≡ false = grind (arith, nat_tests, late, few) in
    (λ i. cond (above i) (r ∷ rows_up_to change news) (rows_up_to change news)) ∙ none_up change now news few numbers.1

append_none : (rows : List SignedRow) → rows ++ [] ≡ rows
append_none [] = refl
append_none (r ∷ rows) = ap (λ more. r ∷ more) (append_none rows)

-- a content stays one where rows of a later change come behind
pub content_before : (change now : ℕ) (rows news : List SignedRow) (list : List Row) → change ≤ now → AllByRecursion (λ r. r.number ≡ now + 1) news → IsContent change rows list → IsContent change (rows ++ news) list
content_before change now rows news list few numbers held =
    subst (λ (xs : List SignedRow). SameCounts (list ++ losses xs) (gains xs)) (sym same) held
  where
    same : rows_up_to change (rows ++ news) ≡ rows_up_to change rows
    same =
        filter_append (λ (r : SignedRow). nat_le r.number change) rows news
        ∙ ap (λ more. rows_up_to change rows ++ more) (none_up change now news few numbers)
        ∙ append_none (rows_up_to change rows)

-- a change that the files were fed
pub contents_fed : (store : StoreState) (change : List Portion) (old new : Files) (h : History) (command : Command) → AreFed store change old new
    → store.changes ≡ changes h → changes (command ∷ h) ≡ changes h + 1 → Fits (changes h + 1) (world (sources (command ∷ h))) new → AreContents old h → AreContents new (command ∷ h)
contents_fed store change old new h command fed now more fits held number file at_change at low high = by_old (get old number) refl
  where
    last : at_change ≡ changes h + 1 → IsContent at_change file.content.rows (rows_in file.expr (world (sources (up_to at_change (command ∷ h)))))
    last e =
        subst (λ n. IsContent n file.content.rows (rows_in file.expr (world (sources (up_to n (command ∷ h)))))) (sym (e ∙ sym more))
        (subst (λ w. IsContent (changes (command ∷ h)) file.content.rows (rows_in file.expr w)) (sym (whole_world (command ∷ h)))
        (subst (λ n. IsContent n file.content.rows (rows_in file.expr (world (sources (command ∷ h))))) (sym more) (fits number file at)))

    before : (was : KeptFile) → get old number ≡ Some was → at_change ≤ changes h → IsContent at_change file.content.rows (rows_in file.expr (world (sources (up_to at_change (command ∷ h)))))
    before was here few =
        let f = fed.each number was here in
        let one : Some f.0 ≡ Some file = sym f.1 ∙ at in
        let is : f.0 ≡ file = cc in
        let behind = sym is ∙ f.2.behind in
        let base : was.content.base ≤ at_change = subst (λ (k : KeptFile). k.content.base ≤ at_change) behind low in
        let numbers = subst (λ n. AllByRecursion (λ (r : SignedRow). r.number ≡ n + 1) f.2.news) now f.2.numbers in
        subst (λ (k : KeptFile). IsContent at_change k.content.rows (rows_in k.expr (world (sources (up_to at_change (command ∷ h)))))) (sym behind)
        (subst (λ w. IsContent at_change (was.content.rows ++ f.2.news) (rows_in was.expr w)) (sym (world_at_mark at_change command h few))
        (content_before at_change (changes h) was.content.rows f.2.news _ few numbers (held number was at_change here base few)))

    by_old : (o : Option KeptFile) → get old number ≡ o → IsContent at_change file.content.rows (rows_in file.expr (world (sources (up_to at_change (command ∷ h)))))
    by_old None here = absurd (let bad : Some file ≡ None = sym at ∙ fed.no_other number here in cc)
    by_old (Some was) here = elim (cases_lt (changes h) at_change) [
      | inl late ↦ last (omega (arith, late, high, more))
      | inr few ↦ before was here few
    ]

-- a file whose number was given before an install was there, with the same expression and content
pub was_there : (expr : Expr) (old new : TableState) (file_at number : ℕ) (file : KeptFile) → IsInstalled expr old new file_at → get new.files number ≡ Some file → number < old.next_file
    → (was : KeptFile) × (get old.files number ≡ Some was) × ((file.expr ≡ was.expr) × (file.content ≡ was.content))
was_there expr old new file_at number file done at below =
    let was = done.before number file at below in
    elim (cases_eq number file_at) [
      | inl own ↦
          let there = subst (λ n. get new.files n ≡ Some (record was.0 { uses = was.0.uses + 1 })) (sym own) (done.gains was.0 (subst (λ n. get old.files n ≡ Some was.0) own was.1)) in
          let one : Some file ≡ Some (record was.0 { uses = was.0.uses + 1 }) = sym at ∙ there in
          let is : file ≡ record was.0 { uses = was.0.uses + 1 } = cc in
          (was.0, was.1, (ap (λ (k : KeptFile). k.expr) is, ap (λ (k : KeptFile). k.content) is))
      | inr differs ↦
          let one : Some file ≡ Some was.0 = sym at ∙ done.others number was.0 was.1 differs in
          let is : file ≡ was.0 = cc in
          (was.0, was.1, (ap (λ (k : KeptFile). k.expr) is, ap (λ (k : KeptFile). k.content) is))
    ]

-- an install
pub contents_installed : (expr : Expr) (old new : TableState) (file_at : ℕ) (h : History) (command : Command) → IsInstalled expr old new file_at → old.number ≡ changes h → changes (command ∷ h) ≡ changes h
    → Fits (changes h) (world (sources (command ∷ h))) new.files → AreContents old.files h → AreContents new.files (command ∷ h)
contents_installed expr old new file_at h command done now same fits held number file at_change at low high = elim (cases_lt number old.next_file) [
  | inl below ↦
      let was = was_there expr old new file_at number file done at below in
      let w : World = world (sources (up_to at_change (command ∷ h))) in
      subst (λ (e : Expr). IsContent at_change file.content.rows (rows_in e w)) (sym was.2.0)
      (subst (λ (c : FileState). IsContent at_change c.rows (rows_in was.0.expr w)) (sym was.2.1) (old_file was.0 was.1 (subst (λ (c : FileState). c.base ≤ at_change) was.2.1 low)))
  | inr fresh ↦
      let new_base = (done.fresh number file at fresh).base in
      let e : at_change ≡ changes (command ∷ h) = omega (arith, new_base, now, same, low, high) in
      subst (λ n. IsContent n file.content.rows (rows_in file.expr (world (sources (up_to n (command ∷ h)))))) (sym e)
      (subst (λ w. IsContent (changes (command ∷ h)) file.content.rows (rows_in file.expr w)) (sym (whole_world (command ∷ h)))
      (subst (λ n. IsContent n file.content.rows (rows_in file.expr (world (sources (command ∷ h))))) (sym same) (fits number file at)))
]
  where
    old_file : (was : KeptFile) → get old.files number ≡ Some was → was.content.base ≤ at_change → IsContent at_change was.content.rows (rows_in was.expr (world (sources (up_to at_change (command ∷ h)))))
    old_file was here low =
        let few : at_change ≤ changes h = omega (arith, high, same) in
        subst (λ w. IsContent at_change was.content.rows (rows_in was.expr w)) (sym (world_at_mark at_change command h few)) (held number was at_change here low few)
