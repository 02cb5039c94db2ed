-- Subscriptions that can be told stay so: behind a change of the store, of the files, and of what is written down.
use Rattle.std.proofs.Common.{◌≡◌, ℕ, ◌+◌, ◌<◌, ◌≤◌, max, Bool, true, false, ◌==◌, List, [], ◌∷◌, length, refl, sym, ◌∙◌, ap, subst, arith, inl, inr}
use Rattle.std.specs.Prelude.{Option, Some, None, IfSome, if◌then◌else◌}
use Rattle.std.specs.FinMap.{get}
use Rattle.std.specs.Option.{option_map}
use Rattle.std.proofs.lemmas.Bool.{cases_eq}
use Rattle.ncq_book.specs.declared.subscription.Subscription.{Subscription as Kept}
use Rattle.ncq_callback.specs.Labels.{Handed}
use Rattle.ncq_feed.specs.Feeds.{AreFed}
use Rattle.ncq_feed.proofs.ContentLaws.{content_sound, up_before}
use Rattle.std.specs.FinMap.{same_map, nat_cmp-IsAntisymmetric}
use Rattle.std.proofs.lemmas.Cmp.{nat_cmp_total}
use Rattle.ncq_group.specs.Installs.{IsInstalled}
use Rattle.ncq_group.specs.Tables.{TableState}
use Rattle.ncq_midfile.specs.Files.{FileState}
use Rattle.ncq_midfile.specs.Content.{IsSoundAt}
use Rattle.ncq_plan.specs.declared.expr.Expr.{Expr}
use Rattle.ncq_plan.specs.Exprs.{World, rows_in}
use Rattle.ncq_live.specs.LiveTables.{plan_in}
use Rattle.ncq_plan.specs.WellFormed.{IsWellFormed}
use Rattle.ncq_shelf.specs.KeptFiles.{KeptFile, Files}
use Rattle.ncq_shelf.specs.Stands.{Stands as HasFile}
use Rattle.ncq_shelf.specs.Contents.{AreUpTo, Fits, cut_to}
use Rattle.ncq_midfile.specs.declared.signed.SignedRow.{SignedRow}
use Rattle.ncq_source.specs.declared.change.Portion.{Portion}
use Rattle.ncq_source.specs.StoreStates.{StoreState}
use Rattle.ncq_engine.specs.Engines.{CanTell, fired_if, last_in, latest_in, mark_in, noted_at}
use Rattle.ncq_engine.specs.Scans.{scanned_by}
use Rattle.ncq_engine.specs.Tellings.{AreOf}

-- files that tell a world are sound
pub fits_sound : (now : ℕ) (w : World) (files : Files) → Fits now w files → (number : ℕ) (file : KeptFile) → get files number ≡ Some file → IsSoundAt now file.content.rows
fits_sound now w files fits number file at = content_sound now file.content.rows (rows_in file.expr w) (fits number file at)

-- the greatest of last changes that do not fall does not fall
latest_more : (old new : StoreState) → ((name : List ℕ) → last_in old name ≤ last_in new name) → (names : List (List ℕ)) → latest_in old names ≤ latest_in new names
latest_more old new more [] = let z : 0 ≤ 0 = omega arith in z
latest_more old new more (name ∷ names) = let a = more name in let b = latest_more old new more names in omega (arith, a, b)

mark_more : (old new : StoreState) → ((name : List ℕ) → last_in old name ≤ last_in new name) → (m : Kept) (base : ℕ) → IfSome (mark_in old m) (λ n. base ≤ n) → IfSome (mark_in new m) (λ n. base ≤ n)
mark_more old new more m base = by (m.timing.every == 0) m.noted
  where
    by : (based : Bool) (noted : Option ℕ) → IfSome (if based then option_map (λ first. max first (latest_in old m.sources)) noted else noted) (λ n. base ≤ n)
        → IfSome (if based then option_map (λ first. max first (latest_in new m.sources)) noted else noted) (λ n. base ≤ n)
    by true None h = tt
    by true (Some first) h = let l = latest_more old new more m.sources in omega (arith, h, l)
    by false noted h = h

-- the greatest of last changes that are not above a number is not above it
latest_few : (store : StoreState) (most : ℕ) → ((name : List ℕ) → last_in store name ≤ most) → (names : List (List ℕ)) → latest_in store names ≤ most
latest_few store most few [] = let z : 0 ≤ most = omega arith in z
latest_few store most few (name ∷ names) = let a = few name in let b = latest_few store most few names in omega (arith, a, b)

mark_few : (old new : StoreState) (most : ℕ) → ((name : List ℕ) → last_in new name ≤ most) → (m : Kept) → IfSome (mark_in old m) (λ n. n ≤ most) → IfSome (mark_in new m) (λ n. n ≤ most)
mark_few old new most few m = by (m.timing.every == 0) m.noted
  where
    by : (based : Bool) (noted : Option ℕ) → IfSome (if based then option_map (λ first. max first (latest_in old m.sources)) noted else noted) (λ n. n ≤ most)
        → IfSome (if based then option_map (λ first. max first (latest_in new m.sources)) noted else noted) (λ n. n ≤ most)
    by true None h = tt
    by true (Some first) h = let l = latest_few new most few m.sources in omega (arith, h, l)
    by false noted h = h

-- behind a store whose last changes do not fall, and are not later than the files
pub can_store : (handed : Handed) (old new : StoreState) (table : TableState) → ((name : List ℕ) → last_in old name ≤ last_in new name) → ((name : List ℕ) → last_in new name ≤ table.number)
    → (m : Kept) → CanTell handed old table m → CanTell handed new table m
can_store handed old new table more few m can = record {
  formed = can.formed;
  action = can.action;
  file = can.file;
  at = can.at;
  own = can.own;
  sound = can.sound;
  base = mark_more old new more m can.file.content.base can.base;
  mark = mark_few old new table.number few m can.mark;
  asked = can.asked;
}

-- a mark that is not later than the files is not later than files that stand no earlier
later_mark : (o : Option ℕ) (old new : ℕ) → old ≤ new → IfSome o (λ n. n ≤ old) → IfSome o (λ n. n ≤ new)
later_mark None old new order h = tt
later_mark (Some n) old new order h = let l : n ≤ new = omega (arith, order, h) in l

-- its file has the expression and the base that it had, and is sound now
pub record HasStill (table : TableState) (number : ℕ) (was : KeptFile) : Type 0 where
  pub file : KeptFile
  pub at : get table.files number ≡ Some file
  pub own : file.expr ≡ was.expr
  pub base : file.content.base ≡ was.content.base
  pub sound : IsSoundAt table.number file.content.rows

pub can_table : (handed : Handed) (store : StoreState) (old new : TableState) → old.number ≤ new.number → ((number : ℕ) (file : KeptFile) → get old.files number ≡ Some file → HasStill new number file)
    → (m : Kept) → CanTell handed store old m → CanTell handed store new m
can_table handed store old new order still m can =
    let s = still m.file.0 can.file can.at in
    record {
      formed = can.formed;
      action = can.action;
      file = s.file;
      at = s.at;
      own = s.own ∙ can.own;
      sound = s.sound;
      base = subst (λ b. IfSome (mark_in store m) (λ n. b ≤ n)) (sym s.base) can.base;
      mark = later_mark (mark_in store m) old.number new.number order can.mark;
      asked = can.asked;
    }

-- behind a change that the files were fed
pub fed_still : (store : StoreState) (change : List Portion) (old new : TableState) (w : World) → AreFed store change old.files new.files → Fits new.number w new.files
    → (number : ℕ) (file : KeptFile) → get old.files number ≡ Some file → HasStill new number file
fed_still store change old new w fed fits number file at =
    let f = fed.each number file at in
    record {
      file = f.0;
      at = f.1;
      own = ap (λ (k : KeptFile). k.expr) f.2.behind;
      base = ap (λ (k : KeptFile). k.content.base) f.2.behind;
      sound = fits_sound new.number w new.files fits number f.0 f.1;
    }

-- behind an install
pub installed_still : (expr : Expr) (old new : TableState) (at : ℕ) (w : World) → IsInstalled expr old new at → Fits new.number w new.files
    → (number : ℕ) (file : KeptFile) → get old.files number ≡ Some file → HasStill new number file
installed_still expr old new at w done fits number file here =
    elim (cases_eq number at) [
      | inl same ↦
          let there = subst (λ n. get new.files n ≡ Some (record file { uses = file.uses + 1 })) (sym same) (done.gains file (subst (λ n. get old.files n ≡ Some file) same here)) in
          record { file = record file { uses = file.uses + 1 }; at = there; own = refl; base = refl; sound = fits_sound new.number w new.files fits number (record file { uses = file.uses + 1 }) there }
      | inr differs ↦
          let there = done.others number file here differs in
          record { file = file; at = there; own = refl; base = refl; sound = fits_sound new.number w new.files fits number file there }
    ]

-- a subscription whose file is left
pub can_left : (handed : Handed) (store : StoreState) (old new : TableState) → AreOf old.files new.files → new.number ≡ old.number → (m : Kept) → HasFile new.files (plan_in m) m.file.0 → CanTell handed store old m → CanTell handed store new m
can_left handed store old new left same m has can =
    let was = left m.file.0 has.file has.at in
    let one : Some was.0 ≡ Some can.file = sym was.1 ∙ can.at in
    let is : was.0 ≡ can.file = cc in
    let content = was.2.1 ∙ ap (λ (k : KeptFile). k.content) is in
    record {
      formed = can.formed;
      action = can.action;
      file = has.file;
      at = has.at;
      own = has.of;
      sound = subst (λ n. IsSoundAt n has.file.content.rows) (sym same) (subst (λ (c : FileState). IsSoundAt old.number c.rows) (sym content) can.sound);
      base = subst (λ (c : FileState). IfSome (mark_in store m) (λ n. c.base ≤ n)) (sym content) can.base;
      mark = subst (λ n. IfSome (mark_in store m) (λ mark. mark ≤ n)) (sym same) can.mark;
      asked = can.asked;
    }

-- a subscription that is new has not fired
pub can_new : (handed : Handed) (store : StoreState) (table : TableState) (w : World) → Fits table.number w table.files → (m : Kept) → IsWellFormed m.query → m.action < length handed.labels → m.noted ≡ None → HasFile table.files (plan_in m) m.file.0
    → ((any : StoreState) → latest_in any m.sources ≡ latest_in any (scanned_by (plan_in m))) → CanTell handed store table m
can_new handed store table w fits m formed action none has asked = record {
  formed = formed;
  action = action;
  file = has.file;
  at = has.at;
  own = has.of;
  sound = fits_sound table.number w table.files fits m.file.0 has.file has.at;
  base = subst (λ o. IfSome o (λ n. has.file.content.base ≤ n)) (sym unmarked) tt;
  mark = subst (λ o. IfSome o (λ n. n ≤ table.number)) (sym unmarked) tt;
  asked = asked;
}
  where
    unmarked : mark_in store m ≡ None
    unmarked = (λ i. if m.timing.every == 0 then option_map (λ first. max first (latest_in store m.sources)) (none i) else none i) ∙ both (m.timing.every == 0)
      where
        both : (b : Bool) → (if b then option_map (λ first. max first (latest_in store m.sources)) None else None) ≡ None
        both true = refl
        both false = refl

-- a subscription that has fired now
pub can_noted : (handed : Handed) (store : StoreState) (table : TableState) → AreUpTo store.changes table.files → table.number ≡ store.changes → ((name : List ℕ) → last_in store name ≤ store.changes)
    → (fires : Bool) (m : Kept) → CanTell handed store table m → CanTell handed store table (fired_if fires store m)
can_noted handed store table upto now lasts false m can = can
can_noted handed store table upto now lasts true m can = record {
  formed = can.formed;
  action = can.action;
  file = can.file;
  at = can.at;
  own = can.own;
  sound = can.sound;
  base = by (m.timing.every == 0);
  mark = subst (λ n. IfSome (mark_in store (noted_at store.changes m)) (λ mark. mark ≤ n)) (sym now) (high (m.timing.every == 0));
  asked = can.asked;
}
  where
    low : can.file.content.base ≤ store.changes
    low = (upto m.file.0 can.file can.at).base

    by : (based : Bool) → IfSome (if based then option_map (λ first. max first (latest_in store m.sources)) (Some store.changes) else Some store.changes) (λ n. can.file.content.base ≤ n)
    by true = omega (arith, low)
    by false = low

    high : (based : Bool) → IfSome (if based then option_map (λ first. max first (latest_in store m.sources)) (Some store.changes) else Some store.changes) (λ n. n ≤ store.changes)
    high true = let l = latest_few store store.changes lasts m.sources in omega (arith, l)
    high false = let l : store.changes ≤ store.changes = omega arith in l

-- without the rows of a change that was fed the files are those before
pub rolled_back : (store : StoreState) (change : List Portion) (old fed after : Files) → AreFed store change old fed → AreUpTo store.changes old
    → ((number : ℕ) → get after number ≡ option_map (cut_to store.changes) (get fed number)) → after ≡ old
rolled_back store change old fed after done upto cut = same_map nat_cmp_total nat_cmp-IsAntisymmetric after old (λ number. cut number ∙ back number (get old number) refl)
  where
    back : (number : ℕ) (o : Option KeptFile) → get old number ≡ o → option_map (cut_to store.changes) (get fed number) ≡ get old number
    back number None e = ap (option_map (cut_to store.changes)) (done.no_other number e) ∙ sym e
    back number (Some was) e =
        let f = done.each number was e in
        ap (option_map (cut_to store.changes)) (f.1 ∙ ap Some f.2.behind)
        ∙ ap (λ (rows : List SignedRow). Some (record was { content = record { base = was.content.base; rows = rows } })) (up_before store.changes was.content.rows f.2.news (upto number was e).last f.2.numbers)
        ∙ sym e

-- and the table is the one before
pub table_back : (store : StoreState) (change : List Portion) (old fed after : TableState) → AreFed store change old.files fed.files → AreUpTo old.number old.files → store.changes ≡ old.number
    → ((number : ℕ) → get after.files number ≡ option_map (cut_to old.number) (get fed.files number)) → after.number ≡ old.number → after.next_file ≡ old.next_file → after ≡ old
table_back store change old fed after done upto now cut number next =
    let files : after.files ≡ old.files =
    rolled_back store change old.files fed.files after.files done (subst (λ n. AreUpTo n old.files) (sym now) upto)
    (λ at. cut at ∙ ap (λ n. option_map (cut_to n) (get fed.files at)) (sym now)) in
    λ i. record { files = files i; next_file = next i; number = number i }

-- a fed file was made at the change before the marks or earlier, and its number was given
pub fed_base : (store : StoreState) (change : List Portion) (old fed : Files) (mark next : ℕ) → AreFed store change old fed → AreUpTo mark old → ((number : ℕ) (file : KeptFile) → get old number ≡ Some file → number < next)
    → (number : ℕ) (file : KeptFile) → get fed number ≡ Some file → (file.content.base ≤ mark) × (number < next)
fed_base store change old fed mark next done upto below number file at = by (get old number) refl
  where
    by : (o : Option KeptFile) → get old number ≡ o → (file.content.base ≤ mark) × (number < next)
    by None e = absurd (let bad : Some file ≡ None = sym at ∙ done.no_other number e in cc)
    by (Some was) e =
        let f = done.each number was e in
        let one : Some f.0 ≡ Some file = sym f.1 ∙ at in
        let is : f.0 ≡ file = cc in
        (subst (λ (k : KeptFile). k.content.base ≤ mark) (sym f.2.behind ∙ is) (upto number was e).base, below number was e)
