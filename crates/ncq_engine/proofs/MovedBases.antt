-- An engine whose files moved their bases, or lost pairs of rows: it stands as it stood.
use Rattle.std.proofs.Common.{◌≡◌, ◌≢◌, ℕ, ◌*◌, ◌≤◌, ◌⊎◌, List, [], ◌∷◌, refl, sym, ◌∙◌, ap, subst, arith, inl, inr}
use Rattle.std.specs.Prelude.{Option, Some, None, IfSome}
use Rattle.std.specs.FinMap.{get, insert}
use Rattle.std.specs.List.{AllByRecursion}
use Rattle.std.proofs.lemmas.Bool.{cases_eq}
use Rattle.ncq_book.specs.declared.subscription.Subscription.{Subscription as Kept}
use Rattle.ncq_change.specs.Stores.{world_in}
use Rattle.ncq_group.specs.Tables.{TableState}
use Rattle.ncq_midfile.specs.Content.{IsContent, Row}
use Rattle.ncq_midfile.specs.declared.signed.SignedRow.{SignedRow}
use Rattle.ncq_plan.specs.declared.expr.Expr.{Expr}
use Rattle.ncq_plan.specs.Exprs.{World, rows_in}
use Rattle.ncq_shelf.specs.Contents.{AreFolded, AreUpTo, Fits, IsRaised}
use Rattle.ncq_shelf.specs.KeptFiles.{EachFile, Files, KeptFile}
use Rattle.ncq_shelf.specs.Stands.{IsThere}
use Rattle.ncq_shelf.proofs.CallerLemmas.{one_value, put_other, put_same}
use Rattle.ncq_engine.specs.Compactions.{AreCompacted, HasBase, MoveBases, least_of}
use Rattle.ncq_engine.specs.Engines.{AreSound, CanTell, mark_in}
use Rattle.ncq_engine.specs.History.{History, sources, up_to, world}
use Rattle.ncq_engine.specs.Stands.{AreContents, EngineState, Follows}
use Rattle.ncq_engine.proofs.InvariantLaws.{Invariant, none_serve}
use Rattle.ncq_engine.proofs.LeastLaws.{IsUnder, least_few, least_under}
use Rattle.ncq_engine.proofs.Lists.{each_both}
use Rattle.ncq_engine.proofs.Sounds.{sound_stays}
use Rattle.ncq_engine.proofs.TableLaws.{fits_sound}

-- the file after its base was made a number that is not below it, or stayed: what was its content from the new base on is so still
pub record IsMoved (least : ℕ) (old new : KeptFile) : Type 0 where
  pub expr : new.expr ≡ old.expr
  pub base : (new.content.base ≡ old.content.base) ⊎ ((new.content.base ≡ least) × (old.content.base ≤ least))
  pub stays : (at : ℕ) (list : List Row) → new.content.base ≤ at → IsContent at old.content.rows list → IsContent at new.content.rows list

unmoved : (least : ℕ) (file : KeptFile) → IsMoved least file file
unmoved least file = record { expr = refl; base = inl refl; stays = λ at list low content. content }

-- each file of the engine was so moved to its least mark, and there are no others
pub record AreMoved (e : EngineState) (files : Files) : Type 0 where
  pub back : EachFile files (λ number new. (old : KeptFile) × (get e.table.files number ≡ Some old) × IsMoved (least_of e number) old new)
  pub forth : EachFile e.table.files (λ number old. (new : KeptFile) × (get files number ≡ Some new) × IsMoved (least_of e number) old new)

pub still_moved : (e : EngineState) → AreMoved e e.table.files
still_moved e = record {
  back = λ number file at. (file, at, unmoved (least_of e number) file);
  forth = λ number file at. (file, at, unmoved (least_of e number) file);
}

-- what holds at each number of each item, holds of each item at each number
each_at : {I A : Type 0} (P : I → A → Type 0) (xs : List A) → ((i : I) → AllByRecursion (P i) xs) → AllByRecursion (λ x. (i : I) → P i x) xs
each_at P [] h = tt
each_at P (x ∷ xs) h = (λ i. (h i).0, each_at P xs (λ i. (h i).1))

module _ (e : EngineState) (table : TableState) (moved : AreMoved e table.files) (same : table.number ≡ e.table.number) (next_file : table.next_file ≡ e.table.next_file) where
  fits : (w : World) → AreUpTo e.table.number e.table.files → ((number : ℕ) → least_of e number ≤ e.table.number) → Fits e.table.number w e.table.files → Fits table.number w table.files
  fits w upto early held number new there =
      let m = moved.back number new there in
      let old : KeptFile = m.0 in
      let under = (upto number old m.1).base in
      let least = early number in
      let low : new.content.base ≤ e.table.number = elim m.2.base [ inl is ↦ (omega (arith, under, is)) | inr p ↦ (let to = p.0 in omega (arith, least, to)) ] in
      subst (λ n. IsContent n new.content.rows (rows_in new.expr w)) (sym same)
      (subst (λ (x : Expr). IsContent e.table.number new.content.rows (rows_in x w)) (sym m.2.expr)
      (m.2.stays e.table.number (rows_in old.expr w) low (held number old m.1)))

  can_still : (w : World) → Fits table.number w table.files → (m : Kept) → CanTell e.handed e.store e.table m → ((number : ℕ) → IsUnder e.store number (least_of e number) m) → CanTell e.handed e.store table m
  can_still w fits_now m can under =
      let f = moved.forth m.file.0 can.file can.at in
      record {
        formed = can.formed;
        action = can.action;
        file = f.0;
        at = f.1;
        own = f.2.expr ∙ can.own;
        sound = fits_sound table.number w table.files fits_now m.file.0 f.0 f.1;
        base = elim f.2.base [
          | inl is ↦ subst (λ b. IfSome (mark_in e.store m) (λ mark. b ≤ mark)) (sym is) can.base
          | inr p ↦ subst (λ b. IfSome (mark_in e.store m) (λ mark. b ≤ mark)) (sym p.0) (under m.file.0 refl)
        ];
        mark = subst (λ n. IfSome (mark_in e.store m) (λ mark. mark ≤ n)) (sym same) can.mark;
        asked = can.asked;
      }

  -- the base that a file had is not above the one that it has
  under : (least change : ℕ) (old new : KeptFile) → IsMoved least old new → new.content.base ≤ change → old.content.base ≤ change
  under least change old new m low = elim m.base [ inl is ↦ (omega (arith, low, is)) | inr p ↦ (let to = p.0 in let from = p.1 in omega (arith, low, to, from)) ]

  sounds : AreSound e.table.files → AreSound table.files
  sounds held number new there n low =
      let m = moved.back number new there in
      sound_stays n m.0.content.rows new.content.rows (λ list. m.2.stays n list low) (held number m.0 m.1 n (under (least_of e number) n m.0 new m.2 low))

  pub invariant_moved : AreUpTo e.table.number e.table.files → e.cache ≡ [] → Invariant e → Invariant (record e { table = table })
  invariant_moved upto nothing i =
      let now = i.number in
      let early : (number : ℕ) → least_of e number ≤ e.table.number = λ number. (let few = least_few e.store number e.subscriptions in omega (arith, few, now)) in
      let fits_now = fits (world_in e.store) upto early i.fits in
      record {
        changes = i.changes;
        creates_too = i.creates_too;
        lasts = i.lasts;
        can = each_both (CanTell e.handed e.store e.table) (λ m. (number : ℕ) → IsUnder e.store number (least_of e number) m) (CanTell e.handed e.store table) (can_still (world_in e.store) fits_now) e.subscriptions i.can
            (each_at (λ number. IsUnder e.store number (least_of e number)) e.subscriptions (λ number. least_under e.store number e.subscriptions));
        rise = i.rise;
        installed = i.installed;
        number = same ∙ i.number;
        fits = fits_now;
        sound = sounds i.sound;
        next = (let n = i.next in let l : table.next_file ≤ 256 * e.creates = omega (arith, n, next_file) in l);
        serve = none_serve e.handed.relations table e.cache nothing;
        counts = i.counts;
      }

  contents : (h : History) → AreContents e.table.files h → AreContents table.files h
  contents h held number new change there low high =
      let m = moved.back number new there in
      let old : KeptFile = m.0 in
      let w : World = world (sources (up_to change h)) in
      subst (λ (x : Expr). IsContent change new.content.rows (rows_in x w)) (sym m.2.expr) (m.2.stays change (rows_in old.expr w) low (held number old change m.1 (under (least_of e number) change old new m.2 low) high))

  pub follows_moved : (h : History) → Follows e h → Follows (record e { table = table }) h
  follows_moved h s = record {
    sources = s.sources;
    last = s.last;
    changes = s.changes;
    clock = s.clock;
    creates = s.creates;
    subscriptions = s.subscriptions;
    contents = contents h s.contents;
    counted = s.counted;
    rising = s.rising;
  }

  pub bases_moved : MoveBases e (record e { table = table })
  bases_moved number base had =
      let f = moved.forth number had.file had.at in
      elim f.2.base [ inl is ↦ inl (record { file = f.0; at = f.1; base = is ∙ had.base }) | inr p ↦ inr (record { file = f.0; at = f.1; base = p.0 }) ]

-- one file was raised to its least mark
module _ (e : EngineState) (number : ℕ) (files : Files) (file next : KeptFile) (at : get e.table.files number ≡ Some file) (put : files ≡ insert e.table.files number next)
    (done : IsRaised (least_of e number) file next) (base : file.content.base ≤ least_of e number) where
  here : get files number ≡ Some next
  here = ap (λ fs. get fs number) put ∙ put_same e.table.files number next

  others : (other : ℕ) → other ≢ number → get files other ≡ get e.table.files other
  others other differs = ap (λ fs. get fs other) put ∙ put_other e.table.files number next other differs

  is_moved : IsMoved (least_of e number) file next
  is_moved = record {
    expr = done.expr;
    base = elim done.base [ inl is ↦ inl is | inr is ↦ inr (is, base) ];
    stays = λ n list low content. subst (λ (rows : List SignedRow). IsContent n rows list) (sym done.rows) content;
  }

  pub raised_moved : AreMoved e files
  raised_moved = record {
    back = λ other new there. elim (cases_eq other number) [
      | inl is ↦
          let one : next ≡ new = one_value here (subst (λ n. get files n ≡ Some new) is there) in
          (file, subst (λ n. get e.table.files n ≡ Some file) (sym is) at, subst (λ (k : KeptFile). IsMoved (least_of e other) file k) one (subst (λ n. IsMoved (least_of e n) file next) (sym is) is_moved))
      | inr differs ↦ (new, sym (others other differs) ∙ there, unmoved (least_of e other) new)
    ];
    forth = λ other old there. elim (cases_eq other number) [
      | inl is ↦
          let one : file ≡ old = one_value at (subst (λ n. get e.table.files n ≡ Some old) is there) in
          (next, subst (λ n. get files n ≡ Some next) (sym is) here, subst (λ (k : KeptFile). IsMoved (least_of e other) k next) one (subst (λ n. IsMoved (least_of e n) file next) (sym is) is_moved))
      | inr differs ↦ (old, others other differs ∙ there, unmoved (least_of e other) old)
    ];
  }

-- the rows that files share were folded
module _ (e : EngineState) (files : Files) (folded : AreFolded e.table.files files) where
  folded_forth : EachFile e.table.files (λ number old. (new : KeptFile) × (get files number ≡ Some new) × IsMoved (least_of e number) old new)
  folded_forth number old at =
      let f = folded.each number old at in (
        f.0,
        f.1,
        record {
          expr = f.2.expr;
          base = inl f.2.base;
          stays = λ n list low content. f.2.stays n list (subst (λ b. b ≤ n) f.2.base low) content;
        },
      )

  folded_back : EachFile files (λ number new. (old : KeptFile) × (get e.table.files number ≡ Some old) × IsMoved (least_of e number) old new)
  folded_back number new there = by (get e.table.files number) refl
    where
      by : (o : Option KeptFile) → get e.table.files number ≡ o → (old : KeptFile) × (get e.table.files number ≡ Some old) × IsMoved (least_of e number) old new
      by None none = absurd (let bad : Some new ≡ None = sym there ∙ folded.only number none in cc)
      by (Some old) at =
          let f = folded_forth number old at in
          (old, at, subst (λ (k : KeptFile). IsMoved (least_of e number) old k) (one_value f.1 there) f.2)

  pub folded_moved : AreMoved e files
  folded_moved = record { back = folded_back; forth = folded_forth }

-- an engine whose files moved, in any number of turns: it follows what it followed
pub record HaveMoved (old new : EngineState) : Type 0 where
  pub same : new ≡ record old { table = new.table }
  pub follows : (h : History) → Follows old h → Follows new h
  pub bases : MoveBases old new

-- before the first turn
pub moved_none : (e : EngineState) → HaveMoved e e
moved_none e = record { same = refl; follows = λ h s. s; bases = λ number base had. inl had }

-- one turn more
pub moved_more : (old mid new : EngineState) → HaveMoved old mid → new ≡ record mid { table = new.table } → ((h : History) → Follows mid h → Follows new h) → MoveBases mid new → HaveMoved old new
moved_more old mid new m same follows bases = record {
  same = same ∙ ap (λ (e : EngineState). record e { table = new.table }) m.same;
  follows = λ h s. follows h (m.follows h s);
  bases = λ number base had.
      let least_is : least_of mid number ≡ least_of old number = ap (λ (e : EngineState). least_of e number) m.same in
      elim (m.bases number base had) [
        | inl kept ↦ elim (bases number base kept) [ inl still ↦ inl still | inr is ↦ inr (subst (HasBase new.table.files number) least_is is) ]
        | inr least ↦ elim (bases number (least_of old number) least) [ inl still ↦ inr still | inr is ↦ inr (subst (HasBase new.table.files number) least_is is) ]
      ];
}

-- a file that was there is there
pub there_moved : (old new : EngineState) → MoveBases old new → (number : ℕ) → IsThere old.table.files number → IsThere new.table.files number
there_moved old new bases number there = elim (bases number there.file.content.base (record { file = there.file; at = there.at; base = refl })) [
  | inl has ↦ record { file = has.file; at = has.at }
  | inr has ↦ record { file = has.file; at = has.at }
]

-- the worn files that were compacted are so still
pub compacted_moved : (old mid new : EngineState) → mid ≡ record old { table = mid.table } → AreCompacted old mid → MoveBases mid new → AreCompacted old new
compacted_moved old mid new same compacted bases number file at worn = elim (bases number (least_of old number) (compacted number file at worn)) [
  | inl still ↦ still
  | inr is ↦ subst (HasBase new.table.files number) (ap (λ (e : EngineState). least_of e number) same) is
]
