-- One row for all selections by intervals that take it, and rows behind rows.
use Rattle.std.proofs.Common.{◌≡◌, ◌↔◌, ℕ, ◌+◌, ◌<◌, ◌≤◌, Bool, true, false, cond, ◌||◌, List, [], ◌∷◌, ◌++◌, length, nat_eq, Some, Option, inl, inr, refl, sym, subst, ap, ◌∙◌, append_assoc, true≢false}
use Rattle.std.specs.List.{AllByRecursion}
use Rattle.std.specs.Option.{option_map}
use Rattle.std.specs.FinMap.{get, insert}
use Rattle.std.proofs.lemmas.Bool.{eq-eqb, or_cases, and_parts, ltb-true, eqb-true}
use Rattle.std.proofs.lemmas.List.{append-nil}
use Rattle.std.proofs.lemmas.List.Elements.{filter-append}
use Rattle.std.specs.Prelude.{nat_lt}
use Rattle.ncq_base.specs.declared.interval.Interval.{Interval}
use Rattle.ncq_plan.specs.Exprs.{expr_width}
use Rattle.ncq_plan.specs.Meets.{is_within}
use Rattle.ncq_plan.specs.WellFormed.{IsWellFormedExpr, slots_fit}
use Rattle.ncq_plan.proofs.CallerLemmas.{width_range, fit_range}
use Rattle.ncq_midfile.specs.Views.{of_rows}
use Rattle.ncq_midfile.specs.declared.signed.SignedRow.{SignedRow}
use Rattle.ncq_shelf.specs.KeptFiles.{KeptFile, Files}
use Rattle.ncq_shelf.specs.Stands.{IsThere}
use Rattle.ncq_shelf.specs.Contents.{IsWide, with_more}
use Rattle.ncq_shelf.specs.Ranges.{SelectsRange, Takes, IsHeldBy, AppendsHeld}
use Rattle.ncq_shelf.specs.Readers.{IsAmong}
use Rattle.ncq_shelf.proofs.CallerLemmas.{put_same, one_value}
use Rattle.ncq_feed.specs.Runs.{Run, IsUnderWay, IsFor, is_among, news_of, news_in}
use Rattle.ncq_feed.specs.Shares.{IsHeldFor, AreShared, at_slot}
use Rattle.ncq_feed.proofs.GrowthLaws.{up, last, pushed_given, pushed_under, was}
use Rattle.ncq_feed.proofs.RangeLaws.{one_range, takes_or_not, takes_up, takes_back, held_up}

-- what a file is while the change is on its way, by itself
record IsGrown (run : Run) (number : ℕ) (now : Option KeptFile) : Type 0 where
  grown : now ≡ option_map (λ file. with_more file (news_of run.store.changes now)) (get run.files number)
  stamped : AllByRecursion (λ r. r.number ≡ run.store.changes + 1) (news_of run.store.changes now)
  wide : (file : KeptFile) → now ≡ Some file → IsWide file

module _ (run : Run) (files : Files) (under : IsUnderWay run files) where
  each_grown : (number : ℕ) → IsGrown run number (get files number)
  each_grown number = record { grown = under.grown number; stamped = under.stamped number; wide = λ file at. under.wide number file at }

  all_grown : (new : Files) → ((number : ℕ) → IsGrown run number (get new number)) → IsUnderWay run new
  all_grown new each = record {
    start = under.start;
    grown = λ number. (each number).grown;
    stamped = λ number. (each number).stamped;
    wide = λ number file at. (each number).wide file at;
  }

  module _ (at slot : ℕ) (row : SignedRow) (fits : IsHeldFor run at slot row) where
    abbrev now : ℕ
    now = run.store.changes

    -- it fits each file that takes it
    fits_taker : (number : ℕ) → Takes run.files at slot row.row number → IsFor run number row
    fits_taker number t = record {
      stamped = fits.fits.stamped;
      wide = λ file here.
          fits.fits.wide t.selects.over.file t.selects.over.at ∙ ap expr_width t.selects.over.of ∙ sym (width_range t.selects.inner slot t.interval) ∙ ap expr_width (sym t.selects.stands.of)
          ∙ ap (λ (f : KeptFile). expr_width f.expr) (one_value t.selects.stands.at here);
    }

    there_taker : (number : ℕ) → Takes run.files at slot row.row number → IsThere run.files number
    there_taker number t = record { file = t.selects.stands.file; at = t.selects.stands.at }

    -- what the call asks for
    pub asks_taken : IsHeldBy files at slot row.row
    asks_taken = held_up run files under at slot row.row fits.held

    pub asks_slot : slot < length row.row
    asks_slot =
        let t = fits.held.takes in
        let well = subst IsWellFormedExpr t.selects.stands.of (under.start.ready.formed fits.held.number t.selects.stands.file t.selects.stands.at) in
        let both = and_parts (slots_fit t.selects.inner) (nat_lt slot (expr_width t.selects.inner)) (sym (fit_range t.selects.inner slot t.interval) ∙ well.slots) in
        subst (λ n. slot < n) (sym (fits.fits.wide t.selects.over.file t.selects.over.at ∙ ap expr_width t.selects.over.of)) (ltb-true slot (expr_width t.selects.inner) both.1)

    pub asks_last : (interval : Interval) (number : ℕ) → SelectsRange files at slot interval number → (file : KeptFile) → get files number ≡ Some file → AllByRecursion (λ r. r.number ≤ row.number) file.content.rows
    asks_last interval number s file here = subst (λ n. AllByRecursion (λ r. r.number ≤ n) file.content.rows) (sym fits.fits.stamped) (last run files under number file here)

    module _ (new : Files) (appended : AppendsHeld files at slot row new) where
      module _ (number : ℕ) (t : Takes run.files at slot row.row number) where
        abbrev own : KeptFile
        own = with_more t.selects.stands.file (news_in now files number)

        own_at : get files number ≡ Some own
        own_at = up run files under number t.selects.stands.file t.selects.stands.at

        -- it has what it would have if the row had come to it alone
        as_pushed : get new number ≡ get (insert files number (with_more own (row ∷ []))) number
        as_pushed =
            appended.taken number (takes_up run files under at slot row.row number t) ∙ ap (option_map (λ file. with_more file (row ∷ []))) own_at
            ∙ sym (put_same files number (with_more own (row ∷ [])))

        own_wide : length row.row ≡ expr_width own.expr
        own_wide = (fits_taker number t).wide t.selects.stands.file t.selects.stands.at

        taker_grown : IsGrown run number (get new number)
        taker_grown =
            let u = pushed_under run files under number own own_at row fits.fits.stamped own_wide in
            subst (IsGrown run number) (sym as_pushed) (record {
              grown = u.grown number;
              stamped = u.stamped number;
              wide = λ file here. u.wide number file here;
            })

        taker_news : news_in now new number ≡ news_in now files number ++ row ∷ []
        taker_news = ap (news_of now) as_pushed ∙ (pushed_given run files under number own own_at row fits.fits.stamped own_wide).own

      module _ (number : ℕ) (none : Takes run.files at slot row.row number → ⊥) where
        stays : get new number ≡ get files number
        stays = appended.others number (λ t. none (takes_back run files under at slot row.row number t))

        other_grown : IsGrown run number (get new number)
        other_grown = subst (IsGrown run number) (sym stays) (each_grown number)

        other_news : news_in now new number ≡ news_in now files number
        other_news = ap (news_of now) stays

      pub shared_under : IsUnderWay run new
      shared_under = all_grown new (λ number. elim (takes_or_not run.files under.start.ready.grounded at slot row.row number) [
        | inl t ↦ taker_grown number t
        | inr none ↦ other_grown number none
      ])

      -- one row has the slot of one selection or another
      part_of : (slot' : ℕ) (interval : Interval) (number : ℕ) → SelectsRange run.files at slot' interval number → (b : Bool) → nat_eq slot slot' ≡ b → (c : Bool) → is_within slot' interval row.row ≡ c
          → news_in now new number ≡ news_in now files number ++ of_rows (is_within slot' interval) (cond b (row ∷ []) [])
      part_of slot' interval number s false e c w =
          other_news number (λ t. true≢false (sym (eq-eqb slot slot' (sym (one_range run.files number at at slot' slot interval t.interval s t.selects).0)) ∙ e))
          ∙ sym (append-nil (news_in now files number))
      part_of slot' interval number s true e true w =
          let same : slot' ≡ slot = sym (eqb-true slot slot' e) in
          taker_news number (subst (λ n. Takes run.files at n row.row number) same (record { interval = interval; selects = s; within = w }))
          ∙ ap (λ b. news_in now files number ++ cond b (row ∷ []) []) (sym w)
      part_of slot' interval number s true e false w =
          other_news number (λ t. true≢false (sym t.within ∙ outside t))
          ∙ sym (append-nil (news_in now files number)) ∙ ap (λ b. news_in now files number ++ cond b (row ∷ []) []) (sym w)
        where
          outside : (t : Takes run.files at slot row.row number) → is_within slot t.interval row.row ≡ false
          outside t =
              let p = one_range run.files number at at slot' slot interval t.interval s t.selects in
              (λ i. is_within (sym p.0 i) (sym p.1 i) row.row) ∙ w

      module _ (takers old_pending new_pending : List ℕ) (told : (number : ℕ) → IsAmong number takers ↔ Takes files at slot row.row number)
          (noted : (other : ℕ) → is_among other new_pending ≡ (is_among other takers || is_among other old_pending)) where
        none_of : (a b : Bool) → (a || b) ≡ false → (a ≡ false) × (b ≡ false)
        none_of true b h = absurd (true≢false h)
        none_of false b h = (refl, h)

        pub one_shared : AreShared run at (at_slot slot (row ∷ [])) old_pending new_pending files new
        one_shared = record {
          taken = λ slot' interval number s. part_of slot' interval number s (nat_eq slot slot') refl (is_within slot' interval row.row) refl;
          others = λ number none. other_news number (λ t. none (record { slot = slot; interval = t.interval; selects = t.selects }));
          quiet = λ number idle.
              let n = none_of (is_among number takers) (is_among number old_pending) (sym (noted number) ∙ idle) in
              (n.1, other_news number (λ t. true≢false (sym ((told number).1 (takes_up run files under at slot row.row number t)) ∙ n.0)));
          noted = λ number is. elim (or_cases (is_among number takers) (is_among number old_pending) (sym (noted number) ∙ is)) [
            | inl among ↦ let t = takes_back run files under at slot row.row number ((told number).0 among) in inr (record { slot = slot; interval = t.interval; selects = t.selects })
            | inr was ↦ inl was
          ];
        }

-- rows behind rows
module _ (run : Run) (at : ℕ) where
  pub none_shared : (pending : List ℕ) (files : Files) (rows : ℕ → List SignedRow) → ((slot : ℕ) → rows slot ≡ []) → AreShared run at rows pending pending files files
  none_shared pending files rows none = record {
    taken = λ slot interval number s. sym (append-nil (news_in run.store.changes files number)) ∙ ap (λ xs. news_in run.store.changes files number ++ of_rows (is_within slot interval) xs) (sym (none slot));
    others = λ number n. refl;
    quiet = λ number idle. (idle, refl);
    noted = λ number is. inl is;
  }

  pub more_shared : (first second all : ℕ → List SignedRow) → ((slot : ℕ) → first slot ++ second slot ≡ all slot) → (pending0 pending1 pending2 : List ℕ) (files0 files1 files2 : Files)
      → AreShared run at first pending0 pending1 files0 files1 → AreShared run at second pending1 pending2 files1 files2 → AreShared run at all pending0 pending2 files0 files2
  more_shared first second all is pending0 pending1 pending2 files0 files1 files2 a b = record {
    taken = λ slot interval number s.
        b.taken slot interval number s ∙ ap (λ xs. xs ++ of_rows (is_within slot interval) (second slot)) (a.taken slot interval number s)
        ∙ append_assoc (news_in run.store.changes files0 number) (of_rows (is_within slot interval) (first slot)) (of_rows (is_within slot interval) (second slot))
        ∙ ap (λ xs. news_in run.store.changes files0 number ++ xs) (sym (filter-append (λ (r : SignedRow). is_within slot interval r.row) (first slot) (second slot)))
        ∙ ap (λ xs. news_in run.store.changes files0 number ++ of_rows (is_within slot interval) xs) (is slot);
    others = λ number none. b.others number none ∙ a.others number none;
    quiet = λ number idle. let q = b.quiet number idle in let p = a.quiet number q.0 in (p.0, q.1 ∙ p.1);
    noted = λ number among. elim (b.noted number among) [
      | inl was ↦ a.noted number was
      | inr over ↦ inr over
    ];
  }

  -- a row and those left are all, at their slot
  pub slot_more : (slot : ℕ) (row : SignedRow) (rest : List SignedRow) (other : ℕ) → at_slot slot (row ∷ []) other ++ at_slot slot rest other ≡ at_slot slot (row ∷ rest) other
  slot_more slot row rest other = by (nat_eq slot other)
    where
      by : (b : Bool) → cond b (row ∷ []) [] ++ cond b rest [] ≡ cond b (row ∷ rest) []
      by true = refl
      by false = refl

  pub slot_none : (slot other : ℕ) → at_slot slot [] other ≡ []
  slot_none slot other = by (nat_eq slot other)
    where
      by : (b : Bool) → cond {A = List SignedRow} b [] [] ≡ []
      by true = refl
      by false = refl
