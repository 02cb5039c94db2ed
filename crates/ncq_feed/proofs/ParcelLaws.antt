-- Parcels for the selections over a file, and the joins over it.
use Rattle.std.proofs.Common.{◌≡◌, ◌≢◌, ℕ, ◌+◌, Bool, true, false, cond, ◌||◌, nat_eq, List, [], ◌∷◌, ◌++◌, map, length, Some, ◌⊎◌, inl, inr, refl, sym, ap, ◌∙◌, subst, append_assoc, true≢false}
use Rattle.std.specs.List.{AllByRecursion, filter}
use Rattle.std.specs.FinMap.{get}
use Rattle.std.proofs.lemmas.Bool.{cases_eq, eq-eqb, ne_eqb, or_cases}
use Rattle.std.proofs.lemmas.List.{append-nil}
use Rattle.ncq_plan.specs.Exprs.{expr_width}
use Rattle.ncq_plan.proofs.CallerLemmas.{width_equal, width_range}
use Rattle.ncq_plan.specs.Meets.{is_within}
use Rattle.ncq_midfile.specs.Views.{of_rows}
use Rattle.ncq_midfile.specs.declared.signed.SignedRow.{SignedRow}
use Rattle.ncq_midfile.specs.Content.{since}
use Rattle.ncq_split.specs.declared.parcel.Parcel.{Parcel}
use Rattle.ncq_readers.specs.Passed.{rows_to, held_at}
use Rattle.ncq_readers.specs.declared.ranges.HeldRows.{HeldRows}
use Rattle.ncq_shelf.specs.KeptFiles.{KeptFile, Files}
use Rattle.ncq_shelf.specs.Stands.{IsThere}
use Rattle.ncq_shelf.specs.Contents.{with_more}
use Rattle.ncq_shelf.specs.Ranges.{AreHeldOf, IsHeldBy, IsNoRange, SelectsRange}
use Rattle.ncq_shelf.specs.Readers.{SelectsFrom, SelectsEqual, MakesNothing, ArePassedOn, AreJoinsMet}
use Rattle.ncq_shelf.specs.Readers.SelectsEqual.{equal as by_constant}
use Rattle.ncq_shelf.specs.Readers.SelectsFrom.{equal as equal_from, range as range_from}
use Rattle.ncq_shelf.proofs.CallerLemmas.{one_value}
use Rattle.ncq_feed.specs.Runs.{Run, IsUnderWay, IsFor, IsGiven, is_among, news_of, news_in}
use Rattle.ncq_feed.specs.Shares.{AreShared, IsHeldFor}
use Rattle.ncq_feed.specs.Turns.{IsParcelFor, AreDelivered, IsPassedDown, AreTold, files_of}
use Rattle.ncq_feed.proofs.WiringLaws.{selects_or_not, selection_there}
use Rattle.ncq_feed.proofs.GrowthLaws.{equals_up, equals_back, over_up, over_back, up}
use Rattle.ncq_feed.proofs.RangeLaws.{by_equal, by_interval, no_equal, equal_own, equal_or_range, of_taken, all_taken, each_group, held_of_back}

-- rows to a file, parcel by parcel

to_own : (number : ℕ) (parcel : Parcel) (rest : List Parcel) → number ≡ parcel.file.0 → rows_to number (parcel ∷ rest) ≡ parcel.row ∷ rows_to number rest
to_own number parcel rest e = λ i. map (λ (p : Parcel). p.row) (cond (eq-eqb parcel.file.0 number (sym e) i) (parcel ∷ filter (λ p. nat_eq p.file.0 number) rest) (filter (λ p. nat_eq p.file.0 number) rest))

to_other : (number : ℕ) (parcel : Parcel) (rest : List Parcel) → number ≢ parcel.file.0 → rows_to number (parcel ∷ rest) ≡ rows_to number rest
to_other number parcel rest differs = λ i. map (λ (p : Parcel). p.row) (cond (ne_eqb parcel.file.0 number (λ e. differs (sym e)) i) (parcel ∷ filter (λ p. nat_eq p.file.0 number) rest) (filter (λ p. nat_eq p.file.0 number) rest))

-- a parcel more, and those left
pub delivered_more : (run : Run) (number : ℕ) (parcel : Parcel) (rest : List Parcel) (middle new : Files) (all : List SignedRow)
    → news_in run.store.changes middle number ++ rows_to number (parcel ∷ rest) ≡ all → IsGiven run parcel.file.0 (parcel.row ∷ []) middle new
    → news_in run.store.changes new number ++ rows_to number rest ≡ all
delivered_more run number parcel rest middle new all e given = elim (cases_eq number parcel.file.0) [
  | inl same ↦
      let own : news_in run.store.changes new number ≡ news_in run.store.changes middle number ++ parcel.row ∷ [] =
      subst (λ n. news_in run.store.changes new n ≡ news_in run.store.changes middle n ++ parcel.row ∷ []) (sym same) given.own in
      ap (λ xs. xs ++ rows_to number rest) own ∙ append_assoc (news_in run.store.changes middle number) (parcel.row ∷ []) (rows_to number rest)
      ∙ ap (λ xs. news_in run.store.changes middle number ++ xs) (sym (to_own number parcel rest same)) ∙ e
  | inr differs ↦
      ap (λ xs. xs ++ rows_to number rest) (given.others number differs)
      ∙ ap (λ xs. news_in run.store.changes middle number ++ xs) (sym (to_other number parcel rest differs)) ∙ e
]

module _ (Q : ℕ → SignedRow → Type 0) where
  tail_of : (number : ℕ) (b : Bool) (parcel : Parcel) (rest : List Parcel) → AllByRecursion (Q number) (map (λ (p : Parcel). p.row) (cond b (parcel ∷ rest) rest)) → AllByRecursion (Q number) (map (λ (p : Parcel). p.row) rest)
  tail_of number true parcel rest h = h.1
  tail_of number false parcel rest h = h

  -- what holds of the rows to each file holds of each parcel
  each_parcel : (parcels : List Parcel) → ((number : ℕ) → AllByRecursion (Q number) (rows_to number parcels)) → AllByRecursion (λ p. Q p.file.0 p.row) parcels
  each_parcel [] h = tt
  each_parcel (parcel ∷ parcels) h = (
    (subst (AllByRecursion (Q parcel.file.0)) (to_own parcel.file.0 parcel parcels refl) (h parcel.file.0)).0,
    each_parcel parcels (λ number. tail_of number (nat_eq parcel.file.0 number) parcel (filter (λ p. nat_eq p.file.0 number) parcels) (h number)),
  )

all_filter : {A : Type 0} (P : A → Type 0) (test : A → Bool) (xs : List A) → AllByRecursion P xs → AllByRecursion P (filter test xs)
all_filter P test [] h = tt
all_filter P test (x ∷ xs) h = elim (test x) as (λ b. AllByRecursion P (cond b (x ∷ filter test xs) (filter test xs))) [
  | true ↦ (h.0, all_filter P test xs h.1)
  | false ↦ all_filter P test xs h.1
]

pub all_map : {A : Type 0} (P Q : A → Type 0) → ((x : A) → P x → Q x) → (xs : List A) → AllByRecursion P xs → AllByRecursion Q xs
all_map P Q f [] h = tt
all_map P Q f (x ∷ xs) h = (f x h.0, all_map P Q f xs h.1)

all_both : {A : Type 0} (P Q : A → Type 0) (xs : List A) → AllByRecursion P xs → AllByRecursion Q xs → AllByRecursion (λ x. P x × Q x) xs
all_both P Q [] h k = tt
all_both P Q (x ∷ xs) h k = ((h.0, k.0), all_both P Q xs h.1 k.1)

module _ (number : ℕ) where
  not_other : (a b : Bool) → (a || b) ≡ false → (a ≡ false) × (b ≡ false)
  not_other true b h = absurd (true≢false h)
  not_other false b h = (refl, h)

  pub none_of : (a b : Bool) → (a || b) ≡ false → (a ≡ false) × (b ≡ false)
  none_of = not_other

  none_to : (parcels : List Parcel) → is_among number (files_of parcels) ≡ false → rows_to number parcels ≡ []
  none_to [] h = refl
  none_to (parcel ∷ parcels) h =
      let n = not_other (nat_eq number parcel.file.0) (is_among number (files_of parcels)) h in
      to_other number parcel parcels (λ e. true≢false (sym (eq-eqb number parcel.file.0 e) ∙ n.0)) ∙ none_to parcels n.1

  some_to : (parcels : List Parcel) → is_among number (files_of parcels) ≡ true → rows_to number parcels ≡ [] → ⊥
  some_to [] h e = true≢false (sym h)
  some_to (parcel ∷ parcels) h e = elim (cases_eq number parcel.file.0) [
    | inl same ↦ let f = sym (to_own number parcel parcels same) ∙ e in cc
    | inr differs ↦ some_to parcels (sym (λ i. ne_eqb number parcel.file.0 differs i || is_among number (files_of parcels)) ∙ h) (sym (to_other number parcel parcels differs) ∙ e)
  ]

module _ (run : Run) (files : Files) (under : IsUnderWay run files) (at : ℕ) where
  abbrev now : ℕ
  now = run.store.changes

  -- the rows of the change have the width of the file's expression
  news_wide : (file : KeptFile) → get files at ≡ Some file → AllByRecursion (λ r. length r.row ≡ expr_width file.expr) (news_in now files at)
  news_wide file here = subst (AllByRecursion (λ r. length r.row ≡ expr_width file.expr)) (sym (ap (news_of now) here))
      (all_filter (λ (r : SignedRow). length r.row ≡ expr_width file.expr) _ file.content.rows (under.wide at file here))

  same_width : (number : ℕ) (test : SignedRow → Bool) → SelectsFrom run.files number at test → (file own : KeptFile) → get run.files number ≡ Some file → get run.files at ≡ Some own → expr_width own.expr ≡ expr_width file.expr
  same_width number _ (equal_from inner slot constant s t) file own here here' =
      ap (λ (f : KeptFile). expr_width f.expr) (one_value here' t.at) ∙ ap expr_width t.of ∙ sym (width_equal inner slot constant) ∙ ap expr_width (sym s.of) ∙ ap (λ (f : KeptFile). expr_width f.expr) (one_value s.at here)
  same_width number _ (range_from inner slot interval s t) file own here here' =
      ap (λ (f : KeptFile). expr_width f.expr) (one_value here' t.at) ∙ ap expr_width t.of ∙ sym (width_range inner slot interval) ∙ ap expr_width (sym s.of) ∙ ap (λ (f : KeptFile). expr_width f.expr) (one_value s.at here)

  module _ (is_there : IsThere run.files at) (parcels : List Parcel) (passed : (file : KeptFile) → get files at ≡ Some file → ArePassedOn files at (since now file.content.rows) parcels) where
    abbrev own_file : KeptFile
    own_file = with_more is_there.file (news_in now files at)

    own_at : get files at ≡ Some own_file
    own_at = up run files under at is_there.file is_there.at

    rows_are : since now own_file.content.rows ≡ news_in now files at
    rows_are = sym (ap (news_of now) own_at)

    abbrev given : ArePassedOn files at (since now own_file.content.rows) parcels
    given = passed own_file own_at

    pub taken_rows : (number : ℕ) (test : SignedRow → Bool) → SelectsEqual run.files number at test → rows_to number parcels ≡ filter test (news_in now files at)
    taken_rows number test selects = given.taken number test (equals_up run files under number at test selects) ∙ ap (filter test) rows_are

    pub other_rows : (number : ℕ) → ((test : SignedRow → Bool) → SelectsEqual run.files number at test → ⊥) → rows_to number parcels ≡ []
    other_rows number not_over = given.others number (λ test selects. not_over test (equals_back run files under number at test selects))

    pub equal_or_not : (number : ℕ) → ((test : SignedRow → Bool) × SelectsEqual run.files number at test) ⊎ ((test : SignedRow → Bool) → SelectsEqual run.files number at test → ⊥)
    equal_or_not number = elim (selects_or_not run.files under.start.ready.grounded number at) [
      | inl s ↦ elim (equal_or_range run.files number at s.0 s.1) [
        | inl e ↦ inl (s.0, e)
        | inr r ↦ inr (λ test e. no_equal run.files number at at test e r)
      ]
      | inr not_over ↦ inr (λ test e. not_over test (by_equal run.files number at test e))
    ]

    abbrev Q : ℕ → SignedRow → Type 0
    Q number row = IsThere run.files number × IsNoRange run.files number × IsFor run number row

    q_selected : (number : ℕ) (test : SignedRow → Bool) → SelectsEqual run.files number at test → AllByRecursion (Q number) (filter test (news_in now files at))
    q_selected number test selects =
        let f = selection_there run.files under.start.ready.grounded number at test (by_equal run.files number at test selects) in
        all_filter (Q number) test (news_in now files at)
        (all_map (λ r. (r.number ≡ now + 1) × (length r.row ≡ expr_width own_file.expr)) (Q number)
        (λ r h. (
          record { file = f.0; at = f.1 },
          equal_own run.files number at test selects,
          record {
            stamped = h.0;
            wide = λ file here. h.1 ∙ same_width number test (by_equal run.files number at test selects) file is_there.file here is_there.at;
          },
        )) (news_in now files at)
        (all_both (λ (r : SignedRow). r.number ≡ now + 1) (λ (r : SignedRow). length r.row ≡ expr_width own_file.expr) (news_in now files at) (under.stamped at) (news_wide own_file own_at)))

    q_all : (number : ℕ) → AllByRecursion (Q number) (rows_to number parcels)
    q_all number = elim (equal_or_not number) [
      | inl s ↦ subst (AllByRecursion (Q number)) (sym (taken_rows number s.0 s.1)) (q_selected number s.0 s.1)
      | inr not_over ↦ subst (AllByRecursion (Q number)) (sym (other_rows number not_over)) tt
    ]

    -- each parcel is for a file, and its row for that file
    pub parcels_fit : AllByRecursion (IsParcelFor run) parcels
    parcels_fit = all_map (λ p. Q p.file.0 p.row) (IsParcelFor run) (λ p h. record { there = h.0; own = h.1; fits = h.2 }) parcels (each_parcel Q parcels q_all)

    -- what the parcels and the held rows bring passes the rows on
    module _ (held : List HeldRows) (held_of : (file : KeptFile) → get files at ≡ Some file → AreHeldOf files at (since now file.content.rows) held) where
      pub held_are : AreHeldOf run.files at (news_in now files at) held
      held_are = subst (λ rows. AreHeldOf run.files at rows held) rows_are (held_of_back run files under at (since now own_file.content.rows) held (held_of own_file own_at))

      -- each held row fits, and some selection takes it
      pub held_fit : AllByRecursion (λ h. AllByRecursion (IsHeldFor run at h.slot) h.rows) held
      held_fit = each_group (IsHeldFor run at) held (λ slot.
          all_map (λ r. ((r.number ≡ now + 1) × (length r.row ≡ expr_width own_file.expr)) × IsHeldBy run.files at slot r.row) (IsHeldFor run at slot)
          (λ r h. record {
            fits = record { stamped = h.0.0; wide = λ file here. h.0.1 ∙ ap (λ (f : KeptFile). expr_width f.expr) (one_value is_there.at here) };
            held = h.1;
          }) (held_at slot held)
          (all_taken run.files at slot (λ r. (r.number ≡ now + 1) × (length r.row ≡ expr_width own_file.expr)) (news_in now files at) (held_at slot held)
          (all_both (λ (r : SignedRow). r.number ≡ now + 1) (λ (r : SignedRow). length r.row ≡ expr_width own_file.expr) (news_in now files at) (under.stamped at) (news_wide own_file own_at)) (held_are slot)))

      module _ (pending0 pending1 pending2 : List ℕ) (files1 files2 : Files) (delivered : AreDelivered run parcels pending0 pending1 files files1)
          (shared : AreShared run at (λ slot. held_at slot held) pending1 pending2 files1 files2) where
        taken_down : (number : ℕ) (test : SignedRow → Bool) → SelectsFrom run.files number at test → news_in now files2 number ≡ news_in now files number ++ filter test (news_in now files at)
        taken_down number _ (equal_from inner slot constant s t) =
            let e : SelectsEqual run.files number at _ = by_constant inner slot constant s t in
            shared.others number (no_equal run.files number at at _ e) ∙ delivered.rows number ∙ ap (λ xs. news_in now files number ++ xs) (taken_rows number _ e)
        taken_down number _ (range_from inner slot interval s t) =
            let r : SelectsRange run.files at slot interval number = record { inner = inner; stands = s; over = t } in
            shared.taken slot interval number r
            ∙ ap (λ xs. xs ++ of_rows (is_within slot interval) (held_at slot held))
            (delivered.rows number ∙ ap (λ xs. news_in now files number ++ xs) (other_rows number (λ test e. no_equal run.files number at at test e (record { slot = slot; interval = interval; selects = r }))) ∙ append-nil (news_in now files number))
            ∙ ap (λ xs. news_in now files number ++ xs) (of_taken run.files at slot interval number r (news_in now files at) (held_at slot held) (held_are slot))

        others_down : (number : ℕ) → ((test : SignedRow → Bool) → SelectsFrom run.files number at test → ⊥) → news_in now files2 number ≡ news_in now files number
        others_down number not_over =
            shared.others number (λ r. not_over _ (by_interval run.files number at r.slot r.interval r.selects)) ∙ delivered.rows number
            ∙ ap (λ xs. news_in now files number ++ xs) (other_rows number (λ test e. not_over test (by_equal run.files number at test e))) ∙ append-nil (news_in now files number)

        pub passed_down : IsPassedDown run at pending0 pending2 files files2
        passed_down = record {
          taken = taken_down;
          others = others_down;
          quiet = λ number idle.
              let q = shared.quiet number idle in
              let n = none_of number (is_among number (files_of parcels)) (is_among number pending0) (sym (delivered.noted number) ∙ q.0) in
              (n.1, q.1 ∙ delivered.rows number ∙ ap (λ xs. news_in now files number ++ xs) (none_to number parcels n.0) ∙ append-nil (news_in now files number));
          noted = λ number is. elim (shared.noted number is) [
            | inl was ↦ elim (or_cases (is_among number (files_of parcels)) (is_among number pending0) (sym (delivered.noted number) ∙ was)) [
              | inl among ↦ elim (equal_or_not number) [
                | inl e ↦ inr (e.0, by_equal run.files number at e.0 e.1)
                | inr not_over ↦ absurd (some_to number parcels among (other_rows number not_over))
              ]
              | inr before ↦ inl before
            ]
            | inr r ↦ inr (_, by_interval run.files number at r.slot r.interval r.selects)
          ];
        }

  -- the joins over the file that make something of its rows are told
  pub joins_told : (change : ℕ) → change ≡ now → (numbers old_pending new_pending : List ℕ) → AreJoinsMet files at change numbers → ((number : ℕ) → is_among number new_pending ≡ (is_among number numbers || is_among number old_pending)) → AreTold run at files old_pending new_pending
  joins_told change is numbers old_pending new_pending met noted = record {
    stays = λ number idle. (none_of number (is_among number numbers) (is_among number old_pending) (sym (noted number) ∙ idle)).1;
    told = λ number idle over.
        let n = none_of number (is_among number numbers) (is_among number old_pending) (sym (noted number) ∙ idle) in
        subst (λ n. MakesNothing files at n number) is (met.others number (over_up run files under at number over) n.0);
    noted = λ number is. elim (or_cases (is_among number numbers) (is_among number old_pending) (sym (noted number) ∙ is)) [
      | inl among ↦ inr (over_back run files under at number (met.joins number among))
      | inr was ↦ inl was
    ];
  }
