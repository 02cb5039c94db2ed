-- What one turn does passes the change on.
use Rattle.std.proofs.Common.{◌≡◌, ◌≢◌, ℕ, ◌<◌, ◌≤◌, ◌+◌, Bool, true, false, ◌||◌, nat_eq, List, [], ◌∷◌, ◌++◌, Some, ◌⊎◌, inl, inr, refl, sym, ap, ◌∙◌, subst, arith}
use Rattle.std.specs.List.{filter, AllByRecursion}
use Rattle.std.specs.Prelude.{nat_lt}
use Rattle.std.specs.FinMap.{get}
use Rattle.std.proofs.lemmas.Bool.{cases_eq, ne_eqb, eq-eqb}
use Rattle.ncq_midfile.specs.declared.signed.SignedRow.{SignedRow}
use Rattle.ncq_midfile.specs.Files.{FileState}
use Rattle.ncq_midfile.specs.Content.{since}
use Rattle.ncq_midfile.specs.Views.{IsLast}
use Rattle.ncq_shelf.specs.KeptFiles.{KeptFile, Files}
use Rattle.ncq_shelf.specs.Stands.{IsThere}
use Rattle.ncq_shelf.specs.Readers.{SelectsFrom, JoinsFrom, IsJoinOver}
use Rattle.ncq_feed.specs.Passing.{IsPassedTo, Passes}
use Rattle.ncq_feed.specs.Runs.{Run, IsStarted, IsUnderWay, ArePassed, JoinGetsFrom, IsScanFile, AreRight, LeftMissesFrom, RightMissesFrom, BothMissFrom, wiring_of, is_among, news_of, news_in}
use Rattle.ncq_feed.specs.JoinFeeds.{IsJoined, AreKnown}
use Rattle.ncq_feed.specs.Turns.{IsPassedDown, AreTold}
use Rattle.ncq_feed.proofs.GrowthLaws.{there_up}
use Rattle.ncq_feed.proofs.PassingLaws.{pass, skip, all_passed}
use Rattle.ncq_feed.proofs.WiringLaws.{selects_down, joins_down, scan_no_selection, join_no_selection, scan_no_join, input_of-selection, selection_there}
use Rattle.ncq_feed.proofs.MissLaws.{misses, left_misses, right_misses}
use Rattle.ncq_feed.proofs.ContentLaws.{none_since}
use Rattle.ncq_feed.proofs.FedLaws.{fed, known_sides}

nil_left : {A : Type 0} (xs : List A) → xs ++ [] ≡ xs
nil_left [] = refl
nil_left (x ∷ xs) = ap (λ ys. x ∷ ys) (nil_left xs)

module _ (run : Run) (start : IsStarted run) (at : ℕ) (keys : List ℕ) (files0 files1 files2 : Files) (pending : List ℕ) where
  abbrev before : ℕ → List SignedRow
  before number = news_in run.store.changes files0 number

  abbrev joined : ℕ → List SignedRow
  joined number = news_in run.store.changes files1 number

  abbrev after : ℕ → List SignedRow
  after number = news_in run.store.changes files2 number

  module _ (passed : IsPassedTo (wiring_of run) at (λ number. is_among number (at ∷ keys)) before)
      (join : IsJoined run at files0 files1)
      (taken : (number : ℕ) (test : SignedRow → Bool) → SelectsFrom run.files number at test → after number ≡ joined number ++ filter test (joined at))
      (others : (number : ℕ) → ((test : SignedRow → Bool) → SelectsFrom run.files number at test → ⊥) → after number ≡ joined number)
      (later : (number : ℕ) → is_among number pending ≡ true → at < number)
      (quiet : (number : ℕ) → is_among number pending ≡ false → (is_among number keys ≡ false) × (after number ≡ joined number))
      (left_told : (number right : ℕ) → JoinsFrom run.files number at right → is_among number pending ≡ false → LeftMissesFrom run number (after at) × BothMissFrom run number (after at) (after right))
      (right_told : (number left : ℕ) → JoinsFrom run.files number left at → is_among number pending ≡ false → RightMissesFrom run number (after at) × BothMissFrom run number (after left) (after at)) where
    not_own : (test : SignedRow → Bool) → SelectsFrom run.files at at test → ⊥
    not_own test selects = let l = selects_down run.files start.ready.grounded at at test selects in omega arith

    own_stays : after at ≡ joined at
    own_stays = others at not_own

    stays_if : (number : ℕ) → (number ≡ at → ⊥) → ((test : SignedRow → Bool) → SelectsFrom run.files number at test → ⊥) → after number ≡ before number
    stays_if number differs not_over = others number not_over ∙ join.others number differs

    selection_stays : (number input : ℕ) (test : SignedRow → Bool) → SelectsFrom run.files number input test → (input ≡ at → ⊥) → (number ≡ at → ⊥) → after number ≡ before number
    selection_stays number input test selects apart differs =
        stays_if number differs (λ test' selects'. apart (input_of-selection run.files start.ready.grounded number input at test test' selects selects'))

    not_at : (number : ℕ) → (number ≡ at → ⊥) → is_among number keys ≡ false → is_among number (at ∷ keys) ≡ false
    not_at number differs idle = (λ i. ne_eqb number at differs i || is_among number keys) ∙ idle

    passes : Passes (wiring_of run) at (λ number. is_among number (at ∷ keys)) before (λ number. is_among number pending) after
    passes = record {
      below = λ number less. stays_if number (λ e. let l = less in absurd (omega arith)) (λ test selects. let l = selects_down run.files start.ready.grounded number at test selects in absurd (omega arith));
      scan = λ number scan. others number (λ test selects. scan_no_selection run.files number at test selects scan.source scan.shape scan.stands) ∙ (elim (cases_eq number at) [
        | inl same ↦ subst (λ n. IsScanFile run.files n → joined n ≡ before n) (sym same) (λ s. join.own (λ left right j. scan_no_join run.files at s.source s.shape j.first j.second j.pairs s.stands j.stands)) scan
        | inr differs ↦ join.others number differs
      ]);
      own = λ input test selects. own_stays ∙ join.own (λ left right j. join_no_selection run.files at input test selects j.first j.second j.pairs j.stands);
      join = λ left right j. subst (JoinGetsFrom run at (before left) (before right)) (sym own_stays) (join.joined left right j (passed.unjoined at left right j (omega arith)));
      taken = λ number test selects.
          let up = selects_down run.files start.ready.grounded number at test selects in
          let none : joined number ≡ [] = join.others number (λ e. absurd (omega arith)) ∙ passed.waiting number at test selects (omega arith) in
          taken number test selects ∙ ap (λ xs. xs ++ filter test (joined at)) none ∙ ap (filter test) (sym own_stays);
      kept = λ number input test selects less above. selection_stays number input test selects (λ e. absurd (omega arith)) (λ e. absurd (omega arith));
      idle = λ number input test selects above.
          let down = selects_down run.files start.ready.grounded number input test selects in
          selection_stays number input test selects (λ e. absurd (omega arith)) (λ e. absurd (omega arith)) ∙ passed.waiting number input test selects (omega arith);
      others = λ number left right j above. stays_if number (λ e. absurd (omega arith)) (λ test selects. join_no_selection run.files number at test selects j.first j.second j.pairs j.stands);
      later = later;
      stays = λ number above idle.
          let q = quiet number idle in
          let differs : number ≢ at = λ e. absurd (omega arith) in
          let still = not_at number differs q.0 in
          (still, q.1 ∙ join.others number differs ∙ passed.quiet number (omega arith) still);
      left_told = left_told;
      right_told = right_told;
    }

    pub turn_passes : IsPassedTo (wiring_of run) (at + 1) (λ number. is_among number pending) after
    turn_passes = pass (wiring_of run) (selects_down run.files start.ready.grounded) (joins_down run.files start.ready.grounded) (misses run) at (λ number. is_among number (at ∷ keys)) before passed (λ number. is_among number pending) after passes

module _ (run : Run) (start : IsStarted run) (at : ℕ) (keys : List ℕ) (files0 files1 : Files)
    (passed : ArePassed run at (at ∷ keys) files0) (above : (other : ℕ) → is_among other keys ≡ true → at < other) (join : IsJoined run at files0 files1) where
  there_later : (number : ℕ) → is_among number keys ≡ true → IsThere run.files number
  there_later number is = passed.there number (later_of (nat_eq number at) is)
    where
      later_of : (b : Bool) → is_among number keys ≡ true → (b || is_among number keys) ≡ true
      later_of true h = refl
      later_of false h = h

  -- a file that got nothing has nothing to pass on
  pub idle_turn : news_in run.store.changes files1 at ≡ [] → ArePassed run (at + 1) keys files1
  idle_turn none = record {
    passed = turn_passes run start at keys files0 files1 files1 keys passed.passed join
        (λ number test selects. sym (ap (λ xs. news_in run.store.changes files1 number ++ filter test xs) none ∙ nil_left (news_in run.store.changes files1 number)))
        (λ number not_over. refl) above (λ number idle. (idle, refl))
        (λ number right j idle. (
          subst (LeftMissesFrom run number) (sym none) ((misses run).no_lefts number),
          subst (λ rows. BothMissFrom run number rows (news_in run.store.changes files1 right)) (sym none) ((misses run).none_left number (news_in run.store.changes files1 right)),
        ))
        (λ number left j idle. (
          subst (RightMissesFrom run number) (sym none) ((misses run).no_rights number),
          subst (BothMissFrom run number (news_in run.store.changes files1 left)) (sym none) ((misses run).none_right number (news_in run.store.changes files1 left)),
        ));
    there = there_later;
  }

  -- a file that got rows gives them to the selections over it, and tells the joins that make something of them
  pub busy_turn : (files2 : Files) → IsUnderWay run files2 → (noted pending : List ℕ) → IsPassedDown run at keys noted files1 files2 → AreTold run at files2 noted pending → ArePassed run (at + 1) pending files2
  busy_turn files2 under2 noted pending down told = record {
    passed = turn_passes run start at keys files0 files1 files2 pending passed.passed join down.taken down.others
        (λ number is. elim (told.noted number is) [
          | inl was ↦ elim (down.noted number was) [
            | inl before ↦ above number before
            | inr selects ↦ selects_down run.files start.ready.grounded number at selects.0 selects.1
          ]
          | inr over ↦ over_above number over
        ])
        (λ number idle. down.quiet number (told.stays number idle))
        (λ number right j idle. left_misses run files2 under2 at number (told.told number idle (record { left = at; right = right; joins = j; here = inl refl })) right j)
        (λ number left j idle. right_misses run files2 under2 at number (told.told number idle (record { left = left; right = at; joins = j; here = inr refl })) left j);
    there = λ number is. elim (told.noted number is) [
      | inl was ↦ elim (down.noted number was) [
        | inl before ↦ there_later number before
        | inr selects ↦ let f = selection_there run.files start.ready.grounded number at selects.0 selects.1 in record { file = f.0; at = f.1 }
      ]
      | inr over ↦ record { file = over.joins.stands.file; at = over.joins.stands.at }
    ];
  }
    where
      over_above : (number : ℕ) → IsJoinOver run.files at number → at < number
      over_above number over =
          let down = joins_down run.files start.ready.grounded number over.left over.right over.joins in
          elim over.here [
            | inl e ↦ let d = down.0 in omega arith
            | inr e ↦ let d = down.1 in omega arith
          ]

-- the turn of a file leaves the files below it as they were
module _ (run : Run) (start : IsStarted run) (at : ℕ) (files0 files1 : Files) (join : IsJoined run at files0 files1) where
  pub below_join : (number : ℕ) → number < at → news_in run.store.changes files1 number ≡ news_in run.store.changes files0 number
  below_join number less = join.others number (λ e. let l = less in absurd (omega arith))

  pub below_turn : (files2 : Files) (keys noted : List ℕ) → IsPassedDown run at keys noted files1 files2 → (number : ℕ) → number < at → news_in run.store.changes files2 number ≡ news_in run.store.changes files0 number
  below_turn files2 keys noted down number less =
      down.others number (λ test selects. let l = selects_down run.files start.ready.grounded number at test selects in absurd (omega arith)) ∙ below_join number less

-- the contents of the sides of the file whose turn it is are known, if it is a join
pub turn_known : (run : Run) (files : Files) (under : IsUnderWay run files) (at : ℕ) (pending : List ℕ) → ArePassed run at pending files → AreKnown run at files
turn_known run files under at pending passed =
    known_sides run under.start (λ number. news_in run.store.changes files number) under.stamped files (λ number. is_among number pending) at passed.passed (λ number. refl)

-- the turn comes to the least pending file
pub next_turn : (run : Run) (files : Files) (under : IsUnderWay run files) (next at : ℕ) (pending rest : List ℕ) → ArePassed run next pending files → pending ≡ at ∷ rest
    → ((other : ℕ) → is_among other rest ≡ true → at < other) → ArePassed run at (at ∷ rest) files
next_turn run files under next at pending rest passed is above =
    let p : ArePassed run next (at ∷ rest) files = subst (λ keys. ArePassed run next keys files) is passed in
    record {
      passed = skip (wiring_of run) (selects_down run.files under.start.ready.grounded) (joins_down run.files under.start.ready.grounded) (misses run) next
          (λ number. is_among number (at ∷ rest)) (λ number. news_in run.store.changes files number) p.passed at (p.passed.ahead at (first at rest)) (λ number h. least number (cases_eq number at) h);
      there = p.there;
    }
  where
    first : (n : ℕ) (ns : List ℕ) → is_among n (n ∷ ns) ≡ true
    first n ns = ap (λ b. b || is_among n ns) (eq-eqb n n refl)

    least : (number : ℕ) → (number ≡ at) ⊎ (number ≢ at) → is_among number (at ∷ rest) ≡ true → at ≤ number
    least number (inl same) h = omega arith
    least number (inr differs) h = let l = above number (sym (λ i. ne_eqb number at differs i || is_among number rest) ∙ h) in omega arith

-- when no file is pending, each has what the change makes of its expression
pub all_right : (run : Run) (files : Files) (under : IsUnderWay run files) (next : ℕ) (pending : List ℕ) → ArePassed run next pending files → pending ≡ [] → (number : ℕ) → AreRight run number (news_in run.store.changes files number)
all_right run files under next pending passed none number file at =
    let bound = next + (number + 1) in
    let done = all_passed (wiring_of run) (selects_down run.files under.start.ready.grounded) (joins_down run.files under.start.ready.grounded) (misses run) next
    (λ number. is_among number pending) (λ number. news_in run.store.changes files number) passed.passed bound (omega arith) (λ other. ap (λ keys. is_among other keys) none) in
    fed run under.start (λ number. news_in run.store.changes files number) under.stamped (λ number. is_among number pending) bound done number file at (omega arith) file at

-- the file whose turn it is is there
pub turn_start : (run : Run) (at : ℕ) (keys : List ℕ) (files : Files) → ArePassed run at (at ∷ keys) files → IsThere run.files at
turn_start run at keys files passed = passed.there at (ap (λ b. b || is_among at keys) (eq-eqb at at refl))

not_later : (now last : ℕ) → nat_lt now last ≡ false → last ≤ now
not_later now last e = grind (arith, e)

up_to_now : (last now : ℕ) (rows : List SignedRow) → last ≤ now → AllByRecursion (λ r. r.number ≤ last) rows → AllByRecursion (λ r. r.number ≤ now) rows
up_to_now last now [] less all = tt
up_to_now last now (r ∷ rows) less all = ((let a = all.0 in omega arith), up_to_now last now rows less all.1)

module _ (run : Run) (files : Files) (under : IsUnderWay run files) (at : ℕ) (is_there : IsThere run.files at) (content : FileState) (shows : (file : KeptFile) → get files at ≡ Some file → content ≡ file.content) where
  -- what is shown of its content
  news_shown : news_in run.store.changes files at ≡ since run.store.changes content.rows
  news_shown = let t = there_up run files under at is_there in ap (news_of run.store.changes) t.at ∙ ap (λ (c : FileState). since run.store.changes c.rows) (sym (shows t.file t.at))

  -- where no row has a later number, it has no rows of the change
  pub none_later : (last now : ℕ) → now ≡ run.store.changes → IsLast content last → nat_lt now last ≡ false → news_in run.store.changes files at ≡ []
  none_later last now is greatest none =
      news_shown ∙ ap (λ n. since n content.rows) (sym is) ∙ none_since now content.rows (up_to_now last now content.rows (not_later now last none) greatest.rows)
