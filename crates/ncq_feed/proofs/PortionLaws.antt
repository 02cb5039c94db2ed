-- What a change makes of all scans, portion by portion.
use Rattle.std.proofs.Common.{◌≡◌, ◌≢◌, ℕ, zero, suc, ◌<◌, ◌≤◌, ◌+◌, Bool, true, false, nat_eq, List, [], ◌∷◌, length, get_or, take, Some, None, Option, ◌⊎◌, inl, inr, refl, sym, ap, ◌∙◌, subst, arith, true≢false}
use Rattle.std.specs.Prelude.{if◌then◌else◌, slice_get}
use Rattle.std.specs.List.{AllByRecursion, IsDistinct}
use Rattle.std.specs.FinMap.{get}
use Rattle.std.specs.Option.{is_some, option_and_then, option_map}
use Rattle.std.specs.Ordering.{nat_cmp}
use Rattle.std.proofs.lemmas.Bool.{cases_eq, cases_Bool, eq-eqb, ne_eqb, or_cases, or_from, or_left, or_right}
use Rattle.std.proofs.lemmas.Map.Keys.{IsDistinct-head, IsDistinct-tail, below_from_sorted, sorted_tail}
use Rattle.std.proofs.lemmas.Option.{get_or_from_slice_get, slice_get-map, slice_get_read, slice_get_within}
use Rattle.ncq_plan.specs.declared.expr.Expr.TheVariants.{Scan}
use Rattle.ncq_source.specs.ChangeStates.{AreRising, entries_at, places}
use Rattle.ncq_source.specs.StoreStates.{StoreState, At, found}
use Rattle.ncq_source.specs.declared.change.Entry.{Entry}
use Rattle.ncq_source.specs.declared.change.Portion.{Portion}
use Rattle.ncq_change.specs.Entries.{scan_delta}
use Rattle.ncq_change.specs.Stores.{entries_in, or_none}
use Rattle.ncq_change.proofs.CallerLemmas.{found_name}
use Rattle.ncq_change.proofs.OneSource.{name_is}
use Rattle.ncq_shelf.specs.KeptFiles.{KeptFile, Files}
use Rattle.ncq_shelf.specs.Stands.{Stands, IsThere}
use Rattle.ncq_shelf.specs.Readers.{AreScansOf, IsScanOf}
use Rattle.ncq_feed.specs.Feeds.{IsNamed, name_at, name_in}
use Rattle.ncq_feed.specs.Runs.{Run, IsStarted, IsUnderWay, AreRight, ArePassed, IsScanFile, is_among, news_in, due, count_in, own_due, own_in, own as own_of}
use Rattle.ncq_feed.specs.ScanFeeds.{AreLeft, AreScansFed, IsScanFed, is_asked, numbered}
use Rattle.ncq_feed.proofs.CountLaws.{right_count, nowhere}
use Rattle.ncq_feed.proofs.GrowthLaws.{scan_up, scan_back}
use Rattle.ncq_feed.proofs.OwnLaws.{own_more, own_scan as scan_counts}
use Rattle.ncq_feed.proofs.ScanLaws.{own_right}
use Rattle.ncq_feed.proofs.SumLaws.{sum_more, sum_raised}
use Rattle.ncq_feed.proofs.Variants.{scan_parts}
use Rattle.ncq_feed.proofs.WiringLaws.{one_expr, kind, scan_no_selection, scan_no_join}

-- the entries at a place, in the portions up to one

nothing_there : {X : Type 0} {x : X} → None ≡ Some x → ⊥
nothing_there h = cc

same_portion : (a b : Portion) → Some a ≡ Some b → a ≡ b
same_portion a b h = cc

-- a portion behind the first is of another source
later_place : (first : Portion) (portions : List Portion) (i : ℕ) (portion : Portion) → AreRising (first ∷ portions) → slice_get portions i ≡ Some portion → portion.source.0 ≢ first.source.0
later_place first portions i portion rising here e =
    let at : slice_get (places portions) i ≡ Some portion.source.0 = slice_get-map (λ (p : Portion). p.source.0) portions i ∙ ap (option_map (λ (p : Portion). p.source.0)) here in
    let within = slice_get_within (places portions) i portion.source.0 at in
    let less = below_from_sorted (places (first ∷ portions)) 0 (suc i) 0 rising (omega arith) (omega arith) in
    let is = get_or_from_slice_get (places portions) i portion.source.0 0 at in
    omega arith

own_entries : (portion : Portion) (portions : List Portion) → entries_at portion.source.0 (portion ∷ portions) ≡ Some portion.entries
own_entries portion portions = ap (λ (t : Bool). if t then Some portion.entries else entries_at portion.source.0 portions) (eq-eqb portion.source.0 portion.source.0 refl)

other_entries : (first : Portion) (portions : List Portion) (at : ℕ) → at ≢ first.source.0 → entries_at at (first ∷ portions) ≡ entries_at at portions
other_entries first portions at differs = ap (λ (t : Bool). if t then Some first.entries else entries_at at portions) (ne_eqb at first.source.0 differs)

-- the portions before one are of other sources
before_portion : (portions : List Portion) (i : ℕ) (portion : Portion) → AreRising portions → slice_get portions i ≡ Some portion → entries_at portion.source.0 (take i portions) ≡ None
before_portion [] i portion rising here = absurd (nothing_there here)
before_portion (first ∷ portions) zero portion rising here = refl
before_portion (first ∷ portions) (suc i) portion rising here =
    other_entries first (take i portions) portion.source.0 (later_place first portions i portion rising here) ∙ before_portion portions i portion (sorted_tail nat_cmp first.source.0 (places portions) rising) here

-- up to it its source has its entries
up_to_portion : (portions : List Portion) (i : ℕ) (portion : Portion) → AreRising portions → slice_get portions i ≡ Some portion → entries_at portion.source.0 (take (suc i) portions) ≡ Some portion.entries
up_to_portion [] i portion rising here = absurd (nothing_there here)
up_to_portion (first ∷ portions) zero portion rising here =
    subst (λ (p : Portion). entries_at p.source.0 (first ∷ []) ≡ Some p.entries) (same_portion first portion here) (own_entries first [])
up_to_portion (first ∷ portions) (suc i) portion rising here =
    other_entries first (take (suc i) portions) portion.source.0 (later_place first portions i portion rising here) ∙ up_to_portion portions i portion (sorted_tail nat_cmp first.source.0 (places portions) rising) here

-- and so it has in all portions
portion_entries : (portions : List Portion) (i : ℕ) (portion : Portion) → AreRising portions → slice_get portions i ≡ Some portion → entries_at portion.source.0 portions ≡ Some portion.entries
portion_entries [] i portion rising here = absurd (nothing_there here)
portion_entries (first ∷ portions) zero portion rising here =
    subst (λ (p : Portion). entries_at p.source.0 (first ∷ portions) ≡ Some p.entries) (same_portion first portion here) (own_entries first portions)
portion_entries (first ∷ portions) (suc i) portion rising here =
    other_entries first portions portion.source.0 (later_place first portions i portion rising here) ∙ portion_entries portions i portion (sorted_tail nat_cmp first.source.0 (places portions) rising) here

-- any other source has as many as before it
apart_from_portion : (portions : List Portion) (i : ℕ) (portion : Portion) → slice_get portions i ≡ Some portion → (at : ℕ) → at ≢ portion.source.0 → entries_at at (take (suc i) portions) ≡ entries_at at (take i portions)
apart_from_portion [] i portion here at differs = absurd (nothing_there here)
apart_from_portion (first ∷ portions) zero portion here at differs = other_entries first [] at (λ e. differs (e ∙ ap (λ (p : Portion). p.source.0) (same_portion first portion here)))
apart_from_portion (first ∷ portions) (suc i) portion here at differs =
    ap (λ (o : Option (List Entry)). if nat_eq at first.source.0 then Some first.entries else o) (apart_from_portion portions i portion here at differs)

-- the portion that was read at a place
pub portion_here : (portions change : List Portion) (at : ℕ) (portion : Portion) → portions ≡ change → at < length change → portion ≡ get_or portions at portion → slice_get change at ≡ Some portion
portion_here portions change at portion same below is = slice_get_read change (length change) at portion refl below (is ∙ ap (λ (all : List Portion). get_or all at portion) same)

-- the source of a portion

named_at : (store : StoreState) (portions : List Portion) (i : ℕ) (portion : Portion) → AllByRecursion (IsNamed store) portions → slice_get portions i ≡ Some portion → IsNamed store portion
named_at store [] i portion named here = absurd (nothing_there here)
named_at store (first ∷ portions) zero portion named here = subst (IsNamed store) (same_portion first portion here) named.0
named_at store (first ∷ portions) (suc i) portion named here = named_at store portions i portion named.1 here

-- a source that no portion is of has no entries
unasked : (store : StoreState) (portions : List Portion) (name : List ℕ) → is_asked store portions name ≡ false → entries_in store portions name ≡ []
unasked store portions name = by (option_and_then (λ at. entries_at at portions) (found store name))
  where
    by : (o : Option (List Entry)) → is_some o ≡ false → or_none o ≡ []
    by None none = refl
    by (Some entries) none = absurd (true≢false none)

module _ (run : Run) (start : IsStarted run) (i : ℕ) (portion : Portion) (here : slice_get run.change i ≡ Some portion) where
  abbrev own_name : List ℕ
  own_name = name_at run.store portion.source

  abbrev asked_by : List Portion → Option ℕ → Bool
  asked_by portions place = is_some (option_and_then (λ at. entries_at at portions) place)

  pub portion_named : found run.store own_name ≡ Some portion.source.0
  portion_named = named_at run.store run.change i portion start.change.named here

  -- it is there
  pub portion_there : portion.source.0 < length run.store.sources
  portion_there =
      let own = found_name run.store own_name portion.source.0 portion_named in
      slice_get_within run.store.sources portion.source.0 own.0 own.1

  -- the name under which it was declared is the one by which it is found
  pub portion_name : (name : List ℕ) → At run.store portion.source (λ s. name ≡ s.name) → name ≡ own_name
  portion_name name is =
      let own = found_name run.store own_name portion.source.0 portion_named in
      is own.0 own.1 ∙ ap name_in (sym own.1)

  -- its entries are those of the portion
  pub portion_same : portion.entries ≡ entries_in run.store run.change own_name
  portion_same = sym (ap (λ (o : Option ℕ). or_none (option_and_then (λ at. entries_at at run.change) o)) portion_named ∙ ap or_none (portion_entries run.change i portion start.change.rising here))

  next : i + 1 ≡ suc i
  next = omega arith

  asked_before : is_asked run.store (take i run.change) own_name ≡ false
  asked_before = ap (asked_by (take i run.change)) portion_named ∙ ap is_some (before_portion run.change i portion start.change.rising here)

  pub asked_now : is_asked run.store (take (i + 1) run.change) own_name ≡ true
  asked_now =
      ap (asked_by (take (i + 1) run.change)) portion_named ∙ ap (λ n. is_some (entries_at portion.source.0 (take n run.change))) next
      ∙ ap is_some (up_to_portion run.change i portion start.change.rising here)

  -- any other source is asked for up to the portion where it is before it
  asked_cases : (name : List ℕ) → (is_asked run.store (take (i + 1) run.change) name ≡ is_asked run.store (take i run.change) name) ⊎ (own_name ≡ name)
  asked_cases name = by (found run.store name) refl
    where
      by : (o : Option ℕ) → found run.store name ≡ o → (asked_by (take (i + 1) run.change) o ≡ asked_by (take i run.change) o) ⊎ (own_name ≡ name)
      by None is = inl refl
      by (Some at) is = elim (cases_eq at portion.source.0) [
        | inl same ↦
            let own = found_name run.store name at is in
            inr (ap (λ n. name_in (slice_get run.store.sources n)) (sym same) ∙ ap name_in own.1 ∙ sym (name_is name own.0.name own.2))
        | inr differs ↦ inl (ap (λ n. is_some (entries_at at (take n run.change))) next ∙ ap is_some (apart_from_portion run.change i portion here at differs))
      ]

  module _ (files : Files) (under : IsUnderWay run files) (keys : List ℕ) (fed : AreScansFed run (take i run.change) [] keys files) (numbers : List ℕ) (are : AreScansOf files own_name numbers) where
    own_scan : (number : ℕ) → is_among number numbers ≡ true → IsScanOf run.files own_name number
    own_scan number is = scan_back run files under own_name number ((are number).0 is)

    own_source : (number : ℕ) → is_among number numbers ≡ true → (scan : IsScanFile run.files number) → own_name ≡ scan.source
    own_source number is scan =
        let own = own_scan number is in
        (scan_parts own_name scan.source own.shape scan.shape (one_expr run.files number _ _ own.stands scan.stands)).0

    -- before the first scan of the portion
    pub portion_left : IsDistinct nat_eq numbers → AreLeft run own_name numbers files
    portion_left once = record {
      once = once;
      scans = own_scan;
      still = λ number is. fed.rest number (λ scan. subst (λ name. is_asked run.store (take i run.change) name ≡ false) (own_source number is scan) asked_before);
    }

    pub portion_begins : AreScansFed run (take (i + 1) run.change) numbers keys files
    portion_begins = record {
      given = λ number scan asked idle. elim (asked_cases scan.source) [
        | inl same ↦ fed.given number scan (sym same ∙ asked) refl
        | inr own ↦
            let of_own : IsScanOf run.files own_name number = subst (λ name. IsScanOf run.files name number) (sym own) (record { shape = scan.shape; stands = scan.stands }) in
            absurd (true≢false (sym ((are number).1 (scan_up run files under own_name number of_own)) ∙ idle))
      ];
      rest = λ number never. fed.rest number (λ scan. elim (asked_cases scan.source) [
        | inl same ↦ sym same ∙ never scan
        | inr own ↦ subst (λ name. is_asked run.store (take i run.change) name ≡ false) own asked_before
      ]);
      quiet = fed.quiet;
      there = fed.there;
    }

-- before the first portion
pub scans_start : (run : Run) (files : Files) (keys : List ℕ) → ((number : ℕ) → news_in run.store.changes files number ≡ []) → keys ≡ [] → AreScansFed run [] [] keys files
scans_start run files keys still none = record {
  given = λ number scan asked idle. absurd (none_asked (found run.store scan.source) asked);
  rest = λ number never. still number;
  quiet = λ number idle. still number;
  there = λ number is. absurd (true≢false (sym is ∙ ap (is_among number) none));
}
  where
    none_asked : (o : Option ℕ) → is_some (option_and_then (λ at. entries_at at []) o) ≡ true → ⊥
    none_asked None asked = true≢false (sym asked)
    none_asked (Some at) asked = true≢false (sym asked)

-- the numbers of a list in which nothing stands twice

apart_from : (at other : ℕ) (rest : List ℕ) → AllByRecursion (λ y. nat_eq at y ≡ false) rest → is_among other rest ≡ true → other ≢ at
apart_from at other [] all is e = true≢false (sym is)
apart_from at other (y ∷ rest) all is e = elim (or_cases (nat_eq other y) (is_among other rest) is) [
  | inl same ↦ true≢false (sym (ap (λ n. nat_eq n y) (sym e) ∙ same) ∙ all.0)
  | inr later ↦ apart_from at other rest all.1 later e
]

not_first : (other at : ℕ) (rest : List ℕ) → other ≢ at → is_among other rest ≡ false → is_among other (at ∷ rest) ≡ false
not_first other at rest differs idle = or_from (nat_eq other at) (is_among other rest) (ne_eqb other at differs) idle

later : (other at : ℕ) (rest : List ℕ) → is_among other rest ≡ true → is_among other (at ∷ rest) ≡ true
later other at rest is = or_right (nat_eq other at) (is_among other rest) is

first : (at : ℕ) (rest : List ℕ) → is_among at (at ∷ rest) ≡ true
first at rest = or_left (nat_eq at at) (is_among at rest) (eq-eqb at at refl)

-- one scan more
module _ (run : Run) (name : List ℕ) (at : ℕ) (rest : List ℕ) (files : Files) (left : AreLeft run name (at ∷ rest) files) where
  pub first_scan : IsScanOf run.files name at
  first_scan = left.scans at (first at rest)

  pub first_still : news_in run.store.changes files at ≡ []
  first_still = left.still at (first at rest)

  module _ (keys keys' : List ℕ) (new : Files) (one : IsScanFed run at keys keys' files new) where
    pub left_less : AreLeft run name rest new
    left_less = record {
      once = IsDistinct-tail nat_eq at rest left.once;
      scans = λ number is. left.scans number (later number at rest is);
      still = λ number is.
          one.others number (apart_from at number rest (IsDistinct-head nat_eq at rest left.once) is) ∙ left.still number (later number at rest is);
    }

    pub scans_more : (portions : List Portion) → is_asked run.store portions name ≡ true → AreScansFed run portions (at ∷ rest) keys files → AreScansFed run portions rest keys' new
    scans_more portions own fed = record {
      given = λ number scan asked idle. elim (cases_eq number at) [
        | inl same ↦ subst (λ n. AreRight run n (news_in run.store.changes new n)) (sym same) one.own
        | inr differs ↦ subst (AreRight run number) (sym (one.others number differs)) (fed.given number scan asked (not_first number at rest differs idle))
      ];
      rest = λ number never.
          one.others number (λ e. true≢false (sym own ∙ never (record {
            source = name;
            shape = first_scan.shape;
            stands = subst (Stands run.files (Scan name first_scan.shape)) (sym e) first_scan.stands;
          })))
          ∙ fed.rest number never;
      quiet = λ number idle. elim (cases_eq number at) [
        | inl same ↦ ap (news_in run.store.changes new) same ∙ (one.quiet number idle).1 same
        | inr differs ↦ one.others number differs ∙ fed.quiet number (one.quiet number idle).0
      ];
      there = λ number is. elim (one.noted number is) [
        | inl was ↦ fed.there number was
        | inr same ↦ subst (IsThere run.files) (sym same) (record { file = first_scan.stands.file; at = first_scan.stands.at })
      ];
    }

-- a file that is a scan of one source alone
one_source : (files : Files) (number : ℕ) (a b : IsScanFile files number) → a.source ≡ b.source
one_source files number a b = (scan_parts a.source b.source a.shape b.shape (one_expr files number _ _ a.stands b.stands)).0

module _ (run : Run) (portions : List Portion) (left keys : List ℕ) (files : Files) (fed : AreScansFed run portions left keys files) where
  -- a scan of a source that no portion is of has nothing
  unasked_scan : (number : ℕ) (scan : IsScanFile run.files number) → is_asked run.store portions scan.source ≡ false → news_in run.store.changes files number ≡ []
  unasked_scan number scan none = fed.rest number (λ other. subst (λ name. is_asked run.store portions name ≡ false) (one_source run.files number scan other) none)

module _ (run : Run) (keys : List ℕ) (files : Files) (fed : AreScansFed run run.change [] keys files) where
  scan_right : (number : ℕ) (scan : IsScanFile run.files number) → AreRight run number (news_in run.store.changes files number)
  scan_right number scan = elim (cases_Bool (is_asked run.store run.change scan.source)) [
    | inl asked ↦ fed.given number scan asked refl
    | inr none ↦
        let nothing = ap (λ (entries : List Entry). numbered (run.store.changes + 1) (scan_delta scan.shape entries)) (unasked run.store run.change scan.source none) in
        subst (AreRight run number) (nothing ∙ sym (unasked_scan run run.change [] keys files fed number scan none)) (own_right run number scan.source (record { shape = scan.shape; stands = scan.stands }))
  ]

  -- after the last portion nothing has been passed on yet
  pub scans_end : ArePassed run 0 keys files
  scans_end = record {
    passed = record {
      ahead = λ number is. omega arith;
      scans = scan_right;
      selected = λ number input test selects less. absurd (omega arith);
      waiting = λ number input test selects above. fed.rest number (λ s. absurd (scan_no_selection run.files number input test selects s.source s.shape s.stands));
      joined = λ number left right j less. absurd (omega arith);
      unjoined = λ number left right j above. fed.rest number (λ s. absurd (scan_no_join run.files number s.source s.shape j.first j.second j.pairs s.stands j.stands));
      quiet = λ number above idle. fed.quiet number idle;
      calm = λ number left right j above idle. record { lefts = λ less. absurd (omega arith); rights = λ less. absurd (omega arith); both = λ less less'. absurd (omega arith) };
    };
    there = fed.there;
  }

-- what scans cost

module _ (run : Run) (files : Files) (under : IsUnderWay run files) (portions : List Portion) (left keys : List ℕ) (fed : AreScansFed run portions left keys files)
    (still : (number : ℕ) → is_among number left ≡ true → news_in run.store.changes files number ≡ []) where
  none_few : (number : ℕ) → news_in run.store.changes files number ≡ [] → count_in run files number ≤ due run number
  none_few number none = let e : count_in run files number ≡ 0 = ap length none in omega arith

  own_few : (number : ℕ) (file : KeptFile) → get run.files number ≡ Some file → IsScanFile run.files number → count_in run files number ≤ due run number
  own_few number file here scan = elim (cases_Bool (is_among number left)) [
    | inl ahead ↦ none_few number (still number ahead)
    | inr done ↦ elim (cases_Bool (is_asked run.store portions scan.source)) [
      | inl asked ↦ let e = right_count run number file here (news_in run.store.changes files number) (fed.given number scan asked done) in omega arith
      | inr none ↦ none_few number (unasked_scan run portions left keys files fed number scan none)
    ]
  ]

  file_few : (number : ℕ) (file : KeptFile) → get run.files number ≡ Some file → count_in run files number ≤ due run number
  file_few number file here = elim (kind run.files under.start.ready.grounded number (file, here)) [
    | inl scan ↦ own_few number file here scan
    | inr reads ↦ elim reads [
      | inl s ↦ none_few number (fed.rest number (λ scan. absurd (scan_no_selection run.files number s.0 s.1 s.2 scan.source scan.shape scan.stands)))
      | inr j ↦ none_few number (fed.rest number (λ scan. absurd (scan_no_join run.files number scan.source scan.shape j.2.first j.2.second j.2.pairs scan.stands j.2.stands)))
    ]
  ]

  scans_few : (number : ℕ) → count_in run files number ≤ due run number
  scans_few number = by (get run.files number) refl
    where
      by : (o : Option KeptFile) → get run.files number ≡ o → count_in run files number ≤ due run number
      by None e = none_few number (nowhere run files under number e)
      by (Some file) e = file_few number file e

  pub scans_within : own_in run files ≤ own_due run
  scans_within = sum_more run.files (own_of run (count_in run files)) (own_of run (due run)) (own_more run (count_in run files) (due run) scans_few)

-- one scan more, from how much was spent before
module _ (run : Run) (files : Files) (under : IsUnderWay run files) (name : List ℕ) (at : ℕ) (rest : List ℕ) (left : AreLeft run name (at ∷ rest) files)
    (start base s0 s1 : ℕ) (before : s0 + base ≤ start + own_in run files) (cost : s1 ≤ s0 + due run at) where
  abbrev own : IsScanOf run.files name at
  own = first_scan run name at rest files left

  nothing_yet : count_in run files at ≡ 0
  nothing_yet = ap length (first_still run name at rest files left)

  all_own : (f : ℕ → ℕ) → own_of run f at ≡ f at
  all_own = scan_counts run at (record { source = name; shape = own.shape; stands = own.stands })

  pub scan_cost : (portions : List Portion) (keys : List ℕ) → AreScansFed run portions (at ∷ rest) keys files → s1 + base ≤ start + own_due run
  scan_cost portions keys fed =
      let a = all_own (count_in run files) in
      let b = all_own (due run) in
      let r = sum_raised run.files (own_of run (count_in run files)) (own_of run (due run)) at own.stands.file own.stands.at
      (own_more run (count_in run files) (due run) (scans_few run files under portions (at ∷ rest) keys fed left.still)) s0 s1 (let n = nothing_yet in omega arith) in
      omega arith

  pub scan_spent : (keys keys' : List ℕ) (new : Files) → IsScanFed run at keys keys' files new → s1 + base ≤ start + own_in run new
  scan_spent keys keys' new one =
      let a = all_own (count_in run files) in
      let b = all_own (count_in run new) in
      let e = right_count run at own.stands.file own.stands.at (news_in run.store.changes new at) one.own in
      let r = sum_raised run.files (own_of run (count_in run files)) (own_of run (count_in run new)) at own.stands.file own.stands.at
      (own_more run (count_in run files) (count_in run new) (λ number. grows number (cases_eq number at))) s0 s1 (let n = nothing_yet in omega arith) in
      omega arith
    where
      grows : (number : ℕ) → (number ≡ at) ⊎ (number ≢ at) → count_in run files number ≤ count_in run new number
      grows number (inl same) = subst (λ n. count_in run files n ≤ count_in run new n) (sym same) (let n = nothing_yet in omega arith)
      grows number (inr differs) = let e = ap length (one.others number differs) in omega arith
