-- What the change of its sides makes of a join.
use Rattle.std.proofs.Common.{◌≡◌, ℕ, zero, suc, ◌<◌, ◌≤◌, ◌+◌, ◌-◌, Bool, true, false, cond, ◌&&◌, nat_eq, nat_lt, List, [], ◌∷◌, ◌++◌, map, length, Some, refl, sym, ap, ◌∙◌, subst, arith}
use Rattle.std.specs.List.{AllByRecursion, All, filter, flat_map, list_all}
use Rattle.std.specs.FinMap.{get}
use Rattle.std.proofs.lemmas.Bool.{and_parts, eq-eqb, eqb-true, ltb-true}
use Rattle.ncq_base.specs.Counts.{total_by, SameCounts}
use Rattle.ncq_row.specs.Embeddings.{Row}
use Rattle.ncq_row.specs.declared.pair.Pair.{Pair}
use Rattle.ncq_row.proofs.WideRows.{AreWide, wide_append, wide_behind}
use Rattle.ncq_plan.specs.declared.expr.Expr.{Expr}
use Rattle.ncq_plan.specs.declared.expr.Expr.TheVariants.{Join}
use Rattle.ncq_plan.specs.Exprs.{expr_width, followed_by, join_rows}
use Rattle.ncq_plan.specs.Meets.{agree}
use Rattle.ncq_plan.specs.Deltas.{join_delta}
use Rattle.ncq_plan.specs.Totals.{SameChanges}
use Rattle.ncq_plan.specs.WellFormed.{IsWellFormedExpr, slots_fit, pair_fits}
use Rattle.ncq_plan.proofs.CallerLemmas.{fit_join, width_join}
use Rattle.ncq_midfile.specs.Files.{FileState}
use Rattle.ncq_midfile.specs.declared.signed.SignedRow.{SignedRow}
use Rattle.ncq_midfile.specs.Content.{since, IsContent, IsSoundAt}
use Rattle.ncq_midfile.specs.Matching.{HaveSlots}
use Rattle.ncq_delta.specs.Joins.{left_slots, right_slots, with_row, with_rights, with_lefts, join_change}
use Rattle.ncq_delta.specs.Leads.{unnumbered}
use Rattle.ncq_delta.proofs.LeadLaws.{same_delta}
use Rattle.ncq_shelf.specs.KeptFiles.{KeptFile, Files}
use Rattle.ncq_shelf.specs.Stands.{Stands, IsThere}
use Rattle.ncq_shelf.specs.Contents.{with_more, AreWide as AllAreWide}
use Rattle.ncq_shelf.specs.Parts.{IsInput}
use Rattle.ncq_shelf.specs.Inputs.{AreInputs}
use Rattle.ncq_shelf.specs.declared.inputs.Inputs.{Inputs}
use Rattle.ncq_shelf.specs.declared.inputs.Inputs.TheVariants.{Nothing, One, Two}
use Rattle.ncq_shelf.specs.Readers.{JoinsFrom}
use Rattle.ncq_shelf.proofs.CallerLemmas.{one_value, only_told, left-input_of, right-input_of}
use Rattle.ncq_feed.specs.Runs.{Run, IsUnderWay, IsFor, IsGiven, JoinGetsFrom, news_of, news_in, due, count_in}
use Rattle.ncq_feed.specs.JoinFeeds.{IsJoined, IsJoinFile, AreSidesKnown}
use Rattle.ncq_feed.proofs.CountLaws.{right_count}
use Rattle.ncq_feed.proofs.Variants.{join_parts}
use Rattle.ncq_feed.proofs.WiringLaws.{one_expr, one_left, one_right}
use Rattle.ncq_feed.proofs.ContentLaws.{content_sound, content_before}
use Rattle.ncq_feed.proofs.GrowthLaws.{up, stands_up, joins_up, joins_back, all_append}

pub all_at : {A : Type 0} (P : A → Type 0) (xs : List A) → AllByRecursion P xs → All P xs
all_at P [] h k d less = absurd (omega arith)
all_at P (x ∷ xs) h zero d less = h.0
all_at P (x ∷ xs) h (suc k) d less = all_at P xs h.1 k d (omega arith)

all_turn : {A : Type 0} (P Q : A → Type 0) → ((x : A) → P x → Q x) → (xs : List A) → AllByRecursion P xs → AllByRecursion Q xs
all_turn P Q f [] h = tt
all_turn P Q f (x ∷ xs) h = (f x h.0, all_turn P Q f xs h.1)

-- the slots of pairs that fit

module _ (left right : ℕ) where
  left_fit : (pairs : List Pair) → list_all (pair_fits left right) pairs ≡ true → AllByRecursion (λ slot. slot < left) (left_slots pairs)
  left_fit [] h = tt
  left_fit (pair ∷ pairs) h =
      let b = and_parts (pair_fits left right pair) (list_all (pair_fits left right) pairs) h in
      let p = and_parts (nat_lt pair.left left) (nat_lt pair.right right) b.0 in
      (ltb-true pair.left left p.0, left_fit pairs b.1)

  right_fit : (pairs : List Pair) → list_all (pair_fits left right) pairs ≡ true → AllByRecursion (λ slot. slot < right) (right_slots pairs)
  right_fit [] h = tt
  right_fit (pair ∷ pairs) h =
      let b = and_parts (pair_fits left right pair) (list_all (pair_fits left right) pairs) h in
      let p = and_parts (nat_lt pair.left left) (nat_lt pair.right right) b.0 in
      (ltb-true pair.right right p.1, right_fit pairs b.1)

have_slots : (width : ℕ) (slots : List ℕ) (rows : List SignedRow) → AllByRecursion (λ slot. slot < width) slots → AllByRecursion (λ r. length r.row ≡ width) rows → HaveSlots slots rows
have_slots width slots rows fit wide =
    all_at (λ r. All (λ slot. slot < length r.row) slots) rows
    (all_turn (λ r. length r.row ≡ width) (λ r. All (λ slot. slot < length r.row) slots) (λ r e. subst (λ n. All (λ slot. slot < n) slots) (sym e) (all_at (λ slot. slot < width) slots fit)) rows wide)

-- the rows of a change, all with one number and of one width

module _ (number : ℕ) where
  abbrev pub Fits : ℕ → SignedRow → Type 0
  Fits width r = (r.number ≡ number) × (length r.row ≡ width)

  module _ (left right : ℕ) (pairs : List Pair) where
    wide_filter : (width : ℕ) (test : Row → Bool) (rows : List Row) → AreWide width rows → AreWide width (filter test rows)
    wide_filter width test [] all = tt
    wide_filter width test (row ∷ rows) all = elim (test row) as (λ t. AreWide width (cond t (row ∷ filter test rows) (filter test rows))) [
      | true ↦ (all.0, wide_filter width test rows all.1)
      | false ↦ wide_filter width test rows all.1
    ]

    wide_join : (lefts rights : List Row) → AreWide left lefts → AreWide right rights → AreWide (left + right) (join_rows pairs lefts rights)
    wide_join [] rights l r = tt
    wide_join (row ∷ lefts) rights l r =
        wide_append (left + right) (followed_by pairs rights row) (join_rows pairs lefts rights)
        (wide_behind left right row (filter (agree pairs row) rights) l.0 (wide_filter right (agree pairs row) rights r))
        (wide_join lefts rights l.1 r)

    fits_with : (c : SignedRow) (width : ℕ) (rows : List Row) → c.number ≡ number → AreWide width rows → AllByRecursion (Fits width) (map (with_row c) rows)
    fits_with c width [] e h = tt
    fits_with c width (row ∷ rows) e h = ((e, h.0), fits_with c width rows e h.1)

    fits_rights : (before : List Row) (changed : List SignedRow) → AreWide right before → AllByRecursion (Fits left) changed → AllByRecursion (Fits (left + right)) (flat_map (with_rights pairs before) changed)
    fits_rights before [] b h = tt
    fits_rights before (c ∷ changed) b h =
        all_append (Fits (left + right)) (with_rights pairs before c) (flat_map (with_rights pairs before) changed)
        (fits_with c (left + right) (join_rows pairs (c.row ∷ []) before) h.0.0 (wide_join (c.row ∷ []) before (h.0.1, tt) b)) (fits_rights before changed b h.1)

    fits_lefts : (after : List Row) (changed : List SignedRow) → AreWide left after → AllByRecursion (Fits right) changed → AllByRecursion (Fits (left + right)) (flat_map (with_lefts pairs after) changed)
    fits_lefts after [] b h = tt
    fits_lefts after (c ∷ changed) b h =
        all_append (Fits (left + right)) (with_lefts pairs after c) (flat_map (with_lefts pairs after) changed)
        (fits_with c (left + right) (join_rows pairs after (c.row ∷ [])) h.0.0 (wide_join after (c.row ∷ []) b (h.0.1, tt))) (fits_lefts after changed b h.1)

    fits_change : (lefts rights : List SignedRow) (before after : List Row) → AllByRecursion (Fits left) lefts → AllByRecursion (Fits right) rights → AreWide right before → AreWide left after
        → AllByRecursion (Fits (left + right)) (join_change pairs lefts before after rights)
    fits_change lefts rights before after l r b a =
        all_append (Fits (left + right)) (flat_map (with_rights pairs before) lefts) (flat_map (with_lefts pairs after) rights) (fits_rights before lefts b l) (fits_lefts after rights a r)

  module _ (width : ℕ) where
    fits : SignedRow → Bool
    fits r = nat_eq r.number number && nat_eq (length r.row) width

    misfit : SignedRow → ℕ
    misfit r = cond (fits r) 0 1

    no_misfit : (rows : List SignedRow) → AllByRecursion (Fits width) rows → total_by misfit rows ≡ 0
    unfolding misfit fits
    no_misfit [] h = refl
    no_misfit (r ∷ rows) h =
        (λ i. cond (eq-eqb r.number number h.0.0 i && eq-eqb (length r.row) width h.0.1 i) 0 1 + total_by misfit rows)
        ∙ (let rest = no_misfit rows h.1 in omega arith)

    one_fits : (a b : Bool) (n : ℕ) → cond (a && b) 0 1 + n ≡ 0 → (a ≡ true) × (b ≡ true)
    one_fits true true n e = (refl, refl)
    one_fits true false n e = absurd (omega arith)
    one_fits false b n e = absurd (omega arith)

    all_fit : (rows : List SignedRow) → total_by misfit rows ≡ 0 → AllByRecursion (Fits width) rows
    unfolding misfit fits
    all_fit [] e = tt
    all_fit (r ∷ rows) e =
        let o = one_fits (nat_eq r.number number) (nat_eq (length r.row) width) (total_by misfit rows) e in
        ((eqb-true r.number number o.0, eqb-true (length r.row) width o.1), all_fit rows (omega arith))

    -- rows of the same counts fit too
    same_fit : (rows others : List SignedRow) → SameCounts rows others → AllByRecursion (Fits width) others → AllByRecursion (Fits width) rows
    same_fit rows others same h = all_fit rows (same misfit ∙ no_misfit others h)

-- two sides of a join

module _ (run : Run) (files : Files) (under : IsUnderWay run files) (at left right : ℕ) (j : JoinsFrom run.files at left right) where
  abbrev now : ℕ
  now = run.store.changes

  pub join_file : IsJoinFile files at
  join_file = record { first = j.first; second = j.second; pairs = j.pairs; stands = stands_up run files under _ at j.stands }

  pub left_there : IsThere files left
  left_there = record { file = with_more j.on_left.file (news_in now files left); at = up run files under left j.on_left.file j.on_left.at }

  pub right_there : IsThere files right
  right_there = record { file = with_more j.on_right.file (news_in now files right); at = up run files under right j.on_right.file j.on_right.at }

  join_fit : list_all (pair_fits (expr_width j.first) (expr_width j.second)) j.pairs ≡ true
  join_fit =
      let well = subst IsWellFormedExpr j.stands.of (under.start.ready.formed at j.stands.file j.stands.at) in
      let all = sym (fit_join j.first j.second j.pairs) ∙ well.slots in
      (and_parts (slots_fit j.first && slots_fit j.second) (list_all (pair_fits (expr_width j.first) (expr_width j.second)) j.pairs) all).1

  wide_as : (expr : Expr) (number : ℕ) (s : Stands run.files expr number) (file : KeptFile) → get files number ≡ Some file → AllByRecursion (λ r. length r.row ≡ expr_width expr) file.content.rows
  wide_as expr number s file here =
      subst (λ e. AllByRecursion (λ r. length r.row ≡ expr_width e) file.content.rows) (ap (λ (f : KeptFile). f.expr) (one_value here (up run files under number s.file s.at)) ∙ s.of) (under.wide number file here)

  width_as : (expr : Expr) (number : ℕ) (s : Stands run.files expr number) (file : KeptFile) → get files number ≡ Some file → expr_width expr ≡ expr_width file.expr
  width_as expr number s file here = ap expr_width (sym s.of) ∙ ap (λ (f : KeptFile). expr_width f.expr) (sym (one_value here (up run files under number s.file s.at)))

  -- the slots of the pairs are those of the sides
  pub lefts_fit : (file : KeptFile) → get files left ≡ Some file → AllByRecursion (λ slot. slot < expr_width file.expr) (left_slots j.pairs)
  lefts_fit file here = subst (λ n. AllByRecursion (λ slot. slot < n) (left_slots j.pairs)) (width_as j.first left j.on_left file here) (left_fit (expr_width j.first) (expr_width j.second) j.pairs join_fit)

  pub rights_fit : (file : KeptFile) → get files right ≡ Some file → AllByRecursion (λ slot. slot < expr_width file.expr) (right_slots j.pairs)
  rights_fit file here = subst (λ n. AllByRecursion (λ slot. slot < n) (right_slots j.pairs)) (width_as j.second right j.on_right file here) (right_fit (expr_width j.first) (expr_width j.second) j.pairs join_fit)

  -- rows of a file's width are wide where all files are
  abbrev pub WideBelow : ℕ → List SignedRow → Type 0
  WideBelow number rows = (file : KeptFile) → get files number ≡ Some file → AllAreWide files → AllByRecursion (λ r. length r.row ≡ expr_width file.expr) rows

  -- the rows below have the slots of the pairs
  pub asks_lefts : (rows : List SignedRow) → WideBelow left rows → (pairs : List Pair) → pairs ≡ j.pairs → HaveSlots (left_slots pairs) rows
  asks_lefts rows wide pairs is =
      let t = left_there in
      subst (λ ps. HaveSlots (left_slots ps) rows) (sym is) (have_slots (expr_width t.file.expr) (left_slots j.pairs) rows (lefts_fit t.file t.at) (wide t.file t.at under.wide))

  pub asks_rights : (rows : List SignedRow) → WideBelow right rows → (pairs : List Pair) → pairs ≡ j.pairs → HaveSlots (right_slots pairs) rows
  asks_rights rows wide pairs is =
      let t = right_there in
      subst (λ ps. HaveSlots (right_slots ps) rows) (sym is) (have_slots (expr_width t.file.expr) (right_slots j.pairs) rows (rights_fit t.file t.at) (wide t.file t.at under.wide))

  -- the sides as they are shown
  module _ (known : AreSidesKnown run at left right j files) (left_content right_content : FileState)
      (shows_left : (file : KeptFile) → get files left ≡ Some file → left_content ≡ file.content) (shows_right : (file : KeptFile) → get files right ≡ Some file → right_content ≡ file.content) where
    left_is : left_content ≡ (with_more j.on_left.file (news_in now files left)).content
    left_is = shows_left (with_more j.on_left.file (news_in now files left)) (up run files under left j.on_left.file j.on_left.at)

    right_is : right_content ≡ (with_more j.on_right.file (news_in now files right)).content
    right_is = shows_right (with_more j.on_right.file (news_in now files right)) (up run files under right j.on_right.file j.on_right.at)

    pub left_based : left_content.base ≤ now
    left_based = subst (λ (c : FileState). c.base ≤ now) (sym left_is) (under.start.ready.up_to left j.on_left.file j.on_left.at).base

    pub right_based : right_content.base ≤ now
    right_based = subst (λ (c : FileState). c.base ≤ now) (sym right_is) (under.start.ready.up_to right j.on_right.file j.on_right.at).base

    after_shown : (after : List Row) → IsContent (now + 1) (j.on_left.file.content.rows ++ news_in now files left) after → IsContent (now + 1) left_content.rows after
    after_shown after content = subst (λ (c : FileState). IsContent (now + 1) c.rows after) (sym left_is) content

    before_shown : (before : List Row) → IsContent now j.on_right.file.content.rows before → IsContent now right_content.rows before
    before_shown before content = subst (λ (c : FileState). IsContent now c.rows before) (sym right_is)
        (content_before now j.on_right.file.content.rows (news_in now files right) (under.start.ready.up_to right j.on_right.file j.on_right.at).last (under.stamped right) before content)

    pub left_sound : IsSoundAt (now + 1) left_content.rows
    left_sound = content_sound (now + 1) left_content.rows known.after (after_shown known.after known.content_after)

    pub right_sound : IsSoundAt now right_content.rows
    right_sound = content_sound now right_content.rows known.before (before_shown known.before known.content_before)

    left_news : since now left_content.rows ≡ news_in now files left
    left_news = ap (λ (c : FileState). since now c.rows) left_is ∙ sym (ap (news_of now) (up run files under left j.on_left.file j.on_left.at))

    right_news : since now right_content.rows ≡ news_in now files right
    right_news = ap (λ (c : FileState). since now c.rows) right_is ∙ sym (ap (news_of now) (up run files under right j.on_right.file j.on_right.at))

    -- the facts that join_delta asks for and tells, under the names that the call has
    module _ (n : ℕ) (n_is : n ≡ now) (pairs : List Pair) (pairs_are : pairs ≡ j.pairs) where
      back_is : (n + 1) - 1 ≡ now
      back_is = omega arith

      pub asks_left_base : left_content.base < n + 1
      asks_left_base = let l = left_based in omega arith

      pub asks_right_base : right_content.base < n + 1
      asks_right_base = let r = right_based in omega arith

      pub asks_sound_before : IsSoundAt ((n + 1) - 1) right_content.rows
      asks_sound_before = subst (λ m. IsSoundAt m right_content.rows) (sym back_is) right_sound

      pub asks_sound_now : IsSoundAt (n + 1) left_content.rows
      asks_sound_now = subst (λ m. IsSoundAt (m + 1) left_content.rows) (sym n_is) left_sound

      abbrev pub Counts : List SignedRow → ℕ → ℕ → List Pair → Type 0
      Counts rows before_number number ps = (before after : List Row) → IsContent before_number right_content.rows before → IsContent number left_content.rows after
          → SameCounts rows (join_change ps (since before_number left_content.rows) before after (since before_number right_content.rows))

      pub told_counts : (rows : List SignedRow) → Counts rows ((n + 1) - 1) (n + 1) pairs → Counts rows now (now + 1) j.pairs
      told_counts rows counts = subst (λ (p : ℕ × ℕ × List Pair). Counts rows p.0 p.1 p.2) (λ i. (back_is i, n_is i + 1, pairs_are i)) counts

    own_due : (rows : List SignedRow) → SameCounts rows (join_change j.pairs (news_in now files left) known.before known.after (news_in now files right)) → length rows ≡ due run at
    own_due rows same = right_count run at j.stands.file j.stands.at rows (known.right_rows rows same)

    module _ (s0 s1 : ℕ) where
      abbrev Costs : ℕ → ℕ → List Pair → Type 0
      Costs before_number number ps = (before after : List Row) → IsContent before_number right_content.rows before → IsContent number left_content.rows after
          → s1 ≤ s0 + length (join_change ps (since before_number left_content.rows) before after (since before_number right_content.rows))

      -- the call costs what is due
      pub told_cost : (n : ℕ) → n ≡ now → (pairs : List Pair) → pairs ≡ j.pairs → Costs ((n + 1) - 1) (n + 1) pairs → s1 ≤ s0 + due run at
      told_cost n n_is pairs pairs_are costs =
          let own = subst (λ (p : ℕ × ℕ × List Pair). Costs p.0 p.1 p.2) (λ i. (back_is n n_is pairs pairs_are i, n_is i + 1, pairs_are i)) costs in
          let here = own known.before known.after (before_shown known.before known.content_before) (after_shown known.after known.content_after) in
          let change = join_change j.pairs (news_in now files left) known.before known.after (news_in now files right) in
          subst (λ m. s1 ≤ s0 + m) (own_due change (λ f. refl))
          (subst (λ (p : List SignedRow × List SignedRow). s1 ≤ s0 + length (join_change j.pairs p.0 known.before known.after p.1)) (λ i. (left_news i, right_news i)) here)

    module _ (rows : List SignedRow) (counts : (before after : List Row) → IsContent now right_content.rows before → IsContent (now + 1) left_content.rows after
        → SameCounts rows (join_change j.pairs (since now left_content.rows) before after (since now right_content.rows))) where
      own_counts : (before after : List Row) → IsContent now j.on_right.file.content.rows before → IsContent (now + 1) (j.on_left.file.content.rows ++ news_in now files left) after
          → SameCounts rows (join_change j.pairs (news_in now files left) before after (news_in now files right))
      own_counts before after b a =
          subst (λ (p : List SignedRow × List SignedRow). SameCounts rows (join_change j.pairs p.0 before after p.1)) (λ i. (left_news i, right_news i))
          (counts before after (before_shown before b) (after_shown after a))

      pub rows_due : length rows ≡ due run at
      rows_due = own_due rows (own_counts known.before known.after known.content_before known.content_after)

      pub joined_gets : JoinGetsFrom run at (news_in now files left) (news_in now files right) rows
      joined_gets left' right' k before after b a =
          let l = one_left run.files under.start.ready.grounded at left right left' right' j k in
          let r = one_right run.files under.start.ready.grounded at left right left' right' j k in
          let p = join_parts j.first j.second k.first k.second j.pairs k.pairs (one_expr run.files at _ _ j.stands k.stands) in
          let lf : k.on_left.file ≡ j.on_left.file = one_value (subst (λ n. get run.files n ≡ Some k.on_left.file) l k.on_left.at) j.on_left.at in
          let rf : k.on_right.file ≡ j.on_right.file = one_value (subst (λ n. get run.files n ≡ Some k.on_right.file) r k.on_right.at) j.on_right.at in
          let b' = subst (λ (f : KeptFile). IsContent now f.content.rows before) rf b in
          let a' = subst (λ (f : KeptFile). IsContent (now + 1) (f.content.rows ++ news_in now files left) after) lf a in
          subst (λ ps. SameChanges (unnumbered rows) (join_delta ps (unnumbered (news_in now files left)) before after (unnumbered (news_in now files right)))) p.2
          (same_delta j.pairs (news_in now files left) (news_in now files right) rows before after (own_counts before after b' a'))

      news_fit : (number : ℕ) (expr : Expr) (s : Stands run.files expr number) → AllByRecursion (Fits (now + 1) (expr_width expr)) (news_in now files number)
      news_fit number expr s =
          let here = up run files under number s.file s.at in
          both (news_in now files number) (under.stamped number)
          (subst (AllByRecursion (λ r. length r.row ≡ expr_width expr)) (sym (ap (news_of now) here)) (kept _ (with_more s.file (news_in now files number)).content.rows (wide_as expr number s (with_more s.file (news_in now files number)) here)))
        where
          both : (xs : List SignedRow) → AllByRecursion (λ r. r.number ≡ now + 1) xs → AllByRecursion (λ r. length r.row ≡ expr_width expr) xs → AllByRecursion (Fits (now + 1) (expr_width expr)) xs
          both [] h k = tt
          both (x ∷ xs) h k = ((h.0, k.0), both xs h.1 k.1)

          kept : (test : SignedRow → Bool) (xs : List SignedRow) → AllByRecursion (λ r. length r.row ≡ expr_width expr) xs → AllByRecursion (λ r. length r.row ≡ expr_width expr) (filter test xs)
          kept test [] h = tt
          kept test (x ∷ xs) h = elim (test x) as (λ t. AllByRecursion (λ r. length r.row ≡ expr_width expr) (cond t (x ∷ filter test xs) (filter test xs))) [
            | true ↦ (h.0, kept test xs h.1)
            | false ↦ kept test xs h.1
          ]

      pub joined_fit : AllByRecursion (IsFor run at) rows
      joined_fit =
          let all = same_fit (now + 1) (expr_width j.first + expr_width j.second) rows (join_change j.pairs (news_in now files left) known.before known.after (news_in now files right))
          (own_counts known.before known.after known.content_before known.content_after)
          (fits_change (now + 1) (expr_width j.first) (expr_width j.second) j.pairs (news_in now files left) (news_in now files right) known.before known.after
          (news_fit left j.first j.on_left) (news_fit right j.second j.on_right) known.wide_before known.wide_after) in
          all_turn (Fits (now + 1) (expr_width j.first + expr_width j.second)) (IsFor run at) (λ r h. record {
            stamped = h.0;
            wide = λ file here. h.1 ∙ sym (width_join j.first j.second j.pairs) ∙ ap expr_width (sym j.stands.of) ∙ ap (λ (f : KeptFile). expr_width f.expr) (one_value j.stands.at here);
          }) rows all

-- the files of the sides of a join, by the numbers of its inputs
abbrev pub SidesOf : Files → ℕ → Inputs → Type 0
SidesOf files at Nothing = ⊥
SidesOf files at (One number) = JoinsFrom files at number number
SidesOf files at (Two left right) = JoinsFrom files at left right

pub sides_are : (files : Files) (at : ℕ) (is_there : IsThere files at) (first second : Expr) (pairs : List Pair) → is_there.file.expr ≡ Join first second pairs → (inputs : Inputs) → AreInputs files is_there.file.expr inputs
    → SidesOf files at inputs
sides_are files at t first second pairs e Nothing are = are first (subst (IsInput first) (sym e) (left-input_of first second pairs))
sides_are files at t first second pairs e (One number) are = record {
  first = first;
  second = second;
  pairs = pairs;
  stands = record { file = t.file; at = t.at; of = e };
  on_left = only_told files t.file.expr number are first (subst (IsInput first) (sym e) (left-input_of first second pairs));
  on_right = only_told files t.file.expr number are second (subst (IsInput second) (sym e) (right-input_of first second pairs));
}
sides_are files at t first second pairs e (Two left right) are = record {
  first = are.first;
  second = are.second;
  pairs = are.pairs;
  stands = record { file = t.file; at = t.at; of = are.is };
  on_left = are.on_left;
  on_right = are.on_right;
}

-- what was joined goes behind the join's rows

module _ (run : Run) (files : Files) (under : IsUnderWay run files) (at : ℕ) where
  pub no_join : ((left right : ℕ) → JoinsFrom files at left right → ⊥) → IsJoined run at files files
  no_join never = record {
    own = λ _. refl;
    joined = λ left right j none. absurd (never left right (joins_up run files under at left right j));
    others = λ other differs. refl;
  }

  pub join_given : (left right : ℕ) (j : JoinsFrom files at left right) (rows : List SignedRow) (new : Files) → JoinGetsFrom run at (news_in run.store.changes files left) (news_in run.store.changes files right) rows
      → IsGiven run at rows files new → IsJoined run at files new
  join_given left right j rows new gets given = record {
    own = λ never. absurd (never left right (joins_back run files under at left right j));
    joined = λ left' right' k none.
        let l = one_left run.files under.start.ready.grounded at left right left' right' (joins_back run files under at left right j) k in
        let r = one_right run.files under.start.ready.grounded at left right left' right' (joins_back run files under at left right j) k in
        subst (JoinGetsFrom run at (news_in run.store.changes files left') (news_in run.store.changes files right')) (sym (given.own ∙ ap (λ xs. xs ++ rows) none))
        (subst (λ (p : ℕ × ℕ). JoinGetsFrom run at (news_in run.store.changes files p.0) (news_in run.store.changes files p.1) rows) (λ i. (sym l i, sym r i)) gets);
    others = given.others;
  }

module _ (run : Run) (files : Files) (at left right : ℕ) (j : JoinsFrom run.files at left right) (known : AreSidesKnown run at left right j files) where
  pub none_yet : count_in run files at ≡ 0
  none_yet = ap length known.none

  pub all_given : (rows : List SignedRow) (new : Files) → IsGiven run at rows files new → count_in run new at ≡ length rows
  all_given rows new given = ap length (given.own ∙ ap (λ xs. xs ++ rows) known.none)
