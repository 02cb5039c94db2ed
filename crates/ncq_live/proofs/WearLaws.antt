-- How many rows files lost above their bases, at most: as files come and go, after a change of the sources and after a compaction.
use Rattle.std.proofs.Common.{◌≡◌, ◌≢◌, ℕ, suc, ◌+◌, ◌-◌, ◌≤◌, ◌<◌, ◌⊎◌, true, false, not, cond, nat_le, nat_lt, ◌&&◌, ◌||◌, Bool, List, [], ◌∷◌, ◌++◌, filter, length, take, get_or, slice_get, min, inl, inr, refl, sym, ◌∙◌, ap, subst, true≢false, arith}
use Rattle.std.specs.Prelude.{Option, Some, None, Result, Ok, Err, OnOk, OnErr, is_some, nat_eq, unwrap_or}
use Rattle.std.specs.BTreeMap.{is_at}
use Rattle.std.specs.BTreeSet.{BTreeSet, MovesPrefix}
use Rattle.std.specs.FinMap.{get, insert, same_map, nat_cmp-IsAntisymmetric}
use Rattle.std.specs.List.{list_any, AllByRecursion}
use Rattle.std.specs.Map.{lookup}
use Rattle.std.specs.Option.{option_map}
use Rattle.std.specs.Cmp.{unsigned_tied}
use Rattle.std.specs.Ordering.{nat_cmp}
use Rattle.std.proofs.lemmas.Bool.{cases_eq, cases_lt, eqb-true, le-leb, lt-ltb, ltb-true, ne_eqb, or_cases}
use mathlib.Core.Bool.{or-false}
use Rattle.std.proofs.lemmas.Cmp.{nat_cmp_total}
use Rattle.std.proofs.lemmas.List.{length-append}
use Rattle.std.proofs.lemmas.List.Elements.{filter-append}
use Rattle.std.proofs.lemmas.List.Folds.{list_any-append, list_any_more}
use Rattle.ncq_plan.specs.declared.expr.Expr.{Expr}
use Rattle.ncq_plan.specs.Totals.{SignedRow as PlainRow}
use Rattle.ncq_source.specs.declared.change.Portion.{Portion}
use Rattle.ncq_source.specs.StoreStates.{StoreState}
use Rattle.ncq_midfile.specs.Content.{signed_at, since, up_to}
use Rattle.ncq_midfile.specs.Files.{FileState}
use Rattle.ncq_midfile.specs.Views.{losses_above}
use Rattle.ncq_midfile.specs.declared.signed.SignedRow.{SignedRow}
use Rattle.ncq_midfile.proofs.CountsLaws.{losses_above_is}
use Rattle.ncq_midfile.proofs.Parts.{signed_more}
use Rattle.ncq_shelf.specs.Contents.{AreFolded, IsCompacted, IsRaised, cut_to}
use Rattle.ncq_shelf.specs.KeptFiles.{AtFile, EachFile, Files, KeptFile}
use Rattle.ncq_shelf.specs.Stands.{IsThere}
use Rattle.ncq_shelf.proofs.CallerLemmas.{put_same, put_other, there, one_value}
use Rattle.ncq_feed.specs.Feeds.{AreFed, IsFedFile, NamesTheFed, delta_by}
use Rattle.ncq_feed.proofs.ContentLaws.{all_since, none_since, up_before}
use Rattle.ncq_group.specs.Installs.{IsInstalled}
use Rattle.ncq_group.specs.Releases.{IsReleased, with_use_less}
use Rattle.ncq_group.specs.Tables.{TableState, Facts, mark_of}
use Rattle.ncq_group.specs.declared.mark.GroupMark.{GroupMark}
use Rattle.ncq_book.specs.declared.subscription.Subscription.{Subscription}
use Rattle.ncq_book.proofs.Lists.{each_leads}
use Rattle.ncq_live.specs.LiveTables.{IsLiveTable}
use Rattle.ncq_live.specs.Wears.{Bounds, WearState, bound_of, is_among, is_pinned, losses_of, AreBounds, ArePinned, HasTheWorn, IsInOrder, KnowsTheWorn}
use Rattle.ncq_live.proofs.LiveTableLaws.{was_folded, table_folded}
use Rattle.ncq_live.proofs.PinLaws.{pinned_more, pinned_none, pinned_pushed}
use Rattle.ncq_live.proofs.TurnLaws.{cut_back}

-- those of the rows that went out above a number
abbrev went : ℕ → List SignedRow → List SignedRow
went n rows = filter (λ r. nat_lt n r.number && not r.plus) rows

-- rows with more behind them
losses-append : (n : ℕ) (rows news : List SignedRow) → losses_above n (rows ++ news) ≡ losses_above n rows + losses_above n news
losses-append n rows news = ap length (filter-append (λ (r : SignedRow). nat_lt n r.number && not r.plus) rows news) ∙ length-append (went n rows) (went n news)

pub losses_since : (n : ℕ) (rows some : List SignedRow) → since n rows ≡ some → losses_above n rows ≡ length (filter (λ r. not r.plus) some)
losses_since n rows some e = losses_above_is n rows ∙ ap (λ rs. length (filter (λ (r : SignedRow). not r.plus) rs)) e

-- no row is above a number that none exceeds
pub none_lost : (n : ℕ) (rows : List SignedRow) → AllByRecursion (λ r. r.number ≤ n) rows → losses_above n rows ≡ 0
none_lost n rows h = losses_since n rows [] (none_since n rows h)

all_above : (n : ℕ) (rows : List SignedRow) → AllByRecursion (λ r. n < r.number) rows → since n rows ≡ rows
all_above n [] h = refl
all_above n (r ∷ rows) h =
    let above = h.0 in
    λ i. cond (le-leb (suc n) r.number (omega arith) i) (r ∷ all_above n rows h.1 i) (all_above n rows h.1 i)

-- rows of the next change are above now and above each base
news_lost : (n base : ℕ) (news : List SignedRow) → base ≤ n → AllByRecursion (λ r. r.number ≡ n + 1) news → losses_above base news ≡ losses_above n news
news_lost n base news low h =
    losses_since base news news (all_above base news (each_leads (λ r. r.number ≡ n + 1) (λ r. base < r.number) (λ r e. omega arith) news h))
    ∙ sym (losses_since n news news (all_since n news h))

-- of the rows up to a number no more went out than of all
fewer_lost : (n change : ℕ) (rows : List SignedRow) → losses_above n (up_to change rows) ≤ losses_above n rows
fewer_lost n change [] = omega arith
fewer_lost n change (r ∷ rows) =
    let rest = fewer_lost n change rows in
    elim (nat_le r.number change) as (λ t. losses_above n (cond t (r ∷ up_to change rows) (up_to change rows)) ≤ losses_above n (r ∷ rows)) [
      | true ↦ one (nat_lt n r.number && not r.plus) rest
      | false ↦ more (nat_lt n r.number && not r.plus) rest
    ]
  where
    one : (t : Bool) → length (went n (up_to change rows)) ≤ length (went n rows) → length (cond t (r ∷ went n (up_to change rows)) (went n (up_to change rows))) ≤ length (cond t (r ∷ went n rows) (went n rows))
    one true rest = omega arith
    one false rest = rest

    more : (t : Bool) → length (went n (up_to change rows)) ≤ length (went n rows) → length (went n (up_to change rows)) ≤ length (cond t (r ∷ went n rows) (went n rows))
    more true rest = omega arith
    more false rest = rest

-- above a greater number no more went out
fewer_above : (low high : ℕ) (rows : List SignedRow) → low ≤ high → losses_above high rows ≤ losses_above low rows
fewer_above low high [] up = omega arith
fewer_above low high (r ∷ rows) up =
    one (nat_lt high r.number) (nat_lt low r.number) r.plus (λ e. let above = ltb-true high r.number e in lt-ltb low r.number (omega arith)) (fewer_above low high rows up)
  where
    one : (a b plus : Bool) → (a ≡ true → b ≡ true) → length (went high rows) ≤ length (went low rows)
        → length (cond (a && not plus) (r ∷ went high rows) (went high rows)) ≤ length (cond (b && not plus) (r ∷ went low rows) (went low rows))
    one true true true leads rest = rest
    one true true false leads rest = omega arith
    one true false plus leads rest = absurd (true≢false (sym (leads refl)))
    one false true true leads rest = rest
    one false true false leads rest = omega arith
    one false false plus leads rest = rest

-- the files are such as they were, but for some of their rows, or none of their rows went out
abbrev LoseNoMore : Files → Files → Type 0
LoseNoMore old new = EachFile new (λ number file. (losses_of file ≡ 0) ⊎ ((was : KeptFile) × (get old number ≡ Some was) × (losses_of file ≤ losses_of was)))

-- the numbers that are known do not fall
abbrev pub NeverFall : Bounds → Bounds → Type 0
NeverFall before after = (number : ℕ) → bound_of number before ≤ bound_of number after

covered : (losses was more before after : ℕ) → losses ≡ was + more → (was ≤ before) ⊎ (64 ≤ before) → before ≤ after → (before + more ≤ after) ⊎ (64 ≤ after) → (losses ≤ after) ⊎ (64 ≤ after)
covered losses was more before after e (inl known) up (inl told) = inl (omega arith)
covered losses was more before after e (inl known) up (inr worn) = inr worn
covered losses was more before after e (inr worn) up told = inr (omega arith)

bounds_left : (old new : Files) (bounds : Bounds) → LoseNoMore old new → AreBounds old bounds → AreBounds new bounds
bounds_left old new bounds less known number file at = elim (less number file at) [
  | inl none ↦ inl (omega arith)
  | inr was ↦
      let fewer = was.2 in
      elim (known number was.0 was.1) [ inl low ↦ inl (omega arith) | inr worn ↦ inr worn ]
]

-- the same losses
as_many : (file was : KeptFile) → losses_of file ≡ losses_of was → losses_of file ≤ losses_of was
as_many file was e = omega arith

-- no file
pub bounds_of_none : (files : Files) (bounds : Bounds) → ((number : ℕ) (file : KeptFile) → get files number ≡ Some file → ⊥) → AreBounds files bounds
bounds_of_none files bounds none number file at = absurd (none number file at)

-- an expression was installed
module _ (plan : Expr) (old new : TableState) (number : ℕ) (i : IsInstalled plan old new number) where
  installed_before : (other : ℕ) (file was : KeptFile) → get new.files other ≡ Some file → get old.files other ≡ Some was → file.content ≡ was.content
  installed_before other file was at here = elim (cases_eq other number) [
    | inl same ↦
        let gained = i.gains was (subst (λ n. get old.files n ≡ Some was) same here) in
        let is = one_value (subst (λ n. get new.files n ≡ Some file) same at) gained in
        ap (λ (f : KeptFile). f.content) is
    | inr differs ↦ ap (λ (f : KeptFile). f.content) (one_value at (i.others other was here differs))
  ]

  pub bounds_installed : (bounds : Bounds) → AreBounds old.files bounds → AreBounds new.files bounds
  bounds_installed bounds = bounds_left old.files new.files bounds (λ other file at. elim (cases_lt other old.next_file) [
    | inl under ↦
        let was = i.before other file at under in
        inr (was.0, was.1, as_many file was.0 (ap (λ (c : FileState). losses_above c.base c.rows) (installed_before other file was.0 at was.1)))
    | inr above ↦
        let fresh = i.fresh other file at above in
        inl (none_lost file.content.base file.content.rows (subst (λ n. AllByRecursion (λ r. r.number ≤ n) file.content.rows) (sym fresh.base) fresh.up_to.last))
  ])

  -- files that count as pinned are so with the subscription that comes in
  pub pinned_installed : (subscriptions : List Subscription) (m : Subscription) (pinned : List ℕ) → ArePinned old subscriptions pinned → ArePinned new (subscriptions ++ m ∷ []) pinned
  pinned_installed subscriptions m pinned are other has =
      let under = (are other has).0 in
      let order = i.order in (
        omega arith,
        λ file at.
            let was = i.before other file at under in
            let same : file.content ≡ was.0.content = installed_before other file was.0 at was.1 in
            subst (λ (c : FileState). is_pinned (subscriptions ++ m ∷ []) other c.rows ≡ true) (sym same) (pinned_pushed subscriptions m other was.0.content.rows ((are other has).1 was.0 was.1)),
      )

-- a use was given up
pub bounds_released : (old new : Files) (number : ℕ) → IsReleased old number new → (bounds : Bounds) → AreBounds old bounds → AreBounds new bounds
bounds_released old new number r bounds = bounds_left old new bounds (λ other file at.
    let was = (r.stays other file at).0 in
    let lower : KeptFile = record (r.file) { uses = r.file.uses - 1 } in
    inr (elim (cases_eq other number) [
      | inl here ↦
          let is = one_value (subst (λ n. get (with_use_less old number r.file) n ≡ Some file) here was) (put_same old number lower) in
          (r.file, subst (λ n. get old n ≡ Some r.file) (sym here) r.at, as_many file r.file (ap losses_of is))
      | inr differs ↦ (file, sym (put_other old number lower other differs) ∙ was, as_many file file refl)
    ]))

-- the rows of later changes were taken away
pub bounds_cut : (change : ℕ) (old new : Files) → ((number : ℕ) → get new number ≡ option_map (cut_to change) (get old number)) → (bounds : Bounds) → AreBounds old bounds → AreBounds new bounds
bounds_cut change old new cut bounds = bounds_left old new bounds (λ number file at.
    let was = cut_back change (get old number) file (sym (cut number) ∙ at) in
    let same = ap losses_of was.2 in
    let fewer = fewer_lost was.0.content.base change was.0.content.rows in
    inr (was.0, was.1, omega arith))

-- rows up to the bases were struck out
pub bounds_folded : (old new : Files) → AreFolded old new → (bounds : Bounds) → AreBounds old bounds → AreBounds new bounds
bounds_folded old new folded bounds = bounds_left old new bounds (λ number file at.
    let was = was_folded old new folded number file at in
    let before : KeptFile = was.0 in
    let base : ℕ = before.content.base in
    inr (
      before,
      was.1,
      as_many file before (
          ap (λ n. losses_above n file.content.rows) was.2.base
          ∙ losses_since base file.content.rows (since base before.content.rows) was.2.later
          ∙ sym (losses_above_is base before.content.rows)
          ),
    ))

-- a file that keeps its rows has another base
raised_lost : (change : ℕ) (kept next : KeptFile) → kept.content.base ≤ change → IsRaised change kept next → losses_of next ≤ losses_of kept
raised_lost change kept next up raised =
    let base : kept.content.base ≤ next.content.base = elim raised.base [ inl same ↦ omega arith | inr there ↦ omega arith ] in
    let fewer = fewer_above kept.content.base next.content.base kept.content.rows base in
    subst (λ rows. losses_above next.content.base rows ≤ losses_of kept) (sym raised.rows) fewer

pub bounds_raised : (old new : Files) (number change : ℕ) (kept next : KeptFile) → get old number ≡ Some kept → kept.content.base ≤ change → IsRaised change kept next → new ≡ insert old number next
    → (bounds : Bounds) → AreBounds old bounds → AreBounds new bounds
bounds_raised old new number change kept next here up raised put bounds = bounds_left old new bounds (λ other file at. inr (elim (cases_eq other number) [
  | inl e ↦
      let is : file ≡ next = one_value (subst (λ n. get new n ≡ Some file) e at) ((λ i. get (put i) number) ∙ put_same old number next) in
      (kept, subst (λ n. get old n ≡ Some kept) (sym e) here, subst (λ f. losses_of f ≤ losses_of kept) (sym is) (raised_lost change kept next up raised))
  | inr differs ↦ (file, sym ((λ i. get (put i) other) ∙ put_other old number next other differs) ∙ at, as_many file file refl)
]))

-- more is known
pub bounds_more : (files : Files) (before after : Bounds) → NeverFall before after → AreBounds files before → AreBounds files after
bounds_more files before after up known number file at =
    let no_less = up number in
    elim (known number file at) [ inl low ↦ inl (omega arith) | inr worn ↦ inr (omega arith) ]

-- a file was compacted: the rows above its new base are those that it had there
compacted_lost : (change : ℕ) (kept next : KeptFile) → kept.content.base ≤ change → IsCompacted change kept next → losses_of next ≤ losses_of kept
compacted_lost change kept next up compacted =
    let fewer = fewer_above kept.content.base change kept.content.rows up in
    let same : losses_of next ≡ losses_above change kept.content.rows =
    ap (λ n. losses_above n next.content.rows) compacted.base
    ∙ losses_since change next.content.rows (since change kept.content.rows) compacted.later
    ∙ sym (losses_above_is change kept.content.rows) in
    omega arith

-- and of it is known how many rows went out above that, or no more
pub bounds_compacted : (old new : Files) (number change : ℕ) (kept next : KeptFile) → get old number ≡ Some kept → kept.content.base ≤ change → IsCompacted change kept next → new ≡ insert old number next
    → (before after : Bounds) → bound_of number after ≡ min (losses_of next) (bound_of number before) → ((other : ℕ) → other ≢ number → bound_of other after ≡ bound_of other before)
    → AreBounds old before → AreBounds new after
bounds_compacted old new number change kept next here up compacted put before after counted others known other file at = elim (cases_eq other number) [
  | inl e ↦
      let is : file ≡ next = one_value (subst (λ n. get new n ≡ Some file) e at) ((λ i. get (put i) number) ∙ put_same old number next) in
      subst (λ n. (losses_of file ≤ bound_of n after) ⊎ (64 ≤ bound_of n after)) (sym e)
      (subst (λ (f : KeptFile). (losses_of f ≤ bound_of number after) ⊎ (64 ≤ bound_of number after)) (sym is)
      (least_known (losses_of next) (losses_of kept) (bound_of number before) (bound_of number after) (compacted_lost change kept next up compacted) counted (known number kept here)))
  | inr differs ↦
      subst (λ b. (losses_of file ≤ b) ⊎ (64 ≤ b)) (sym (others other differs)) (known other file (sym ((λ i. get (put i) other) ∙ put_other old number next other differs) ∙ at))
]
  where
    least_known : (losses was known least : ℕ) → losses ≤ was → least ≡ min losses known → (was ≤ known) ⊎ (64 ≤ known) → (losses ≤ least) ⊎ (64 ≤ least)
    least_known losses was known least fewer is (inl low) = inl (omega arith)
    least_known losses was known least fewer is (inr worn) = elim (cases_lt known losses) [ inl less ↦ inr (omega arith) | inr no_less ↦ inl (omega arith) ]

-- what is known of files is the same
pub order_same : (table : TableState) (subscriptions : List Subscription) (before after : WearState) → after.bounds ≡ before.bounds → after.pinned ≡ before.pinned → IsInOrder table subscriptions before → IsInOrder table subscriptions after
order_same table subscriptions before after bounds pinned order = record {
  live_table = order.live_table;
  bounds = subst (AreBounds table.files) (sym bounds) order.bounds;
  pinned = subst (ArePinned table subscriptions) (sym pinned) order.pinned;
}

-- rows of the files were struck out, or the files are as they were, and no file counts as pinned
pub order_folded : {T E : Type 0} (r : Result T E) (old new : TableState) (subscriptions : List Subscription) (before after : WearState) → OnOk r (AreFolded old.files new.files) → OnErr r (new ≡ old)
    → after.bounds ≡ before.bounds → after.pinned ≡ [] → IsInOrder old subscriptions before → IsInOrder new subscriptions after
order_folded (Ok x) old new subscriptions before after folded same bounds none order = record {
  live_table = table_folded old new subscriptions order.live_table folded;
  bounds = subst (AreBounds new.files) (sym bounds) (bounds_folded old.files new.files folded before.bounds order.bounds);
  pinned = pinned_none new subscriptions after.pinned none;
}
order_folded (Err e) old new subscriptions before after folded same bounds none order = record {
  live_table = subst (λ (t : TableState). IsLiveTable t subscriptions) (sym same) order.live_table;
  bounds = subst (λ (t : TableState). AreBounds t.files after.bounds) (sym same) (subst (AreBounds old.files) (sym bounds) order.bounds);
  pinned = pinned_none new subscriptions after.pinned none;
}

-- those that are worn and that no timer pins are listed
pub worn_listed : (table : TableState) (subscriptions : List Subscription) (wear : WearState) (list : List ℕ) → IsInOrder table subscriptions wear → KnowsTheWorn wear.bounds wear.worn wear.pinned
    → ((number : ℕ) → IsThere table.files number → is_among number wear.worn ≡ true → list_any (nat_eq number) list ≡ true) → HasTheWorn table.files subscriptions list
worn_listed table subscriptions wear list order told has number file at many free =
    let most : 64 ≤ bound_of number wear.bounds = elim (order.bounds number file at) [ inl low ↦ omega arith | inr worn ↦ worn ] in
    has number (record { file = file; at = at })
    (elim (or_cases (is_among number wear.worn) (is_among number wear.pinned) (told number most)) [
      | inl worn ↦ worn
      | inr pinned ↦ absurd (true≢false (sym ((order.pinned number pinned).1 file at) ∙ free))
    ])

-- pinned files go back among the worn, the first ones first
pub worn_gathered : (bounds : Bounds) (worn pinned now left : BTreeSet ℕ) → MovesPrefix nat_cmp worn pinned now left → KnowsTheWorn bounds worn.keys pinned.keys → KnowsTheWorn bounds now.keys left.keys
worn_gathered bounds worn pinned now left moves knows file many =
    (λ i. moves.2.0 file i || is_among file left.keys)
    ∙ turn (is_among file worn.keys) (is_among file moves.0) (is_among file left.keys)
    ∙ (λ i. is_among file worn.keys || sym (list_any-append (is_at (nat_cmp file)) moves.0 left.keys) i)
    ∙ (λ i. is_among file worn.keys || is_among file (sym moves.1 i))
    ∙ knows file many
  where
    turn : (a b c : Bool) → ((a || b) || c) ≡ (a || (b || c))
    turn true b c = refl
    turn false b c = refl

-- signed rows at one place more
pub lost_more : (places : List ℕ) (i : ℕ) (rows : List SignedRow) (r : SignedRow) → i < length places → slice_get rows (get_or places i 0) ≡ Some r
    → length (filter (λ s. not s.plus) (signed_at (take (i + 1) places) rows)) ≡ length (filter (λ s. not s.plus) (signed_at (take i places) rows)) + cond r.plus 0 1
lost_more places i rows r within at =
    let went = λ (s : SignedRow). not s.plus in
    ap (λ rs. length (filter went rs)) (signed_more places i (get_or places i 0) rows r within refl at)
    ∙ ap length (filter-append went (signed_at (take i places) rows) (r ∷ []))
    ∙ length-append (filter went (signed_at (take i places) rows)) (filter went (r ∷ []))
    ∙ ap (λ n. length (filter went (signed_at (take i places) rows)) + n) (one r.plus)
  where
    one : (t : Bool) → length (cond (not t) (r ∷ []) []) ≡ cond t 0 1
    one true = refl
    one false = refl

-- of the files of the list it is noted how many rows went out above the number
abbrev pub AreNoted : Files → ℕ → Bounds → Bounds → List ℕ → Type 0
AreNoted files n before after list = EachFile files (λ number file. list_any (nat_eq number) list ≡ true
    → (bound_of number before + losses_above n file.content.rows ≤ bound_of number after) ⊎ (64 ≤ bound_of number after))

-- so it is noted of one file more
pub noted_more : (files : Files) (n : ℕ) (before now after : Bounds) (list : List ℕ) (i : ℕ) → i < length list → NeverFall before now → NeverFall now after
    → AtFile files (get_or list i 0) (λ file. (bound_of (get_or list i 0) now + losses_above n file.content.rows ≤ bound_of (get_or list i 0) after) ⊎ (64 ≤ bound_of (get_or list i 0) after))
    → AreNoted files n before now (take i list) → AreNoted files n before after (take (i + 1) list)
noted_more files n before now after list i within up_first up_then here noted number file at has =
    let x : ℕ = get_or list i 0 in
    let first = up_first number in
    let then = up_then number in
    elim (list_any (nat_eq number) (take i list)) as (λ t. list_any (nat_eq number) (take i list) ≡ t → (t || nat_eq number x) ≡ true
    → (bound_of number before + losses_above n file.content.rows ≤ bound_of number after) ⊎ (64 ≤ bound_of number after)) [
      | true ↦ λ e _. elim (noted number file at e) [ inl low ↦ inl (omega arith) | inr worn ↦ inr (omega arith) ]
      | false ↦ λ e q.
          let same : number ≡ x = eqb-true number x q in
          let told : (bound_of number now + losses_above n file.content.rows ≤ bound_of number after) ⊎ (64 ≤ bound_of number after) =
          subst (λ k. (bound_of k now + losses_above n file.content.rows ≤ bound_of k after) ⊎ (64 ≤ bound_of k after)) (sym same) (here file (subst (λ k. get files k ≡ Some file) same at)) in
          elim told [ inl low ↦ inl (omega arith) | inr worn ↦ inr worn ]
    ] refl (sym (list_any_more (nat_eq number) list i 0 within) ∙ has)

-- numbers of which those of files are listed
module _ (files : Files) (keys : List ℕ) where
  -- each of them is in the list, or among those that are left
  abbrev pub AreListed : List ℕ → List ℕ → Type 0
  AreListed list left = (number : ℕ) → IsThere files number → is_among number keys ≡ true → (list_any (nat_eq number) list || list_any (is_at (nat_cmp number)) left) ≡ true

  -- one of them is listed
  pub one_listed : (list rest left : List ℕ) (x : ℕ) → rest ≡ x ∷ left → AreListed list rest → AreListed (list ++ x ∷ []) left
  one_listed list rest left x split listed number is has =
      (λ i. list_any-append (nat_eq number) list (x ∷ []) i || list_any (is_at (nat_cmp number)) left)
      ∙ turn (list_any (nat_eq number) list) (nat_eq number x) (list_any (is_at (nat_cmp number)) left)
      ∙ (λ i. list_any (nat_eq number) list || (sym (unsigned_tied number x) i || list_any (is_at (nat_cmp number)) left))
      ∙ (λ i. list_any (nat_eq number) list || list_any (is_at (nat_cmp number)) (sym split i))
      ∙ listed number is has
    where
      turn : (a b c : Bool) → ((a || (b || false)) || c) ≡ (a || (b || c))
      turn true b c = refl
      turn false true c = refl
      turn false false c = refl

  -- one of them is of no file
  pub one_left : (list rest left : List ℕ) (x : ℕ) → rest ≡ x ∷ left → (IsThere files x → ⊥) → AreListed list rest → AreListed list left
  one_left list rest left x split none listed number is has =
      let differs : number ≢ x = λ e. none (subst (IsThere files) e is) in
      (λ i. list_any (nat_eq number) list || (sym (unsigned_tied number x ∙ ne_eqb number x differs) i || list_any (is_at (nat_cmp number)) left))
      ∙ (λ i. list_any (nat_eq number) list || list_any (is_at (nat_cmp number)) (sym split i))
      ∙ listed number is has

  -- none of them is left
  pub all_listed : (list rest : List ℕ) → rest ≡ [] → AreListed list rest → (number : ℕ) → IsThere files number → list_any (is_at (nat_cmp number)) keys ≡ true → list_any (nat_eq number) list ≡ true
  all_listed list rest none listed number is has =
      sym (or-false (list_any (nat_eq number) list)) ∙ (λ i. list_any (nat_eq number) list || list_any (is_at (nat_cmp number)) (sym none i)) ∙ listed number is has

-- what is known of numbers of files, without those of files that are gone
module _ (files : Files) where
  -- whether there is a file of this number
  abbrev pub is_there : ℕ → Bool
  is_there number = is_some (get files number)

  abbrev pub bounds_there : Bounds → Bounds
  bounds_there bounds = filter (λ b. is_there b.0) bounds

  -- a number of a file that is there is another than one of a file that is gone
  apart : (number gone : ℕ) → is_there number ≡ true → is_there gone ≡ false → nat_eq number gone ≡ false
  apart number gone here none = ne_eqb number gone (λ e. true≢false (sym here ∙ ap is_there e ∙ none))

  bound_kept : (number : ℕ) (bounds : Bounds) → is_there number ≡ true → lookup (nat_eq number) (bounds_there bounds) ≡ lookup (nat_eq number) bounds
  bound_kept number [] here = refl
  bound_kept number (b ∷ bounds) here =
      elim (is_there b.0) as (λ t. is_there b.0 ≡ t → lookup (nat_eq number) (cond t (b ∷ bounds_there bounds) (bounds_there bounds)) ≡ lookup (nat_eq number) (b ∷ bounds)) [
        | true ↦ λ _. ap (cond (nat_eq number b.0) (Some b.1)) (bound_kept number bounds here)
        | false ↦ λ none. bound_kept number bounds here ∙ (λ i. cond (sym (apart number b.0 here none) i) (Some b.1) (lookup (nat_eq number) bounds))
      ] refl

  bound_gone : (number : ℕ) (bounds : Bounds) → is_there number ≡ false → lookup (nat_eq number) (bounds_there bounds) ≡ None
  bound_gone number [] none = refl
  bound_gone number (b ∷ bounds) none =
      elim (is_there b.0) as (λ t. is_there b.0 ≡ t → lookup (nat_eq number) (cond t (b ∷ bounds_there bounds) (bounds_there bounds)) ≡ None) [
        | true ↦ λ here. (λ i. cond (ne_eqb number b.0 (λ e. true≢false (sym here ∙ sym (ap is_there e) ∙ none)) i) (Some b.1) (lookup (nat_eq number) (bounds_there bounds))) ∙ bound_gone number bounds none
        | false ↦ λ _. bound_gone number bounds none
      ] refl

  worn_kept : (number : ℕ) (keys : List ℕ) → is_there number ≡ true → list_any (is_at (nat_cmp number)) (filter is_there keys) ≡ list_any (is_at (nat_cmp number)) keys
  worn_kept number [] here = refl
  worn_kept number (k ∷ keys) here =
      elim (is_there k) as (λ t. is_there k ≡ t → list_any (is_at (nat_cmp number)) (cond t (k ∷ filter is_there keys) (filter is_there keys)) ≡ list_any (is_at (nat_cmp number)) (k ∷ keys)) [
        | true ↦ λ _. ap (λ b. is_at (nat_cmp number) k || b) (worn_kept number keys here)
        | false ↦ λ none. worn_kept number keys here ∙ (λ i. sym (unsigned_tied number k ∙ apart number k here none) i || list_any (is_at (nat_cmp number)) keys)
      ] refl

  -- of files that are there as much is known as before
  pub there_known : (bounds : Bounds) → EachFile files (λ number file. bound_of number (bounds_there bounds) ≡ bound_of number bounds)
  there_known bounds number file at = ap (λ o. unwrap_or o 0) (bound_kept number bounds (ap is_some at))

  -- and which of them are worn or pinned
  pub worn_there : (bounds : Bounds) (worn pinned : List ℕ) → KnowsTheWorn bounds worn pinned → KnowsTheWorn (bounds_there bounds) (filter is_there worn) (filter is_there pinned)
  worn_there bounds worn pinned knows number many =
      elim (is_there number) as (λ t. is_there number ≡ t → (is_among number (filter is_there worn) || is_among number (filter is_there pinned)) ≡ true) [
        | true ↦ λ here.
            let same = ap (λ o. unwrap_or o 0) (bound_kept number bounds here) in
            (λ i. worn_kept number worn here i || worn_kept number pinned here i) ∙ knows number (omega arith)
        | false ↦ λ none.
            let zero : bound_of number (bounds_there bounds) ≡ 0 = ap (λ o. unwrap_or o 0) (bound_gone number bounds none) in
            absurd (omega arith)
      ] refl

-- of each file as much is known as before
pub bounds_same : (files : Files) (before after : Bounds) → EachFile files (λ number file. bound_of number after ≡ bound_of number before) → AreBounds files before → AreBounds files after
bounds_same files before after same known number file at = subst (λ b. (losses_of file ≤ b) ⊎ (64 ≤ b)) (sym (same number file at)) (known number file at)

-- files that were fed
module _ (store : StoreState) (change : List Portion) (old mid : TableState) (facts : Facts old) (changes : store.changes ≡ old.number) (fed : AreFed store change old.files mid.files) where
  last : (number : ℕ) (was : KeptFile) → get old.files number ≡ Some was → AllByRecursion (λ r. r.number ≤ store.changes) was.content.rows
  last number was here = subst (λ n. AllByRecursion (λ r. r.number ≤ n) was.content.rows) (sym changes) (facts.up_to number was here).last

  -- what a file was
  was_of : (number : ℕ) (file : KeptFile) → get mid.files number ≡ Some file → (was : KeptFile) × (get old.files number ≡ Some was) × ((delta : List PlainRow) × IsFedFile (store.changes + 1) delta was file)
  was_of number file at = elim (get old.files number) as (λ o. get old.files number ≡ o → (was : KeptFile) × (o ≡ Some was) × ((delta : List PlainRow) × IsFedFile (store.changes + 1) delta was file)) [
    | Some was ↦ λ here.
        let f = fed.each number was here in
        let delta : List PlainRow = delta_by store change was.expr in
        (was, refl, (delta, subst (λ (k : KeptFile). IsFedFile (store.changes + 1) delta was k) (one_value f.1 at) f.2))
    | None ↦ λ none. absurd (there at (fed.no_other number none))
  ] refl

  fed_lost : (number : ℕ) (was file : KeptFile) (delta : List PlainRow) → get old.files number ≡ Some was → IsFedFile (store.changes + 1) delta was file
      → losses_of file ≡ losses_of was + losses_above store.changes file.content.rows
  fed_lost number was file delta here f =
      let n : ℕ = store.changes in
      let base : ℕ = was.content.base in
      let rows : List SignedRow = was.content.rows in
      let news : List SignedRow = f.news in
      let low = (facts.up_to number was here).base in
      let all : losses_of file ≡ losses_above base (rows ++ news) = ap losses_of f.behind in
      let above : losses_above n file.content.rows ≡ losses_above n (rows ++ news) = ap (λ (k : KeptFile). losses_above n k.content.rows) f.behind in
      let parts = losses-append base rows news in
      let parts_above = losses-append n rows news in
      let same : losses_above base news ≡ losses_above n news = news_lost n base news (omega arith) f.numbers in
      let none = none_lost n rows (last number was here) in
      omega arith

  pub bounds_fed : (before after : Bounds) (list : List ℕ) → NamesTheFed store.changes mid.files list → NeverFall before after
      → AreNoted mid.files store.changes before after list
      → AreBounds old.files before → AreBounds mid.files after
  bounds_fed before after list named up told known number file at =
      let was = was_of number file at in
      covered (losses_of file) (losses_of was.0) (losses_above store.changes file.content.rows) (bound_of number before) (bound_of number after)
      (fed_lost number was.0 file was.2.0 was.1 was.2.1) (known number was.0 was.1) (up number)
      (elim (list_any (nat_eq number) list) as (λ t. list_any (nat_eq number) list ≡ t → (bound_of number before + losses_above store.changes file.content.rows ≤ bound_of number after) ⊎ (64 ≤ bound_of number after)) [
        | true ↦ λ h. told number file at h
        | false ↦ λ h.
            let none : losses_above store.changes file.content.rows ≡ 0 = losses_since store.changes file.content.rows [] (named number file at h) in
            let no_less = up number in
            inl (omega arith)
      ] refl)

  -- files that count as pinned are so with more rows
  pub pinned_fed : (subscriptions : List Subscription) (pinned : List ℕ) → mid.next_file ≡ old.next_file → ArePinned old subscriptions pinned → ArePinned mid subscriptions pinned
  pinned_fed subscriptions pinned next are number has =
      let under = (are number has).0 in (
        omega arith,
        λ file at.
            let was = was_of number file at in
            let more : List SignedRow = was.2.1.news in
            let rows : file.content.rows ≡ was.0.content.rows ++ more = ap (λ (k : KeptFile). k.content.rows) was.2.1.behind in
            subst (λ rs. is_pinned subscriptions number rs ≡ true) (sym rows) (pinned_more subscriptions number was.0.content.rows more ((are number has).1 was.0 was.1)),
      )

  module _ (mark : GroupMark) (is : mark ≡ mark_of old) where
    -- each file was there when the mark was made
    pub fed_at_mark : (number : ℕ) (file : KeptFile) → get mid.files number ≡ Some file → (file.content.base ≤ mark.number) × (number < mark.next_file)
    fed_at_mark number file at =
        let was = was_of number file at in
        let same : file.content.base ≡ was.0.content.base = ap (λ (k : KeptFile). k.content.base) was.2.1.behind in
        let low = (facts.up_to number was.0 was.1).base in
        let to : mark.number ≡ old.number = ap (λ (m : GroupMark). m.number) is in
        let next : mark.next_file ≡ old.next_file = ap (λ (m : GroupMark). m.next_file) is in
        let under = facts.below number was.0 was.1 in
        (omega arith, omega arith)

    -- without the rows of the change a file is as it was
    cut_fed : (number : ℕ) (was file : KeptFile) (delta : List PlainRow) → get old.files number ≡ Some was → IsFedFile (store.changes + 1) delta was file → cut_to store.changes file ≡ was
    cut_fed number was file delta here f =
        ap (cut_to store.changes) f.behind
        ∙ (λ i. record was { content = record { base = was.content.base; rows = up_before store.changes was.content.rows f.news (last number was here) f.numbers i } })

    -- and rolled back to the mark, the table is the one of before
    pub table_unfed : (new : TableState) → new.number ≡ mark.number → new.next_file ≡ mark.next_file → ((number : ℕ) → get new.files number ≡ option_map (cut_to mark.number) (get mid.files number)) → new ≡ old
    table_unfed new to next cut =
        let here : mark.number ≡ store.changes = ap (λ (m : GroupMark). m.number) is ∙ sym changes in
        let files : new.files ≡ old.files =
        same_map nat_cmp_total nat_cmp-IsAntisymmetric new.files old.files
        (λ number. cut number ∙ (λ j. option_map (cut_to (here j)) (get mid.files number)) ∙ by number (get old.files number) refl) in
        λ j. record { files = files j; next_file = (next ∙ ap (λ (m : GroupMark). m.next_file) is) j; number = (to ∙ ap (λ (m : GroupMark). m.number) is) j }
      where
        by : (number : ℕ) (o : Option KeptFile) → get old.files number ≡ o → option_map (cut_to store.changes) (get mid.files number) ≡ get old.files number
        by number None e = ap (option_map (cut_to store.changes)) (fed.no_other number e) ∙ sym e
        by number (Some was) e =
            let f = fed.each number was e in
            ap (option_map (cut_to store.changes)) f.1 ∙ ap Some (cut_fed number was f.0 _ e f.2) ∙ sym e

-- what holds whatever is answered holds of an Ok
pub on_ok : {T E A : Type 0} (r : Result T E) → A → OnOk r A
on_ok (Ok x) a = a
on_ok (Err e) a = tt
