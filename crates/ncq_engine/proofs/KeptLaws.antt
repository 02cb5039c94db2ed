-- What a firing tells: the text of the notice, and the mark that follows from what is written down.
use Rattle.std.proofs.Common.{◌≡◌, ◌⊎◌, ℕ, zero, suc, ◌<◌, ◌≤◌, max, true, false, inl, inr, List, [], ◌∷◌, ◌++◌, length, length-append, refl, sym, ◌∙◌, ap, subst, arith, ◌+◌}
use Rattle.std.specs.Prelude.{Option, Some, None, Result, Ok, Err, ◌==◌, slice_get, IfSome, OnOk}
use Rattle.std.specs.List.{AllByRecursion}
use Rattle.std.specs.Option.{option_map}
use Rattle.ncq_bag.specs.declared.bag.Difference.{Difference}
use Rattle.std.proofs.lemmas.List.{append-nil}
use Rattle.std.proofs.lemmas.Bool.Decides.{nat_tests}
use Rattle.std.proofs.lemmas.Option.{same_Some}
use Rattle.ncq_cache.specs.Cached.{Cached, found, with_pair}
use Rattle.ncq_cache.specs.declared.key.NoticeKey.{NoticeKey}
use Rattle.ncq_callback.specs.Labels.{Handed, Label}
use Rattle.ncq_callback.specs.Texts.{render}
use Rattle.ncq_callback.specs.declared.notice.Kind.TheVariants.{Print, Count, MailTo}
use Rattle.ncq_callback.specs.declared.notice.Kind.{Kind}
use Rattle.ncq_book.specs.declared.subscription.Subscription.{Subscription as Kept}
use Rattle.ncq_book.specs.Books.{AskAlike}
use Rattle.ncq_midfile.specs.Content.{IsSoundAt}
use Rattle.ncq_midfile.specs.Files.{FileState}
use Rattle.ncq_midfile.specs.declared.signed.SignedRow.{SignedRow}
use Rattle.ncq_group.specs.Tables.{TableState, Facts}
use Rattle.ncq_bag.specs.Bags.{differences}
use Rattle.ncq_callback.specs.Gathered.{answer_of, counts_after}
use Rattle.ncq_delta.specs.Leads.{unnumbered}
use Rattle.ncq_news.specs.News.{entries_of, since_mark}
use Rattle.ncq_plan.specs.Residuals.{passes}
use Rattle.std.specs.FinMap.{empty, get}
use Rattle.ncq_plan.specs.declared.expr.Expr.{Expr}
use Rattle.ncq_plan.specs.Exprs.{expr_width}
use Rattle.ncq_plan.specs.WellFormed.{arms_width}
use Rattle.ncq_strategy.proofs.ChoiceLaws.{either_wide}
use Rattle.ncq_shelf.specs.KeptFiles.{Files, KeptFile}
use Rattle.ncq_source.specs.StoreStates.{StoreState}
use Rattle.ncq_engine.specs.Cached.{AllServe, Grows, IsFresh, key_of}
use Rattle.ncq_engine.specs.Engines.{CanTell, entries_text, last_in, latest_in, mark_in, news_of, rows_in_file}
use Rattle.ncq_engine.specs.declared.span.Span.{Span}
use Rattle.ncq_engine.specs.Notices.{rendered}
use Rattle.ncq_engine.specs.Scans.{scanned_by}
use Rattle.ncq_engine.specs.Spans.{span_of}
use Rattle.ncq_engine.specs.Tellings.{HasNews, IsKeyed, IsLatest, KnowsChange}
use Rattle.ncq_engine.specs.declared.latest.Latest.{Latest}
use Rattle.ncq_plan.specs.Relations.{Relations}
use Rattle.ncq_engine.proofs.CachedLaws.{found_fresh, grows_none, grows_put}

-- what is written for a handler that is there
written_as : (labels : List Label) (action : ℕ) → action < length labels → (argument name : List ℕ) (instant : ℕ) (entries : List Difference) (out out' : List ℕ)
    → (length entries == 0) ≡ false
    → IfSome (slice_get labels action) (λ label. out' ≡ out ++ render label.1 argument name instant entries)
    → out' ≡ out ++ rendered (option_map (λ label. label.1) (slice_get labels action)) argument name instant entries
written_as [] action less argument name instant entries out out' some w = absurd (let n : ⊥ = omega (arith, less) in n)
written_as (label ∷ labels) zero less argument name instant [] out out' some w = absurd (let n : ⊥ = cc in n)
written_as (label ∷ labels) zero less argument name instant (entry ∷ more) out out' some w = w
written_as (label ∷ labels) (suc action) less argument name instant entries out out' some w = written_as labels action (omega (arith, less)) argument name instant entries out out' some w

-- a notice that is written has a first byte
render_begins : (kind : Kind) (argument name : List ℕ) (instant : ℕ) (entries : List Difference) (from to : ℕ) → to ≡ from + length (render kind argument name instant entries)
    → span_of name from (render kind argument name instant entries) ≡ record { name = name; from = from; to = to } ∷ []
unfolding render
render_begins Print argument name instant entries from to e = λ i. record { name = name; from = from; to = sym e i } ∷ []
render_begins Count argument name instant entries from to e = λ i. record { name = name; from = from; to = sym e i } ∷ []
render_begins MailTo argument name instant entries from to e = λ i. record { name = name; from = from; to = sym e i } ∷ []

-- so it has a span
span_as : (labels : List Label) (action : ℕ) → action < length labels → (argument name : List ℕ) (instant : ℕ) (entries : List Difference) (from to : ℕ)
    → (length entries == 0) ≡ false
    → to ≡ from + length (rendered (option_map (λ label. label.1) (slice_get labels action)) argument name instant entries)
    → span_of name from (rendered (option_map (λ label. label.1) (slice_get labels action)) argument name instant entries) ≡ record { name = name; from = from; to = to } ∷ []
span_as [] action less argument name instant entries from to some e = absurd (let n : ⊥ = omega (arith, less) in n)
span_as (label ∷ labels) zero less argument name instant [] from to some e = absurd (let n : ⊥ = cc in n)
span_as (label ∷ labels) zero less argument name instant (entry ∷ more) from to some e = render_begins label.1 argument name instant (entry ∷ more) from to e
span_as (label ∷ labels) (suc action) less argument name instant entries from to some e = span_as labels action (omega (arith, less)) argument name instant entries from to some e

none_written : (kind : Option Kind) (argument name : List ℕ) (instant : ℕ) (entries : List Difference) → (length entries == 0) ≡ true → rendered kind argument name instant entries ≡ []
none_written kind argument name instant [] none = refl
none_written kind argument name instant (entry ∷ more) none = absurd (let n : ⊥ = grind (arith, nat_tests, none) in n)

-- what is written of entries, and where it stands
module _ (handed : Handed) (m : Kept) (within : m.action < length handed.labels) (instant : ℕ) (entries : List Difference) where
  no_text : (length entries == 0) ≡ true → entries_text handed m instant entries ≡ []
  no_text = none_written (option_map (λ label. label.1) (slice_get handed.labels m.action)) m.argument m.name instant entries

  pub text_none : (out out' : List ℕ) → (length entries == 0) ≡ true → out' ≡ out → out' ≡ out ++ entries_text handed m instant entries
  text_none out out' none is = is ∙ sym (append-nil out) ∙ ap (λ (text : List ℕ). out ++ text) (sym (no_text none))

  -- where nothing differs there is no span
  pub span_none : (from : ℕ) (spans : List Span) → (length entries == 0) ≡ true → spans ≡ spans ++ span_of m.name from (entries_text handed m instant entries)
  span_none from spans none = sym (append-nil spans) ∙ ap (λ (text : List ℕ). spans ++ span_of m.name from text) (sym (no_text none))

  -- else there is the one of what was written
  pub span_some : (name out out' : List ℕ) (from to : ℕ) (old new : List Span) → (length entries == 0) ≡ false → name ≡ m.name → from ≡ length out → to ≡ length out'
      → out' ≡ out ++ entries_text handed m instant entries → new ≡ old ++ record { name = name; from = from; to = to } ∷ [] → new ≡ old ++ span_of m.name (length out) (entries_text handed m instant entries)
  span_some name out out' from to old new some n begins ends written more =
      let long : length out' ≡ length out + length (entries_text handed m instant entries) = ap length written ∙ length-append out (entries_text handed m instant entries) in
      more ∙ (λ i. old ++ record { name = n i; from = begins i; to = ends i } ∷ [])
      ∙ ap (λ (s : List Span). old ++ s) (sym (span_as handed.labels m.action within m.argument m.name instant entries (length out) (length out') some long))

  pub text_some : (argument name out out' : List ℕ) → (length entries == 0) ≡ false → argument ≡ m.argument → name ≡ m.name
      → IfSome (slice_get handed.labels m.action) (λ label. out' ≡ out ++ render label.1 argument name instant entries) → out' ≡ out ++ entries_text handed m instant entries
  text_some argument name out out' some a n w =
      written_as handed.labels m.action within m.argument m.name instant entries out out' some
      (subst (λ (p : List ℕ × List ℕ). IfSome (slice_get handed.labels m.action) (λ label. out' ≡ out ++ render label.1 p.0 p.1 instant entries)) (λ i. (a i, n i)) w)

-- what a call on a subscription's file asks and gives
module _ (handed : Handed) (store : StoreState) (table : TableState) (m : Kept) (can : CanTell handed store table m) (facts : Facts table) (content : FileState) (is : content ≡ can.file.content) where
  pub wide_rows : (rows : List SignedRow) → AllByRecursion (λ (r : SignedRow). length r.row ≡ expr_width can.file.expr) rows → AllByRecursion (λ r. length r.row ≡ arms_width m.query.arms) rows
  wide_rows rows =
      let w : expr_width can.file.expr ≡ arms_width m.query.arms = ap expr_width can.own ∙ either_wide m.choice m.query can.formed in
      subst (λ n. AllByRecursion (λ (r : SignedRow). length r.row ≡ n) rows) w

  pub last_rows : AllByRecursion (λ r. r.number ≤ table.number) content.rows
  last_rows = subst (λ (c : FileState). AllByRecursion (λ (r : SignedRow). r.number ≤ table.number) c.rows) (sym is) (facts.up_to m.file.0 can.file can.at).last

  pub base_now : content.base ≤ table.number
  base_now = subst (λ (c : FileState). c.base ≤ table.number) (sym is) (facts.up_to m.file.0 can.file can.at).base

  pub sound_now : IsSoundAt table.number content.rows
  sound_now = subst (λ (c : FileState). IsSoundAt table.number c.rows) (sym is) can.sound

  pub base_mark : (o : Option ℕ) → o ≡ mark_in store m → IfSome o (λ number. content.base ≤ number)
  base_mark o e = subst (λ (o : Option ℕ). IfSome o (λ number. content.base ≤ number)) (sym e)
      (subst (λ (c : FileState). IfSome (mark_in store m) (λ number. c.base ≤ number)) (sym is) can.base)

-- what holds holds where there was memory
pub on_any : {T E P : Type 0} (result : Result T E) → P → OnOk result P
on_any (Ok value) held = held
on_any (Err why) held = tt

-- what is found by a key of the subscription is what its rows tell
pub found_told : (relations : Relations) (table : TableState) (m : Kept) (mark : Option ℕ) (file : KeptFile) → get table.files m.file.0 ≡ Some file → (key : NoticeKey) → key ≡ key_of m mark table.number → (pairs : List Cached) → AllServe relations table pairs
    → (entries : List Difference) → Some entries ≡ found key pairs → entries ≡ entries_of relations m.query (since_mark mark (rows_in_file (get table.files m.file.0)))
found_told relations table m mark file at key is pairs serve entries there =
    let fresh : IsFresh relations table key entries = subst (λ (o : Option (List Difference)). IfSome o (IsFresh relations table key)) (sym there) (found_fresh relations table key pairs serve (ap (λ (k : NoticeKey). k.change) is)) in
    let here : IsFresh relations table (key_of m mark table.number) entries = subst (λ (k : NoticeKey). IsFresh relations table k entries) is fresh in
    here.told file at ∙ (λ i. entries_of relations m.query (since_mark mark (rows_in_file (sym at i))))

-- what the rows of its file tell since its mark
module _ (handed : Handed) (relations : Relations) (store : StoreState) (table : TableState) (m : Kept) (can : CanTell handed store table m) (facts : Facts table) (mark : Option ℕ) (own : mark ≡ mark_in store m)
    (entries : List Difference) (are : entries ≡ entries_of relations m.query (since_mark mark (rows_in_file (get table.files m.file.0)))) where
  fresh_as : IsFresh relations table (key_of m mark table.number) entries
  fresh_as = record {
    given = facts.below m.file.0 can.file can.at;
    change = refl;
    mark = subst (λ (o : Option ℕ). IfSome o (λ number. number ≤ table.number)) (sym own) can.mark;
    base = λ file at.
        let same : can.file ≡ file = same_Some can.file file (sym can.at ∙ at) in
        subst (λ (p : KeptFile × Option ℕ). IfSome p.1 (λ number. p.0.content.base ≤ number)) (λ i. (same i, sym own i)) can.base;
    told = λ file at. are ∙ (λ i. entries_of relations m.query (since_mark mark (rows_in_file (at i))));
  }

  -- it is fresh under the key by which others find it
  pub fresh_keyed : (key : Option NoticeKey) → IfSome key (λ k. k ≡ key_of m mark table.number) → IfSome key (λ k. IsFresh relations table k entries)
  fresh_keyed None is = tt
  fresh_keyed (Some key) is = subst (λ (k : NoticeKey). IsFresh relations table k entries) (sym is) fresh_as

  -- it is what the subscription is told
  pub told_now : entries ≡ entries_of relations m.query (news_of store table.files m)
  told_now = are ∙ (λ i. entries_of relations m.query (since_mark (own i) (rows_in_file (get table.files m.file.0))))

-- what was told last serves a subscription that asks alike, since the same mark
pub serves_as : (relations : Relations) (store : StoreState) (table : TableState) (latest : Latest) (m : Kept) (o : Option ℕ) → IsLatest relations store table latest → AskAlike latest.subscription.now m → latest.mark ≡ o → o ≡ mark_in store m
    → latest.notice.entries ≡ entries_of relations m.query (news_of store table.files m)
serves_as relations store table latest m o is alike same own =
    is.entries
    ∙ (λ i. differences (counts_after (passes relations (alike.residual i)) (answer_of (alike.template i)) empty (unnumbered (since_mark (same i) (rows_in_file (get table.files (alike.file i)))))))
    ∙ (λ i. entries_of relations m.query (since_mark (own i) (rows_in_file (get table.files m.file.0))))

-- what others find of what was told last is fresh
pub latest_keyed : (relations : Relations) (store : StoreState) (table : TableState) (o : Option Latest) → IfSome o (IsLatest relations store table) → IfSome o (IsKeyed relations table)
latest_keyed relations store table None is = tt
latest_keyed relations store table (Some told) is = is.key

-- the last change of what its file scans is known
pub latest_changed : (relations : Relations) (store : StoreState) (table : TableState) (o : Option Latest) → IfSome o (IsLatest relations store table) → IfSome o (KnowsChange store table)
latest_changed relations store table None is = tt
latest_changed relations store table (Some told) is = is.changed

-- what its file scans last changed when its sources did
module _ (handed : Handed) (store : StoreState) (table : TableState) (m : Kept) (can : CanTell handed store table m) where
  pub change_as : (latest : Latest) → KnowsChange store table latest → latest.subscription.now.file.0 ≡ m.file.0 → latest.changed ≡ latest_in store m.sources
  change_as latest knows same = knows can.file (ap (get table.files) same ∙ can.at) ∙ ap (λ (expr : Expr). latest_in store (scanned_by expr)) can.own ∙ sym (can.asked store)

  pub knows_as : (changed : ℕ) → changed ≡ latest_in store m.sources → (file : KeptFile) → get table.files m.file.0 ≡ Some file → changed ≡ latest_in store (scanned_by file.expr)
  knows_as changed is file at =
      is ∙ can.asked store ∙ ap (λ (expr : Expr). latest_in store (scanned_by expr)) (sym can.own) ∙ ap (λ (kept : KeptFile). latest_in store (scanned_by kept.expr)) (same_Some can.file file (sym can.at ∙ at))

-- what the subscription is told is what was told last
pub news_there : (relations : Relations) (store : StoreState) (files : Files) (m : Kept) (o : Option Latest) (told : Latest) → HasNews relations store files m o → o ≡ Some told → told.notice.entries ≡ entries_of relations m.query (news_of store files m)
news_there relations store files m o told has is =
    subst (λ (t : Latest). t.notice.entries ≡ entries_of relations m.query (news_of store files m)) (same_Some has.0 told (sym has.1 ∙ is)) has.2

-- what was told last is put among the others, or let go
pub grows_back : (relations : Relations) (table : TableState) (key : NoticeKey) (entries : List Difference) (old new : List Cached) → IsFresh relations table key entries → (new ≡ old) ⊎ (new ≡ with_pair key entries old) → Grows relations table old new
grows_back relations table key entries old new fresh put =
    elim put [
      | inl same ↦ subst (λ (pairs : List Cached). Grows relations table old pairs) (sym same) (grows_none relations table old)
      | inr more ↦ subst (λ (pairs : List Cached). Grows relations table old pairs) (sym more) (grows_put relations table key entries old fresh)
    ]

-- the greatest of last changes, with one source more
pub latest_push : (store : StoreState) (names : List (List ℕ)) (name : List ℕ) → latest_in store (names ++ name ∷ []) ≡ max (latest_in store names) (last_in store name)
latest_push store [] name = let a : max (last_in store name) 0 ≡ max 0 (last_in store name) = omega arith in a
latest_push store (first ∷ names) name = let rest = latest_push store names name in omega (arith, rest)
