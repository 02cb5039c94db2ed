-- A live table stays one: with one subscription more, with one less, after a change of the sources, and after a note.
use Rattle.std.proofs.Common.{◌≡◌, ◌≢◌, ℕ, ◌+◌, ◌-◌, ◌<◌, ◌≤◌, ◌^◌, true, false, not, cond, List, [], ◌∷◌, ◌++◌, map, length, inl, inr, refl, sym, ◌∙◌, ap, subst, arith}
use Rattle.std.specs.Prelude.{Some, None}
use Rattle.std.specs.List.{filter, AllByRecursion}
use Rattle.std.specs.FinMap.{get, empty, insert}
use Rattle.std.proofs.lemmas.Bool.{cases_eq, cases_lt}
use Rattle.ncq_base.specs.declared.atom.FileId.{FileId}
use Rattle.ncq_plan.specs.declared.expr.Expr.{Expr}
use Rattle.ncq_plan.specs.declared.query.NormalQuery.{NormalQuery}
use Rattle.ncq_plan.specs.WellFormed.{IsWellFormed}
use Rattle.ncq_strategy.specs.declared.choice.Choice.{Choice}
use Rattle.ncq_strategy.specs.Choices.{plan_by}
use Rattle.ncq_source.specs.declared.change.Portion.{Portion}
use Rattle.ncq_source.specs.StoreStates.{StoreState}
use Rattle.ncq_shelf.specs.Contents.{AreFolded, KeepsContents}
use Rattle.ncq_shelf.specs.KeptFiles.{KeptFile, Files}
use Rattle.ncq_shelf.specs.Stands.{Stands}
use Rattle.ncq_shelf.proofs.CallerLemmas.{put_same, put_other, there, one_value}
use Rattle.ncq_feed.specs.Feeds.{AreFed}
use Rattle.ncq_group.specs.Closure.IsNeeded.{used}
use Rattle.ncq_group.specs.Installs.{IsInstalled}
use Rattle.ncq_group.specs.Releases.{HasUse, IsReleased, with_use_less}
use Rattle.ncq_group.specs.Tables.{TableState, Facts}
use Rattle.ncq_group.proofs.Empty.{nothing_there}
use Rattle.ncq_book.specs.declared.subscription.Subscription.{Subscription}
use Rattle.ncq_book.specs.Books.{is_of, subscription_of, with_note, InstallsRise}
use Rattle.ncq_book.proofs.Lists.{each_leads, each_pushed, each_filtered, found_has}
use Rattle.ncq_live.specs.LiveTables.{IsLiveTable, plan_in}
use Rattle.ncq_live.proofs.Users.{users, same, same_itself, same_other, users_push, users_few, users_rest, users_some, users_map}

-- what two facts of each item lead to
each_both : {A : Type 0} (P Q R : A → Type 0) → ((x : A) → P x → Q x → R x) → (xs : List A) → AllByRecursion P xs → AllByRecursion Q xs → AllByRecursion R xs
each_both P Q R leads [] p q = tt
each_both P Q R leads (x ∷ xs) p q = (leads x p.0 q.0, each_both P Q R leads xs p.1 q.1)

-- the file of the subscription's plan
abbrev pub HasFile : Files → Subscription → Type 0
HasFile files m = Stands files (plan_in m) m.file.0

-- nobody and nothing
pub table_of_none : (table : TableState) → table.files ≡ empty → IsLiveTable table []
table_of_none table none = record { formed = tt; files = tt; uses = λ number file at. absurd (nothing_there table.files none number file at) }

-- a number without a file has no users
nobody_uses : (files : Files) (number : ℕ) → ((file : KeptFile) → get files number ≡ Some file → ⊥) → (subscriptions : List Subscription) → AllByRecursion (HasFile files) subscriptions → users number subscriptions ≡ 0
nobody_uses files number none [] has = refl
nobody_uses files number none (m ∷ subscriptions) has =
    let s = has.0 in
    let rest = nobody_uses files number none subscriptions has.1 in
    let other = same_other m.file.0 number (λ e. none s.file (subst (λ n. get files n ≡ Some s.file) e s.at)) in
    omega arith

-- each file has fewer uses than there are numbers, where there are few subscriptions
pub uses_few : (table : TableState) (subscriptions : List Subscription) → IsLiveTable table subscriptions → length subscriptions < 2 ^ 64 - 1 → (number : ℕ) (file : KeptFile) → get table.files number ≡ Some file → file.uses < 2 ^ 64 - 1
uses_few table subscriptions live_table few number file at =
    let u = live_table.uses number file at in
    let l = users_few number subscriptions in
    omega arith

-- the file of a subscription has a use
pub has_use : (table : TableState) (subscriptions : List Subscription) → IsLiveTable table subscriptions → (m : Subscription) → HasFile table.files m → 0 < users m.file.0 subscriptions → HasUse table.files m.file.0
has_use table subscriptions live_table m s some = let u = live_table.uses m.file.0 s.file s.at in record { file = s.file; at = s.at; used = omega arith }

-- one subscription more, with the file of its plan
module _ (old new : TableState) (facts : Facts old) (subscriptions : List Subscription) (live_table : IsLiveTable old subscriptions) (subscription : Subscription) (plan : Expr) (formed : IsWellFormed subscription.query) (is : plan ≡ plan_in subscription) (i : IsInstalled plan old new subscription.file.0) where
  abbrev number : ℕ
  number = subscription.file.0

  file_stays : (m : Subscription) → HasFile old.files m → HasFile new.files m
  file_stays m s = elim (cases_eq m.file.0 number) [
    | inl here ↦
        let more : KeptFile = record (s.file) { uses = s.file.uses + 1 } in
        let at = i.gains s.file (subst (λ n. get old.files n ≡ Some s.file) here s.at) in
        record { file = more; at = subst (λ n. get new.files n ≡ Some more) (sym here) at; of = s.of }
    | inr differs ↦ record { file = s.file; at = i.others m.file.0 s.file s.at differs; of = s.of }
  ]

  nobody_above : (other : ℕ) → old.next_file ≤ other → users other subscriptions ≡ 0
  nobody_above other above = nobody_uses old.files other (λ file at. let b = facts.below other file at in absurd (omega arith)) subscriptions live_table.files

  here_uses : (file : KeptFile) → get new.files number ≡ Some file → file.uses ≡ users number (subscriptions ++ subscription ∷ [])
  here_uses file at =
      let push = users_push number subscriptions subscription in
      let one = same_itself number in
      elim (cases_lt number old.next_file) [
        | inl less ↦
            let b = i.before number file at less in
            let e : file ≡ record (b.0) { uses = b.0.uses + 1 } = one_value at (i.gains b.0 b.1) in
            let v : file.uses ≡ b.0.uses + 1 = ap (λ (f : KeptFile). f.uses) e in
            let u = live_table.uses number b.0 b.1 in
            omega arith
        | inr above ↦
            let v = i.first_use file at above in
            let u = nobody_above number above in
            omega arith
      ]

  other_uses : (other : ℕ) → other ≢ number → (file : KeptFile) → get new.files other ≡ Some file → file.uses ≡ users other (subscriptions ++ subscription ∷ [])
  other_uses other differs file at =
      let push = users_push other subscriptions subscription in
      let none = same_other number other (λ e. differs (sym e)) in
      elim (cases_lt other old.next_file) [
        | inl less ↦
            let b = i.before other file at less in
            let e : file ≡ b.0 = one_value at (i.others other b.0 b.1 differs) in
            let v : file.uses ≡ b.0.uses = ap (λ (f : KeptFile). f.uses) e in
            let u = live_table.uses other b.0 b.1 in
            omega arith
        | inr above ↦
            let v = i.unused other file at above differs in
            let u = nobody_above other above in
            omega arith
      ]

  pub table_more : IsLiveTable new (subscriptions ++ subscription ∷ [])
  table_more = record {
    formed = each_pushed (λ m. IsWellFormed m.query) subscriptions subscription live_table.formed formed;
    files = each_pushed (HasFile new.files) subscriptions subscription (each_leads (HasFile old.files) (HasFile new.files) file_stays subscriptions live_table.files) (subst (λ e. Stands new.files e number) is i.stands);
    uses = λ other file at. elim (cases_eq other number) [
      | inl here ↦ subst (λ n. file.uses ≡ users n (subscriptions ++ subscription ∷ [])) (sym here) (here_uses file (subst (λ n. get new.files n ≡ Some file) here at))
      | inr differs ↦ other_uses other differs file at
    ];
  }

-- one subscription less, whose use of its file is given up
module _ (old new : TableState) (number : ℕ) (r : IsReleased old.files number new.files) (subscriptions rest : List Subscription) (live_table : IsLiveTable old subscriptions)
    (formed : AllByRecursion (λ m. IsWellFormed m.query) rest) (files : AllByRecursion (HasFile old.files) rest) (counts : (n : ℕ) → users n subscriptions ≡ users n rest + same number n) where
  abbrev less : Files
  less = with_use_less old.files number r.file

  abbrev lower : KeptFile
  lower = record (r.file) { uses = r.file.uses - 1 }

  lower_at : get less number ≡ Some lower
  lower_at = put_same old.files number lower

  lower_uses : lower.uses ≡ users number rest
  lower_uses =
      let u = live_table.uses number r.file r.at in
      let c = counts number in
      let one = same_itself number in
      omega arith

  file_left : (m : Subscription) → 0 < users m.file.0 rest → HasFile old.files m → HasFile new.files m
  file_left m some s = elim (cases_eq m.file.0 number) [
    | inl here ↦
        let u = lower_uses in
        let some_here : 0 < users number rest = subst (λ n. 0 < users n rest) here some in
        let at : get new.files number ≡ Some lower = r.kept number (used lower_at (omega arith)) ∙ lower_at in
        let e : r.file ≡ s.file = one_value r.at (subst (λ n. get old.files n ≡ Some s.file) here s.at) in
        record { file = lower; at = subst (λ n. get new.files n ≡ Some lower) (sym here) at; of = ap (λ (f : KeptFile). f.expr) e ∙ s.of }
    | inr differs ↦
        let at : get less m.file.0 ≡ Some s.file = put_other old.files number lower m.file.0 differs ∙ s.at in
        let u = live_table.uses m.file.0 s.file s.at in
        let c = counts m.file.0 in
        record { file = s.file; at = r.kept m.file.0 (used at (omega arith)) ∙ at; of = s.of }
  ]

  uses_left : (other : ℕ) (file : KeptFile) → get new.files other ≡ Some file → file.uses ≡ users other rest
  uses_left other file at =
      let was = (r.stays other file at).0 in
      elim (cases_eq other number) [
        | inl here ↦
            let e : file ≡ lower = one_value (subst (λ n. get less n ≡ Some file) here was) lower_at in
            subst (λ n. file.uses ≡ users n rest) (sym here) (ap (λ (f : KeptFile). f.uses) e ∙ lower_uses)
        | inr differs ↦
            let u = live_table.uses other file (sym (put_other old.files number lower other differs) ∙ was) in
            let c = counts other in
            let none = same_other number other (λ e. differs (sym e)) in
            omega arith
      ]

  pub table_less : IsLiveTable new rest
  table_less = record {
    formed = formed;
    files = each_both (λ m. 0 < users m.file.0 rest) (HasFile old.files) (HasFile new.files) file_left rest (users_some rest) files;
    uses = uses_left;
  }

-- the subscription of an install number gives its file up
module _ (old : TableState) (subscriptions : List Subscription) (live_table : IsLiveTable old subscriptions) (install : ℕ) (subscription : Subscription) (rise : InstallsRise subscriptions) (found : subscription_of install subscriptions ≡ Some subscription) where
  pub taken_uses : HasUse old.files subscription.file.0
  taken_uses =
      has_use old subscriptions live_table subscription (found_has (is_of install) (HasFile old.files) subscriptions subscription live_table.files found)
      (found_has (is_of install) (λ m. 0 < users m.file.0 subscriptions) subscriptions subscription (users_some subscriptions) found)

  pub table_taken : (new : TableState) → IsReleased old.files subscription.file.0 new.files → IsLiveTable new (filter (λ m. not (is_of install m)) subscriptions)
  table_taken new r =
      table_less old new subscription.file.0 r subscriptions (filter (λ m. not (is_of install m)) subscriptions) live_table
      (each_filtered (λ m. IsWellFormed m.query) (λ m. not (is_of install m)) subscriptions live_table.formed)
      (each_filtered (HasFile old.files) (λ m. not (is_of install m)) subscriptions live_table.files)
      (λ n. users_rest n install subscriptions subscription rise found)

-- the files were fed
module _ (store : StoreState) (change : List Portion) (old new : TableState) (subscriptions : List Subscription) (live_table : IsLiveTable old subscriptions) (fed : AreFed store change old.files new.files) where
  file_fed : (m : Subscription) → HasFile old.files m → HasFile new.files m
  file_fed m s =
      let f = fed.each m.file.0 s.file s.at in
      record { file = f.0; at = f.1; of = ap (λ (x : KeptFile). x.expr) f.2.behind ∙ s.of }

  uses_fed : (number : ℕ) (file : KeptFile) → get new.files number ≡ Some file → file.uses ≡ users number subscriptions
  uses_fed number file at = elim (get old.files number) as (λ o. get old.files number ≡ o → file.uses ≡ users number subscriptions) [
    | Some was ↦ λ here.
        let f = fed.each number was here in
        let same : file ≡ f.0 = one_value at f.1 in
        ap (λ (x : KeptFile). x.uses) same ∙ ap (λ (x : KeptFile). x.uses) f.2.behind ∙ live_table.uses number was here
    | None ↦ λ none. absurd (there at (fed.no_other number none))
  ] refl

  pub table_fed : IsLiveTable new subscriptions
  table_fed = record {
    formed = live_table.formed;
    files = each_leads (HasFile old.files) (HasFile new.files) file_fed subscriptions live_table.files;
    uses = uses_fed;
  }

-- what a file was, before some of its rows were struck out
pub was_folded : (old new : Files) → AreFolded old new → (number : ℕ) (file : KeptFile) → get new number ≡ Some file → (was : KeptFile) × (get old number ≡ Some was) × KeepsContents was file
was_folded old new folded number file at = elim (get old number) as (λ o. get old number ≡ o → (was : KeptFile) × (o ≡ Some was) × KeepsContents was file) [
  | Some was ↦ λ here. let f = folded.each number was here in (was, refl, subst (KeepsContents was) (one_value f.1 at) f.2)
  | None ↦ λ none. absurd (there at (folded.only number none))
] refl

-- rows of the files were struck out
module _ (old new : TableState) (subscriptions : List Subscription) (live_table : IsLiveTable old subscriptions) (folded : AreFolded old.files new.files) where
  file_folded : (m : Subscription) → HasFile old.files m → HasFile new.files m
  file_folded m s =
      let f = folded.each m.file.0 s.file s.at in
      record { file = f.0; at = f.1; of = f.2.expr ∙ s.of }

  pub table_folded : IsLiveTable new subscriptions
  table_folded = record {
    formed = live_table.formed;
    files = each_leads (HasFile old.files) (HasFile new.files) file_folded subscriptions live_table.files;
    uses = λ number file at.
        let was = was_folded old.files new.files folded number file at in
        was.2.uses ∙ live_table.uses number was.0 was.1;
  }

-- a file has other rows
module _ (old new : TableState) (subscriptions : List Subscription) (live_table : IsLiveTable old subscriptions) (number : ℕ) (kept next : KeptFile) (at : get old.files number ≡ Some kept) (put : new.files ≡ insert old.files number next) (expr : next.expr ≡ kept.expr) (uses : next.uses ≡ kept.uses) where
  next_at : get new.files number ≡ Some next
  next_at = (λ i. get (put i) number) ∙ put_same old.files number next

  others_at : (other : ℕ) → other ≢ number → get new.files other ≡ get old.files other
  others_at other differs = (λ i. get (put i) other) ∙ put_other old.files number next other differs

  file_put : (m : Subscription) → HasFile old.files m → HasFile new.files m
  file_put m s = elim (cases_eq m.file.0 number) [
    | inl here ↦
        let is : kept ≡ s.file = one_value at (subst (λ n. get old.files n ≡ Some s.file) here s.at) in
        record { file = next; at = subst (λ n. get new.files n ≡ Some next) (sym here) next_at; of = expr ∙ ap (λ (f : KeptFile). f.expr) is ∙ s.of }
    | inr differs ↦ record { file = s.file; at = others_at m.file.0 differs ∙ s.at; of = s.of }
  ]

  uses_put : (other : ℕ) (file : KeptFile) → get new.files other ≡ Some file → file.uses ≡ users other subscriptions
  uses_put other file here = elim (cases_eq other number) [
    | inl same ↦
        let is : file ≡ next = one_value (subst (λ n. get new.files n ≡ Some file) same here) next_at in
        subst (λ n. file.uses ≡ users n subscriptions) (sym same) (ap (λ (f : KeptFile). f.uses) is ∙ uses ∙ live_table.uses number kept at)
    | inr differs ↦ live_table.uses other file (sym (others_at other differs) ∙ here)
  ]

  pub table_put : IsLiveTable new subscriptions
  table_put = record {
    formed = live_table.formed;
    files = each_leads (HasFile old.files) (HasFile new.files) file_put subscriptions live_table.files;
    uses = uses_put;
  }

-- subscriptions were changed, but for their choices, queries and files
module _ (table : TableState) (change : Subscription → Subscription) (choices : (m : Subscription) → (change m).choice ≡ m.choice) (queries : (m : Subscription) → (change m).query ≡ m.query) (files : (m : Subscription) → (change m).file ≡ m.file) where
  each_changed : (P : Choice → NormalQuery → FileId → Type 0) (subscriptions : List Subscription) → AllByRecursion (λ m. P m.choice m.query m.file) subscriptions
      → AllByRecursion (λ m. P m.choice m.query m.file) (map change subscriptions)
  each_changed P [] all = tt
  each_changed P (m ∷ subscriptions) all = (
    subst (λ c. P c (change m).query (change m).file) (sym (choices m)) (subst (λ q. P m.choice q (change m).file) (sym (queries m)) (subst (λ f. P m.choice m.query f) (sym (files m)) all.0)),
    each_changed P subscriptions all.1,
  )

  table_changed : (subscriptions : List Subscription) → IsLiveTable table subscriptions → IsLiveTable table (map change subscriptions)
  table_changed subscriptions live_table = record {
    formed = each_changed (λ c q f. IsWellFormed q) subscriptions live_table.formed;
    files = each_changed (λ c q f. Stands table.files (plan_by c q) f.0) subscriptions live_table.files;
    uses = λ number file at. live_table.uses number file at ∙ sym (users_map number change files subscriptions);
  }

-- a field that a note leaves
left : {X : Type 0} (field : Subscription → X) (install number : ℕ) → ((m : Subscription) → field (record m { noted = Some number }) ≡ field m) → (m : Subscription) → field (with_note install number m) ≡ field m
left field install number same m = elim (is_of install m) as (λ t. field (cond t (record m { noted = Some number }) m) ≡ field m) [ true ↦ same m | false ↦ refl ]

pub table_noted : (table : TableState) (subscriptions : List Subscription) (install number : ℕ) → IsLiveTable table subscriptions → IsLiveTable table (map (with_note install number) subscriptions)
table_noted table subscriptions install number =
    table_changed table (with_note install number) (left (λ m. m.choice) install number (λ m. refl)) (left (λ m. m.query) install number (λ m. refl)) (left (λ m. m.file) install number (λ m. refl))
    subscriptions
