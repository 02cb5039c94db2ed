-- What an install leaves is a table again.
use Rattle.std.proofs.Common.{◌≡◌, ◌≢◌, ℕ, ◌<◌, ◌≤◌, ◌+◌, Some, None, inl, inr, refl, sym, ap, ◌∙◌, subst, arith}
use Rattle.std.proofs.lemmas.Bool.{cases_eq, cases_lt}
use Rattle.std.proofs.lemmas.Cmp.{nat_cmp_total}
use Rattle.std.specs.FinMap.{get, insert, same_map, nat_cmp-IsAntisymmetric}
use Rattle.ncq_plan.specs.declared.expr.Expr.{Expr}
use Rattle.ncq_plan.specs.Exprs.{World}
use Rattle.ncq_shelf.specs.Parts.{IsPart}
use Rattle.ncq_plan.specs.Exprs.{rows_in}
use Rattle.ncq_plan.specs.WellFormed.{IsWellFormedExpr}
use Rattle.ncq_midfile.specs.Content.{IsContent}
use Rattle.ncq_shelf.specs.KeptFiles.{KeptFile, Files}
use Rattle.ncq_shelf.specs.Stands.{Stands}
use Rattle.ncq_shelf.specs.Contents.{Fits, IsUpTo}
use Rattle.ncq_group.specs.Tables.{TableState, Facts}
use Rattle.ncq_group.specs.Installs.{IsFresh, IsInstalled}
use Rattle.ncq_group.specs.Grown.{IsGrown, OnlyUnread, IsCut}
use Rattle.ncq_shelf.proofs.CallerLemmas.{put_same, put_other, one_value, there}
use Rattle.ncq_shelf.proofs.CallerLemmas.{HasAll, stands_alike, read_alike, grounded_alike, uses_there, uses_back, wide_alike}
use Rattle.ncq_group.proofs.Collects.{read_more}
use Rattle.ncq_group.proofs.Added.{absent_from}

module _ (expr : Expr) (world : World) (old : TableState) (facts : Facts old) (mid : Files) (high : ℕ) (g : IsGrown expr old.number world old.files old.next_file mid high) where
  -- the count of uses of a file has room for one more
  pub uses_fit : (limit number : ℕ) → 1 < limit → ((other : ℕ) (file : KeptFile) → get old.files other ≡ Some file → file.uses + 1 < limit) → (file : KeptFile) → get mid number ≡ Some file → file.uses + 1 < limit
  uses_fit limit number some old_fit file at = elim (cases_lt number old.next_file) [
    | inl less ↦ old_fit number file (g.before number file at less)
    | inr above ↦ let f = g.fresh number file at above in let u = f.0 in omega arith
  ]

  same_old : (number : ℕ) → number < old.next_file → get mid number ≡ get old.files number
  same_old number less = elim (get mid number) as (λ o. get mid number ≡ o → o ≡ get old.files number) [
    | Some file ↦ λ at. sym (g.before number file at less)
    | None ↦ λ none. elim (get old.files number) as (λ o. get old.files number ≡ o → None ≡ o) [
      | Some file ↦ λ at. absurd (there (g.stays number file at) none)
      | None ↦ λ e. refl
    ] refl
  ] refl

  -- what is cut back is as before
  pub cut_back : (new : Files) → IsCut mid old.next_file new → new ≡ old.files
  cut_back new cut = same_map nat_cmp_total nat_cmp-IsAntisymmetric new old.files (λ number. elim (cases_lt number old.next_file) [
    | inl less ↦ cut.kept number less ∙ same_old number less
    | inr above ↦ cut.gone number above ∙ sym (absent_from old.files old.next_file number facts.below above)
  ])

  pub unused_new : (number : ℕ) (file : KeptFile) → get mid number ≡ Some file → old.next_file ≤ number → file.uses ≡ 0
  unused_new number file at above = (g.fresh number file at above).0

  module _ (number uses : ℕ) (stands : Stands mid expr number) (unread : OnlyUnread (λ e. e ≡ expr) old.next_file mid) (file : KeptFile) (at : get mid number ≡ Some file) (is : uses ≡ file.uses)
      (new : Files) (gained : new ≡ insert mid number (record file { uses = uses + 1 })) where
    with_use : Files
    with_use = insert mid number (record file { uses = uses + 1 })

    there_new : HasAll mid new
    there_new = subst (HasAll mid) (sym gained) (uses_there mid number file at (uses + 1))

    back : HasAll new mid
    back = subst (λ f. HasAll f mid) (sym gained) (uses_back mid number file at (uses + 1))

    at_same : get new number ≡ Some (record file { uses = uses + 1 })
    at_same = subst (λ f. get f number ≡ Some (record file { uses = uses + 1 })) (sym gained) (put_same mid number _)

    at_other : (other : ℕ) → other ≢ number → get new other ≡ get mid other
    at_other other differs = subst (λ f. get f other ≡ get mid other) (sym gained) (put_other mid number _ other differs)

    pub facts_installed : Facts (record { files = new; next_file = high; number = old.number })
    facts_installed = record {
      grounded = grounded_alike mid new there_new back g.ready.grounded;
      below = λ other state here. let a = back other state here in g.below other a.file a.at;
      read = λ other state here unused. elim (cases_eq other number) [
        | inl same ↦
            let e : state ≡ record file { uses = uses + 1 } = one_value (subst (λ n. get new n ≡ Some state) same here) at_same in
            let u : uses + 1 ≡ 0 = sym (ap (λ f. f.uses) e) ∙ unused in
            absurd (omega arith)
        | inr differs ↦
            let in_mid = sym (at_other other differs) ∙ here in
            read_alike mid new there_new (elim (cases_lt other old.next_file) [
              | inl less ↦ read_more g.stays (facts.read other state (g.before other state in_mid less) unused)
              | inr above ↦ elim (unread other state in_mid above) [
                | inl same ↦ absurd (differs (g.ready.grounded.distinct other number expr (record { file = state; at = in_mid; of = same }) stands))
                | inr r ↦ r
              ]
            ])
      ];
      formed = λ other state here. let a = back other state here in subst IsWellFormedExpr a.expr (g.ready.formed other a.file a.at);
      wide = λ other state here. let a = back other state here in wide_alike a.file state a.expr a.content (g.ready.wide other a.file a.at);
      up_to = λ other state here. let a = back other state here in subst (IsUpTo old.number) a.content (g.ready.up_to other a.file a.at);
    }

    pub fits_installed : Fits old.number world new
    fits_installed other state here =
        let a = back other state here in
        subst (λ e. IsContent old.number state.content.rows (rows_in e world)) a.expr
        (subst (λ c. IsContent old.number c.rows (rows_in a.file.expr world)) a.content (g.ready.fits other a.file a.at))

    fresh_alike : (state : KeptFile) (a : KeptFile) → a.expr ≡ state.expr → a.content ≡ state.content → IsFresh expr old.number a → IsFresh expr old.number state
    fresh_alike state a e c f = record {
      part = subst (λ x. IsPart x expr) e f.part;
      base = subst (λ m. m.base ≡ old.number) c f.base;
      up_to = subst (IsUpTo old.number) c f.up_to;
    }

    pub installed : IsInstalled expr old (record { files = new; next_file = high; number = old.number }) number
    installed = record {
      stands = stands_alike mid new there_new stands;
      others = λ other state before differs. at_other other differs ∙ g.stays other state before;
      gains = λ state before.
          let e : file ≡ state = one_value at (g.stays number state before) in
          at_same ∙ ap (λ (u : ℕ). Some (record file { uses = u + 1 })) is ∙ ap (λ (f : KeptFile). Some (record f { uses = f.uses + 1 })) e;
      before = λ other state here less. let a = back other state here in (a.file, g.before other a.file a.at less);
      fresh = λ other state here above. let a = back other state here in fresh_alike state a.file a.expr a.content (g.fresh other a.file a.at above).1;
      unused = λ other state here above differs. (g.fresh other state (sym (at_other other differs) ∙ here) above).0;
      first_use = λ state here above.
          let u : file.uses ≡ 0 = (g.fresh number file at above).0 in
          let e : state ≡ record file { uses = uses + 1 } = one_value here at_same in
          let v : state.uses ≡ uses + 1 = ap (λ f. f.uses) e in
          omega arith;
      dense = λ other above less. let d = g.dense other above less in let a = there_new other d.0 d.1 in (a.file, a.at);
      order = g.order;
      room = g.room;
      same = refl;
    }
