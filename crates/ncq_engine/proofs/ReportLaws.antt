-- The summary of an engine is that of the history that it follows.
use Rattle.std.proofs.Common.{◌≡◌, ◌≢◌, ℕ, true, false, cond, List, [], ◌∷◌, length, map, inl, inr, refl, sym, ◌∙◌, ap, subst, arith}
use Rattle.std.specs.Prelude.{Some}
use Rattle.std.specs.FinMap.{entries, entries_sorted, get-entries, find, is_sorted, len-entries}
use Rattle.std.specs.FinMap.Entries.{below_all}
use Rattle.std.specs.List.{AllByRecursion}
use Rattle.std.specs.Ordering.{nat_cmp, eq_by_cmp}
use Rattle.std.proofs.lemmas.List.{length-map}
use Rattle.ncq_base.proofs.Tests.{both_true}
use Rattle.ncq_base.proofs.Totals.{told}
use Rattle.ncq_count.specs.FileExprs.{exprs_of}
use Rattle.ncq_group.specs.Closure.{IsKept}
use Rattle.ncq_plan.specs.declared.expr.Expr.{Expr}
use Rattle.ncq_plan.specs.ExprLists.{AreApart, IsIn}
use Rattle.ncq_report.specs.declared.report.Summary.{Summary}
use Rattle.ncq_report.specs.Lines.{AreTheSame}
use Rattle.ncq_report.proofs.LineLaws.{one_list}
use Rattle.ncq_live.specs.Shares.{Shares}
use Rattle.ncq_shelf.specs.KeptFiles.{KeptFile, Files}
use Rattle.ncq_shelf.specs.Parts.{IsPartOfOne}
use Rattle.ncq_shelf.specs.Stands.{IsGrounded}
use Rattle.ncq_shelf.proofs.CallerLemmas.{there}
use Rattle.ncq_engine.specs.Engines.{Pairwise}
use Rattle.ncq_engine.specs.History.{History, live}
use Rattle.ncq_engine.specs.Languages.{language_of}
use Rattle.ncq_engine.specs.Reports.{closure, summary}
use Rattle.ncq_engine.specs.Stands.{EngineState, Follows, Keeps, content_of}
use Rattle.ncq_engine.specs.Summaries.{IsSummary}
use Rattle.ncq_engine.proofs.PartLaws.{apart_closure, in_closure, plans_are, same_length}
use Rattle.ncq_engine.proofs.WorkLaws.{IsThere, all_there, apart_exprs}

-- the expressions of files with their numbers
abbrev exprs_in : List (ℕ × KeptFile) → List Expr
exprs_in es = map (λ file. file.expr) (map (λ entry. entry.1) es)

not_in : (expr : Expr) (es : List (ℕ × KeptFile)) → AllByRecursion (λ x. expr ≢ x.1.expr) es → IsIn expr (exprs_in es) → ⊥
not_in expr [] apart is = is
not_in expr (e ∷ es) apart (inl same) = apart.0 same
not_in expr (e ∷ es) apart (inr more) = not_in expr es apart.1 more

-- what is found among entries is the file of an expression of theirs
found_in : (number : ℕ) (file : KeptFile) (es : List (ℕ × KeptFile)) → find nat_cmp number es ≡ Some file → IsIn file.expr (exprs_in es)
found_in number file [] at = absurd (there at refl)
found_in number file (e ∷ es) at =
    elim (eq_by_cmp nat_cmp number e.0) as (λ t. cond t (Some e.1) (find nat_cmp number es) ≡ Some file → IsIn file.expr (exprs_in (e ∷ es))) [
      | true ↦ λ at. inl (let same : e.1 ≡ file = cc in ap (λ (f : KeptFile). f.expr) (sym same))
      | false ↦ λ at. inr (found_in number file es at)
    ] at

-- the expressions of files are those that have a file, each once
module _ (files : Files) (grounded : IsGrounded files) where
  in_kept : (expr : Expr) (es : List (ℕ × KeptFile)) → AllByRecursion (IsThere files grounded) es → IsIn expr (exprs_in es) → IsKept files expr
  in_kept expr [] at is = absurd is
  in_kept expr (e ∷ es) at (inl same) = (e.0, record { file = e.1; at = at.0; of = sym same })
  in_kept expr (e ∷ es) at (inr more) = in_kept expr es at.1 more

  in_apart : (es : List (ℕ × KeptFile)) → is_sorted nat_cmp es ≡ true → AllByRecursion (IsThere files grounded) es → AreApart (exprs_in es)
  in_apart [] sorted at = tt
  in_apart (e ∷ es) sorted at =
      let b = both_true (below_all nat_cmp e.0 es) (is_sorted nat_cmp es) sorted in
      (not_in e.1.expr es (apart_exprs files grounded e es at.0 b.0 at.1), in_apart es b.1 at.1)

  sorted : is_sorted nat_cmp (entries files) ≡ true
  sorted = told _ (entries_sorted files)

  each_there : AllByRecursion (IsThere files grounded) (entries files)
  each_there = all_there files grounded (entries files) sorted (λ number file found. get-entries files number ∙ found)

  exprs_apart : AreApart (exprs_of files)
  exprs_apart = in_apart (entries files) sorted each_there

  exprs_kept : (expr : Expr) → IsIn expr (exprs_of files) → IsKept files expr
  exprs_kept expr is = in_kept expr (entries files) each_there is

kept_exprs : (files : Files) (expr : Expr) → IsKept files expr → IsIn expr (exprs_of files)
kept_exprs files expr kept =
    subst (λ x. IsIn x (exprs_of files)) kept.1.of
    (found_in kept.0 kept.1.file (entries files) (sym (get-entries files kept.0) ∙ kept.1.at))

-- the files of an engine are those of the parts of the live plans, each once
pub exprs_same : (e : EngineState) (h : History) → Follows e h → Shares e.subscriptions e.table → AreTheSame (exprs_of e.table.files) (closure (language_of e.handed) h)
exprs_same e h f shares =
    let language = language_of e.handed in
    let plans = plans_are e.handed h (live h) e.subscriptions f.subscriptions in
    record {
      apart = exprs_apart e.table.files shares.facts.grounded;
      others_apart = apart_closure language h;
      there = λ expr is. (in_closure language h expr).1
          (subst (IsPartOfOne expr) plans ((shares.kept expr).0 (exprs_kept e.table.files shares.facts.grounded expr is)));
      back = λ expr is. kept_exprs e.table.files expr
          ((shares.kept expr).1 (subst (IsPartOfOne expr) (sym plans) ((in_closure language h expr).0 is)));
    }

pairwise_length : {A B : Type 0} (R : A → B → Type 0) (xs : List A) (ys : List B) → Pairwise R xs ys → length xs ≡ length ys
pairwise_length R [] [] p = refl
pairwise_length R [] (y ∷ ys) p = absurd p
pairwise_length R (x ∷ xs) [] p = absurd p
pairwise_length R (x ∷ xs) (y ∷ ys) p = let rest = pairwise_length R xs ys p.1 in omega arith

-- So what an engine counts is what a report tells of the history.
pub summary_is : (e : EngineState) (h : History) → Follows e h → Shares e.subscriptions e.table → (s : Summary) → IsSummary e s → s ≡ summary (language_of e.handed) h
summary_is e h f shares s is =
    let same = exprs_same e h f shares in
    let queries = is.queries ∙ sym (pairwise_length (Keeps e.handed h) (live h) e.subscriptions f.subscriptions) in
    let sources = is.sources ∙ sym (length-map e.store.sources content_of) ∙ ap length f.sources in
    let changes = is.changes ∙ f.changes in
    let files = is.files ∙ len-entries e.table.files ∙ sym (length-map (entries e.table.files) (λ entry. entry.1))
    ∙ sym (length-map (map (λ entry. entry.1) (entries e.table.files)) (λ file. file.expr))
    ∙ same_length (exprs_of e.table.files) (closure (language_of e.handed) h) same in
    let groups = one_list (exprs_of e.table.files) (closure (language_of e.handed) h) s.groups same is.groups in
    λ i. record { queries = queries i; sources = sources i; changes = changes i; files = files i; groups = groups i }
