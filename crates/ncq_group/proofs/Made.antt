-- The rows that are made for the parts of an expression without files.
use Rattle.std.proofs.Common.{◌≡◌, ◌≢◌, ℕ, ◌+◌, ◌≤◌, List, [], ◌∷◌, ◌++◌, length, inl, inr, Some, subst, arith}
use Rattle.std.specs.List.{AllByRecursion}
use Rattle.std.specs.FinMap.{get}
use Rattle.ncq_plan.specs.ExprLists.{AreApart, IsIn}
use Rattle.ncq_plan.specs.declared.expr.Expr.{Expr}
use Rattle.ncq_plan.proofs.ExprListLaws.{in_either, without_one}
use Rattle.ncq_plan.specs.Exprs.{World, rows_in}
use Rattle.ncq_shelf.specs.Parts.{IsPart}
use Rattle.ncq_shelf.specs.Parts.IsPart.{itself}
use Rattle.ncq_shelf.specs.KeptFiles.{KeptFile, Files}
use Rattle.ncq_shelf.specs.Stands.{Stands}
use Rattle.ncq_group.specs.Closure.{IsKept}
use Rattle.ncq_group.specs.Installs.{NamesTheMissing, rows_of_all}
use Rattle.ncq_group.specs.Grown.{HasMade}
use Rattle.ncq_group.proofs.Collects.{stands_more}

all_map : {A : Type 0} (P Q : A → Type 0) → ((x : A) → P x → Q x) → (xs : List A) → AllByRecursion P xs → AllByRecursion Q xs
all_map P Q f [] all = tt
all_map P Q f (x ∷ xs) all = (f x all.0, all_map P Q f xs all.1)

all_append : {A : Type 0} (P : A → Type 0) (xs ys : List A) → AllByRecursion P xs → AllByRecursion P ys → AllByRecursion P (xs ++ ys)
all_append P [] ys all more = more
all_append P (x ∷ xs) ys all more = (all.0, all_append P xs ys all.1 more)

Stays : Files → Files → Type 0
Stays less more = (number : ℕ) (file : KeptFile) → get less number ≡ Some file → get more number ≡ Some file

pub kept_more : (less more : Files) → ((number : ℕ) (file : KeptFile) → get less number ≡ Some file → get more number ≡ Some file) → (expr : Expr) → IsKept less expr → IsKept more expr
kept_more less more stays expr kept = (kept.0, stands_more stays kept.1)

pub all_kept_more : (less more : Files) → ((number : ℕ) (file : KeptFile) → get less number ≡ Some file → get more number ≡ Some file) → (list : List Expr) → AllByRecursion (IsKept less) list → AllByRecursion (IsKept more) list
all_kept_more less more stays list all = all_map (IsKept less) (IsKept more) (kept_more less more stays) list all

-- an expression with a file is none that has no file
apart_one : (files : Files) (expr : Expr) (list : List Expr) → IsKept files expr → AllByRecursion (λ e. IsKept files e → ⊥) list → IsIn expr list → ⊥
apart_one files expr [] kept unknown is = is
apart_one files expr (e ∷ list) kept unknown (inl same) = unknown.0 (subst (IsKept files) same kept)
apart_one files expr (e ∷ list) kept unknown (inr more) = apart_one files expr list kept unknown.1 more

apart_append : (files : Files) (list more : List Expr) → AreApart list → AllByRecursion (IsKept files) list → AreApart more → AllByRecursion (λ e. IsKept files e → ⊥) more → AreApart (list ++ more)
apart_append files [] more apart kept others unknown = others
apart_append files (e ∷ list) more apart kept others unknown = (
  λ is. elim (in_either e list more is) [
    | inl here ↦ apart.0 here
    | inr there ↦ apart_one files e more kept.0 unknown there
  ],
  apart_append files list more apart.1 kept.1 others unknown,
)

total_append : (world : World) (list more : List Expr) → rows_of_all world (list ++ more) ≡ rows_of_all world list + rows_of_all world more
total_append world [] more = omega arith
total_append world (e ∷ list) more = let h = total_append world list more in omega arith

-- what was made for the inputs has files, and the whole has one
pub kept_whole : (whole : Expr) (mid new : Files) (made : List Expr) → ((number : ℕ) (file : KeptFile) → get mid number ≡ Some file → get new number ≡ Some file) → AllByRecursion (IsKept mid) made → IsKept new whole → AllByRecursion (IsKept new) (made ++ whole ∷ [])
kept_whole whole mid new made stays kept stands = all_append (IsKept new) made (whole ∷ []) (all_kept_more mid new stays made kept) (stands, tt)

pub kept_both : (mid new : Files) (made more : List Expr) → ((number : ℕ) (file : KeptFile) → get mid number ≡ Some file → get new number ≡ Some file) → AllByRecursion (IsKept mid) made → AllByRecursion (IsKept new) more → AllByRecursion (IsKept new) (made ++ more)
kept_both mid new made more stays kept others = all_append (IsKept new) made more (all_kept_more mid new stays made kept) others

module _ (world : World) where
  -- nothing was made
  pub made_none : (whole : Expr) (old : Files) (steps : ℕ) → HasMade whole world old [] steps steps
  made_none whole old steps = record { apart = tt; parts = tt; unknown = tt; cost = omega arith }

  -- what was made for an inner expression was made for the whole
  pub made_within : (inner whole : Expr) (old : Files) (made : List Expr) (before after : ℕ) → ((e : Expr) → IsPart e inner → IsPart e whole) → HasMade inner world old made before after → HasMade whole world old made before after
  made_within inner whole old made before after parts h = record { apart = h.apart; parts = all_map (λ part. IsPart part inner) (λ part. IsPart part whole) parts made h.parts; unknown = h.unknown; cost = h.cost }

  -- what was made first, and then more
  pub made_then : (whole : Expr) (old mid : Files) (made more : List Expr) (before middle after : ℕ) → ((number : ℕ) (file : KeptFile) → get old number ≡ Some file → get mid number ≡ Some file)
      → HasMade whole world old made before middle → AllByRecursion (IsKept mid) made → HasMade whole world mid more middle after → HasMade whole world old (made ++ more) before after
  made_then whole old mid made more before middle after stays h kept g = record {
    apart = apart_append mid made more h.apart kept g.apart g.unknown;
    parts = all_append (λ part. IsPart part whole) made more h.parts g.parts;
    unknown = all_append (λ part. IsKept old part → ⊥) made more h.unknown (all_map (λ e. IsKept mid e → ⊥) (λ e. IsKept old e → ⊥) (λ e none k. none (kept_more old mid stays e k)) more g.unknown);
    cost = let e = total_append world made more in let a = h.cost in let b = g.cost in omega arith;
  }

  -- the rows of one expression were made
  pub made_one : (whole : Expr) (old : Files) (before after : ℕ) → ((number : ℕ) → Stands old whole number → ⊥) → after ≤ before + length (rows_in whole world) → HasMade whole world old (whole ∷ []) before after
  made_one whole old before after none cost = record {
    apart = (λ is. is, tt);
    parts = (itself, tt);
    unknown = (λ kept. none kept.0 kept.1, tt);
    cost = omega arith;
  }

  -- what was made for the inputs, and then the rows of the whole
  pub made_whole : (whole : Expr) (old mid : Files) (made : List Expr) (before middle after : ℕ) → ((number : ℕ) (file : KeptFile) → get old number ≡ Some file → get mid number ≡ Some file)
      → HasMade whole world old made before middle → AllByRecursion (IsKept mid) made → ((number : ℕ) → Stands mid whole number → ⊥) → after ≤ middle + length (rows_in whole world)
      → HasMade whole world old (made ++ whole ∷ []) before after
  made_whole whole old mid made before middle after stays h kept none cost = made_then whole old mid made (whole ∷ []) before middle after stays h kept (made_one whole mid middle after none cost)

  all_named : (expr : Expr) (made list rest : List Expr) → ((other : Expr) → IsIn other list → expr ≢ other → IsIn other rest) → (IsIn expr made → ⊥) → AllByRecursion (λ e. IsIn e list) made → AllByRecursion (λ e. IsIn e rest) made
  all_named expr [] list rest less apart all = tt
  all_named expr (e ∷ made) list rest less apart all = (less e all.0 (λ same. apart (inl same)), all_named expr made list rest less (λ is. apart (inr is)) all.1)

  apart_total : (made list : List Expr) → AreApart made → AllByRecursion (λ e. IsIn e list) made → rows_of_all world made ≤ rows_of_all world list
  apart_total [] list apart all = omega arith
  apart_total (e ∷ made) list apart all =
      let split = without_one (λ expr. length (rows_in expr world)) e list all.0 in
      let below = apart_total made split.0 apart.1 (all_named e made list split.0 split.2 apart.0 all.1) in
      let total = split.1 in
      omega arith

  named : (whole : Expr) (old : Files) (missing made : List Expr) → NamesTheMissing old whole missing → AllByRecursion (λ part. IsPart part whole) made → AllByRecursion (λ part. IsKept old part → ⊥) made → AllByRecursion (λ e. IsIn e missing) made
  named whole old missing [] names parts unknown = tt
  named whole old missing (e ∷ made) names parts unknown = (names e parts.0 unknown.0, named whole old missing made names parts.1 unknown.1)

  -- it costs at most the rows of any list that names each part without a file
  pub made_cost : (whole : Expr) (old : Files) (missing made : List Expr) (before after : ℕ) → HasMade whole world old made before after → NamesTheMissing old whole missing → after ≤ before + rows_of_all world missing
  made_cost whole old missing made before after h names =
      let t = apart_total made missing h.apart (named whole old missing made names h.parts h.unknown) in
      let c = h.cost in
      omega arith
