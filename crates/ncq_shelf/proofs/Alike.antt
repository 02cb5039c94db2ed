-- Files that differ in their uses alone.
use Rattle.std.proofs.Common.{◌≡◌, ℕ, Some, inl, inr, length, refl, sym, ap, ◌∙◌, subst}
use Rattle.std.proofs.lemmas.Bool.{cases_eq}
use Rattle.std.specs.FinMap.{get, insert}
use Rattle.std.specs.List.{AllByRecursion}
use Rattle.ncq_plan.specs.Exprs.{expr_width}
use Rattle.ncq_shelf.specs.Contents.{IsWide}
use Rattle.ncq_plan.specs.declared.expr.Expr.{Expr}
use Rattle.ncq_shelf.specs.Parts.{IsInput}
use Rattle.ncq_shelf.specs.KeptFiles.{KeptFile, Files}
use Rattle.ncq_shelf.specs.Stands.{Stands, IsReadIn, IsGrounded}
use Rattle.ncq_shelf.proofs.Maps.{put_same, put_other, one_value}

-- the file of this number is there, with the expression and the content of another
pub record HasAlike (files : Files) (number : ℕ) (like : KeptFile) : Type 0 where
  pub file : KeptFile
  pub at : get files number ≡ Some file
  pub expr : file.expr ≡ like.expr
  pub content : file.content ≡ like.content

abbrev pub HasAll : Files → Files → Type 0
HasAll less more = (number : ℕ) (file : KeptFile) → get less number ≡ Some file → HasAlike more number file

module _ (less more : Files) (has : HasAll less more) where
  pub stands_alike : {expr : Expr} {number : ℕ} → Stands less expr number → Stands more expr number
  stands_alike {number = number} s = let a = has number s.file s.at in record { file = a.file; at = a.at; of = a.expr ∙ s.of }

  pub read_alike : {expr : Expr} → IsReadIn less expr → IsReadIn more expr
  read_alike {expr} r = let a = has r.reader r.file r.at in record { reader = r.reader; file = a.file; at = a.at; reads = subst (λ e. IsInput expr e) (sym a.expr) r.reads }

pub grounded_alike : (old new : Files) → HasAll old new → HasAll new old → IsGrounded old → IsGrounded new
grounded_alike old new there back g = record {
  distinct = λ first second expr s t. g.distinct first second expr (stands_alike new old back s) (stands_alike new old back t);
  inputs = λ number file input at reads.
      let a = back number file at in
      let below = g.inputs number a.file input a.at (subst (λ e. IsInput input e) (sym a.expr) reads) in
      (below.0, below.1, stands_alike old new there below.2);
}

module _ (files : Files) (number : ℕ) (file : KeptFile) (at : get files number ≡ Some file) (uses : ℕ) where
  pub uses_there : HasAll files (insert files number (record file { uses = uses }))
  uses_there other state here = elim (cases_eq other number) [
    | inl same ↦
        let e : state ≡ file = one_value (subst (λ n. get files n ≡ Some state) same here) at in
        record { file = record file { uses = uses }; at = subst (λ n. get (insert files number (record file { uses = uses })) n ≡ Some (record file { uses = uses })) (sym same) (put_same files number _); expr = ap (λ f. f.expr) (sym e); content = ap (λ f. f.content) (sym e) }
    | inr differs ↦ record { file = state; at = put_other files number _ other differs ∙ here; expr = refl; content = refl }
  ]

  pub uses_back : HasAll (insert files number (record file { uses = uses })) files
  uses_back other state here = elim (cases_eq other number) [
    | inl same ↦
        let e : state ≡ record file { uses = uses } = one_value (subst (λ n. get (insert files number (record file { uses = uses })) n ≡ Some state) same here) (put_same files number _) in
        record { file = file; at = subst (λ n. get files n ≡ Some file) (sym same) at; expr = ap (λ f. f.expr) (sym e); content = ap (λ f. f.content) (sym e) }
    | inr differs ↦ record { file = state; at = sym (put_other files number _ other differs) ∙ here; expr = refl; content = refl }
  ]

-- a file of the same expression and content has the same widths
pub wide_alike : (file other : KeptFile) → file.expr ≡ other.expr → file.content ≡ other.content → IsWide file → IsWide other
wide_alike file other e c w = subst (λ x. AllByRecursion (λ r. length r.row ≡ expr_width x) other.content.rows) e (subst (λ m. AllByRecursion (λ r. length r.row ≡ expr_width file.expr) m.rows) c w)
