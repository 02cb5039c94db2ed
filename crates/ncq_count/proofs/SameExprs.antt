-- Files that change and keep their expressions: their groups are counted as before.
use Rattle.std.proofs.Common.{◌≡◌, ℕ, Some, None, Option, inl, inr, refl, sym, ap, ◌∙◌, subst}
use Rattle.std.specs.Option.{option_map}
use Rattle.std.specs.FinMap.{get, insert}
use Rattle.std.proofs.lemmas.Bool.{cases_eq}
use Rattle.ncq_plan.specs.declared.expr.Expr.{Expr}
use Rattle.ncq_signature.specs.Groups.{count_of}
use Rattle.ncq_shelf.specs.KeptFiles.{KeptFile, Files}
use Rattle.ncq_shelf.specs.Stands.{Stands}
use Rattle.ncq_shelf.specs.Contents.{cut_to}
use Rattle.ncq_shelf.proofs.CallerLemmas.{put_same, put_other, there, one_value}
use Rattle.ncq_count.specs.Counted.{AreCounted}
use Rattle.ncq_count.proofs.Tallies.{expr_at, same_exprs}
use Rattle.ncq_count.proofs.TellLaws.{tells_more}
use Rattle.ncq_count.proofs.CountLaws.{Counts}

-- the files have the same numbers, and at each the same expression
abbrev pub HaveSameExprs : Files → Files → Type 0
HaveSameExprs old new = (number : ℕ) → expr_at (get new number) ≡ expr_at (get old number)

stands_by : (old new : Files) → HaveSameExprs old new → (number : ℕ) (expr : Expr) → Stands old expr number → Stands new expr number
stands_by old new same number expr s = elim (get new number) as (λ o. get new number ≡ o → Stands new expr number) [
  | Some file ↦ λ at. record { file = file; at = at; of = one_value refl (sym (ap expr_at at) ∙ same number ∙ ap expr_at s.at) ∙ s.of }
  | None ↦ λ none. absurd (there (same number ∙ ap expr_at s.at) (ap expr_at none))
] refl

-- the counts that were right are right
pub counted_again : (old new : Files) → HaveSameExprs old new → (counts : Counts) → AreCounted old counts → AreCounted new counts
counted_again old new same counts counted = record {
  some = counted.some;
  tells = λ key count at. let t = counted.tells key count at in (t.0, tells_more old new (stands_by old new same) key t.0 t.1);
  right = λ key s told.
      counted.right key s (tells_more new old (stands_by new old (λ number. sym (same number))) key s told)
      ∙ ap (λ xs. count_of xs s) (sym (same_exprs new old same));
}

-- one file is another of the same expression
pub one_changed : (old new : Files) (number : ℕ) (file next : KeptFile) → get old number ≡ Some file → next.expr ≡ file.expr → new ≡ insert old number next → HaveSameExprs old new
one_changed old new number file next at same put = subst (HaveSameExprs old) (sym put) (λ other. elim (cases_eq other number) [
  | inl is ↦ subst (λ n. expr_at (get (insert old number next) n) ≡ expr_at (get old n)) (sym is) (ap expr_at (put_same old number next) ∙ ap Some same ∙ sym (ap expr_at at))
  | inr differs ↦ ap expr_at (put_other old number next other differs)
])

-- each file lost rows
pub all_cut : (old new : Files) (change : ℕ) → ((number : ℕ) → get new number ≡ option_map (cut_to change) (get old number)) → HaveSameExprs old new
all_cut old new change cut number = ap expr_at (cut number) ∙ by (get old number)
  where
    by : (o : Option KeptFile) → expr_at (option_map (cut_to change) o) ≡ expr_at o
    by (Some file) = refl
    by None = refl
