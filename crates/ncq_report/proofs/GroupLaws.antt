-- Expressions that are the same in another order have the same signatures, and as many of each.
use Rattle.std.proofs.Common.{◌≡◌, Bool, true, cond, ◌||◌, List, [], ◌∷◌, map, refl, sym, ap, ◌∙◌, subst}
use Rattle.std.specs.List.{IsDistinct, list_any}
use Rattle.std.proofs.lemmas.Bool.{false_from_ne_true}
use Rattle.ncq_base.specs.Counts.{SameCounts, total_by}
use Rattle.ncq_base.specs.Exact.{exact_is, exact_itself}
use Rattle.ncq_base.proofs.CountLaws.{counts-filter, counts-length, counts-map}
use Rattle.ncq_plan.proofs.ExprListLaws.{any_in, in_any}
use Rattle.ncq_plan.specs.ExprLists.{AreApart, is_expr}
use Rattle.ncq_plan.specs.declared.expr.Expr.{Expr}
use Rattle.ncq_plan.specs.contracts.expr.Expr.{the_row as expr_row}
use Rattle.ncq_signature.specs.declared.signature.Signature.{Signature}
use Rattle.ncq_signature.specs.contracts.signature.Signature.{the_row as signature_row}
use Rattle.ncq_signature.specs.Groups.{is_signature, is_of_selections, count_of, line_of, AreSignaturesOf}
use Rattle.ncq_signature.specs.Signatures.{signature_of}
use Rattle.ncq_signature.specs.SignatureTexts.{signature_text}
use Rattle.ncq_report.specs.Lines.{AreTheSame, signatures_in}
use Rattle.ncq_report.proofs.DistinctLaws.{alike, each_fails, one_passes, any_counts, distinct_counts, distinct_with, any_with}

expr_is : (a b : Expr) → is_expr a b ≡ true → a ≡ b
expr_is = exact_is expr_row.coded

expr_itself : (a : Expr) → is_expr a a ≡ true
expr_itself = exact_itself expr_row.coded

signature_is : (s t : Signature) → is_signature s t ≡ true → s ≡ t
signature_is = exact_is signature_row.coded

signature_itself : (s : Signature) → is_signature s s ≡ true
signature_itself = exact_itself signature_row.coded

distinct : (list : List Expr) → AreApart list → IsDistinct is_expr list
unfolding IsDistinct
distinct [] apart = tt
distinct (expr ∷ list) apart =
    (each_fails (is_expr expr) list (false_from_ne_true _ (λ some. apart.0 (in_any expr list some))), distinct list apart.1)

-- the two lists are the same in another order
pub same_exprs : (exprs others : List Expr) → AreTheSame exprs others → SameCounts exprs others
same_exprs exprs others same = distinct_counts is_expr expr_is expr_itself exprs others (distinct exprs same.apart) (distinct others same.others_apart) (λ expr.
    alike _ _
    (λ some. any_in expr others (same.there expr (in_any expr exprs some)))
    (λ some. any_in expr exprs (same.back expr (in_any expr others some))))

-- whether an expression has the signature
abbrev has : Signature → Expr → Bool
has s expr = is_signature s (signature_of expr)

signatures_distinct : (exprs : List Expr) → IsDistinct is_signature (signatures_in exprs)
unfolding IsDistinct
signatures_distinct [] = tt
signatures_distinct (expr ∷ exprs) = distinct_with is_signature signature_is signature_itself (signature_of expr) (signatures_in exprs) (signatures_distinct exprs)

signatures_had : (s : Signature) (exprs : List Expr) → list_any (is_signature s) (signatures_in exprs) ≡ list_any (has s) exprs
signatures_had s [] = refl
signatures_had s (expr ∷ exprs) =
    any_with is_signature signature_is signature_itself s (signature_of expr) (signatures_in exprs)
    ∙ ap (λ (t : Bool). is_signature s (signature_of expr) || t) (signatures_had s exprs)

listed_had : (exprs : List Expr) (signatures : List Signature) → AreSignaturesOf exprs signatures → (s : Signature) → list_any (is_signature s) signatures ≡ list_any (has s) exprs
listed_had exprs signatures are s = alike _ _
    (λ some.
    let one = one_passes _ (is_signature s) signatures are.only some in
    subst (λ t. list_any (has t) exprs ≡ true) (sym (signature_is s one.0 one.1)) one.2)
    (λ some.
    let one = one_passes _ (has s) exprs are.each some in
    subst (λ t. list_any (is_signature t) signatures ≡ true) (sym (signature_is s (signature_of one.0) one.1)) one.2)

module _ (exprs others : List Expr) (same : SameCounts exprs others) where
  had_alike : (s : Signature) → list_any (has s) exprs ≡ list_any (has s) others
  had_alike s = any_counts (has s) exprs others same

  count_alike : (s : Signature) → count_of exprs s ≡ count_of others s
  count_alike s = counts-length _ _ (counts-filter (has s) exprs others same)

  -- so the lines are the same in another order
  pub lines_alike : (signatures : List Signature) → AreSignaturesOf exprs signatures → SameCounts (map (line_of exprs) signatures) (map (line_of others) (signatures_in others))
  lines_alike signatures are f =
      counts-map (line_of exprs) signatures (signatures_in others)
      (distinct_counts is_signature signature_is signature_itself signatures (signatures_in others) are.once (signatures_distinct others)
      (λ s. listed_had exprs signatures are s ∙ had_alike s ∙ sym (signatures_had s others)))
      f
      ∙ (λ i. total_by f (map (λ s. record { text = signature_text s; constants = cond (is_of_selections s) (count_alike s i) 0 }) (signatures_in others)))
