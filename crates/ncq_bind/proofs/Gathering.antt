-- One pattern of a match more.
use Rattle.std.proofs.Common.{◌≡◌, ℕ, suc, ◌+◌, ◌<◌, List, [], ◌∷◌, ◌++◌, length, map, get_or, take, drop, sym, ap, ◌∙◌, arith, append_assoc}
use Rattle.std.specs.List.{flat_map}
use Rattle.std.proofs.lemmas.List.{take_more, flat_map_more}
use Rattle.std.proofs.Math.Seq.{drop-cons}
use Rattle.std.proofs.lemmas.List.Folds.{flat_map-map}
use Rattle.ncq_xmlql.specs.declared.model.Operand.{Operand}
use Rattle.ncq_xmlql.specs.declared.model.Pattern.{Pattern}
use Rattle.ncq_bind.specs.Places.{places}
use Rattle.ncq_bind.specs.Answers.{QueryArm, arm_of, places_of}

pub drop_more : (source : List ℕ) (ps : List Pattern) (i : ℕ) (p : Pattern) (rest : List QueryArm) → i < length ps → p ≡ get_or ps i p
    → arm_of source p ∷ (map (arm_of source) (drop (i + 1) ps) ++ rest) ≡ map (arm_of source) (drop i ps) ++ rest
drop_more source ps i p rest h e =
    let next : i + 1 ≡ suc i = omega arith in
    ap (λ n. arm_of source p ∷ (map (arm_of source) (drop n ps) ++ rest)) next
    ∙ sym (ap (λ v. map (arm_of source) v ++ rest) (drop-cons ps i p h ∙ ap (λ x. x ∷ drop (suc i) ps) (sym e)))

pub places_more : (source : List ℕ) (before : List Operand) (ps : List Pattern) (i : ℕ) (p : Pattern) → i < length ps → p ≡ get_or ps i p
    → (before ++ places_of (map (arm_of source) (take i ps))) ++ places p ≡ before ++ places_of (map (arm_of source) (take (i + 1) ps))
places_more source before ps i p h e =
    append_assoc before (places_of (map (arm_of source) (take i ps))) (places p)
    ∙ ap (λ v. before ++ v)
    (ap (λ v. v ++ places p) (flat_map-map (λ (arm : QueryArm). places arm.pattern) (arm_of source) (take i ps))
    ∙ flat_map_more places [] (take i ps) p
    ∙ ap (flat_map places) (ap (λ x. take i ps ++ x ∷ []) e ∙ sym (take_more ps i p h))
    ∙ sym (flat_map-map (λ (arm : QueryArm). places arm.pattern) (arm_of source) (take (i + 1) ps)))

pub append_three : {A : Type 0} (a b c d : List A) → ((a ++ b) ++ c) ++ d ≡ a ++ (b ++ (c ++ d))
append_three a b c d = append_assoc (a ++ b) c d ∙ append_assoc a b (c ++ d)
