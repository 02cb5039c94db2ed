-- The text of a statement, against the lines of its block.
use Rattle.std.proofs.Common.{◌≡◌, ◌-◌, ◌++◌, ◌∙◌, arith, length, length-append, take, ℕ, List, [], ◌∷◌, ap, refl, sym, append_assoc}
use Rattle.std.specs.List.{flat_map}
use Rattle.std.proofs.Math.Seq.{take-append_seam}
use Rattle.ncq_base.specs.Lines.{text_of}
use Rattle.ncq_script.specs.Forms.{next_line}

-- the line feed behind the last line, in place of that in front of the first
fed : (block : List (List ℕ)) → flat_map next_line block ++ 10 ∷ [] ≡ 10 ∷ text_of block
fed [] = refl
fed (line ∷ block) =
    ap (λ (xs : List ℕ). 10 ∷ xs)
    (append_assoc line (flat_map next_line block) (10 ∷ []) ∙ ap (λ (xs : List ℕ). line ++ xs) (fed block) ∙ sym (append_assoc line (10 ∷ []) (text_of block)))

pub text_fed : (head : List ℕ) (block : List (List ℕ)) → (head ++ 10 ∷ []) ++ text_of block ≡ (head ++ flat_map next_line block) ++ 10 ∷ []
text_fed head block =
    append_assoc head (10 ∷ []) (text_of block) ∙ ap (λ (xs : List ℕ). head ++ xs) (sym (fed block)) ∙ sym (append_assoc head (flat_map next_line block) (10 ∷ []))

-- without the last byte
pub text_popped : (items out : List ℕ) (n : ℕ) → items ≡ out ++ 10 ∷ [] → n ≡ length items → take (n - 1) items ≡ out
text_popped items out n whole counted =
    let few : n - 1 ≡ length out = omega (arith, counted, ap length whole, length-append out (10 ∷ [])) in
    (λ i. take (few i) (whole i)) ∙ take-append_seam out (10 ∷ [])
