-- What was written behind what stood there.
use Rattle.std.proofs.Common.{◌≡◌, ℕ, ◌+◌, ◌<◌, ◌≤◌, List, [], ◌∷◌, ◌++◌, length, take, drop, get_or, refl, sym, ◌∙◌, ap, subst, append_assoc, append-nil}
use Rattle.std.specs.List.{flat_map}
use Rattle.std.proofs.Math.Seq.{take-append_seam}
use Rattle.std.proofs.lemmas.List.{take-append-drop, at_drop_more, at_drop_all}

-- what stands in front of what stays in front stays in front
pub front_kept : (out more after : List ℕ) → take (length (out ++ more)) after ≡ out ++ more → take (length out) after ≡ out
front_kept out more after kept =
    ap (take (length out)) (sym (take-append-drop (length (out ++ more)) after) ∙ ap (λ xs. xs ++ drop (length (out ++ more)) after) kept ∙ append_assoc out more (drop (length (out ++ more)) after))
    ∙ take-append_seam out (more ++ drop (length (out ++ more)) after)

pub front_still : (out more before after : List ℕ) → before ≡ out ++ more → take (length before) after ≡ before → take (length out) after ≡ out
front_still out more before after is kept = front_kept out more after (subst (λ xs. take (length xs) after ≡ xs) is kept)

-- what a text is written behind stands in front
pub front_written : (out more after : List ℕ) → after ≡ out ++ more → take (length out) after ≡ out
front_written out more after is = ap (take (length out)) is ∙ take-append_seam out more

-- what stays in front of what stays in front does so too
pub front_again : (out before after : List ℕ) → take (length out) before ≡ out → take (length before) after ≡ before → take (length out) after ≡ out
front_again out before after first second = front_still out (drop (length out) before) before after (sym (take-append-drop (length out) before) ∙ ap (λ xs. xs ++ drop (length out) before) first) second

-- a loop that writes a text byte by byte: what is left decides
module _ (text whole : List ℕ) (i : ℕ) where
  pub step_written : (F G : List ℕ → List ℕ) (before wrote after : List ℕ) → i < length text → F (get_or text i 0 ∷ drop (i + 1) text) ≡ wrote ++ G (drop (i + 1) text) → before ++ F (drop i text) ≡ whole → after ≡ before ++ wrote → after ++ G (drop (i + 1) text) ≡ whole
  step_written F G before wrote after here step left more =
      ap (λ xs. xs ++ G (drop (i + 1) text)) more
      ∙ append_assoc before wrote (G (drop (i + 1) text))
      ∙ ap (λ xs. before ++ xs) (sym (at_drop_more F text i 0 here ∙ step))
      ∙ left

  pub end_written : (F : List ℕ → List ℕ) (last : List ℕ) → length text ≤ i → last ++ F (drop i text) ≡ whole → last ++ F [] ≡ whole
  end_written F last end left = ap (λ xs. last ++ xs) (sym (at_drop_all F text i end)) ∙ left

  -- it writes what f says of each byte
  module _ (f : ℕ → List ℕ) where
    pub turn_written : (before after : List ℕ) → i < length text → before ++ flat_map f (drop i text) ≡ whole → after ≡ before ++ f (get_or text i 0) → after ++ flat_map f (drop (i + 1) text) ≡ whole
    turn_written before after here left more = step_written (flat_map f) (flat_map f) before (f (get_or text i 0)) after here refl left more

    pub all_written : (last : List ℕ) → length text ≤ i → last ++ flat_map f (drop i text) ≡ whole → last ≡ whole
    all_written last end left = sym (append-nil last) ∙ end_written (flat_map f) last end left

-- texts, one behind the other
pub two_written : (out a b one two : List ℕ) → one ≡ out ++ a → two ≡ one ++ b → two ≡ out ++ (a ++ b)
two_written out a b one two p q = q ∙ ap (λ xs. xs ++ b) p ∙ append_assoc out a b

module _ (out a b c one two three : List ℕ) (p : one ≡ out ++ a) (q : two ≡ one ++ b) (r : three ≡ two ++ c) where
  pub three_written : three ≡ out ++ (a ++ b ++ c)
  three_written = r ∙ ap (λ xs. xs ++ c) (q ∙ ap (λ xs. xs ++ b) p) ∙ regroup out a b c
    where
      regroup : (out a b c : List ℕ) → ((out ++ a) ++ b) ++ c ≡ out ++ (a ++ b ++ c)
      regroup out a b c = simp append_assoc

  pub four_written : (d four : List ℕ) → four ≡ three ++ d → four ≡ out ++ (a ++ b ++ c ++ d)
  four_written d four s = s ∙ ap (λ xs. xs ++ d) three_written ∙ append_assoc out (a ++ b ++ c) d
