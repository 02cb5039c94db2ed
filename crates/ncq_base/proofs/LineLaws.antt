-- Laws of lines in one text.
use Rattle.std.proofs.Common.{◌≡◌, ◌++◌, ◌∙◌, inl, inr, ℕ, false, List, [], ◌∷◌, ap, refl, sym, append_assoc, append-nil}
use Rattle.std.specs.Prelude.{All, Result, Ok, Err, OnOk, OnErr}
use Rattle.std.proofs.lemmas.Bool.{cases_Bool}
use Rattle.std.proofs.lemmas.Result.{on_ok_weaker}
use Rattle.std.proofs.lemmas.List.Concat.{flat_map-append}
use Rattle.std.proofs.lemmas.List.Elements.{All-nil, All-cons, All-push, All-head, All-tail}
use Rattle.ncq_base.specs.Lines.{is_feed, IsClean, ended, text_of, in_front, lines_in}

abbrev Clean : ℕ → Type 0
Clean b = is_feed b ≡ false

-- the first line of a text and those behind it
pub lines_in-cut : (front rest : List ℕ) → IsClean front → lines_in (front ++ 10 ∷ rest) ≡ front ∷ lines_in rest
lines_in-cut [] rest clean = refl
lines_in-cut (b ∷ front) rest clean =
    rw (All-head Clean b front clean) (ap (in_front b) (lines_in-cut front rest (All-tail Clean b front clean)))

-- no line feed, no line
pub lines_in-clean : (text : List ℕ) → IsClean text → lines_in text ≡ []
lines_in-clean [] clean = refl
lines_in-clean (b ∷ text) clean =
    rw (All-head Clean b text clean) (ap (in_front b) (lines_in-clean text (All-tail Clean b text clean)))

-- the lines of the text of lines are these
pub lines_in-text_of : (lines : List (List ℕ)) → All IsClean lines → lines_in (text_of lines) ≡ lines
lines_in-text_of [] clean = refl
lines_in-text_of (line ∷ lines) clean =
    ap lines_in (append_assoc line (10 ∷ []) (text_of lines))
    ∙ lines_in-cut line (text_of lines) (All-head IsClean line lines clean)
    ∙ ap (λ (ls : List (List ℕ)). line ∷ ls) (lines_in-text_of lines (All-tail IsClean line lines clean))

front_clean : (b : ℕ) (lines : List (List ℕ)) → is_feed b ≡ false → All IsClean lines → All IsClean (in_front b lines)
front_clean b [] none clean = All-nil IsClean
front_clean b (line ∷ lines) none clean =
    All-cons IsClean (b ∷ line) lines (All-cons Clean b line none (All-head IsClean line lines clean)) (All-tail IsClean line lines clean)

-- no line has a line feed
pub are_clean : (text : List ℕ) → All IsClean (lines_in text)
are_clean [] = All-nil IsClean
are_clean (b ∷ text) =
    elim (cases_Bool (is_feed b)) [
      | inl feed ↦ rw feed (All-cons IsClean [] (lines_in text) (All-nil Clean) (are_clean text))
      | inr none ↦ rw none (front_clean b (lines_in text) none (are_clean text))
    ]

-- a line more, and the text stays one of lines
module _ (text line : List ℕ) (is : text ≡ text_of (lines_in text)) (clean : IsClean line) where
  text_more : (more : List ℕ) → more ≡ text ++ ended line → more ≡ text_of (lines_in text ++ line ∷ [])
  text_more more written =
      written ∙ ap (λ (t : List ℕ). t ++ ended line) is
      ∙ ap (λ (t : List ℕ). text_of (lines_in text) ++ t) (sym (append-nil (ended line)))
      ∙ sym (flat_map-append ended (lines_in text) (line ∷ []))

  lines_more : (more : List ℕ) → more ≡ text ++ ended line → lines_in more ≡ lines_in text ++ line ∷ []
  lines_more more written =
      ap lines_in (text_more more written)
      ∙ lines_in-text_of (lines_in text ++ line ∷ []) (All-push IsClean (lines_in text) line (are_clean text) clean)

  -- so is what a call that may fail leaves
  module _ {T E : Type 0} (more : List ℕ) where
    pub line_pushed : (result : Result T E) → OnOk result (more ≡ text ++ ended line) → OnOk result (lines_in more ≡ lines_in text ++ line ∷ [])
    line_pushed result ok = on_ok_weaker result (lines_more more) ok

    pub stays_text : (result : Result T E) → OnOk result (more ≡ text ++ ended line) → OnErr result (more ≡ text) → more ≡ text_of (lines_in more)
    stays_text (Ok x) ok err = text_more more ok ∙ ap text_of (sym (lines_more more ok))
    stays_text (Err e) ok err = err ∙ is ∙ ap (λ (t : List ℕ). text_of (lines_in t)) (sym err)
