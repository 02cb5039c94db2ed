-- The words of a text, one after the other.
use Rattle.std.proofs.Common.{◌≡◌, ◌<◌, ◌++◌, ◌∙◌, ℕ, true, false, List, [], ◌∷◌, length, ap, sym, arith}
use Rattle.std.specs.Prelude.{All}
use Rattle.std.specs.List.{filter}
use Rattle.std.proofs.lemmas.List.{append-nil}
use Rattle.std.proofs.lemmas.List.Splits.{slice_split_at, slice_split_none, slice_split-cons_yes}
use Rattle.ncq_script.specs.Words.{is_blank, is_word, words, StartsWord, StartsBlank}

-- blanks in front tell nothing
pub words-blank : (b : ℕ) (text : List ℕ) → is_blank b ≡ true → words (b ∷ text) ≡ words text
words-blank b text blank = ap (filter is_word) (slice_split-cons_yes is_blank b text blank)

-- a word that ends at a blank, or at the end of the text
pub words-word : (b : ℕ) (word rest : List ℕ) → All (λ c. is_blank c ≡ false) (b ∷ word) → StartsBlank rest → words ((b ∷ word) ++ rest) ≡ (b ∷ word) ∷ words rest
words-word b word [] clean starts = ap words (append-nil (b ∷ word)) ∙ ap (filter is_word) (slice_split_none is_blank (b ∷ word) clean)
words-word b word (c ∷ rest) clean starts =
    ap (filter is_word) (slice_split_at is_blank (b ∷ word) c rest clean starts) ∙ ap (λ (ws : List (List ℕ)). (b ∷ word) ∷ ws) (sym (words-blank c rest starts))

-- the first word of a text that begins with one
pub words-cut : (text word rest : List ℕ) → text ≡ word ++ rest → 0 < length text → StartsWord text → All (λ c. is_blank c ≡ false) word → StartsBlank rest → words text ≡ word ∷ words rest
words-cut text [] [] cut some starts clean blank = absurd (omega (arith, ap length cut))
words-cut text [] (c ∷ rest) cut some starts clean blank =
    let word_in_front : is_blank c ≡ false = rw cut at starts in
    let bad : true ≡ false = sym blank ∙ word_in_front in cc
words-cut text (b ∷ word) rest cut some starts clean blank = ap words cut ∙ words-word b word rest clean blank
