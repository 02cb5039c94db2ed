-- A plain word is no flag: where nothing waits for a value, it goes to the positional at hand.
use Rattle.std.proofs.Common.{◌≡◌, ◌∙◌, ap, ap₂, sym, ℕ, Bool, true, false, cond, eqb, ◌&&◌, List, [], ◌∷◌, Option, Some, None, true≢false}
use Rattle.std.specs.Option.{option_map_or}
use Rattle.std.specs.Prelude.{option_and_then}
use Rattle.std.specs.Str.{bytes_eq}
use Rattle.clap.specs.Lexer.{long_of_rest, short_of_rest, strip_byte}
use Rattle.clap.specs.Walk.{Held, Rule, Text, Walk, after_step, arg_by_index, idle, long_or_other, short_or_plain, to_positional, trailing, value, walked, word_met}
use Rattle.clap.specs.Simple.{Shape}
use Rattle.clap.specs.Kinds.{or_else}
use Rattle.clap.specs.Faults.{bundle_fault, flag_word_fault, step_fault, turn_fault, word_fault}
use Rattle.clap.proofs.SimpleLemmas.{is_false}
use Rattle.ncq_words.specs.Forms.{is_plain}

-- the walk at a position, where nothing waits
abbrev pub at : ℕ → Held → Walk
at position h = record {
  held = h;
  waiting = idle;
  position = position;
  is_trailing = false;
  stopped = None;
}

-- what stands behind a first `-`, where the test says whether the word has one
abbrev behind : Bool → Text → Option Text
behind is_dash bytes = cond is_dash (Some bytes) None

module _ (b : ℕ) (bytes : Text) (is_other : eqb b 45 ≡ false) where
  -- `--` is told from other words by its first byte too
  abbrev is_dashes : Bool → Bool
  is_dashes is_dash = is_dash && bytes_eq bytes (45 ∷ [])

  abbrev long_if : Bool → Option (Text × Option Text)
  long_if is_dash = option_and_then long_of_rest (option_and_then (strip_byte 45) (behind is_dash bytes))

  abbrev short_if : Bool → Option Text
  short_if is_dash = option_and_then short_of_rest (behind is_dash bytes)

  word_met-other : (c : List Rule) (position : ℕ) (h : Held) → word_met c [] false idle position (b ∷ bytes) h ≡ (h, value)
  word_met-other c position h =
      ap (λ is_dash. cond (is_dashes is_dash) (h, trailing position) (long_or_other c idle (b ∷ bytes) (long_if is_dash) h)) is_other
      ∙ ap (λ is_dash. short_or_plain c idle (b ∷ bytes) (short_if is_dash) h) is_other

  word_fault-other : (s : Shape) (h : Held) → word_fault s [] false idle (b ∷ bytes) h ≡ []
  word_fault-other s h =
      ap (λ is_dash. cond (is_dashes is_dash) [] (flag_word_fault s.rules s.args_override_self (long_if is_dash) (b ∷ bytes) h)) is_other
      ∙ ap (λ is_dash. option_map_or (λ flags. bundle_fault s.rules s.args_override_self flags h) (short_if is_dash) []) is_other

module _ (s : Shape) (position : ℕ) (h : Held) where
  pub walked-plain : (word : Text) → is_plain word ≡ true → walked s.rules [] (at position h) word ≡ to_positional s.rules (arg_by_index s.rules position) word (at position h) h
  unfolding walked
  walked-plain [] plain = absurd (true≢false (sym plain))
  walked-plain (b ∷ bytes) plain = ap (λ met. after_step s.rules (b ∷ bytes) (at position h) met.0 met.1) (word_met-other b bytes (is_false _ plain) s.rules position h)

  pub turn_fault-plain : (word : Text) → is_plain word ≡ true → turn_fault s [] (at position h) word ≡ step_fault s position h value
  turn_fault-plain [] plain = absurd (true≢false (sym plain))
  turn_fault-plain (b ∷ bytes) plain =
      ap₂ (λ kinds met. or_else kinds (step_fault s position met.0 met.1)) (word_fault-other b bytes (is_false _ plain) s h) (word_met-other b bytes (is_false _ plain) s.rules position h)
