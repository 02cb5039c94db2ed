-- The output of commands, joined from the outputs of those in front and those behind.
use Rattle.std.proofs.Common.{◌≡◌, ◌+◌, ◌++◌, ℕ, List, [], ◌∷◌, length, drop, arith, sym, ◌∙◌, ap, append_assoc, Bool, true, false, suc, length-append, refl}
use Rattle.std.specs.Prelude.{Some, None, Option}
use Rattle.std.specs.Io.KnownBytes.{Appends}
use Rattle.std.proofs.KnownBytes.{Appends-nil, Appends-trans}
use Rattle.ncq_script.specs.Script.{script, whole_script, known_script}
use Rattle.ncq_script.specs.declared.command.Command.{Command}
use Rattle.ncq_script.proofs.CallerLemmas.{script_then}
use Rattle.ncq_engine.specs.History.{History}
use Rattle.ncq_engine.specs.Notices.{Language}
use Rattle.ncq_engine.specs.Alone.{notes, notices_of}
use Rattle.ncq_engine.specs.Output.{output, after, first_refusal, out_of, history_of, unless_refused}
use Rattle.ncq_engine.proofs.AloneLaws.{stands_alone}
use Rattle.ncq_run.specs.Output.{output_of, shown}
use Rattle.ncq_run.specs.Shown.{shown_answer, shown_of}
use Rattle.ncq_run.specs.Status.{AppendsPrefix, AppendsProperPrefix}

abbrev Script : Type 0
Script = List Command

-- what was done is in front of what this answer adds
pub stopped_later : (a b c : Option (List ℕ)) (all done piece later : List ℕ) → all ≡ done ++ (piece ++ later) → Appends a b done → AppendsProperPrefix b c piece → AppendsProperPrefix a c all
stopped_later a b c all done piece later e was p = (
  done ++ p.0,
  p.1 ++ later,
  e ∙ ap (λ (xs : List ℕ). done ++ (xs ++ later)) p.2 ∙ ap (λ (xs : List ℕ). done ++ xs) (append_assoc p.0 p.1 later) ∙ sym (append_assoc done p.0 (p.1 ++ later)),
  omega (arith, p.3, length-append p.1 later),
  Appends-trans a b c done p.0 was p.4,
)

-- the same for some front of it
pub stopped_front : (a b c : Option (List ℕ)) (all done piece later : List ℕ) → all ≡ done ++ (piece ++ later) → Appends a b done → AppendsPrefix b c piece → AppendsPrefix a c all
stopped_front a b c all done piece later e was p = (
  done ++ p.0,
  p.1 ++ later,
  e ∙ ap (λ (xs : List ℕ). done ++ (xs ++ later)) p.2 ∙ ap (λ (xs : List ℕ). done ++ xs) (append_assoc p.0 p.1 later) ∙ sym (append_assoc done p.0 (p.1 ++ later)),
  Appends-trans a b c done p.0 was p.3,
)

pub known_open : (limit limit' : ℕ) (finished : Bool) (bytes : List ℕ) → limit' ≡ limit → finished ≡ false → known_script limit' finished bytes ≡ whole_script limit bytes
known_open limit limit' true bytes e f = let bad : true ≡ false = f in cc
known_open limit limit' false bytes e f = ap (λ (n : ℕ). whole_script n bytes) e

pub known_closed : (limit limit' : ℕ) (finished : Bool) (bytes : List ℕ) → limit' ≡ limit → finished ≡ true → known_script limit' finished bytes ≡ script limit bytes
known_closed limit limit' true bytes e f = ap (λ (n : ℕ). script n bytes) e
known_closed limit limit' false bytes e f = let bad : false ≡ true = f in cc

pub known_same : (limit limit' : ℕ) (finished finished' : Bool) (bytes : List ℕ) → limit' ≡ limit → finished' ≡ finished → known_script limit' finished' bytes ≡ known_script limit finished bytes
known_same limit limit' finished finished' bytes e f = λ i. known_script (e i) (f i) bytes

-- what is shown of commands, one after the other
module _ (language : Language) where
  all_shown : (history : History) (number : ℕ) (commands : Script) → out_of language history number commands ≡ shown_of language None history number commands
  all_shown history number [] = refl
  all_shown history number (command ∷ more) = ap (λ (bytes : List ℕ). output language history number command ++ bytes) (all_shown (after language history command) (number + 1) more)

  own_shown : (name : List ℕ) (history : History) (number : ℕ) (commands : Script) → notes language name history commands ≡ shown_of language (Some name) history number commands
  own_shown name history number [] = refl
  own_shown name history number (command ∷ more) =
      ap (λ (bytes : List ℕ). unless_refused [] (first_refusal language history command) (notices_of language name history command) ++ bytes) (own_shown name (after language history command) (number + 1) more)

  pub shown_is : (whose : Option (List ℕ)) (commands : Script) → shown language whose commands ≡ shown_of language whose [] 1 commands
  shown_is None commands = all_shown [] 1 commands
  shown_is (Some name) commands = sym (stands_alone language name commands) ∙ own_shown name [] 1 commands

-- the history after commands
pub history_join : (language : Language) (history : History) (xs ys : Script) → history_of language history (xs ++ ys) ≡ history_of language (history_of language history xs) ys
history_join language history [] ys = refl
history_join language history (x ∷ xs) ys = history_join language (after language history x) xs ys

module _ (language : Language) (whose : Option (List ℕ)) where
  out_join : (history : History) (number : ℕ) (xs ys : Script) → shown_of language whose history number (xs ++ ys) ≡ shown_of language whose history number xs ++ shown_of language whose (history_of language history xs) (number + length xs) ys
  out_join history number [] ys = ap (λ (n : ℕ). shown_of language whose history n ys) (let e : number ≡ number + 0 = omega arith in e)
  out_join history number (x ∷ xs) ys =
      let shift : number + 1 + length xs ≡ number + suc (length xs) = omega arith in
      ap (λ (bytes : List ℕ). shown_answer language whose history number x ++ bytes) (out_join (after language history x) (number + 1) xs ys
      ∙ ap (λ (n : ℕ). shown_of language whose (after language history x) (number + 1) xs ++ shown_of language whose (history_of language (after language history x) xs) n ys) shift)
      ∙ sym (append_assoc (shown_answer language whose history number x) (shown_of language whose (after language history x) (number + 1) xs) (shown_of language whose (history_of language (after language history x) xs) (number + suc (length xs)) ys))

  out_then : (front rest : Script) (count : ℕ) → count ≡ length front → shown_of language whose [] 1 (front ++ rest) ≡ shown_of language whose [] 1 front ++ shown_of language whose (history_of language [] front) (count + 1) rest
  out_then front rest count counted =
      let shift : 1 + length front ≡ count + 1 = omega arith in
      out_join [] 1 front rest ∙ ap (λ (n : ℕ). shown_of language whose [] 1 front ++ shown_of language whose (history_of language [] front) n rest) shift

  -- what is shown of commands is what is shown of those in front, and then of those behind
  pub by_turns : (all front rest : Script) → all ≡ front ++ rest → (count : ℕ) → count ≡ length front
      → shown language whose all ≡ shown language whose front ++ shown_of language whose (history_of language [] front) (count + 1) rest
  by_turns all front rest e count counted =
      shown_is language whose all ∙ ap (shown_of language whose [] 1) e ∙ out_then front rest count counted
      ∙ ap (λ (bytes : List ℕ). bytes ++ shown_of language whose (history_of language [] front) (count + 1) rest) (sym (shown_is language whose front))

  -- what is whole comes first in the output
  whole_first : (limit : ℕ) (bytes more : List ℕ) → (rest : List ℕ) × (output_of language whose limit (bytes ++ more) ≡ shown language whose (whole_script limit bytes) ++ rest)
  unfolding output_of
  whole_first limit bytes more =
      let count = length (whole_script limit bytes) in (
        shown_of language whose (history_of language [] (whole_script limit bytes)) (count + 1) (drop count (script limit (bytes ++ more))),
        by_turns (script limit (bytes ++ more)) (whole_script limit bytes) _ (script_then limit count bytes more refl) count refl,
      )

  -- so a front of what is shown of it is a front of the output
  module _ (limit : ℕ) (bytes more : List ℕ) (old new : Option (List ℕ)) where
    pub prefix_of_all : AppendsPrefix old new (shown language whose (whole_script limit bytes)) → AppendsPrefix old new (output_of language whose limit (bytes ++ more))
    prefix_of_all p = let first = whole_first limit bytes more in stopped_front old old new _ [] _ first.0 first.1 (Appends-nil old) p

    pub proper_of_all : AppendsProperPrefix old new (shown language whose (whole_script limit bytes)) → AppendsProperPrefix old new (output_of language whose limit (bytes ++ more))
    proper_of_all p = let first = whole_first limit bytes more in stopped_later old old new _ [] _ first.0 first.1 (Appends-nil old) p
