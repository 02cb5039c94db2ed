-- The answer to a command, from what the engine says of it.
use Rattle.std.proofs.Common.{◌≡◌, ◌+◌, ◌++◌, ◌∷◌, ℕ, List, [], length, arith, ap, sym, ◌∙◌, subst}
use Rattle.std.specs.Prelude.{None, Some, Result, Ok, Err}
use Rattle.ncq_script.specs.Refusals.{refused_text}
use Rattle.ncq_script.specs.declared.command.Command.{Command}
use Rattle.ncq_script.specs.declared.refusal.Refusal.{Refusal}
use Rattle.ncq_engine.specs.Applies.{AreSpans, OfEach}
use Rattle.ncq_engine.specs.History.{History}
use Rattle.ncq_engine.specs.Languages.{language_of}
use Rattle.ncq_engine.specs.Notices.{Language}
use Rattle.ncq_engine.specs.Output.{output, after, first_refusal, answered, with_accepted, accepted_text, ok_text, unless_refused}
use Rattle.ncq_engine.specs.Spans.{spans}
use Rattle.ncq_engine.specs.Stands.{EngineState, Stands}
use Rattle.ncq_run.specs.Session.{Asks, IsWithinTries}
use Rattle.ncq_run.specs.Shown.{answer_spans}

module _ (language : Language) (history : History) (command : Command) where
  accepted_output : (number : ℕ) → first_refusal language history command ≡ None → output language history number command ≡ accepted_text language history number command
  unfolding output
  accepted_output number none = ap (answered language history number command) none

  accepted_after : first_refusal language history command ≡ None → after language history command ≡ command ∷ history
  unfolding after
  accepted_after none = ap (with_accepted history command) none

  refused_output : (number : ℕ) (why : Refusal) → first_refusal language history command ≡ Some why → output language history number command ≡ refused_text number why
  unfolding output
  refused_output number why some = ap (answered language history number command) some

  refused_after : (why : Refusal) → first_refusal language history command ≡ Some why → after language history command ≡ history
  unfolding after
  refused_after why some = ap (with_accepted history command) some

-- the answer is this, and the engine stands for what is after it
abbrev pub Answers : EngineState → Command → EngineState → List ℕ → Type 0
Answers old command new text = (history : History) → Stands old history
    → (text ≡ output (language_of old.handed) history (old.count + 1) command) × Stands new (after (language_of old.handed) history command)

pub answers_accepted : (old : EngineState) (command : Command) (out : List ℕ) (new : EngineState) (text : List ℕ) → out ≡ []
    → OfEach old (λ history. first_refusal (language_of old.handed) history command ≡ None)
    → OfEach old (λ history. Stands new (command ∷ history))
    → OfEach old (λ history. text ≡ out ++ accepted_text (language_of old.handed) history (old.count + 1) command) → Answers old command new text
answers_accepted old command out new text empty accepted joined answer history stands =
    let language = language_of old.handed in
    let none = accepted history stands in
    let texts : text ≡ accepted_text language history (old.count + 1) command =
    answer history stands ∙ ap (λ (xs : List ℕ). xs ++ accepted_text language history (old.count + 1) command) empty in (
      texts ∙ sym (accepted_output language history command (old.count + 1) none),
      subst (Stands new) (sym (accepted_after language history command none)) (joined history stands),
    )

pub answers_refused : (old : EngineState) (command : Command) (out : List ℕ) (why : Refusal) (new : EngineState) (out' text : List ℕ) (number : ℕ) → out ≡ []
    → OfEach old (λ history. first_refusal (language_of old.handed) history command ≡ Some why)
    → OfEach old (Stands new) → out' ≡ out → new.count ≡ old.count + 1
    → number ≡ new.count → text ≡ out' ++ refused_text number why → Answers old command new text
answers_refused old command out why new out' text number empty refused stays unwritten counted is written history stands =
    let language = language_of old.handed in
    let some = refused history stands in
    let same : number ≡ old.count + 1 = is ∙ counted in
    let texts : text ≡ refused_text (old.count + 1) why =
    written ∙ ap (λ (xs : List ℕ). xs ++ refused_text number why) (unwritten ∙ empty) ∙ ap (λ (n : ℕ). refused_text n why) same in (
      texts ∙ sym (refused_output language history command (old.count + 1) why some),
      subst (Stands new) (sym (refused_after language history command why some)) (stays history stands),
    )

-- where the notices stand, if the command was accepted
pub spans_accepted : (old : EngineState) (command : Command) (out : List ℕ) (new : EngineState) → out ≡ []
    → OfEach old (λ history. first_refusal (language_of old.handed) history command ≡ None)
    → OfEach old (λ history. AreSpans old history command out new.spans)
    → OfEach old (λ history. new.spans ≡ answer_spans (language_of old.handed) history (old.count + 1) command)
spans_accepted old command out new empty accepted told history stands =
    let language = language_of old.handed in
    let none : length out + length (ok_text (old.count + 1)) ≡ length (ok_text (old.count + 1)) = omega (arith, ap length empty) in
    told history stands ∙ ap (spans language history command) none
    ∙ sym (ap (λ o. unless_refused [] o (spans language history command (length (ok_text (old.count + 1))))) (accepted history stands))

-- and if it was refused
pub spans_refused : (old : EngineState) (command : Command) (why : Refusal) (new : EngineState) → new.spans ≡ []
    → OfEach old (λ history. first_refusal (language_of old.handed) history command ≡ Some why)
    → OfEach old (λ history. new.spans ≡ answer_spans (language_of old.handed) history (old.count + 1) command)
spans_refused old command why new none refused history stands =
    none ∙ sym (ap (λ o. unless_refused [] o (spans (language_of old.handed) history command (length (ok_text (old.count + 1))))) (refused history stands))

-- it did not answer
pub asks_failed : {T E : Type 0} (engine : EngineState) (command : Command) (steps : ℕ) (engine' : EngineState) (steps' : ℕ) (result : Result T E) (error : E) → result ≡ Err error
    → engine'.handed ≡ engine.handed → IsWithinTries engine command steps steps' → Asks {T = T} {E = E} engine command steps engine' steps' result
asks_failed {T = T} {E = E} engine command steps engine' steps' result error is handed work =
    subst (λ (r : Result T E). Asks {T = T} {E = E} engine command steps engine' steps' r) (sym is) (record { stands = tt; counted = tt; handed = handed; work = work })

-- it answered; what came after may have failed
pub asks_after : {T E T' E' : Type 0} {engine : EngineState} {command : Command} {steps : ℕ} {engine' : EngineState} {steps' : ℕ} (done : T) → Asks {T = T} {E = E} engine command steps engine' steps' (Ok done)
    → (later : Result T' E') → Asks {T = T'} {E = E'} engine command steps engine' steps' later
asks_after done asks (Ok x) = record { stands = asks.stands; counted = asks.counted; handed = asks.handed; work = asks.work }
asks_after done asks (Err e) = record { stands = tt; counted = tt; handed = asks.handed; work = asks.work }
