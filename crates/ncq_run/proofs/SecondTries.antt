-- A second try, of an engine that gave back what serves speed alone: its answer is that of the first.
use Rattle.std.proofs.Common.{◌≡◌, ◌+◌, ◌++◌, ◌∷◌, ℕ, List, [], length, ◌∙◌, ap, subst}
use Rattle.std.specs.Prelude.{None, Some, Result, Ok, Err, OnOk, OnErr}
use Rattle.ncq_callback.specs.Labels.{Handed}
use Rattle.ncq_script.specs.declared.command.Command.{Command}
use Rattle.ncq_script.specs.declared.refusal.Refusal.{Refusal}
use Rattle.ncq_engine.specs.Applies.{AreSpans, IfAnswered, IfRefused, OfEach, ok_text}
use Rattle.ncq_engine.specs.History.{History}
use Rattle.ncq_engine.specs.Languages.{language_of}
use Rattle.ncq_engine.specs.Output.{accepted_text, first_refusal}
use Rattle.ncq_engine.specs.Spans.{spans}
use Rattle.ncq_engine.specs.Stands.{EngineState, Stands}
use Rattle.ncq_engine.specs.declared.engine.Applied.{Applied}
use Rattle.ncq_engine.specs.declared.engine.ApplyError.{ApplyError}
use Rattle.ncq_engine.specs.declared.engine.ApplyError.TheVariants.{OutOfMemory, Refused}
use Rattle.ncq_engine.specs.declared.span.Span.{Span}

-- an engine stands for what another stands for, has its handlers, and has counted as many commands
pub record StandsAgain (engine again : EngineState) : Type 0 where
  pub handed : again.handed ≡ engine.handed
  pub count : again.count ≡ engine.count
  pub stands : OfEach engine (Stands again)

-- it was given up, and gave back what serves speed alone
pub again_of : (engine given_up again : EngineState) → given_up.handed ≡ engine.handed → given_up.count ≡ engine.count → OfEach engine (Stands given_up) → again ≡ record given_up { cache = [] } → OfEach given_up (Stands again)
    → StandsAgain engine again
again_of engine given_up again handed count stays shed stands = record {
  handed = ap (λ (e : EngineState). e.handed) shed ∙ handed;
  count = ap (λ (e : EngineState). e.count) shed ∙ count;
  stands = λ h s. stands h (stays h s);
}

on_ok : {T E A B : Type 0} (r : Result T E) → (A → B) → OnOk r A → OnOk r B
on_ok (Ok x) f a = f a
on_ok (Err x) f a = a

on_err : {T E A B : Type 0} (r : Result T E) → (A → B) → OnErr r A → OnErr r B
on_err (Ok x) f a = a
on_err (Err x) f a = f a

on_refused : (r : Result Applied ApplyError) (P Q : Refusal → Type 0) → ((why : Refusal) → P why → Q why) → IfRefused r P → IfRefused r Q
on_refused (Ok x) P Q f p = p
on_refused (Err (Refused why)) P Q f p = f why p
on_refused (Err OutOfMemory) P Q f p = p

module _ {engine again : EngineState} (a : StandsAgain engine again) (command : Command) (r : Result Applied ApplyError) where
  -- what holds of each history that it stands for holds of each that the other stands for
  of_again : (holds : Handed → ℕ → History → Type 0) → OfEach again (holds again.handed again.count) → OfEach engine (holds engine.handed engine.count)
  of_again holds each h s = subst (λ (p : Handed × ℕ). holds p.0 p.1 h) (λ i. (a.handed i, a.count i)) (each h (a.stands h s))

  pub again_accepted : OnOk r (OfEach again (λ h. first_refusal (language_of again.handed) h command ≡ None)) → OnOk r (OfEach engine (λ h. first_refusal (language_of engine.handed) h command ≡ None))
  again_accepted = on_ok r (of_again (λ ls n h. first_refusal (language_of ls) h command ≡ None))

  pub again_joined : (new : EngineState) → OnOk r (OfEach again (λ h. Stands new (command ∷ h))) → OnOk r (OfEach engine (λ h. Stands new (command ∷ h)))
  again_joined new = on_ok r (of_again (λ ls n h. Stands new (command ∷ h)))

  pub again_answer : (out out' : List ℕ) → OnOk r (OfEach again (λ h. out' ≡ out ++ accepted_text (language_of again.handed) h (again.count + 1) command))
      → OnOk r (OfEach engine (λ h. out' ≡ out ++ accepted_text (language_of engine.handed) h (engine.count + 1) command))
  again_answer out out' = on_ok r (of_again (λ ls n h. out' ≡ out ++ accepted_text (language_of ls) h (n + 1) command))

  pub again_spans : (out : List ℕ) (places : List Span) → OnOk r (OfEach again (λ h. AreSpans again h command out places)) → OnOk r (OfEach engine (λ h. AreSpans engine h command out places))
  again_spans out places = on_ok r (of_again (λ ls n h. places ≡ spans (language_of ls) h command (length out + length (ok_text (n + 1)))))

  pub again_refused : IfRefused r (λ why. OfEach again (λ h. first_refusal (language_of again.handed) h command ≡ Some why)) → IfRefused r (λ why. OfEach engine (λ h. first_refusal (language_of engine.handed) h command ≡ Some why))
  again_refused = on_refused r (λ why. OfEach again (λ h. first_refusal (language_of again.handed) h command ≡ Some why)) (λ why. OfEach engine (λ h. first_refusal (language_of engine.handed) h command ≡ Some why))
      (λ why. of_again (λ ls n h. first_refusal (language_of ls) h command ≡ Some why))

  pub again_stays : (new : EngineState) → OnErr r (OfEach again (Stands new)) → OnErr r (OfEach engine (Stands new))
  again_stays new = on_err r (of_again (λ ls n h. Stands new h))

  pub again_counted : (new : EngineState) → IfAnswered r (new.count ≡ again.count + 1) → IfAnswered r (new.count ≡ engine.count + 1)
  again_counted new = subst (λ n. IfAnswered r (new.count ≡ n + 1)) a.count
