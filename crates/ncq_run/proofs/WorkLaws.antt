-- The work of commands, joined from that of those in front and those behind.
use Rattle.std.proofs.Common.{◌≡◌, ◌+◌, ◌*◌, ◌≤◌, ◌++◌, ℕ, List, [], ◌∷◌, length, arith, sym, refl, subst}
use Rattle.std.specs.Prelude.{Some, None, Option, IfSome}
use Rattle.ncq_script.specs.Script.{script, whole_script}
use Rattle.ncq_script.specs.declared.command.Command.{Command}
use Rattle.ncq_script.proofs.CallerLemmas.{script_then}
use Rattle.ncq_callback.specs.Labels.{Handed}
use Rattle.ncq_engine.specs.Languages.{language_of}
use Rattle.ncq_engine.specs.History.{History}
use Rattle.ncq_engine.specs.Notices.{Language}
use Rattle.ncq_engine.specs.Output.{after, history_of}
use Rattle.ncq_engine.specs.Stands.{EngineState, Stands}
use Rattle.ncq_engine.specs.Applies.{OfEach}
use Rattle.ncq_engine.specs.Works.{AreWorkUpTo, IsWithinWork, IsWorkUpTo}
use Rattle.ncq_run.specs.Output.{AreWithinTries}
use Rattle.ncq_run.specs.Session.{IsWithinTries}

abbrev Script : Type 0
Script = List Command

-- the work of all is that of those in front and that of those behind
works_split : (language : Language) (history : History) (xs ys : Script) (bound : ℕ) → AreWorkUpTo language history (xs ++ ys) bound
    → (first : ℕ) × (rest : ℕ) × AreWorkUpTo language history xs first × AreWorkUpTo language (history_of language history xs) ys rest × (bound ≡ first + rest)
works_split language history [] ys bound works = (0, bound, refl, works, let e : bound ≡ 0 + bound = omega arith in e)
works_split language history (x ∷ xs) ys bound works =
    let later = works_split language (after language history x) xs ys works.1 works.3 in
    (works.0 + later.0, later.1, (works.0, later.0, works.2, later.2, refl), later.3, omega (arith, works.4, later.4))

-- steps within twice the work of those in front, and then within twice that of those behind
pub works_join : (language : Language) (front rest : Script) (before middle last : ℕ) → AreWithinTries language front before middle
    → ((bound : ℕ) → AreWorkUpTo language (history_of language [] front) rest bound → last ≤ middle + 2 * bound)
    → AreWithinTries language (front ++ rest) before last
works_join language front rest before middle last was now bound works =
    let split = works_split language [] front rest bound works in
    omega (arith, was split.0 split.2, now split.1 split.3, split.4)

-- commands behind take nothing away
pub works_more : (language : Language) (front rest : Script) (before now : ℕ) → AreWithinTries language front before now → AreWithinTries language (front ++ rest) before now
works_more language front rest before now was = works_join language front rest before now now was (λ bound works. omega arith)

-- no step is within any work
pub no_step : (language : Language) (limit : ℕ) (left : Option (List ℕ)) (steps : ℕ) → IfSome left (λ bytes. AreWithinTries language (script limit bytes) steps steps)
no_step language limit None steps = tt
no_step language limit (Some bytes) steps = λ bound works. omega arith

-- steps within twice the work of what is whole are within twice that of all
pub all_work : (language : Language) (limit : ℕ) (bytes : List ℕ) (before : ℕ) (more : List ℕ) (now : ℕ) → AreWithinTries language (whole_script limit bytes) before now → AreWithinTries language (script limit (bytes ++ more)) before now
all_work language limit bytes before more now was =
    let count = length (whole_script limit bytes) in
    subst (λ (ls : Script). AreWithinTries language ls before now) (sym (script_then limit count bytes more refl)) (works_more language (whole_script limit bytes) _ before now was)

-- one try is within two
pub one_try : (engine : EngineState) (command : Command) (old new : ℕ) → IsWithinWork engine command old new → IsWithinTries engine command old new
one_try engine command old new within history stands bound works = let once = within history stands bound works in omega (arith, once)

-- an engine that stands as before and has the same handlers is asked once more: both tries are within twice the work
pub two_tries : (engine again : EngineState) (command : Command) → again.handed ≡ engine.handed → OfEach engine (Stands again) → (before middle after : ℕ)
    → IsWithinWork engine command before middle → IsWithinWork again command middle after → IsWithinTries engine command before after
two_tries engine again command handed stays before middle last first second history stands bound works =
    let once = first history stands bound works in
    let twice = second history (stays history stands) bound (subst (λ (ls : Handed). IsWorkUpTo (language_of ls) history command bound) (sym handed) works) in
    omega (arith, once, twice)
