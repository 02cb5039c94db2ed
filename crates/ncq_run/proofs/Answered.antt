-- The commands that are answered so far: as bytes come, as one more is answered, and at the end.
use Rattle.std.proofs.Common.{◌*◌, ◌≡◌, ◌+◌, ◌≤◌, ◌++◌, ℕ, List, [], ◌∷◌, length, take, drop, arith, sym, ◌∙◌, ap, refl, subst, length-append, suc, true, false}
use Rattle.std.specs.Prelude.{slice_get, Some, Option, Result, Ok, Err}
use Rattle.std.specs.Io.KnownBytes.{Appends}
use Rattle.std.proofs.KnownBytes.{Appends-trans}
use Rattle.std.proofs.Math.Seq.{take-suc}
use Rattle.std.proofs.lemmas.List.{append-nil, length-take-le, take-append-drop, take-append-le, take_all}
use Rattle.std.proofs.lemmas.Option.{get_or_from_slice_get, slice_get_within}
use Rattle.ncq_script.specs.declared.command.Command.{Command}
use Rattle.ncq_script.specs.Script.{script, whole_script}
use Rattle.ncq_script.specs.ScriptReading.{ScriptState, FollowsScript, is_finished, limit_of}
use Rattle.ncq_script.proofs.CallerLemmas.{next_moves, script_end, whole_script_then}
use Rattle.ncq_callback.specs.Labels.{Handed}
use Rattle.ncq_engine.specs.Languages.{language_of}
use Rattle.ncq_engine.specs.Notices.{Language}
use Rattle.ncq_engine.specs.Output.{after, history_of}
use Rattle.ncq_engine.specs.Stands.{EngineState, Stands}
use Rattle.ncq_engine.specs.Works.{IsWorkUpTo}
use Rattle.ncq_report.specs.declared.tally.Tally.{Tally}
use Rattle.ncq_run.specs.declared.answer.Stop.{Stop}
use Rattle.ncq_run.specs.declared.answer.Stop.TheVariants.{NoMemory, WriteFault}
use Rattle.ncq_run.specs.Output.{AreWithinTries, shown}
use Rattle.ncq_run.specs.Session.{Advances, Asks, IsAnswered, IsSmall, IsTallied, IsThrough, IsUpTo, Writes, answered_in, commands_in}
use Rattle.ncq_run.specs.Shown.{shown_answer, shown_of}
use Rattle.ncq_run.specs.Status.{AppendsPrefix}
use Rattle.ncq_run.specs.Tallies.{tally_of, with_command}
use Rattle.ncq_run.proofs.Outputs.{by_turns, history_join, known_closed, known_open, known_same, stopped_front, stopped_later}
use Rattle.ncq_run.proofs.TallyLaws.{tally_then}
use Rattle.ncq_run.proofs.WorkLaws.{works_join, works_more}

abbrev Script : Type 0
Script = List Command

module _ (known : Script) (count : ℕ) (command : Command) (at : slice_get known count ≡ Some command) where
  front_more : take (count + 1) known ≡ take count known ++ command ∷ []
  front_more =
      ap (λ (n : ℕ). take n known) (let e : count + 1 ≡ suc count = omega arith in e)
      ∙ take-suc known count command (slice_get_within known count command at)
      ∙ ap (λ (x : Command). take count known ++ x ∷ []) (get_or_from_slice_get known count command command at)

  front_and : known ≡ take count known ++ command ∷ drop (count + 1) known
  front_and = sym (take-append-drop count known) ∙ ap (λ (ls : Script). take count known ++ ls) (next_moves known command count at)

  front_long : count ≡ length (take count known)
  front_long = let within = slice_get_within known count command at in sym (length-take-le count known (omega (arith, within)))

  module _ (language : Language) where
    front_history : history_of language [] (take (count + 1) known) ≡ after language (history_of language [] (take count known)) command
    front_history = ap (history_of language []) front_more ∙ history_join language [] (take count known) (command ∷ [])

    front_tally : tally_of language (take (count + 1) known) ≡ with_command language (tally_of language (take count known)) (history_of language [] (take count known)) (count + 1) command
    front_tally = ap (tally_of language) front_more ∙ tally_then language (take count known) (command ∷ []) count front_long

    module _ (whose : Option (List ℕ)) where
      front_shown : shown language whose (take (count + 1) known) ≡ shown language whose (take count known) ++ shown_answer language whose (history_of language [] (take count known)) (count + 1) command
      front_shown =
          by_turns language whose (take (count + 1) known) (take count known) (command ∷ []) front_more count front_long
          ∙ ap (λ (bytes : List ℕ). shown language whose (take count known) ++ bytes) (append-nil (shown_answer language whose (history_of language [] (take count known)) (count + 1) command))

      all_shown : shown language whose known ≡ shown language whose (take count known) ++ (shown_answer language whose (history_of language [] (take count known)) (count + 1) command
          ++ shown_of language whose (after language (history_of language [] (take count known)) command) ((count + 1) + 1) (drop (count + 1) known))
      all_shown = by_turns language whose known (take count known) (command ∷ drop (count + 1) known) front_and count front_long

    module _ (begun steps steps' : ℕ) (was : AreWithinTries language (take count known) begun steps)
        (now : (bound : ℕ) → IsWorkUpTo language (history_of language [] (take count known)) command bound → steps' ≤ steps + 2 * bound) where
      front_work : AreWithinTries language (take (count + 1) known) begun steps'
      front_work = subst (λ (ls : Script). AreWithinTries language ls begun steps') (sym front_more)
          (works_join language (take count known) (command ∷ []) begun steps steps' was (λ bound works. omega (arith, now works.0 works.2, works.4)))

      -- also where it was tried alone
      tried_work : AreWithinTries language known begun steps'
      tried_work = subst (λ (ls : Script). AreWithinTries language ls begun steps') (sym front_and)
          (works_join language (take count known) (command ∷ drop (count + 1) known) begun steps steps' was (λ bound works. omega (arith, now works.0 works.2, works.4)))

module _ (language : Language) (known : Script) (count : ℕ) where
  -- the work of those in front is within that of all
  front_of_work : (begun steps : ℕ) → AreWithinTries language (take count known) begun steps → AreWithinTries language known begun steps
  front_of_work begun steps was = subst (λ (ls : Script). AreWithinTries language ls begun steps) (take-append-drop count known)
      (works_more language (take count known) (drop count known) begun steps was)

  -- what is shown of them is a front of what is shown of all
  front_of_shown : (whose before held : Option (List ℕ)) → count ≤ length known → Appends before held (shown language whose (take count known)) → AppendsPrefix before held (shown language whose known)
  front_of_shown whose before held few was = (
    shown language whose (take count known),
    shown_of language whose (history_of language [] (take count known)) (count + 1) (drop count known),
    by_turns language whose known (take count known) (drop count known) (sym (take-append-drop count known)) count (sym (length-take-le count known few)),
    was,
  )

-- the steps so far are within twice the work of all that the reader can tell
pub up_to_work : (bytes : List ℕ) (reader : ScriptState) (engine : EngineState) (begun steps : ℕ) → IsUpTo bytes reader engine begun steps → AreWithinTries (language_of engine.handed) (commands_in reader bytes) begun steps
up_to_work bytes reader engine begun steps so = front_of_work (language_of engine.handed) (commands_in reader bytes) engine.count begun steps so.work

-- those in front of a longer list
front_stays : (old new rest : Script) (count : ℕ) → new ≡ old ++ rest → count ≤ length old → (take count new ≡ take count old) × (count ≤ length new)
front_stays old new rest count e few = (
  ap (take count) e ∙ take-append-le count old rest few,
  omega (arith, few, ap length e, length-append old rest),
)

-- the commands that are answered stay the same
record Carries (bytes bytes' : List ℕ) (reader reader' : ScriptState) (engine : EngineState) : Type 0 where
  follows : FollowsScript reader' bytes' engine.count
  few : engine.count ≤ length (commands_in reader' bytes')
  same : answered_in reader' engine bytes' ≡ answered_in reader engine bytes

module _ {bytes bytes' : List ℕ} {reader reader' : ScriptState} {engine : EngineState} (carries : Carries bytes bytes' reader reader' engine) {begun steps : ℕ} where
  up_to_carried : IsUpTo bytes reader engine begun steps → IsUpTo bytes' reader' engine begun steps
  up_to_carried so = record {
    follows = carries.follows;
    few = carries.few;
    stands = subst (λ (ls : Script). Stands engine (history_of (language_of engine.handed) [] ls)) (sym carries.same) so.stands;
    work = subst (λ (ls : Script). AreWithinTries (language_of engine.handed) ls begun steps) (sym carries.same) so.work;
  }

  answered_carried : {whose before held : Option (List ℕ)} → IsAnswered whose bytes reader engine before held begun steps → IsAnswered whose bytes' reader' engine before held begun steps
  answered_carried {whose = whose} {before = before} {held = held} so = record {
    up_to = up_to_carried so.up_to;
    written = subst (λ (ls : Script). Appends before held (shown (language_of engine.handed) whose ls)) (sym carries.same) so.written;
  }

  tallied_carried : {tally : Tally} → IsTallied bytes reader engine tally begun steps → IsTallied bytes' reader' engine tally begun steps
  tallied_carried {tally = tally} so = record {
    up_to = up_to_carried so.up_to;
    tallied = subst (λ (ls : Script). tally ≡ tally_of (language_of engine.handed) ls) (sym carries.same) so.tallied;
    small = so.small;
  }

-- a piece was pushed
module _ (bytes piece : List ℕ) (reader reader' : ScriptState) (opened : is_finished reader ≡ false) (opened' : is_finished reader' ≡ false) (limit : limit_of reader' ≡ limit_of reader) where
  abbrev behind : Script
  behind = drop (length (whole_script (limit_of reader) bytes)) (whole_script (limit_of reader) (bytes ++ piece))

  longer : commands_in reader' (bytes ++ piece) ≡ commands_in reader bytes ++ behind
  longer =
      known_open (limit_of reader) (limit_of reader') (is_finished reader') (bytes ++ piece) limit opened'
      ∙ whole_script_then (limit_of reader) (length (whole_script (limit_of reader) bytes)) bytes piece refl
      ∙ ap (λ (ls : Script). ls ++ behind) (sym (known_open (limit_of reader) (limit_of reader) (is_finished reader) bytes refl opened))

module _ (bytes piece : List ℕ) (reader reader' : ScriptState) (engine : EngineState) (opened : is_finished reader ≡ false) (opened' : is_finished reader' ≡ false) (limit : limit_of reader' ≡ limit_of reader)
    (ok : (pushed : List ℕ) (count : ℕ) → FollowsScript reader pushed count → FollowsScript reader' (pushed ++ piece) count) where
  carries_push : FollowsScript reader bytes engine.count → engine.count ≤ length (commands_in reader bytes) → Carries bytes (bytes ++ piece) reader reader' engine
  carries_push follows few =
      let stays = front_stays (commands_in reader bytes) (commands_in reader' (bytes ++ piece)) _ engine.count (longer bytes piece reader reader' opened opened' limit) few in
      record { follows = ok bytes engine.count follows; few = stays.1; same = stays.0 }

  module _ {begun steps : ℕ} where
    pub up_to_pushed : IsUpTo bytes reader engine begun steps → IsUpTo (bytes ++ piece) reader' engine begun steps
    up_to_pushed so = up_to_carried (carries_push so.follows so.few) so

    pub answered_pushed : {whose before held : Option (List ℕ)} → IsAnswered whose bytes reader engine before held begun steps → IsAnswered whose (bytes ++ piece) reader' engine before held begun steps
    answered_pushed so = answered_carried (carries_push so.up_to.follows so.up_to.few) so

    pub tallied_pushed : {tally : Tally} → IsTallied bytes reader engine tally begun steps → IsTallied (bytes ++ piece) reader' engine tally begun steps
    tallied_pushed so = tallied_carried (carries_push so.up_to.follows so.up_to.few) so

-- it could not be pushed
module _ (bytes piece : List ℕ) (reader reader' : ScriptState) (engine : EngineState) (opened : is_finished reader ≡ false) (same : reader' ≡ reader) where
  unpushed : engine.count ≤ length (commands_in reader bytes) → (take engine.count (commands_in reader' (bytes ++ piece)) ≡ answered_in reader engine bytes) × (engine.count ≤ length (commands_in reader' (bytes ++ piece)))
  unpushed few = front_stays (commands_in reader bytes) (commands_in reader' (bytes ++ piece)) _ engine.count (longer bytes piece reader reader' opened (ap is_finished same ∙ opened) (ap limit_of same)) few

  pub unpushed_through : {T E : Type 0} {begun steps : ℕ} (result : Result T E) (error : E) → result ≡ Err error → IsUpTo bytes reader engine begun steps
      → IsThrough {T = T} {E = E} (bytes ++ piece) reader' engine begun steps result
  unpushed_through {T = T} {E = E} {begun = begun} {steps = steps} result error is so =
      subst (λ (r : Result T E). IsThrough {T = T} {E = E} (bytes ++ piece) reader' engine begun steps r) (sym is) (record {
        up_to = tt;
        all = tt;
        work = front_of_work (language_of engine.handed) (commands_in reader' (bytes ++ piece)) engine.count begun steps
            (subst (λ (ls : Script). AreWithinTries (language_of engine.handed) ls begun steps) (sym (unpushed so.few).0) so.work);
      })

  pub unpushed_writes : {begun steps : ℕ} {whose before held : Option (List ℕ)} → IsAnswered whose bytes reader engine before held begun steps
      → AppendsPrefix before held (shown (language_of engine.handed) whose (commands_in reader' (bytes ++ piece)))
  unpushed_writes {whose = whose} {before = before} {held = held} so =
      let front = unpushed so.up_to.few in
      front_of_shown (language_of engine.handed) (commands_in reader' (bytes ++ piece)) engine.count whose before held front.1
      (subst (λ (ls : Script). Appends before held (shown (language_of engine.handed) whose ls)) (sym front.0) so.written)

-- the end was marked
module _ (bytes : List ℕ) (reader reader' : ScriptState) (engine : EngineState) (opened : is_finished reader ≡ false) (closed : is_finished reader' ≡ true) (limit : limit_of reader' ≡ limit_of reader)
    (ok : (pushed : List ℕ) (count : ℕ) → FollowsScript reader pushed count → FollowsScript reader' pushed count) where
  all_longer : commands_in reader' bytes ≡ commands_in reader bytes ++ drop (length (whole_script (limit_of reader) bytes)) (script (limit_of reader) bytes)
  all_longer =
      known_closed (limit_of reader) (limit_of reader') (is_finished reader') bytes limit closed
      ∙ script_end (limit_of reader) (length (whole_script (limit_of reader) bytes)) bytes refl
      ∙ ap (λ (ls : Script). ls ++ drop (length (whole_script (limit_of reader) bytes)) (script (limit_of reader) bytes))
      (sym (known_open (limit_of reader) (limit_of reader) (is_finished reader) bytes refl opened))

  carries_end : FollowsScript reader bytes engine.count → engine.count ≤ length (commands_in reader bytes) → Carries bytes bytes reader reader' engine
  carries_end follows few =
      let stays = front_stays (commands_in reader bytes) (commands_in reader' bytes) _ engine.count all_longer few in
      record { follows = ok bytes engine.count follows; few = stays.1; same = stays.0 }

  module _ {begun steps : ℕ} where
    pub up_to_end : IsUpTo bytes reader engine begun steps → IsUpTo bytes reader' engine begun steps
    up_to_end so = up_to_carried (carries_end so.follows so.few) so

    pub answered_end : {whose before held : Option (List ℕ)} → IsAnswered whose bytes reader engine before held begun steps → IsAnswered whose bytes reader' engine before held begun steps
    answered_end so = answered_carried (carries_end so.up_to.follows so.up_to.few) so

    pub tallied_end : {tally : Tally} → IsTallied bytes reader engine tally begun steps → IsTallied bytes reader' engine tally begun steps
    tallied_end so = tallied_carried (carries_end so.up_to.follows so.up_to.few) so

-- the reader was asked for the next command
module _ (bytes : List ℕ) (reader reader' : ScriptState) (limit : limit_of reader' ≡ limit_of reader) (finished : is_finished reader' ≡ is_finished reader) where
  same_known : commands_in reader' bytes ≡ commands_in reader bytes
  same_known = known_same (limit_of reader) (limit_of reader') (is_finished reader) (is_finished reader') bytes limit finished

  module _ (engine : EngineState) (begun steps : ℕ) where
    -- there is none
    carries_none : length (commands_in reader bytes) ≡ engine.count → FollowsScript reader' bytes engine.count → Carries bytes bytes reader reader' engine
    carries_none all follows = record {
      follows = follows;
      few = omega (arith, all, ap length same_known);
      same = ap (take engine.count) same_known;
    }

    all_through : {T E : Type 0} (done : T) → length (commands_in reader bytes) ≡ engine.count → FollowsScript reader' bytes engine.count → IsUpTo bytes reader engine begun steps
        → IsThrough {T = T} {E = E} bytes reader' engine begun steps (Ok done)
    all_through done all follows so =
        let now = up_to_carried (carries_none all follows) so in
        record {
          up_to = now;
          all = omega (arith, all, ap length same_known);
          work = front_of_work (language_of engine.handed) (commands_in reader' bytes) engine.count begun steps now.work;
        }

    pub tallied_none : (tally : Tally) → length (commands_in reader bytes) ≡ engine.count → FollowsScript reader' bytes engine.count → IsTallied bytes reader engine tally begun steps → IsTallied bytes reader' engine tally begun steps
    tallied_none tally all follows so = tallied_carried (carries_none all follows) so

    -- memory ran out
    not_through : {T E : Type 0} (error : E) → IsUpTo bytes reader engine begun steps → IsThrough {T = T} {E = E} bytes reader' engine begun steps (Err error)
    not_through error so = record {
      up_to = tt;
      all = tt;
      work = subst (λ (ls : Script). AreWithinTries (language_of engine.handed) ls begun steps) (sym same_known)
          (front_of_work (language_of engine.handed) (commands_in reader bytes) engine.count begun steps so.work);
    }

    module _ (whose before held : Option (List ℕ)) (so : IsAnswered whose bytes reader engine before held begun steps) where
      pub writes_all : length (commands_in reader bytes) ≡ engine.count → Appends before held (shown (language_of engine.handed) whose (commands_in reader' bytes))
      writes_all all = subst (λ (ls : Script). Appends before held (shown (language_of engine.handed) whose ls))
          (take_all engine.count (commands_in reader bytes) (omega (arith, all)) ∙ sym same_known) so.written

      pub writes_front : AppendsPrefix before held (shown (language_of engine.handed) whose (commands_in reader' bytes))
      writes_front = subst (λ (ls : Script). AppendsPrefix before held (shown (language_of engine.handed) whose ls)) (sym same_known)
          (front_of_shown (language_of engine.handed) (commands_in reader bytes) engine.count whose before held so.up_to.few so.written)

  -- there is one, and the engine is asked it
  module _ (engine engine' : EngineState) (command : Command) (steps steps' : ℕ) (at : slice_get (commands_in reader bytes) engine.count ≡ Some command) where
    tried_through : {T E T' E' : Type 0} (error : E) (error' : E') {begun : ℕ} → Asks {T = T} {E = E} engine command steps engine' steps' (Err error) → IsUpTo bytes reader engine begun steps
        → IsThrough {T = T'} {E = E'} bytes reader' engine' begun steps' (Err error')
    tried_through error error' {begun = begun} asks so = record {
      up_to = tt;
      all = tt;
      work =
          subst (λ (ls : Handed). AreWithinTries (language_of ls) (commands_in reader' bytes) begun steps') (sym asks.handed)
          (subst (λ (ls : Script). AreWithinTries (language_of engine.handed) ls begun steps') (sym same_known)
          (tried_work (commands_in reader bytes) engine.count command at (language_of engine.handed) begun steps steps' so.work (asks.work _ so.stands)));
    }

    module _ (whose before held : Option (List ℕ)) {begun : ℕ} (so : IsAnswered whose bytes reader engine before held begun steps) (handed : engine'.handed ≡ engine.handed) where
      stopped : (T : Type 0) (held' : Option (List ℕ)) (stop : Stop)
          → Writes {T = T} held held' (shown_answer (language_of engine.handed) whose (history_of (language_of engine.handed) [] (answered_in reader engine bytes)) (engine.count + 1) command) (Err stop)
          → Writes {T = T} before held' (shown (language_of engine.handed) whose (commands_in reader bytes)) (Err stop)
      stopped T held' NoMemory now = stopped_front before held held' _ _ _ _ (all_shown (commands_in reader bytes) engine.count command at (language_of engine.handed) whose) so.written now
      stopped T held' WriteFault now = stopped_later before held held' _ _ _ _ (all_shown (commands_in reader bytes) engine.count command at (language_of engine.handed) whose) so.written now

      pub writes_stopped : {T : Type 0} (held' : Option (List ℕ)) (stop : Stop) (result : Result T Stop) → result ≡ Err stop
          → Writes {T = T} held held' (shown_answer (language_of engine.handed) whose (history_of (language_of engine.handed) [] (answered_in reader engine bytes)) (engine.count + 1) command) (Err stop)
          → Writes {T = T} before held' (shown (language_of engine'.handed) whose (commands_in reader' bytes)) result
      writes_stopped {T = T} held' stop result is now =
          subst (λ (r : Result T Stop). Writes {T = T} before held' (shown (language_of engine'.handed) whose (commands_in reader' bytes)) r) (sym is)
          (subst (λ (ls : Handed). Writes {T = T} before held' (shown (language_of ls) whose (commands_in reader' bytes)) (Err stop)) (sym handed)
          (subst (λ (ls : Script). Writes {T = T} before held' (shown (language_of engine.handed) whose ls) (Err stop)) (sym same_known) (stopped T held' stop now)))

    -- it answered
    module _ {T E : Type 0} (done : T) (asks : Asks {T = T} {E = E} engine command steps engine' steps' (Ok done)) (follows : FollowsScript reader' bytes (engine.count + 1)) where
      more : answered_in reader' engine' bytes ≡ take (engine.count + 1) (commands_in reader bytes)
      more = λ i. take (asks.counted i) (same_known i)

      up_to_next : {begun : ℕ} → IsUpTo bytes reader engine begun steps → IsUpTo bytes reader' engine' begun steps'
      up_to_next {begun = begun} so =
          let within = slice_get_within (commands_in reader bytes) engine.count command at in
          let known = commands_in reader bytes in
          let history : history_of (language_of engine'.handed) [] (answered_in reader' engine' bytes) ≡ history_of (language_of engine.handed) [] (take (engine.count + 1) known) =
          λ i. history_of (language_of (asks.handed i)) [] (more i) in
          record {
            follows = subst (FollowsScript reader' bytes) (sym asks.counted) follows;
            few = omega (arith, within, asks.counted, ap length same_known);
            stands = subst (Stands engine') (sym (history ∙ front_history known engine.count command at (language_of engine.handed))) (asks.stands _ so.stands);
            work =
                subst (λ (ls : Handed). AreWithinTries (language_of ls) (answered_in reader' engine' bytes) begun steps') (sym asks.handed)
                (subst (λ (ls : Script). AreWithinTries (language_of engine.handed) ls begun steps') (sym more)
                (front_work known engine.count command at (language_of engine.handed) begun steps steps' so.work (asks.work _ so.stands)));
          }

      pub answered_next : {begun : ℕ} {whose before held held' : Option (List ℕ)} → (so : IsAnswered whose bytes reader engine before held begun steps)
          → Appends held held' (shown_answer (language_of engine.handed) whose (history_of (language_of engine.handed) [] (answered_in reader engine bytes)) (engine.count + 1) command)
          → IsAnswered whose bytes reader' engine' before held' begun steps'
      answered_next {whose = whose} {before = before} {held = held} {held' = held'} so now =
          let all : shown (language_of engine'.handed) whose (answered_in reader' engine' bytes) ≡ shown (language_of engine.handed) whose (take (engine.count + 1) (commands_in reader bytes)) =
          λ i. shown (language_of (asks.handed i)) whose (more i) in
          record {
            up_to = up_to_next so.up_to;
            written = subst (Appends before held') (sym (all ∙ front_shown (commands_in reader bytes) engine.count command at (language_of engine.handed) whose)) (Appends-trans before held held' _ _ so.written now);
          }

      pub tallied_next : {begun : ℕ} {tally tally' : Tally} → (so : IsTallied bytes reader engine tally begun steps)
          → tally' ≡ with_command (language_of engine.handed) tally (history_of (language_of engine.handed) [] (answered_in reader engine bytes)) (engine.count + 1) command
          → IsSmall tally' engine'.count → IsTallied bytes reader' engine' tally' begun steps'
      tallied_next {tally = tally} {tally' = tally'} so now small =
          let all : tally_of (language_of engine'.handed) (answered_in reader' engine' bytes) ≡ tally_of (language_of engine.handed) (take (engine.count + 1) (commands_in reader bytes)) =
          λ i. tally_of (language_of (asks.handed i)) (more i) in
          record {
            up_to = up_to_next so.up_to;
            tallied =
                now ∙ ap (λ (t : Tally). with_command (language_of engine.handed) t (history_of (language_of engine.handed) [] (answered_in reader engine bytes)) (engine.count + 1) command) so.tallied
                ∙ sym (all ∙ front_tally (commands_in reader bytes) engine.count command at (language_of engine.handed));
            small = small;
          }

-- the reader and the engine went on
pub record HasAdvanced (reader : ScriptState) (engine : EngineState) (steps : ℕ) (reader' : ScriptState) (engine' : EngineState) (steps' : ℕ) : Type 0 where
  pub up_to : (bytes : List ℕ) (begun : ℕ) → IsUpTo bytes reader engine begun steps → IsUpTo bytes reader' engine' begun steps'
  pub limit : limit_of reader' ≡ limit_of reader
  pub finished : is_finished reader' ≡ is_finished reader
  pub handed : engine'.handed ≡ engine.handed

pub advanced_none : (reader : ScriptState) (engine : EngineState) (steps : ℕ) → HasAdvanced reader engine steps reader engine steps
advanced_none reader engine steps = record { up_to = λ bytes begun so. so; limit = refl; finished = refl; handed = refl }

module _ {first : ScriptState} {begins : EngineState} {earlier : ℕ} {reader : ScriptState} {engine : EngineState} {steps : ℕ} (was : HasAdvanced first begins earlier reader engine steps)
    (reader' : ScriptState) (limit : limit_of reader' ≡ limit_of reader) (finished : is_finished reader' ≡ is_finished reader) where
  module _ (command : Command) (next : (bytes : List ℕ) (count : ℕ) → FollowsScript reader bytes count → (slice_get (commands_in reader bytes) count ≡ Some command) × FollowsScript reader' bytes (count + 1))
      {engine' : EngineState} {steps' : ℕ} where
    pub advanced_more : {T E : Type 0} (done : T) → Asks {T = T} {E = E} engine command steps engine' steps' (Ok done) → HasAdvanced first begins earlier reader' engine' steps'
    advanced_more done asks = record {
      up_to = λ bytes begun so.
          let up_to = was.up_to bytes begun so in
          let now = next bytes engine.count up_to.follows in
          up_to_next bytes reader reader' limit finished engine engine' command steps steps' now.0 done asks now.1 up_to;
      limit = limit ∙ was.limit;
      finished = finished ∙ was.finished;
      handed = asks.handed ∙ was.handed;
    }

    pub advances_tried : {T E T' E' : Type 0} (error : E) (result : Result T' E') (error' : E') → result ≡ Err error' → Asks {T = T} {E = E} engine command steps engine' steps' (Err error) → Advances first begins earlier reader' engine' steps' result
    advances_tried {T' = T'} {E' = E'} error result error' is asks = subst (λ (r : Result T' E'). Advances first begins earlier reader' engine' steps' r) (sym is) (record {
      through = λ bytes begun so.
          let up_to = was.up_to bytes begun so in
          tried_through bytes reader reader' limit finished engine engine' command steps steps' (next bytes engine.count up_to.follows).0 error error' asks up_to;
      limit = limit ∙ was.limit;
      finished = finished ∙ was.finished;
      handed = asks.handed ∙ was.handed;
    })

  pub advances_all : {T E : Type 0} (done : T) → ((bytes : List ℕ) (count : ℕ) → FollowsScript reader bytes count → (length (commands_in reader bytes) ≡ count) × FollowsScript reader' bytes count)
      → Advances {T = T} {E = E} first begins earlier reader' engine steps (Ok done)
  advances_all done all = record {
    through = λ bytes begun so.
        let up_to = was.up_to bytes begun so in
        let now = all bytes engine.count up_to.follows in
        all_through bytes reader reader' limit finished engine begun steps done now.0 now.1 up_to;
    limit = limit ∙ was.limit;
    finished = finished ∙ was.finished;
    handed = was.handed;
  }

  pub advances_not : {T E : Type 0} (error : E) → Advances {T = T} {E = E} first begins earlier reader' engine steps (Err error)
  advances_not error = record {
    through = λ bytes begun so. not_through bytes reader reader' limit finished engine begun steps error (was.up_to bytes begun so);
    limit = limit ∙ was.limit;
    finished = finished ∙ was.finished;
    handed = was.handed;
  }
