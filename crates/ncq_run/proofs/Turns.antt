-- One turn of a session.
use Rattle.std.proofs.Common.{◌≡◌, ◌+◌, ◌-◌, ◌<◌, ◌≤◌, ◌++◌, ℕ, List, [], length, take, drop, min, arith, sym, ◌∙◌, ap, refl, subst, append_assoc, length-append, true, false}
use Rattle.std.specs.Prelude.{Option, None, Some, IfSome, Result, Ok, Err, OnOk}
use Rattle.std.specs.Io.KnownBytes.{Appends, Consumes, Keeps, IsAtEnd}
use Rattle.std.proofs.KnownBytes.{Consumes-nil, Appends-nil, Consumes-trans, Consumes-kept, Consumes-whole}
use Rattle.std.proofs.lemmas.List.{take-append-drop, take-take, length-take, append-nil, append_cancel_right, take_all}
use Rattle.std.proofs.Math.Seq.{take-append_seam}
use Rattle.ncq_outside.specs.Causes.{Rose, RoseBy}
use Rattle.ncq_outside.proofs.CallerLemmas.{RoseBy-at_least, RoseBy-at_most}
use Rattle.ncq_script.specs.declared.command.Command.{Command}
use Rattle.ncq_script.specs.Script.{script, whole_script}
use Rattle.ncq_script.specs.ScriptReading.{ScriptState, FollowsScript, is_finished, limit_of}
use Rattle.ncq_script.proofs.CallerLemmas.{whole_script-nil}
use Rattle.ncq_callback.specs.Labels.{Handed}
use Rattle.ncq_engine.specs.Languages.{language_of}
use Rattle.ncq_engine.specs.Notices.{Language}
use Rattle.ncq_engine.specs.Output.{history_of}
use Rattle.ncq_engine.specs.Stands.{EngineState, Stands}
use Rattle.ncq_run.proofs.Outputs.{known_closed, known_open, prefix_of_all, proper_of_all, shown_is}
use Rattle.ncq_run.proofs.WorkLaws.{all_work, no_step}
use Rattle.ncq_run.specs.declared.answer.Stop.{Stop}
use Rattle.ncq_run.specs.declared.answer.Stop.TheVariants as stop
use Rattle.ncq_run.specs.declared.session.Status.{Status}
use Rattle.ncq_run.specs.declared.session.Status.TheVariants as status
use Rattle.ncq_run.specs.Output.{output_of, output_of_whole, shown, AreWithinTries}
use Rattle.ncq_run.specs.Session.{IsOver, IsThrough, SoFar, Writes, answered_in, commands_in, status_of}
use Rattle.ncq_run.specs.Status.{Outside, outside, StandsForThe, AppendsPrefix, AppendsProperPrefix}

abbrev Script : Type 0
Script = List Command

with_rest : (a b : Option (List ℕ)) (bs : List ℕ) (P : List ℕ → Type 0) → Consumes a b bs → ((rest : List ℕ) → P (bs ++ rest)) → IfSome a P
with_rest None b bs P h p = tt
with_rest (Some xs) None bs P h p = absurd h
with_rest (Some xs) (Some ys) bs P h p = subst P (sym h) (p ys)

split_piece : (bytes buffer rest : List ℕ) (inside n : ℕ) → inside ≤ n → (bytes ++ take n buffer) ++ rest ≡ (bytes ++ take inside buffer) ++ (drop inside (take n buffer) ++ rest)
split_piece bytes buffer rest inside n le =
    let e : take n buffer ≡ take inside buffer ++ drop inside (take n buffer) = sym (take-append-drop inside (take n buffer)) ∙ ap (λ (xs : List ℕ). xs ++ drop inside (take n buffer)) (take-take inside n buffer le) in
    ap (λ (xs : List ℕ). (bytes ++ xs) ++ rest) e
    ∙ ap (λ (xs : List ℕ). xs ++ rest) (sym (append_assoc bytes (take inside buffer) (drop inside (take n buffer))))
    ∙ append_assoc (bytes ++ take inside buffer) (drop inside (take n buffer)) rest

-- known bytes that were taken are those in front of what is left
taken_are : (a b : Option (List ℕ)) (bs bytes rest : List ℕ) → Consumes a b bs → a ≡ Some (bytes ++ rest) → b ≡ Some rest → bs ≡ bytes
taken_are a b bs bytes rest read e f =
    let now : Consumes (Some (bytes ++ rest)) (Some rest) bs = subst (λ (x : Option (List ℕ)). Consumes x (Some rest) bs) e (subst (λ (y : Option (List ℕ)). Consumes a y bs) f read) in
    append_cancel_right bs bytes rest (sym now)

-- the front of what was written back is that of the piece read
pub written_front : (inside len : ℕ) (new items all front : List ℕ) → front ≡ take inside all → all ≡ take len (new ++ drop (length new) items) → length new ≡ len → front ≡ take inside new
written_front inside len new items all front e written same =
    let back : all ≡ new = written ∙ rw (← same) (take-append_seam new (drop (length new) items)) in
    e ∙ ap (λ (xs : List ℕ). take inside xs) back

pub nothing_written : (language : Language) (whose : Option (List ℕ)) (left held : Option (List ℕ)) (limit : ℕ) → IfSome left (λ script. AppendsPrefix held held (output_of language whose limit script))
nothing_written language whose None held limit = tt
nothing_written language whose (Some script) held limit = ([], output_of language whose limit script, refl, Appends-nil held)

rose_later : (a b c : ℕ) → a ≤ b → Rose b c → Rose a c
rose_later a b c le rose = omega arith

-- what a call says of commands that it was to answer, in one language
record Said {T : Type 0} (language : Language) (whose : Option (List ℕ)) (commands : Script) (engine : EngineState) (before held : Option (List ℕ)) (begun steps : ℕ) (result : Result T Stop) : Type 0 where
  stands : OnOk result (StandsForThe language commands engine)
  written : Writes before held (shown language whose commands) result
  work : AreWithinTries language commands begun steps

module _ {T : Type 0} (handed : Handed) (whose : Option (List ℕ)) (bytes : List ℕ) (reader : ScriptState) (engine : EngineState) (before held : Option (List ℕ)) (begun steps : ℕ) (same : engine.handed ≡ handed) where
  stands_said : (result : Result T Stop) → IsThrough bytes reader engine begun steps result → OnOk result (StandsForThe (language_of handed) (commands_in reader bytes) engine)
  stands_said (Ok done) through =
      let all : answered_in reader engine bytes ≡ commands_in reader bytes = take_all engine.count (commands_in reader bytes) (omega (arith, through.all)) in
      (subst (Stands engine) (λ i. history_of (language_of (same i)) [] (all i)) through.up_to.stands, through.all)
  stands_said (Err error) through = tt

  said : (commands : Script) → commands_in reader bytes ≡ commands → (result : Result T Stop) → IsThrough bytes reader engine begun steps result
      → Writes before held (shown (language_of engine.handed) whose (commands_in reader bytes)) result → Said (language_of handed) whose commands engine before held begun steps result
  said commands is result through written =
      subst (λ (cs : Script). Said (language_of handed) whose cs engine before held begun steps result) is (record {
        stands = stands_said result through;
        written = subst (λ (ls : Handed). Writes before held (shown (language_of ls) whose (commands_in reader bytes)) result) same written;
        work = subst (λ (ls : Handed). AreWithinTries (language_of ls) (commands_in reader bytes) begun steps) same through.work;
      })

module _ (whose : Option (List ℕ)) (reader : ScriptState) (engine : EngineState) (taken most : ℕ) (start : Outside) (left held : Option (List ℕ)) (given rf wf begun steps : ℕ)
    (so : SoFar whose reader engine taken start (outside left held given rf wf) begun steps) (opened : is_finished reader ≡ false) (within : taken ≤ most) where
  abbrev language : Language
  language = language_of engine.handed

  abbrev limit : ℕ
  limit = limit_of reader

  whole_is : commands_in reader so.bytes ≡ whole_script limit so.bytes
  whole_is = known_open limit limit (is_finished reader) so.bytes refl opened

  answered_is : answered_in reader engine so.bytes ≡ whole_script limit so.bytes
  answered_is = take_all engine.count (commands_in reader so.bytes) (let all = so.all in omega (arith, all)) ∙ whole_is

  whole_stands : StandsForThe language (whole_script limit so.bytes) engine
  whole_stands = (subst (λ (cs : Script). Stands engine (history_of language [] cs)) answered_is so.answered.up_to.stands, so.all ∙ ap length whole_is)

  whole_written : Appends start.held held (output_of_whole language whose limit so.bytes)
  unfolding output_of_whole
  whole_written = subst (λ (cs : Script). Appends start.held held (shown language whose cs)) answered_is so.answered.written

  module _ (left' : Option (List ℕ)) (given' rf' : ℕ) where
    -- the source failed
    pub over_read_fault : Keeps left left' → Rose rf rf' → IsOver language whose limit most start (outside left' held given' rf' wf) engine begun steps status.ReadFault
    over_read_fault kept rose = record {
      ended = record { rose = rose_later _ _ _ so.read_later rose; bytes = so.bytes; read = Consumes-kept _ _ _ _ so.read kept; written = whole_written };
      stands = λ bytes rest e f.
          let same : so.bytes ≡ bytes = taken_are start.left left' so.bytes bytes rest (Consumes-kept _ _ _ _ so.read kept) e f in
          subst (λ (bs : List ℕ). StandsForThe language (whole_script limit bs) engine) same whole_stands;
      work = with_rest start.left left so.bytes (λ bytes. AreWithinTries language (script limit bytes) begun steps) so.read
          (λ rest. all_work language limit so.bytes begun rest steps
          (subst (λ (cs : Script). AreWithinTries language cs begun steps) answered_is so.answered.up_to.work));
    }

  -- the call that answers what was read left this
  module _ (reader' : ScriptState) (engine' : EngineState) (left' held' : Option (List ℕ)) (given' rf' wf' steps' : ℕ) (handed : engine'.handed ≡ engine.handed) (limit' : limit_of reader' ≡ limit)
      (buffer : List ℕ) (n : ℕ) (read : Consumes left left' (take n buffer)) {T : Type 0} where
    -- at the end of the source
    module _ (none : n ≡ 0) (end : IsAtEnd left') (closed : is_finished reader' ≡ true) (result : Result T Stop) (through : IsThrough so.bytes reader' engine' begun steps' result)
        (writes : Writes start.held held' (shown (language_of engine'.handed) whose (commands_in reader' so.bytes)) result) where
      all_read : Consumes start.left left' so.bytes
      all_read =
          let e : so.bytes ++ take n buffer ≡ so.bytes = ap (λ (k : ℕ). so.bytes ++ take k buffer) none ∙ append-nil so.bytes in
          subst (λ (bs : List ℕ). Consumes start.left left' bs) e (Consumes-trans _ _ _ _ _ so.read read)

      at_end : (P : List ℕ → Type 0) → P so.bytes → IfSome start.left P
      at_end P p = Consumes-whole start.left left' so.bytes P all_read end p

      end_said : Said language whose (script limit so.bytes) engine' start.held held' begun steps' result
      end_said = said engine.handed whose so.bytes reader' engine' start.held held' begun steps' handed (script limit so.bytes)
          (known_closed limit (limit_of reader') (is_finished reader') so.bytes limit' closed) result through writes

      end_work : IfSome start.left (λ bytes. AreWithinTries language (script limit bytes) begun steps')
      end_work = at_end (λ bytes. AreWithinTries language (script limit bytes) begun steps') end_said.work

      pub over_done : (done : T) → result ≡ Ok done → RoseBy given n given' → IsOver language whose limit most start (outside left' held' given' rf' wf') engine' begun steps' status.Done
      unfolding output_of
      over_done done is rose = record {
        ended = record {
          at_end = end;
          written = at_end (λ script. Appends start.held held' (output_of language whose limit script)) (subst (λ r. Writes start.held held' (shown language whose (script limit so.bytes)) r) is end_said.written);
          within = let most' = so.given.at_most in let few = RoseBy-at_most _ _ _ rose in omega (arith, most', few, within);
        };
        stands = at_end (λ bytes. StandsForThe language (script limit bytes) engine') (subst (λ r. OnOk r (StandsForThe language (script limit so.bytes) engine')) is end_said.stands);
        work = end_work;
      }

      stopped_end : (why : Stop) → result ≡ Err why → (why ≡ stop.WriteFault → Rose wf wf') → IsOver language whose limit most start (outside left' held' given' rf' wf') engine' begun steps' (status_of why)
      unfolding output_of
      stopped_end stop.NoMemory is rose = record {
        ended = record { written = at_end (λ script. AppendsPrefix start.held held' (output_of language whose limit script)) (subst (λ r. Writes start.held held' (shown language whose (script limit so.bytes)) r) is end_said.written) };
        stands = tt;
        work = end_work;
      }
      stopped_end stop.WriteFault is rose = record {
        ended = record {
          rose = rose_later _ _ _ so.write_later (rose refl);
          written = at_end (λ script. AppendsProperPrefix start.held held' (output_of language whose limit script)) (subst (λ r. Writes start.held held' (shown language whose (script limit so.bytes)) r) is end_said.written);
        };
        stands = tt;
        work = end_work;
      }

      pub over_stopped_end : (why : Stop) (ended : Status) → result ≡ Err why → ended ≡ status_of why → (result ≡ Err stop.WriteFault → Rose wf wf')
          → IsOver language whose limit most start (outside left' held' given' rf' wf') engine' begun steps' ended
      over_stopped_end why ended is ends cause = subst (λ (s : Status). IsOver language whose limit most start (outside left' held' given' rf' wf') engine' begun steps' s) (sym ends)
          (stopped_end why is (λ e. cause (is ∙ ap Err e)))

    -- behind a piece
    module _ (inside : ℕ) (le : inside ≤ n) (piece : List ℕ) (front : piece ≡ take inside buffer) (open' : is_finished reader' ≡ false) (result : Result T Stop) (through : IsThrough (so.bytes ++ piece) reader' engine' begun steps' result)
        (writes : Writes start.held held' (shown (language_of engine'.handed) whose (commands_in reader' (so.bytes ++ piece))) result) where
      abbrev now_bytes : List ℕ
      now_bytes = so.bytes ++ take inside buffer

      now_is : so.bytes ++ piece ≡ now_bytes
      now_is = ap (λ (bs : List ℕ). so.bytes ++ bs) front

      over_rest : (P : List ℕ → Type 0) → ((more : List ℕ) → P (now_bytes ++ more)) → IfSome start.left P
      over_rest P p = with_rest start.left left' (so.bytes ++ take n buffer) P (Consumes-trans _ _ _ _ _ so.read read)
          (λ rest. subst P (sym (split_piece so.bytes buffer rest inside n le)) (p (drop inside (take n buffer) ++ rest)))

      piece_known : commands_in reader' (so.bytes ++ piece) ≡ whole_script limit now_bytes
      piece_known = known_open limit (limit_of reader') (is_finished reader') (so.bytes ++ piece) limit' open' ∙ ap (whole_script limit) now_is

      piece_said : Said language whose (whole_script limit now_bytes) engine' start.held held' begun steps' result
      piece_said = said engine.handed whose (so.bytes ++ piece) reader' engine' start.held held' begun steps' handed (whole_script limit now_bytes) piece_known result through writes

      piece_work : IfSome start.left (λ bytes. AreWithinTries language (script limit bytes) begun steps')
      piece_work = over_rest (λ bytes. AreWithinTries language (script limit bytes) begun steps') (λ more. all_work language limit now_bytes begun more steps' piece_said.work)

      stopped_piece : (why : Stop) → result ≡ Err why → (why ≡ stop.WriteFault → Rose wf wf') → IsOver language whose limit most start (outside left' held' given' rf' wf') engine' begun steps' (status_of why)
      stopped_piece stop.NoMemory is rose = record {
        ended = record {
          written = over_rest (λ script. AppendsPrefix start.held held' (output_of language whose limit script))
              (λ more. prefix_of_all language whose limit now_bytes more start.held held' (subst (λ r. Writes start.held held' (shown language whose (whole_script limit now_bytes)) r) is piece_said.written));
        };
        stands = tt;
        work = piece_work;
      }
      stopped_piece stop.WriteFault is rose = record {
        ended = record {
          rose = rose_later _ _ _ so.write_later (rose refl);
          written = over_rest (λ script. AppendsProperPrefix start.held held' (output_of language whose limit script))
              (λ more. proper_of_all language whose limit now_bytes more start.held held' (subst (λ r. Writes start.held held' (shown language whose (whole_script limit now_bytes)) r) is piece_said.written));
        };
        stands = tt;
        work = piece_work;
      }

      pub over_stopped : (why : Stop) (ended : Status) → result ≡ Err why → ended ≡ status_of why → (result ≡ Err stop.WriteFault → Rose wf wf')
          → IsOver language whose limit most start (outside left' held' given' rf' wf') engine' begun steps' ended
      over_stopped why ended is ends cause = subst (λ (s : Status). IsOver language whose limit most start (outside left' held' given' rf' wf') engine' begun steps' s) (sym ends)
          (stopped_piece why is (λ e. cause (is ∙ ap Err e)))

      module _ (done : T) (is : result ≡ Ok done) (room : n ≤ length buffer) (rose : RoseBy given n given') where
        piece_stands : StandsForThe language (whole_script limit now_bytes) engine'
        piece_stands = subst (λ r. OnOk r (StandsForThe language (whole_script limit now_bytes) engine')) is piece_said.stands

        piece_written : Appends start.held held' (output_of_whole language whose limit now_bytes)
        unfolding output_of_whole
        piece_written = subst (λ r. Writes start.held held' (shown language whose (whole_script limit now_bytes)) r) is piece_said.written

        -- it ends at the limit
        module _ (small : inside ≡ min n (most - taken)) (long : most - taken < n) where
          -- what is within the limit is what was read, and the piece up to it
          front_is : (more : List ℕ) → take most (now_bytes ++ more) ≡ now_bytes
          front_is more =
              let full : most ≡ length now_bytes = omega (arith, length-append so.bytes (take inside buffer), length-take inside buffer, so.long) in
              ap (λ (k : ℕ). take k (now_bytes ++ more)) full ∙ take-append_seam now_bytes more

          pub over_too_long : IsOver language whose limit most start (outside left' held' given' rf' wf') engine' begun steps' status.ScriptTooLong
          over_too_long = record {
            ended = record {
              more = omega (arith, so.given.at_least, RoseBy-at_least _ _ _ rose);
              long = with_rest start.left left' (so.bytes ++ take n buffer) (λ script. most < length script) (Consumes-trans _ _ _ _ _ so.read read)
                  (λ rest. omega (arith, length-append (so.bytes ++ take n buffer) rest, length-append so.bytes (take n buffer), length-take n buffer, so.long));
              written = over_rest (λ script. Appends start.held held' (output_of_whole language whose limit (take most script)))
                  (λ more. subst (λ (bs : List ℕ). Appends start.held held' (output_of_whole language whose limit bs)) (sym (front_is more)) piece_written);
            };
            stands = over_rest (λ script. StandsForThe language (whole_script limit (take most script)) engine')
                (λ more. subst (λ (bs : List ℕ). StandsForThe language (whole_script limit bs) engine') (sym (front_is more)) piece_stands);
            work = piece_work;
          }

        -- it was read whole
        module _ (same : inside ≡ n) (later : rf ≤ rf') (later' : wf ≤ wf') where
          pub goes_on : SoFar whose reader' engine' (taken + n) start (outside left' held' given' rf' wf') begun steps'
          goes_on =
              let ok = subst (λ r. IsThrough (so.bytes ++ piece) reader' engine' begun steps' r) is through in
              let full : answered_in reader' engine' (so.bytes ++ piece) ≡ commands_in reader' (so.bytes ++ piece) = take_all engine'.count (commands_in reader' (so.bytes ++ piece)) (let all = ok.all in omega (arith, all)) in
              record {
                bytes = so.bytes ++ piece;
                long = omega (arith, ap length now_is, length-append so.bytes (take inside buffer), length-take inside buffer, so.long);
                answered = record {
                  up_to = ok.up_to;
                  written = subst (λ (cs : Script). Appends start.held held' (shown (language_of engine'.handed) whose cs)) (sym full)
                      (subst (λ r. Writes start.held held' (shown (language_of engine'.handed) whose (commands_in reader' (so.bytes ++ piece))) r) is writes);
                };
                all = ok.all;
                read = subst (λ (bs : List ℕ). Consumes start.left left' bs) (sym (now_is ∙ ap (λ (k : ℕ). so.bytes ++ take k buffer) same)) (Consumes-trans _ _ _ _ _ so.read read);
                given = record { at_least = omega (arith, so.given.at_least, RoseBy-at_least _ _ _ rose); at_most = omega (arith, so.given.at_most, RoseBy-at_most _ _ _ rose) };
                read_later = omega (arith, so.read_later, later);
                write_later = omega (arith, so.write_later, later');
              }

pub at_start : (whose : Option (List ℕ)) (reader : ScriptState) (engine : EngineState) (left held : Option (List ℕ)) (given rf wf steps : ℕ) → FollowsScript reader [] 0 → is_finished reader ≡ false → Stands engine [] × (engine.count ≡ 0)
    → SoFar whose reader engine 0 (outside left held given rf wf) (outside left held given rf wf) steps steps
at_start whose reader engine left held given rf wf steps follows opened fresh =
    let none = fresh.1 in
    let empty : answered_in reader engine [] ≡ [] = ap (λ (n : ℕ). take n (commands_in reader [])) none in
    let nothing : commands_in reader [] ≡ [] = known_open (limit_of reader) (limit_of reader) (is_finished reader) [] refl opened ∙ whole_script-nil (limit_of reader) in
    record {
      bytes = [];
      long = refl;
      answered = record {
        up_to = record {
          follows = subst (FollowsScript reader []) (sym none) follows;
          few = omega (arith, none);
          stands = subst (λ (cs : Script). Stands engine (history_of (language_of engine.handed) [] cs)) (sym empty) fresh.0;
          work = λ bound works. omega arith;
        };
        written = subst (Appends held held) (sym (ap (shown (language_of engine.handed) whose) empty ∙ shown_is (language_of engine.handed) whose [])) (Appends-nil held);
      };
      all = none ∙ sym (ap length nothing);
      read = Consumes-nil left;
      given = record { at_least = omega arith; at_most = omega arith };
      read_later = omega arith;
      write_later = omega arith;
    }

-- memory ran out before the first turn
pub never_begun : (language : Language) (whose left held : Option (List ℕ)) (limit most given rf wf steps : ℕ) (engine : EngineState)
    → IsOver language whose limit most (outside left held given rf wf) (outside left held given rf wf) engine steps steps status.NoMemory
never_begun language whose left held limit most given rf wf steps engine = record { ended = record { written = nothing_written language whose left held limit }; stands = tt; work = no_step language limit left steps }

-- handed that stay leave the language
pub over_same : (handed handed' : Handed) → handed ≡ handed' → (whose : Option (List ℕ)) (limit limit' most most' : ℕ) (start now : Outside) (engine : EngineState) (begun steps : ℕ) (status : Status) → limit ≡ limit' → most ≡ most'
    → IsOver (language_of handed) whose limit most start now engine begun steps status → IsOver (language_of handed') whose limit' most' start now engine begun steps status
over_same handed handed' same whose limit limit' most most' start now engine begun steps status e f over = rw (← same, ← e, ← f) over

-- a session that stopped for a write fault alone ends with one, and none ends with a read fault
pub stopped_write : (why : Stop) (ended : Status) → ended ≡ status_of why → Some ended ≡ Some status.WriteFault → why ≡ stop.WriteFault
stopped_write stop.NoMemory ended ends is = let bad : Some status.NoMemory ≡ Some status.WriteFault = ap Some (sym ends) ∙ is in absurd cc
stopped_write stop.WriteFault ended ends is = refl

pub stopped_read : (why : Stop) (ended : Status) → ended ≡ status_of why → Some ended ≡ Some status.ReadFault → ⊥
stopped_read stop.NoMemory ended ends is = let bad : Some status.NoMemory ≡ Some status.ReadFault = ap Some (sym ends) ∙ is in absurd cc
stopped_read stop.WriteFault ended ends is = let bad : Some status.WriteFault ≡ Some status.ReadFault = ap Some (sym ends) ∙ is in absurd cc
