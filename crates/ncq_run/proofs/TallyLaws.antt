-- What is counted of commands, one after the other.
use Rattle.std.proofs.Common.{◌≡◌, ◌+◌, ◌*◌, ◌≤◌, ◌<◌, ◌^◌, ◌++◌, ◌∷◌, ℕ, Bool, zero, suc, ◌-◌, List, [], length, take, ap, sym, ◌∙◌, subst, arith, append_assoc}
use Rattle.std.specs.Prelude.{None, Some, Option, if◌then◌else◌, true, false}
use Rattle.std.specs.Option.{is_none}
use Rattle.ncq_callback.specs.Labels.{Handed}
use Rattle.std.proofs.lemmas.List.{append-nil, take_all}
use Rattle.ncq_report.specs.Loads.{load_text, part_text, parts_text}
use Rattle.ncq_report.specs.declared.tally.Tally.{Tally}
use Rattle.ncq_script.specs.declared.command.Command.{Command}
use Rattle.ncq_script.specs.declared.refusal.Refusal.{Refusal}
use Rattle.ncq_script.specs.Script.{script, whole_script}
use Rattle.ncq_script.specs.ScriptReading.{ScriptState, FollowsScript, is_finished, limit_of}
use Rattle.ncq_engine.specs.declared.span.Span.{Span}
use Rattle.ncq_engine.specs.History.{History}
use Rattle.ncq_engine.specs.Languages.{language_of}
use Rattle.ncq_engine.specs.Notices.{Language}
use Rattle.ncq_engine.specs.Output.{after, first_refusal, history_of, output}
use Rattle.ncq_engine.specs.Stands.{EngineState, Stands}
use Rattle.ncq_report.specs.Texts.{tally_text}
use Rattle.ncq_run.specs.Output.{AreWithinTries, load_output}
use Rattle.ncq_run.specs.Status.{StandsForThe}
use Rattle.ncq_run.proofs.Outputs.{known_closed, known_open}
use Rattle.ncq_run.proofs.WorkLaws.{all_work}
use Rattle.ncq_run.specs.Session.{IsSmall, IsTallied, answered_in, commands_in}
use Rattle.ncq_run.specs.Shown.{answer_spans}
use Rattle.ncq_run.specs.Tallies.{no_tally, one_if_refused, tally_after, tally_of, with_command}

abbrev Script : Type 0
Script = List Command

one_refused : (o : Option Refusal) (accepted : Bool) → accepted ≡ is_none o → (if accepted then 0 else 1) ≡ one_if_refused o
one_refused None accepted e = λ i. if e i then 0 else 1
one_refused (Some why) accepted e = λ i. if e i then 0 else 1

-- one command more
pub tally_is : (language : Language) (tally new : Tally) (history : History) (number : ℕ) (command : Command) (accepted : Bool) (notices bytes : ℕ) (places : List Span) (text : List ℕ)
    → new ≡ record { commands = tally.commands + 1; refused = tally.refused + (if accepted then 0 else 1); notices = tally.notices + notices; bytes = tally.bytes + bytes }
    → accepted ≡ is_none (first_refusal language history command) → notices ≡ length places → places ≡ answer_spans language history number command
    → bytes ≡ length text → text ≡ output language history number command → new ≡ with_command language tally history number command
tally_is language tally new history number command accepted notices bytes places text is a n p b t =
    let refused = one_refused (first_refusal language history command) accepted a in
    is ∙ (λ i. record {
      commands = tally.commands + 1;
      refused = tally.refused + refused i;
      notices = tally.notices + (n ∙ ap length p) i;
      bytes = tally.bytes + (b ∙ ap length t) i;
    })

-- it stays small
pub small_more : (tally new : Tally) (count count' : ℕ) (accepted : Bool) (notices bytes : ℕ) → IsSmall tally count → count' ≡ count + 1
    → new ≡ record { commands = tally.commands + 1; refused = tally.refused + (if accepted then 0 else 1); notices = tally.notices + notices; bytes = tally.bytes + bytes }
    → notices < 2 ^ 64 → bytes < 2 ^ 64 → IsSmall new count'
small_more tally new count count' accepted notices bytes small more is few short =
    let one : (if accepted then 0 else 1) ≤ 1 = elim accepted as (λ t. (if t then 0 else 1) ≤ 1) [ true ↦ omega arith | false ↦ omega arith ] in
    record {
      commands = ap (λ (t : Tally). t.commands) is ∙ (let e = small.commands in let l : tally.commands + 1 ≡ count' = omega (arith, e, more) in l);
      refused = let e = ap (λ (t : Tally). t.refused) is in let s = small.refused in omega (arith, e, s, one, more);
      notices = let e = ap (λ (t : Tally). t.notices) is in let s = small.notices in omega (arith, e, s, few, more);
      bytes = let e = ap (λ (t : Tally). t.bytes) is in let s = small.bytes in omega (arith, e, s, short, more);
    }

module _ (language : Language) where
  tally_join : (tally : Tally) (history : History) (number : ℕ) (xs ys : Script)
      → tally_after language tally history number (xs ++ ys) ≡ tally_after language (tally_after language tally history number xs) (history_of language history xs) (number + length xs) ys
  tally_join tally history number [] ys = ap (λ (n : ℕ). tally_after language tally history n ys) (let e : number ≡ number + 0 = omega arith in e)
  tally_join tally history number (x ∷ xs) ys =
      let shift : number + 1 + length xs ≡ number + suc (length xs) = omega arith in
      let counted = with_command language tally history number x in
      tally_join counted (after language history x) (number + 1) xs ys
      ∙ ap (λ (n : ℕ). tally_after language (tally_after language counted (after language history x) (number + 1) xs) (history_of language (after language history x) xs) n ys) shift

  -- the tally of those in front, and of those behind
  pub tally_then : (front rest : Script) (count : ℕ) → count ≡ length front
      → tally_of language (front ++ rest) ≡ tally_after language (tally_of language front) (history_of language [] front) (count + 1) rest
  tally_then front rest count counted =
      let shift : 1 + length front ≡ count + 1 = omega (arith, counted) in
      tally_join no_tally [] 1 front rest ∙ ap (λ (n : ℕ). tally_after language (tally_of language front) (history_of language [] front) n rest) shift

-- the commands in front of a load
parts_front : (n parts more : ℕ) → (rest : List ℕ) × (parts_text n (parts + more) ≡ parts_text n parts ++ rest)
parts_front n parts zero = ([], ap (parts_text n) (let e : parts + zero ≡ parts = omega arith in e) ∙ sym (append-nil (parts_text n parts)))
parts_front n parts (suc more) =
    let before = parts_front n parts more in (
      before.0 ++ part_text n (parts + more),
      ap (parts_text n) (let e : parts + suc more ≡ suc (parts + more) = omega arith in e) ∙ ap (λ (bs : List ℕ). bs ++ part_text n (parts + more)) before.1 ∙ append_assoc (parts_text n parts) before.0 (part_text n (parts + more)),
    )

-- steps within twice the work of all that may follow are within twice that of the load
pub load_work : (language : Language) (limit n parts begun steps : ℕ) → parts ≤ 2 * n + 4 → ((more : List ℕ) → AreWithinTries language (script limit (parts_text n parts ++ more)) begun steps) → AreWithinTries language (script limit (load_text n)) begun steps
load_work language limit n parts begun steps few work =
    let front = parts_front n parts ((2 * n + 4) - parts) in
    let whole : parts + ((2 * n + 4) - parts) ≡ 2 * n + 4 = omega (arith, few) in
    subst (λ (bs : List ℕ). AreWithinTries language (script limit bs) begun steps) (sym front.1 ∙ ap (parts_text n) whole) (work front.0)

-- the steps so far are within twice the work of the load, in the language that it began with
pub part_work : (handed : Handed) (limit n parts : ℕ) (bytes : List ℕ) (reader : ScriptState) (engine : EngineState) (begun steps : ℕ) → parts ≤ 2 * n + 4 → bytes ≡ parts_text n parts → engine.handed ≡ handed
    → limit_of reader ≡ limit → is_finished reader ≡ false → AreWithinTries (language_of engine.handed) (commands_in reader bytes) begun steps → AreWithinTries (language_of handed) (script limit (load_text n)) begun steps
part_work handed limit n parts bytes reader engine begun steps few is same limited opened work =
    load_work (language_of handed) limit n parts begun steps few (λ more. all_work (language_of handed) limit (parts_text n parts) begun more steps
    (subst (λ (ls : Handed). AreWithinTries (language_of ls) (whole_script limit (parts_text n parts)) begun steps) same
    (subst (λ (cs : Script). AreWithinTries (language_of engine.handed) cs begun steps)
    (known_open limit (limit_of reader) (is_finished reader) bytes limited opened ∙ ap (whole_script limit) is) work)))

-- the whole load was pushed, and its end was marked
module _ (handed : Handed) (limit n : ℕ) (bytes : List ℕ) (reader : ScriptState) (engine : EngineState) (begun steps : ℕ) (is : bytes ≡ load_text n) (same : engine.handed ≡ handed) (limited : limit_of reader ≡ limit)
    (closed : is_finished reader ≡ true) where
  load_known : commands_in reader bytes ≡ script limit (load_text n)
  load_known = known_closed limit (limit_of reader) (is_finished reader) bytes limited closed ∙ ap (script limit) is

  pub load_worked : AreWithinTries (language_of engine.handed) (commands_in reader bytes) begun steps → AreWithinTries (language_of handed) (script limit (load_text n)) begun steps
  load_worked work = subst (λ (ls : Handed). AreWithinTries (language_of ls) (script limit (load_text n)) begun steps) same
      (subst (λ (cs : Script). AreWithinTries (language_of engine.handed) cs begun steps) load_known work)

  pub load_tallied : (tally : Tally) → IsTallied bytes reader engine tally begun steps → engine.count ≡ length (commands_in reader bytes)
      → (tally ≡ tally_of (language_of handed) (script limit (load_text n))) × StandsForThe (language_of handed) (script limit (load_text n)) engine
  load_tallied tally so all =
      let answered : answered_in reader engine bytes ≡ script limit (load_text n) = take_all engine.count (commands_in reader bytes) (omega (arith, all)) ∙ load_known in (
        so.tallied ∙ (λ i. tally_of (language_of (same i)) (answered i)),
        (
          subst (Stands engine) (λ i. history_of (language_of (same i)) [] (answered i)) so.up_to.stands,
          all ∙ ap length load_known,
        ),
      )

-- nothing was pushed yet
pub loaded_none : (reader : ScriptState) (engine : EngineState) (tally : Tally) (begun : ℕ) → FollowsScript reader [] 0 → Stands engine [] × (engine.count ≡ 0) → tally ≡ no_tally → IsTallied [] reader engine tally begun begun
loaded_none reader engine tally begun follows fresh nothing =
    let none = fresh.1 in
    let empty : answered_in reader engine [] ≡ [] = ap (λ (n : ℕ). take n (commands_in reader [])) none in
    record {
      up_to = record {
        follows = subst (FollowsScript reader []) (sym none) follows;
        few = omega (arith, none);
        stands = subst (λ (ls : Script). Stands engine (history_of (language_of engine.handed) [] ls)) (sym empty) fresh.0;
        work = λ bound works. omega arith;
      };
      tallied = nothing ∙ sym (ap (tally_of (language_of engine.handed)) empty);
      small = subst (λ (t : Tally). IsSmall t engine.count) (sym nothing) (record { commands = sym none; refused = omega arith; notices = omega arith; bytes = omega arith });
    }

-- what is written of a load
pub load_is : (language : Language) (limit n : ℕ) (tally : Tally) (front text : List ℕ) → tally ≡ tally_of language (script limit (load_text n)) → front ≡ [] → text ≡ front ++ tally_text tally → text ≡ load_output language limit n
unfolding load_output
load_is language limit n tally front text is none written = written ∙ (λ i. none i ++ tally_text (is i))
