-- What calls that write leave of the sink.
use Rattle.std.proofs.Common.{◌≡◌, ◌≤◌, ℕ, List, arith, subst, sym, ◌∙◌}
use Rattle.std.specs.Prelude.{Option, Result, Ok, Err}
use Rattle.ncq_outside.specs.Causes.{IsFull, Rose}
use Rattle.ncq_run.specs.declared.answer.Stop.{Stop}
use Rattle.ncq_run.specs.declared.answer.Stop.TheVariants.{NoMemory, WriteFault}
use Rattle.ncq_run.specs.Session.{LeavesSink}

module _ {T : Type 0} (faults faults' sure sure' : ℕ) (held' : Option (List ℕ)) (later : faults ≤ faults') (stays : sure' ≡ sure) where
  pub sink_written : (done : T) → LeavesSink {T = T} faults faults' sure sure' held' (Ok done)
  sink_written done = record { later = later; cause = λ failed. absurd cc; full = λ failed. absurd cc; stays = stays }

  pub sink_unwritten : LeavesSink {T = T} faults faults' sure sure' held' (Err NoMemory)
  sink_unwritten = record { later = later; cause = λ failed. absurd cc; full = λ failed. absurd cc; stays = stays }

  pub sink_failed : Rose faults faults' → IsFull sure held' → LeavesSink {T = T} faults faults' sure sure' held' (Err WriteFault)
  sink_failed rose full = record { later = later; cause = λ failed. rose; full = λ failed. full; stays = stays }

-- calls before left it as sure
pub sink_later : {T : Type 0} (earlier faults faults' first sure sure' : ℕ) (held' : Option (List ℕ)) (result result' : Result T Stop) → earlier ≤ faults → sure ≡ first → result' ≡ result
    → LeavesSink {T = T} faults faults' sure sure' held' result → LeavesSink {T = T} earlier faults' first sure' held' result'
sink_later earlier faults faults' first sure sure' held' result result' le same is sink = record {
  later = let later = sink.later in omega (arith, le, later);
  cause = λ failed. let rose = sink.cause (sym is ∙ failed) in omega (arith, le, rose);
  full = λ failed. subst (λ (n : ℕ). IsFull n held') same (sink.full (sym is ∙ failed));
  stays = sink.stays ∙ same;
}
