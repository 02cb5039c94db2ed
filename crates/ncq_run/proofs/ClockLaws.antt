-- The clock of accepted commands never falls.
use Rattle.std.proofs.Common.{◌≡◌, ℕ, ◌≤◌, Bool, true, false, List, [], ◌∷◌, refl, arith}
use Rattle.std.specs.Prelude.{Option, Some, None, nat_lt}
use Rattle.std.proofs.lemmas.Bool.Decides.{nat_tests}
use Rattle.ncq_script.specs.declared.command.Command.{Command}
use Rattle.ncq_script.specs.declared.command.Command.TheVariants.{Declare, Delta, Batch, Create, Delete, Clock, Report, Malformed}
use Rattle.ncq_script.specs.declared.refusal.Refusal.{Refusal}
use Rattle.ncq_script.specs.declared.refusal.Refusal.TheVariants as refusal
use Rattle.ncq_engine.specs.History.{History, moved, now}
use Rattle.ncq_engine.specs.Marks.{IsRising}
use Rattle.ncq_engine.specs.Notices.{Language}
use Rattle.ncq_engine.specs.Output.{after, first_refusal, history_of, refused_if, with_accepted}

stays : (n : ℕ) → n ≤ n
stays n = omega arith

module _ (language : Language) where
  -- an accepted command does not move the clock back
  never_back : (h : History) (command : Command) → first_refusal language h command ≡ None → now h ≤ moved command (now h)
  never_back h (Clock instant) none = by_test (nat_lt instant (now h)) refl none
    where
      by_test : (b : Bool) → nat_lt instant (now h) ≡ b → refused_if b refusal.Clock ≡ None → now h ≤ instant
      by_test true e n = absurd cc
      by_test false e n = grind (arith, nat_tests, e)
  never_back h (Declare name root key) none = stays (now h)
  never_back h (Delta changed) none = stays (now h)
  never_back h (Batch changed) none = stays (now h)
  never_back h (Create statement) none = stays (now h)
  never_back h (Delete name) none = stays (now h)
  never_back h Report none = stays (now h)
  never_back h (Malformed why) none = stays (now h)

  one_more : (h : History) (command : Command) (o : Option Refusal) → first_refusal language h command ≡ o → IsRising h → IsRising (with_accepted h command o)
  one_more h command None e rise = (never_back h command e, rise)
  one_more h command (Some why) e rise = rise

  after_rises : (h : History) (command : Command) → IsRising h → IsRising (after language h command)
  unfolding after
  after_rises h command rise = one_more h command (first_refusal language h command) refl rise

  pub histories_rise : (commands : List Command) (h : History) → IsRising h → IsRising (history_of language h commands)
  histories_rise [] h rise = rise
  histories_rise (command ∷ more) h rise = histories_rise more (after language h command) (after_rises h command rise)
