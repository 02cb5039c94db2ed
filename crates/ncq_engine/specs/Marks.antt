-- What has to be written down so that each mark is known: a change-based subscription's mark
-- follows from its first firing and the last changes of its sources.
use Rattle.std.specs.Prelude.{ℕ, ◌≤◌, max, ◌==◌, if◌then◌else◌, List, []}
use Rattle.std.specs.Prelude.{◌∷◌, Option, Some, None}
use Rattle.std.specs.Option.{option_map}
use Rattle.ncq_engine.specs.History.{History, moved, now, changes, last_change, Subscription}
use Rattle.ncq_engine.specs.Firing.{sources_of, marked, mark, fires}

-- the number at the first firing: it stays once it is there
abbrev pub first_marked : Option ℕ → ℕ → Option ℕ → Option ℕ
first_marked fired number (Some first) = Some first
first_marked fired number None = marked fired number None

-- the number of changes at its first firing, or none
abbrev pub first_mark : Subscription → History → Option ℕ
first_mark s [] = None
first_mark s (command ∷ before)
    = first_marked (fires s before command) (changes (command ∷ before)) (first_mark s before)

-- the greatest of the last changes of these sources
abbrev pub latest_change : List (List ℕ) → History → ℕ
latest_change [] history = 0
latest_change (source ∷ more) history
    = max (last_change source history) (latest_change more history)

-- what is written down of a subscription's mark: of a change-based one the number at its first
-- firing, of a timer its mark
abbrev pub noted : Subscription → History → Option ℕ
noted s history = if s.statement.every == 0 then first_mark s history else mark s history

-- the mark that follows from it
abbrev pub mark_from : Option ℕ → Subscription → History → Option ℕ
mark_from note s history = if s.statement.every == 0 then option_map
    (λ first. max first (latest_change (sources_of s.statement) history)) note else note

-- no command moves the clock back
abbrev pub IsRising : History → Type 0
IsRising [] = Unit {0}
IsRising (command ∷ before) = (now before ≤ moved command (now before)) × IsRising before
