-- A reader of a script goes on following the bytes that it was pushed.
use Rattle.std.proofs.Common.{◌≡◌, ◌+◌, ◌<◌, ◌++◌, ◌∙◌, ℕ, Bool, true, false, List, [], length, length-append, ap, sym, arith, refl}
use Rattle.std.specs.Prelude.{Option, Some, None, Result, Ok, Err, IfOk, OnOk, OnErr, slice_get, map, option_map}
use Rattle.std.proofs.lemmas.List.{append-nil, length-map}
use Rattle.std.proofs.lemmas.Option.{slice_get_within, get_or_from_slice_get, slice_get-get_or, slice_get-map}
use Rattle.std.proofs.Math.ListN.{get_or-append}
use Rattle.ncq_script.specs.Commands.{commands, whole_commands, known_commands}
use Rattle.ncq_script.specs.Reads.{read}
use Rattle.ncq_script.specs.Reading.{CommandState, Follows}
use Rattle.ncq_script.specs.Script.{script, whole_script, known_script}
use Rattle.ncq_script.specs.ScriptReading.{FollowsWith, FollowsScript}
use Rattle.ncq_script.specs.NextOfScript.{IsNextCommand}
use Rattle.ncq_script.specs.declared.command.Command.{Command}
use Rattle.ncq_script.specs.declared.command_lines.CommandLines.{CommandLines}
use Rattle.ncq_script.specs.declared.script_reader.Next.{Next}
use Rattle.ncq_script.specs.declared.script_reader.Next.TheVariants as next
use Rattle.ncq_script.proofs.CommandLaws.{whole_commands_grow, commands_grow}

-- what can be told is what the lines say that can be told
known_read : (limit : ℕ) (finished : Bool) (bytes : List ℕ) → known_script limit finished bytes ≡ map read (known_commands limit finished bytes)
unfolding script whole_script
known_read limit true bytes = refl
known_read limit false bytes = refl

next_says : (limit : ℕ) (finished : Bool) (bytes : List ℕ) (count : ℕ) (lines : CommandLines) → slice_get (known_commands limit finished bytes) count ≡ Some lines
    → slice_get (known_script limit finished bytes) count ≡ Some (read lines)
next_says limit finished bytes count lines at =
    ap (λ (all : List Command). slice_get all count) (known_read limit finished bytes) ∙ slice_get-map read (known_commands limit finished bytes) count ∙ ap (option_map read) at

pub as_many : (limit : ℕ) (finished : Bool) (bytes : List ℕ) → length (known_script limit finished bytes) ≡ length (known_commands limit finished bytes)
as_many limit finished bytes = ap length (known_read limit finished bytes) ∙ length-map (known_commands limit finished bytes) read

-- what stands in front stays there
in_front : {X : Type 0} (front others : List X) (k : ℕ) (x : X) → slice_get front k ≡ Some x → slice_get (front ++ others) k ≡ Some x
in_front front others k x at =
    let within = slice_get_within front k x at in
    let longer : k < length (front ++ others) = omega (arith, within, length-append front others) in
    slice_get-get_or (front ++ others) k x longer ∙ ap Some (get_or-append front others x k within ∙ get_or_from_slice_get front k x x at)

-- lines that wait are next also where more bytes come, or the end
next_stays : (limit limit' : ℕ) (finished finished' : Bool) (bytes more : List ℕ) (count : ℕ) (lines : CommandLines) → limit' ≡ limit → finished ≡ false → finished' ≡ false
    → slice_get (known_commands limit finished bytes) count ≡ Some lines → slice_get (known_commands limit' finished' (bytes ++ more)) count ≡ Some lines
next_stays limit limit' false false bytes more count lines e is_open is_open' at =
    let grow = whole_commands_grow limit bytes more in
    ap (λ (n : ℕ). slice_get (whole_commands n (bytes ++ more)) count) e ∙ ap (λ (all : List CommandLines). slice_get all count) grow.1 ∙ in_front (whole_commands limit bytes) grow.0 count lines at
next_stays limit limit' true finished' bytes more count lines e is_open is_open' at = let bad : true ≡ false = is_open in cc
next_stays limit limit' false true bytes more count lines e is_open is_open' at = let bad : true ≡ false = is_open' in cc

next_ends : (limit limit' : ℕ) (finished finished' : Bool) (bytes : List ℕ) (count : ℕ) (lines : CommandLines) → limit' ≡ limit → finished' ≡ true
    → slice_get (known_commands limit finished bytes) count ≡ Some lines → slice_get (known_commands limit' finished' bytes) count ≡ Some lines
next_ends limit limit' true true bytes count lines e closed at = ap (λ (n : ℕ). slice_get (commands n bytes) count) e ∙ at
next_ends limit limit' false true bytes count lines e closed at =
    let grow = commands_grow limit bytes [] in
    let same : commands limit bytes ≡ whole_commands limit bytes ++ grow.0 = ap (commands limit) (sym (append-nil bytes)) ∙ grow.1 in
    ap (λ (n : ℕ). slice_get (commands n bytes) count) e ∙ ap (λ (all : List CommandLines). slice_get all count) same ∙ in_front (whole_commands limit bytes) grow.0 count lines at
next_ends limit limit' finished false bytes count lines e closed at = let bad : false ≡ true = closed in cc

pub pushed_script : (old new : CommandState) (waiting : Option CommandLines) (piece : List ℕ)
    → ((pushed : List ℕ) (n : ℕ) → Follows old pushed n → Follows new (pushed ++ piece) n) → new.lines.limit ≡ old.lines.limit → old.lines.finished ≡ false → new.lines.finished ≡ false
    → (pushed : List ℕ) (count : ℕ) → FollowsScript (record { reader = old; waiting = waiting }) pushed count → FollowsScript (record { reader = new; waiting = waiting }) (pushed ++ piece) count
unfolding FollowsScript
pushed_script old new None piece follows limit is_open is_open' pushed count f = follows pushed count f
pushed_script old new (Some lines) piece follows limit is_open is_open' pushed count f = (
  next_stays old.lines.limit new.lines.limit old.lines.finished new.lines.finished pushed piece count lines limit is_open is_open' f.0,
  follows pushed (count + 1) f.1,
)

pub ended_script : (old new : CommandState) (waiting : Option CommandLines)
    → ((pushed : List ℕ) (n : ℕ) → Follows old pushed n → Follows new pushed n) → new.lines.limit ≡ old.lines.limit → new.lines.finished ≡ true
    → (pushed : List ℕ) (count : ℕ) → FollowsScript (record { reader = old; waiting = waiting }) pushed count → FollowsScript (record { reader = new; waiting = waiting }) pushed count
unfolding FollowsScript
ended_script old new None follows limit closed pushed count f = follows pushed count f
ended_script old new (Some lines) follows limit closed pushed count f = (
  next_ends old.lines.limit new.lines.limit old.lines.finished new.lines.finished pushed count lines limit closed f.0,
  follows pushed (count + 1) f.1,
)

pub nothing_waits : (reader : CommandState) (waiting : Option CommandLines) (pushed : List ℕ) (count : ℕ) → waiting ≡ None → Follows reader pushed count
    → FollowsScript (record { reader = reader; waiting = waiting }) pushed count
unfolding FollowsScript
nothing_waits reader None pushed count none f = f
nothing_waits reader (Some lines) pushed count none f = cc

-- the lines of the next command were taken: it is given, or they wait
module _ (old new : CommandState) (pushed : List ℕ) (count : ℕ) (lines : CommandLines)
    (next : (slice_get (known_commands old.lines.limit old.lines.finished pushed) count ≡ Some lines) × Follows new pushed (count + 1)) where
  pub next_given : (waiting : Option CommandLines) (command : Command) → waiting ≡ None → command ≡ read lines
      → (slice_get (known_script old.lines.limit old.lines.finished pushed) count ≡ Some command) × FollowsScript (record { reader = new; waiting = waiting }) pushed (count + 1)
  next_given waiting command none says = (next_says old.lines.limit old.lines.finished pushed count lines next.0 ∙ ap Some (sym says), nothing_waits new waiting pushed (count + 1) none next.1)

  pub next_waits : (waiting : Option CommandLines) → waiting ≡ Some lines → new.lines.limit ≡ old.lines.limit → new.lines.finished ≡ old.lines.finished
      → FollowsScript (record { reader = new; waiting = waiting }) pushed count
  unfolding FollowsScript
  next_waits None some limit finished = cc
  next_waits (Some ours) some limit finished = ((λ i. slice_get (known_commands (limit i) (finished i) pushed) count) ∙ next.0 ∙ sym some, next.1)

-- the same, by what reading them answered
module _ (old new : CommandState) (before after : Option CommandLines) (lines : CommandLines)
    (taken : (pushed : List ℕ) (count : ℕ) → FollowsWith old before pushed count → (slice_get (known_commands old.lines.limit old.lines.finished pushed) count ≡ Some lines) × Follows new pushed (count + 1)) where
  pub read_given : {E : Type 0} (result : Result Next E) → IfOk result (λ given. given ≡ next.Command (read lines)) → OnOk result (after ≡ None)
      → IfOk result (λ given. (pushed : List ℕ) (count : ℕ) → FollowsScript (record { reader = old; waiting = before }) pushed count
      → IsNextCommand (record { reader = old; waiting = before }) (record { reader = new; waiting = after }) pushed count given)
  unfolding FollowsScript
  read_given (Ok (next.Command command)) says none = λ pushed count f. next_given old new pushed count lines (taken pushed count f) after command none (let e : next.Command command ≡ next.Command (read lines) = says in cc)
  read_given (Ok next.Wanting) says none = absurd (let e : next.Wanting ≡ next.Command (read lines) = says in cc)
  read_given (Ok next.End) says none = absurd (let e : next.End ≡ next.Command (read lines) = says in cc)
  read_given (Err e) says none = tt

  pub read_waits : {T E : Type 0} (result : Result T E) → OnErr result (after ≡ Some lines) → new.lines.limit ≡ old.lines.limit → new.lines.finished ≡ old.lines.finished
      → OnErr result ((pushed : List ℕ) (count : ℕ) → FollowsScript (record { reader = old; waiting = before }) pushed count → FollowsScript (record { reader = new; waiting = after }) pushed count)
  unfolding FollowsScript
  read_waits (Ok x) some limit finished = tt
  read_waits (Err e) some limit finished = λ pushed count f. next_waits old new pushed count lines (taken pushed count f) after some limit finished

-- nothing was taken
pub none_taken : (old new : CommandState) (before after : Option CommandLines) (pushed : List ℕ) (count : ℕ) → after ≡ None
    → (FollowsWith old before pushed count → Follows new pushed count) → FollowsScript (record { reader = old; waiting = before }) pushed count → FollowsScript (record { reader = new; waiting = after }) pushed count
unfolding FollowsScript
none_taken old new before after pushed count none follows f = nothing_waits new after pushed count none (follows f)

-- nothing is left: so many were given
pub none_left_over : (old new : CommandState) (before after : Option CommandLines) (pushed : List ℕ) (count : ℕ) (finished : Bool) → after ≡ None
    → (FollowsWith old before pushed count → (old.lines.finished ≡ finished) × (length (known_commands old.lines.limit old.lines.finished pushed) ≡ count) × Follows new pushed count)
    → FollowsScript (record { reader = old; waiting = before }) pushed count
    → (old.lines.finished ≡ finished) × (length (known_script old.lines.limit old.lines.finished pushed) ≡ count) × FollowsScript (record { reader = new; waiting = after }) pushed count
unfolding FollowsScript
none_left_over old new before after pushed count finished none all f =
    let this = all f in (this.0, as_many old.lines.limit old.lines.finished pushed ∙ this.1, nothing_waits new after pushed count none this.2)
