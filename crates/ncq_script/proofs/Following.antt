-- A reader goes on following the bytes that it was pushed.
use Rattle.std.proofs.Common.{◌≡◌, ◌+◌, ◌++◌, ◌∙◌, inl, inr, ℕ, Bool, true, false, List, [], ◌∷◌, length, ap, refl, sym, append_assoc, arith, length-append}
use Rattle.std.specs.Prelude.{Option, Some, None, slice_get, IfSome, MatchOption}
use Rattle.std.specs.Option.{option_to_list}
use Rattle.std.specs.List.{filter}
use Rattle.std.proofs.lemmas.List.{append-nil}
use Rattle.std.proofs.lemmas.List.Elements.{filter-append}
use Rattle.std.proofs.lemmas.Option.{slice_get_within}
use Rattle.ncq_script.specs.Lines.{LineText, lines, known_lines}
use Rattle.ncq_script.specs.LineReading.{LineState, FollowsLines}
use Rattle.ncq_script.proofs.LineLaws.{whole_grow, lines_grow}
use Rattle.ncq_script.specs.Commands.{is_closed, commands_of_lines, commands, whole_commands, known_commands}
use Rattle.ncq_script.specs.OpenCommands.{commands_behind}
use Rattle.ncq_script.specs.Reading.{Took, Follows}
use Rattle.ncq_script.specs.declared.command_lines.CommandLines.{CommandLines}
use Rattle.ncq_script.proofs.Taken.{took_none, took_line, took_commands, at_front}

-- the commands given are the first of those that can be told
told : (limit : ℕ) (finished : Bool) (pushed : List ℕ) (current : Option CommandLines) (taken others : List LineText) (given : List CommandLines)
    → known_lines limit finished pushed ≡ taken ++ others → ((rest : List LineText) → commands_of_lines false (taken ++ rest) ≡ given ++ commands_behind current rest) → filter is_closed given ≡ given
    → (more : List CommandLines) × (known_commands limit finished pushed ≡ given ++ more)
unfolding commands whole_commands
told limit true pushed current taken others given front gives closed = (commands_behind current others, ap (commands_of_lines false) front ∙ gives others)
told limit false pushed current taken others given front gives closed = (
  filter is_closed (commands_behind current others),
  ap (λ (ls : List LineText). filter is_closed (commands_of_lines false ls)) front ∙ ap (filter is_closed) (gives others) ∙ filter-append is_closed given (commands_behind current others)
      ∙ ap (λ (cs : List CommandLines). cs ++ filter is_closed (commands_behind current others)) closed,
)

all_known : (limit : ℕ) (finished : Bool) (pushed : List ℕ) (listed : List CommandLines) → finished ≡ true → commands_of_lines false (known_lines limit finished pushed) ≡ listed → known_commands limit finished pushed ≡ listed
unfolding commands
all_known limit true pushed listed closed e = e
all_known limit false pushed listed closed e = let bad : false ≡ true = closed in cc

all_whole : (limit : ℕ) (finished : Bool) (pushed : List ℕ) (listed : List CommandLines) → finished ≡ false → commands_of_lines false (known_lines limit finished pushed) ≡ listed → known_commands limit finished pushed ≡ filter is_closed listed
unfolding whole_commands
all_whole limit false pushed listed is_open e = ap (filter is_closed) e
all_whole limit true pushed listed is_open e = let bad : true ≡ false = is_open in cc

none_open : (current : Option CommandLines) → IfSome current (λ command. command.closed ≡ false) → filter is_closed (option_to_list current) ≡ []
none_open None is_open = refl
none_open (Some command) is_open = rw is_open refl

no_line : (limit : ℕ) (finished : Bool) (pushed : List ℕ) (line : LineText) → finished ≡ true → slice_get (known_lines limit finished pushed) (length (lines limit pushed)) ≡ Some line → ⊥
no_line limit true pushed line closed at = absurd (omega (arith, slice_get_within (lines limit pushed) (length (lines limit pushed)) line at))
no_line limit false pushed line closed at = let bad : false ≡ true = closed in cc

known_more : (limit : ℕ) (finished finished' : Bool) (pushed piece : List ℕ) (taken others : List LineText) → finished ≡ false → finished' ≡ false → known_lines limit finished pushed ≡ taken ++ others
    → (others' : List LineText) × (known_lines limit finished' (pushed ++ piece) ≡ taken ++ others')
known_more limit false false pushed piece taken others is_open is_open' e =
    let grow = whole_grow limit pushed piece in
    (others ++ grow.0, grow.1 ∙ ap (λ (ls : List LineText). ls ++ grow.0) e ∙ append_assoc taken others grow.0)
known_more limit true finished' pushed piece taken others is_open is_open' e = let bad : true ≡ false = is_open in cc
known_more limit false true pushed piece taken others is_open is_open' e = let bad : true ≡ false = is_open' in cc

known_closed : (limit : ℕ) (finished finished' : Bool) (pushed : List ℕ) (taken others : List LineText) → finished' ≡ true → known_lines limit finished pushed ≡ taken ++ others
    → (others' : List LineText) × (known_lines limit finished' pushed ≡ taken ++ others')
known_closed limit true true pushed taken others closed e = (others, e)
known_closed limit false true pushed taken others closed e =
    let grow = lines_grow limit pushed [] in
    (others ++ grow.0, ap (lines limit) (sym (append-nil pushed)) ∙ grow.1 ∙ ap (λ (ls : List LineText). ls ++ grow.0) e ∙ append_assoc taken others grow.0)
known_closed limit finished false pushed taken others closed e = let bad : false ≡ true = closed in cc

again : (limit limit' : ℕ) (reader : LineState) (pushed : List ℕ) → limit' ≡ limit → FollowsLines reader pushed (length (lines limit pushed)) → FollowsLines reader pushed (length (lines limit' pushed))
again limit limit' reader pushed e f = rw e f

pub nothing_pushed : (reader : LineState) → FollowsLines reader [] 0 → Follows (record { lines = reader; current = None }) [] 0
unfolding Follows
nothing_pushed reader follows = inl ([], [], took_none reader [] follows, refl)

pub pushed_piece : (old new : LineState) (current : Option CommandLines) (piece : List ℕ)
    → ((pushed : List ℕ) (n : ℕ) → FollowsLines old pushed n → FollowsLines new (pushed ++ piece) n) → new.limit ≡ old.limit → old.finished ≡ false → new.finished ≡ false
    → (pushed : List ℕ) (count : ℕ) → Follows (record { lines = old; current = current }) pushed count → Follows (record { lines = new; current = current }) (pushed ++ piece) count
unfolding Follows
pushed_piece old new current piece follows limit is_open is_open' pushed count (inl f) =
    let took = f.2 in
    let front = known_more old.limit old.finished new.finished pushed piece f.0 took.front.0 is_open is_open' took.front.1 in
    inl (f.0, f.1, record { lines = follows pushed _ took.lines; front = rw limit front; gives = took.gives; closed = took.closed }, f.3)
pushed_piece old new current piece follows limit is_open is_open' pushed count (inr d) = let bad : true ≡ false = sym d.finished ∙ is_open in cc

pub end_marked : (old new : LineState) (current : Option CommandLines)
    → ((pushed : List ℕ) (n : ℕ) → FollowsLines old pushed n → FollowsLines new pushed n) → new.limit ≡ old.limit → new.finished ≡ true
    → (pushed : List ℕ) (count : ℕ) → Follows (record { lines = old; current = current }) pushed count → Follows (record { lines = new; current = current }) pushed count
unfolding Follows
end_marked old new current follows limit closed pushed count (inl f) =
    let took = f.2 in
    let front = known_closed old.limit old.finished new.finished pushed f.0 took.front.0 closed took.front.1 in
    inl (f.0, f.1, record { lines = follows pushed _ took.lines; front = rw limit front; gives = took.gives; closed = took.closed }, f.3)
end_marked old new current follows limit closed pushed count (inr d) =
    inr record { finished = closed; none = d.none; lines = again old.limit new.limit new pushed limit (follows pushed _ d.lines); all = rw limit d.all }

-- the reader of lines moved, and gave none
pub lines_moved : (old new : LineState) (current : Option CommandLines)
    → ((pushed : List ℕ) (n : ℕ) → FollowsLines old pushed n → FollowsLines new pushed n) → new.limit ≡ old.limit → new.finished ≡ old.finished
    → (pushed : List ℕ) (count : ℕ) → Follows (record { lines = old; current = current }) pushed count → Follows (record { lines = new; current = current }) pushed count
unfolding Follows
lines_moved old new current follows limit finished pushed count (inl f) =
    let took = f.2 in
    inl (f.0, f.1, record { lines = follows pushed _ took.lines; front = rw (limit, finished) took.front; gives = took.gives; closed = took.closed }, f.3)
lines_moved old new current follows limit finished pushed count (inr d) =
    inr record { finished = finished ∙ d.finished; none = d.none; lines = again old.limit new.limit new pushed limit (follows pushed _ d.lines); all = rw limit d.all }

-- a line comes: the command that it ends is next
module _ (old new : LineState) (before after : Option CommandLines) (line : LineText) (limit : new.limit ≡ old.limit) (finished : new.finished ≡ old.finished)
    (next : (pushed : List ℕ) (n : ℕ) → FollowsLines old pushed n → (slice_get (known_lines old.limit old.finished pushed) n ≡ Some line) × FollowsLines new pushed (n + 1)) where
  line_taken : (result : Option CommandLines) → ((rest : List LineText) → commands_behind before (line ∷ rest) ≡ option_to_list result ++ commands_behind after rest) → IfSome result (λ command. command.closed ≡ true)
      → (pushed : List ℕ) (count : ℕ) → Follows (record { lines = old; current = before }) pushed count
      → MatchOption result (Follows (record { lines = new; current = after }) pushed count)
      (λ command. (slice_get (known_commands old.limit old.finished pushed) count ≡ Some command) × Follows (record { lines = new; current = after }) pushed (count + 1))
  unfolding Follows
  line_taken None gives closed pushed count (inl f) =
      let this = next pushed (length f.0) f.2.lines in
      let took = took_line old new before after pushed f.0 f.1 line None f.2 this.0 this.1 limit finished gives closed in
      inl (f.0 ++ line ∷ [], f.1 ++ [], took, ap length (append-nil f.1) ∙ f.3)
  line_taken (Some command) gives closed pushed count (inl f) =
      let this = next pushed (length f.0) f.2.lines in
      let took = took_line old new before after pushed f.0 f.1 line (Some command) f.2 this.0 this.1 limit finished gives closed in
      let all = told new.limit new.finished pushed after (f.0 ++ line ∷ []) took.front.0 (f.1 ++ command ∷ []) took.front.1 took.gives took.closed in
      let known : known_commands old.limit old.finished pushed ≡ (f.1 ++ command ∷ []) ++ all.0 = sym (λ i. known_commands (limit i) (finished i) pushed) ∙ all.1 in (
        rw (known, append_assoc f.1 (command ∷ []) all.0, ← f.3) (at_front f.1 all.0 command),
        inl (f.0 ++ line ∷ [], f.1 ++ command ∷ [], took, length-append f.1 (command ∷ []) ∙ ap (λ (n : ℕ). n + 1) f.3),
      )
  line_taken result gives closed pushed count (inr d) = absurd (no_line old.limit old.finished pushed line d.finished (next pushed _ d.lines).0)

  pub line_joined : (result : Option CommandLines) → result ≡ None → ((rest : List LineText) → commands_behind before (line ∷ rest) ≡ option_to_list result ++ commands_behind after rest)
      → (pushed : List ℕ) (count : ℕ) → Follows (record { lines = old; current = before }) pushed count → Follows (record { lines = new; current = after }) pushed count
  line_joined None is gives pushed count f = line_taken None gives tt pushed count f
  line_joined (Some command) is gives pushed count f = cc

  pub line_ended : (result : Option CommandLines) (command : CommandLines) → result ≡ Some command → ((rest : List LineText) → commands_behind before (line ∷ rest) ≡ option_to_list result ++ commands_behind after rest) → command.closed ≡ true
      → (pushed : List ℕ) (count : ℕ) → Follows (record { lines = old; current = before }) pushed count
      → (slice_get (known_commands old.limit old.finished pushed) count ≡ Some command) × Follows (record { lines = new; current = after }) pushed (count + 1)
  line_ended result command is gives closed pushed count f = line_taken (Some command) (rw is at gives) closed pushed count f

all_told : (limit : ℕ) (finished : Bool) (pushed : List ℕ) → finished ≡ true → known_commands limit finished pushed ≡ commands limit pushed
all_told limit true pushed closed = refl
all_told limit false pushed closed = let bad : false ≡ true = closed in cc

lines_drained : (limit : ℕ) (finished : Bool) (reader : LineState) (pushed : List ℕ) (n : ℕ) → finished ≡ true → length (known_lines limit finished pushed) ≡ n → FollowsLines reader pushed n → FollowsLines reader pushed (length (lines limit pushed))
lines_drained limit true reader pushed n closed e f = rw e f
lines_drained limit false reader pushed n closed e f = let bad : false ≡ true = closed in cc

-- no line comes
module _ (old new : LineState) (current : Option CommandLines) (limit : new.limit ≡ old.limit) (finished : new.finished ≡ old.finished) (is_open : IfSome current (λ command. command.closed ≡ false)) where
  same : (pushed : List ℕ) (taken : List LineText) (given : List CommandLines) → Took old current pushed taken given → FollowsLines new pushed (length taken) → Took new current pushed taken given
  same pushed taken given took follows = record { lines = follows; front = rw (limit, finished) took.front; gives = took.gives; closed = took.closed }

  pub wanting : ((pushed : List ℕ) (n : ℕ) → FollowsLines old pushed n → (old.finished ≡ false) × (length (known_lines old.limit old.finished pushed) ≡ n) × FollowsLines new pushed n)
      → (pushed : List ℕ) (count : ℕ) → Follows (record { lines = old; current = current }) pushed count
      → (old.finished ≡ false) × (length (known_commands old.limit old.finished pushed) ≡ count) × Follows (record { lines = new; current = current }) pushed count
  unfolding Follows
  wanting next pushed count (inl f) =
      let this = next pushed (length f.0) f.2.lines in
      let listed = all_whole old.limit old.finished pushed _ this.0 (took_commands old current pushed f.0 f.1 f.2 this.1 is_open) in
      let given : known_commands old.limit old.finished pushed ≡ f.1 =
      listed ∙ filter-append is_closed f.1 (option_to_list current) ∙ ap (λ (cs : List CommandLines). filter is_closed f.1 ++ cs) (none_open current is_open) ∙ append-nil _ ∙ f.2.closed in
      (this.0, ap length given ∙ f.3, inl (f.0, f.1, same pushed f.0 f.1 f.2 this.2, f.3))
  wanting next pushed count (inr d) = let bad : true ≡ false = sym d.finished ∙ (next pushed _ d.lines).0 in cc

  module _ (next : (pushed : List ℕ) (n : ℕ) → FollowsLines old pushed n → (old.finished ≡ true) × (length (known_lines old.limit old.finished pushed) ≡ n) × FollowsLines new pushed n) where
    pub at_end : current ≡ None → (pushed : List ℕ) (count : ℕ) → Follows (record { lines = old; current = current }) pushed count
        → (old.finished ≡ true) × (length (known_commands old.limit old.finished pushed) ≡ count) × Follows (record { lines = new; current = None }) pushed count
    unfolding Follows
    at_end none pushed count (inl f) =
        let this = next pushed (length f.0) f.2.lines in
        let listed = all_known old.limit old.finished pushed _ this.0 (took_commands old current pushed f.0 f.1 f.2 this.1 is_open) in
        let given : known_commands old.limit old.finished pushed ≡ f.1 = listed ∙ ap (λ (g : Option CommandLines). f.1 ++ option_to_list g) none ∙ append-nil f.1 in
        (this.0, ap length given ∙ f.3, inl (f.0, f.1, rw none at (same pushed f.0 f.1 f.2 this.2), f.3))
    at_end none pushed count (inr d) =
        let this = next pushed _ d.lines in
        (this.0, ap length (all_told old.limit old.finished pushed this.0) ∙ d.all, inr record { finished = finished ∙ this.0; none = refl; lines = again old.limit new.limit new pushed limit this.2; all = rw limit d.all })

    pub at_last : (command : CommandLines) → current ≡ Some command → (pushed : List ℕ) (count : ℕ) → Follows (record { lines = old; current = current }) pushed count
        → (slice_get (known_commands old.limit old.finished pushed) count ≡ Some command) × Follows (record { lines = new; current = None }) pushed (count + 1)
    unfolding Follows
    at_last command some pushed count (inl f) =
        let this = next pushed (length f.0) f.2.lines in
        let listed = all_known old.limit old.finished pushed _ this.0 (took_commands old current pushed f.0 f.1 f.2 this.1 is_open) in
        let given : known_commands old.limit old.finished pushed ≡ f.1 ++ command ∷ [] = listed ∙ ap (λ (g : Option CommandLines). f.1 ++ option_to_list g) some in
        let count_is : length (known_commands old.limit old.finished pushed) ≡ count + 1 = ap length given ∙ length-append f.1 (command ∷ []) ∙ ap (λ (n : ℕ). n + 1) f.3 in (
          rw (given, ← f.3) (at_front f.1 [] command),
          inr record { finished = finished ∙ this.0; none = refl; lines = again old.limit new.limit new pushed limit (lines_drained old.limit old.finished new pushed _ this.0 this.1 this.2); all = rw limit (sym (ap length (all_told old.limit old.finished pushed this.0)) ∙ count_is) },
        )
    at_last command some pushed count (inr d) = let bad : None ≡ Some command = sym d.none ∙ some in cc
