-- What crates above use of the commands of a script.
use Rattle.std.proofs.Common.{◌≡◌, ◌+◌, ◌<◌, ◌≤◌, ◌++◌, ◌∷◌, ◌∙◌, ℕ, Bool, false, List, [], length, drop, ap, sym, arith}
use Rattle.std.specs.Prelude.{Some, slice_get, map}
use Rattle.std.proofs.lemmas.List.{append-nil, drop_more, nil_from_length, map-append}
use Rattle.std.proofs.lemmas.Option.{slice_get_within, get_or_from_slice_get}
use Rattle.std.proofs.Math.Seq.{drop-append_seam}
use Rattle.ncq_script.specs.Reads.{read}
use Rattle.ncq_script.specs.Script.{script, whole_script, known_script}
use Rattle.ncq_script.specs.declared.command.Command.{Command}
use Rattle.ncq_script.proofs.CommandLaws.{few_known_commands, whole_commands_grow, commands_grow}
use Rattle.ncq_script.proofs.ScriptLaws.{as_many}

-- there are no more commands than bytes
few_known : (limit : ℕ) (finished : Bool) (bytes : List ℕ) → length (known_script limit finished bytes) ≤ length bytes
few_known limit finished bytes = omega (arith, as_many limit finished bytes, few_known_commands limit finished bytes)

-- where a command is next, fewer than the bytes were given
pub given_few : (limit : ℕ) (finished : Bool) (bytes : List ℕ) (count : ℕ) (command : Command) → slice_get (known_script limit finished bytes) count ≡ Some command → count < length bytes
given_few limit finished bytes count command at =
    let within = slice_get_within (known_script limit finished bytes) count command at in
    omega (arith, within, few_known limit finished bytes)

-- no byte, no command
pub whole_script-nil : (limit : ℕ) → whole_script limit [] ≡ []
whole_script-nil limit = let few : length (whole_script limit []) ≡ 0 = omega (arith, few_known limit false []) in nil_from_length (whole_script limit []) few

-- more bytes leave the whole commands in front, so that what was answered stands
whole_script_stays : (limit : ℕ) (bytes more : List ℕ) → (others : List Command) × (whole_script limit (bytes ++ more) ≡ whole_script limit bytes ++ others)
unfolding whole_script
whole_script_stays limit bytes more = let grow = whole_commands_grow limit bytes more in (map read grow.0, ap (map read) grow.1 ∙ map-append read _ grow.0)

script_stays : (limit : ℕ) (bytes more : List ℕ) → (others : List Command) × (script limit (bytes ++ more) ≡ whole_script limit bytes ++ others)
unfolding script whole_script
script_stays limit bytes more = let grow = commands_grow limit bytes more in (map read grow.0, ap (map read) grow.1 ∙ map-append read _ grow.0)

-- the same, with the others as what is left behind those that were given
seam : {X : Type 0} (all front others : List X) (count : ℕ) → all ≡ front ++ others → count ≡ length front → all ≡ front ++ drop count all
seam all front others count e counted = e ∙ ap (λ xs. front ++ xs) (sym (rw (e, counted) (drop-append_seam front others)))

pub whole_script_then : (limit count : ℕ) (bytes more : List ℕ) → count ≡ length (whole_script limit bytes)
    → whole_script limit (bytes ++ more) ≡ whole_script limit bytes ++ drop count (whole_script limit (bytes ++ more))
whole_script_then limit count bytes more counted = let stay = whole_script_stays limit bytes more in seam _ (whole_script limit bytes) stay.0 count stay.1 counted

pub script_then : (limit count : ℕ) (bytes more : List ℕ) → count ≡ length (whole_script limit bytes)
    → script limit (bytes ++ more) ≡ whole_script limit bytes ++ drop count (script limit (bytes ++ more))
script_then limit count bytes more counted = let stay = script_stays limit bytes more in seam _ (whole_script limit bytes) stay.0 count stay.1 counted

-- and where the end is marked behind them, with no more bytes
pub script_end : (limit count : ℕ) (bytes : List ℕ) → count ≡ length (whole_script limit bytes) → script limit bytes ≡ whole_script limit bytes ++ drop count (script limit bytes)
script_end limit count bytes counted =
    let stay = script_stays limit bytes [] in
    let same : script limit bytes ≡ script limit (bytes ++ []) = ap (script limit) (sym (append-nil bytes)) in
    seam _ (whole_script limit bytes) stay.0 count (same ∙ stay.1) counted

-- the next of a list moves from what is left to what was given
pub next_moves : {X : Type 0} (known : List X) (x : X) (count : ℕ) → slice_get known count ≡ Some x → drop count known ≡ x ∷ drop (count + 1) known
next_moves known x count at = drop_more known count x (slice_get_within known count x at) ∙ ap (λ y. y ∷ drop (count + 1) known) (get_or_from_slice_get known count x x at)
