-- What clap makes of plain words: they are the mode and the value, or they fit no form.
use Rattle.std.proofs.Common.{◌≡◌, ◌∙◌, ap, ap₂, sym, refl, subst, length, arith, true, List, [], ◌∷◌, Option, Some, None, is_some, codes, inl, inr}
use Rattle.std.specs.List.{list_all}
use Rattle.clap.specs.Walk.{Held, Text, Walk, arg_by_index, finished, first_of, nothing_held, settled, to_positional, value, walk, walked}
use Rattle.clap.specs.Simple.{App, Shape, app_of, app_of_fields, built, entered, is_simple, matches_of, new_app, on_top}
use Rattle.clap.specs.Kinds.{Kinds, or_else}
use Rattle.clap.specs.Faults.{check_fault, defaults_fault, entered_fault, fault_of, is_simple_and_free, settle_fault, step_fault, turn_fault, walk_fault}
use Rattle.clap.specs.Words.{HasKind, IsAmong, first_value, kind_of, rows_of}
use Rattle.clap.specs.declared.builder.command.Command.{Command}
use Rattle.clap.specs.declared.builder.command.Command.TheOpen.{Command-F}
use Rattle.clap.specs.declared.builder.command.Command.TheViews.{out-Command}
use Rattle.clap.specs.declared.error.Error.{Error}
use Rattle.clap.specs.declared.error.kind.ErrorKind.TheVariants as kind
use Rattle.clap.specs.declared.parser.matches.Found.{Found}
use Rattle.clap.proofs.OnLiterals.{clap_on_literals}
use Rattle.clap.proofs.WalkLemmas.{both, first_value-rows}
use Rattle.ncq_words.specs.Forms.{form_of, is_plain}
use Rattle.ncq_words.specs.Command.{bare_command, ncq_command, words_from}
use Rattle.ncq_words.proofs.Plain.{at, turn_fault-plain, walked-plain}

-- ---- the command of a mode and a value

abbrev command : App
command = built ncq_command

abbrev top : Shape
top = command.top

abbrev begun : Walk
begun = at 1 nothing_held

-- what is held behind the mode, and behind the value
abbrev with_mode : Text → Held
with_mode mode = record { rows = []; pending = Some (codes "mode", mode ∷ []); skip = 0 }

abbrev with_value : Text → Text → Held
with_value mode val = record {
  rows = (settled top.rules (with_mode mode)).rows;
  pending = Some (codes "value", val ∷ []);
  skip = 0;
}

to_positional-mode : (mode : Text) → to_positional top.rules (arg_by_index top.rules 1) mode begun nothing_held ≡ at 2 (with_mode mode)
to_positional-mode mode = refl

to_positional-value : (mode val : Text) → to_positional top.rules (arg_by_index top.rules 2) val (at 2 (with_mode mode)) (with_mode mode) ≡ at 3 (with_value mode val)
to_positional-value mode val = refl

step_fault-mode : step_fault top 1 nothing_held value ≡ []
step_fault-mode = refl

step_fault-value : (mode : Text) → step_fault top 2 (with_mode mode) value ≡ []
step_fault-value mode = refl

step_fault-third : (h : Held) → step_fault top 3 h value ≡ kind.UnknownArgument ∷ []
step_fault-third h = refl

pub is_simple_and_free-ncq : is_simple_and_free ncq_command ≡ true
unfolding clap_on_literals
is_simple_and_free-ncq = refl

pub is_simple-ncq : is_simple ncq_command ≡ true
unfolding clap_on_literals
is_simple-ncq = refl

-- `no_binary_name`, `disable_help_flag` and `disable_version_flag`
abbrev without_help : App → App
without_help a = on_top (λ s. record s {
  no_binary_name = true;
  disable_help_flag = true;
  disable_version_flag = true;
}) a

abbrev hides_help : Command-F Command → Command-F Command
hides_help c = record c { disable_help_flag = true }

abbrev hides_version : Command-F Command → Command-F Command
hides_version c = record c { disable_version_flag = true }

pub app_of-bare : (named words_only no_help no_version : Command)
    → app_of named ≡ new_app (codes "ncq")
    → out-Command words_only ≡ record (out-Command named) { no_binary_name = true }
    → out-Command no_help ≡ record (out-Command words_only) { disable_help_flag = true }
    → out-Command no_version ≡ record (out-Command no_help) { disable_version_flag = true }
    → app_of no_version ≡ bare_command
app_of-bare named words_only no_help no_version new first second third =
    ap app_of_fields (third ∙ ap hides_version (second ∙ ap hides_help first)) ∙ ap without_help new

-- ---- the walk over the words, and what fails on it

walked-mode : (mode : Text) → is_plain mode ≡ true → walked top.rules [] begun mode ≡ at 2 (with_mode mode)
walked-mode mode plain = walked-plain top 1 nothing_held mode plain ∙ to_positional-mode mode

walked-value : (mode val : Text) → is_plain val ≡ true → walked top.rules [] (at 2 (with_mode mode)) val ≡ at 3 (with_value mode val)
walked-value mode val plain = walked-plain top 2 (with_mode mode) val plain ∙ to_positional-value mode val

walk-mode : (mode : Text) → is_plain mode ≡ true → walk top.rules [] nothing_held (mode ∷ []) ≡ at 2 (with_mode mode)
walk-mode mode plain = walked-mode mode plain

walk-value : (mode val : Text) → is_plain mode ≡ true → is_plain val ≡ true → walk top.rules [] nothing_held (mode ∷ val ∷ []) ≡ at 3 (with_value mode val)
walk-value mode val plain also = ap (λ w. walked top.rules [] w val) (walked-mode mode plain) ∙ walked-value mode val also

-- the kinds over a first word, from those of its turn and of the words behind it
abbrev turns : Walk → Text → List Text → Kinds
turns w next rest = or_else (turn_fault top [] w next) (walk_fault top [] (walked top.rules [] w next) rest)

walk_fault-cons : (w : Walk) (next : Text) (rest : List Text) → walk_fault top [] w (next ∷ rest) ≡ turns w next rest
unfolding walk_fault
walk_fault-cons w next rest = refl

walk_fault-mode : (mode : Text) (rest : List Text) → is_plain mode ≡ true → walk_fault top [] begun (mode ∷ rest) ≡ walk_fault top [] (at 2 (with_mode mode)) rest
walk_fault-mode mode rest plain = walk_fault-cons begun mode rest
    ∙ ap₂ (λ kinds w. or_else kinds (walk_fault top [] w rest)) (turn_fault-plain top 1 nothing_held mode plain ∙ step_fault-mode) (walked-mode mode plain)

walk_fault-value : (mode val : Text) (rest : List Text) → is_plain val ≡ true
    → walk_fault top [] (at 2 (with_mode mode)) (val ∷ rest) ≡ walk_fault top [] (at 3 (with_value mode val)) rest
walk_fault-value mode val rest plain = walk_fault-cons (at 2 (with_mode mode)) val rest
    ∙ ap₂ (λ kinds w. or_else kinds (walk_fault top [] w rest)) (turn_fault-plain top 2 (with_mode mode) val plain ∙ step_fault-value mode) (walked-value mode val plain)

walk_fault-third : (h : Held) (word : Text) (rest : List Text) → is_plain word ≡ true → walk_fault top [] (at 3 h) (word ∷ rest) ≡ kind.UnknownArgument ∷ []
walk_fault-third h word rest plain = walk_fault-cons (at 3 h) word rest
    ∙ ap (λ kinds. or_else kinds (walk_fault top [] (walked top.rules [] (at 3 h) word) rest)) (turn_fault-plain top 3 h word plain ∙ step_fault-third h)

walk_fault-nil : (w : Walk) → walk_fault top [] w [] ≡ []
unfolding walk_fault
walk_fault-nil w = refl

-- the kinds of a parse, from the walk's end and the kinds on the way
abbrev ends_by : Walk → Kinds → Kinds
ends_by w kinds = or_else kinds
    (or_else (entered_fault command w.stopped)
    (or_else (settle_fault top.rules top.args_override_self w.held)
    (or_else (defaults_fault (settled top.rules w.held).rows top.rules)
    (check_fault top (finished top.rules w.held) (is_some (entered command w.stopped))))))

fault_of-parts : (words : List Text) → fault_of ncq_command words ≡ ends_by (walk top.rules [] nothing_held words) (walk_fault top [] begun words)
fault_of-parts words = refl

mode_ends : (mode : Text) → ends_by (at 2 (with_mode mode)) [] ≡ []
unfolding clap_on_literals
mode_ends mode = refl

value_ends : (mode val : Text) → ends_by (at 3 (with_value mode val)) [] ≡ []
unfolding clap_on_literals
value_ends mode val = refl

fault_of-mode : (mode : Text) → is_plain mode ≡ true → fault_of ncq_command (mode ∷ []) ≡ []
fault_of-mode mode plain = fault_of-parts (mode ∷ [])
    ∙ ap₂ ends_by (walk-mode mode plain) (walk_fault-mode mode [] plain ∙ walk_fault-nil (at 2 (with_mode mode))) ∙ mode_ends mode

fault_of-value : (mode val : Text) → is_plain mode ≡ true → is_plain val ≡ true → fault_of ncq_command (mode ∷ val ∷ []) ≡ []
fault_of-value mode val plain also = fault_of-parts (mode ∷ val ∷ [])
    ∙ ap₂ ends_by (walk-value mode val plain also) (walk_fault-mode mode (val ∷ []) plain ∙ (walk_fault-value mode val [] also ∙ walk_fault-nil (at 3 (with_value mode val))))
    ∙ value_ends mode val

fault_of-third : (mode val third : Text) (rest : List Text) → is_plain mode ≡ true → is_plain val ≡ true → is_plain third ≡ true
    → fault_of ncq_command (mode ∷ val ∷ third ∷ rest) ≡ kind.UnknownArgument ∷ []
fault_of-third mode val third rest plain also and = fault_of-parts (mode ∷ val ∷ third ∷ rest)
    ∙ ap (ends_by (walk top.rules [] nothing_held (mode ∷ val ∷ third ∷ rest)))
    (walk_fault-mode mode (val ∷ third ∷ rest) plain ∙ (walk_fault-value mode val (third ∷ rest) also ∙ walk_fault-third (with_value mode val) third rest and))

-- ---- the values that are found

-- `get_str`, of the matches that clap gives of the words, and of a walk over them
abbrev found : Text → List Text → Option Text
found id words = first_of id (matches_of ncq_command words)

abbrev found_in : Text → Walk → Option Text
found_in id w = first_of id (finished top.rules w.held)

found-mode : (mode : Text) → is_plain mode ≡ true → (found (codes "mode") (mode ∷ []) ≡ Some mode) × (found (codes "value") (mode ∷ []) ≡ None)
found-mode mode plain = (ap (found_in (codes "mode")) (walk-mode mode plain), ap (found_in (codes "value")) (walk-mode mode plain))

found-value : (mode val : Text) → is_plain mode ≡ true → is_plain val ≡ true
    → (found (codes "mode") (mode ∷ val ∷ []) ≡ Some mode) × (found (codes "value") (mode ∷ val ∷ []) ≡ Some val)
found-value mode val plain also = (ap (found_in (codes "mode")) (walk-value mode val plain also), ap (found_in (codes "value")) (walk-value mode val plain also))

-- ---- what a caller of the parse concludes

-- the words that a mode and a value stand for, where a mode is found
abbrev words_found : Option Text → Option Text → List Text
words_found None val = []
words_found (Some mode) val = words_from mode val

no_stray : (kinds : Kinds) → kinds ≡ kind.UnknownArgument ∷ [] → kinds ≡ [] → ⊥
no_stray kinds stray none =
    let bad : 1 ≡ 0 = ap length (sym stray ∙ none) in
    absurd (omega (arith, bad))

-- where nothing fails, plain words are those that are found
found-words : (words : List Text) → list_all is_plain words ≡ true → fault_of ncq_command words ≡ [] → words ≡ words_found (found (codes "mode") words) (found (codes "value") words)
found-words [] plain none = refl
found-words (mode ∷ []) plain none =
    let is = found-mode mode (both _ _ plain).0 in
    sym (ap₂ words_found is.0 is.1)
found-words (mode ∷ val ∷ []) plain none =
    let rest = both _ _ plain in
    let is = found-value mode val rest.0 (both _ _ rest.1).0 in
    sym (ap₂ words_found is.0 is.1)
found-words (mode ∷ val ∷ third ∷ others) plain none =
    let rest = both _ _ plain in
    let more = both _ _ rest.1 in
    let stray = fault_of-third mode val third others rest.0 more.0 (both _ _ more.1).0 in
    absurd (no_stray _ stray none)

no_fault : (e : Error) (kinds : Kinds) → (kind_of e ≡ kind.OutOfMemory → ⊥) → HasKind kinds e → kinds ≡ [] → ⊥
no_fault e kinds other (inl h) none = other h
no_fault e kinds other (inr h) none = subst (IsAmong (kind_of e)) none h

-- where something fails, plain words fit no form
pub refused : (words : List Text) (e : Error) → list_all is_plain words ≡ true → (kind_of e ≡ kind.OutOfMemory → ⊥) → HasKind (fault_of ncq_command words) e → form_of words ≡ None
refused [] e plain other has = refl
refused (mode ∷ []) e plain other has = absurd (no_fault e _ other has (fault_of-mode mode (both _ _ plain).0))
refused (mode ∷ val ∷ []) e plain other has =
    let rest = both _ _ plain in
    absurd (no_fault e _ other has (fault_of-value mode val rest.0 (both _ _ rest.1).0))
refused (mode ∷ val ∷ third ∷ others) e plain other has = refl

module _ (f : Found) (words : List Text) (plain : list_all is_plain words ≡ true) (none : fault_of ncq_command words ≡ []) (is : rows_of f ≡ matches_of ncq_command words) where
  words_read : words ≡ words_found (first_value f (codes "mode")) (first_value f (codes "value"))
  words_read = found-words words plain none
      ∙ ap₂ words_found (sym (first_value-rows f (codes "mode") ∙ ap (first_of (codes "mode")) is)) (sym (first_value-rows f (codes "value") ∙ ap (first_of (codes "value")) is))

  -- plain words are the mode and the value that clap gives
  pub words_are : (mode : Text) (val : Option Text) → first_value f (codes "mode") ≡ Some mode → first_value f (codes "value") ≡ val → words ≡ words_from mode val
  words_are mode val first second = words_read ∙ ap₂ words_found first second

  -- and where it gives no mode, there are none
  pub no_mode : first_value f (codes "mode") ≡ None → form_of words ≡ None
  no_mode first = ap form_of (words_read ∙ ap (λ mode. words_found mode (first_value f (codes "value"))) first)
