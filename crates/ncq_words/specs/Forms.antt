-- What the words of the command line ask for.
use Rattle.std.specs.Prelude.{ℕ, Bool, false, not, ◌==◌, ◌&&◌, List, [], ◌∷◌, Option, Some, None}
use Rattle.std.specs.Prelude.{if◌then◌else◌, codes, length, map, nat_le, option_map}
use Rattle.std.specs.Borrow.{Bor}
use Rattle.std.specs.Str.{bytes_eq}
use Rattle.ncq_base.specs.Numbers.{read_u64}
use Rattle.ncq_words.specs.declared.form.Form.{Form as GivenForm}
use Rattle.ncq_words.specs.declared.form.Form.TheVariants as given

-- a run of the script, a run that follows the subscriber of this name alone, or a load of so many
-- subscribers
pub data Form : Type 0 where
  run : Form
  alone : List ℕ → Form
  load : ℕ → Form

-- a word that can be a mode or a value: it is not empty and does not begin with `-` (45)
abbrev pub is_plain : List ℕ → Bool
is_plain [] = false
is_plain (b ∷ bytes) = not (b == 45)

-- the number where it is one from 1 to 2,000
abbrev pub in_range : Option ℕ → Option ℕ
in_range None = None
in_range (Some n) = if nat_le 1 n && nat_le n 2000 then Some n else None

-- the number of a load: 1 to 6 digits, from 1 to 2,000
abbrev pub load_number : List ℕ → Option ℕ
load_number word = if nat_le (length word) 6 then in_range (read_u64 word) else None

-- the form of a mode without a value
abbrev pub form_of_mode : List ℕ → Option Form
form_of_mode mode = if bytes_eq mode (codes "run") then Some run else None

-- `alone <name>`
abbrev pub alone_form : List ℕ → Option Form
alone_form name = if is_plain name then Some (alone name) else None

-- `load <n>`
abbrev pub load_form : List ℕ → Option Form
load_form number = option_map load (load_number number)

-- the form of a mode with a value
abbrev pub form_of_value : List ℕ → List ℕ → Option Form
form_of_value mode value =
    if bytes_eq mode (codes "alone") then alone_form value
    else (if bytes_eq mode (codes "load") then load_form value else None)

-- the form that the words fit: `run`, `alone <name>` or `load <n>`
abbrev pub form_of : List (List ℕ) → Option Form
form_of (mode ∷ []) = form_of_mode mode
form_of (mode ∷ value ∷ []) = form_of_value mode value
form_of _ = None

-- the texts of the words
abbrev pub texts_of : List (Bor (List ℕ)) → List (List ℕ)
texts_of = map (λ word. word.now)

-- the form that the code gives, with the bytes of its name
abbrev pub form_shown : GivenForm → Form
form_shown given.Run = run
form_shown (given.Alone name) = alone name.now
form_shown (given.Load count) = load count
