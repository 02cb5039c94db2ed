-- What the lines of a command say by their form.
use Rattle.std.specs.Prelude.{◌==◌, ◌||◌, ◌&&◌, ℕ, Bool, not, List, [], ◌∷◌, ◌++◌, Option, Some}
use Rattle.std.specs.Prelude.{None, if◌then◌else◌, nat_le, nat_lt, length, codes}
use Rattle.std.specs.List.{list_all, flat_map}
use Rattle.std.specs.Str.{str_eq_ignore_ascii_case}
use Rattle.ncq_base.specs.Names.{is_pyx_name}
use Rattle.ncq_script.specs.declared.command_lines.CommandLines.{CommandLines}

-- no quotation mark, backslash, comma or parenthesis
abbrev pub is_source_byte : ℕ → Bool
is_source_byte b = not (b == 34 || b == 92 || b == 44 || b == 40 || b == 41)

-- 1 to 255 such bytes
abbrev pub is_source_name : List ℕ → Bool
is_source_name text = nat_lt 0 (length text) && nat_le (length text) 255
    && list_all is_source_byte text

-- the one word behind the first: `delta <word>`
abbrev pub one_argument : List (List ℕ) → Option (List ℕ)
one_argument (first ∷ word ∷ []) = Some word
one_argument _ = None

-- what a `source` line says
pub record SourceWords : Type 0 where
  pub name : List ℕ
  pub root : List ℕ
  pub rule : List ℕ

-- `source <name> root <root> key <rule>`
abbrev pub source_form : List (List ℕ) → Option SourceWords
source_form (first ∷ name ∷ root_word ∷ root ∷ key_word ∷ rule ∷ []) =
    if str_eq_ignore_ascii_case root_word (codes "root")
    && str_eq_ignore_ascii_case key_word (codes "key") && is_source_name name
    && is_pyx_name root
    then Some (record { name = name; root = root; rule = rule })
    else None
source_form _ = None

-- a line behind a line feed
abbrev pub next_line : List ℕ → List ℕ
next_line line = 10 ∷ line

-- the text of a statement: its lines before the end of the block, joined by line feeds
abbrev pub statement_text : CommandLines → List ℕ
statement_text command = command.head ++ flat_map next_line command.block
