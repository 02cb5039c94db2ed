-- The words of a line, and the command that a line begins.
use Rattle.std.specs.Prelude.{◌≡◌, ◌==◌, ◌||◌, ℕ, Bool, true, false, List, [], ◌∷◌, Option, Some}
use Rattle.std.specs.Prelude.{None, if◌then◌else◌, codes}
use Rattle.std.specs.List.{filter, slice_split}
use Rattle.std.specs.Str.{str_eq_ignore_ascii_case}
use Rattle.ncq_script.specs.declared.word.Keyword.{Keyword}
use Rattle.ncq_script.specs.declared.word.Keyword.TheVariants.{Source, Delta, Batch, Create, Delete}
use Rattle.ncq_script.specs.declared.word.Keyword.TheVariants.{Clock, Report, Unknown}

-- space, tab and carriage return part words
abbrev pub is_blank : ℕ → Bool
is_blank b = b == 32 || b == 9 || b == 13

-- not empty
abbrev pub is_word : List ℕ → Bool
is_word [] = false
is_word (b ∷ part) = true

-- the words of a line: what stands between blanks, and is not empty
abbrev pub words : List ℕ → List (List ℕ)
words text = filter is_word (slice_split is_blank text)

-- a word with `#` in front
abbrev pub is_comment : List ℕ → Bool
is_comment [] = false
is_comment (b ∷ word) = b == 35

-- the command that a word names, in any case of letters
abbrev pub keyword_of : List ℕ → Keyword
keyword_of word =
    if str_eq_ignore_ascii_case word (codes "source") then Source
    else (if str_eq_ignore_ascii_case word (codes "delta") then Delta
    else (if str_eq_ignore_ascii_case word (codes "batch") then Batch
    else (if str_eq_ignore_ascii_case word (codes "create") then Create
    else (if str_eq_ignore_ascii_case word (codes "delete") then Delete
    else (if str_eq_ignore_ascii_case word (codes "clock") then Clock
    else (if str_eq_ignore_ascii_case word (codes "report") then Report
    else Unknown))))))

-- a line without words, and a comment, begin nothing
abbrev pub begun_by : List (List ℕ) → Option Keyword
begun_by [] = None
begun_by (word ∷ more) = if is_comment word then None else Some (keyword_of word)

-- the command that a line outside a block begins
abbrev pub begins : List ℕ → Option Keyword
begins text = begun_by (words text)

-- nothing, or no blank in front
abbrev pub StartsWord : List ℕ → Type 0
StartsWord [] = Unit {0}
StartsWord (b ∷ text) = is_blank b ≡ false

-- nothing, or a blank in front
abbrev pub StartsBlank : List ℕ → Type 0
StartsBlank [] = Unit {0}
StartsBlank (b ∷ text) = is_blank b ≡ true
