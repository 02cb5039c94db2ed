-- The limits of a script, as numbers of the promise.
use Rattle.std.specs.Prelude.{ℕ}

-- the longest script that is answered, in bytes
abbrev pub longest_script : ℕ
longest_script = 268435456

-- the longest line that is looked at whole, in bytes, without its LF and one CR at its end
abbrev pub longest_line : ℕ
longest_line = 1048576
