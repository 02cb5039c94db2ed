-- The line that answers a refused command.
use Rattle.std.specs.Prelude.{ℕ, List, [], ◌++◌, codes, decimal}
use Rattle.ncq_base.specs.declared.limit.Limit.{Limit}
use Rattle.ncq_base.specs.declared.limit.Limit.TheVariants as limit
use Rattle.ncq_script.specs.declared.refusal.Refusal.{Refusal}
use Rattle.ncq_script.specs.declared.refusal.Refusal.TheVariants as refusal

-- the number and the word of a refusal
abbrev pub word_of : Refusal → List ℕ
word_of refusal.Command = codes "1 command"
word_of refusal.Clock = codes "2 clock"
word_of refusal.SourceExists = codes "3 source-exists"
word_of refusal.NoSource = codes "4 no-source"
word_of (refusal.Pyx line) = codes "5 pyx"
word_of (refusal.Key position) = codes "6 key"
word_of (refusal.NoKey position) = codes "7 no-key"
word_of refusal.NameTaken = codes "8 name-taken"
word_of refusal.NoName = codes "9 no-name"
word_of refusal.Query = codes "10 query"
word_of refusal.Unbound = codes "11 unbound"
word_of refusal.Root = codes "12 root"
word_of refusal.Action = codes "13 action"
word_of refusal.Times = codes "14 times"
word_of (refusal.Limit which) = codes "15 limit"
word_of refusal.Unfinished = codes "16 unfinished"

-- the word of a limit
abbrev pub limit_word : Limit → List ℕ
limit_word limit.Line = codes "line"
limit_word limit.Nesting = codes "nesting"
limit_word limit.Pattern = codes "pattern"
limit_word limit.Arms = codes "arms"
limit_word limit.Slots = codes "slots"
limit_word limit.Conditions = codes "conditions"
limit_word limit.Path = codes "path"

-- a space and the value that the refusal shows, where it shows one
abbrev pub shown : Refusal → List ℕ
shown (refusal.Pyx line) = codes " " ++ decimal line
shown (refusal.Key position) = codes " " ++ decimal position
shown (refusal.NoKey position) = codes " " ++ decimal position
shown (refusal.Limit which) = codes " " ++ limit_word which
shown refusal.Command = []
shown refusal.Clock = []
shown refusal.SourceExists = []
shown refusal.NoSource = []
shown refusal.NameTaken = []
shown refusal.NoName = []
shown refusal.Query = []
shown refusal.Unbound = []
shown refusal.Root = []
shown refusal.Action = []
shown refusal.Times = []
shown refusal.Unfinished = []

-- `<k> refused <number> <word>`, and the shown value
abbrev pub refused_text : ℕ → Refusal → List ℕ
refused_text k refusal = decimal k ++ codes " refused " ++ word_of refusal ++ shown refusal
    ++ codes "\n"
