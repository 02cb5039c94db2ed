-- The texts of notices.
use Rattle.std.specs.Prelude.{ℕ, ◌+◌, if◌then◌else◌, List, [], ◌∷◌, ◌++◌, codes, decimal}
use Rattle.std.specs.List.{flat_map}
use Rattle.ncq_base.specs.Escapes.{escaped}
use Rattle.ncq_bag.specs.declared.bag.Difference.{Difference}
use Rattle.ncq_callback.specs.declared.notice.Kind.{Kind}
use Rattle.ncq_callback.specs.declared.notice.Kind.TheVariants.{Print, Count, MailTo}

-- the line of a difference, then the canonical lines of its forest
abbrev pub entry_text : Difference → List ℕ
entry_text entry =
    (if entry.gain then codes "gain " else codes "lose ") ++ decimal entry.count ++ codes "\n"
    ++ entry.bytes

-- the entries of a notice, one after the other
abbrev pub entries_text : List Difference → List ℕ
entries_text entries = flat_map entry_text entries

-- a word, the name, the instant, and what stands behind them
abbrev pub begin_text : List ℕ → List ℕ → ℕ → List ℕ → List ℕ
begin_text word name instant behind = word ++ name ++ codes " " ++ decimal instant ++ behind

-- `notice <name> <instant>`, the entries, `end`
abbrev pub notice_text : List ℕ → ℕ → List Difference → List ℕ
notice_text name instant entries =
    begin_text (codes "notice ") name instant (codes "\n") ++ entries_text entries
    ++ codes "end\n"

-- the sum of the counts that are gained
abbrev pub gained : List Difference → ℕ
gained [] = 0
gained (entry ∷ more) = (if entry.gain then entry.count else 0) + gained more

-- the sum of the counts that are lost
abbrev pub lost : List Difference → ℕ
lost [] = 0
lost (entry ∷ more) = (if entry.gain then 0 else entry.count) + lost more

-- `count <name> <instant> gain <g> lose <l>`
abbrev pub count_text : List ℕ → ℕ → List Difference → List ℕ
count_text name instant entries =
    begin_text (codes "count ") name instant (codes " gain ") ++ decimal (gained entries)
    ++ codes " lose " ++ decimal (lost entries) ++ codes "\n"

-- `mail <name> <instant> <argument>` with the argument's escapes, the entries, `end`
abbrev pub mail_text : List ℕ → List ℕ → ℕ → List Difference → List ℕ
mail_text argument name instant entries =
    begin_text (codes "mail ") name instant (codes " ") ++ escaped argument ++ codes "\n"
    ++ entries_text entries ++ codes "end\n"

-- the text of a notice, by the kind of its handler
unfoldable pub render : Kind → List ℕ → List ℕ → ℕ → List Difference → List ℕ
render Print argument name instant entries = notice_text name instant entries
render Count argument name instant entries = count_text name instant entries
render MailTo argument name instant entries = mail_text argument name instant entries
