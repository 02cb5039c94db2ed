-- The text of a report, and of the tally of a load.
use Rattle.std.specs.Prelude.{ℕ, ◌++◌, List, codes, decimal, length}
use Rattle.std.specs.List.{flat_map}
use Rattle.ncq_signature.specs.declared.group.GroupLine.{GroupLine}
use Rattle.ncq_report.specs.declared.report.Summary.{Summary}
use Rattle.ncq_report.specs.declared.tally.Tally.{Tally}

-- a line of a word and a number
abbrev pub counted_line : List ℕ → ℕ → List ℕ
counted_line word number = word ++ codes " " ++ decimal number ++ codes "\n"

-- the line of a group: how many constants it has, and the text of its signature
abbrev pub group_text : GroupLine → List ℕ
group_text g = codes "group " ++ decimal g.constants ++ codes " " ++ g.text ++ codes "\n"

-- what a report says behind its answer line
abbrev pub report_text : Summary → List ℕ
report_text s =
    counted_line (codes "queries") s.queries
    ++ counted_line (codes "sources") s.sources
    ++ counted_line (codes "changes") s.changes
    ++ counted_line (codes "files") s.files
    ++ counted_line (codes "groups") (length s.groups)
    ++ flat_map group_text s.groups
    ++ codes "end\n"

-- what a load prints in the place of its output
abbrev pub tally_text : Tally → List ℕ
tally_text t =
    counted_line (codes "commands") t.commands
    ++ counted_line (codes "refused") t.refused
    ++ counted_line (codes "notices") t.notices
    ++ counted_line (codes "bytes") t.bytes
