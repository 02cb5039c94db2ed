-- What a command costs: the rows that it makes, each expression of the live queries counted once.
use Rattle.std.specs.Prelude.{◌≡◌, ◌+◌, ◌≤◌, ℕ, List, [], ◌∷◌, length, Option, Some, None}
use Rattle.ncq_base.specs.Counts.{total_by}
use Rattle.ncq_change.specs.Entries.{scans_of}
use Rattle.ncq_plan.specs.ExprLists.{IsIn}
use Rattle.ncq_plan.specs.declared.expr.Expr.{Expr}
use Rattle.ncq_plan.specs.Deltas.{delta_of}
use Rattle.ncq_plan.specs.Exprs.{rows_in}
use Rattle.ncq_plan.specs.Totals.{SignedRow}
use Rattle.ncq_pyx.specs.declared.item.Item.{Item}
use Rattle.ncq_script.specs.declared.command.Command.{Command}
use Rattle.ncq_script.specs.declared.command.Command.TheVariants.{Delta, Batch, Create}
use Rattle.ncq_shelf.specs.Parts.{IsPartOfOne}
use Rattle.ncq_source.specs.Sections.{items_for}
use Rattle.ncq_source.specs.declared.change.Section.{Section}
use Rattle.ncq_source.specs.Changes.{Trial, prepared}
use Rattle.ncq_source.specs.Changes.Trial.{Good}
use Rattle.ncq_source.specs.declared.change.Entry.{Entry}
use Rattle.ncq_engine.specs.History.{History, Source, source_in, sources, with_sections, world}
use Rattle.ncq_engine.specs.Applies.{OfEach}
use Rattle.ncq_engine.specs.Languages.{language_of}
use Rattle.ncq_engine.specs.Notices.{Language}
use Rattle.ncq_engine.specs.Output.{after, first_refusal, unless_refused}
use Rattle.ncq_engine.specs.Plannings.{live_plans}
use Rattle.ncq_engine.specs.Stands.{EngineState}

-- the entries of a trial that is good
abbrev pub prepared_entries : Trial (List Entry) → List Entry
prepared_entries (Good entries) = entries
prepared_entries trial = []

-- what the items do to a source
abbrev pub entries_in : List Item → Option Source → List Entry
entries_in items None = []
entries_in items (Some source) = prepared_entries (prepared source.key 1 source.elements items)

-- what the sections do to the source of a name
abbrev pub entries_for : List Section → List Source → List ℕ → List Entry
entries_for changed sources name = entries_in (items_for name changed) (source_in name sources)

-- the signed rows that a change makes of an expression
abbrev pub delta_rows : History → List Section → Expr → List SignedRow
delta_rows history changed expr =
    delta_of (world (sources history)) (world (with_sections changed (sources history)))
    (scans_of (entries_for changed (sources history))) expr

-- the expressions for which an accepted command makes rows: for a change the parts of the live
-- plans; for a create the parts of the live plans behind it that no live plan before it has
abbrev pub IsMade : Language → History → Command → Expr → Type 0
IsMade language history (Delta changed) expr = IsPartOfOne expr (live_plans language history)
IsMade language history (Batch changed) expr = IsPartOfOne expr (live_plans language history)
IsMade language history (Create statement) expr =
    IsPartOfOne expr (live_plans language (Create statement ∷ history))
    × (IsPartOfOne expr (live_plans language history) → ⊥)
IsMade language history command expr = ⊥

-- the rows that an accepted command makes for these expressions
abbrev pub made_rows : History → Command → List Expr → ℕ
made_rows history (Delta changed) exprs =
    total_by (λ expr. length (delta_rows history changed expr)) exprs
made_rows history (Batch changed) exprs =
    total_by (λ expr. length (delta_rows history changed expr)) exprs
made_rows history (Create statement) exprs =
    total_by (λ expr. length (rows_in expr (world (sources history)))) exprs
made_rows history command exprs = 0

-- the work of a command is at most this number: that of any list that names each of its
-- expressions; a refused one makes no row
abbrev pub IsWorkUpTo : Language → History → Command → ℕ → Type 0
IsWorkUpTo language history command bound =
    (exprs : List Expr) × ((expr : Expr) → IsMade language history command expr → IsIn expr exprs)
    × (bound ≡ unless_refused 0 (first_refusal language history command)
    (made_rows history command exprs))

-- the work of these commands, one after another from a history on, is at most this number
abbrev pub AreWorkUpTo : Language → History → List Command → ℕ → Type 0
AreWorkUpTo language history [] bound = bound ≡ 0
AreWorkUpTo language history (command ∷ more) bound =
    (first : ℕ) × (rest : ℕ) × IsWorkUpTo language history command first
    × AreWorkUpTo language (after language history command) more rest × (bound ≡ first + rest)

-- the steps are within the work of the command, for each history that the engine stands for
abbrev pub IsWithinWork : EngineState → Command → ℕ → ℕ → Type 0
IsWithinWork engine command old new =
    OfEach engine (λ history. (bound : ℕ)
    → IsWorkUpTo (language_of engine.handed) history command bound → new ≤ old + bound)
