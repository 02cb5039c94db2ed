use Rattle.std.proofs.Common.{◌≡◌, ◌∙◌, ◌⊎◌, Some, ap, refl, subst, sym}
use Rattle.std.specs.Prelude.{OnErr, OnOk}
use Rattle.std.specs.FinMap.{get}
use Rattle.ncq_book.specs.Books.{BookState}
use Rattle.ncq_group.specs.Tables.{TableState}
use Rattle.ncq_midfile.specs.Shown.{shown}
use Rattle.ncq_shelf.specs.KeptFiles.{AtFile}
use Rattle.ncq_shelf.specs.Stands.{IsThere}
use Rattle.ncq_live.specs.LiveTables.{LiveState}
use Rattle.ncq_engine.specs.Compactions.{HasBase, IsWorn, least_mark, least_of}
use Rattle.ncq_engine.specs.Stands.{EngineState, Follows}
use Rattle.ncq_engine.proofs.InvariantLaws.{invariant_same}
use Rattle.ncq_engine.proofs.CompactAnswers.{compacted_follows, compacted_here, compacted_others, early, holds_compacted, is_compacted, on_err, sound_asked, table_alone}
use Rattle.ncq_engine.proofs.Views.{view_of}
use Rattle.ncq_engine.proofs.engine.Engine.compact_file.Goals.{After-compact, After-is_due}
use Rattle.ncq_engine.proofs.engine.Engine.compact_file.Goals as goal

-- the number is the least mark
is_least : (c : After-is_due) → c.in_ok-least.least ≡ least_of (view_of c.self.inside) c.args.number
is_least c = c.in_ok-least.ensures ∙ ap (λ (b : BookState). least_mark c.self.inside.store b.subscriptions c.args.number) c.book.ensures

-- the view shows the file
shows : (c : After-is_due) → AtFile c.self.inside.live_table.table.files c.args.number (λ kept. shown c.file-view.result ≡ kept.content)
shows c = subst (λ (t : TableState). AtFile t.files c.args.number (λ kept. shown c.file-view.result ≡ kept.content)) c.groups.ensures c.file-view.ensures.content

pub compact-requires-clause-sound : goal.compact-requires-clause-sound
compact-requires-clause-sound c =
    let at = (goal.at.compact-requires-clause-sound c).After-is_due in
    sound_asked (view_of c.self.inside) c.self.invariant c.args.number c.in_ok-least.least (is_least at) (shown c.file-view.result) (shows at) (c.is_due.ensures.due c.if-is_due.true)

pub compact-requires-clause-number : goal.compact-requires-clause-number
compact-requires-clause-number c =
    let at = (goal.at.compact-requires-clause-number c).After-is_due in
    early (view_of c.self.inside) c.self.invariant c.args.number c.in_ok-least.least (is_least at)

there : (c : After-compact) → IsThere c.self.inside.live_table.table.files c.args.number
there c = subst (λ (e : EngineState). IsThere e.table.files c.args.number) (sym c.self.view_is) c.requires.there

failed : (c : After-compact) → OnErr c.compact.result (c.compact.new.self.table ≡ c.self.inside.live_table.table)
failed c = on_err c.compact.result (ap (λ (l : LiveState). l.table)) c.compact.ensures.err

pub invariant_of-self : goal.invariant_of-self
invariant_of-self c =
    let at = (goal.at.invariant_of-self c).After-is_due in
    let was = view_of c.self.inside in
    invariant_same (record was { table = c.compact.new.self.table }) c.compact.new.self c.compact.ensures.subscriptions refl
    (holds_compacted was c.self.invariant c.args.number c.in_ok-least.least (is_least at) (shown c.file-view.result) (shows at) (c.is_due.ensures.due c.if-is_due.true)
    (there c) c.compact.new.self c.compact.result c.compact.ensures.ok (failed c) c.compact.ensures.next_file c.compact.ensures.number (ap (λ (e : EngineState). e.cache) c.self.view_is ∙ c.requires.nothing))

pub returns-then-is_due-clause-follows : goal.returns-then-is_due-clause-follows
returns-then-is_due-clause-follows c = λ h s.
    let at = (goal.at.returns-then-is_due-clause-follows c).After-is_due in
    let was = view_of c.self.inside in
    subst (λ (e : EngineState). Follows e h) (sym (table_alone was c.compact.new.self c.compact.ensures.subscriptions c.compact.ensures.instant))
    (compacted_follows was c.self.invariant c.args.number c.in_ok-least.least (is_least at) (shown c.file-view.result) (shows at) (c.is_due.ensures.due c.if-is_due.true)
    (there c) c.compact.new.self c.compact.result c.compact.ensures.ok (failed c) c.compact.ensures.next_file c.compact.ensures.number h (subst (λ (e : EngineState). Follows e h) (sym c.self.view_is) s))

pub returns-then-is_due-clause-others : goal.returns-then-is_due-clause-others
returns-then-is_due-clause-others c = λ other differs.
    let at = (goal.at.returns-then-is_due-clause-others c).After-is_due in
    compacted_others (view_of c.self.inside) c.self.invariant c.args.number c.in_ok-least.least (is_least at) (shown c.file-view.result) (shows at) (c.is_due.ensures.due c.if-is_due.true)
    (there c) c.compact.new.self c.compact.result c.compact.ensures.ok (failed c) c.compact.ensures.next_file c.compact.ensures.number other differs
    ∙ ap (λ (e : EngineState). get e.table.files other) c.self.view_is

pub returns-then-is_due-clause-here : goal.returns-then-is_due-clause-here
returns-then-is_due-clause-here c =
    let at = (goal.at.returns-then-is_due-clause-here c).After-is_due in
    let files = c.compact.new.self.table.files in
    subst (λ (e : EngineState). AtFile e.table.files c.args.number (λ file. (get files c.args.number ≡ Some file) ⊎ HasBase files c.args.number (least_of e c.args.number))) c.self.view_is
    (compacted_here (view_of c.self.inside) c.self.invariant c.args.number c.in_ok-least.least (is_least at) (shown c.file-view.result) (shows at) (c.is_due.ensures.due c.if-is_due.true)
    (there c) c.compact.new.self c.compact.result c.compact.ensures.ok (failed c) c.compact.ensures.next_file c.compact.ensures.number)

pub returns-then-is_due-clause-compacted : goal.returns-then-is_due-clause-compacted
returns-then-is_due-clause-compacted c =
    let at = (goal.at.returns-then-is_due-clause-compacted c).After-is_due in
    let files = c.compact.new.self.table.files in
    subst (λ (e : EngineState). OnOk c.compact.result (AtFile e.table.files c.args.number (λ file. IsWorn (least_of e c.args.number) file.content → HasBase files c.args.number (least_of e c.args.number)))) c.self.view_is
    (is_compacted (view_of c.self.inside) c.self.invariant c.args.number c.in_ok-least.least (is_least at) (shown c.file-view.result) (shows at) (c.is_due.ensures.due c.if-is_due.true)
    (there c) c.compact.new.self c.compact.result c.compact.ensures.ok (failed c) c.compact.ensures.next_file c.compact.ensures.number)
