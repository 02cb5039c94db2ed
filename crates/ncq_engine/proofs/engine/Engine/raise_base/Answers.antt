use Rattle.std.proofs.Common.{◌≡◌, ◌≤◌, ◌∙◌, ap, arith, subst, sym}
use Rattle.ncq_book.specs.Books.{BookState}
use Rattle.ncq_group.specs.Tables.{TableState}
use Rattle.ncq_midfile.specs.Files.{FileState}
use Rattle.ncq_midfile.specs.Shown.{shown}
use Rattle.ncq_shelf.specs.KeptFiles.{AtFile}
use Rattle.ncq_shelf.specs.Stands.{IsThere}
use Rattle.ncq_engine.specs.Compactions.{least_mark, least_of}
use Rattle.ncq_engine.specs.Stands.{EngineState}
use Rattle.ncq_engine.proofs.CompactAnswers.{early}
use Rattle.ncq_engine.proofs.FoldAnswers.{have_moved, moved_holds, raised}
use Rattle.ncq_engine.proofs.GivenUp.{with_parts}
use Rattle.ncq_engine.proofs.MovedBases.{AreMoved, HaveMoved}
use Rattle.ncq_engine.proofs.Views.{view_of}
use Rattle.ncq_engine.proofs.engine.Engine.raise_base.Goals.{After-raise_base}
use Rattle.ncq_engine.proofs.engine.Engine.raise_base.Goals as goal

pub raise_base-requires-clause-number : goal.raise_base-requires-clause-number
raise_base-requires-clause-number c =
    early (view_of c.self.inside) c.self.invariant c.args.number c.in_ok-least.least (c.in_ok-least.ensures ∙ ap (λ (b : BookState). least_mark c.self.inside.store b.subscriptions c.args.number) c.book.ensures)

is_least : (c : After-raise_base) → c.in_ok-least.least ≡ least_of (view_of c.self.inside) c.args.number
is_least c = c.in_ok-least.ensures ∙ ap (λ (b : BookState). least_mark c.self.inside.store b.subscriptions c.args.number) c.book.ensures

there : (c : After-raise_base) → IsThere c.self.inside.live_table.table.files c.args.number
there c = subst (λ (e : EngineState). IsThere e.table.files c.args.number) (sym c.self.view_is) c.requires.there

low : (c : After-raise_base) → AtFile c.self.inside.live_table.table.files c.args.number (λ kept. kept.content.base ≤ c.in_ok-least.least)
low c kept at =
    let shows = subst (λ (t : TableState). AtFile t.files c.args.number (λ kept. shown c.file.result ≡ kept.content)) c.groups.ensures c.file.ensures.content in
    let same = ap (λ (f : FileState). f.base) (shows kept at) in
    let based = c.base-base.ensures.base in
    let less = c.if-base-least.true in
    omega (arith, same, based, less)

moved : (c : After-raise_base) → AreMoved (view_of c.self.inside) c.raise_base.new.self.table.files
moved c = raised (view_of c.self.inside) c.args.number c.in_ok-least.least (is_least c) (there c) c.raise_base.new.self (low c) c.raise_base.ensures.raised

has_moved : (c : After-raise_base) → HaveMoved c.args.self.now (with_parts (view_of c.self.inside) c.self.inside.store c.raise_base.new.self)
has_moved c =
    have_moved (view_of c.self.inside) c.raise_base.new.self (moved c) c.raise_base.ensures.number c.raise_base.ensures.next_file c.raise_base.ensures.subscriptions c.args.self.now c.self.view_is c.raise_base.ensures.instant

pub invariant_of-self : goal.invariant_of-self
invariant_of-self c =
    moved_holds (view_of c.self.inside) c.raise_base.new.self (moved c) c.raise_base.ensures.number c.raise_base.ensures.next_file c.raise_base.ensures.subscriptions c.facts.ensures.facts.up_to (ap (λ (e : EngineState). e.cache) c.self.view_is ∙ c.requires.nothing) c.self.invariant

pub returns-then-base-least-clause-follows : goal.returns-then-base-least-clause-follows
returns-then-base-least-clause-follows c = (has_moved c).follows

pub returns-then-base-least-clause-bases : goal.returns-then-base-least-clause-bases
returns-then-base-least-clause-bases c = (has_moved c).bases
