use Rattle.std.proofs.Common.{◌++◌, List, ℕ, ap, ◌∙◌}
use Rattle.ncq_row.specs.Shown.{shown_nodes}
use Rattle.ncq_construct.specs.Written.{written}
use Rattle.ncq_construct.proofs.WrittenLaws.{lines_are_written, nodes_are_kept, where_appended}
use Rattle.ncq_construct.proofs.writing.write_shown.Goals as goal

pub returns-in-Text : goal.returns-in-Text
returns-in-Text c =
    where_appended c.extend_from_slice.result c.extend_from_slice.new.self.items
    c.args.pending.now.items c.as_slice-in-Text.result.now c.extend_from_slice.ensures.items
    (λ e rest. ap (λ (p : List ℕ). c.args.out.now.items ++ written p rest)
    (e ∙ ap (λ (text : List ℕ). c.args.pending.now.items ++ text) c.as_slice-in-Text.ensures)
    ∙ nodes_are_kept c.args.out.now.items c.args.pending.now.items c.in-Text.text.now
    (shown_nodes c.args.shown) (ap shown_nodes c.in-Text.is) rest)

pub returns-in_ok-write_pending-in-Element : goal.returns-in_ok-write_pending-in-Element
returns-in_ok-write_pending-in-Element c =
    where_appended c.extend_from_slice-in-Element.result
    c.extend_from_slice-in-Element.new.self.items c.write_pending.new.out.items
    c.lines.result.now c.extend_from_slice-in-Element.ensures.items
    (lines_are_written (shown_nodes c.args.shown) c.in-Element.element.now c.lines.result.now
    c.args.pending.now.items c.write_pending.new.pending.items c.args.out.now.items
    c.write_pending.new.out.items c.extend_from_slice-in-Element.new.self.items
    (ap shown_nodes c.in-Element.is) c.lines.ensures.written
    c.in_ok-write_pending-in-Element.ensures.lines c.in_ok-write_pending-in-Element.ensures.none)
