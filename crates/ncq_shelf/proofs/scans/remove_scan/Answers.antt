use Rattle.std.proofs.Common.{sym, rules, Some, None}
use Rattle.ncq_shelf.proofs.ScanLaws.{turned_here, turned_others, turned_again, with_tables, without_tables, loses_scan, no_reader}
use Rattle.ncq_shelf.proofs.scans.remove_scan.Goals as goal

pub returns-then-not-is_empty : goal.returns-then-not-is_empty
returns-then-not-is_empty c =
    let old = c.args.scans.now.entries in
    let w = c.remove_join.new.self in
    let new = (c.get_mut.follows.lender w).entries in
    let is = ((c.get_mut.follows.holds w).3 (search rules)).0 in
    loses_scan old new c.args.source.now (turned_others old new c.args.source.now (Some w) is) c.in-Some.readers.now w
    (with_tables old c.args.source.now c.in-Some.readers.now (sym c.in-Some.ensures.value))
    (with_tables new c.args.source.now w (turned_here old new c.args.source.now (Some w) is)) c.args.number
    c.remove_join.ensures

pub returns : goal.returns
returns c =
    let old = c.args.scans.now.entries in
    let w = c.remove_join.new.self in
    let mid = (c.get_mut.follows.lender w).entries in
    let new = c.swap_remove.new.self.entries in
    let is = turned_again old mid new c.args.source.now (Some w) None ((c.get_mut.follows.holds w).3 (search rules)).0 c.swap_remove.ensures.updates.0 in
    loses_scan old new c.args.source.now (turned_others old new c.args.source.now None is) c.in-Some.readers.now w
    (with_tables old c.args.source.now c.in-Some.readers.now (sym c.in-Some.ensures.value))
    (without_tables new c.args.source.now w (turned_here old new c.args.source.now None is) (no_reader w c.is_empty.result c.is_empty.ensures.tells c.if-not-is_empty.false)) c.args.number
    c.remove_join.ensures
