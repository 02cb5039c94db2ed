use Rattle.std.proofs.Common.{◌≡◌, ℕ, List, sym, rules, ap, cond, Some, ◌∙◌}
use Rattle.std.specs.Map.{lookup}
use Rattle.std.specs.Str.{bytes_eq}
use Rattle.ncq_shelf.proofs.Turns.{ok_more}
use Rattle.ncq_shelf.proofs.ScanLaws.{turned_here, turned_others, with_tables, without_tables, gains_scan, no_joins}
use Rattle.ncq_shelf.proofs.scans.add_scan.Goals as goal

pub returns-in-Some-clause-ok : goal.returns-in-Some-clause-ok
returns-in-Some-clause-ok c =
    let old = c.args.scans.now.entries in
    let new = (c.get_mut.follows.lender c.add_join.new.self).entries in
    let is = ((c.get_mut.follows.holds c.add_join.new.self).3 (search rules)).0 in
    ok_more c.add_join.result
    (gains_scan old new c.args.source.now (turned_others old new c.args.source.now (Some c.add_join.new.self) is) c.in-Some.readers.now c.add_join.new.self
    (with_tables old c.args.source.now c.in-Some.readers.now (sym c.in-Some.ensures.value))
    (with_tables new c.args.source.now c.add_join.new.self (turned_here old new c.args.source.now (Some c.add_join.new.self) is)) c.args.number)
    c.add_join.ensures.ok

pub returns-clause-ok : goal.returns-clause-ok
returns-clause-ok c =
    let old = c.args.scans.now.entries in
    let new = c.insert.new.self.entries in
    let w = c.add_join-2.new.self in
    let is : (q : List ℕ) → lookup (bytes_eq q) new ≡ cond (bytes_eq c.args.source.now q) (Some w) (lookup (bytes_eq q) old) =
    λ q. c.in_ok-insert.ensures.updates.0 q ∙ (λ i. cond (bytes_eq (c.in_ok-key.ensures i) q) (Some w) (lookup (bytes_eq q) ((c.get_mut.follows.holds-at-none i).entries))) in
    gains_scan old new c.args.source.now (turned_others old new c.args.source.now (Some w) is) c.new-readers.result w
    (without_tables old c.args.source.now c.new-readers.result (sym c.in_default.ensures.value) (no_joins c.new-readers.result (ap (λ t. t.joins) c.new-readers.ensures)))
    (with_tables new c.args.source.now w (turned_here old new c.args.source.now (Some w) is)) c.args.number
    c.in_ok-add_join.ensures.ok
