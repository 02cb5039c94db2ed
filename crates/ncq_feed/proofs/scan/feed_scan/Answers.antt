use Rattle.std.proofs.Common.{◌≡◌, arith, sym, subst, ◌∙◌, List}
use Rattle.std.specs.List.{AllByRecursion}
use Rattle.ncq_midfile.specs.declared.signed.SignedRow.{SignedRow}
use Rattle.ncq_feed.specs.Runs.{IsFor, IsGiven}
use Rattle.ncq_feed.proofs.GrowthLaws.{formed}
use Rattle.ncq_feed.proofs.RangeLaws.{no_range-scan}
use Rattle.ncq_feed.proofs.ScanLaws.{no_rows, wanted, own_fit, scan_none, scan_given, scan_file, scan_due, wanted_is}
use Rattle.ncq_feed.proofs.scan.feed_scan.Goals as goal

pub shape_of-requires-clause-formed : goal.shape_of-requires-clause-formed
shape_of-requires-clause-formed g c = formed g.run c.args.shelf.now c.requires.1.1.0

pub shape_of-requires-clause-scan : goal.shape_of-requires-clause-scan
shape_of-requires-clause-scan g c = scan_file g.run c.args.shelf.now c.requires.1.1.0 c.args.at c.requires.1.1.1.0.name c.requires.1.1.1.0.scan

pub returns-then-len-eq0-clause-fed : goal.returns-then-len-eq0-clause-fed
returns-then-len-eq0-clause-fed g c =
    let with = c.requires.1.1.1.0 in
    let scan = with.scan in
    let e : c.in_ok-rows.rows ≡ wanted g.run with.name scan.shape =
    wanted_is g.run c.args.shelf.now c.requires.1.1.0 c.args.at with.name scan c.args.now c.requires.1.0 c.args.entries.now with.same c.shape_of.result.now c.shape_of.ensures.shape c.in_ok-rows.rows c.in_ok-rows.ensures.rows in
    scan_none g.run c.args.at with.name scan c.args.pending.now c.args.shelf.now c.requires.1.1.1.1 (sym e ∙ no_rows c.in_ok-rows.rows (sym c.len.ensures ∙ c.if-len-eq0.true))

pub append_all-requires : goal.append_all-requires
append_all-requires g c =
    let with = c.requires.1.1.1.0 in
    let scan = with.scan in
    let e : c.in_ok-rows.rows ≡ wanted g.run with.name scan.shape =
    wanted_is g.run c.args.shelf.now c.requires.1.1.0 c.args.at with.name scan c.args.now c.requires.1.0 c.args.entries.now with.same c.shape_of.result.now c.shape_of.ensures.shape c.in_ok-rows.rows c.in_ok-rows.ensures.rows in
    (c.requires.1.1.0, (record { file = scan.stands.file; at = scan.stands.at }, (no_range-scan g.run.files c.args.at with.name scan.shape scan.stands, subst (AllByRecursion (IsFor g.run c.args.at)) (sym e) (own_fit g.run c.args.at with.name scan))))

pub returns-clause-fed : goal.returns-clause-fed
returns-clause-fed g c =
    let with = c.requires.1.1.1.0 in
    let scan = with.scan in
    let e : c.in_ok-rows.rows ≡ wanted g.run with.name scan.shape =
    wanted_is g.run c.args.shelf.now c.requires.1.1.0 c.args.at with.name scan c.args.now c.requires.1.0 c.args.entries.now with.same c.shape_of.result.now c.shape_of.ensures.shape c.in_ok-rows.rows c.in_ok-rows.ensures.rows in
    scan_given g.run c.args.at with.name scan c.args.pending.now c.args.shelf.now c.requires.1.1.1.1 c.append_all.new.shelf c.note.new.self
    (subst (λ (rows : List SignedRow). IsGiven g.run c.args.at rows c.args.shelf.now c.append_all.new.shelf) e c.in_ok-append_all.ensures.given) c.in_ok-note.ensures

pub returns-in_err-rows-clause-cost : goal.returns-in_err-rows-clause-cost
returns-in_err-rows-clause-cost g c =
    let all = scan_due g.run c.args.shelf.now c.requires.1.1.0 c.args.at c.requires.1.1.1.0.name c.requires.1.1.1.0.scan c.args.entries.now c.requires.1.1.1.0.same c.shape_of.result.now c.shape_of.ensures.shape in
    let cost = c.changes_of.ensures.cost in
    omega arith

pub returns-then-len-eq0-clause-cost : goal.returns-then-len-eq0-clause-cost
returns-then-len-eq0-clause-cost g c =
    let all = scan_due g.run c.args.shelf.now c.requires.1.1.0 c.args.at c.requires.1.1.1.0.name c.requires.1.1.1.0.scan c.args.entries.now c.requires.1.1.1.0.same c.shape_of.result.now c.shape_of.ensures.shape in
    let cost = c.changes_of.ensures.cost in
    omega arith

pub returns-in_err-append_all-clause-cost : goal.returns-in_err-append_all-clause-cost
returns-in_err-append_all-clause-cost g c =
    let all = scan_due g.run c.args.shelf.now c.requires.1.1.0 c.args.at c.requires.1.1.1.0.name c.requires.1.1.1.0.scan c.args.entries.now c.requires.1.1.1.0.same c.shape_of.result.now c.shape_of.ensures.shape in
    let cost = c.changes_of.ensures.cost in
    omega arith

pub returns-in_err-note-clause-cost : goal.returns-in_err-note-clause-cost
returns-in_err-note-clause-cost g c =
    let all = scan_due g.run c.args.shelf.now c.requires.1.1.0 c.args.at c.requires.1.1.1.0.name c.requires.1.1.1.0.scan c.args.entries.now c.requires.1.1.1.0.same c.shape_of.result.now c.shape_of.ensures.shape in
    let cost = c.changes_of.ensures.cost in
    omega arith

pub returns-clause-cost : goal.returns-clause-cost
returns-clause-cost g c =
    let all = scan_due g.run c.args.shelf.now c.requires.1.1.0 c.args.at c.requires.1.1.1.0.name c.requires.1.1.1.0.scan c.args.entries.now c.requires.1.1.1.0.same c.shape_of.result.now c.shape_of.ensures.shape in
    let cost = c.changes_of.ensures.cost in
    omega arith
