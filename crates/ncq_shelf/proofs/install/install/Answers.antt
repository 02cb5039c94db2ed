use Rattle.std.proofs.Common.{[]}
use Rattle.ncq_shelf.specs.Groups.{intervals_at}
use Rattle.ncq_shelf.proofs.GroupGains.{gained, kept_so, kept_after}
use Rattle.ncq_shelf.proofs.IntervalReaders.{alike_itself, alike_at}
use Rattle.ncq_shelf.proofs.Turns.{any_err, alike_itself as files_themselves}
use Rattle.ncq_shelf.proofs.install.install.Goals as goal

pub returns-in_err-open_group-clause-alike : goal.returns-in_err-open_group-clause-alike
returns-in_err-open_group-clause-alike c = any_err c.from_residual.result (files_themselves c.args.files.now.entries)

pub returns-in_err-open_group-clause-err : goal.returns-in_err-open_group-clause-err
returns-in_err-open_group-clause-err c =
    any_err c.from_residual.result (kept_so c.args.groups.now.entries c.args.group c.args.files.now.entries c.open_group.new.groups.entries c.requires.slot c.in_err-open_group.ensures.err)

pub release-requires-clause-held : goal.release-requires-clause-held
release-requires-clause-held c =
    let part = c.in-Err.ensures.err in
    (gained c.args.groups.now.entries c.args.group c.open_group.new.groups.entries c.add_rows.new.groups.entries part.0 c.requires.slot c.in_ok-open_group.ensures.ok part.2).there

pub returns-in-Err-clause-err : goal.returns-in-Err-clause-err
returns-in-Err-clause-err c =
    let files = c.args.files.now.entries in
    let part = c.in-Err.ensures.err in
    kept_after c.args.groups.now.entries c.args.group files files (alike_itself c.args.group.slot (intervals_at files c.args.group)) c.args.expr.now c.args.rows part.0 c.add_rows.new.groups.entries c.release.new.groups.entries
    c.requires.held c.requires.brings part.1
    (gained c.args.groups.now.entries c.args.group c.open_group.new.groups.entries c.add_rows.new.groups.entries part.0 c.requires.slot c.in_ok-open_group.ensures.ok part.2) c.release.ensures

pub release-requires-in-Err-enroll-clause-there : goal.release-requires-in-Err-enroll-clause-there
release-requires-in-Err-enroll-clause-there c =
    let next = c.in-Err-enroll.ensures.err.there c.args.group.input c.requires.there.file c.requires.there.at in
    record { file = next.0; at = next.1 }

pub release-requires-in-Err-enroll-clause-held : goal.release-requires-in-Err-enroll-clause-held
release-requires-in-Err-enroll-clause-held c =
    (gained c.args.groups.now.entries c.args.group c.open_group.new.groups.entries c.add_rows.new.groups.entries c.args.rows c.requires.slot c.in_ok-open_group.ensures.ok c.in_default.ensures.ok).there

pub returns-in-Err-enroll-clause-err : goal.returns-in-Err-enroll-clause-err
returns-in-Err-enroll-clause-err c =
    let files = c.args.files.now.entries in
    kept_after c.args.groups.now.entries c.args.group files c.enroll.new.files.entries (alike_at files c.enroll.new.files.entries c.args.group c.requires.there c.in-Err-enroll.ensures.err) c.args.expr.now c.args.rows c.args.rows c.add_rows.new.groups.entries c.release-in-Err-enroll.new.groups.entries
    c.requires.held c.requires.brings (record { rest = []; is = Rattle.std.proofs.Common.append-nil c.args.rows })
    (gained c.args.groups.now.entries c.args.group c.open_group.new.groups.entries c.add_rows.new.groups.entries c.args.rows c.requires.slot c.in_ok-open_group.ensures.ok c.in_default.ensures.ok) c.release-in-Err-enroll.ensures

pub returns-clause-ok : goal.returns-clause-ok
returns-clause-ok c = gained c.args.groups.now.entries c.args.group c.open_group.new.groups.entries c.add_rows.new.groups.entries c.args.rows c.requires.slot c.in_ok-open_group.ensures.ok c.in_default.ensures.ok
