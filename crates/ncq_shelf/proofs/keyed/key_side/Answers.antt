use Rattle.std.proofs.Common.{◌≡◌, Some, sym, nat_eq, subst}
use Rattle.std.specs.Map.{lookup}
use Rattle.ncq_midfile.specs.Files.{FileState}
use Rattle.ncq_midfile.specs.Shown.{shown}
use Rattle.ncq_shelf.specs.Keyed.{AreHeld, AreNotedIn, noted_at}
use Rattle.ncq_shelf.proofs.KeyedLaws.{grows_more}
use Rattle.ncq_shelf.proofs.keyed.key_side.Goals as goal

pub view_of-requires : goal.view_of-requires
view_of-requires c = c.requires.grouped.right c.args.at c.in-Some.file.now (sym c.in-Some.ensures.value)

pub returns-clause-grows : goal.returns-clause-grows
returns-clause-grows c =
    let file = c.in-Some.file.now in
    let files = c.args.files.now.entries in
    grows_more c.args.groups.now.entries (noted_at c.args.at (shown c.view_of.result).rows c.key.new.self.holders) (AreNotedIn c.args.groups.now.entries files c.key.new.self.holders) c.args.keys.now c.key.new.self c.key.ensures.grows
    (λ n s_ h. record { file = file; at = subst (λ m. lookup (nat_eq m) files ≡ Some file) (sym h.0) (sym c.in-Some.ensures.value); noted = subst (λ (s : FileState). AreHeld c.key.new.self.holders n s_ s.rows) c.view_of.ensures.shown h.1 })
