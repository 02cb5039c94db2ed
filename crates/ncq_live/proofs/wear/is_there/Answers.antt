use Rattle.std.proofs.Common.{◌≡◌, ℕ, Bool, true, false, Option, Some, None, is_some, sym, refl, true≢false}
use Rattle.std.specs.Prelude.{◌↔◌, IsTrue}
use Rattle.std.specs.FinMap.{get}
use Rattle.ncq_shelf.specs.KeptFiles.{Files, KeptFile}
use Rattle.ncq_shelf.specs.Stands.{IsThere}
use Rattle.ncq_shelf.proofs.CallerLemmas.{there}
use Rattle.ncq_live.proofs.wear.is_there.Goals as goal

told : (files : Files) (number : ℕ) (b : Bool) (o : Option KeptFile) → get files number ≡ o → IsTrue b ↔ IsThere files number → b ≡ is_some o
told files number true None at tells = absurd (there (tells.0 refl).at at)
told files number true (Some file) at tells = refl
told files number false None at tells = refl
told files number false (Some file) at tells = absurd (true≢false (sym (tells.1 (record { file = file; at = at }))))

pub returns : goal.returns
returns c = told c.args.groups.now.files c.args.number c.has.result (get c.args.groups.now.files c.args.number) refl c.has.ensures
