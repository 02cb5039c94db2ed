use Rattle.std.proofs.Common.{◌≡◌, ℕ, ◌<◌, ◌≤◌, List, length, sym, ap, ◌∙◌, subst}
use Rattle.std.specs.List.{All}
use Rattle.ncq_midfile.specs.Content.{signed_at}
use Rattle.ncq_midfile.specs.Files.{AreLeftAt, AreParted, IsFile}
use Rattle.ncq_midfile.specs.declared.signed.SignedRow.{SignedRow}
use Rattle.ncq_midfile.proofs.FileLaws.{found_by_none}
use Rattle.ncq_midfile.proofs.Cuts.{parted_ordered}
use Rattle.ncq_midfile.proofs.LeftAt.{file_left, rising_parted}
use Rattle.ncq_midfile.proofs.file.MidFile.gather.Goals as goal

pub left_at-requires-clause-parted : goal.left_at-requires-clause-parted
left_at-requires-clause-parted c =
    subst (AreParted c.args.n) (sym c.as_slice.ensures.value)
    (parted_ordered c.args.n c.self.inside.base c.self.inside.rows.items (subst (λ f. f.base ≤ c.args.n) (sym c.self.view_is) c.requires.base) c.self.invariant.file.ordered)

pub invariant_of-self : goal.invariant_of-self
invariant_of-self c =
    let n = c.args.n in
    let base = c.self.inside.base in
    let rows = c.self.inside.rows.items in
    let file = c.self.invariant.file in
    let places = c.in_ok-places.places in
    let says = c.in_ok-places.ensures in
    let old : c.as_slice.result.now ≡ rows = c.as_slice.ensures.value in
    let low : base ≤ n = subst (λ f. f.base ≤ n) (sym c.self.view_is) c.requires.base in
    let within = subst (λ (rs : List SignedRow). All (λ (place : ℕ). place < length rs) places) old says.within in
    let left = subst (λ (rs : List SignedRow). AreLeftAt n rs (signed_at places rs)) old says.left in
    let parted = rising_parted n places rows says.rising within (parted_ordered n base rows low file.ordered) in
    let new : c.keep_at.new.rows.items ≡ signed_at places rows = c.keep_at.ensures ∙ ap (λ ps. signed_at ps rows) c.as_slice-2.ensures in
    found_by_none n _ _ (subst (IsFile n) (sym new) (file_left base n rows (signed_at places rows) low file parted left)) c.clear.ensures.items
