use Rattle.std.proofs.Common.{◌≡◌, ◌<◌, ◌≤◌, ℕ, List, length, ap, sym, ◌∙◌, subst}
use Rattle.std.specs.List.{All, AllByRecursion}
use Rattle.ncq_midfile.specs.Content.{AreRising}
use Rattle.ncq_midfile.specs.Files.{AreLeftAt, FileState, IsThere}
use Rattle.ncq_midfile.specs.Finders.{AreFinders}
use Rattle.ncq_midfile.specs.Pairs.{ArePairs, taken_out}
use Rattle.ncq_midfile.specs.declared.signed.SignedRow.{SignedRow}
use Rattle.ncq_midfile.proofs.Kept.{file_there}
use Rattle.ncq_midfile.proofs.LeftAt.{all_left}
use Rattle.ncq_midfile.proofs.PairLaws.{left_there, left_content, some_is}
use Rattle.ncq_midfile.proofs.file.MidFile.compact_all.Goals as goal

pub invariant_of-self-2 : goal.invariant_of-self-2
invariant_of-self-2 c =
    let n = c.args.n in
    let rs = c.as_slice-rows.result.now in
    let places = c.in-Some.places in
    let o = c.in_ok-places.field-0 in
    let says = c.in_ok-places.ensures in
    let rising = some_is (λ ps. AreRising 0 ps) o places c.in-Some.is says.rising in
    let within = some_is (λ ps. All (λ (p : ℕ). p < length rs) ps) o places c.in-Some.is says.within in
    let those = some_is (λ ps. ArePairs ps rs) o places c.in-Some.is says.pairs in
    let old : rs ≡ c.args.self.now.rows = c.as_slice-rows.ensures.value ∙ ap (λ (f : FileState). f.rows) c.self.view_is in
    let last = subst (AllByRecursion (λ r. r.number ≤ n)) (sym old) c.requires.last in
    let new : c.take_out.new.rows.items ≡ taken_out places rs = c.take_out.ensures ∙ (λ i. taken_out (c.as_slice-2.ensures i) (sym c.as_slice-rows.ensures.value i)) in
    record {
      file = file_there n c.take_out.new.rows.items (subst (AllByRecursion (IsThere n)) (sym new) (left_there n places rs rising within those last));
      covers = subst (AreFinders c.forget_all.new.finders.items) (ap (λ ps. taken_out ps rs) c.as_slice.ensures ∙ sym new) c.forget_all.ensures;
    }

pub returns-clause-left : goal.returns-clause-left
returns-clause-left c =
    let n = c.args.n in
    let rs = c.as_slice-rows.result.now in
    let places = c.in-Some.places in
    let o = c.in_ok-places.field-0 in
    let says = c.in_ok-places.ensures in
    let rising = some_is (λ ps. AreRising 0 ps) o places c.in-Some.is says.rising in
    let within = some_is (λ ps. All (λ (p : ℕ). p < length rs) ps) o places c.in-Some.is says.within in
    let those = some_is (λ ps. ArePairs ps rs) o places c.in-Some.is says.pairs in
    let old : rs ≡ c.args.self.now.rows = c.as_slice-rows.ensures.value ∙ ap (λ (f : FileState). f.rows) c.self.view_is in
    let last = subst (AllByRecursion (λ r. r.number ≤ n)) (sym old) c.requires.last in
    let new : c.take_out.new.rows.items ≡ taken_out places rs = c.take_out.ensures ∙ (λ i. taken_out (c.as_slice-2.ensures i) (sym c.as_slice-rows.ensures.value i)) in
    let left : AreLeftAt n rs (taken_out places rs) =
    all_left n rs (taken_out places rs) last (left_there n places rs rising within those last) (left_content n places rs rising within those last) in
    subst (λ (xs : List SignedRow). AreLeftAt n xs c.take_out.new.rows.items) old (subst (AreLeftAt n rs) (sym new) left)
