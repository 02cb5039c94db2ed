use Rattle.std.proofs.Common.{◌≡◌, ◌<◌, ◌++◌, ℕ, not, List, length, drop, sym, ap, ◌∙◌, subst, arith}
use Rattle.std.specs.List.{All}
use Rattle.std.proofs.lemmas.List.{length-drop}
use Rattle.std.proofs.lemmas.List.Elements.{All-from_recursion}
use Rattle.ncq_base.specs.Counts.{SameCounts}
use Rattle.ncq_midfile.specs.Content.{AreGains, rows_at}
use Rattle.ncq_midfile.specs.Matching.{places_where}
use Rattle.ncq_midfile.specs.Pairs.{ArePairs}
use Rattle.ncq_midfile.specs.declared.signed.SignedRow.{SignedRow}
use Rattle.ncq_midfile.proofs.Cuts.{parted_ordered}
use Rattle.ncq_midfile.proofs.Matches.{wanted_within}
use Rattle.ncq_midfile.proofs.PairLaws.{are_pairs, some_is, if_found}
use Rattle.ncq_midfile.proofs.pairs.pairs.Goals as goal

pub count_up_to-settled-requires : goal.count_up_to-settled-requires
count_up_to-settled-requires c = parted_ordered c.args.base c.args.base c.args.rows.now (omega arith) c.requires.file.ordered

pub partners-requires : goal.partners-requires
partners-requires c =
    let k = c.count_up_to-settled.result in
    let rows = c.args.rows.now in
    let test = λ (r : SignedRow). not r.plus in
    let all = c.as_slice-2.ensures ∙ c.in_ok-push_lost.ensures ∙ ap (λ (ps : List ℕ). ps ++ places_where test k (drop k rows)) c.new-lost.ensures in
    let below = λ (place : ℕ). place < length rows in
    let long = length-drop k rows in
    let few = c.count_up_to-settled.ensures.within in
    subst (All below) (sym all) (All-from_recursion below _ (wanted_within test k (length rows) (drop k rows) (omega arith)))

pub returns-clause-pairs : goal.returns-clause-pairs
returns-clause-pairs c =
    let k = c.count_up_to-settled.result in
    let rows = c.args.rows.now in
    let test = λ (r : SignedRow). not r.plus in
    let lost = c.push_lost.new.places in
    let found = c.in-Some-2.found in
    let all : lost ≡ places_where test k (drop k rows) = c.in_ok-push_lost.ensures ∙ ap (λ (ps : List ℕ). ps ++ places_where test k (drop k rows)) c.new-lost.ensures in
    let came = some_is (λ fs. AreGains rows fs) c.in_ok-found.field-0 found c.in-Some-2.is c.in_ok-found.ensures.gains in
    let alike = some_is (λ fs. rows_at fs rows ≡ rows_at c.as_slice-2.result.now rows) c.in_ok-found.field-0 found c.in-Some-2.is c.in_ok-found.ensures.alike in
    if_found (λ places. SameCounts places (lost ++ found)) (λ places. ArePairs places rows) c.in_order.result c.in_order.ensures.same
    (λ places same. are_pairs places lost found c.args.base k rows same c.count_up_to-settled.ensures.within c.count_up_to-settled.ensures.front c.requires.file.based all came (alike ∙ ap (λ ps. rows_at ps rows) c.as_slice-2.ensures))
