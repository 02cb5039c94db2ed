use Rattle.std.proofs.Common.{◌≡◌, ◌+◌, ◌*◌, ◌++◌, ◌∙◌, arith, refl, sym, ap, length, length-append, suc, subst, List, ℕ}
use Rattle.ncq_report.specs.Loads.{part_text, parts_text}
use Rattle.ncq_script.specs.ScriptReading.{limit_of}
use Rattle.ncq_run.specs.Session.{IsTallied}
use Rattle.ncq_run.proofs.Answered.{up_to_work}
use Rattle.ncq_run.proofs.TallyLaws.{load_tallied, load_worked, loaded_none, part_work}
use Rattle.ncq_run.proofs.load.tally_parts.Goals as goal

pub loop-number-init : goal.loop-number-init
loop-number-init g c = record {
  so_far = loaded_none _ _ _ _ c.requires.follows c.requires.fresh c.empty_tally-tally.ensures;
  handed = refl;
  limit = refl;
  is_open = c.requires.is_open;
}

pub returns-in_err-generate-clause-work : goal.returns-in_err-generate-clause-work
returns-in_err-generate-clause-work g c =
    let here = c.loop-number-test.true in
    let was = c.loop-number.invariant in
    part_work c.args.engine.now.handed (limit_of c.args.reader.now) c.args.n c.loop-number.number _ c.loop-number.reader c.loop-number.engine _ _ (omega (arith, here)) refl was.handed was.limit was.is_open (up_to_work _ c.loop-number.reader c.loop-number.engine _ _ was.so_far.up_to)

pub tally_part-requires-clause-so_far : goal.tally_part-requires-clause-so_far
tally_part-requires-clause-so_far g c =
    let here = c.loop-number-test.true in
    let few = c.requires.few in
    let number = c.loop-number.number in
    let part : c.as_slice.result.now ≡ part_text c.args.n number = c.as_slice.ensures.value ∙ c.in_ok-generate.ensures.ok ∙ ap (λ (xs : List ℕ). xs ++ part_text c.args.n number) c.clear.ensures.items in
    let most = c.loads_are_short.ensures c.args.n (suc number) few in
    let all = length-append (parts_text c.args.n number) (part_text c.args.n number) in
    (parts_text c.args.n number, c.args.steps.now, omega (arith, here, few, most, all, ap length part), c.loop-number.invariant.so_far)

pub returns-in_err-tally_part-clause-work : goal.returns-in_err-tally_part-clause-work
returns-in_err-tally_part-clause-work g c =
    let here = c.loop-number-test.true in
    let was = c.loop-number.invariant in
    let number = c.loop-number.number in
    let part : c.as_slice.result.now ≡ part_text c.args.n number = c.as_slice.ensures.value ∙ c.in_ok-generate.ensures.ok ∙ ap (λ (xs : List ℕ). xs ++ part_text c.args.n number) c.clear.ensures.items in
    part_work c.args.engine.now.handed (limit_of c.args.reader.now) c.args.n (suc number) _ c.tally_part.new.reader c.tally_part.new.engine _ _ (omega (arith, here)) (ap (λ (bytes : List ℕ). parts_text c.args.n number ++ bytes) part) (c.tally_part.ensures.handed ∙ was.handed)
    (c.tally_part.ensures.limit ∙ was.limit) c.tally_part.ensures.is_open (c.tally_part.ensures.through _ _ was.so_far.up_to).work

pub loop-number-preserved : goal.loop-number-preserved
loop-number-preserved g c =
    let was = c.loop-number.invariant in
    let number = c.loop-number.number in
    let part : c.as_slice.result.now ≡ part_text c.args.n number = c.as_slice.ensures.value ∙ c.in_ok-generate.ensures.ok ∙ ap (λ (xs : List ℕ). xs ++ part_text c.args.n number) c.clear.ensures.items in
    let one : number + 1 ≡ suc number = omega arith in
    let bytes : parts_text c.args.n number ++ c.as_slice.result.now ≡ parts_text c.args.n (number + 1) = ap (λ (xs : List ℕ). parts_text c.args.n number ++ xs) part ∙ sym (ap (parts_text c.args.n) one) in
    record {
      so_far = subst (λ (bs : List ℕ). IsTallied bs c.tally_part.new.reader c.tally_part.new.engine c.tally_part.new.tally c.args.steps.now c.tally_part.new.steps) bytes (c.in_ok-tally_part.ensures.tallied _ _ was.so_far);
      handed = c.tally_part.ensures.handed ∙ was.handed;
      limit = c.tally_part.ensures.limit ∙ was.limit;
      is_open = c.tally_part.ensures.is_open;
    }

pub tally_rest-requires-clause-so_far : goal.tally_rest-requires-clause-so_far
tally_rest-requires-clause-so_far g c =
    let whole : c.loop-number.number ≡ 2 * c.args.n + 4 = omega (arith, c.loop-number-test.false, c.loop-number.auto.number-end) in
    let few = c.requires.few in
    let most = c.loads_are_short.ensures c.args.n c.loop-number.number few in
    (parts_text c.args.n c.loop-number.number, c.args.steps.now, omega (arith, whole, few, most), c.loop-number.invariant.so_far)

pub returns-in_err-tally_rest-clause-work : goal.returns-in_err-tally_rest-clause-work
returns-in_err-tally_rest-clause-work g c =
    let whole : c.loop-number.number ≡ 2 * c.args.n + 4 = omega (arith, c.loop-number-test.false, c.loop-number.auto.number-end) in
    let was = c.loop-number.invariant in
    load_worked c.args.engine.now.handed (limit_of c.args.reader.now) c.args.n (parts_text c.args.n c.loop-number.number) c.tally_rest.new.reader c.tally_rest.new.engine _ _ (ap (parts_text c.args.n) whole) (c.tally_rest.ensures.handed ∙ was.handed)
    (c.tally_rest.ensures.limit ∙ was.limit) c.tally_rest.ensures.closed (c.tally_rest.ensures.through _ _ was.so_far.up_to).work

pub returns-clause-work : goal.returns-clause-work
returns-clause-work g c =
    let whole : c.loop-number.number ≡ 2 * c.args.n + 4 = omega (arith, c.loop-number-test.false, c.loop-number.auto.number-end) in
    let was = c.loop-number.invariant in
    load_worked c.args.engine.now.handed (limit_of c.args.reader.now) c.args.n (parts_text c.args.n c.loop-number.number) c.tally_rest.new.reader c.tally_rest.new.engine _ _ (ap (parts_text c.args.n) whole) (c.tally_rest.ensures.handed ∙ was.handed)
    (c.tally_rest.ensures.limit ∙ was.limit) c.tally_rest.ensures.closed (c.tally_rest.ensures.through _ _ was.so_far.up_to).work

pub returns-clause-tallied : goal.returns-clause-tallied
returns-clause-tallied g c =
    let whole : c.loop-number.number ≡ 2 * c.args.n + 4 = omega (arith, c.loop-number-test.false, c.loop-number.auto.number-end) in
    let was = c.loop-number.invariant in
    load_tallied c.args.engine.now.handed (limit_of c.args.reader.now) c.args.n (parts_text c.args.n c.loop-number.number) c.tally_rest.new.reader c.tally_rest.new.engine c.args.steps.now c.tally_rest.new.steps (ap (parts_text c.args.n) whole) (c.tally_rest.ensures.handed ∙ was.handed)
    (c.tally_rest.ensures.limit ∙ was.limit) c.tally_rest.ensures.closed _ (c.in_ok-tally_rest.ensures.tallied _ _ was.so_far) (c.in_ok-tally_rest.ensures.through _ _ was.so_far.up_to).all
