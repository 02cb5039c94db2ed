use Rattle.std.proofs.Common.{◌≡◌, ◌+◌, ◌∷◌, List, ℕ, length, ap, sym, ◌∙◌, subst, arith, rules, length-append}
use Rattle.std.specs.Prelude.{IfSome}
use Rattle.ncq_flat.specs.Checked.{open_names, place_of, Takes}
use Rattle.ncq_flat.proofs.FrontLaws.{open_none, taken_all, taken_more}
use Rattle.ncq_flat.proofs.checking.closed_front.Goals as goal

pub loop-place-preserved : goal.loop-place-preserved
loop-place-preserved c =
    let line : c.in-Some.line.now ≡ c.in-Some-split_first.mark.now ∷ c.in-Some-split_first.word.now = c.in-Some-split_first.ensures.cases.0 in
    let now = open_names c.loop-place.names.items in
    let next = open_names c.take_line.new.names.items in
    let place = place_of c.loop-place.place in
    let behind = place_of c.in-Some-2.behind in
    let taken = subst (λ n. IfSome n (λ behind. Takes now place (c.in-Some-split_first.mark.now ∷ c.in-Some-split_first.word.now) next (place_of behind))) c.in-Some-2.is c.in_ok-behind.ensures in
    let step : Takes now place c.in-Some.line.now next behind = subst (λ (x : List ℕ). Takes now place x next behind) (sym line) taken in
    let size : length c.loop-place.rest.now ≡ length c.in-Some.line.now + length (10 ∷ c.in-Some.more.now) = ap length c.in-Some.ensures.1 ∙ length-append c.in-Some.line.now (10 ∷ c.in-Some.more.now) in
    record {
      taken = taken_more (open_names c.args.names.items) now next place behind c.args.text.now c.loop-place.rest.now c.in-Some.line.now c.in-Some.more.now c.loop-place.count
          c.in-Some.ensures.0 c.in-Some.ensures.1 step c.loop-place.invariant.taken;
      bound = omega (arith, size, c.loop-place.invariant.bound);
    }

pub returns-clause-checked : goal.returns-clause-checked
returns-clause-checked c =
    let zero : length c.loop-place.names.items ≡ 0 = search rules in
    taken_all (open_names c.args.names.items) (open_names c.loop-place.names.items) (place_of c.loop-place.place) c.args.text.now c.loop-place.rest.now c.loop-place.count
    (open_none c.loop-place.names.items zero) c.loop-place.invariant.taken
