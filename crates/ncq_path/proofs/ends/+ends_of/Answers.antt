use Rattle.std.proofs.Common.{rules, ◌≡◌, ◌+◌, arith, sym, ap, ◌∙◌, bit_or}
use Rattle.ncq_path.specs.declared.path.Path.TheVariants.{Seq, Alt, Star, Plus}
use Rattle.ncq_path.specs.declared.path.Path.TheViews.{the_lemmas}
use Rattle.ncq_path.specs.Expressions.{size}
use Rattle.ncq_path.specs.Paths.{expression}
use Rattle.ncq_path.proofs.LinkSteps.{seq_fits, alt_fits, star_fits, plus_fits, any_rest, any_first, any_next, any_end}
use Rattle.ncq_path.proofs.ends.+ends_of.Goals as goal

pub ends_of-ends_of_each-requires : goal.ends_of-ends_of_each-requires
ends_of-ends_of_each-requires t c =
    (search (rules, the_lemmas), seq_fits c.args.path.now c.as_slice.result.now c.args.at (c.in-Seq.is ∙ ap Seq (sym c.as_slice.ensures)) c.requires)

pub ends_of-ends_of_any-requires : goal.ends_of-ends_of_any-requires
ends_of-ends_of_any-requires t c =
    (search (rules, the_lemmas), alt_fits c.args.path.now c.as_slice-in-Alt.result.now c.args.at (c.in-Alt.is ∙ ap Alt (sym c.as_slice-in-Alt.ensures)) c.requires)

pub ends_of-ends_of-requires : goal.ends_of-ends_of-requires
ends_of-ends_of-requires t c =
    (search (rules, the_lemmas), star_fits c.args.path.now c.get.result.now c.args.at (c.in-Star.is ∙ ap Star (sym c.get.ensures)) c.requires)

pub ends_of-ends_of-requires-in-Plus : goal.ends_of-ends_of-requires-in-Plus
ends_of-ends_of-requires-in-Plus t c =
    (search (rules, the_lemmas), plus_fits c.args.path.now c.get-in-Plus.result.now c.args.at (c.in-Plus.is ∙ ap Plus (sym c.get-in-Plus.ensures)) c.requires)

pub ends_of_any-loop-item-preserved : goal.ends_of_any-loop-item-preserved
ends_of_any-loop-item-preserved t c =
    let item = c.item-item.result in
    let at : c.names_in-at.result ≡ size (expression item) =
    let f = any_first c.args.items.now c.loop-item.item-index item (omega arith) c.item-item.is c.loop-item.at c.loop-item.invariant.fits in
    let e = c.names_in-at.ensures in omega arith in
    let next : c.loop-item.at + c.names_in-at.result ≡ c.loop-item.at + size (expression item) = ap (λ n. c.loop-item.at + n) at in
    record {
      fits = any_rest c.args.items.now c.loop-item.item-index item (omega arith) c.item-item.is c.loop-item.at _ c.loop-item.invariant.fits next;
      is = any_next c.args.items.now c.loop-item.item-index item (omega arith) c.item-item.is c.loop-item.at c.args.before _ c.loop-item.all _ _ next
          (ap (λ n. bit_or c.loop-item.all n) c.ends_of-all.ensures) c.loop-item.invariant.is;
    }

pub ends_of_any-returns : goal.ends_of_any-returns
ends_of_any-returns t c =
    any_end c.args.items.now c.loop-item.item-index c.loop-item.at c.args.before c.loop-item.all _ (omega arith) c.loop-item.invariant.is
