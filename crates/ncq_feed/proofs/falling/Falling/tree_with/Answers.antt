use Rattle.std.proofs.Common.{◌≡◌, ℕ, List, ◌<◌, ◌+◌, ◌||◌, Bool, true, false, [], ◌∷◌, ◌++◌, take, length, get_or, nat_eq, reverse, arith, refl, ap, sym, ◌∙◌}
use Rattle.std.proofs.lemmas.List.{take_all, take_more}
use Rattle.ncq_feed.specs.Runs.{is_among}
use Rattle.ncq_feed.proofs.PendingLaws.{among_reverse, noted_more}
use Rattle.ncq_feed.proofs.TreeLaws.{put}
use Rattle.ncq_feed.proofs.falling.Falling.tree_with.Goals as goal

or_false : (b : Bool) → (b || false) ≡ b
or_false true = refl
or_false false = refl

pub loop-noted-preserved : goal.loop-noted-preserved
loop-noted-preserved c = λ other.
    let i = c.loop-noted.noted-index in
    let items = c.deref-noted-items.result.now in
    let h : i < length items = omega arith in
    let e : take (i + 1) items ≡ take i items ++ get_or items i 0 ∷ [] = take_more items i 0 h in
    noted_more other (get_or items i 0) (take i items) [] c.loop-noted.tree.keys c.insert.new.self.keys (c.loop-noted.invariant other)
    (put c.loop-noted.tree c.insert.new.self (get_or items i 0) c.in_ok-insert.ensures.updates other)
    ∙ ap (λ front. is_among other front || is_among other []) (sym e)

pub returns : goal.returns
returns c = λ other.
    let items = c.deref-noted-items.result.now in
    let all : is_among other c.loop-noted.tree.keys ≡ is_among other items =
    c.loop-noted.invariant other ∙ or_false (is_among other (take c.loop-noted.noted-index items)) ∙ ap (is_among other) (take_all c.loop-noted.noted-index items (omega arith)) in
    put c.loop-noted.tree c.insert-2.new.self c.args.number c.in_ok-insert-2.ensures.updates other
    ∙ ap (λ b. nat_eq other c.args.number || b)
    (all ∙ ap (is_among other) c.deref-noted-items.ensures.value ∙ sym (among_reverse other c.self.inside.falling.items) ∙ ap (is_among other) c.self.view_is)
