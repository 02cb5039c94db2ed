use Rattle.std.proofs.Common.{rules, ◌≡◌, ◌++◌, ◌∷◌, [], ℕ, List, arith, sym, ap, ◌∙◌, subst}
use Rattle.std.specs.Prelude.{OnOk, not}
use Rattle.ncq_path.specs.declared.path.Path.TheVariants.{Star, Plus}
use Rattle.ncq_path.specs.Texts.{path_text, bracketed}
use Rattle.ncq_path.specs.Kinds.{is_tag}
use Rattle.ncq_path.proofs.TextCases.{text_of_star, text_of_plus, joined_init, joined_next, front_through}
use Rattle.ncq_path.proofs.text.+text.Goals as goal

pub push_joined-loop-i-init : goal.push_joined-loop-i-init
push_joined-loop-i-init t c = record {
  whole = joined_init c.args.brackets c.args.mark c.args.items.now c.index-items-0.result
      c.args.out.now.items c.push_item.new.out.items (search rules) c.index-items-0.is
      c.in_ok-push_item.ensures.ok;
  front = c.push_item.ensures.front;
}

pub push_joined-loop-i-preserved : goal.push_joined-loop-i-preserved
push_joined-loop-i-preserved t c = record {
  whole = joined_next c.args.brackets c.args.mark c.args.items.now c.loop-i.i c.index-items-i.result
      c.loop-i.out.items c.push_marked.new.out.items _ (omega arith) c.index-items-i.is
      c.in_ok-push_marked.ensures.ok c.loop-i.invariant.whole;
  front = front_through c.args.out.now.items c.loop-i.out.items c.push_marked.new.out.items
      c.push_marked.ensures.front c.loop-i.invariant.front;
}

pub push_path-returns-in-Star-clause-ok : goal.push_path-returns-in-Star-clause-ok
push_path-returns-in-Star-clause-ok t c =
    let e : path_text c.args.path.now ≡ bracketed (not (is_tag c.get.result.now)) (path_text c.get.result.now) ++ 42 ∷ [] =
    ap path_text (c.in-Star.is ∙ ap Star (sym c.get.ensures)) ∙ text_of_star c.get.result.now in
    subst (λ (text : List ℕ). OnOk c.push_repeated.result (c.push_repeated.new.out.items ≡ c.args.out.now.items ++ text))
    (sym e) c.push_repeated.ensures.ok

pub push_path-returns-in-Plus-clause-ok : goal.push_path-returns-in-Plus-clause-ok
push_path-returns-in-Plus-clause-ok t c =
    let e : path_text c.args.path.now ≡ bracketed (not (is_tag c.get-in-Plus.result.now)) (path_text c.get-in-Plus.result.now) ++ 43 ∷ [] =
    ap path_text (c.in-Plus.is ∙ ap Plus (sym c.get-in-Plus.ensures)) ∙ text_of_plus c.get-in-Plus.result.now in
    subst (λ (text : List ℕ). OnOk c.push_repeated-in-Plus.result (c.push_repeated-in-Plus.new.out.items ≡ c.args.out.now.items ++ text))
    (sym e) c.push_repeated-in-Plus.ensures.ok
