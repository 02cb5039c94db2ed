use Rattle.std.proofs.Common.{◌≡◌, ◌==◌, ◌∷◌, ◌++◌, [], List, ℕ, true, None, ap, ◌∙◌, subst, rules}
use Rattle.std.specs.Prelude.{IfSome}
use Rattle.std.specs.Borrow.{Bor}
use Rattle.ncq_base.specs.Names.{is_pyx_name}
use Rattle.ncq_flat.specs.Checked.{are_checked, open_names}
use Rattle.ncq_flat.specs.Checked.Place.{Tag}
use Rattle.ncq_flat.specs.Items.{LeadsWhere}
use Rattle.ncq_flat.proofs.FrontLaws.{front_opened}
use Rattle.ncq_flat.proofs.checking.canonical_front.Goals as goal

pub returns-in-Some-2-clause-checked : goal.returns-in-Some-2-clause-checked
returns-in-Some-2-clause-checked c =
    let mark : ℕ = c.in-Some-split_first.mark.now in
    let word : List ℕ = c.in-Some-split_first.word.now in
    let names = open_names c.push.new.self.items in
    let line : c.in-Some.line.now ≡ mark ∷ word = c.in-Some-split_first.ensures.cases.0 in
    let first : (mark == 40) ≡ true = search rules in
    let named : is_pyx_name word ≡ true = search rules in
    let only : names ≡ word ∷ [] =
    ap open_names (c.in_ok-push.ensures.items ∙ ap (λ (x : List (Bor (List ℕ))). x ++ c.in-Some-split_first.word ∷ []) c.in_ok-names.ensures.items) in
    let closed = subst (λ n. IfSome n (λ f. LeadsWhere (are_checked names (Tag None)) c.in-Some.more.now f.1.now f.0)) c.in-Some-2.is c.in_ok-count.ensures.checked in
    front_opened c.args.text.now c.in-Some.line.now c.in-Some.more.now c.in-Some-2.rest.now mark word names c.in-Some-2.count
    c.in-Some.ensures.0 c.in-Some.ensures.1 line first named only closed
