use Rattle.std.proofs.Common.{◌≡◌, ◌+◌, ◌++◌, ◌∷◌, ◌∙◌, ℕ, List, length, drop, ap, sym, subst, rules, append-nil}
use Rattle.std.proofs.lemmas.List.{drop-drop}
use Rattle.std.proofs.Math.Seq.{drop-append_seam}
use Rattle.ncq_script.specs.NextOfLines.{IsReady}
use Rattle.ncq_script.proofs.Follow.{front_joins, cut_ready, feed_found, wanting, at_end}
use Rattle.ncq_script.proofs.line.LineReader.find.Goals as goal

pub returns-then-is_empty-clause-ready : goal.returns-then-is_empty-clause-ready
returns-then-is_empty-clause-ready c =
    let at = c.self.inside.at in
    let pending = c.self.inside.pending.items in
    let front = c.in-Some.front.now in
    let rest = c.in-Some.field-0-1.now in
    let ahead : c.ahead_of-ahead.result.now ≡ drop at pending = c.ahead_of-ahead.ensures ∙ ap (λ (xs : List ℕ). drop at xs) c.deref.ensures.value in
    let cut : drop at pending ≡ front ++ 10 ∷ rest = sym ahead ∙ c.in-Some.ensures.1 in
    let none : length c.self.inside.kept.items ≡ 0 = search rules in
    λ len e.
    let same : length front ≡ len = cc in
    subst (λ n. IsReady c.args.self.now n) same (rw (← c.self.view_is) (cut_ready _ front rest none c.in-Some.ensures.0 cut))

pub returns-in_ok-keep-in-Some-clause-found : goal.returns-in_ok-keep-in-Some-clause-found
returns-in_ok-keep-in-Some-clause-found c =
    let at = c.self.inside.at in
    let pending = c.self.inside.pending.items in
    let front = c.in-Some.front.now in
    let rest = c.in-Some.field-0-1.now in
    let ahead : c.ahead_of-ahead.result.now ≡ drop at pending = c.ahead_of-ahead.ensures ∙ ap (λ (xs : List ℕ). drop at xs) c.deref.ensures.value in
    let cut : drop at pending ≡ front ++ 10 ∷ rest = sym ahead ∙ c.in-Some.ensures.1 in
    let behind : drop (at + length front) pending ≡ 10 ∷ rest =
    sym (drop-drop (length front) at pending) ∙ ap (λ (xs : List ℕ). drop (length front) xs) cut ∙ drop-append_seam front (10 ∷ rest) in
    let split : drop at pending ≡ front ++ drop (at + length front) pending = cut ∙ ap (λ (xs : List ℕ). front ++ xs) (sym behind) in
    rw (← c.self.view_is) (λ pushed count. front_joins _ _ _ _ _ _ front _ _ pushed count c.in-Some.ensures.0 split c.in_ok-keep-in-Some.ensures.ok)

pub returns-in_ok-keep-in-Some-clause-ready : goal.returns-in_ok-keep-in-Some-clause-ready
returns-in_ok-keep-in-Some-clause-ready c =
    let at = c.self.inside.at in
    let pending = c.self.inside.pending.items in
    let front = c.in-Some.front.now in
    let rest = c.in-Some.field-0-1.now in
    let ahead : c.ahead_of-ahead.result.now ≡ drop at pending = c.ahead_of-ahead.ensures ∙ ap (λ (xs : List ℕ). drop at xs) c.deref.ensures.value in
    let cut : drop at pending ≡ front ++ 10 ∷ rest = sym ahead ∙ c.in-Some.ensures.1 in
    let behind : drop (at + length front) pending ≡ 10 ∷ rest =
    sym (drop-drop (length front) at pending) ∙ ap (λ (xs : List ℕ). drop (length front) xs) cut ∙ drop-append_seam front (10 ∷ rest) in
    λ len e. feed_found _ rest len behind e

pub returns-else-is_empty-2-clause-found : goal.returns-else-is_empty-2-clause-found
returns-else-is_empty-2-clause-found c =
    let seen = c.ahead_of-ahead.result.now in
    let ahead : seen ≡ drop c.self.inside.at c.self.inside.pending.items = c.ahead_of-ahead.ensures ∙ ap (λ (xs : List ℕ). drop c.self.inside.at xs) c.deref.ensures.value in
    let split : drop c.self.inside.at c.self.inside.pending.items ≡ seen ++ c.clear.new.self.items =
    sym ahead ∙ sym (append-nil seen) ∙ ap (λ (xs : List ℕ). seen ++ xs) (sym c.clear.ensures.items) in
    rw (← c.self.view_is) (λ pushed count. front_joins _ _ _ _ _ _ seen _ _ pushed count c.in-None.ensures split c.in_ok-keep-in-None.ensures.ok)

pub returns-then-not-self-clause-found : goal.returns-then-not-self-clause-found
returns-then-not-self-clause-found c =
    let ahead : c.ahead_of-ahead.result.now ≡ drop c.self.inside.at c.self.inside.pending.items = c.ahead_of-ahead.ensures ∙ ap (λ (xs : List ℕ). drop c.self.inside.at xs) c.deref.ensures.value in
    rw (← c.self.view_is) (λ pushed count. wanting _ _ _ _ _ _ _ _ ahead c.clear.ensures.items c.in-None.ensures c.in_ok-keep-in-None.ensures.ok _ pushed count c.if-not-self.true)

pub returns-then-is_empty-2-clause-found : goal.returns-then-is_empty-2-clause-found
returns-then-is_empty-2-clause-found c =
    let ahead : c.ahead_of-ahead.result.now ≡ drop c.self.inside.at c.self.inside.pending.items = c.ahead_of-ahead.ensures ∙ ap (λ (xs : List ℕ). drop c.self.inside.at xs) c.deref.ensures.value in
    let none : length c.keep-in-None.new.kept.items ≡ 0 = search rules in
    rw (← c.self.view_is) (λ pushed count. at_end _ _ _ _ _ _ _ _ ahead c.clear.ensures.items c.in-None.ensures c.in_ok-keep-in-None.ensures.ok _ pushed count c.if-not-self.false none)
