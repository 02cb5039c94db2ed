use Rattle.std.proofs.Common.{◌≡◌, ◌∙◌, ◌+◌, arith, take, sym, ap, max, [], ◌∷◌, ◌++◌, ℕ, List}
use Rattle.std.proofs.lemmas.List.{take_more}
use Rattle.ncq_engine.specs.Engines.{last_in, latest_in}
use Rattle.ncq_engine.proofs.KeptLaws.{latest_push}
use Rattle.ncq_engine.proofs.firing.latest_change.Goals as goal
use Rattle.ncq_engine.proofs.firing.latest_change.Goals.{then-last-latest, else-last-latest}

pub loop-name-preserved : goal.loop-name-preserved
loop-name-preserved c =
    let store = c.args.store.now in
    let sources = c.args.sources.now in
    let at = c.loop-name.name-index in
    let item = c.name-item.result in
    let last : ℕ = c.last_change-last.result in
    let before : ℕ = c.loop-name.latest in
    let one : take (at + 1) sources ≡ take at sources ++ item ∷ [] = take_more sources at item c.loop-name-test.true ∙ ap (λ (x : List ℕ). take at sources ++ x ∷ []) (sym c.name-item.is) in
    let more : c.if-last-latest.latest ≡ max before last =
    elim c.if-last-latest.branch [
      | then-last-latest w ↦ (let above = w.if-last-latest.true in let m : last ≡ max before last = omega (arith, above) in w.latest-is ∙ m)
      | else-last-latest w ↦ (let below = w.if-last-latest.false in let m : before ≡ max before last = omega (arith, below) in w.latest-is ∙ m)
    ] in
    more ∙ ap (max before) c.last_change-last.ensures ∙ ap (λ (n : ℕ). max n (last_in store item)) c.loop-name.invariant ∙ sym (latest_push store (take at sources) item) ∙ ap (latest_in store) (sym one)
