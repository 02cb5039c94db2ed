use Rattle.std.proofs.Common.{◌≡◌, ◌∙◌, ◌+◌, ◌==◌, ◌≤◌, ℕ, List, [], ◌∷◌, arith, ap, get_or, inl, inr, length, refl, subst, sym, take, true}
use Rattle.std.specs.List.{AllByRecursion}
use Rattle.std.proofs.lemmas.Bool.{eqb-true}
use Rattle.std.proofs.lemmas.List.{take_all, take_more}
use Rattle.ncq_live.specs.LiveTables.{LiveState}
use Rattle.ncq_live.specs.Wears.{HasTheWorn}
use Rattle.ncq_shelf.specs.Stands.{IsThere}
use Rattle.ncq_engine.specs.Compactions.{AreCompacted}
use Rattle.ncq_engine.specs.Stands.{EngineState, Follows}
use Rattle.ncq_engine.proofs.CompactTurns.{HaveMet, all_met, compacted_then, each_still_there, follows_then, met_more, met_none, nothing_then, same_alone, same_then, there_still}
use Rattle.ncq_engine.proofs.CompactAnswers.{ok_so}
use Rattle.ncq_engine.proofs.GivenUp.{with_parts}
use Rattle.ncq_engine.proofs.MovedBases.{compacted_moved}
use Rattle.ncq_engine.proofs.TellingLoops.{each_here}
use Rattle.ncq_engine.proofs.Views.{view_of}
use Rattle.ncq_engine.proofs.engine.Engine.compact_worn.Goals.{After-as_slice-number-items, After-clear, After-compact_file, After-fold_worn, After-is_empty, After-worn}
use Rattle.ncq_engine.proofs.engine.Engine.compact_worn.Goals as goal

-- to ask which files are worn is no change
asked_is : (c : After-worn) → with_parts (view_of c.self.inside) c.self.inside.store c.worn.new.self ≡ c.args.self.now
asked_is c = (λ i. with_parts (view_of c.self.inside) c.self.inside.store (c.worn.ensures.same i)) ∙ c.self.view_is

-- the engine before the first turn keeps nothing of what was told
abbrev asked : After-clear → EngineState
asked c = record (with_parts (view_of c.self.inside) c.self.inside.store c.worn.new.self) { cache = c.clear.new.self }

gave : (c : After-clear) → asked c ≡ record c.args.self.now { cache = [] }
gave c = (λ i. record (with_parts (view_of c.self.inside) c.self.inside.store (c.worn.ensures.same i)) { cache = c.clear.ensures i }) ∙ ap (λ (e : EngineState). record e { cache = [] }) c.self.view_is

has : (c : After-as_slice-number-items) → HasTheWorn c.worn.new.self.table.files c.worn.new.self.subscriptions c.as_slice-number-items.result.now
has c =
    subst (λ (p : List ℕ × LiveState). HasTheWorn p.1.table.files p.1.subscriptions p.0)
    (λ i. (sym c.as_slice-number-items.ensures i, sym c.worn.ensures.same i)) c.in_ok-worn.ensures.worn

each_there : (c : After-as_slice-number-items) → AllByRecursion (IsThere c.worn.new.self.table.files) c.as_slice-number-items.result.now
each_there c =
    subst (λ (p : List ℕ × LiveState). AllByRecursion (IsThere p.1.table.files) p.0)
    (λ i. (sym c.as_slice-number-items.ensures i, sym c.worn.ensures.same i)) c.in_ok-worn.ensures.there

-- nothing may be worn
none_long : (xs : List ℕ) → (length xs == 0) ≡ true → xs ≡ []
none_long [] e = refl
none_long (x ∷ xs) e = absurd (let long = eqb-true (length (x ∷ xs)) 0 e in let bad : ⊥ = omega (arith, long) in bad)

none_worn : (c : After-is_empty) → c.is_empty.result ≡ true → HasTheWorn c.worn.new.self.table.files c.worn.new.self.subscriptions []
none_worn c empty =
    subst (λ (p : List ℕ × LiveState). HasTheWorn p.1.table.files p.1.subscriptions p.0)
    (λ i. ((sym c.as_slice.ensures ∙ none_long c.as_slice.result.now (sym c.is_empty.ensures ∙ empty)) i, sym c.worn.ensures.same i)) c.in_ok-worn.ensures.worn

pub returns-in_err-worn-clause-follows : goal.returns-in_err-worn-clause-follows
returns-in_err-worn-clause-follows c = λ h. subst (λ (e : EngineState). Follows e h) (sym (asked_is (goal.at.returns-in_err-worn-clause-follows c).After-worn))

pub returns-in_err-worn-clause-same : goal.returns-in_err-worn-clause-same
returns-in_err-worn-clause-same c = same_alone c.args.self.now _ (asked_is (goal.at.returns-in_err-worn-clause-same c).After-worn)

pub returns-in_err-worn-clause-cached : goal.returns-in_err-worn-clause-cached
returns-in_err-worn-clause-cached c = inl (asked_is (goal.at.returns-in_err-worn-clause-cached c).After-worn)

pub returns-then-is_empty-clause-follows : goal.returns-then-is_empty-clause-follows
returns-then-is_empty-clause-follows c = λ h. subst (λ (e : EngineState). Follows e h) (sym (asked_is (goal.at.returns-then-is_empty-clause-follows c).After-worn))

pub returns-then-is_empty-clause-same : goal.returns-then-is_empty-clause-same
returns-then-is_empty-clause-same c = same_alone c.args.self.now _ (asked_is (goal.at.returns-then-is_empty-clause-same c).After-worn)

pub returns-then-is_empty-clause-compacted : goal.returns-then-is_empty-clause-compacted
returns-then-is_empty-clause-compacted c =
    let at = goal.at.returns-then-is_empty-clause-compacted c in
    let was = with_parts (view_of c.self.inside) c.self.inside.store c.worn.new.self in
    subst (λ (e : EngineState). AreCompacted e was) (asked_is at.After-worn) (all_met was was [] (none_worn at.After-is_empty c.if-is_empty.true) (met_none was))

pub returns-then-is_empty-clause-cached : goal.returns-then-is_empty-clause-cached
returns-then-is_empty-clause-cached c = inl (asked_is (goal.at.returns-then-is_empty-clause-cached c).After-worn)

pub loop-number-init : goal.loop-number-init
loop-number-init c = met_none _

pub compact_file-requires-clause-there : goal.compact_file-requires-clause-there
compact_file-requires-clause-there c =
    let at = goal.at.compact_file-requires-clause-there c in
    let list = c.as_slice-number-items.result.now in
    let index = c.loop-number.number-index in
    there_still (asked at.After-clear) c.loop-number.self (take index list) c.loop-number.invariant (get_or list index 0)
    (each_here (IsThere c.worn.new.self.table.files) list index 0 c.loop-number-test.true (each_there at.After-as_slice-number-items))

pub compact_file-requires-clause-nothing : goal.compact_file-requires-clause-nothing
compact_file-requires-clause-nothing c =
    let before = (goal.at.compact_file-requires-clause-nothing c).After-clear in
    nothing_then c.args.self.now (asked before) c.loop-number.self (gave before) c.loop-number.invariant.same

pub loop-number-preserved : goal.loop-number-preserved
loop-number-preserved c =
    let before = (goal.at.loop-number-preserved c).After-clear in
    let list = c.as_slice-number-items.result.now in
    let at = c.loop-number.number-index in
    met_more (asked before) c.loop-number.self c.compact_file.new.self (take at list) (get_or list at 0) c.loop-number.invariant c.compact_file.ensures.same c.compact_file.ensures.others c.compact_file.ensures.here
    (take (at + 1) list) (take_more list at 0 c.loop-number-test.true) c.compact_file.ensures.follows c.in_ok-compact_file.ensures.compacted

-- the engine behind a turn that was given up
turn_same : (c : After-compact_file) (before : After-clear) → HaveMet (asked before) c.loop-number.self (take c.loop-number.number-index c.as_slice-number-items.result.now) → c.compact_file.new.self ≡ record (asked before) { table = c.compact_file.new.self.table }
turn_same c before m = c.compact_file.ensures.same ∙ ap (λ (e : EngineState). record e { table = c.compact_file.new.self.table }) m.same

pub returns-in_err-compact_file-clause-follows : goal.returns-in_err-compact_file-clause-follows
returns-in_err-compact_file-clause-follows c =
    let at = goal.at.returns-in_err-compact_file-clause-follows c in
    let before = at.After-clear in
    let m = c.loop-number.invariant in
    follows_then c.args.self.now (asked before) c.compact_file.new.self (gave before) (turn_same at.After-compact_file before m) (λ h s. c.compact_file.ensures.follows h (m.follows h s))

pub returns-in_err-compact_file-clause-same : goal.returns-in_err-compact_file-clause-same
returns-in_err-compact_file-clause-same c =
    let at = goal.at.returns-in_err-compact_file-clause-same c in
    let before = at.After-clear in
    same_then c.args.self.now (asked before) c.compact_file.new.self (gave before) (turn_same at.After-compact_file before c.loop-number.invariant)

pub returns-in_err-compact_file-clause-cached : goal.returns-in_err-compact_file-clause-cached
returns-in_err-compact_file-clause-cached c =
    let at = goal.at.returns-in_err-compact_file-clause-cached c in
    let before = at.After-clear in
    inr (nothing_then c.args.self.now (asked before) c.compact_file.new.self (gave before) (turn_same at.After-compact_file before c.loop-number.invariant))

pub fold_worn-requires-clause-there : goal.fold_worn-requires-clause-there
fold_worn-requires-clause-there c =
    let at = goal.at.fold_worn-requires-clause-there c in
    subst (AllByRecursion (IsThere c.loop-number.self.table.files)) (c.as_slice-number-items.ensures ∙ sym c.as_slice-2.ensures)
    (each_still_there (asked at.After-clear) c.loop-number.self (take c.loop-number.number-index c.as_slice-number-items.result.now) c.loop-number.invariant c.as_slice-number-items.result.now (each_there at.After-as_slice-number-items))

pub fold_worn-requires-clause-nothing : goal.fold_worn-requires-clause-nothing
fold_worn-requires-clause-nothing c =
    let before = (goal.at.fold_worn-requires-clause-nothing c).After-clear in
    nothing_then c.args.self.now (asked before) c.loop-number.self (gave before) c.loop-number.invariant.same

-- the engine behind the fold
fold_same : (c : After-fold_worn) (before : After-clear) (m : HaveMet (asked before) c.loop-number.self (take c.loop-number.number-index c.as_slice-number-items.result.now)) → c.fold_worn.new.self ≡ record (asked before) { table = c.fold_worn.new.self.table }
fold_same c before m = c.fold_worn.ensures.same ∙ ap (λ (e : EngineState). record e { table = c.fold_worn.new.self.table }) m.same

pub returns-clause-follows : goal.returns-clause-follows
returns-clause-follows c =
    let at = goal.at.returns-clause-follows c in
    let before = at.After-clear in
    let m = c.loop-number.invariant in
    follows_then c.args.self.now (asked before) c.fold_worn.new.self (gave before) (fold_same at.After-fold_worn before m) (λ h s. c.fold_worn.ensures.follows h (m.follows h s))

pub returns-clause-same : goal.returns-clause-same
returns-clause-same c =
    let at = goal.at.returns-clause-same c in
    let before = at.After-clear in
    same_then c.args.self.now (asked before) c.fold_worn.new.self (gave before) (fold_same at.After-fold_worn before c.loop-number.invariant)

pub returns-clause-compacted : goal.returns-clause-compacted
returns-clause-compacted c =
    let all = goal.at.returns-clause-compacted c in
    let before = all.After-clear in
    let list = c.as_slice-number-items.result.now in
    let at = c.loop-number.number-index in
    let past : length list ≤ at = omega (arith, c.loop-number-test.false) in
    let met = subst (λ (xs : List ℕ). HaveMet (asked before) c.loop-number.self xs) (take_all at list past) c.loop-number.invariant in
    let compacted = all_met (asked before) c.loop-number.self list (has all.After-as_slice-number-items) met in
    ok_so c.fold_worn.result
    (compacted_then c.args.self.now (asked before) c.fold_worn.new.self (gave before) (fold_same all.After-fold_worn before c.loop-number.invariant)
    (compacted_moved (asked before) c.loop-number.self c.fold_worn.new.self c.loop-number.invariant.same compacted c.fold_worn.ensures.bases))

pub returns-clause-cached : goal.returns-clause-cached
returns-clause-cached c =
    let at = goal.at.returns-clause-cached c in
    let before = at.After-clear in
    inr (nothing_then c.args.self.now (asked before) c.fold_worn.new.self (gave before) (fold_same at.After-fold_worn before c.loop-number.invariant))
