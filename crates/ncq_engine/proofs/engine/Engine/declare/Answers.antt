use Rattle.std.proofs.Common.{◌≡◌, ◌∙◌, ap, rules, subst, sym, ◌+◌, length, take, List, ℕ}
use Rattle.std.specs.Prelude.{Err, IsSome, Ok}
use Rattle.std.proofs.Math.Seq.{take-append_seam}
use Rattle.ncq_script.specs.declared.command.Command.TheVariants.{Declare}
use Rattle.ncq_source.specs.StoreStates.{Declares, StoreState, found}
use Rattle.ncq_source.specs.declared.key.Key.{Key}
use Rattle.ncq_engine.specs.Applies.{Applies, KeepsCache, ok_text}
use Rattle.ncq_engine.specs.Engines.{IsEngine}
use Rattle.ncq_engine.specs.Stands.{EngineState}
use Rattle.ncq_engine.proofs.CachedAnswers.{keeps_as_was, keeps_itself, keeps_same}
use Rattle.ncq_engine.proofs.CommandLaws.{declare_accepted, declare_refused, not_exists}
use Rattle.ncq_engine.proofs.InvariantLaws.{invariant_counted, invariant_declared}
use Rattle.ncq_engine.proofs.Views.{view_of}
use Rattle.ncq_engine.proofs.engine.Engine.declare.Goals as goal

-- what is declared is what was asked: the copies are equal
asked : (old new : StoreState) (name name' root root' : List ℕ) (key key' : Key) → name' ≡ name → root' ≡ root → key' ≡ key → Declares old new name' root' key' → Declares old new name root key
asked old new name name' root root' key key' n r k = subst (λ (t : List ℕ × (List ℕ × Key)). Declares old new t.0 t.1.0 t.1.1) (λ j. (n j, (r j, k j)))

pub returns-in-Ok-clause-applies : goal.returns-in-Ok-clause-applies
returns-in-Ok-clause-applies c =
    let was = view_of c.self.inside in
    subst (λ (e : EngineState). Applies e (Declare c.args.name.now c.args.root.now c.args.key.now) c.args.out.now.items (Ok c.in_ok-answered.answered) (record was { store = c.declare.new.self; count = was.count + 1 }) c.write_accepted.new.out.items) c.self.view_is
    (declare_accepted was c.args.out.now.items c.in_ok-answered.answered c.write_accepted.new.out.items
    c.in_ok-answered.ensures.text c.in_ok-answered.ensures.places c.args.name.now c.args.root.now c.args.key.now c.declare.new.self
    (λ some. not_exists c.declare.result c.in-Ok.field-0 c.in-Ok.is (c.declare.ensures.exists.1 (subst (λ n. IsSome (found was.store n)) (sym c.in_ok-its_name.ensures) some)))
    (asked was.store c.declare.new.self _ _ _ _ _ _ c.in_ok-its_name.ensures c.in_ok-its_root.ensures c.in_ok-its_key.ensures c.in-Ok.ensures.ok))

pub returns-in-Err-Exists-clause-applies : goal.returns-in-Err-Exists-clause-applies
returns-in-Err-Exists-clause-applies c =
    let was = view_of c.self.inside in
    let long : c.len-before.result ≡ length c.args.out.now.items = search rules in
    let cut : c.truncate.new.self.items ≡ c.args.out.now.items = c.truncate.ensures.items ∙ (λ j. take (long j) (c.in_ok-answered.ensures.text j)) ∙ take-append_seam c.args.out.now.items (ok_text (was.count + 1)) in
    subst (λ (e : EngineState). Applies e (Declare c.args.name.now c.args.root.now c.args.key.now) c.args.out.now.items c.refuse.result c.refuse.new.self c.truncate.new.self.items) c.self.view_is
    (declare_refused was c.args.out.now.items c.refuse.result c.refuse.new.self c.truncate.new.self.items
    (c.refuse.ensures.counted ∙ ap (λ (store : StoreState). record was { store = store; count = was.count + 1 }) c.in-Err-Exists.ensures.err)
    cut c.args.name.now c.args.root.now c.args.key.now c.refuse.ensures.refused
    (subst (λ n. IsSome (found was.store n)) c.in_ok-its_name.ensures (c.declare.ensures.exists.0 (c.in-Err-Exists.is ∙ ap Err c.in-Err-Exists.field-0-is))))

pub invariant_of-self : goal.invariant_of-self
invariant_of-self c =
    let was = view_of c.self.inside in
    invariant_counted (record was { store = c.declare.new.self }) (invariant_declared was c.declare.new.self c.in_ok-its_name.its_name c.in_ok-its_root.its_root c.in_ok-its_key.its_key c.in-Ok.ensures.ok c.self.invariant)

pub invariant_of-self-in-Err-Exists : goal.invariant_of-self-in-Err-Exists
invariant_of-self-in-Err-Exists c =
    let i = c.self.inside in
    subst (λ (s : StoreState). IsEngine s i.count i.creates (record { labels = i.labels.items; relations = i.relations.items }) i.live_table.subscriptions i.live_table.table i.cache i.distinct) (sym c.in-Err-Exists.ensures.err) c.self.invariant

pub invariant_of-self-in-Err-OutOfMemory : goal.invariant_of-self-in-Err-OutOfMemory
invariant_of-self-in-Err-OutOfMemory c =
    let i = c.self.inside in
    subst (λ (s : StoreState). IsEngine s i.count i.creates (record { labels = i.labels.items; relations = i.relations.items }) i.live_table.subscriptions i.live_table.table i.cache i.distinct) (sym c.in-Err-OutOfMemory.ensures.err) c.self.invariant

-- what is kept of what was told is kept still
pub returns-in_err-answered-clause-cached : goal.returns-in_err-answered-clause-cached
returns-in_err-answered-clause-cached c = keeps_itself c.args.self.now

pub returns-in_err-its_name-clause-cached : goal.returns-in_err-its_name-clause-cached
returns-in_err-its_name-clause-cached c = keeps_itself c.args.self.now

pub returns-in_err-its_root-clause-cached : goal.returns-in_err-its_root-clause-cached
returns-in_err-its_root-clause-cached c = keeps_itself c.args.self.now

pub returns-in_err-its_key-clause-cached : goal.returns-in_err-its_key-clause-cached
returns-in_err-its_key-clause-cached c = keeps_itself c.args.self.now

pub returns-in-Ok-clause-cached : goal.returns-in-Ok-clause-cached
returns-in-Ok-clause-cached c = keeps_as_was c.self.view_is

pub returns-in-Err-Exists-clause-cached : goal.returns-in-Err-Exists-clause-cached
returns-in-Err-Exists-clause-cached c =
    subst (λ (e : EngineState). KeepsCache e c.refuse.new.self) c.self.view_is
    (keeps_same (view_of c.self.inside) c.refuse.new.self (ap (λ (e : EngineState). e.table) c.refuse.ensures.counted) (ap (λ (e : EngineState). e.cache) c.refuse.ensures.counted))

pub returns-clause-cached : goal.returns-clause-cached
returns-clause-cached c = keeps_as_was c.self.view_is
