-- A new engine: nothing is declared, nobody is there, and no file.
use Rattle.std.proofs.Common.{◌≡◌, ℕ, ◌*◌, ◌≤◌, List, [], refl, sym, ◌∙◌, ap, subst, arith}
use Rattle.std.specs.FinMap.{empty, get-empty}
use Rattle.std.specs.Ordering.{nat_cmp}
use Rattle.ncq_book.specs.declared.subscription.Subscription.{Subscription as Kept}
use Rattle.ncq_cache.specs.Cached.{Cached}
use Rattle.ncq_callback.specs.Labels.{Handed}
use Rattle.ncq_distinct.specs.DistinctTables.{DistinctTable, counts_at, counts_in}
use Rattle.ncq_group.specs.Tables.{TableState}
use Rattle.ncq_group.proofs.Empty.{nothing_there}
use Rattle.ncq_source.specs.StoreStates.{StoreState}
use Rattle.ncq_engine.specs.declared.span.Span.{Span}
use Rattle.ncq_engine.specs.Engines.{IsEngine, KeepsCounts, last_in}
use Rattle.ncq_engine.specs.Stands.{Follows}
use Rattle.ncq_engine.proofs.InvariantLaws.{none_serve}

abbrev nothing : StoreState
nothing = record { sources = []; changes = 0 }

-- no counts are kept
no_counts : (distinct : DistinctTable) → distinct ≡ empty → KeepsCounts [] distinct
no_counts distinct is install none = ap (λ (t : DistinctTable). counts_at t install) is ∙ ap counts_in (get-empty nat_cmp install)

no_change : (name : List ℕ) → last_in nothing name ≡ 0
no_change name = refl

module _ (handed : Handed) (table : TableState) (files : table.files ≡ empty) (number : table.number ≡ 0) (next : table.next_file ≡ 0) (cache : List Cached) (distinct : DistinctTable) where
  holds : distinct ≡ empty → cache ≡ [] → IsEngine nothing 0 0 handed [] table cache distinct
  holds counts none = record {
    changes = (let z : 0 ≤ 0 = omega arith in z);
    creates_too = (let z : 0 ≤ 0 = omega arith in z);
    lasts = λ name. (let n = no_change name in let z : last_in nothing name ≤ 0 = omega (arith, n) in z);
    can = tt;
    rise = tt;
    installed = tt;
    number = number;
    fits = λ at file here. absurd (nothing_there table.files files at file here);
    sound = λ at file here n low. absurd (nothing_there table.files files at file here);
    next = (let l : table.next_file ≤ 256 * 0 = omega (arith, next) in l);
    serve = none_serve handed.relations table cache none;
    counts = no_counts distinct counts;
  }

  follows : (places : List Span) → Follows (record { store = nothing; clock = 0; count = 0; creates = 0; handed = handed; subscriptions = []; table = table; spans = places; cache = cache; distinct = distinct }) []
  follows places = record {
    sources = refl;
    last = no_change;
    changes = refl;
    clock = refl;
    creates = refl;
    subscriptions = tt;
    contents = λ at file change here low high. absurd (nothing_there table.files files at file here);
    counted = tt;
    rising = tt;
  }

-- by the names of the code
pub new_holds : (store : StoreState) (handed : Handed) (subscriptions : List Kept) (table : TableState) (cache : List Cached) (distinct : DistinctTable) → store ≡ record { sources = []; changes = 0 } → subscriptions ≡ [] → table.files ≡ empty → table.number ≡ 0 → table.next_file ≡ 0 → cache ≡ [] → distinct ≡ empty
    → IsEngine store 0 0 handed subscriptions table cache distinct
new_holds store handed subscriptions table cache distinct s m files number next none counts =
    subst (λ (st : StoreState). IsEngine st 0 0 handed subscriptions table cache distinct) (sym s)
    (subst (λ (ms : List Kept). IsEngine nothing 0 0 handed ms table cache distinct) (sym m) (holds handed table files number next cache distinct counts none))

pub new_follows : (store : StoreState) (clock : ℕ) (handed : Handed) (subscriptions : List Kept) (table : TableState) (places : List Span) (cache : List Cached) (distinct : DistinctTable) → store ≡ record { sources = []; changes = 0 } → clock ≡ 0 → subscriptions ≡ [] → table.files ≡ empty → table.number ≡ 0 → table.next_file ≡ 0
    → Follows (record { store = store; clock = clock; count = 0; creates = 0; handed = handed; subscriptions = subscriptions; table = table; spans = places; cache = cache; distinct = distinct }) []
new_follows store clock handed subscriptions table places cache distinct s c m files number next =
    subst (λ (n : StoreState × (ℕ × List Kept)). Follows (record { store = n.0; clock = n.1.0; count = 0; creates = 0; handed = handed; subscriptions = n.1.1; table = table; spans = places; cache = cache; distinct = distinct }) []) (λ i. (sym s i, (sym c i, sym m i)))
    (follows handed table files number next cache distinct places)
