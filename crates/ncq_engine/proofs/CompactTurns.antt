-- Worn files that are compacted, one after another.
use Rattle.std.proofs.Common.{◌≡◌, ◌≢◌, ℕ, ◌≤◌, ◌⊎◌, Bool, true, false, not, ◌||◌, ◌&&◌, List, [], ◌∷◌, ◌++◌, refl, sym, ◌∙◌, ap, subst, arith, inl, inr, true≢false, max}
use Rattle.std.specs.Prelude.{Option, Some, None, IfSome, ◌==◌, nat_eq, nat_lt, if◌then◌else◌}
use Rattle.std.specs.FinMap.{get}
use Rattle.std.specs.List.{list_any, AllByRecursion}
use Rattle.std.specs.Option.{option_map}
use Rattle.std.proofs.lemmas.Bool.{cases_eq, eqb-true, ne_eqb}
use Rattle.std.proofs.lemmas.Bool.Decides.{nat_tests}
use Rattle.std.proofs.lemmas.List.Folds.{list_any-append}
use mathlib.Core.Bool.{or-false}
use Rattle.ncq_book.specs.declared.subscription.Subscription.{Subscription as Kept}
use Rattle.ncq_live.specs.Wears.{HasTheWorn, is_behind, is_pinned, pins}
use Rattle.ncq_midfile.specs.declared.signed.SignedRow.{SignedRow}
use Rattle.ncq_shelf.specs.KeptFiles.{AtFile, EachFile}
use Rattle.ncq_shelf.specs.Stands.{IsThere}
use Rattle.ncq_source.specs.StoreStates.{StoreState}
use Rattle.ncq_engine.specs.Compactions.{AreCompacted, HasBase, IsWorn, least_of}
use Rattle.ncq_engine.specs.Engines.{latest_in, mark_in}
use Rattle.ncq_engine.specs.History.{History}
use Rattle.ncq_engine.specs.Stands.{EngineState, Follows}
use Rattle.ncq_engine.proofs.EngineLaws.{follows_cached}
use Rattle.ncq_engine.proofs.LeastLaws.{IsUnder, least_under}
use Rattle.ncq_engine.proofs.Lists.{each_more}

-- each file is as it was, or was compacted to its least mark; the worn ones of those that had their turn were
pub record HaveMet (old new : EngineState) (done : List ℕ) : Type 0 where
  pub same : new ≡ record old { table = new.table }
  pub follows : (h : History) → Follows old h → Follows new h
  pub each : EachFile old.table.files (λ number file. (get new.table.files number ≡ Some file) ⊎ HasBase new.table.files number (least_of old number))
  pub met : EachFile old.table.files (λ number file. list_any (nat_eq number) done ≡ true → IsWorn (least_of old number) file.content → HasBase new.table.files number (least_of old number))

-- before the first turn
pub met_none : (e : EngineState) → HaveMet e e []
met_none e = record {
  same = refl;
  follows = λ h s. s;
  each = λ number file at. inl at;
  met = λ number file at listed worn. absurd (true≢false (sym listed));
}

-- one turn more
module _ (old mid new : EngineState) (done : List ℕ) (item : ℕ) (m : HaveMet old mid done) (same : new ≡ record mid { table = new.table })
    (others : (other : ℕ) → other ≢ item → get new.table.files other ≡ get mid.table.files other)
    (here : AtFile mid.table.files item (λ file. (get new.table.files item ≡ Some file) ⊎ HasBase new.table.files item (least_of mid item))) where
  least_is : (number : ℕ) → least_of mid number ≡ least_of old number
  least_is number = ap (λ (e : EngineState). least_of e number) m.same

  pub same_still : new ≡ record old { table = new.table }
  same_still = same ∙ ap (λ (e : EngineState). record e { table = new.table }) m.same

  -- a file of another number keeps its base
  base_still : (number base : ℕ) → number ≢ item → HasBase mid.table.files number base → HasBase new.table.files number base
  base_still number base differs had = record { file = had.file; at = others number differs ∙ had.at; base = had.base }

  -- one that was compacted stays so
  base_here : HasBase mid.table.files item (least_of old item) → HasBase new.table.files item (least_of old item)
  base_here had = elim (here had.file had.at) [
    | inl stays ↦ record { file = had.file; at = stays; base = had.base }
    | inr has ↦ subst (λ n. HasBase new.table.files item n) (least_is item) has
  ]

  each_still : EachFile old.table.files (λ number file. (get new.table.files number ≡ Some file) ⊎ HasBase new.table.files number (least_of old number))
  each_still number file at = elim (cases_eq number item) [
    | inl is ↦ subst (λ n. (get new.table.files n ≡ Some file) ⊎ HasBase new.table.files n (least_of old n)) (sym is) (elim (m.each item file (subst (λ n. get old.table.files n ≡ Some file) is at)) [
      | inl stays ↦ elim (here file stays) [ inl there ↦ inl there | inr has ↦ inr (subst (λ n. HasBase new.table.files item n) (least_is item) has) ]
      | inr had ↦ inr (base_here had)
    ])
    | inr differs ↦ elim (m.each number file at) [
      | inl stays ↦ inl (others number differs ∙ stays)
      | inr had ↦ inr (base_still number (least_of old number) differs had)
    ]
  ]

  pub met_more : (done' : List ℕ) → done' ≡ done ++ item ∷ [] → ((h : History) → Follows mid h → Follows new h)
      → AtFile mid.table.files item (λ file. IsWorn (least_of mid item) file.content → HasBase new.table.files item (least_of mid item)) → HaveMet old new done'
  met_more done' is follows compacted = record {
    same = same_still;
    follows = λ h s. follows h (m.follows h s);
    each = each_still;
    met = λ number file at listed worn. elim (cases_eq number item) [
      | inl equal ↦
          let there = subst (λ n. get old.table.files n ≡ Some file) equal at in
          subst (λ n. HasBase new.table.files n (least_of old n)) (sym equal) (elim (m.each item file there) [
            | inl stays ↦
                let worn_here = subst (λ n. IsWorn n file.content) (ap (least_of old) equal ∙ sym (least_is item)) worn in
                subst (λ n. HasBase new.table.files item n) (least_is item) (compacted file stays worn_here)
            | inr had ↦ base_here had
          ])
      | inr differs ↦
          let other : nat_eq number item ≡ false = ne_eqb number item differs in
          let before : list_any (nat_eq number) done ≡ true =
          sym (or-false (list_any (nat_eq number) done)) ∙ (λ i. list_any (nat_eq number) done || (sym other i || false)) ∙ sym (list_any-append (nat_eq number) done (item ∷ [])) ∙ ap (list_any (nat_eq number)) (sym is) ∙ listed in
          base_still number (least_of old number) differs (m.met number file at before worn)
    ];
  }

-- no timer pins a file whose rows are all up to a number that is under the mark of each that has it
module _ (store : StoreState) (number least : ℕ) (rows : List SignedRow) (last : AllByRecursion (λ r. r.number ≤ least) rows) where
  none_behind : (noted : ℕ) → least ≤ noted → (rs : List SignedRow) → AllByRecursion (λ r. r.number ≤ least) rs → list_any (λ r. nat_lt noted r.number) rs ≡ false
  none_behind noted low [] h = refl
  none_behind noted low (r ∷ rs) h =
      let first = h.0 in
      let not_above : nat_lt noted r.number ≡ false = grind (arith, nat_tests, first, low) in
      (λ i. not_above i || list_any (λ r. nat_lt noted r.number) rs) ∙ none_behind noted low rs h.1

  one_unpinned : (m : Kept) → IsUnder store number least m → pins number rows m ≡ false
  one_unpinned m under = by (m.timing.every == 0) refl (nat_eq number m.file.0) refl
    where
      none : (o : Option ℕ) → IfSome o (λ mark. least ≤ mark) → is_behind rows o ≡ false
      none None h = refl
      none (Some noted) h = none_behind noted h rows last

      by : (based : Bool) → (m.timing.every == 0) ≡ based → (uses : Bool) → nat_eq number m.file.0 ≡ uses → (not based && uses && is_behind rows m.noted) ≡ false
      by true e uses f = refl
      by false e false f = refl
      by false e true f =
          let marked : mark_in store m ≡ m.noted = (λ i. if e i then option_map (λ first. max first (latest_in store m.sources)) m.noted else m.noted) in
          none m.noted (subst (λ o. IfSome o (λ mark. least ≤ mark)) marked (under (sym (eqb-true number m.file.0 f))))

  unpinned : (ms : List Kept) → AllByRecursion (IsUnder store number least) ms → is_pinned ms number rows ≡ false
  unpinned [] h = refl
  unpinned (m ∷ ms) h = (λ i. one_unpinned m h.0 i || is_pinned ms number rows) ∙ unpinned ms h.1

-- where each that may be worn had its turn, the worn ones were compacted
pub all_met : (old new : EngineState) (list : List ℕ) → HasTheWorn old.table.files old.subscriptions list → HaveMet old new list → AreCompacted old new
all_met old new list has m number file at worn =
    m.met number file at
    (has number file at worn.full (unpinned old.store number (least_of old number) file.content.rows worn.last old.subscriptions (least_under old.store number old.subscriptions))) worn

-- the file of a turn is there
pub there_still : (old mid : EngineState) (done : List ℕ) → HaveMet old mid done → (number : ℕ) → IsThere old.table.files number → IsThere mid.table.files number
there_still old mid done m number there = elim (m.each number there.file there.at) [
  | inl stays ↦ record { file = there.file; at = stays }
  | inr had ↦ record { file = had.file; at = had.at }
]

-- and so is each of a list
pub each_still_there : (old mid : EngineState) (done : List ℕ) → HaveMet old mid done → (numbers : List ℕ) → AllByRecursion (IsThere old.table.files) numbers → AllByRecursion (IsThere mid.table.files) numbers
each_still_there old mid done m numbers there = each_more (IsThere old.table.files) (IsThere mid.table.files) (there_still old mid done m) numbers there

-- an engine that is as it was has its own table, and keeps its own
pub same_alone : (old new : EngineState) → new ≡ old → new ≡ record old { table = new.table; cache = new.cache }
same_alone old new is = is ∙ (λ i. record old { table = (sym is i).table; cache = (sym is i).cache })

-- an engine that gave up what it kept of what was told, and has another table then
module _ (old mid new : EngineState) (gave : mid ≡ record old { cache = [] }) (same : new ≡ record mid { table = new.table }) where
  pub nothing_then : new.cache ≡ []
  nothing_then = ap (λ (e : EngineState). e.cache) same ∙ ap (λ (e : EngineState). e.cache) gave

  pub same_then : new ≡ record old { table = new.table; cache = new.cache }
  same_then = same ∙ ap (λ (e : EngineState). record e { table = new.table }) gave ∙ (λ i. record old { table = new.table; cache = sym nothing_then i })

  pub follows_then : ((h : History) → Follows mid h → Follows new h) → (h : History) → Follows old h → Follows new h
  follows_then follows h s = follows h (subst (λ (e : EngineState). Follows e h) (sym gave) (follows_cached old [] h s))

  pub compacted_then : AreCompacted mid new → AreCompacted old new
  compacted_then = subst (λ (e : EngineState). AreCompacted e new) gave
