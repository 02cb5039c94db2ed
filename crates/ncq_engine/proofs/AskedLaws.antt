-- What a query answers depends on the sources that it asks, and a source stays as it is between its changes.
use Rattle.std.proofs.Common.{◌≡◌, ℕ, ◌≤◌, Bool, true, false, ◌||◌, List, [], ◌∷◌, ◌++◌, map, refl, sym, ◌∙◌, ap, arith, true≢false}
use Rattle.std.specs.Prelude.{ℤ, pos, ◌-ℤ◌, Option, Some, nat_le, if◌then◌else◌}
use Rattle.std.specs.FinMap.{empty, entries, get-empty, len-empty, len-entries}
use Rattle.std.specs.Option.{unwrap_or}
use Rattle.std.specs.Ordering.{nat_cmp}
use Rattle.std.specs.Cmp.Lexicographic.{slice_cmp}
use Rattle.std.proofs.lemmas.Bool.Decides.{nat_tests}
use Rattle.std.proofs.lemmas.Int.{ints}
use Rattle.std.proofs.lemmas.List.{map-append, nil_from_length}
use Rattle.std.specs.List.{filter, flat_map, list_any}
use Rattle.std.specs.Str.{bytes_eq}
use Rattle.ncq_base.specs.Keys.{ByBytes}
use Rattle.ncq_bag.specs.Bags.{count_in, difference, difference_of}
use Rattle.ncq_bag.proofs.CallerLemmas.{tally_decides}
use Rattle.ncq_bind.specs.Answers.{arm_embeddings, arm_of, arms_of, is_binding, made_forest, places_of}
use Rattle.ncq_bind.specs.Embeddings.{embeddings}
use Rattle.ncq_plan.specs.Exprs.{World}
use Rattle.ncq_pyx.specs.Canonical.{pyx}
use Rattle.ncq_pyx.specs.declared.item.Item.{Item}
use Rattle.ncq_row.specs.Embeddings.{one_of_each}
use Rattle.ncq_script.specs.declared.command.Command.{Command}
use Rattle.ncq_script.specs.declared.command.Command.TheVariants.{Declare, Delta, Batch, Create, Delete, Clock, Report, Malformed}
use Rattle.ncq_source.specs.Changes.{store_after}
use Rattle.ncq_source.specs.Sections.{is_named}
use Rattle.ncq_source.specs.declared.change.Section.{Section}
use Rattle.ncq_xmlql.specs.declared.model.Pattern.{Pattern}
use Rattle.ncq_xmlql.specs.declared.model.QueryItem.{QueryItem}
use Rattle.ncq_xmlql.specs.declared.model.QueryItem.TheVariants.{Match, Condition, Satisfies}
use Rattle.ncq_xmlql.specs.declared.model.Statement.{Statement}
use Rattle.ncq_engine.specs.DistinctCounts.{all_over}
use Rattle.ncq_engine.specs.Firing.{source_of, sources_of}
use Rattle.ncq_engine.specs.History.{History, Source, changes, elements_of, is_delta_of, last_change, source_in, sources, up_to, with_items, with_sections, world}
use Rattle.ncq_engine.proofs.HistoryLaws.{key_is, key_itself}
use Rattle.ncq_plan.specs.Relations.{Relations}
use Rattle.ncq_engine.proofs.Worlds.{new_is_empty}

-- no bytes stand more often in a list than they do
no_surplus : (n : ℕ) → pos 0 ≡ pos n -ℤ pos n
no_surplus n = omega (arith, ints)

-- nothing differs between a bag and itself
pub same_bag : (strings : List (List ℕ)) → difference strings strings ≡ []
same_bag strings =
    let none : ByBytes ℤ = empty in
    sym (tally_decides none strings strings (λ key. ap (λ (o : Option ℤ). unwrap_or o (pos 0)) (get-empty (slice_cmp nat_cmp) key) ∙ no_surplus (count_in key strings)))
    ∙ ap (flat_map difference_of) (nil_from_length (entries none) (sym (len-entries none) ∙ len-empty (slice_cmp nat_cmp) ℤ))

-- the two worlds have the same elements in each of these sources
abbrev pub AgreeOn : List (List ℕ) → World → World → Type 0
AgreeOn names w v = (name : List ℕ) → list_any (bytes_eq name) names ≡ true → w name ≡ v name

-- arms that ask one source
arms_alike : (w v : World) (source : List ℕ) → w source ≡ v source → (patterns : List Pattern) → map (arm_embeddings w) (map (arm_of source) patterns) ≡ map (arm_embeddings v) (map (arm_of source) patterns)
arms_alike w v source same [] = refl
arms_alike w v source same (pattern ∷ patterns) = λ i. flat_map (embeddings pattern) (same i) ∷ arms_alike w v source same patterns i

each_alike : (w v : World) (items : List QueryItem) → AgreeOn (flat_map source_of items) w v → map (arm_embeddings w) (arms_of items) ≡ map (arm_embeddings v) (arms_of items)
each_alike w v [] agree = refl
each_alike w v ((Match root patterns source) ∷ items) agree =
    let here : w source ≡ v source = agree source (ap (λ (t : Bool). t || list_any (bytes_eq source) (flat_map source_of items)) (key_itself source)) in
    let rest = each_alike w v items (λ name asked. agree name (elim (bytes_eq name source) as (λ t. (t || list_any (bytes_eq name) (flat_map source_of items)) ≡ true) [ true ↦ refl | false ↦ asked ])) in
    map-append (arm_embeddings w) (map (arm_of source) patterns) (arms_of items)
    ∙ (λ i. arms_alike w v source here patterns i ++ rest i)
    ∙ sym (map-append (arm_embeddings v) (map (arm_of source) patterns) (arms_of items))
each_alike w v ((Condition left op right) ∷ items) agree = each_alike w v items agree
each_alike w v ((Satisfies variable predicate argument) ∷ items) agree = each_alike w v items agree

-- all that it answers over two lists of sources that agree on those of the statement
pub same_all : (relations : Relations) (statement : Statement) (here there : List Source) → AgreeOn (sources_of statement) (world here) (world there) → all_over relations statement.query here ≡ all_over relations statement.query there
same_all relations statement here there agree =
    let items = statement.query.items in
    λ i. map pyx (map (made_forest statement.query.template (places_of (arms_of items))) (filter (is_binding relations items (places_of (arms_of items))) (one_of_each (each_alike (world here) (world there) items agree i))))

-- what differs from a text differs from one that is the same
pub apart_too : (a b c : List ℕ) → bytes_eq a b ≡ true → bytes_eq a c ≡ false → bytes_eq c b ≡ false
apart_too a b c same apart =
    elim (bytes_eq c b) as (λ t. bytes_eq c b ≡ t → t ≡ false) [
      | true ↦ λ p. sym (key_itself a) ∙ ap (bytes_eq a) (key_is a b same ∙ sym (key_is c b p)) ∙ apart
      | false ↦ λ p. refl
    ] refl

other_source : (name source : List ℕ) (items : List Item) (all : List Source) → bytes_eq source name ≡ false → source_in name (with_items source items all) ≡ source_in name all
other_source name source items [] apart = refl
other_source name source items (s ∷ all) apart =
    elim (bytes_eq source s.name) as (λ t. bytes_eq source s.name ≡ t
    → source_in name (if t then record s { elements = store_after s.key s.elements items } ∷ all else s ∷ with_items source items all) ≡ (if bytes_eq name s.name then Some s else source_in name all)) [
      | true ↦ λ own.
          let other : bytes_eq name s.name ≡ false = apart_too source s.name name own apart in
          (λ i. if other i then Some (record s { elements = store_after s.key s.elements items }) else source_in name all) ∙ sym (λ i. if other i then Some s else source_in name all)
      | false ↦ λ own.
          elim (bytes_eq name s.name) as (λ t. (if t then Some s else source_in name (with_items source items all)) ≡ (if t then Some s else source_in name all)) [
            | true ↦ refl
            | false ↦ other_source name source items all apart
          ]
    ] refl

other_sections : (name : List ℕ) (changed : List Section) (all : List Source) → is_named name changed ≡ false → source_in name (with_sections changed all) ≡ source_in name all
other_sections name [] all apart = refl
other_sections name (section ∷ more) all apart =
    elim (bytes_eq name section.source) as (λ t. bytes_eq name section.source ≡ t → (t || is_named name more) ≡ false
    → source_in name (with_sections more (with_items section.source section.items all)) ≡ source_in name all) [
      | true ↦ λ _ e. absurd (true≢false e)
      | false ↦ λ differs e.
          other_sections name more (with_items section.source section.items all) e
          ∙ other_source name section.source section.items all (apart_too name name section.source (key_itself name) differs)
    ] refl apart

-- a change of other sources leaves a source
pub other_stays : (name : List ℕ) (changed : List Section) (h : History) → is_named name changed ≡ false → world (sources (Delta changed ∷ h)) name ≡ world (sources h) name
other_stays name changed h apart = ap elements_of (other_sections name changed (sources h) apart)

-- and so does each command that is no delta of it
undelta : (name : List ℕ) (command : Command) (before : History) → is_delta_of name command ≡ false → world (sources (command ∷ before)) name ≡ world (sources before) name
undelta name (Declare new root key) before quiet = new_is_empty name new root key (sources before)
undelta name (Delta changed) before quiet = other_stays name changed before quiet
undelta name (Batch changed) before quiet = other_stays name changed before quiet
undelta name (Create statement) before quiet = refl
undelta name (Delete other) before quiet = refl
undelta name (Clock instant) before quiet = refl
undelta name Report before quiet = refl
undelta name (Malformed why) before quiet = refl

-- a source without a change behind a number is now what it was then
pub stays_since : (name : List ℕ) (number : ℕ) (h : History) → last_change name h ≤ number → world (sources (up_to number h)) name ≡ world (sources h) name
stays_since name number [] few = refl
stays_since name number (command ∷ before) few =
    elim (nat_le (changes (command ∷ before)) number) as (λ t. nat_le (changes (command ∷ before)) number ≡ t
    → world (sources (if t then command ∷ before else up_to number before)) name ≡ world (sources (command ∷ before)) name) [
      | true ↦ λ p. refl
      | false ↦ λ p. by_delta (λ l. stays_since name number before l) p (is_delta_of name command) refl few
    ] refl
  where
    by_delta : (last_change name before ≤ number → world (sources (up_to number before)) name ≡ world (sources before) name) → nat_le (changes (command ∷ before)) number ≡ false
        → (d : Bool) → is_delta_of name command ≡ d → (if d then changes (command ∷ before) else last_change name before) ≤ number
        → world (sources (up_to number before)) name ≡ world (sources (command ∷ before)) name
    by_delta earlier late true is few = absurd (let none : ⊥ = grind (arith, nat_tests, late, few) in none)
    by_delta earlier late false is few = earlier few ∙ sym (undelta name command before is)
