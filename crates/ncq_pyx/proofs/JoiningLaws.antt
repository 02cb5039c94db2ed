-- A block of items in front and lines behind them.
use Rattle.std.proofs.Common.{◌≡◌, ℕ, ◌+◌, ◌==◌, ◌&&◌, not, Bool, true, false, List, [], ◌∷◌, ◌++◌, Option, Some, None, Result, Ok, Err, if◌then◌else◌, length, refl, ap, sym, ◌∙◌, append_assoc, append-nil, arith}
use Rattle.std.specs.List.{list_all}
use Rattle.ncq_base.specs.Escapes.{unescaped}
use Rattle.ncq_base.specs.Names.{is_pyx_name, is_space}
use Rattle.ncq_tree.specs.declared.model.Attribute.{Attribute}
use Rattle.ncq_tree.specs.Normal.{has_name}
use Rattle.ncq_pyx.specs.declared.turns.Turn.{Turn}
use Rattle.ncq_pyx.specs.declared.turns.Turn.TheVariants.{Nothing, Begin, Give, Say, Finish, Erase}
use Rattle.ncq_pyx.specs.declared.item.Item.{Item}
use Rattle.ncq_pyx.specs.declared.error.PyxError.{PyxError}
use Rattle.ncq_pyx.specs.declared.error.PyxError.TheVariants.{BadLine, TooDeep, OutOfMemory}
use Rattle.ncq_pyx.specs.LineKinds.{turn_at, begin_of, give_of, say_of, finish_of, erase_of, is_skipped, name_part, value_part}
use Rattle.ncq_pyx.specs.Spells.{Place, Rest, Content, outside, nothing, turn, fits, moved, told, begun, with_attribute, with_node, other_contents, innermost, outer, one_more}
use Rattle.ncq_pyx.specs.Faults.{with_told, read_turn, read_end, read_from, items_of, block_of}
use Rattle.ncq_pyx.specs.Joining.{later, behind_items}

-- what is to come, and behind it these items
abbrev and_then : Rest → Rest → Rest
and_then rest more = record { contents = rest.contents; items = rest.items ++ more.items }

abbrev after : Rest → Result Rest PyxError → Result Rest PyxError
after rest (Ok more) = Ok (and_then rest more)
after rest (Err why) = Err why

told_then : (found : Turn) (names : List (List ℕ)) (given : Option (List Attribute)) (rest more : Rest) → and_then (told found (record { open_names = names; given = given }) rest) more ≡ told found (record { open_names = names; given = given }) (and_then rest more)
told_then Nothing names given rest more = refl
told_then (Begin name) [] given rest more = refl
told_then (Begin name) (outer ∷ names) given rest more = refl
told_then (Give attribute) names given rest more = refl
told_then (Say text) names given rest more = refl
told_then Finish names given rest more = refl
told_then (Erase key) names given rest more = refl

told_after : (found : Turn) (place : Place) (rest : Rest) (r : Result Rest PyxError) → with_told found place (after rest r) ≡ after (told found place rest) r
told_after found place rest (Ok more) = ap Ok (sym (told_then found place.open_names place.given rest more))
told_after found place rest (Err why) = refl

told_ok : (found : Turn) (place : Place) (r : Result Rest PyxError) (all : Rest) → with_told found place r ≡ Ok all → (rest : Rest) × ((r ≡ Ok rest) × (told found place rest ≡ all))
told_ok found place (Ok rest) all e = (rest, (refl, cc))
told_ok found place (Err w) all e = cc

-- where no element is open, no attribute may come
abbrev IsSetAt : List (List ℕ) → Option (List Attribute) → Type 0
IsSetAt [] given = given ≡ None
IsSetAt (name ∷ names) given = Unit {0}

abbrev IsSet : Place → Type 0
IsSet place = IsSetAt place.open_names place.given

none_set : (names : List (List ℕ)) → IsSetAt names None
none_set [] = refl
none_set (name ∷ names) = tt

give_set : (names : List (List ℕ)) (given : Option (List Attribute)) (a : Attribute) → IsSetAt names given → IsSetAt names (one_more given a)
give_set [] given a h = ap (λ (g : Option (List Attribute)). one_more g a) h
give_set (name ∷ names) given a h = tt

moved_set : (found : Turn) (place : Place) → IsSet place → IsSet (moved found place)
moved_set Nothing place h = h
moved_set (Begin name) place h = tt
moved_set (Give a) place h = give_set place.open_names place.given a h
moved_set (Say text) place h = none_set place.open_names
moved_set Finish place h = none_set (outer place.open_names)
moved_set (Erase key) place h = h

set_outside : (names : List (List ℕ)) (given : Option (List Attribute)) → IsSetAt names given → names ≡ [] → ◌≡◌ {A = Place} (record { open_names = names; given = given }) outside
set_outside [] given h e = ap (λ (g : Option (List Attribute)). record { open_names = []; given = g }) h
set_outside (name ∷ names) given h e = cc

-- no line closes an element where none is open
abbrev Closes : Option Turn → Type 0
Closes found = found ≡ Some Finish

either : (b : Bool) (x y : Option Turn) → (Closes x → ⊥) → (Closes y → ⊥) → Closes (if b then x else y) → ⊥
either true x y f g h = f h
either false x y f g h = g h

no_turn : Closes None → ⊥
no_turn h = cc

nothing_closes : Closes (Some Nothing) → ⊥
nothing_closes h = cc

give_no_close : (a : Attribute) → Closes (Some (Give a)) → ⊥
give_no_close a h = cc

begin_no_close : (name : List ℕ) → Closes (Some (Begin name)) → ⊥
begin_no_close name h = cc

erase_no_close : (key : List ℕ) → Closes (Some (Erase key)) → ⊥
erase_no_close key h = cc

give_closes : (given : Option (List Attribute)) (text : List ℕ) → Closes (give_of given text) → ⊥
give_closes None text h = cc
give_closes (Some given) text h =
    let a : Attribute = record { name = name_part text; value = unescaped (value_part text) } in
    either (is_pyx_name (name_part text) && not (has_name given (name_part text))) (Some (Give a)) None (give_no_close a) no_turn h

never_closed : (given : Option (List Attribute)) (line : List ℕ) → Closes (turn_at None given line) → ⊥
never_closed given [] h = nothing_closes h
never_closed given (b ∷ text) h =
    either (is_skipped b) (Some Nothing) _ nothing_closes
    (either (b == 40) (begin_of text) _ (either (is_pyx_name text) (Some (Begin text)) None (begin_no_close text) no_turn)
    (either (b == 65) (give_of given text) _ (give_closes given text)
    (either (b == 45) (say_of None (unescaped text)) _ (either (list_all is_space (unescaped text)) (Some Nothing) None nothing_closes no_turn)
    (either (b == 41) None _ no_turn
    (either (b == 33) (Some (Erase (unescaped text))) None (erase_no_close (unescaped text)) no_turn))))) h

-- what is to come in each open element, and in no other
with_node_long : (node : _) (contents : List Content) → length (with_node node contents) ≡ length contents
with_node_long node [] = refl
with_node_long node (c ∷ contents) = refl

with_attribute_long : (a : Attribute) (contents : List Content) → length (with_attribute a contents) ≡ length contents
with_attribute_long a [] = refl
with_attribute_long a (c ∷ contents) = refl

others_long : (contents : List Content) (n : ℕ) → length contents ≡ n + 1 → length (other_contents contents) ≡ n
others_long [] n h = absurd (omega (arith, h))
others_long (c ∷ contents) n h = omega (arith, h)

told_long : (found : Turn) (names : List (List ℕ)) (given : Option (List Attribute)) (rest : Rest) → (innermost names ≡ None → found ≡ Finish → ⊥)
    → length rest.contents ≡ length (moved found (record { open_names = names; given = given })).open_names → length (told found (record { open_names = names; given = given }) rest).contents ≡ length names
told_long Nothing names given rest shut h = h
told_long (Begin name) [] given rest shut h = refl
told_long (Begin name) (outer ∷ names) given rest shut h = with_node_long _ (other_contents rest.contents) ∙ others_long rest.contents (length (outer ∷ names)) (h ∙ (let w : ℕ = 0 in omega arith))
told_long (Give a) names given rest shut h = with_attribute_long a rest.contents ∙ h
told_long (Say text) names given rest shut h = with_node_long _ rest.contents ∙ h
told_long Finish [] given rest shut h = absurd (shut refl refl)
told_long Finish (name ∷ names) given rest shut h = omega (arith, h)
told_long (Erase key) names given rest shut h = h

closed_is_open : (names : List (List ℕ)) (given : Option (List Attribute)) (line : List ℕ) (found : Turn) → turn_at (innermost names) given line ≡ Some found → innermost names ≡ None → found ≡ Finish → ⊥
closed_is_open names given line found e none is =
    never_closed given line (sym (ap (λ (i : Option (List ℕ)). turn_at i given line) none) ∙ e ∙ ap Some is)

as_long : (limit number : ℕ) (lines : List (List ℕ)) (place : Place) (all : Rest) → read_from limit number lines place ≡ Ok all → length all.contents ≡ length place.open_names
as_long limit number [] place all e =
    elim place.open_names as (λ ns. read_end number ns ≡ Ok all → length all.contents ≡ length ns) [
      | [] ↦ λ e. let is : nothing ≡ all = cc in ap (λ (r : Rest). length r.contents) (sym is)
      | name ∷ names ↦ λ e. cc
    ] e
as_long limit number (line ∷ lines) place all e =
    elim (turn place line) as (λ t. turn place line ≡ t → read_turn limit number (λ p. read_from limit (number + 1) lines p) place t ≡ Ok all → length all.contents ≡ length place.open_names) [
      | None ↦ λ is e. cc
      | Some found ↦ λ is e.
          elim (fits limit (length place.open_names) found) as (λ b. (if b then with_told found place (read_from limit (number + 1) lines (moved found place)) else Err (TooDeep number)) ≡ Ok all → length all.contents ≡ length place.open_names) [
            | true ↦ λ e.
                let t = told_ok found place _ all e in
                ap (λ (r : Rest). length r.contents) (sym t.1.1)
                ∙ told_long found place.open_names place.given t.0 (closed_is_open place.open_names place.given line found is)
                (as_long limit (number + 1) lines (moved found place) t.0 t.1.0)
            | false ↦ λ e. cc
          ] e
    ] refl e

empty_contents : (contents : List Content) → length contents ≡ 0 → contents ≡ []
empty_contents [] h = refl
empty_contents (c ∷ contents) h = absurd (omega (arith, h))

-- outside elements nothing is to come in one
at_start : (limit number : ℕ) (lines : List (List ℕ)) (r : Result Rest PyxError) → read_from limit number lines outside ≡ r → r ≡ after nothing r
at_start limit number lines (Ok all) e =
    let none = empty_contents all.contents (as_long limit number lines outside all e) in
    ap (λ (c : List Content). Ok (record { contents = c; items = all.items })) none
at_start limit number lines (Err why) e = refl

-- lines that spell items, and behind them others
ok_then : (limit number : ℕ) (front back : List (List ℕ)) (place : Place) (all : Rest) → IsSet place → read_from limit number front place ≡ Ok all
    → read_from limit number (front ++ back) place ≡ after all (read_from limit (number + length front) back outside)
ok_then limit number [] back place all set e =
    elim place.open_names as (λ ns. place.open_names ≡ ns → read_end number ns ≡ Ok all → read_from limit number back place ≡ after all (read_from limit (number + 0) back outside)) [
      | [] ↦ λ is e.
          let out : place ≡ outside = set_outside place.open_names place.given set is in
          let none : nothing ≡ all = cc in
          let same : number ≡ number + 0 = omega arith in
          ap (read_from limit number back) out
          ∙ at_start limit number back _ refl
          ∙ (λ i. after (none i) (read_from limit (same i) back outside))
      | name ∷ names ↦ λ is e. cc
    ] refl e
ok_then limit number (line ∷ front) back place all set e =
    elim (turn place line) as (λ t. read_turn limit number (λ p. read_from limit (number + 1) front p) place t ≡ Ok all
    → read_turn limit number (λ p. read_from limit (number + 1) (front ++ back) p) place t ≡ after all (read_from limit (number + length (line ∷ front)) back outside)) [
      | None ↦ λ e. cc
      | Some found ↦ λ e.
          elim (fits limit (length place.open_names) found) as (λ b. (if b then with_told found place (read_from limit (number + 1) front (moved found place)) else Err (TooDeep number)) ≡ Ok all
          → (if b then with_told found place (read_from limit (number + 1) (front ++ back) (moved found place)) else Err (TooDeep number)) ≡ after all (read_from limit (number + length (line ∷ front)) back outside)) [
            | true ↦ λ e.
                let t = told_ok found place _ all e in
                let count : number + 1 + length front ≡ number + length (line ∷ front) = omega arith in
                ap (with_told found place) (ok_then limit (number + 1) front back (moved found place) t.0 (moved_set found place set) t.1.0)
                ∙ told_after found place t.0 (read_from limit (number + 1 + length front) back outside)
                ∙ (λ i. after (t.1.1 i) (read_from limit (count i) back outside))
            | false ↦ λ e. cc
          ] e
    ] e

-- the same lines, so many further on
abbrev moved_on : ℕ → Result Rest PyxError → Result Rest PyxError
moved_on count (Ok rest) = Ok rest
moved_on count (Err why) = Err (later count why)

told_on : (count : ℕ) (found : Turn) (place : Place) (r : Result Rest PyxError) → with_told found place (moved_on count r) ≡ moved_on count (with_told found place r)
told_on count found place (Ok rest) = refl
told_on count found place (Err why) = refl

further : (limit number count : ℕ) (lines : List (List ℕ)) (place : Place) → read_from limit (number + count) lines place ≡ moved_on count (read_from limit number lines place)
further limit number count [] place =
    elim place.open_names as (λ ns. read_end (number + count) ns ≡ moved_on count (read_end number ns)) [ [] ↦ refl | name ∷ names ↦ refl ]
further limit number count (line ∷ lines) place =
    elim (turn place line) as (λ t. read_turn limit (number + count) (λ p. read_from limit (number + count + 1) lines p) place t ≡ moved_on count (read_turn limit number (λ p. read_from limit (number + 1) lines p) place t)) [
      | None ↦ refl
      | Some found ↦
          elim (fits limit (length place.open_names) found) as (λ b. (if b then with_told found place (read_from limit (number + count + 1) lines (moved found place)) else Err (TooDeep (number + count)))
          ≡ moved_on count (if b then with_told found place (read_from limit (number + 1) lines (moved found place)) else Err (TooDeep number))) [
            | true ↦
                let sum : number + count + 1 ≡ number + 1 + count = omega arith in
                ap (λ n. with_told found place (read_from limit n lines (moved found place))) sum
                ∙ ap (with_told found place) (further limit (number + 1) count lines (moved found place))
                ∙ told_on count found place (read_from limit (number + 1) lines (moved found place))
            | false ↦ refl
          ]
    ]

joined_items : (all : Rest) (count : ℕ) (r : Result Rest PyxError) → items_of (after all (moved_on count r)) ≡ behind_items all.items count (items_of r)
joined_items all count (Ok more) = refl
joined_items all count (Err why) = refl

of_items : (r : Result Rest PyxError) (items : List Item) → items_of r ≡ Ok items → (all : Rest) × ((r ≡ Ok all) × (all.items ≡ items))
of_items (Ok all) items e = (all, (refl, cc))
of_items (Err why) items e = cc

-- a block whose first lines spell items
pub block_joined : (limit : ℕ) (front back : List (List ℕ)) (items : List Item) → block_of limit front ≡ Ok items
    → block_of limit (front ++ back) ≡ behind_items items (length front) (block_of limit back)
block_joined limit front back items e =
    let a = of_items (read_from limit 1 front outside) items e in
    ap items_of (ok_then limit 1 front back outside a.0 refl a.1.0)
    ∙ ap (λ r. items_of (after a.0 r)) (further limit 1 (length front) back outside)
    ∙ joined_items a.0 (length front) (read_from limit 1 back outside)
    ∙ ap (λ (l : List Item). behind_items l (length front) (block_of limit back)) a.1.1

later_later : (m n : ℕ) (why : PyxError) → later m (later n why) ≡ later (m + n) why
later_later m n (BadLine k) = ap BadLine (let w : ℕ = 0 in omega arith)
later_later m n (TooDeep k) = ap TooDeep (let w : ℕ = 0 in omega arith)
later_later m n OutOfMemory = refl

pub joined_twice : (a b : List Item) (m n : ℕ) (r : Result (List Item) PyxError) → behind_items a m (behind_items b n r) ≡ behind_items (a ++ b) (m + n) r
joined_twice a b m n (Ok more) = ap Ok (sym (append_assoc a b more))
joined_twice a b m n (Err why) = ap Err (later_later m n why)
