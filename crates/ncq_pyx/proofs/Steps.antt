-- Laws of what a reader holds.
use Rattle.std.proofs.Common.{◌≡◌, ◌++◌, append_assoc, reverse, ℕ, suc, ◌&&◌, not, ◌<◌, ◌≤◌, ◌==◌, Bool, true, false, List, [], ◌∷◌, Option, Some, None, if◌then◌else◌, length, vec_len, refl, ap, sym, ◌∙◌, arith}
use Rattle.std.specs.Option.{option_map}
use Rattle.std.proofs.lemmas.Bool.Decides.{nat_tests}
use Rattle.std.proofs.lemmas.List.{length-reverse, reverse-append}
use lib.Pointwise.{bytes_decides}
use Rattle.ncq_tree.specs.declared.model.Attribute.{Attribute}
use Rattle.ncq_pyx.specs.declared.reader.OpenElement.{OpenElement}
use Rattle.ncq_pyx.specs.declared.turns.Turn.{Turn}
use Rattle.ncq_pyx.specs.declared.turns.Turn.TheVariants.{Nothing, Begin, Give, Say, Finish, Erase}
use Rattle.ncq_pyx.specs.declared.turns.Stop.{Stop}
use Rattle.ncq_pyx.specs.declared.turns.Stop.TheVariants.{Fault, TooDeep, OutOfMemory}
use Rattle.ncq_pyx.specs.declared.reader.Reader.{Reader}
use Rattle.ncq_base.specs.Names.{is_pyx_name}
use Rattle.ncq_tree.specs.Normal.{has_name}
use Rattle.ncq_pyx.specs.LineKinds.{turn_at, same, begin_of, name_part, value_part, give_of, say_of, finish_of, erase_of, is_skipped}
use Rattle.ncq_base.specs.Escapes.{unescaped}
use Rattle.ncq_base.specs.Names.{is_space}
use Rattle.std.specs.List.{list_all}
use Rattle.ncq_pyx.specs.Answers.{IsNone}
use Rattle.ncq_pyx.specs.Spells.{Place, Rest, Content, turn, fits, told, moved, one_more, with_attribute, begun, spell, spell_turn, innermost, outer}
use Rattle.ncq_pyx.specs.Reading.{given_of, names_of, place_at, behind, filled, place_of, whole_of, frames_of, ErasesOutside, Takes, TakesLine, Refuses}

pub given_none : (frames : List OpenElement) → given_of false frames ≡ None
given_none [] = refl
given_none (frame ∷ frames) = refl

pub ruleset closing = (given_none)

-- an attribute line
abbrev with_more : OpenElement → Attribute → OpenElement
with_more top attribute = record { name = top.name; attributes = top.attributes ++ attribute ∷ []; children = top.children }

given_more : (in_tag : Bool) (top : OpenElement) (frames : List OpenElement) (attribute : Attribute) → given_of in_tag (with_more top attribute ∷ frames) ≡ one_more (given_of in_tag (top ∷ frames)) attribute
given_more true top frames attribute = refl
given_more false top frames attribute = refl

behind_more : (top : OpenElement) (attribute : Attribute) (contents : List Content) → behind (with_more top attribute) contents ≡ behind top (with_attribute attribute contents)
behind_more top attribute [] = refl
behind_more top attribute (content ∷ contents) =
    λ i. record { attributes = append_assoc top.attributes (attribute ∷ []) content.attributes i; nodes = top.children ++ content.nodes } ∷ contents

pub gives : (old new : Reader) (outside : List OpenElement) (top frame : OpenElement) (attribute : Attribute)
    → old.stack.items ≡ outside ++ top ∷ [] → new.stack.items ≡ outside ++ frame ∷ [] → new.in_tag ≡ old.in_tag → new.items ≡ old.items
    → frame ≡ record { name = top.name; attributes = top.attributes ++ attribute ∷ []; children = top.children }
    → Takes old new (Give attribute)
gives old new outside top frame attribute before after tag items is =
    let r = reverse outside in
    let more = with_more top attribute in
    let fo : frames_of old ≡ top ∷ r = ap reverse before ∙ reverse-append outside (top ∷ []) in
    let fn : frames_of new ≡ more ∷ r = ap reverse (after ∙ ap (λ v. outside ++ v ∷ []) is) ∙ reverse-append outside (more ∷ []) in
    record {
      place = ap (λ f. place_at f new.in_tag) fn
          ∙ ap (λ t. place_at (more ∷ r) t) tag
          ∙ ap (λ (g : Option (List Attribute)). record { open_names = names_of (top ∷ r); given = g }) (given_more old.in_tag top r attribute)
          ∙ ap (λ f. moved (Give attribute) (place_at f old.in_tag)) (sym fo);
      whole = λ rest.
          ap (λ f. filled f new.items rest) fn
          ∙ ap (λ l. filled (more ∷ r) l rest) items
          ∙ ap (λ c. filled r old.items (begun (names_of r) top.name (record { contents = c; items = rest.items }))) (behind_more top attribute rest.contents)
          ∙ ap (λ f. filled f old.items (told (Give attribute) (place_of old) rest)) (sym fo);
    }

split_if : {P : Type 0} (b : Bool) (x y z : Option Turn) → (x ≡ z → P) → (y ≡ z → P) → (if b then x else y) ≡ z → P
split_if true x y z f g h = f h
split_if false x y z f g h = g h

begin_no_erase : (P : Type 0) (text key : List ℕ) → begin_of text ≡ Some (Erase key) → P
begin_no_erase P text key = split_if {P = P} (is_pyx_name text) (Some (Begin text)) None (Some (Erase key)) (λ (e : Some (Begin text) ≡ Some (Erase key)). absurd (let w : ⊥ = cc in w)) (λ (e : None ≡ Some (Erase key)). absurd (let w : ⊥ = cc in w))

give_no_erase : (P : Type 0) (given : Option (List Attribute)) (text key : List ℕ) → give_of given text ≡ Some (Erase key) → P
give_no_erase P None text key e = absurd (let w : ⊥ = cc in w)
give_no_erase P (Some given) text key h =
    split_if {P = P} (is_pyx_name (name_part text) && not (has_name given (name_part text)))
    (Some (Give (record { name = name_part text; value = unescaped (value_part text) }))) None (Some (Erase key))
    (λ e. absurd (let w : ⊥ = cc in w)) (λ e. absurd (let w : ⊥ = cc in w)) h

say_no_erase : (P : Type 0) (i : Option (List ℕ)) (text key : List ℕ) → say_of i text ≡ Some (Erase key) → P
say_no_erase P None text key h = split_if {P = P} (list_all is_space text) (Some Nothing) None (Some (Erase key)) (λ e. absurd (let w : ⊥ = cc in w)) (λ e. absurd (let w : ⊥ = cc in w)) h
say_no_erase P (Some name) text key e = absurd (let w : ⊥ = cc in w)

finish_no_erase : (P : Type 0) (i : Option (List ℕ)) (text key : List ℕ) → finish_of i text ≡ Some (Erase key) → P
finish_no_erase P None text key e = absurd (let w : ⊥ = cc in w)
finish_no_erase P (Some name) text key h = split_if {P = P} (same name text) (Some Finish) None (Some (Erase key)) (λ e. absurd (let w : ⊥ = cc in w)) (λ e. absurd (let w : ⊥ = cc in w)) h

erase_is_outside : (i : Option (List ℕ)) (text key : List ℕ) → erase_of i text ≡ Some (Erase key) → i ≡ None
erase_is_outside None text key e = refl
erase_is_outside (Some name) text key e = absurd (let w : ⊥ = cc in w)

-- a deletion stands outside elements
erase_outside : (i : Option (List ℕ)) (given : Option (List Attribute)) (line key : List ℕ) → turn_at i given line ≡ Some (Erase key) → i ≡ None
erase_outside i given [] key h = absurd (let w : ⊥ = cc in w)
erase_outside i given (b ∷ text) key h =
    split_if {P = i ≡ None} (is_skipped b) (Some Nothing) _ (Some (Erase key)) (λ e. absurd (let w : ⊥ = cc in w))
    (split_if {P = i ≡ None} (b == 40) (begin_of text) _ (Some (Erase key)) (begin_no_erase (i ≡ None) text key)
    (split_if {P = i ≡ None} (b == 65) (give_of given text) _ (Some (Erase key)) (give_no_erase (i ≡ None) given text key)
    (split_if {P = i ≡ None} (b == 45) (say_of i (unescaped text)) _ (Some (Erase key)) (say_no_erase (i ≡ None) i (unescaped text) key)
    (split_if {P = i ≡ None} (b == 41) (finish_of i text) _ (Some (Erase key)) (finish_no_erase (i ≡ None) i text key)
    (split_if {P = i ≡ None} (b == 33) (erase_of i text) None (Some (Erase key)) (erase_is_outside i text key)
    (λ e. absurd (let w : ⊥ = cc in w))))))) h

none_open : (frames : List OpenElement) → innermost (names_of frames) ≡ None → length frames ≡ 0
none_open [] h = refl
none_open (frame ∷ frames) h = cc

pub erases : (reader : Reader) (line : List ℕ) (found : Turn) → turn (place_of reader) line ≡ Some found → ErasesOutside (vec_len reader.stack) found
erases reader line Nothing h = tt
erases reader line (Begin name) h = tt
erases reader line (Give attribute) h = tt
erases reader line (Say text) h = tt
erases reader line Finish h = tt
erases reader line (Erase key) h =
    reader.stack.ok.0 ∙ sym (length-reverse reader.stack.items) ∙ none_open (frames_of reader) (erase_outside _ _ line key h)

pub spell_line : (bound : ℕ) (lines : List (List ℕ)) (line : List ℕ) (place : Place) (found : Turn) → turn place line ≡ Some found → fits bound (length place.open_names) found ≡ true → spell bound (line ∷ lines) place ≡ option_map (told found place) (spell bound lines (moved found place))
spell_line bound lines line place found e f =
    ap (spell_turn bound (λ p. spell bound lines p) place) e
    ∙ ap (λ b. if b then option_map (told found place) (spell bound lines (moved found place)) else None) f

pub spell_none : (bound : ℕ) (lines : List (List ℕ)) (line : List ℕ) (place : Place) → turn place line ≡ None → spell bound (line ∷ lines) place ≡ None
spell_none bound lines line place e = ap (spell_turn bound (λ p. spell bound lines p) place) e

pub spell_deep : (bound : ℕ) (lines : List (List ℕ)) (line : List ℕ) (place : Place) (found : Turn) → turn place line ≡ Some found → fits bound (length place.open_names) found ≡ false → spell bound (line ∷ lines) place ≡ None
spell_deep bound lines line place found e f =
    ap (spell_turn bound (λ p. spell bound lines p) place) e
    ∙ ap (λ b. if b then option_map (told found place) (spell bound lines (moved found place)) else None) f

pub map_map : {A B C : Type 0} (s : Option A) (f : B → C) (g : A → B) (h : A → C) → ((r : A) → h r ≡ f (g r)) → option_map f (option_map g s) ≡ option_map h s
map_map None f g h e = refl
map_map (Some r) f g h e = ap Some (sym (e r))

pub fits_more : (limit bound depth : ℕ) (found : Turn) → limit ≤ bound → fits limit depth found ≡ true → fits bound depth found ≡ true
fits_more limit bound depth Nothing le h = refl
fits_more limit bound depth (Begin name) le h = grind (arith, nat_tests)
fits_more limit bound depth (Give attribute) le h = refl
fits_more limit bound depth (Say text) le h = refl
fits_more limit bound depth Finish le h = refl
fits_more limit bound depth (Erase key) le h = refl

pub fits_deeper : (limit bound depth : ℕ) (found : Turn) → limit < bound → depth ≤ limit → fits bound depth found ≡ true
fits_deeper limit bound depth Nothing lt le = refl
fits_deeper limit bound depth (Begin name) lt le = grind (arith, nat_tests)
fits_deeper limit bound depth (Give attribute) lt le = refl
fits_deeper limit bound depth (Say text) lt le = refl
fits_deeper limit bound depth Finish lt le = refl
fits_deeper limit bound depth (Erase key) lt le = refl

length_names : (frames : List OpenElement) → length (names_of frames) ≡ length frames
length_names [] = refl
length_names (frame ∷ frames) = ap suc (length_names frames)

pub depth_of : (reader : Reader) → length (place_of reader).open_names ≡ vec_len reader.stack
depth_of reader = length_names (frames_of reader) ∙ length-reverse reader.stack.items ∙ sym reader.stack.ok.0

pub takes_line : (limit : ℕ) (old new : Reader) (line : List ℕ) (found : Turn) → turn (place_of old) line ≡ Some found → fits limit (vec_len old.stack) found ≡ true → Takes old new found → TakesLine limit old new line
takes_line limit old new line found e f takes = λ bound le lines.
    ap (option_map (whole_of old)) (spell_line bound lines line (place_of old) found e
    (fits_more limit bound _ found le (ap (λ n. fits limit n found) (depth_of old) ∙ f)))
    ∙ map_map (spell bound lines (moved found (place_of old))) (whole_of old) (told found (place_of old)) (whole_of new) takes.whole
    ∙ ap (λ p. option_map (whole_of new) (spell bound lines p)) (sym takes.place)

outer_depth : (names : List (List ℕ)) → length (outer names) ≤ length names
outer_depth [] = omega arith
outer_depth (name ∷ names) = omega arith

pub moved_depth : (limit : ℕ) (place : Place) (found : Turn) → fits limit (length place.open_names) found ≡ true → length place.open_names ≤ limit → length (moved found place).open_names ≤ limit
moved_depth limit place Nothing h le = le
moved_depth limit place (Begin name) h le = grind (arith, nat_tests)
moved_depth limit place (Give attribute) h le = le
moved_depth limit place (Say text) h le = le
moved_depth limit place Finish h le = omega (arith, outer_depth place.open_names)
moved_depth limit place (Erase key) h le = le

pub takes_depth : (limit : ℕ) (old new : Reader) (found : Turn) → fits limit (vec_len old.stack) found ≡ true → vec_len old.stack ≤ limit → Takes old new found → vec_len new.stack ≤ limit
takes_depth limit old new found f le takes =
    let fit : fits limit (length (place_of old).open_names) found ≡ true = ap (λ n. fits limit n found) (depth_of old) ∙ f in
    let small : length (place_of old).open_names ≤ limit = rw (depth_of old) le in
    let m = moved_depth limit (place_of old) found fit small in
    let n : length (place_of new).open_names ≡ length (moved found (place_of old)).open_names = ap (λ (p : Place). length p.open_names) takes.place in
    omega (arith, depth_of new, n, m)

-- a closing line
pub finish_line : (bound : ℕ) (name : List ℕ) (names : List (List ℕ)) (given : Option (List Attribute)) (lines : List (List ℕ)) → spell bound ((41 ∷ name) ∷ lines) (record { open_names = name ∷ names; given = given }) ≡ option_map (told Finish (record { open_names = name ∷ names; given = given })) (spell bound lines (record { open_names = names; given = None }))
finish_line bound name names given lines =
    let place : Place = record { open_names = name ∷ names; given = given } in
    let t : turn place (41 ∷ name) ≡ Some Finish = ap (λ b. if b then Some Finish else None) ((bytes_decides name name).1 refl) in
    spell_line bound lines (41 ∷ name) place Finish t refl

-- some lines close the elements
pub closes : (bound : ℕ) (names : List (List ℕ)) (given : Option (List Attribute)) → (lines : List (List ℕ)) × (rest : Rest) × (spell bound lines (record { open_names = names; given = given }) ≡ Some rest)
closes bound [] given = ([], record { contents = []; items = [] }, refl)
closes bound (name ∷ names) given =
    let place : Place = record { open_names = name ∷ names; given = given } in
    let inner = closes bound names None in (
      (41 ∷ name) ∷ inner.0,
      told Finish place inner.1,
      finish_line bound name names given inner.0 ∙ ap (option_map (told Finish place)) inner.2,
    )

pub refused : (limit : ℕ) (old : Reader) (line : List ℕ) (why : Stop) → IsNone why (turn (place_of old) line) → Refuses limit old line why
refused limit old line Fault h = λ bound lines. spell_none bound lines line (place_of old) h
refused limit old line TooDeep h = absurd h
refused limit old line OutOfMemory h = tt

pub too_deep : (limit : ℕ) (old : Reader) (line : List ℕ) (found : Turn) → turn (place_of old) line ≡ Some found → fits limit (vec_len old.stack) found ≡ false → vec_len old.stack ≤ limit → Refuses limit old line TooDeep
too_deep limit old line found e f le = (
  λ lines. spell_deep limit lines line (place_of old) found e (ap (λ n. fits limit n found) (depth_of old) ∙ f),
  λ bound lt.
      let next = moved found (place_of old) in
      let small : length (place_of old).open_names ≤ limit = rw (depth_of old) le in
      let c = closes bound next.open_names next.given in (
        c.0,
        told found (place_of old) c.1,
        spell_line bound c.0 line (place_of old) found e (fits_deeper limit bound _ found lt small)
            ∙ ap (option_map (told found (place_of old))) c.2,
      ),
)

-- what the reader hands to the table
pub turn_is : (old : Reader) (i : Option (List ℕ)) (given : Option (List Attribute)) (line : List ℕ) (found : Option Turn) → i ≡ innermost (names_of (frames_of old)) → given ≡ given_of old.in_tag (frames_of old) → turn_at i given line ≡ found → turn (place_of old) line ≡ found
turn_is old i given line found a b h = ap (λ x. turn_at x (given_of old.in_tag (frames_of old)) line) (sym a) ∙ ap (λ x. turn_at i x line) (sym b) ∙ h
