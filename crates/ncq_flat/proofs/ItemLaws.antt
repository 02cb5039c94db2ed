-- The items in front of a text.
use Rattle.std.proofs.Common.{◌≡◌, ℕ, ◌+◌, ◌-◌, ◌≤◌, Bool, true, List, [], ◌∷◌, ◌++◌, Ok, Err, IfOk, Result, map, length, take, inl, inr, refl, ap, subst, sym, ◌∙◌, append_assoc, append-nil, length-append, arith}
use Rattle.std.specs.Prelude.{All}
use Rattle.std.proofs.Math.Seq.{take-append_seam}
use Rattle.std.proofs.lemmas.List.{map-append}
use Rattle.std.proofs.lemmas.List.Concat.{flat_map-append}
use Rattle.std.proofs.lemmas.List.Elements.{All-nil, All-cons, All-push, All-head, All-tail}
use Rattle.std.proofs.lemmas.Bool.{cases_Bool}
use Rattle.ncq_base.specs.Lines.{IsClean, ended, in_front, is_feed, lines_in, text_of}
use Rattle.ncq_base.proofs.LineLaws.{lines_in-cut, lines_in-clean, lines_in-text_of}
use Rattle.ncq_tree.specs.declared.model.Element.{Element}
use Rattle.ncq_tree.specs.declared.model.Node.TheVariants.{Element as element_node}
use Rattle.ncq_tree.specs.Normal.{node_is_normal}
use Rattle.ncq_pyx.specs.declared.item.Item.{Item}
use Rattle.ncq_pyx.specs.declared.item.Item.TheVariants.{Put, Remove}
use Rattle.ncq_pyx.specs.declared.error.PyxError.{PyxError}
use Rattle.ncq_pyx.specs.Canonical.{node_lines, bytes_of_lines, is_named, depth}
use Rattle.ncq_pyx.specs.declared.error.PyxError.TheVariants.{BadLine, TooDeep, OutOfMemory}
use Rattle.ncq_pyx.specs.Items.{item_is_proper}
use Rattle.ncq_pyx.specs.Spells.{Gives, IsFault, Reads, Refusal}
use Rattle.ncq_pyx.proofs.ReadLaws.{answer_proper}
use Rattle.std.specs.List.{list_all}
use Rattle.ncq_pyx.specs.Faults.{block_of, max_nesting}
use Rattle.ncq_pyx.specs.Joining.{behind_items}
use Rattle.ncq_pyx.proofs.Proper.{spells_proper}
use Rattle.ncq_pyx.proofs.FaultLaws.{block_reads}
use Rattle.ncq_pyx.proofs.Exactly.{one_answer}
use Rattle.ncq_pyx.proofs.JoiningLaws.{block_joined, joined_twice}
use Rattle.ncq_base.specs.Escapes.{unescaped}
use Rattle.ncq_flat.specs.Items.{IsWithin, Leads, LeadsWhere, Stand}
use Rattle.ncq_flat.proofs.FlatLaws.{lines_again, shallow}

pub leads_none : (text : List ℕ) → Leads text text 0
leads_none text = ([], (All-nil IsClean, (refl, refl)))

-- a line more behind those that stand in front
pub stand_more : (lines : List (List ℕ)) (text rest line more : List ℕ) (count : ℕ) → IsClean line → rest ≡ line ++ 10 ∷ more → Stand lines text rest count → Stand (lines ++ line ∷ []) text more (count + 1)
stand_more lines text rest line more count clean cut s = (
  All-push IsClean lines line s.0 clean,
  (
    s.1.0 ∙ ap (λ (r : List ℕ). text_of lines ++ r) (cut ∙ sym (append_assoc line (10 ∷ []) more))
        ∙ sym (append_assoc (text_of lines) (ended line) more)
        ∙ ap (λ (t : List ℕ). (text_of lines ++ t) ++ more) (sym (append-nil (ended line)))
        ∙ ap (λ (t : List ℕ). t ++ more) (sym (flat_map-append ended lines (line ∷ []))),
    length-append lines (line ∷ []) ∙ ap (λ (n : ℕ). n + 1) s.1.1,
  ),
)

-- a line more in front of them
pub stand_first : (lines : List (List ℕ)) (text rest line more : List ℕ) (count : ℕ) → IsClean line → text ≡ line ++ 10 ∷ more → Stand lines more rest count → Stand (line ∷ lines) text rest (count + 1)
stand_first lines text rest line more count clean cut s = (
  All-cons IsClean line lines clean s.0,
  (
    cut ∙ ap (λ (m : List ℕ). line ++ 10 ∷ m) s.1.0
        ∙ sym (append_assoc (ended line) (text_of lines) rest ∙ append_assoc line (10 ∷ []) (text_of lines ++ rest)),
    (let w : ℕ = 0 in omega (arith, s.1.1)),
  ),
)

pub leads_more : (text rest line more : List ℕ) (count : ℕ) → IsClean line → rest ≡ line ++ 10 ∷ more → Leads text rest count → Leads text more (count + 1)
leads_more text rest line more count clean cut l = (l.0 ++ line ∷ [], stand_more l.0 text rest line more count clean cut l.1)

lines_behind : (done : List (List ℕ)) (rest : List ℕ) → All IsClean done → lines_in (text_of done ++ rest) ≡ done ++ lines_in rest
lines_behind [] rest clean = refl
lines_behind (line ∷ done) rest clean =
    ap lines_in (append_assoc (ended line) (text_of done) rest ∙ append_assoc line (10 ∷ []) (text_of done ++ rest))
    ∙ lines_in-cut line (text_of done ++ rest) (All-head IsClean line done clean)
    ∙ ap (λ (l : List (List ℕ)). line ∷ l) (lines_behind done rest (All-tail IsClean line done clean))

pub leads_where : (test : List (List ℕ) → Bool) (text rest : List ℕ) (count : ℕ) → LeadsWhere test text rest count → Leads text rest count
leads_where test text rest count l = (l.0, l.1.0)

module _ (text rest front : List ℕ) (count : ℕ) (l : Leads text rest count) (cut : front ≡ take (length text - length rest) text) where
  long : length text - length rest ≡ length (text_of l.0)
  long = omega (arith, ap length l.1.1.0, length-append (text_of l.0) rest)

  front_is : front ≡ text_of l.0
  front_is = cut ∙ (λ i. take (long i) (l.1.1.0 i)) ∙ take-append_seam (text_of l.0) rest

  front_lines : lines_in front ≡ l.0
  front_lines = ap lines_in front_is ∙ lines_in-text_of l.0 l.1.0

  pub front_whole : front ≡ text_of (lines_in front)
  front_whole = front_is ∙ ap text_of (sym front_lines)

  pub all_lines : lines_in text ≡ lines_in front ++ lines_in rest
  all_lines = ap lines_in l.1.1.0 ∙ lines_behind l.0 rest l.1.0 ∙ ap (λ (d : List (List ℕ)). d ++ lines_in rest) (sym front_lines)

  pub front_long : length (lines_in front) ≡ count
  front_long = ap length front_lines ∙ l.1.1.1

  pub put_front : (e : Element) → count ≤ 1024 → lines_in front ≡ node_lines (element_node e) → node_is_normal (element_node e) ≡ true → is_named (element_node e) ≡ true
      → block_of max_nesting (lines_in text) ≡ behind_items (Put e ∷ []) count (block_of max_nesting (lines_in rest))
  put_front e few is normal named =
      let lines = node_lines (element_node e) in
      let low : depth (element_node e) + depth (element_node e) ≤ length lines = shallow (element_node e) in
      let deep : depth (element_node e) ≤ max_nesting = omega (arith, low, ap length is, front_long, few) in
      let r = block_reads max_nesting lines in
      let g : Gives (Ok (Put e ∷ [])) (block_of max_nesting lines) = one_answer max_nesting lines (Ok (Put e ∷ [])) (block_of max_nesting lines) (spells_proper max_nesting e normal named deep) r.0 r.1 in
      ap (block_of max_nesting) all_lines
      ∙ block_joined max_nesting (lines_in front) (lines_in rest) (Put e ∷ []) (ap (block_of max_nesting) is ∙ sym g)
      ∙ ap (λ (n : ℕ). behind_items (Put e ∷ []) n (block_of max_nesting (lines_in rest))) front_long

  pub piece_front : (lines : List (List ℕ)) (items : List Item) → lines ≡ lines_in front → Ok items ≡ block_of max_nesting lines
      → block_of max_nesting (lines_in text) ≡ behind_items items count (block_of max_nesting (lines_in rest))
  piece_front lines items is made =
      ap (block_of max_nesting) all_lines
      ∙ block_joined max_nesting (lines_in front) (lines_in rest) items (ap (block_of max_nesting) (sym is) ∙ sym made)
      ∙ ap (λ (n : ℕ). behind_items items n (block_of max_nesting (lines_in rest))) front_long

-- whole lines that meet a test, as one text
pub front_test : (test : List (List ℕ) → Bool) (text rest front : List ℕ) (count : ℕ) (l : LeadsWhere test text rest count) → front ≡ take (length text - length rest) text → test (lines_in front) ≡ true
front_test test text rest front count l cut = ap test (front_lines text rest front count (l.0, l.1.0) cut) ∙ l.1.1

pub remove_front : (text line more key meant : List ℕ) → IsClean line → text ≡ line ++ 10 ∷ more → line ≡ 33 ∷ key → meant ≡ unescaped key
    → block_of max_nesting (lines_in text) ≡ behind_items (Remove meant ∷ []) 1 (block_of max_nesting (lines_in more))
remove_front text line more key meant clean cut is said =
    ap (λ (t : List ℕ). block_of max_nesting (lines_in t)) cut
    ∙ ap (block_of max_nesting) (lines_in-cut line more clean)
    ∙ ap (λ (l : List ℕ). block_of max_nesting (l ∷ lines_in more)) is
    ∙ block_joined max_nesting ((33 ∷ key) ∷ []) (lines_in more) (Remove (unescaped key) ∷ []) refl
    ∙ ap (λ (k : List ℕ). behind_items (Remove k ∷ []) 1 (block_of max_nesting (lines_in more))) (sym said)

-- items more
pub next_items : (items next made : List Item) (count lines : ℕ) (all here there : Result (List Item) PyxError)
    → all ≡ behind_items items count here → here ≡ behind_items made lines there
    → next ≡ items ++ made → all ≡ behind_items next (count + lines) there
next_items items next made count lines all here there a b n =
    a ∙ ap (behind_items items count) b ∙ joined_twice items made count lines there
    ∙ ap (λ (l : List Item). behind_items l (count + lines) there) (sym n)

-- an item more
pub next_item : (items next : List Item) (item : Item) (count lines : ℕ) (all here there : Result (List Item) PyxError)
    → all ≡ behind_items items count here → here ≡ behind_items (item ∷ []) lines there
    → next ≡ items ++ item ∷ [] → all ≡ behind_items next (count + lines) there
next_item items next item count lines all here there a b n =
    next_items items next (item ∷ []) count lines all here there a b n

-- a fault is at most behind the last line
fault_within : (limit : ℕ) (lines : List (List ℕ)) (n : ℕ) → IsFault limit lines n → n ≤ length lines + 1
fault_within limit lines n fault = elim fault.bad [
  | inl bad ↦ omega (arith, fault.next, bad.0)
  | inr bad ↦ omega (arith, fault.next, bad.0)
]

front_few : (b : ℕ) (lines : List (List ℕ)) → length (in_front b lines) ≡ length lines
front_few b [] = refl
front_few b (line ∷ lines) = refl

lines_few : (text : List ℕ) → length (lines_in text) ≤ length text
lines_few [] = omega arith
lines_few (b ∷ text) =
    let below = lines_few text in
    let same = front_few b (lines_in text) in
    elim (cases_Bool (is_feed b)) [
      | inl feed ↦ rw feed (omega (arith, below))
      | inr none ↦ rw none (omega (arith, below, same))
    ]

pub refusal_within : (limit most : ℕ) (lines : List (List ℕ)) (text : List ℕ) (why : PyxError) → lines ≡ lines_in text → length text + 1 ≤ most → Refusal limit lines why → IsWithin most why
refusal_within limit most lines text (BadLine n) is few fault = omega (arith, few, lines_few text, ap length is, fault_within limit lines n fault.fault)
refusal_within limit most lines text (TooDeep n) is few fault = omega (arith, few, lines_few text, ap length is, fault_within limit lines n fault.fault)
refusal_within limit most lines text OutOfMemory is few fault = tt

-- the items of an answer, none of a fault
all_in : Result (List Item) PyxError → List Item
all_in (Ok items) = items
all_in (Err why) = []

-- the lines of a proper element give the one put of it, whatever the limit is that lets them all be open
pub put_alone : (limit : ℕ) (text : List ℕ) (lines : List (List ℕ)) (items : List Item) (e : Element)
    → text ≡ bytes_of_lines (node_lines (element_node e)) → node_is_normal (element_node e) ≡ true → is_named (element_node e) ≡ true
    → lines ≡ lines_in text → limit ≡ length text → Ok items ≡ block_of limit lines → items ≡ Put e ∷ []
unfolding all_in
put_alone limit text lines items e is normal named cut most made =
    let spelled : lines ≡ node_lines (element_node e) = cut ∙ ap lines_in is ∙ lines_again e normal named in
    let low : depth (element_node e) + depth (element_node e) ≤ length (node_lines (element_node e)) = shallow (element_node e) in
    let deep : depth (element_node e) ≤ limit = omega (arith, low, ap length spelled, ap length cut, lines_few text, most) in
    let r = block_reads limit (node_lines (element_node e)) in
    let g : Gives (Ok (Put e ∷ [])) (block_of limit (node_lines (element_node e))) = one_answer limit (node_lines (element_node e)) (Ok (Put e ∷ [])) (block_of limit (node_lines (element_node e))) (spells_proper limit e normal named deep) r.0 r.1 in
    ap all_in (made ∙ ap (block_of limit) spelled ∙ sym g)

-- the items that lines spell are proper
pub read_proper : (limit : ℕ) (lines : List (List ℕ)) (answer : Result (List Item) PyxError) → Gives answer (block_of limit lines)
    → IfOk answer (λ items. list_all item_is_proper items ≡ true)
read_proper limit lines (Ok items) g = answer_proper limit lines (Ok items) (subst (λ a. Reads limit lines a) (sym g) (block_reads limit lines).0)
read_proper limit lines (Err why) g = tt
