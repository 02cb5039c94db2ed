-- Laws of blocks.
use Rattle.std.proofs.Common.{◌≡◌, inl, inr, ℕ, ◌+◌, ◌<◌, ◌≤◌, List, [], ◌∷◌, ◌++◌, Some, None, Result, Ok, Err, subst, length, length-append, take, drop, get_or, vec_len, refl, ap, sym, ◌∙◌, append_assoc, append-nil, arith}
use Rattle.std.specs.Option.{option_map}
use Rattle.std.proofs.lemmas.List.{take_more, take_all, drop_more, length-drop, length-reverse}
use Rattle.ncq_base.specs.Lines.{IsClean, lines_in}
use Rattle.ncq_base.proofs.LineLaws.{lines_in-cut, lines_in-clean}
use Rattle.ncq_pyx.specs.declared.reader.OpenElement.{OpenElement}
use Rattle.ncq_pyx.specs.declared.item.Item.{Item}
use Rattle.ncq_pyx.specs.declared.turns.Stop.{Stop}
use Rattle.ncq_pyx.specs.declared.turns.Stop.TheVariants.{Fault, TooDeep, OutOfMemory}
use Rattle.ncq_pyx.specs.declared.reader.Reader.{Reader}
use Rattle.ncq_pyx.specs.declared.error.PyxError.{PyxError}
use Rattle.ncq_pyx.specs.declared.error.PyxError.TheVariants.{BadLine}
use Rattle.ncq_pyx.specs.Spells.{spell, spell_end, spelled, CanGoOn, IsFault, IsBadLine, Refusal, Reads}
use Rattle.ncq_pyx.specs.Reading.{filled, place_of, whole_of, frames_of, names_of, Stands, TakesLine, Refuses, Ends, refusal_of}
use Rattle.ncq_pyx.proofs.Steps.{closes}

one_line : (lines : List (List ℕ)) (i : ℕ) (line : List ℕ) → i < length lines → line ≡ get_or lines i line → (more : List (List ℕ)) → take (i + 1) lines ++ more ≡ take i lines ++ (line ∷ more)
one_line lines i line lt is more =
    ap (λ l. l ++ more) (take_more lines i line lt ∙ ap (λ x. take i lines ++ x ∷ []) (sym is))
    ∙ append_assoc (take i lines) (line ∷ []) more

pub stands_more : (limit : ℕ) (lines : List (List ℕ)) (i : ℕ) (line : List ℕ) (old new : Reader) → i < length lines → line ≡ get_or lines i line → Stands limit (take i lines) old → TakesLine limit old new line → Stands limit (take (i + 1) lines) new
stands_more limit lines i line old new lt is stands takes = λ bound le more.
    ap (spelled bound) (one_line lines i line lt is more) ∙ stands bound le (line ∷ more) ∙ takes bound le more

-- the lines that close the open elements make a block
pub stands_good : (limit : ℕ) (done : List (List ℕ)) (reader : Reader) → Stands limit done reader → CanGoOn limit done
stands_good limit done reader stands =
    let c = closes limit (place_of reader).open_names (place_of reader).given in
    (c.0, (whole_of reader c.1, stands limit (omega arith) c.0 ∙ ap (option_map (whole_of reader)) c.2))

no_block : (bound limit : ℕ) (lines : List (List ℕ)) (i : ℕ) (line : List ℕ) (reader : Reader) → limit ≤ bound → i < length lines → line ≡ get_or lines i line → Stands limit (take i lines) reader
    → ((more : List (List ℕ)) → spell bound (line ∷ more) (place_of reader) ≡ None) → CanGoOn bound (take (i + 1) lines) → ⊥
no_block bound limit lines i line reader le lt is stands none block =
    let e : None ≡ Some block.1.0 =
    sym (ap (spelled bound) (one_line lines i line lt is block.0) ∙ stands bound le (line ∷ block.0) ∙ ap (option_map (whole_of reader)) (none block.0)) ∙ block.1.1 in
    (let w : ⊥ = cc in w)

fault_at : (limit : ℕ) (lines : List (List ℕ)) (i : ℕ) (line : List ℕ) (reader : Reader) → i < length lines → line ≡ get_or lines i line → Stands limit (take i lines) reader
    → ((more : List (List ℕ)) → spell limit (line ∷ more) (place_of reader) ≡ None) → IsFault limit lines (i + 1)
fault_at limit lines i line reader lt is stands none = record {
  before = i;
  next = refl;
  good = stands_good limit (take i lines) reader stands;
  bad = inl (lt, no_block limit limit lines i line reader (omega arith) lt is stands none);
}

pub refuses_block : (limit : ℕ) (lines : List (List ℕ)) (i : ℕ) (line : List ℕ) (reader : Reader) (why : Stop) → i < length lines → line ≡ get_or lines i line → Stands limit (take i lines) reader → Refuses limit reader line why
    → Refusal limit lines (refusal_of (i + 1) why)
refuses_block limit lines i line reader Fault lt is stands none = record {
  fault = fault_at limit lines i line reader lt is stands (none limit);
  other = λ _. no_block (limit + 1) limit lines i line reader (omega arith) lt is stands (none (limit + 1));
}
refuses_block limit lines i line reader TooDeep lt is stands refused =
    let d = refused.1 (limit + 1) (omega arith) in
    record {
      fault = fault_at limit lines i line reader lt is stands refused.0;
      within = omega arith;
      deeper = (
        d.0,
        (
          whole_of reader d.1,
          ap (spelled (limit + 1)) (one_line lines i line lt is d.0) ∙ stands (limit + 1) (omega arith) (line ∷ d.0) ∙ ap (option_map (whole_of reader)) d.2,
        ),
      );
    }
refuses_block limit lines i line reader OutOfMemory lt is stands none = tt

end_outside : (frames : List OpenElement) (items : List Item) → frames ≡ [] → option_map (filled frames items) (spell_end (names_of frames)) ≡ Some items
end_outside [] items h = ap Some (append-nil items)
end_outside (frame ∷ frames) items h = cc

end_inside : (frames : List OpenElement) → 0 < length frames → spell_end (names_of frames) ≡ None
end_inside [] h = absurd (omega arith)
end_inside (frame ∷ frames) h = refl

pub stands_end : (limit : ℕ) (lines : List (List ℕ)) (reader : Reader) → Stands limit lines reader → frames_of reader ≡ [] → spelled limit lines ≡ Some reader.items
stands_end limit lines reader stands f =
    ap (spelled limit) (sym (append-nil lines)) ∙ stands limit (omega arith) [] ∙ end_outside (frames_of reader) reader.items f

pub stands_inside : (limit : ℕ) (lines : List (List ℕ)) (reader : Reader) → Stands limit lines reader → 0 < vec_len reader.stack → IsBadLine limit lines (length lines + 1)
stands_inside limit lines reader stands f =
    let some : 0 < length (frames_of reader) = omega (arith, length-reverse reader.stack.items, reader.stack.ok.0) in
    let none : spelled limit lines ≡ None =
    ap (spelled limit) (sym (append-nil lines)) ∙ stands limit (omega arith) [] ∙ ap (option_map (whole_of reader)) (end_inside (frames_of reader) some) in
    record {
      fault = record {
        before = length lines;
        next = refl;
        good = rw (take_all (length lines) lines (omega arith)) (stands_good limit lines reader stands);
        bad = inr (refl, λ block. let e : None ≡ Some block.0 = sym none ∙ block.1 in (let w : ⊥ = cc in w));
      };
      other = λ h. absurd (omega arith);
    }

-- as the loop has it: so many lines were taken, and the text that is left begins with this one
module _ (lines : List (List ℕ)) (i : ℕ) (text line behind : List ℕ) (left : lines_in text ≡ drop i lines) (clean : IsClean line) (cut : text ≡ line ++ 10 ∷ behind) where
  here : drop i lines ≡ line ∷ lines_in behind
  here = sym left ∙ ap lines_in cut ∙ lines_in-cut line behind clean

  pub line_within : i < length lines
  line_within = omega (arith, ap length here, length-drop i lines)

  parts : get_or lines i line ∷ drop (i + 1) lines ≡ line ∷ lines_in behind
  parts = sym (drop_more lines i line line_within) ∙ here

  line_is : line ≡ get_or lines i line
  line_is = let e = parts in cc

  pub lines_left : lines_in behind ≡ drop (i + 1) lines
  lines_left = let e = parts in cc

  pub fewer : length behind < length text
  fewer = omega (arith, ap length cut, length-append line (10 ∷ behind))

  pub line_stands : (limit : ℕ) (old new : Reader) → Stands limit (take i lines) old → TakesLine limit old new line → Stands limit (take (i + 1) lines) new
  line_stands limit old new stands takes = stands_more limit lines i line old new line_within line_is stands takes

  pub line_refused : (limit : ℕ) (reader : Reader) (why : Stop) → Stands limit (take i lines) reader → Refuses limit reader line why → Refusal limit lines (refusal_of (i + 1) why)
  line_refused limit reader why stands refuses = refuses_block limit lines i line reader why line_within line_is stands refuses

-- no line is left
pub ended_block : (limit : ℕ) (lines : List (List ℕ)) (i : ℕ) (text : List ℕ) (reader : Reader) (result : Result (List Item) PyxError)
    → lines_in text ≡ drop i lines → IsClean text → i ≤ length lines
    → Stands limit (take i lines) reader → Ends reader i result → Reads limit lines result
ended_block limit lines i text reader (Ok out) left clean le stands ends =
    let none : drop i lines ≡ [] = sym left ∙ lines_in-clean text clean in
    let past : length lines ≤ i = omega (arith, ap length none, length-drop i lines) in
    stands_end limit lines reader (subst (λ l. Stands limit l reader) (take_all i lines past) stands) ends.1 ∙ ap Some (sym ends.0)
ended_block limit lines i text reader (Err why) left clean le stands ends =
    let none : drop i lines ≡ [] = sym left ∙ lines_in-clean text clean in
    let past : length lines ≤ i = omega (arith, ap length none, length-drop i lines) in
    let count : length lines + 1 ≡ i + 1 = omega arith in
    subst (λ a. Refusal limit lines a) (ap (λ n. BadLine n) count ∙ sym ends.0)
    (stands_inside limit lines reader (subst (λ l. Stands limit l reader) (take_all i lines past) stands) ends.1)
