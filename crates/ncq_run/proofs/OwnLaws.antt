-- What stands at the places of one name in an answer: the notices of that name.
use Rattle.std.proofs.Common.{◌≡◌, ◌+◌, ◌-◌, ◌<◌, ◌++◌, zero, suc, get_or, ◌∷◌, ℕ, true, false, cond, List, [], length, take, drop, refl, ap, sym, ◌∙◌, subst, arith, append_assoc, length-append}
use Rattle.std.specs.Prelude.{None, Some, Option, if◌then◌else◌}
use Rattle.std.specs.List.{filter, flat_map, AllByRecursion}
use Rattle.std.specs.Str.{bytes_eq}
use Rattle.std.proofs.Math.Seq.{take-append_seam}
use Rattle.std.specs.Borrow.{Bor}
use Rattle.std.specs.Option.{option_copied}
use Rattle.std.proofs.lemmas.List.{append-nil}
use Rattle.ncq_engine.proofs.Lists.{filter_append, flat_map_append}
use Rattle.ncq_script.specs.declared.command.Command.{Command}
use Rattle.ncq_script.specs.declared.refusal.Refusal.{Refusal}
use Rattle.ncq_engine.specs.declared.span.Span.{Span}
use Rattle.ncq_engine.specs.Alone.{notices_of}
use Rattle.ncq_engine.specs.History.{History}
use Rattle.ncq_engine.specs.Notices.{Language, notice_at, firings_in_order}
use Rattle.ncq_engine.specs.Output.{accepted_text, answered, closing_text, first_refusal, notices, ok_text, output, unless_refused}
use Rattle.ncq_engine.specs.Spans.{span_of, spans, spans_of}
use Rattle.ncq_run.specs.Shown.{answer_spans, has_name, piece_of, shown_answer, IsWithin}

drop_front : (front rest : List ℕ) → drop (length front) (front ++ rest) ≡ rest
drop_front [] rest = refl
drop_front (x ∷ front) rest = drop_front front rest

-- what stands behind a front and before a rest
between : (front text rest : List ℕ) (from : ℕ) → from ≡ length front → take ((from + length text) - from) (drop from (front ++ (text ++ rest))) ≡ text
between front text rest from at =
    let size : (from + length text) - from ≡ length text = omega arith in
    (λ i. take (size i) (drop (at i) (front ++ (text ++ rest)))) ∙ ap (take (length text)) (drop_front front (text ++ rest)) ∙ take-append_seam text rest

module _ (own : List ℕ) (whole : List ℕ) where
  abbrev pub pieces : List Span → List ℕ
  pieces places = flat_map (piece_of whole) (filter (has_name own) places)

  one_piece : (name front text rest : List ℕ) (from : ℕ) → from ≡ length front → whole ≡ front ++ (text ++ rest) → (more : List Span)
      → pieces (span_of name from text ++ more) ≡ (if bytes_eq own name then text else []) ++ pieces more
  one_piece name front [] rest from at is more = elim (bytes_eq own name) as (λ t. pieces more ≡ (if t then [] else []) ++ pieces more) [ true ↦ refl | false ↦ refl ]
  one_piece name front (byte ∷ text) rest from at is more =
      let span : Span = record { name = name; from = from; to = from + length (byte ∷ text) } in
      let piece : piece_of whole span ≡ byte ∷ text = ap (λ (w : List ℕ). piece_of w span) is ∙ between front (byte ∷ text) rest from at in
      elim (bytes_eq own name) as (λ t. flat_map (piece_of whole) (cond t (span ∷ filter (has_name own) more) (filter (has_name own) more)) ≡ (if t then byte ∷ text else []) ++ pieces more) [
        | true ↦ ap (λ (xs : List ℕ). xs ++ pieces more) piece
        | false ↦ refl
      ]

  one_within : (name front text rest : List ℕ) (from : ℕ) → from ≡ length front → whole ≡ front ++ (text ++ rest) → (more : List Span)
      → AllByRecursion (IsWithin whole) more → AllByRecursion (IsWithin whole) (span_of name from text ++ more)
  one_within name front [] rest from at is more within = within
  one_within name front (byte ∷ text) rest from at is more within = (
    record {
      from = omega arith;
      to =
          let long : length whole ≡ length front + (length (byte ∷ text) + length rest) = ap length is ∙ length-append front ((byte ∷ text) ++ rest) ∙ ap (λ n. length front + n) (length-append (byte ∷ text) rest) in
          omega (arith, at, long);
    },
    within,
  )

  module _ {A : Type 0} (name text : A → List ℕ) where
    chosen : (x : A) (xs : List A) → flat_map text (filter (λ x. bytes_eq own (name x)) (x ∷ xs)) ≡ (if bytes_eq own (name x) then text x else []) ++ flat_map text (filter (λ x. bytes_eq own (name x)) xs)
    chosen x xs = elim (bytes_eq own (name x)) as (λ t. flat_map text (cond t (x ∷ filter (λ x. bytes_eq own (name x)) xs) (filter (λ x. bytes_eq own (name x)) xs)) ≡ (if t then text x else []) ++ flat_map text (filter (λ x. bytes_eq own (name x)) xs)) [ true ↦ refl | false ↦ refl ]

    one_more : (front rest : List ℕ) (x : A) (xs : List A) → whole ≡ front ++ (flat_map text (x ∷ xs) ++ rest) → whole ≡ front ++ (text x ++ (flat_map text xs ++ rest))
    one_more front rest x xs is = is ∙ ap (λ (l : List ℕ). front ++ l) (append_assoc (text x) (flat_map text xs) rest)

    behind_one : (front rest : List ℕ) (x : A) (xs : List A) → whole ≡ front ++ (flat_map text (x ∷ xs) ++ rest) → whole ≡ (front ++ text x) ++ (flat_map text xs ++ rest)
    behind_one front rest x xs is = one_more front rest x xs is ∙ sym (append_assoc front (text x) (flat_map text xs ++ rest))

    further : (front : List ℕ) (x : A) (from : ℕ) → from ≡ length front → from + length (text x) ≡ length (front ++ text x)
    further front x from at = let l = length-append front (text x) in omega (arith, at, l)

    -- the pieces at the places of a name are the texts of that name
    own_pieces : (front rest : List ℕ) (xs : List A) (from : ℕ) → from ≡ length front → whole ≡ front ++ (flat_map text xs ++ rest)
        → pieces (spans_of name text from xs) ≡ flat_map text (filter (λ x. bytes_eq own (name x)) xs)
    own_pieces front rest [] from at is = refl
    own_pieces front rest (x ∷ xs) from at is =
        one_piece (name x) front (text x) (flat_map text xs ++ rest) from at (one_more front rest x xs is) (spans_of name text (from + length (text x)) xs)
        ∙ ap (λ (l : List ℕ). (if bytes_eq own (name x) then text x else []) ++ l) (own_pieces (front ++ text x) rest xs (from + length (text x)) (further front x from at) (behind_one front rest x xs is))
        ∙ sym (chosen x xs)

    all_within : (front rest : List ℕ) (xs : List A) (from : ℕ) → from ≡ length front → whole ≡ front ++ (flat_map text xs ++ rest) → AllByRecursion (IsWithin whole) (spans_of name text from xs)
    all_within front rest [] from at is = tt
    all_within front rest (x ∷ xs) from at is =
        one_within (name x) front (text x) (flat_map text xs ++ rest) from at (one_more front rest x xs is) (spans_of name text (from + length (text x)) xs)
        (all_within (front ++ text x) rest xs (from + length (text x)) (further front x from at) (behind_one front rest x xs is))

module _ (language : Language) (name : List ℕ) (history : History) (number : ℕ) (command : Command) where
  -- of an answer
  abbrev IsOwn : List ℕ → List Span → List ℕ → Type 0
  IsOwn text places own = (pieces name text places ≡ own) × AllByRecursion (IsWithin text) places

  by_refusal : (o : Option Refusal) → IsOwn (answered language history number command o) (unless_refused [] o (spans language history command (length (ok_text number)))) (unless_refused [] o (notices_of language name history command))
  by_refusal (Some why) = (refl, tt)
  by_refusal None =
      let whole : accepted_text language history number command ≡ ok_text number ++ (notices language history command ++ closing_text language command history) =
      append_assoc (ok_text number) (notices language history command) (closing_text language command history) in (
        own_pieces name (accepted_text language history number command) (λ fired. fired.1.statement.name) (notice_at language history command) (ok_text number) (closing_text language command history) (firings_in_order history command) (length (ok_text number)) refl whole,
        all_within name (accepted_text language history number command) (λ fired. fired.1.statement.name) (notice_at language history command) (ok_text number) (closing_text language command history) (firings_in_order history command) (length (ok_text number)) refl whole,
      )

  own_answer : IsOwn (output language history number command) (answer_spans language history number command) (shown_answer language (Some name) history number command)
  unfolding output
  own_answer = by_refusal (first_refusal language history command)

  -- what stands at the places of the name is what is shown of the answer
  pub own_is : (text : List ℕ) (places : List Span) → text ≡ output language history number command → places ≡ answer_spans language history number command
      → flat_map (piece_of text) (filter (has_name name) places) ≡ shown_answer language (Some name) history number command
  own_is text places t p = (λ i. flat_map (piece_of (t i)) (filter (has_name name) (p i))) ∙ own_answer.0

  pub own_within : (text : List ℕ) (places : List Span) → text ≡ output language history number command → places ≡ answer_spans language history number command → AllByRecursion (IsWithin text) places
  own_within text places t p = subst (λ (w : List ℕ). AllByRecursion (IsWithin w) places) (sym t) (subst (λ (ps : List Span). AllByRecursion (IsWithin (output language history number command)) ps) (sym p) own_answer.1)

-- what is shown of an answer, by whose it is
pub shown_own : (language : Language) (whose : Option (Bor (List ℕ))) (name : Bor (List ℕ)) (history : History) (number : ℕ) (command : Command) (text : List ℕ) (places : List Span) → whose ≡ Some name
    → text ≡ output language history number command → places ≡ answer_spans language history number command
    → flat_map (piece_of text) (filter (has_name name.now) places) ≡ shown_answer language (option_copied whose) history number command
shown_own language whose name history number command text places is t p =
    own_is language name.now history number command text places t p ∙ sym (ap (λ (w : Option (Bor (List ℕ))). shown_answer language (option_copied w) history number command) is)

pub shown_whole : (language : Language) (whose : Option (Bor (List ℕ))) (history : History) (number : ℕ) (command : Command) (text : List ℕ) → whose ≡ None
    → text ≡ output language history number command → text ≡ shown_answer language (option_copied whose) history number command
shown_whole language whose history number command text is t = t ∙ sym (ap (λ (w : Option (Bor (List ℕ))). shown_answer language (option_copied w) history number command) is)

-- the pieces so far, with one more place
pub pieces_more : (own whole : List ℕ) (places : List Span) (at : ℕ) (span : Span) → take (at + 1) places ≡ take at places ++ span ∷ []
    → pieces own whole (take (at + 1) places) ≡ pieces own whole (take at places) ++ (if has_name own span then piece_of whole span else [])
pieces_more own whole places at span one =
    ap (pieces own whole) one ∙ ap (flat_map (piece_of whole)) (filter_append (has_name own) (take at places) (span ∷ []))
    ∙ flat_map_append (piece_of whole) (filter (has_name own) (take at places)) (filter (has_name own) (span ∷ []))
    ∙ ap (λ (l : List ℕ). pieces own whole (take at places) ++ l) (elim (has_name own span) as (λ t. flat_map (piece_of whole) (cond t (span ∷ []) []) ≡ (if t then piece_of whole span else [])) [
      | true ↦ append-nil (piece_of whole span)
      | false ↦ refl
    ])

-- what holds of each holds at each place
pub each_at : (P : Span → Type 0) (places : List Span) (at : ℕ) (d : Span) → at < length places → AllByRecursion P places → P (get_or places at d)
each_at P [] at d less h = absurd (let n : ⊥ = omega (arith, less) in n)
each_at P (x ∷ places) zero d less h = h.0
each_at P (x ∷ places) (suc at) d less h = each_at P places at d (let l : at < length places = omega (arith, less) in l) h.1
