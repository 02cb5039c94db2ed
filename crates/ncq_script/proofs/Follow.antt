-- A reader goes on following the bytes that it was pushed.
use Rattle.std.proofs.Common.{◌≡◌, ◌+◌, ◌<◌, ◌++◌, inl, inr, ℕ, Bool, true, false, List, [], ◌∷◌, length, arith, sym, subst, ◌∙◌, ap, refl, append_assoc, length-append}
use Rattle.std.specs.Prelude.{drop, map, slice_get, take, Some, if◌then◌else◌}
use Rattle.std.specs.List.{flat_map}
use Rattle.std.proofs.lemmas.List.{nil_from_length, append-nil, length-map, length-take, length-drop}
use Rattle.std.proofs.lemmas.List.Elements.{All-nil, All-push, All-append}
use Rattle.std.proofs.Math.Seq.{take-nil, drop-nil, take-append_seam, drop-append_seam}
use Rattle.std.proofs.lemmas.Grind.{common_steps}
use Rattle.std.proofs.lemmas.List.Concat.{flat_map-append}
use Rattle.ncq_base.specs.Lines.{is_feed, IsClean, ended}
use Rattle.ncq_script.specs.Lines.{LineText, line_at, last_line, lines, whole_lines, known_lines}
use Rattle.ncq_script.specs.LineReading.{LineState, IsKept, FollowsLines}
use Rattle.ncq_script.specs.NextOfLines.{IsReady, passed}
use Rattle.ncq_script.specs.declared.line.Found.TheVariants.{Line}
use Rattle.ncq_script.proofs.Cut.{whole_are, lines_are, whole_next, lines_next, whole_none, lines_last}

pub nothing_pushed : (limit : ℕ) → FollowsLines record { limit = limit; kept = []; over = false; ahead = []; finished = false } [] 0
unfolding FollowsLines
nothing_pushed limit = inl ([], [], record { bytes = refl; clean = All-nil IsClean; clean_part = All-nil (λ (b : ℕ). is_feed b ≡ false); kept = record { front = sym (take-nil (limit + 1)); more = grind (arith, common_steps) } }, refl)

pub pushed_more : (limit : ℕ) (kept : List ℕ) (over : Bool) (ahead piece pushed : List ℕ) (count : ℕ)
    → FollowsLines record { limit = limit; kept = kept; over = over; ahead = ahead; finished = false } pushed count
    → FollowsLines record { limit = limit; kept = kept; over = over; ahead = ahead ++ piece; finished = false } (pushed ++ piece) count
unfolding FollowsLines
pushed_more limit kept over ahead piece pushed count (inl follows) =
    let s = follows.2 in
    let bytes = ap (λ (xs : List ℕ). xs ++ piece) s.bytes ∙ append_assoc (flat_map ended follows.0) (follows.1 ++ ahead) piece ∙ ap (λ (xs : List ℕ). flat_map ended follows.0 ++ xs) (append_assoc follows.1 ahead piece) in
    inl (follows.0, follows.1, record { bytes = bytes; clean = s.clean; clean_part = s.clean_part; kept = s.kept }, follows.3)
pushed_more limit kept over ahead piece pushed count (inr spent) = let bad : false ≡ true = spent.finished in cc

pub end_marked : (limit : ℕ) (kept : List ℕ) (over : Bool) (ahead pushed : List ℕ) (finished : Bool) (count : ℕ)
    → FollowsLines record { limit = limit; kept = kept; over = over; ahead = ahead; finished = finished } pushed count
    → FollowsLines record { limit = limit; kept = kept; over = over; ahead = ahead; finished = true } pushed count
unfolding FollowsLines
end_marked limit kept over ahead pushed finished count (inl follows) =
    let s = follows.2 in inl (follows.0, follows.1, record { bytes = s.bytes; clean = s.clean; clean_part = s.clean_part; kept = s.kept }, follows.3)
end_marked limit kept over ahead pushed finished count (inr spent) = inr record { finished = refl; nothing = spent.nothing; none_kept = spent.none_kept; all = spent.all }

either : {T : Type 0} (P : T → Type 0) (b : Bool) (x y : T) → P x → P y → P (if b then x else y)
either P true x y p q = p
either P false x y p q = q

last_some : (limit : ℕ) (part : List ℕ) → 0 < length part → last_line limit part ≡ line_at limit part ∷ []
last_some limit [] some = absurd (omega arith)
last_some limit (b ∷ part) some = refl

at_front : {T : Type 0} (xs ys : List T) (y : T) → slice_get (xs ++ y ∷ ys) (length xs) ≡ Some y
at_front [] ys y = refl
at_front (x ∷ xs) ys y = at_front xs ys y

-- a line feed comes: the line that it ends is next
pub line_next : (limit : ℕ) (kept kept'' : List ℕ) (over over'' : Bool) (ahead front rest : List ℕ) (finished : Bool) (line : LineText) (pushed : List ℕ) (count : ℕ)
    → IsClean front → ahead ≡ front ++ 10 ∷ rest
    → ((part : List ℕ) → IsKept limit kept over part → line ≡ line_at limit (part ++ front))
    → IsKept limit kept'' over'' []
    → FollowsLines record { limit = limit; kept = kept; over = over; ahead = ahead; finished = finished } pushed count
    → (slice_get (known_lines limit finished pushed) count ≡ Some line)
    × FollowsLines record { limit = limit; kept = kept''; over = over''; ahead = rest; finished = finished } pushed (count + 1)
unfolding FollowsLines
line_next limit kept kept'' over over'' ahead front rest finished line pushed count clean_front cut is_line none (inl follows) =
    let given = follows.0 in
    let part = follows.1 in
    let s = follows.2 in
    let clean : IsClean (part ++ front) = All-append (λ (b : ℕ). is_feed b ≡ false) part front s.clean_part clean_front in
    let now : part ++ ahead ≡ (part ++ front) ++ 10 ∷ rest = ap (λ (xs : List ℕ). part ++ xs) cut ∙ sym (append_assoc part front (10 ∷ rest)) in
    let bytes : pushed ≡ flat_map ended given ++ ((part ++ front) ++ 10 ∷ rest) = s.bytes ∙ ap (λ (xs : List ℕ). flat_map ended given ++ xs) now in
    let is : line ≡ line_at limit (part ++ front) = is_line part s.kept in
    let long : length (map (line_at limit) given) ≡ count = length-map given (line_at limit) ∙ follows.3 in
    let whole : whole_lines limit pushed ≡ map (line_at limit) given ++ line ∷ whole_lines limit rest =
    ap (whole_lines limit) bytes ∙ whole_are limit given _ s.clean ∙ ap (λ (ls : List LineText). map (line_at limit) given ++ ls) (whole_next limit _ rest clean ∙ ap (λ (l : LineText). l ∷ whole_lines limit rest) (sym is)) in
    let all : lines limit pushed ≡ map (line_at limit) given ++ line ∷ lines limit rest =
    ap (lines limit) bytes ∙ lines_are limit given _ s.clean ∙ ap (λ (ls : List LineText). map (line_at limit) given ++ ls) (lines_next limit _ rest clean ∙ ap (λ (l : LineText). l ∷ lines limit rest) (sym is)) in
    let P : List LineText → Type 0 = λ ls. slice_get ls count ≡ Some line in
    let here : (ls more : List LineText) → ls ≡ map (line_at limit) given ++ line ∷ more → P ls = λ ls more e. rw (e, ← long) (at_front (map (line_at limit) given) more line) in
    let split : flat_map ended (given ++ (part ++ front) ∷ []) ≡ flat_map ended given ++ ended (part ++ front) = flat_map-append ended given ((part ++ front) ∷ []) ∙ ap (λ (xs : List ℕ). flat_map ended given ++ xs) (append-nil _) in
    let bytes' : pushed ≡ flat_map ended (given ++ (part ++ front) ∷ []) ++ rest = bytes ∙ ap (λ (xs : List ℕ). flat_map ended given ++ xs) (sym (append_assoc (part ++ front) (10 ∷ []) rest)) ∙ sym (append_assoc (flat_map ended given) (ended (part ++ front)) rest) ∙ ap (λ (xs : List ℕ). xs ++ rest) (sym split) in (
      either P finished (lines limit pushed) (whole_lines limit pushed) (here _ _ all) (here _ _ whole),
      inl (
        given ++ (part ++ front) ∷ [],
        [],
        record { bytes = bytes'; clean = All-push IsClean given _ s.clean clean; clean_part = All-nil (λ (b : ℕ). is_feed b ≡ false); kept = none },
        length-append given ((part ++ front) ∷ []) ∙ ap (λ (n : ℕ). n + 1) follows.3,
      ),
    )
line_next limit kept kept'' over over'' ahead front rest finished line pushed count clean_front cut is_line none (inr spent) =
    absurd (omega (arith, spent.nothing, ap length cut, length-append front (10 ∷ rest)))

-- no line feed comes: what is ahead joins the line that is not whole
pub none_next : (limit : ℕ) (kept kept' : List ℕ) (over over' : Bool) (ahead pushed : List ℕ) (count : ℕ)
    → IsClean ahead
    → ((part : List ℕ) → IsKept limit kept over part → IsKept limit kept' over' (part ++ ahead))
    → FollowsLines record { limit = limit; kept = kept; over = over; ahead = ahead; finished = false } pushed count
    → (length (whole_lines limit pushed) ≡ count) × FollowsLines record { limit = limit; kept = kept'; over = over'; ahead = []; finished = false } pushed count
unfolding FollowsLines
none_next limit kept kept' over over' ahead pushed count clean_ahead keeps (inl follows) =
    let given = follows.0 in
    let part = follows.1 in
    let s = follows.2 in
    let clean : IsClean (part ++ ahead) = All-append (λ (b : ℕ). is_feed b ≡ false) part ahead s.clean_part clean_ahead in
    let whole : whole_lines limit pushed ≡ map (line_at limit) given =
    ap (whole_lines limit) s.bytes ∙ whole_are limit given _ s.clean ∙ ap (λ (ls : List LineText). map (line_at limit) given ++ ls) (whole_none limit _ clean) ∙ append-nil _ in (
      ap length whole ∙ length-map given (line_at limit) ∙ follows.3,
      inl (given, part ++ ahead, record { bytes = s.bytes ∙ ap (λ (xs : List ℕ). flat_map ended given ++ xs) (sym (append-nil (part ++ ahead))); clean = s.clean; clean_part = clean; kept = keeps part s.kept }, follows.3),
    )
none_next limit kept kept' over over' ahead pushed count clean_ahead keeps (inr spent) = let bad : false ≡ true = spent.finished in cc

-- a front of what is ahead joins the line that is not whole
pub front_joins : (limit : ℕ) (kept kept' : List ℕ) (over over' : Bool) (ahead front rest : List ℕ) (finished : Bool) (pushed : List ℕ) (count : ℕ)
    → IsClean front → ahead ≡ front ++ rest
    → ((part : List ℕ) → IsKept limit kept over part → IsKept limit kept' over' (part ++ front))
    → FollowsLines record { limit = limit; kept = kept; over = over; ahead = ahead; finished = finished } pushed count
    → FollowsLines record { limit = limit; kept = kept'; over = over'; ahead = rest; finished = finished } pushed count
unfolding FollowsLines
front_joins limit kept kept' over over' ahead front rest finished pushed count clean_front cut keeps (inl follows) =
    let given = follows.0 in
    let part = follows.1 in
    let s = follows.2 in
    let clean : IsClean (part ++ front) = All-append (λ (b : ℕ). is_feed b ≡ false) part front s.clean_part clean_front in
    let bytes : pushed ≡ flat_map ended given ++ ((part ++ front) ++ rest) =
    s.bytes ∙ ap (λ (xs : List ℕ). flat_map ended given ++ (part ++ xs)) cut ∙ ap (λ (xs : List ℕ). flat_map ended given ++ xs) (sym (append_assoc part front rest)) in
    inl (given, part ++ front, record { bytes = bytes; clean = s.clean; clean_part = clean; kept = keeps part s.kept }, follows.3)
front_joins limit kept kept' over over' ahead front rest finished pushed count clean_front cut keeps (inr spent) =
    let none : length front ≡ 0 = omega (arith, spent.nothing, ap length cut, length-append front rest) in
    let gone : length rest ≡ 0 = omega (arith, spent.nothing, ap length cut, length-append front rest) in
    let kept_is : IsKept limit kept' over' [] = rw (nil_from_length front none) at (keeps [] spent.none_kept) in
    inr record { finished = spent.finished; nothing = gone; none_kept = kept_is; all = spent.all }

kept_none : (limit : ℕ) (kept part : List ℕ) (over : Bool) → IsKept limit kept over part → length kept ≡ 0 → part ≡ []
kept_none limit kept part over k none = nil_from_length part (omega (arith, ap length k.front, length-take (limit + 1) part))

kept_some : (limit : ℕ) (kept part : List ℕ) (over : Bool) → IsKept limit kept over part → 0 < length kept → 0 < length part
kept_some limit kept part over k some = omega (arith, ap length k.front, length-take (limit + 1) part)

-- the end, and no line is left
pub end_next : (limit : ℕ) (kept kept' : List ℕ) (over over' : Bool) (ahead pushed : List ℕ) (count : ℕ)
    → IsClean ahead
    → ((part : List ℕ) → IsKept limit kept over part → IsKept limit kept' over' (part ++ ahead))
    → length kept' ≡ 0
    → FollowsLines record { limit = limit; kept = kept; over = over; ahead = ahead; finished = true } pushed count
    → (length (lines limit pushed) ≡ count) × FollowsLines record { limit = limit; kept = kept'; over = over'; ahead = []; finished = true } pushed count
unfolding FollowsLines
end_next limit kept kept' over over' ahead pushed count clean_ahead keeps empty (inl follows) =
    let given = follows.0 in
    let part = follows.1 in
    let s = follows.2 in
    let clean : IsClean (part ++ ahead) = All-append (λ (b : ℕ). is_feed b ≡ false) part ahead s.clean_part clean_ahead in
    let nothing : part ++ ahead ≡ [] = kept_none limit kept' _ over' (keeps part s.kept) empty in
    let all : lines limit pushed ≡ map (line_at limit) given =
    ap (lines limit) s.bytes ∙ lines_are limit given _ s.clean ∙ ap (λ (xs : List ℕ). map (line_at limit) given ++ lines limit xs) nothing ∙ ap (λ (ls : List LineText). map (line_at limit) given ++ ls) (lines_last limit [] (All-nil (λ (b : ℕ). is_feed b ≡ false))) ∙ append-nil _ in (
      ap length all ∙ length-map given (line_at limit) ∙ follows.3,
      inl (given, part ++ ahead, record { bytes = s.bytes ∙ ap (λ (xs : List ℕ). flat_map ended given ++ xs) (sym (append-nil (part ++ ahead))); clean = s.clean; clean_part = clean; kept = keeps part s.kept }, follows.3),
    )
end_next limit kept kept' over over' ahead pushed count clean_ahead keeps empty (inr spent) =
    let gone : ahead ≡ [] = nil_from_length ahead spent.nothing in
    let kept_is : IsKept limit kept' over' [] = rw gone at (keeps [] spent.none_kept) in
    (spent.all, inr record { finished = refl; nothing = refl; none_kept = kept_is; all = spent.all })

-- the end, and the last line, of which all is kept
pub last_next : (limit : ℕ) (kept kept'' : List ℕ) (over over'' : Bool) (line : LineText) (pushed : List ℕ) (count : ℕ)
    → ((part : List ℕ) → IsKept limit kept over part → line ≡ line_at limit part)
    → IsKept limit kept'' over'' []
    → 0 < length kept
    → FollowsLines record { limit = limit; kept = kept; over = over; ahead = []; finished = true } pushed count
    → (slice_get (lines limit pushed) count ≡ Some line) × FollowsLines record { limit = limit; kept = kept''; over = over''; ahead = []; finished = true } pushed (count + 1)
unfolding FollowsLines
last_next limit kept kept'' over over'' line pushed count is_line none some (inl follows) =
    let given = follows.0 in
    let part = follows.1 in
    let s = follows.2 in
    let more : 0 < length part = kept_some limit kept part over s.kept some in
    let last : lines limit part ≡ line ∷ [] = lines_last limit part s.clean_part ∙ last_some limit part more ∙ ap (λ (l : LineText). l ∷ []) (sym (is_line part s.kept)) in
    let all : lines limit pushed ≡ map (line_at limit) given ++ line ∷ [] =
    ap (lines limit) (s.bytes ∙ ap (λ (xs : List ℕ). flat_map ended given ++ xs) (append-nil part)) ∙ lines_are limit given part s.clean ∙ ap (λ (ls : List LineText). map (line_at limit) given ++ ls) last in
    let long : length (map (line_at limit) given) ≡ count = length-map given (line_at limit) ∙ follows.3 in (
      rw (all, ← long) (at_front (map (line_at limit) given) [] line),
      inr record { finished = refl; nothing = refl; none_kept = none; all = ap length all ∙ length-append (map (line_at limit) given) (line ∷ []) ∙ ap (λ (n : ℕ). n + 1) long },
    )
last_next limit kept kept'' over over'' line pushed count is_line none some (inr spent) =
    absurd (omega (arith, kept_some limit kept [] over spent.none_kept some))

none_kept : (limit : ℕ) → IsKept limit [] false []
none_kept limit = record { front = sym (take-nil (limit + 1)); more = grind (arith, common_steps) }

last_known : (limit : ℕ) (kept : List ℕ) (over : Bool) (ahead : List ℕ) (finished : Bool) (line : LineText) (pushed : List ℕ) (count : ℕ)
    → ahead ≡ [] → finished ≡ true → 0 < length kept
    → ((part : List ℕ) → IsKept limit kept over part → line ≡ line_at limit part)
    → FollowsLines record { limit = limit; kept = kept; over = over; ahead = ahead; finished = finished } pushed count
    → (slice_get (known_lines limit finished pushed) count ≡ Some line) × FollowsLines record { limit = limit; kept = []; over = false; ahead = []; finished = finished } pushed (count + 1)
last_known limit kept over ahead false line pushed count none closed some is_line f = let bad : false ≡ true = closed in cc
last_known limit kept over ahead true line pushed count none closed some is_line f =
    last_next limit kept [] over false line pushed count is_line (none_kept limit) some (rw none at f)

-- the line that was found is next, and the reader that passed it goes on behind it
pub ready_next : (reader : LineState) (len : ℕ) (line : LineText) → IsReady reader len
    → ((part : List ℕ) → IsKept reader.limit reader.kept reader.over part → line ≡ line_at reader.limit (part ++ take len reader.ahead))
    → (pushed : List ℕ) (count : ℕ) → FollowsLines reader pushed count
    → (slice_get (known_lines reader.limit reader.finished pushed) count ≡ Some line) × FollowsLines (passed reader len) pushed (count + 1)
ready_next reader len line ready is_line pushed count f =
    elim ready.ends [
      | inl feed ↦ line_next reader.limit reader.kept [] reader.over false reader.ahead (take len reader.ahead) (drop (len + 1) reader.ahead) reader.finished line pushed count
          ready.clean feed is_line (none_kept reader.limit) f
      | inr last ↦
          let nothing : take len reader.ahead ≡ [] = ap (take len) last.0 ∙ take-nil len in
          let whole : (part : List ℕ) → IsKept reader.limit reader.kept reader.over part → line ≡ line_at reader.limit part =
          λ part k. is_line part k ∙ ap (λ (xs : List ℕ). line_at reader.limit (part ++ xs)) nothing ∙ ap (line_at reader.limit) (append-nil part) in
          let behind : drop (len + 1) reader.ahead ≡ [] = ap (drop (len + 1)) last.0 ∙ drop-nil (len + 1) in
          rw behind (last_known reader.limit reader.kept reader.over reader.ahead reader.finished line pushed count last.0 last.1 last.2 whole f)
    ]

-- a line that stands ahead alone is ready
pub cut_ready : (reader : LineState) (front rest : List ℕ) → length reader.kept ≡ 0 → IsClean front → reader.ahead ≡ front ++ 10 ∷ rest → IsReady reader (length front)
cut_ready reader front rest none clean cut =
    let same : take (length front) reader.ahead ≡ front = ap (take (length front)) cut ∙ take-append_seam front (10 ∷ rest) in
    let long : length front + 1 ≡ length (front ++ 10 ∷ []) = omega (arith, length-append front (10 ∷ [])) in
    let whole : reader.ahead ≡ (front ++ 10 ∷ []) ++ rest = cut ∙ sym (append_assoc front (10 ∷ []) rest) in
    let behind : drop (length front + 1) reader.ahead ≡ rest = (λ i. drop (long i) (whole i)) ∙ drop-append_seam (front ++ 10 ∷ []) rest in
    record {
      alone = inl none;
      within = omega (arith, ap length cut, length-append front (10 ∷ rest));
      clean = rw same clean;
      ends = inl (cut ∙ (λ i. sym same i ++ 10 ∷ sym behind i));
    }

-- so is one of which all is kept
pub feed_ready : (reader : LineState) (rest : List ℕ) → reader.ahead ≡ 10 ∷ rest → IsReady reader 0
feed_ready reader rest cut = record {
  alone = inr refl;
  within = omega arith;
  clean = All-nil (λ (b : ℕ). is_feed b ≡ false);
  ends = inl (cut ∙ ap (λ (xs : List ℕ). 10 ∷ xs) (sym (ap (drop 1) cut)));
}

-- the line that stands ahead alone
pub alone_line : (limit : ℕ) (kept : List ℕ) (over : Bool) (ahead seen : List ℕ) (len : ℕ) (line : LineText) → length kept ≡ 0 → seen ≡ take len ahead → line ≡ line_at limit seen
    → (part : List ℕ) → IsKept limit kept over part → line ≡ line_at limit (part ++ take len ahead)
alone_line limit kept over ahead seen len line none cut is part k =
    let nothing : part ≡ [] = kept_none limit kept part over k none in
    is ∙ ap (line_at limit) (cut ∙ ap (λ (xs : List ℕ). xs ++ take len ahead) (sym nothing))

-- as a reader finds it
pub feed_found : (reader : LineState) (rest : List ℕ) (len : ℕ) → reader.ahead ≡ 10 ∷ rest → Line 0 ≡ Line len → IsReady reader len
feed_found reader rest len cut e = let same : 0 ≡ len = cc in subst (λ n. IsReady reader n) same (feed_ready reader rest cut)

-- it takes something of what is kept or ahead
pub passed_less : (reader : LineState) (len : ℕ) → IsReady reader len
    → length (passed reader len).kept + length (passed reader len).ahead < length reader.kept + length reader.ahead
passed_less reader len ready =
    elim ready.ends [
      | inl feed ↦ omega (arith, ap length feed, length-append (take len reader.ahead) (10 ∷ drop (len + 1) reader.ahead))
      | inr last ↦ omega (arith, ap length last.0, length-drop (len + 1) reader.ahead, last.2)
    ]

-- the same, as the reader's fields stand
module _ (limit : ℕ) (kept kept' : List ℕ) (over over' : Bool) (ahead seen ahead' : List ℕ) (seen_is : seen ≡ ahead) (nothing : ahead' ≡ []) (clean : IsClean seen)
    (keeps : (part : List ℕ) → IsKept limit kept over part → IsKept limit kept' over' (part ++ seen)) where
  pub wanting : (finished : Bool) (pushed : List ℕ) (count : ℕ) → finished ≡ false
      → FollowsLines record { limit = limit; kept = kept; over = over; ahead = ahead; finished = finished } pushed count
      → (finished ≡ false) × (length (known_lines limit finished pushed) ≡ count) × FollowsLines record { limit = limit; kept = kept'; over = over'; ahead = ahead'; finished = finished } pushed count
  wanting true pushed count is_open f = let bad : true ≡ false = is_open in cc
  wanting false pushed count is_open f =
      let g = none_next limit kept kept' over over' ahead pushed count (rw (← seen_is) clean) (rw (← seen_is) keeps) f in
      (refl, g.0, rw nothing g.1)

  pub at_end : (finished : Bool) (pushed : List ℕ) (count : ℕ) → finished ≡ true → length kept' ≡ 0
      → FollowsLines record { limit = limit; kept = kept; over = over; ahead = ahead; finished = finished } pushed count
      → (finished ≡ true) × (length (known_lines limit finished pushed) ≡ count) × FollowsLines record { limit = limit; kept = kept'; over = over'; ahead = ahead'; finished = finished } pushed count
  at_end false pushed count closed none f = let bad : false ≡ true = closed in cc
  at_end true pushed count closed none f =
      let g = end_next limit kept kept' over over' ahead pushed count (rw (← seen_is) clean) (rw (← seen_is) keeps) none f in
      (refl, g.0, rw nothing g.1)

pub pushed_piece : (limit : ℕ) (kept : List ℕ) (over : Bool) (ahead ahead' piece : List ℕ) (finished : Bool) → finished ≡ false → ahead' ≡ ahead ++ piece → (pushed : List ℕ) (count : ℕ)
    → FollowsLines record { limit = limit; kept = kept; over = over; ahead = ahead; finished = finished } pushed count
    → FollowsLines record { limit = limit; kept = kept; over = over; ahead = ahead'; finished = finished } (pushed ++ piece) count
pushed_piece limit kept over ahead ahead' piece true is_open e pushed count f = let bad : true ≡ false = is_open in cc
pushed_piece limit kept over ahead ahead' piece false is_open e pushed count f = rw e (pushed_more limit kept over ahead piece pushed count f)
