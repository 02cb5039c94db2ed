-- What the engine stands for behind each kind of command: what all kinds share.
use Rattle.std.proofs.Common.{◌≡◌, ℕ, ◌+◌, ◌≤◌, Bool, true, false, ◌||◌, cond, List, [], ◌∷◌, ◌++◌, length, refl, sym, ◌∙◌, ap, subst, true≢false, arith, append_assoc, length-append}
use Rattle.std.specs.Prelude.{Some, None, Result, Ok, Err}
use Rattle.std.specs.Io.{StartsWith}
use Rattle.std.specs.List.{filter, flat_map, list_any}
use Rattle.std.proofs.lemmas.List.{append-nil}
use Rattle.ncq_cache.specs.Cached.{Cached}
use Rattle.ncq_callback.specs.Labels.{Handed}
use Rattle.ncq_distinct.specs.DistinctTables.{DistinctTable, HaveSameCounts}
use Rattle.ncq_event.specs.Orders.{ordered_by}
use Rattle.ncq_script.specs.declared.command.Command.{Command}
use Rattle.ncq_script.specs.declared.refusal.Refusal.{Refusal}
use Rattle.ncq_engine.specs.declared.telling.Answered.{Answered}
use Rattle.ncq_engine.specs.declared.engine.ApplyError.{ApplyError}
use Rattle.ncq_engine.specs.declared.engine.ApplyError.TheVariants.{Refused, OutOfMemory}
use Rattle.ncq_book.specs.declared.subscription.Subscription.{Subscription as Kept}
use Rattle.ncq_engine.specs.Applies.{Applies, GivesUp, ok_text}
use Rattle.ncq_engine.specs.Engines.{Pairwise}
use Rattle.ncq_engine.specs.Firing.{fires}
use Rattle.ncq_engine.specs.History.{History, Subscription, live, moved, now}
use Rattle.ncq_engine.proofs.HistoryLaws.{Installed, installed, installed_more}
use Rattle.ncq_engine.specs.Marks.{IsRising}
use Rattle.ncq_engine.specs.Languages.{language_of}
use Rattle.ncq_engine.specs.Notices.{fired_at, firings_in_order}
use Rattle.ncq_engine.specs.Output.{closing_text, first_refusal, notices}
use Rattle.ncq_engine.specs.declared.span.Span.{Span}
use Rattle.ncq_engine.specs.Spans.{spans}
use Rattle.ncq_engine.specs.Stands.{EngineState, Follows, Keeps}
use Rattle.ncq_engine.proofs.Keeping.{keeps_quiet}
use Rattle.ncq_engine.proofs.KeptCounts.{counted_same}

-- a command that leaves the clock leaves it rising
pub rises_quietly : (h : History) (command : Command) → moved command (now h) ≡ now h → IsRising h → IsRising (command ∷ h)
rises_quietly h command same rising = ((let l : now h ≤ moved command (now h) = omega (arith, same) in l), rising)

-- how many commands were answered, and where the notices of the last one stand, is no matter
pub follows_still : (e : EngineState) (count : ℕ) (places : List Span) (h : History) → Follows e h → Follows (record e { count = count; spans = places }) h
follows_still e count places h s = record { sources = s.sources; last = s.last; changes = s.changes; clock = s.clock; creates = s.creates; subscriptions = s.subscriptions; contents = s.contents; counted = s.counted; rising = s.rising }

-- nor is what it keeps of what was told
pub follows_cached : (e : EngineState) (cache : List Cached) (h : History) → Follows e h → Follows (record e { cache = cache }) h
follows_cached e cache h s = record { sources = s.sources; last = s.last; changes = s.changes; clock = s.clock; creates = s.creates; subscriptions = s.subscriptions; contents = s.contents; counted = s.counted; rising = s.rising }

-- nor what waits beside the counts of those with DISTINCT
pub follows_counts : (e : EngineState) (distinct : DistinctTable) (h : History) → HaveSameCounts e.distinct distinct → Follows e h → Follows (record e { distinct = distinct }) h
follows_counts e distinct h same s = record {
  sources = s.sources;
  last = s.last;
  changes = s.changes;
  clock = s.clock;
  creates = s.creates;
  subscriptions = s.subscriptions;
  contents = s.contents;
  counted = counted_same e.handed.relations h e.distinct distinct same (live h) s.counted;
  rising = s.rising;
}

-- so an answer does to an engine that keeps more or less of what was told what it does to the engine
pub applies_cached : (old : EngineState) (command : Command) (out : List ℕ) (result : Result Answered ApplyError) (new : EngineState) (out' : List ℕ) (cache : List Cached)
    → Applies old command out result new out' → Applies old command out result (record new { cache = cache }) out'
applies_cached old command out (Ok answered) new out' cache a = record {
  accepted = a.accepted;
  follows = λ h s. follows_cached new cache (command ∷ h) (a.follows h s);
  answer = a.answer;
  counted = a.counted;
  handed = a.handed;
  places = a.places;
}
applies_cached old command out (Err (Refused why)) new out' cache a = record {
  refused = a.refused;
  follows = λ h s. follows_cached new cache h (a.follows h s);
  counted = a.counted;
  handed = a.handed;
  unwritten = a.unwritten;
}
applies_cached old command out (Err OutOfMemory) new out' cache a = record {
  follows = λ h s. follows_cached new cache h (a.follows h s);
  uncounted = a.uncounted;
  handed = a.handed;
  front = a.front;
}

-- and to one beside whose counts other changes wait
pub applies_counts : (old : EngineState) (command : Command) (out : List ℕ) (result : Result Answered ApplyError) (new : EngineState) (out' : List ℕ) (distinct : DistinctTable) → HaveSameCounts new.distinct distinct
    → Applies old command out result new out' → Applies old command out result (record new { distinct = distinct }) out'
applies_counts old command out (Ok answered) new out' distinct same a = record {
  accepted = a.accepted;
  follows = λ h s. follows_counts new distinct (command ∷ h) same (a.follows h s);
  answer = a.answer;
  counted = a.counted;
  handed = a.handed;
  places = a.places;
}
applies_counts old command out (Err (Refused why)) new out' distinct same a = record {
  refused = a.refused;
  follows = λ h s. follows_counts new distinct h same (a.follows h s);
  counted = a.counted;
  handed = a.handed;
  unwritten = a.unwritten;
}
applies_counts old command out (Err OutOfMemory) new out' distinct same a = record {
  follows = λ h s. follows_counts new distinct h same (a.follows h s);
  uncounted = a.uncounted;
  handed = a.handed;
  front = a.front;
}

-- a command that is refused leaves all as it was, but for the number of commands
pub refuses : (old : EngineState) (command : Command) (why : Refusal) (out : List ℕ) (result : Result Answered ApplyError) (new : EngineState) (out' : List ℕ)
    → result ≡ Err (Refused why) → new ≡ record old { count = old.count + 1 } → out' ≡ out
    → ((h : History) → Follows old h → first_refusal (language_of old.handed) h command ≡ Some why) → Applies old command out result new out'
refuses old command why out result new out' is same untouched because =
    subst (λ (r : Result Answered ApplyError). Applies old command out r new out') (sym is)
    (subst (λ (n : EngineState). Applies old command out (Err (Refused why)) n out') (sym same) (record {
      refused = because;
      follows = λ h s. follows_still old (old.count + 1) old.spans h s;
      counted = refl;
      handed = refl;
      unwritten = untouched;
    }))

-- what is appended behind the first line, and what it stands for
pub record Tells (old : EngineState) (command : Command) (new : EngineState) (text : List ℕ) (from : ℕ) (places : List Span) (rest : List ℕ) : Type 0 where
  pub accepted : (h : History) → Follows old h → first_refusal (language_of old.handed) h command ≡ None
  pub follows : (h : History) → Follows old h → Follows new (command ∷ h)
  pub tells : (h : History) → Follows old h → text ≡ notices (language_of old.handed) h command
  pub stand : (h : History) → Follows old h → places ≡ spans (language_of old.handed) h command from
  pub ends : (h : History) → Follows old h → rest ≡ closing_text (language_of old.handed) command h
  pub counted : new.count ≡ old.count + 1
  pub named : new.handed ≡ old.handed

-- a command that is accepted
pub accepts : (old : EngineState) (command : Command) (out : List ℕ) (applied : Answered) (new : EngineState) (out' text rest : List ℕ)
    → Tells old command new text applied.from applied.spans rest
    → out' ≡ (out ++ ok_text (old.count + 1)) ++ (text ++ rest) → applied.from ≡ length (out ++ ok_text (old.count + 1)) → applied.to ≡ length ((out ++ ok_text (old.count + 1)) ++ text)
    → Applies old command out (Ok applied) new out'
accepts old command out applied new out' text rest t e from to =
    let line = ok_text (old.count + 1) in record {
      accepted = t.accepted;
      follows = t.follows;
      answer = λ h s. e ∙ append_assoc out line (text ++ rest)
          ∙ ap (λ x. out ++ x) (sym (append_assoc line text rest))
          ∙ (λ i. out ++ ((line ++ t.tells h s i) ++ t.ends h s i));
      counted = t.counted;
      handed = t.named;
      places = λ h s. record {
        between = record {
          begins = from ∙ length-append out line;
          ends = to ∙ length-append (out ++ line) text ∙ (λ i. sym from i + length (t.tells h s i));
        };
        spans = t.stand h s;
      };
    }

-- a command that is given up leaves all as it was, with what was written in front
pub gives_up : (old : EngineState) (command : Command) (out : List ℕ) (result : Result Answered ApplyError) (new : EngineState) (out' : List ℕ)
    → result ≡ Err OutOfMemory → new ≡ old → StartsWith out' out → Applies old command out result new out'
gives_up old command out result new out' is same front =
    subst (λ (r : Result Answered ApplyError). Applies old command out r new out') (sym is)
    (subst (λ (n : EngineState). GivesUp old out n out') (sym same) (record { follows = λ h s. s; uncounted = refl; handed = refl; front = front }))

-- a command that tells nobody
pub accepts_quietly : (old : EngineState) (command : Command) (out : List ℕ) (applied : Answered) (new : EngineState) (out' : List ℕ)
    → Tells old command new [] (length out') [] [] → out' ≡ out ++ ok_text (old.count + 1) → applied ≡ record { from = length out'; to = length out'; spans = [] }
    → Applies old command out (Ok applied) new out'
accepts_quietly old command out applied new out' t text places =
    let line = ok_text (old.count + 1) in
    accepts old command out applied new out' [] []
    (record {
      accepted = t.accepted;
      follows = t.follows;
      tells = t.tells;
      stand = λ h s. ap (λ (a : Answered). a.spans) places ∙ t.stand h s ∙ ap (spans (language_of old.handed) h command) (sym (ap (λ (a : Answered). a.from) places));
      ends = t.ends;
      counted = t.counted;
      named = t.named;
    })
    (text ∙ sym (append-nil (out ++ line)))
    (ap (λ (a : Answered). a.from) places ∙ ap length text)
    (ap (λ (a : Answered). a.to) places ∙ ap length (text ∙ sym (append-nil (out ++ line))))

-- nobody fires
nobody : (h : History) (command : Command) → ((s : Subscription) → fires s h command ≡ None) → (subs : List Subscription) → flat_map (λ s. fired_at s (fires s h command)) subs ≡ []
nobody h command quiet [] = refl
nobody h command quiet (s ∷ subs) = (λ i. fired_at s (quiet s i) ++ nobody h command quiet subs i)

pub told_nobody : (h : History) (command : Command) → ((s : Subscription) → fires s h command ≡ None) → firings_in_order h command ≡ []
told_nobody h command quiet = ap (ordered_by (λ f. f.0)) (nobody h command quiet _)

module _ (handed : Handed) (h : History) (command : Command) (quiet : (s : Subscription) → fires s h command ≡ None) where
  keep_each : (subs : List Subscription) (ms : List Kept) → Installed (command ∷ h) subs → Pairwise (Keeps handed h) subs ms → Pairwise (Keeps handed (command ∷ h)) subs ms
  keep_each [] [] i p = tt
  keep_each [] (m ∷ ms) i p = absurd p
  keep_each (s ∷ subs) [] i p = absurd p
  keep_each (s ∷ subs) (m ∷ ms) i p = (keeps_quiet handed h command s m i.0 p.0 (quiet s), keep_each subs ms i.1 p.1)

  pub keep_quiet : (ms : List Kept) → Pairwise (Keeps handed h) (live h) ms → Pairwise (Keeps handed (command ∷ h)) (live h) ms
  keep_quiet ms = keep_each (live h) ms (installed_more command h (live h) (installed h))

-- what tests alike is kept alike
module _ {A B : Type 0} (R : A → B → Type 0) (f : A → Bool) (g : B → Bool) (alike : (x : A) (y : B) → R x y → f x ≡ g y) where
  pub pairwise_filter : (xs : List A) (ys : List B) → Pairwise R xs ys → Pairwise R (filter f xs) (filter g ys)
  pairwise_filter [] [] p = tt
  pairwise_filter [] (y ∷ ys) p = absurd p
  pairwise_filter (x ∷ xs) [] p = absurd p
  pairwise_filter (x ∷ xs) (y ∷ ys) p =
      let rest = pairwise_filter xs ys p.1 in
      by (f x) (g y) (alike x y p.0) rest
    where
      by : (a b : Bool) → a ≡ b → Pairwise R (filter f xs) (filter g ys) → Pairwise R (cond a (x ∷ filter f xs) (filter f xs)) (cond b (y ∷ filter g ys) (filter g ys))
      by true true e rest = (p.0, rest)
      by false false e rest = rest
      by true false e rest = absurd (true≢false e)
      by false true e rest = absurd (true≢false (sym e))

  pub pairwise_any : (xs : List A) (ys : List B) → Pairwise R xs ys → list_any f xs ≡ list_any g ys
  pairwise_any [] [] p = refl
  pairwise_any [] (y ∷ ys) p = absurd p
  pairwise_any (x ∷ xs) [] p = absurd p
  pairwise_any (x ∷ xs) (y ∷ ys) p = (λ i. alike x y p.0 i || pairwise_any xs ys p.1 i)

  pub pairwise_texts : (tf : A → List ℕ) (tg : B → List ℕ) → ((x : A) (y : B) → R x y → tf x ≡ tg y) → (xs : List A) (ys : List B) → Pairwise R xs ys → flat_map tf (filter f xs) ≡ flat_map tg (filter g ys)
  pairwise_texts tf tg same [] [] p = refl
  pairwise_texts tf tg same [] (y ∷ ys) p = absurd p
  pairwise_texts tf tg same (x ∷ xs) [] p = absurd p
  pairwise_texts tf tg same (x ∷ xs) (y ∷ ys) p =
      let rest = pairwise_texts tf tg same xs ys p.1 in
      by (f x) (g y) (alike x y p.0) rest
    where
      by : (a b : Bool) → a ≡ b → flat_map tf (filter f xs) ≡ flat_map tg (filter g ys) → flat_map tf (cond a (x ∷ filter f xs) (filter f xs)) ≡ flat_map tg (cond b (y ∷ filter g ys) (filter g ys))
      by true true e rest = λ i. same x y p.0 i ++ rest i
      by false false e rest = rest
      by true false e rest = absurd (true≢false e)
      by false true e rest = absurd (true≢false (sym e))
