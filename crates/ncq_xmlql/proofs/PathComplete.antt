-- What is spelled as a path is read, where no token behind it goes on with it.
use Rattle.std.proofs.Common.{◌≡◌, ℕ, zero, suc, ◌≤◌, ◌<◌, Bool, true, false, List, ◌∷◌, length, Some, refl, arith}
use Rattle.ncq_path.specs.declared.path.Path.{Path}
use Rattle.ncq_path.specs.declared.path.Path.TheVariants as path
use Rattle.ncq_token.specs.declared.token.Token.{Token}
use Rattle.ncq_token.specs.declared.token.Token.TheVariants.{Name, Dot, Bar, Open, Shut}
use Rattle.ncq_token.specs.declared.token.Token.TheVariants as token
use Rattle.ncq_xmlql.specs.Reading.{Read, many_in}
use Rattle.ncq_xmlql.specs.PathValues.{seq_of, alt_of}
use Rattle.ncq_xmlql.specs.PathReading.{starts_dot, starts_bar, dotted_at, barred_at, item_of, repeated, step_of, steps_of, sequence_of, alternatives_of, path_of, path_at}
use Rattle.ncq_xmlql.specs.PathGrammar.{IsPath, AreAlternatives, IsSeq, AreSteps, IsStep, IsItem}
use Rattle.ncq_xmlql.proofs.Loops.{last_turn, next_turn}
use Rattle.ncq_xmlql.proofs.PathSound.{step_sound, sequence_sound, path_sound}

-- ---- how much is left

mutual
  pub path_shorter : {a b : List Token} {p : Path} → IsPath a p b → length b < length a
  path_shorter (IsPath.any first more) = omega (arith, seq_shorter first, alternatives_within more)

  pub alternatives_within : {a b : List Token} {ps : List Path} → AreAlternatives a ps b → length b ≤ length a
  alternatives_within AreAlternatives.no_alternative = omega arith
  alternatives_within (AreAlternatives.alternative first more) = omega (arith, seq_shorter first, alternatives_within more)

  pub seq_shorter : {a b : List Token} {p : Path} → IsSeq a p b → length b < length a
  seq_shorter (IsSeq.each first more) = omega (arith, step_shorter first, steps_within more)

  pub steps_within : {a b : List Token} {ps : List Path} → AreSteps a ps b → length b ≤ length a
  steps_within AreSteps.no_step = omega arith
  steps_within (AreSteps.next_step first more) = omega (arith, step_shorter first, steps_within more)

  pub step_shorter : {a b : List Token} {p : Path} → IsStep a p b → length b < length a
  step_shorter (IsStep.once item) = item_shorter item
  step_shorter (IsStep.star item) = omega (arith, item_shorter item)
  step_shorter (IsStep.plus item) = omega (arith, item_shorter item)

  pub item_shorter : {a b : List Token} {p : Path} → IsItem a p b → length b < length a
  item_shorter IsItem.name = omega arith
  item_shorter (IsItem.group inner) = omega (arith, path_shorter inner)

-- ---- the next token

-- a star or plus stands in front
abbrev pub repeats : List Token → Bool
repeats (token.Star ∷ rest) = true
repeats (token.Plus ∷ rest) = true
repeats tokens = false

-- no token in front goes on with a step, a sequence or a path
pub record Ends (tokens : List Token) : Type 0 where
  pub repeats_not : repeats tokens ≡ false
  pub dot_not : starts_dot tokens ≡ false
  pub bar_not : starts_bar tokens ≡ false

steps_start : {a b : List Token} {ps : List Path} → AreSteps a ps b → repeats b ≡ false → repeats a ≡ false
steps_start AreSteps.no_step e = e
steps_start (AreSteps.next_step first more) e = refl

alternatives_repeat : {a b : List Token} {ps : List Path} → AreAlternatives a ps b → repeats b ≡ false → repeats a ≡ false
alternatives_repeat AreAlternatives.no_alternative e = e
alternatives_repeat (AreAlternatives.alternative first more) e = refl

alternatives_dot : {a b : List Token} {ps : List Path} → AreAlternatives a ps b → starts_dot b ≡ false → starts_dot a ≡ false
alternatives_dot AreAlternatives.no_alternative e = e
alternatives_dot (AreAlternatives.alternative first more) e = refl

pub shut_ends : (rest : List Token) → Ends (Shut ∷ rest)
shut_ends rest = record { repeats_not = refl; dot_not = refl; bar_not = refl }

-- ---- the parts

repeated_once : (p : Path) (tokens : List Token) → repeats tokens ≡ false → repeated p tokens ≡ (p, tokens)
repeated_once p (token.Star ∷ rest) e = absurd cc
repeated_once p (token.Plus ∷ rest) e = absurd cc
repeated_once p tokens e = refl

module _ (group : List Token → Read Path) where
  group_at : (a b : List Token) (p : Path) → group a ≡ Some (p, Shut ∷ b) → item_of group (Open ∷ a) ≡ Some (p, b)
  unfolding item_of
  group_at a b p e = rw e refl

  name_at : (n : List ℕ) (a : List Token) → item_of group (Name n ∷ a) ≡ Some (path.Tag n, a)
  unfolding item_of
  name_at n a = refl

  step_at : (a b c : List Token) (p q : Path) → item_of group a ≡ Some (p, b) → repeated p b ≡ (q, c) → step_of group a ≡ Some (q, c)
  unfolding step_of
  step_at a b c p q e f = rw (e, f) refl

  sequence_at : (a b c : List Token) (p : Path) (ps : List Path) → step_of group a ≡ Some (p, b) → steps_of group b ≡ Some (ps, c)
      → sequence_of group a ≡ Some (seq_of (p ∷ ps), c)
  unfolding sequence_of
  sequence_at a b c p ps e f = rw (e, f) refl

  any_at : (a b c : List Token) (p : Path) (ps : List Path) → sequence_of group a ≡ Some (p, b) → alternatives_of group b ≡ Some (ps, c)
      → path_of group a ≡ Some (alt_of (p ∷ ps), c)
  unfolding path_of
  any_at a b c p ps e f = rw (e, f) refl

deeper : (depth : ℕ) (a b : List Token) (p : Path) → path_of (path_at depth) a ≡ Some (p, b) → path_at (suc depth) a ≡ Some (p, b)
unfolding path_at
deeper depth a b p e = e

mutual
  -- a path is read by one more than the depth of what is between its brackets
  pub of_complete : {a b : List Token} {p : Path} → IsPath a p b → Ends b → (depth : ℕ) → length a ≤ suc depth → path_of (path_at depth) a ≡ Some (p, b)
  of_complete {a = a} {b = b} (IsPath.any {first = first} {more = ps} {b = m} one more) e depth room =
      any_at (path_at depth) a m b first ps
      (sequence_complete one (alternatives_repeat more e.repeats_not) (alternatives_dot more e.dot_not) depth room)
      (alternatives_complete more e depth (omega (arith, seq_shorter one)) (length m) (omega arith))

  alternatives_complete : {a b : List Token} {ps : List Path} → AreAlternatives a ps b → Ends b → (depth : ℕ) → length a ≤ suc depth → (turns : ℕ) → length a ≤ turns
      → many_in starts_bar (barred_at (sequence_of (path_at depth))) turns a ≡ Some (ps, b)
  alternatives_complete {a = a} AreAlternatives.no_alternative e depth room turns enough = last_turn starts_bar (barred_at (sequence_of (path_at depth))) turns a e.bar_not
  alternatives_complete (AreAlternatives.alternative one more) e depth room zero enough = absurd (omega arith)
  alternatives_complete (AreAlternatives.alternative {first = p} {more = ps} {a = a} {b = b} {c = c} one more) e depth room (suc turns) enough =
      next_turn starts_bar (barred_at (sequence_of (path_at depth))) turns (Bar ∷ a) b c p ps refl
      (sequence_complete one (alternatives_repeat more e.repeats_not) (alternatives_dot more e.dot_not) depth (omega arith))
      (alternatives_complete more e depth (omega (arith, seq_shorter one)) turns (omega (arith, seq_shorter one)))

  sequence_complete : {a b : List Token} {p : Path} → IsSeq a p b → repeats b ≡ false → starts_dot b ≡ false → (depth : ℕ) → length a ≤ suc depth
      → sequence_of (path_at depth) a ≡ Some (p, b)
  sequence_complete {a = a} {b = b} (IsSeq.each {first = first} {more = ps} {b = m} one more) r d depth room =
      sequence_at (path_at depth) a m b first ps
      (step_complete one (steps_start more r) depth room)
      (steps_complete more r d depth (omega (arith, step_shorter one)) (length m) (omega arith))

  steps_complete : {a b : List Token} {ps : List Path} → AreSteps a ps b → repeats b ≡ false → starts_dot b ≡ false → (depth : ℕ) → length a ≤ suc depth → (turns : ℕ) → length a ≤ turns
      → many_in starts_dot (dotted_at (step_of (path_at depth))) turns a ≡ Some (ps, b)
  steps_complete {a = a} AreSteps.no_step r d depth room turns enough = last_turn starts_dot (dotted_at (step_of (path_at depth))) turns a d
  steps_complete (AreSteps.next_step one more) r d depth room zero enough = absurd (omega arith)
  steps_complete (AreSteps.next_step {first = p} {more = ps} {a = a} {b = b} {c = c} one more) r d depth room (suc turns) enough =
      next_turn starts_dot (dotted_at (step_of (path_at depth))) turns (Dot ∷ a) b c p ps refl
      (step_complete one (steps_start more r) depth (omega arith))
      (steps_complete more r d depth (omega (arith, step_shorter one)) turns (omega (arith, step_shorter one)))

  step_complete : {a b : List Token} {p : Path} → IsStep a p b → repeats b ≡ false → (depth : ℕ) → length a ≤ suc depth → step_of (path_at depth) a ≡ Some (p, b)
  step_complete {a = a} {b = b} (IsStep.once {p = p} item) e depth room = step_at (path_at depth) a b b p p (item_complete item depth room) (repeated_once p b e)
  step_complete {a = a} {b = b} (IsStep.star {p = p} item) e depth room = step_at (path_at depth) a (token.Star ∷ b) b p (path.Star p) (item_complete item depth room) refl
  step_complete {a = a} {b = b} (IsStep.plus {p = p} item) e depth room = step_at (path_at depth) a (token.Plus ∷ b) b p (path.Plus p) (item_complete item depth room) refl

  item_complete : {a b : List Token} {p : Path} → IsItem a p b → (depth : ℕ) → length a ≤ suc depth → item_of (path_at depth) a ≡ Some (p, b)
  item_complete {b = b} (IsItem.name {n = n}) depth room = name_at (path_at depth) n b
  item_complete (IsItem.group inner) zero room = absurd (omega (arith, path_shorter inner))
  item_complete {b = b} (IsItem.group {p = p} {a = a} inner) (suc depth) room =
      group_at (path_at (suc depth)) a b p (deeper depth a (Shut ∷ b) p (of_complete inner (shut_ends b) depth (omega arith)))

-- what is spelled so is read
pub path_complete : {a b : List Token} {p : Path} → IsPath a p b → Ends b → (depth : ℕ) → length a ≤ depth → path_at depth a ≡ Some (p, b)
path_complete h e zero room = absurd (omega (arith, path_shorter h))
path_complete {a = a} {b = b} {p = p} h e (suc depth) room = deeper depth a b p (of_complete h e depth room)

some_value : (x y : Path × List Token) (m : Read Path) → m ≡ Some x → m ≡ Some y → x.0 ≡ y.0
some_value x y m e f = cc

-- the tokens in front of others spell one path at most
pub one_path : {a b : List Token} {p q : Path} → Ends b → IsPath a p b → IsPath a q b → p ≡ q
one_path {a = a} {b = b} {p = p} {q = q} e h k =
    some_value (p, b) (q, b) (path_at (length a) a) (path_complete h e (length a) (omega arith)) (path_complete k e (length a) (omega arith))

-- what is read behind a mark is shorter than the whole
pub dotted_shorter : (depth : ℕ) (tokens : List Token) (x : Path × List Token) → dotted_at (step_of (path_at depth)) tokens ≡ Some x → length x.1 < length tokens
dotted_shorter depth (Dot ∷ rest) x e = omega (arith, step_shorter (step_sound (path_at depth) (path_sound depth) rest x e))
dotted_shorter depth tokens x e = absurd cc

pub barred_shorter : (depth : ℕ) (tokens : List Token) (x : Path × List Token) → barred_at (sequence_of (path_at depth)) tokens ≡ Some x → length x.1 < length tokens
barred_shorter depth (Bar ∷ rest) x e = omega (arith, seq_shorter (sequence_sound (path_at depth) (path_sound depth) rest x e))
barred_shorter depth tokens x e = absurd cc
