-- What is read as a path is spelled so.
use Rattle.std.proofs.Common.{◌≡◌, ℕ, zero, suc, true, List, ◌∷◌, length, Some, ap, subst}
use Rattle.ncq_path.specs.declared.path.Path.{Path}
use Rattle.ncq_path.specs.declared.path.Path.TheVariants as path
use Rattle.ncq_token.specs.declared.token.Token.{Token}
use Rattle.ncq_token.specs.declared.token.Token.TheVariants.{Name, Dot, Bar, Open, Shut}
use Rattle.ncq_token.specs.declared.token.Token.TheVariants as token
use Rattle.ncq_xmlql.specs.Reading.{Read, ◌>>=◌}
use Rattle.ncq_xmlql.specs.PathValues.{seq_of, alt_of}
use Rattle.ncq_xmlql.specs.PathReading.{starts_dot, starts_bar, dotted_at, barred_at, shut_at, item_of, repeated, step_of, steps_of, sequence_of, alternatives_of, path_of, path_at}
use Rattle.ncq_xmlql.specs.PathGrammar.{IsPath, AreAlternatives, IsSeq, AreSteps, IsStep, IsItem}
use Rattle.ncq_xmlql.proofs.Sound.{bind_some, some_is, at_value}
use Rattle.ncq_xmlql.proofs.Many.{many_spells}

shut_sound : (tokens rest : List Token) → shut_at tokens ≡ Some rest → tokens ≡ Shut ∷ rest
shut_sound (Shut ∷ after) rest e = ap (λ (ts : List Token). Shut ∷ ts) (some_is after rest e)
shut_sound tokens rest e = absurd cc

repeated_sound : (a : List Token) (p : Path) (tokens : List Token) → IsItem a p tokens → IsStep a (repeated p tokens).0 (repeated p tokens).1
repeated_sound a p (token.Star ∷ rest) h = IsStep.star h
repeated_sound a p (token.Plus ∷ rest) h = IsStep.plus h
repeated_sound a p tokens h = IsStep.once h

module _ (group : List Token → Read Path) (sound : (tokens : List Token) (x : Path × List Token) → group tokens ≡ Some x → IsPath tokens x.0 x.1) where
  item_sound : (tokens : List Token) (x : Path × List Token) → item_of group tokens ≡ Some x → IsItem tokens x.0 x.1
  unfolding item_of
  item_sound ((Name n) ∷ rest) x e = at_value (λ (y : Path × List Token). IsItem (Name n ∷ rest) y.0 y.1) (path.Tag n, rest) x e IsItem.name
  item_sound (Open ∷ rest) x e =
      let a = bind_some (group rest) (λ p. shut_at p.1 >>= λ after. Some (p.0, after)) x e in
      let b = bind_some (shut_at a.0.1) (λ after. Some (a.0.0, after)) x a.2 in
      at_value (λ (y : Path × List Token). IsItem (Open ∷ rest) y.0 y.1) (a.0.0, b.0) x b.2
      (IsItem.group (subst (λ (ts : List Token). IsPath rest a.0.0 ts) (shut_sound a.0.1 b.0 b.1) (sound rest a.0 a.1)))
  item_sound tokens x e = absurd cc

  pub step_sound : (tokens : List Token) (x : Path × List Token) → step_of group tokens ≡ Some x → IsStep tokens x.0 x.1
  unfolding step_of
  step_sound tokens x e =
      let a = bind_some (item_of group tokens) (λ item. Some (repeated item.0 item.1)) x e in
      at_value (λ (y : Path × List Token). IsStep tokens y.0 y.1) (repeated a.0.0 a.0.1) x a.2 (repeated_sound tokens a.0.0 a.0.1 (item_sound tokens a.0 a.1))

  next_dotted : (tokens : List Token) (x : Path × List Token) (xs : List Path) (c : List Token) → starts_dot tokens ≡ true
      → dotted_at (step_of group) tokens ≡ Some x → AreSteps x.1 xs c → AreSteps tokens (x.0 ∷ xs) c
  next_dotted (Dot ∷ rest) x xs c s e more = AreSteps.next_step (step_sound rest x e) more
  next_dotted tokens x xs c s e more = absurd cc

  steps_sound : (tokens : List Token) (x : List Path × List Token) → steps_of group tokens ≡ Some x → AreSteps tokens x.0 x.1
  steps_sound tokens x e = many_spells starts_dot (dotted_at (step_of group)) AreSteps (λ a. AreSteps.no_step) next_dotted (length tokens) tokens x e

  pub sequence_sound : (tokens : List Token) (x : Path × List Token) → sequence_of group tokens ≡ Some x → IsSeq tokens x.0 x.1
  unfolding sequence_of
  sequence_sound tokens x e =
      let a = bind_some (step_of group tokens) (λ first. steps_of group first.1 >>= λ more. Some (seq_of (first.0 ∷ more.0), more.1)) x e in
      let b = bind_some (steps_of group a.0.1) (λ more. Some (seq_of (a.0.0 ∷ more.0), more.1)) x a.2 in
      at_value (λ (y : Path × List Token). IsSeq tokens y.0 y.1) (seq_of (a.0.0 ∷ b.0.0), b.0.1) x b.2 (IsSeq.each (step_sound tokens a.0 a.1) (steps_sound a.0.1 b.0 b.1))

  next_barred : (tokens : List Token) (x : Path × List Token) (xs : List Path) (c : List Token) → starts_bar tokens ≡ true
      → barred_at (sequence_of group) tokens ≡ Some x → AreAlternatives x.1 xs c → AreAlternatives tokens (x.0 ∷ xs) c
  next_barred (Bar ∷ rest) x xs c s e more = AreAlternatives.alternative (sequence_sound rest x e) more
  next_barred tokens x xs c s e more = absurd cc

  alternatives_sound : (tokens : List Token) (x : List Path × List Token) → alternatives_of group tokens ≡ Some x → AreAlternatives tokens x.0 x.1
  alternatives_sound tokens x e = many_spells starts_bar (barred_at (sequence_of group)) AreAlternatives (λ a. AreAlternatives.no_alternative) next_barred (length tokens) tokens x e

  of_sound : (tokens : List Token) (x : Path × List Token) → path_of group tokens ≡ Some x → IsPath tokens x.0 x.1
  unfolding path_of
  of_sound tokens x e =
      let a = bind_some (sequence_of group tokens) (λ first. alternatives_of group first.1 >>= λ more. Some (alt_of (first.0 ∷ more.0), more.1)) x e in
      let b = bind_some (alternatives_of group a.0.1) (λ more. Some (alt_of (a.0.0 ∷ more.0), more.1)) x a.2 in
      at_value (λ (y : Path × List Token). IsPath tokens y.0 y.1) (alt_of (a.0.0 ∷ b.0.0), b.0.1) x b.2 (IsPath.any (sequence_sound tokens a.0 a.1) (alternatives_sound a.0.1 b.0 b.1))

-- what is read is spelled so, and the tokens behind it stand behind it
pub path_sound : (depth : ℕ) (tokens : List Token) (x : Path × List Token) → path_at depth tokens ≡ Some x → IsPath tokens x.0 x.1
unfolding path_at
path_sound zero tokens x e = absurd cc
path_sound (suc depth) tokens x e = of_sound (path_at depth) (path_sound depth) tokens x e
