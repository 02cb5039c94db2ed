-- Times: read one behind the other; what is read is spelled so, and what is spelled so is read.
use Rattle.std.proofs.Common.{◌≡◌, ℕ, ◌<◌, Bool, true, false, List, [], ◌∷◌, length, Option, Some, None, IsTrue, cond, refl, sym, ap, subst, ◌∙◌, arith, map}
use Rattle.std.specs.Prelude.{codes}
use Rattle.std.specs.Char.{to_ascii_lowercase}
use lib.Pointwise.{bytes_decides}
use Rattle.ncq_base.specs.Numbers.{read_u64}
use Rattle.ncq_token.specs.declared.token.Token.{Token}
use Rattle.ncq_token.specs.declared.token.Token.TheVariants.{TagStart, Word}
use Rattle.ncq_xmlql.specs.declared.mismatch.Mismatch.{Mismatch}
use Rattle.ncq_xmlql.specs.declared.mismatch.Mismatch.TheVariants.{OutOfMemory, NotSpelled}
use Rattle.ncq_xmlql.specs.declared.time.Times.{Times}
use Rattle.ncq_xmlql.specs.Reading.{Read, ◌>>=◌, Fails, checked, is_same, is_keyword}
use Rattle.ncq_xmlql.specs.Times.{times, AreTimes, is_unset, with_start, with_every, with_expire, with_time, time_at, times_from}
use Rattle.ncq_xmlql.proofs.Sound.{bind_some, some_is}

-- ---- one behind the other

-- what is read, with the tokens behind it
abbrev with_rest : {A : Type 0} → List Token → A → Read A
with_rest rest x = Some (x, rest)

-- the times that the tokens behind write as well
abbrev all_of : Times × List Token → Option Times
all_of x = times_from x.0 x.1

module _ (rest : List Token) where
  then : (p : Option Times) → (p >>= λ u. times_from u rest) ≡ ((p >>= λ u. with_rest rest u) >>= all_of)
  then None = refl
  then (Some u) = refl

  then_number : (o : Option ℕ) (f : ℕ → Option Times)
      → (o >>= λ n. f n >>= λ u. times_from u rest) ≡ (((o >>= λ n. with_rest rest n) >>= λ n. f n.0 >>= λ u. with_rest n.1 u) >>= all_of)
  then_number None f = refl
  then_number (Some n) f = then (f n)

turn : (t : Times) (token : Token) (rest : List Token) → times_from t (token ∷ rest) ≡ (time_at t (token ∷ rest) >>= all_of)
unfolding times_from
turn t (Word w) ((Word digits) ∷ rest) = then_number rest (read_u64 digits) (λ n. with_time w n t)
turn t (Word w) [] = refl
turn t (Word w) (TagStart ∷ rest) = refl
turn t (Word w) rest = refl
turn t TagStart rest = refl
turn t token rest = refl

pub times_go_on : (t : Times) (tokens : List Token) (u : Times) (next : List Token) (whole : Option Times) → 0 < length tokens → time_at t tokens ≡ Some (u, next)
    → times_from t tokens ≡ whole → times_from u next ≡ whole
times_go_on t [] u next whole some found so_far = absurd (omega (arith, some))
times_go_on t (token ∷ rest) u next whole some found so_far =
    sym (ap (λ (o : Read Times). o >>= all_of) found) ∙ sym (turn t token rest) ∙ so_far

pub times_fail : (m : Mismatch) (t : Times) (tokens : List Token) (whole : Option Times) → 0 < length tokens → Fails m (time_at t tokens) → times_from t tokens ≡ whole → Fails m whole
times_fail OutOfMemory t tokens whole some h so_far = tt
times_fail NotSpelled t [] whole some h so_far = absurd (omega (arith, some))
times_fail NotSpelled t (token ∷ rest) whole some h so_far = sym so_far ∙ turn t token rest ∙ ap (λ (o : Read Times). o >>= all_of) h

pub times_end : (t : Times) (tokens : List Token) (whole : Option Times) → length tokens ≡ 0 → times_from t tokens ≡ whole → whole ≡ Some t
unfolding times_from
times_end t [] whole e so_far = sym so_far
times_end t (token ∷ rest) whole e so_far = absurd (omega (arith, e))

-- ---- what is spelled so is read

-- a word that is one keyword is not another
pub other_keyword : (k j w : List ℕ) → IsTrue (is_keyword k w) → is_same (map to_ascii_lowercase k) (map to_ascii_lowercase j) ≡ false → is_keyword j w ≡ false
other_keyword k j w h differ =
    let e = (bytes_decides (map to_ascii_lowercase w) (map to_ascii_lowercase k)).0 h in
    ap (λ (x : List ℕ). is_same x (map to_ascii_lowercase j)) e ∙ differ

start_first : (w digits : List ℕ) (n : ℕ) (every expire : Option ℕ) (a : List Token) → is_keyword (codes "start") w ≡ true → read_u64 digits ≡ Some n
    → times_from (times None every expire) (Word w ∷ Word digits ∷ a) ≡ times_from (times (Some n) every expire) a
unfolding times_from
start_first w digits n every expire a h d = rw (d, h) refl

every_first : (w digits : List ℕ) (n : ℕ) (start expire : Option ℕ) (a : List Token) → is_keyword (codes "start") w ≡ false → is_keyword (codes "every") w ≡ true → read_u64 digits ≡ Some n
    → times_from (times start None expire) (Word w ∷ Word digits ∷ a) ≡ times_from (times start (Some n) expire) a
unfolding times_from
every_first w digits n start expire a no_start h d = rw (d, no_start, h) refl

expire_first : (w digits : List ℕ) (n : ℕ) (start every : Option ℕ) (a : List Token) → is_keyword (codes "start") w ≡ false → is_keyword (codes "every") w ≡ false → is_keyword (codes "expire") w ≡ true
    → read_u64 digits ≡ Some n → times_from (times start every None) (Word w ∷ Word digits ∷ a) ≡ times_from (times start every (Some n)) a
unfolding times_from
expire_first w digits n start every a no_start no_every h d = rw (d, no_start, no_every, h) refl

none_left : (t : Times) → times_from t [] ≡ Some t
unfolding times_from
none_left t = refl

pub times_complete : {t u : Times} {a : List Token} → AreTimes t a u → times_from t a ≡ Some u
times_complete {t = t} AreTimes.no_time = none_left t
times_complete (AreTimes.start {w = w} {digits = digits} {n = n} {every = every} {expire = expire} {a = a} h d more) =
    start_first w digits n every expire a h d ∙ times_complete more
times_complete (AreTimes.every {w = w} {digits = digits} {n = n} {start = start} {expire = expire} {a = a} h d more) =
    every_first w digits n start expire a (other_keyword (codes "every") (codes "start") w h refl) h d ∙ times_complete more
times_complete (AreTimes.expire {w = w} {digits = digits} {n = n} {start = start} {every = every} {a = a} h d more) =
    expire_first w digits n start every a (other_keyword (codes "expire") (codes "start") w h refl) (other_keyword (codes "expire") (codes "every") w h refl) h d ∙ times_complete more

-- ---- what is read is spelled so

module _ (w digits : List ℕ) (n : ℕ) (a : List Token) (u z : Times) (d : read_u64 digits ≡ Some n) (more : AreTimes u a z) where
  abbrev spelled : Times → Type 0
  spelled t = AreTimes t (Word w ∷ Word digits ∷ a) z

  start_spelled : (start every expire : Option ℕ) → is_keyword (codes "start") w ≡ true → checked (is_unset start) (Some (times (Some n) every expire)) ≡ Some u → spelled (times start every expire)
  start_spelled None every expire h e = AreTimes.start h d (subst (λ (t : Times). AreTimes t a z) (sym (some_is (times (Some n) every expire) u e)) more)
  start_spelled (Some m) every expire h e = absurd cc

  every_spelled : (start every expire : Option ℕ) → is_keyword (codes "every") w ≡ true → checked (is_unset every) (Some (times start (Some n) expire)) ≡ Some u → spelled (times start every expire)
  every_spelled start None expire h e = AreTimes.every h d (subst (λ (t : Times). AreTimes t a z) (sym (some_is (times start (Some n) expire) u e)) more)
  every_spelled start (Some m) expire h e = absurd cc

  expire_spelled : (start every expire : Option ℕ) → is_keyword (codes "expire") w ≡ true → checked (is_unset expire) (Some (times start every (Some n))) ≡ Some u → spelled (times start every expire)
  expire_spelled start every None h e = AreTimes.expire h d (subst (λ (t : Times). AreTimes t a z) (sym (some_is (times start every (Some n)) u e)) more)
  expire_spelled start every (Some m) h e = absurd cc

  choice_spelled : (t : Times) (s v x : Bool) → is_keyword (codes "start") w ≡ s → is_keyword (codes "every") w ≡ v → is_keyword (codes "expire") w ≡ x
      → cond s (with_start n t) (cond v (with_every n t) (cond x (with_expire n t) None)) ≡ Some u → spelled t
  choice_spelled t true v x p q r e = start_spelled t.start t.every t.expire p e
  choice_spelled t false true x p q r e = every_spelled t.start t.every t.expire q e
  choice_spelled t false false true p q r e = expire_spelled t.start t.every t.expire r e
  choice_spelled t false false false p q r e = absurd cc

  pub time_spelled : (t : Times) → with_time w n t ≡ Some u → spelled t
  time_spelled t e = choice_spelled t (is_keyword (codes "start") w) (is_keyword (codes "every") w) (is_keyword (codes "expire") w) refl refl refl e

pub times_sound : (a : List Token) (t u : Times) → times_from t a ≡ Some u → AreTimes t a u
unfolding times_from
times_sound [] t u e = subst (λ (v : Times). AreTimes t [] v) (some_is t u e) AreTimes.no_time
times_sound ((Word w) ∷ (Word digits) ∷ rest) t u e =
    let n = bind_some (read_u64 digits) (λ n. with_time w n t >>= λ v. times_from v rest) u e in
    let v = bind_some (with_time w n.0 t) (λ v. times_from v rest) u n.2 in
    time_spelled w digits n.0 rest v.0 u n.1 (times_sound rest v.0 u v.2) t v.1
times_sound tokens t u e = absurd cc
