-- The times of a statement: which are written, and what tokens write them.
use Rattle.std.specs.Prelude.{◌≡◌, ℕ, Bool, true, false, IsTrue, if◌then◌else◌, List, [], ◌∷◌}
use Rattle.std.specs.Prelude.{Option, Some, None, codes}
use Rattle.ncq_base.specs.Numbers.{read_u64}
use Rattle.ncq_token.specs.declared.token.Token.{Token}
use Rattle.ncq_token.specs.declared.token.Token.TheVariants.{Word}
use Rattle.ncq_xmlql.specs.declared.time.Times.{Times}
use Rattle.ncq_xmlql.specs.Reading.{Read, ◌>>=◌, checked, is_keyword}

-- the start, the interval and the expiry, where they are written
abbrev pub times : Option ℕ → Option ℕ → Option ℕ → Times
times start every expire = record { start = start; every = every; expire = expire }

-- Behind the times that were written before: { "start" n | "every" n | "expire" n } up to the end,
-- each at most once.
pub data AreTimes : Times → List Token → Times → Type 0 where
  no_time : {t : Times} → AreTimes t [] t
  start : {w digits : List ℕ} {n : ℕ} {every expire : Option ℕ} {a : List Token} {t : Times}
      → IsTrue (is_keyword (codes "start") w) → read_u64 digits ≡ Some n
      → AreTimes (times (Some n) every expire) a t
      → AreTimes (times None every expire) (Word w ∷ Word digits ∷ a) t
  every : {w digits : List ℕ} {n : ℕ} {start expire : Option ℕ} {a : List Token} {t : Times}
      → IsTrue (is_keyword (codes "every") w) → read_u64 digits ≡ Some n
      → AreTimes (times start (Some n) expire) a t
      → AreTimes (times start None expire) (Word w ∷ Word digits ∷ a) t
  expire : {w digits : List ℕ} {n : ℕ} {start every : Option ℕ} {a : List Token} {t : Times}
      → IsTrue (is_keyword (codes "expire") w) → read_u64 digits ≡ Some n
      → AreTimes (times start every (Some n)) a t
      → AreTimes (times start every None) (Word w ∷ Word digits ∷ a) t

-- the word of one of the three
abbrev pub is_time_word : List ℕ → Bool
is_time_word w = if is_keyword (codes "start") w then true
    else (if is_keyword (codes "every") w then true else is_keyword (codes "expire") w)

-- not yet written
abbrev pub is_unset : Option ℕ → Bool
is_unset None = true
is_unset (Some n) = false

abbrev pub with_start : ℕ → Times → Option Times
with_start n t = checked (is_unset t.start) (Some (times (Some n) t.every t.expire))

abbrev pub with_every : ℕ → Times → Option Times
with_every n t = checked (is_unset t.every) (Some (times t.start (Some n) t.expire))

abbrev pub with_expire : ℕ → Times → Option Times
with_expire n t = checked (is_unset t.expire) (Some (times t.start t.every (Some n)))

-- the times with the one that the word names
abbrev pub with_time : List ℕ → ℕ → Times → Option Times
with_time w n t =
    if is_keyword (codes "start") w then with_start n t
    else (if is_keyword (codes "every") w then with_every n t
    else (if is_keyword (codes "expire") w then with_expire n t
    else None))

-- the number in front, and the tokens behind it
abbrev pub number_at : List Token → Read ℕ
number_at ((Word digits) ∷ rest) = read_u64 digits >>= λ n. Some (n, rest)
number_at tokens = None

-- the times with the one in front, and the tokens behind it
abbrev pub time_at : Times → List Token → Read Times
time_at t ((Word w) ∷ rest) = number_at rest >>= λ n. with_time w n.0 t >>= λ u. Some (u, n.1)
time_at t tokens = None

-- the times that all of the tokens write
unfoldable pub times_from : Times → List Token → Option Times
times_from t [] = Some t
times_from t ((Word w) ∷ (Word digits) ∷ rest)
    = read_u64 digits >>= λ n. with_time w n t >>= λ u. times_from u rest
times_from t tokens = None
