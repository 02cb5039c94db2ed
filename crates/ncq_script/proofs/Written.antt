-- What is appended to a text, one piece behind the other.
use Rattle.std.proofs.Common.{◌≡◌, ◌++◌, ◌∙◌, ap, append_assoc, cond, List, ℕ}
use Rattle.std.specs.Prelude.{Result, Ok, Err, OnOk, is_ok}
use Rattle.std.specs.Io.{StartsWith}
use Rattle.std.proofs.Transfers.{starts_with_trans, starts_with_of_append, starts_with_of_eq}

-- one more piece
pub piece_behind : (out said more before after : List ℕ) → after ≡ before ++ more → before ≡ out ++ said → after ≡ out ++ (said ++ more)
piece_behind out said more before after is was =
    is ∙ ap (λ (xs : List ℕ). xs ++ more) was ∙ append_assoc out said more

-- the last piece, where memory did not run out
pub last_behind : {A E : Type 0} (result : Result A E) (out said more before after : List ℕ) → after ≡ cond (is_ok result) (before ++ more) before → before ≡ out ++ said → OnOk result (after ≡ out ++ (said ++ more))
last_behind (Ok done) out said more before after is was = piece_behind out said more before after is was
last_behind (Err why) out said more before after is was = tt

-- it leaves what was there in front
pub front_of_last : {A E : Type 0} (result : Result A E) (out more before after : List ℕ) → after ≡ cond (is_ok result) (before ++ more) before → StartsWith before out → StartsWith after out
front_of_last (Ok done) out more before after is front = starts_with_trans after before out (starts_with_of_append after before more is) front
front_of_last (Err why) out more before after is front = starts_with_trans after before out (starts_with_of_eq after before is) front
