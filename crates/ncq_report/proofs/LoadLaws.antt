-- Texts of which the last was written where memory did not run out.
use Rattle.std.proofs.Common.{◌≡◌, ℕ, ◌++◌, List, Result, Ok, Err}
use Rattle.std.specs.Prelude.{if◌then◌else◌, OnOk}
use Rattle.std.specs.Result.{is_ok}
use Rattle.ncq_base.proofs.Written.{three_written}

pub last_written : {T E : Type 0} (r : Result T E) (out a b c one two three : List ℕ) → one ≡ out ++ a → two ≡ one ++ b
    → three ≡ (if is_ok r then two ++ c else two) → OnOk r (three ≡ out ++ (a ++ b ++ c))
last_written (Ok x) out a b c one two three p q r = three_written out a b c one two three p q r
last_written (Err e) out a b c one two three p q r = tt
