use Rattle.std.proofs.Common.{◌≡◌, ◌+◌, ◌++◌, ℕ, List, length, take, drop}
use Rattle.std.proofs.Math.Seq.{take-append_seam}
use Rattle.std.proofs.lemmas.Simd.{chunk-drop}

-- what is left of a list is its next piece, copied to the front of a buffer, and what is left behind it
pub next_piece : (from tail new : List ℕ) (at n : ℕ) → new ≡ take n (drop at from) → length new ≡ n → drop at from ≡ take n (new ++ tail) ++ drop (at + n) from
next_piece from tail new at n copied long =
    let e : take n (new ++ tail) ≡ new = rw (← long) (take-append_seam new tail) in
    rw (e, copied) (chunk-drop at n from)
