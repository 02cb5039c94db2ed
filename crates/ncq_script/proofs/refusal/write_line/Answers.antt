use Rattle.std.proofs.Common.{◌≡◌, ◌++◌, ◌∙◌, ap, List, ℕ}
use Rattle.std.specs.Prelude.{codes, decimal}
use Rattle.std.specs.Io.{StartsWith}
use Rattle.std.proofs.Transfers.{starts_with_trans, starts_with_of_append, starts_with_of_eq}
use Rattle.ncq_script.specs.Refusals.{word_of, shown}
use Rattle.ncq_script.proofs.Written.{piece_behind, last_behind, front_of_last}
use Rattle.ncq_script.proofs.refusal.write_line.Goals as goal

pub returns-clause-ok : goal.returns-clause-ok
returns-clause-ok c =
    let out : List ℕ = c.args.out.now.items in
    let number : List ℕ = decimal c.args.k in
    let word : List ℕ = word_of c.args.refusal.now in
    let value : List ℕ = shown c.args.refusal.now in
    let refused : c.extend_from_slice.new.self.items ≡ out ++ (number ++ codes " refused ") =
    piece_behind out number (codes " refused ") c.write_decimal.new.out.items c.extend_from_slice.new.self.items c.in_ok-extend_from_slice.ensures.items c.in_ok-write_decimal.ensures.ok in
    let named : c.extend_from_slice-2.new.self.items ≡ out ++ (number ++ codes " refused " ++ word) =
    piece_behind out (number ++ codes " refused ") word c.extend_from_slice.new.self.items c.extend_from_slice-2.new.self.items (c.in_ok-extend_from_slice-2.ensures.items ∙ ap (λ (xs : List ℕ). c.extend_from_slice.new.self.items ++ xs) c.word_of.ensures) refused in
    last_behind c.extend_from_slice-3.result out (number ++ codes " refused " ++ word ++ value) (codes "\n") c.write_shown.new.out.items c.extend_from_slice-3.new.self.items c.extend_from_slice-3.ensures.items
    (piece_behind out (number ++ codes " refused " ++ word) value c.extend_from_slice-2.new.self.items c.write_shown.new.out.items c.in_ok-write_shown.ensures.ok named)

pub returns-clause-front : goal.returns-clause-front
returns-clause-front c =
    let out : List ℕ = c.args.out.now.items in
    let numbered : StartsWith c.write_decimal.new.out.items out = starts_with_of_append _ out (decimal c.args.k) c.in_ok-write_decimal.ensures.ok in
    let refused : StartsWith c.extend_from_slice.new.self.items out = starts_with_trans _ c.write_decimal.new.out.items out (starts_with_of_append _ _ (codes " refused ") c.in_ok-extend_from_slice.ensures.items) numbered in
    let named : StartsWith c.extend_from_slice-2.new.self.items out = starts_with_trans _ c.extend_from_slice.new.self.items out (starts_with_of_append _ _ c.word_of.result.now c.in_ok-extend_from_slice-2.ensures.items) refused in
    front_of_last c.extend_from_slice-3.result out (codes "\n") c.write_shown.new.out.items _ c.extend_from_slice-3.ensures.items
    (starts_with_trans _ c.extend_from_slice-2.new.self.items out c.in_ok-write_shown.ensures.front named)

pub returns-in_err-write_shown-clause-front : goal.returns-in_err-write_shown-clause-front
returns-in_err-write_shown-clause-front c =
    let out : List ℕ = c.args.out.now.items in
    let numbered : StartsWith c.write_decimal.new.out.items out = starts_with_of_append _ out (decimal c.args.k) c.in_ok-write_decimal.ensures.ok in
    let refused : StartsWith c.extend_from_slice.new.self.items out = starts_with_trans _ c.write_decimal.new.out.items out (starts_with_of_append _ _ (codes " refused ") c.in_ok-extend_from_slice.ensures.items) numbered in
    let named : StartsWith c.extend_from_slice-2.new.self.items out = starts_with_trans _ c.extend_from_slice.new.self.items out (starts_with_of_append _ _ c.word_of.result.now c.in_ok-extend_from_slice-2.ensures.items) refused in
    starts_with_trans _ c.extend_from_slice-2.new.self.items out c.in_err-write_shown.ensures.front named

pub returns-in_err-extend_from_slice-2-clause-front : goal.returns-in_err-extend_from_slice-2-clause-front
returns-in_err-extend_from_slice-2-clause-front c =
    let out : List ℕ = c.args.out.now.items in
    let numbered : StartsWith c.write_decimal.new.out.items out = starts_with_of_append _ out (decimal c.args.k) c.in_ok-write_decimal.ensures.ok in
    let refused : StartsWith c.extend_from_slice.new.self.items out = starts_with_trans _ c.write_decimal.new.out.items out (starts_with_of_append _ _ (codes " refused ") c.in_ok-extend_from_slice.ensures.items) numbered in
    starts_with_trans _ c.extend_from_slice.new.self.items out (starts_with_of_eq _ c.extend_from_slice.new.self.items c.in_err-extend_from_slice-2.ensures.items) refused
