use Rattle.std.proofs.Common.{◌≡◌, ◌+◌, ◌++◌, List, ℕ, [], ◌∷◌, get_or, drop, append-nil, sym, ap, ◌∙◌}
use Rattle.ncq_base.specs.Escapes.{meant, unescaped, unescaped_behind}
use Rattle.ncq_base.proofs.EscapeLaws.{reads_meant, reads_backslash, reads_itself}
use Rattle.ncq_base.proofs.Written.{step_written, end_written}
use Rattle.ncq_base.proofs.escape.unescape.Goals as goal
use Rattle.ncq_base.proofs.escape.unescape.Goals.{then-behind+in_ok-push_meant, else-behind+then-byte-eq92, else-behind+else-byte-eq92+in_ok-push}
use Rattle.ncq_base.proofs.escape.unescape.Goals.{then-behind-2+in_ok-push-2, else-behind-2}

pub loop-byte-preserved : goal.loop-byte-preserved
loop-byte-preserved c =
    let text = c.args.text.now in
    let at = c.loop-byte.byte-index in
    let byte = get_or text at 0 in
    let rest = drop (at + 1) text in
    let old = c.loop-byte.behind in
    let new = c.if-behind.behind in
    let before = c.loop-byte.out.items in
    let goes : (wrote : List ℕ) → unescaped_behind old (byte ∷ rest) ≡ wrote ++ unescaped_behind new rest → c.if-behind.out.items ≡ before ++ wrote → c.if-behind.out.items ++ unescaped_behind new rest ≡ unescaped text =
    λ wrote step more. step_written text (unescaped text) at (unescaped_behind old) (unescaped_behind new) before wrote c.if-behind.out.items c.loop-byte-test.true step c.loop-byte.invariant more in
    elim c.if-behind.branch [
      | then-behind+in_ok-push_meant w ↦ goes (meant byte) (reads_meant byte rest old new w.if-behind.true w.behind-is) ((λ i. (w.out-is i).items) ∙ w.in_ok-push_meant.ensures)
      | else-behind+then-byte-eq92 w ↦ goes [] (reads_backslash byte rest old new w.if-behind.false w.behind-is w.if-byte-eq92.true) ((λ i. (w.out-is i).items) ∙ sym (append-nil before))
      | else-behind+else-byte-eq92+in_ok-push w ↦ goes (byte ∷ []) (reads_itself byte rest old new w.if-behind.false (w.behind-is ∙ w.if-behind.false) w.if-byte-eq92.false) ((λ i. (w.out-is i).items) ∙ w.in_ok-push.ensures.items)
    ]

pub returns : goal.returns
returns c =
    let text = c.args.text.now in
    let last = c.loop-byte.out.items in
    let ends = end_written text (unescaped text) c.loop-byte.byte-index (unescaped_behind c.loop-byte.behind) last c.loop-byte-test.false c.loop-byte.invariant in
    elim c.if-behind-2.branch [
      | then-behind-2+in_ok-push-2 w ↦ c.from_vec.ensures ∙ (λ i. (w.out-is i).items) ∙ w.in_ok-push-2.ensures.items ∙ ap (λ b. last ++ unescaped_behind b []) (sym w.if-behind-2.true) ∙ ends
      | else-behind-2 w ↦ c.from_vec.ensures ∙ (λ i. (w.out-is i).items) ∙ sym (append-nil last) ∙ ap (λ b. last ++ unescaped_behind b []) (sym w.if-behind-2.false) ∙ ends
    ]
