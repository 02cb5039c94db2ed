use Rattle.std.proofs.Common.{◌≡◌, arith}
use Rattle.ncq_row.proofs.SlotLaws.{same_at}
use Rattle.ncq_row.proofs.row.are_same.Goals as goal

pub returns-then-not-is_same : goal.returns-then-not-is_same
returns-then-not-is_same c = (
  λ h. cc,
  λ e.
      let alike =
      same_at (λ s. s.value) c.args.a.now c.args.b.now c.loop-i.i c.index-a-i.result
      c.index-b-i.result (omega arith) (omega arith) c.index-a-i.is c.index-b-i.is e in
      let one : c.deref.result.now ≡ c.deref-in-loop-i.result.now = cc in
      c.if-not-is_same.ensures.1 one,
)
