use Rattle.std.proofs.Common.{◌≡◌, ◌∙◌, IfOk, ap, subst, sym}
use Rattle.ncq_signature.specs.Signatures.{signature_of}
use Rattle.ncq_signature.specs.declared.signature.Signature.TheVariants.{JoinOf}
use Rattle.ncq_signature.proofs.SignatureCases.{signature_join}
use Rattle.ncq_signature.proofs.signature.signature_of.Goals as goal

pub returns-in-Join : goal.returns-in-Join
returns-in-Join c =
    subst (λ t. IfOk c.join_of.result (λ s. s ≡ t))
    ((λ i. JoinOf (c.get-in-Join.ensures i) (c.get-in-Join-2.ensures i) c.in-Join.pairs) ∙ sym (signature_join c.in-Join.left c.in-Join.right c.in-Join.pairs) ∙ sym (ap signature_of c.in-Join.is)) c.join_of.ensures
