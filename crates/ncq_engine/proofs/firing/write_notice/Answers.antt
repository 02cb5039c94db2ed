use Rattle.std.proofs.Common.{◌≡◌, ◌∙◌, ◌++◌, length, refl, rules, sym}
use Rattle.std.specs.Prelude.{◌==◌}
use Rattle.std.proofs.Math.Seq.{take-length}
use Rattle.std.proofs.lemmas.Result.{on_ok_weaker}
use Rattle.ncq_callback.specs.Labels.{handed_in}
use Rattle.ncq_engine.specs.Engines.{entries_text}
use Rattle.ncq_engine.proofs.GivenUp.{front_of}
use Rattle.ncq_engine.proofs.KeptLaws.{on_any, span_none, span_some, text_none, text_some}
use Rattle.ncq_engine.proofs.firing.write_notice.Given.{Over}
use Rattle.ncq_engine.proofs.firing.write_notice.Goals.{In_ok-call}
use Rattle.ncq_engine.proofs.firing.write_notice.Goals as goal

pub returns-then-is_empty : goal.returns-then-is_empty
returns-then-is_empty g c =
    let m = c.args.subscription.now in
    let entries = c.args.notice.now.entries in
    let count = (λ i. length (sym c.as_slice.ensures i) == 0) ∙ sym c.is_empty.ensures in
    record {
      text = text_none (handed_in c.args.handlers.now.items.items (λ h. h.name) (λ h. h.kind) c.args.handlers.now.predicates.items (λ p. p.name) (λ p. p.relation)) m c.requires.action c.args.instant entries c.args.out.now.items c.args.out.now.items (count ∙ c.if-is_empty.true) refl;
      front = take-length c.args.out.now.items;
      span = span_none (handed_in c.args.handlers.now.items.items (λ h. h.name) (λ h. h.kind) c.args.handlers.now.predicates.items (λ p. p.name) (λ p. p.relation)) m c.requires.action c.args.instant entries (length c.args.out.now.items) c.args.spans.now (count ∙ c.if-is_empty.true);
      entries = refl;
    }

-- the handler wrote the notice
written : (g : Over) (c : In_ok-call g) → c.call.new.out.items
    ≡ c.args.out.now.items ++ entries_text (handed_in c.args.handlers.now.items.items (λ h. h.name) (λ h. h.kind) c.args.handlers.now.predicates.items (λ p. p.name) (λ p. p.relation)) c.args.subscription.now c.args.instant c.args.notice.now.entries
written g c =
    text_some (handed_in c.args.handlers.now.items.items (λ h. h.name) (λ h. h.kind) c.args.handlers.now.predicates.items (λ p. p.name) (λ p. p.relation)) c.args.subscription.now c.requires.action c.args.instant c.args.notice.now.entries
    c.as_slice-argument.result.now c.in_ok-notice.field-0 c.args.out.now.items c.call.new.out.items ((λ i. length (sym c.as_slice.ensures i) == 0) ∙ sym c.is_empty.ensures ∙ c.if-is_empty.false)
    c.as_slice-argument.ensures c.in_ok-notice.ensures c.in_ok-call.ensures.ok

pub returns : goal.returns
returns g c =
    let m = c.args.subscription.now in
    let entries = c.args.notice.now.entries in
    let count = (λ i. length (sym c.as_slice.ensures i) == 0) ∙ sym c.is_empty.ensures in
    let text = written g (goal.at.returns g c).In_ok-call in
    let begins : c.len-from.result ≡ length c.args.out.now.items = search rules in
    let ends : c.len-to.result ≡ length c.call.new.out.items = search rules in
    record {
      text = on_any c.push.result text;
      front = front_of c.args.out.now.items _ c.call.new.out.items text;
      span = on_ok_weaker c.push.result
          (span_some (handed_in c.args.handlers.now.items.items (λ h. h.name) (λ h. h.kind) c.args.handlers.now.predicates.items (λ p. p.name) (λ p. p.relation)) m c.requires.action c.args.instant entries c.replace-name.result c.args.out.now.items c.call.new.out.items c.len-from.result c.len-to.result
          c.args.spans.now c.push.new.self (count ∙ c.if-is_empty.false) (c.replace-name.ensures.value ∙ c.in_ok-notice.ensures) begins ends text)
          c.push.ensures.ok;
      entries = refl;
    }
