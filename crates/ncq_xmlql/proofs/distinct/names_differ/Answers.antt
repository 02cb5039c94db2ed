use Rattle.std.proofs.Common.{◌<◌, ◌+◌, length, sym, ◌∙◌, arith}
use Rattle.ncq_xmlql.proofs.NameLaws.{differ_more, seen_more, some_twice}
use Rattle.ncq_xmlql.proofs.distinct.names_differ.Goals as goal

pub returns-then-not-added : goal.returns-then-not-added
returns-then-not-added c =
    let i = c.loop-attribute.attribute-index in
    let below : i < length c.args.attributes.now = omega arith in
    let differ = differ_more c.args.attributes.now i c.attribute-item.result below c.attribute-item.is c.loop-attribute.seen c.loop-attribute.invariant.knows c.in_ok-copy.field-0 c.in_ok-copy.ensures c.in_ok-added.added c.in_ok-added.ensures.added c.loop-attribute.invariant.differ in
    sym (some_twice c.args.attributes.now (i + 1) (differ ∙ c.if-not-added.true))

pub loop-attribute-preserved : goal.loop-attribute-preserved
loop-attribute-preserved c =
    let i = c.loop-attribute.attribute-index in
    let below : i < length c.args.attributes.now = omega arith in
    record {
      differ = differ_more c.args.attributes.now i c.attribute-item.result below c.attribute-item.is c.loop-attribute.seen c.loop-attribute.invariant.knows c.in_ok-copy.field-0 c.in_ok-copy.ensures c.in_ok-added.added c.in_ok-added.ensures.added c.loop-attribute.invariant.differ ∙ c.if-not-added.false;
      knows = seen_more c.args.attributes.now i c.attribute-item.result below c.attribute-item.is c.loop-attribute.seen c.loop-attribute.invariant.knows c.in_ok-copy.field-0 c.in_ok-copy.ensures c.insert.new.self c.in_ok-added.ensures.updates.0;
    }
