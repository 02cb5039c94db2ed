use Rattle.std.proofs.Common.{◌∷◌, length, arith, sym, ap, ◌∙◌, length-drop, ◌-◌}
use Rattle.ncq_token.specs.Tokens.{tokens_of}
use Rattle.ncq_token.proofs.Reading.{white_goes_on, stuck, token_goes_on, tokens_end}
use Rattle.ncq_token.proofs.tokenise.tokens.Goals as goal

pub loop-first-preserved-then-is_space : goal.loop-first-preserved-then-is_space
loop-first-preserved-then-is_space c =
    let cons = c.in-Some.ensures.cases.0 in
    let s = rw cons at c.loop-first.invariant.value in
    let room = rw cons at c.loop-first.invariant.within in
    record {
      value = white_goes_on c.loop-first.tokens c.loop-first.inside c.args.text.now c.in-Some.first.now c.in-Some.after.now (tokens_of c.args.text.now) room (sym c.if-is_space.ensures) s;
      within = omega (arith, room);
    }

pub returns-in_default-2 : goal.returns-in_default-2
returns-in_default-2 c =
    let cons = c.in-Some.ensures.cases.0 in
    let s = rw cons at c.loop-first.invariant.value in
    let room = rw cons at c.loop-first.invariant.within in
    let none = rw cons at c.in_ok-token.ensures.value in
    record { exact = rw cons (stuck c.loop-first.tokens c.loop-first.inside c.args.text.now c.in-Some.first.now c.in-Some.after.now (tokens_of c.args.text.now) room (sym c.if-is_space.ensures) (sym none ∙ c.in_default-2.is) s) }

pub loop-first-preserved : goal.loop-first-preserved
loop-first-preserved c =
    let cons = c.in-Some.ensures.cases.0 in
    let s = rw cons at c.loop-first.invariant.value in
    let room = rw cons at c.loop-first.invariant.within in
    let token = c.in-Some-2.token in
    let len = c.in-Some-2.len in
    let found = sym (rw cons at c.in_ok-token.ensures.value) ∙ c.in-Some-2.is in
    let within = rw c.in-Some-2.is at (rw cons at c.in_ok-token.ensures.within) in
    let e = token_goes_on c.loop-first.tokens c.loop-first.inside c.args.text.now c.in-Some.first.now c.in-Some.after.now (tokens_of c.args.text.now) room token len (sym c.if-is_space.ensures) found within.0 within.1 s in
    let rest = rw cons at c.rest_of-rest.ensures in
    record {
      value = rw (c.in_ok-push.ensures.ok, c.inside_after-inside.ensures, rest) e;
      within = omega (arith, room, ap length rest, length-drop len (c.in-Some.first.now ∷ c.in-Some.after.now));
    }

pub returns : goal.returns
returns c = record { exact = tokens_end c.loop-first.tokens c.loop-first.inside (length c.args.text.now - length c.loop-first.rest.now) c.loop-first.rest.now (tokens_of c.args.text.now) c.in_default.ensures.cases c.loop-first.invariant.value }
