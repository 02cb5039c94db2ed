use Rattle.std.proofs.Common.{◌++◌, ◌∷◌, ◌∙◌, [], List, ℕ, ap}
use Rattle.ncq_base.specs.Lines.{lines_in}
use Rattle.ncq_pyx.specs.Faults.{max_nesting}
use Rattle.ncq_script.proofs.BatchLaws.{faulty, nameless, takes}
use Rattle.ncq_script.proofs.batch.take_section.Goals as goal

pub returns-in_default-clause-takes : goal.returns-in_default-clause-takes
returns-in_default-clause-takes c = nameless max_nesting c.args.sections.now c.args.head.now (lines_in c.args.behind.now) c.args.number c.requires.header c.in_default.ensures

pub returns-in-Ok-clause-takes : goal.returns-in-Ok-clause-takes
returns-in-Ok-clause-takes c =
    let parted = c.in_ok-body.ensures.parted in (
      parted.starts,
      takes max_nesting c.args.sections.now c.args.head.now (lines_in c.args.behind.now) c.in_ok-body.body (lines_in c.in_ok-body.left.text.now) c.args.number c.in-Some.name.now c.requires.header c.in-Some.ensures parted
          c.push.new.self c.in-Ok.items c.in_ok-body.left.number c.in-Ok.ensures.block c.in_ok-body.ensures.number (c.in_ok-push-in-Ok.ensures.ok ∙ ap (λ (name : List ℕ). c.args.sections.now ++ record { source = name; items = c.in-Ok.items } ∷ []) c.in_ok-source-in-Ok.ensures),
    )

pub returns-clause-takes : goal.returns-clause-takes
returns-clause-takes c =
    faulty max_nesting c.args.sections.now c.args.head.now (lines_in c.args.behind.now) c.in_ok-body.body (lines_in c.in_ok-body.left.text.now) c.args.number c.in-Some.name.now c.requires.header c.in-Some.ensures c.in_ok-body.ensures.parted
    c.in-Err.why c.moved.result c.in-Err.ensures.block c.moved.ensures
