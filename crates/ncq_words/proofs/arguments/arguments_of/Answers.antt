use Rattle.std.proofs.Common.{sym, ◌∙◌}
use Rattle.clap.specs.Words.{found_of}
use Rattle.ncq_words.specs.Forms.{texts_of}
use Rattle.ncq_words.proofs.Parses.{no_mode, refused, words_are}
use Rattle.ncq_words.proofs.arguments.arguments_of.Goals as goal

pub returns-in-Some-clause-given : goal.returns-in-Some-clause-given
returns-in-Some-clause-given c =
    let parsed = c.in-Ok.ensures in
    words_are (found_of c.in-Ok.matches) (texts_of c.args.words.now) c.requires.plain parsed.fails parsed.matches _ _ (sym c.in-Some.ensures) (sym c.get_str-in-Some.ensures)

pub returns-in-Ok-clause-usage : goal.returns-in-Ok-clause-usage
returns-in-Ok-clause-usage c e =
    let parsed = c.in-Ok.ensures in
    no_mode (found_of c.in-Ok.matches) (texts_of c.args.words.now) c.requires.plain parsed.fails parsed.matches (sym c.in-None.ensures)

pub returns : goal.returns
returns c = record {
  given = tt;
  usage = λ e. refused (texts_of c.args.words.now) c.in-Err.error c.requires.plain (λ memory. c.in_default.not-OutOfMemory (c.kind.ensures ∙ memory)) c.in-Err.ensures.fails;
}
