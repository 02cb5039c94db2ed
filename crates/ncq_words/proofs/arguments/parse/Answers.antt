use Rattle.std.proofs.Common.{rules, ap, ap₂, subst, ◌≡◌, ◌∙◌}
use Rattle.std.proofs.lemmas.Result.{IfOk-weaker}
use Rattle.clap.specs.Words.{FailsBy, app_of, fault_of, is_simple, is_simple_and_free, matches_of, rule_of, with_rule}
use Rattle.ncq_words.specs.Forms.{texts_of}
use Rattle.ncq_words.specs.Command.{mode_rule, ncq_command, value_rule}
use Rattle.ncq_words.proofs.Parses.{app_of-bare, is_simple-ncq, is_simple_and_free-ncq}
use Rattle.ncq_words.proofs.arguments.parse.Goals as goal

command_is : (c : goal.After-try_get_matches_from) → app_of c.in_ok-command.command ≡ ncq_command
command_is c =
    let mode_is : rule_of c.action-mode.result ≡ mode_rule = search rules in
    let value_is : rule_of c.action-value.result ≡ value_rule = search rules in
    let bare_is = app_of-bare c.new-3.result c.no_binary_name.result c.disable_help_flag.result c.disable_version_flag.result
    c.new-3.ensures.app c.no_binary_name.ensures c.disable_help_flag.ensures c.disable_version_flag.ensures in
    c.in_ok-command.ensures.shape (search rules) ∙ ap₂ with_rule (c.in_ok-arg.ensures.shape (search rules) ∙ ap₂ with_rule bare_is mode_is) value_is

pub returns-clause-fails : goal.returns-clause-fails
returns-clause-fails c =
    subst (λ a. FailsBy (fault_of a (texts_of c.args.words.now)) c.try_get_matches_from.result) (command_is c)
    (c.try_get_matches_from.ensures.kinds (ap is_simple_and_free (command_is c) ∙ is_simple_and_free-ncq))

pub returns-clause-matches : goal.returns-clause-matches
returns-clause-matches c =
    IfOk-weaker c.try_get_matches_from.result _ _ (λ m h. (h (ap is_simple (command_is c) ∙ is_simple-ncq)).0 ∙ ap (λ a. matches_of a (texts_of c.args.words.now)) (command_is c))
    c.try_get_matches_from.ensures.matches
