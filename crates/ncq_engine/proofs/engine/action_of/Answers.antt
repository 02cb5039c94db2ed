use Rattle.std.proofs.Common.{◌≡◌, [], List, ℕ, ◌<◌, length, not, sym, ◌∙◌, ap}
use Rattle.std.specs.Prelude.{Option, Some, position}
use Rattle.std.specs.Str.{bytes_eq}
use Rattle.std.proofs.lemmas.List.Quantifiers.{position-Some}
use Rattle.ncq_callback.specs.Labels.{labels}
use Rattle.ncq_callback.specs.declared.notice.Kind.{Kind}
use Rattle.ncq_engine.specs.Notices.{kind_in}
use Rattle.ncq_engine.specs.Output.{is_at_odds}
use Rattle.ncq_engine.proofs.Actions.{found_kind, found_name, kind_is, no_kind, odds_of_mail, odds_of_print, other_tests, same_tests}
use Rattle.ncq_engine.proofs.engine.action_of.Goals as goal
use Rattle.ncq_engine.proofs.engine.action_of.Goals.{in-Print, in-MailTo}

pub returns-in_default-clause-none : goal.returns-in_default-clause-none
returns-in_default-clause-none g c =
    let all = labels c.args.handlers.now.items.items (λ h. h.name) (λ h. h.kind) in
    ap (λ (name : List ℕ). is_at_odds (kind_in name all) c.args.statement.now.argument) (sym c.as_slice.ensures)
    ∙ ap (λ (kind : Option Kind). is_at_odds kind c.args.statement.now.argument) (no_kind c.as_slice.result.now all (sym c.find.ensures ∙ c.in_default.is))

pub returns-then-is_some-wants-clause-some : goal.returns-then-is_some-wants-clause-some
returns-then-is_some-wants-clause-some g c =
    let all = labels c.args.handlers.now.items.items (λ h. h.name) (λ h. h.kind) in
    let at = c.in-Some.at in
    let placed : position (λ label. bytes_eq c.as_slice.result.now label.0) all ≡ Some at = sym c.find.ensures ∙ c.in-Some.is in
    let less : at < length all = (position-Some (λ label. bytes_eq c.as_slice.result.now label.0) all at ([], c.kind.result) placed).0 in
    let kind = kind_is all at c.kind.result less c.kind.ensures in
    let same = sym c.is_some.ensures ∙ same_tests c.is_some.result c.match-kind.wants c.if-is_some-wants.true in (
      found_kind c.as_slice.result.now all at placed ∙ ap (λ (name : List ℕ). kind_in name all) c.as_slice.ensures,
      ap (λ (k : Option Kind). is_at_odds k c.args.statement.now.argument) kind
          ∙ (elim c.match-kind.branch [
            | in-Print w ↦ odds_of_print c.kind.result c.args.statement.now.argument w.in-Print.is ∙ same ∙ w.wants-is
            | in-MailTo w ↦ odds_of_mail c.kind.result c.args.statement.now.argument w.in-MailTo.is ∙ ap not (same ∙ w.wants-is)
          ]),
    )

pub returns-else-is_some-wants-clause-none : goal.returns-else-is_some-wants-clause-none
returns-else-is_some-wants-clause-none g c =
    let all = labels c.args.handlers.now.items.items (λ h. h.name) (λ h. h.kind) in
    let at = c.in-Some.at in
    let placed : position (λ label. bytes_eq c.as_slice.result.now label.0) all ≡ Some at = sym c.find.ensures ∙ c.in-Some.is in
    let less : at < length all = (position-Some (λ label. bytes_eq c.as_slice.result.now label.0) all at ([], c.kind.result) placed).0 in
    let kind = kind_is all at c.kind.result less c.kind.ensures in
    let other = sym c.is_some.ensures ∙ other_tests c.is_some.result c.match-kind.wants c.if-is_some-wants.false in
    ap (λ (k : Option Kind). is_at_odds k c.args.statement.now.argument)
    (sym (ap (λ (name : List ℕ). kind_in name all) c.as_slice.ensures) ∙ sym (found_kind c.as_slice.result.now all at placed) ∙ kind)
    ∙ (elim c.match-kind.branch [
      | in-Print w ↦ odds_of_print c.kind.result c.args.statement.now.argument w.in-Print.is ∙ other ∙ ap not w.wants-is
      | in-MailTo w ↦ odds_of_mail c.kind.result c.args.statement.now.argument w.in-MailTo.is ∙ ap not (other ∙ ap not w.wants-is)
    ])

pub returns-then-is_some-wants-clause-named : goal.returns-then-is_some-wants-clause-named
returns-then-is_some-wants-clause-named g c =
    let all = labels c.args.handlers.now.items.items (λ h. h.name) (λ h. h.kind) in
    let at = c.in-Some.at in
    let placed : position (λ label. bytes_eq c.as_slice.result.now label.0) all ≡ Some at = sym c.find.ensures ∙ c.in-Some.is in
    let found = position-Some (λ label. bytes_eq c.as_slice.result.now label.0) all at ([], c.kind.result) placed in
    found_name c.as_slice.result.now all at ([], c.kind.result) found.0 found.1 ∙ ap (λ (name : List ℕ). Some name) c.as_slice.ensures
