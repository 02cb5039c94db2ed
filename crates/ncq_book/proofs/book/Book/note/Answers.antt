use Rattle.std.proofs.Common.{◌∙◌, ap, sym, subst, map}
use Rattle.std.specs.Map.{set_value}
use Rattle.std.specs.BTreeMap.{is_at}
use Rattle.std.specs.Ordering.{nat_cmp}
use Rattle.ncq_book.specs.Books.{BookState, with_note}
use Rattle.ncq_book.specs.Questions.{IsBook}
use Rattle.ncq_book.specs.contracts.book.Book.{the_view}
use Rattle.ncq_book.proofs.BookLaws.{noted_book, noted_shown, noted_nobody}
use Rattle.ncq_book.proofs.book.Book.note.Goals as goal
use Rattle.ncq_book.proofs.book.Book.note.Goals.{in-Some, in_default}

pub invariant_of-self : goal.invariant_of-self
invariant_of-self c =
    elim c.match-get_mut.branch [
      | in-Some w ↦
          let written = w.note.new.self in
          let set = (c.get_mut.follows.holds written).0 ∙ (λ i. set_value (is_at (nat_cmp c.args.install)) c.self.inside.subscriptions.entries (w.note.ensures i)) in
          subst (λ b. IsBook b.subscriptions.entries b.finders) (sym w.self-inside-is)
          (noted_book c.self.inside.subscriptions.entries c.self.inside.finders c.self.invariant c.args.install c.args.number (c.get_mut.follows.lender written).entries w.in-Some.held.now
          (sym w.in-Some.ensures.value) set)
      | in_default w ↦
          subst (λ b. IsBook b.subscriptions.entries b.finders)
          (sym (w.self-inside-is ∙ (λ i. record { subscriptions = c.get_mut.follows.holds-at-none i; finders = c.self.inside.finders }))) c.self.invariant
    ]

pub returns : goal.returns
returns c =
    let turned = ap (λ (b : BookState). record b { subscriptions = map (with_note c.args.install c.args.number) b.subscriptions }) c.self.view_is in
    elim c.match-get_mut.branch [
      | in-Some w ↦
          let written = w.note.new.self in
          let set = (c.get_mut.follows.holds written).0 ∙ (λ i. set_value (is_at (nat_cmp c.args.install)) c.self.inside.subscriptions.entries (w.note.ensures i)) in
          let is =
          noted_shown c.self.inside.subscriptions.entries c.self.inside.finders c.self.invariant c.args.install c.args.number (c.get_mut.follows.lender written).entries w.in-Some.held.now
          (sym w.in-Some.ensures.value) set in
          ap the_view w.self-inside-is ∙ (λ i. record { subscriptions = is i; instant = c.self.inside.finders.calendar.instant }) ∙ turned
      | in_default w ↦
          let is = noted_nobody c.self.inside.subscriptions.entries c.self.inside.finders c.self.invariant c.args.install c.args.number (sym w.in_default.ensures.value) in
          ap the_view (w.self-inside-is ∙ (λ i. record { subscriptions = c.get_mut.follows.holds-at-none i; finders = c.self.inside.finders }))
          ∙ (λ i. record { subscriptions = is i; instant = c.self.inside.finders.calendar.instant }) ∙ turned
    ]
