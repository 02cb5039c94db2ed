-- Which of the files that had their turn have rows of the change.
use Rattle.std.proofs.Common.{◌≡◌, ℕ, ◌<◌, ◌≤◌, ◌+◌, Bool, true, false, ◌||◌, nat_eq, List, [], ◌∷◌, ◌++◌, inl, inr, refl, sym, ap, ◌∙◌, arith, true≢false}
use Rattle.std.proofs.lemmas.Bool.{cases_eq, cases_lt, eq-eqb}
use Rattle.ncq_shelf.specs.KeptFiles.{Files}
use Rattle.ncq_feed.specs.Feeds.{NamesTheFed}
use Rattle.ncq_feed.specs.Runs.{Run, IsUnderWay, ArePassed, is_among, news_of, news_in}
use Rattle.ncq_feed.specs.Turns.{AreNamed}
use Rattle.ncq_feed.proofs.PendingLaws.{among_append}
use Rattle.ncq_feed.proofs.TurnLaws.{next_turn}

not_true : (b : Bool) → (b ≡ true → ⊥) → b ≡ false
not_true true h = absurd (h refl)
not_true false h = refl

or_left : (a b : Bool) → (a || b) ≡ false → a ≡ false
or_left true b h = absurd (true≢false h)
or_left false b h = refl

or_right : (a b : Bool) → (a || b) ≡ false → b ≡ false
or_right true b h = absurd (true≢false h)
or_right false b h = h

-- the files before the first that is pending have no rows
named_before : (run : Run) (files : Files) (next at : ℕ) (keys numbers : List ℕ) → ArePassed run next keys files → ((number : ℕ) → is_among number keys ≡ true → at ≤ number) → AreNamed run next numbers files
    → AreNamed run at numbers files
named_before run files next at keys numbers passed least named number less apart = elim (cases_lt number next) [
  | inl under ↦ named number under apart
  | inr over ↦ passed.passed.quiet number over (not_true (is_among number keys) (λ is. let l = least number is in absurd (omega arith)))
]

-- once nothing is pending, every file that has rows is in the list
pub all_named : (run : Run) (files : Files) (next : ℕ) (keys numbers : List ℕ) → ArePassed run next keys files → keys ≡ [] → AreNamed run next numbers files → NamesTheFed run.store.changes files numbers
all_named run files next keys numbers passed none named number file at apart =
    ap (news_of run.store.changes) (sym at)
    ∙ named_before run files next (number + 1) keys numbers passed (λ other is. absurd (true≢false (sym is ∙ ap (is_among other) none))) named number (omega arith) apart

-- the turn of the least pending file
module _ (run : Run) (files : Files) (under : IsUnderWay run files) (next at : ℕ) (keys rest numbers : List ℕ) (passed : ArePassed run next keys files) (is : keys ≡ at ∷ rest)
    (above : (other : ℕ) → is_among other rest ≡ true → at < other) (named : AreNamed run next numbers files)
    (new : Files) (below : (number : ℕ) → number < at → news_in run.store.changes new number ≡ news_in run.store.changes files number) where
  at_turn : (number : ℕ) → number < at → is_among number numbers ≡ false → news_in run.store.changes new number ≡ []
  at_turn number less apart =
      let turn = next_turn run files under next at keys rest passed is above in
      below number less ∙ named_before run files next at keys numbers passed (λ other h. turn.passed.ahead other (sym (ap (is_among other) is) ∙ h)) named number less apart

  -- a file that got nothing needs no name
  pub named_idle : news_in run.store.changes new at ≡ [] → AreNamed run (at + 1) numbers new
  named_idle none number less apart = elim (cases_eq number at) [
    | inl same ↦ ap (news_in run.store.changes new) same ∙ none
    | inr differs ↦ at_turn number (omega arith) apart
  ]

  -- one that got rows is in the list then
  pub named_more : (more : List ℕ) → more ≡ numbers ++ at ∷ [] → AreNamed run (at + 1) more new
  named_more more grown number less apart =
      let parts : (is_among number numbers || is_among number (at ∷ [])) ≡ false = sym (ap (is_among number) grown ∙ among_append number numbers (at ∷ [])) ∙ apart in
      elim (cases_eq number at) [
        | inl same ↦ absurd (true≢false (sym (eq-eqb number at same) ∙ or_left (nat_eq number at) false (or_right (is_among number numbers) (is_among number (at ∷ [])) parts)))
        | inr differs ↦ at_turn number (omega arith) (or_left (is_among number numbers) (is_among number (at ∷ [])) parts)
      ]
