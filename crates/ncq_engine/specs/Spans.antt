-- Where the notices of a command stand in the output.
use Rattle.std.specs.Prelude.{ℕ, ◌+◌, List, [], ◌∷◌, ◌++◌, length}
use Rattle.ncq_script.specs.declared.command.Command.{Command}
use Rattle.ncq_engine.specs.declared.span.Span.{Span}
use Rattle.ncq_engine.specs.History.{History}
use Rattle.ncq_engine.specs.Notices.{Language, notice_at, firings_in_order}

-- the span of a text that is not empty, from this place on
abbrev pub span_of : List ℕ → ℕ → List ℕ → List Span
span_of name from [] = []
span_of name from (byte ∷ text) =
    record { name = name; from = from; to = from + length (byte ∷ text) } ∷ []

-- the spans of texts that stand one behind the other, from this place on
abbrev pub spans_of : {A : Type 0} → (A → List ℕ) → (A → List ℕ) → ℕ → List A → List Span
spans_of name text from [] = []
spans_of name text from (x ∷ xs) =
    span_of (name x) from (text x) ++ spans_of name text (from + length (text x)) xs

-- the spans of the notices of a command, the first of which begins at this place: one for each
-- notice, with the name of its subscription
abbrev pub spans : Language → History → Command → ℕ → List Span
spans language history command from =
    spans_of (λ fired. fired.1.statement.name) (notice_at language history command) from
    (firings_in_order history command)
