-- What contracts see of each source and sink of this crate.
use Rattle.std.specs.Prelude.{ℕ, Bool, true, false, List, [], ◌∷◌, if◌then◌else◌}

-- no call was told to fail
abbrev pub none_fails : List ℕ → Bool
none_fails [] = true
none_fails (call ∷ calls) = false

-- a source in memory: the bytes left, the most that a call gives, the numbers of the failing calls,
-- and three counts
pub record SourceState : Type 0 where
  pub left : List ℕ
  pub piece : ℕ
  pub failing : List ℕ
  pub calls : ℕ
  pub faults : ℕ
  pub given : ℕ

-- a sink in memory: the bytes held, the room for them, the numbers of the failing calls, and two
-- counts
pub record SinkState : Type 0 where
  pub held : List ℕ
  pub room : ℕ
  pub failing : List ℕ
  pub calls : ℕ
  pub faults : ℕ

-- how many bytes a sink in memory is sure to hold: its room, where no call was told to fail
abbrev pub sure_room : SinkState → ℕ
sure_room sink = if none_fails sink.failing then sink.room else 0

-- a source that never fails: the bytes left, the most that a call gives, and how many were given
pub record PlainState : Type 0 where
  pub left : List ℕ
  pub piece : ℕ
  pub given : ℕ

-- a source that gives one line again and again: the line, how many bytes it gives in all, and how
-- many were given
pub record RepeatState : Type 0 where
  pub line : List ℕ
  pub total : ℕ
  pub given : ℕ

-- a source over a reader: the reader, and two counts
pub record ReaderState (R : Type 0) : Type 0 where
  pub reader : R
  pub given : ℕ
  pub faults : ℕ

-- a sink over a writer: the writer, and a count
pub record WriterState (W : Type 0) : Type 0 where
  pub writer : W
  pub faults : ℕ
