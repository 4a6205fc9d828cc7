-- What a sink in memory stands for, and what a write answers and leaves.
--
-- To try it on: with a step of 2 and a room of 3, a write of "abcd" takes "ab", the next of "cd" takes
-- "c", and the one after that fails.
use Rattle.std.specs.Prelude.{ℕ, ◌-◌, ◌||◌, Bool, List, [], ◌++◌, length, take, min, nat_le, if◌then◌else◌}
use Rattle.edge_io.specs.Told.{one_more}
use Rattle.edge_io.specs.Calls.{Calls, fails, calls_after}

-- the bytes written, at most how many a write takes, how many there is room for in all, the count of
-- faults, the writes
pub record HeldBytes : Type 0 where
  pub written : List ℕ
  pub step : ℕ
  pub room : ℕ
  pub faults : ℕ
  pub calls : Calls

-- nothing was written, and no write made or named
abbrev pub nothing_written : ℕ → ℕ → HeldBytes
nothing_written step room = record {
  written = [];
  step = step;
  room = room;
  faults = 0;
  calls = record { made = 0; failing = [] };
}

-- the next write fails: by its number, or since the room is used up
abbrev pub refuses : HeldBytes → Bool
refuses sink = fails sink.calls || nat_le sink.room (length sink.written)

-- how many bytes of a piece of this length a write takes: a step of them, as far as they find room
abbrev pub taken_count : HeldBytes → ℕ → ℕ
taken_count sink len = min (min len sink.step) (sink.room - length sink.written)

-- after a write of a piece: the write is counted; the front of the piece is appended, or the fault
-- counted
abbrev pub after_write : HeldBytes → List ℕ → HeldBytes
after_write sink piece = record sink {
  written = (if refuses sink then sink.written else sink.written ++ take (taken_count sink (length piece)) piece);
  faults = (if refuses sink then one_more sink.faults else sink.faults);
  calls = calls_after sink.calls;
}
