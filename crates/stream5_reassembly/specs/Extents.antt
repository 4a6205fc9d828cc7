-- How far the data of one side of a session reach.
--
-- The size is what the rule option `stream_size` compares (Snort 2.9 manual, section 3.6): how many
-- places the next expected number has moved. It moves only forward, by less than 2^31 at a time.
-- To try it on: from 1, three bytes at 1 make the size 3 and the next number 4; two bytes at 1 then
-- change nothing, and two bytes at 10 make the size 11.
use Rattle.std.specs.Prelude.{ℕ, ◌+◌, ◌^◌, ◌&&◌, Option, Some, None, nat_lt, unwrap_or, if◌then◌else◌}
use Rattle.stream5_reassembly.specs.Sequence.{ahead, seq_after}

-- the next number, if one is known, and the size
pub record ExtentState : Type 0 where
  pub next : Option ℕ
  pub size : ℕ

-- an extent of which nothing is known yet
abbrev pub unknown : ExtentState
unknown = record { next = None; size = 0 }

-- the extent begins at a sequence number
abbrev pub extent_from : ℕ → ExtentState
extent_from seq = record { next = Some seq; size = 0 }

-- how far forward the end of a segment lies from the next number, which is the segment's own where none is known
abbrev pub growth : ExtentState → ℕ → ℕ → ℕ
growth extent seq len = ahead (unwrap_or extent.next seq) (seq_after seq len)

-- the extent once a segment of this length has come: it grows where the end lies ahead, by less than 2^31
abbrev pub extent_after : ExtentState → ℕ → ℕ → ExtentState
extent_after extent seq len =
    if nat_lt 0 (growth extent seq len) && nat_lt (growth extent seq len) (2 ^ 31)
    then record { next = Some (seq_after seq len); size = extent.size + growth extent seq len }
    else extent
