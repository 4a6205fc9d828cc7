-- A capture cut after one of its records, and what a limit of records means by it.
--
-- The cut is the shortest beginning of the capture's bytes in which this many records are whole: of a savefile
-- up to the last byte of that record, of blocks up to the end of that record's block.
-- To try it on: of a savefile with three records of 60 bytes the beginning that is cut after the second has
-- 24 + 2 * (16 + 60) bytes; it holds those two, and its ending is clean.
use Rattle.std.specs.Prelude.{◌≡◌, ℕ, ◌+◌, ◌<◌, ◌≤◌, List, [], ◌∷◌, Some, None, length}
use mathlib.Core.List.{IsPrefix}
use Rattle.pcap_input.specs.Savefile.{file_header, record_header}
use Rattle.record_jobs.specs.Way.{LinkedRecord}
use Rattle.snort_engine.specs.Course.{Plan}
use Rattle.snort_engine.specs.Records.{records_in}

-- this many records at least are whole in these bytes
abbrev pub Holds : List ℕ → ℕ → Type 0
Holds bytes count = count ≤ length (records_in None bytes).records

-- the shortest beginning of a capture's bytes that holds this many records
pub record IsCutAfter (count : ℕ) (bytes front : List ℕ) : Type 0 where
  pub begins : IsPrefix front bytes
  pub holds : Holds front count
  pub shortest : (other : List ℕ) → IsPrefix other bytes → Holds other count → length front ≤ length other

-- how many bytes of a savefile records take, each with its header
abbrev pub bytes_of : List LinkedRecord → ℕ
bytes_of [] = 0
bytes_of (first ∷ later) = (record_header + length first.captured.bytes) + bytes_of later

-- where these records end, which come first in a savefile
abbrev pub end_of : List LinkedRecord → ℕ
end_of records = file_header + bytes_of records

-- a plan without its limit
abbrev pub unlimited : Plan → Plan
unlimited plan = record plan { limit = None }

-- a plan reads this many records, of a capture that has as many, and the front is that capture cut after them
pub record IsLimited (plan : Plan) (bytes front : List ℕ) : Type 0 where
  pub limit : ℕ
  pub is : plan.limit ≡ Some limit
  pub some : 0 < limit
  pub holds : Holds bytes limit
  pub cut : IsCutAfter limit bytes front
