-- Records that hold bytes.
--
-- To try it on: a record of the bytes 0 and 255 holds bytes; the number 256 is none.
use Rattle.std.specs.Prelude.{◌<◌, ℕ, List}
use Rattle.std.specs.List.{All}
use Rattle.record_jobs.specs.Way.{LinkedRecord}

abbrev pub AreBytes : List ℕ → Type 0
AreBytes bytes = All (λ byte. byte < 256) bytes

abbrev pub HoldsBytes : LinkedRecord → Type 0
HoldsBytes r = AreBytes r.captured.bytes
