-- A capture that was made in memory: what is left of it.
--
-- Its bytes are those of pcap_input specs/Generated. To try it on: of four bytes after its file header, of
-- which one was read, three are left; after an attempt to open something else nothing is.
use Rattle.std.specs.Prelude.{ℕ, List, Option, option_map}
use Rattle.std.specs.Borrow.{Bor}
use Rattle.snort_engine.specs.declared.made.MadeCapture.{MadeCapture}

abbrev pub bytes_of : Bor (List ℕ) → List ℕ
bytes_of slice = slice.now

-- the bytes that are left, while it is open
abbrev pub left_of : MadeCapture → Option (List ℕ)
left_of made = option_map bytes_of made.rest
