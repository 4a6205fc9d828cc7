-- A segment as contracts see it.
--
-- The word is that of RFC 9293, section 3.1, for a stream; a fragment of a datagram (RFC 791, section
-- 3.2) is one too, at its offset. To try it on: "bbbb" at 2 has its first byte at place 2 and its last
-- at place 5.
use Rattle.std.specs.Prelude.{ℕ, List}

-- the place of the first byte, and the bytes
pub record Segment : Type 0 where
  pub start : ℕ
  pub bytes : List ℕ
