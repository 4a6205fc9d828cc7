-- The lines of a Unified2 file, one for each record.
--
-- An event tells its number, its rule, when it came about, and its two ends; a packet the number of its event
-- and how many bytes it has; any other record its kind and how many bytes its body has. The form is our own.
-- To try it on: the event 1 of rule 1:1:0 at second 0, from 10.0.0.1 port 1000 to 10.0.0.2 port 2000, is
-- `event 1 [1:1:0] 0.000000 10.0.0.1:1000 -> 10.0.0.2:2000`, and its packet of 45 bytes `packet 1 45 bytes`.
use Rattle.std.specs.Prelude.{◌≡◌, ℕ, nat_lt, if◌then◌else◌, List, ◌++◌, length, codes, decimal}
use Rattle.std.specs.List.{flat_map}
use Rattle.edge_io.specs.declared.address.Addr.{Addr}
use Rattle.alert_fast.specs.Line.{address_text}
use Rattle.alert_fast.specs.Pieces.{digits}
use Rattle.unified2_out.specs.declared.record.U2Event.{U2Event}
use Rattle.unified2_out.specs.declared.record.U2.{U2}
use Rattle.unified2_out.specs.declared.record.U2.TheVariants.{Event, Packet, Other}
use Rattle.unified2_out.specs.Reading.{AreRecordsOf}

-- a number of microseconds in six digits, or in more where it has more
unfoldable pub micro_text : ℕ → List ℕ
micro_text micro = if nat_lt micro 1_000_000 then digits 6 micro else decimal micro

-- an address with its port
unfoldable pub end_text : Addr → ℕ → List ℕ
end_text address port = address_text address ++ (codes ":" ++ decimal port)

-- the number of an event, its rule, and its second
unfoldable pub event_front : U2Event → List ℕ
event_front event =
    codes "event " ++ (decimal event.id
    ++ (codes " [" ++ (decimal event.gid ++ (codes ":" ++ (decimal event.sid ++ (codes ":" ++ (decimal event.rev
    ++ (codes "] " ++ (decimal event.second ++ codes ".")))))))))

unfoldable pub event_line : U2Event → List ℕ
event_line event =
    event_front event ++ (micro_text event.micro ++ (codes " "
    ++ ((end_text event.src event.sport ++ codes " -> ") ++ (end_text event.dst event.dport ++ codes "\n"))))

-- a word, a number, and how many bytes there are
unfoldable pub counted_line : List ℕ → ℕ → ℕ → List ℕ
counted_line word number count = word ++ (decimal number ++ (codes " " ++ (decimal count ++ codes " bytes\n")))

unfoldable pub entry_line : U2 → List ℕ
entry_line (Event event) = event_line event
entry_line (Packet packet) = counted_line (codes "packet ") packet.id (length packet.bytes)
entry_line (Other kind bytes) = counted_line (codes "other ") kind (length bytes)

-- the lines of records
abbrev pub entry_lines : List U2 → List ℕ
entry_lines entries = flat_map entry_line entries

-- bytes are records, and these are the lines of them
pub record AreLinesOf (bytes lines : List ℕ) : Type 0 where
  pub entries : List U2
  pub are : AreRecordsOf bytes entries
  pub is : lines ≡ entry_lines entries
