-- What events are counted by: the rule or the line that counts them, the event's generator and number,
-- and the tracked address.
--
-- To try it on: two events of one rule from 10.0.0.1 have one key where a line tracks by source, also
-- where they go to two addresses.
use Rattle.std.specs.Prelude.{Bool, ◌&&◌, ◌==◌, if◌then◌else◌}
use Rattle.edge_io.specs.declared.address.Addr.{Addr}
use Rattle.edge_io.specs.Addresses.{same_addr}
use Rattle.packet_decode.specs.declared.item.ItemHead.{ItemHead}
use Rattle.event_filters.specs.declared.counting.CountKey.{CountKey}

-- the two keys are one
abbrev pub same_key : CountKey → CountKey → Bool
same_key a b = (a.place == b.place) && (a.gid == b.gid) && (a.sid == b.sid) && same_addr a.addr b.addr

-- the address of an item that is tracked: its source, or else its destination
abbrev pub tracked : Bool → ItemHead → Addr
tracked by_src head = if by_src then head.ip.src else head.ip.dst
