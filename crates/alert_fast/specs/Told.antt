-- What an alert line tells, and how a line is read.
--
-- A line is read as an alert whose text it is, to the letter. It has no year. Own: where several alerts have one line,
-- the one with the longest message is read, and with ports where the protocol is TCP or UDP, without for others.
-- So `a [**] [Classification: b [**] [Priority: 1]` has the message `a [**] [Classification: b` and no class, and
-- `{TCP} fe80::1:80 -> fe80::2:90` the ports 80 and 90, where it might be two addresses that end so.
-- To try it on: `02/29` may be in a line, since some year has that day, and `02/30` may not.
use Rattle.std.specs.Prelude.{◌≡◌, ◌≢◌, ℕ, ◌/◌, ◌%◌, ◌^◌, ◌<◌, ◌≤◌, ◌==◌, ◌||◌, Bool, List, [], ◌++◌, Option, None, Some, option_map, is_some, length, codes, decimal, ⊤}
use Rattle.std.specs.Borrow.{Bor}
use Rattle.edge_io.specs.declared.address.Addr.{Addr}
use Rattle.edge_io.specs.declared.address.Addr.TheVariants.{V4, V6}
use Rattle.alert_fast.specs.declared.told.LineTime.{LineTime}
use Rattle.alert_fast.specs.declared.told.RuleMark.{RuleMark}
use Rattle.alert_fast.specs.declared.told.LineEnds.{LineEnds}
use Rattle.alert_fast.specs.Calendar.{days_in_month}
use Rattle.alert_fast.specs.Pieces.{digits}
use Rattle.alert_fast.specs.Line.{marked_msg, priority_text, protocol_text, address_text, port_text}
use Rattle.alert_fast.specs.Words.{IsNumber, IsPort, IsMicros}

-- what a line tells, with its texts
pub record LineFacts : Type 0 where
  pub time : LineTime
  pub mark : RuleMark
  pub msg : List ℕ
  pub class : Option (List ℕ)
  pub priority : ℕ
  pub protocol : ℕ
  pub ends : LineEnds

-- date and time, as 02/29-23:59:59.999999
unfoldable pub line_time_text : LineTime → List ℕ
line_time_text time =
    digits 2 time.month ++ codes "/" ++ digits 2 time.day ++ codes "-" ++ digits 2 time.hour ++ codes ":"
    ++ digits 2 time.minute ++ codes ":" ++ digits 2 time.second ++ codes "." ++ digits 6 time.microsecond

-- the classification, where there is one, and a blank
unfoldable pub named_class : Option (List ℕ) → List ℕ
named_class None = []
named_class (Some text) = codes "[Classification: " ++ text ++ codes "] "

-- the ports
abbrev pub first_port : Option (ℕ × ℕ) → Option ℕ
first_port ports = option_map (λ (p : ℕ × ℕ). p.0) ports

abbrev pub second_port : Option (ℕ × ℕ) → Option ℕ
second_port ports = option_map (λ (p : ℕ × ℕ). p.1) ports

-- the line
unfoldable pub told_text : LineFacts → List ℕ
told_text told =
    (line_time_text told.time ++ codes "  ")
    ++ marked_msg told.mark.gid told.mark.sid told.mark.rev told.msg
    ++ named_class told.class ++ priority_text told.priority
    ++ (codes "{" ++ protocol_text told.protocol ++ codes "} ")
    ++ address_text told.ends.src ++ (port_text (first_port told.ends.ports) ++ codes " -> ")
    ++ address_text told.ends.dst ++ (port_text (second_port told.ends.ports) ++ codes "\n")

-- a day that some year has, and a time of day
abbrev pub IsLineTime : LineTime → Type 0
IsLineTime time =
    (1 ≤ time.month) × (time.month ≤ 12) × (1 ≤ time.day) × (time.day ≤ days_in_month 1972 time.month)
    × (time.hour < 24) × (time.minute < 60) × (time.second < 60) × IsMicros time.microsecond

-- the numbers have their widths
abbrev pub IsV4 : ℕ → Type 0
IsV4 address = address < 2 ^ 32

abbrev pub IsV6 : ℕ → Type 0
IsV6 address = address < 2 ^ 128

abbrev pub IsAddr : Addr → Type 0
IsAddr (V4 address) = IsV4 address
IsAddr (V6 address) = IsV6 address

abbrev pub ArePorts : Option (ℕ × ℕ) → Type 0
ArePorts None = ⊤
ArePorts (Some ports) = IsPort ports.0 × IsPort ports.1

abbrev pub AreEnds : LineEnds → Type 0
AreEnds ends = IsAddr ends.src × IsAddr ends.dst × ArePorts ends.ports

abbrev pub IsTold : LineFacts → Type 0
IsTold told =
    IsLineTime told.time × (IsNumber told.mark.gid × IsNumber told.mark.sid × IsNumber told.mark.rev)
    × IsNumber told.priority × (told.protocol < 256)
    × AreEnds told.ends

-- TCP and UDP have ports
unfoldable pub has_ports : ℕ → Bool
has_ports protocol = (protocol == 6) || (protocol == 17)

-- ports are in the line exactly if the protocol has them
abbrev pub HasOwnPorts : LineFacts → Type 0
HasOwnPorts told = is_some told.ends.ports ≡ has_ports told.protocol

-- the line is read as this alert
pub record IsReading (line : List ℕ) (told : LineFacts) : Type 0 where
  pub fits : IsTold told
  pub spelled : told_text told ≡ line
  pub longest : (other : LineFacts) → IsTold other → told_text other ≡ line → length other.msg ≤ length told.msg
  pub ported : (other : LineFacts) → IsTold other → told_text other ≡ line → HasOwnPorts other → HasOwnPorts told

-- the line is that of no alert
abbrev pub NoReading : List ℕ → Type 0
NoReading line = (other : LineFacts) → IsTold other → told_text other ≢ line

-- bytes that are lent
abbrev pub lent : Option (Bor (List ℕ)) → Option (List ℕ)
lent bytes = option_map (λ (b : Bor (List ℕ)). b.now) bytes
