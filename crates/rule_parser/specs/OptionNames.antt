-- The names of options (Snort Users Manual 2.9, chapter 3).
--
-- To try it on: `http_uri` and `rpc` are outside the profile, `sid` is a name, and `Sid` is none.
use Rattle.std.specs.Prelude.{ℕ, ◌||◌, Bool, Option, Some, None, List, bytes_eq, codes, nat_eq, if◌then◌else◌}
use Rattle.std.specs.List.{starts_with}
use Rattle.rule_types.specs.declared.option.Field.{Field}
use Rattle.rule_types.specs.declared.option.Field.TheVariants as field
use Rattle.rule_parser.specs.declared.names.TextName.{TextName}
use Rattle.rule_parser.specs.declared.names.TextName.TheVariants as text
use Rattle.rule_parser.specs.declared.names.Modifier.{Modifier}
use Rattle.rule_parser.specs.declared.names.Modifier.TheVariants as modifier
use Rattle.rule_parser.specs.declared.names.PayloadName.{PayloadName}
use Rattle.rule_parser.specs.declared.names.PayloadName.TheVariants as payload
use Rattle.rule_parser.specs.declared.names.SessionName.{SessionName}
use Rattle.rule_parser.specs.declared.names.SessionName.TheVariants as session

-- names of what a rule says of itself
unfoldable pub text_name : List ℕ → Option TextName
text_name name =
    if bytes_eq name (codes "msg") then Some text.Msg
    else if bytes_eq name (codes "gid") then Some text.Gid
    else if bytes_eq name (codes "sid") then Some text.Sid
    else if bytes_eq name (codes "rev") then Some text.Rev
    else if bytes_eq name (codes "priority") then Some text.Priority
    else if bytes_eq name (codes "classtype") then Some text.Classtype
    else if bytes_eq name (codes "reference") || bytes_eq name (codes "metadata") then Some text.Ignored
    else None

-- modifiers of a content
unfoldable pub modifier_name : List ℕ → Option Modifier
modifier_name name =
    if bytes_eq name (codes "nocase") then Some modifier.Nocase
    else if bytes_eq name (codes "rawbytes") then Some modifier.Rawbytes
    else if bytes_eq name (codes "offset") then Some modifier.Offset
    else if bytes_eq name (codes "depth") then Some modifier.Depth
    else if bytes_eq name (codes "distance") then Some modifier.Distance
    else if bytes_eq name (codes "within") then Some modifier.Within
    else if bytes_eq name (codes "fast_pattern") then Some modifier.FastPattern
    else None

-- tests of a payload
unfoldable pub payload_name : List ℕ → Option PayloadName
payload_name name =
    if bytes_eq name (codes "content") then Some payload.Content
    else if bytes_eq name (codes "pcre") then Some payload.Pcre
    else if bytes_eq name (codes "byte_test") then Some payload.ByteTest
    else if bytes_eq name (codes "byte_jump") then Some payload.ByteJump
    else if bytes_eq name (codes "byte_extract") then Some payload.ByteExtract
    else if bytes_eq name (codes "isdataat") then Some payload.IsDataAt
    else None

-- tests of a session and of a packet as a whole
unfoldable pub session_name : List ℕ → Option SessionName
session_name name =
    if bytes_eq name (codes "flow") then Some session.Flow
    else if bytes_eq name (codes "flags") then Some session.Flags
    else if bytes_eq name (codes "fragbits") then Some session.FragBits
    else if bytes_eq name (codes "detection_filter") then Some session.DetectionFilter
    else if bytes_eq name (codes "dsize") then Some session.Dsize
    else if bytes_eq name (codes "sameip") then Some session.SameIp
    else if bytes_eq name (codes "stream_size") then Some session.StreamSize
    else if bytes_eq name (codes "stream_reassemble") then Some session.StreamReassemble
    else None

-- tests of one number of a header
unfoldable pub ip_field : List ℕ → Option Field
ip_field name =
    if bytes_eq name (codes "ttl") then Some field.Ttl
    else if bytes_eq name (codes "tos") then Some field.Tos
    else if bytes_eq name (codes "id") then Some field.Id
    else if bytes_eq name (codes "fragoffset") then Some field.FragOffset
    else if bytes_eq name (codes "ip_proto") then Some field.IpProto
    else None

unfoldable pub body_field : List ℕ → Option Field
body_field name =
    if bytes_eq name (codes "seq") then Some field.Seq
    else if bytes_eq name (codes "ack") then Some field.Ack
    else if bytes_eq name (codes "window") then Some field.Window
    else if bytes_eq name (codes "itype") then Some field.Itype
    else if bytes_eq name (codes "icode") then Some field.Icode
    else if bytes_eq name (codes "icmp_id") then Some field.IcmpId
    else if bytes_eq name (codes "icmp_seq") then Some field.IcmpSeq
    else None

-- the beginnings of names outside the profile
unfoldable pub has_outside_front : List ℕ → Bool
has_outside_front name =
    starts_with nat_eq name (codes "http_")
    || starts_with nat_eq name (codes "dce_")
    || starts_with nat_eq name (codes "sip_")
    || starts_with nat_eq name (codes "ssl_")
    || starts_with nat_eq name (codes "gtp_")
    || starts_with nat_eq name (codes "modbus_")
    || starts_with nat_eq name (codes "dnp3_")
    || starts_with nat_eq name (codes "cip_")

-- names outside the profile: buffers and decoders
unfoldable pub is_outside_payload : List ℕ → Bool
is_outside_payload name =
    bytes_eq name (codes "uricontent")
    || bytes_eq name (codes "urilen")
    || bytes_eq name (codes "file_data")
    || bytes_eq name (codes "pkt_data")
    || bytes_eq name (codes "base64_decode")
    || bytes_eq name (codes "base64_data")
    || bytes_eq name (codes "ftpbounce")
    || bytes_eq name (codes "asn1")
    || bytes_eq name (codes "cvs")
    || bytes_eq name (codes "rpc")
    || bytes_eq name (codes "ipopts")
    || bytes_eq name (codes "byte_math")

-- names outside the profile: what follows an alert
unfoldable pub is_outside_action : List ℕ → Bool
is_outside_action name =
    bytes_eq name (codes "logto")
    || bytes_eq name (codes "session")
    || bytes_eq name (codes "resp")
    || bytes_eq name (codes "react")
    || bytes_eq name (codes "tag")
    || bytes_eq name (codes "replace")
    || bytes_eq name (codes "activates")
    || bytes_eq name (codes "activated_by")
    || bytes_eq name (codes "count")
    || bytes_eq name (codes "threshold")

-- names outside the profile: all others
unfoldable pub is_outside_other : List ℕ → Bool
is_outside_other name =
    bytes_eq name (codes "protected_content")
    || bytes_eq name (codes "hash")
    || bytes_eq name (codes "length")
    || bytes_eq name (codes "appid")
    || bytes_eq name (codes "sd_pattern")
    || bytes_eq name (codes "file_type")
    || bytes_eq name (codes "file_group")

-- a name outside the profile
unfoldable pub is_outside : List ℕ → Bool
is_outside name = has_outside_front name || is_outside_payload name || is_outside_action name || is_outside_other name
