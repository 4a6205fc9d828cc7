-- The stream5 lines: which sessions are tracked, and how their data are put together. (Snort Users Manual 2.9,
-- sections 2.2.2 and 2.2.3.)
--
-- Settings are between commas outside brackets; the first word names the setting, and the rest is its value.
-- A setting that is given again replaces the one before, but several `ports` add up. A setting without its
-- value is a part that lacks, and counts at the end of the line.
-- To try it on: `stream5_tcp: timeout, bind_to 10.0` is a bad address list, and `stream5_tcp: timeout` a bad
-- value; `ports client 21, ports both 80` are the client ports 21 and 80 and the server port 80.
use Rattle.std.specs.Prelude.{ℕ, ◌==◌, ◌&&◌, ◌||◌, ◌++◌, Bool, true, false, Option, Some, None, Result, Ok, Err, List, [], ◌∷◌, length, map, is_some, is_none, option_and_then, codes, nat_le, if◌then◌else◌}
use Rattle.std.specs.List.{list_any}
use Rattle.net_lists.specs.declared.part.Part.{Part}
use Rattle.net_lists.specs.declared.part.ValueBounds.{ValueBounds}
use Rattle.net_lists.specs.Parts.{one_port}
use Rattle.net_lists.specs.Numbers.{number_in}
use Rattle.net_lists.specs.Variables.{Variables}
use Rattle.net_lists.specs.Cutting.{words, comma_parts, first_word, after_word}
use Rattle.net_lists.specs.Folds.{draft_after}
use Rattle.conf_types.specs.declared.config.StreamEngine.{StreamEngine}
use Rattle.conf_types.specs.Defaults.{default_ports, default_stream_engine}
use Rattle.conf_parser.specs.declared.draft.StreamDraft.{StreamDraft}
use Rattle.conf_parser.specs.declared.draft.StreamGlobal.{StreamGlobal}
use Rattle.conf_parser.specs.declared.stream5.Partial.{Partial}
use Rattle.conf_parser.specs.declared.stream5.TcpDraft.{TcpDraft}
use Rattle.conf_parser.specs.declared.stream5.PortsSide.{PortsSide}
use Rattle.conf_parser.specs.declared.stream5.PortsSide.TheVariants.{Client, Server, Both}
use Rattle.conf_parser.specs.declared.stream5.GlobalName.{GlobalName}
use Rattle.conf_parser.specs.declared.stream5.GlobalName.TheVariants as global
use Rattle.conf_parser.specs.declared.stream5.TcpName.{TcpName}
use Rattle.conf_parser.specs.declared.stream5.TcpName.TheVariants as tcp
use Rattle.conf_parser.specs.declared.line.ConfKind.{ConfKind}
use Rattle.conf_parser.specs.declared.line.ConfKind.TheVariants.{BadValue, OutsideProfile, Duplicate, Limit}
use Rattle.conf_parser.specs.Values.{◌>>=◌, or_kind, mapped, is_word, is_empty, setting_text, expanded_addresses, yes_or_no}
use Rattle.edge_io.specs.Policies.{stream_policy}
use Rattle.conf_parser.specs.Settings.{default_global}

-- the settings of a line's text: none where it is empty
abbrev pub stream_parts : List ℕ → List (List ℕ)
stream_parts text = if is_empty text then [] else comma_parts text

-- what the settings read so far say, of which none lacked its value
abbrev pub complete : {D : Type 0} → D → Partial D
complete draft = record { draft = draft; lacks = false }

-- the draft after a setting that lacks its value
abbrev pub lacking : {D : Type 0} → Partial D → Partial D
lacking partial = record partial { lacks = true }

-- the draft after a setting that was read
abbrev pub onward : {D : Type 0} → Partial D → Result D ConfKind → Result (Partial D) ConfKind
onward partial read = mapped (λ draft. record partial { draft = draft }) read

-- what the whole line says, if no setting lacked its value
abbrev pub whole : {D : Type 0} → Partial D → Result D ConfKind
whole partial = if partial.lacks then Err BadValue else Ok partial.draft

-- settings of `stream5_global` that change nothing; what follows them is not read
unfoldable pub is_unread_global : List ℕ → Bool
is_unread_global name =
    is_word name (codes "max_icmp") || is_word name (codes "max_ip") || is_word name (codes "memcap")
    || is_word name (codes "flush_on_alert") || is_word name (codes "show_rebuilt_packets")
    || is_word name (codes "prune_log_max")
    || is_word name (codes "max_active_responses") || is_word name (codes "min_response_seconds")

-- the settings of `stream5_global`
unfoldable pub global_name : List ℕ → Option GlobalName
global_name name =
    if is_word name (codes "track_tcp") then Some global.TrackTcp
    else if is_word name (codes "track_udp") then Some global.TrackUdp
    else if is_word name (codes "track_icmp") then Some global.TrackIcmp
    else if is_word name (codes "max_tcp") then Some global.MaxTcp
    else if is_word name (codes "max_udp") then Some global.MaxUdp
    else if is_unread_global name then Some global.Unread
    else None

-- `track_icmp`: no; sessions of ICMP are outside this profile
unfoldable pub track_icmp : List ℕ → Result Bool ConfKind
track_icmp value =
    if is_word (first_word value) (codes "yes") then Err OutsideProfile
    else if is_word value (codes "no") then Ok false
    else Err BadValue

-- the value of a setting of `stream5_global`
abbrev pub global_value : StreamGlobal → GlobalName → List ℕ → Result StreamGlobal ConfKind
global_value values global.TrackTcp value = mapped (λ b. record values { track_tcp = b }) (or_kind BadValue (yes_or_no value))
global_value values global.TrackUdp value = mapped (λ b. record values { track_udp = b }) (or_kind BadValue (yes_or_no value))
global_value values global.TrackIcmp value = mapped (λ b. values) (track_icmp value)
global_value values global.MaxTcp value =
    mapped (λ n. record values { max_tcp = n }) (or_kind BadValue (number_in 1 1048576 value))
global_value values global.MaxUdp value =
    mapped (λ n. record values { max_udp = n }) (or_kind BadValue (number_in 1 1048576 value))
global_value values global.Unread value = Ok values

-- the setting wants a value
abbrev pub wants_value : GlobalName → Bool
wants_value global.Unread = false
wants_value _ = true

-- a setting of `stream5_global` by its name
unfoldable pub named_global : Partial StreamGlobal → GlobalName → List ℕ → Result (Partial StreamGlobal) ConfKind
named_global partial name value =
    if wants_value name && is_empty value then Ok (lacking partial) else onward partial (global_value partial.draft name value)

-- one setting of `stream5_global`
unfoldable pub global_part : Partial StreamGlobal → List ℕ → Result (Partial StreamGlobal) ConfKind
global_part partial part =
    or_kind BadValue (global_name (first_word part)) >>= λ name. named_global partial name (after_word part)

-- the values that the settings of a text give
unfoldable pub global_values : List ℕ → Result StreamGlobal ConfKind
global_values text = draft_after global_part (complete default_global) (stream_parts text) >>= whole

-- the global line, which may be given once
unfoldable pub with_global : StreamDraft → StreamGlobal → Result StreamDraft ConfKind
with_global draft values = if is_some draft.global then Err Duplicate else Ok (record draft { global = Some values })

-- `stream5_global`, by what comes after the name
unfoldable pub stream5_global : StreamDraft → List ℕ → Result StreamDraft ConfKind
stream5_global draft rest = do
  text ← setting_text rest
  values ← global_values text
  with_global draft values

-- one setting of `stream5_udp`: its timeout, or `ignore_any_rules`, which has no value
unfoldable pub udp_part : Partial ℕ → List ℕ → Result (Partial ℕ) ConfKind
udp_part partial part =
    if is_word (first_word part) (codes "ignore_any_rules") then
    if is_empty (after_word part) then Ok partial else Err BadValue
    else if is_word (first_word part) (codes "timeout") then
    if is_empty (after_word part) then Ok (lacking partial)
    else onward partial (or_kind BadValue (number_in 1 86400 (after_word part)))
    else Err BadValue

-- the timeout that the settings of a text give
unfoldable pub udp_timeout : List ℕ → Result ℕ ConfKind
udp_timeout text = draft_after udp_part (complete 30) (stream_parts text) >>= whole

-- the line of UDP, which may be given once
unfoldable pub with_udp : StreamDraft → ℕ → Result StreamDraft ConfKind
with_udp draft timeout = if is_some draft.udp_timeout then Err Duplicate else Ok (record draft { udp_timeout = Some timeout })

-- `stream5_udp`, by what comes after the name
unfoldable pub stream5_udp : StreamDraft → List ℕ → Result StreamDraft ConfKind
stream5_udp draft rest = do
  text ← setting_text rest
  timeout ← udp_timeout text
  with_udp draft timeout

-- settings of `stream5_tcp` that change nothing; what follows them is not read
unfoldable pub is_unread_tcp : List ℕ → Bool
is_unread_tcp name =
    is_word name (codes "overlap_limit") || is_word name (codes "max_window") || is_word name (codes "detect_anomalies")
    || is_word name (codes "check_session_hijacking") || is_word name (codes "use_static_footprint_sizes")
    || is_word name (codes "dont_store_large_packets") || is_word name (codes "dont_reassemble_async")
    || is_word name (codes "small_segments")
    || is_word name (codes "ignore_any_rules") || is_word name (codes "flush_factor") || is_word name (codes "protocol")
    || is_word name (codes "log_asymmetric_traffic")

-- the settings of `stream5_tcp`
unfoldable pub tcp_name : List ℕ → Option TcpName
tcp_name name =
    if is_word name (codes "policy") then Some tcp.Policy
    else if is_word name (codes "timeout") then Some tcp.Timeout
    else if is_word name (codes "bind_to") then Some tcp.BindTo
    else if is_word name (codes "require_3whs") then Some tcp.Handshake
    else if is_word name (codes "max_queued_bytes") then Some tcp.QueuedBytes
    else if is_word name (codes "max_queued_segs") then Some tcp.QueuedSegs
    else if is_word name (codes "ports") then Some tcp.Ports
    else if is_unread_tcp name then Some tcp.Unread
    else None

-- a limit of at least `least`; 0 stands for the most that may be asked for
abbrev pub limit_from : ℕ → ℕ → Option ℕ
limit_from least number = if number == 0 then Some 1073741824 else if nat_le least number then Some number else None

-- a limit of at least `least`, at most 1073741824
unfoldable pub queue_limit : ℕ → List ℕ → Option ℕ
queue_limit least value = option_and_then (limit_from least) (number_in 0 1073741824 value)

-- the seconds after `require_3whs`, 0 where they lack
unfoldable pub handshake_seconds : List ℕ → Option ℕ
handshake_seconds value = if is_empty value then Some 0 else number_in 0 86400 value

-- whose ports a `ports` setting gives
unfoldable pub side : List ℕ → Option PortsSide
side word =
    if is_word word (codes "client") then Some Client
    else if is_word word (codes "server") then Some Server
    else if is_word word (codes "both") then Some Both
    else None

-- the ports so far and the one that a word spells
unfoldable pub port_word : List (Part (ValueBounds ℕ)) → List ℕ → Result (List (Part (ValueBounds ℕ))) ConfKind
port_word ports word = mapped (λ port. ports ++ one_port port ∷ []) (or_kind BadValue (number_in 0 65535 word))

-- `all` is every port, a list without parts; `none` is no list; else the numbers of the words
unfoldable pub port_words : List ℕ → Result (Option (List (Part (ValueBounds ℕ)))) ConfKind
port_words value =
    if is_word value (codes "all") then Ok (Some [])
    else if is_word value (codes "none") then Ok None
    else mapped (λ ports. Some ports) (draft_after port_word [] (words value))

-- the ports of both, where a list without parts has every port
abbrev pub joined_ports : Option (List (Part (ValueBounds ℕ))) → Option (List (Part (ValueBounds ℕ)))
    → Option (List (Part (ValueBounds ℕ)))
joined_ports None more = more
joined_ports (Some ports) None = Some ports
joined_ports (Some []) (Some more) = Some []
joined_ports (Some (port ∷ ports)) (Some []) = Some []
joined_ports (Some (port ∷ ports)) (Some (next ∷ more)) = Some ((port ∷ ports) ++ next ∷ more)

-- more ports for the client's data
abbrev pub with_client : TcpDraft → Option (List (Part (ValueBounds ℕ))) → TcpDraft
with_client draft ports = record draft { client = joined_ports draft.client ports; ports_stood = true }

-- more ports for the server's data
abbrev pub with_server : TcpDraft → Option (List (Part (ValueBounds ℕ))) → TcpDraft
with_server draft ports = record draft { server = joined_ports draft.server ports; ports_stood = true }

-- more ports on a side
abbrev pub with_ports : TcpDraft → PortsSide → Option (List (Part (ValueBounds ℕ))) → TcpDraft
with_ports draft Client ports = with_client draft ports
with_ports draft Server ports = with_server draft ports
with_ports draft Both ports = with_server (with_client draft ports) ports

-- `ports`: a side, and the ports that it has more
unfoldable pub ports_value : TcpDraft → List ℕ → Result TcpDraft ConfKind
ports_value draft value = do
  side ← or_kind BadValue (side (first_word value))
  ports ← port_words (after_word value)
  Ok (with_ports draft side ports)

-- the value of a setting other than `ports`
abbrev pub engine_value : Variables → StreamEngine → TcpName → List ℕ → Result StreamEngine ConfKind
engine_value variables engine tcp.Policy value =
    mapped (λ p. record engine { policy = p }) (or_kind BadValue (stream_policy value))
engine_value variables engine tcp.Timeout value =
    mapped (λ n. record engine { timeout = n }) (or_kind BadValue (number_in 1 86400 value))
engine_value variables engine tcp.BindTo value =
    mapped (λ list. record engine { bind = Some list }) (expanded_addresses variables value)
engine_value variables engine tcp.Handshake value =
    mapped (λ n. record engine { handshake = Some n }) (or_kind BadValue (handshake_seconds value))
engine_value variables engine tcp.QueuedBytes value =
    mapped (λ n. record engine { bytes_limit = n }) (or_kind BadValue (queue_limit 1024 value))
engine_value variables engine tcp.QueuedSegs value =
    mapped (λ n. record engine { segs_limit = n }) (or_kind BadValue (queue_limit 2 value))
engine_value variables engine tcp.Ports value = Ok engine
engine_value variables engine tcp.Unread value = Ok engine

-- the value of a setting
abbrev pub tcp_value : Variables → TcpDraft → TcpName → List ℕ → Result TcpDraft ConfKind
tcp_value variables draft tcp.Ports value = ports_value draft value
tcp_value variables draft name value =
    mapped (λ engine. record draft { engine = engine }) (engine_value variables draft.engine name value)

-- a `ports` setting without a side, or without ports after one
unfoldable pub lacks_ports : List ℕ → Bool
lacks_ports value = is_empty value || (is_some (side (first_word value)) && is_empty (after_word value))

-- the setting lacks its value
abbrev pub lacks_value : TcpName → List ℕ → Bool
lacks_value tcp.Ports value = lacks_ports value
lacks_value tcp.Handshake value = false
lacks_value tcp.Unread value = false
lacks_value _ value = is_empty value

-- a setting of `stream5_tcp` by its name
unfoldable pub named_tcp : Variables → Partial TcpDraft → TcpName → List ℕ → Result (Partial TcpDraft) ConfKind
named_tcp variables partial name value =
    if lacks_value name value then Ok (lacking partial) else onward partial (tcp_value variables partial.draft name value)

-- one setting of `stream5_tcp`
unfoldable pub tcp_part : Variables → Partial TcpDraft → List ℕ → Result (Partial TcpDraft) ConfKind
tcp_part variables partial part =
    or_kind BadValue (tcp_name (first_word part)) >>= λ name. named_tcp variables partial name (after_word part)

-- an engine before its settings: its ports come after the last of them
abbrev pub first_engine : StreamEngine
first_engine = record default_stream_engine { client_ports = None }

-- the draft of an engine before the first setting
abbrev pub first_tcp : TcpDraft
first_tcp = record { engine = first_engine; client = None; server = None; ports_stood = false }

-- the client's ports: the default where there is no `ports` setting
abbrev pub client_ports_of : TcpDraft → Option (List (Part (ValueBounds ℕ)))
client_ports_of draft = if draft.ports_stood then draft.client else Some (map one_port default_ports)

-- the engine that a line's settings give
unfoldable pub engine_of : TcpDraft → StreamEngine
engine_of draft = record (draft.engine) { client_ports = client_ports_of draft; server_ports = draft.server }

-- what the settings of a text give
unfoldable pub tcp_settings : Variables → List ℕ → Result TcpDraft ConfKind
tcp_settings variables text = draft_after (tcp_part variables) (complete first_tcp) (stream_parts text) >>= whole

-- an engine for all hosts is there
unfoldable pub has_default : List StreamEngine → Bool
has_default engines = list_any (λ engine. is_none engine.bind) engines

-- the draft with one engine more: one for all hosts may be given once, and at most 1024 in all
unfoldable pub with_engine : StreamDraft → StreamEngine → Result StreamDraft ConfKind
with_engine draft engine =
    if is_none engine.bind && has_default draft.engines then Err Duplicate
    else if nat_le 1024 (length draft.engines) then Err Limit
    else Ok (record draft { engines = draft.engines ++ engine ∷ [] })

-- `stream5_tcp`, by what comes after the name
unfoldable pub stream5_tcp : Variables → StreamDraft → List ℕ → Result StreamDraft ConfKind
stream5_tcp variables draft rest = do
  text ← setting_text rest
  tcp ← tcp_settings variables text
  with_engine draft (engine_of tcp)
