-- The stream5 lines keep a sound draft.
use Rattle.std.proofs.Common.{◌≡◌, ℕ, ◌≤◌, ◌==◌, Bool, true, false, cond, List, length, Option, Some, None, Result, refl, arith, ◌&&◌, []}
use Rattle.std.specs.Prelude.{IfSome, All, nat_le, unwrap_or, codes, is_none}
use Rattle.std.specs.Option.{option_and_then}
use Rattle.std.proofs.lemmas.Bool.Decides.{nat_tests}
use Rattle.std.proofs.lemmas.List.Elements.{All-push, All-nil}
use Rattle.net_lists.specs.Cutting.{after_word, first_word}
use Rattle.net_lists.specs.Folds.{draft_after}
use Rattle.net_lists.specs.Numbers.{number_in}
use Rattle.net_lists.specs.Variables.{Variables}
use Rattle.net_lists.specs.declared.part.Part.{Part as PortPart}
use Rattle.net_lists.specs.declared.part.ValueBounds.{ValueBounds}
use Rattle.net_lists.proofs.Steps.{Holds, given, refused, tested, unless, kinded, chained, after_any, folded, ranged, number_in-within, steps}
use Rattle.conf_types.specs.declared.config.StreamEngine.{StreamEngine}
use Rattle.conf_parser.specs.declared.draft.StreamDraft.{StreamDraft}
use Rattle.conf_parser.specs.declared.draft.StreamGlobal.{StreamGlobal}
use Rattle.conf_parser.specs.declared.line.ConfKind.{ConfKind}
use Rattle.conf_parser.specs.declared.line.ConfKind.TheVariants.{BadValue}
use Rattle.conf_parser.specs.declared.stream5.GlobalName.{GlobalName}
use Rattle.conf_parser.specs.declared.stream5.GlobalName.TheVariants as global
use Rattle.conf_parser.specs.declared.stream5.Partial.{Partial}
use Rattle.conf_parser.specs.declared.stream5.PortsSide.{PortsSide}
use Rattle.conf_parser.specs.declared.stream5.PortsSide.TheVariants.{Client, Server, Both}
use Rattle.conf_parser.specs.declared.stream5.TcpDraft.{TcpDraft}
use Rattle.conf_parser.specs.declared.stream5.TcpName.{TcpName}
use Rattle.conf_parser.specs.declared.stream5.TcpName.TheVariants as tcp
use Rattle.conf_parser.specs.Settings.{stream_of, default_global}
use Rattle.conf_types.specs.Sound.{IsWithin, IsStreamEngine, IsStreamConfig}
use Rattle.conf_types.specs.Defaults.{default_stream_engine}
use Rattle.conf_parser.specs.Stream5.{complete, onward, whole, stream_parts, global_value, global_name, wants_value, tcp_name, lacks_value, has_default}
use Rattle.conf_parser.specs.Stream5.{named_global, global_part, global_values, with_global, stream5_global, udp_part}
use Rattle.conf_parser.specs.Stream5.{udp_timeout, with_udp, stream5_udp, limit_from, queue_limit, handshake_seconds}
use Rattle.conf_parser.specs.Stream5.{side, with_ports, ports_value, engine_value, tcp_value, named_tcp}
use Rattle.conf_parser.specs.Stream5.{tcp_part, first_tcp, engine_of, tcp_settings, with_engine, stream5_tcp}
use Rattle.conf_parser.specs.Values.{◌>>=◌, mapped, is_empty, or_kind, is_word, setting_text}
use Rattle.conf_parser.proofs.Sound.Steps.{changed, free, numbered, pushed-few}

-- the values of the global line
pub record IsStreamGlobal (values : StreamGlobal) : Type 0 where
  pub max_tcp : IsWithin 1 1048576 values.max_tcp
  pub max_udp : IsWithin 1 1048576 values.max_udp

-- what the stream5 lines read so far say
pub record IsStreamDraft (draft : StreamDraft) : Type 0 where
  pub global : IfSome draft.global IsStreamGlobal
  pub udp_timeout : IfSome draft.udp_timeout (IsWithin 1 86400)
  pub count : length draft.engines ≤ 1024
  pub engines : All IsStreamEngine draft.engines

-- ---- settings of which some may lack their value

module _ {D : Type 0} (P : D → Type 0) where
  abbrev pub Part : Partial D → Type 0
  Part partial = P partial.draft

  pub onward-sound : (partial : Partial D) {read : Result D ConfKind} → Holds P read → Holds Part (onward partial read)
  onward-sound partial p = changed _ p (λ draft q. q)

  pub whole-sound : (partial : Partial D) → P partial.draft → Holds P (whole partial)
  whole-sound partial p = unless _ _ (λ _. given p)

  -- all settings of a text
  pub parts-sound : {step : Partial D → List ℕ → Result (Partial D) ConfKind}
      → ((partial : Partial D) (part : List ℕ) → P partial.draft → Holds Part (step partial part))
      → (first : D)
      → P first
      → (parts : List (List ℕ))
      → Holds P (draft_after step (complete first) parts >>= whole)
  parts-sound keeps first p parts = chained (folded keeps (complete first) parts p) whole-sound

-- ---- stream5_global

global_value-sound : (values : StreamGlobal) (name : GlobalName) (value : List ℕ) → IsStreamGlobal values → Holds IsStreamGlobal (global_value values name value)
global_value-sound values global.TrackTcp value sound = search (free, sound)
global_value-sound values global.TrackUdp value sound = search (free, sound)
global_value-sound values global.TrackIcmp value sound = search (free, sound)
global_value-sound values global.MaxTcp value sound = search (numbered, sound)
global_value-sound values global.MaxUdp value sound = search (numbered, sound)
global_value-sound values global.Unread value sound = given sound

named_global-sound : (partial : Partial StreamGlobal) (name : GlobalName) (value : List ℕ) → IsStreamGlobal partial.draft → Holds (Part IsStreamGlobal) (named_global partial name value)
unfolding named_global
named_global-sound partial name value sound =
    tested (wants_value name && is_empty value) (λ _. given sound) (λ _. onward-sound IsStreamGlobal partial (global_value-sound partial.draft name value sound))

global_part-sound : (partial : Partial StreamGlobal) (part : List ℕ) → IsStreamGlobal partial.draft → Holds (Part IsStreamGlobal) (global_part partial part)
unfolding global_part
global_part-sound partial part sound = after_any (or_kind BadValue (global_name (first_word part))) (λ name. named_global-sound partial name (after_word part) sound)

default-sound : IsStreamGlobal default_global
default-sound = record { max_tcp = (omega arith, omega arith); max_udp = (omega arith, omega arith) }

global_values-sound : (text : List ℕ) → Holds IsStreamGlobal (global_values text)
unfolding global_values
global_values-sound text = parts-sound IsStreamGlobal global_part-sound default_global default-sound (stream_parts text)

pub stream5_global-sound : (draft : StreamDraft) (rest : List ℕ) → IsStreamDraft draft → Holds IsStreamDraft (stream5_global draft rest)
unfolding stream5_global with_global
stream5_global-sound draft rest sound = after_any (setting_text rest) (λ text. chained (global_values-sound text) (λ values within. search (steps, sound, within) depth 9))

-- ---- stream5_udp

udp_part-sound : (partial : Partial ℕ) (part : List ℕ) → IsWithin 1 86400 partial.draft → Holds (Part (IsWithin 1 86400)) (udp_part partial part)
unfolding udp_part
udp_part-sound partial part within =
    tested (is_word (first_word part) (codes "ignore_any_rules")) (λ _. tested (is_empty (after_word part)) (λ _. given within) (λ _. refused)) (λ _.
    tested (is_word (first_word part) (codes "timeout")) (λ _.
    tested (is_empty (after_word part)) (λ _. given within) (λ _. onward-sound (IsWithin 1 86400) partial (ranged BadValue 1 86400 (after_word part))))
    (λ _. refused))

udp_timeout-sound : (text : List ℕ) → Holds (IsWithin 1 86400) (udp_timeout text)
unfolding udp_timeout
udp_timeout-sound text = parts-sound (IsWithin 1 86400) udp_part-sound 30 (omega arith, omega arith) (stream_parts text)

pub stream5_udp-sound : (draft : StreamDraft) (rest : List ℕ) → IsStreamDraft draft → Holds IsStreamDraft (stream5_udp draft rest)
unfolding stream5_udp with_udp
stream5_udp-sound draft rest sound = after_any (setting_text rest) (λ text. chained (udp_timeout-sound text) (λ timeout within. search (steps, sound, within) depth 9))

-- ---- stream5_tcp

limit-within : (least : ℕ) → least ≤ 1073741824 → (number : ℕ) → IsWithin 0 1073741824 number → IfSome (limit_from least number) (IsWithin least 1073741824)
limit-within least fits number within = by (number == 0) (nat_le least number) refl where
  by : (zero enough : Bool) → nat_le least number ≡ enough → IfSome (cond zero (Some 1073741824) (cond enough (Some number) None)) (IsWithin least 1073741824)
  by true enough is = (fits, omega arith)
  by false true is = (grind (arith, nat_tests), within.1)
  by false false is = tt

then-within : (P Q : ℕ → Type 0) (o : Option ℕ) (next : ℕ → Option ℕ) → IfSome o P → ((n : ℕ) → P n → IfSome (next n) Q) → IfSome (option_and_then next o) Q
then-within P Q None next p q = tt
then-within P Q (Some n) next p q = q n p

queue_limit-within : (least : ℕ) → least ≤ 1073741824 → (value : List ℕ) → IfSome (queue_limit least value) (IsWithin least 1073741824)
unfolding queue_limit
queue_limit-within least fits value =
    then-within (IsWithin 0 1073741824) (IsWithin least 1073741824) (number_in 0 1073741824 value) (limit_from least)
    (number_in-within 0 1073741824 value) (limit-within least fits)

handshake-within : (value : List ℕ) → IfSome (handshake_seconds value) (IsWithin 0 86400)
unfolding handshake_seconds
handshake-within value = by (is_empty value) (number_in 0 86400 value) (number_in-within 0 86400 value) where
  by : (none : Bool) (read : Option ℕ) → IfSome read (IsWithin 0 86400) → IfSome (cond none (Some 0) read) (IsWithin 0 86400)
  by true read p = (omega arith, omega arith)
  by false read p = p

module _ (variables : Variables) where
  engine_value-sound : (engine : StreamEngine) (name : TcpName) (value : List ℕ) → IsStreamEngine engine → Holds IsStreamEngine (engine_value variables engine name value)
  engine_value-sound engine tcp.Policy value sound = search (free, sound)
  engine_value-sound engine tcp.Timeout value sound = search (numbered, sound)
  engine_value-sound engine tcp.BindTo value sound = search (free, sound)
  engine_value-sound engine tcp.Handshake value sound = changed _ (kinded BadValue (handshake_seconds value) (handshake-within value)) (λ n within. search (within, sound))
  engine_value-sound engine tcp.QueuedBytes value sound = changed _ (kinded BadValue (queue_limit 1024 value) (queue_limit-within 1024 (omega arith) value)) (λ n within. search (within, sound))
  engine_value-sound engine tcp.QueuedSegs value sound = changed _ (kinded BadValue (queue_limit 2 value) (queue_limit-within 2 (omega arith) value)) (λ n within. search (within, sound))
  engine_value-sound engine tcp.Ports value sound = given sound
  engine_value-sound engine tcp.Unread value sound = given sound

  -- an engine with its ports
  abbrev Tcp : TcpDraft → Type 0
  Tcp draft = IsStreamEngine draft.engine

  ports_value-sound : (draft : TcpDraft) (value : List ℕ) → Tcp draft → Holds Tcp (ports_value draft value)
  unfolding ports_value
  ports_value-sound draft value sound = after_any (or_kind BadValue (side (first_word value))) (λ side. after_any _ (λ ports. given (kept side ports)))
    where
      kept : (side : PortsSide) (ports : Option (List (PortPart (ValueBounds ℕ)))) → Tcp (with_ports draft side ports)
      kept Client ports = sound
      kept Server ports = sound
      kept Both ports = sound

  valued : (draft : TcpDraft) (name : TcpName) (value : List ℕ) → Tcp draft → Holds Tcp (mapped (λ engine. record draft { engine = engine }) (engine_value variables draft.engine name value))
  valued draft name value sound = changed _ (engine_value-sound draft.engine name value sound) (λ engine one. one)

  tcp_value-sound : (draft : TcpDraft) (name : TcpName) (value : List ℕ) → Tcp draft → Holds Tcp (tcp_value variables draft name value)
  tcp_value-sound draft tcp.Ports value sound = ports_value-sound draft value sound
  tcp_value-sound draft tcp.Policy value sound = valued draft tcp.Policy value sound
  tcp_value-sound draft tcp.Timeout value sound = valued draft tcp.Timeout value sound
  tcp_value-sound draft tcp.BindTo value sound = valued draft tcp.BindTo value sound
  tcp_value-sound draft tcp.Handshake value sound = valued draft tcp.Handshake value sound
  tcp_value-sound draft tcp.QueuedBytes value sound = valued draft tcp.QueuedBytes value sound
  tcp_value-sound draft tcp.QueuedSegs value sound = valued draft tcp.QueuedSegs value sound
  tcp_value-sound draft tcp.Unread value sound = valued draft tcp.Unread value sound

  named_tcp-sound : (partial : Partial TcpDraft) (name : TcpName) (value : List ℕ) → Tcp partial.draft → Holds (Part Tcp) (named_tcp variables partial name value)
  unfolding named_tcp
  named_tcp-sound partial name value sound = tested (lacks_value name value) (λ _. given sound) (λ _. onward-sound Tcp partial (tcp_value-sound partial.draft name value sound))

  tcp_part-sound : (partial : Partial TcpDraft) (part : List ℕ) → Tcp partial.draft → Holds (Part Tcp) (tcp_part variables partial part)
  unfolding tcp_part
  tcp_part-sound partial part sound = after_any (or_kind BadValue (tcp_name (first_word part))) (λ name. named_tcp-sound partial name (after_word part) sound)

  first-sound : Tcp first_tcp
  unfolding default_stream_engine
  first-sound = record { timeout = (omega arith, omega arith); handshake = tt; bytes_limit = (omega arith, omega arith); segs_limit = (omega arith, omega arith) }

  tcp_settings-sound : (text : List ℕ) → Holds Tcp (tcp_settings variables text)
  unfolding tcp_settings
  tcp_settings-sound text = parts-sound Tcp tcp_part-sound first_tcp first-sound (stream_parts text)

  engine_of-sound : (draft : TcpDraft) → Tcp draft → IsStreamEngine (engine_of draft)
  unfolding engine_of
  engine_of-sound draft sound = record { timeout = sound.timeout; handshake = sound.handshake; bytes_limit = sound.bytes_limit; segs_limit = sound.segs_limit }

  with_engine-sound : (draft : StreamDraft) (engine : StreamEngine) → IsStreamDraft draft → IsStreamEngine engine → Holds IsStreamDraft (with_engine draft engine)
  unfolding with_engine
  with_engine-sound draft engine sound one =
      unless (is_none engine.bind && has_default draft.engines) _ (λ _.
      unless _ _ (λ few. given (record {
        global = sound.global;
        udp_timeout = sound.udp_timeout;
        count = pushed-few draft.engines engine few;
        engines = All-push IsStreamEngine draft.engines engine sound.engines one;
      })))

  pub stream5_tcp-sound : (draft : StreamDraft) (rest : List ℕ) → IsStreamDraft draft → Holds IsStreamDraft (stream5_tcp variables draft rest)
  unfolding stream5_tcp
  stream5_tcp-sound draft rest sound =
      after_any (setting_text rest) (λ text. chained (tcp_settings-sound text) (λ tcp one. with_engine-sound draft (engine_of tcp) sound (engine_of-sound tcp one)))

-- ---- before the first line and after the last

pub first_stream-sound : IsStreamDraft (record { global = None; udp_timeout = None; engines = [] })
first_stream-sound = record { global = tt; udp_timeout = tt; count = omega arith; engines = All-nil IsStreamEngine }

global-within : (values : Option StreamGlobal) → IfSome values IsStreamGlobal → IsStreamGlobal (unwrap_or values default_global)
global-within None within = default-sound
global-within (Some values) within = within

timeout-within : (timeout : Option ℕ) → IfSome timeout (IsWithin 1 86400) → IsWithin 1 86400 (unwrap_or timeout 30)
timeout-within None within = (omega arith, omega arith)
timeout-within (Some timeout) within = within

pub stream_of-sound : (draft : StreamDraft) → IsStreamDraft draft → IsStreamConfig (stream_of draft)
unfolding stream_of
stream_of-sound draft sound =
    let values = global-within draft.global sound.global in
    record {
      max_tcp = values.max_tcp;
      max_udp = values.max_udp;
      udp_timeout = timeout-within draft.udp_timeout sound.udp_timeout;
      count = sound.count;
      engines = sound.engines;
    }
