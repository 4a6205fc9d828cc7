-- What records are made into jobs by, and what of it goes by an address.
--
-- An address goes by one engine: the first line whose `bind_to` has it, else the line without `bind_to`,
-- else the defaults (Snort Users Manual 2.9, sections 2.2.1 and 2.2.3). How its host puts together pieces
-- that overlap is what the host table says of it, else its engine's policy (Novak 2005; Novak and Sturges
-- 2007).
-- To try it on: of the lines `stream5_tcp: policy linux` and `stream5_tcp: policy last, bind_to 10.0.0.0/8`,
-- in this order, 10.0.0.1 goes by the second, whose place is 1, and 11.0.0.1 by the first, whose place is 0.
use Rattle.std.specs.Prelude.{ℕ, ◌+◌, ◌*◌, ◌&&◌, Bool, false, List, Option, Some, None, is_none, length, nat_le, position, unwrap_or}
use Rattle.std.specs.List.{find}
use Rattle.std.specs.Option.{option_or}
use Rattle.edge_io.specs.declared.address.Addr.{Addr}
use Rattle.edge_io.specs.declared.link.Link.{Link}
use Rattle.edge_io.specs.declared.policy.Preference.{Preference}
use Rattle.edge_io.specs.Policies.{frag_preference, stream_preference}
use Rattle.net_lists.specs.declared.part.AddrBounds.{AddrBounds}
use Rattle.net_lists.specs.declared.part.Part.{Part}
use Rattle.net_lists.specs.Verdicts.{has_address, is_listed}
use Rattle.packet_decode.specs.declared.checks.Checks.{Checks}
use Rattle.pcap_input.specs.declared.capture.Record.{Record}
use Rattle.host_table.specs.declared.host_line.HostLine.{HostLine}
use Rattle.host_table.specs.Hosts.{frag_policy_at, stream_policy_at}
use Rattle.conf_types.specs.declared.config.FragConfig.{FragConfig}
use Rattle.conf_types.specs.declared.config.FragEngine.{FragEngine}
use Rattle.conf_types.specs.declared.config.StreamConfig.{StreamConfig}
use Rattle.conf_types.specs.declared.config.StreamEngine.{StreamEngine}
use Rattle.conf_types.specs.Defaults.{default_frag_engine, stream_engine_at}
use Rattle.frag3_core.specs.declared.answer.FragRules.{FragRules}
use Rattle.flow_lanes.specs.declared.job.Toward.{Toward}
use Rattle.record_jobs.specs.declared.config.FrontConfig.{FrontConfig}
use Rattle.record_jobs.specs.declared.time.Time.{Time}

-- a record and the link layer that its bytes begin with
pub record LinkedRecord : Type 0 where
  pub link : Link
  pub captured : Record

-- a record of this link layer
abbrev pub linked : Link → Record → LinkedRecord
linked link captured = record { link = link; captured = captured }

-- which checksums are verified; what is known of hosts; and how fragments and streams are put together
pub record Way : Type 0 where
  pub checks : Checks
  pub hosts : List HostLine
  pub frag : Option FragConfig
  pub stream : StreamConfig

-- what the code is given
abbrev pub way_of : FrontConfig → Way
way_of by = record { checks = by.checks; hosts = by.hosts.now; frag = by.config.now.frag; stream = by.config.now.stream }

-- the line's `bind_to` has the address
abbrev pub is_bound : Addr → Option (List (Part AddrBounds)) → Bool
is_bound addr None = false
is_bound addr (Some list) = is_listed (has_address addr) list

-- ---- fragments, by their destination

-- the engine of an address
unfoldable pub frag_engine : List FragEngine → Addr → FragEngine
frag_engine engines addr =
    unwrap_or (option_or (find (λ engine. is_bound addr engine.bind) engines) (find (λ engine. is_none engine.bind) engines))
    default_frag_engine

-- what a fragment to this address is taken by
unfoldable pub frag_rules : List HostLine → FragConfig → Addr → FragRules
frag_rules hosts config addr = let engine : FragEngine = frag_engine config.engines addr in record {
  preference = frag_preference (unwrap_or (frag_policy_at hosts addr) engine.policy);
  timeout = engine.timeout;
  min_ttl = engine.min_ttl;
}

-- ---- streams, by either end

-- the place of the engine of an address; the number of engines where the defaults hold
unfoldable pub stream_place : List StreamEngine → Addr → ℕ
stream_place engines addr =
    unwrap_or (option_or (position (λ engine. is_bound addr engine.bind) engines)
    (position (λ engine. is_none engine.bind) engines)) (length engines)

-- how data sent to this address are put together
unfoldable pub stream_preference_at : Way → Addr → Preference
stream_preference_at way addr =
    stream_preference (unwrap_or (stream_policy_at way.hosts addr)
    (stream_engine_at way.stream.engines (stream_place way.stream.engines addr)).policy)

-- this many seconds have gone by since the capture's first record, where a handshake is asked for after them
abbrev pub is_due : Time → Option ℕ → Bool
is_due time None = false
is_due time (Some seconds) = nat_le (time.first.nanos + seconds * 1000000000) time.now.nanos

-- what a packet's data go by, sent to this address: a session must begin with a handshake where it is of TCP
-- and the engine asks for one by now
unfoldable pub toward_address : Way → Bool → Time → Addr → Toward
toward_address way tcp time addr = let place : ℕ = stream_place way.stream.engines addr in record {
  engine = place;
  preference = stream_preference_at way addr;
  needed = tcp && is_due time (stream_engine_at way.stream.engines place).handshake;
}
