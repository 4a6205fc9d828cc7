-- How much of streams lanes hold.
--
-- A side holds the bytes that wait from its base on: of the places from there up to its top those that have one
-- (stream5_reassembly specs/Segments). Its limits are `max_queued_bytes` and `max_queued_segs` of the engine of the host
-- that it sends to (Snort Users Manual 2.9, section 2.2.3).
-- To try it on: of "ab" at the base and "c" two places after it three bytes wait.
use Rattle.std.specs.Prelude.{ℕ, ◌+◌, ◌≤◌, ◌||◌, Bool, false, ⊤, List, count_by, fold, sum_by, is_some, if◌then◌else◌}
use Rattle.std.specs.Option.{option_map_or}
use Rattle.stream5_reassembly.specs.Segments.{DirectionState, top}
use Rattle.flow_lanes.specs.declared.job.Job.{Job}
use Rattle.flow_lanes.specs.declared.job.Toward.{Toward}
use Rattle.flow_lanes.specs.declared.job.Work.{Work}
use Rattle.flow_lanes.specs.declared.job.Work.TheVariants as work
use Rattle.flow_lanes.specs.Engines.{Making, engine_for}
use Rattle.flow_lanes.specs.Flows.{FlowState}
use Rattle.flow_lanes.specs.Sessions.{is_tcp}
use Rattle.flow_lanes.specs.LanesAfter.{KeptFlow, LaneState, LanesState, is_of_flow, kept_of}
use Rattle.flow_lanes.specs.Streams.{places_below}

-- how many bytes wait of one direction: this many of the places from its base on have one
abbrev pub waiting_bytes : DirectionState → ℕ
waiting_bytes direction = count_by is_some (places_below direction (top direction))

-- how many segments were queued since the direction's last flush
abbrev pub counted_segments : DirectionState → ℕ
counted_segments direction = direction.count

-- what is counted of both sides of the session that is kept of a flow, if one is
abbrev pub of_sides : (DirectionState → ℕ) → KeptFlow → ℕ
of_sides counted kept =
    option_map_or (λ (s : FlowState). counted s.session.client.direction + counted s.session.server.direction) kept.found 0

-- what is counted of what all lanes keep of a flow
abbrev pub in_lanes : (DirectionState → ℕ) → LanesState → ℕ → ℕ
in_lanes counted lanes flow =
    sum_by (λ (lane : LaneState). option_map_or (of_sides counted) (kept_of lane flow) 0) lanes.lanes

abbrev pub held_bytes : LanesState → ℕ → ℕ
held_bytes lanes flow = in_lanes waiting_bytes lanes flow

abbrev pub held_segments : LanesState → ℕ → ℕ
held_segments lanes flow = in_lanes counted_segments lanes flow

-- the engine of an end queues `bytes` bytes and `segs` segments at most
pub record IsLimited (making : Making) (bytes segs : ℕ) (to : Toward) : Type 0 where
  pub bytes_few : (engine_for making to.engine).bytes_limit ≤ bytes
  pub segs_few : (engine_for making to.engine).segs_limit ≤ segs

-- the engines of both ends of a job's packet queue `bytes` bytes and `segs` segments at most
abbrev pub IsLimitedWork : Making → ℕ → ℕ → Work → Type 0
IsLimitedWork making bytes segs (work.Alone head payload) = ⊤
IsLimitedWork making bytes segs (work.Packet flow head payload to_dst to_src) =
    IsLimited making bytes segs to_dst × IsLimited making bytes segs to_src
IsLimitedWork making bytes segs (work.Finish flow) = ⊤

abbrev pub IsLimitedJob : Making → ℕ → ℕ → Job → Type 0
IsLimitedJob making bytes segs job = IsLimitedWork making bytes segs job.work

-- a packet of TCP was seen of a flow since it began, after one more of its jobs
abbrev pub seen_after : Bool → Work → Bool
seen_after was (work.Alone head payload) = was
seen_after was (work.Packet flow head payload to_dst to_src) = was || is_tcp head.body
seen_after was (work.Finish flow) = false

abbrev pub seen_of : ℕ → Bool → Job → Bool
seen_of flow was job = if is_of_flow flow job then seen_after was job.work else was

-- a packet of TCP was seen of a flow since it began, after these jobs of all flows
abbrev pub is_seen : ℕ → List Job → Bool
is_seen flow jobs = fold (seen_of flow) false jobs
