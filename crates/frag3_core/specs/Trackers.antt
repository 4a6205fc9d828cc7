-- How fragments are put together: trackers, and the datagram that a fragment makes whole.
--
-- A tracker gathers the fragments of one datagram (RFC 791 section 3.2: source, destination,
-- identification and protocol say which). Trackers are in a list by their last fragments, the
-- earliest first. An accepted fragment does this, in order: its own tracker is dropped if it has
-- timed out; while one fragment more would be more than the most that may be held, the first
-- tracker is dropped, the fragment's own one included; the fragment joins its tracker, or begins
-- one; and the datagram is whole where its length is known and each place below it has a byte.
-- Which byte a place has is the receiving host's choice (overlap_core.specs.Overlap); that and the
-- limits are those of Snort's frag3 (Snort 2.9 Users Manual, section 2.2.1) as this project reads it.
-- To try it on: with room for 2 fragments, 8 bytes at 0, 8 bytes at 16, and the last 8 bytes at 8 are
-- held each time, since the third drops the tracker and begins a new one; with room for 3 the third
-- makes 16 bytes whole.
use Rattle.std.specs.Prelude.{ℕ, ◌+◌, ◌*◌, Bool, false, ◌&&◌, ◌==◌, List, [], ◌∷◌, ◌++◌, Option, Some, None, unwrap_or, option_and_then, length, fold, sum_by, nat_lt, if◌then◌else◌}
use Rattle.std.specs.List.{range_with_len}
use Rattle.std.specs.Map.{lookup, remove_entry, values_of}
use Rattle.std.specs.Option.{option_map, option_map_or, option_or}
use Rattle.edge_io.specs.Addresses.{same_addr}
use Rattle.edge_io.specs.declared.moment.Moment.{Moment}
use Rattle.edge_io.specs.declared.policy.Preference.{Preference}
use Rattle.packet_decode.specs.declared.packet.IpHead.{IpHead}
use Rattle.overlap_core.specs.Segments.{Segment}
use Rattle.overlap_core.specs.Overlap.{chosen_byte}
use Rattle.frag3_core.specs.declared.answer.FragRules.{FragRules}
use Rattle.frag3_core.specs.declared.answer.Ignored.{Ignored}
use Rattle.frag3_core.specs.declared.answer.Ignored.TheVariants.{Ttl, Reach, Empty}
use Rattle.frag3_core.specs.declared.answer.Taken.{Taken}
use Rattle.frag3_core.specs.declared.answer.Taken.TheVariants.{Held, Ignored as IgnoredFor, Whole}
use Rattle.frag3_core.specs.declared.key.DatagramKey.{DatagramKey}

-- a fragment: its header, its part of the datagram, when it came, and the rules of its destination
pub record Fragment : Type 0 where
  pub ip : IpHead
  pub part : List ℕ
  pub moment : ℕ
  pub rules : FragRules

-- the fragment that these arguments of a call make
abbrev pub fragment : IpHead → List ℕ → Moment → FragRules → Fragment
fragment ip part moment rules = record { ip = ip; part = part; moment = moment.nanos; rules = rules }

-- the place of its first byte in the datagram; the header counts units of 8 bytes
abbrev pub start_of : IpHead → ℕ
start_of ip = 8 * ip.offset

-- the place after the fragment's last byte
abbrev pub end_of : IpHead → List ℕ → ℕ
end_of ip part = start_of ip + length part

-- why a fragment is ignored, if it is: the first reason in this order
abbrev pub ignored : IpHead → List ℕ → FragRules → Option Ignored
ignored ip part rules =
    if nat_lt ip.ttl rules.min_ttl then Some Ttl
    else if length part == 0 then Some Empty
    else if nat_lt 65535 (end_of ip part) then Some Reach
    else None

-- what one datagram has: the rules of its first fragment and when that came (nanoseconds), its length
-- once that is known, and its fragments whole, in order of arrival
pub record TrackerState : Type 0 where
  pub preference : Preference
  pub timeout : ℕ
  pub first : ℕ
  pub end : Option ℕ
  pub segments : List Segment

-- which datagram a fragment belongs to
abbrev pub key_of : IpHead → DatagramKey
key_of ip = record { src = ip.src; dst = ip.dst; id = ip.id; protocol = ip.protocol }

-- two fragments belong to one datagram
abbrev pub same_key : DatagramKey → DatagramKey → Bool
same_key a b = same_addr a.src b.src && same_addr a.dst b.dst && (a.id == b.id) && (a.protocol == b.protocol)

-- trackers with the keys of their datagrams, the one whose last fragment came earliest first
abbrev pub Trackers : Type 0
Trackers = List (DatagramKey × TrackerState)

-- the tracker of this key, if there is one
abbrev pub tracker_of : DatagramKey → Trackers → Option TrackerState
tracker_of key trackers = lookup (same_key key) trackers

-- the trackers without the one of this key
abbrev pub without : DatagramKey → Trackers → Trackers
without key trackers = remove_entry (same_key key) trackers

-- how many fragments they hold
abbrev pub held_count : Trackers → ℕ
held_count trackers = sum_by (λ (t : TrackerState). length t.segments) (values_of trackers)

-- a fragment at this moment comes too late: above the first one's moment and the timeout in seconds
abbrev pub is_timed_out : ℕ → TrackerState → Bool
is_timed_out moment t = nat_lt (t.first + t.timeout * 1000000000) moment

-- the trackers without the fragment's own, if that has timed out
abbrev pub in_time : Fragment → Trackers → Trackers
in_time f trackers =
    if option_map_or (is_timed_out f.moment) (tracker_of (key_of f.ip) trackers) false then without (key_of f.ip) trackers
    else trackers

-- while one fragment more would be more than `most`, the first tracker is dropped
abbrev pub with_room : ℕ → Trackers → Trackers
with_room most [] = []
with_room most (first ∷ later) = if nat_lt (held_count (first ∷ later)) most then first ∷ later else with_room most later

-- a tracker that this fragment begins, before it joins
abbrev pub begun : ℕ → FragRules → TrackerState
begun moment rules = record { preference = rules.preference; timeout = rules.timeout; first = moment; end = None; segments = [] }

-- a tracker once a fragment has joined: the first one without more-fragments fixes the length
abbrev pub joined : IpHead → List ℕ → TrackerState → TrackerState
joined ip part t = record t {
  end = option_or t.end (if ip.more then None else Some (end_of ip part));
  segments = t.segments ++ record { start = start_of ip; bytes = part } ∷ [];
}

-- the bytes at these places, in order, if each place has one
abbrev pub bytes_at : (ℕ → Option ℕ) → List ℕ → Option (List ℕ)
bytes_at byte [] = Some []
bytes_at byte (place ∷ later) = option_and_then (λ first. option_map (λ rest. first ∷ rest) (bytes_at byte later)) (byte place)

-- the bytes of a tracker's datagram, if its length is known and each place below it has a byte
unfoldable pub datagram_of : TrackerState → Option (List ℕ)
datagram_of t = option_and_then (λ end. bytes_at (chosen_byte t.preference t.segments) (range_with_len 0 end)) t.end

-- the header of a datagram that this fragment made whole
abbrev pub whole_head : IpHead → IpHead
whole_head ip = record ip { offset = 0; more = false }

-- the most fragments that may be held, and the trackers
pub record Frag3State : Type 0 where
  pub max_frags : ℕ
  pub trackers : Trackers

-- the trackers that a fragment finds
abbrev pub found : Frag3State → Fragment → Trackers
found frag3 f = with_room frag3.max_frags (in_time f frag3.trackers)

-- the fragment's own tracker once it has joined
abbrev pub own : Frag3State → Fragment → TrackerState
own frag3 f = joined f.ip f.part (unwrap_or (tracker_of (key_of f.ip) (found frag3 f)) (begun f.moment f.rules))

-- the trackers of other keys
abbrev pub others : Frag3State → Fragment → Trackers
others frag3 f = without (key_of f.ip) (found frag3 f)

-- the answer where these are the bytes of a whole datagram, or where there is none
abbrev pub answer_of : IpHead → Option (List ℕ) → Taken
answer_of ip None = Held
answer_of ip (Some bytes) = Whole (record { ip = whole_head ip; bytes = bytes })

-- a tracker whose datagram is whole is dropped, any other goes last
abbrev pub with_own : DatagramKey → TrackerState → Trackers → Option (List ℕ) → Trackers
with_own key t others None = others ++ (key, t) ∷ []
with_own key t others (Some bytes) = others

-- what is answered
unfoldable pub taken : Frag3State → Fragment → Taken
taken frag3 f = option_map_or IgnoredFor (ignored f.ip f.part f.rules) (answer_of f.ip (datagram_of (own frag3 f)))

-- the trackers once a fragment that is not ignored has come
abbrev pub trackers_after : Frag3State → Fragment → Trackers
trackers_after frag3 f = with_own (key_of f.ip) (own frag3 f) (others frag3 f) (datagram_of (own frag3 f))

-- the state after a fragment
unfoldable pub after : Frag3State → Fragment → Frag3State
after frag3 f = option_map_or (λ _. frag3) (ignored f.ip f.part f.rules) (record frag3 { trackers = trackers_after frag3 f })

-- the state after these fragments, where at most `most` may be held
unfoldable pub state_after : ℕ → List Fragment → Frag3State
state_after most fragments = fold after (record { max_frags = most; trackers = [] }) fragments
