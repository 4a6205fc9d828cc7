-- The parts of a step, in the terms of the code's functions.
use Rattle.std.specs.Prelude.{◌≡◌, ℕ, ◌+◌, ◌<◌, Bool, false, not, ◌&&◌, List, [], ◌∷◌, ◌++◌, Option, Some, None, is_some, unwrap_or, length, drop, nat_le, ⊤, if◌then◌else◌}
use Rattle.std.specs.List.{range_with_len}
use Rattle.std.specs.Map.{lookup, remove_entry, set_value}
use Rattle.std.specs.Option.{option_map, option_map_or}
use Rattle.lru.specs.LruCache.{demoted}
use Rattle.packet_decode.specs.declared.packet.IpHead.{IpHead}
use Rattle.overlap_core.specs.Overlap.{chosen_byte}
use Rattle.overlap_core.specs.QueueState.{QueueState}
use Rattle.frag3_core.specs.declared.key.DatagramKey.{DatagramKey}
use Rattle.frag3_core.specs.Trackers.{Frag3State, Fragment, Trackers, TrackerState, bytes_at, datagram_of, held_count, is_timed_out, joined, key_of, own, same_key, trackers_after}

-- how many fragments a tracker has, if there is one
abbrev pub frags_in : Option TrackerState → ℕ
frags_in tracker = unwrap_or (option_map (λ (t : TrackerState). length t.segments) tracker) 0

-- the length is not known, or is more than the bytes held
abbrev pub IsShort : Option ℕ → ℕ → Type 0
IsShort None held = ⊤
IsShort (Some end) held = held < end

-- room of the known length, and none where that can't be covered
abbrev pub IsRoomFor : Option ℕ → ℕ → Option ℕ → Type 0
IsRoomFor end held None = IsShort end held
IsRoomFor end held (Some room) = end ≡ Some room

-- the bytes of a queue from place 0 on, as many as told, if each place has one
abbrev pub first_bytes : QueueState → ℕ → Option (List ℕ)
first_bytes queue n = bytes_at (chosen_byte queue.preference queue.segments) (range_with_len 0 n)

-- the first tracker has this key
abbrev pub is_first : DatagramKey → Trackers → Bool
is_first key [] = false
is_first key (first ∷ later) = same_key key first.0

-- the fragment of this key and moment joins a tracker that is kept: one that has not timed out, and that
-- is not dropped for the room of this fragment
abbrev pub is_kept : ℕ → Trackers → DatagramKey → ℕ → Bool
is_kept most trackers key moment =
    option_map_or (λ (t : TrackerState). not (is_timed_out moment t)
    && not (nat_le most (held_count trackers) && is_first key trackers))
    (lookup (same_key key) trackers) false

-- a fragment joined the tracker of this key, where there is one, and these are the bytes of its datagram
-- where it is whole now
abbrev pub Adds : Trackers → DatagramKey → IpHead → List ℕ → Trackers → Option (List ℕ) → Type 0
Adds old key ip part new bytes = (t : TrackerState) → lookup (same_key key) old ≡ Some t
    → (new ≡ set_value (same_key key) old (joined ip part t)) × (bytes ≡ datagram_of (joined ip part t))

-- the trackers without the first, where there are as many fragments as the limit
abbrev pub roomy : ℕ → Trackers → Trackers
roomy limit trackers = if nat_le limit (held_count trackers) then drop 1 trackers else trackers

-- the trackers without that of this key where its datagram is whole, else with it last
abbrev pub settled : DatagramKey → Bool → Trackers → Trackers
settled key whole trackers = if whole then remove_entry (same_key key) trackers else demoted (same_key key) trackers

-- a tracker that is kept takes a fragment, with room for it
abbrev pub Grows : ℕ → Trackers → DatagramKey → IpHead → List ℕ → Trackers → Option (List ℕ) → Type 0
Grows most old key ip part new bytes = (t : TrackerState) → lookup (same_key key) old ≡ Some t
    → (new ≡ settled key (is_some (datagram_of (joined ip part t)))
    (roomy (most + 1) (set_value (same_key key) old (joined ip part t))))
    × (bytes ≡ datagram_of (joined ip part t))

-- a tracker that a fragment began comes last, with room for it, in the place of any that has its key
abbrev pub placed : ℕ → DatagramKey → TrackerState → Bool → Trackers → Trackers
placed most key t whole trackers =
    if whole then roomy most (remove_entry (same_key key) trackers)
    else roomy (most + 1) (remove_entry (same_key key) trackers ++ (key, t) ∷ [])

-- a fragment begins a tracker
abbrev pub Begins : ℕ → Trackers → TrackerState → IpHead → List ℕ → Trackers → Option (List ℕ) → Type 0
Begins most old t ip part new bytes =
    (new ≡ placed most (key_of ip) (joined ip part t) (is_some (datagram_of (joined ip part t))) old)
    × (bytes ≡ datagram_of (joined ip part t))

-- a fragment that is not ignored is taken
abbrev pub Takes : ℕ → Trackers → Fragment → Trackers → Option (List ℕ) → Type 0
Takes most old f new bytes = let frag3 : Frag3State = record { max_frags = most; trackers = old } in
    (new ≡ trackers_after frag3 f) × (bytes ≡ datagram_of (own frag3 f))
