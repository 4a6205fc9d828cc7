-- A datagram that is put together from fragments has at most 65535 bytes.
use Rattle.std.proofs.Common.{◌≡◌, ℕ, ◌≤◌, Bool, true, false, cond, eqb, ltb, List, [], ◌∷◌, ◌++◌, length, Option, Some, None, refl, ap, suc, unwrap_or, arith, IfSome}
use Rattle.std.specs.Bool.{⊤}
use Rattle.std.specs.Prelude.{option_and_then, fold}
use Rattle.std.specs.List.{range_with_len}
use Rattle.std.specs.Map.{lookup, remove_entry}
use Rattle.std.specs.Option.{option_map, option_map_or, option_or}
use Rattle.std.proofs.lemmas.Bool.Decides.{nat_tests}
use Rattle.std.proofs.lemmas.List.FromFn.{length-range_with_len}
use Rattle.edge_io.specs.declared.moment.Moment.{Moment}
use Rattle.packet_decode.specs.declared.packet.IpHead.{IpHead}
use Rattle.packet_decode.specs.Decoding.{Fields}
use Rattle.conf_types.specs.declared.config.FragConfig.{FragConfig}
use Rattle.overlap_core.specs.Overlap.{chosen_byte}
use Rattle.frag3_core.specs.declared.answer.FragRules.{FragRules}
use Rattle.frag3_core.specs.declared.answer.Ignored.{Ignored}
use Rattle.frag3_core.specs.declared.answer.Ignored.TheVariants as ignored_for
use Rattle.frag3_core.specs.declared.answer.Taken.TheVariants as answer
use Rattle.frag3_core.specs.declared.key.DatagramKey.{DatagramKey}
use Rattle.frag3_core.specs.Trackers.{Frag3State, Fragment, TrackerState, Trackers, after, answer_of, begun, bytes_at}
use Rattle.frag3_core.specs.Trackers.{datagram_of, end_of, found, ignored, in_time, key_of, others, own, same_key, state_after}
use Rattle.frag3_core.specs.Trackers.{taken, tracker_of, trackers_after, with_own, with_room, without, held_count, is_timed_out}
use Rattle.record_jobs.specs.Packets.{datagram_from, datagram_of_fragment, fragment_of, fragments, frag3_after, fragment_fields, said_by, completed_datagram}
use Rattle.record_jobs.specs.Steps.{IsShortDatagram}
use Rattle.record_jobs.specs.Way.{LinkedRecord, Way}

-- a tracker's length is that of a datagram
abbrev IsShortEnd : Option ℕ → Type 0
IsShortEnd None = ⊤
IsShortEnd (Some end) = end ≤ 65535

abbrev AreShortEnds : Trackers → Type 0
AreShortEnds [] = ⊤
AreShortEnds (entry ∷ rest) = IsShortEnd (entry.1).end × AreShortEnds rest

short_removed : (key : DatagramKey) (ts : Trackers) → AreShortEnds ts → AreShortEnds (remove_entry (same_key key) ts)
short_removed key [] short = tt
short_removed key (entry ∷ rest) short =
    elim (same_key key entry.0) as (λ b. AreShortEnds (cond b rest (entry ∷ remove_entry (same_key key) rest))) [ true ↦ short.1 | false ↦ (short.0, short_removed key rest short.1) ]

short_roomy : (most : ℕ) (ts : Trackers) → AreShortEnds ts → AreShortEnds (with_room most ts)
short_roomy most [] short = tt
short_roomy most (entry ∷ rest) short =
    elim (ltb (held_count (entry ∷ rest)) most) as (λ b. AreShortEnds (cond b (entry ∷ rest) (with_room most rest))) [ true ↦ short | false ↦ short_roomy most rest short.1 ]

short_in_time : (f : Fragment) (ts : Trackers) → AreShortEnds ts → AreShortEnds (in_time f ts)
short_in_time f ts short =
    elim (option_map_or (is_timed_out f.moment) (tracker_of (key_of f.ip) ts) false) as
    (λ b. AreShortEnds (cond b (without (key_of f.ip) ts) ts))
    [ true ↦ short_removed (key_of f.ip) ts short | false ↦ short ]

short_found : (key : DatagramKey) (ts : Trackers) → AreShortEnds ts → (begin : TrackerState) → IsShortEnd begin.end → IsShortEnd (unwrap_or (lookup (same_key key) ts) begin).end
short_found key [] short begin h = h
short_found key (entry ∷ rest) short begin h =
    elim (same_key key entry.0) as (λ b. IsShortEnd (unwrap_or (cond b (Some entry.1) (lookup (same_key key) rest)) begin).end) [ true ↦ short.0 | false ↦ short_found key rest short.1 begin h ]

short_added : (ts : Trackers) (key : DatagramKey) (t : TrackerState) → AreShortEnds ts → IsShortEnd t.end → AreShortEnds (ts ++ (key, t) ∷ [])
short_added [] key t short h = (h, tt)
short_added (entry ∷ rest) key t short h = (short.0, short_added rest key t short.1 h)

-- the length after one fragment more
short_joined : (end : Option ℕ) (more : Bool) (place : ℕ) → IsShortEnd end → place ≤ 65535 → IsShortEnd (option_or end (cond more None (Some place)))
short_joined None true place short h = tt
short_joined None false place short h = h
short_joined (Some end) more place short h = short

short_own : (frag3 : Frag3State) (f : Fragment) → AreShortEnds frag3.trackers → end_of f.ip f.part ≤ 65535 → IsShortEnd (own frag3 f).end
short_own frag3 f short h =
    short_joined (unwrap_or (tracker_of (key_of f.ip) (found frag3 f)) (begun f.moment f.rules)).end f.ip.more (end_of f.ip f.part)
    (short_found (key_of f.ip) (found frag3 f) (short_roomy frag3.max_frags (in_time f frag3.trackers) (short_in_time f frag3.trackers short)) (begun f.moment f.rules) tt) h

-- a fragment that is not ignored ends within a datagram
within : (ip : IpHead) (part : List ℕ) (rules : FragRules) → ignored ip part rules ≡ None → end_of ip part ≤ 65535
within ip part rules e = go (ltb ip.ttl rules.min_ttl) (eqb (length part) 0) (ltb 65535 (end_of ip part)) refl e
  where
    go : (a b c : Bool) → ltb 65535 (end_of ip part) ≡ c → cond a (Some ignored_for.Ttl) (cond b (Some ignored_for.Empty) (cond c (Some ignored_for.Reach) None)) ≡ None → end_of ip part ≤ 65535
    go true b c is e = cc
    go false true c is e = cc
    go false false true is e = cc
    go false false false is e = grind (arith, nat_tests)

short_after : (frag3 : Frag3State) (f : Fragment) → AreShortEnds frag3.trackers → AreShortEnds (after frag3 f).trackers
unfolding after
short_after frag3 f short = go (ignored f.ip f.part f.rules) refl
  where
    others_short : AreShortEnds (others frag3 f)
    others_short = short_removed (key_of f.ip) (found frag3 f) (short_roomy frag3.max_frags (in_time f frag3.trackers) (short_in_time f frag3.trackers short))

    settle : (o : Option (List ℕ)) → end_of f.ip f.part ≤ 65535 → AreShortEnds (with_own (key_of f.ip) (own frag3 f) (others frag3 f) o)
    settle None h = short_added (others frag3 f) (key_of f.ip) (own frag3 f) others_short (short_own frag3 f short h)
    settle (Some bytes) h = others_short

    go : (o : Option Ignored) → ignored f.ip f.part f.rules ≡ o → AreShortEnds (option_map_or (λ (_ : Ignored). frag3) o (record frag3 { trackers = trackers_after frag3 f })).trackers
    go None is = settle (datagram_of (own frag3 f)) (within f.ip f.part f.rules is)
    go (Some reason) is = short

short_fold : (fs : List Fragment) (frag3 : Frag3State) → AreShortEnds frag3.trackers → AreShortEnds (fold after frag3 fs).trackers
short_fold [] frag3 short = short
short_fold (f ∷ fs) frag3 short = short_fold fs (after frag3 f) (short_after frag3 f short)

short_state : (most : ℕ) (fs : List Fragment) → AreShortEnds (state_after most fs).trackers
unfolding state_after
short_state most fs = short_fold fs (record { max_frags = most; trackers = [] }) tt

-- places have as many bytes, if each has one
length-bytes_at : (byte : ℕ → Option ℕ) (places : List ℕ) → IfSome (bytes_at byte places) (λ bytes. length bytes ≡ length places)
length-bytes_at byte [] = refl
length-bytes_at byte (place ∷ later) = go (byte place) (bytes_at byte later) (length-bytes_at byte later)
  where
    go : (first : Option ℕ) (rest : Option (List ℕ))
        → IfSome rest (λ bytes. length bytes ≡ length later)
        → IfSome (option_and_then (λ first. option_map (λ rest. first ∷ rest) rest) first)
        (λ bytes. length bytes ≡ suc (length later))
    go None rest h = tt
    go (Some b) None h = tt
    go (Some b) (Some bytes) h = ap suc h

short_datagram : (t : TrackerState) → IsShortEnd t.end → IfSome (datagram_of t) (λ bytes. length bytes ≤ 65535)
unfolding datagram_of
short_datagram t short = go t.end short
  where
    at : ℕ → Option (List ℕ)
    at end = bytes_at (chosen_byte t.preference t.segments) (range_with_len 0 end)

    bound : (end : ℕ) (o : Option (List ℕ)) → end ≤ 65535 → IfSome o (λ bytes. length bytes ≡ length (range_with_len 0 end)) → IfSome o (λ bytes. length bytes ≤ 65535)
    bound end None h e = tt
    bound end (Some bytes) h e = omega (arith, e, length-range_with_len 0 end)

    go : (o : Option ℕ) → IsShortEnd o → IfSome (option_and_then at o) (λ bytes. length bytes ≤ 65535)
    go None h = tt
    go (Some end) h = bound end (at end) h (length-bytes_at (chosen_byte t.preference t.segments) (range_with_len 0 end))

short_taken : (frag3 : Frag3State) (f : Fragment) → AreShortEnds frag3.trackers → IfSome (completed_datagram (taken frag3 f)) IsShortDatagram
unfolding taken
short_taken frag3 f short = go (ignored f.ip f.part f.rules) refl
  where
    made : (o : Option (List ℕ)) → IfSome o (λ bytes. length bytes ≤ 65535) → IfSome (completed_datagram (answer_of f.ip o)) IsShortDatagram
    made None h = tt
    made (Some bytes) h = h

    go : (o : Option Ignored) → ignored f.ip f.part f.rules ≡ o → IfSome (completed_datagram (option_map_or answer.Ignored o (answer_of f.ip (datagram_of (own frag3 f))))) IsShortDatagram
    go None is = made (datagram_of (own frag3 f)) (short_datagram (own frag3 f) (short_own frag3 f short (within f.ip f.part f.rules is)))
    go (Some reason) is = tt

short_fragment : (way : Way) (before : List LinkedRecord) (moment : Moment) (fields : Fields) → IfSome (datagram_of_fragment way (frag3_after way before) moment fields) IsShortDatagram
unfolding datagram_of_fragment frag3_after
short_fragment way before moment fields = go way.frag
  where
    go : (frag : Option FragConfig)
        → IfSome (option_and_then (λ (config : FragConfig). option_and_then
        (λ (frag3 : Frag3State). completed_datagram (taken frag3 (fragment_of way config moment fields)))
        (option_map (λ (config : FragConfig). state_after config.max_frags (fragments way config before)) frag)) frag)
        IsShortDatagram
    go None = tt
    go (Some config) = short_taken (state_after config.max_frags (fragments way config before)) (fragment_of way config moment fields) (short_state config.max_frags (fragments way config before))

-- the datagram that a record completes is short
pub datagram-short : (way : Way) (before : List LinkedRecord) (r : LinkedRecord) → IfSome (datagram_from way (frag3_after way before) r.captured.moment (said_by way r)) IsShortDatagram
datagram-short way before r = go (fragment_fields (said_by way r))
  where
    go : (o : Option Fields) → IfSome (option_and_then (datagram_of_fragment way (frag3_after way before) r.captured.moment) o) IsShortDatagram
    go None = tt
    go (Some fields) = short_fragment way before r.captured.moment fields
