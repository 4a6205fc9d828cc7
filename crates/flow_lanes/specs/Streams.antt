-- The payloads of stream items: what a flush gives, in stretches of at most 16384 bytes.
--
-- The places of a direction from its base on have a byte each, or none (stream5_reassembly specs/Segments:
-- of all segments queued since the direction started, whole, the byte that the receiving host keeps). The
-- maximal runs of places that have one are each cut from their start. The length of an item, as the rule
-- for flushing, is this project's own; what is joined is the data of RFC 9293, section 3.4.
-- To try it on: of "ab" at the base, nothing at the third place and "c" after it, the payloads are "ab"
-- and "c"; a run of 16385 bytes gives two payloads, the second of one byte.
use Rattle.std.specs.Prelude.{ℕ, ◌+◌, ◌-◌, ◌*◌, ◌/◌, Bool, true, false, List, [], ◌∷◌, Option, Some, None, length, map, take, drop}
use Rattle.std.specs.List.{range_with_len, flat_map}
use Rattle.overlap_core.specs.declared.segment.Run.{Run}
use Rattle.stream5_reassembly.specs.Segments.{DirectionState, flushed_bytes}

-- the most bytes of a stream item
abbrev pub item_size : ℕ
item_size = 16384

-- the first of these places has a byte
abbrev pub begins_run : List (Option ℕ) → Bool
begins_run [] = false
begins_run (None ∷ places) = false
begins_run (Some byte ∷ places) = true

-- a byte in front of the first of these runs
abbrev pub with_first : ℕ → List (List ℕ) → List (List ℕ)
with_first byte [] = (byte ∷ []) ∷ []
with_first byte (run ∷ runs) = (byte ∷ run) ∷ runs

-- a place in front of runs: its byte joins the first of them, where that begins at the next place
abbrev pub in_front : Option ℕ → Bool → List (List ℕ) → List (List ℕ)
in_front None joins runs = runs
in_front (Some byte) true runs = with_first byte runs
in_front (Some byte) false runs = (byte ∷ []) ∷ runs

-- the maximal runs of places that have a byte
unfoldable pub runs_of : List (Option ℕ) → List (List ℕ)
runs_of [] = []
runs_of (place ∷ places) = in_front place (begins_run places) (runs_of places)

-- bytes, cut from their start into parts of this many at most
unfoldable pub parts_of : ℕ → List ℕ → List (List ℕ)
parts_of most bytes = map (λ part. take most (drop (part * most) bytes)) (range_with_len 0 ((length bytes + (most - 1)) / most))

-- the payloads of runs, each cut from its start
abbrev pub payloads_of : List Run → List (List ℕ)
payloads_of runs = flat_map (parts_of item_size) (map (λ (run : Run). run.bytes) runs)

-- what the places of a direction from its base on and below another have
abbrev pub places_below : DirectionState → ℕ → List (Option ℕ)
places_below direction to = map (flushed_bytes direction) (range_with_len 0 (to - direction.place))

-- the payloads of a flush of all places below this one
unfoldable pub flushed_payloads : DirectionState → ℕ → List (List ℕ)
flushed_payloads direction to = flat_map (parts_of item_size) (runs_of (places_below direction to))
