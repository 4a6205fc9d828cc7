-- A segment after all pieces, and the room that there is for a segment.
use Rattle.std.proofs.Common.{◌≡◌, ℕ, ◌<◌, ◌≤◌, List, [], ◌∷◌, ◌++◌, Option, Some, true, cond, nat_lt, length, max, ap, sym, subst, ◌∙◌, append-nil, arith}
use Rattle.std.specs.Option.{ForSome, option_map}
use Rattle.std.proofs.lemmas.Bool.Decides.{nat_tests}
use Rattle.edge_io.specs.declared.policy.Preference.{Preference}
use Rattle.piece_list.specs.Pieces.{Pieces}
use Rattle.overlap_core.specs.declared.queue.Queue.TheInside.{Inside}
use Rattle.overlap_core.specs.declared.queue.Room.{Room}
use Rattle.overlap_core.specs.declared.room.Buffers.{Buffers}
use Rattle.overlap_core.specs.declared.room.Buffers.TheVariants.{AfterAll}
use Rattle.overlap_core.specs.declared.segment.Bounds.{Bounds}
use Rattle.overlap_core.specs.Inside.{IsRoom, state_of}
use Rattle.overlap_core.specs.Overlap.{bounds_of, end_of}
use Rattle.overlap_core.specs.Pieces.{IsRow, Piece, piece_end}
use Rattle.overlap_core.specs.QueueState.{QueueState}
use Rattle.overlap_core.specs.Rows.{BeginBelow, gap_piece, IsCutAt, IsRoomAfter, IsRoomFor, part_of}
use Rattle.overlap_core.specs.Segments.{Segment}
use Rattle.overlap_core.proofs.Rows.Overlaying.{IsLaidOver}
use Rattle.overlap_core.proofs.Rows.Telling.{end-below}

-- pieces in a row that ends at a place or before it begin below it, and are cut there
begin_below : (low high at : ℕ) (pieces : List Piece) → IsRow low pieces high → high ≤ at → BeginBelow at pieces
begin_below low high at [] row order = tt
begin_below low high at (piece ∷ pieces) row order =
    let later = end-below (piece_end piece) high pieces row.2 in (omega (arith, later, row.1, order), begin_below (piece_end piece) high at pieces row.2 order)

cut_after : (low high at : ℕ) (pieces : List Piece) → IsRow low pieces high → high ≤ at → IsCutAt at pieces
cut_after low high at [] row order = tt
cut_after low high at (piece ∷ pieces) row order =
    let later = end-below (piece_end piece) high pieces row.2 in (λ below. omega (arith, later, order), cut_after (piece_end piece) high at pieces row.2 order)

less : (m n : ℕ) → m < n → nat_lt m n ≡ true
less m n order = grind (arith, nat_tests)

filled : (new : Segment) (low : ℕ) → low ≡ new.start → 0 < length new.bytes → gap_piece new low (end_of new) ≡ part_of new new.start (end_of new) ∷ []
filled new low here some =
    ap (λ n. gap_piece new n (end_of new)) here ∙ ap (λ b. cond b (part_of new new.start (end_of new) ∷ []) []) (less new.start (end_of new) (omega (arith, some)))

-- laying a segment after all pieces appends it
pub laid_after : (preference : Preference) (new : Segment) (floor top : ℕ) (old laid_over : List Piece)
    → IsRow floor old top
    → top ≤ new.start
    → 0 < length new.bytes
    → laid_over ≡ old ++ part_of new new.start (end_of new) ∷ []
    → IsLaidOver preference new floor old laid_over
laid_after preference new floor top old laid_over row after some is =
    let order = end-below floor top old row in
    let low : max floor new.start ≡ new.start = omega (arith, order, after) in
    record {
      front = old;
      rest = [];
      list = sym (append-nil old);
      below = begin_below floor top (max floor new.start) old row (omega (arith, after));
      from = tt;
      begins = cut_after floor top (max floor new.start) old row (omega (arith, after));
      ends = cut_after floor top (end_of new) old row (omega (arith, after));
      is = is ∙ ap (λ ps. old ++ ps) (sym (filled new (max floor new.start) low some));
    }

-- what room there is, by its buffers
pub room_after : (floor top : ℕ) (bounds : Bounds) (pieces : Pieces Piece) (buffers : Buffers) (buffer : List ℕ)
    → buffers ≡ AfterAll buffer
    → IsRoomFor floor top bounds pieces buffers
    → IsRoomAfter top bounds pieces buffer
room_after floor top bounds pieces buffers buffer is room = subst (λ (b : Buffers). IsRoomFor floor top bounds pieces b) is room

-- the room that there is was made for the segment that comes
pub asked : (queue : Inside) (now : QueueState) (room : Room) (new : Segment) → state_of queue ≡ now → queue.room ≡ Some room → now.room ≡ Some (bounds_of new) → room.bounds ≡ bounds_of new
asked queue now room new view is wanted =
    let seen : option_map (λ (r : Room). r.bounds) queue.room ≡ now.room = ap (λ (s : QueueState). s.room) view in
    let same : Some room.bounds ≡ Some (bounds_of new) = sym (ap (option_map (λ (r : Room). r.bounds)) is) ∙ seen ∙ wanted in
    cc

pub room_asked : (floor top : ℕ) (pieces : Pieces Piece) (kept : Option Room) (room : Room) (new : Segment) → kept ≡ Some room → room.bounds ≡ bounds_of new → ForSome kept (IsRoom floor top pieces)
    → (0 < length new.bytes) × IsRoomFor floor top (bounds_of new) pieces room.buffers
room_asked floor top pieces kept room new is bounds between =
    let ready : IsRoom floor top pieces room = between room is in
    let start = ap (λ (b : Bounds). b.start) bounds in
    let ends = ap (λ (b : Bounds). b.end) bounds in
    (omega (arith, ready.some, start, ends), subst (λ (b : Bounds). IsRoomFor floor top b pieces room.buffers) bounds ready.ready)
