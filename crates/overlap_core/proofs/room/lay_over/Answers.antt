-- Put at the end of the row (`laid_after`) or laid among its pieces, the segment is laid over the row, which is then one
-- that holds what is chosen.
use Rattle.std.proofs.Common.{subst}
use Rattle.overlap_core.specs.declared.room.Buffers.{Buffers}
use Rattle.overlap_core.specs.Overlap.{bounds_of}
use Rattle.overlap_core.specs.Rows.{IsRoomFor}
use Rattle.overlap_core.proofs.Rows.AtEnd.{laid_after, room_after}
use Rattle.overlap_core.proofs.Rows.Overlaying.{laid_over-holds, laid_over-row}
use Rattle.overlap_core.proofs.room.lay_over.Goals as goal

pub lay_after-requires-clause-size : goal.lay_after-requires-clause-size
lay_after-requires-clause-size c = (room_after c.args.floor c.requires.room.0 (bounds_of c.args.new.now) c.args.pieces.now c.args.buffers c.in-AfterAll.buffer c.in-AfterAll.is c.requires.room.2).size

pub lay_after-requires-clause-node : goal.lay_after-requires-clause-node
lay_after-requires-clause-node c = (room_after c.args.floor c.requires.room.0 (bounds_of c.args.new.now) c.args.pieces.now c.args.buffers c.in-AfterAll.buffer c.in-AfterAll.is c.requires.room.2).node

pub lay_among-requires-clause-row : goal.lay_among-requires-clause-row
lay_among-requires-clause-row c = (c.requires.room.0, c.requires.room.1)

pub lay_among-requires-clause-room : goal.lay_among-requires-clause-room
lay_among-requires-clause-room c = subst (λ (b : Buffers). IsRoomFor c.args.floor c.requires.room.0 (bounds_of c.args.new.now) c.args.pieces.now b) c.in-Among.is c.requires.room.2

pub returns-in-AfterAll-clause-row : goal.returns-in-AfterAll-clause-row
returns-in-AfterAll-clause-row c =
    let room =
    room_after c.args.floor c.requires.room.0 (bounds_of c.args.new.now) c.args.pieces.now c.args.buffers c.in-AfterAll.buffer
    c.in-AfterAll.is c.requires.room.2 in
    let made =
    laid_after c.args.preference c.args.new.now c.args.floor c.requires.room.0 c.args.pieces.now.list c.lay_after.new.pieces.list
    c.requires.room.1 room.after c.requires.some c.lay_after.ensures in
    λ top row.
    laid_over-row c.args.preference c.args.new.now c.args.floor top c.args.pieces.now.list c.lay_after.new.pieces.list made row

pub returns-in-AfterAll-clause-holds : goal.returns-in-AfterAll-clause-holds
returns-in-AfterAll-clause-holds c =
    let room =
    room_after c.args.floor c.requires.room.0 (bounds_of c.args.new.now) c.args.pieces.now c.args.buffers c.in-AfterAll.buffer
    c.in-AfterAll.is c.requires.room.2 in
    let made =
    laid_after c.args.preference c.args.new.now c.args.floor c.requires.room.0 c.args.pieces.now.list c.lay_after.new.pieces.list
    c.requires.room.1 room.after c.requires.some c.lay_after.ensures in
    λ top segments row holds.
    laid_over-holds c.args.preference c.args.new.now segments c.args.floor top c.args.pieces.now.list c.lay_after.new.pieces.list
    made row holds

pub returns-in-Among-clause-row : goal.returns-in-Among-clause-row
returns-in-Among-clause-row c = c.lay_among.ensures.row

pub returns-in-Among-clause-holds : goal.returns-in-Among-clause-holds
returns-in-Among-clause-holds c = c.lay_among.ensures.holds
