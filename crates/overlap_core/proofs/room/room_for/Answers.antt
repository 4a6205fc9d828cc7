-- What `room_among` gives is room for a segment in a row with any greatest end, and so in this one.
use Rattle.overlap_core.proofs.room.room_for.Goals as goal

pub returns-clause-room : goal.returns-clause-room
returns-clause-room c = λ row. c.in_ok-buffers.ensures.room c.args.top row
