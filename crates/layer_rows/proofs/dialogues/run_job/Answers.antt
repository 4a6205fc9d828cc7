-- A turn of a dialogue of fewer than 2^32 jobs is sound for the lane (`dialogue-sound`), which then knows of one
-- job more (`dialogue-more`).
use Rattle.std.proofs.Common.{length}
use Rattle.layer_rows.proofs.DialogueLaws.{dialogue-more, dialogue-sound}
use Rattle.layer_rows.proofs.dialogues.run_job.Goals as goal

pub job-requires-clause-sound : goal.job-requires-clause-sound
job-requires-clause-sound c κs =
    dialogue-sound c.args.manner.preference c.args.lane.now c.args.done c.args.job.now (length c.args.course.stream.now.engines) c.requires.turn c.requires.dialogue c.requires.room

pub returns-in-Ok : goal.returns-in-Ok
returns-in-Ok c = λ _. dialogue-more c.args.manner.preference c.args.lane.now c.job.new.self c.args.done c.args.job.now c.requires.turn c.requires.dialogue c.in-Ok.ensures.learns
