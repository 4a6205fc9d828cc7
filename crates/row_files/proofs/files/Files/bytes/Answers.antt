-- What the map has by a name is what the files have that contracts see, and a file that isn't there has no bytes:
-- `bytes-found` and `bytes-lacking`.
use Rattle.row_files.proofs.Kept.{bytes-found, bytes-lacking}
use Rattle.row_files.proofs.files.Files.bytes.Goals as goal

pub returns-in-Some : goal.returns-in-Some
returns-in-Some c = rw (← c.self.view_is, c.as_slice.ensures.value) (bytes-found c.self.inside.entries c.args.name.now c.in-Some.bytes.now c.in-Some.ensures.value)

pub returns-in-None : goal.returns-in-None
returns-in-None c = rw (← c.self.view_is) (bytes-lacking c.self.inside.entries c.args.name.now c.in-None.ensures.value)
