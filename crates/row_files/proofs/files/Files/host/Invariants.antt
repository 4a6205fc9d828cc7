-- The host has the files that were shown so far.
use Rattle.std.proofs.Common.{◌≡◌, map}
use Rattle.std.specs.Map.Iter.{deref_pair}
use Rattle.edge_io.specs.HeldFiles.{no_files}
use Rattle.row_files.proofs.Kept.{files_in}
use Rattle.row_files.proofs.files.Files.host.Given as goal

abbrev pub invariant-loop-name : goal.invariant-loop-name
invariant-loop-name l = l.host ≡ record no_files { files = files_in (map deref_pair l.yielded) }
