-- Includes nest less deeply with each file; the lines read so far, and those that are left, are the reading.
use Rattle.std.proofs.Common.{◌≡◌, ◌≤◌, ◌+◌, ◌*◌, length, Option}
use Rattle.edge_io.specs.Files.{Files, MaySee}
use Rattle.conf_parser.specs.Reading.{file_count}
use Rattle.conf_parser.specs.Steps.{most_files}
use Rattle.conf_parser.specs.Loading.{Goes}
use Rattle.conf_parser.proofs.Readings.Goings.{lines_of}
use Rattle.conf_parser.proofs.loading.+reading.Given as goal

abbrev pub decreases-included : goal.decreases-included
decreases-included g l = 4 * l.left

abbrev pub decreases-read_file : goal.decreases-read_file
decreases-read_file g l = 4 * l.left + 3

abbrev pub decreases-read_line : goal.decreases-read_line
decreases-read_line g l = 4 * l.left + 1

abbrev pub decreases-read_lines : goal.decreases-read_lines
decreases-read_lines g l = 4 * l.left + 2

abbrev pub invariant-read_lines-lines : goal.invariant-read_lines-lines
invariant-read_lines-lines g l = record {
  goes : (seen : Option Files)
      → MaySee (g.H.Host.contents l.host) (g.H.Host.agrees l.host) seen
      → Goes seen (file_count l.fn.read) (file_count l.read) (lines_of l.left l.source l.lines l.fn.read)
      (lines_of l.left l.source l.rest l.read);
  few : file_count l.read ≤ most_files;
  contents : g.H.Host.contents l.host ≡ g.H.Host.contents l.fn.host;
  left : g.H.Host.left l.host ≡ g.H.Host.left l.fn.host;
  left_of : (files : Files) → g.H.Host.left_of l.host files ≡ g.H.Host.left_of l.fn.host files;
  earlier : (seen : Option Files)
      → MaySee (g.H.Host.contents l.host) (g.H.Host.agrees l.host) seen
      → MaySee (g.H.Host.contents l.fn.host) (g.H.Host.agrees l.fn.host) seen;
  opens : g.H.Host.opens l.host ≡ g.H.Host.opens l.fn.host;
  quiet : g.H.Host.faults l.host ≡ g.H.Host.faults l.fn.host;
}

abbrev pub decreases-read_lines-lines : goal.decreases-read_lines-lines
decreases-read_lines-lines g l = length l.rest
