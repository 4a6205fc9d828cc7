-- What stays of a host while others work with it.
--
-- Between two openings a reader only reads from it, and a configuration's files are loaded from it.
-- To try it on: of a host in memory whose count of faults fell from 2 to 1 neither holds.
use Rattle.std.specs.Prelude.{◌≡◌, ℕ, ◌≤◌, List, Option}
use Rattle.edge_io.specs.Files.{Files, MaySee}
use Rattle.edge_io.specs.declared.host.Host.{Ghosts as HostOf}

-- a host was only read from: its files stay, what may be seen of it afterwards might have been seen before, nothing
-- was opened, and no fault is forgotten
pub record OnlyRead {H : Type 0} (g : HostOf H) (old new : H) : Type 0 where
  pub files : g.contents new ≡ g.contents old
  pub earlier : (seen : Option Files) → MaySee (g.contents new) (g.agrees new) seen → MaySee (g.contents old) (g.agrees old) seen
  pub opens : g.opens new ≡ g.opens old
  pub later : g.faults old ≤ g.faults new

-- files of a host were loaded: what is left of its open capture stays, too
pub record OnlyLoaded {H : Type 0} (g : HostOf H) (old new : H) : Type 0 where
  pub files : g.contents new ≡ g.contents old
  pub earlier : (seen : Option Files) → MaySee (g.contents new) (g.agrees new) seen → MaySee (g.contents old) (g.agrees old) seen
  pub left : g.left new ≡ g.left old
  pub left_of : (files : Files) → g.left_of new files ≡ g.left_of old files
  pub opens : g.opens new ≡ g.opens old
  pub later : g.faults old ≤ g.faults new
