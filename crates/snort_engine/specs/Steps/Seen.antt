-- What a step says of the host that it works with: by whatever may be seen of it, by its count of faults, and what stays.
--
-- To try it on: of a host that tells its files, what is said by whatever may be seen is said by these files; of a real
-- one it is said by any files that give all that it answered.
use Rattle.std.specs.Prelude.{◌≡◌, ◌≤◌, Option}
use Rattle.edge_io.specs.Files.{Files, MaySee}
use Rattle.edge_io.specs.Told.{Rose}
use Rattle.edge_io.specs.declared.host.Host.{Ghosts as HostOf}

-- something holds by whatever may be seen of a host: what it tells, or files that give all that it answered
abbrev pub OfSeen : {H : Type 0} → HostOf H → H → (Option Files → Type 0) → Type 0
OfSeen h host Holds = (seen : Option Files) → MaySee (h.contents host) (h.agrees host) seen → Holds seen

-- the host's count of faults rose
abbrev pub HostRose : {H : Type 0} → HostOf H → H → H → Type 0
HostRose h old new = Rose (h.faults old) (h.faults new)

-- a capture was opened, and maybe read: the host's files stay, what may be seen of it afterwards might have been seen
-- before, and no fault is forgotten
pub record OnlyOpened {H : Type 0} (g : HostOf H) (old new : H) : Type 0 where
  pub files : g.contents new ≡ g.contents old
  pub earlier : OfSeen g new (λ seen. MaySee (g.contents old) (g.agrees old) seen)
  pub later : g.faults old ≤ g.faults new
