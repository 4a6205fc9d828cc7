-- Counts that rose, and what stays of a host that is opened and read from.
use Rattle.std.proofs.Common.{ℕ, ◌≤◌, refl, ◌∙◌, arith}
use Rattle.std.proofs.lemmas.Bool.Decides.{nat_tests}
use Rattle.edge_io.specs.Told.{Rose}
use Rattle.edge_io.specs.declared.host.Host.{Ghosts as HostOf}
use Rattle.edge_io.specs.Frames.{OnlyRead}
use Rattle.snort_engine.specs.Steps.Seen.{OnlyOpened}

-- a count that rose from later on rose from earlier on
pub rose_since : (old middle new : ℕ) → old ≤ middle → Rose middle new → Rose old new
rose_since old middle new later rose = grind (arith, nat_tests)

-- a count that rose stays risen
pub rose_on : (old middle new : ℕ) → Rose old middle → middle ≤ new → Rose old new
rose_on old middle new rose later = omega (arith, rose)

-- ---- a host that is only read from

-- nothing was done with it
pub read_not : {H : Type 0} (g : HostOf H) (host : H) → OnlyRead g host host
read_not g host = record { files = refl; earlier = λ seen may. may; opens = refl; later = omega arith }

-- a host was read from, and again
pub read_on : {H : Type 0} (g : HostOf H) (old middle new : H) → OnlyRead g old middle → OnlyRead g middle new → OnlyRead g old new
read_on g old middle new one two = record {
  files = two.files ∙ one.files;
  earlier = λ seen may. one.earlier seen (two.earlier seen may);
  opens = two.opens ∙ one.opens;
  later = let before = one.later in let after = two.later in omega (arith, before, after);
}

-- a host's count rose after it was read from
pub read_rose : {H : Type 0} (g : HostOf H) (old middle new : H) → OnlyRead g old middle → Rose (g.faults middle) (g.faults new) → Rose (g.faults old) (g.faults new)
read_rose g old middle new read rose = rose_since (g.faults old) (g.faults middle) (g.faults new) read.later rose

-- ---- a host whose capture was opened

-- a host whose capture was opened was then read from
pub opened_read : {H : Type 0} (g : HostOf H) (old middle new : H) → OnlyOpened g old middle → OnlyRead g middle new → OnlyOpened g old new
opened_read g old middle new one two = record {
  files = two.files ∙ one.files;
  earlier = λ seen may. one.earlier seen (two.earlier seen may);
  later = let before = one.later in let after = two.later in omega (arith, before, after);
}

pub ruleset rising = (rose_since, rose_on)

pub ruleset reading = (rose_since, rose_on, read_not, read_on, read_rose)
