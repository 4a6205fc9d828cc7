-- The law rests on one look-up for each of the twenty policies: its name is found, and computes to that policy.
use Rattle.std.proofs.Common.{◌≡◌, Some, refl}
use Rattle.edge_io.specs.declared.policy.FragPolicy.{FragPolicy}
use Rattle.edge_io.specs.declared.policy.FragPolicy.TheVariants as frag
use Rattle.edge_io.specs.declared.policy.StreamPolicy.{StreamPolicy}
use Rattle.edge_io.specs.declared.policy.StreamPolicy.TheVariants as stream
use Rattle.edge_io.specs.Policies.{frag_name, frag_policy, stream_name, stream_policy}
use Rattle.edge_io.proofs.laws.policies_are_named.Goals as goal

frag_named : (policy : FragPolicy) → frag_policy (frag_name policy) ≡ Some policy
unfolding frag_policy
frag_named frag.First = refl
frag_named frag.Last = refl
frag_named frag.Bsd = refl
frag_named frag.BsdRight = refl
frag_named frag.Linux = refl
frag_named frag.Windows = refl
frag_named frag.Solaris = refl

stream_named : (policy : StreamPolicy) → stream_policy (stream_name policy) ≡ Some policy
unfolding stream_policy
stream_named stream.First = refl
stream_named stream.Last = refl
stream_named stream.Bsd = refl
stream_named stream.Linux = refl
stream_named stream.OldLinux = refl
stream_named stream.Windows = refl
stream_named stream.Win2003 = refl
stream_named stream.Vista = refl
stream_named stream.Solaris = refl
stream_named stream.Hpux = refl
stream_named stream.Hpux10 = refl
stream_named stream.Irix = refl
stream_named stream.Macos = refl

pub returns-clause-frag : goal.returns-clause-frag
returns-clause-frag c = frag_named

pub returns-clause-stream : goal.returns-clause-stream
returns-clause-stream c = stream_named
