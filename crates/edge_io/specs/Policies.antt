-- The rows of the overlap table that the policies of hosts stand for.
--
-- The fragment policies are those of Novak 2005, the stream policies those of Novak and Sturges
-- 2007; which row a stream policy has is this project's own choice.
-- To try it on: hpux10 has the row of bsd-right, and vista that of first; `BSD-Right` is the name of
-- a fragment policy and of no stream policy.
use Rattle.std.specs.Prelude.{ℕ, Bool, Option, List, [], ◌∷◌, map, find, bytes_eq, codes}
use Rattle.std.specs.Char.{to_ascii_lowercase}
use Rattle.edge_io.specs.declared.policy.FragPolicy.{FragPolicy}
use Rattle.edge_io.specs.declared.policy.FragPolicy.TheVariants as frag
use Rattle.edge_io.specs.declared.policy.StreamPolicy.{StreamPolicy}
use Rattle.edge_io.specs.declared.policy.StreamPolicy.TheVariants as stream
use Rattle.edge_io.specs.declared.policy.Preference.{Preference}
use Rattle.edge_io.specs.declared.policy.Preference.TheVariants.{First, Last, Bsd, BsdRight, Linux, Windows, Solaris}

-- a fragment policy has the row of its name
abbrev pub frag_preference : FragPolicy → Preference
frag_preference frag.First = First
frag_preference frag.Last = Last
frag_preference frag.Bsd = Bsd
frag_preference frag.BsdRight = BsdRight
frag_preference frag.Linux = Linux
frag_preference frag.Windows = Windows
frag_preference frag.Solaris = Solaris

-- the row of a stream policy
abbrev pub stream_preference : StreamPolicy → Preference
stream_preference stream.First = First
stream_preference stream.Vista = First
stream_preference stream.Last = Last
stream_preference stream.Bsd = Bsd
stream_preference stream.OldLinux = Bsd
stream_preference stream.Hpux = Bsd
stream_preference stream.Irix = Bsd
stream_preference stream.Macos = Bsd
stream_preference stream.Linux = Linux
stream_preference stream.Windows = Windows
stream_preference stream.Win2003 = Windows
stream_preference stream.Solaris = Solaris
stream_preference stream.Hpux10 = BsdRight

-- the name of a fragment policy in frag3's lines
abbrev pub frag_name : FragPolicy → List ℕ
frag_name frag.First = codes "first"
frag_name frag.Last = codes "last"
frag_name frag.Bsd = codes "bsd"
frag_name frag.BsdRight = codes "bsd-right"
frag_name frag.Linux = codes "linux"
frag_name frag.Windows = codes "windows"
frag_name frag.Solaris = codes "solaris"

-- the name of a stream policy in stream5's lines
abbrev pub stream_name : StreamPolicy → List ℕ
stream_name stream.First = codes "first"
stream_name stream.Last = codes "last"
stream_name stream.Bsd = codes "bsd"
stream_name stream.Linux = codes "linux"
stream_name stream.OldLinux = codes "old-linux"
stream_name stream.Windows = codes "windows"
stream_name stream.Win2003 = codes "win2003"
stream_name stream.Vista = codes "vista"
stream_name stream.Solaris = codes "solaris"
stream_name stream.Hpux = codes "hpux"
stream_name stream.Hpux10 = codes "hpux10"
stream_name stream.Irix = codes "irix"
stream_name stream.Macos = codes "macos"

-- the text is this name, in either ASCII case
abbrev pub is_named : List ℕ → List ℕ → Bool
is_named text name = bytes_eq (map to_ascii_lowercase text) (map to_ascii_lowercase name)

-- all fragment policies
abbrev pub frag_policies : List FragPolicy
frag_policies = frag.First ∷ frag.Last ∷ frag.Bsd ∷ frag.BsdRight ∷ frag.Linux ∷ frag.Windows ∷ frag.Solaris ∷ []

-- all stream policies
abbrev pub stream_policies : List StreamPolicy
stream_policies = stream.First ∷ stream.Last ∷ stream.Bsd ∷ stream.Linux ∷ stream.OldLinux ∷ stream.Windows ∷ stream.Win2003
    ∷ stream.Vista ∷ stream.Solaris ∷ stream.Hpux ∷ stream.Hpux10 ∷ stream.Irix ∷ stream.Macos ∷ []

-- the fragment policy of this name
unfoldable pub frag_policy : List ℕ → Option FragPolicy
frag_policy name = find (λ policy. is_named name (frag_name policy)) frag_policies

-- the stream policy of this name
unfoldable pub stream_policy : List ℕ → Option StreamPolicy
stream_policy name = find (λ policy. is_named name (stream_name policy)) stream_policies
