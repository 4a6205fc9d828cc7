-- What a host tells of its files: a finite map from names to contents, or nothing.
--
-- To try it on: files with 1, 2 under "a" hold 1, 2 there, which is longer than 1, and lack "b"; a
-- host that tells nothing holds anything under any name and lacks none.
use Rattle.std.specs.Prelude.{◌≡◌, ℕ, ◌<◌, List, Option, Some, None, ⊤, length, IsSome}
use Rattle.std.specs.Ordering.{nat_cmp}
use Rattle.std.specs.Cmp.Lexicographic.{slice_cmp}
use Rattle.std.specs.FinMap.{FinMap, get}

-- from names to contents, both as bytes
abbrev pub Files : Type 0
Files = FinMap (slice_cmp nat_cmp) (List ℕ)

-- these bytes are what the name holds, as far as contents are told
abbrev pub Holds : Option Files → List ℕ → List ℕ → Type 0
Holds None name bytes = ⊤
Holds (Some files) name bytes = get files name ≡ Some bytes

-- contents are told, and the name is not among them
abbrev pub Lacks : Option Files → List ℕ → Type 0
Lacks None name = ⊥
Lacks (Some files) name = get files name ≡ None

-- what the name holds is longer than the limit, as far as contents are told
abbrev pub IsLonger : Option Files → List ℕ → ℕ → Type 0
IsLonger None name limit = ⊤
IsLonger (Some files) name limit = (bytes : List ℕ) × (get files name ≡ Some bytes) × (limit < length bytes)

-- what is left of a capture is the whole of the name's contents, as far as contents are told
abbrev pub IsOpened : Option Files → List ℕ → Option (List ℕ) → Type 0
IsOpened None name left = ⊤
IsOpened (Some files) name left = (left ≡ get files name) × IsSome left

-- contents are told, and nothing is open
abbrev pub IsUnopened : Option Files → Option (List ℕ) → Type 0
IsUnopened None left = ⊥
IsUnopened (Some files) left = left ≡ None

-- files that are told agree with what was answered, they alone, and by them as much is left as is told
pub record IsAsTold (files : Files) (left : Option (List ℕ)) (agrees : Files → Type 0)
    (left_of : Files → Option (List ℕ)) : Type 0 where
  pub agree : agrees files
  pub alone : (other : Files) → agrees other → other ≡ files
  pub left_is : left_of files ≡ left

-- files that are told are `IsAsTold`; where none are told, nothing is told to be left
abbrev pub AsTold : Option Files → Option (List ℕ) → (Files → Type 0) → (Files → Option (List ℕ)) → Type 0
AsTold None left agrees left_of = left ≡ None
AsTold (Some files) left agrees left_of = IsAsTold files left agrees left_of

-- these files may be seen of a host: they give all that it answered; or none, where it tells none
abbrev pub MaySee : Option Files → (Files → Type 0) → Option Files → Type 0
MaySee contents agrees None = contents ≡ None
MaySee contents agrees (Some files) = agrees files

-- what is left by these files, if any
abbrev pub left_by : (Files → Option (List ℕ)) → Option Files → Option (List ℕ)
left_by left_of None = None
left_by left_of (Some files) = left_of files
