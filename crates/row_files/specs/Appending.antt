-- Files that grow.
--
-- To try it on: where "a" holds 1, 2, it holds 1, 2, 3 after 3 was appended; where it is missing, 3.
use Rattle.std.specs.Prelude.{ℕ, List, [], ◌++◌, unwrap_or}
use Rattle.std.specs.FinMap.{get, insert}
use Rattle.edge_io.specs.Files.{Files}

-- the bytes of the file of this name, none where it is missing
abbrev pub bytes_of : Files → List ℕ → List ℕ
bytes_of files name = unwrap_or (get files name) []

-- the files after bytes were appended to the one of this name, which is there from then on
abbrev pub files_with : Files → List ℕ → List ℕ → Files
files_with files name bytes = insert files name (bytes_of files name ++ bytes)
