-- What a host has answered so far, the newest answer first, and which files agree with it.
--
-- To try it on: files with 1, 2, 3 under "a" agree with an open of "a" and then a read that gave 1, 2;
-- what is left is 3. They do not agree with a read that gave 1, 3, nor with a load of "a" that gave 1, 2.
use Rattle.std.specs.Prelude.{◌≡◌, ℕ, ◌==◌, List, [], ◌∷◌, ◌++◌, Option, Some, None, ⊤, length, drop, get_or, cond, option_map, IsSome, refl}
use Rattle.std.specs.FinMap.{get}
use Rattle.std.specs.Coded.{Coded, code_by, coded×, coded_ℕ, coded_list}
use Rattle.edge_io.specs.Files.{Files, IsLonger}

-- one answer: a whole file's bytes; that a file is longer than a limit; that a file is open as the capture; that
-- nothing is open; the next bytes of the open capture, none at its end
pub data Answer : Type 0 where
  loaded : List ℕ → List ℕ → Answer
  longer : List ℕ → ℕ → Answer
  opened : List ℕ → Answer
  closed : Answer
  gave : List ℕ → Answer

abbrev Parts : Type 0
Parts = ℕ × (List ℕ × List ℕ)

abbrev to_parts : Answer → Parts
to_parts (loaded name bytes) = (0, (name, bytes))
to_parts (longer name limit) = (1, (name, limit ∷ []))
to_parts (opened name) = (2, (name, []))
to_parts closed = (3, ([], []))
to_parts (gave bytes) = (4, ([], bytes))

abbrev from_parts : Parts → Answer
from_parts p =
    cond (p.0 == 0) (loaded p.1.0 p.1.1)
    (cond (p.0 == 1) (longer p.1.0 (get_or p.1.1 0 0)) (cond (p.0 == 2) (opened p.1.0) (cond (p.0 == 3) closed (gave p.1.1))))

pub from_to : (answer : Answer) → from_parts (to_parts answer) ≡ answer
from_to (loaded name bytes) = refl
from_to (longer name limit) = refl
from_to (opened name) = refl
from_to closed = refl
from_to (gave bytes) = refl

abbrev pub answers_code : Coded (List Answer)
answers_code =
    coded_list (code_by Parts (coded× coded_ℕ (coded× (coded_list coded_ℕ) (coded_list coded_ℕ))) to_parts from_parts from_to)

-- what these files have left of the open capture after these answers
abbrev pub left_after : List Answer → Files → Option (List ℕ)
left_after [] files = None
left_after (loaded name bytes ∷ earlier) files = left_after earlier files
left_after (longer name limit ∷ earlier) files = left_after earlier files
left_after (opened name ∷ earlier) files = get files name
left_after (closed ∷ earlier) files = None
left_after (gave bytes ∷ earlier) files = option_map (drop (length bytes)) (left_after earlier files)

-- these bytes are next, and none only at the end
abbrev pub AreNext : Option (List ℕ) → List ℕ → Type 0
AreNext None bytes = bytes ≡ []
AreNext (Some rest) bytes = (rest ≡ bytes ++ drop (length bytes) rest) × (bytes ≡ [] → rest ≡ [])

-- these files give this answer, where `left` is left of the open capture
abbrev pub GivesAnswer : Files → Option (List ℕ) → Answer → Type 0
GivesAnswer files left (loaded name bytes) = get files name ≡ Some bytes
GivesAnswer files left (longer name limit) = IsLonger (Some files) name limit
GivesAnswer files left (opened name) = IsSome (get files name)
GivesAnswer files left closed = ⊤
GivesAnswer files left (gave bytes) = AreNext left bytes

-- these files give all of these answers
abbrev pub Agree : List Answer → Files → Type 0
Agree [] files = ⊤
Agree (answer ∷ earlier) files = Agree earlier files × GivesAnswer files (left_after earlier files) answer

-- the bytes that a sink took, by its answers
abbrev pub taken_of : List Answer → List ℕ
taken_of [] = []
taken_of (gave bytes ∷ earlier) = taken_of earlier ++ bytes
taken_of (answer ∷ earlier) = taken_of earlier
