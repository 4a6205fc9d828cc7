-- What a capture holds, whatever its format: records in order, and the ending after them.
--
-- R is what a record is, and F what a capture is refused for. A capture ends cleanly, at its end or at a limit,
-- or at what can't be read. A limit leaves the first records and a clean ending, where there are as many; else
-- it leaves all.
-- To try it on: of the records a, b and c before a refusal a limit of 2 leaves a, b and a clean ending, a limit of
-- 3 all three and a clean ending, and a limit of 4 all three and the refusal.
use Rattle.std.specs.Prelude.{◌≡◌, ◌≤◌, ℕ, List, [], ◌∷◌, ◌++◌, length, map, take, min, nat_le, Option, Some, None, ⊤, if◌then◌else◌}

-- how a capture ends: at its end or at a limit, or at what can't be read
pub data Ending (F : Type 0) : Type 0 where
  Clean : Ending F
  Refused : F → Ending F

-- records in order, and the ending after them
pub record Cut (R F : Type 0) : Type 0 where
  pub records : List R
  pub ending : Ending F

-- no record, and this ending
abbrev pub no_more : {R F : Type 0} → Ending F → Cut R F
no_more ending = record { records = []; ending = ending }

-- these records, and a clean ending
abbrev pub clean_with : {R F : Type 0} → List R → Cut R F
clean_with records = record { records = records; ending = Clean }

-- a record, and then these
abbrev pub with_first : {R F : Type 0} → R → Cut R F → Cut R F
with_first first cut = record { records = first ∷ cut.records; ending = cut.ending }

-- some records, and then these
abbrev pub with_front : {R F : Type 0} → List R → Cut R F → Cut R F
with_front given cut = record { records = given ++ cut.records; ending = cut.ending }

-- the first records where there is a limit, which is then a clean ending; all where it isn't reached
unfoldable pub first_records : {R F : Type 0} → Option ℕ → Cut R F → Cut R F
first_records None cut = cut
first_records (Some limit) cut =
    if nat_le limit (length cut.records) then clean_with (take limit cut.records) else cut

-- no more records than a limit lets
abbrev pub AreWithin : {R : Type 0} → Option ℕ → List R → Type 0
AreWithin None records = ⊤
AreWithin (Some limit) records = length records ≤ limit

-- this number, or as many as a limit lets
abbrev pub limited : Option ℕ → ℕ → ℕ
limited None count = count
limited (Some limit) count = min limit count

-- this many records, and a clean ending
pub record IsWhole {R F : Type 0} (count : ℕ) (cut : Cut R F) : Type 0 where
  pub count_is : length cut.records ≡ count
  pub clean : cut.ending ≡ Clean

-- ---- endings and cuts in other words

-- an ending whose fault is told so
abbrev pub ending_by : {F G : Type 0} → (F → G) → Ending F → Ending G
ending_by told Clean = Clean
ending_by told (Refused why) = Refused (told why)

-- a cut each record of which is told by the one, and its fault by the other
abbrev pub cut_by : {R S F G : Type 0} → (R → S) → (F → G) → Cut R F → Cut S G
cut_by given told cut = record { records = map given cut.records; ending = ending_by told cut.ending }
