-- How many values a rule can extract from a payload, and how many visits it may take: by the rule's own options
-- and the payload's length alone.
--
-- To try it on: in a payload of 100 bytes `byte_extract:1,0,n,relative` takes its number at one of 100 places, so n
-- has at most 101 values, with the 0 that it has before; in one of 1,000 bytes at most 257.
use Rattle.std.specs.Prelude.{ℕ, ◌+◌, ◌-◌, ◌*◌, Bool, true, false, ◌&&◌, ◌||◌, ◌==◌, not, List, [], ◌∷◌, min, nat_le, if◌then◌else◌}
use Rattle.std.specs.List.{sum_by}
use Rattle.rule_types.specs.declared.option.Num.{Num}
use Rattle.rule_types.specs.declared.option.Num.TheVariants as num
use Rattle.rule_types.specs.declared.option.Opt.{Opt}
use Rattle.rule_types.specs.declared.option.Opt.TheVariants as opt
use Rattle.option_eval.specs.Kept.{gives, is_read}
use Rattle.option_eval.specs.Walks.{visits_of, visits_apart, part_points}

-- the number is told in the rule
abbrev pub is_told : Num → Bool
is_told (num.Value number) = true
is_told (num.Name name) = false

-- at how many places of a payload of `size` bytes an extraction can take its number: at one, if its offset is told
-- and counts from the payload's start; else wherever its bytes lie in the payload
abbrev pub place_count : Opt → ℕ → ℕ
place_count (opt.ByteExtract fetch name times align) size =
    if not fetch.relative && is_told fetch.offset then 1 else size + 1 - fetch.bytes
place_count _ size = 0

-- an extraction of one byte
abbrev pub is_of_one_byte : Opt → Bool
is_of_one_byte (opt.ByteExtract fetch name times align) = fetch.bytes == 1
is_of_one_byte _ = false

-- how many numbers an extraction can take: one at each of its places, and of one byte at most 256
abbrev pub number_count : Opt → ℕ → ℕ
number_count option size =
    if is_of_one_byte option then min (place_count option size) 256 else place_count option size

-- how many numbers all extractions into a name can take
abbrev pub extracted_count : ℕ → List Opt → ℕ → ℕ
extracted_count name options size = sum_by (λ option. if gives name option then number_count option size else 0) options

-- after some option both names' values are still read
abbrev pub reads_both : List Opt → Bool
reads_both [] = false
reads_both (option ∷ options) = (is_read 0 options && is_read 1 options) || reads_both options

-- how many lists of the two names' values there can be: each value of the one with each of the other, where both are
-- read at once, else each of them beside a 0. Each name has a value more than its numbers, the 0 that it has before.
unfoldable pub list_count : List Opt → ℕ → ℕ
list_count options size =
    if reads_both options then (1 + extracted_count 0 options size) * (1 + extracted_count 1 options size)
    else 1 + (extracted_count 0 options size + extracted_count 1 options size)

-- how many values a name can have after an extraction that gives another one, where later options read it
abbrev pub other_count : ℕ → Opt → List Opt → List Opt → ℕ → ℕ
other_count name option later all size =
    if not (gives name option) && is_read name later then 1 + extracted_count name all size else 1

-- how many points there can be after the extractions of some of a rule's options: each place that an extraction
-- can take its number at, with each value of a name that it doesn't give
abbrev pub points_after : List Opt → List Opt → ℕ → ℕ
points_after all [] size = 0
points_after all (option ∷ later) size =
    place_count option size * (other_count 0 option later all size * other_count 1 option later all size)
    + points_after all later size

-- how many points there can be after the extractions of all of a rule's options
unfoldable pub point_count : List Opt → ℕ → ℕ
point_count options size = points_after options options size

-- how many visits a rule's options can take in a payload of `size` bytes. Where no more points are held at once
-- than a part has, the options are gone through once for each list of values at most. Else, and no worse elsewhere,
-- those after each extraction once for each list of values and each time that they are come to.
unfoldable pub most_visits : List Opt → ℕ → ℕ
most_visits options size =
    if nat_le (point_count options size) part_points
    then min (list_count options size * visits_of options size) (visits_apart (list_count options size) options size)
    else visits_apart (list_count options size) options size
