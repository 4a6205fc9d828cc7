-- A walk through options from a set of places, and what it costs.
use Rattle.std.specs.Prelude.{◌≡◌, ℕ, ◌+◌, ◌*◌, true, false, List, [], ◌∷◌, Contains, Option, IfSome, count_by, if◌then◌else◌}
use Rattle.rule_types.specs.declared.option.Opt.{Opt}
use Rattle.option_eval.specs.Numbers.{Point}
use Rattle.option_eval.specs.Kept.{kept_values}
use Rattle.option_eval.specs.Places.{Means, Leads, IsWay, is_payload_option, is_extract, start}
use Rattle.option_eval.specs.Sets.{point}

-- some way leads through the options from a point
abbrev pub MatchesFrom : Means → List ℕ → List Opt → Point → Type 0
MatchesFrom means payload options before = (way : List Point) × IsWay means payload options before way

-- some way leads through the options from some place of a set, with these values
abbrev pub MatchesFromOne : Means → List ℕ → List Opt → List ℕ → List ℕ → Type 0
MatchesFromOne means payload options values places =
    (p : ℕ) × Contains places p × MatchesFrom means payload options (point values p)

-- no option extracts a value
abbrev pub ExtractsNothing : List Opt → Type 0
ExtractsNothing [] = Unit {0}
ExtractsNothing (option ∷ options) = (is_extract option ≡ false) × ExtractsNothing options

-- how many visits options may take in a payload of `size` bytes
abbrev pub visits_of : List Opt → ℕ → ℕ
visits_of options size = count_by is_payload_option options * (size + 1)

-- how many visits they may take where those after an extraction are tried anew from each of `lists` value lists
abbrev pub visits_apart : ℕ → List Opt → ℕ → ℕ
visits_apart lists [] size = 0
visits_apart lists (option ∷ options) size =
    (if is_payload_option option then size + 1 else 0)
    + (if is_extract option then lists * visits_apart lists options size else visits_apart lists options size)

-- after an extraction the options are tried before more points than these are held
abbrev pub part_points : ℕ
part_points = 131072

-- the options up to the first that extracts a value, and those after it
abbrev pub upto_extraction : List Opt → List Opt
upto_extraction [] = []
upto_extraction (option ∷ options) = option ∷ (if is_extract option then [] else upto_extraction options)

abbrev pub after_extraction : List Opt → List Opt
after_extraction [] = []
after_extraction (option ∷ options) = if is_extract option then options else after_extraction options

-- a list of points, if there is one, has this one
abbrev pub IsListed : Option (List Point) → List ℕ → ℕ → Type 0
IsListed listed values place = IfSome listed (λ points. Contains points (point values place))

-- each way from a point has, after each of the options, values of which the list has what is kept; and
-- with that, after each extraction, a point that is listed
abbrev pub HasValues : Means → List ℕ → List (List ℕ) → Option (List Point) → List Opt → Point → Type 0
HasValues means payload lists listed [] before = Unit {0}
HasValues means payload lists listed (option ∷ options) before =
    (after : Point) → Leads means payload option before after → Contains lists (kept_values options after.values)
    × (is_extract option ≡ true → IsListed listed (kept_values options after.values) after.place)
    × HasValues means payload lists listed options after

-- the list has what later options still read of the values after each option of each way from the payload's
-- start, and the values there; one of points, if there is one, has those after each extraction
abbrev pub HasEachValueList : Means → List ℕ → List Opt → List (List ℕ) → Option (List Point) → Type 0
HasEachValueList means payload options lists listed =
    Contains lists start.values × HasValues means payload lists listed options start
