-- The fast pattern of a rule: the bytes that are looked for first (Snort Users Manual 2.9, section 3.5.22).
--
-- It is the content that is marked `fast_pattern`, or the part of it that the option names; where none is
-- marked, the longest content. A content after a `!` is never the fast pattern.
-- To try it on: of the contents `GET`, `!"administrator"` and `/etc` the fast pattern is `/etc`; of `abc`
-- and `xyz` it is `abc`, the first of the longest; with `fast_pattern:1,2` on `xyz` it is `yz`.
use Rattle.std.specs.Prelude.{ℕ, ◌+◌, List, [], ◌∷◌, Option, Some, None, length, take, drop, nat_lt, slice_get, if◌then◌else◌}
use Rattle.std.specs.List.{find}
use Rattle.std.specs.Option.{option_map}
use Rattle.rule_types.specs.declared.option.Content.{Content}
use Rattle.rule_types.specs.declared.option.FastMode.{FastMode}
use Rattle.rule_types.specs.declared.option.FastMode.TheVariants as mode
use Rattle.rule_types.specs.declared.option.Opt.{Opt}
use Rattle.rule_types.specs.declared.option.Opt.TheVariants as opt
use Rattle.rule_types.specs.Sound.{is_chosen}
use Rattle.fast_pattern.specs.declared.choice.Fast.{Fast}
use Rattle.fast_pattern.specs.declared.choice.Sought.{Sought}

-- where the part that a mark names begins: the content's first byte, where it names none
abbrev pub first_of : FastMode → ℕ
first_of (mode.Part from len) = from
first_of _ = 0

-- how many bytes it has: all of the content, where it names none
abbrev pub size_of : FastMode → ℕ → ℕ
size_of (mode.Part from len) size = len
size_of _ size = size

-- a content at this place of the options, by what a fast pattern is of it
abbrev pub sought_at : ℕ → Content → Sought
sought_at place content = record {
  place = place;
  from = first_of content.fast;
  len = size_of content.fast (length content.bytes);
  marked = is_chosen content.fast;
}

-- an option that is a content which isn't negated
abbrev pub sought_of : ℕ → Opt → Option Sought
sought_of place (opt.Content content) = if content.negated then None else Some (sought_at place content)
sought_of place _ = None

abbrev pub with : Option Sought → List Sought → List Sought
with None later = later
with (Some sought) later = sought ∷ later

-- the contents that aren't negated, of options the first of which has this place
abbrev pub sought_from : ℕ → List Opt → List Sought
sought_from place [] = []
sought_from place (option ∷ rest) = with (sought_of place option) (sought_from (place + 1) rest)

-- the longer of two, the first where they are equal
abbrev pub longer : Option Sought → Option Sought → Option Sought
longer None other = other
longer (Some one) None = Some one
longer (Some one) (Some other) = if nat_lt one.len other.len then Some other else Some one

-- the longest, the first of equals
abbrev pub longest : List Sought → Option Sought
longest [] = None
longest (sought ∷ later) = longer (Some sought) (longest later)

-- the first, or the second where there is none
abbrev pub or_else : Option Sought → Option Sought → Option Sought
or_else None other = other
or_else (Some one) other = Some one

-- the marked content, else the longest
unfoldable pub chosen : List Opt → Option Sought
chosen options = or_else (find (λ sought. sought.marked) (sought_from 0 options)) (longest (sought_from 0 options))

-- the fast pattern, by the place of its option and the place of its first byte in that content
abbrev pub fast_of : List Opt → Option Fast
fast_of options = option_map (λ sought. record { opt = sought.place; from = sought.from; len = sought.len }) (chosen options)

-- the bytes of a content
abbrev pub bytes_of : Option Opt → List ℕ
bytes_of (Some (opt.Content content)) = content.bytes
bytes_of _ = []

-- the bytes of a part of an option
abbrev pub part_bytes : List Opt → Sought → List ℕ
part_bytes options sought = take sought.len (drop sought.from (bytes_of (slice_get options sought.place)))

-- the bytes of the fast pattern
abbrev pub pattern_of : List Opt → Option (List ℕ)
pattern_of options = option_map (part_bytes options) (chosen options)
