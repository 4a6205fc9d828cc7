-- Flowbits (Snort Users Manual 2.9, section 3.6.10): `flowbits:set,n`, unset, toggle, isset, isnotset, and
-- `flowbits:noalert`.
--
-- A name has letters, digits, `.`, `_` and `-`. Names are numbered in the order in which rules first have
-- them, from 0 on, equal names alike, at most 1024. A name with `&` or `|`, a group after the name, `setx`
-- and `reset` are outside the profile.
-- To try it on: the first rule's `flowbits:set,a` sets bit 0, and `flowbits:isset,b` after it asks bit 1.
use Rattle.std.specs.Prelude.{ℕ, ◌==◌, ◌&&◌, ◌||◌, Bool, true, false, not, Option, Some, None, Result, Ok, Err, List, [], ◌∷◌, ◌++◌, length, bytes_eq, codes, nat_le, is_some, if◌then◌else◌}
use Rattle.std.specs.Char.{is_ascii_alphanumeric}
use Rattle.std.specs.List.{list_all, list_any}
use Rattle.edge_io.specs.OnResult.{◌>>=◌}
use Rattle.rule_parser.specs.declared.draft.RuleDraft.{RuleDraft}
use Rattle.rule_parser.specs.declared.fault.Fault.{Fault}
use Rattle.rule_parser.specs.declared.fault.Fault.TheVariants.{OptionValue, OutsideProfile, Limit}
use Rattle.rule_types.specs.declared.option.BitChange.TheVariants.{Set, Unset, Toggle}
use Rattle.rule_types.specs.declared.option.Opt.{Opt}
use Rattle.rule_types.specs.declared.option.Opt.TheVariants as opt
use Rattle.rule_parser.specs.declared.flowbits.BitWord.{BitWord}
use Rattle.rule_parser.specs.declared.flowbits.BitWord.TheVariants as word
use Rattle.rule_parser.specs.ByteOptions.{Part, first_part, next_part}
use Rattle.rule_parser.specs.Drafts.{kept}
use Rattle.rule_parser.specs.Names.{place_among}

-- a byte of a name: a letter, a digit, `.` (46), `_` (95) or `-` (45)
abbrev pub is_bit_byte : ℕ → Bool
is_bit_byte byte = is_ascii_alphanumeric byte || (byte == 46 || (byte == 95 || byte == 45))

-- a byte that joins names: `&` (38) or `|` (124)
abbrev pub is_joining : ℕ → Bool
is_joining byte = byte == 38 || byte == 124

-- a name of a bit
unfoldable pub bit_name : List ℕ → Result (List ℕ) Fault
bit_name text =
    if list_any is_joining text then Err OutsideProfile else if not (length text == 0) && list_all is_bit_byte text then Ok text
    else Err OptionValue

-- the option of a word at a bit
abbrev pub bit_option : BitWord → ℕ → Opt
bit_option word.Set bit = opt.BitDo Set bit
bit_option word.Unset bit = opt.BitDo Unset bit
bit_option word.Toggle bit = opt.BitDo Toggle bit
bit_option word.IsSet bit = opt.BitTest bit true
bit_option word.IsNotSet bit = opt.BitTest bit false

-- a word that wants a name
unfoldable pub bit_word : List ℕ → Result BitWord Fault
bit_word text =
    if bytes_eq text (codes "set") then Ok word.Set
    else if bytes_eq text (codes "unset") then Ok word.Unset
    else if bytes_eq text (codes "toggle") then Ok word.Toggle
    else if bytes_eq text (codes "isset") then Ok word.IsSet
    else if bytes_eq text (codes "isnotset") then Ok word.IsNotSet
    else if bytes_eq text (codes "setx") || bytes_eq text (codes "reset") then Err OutsideProfile
    else Err OptionValue

-- the names with this one, and its number: a name that is there keeps its number
abbrev pub numbered : List (List ℕ) → List ℕ → Option ℕ → Result (List (List ℕ) × ℕ) Fault
numbered names name (Some place) = Ok (names, place)
numbered names name None = if nat_le 1024 (length names) then Err Limit else Ok (names ++ name ∷ [], length names)

-- a draft, and the names of this and of all rules before
abbrev pub with_names : List (List ℕ) → Result RuleDraft Fault → Result (RuleDraft × List (List ℕ)) Fault
with_names names result = result >>= λ draft. Ok (draft, names)

-- a bit's name, after which nothing comes
unfoldable pub last_name : Part → Result (List ℕ) Fault
last_name part = do
  name ← bit_name part.text
  if is_some part.after then Err OutsideProfile else Ok name

-- a word, the first part, and a name
unfoldable pub bit_parts : List (List ℕ) → RuleDraft → Part → BitWord → Result (RuleDraft × List (List ℕ)) Fault
bit_parts names draft first bit = do
  part ← next_part first
  name ← last_name part
  numbering ← numbered names name (place_among name names)
  with_names numbering.0 (kept draft (bit_option bit numbering.1))

-- `noalert`, after which nothing comes
abbrev pub noalert : RuleDraft → Part → Result RuleDraft Fault
noalert draft first = if is_some first.after then Err OptionValue else Ok (record draft { noalert = true })

-- what a `flowbits` makes of a draft, by the first part of its value
unfoldable pub flowbits_parts : List (List ℕ) → RuleDraft → Part → Result (RuleDraft × List (List ℕ)) Fault
flowbits_parts names draft first =
    if bytes_eq first.text (codes "noalert") then with_names names (noalert draft first)
    else bit_word first.text >>= bit_parts names draft first

-- `flowbits:..`; `names` are those of this rule so far and of the rules before
unfoldable pub flowbits_option : List (List ℕ) → RuleDraft → List ℕ → Result (RuleDraft × List (List ℕ)) Fault
flowbits_option names draft value = flowbits_parts names draft (first_part 0 value)
