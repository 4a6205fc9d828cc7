-- The lines that define variables, and the name that an include gives. (Snort Users Manual 2.9, sections 2.1.1
-- and 2.1.2.)
--
-- `var N text`, `ipvar N list`, `portvar N list`: the value is the rest of the line. It is expanded when it is
-- defined, and the values of ipvar and portvar are then read as lists. The faults of a value are given also
-- where the name is fixed and keeps its value.
-- To try it on: `ipvar H [10.0.0.0/8` is a bad address list, `var 1 x` and `var N` are bad values.
use Rattle.std.specs.Prelude.{ℕ, ◌==◌, ◌&&◌, ◌++◌, ◌-◌, not, Bool, true, false, Option, Some, None, Result, Ok, Err, List, [], ◌∷◌, length, take, nat_le, if◌then◌else◌}
use Rattle.std.specs.List.{suffix_len}
use Rattle.std.specs.Str.{is_utf8}
use Rattle.net_lists.specs.Variables.{Variables, defined, is_name}
use Rattle.net_lists.specs.Cutting.{first_word, after_word}
use Rattle.conf_parser.specs.declared.variables.ValueForm.{ValueForm}
use Rattle.conf_parser.specs.declared.variables.ValueForm.TheVariants.{Any, Addresses, Ports}
use Rattle.conf_parser.specs.declared.line.ConfKind.{ConfKind}
use Rattle.conf_parser.specs.declared.line.ConfKind.TheVariants.{BadValue, TooDeep, Limit}
use Rattle.conf_parser.specs.Values.{◌>>=◌, mapped, is_empty, expanded, address_list, port_list}
use Rattle.conf_parser.specs.Spots.{Spot}

-- a value of this form stays as it is; any other is refused
abbrev pub checked : ValueForm → List ℕ → Result (List ℕ) ConfKind
checked Any value = Ok value
checked Addresses value = mapped (λ list. value) (address_list value)
checked Ports value = mapped (λ list. value) (port_list value)

-- the expanded value of this form
unfoldable pub value_of : Variables → ValueForm → List ℕ → Result (List ℕ) ConfKind
value_of variables form text = expanded variables text >>= checked form

-- the variables after a definition with this name and text
unfoldable pub named : Variables → ValueForm → List ℕ → List ℕ → Result Variables ConfKind
named variables form name text =
    if is_name name && not (is_empty text)
    then mapped (λ value. defined variables name value false) (value_of variables form text)
    else Err BadValue

-- `var`, `ipvar` and `portvar`: the variables after the line
unfoldable pub definition : Variables → ValueForm → List ℕ → Result Variables ConfKind
definition variables form rest = named variables form (first_word rest) (after_word rest)

-- the directory part of a file's name: up to its last `/` (47), that included
unfoldable pub directory : List ℕ → List ℕ
directory file = take (length file - suffix_len (λ byte. not (byte == 47)) file) file

-- a name that begins with `/`
unfoldable pub is_rooted : List ℕ → Bool
is_rooted [] = false
is_rooted (first ∷ rest) = first == 47

-- the file that a name means in a file
unfoldable pub beside : List ℕ → List ℕ → List ℕ
beside file name = if is_rooted name then name else directory file ++ name

-- A file may be read there: includes nest at most 16 deep, and at most 4096 files are read.
unfoldable pub within_files : Spot → List ℕ → Result (List ℕ) ConfKind
within_files spot name =
    if nat_le 16 spot.depth then Err TooDeep
    else if nat_le 4096 spot.files then Err Limit
    else Ok (beside spot.file name)

-- a name is UTF-8
abbrev pub is_file_name : List ℕ → Result (List ℕ) ConfKind
is_file_name name = if is_utf8 name then Ok name else Err BadValue

-- `include`: the name of the file that is read there
unfoldable pub include : Variables → Spot → List ℕ → Result (List ℕ) ConfKind
include variables spot rest =
    if is_empty rest then Err BadValue
    else (expanded variables rest >>= is_file_name) >>= within_files spot
