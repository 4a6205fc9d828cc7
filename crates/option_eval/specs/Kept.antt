-- Which extracted values later options still read, and what is kept of the others: 0.
--
-- To try it on: before `content:"a"; offset:n;` the value of n is kept. Before `byte_extract:1,0,n;` it isn't,
-- unless n is the offset of that extraction itself.
use Rattle.std.specs.Prelude.{ℕ, Bool, false, ◌&&◌, ◌||◌, not, ◌==◌, List, [], ◌∷◌, Option, Some, None, slice_index, if◌then◌else◌}
use Rattle.rule_types.specs.declared.option.Num.{Num}
use Rattle.rule_types.specs.declared.option.Num.TheVariants as num
use Rattle.rule_types.specs.declared.option.Opt.{Opt}
use Rattle.rule_types.specs.declared.option.Opt.TheVariants as opt

-- the number is the value of this name
abbrev pub is_named : ℕ → Num → Bool
is_named name (num.Value number) = false
is_named name (num.Name named) = named == name

-- a number, if there is one, is the value of this name
abbrev pub is_named_if : ℕ → Option Num → Bool
is_named_if name None = false
is_named_if name (Some number) = is_named name number

-- the option reads the value of the name
abbrev pub reads : ℕ → Opt → Bool
reads name (opt.Content content) = is_named_if name content.from || is_named_if name content.room
reads name (opt.ByteTest fetch not cmp value) = is_named name fetch.offset || is_named name value
reads name (opt.ByteJump fetch times align beginning post) = is_named name fetch.offset
reads name (opt.ByteExtract fetch given times align) = is_named name fetch.offset
reads name (opt.IsDataAt at relative negated) = is_named name at
reads name _ = false

-- the option gives the name a value
abbrev pub gives : ℕ → Opt → Bool
gives name (opt.ByteExtract fetch given times align) = given == name
gives name _ = false

-- some option reads the value that the name has before them all
abbrev pub is_read : ℕ → List Opt → Bool
is_read name [] = false
is_read name (option ∷ options) = reads name option || (not (gives name option) && is_read name options)

-- whether the value of each of the two names is still read before options
abbrev pub names_read : List Opt → List Bool
names_read options = is_read 0 options ∷ is_read 1 options ∷ []

-- what is kept of a name's value before options
abbrev pub kept_value : List Opt → List ℕ → ℕ → ℕ
kept_value options values name = if is_read name options then slice_index values name else 0

-- what is kept of the values of both names
abbrev pub kept_values : List Opt → List ℕ → List ℕ
kept_values options values = kept_value options values 0 ∷ kept_value options values 1 ∷ []
