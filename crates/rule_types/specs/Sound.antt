-- When a rule is sound for a list of classes: all that the crates which try it on items need of its numbers.
--
-- To try it on: a rule whose first option reads an offset from an extracted name is not sound, since no
-- option before it extracts one.
use Rattle.std.specs.Prelude.{◌≡◌, ℕ, ◌+◌, ◌<◌, ◌≤◌, ◌==◌, ◌&&◌, ◌||◌, ◌⊎◌, ⊤, ℤ, pos, negsuc, ◌≤ℤ◌, Bool, true, false, not, None, List, [], ◌∷◌, length, Contains, IfSome, IsTrue, All, count_by}
use Rattle.conf_types.specs.declared.classes.Class.{Class}
use Rattle.rule_types.specs.declared.option.Base.{Base}
use Rattle.rule_types.specs.declared.option.Base.TheVariants as base
use Rattle.rule_types.specs.declared.option.Cmp.{Cmp}
use Rattle.rule_types.specs.declared.option.Cmp.TheVariants as cmp
use Rattle.rule_types.specs.declared.option.Content.{Content}
use Rattle.rule_types.specs.declared.option.FastMode.{FastMode}
use Rattle.rule_types.specs.declared.option.FastMode.TheVariants as fast
use Rattle.rule_types.specs.declared.option.Fetch.{Fetch}
use Rattle.rule_types.specs.declared.option.Field.{Field}
use Rattle.rule_types.specs.declared.option.Field.TheVariants as field
use Rattle.rule_types.specs.declared.option.Num.{Num}
use Rattle.rule_types.specs.declared.option.Num.TheVariants as num
use Rattle.rule_types.specs.declared.option.Opt.{Opt}
use Rattle.rule_types.specs.declared.option.Opt.TheVariants as opt
use Rattle.rule_types.specs.declared.option.Side.{Side}
use Rattle.rule_types.specs.declared.option.Side.TheVariants as side
use Rattle.rule_types.specs.declared.rule.Rule.{Rule}

-- the greatest number of a field
abbrev pub most_of : Field → ℕ
most_of field.Dsize = 65535
most_of _ = 4294967295

-- a number from `least` to `most`, or a name that was extracted before
abbrev pub IsNum : List ℕ → ℤ → ℤ → Num → Type 0
IsNum names least most (num.Value value) = (least ≤ℤ value) × (value ≤ℤ most)
IsNum names least most (num.Name place) = Contains names place

-- an offset: -65535 to 65535, or a name
abbrev pub IsOffset : List ℕ → Num → Type 0
IsOffset names offset = IsNum names (negsuc 65534) (pos 65535) offset

-- a fast pattern is no negated content; a part of a content lies within it
abbrev pub IsFast : Content → FastMode → Type 0
IsFast content fast.No = ⊤
IsFast content fast.Yes = content.negated ≡ false
IsFast content fast.Only = (content.from ≡ None) × (content.room ≡ None) × (content.negated ≡ false)
IsFast content (fast.Part from len) = (1 ≤ len) × (from + len ≤ length content.bytes) × (content.negated ≡ false)

-- a content of 1 to 2048 bytes with its place and its room
abbrev pub IsContent : List ℕ → Content → Type 0
IsContent names content =
    ((1 ≤ length content.bytes) × (length content.bytes ≤ 2048)) × IfSome content.from (IsOffset names)
    × IfSome content.room (IsNum names (pos (length content.bytes)) (pos 65535)) × IsFast content content.fast

-- 1 to 4 bytes of a number, or 1 to 10 of a text
abbrev pub bytes_of_base : Base → ℕ
bytes_of_base (base.Binary little) = 4
bytes_of_base base.Dec = 10
bytes_of_base base.Hex = 10
bytes_of_base base.Oct = 10

abbrev pub IsFetch : List ℕ → Fetch → Type 0
IsFetch names fetch = ((1 ≤ fetch.bytes) × (fetch.bytes ≤ bytes_of_base fetch.base)) × IsOffset names fetch.offset

-- a comparison of two numbers
abbrev pub is_order : Cmp → Bool
is_order cmp.And = false
is_order cmp.Within = false
is_order _ = true

-- comparisons of these kinds: with `=`; not equal; with `<` or `>`; within two ends; by common bits
abbrev pub is_equal : Cmp → Bool
is_equal cmp.Eq = true
is_equal _ = false

abbrev pub is_unequal : Cmp → Bool
is_unequal cmp.Ne = true
is_unequal _ = false

abbrev pub is_strict : Cmp → Bool
is_strict cmp.Lt = true
is_strict cmp.Gt = true
is_strict _ = false

abbrev pub is_within : Cmp → Bool
is_within cmp.Within = true
is_within _ = false

abbrev pub is_common : Cmp → Bool
is_common cmp.And = true
is_common _ = false

-- the comparisons of byte_test, where "not equal" is a negated `=`
abbrev pub is_test : Cmp → Bool
is_test cmp = not (is_unequal cmp) && not (is_within cmp)

-- the comparisons that a field has
abbrev pub compares : Field → Cmp → Bool
compares field.Ttl cmp = not (is_unequal cmp) && not (is_common cmp)
compares field.Tos cmp = is_equal cmp || is_unequal cmp
compares field.Window cmp = is_equal cmp || is_unequal cmp
compares field.FragOffset cmp = (is_equal cmp || is_unequal cmp) || is_strict cmp
compares field.IpProto cmp = (is_equal cmp || is_unequal cmp) || is_strict cmp
compares field.Itype cmp = is_equal cmp || is_strict cmp
compares field.Icode cmp = is_equal cmp || is_strict cmp
compares field.Dsize cmp = (is_equal cmp || is_strict cmp) || is_within cmp
compares field.Id cmp = is_equal cmp
compares field.Seq cmp = is_equal cmp
compares field.Ack cmp = is_equal cmp
compares field.IcmpId cmp = is_equal cmp
compares field.IcmpSeq cmp = is_equal cmp

-- both ends are the same number, but for a range
abbrev pub AreEnds : Cmp → ℕ → ℕ → Type 0
AreEnds cmp low high = IsTrue (is_within cmp) ⊎ (low ≡ high)

-- the side is named, and is not either
abbrev pub is_named_side : Side → Bool
is_named_side side.Either = false
is_named_side _ = true

-- an option after options that extract the names of these places
abbrev pub IsOption : List ℕ → Opt → Type 0
IsOption names (opt.Content content) = IsContent names content
IsOption names (opt.Pcre text flags relative negated) = (length text ≤ 4096) × All (λ byte. byte < 128) text
IsOption names (opt.ByteTest fetch not cmp value) =
    IsFetch names fetch × IsNum names (pos 0) (pos 4294967295) value × IsTrue (is_test cmp)
IsOption names (opt.ByteJump fetch times align beginning post) =
    IsFetch names fetch × (times ≤ 65535) × (negsuc 65534 ≤ℤ post) × (post ≤ℤ pos 65535)
IsOption names (opt.ByteExtract fetch name times align) =
    IsFetch names fetch × (name < 2) × (times ≤ 65535) × IsTrue (align == 0 || (align == 2 || align == 4))
IsOption names (opt.IsDataAt at relative negated) = IsNum names (pos 0) (pos 65535) at
IsOption names (opt.Flow flow) = ⊤
IsOption names (opt.Flags mode bits mask) = (bits < 256) × (mask < 256)
IsOption names (opt.FragBits mode bits) = bits < 8
IsOption names (opt.Compare field cmp low high) =
    (low ≤ most_of field) × (high ≤ most_of field) × IsTrue (compares field cmp) × AreEnds cmp low high
IsOption names opt.SameIp = ⊤
IsOption names (opt.BitTest bit want) = bit < 1024
IsOption names (opt.BitDo change bit) = bit < 1024
IsOption names (opt.StreamSize side cmp value) = IsTrue (is_order cmp) × (value ≤ 4294967295)
IsOption names (opt.Reassemble on side) = IsTrue (is_named_side side)

-- the names that are extracted after an option
abbrev pub names_after_one : List ℕ → Opt → List ℕ
names_after_one names (opt.ByteExtract fetch name times align) = name ∷ names
names_after_one names _ = names

-- options in their order
abbrev pub AreOptions : List ℕ → List Opt → Type 0
AreOptions names [] = ⊤
AreOptions names (option ∷ rest) = IsOption names option × AreOptions (names_after_one names option) rest

-- a content that is the rule's fast pattern
abbrev pub is_chosen : FastMode → Bool
is_chosen fast.No = false
is_chosen _ = true

abbrev pub is_fast : Opt → Bool
is_fast (opt.Content content) = is_chosen content.fast
is_fast _ = false

-- the lists of a header: at most 1024 parts each
pub record AreLists (rule : Rule) : Type 0 where
  pub src : length rule.src ≤ 1024
  pub sports : length rule.sports ≤ 1024
  pub dst : length rule.dst ≤ 1024
  pub dports : length rule.dports ≤ 1024

-- a rule is sound, whatever the classes are
pub record IsTriable (rule : Rule) : Type 0 where
  pub lists : AreLists rule
  pub options : AreOptions [] rule.opts
  pub count : length rule.opts ≤ 64
  pub fast : count_by is_fast rule.opts ≤ 1
  pub msg : length rule.msg ≤ 1024
  pub numbers : (1 ≤ rule.gid) × (1 ≤ rule.sid)
  pub period : IfSome rule.period (λ period. (1 ≤ period.count) × (1 ≤ period.seconds))

-- a rule is sound for these classes: its class is one of them
pub record IsSound (classes : List Class) (rule : Rule) : Type 0 where
  pub class : IfSome rule.class (λ place. place < length classes)
  pub triable : IsTriable rule
