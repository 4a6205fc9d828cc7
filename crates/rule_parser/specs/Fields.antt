-- Numbers of a packet's headers, and the length of its payload (Snort Users Manual 2.9, section 3.6).
--
-- A value is a number, some with a sign before it, as `allows` says; `ttl` and `dsize` have ranges
-- too, with both ends inside, and `ip_proto` has four names. Numbers end at 4294967295, those of `dsize` at
-- 65535. `sameip` has no value.
-- To try it on: `ttl:>=3`, `ttl:-5` (at most 5), `dsize:4<>8`, `tos:!4`, `ip_proto:tcp` are read;
-- `tos:<4`, `ttl:-`, `id:=4` and `itype:3<>5` are wrong values.
use Rattle.std.specs.Prelude.{ℕ, ◌+◌, ◌==◌, ◌&&◌, ◌||◌, Bool, true, false, not, Option, Some, None, Result, Ok, Err, List, [], ◌∷◌, length, take, drop, bytes_eq, codes, is_some, position, if◌then◌else◌}
use Rattle.edge_io.specs.OnResult.{◌>>=◌}
use Rattle.net_lists.specs.Numbers.{number_in}
use Rattle.net_lists.specs.Stops.{or_kind}
use Rattle.rule_parser.specs.declared.draft.RuleDraft.{RuleDraft}
use Rattle.rule_parser.specs.declared.fault.Fault.{Fault}
use Rattle.rule_parser.specs.declared.fault.Fault.TheVariants.{OptionValue}
use Rattle.rule_parser.specs.declared.fields.Sign.{Sign}
use Rattle.rule_parser.specs.declared.fields.Sign.TheVariants.{Plain, Equal, Not, Below, Above, UpTo, From}
use Rattle.rule_types.specs.declared.option.Cmp.{Cmp}
use Rattle.rule_types.specs.declared.option.Cmp.TheVariants as cmp
use Rattle.rule_types.specs.declared.option.Field.{Field}
use Rattle.rule_types.specs.declared.option.Field.TheVariants as field
use Rattle.rule_types.specs.declared.option.Opt.{Opt}
use Rattle.rule_types.specs.declared.option.Opt.TheVariants as opt
use Rattle.rule_parser.specs.Drafts.{kept}
use Rattle.rule_types.specs.Sound.{most_of, compares}

-- the sign in front of a number, `<` (60), `=` (61), `>` (62), `!` (33), and what comes after it
abbrev pub below_sign : List ℕ → Sign × List ℕ
below_sign [] = (Below, [])
below_sign (second ∷ rest) = if second == 61 then (UpTo, rest) else (Below, second ∷ rest)

abbrev pub above_sign : List ℕ → Sign × List ℕ
above_sign [] = (Above, [])
above_sign (second ∷ rest) = if second == 61 then (From, rest) else (Above, second ∷ rest)

unfoldable pub sign_of : List ℕ → Sign × List ℕ
sign_of [] = (Plain, [])
sign_of (first ∷ rest) =
    if first == 60 then below_sign rest else if first == 62 then above_sign rest else if first == 61 then (Equal, rest)
    else if first == 33 then (Not, rest) else (Plain, first ∷ rest)

-- how a sign compares
abbrev pub cmp_of : Sign → Cmp
cmp_of Plain = cmp.Eq
cmp_of Equal = cmp.Eq
cmp_of Not = cmp.Ne
cmp_of Below = cmp.Lt
cmp_of Above = cmp.Gt
cmp_of UpTo = cmp.Le
cmp_of From = cmp.Ge

-- the sign `=`
abbrev pub is_equals : Sign → Bool
is_equals Equal = true
is_equals _ = false

-- the field that may have it
abbrev pub is_ttl : Field → Bool
is_ttl field.Ttl = true
is_ttl _ = false

-- a field has the signs by which it compares; `=`, which says what no sign says, only where it is `ttl`
abbrev pub allows : Field → Sign → Bool
allows field sign = compares field (cmp_of sign) && (is_ttl field || not (is_equals sign))

-- a field against one number
abbrev pub against : Field → Cmp → ℕ → Opt
against field cmp number = opt.Compare field cmp number number

-- a number, a sign before it perhaps
unfoldable pub signed_compare : Field → List ℕ → Result Opt Fault
signed_compare field text = do
  number ← if allows field (sign_of text).0 then or_kind OptionValue (number_in 0 (most_of field) (sign_of text).1)
      else Err OptionValue
  Ok (against field (cmp_of (sign_of text).0) number)

-- an end of a range, or what stands for one that lacks
abbrev pub end_of : ℕ → List ℕ → Option ℕ
end_of lacking text = if length text == 0 then Some lacking else number_in 0 4294967295 text

-- `ttl:a-b`, `ttl:-b`, `ttl:a-`, cut at the `-`
unfoldable pub ttl_range : List ℕ → List ℕ → Result Opt Fault
ttl_range low high = do
  least ← or_kind OptionValue (end_of 0 low)
  most ← or_kind OptionValue (end_of 4294967295 high)
  if length low == 0 && length high == 0 then Err OptionValue else Ok (opt.Compare field.Ttl cmp.Within least most)

-- `dsize:a<>b`, cut at the `<>`
unfoldable pub dsize_range : List ℕ → List ℕ → Result Opt Fault
dsize_range low high = do
  least ← or_kind OptionValue (number_in 0 65535 low)
  most ← or_kind OptionValue (number_in 0 65535 high)
  Ok (opt.Compare field.Dsize cmp.Within least most)

-- the place of the first of these bytes
abbrev pub place_of : ℕ → List ℕ → Option ℕ
place_of byte text = position (λ b. b == byte) text

-- what a `ttl` says, by the place of a `-` (45)
abbrev pub ttl_to : List ℕ → Option ℕ → Result Opt Fault
ttl_to text None = signed_compare field.Ttl text
ttl_to text (Some place) = ttl_range (take place text) (drop (place + 1) text)

-- what comes after a `>` in front, if there is one
abbrev pub after_above : List ℕ → Option (List ℕ)
after_above [] = None
after_above (first ∷ rest) = if first == 62 then Some rest else None

-- what a `dsize` says, by what comes after a `<>`
abbrev pub dsize_to : List ℕ → List ℕ → Option (List ℕ) → Result Opt Fault
dsize_to text low None = signed_compare field.Dsize text
dsize_to text low (Some high) = dsize_range low high

abbrev pub dsize_at : List ℕ → Option ℕ → Result Opt Fault
dsize_at text None = signed_compare field.Dsize text
dsize_at text (Some place) = dsize_to text (take place text) (after_above (drop (place + 1) text))

-- the protocols that have names
abbrev pub protocol_of : List ℕ → Option ℕ
protocol_of name =
    if bytes_eq name (codes "icmp") then Some 1
    else if bytes_eq name (codes "igmp") then Some 2
    else if bytes_eq name (codes "tcp") then Some 6
    else if bytes_eq name (codes "udp") then Some 17
    else None

-- what an `ip_proto` says, by the protocol that the text names
abbrev pub protocol_to : List ℕ → Option ℕ → Result Opt Fault
protocol_to text None = signed_compare field.IpProto text
protocol_to text (Some number) = Ok (against field.IpProto cmp.Eq number)

-- what a field's value says
unfoldable pub compare_of : Field → List ℕ → Result Opt Fault
compare_of field.Ttl text = ttl_to text (place_of 45 text)
compare_of field.Dsize text = dsize_at text (place_of 60 text)
compare_of field.IpProto text = protocol_to text (protocol_of text)
compare_of field.Tos text = signed_compare field.Tos text
compare_of field.Window text = signed_compare field.Window text
compare_of field.FragOffset text = signed_compare field.FragOffset text
compare_of field.Itype text = signed_compare field.Itype text
compare_of field.Icode text = signed_compare field.Icode text
compare_of field.Id text = signed_compare field.Id text
compare_of field.Seq text = signed_compare field.Seq text
compare_of field.Ack text = signed_compare field.Ack text
compare_of field.IcmpId text = signed_compare field.IcmpId text
compare_of field.IcmpSeq text = signed_compare field.IcmpSeq text

-- an option of one number, `dsize` apart
unfoldable pub field_option : Field → RuleDraft → List ℕ → Result RuleDraft Fault
field_option field draft value = compare_of field value >>= kept draft

-- `dsize`, which is given at most once
unfoldable pub dsize_option : RuleDraft → List ℕ → Result RuleDraft Fault
dsize_option draft value = do
  option ← compare_of field.Dsize value
  if draft.dsize then Err OptionValue else kept (record draft { dsize = true }) option

-- `sameip`
unfoldable pub sameip_option : RuleDraft → Option (List ℕ) → Result RuleDraft Fault
sameip_option draft value = if is_some value then Err OptionValue else kept draft opt.SameIp
