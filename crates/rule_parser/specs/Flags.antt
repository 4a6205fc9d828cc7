-- What a rule asks of a session, of TCP flags and of fragment bits (Snort Users Manual 2.9, sections 3.6.5,
-- 3.6.8 and 3.6.9).
--
-- `flow` has words between commas, at most one of each of four groups. `flags:[!*+]letters[,mask]`: the
-- letters F S R P A U E C are the bits 1 to 128, `1` is C, `2` is E, and `0` is no bit; one of the signs `!`
-- (none of them), `*` (some), `+` (all, others too) may come anywhere in the first part. `fragbits`: the
-- letters M D R are the bits 1, 2 and 4, with a sign before or after them.
-- To try it on: `flags:S+A,12` is S and A among other flags, C and E aside; `flow:established,stateless`,
-- `flags:+` and `fragbits:M+D` are wrong values.
use Rattle.std.specs.Prelude.{ℕ, ◌==◌, ◌||◌, Bool, true, false, Option, Some, None, Result, Ok, Err, List, [], ◌∷◌, length, bytes_eq, codes, bit_or, is_some, unwrap_or, if◌then◌else◌}
use Rattle.edge_io.specs.OnResult.{◌>>=◌}
use Rattle.net_lists.specs.Cutting.{comma_parts}
use Rattle.net_lists.specs.Folds.{draft_after}
use Rattle.net_lists.specs.Stops.{or_kind}
use Rattle.rule_parser.specs.declared.draft.RuleDraft.{RuleDraft}
use Rattle.rule_parser.specs.declared.fault.Fault.{Fault}
use Rattle.rule_parser.specs.declared.fault.Fault.TheVariants.{OptionValue}
use Rattle.rule_parser.specs.declared.flags.FlagLetters.{FlagLetters}
use Rattle.rule_types.specs.declared.option.FlowOpt.{FlowOpt}
use Rattle.rule_types.specs.declared.option.Mode.{Mode}
use Rattle.rule_types.specs.declared.option.Mode.TheVariants as mode
use Rattle.rule_types.specs.declared.option.Opt.{Opt}
use Rattle.rule_types.specs.declared.option.Opt.TheVariants as opt
use Rattle.rule_parser.specs.Drafts.{kept}

-- a `flow` that asks nothing
abbrev pub no_flow : FlowOpt
no_flow = record { established = None; stateless = false; from_client = None; stream = None; frag = None }

-- a word whose group has none yet
abbrev pub first_of_group : Bool → FlowOpt → Result FlowOpt Fault
first_of_group is_given next = if is_given then Err OptionValue else Ok next

-- a word on the session: the first group
unfoldable pub session_word : FlowOpt → List ℕ → Result FlowOpt Fault
session_word flow word =
    if bytes_eq word (codes "established") then first_of_group (is_some flow.established || flow.stateless)
    (record flow { established = Some true })
    else if bytes_eq word (codes "not_established") then first_of_group (is_some flow.established || flow.stateless)
    (record flow { established = Some false })
    else if bytes_eq word (codes "stateless") then first_of_group (is_some flow.established || flow.stateless)
    (record flow { stateless = true })
    else Err OptionValue

-- a word on how the item came to be: the third and the fourth group, and else the first
unfoldable pub item_word : FlowOpt → List ℕ → Result FlowOpt Fault
item_word flow word =
    if bytes_eq word (codes "only_stream") then first_of_group (is_some flow.stream) (record flow { stream = Some true })
    else if bytes_eq word (codes "no_stream") then first_of_group (is_some flow.stream) (record flow { stream = Some false })
    else if bytes_eq word (codes "only_frag") then first_of_group (is_some flow.frag) (record flow { frag = Some true })
    else if bytes_eq word (codes "no_frag") then first_of_group (is_some flow.frag) (record flow { frag = Some false })
    else session_word flow word

-- a word on the side that sent the item: the second group, and else the others
unfoldable pub flow_word : FlowOpt → List ℕ → Result FlowOpt Fault
flow_word flow word =
    if bytes_eq word (codes "to_server") || bytes_eq word (codes "from_client")
    then first_of_group (is_some flow.from_client) (record flow { from_client = Some true })
    else if bytes_eq word (codes "to_client") || bytes_eq word (codes "from_server")
    then first_of_group (is_some flow.from_client) (record flow { from_client = Some false })
    else item_word flow word

-- `flow:w,..`, which is given at most once
unfoldable pub flow_option : RuleDraft → List ℕ → Result RuleDraft Fault
flow_option draft value = do
  flow ← draft_after flow_word no_flow (comma_parts value)
  if draft.flow then Err OptionValue else kept (record draft { flow = true }) (opt.Flow flow)

-- the letters before the first one
abbrev pub no_letters : FlagLetters
no_letters = record { mode = None; bits = 0; any = false }

-- the sign that a byte is: `!` (33), `*` (42), `+` (43)
abbrev pub mode_of : ℕ → Option Mode
mode_of byte =
    if byte == 33 then Some mode.NoneSet else if byte == 42 then Some mode.Any else if byte == 43 then Some mode.All else None

-- the bit of a letter of TCP flags: F S R P A U E C are 1 to 128; `1` is C, `2` is E, and `0` is no bit
abbrev pub flag_bit : ℕ → Option ℕ
flag_bit byte =
    if byte == 70 then Some 1 else if byte == 83 then Some 2 else if byte == 82 then Some 4 else if byte == 80 then Some 8
    else if byte == 65 then Some 16 else if byte == 85 then Some 32 else if byte == 69 || byte == 50 then Some 64
    else if byte == 67 || byte == 49 then Some 128 else if byte == 48 then Some 0 else None

-- the bit of a letter of fragment bits: M, D, R
abbrev pub frag_bit : ℕ → Option ℕ
frag_bit byte = if byte == 77 then Some 1 else if byte == 68 then Some 2 else if byte == 82 then Some 4 else None

-- the letters with one bit more, if the byte is a letter
abbrev pub with_bit : FlagLetters → Option ℕ → Option FlagLetters
with_bit letters None = None
with_bit letters (Some bit) = Some (record letters { bits = bit_or letters.bits bit; any = true })

-- the letters with a sign, if the byte is one and there is none yet, or else a letter
abbrev pub with_mode : FlagLetters → Option FlagLetters → Option Mode → Option FlagLetters
with_mode letters else_ None = else_
with_mode letters else_ (Some sign) = if is_some letters.mode then None else Some (record letters { mode = Some sign })

-- the letters, where there is one
abbrev pub if_any : FlagLetters → Option FlagLetters
if_any letters = if letters.any then Some letters else None

-- the letters with a letter of TCP flags, or with a sign where signs may come
unfoldable pub flag_step : Bool → FlagLetters → ℕ → Option FlagLetters
flag_step signs letters byte = with_mode letters (with_bit letters (flag_bit byte)) (if signs then mode_of byte else None)

-- the letters of TCP flags, a sign anywhere among them where `signs` holds
unfoldable pub flag_letters : Bool → FlagLetters → List ℕ → Option FlagLetters
flag_letters signs letters [] = if_any letters
flag_letters signs letters (byte ∷ rest) =
    elim (flag_step signs letters byte) [
      | None ↦ None
      | Some next ↦ flag_letters signs next rest
    ]

-- the bits of a mask that may lack
abbrev pub mask_of : List (List ℕ) → Result ℕ Fault
mask_of [] = Ok 0
mask_of (mask ∷ []) = or_kind OptionValue (flag_letters false no_letters mask) >>= λ letters. Ok letters.bits
mask_of (mask ∷ more ∷ rest) = Err OptionValue

-- what `flags` says, by its parts
abbrev pub flags_parts : List (List ℕ) → Result Opt Fault
flags_parts [] = Err OptionValue
flags_parts (first ∷ rest) = do
  letters ← or_kind OptionValue (flag_letters true no_letters first)
  mask ← mask_of rest
  Ok (opt.Flags (unwrap_or letters.mode mode.Exact) letters.bits mask)

-- what the value of `flags:[!*+]letters[,mask]` says
unfoldable pub flags_of : List ℕ → Result Opt Fault
flags_of value = flags_parts (comma_parts value)

unfoldable pub flags_option : RuleDraft → List ℕ → Result RuleDraft Fault
flags_option draft value = flags_of value >>= kept draft

-- the letters with a letter of fragment bits, or with a sign where the byte is the last one
unfoldable pub frag_step : Bool → FlagLetters → ℕ → Option FlagLetters
frag_step last letters byte = with_mode letters (with_bit letters (frag_bit byte)) (if last then mode_of byte else None)

-- the letters of fragment bits, of which a sign may be the last byte where there is none yet
unfoldable pub frag_letters : FlagLetters → List ℕ → Option FlagLetters
frag_letters letters [] = if_any letters
frag_letters letters (byte ∷ rest) =
    elim (frag_step (length rest == 0) letters byte) [
      | None ↦ None
      | Some next ↦ frag_letters next rest
    ]

-- the letters of fragment bits after a sign in front, if there is one
abbrev pub frag_signed : List ℕ → Option FlagLetters
frag_signed [] = None
frag_signed (byte ∷ rest) = elim (mode_of byte) [
  | None ↦ frag_letters no_letters (byte ∷ rest)
  | Some sign ↦ frag_letters (record no_letters { mode = Some sign }) rest
]

-- `fragbits`
unfoldable pub fragbits_option : RuleDraft → List ℕ → Result RuleDraft Fault
fragbits_option draft value = do
  letters ← or_kind OptionValue (frag_signed value)
  kept draft (opt.FragBits (unwrap_or letters.mode mode.Exact) letters.bits)
