-- Options on reassembled streams (Snort Users Manual 2.9, sections 3.6.17 and 3.6.18):
-- `stream_size:client|server|both|either, op, n` compares the bytes that a side has sent, and
-- `stream_reassemble:enable|disable, client|server|both[, noalert]` turns the reassembly of a side on or off.
--
-- The word `fastpath` is outside the profile.
-- To try it on: `stream_size:client,>,3` is read and `stream_size:client,~,3` is not;
-- `stream_reassemble:disable,both,fastpath` is outside the profile.
use Rattle.std.specs.Prelude.{ℕ, ◌||◌, Bool, true, false, Result, Ok, Err, List, [], ◌∷◌, bytes_eq, codes, if◌then◌else◌}
use Rattle.edge_io.specs.OnResult.{◌>>=◌}
use Rattle.net_lists.specs.Cutting.{comma_parts}
use Rattle.net_lists.specs.Numbers.{number_in}
use Rattle.net_lists.specs.Stops.{or_kind}
use Rattle.rule_parser.specs.declared.draft.RuleDraft.{RuleDraft}
use Rattle.rule_parser.specs.declared.fault.Fault.{Fault}
use Rattle.rule_parser.specs.declared.fault.Fault.TheVariants.{OptionValue, OutsideProfile}
use Rattle.rule_types.specs.declared.option.Cmp.{Cmp}
use Rattle.rule_types.specs.declared.option.Cmp.TheVariants as cmp
use Rattle.rule_types.specs.declared.option.Opt.{Opt}
use Rattle.rule_types.specs.declared.option.Opt.TheVariants as opt
use Rattle.rule_types.specs.declared.option.Side.{Side}
use Rattle.rule_types.specs.declared.option.Side.TheVariants as side
use Rattle.rule_parser.specs.Drafts.{kept}

-- a side, or both
unfoldable pub side_of : List ℕ → Result Side Fault
side_of text =
    if bytes_eq text (codes "client") then Ok side.Client
    else if bytes_eq text (codes "server") then Ok side.Server
    else if bytes_eq text (codes "both") then Ok side.Both
    else if bytes_eq text (codes "fastpath") then Err OutsideProfile
    else Err OptionValue

-- the sides whose sizes are compared
unfoldable pub sized_side : List ℕ → Result Side Fault
sized_side text = if bytes_eq text (codes "either") then Ok side.Either
    else if bytes_eq text (codes "fastpath") then Err OptionValue else side_of text

-- how sizes are compared
unfoldable pub size_cmp : List ℕ → Result Cmp Fault
size_cmp text =
    if bytes_eq text (codes "<") then Ok cmp.Lt
    else if bytes_eq text (codes ">") then Ok cmp.Gt
    else if bytes_eq text (codes "=") then Ok cmp.Eq
    else if bytes_eq text (codes "!=") then Ok cmp.Ne
    else if bytes_eq text (codes "<=") then Ok cmp.Le
    else if bytes_eq text (codes ">=") then Ok cmp.Ge
    else Err OptionValue

-- the three parts of a size
unfoldable pub size_parts : List (List ℕ) → Result Opt Fault
size_parts (first ∷ second ∷ third ∷ []) = do
  side ← sized_side first
  comparison ← size_cmp second
  number ← or_kind OptionValue (number_in 0 4294967295 third)
  Ok (opt.StreamSize side comparison number)
size_parts [] = Err OptionValue
size_parts (first ∷ []) = Err OptionValue
size_parts (first ∷ second ∷ []) = Err OptionValue
size_parts (first ∷ second ∷ third ∷ fourth ∷ more) = Err OptionValue

-- `stream_size`
unfoldable pub stream_size_option : RuleDraft → List ℕ → Result RuleDraft Fault
stream_size_option draft value = size_parts (comma_parts value) >>= kept draft

-- whether a word says on or off
unfoldable pub switched : List ℕ → Result Bool Fault
switched text =
    if bytes_eq text (codes "enable") then Ok true else if bytes_eq text (codes "disable") then Ok false
    else if bytes_eq text (codes "fastpath") then Err OutsideProfile else Err OptionValue

-- no part comes after the last
unfoldable pub quiet_end : List (List ℕ) → Result Bool Fault
quiet_end [] = Ok true
quiet_end (next ∷ more) = if bytes_eq next (codes "fastpath") then Err OutsideProfile else Err OptionValue

-- whether `noalert` comes after the side, as the last part
unfoldable pub quiet : List (List ℕ) → Result Bool Fault
quiet [] = Ok false
quiet (first ∷ rest) =
    if bytes_eq first (codes "fastpath") then Err OutsideProfile else if bytes_eq first (codes "noalert") then quiet_end rest
    else Err OptionValue

-- the parts of a reassembly: whether it is on, of which side, and without an alert
unfoldable pub reassemble_parts : List (List ℕ) → Result (Bool × Side × Bool) Fault
reassemble_parts (first ∷ second ∷ rest) = do
  on ← switched first
  side ← side_of second
  noalert ← quiet rest
  Ok (on, side, noalert)
reassemble_parts [] = Err OptionValue
reassemble_parts (first ∷ []) = do
  on ← switched first
  Err OptionValue

-- `stream_reassemble`
unfoldable pub stream_reassemble_option : RuleDraft → List ℕ → Result RuleDraft Fault
stream_reassemble_option draft value = do
  said ← reassemble_parts (comma_parts value)
  kept (record draft { noalert = draft.noalert || said.2 }) (opt.Reassemble said.0 said.1)
