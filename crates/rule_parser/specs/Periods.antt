-- Detection filters (`detection_filter`, Snort Users Manual 2.9, chapter 3):
-- `detection_filter:track by_src|by_dst, count c, seconds s`, in this order, both numbers at least 1.
--
-- To try it on: `track by_src, count 2, seconds 60` is read; with a fourth part, or `count` first, it is not.
use Rattle.std.specs.Prelude.{ℕ, Bool, true, false, Some, Result, Ok, Err, List, [], ◌∷◌, bytes_eq, codes, is_some, if◌then◌else◌}
use Rattle.edge_io.specs.OnResult.{◌>>=◌}
use Rattle.net_lists.specs.Cutting.{comma_parts, first_word, after_word}
use Rattle.net_lists.specs.Numbers.{number_in}
use Rattle.net_lists.specs.Stops.{or_kind}
use Rattle.rule_parser.specs.declared.draft.RuleDraft.{RuleDraft}
use Rattle.rule_parser.specs.declared.fault.Fault.{Fault}
use Rattle.rule_parser.specs.declared.fault.Fault.TheVariants.{OptionValue}
use Rattle.rule_types.specs.declared.rule.Period.{Period}

-- what comes after this word in a part
unfoldable pub after_key : List ℕ → List ℕ → Result (List ℕ) Fault
after_key key part = if bytes_eq (first_word part) key then Ok (after_word part) else Err OptionValue

-- the address by which matches are counted: the source?
unfoldable pub tracked : List ℕ → Result Bool Fault
tracked side =
    if bytes_eq side (codes "by_src") then Ok true else if bytes_eq side (codes "by_dst") then Ok false else Err OptionValue

-- a number after its word, at least 1
unfoldable pub counted : List ℕ → List ℕ → Result ℕ Fault
counted key part = do
  number ← after_key key part
  or_kind OptionValue (number_in 1 4294967295 number)

-- the three parts
unfoldable pub period_parts : List (List ℕ) → Result Period Fault
period_parts (first ∷ second ∷ third ∷ []) = do
  side ← after_key (codes "track") first
  by_src ← tracked side
  count ← counted (codes "count") second
  seconds ← counted (codes "seconds") third
  Ok (record { by_src = by_src; count = count; seconds = seconds })
period_parts [] = Err OptionValue
period_parts (first ∷ []) = Err OptionValue
period_parts (first ∷ second ∷ []) = Err OptionValue
period_parts (first ∷ second ∷ third ∷ fourth ∷ more) = Err OptionValue

-- `detection_filter`, which is given at most once
unfoldable pub detection_filter_option : RuleDraft → List ℕ → Result RuleDraft Fault
detection_filter_option draft value = do
  period ← period_parts (comma_parts value)
  if is_some draft.period then Err OptionValue else Ok (record draft { period = Some period })
