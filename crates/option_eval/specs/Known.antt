-- Where options lead that lead alike from each state, so far as that is known.
--
-- To try it on: `pcre:"/zz/"` leads alike from each state; with R it doesn't, nor does `content:"a"; offset:n;`.
use Rattle.std.specs.Prelude.{◌≡◌, ℕ, ◌<◌, ◌≤◌, Bool, ◌&&◌, not, List, [], ◌∷◌, length, Option, None, IfSome, slice_index_or}
use Rattle.rule_types.specs.declared.option.Opt.{Opt}
use Rattle.option_eval.specs.declared.known.Known.{Known}
use Rattle.option_eval.specs.declared.next.NextPlaces.{NextPlaces}
use Rattle.option_eval.specs.Kept.{reads}
use Rattle.option_eval.specs.Kinds.{is_relative, needs_place}
use Rattle.option_eval.specs.Next.{next_set, RisesTo}
use Rattle.option_eval.specs.Places.{Means}
use Rattle.option_eval.specs.Sets.{Gathers, IsLedTo, LeadsFrom}

-- the option counts from the payload's start, and reads no value
abbrev pub is_free : Opt → Bool
is_free option = not (is_relative option) && (not (reads 0 option) && not (reads 1 option))

-- where the option led that `left` others follow, if that is known
unfoldable pub known_at : Known → ℕ → Option NextPlaces
known_at known left = slice_index_or known.led.items left None

-- the option leads to these from each set of places, with any values
abbrev pub LeadsAlike : Means → List ℕ → Opt → Bool → NextPlaces → Type 0
LeadsAlike means payload option every next = (values places : List ℕ) → length values ≡ 2 → 0 < length places
    → Gathers every (IsLedTo (LeadsFrom means payload values option) places) (next_set next places)

-- what is known of an option is where it leads
abbrev pub IsKnown : Means → List ℕ → Opt → Bool → Option NextPlaces → Type 0
IsKnown means payload option every found = IfSome found (LeadsAlike means payload option every)

-- what is known of each of these options is where it leads
abbrev pub AreKnown : Means → List ℕ → List Opt → Known → Type 0
AreKnown means payload [] known = Unit {0}
AreKnown means payload (option ∷ options) known =
    IsKnown means payload option (needs_place options) (known_at known (length options)) × AreKnown means payload options known

-- known places rise
abbrev pub AreRising : ℕ → Known → Type 0
AreRising high known = (left : ℕ) → IfSome (known_at known left) (RisesTo high)

-- after a walk through the last `count` options known places rise, and of the options before these is known what was
pub record KeepsKnown (count high : ℕ) (old new : Known) : Type 0 where
  pub rising : AreRising high new
  pub others : (left : ℕ) → count ≤ left → known_at new left ≡ known_at old left
