-- The places after an option.
use Rattle.std.specs.Prelude.{◌≡◌, ℕ, true, List, length}
use Rattle.rule_types.specs.declared.option.Opt.{Opt}
use Rattle.option_eval.specs.declared.next.NextPlaces.{NextPlaces}
use Rattle.option_eval.specs.declared.next.NextPlaces.TheVariants as next
use Rattle.option_eval.specs.Kinds.{is_test}
use Rattle.option_eval.specs.Sets.{IsRising}

-- the places after an option, where these are the places before it
abbrev pub next_set : NextPlaces → List ℕ → List ℕ
next_set next.Same places = places
next_set (next.To places') places = places'.items

-- the places after an option tell nothing of those before it: a test leaves them all, or none
abbrev pub IsForAll : Opt → NextPlaces → Type 0
IsForAll option next.Same = is_test option ≡ true
IsForAll option (next.To places) = is_test option ≡ true → length places.items ≡ 0

-- places of its own rise
abbrev pub RisesTo : ℕ → NextPlaces → Type 0
RisesTo high next.Same = Unit {0}
RisesTo high (next.To places) = IsRising 0 places.items high
