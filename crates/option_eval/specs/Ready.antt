-- When what was made of an option serves it.
use Rattle.std.specs.Prelude.{◌≡◌, ◌<◌, ◌≤◌, ⊤, Option, Some, None, length, All}
use Rattle.rule_types.specs.declared.option.Content.{Content}
use Rattle.rule_types.specs.declared.option.Opt.{Opt}
use Rattle.rule_types.specs.declared.option.Opt.TheVariants as opt
use Rattle.option_eval.specs.Ranges.{IsShort}
use Rattle.option_eval.specs.declared.made.MadeOption.{MadeOption}
use Rattle.option_eval.specs.declared.made.MadeOption.TheVariants as made

-- the numbers of an option lie in their ranges
abbrev pub IsInRange : Opt → Type 0
IsInRange (opt.Content content) = 1 ≤ length content.bytes
IsInRange (opt.Pcre text flags relative negated) = All (λ byte. byte < 128) text
IsInRange (opt.ByteTest fetch not cmp value) = IsShort fetch.base fetch.bytes
IsInRange (opt.ByteJump fetch times align beginning post) = IsShort fetch.base fetch.bytes × (times ≤ 65535)
IsInRange (opt.ByteExtract fetch name times align) = IsShort fetch.base fetch.bytes × (times ≤ 65535) × (name < 2) × (align ≤ 4)
IsInRange _ = ⊤

-- the pattern that was made, if one was
abbrev pub pattern_of : {P : Type 0} → MadeOption P → Option P
pattern_of (made.Pattern pattern) = Some pattern
pattern_of _ = None

-- a content is searched for by a search for its bytes
abbrev pub IsSearched : {P : Type 0} → Content → MadeOption P → Type 0
IsSearched content (made.Needle finder) = finder ≡ content.bytes
IsSearched content _ = ⊥

-- what was made serves the option
abbrev pub IsReady : {P : Type 0} → Opt → MadeOption P → Type 0
IsReady (opt.Content content) kept = (1 ≤ length content.bytes) × IsSearched content kept
IsReady option kept = IsInRange option
