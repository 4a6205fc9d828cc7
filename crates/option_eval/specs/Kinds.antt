-- Which options count from the place before them, which leave it, and which need one at all.
use Rattle.std.specs.Prelude.{◌≡◌, Bool, true, false, ◌&&◌, ◌||◌, not, List, [], ◌∷◌}
use Rattle.rule_types.specs.declared.option.Opt.{Opt}
use Rattle.rule_types.specs.declared.option.Opt.TheVariants as opt
use Rattle.option_eval.specs.Places.{is_only}

-- the option counts from the place before it
abbrev pub is_relative : Opt → Bool
is_relative (opt.Content content) = not (is_only content.fast) && content.relative
is_relative (opt.Pcre text flags relative negated) = relative
is_relative (opt.ByteTest fetch not cmp value) = fetch.relative
is_relative (opt.ByteJump fetch times align beginning post) = fetch.relative
is_relative (opt.ByteExtract fetch name times align) = fetch.relative
is_relative (opt.IsDataAt at relative negated) = relative
is_relative _ = false

-- the option leads nowhere but to the place before it
abbrev pub is_test : Opt → Bool
is_test (opt.Content content) = content.negated || is_only content.fast
is_test (opt.Pcre text flags relative negated) = negated
is_test (opt.ByteJump fetch times align beginning post) = false
is_test (opt.ByteExtract fetch name times align) = false
is_test _ = true

-- some of the options counts from the place before them all
abbrev pub needs_place : List Opt → Bool
needs_place [] = false
needs_place (option ∷ options) = is_relative option || (is_test option && needs_place options)

-- the option leads from each place to one place, or nowhere
abbrev pub IsJump : Opt → Type 0
IsJump (opt.Pcre text flags relative negated) = negated ≡ false
IsJump (opt.ByteJump fetch times align beginning post) = Unit {0}
IsJump _ = ⊥
