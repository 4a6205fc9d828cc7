-- The choice of a fast pattern, one option at a time.
use Rattle.std.proofs.Common.{◌≡◌, ℕ, ◌+◌, ◌<◌, ◌≤◌, true, false, cond, Option, Some, None, List, ◌∷◌, length, drop, get_or, sym, refl, ap, ◌∙◌, arith}
use Rattle.std.specs.List.{find}
use Rattle.std.proofs.lemmas.List.{at_drop_more, drop_all}
use Rattle.std.proofs.lemmas.Bool.Decides.{nat_tests}
use Rattle.rule_types.specs.declared.option.Opt.{Opt}
use Rattle.fast_pattern.specs.declared.choice.Sought.{Sought}
use Rattle.fast_pattern.specs.FastPattern.{sought_of, with, sought_from, longer, longest, or_else, chosen}

-- what is chosen of the options from a place on, where this is the best of those before and none was marked
unfoldable pub chosen_after : Option Sought → ℕ → List Opt → Option Sought
chosen_after best place rest = or_else (find (λ sought. sought.marked) (sought_from place rest)) (longer best (longest (sought_from place rest)))

pub chosen-begin : (options : List Opt) → chosen_after None 0 options ≡ chosen options
unfolding chosen chosen_after
chosen-begin options = refl

longer-none : (best : Option Sought) → longer best None ≡ best
longer-none None = refl
longer-none (Some one) = refl

longer-assoc : (best : Option Sought) (one : Sought) (other : Option Sought) → longer best (longer (Some one) other) ≡ longer (longer best (Some one)) other
longer-assoc None one other = refl
longer-assoc (Some best) one None = sym (longer-none (longer (Some best) (Some one)))
longer-assoc (Some best) one (Some other) = grind (arith, nat_tests)

-- one option on, by what it is
module _ (best : Option Sought) (options : List Opt) (place : ℕ) (option : Opt) (here : place < length options) (is : option ≡ get_or options place option) where
  at : chosen_after best place (drop place options) ≡ chosen_after best place (option ∷ drop (place + 1) options)
  at = at_drop_more (chosen_after best place) options place option here ∙ ap (λ o. chosen_after best place (o ∷ drop (place + 1) options)) (sym is)

  pub chosen-skip : sought_of place option ≡ None → chosen_after best place (drop place options) ≡ chosen_after best (place + 1) (drop (place + 1) options)
  unfolding chosen_after
  chosen-skip none = at ∙ ap (λ s. let all = with s (sought_from (place + 1) (drop (place + 1) options)) in or_else (find (λ sought. sought.marked) all) (longer best (longest all))) none

  pub chosen-mark : (sought : Sought) → sought_of place option ≡ Some sought → sought.marked ≡ true → chosen_after best place (drop place options) ≡ Some sought
  unfolding chosen_after
  chosen-mark sought some marked =
      at
      ∙ ap (λ s.
      let all = with s (sought_from (place + 1) (drop (place + 1) options)) in
      or_else (find (λ sought. sought.marked) all) (longer best (longest all)))
      some
      ∙ ap (λ b. or_else
      (cond b (Some sought) (find (λ sought. sought.marked) (sought_from (place + 1) (drop (place + 1) options))))
      (longer best (longest (sought ∷ sought_from (place + 1) (drop (place + 1) options))))) marked

  pub chosen-on : (sought : Sought)
      → sought_of place option ≡ Some sought
      → sought.marked ≡ false
      → chosen_after best place (drop place options) ≡
      chosen_after (longer best (Some sought)) (place + 1) (drop (place + 1) options)
  unfolding chosen_after
  chosen-on sought some marked =
      at
      ∙ ap (λ s.
      let all = with s (sought_from (place + 1) (drop (place + 1) options)) in
      or_else (find (λ sought. sought.marked) all) (longer best (longest all)))
      some
      ∙ ap (λ b. or_else
      (cond b (Some sought) (find (λ sought. sought.marked) (sought_from (place + 1) (drop (place + 1) options))))
      (longer best (longest (sought ∷ sought_from (place + 1) (drop (place + 1) options))))) marked
      ∙ ap (or_else (find (λ sought. sought.marked) (sought_from (place + 1) (drop (place + 1) options))))
      (longer-assoc best sought (longest (sought_from (place + 1) (drop (place + 1) options))))

pub chosen-end : (best : Option Sought) (options : List Opt) (place : ℕ) → length options ≤ place → chosen_after best place (drop place options) ≡ best
unfolding chosen_after
chosen-end best options place h = ap (chosen_after best place) (drop_all place options h) ∙ longer-none best

pub ruleset choosing = (chosen-begin, chosen-skip, chosen-mark, chosen-on, chosen-end)
