-- The numbers of no rules, and of one rule more.
use Rattle.std.proofs.Common.{◌≡◌, ℕ, Bool, true, false, cond, ◌&&◌, ◌||◌, eqb, List, [], ◌∷◌, ◌++◌, refl, sym, ap, ◌∙◌, arith}
use Rattle.std.specs.List.{list_any}
use Rattle.std.specs.Ordering.{is_eq}
use Rattle.std.specs.BTreeSet.{BTreeSet, contains}
use Rattle.std.specs.BTreeMap.{is_at}
use Rattle.std.proofs.lemmas.Bool.Decides.{nat_tests}
use Rattle.std.proofs.lemmas.List.Folds.{list_any-append}
use Rattle.rule_types.specs.declared.rule.Rule.{Rule}
use Rattle.snort_setup.specs.declared.number.Number.{Number}
use Rattle.snort_setup.specs.Numbers.{number_of, number_cmp, AreNumbers}
use Rattle.snort_setup.specs.Rules.{same_number, is_taken}

-- numbers are equal in their order where the rules have one number
number_test : (a b c d : ℕ) → is_eq (number_cmp (record { gid = a; sid = b }) (record { gid = c; sid = d })) ≡ (eqb a c && eqb b d)
number_test a b c d = grind (arith, nat_tests)

-- no rules
pub numbers-nil : (rules : List Rule) (numbers : BTreeSet Number) → rules ≡ [] → numbers.keys ≡ [] → AreNumbers rules numbers
numbers-nil rules numbers none empty = record {
  found = λ rule. ap (list_any (is_at (number_cmp (number_of rule)))) empty ∙ ap (λ rs. is_taken rs rule) (sym none);
}

-- a Bool before others
or_cond : (b x : Bool) → cond b true x ≡ (x || (b || false))
or_cond true true = refl
or_cond true false = refl
or_cond false true = refl
or_cond false false = refl

-- one rule more
pub numbers-push : (rules : List Rule) (rule : Rule) (before after : BTreeSet Number) → AreNumbers rules before
    → ((q : Number) → contains number_cmp after q ≡ cond (is_at (number_cmp (number_of rule)) q) true (contains number_cmp before q)) → AreNumbers (rules ++ rule ∷ []) after
numbers-push rules rule before after numbered updated = record {
  found = λ other.
      updated (number_of other)
      ∙ ap (λ b. cond b true (contains number_cmp before (number_of other))) (number_test rule.gid rule.sid other.gid other.sid)
      ∙ ap (λ b. cond (same_number rule other) true b) (numbered.found other)
      ∙ or_cond (same_number rule other) (is_taken rules other)
      ∙ sym (list_any-append (λ one. same_number one other) rules (rule ∷ []));
}
