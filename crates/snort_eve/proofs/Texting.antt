-- A rule's message more.
use Rattle.std.proofs.Common.{◌≡◌, ℕ, ◌+◌, ◌<◌, ◌==◌, Bool, cond, List, ◌∷◌, Option, Some, length, get_or, drop, sym, ap, ◌∙◌, arith}
use Rattle.std.specs.Ordering.{nat_cmp}
use Rattle.std.specs.BTreeMap.{is_at}
use Rattle.std.proofs.lemmas.Bool.Decides.{nat_tests}
use Rattle.std.proofs.lemmas.List.{drop_more}
use Rattle.rule_types.specs.declared.rule.Rule.{Rule}
use Rattle.snort_eve.specs.Texts.{mark_of, message_in}

mark-test : (x y : ℕ) → is_at (nat_cmp x) y ≡ (x == y)
mark-test x y = grind (arith, nat_tests)

pub kept-more : (rules : List Rule) (i : ℕ) (rule : Rule) (mark key : ℕ) (text : List ℕ) (before now : Option (List ℕ)) → i < length rules → rule ≡ get_or rules i rule
    → key ≡ mark_of rule.gid rule.sid → text ≡ rule.msg → now ≡ cond (is_at (nat_cmp key) mark) (Some text) before
    → message_in (drop (i + 1) rules) mark now ≡ message_in (drop i rules) mark before
kept-more rules i rule mark key text before now lt is key_is text_is more =
    let rest = drop (i + 1) rules in
    ap (message_in rest mark)
    (more ∙ ap (λ (k : ℕ). cond (is_at (nat_cmp k) mark) (Some text) before) key_is
    ∙ ap (λ (t : List ℕ). cond (is_at (nat_cmp (mark_of rule.gid rule.sid)) mark) (Some t) before) text_is
    ∙ ap (λ (b : Bool). cond b (Some rule.msg) before) (mark-test (mark_of rule.gid rule.sid) mark))
    ∙ ap (λ (r : Rule). message_in (r ∷ rest) mark before) is
    ∙ sym (ap (λ (rs : List Rule). message_in rs mark before) (drop_more rules i rule lt))
