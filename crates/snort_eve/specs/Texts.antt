-- The texts of a configuration's rules and classes.
--
-- A rule is found by the numbers of its generator and its own, of which each rule of a configuration has others, and a class
-- by its place among the classes, from 1 on.
-- To try it on: of a rule 1:10 with the message `a` and the classes `x`, `y` the message of 1:10 is `a`, that of 1:11 is
-- empty; the text of the class 2 is that of `y`, those of 0 and 3 are empty.
use Rattle.std.specs.Prelude.{◌≡◌, ℕ, ◌+◌, ◌*◌, ◌-◌, ◌==◌, if◌then◌else◌, List, [], ◌∷◌, Option, Some, None, unwrap_or}
use Rattle.std.specs.Ordering.{nat_cmp}
use Rattle.std.specs.BTreeMap.{get}
use Rattle.conf_types.specs.declared.classes.Class.{Class}
use Rattle.rule_types.specs.declared.rule.Rule.{Rule}
use Rattle.alert_fast.specs.Line.{text_of}
use Rattle.snort_eve.specs.declared.texts.Texts.{Texts as Kept}

-- the messages by their rules' marks, and the classes
pub record Texts : Type 0 where
  pub message : ℕ → Option (List ℕ)
  pub classes : List Class

-- both numbers of a rule as one
abbrev pub mark_of : ℕ → ℕ → ℕ
mark_of gid sid = gid * 4294967296 + sid

-- the message of the last of these rules that has this mark, or what there was before
abbrev pub message_in : List Rule → ℕ → Option (List ℕ) → Option (List ℕ)
message_in [] mark before = before
message_in (rule ∷ rules) mark before =
    message_in rules mark (if mark_of rule.gid rule.sid == mark then Some rule.msg else before)

-- the texts of these rules and classes
pub record AreTexts (texts : Texts) (rules : List Rule) (classes : List Class) : Type 0 where
  pub messages : (mark : ℕ) → texts.message mark ≡ message_in rules mark None
  pub classes_are : texts.classes ≡ classes

-- the texts that are kept
abbrev pub texts_of : Kept → Texts
texts_of kept = record { message = λ mark. get nat_cmp kept.messages mark; classes = kept.classes }

-- the message of a rule, and the text of a class; empty where there is none
abbrev pub message_of : Texts → ℕ → ℕ → List ℕ
message_of texts gid sid = unwrap_or (texts.message (mark_of gid sid)) []

unfoldable pub class_text : Texts → ℕ → List ℕ
class_text texts place = if place == 0 then [] else text_of texts.classes (place - 1)
