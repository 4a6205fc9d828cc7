-- The parts of a line before its ends are read as addresses and ports.
use Rattle.std.specs.Prelude.{◌≡◌, ◌≢◌, ◌≤◌, ℕ, List, ◌∷◌, ◌++◌, Option, length, codes}
use Rattle.alert_fast.specs.declared.told.LineTime.{LineTime}
use Rattle.alert_fast.specs.Fronts.{Lacks}
use Rattle.alert_fast.specs.Heads.{Numbers, IsHead, head_text}
use Rattle.alert_fast.specs.Splits.{msg_text}
use Rattle.alert_fast.specs.Tails.{IsRanked, ranked_text, arrow_text}

pub record PartFacts : Type 0 where
  pub time : LineTime
  pub numbers : Numbers
  pub msg : List ℕ
  pub class : Option (List ℕ)
  pub ranked : ℕ × ℕ
  pub from : List ℕ
  pub to : List ℕ

-- the text of parts
abbrev pub parts_text : PartFacts → List ℕ
parts_text p =
    head_text (p.time, p.numbers)
    ++ (msg_text p.msg p.class ++ (91 ∷ (codes "Priority: " ++ (ranked_text p.ranked ++ arrow_text p.from p.to))))

-- parts that fit: the first end has no blank, the second no line feed, and neither a bracket
pub record FitParts (p : PartFacts) : Type 0 where
  pub head : IsHead (p.time, p.numbers)
  pub ranked : IsRanked p.ranked
  pub from : Lacks 32 p.from
  pub to : Lacks 10 p.to
  pub from_bracket : Lacks 91 p.from
  pub to_bracket : Lacks 91 p.to

-- parts that are those of another line, but perhaps for a message that isn't longer, and its class
pub record IsNoLonger (q p : PartFacts) : Type 0 where
  pub time : q.time ≡ p.time
  pub numbers : q.numbers ≡ p.numbers
  pub ranked : q.ranked ≡ p.ranked
  pub from : q.from ≡ p.from
  pub to : q.to ≡ p.to
  pub msg : length q.msg ≤ length p.msg

pub record AreParts (line : List ℕ) (p : PartFacts) : Type 0 where
  pub head : IsHead (p.time, p.numbers)
  pub ranked : IsRanked p.ranked
  pub spelled : line ≡ parts_text p
  pub others : (q : PartFacts) → FitParts q → line ≡ parts_text q → IsNoLonger q p

abbrev pub NoParts : List ℕ → Type 0
NoParts line = (q : PartFacts) → FitParts q → line ≢ parts_text q
