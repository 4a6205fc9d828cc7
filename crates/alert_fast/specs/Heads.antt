-- The front of a line: when, and by which rule.
use Rattle.std.specs.Prelude.{ℕ, List, ◌++◌, codes, decimal}
use Rattle.alert_fast.specs.declared.told.LineTime.{LineTime}
use Rattle.alert_fast.specs.declared.told.RuleMark.{RuleMark}
use Rattle.alert_fast.specs.Fronts.{ended, followed, BothFit, both}
use Rattle.alert_fast.specs.Pieces.{digits}
use Rattle.alert_fast.specs.Told.{line_time_text, IsLineTime}
use Rattle.alert_fast.specs.Words.{IsNumber, IsTwo, IsMicros}

-- two digits and a byte, twice: a date and its dash, or an hour and a minute with their colons
abbrev pub ArePair : ℕ × ℕ → Type 0
ArePair = BothFit IsTwo IsTwo

abbrev pub date_text : ℕ × ℕ → List ℕ
date_text = both (ended (digits 2) 47) (ended (digits 2) 45)

abbrev pub hour_text : ℕ × ℕ → List ℕ
hour_text = both (ended (digits 2) 58) (ended (digits 2) 58)

-- a second and its parts
abbrev pub AreSeconds : ℕ × ℕ → Type 0
AreSeconds = BothFit IsTwo IsMicros

abbrev pub second_text : ℕ × ℕ → List ℕ
second_text = both (ended (digits 2) 46) (ended (digits 6) 32)

-- the numbers of a time, as they are written
abbrev pub Stamp : Type 0
Stamp = (ℕ × ℕ) × ((ℕ × ℕ) × (ℕ × ℕ))

abbrev pub AreStamp : Stamp → Type 0
AreStamp = BothFit ArePair (BothFit ArePair AreSeconds)

abbrev pub stamp_text : Stamp → List ℕ
stamp_text = both date_text (both hour_text second_text)

-- a time and the blank after it
abbrev pub time_text : LineTime → List ℕ
time_text time = line_time_text time ++ codes " "

-- the numbers of a rule, as they are written
abbrev pub Numbers : Type 0
Numbers = ℕ × (ℕ × ℕ)

abbrev pub AreNumbers : Numbers → Type 0
AreNumbers = BothFit IsNumber (BothFit IsNumber IsNumber)

abbrev pub numbers_text : Numbers → List ℕ
numbers_text = both (ended decimal 58) (both (ended decimal 58) (ended decimal 93))

-- the front of a line up to the message
abbrev pub IsHead : LineTime × Numbers → Type 0
IsHead = BothFit IsLineTime AreNumbers

abbrev pub head_text : LineTime × Numbers → List ℕ
head_text = both (followed time_text (codes " [**] [")) (followed numbers_text (codes " "))
