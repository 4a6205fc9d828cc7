-- The front of a line, from its parts.
use Rattle.std.proofs.Common.{◌≡◌, ◌≢◌, ℕ, List, [], ◌∷◌, ◌++◌, refl, sym, ap, ◌∙◌, append_assoc, append-nil, codes, decimal}
use Rattle.alert_fast.specs.declared.told.LineTime.{LineTime}
use Rattle.alert_fast.specs.Fronts.{IsFront, NoFront, ended, followed, BothFit, both}
use Rattle.alert_fast.specs.Heads.{Stamp, AreStamp, stamp_text, time_text}
use Rattle.alert_fast.specs.Pieces.{digits}
use Rattle.alert_fast.specs.Told.{line_time_text, IsLineTime}
use Rattle.alert_fast.specs.Words.{IsTwo, IsMicros}
use Rattle.std.proofs.Common.{arith, ◌<◌, ◌≤◌}
use Rattle.std.proofs.lemmas.Bool.Decides.{nat_tests}
use Rattle.alert_fast.specs.Calendar.{days_in_month}
use Rattle.alert_fast.proofs.ReadBack.Fronts.{changed_front, changed_none, changed_no}

-- a time of its numbers, and these of it
abbrev pub time_of : Stamp → LineTime
time_of s = record { month = s.0.0; day = s.0.1; hour = s.1.0.0; minute = s.1.0.1; second = s.1.1.0; microsecond = s.1.1.1 }

abbrev pub stamp_of : LineTime → Stamp
stamp_of t = ((t.month, t.day), ((t.hour, t.minute), (t.second, t.microsecond)))

last_small : (month : ℕ) → days_in_month 1972 month < 100
last_small month = grind (arith, nat_tests)

stamp_fits : (t : LineTime) → IsLineTime t → AreStamp (stamp_of t)
stamp_fits t h =
    let last = last_small t.month in
    let (a, b, c, d, e, f, g, m) = h in
    ((omega arith, omega arith), ((omega arith, omega arith), (omega arith, m)))

same_text : (t : LineTime) → time_text t ≡ stamp_text (stamp_of t)
unfolding line_time_text
same_text t = simp (append_assoc, append-nil)

text_back : (s : Stamp) → time_text (time_of s) ≡ stamp_text s
text_back s = same_text (time_of s)

module _ (text : List ℕ) where
  pub time_front : (rest : List ℕ) (s : Stamp) → IsFront AreStamp stamp_text text s rest → IsLineTime (time_of s) → IsFront IsLineTime time_text text (time_of s) rest
  time_front rest s h fit = changed_front AreStamp stamp_text IsLineTime time_text time_of stamp_of stamp_fits (λ t. refl) same_text text_back text rest s h fit

  pub time_none : NoFront AreStamp stamp_text text → NoFront IsLineTime time_text text
  time_none none = changed_none AreStamp stamp_text IsLineTime time_text stamp_of stamp_fits same_text text none

  pub time_no : (rest : List ℕ) (s : Stamp) → IsFront AreStamp stamp_text text s rest → ¬ (IsLineTime (time_of s)) → NoFront IsLineTime time_text text
  time_no rest s h unfit = changed_no AreStamp stamp_text IsLineTime time_text time_of stamp_of stamp_fits (λ t. refl) same_text text rest s h unfit
