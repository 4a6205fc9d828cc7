-- A message and a class, one after the other.
use Rattle.std.specs.Prelude.{◌≡◌, ◌≢◌, ℕ, ◌≤◌, List, ◌∷◌, ◌++◌, Option, length, codes}
use Rattle.alert_fast.specs.Fronts.{Lacks}
use Rattle.alert_fast.specs.Told.{named_class}

-- the bytes before the last such byte, and those after it
pub record IsBackWord (start : ℕ) (text front word : List ℕ) : Type 0 where
  pub lacks : Lacks start word
  pub spelled : text ≡ front ++ (start ∷ word)

-- the bytes before the last place of a text, and those after it
pub record IsLastCut (needle text front back : List ℕ) : Type 0 where
  pub spelled : text ≡ front ++ (needle ++ back)
  pub last : (x y : List ℕ) → text ≡ x ++ (needle ++ y) → length x ≤ length front

-- a message and what follows it up to the priority
abbrev pub msg_text : List ℕ → Option (List ℕ) → List ℕ
msg_text msg class = msg ++ (codes " [**] " ++ named_class class)

-- the longest message that may be there
pub record IsSplit (text msg : List ℕ) (class : Option (List ℕ)) : Type 0 where
  pub spelled : msg_text msg class ≡ text
  pub longest : (other : List ℕ) (named : Option (List ℕ)) → msg_text other named ≡ text → length other ≤ length msg

abbrev pub NoSplit : List ℕ → Type 0
NoSplit text = (other : List ℕ) (named : Option (List ℕ)) → msg_text other named ≢ text
