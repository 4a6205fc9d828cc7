-- The end of a line: its priority, its protocol, and two words for its ends.
use Rattle.std.specs.Prelude.{◌≡◌, ◌≢◌, ℕ, ◌%◌, ◌<◌, List, drop, bytes_eq, if◌then◌else◌, [], ◌∷◌, ◌++◌, codes, decimal}
use Rattle.alert_fast.specs.Fronts.{Lacks, ended, followed, BothFit, both}
use Rattle.alert_fast.specs.Line.{protocol_text}
use Rattle.alert_fast.specs.Words.{IsNumber, read_value}

abbrev pub IsProtocol : ℕ → Type 0
IsProtocol n = n < 256

-- the number of the protocol that a word may name
unfoldable pub protocol_value : List ℕ → ℕ
protocol_value word =
    if bytes_eq word (codes "TCP") then 6
    else (if bytes_eq word (codes "UDP") then 17
    else (if bytes_eq word (codes "ICMP") then 1
    else read_value (drop 6 word) % 256))

-- a priority, and a protocol in braces
abbrev pub IsRanked : ℕ × ℕ → Type 0
IsRanked = BothFit IsNumber IsProtocol

abbrev pub ranked_text : ℕ × ℕ → List ℕ
ranked_text = both (followed (ended decimal 93) (codes " {")) (followed (ended protocol_text 125) (codes " "))

-- two words, with an arrow between them, and a line feed
abbrev pub arrow_text : List ℕ → List ℕ → List ℕ
arrow_text from to = from ++ (32 ∷ (codes "-> " ++ (to ++ (10 ∷ []))))

pub record IsArrow (text from to : List ℕ) : Type 0 where
  pub free_from : Lacks 32 from
  pub free_to : Lacks 10 to
  pub spelled : text ≡ arrow_text from to

abbrev pub NoArrow : List ℕ → Type 0
NoArrow text = (from to : List ℕ) → Lacks 32 from → Lacks 10 to → text ≢ arrow_text from to
