-- The bytes of the pieces are the chosen bytes.
use Rattle.std.proofs.Common.{◌≡◌, ℕ, ◌+◌, ◌<◌, ◌≤◌, ◌↔◌, List, Option, None, Bool, true, false, cond, nat_le, IsSome, IsTrue, ap, sym, subst, ◌∙◌, arith}
use Rattle.std.specs.Bool.{OnTrue}
use Rattle.std.proofs.lemmas.Bool.Decides.{nat_tests}
use Rattle.edge_io.specs.declared.policy.Preference.{Preference}
use Rattle.overlap_core.specs.declared.segment.Run.{Run}
use Rattle.overlap_core.specs.Segments.{Segment}
use Rattle.overlap_core.specs.Joined.{byte_in}
use Rattle.overlap_core.specs.Overlap.{chosen_byte}
use Rattle.overlap_core.specs.Pieces.{HoldChosen, kept_in, Piece}
use Rattle.overlap_core.specs.Runs.{AppendsBytes, AppendsRuns, AreBytes}
use Rattle.overlap_core.proofs.Segments.Arrivals.{chosen_byte-kept}
use Rattle.overlap_core.proofs.Joined.Joining.{AreRuns-along}

pub byte_in-chosen : (preference : Preference) (segments : List Segment) (floor : ℕ) (pieces : List Piece)
    → HoldChosen preference segments floor pieces
    → (place : ℕ)
    → floor ≤ place
    → byte_in pieces place ≡ chosen_byte preference segments place
byte_in-chosen preference segments floor pieces holds place from = chosen_byte-kept preference segments place (kept_in pieces place) (holds place from)

pub byte_from : (floor place : ℕ) (byte found : Option ℕ) → floor ≤ place → found ≡ byte → found ≡ cond (nat_le floor place) byte None
byte_from floor place byte found from is = let test : nat_le floor place ≡ true = grind (arith, nat_tests) in is ∙ sym (ap (λ b. cond b byte None) test)

pub whole-along : (f g : ℕ → Option ℕ) (floor len : ℕ) (answer : Bool)
    → ((place : ℕ) → floor ≤ place → f place ≡ g place)
    → (IsTrue answer ↔ ((k : ℕ) → k < len → IsSome (f (floor + k))))
    → (IsTrue answer ↔ ((k : ℕ) → k < len → IsSome (g (floor + k))))
whole-along f g floor len answer same tells = (
  λ is k below. subst (λ (o : Option ℕ). IsSome o) (same (floor + k) (omega arith)) (tells.0 is k below),
  λ all. tells.1 (λ k below. subst (λ (o : Option ℕ). IsSome o) (sym (same (floor + k) (omega arith))) (all k below)),
)

pub bytes-along : (f g : ℕ → Option ℕ) (floor : ℕ) (out : List ℕ) (answer : Bool)
    → ((place : ℕ) → floor ≤ place → f place ≡ g place)
    → OnTrue answer (AreBytes f floor out)
    → OnTrue answer (AreBytes g floor out)
bytes-along f g floor out true same holds = λ k below. sym (same (floor + k) (omega arith)) ∙ holds k below
bytes-along f g floor out false same holds = tt

pub appends-along : (f g : ℕ → Option ℕ) (low high : ℕ) (old new : List Run) → ((place : ℕ) → low ≤ place → f place ≡ g place) → AppendsRuns f low high old new → AppendsRuns g low high old new
appends-along f g low high old new same appended = (appended.0, appended.1, AreRuns-along f g low high appended.0 same appended.2)

pub appends_bytes-along : (f g : ℕ → Option ℕ) (low count : ℕ) (old new : List ℕ) (answer : Bool)
    → ((place : ℕ) → low ≤ place → f place ≡ g place)
    → OnTrue answer (AppendsBytes f low count old new)
    → OnTrue answer (AppendsBytes g low count old new)
appends_bytes-along f g low count old new true same added = (added.0, added.1, added.2, λ k below. sym (same (low + k) (omega arith)) ∙ added.3 k below)
appends_bytes-along f g low count old new false same added = tt
