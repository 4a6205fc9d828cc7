-- What the tests of a sieve tell of the leftmost match.
use Rattle.std.proofs.Common.{◌≡◌, ℕ, Bool, true, ◌+◌, ◌<◌, ◌≤◌, List, length, All, Option, Some, None, sym, subst, ◌∙◌, arith}
use Rattle.std.specs.Prelude.{IfSome, IsSomeAnd, MatchOption}
use Rattle.std.specs.Option.{ForSome}
use Rattle.std.proofs.lemmas.Option.{none-some, same_Some}
use Rattle.std.proofs.Math.Logic.{∥∥₁_elim, ∥∥₁_prop}
use Rattle.regex_hir.specs.Find.{find}
use Rattle.regex_hir.specs.Re.{Re}
use Rattle.regex_extract.specs.Needles.{ContainsNeedle, EndsWithNeedle}
use Rattle.regex_literal.specs.Find.{Nowhere, NoneBefore, AnyOccursAt}
use Rattle.regex_literal.specs.Ladders.{Admits}
use Rattle.regex_literal.specs.declared.ladder.Ladder.{Ladder}
use Rattle.regex_meta.proofs.LeftmostLemmas.{Matches-of_attempt, find_none, find_skip}
use Rattle.regex_meta.proofs.ProgramLemmas.{refuted}
use Rattle.regex_extract.specs.Bounds.{IsAnchored}
use Rattle.regex_literal.specs.ByteSets.{IsInSet}
use Rattle.regex_meta.specs.Plans.{IsAdmitted}
use Rattle.regex_meta.specs.Programs.{pattern_of, leftmost}
use Rattle.regex_meta.specs.declared.program.Program.{Program}

-- no match where there is no literal of every match
pub none_lacking : (re : Re) (bytes : List ℕ) (needles : List (List ℕ)) → All (λ byte. byte < 256) bytes
    → ∥ ContainsNeedle re needles ∥₁ → Nowhere (AnyOccursAt bytes needles) 0 (length bytes + 1) → find re bytes 0 ≡ None
none_lacking re bytes needles small contains nowhere = find_none re bytes 0 (λ i t low high is. refuted contains (λ has.
    let needle = has bytes small i t.end (Matches-of_attempt re bytes i t is) in
    let within = needle.2 in
    nowhere needle.1 (omega arith) (omega (arith, within.occurs.fits)) (needle.0, within.numbered, within.occurs)))

-- no match where every one starts at the first byte, and none begins with it
pub none_at_start : (program : Program) (bytes : List ℕ) (first : List Bool) → program.first ≡ Some first
    → (anchored : Bool) → anchored ≡ true → ∥ (anchored ≡ true → IsAnchored true (pattern_of program)) ∥₁
    → Nowhere (IsInSet first bytes) 0 1 → leftmost program bytes 0 ≡ None
none_at_start program bytes first is anchored set anchors nowhere =
    find_none (pattern_of program) bytes 0 (λ i t low high found. refuted anchors (λ anchor. refuted program.starts (λ starts.
    let zero : i ≡ 0 = (anchor set).at bytes i t.end high (Matches-of_attempt (pattern_of program) bytes i t found) in
    nowhere i low (omega arith) (starts first is bytes i t found).1)))

-- what a search for literals looks for is what was found of the matches
pub kept_needles : {Those : Type 0} (P : List (List ℕ) → Type 0) (of : Those → List (List ℕ)) (needles : Option Those) (found : Option (List (List ℕ)))
    → IfSome needles (λ those. P (of those)) → IfSome found (λ search. IsSomeAnd needles (λ those. search ≡ of those))
    → (search : List (List ℕ)) → found ≡ Some search → P search
kept_needles P of needles None holds made search is = absurd (none-some search is)
kept_needles P of None (Some found) holds made search is = absurd made
kept_needles P of (Some those) (Some found) holds made search is = subst P (sym made ∙ same_Some _ _ is) holds

pub ends_within : (re : Re) (needles : List (List ℕ)) → EndsWithNeedle re needles → ContainsNeedle re needles
ends_within re needles ends = λ bytes small i j is. let needle = ends bytes small i j is in (needle.0, needle.1, needle.2)

pub of_some : {A : Type 0} (P : A → Type 0) (found : Option A) → IfSome found P → ForSome found P
of_some P None holds value is = absurd (none-some value is)
of_some P (Some known) holds value is = subst P (same_Some _ _ is) holds

-- a fact about what is there holds of what was found there
pub holds_of : {A : Type 0} (P : A → Type 0) (found : Option A) (value : A) → found ≡ Some value → ∥ ForSome found P ∥₁ → ∥ P value ∥₁
holds_of P found value is holds = ∥∥₁_elim holds ∥∥₁_prop (λ all. ∣ all value is ∣₁)

-- no match starts where the ladder admits no place
pub first_admitted : (re : Re) (ladder : Ladder) (bytes : List ℕ) (found : Option ℕ) → ∥ IsAdmitted re ladder ∥₁
    → MatchOption found (Nowhere (Admits ladder bytes) 0 (length bytes + 1)) (NoneBefore (Admits ladder bytes) 0 (length bytes + 1))
    → MatchOption found (find re bytes 0 ≡ None) (λ at. (at ≤ length bytes) × (find re bytes 0 ≡ find re bytes at))
first_admitted re ladder bytes None admits nowhere = find_none re bytes 0 (λ i t low high is.
    refuted admits (λ all. nowhere i low (omega arith) (all bytes i t is)))
first_admitted re ladder bytes (Some at) admits first = (
  omega (arith, first.high),
  find_skip re bytes 0 at first.low (λ i t low high is. refuted admits (λ all. first.before i low high (all bytes i t is))),
)
