-- Two words that are both ends of a line.
use Rattle.std.proofs.Common.{◌≡◌, ◌≢◌, ℕ, Bool, true, false, not, List, [], ◌∷◌, ◌++◌, Option, Some, None, is_some, refl, sym, ap, ◌∙◌, append-nil, decimal, true≢false, arith, ◌⊎◌, inl, inr}
use Rattle.edge_io.specs.declared.address.Addr.{Addr}
use Rattle.alert_fast.specs.declared.told.LineEnds.{LineEnds}
use Rattle.alert_fast.specs.Fronts.{Lacks, IsWhole, NoWhole}
use Rattle.alert_fast.specs.Line.{address_text, port_text}
use Rattle.alert_fast.specs.Splits.{IsBackWord}
use Rattle.alert_fast.specs.Told.{IsAddr, AreEnds, ArePorts, first_port, second_port}
use Rattle.alert_fast.specs.Words.{IsPort}
use Rattle.alert_fast.specs.Ends.{IsPorted, ported_text, source_text, target_text, AreWords, AreOwn, NoOwn, AreRead, NoEnds}
use Rattle.alert_fast.proofs.ReadBack.Places.{back_word_only}
use Rattle.alert_fast.proofs.ReadBack.WholeWords.{free_number}
use Rattle.alert_fast.proofs.ReadBack.Fronts.{lacks-none, lacks-back}

no_colon : (port : ℕ) → IsPort port → Lacks 58 (decimal port)
no_colon port small = free_number 58 refl port (omega arith)

-- an address and its port
module _ (word front digits : List ℕ) (cut : IsBackWord 58 word front digits) where
  same_cut : (other : Addr × ℕ) → IsPorted other → ported_text other ≡ word → (address_text other.0 ≡ front) × (decimal other.1 ≡ digits)
  same_cut other fits e = back_word_only 58 (address_text other.0) front (decimal other.1) digits (no_colon other.1 fits.1) cut.lacks (e ∙ cut.spelled)

  pub ported_whole : (address : Addr) (port : ℕ) → IsWhole IsPort decimal digits port → IsWhole IsAddr address_text front address → IsWhole IsPorted ported_text word (address, port)
  ported_whole address port p a = record {
    fits = (a.fits, p.fits);
    spelled = ap (λ (t : List ℕ). t ++ (58 ∷ decimal port)) a.spelled ∙ ap (λ (t : List ℕ). front ++ (58 ∷ t)) p.spelled ∙ sym cut.spelled;
    only = λ other fits e.
        let same = same_cut other fits e in
        let first = a.only other.0 fits.0 same.0 in
        let second = p.only other.1 fits.1 same.1 in
        (λ i. (first i, second i));
  }

  pub ported_no_port : NoWhole IsPort decimal digits → NoWhole IsPorted ported_text word
  ported_no_port none other fits e = none other.1 fits.1 (same_cut other fits e).1

  pub ported_no_address : NoWhole IsAddr address_text front → NoWhole IsPorted ported_text word
  ported_no_address none other fits e = none other.0 fits.0 (same_cut other fits e).0

pub ported_none : (word : List ℕ) → Lacks 58 word → NoWhole IsPorted ported_text word
ported_none word lacks other fits e = lacks-none 58 (address_text other.0) (decimal other.1) (rw e lacks)

-- both ends with ports
pub with_ends : (from to : List ℕ) (src dst : Addr) (sport dport : ℕ)
    → IsWhole IsPorted ported_text from (src, sport)
    → IsWhole IsPorted ported_text to (dst, dport)
    → AreOwn true from to (record { src = src; dst = dst; ports = Some (sport, dport) })
unfolding port_text
with_ends from to src dst sport dport h k = record {
  words = record { fits = (h.fits.0, k.fits.0, (h.fits.1, k.fits.1)); source = h.spelled; target = k.spelled };
  own = refl;
}

-- ends with ports are two words with ports
has_pair : (from to : List ℕ) (other : LineEnds)
    → AreWords from to other
    → is_some other.ports ≡ true
    → (p : ℕ × ℕ) × IsPorted (other.src, p.0) × IsPorted (other.dst, p.1) × (ported_text (other.src, p.0) ≡ from) ×
    (ported_text (other.dst, p.1) ≡ to)
unfolding port_text
has_pair from to other words own =
    elim other.ports as
    (λ (ports : Option (ℕ × ℕ)). ArePorts ports → address_text other.src ++ port_text (first_port ports) ≡ from →
    address_text other.dst ++ port_text (second_port ports) ≡ to → is_some ports ≡ true →
    (p : ℕ × ℕ) × IsPorted (other.src, p.0) × IsPorted (other.dst, p.1) × (ported_text (other.src, p.0) ≡ from) ×
    (ported_text (other.dst, p.1) ≡ to)) [
      | None ↦ (λ fits e f own. absurd (true≢false (sym own)))
      | Some p ↦ (λ fits e f own. (p, (words.fits.0, fits.0), (words.fits.1, fits.1), e, f))
    ] words.fits.2 words.source words.target own

pub with_no_source : (from to : List ℕ) → NoWhole IsPorted ported_text from → NoOwn true from to
with_no_source from to none other words own =
    let (p, first, second, e, f) = has_pair from to other words own in
    none (other.src, p.0) first e

pub with_no_target : (from to : List ℕ) → NoWhole IsPorted ported_text to → NoOwn true from to
with_no_target from to none other words own =
    let (p, first, second, e, f) = has_pair from to other words own in
    none (other.dst, p.1) second f

-- both ends without ports
pub plain_ends : (from to : List ℕ) (src dst : Addr) → IsWhole IsAddr address_text from src → IsWhole IsAddr address_text to dst → AreOwn false from to (record { src = src; dst = dst; ports = None })
unfolding port_text
plain_ends from to src dst h k = record {
  words = record { fits = (h.fits, k.fits, tt); source = append-nil _ ∙ h.spelled; target = append-nil _ ∙ k.spelled };
  own = refl;
}

are_plain : (from to : List ℕ) (other : LineEnds) → AreWords from to other → is_some other.ports ≡ false → (address_text other.src ≡ from) × (address_text other.dst ≡ to)
unfolding port_text
are_plain from to other words own =
    elim other.ports as
    (λ (ports : Option (ℕ × ℕ)). address_text other.src ++ port_text (first_port ports) ≡ from →
    address_text other.dst ++ port_text (second_port ports) ≡ to → is_some ports ≡ false →
    (address_text other.src ≡ from) × (address_text other.dst ≡ to)) [
      | None ↦ (λ e f own. (sym (append-nil _) ∙ e, sym (append-nil _) ∙ f))
      | Some p ↦ (λ e f own. absurd (true≢false own))
    ] words.source words.target own

pub plain_no_source : (from to : List ℕ) → NoWhole IsAddr address_text from → NoOwn false from to
plain_no_source from to none other words own = none other.src words.fits.0 (are_plain from to other words own).0

pub plain_no_target : (from to : List ℕ) → NoWhole IsAddr address_text to → NoOwn false from to
plain_no_target from to none other words own = none other.dst words.fits.1 (are_plain from to other words own).1

-- as it is asked for, or else the other way
pub own_first : (ported : Bool) (from to : List ℕ) (ends : LineEnds) → AreOwn ported from to ends → AreRead ported from to ends
own_first ported from to ends h = record { words = h.words; preferred = λ other words own. h.own }

pub other_way : (ported : Bool) (from to : List ℕ) (ends : LineEnds) → NoOwn ported from to → AreOwn (not ported) from to ends → AreRead ported from to ends
other_way ported from to ends none h = record { words = h.words; preferred = λ other words own. absurd (none other words own) }

either : (a b : Bool) → (a ≡ b) ⊎ (a ≡ not b)
either false false = inl refl
either false true = inr refl
either true false = inr refl
either true true = inl refl

pub no_way : (ported : Bool) (from to : List ℕ) → NoOwn ported from to → NoOwn (not ported) from to → NoEnds from to
no_way ported from to none nor other words =
    elim (either (is_some other.ports) ported) [ inl own ↦ none other words own | inr own ↦ nor other words own ]
