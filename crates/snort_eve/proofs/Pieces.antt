-- Pieces of input, one behind another.
use Rattle.std.proofs.Common.{◌≡◌, ℕ, suc, List, [], ◌∷◌, ◌++◌, Option, None, length, refl, sym, ap, ◌∙◌, append_assoc, arith}
use Rattle.std.specs.List.{All}
use Rattle.std.proofs.lemmas.Grind.{flat_map-append}
use Rattle.std.proofs.lemmas.List.Elements.{All-append}
use Rattle.unified2_out.specs.declared.record.U2Event.{U2Event}
use Rattle.unified2_out.specs.declared.record.U2.{U2}
use Rattle.unified2_out.specs.Records.{unified2_text}
use Rattle.unified2_out.specs.Reading.{IsRecord, joined_text}
use Rattle.unified2_out.specs.Fronts.{HasNoRecord}
use Rattle.unified2_out.proofs.Laws.{text-split}
use Rattle.snort_eve.specs.Joins.{Joined, held_after, completed_by, lines_of}
use Rattle.snort_eve.specs.Streams.{Feeds, HasCome}
use Rattle.snort_eve.proofs.Joining.{held_after-append, completed_by-append}

-- nothing has come
pub come-none : (line : Joined → List ℕ) → HasNoRecord [] → HasCome line [] [] None []
come-none line none = record {
  entries = [];
  split = record { each = λ k d h. absurd (omega arith); split = refl; none = none };
  waits = refl;
  lines = refl;
}

-- a further piece
pub come-more : (line : Joined → List ℕ) (bytes waited piece rest : List ℕ) (held now : Option U2Event) (written lines : List ℕ)
    → HasCome line bytes waited held written → Feeds line waited held piece rest now lines → HasCome line (bytes ++ piece) rest now (written ++ lines)
come-more line bytes waited piece rest held now written lines come fed =
    let first = come.entries in
    let more = fed.entries in
    let joined : joined_text (first ++ more) ≡ joined_text first ++ joined_text more = flat_map-append unified2_text first more in
    let after = ap (λ (b : List ℕ). joined_text first ++ b) fed.taken.split in
    record {
      entries = first ++ more;
      split = record {
        each = All-append IsRecord first more come.split.each fed.taken.each;
        split = ap (λ (b : List ℕ). b ++ piece) come.split.split
            ∙ append_assoc (joined_text first) waited piece
            ∙ after
            ∙ sym (append_assoc (joined_text first) (joined_text more) rest)
            ∙ ap (λ (b : List ℕ). b ++ rest) (sym joined);
        none = fed.taken.none;
      };
      waits = fed.waits ∙ ap (λ (h : Option U2Event). held_after h more) come.waits ∙ sym (held_after-append None first more);
      lines = ap (λ (b : List ℕ). written ++ b) fed.written
          ∙ ap (λ (b : List ℕ). b ++ lines_of line (completed_by held more)) come.lines
          ∙ ap (λ (h : Option U2Event). lines_of line (completed_by None first) ++ lines_of line (completed_by h more)) come.waits
          ∙ sym (ap (lines_of line) (completed_by-append None first more) ∙ flat_map-append line (completed_by None first) (completed_by (held_after None first) more));
    }

-- bytes are split in one way
pub split-one : (firsts seconds : List U2) (rest more : List ℕ) → All IsRecord firsts → All IsRecord seconds → HasNoRecord rest → HasNoRecord more
    → joined_text firsts ++ rest ≡ joined_text seconds ++ more → (firsts ≡ seconds) × (rest ≡ more)
split-one [] [] rest more are as_well none as_none same = (refl, same)
split-one [] (second ∷ seconds) rest more are as_well none as_none same =
    absurd (none (length (unified2_text second)) second (record {
      is = as_well 0 second (omega arith);
      size_is = refl;
      rest = joined_text seconds ++ more;
      begins = same ∙ append_assoc (unified2_text second) (joined_text seconds) more;
    }))
split-one (first ∷ firsts) [] rest more are as_well none as_none same =
    absurd (as_none (length (unified2_text first)) first (record {
      is = are 0 first (omega arith);
      size_is = refl;
      rest = joined_text firsts ++ rest;
      begins = sym same ∙ append_assoc (unified2_text first) (joined_text firsts) rest;
    }))
split-one (first ∷ firsts) (second ∷ seconds) rest more are as_well none as_none same =
    let moved = sym (append_assoc (unified2_text first) (joined_text firsts) rest) ∙ same ∙ append_assoc (unified2_text second) (joined_text seconds) more in
    let heads = text-split first second (joined_text firsts ++ rest) (joined_text seconds ++ more) (are 0 first (omega arith)) (as_well 0 second (omega arith)) moved in
    let tails = split-one firsts seconds rest more (λ k d h. are (suc k) d (omega arith)) (λ k d h. as_well (suc k) d (omega arith)) none as_none heads.1 in
    (ap (λ (r : U2). r ∷ firsts) heads.0 ∙ ap (λ (rs : List U2). second ∷ rs) tails.0, tails.1)

-- so whatever the pieces in which bytes came, the lines are the same, and so is what waits
pub come-one : (line : Joined → List ℕ) (bytes rest more : List ℕ) (held now : Option U2Event) (written new : List ℕ)
    → HasCome line bytes rest held written → HasCome line bytes more now new → (written ≡ new) × (held ≡ now) × (rest ≡ more)
come-one line bytes rest more held now written new first second =
    let one = split-one first.entries second.entries rest more first.split.each second.split.each first.split.none second.split.none (sym first.split.split ∙ second.split.split) in (
      first.lines ∙ ap (λ (es : List U2). lines_of line (completed_by None es)) one.0 ∙ sym second.lines,
      first.waits ∙ ap (held_after None) one.0 ∙ sym second.waits,
      one.1,
    )
