-- Records of Unified2 as a form of input.
use Rattle.std.proofs.Common.{◌≡◌, ℕ, suc, ◌-◌, inl, inr, take, drop, List, [], ◌∷◌, ◌++◌, Option, None, length, refl, sym, ap, ◌∙◌, subst, append_assoc, append-nil, length-append, arith}
use Rattle.std.specs.List.{All}
use Rattle.std.proofs.lemmas.List.{take-append-drop, take_rest}
use Rattle.std.proofs.lemmas.Grind.{flat_map-append}
use Rattle.unified2_out.specs.declared.record.U2Event.{U2Event}
use Rattle.unified2_out.specs.declared.record.U2.{U2}
use Rattle.unified2_out.specs.Records.{unified2_text}
use Rattle.unified2_out.specs.Reading.{IsRecord, joined_text}
use Rattle.unified2_out.specs.Fronts.{HasNoRecord}
use Rattle.unified2_out.proofs.Laws.{text-split, length-unified2_text}
use Rattle.snort_eve.specs.Joins.{Joined, flushed, joined, held_after, completed_by, lines_of}
use Rattle.snort_eve.specs.Streams.{Takes, Feeds, HasCome, IsForeign, IsSplit}
use Rattle.snort_eve.specs.declared.form.Ending.{Ending}
use Rattle.snort_eve.specs.declared.form.Ending.TheVariants.{Done, Bad, NoLine}
use Rattle.snort_eve.specs.Forms.{Adds, BeginsWith, Closes, Gives, IsLast}
use Rattle.snort_eve.specs.Endings.{EndsBy, IsBeginning, IsEnding, of_records}
use Rattle.snort_eve.proofs.Joining.{completed_by-append}
use Rattle.snort_eve.proofs.Pieces.{come-none, come-more, split-one}

-- no bytes are no record
pub no_bytes : HasNoRecord []
no_bytes size entry front =
    let none : length (unified2_text entry ++ front.rest) ≡ 0 = ap length (sym front.begins) in
    omega (arith, none, length-append (unified2_text entry) front.rest, length-unified2_text entry)

-- nothing came yet
pub come-empty : (line : Joined → List ℕ) (rest : List ℕ) (held : Option U2Event) → rest ≡ [] → held ≡ None → HasCome line [] rest held []
come-empty line rest held empty free =
    subst (λ (r : List ℕ). HasCome line [] r held []) (sym empty) (subst (λ (h : Option U2Event). HasCome line [] [] h []) (sym free) (come-none line no_bytes))

-- whatever follows bytes, their records are the first ones
record Goes (firsts seconds : List U2) : Type 0 where
  thirds : List U2
  are : seconds ≡ firsts ++ thirds

goes-on : (firsts seconds : List U2) (rest more : List ℕ) → All IsRecord firsts → All IsRecord seconds → HasNoRecord more
    → joined_text firsts ++ rest ≡ joined_text seconds ++ more → Goes firsts seconds
goes-on [] seconds rest more are as_well none same = record { thirds = seconds; are = refl }
goes-on (first ∷ firsts) [] rest more are as_well none same =
    absurd (none (length (unified2_text first)) first (record {
      is = are 0 first (omega arith);
      size_is = refl;
      rest = joined_text firsts ++ rest;
      begins = sym same ∙ append_assoc (unified2_text first) (joined_text firsts) rest;
    }))
goes-on (first ∷ firsts) (second ∷ seconds) rest more are as_well none same =
    let moved = sym (append_assoc (unified2_text first) (joined_text firsts) rest) ∙ same ∙ append_assoc (unified2_text second) (joined_text seconds) more in
    let heads = text-split first second (joined_text firsts ++ rest) (joined_text seconds ++ more) (are 0 first (omega arith)) (as_well 0 second (omega arith)) moved in
    let tails = goes-on firsts seconds rest more (λ k d h. are (suc k) d (omega arith)) (λ k d h. as_well (suc k) d (omega arith)) none heads.1 in
    record { thirds = tails.thirds; are = ap (λ (r : U2). r ∷ seconds) (sym heads.0) ∙ ap (λ (rs : List U2). first ∷ rs) tails.are }

-- the lines of records begin with those of the first ones
lines-front : (line : Joined → List ℕ) (firsts seconds : List U2) → Goes firsts seconds → BeginsWith (lines_of line (joined seconds)) (lines_of line (completed_by None firsts))
lines-front line firsts seconds goes =
    let thirds = goes.thirds in
    let rest = completed_by (held_after None firsts) thirds ++ flushed (held_after None seconds) in
    let all : joined seconds ≡ completed_by None firsts ++ rest =
    ap (λ (es : List Joined). es ++ flushed (held_after None seconds)) (ap (completed_by None) goes.are ∙ completed_by-append None firsts thirds)
    ∙ append_assoc (completed_by None firsts) (completed_by (held_after None firsts) thirds) (flushed (held_after None seconds)) in
    record { rest = lines_of line rest; is = ap (lines_of line) all ∙ flat_map-append line (completed_by None firsts) rest }

-- what a text begins with begins with a part of it
begins-part : (text whole part : List ℕ) → BeginsWith text whole → BeginsWith whole part → BeginsWith text part
begins-part text whole part first second =
    record { rest = second.rest ++ first.rest; is = first.is ∙ ap (λ (x : List ℕ). x ++ first.rest) second.is ∙ append_assoc part second.rest first.rest }

-- so what was written of bytes that came is a beginning of what all of the file has
come-begins : (line : Joined → List ℕ) (taken more rest wrote : List ℕ) (held : Option U2Event) → HasCome line taken rest held wrote → IsBeginning line (taken ++ more) wrote
come-begins line taken more rest wrote held come seconds after_them split =
    let moved = sym (append_assoc (joined_text come.entries) rest more) ∙ ap (λ (b : List ℕ). b ++ more) (sym come.split.split) ∙ split.split in
    let goes = goes-on come.entries seconds (rest ++ more) after_them come.split.each split.each split.none moved in
    subst (λ (x : List ℕ). BeginsWith (lines_of line (joined seconds)) x) (sym come.lines) (lines-front line come.entries seconds goes)

-- nothing was written: the line of the event that waits begins with it
pub nothing-begins : (text : List ℕ) → BeginsWith text []
nothing-begins text = record { rest = text; is = refl }

-- a part of more lines
longer : (wrote lines part : List ℕ) → BeginsWith lines part → BeginsWith (wrote ++ lines) (wrote ++ part)
longer wrote lines part begins =
    record { rest = begins.rest; is = ap (λ (x : List ℕ). wrote ++ x) begins.is ∙ sym (append_assoc wrote part begins.rest) }

-- a piece gives its lines
pub piece-gives : (line : Joined → List ℕ) (waited piece rest : List ℕ) (held now : Option U2Event) (old new : List ℕ) → Adds old new (Feeds line waited held piece rest now)
    → Adds old new (Gives (λ (b w : List ℕ). HasCome line b waited held w) (λ (b w : List ℕ). HasCome line b rest now w) (of_records line) piece)
piece-gives line waited piece rest held now old new fed =
    let goes = λ (bytes wrote : List ℕ) (come : HasCome line bytes waited held wrote).
    come-more line bytes waited piece rest held now wrote fed.lines come fed.holds in
    record {
      lines = fed.lines;
      holds = record {
        goes = goes;
        parts = λ bytes wrote part come begins more entries after_them split.
            begins-part _ _ _ (come-begins line (bytes ++ piece) more rest (wrote ++ fed.lines) now (goes bytes wrote come) entries after_them split) (longer wrote fed.lines part begins);
      };
      added = fed.added;
    }

last-lines : (line : Joined → List ℕ) (taken rest wrote : List ℕ) (held : Option U2Event) (come : HasCome line taken rest held wrote)
    → wrote ++ lines_of line (flushed held) ≡ lines_of line (joined come.entries)
last-lines line taken rest wrote held come =
    ap (λ (w : List ℕ). w ++ lines_of line (flushed held)) come.lines
    ∙ ap (λ (h : Option U2Event). lines_of line (completed_by None come.entries) ++ lines_of line (flushed h)) come.waits
    ∙ sym (flat_map-append line (completed_by None come.entries) (flushed (held_after None come.entries)))

-- at the end no record begins at what is left
whole-split : (line : Joined → List ℕ) (taken rest wrote more : List ℕ) (held : Option U2Event) (come : HasCome line taken rest held wrote) → IsLast (IsForeign rest) more
    → IsSplit (taken ++ more) come.entries (rest ++ more)
whole-split line taken rest wrote more held come last = record {
  each = come.split.each;
  split = ap (λ (b : List ℕ). b ++ more) come.split.split ∙ append_assoc (joined_text come.entries) rest more;
  none = left-none last;
} where
  left-none : IsLast (IsForeign rest) more → HasNoRecord (rest ++ more)
  left-none (inl foreign) = foreign.none more
  left-none (inr nothing) = subst (λ (m : List ℕ). HasNoRecord (rest ++ m)) (sym nothing) (subst HasNoRecord (sym (append-nil rest)) come.split.none)

-- nor is anything left where no byte waits
left-nothing : (rest more : List ℕ) → rest ≡ [] → IsLast (IsForeign rest) more → rest ++ more ≡ []
left-nothing rest more empty (inl foreign) = absurd (omega (arith, foreign.long, ap length empty))
left-nothing rest more empty (inr nothing) = ap (λ (r : List ℕ). r ++ more) empty ∙ nothing

-- the line of the event that waits is the last one
pub end-closes : (line : Joined → List ℕ) (rest : List ℕ) (held : Option U2Event) (read : ℕ) (old new : List ℕ) (ending : Ending)
    → new ≡ old ++ lines_of line (flushed held) → EndsBy rest read ending
    → Adds old new (Closes (λ (b w : List ℕ). HasCome line b rest held w) (IsForeign rest) (of_records line) read ending)
end-closes line rest held read old new ending added ends = record {
  lines = lines_of line (flushed held);
  holds = record {
    whole = λ bytes wrote more come last counted. by bytes wrote more come last counted ending ends;
    parts = λ bytes wrote more part come last begins entries other split.
        let own = whole-split line bytes rest wrote more held come last in
        let one = split-one entries come.entries other (rest ++ more) split.each own.each split.none own.none (sym split.split ∙ own.split) in
        let cut = longer wrote (lines_of line (flushed held)) part begins in
        record {
          rest = cut.rest;
          is = ap (λ (es : List U2). lines_of line (joined es)) one.0 ∙ sym (last-lines line bytes rest wrote held come) ∙ cut.is;
        };
  };
  added = added;
} where
  by : (bytes wrote more : List ℕ) (come : HasCome line bytes rest held wrote) → IsLast (IsForeign rest) more → read ≡ length bytes → (e : Ending) → EndsBy rest read e
      → IsEnding line (bytes ++ more) (wrote ++ lines_of line (flushed held)) e
  by bytes wrote more come last counted Done empty =
      record {
        entries = come.entries;
        are = record {
          split = subst (λ (r : List ℕ). IsSplit (bytes ++ more) come.entries r) (left-nothing rest more empty last) (whole-split line bytes rest wrote more held come last);
          lines = last-lines line bytes rest wrote held come;
        };
      }
  by bytes wrote more come last counted (Bad at) waits =
      record {
        entries = come.entries;
        rest = rest ++ more;
        are = record { split = whole-split line bytes rest wrote more held come last; lines = last-lines line bytes rest wrote held come };
        left = omega (arith, waits.0, length-append rest more);
        place = omega (arith, waits.1, counted, ap length come.split.split, length-append (joined_text come.entries) rest);
      }
  by bytes wrote more come last counted (NoLine at) none = absurd none

-- the records of a piece were taken, and their lines appended
pub feed-step : (line : Joined → List ℕ) (waited piece rest bytes same_bytes : List ℕ) (held now : Option U2Event) (old new : List ℕ) (none all entries : List U2) (size : ℕ)
    → bytes ≡ waited ++ piece → none ≡ [] → Takes bytes none all size → entries ≡ all → same_bytes ≡ bytes
    → rest ≡ take (length same_bytes - size) (drop size same_bytes) → now ≡ held_after held entries
    → new ≡ old ++ lines_of line (completed_by held entries) → Adds old new (Feeds line waited held piece rest now)
feed-step line waited piece rest bytes same_bytes held now old new none all entries size come empty takes given same cut waits written =
    let taken = takes.reached.entries in
    let are : entries ≡ taken = given ∙ takes.added ∙ ap (λ (es : List U2). es ++ taken) empty in
    let left : rest ≡ drop size bytes = cut ∙ take_rest same_bytes size ∙ ap (drop size) same in
    record {
      lines = lines_of line (completed_by held entries);
      holds = record {
        entries = entries;
        taken = record {
          each = subst (All IsRecord) (sym are) takes.reached.are.each;
          split = sym come
              ∙ sym (take-append-drop size bytes)
              ∙ ap (λ (b : List ℕ). b ++ drop size bytes) (sym takes.reached.are.joined ∙ ap joined_text (sym are))
              ∙ ap (λ (b : List ℕ). joined_text entries ++ b) (sym left);
          none = subst HasNoRecord (sym left) takes.none;
        };
        waits = waits;
        written = refl;
      };
      added = written;
    }
