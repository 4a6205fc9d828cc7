-- The steps of reading several records, one lemma for each answer of `next`, and what follows from them.
use Rattle.std.proofs.Common.{◌≡◌, ℕ, List, [], ◌∷◌, ◌++◌, Option, Some, None, Ok, Err, refl, sym, ap, subst, append_assoc, ◌∙◌}
use Rattle.std.proofs.lemmas.List.{append-nil}
use Rattle.edge_io.specs.Told.{before}
use Rattle.edge_io.proofs.Told.{before-nil, before-before}
use Rattle.pcap_input.specs.declared.capture.Record.{Record}
use Rattle.pcap_input.specs.declared.capture.CaptureFault.{CaptureFault}
use Rattle.pcap_input.specs.declared.capture.CaptureFault.TheVariants as fault
use Rattle.pcap_input.specs.Cut.{Cut, Ending, Clean, Refused, with_front}
use Rattle.pcap_input.specs.Savefile.{Ends, next_of}
use Rattle.pcap_input.specs.Reader.{Reading, after_next, Gives, TakesRecord, TakesNone}
use Rattle.pcap_input.specs.Reading.{cut_for, HasRead, AreWhole, EndsWith, IsRefusedBy}
use Rattle.pcap_input.proofs.Cuts.{front_of_front, front_of_none}
use Rattle.pcap_input.proofs.Laws.{next_of_nothing}
use Rattle.pcap_input.proofs.Records.{records_left-ends, records_left-follows, shows_ending}
use Rattle.pcap_input.proofs.Told.{split_told}

-- nothing was read yet
pub reading-start : (reader : Reading) (left : Option (List ℕ)) → reader.refused ≡ None → HasRead reader reader [] left left
reading-start reader left fresh = record { fresh = fresh; head = refl; taken = []; took = sym (before-nil left); cut = λ more. refl }

-- a stretch, and then another one
pub reading-joined : (first middle last : Reading) (front back : List Record) (left_first left_middle left_last : Option (List ℕ))
    → HasRead first middle front left_first left_middle → HasRead middle last back left_middle left_last → HasRead first last (front ++ back) left_first left_last
reading-joined first middle last front back left_first left_middle left_last one two = record {
  fresh = two.fresh;
  head = two.head ∙ one.head;
  taken = one.taken ++ two.taken;
  took = one.took ∙ ap (before one.taken) two.took ∙ before-before one.taken two.taken left_last;
  cut = λ more.
      ap (cut_for first) (append_assoc one.taken two.taken more)
      ∙ one.cut (two.taken ++ more)
      ∙ ap (with_front front) (two.cut more)
      ∙ front_of_front front back (cut_for last more);
}

-- one record was given
pub reading-one : (reader next : Reading) (given : Record) (left left_next : Option (List ℕ)) → reader.refused ≡ None → TakesRecord reader given left left_next → next ≡ after_next reader (Some given)
    → HasRead reader next (given ∷ []) left left_next
reading-one reader next given left left_next fresh takes is =
    let step : HasRead reader (after_next reader (Some given)) (given ∷ []) left left_next = record {
      fresh = fresh;
      head = refl;
      taken = takes.taken;
      took = takes.took;
      cut = λ more. records_left-follows reader.head reader.number reader.at (takes.taken ++ more) given more (takes.goes more);
    } in
    subst (λ (r : Reading). HasRead reader r (given ∷ []) left left_next) (sym is) step

-- one more record was given
pub reading-more : (first reader next : Reading) (given : List Record) (last : Record) (left_first left left_next : Option (List ℕ))
    → HasRead first reader given left_first left → TakesRecord reader last left left_next → next ≡ after_next reader (Some last)
    → HasRead first next (given ++ last ∷ []) left_first left_next
reading-more first reader next given last left_first left left_next so_far takes is =
    reading-joined first reader next given (last ∷ []) left_first left left_next so_far (reading-one reader next last left left_next so_far.fresh takes is)

-- what is told of the rest: the records so far and the rest's are the whole's
pub reading-told : (first reader : Reading) (given : List Record) (left_first left : Option (List ℕ)) (whole : List ℕ)
    → HasRead first reader given left_first left → left_first ≡ Some whole → (rest : List ℕ) × (left ≡ Some rest) × (cut_for first whole ≡ with_front given (cut_for reader rest))
reading-told first reader given left_first left whole so_far told =
    let split = split_told left_first left so_far.taken whole so_far.took told in
    (split.rest, split.still, ap (cut_for first) split.joined ∙ so_far.cut split.rest)

-- no record comes next after those that were given
front_ends : (first reader : Reading) (given : List Record) (left_first left : Option (List ℕ)) (so_far : HasRead first reader given left_first left) (rest : List ℕ) (ending : Ending CaptureFault)
    → next_of reader.head reader.number reader.at rest ≡ Ends ending → cut_for first (so_far.taken ++ rest) ≡ record { records = given; ending = ending }
front_ends first reader given left_first left so_far rest ending ends =
    so_far.cut rest
    ∙ ap (with_front given) (records_left-ends reader.head reader.number reader.at rest ending ends)
    ∙ front_of_none given ending

-- the records that were given so far are those that are whole within what was taken
pub reading-whole : (first reader : Reading) (given : List Record) (left_first left : Option (List ℕ)) → HasRead first reader given left_first left → AreWhole first given left_first left
reading-whole first reader given left_first left so_far = record {
  taken = so_far.taken;
  took = so_far.took;
  are = ap (λ (bytes : List ℕ). (cut_for first bytes).records) (sym (append-nil so_far.taken))
      ∙ ap (λ (cut : Cut Record CaptureFault). cut.records) (front_ends first reader given left_first left so_far [] Clean (next_of_nothing reader.head reader.number reader.at));
}

-- reading was refused, failed or lacked memory: no further record is whole within what was taken
pub reading-stopped : (first reader : Reading) (given : List Record) (why : CaptureFault) (left_first left left_next : Option (List ℕ))
    → HasRead first reader given left_first left → TakesNone reader why left left_next → AreWhole first given left_first left_next
reading-stopped first reader given why left_first left left_next so_far takes =
    let shown = shows_ending why (next_of reader.head reader.number reader.at takes.taken) takes.shows in
    record {
      taken = so_far.taken ++ takes.taken;
      took = so_far.took ∙ ap (before so_far.taken) takes.took ∙ before-before so_far.taken takes.taken left_next;
      are = ap (λ (cut : Cut Record CaptureFault). cut.records) (front_ends first reader given left_first left so_far takes.taken shown.0 shown.1);
    }

-- what comes next for the reader, where that is told, is this ending
ends_with : (first reader : Reading) (given : List Record) (left_first left : Option (List ℕ)) (ending : Ending CaptureFault)
    → HasRead first reader given left_first left → ((rest : List ℕ) → left ≡ Some rest → next_of reader.head reader.number reader.at rest ≡ Ends ending) → EndsWith first given left_first ending
ends_with first reader given left_first left ending so_far ends whole told =
    let split = split_told left_first left so_far.taken whole so_far.took told in
    ap (cut_for first) split.joined ∙ front_ends first reader given left_first left so_far split.rest ending (ends split.rest split.still)

-- the reader answered that no byte is left: all was given
pub reading-ended : (first reader : Reading) (given : List Record) (left_first left : Option (List ℕ))
    → HasRead first reader given left_first left → ((rest : List ℕ) → left ≡ Some rest → Gives (Ok None) (next_of reader.head reader.number reader.at rest)) → EndsWith first given left_first Clean
reading-ended first reader given left_first left so_far gives = ends_with first reader given left_first left Clean so_far gives

-- the reader answered a refusal
pub reading-refused : (first reader : Reading) (given : List Record) (why : CaptureFault) (left_first left : Option (List ℕ))
    → HasRead first reader given left_first left → ((rest : List ℕ) → left ≡ Some rest → Gives (Err why) (next_of reader.head reader.number reader.at rest)) → IsRefusedBy first given left_first why
reading-refused first reader given fault.NotPcap left_first left so_far gives = ends_with first reader given left_first left (Refused fault.NotPcap) so_far gives
reading-refused first reader given (fault.LinkType link_type) left_first left so_far gives = ends_with first reader given left_first left (Refused (fault.LinkType link_type)) so_far gives
reading-refused first reader given (fault.Truncated at) left_first left so_far gives = ends_with first reader given left_first left (Refused (fault.Truncated at)) so_far gives
reading-refused first reader given (fault.TooLong at len) left_first left so_far gives = ends_with first reader given left_first left (Refused (fault.TooLong at len)) so_far gives
reading-refused first reader given fault.TooMany left_first left so_far gives = ends_with first reader given left_first left (Refused fault.TooMany) so_far gives
reading-refused first reader given fault.Failed left_first left so_far gives = tt
reading-refused first reader given fault.NoMemory left_first left so_far gives = tt
