-- What the texts of a run leave in the errors.
use Rattle.std.proofs.Common.{◌≡◌, ℕ, ◌+◌, ◌<◌, ◌≤◌, Bool, true, false, List, [], ◌∷◌, ◌++◌, Option, Result, length, get_or, take, refl, sym, ap, subst, ◌∙◌, inl, inr, ⊎_elim}
use Rattle.std.specs.List.{concat}
use Rattle.std.proofs.lemmas.List.{append-nil, take_more}
use Rattle.std.proofs.lemmas.List.Concat.{concat_is, flat_map-append}
use Rattle.edge_io.specs.Told.{grown, Rose}
use Rattle.edge_io.proofs.Told.{grown-nil, grown-grown}
use Rattle.alert_lines.specs.Written.{WritesPart}
use Rattle.alert_lines.proofs.Prefixes.{WritesPart-none, WritesPart-all, WritesPart-longer, WritesPart-after}
use Rattle.snort_engine.specs.declared.status.Status.{Status}
use Rattle.snort_engine.specs.declared.status.Status.TheVariants as status
use Rattle.snort_engine.specs.declared.stop.RunStop.{RunStop}
use Rattle.snort_engine.specs.Messages.{no_memory_text}
use Rattle.snort_engine.specs.Steps.Stop.{outcome_status}
use Rattle.snort_engine.specs.Outside.{TellsMessage}
use Rattle.snort_engine.specs.Steps.Reporting.{TellsOn, TellsLast, Reports}
use Rattle.snort_engine.proofs.Prefixes.{rose_since, rose_on}

-- ---- one text

-- nothing is told to a sink that has failed
pub tells_nothing : (text : List ℕ) (old : Option (List ℕ)) (rose : Type 0) → TellsOn text false old old rose false
tells_nothing text old rose = record { part = WritesPart-none old text; whole = tt; failed = tt; silent = (refl, refl) }

-- the text was told whole
pub tells_whole : (text : List ℕ) (old new : Option (List ℕ)) (rose : Type 0) → new ≡ grown old text → TellsOn text true old new rose true
tells_whole text old new rose wrote = record { part = WritesPart-all old new text wrote; whole = wrote; failed = tt; silent = tt }

-- the sink failed
pub tells_part : (text : List ℕ) (old new : Option (List ℕ)) (rose : Type 0) → WritesPart old text new → rose → TellsOn text true old new rose false
tells_part text old new rose part failed = record { part = part; whole = tt; failed = failed; silent = tt }

-- no text was told
pub tells_none : (old : Option (List ℕ)) (rose : Type 0) → TellsOn [] true old old rose true
tells_none old rose = record { part = WritesPart-none old []; whole = sym (grown-nil old); failed = tt; silent = tt }

-- ---- one text after another

-- the texts so far, and one text more
pub concat-more : (texts : List (List ℕ)) (i : ℕ) (d : List ℕ) → i < length texts → concat (take (i + 1) texts) ≡ concat (take i texts) ++ get_or texts i d
concat-more texts i d lt =
    ap concat (take_more texts i d lt) ∙ concat_is (take i texts ++ get_or texts i d ∷ [])
    ∙ flat_map-append {X = List ℕ} {A = ℕ} (λ x. x) (take i texts) (get_or texts i d ∷ [])
    ∙ ap (λ (x : List ℕ). x ++ (get_or texts i d ++ [])) (sym (concat_is (take i texts)))
    ∙ ap (λ (x : List ℕ). concat (take i texts) ++ x) (append-nil (get_or texts i d))

-- what was told so far, and then a text
pub tells_more : (so_far text : List ℕ) (first middle last : Option (List ℕ)) (at_first at_middle at_last : ℕ) (well still : Bool) → at_first ≤ at_middle → at_middle ≤ at_last
    → TellsOn so_far true first middle (Rose at_first at_middle) well → TellsOn text well middle last (Rose at_middle at_last) still
    → TellsOn (so_far ++ text) true first last (Rose at_first at_last) still
tells_more so_far text first middle last at_first at_middle at_last true true later on one two = record {
  part = WritesPart-after first middle last so_far text one.whole two.part;
  whole = two.whole ∙ ap (λ (x : Option (List ℕ)). grown x text) one.whole ∙ grown-grown first so_far text;
  failed = tt;
  silent = tt;
}
tells_more so_far text first middle last at_first at_middle at_last true false later on one two = record {
  part = WritesPart-after first middle last so_far text one.whole two.part;
  whole = tt;
  failed = rose_since at_first at_middle at_last later two.failed;
  silent = tt;
}
tells_more so_far text first middle last at_first at_middle at_last false true later on one two = absurd (let is = two.silent.1 in cc)
tells_more so_far text first middle last at_first at_middle at_last false false later on one two = record {
  part = subst (λ (x : Option (List ℕ)). WritesPart first (so_far ++ text) x) (sym two.silent.0) (WritesPart-longer first middle so_far text one.part);
  whole = tt;
  failed = rose_on at_first at_middle at_last one.failed on;
  silent = tt;
}

-- the texts so far were told, and then the next one
pub tells_step : (texts : List (List ℕ)) (i : ℕ) (item text : List ℕ) (first middle last : Option (List ℕ))
    (at_first at_middle at_last : ℕ) (well still : Bool)
    → i < length texts
    → item ≡ get_or texts i item
    → text ≡ item
    → at_first ≤ at_middle
    → at_middle ≤ at_last
    → TellsOn (concat (take i texts)) true first middle (Rose at_first at_middle) well
    → TellsOn text well middle last (Rose at_middle at_last) still
    → TellsOn (concat (take (i + 1) texts)) true first last (Rose at_first at_last) still
tells_step texts i item text first middle last at_first at_middle at_last well still lt is same later on one two =
    let P : List ℕ → Type 0 = λ x. TellsOn x true first last (Rose at_first at_last) still in
    subst P (ap (λ (x : List ℕ). concat (take i texts) ++ x) (same ∙ is) ∙ sym (concat-more texts i item lt))
    (tells_more (concat (take i texts)) text first middle last at_first at_middle at_last well still later on one two)

-- ---- the last text

-- a text that was told, as the last one
pub tells_last : (text : List ℕ) (well still : Bool) (old new : Option (List ℕ)) (rose : Type 0) → TellsOn text well old new rose still → TellsLast text well old new rose
tells_last text true true old new rose told = record { part = told.part; whole = inl told.whole; silent = tt }
tells_last text true false old new rose told = record { part = told.part; whole = inr told.failed; silent = tt }
tells_last text false still old new rose told = record { part = told.part; whole = tt; silent = told.silent.0 }

-- warnings, and then the last text, are one message
pub tells_message : (warnings text : List ℕ) (first middle last : Option (List ℕ)) (at_first at_middle at_last : ℕ) (well : Bool) → at_first ≤ at_middle → at_middle ≤ at_last
    → TellsOn warnings true first middle (Rose at_first at_middle) well → TellsLast text well middle last (Rose at_middle at_last)
    → TellsMessage (warnings ++ text) first last (Rose at_first at_last)
tells_message warnings text first middle last at_first at_middle at_last true later on one two = record {
  part = WritesPart-after first middle last warnings text one.whole two.part;
  whole = ⊎_elim
      (λ (wrote : last ≡ grown middle text). inl (wrote ∙ ap (λ (x : Option (List ℕ)). grown x text) one.whole ∙ grown-grown first warnings text))
      (λ (rose : Rose at_middle at_last). inr (rose_since at_first at_middle at_last later rose)) two.whole;
}
tells_message warnings text first middle last at_first at_middle at_last false later on one two = record {
  part = subst (λ (x : Option (List ℕ)). WritesPart first (warnings ++ text) x) (sym two.silent) (WritesPart-longer first middle warnings text one.part);
  whole = inr (rose_on at_first at_middle at_last one.failed on);
}

-- ---- the message of an outcome

-- what is told of an outcome, where the errors change so
abbrev pub ReportsOn : List ℕ → Result (Unit {0}) RunStop → Status → Bool → Option (List ℕ) → Option (List ℕ) → Type 0 → Type 0
ReportsOn text outcome ended well old new rose = Reports text outcome ended (λ t. TellsLast t well old new rose)

-- the text of an outcome was told
pub reports_told : (text made : List ℕ) (outcome : Result (Unit {0}) RunStop) (ended : Status) (well still : Bool) (old new : Option (List ℕ)) (rose : Type 0)
    → ended ≡ outcome_status outcome → made ≡ text → TellsOn made well old new rose still → ReportsOn text outcome ended well old new rose
reports_told text made outcome ended well still old new rose is same told =
    inl (is, subst (λ (t : List ℕ). TellsLast t well old new rose) same (tells_last made well still old new rose told))

-- memory was lacking for it
pub reports_untold : (text : List ℕ) (outcome : Result (Unit {0}) RunStop) (well still : Bool) (old new : Option (List ℕ))
    (rose : Type 0)
    → TellsOn no_memory_text well old new rose still
    → ReportsOn text outcome status.NoMemory well old new rose
reports_untold text outcome well still old new rose told = inr (refl, tells_last no_memory_text well still old new rose told)
