-- How a run ends, by how the copying of each of its files ends.
use Rattle.std.proofs.Common.{◌≡◌, ℕ, ◌+◌, ◌<◌, ◌≤◌, inl, List, [], ◌∷◌, ◌++◌, Option, None, Some, refl, sym, subst, ◌∙◌, ap, append_assoc, append-nil, get_or, map, take, drop, length}
use Rattle.std.specs.Prelude.{Result, Ok, Err, IfOk, OnErr, IsSome, IsErrOf}
use Rattle.std.specs.Borrow.{Bor}
use Rattle.edge_io.specs.Files.{Files, IsOpened}
use Rattle.edge_io.specs.Told.{grown}
use Rattle.edge_io.proofs.Told.{grown-nil, grown-grown}
use Rattle.snort_eve.specs.declared.form.Ending.{Ending}
use Rattle.snort_eve.specs.declared.form.Ending.TheVariants.{Done, Bad, NoLine}
use Rattle.snort_eve.specs.declared.copy.CopyStop.{CopyStop}
use Rattle.snort_eve.specs.declared.copy.CopyStop.TheVariants.{Unread, Unwritten, TooLong, NoMemory}
use Rattle.snort_eve.specs.declared.outcome.Outcome.{Outcome}
use Rattle.snort_eve.specs.declared.outcome.Outcome.TheVariants as outcome
use Rattle.snort_eve.specs.Copies.{Copies, Stops, IsLong}
use Rattle.snort_eve.specs.Forms.{Meaning}
use Rattle.snort_eve.specs.Endings.{of_records}
use Rattle.snort_eve.specs.Asking.{Asked, Since, Wanted, help, in_year, lines, of_capture}
use Rattle.snort_setup.specs.Words.{Words}
use Rattle.snort_eve.specs.Texts.{Texts}
use Rattle.snort_eve.specs.Runs.{AreLinesRun, IsCut, IsInputRun, IsLinesRun, line_of, IsFileRun, AreDone, EndsAt, AreRun, Writes, Runs, OnUnread, UnlessUnread, outcome_of}
use Rattle.std.proofs.lemmas.List.{drop_more, map-append, take-append-drop, take_all, take_more}
use Rattle.alert_json.specs.declared.line_year.YearFrom.{YearFrom}
use Rattle.alert_json.specs.declared.line_year.YearFrom.TheVariants.{Given}
use Rattle.snort_eve.specs.LineForms.{of_lines}
use Rattle.snort_eve.proofs.Recording.{nothing-begins}
use Rattle.snort_eve.proofs.LineForming.{no-lines}

-- ---- a file

-- the file was opened as the capture, by all files that agree
abbrev pub OpenedBy : List ℕ → (Files → Type 0) → (Files → Option (List ℕ)) → Type 0
OpenedBy name agrees from = (files : Files) → agrees files → IsOpened (Some files) name (from files)

-- what was written of a file of this name, by all files that agree
abbrev pub NamedRuns : Meaning → (Files → Type 0) → List ℕ → Option (List ℕ) → Option (List ℕ) → Outcome → Type 0
NamedRuns means agrees name old new ended = Writes agrees old new (λ files wrote. IsFileRun means files name wrote ended)

abbrev pub FileRuns : Meaning → (Files → Type 0) → Bor (List ℕ) → Option (List ℕ) → Option (List ℕ) → Outcome → Type 0
FileRuns means agrees name old new ended = Writes agrees old new (λ files wrote. IsFileRun means files name.now wrote ended)

record Present (left : Option (List ℕ)) : Type 0 where
  bytes : List ℕ
  is : left ≡ Some bytes

present : (left : Option (List ℕ)) → IsSome left → Present left
present None some = absurd cc
present (Some bytes) some = record { bytes = bytes; is = refl }

file-ending : (means : Meaning) (name : Bor (List ℕ)) (agrees : Files → Type 0) (from : Files → Option (List ℕ)) (old new : Option (List ℕ)) (ending : Ending)
    → OpenedBy name.now agrees from → Copies means agrees from old new ending → FileRuns means agrees name old new (outcome_of name (Ok ending))
file-ending means name agrees from old new ending opened copies =
    record { wrote = copies.wrote; told = copies.told; holds = λ files a. by files ending (opened files a) (copies.are files a) }
  where
    by : (files : Files) (e : Ending) → IsOpened (Some files) name.now (from files)
        → ((bytes : List ℕ) → from files ≡ Some bytes → means.ends bytes copies.wrote e) → IsFileRun means files name.now copies.wrote (outcome_of name (Ok e))
    by files Done was are =
        let here = present (from files) was.1 in
        record { bytes = here.bytes; has = sym was.0 ∙ here.is; holds = are here.bytes here.is }
    by files (Bad at) was are =
        let here = present (from files) was.1 in
        (refl, record { bytes = here.bytes; has = sym was.0 ∙ here.is; holds = are here.bytes here.is })
    by files (NoLine at) was are =
        let here = present (from files) was.1 in
        (refl, record { bytes = here.bytes; has = sym was.0 ∙ here.is; holds = are here.bytes here.is })

file-stop : (means : Meaning) (name : Bor (List ℕ)) (agrees : Files → Type 0) (from : Files → Option (List ℕ)) (old new : Option (List ℕ)) (stop : CopyStop)
    → OpenedBy name.now agrees from → Stops means agrees from old new → (stop ≡ TooLong → IsLong agrees from)
    → FileRuns means agrees name old new (outcome_of name (Err stop))
file-stop means name agrees from old new stop opened stops long =
    record { wrote = stops.wrote; told = stops.told; holds = λ files a. by files a stop long }
  where
    cut : (files : Files) → agrees files → IsCut means files name.now stops.wrote
    cut files a bytes has = stops.are files a bytes ((opened files a).0 ∙ has)

    by : (files : Files) → agrees files → (s : CopyStop) → (s ≡ TooLong → IsLong agrees from) → IsFileRun means files name.now stops.wrote (outcome_of name (Err s))
    by files a Unread large = (refl, cut files a)
    by files a Unwritten large = cut files a
    by files a TooLong large = (refl, (cut files a, λ bytes has. large refl files a bytes ((opened files a).0 ∙ has)))
    by files a NoMemory large = cut files a

-- by what copying answered
pub file-copied : (means : Meaning) (name : Bor (List ℕ)) (agrees : Files → Type 0) (from : Files → Option (List ℕ)) (old new : Option (List ℕ)) (copied : Result Ending CopyStop)
    → OpenedBy name.now agrees from → IfOk copied (λ (e : Ending). Copies means agrees from old new e) → OnErr copied (Stops means agrees from old new)
    → (IsErrOf copied TooLong → IsLong agrees from) → FileRuns means agrees name old new (outcome_of name copied)
file-copied means name agrees from old new (Ok ending) opened copies stops long = file-ending means name agrees from old new ending opened copies
file-copied means name agrees from old new (Err stop) opened copies stops long =
    file-stop means name agrees from old new stop opened stops (λ is. long (ap (λ (s : CopyStop). Err s) is))

-- a cause of a file that wasn't read, and what holds of all others
pub on-unread : (P : List ℕ → Type 0) (name : Bor (List ℕ)) (copied : Result Ending CopyStop) → (IsErrOf copied Unread → P name.now) → OnUnread (outcome_of name copied) P
on-unread P name (Ok Done) cause = tt
on-unread P name (Ok (Bad at)) cause = tt
on-unread P name (Ok (NoLine at)) cause = tt
on-unread P name (Err Unread) cause = cause refl
on-unread P name (Err Unwritten) cause = tt
on-unread P name (Err TooLong) cause = tt
on-unread P name (Err NoMemory) cause = tt

pub unless-unread : (P : Type 0) (name : Bor (List ℕ)) (copied : Result Ending CopyStop) → ((IsErrOf copied Unread → ⊥) → P) → UnlessUnread (outcome_of name copied) P
unless-unread P name (Ok Done) holds = holds (λ same. absurd cc)
unless-unread P name (Ok (Bad at)) holds = holds (λ same. absurd cc)
unless-unread P name (Ok (NoLine at)) holds = holds (λ same. absurd cc)
unless-unread P name (Err Unread) holds = tt
unless-unread P name (Err Unwritten) holds = holds (λ same. absurd cc)
unless-unread P name (Err TooLong) holds = holds (λ same. absurd cc)
unless-unread P name (Err NoMemory) holds = holds (λ same. absurd cc)

-- a weaker cause, and the same of something weaker
pub on-weaker : (P Q : List ℕ → Type 0) (ended : Outcome) → ((name : List ℕ) → P name → Q name) → OnUnread ended P → OnUnread ended Q
on-weaker P Q outcome.Done weaker cause = tt
on-weaker P Q outcome.Help weaker cause = tt
on-weaker P Q outcome.CommandLine weaker cause = tt
on-weaker P Q (outcome.Refused message) weaker cause = tt
on-weaker P Q (outcome.NoConf name) weaker cause = weaker name cause
on-weaker P Q (outcome.Bad name at) weaker cause = tt
on-weaker P Q (outcome.NoLine name at) weaker cause = tt
on-weaker P Q outcome.NoRecord weaker cause = tt
on-weaker P Q (outcome.BadCapture why) weaker cause = tt
on-weaker P Q (outcome.Unread name) weaker cause = weaker name.now cause
on-weaker P Q outcome.Unwritten weaker cause = tt
on-weaker P Q (outcome.TooLong name) weaker cause = tt
on-weaker P Q outcome.NoMemory weaker cause = tt

pub unless-weaker : (P Q : Type 0) (ended : Outcome) → (P → Q) → UnlessUnread ended P → UnlessUnread ended Q
unless-weaker P Q outcome.Done weaker holds = weaker holds
unless-weaker P Q outcome.Help weaker holds = weaker holds
unless-weaker P Q outcome.CommandLine weaker holds = weaker holds
unless-weaker P Q (outcome.Refused message) weaker holds = weaker holds
unless-weaker P Q (outcome.NoConf name) weaker holds = tt
unless-weaker P Q (outcome.Bad name at) weaker holds = weaker holds
unless-weaker P Q (outcome.NoLine name at) weaker holds = weaker holds
unless-weaker P Q outcome.NoRecord weaker holds = weaker holds
unless-weaker P Q (outcome.BadCapture why) weaker holds = weaker holds
unless-weaker P Q (outcome.Unread name) weaker holds = tt
unless-weaker P Q outcome.Unwritten weaker holds = weaker holds
unless-weaker P Q (outcome.TooLong name) weaker holds = weaker holds
unless-weaker P Q outcome.NoMemory weaker holds = weaker holds

-- where all of it was told
pub unless-done : (P : Type 0) (ended : Outcome) → ended ≡ outcome.Done → UnlessUnread ended P → P
unless-done P ended done holds = subst (λ (o : Outcome). UnlessUnread o P) done holds

pub other-end : (ended : Outcome) → ended ≡ outcome.Done → ended ≡ outcome.Unwritten → ⊥
other-end ended done unwritten =
    let same : outcome.Done ≡ outcome.Unwritten = sym done ∙ unwritten in
    absurd cc

-- the file wasn't opened
pub file-unopened : (means : Meaning) (agrees : Files → Type 0) (name : Bor (List ℕ)) (old : Option (List ℕ))
    → ((bytes : List ℕ) → means.begins bytes []) → FileRuns means agrees name old old (outcome.Unread name)
file-unopened means agrees name old none =
    record { wrote = []; told = sym (grown-nil old); holds = λ files a. (refl, λ bytes has. none bytes) }

-- ---- files

abbrev pub lent : List (Bor (List ℕ)) → List (List ℕ)
lent names = map (λ (name : Bor (List ℕ)). name.now) names

-- these files are done, by all files that agree
abbrev pub DoneBy : Meaning → (Files → Type 0) → List (List ℕ) → Option (List ℕ) → Option (List ℕ) → Type 0
DoneBy means agrees names old new = Writes agrees old new (λ files wrote. AreDone means files names wrote)

-- and a run over such files ended so
abbrev pub FilesRun : Meaning → (Files → Type 0) → List (Bor (List ℕ)) → Option (List ℕ) → Option (List ℕ) → Outcome → Type 0
FilesRun means agrees names old new ended = Writes agrees old new (λ files wrote. AreRun means files (lent names) wrote ended)

pub done-none : (means : Meaning) (agrees : Files → Type 0) (old : Option (List ℕ)) → DoneBy means agrees [] old old
done-none means agrees old = record { wrote = []; told = sym (grown-nil old); holds = λ files a. refl }

done-one : (means : Meaning) (files : Files) (names : List (List ℕ)) (name before now : List ℕ) → AreDone means files names before
    → IsFileRun means files name now outcome.Done → AreDone means files (names ++ name ∷ []) (before ++ now)
done-one means files [] name before now none done =
    (now, [], ap (λ (b : List ℕ). b ++ now) none ∙ sym (append-nil now), done, refl)
done-one means files (first ∷ names) name before now are done = (
  are.0,
  are.1 ++ now,
  ap (λ (b : List ℕ). b ++ now) are.2 ∙ append_assoc are.0 are.1 now,
  are.3,
  done-one means files names name are.1 now are.4 done,
)

lent-more : (names : List (Bor (List ℕ))) (i : ℕ) (d : Bor (List ℕ)) → i < length names
    → lent (take (i + 1) names) ≡ lent (take i names) ++ (get_or names i d).now ∷ []
lent-more names i d lt =
    ap lent (take_more names i d lt) ∙ map-append (λ (n : Bor (List ℕ)). n.now) (take i names) (get_or names i d ∷ [])

lent-split : (names : List (Bor (List ℕ))) (i : ℕ) → lent names ≡ lent (take i names) ++ lent (drop i names)
lent-split names i =
    ap lent (sym (take-append-drop i names)) ∙ map-append (λ (n : Bor (List ℕ)). n.now) (take i names) (drop i names)

both-told : (old mid new : Option (List ℕ)) (first second : List ℕ) → mid ≡ grown old first → new ≡ grown mid second → new ≡ grown old (first ++ second)
both-told old mid new first second is then = then ∙ ap (λ (o : Option (List ℕ)). grown o second) is ∙ grown-grown old first second

-- a file more is done
pub done-more : (means : Meaning) (agrees now_agrees : Files → Type 0) (names : List (Bor (List ℕ))) (i : ℕ) (d : Bor (List ℕ)) (name : List ℕ) (old mid new : Option (List ℕ)) (ended : Outcome)
    → i < length names → name ≡ (get_or names i d).now → DoneBy means agrees (lent (take i names)) old mid → ((files : Files) → now_agrees files → agrees files)
    → ended ≡ outcome.Done → NamedRuns means now_agrees name mid new ended → DoneBy means now_agrees (lent (take (i + 1) names)) old new
done-more means agrees now_agrees names i d name old mid new ended lt is so_far earlier done file = record {
  wrote = so_far.wrote ++ file.wrote;
  told = both-told old mid new so_far.wrote file.wrote so_far.told file.told;
  holds = λ files a.
      let now = subst (λ (o : Outcome). IsFileRun means files name file.wrote o) done (file.holds files a) in
      let all = done-one means files (lent (take i names)) name so_far.wrote file.wrote (so_far.holds files (earlier files a)) now in
      subst (λ (ns : List (List ℕ)). AreDone means files ns (so_far.wrote ++ file.wrote))
      (ap (λ (n : List ℕ). lent (take i names) ++ n ∷ []) is ∙ sym (lent-more names i d lt)) all;
}

-- or the run ended at this file
pub run-stops : (means : Meaning) (agrees now_agrees : Files → Type 0) (names : List (Bor (List ℕ))) (i : ℕ) (d : Bor (List ℕ)) (name : List ℕ) (old mid new : Option (List ℕ)) (ended : Outcome)
    → i < length names → name ≡ (get_or names i d).now → DoneBy means agrees (lent (take i names)) old mid → ((files : Files) → now_agrees files → agrees files)
    → (ended ≡ outcome.Done → ⊥) → NamedRuns means now_agrees name mid new ended → FilesRun means now_agrees names old new ended
run-stops means agrees now_agrees names i d name old mid new ended lt is so_far earlier other file =
    let left : lent (drop i names) ≡ name ∷ lent (drop (i + 1) names) =
    ap lent (drop_more names i d lt) ∙ ap (λ (n : List ℕ). n ∷ lent (drop (i + 1) names)) (sym is) in
    record {
      wrote = so_far.wrote ++ file.wrote;
      told = both-told old mid new so_far.wrote file.wrote so_far.told file.told;
      holds = λ files a. record {
        done = lent (take i names);
        left = lent (drop i names);
        names_are = lent-split names i;
        before = so_far.wrote;
        now = file.wrote;
        split = refl;
        are = so_far.holds files (earlier files a);
        last = subst (λ (ns : List (List ℕ)). EndsAt means files ns file.wrote ended) (sym left) (other, file.holds files a);
      };
    }

-- or all files are done
pub run-done : (means : Meaning) (agrees : Files → Type 0) (names : List (Bor (List ℕ))) (i : ℕ) (old new : Option (List ℕ)) → length names ≤ i
    → DoneBy means agrees (lent (take i names)) old new → FilesRun means agrees names old new outcome.Done
run-done means agrees names i old new all done = record {
  wrote = done.wrote;
  told = done.told;
  holds = λ files a. record {
    done = lent (take i names);
    left = [];
    names_are = ap lent (sym (take_all i names all)) ∙ sym (append-nil (lent (take i names)));
    before = done.wrote;
    now = [];
    split = sym (append-nil done.wrote);
    are = done.holds files a;
    last = (refl, tt);
  };
}

-- ---- a run

ends-unbegun : (means : Meaning) (files : Files) (names : List (List ℕ)) → ((bytes : List ℕ) → means.begins bytes [])
    → EndsAt means files names [] outcome.NoMemory
ends-unbegun means files [] none = (refl, tt)
ends-unbegun means files (name ∷ names) none = ((λ same. absurd cc), λ bytes has. none bytes)

abbrev no_texts : Texts
no_texts = record { message = λ mark. None; classes = [] }

lines-unbegun : (conf : Option Words) (wanted : Wanted) (files : Files) → IsLinesRun conf wanted files [] outcome.NoMemory
lines-unbegun (Some words) wanted files = inl (refl, tt)
lines-unbegun None wanted files = record {
  texts = no_texts;
  are = record { messages = λ mark. refl; classes_are = refl };
  run = record {
    done = [];
    left = wanted.files;
    names_are = refl;
    before = [];
    now = [];
    split = refl;
    are = refl;
    last = ends-unbegun (of_records (line_of no_texts wanted.run)) files wanted.files (λ bytes entries rest split. nothing-begins _);
  };
}

lines-from-unbegun : (from : YearFrom) (wanted : Wanted) (files : Files) → AreLinesRun from wanted files [] outcome.NoMemory
lines-from-unbegun from wanted files = record {
  done = [];
  left = wanted.files;
  names_are = refl;
  before = [];
  now = [];
  split = refl;
  are = refl;
  last = ends-unbegun (of_lines wanted.run from) files wanted.files (λ bytes. no-lines wanted.run from bytes);
}

input-unbegun : (since : Option Since) (wanted : Wanted) (files : Files) → IsInputRun since wanted files [] outcome.NoMemory
input-unbegun None wanted files = lines-unbegun wanted.conf wanted files
input-unbegun (Some (in_year year)) wanted files = lines-from-unbegun (Given year) wanted files
input-unbegun (Some (of_capture name)) wanted files = inl (refl, tt)

-- memory is lacking before the first file
pub run-unbegun : (asked : Option Asked) (agrees : Files → Type 0) (old : Option (List ℕ)) → Runs asked agrees old old outcome.NoMemory
run-unbegun None agrees old = record { wrote = []; told = sym (grown-nil old); holds = λ files a. (refl, tt) }
run-unbegun (Some help) agrees old = record { wrote = []; told = sym (grown-nil old); holds = λ files a. (refl, tt) }
run-unbegun (Some (lines wanted)) agrees old = record { wrote = []; told = sym (grown-nil old); holds = λ files a. input-unbegun wanted.since wanted files }

-- nothing is copied, by how the run ended
pub run-refused : (agrees : Files → Type 0) (old : Option (List ℕ)) → Runs None agrees old old outcome.CommandLine
run-refused agrees old = record { wrote = []; told = sym (grown-nil old); holds = λ files a. (refl, tt) }

pub run-help : (agrees : Files → Type 0) (old : Option (List ℕ)) → Runs (Some help) agrees old old outcome.Help
run-help agrees old = record { wrote = []; told = sym (grown-nil old); holds = λ files a. (refl, tt) }
