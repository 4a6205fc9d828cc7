-- From the reading of all files to what a loading answers and hands out.
use Rattle.std.proofs.Common.{◌≡◌, ℕ, ◌<◌, ◌≤◌, true, false, cond, ltb, List, length, Option, Some, None, Result, Ok, Err, refl, sym, ap, subst, ◌∙◌, inl, inr, arith, lit<}
use Rattle.std.specs.Prelude.{⊤, ◌⊎◌}
use Rattle.std.proofs.lemmas.Bool.{lt-ltb, le-ltb}
use Rattle.std.specs.FinMap.{get}
use Rattle.std.specs.Str.{IsUtf8}
use Rattle.std.proofs.lemmas.Str.{is_utf8-from_IsUtf8}
use Rattle.edge_io.specs.Files.{Files, Lacks}
use Rattle.net_lists.specs.Variables.{Variables}
use Rattle.conf_parser.specs.declared.line.LoadStop.{LoadStop}
use Rattle.conf_parser.specs.declared.line.LoadStop.TheVariants as stop
use Rattle.conf_parser.specs.declared.loaded.Loaded.{Loaded}
use Rattle.conf_parser.specs.declared.reading.Output.{Output}
use Rattle.conf_parser.specs.declared.reading.ReadSoFar.{ReadSoFar}
use Rattle.conf_parser.specs.declared.reading.Stopped.{Stopped}
use Rattle.conf_parser.specs.declared.reading.Stopped.TheVariants as stopped
use Rattle.conf_parser.specs.Reading.{Contents, told, Ended, Whole, Refused, Asks, file_count, file_read, nothing_read, read_files}
use Rattle.conf_parser.specs.declared.reading.At.{At}
use Rattle.conf_parser.specs.Steps.{MayBeRead}
use Rattle.conf_parser.specs.Loaded.{loaded_of}
use Rattle.conf_parser.proofs.Readings.Goings.{seen_by, tells-seen_by}
use Rattle.conf_parser.specs.Loading.{Tells, AreSame, Goes, AsksFor, Stops, GoesOn, HasCause, whole_next, AreHandedOut, IsWhole, Ends, first_files, IsLoading, EndsUnlessFailed, HandsOut, HasFailed}

-- the reading of all files
abbrev pub reading_of : List ℕ → Variables → Contents → Ended
reading_of name before contents = file_read contents 16 name (record { file = 0; line = 0 }) (nothing_read before)

read_files-is : (contents : Contents) (name : List ℕ) (before : Variables) → read_files contents name before ≡ reading_of name before contents
unfolding read_files
read_files-is contents name before = refl

same-seen : (low high : ℕ) (seen : Contents) → AreSame low high seen seen
same-seen low high seen = record { at = λ number name l h. refl }

-- told files are the contents that were seen
same-told : (low high : ℕ) (host : Option Files) (files : Files) (seen : Contents) → host ≡ Some files → Tells host seen → AreSame low high seen (told files)
same-told low high host files seen is tells =
    let all = subst (λ (h : Option Files). Tells h seen) is tells in
    record { at = λ number name l h. sym (all number name) }

-- the first files alone are those that were seen
same-first : (count high : ℕ) (seen : Contents) → count ≡ high → AreSame 0 high seen (first_files count seen)
same-first count high seen e = record { at = λ number name l h. ap (λ b. cond b (seen number name) None) (lt-ltb number count (omega (arith, e, h))) }

none-after : (count high : ℕ) (seen : Contents) (name : List ℕ) → count ≡ high → first_files count seen high name ≡ None
none-after count high seen name e = ap (λ b. cond b (seen high name) None) (le-ltb high count (omega (arith, e)))

-- ---- whole

pub loading-whole : {A : Type 0} (x : A) (host : Option Files) (high : ℕ) (name : List ℕ) (before : Variables) (read : ReadSoFar) (vars : Variables) (out : Loaded)
    → Goes host 0 high (reading_of name before) (whole_next read) → vars ≡ read.settings.vars → out ≡ loaded_of read → IsLoading host name before (Ok x) vars out
loading-whole x host high name before read vars out goes v o = record {
  seen = goes.seen;
  tells = goes.tells;
  ends = record { read = read; whole = read_files-is goes.seen name before ∙ goes.goes goes.seen (same-seen 0 high goes.seen); vars_are = v; out_is = o };
}

pub told-whole : {A : Type 0} (x : A) (rose : Type 0) (host : Option Files) (files : Files) (high : ℕ) (name : List ℕ) (before : Variables) (read : ReadSoFar) (vars : Variables) (out : Loaded)
    → host ≡ Some files → Goes host 0 high (reading_of name before) (whole_next read) → vars ≡ read.settings.vars → out ≡ loaded_of read
    → EndsUnlessFailed rose (read_files (told files) name before) (Ok x) vars out
told-whole x rose host files high name before read vars out is goes v o = record {
  read = read;
  whole = read_files-is (told files) name before ∙ goes.goes (told files) (same-told 0 high host files goes.seen is goes.tells);
  vars_are = v;
  out_is = o;
}

-- ---- stopped

pub loading-stopped : (A : Type 0) (host : Option Files) (name : List ℕ) (before : Variables) (stop : Stopped) (answer : LoadStop) (vars : Variables) (out : Loaded)
    → Stops host 0 (reading_of name before) stop → HandsOut stop answer out → IsLoading {A = A} host name before (Err answer) vars out
loading-stopped A host name before (stopped.Refused fault output) answer vars out stops hands =
    subst (λ (a : LoadStop). IsLoading {A = A} host name before (Err a) vars out) (sym hands.0) (record {
      seen = stops.1.seen;
      tells = stops.1.tells;
      ends = (output, read_files-is stops.1.seen name before ∙ stops.1.goes stops.1.seen (same-seen 0 stops.0 stops.1.seen), hands.1);
    })
loading-stopped A host name before (stopped.Asks file output) answer vars out stops hands =
    let count : length out.files ≡ length output.files = ap length hands.1.files in
    subst (λ (a : LoadStop). IsLoading {A = A} host name before (Err a) vars out) (sym hands.0) (record {
      seen = stops.seen;
      tells = stops.tells;
      ends = (
        output,
        read_files-is (first_files (length out.files) stops.seen) name before
            ∙ stops.asks (first_files (length out.files) stops.seen)
            (same-first (length out.files) (length output.files) stops.seen count)
            (none-after (length out.files) (length output.files) stops.seen file count),
        hands.1,
      );
    })
loading-stopped A host name before stopped.NoMemory answer vars out stops hands =
    subst (λ (a : LoadStop). IsLoading {A = A} host name before (Err a) vars out) (sym hands) (record { seen = seen_by host; tells = tells-seen_by host; ends = tt })

pub told-stopped : (A : Type 0) (rose : Type 0) (host : Option Files) (files : Files) (name : List ℕ) (before : Variables) (stop : Stopped) (answer : LoadStop) (vars : Variables) (out : Loaded)
    → host ≡ Some files → Stops host 0 (reading_of name before) stop → HasCause rose host stop → HandsOut stop answer out
    → EndsUnlessFailed {A = A} rose (read_files (told files) name before) (Err answer) vars out
told-stopped A rose host files name before (stopped.Refused fault output) answer vars out is stops cause hands =
    subst (λ (a : LoadStop). EndsUnlessFailed {A = A} rose (read_files (told files) name before) (Err a) vars out) (sym hands.0)
    (output, read_files-is (told files) name before ∙ stops.1.goes (told files) (same-told 0 stops.0 host files stops.1.seen is stops.1.tells), hands.1)
told-stopped A rose host files name before (stopped.Asks file output) answer vars out is stops (inl failed) hands =
    subst (λ (a : LoadStop). EndsUnlessFailed {A = A} rose (read_files (told files) name before) (Err a) vars out) (sym hands.0) (inl failed)
told-stopped A rose host files name before (stopped.Asks file output) answer vars out is stops (inr lacks) hands =
    subst (λ (a : LoadStop). EndsUnlessFailed {A = A} rose (read_files (told files) name before) (Err a) vars out) (sym hands.0)
    (inr (
      output,
      read_files-is (told files) name before
          ∙ stops.asks (told files) (same-told 0 (length output.files) host files stops.seen is stops.tells) (subst (λ (h : Option Files). Lacks h file) is lacks),
      hands.1,
    ))
told-stopped A rose host files name before stopped.NoMemory answer vars out is stops cause hands =
    subst (λ (a : LoadStop). EndsUnlessFailed {A = A} rose (read_files (told files) name before) (Err a) vars out) (sym hands) tt

-- the cause of an answer
pub failed-stopped : (rose : Type 0) (host : Option Files) (stop : Stopped) (answer : LoadStop) (out : Loaded) → HasCause rose host stop → HandsOut stop answer out → HasFailed rose host answer
failed-stopped rose host (stopped.Refused fault output) answer out cause hands = subst (HasFailed rose host) (sym hands.0) tt
failed-stopped rose host (stopped.Asks name output) answer out cause hands = subst (HasFailed rose host) (sym hands.0) cause
failed-stopped rose host stopped.NoMemory answer out cause hands = subst (HasFailed rose host) (sym hands) tt

-- ---- the first file

-- the first file may be read
pub first-may : (name first : List ℕ) (vars : Variables) (before : ReadSoFar) → first ≡ name → before ≡ nothing_read vars → IsUtf8 name → MayBeRead (file_count before) first
first-may name first vars before n b text =
    subst (λ (f : List ℕ). MayBeRead (file_count before) f) (sym n)
    (subst (λ (r : ReadSoFar). MayBeRead (file_count r) name) (sym b) (record { text = is_utf8-from_IsUtf8 name text; few = lit< tt }))

-- the place of the first file
abbrev pub start : At
start = record { file = 0; line = 0 }

-- the reading of the first file is that of all files
pub first-goes : (host : Option Files) (name first : List ℕ) (vars : Variables) (before : ReadSoFar) (result : Result ReadSoFar Stopped) → first ≡ name → before ≡ nothing_read vars
    → GoesOn host (file_count before) file_count whole_next (λ contents. file_read contents 16 first start before) result
    → GoesOn host 0 file_count whole_next (reading_of name vars) result
first-goes host name first vars before result n b x =
    subst (λ (r : ReadSoFar). GoesOn host (file_count r) file_count whole_next (λ contents. file_read contents 16 name start r) result) b
    (subst (λ (f : List ℕ). GoesOn host (file_count before) file_count whole_next (λ contents. file_read contents 16 f start before) result) n x)

-- an answer that is whole, and one that is not
abbrev pub whole : ReadSoFar → Result ReadSoFar Stopped
whole read = Ok read

abbrev pub stopped_at : Stopped → Result ReadSoFar Stopped
stopped_at stop = Err stop
