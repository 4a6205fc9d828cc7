-- A file that is loaded, or is not, and the reading of it.
use Rattle.std.proofs.Common.{◌≡◌, ℕ, zero, suc, ◌-◌, ◌<◌, ◌≤◌, cond, List, [], ◌∷◌, ◌++◌, length, Option, Some, None, Result, Err, refl, sym, ap, subst, ◌∙◌, arith, length-append}
use Rattle.std.proofs.lemmas.Bool.{le-leb, lt-leb}
use Rattle.std.specs.FinMap.{get}
use Rattle.edge_io.specs.Files.{Files, Holds, IsLonger}
use Rattle.edge_io.specs.declared.host.LoadFault.{LoadFault}
use Rattle.edge_io.specs.declared.host.LoadFault.TheVariants as load
use Rattle.conf_parser.specs.declared.line.ConfFault.{ConfFault}
use Rattle.conf_parser.specs.declared.line.ConfKind.TheVariants.{TooLarge}
use Rattle.conf_parser.specs.declared.reading.At.{At}
use Rattle.conf_parser.specs.declared.reading.Output.{Output}
use Rattle.conf_parser.specs.declared.reading.ReadSoFar.{ReadSoFar}
use Rattle.conf_parser.specs.declared.reading.Stopped.{Stopped}
use Rattle.conf_parser.specs.declared.reading.Stopped.TheVariants as stopped
use Rattle.conf_parser.specs.Reading.{Contents, Refused, Asks, fault_at, file_count, most_bytes, too_large, contents_read, file_read}
use Rattle.conf_parser.specs.Loading.{Tells, Goes, Stops, inner, opened_of, opened_count, opened_next, LoadsFile, output_before, StopsAtFile}
use Rattle.conf_parser.proofs.Readings.Goings.{seen_by, tells-seen_by}

-- ---- a file by its contents

-- the reading of a file, by what the contents say of it
file_read-is : (contents : Contents) (left : ℕ) (name : List ℕ) (at : At) (read : ReadSoFar) → left ≤ 16
    → file_read contents left name at read ≡ contents_read (inner contents left) (16 - left) name at read (contents (file_count read) name)
unfolding file_read
file_read-is contents zero name at read within = refl
file_read-is contents (suc left) name at read within =
    let depth : 15 - left ≡ 16 - suc left = omega arith in
    ap (λ d. contents_read (file_read contents left) d name at read (contents (file_count read) name)) depth

-- a file within the limit is read
contents-fit : (contents : Contents) (left : ℕ) (name : List ℕ) (at : At) (read : ReadSoFar) (bytes : List ℕ) → length bytes ≤ most_bytes
    → contents_read (inner contents left) (16 - left) name at read (Some bytes) ≡ opened_next left (opened_of left name read bytes) contents
unfolding contents_read
contents-fit contents left name at read bytes within =
    ap (λ b. cond b (opened_next left (opened_of left name read bytes) contents) (too_large at name read.output)) (le-leb (length bytes) most_bytes within)

-- a longer one is refused
contents-long : (contents : Contents) (left : ℕ) (name : List ℕ) (at : At) (read : ReadSoFar) (bytes : List ℕ) → most_bytes < length bytes
    → contents_read (inner contents left) (16 - left) name at read (Some bytes) ≡ Refused (fault_at at TooLarge) (output_before at name read.output)
unfolding contents_read
contents-long contents left name at read bytes long =
    ap (λ b. cond b (opened_next left (opened_of left name read bytes) contents) (too_large at name read.output)) (lt-leb (length bytes) most_bytes long)

-- a file that lacks is asked for
contents-none : (contents : Contents) (left : ℕ) (name : List ℕ) (at : At) (read : ReadSoFar) → contents_read (inner contents left) (16 - left) name at read None ≡ Asks name read.output
unfolding contents_read
contents-none contents left name at read = refl

-- ---- a file by its load

-- contents that a host may have which gave these bytes
abbrev gave : Option Files → List ℕ → Contents
gave None bytes number name = Some bytes
gave (Some files) bytes number name = get files name

tells-gave : (host : Option Files) (bytes : List ℕ) → Tells host (gave host bytes)
tells-gave None bytes = tt
tells-gave (Some files) bytes = λ number name. refl

gave-is : (host : Option Files) (number : ℕ) (name bytes : List ℕ) → Holds host name bytes → gave host bytes number name ≡ Some bytes
gave-is None number name bytes holds = refl
gave-is (Some files) number name bytes holds = holds

-- the file that comes next
one_more : (files : List (List ℕ)) (name : List ℕ) → length files < length (files ++ name ∷ [])
one_more files name =
    let one : length (name ∷ []) ≡ 1 = refl in
    omega (arith, length-append files (name ∷ []))

pub goes-opened : (host : Option Files) (left : ℕ) (name : List ℕ) (at : At) (read : ReadSoFar) (bytes : List ℕ) → left ≤ 16 → Holds host name bytes → length bytes ≤ most_bytes
    → Goes host (file_count read) (opened_count (opened_of left name read bytes)) (λ contents. file_read contents left name at read) (opened_next left (opened_of left name read bytes))
goes-opened host left name at read bytes within holds fits =
    let more : file_count read < opened_count (opened_of left name read bytes) = one_more read.output.files name in
    record {
      seen = gave host bytes;
      tells = tells-gave host bytes;
      later = omega (arith, more);
      goes = λ contents same.
          file_read-is contents left name at read within
          ∙ ap (contents_read (inner contents left) (16 - left) name at read) (same.at (file_count read) name (omega arith) more ∙ gave-is host (file_count read) name bytes holds)
          ∙ contents-fit contents left name at read bytes fits;
    }

-- a list longer than a number
longer : (n : ℕ) → (xs : List ℕ) × (n < length xs)
longer zero = (0 ∷ [], omega arith)
longer (suc n) = let more = longer n in (0 ∷ more.0, omega (arith, more.1))

-- the bytes of a file that is too long, as far as they are told
long_bytes : (host : Option Files) (name : List ℕ) → IsLonger host name most_bytes → (bytes : List ℕ) × (Holds host name bytes × (most_bytes < length bytes))
long_bytes None name long = let bytes = longer most_bytes in (bytes.0, (tt, bytes.1))
long_bytes (Some files) name long = (long.0, (long.1, long.2))

stops-long : (host : Option Files) (left : ℕ) (name : List ℕ) (at : At) (read : ReadSoFar) → left ≤ 16 → IsLonger host name most_bytes
    → Stops host (file_count read) (λ contents. file_read contents left name at read) (stopped.Refused (fault_at at TooLarge) (output_before at name read.output))
stops-long host left name at read within long =
    let told = long_bytes host name long in (
      suc (file_count read),
      record {
        seen = gave host told.0;
        tells = tells-gave host told.0;
        later = omega arith;
        goes = λ contents same.
            file_read-is contents left name at read within
            ∙ ap (contents_read (inner contents left) (16 - left) name at read) (same.at (file_count read) name (omega arith) (omega arith) ∙ gave-is host (file_count read) name told.0 told.1.0)
            ∙ contents-long contents left name at read told.0 told.1.1;
      },
    )

asks-missing : (host : Option Files) (left : ℕ) (name : List ℕ) (at : At) (read : ReadSoFar) → left ≤ 16
    → Stops host (file_count read) (λ contents. file_read contents left name at read) (stopped.Asks name read.output)
asks-missing host left name at read within = record {
  seen = seen_by host;
  tells = tells-seen_by host;
  later = omega arith;
  asks = λ contents same lacks.
      file_read-is contents left name at read within
      ∙ ap (contents_read (inner contents left) (16 - left) name at read) lacks
      ∙ contents-none contents left name at read;
}

-- an answer that is a fault
abbrev pub unloaded : LoadFault → Result (List ℕ) LoadFault
unloaded fault = Err fault

pub stops-unloaded : (host : Option Files) (left : ℕ) (name : List ℕ) (at : At) (read : ReadSoFar) (fault : LoadFault) (stop : Stopped) → left ≤ 16
    → LoadsFile host name (unloaded fault) → StopsAtFile name at read.output fault stop → Stops host (file_count read) (λ contents. file_read contents left name at read) stop
stops-unloaded host left name at read load.Failed stop within loads is =
    subst (λ (s : Stopped). Stops host (file_count read) (λ contents. file_read contents left name at read) s) (sym is) (asks-missing host left name at read within)
stops-unloaded host left name at read load.NoMemory stop within loads is =
    subst (λ (s : Stopped). Stops host (file_count read) (λ contents. file_read contents left name at read) s) (sym is) tt
stops-unloaded host left name at read load.TooLarge stopped.NoMemory within loads is = tt
stops-unloaded host left name at read load.TooLarge (stopped.Asks other before) within loads is = absurd is
stops-unloaded host left name at read load.TooLarge (stopped.Refused fault before) within loads is =
    subst (λ (f : ConfFault). Stops host (file_count read) (λ contents. file_read contents left name at read) (stopped.Refused f before)) (sym is.0)
    (subst (λ (o : Output). Stops host (file_count read) (λ contents. file_read contents left name at read) (stopped.Refused (fault_at at TooLarge) o)) (sym is.1)
    (stops-long host left name at read within loads))
