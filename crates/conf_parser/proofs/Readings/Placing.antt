-- Each line that a reading hands on is in a file that was read.
use Rattle.std.proofs.Common.{◌≡◌, ℕ, zero, suc, ◌+◌, ◌-◌, ◌<◌, ◌≤◌, Bool, true, false, cond, List, [], ◌∷◌, ◌++◌, length, Option}
use Rattle.std.proofs.Common.{Some, None, Result, Ok, Err, refl, sym, ap, subst, ◌∙◌, inl, inr, arith, length-append}
use Rattle.std.specs.Prelude.{⊤, ◌⊎◌, nat_le, All}
use Rattle.std.proofs.lemmas.List.Elements.{All-append}
use Rattle.std.proofs.lemmas.Bool.Decides.{nat_tests}
use Rattle.edge_io.specs.Files.{Files}
use Rattle.net_lists.specs.Variables.{Variables}
use Rattle.conf_parser.specs.declared.draft.Settings.{Settings}
use Rattle.conf_parser.specs.declared.given.LineResult.{LineResult}
use Rattle.conf_parser.specs.declared.given.LineResult.TheVariants.{Nothing, Rule, Skipped, Include}
use Rattle.conf_parser.specs.declared.given.Onward.{Onward}
use Rattle.conf_parser.specs.declared.line.ConfFault.{ConfFault}
use Rattle.conf_parser.specs.declared.line.ConfKind.{ConfKind}
use Rattle.conf_parser.specs.declared.line.Line.{Line}
use Rattle.conf_parser.specs.declared.line.Warning.{Warning}
use Rattle.conf_parser.specs.declared.line.LoadStop.{LoadStop}
use Rattle.conf_parser.specs.declared.line.LoadStop.TheVariants as stop
use Rattle.net_lists.specs.declared.lines.NumberedLine.{NumberedLine}
use Rattle.conf_parser.specs.declared.loaded.Loaded.{Loaded}
use Rattle.conf_parser.specs.declared.reading.At.{At}
use Rattle.conf_parser.specs.declared.reading.Output.{Output}
use Rattle.conf_parser.specs.declared.reading.ReadSoFar.{ReadSoFar}
use Rattle.conf_parser.specs.declared.reading.Source.{Source}
use Rattle.conf_parser.specs.ConfLine.{conf_line}
use Rattle.conf_parser.specs.Lines.{content_lines}
use Rattle.conf_parser.specs.Reading.{Contents, Ended, Whole, Refused, Asks, Including, onward, file_count, with_file, with_rule}
use Rattle.conf_parser.specs.Reading.{with_warning, read_with, line_at, given_read, meaning_read, line_read, lines_read}
use Rattle.conf_parser.specs.Reading.{too_large, most_bytes, contents_read, file_read, nothing_read, read_files}
use Rattle.conf_parser.specs.Loaded.{loaded_of}
use Rattle.conf_parser.specs.Loading.{AreHandedOut, IsLoading, first_files}
use Rattle.conf_parser.specs.Places.{WarningsAreIn, RulesAreIn, LieInFiles}

-- what is handed on is in its files
record AreIn (output : Output) : Type 0 where
  rules : RulesAreIn (length output.files) output.rules
  warnings : WarningsAreIn (length output.files) output.warnings

-- one element
all_one : {X : Type 0} (P : X → Type 0) (x : X) → P x → All P (x ∷ [])
all_one P x p zero d within = p
all_one P x p (suc k) d within = absurd (never k within)
  where
    never : (n : ℕ) → suc n < length (x ∷ []) → ⊥
    never n h = omega arith

more_files : (files : List (List ℕ)) (name : List ℕ) → length files < length (files ++ name ∷ [])
more_files files name =
    let one : length (name ∷ []) ≡ 1 = refl in
    omega (arith, length-append files (name ∷ []))

with_file-in : (output : Output) (name : List ℕ) → AreIn output → AreIn (with_file output name)
with_file-in output name h =
    let more : length output.files < length (output.files ++ name ∷ []) = more_files output.files name in
    record {
      rules = λ k d within. let low = h.rules k d within in omega (arith, low, more);
      warnings = λ k d within. let low = h.warnings k d within in omega (arith, low, more);
    }

with_rule-in : (output : Output) (source : Source) (line : NumberedLine) → source.place < length output.files → AreIn output → AreIn (with_rule output source line)
with_rule-in output source line place h = record {
  rules = All-append (λ (rule : Line). rule.file < length output.files) output.rules _ h.rules (all_one (λ (rule : Line). rule.file < length output.files) _ place);
  warnings = h.warnings;
}

with_warning-in : (output : Output) (source : Source) (line : NumberedLine) (directive name : List ℕ)
    → source.place < length output.files
    → AreIn output
    → AreIn (with_warning output source line directive name)
with_warning-in output source line directive name place h = record {
  rules = h.rules;
  warnings = All-append (λ (warning : Warning). warning.file < length output.files) output.warnings _ h.warnings (all_one (λ (warning : Warning). warning.file < length output.files) _ place);
}

-- how a reading ends after `count` files, with what it hands on in its files
EndsIn : ℕ → Ended → Type 0
EndsIn count (Whole read) = (count ≤ file_count read) × AreIn read.output
EndsIn count (Refused fault output) = (fault.file < length output.files) × AreIn output
EndsIn count (Asks name output) = AreIn output

-- the place of the first file itself, or of a line in a file that was read
IsPlaced : ℕ → At → Type 0
IsPlaced count at = (at.file < count) ⊎ ((at.file ≡ 0) × (at.line ≡ 0))

IncludesIn : Including → Type 0
IncludesIn including = (name : List ℕ) (at : At) (read : ReadSoFar) → IsPlaced (file_count read) at → AreIn read.output → EndsIn (file_count read) (including name at read)

onward-in : (low : ℕ) (ended : Ended) (next : ReadSoFar → Ended)
    → EndsIn low ended
    → ((read : ReadSoFar) → low ≤ file_count read → AreIn read.output → EndsIn low (next read))
    → EndsIn low (onward ended next)
unfolding EndsIn
onward-in low (Whole read) next h all = all read h.0 h.1
onward-in low (Refused fault output) next h all = h
onward-in low (Asks name output) next h all = h

-- what a reading ends with after some files, it ends with after fewer
ends-earlier : (low high : ℕ) (ended : Ended) → low ≤ high → EndsIn high ended → EndsIn low ended
unfolding EndsIn
ends-earlier low high (Whole read) l h = (omega (arith, h.0), h.1)
ends-earlier low high (Refused fault output) l h = h
ends-earlier low high (Asks name output) l h = h

given-in : (including : Including) (source : Source) (line : NumberedLine) (settings : Settings) (output : Output) (given : LineResult)
    → IncludesIn including
    → source.place < length output.files
    → AreIn output
    → EndsIn (length output.files) (given_read including source line settings output given)
unfolding EndsIn IncludesIn IsPlaced
given-in including source line settings output Nothing inner place h = (omega arith, h)
given-in including source line settings output Rule inner place h = (omega arith, with_rule-in output source line place h)
given-in including source line settings output (Skipped directive name) inner place h = (omega arith, with_warning-in output source line directive name place h)
given-in including source line settings output (Include name) inner place h = inner name (line_at source line) (read_with settings output) (inl place) h

meaning-in : (including : Including) (source : Source) (line : NumberedLine) (output : Output) (meant : Result Onward ConfKind)
    → IncludesIn including
    → source.place < length output.files
    → AreIn output
    → EndsIn (length output.files) (meaning_read including source line output meant)
unfolding EndsIn
meaning-in including source line output (Ok after) inner place h = given-in including source line after.settings output after.given inner place h
meaning-in including source line output (Err kind) inner place h = (place, h)

line-in : (including : Including) (source : Source) (line : NumberedLine) (read : ReadSoFar)
    → IncludesIn including
    → source.place < file_count read
    → AreIn read.output
    → EndsIn (file_count read) (line_read including source line read)
unfolding line_read
line-in including source line read inner place h = meaning-in including source line read.output _ inner place h

lines-in : (including : Including) (source : Source) (lines : List NumberedLine) (read : ReadSoFar)
    → IncludesIn including
    → source.place < file_count read
    → AreIn read.output
    → EndsIn (file_count read) (lines_read including source lines read)
unfolding lines_read EndsIn
lines-in including source [] read inner place h = (omega arith, h)
lines-in including source (line ∷ rest) read inner place h =
    onward-in (file_count read) (line_read including source line read) (lines_read including source rest) (line-in including source line read inner place h)
    (λ next later g. ends-earlier (file_count read) (file_count next) (lines_read including source rest next) later (lines-in including source rest next inner (omega (arith, later, place)) g))

too_large-in : (name : List ℕ) (at : At) (output : Output) → IsPlaced (length output.files) at → AreIn output → EndsIn (length output.files) (too_large at name output)
unfolding EndsIn IsPlaced
too_large-in name at output (inl place) h = go (nat_le 1 at.line)
  where
    go : (b : Bool) → (at.file < length ((cond b output (with_file output name)).files)) × AreIn (cond b output (with_file output name))
    go true = (place, h)
    go false = (omega (arith, place, more_files output.files name), with_file-in output name h)
too_large-in name at output (inr first) h =
    let own : nat_le 1 at.line ≡ false = ap (λ n. nat_le 1 n) first.1 in
    subst (λ b. (at.file < length ((cond b output (with_file output name)).files)) × AreIn (cond b output (with_file output name))) (sym own)
    (omega (arith, first.0, more_files output.files name), with_file-in output name h)

contents-in : (including : Including) (depth : ℕ) (name : List ℕ) (at : At) (read : ReadSoFar) (contents : Option (List ℕ)) → IncludesIn including → IsPlaced (file_count read) at → AreIn read.output
    → EndsIn (file_count read) (contents_read including depth name at read contents)
unfolding contents_read EndsIn
contents-in including depth name at read None inner placed h = h
contents-in including depth name at read (Some bytes) inner placed h =
    let more : file_count read < length (read.output.files ++ name ∷ []) = more_files read.output.files name in
    go (nat_le (length bytes) most_bytes) _
    (ends-earlier (file_count read) (length (read.output.files ++ name ∷ [])) _ (omega (arith, more))
    (lines-in including (record { name = name; place = file_count read; depth = depth })
    (content_lines bytes)
    (read_with read.settings (with_file read.output name)) inner more
    (with_file-in read.output name h)))
  where
    go : (b : Bool) (ended : Ended) → EndsIn (file_count read) ended → EndsIn (file_count read) (cond b ended (too_large at name read.output))
    go true ended e = e
    go false ended e = too_large-in name at read.output placed h

file-in : (contents : Contents) (left : ℕ) → IncludesIn (file_read contents left)
unfolding file_read IncludesIn EndsIn
file-in contents zero = λ name at read placed h.
    contents-in (λ inner place before. Whole before) 16 name at read (contents (file_count read) name)
    (λ inner place before p g. (omega arith, g)) placed h
file-in contents (suc left) = λ name at read placed h. contents-in (file_read contents left) (15 - left) name at read (contents (file_count read) name) (file-in contents left) placed h

nothing-in : (variables : Variables) → AreIn (nothing_read variables).output
nothing-in variables = record {
  rules = λ k d within. absurd (never k within);
  warnings = λ k d within. absurd (never k within);
}
  where
    never : (n : ℕ) → n < 0 → ⊥
    never n h = omega arith

reading-in : (contents : Contents) (name : List ℕ) (variables : Variables) → EndsIn 0 (read_files contents name variables)
unfolding read_files IncludesIn IsPlaced
reading-in contents name variables = file-in contents 16 name (record { file = 0; line = 0 }) (nothing_read variables) (inr (refl, refl)) (nothing-in variables)

-- what is handed out is in the files there
warnings-out : (output : Output) (out : Loaded) → AreIn output → AreHandedOut output out → WarningsAreIn (length out.files) out.warnings
warnings-out output out h hands =
    subst (λ (files : List (List ℕ)). WarningsAreIn (length files) out.warnings) (sym hands.files)
    (subst (λ (warnings : List Warning). WarningsAreIn (length output.files) warnings) (sym hands.warnings) h.warnings)

pub hold-in : {A : Type 0} (host : Option Files) (name : List ℕ) (before : Variables) (result : Result A LoadStop)
    (vars : Variables) (out : Loaded)
    → IsLoading host name before result vars out
    → LieInFiles result out
unfolding EndsIn
hold-in host name before (Ok x) vars out loading =
    let h = subst (EndsIn 0) loading.ends.whole (reading-in loading.seen name before) in
    subst (λ (o : Loaded). RulesAreIn (length o.files) o.rules × WarningsAreIn (length o.files) o.warnings) (sym loading.ends.out_is) (h.1.rules, h.1.warnings)
hold-in host name before (Err (stop.Conf fault)) vars out loading =
    let h = subst (EndsIn 0) loading.ends.1 (reading-in loading.seen name before) in
    (subst (λ (files : List (List ℕ)). fault.file < length files) (sym loading.ends.2.files) h.0, warnings-out loading.ends.0 out h.1 loading.ends.2)
hold-in host name before (Err (stop.HostFailed file)) vars out loading =
    let h = subst (EndsIn 0) loading.ends.1 (reading-in (first_files (length out.files) loading.seen) name before) in
    warnings-out loading.ends.0 out h loading.ends.2
hold-in host name before (Err stop.NoMemory) vars out loading = tt
