-- What each line keeps of the settings holds after all files; and each line handed on is in a file that
-- was read.
use Rattle.std.proofs.Common.{◌≡◌, ℕ, zero, suc, ◌+◌, ◌-◌, ◌<◌, ◌≤◌, Bool, true, false, cond, List, [], ◌∷◌, ◌++◌, length, Option, Some, None, Result, Ok, Err, refl, sym, subst, arith, length-append}
use Rattle.std.specs.Prelude.{⊤, nat_le}
use Rattle.net_lists.specs.Variables.{Variables}
use Rattle.conf_parser.specs.declared.draft.Settings.{Settings}
use Rattle.conf_parser.specs.declared.given.LineResult.{LineResult}
use Rattle.conf_parser.specs.declared.given.LineResult.TheVariants.{Nothing, Rule, Skipped, Include}
use Rattle.conf_parser.specs.declared.given.Onward.{Onward}
use Rattle.conf_parser.specs.declared.line.ConfKind.{ConfKind}
use Rattle.net_lists.specs.declared.lines.NumberedLine.{NumberedLine}
use Rattle.conf_parser.specs.declared.reading.At.{At}
use Rattle.conf_parser.specs.declared.reading.Output.{Output}
use Rattle.conf_parser.specs.declared.reading.ReadSoFar.{ReadSoFar}
use Rattle.conf_parser.specs.declared.reading.Source.{Source}
use Rattle.conf_parser.specs.Spots.{Spot}
use Rattle.conf_parser.specs.ConfLine.{conf_line}
use Rattle.conf_parser.specs.Reading.{Contents, Ended, Whole, Refused, Asks, Including, onward, file_count, with_file, with_rule}
use Rattle.conf_parser.specs.Reading.{with_warning, read_with, line_at, given_read, meaning_read, line_read, lines_read}
use Rattle.conf_parser.specs.Reading.{too_large, most_bytes, contents_read, file_read, nothing_read, read_files}

module _ (P : Settings → Type 0) where
  -- the property of what was read, where all of it was
  abbrev pub Onward-all : Ended → Type 0
  Onward-all (Whole read) = P read.settings
  Onward-all (Refused fault output) = ⊤
  Onward-all (Asks name output) = ⊤

  -- a line that is accepted keeps it
  abbrev pub LinesKeep : Type 0
  LinesKeep = (spot : Spot) (settings : Settings) (line : List ℕ) (after : Onward) → conf_line spot settings line ≡ Ok after → P settings → P after.settings

  -- an included file keeps it
  abbrev IncludesKeep : Including → Type 0
  IncludesKeep including = (name : List ℕ) (at : At) (read : ReadSoFar) → P read.settings → Onward-all (including name at read)

  onward-keeps : (ended : Ended) (next : ReadSoFar → Ended) → Onward-all ended → ((read : ReadSoFar) → P read.settings → Onward-all (next read)) → Onward-all (onward ended next)
  onward-keeps (Whole read) next p all = all read p
  onward-keeps (Refused fault output) next p all = tt
  onward-keeps (Asks name output) next p all = tt

  given-keeps : (including : Including) (source : Source) (line : NumberedLine) (settings : Settings) (output : Output)
      (given : LineResult)
      → IncludesKeep including
      → P settings
      → Onward-all (given_read including source line settings output given)
  given-keeps including source line settings output Nothing inner p = p
  given-keeps including source line settings output Rule inner p = p
  given-keeps including source line settings output (Skipped directive name) inner p = p
  given-keeps including source line settings output (Include name) inner p = inner name (line_at source line) (read_with settings output) p

  meaning-keeps : (including : Including) (source : Source) (line : NumberedLine) (output : Output) (meant : Result Onward ConfKind)
      → IncludesKeep including
      → ((after : Onward) → meant ≡ Ok after → P after.settings)
      → Onward-all (meaning_read including source line output meant)
  meaning-keeps including source line output (Ok after) inner all = given-keeps including source line after.settings output after.given inner (all after refl)
  meaning-keeps including source line output (Err kind) inner all = tt

  line-keeps : LinesKeep
      → (including : Including) (source : Source) (line : NumberedLine) (read : ReadSoFar)
      → IncludesKeep including
      → P read.settings
      → Onward-all (line_read including source line read)
  unfolding line_read
  line-keeps keeps including source line read inner p =
      meaning-keeps including source line read.output _ inner
      (λ after meant. keeps (record { file = source.name; depth = source.depth; files = file_count read }) read.settings line.text after meant p)

  lines-keep : LinesKeep
      → (including : Including) (source : Source) (lines : List NumberedLine) (read : ReadSoFar)
      → IncludesKeep including
      → P read.settings
      → Onward-all (lines_read including source lines read)
  unfolding lines_read
  lines-keep keeps including source [] read inner p = p
  lines-keep keeps including source (line ∷ rest) read inner p =
      onward-keeps (line_read including source line read) (lines_read including source rest) (line-keeps keeps including source line read inner p)
      (λ next q. lines-keep keeps including source rest next inner q)

  contents-keep : LinesKeep → (including : Including) (depth : ℕ) (name : List ℕ) (at : At) (read : ReadSoFar) (contents : Option (List ℕ)) → IncludesKeep including → P read.settings
      → Onward-all (contents_read including depth name at read contents)
  unfolding contents_read
  contents-keep keeps including depth name at read None inner p = tt
  contents-keep keeps including depth name at read (Some bytes) inner p = go (nat_le (length bytes) most_bytes) _ (lines-keep keeps including _ _ _ inner p)
    where
      go : (b : Bool) (ended : Ended) → Onward-all ended → Onward-all (cond b ended (too_large at name read.output))
      go true ended h = h
      go false ended h = tt

  file-keeps : LinesKeep → (contents : Contents) (left : ℕ) → IncludesKeep (file_read contents left)
  unfolding file_read
  file-keeps keeps contents zero = λ name at read p. contents-keep keeps (λ inner place before. Whole before) 16 name at read (contents (file_count read) name) (λ inner place before q. q) p
  file-keeps keeps contents (suc left) = λ name at read p. contents-keep keeps (file_read contents left) (15 - left) name at read (contents (file_count read) name) (file-keeps keeps contents left) p

  -- the whole reading keeps it
  pub reading-keeps : LinesKeep → (contents : Contents) (name : List ℕ) (variables : Variables) → P (nothing_read variables).settings → Onward-all (read_files contents name variables)
  unfolding read_files
  reading-keeps keeps contents name variables p = file-keeps keeps contents 16 name (record { file = 0; line = 0 }) (nothing_read variables) p

  -- what each line keeps holds after a reading that was whole
  pub whole-keeps : LinesKeep
      → (contents : Contents) (name : List ℕ) (variables : Variables) (read : ReadSoFar)
      → P (nothing_read variables).settings
      → read_files contents name variables ≡ Whole read
      → P read.settings
  whole-keeps keeps contents name variables read p whole = subst Onward-all whole (reading-keeps keeps contents name variables p)
