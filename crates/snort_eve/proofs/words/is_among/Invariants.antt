-- The name is among the files exactly if it is among those that are left.
use Rattle.std.proofs.Common.{◌≡◌, ℕ, Bool, List, drop, map}
use Rattle.std.specs.Prelude.{bytes_eq}
use Rattle.std.specs.List.{list_any}
use Rattle.std.specs.Borrow.{Bor}
use Rattle.snort_eve.proofs.words.is_among.Given as goal

abbrev among : List ℕ → List (Bor (List ℕ)) → Bool
among name files = list_any (λ file. bytes_eq file name) (map (λ (file : Bor (List ℕ)). file.now) files)

abbrev pub invariant-loop-file : goal.invariant-loop-file
invariant-loop-file l = among l.name (drop l.file-index l.files) ≡ among l.name l.files
