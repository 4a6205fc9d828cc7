-- With the names that are left, the files so far are all of them.
use Rattle.std.proofs.Common.{◌≡◌, ◌++◌, ℕ, List, drop, map}
use Rattle.std.specs.Borrow.{Bor}
use Rattle.snort_eve.specs.Asking.{file_of}
use Rattle.snort_eve.proofs.words.push_files.Given as goal

abbrev lent : List (Bor (List ℕ)) → List (List ℕ)
lent names = map (λ (name : Bor (List ℕ)). name.now) names

abbrev pub invariant-loop-name : goal.invariant-loop-name
invariant-loop-name l =
    lent l.files.items ++ map file_of (lent (drop l.name-index l.names)) ≡ lent l.fn.files.items ++ map file_of (lent l.names)
