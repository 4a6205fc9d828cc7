-- Numbered entries in ascending parts, and the one ascending list of them all.
--
-- A merge of sorted runs, as in any textbook on external sorting (Knuth, The Art of Computer
-- Programming, volume 3, section 5.4.1). To try it on: the parts with the numbers 1, 4 and 0, 2
-- and an empty part have the numbers 1, 4, 0, 2 joined, and give 0, 1, 2, 4; no entry is numbered 3.
use Rattle.std.specs.Prelude.{ℕ, ◌==◌, List, Option, Vec, map, find}
use Rattle.std.specs.List.{flat_map}
use Rattle.std.specs.List.Sorted.{IsStrictlyIncreasing}
use Rattle.ordered_merge.specs.declared.numbered.Numbered.{Numbered}

-- the numbers of the entries, in their order
abbrev pub numbers : {T : Type 0} → List (Numbered T) → List ℕ
numbers entries = map (λ entry. entry.number) entries

-- the entries of all parts, one part after the other
abbrev pub joined : {T A : Type 0} → List (Vec (Numbered T) A) → List (Numbered T)
joined parts = flat_map (λ part. part.items) parts

-- each entry has a greater number than the one before it
abbrev pub Ascends : {T : Type 0} → List (Numbered T) → Type 0
Ascends entries = IsStrictlyIncreasing (numbers entries)

-- the first entry that has the number, or none
abbrev pub entry_of : {T : Type 0} → List (Numbered T) → ℕ → Option (Numbered T)
entry_of entries number = find (λ entry. entry.number == number) entries
