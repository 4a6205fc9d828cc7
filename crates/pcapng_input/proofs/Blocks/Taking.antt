-- What pieces of bytes that were taken say, one after the other.
use Rattle.std.proofs.Common.{◌≡◌, ℕ, ◌+◌, ◌-◌, ◌≤◌, Bool, List, [], ◌++◌, Option, Some, None, length, sym, ap, ◌∙◌, arith}
use Rattle.std.specs.Prelude.{◌==◌}
use Rattle.std.proofs.lemmas.List.{length-append}
use Rattle.pcap_input.specs.Savefile.{number_at}
use Rattle.edge_io.specs.Told.{before, NothingLeft}
use Rattle.edge_io.proofs.Told.{before-before}
use Rattle.pcap_input.proofs.Told.{none_taken}
use Rattle.pcapng_input.specs.declared.capture.NgFault.{NgFault}
use Rattle.pcapng_input.specs.declared.capture.NgFault.TheVariants as fault
use Rattle.pcapng_input.specs.Steps.{TakesLess, TakesBytes, TakesLast}

-- bytes after bytes
pub took_after : (front back : List ℕ) (old mid new : Option (List ℕ)) → old ≡ before front mid → mid ≡ before back new → old ≡ before (front ++ back) new
took_after front back old mid new one two = one ∙ ap (before front) two ∙ before-before front back new

-- a piece that was cut short, after bytes that were taken
pub less_after : (place len more : ℕ) (why : NgFault) (front : List ℕ) (old mid new : Option (List ℕ))
    → old ≡ before front mid → TakesLess place len why mid new → length front + len ≤ more → TakesLess place more why old new
less_after place len more why front old mid new took less fits = record {
  taken = front ++ less.taken;
  took = took_after front less.taken old mid new took less.took;
  less = omega (arith, length-append front less.taken, less.less);
  cut = less.cut;
}

-- a piece that was cut short is a longer one that was
pub less_within : (place len more : ℕ) (why : NgFault) (old new : Option (List ℕ)) → len ≤ more → TakesLess place len why old new → TakesLess place more why old new
less_within place len more why old new fits less =
    record { taken = less.taken; took = less.took; less = omega (arith, less.less); cut = less.cut }

-- memory lacked where a byte was wanted, and none was taken
pub lacking_less : (place len : ℕ) (old : Option (List ℕ)) → (len ≡ 0 → ⊥) → TakesLess place len fault.NoMemory old old
lacking_less place len old some = record { taken = []; took = none_taken old; less = omega (arith, some); cut = tt }

-- no bytes yet, and a piece after others
pub bytes_start : (count left : ℕ) (old : Option (List ℕ)) → left ≡ count → TakesBytes (count - left) old old
bytes_start count left old same = record { taken = []; took = none_taken old; size = omega arith }

pub bytes_more : (len total : ℕ) (piece : List ℕ) (old mid new : Option (List ℕ)) → TakesBytes len old mid → mid ≡ before piece new → len + length piece ≡ total → TakesBytes total old new
bytes_more len total piece old mid new so_far took is = record {
  taken = so_far.taken ++ piece;
  took = took_after so_far.taken piece old mid new so_far.took took;
  size = omega (arith, length-append so_far.taken piece, so_far.size);
}

-- a piece, and the four bytes after it
pub last_after : (swapped : Bool) (total len number : ℕ) (last : List ℕ) (old mid new : Option (List ℕ)) → TakesBytes len old mid → mid ≡ before last new
    → length last ≡ 4 → number ≡ number_at swapped 0 4 last → TakesLast swapped total len (number == total) old new
last_after swapped total len number last old mid new passed took four is = record {
  passed = passed.taken;
  last = last;
  took = took_after passed.taken last old mid new passed.took took;
  size = passed.size;
  four = four;
  tells = ap (λ (n : ℕ). n == total) (sym is);
}

pub last_same : (swapped : Bool) (total len : ℕ) (same is : Bool) (old new : Option (List ℕ)) → same ≡ is → TakesLast swapped total len same old new → TakesLast swapped total len is old new
last_same swapped total len same is old new equal last =
    record { passed = last.passed; last = last.last; took = last.took; size = last.size; four = last.four; tells = last.tells ∙ equal }

-- where nothing is left, what is told is nothing
pub nothing_rest : (new : Option (List ℕ)) (rest : List ℕ) → NothingLeft new → new ≡ Some rest → rest ≡ []
nothing_rest None rest nothing told = cc
nothing_rest (Some left) rest nothing told = cc
