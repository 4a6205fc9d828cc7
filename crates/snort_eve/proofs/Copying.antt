-- A file that is copied piece by piece, and what was written of it, whatever form of input it has.
use Rattle.std.proofs.Common.{◌≡◌, ℕ, ◌+◌, ◌≤◌, inl, inr, take, drop, List, [], ◌++◌, Option, None, Some, length, refl, sym, ap, ◌∙◌, subst, append_assoc, append-nil, length-append, arith, ◌^◌}
use Rattle.std.specs.Prelude.{Result, Ok, Err, IfOk, OnErr, unwrap_or}
use Rattle.std.proofs.lemmas.List.{take-append-drop, length-take}
use Rattle.edge_io.specs.Files.{Files}
use Rattle.edge_io.specs.Told.{before, grown, NothingLeft}
use Rattle.edge_io.proofs.Told.{before-nil, grown-nil, before-before, grown-grown}
use Rattle.snort_eve.specs.declared.copy.CopyStop.{CopyStop}
use Rattle.snort_eve.specs.declared.form.Ending.{Ending}
use Rattle.snort_eve.specs.Forms.{Adds, BeginsWith, Closes, Gives, IsLast, Meaning}
use Rattle.snort_eve.specs.Copies.{BreaksIn, BreaksLast, Comes, Copies, IsLong, IsOver, Point, Stops, Tells, Took, point}

-- what stays of a host that was only read from
abbrev Earlier : (Files → Type 0) → (Files → Type 0) → Type 0
Earlier agrees now_agrees = (files : Files) → now_agrees files → agrees files

-- nothing came yet
pub come-start : (means : Meaning) (came : List ℕ → List ℕ → Type 0) (agrees : Files → Type 0) (from : Files → Option (List ℕ)) (begun : Option (List ℕ))
    → came [] [] → ((bytes : List ℕ) → means.begins bytes []) → Comes means from begun (point came agrees from 0 begun)
come-start means came agrees from begun nothing none = record {
  taken = [];
  took = λ files a. sym (before-nil (from files));
  wrote = [];
  come = nothing;
  parts = λ more. none more;
  told = sym (grown-nil begun);
  read_is = refl;
}

-- bytes came between two states of a host
took-more : (agrees now_agrees : Files → Type 0) (from mid to : Files → Option (List ℕ)) (taken piece : List ℕ) → Took agrees from mid taken
    → Earlier agrees now_agrees → Took now_agrees mid to piece → Took now_agrees from to (taken ++ piece)
took-more agrees now_agrees from mid to taken piece took earlier more files a =
    took files (earlier files a) ∙ ap (before taken) (more files a) ∙ before-before taken piece (to files)

-- a piece more
pub come-step : (means : Meaning) (here next : Point) (from : Files → Option (List ℕ)) (begun : Option (List ℕ)) (piece : List ℕ) → Comes means from begun here
    → Earlier here.agrees next.agrees → Took next.agrees here.left next.left piece → Tells here.written next.written (Gives here.came next.came means piece)
    → next.read ≡ here.read + length piece → Comes means from begun next
come-step means here next from begun piece comes earlier took passes counted = record {
  taken = comes.taken ++ piece;
  took = took-more here.agrees next.agrees from here.left next.left comes.taken piece comes.took earlier took;
  wrote = comes.wrote ++ passes.wrote;
  come = passes.holds.goes comes.taken comes.wrote comes.come;
  parts = passes.holds.parts comes.taken comes.wrote passes.wrote comes.come (record { rest = []; is = sym (append-nil passes.wrote) });
  told = passes.told ∙ ap (λ (o : Option (List ℕ)). grown o passes.wrote) comes.told ∙ grown-grown begun comes.wrote passes.wrote;
  read_is = omega (arith, counted, comes.read_is, length-append comes.taken piece);
}

-- nothing more: the same, by the files that agree now
pub come-same : (means : Meaning) (came : List ℕ → List ℕ → Type 0) (agrees now_agrees : Files → Type 0) (from mid to : Files → Option (List ℕ)) (read : ℕ) (begun old : Option (List ℕ))
    → Comes means from begun (point came agrees mid read old) → Earlier agrees now_agrees → Took now_agrees mid to [] → Comes means from begun (point came now_agrees to read old)
come-same means came agrees now_agrees from mid to read begun old comes earlier took = record {
  taken = comes.taken;
  took = λ files a. comes.took files (earlier files a) ∙ ap (before comes.taken) (took files a ∙ before-nil (to files));
  wrote = comes.wrote;
  come = comes.come;
  parts = comes.parts;
  told = comes.told;
  read_is = comes.read_is;
}

-- the bytes of a file are those that came, and those that are left
record Splits (bytes taken : List ℕ) (left : Option (List ℕ)) : Type 0 where
  more : List ℕ
  is : bytes ≡ taken ++ more
  left_is : left ≡ Some more

inside : (x y : List ℕ) → Some x ≡ Some y → x ≡ y
inside x y same = ap (λ (o : Option (List ℕ)). unwrap_or o []) same

splits : (bytes taken : List ℕ) (from to : Option (List ℕ)) → from ≡ Some bytes → from ≡ before taken to → Splits bytes taken to
unfolding before
splits bytes taken from None is took = absurd cc
splits bytes taken from (Some more) is took = record { more = more; is = inside bytes (taken ++ more) (sym is ∙ took); left_is = refl }

-- copying stopped, and nothing was written since
pub stop-now : (means : Meaning) (here : Point) (now_agrees : Files → Type 0) (from to : Files → Option (List ℕ)) (begun new : Option (List ℕ)) (piece : List ℕ)
    → Comes means from begun here → Earlier here.agrees now_agrees → Took now_agrees here.left to piece → new ≡ here.written → Stops means now_agrees from begun new
stop-now means here now_agrees from to begun new piece comes earlier took same = record {
  wrote = comes.wrote;
  told = same ∙ comes.told;
  are = λ files a bytes is.
      let all = splits bytes (comes.taken ++ piece) (from files) (to files) is (took-more here.agrees now_agrees from here.left to comes.taken piece comes.took earlier took files a) in
      subst (λ (b : List ℕ). means.begins b comes.wrote) (sym (all.is ∙ append_assoc comes.taken piece all.more)) (comes.parts (piece ++ all.more));
}

-- or a beginning of a piece's lines was
pub stop-part : (means : Meaning) (here : Point) (now_agrees : Files → Type 0) (from to : Files → Option (List ℕ)) (begun new : Option (List ℕ)) (piece : List ℕ)
    → Comes means from begun here → Earlier here.agrees now_agrees → Took now_agrees here.left to piece → Tells here.written new (BreaksIn here.came means piece)
    → Stops means now_agrees from begun new
stop-part means here now_agrees from to begun new piece comes earlier took breaks = record {
  wrote = comes.wrote ++ breaks.wrote;
  told = breaks.told ∙ ap (λ (o : Option (List ℕ)). grown o breaks.wrote) comes.told ∙ grown-grown begun comes.wrote breaks.wrote;
  are = λ files a bytes is.
      let all = splits bytes (comes.taken ++ piece) (from files) (to files) is (took-more here.agrees now_agrees from here.left to comes.taken piece comes.took earlier took files a) in
      subst (λ (b : List ℕ). means.begins b (comes.wrote ++ breaks.wrote)) (sym all.is) (breaks.holds comes.taken comes.wrote comes.come comes.parts all.more);
}

-- what is left of the file follows, or makes no difference
last-of : (foreign : Type 0) (agrees : Files → Type 0) (to : Files → Option (List ℕ)) (files : Files) (more : List ℕ) → IsOver foreign agrees to
    → agrees files → to files ≡ Some more → IsLast foreign more
last-of foreign agrees to files more (inl over) a is = inl over
last-of foreign agrees to files more (inr end) a is = inr (subst NothingLeft is (end files a))

-- the file was copied to its end
copy-end : (means : Meaning) (here : Point) (foreign : Type 0) (from : Files → Option (List ℕ)) (begun new : Option (List ℕ)) (ending : Ending) → Comes means from begun here
    → IsOver foreign here.agrees here.left → Tells here.written new (Closes here.came foreign means here.read ending) → Copies means here.agrees from begun new ending
copy-end means here foreign from begun new ending comes over last = record {
  wrote = comes.wrote ++ last.wrote;
  told = last.told ∙ ap (λ (o : Option (List ℕ)). grown o last.wrote) comes.told ∙ grown-grown begun comes.wrote last.wrote;
  are = λ files a bytes is.
      let all = splits bytes comes.taken (from files) (here.left files) is (comes.took files a) in
      subst (λ (b : List ℕ). means.ends b (comes.wrote ++ last.wrote) ending) (sym all.is)
      (last.holds.whole comes.taken comes.wrote all.more comes.come (last-of foreign here.agrees here.left files all.more over a all.left_is) comes.read_is);
}

-- or stopped at the last lines
pub stop-last : (means : Meaning) (here : Point) (foreign : Type 0) (from : Files → Option (List ℕ)) (begun new : Option (List ℕ)) → Comes means from begun here
    → IsOver foreign here.agrees here.left → Tells here.written new (BreaksLast here.came foreign means) → Stops means here.agrees from begun new
stop-last means here foreign from begun new comes over breaks = record {
  wrote = comes.wrote ++ breaks.wrote;
  told = breaks.told ∙ ap (λ (o : Option (List ℕ)). grown o breaks.wrote) comes.told ∙ grown-grown begun comes.wrote breaks.wrote;
  are = λ files a bytes is.
      let all = splits bytes comes.taken (from files) (here.left files) is (comes.took files a) in
      subst (λ (b : List ℕ). means.begins b (comes.wrote ++ breaks.wrote)) (sym all.is)
      (breaks.holds comes.taken comes.wrote all.more comes.come comes.parts (last-of foreign here.agrees here.left files all.more over a all.left_is));
}

-- nothing was begun
pub stop-start : (means : Meaning) (agrees : Files → Type 0) (from : Files → Option (List ℕ)) (begun : Option (List ℕ)) → ((bytes : List ℕ) → means.begins bytes [])
    → Stops means agrees from begun begun
stop-start means agrees from begun none = record { wrote = []; told = sym (grown-nil begun); are = λ files a bytes is. none bytes }

-- whatever an error is
pub on_err : {T E P : Type 0} (r : Result T E) → P → OnErr r P
on_err (Ok x) p = tt
on_err (Err e) p = p

-- lines that were added to none are all
all-added : (none bytes lines : List ℕ) → none ≡ [] → bytes ≡ none ++ lines → bytes ≡ lines
all-added none bytes lines empty added = added ∙ ap (λ (n : List ℕ). n ++ lines) empty

part-begins : (lines bytes : List ℕ) (count : ℕ) → bytes ≡ lines → BeginsWith lines (take count bytes)
part-begins lines bytes count same =
    subst (λ (b : List ℕ). BeginsWith lines (take count b)) (sym same) (record { rest = drop count lines; is = sym (take-append-drop count lines) })

-- lines that were added to none were written
pub all-written : (Holds : List ℕ → Type 0) (none lines bytes : List ℕ) (old new : Option (List ℕ)) → none ≡ [] → Adds none lines Holds → bytes ≡ lines → new ≡ grown old bytes
    → Tells old new Holds
all-written Holds none lines bytes old new empty given is told = record {
  wrote = given.lines;
  holds = given.holds;
  told = told ∙ ap (grown old) (is ∙ all-added none lines given.lines empty given.added);
}

-- a write of a piece's lines failed, or wasn't begun
pub piece-broken : (was now : List ℕ → List ℕ → Type 0) (means : Meaning) (piece none lines bytes : List ℕ) (count : ℕ) (old new : Option (List ℕ)) → none ≡ []
    → Adds none lines (Gives was now means piece) → bytes ≡ lines → new ≡ grown old (take count bytes) → Tells old new (BreaksIn was means piece)
piece-broken was now means piece none lines bytes count old new empty given is told = record {
  wrote = take count bytes;
  holds = λ seen earlier came begun.
      given.holds.parts seen earlier (take count bytes) came (part-begins given.lines bytes count (is ∙ all-added none lines given.lines empty given.added));
  told = told;
}

pub piece-unbegun : (was : List ℕ → List ℕ → Type 0) (means : Meaning) (piece : List ℕ) (old : Option (List ℕ)) → Tells old old (BreaksIn was means piece)
piece-unbegun was means piece old = record {
  wrote = [];
  holds = λ seen earlier came begun more.
      subst (λ (w : List ℕ). means.begins ((seen ++ piece) ++ more) w) (sym (append-nil earlier))
      (subst (λ (b : List ℕ). means.begins b earlier) (sym (append_assoc seen piece more)) (begun (piece ++ more)));
  told = sym (grown-nil old);
}

-- a write of the last lines failed, or wasn't begun
pub last-broken : (came : List ℕ → List ℕ → Type 0) (foreign : Type 0) (means : Meaning) (read : ℕ) (ending : Ending) (none lines bytes : List ℕ) (count : ℕ) (old new : Option (List ℕ)) → none ≡ []
    → Adds none lines (Closes came foreign means read ending) → bytes ≡ lines → new ≡ grown old (take count bytes) → Tells old new (BreaksLast came foreign means)
last-broken came foreign means read ending none lines bytes count old new empty given is told = record {
  wrote = take count bytes;
  holds = λ seen earlier more come begun last.
      given.holds.parts seen earlier more (take count bytes) come last
      (part-begins given.lines bytes count (is ∙ all-added none lines given.lines empty given.added));
  told = told;
}

pub last-unbegun : (came : List ℕ → List ℕ → Type 0) (foreign : Type 0) (means : Meaning) (old : Option (List ℕ)) → Tells old old (BreaksLast came foreign means)
last-unbegun came foreign means old = record {
  wrote = [];
  holds = λ seen earlier more come begun last. subst (λ (w : List ℕ). means.begins (seen ++ more) w) (sym (append-nil earlier)) (begun more);
  told = sym (grown-nil old);
}

-- what a read took has as many bytes as it says
pub length-taken : (bytes : List ℕ) (count read now : ℕ) → count ≤ length bytes → now ≡ read + count → now ≡ read + length (take count bytes)
length-taken bytes count read now within counted = omega (arith, within, counted, length-take count bytes)

-- by how the last lines were written
pub copied-last : (means : Meaning) (here : Point) (foreign : Type 0) (from : Files → Option (List ℕ)) (begun new : Option (List ℕ)) (result : Result Ending CopyStop) → Comes means from begun here
    → IsOver foreign here.agrees here.left → IfOk result (λ (e : Ending). Tells here.written new (Closes here.came foreign means here.read e))
    → IfOk result (λ (e : Ending). Copies means here.agrees from begun new e)
copied-last means here foreign from begun new (Ok ending) comes over last = copy-end means here foreign from begun new ending comes over last
copied-last means here foreign from begun new (Err stop) comes over last = tt

-- the same error, whatever a call gives else
abbrev or_stop : {A : Type 0} → Result A CopyStop → CopyStop → CopyStop
or_stop (Ok x) other = other
or_stop (Err stop) other = stop

pub other-stop : {A B : Type 0} (r : Result A CopyStop) (q : Result B CopyStop) (stop named : CopyStop) → r ≡ Err stop → q ≡ Err stop → r ≡ Err named → q ≡ Err named
other-stop {A} {B} r q stop named is also same = also ∙ ap (λ (s : CopyStop). Err s) (ap (λ (x : Result A CopyStop). or_stop x stop) (sym is ∙ same))

-- a file that begins with so many bytes has as many
pub long-taken : (means : Meaning) (here : Point) (now_agrees : Files → Type 0) (from to : Files → Option (List ℕ)) (begun : Option (List ℕ)) (bytes : List ℕ) (count : ℕ)
    → Comes means from begun here → Earlier here.agrees now_agrees → Took now_agrees here.left to (take count bytes) → count ≤ length bytes → 2 ^ 64 ≤ here.read + count
    → IsLong now_agrees from
long-taken means here now_agrees from to begun bytes count comes earlier took within large files a all is =
    let piece = take count bytes in
    let parts = splits all (comes.taken ++ piece) (from files) (to files) is (took-more here.agrees now_agrees from here.left to comes.taken piece comes.took earlier took files a) in
    omega (arith, large, within, comes.read_is, ap length parts.is, length-append (comes.taken ++ piece) parts.more, length-append comes.taken piece, length-take count bytes)
