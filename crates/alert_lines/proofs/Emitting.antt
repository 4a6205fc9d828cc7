-- The laws of texts on their way to the sink.
use Rattle.std.proofs.Common.{◌≡◌, ℕ, ◌≤◌, List, [], ◌++◌, Option, Result, Ok, Err, take, refl, sym, ap, subst, append_assoc, ◌∙◌, arith}
use Rattle.std.specs.Prelude.{⊤, OnOk}
use Rattle.std.proofs.lemmas.Bool.Decides.{nat_tests}
use Rattle.std.proofs.lemmas.List.{append-nil}
use Rattle.edge_io.specs.Told.{grown, Rose}
use Rattle.edge_io.proofs.Told.{grown-nil, grown-grown}
use Rattle.alert_lines.specs.declared.fault.WriteFault.{WriteFault}
use Rattle.alert_lines.specs.declared.fault.WriteFault.TheVariants as write
use Rattle.alert_lines.specs.Written.{WritesPart}
use Rattle.alert_lines.specs.Gathering.{Gathers, Sending, Emits, EmitsAny, EmitsBy}
use Rattle.alert_lines.proofs.Prefixes.{WritesPart-after, WritesPart-longer, WritesPart-none, WritesPart-take}

-- ---- texts that wait in a block

-- a text came after the block, and waits
gathers_waits : (text : List ℕ) (old new : Sending) → new.block ≡ old.block ++ text → new.written ≡ old.written → Gathers text old new
gathers_waits text old new waits same = record { part = []; joined = sym waits; wrote = same ∙ sym (grown-nil old.written) }

-- a text came, and then another one
gathers_both : (first second : List ℕ) (old middle new : Sending) → Gathers first old middle → Gathers second middle new → Gathers (first ++ second) old new
gathers_both first second old middle new one two = record {
  part = one.part ++ two.part;
  joined = sym (append_assoc old.block first second)
      ∙ ap (λ (x : List ℕ). x ++ second) one.joined
      ∙ append_assoc one.part middle.block second
      ∙ ap (λ (x : List ℕ). one.part ++ x) two.joined
      ∙ sym (append_assoc one.part two.part new.block);
  wrote = two.wrote ∙ ap (λ (x : Option (List ℕ)). grown x two.part) one.wrote ∙ grown-grown old.written one.part two.part;
}

-- a text came, and then a part of what waits and of another text was written
gathers_part : (first second : List ℕ) (old middle : Sending) (new : Option (List ℕ)) → Gathers first old middle → WritesPart middle.written (middle.block ++ second) new
    → WritesPart old.written (old.block ++ (first ++ second)) new
gathers_part first second old middle new one part =
    let joined : one.part ++ (middle.block ++ second) ≡ old.block ++ (first ++ second) =
    sym (append_assoc one.part middle.block second) ∙ ap (λ (x : List ℕ). x ++ second) (sym one.joined) ∙ append_assoc old.block first second in
    subst (λ (x : List ℕ). WritesPart old.written x new) joined (WritesPart-after old.written middle.written new one.part (middle.block ++ second) one.wrote part)

-- where no text waits before and afterwards, it was written
pub gathers_settled : (text : List ℕ) (old new : Sending) → old.block ≡ [] → new.block ≡ [] → Gathers text old new → new.written ≡ grown old.written text
gathers_settled text old new before after came =
    came.wrote ∙ ap (grown old.written)
    (sym (append-nil came.part) ∙ ap (λ (x : List ℕ). came.part ++ x) (sym after) ∙ sym came.joined ∙ ap (λ (x : List ℕ). x ++ text) before)

-- ---- one step

-- a text is on its way
wholly : {Known A : Type 0} {text : Known → List ℕ} {old new : Sending} {done : A} → ((known : Known) → Gathers (text known) old new) → new.faults ≡ old.faults → EmitsBy text old new (Ok done)
wholly whole quiet = record { whole = whole; part = tt; fault = λ is. absurd cc; quiet = quiet; later = omega (arith, quiet) }

-- a part of a text was written, and the step was stopped
partly : {Known A : Type 0} {text : Known → List ℕ} {old new : Sending} {why : WriteFault} → ((known : Known) → WritesPart old.written (old.block ++ text known) new.written)
    → (why ≡ write.Unwritten → Rose old.faults new.faults) → old.faults ≤ new.faults → EmitsBy {A = A} text old new (Err why)
partly part fault later = record { whole = tt; part = part; fault = λ is. fault cc; quiet = tt; later = later }

-- a text came after those that wait
pub emits_waits : (text : List ℕ) (old new : Sending) → new.block ≡ old.block ++ text → new.written ≡ old.written → new.faults ≡ old.faults → Emits {A = Unit {0}} text old new (Ok tt)
emits_waits text old new waits written faults = wholly (λ known. gathers_waits text old new waits written) faults

-- no text came
pub emits_none : {Known A : Type 0} {text : Known → List ℕ} {done : A} (old : Sending) → ((known : Known) → text known ≡ []) → EmitsBy text old old (Ok done)
emits_none {text = text} old none =
    wholly (λ known. gathers_waits (text known) old old (sym (append-nil old.block) ∙ ap (λ (x : List ℕ). old.block ++ x) (sym (none known))) refl) refl

-- nothing was written of a text, for want of memory
pub emits_nothing : {Known A : Type 0} (text : Known → List ℕ) (old new : Sending) → new.written ≡ old.written → new.faults ≡ old.faults → EmitsBy {A = A} text old new (Err write.NoMemory)
emits_nothing text old new written faults =
    partly (λ known. subst (λ (x : Option (List ℕ)). WritesPart old.written (old.block ++ text known) x) (sym written) (WritesPart-none old.written (old.block ++ text known)))
    (λ is. absurd cc) (omega (arith, faults))

-- all that waits was offered, and a part of it was written
pub offered_part : {A : Type 0} (old new : Sending) (count : ℕ) → new.written ≡ grown old.written (take count old.block) → Rose old.faults new.faults → old.faults ≤ new.faults
    → Emits {A = A} [] old new (Err write.Unwritten)
offered_part old new count wrote rose later =
    partly (λ known. WritesPart-longer old.written new.written old.block [] (WritesPart-take old.written new.written count old.block wrote)) (λ is. rose) later

-- ---- a step and then another one

-- a text came, and then another one, or a part of it
pub emits_then : {Known First Second A B : Type 0} {first : First → List ℕ} {second : Second → List ℕ} {text : Known → List ℕ} {old middle new : Sending} {done : A} {outcome : Result B WriteFault}
    → EmitsBy first old middle (Ok done) → EmitsBy second middle new outcome
    → ((known : Known) → (i : First) × (j : Second) × (text known ≡ first i ++ second j)) → EmitsBy text old new outcome
emits_then {first = first} {second = second} {old = old} {middle = middle} {new = new} {outcome = Ok more} one two joins =
    wholly
    (λ known. let p = joins known in
    subst (λ (x : List ℕ). Gathers x old new) (sym p.2) (gathers_both (first p.0) (second p.1) old middle new (one.whole p.0) (two.whole p.1)))
    (two.quiet ∙ one.quiet)
emits_then {first = first} {second = second} {old = old} {middle = middle} {new = new} {outcome = Err why} one two joins =
    let same = one.quiet in
    let later = two.later in
    partly
    (λ known. let p = joins known in
    subst (λ (x : List ℕ). WritesPart old.written (old.block ++ x) new.written) (sym p.2) (gathers_part (first p.0) (second p.1) old middle new.written (one.whole p.0) (two.part p.1)))
    (λ is. let rose = two.fault (ap Err is) in grind (arith, nat_tests, rose, same)) (omega (arith, same, later))

-- a part of a text is one of a longer text
pub emits_longer : {Known First A B : Type 0} {first : First → List ℕ} {text : Known → List ℕ} {old new : Sending} {why : WriteFault}
    → EmitsBy {A = A} first old new (Err why) → ((known : Known) → (i : First) × (rest : List ℕ) × (text known ≡ first i ++ rest)) → EmitsBy {A = B} text old new (Err why)
emits_longer {first = first} {old = old} {new = new} one joins =
    partly
    (λ known. let p = joins known in
    subst (λ (x : List ℕ). WritesPart old.written x new.written) (append_assoc old.block (first p.0) p.1 ∙ ap (λ (x : List ℕ). old.block ++ x) (sym p.2))
    (WritesPart-longer old.written new.written (old.block ++ first p.0) p.1 (one.part p.0)))
    (λ is. one.fault (ap Err is)) one.later

-- a text that is on its way, said otherwise, and whatever is told with it
pub emits_told : {Known First A B : Type 0} {first : First → List ℕ} {text : Known → List ℕ} {old new : Sending} {done : A} {more : B}
    → EmitsBy first old new (Ok done) → ((known : Known) → (i : First) × (text known ≡ first i)) → EmitsBy text old new (Ok more)
emits_told {new = new} one same = emits_then one (emits_none {Known = ⊤} {text = λ nothing. []} new (λ nothing. refl)) (λ known. let p = same known in (p.0, tt, p.1 ∙ sym (append-nil _)))

pub emits_stopped : {Known First A B : Type 0} {first : First → List ℕ} {text : Known → List ℕ} {old new : Sending} {why : WriteFault}
    → EmitsBy {A = A} first old new (Err why) → ((known : Known) → (i : First) × (text known ≡ first i)) → EmitsBy {A = B} text old new (Err why)
emits_stopped one same = emits_longer one (λ known. let p = same known in (p.0, [], p.1 ∙ sym (append-nil _)))

pub emits_same : {Known First A : Type 0} {first : First → List ℕ} {text : Known → List ℕ} {old new : Sending} {outcome : Result A WriteFault}
    → EmitsBy first old new outcome → ((known : Known) → (i : First) × (text known ≡ first i)) → EmitsBy text old new outcome
emits_same {outcome = Ok done} one same = emits_told one same
emits_same {outcome = Err why} one same = emits_stopped one same

-- a text came, and then memory was lacking
pub emits_lacking : {Known First A B : Type 0} {first : First → List ℕ} {text : Known → List ℕ} {old new : Sending} {done : A}
    → EmitsBy first old new (Ok done) → ((known : Known) → (i : First) × (rest : List ℕ) × (text known ≡ first i ++ rest)) → EmitsBy {A = B} text old new (Err write.NoMemory)
emits_lacking {new = new} one joins = emits_then one (emits_nothing (λ (rest : List ℕ). rest) new new refl refl) joins

-- two texts that go by nothing else, one after the other
pub emits_both : {A B : Type 0} {first second text : List ℕ} {old middle new : Sending} {done : A} {outcome : Result B WriteFault}
    → Emits first old middle (Ok done) → Emits second middle new outcome → text ≡ first ++ second → Emits text old new outcome
emits_both one two is = emits_then one two (λ known. (tt, tt, is))

-- two texts that nobody knows, one after the other
pub any_then : {A B : Type 0} {old middle new : Sending} {done : A} {outcome : Result B WriteFault} → EmitsAny old middle (Ok done) → EmitsAny middle new outcome → EmitsAny old new outcome
any_then one two = emits_then one two (λ none. absurd none)

-- ---- without the blocks

abbrev pub emptied : Sending → Sending
emptied now = record { written = now.written; block = []; faults = now.faults }

-- a text that is on its way, where no text waits before, nor afterwards
pub emits_settled : {Known A : Type 0} {text : Known → List ℕ} (outcome : Result A WriteFault) (old new : Sending) → old.block ≡ [] → OnOk outcome (new.block ≡ [])
    → EmitsBy text old new outcome → EmitsBy text (emptied old) (emptied new) outcome
emits_settled {text = text} (Ok done) old new before after one =
    wholly
    (λ known. let came = one.whole known in
    record { part = came.part; joined = ap (λ (x : List ℕ). x ++ text known) (sym before) ∙ came.joined ∙ ap (λ (x : List ℕ). came.part ++ x) after; wrote = came.wrote })
    one.quiet
emits_settled {text = text} (Err why) old new before after one =
    partly (λ known. subst (λ (x : List ℕ). WritesPart old.written (x ++ text known) new.written) before (one.part known)) (λ is. one.fault (ap Err is)) one.later

-- how a step ended, whatever its text was
pub emits_any : {First A : Type 0} {first : First → List ℕ} {old new : Sending} {outcome : Result A WriteFault} → EmitsBy first old new outcome → EmitsAny (emptied old) (emptied new) outcome
emits_any {outcome = Ok done} one = wholly (λ none. absurd none) one.quiet
emits_any {outcome = Err why} one = partly (λ none. absurd none) (λ is. one.fault (ap Err is)) one.later
