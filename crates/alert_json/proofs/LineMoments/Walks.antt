-- Alert lines one after another: the front of bytes, a line more, and the end.
use Rattle.std.proofs.Common.{◌≡◌, ℕ, ◌+◌, ◌-◌, ◌<◌, ◌≤◌, inl, inr, List, [], ◌∷◌, ◌++◌, length, take, drop, refl, sym, ap, ◌∙◌, subst, append_assoc, append-nil, length-append, arith}
use Rattle.std.specs.Prelude.{Result, Ok, Err, IfOk}
use Rattle.std.specs.List.{concat}
use Rattle.std.proofs.lemmas.List.{length-take, length-drop, take-append-drop, take_at, take_rest}
use Rattle.std.proofs.lemmas.List.Folds.{concat-append}
use Rattle.std.proofs.Math.Seq.{take-add}
use Rattle.alert_fast.specs.Fronts.{IsWord, Lacks}
use Rattle.alert_fast.proofs.ReadBack.Fronts.{first_same, rest_same, word_only, lacks-none}
use Rattle.edge_io.specs.declared.fault.NoMemory.{NoMemory}
use Rattle.alert_json.specs.declared.line_walk.LinesTaken.{LinesTaken}
use Rattle.alert_json.specs.declared.line_walk.LineStep.{LineStep}
use Rattle.alert_json.specs.declared.line_walk.LineStep.TheVariants as step
use Rattle.alert_json.specs.declared.line_year.YearFrom.{YearFrom}
use Rattle.alert_json.specs.Facts.{EventFacts, RunFacts}
use Rattle.alert_json.specs.Value.{event_line}
use Rattle.alert_json.specs.LineWalks.{AddsLine, AreTold, IsDated, IsLine, IsStep, IsUntold, IsWholeStep, NeverTold, NoLine, WalksLines, most_line_bytes}

-- ---- the front of bytes

-- a line at the front of bytes ends with a line feed among them
spelled : (bytes more line : List ℕ) (is : IsLine line) → bytes ≡ line ++ more → bytes ≡ is.text ++ (10 ∷ more)
spelled bytes more line is begins = begins ∙ ap (λ (l : List ℕ). l ++ more) is.is ∙ append_assoc is.text (10 ∷ []) more

-- without a line feed no line is there
pub no-line : (bytes : List ℕ) → Lacks 10 bytes → NoLine bytes
no-line bytes lacks line more is begins = lacks-none 10 is.text more (subst (Lacks 10) (spelled bytes more line is begins) lacks)

-- bytes without a line feed begin with no line that is shorter than they are, whatever follows
within : (bytes more text rest : List ℕ) → Lacks 10 bytes → length text < length bytes → bytes ++ more ≡ text ++ (10 ∷ rest) → ⊥
within [] more text rest lacks few same = absurd (omega (arith, few))
within (b ∷ bytes) more [] rest lacks few same = lacks.0 (first_same b 10 _ _ same)
within (b ∷ bytes) more (a ∷ text) rest lacks few same = within bytes more text rest lacks.1 (omega (arith, few)) (rest_same b a _ _ same)

pub none-ever : (bytes : List ℕ) → Lacks 10 bytes → most_line_bytes ≤ length bytes → (more : List ℕ) → NoLine (bytes ++ more)
none-ever bytes lacks long more line rest is begins =
    within bytes more is.text rest lacks (omega (arith, is.short, long)) (spelled (bytes ++ more) rest line is begins)

-- the first line feed ends a line that isn't too long
pub line-there : (bytes text rest : List ℕ) → IsWord 10 bytes text rest → length text < most_line_bytes
    → IsLine (take (length text + 1) bytes) × (length text + 1 ≤ length bytes)
line-there bytes text rest word short =
    let all = word.spelled ∙ sym (append_assoc text (10 ∷ []) rest) in
    let size : length (text ++ 10 ∷ []) ≡ length text + 1 = length-append text (10 ∷ []) in (
      record {
        text = text;
        lacks = word.lacks;
        is = ap (take (length text + 1)) all ∙ take_at (text ++ 10 ∷ []) rest (length text + 1) size;
        short = short;
      },
      omega (arith, ap length all, length-append (text ++ 10 ∷ []) rest, size),
    )

pub too-long : (bytes text rest : List ℕ) → IsWord 10 bytes text rest → most_line_bytes ≤ length text → (more : List ℕ) → NoLine (bytes ++ more)
too-long bytes text rest word long more line later is begins =
    let all = ap (λ (b : List ℕ). b ++ more) word.spelled ∙ append_assoc text (10 ∷ rest) more in
    let same = word_only 10 text is.text (rest ++ more) later word.lacks is.lacks (sym all ∙ spelled (bytes ++ more) later line is begins) in
    omega (arith, is.short, long, ap length same.0)

-- ---- lines

-- lines after lines
pub told-append : (run : RunFacts) (from mid last : YearFrom) (firsts seconds : List (List ℕ)) (wrote later : List ℕ)
    → AreTold run from firsts wrote mid → AreTold run mid seconds later last → AreTold run from (firsts ++ seconds) (wrote ++ later) last
told-append run from mid last [] seconds wrote later first second =
    subst (λ (w : List ℕ). AreTold run from seconds (w ++ later) last) (sym first.0) (subst (λ (y : YearFrom). AreTold run y seconds later last) first.1 second)
told-append run from mid last (line ∷ lines) seconds wrote later first second = (
  first.0,
  first.1,
  first.2 ++ later,
  first.3,
  first.4,
  ap (λ (w : List ℕ). w ++ later) first.5 ∙ append_assoc (event_line first.0 run) first.2 later,
  told-append run first.1 mid last lines seconds first.2 later first.6 second,
)

-- a line is one of them
told-one : (run : RunFacts) (from next : YearFrom) (line : List ℕ) (event : EventFacts) → IsLine line → IsDated from line event next
    → AreTold run from (line ∷ []) (event_line event run) next
told-one run from next line event is dated = (event, next, [], is, dated, sym (append-nil (event_line event run)), (refl, refl))

-- a line has a byte
line-some : (line : List ℕ) → IsLine line → 0 < length line
line-some line is = omega (arith, ap length is.is, length-append is.text (10 ∷ []))

-- there are no more lines than bytes in them
pub lines-few : (run : RunFacts) (from last : YearFrom) (lines : List (List ℕ)) (wrote : List ℕ) → AreTold run from lines wrote last
    → length lines ≤ length (concat lines)
lines-few run from last [] wrote told = omega arith
lines-few run from last (line ∷ lines) wrote told =
    omega (arith, line-some line told.3, lines-few run told.1 last lines told.2 told.6, length-append line (concat lines))

pub walk-start : (run : RunFacts) (from : YearFrom) (bytes old : List ℕ) (taken : LinesTaken) → taken.size ≡ 0 → taken.count ≡ 0 → taken.next ≡ from
    → WalksLines run from bytes old old taken
walk-start run from bytes old taken none no_lines same = record {
  lines = [];
  wrote = [];
  told = (refl, same);
  split = ap (λ (n : ℕ). take n bytes) none;
  within = omega (arith, none);
  counted = no_lines;
  added = sym (append-nil old);
}

pub walk-step : (run : RunFacts) (from next : YearFrom) (bytes rest old now new : List ℕ) (before after : LinesTaken) (size : ℕ) → WalksLines run from bytes old now before
    → rest ≡ drop before.size bytes → IsLine (take size rest) → size ≤ length rest → AddsLine run before.next (take size rest) now new next
    → after.size ≡ before.size + size → after.count ≡ before.count + 1 → after.next ≡ next → WalksLines run from bytes old new after
walk-step run from next bytes rest old now new before after size walks cut is fits adds placed counted same = record {
  lines = walks.lines ++ take size rest ∷ [];
  wrote = walks.wrote ++ event_line adds.event run;
  told = subst (λ (y : YearFrom). AreTold run from (walks.lines ++ take size rest ∷ []) (walks.wrote ++ event_line adds.event run) y) (sym same)
      (told-append run from before.next next walks.lines (take size rest ∷ []) walks.wrote (event_line adds.event run) walks.told
      (told-one run before.next next (take size rest) adds.event is adds.dated));
  split = ap (λ (n : ℕ). take n bytes) placed
      ∙ take-add before.size size bytes
      ∙ ap (λ (b : List ℕ). take before.size bytes ++ take size b) (sym cut)
      ∙ ap (λ (b : List ℕ). b ++ take size rest) walks.split
      ∙ ap (λ (b : List ℕ). concat walks.lines ++ b) (sym (append-nil (take size rest)))
      ∙ sym (concat-append walks.lines (take size rest ∷ []));
  within = omega (arith, placed, fits, walks.within, ap length cut, length-drop before.size bytes);
  counted = omega (arith, counted, walks.counted, length-append walks.lines (take size rest ∷ []));
  added = adds.added ∙ ap (λ (x : List ℕ). x ++ event_line adds.event run) walks.added ∙ append_assoc old walks.wrote (event_line adds.event run);
}

-- by what was taken at the front of the rest
pub walk-on : (run : RunFacts) (from next : YearFrom) (bytes rest old now new : List ℕ) (before after : LinesTaken) (size : ℕ) (s : LineStep) → WalksLines run from bytes old now before
    → rest ≡ take (length bytes - before.size) (drop before.size bytes) → s ≡ step.Took size next → IsStep run before.next rest now new s
    → after.size ≡ before.size + size → after.count ≡ before.count + 1 → after.next ≡ next → WalksLines run from bytes old new after
walk-on run from next bytes rest old now new before after size s walks cut same given placed counted year =
    let took = subst (λ (x : LineStep). IsStep run before.next rest now new x) same given in
    walk-step run from next bytes rest old now new before after size walks (cut ∙ take_rest bytes before.size) took.0 took.1 took.2 placed counted year

-- there is room for one line more among those of bytes
pub walk-room : (run : RunFacts) (from : YearFrom) (bytes old now : List ℕ) (taken : LinesTaken) → WalksLines run from bytes old now taken → taken.count ≤ length bytes
walk-room run from bytes old now taken walks =
    omega (arith, walks.counted, walks.within, lines-few run from taken.next walks.lines walks.wrote walks.told, ap length (sym walks.split), length-take taken.size bytes)

pub line-size : (bytes : List ℕ) (size : ℕ) → IsLine (take size bytes) → 0 < size
line-size bytes size is = omega (arith, ap length is.is, length-append is.text (10 ∷ []), length-take size bytes)

-- a line that gives no record, whatever follows
pub untold-ever : (from : YearFrom) (bytes : List ℕ) (size : ℕ) → IsLine (take size bytes) → size ≤ length bytes → IsUntold from (take size bytes) → NeverTold from bytes
untold-ever from bytes size is fits untold = record {
  some = omega (arith, line-size bytes size is, fits);
  none = λ more. inr (record {
    line = take size bytes;
    more = drop size bytes ++ more;
    is = is;
    untold = untold;
    begins = ap (λ (b : List ℕ). b ++ more) (sym (take-append-drop size bytes)) ∙ append_assoc (take size bytes) (drop size bytes) more;
  });
}

pub none-ever-told : (from : YearFrom) (bytes : List ℕ) → (0 < length bytes) × ((more : List ℕ) → NoLine (bytes ++ more)) → NeverTold from bytes
none-ever-told from bytes none = record { some = none.0; none = λ more. inl (none.1 more) }

-- what a whole line gave is what the front of bytes gave
whole-step : (run : RunFacts) (from : YearFrom) (bytes old new : List ℕ) (size : ℕ) (s : LineStep) → IsLine (take size bytes) × (size ≤ length bytes)
    → IsWholeStep run from (take size bytes) old new s → IsStep run from bytes old new s
whole-step run from bytes old new size (step.Took count next) is whole =
    let same : count ≡ size = omega (arith, whole.0, is.1, length-take size bytes) in
    subst (λ (n : ℕ). IsStep run from bytes old new (step.Took n next)) (sym same) (is.0, is.1, whole.1)
whole-step run from bytes old new size step.Waits is whole = absurd whole
whole-step run from bytes old new size step.Foreign is whole = (untold-ever from bytes size is.0 is.1 whole.0, whole.1)

pub front-step : (run : RunFacts) (from : YearFrom) (bytes old new : List ℕ) (size : ℕ) (r : Result LineStep NoMemory) → IsLine (take size bytes) × (size ≤ length bytes)
    → IfOk r (λ (s : LineStep). IsWholeStep run from (take size bytes) old new s) → IfOk r (λ (s : LineStep). IsStep run from bytes old new s)
front-step run from bytes old new size (Ok s) is whole = whole-step run from bytes old new size s is whole
front-step run from bytes old new size (Err fault) is whole = tt
