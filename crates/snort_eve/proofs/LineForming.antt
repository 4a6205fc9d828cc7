-- Alert lines as a form of input.
use Rattle.std.proofs.Common.{◌≡◌, ℕ, ◌+◌, ◌-◌, ◌^◌, ◌<◌, ◌≤◌, Bool, true, false, inl, inr, take, drop, List, [], ◌∷◌, ◌++◌}
use Rattle.std.proofs.Common.{length, refl, sym, ap, ◌∙◌, subst, append_assoc, append-nil, length-append, arith}
use Rattle.std.specs.List.{concat}
use Rattle.std.proofs.lemmas.List.{take-append-drop, take_rest}
use Rattle.std.proofs.lemmas.List.Folds.{concat-append}
use Rattle.alert_json.specs.declared.line_year.YearFrom.{YearFrom}
use Rattle.alert_json.specs.Facts.{RunFacts}
use Rattle.alert_json.specs.LineWalks.{AreTold, NeverTold, NoLine as IsNoLine, NoneTold, WalksLines}
use Rattle.alert_json.proofs.LineMoments.Walks.{lines-few, told-append}
use Rattle.std.specs.Prelude.{min, not, Result, Ok}
use Rattle.edge_io.specs.declared.fault.NoMemory.{NoMemory}
use Rattle.alert_json.specs.declared.line_walk.LinesTaken.{LinesTaken}
use Rattle.snort_eve.specs.declared.line_form.LineState.{LineState}
use Rattle.snort_eve.specs.declared.form.Ending.{Ending}
use Rattle.snort_eve.specs.declared.form.Ending.TheVariants.{Done, Bad, NoLine}
use Rattle.snort_eve.specs.Forms.{Adds, Closes, Gives, IsLast}
use Rattle.snort_eve.specs.LineForms.{AreCounted, CameBy, LinesBegin, LinesCame, LinesEnd, LinesEndBy, of_lines}

-- no bytes are no line
no_bytes : IsNoLine []
no_bytes line more is begins = absurd (omega (arith, ap length begins, length-append line more, ap length is.is, length-append is.text (10 ∷ [])))

-- nothing came yet
pub lines-empty : (run : RunFacts) (from : YearFrom) (state : LineState) → state.rest.items ≡ [] → state.count ≡ 0 → state.next ≡ from → CameBy run from state [] []
lines-empty run from state empty none same = record {
  came = record {
    lines = [];
    told = (refl, same);
    split = sym empty;
    none = subst (NoneTold state.next) (sym empty) (inl no_bytes);
  };
  counted = λ few. none;
}

none-of : (next : YearFrom) (rest : List ℕ) (foreign : Bool) → (foreign ≡ false → IsNoLine rest) → (foreign ≡ true → NeverTold next rest) → NoneTold next rest
none-of next rest false waits over = inl (waits refl)
none-of next rest true waits over = subst (NoneTold next) (append-nil rest) ((over refl).none [])

-- lines behind lines, and what is left behind these
lines-go : (run : RunFacts) (from mid next : YearFrom) (waited piece rest bytes wrote later : List ℕ) (more : List (List ℕ)) → LinesCame run from bytes waited wrote mid
    → waited ++ piece ≡ concat more ++ rest → AreTold run mid more later next → NoneTold next rest → LinesCame run from (bytes ++ piece) rest (wrote ++ later) next
lines-go run from mid next waited piece rest bytes wrote later more came here told none = record {
  lines = came.lines ++ more;
  told = told-append run from mid next came.lines more wrote later came.told told;
  split = ap (λ (b : List ℕ). b ++ piece) came.split
      ∙ append_assoc (concat came.lines) waited piece
      ∙ ap (λ (b : List ℕ). concat came.lines ++ b) here
      ∙ sym (append_assoc (concat came.lines) (concat more) rest)
      ∙ ap (λ (b : List ℕ). b ++ rest) (sym (concat-append came.lines more));
  none = none;
}

lines-counted : (lines more : List (List ℕ)) (was count now : ℕ) → length (lines ++ more) < 2 ^ 64 → AreCounted lines was → count ≡ length more
    → now ≡ min (was + count) (2 ^ 64 - 1) → now ≡ length (lines ++ more)
lines-counted lines more was count now few before counted added =
    let all = length-append lines more in
    omega (arith, few, all, before (omega (arith, few, all)), counted, added)

-- a piece gives the records of its lines
pub lines-give : (run : RunFacts) (from : YearFrom) (old new : LineState) (piece both lent was now : List ℕ) (taken : LinesTaken)
    → both ≡ old.rest.items ++ piece → WalksLines run old.next both was now taken → lent ≡ both
    → new.rest.items ≡ take (length lent - taken.size) (drop taken.size lent) → new.next ≡ taken.next → new.count ≡ min (old.count + taken.count) (2 ^ 64 - 1)
    → (taken.is_foreign ≡ false → IsNoLine (drop taken.size both)) → (taken.is_foreign ≡ true → NeverTold taken.next (drop taken.size both))
    → Adds was now (Gives (CameBy run from old) (CameBy run from new) (of_lines run from) piece)
unfolding lines-go
lines-give run from old new piece both lent was now taken come walks same cut year count waits over =
    let left : new.rest.items ≡ drop taken.size both = cut ∙ take_rest lent taken.size ∙ ap (drop taken.size) same in
    let split : both ≡ concat walks.lines ++ new.rest.items =
    sym (take-append-drop taken.size both) ∙ ap (λ (b : List ℕ). b ++ drop taken.size both) walks.split ∙ ap (λ (b : List ℕ). concat walks.lines ++ b) (sym left) in
    let none : NoneTold taken.next new.rest.items = subst (NoneTold taken.next) (sym left) (none-of taken.next (drop taken.size both) taken.is_foreign waits over) in
    let told : AreTold run old.next walks.lines walks.wrote new.next = subst (AreTold run old.next walks.lines walks.wrote) (sym year) walks.told in
    let goes = λ (bytes wrote : List ℕ) (by : CameBy run from old bytes wrote).
    lines-go run from old.next new.next old.rest.items piece new.rest.items bytes wrote walks.wrote walks.lines by.came (sym come ∙ split) told
    (subst (λ (y : YearFrom). NoneTold y new.rest.items) (sym year) none) in
    record {
      lines = walks.wrote;
      holds = record {
        goes = λ bytes wrote by. record {
          came = goes bytes wrote by;
          counted = λ few. lines-counted by.came.lines walks.lines old.count taken.count new.count few by.counted walks.counted count;
        };
        parts = λ bytes wrote part by begins more.
            let here = goes bytes wrote by in
            record {
              lines = here.lines;
              rest = new.rest.items ++ more;
              all = wrote ++ walks.wrote;
              next = new.next;
              told = here.told;
              split = ap (λ (b : List ℕ). b ++ more) here.split ∙ append_assoc (concat here.lines) new.rest.items more;
              begins = record { rest = begins.rest; is = ap (λ (x : List ℕ). wrote ++ x) begins.is ∙ sym (append_assoc wrote part begins.rest) };
            };
      };
      added = walks.added;
    }

-- whatever follows makes no difference
pub over-left : (next : YearFrom) (rest both lent : List ℕ) (size : ℕ) (foreign : Bool) → ◌≡◌ {A = Result Bool NoMemory} (Ok (not foreign)) (Ok false) → lent ≡ both
    → rest ≡ take (length lent - size) (drop size lent) → (foreign ≡ true → NeverTold next (drop size both)) → NeverTold next rest
over-left next rest both lent size true said same cut over = subst (NeverTold next) (sym (cut ∙ take_rest lent size ∙ ap (drop size) same)) (over refl)
over-left next rest both lent size false said same cut over = absurd cc

-- at the end no line begins at what is left
left-none : (next : YearFrom) (rest more : List ℕ) → NoneTold next rest → IsLast (NeverTold next rest) more → NoneTold next (rest ++ more)
left-none next rest more none (inl over) = over.none more
left-none next rest more none (inr nothing) = subst (λ (m : List ℕ). NoneTold next (rest ++ m)) (sym nothing) (subst (NoneTold next) (sym (append-nil rest)) none)

-- nor is anything left where no byte waits
left-nothing : (next : YearFrom) (rest more : List ℕ) → rest ≡ [] → IsLast (NeverTold next rest) more → rest ++ more ≡ []
left-nothing next rest more empty (inl over) = absurd (omega (arith, over.some, ap length empty))
left-nothing next rest more empty (inr nothing) = ap (λ (r : List ℕ). r ++ more) empty ∙ nothing

-- no line waits at the end
pub lines-close : (run : RunFacts) (from : YearFrom) (state : LineState) (read : ℕ) (old : List ℕ) (ending : Ending) → LinesEndBy state.rest.items state.count ending → read < 2 ^ 64
    → Adds old old (Closes (CameBy run from state) (NeverTold state.next state.rest.items) (of_lines run from) read ending)
lines-close run from state read old ending ends small = record {
  lines = [];
  holds = record {
    whole = λ bytes wrote more by last counted.
        subst (λ (w : List ℕ). LinesEnd run from (bytes ++ more) w ending) (sym (append-nil wrote)) (ended bytes wrote more by last counted ending ends);
    parts = λ bytes wrote more part by last begins. record {
      lines = by.came.lines;
      rest = state.rest.items ++ more;
      all = wrote;
      next = state.next;
      told = by.came.told;
      split = ap (λ (b : List ℕ). b ++ more) by.came.split ∙ append_assoc (concat by.came.lines) state.rest.items more;
      begins = record {
        rest = [];
        is = let none : length part ≡ 0 = omega (arith, ap length begins.is, length-append part begins.rest) in
            sym (append-nil wrote) ∙ ap (λ (p : List ℕ). wrote ++ p) (sym (nothing part none)) ∙ sym (append-nil (wrote ++ part));
      };
    };
  };
  added = sym (append-nil old);
} where
  nothing : (part : List ℕ) → length part ≡ 0 → part ≡ []
  nothing [] none = refl
  nothing (b ∷ part) none = absurd (omega (arith, none))

  left-come : (bytes wrote more : List ℕ) (by : CameBy run from state bytes wrote) → IsLast (NeverTold state.next state.rest.items) more
      → LinesCame run from (bytes ++ more) (state.rest.items ++ more) wrote state.next
  left-come bytes wrote more by last = record {
    lines = by.came.lines;
    told = by.came.told;
    split = ap (λ (b : List ℕ). b ++ more) by.came.split ∙ append_assoc (concat by.came.lines) state.rest.items more;
    none = left-none state.next state.rest.items more by.came.none last;
  }

  ended : (bytes wrote more : List ℕ) (by : CameBy run from state bytes wrote) → IsLast (NeverTold state.next state.rest.items) more → read ≡ length bytes → (e : Ending)
      → LinesEndBy state.rest.items state.count e → LinesEnd run from (bytes ++ more) wrote e
  ended bytes wrote more by last counted Done empty = record {
    next = state.next;
    are = subst (λ (r : List ℕ). LinesCame run from (bytes ++ more) r wrote state.next) (left-nothing state.next state.rest.items more empty last) (left-come bytes wrote more by last);
  }
  ended bytes wrote more by last counted (Bad at) none = absurd none
  ended bytes wrote more by last counted (NoLine number) waits =
      let few : length by.came.lines ≤ length (concat by.came.lines) = lines-few run from state.next by.came.lines wrote by.came.told in
      let all : length bytes ≡ length (concat by.came.lines) + length state.rest.items = ap length by.came.split ∙ length-append (concat by.came.lines) state.rest.items in
      record {
        rest = state.rest.items ++ more;
        next = state.next;
        are = left-come bytes wrote more by last;
        left = omega (arith, waits.0, length-append state.rest.items more);
        place = omega (arith, waits.0, waits.1, counted, small, few, all, by.counted (omega (arith, waits.0, counted, small, few, all)));
      }

-- nothing was written: the records of no line begin with it
pub no-lines : (run : RunFacts) (from : YearFrom) (bytes : List ℕ) → LinesBegin run from bytes []
no-lines run from bytes = record {
  lines = [];
  rest = bytes;
  all = [];
  next = from;
  told = (refl, refl);
  split = refl;
  begins = record { rest = []; is = refl };
}
