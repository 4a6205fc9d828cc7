-- How parts of a reading follow each other, over contents that a host may have.
use Rattle.std.proofs.Common.{◌≡◌, ℕ, suc, ◌-◌, ◌<◌, ◌≤◌, Bool, true, false, cond, ltb, List, [], ◌∷◌, length, Option, Some, None, Result, Ok, Err, refl, ap, subst, ◌∙◌, inl, inr, arith}
use Rattle.std.specs.Prelude.{IfErr}
use Rattle.std.proofs.lemmas.Bool.{lt-ltb, le-ltb}
use Rattle.std.specs.FinMap.{get}
use Rattle.edge_io.specs.Files.{Files, Lacks}
use Rattle.net_lists.specs.declared.lines.NumberedLine.{NumberedLine}
use Rattle.conf_parser.specs.declared.reading.At.{At}
use Rattle.conf_parser.specs.declared.reading.ReadSoFar.{ReadSoFar}
use Rattle.conf_parser.specs.declared.reading.Source.{Source}
use Rattle.conf_parser.specs.declared.reading.Stopped.{Stopped}
use Rattle.conf_parser.specs.declared.reading.Stopped.TheVariants as stopped
use Rattle.conf_parser.specs.Reading.{Contents, Ended, Whole, Refused, Including, file_count, onward, line_read, lines_read, file_read}
use Rattle.conf_parser.specs.Loading.{Tells, AreSame, Goes, Stops, GoesOn, HasCause, whole_next, inner}
use Rattle.conf_parser.specs.Steps.{StepsTo}

-- ---- contents

-- the contents of the files below one number, and others from there on
abbrev joined : ℕ → Contents → Contents → Contents
joined mid first later number name = cond (ltb number mid) (first number name) (later number name)

tells-joined : (host : Option Files) (mid : ℕ) (first later : Contents) → Tells host first → Tells host later → Tells host (joined mid first later)
tells-joined None mid first later t u = tt
tells-joined (Some files) mid first later t u = λ number name. go number name (ltb number mid)
  where
    go : (number : ℕ) (name : List ℕ) (b : Bool) → cond b (first number name) (later number name) ≡ get files name
    go number name true = t number name
    go number name false = u number name

same-first : (low mid high : ℕ) (first later contents : Contents) → mid ≤ high → AreSame low high (joined mid first later) contents → AreSame low mid first contents
same-first low mid high first later contents within same = record {
  at = λ number name l h. same.at number name l (omega arith) ∙ ap (λ b. cond b (first number name) (later number name)) (lt-ltb number mid h);
}

same-later : (low mid high : ℕ) (first later contents : Contents) → low ≤ mid → AreSame low high (joined mid first later) contents → AreSame mid high later contents
same-later low mid high first later contents within same = record {
  at = λ number name l h. same.at number name (omega arith) h ∙ ap (λ b. cond b (first number name) (later number name)) (le-ltb number mid l);
}

-- contents that a host may have
abbrev pub seen_by : Option Files → Contents
seen_by None number name = None
seen_by (Some files) number name = get files name

pub tells-seen_by : (host : Option Files) → Tells host (seen_by host)
tells-seen_by None = tt
tells-seen_by (Some files) = λ number name. refl

-- ---- one part after another

pub goes-refl : (host : Option Files) (n : ℕ) (a : Contents → Ended) → Goes host n n a a
goes-refl host n a = record { seen = seen_by host; tells = tells-seen_by host; later = omega arith; goes = λ contents same. refl }

pub goes-goes : (host : Option Files) (low mid high : ℕ) (a b c : Contents → Ended) → Goes host low mid a b → Goes host mid high b c → Goes host low high a c
goes-goes host low mid high a b c x y = record {
  seen = joined mid x.seen y.seen;
  tells = tells-joined host mid x.seen y.seen x.tells y.tells;
  later = omega (arith, x.later, y.later);
  goes = λ contents same. x.goes contents (same-first low mid high x.seen y.seen contents y.later same) ∙ y.goes contents (same-later low mid high x.seen y.seen contents x.later same);
}

pub goes-stops : (host : Option Files) (low mid : ℕ) (a b : Contents → Ended) (stop : Stopped) → Goes host low mid a b → Stops host mid b stop → Stops host low a stop
goes-stops host low mid a b stopped.NoMemory x y = tt
goes-stops host low mid a b (stopped.Refused fault output) x y = (y.0, goes-goes host low mid y.0 a b (λ contents. Refused fault output) x y.1)
goes-stops host low mid a b (stopped.Asks name output) x y = record {
  seen = joined mid x.seen y.seen;
  tells = tells-joined host mid x.seen y.seen x.tells y.tells;
  later = omega (arith, x.later, y.later);
  asks = λ contents same lacks. x.goes contents (same-first low mid (length output.files) x.seen y.seen contents y.later same)
      ∙ y.asks contents (same-later low mid (length output.files) x.seen y.seen contents x.later same) lacks;
}

-- a first part that is whole, and what follows it
goes-onward : (host : Option Files) (low high : ℕ) (a : Contents → Ended) (next : Contents → ReadSoFar → Ended) (read : ReadSoFar) → Goes host low high a (λ contents. Whole read)
    → Goes host low high (λ contents. onward (a contents) (next contents)) (λ contents. next contents read)
goes-onward host low high a next read x = record {
  seen = x.seen;
  tells = x.tells;
  later = x.later;
  goes = λ contents same. ap (λ ended. onward ended (next contents)) (x.goes contents same);
}

-- a first part that stops
stops-onward : (host : Option Files) (low : ℕ) (a : Contents → Ended) (next : Contents → ReadSoFar → Ended) (stop : Stopped) → Stops host low a stop
    → Stops host low (λ contents. onward (a contents) (next contents)) stop
stops-onward host low a next stopped.NoMemory x = tt
stops-onward host low a next (stopped.Refused fault output) x = (
  x.0,
  record {
    seen = x.1.seen;
    tells = x.1.tells;
    later = x.1.later;
    goes = λ contents same. ap (λ ended. onward ended (next contents)) (x.1.goes contents same);
  },
)
stops-onward host low a next (stopped.Asks name output) x = record {
  seen = x.seen;
  tells = x.tells;
  later = x.later;
  asks = λ contents same lacks. ap (λ ended. onward ended (next contents)) (x.asks contents same lacks);
}

-- ---- lines

-- the reading of these lines
abbrev pub lines_of : ℕ → Source → List NumberedLine → ReadSoFar → Contents → Ended
lines_of left source lines read contents = lines_read (inner contents left) source lines read

-- the reading of this line
abbrev pub line_of : ℕ → Source → NumberedLine → ReadSoFar → Contents → Ended
line_of left source line read contents = line_read (inner contents left) source line read

-- one line more
pub lines-next : (host : Option Files) (low mid high left : ℕ) (source : Source) (a : Contents → Ended)
    (lines rest : List NumberedLine) (line : NumberedLine) (read next : ReadSoFar)
    → lines ≡ line ∷ rest
    → Goes host low mid a (lines_of left source lines read)
    → Goes host mid high (line_of left source line read) (λ contents. Whole next)
    → Goes host low high a (lines_of left source rest next)
unfolding lines_read
lines-next host low mid high left source a lines rest line read next begins x y =
    goes-goes host low mid high a (lines_of left source (line ∷ rest) read) (lines_of left source rest next)
    (record { seen = x.seen; tells = x.tells; later = x.later; goes = λ contents same. x.goes contents same ∙ ap (λ ls. lines_of left source ls read contents) begins })
    (goes-onward host mid high (line_of left source line read) (λ contents. lines_read (inner contents left) source rest) next y)

-- a line that stops
pub lines-stop : (host : Option Files) (low mid left : ℕ) (source : Source) (a : Contents → Ended)
    (lines rest : List NumberedLine) (line : NumberedLine) (read : ReadSoFar) (stop : Stopped)
    → lines ≡ line ∷ rest
    → Goes host low mid a (lines_of left source lines read)
    → Stops host mid (line_of left source line read) stop
    → Stops host low a stop
unfolding lines_read
lines-stop host low mid left source a lines rest line read stop begins x y =
    goes-stops host low mid a (lines_of left source (line ∷ rest) read) stop
    (record { seen = x.seen; tells = x.tells; later = x.later; goes = λ contents same. x.goes contents same ∙ ap (λ ls. lines_of left source ls read contents) begins })
    (stops-onward host mid (line_of left source line read) (λ contents. lines_read (inner contents left) source rest) stop y)

-- ---- the same reading by another name

pub goes-from : (host : Option Files) (low high : ℕ) (a b c : Contents → Ended) → ((contents : Contents) → a contents ≡ b contents) → Goes host low high b c → Goes host low high a c
goes-from host low high a b c same x = record { seen = x.seen; tells = x.tells; later = x.later; goes = λ contents s. same contents ∙ x.goes contents s }

pub stops-from : (host : Option Files) (low : ℕ) (a b : Contents → Ended) (stop : Stopped) → ((contents : Contents) → a contents ≡ b contents) → Stops host low b stop → Stops host low a stop
stops-from host low a b stopped.NoMemory same x = tt
stops-from host low a b (stopped.Refused fault output) same x = (x.0, goes-from host low x.0 a b (λ contents. Refused fault output) same x.1)
stops-from host low a b (stopped.Asks name output) same x = record { seen = x.seen; tells = x.tells; later = x.later; asks = λ contents s lacks. same contents ∙ x.asks contents s lacks }

-- ---- answers

-- a part after which another one answers
pub goes-then : (host : Option Files) (low mid : ℕ) (a b : Contents → Ended) (result : Result ReadSoFar Stopped) → Goes host low mid a b
    → GoesOn host mid file_count whole_next b result → GoesOn host low file_count whole_next a result
goes-then host low mid a b (Ok read) x y = goes-goes host low mid (file_count read) a b (whole_next read) x y
goes-then host low mid a b (Err stop) x y = goes-stops host low mid a b stop x y

-- an equal reading goes on with the same answer
pub goes_on-from : (host : Option Files) (low mid : ℕ) (a b : Contents → Ended) (result : Result ReadSoFar Stopped) → mid ≡ low → ((contents : Contents) → a contents ≡ b contents)
    → GoesOn host mid file_count whole_next b result → GoesOn host low file_count whole_next a result
goes_on-from host low mid a b (Ok read) count same x =
    subst (λ n. Goes host n (file_count read) a (whole_next read)) count (goes-from host mid (file_count read) a b (whole_next read) same x)
goes_on-from host low mid a b (Err stop) count same x =
    subst (λ n. Stops host n a stop) count (stops-from host mid a b stop same x)

-- a line after which the reading goes on at once
pub line-onward : (host : Option Files) (left : ℕ) (source : Source) (line : NumberedLine) (before read : ReadSoFar) → file_count read ≡ file_count before
    → ((including : Including) → line_read including source line before ≡ Whole read) → Goes host (file_count before) (file_count read) (line_of left source line before) (whole_next read)
line-onward host left source line before read count same = record {
  seen = seen_by host;
  tells = tells-seen_by host;
  later = omega (arith, count);
  goes = λ contents s. same (inner contents left);
}

-- a line at which the reading stops
pub line-stops : (host : Option Files) (left : ℕ) (source : Source) (line : NumberedLine) (before : ReadSoFar) (stop : Stopped) → StepsTo source line before (Err stop)
    → Stops host (file_count before) (line_of left source line before) stop
line-stops host left source line before stopped.NoMemory steps = tt
line-stops host left source line before (stopped.Refused fault output) steps = (
  file_count before,
  record {
    seen = seen_by host;
    tells = tells-seen_by host;
    later = omega arith;
    goes = λ contents s. steps (inner contents left);
  },
)
line-stops host left source line before (stopped.Asks name output) steps = absurd steps

-- a cause that came later
pub cause-since : (first second : Type 0) (host now : Option Files) (stop : Stopped) → (second → first) → now ≡ host → HasCause second now stop → HasCause first host stop
cause-since first second host now (stopped.Asks name output) since same (inl rose) = inl (since rose)
cause-since first second host now (stopped.Asks name output) since same (inr lacks) = inr (subst (λ (h : Option Files). Lacks h name) same lacks)
cause-since first second host now (stopped.Refused fault output) since same cause = tt
cause-since first second host now stopped.NoMemory since same cause = tt

-- no line more
pub lines-end : (host : Option Files) (low high left : ℕ) (source : Source) (a : Contents → Ended) (lines : List NumberedLine) (read : ReadSoFar) → length lines ≡ 0
    → Goes host low high a (lines_of left source lines read) → Goes host low high a (whole_next read)
unfolding lines_read
lines-end host low high left source a [] read ends x = x
lines-end host low high left source a (line ∷ lines) read ends x = absurd (never ends)
  where
    never : length (line ∷ lines) ≡ 0 → ⊥
    never e = omega arith

-- where no include may nest, what was read is all
pub inner-none : (host : Option Files) (left : ℕ) (name : List ℕ) (at : At) (read : ReadSoFar)
    → left ≡ 0
    → Goes host (file_count read) (file_count read) (λ contents. inner contents left name at read) (whole_next read)
inner-none host left name at read none =
    goes-from host (file_count read) (file_count read) (λ contents. inner contents left name at read) (whole_next read) (whole_next read)
    (λ contents. ap (λ n. inner contents n name at read) none) (goes-refl host (file_count read) (whole_next read))

-- where one may, its file is read
pub inner-some : (host : Option Files) (left : ℕ) (name : List ℕ) (at : At) (read : ReadSoFar) (result : Result ReadSoFar Stopped) → 0 < left
    → GoesOn host (file_count read) file_count whole_next (λ contents. file_read contents (left - 1) name at read) result
    → GoesOn host (file_count read) file_count whole_next (λ contents. inner contents left name at read) result
inner-some host left name at read result some x =
    let more : left ≡ suc (left - 1) = omega arith in
    goes_on-from host (file_count read) (file_count read) (λ contents. inner contents left name at read) (λ contents. file_read contents (left - 1) name at read) result refl
    (λ contents. ap (λ n. inner contents n name at read) more) x

-- a cause that came later, of an answer
pub if_err-since : (first second : Type 0) (host now : Option Files) (result : Result ReadSoFar Stopped)
    → (second → first)
    → now ≡ host
    → IfErr result (HasCause second now)
    → IfErr result (HasCause first host)
if_err-since first second host now (Ok read) since same cause = tt
if_err-since first second host now (Err stop) since same cause = cause-since first second host now stop since same cause
