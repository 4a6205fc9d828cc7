-- The parts of a setup put together: what the configuration, its rule lines and the host table answer is the setup.
use Rattle.std.proofs.Common.{◌≡◌, ℕ, Bool, Option, Some, None, Result, Ok, Err, List, [], refl, sym, ap, subst, ◌∙◌, inl, inr, arith}
use Rattle.std.proofs.lemmas.List.Elements.{All-nil}
use Rattle.edge_io.specs.Files.{Files, Lacks}
use Rattle.edge_io.specs.declared.pattern.Refusal.{Refusal as Asked}
use Rattle.conf_parser.specs.declared.line.Line.{Line}
use Rattle.conf_parser.specs.Loaded.{loaded_of}
use Rattle.conf_parser.specs.Reading.{Ended, Whole, Refused as RefusedAt, Asks, told}
use Rattle.snort_setup.specs.declared.conf.Configured.{Configured}
use Rattle.snort_setup.specs.declared.stop.SetupStop.{SetupStop}
use Rattle.snort_setup.specs.declared.stop.SetupStop.TheVariants as stop
use Rattle.snort_setup.specs.Words.{Words}
use Rattle.snort_setup.specs.Texts.{conf_error}
use Rattle.edge_io.specs.OnResult.{◌>>=◌}
use Rattle.conf_parser.specs.declared.loaded.Loaded.{Loaded}
use Rattle.host_table.specs.declared.host_line.HostLine.{HostLine}
use Rattle.snort_setup.specs.Rules.{Frame, RulesEnd, RulesGive, nothing_read}
use Rattle.snort_setup.specs.Setup.{Halt, Refused, Lacks as LacksName, Ruled, Ready, warned, ruled, ruled_by, ready, frame_of}
use Rattle.snort_setup.specs.Setup.{conf_read, conf_warnings, IsRuledBy, IsRuled, IsSetup, AsksFor, table_of, with_table}
use Rattle.snort_setup.specs.Answers.{IsRefusedLine, AreRefused, AreRefusedBy, Gives, SetsUp, HasCause}
use Rattle.snort_setup.specs.Lines.{RulesAnswer}
use Rattle.snort_setup.specs.Stages.{IsConfigured, IsConfError, ConfEnds, TableGives}
use Rattle.snort_setup.specs.Whole.{RuledAs, RuledGives, IsRulesStop}

-- ---- no refused lines

none-refused : (frame : Frame) (lines : List Line) (grown : List Asked) → AreRefused frame lines [] grown
none-refused frame lines grown = record { asked = All-nil (IsRefusedLine frame lines grown); few = omega arith }

none-refused_by : (words : Words) (ended : Ended) (grown : List Asked) → AreRefusedBy words ended [] grown
none-refused_by words (Whole read) grown = none-refused _ _ grown
none-refused_by words (RefusedAt fault output) grown = refl
none-refused_by words (Asks name output) grown = refl

-- ---- rule lines after a configuration

lines-ruled : (words : Words) (configured : Configured) (before : List (List ℕ)) (refused : List ℕ) (end : RulesEnd) (ended : Ended) → IsConfigured configured before ended
    → RulesGive (frame_of words.skips configured.vars configured.loaded) refused 0 (nothing_read before) configured.loaded.rules end → IsRuledBy words refused ended (ruled_by configured.loaded end)
unfolding IsRuledBy
lines-ruled words configured before refused end (Whole read) (vars, loaded, told_are) given =
    let told_all : before ≡ conf_warnings (loaded_of read).files (loaded_of read).warnings = told_are ∙ ap (λ (l : Loaded). conf_warnings l.files l.warnings) loaded in
    let one = subst (λ vs. RulesGive (frame_of words.skips vs configured.loaded) refused 0 (nothing_read before) configured.loaded.rules end) vars given in
    let two = subst (λ (l : Loaded). RulesGive (frame_of words.skips read.settings.vars l) refused 0 (nothing_read before) l.rules end) loaded one in
    let three = subst (λ ws. RulesGive (frame_of words.skips read.settings.vars (loaded_of read)) refused 0 (nothing_read ws) (loaded_of read).rules end) told_all two in
    (end, three, ap (λ (l : Loaded). ruled_by l end) loaded)
lines-ruled words configured before refused end (RefusedAt fault output) never given = absurd never
lines-ruled words configured before refused end (Asks name output) never given = absurd never

lines-refused : (words : Words) (configured : Configured) (before : List (List ℕ)) (refused : List ℕ) (grown : List Asked) (ended : Ended) → IsConfigured configured before ended
    → AreRefused (frame_of words.skips configured.vars configured.loaded) configured.loaded.rules refused grown → AreRefusedBy words ended refused grown
lines-refused words configured before refused grown (Whole read) (vars, loaded, told_are) given =
    let one = subst (λ vs. AreRefused (frame_of words.skips vs configured.loaded) configured.loaded.rules refused grown) vars given in
    subst (λ (l : Loaded). AreRefused (frame_of words.skips read.settings.vars l) l.rules refused grown) loaded one
lines-refused words configured before refused grown (RefusedAt fault output) never given = absurd never
lines-refused words configured before refused grown (Asks name output) never given = absurd never

module _ {A : Type 0} (view : A → Ruled) (words : Words) (skips : Bool)
    (same_skips : words.skips ≡ skips)
    (configured : Configured) (before : List (List ℕ)) (ended : Ended) (is : IsConfigured configured before ended)
    (grown : List Asked) where
  module _ (end : RulesEnd) (answer : RulesAnswer (frame_of skips configured.vars configured.loaded) configured.loaded.rules (nothing_read before) grown end) where
    its : RulesAnswer (frame_of words.skips configured.vars configured.loaded) configured.loaded.rules (nothing_read before) grown end
    its = subst (λ s. RulesAnswer (frame_of s configured.vars configured.loaded) configured.loaded.rules (nothing_read before) grown end) (sym same_skips) answer

    refused_are : AreRefusedBy words ended its.refused grown
    refused_are = lines-refused words configured before its.refused grown ended is its.are_refused

    gave : (outcome : Result Ruled Halt) → ruled configured.loaded.config end ≡ outcome → IsRuledBy words its.refused ended (warned end.warnings outcome)
    gave outcome same = subst (λ o. IsRuledBy words its.refused ended (warned end.warnings o)) same (lines-ruled words configured before its.refused end ended is its.gives)

    pub ruled-ready : end.refusal ≡ None → (x : A) → view x ≡ record { config = configured.loaded.config; rules = end.rules } → RuledGives view words ended grown (Ok x) end.warnings
    ruled-ready none x same = record {
      refused = its.refused;
      are_refused = refused_are;
      gives = gave (Ok (view x)) (settles end.refusal none ∙ ap (λ (r : Ruled). Ok r) (sym same));
    } where
      settles : (refusal : Option (List ℕ)) → refusal ≡ None → ruled configured.loaded.config (record end { refusal = refusal }) ≡ Ok (record { config = configured.loaded.config; rules = end.rules })
      settles None e = refl
      settles (Some m) e = let never : Some m ≡ None = e in cc

    pub ruled-refused : (message : List ℕ) → end.refusal ≡ Some message → RuledGives view words ended grown (Err (stop.Refused message)) end.warnings
    ruled-refused message some = record {
      refused = its.refused;
      are_refused = refused_are;
      gives = gave (Err (Refused message)) (settles end.refusal some);
    } where
      settles : (refusal : Option (List ℕ)) → refusal ≡ Some message → ruled configured.loaded.config (record end { refusal = refusal }) ≡ Err (Refused message)
      settles None e = let never : None ≡ Some message = e in cc
      settles (Some m) e = let same : m ≡ message = cc in ap (λ t. Err (Refused t)) same

pub ruled-none : {A : Type 0} (view : A → Ruled) (words : Words) (ended : Ended) (grown : List Asked) (warnings : List (List ℕ)) → RuledGives view words ended grown (Err stop.NoMemory) warnings
ruled-none view words ended grown warnings = record { refused = []; are_refused = none-refused_by words ended grown; gives = tt }

-- ---- the whole

-- what ends before the host table is read
setup-err : (words : Words) (files : Files) (refused : List ℕ) (warnings : List (List ℕ)) (halt : Halt)
    → IsRuled words files refused (warned warnings (Err halt))
    → IsSetup words files refused (warned warnings (Err halt))
unfolding with_table
setup-err words files refused warnings halt is = (warned warnings (Err halt), is, refl)

-- a setup whose configuration and rules are accepted, by what is read of the host table
setup-table : (words : Words) (files : Files) (refused : List ℕ) (warnings : List (List ℕ)) (given : Ruled)
    (table : Result (List HostLine) Halt)
    → IsRuled words files refused (warned warnings (Ok given))
    → table_of words.host_table files ≡ table
    → IsSetup words files refused (warned warnings (table >>= λ hosts. Ok (ready given hosts)))
unfolding with_table
setup-table words files refused warnings given table is same =
    (warned warnings (Ok given), is, ap (λ (t : Result (List HostLine) Halt). warned warnings (t >>= λ hosts. Ok (ready given hosts))) (sym same))

conf-error : (words : Words) (message : List ℕ) (warnings : List (List ℕ)) (ended : Ended) → IsConfError message warnings ended → IsRuledBy words [] ended (warned warnings (Err (Refused message)))
unfolding IsRuledBy
conf-error words message warnings (Whole read) never = absurd never
conf-error words message warnings (RefusedAt fault output) (same, told_are) =
    ap (λ (m : List ℕ). warned warnings (Err (Refused m))) same ∙ ap (λ (ws : List (List ℕ)). warned ws (Err (Refused (conf_error output.files fault)))) told_are
conf-error words message warnings (Asks name output) never = absurd never

conf-asks : (words : Words) (name : List ℕ) (warnings : List (List ℕ)) (ended : Ended) → AsksFor name warnings ended → IsRuledBy words [] ended (warned warnings (Err (LacksName name)))
unfolding IsRuledBy
conf-asks words name warnings (Whole read) never = absurd never
conf-asks words name warnings (RefusedAt fault output) never = absurd never
conf-asks words name warnings (Asks asked output) (same, told_are) =
    ap (λ (n : List ℕ). warned warnings (Err (LacksName n))) (sym same) ∙ ap (λ (ws : List (List ℕ)). warned ws (Err (LacksName asked))) (sym told_are)

module _ {A : Type 0} (view : A → Ready) (words : Words) (files : Files) (rose : Type 0) (grown : List Asked) (warnings : List (List ℕ)) where
  -- the configuration is not read whole
  pub conf-stopped : (why : SetupStop) → ConfEnds words files rose (Err why) warnings (conf_read words (told files)) → SetsUp view words files rose grown (Err why) warnings
  conf-stopped why ends = record { refused = []; are_refused = none-refused_by words (conf_read words (told files)) grown; gives = go why ends } where
    go : (why : SetupStop) → ConfEnds words files rose (Err why) warnings (conf_read words (told files)) → Gives view words files [] rose (Err why) warnings
    go (stop.Refused message) error = setup-err words files [] warnings (Refused message) (conf-error words message warnings (conf_read words (told files)) error)
    go (stop.CannotRead name) (inl asks) = inl (setup-err words files [] warnings (LacksName name) (conf-asks words name warnings (conf_read words (told files)) asks))
    go (stop.CannotRead name) (inr (fault, reading)) = inr (fault, inl reading)
    go stop.NoMemory tt = tt

  -- a rule line is refused
  pub rules-stopped : {R : Type 0} (ruled : R → Ruled) (why : SetupStop)
      → RuledGives ruled words (conf_read words (told files)) grown (Err why) warnings
      → SetsUp view words files rose grown (Err why) warnings
  rules-stopped {R} ruled why given = record { refused = given.refused; are_refused = given.are_refused; gives = go why given.gives } where
    go : (why : SetupStop) → RuledAs ruled words given.refused (conf_read words (told files)) (Err why) warnings → Gives view words files given.refused rose (Err why) warnings
    go (stop.Refused message) is = setup-err words files given.refused warnings (Refused message) is
    go (stop.CannotRead name) never = absurd never
    go stop.NoMemory h = tt

  -- the host table is not read
  pub table-stopped : {R : Type 0} (ruled : R → Ruled) (x : R) (why : SetupStop) → RuledGives ruled words (conf_read words (told files)) grown (Ok x) warnings
      → TableGives words.host_table files rose (Err why) → SetsUp view words files rose grown (Err why) warnings
  table-stopped {R} ruled x why given table = record { refused = given.refused; are_refused = given.are_refused; gives = go why table } where
    go : (why : SetupStop) → TableGives words.host_table files rose (Err why) → Gives view words files given.refused rose (Err why) warnings
    go (stop.Refused message) same = setup-table words files given.refused warnings (ruled x) (Err (Refused message)) given.gives same
    go (stop.CannotRead name) (inl same) = inl (setup-table words files given.refused warnings (ruled x) (Err (LacksName name)) given.gives same)
    go (stop.CannotRead name) (inr (fault, named)) = inr (fault, inr (named, (ruled x, given.gives)))
    go stop.NoMemory h = tt

  -- all is read
  pub all-ready : {R : Type 0} (ruled : R → Ruled) (x : R) (hosts : List HostLine) (y : A) → RuledGives ruled words (conf_read words (told files)) grown (Ok x) warnings
      → TableGives words.host_table files rose (Ok hosts) → view y ≡ ready (ruled x) hosts → SetsUp view words files rose grown (Ok y) warnings
  all-ready {R} ruled x hosts y given table same = record {
    refused = given.refused;
    are_refused = given.are_refused;
    gives = subst (λ (r : Ready). IsSetup words files given.refused (warned warnings (Ok r))) (sym same) (setup-table words files given.refused warnings (ruled x) (Ok hosts) given.gives table);
  }

-- ---- what came later

-- a fault that was counted later was counted since the beginning
pub table-since : (name : Option (List ℕ)) (files : Files) (later since : Type 0)
    → (later → since)
    → (answer : Result (List HostLine) SetupStop)
    → TableGives name files later answer
    → TableGives name files since answer
table-since name files later since rose (Ok hosts) gives = gives
table-since name files later since rose (Err (stop.Refused message)) gives = gives
table-since name files later since rose (Err (stop.CannotRead asked)) (inl lacks) = inl lacks
table-since name files later since rose (Err (stop.CannotRead asked)) (inr (fault, named)) = inr (rose fault, named)
table-since name files later since rose (Err stop.NoMemory) gives = tt

-- a cause that came later is a cause since the beginning
pub cause-since : (later since : Type 0) (host_later host : Option Files) → (later → since) → host_later ≡ host → (why : SetupStop) → HasCause later host_later why → HasCause since host why
cause-since later since host_later host rose same (stop.Refused message) cause = tt
cause-since later since host_later host rose same (stop.CannotRead name) (inl fault) = inl (rose fault)
cause-since later since host_later host rose same (stop.CannotRead name) (inr lacks) = inr (subst (λ (h : Option Files). Lacks h name) same lacks)
cause-since later since host_later host rose same stop.NoMemory cause = tt

-- rule lines stop at no file
pub cause-rules : (rose : Type 0) (host : Option Files) (why : SetupStop) → IsRulesStop why → HasCause rose host why
cause-rules rose host (stop.Refused message) is = tt
cause-rules rose host (stop.CannotRead name) never = absurd never
cause-rules rose host stop.NoMemory is = tt
