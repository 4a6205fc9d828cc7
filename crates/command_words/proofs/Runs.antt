-- What is known of a run that words ask for: the variable that they define has a name, and numbers lie in their
-- ranges.
use Rattle.std.proofs.Common.{◌≡◌, ℕ, ◌≤◌, Bool, true, false, cond, not, ◌&&◌, List, Option, Some, None, length, ◌==◌, refl, ap, subst, arith}
use Rattle.std.specs.Prelude.{drop, nat_le, codes, is_some}
use Rattle.std.proofs.lemmas.Bool.Decides.{nat_tests}
use Rattle.std.specs.Option.{option_map}
use Rattle.std.proofs.lemmas.Bool.{and_parts}
use Rattle.std.proofs.lemmas.Option.{option_and_then_some, cond_some}
use Rattle.net_lists.specs.Addresses.{cut}
use Rattle.net_lists.specs.Numbers.{whole_number, kept_in, number_in}
use Rattle.net_lists.specs.Variables.{IsName, is_name}
use Rattle.command_words.specs.CommandLine.{Asked, help, version, records_of, run, Run, Defined, maybe, named, definition}
use Rattle.command_words.specs.CommandLine.{has_its_capture, is_console, mode_named, number_or, run_with, asked_by, asked_of}
use Rattle.command_words.specs.CommandLine.{first_asked, run_by, values_after, values_by, command_line, has_others}
use Rattle.command_words.specs.Table.{table}
use Rattle.command_words.specs.Uses.{Use, uses_of, value_in}
use Rattle.command_words.specs.declared.values.CheckedValues.{CheckedValues}

-- the texts and values that a run is made of
record Made (wanted : Run) : Type 0 where
  text_of : List ℕ → Option (List ℕ)
  values : CheckedValues
  defined : Option Defined
  conf : List ℕ
  read : values_by text_of ≡ Some values
  defines : maybe definition (text_of (codes "S")) ≡ Some defined
  is : run_with text_of values defined conf ≡ wanted

-- ---- the steps before it

abbrev run_in : Run → Asked → Run
run_in other help = other
run_in other version = other
run_in other (records_of file) = other
run_in other (run wanted) = wanted

-- neither of the flags is there where a run is asked for
no_flags : (help_on version_on : Bool) (rest : Option Asked) (wanted : Run) → cond help_on (Some help) (cond version_on (Some version) rest) ≡ Some (run wanted) → rest ≡ Some (run wanted)
no_flags true version_on rest wanted is = absurd cc
no_flags false true rest wanted is = absurd cc
no_flags false false rest wanted is = is

-- no records of a file are asked for where a run is
no_file : (text_of : List ℕ → Option (List ℕ)) (others : Bool) (values : CheckedValues) (file : Option (List ℕ)) (wanted : Run) → asked_of text_of others values file ≡ Some (run wanted)
    → run_by text_of values ≡ Some (run wanted)
no_file text_of others values None wanted is = is
no_file text_of true values (Some file) wanted is = absurd cc
no_file text_of false values (Some file) wanted is = absurd cc

made_by : (text_of : List ℕ → Option (List ℕ)) (values : CheckedValues) (wanted : Run) → values_by text_of ≡ Some values → run_by text_of values ≡ Some (run wanted) → Made wanted
made_by text_of values wanted read is =
    option_and_then_some _ (maybe definition (text_of (codes "S"))) (run wanted) is (λ defined defines rest.
    option_and_then_some _ (text_of (codes "c")) (run wanted) rest (λ conf there ends.
    let own : Run = run_with text_of values defined conf in
    let same = (cond_some (has_its_capture own) (run own) (run wanted) ends).1 in
    record { text_of = text_of; values = values; defined = defined; conf = conf; read = read; defines = defines; is = ap (run_in own) same }))

asked_made : (text_of : List ℕ → Option (List ℕ)) (others : Bool) (wanted : Run) → asked_by text_of others ≡ Some (run wanted) → Made wanted
unfolding asked_by
asked_made text_of others wanted is =
    option_and_then_some (first_asked text_of others) (values_by text_of) (run wanted) is (λ values read asks.
    made_by text_of values wanted read
    (no_file text_of others values (text_of (codes "read-unified2")) wanted
    (no_flags (is_some (text_of (codes "help"))) (is_some (text_of (codes "V"))) (asked_of text_of others values (text_of (codes "read-unified2"))) wanted asks)))

made : (words : List (List ℕ)) (wanted : Run) → command_line words ≡ Some (run wanted) → Made wanted
unfolding command_line
made words wanted is =
    option_and_then_some (λ (uses : List Use). asked_by (value_in uses) (has_others uses)) (uses_of table (drop 1 words)) (run wanted) is
    (λ uses used asks. asked_made (value_in uses) (has_others uses) wanted asks)

-- ---- the variable

-- the name of the variable, if there is one, is a name
abbrev pub IsNamed : Option Defined → Type 0
IsNamed None = Unit {0}
IsNamed (Some defined) = IsName defined.name

pair_named : (name value : List ℕ) (defined : Defined) → named name value ≡ Some defined → IsName defined.name
pair_named name value defined is =
    let parts = cond_some (is_name name && not (length value == 0)) _ defined is in
    let P : Defined → Type 0 = λ d. IsName d.name in
    subst P parts.1 (and_parts (is_name name) (not (length value == 0)) parts.0).0

definition_named : (text : List ℕ) (defined : Defined) → definition text ≡ Some defined → IsName defined.name
definition_named text defined is =
    option_and_then_some (λ (parts : List ℕ × List ℕ). named parts.0 parts.1) (cut 61 text) defined is
    (λ parts found says. pair_named parts.0 parts.1 defined says)

maybe_named : (text : Option (List ℕ)) (defined : Option Defined) → maybe definition text ≡ Some defined → IsNamed defined
maybe_named text None is = tt
maybe_named None (Some defined) is = absurd cc
maybe_named (Some text) (Some defined) is = by_read (definition text) refl is
  where
    by_read : (read : Option Defined) → definition text ≡ read → option_map Some read ≡ Some (Some defined) → IsName defined.name
    by_read None from found = absurd cc
    by_read (Some own) from found =
        let same : own ≡ defined = cc in
        let P : Defined → Type 0 = λ d. IsName d.name in
        subst P same (definition_named text own from)

-- the variable that the words of a run define has a name
pub run_named : (words : List (List ℕ)) (wanted : Run) → command_line words ≡ Some (run wanted) → IsNamed wanted.defined
run_named words wanted is =
    let m = made words wanted is in
    let P : Run → Type 0 = λ w. IsNamed w.defined in
    subst P m.is (maybe_named (m.text_of (codes "S")) m.defined m.defines)

-- ---- the numbers

number_ranged : (least most n : ℕ) (text : List ℕ) → number_in least most text ≡ Some n → (least ≤ n) × (n ≤ most)
unfolding number_in
number_ranged least most n text is =
    option_and_then_some (kept_in least most) (whole_number text) n is
    (λ number read kept.
    let parts = cond_some (nat_le least number && nat_le number most) number n kept in
    let both = and_parts (nat_le least number) (nat_le number most) parts.0 in
    subst (λ (m : ℕ). (least ≤ m) × (m ≤ most)) parts.1 (nat_le-true least number both.0, nat_le-true number most both.1))
  where
    nat_le-true : (a b : ℕ) → nat_le a b ≡ true → a ≤ b
    nat_le-true a b is = grind (arith, nat_tests)

number_or-ranged : (missing least most n : ℕ) (text : Option (List ℕ)) → least ≤ missing → missing ≤ most → number_or missing least most text ≡ Some n → (least ≤ n) × (n ≤ most)
number_or-ranged missing least most n None low high is =
    let same : missing ≡ n = cc in
    subst (λ (m : ℕ). (least ≤ m) × (m ≤ most)) same (low, high)
number_or-ranged missing least most n (Some text) low high is = number_ranged least most n text is

-- what a value that was mapped comes from
mapped_from : {A B P : Type 0} (f : A → B) (o : Option A) (y : B) → option_map f o ≡ Some y → ((x : A) → f x ≡ y → P) → P
mapped_from f None y is next = absurd cc
mapped_from f (Some x) y is next = next x cc

-- 1 to 64 lanes, and 1 to 65536 bytes of a stream item
abbrev pub AreRanged : ℕ → ℕ → Type 0
AreRanged lanes flush = ((1 ≤ lanes) × (lanes ≤ 64)) × ((1 ≤ flush) × (flush ≤ 65536))

after_ranged : (text_of : List ℕ → Option (List ℕ)) (values : CheckedValues) → values_after text_of ≡ Some values → AreRanged values.lanes values.flush_point
after_ranged text_of values is =
    option_and_then_some _ (maybe mode_named (text_of (codes "k"))) values is (λ checks read_checks is_checks.
    option_and_then_some _ (maybe (number_in 1 4294967295) (text_of (codes "n"))) values is_checks (λ limit read_limit is_limit.
    option_and_then_some _ (number_or 1 1 64 (text_of (codes "lanes"))) values is_limit (λ lanes read_lanes is_lanes.
    option_and_then_some _ (number_or 1024 1 65536 (text_of (codes "flush-point"))) values is_lanes (λ flush read_flush is_flush.
    option_and_then_some _ (maybe (number_in 1 100000) (text_of (codes "generate"))) values is_flush (λ generate read_generate is_generate.
    let few = number_or-ranged 1 1 64 lanes (text_of (codes "lanes")) (omega arith) (omega arith) read_lanes in
    let least = number_or-ranged 1024 1 65536 flush (text_of (codes "flush-point")) (omega arith) (omega arith) read_flush in
    mapped_from _ (number_or 1 0 2147483647 (text_of (codes "seed"))) values is_generate (λ seed are.
    let same_lanes : lanes ≡ values.lanes = ap (λ (v : CheckedValues). v.lanes) are in
    let same_flush : flush ≡ values.flush_point = ap (λ (v : CheckedValues). v.flush_point) are in
    subst (λ (n : ℕ). AreRanged n values.flush_point) same_lanes (subst (λ (n : ℕ). AreRanged lanes n) same_flush (few, least))))))))

by_console : (b : Bool) (rest : Option CheckedValues) (values : CheckedValues) → cond b rest None ≡ Some values → rest ≡ Some values
by_console true rest values is = is
by_console false rest values is = absurd cc

values_ranged : (text_of : List ℕ → Option (List ℕ)) (values : CheckedValues) → values_by text_of ≡ Some values → AreRanged values.lanes values.flush_point
unfolding values_by
values_ranged text_of values is = after_ranged text_of values (by_console (is_console (text_of (codes "A"))) (values_after text_of) values is)

-- the numbers of a run lie in their ranges
pub run_ranged : (words : List (List ℕ)) (wanted : Run) → command_line words ≡ Some (run wanted) → AreRanged wanted.lanes wanted.flush_point
run_ranged words wanted is =
    let m = made words wanted is in
    let P : Run → Type 0 = λ w. AreRanged w.lanes w.flush_point in
    subst P m.is (values_ranged m.text_of m.values m.read)
