-- What the words of a command say of a setup.
--
-- The configuration's name follows `-c`, and a variable `-S` (Snort Users Manual 2.9, section
-- 1.4 and "Variables"); `--host-table` and `--skip-refused` are our own. The variable's value is taken as it
-- is: a `$` in it is not expanded. It is fixed: no line of the configuration gives it another value.
-- To try it on: after `-S N=$M` the variable N stands for the two bytes `$M`.
use Rattle.std.specs.Prelude.{ℕ, Bool, true, List, Option, Some, None}
use Rattle.std.specs.Option.{option_map}
use Rattle.std.specs.FinMap as map
use Rattle.net_lists.specs.Variables.{Variables, IsName, defined}
use Rattle.snort_setup.specs.declared.words.SetupWords as code

-- a variable that the words define
pub record Definition : Type 0 where
  pub name : List ℕ
  pub value : List ℕ

-- the names of the configuration and of the host table, if one is named; the variable that is defined, if
-- one is; and whether rules that are refused for two reasons are skipped
pub record Words : Type 0 where
  pub conf : List ℕ
  pub definition : Option Definition
  pub host_table : Option (List ℕ)
  pub skips : Bool

-- the variables before the configuration is read
abbrev pub first_variables : Option Definition → Variables
first_variables None = map.empty
first_variables (Some definition) = defined map.empty definition.name definition.value true

-- the name of the variable that is defined is a name
abbrev pub HasName : Option Definition → Type 0
HasName None = Unit {0}
HasName (Some definition) = IsName definition.name

-- the words as the code has them
abbrev pub words_of : code.SetupWords → Words
words_of words = record {
  conf = words.conf.now;
  definition = option_map (λ pair. record { name = pair.0.now; value = pair.1.now }) words.defined;
  host_table = option_map (λ name. name.now) words.host_table;
  skips = words.skip_refused;
}
