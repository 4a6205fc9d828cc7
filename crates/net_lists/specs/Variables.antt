-- Variables: their names, and what stands for each.
--
-- A name is a letter or `_`, followed by letters, digits and `_`. A later definition replaces an earlier
-- one, but for a variable that is fixed, as those of the command line are.
-- (Snort Users Manual 2.9, "Variables".)
-- To try it on: N defined as 7 and fixed, and then as 8, is 7.
use Rattle.std.specs.Prelude.{ℕ, ◌==◌, ◌&&◌, ◌||◌, Bool, false, Option, Some, None, List, [], ◌∷◌, IsTrue, refl, if◌then◌else◌}
use Rattle.std.specs.Char.{is_ascii_alphabetic, is_ascii_alphanumeric}
use Rattle.std.specs.List.{list_all}
use Rattle.std.specs.Ordering.{nat_cmp}
use Rattle.std.specs.Cmp.Lexicographic.{slice_cmp}
use Rattle.std.specs.Coded.{Coded, code_by, coded×, coded_list, coded_ℕ, coded_bool}
use Rattle.std.specs.FinMap as map

-- a letter or `_`
abbrev pub begins_name : ℕ → Bool
begins_name byte = is_ascii_alphabetic byte || byte == 95

-- a letter, a digit or `_`
abbrev pub continues_name : ℕ → Bool
continues_name byte = is_ascii_alphanumeric byte || byte == 95

-- a letter or `_`, and then letters, digits and `_`
unfoldable pub is_name : List ℕ → Bool
is_name [] = false
is_name (first ∷ rest) = begins_name first && list_all continues_name rest

-- the text is a variable's name
abbrev pub IsName : List ℕ → Type 0
IsName text = IsTrue (is_name text)

-- what a name stands for, and whether it stays so
pub record Variable : Type 0 where
  pub value : List ℕ
  pub fixed : Bool

-- a variable is stored as the pair of its fields
abbrev pub variable_code : Coded Variable
variable_code =
    code_by (List ℕ × Bool) (coded× (coded_list coded_ℕ) coded_bool) (λ v. (v.value, v.fixed))
    (λ p. record { value = p.0; fixed = p.1 }) (λ _. refl)

-- from names to what they stand for
abbrev pub Variables : Type 0
Variables = map.FinMap (slice_cmp nat_cmp) Variable

-- the name is there, and fixed
abbrev pub is_fixed : Option Variable → Bool
is_fixed None = false
is_fixed (Some variable) = variable.fixed

-- what the name stands for
abbrev pub value_of : Option Variable → Option (List ℕ)
value_of None = None
value_of (Some variable) = Some variable.value

-- the variables after a definition: as they were where the name is fixed
abbrev pub defined : Variables → List ℕ → List ℕ → Bool → Variables
defined variables name value fixed =
    if is_fixed (map.get variables name) then variables else map.insert variables name (record { value = value; fixed = fixed })
