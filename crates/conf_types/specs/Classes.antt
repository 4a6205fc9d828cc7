-- The classes of rules, by their names. (Snort Users Manual 2.9, section 3.4.6.)
--
-- To try it on: of the classes `a` and `b`, `b` has the place 1, and `B` has none.
use Rattle.std.specs.Prelude.{ℕ, Option, List, position, bytes_eq}
use Rattle.conf_types.specs.declared.classes.Class.{Class}

-- the place of the class of this name
abbrev pub class_place : List Class → List ℕ → Option ℕ
class_place classes name = position (λ class. bytes_eq class.name name) classes
