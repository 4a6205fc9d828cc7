-- Settings that are a name and its value, one after another, as words between blanks and commas.
--
-- To try it on: where `c` has no value, the words `a 1 c b` are the settings `a` with the value `1`, `c`, and
-- `b`, which lacks its value.
use Rattle.std.specs.Prelude.{ℕ, Bool, Option, Some, None, Result, List, [], ◌∷◌, if◌then◌else◌}
use Rattle.net_lists.specs.Folds.{draft_after}
use Rattle.net_lists.specs.Cutting.{settings}
use Rattle.conf_parser.specs.declared.line.ConfKind.{ConfKind}

-- a name, and the word after it, if it has one
pub record Setting : Type 0 where
  pub name : List ℕ
  pub value : Option (List ℕ)

-- a name with its value, if it has one
abbrev pub setting : List ℕ → Option (List ℕ) → Setting
setting name value = record { name = name; value = value }

-- the settings that words are; `alone` says which names have no value
unfoldable pub paired : (List ℕ → Bool) → List (List ℕ) → List Setting
paired alone [] = []
paired alone (name ∷ []) = setting name None ∷ []
paired alone (name ∷ value ∷ rest) =
    if alone name then setting name None ∷ paired alone (value ∷ rest) else setting name (Some value) ∷ paired alone rest

-- the draft after all settings of a text, or the kind of the first that is refused
abbrev pub settings_after : {D : Type 0} → (List ℕ → Bool) → (D → List ℕ → Option (List ℕ) → Result D ConfKind) → D → List ℕ
    → Result D ConfKind
settings_after alone step draft text =
    draft_after (λ d setting. step d setting.name setting.value) draft (paired alone (settings text))
