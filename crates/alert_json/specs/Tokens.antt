-- The tokens of an object's members: a key, and then the tokens of its value.
use Rattle.std.specs.Prelude.{◌≡◌, List, [], ◌∷◌, ◌++◌, ⊤}
use Rattle.json.specs.Token.{Token}
use Rattle.json.specs.Tree.{json_tokens}
use Rattle.serde_json.specs.Written.{outline}
use Rattle.alert_json.specs.Value.{Field}
use Rattle.alert_json.specs.Reading.{IsWhole}

unfoldable pub fields_tokens : List Field → List Token
fields_tokens [] = []
fields_tokens (field ∷ fields) = Token.key field.0 ∷ (json_tokens (outline field.1) ++ fields_tokens fields)

-- the numbers of members have at most 64 bits
abbrev pub AreWhole : List Field → Type 0
AreWhole [] = ⊤
AreWhole (field ∷ fields) = IsWhole field.1 × AreWhole fields

-- members were written after tokens
pub record Adds (old new : List Token) (fields : List Field) : Type 0 where
  pub added : new ≡ old ++ fields_tokens fields
  pub whole : AreWhole fields
