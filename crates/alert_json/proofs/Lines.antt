-- An object that was written by its tokens, as a text.
use Rattle.std.proofs.Common.{◌≡◌, ℕ, ◌≤◌, List, [], ◌∷◌, ◌++◌, ap, ◌∙◌, arith}
use Rattle.std.specs.Str.{IsUtf8}
use Rattle.json.specs.Token.{Token}
use Rattle.json.specs.Print.{print}
use Rattle.json.specs.Tree.{json_tokens}
use Rattle.serde_json.specs.Data.{depth}
use Rattle.serde_json.specs.Read.{max_depth}
use Rattle.serde_json.specs.Written.{outline, compact_text}
use Rattle.serde_json.proofs.Texts.{print-outline}
use Rattle.alert_json.specs.Value.{Field, object_of}
use Rattle.alert_json.specs.Reading.{IsTextOf}
use Rattle.alert_json.specs.Tokens.{Adds}
use Rattle.alert_json.proofs.Adding.{object_tokens, whole-members}
use Rattle.alert_json.proofs.ReadBack.{text_of_value}
use Rattle.alert_json.proofs.Depths.{IsLow, members_depth-low}

-- the tokens of a whole object, from none on
pub record WritesObject (fields : List Field) (ended : List Token) : Type 0 where
  pub start : List Token
  pub opened : List Token
  pub filled : List Token
  pub none : start ≡ []
  pub begun : opened ≡ start ++ Token.begin_object ∷ []
  pub between : Adds opened filled fields
  pub closed : ended ≡ filled ++ Token.end_object ∷ []

pub writes : (fields : List Field) (start opened filled ended : List Token)
    → start ≡ []
    → opened ≡ start ++ Token.begin_object ∷ []
    → Adds opened filled fields
    → ended ≡ filled ++ Token.end_object ∷ []
    → WritesObject fields ended
writes fields start opened filled ended none begun between closed = record {
  start = start;
  opened = opened;
  filled = filled;
  none = none;
  begun = begun;
  between = between;
  closed = closed;
}

printed : (fields : List Field) (ended : List Token) → WritesObject fields ended → print ended ≡ print (json_tokens (outline (object_of fields)))
printed fields ended w =
    ap print (object_tokens w.start w.opened w.filled ended fields w.begun w.between w.closed ∙ ap (λ (ts : List Token). ts ++ json_tokens (outline (object_of fields))) w.none)

pub line-text : (fields : List Field) (ended : List Token) (before items : List ℕ) → WritesObject fields ended → before ≡ [] → items ≡ before ++ print ended → items ≡ compact_text (object_of fields)
line-text fields ended before items w none is =
    is ∙ ap (λ (x : List ℕ). x ++ print ended) none ∙ printed fields ended w ∙ print-outline (object_of fields)

pub line-reads : (fields : List Field) (ended : List Token) → WritesObject fields ended → IsUtf8 (print ended) → IsLow 1 fields → IsTextOf (object_of fields) (compact_text (object_of fields))
line-reads fields ended w utf8 low =
    let shallow : depth (object_of fields) ≤ max_depth = omega (arith, members_depth-low 1 fields low.low) in
    text_of_value (object_of fields) (print ended) (printed fields ended w) utf8 (whole-members fields w.between.whole) shallow
