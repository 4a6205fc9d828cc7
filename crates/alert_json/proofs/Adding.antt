-- Members that are written one after another.
use Rattle.std.proofs.Common.{◌≡◌, ℕ, ◌<◌, ◌^◌, List, [], ◌∷◌, ◌++◌, refl, sym, ap, subst, ◌∙◌, append_assoc, append-nil}
use Rattle.std.specs.Prelude.{decimal}
use Rattle.json.specs.Token.{Token}
use Rattle.json.specs.Tree.{json_tokens, members_tokens}
use Rattle.serde_json.specs.Data.{Data, number, string, unsigned}
use Rattle.serde_json.specs.Written.{outline, members_outline}
use Rattle.alert_json.specs.Value.{Field, members_of, object_of, text_field, number_field, object_field}
use Rattle.alert_json.specs.Reading.{IsWhole, MembersAreWhole}
use Rattle.alert_json.specs.Tokens.{fields_tokens, AreWhole, Adds}

pub fields_tokens-append : (xs ys : List Field) → fields_tokens (xs ++ ys) ≡ fields_tokens xs ++ fields_tokens ys
unfolding fields_tokens
fields_tokens-append [] ys = refl
fields_tokens-append (x ∷ xs) ys =
    ap (λ (ts : List Token). Token.key x.0 ∷ (json_tokens (outline x.1) ++ ts)) (fields_tokens-append xs ys)
    ∙ ap (λ (ts : List Token). Token.key x.0 ∷ ts) (sym (append_assoc (json_tokens (outline x.1)) (fields_tokens xs) (fields_tokens ys)))

pub AreWhole-append : (xs ys : List Field) → AreWhole xs → AreWhole ys → AreWhole (xs ++ ys)
AreWhole-append [] ys h k = k
AreWhole-append (x ∷ xs) ys h k = (h.0, AreWhole-append xs ys h.1 k)

-- no member was written
pub none : (old : List Token) → Adds old old []
unfolding fields_tokens
none old = record { added = sym (append-nil old); whole = tt }

-- members, and then others
pub then : {old mid new : List Token} {a b : List Field} → Adds old mid a → Adds mid new b → Adds old new (a ++ b)
then {old} {mid} {new} {a} {b} first second = record {
  added = second.added
      ∙ ap (λ (ts : List Token). ts ++ fields_tokens b) first.added
      ∙ append_assoc old (fields_tokens a) (fields_tokens b)
      ∙ ap (λ (ts : List Token). old ++ ts) (sym (fields_tokens-append a b));
  whole = AreWhole-append a b first.whole second.whole;
}

-- one member: its key, and the tokens of its value
pub member : (old mid new : List Token) (key : List ℕ) (value : Data) → mid ≡ old ++ Token.key key ∷ [] → new ≡ mid ++ json_tokens (outline value) → IsWhole value → Adds old new ((key, value) ∷ [])
unfolding fields_tokens
member old mid new key value named written whole = record {
  added = written
      ∙ ap (λ (ts : List Token). ts ++ json_tokens (outline value)) named
      ∙ append_assoc old (Token.key key ∷ []) (json_tokens (outline value))
      ∙ ap (λ (ts : List Token). old ++ Token.key key ∷ ts) (sym (append-nil (json_tokens (outline value))));
  whole = (whole, tt);
}

pub text_member : (old mid new : List Token) (key text : List ℕ) → mid ≡ old ++ Token.key key ∷ [] → new ≡ mid ++ Token.string text ∷ [] → Adds old new (text_field key text)
text_member old mid new key text named written = member old mid new key (string text) named written tt

-- a member whose text is known by another name is the same member
pub text-same : (old new : List Token) (key text other : List ℕ) → text ≡ other → Adds old new (text_field key text) → Adds old new (text_field key other)
text-same old new key text other same h = subst (λ (t : List ℕ). Adds old new (text_field key t)) same h

pub number_member : (old mid new : List Token) (key : List ℕ) (value : ℕ)
    → mid ≡ old ++ Token.key key ∷ []
    → new ≡ mid ++ Token.number (decimal value) ∷ []
    → value < 2 ^ 64
    → Adds old new (number_field key value)
number_member old mid new key value named written small = member old mid new key (number (unsigned value)) named written small

-- the tokens of an object's members, with the closing bracket
pub members_tokens-fields : (fields : List Field) → members_tokens (members_outline (members_of fields)) ≡ fields_tokens fields ++ Token.end_object ∷ []
unfolding fields_tokens
members_tokens-fields [] = refl
members_tokens-fields (f ∷ fs) =
    ap (λ (ts : List Token). Token.key f.0 ∷ (json_tokens (outline f.1) ++ ts)) (members_tokens-fields fs)
    ∙ ap (λ (ts : List Token). Token.key f.0 ∷ ts) (sym (append_assoc (json_tokens (outline f.1)) (fields_tokens fs) (Token.end_object ∷ [])))

pub whole-members : (fields : List Field) → AreWhole fields → MembersAreWhole (members_of fields)
whole-members [] h = tt
whole-members (f ∷ fs) h = (h.0, whole-members fs h.1)

-- an object: its brackets, and its members between them
pub object_tokens : (old opened filled new : List Token) (fields : List Field)
    → opened ≡ old ++ Token.begin_object ∷ []
    → Adds opened filled fields
    → new ≡ filled ++ Token.end_object ∷ []
    → new ≡ old ++ json_tokens (outline (object_of fields))
object_tokens old opened filled new fields begun between ended =
    ended
    ∙ ap (λ (ts : List Token). ts ++ Token.end_object ∷ []) (between.added ∙ ap (λ (ts : List Token). ts ++ fields_tokens fields) begun)
    ∙ append_assoc (old ++ Token.begin_object ∷ []) (fields_tokens fields) (Token.end_object ∷ [])
    ∙ append_assoc old (Token.begin_object ∷ []) (fields_tokens fields ++ Token.end_object ∷ [])
    ∙ ap (λ (ts : List Token). old ++ Token.begin_object ∷ ts) (sym (members_tokens-fields fields))

-- a member whose value is an object
pub object_member : (old named opened filled new : List Token) (key : List ℕ) (fields : List Field)
    → named ≡ old ++ Token.key key ∷ []
    → opened ≡ named ++ Token.begin_object ∷ []
    → Adds opened filled fields
    → new ≡ filled ++ Token.end_object ∷ []
    → Adds old new (object_field key fields)
object_member old named opened filled new key fields first begun between ended =
    member old named new key (object_of fields) first (object_tokens named opened filled new fields begun between ended) (whole-members fields between.whole)
