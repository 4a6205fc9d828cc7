-- The text of bytes: UTF-8, or Latin-1, byte by byte.
use Rattle.std.proofs.Common.{◌≡◌, ℕ, ◌+◌, ◌<◌, Bool, true, false, cond, List, [], ◌∷◌, ◌++◌, length, get_or, take, refl, sym, ap, ◌∙◌, append-nil}
use Rattle.std.specs.Char.{encode_utf8}
use Rattle.std.specs.Str.{IsUtf8, encode_utf8_all}
use Rattle.std.proofs.lemmas.List.{take_more}
use Rattle.std.proofs.lemmas.Str.{encodes-append, IsUtf8-from_is_utf8, is_utf8-from_IsUtf8}
use Rattle.alert_json.specs.Texts.{text_of}

pub latin_more : (middle new bytes : List ℕ) (i d : ℕ)
    → i < length bytes
    → middle ≡ encode_utf8_all (take i bytes)
    → new ≡ middle ++ encode_utf8 (get_or bytes i d)
    → new ≡ encode_utf8_all (take (i + 1) bytes)
latin_more middle new bytes i d lt so_far more =
    more ∙ ap (λ (x : List ℕ). x ++ encode_utf8 (get_or bytes i d)) so_far
    ∙ ap (λ (x : List ℕ). encode_utf8_all (take i bytes) ++ x) (sym (append-nil (encode_utf8 (get_or bytes i d))))
    ∙ sym (ap encode_utf8_all (take_more bytes i d lt) ∙ encodes-append (take i bytes) (get_or bytes i d ∷ []))

first : (b : Bool) (x y : List ℕ) → b ≡ true → cond b x y ≡ x
first true x y h = refl
first false x y h = absurd cc

second : (b : Bool) (x y : List ℕ) → (b ≡ true → ⊥) → cond b x y ≡ y
second true x y h = absurd (h refl)
second false x y h = refl

pub text_of-utf8 : (bytes : List ℕ) → IsUtf8 bytes → text_of bytes ≡ bytes
unfolding text_of
text_of-utf8 bytes h = first _ _ _ (is_utf8-from_IsUtf8 bytes h)

pub text_of-other : (bytes : List ℕ) → (IsUtf8 bytes → ⊥) → text_of bytes ≡ encode_utf8_all bytes
unfolding text_of
text_of-other bytes h = second _ _ _ (λ e. h (IsUtf8-from_is_utf8 bytes e))
