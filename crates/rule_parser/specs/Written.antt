-- Cutting the options of a rule (Snort Users Manual 2.9, section 3.3).
--
-- An option ends at a `;` outside double quotes; a backslash takes the next byte along, inside quotes and
-- outside. An option is a name, or a name, a `:` and a value; the blanks around both are dropped. After the
-- last `;` only blanks may come.
-- To try it on: `msg:"a;b\"";sid:1; ` is cut into `msg:"a;b\""`, `sid:1` and a blank rest.
use Rattle.std.specs.Prelude.{◌≡◌, ℕ, ⊤, ◌+◌, ◌-◌, ◌==◌, ◌&&◌, Bool, true, false, not, Option, Some, None, List, [], ◌∷◌, ◌++◌, length, take, drop, position, option_copied, if◌then◌else◌}
use Rattle.std.specs.List.{onto_first, prefix_len}
use Rattle.std.specs.Option.{option_map}
use Rattle.edge_io.specs.Bytes.{is_blank, trimmed}
use Rattle.rule_parser.specs.declared.written.LentOption.{LentOption}
use Rattle.rule_parser.specs.declared.written.Quoting.{Quoting}

-- the place of a byte outside quotes
abbrev pub outside : Quoting
outside = record { quoted = false; escaped = false }

-- how a byte is quoted after another: a backslash (92) takes the next one along, and another `"` (34) opens or closes
unfoldable pub after_byte : Quoting → ℕ → Quoting
after_byte at byte =
    if at.escaped then record { quoted = at.quoted; escaped = false }
    else if byte == 92 then record { quoted = at.quoted; escaped = true }
    else if byte == 34 then record { quoted = not at.quoted; escaped = false }
    else at

-- a `;` (59) that ends an option
unfoldable pub ends_option : Quoting → ℕ → Bool
ends_option at byte = (not at.quoted && not at.escaped) && byte == 59

-- how many bytes come before the `;` that ends the first option
unfoldable pub option_len : Quoting → List ℕ → Option ℕ
option_len at [] = None
option_len at (byte ∷ rest) =
    if ends_option at byte then Some 0 else option_map (λ len. len + 1) (option_len (after_byte at byte) rest)

-- the texts of the options, and after them what comes after the last `;`
unfoldable pub option_texts : Quoting → List ℕ → List (List ℕ)
option_texts at [] = [] ∷ []
option_texts at (byte ∷ rest) =
    if ends_option at byte then [] ∷ option_texts outside rest else onto_first byte (option_texts (after_byte at byte) rest)

-- these bytes are the first option of a text, and what comes after its `;`
pub record IsFirstOption (text option after : List ℕ) : Type 0 where
  pub texts : option_texts outside text ≡ option ∷ option_texts outside after
  pub lengths : length option + 1 + length after ≡ length text

-- no option ends in this text, and it closes each quote that it opens
abbrev pub IsClosed : Quoting → List ℕ → Type 0
IsClosed at [] = at ≡ outside
IsClosed at (byte ∷ rest) = (ends_option at byte ≡ false) × IsClosed (after_byte at byte) rest

-- the text of one option
abbrev pub IsOptionText : List ℕ → Type 0
IsOptionText text = IsClosed outside text

-- each of these texts is that of one option
abbrev pub AreOptionTexts : List (List ℕ) → Type 0
AreOptionTexts [] = ⊤
AreOptionTexts (option ∷ more) = IsOptionText option × AreOptionTexts more

-- options as they are written, each with a `;` after it, and then this text
unfoldable pub options_text : List (List ℕ) → List ℕ → List ℕ
options_text [] rest = rest
options_text (option ∷ more) rest = option ++ 59 ∷ options_text more rest

-- An option's name and value, and how many bytes of the line are left where the value begins.
pub record Written : Type 0 where
  pub name : List ℕ
  pub value : Option (List ℕ)
  pub left : ℕ

-- what is seen of an option that the code lends
abbrev pub seen_option : LentOption → Written
seen_option option = record { name = option.name.now; value = option_copied option.value; left = option.left }

-- an option by the place of its first `:` (58)
abbrev pub written_at : ℕ → List ℕ → Option ℕ → Written
written_at left text None = record { name = trimmed text; value = None; left = left }
written_at left text (Some place) = record {
  name = trimmed (take place text);
  value = Some (trimmed (drop (place + 1) text));
  left = left - (place + 1) - prefix_len is_blank (drop (place + 1) text);
}

-- what an option's text says; `left` bytes of the line are left where it begins
unfoldable pub written : ℕ → List ℕ → Written
written left text = written_at left text (position (λ byte. byte == 58) text)
