-- The forms in which a text names a variable: `$N`, `$(N)`, `$(N:-default)` and `$(N:?text)`.
--
-- A name goes as far as its bytes do. The default and the text end at the first `)`. Any other `$` is
-- only itself. (Snort Users Manual 2.9, "Variables".)
-- To try it on: in `$(M:?need M)` the form names places 2 to 3, and shows places 5 to 11.
use Rattle.std.specs.Prelude.{ℕ, ◌+◌, ◌≤◌, ◌==◌, Option, Some, None, List, [], ◌∷◌, length, drop, position, codes, nat_eq, if◌then◌else◌}
use Rattle.std.specs.List.{starts_with, prefix_len}
use Rattle.std.specs.Option.{option_map}
use Rattle.edge_io.specs.declared.pattern.Span.{Span}
use Rattle.net_lists.specs.Variables.{begins_name, continues_name}

-- what stands for an undefined variable
pub data Otherwise : Type 0 where
  -- these bytes of the text, copied;
  Default : Span → Otherwise
  -- or nothing: these bytes are shown
  Refused : Span → Otherwise

-- a form that names a variable, by places in the text: its name, and the place after it
pub record Form : Type 0 where
  pub name : Span
  pub end : ℕ
  pub otherwise : Otherwise

-- the span from this place up to that
abbrev pub span : ℕ → ℕ → Span
span start end = record { start = start; end = end }

-- how many bytes of a name are in front
unfoldable pub name_len : List ℕ → ℕ
name_len [] = 0
name_len (first ∷ rest) = if begins_name first then 1 + prefix_len continues_name rest else 0

-- the span from this place up to the first `)` (41), if there is one
unfoldable pub closed : List ℕ → ℕ → Option Span
closed text place = option_map (λ count. span place (place + count)) (position (λ byte. byte == 41) (drop place text))

-- the form with this name that ends after the `)` of this span
abbrev pub form_to : Span → (Span → Otherwise) → Span → Form
form_to name otherwise shown = record { name = name; end = shown.end + 1; otherwise = otherwise shown }

-- the form in parentheses with this name, by what comes after the name
unfoldable pub named_form : List ℕ → Span → Option Form
named_form text name =
    let after = drop name.end text in
    if starts_with nat_eq after (codes ")") then Some (record { name = name; end = name.end + 1; otherwise = Refused name })
    else if starts_with nat_eq after (codes ":-") then option_map (form_to name (λ shown. Default shown))
    (closed text (name.end + 2))
    else if starts_with nat_eq after (codes ":?") then option_map (form_to name (λ shown. Refused shown))
    (closed text (name.end + 2))
    else None

-- the form in parentheses whose name begins at this place
unfoldable pub parenthesized : List ℕ → ℕ → Option Form
parenthesized text place =
    let len = name_len (drop place text) in
    if len == 0 then None else named_form text (span place (place + len))

-- the form that is a name alone, from this place on
unfoldable pub bare : List ℕ → ℕ → Option Form
bare text place =
    let len = name_len (drop place text) in
    if len == 0 then None else Some (record {
      name = span place (place + len);
      end = place + len;
      otherwise = Refused (span place (place + len));
    })

-- the form whose `$` comes right before this place
unfoldable pub form_at : List ℕ → ℕ → Option Form
form_at text place = if starts_with nat_eq (drop place text) (codes "(") then parenthesized text (place + 1) else bare text place

-- a span within a text
abbrev pub IsSpan : List ℕ → Span → Type 0
IsSpan text span = (span.start ≤ span.end) × (span.end ≤ length text)
