-- The expansion of a text: each form stands for its variable's value; all else is copied.
--
-- A text is seen as pieces in order: bytes, or the place of what an undefined variable shows. The
-- expansion is the bytes of all pieces. It is refused at the first undefined variable, or where the bytes
-- before that are more than 65536. (Snort Users Manual 2.9, "Variables"; the limit is our own.)
-- To try it on: with N as 7, `$N$(M:-9)$` is 7, 9 and `$`, so `79$`.
use denote.Ref.{Bor}
use Rattle.std.specs.Prelude.{◌≡◌, ℕ, zero, suc, ◌+◌, ◌-◌, ◌<◌, ◌≤◌, ◌==◌, ⊤, Option, Some, None, Result, Ok, Err, List, [], ◌∷◌, ◌++◌, length, take, drop, nat_lt, if◌then◌else◌}
use Rattle.std.specs.FinMap as map
use Rattle.edge_io.specs.declared.pattern.Span.{Span}
use Rattle.net_lists.specs.declared.fault.ExpandFault.{ExpandFault}
use Rattle.net_lists.specs.declared.fault.ExpandFault.TheVariants.{Unknown, TooLong, NoMemory}
use Rattle.net_lists.specs.Forms.{Form, Otherwise, Default, Refused, form_at}
use Rattle.net_lists.specs.Variables.{Variable, Variables}

-- bytes, or the place of what an undefined variable shows
pub data Piece : Type 0 where
  Bytes : List ℕ → Piece
  Missing : Span → Piece

-- what an undefined variable gives
abbrev pub otherwise_of : List ℕ → Otherwise → Piece
otherwise_of text (Default span) = Bytes (take (span.end - span.start) (drop span.start text))
otherwise_of text (Refused span) = Missing span

-- what a form gives
abbrev pub piece_of : List ℕ → Form → Option Variable → Piece
piece_of text form (Some variable) = Bytes variable.value
piece_of text form None = otherwise_of text form.otherwise

-- the variable of a form
abbrev pub variable_of : Variables → List ℕ → Form → Option Variable
variable_of variables text form = map.get variables (take (form.name.end - form.name.start) (drop form.name.start text))

-- The pieces of the rest of a text, which begins at this place; the next `passed` bytes of it belong to a
-- form before it.
unfoldable pub pieces : Variables → List ℕ → ℕ → ℕ → List ℕ → List Piece
pieces variables text place passed [] = []
pieces variables text place (suc passed) (byte ∷ rest) = pieces variables text (place + 1) passed rest
pieces variables text place zero (byte ∷ rest) =
    if byte == 36 then elim (form_at text (place + 1)) [
      | None ↦ Bytes (byte ∷ []) ∷ pieces variables text (place + 1) 0 rest
      | Some form ↦ piece_of text form (variable_of variables text form) ∷ pieces variables text (place + 1)
          (form.end - (place + 1)) rest
    ]
    else Bytes (byte ∷ []) ∷ pieces variables text (place + 1) 0 rest

-- these bytes before what follows, if that is not refused
abbrev pub with_front : List ℕ → Result (List ℕ) ExpandFault → Result (List ℕ) ExpandFault
with_front front (Ok rest) = Ok (front ++ rest)
with_front front (Err fault) = Err fault

-- the bytes of the pieces up to the first that misses, of which at most `room` may come
unfoldable pub put_together : ℕ → List Piece → Result (List ℕ) ExpandFault
put_together room [] = Ok []
put_together room (Bytes bytes ∷ rest) =
    if nat_lt room (length bytes) then Err TooLong else with_front bytes (put_together (room - length bytes) rest)
put_together room (Missing span ∷ rest) = Err (Unknown span.start span.end)

-- the expansion of a text, or why there is none
unfoldable pub expansion : Variables → List ℕ → Result (List ℕ) ExpandFault
expansion variables text = put_together 65536 (pieces variables text 0 0 text)

-- an answer, with the bytes that it appended, stands for this expansion; want of memory for any
abbrev pub Expands : {T : Type 0} → Result T ExpandFault → List ℕ → Result (List ℕ) ExpandFault → Type 0
Expands (Ok done) appended expanded = expanded ≡ Ok appended
Expands (Err NoMemory) appended expanded = ⊤
Expands (Err (Unknown from to)) appended expanded = expanded ≡ Err (Unknown from to)
Expands (Err TooLong) appended expanded = expanded ≡ Err TooLong

-- a piece of the text at a place, with the place after it, or what an undefined variable shows there
abbrev pub GivesPiece : Variables → List ℕ → ℕ → Result (Bor (List ℕ) × ℕ) Span → Type 0
GivesPiece variables text place (Ok found) =
    (place < found.1) × (found.1 ≤ length text) × (pieces variables text place 0 (drop place text)
    ≡ Bytes found.0.now ∷ pieces variables text found.1 0 (drop found.1 text))
GivesPiece variables text place (Err span) =
    (rest : List Piece) × (pieces variables text place 0 (drop place text) ≡ Missing span ∷ rest)
