-- Putting pieces together, one after another.
use Rattle.std.proofs.Common.{◌≡◌, ℕ, ◌-◌, ◌<◌, ◌≤◌, List, [], ◌∷◌, ◌++◌, length, drop, Result, Ok, Err, refl, sym, ap, ◌∙◌, append_assoc}
use Rattle.std.proofs.lemmas.List.{append-nil, drop_at, drop_all}
use Rattle.std.proofs.lemmas.Bool.{lt-ltb, le-ltb}
use Rattle.edge_io.specs.declared.pattern.Span.{Span}
use Rattle.net_lists.specs.declared.fault.ExpandFault.{ExpandFault}
use Rattle.net_lists.specs.declared.fault.ExpandFault.TheVariants.{Unknown, TooLong}
use Rattle.net_lists.specs.Variables.{Variables}
use Rattle.net_lists.specs.Expansion.{Piece, Bytes, Missing, pieces, put_together, with_front}

with_front-with_front : (front back : List ℕ) (rest : Result (List ℕ) ExpandFault) → with_front front (with_front back rest) ≡ with_front (front ++ back) rest
with_front-with_front front back (Ok rest) = ap Ok (sym (append_assoc front back rest))
with_front-with_front front back (Err fault) = refl

with_front-nil : (rest : Result (List ℕ) ExpandFault) → rest ≡ with_front [] rest
with_front-nil (Ok rest) = refl
with_front-nil (Err fault) = refl

put_together-bytes : (room : ℕ) (bytes : List ℕ) (rest : List Piece) → length bytes ≤ room → put_together room (Bytes bytes ∷ rest) ≡ with_front bytes (put_together (room - length bytes) rest)
unfolding put_together
put_together-bytes room bytes rest fits = rw (le-ltb room (length bytes) fits) refl

put_together-long : (room : ℕ) (bytes : List ℕ) (rest : List Piece) → room < length bytes → put_together room (Bytes bytes ∷ rest) ≡ Err TooLong
unfolding put_together
put_together-long room bytes rest long = rw (lt-ltb room (length bytes) long) refl

put_together-missing : (room : ℕ) (span : Span) (rest : List Piece) → put_together room (Missing span ∷ rest) ≡ Err (Unknown span.start span.end)
unfolding put_together
put_together-missing room span rest = refl

put_together-nil : (room : ℕ) → put_together room [] ≡ Ok []
unfolding put_together
put_together-nil room = refl

pieces-nil : (variables : Variables) (text : List ℕ) (place : ℕ) → pieces variables text place 0 [] ≡ []
unfolding pieces
pieces-nil variables text place = refl

module _ (variables : Variables) (text : List ℕ) (whole : Result (List ℕ) ExpandFault) (front : List ℕ) (place room : ℕ)
    (so_far : whole ≡ with_front front (put_together room (pieces variables text place 0 (drop place text)))) where
  -- after a piece that fits
  pub fits_after : (bytes : List ℕ) (next : ℕ)
      → pieces variables text place 0 (drop place text) ≡ Bytes bytes ∷ pieces variables text next 0 (drop next text)
      → length bytes ≤ room
      → whole ≡ with_front (front ++ bytes) (put_together (room - length bytes) (pieces variables text next 0 (drop next text)))
  fits_after bytes next piece fits =
      so_far ∙ ap (λ ps. with_front front (put_together room ps)) piece
      ∙ ap (with_front front) (put_together-bytes room bytes _ fits)
      ∙ with_front-with_front front bytes _

  -- at one that doesn't
  pub long_at : (bytes : List ℕ) (next : ℕ) → pieces variables text place 0 (drop place text) ≡ Bytes bytes ∷ pieces variables text next 0 (drop next text) → room < length bytes → whole ≡ Err TooLong
  long_at bytes next piece long =
      so_far ∙ ap (λ ps. with_front front (put_together room ps)) piece ∙ ap (with_front front) (put_together-long room bytes _ long)

  -- at an undefined variable
  pub missing_at : (span : Span) (rest : List Piece) → pieces variables text place 0 (drop place text) ≡ Missing span ∷ rest → whole ≡ Err (Unknown span.start span.end)
  missing_at span rest piece =
      so_far ∙ ap (λ ps. with_front front (put_together room ps)) piece ∙ ap (with_front front) (put_together-missing room span rest)

  -- at the end
  pub ends_at : length text ≤ place → whole ≡ Ok front
  ends_at past =
      so_far ∙ ap (λ rest. with_front front (put_together room (pieces variables text place 0 rest))) (drop_all place text past)
      ∙ ap (λ ps. with_front front (put_together room ps)) (pieces-nil variables text place)
      ∙ ap (with_front front) (put_together-nil room) ∙ ap Ok (append-nil front)

-- what is kept in front stays there
pub front_after : (old now after bytes : List ℕ) (n : ℕ) → length old ≡ n → now ≡ old ++ drop n now → after ≡ now ++ bytes → drop n after ≡ drop n now ++ bytes
front_after old now after bytes n e kept more =
    let whole : after ≡ old ++ (drop n now ++ bytes) = more ∙ ap (λ xs. xs ++ bytes) kept ∙ append_assoc old (drop n now) bytes in
    ap (drop n) whole ∙ drop_at old (drop n now ++ bytes) n e

pub kept_after : (old now after bytes : List ℕ) (n : ℕ) → length old ≡ n → now ≡ old ++ drop n now → after ≡ now ++ bytes → after ≡ old ++ drop n after
kept_after old now after bytes n e kept more =
    let whole : after ≡ old ++ (drop n now ++ bytes) = more ∙ ap (λ xs. xs ++ bytes) kept ∙ append_assoc old (drop n now) bytes in
    whole ∙ ap (λ xs. old ++ xs) (sym (front_after old now after bytes n e kept more))
