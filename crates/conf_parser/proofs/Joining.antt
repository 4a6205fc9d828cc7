-- Lines joined from the front on, and those of them that are kept.
use Rattle.std.proofs.Common.{◌≡◌, ℕ, ◌+◌, ◌<◌, arith, length, Bool, true, false, cond, List, [], ◌∷◌, ◌++◌, refl, sym, ap, ◌∙◌, append_assoc, append-nil}
use Rattle.std.specs.Str.Lines.{lines}
use Rattle.edge_io.specs.Bytes.{trimmed}
use Rattle.net_lists.proofs.FirstLine.{lines-some}
use Rattle.net_lists.specs.declared.lines.NumberedLine.{NumberedLine}
use Rattle.net_lists.specs.Lines.{numbered, has_content, bare_line, kept}
use Rattle.conf_parser.specs.Lines.{is_open, without_last, joined_onto, joined_lines, kept_line}

-- two fronts are one
joined_onto-joined_onto : (n k : ℕ) (front line : List ℕ) (more : List NumberedLine) → joined_onto n front (joined_onto k line more) ≡ joined_onto n (front ++ line) more
joined_onto-joined_onto n k front line [] = refl
joined_onto-joined_onto n k front line (next ∷ rest) = ap (λ text. numbered n text ∷ rest) (sym (append_assoc front line next.text))

-- a line that ends in a backslash belongs to the front
pub joined_onto-open : (n k : ℕ) (front line : List ℕ) (more : List (List ℕ))
    → is_open line ≡ true
    → joined_onto n front (joined_lines k (line ∷ more)) ≡ joined_onto n (front ++ without_last line) (joined_lines (k + 1) more)
unfolding joined_lines
joined_onto-open n k front line more goes_on =
    ap (λ b. joined_onto n front (cond b (joined_onto k (without_last line) (joined_lines (k + 1) more)) (numbered k line ∷ joined_lines (k + 1) more))) goes_on
    ∙ joined_onto-joined_onto n k front (without_last line) (joined_lines (k + 1) more)

-- any other line ends the joined one
pub joined_onto-closed : (n k : ℕ) (front line : List ℕ) (more : List (List ℕ))
    → is_open line ≡ false
    → joined_onto n front (joined_lines k (line ∷ more)) ≡ numbered n (front ++ line) ∷ joined_lines (k + 1) more
unfolding joined_lines
joined_onto-closed n k front line more closed =
    ap (λ b. joined_onto n front (cond b (joined_onto k (without_last line) (joined_lines (k + 1) more)) (numbered k line ∷ joined_lines (k + 1) more))) closed

-- a front before nothing is a line
pub joined_onto-none : (n k : ℕ) (front : List ℕ) → joined_onto n front (joined_lines k []) ≡ numbered n front ∷ joined_lines k []
unfolding joined_lines
joined_onto-none n k front = refl

-- no front changes nothing
pub joined_lines-begin : (n : ℕ) (line : List ℕ) (more : List (List ℕ)) → joined_onto n [] (joined_lines n (line ∷ more)) ≡ joined_lines n (line ∷ more)
unfolding joined_lines
joined_lines-begin n line more = go (is_open line) (joined_lines (n + 1) more)
  where
    go : (b : Bool) (rest : List NumberedLine)
        → joined_onto n [] (cond b (joined_onto n (without_last line) rest) (numbered n line ∷ rest)) ≡
        cond b (joined_onto n (without_last line) rest) (numbered n line ∷ rest)
    go true [] = refl
    go true (next ∷ rest) = refl
    go false rest = refl

-- joining nothing in front changes no lines of a text that is not empty
pub joined_lines-start : (n : ℕ) (text : List ℕ) → 0 < length text → joined_lines n (lines text) ≡ joined_onto n [] (joined_lines n (lines text))
joined_lines-start n [] some = absurd (never some)
  where
    never : 0 < 0 → ⊥
    never h = omega arith
joined_lines-start n (x ∷ xs) some =
    let first = lines-some x xs in
    ap (joined_lines n) first.begins ∙ sym (joined_lines-begin n first.line first.more) ∙ sym (ap (λ ls. joined_onto n [] (joined_lines n ls)) first.begins)

-- the first line is kept or not, and then the others
pub kept-cons : (line : NumberedLine) (more : List NumberedLine) → kept (line ∷ more) ≡ kept_line line ++ kept more
kept-cons line more = go (has_content (trimmed line.text))
  where
    go : (b : Bool) → cond b (bare_line line ∷ kept more) (kept more) ≡ cond b (bare_line line ∷ []) [] ++ kept more
    go true = refl
    go false = refl

pub ruleset joining = (joined_onto-open, joined_onto-closed, joined_onto-none)

-- an empty text has no lines
pub lines-empty : (text : List ℕ) → length text ≡ 0 → lines text ≡ []
lines-empty [] none = refl
lines-empty (x ∷ xs) none = absurd (never none)
  where
    never : length (x ∷ xs) ≡ 0 → ⊥
    never h = omega arith

-- a front before the lines of an empty text is a line
pub joined_onto-end : (n k : ℕ) (front text : List ℕ) → length text ≡ 0 → joined_onto n front (joined_lines k (lines text)) ≡ numbered n front ∷ joined_lines k (lines text)
joined_onto-end n k front text none =
    ap (λ ls. joined_onto n front (joined_lines k ls)) (lines-empty text none)
    ∙ joined_onto-none n k front
    ∙ ap (λ ls. numbered n front ∷ joined_lines k ls) (sym (lines-empty text none))

-- nothing is kept of an empty text
pub kept-end : (all : List NumberedLine) (k : ℕ) (text : List ℕ) → length text ≡ 0 → all ++ kept (joined_lines k (lines text)) ≡ all
unfolding joined_lines
kept-end all k text none = ap (λ ls. all ++ kept (joined_lines k ls)) (lines-empty text none) ∙ append-nil all
