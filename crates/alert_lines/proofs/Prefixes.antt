-- Laws of beginnings, and of parts of a text that were written.
use Rattle.std.proofs.Common.{◌≡◌, ℕ, List, [], ◌++◌, Option, take, drop, refl, sym, ap, append_assoc, ◌∙◌}
use Rattle.std.proofs.lemmas.List.{append-nil, take-append-drop}
use mathlib.Core.List.{IsPrefix}
use Rattle.edge_io.specs.Told.{grown}
use Rattle.edge_io.proofs.Told.{grown-nil, grown-grown}
use Rattle.alert_lines.specs.Written.{WritesPart}

-- a text is a beginning of itself
pub IsPrefix-same : (whole : List ℕ) → IsPrefix whole whole
IsPrefix-same whole = ([], append-nil whole)

-- nothing is a beginning of any text
pub IsPrefix-nil : (whole : List ℕ) → IsPrefix [] whole
IsPrefix-nil whole = (whole, refl)

-- a beginning of a text is one of a longer text
pub IsPrefix-longer : (part text rest : List ℕ) → IsPrefix part text → IsPrefix part (text ++ rest)
IsPrefix-longer part text rest (more, e) = (more ++ rest, sym (append_assoc part more rest) ∙ ap (λ (x : List ℕ). x ++ rest) e)

-- a beginning stays one after the same front
pub IsPrefix-after : (front part whole : List ℕ) → IsPrefix part whole → IsPrefix (front ++ part) (front ++ whole)
IsPrefix-after front part whole (rest, e) = (rest, append_assoc front part rest ∙ ap (λ (x : List ℕ). front ++ x) e)

-- ---- parts that were written

-- the whole is a part
pub WritesPart-all : (old new : Option (List ℕ)) (text : List ℕ) → new ≡ grown old text → WritesPart old text new
unfolding WritesPart
WritesPart-all old new text e = (text, IsPrefix-same text, e)

-- nothing was written
pub WritesPart-none : (old : Option (List ℕ)) (text : List ℕ) → WritesPart old text old
unfolding WritesPart
WritesPart-none old text = ([], IsPrefix-nil text, sym (grown-nil old))

-- the first bytes of a text were written
pub WritesPart-take : (old new : Option (List ℕ)) (count : ℕ) (text : List ℕ) → new ≡ grown old (take count text) → WritesPart old text new
unfolding WritesPart
WritesPart-take old new count text e = (take count text, (drop count text, take-append-drop count text), e)

-- a front was written, and then a part of what follows it
pub WritesPart-after : (old middle new : Option (List ℕ)) (front text : List ℕ) → middle ≡ grown old front → WritesPart middle text new → WritesPart old (front ++ text) new
unfolding WritesPart
WritesPart-after old middle new front text first (part, prefix, e) =
    (front ++ part, IsPrefix-after front part text prefix, e ∙ ap (λ (x : Option (List ℕ)). grown x part) first ∙ grown-grown old front part)

-- a part of a text is a part of a longer one
pub WritesPart-longer : (old new : Option (List ℕ)) (text rest : List ℕ) → WritesPart old text new → WritesPart old (text ++ rest) new
unfolding WritesPart
WritesPart-longer old new text rest (part, prefix, e) = (part, IsPrefix-longer part text rest prefix, e)
