-- What a comparison of a text with the front of bytes answers, with case folded.
use Rattle.std.proofs.Common.{◌≡◌, ℕ, Bool, true, List, length, take, refl, sym, ap, ◌∙◌}
use Rattle.std.specs.Bool.{Decides, one_answer, nat_eq}
use Rattle.std.specs.Char.{to_ascii_lowercase}
use Rattle.std.specs.Str.{str_to_ascii_lowercase}
use Rattle.std.specs.Cmp.Lexicographic.{pointwise}
use Rattle.std.specs.Cmp.{unsigned_Decides}
use Rattle.std.specs.List.{take-map}
use Rattle.std.proofs.lemmas.List.{length-map}
use Rattle.std.proofs.lemmas.Slice.Eq.{slice_eq-Decides}
use Rattle.edge_io.specs.Matching.{begins}

-- a comparison of the text with the front of the bytes, case folded, is the test that the bytes begin with it
pub begins_folded : (bytes text front : List ℕ) (answer : Bool)
    → front ≡ take (length text) bytes
    → Decides answer (str_to_ascii_lowercase text ≡ str_to_ascii_lowercase front)
    → answer ≡ begins true text bytes
begins_folded bytes text front answer is decides =
    let lowered = str_to_ascii_lowercase text in
    let same : pointwise nat_eq lowered (str_to_ascii_lowercase front) ≡ begins true text bytes =
    ap (λ f. pointwise nat_eq lowered (str_to_ascii_lowercase f)) is
    ∙ ap (pointwise nat_eq lowered) (sym (take-map to_ascii_lowercase (length text) bytes))
    ∙ ap (λ n. pointwise nat_eq lowered (take n (str_to_ascii_lowercase bytes))) (sym (length-map text to_ascii_lowercase)) in
    one_answer answer (pointwise nat_eq lowered (str_to_ascii_lowercase front)) decides (slice_eq-Decides unsigned_Decides lowered (str_to_ascii_lowercase front) _ refl) ∙ same
