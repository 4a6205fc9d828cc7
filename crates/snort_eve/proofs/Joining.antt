-- Records one by one, and all of them.
use Rattle.std.proofs.Common.{◌≡◌, ℕ, ◌+◌, ◌<◌, List, [], ◌∷◌, ◌++◌, Option, length, get_or, take, refl, sym, ap, ◌∙◌, append_assoc, append-nil}
use Rattle.std.proofs.lemmas.List.{take_more}
use Rattle.std.proofs.lemmas.Grind.{flat_map-append}
use Rattle.unified2_out.specs.declared.record.U2Event.{U2Event}
use Rattle.unified2_out.specs.declared.record.U2.{U2}
use Rattle.snort_eve.specs.Joins.{Joined, waiting, completed, held_after, completed_by, lines_of}

pub held_after-append : (held : Option U2Event) (xs ys : List U2) → held_after held (xs ++ ys) ≡ held_after (held_after held xs) ys
held_after-append held [] ys = refl
held_after-append held (x ∷ xs) ys = held_after-append (waiting held x) xs ys

pub completed_by-append : (held : Option U2Event) (xs ys : List U2) → completed_by held (xs ++ ys) ≡ completed_by held xs ++ completed_by (held_after held xs) ys
completed_by-append held [] ys = refl
completed_by-append held (x ∷ xs) ys =
    ap (λ (l : List Joined). completed held x ++ l) (completed_by-append (waiting held x) xs ys)
    ∙ sym (append_assoc (completed held x) (completed_by (waiting held x) xs) (completed_by (held_after (waiting held x) xs) ys))

-- one record more
pub held_more : (held now : Option U2Event) (entries : List U2) (i : ℕ) (d : U2) → i < length entries → now ≡ held_after held (take i entries)
    → waiting now (get_or entries i d) ≡ held_after held (take (i + 1) entries)
held_more held now entries i d lt so_far =
    ap (λ (h : Option U2Event). waiting h (get_or entries i d)) so_far
    ∙ sym (ap (held_after held) (take_more entries i d lt) ∙ held_after-append held (take i entries) (get_or entries i d ∷ []))

pub lines_more : (line : Joined → List ℕ) (held now : Option U2Event) (entries : List U2) (i : ℕ) (d : U2) (old mid new : List ℕ) → i < length entries → now ≡ held_after held (take i entries)
    → mid ≡ old ++ lines_of line (completed_by held (take i entries)) → new ≡ mid ++ lines_of line (completed now (get_or entries i d))
    → new ≡ old ++ lines_of line (completed_by held (take (i + 1) entries))
lines_more line held now entries i d old mid new lt so_far written more =
    let entry = get_or entries i d in
    let last : completed_by now (entry ∷ []) ≡ completed now entry = append-nil (completed now entry) in
    let all : completed_by held (take (i + 1) entries) ≡ completed_by held (take i entries) ++ completed now entry =
    ap (completed_by held) (take_more entries i d lt)
    ∙ completed_by-append held (take i entries) (entry ∷ [])
    ∙ ap (λ (h : Option U2Event). completed_by held (take i entries) ++ completed_by h (entry ∷ [])) (sym so_far)
    ∙ ap (λ (l : List Joined). completed_by held (take i entries) ++ l) last in
    more
    ∙ ap (λ (x : List ℕ). x ++ lines_of line (completed now entry)) written
    ∙ append_assoc old (lines_of line (completed_by held (take i entries))) (lines_of line (completed now entry))
    ∙ ap (λ (x : List ℕ). old ++ x) (sym (ap (lines_of line) all ∙ flat_map-append line (completed_by held (take i entries)) (completed now entry)))
