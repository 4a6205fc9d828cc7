-- What the grammar derives is accepted by the reader of symbols, with the same parts.
use Rattle.std.proofs.Common.{◌≡◌, ℕ, ◌+◌, ltb, Bool, true, false, cond, List, [], ◌∷◌, ◌++◌, Option, Some, None, refl, sym, ap, ◌∙◌, append_assoc, add-one}
use Rattle.std.specs.Option.{option_and_then}
use Rattle.std.proofs.lemmas.Bool.{eq-eqb}
use Rattle.std.proofs.lemmas.List.{append-nil}
use Rattle.net_lists.specs.declared.part.Part.{Part}
use Rattle.net_lists.specs.declared.place.Wanted.{Wanted}
use Rattle.net_lists.specs.declared.place.Wanted.TheVariants as wanted
use Rattle.net_lists.specs.Tokens.{Symbol, Open, Close, Comma, Not}
use Rattle.net_lists.specs.Lists.{Rule, Operand, Item, Group, Derives, part, bracket, plain, negation, one, more, signed}
use Rattle.net_lists.specs.Machine.{run, at, before}
use Rattle.net_lists.proofs.Lists.Steps.{before-before, MayCome, opened, ltb-opened, opened-closed, none_negated, run-word, run-open, run-not, run-close, run-comma, run-end}

-- what is read of symbols that the grammar derives: their parts, and then what follows
abbrev pub Accepts : {B : Type 0} → (List ℕ → Option B) → Rule → Bool → List Symbol → List (Part B) → Type 0
Accepts reads Operand sign symbols parts =
    (w : Wanted) (depth negated : ℕ) (rest : List Symbol)
    → MayCome w negated sign
    → run reads (at w depth negated) (symbols ++ rest) ≡ before parts (run reads (at wanted.Separator depth negated) rest)
Accepts reads Item sign symbols parts =
    (depth negated : ℕ) (rest : List Symbol)
    → ltb 0 negated ≡ sign
    → run reads (at wanted.Item depth negated) (symbols ++ rest) ≡
    before parts (run reads (at wanted.Separator depth negated) rest)
Accepts reads Group sign symbols parts =
    (depth negated : ℕ) (rest : List Symbol)
    → ltb 0 negated ≡ sign
    → run reads (at wanted.Item depth negated) (symbols ++ rest) ≡
    before parts (run reads (at wanted.Separator depth negated) rest)

-- a bracket, from what is read inside it
accepts_bracket : {B : Type 0} (reads : List ℕ → Option B) (sign : Bool) (inner : List Symbol) (parts : List (Part B))
    → ((depth negated : ℕ) (rest : List Symbol) → ltb 0 negated ≡ sign →
    run reads (at wanted.Item depth negated) (inner ++ rest) ≡ before parts (run reads (at wanted.Separator depth negated) rest))
    → (w : Wanted) (depth negated : ℕ) (rest : List Symbol)
    → MayCome w negated sign
    → run reads (at w depth negated) (Open ∷ ((inner ++ Close ∷ []) ++ rest)) ≡
    before parts (run reads (at wanted.Separator depth negated) rest)
accepts_bracket reads sign inner parts h w depth negated rest s =
    run-open reads w depth negated sign ((inner ++ Close ∷ []) ++ rest) s
    ∙ ap (run reads (at wanted.Item (depth + 1) (opened sign negated))) (append_assoc inner (Close ∷ []) rest)
    ∙ h (depth + 1) (opened sign negated) (Close ∷ rest) (ltb-opened sign negated)
    ∙ ap (λ d. before parts (run reads (at wanted.Separator d (opened sign negated)) (Close ∷ rest))) (add-one depth)
    ∙ ap (before parts) (run-close reads depth (opened sign negated) rest)
    ∙ ap (λ n. before parts (run reads (at wanted.Separator depth n) rest)) (opened-closed w sign negated s)

-- a group, a comma and an item
accepts_more : {B : Type 0} (reads : List ℕ → Option B) (sign : Bool) (front item : List Symbol) (first parts : List (Part B))
    → ((depth negated : ℕ) (rest : List Symbol) → ltb 0 negated ≡ sign →
    run reads (at wanted.Item depth negated) (front ++ rest) ≡ before first (run reads (at wanted.Separator depth negated) rest))
    → ((depth negated : ℕ) (rest : List Symbol) → ltb 0 negated ≡ sign →
    run reads (at wanted.Item depth negated) (item ++ rest) ≡ before parts (run reads (at wanted.Separator depth negated) rest))
    → (depth negated : ℕ) (rest : List Symbol)
    → ltb 0 negated ≡ sign
    → run reads (at wanted.Item depth negated) ((front ++ (Comma ∷ item)) ++ rest) ≡
    before (first ++ parts) (run reads (at wanted.Separator depth negated) rest)
accepts_more reads sign front item first parts h i depth negated rest s =
    ap (run reads (at wanted.Item depth negated)) (append_assoc front (Comma ∷ item) rest)
    ∙ h depth negated (Comma ∷ (item ++ rest)) s
    ∙ ap (before first) (run-comma reads depth negated (item ++ rest) ∙ i depth negated rest s)
    ∙ before-before first parts _

-- a `!` and an operand
accepts_negation : {B : Type 0} (reads : List ℕ → Option B) (operand : List Symbol) (parts : List (Part B))
    → ((w : Wanted) (depth negated : ℕ) (rest : List Symbol) → MayCome w negated true →
    run reads (at w depth negated) (operand ++ rest) ≡ before parts (run reads (at wanted.Separator depth negated) rest))
    → (depth negated : ℕ) (rest : List Symbol)
    → ltb 0 negated ≡ false
    → run reads (at wanted.Item depth negated) (Not ∷ (operand ++ rest)) ≡
    before parts (run reads (at wanted.Separator depth negated) rest)
accepts_negation reads operand parts h depth negated rest s =
    let none : negated ≡ 0 = none_negated negated s in
    run-not reads depth negated (operand ++ rest)
    ∙ ap (λ b. cond b (run reads (at wanted.Operand depth negated) (operand ++ rest)) None) (eq-eqb negated 0 none)
    ∙ h wanted.Operand depth negated rest (none, refl)

pub accepts : {B : Type 0} {reads : List ℕ → Option B} {rule : Rule} {sign : Bool} {symbols : List Symbol} {parts : List (Part B)}
    → Derives reads rule sign symbols parts
    → Accepts reads rule sign symbols parts
accepts {reads} (part {negated = sign} {word} {bounds} e) = λ w depth negated rest s.
    run-word reads w depth negated sign word rest s
    ∙ ap (option_and_then (λ b. before (signed sign b ∷ []) (run reads (at wanted.Separator depth negated) rest))) e
accepts {reads} (bracket {negated = sign} {inner} {parts} d) = accepts_bracket reads sign inner parts (accepts d)
accepts (plain d) = λ depth negated rest s. accepts d wanted.Item depth negated rest s
accepts {reads} (negation {operand} {parts} d) = accepts_negation reads operand parts (accepts d)
accepts (one d) = accepts d
accepts {reads} (more {negated = sign} {front} {item} {before = first} {parts} d i) = accepts_more reads sign front item first parts (accepts d) (accepts i)

-- what a group spells is what is read of it
pub accepts_group : {B : Type 0} (reads : List ℕ → Option B) (sign : Bool) (symbols : List Symbol) (parts : List (Part B))
    → Derives reads Group sign symbols parts
    → (negated : ℕ)
    → ltb 0 negated ≡ sign
    → run reads (at wanted.Item 0 negated) symbols ≡ Some parts
accepts_group reads sign symbols parts d negated s =
    ap (run reads (at wanted.Item 0 negated)) (sym (append-nil symbols)) ∙ accepts d 0 negated [] s ∙ ap (before parts) (run-end reads negated) ∙ ap Some (append-nil parts)
