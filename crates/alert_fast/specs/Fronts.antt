-- Parts that are read at the front of a text, or that are a whole word of it.
--
-- A part is a value, of those that may be there (`Fits`), and the text that it is written as. What is read is
-- always the only one: no other value, and no other rest, make the same text.
-- To try it on: of `08:30` the front up to `:` is the value 8 in two digits, and the rest `30`.
use Rattle.std.specs.Prelude.{◌≡◌, ◌≢◌, ℕ, List, [], ◌∷◌, ◌++◌, ⊤}

-- the byte isn't in the text
abbrev pub Lacks : ℕ → List ℕ → Type 0
Lacks byte [] = ⊤
Lacks byte (first ∷ rest) = (first ≢ byte) × Lacks byte rest

-- the bytes before the first such byte, and those after it
pub record IsWord (end : ℕ) (text word rest : List ℕ) : Type 0 where
  pub lacks : Lacks end word
  pub spelled : text ≡ word ++ (end ∷ rest)

-- the word is how this value is written, and no other one
pub record IsWhole {A : Type 0} (Fits : A → Type 0) (spell : A → List ℕ) (word : List ℕ) (value : A) : Type 0 where
  pub fits : Fits value
  pub spelled : spell value ≡ word
  pub only : (other : A) → Fits other → spell other ≡ word → other ≡ value

-- no value is written so
abbrev pub NoWhole : {A : Type 0} → (A → Type 0) → (A → List ℕ) → List ℕ → Type 0
NoWhole {A} Fits spell word = (other : A) → Fits other → spell other ≢ word

-- the text begins with this value, and with no other one
pub record IsFront {A : Type 0} (Fits : A → Type 0) (spell : A → List ℕ) (text : List ℕ) (value : A) (rest : List ℕ)
    : Type 0 where
  pub fits : Fits value
  pub spelled : text ≡ spell value ++ rest
  pub only : (other : A) (more : List ℕ) → Fits other → text ≡ spell other ++ more → (other ≡ value) × (more ≡ rest)

-- the text begins with no value
abbrev pub NoFront : {A : Type 0} → (A → Type 0) → (A → List ℕ) → List ℕ → Type 0
NoFront {A} Fits spell text = (other : A) (more : List ℕ) → Fits other → text ≢ spell other ++ more

-- a value, and then a byte or a text that ends it
abbrev pub ended : {A : Type 0} → (A → List ℕ) → ℕ → A → List ℕ
ended spell end value = spell value ++ (end ∷ [])

abbrev pub followed : {A : Type 0} → (A → List ℕ) → List ℕ → A → List ℕ
followed spell literal value = spell value ++ literal

-- one value, and then another one
abbrev pub BothFit : {A B : Type 0} → (A → Type 0) → (B → Type 0) → A × B → Type 0
BothFit P Q p = P p.0 × Q p.1

abbrev pub both : {A B : Type 0} → (A → List ℕ) → (B → List ℕ) → A × B → List ℕ
both f g p = f p.0 ++ g p.1
