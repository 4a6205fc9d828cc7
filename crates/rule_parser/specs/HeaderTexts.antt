-- A line as it is cut into the words of its header: from each word on, and after the last.
--
-- To try it on: of `alert udp any any -> any 53 (sid:1;)` the text of the ports of the destination begins with
-- `53`, and the text of the options with `(`.
use Rattle.std.specs.Prelude.{◌≡◌, ℕ, ⊤, ◌==◌, ◌&&◌, false, List, [], ◌∷◌, ◌++◌, map}
use Rattle.net_lists.specs.Cutting.{is_blank, depth_after, first_word}
use Rattle.rule_parser.specs.declared.header.HeaderTexts.{HeaderTexts}
use Rattle.rule_parser.specs.Headers.{from_word, after_header}

-- these are the texts of a line
pub record AreTexts (texts : HeaderTexts) (line : List ℕ) : Type 0 where
  pub action : texts.action.now ≡ from_word 0 line
  pub proto : texts.proto.now ≡ from_word 1 line
  pub src : texts.src.now ≡ from_word 2 line
  pub sports : texts.sports.now ≡ from_word 3 line
  pub direction : texts.direction.now ≡ from_word 4 line
  pub dst : texts.dst.now ≡ from_word 5 line
  pub dports : texts.dports.now ≡ from_word 6 line
  pub options : texts.options.now ≡ after_header line

-- there is no blank in this text outside brackets, and it closes each bracket that it opens
abbrev pub IsUncut : ℕ → List ℕ → Type 0
IsUncut depth [] = depth ≡ 0
IsUncut depth (byte ∷ rest) = ((depth == 0 && is_blank byte) ≡ false) × IsUncut (depth_after depth byte) rest

-- a text that begins with a byte that is no blank
abbrev pub BeginsFilled : List ℕ → Type 0
BeginsFilled [] = ⊥
BeginsFilled (byte ∷ rest) = is_blank byte ≡ false

-- each of these texts is a word
abbrev pub AreWords : List (List ℕ) → Type 0
AreWords [] = ⊤
AreWords (word ∷ more) = IsUncut 0 word × BeginsFilled word × AreWords more

-- words as they are written, each with a blank after it, and then this text
unfoldable pub words_text : List (List ℕ) → List ℕ → List ℕ
words_text [] rest = rest
words_text (word ∷ more) rest = word ++ 32 ∷ words_text more rest

-- the line from each word on
abbrev pub word_texts : HeaderTexts → List (List ℕ)
word_texts texts = texts.action.now ∷ texts.proto.now ∷ texts.src.now ∷ texts.sports.now ∷ texts.direction.now ∷ texts.dst.now
    ∷ texts.dports.now ∷ []

-- a line that is written of seven words and what comes after them is cut into these
pub record AreCutInto (texts : HeaderTexts) (words : List (List ℕ)) (rest : List ℕ) : Type 0 where
  pub cut : map first_word (word_texts texts) ≡ words
  pub after : texts.options.now ≡ rest
