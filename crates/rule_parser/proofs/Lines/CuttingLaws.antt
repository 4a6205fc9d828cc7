-- A line that is written of words and options by the grammar is cut into these.
use Rattle.std.proofs.Common.{◌≡◌, ℕ, Result, zero, suc, ◌+◌, Bool, cond, List, [], ◌∷◌, ◌++◌, length, take, drop, map, refl, sym, ap, subst, ◌∙◌, arith}
use Rattle.std.specs.List.{onto_first, prefix_len}
use Rattle.std.proofs.Math.Seq.{take-append_seam, drop-append_seam}
use Rattle.edge_io.specs.Bytes.{is_blank, without_front_blanks}
use Rattle.net_lists.specs.Cutting.{front_len, depth_after, first_word, after_word}
use Rattle.net_lists.specs.declared.stop.Stop.{Stop}
use Rattle.conf_types.specs.declared.classes.Class.{Class}
use Rattle.rule_parser.specs.declared.draft.RuleDraft.{RuleDraft}
use Rattle.rule_parser.specs.declared.fault.Fault.{Fault}
use Rattle.rule_parser.specs.declared.header.HeaderTexts.{HeaderTexts}
use Rattle.rule_parser.specs.declared.written.Quoting.{Quoting}
use Rattle.rule_parser.specs.Bits.{GivesWith}
use Rattle.rule_parser.specs.Headers.{from_word}
use Rattle.rule_parser.specs.HeaderTexts.{AreTexts, IsUncut, BeginsFilled, AreWords, words_text, word_texts, AreCutInto}
use Rattle.rule_parser.specs.RuleLine.{rule_options}
use Rattle.rule_parser.specs.Written.{outside, after_byte, ends_option, option_texts, IsClosed, AreOptionTexts, options_text}

-- an option's text is cut off at its `;`
option-cut : (at : Quoting) (text rest : List ℕ) → IsClosed at text → option_texts at (text ++ 59 ∷ rest) ≡ text ∷ option_texts outside rest
unfolding option_texts ends_option
option-cut at [] rest closed = rw closed refl
option-cut at (byte ∷ text) rest (on, closed) = ap (λ (b : Bool). cond b ([] ∷ option_texts outside (text ++ 59 ∷ rest)) (onto_first byte (option_texts (after_byte at byte) (text ++ 59 ∷ rest)))) on
    ∙ ap (onto_first byte) (option-cut (after_byte at byte) text rest closed)

-- a text in which no option ends is one text
option-whole : (at : Quoting) (text : List ℕ) → IsClosed at text → option_texts at text ≡ text ∷ []
unfolding option_texts
option-whole at [] closed = refl
option-whole at (byte ∷ text) (on, closed) = ap (λ (b : Bool). cond b ([] ∷ option_texts outside text) (onto_first byte (option_texts (after_byte at byte) text))) on
    ∙ ap (onto_first byte) (option-whole (after_byte at byte) text closed)

-- options that are written are cut into these
pub options-written : (options : List (List ℕ)) (rest : List ℕ) → AreOptionTexts options → IsClosed outside rest → option_texts outside (options_text options rest) ≡ options ++ rest ∷ []
unfolding options_text
options-written [] rest are closed = option-whole outside rest closed
options-written (option ∷ more) rest (is, are) closed =
    option-cut outside option (options_text more rest) is ∙ ap (λ (texts : List (List ℕ)). option ∷ texts) (options-written more rest are closed)

-- a word ends at the blank after it
front-word : (depth : ℕ) (word rest : List ℕ) → IsUncut depth word → front_len is_blank depth (word ++ 32 ∷ rest) ≡ length word
unfolding front_len
front-word depth [] rest closed = rw closed refl
front-word depth (byte ∷ word) rest (on, uncut) =
    ap (λ (b : Bool). cond b 0 (1 + front_len is_blank (depth_after depth byte) (word ++ 32 ∷ rest))) on
    ∙ ap (λ (n : ℕ). 1 + n) (front-word (depth_after depth byte) word rest uncut) ∙ one_more (length word)
  where
    one_more : (n : ℕ) → 1 + n ≡ suc n
    one_more n = omega arith

-- a text that begins with no blank has none in front
filled : (text : List ℕ) → BeginsFilled text → without_front_blanks text ≡ text
filled [] never = absurd never
filled (byte ∷ rest) no_blank =
    let none : prefix_len is_blank (byte ∷ rest) ≡ 0 = rw no_blank refl in
    ap (λ (n : ℕ). drop n (byte ∷ rest)) none

filled-append : (word rest : List ℕ) → BeginsFilled word → BeginsFilled (word ++ rest)
filled-append [] rest never = absurd never
filled-append (byte ∷ word) rest no_blank = no_blank

-- the first word of a text that begins with a word, and what comes after it
first-written : (word rest : List ℕ) → IsUncut 0 word → BeginsFilled word → first_word (word ++ 32 ∷ rest) ≡ word
unfolding first_word
first-written word rest uncut begins =
    let text = word ++ 32 ∷ rest in
    ap (λ (t : List ℕ). take (front_len is_blank 0 t) t) (filled text (filled-append word (32 ∷ rest) begins))
    ∙ ap (λ (n : ℕ). take n text) (front-word 0 word rest uncut)
    ∙ take-append_seam word (32 ∷ rest)

after-blank : (rest : List ℕ) → without_front_blanks (32 ∷ rest) ≡ without_front_blanks rest
after-blank rest =
    let one : 1 + prefix_len is_blank rest ≡ suc (prefix_len is_blank rest) = omega arith in
    ap (λ (n : ℕ). drop n (32 ∷ rest)) one

after-written : (word rest : List ℕ) → IsUncut 0 word → BeginsFilled word → BeginsFilled rest → after_word (word ++ 32 ∷ rest) ≡ rest
unfolding after_word
after-written word rest uncut begins next =
    let text = word ++ 32 ∷ rest in
    ap (λ (t : List ℕ). without_front_blanks (drop (front_len is_blank 0 t) t)) (filled text (filled-append word (32 ∷ rest) begins))
    ∙ ap (λ (n : ℕ). without_front_blanks (drop n text)) (front-word 0 word rest uncut)
    ∙ ap without_front_blanks (drop-append_seam word (32 ∷ rest))
    ∙ after-blank rest ∙ filled rest next

-- words that are written begin with no blank
begins-words : (words : List (List ℕ)) (rest : List ℕ) → AreWords words → BeginsFilled rest → BeginsFilled (words_text words rest)
unfolding words_text
begins-words [] rest are next = next
begins-words (word ∷ more) rest (uncut, begins, are) next = filled-append word (32 ∷ words_text more rest) begins

-- a line from each of its first words on, and after them
texts_from : ℕ → List ℕ → List (List ℕ)
texts_from zero line = []
texts_from (suc count) line = line ∷ texts_from count (after_word line)

after_words : ℕ → List ℕ → List ℕ
after_words zero line = line
after_words (suc count) line = after_words count (after_word line)

words-written : (words : List (List ℕ)) (rest : List ℕ) → AreWords words → BeginsFilled rest → map first_word (texts_from (length words) (words_text words rest)) ≡ words
unfolding words_text texts_from
words-written [] rest are next = refl
words-written (word ∷ more) rest (uncut, begins, are) next =
    let after = after-written word (words_text more rest) uncut begins (begins-words more rest are next) in
    ap (λ (first : List ℕ). first ∷ map first_word (texts_from (length more) (after_word (word ++ 32 ∷ words_text more rest)))) (first-written word (words_text more rest) uncut begins)
    ∙ ap (λ (t : List ℕ). word ∷ map first_word (texts_from (length more) t)) after
    ∙ ap (λ (words : List (List ℕ)). word ∷ words) (words-written more rest are next)

rest-written : (words : List (List ℕ)) (rest : List ℕ) → AreWords words → BeginsFilled rest → after_words (length words) (words_text words rest) ≡ rest
unfolding words_text after_words
rest-written [] rest are next = refl
rest-written (word ∷ more) rest (uncut, begins, are) next =
    ap (after_words (length more)) (after-written word (words_text more rest) uncut begins (begins-words more rest are next)) ∙ rest-written more rest are next

seven : (texts : HeaderTexts) (line : List ℕ) → AreTexts texts line → word_texts texts ≡ texts_from 7 line
unfolding from_word texts_from
seven texts line cut = rw (cut.action, cut.proto, cut.src, cut.sports, cut.direction, cut.dst, cut.dports) refl

after_seven : (texts : HeaderTexts) (line : List ℕ) → AreTexts texts line → texts.options.now ≡ after_words 7 line
unfolding from_word after_words
after_seven texts line cut = cut.options

-- a header that is written is cut into its words
pub header-written : (texts : HeaderTexts) (line : List ℕ) → AreTexts texts line
    → (words : List (List ℕ)) (rest : List ℕ) → length words ≡ 7 → AreWords words → BeginsFilled rest → line ≡ words_text words rest → AreCutInto texts words rest
header-written texts line cut words rest count are next written = record {
  cut = ap (map first_word) (seven texts line cut)
      ∙ ap (λ (t : List ℕ). map first_word (texts_from 7 t)) written
      ∙ ap (λ (n : ℕ). map first_word (texts_from n (words_text words rest))) (sym count)
      ∙ words-written words rest are next;
  after = after_seven texts line cut
      ∙ ap (after_words 7) written
      ∙ ap (λ (n : ℕ). after_words n (words_text words rest)) (sym count)
      ∙ rest-written words rest are next;
}

-- the fold over the options of a text is the one over the options that it is written of
pub options-read : (classes : List Class) (names later : List (List ℕ)) (draft : RuleDraft) (left : ℕ) (inside : List ℕ) (answer : Result RuleDraft (Stop Fault))
    → GivesWith answer later (rule_options classes names draft left (option_texts outside inside))
    → (options : List (List ℕ)) (rest : List ℕ) → AreOptionTexts options → IsClosed outside rest → inside ≡ options_text options rest
    → GivesWith answer later (rule_options classes names draft left (options ++ rest ∷ []))
options-read classes names later draft left inside answer gives options rest are closed written =
    let At : List (List ℕ) → Type 0 = λ texts. GivesWith answer later (rule_options classes names draft left texts) in
    subst At (ap (option_texts outside) written ∙ options-written options rest are closed) gives
