-- Past the blanks in front a word goes up to the next blank that is in no bracket;
-- what follows it, less its blanks in front, has the other words and is shorter.
use Rattle.std.proofs.Common.{◌≡◌, ◌∙◌, ◌<◌, sym, ap, cond, List, [], ◌∷◌, length, take, drop, subst, ℕ}
use Rattle.edge_io.specs.Bytes.{is_blank, without_front_blanks}
use Rattle.net_lists.specs.Cutting.{front_len, words, first_word, after_word, is_filled}
use Rattle.net_lists.proofs.Cuts.{words-first_word, after_word-shorter}
use Rattle.net_lists.proofs.parts.first_word.Goals as goal

pub returns-clause-words : goal.returns-clause-words
unfolding first_word after_word
returns-clause-words c =
    let start = c.without_front_blanks-text.result.now in
    let word : c.split_at.result.0.now ≡ first_word c.args.text.now =
    c.split_at.ensures.front
    ∙ ap (λ n. take n start) c.front_len.ensures.len
    ∙ ap (λ t. take (front_len is_blank 0 t) t) c.without_front_blanks-text.ensures in
    let rest : c.without_front_blanks.result.now ≡ after_word c.args.text.now =
    c.without_front_blanks.ensures
    ∙ ap without_front_blanks
    (c.split_at.ensures.back ∙ ap (λ n. drop n start) c.front_len.ensures.len ∙
    ap (λ t. drop (front_len is_blank 0 t) t) c.without_front_blanks-text.ensures) in
    words-first_word c.args.text.now
    ∙ sym (ap (λ w. cond (is_filled w) (w ∷ words c.without_front_blanks.result.now) []) word ∙
    ap (λ r. cond (is_filled (first_word c.args.text.now)) (first_word c.args.text.now ∷ words r) []) rest)

pub returns-clause-shorter : goal.returns-clause-shorter
unfolding after_word
returns-clause-shorter c = λ some.
    let start = c.without_front_blanks-text.result.now in
    let rest : c.without_front_blanks.result.now ≡ after_word c.args.text.now =
    c.without_front_blanks.ensures
    ∙ ap without_front_blanks
    (c.split_at.ensures.back ∙ ap (λ n. drop n start) c.front_len.ensures.len ∙
    ap (λ t. drop (front_len is_blank 0 t) t) c.without_front_blanks-text.ensures) in
    let Shorter : List ℕ → Type 0 = λ xs. length xs < length c.args.text.now in
    subst Shorter (sym rest) (after_word-shorter c.args.text.now some)
