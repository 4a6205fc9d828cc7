-- Patterns that end deeper and deeper.
use Rattle.std.proofs.Common.{◌≡◌, ℕ, ◌+◌, ◌<◌, ◌≤◌, List, [], ◌∷◌, ◌++◌, length, take, map, reverse, set, get_or, replicate, slice_index, All, sym, refl, ap, subst, ◌∙◌, arith, ⊎_elim}
use Rattle.std.proofs.lemmas.List.{take_more, take_all, map_push, reverse-append, get_or-set_same, get_or-set_other, length-set}
use Rattle.std.proofs.lemmas.List.{length-take-le, length-replicate, get_or-replicate, length-map, length-reverse}
use Rattle.std.proofs.lemmas.Bool.{cases_eq}
use Rattle.pattern_search.specs.declared.ends.Grown.{Grown}
use Rattle.pattern_search.specs.declared.trie.Trie.{Trie}
use Rattle.pattern_search.specs.Words.{word_at, word_of, words_of, IsTrieOf, IsTrie, Extends, HasChild}
use Rattle.pattern_search.specs.Growing.{EndsAt, AreAt, AreBetween, Advances, AreGrown}

pub word_of-length : (letters bytes : List ℕ) → length (word_of letters bytes) ≡ length bytes
unfolding word_of
word_of-length letters bytes = length-reverse (map (slice_index letters) bytes) ∙ length-map bytes (slice_index letters)

pub word_of-push : (letters bytes : List ℕ) (byte : ℕ) → word_of letters (bytes ++ byte ∷ []) ≡ slice_index letters byte ∷ word_of letters bytes
unfolding word_of
word_of-push letters bytes byte = ap reverse (map_push (slice_index letters) bytes byte) ∙ reverse-append (map (slice_index letters) bytes) (slice_index letters byte ∷ [])

pub word_of-more : (letters bytes : List ℕ) (depth : ℕ)
    → depth < length bytes
    → word_of letters (take (depth + 1) bytes) ≡ slice_index letters (get_or bytes depth 0) ∷ word_of letters (take depth bytes)
word_of-more letters bytes depth h = ap (word_of letters) (take_more bytes depth 0 h) ∙ word_of-push letters (take depth bytes) (get_or bytes depth 0)

pub deeper : (words : List (List ℕ)) (trie : Trie) (deep more : ℕ) → deep ≤ more → IsTrieOf words trie deep → IsTrieOf words trie more
deeper words trie deep more h is = record {
  count = is.count;
  first_count = is.first_count;
  root = is.root;
  steps = is.steps;
  told = is.told;
  ups = is.ups;
  bys = is.bys;
  first = is.first;
  same = is.same;
  apart = is.apart;
  levels = is.levels;
  deepest = λ state k. omega (arith, is.deepest state k);
  few = is.few;
}

ends-on : (old new : List (List ℕ)) (letters bytes : List ℕ) (end : ℕ) → Extends old new → EndsAt old letters bytes end → EndsAt new letters bytes end
ends-on old new letters bytes end extends is = record {
  within = omega (arith, extends.longer, is.within);
  word = extends.kept end is.within ∙ is.word;
}

same-end : (words : List (List ℕ)) (letters bytes other : List ℕ) (end : ℕ) → bytes ≡ other → EndsAt words letters bytes end → EndsAt words letters other end
same-end words letters bytes other end e is = record { within = is.within; word = is.word ∙ ap (word_of letters) e }

-- one pattern
pub advance-none : (trie : Trie) (letters pattern : List ℕ) (depth end : ℕ)
    → IsTrie trie (depth + 1)
    → EndsAt (words_of trie.steps.items) letters (take depth pattern) end
    → length pattern ≤ depth
    → Advances trie letters pattern depth end trie
advance-none trie letters pattern depth end is ends short = record {
  trie = is;
  width = refl;
  extends = record { longer = omega arith; kept = λ state h. refl };
  ends = same-end (words_of trie.steps.items) letters (take depth pattern) (take (depth + 1) pattern) end (take_all depth pattern short ∙ sym (take_all (depth + 1) pattern (omega arith))) ends;
}

pub end-depth : (words : List (List ℕ)) (letters pattern : List ℕ) (depth end : ℕ) → depth < length pattern → EndsAt words letters (take depth pattern) end → length (word_at words end) ≡ depth
end-depth words letters pattern depth end h ends = ap length ends.word ∙ word_of-length letters (take depth pattern) ∙ length-take-le depth pattern (omega arith)

pub trie-at : (trie : Trie) (letters pattern : List ℕ) (depth end : ℕ)
    → IsTrie trie (depth + 1)
    → EndsAt (words_of trie.steps.items) letters (take depth pattern) end
    → depth < length pattern
    → IsTrie trie (length (word_at (words_of trie.steps.items) end) + 1)
trie-at trie letters pattern depth end is ends h =
    let P : ℕ → Type 0 = λ d. IsTrie trie (d + 1) in subst P (sym (end-depth (words_of trie.steps.items) letters pattern depth end h ends)) is

pub advance-some : (old new : Trie) (letters pattern : List ℕ) (depth end letter next : ℕ)
    → EndsAt (words_of old.steps.items) letters (take depth pattern) end
    → depth < length pattern
    → letter ≡ slice_index letters (get_or pattern depth 0)
    → HasChild old end letter next new
    → Advances old letters pattern depth next new
advance-some old new letters pattern depth end letter next ends h is has = record {
  trie = let P : ℕ → Type 0 = λ d. IsTrie new (d + 1) in subst P (end-depth (words_of old.steps.items) letters pattern depth end h ends) has.trie;
  width = has.width;
  extends = has.extends;
  ends = record {
    within = has.within;
    word = has.grown ∙ ap (λ w. letter ∷ w) ends.word ∙ ap (λ l. l ∷ word_of letters (take depth pattern)) is ∙ sym (word_of-more letters pattern depth h);
  };
}

-- all patterns
module _ (letters : List ℕ) (patterns : List (List ℕ)) where
  pub between-none : (words : List (List ℕ)) (ends : List ℕ) (depth : ℕ) → AreAt words letters patterns ends depth → AreBetween words letters patterns ends depth 0
  between-none words ends depth are = record { count = are.count; before = λ place h k. absurd (omega arith); after = λ place h k. are.each place k }

  pub between-all : (words : List (List ℕ)) (ends : List ℕ) (depth done : ℕ)
      → length patterns ≤ done
      → AreBetween words letters patterns ends depth done
      → AreAt words letters patterns ends (depth + 1)
  between-all words ends depth done h are = record { count = are.count; each = λ place k. are.before place (omega arith) k }

  pub between-more : (old new : Trie) (ends : List ℕ) (depth done next : ℕ) (pattern : List ℕ)
      → AreBetween (words_of old.steps.items) letters patterns ends depth done
      → done < length patterns
      → pattern ≡ word_at patterns done
      → Advances old letters pattern depth next new
      → AreBetween (words_of new.steps.items) letters patterns (set ends done next) depth (done + 1)
  between-more old new ends depth done next pattern are h is goes =
      let words = words_of old.steps.items in
      let more = words_of new.steps.items in
      let here =
      same-end more letters (take (depth + 1) pattern) (take (depth + 1) (word_at patterns done)) next
      (ap (take (depth + 1)) is) goes.ends in
      let at_done : slice_index (set ends done next) done ≡ next = get_or-set_same ends done next 0 (omega (arith, are.count)) in
      record {
        count = length-set ends done next ∙ are.count;
        before = λ place below k. ⊎_elim
            (λ e.
            let P : ℕ → Type 0 =
            λ p. EndsAt more letters (take (depth + 1) (word_at patterns p)) (slice_index (set ends done next) p) in
            let Q : ℕ → Type 0 = λ n. EndsAt more letters (take (depth + 1) (word_at patterns done)) n in
            subst P (sym e) (subst Q (sym at_done) here))
            (λ ne.
            let Q : ℕ → Type 0 = λ n. EndsAt more letters (take (depth + 1) (word_at patterns place)) n in
            subst Q (sym (get_or-set_other ends done place next 0 ne))
            (ends-on words more letters (take (depth + 1) (word_at patterns place))
            (slice_index ends place) goes.extends (are.before place (omega arith) k)))
            (cases_eq place done);
        after = λ place above k.
            let Q : ℕ → Type 0 = λ n. EndsAt more letters (take depth (word_at patterns place)) n in
            subst Q (sym (get_or-set_other ends done place next 0 (λ e. omega arith)))
            (ends-on words more letters (take depth (word_at patterns place)) (slice_index ends place) goes.extends
            (are.after place (omega arith) k));
      }

  pub at-none : (trie : Trie) → IsTrie trie 0 → AreAt (words_of trie.steps.items) letters patterns (replicate (length patterns) 0) 0
  at-none trie is = record {
    count = length-replicate {A = ℕ} (length patterns) 0;
    each = λ place h.
        let zero_end : slice_index (replicate (length patterns) 0) place ≡ 0 =
        get_or-replicate {A = ℕ} (length patterns) place 0 0 h in
        let Q : ℕ → Type 0 = λ n. EndsAt (words_of trie.steps.items) letters (take 0 (word_at patterns place)) n in
        subst Q (sym zero_end) (record {
          within = omega (arith, is.count);
          word =
              is.root
              ∙ sym (nothing (word_of letters (take 0 (word_at patterns place)))
              (word_of-length letters (take 0 (word_at patterns place))));
        });
  }
    where
      nothing : (word : List ℕ) → length word ≡ 0 → word ≡ []
      nothing [] h = refl
      nothing (x ∷ word) h = absurd (omega arith)

  pub grown-all : (grown : Grown) (deep most : ℕ)
      → IsTrie grown.trie deep
      → most ≤ deep
      → All (λ pattern. length pattern ≤ most) patterns
      → AreAt (words_of grown.trie.steps.items) letters patterns grown.ends.items deep
      → AreGrown letters patterns grown
  grown-all grown deep most is enough short are = record {
    deep = deep;
    trie = is;
    count = are.count;
    each = λ place h.
        same-end (words_of grown.trie.steps.items) letters (take deep (word_at patterns place)) (word_at patterns place)
        (slice_index grown.ends.items place) (take_all deep (word_at patterns place) (omega (arith, short place [] h)))
        (are.each place h);
  }
