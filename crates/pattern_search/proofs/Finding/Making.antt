-- An automaton that was made finds its patterns.
use Rattle.std.proofs.Common.{◌≡◌, ℕ, ◌+◌, ◌*◌, ◌<◌, IfSome, List, [], length, get_or, slice_index, sym, ap, subst, ◌∙◌, arith, ⊎_elim}
use Rattle.std.proofs.lemmas.List.{get_or-map, get_or_default, length-map}
use Rattle.std.proofs.lemmas.Bool.{cases_eq}
use Rattle.pattern_search.specs.declared.automaton.Automaton.{Automaton}
use Rattle.pattern_search.specs.declared.ends.Grown.{Grown}
use Rattle.pattern_search.specs.Letters.{AllTold}
use Rattle.pattern_search.specs.Words.{word_of, word_at, words_of}
use Rattle.pattern_search.specs.Growing.{AreGrown}
use Rattle.pattern_search.specs.Owned.{IsLastOf, AreOwned}
use Rattle.pattern_search.specs.Outputs.{AreWords, either, IsNext, AreLinked, IsLinking, AreNexts}
use Rattle.pattern_search.specs.Rows.{AreEntries, IsLayout, IsShallow}
use Rattle.pattern_search.specs.Sieving.{Sifts}
use Rattle.pattern_search.specs.Finding.{words_in, Finds}
use Rattle.pattern_search.proofs.States.Linking.{trie-closed, next-same, next-fail, either-some, either-none}

pub word-in : (letters : List ℕ) (patterns : List (List ℕ)) (place : ℕ) → place < length patterns → word_at (words_in letters patterns) place ≡ word_of letters (word_at patterns place)
word-in letters patterns place h = get_or-map (word_of letters) patterns place [] [] h

pub are-words : (letters : List ℕ) (patterns : List (List ℕ)) (grown : Grown)
    → AreGrown letters patterns grown
    → AreWords (words_of grown.trie.steps.items) (words_in letters patterns) grown.ends.items
are-words letters patterns grown is =
    let count = length-map patterns (word_of letters) in
    record {
      count = is.count ∙ sym count;
      within = λ place h. (is.each place (omega (arith, count))).within;
      word = λ place h. (is.each place (omega (arith, count))).word ∙ sym (word-in letters patterns place (omega (arith, count)));
    }

module _ (automaton : Automaton) (patterns : List (List ℕ)) (grown : Grown) (firsts sames : List ℕ)
    (told : AllTold automaton.letters patterns)
    (below : (byte : ℕ) → slice_index automaton.letters byte < automaton.trie.width)
    (is : AreGrown automaton.letters patterns (record { trie = automaton.trie; ends = grown.ends }))
    (owned : AreOwned grown.ends.items (length automaton.trie.steps.items + 1) firsts sames (length grown.ends.items))
    (links : IsLinking automaton.trie firsts automaton.fails.items automaton.heads.items (length automaton.trie.steps.items + 1))
    (nexts : AreNexts grown.ends.items sames automaton.fails.items automaton.heads.items automaton.nexts.items
    (length grown.ends.items))
    (laid : IsLayout automaton.trie automaton.fails.items automaton.heads.items
    (record { dense = automaton.dense; table = automaton.table; entries = automaton.entries }))
    (shallow : IsShallow automaton.trie automaton.dense automaton.shallow)
    (sifts : IfSome automaton.sieve (λ sieve. Sifts sieve patterns)) where
  abbrev words : List (List ℕ)
  words = words_of automaton.trie.steps.items

  abbrev fails : List ℕ
  fails = automaton.fails.items

  abbrev pats : List (List ℕ)
  pats = words_in automaton.letters patterns

  are : AreWords words pats grown.ends.items
  are = are-words automaton.letters patterns (record { trie = automaton.trie; ends = grown.ends }) is

  states : length automaton.trie.steps.items + 1 ≡ length words
  states = sym is.trie.count

  owned-here : AreOwned grown.ends.items (length words) firsts sames (length pats)
  owned-here =
      let P : ℕ → Type 0 = λ n. AreOwned grown.ends.items n firsts sames (length grown.ends.items) in
      let Q : ℕ → Type 0 = λ n. AreOwned grown.ends.items (length words) firsts sames n in
      subst Q are.count (subst P states owned)

  all : AreLinked words pats fails automaton.heads.items (length words)
  all =
      let P : ℕ → Type 0 = λ n. AreLinked words pats fails automaton.heads.items n in
      subst P states (links.linked pats grown.ends.items sames is.deep is.trie are owned-here (omega (arith, states)))

  -- a pattern doesn't end at the root
  ends-some : (place : ℕ) → place < length pats → 0 < length (word_at pats place) → 0 < slice_index grown.ends.items place
  ends-some place h some = ⊎_elim
      (λ e. absurd (omega (arith, ap length (are.word place h), ap (λ s. length (word_at words s)) e, ap length is.trie.root)))
      (λ ne. omega arith)
      (cases_eq (slice_index grown.ends.items place) 0)

  is-next : (place : ℕ) → place < length pats → 0 < length (word_at pats place) → IsNext pats place (slice_index automaton.nexts.items place)
  is-next place h some =
      let end = slice_index grown.ends.items place in
      let low = ends-some place h some in
      let within = are.within place h in
      let same = owned-here.same place h low in
      let before = slice_index sames place in
      let fail = slice_index fails end in
      let P : ℕ → Type 0 = λ n. IsNext pats place n in
      let known : slice_index automaton.nexts.items place ≡ either before (slice_index automaton.heads.items fail) =
      nexts.next place (omega (arith, are.count)) in
      ⊎_elim
      (λ none.
      let Q : ℕ → Type 0 = λ o. IsLastOf grown.ends.items place end o in
      subst P (sym (known ∙ either-none before (slice_index automaton.heads.items fail) none))
      (next-fail words pats grown.ends.items are is.trie.apart place (word_at words fail) (slice_index automaton.heads.items fail)
      h some (all.failing.failing end low within) (subst Q none same)
      (all.chains fail (omega (arith, all.failing.lower end low within)))))
      (λ ne. subst P (sym (known ∙ either-some before (slice_index automaton.heads.items fail) (omega arith)))
      (next-same words pats grown.ends.items are is.trie.apart place before h some same (omega arith)))
      (cases_eq before 0)

  pub finds-made : Finds automaton patterns
  finds-made = record {
    words = words;
    ends = grown.ends.items;
    told = told;
    below = below;
    deep = is.deep;
    trie = is.trie;
    closed = trie-closed words automaton.trie is.deep is.trie;
    are = are;
    failing = all.failing;
    dense = (laid.some, omega (arith, laid.within, states));
    long = laid.rows.long ∙ none (automaton.dense * automaton.trie.width);
    fits = laid.fits;
    rows = laid.rows.rows words is.deep is.trie all.failing (omega (arith, laid.within, states)) (λ some. absurd (omega arith));
    entries =
        let P : ℕ → Type 0 = λ n. AreEntries automaton.trie.width automaton.dense automaton.heads.items automaton.entries.items n in
        subst P states laid.moves;
    chains = λ state h. all.chains state h;
    nexts = is-next;
    count = nexts.count ∙ is.count;
    shallow = λ state h low. shallow.short words is.deep is.trie laid.fits state h low;
    sifts = sifts;
  }
    where
      none : (n : ℕ) → n + 0 ≡ n
      none n = omega arith

pub ends-within : (letters : List ℕ) (patterns : List (List ℕ)) (grown : Grown)
    → AreGrown letters patterns grown
    → (place d : ℕ)
    → place < length grown.ends.items
    → get_or grown.ends.items place d < length grown.trie.steps.items + 1
ends-within letters patterns grown is place d h =
    let end = (is.each place (omega (arith, is.count))).within in
    omega (arith, end, is.trie.count, get_or_default grown.ends.items place d 0 h)
