-- What begins before a place, and what a walk from a place on finds of it.
use Rattle.std.proofs.Common.{◌≡◌, ℕ, zero, suc, ◌+◌, ◌-◌, ◌/◌, ◌<◌, ◌≤◌, ◌⊎◌, inl, inr, true, false, eqb, Option, Some, IfSome}
use Rattle.std.proofs.Common.{List, [], ◌∷◌, ◌++◌, length, take, drop, map, reverse, get_or, slice_index, sym, refl, ap, subst}
use Rattle.std.proofs.Common.{◌∙◌, arith, ⊎_elim, append_assoc}
use Rattle.std.specs.List.Sorted.{IsPermutation}
use Rattle.std.proofs.lemmas.List.Sorted.{IsPermutation-refl}
use Rattle.std.proofs.Math.Seq.{take-add}
use Rattle.std.proofs.lemmas.List.{map-append, reverse-append, length-drop, length-take-le, take_all, take-append-drop, get_or-drop}
use Rattle.std.proofs.lemmas.Bool.{false≢true, and_parts, and_from, or_cases, or_left, or_right, cases_lt}
use Rattle.pattern_search.specs.declared.automaton.Automaton.{Automaton}
use Rattle.pattern_search.specs.declared.seen.MarkSet.{MarkSet}
use Rattle.pattern_search.specs.Marking.{is_marked}
use Rattle.pattern_search.specs.Words.{begins, has_ended, word_of, word_at, IsClosed, IsAt}
use Rattle.pattern_search.specs.Occurring.{numbers}
use Rattle.pattern_search.specs.Finding.{is_ended, words_in, so_far, Covers, CoversOn, Walks, Steps, Notes, Finds}
use Rattle.pattern_search.proofs.States.Words.{same_bools, begins-length, ended-push, ended-suffix, begins-empty}
use Rattle.pattern_search.proofs.States.Growing.{word_of-more, word_of-length}
use Rattle.pattern_search.proofs.Finding.Occurring.{ended-here, ended-infix, infix-ended}
use Rattle.pattern_search.proofs.Finding.Hitting.{numbers-same, numbers-none}
use Rattle.pattern_search.specs.declared.sieve.Sieve.{Sieve}
use Rattle.pattern_search.specs.Sieving.{Sifts, EndsBefore, Skips}
use Rattle.pattern_search.proofs.Finding.Making.{word-in}
use Rattle.pattern_search.proofs.Finding.Walking.{ended-tells, ended-from, count-words, word_of-none, walks-more}

-- lists
begins-drop : (word front back : List ℕ) → begins word (front ++ back) ≡ true → begins (drop (length front) word) back ≡ true
unfolding begins
begins-drop word [] back b = b
begins-drop [] (x ∷ front) back b = refl
begins-drop (y ∷ word) (x ∷ front) back b = begins-drop word front back (and_parts (eqb y x) (begins word (front ++ back)) b).1

begins-short : (word front back : List ℕ) → begins word (front ++ back) ≡ true → length word ≤ length front → begins word front ≡ true
unfolding begins
begins-short [] front back b h = begins-empty [] front refl
begins-short (y ∷ word) [] back b h = absurd (omega arith)
begins-short (y ∷ word) (x ∷ front) back b h =
    let parts = and_parts (eqb y x) (begins word (front ++ back)) b in
    and_from (eqb y x) (begins word front) parts.0 (begins-short word front back parts.1 (omega arith))

ended-inside : (word front text back : List ℕ) → has_ended word text ≡ true → has_ended word (front ++ (text ++ back)) ≡ true
unfolding has_ended
ended-inside word [] text back e =
    let s = ended-infix word text e in
    let is : text ++ back ≡ s.0 ++ (word ++ (s.1 ++ back)) = ap (λ t. t ++ back) s.2 ∙ append_assoc s.0 (word ++ s.1) back ∙ ap (λ t. s.0 ++ t) (append_assoc word s.1 back) in
    ap (has_ended word) is ∙ infix-ended word s.0 (s.1 ++ back)
ended-inside word (x ∷ front) text back e = or_right (begins word (x ∷ (front ++ (text ++ back)))) (has_ended word (front ++ (text ++ back))) (ended-inside word front text back e)

word_of-append : (letters one other : List ℕ) → word_of letters (one ++ other) ≡ word_of letters other ++ word_of letters one
unfolding word_of
word_of-append letters one other = ap reverse (map-append (slice_index letters) one other) ∙ reverse-append (map (slice_index letters) one) (map (slice_index letters) other)

-- what was read up to a place: first the part from an earlier place on
word_of-part : (letters bytes : List ℕ) (from count : ℕ) → word_of letters (take (from + count) bytes) ≡ word_of letters (take count (drop from bytes)) ++ word_of letters (take from bytes)
word_of-part letters bytes from count = ap (word_of letters) (take-add from count bytes) ∙ word_of-append letters (take from bytes) (take count (drop from bytes))

-- a part of what was read
part-ended : (letters bytes : List ℕ) (from count : ℕ) (word : List ℕ) → has_ended word (word_of letters (take count (drop from bytes))) ≡ true → has_ended word (word_of letters bytes) ≡ true
part-ended letters bytes from count word e =
    let read = word_of letters (take count (drop from bytes)) in
    let last = word_of letters (drop (from + count) bytes) in
    let first = word_of letters (take from bytes) in
    let all : word_of letters bytes ≡ last ++ (read ++ first) =
    ap (word_of letters) (sym (take-append-drop (from + count) bytes))
    ∙ word_of-append letters (take (from + count) bytes) (drop (from + count) bytes)
    ∙ ap (λ t. last ++ t) (word_of-part letters bytes from count) in
    ap (has_ended word) all ∙ ended-inside word last read first e

-- where a word has ended, it ends at some place
ended-end : (letters bytes word : List ℕ) (count : ℕ)
    → count ≤ length bytes
    → has_ended word (word_of letters (take count bytes)) ≡ true
    → (end : ℕ) × (end ≤ count) × (begins word (word_of letters (take end bytes)) ≡ true)
unfolding has_ended
ended-end letters bytes word zero h e = (0, omega arith, ap (begins word) (word_of-none letters) ∙ sym (ap (has_ended word) (word_of-none letters)) ∙ e)
ended-end letters bytes word (suc count) h e =
    let step : suc count ≡ count + 1 = omega arith in
    let letter = slice_index letters (get_or bytes count 0) in
    let read = word_of letters (take count bytes) in
    let more : word_of letters (take (suc count) bytes) ≡ letter ∷ read = ap (λ (n : ℕ). word_of letters (take n bytes)) step ∙ word_of-more letters bytes count (omega arith) in
    ⊎_elim
    (λ here. (suc count, omega arith, ap (begins word) more ∙ here))
    (λ before. let s = ended-end letters bytes word count (omega arith) before in (s.0, omega (arith, s.1), s.2))
    (or_cases (begins word (letter ∷ read)) (has_ended word read) (sym (ended-push word letter read) ∙ sym (ap (has_ended word) more) ∙ e))

-- where a word ends at some place, it has ended by each later one
end-ended : (letters bytes word : List ℕ) (end count : ℕ)
    → end ≤ count
    → count ≤ length bytes
    → begins word (word_of letters (take end bytes)) ≡ true
    → has_ended word (word_of letters (take count bytes)) ≡ true
end-ended letters bytes word end zero h k b =
    let same : end ≡ 0 = omega arith in
    ended-here word (word_of letters (take 0 bytes)) (sym (ap (λ (n : ℕ). begins word (word_of letters (take n bytes))) same) ∙ b)
end-ended letters bytes word end (suc count) h k b =
    let step : suc count ≡ count + 1 = omega arith in
    let letter = slice_index letters (get_or bytes count 0) in
    let read = word_of letters (take count bytes) in
    let more : word_of letters (take (suc count) bytes) ≡ letter ∷ read =
    ap (λ (n : ℕ). word_of letters (take n bytes)) step ∙ word_of-more letters bytes count (omega arith) in
    ⊎_elim
    (λ before. ap (has_ended word) more ∙ ended-push word letter read ∙
    or_right (begins word (letter ∷ read)) (has_ended word read)
    (end-ended letters bytes word end count (omega arith) (omega arith) b))
    (λ here.
    let same : end ≡ suc count = omega arith in
    ended-here word (word_of letters (take (suc count) bytes))
    (sym (ap (λ (n : ℕ). begins word (word_of letters (take n bytes))) same) ∙ b))
    (cases_lt end (suc count))

-- a word without its latest letters is a word too
closed-drop : (words : List (List ℕ))
    → IsClosed words
    → (count state : ℕ)
    → state < length words
    → count ≤ length (word_at words state)
    → (other : ℕ) × (other < length words) × (word_at words other ≡ drop count (word_at words state))
closed-drop words closed zero state h k = (state, h, refl)
closed-drop words closed (suc count) state h k =
    let grown = closed state h (omega arith) in
    let rest = closed-drop words closed count grown.0 grown.2 (omega (arith, ap length grown.3)) in
    (rest.0, rest.1, rest.2 ∙ sym (ap (drop (suc count)) grown.3))

-- a word that begins at a place after the beginning of a walk, and doesn't end within it, is that of a long state there
pending : (words : List (List ℕ))
    → IsClosed words
    → (letters bytes : List ℕ) (from count state at end : ℕ)
    → IsAt words (word_of letters (take count (drop from bytes))) (word_at words at)
    → state < length words
    → end ≤ length bytes
    → from + count < end
    → from + length (word_at words state) ≤ end
    → end < from + count + length (word_at words state)
    → begins (word_at words state) (word_of letters (take end bytes)) ≡ true
    → from + count + length (word_at words state) ≤
    end + length (word_at words at)
pending words closed letters bytes from count state at end is h k late after unended b =
    let word = word_at words state in
    let more = end - (from + count) in
    let read = word_of letters (take count (drop from bytes)) in
    let e : end ≡ from + count + more = omega arith in
    let last = word_of letters (take more (drop (from + count) bytes)) in
    let long : length last ≡ more =
    word_of-length letters (take more (drop (from + count) bytes))
    ∙ length-take-le more (drop (from + count) bytes) (omega (arith, length-drop (from + count) bytes)) in
    let all : word_of letters (take end bytes) ≡ last ++ (read ++ word_of letters (take from bytes)) =
    ap (λ (n : ℕ). word_of letters (take n bytes)) e
    ∙ word_of-part letters bytes (from + count) more
    ∙ ap (λ t. last ++ t) (word_of-part letters bytes from count) in
    let dropped = begins-drop word last (read ++ word_of letters (take from bytes)) (sym (ap (begins word) all) ∙ b) in
    let other = closed-drop words closed (length last) state h (omega (arith, long)) in
    let rest : begins (word_at words other.0) (read ++ word_of letters (take from bytes)) ≡ true =
    ap (λ w. begins w (read ++ word_of letters (take from bytes))) other.2 ∙ dropped in
    let size : length (word_at words other.0) ≡ length word - length last = ap length other.2 ∙ length-drop (length last) word in
    let read_long : length read ≡ count =
    word_of-length letters (take count (drop from bytes))
    ∙ length-take-le count (drop from bytes) (omega (arith, length-drop from bytes)) in
    let within =
    begins-short (word_at words other.0) read (word_of letters (take from bytes)) rest (omega (arith, size, long, read_long)) in
    let deep = begins-length (word_at words other.0) (word_at words at) (sym (is other.0 other.1) ∙ within) in
    omega (arith, deep, size, long)

-- before the first place nothing begins
pub covers-none : (automaton : Automaton) (bytes : List ℕ) (seen : MarkSet) → ((place : ℕ) → is_marked seen place ≡ false) → Covers automaton bytes 0 seen []
covers-none automaton bytes seen none = record {
  covered = λ patterns finds.
      let pats = words_in automaton.letters patterns in
      let Q : List ℕ → Type 0 = λ ns. IsPermutation ns [] in
      record {
        sound = λ place h m. absurd (false≢true (sym (none place) ∙ m));
        whole = λ place end h some k low b.
            absurd (omega (
              arith,
              begins-length (word_at pats place) (word_of automaton.letters (take end bytes)) b,
              word_of-length automaton.letters (take end bytes),
              length-take-le end bytes k,
            ));
        closed = λ one other j k m some b. absurd (false≢true (sym (none other) ∙ m));
        listed = subst Q (sym (numbers-none (is_marked seen) 0 (length pats) none)) (IsPermutation-refl []);
      };
}

-- after the last place everything has begun
pub covers-all : (automaton : Automaton) (bytes : List ℕ) (done : ℕ) (seen : MarkSet) (hits : List ℕ) → length bytes ≤ done → Covers automaton bytes done seen hits
    → (patterns : List (List ℕ)) → Finds automaton patterns
    → IsPermutation (numbers (is_ended (words_in automaton.letters patterns) (word_of automaton.letters bytes)) 0 (length patterns)) hits
covers-all automaton bytes done seen hits h covers patterns finds =
    let is = covers.covered patterns finds in
    let pats = words_in automaton.letters patterns in
    let text = word_of automaton.letters bytes in
    let same =
    numbers-same (is_marked seen) (is_ended pats text) 0 (length pats)
    (λ place j k. same_bools (is_marked seen place) (is_ended pats text place)
    (λ m. is.sound place (omega arith) m)
    (λ e.
    let tells = ended-tells pats text place e in
    let end =
    ended-end automaton.letters bytes (word_at pats place) (length bytes) (omega arith)
    (ap (λ bs. has_ended (word_at pats place) (word_of automaton.letters bs)) (take_all (length bytes) bytes (omega arith)) ∙
    tells.1) in
    is.whole place end.0 (omega arith) tells.0 end.1 (omega (arith, end.1, tells.0)) end.2)) in
    let P : List ℕ → Type 0 = λ ns. IsPermutation ns hits in
    let Q : ℕ → Type 0 = λ n. IsPermutation (numbers (is_ended pats text) 0 n) hits in
    subst Q (count-words automaton.letters patterns) (subst P same is.listed)

-- a walk from a place on, up to where all that is pending lies after another place
pub covers-walked : (automaton : Automaton) (bytes : List ℕ) (from count to at : ℕ) (old new : MarkSet) (old_hits new_hits : List ℕ) → from + count ≤ length bytes → to ≤ from + count
    → ((from + count ≡ length bytes) ⊎ ((at < automaton.shallow) × (to + 3 ≤ from + count)))
    → Walks automaton (word_of automaton.letters (take count (drop from bytes))) at old old_hits new new_hits → CoversOn automaton bytes from (so_far old old_hits) to (so_far new new_hits)
covers-walked automaton bytes from count to at old new old_hits new_hits within back ends walks = record {
  on = λ covers. record {
    covered = λ patterns finds.
        let is = covers.covered patterns finds in
        let letters = automaton.letters in
        let pats = words_in letters patterns in
        let words = finds.words in
        let read = word_of letters (take count (drop from bytes)) in
        let w = walks.walked patterns finds is.closed is.listed in
        let sound : (place : ℕ)
        → place < length pats
        → is_marked new place ≡ true
        → is_ended pats (word_of letters bytes) place ≡ true =
        λ place h m. ⊎_elim
        (λ before. is.sound place h before)
        (λ here.
        let tells = ended-tells pats read place here in
        ended-from pats (word_of letters bytes) place tells.0 (part-ended letters bytes from count (word_at pats place) tells.1))
        (or_cases (is_marked old place) (is_ended pats read place) (sym (w.marked place h) ∙ m)) in
        let deep : (from + count ≡ length bytes) ⊎ (length (word_at words w.state) ≤ from + count - to) = ⊎_elim
        (λ all. inl all)
        (λ low.
        let P : ℕ → Type 0 = λ a. a < automaton.shallow in
        inr (omega (arith, finds.shallow w.state w.within (subst P w.row low.0), low.1)))
        ends in
        record {
          sound = sound;
          whole = λ place end h some k low b.
              let word = word_at pats place in
              w.marked place h ∙ ⊎_elim
              (λ before. or_left (is_marked old place) (is_ended pats read place) (is.whole place end h some k before b))
              (λ after. or_right (is_marked old place) (is_ended pats read place) (⊎_elim
              (λ late.
              let own = finds.are.word place h in
              let e : length (word_at words (slice_index finds.ends place)) ≡ length word = ap length own in
              let unended =
              pending words finds.closed letters bytes from count (slice_index finds.ends place) w.state end w.is
              (finds.are.within place h) k late (omega (arith, e, after)) (omega (arith, e, low, back))
              (ap (λ x. begins x (word_of letters (take end bytes))) own ∙ b) in
              absurd (⊎_elim (λ all. omega arith) (λ short. omega (arith, unended, e, low, back)) deep))
              (λ early.
              let part = end - from in
              let split : end ≡ from + part = omega (arith, after, some) in
              let there = word_of-part letters bytes from part in
              let long : length (word_of letters (take part (drop from bytes))) ≡ part =
              word_of-length letters (take part (drop from bytes)) ∙
              length-take-le part (drop from bytes) (omega (arith, length-drop from bytes)) in
              let b2 =
              begins-short word (word_of letters (take part (drop from bytes)))
              (word_of letters (take from bytes))
              (sym (ap (begins word) (ap (λ (n : ℕ). word_of letters (take n bytes)) split ∙ there)) ∙ b)
              (omega (arith, long, after)) in
              ended-from pats read place some
              (end-ended letters (drop from bytes) word part count (omega arith) (omega (arith, length-drop from bytes)) b2))
              (cases_lt (from + count) end)))
              (cases_lt end (from + length word));
          closed = λ one other j k m some b. w.marked one j ∙ ⊎_elim
              (λ before. or_left (is_marked old one) (is_ended pats read one) (is.closed one other j k before some b))
              (λ here. or_right (is_marked old one) (is_ended pats read one)
              (let tells = ended-tells pats read other here in ended-from pats read one some
              (ended-suffix (word_at pats one) (word_at pats other) read b tells.1)))
              (or_cases (is_marked old other) (is_ended pats read other) (sym (w.marked other k) ∙ m));
          listed = w.listed;
        };
  };
}

-- a byte on, in a walk from a place on
pub walks-on : (automaton : Automaton) (bytes : List ℕ) (from done at letter entry : ℕ) (first old new : MarkSet)
    (first_hits old_hits new_hits : List ℕ)
    → from ≤ done
    → done < length bytes
    → Walks automaton (word_of automaton.letters (take (done - from) (drop from bytes))) at first first_hits old old_hits
    → letter ≡ slice_index automaton.letters (get_or bytes done 0)
    → Steps automaton at letter entry
    → Notes automaton entry old old_hits new new_hits
    → Walks
    automaton (word_of automaton.letters (take (done + 1 - from) (drop from bytes)))
    (entry / 2) first first_hits new new_hits
walks-on automaton bytes from done at letter entry first old new first_hits old_hits new_hits low high was letter_is steps notes =
    let i = done - from in
    let place : from + (done - from) ≡ done = omega arith in
    let e : done - from + 1 ≡ done + 1 - from = omega arith in
    let here : get_or (drop from bytes) (done - from) 0 ≡ get_or bytes done 0 =
    get_or-drop from bytes (done - from) 0 ∙ ap (λ (n : ℕ). get_or bytes n 0) place in
    let P : ℕ → Type 0 =
    λ n. Walks automaton (word_of automaton.letters (take n (drop from bytes))) (entry / 2) first first_hits new new_hits in
    subst P e
    (walks-more automaton (drop from bytes) (done - from) at letter entry first old new first_hits old_hits new_hits was
    (omega (arith, length-drop from bytes)) (letter_is ∙ ap (slice_index automaton.letters) (sym here)) steps notes)

-- places at which nothing begins
pub covers-skipped : (automaton : Automaton) (sieve : Sieve) (bytes : List ℕ) (from to : ℕ) (seen : MarkSet) (hits : List ℕ)
    → automaton.sieve ≡ Some sieve → ((k : ℕ) → slice_index bytes k < 256) → Skips sieve bytes from to
    → Covers automaton bytes from seen hits → Covers automaton bytes to seen hits
covers-skipped automaton sieve bytes from to seen hits own short skips covers = record {
  covered = λ patterns finds.
      let is = covers.covered patterns finds in
      let letters = automaton.letters in
      let count = count-words letters patterns in
      let Q : Option Sieve → Type 0 = λ s. IfSome s (λ sieve. Sifts sieve patterns) in
      let sifts : Sifts sieve patterns = subst Q own finds.sifts in
      record {
        sound = is.sound;
        whole = λ place end h some k low b.
            let word = word-in letters patterns place (omega (arith, count)) in
            let long : length (word_at (words_in letters patterns) place) ≡ length (word_at patterns place) = ap length word ∙ word_of-length letters (word_at patterns place) in
            let holds : EndsBefore letters (word_at patterns place) bytes end = record {
              some = omega (arith, some, long);
              within = k;
              is = sym (ap (λ w. begins w (word_of letters (take end bytes))) word) ∙ b;
            } in
            let back = skips.none letters patterns finds.told sifts short place end (omega (arith, count)) holds (omega (arith, long, low)) in
            is.whole place end h some k (omega (arith, back, long)) b;
        closed = is.closed;
        listed = is.listed;
      };
}

-- a walk over all bytes
pub covers-whole : (automaton : Automaton) (bytes : List ℕ) (i at : ℕ) (old new : MarkSet) (old_hits new_hits : List ℕ) → length bytes ≤ i
    → Walks automaton (word_of automaton.letters (take i bytes)) at old old_hits new new_hits
    → CoversOn automaton bytes 0 (so_far old old_hits) (length bytes) (so_far new new_hits)
covers-whole automaton bytes i at old new old_hits new_hits h walks =
    let same : take i bytes ≡ take (length bytes) (drop 0 bytes) = take_all i bytes h ∙ sym (take_all (length bytes) bytes (omega arith)) in
    let P : List ℕ → Type 0 = λ read. Walks automaton (word_of automaton.letters read) at old old_hits new new_hits in
    covers-walked automaton bytes 0 (length bytes) (length bytes) at old new old_hits new_hits (omega arith) (omega arith) (inl (omega arith)) (subst P same walks)
