-- Entries at blocks, and the chains in which they are.
use Rattle.std.proofs.Common.{◌≡◌, ℕ, zero, suc, ◌+◌, ◌-◌, ◌<◌, ◌≤◌, ◌==◌, Bool, true, false, ◌&&◌, ◌||◌, List, [], ◌∷◌, ◌++◌, length, take, min, slice_index, sym, refl, ap, subst, ◌∙◌, arith}
use Rattle.std.specs.List.{list_any}
use Rattle.std.proofs.lemmas.Bool.{eq-eqb, ne_eqb}
use Rattle.std.proofs.lemmas.List.{take_all, get_or-map}
use Rattle.std.proofs.lemmas.List.Folds.{list_any-append, list_any_more}
use Rattle.fast_pattern.specs.declared.index.IndexEntry.{IndexEntry}
use Rattle.fast_pattern.specs.declared.index.PortIndex.{PortIndex}
use Rattle.pattern_search.specs.Owned.{IsLastOf}
use Rattle.fast_pattern.specs.Blocks.{number, half_with, lies_in, has, is_of, is_filed, blocks_of, entry_at, entries_of, IsChained, AddFiled, IsFollowed}
use Rattle.fast_pattern.proofs.Ports.Blocking.{lies-more, lies-one}

-- Bool
or-assoc : (a b c : Bool) → ((a || b) || c) ≡ (a || (b || c))
or-assoc true b c = refl
or-assoc false b c = refl

or-flip : (a b : Bool) → (a || b) ≡ (b || a)
or-flip true true = refl
or-flip true false = refl
or-flip false true = refl
or-flip false false = refl

or-none : (b : Bool) → (b || false) ≡ b
or-none true = refl
or-none false = refl

or-and : (a b e : Bool) → ((a && e) || (b && e)) ≡ ((a || b) && e)
or-and true b true = refl
or-and true b false = or-and-false b
  where
    or-and-false : (c : Bool) → (false || (c && false)) ≡ false
    or-and-false true = refl
    or-and-false false = refl
or-and false b e = refl

between : (a b c d e : Bool) → ((a && e) || (b && e)) ≡ ((a || b) && e) → (((a || b) && e) || (c || d)) ≡ (((a && e) || c) || ((b && e) || d))
between true true c d true same = refl
between true true c d false same = refl
between true false c d true same = refl
between true false c d false same = refl
between false true true d true same = refl
between false true false d true same = refl
between false true c d false same = refl
between false false c d e same = refl

-- a test that is one of two
pub filed-either : (test one other : ℕ → Bool)
    → ((block : ℕ) → test block ≡ (one block || other block))
    → (entries : List IndexEntry) (place : ℕ)
    → is_filed test entries place ≡ (is_filed one entries place || is_filed other entries place)
filed-either test one other is [] place = refl
filed-either test one other is (entry ∷ entries) place =
    ap (λ b. (b && (entry.place == place)) || is_filed test entries place) (is entry.block)
    ∙ ap (λ b. ((one entry.block || other entry.block) && (entry.place == place)) || b)
    (filed-either test one other is entries place)
    ∙ between (one entry.block) (other entry.block) (is_filed one entries place) (is_filed other entries place)
    (entry.place == place) (or-and (one entry.block) (other entry.block) (entry.place == place))

-- the entries of one place
pub filed-new : (test : ℕ → Bool) (number : ℕ) (blocks : List ℕ) (place : ℕ) → is_filed test (entries_of number blocks) place ≡ (list_any test blocks && (number == place))
filed-new test number [] place = refl
filed-new test number (block ∷ blocks) place =
    ap (λ b. (test block && (number == place)) || b) (filed-new test number blocks place)
    ∙ or-and (test block) (list_any test blocks) (number == place)

pub has-push : (xs : List ℕ) (x place : ℕ) → has (xs ++ x ∷ []) place ≡ (has xs place || (x == place))
has-push xs x place = list_any-append (λ y. y == place) xs (x ∷ []) ∙ ap (λ b. has xs place || b) (or-none (x == place))

-- after the last entry of a block the others are of other blocks
module _ (entries : List IndexEntry) (block place : ℕ) where
  abbrev test : IndexEntry → Bool
  test = is_of (λ other. other == block) place

  none-between : (at more : ℕ)
      → at + more ≤ length entries
      → ((k : ℕ) → at ≤ k → k < at + more → (entry_at entries k).block ≡ block → ⊥)
      → list_any test (take (at + more) entries) ≡ list_any test (take at entries)
  none-between at zero h ne = let e : at + 0 ≡ at = omega arith in ap (λ (n : ℕ). list_any test (take n entries)) e
  none-between at (suc more) h ne =
      let e : at + suc more ≡ at + more + 1 = omega arith in
      ap (λ (n : ℕ). list_any test (take n entries)) e
      ∙ list_any_more test entries (at + more) (record { block = 0; place = 0 }) (omega arith)
      ∙ ap (λ b. list_any test (take (at + more) entries) || (b && ((entry_at entries (at + more)).place == place)))
      (ne_eqb (entry_at entries (at + more)).block block (ne (at + more) (omega arith) (omega arith)))
      ∙ or-none (list_any test (take (at + more) entries))
      ∙ none-between at more (omega arith) (λ k from to. ne k from (omega arith))

  pub gap : (limit at : ℕ) → limit ≤ length entries → IsLastOf (blocks_of entries) limit block at → list_any test (take limit entries) ≡ list_any test (take at entries)
  gap limit at h last =
      let e : limit ≡ at + (limit - at) = omega (arith, last.within) in
      ap (λ (n : ℕ). list_any test (take n entries)) e
      ∙ none-between at (limit - at) (omega (arith, last.within)) (λ k from to same. omega (arith, last.greatest k (omega (arith, last.within)) (block-at k (omega (arith, last.within)) ∙ same)))
    where
      block-at : (k : ℕ) → k < length entries → slice_index (blocks_of entries) k ≡ (entry_at entries k).block
      block-at k j = get_or-map (λ (entry : IndexEntry). entry.block) entries k (record { block = 0; place = 0 }) 0 j

pub block-at : (entries : List IndexEntry) (k : ℕ) → k < length entries → slice_index (blocks_of entries) k ≡ (entry_at entries k).block
block-at entries k h = get_or-map (λ (entry : IndexEntry). entry.block) entries k (record { block = 0; place = 0 }) 0 h

module _ (index : PortIndex) (block : ℕ) (some : 0 < block) (short : block < 131072) (old : List ℕ) where
  abbrev entries : List IndexEntry
  entries = index.entries.items

  abbrev same : ℕ → Bool
  same = λ other. other == block

  pub followed-none : (at : ℕ) → at ≡ slice_index index.heads.items block → IsFollowed index block old at old
  followed-none at is = record {
    within = λ chained. let last = chained.first block some short in omega (arith, is, last.within);
    here = λ chained more.
        let last = chained.first block some short in
        let own : 0 < slice_index index.heads.items block = omega (arith, is) in
        let inside : at - 1 < length entries = omega (arith, is, last.within) in
        sym (block-at entries (at - 1) inside) ∙ ap (λ (n : ℕ). slice_index (blocks_of entries) (n - 1)) is ∙ last.own own;
    added = λ chained place.
        let last = chained.first block some short in
        ap (λ (n : ℕ). has old place || is_filed same (take n entries) place) is
        ∙ ap (λ b. has old place || b) (sym (gap entries block place (length entries) (slice_index index.heads.items block) (omega arith) last))
        ∙ ap (λ (es : List IndexEntry). has old place || is_filed same es place) (take_all (length entries) entries (omega arith));
  }

  pub followed-more : (at next : ℕ) (new more : List ℕ)
      → 0 < at
      → IsFollowed index block old at new
      → more ≡ new ++ (entry_at entries (at - 1)).place ∷ []
      → next ≡ min (slice_index index.nexts.items (at - 1)) (at - 1)
      → IsFollowed index block old next more
  followed-more at next new more go was pushed is = record {
    within = λ chained. let h = was.within chained in omega (arith, is);
    here = λ chained again.
        let last = lasts chained in
        let e = nexts chained in
        let own : 0 < slice_index index.nexts.items (at - 1) = omega (arith, e) in
        let inside : next - 1 < length entries = omega (arith, is, was.within chained) in
        sym (block-at entries (next - 1) inside) ∙ ap (λ (n : ℕ). slice_index (blocks_of entries) (n - 1)) e ∙ last.own own;
    added = λ chained place.
        let here = (entry_at entries (at - 1)).place == place in
        let before = is_filed same (take (at - 1) entries) place in
        ap (λ (xs : List ℕ). has xs place || is_filed same (take next entries) place) pushed
        ∙ ap (λ b. b || is_filed same (take next entries) place) (has-push new (entry_at entries (at - 1)).place place)
        ∙ ap (λ (n : ℕ). (has new place || here) || is_filed same (take n entries) place) (nexts chained)
        ∙ ap (λ b. (has new place || here) || b) (sym (gap entries block place (at - 1) (slice_index index.nexts.items (at - 1)) (omega (arith, was.within chained)) (lasts chained)))
        ∙ or-assoc (has new place) here before
        ∙ ap (λ b. has new place || b) (or-flip here before ∙ sym (one-less chained place))
        ∙ was.added chained place;
  }
    where
      lasts : IsChained index → IsLastOf (blocks_of entries) (at - 1) block (slice_index index.nexts.items (at - 1))
      lasts chained =
          let inside : at - 1 < length entries = omega (arith, was.within chained) in
          let e : slice_index (blocks_of entries) (at - 1) ≡ block = block-at entries (at - 1) inside ∙ was.here chained go in
          let P : ℕ → Type 0 = λ b. IsLastOf (blocks_of entries) (at - 1) b (slice_index index.nexts.items (at - 1)) in
          subst P e (chained.same (at - 1) inside (omega (arith, e, some)))

      nexts : IsChained index → next ≡ slice_index index.nexts.items (at - 1)
      nexts chained = let last = lasts chained in omega (arith, is, last.within)

      one-less : IsChained index → (place : ℕ) → is_filed same (take at entries) place ≡ (is_filed same (take (at - 1) entries) place || ((entry_at entries (at - 1)).place == place))
      one-less chained place =
          let e : at ≡ at - 1 + 1 = omega arith in
          ap (λ (n : ℕ). is_filed same (take n entries) place) e
          ∙ list_any_more (is_of same place) entries (at - 1) (record { block = 0; place = 0 }) (omega (arith, was.within chained))
          ∙ ap (λ b. is_filed same (take (at - 1) entries) place || (b && ((entry_at entries (at - 1)).place == place))) (eq-eqb (entry_at entries (at - 1)).block block (was.here chained go))

  pub followed-all : (new : List ℕ) → IsFollowed index block old 0 new → AddFiled index (λ other. other == block) old new
  followed-all new was = record { added = λ chained place. sym (or-none (has new place)) ∙ was.added chained place }

-- one block, and then the part of it
pub within-more : (index : PortIndex) (bits low port : ℕ) (old mid new : List ℕ)
    → AddFiled index (λ other. other == number (suc bits) low) old mid
    → AddFiled index (lies_in bits (half_with bits low port) port) mid new
    → AddFiled index (lies_in (suc bits) low port) old new
within-more index bits low port old mid new one rest = record {
  added = λ chained place.
      let entries = index.entries.items in
      let here : ℕ → Bool = λ other. other == number (suc bits) low in
      let later : ℕ → Bool = lies_in bits (half_with bits low port) port in
      rest.added chained place
      ∙ ap (λ b. b || is_filed later entries place) (one.added chained place)
      ∙ or-assoc (has old place) (is_filed here entries place) (is_filed later entries place)
      ∙ ap (λ b. has old place || b) (sym (filed-either (lies_in (suc bits) low port) here later (λ block. lies-more bits low port block) entries place));
}

pub within-part : (index : PortIndex) (bits low port half : ℕ) (old mid new : List ℕ)
    → 0 < bits
    → half ≡ half_with (bits - 1) low port
    → AddFiled index (λ other. other == number bits low) old mid
    → AddFiled index (lies_in (bits - 1) half port) mid new
    → AddFiled index (lies_in bits low port) old new
within-part index bits low port half old mid new some is one rest =
    let e : suc (bits - 1) ≡ bits = omega arith in
    let P : ℕ → Type 0 = λ b. AddFiled index (lies_in b low port) old new in
    let Q : ℕ → Type 0 = λ b. AddFiled index (λ other. other == number b low) old mid in
    let R : ℕ → Type 0 = λ h. AddFiled index (lies_in (bits - 1) h port) mid new in
    subst P e (within-more index (bits - 1) low port old mid new (subst Q (sym e) one) (subst R is rest))

pub within-one : (index : PortIndex) (low port : ℕ) (old new : List ℕ) → AddFiled index (λ other. other == number 0 low) old new → AddFiled index (lies_in 0 low port) old new
within-one index low port old new one = record {
  added = λ chained place.
      one.added chained place
      ∙ ap (λ b. has old place || b)
      (same-tests (λ other. other == number 0 low) (lies_in 0 low port) (λ block. sym (lies-one low port block))
      index.entries.items place);
}
  where
    same-tests : (test other : ℕ → Bool) → ((block : ℕ) → test block ≡ other block) → (entries : List IndexEntry) (place : ℕ) → is_filed test entries place ≡ is_filed other entries place
    same-tests test other is [] place = refl
    same-tests test other is (entry ∷ entries) place =
        ap (λ b. (b && (entry.place == place)) || is_filed test entries place) (is entry.block)
        ∙ ap (λ b. (other entry.block && (entry.place == place)) || b) (same-tests test other is entries place)
