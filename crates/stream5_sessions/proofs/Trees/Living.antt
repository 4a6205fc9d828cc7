-- A tree of numbers and a cache that hashes them: what the tree says of the cache's entries, and what both are
-- after a step.
use Rattle.std.proofs.Common.{◌≡◌, ℕ, zero, suc, ◌-◌, ◌≤◌, Bool, true, false, cond, ◌&&◌, eqb, List, [], ◌∷◌, length, take, slice_get}
use Rattle.std.proofs.Common.{Option, Some, None, IfSome, refl, sym, ap, subst, ◌∙◌, eq-eqb, arith}
use Rattle.std.specs.List.{AllByRecursion, IsDistinct}
use Rattle.std.specs.Map.{keys_of, values_of, lookup, lookup_entry, remove_entry}
use Rattle.std.specs.Option.{option_map, option_map_or}
use Rattle.std.proofs.lemmas.Option.{slice_get-map}
use Rattle.lru.specs.LruCache.{LruCache, promoted, put_entries, displaced}
use Rattle.stream5_sessions.specs.contracts.lives.NumberedKeyPartialEq.TheImpl.{eq-value}
use Rattle.stream5_sessions.specs.declared.flow_numbers.FlowNumbers.{FlowNumbers}
use Rattle.stream5_sessions.specs.declared.key.Key.{Key}
use Rattle.stream5_sessions.specs.declared.lives.NumberedKey.{NumberedKey}
use Rattle.stream5_sessions.specs.Indexed.{entries_of, is_gone, IsIndexed}
use Rattle.stream5_sessions.specs.Keys.{same_key}
use Rattle.stream5_sessions.specs.Trees.{number_in, HasNone, Puts, KeepsNumbers}
use Rattle.stream5_sessions.proofs.KeyLaws.{eq-same_key, same_key-is, same_key-self, same_key-flips}
use Rattle.stream5_sessions.proofs.Trees.Numbered.{Alike, plain_entry, promoted-plain, all-take, all-get, all-promoted}
use Rattle.stream5_sessions.proofs.Trees.Numbered.{distinct-take, distinct-promoted, apart-from, unless_promoted, unless_last}

abbrev pub numbered : Key → ℕ → NumberedKey
numbered key number = record { key = key; number = number }

-- the key alone
abbrev pub named : NumberedKey → Key
named n = n.key

-- the derived test of a key with its number
pub test_parts : (a b : NumberedKey) → eq-value.it a b ≡ (same_key a.key b.key && eqb a.number b.number)
test_parts a b = ap (λ (x : Bool). x && eqb a.number b.number) (eq-same_key a.key b.key)

one_number : (o : Option ℕ) (m n : ℕ) → o ≡ Some m → o ≡ Some n → m ≡ n
one_number o m n is also = cc

no_number : (o : Option ℕ) (n : ℕ) → o ≡ Some n → o ≡ None → ⊥
no_number o n is none = cc

abbrev pub HasNumber : FlowNumbers → NumberedKey × ℕ → Type 0
HasNumber numbers e = number_in numbers e.0.key ≡ Some e.0.number

module _ (numbers : FlowNumbers) (key : Key) where
  -- with the number that the tree has, the cache's test is that of the key
  pub alike : (number : ℕ) → number_in numbers key ≡ Some number → (es : List (NumberedKey × ℕ)) → AllByRecursion (HasNumber numbers) es
      → Alike named (eq-value.it (numbered key number)) (same_key key) es
  alike number is [] all = tt
  alike number is (e ∷ es) all = (test_parts (numbered key number) e.0 ∙ by (same_key key e.0.key) refl, alike number is es all.1)
    where
      by : (b : Bool) → same_key key e.0.key ≡ b → (b && eqb number e.0.number) ≡ b
      by true t =
          let here : number_in numbers key ≡ Some e.0.number = ap (number_in numbers) (same_key-is key e.0.key t) ∙ all.0 in
          eq-eqb number e.0.number (one_number (number_in numbers key) number e.0.number is here)
      by false t = refl

  -- a key without a number isn't there
  pub missing : number_in numbers key ≡ None → (es : List (NumberedKey × ℕ)) → AllByRecursion (HasNumber numbers) es → lookup (same_key key) (entries_of es) ≡ None
  missing is [] all = refl
  missing is (e ∷ es) all = (elim (same_key key e.0.key) as (λ b. same_key key e.0.key ≡ b → cond b (Some e.1) (lookup (same_key key) (entries_of es)) ≡ None) [
    | true ↦ λ t. absurd (no_number (number_in numbers key) e.0.number (ap (number_in numbers) (same_key-is key e.0.key t) ∙ all.0) is)
    | false ↦ λ t. missing is es all.1
  ]) refl

-- ---- a key that isn't there
abbrev IsOther : Key → NumberedKey × ℕ → Type 0
IsOther key e = same_key key e.0.key ≡ false

pub others : (key : Key) (es : List (NumberedKey × ℕ)) → lookup (same_key key) (entries_of es) ≡ None → AllByRecursion (IsOther key) es
others key [] none = tt
others key (e ∷ es) none =
    (elim (same_key key e.0.key) as
    (λ b. same_key key e.0.key ≡ b → cond b (Some e.1) (lookup (same_key key) (entries_of es)) ≡ None →
    IsOther key e × AllByRecursion (IsOther key) es) [
      | true ↦ λ t h. cc
      | false ↦ λ t h. (t, others key es h)
    ]) refl none

fails : (key : Key) (number : ℕ) (e : NumberedKey × ℕ) → IsOther key e → eq-value.it (numbered key number) e.0 ≡ false
fails key number e is = test_parts (numbered key number) e.0 ∙ ap (λ (b : Bool). b && eqb number e.0.number) is

unmatched : (key : Key) (number : ℕ) (es : List (NumberedKey × ℕ)) → AllByRecursion (IsOther key) es → lookup_entry (eq-value.it (numbered key number)) es ≡ None
unmatched key number [] all = refl
unmatched key number (e ∷ es) all =
    ap (λ (b : Bool). cond b (Some e) (lookup_entry (eq-value.it (numbered key number)) es)) (fails key number e all.0) ∙ unmatched key number es all.1

unfound : (key : Key) (number : ℕ) (es : List (NumberedKey × ℕ)) → AllByRecursion (IsOther key) es → lookup (eq-value.it (numbered key number)) es ≡ None
unfound key number [] all = refl
unfound key number (e ∷ es) all =
    ap (λ (b : Bool). cond b (Some e.1) (lookup (eq-value.it (numbered key number)) es)) (fails key number e all.0) ∙ unfound key number es all.1

module _ (cache : LruCache NumberedKey ℕ) (key : Key) (number : ℕ) (apart : AllByRecursion (IsOther key) cache.entries) where
  -- pushes out the last one of a full cache
  pub put_is : put_entries eq-value.it cache (numbered key number) number ≡ (numbered key number, number) ∷ take (cache.cap - 1) cache.entries
  put_is =
      ap (λ (o : Option (NumberedKey × ℕ)). option_map_or
      (λ e. (e.0, number) ∷ remove_entry (eq-value.it (numbered key number)) cache.entries) o
      ((numbered key number, number) ∷ take (cache.cap - 1) cache.entries))
      (unmatched key number cache.entries apart)

  pub displaced_is : displaced eq-value.it cache (numbered key number) number ≡ slice_get cache.entries (cache.cap - 1)
  displaced_is =
      ap (λ (o : Option ℕ). option_map_or (λ old. Some (numbered key number, old)) o (slice_get cache.entries (cache.cap - 1))) (unfound key number cache.entries apart)

pub entries-take : (n : ℕ) (es : List (NumberedKey × ℕ)) → entries_of (take n es) ≡ take n (entries_of es)
entries-take zero es = refl
entries-take (suc n) [] = refl
entries-take (suc n) (e ∷ es) = ap (λ (l : List (Key × ℕ)). (e.0.key, e.1) ∷ l) (entries-take n es)

length-entries : (es : List (NumberedKey × ℕ)) → length (entries_of es) ≡ length es
length-entries [] = refl
length-entries (e ∷ es) = ap suc (length-entries es)

pub values-entries : (es : List (NumberedKey × ℕ)) → values_of (entries_of es) ≡ values_of es
values-entries [] = refl
values-entries (e ∷ es) = ap (λ (l : List ℕ). e.1 ∷ l) (values-entries es)

-- the flow of the entry at a place
pub evicted-flow : (es : List (NumberedKey × ℕ)) (i : ℕ) → option_map (λ (e : NumberedKey × ℕ). e.1) (slice_get es i) ≡ option_map (λ (e : Key × ℕ). e.1) (slice_get (entries_of es) i)
evicted-flow [] i = refl
evicted-flow (e ∷ es) zero = refl
evicted-flow (e ∷ es) (suc i) = evicted-flow es i

-- ---- the index after a step
keys-all : (P : Key → Type 0) (es : List (NumberedKey × ℕ)) → AllByRecursion (λ (e : NumberedKey × ℕ). P e.0.key) es → AllByRecursion P (keys_of (entries_of es))
keys-all P [] all = tt
keys-all P (e ∷ es) all = (all.0, keys-all P es all.1)

by_numbers : (P : Key → Type 0) (es : List (NumberedKey × ℕ)) → AllByRecursion (λ (e : Key × ℕ). P e.0) (entries_of es) → AllByRecursion (λ (e : NumberedKey × ℕ). P e.0.key) es
by_numbers P [] all = tt
by_numbers P (e ∷ es) all = (all.0, by_numbers P es all.1)

-- numbers that stay at keys of which P and Q hold
still : (numbers after : FlowNumbers) (P Q : Key → Type 0) → ((q : Key) → P q → Q q → number_in after q ≡ number_in numbers q) → (es : List (NumberedKey × ℕ))
    → AllByRecursion (λ (e : NumberedKey × ℕ). P e.0.key) es → AllByRecursion (λ (e : NumberedKey × ℕ). Q e.0.key) es → AllByRecursion (HasNumber numbers) es → AllByRecursion (HasNumber after) es
still numbers after P Q same [] ps qs all = tt
still numbers after P Q same (e ∷ es) ps qs all = (same e.0.key ps.0 qs.0 ∙ all.0, still numbers after P Q same es ps.1 qs.1 all.1)

pub indexed-none : (numbers : FlowNumbers) (es : List (NumberedKey × ℕ)) → HasNone numbers → es ≡ [] → IsIndexed numbers es
unfolding IsDistinct
indexed-none numbers es empty none = subst (IsIndexed numbers) (sym none) (record {
  found = tt;
  only = λ q gone. empty q;
  apart = tt;
})

pub indexed-promoted : (numbers : FlowNumbers) (key : Key) (number : ℕ) (es : List (NumberedKey × ℕ)) → number_in numbers key ≡ Some number → IsIndexed numbers es
    → IsIndexed numbers (promoted (eq-value.it (numbered key number)) es)
indexed-promoted numbers key number es is indexed =
    let plainly = promoted-plain named (eq-value.it (numbered key number)) (same_key key) es (alike numbers key number is es indexed.found) in
    record {
      found = all-promoted (eq-value.it (numbered key number)) (HasNumber numbers) es indexed.found;
      only = λ q none. indexed.only q (unless_promoted (same_key q) (same_key key) (entries_of es) (ap (lookup (same_key q)) (sym plainly) ∙ none));
      apart = subst (λ (l : List (Key × ℕ)). IsDistinct same_key (keys_of l)) (sym plainly) (distinct-promoted same_key same_key-flips (same_key key) (entries_of es) indexed.apart);
    }

-- numbers that stay
pub indexed-alike : (numbers after : FlowNumbers) (es : List (NumberedKey × ℕ)) → KeepsNumbers numbers after → IsIndexed numbers es → IsIndexed after es
indexed-alike numbers after es same indexed = record {
  found = all_alike es indexed.found;
  only = λ q none. same q ∙ indexed.only q none;
  apart = indexed.apart;
}
  where
    all_alike : (es : List (NumberedKey × ℕ)) → AllByRecursion (HasNumber numbers) es → AllByRecursion (HasNumber after) es
    all_alike [] all = tt
    all_alike (e ∷ es) all = (same e.0.key ∙ all.0, all_alike es all.1)

puts_at : (numbers after : FlowNumbers) (key q : Key) (number : Option ℕ) (b : Bool) → Puts numbers key number after → same_key key q ≡ b → number_in after q ≡ cond b number (number_in numbers q)
puts_at numbers after key q number b put is = put q ∙ ap (λ (x : Bool). cond x number (number_in numbers q)) is

module _ (numbers put : FlowNumbers) (es : List (NumberedKey × ℕ)) (key : Key) (number : ℕ) (indexed : IsIndexed numbers es)
    (absent : lookup (same_key key) (entries_of es) ≡ None) (puts : Puts numbers key (Some number) put) where
  apart : AllByRecursion (IsOther key) es
  apart = others key es absent

  abbrev Free : Key → Type 0
  Free q = same_key key q ≡ false

  -- the key's number is taken out again
  pub indexed-undone : (after : FlowNumbers) → Puts put key None after → IsIndexed after es
  indexed-undone after undone = indexed-alike numbers after es (λ q. undone q ∙ ap (λ (o : Option ℕ). cond (same_key key q) None o) (puts q) ∙ back q (same_key key q) refl) indexed
    where
      back : (q : Key) (b : Bool) → same_key key q ≡ b → cond {A = Option ℕ} b None (cond b (Some number) (number_in numbers q)) ≡ number_in numbers q
      back q false is = refl
      back q true is = sym (indexed.only q (ap (λ (k : Key). lookup (same_key k) (entries_of es)) (sym (same_key-is key q is)) ∙ absent))

  -- the keys after the new one
  distinct : (i : ℕ) → IsDistinct same_key (keys_of (entries_of ((numbered key number, number) ∷ take i es)))
  unfolding IsDistinct
  distinct i = (
    keys-all Free (take i es) (all-take (IsOther key) i es apart),
    subst (λ (l : List (Key × ℕ)). IsDistinct same_key (keys_of l)) (sym (entries-take i es)) (distinct-take same_key same_key-flips i (entries_of es) indexed.apart),
  )

  -- a key that isn't among these after the step wasn't there before it, but for the one that leaves
  before : (q : Key) (i : ℕ) (evicted : Option (NumberedKey × ℕ)) → length es ≤ suc i → slice_get es i ≡ evicted
      → lookup (same_key q) (entries_of ((numbered key number, number) ∷ take i es)) ≡ None → is_gone evicted q ≡ false → number_in put q ≡ None
  before q i evicted few at none stays = by (same_key q key) refl none
    where
      last : (evicted : Option (NumberedKey × ℕ)) → is_gone evicted q ≡ false → IfSome (option_map (plain_entry named) evicted) (λ e. same_key q e.0 ≡ false)
      last None off = tt
      last (Some e) off = same_key-flips e.0.key q off

      there : slice_get (entries_of es) i ≡ option_map (plain_entry named) evicted
      there = slice_get-map (plain_entry named) es i ∙ ap (option_map (plain_entry named)) at

      by : (b : Bool) → same_key q key ≡ b → cond {A = Option ℕ} b (Some number) (lookup (same_key q) (entries_of (take i es))) ≡ None → number_in put q ≡ None
      by true is none = absurd (no_number (Some number) number refl none)
      by false is none =
          puts_at numbers put key q (Some number) false puts (same_key-flips q key is)
          ∙ indexed.only q (unless_last (same_key q) i (entries_of es) (omega (arith, few, length-entries es))
          (ap (lookup (same_key q)) (sym (entries-take i es)) ∙ none)
          (subst (λ (o : Option (Key × ℕ)). IfSome o (λ e. same_key q e.0 ≡ false)) (sym there) (last evicted stays)))

  only : (after : FlowNumbers) (i : ℕ) (evicted : Option (NumberedKey × ℕ)) → length es ≤ suc i → slice_get es i ≡ evicted
      → ((q : Key) → number_in after q ≡ cond (is_gone evicted q) None (number_in put q))
      → (q : Key) → lookup (same_key q) (entries_of ((numbered key number, number) ∷ take i es)) ≡ None → number_in after q ≡ None
  only after i evicted few at gone q none = gone q ∙ by (is_gone evicted q) refl
    where
      by : (b : Bool) → is_gone evicted q ≡ b → cond b None (number_in put q) ≡ None
      by true is = refl
      by false is = before q i evicted few at none is

  -- the new key goes first, and what was at this place leaves
  pub indexed-begun : (after : FlowNumbers) (i : ℕ) (evicted : Option (NumberedKey × ℕ)) → length es ≤ suc i → slice_get es i ≡ evicted
      → ((q : Key) → number_in after q ≡ cond (is_gone evicted q) None (number_in put q)) → IsIndexed after ((numbered key number, number) ∷ take i es)
  indexed-begun after i None few at gone = record {
    found = (
      gone key ∙ puts_at numbers put key key (Some number) true puts (same_key-self key),
      still numbers after Free Free (λ q p r. gone q ∙ puts_at numbers put key q (Some number) false puts p) (take i es)
          (all-take (IsOther key) i es apart) (all-take (IsOther key) i es apart) (all-take (HasNumber numbers) i es indexed.found),
    );
    only = only after i None few at gone;
    apart = distinct i;
  }
  indexed-begun after i (Some last) few at gone =
      let Gone : Key → Type 0 = λ q. same_key last.0.key q ≡ false in
      let there : slice_get (entries_of es) i ≡ Some (last.0.key, last.1) =
      slice_get-map (plain_entry named) es i ∙ ap (option_map (plain_entry named)) at in
      let left : AllByRecursion (λ (e : NumberedKey × ℕ). Gone e.0.key) (take i es) =
      by_numbers Gone (take i es)
      (subst (AllByRecursion (λ (e : Key × ℕ). Gone e.0))
      (sym (entries-take i es))
      (apart-from same_key same_key-flips i (entries_of es) (last.0.key, last.1) indexed.apart there)) in
      let stays : (q : Key) → Gone q → number_in after q ≡ number_in put q =
      λ q r. gone q ∙ ap (λ (b : Bool). cond b None (number_in put q)) r in
      record {
        found = (
          stays key (same_key-flips key last.0.key (all-get (IsOther key) es i last at apart))
              ∙ puts_at numbers put key key (Some number) true puts (same_key-self key),
          still numbers after Free Gone (λ q p r. stays q r ∙ puts_at numbers put key q (Some number) false puts p) (take i es)
              (all-take (IsOther key) i es apart) left (all-take (HasNumber numbers) i es indexed.found),
        );
        only = only after i (Some last) few at gone;
        apart = distinct i;
      }
