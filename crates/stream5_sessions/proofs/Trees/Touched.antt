-- A touch that the tree is asked for: what it finds, and what is kept then, by whether the key has a number.
use Rattle.std.proofs.Common.{◌≡◌, ℕ, ◌-◌, ◌≤◌, ◌<◌, cond, List, ◌∷◌, length, take, slice_get, true, false}
use Rattle.std.proofs.Common.{Option, Some, None, refl, sym, ap, subst, ◌∙◌, arith}
use Rattle.std.specs.Map.{lookup}
use Rattle.std.specs.Option.{option_map, unwrap_or}
use Rattle.lru.specs.LruCache.{LruCache, lru_cache, promoted, put_entries, displaced}
use Rattle.stream5_sessions.specs.contracts.lives.NumberedKeyPartialEq.TheImpl.{eq-value}
use Rattle.stream5_sessions.specs.declared.flow_numbers.FlowNumbers.{FlowNumbers}
use Rattle.stream5_sessions.specs.declared.flows.Touch.{Touch}
use Rattle.stream5_sessions.specs.declared.key.Key.{Key}
use Rattle.stream5_sessions.specs.declared.lives.NumberedKey.{NumberedKey}
use Rattle.stream5_sessions.specs.Caches.{found_by, kept_by}
use Rattle.stream5_sessions.specs.Indexed.{LivesState, lives_with, entries_of, is_gone, IsIndexed}
use Rattle.stream5_sessions.specs.Keys.{same_key}
use Rattle.stream5_sessions.specs.Trees.{number_in, Puts, KeepsNumbers}
use Rattle.stream5_sessions.proofs.Trees.CacheSteps.{promoted-some}
use Rattle.stream5_sessions.proofs.Trees.Living.{numbered, named, alike, missing, others, put_is, displaced_is, entries-take, evicted-flow}
use Rattle.stream5_sessions.proofs.Trees.Living.{indexed-promoted, indexed-alike, indexed-undone, indexed-begun}
use Rattle.stream5_sessions.proofs.Trees.Numbered.{lookup-plain, promoted-plain}

-- the key's flow lives
abbrev pub again : ℕ → Touch
again flow = record { flow = flow; fresh = false; evicted = None }

-- the key's flow begins
abbrev fresh : ℕ → Option ℕ → Touch
fresh next evicted = record { flow = next; fresh = true; evicted = evicted }

-- a number is there, or none
no_number : (o : Option ℕ) (n : ℕ) → o ≡ Some n → o ≡ None → ⊥
no_number o n is none = cc

module _ (numbers : FlowNumbers) (key : Key) (cache : LruCache NumberedKey ℕ) (indexed : IsIndexed numbers cache.entries)
    (old : LivesState) (was : lives_with (entries_of cache.entries) cache.cap ≡ old) where
  abbrev there : Option ℕ
  there = lookup (same_key key) old.entries

  kept_is : lookup (same_key key) (entries_of cache.entries) ≡ there
  kept_is = ap (λ (l : LivesState). lookup (same_key key) l.entries) was

  -- a key that has a number lives
  nowhere : (number : ℕ) → number_in numbers key ≡ Some number → there ≡ None → ⊥
  nowhere number is none = no_number (number_in numbers key) number is (indexed.only key (kept_is ∙ none))

  module _ (number : ℕ) (is : number_in numbers key ≡ Some number) (next : ℕ) where
    pub living-value : (found : Option ℕ) → found ≡ lookup (eq-value.it (numbered key number)) cache.entries
        → again (unwrap_or found number) ≡ found_by old.entries old.cap next there
    living-value found looked =
        ap (λ (o : Option ℕ). again (unwrap_or o number))
        (looked ∙ lookup-plain named (eq-value.it (numbered key number)) (same_key key) cache.entries (alike numbers key number is cache.entries indexed.found) ∙ kept_is)
        ∙ by there refl
      where
        by : (o : Option ℕ) → there ≡ o → again (unwrap_or o number) ≡ found_by old.entries old.cap next o
        by None none = absurd (nowhere number is none)
        by (Some flow) found = refl

    pub living-after : (left : LruCache NumberedKey ℕ) → left ≡ lru_cache (promoted (eq-value.it (numbered key number)) cache.entries) cache.cap
        → lives_with (entries_of left.entries) left.cap ≡ lives_with (kept_by old.entries old.cap next key there) old.cap
    living-after left now =
        ap (λ (x : LruCache NumberedKey ℕ). lives_with (entries_of x.entries) x.cap) now
        ∙ ap (λ (l : List (Key × ℕ)). lives_with l cache.cap)
        (promoted-plain named (eq-value.it (numbered key number)) (same_key key) cache.entries (alike numbers key number is cache.entries indexed.found))
        ∙ ap (λ (l : LivesState). lives_with (promoted (same_key key) l.entries) l.cap) was
        ∙ by there refl
      where
        by : (o : Option ℕ) → there ≡ o → lives_with (promoted (same_key key) old.entries) old.cap ≡ lives_with (kept_by old.entries old.cap next key o) old.cap
        by None none = absurd (nowhere number is none)
        by (Some flow) found = ap (λ (l : List (Key × ℕ)). lives_with l old.cap) (promoted-some key flow old.entries found)

    pub living-indexed : (after : FlowNumbers) (left : LruCache NumberedKey ℕ) → KeepsNumbers numbers after
        → left ≡ lru_cache (promoted (eq-value.it (numbered key number)) cache.entries) cache.cap → IsIndexed after left.entries
    living-indexed after left keeps now =
        subst (λ (x : LruCache NumberedKey ℕ). IsIndexed after x.entries) (sym now)
        (indexed-alike numbers after (promoted (eq-value.it (numbered key number)) cache.entries) keeps
        (indexed-promoted numbers key number cache.entries is indexed))

  module _ (none : number_in numbers key ≡ None) where
    absent : lookup (same_key key) (entries_of cache.entries) ≡ None
    absent = missing numbers key none cache.entries indexed.found

    -- a key that has no number doesn't live
    pub unkept : there ≡ None
    unkept = sym kept_is ∙ absent

    module _ (next : ℕ) where
      pub begun-value : (evicted : Option (NumberedKey × ℕ)) (flow : Option ℕ) → evicted ≡ displaced eq-value.it cache (numbered key next) next
          → flow ≡ option_map (λ (e : NumberedKey × ℕ). e.1) evicted → fresh next flow ≡ found_by old.entries old.cap next there
      begun-value evicted flow left is =
          ap (fresh next)
          (is ∙ ap (option_map (λ (e : NumberedKey × ℕ). e.1)) (left ∙ displaced_is cache key next (others key cache.entries absent))
          ∙ evicted-flow cache.entries (cache.cap - 1)
          ∙ ap (λ (l : LivesState). option_map (λ (e : Key × ℕ). e.1) (slice_get l.entries (l.cap - 1))) was)
          ∙ ap (found_by old.entries old.cap next) (sym unkept)

      put : (left : LruCache NumberedKey ℕ) → left ≡ lru_cache (put_entries eq-value.it cache (numbered key next) next) cache.cap
          → left ≡ lru_cache ((numbered key next, next) ∷ take (cache.cap - 1) cache.entries) cache.cap
      put left now = now ∙ ap (λ (es : List (NumberedKey × ℕ)). lru_cache es cache.cap) (put_is cache key next (others key cache.entries absent))

      pub begun-after : (left : LruCache NumberedKey ℕ) → left ≡ lru_cache (put_entries eq-value.it cache (numbered key next) next) cache.cap
          → lives_with (entries_of left.entries) left.cap ≡ lives_with (kept_by old.entries old.cap next key there) old.cap
      begun-after left now =
          ap (λ (x : LruCache NumberedKey ℕ). lives_with (entries_of x.entries) x.cap) (put left now)
          ∙ ap (λ (l : List (Key × ℕ)). lives_with ((key, next) ∷ l) cache.cap) (entries-take (cache.cap - 1) cache.entries)
          ∙ ap (λ (l : LivesState). lives_with (kept_by l.entries l.cap next key None) l.cap) was
          ∙ ap (λ (o : Option ℕ). lives_with (kept_by old.entries old.cap next key o) old.cap) (sym unkept)

      pub begun-indexed : (given after : FlowNumbers) (left : LruCache NumberedKey ℕ) (evicted : Option (NumberedKey × ℕ)) → Puts numbers key (Some next) given
          → length cache.entries ≤ cache.cap → 0 < cache.cap
          → evicted ≡ displaced eq-value.it cache (numbered key next) next
          → left ≡ lru_cache (put_entries eq-value.it cache (numbered key next) next) cache.cap
          → ((q : Key) → number_in after q ≡ cond (is_gone evicted q) None (number_in given q))
          → IsIndexed after left.entries
      begun-indexed given after left evicted puts few some leaves now gone =
          subst (λ (x : LruCache NumberedKey ℕ). IsIndexed after x.entries) (sym (put left now))
          (indexed-begun numbers given cache.entries key next indexed absent puts after (cache.cap - 1) evicted (omega (arith, few, some))
          (sym (leaves ∙ displaced_is cache key next (others key cache.entries absent))) gone)

      -- the number is taken back
      pub undone-indexed : (given after : FlowNumbers) (left : LruCache NumberedKey ℕ) → Puts numbers key (Some next) given → Puts given key None after
          → left ≡ cache → IsIndexed after left.entries
      undone-indexed given after left puts undone same =
          subst (λ (x : LruCache NumberedKey ℕ). IsIndexed after x.entries) (sym same)
          (indexed-undone numbers given cache.entries key next indexed absent puts after undone)
