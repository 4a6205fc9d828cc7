-- A number that is guessed: where the cache has an entry of the key with it, that is the key's; where it has none,
-- nothing moves.
use Rattle.std.proofs.Common.{◌≡◌, ℕ, true, false, cond, eqb, List, [], ◌∷◌, Option, Some, None, IfSome, refl, sym, ap, subst, ◌∙◌}
use Rattle.std.specs.List.{AllByRecursion}
use Rattle.std.specs.Map.{lookup}
use Rattle.std.specs.Option.{MatchOption, is_some}
use Rattle.std.proofs.lemmas.Bool.{and_parts, eqb-true}
use Rattle.lru.specs.LruCache.{LruCache, lru_cache, promoted}
use Rattle.lru.proofs.Pairs.{promoted_absent}
use Rattle.stream5_sessions.specs.contracts.lives.NumberedKeyPartialEq.TheImpl.{eq-value}
use Rattle.stream5_sessions.specs.declared.flow_numbers.FlowNumbers.{FlowNumbers}
use Rattle.stream5_sessions.specs.declared.key.Key.{Key}
use Rattle.stream5_sessions.specs.declared.lives.NumberedKey.{NumberedKey}
use Rattle.stream5_sessions.specs.Indexed.{LivesState, lives_with, entries_of, IsIndexed}
use Rattle.stream5_sessions.specs.Keys.{same_key}
use Rattle.stream5_sessions.specs.Trees.{number_in}
use Rattle.stream5_sessions.proofs.KeyLaws.{same_key-is}
use Rattle.stream5_sessions.proofs.Trees.Numbered.{lookup-plain, promoted-plain}
use Rattle.stream5_sessions.proofs.Trees.Living.{numbered, named, test_parts, HasNumber, alike, indexed-promoted}

module _ (numbers : FlowNumbers) (key : Key) (number : ℕ) where
  -- the number with which the cache has the key is that which the tree has
  has_number : (es : List (NumberedKey × ℕ)) (flow : ℕ) → lookup (eq-value.it (numbered key number)) es ≡ Some flow → AllByRecursion (HasNumber numbers) es
      → number_in numbers key ≡ Some number
  has_number [] flow is all = cc
  has_number (e ∷ es) flow is all =
      (elim (eq-value.it (numbered key number) e.0) as
      (λ b. eq-value.it (numbered key number) e.0 ≡ b →
      cond b (Some e.1) (lookup (eq-value.it (numbered key number)) es) ≡ Some flow → number_in numbers key ≡ Some number) [
        | true ↦ λ t is.
            let both = and_parts (same_key key e.0.key) (eqb number e.0.number) (sym (test_parts (numbered key number) e.0) ∙ t) in
            ap (number_in numbers) (same_key-is key e.0.key both.0) ∙ all.0 ∙ ap Some (sym (eqb-true number e.0.number both.1))
        | false ↦ λ t is. has_number es flow is all.1
      ]) refl is

  unmoved : (es : List (NumberedKey × ℕ)) → lookup (eq-value.it (numbered key number)) es ≡ None → promoted (eq-value.it (numbered key number)) es ≡ es
  unmoved es is = (promoted_absent eq-value.it (lru_cache es 0) (numbered key number) (ap (λ (o : Option ℕ). is_some o) is)).1

  module _ (cache : LruCache NumberedKey ℕ) (indexed : IsIndexed numbers cache.entries) where
    pub indexed-guessed : IsIndexed numbers (promoted (eq-value.it (numbered key number)) cache.entries)
    indexed-guessed = by (lookup (eq-value.it (numbered key number)) cache.entries) refl
      where
        by : (found : Option ℕ) → lookup (eq-value.it (numbered key number)) cache.entries ≡ found → IsIndexed numbers (promoted (eq-value.it (numbered key number)) cache.entries)
        by None is = subst (IsIndexed numbers) (sym (unmoved cache.entries is)) indexed
        by (Some flow) is = indexed-promoted numbers key number cache.entries (has_number cache.entries flow is indexed.found) indexed

    module _ (old : LivesState) (was : lives_with (entries_of cache.entries) cache.cap ≡ old) where
      pub by_guess-value : (found : Option ℕ) → found ≡ lookup (eq-value.it (numbered key number)) cache.entries
          → IfSome found (λ flow. lookup (same_key key) old.entries ≡ Some flow)
      by_guess-value None is = tt
      by_guess-value (Some flow) is =
          let has = has_number cache.entries flow (sym is) indexed.found in
          sym (is ∙ lookup-plain named (eq-value.it (numbered key number)) (same_key key) cache.entries (alike numbers key number has cache.entries indexed.found)
          ∙ ap (λ (l : LivesState). lookup (same_key key) l.entries) was)

      pub by_guess-after : (found : Option ℕ) (new : LruCache NumberedKey ℕ) → found ≡ lookup (eq-value.it (numbered key number)) cache.entries
          → new ≡ lru_cache (promoted (eq-value.it (numbered key number)) cache.entries) cache.cap
          → MatchOption found (lives_with (entries_of new.entries) new.cap ≡ old) (λ flow. lives_with (entries_of new.entries) new.cap ≡ lives_with (promoted (same_key key) old.entries) old.cap)
      by_guess-after None new is now =
          ap (λ (x : LruCache NumberedKey ℕ). lives_with (entries_of x.entries) x.cap) (now ∙ ap (λ (es : List (NumberedKey × ℕ)). lru_cache es cache.cap) (unmoved cache.entries (sym is)))
          ∙ was
      by_guess-after (Some flow) new is now =
          let has = has_number cache.entries flow (sym is) indexed.found in
          ap (λ (x : LruCache NumberedKey ℕ). lives_with (entries_of x.entries) x.cap) now
          ∙ ap (λ (l : List (Key × ℕ)). lives_with l cache.cap)
          (promoted-plain named (eq-value.it (numbered key number)) (same_key key) cache.entries (alike numbers key number has cache.entries indexed.found))
          ∙ ap (λ (l : LivesState). lives_with (promoted (same_key key) l.entries) l.cap) was
