-- What a touch leaves, by whether the key is kept.
use Rattle.std.proofs.Common.{◌≡◌, ℕ, Bool, true, false, cond, List, [], ◌∷◌, Option, Some, None, refl, sym, ap, ◌∙◌}
use Rattle.std.specs.Option.{option_map_or}
use Rattle.std.specs.Map.{lookup, lookup_entry, remove_entry}
use Rattle.lru.specs.LruCache.{promoted}
use Rattle.stream5_sessions.specs.declared.key.Key.{Key}
use Rattle.stream5_sessions.specs.Indexed.{LivesState, lives_with}
use Rattle.stream5_sessions.specs.Keys.{same_key}
use Rattle.stream5_sessions.proofs.KeyLaws.{same_key-is}

lookup_entry-none : (test : Key → Bool) (es : List (Key × ℕ)) → lookup test es ≡ None → lookup_entry test es ≡ None
lookup_entry-none test [] h = refl
lookup_entry-none test (e ∷ es) h = (elim (test e.0) as (λ x. test e.0 ≡ x → cond x (Some e.1) (lookup test es) ≡ None → cond x (Some e) (lookup_entry test es) ≡ None) [
  | true ↦ λ t h. cc
  | false ↦ λ t h. lookup_entry-none test es h
]) refl h

-- a key that is kept goes first
pub promoted-some : (key : Key) (flow : ℕ) (es : List (Key × ℕ)) → lookup (same_key key) es ≡ Some flow → promoted (same_key key) es ≡ (key, flow) ∷ remove_entry (same_key key) es
promoted-some key flow es h = ap (λ (o : Option (Key × ℕ)). option_map_or (λ e. e ∷ remove_entry (same_key key) es) o es) (entry es h)
  where
    entry : (es : List (Key × ℕ)) → lookup (same_key key) es ≡ Some flow → lookup_entry (same_key key) es ≡ Some (key, flow)
    entry [] h = cc
    entry (e ∷ es) h =
        (elim (same_key key e.0) as
        (λ x. same_key key e.0 ≡ x → cond x (Some e.1) (lookup (same_key key) es) ≡ Some flow →
        cond x (Some e) (lookup_entry (same_key key) es) ≡ Some (key, flow)) [
          | true ↦ λ t h.
              let named : key ≡ e.0 = same_key-is key e.0 t in
              let numbered : e.1 ≡ flow = cc in ap (λ (k : Key). Some (k, e.1)) (sym named) ∙ ap (λ (f : ℕ). Some (key, f)) numbered
          | false ↦ λ t h. entry es h
        ]) refl h

-- a key that isn't kept leaves what is kept as it is
pub promoted-none : (key : Key) (es : List (Key × ℕ)) → lookup (same_key key) es ≡ None → promoted (same_key key) es ≡ es
promoted-none key es h = ap (λ (o : Option (Key × ℕ)). option_map_or (λ e. e ∷ remove_entry (same_key key) es) o es) (lookup_entry-none (same_key key) es h)

-- a look-up that finds nothing leaves them as they were
pub unpromoted : (lives left : LivesState) (key : Key) → left ≡ lives_with (promoted (same_key key) lives.entries) lives.cap → lookup (same_key key) lives.entries ≡ None → left ≡ lives
unpromoted lives left key after h = after ∙ ap (λ (es : List (Key × ℕ)). lives_with es lives.cap) (promoted-none key lives.entries h)
