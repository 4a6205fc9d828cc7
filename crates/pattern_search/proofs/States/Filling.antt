-- Owners, links and chains, one step of a loop at a time.
use Rattle.std.proofs.Common.{◌≡◌, ℕ, ◌+◌, ◌-◌, ◌<◌, Bool, true, false, cond, eqb, List, [], ◌∷◌, ◌++◌, length, set, get_or}
use Rattle.std.proofs.Common.{slice_index, replicate, take, drop, sym, refl, ap, subst, ◌∙◌, arith, ⊎_elim}
use Rattle.std.proofs.lemmas.List.{get_or_append_left, get_or_push, length_push, length-set, get_or-set_same, get_or-set_other, length-replicate, get_or-replicate, get_or_past, take_at}
use Rattle.std.proofs.lemmas.Bool.{cases_lt, cases_eq, ne_eqb, eq-eqb, cond-true, cond-false}
use Rattle.pattern_search.specs.declared.trie.Trie.{Trie}
use Rattle.pattern_search.specs.Words.{words_of}
use Rattle.pattern_search.specs.Moves.{FailsTo}
use Rattle.pattern_search.specs.Owned.{IsLastOf, AreOwned, owned_by}
use Rattle.pattern_search.specs.Outputs.{either, AreLinked, IsLinking, next_of, AreNexts}
use Rattle.pattern_search.proofs.States.Linking.{linked-more}

-- owners
module _ (ends : List ℕ) (states : ℕ) where
  nothing : (state : ℕ) → IsLastOf ends 0 state 0
  nothing state = record { within = omega arith; own = λ some. absurd (omega arith); greatest = λ place h e. absurd (omega arith) }

  zeros : (i : ℕ) → ◌≡◌ {A = ℕ} (get_or (replicate states 0) i 0) 0
  zeros i = ⊎_elim (λ h. get_or-replicate {A = ℕ} states i 0 0 h) (λ h. get_or_past (replicate states 0) i 0 (omega (arith, length-replicate {A = ℕ} states 0))) (cases_lt i states)

  pub owned-none : AreOwned ends states (replicate states 0) [] 0
  owned-none = record {
    sized = length-replicate {A = ℕ} states 0;
    root = zeros 0;
    first = λ state some h. let P : ℕ → Type 0 = λ o. IsLastOf ends 0 state o in subst P (sym (zeros state)) (nothing state);
    count = refl;
    same = λ place h some. absurd (omega arith);
  }

  module _ (firsts sames : List ℕ) (place : ℕ) (are : AreOwned ends states firsts sames place) (h : place < length ends) (within : slice_index ends place < states) where
    end : ℕ
    end = slice_index ends place

    not-here : (state owner : ℕ) → (slice_index ends place ≡ state → ⊥) → IsLastOf ends place state owner → IsLastOf ends (place + 1) state owner
    not-here state owner ne is = record {
      within = omega (arith, is.within);
      own = is.own;
      greatest = λ other k e.
          ⊎_elim (λ below. is.greatest other below e)
          (λ above. let here : other ≡ place = omega arith in absurd (ne (ap (slice_index ends) (sym here) ∙ e)))
          (cases_lt other place);
    }

    here : IsLastOf ends (place + 1) (slice_index ends place) (place + 1)
    here = record { within = omega arith; own = λ some. let e : place + 1 - 1 ≡ place = omega arith in ap (slice_index ends) e; greatest = λ other k e. k }

    root-case : slice_index ends place ≡ 0 → AreOwned ends states firsts (sames ++ slice_index firsts (slice_index ends place) ∷ []) (place + 1)
    root-case root = record {
      sized = are.sized;
      root = are.root;
      first = λ state some k. not-here state (slice_index firsts state) (λ e. omega arith) (are.first state some k);
      count = length_push sames (slice_index firsts (slice_index ends place)) ∙ ap (λ n. n + 1) are.count;
      same = λ other k some. ⊎_elim
          (λ e. absurd (omega (arith, ap (slice_index ends) e)))
          (λ ne.
          let P : ℕ → Type 0 = λ o. IsLastOf ends other (slice_index ends other) o in
          subst P
          (sym (get_or_append_left sames (slice_index firsts (slice_index ends place) ∷ []) 0 other (omega (arith, are.count))))
          (are.same other (omega arith) some))
          (cases_eq other place);
    }

    other-case : 0 < slice_index ends place → AreOwned ends states (set firsts (slice_index ends place) (place + 1)) (sames ++ slice_index firsts (slice_index ends place) ∷ []) (place + 1)
    other-case some_end = record {
      sized = length-set firsts (slice_index ends place) (place + 1) ∙ are.sized;
      root = get_or-set_other firsts (slice_index ends place) 0 (place + 1) 0 (λ e. omega arith) ∙ are.root;
      first = λ state some k. ⊎_elim
          (λ e.
          let P : ℕ → Type 0 =
          λ s. IsLastOf ends (place + 1) s (slice_index (set firsts (slice_index ends place) (place + 1)) s) in
          let Q : ℕ → Type 0 = λ o. IsLastOf ends (place + 1) (slice_index ends place) o in
          subst P e
          (subst Q (sym (get_or-set_same firsts (slice_index ends place) (place + 1) 0 (omega (arith, are.sized)))) here))
          (λ ne.
          let Q : ℕ → Type 0 = λ o. IsLastOf ends (place + 1) state o in
          subst Q (sym (get_or-set_other firsts (slice_index ends place) state (place + 1) 0 (λ e. ne (sym e))))
          (not-here state (slice_index firsts state) ne (are.first state some k)))
          (cases_eq (slice_index ends place) state);
      count = length_push sames (slice_index firsts (slice_index ends place)) ∙ ap (λ n. n + 1) are.count;
      same = λ other k some. ⊎_elim
          (λ e.
          let P : ℕ → Type 0 =
          λ p. IsLastOf ends p (slice_index ends p) (slice_index (sames ++ slice_index firsts (slice_index ends place) ∷ []) p) in
          let Q : ℕ → Type 0 = λ o. IsLastOf ends place (slice_index ends place) o in
          subst P (sym e)
          (subst Q (sym (get_or_push sames (slice_index firsts (slice_index ends place)) 0 place are.count))
          (are.first (slice_index ends place) some_end within)))
          (λ ne.
          let P : ℕ → Type 0 = λ o. IsLastOf ends other (slice_index ends other) o in
          subst P
          (sym (get_or_append_left sames (slice_index firsts (slice_index ends place) ∷ []) 0 other (omega (arith, are.count))))
          (are.same other (omega arith) some))
          (cases_eq other place);
    }

    pub owned-more : AreOwned ends states (owned_by firsts (slice_index ends place) (place + 1)) (sames ++ slice_index firsts (slice_index ends place) ∷ []) (place + 1)
    owned-more =
        let P : List ℕ → Type 0 = λ fs. AreOwned ends states fs (sames ++ slice_index firsts (slice_index ends place) ∷ []) (place + 1) in
        ⊎_elim
        (λ root. subst P (sym (cond-true (eqb (slice_index ends place) 0) firsts (set firsts (slice_index ends place) (place + 1)) (eq-eqb (slice_index ends place) 0 root))) (root-case root))
        (λ ne. subst P (sym (cond-false (eqb (slice_index ends place) 0) firsts (set firsts (slice_index ends place) (place + 1)) (ne_eqb (slice_index ends place) 0 ne))) (other-case (omega arith)))
        (cases_eq (slice_index ends place) 0)

-- links
pub linking-none : (trie : Trie) (firsts : List ℕ) → IsLinking trie firsts [] [] 0
linking-none trie firsts = record {
  linked = λ patterns ends sames deep is are owned h. record {
    fail_count = refl;
    head_count = refl;
    failing = record { lower = λ state some k. absurd (omega arith); failing = λ state some k. absurd (omega arith) };
    chains = λ state k. absurd (omega arith);
  };
}

pub linking-more : (trie : Trie) (firsts fails heads : List ℕ) (state fail head : ℕ) (fails_now heads_now : List ℕ)
    → IsLinking trie firsts fails heads state
    → FailsTo trie fails state fail
    → head ≡ either (slice_index firsts state) (slice_index heads fail)
    → heads_now ≡ heads ++ head ∷ []
    → fails_now ≡ fails ++ fail ∷ []
    → IsLinking trie firsts fails_now heads_now (state + 1)
linking-more trie firsts fails heads state fail head fails_now heads_now is fails_to known heads_is fails_is = record {
  linked = λ patterns ends sames deep trie_is are owned h.
      let words = words_of trie.steps.items in
      let before = is.linked patterns ends sames deep trie_is are owned (omega arith) in
      let here = fails_to.is words deep trie_is before.failing (omega arith) in
      let P : List ℕ → Type 0 = λ fs. AreLinked words patterns fs heads_now (state + 1) in
      let Q : List ℕ → Type 0 = λ hs. AreLinked words patterns (fails ++ fail ∷ []) hs (state + 1) in
      subst P (sym fails_is)
      (subst Q (sym (heads_is ∙ ap (λ hd. heads ++ hd ∷ []) known))
      (linked-more words patterns ends trie deep trie_is are fails heads state fail (omega arith) before here fails_to.root firsts
      sames owned));
}

-- chains
pub nexts-none : (ends sames fails heads : List ℕ) → AreNexts ends sames fails heads [] 0
nexts-none ends sames fails heads = record { count = refl; next = λ place h. absurd (omega arith) }

pub nexts-more : (ends sames fails heads nexts : List ℕ) (done : ℕ)
    → AreNexts ends sames fails heads nexts done
    → AreNexts ends sames fails heads (nexts ++ next_of ends sames fails heads done ∷ []) (done + 1)
nexts-more ends sames fails heads nexts done are = record {
  count = length_push nexts (next_of ends sames fails heads done) ∙ ap (λ n. n + 1) are.count;
  next = λ place h. ⊎_elim
      (λ e.
      let P : ℕ → Type 0 =
      λ p. slice_index (nexts ++ next_of ends sames fails heads done ∷ []) p ≡ next_of ends sames fails heads p in
      subst P (sym e) (get_or_push nexts (next_of ends sames fails heads done) 0 done are.count))
      (λ ne. get_or_append_left nexts (next_of ends sames fails heads done ∷ []) 0 place (omega (arith, are.count)) ∙
      are.next place (omega arith))
      (cases_eq place done);
}

-- what is written through a lent slice
pub lent-back : (firsts news old : List ℕ) (end owner len : ℕ) → news ≡ owned_by firsts end owner → length firsts ≡ len → take len (news ++ drop (length news) old) ≡ owned_by firsts end owner
lent-back firsts news old end owner len is long = take_at news (drop (length news) old) len (ap length is ∙ owned-length (eqb end 0) ∙ long) ∙ is
  where
    owned-length : (b : Bool) → length (cond b firsts (set firsts end owner)) ≡ length firsts
    owned-length true = refl
    owned-length false = length-set firsts end owner
