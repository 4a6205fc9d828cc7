-- There is one list of the rules that match an item, whichever test tells which rules match.
use Rattle.std.proofs.Common.{◌≡◌, ℕ, ◌+◌, Bool, true, false, cond, List, [], ◌∷◌, Option, refl, sym, ap, subst, ◌∙◌, inl, inr, ◌↔◌}
use Rattle.std.proofs.lemmas.Bool.{false≢true}
use Rattle.rule_types.specs.declared.rule.Rule.{Rule}
use Rattle.option_eval.specs.Places.{Means}
use Rattle.rule_eval.specs.Hits.{AreHits, AreMatches, Bits, Item, Tells, Test, Trying, bits_after, bits_seen, matching, places_from}

-- there is at most one list of all rules that match
pub AreMatches-unique : (means : Means) (item : Item) (place : ℕ) (rules : List Rule) (bits : Option Bits) (xs ys : List ℕ)
    → AreMatches means item place rules bits xs → AreMatches means item place rules bits ys → xs ≡ ys
AreMatches-unique means item place [] bits xs ys of_xs of_ys = of_xs ∙ sym of_ys
AreMatches-unique means item place (rule ∷ rules) bits xs ys (inl p) (inl q) =
    p.1.1 ∙ ap (λ later. place ∷ later) (AreMatches-unique means item (place + 1) rules (bits_after bits rule) p.1.0 q.1.0 p.1.2 q.1.2) ∙ sym q.1.1
AreMatches-unique means item place (rule ∷ rules) bits xs ys (inl p) (inr q) = absurd (q.0 p.0)
AreMatches-unique means item place (rule ∷ rules) bits xs ys (inr p) (inl q) = absurd (p.0 q.0)
AreMatches-unique means item place (rule ∷ rules) bits xs ys (inr p) (inr q) = AreMatches-unique means item (place + 1) rules bits xs ys p.1 q.1

-- a test that tells which rules match finds that list
pub places_from-are : (means : Means) (test : Test) → Tells means test → (item : Item) (place : ℕ) (rules : List Rule) (bits : Option Bits)
    → AreMatches means item place rules bits (places_from test item place rules bits)
unfolding places_from
places_from-are means test tells item place [] bits = refl
places_from-are means test tells item place (rule ∷ rules) bits =
    by_case (test rule item (bits_seen bits)) refl (places_from-are means test tells item (place + 1) rules (bits_after bits rule)) (places_from-are means test tells item (place + 1) rules bits)
  where
    by_case : (b : Bool) → test rule item (bits_seen bits) ≡ b
        → AreMatches means item (place + 1) rules (bits_after bits rule) (places_from test item (place + 1) rules (bits_after bits rule))
        → AreMatches means item (place + 1) rules bits (places_from test item (place + 1) rules bits)
        → AreMatches means item place (rule ∷ rules) bits (cond b (place ∷ places_from test item (place + 1) rules (bits_after bits rule)) (places_from test item (place + 1) rules bits))
    by_case true is matched missed = inl ((tells rule item (bits_seen bits)).0 is, (places_from test item (place + 1) rules (bits_after bits rule), refl, matched))
    by_case false is matched missed = inr ((λ matches. false≢true (sym is ∙ (tells rule item (bits_seen bits)).1 matches)), missed)

-- the list that is told with an item is that of all rules that match it, and no other is
pub matching-hits : (means : Means) (trying : Trying) → Tells means trying.matches → (item : Item) (bits : Option Bits) (places : List ℕ)
    → (AreHits means trying.rules item bits places ↔ (places ≡ matching trying item bits))
unfolding matching
matching-hits means trying tells item bits places =
    let told = places_from trying.matches item 0 trying.rules bits in
    let told_are : AreHits means trying.rules item bits told = places_from-are means trying.matches tells item 0 trying.rules bits in (
      λ are. AreMatches-unique means item 0 trying.rules bits places told are told_are,
      λ is. subst (λ (xs : List ℕ). AreHits means trying.rules item bits xs) (sym is) told_are,
    )
