-- Where bytes occur in a part of a payload, and in the payload; with case folded, and as they are.
use Rattle.std.proofs.Common.{◌≡◌, ℕ, ◌+◌, ◌-◌, ◌<◌, ◌≤◌, true, false, List, length, take, drop, get_or, Option, Some, None}
use Rattle.std.proofs.Common.{option_map, sym, ap, subst, ◌∙◌, arith, length-drop, get_or-take, get_or-drop, ⊎_elim}
use Rattle.std.specs.Char.{to_ascii_lowercase, to_ascii_uppercase}
use Rattle.std.specs.Str.{str_to_ascii_lowercase}
use Rattle.std.proofs.lemmas.List.{length-map, get_or-map, take-map, drop-map, length-take-le}
use Rattle.std.proofs.lemmas.Bool.Decides.{nat_tests}
use Rattle.std.proofs.lemmas.Bool.{cases_lt}
use Rattle.memchr.specs.Find.{IsFirst, Nowhere, NoneBefore, OccursAt, Passes, is_byte2}
use Rattle.memchr.proofs.lemmas.MatchLemmas.{OccursAt-part, OccursAt-from_part}
use Rattle.option_eval.specs.Sets.{Occurs}

-- a byte of a part
pub byte_of_part : (hay : List ℕ) (low stop k : ℕ) → low + k < stop → get_or (take (stop - low) (drop low hay)) k 0 ≡ get_or hay (low + k) 0
byte_of_part hay low stop k within = get_or-take (stop - low) (drop low hay) k 0 (omega arith) ∙ get_or-drop low hay k 0

length-part : (hay : List ℕ) (low stop : ℕ) → stop ≤ length hay → length (take (stop - low) (drop low hay)) ≡ stop - low
length-part hay low stop within = length-take-le (stop - low) (drop low hay) (omega (arith, length-drop low hay))

-- the first place of a part, as a place of the whole
pub first_of_part : (P Q : ℕ → Type 0) (low end count : ℕ) → ((k : ℕ) → P k → Q (low + k)) → ((k : ℕ) → P k → low + k < end) → ((i : ℕ) → low ≤ i → i < end → Q i → P (i - low)) → end ≤ low + count
    → (r : Option ℕ) → IsFirst P 0 count r → IsFirst Q low end (option_map (λ k. low + k) r)
first_of_part P Q low end count up within down size None h =
    λ i from below here. h (i - low) (omega arith) (omega arith) (down i from below here)
first_of_part P Q low end count up within down size (Some k) h =
    let first = h.0 in
    let below = within k h.1 in
    let bare : NoneBefore Q low end (low + k) = record {
      low = omega arith;
      high = below;
      before = λ i from under here. first.before (i - low) (omega arith) (omega arith) (down i from (omega arith) here);
    } in
    (bare, up k h.1)

module _ (hay needle : List ℕ) (low stop : ℕ) (within : stop ≤ length hay) where
  abbrev part : List ℕ
  part = take (stop - low) (drop low hay)

  occurs_up : low ≤ stop → (k : ℕ) → OccursAt part needle k → OccursAt hay needle (low + k)
  occurs_up order k h =
      let size = length-part hay low stop within in
      let fits = h.fits in
      record {
        fits = omega arith;
        reads = λ j below. ap (λ (n : ℕ). get_or hay n 0) (omega arith) ∙ sym (byte_of_part hay low stop (k + j) (omega arith)) ∙ h.reads j below;
      }

  occurs_within : (k : ℕ) → OccursAt part needle k → k + length needle ≤ stop - low
  occurs_within k h =
      let size = length-part hay low stop within in
      let fits = h.fits in
      omega arith

  occurs_down : (i : ℕ) → low ≤ i → i + length needle ≤ stop → OccursAt hay needle i → OccursAt part needle (i - low)
  occurs_down i from below h =
      let size = length-part hay low stop within in
      record {
        fits = omega arith;
        reads = λ j under. byte_of_part hay low stop (i - low + j) (omega arith) ∙ ap (λ (n : ℕ). get_or hay n 0) (omega arith) ∙ h.reads j under;
      }

  -- a search of a part is one of the payload
  pub first_exact : 1 ≤ length needle → low + length needle ≤ stop + 1 → (r : Option ℕ) → IsFirst (OccursAt part needle) 0 (length part + 1) r
      → IsFirst (OccursAt hay needle) low (stop + 1 - length needle) (option_map (λ k. low + k) r)
  first_exact some order r h =
      let size = length-part hay low stop within in
      first_of_part (OccursAt part needle) (OccursAt hay needle) low (stop + 1 - length needle) (length part + 1)
      (occurs_up (omega arith))
      (λ k here. omega (arith, occurs_within k here))
      (λ i from below here. occurs_down i from (omega arith) here)
      (omega arith) r h

-- a search of a part for two bytes
pub first_byte : (lower upper : ℕ) (hay : List ℕ) (low end : ℕ)
    → low ≤ end
    → end ≤ length hay
    → (r : Option ℕ)
    → IsFirst (Passes (is_byte2 lower upper) (take (end - low) (drop low hay))) 0 (length (take (end - low) (drop low hay))) r
    → IsFirst (Passes (is_byte2 lower upper) hay) low end (option_map (λ k. low + k) r)
first_byte lower upper hay low end order within None h =
    let size = length-part hay low end within in
    λ i from below here. h (i - low) (omega arith) (omega arith) (ap (is_byte2 lower upper) (byte_of_part hay low end (i - low) (omega arith) ∙ ap (λ (n : ℕ). get_or hay n 0) (omega arith)) ∙ here)
first_byte lower upper hay low end order within (Some k) h =
    let size = length-part hay low end within in
    let first = h.0 in
    let high = first.high in
    let bare : NoneBefore (Passes (is_byte2 lower upper) hay) low end (low + k) = record {
      low = omega arith;
      high = omega arith;
      before = λ i from under here.
          first.before (i - low) (omega arith) (omega arith)
          (ap (is_byte2 lower upper)
          (byte_of_part hay low end (i - low) (omega arith) ∙ ap (λ (n : ℕ). get_or hay n 0) (omega arith)) ∙
          here);
    } in
    (bare, ap (is_byte2 lower upper) (sym (byte_of_part hay low end k (omega arith))) ∙ h.1)

-- bytes are at a place with case folded where the part there is the same with case folded
module _ (payload bytes : List ℕ) (at : ℕ) (fits : at + length bytes ≤ length payload) where
  same_part : take (length (str_to_ascii_lowercase bytes)) (drop at (str_to_ascii_lowercase payload)) ≡ str_to_ascii_lowercase (take (at + length bytes - at) (drop at payload))
  same_part =
      let count : length (str_to_ascii_lowercase bytes) ≡ at + length bytes - at = length-map bytes to_ascii_lowercase ∙ omega arith in
      ap (λ (n : ℕ). take n (drop at (str_to_ascii_lowercase payload))) count
      ∙ ap (take (at + length bytes - at)) (drop-map to_ascii_lowercase at payload)
      ∙ take-map to_ascii_lowercase (at + length bytes - at) (drop at payload)

  pub folded_is_found : str_to_ascii_lowercase bytes ≡ str_to_ascii_lowercase (take (at + length bytes - at) (drop at payload)) → Occurs true payload bytes at
  folded_is_found same =
      OccursAt-from_part (str_to_ascii_lowercase payload) (str_to_ascii_lowercase bytes) at
      (omega (arith, length-map bytes to_ascii_lowercase, length-map payload to_ascii_lowercase))
      (same_part ∙ sym same)

  pub is_found_folded : Occurs true payload bytes at → str_to_ascii_lowercase bytes ≡ str_to_ascii_lowercase (take (at + length bytes - at) (drop at payload))
  is_found_folded here =
      sym (OccursAt-part (str_to_ascii_lowercase payload) (str_to_ascii_lowercase bytes) at here) ∙ same_part

-- a letter's two cases fold to the same, and no other byte does
folded_byte : (x b : ℕ) → to_ascii_lowercase x ≡ to_ascii_lowercase b → is_byte2 (to_ascii_lowercase b) (to_ascii_uppercase (to_ascii_lowercase b)) x ≡ true
folded_byte x b same = grind (arith, nat_tests)

-- where bytes occur with case folded, their first letter is there in either case
pub folded_first : (payload bytes : List ℕ) (i : ℕ) → 1 ≤ length bytes → Occurs true payload bytes i
    → Passes (is_byte2 (to_ascii_lowercase (get_or bytes 0 0)) (to_ascii_uppercase (to_ascii_lowercase (get_or bytes 0 0)))) payload i
folded_first payload bytes i some here =
    let fits = here.fits in
    let sizes : (i < length payload) × (0 < length (str_to_ascii_lowercase bytes)) = (
      omega (arith, length-map bytes to_ascii_lowercase, length-map payload to_ascii_lowercase),
      omega (arith, length-map bytes to_ascii_lowercase),
    ) in
    let read : get_or (str_to_ascii_lowercase payload) i 0 ≡ get_or (str_to_ascii_lowercase bytes) 0 0 =
    ap (λ (n : ℕ). get_or (str_to_ascii_lowercase payload) n 0) (omega arith) ∙ here.reads 0 sizes.1 in
    folded_byte (get_or payload i 0) (get_or bytes 0 0)
    (sym (get_or-map to_ascii_lowercase payload i 0 0 sizes.0) ∙ read ∙ get_or-map to_ascii_lowercase bytes 0 0 0 (omega arith))

-- where no such letter is, the bytes occur nowhere with case folded
pub nowhere_folded : (payload bytes : List ℕ) (lower upper : ℕ) → lower ≡ to_ascii_lowercase (get_or bytes 0 0) → upper ≡ to_ascii_uppercase lower → 1 ≤ length bytes
    → (low high : ℕ) → Nowhere (Passes (is_byte2 lower upper) payload) low high → Nowhere (Occurs true payload bytes) low high
nowhere_folded payload bytes lower upper is-lower is-upper some low high h =
    λ i from below here. h i from below (rw (is-upper, is-lower) (folded_first payload bytes i some here))

-- at no place of one stretch, nor of the next
pub nowhere_joined : (P : ℕ → Type 0) (low mid high : ℕ) → Nowhere P low mid → Nowhere P mid high → Nowhere P low high
nowhere_joined P low mid high before after =
    λ i from below here. ⊎_elim (λ (under : i < mid). before i from under here) (λ (over : mid ≤ i). after i over below here) (cases_lt i mid)

-- the finder's bytes are the content's
pub found_exact : (payload bytes finder : List ℕ) (low end stop : ℕ) (r : Option ℕ) → finder ≡ bytes → stop + 1 ≡ end + length bytes
    → IsFirst (OccursAt payload finder) low (stop + 1 - length finder) r → IsFirst (Occurs false payload bytes) low end r
found_exact payload bytes finder low end stop r same size h =
    let ends : stop + 1 - length bytes ≡ end = omega arith in
    subst (λ (n : ℕ). IsFirst (OccursAt payload bytes) low n r) ends (subst (λ (f : List ℕ). IsFirst (OccursAt payload f) low (stop + 1 - length f) r) same h)
