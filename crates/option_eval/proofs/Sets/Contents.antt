-- Where a content occurs, as its reach from its origin; and where it leads from a set of places.
use Rattle.std.proofs.Common.{◌≡◌, ℕ, ◌+◌, ◌<◌, ◌≤◌, ⊎_elim, min, ℤ, pos, ◌+ℤ◌, ◌≤ℤ◌, Bool, true, false, not, ◌&&◌, ◌||◌, cond}
use Rattle.std.proofs.Common.{List, [], ◌∷◌, length, Option, Some, None, is_some, IfSome, IsTrue, MatchBool, Contains, refl, sym}
use Rattle.std.proofs.Common.{ap, subst, ◌∙◌, arith, option_map, unwrap_or}
use Rattle.std.proofs.lemmas.Bool.{false≢true}
use Rattle.std.proofs.lemmas.Int.{ints}
use Rattle.memchr.specs.Find.{IsFirst}
use Rattle.rule_types.specs.declared.option.Content.{Content}
use Rattle.rule_types.specs.declared.option.Opt.TheVariants as opt
use Rattle.option_eval.specs.Numbers.{Point, number_if}
use Rattle.option_eval.specs.Places.{Means, Sought, IsFoundAt, Leads, is_only, sought, at_place}
use Rattle.option_eval.specs.Sets.{Gathers, IsWithin, Occurs, IsHitFrom, IsLedTo, LeadsFrom, point, reach_from, reach_room, folds_case, content_origin}
use Rattle.option_eval.specs.declared.reach.Reach.{Reach}
use Rattle.option_eval.proofs.Sets.Rising.{contains_cases, contains_first, got_of_contains}
use Rattle.option_eval.specs.Absent.{IsReached}
use Rattle.option_eval.proofs.Sets.Sweeping.{occurs_fits}

-- how a content is sought, from its parts
abbrev sought_of : Bool → Bool → ℕ → ℤ → Option ℤ → Sought
sought_of only nocase origin from room =
    cond only (record { nocase = true; from = pos 0; until = None })
    (record { nocase = nocase; from = pos origin +ℤ from; until = option_map (λ (room : ℤ). (pos origin +ℤ from) +ℤ room) room })

module _ (nocase relative : Bool) (place : ℕ) (from : ℤ) (reach : Reach) (payload bytes : List ℕ) (i : ℕ) where
  within_of : (only : Bool) (room : Option ℤ) → reach.from ≡ cond only (pos 0) from → reach.room ≡ cond only None room
      → IsFoundAt bytes payload (sought_of only nocase (cond relative place 0) from room) i
      → IsWithin reach (length bytes) (cond (not only && relative) place 0) i × Occurs (only || nocase) payload bytes i
  within_of true room from_is room_is h = (record { low = rw from_is (omega (arith, ints)); high = rw room_is tt }, h.occurs)
  within_of false None from_is room_is h = (record { low = rw from_is h.from; high = rw room_is tt }, h.occurs)
  within_of false (Some room) from_is room_is h = (record { low = rw from_is h.from; high = rw (room_is, from_is) h.until }, h.occurs)

  is_found_of : (only : Bool) (room : Option ℤ) → reach.from ≡ cond only (pos 0) from → reach.room ≡ cond only None room
      → IsWithin reach (length bytes) (cond (not only && relative) place 0) i → Occurs (only || nocase) payload bytes i
      → IsFoundAt bytes payload (sought_of only nocase (cond relative place 0) from room) i
  is_found_of true room from_is room_is h here = record { from = omega (arith, ints); until = tt; occurs = here }
  is_found_of false None from_is room_is h here = record { from = rw from_is at h.low; until = tt; occurs = here }
  is_found_of false (Some room) from_is room_is h here = record { from = rw from_is at h.low; until = rw (room_is, from_is) at h.high; occurs = here }

module _ (content : Content) (values : List ℕ) (place : ℕ) (payload : List ℕ) (reach : Reach)
    (from_is : reach.from ≡ reach_from content values)
    (room_is : reach.room ≡ reach_room content values)
    (i : ℕ) where
  pub is_found_within : IsFoundAt content.bytes payload (sought content (point values place)) i
      → IsWithin reach (length content.bytes) (content_origin content place) i ×
      Occurs (folds_case content) payload content.bytes i
  is_found_within h =
      within_of content.nocase content.relative place (unwrap_or (number_if values content.from) (pos 0)) reach payload
      content.bytes i (is_only content.fast) (number_if values content.room) from_is room_is h

  pub within_is_found : IsWithin reach (length content.bytes) (content_origin content place) i
      → Occurs (folds_case content) payload content.bytes i
      → IsFoundAt content.bytes payload (sought content (point values place)) i
  within_is_found h here =
      is_found_of content.nocase content.relative place (unwrap_or (number_if values content.from) (pos 0)) reach payload
      content.bytes i (is_only content.fast) (number_if values content.room) from_is room_is h here

-- what a search of the window answers
pub window_answer : (nocase : Bool) (payload bytes : List ℕ) (reach : Reach) (place bound least most low : ℕ) (r : Option ℕ)
    (answer : Bool)
    → answer ≡ is_some r
    → IsFirst (Occurs nocase payload bytes) low most r
    → ((i : ℕ) → i + length bytes ≤ length payload → i < bound)
    → ((i : ℕ) → i < bound → ((pos place +ℤ reach.from) ≤ℤ pos i → least ≤ i) × (least ≤ i → (pos place +ℤ reach.from) ≤ℤ pos i))
    → ((i : ℕ) → i < bound →
    (IfSome reach.room (λ room. pos (i + length bytes) ≤ℤ ((pos place +ℤ reach.from) +ℤ room)) → i < most) ×
    (i < most → IfSome reach.room (λ room. pos (i + length bytes) ≤ℤ ((pos place +ℤ reach.from) +ℤ room))))
    → low ≡ min least most
    → (IsTrue answer → (i : ℕ) × IsWithin reach (length bytes) place i × Occurs nocase payload bytes i) ×
    (((i : ℕ) × IsWithin reach (length bytes) place i × Occurs nocase payload bytes i) → IsTrue answer)
window_answer nocase payload bytes reach place bound least most low None answer is found fits least_is most_is low_is = (
  λ yes. absurd (false≢true (sym is ∙ yes)),
  λ h.
      let below = fits h.0 (occurs_fits nocase payload bytes h.0 h.2) in
      let over = (least_is h.0 below).0 h.1.low in
      let under = (most_is h.0 below).0 h.1.high in
      absurd (found h.0 (omega arith) under h.2),
)
window_answer nocase payload bytes reach place bound least most low (Some k) answer is found fits least_is most_is low_is = (
  λ yes.
      let first = found.0 in
      let from = first.low in
      let under = first.high in
      let below = fits k (occurs_fits nocase payload bytes k found.1) in
      let reached : IsWithin reach (length bytes) place k = record {
        low = (least_is k below).1 (omega arith);
        high = (most_is k below).1 under;
      } in
      (k, reached, found.1),
  λ h. is,
)

-- a fact at the value of a test
match_false : (b : Bool) (P Q : Type 0) → b ≡ false → MatchBool b P Q → Q
match_false true P Q is h = absurd (false≢true (sym is))
match_false false P Q is h = h

false_match : (b : Bool) (P Q : Type 0) → b ≡ false → Q → MatchBool b P Q
false_match true P Q is h = absurd (false≢true (sym is))
false_match false P Q is h = h

cond_false : {A : Type 0} (b : Bool) (x y : A) → b ≡ false → cond b x y ≡ y
cond_false true x y is = absurd (false≢true (sym is))
cond_false false x y is = refl

module _ (means : Means) (payload values : List ℕ) (content : Content) (plain : (content.negated ≡ false) × (is_only content.fast ≡ false)) (p q : ℕ) where
  -- a content that isn't negated leads to the end of where it occurs
  pub content_leads : LeadsFrom means payload values (opt.Content content) p q → (i : ℕ) × IsFoundAt content.bytes payload (sought content (point values p)) i × (q ≡ i + length content.bytes)
  unfolding Leads
  content_leads h =
      let led = match_false content.negated _ _ plain.0 h in
      (led.0, led.1, ap (λ (s : Point). s.place) (led.2 ∙ cond_false (is_only content.fast) (point values p) (at_place (point values p) (led.0 + length content.bytes)) plain.1))

  pub leads_content : (i : ℕ) → IsFoundAt content.bytes payload (sought content (point values p)) i → q ≡ i + length content.bytes → LeadsFrom means payload values (opt.Content content) p q
  unfolding Leads
  leads_content i here is =
      false_match content.negated _ _ plain.0 (i, here, ap (point values) is ∙ sym (cond_false (is_only content.fast) (point values p) (at_place (point values p) (i + length content.bytes)) plain.1))

-- what a content is asked from
asked_has : (relative : Bool) (places asked : List ℕ) (p : ℕ) → MatchBool relative (asked ≡ places) (asked ≡ 0 ∷ []) → Contains places p → Contains asked (cond relative p 0)
asked_has true places asked p is has = subst (λ (xs : List ℕ). Contains xs p) (sym is) has
asked_has false places asked p is has = subst (λ (xs : List ℕ). Contains xs 0) (sym is) (contains_first 0 [])

some_place : (places : List ℕ) → 0 < length places → (p : ℕ) × Contains places p
some_place [] some = absurd (omega arith)
some_place (p ∷ places) some = (p, contains_first p places)

asked_place : (relative : Bool) (places asked : List ℕ) (p : ℕ)
    → 0 < length places
    → MatchBool relative (asked ≡ places) (asked ≡ 0 ∷ [])
    → Contains asked p
    → (from : ℕ) × Contains places from × (cond relative from 0 ≡ p)
asked_place true places asked p some is has = (p, subst (λ (xs : List ℕ). Contains xs p) is has, refl)
asked_place false places asked p some is has =
    let from = some_place places some in
    (from.0, from.1, ⊎_elim (λ (zero_is : p ≡ 0). sym zero_is) (λ (after : Contains [] p). absurd (omega (arith, after.1))) (contains_cases 0 [] p (subst (λ (xs : List ℕ). Contains xs p) is has)))

origin_is : (only relative : Bool) (p : ℕ) → only ≡ false → cond (not only && relative) p 0 ≡ cond relative p 0
origin_is true relative p is = absurd (false≢true (sym is))
origin_is false relative p is = refl

module _ (every : Bool) (means : Means) (payload values : List ℕ) (content : Content) (plain : (content.negated ≡ false) × (is_only content.fast ≡ false)) (places : List ℕ) where
  -- a content leads nowhere where the payload has too few bytes
  pub content_none : length payload < length content.bytes → Gathers every (IsLedTo (LeadsFrom means payload values (opt.Content content)) places) []
  content_none short = record {
    sound = λ q has. absurd (omega (arith, has.1));
    complete = λ q led.
        let here = content_leads means payload values content plain led.0 q led.2 in
        absurd (omega (arith, occurs_fits (sought content (point values led.0)).nocase payload content.bytes here.0 here.1.occurs));
  }

  -- the sweep finds where the content leads
  pub content_gathers : (reach : Reach) → reach.from ≡ reach_from content values → reach.room ≡ reach_room content values
      → (nocase : Bool) (bytes asked next : List ℕ) → bytes ≡ content.bytes → nocase ≡ folds_case content → 0 < length places → MatchBool content.relative (asked ≡ places) (asked ≡ 0 ∷ [])
      → Gathers every (IsHitFrom nocase payload bytes reach asked) next
      → Gathers every (IsLedTo (LeadsFrom means payload values (opt.Content content)) places) next
  content_gathers reach from_is room_is nocase bytes asked next bytes_is nocase_is some asks found =
      let Hit : Bool → List ℕ → Type 0 = λ nocase bytes. Gathers every (IsHitFrom nocase payload bytes reach asked) next in
      let f = subst (λ (b : Bool). Hit b content.bytes) nocase_is (subst (λ (bs : List ℕ). Hit nocase bs) bytes_is found) in
      record {
        sound = λ q has.
            let hit = f.sound q has in
            let from = asked_place content.relative places asked hit.0 some asks hit.2 in
            let at = origin_is (is_only content.fast) content.relative from.0 plain.1 ∙ from.2 in
            let reached = subst (λ (x : ℕ). IsWithin reach (length content.bytes) x hit.1) (sym at) hit.3 in
            let here = within_is_found content values from.0 payload reach from_is room_is hit.1 reached hit.4 in
            (from.0, from.1, leads_content means payload values content plain from.0 q hit.1 here hit.5);
        complete = λ q led.
            let here = content_leads means payload values content plain led.0 q led.2 in
            let reached = is_found_within content values led.0 payload reach from_is room_is here.0 here.1 in
            let at = origin_is (is_only content.fast) content.relative led.0 plain.1 in
            f.complete q (
              cond content.relative led.0 0,
              here.0,
              asked_has content.relative places asked led.0 asks led.1,
              subst (λ (x : ℕ). IsWithin reach (length content.bytes) x here.0) at reached.0,
              reached.1,
              here.2,
            );
      }

-- a negated content that counts from a place holds there just where its bytes aren't within reach
true_match : (b : Bool) (P Q : Type 0) → b ≡ true → P → MatchBool b P Q
true_match true P Q is h = h
true_match false P Q is h = absurd (false≢true is)

match_true : (b : Bool) (P Q : Type 0) → b ≡ true → MatchBool b P Q → P
match_true true P Q is h = h
match_true false P Q is h = absurd (false≢true is)

cond_true : {A : Type 0} (b : Bool) (x y : A) → b ≡ true → cond b x y ≡ x
cond_true true x y is = refl
cond_true false x y is = absurd (false≢true is)

module _ (means : Means) (payload values : List ℕ) (content : Content) (negated : content.negated ≡ true) (relative : (not (is_only content.fast) && content.relative) ≡ true)
    (reach : Reach) (from_is : reach.from ≡ reach_from content values) (room_is : reach.room ≡ reach_room content values) (p : ℕ) where
  origin_here : content_origin content p ≡ p
  origin_here = cond_true (not (is_only content.fast) && content.relative) p 0 relative

  pub absent_leads : ¬ IsReached (folds_case content) payload content.bytes reach p → LeadsFrom means payload values (opt.Content content) p p
  unfolding Leads
  absent_leads none = true_match content.negated _ _ negated (
    (λ i here.
        let at = is_found_within content values p payload reach from_is room_is i here in
        none (i, subst (λ (x : ℕ). IsWithin reach (length content.bytes) x i) origin_here at.0, at.1)),
    refl,
  )

  pub leads_absent : LeadsFrom means payload values (opt.Content content) p p → ¬ IsReached (folds_case content) payload content.bytes reach p
  unfolding Leads
  leads_absent led = λ reached.
      (match_true content.negated _ _ negated led).0 reached.0
      (within_is_found content values p payload reach from_is room_is reached.0
      (subst (λ (x : ℕ). IsWithin reach (length content.bytes) x reached.0) (sym origin_here) reached.1)
      reached.2)

-- a negated content, where the places within whose reach it occurs nowhere were gathered
module _ (every : Bool) (means : Means) (payload values : List ℕ) (content : Content) (negated : content.negated ≡ true) (relative : (not (is_only content.fast) && content.relative) ≡ true)
    (reach : Reach) (from_is : reach.from ≡ reach_from content values) (room_is : reach.room ≡ reach_room content values) (places next : List ℕ) where
  pub absent_gathers : ((p q : ℕ) → LeadsFrom means payload values (opt.Content content) p q → q ≡ p) → (nocase : Bool) (bytes : List ℕ) → nocase ≡ folds_case content → bytes ≡ content.bytes
      → ((q : ℕ) → (Contains next q → Contains places q × ¬ IsReached nocase payload bytes reach q) × (Contains places q × ¬ IsReached nocase payload bytes reach q → Contains next q))
      → Gathers every (IsLedTo (LeadsFrom means payload values (opt.Content content)) places) next
  absent_gathers stays nocase bytes nocase_is bytes_is found =
      let Found : Bool → List ℕ → Type 0 = λ nocase bytes.
      (q : ℕ)
      → (Contains next q → Contains places q × ¬ IsReached nocase payload bytes reach q) ×
      (Contains places q × ¬ IsReached nocase payload bytes reach q → Contains next q) in
      let f = subst (λ (b : Bool). Found b content.bytes) nocase_is (subst (λ (bs : List ℕ). Found nocase bs) bytes_is found) in
      record {
        sound = λ q has.
            let both = (f q).0 has in
            (q, both.0, absent_leads means payload values content negated relative reach from_is room_is q both.1);
        complete = λ q led.
            let same = stays led.0 q led.2 in
            let here = subst (λ (p : ℕ). LeadsFrom means payload values (opt.Content content) p q) (sym same) led.2 in
            let in_places = subst (λ (p : ℕ). Contains places p) (sym same) led.1 in
            got_of_contains every next q
            ((f q).1 (in_places, leads_absent means payload values content negated relative reach from_is room_is q here));
      }

-- a relative content that is a test is negated
pub negated_of : (negated only relative : Bool) → (negated || only) ≡ true → (not only && relative) ≡ true → negated ≡ true
negated_of true only relative test counts = refl
negated_of false true relative test counts = absurd (false≢true counts)
negated_of false false relative test counts = absurd (false≢true test)
