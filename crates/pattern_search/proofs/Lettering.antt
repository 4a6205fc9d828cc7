-- Letters, one byte at a time.
use Rattle.std.proofs.Common.{◌≡◌, ℕ, ◌+◌, ◌<◌, ◌≤◌, ◌==◌, Bool, true, false, List, length, take, set, get_or, replicate, sym, ap, ◌∙◌, arith, ⊎_elim}
use Rattle.std.proofs.lemmas.List.{set_past, take_all, get_or-set_same, get_or-set_other, length-set, length-replicate, get_or-replicate, get_or_past}
use Rattle.std.proofs.lemmas.List.Elements.{All-more, All-weaker, All-same}
use Rattle.std.proofs.lemmas.Bool.{false≢true, cases_lt, cases_eq, cases_Bool, cases_order, eqb-true, eq-eqb}
use Rattle.std.proofs.lemmas.Bool.Decides.{nat_tests}
use Rattle.pattern_search.specs.Letters.{lower, IsMarked, AreMarked, AllMarked, KeepsMarks, AreFolded, AreNumbered, IsTold, AreTold, AllTold}
use Rattle.pattern_search.proofs.States.Words.{same_bools}

pub lower-short : (byte : ℕ) → byte < 256 → lower byte < 256
unfolding lower
lower-short byte h = grind (arith, nat_tests)

-- marks
pub keeps-set : (used : List Bool) (at : ℕ) → KeepsMarks used (set used at true)
keeps-set used at = record {
  kept = λ byte marked. ⊎_elim
      (λ same. ⊎_elim
      (λ within. ap (λ b. get_or (set used at true) b false) same ∙ get_or-set_same used at true false within)
      (λ past. ap (λ bs. get_or bs byte false) (set_past used at true past) ∙ marked)
      (cases_lt at (length used)))
      (λ other. get_or-set_other used at byte true false other ∙ marked)
      (cases_eq byte at);
}

pub keeps-trans : (one two three : List Bool) → KeepsMarks one two → KeepsMarks two three → KeepsMarks one three
keeps-trans one two three f g = record { kept = λ byte h. g.kept byte (f.kept byte h) }

pub keeps-refl : (used : List Bool) → KeepsMarks used used
keeps-refl used = record { kept = λ byte h. h }

pub marked-on : (old new : List Bool) (pattern : List ℕ) → KeepsMarks old new → AreMarked old pattern → AreMarked new pattern
marked-on old new pattern keeps are = record { each = All-weaker (IsMarked old) (IsMarked new) (λ byte is. record { short = is.short; marked = keeps.kept (lower byte) is.marked }) pattern are.each }

pub marked-more : (used : List Bool) (pattern : List ℕ) (i : ℕ) (at : ℕ)
    → AreMarked used (take i pattern)
    → i < length pattern
    → get_or pattern i 0 < 256
    → at ≡ lower (get_or pattern i 0)
    → length used ≡ 256
    → AreMarked (set used at true) (take (i + 1) pattern)
marked-more used pattern i at are within short is sized =
    let now = marked-on used (set used at true) (take i pattern) (keeps-set used at) are in
    record {
      each = All-more (IsMarked (set used at true)) pattern i 0 within now.each (record {
        short = short;
        marked = ap (λ b. get_or (set used at true) b false) (sym is) ∙ get_or-set_same used at true false (omega (arith, lower-short (get_or pattern i 0) short));
      });
    }

pub marked-all : (used : List Bool) (pattern : List ℕ) (i : ℕ) → length pattern ≤ i → AreMarked used (take i pattern) → AreMarked used pattern
marked-all used pattern i h are = record { each = All-same (IsMarked used) pattern (take i pattern) (sym (take_all i pattern h)) are.each }

pub marked-none : (used : List Bool) (pattern : List ℕ) → AreMarked used (take 0 pattern)
marked-none used pattern = record { each = λ k d h. absurd (omega arith) }

pub patterns-none : (used : List Bool) (patterns : List (List ℕ)) → AllMarked used (take 0 patterns)
patterns-none used patterns = record { each = λ k d h. absurd (omega arith) }

pub patterns-more : (old new : List Bool) (patterns : List (List ℕ)) (i : ℕ) (d : List ℕ)
    → AllMarked old (take i patterns)
    → KeepsMarks old new
    → i < length patterns
    → AreMarked new (get_or patterns i d)
    → AllMarked new (take (i + 1) patterns)
patterns-more old new patterns i d are keeps within here = record {
  each = All-more (AreMarked new) patterns i d within (All-weaker (AreMarked old) (AreMarked new) (λ pattern. marked-on old new pattern keeps) (take i patterns) are.each) here;
}

pub patterns-all : (used : List Bool) (patterns : List (List ℕ)) (i : ℕ) → length patterns ≤ i → AllMarked used (take i patterns) → AllMarked used patterns
patterns-all used patterns i h are = record { each = All-same (AreMarked used) patterns (take i patterns) (sym (take_all i patterns h)) are.each }

-- numbers
zeros : (n i : ℕ) → ◌≡◌ {A = ℕ} (get_or (replicate n 0) i 0) 0
zeros n i = ⊎_elim (λ h. get_or-replicate {A = ℕ} n i 0 0 h) (λ h. past (replicate n 0) i (omega (arith, length-replicate {A = ℕ} n 0))) (cases_lt i n)
  where
    past : (xs : List ℕ) (i : ℕ) → length xs ≤ i → ◌≡◌ {A = ℕ} (get_or xs i 0) 0
    past xs i h = grind (arith, get_or_past)

pub numbered-none : (used : List Bool) → AreNumbered used (replicate 256 0) 0 0
numbered-none used = record {
  sized = length-replicate {A = ℕ} 256 0;
  rising = λ one other h k p q. absurd (omega arith);
  some = λ byte h p. absurd (omega arith);
  none = λ byte p. zeros 256 byte;
  later = λ byte h. zeros 256 byte;
  most = λ byte. omega (arith, zeros 256 byte);
  few = omega arith;
}

module _ (used : List Bool) (letters : List ℕ) (byte last : ℕ) (are : AreNumbered used letters byte last) (within : byte < 256) where
  split : (P : ℕ → Type 0) (other : ℕ) → (other < byte → P other) → (other ≡ byte → P other) → other < byte + 1 → P other
  split P other f g h = ⊎_elim f (λ k. g (omega arith)) (cases_lt other byte)

  pub numbered-skip : get_or used byte false ≡ false → AreNumbered used letters (byte + 1) last
  numbered-skip unused = record {
    sized = are.sized;
    rising = λ one other h k p q. ⊎_elim
        (λ below. are.rising one other h below p q)
        (λ at. let e : other ≡ byte = omega arith in absurd (false≢true (sym unused ∙ ap (λ b. get_or used b false) (sym e) ∙ q)))
        (cases_lt other byte);
    some = λ other h p. ⊎_elim
        (λ below. are.some other below p)
        (λ at. let e : other ≡ byte = omega arith in absurd (false≢true (sym unused ∙ ap (λ b. get_or used b false) (sym e) ∙ p)))
        (cases_lt other byte);
    none = are.none;
    later = λ other h. are.later other (omega arith);
    most = are.most;
    few = omega (arith, are.few);
  }

  abbrev more : List ℕ
  more = set letters byte (last + 1)

  here : get_or more byte 0 ≡ last + 1
  here = get_or-set_same letters byte (last + 1) 0 (omega (arith, are.sized))

  there : (other : ℕ) → (other ≡ byte → ⊥) → get_or more other 0 ≡ get_or letters other 0
  there other ne = get_or-set_other letters byte other (last + 1) 0 ne

  pub numbered-more : get_or used byte false ≡ true → AreNumbered used (set letters byte (last + 1)) (byte + 1) (last + 1)
  numbered-more is_used = record {
    sized = length-set letters byte (last + 1) ∙ are.sized;
    rising = λ one other h k p q. ⊎_elim
        (λ below. omega (arith, are.rising one other h below p q, there one (λ e. omega arith), there other (λ e. omega arith)))
        (λ at. let e : other ≡ byte = omega arith in omega (arith, ap (λ b. get_or more b 0) e, here, there one (λ f. omega arith), are.most one))
        (cases_lt other byte);
    some = λ other h p. ⊎_elim
        (λ below. omega (arith, are.some other below p, there other (λ e. omega arith)))
        (λ at. let e : other ≡ byte = omega arith in omega (arith, ap (λ b. get_or more b 0) e, here))
        (cases_lt other byte);
    none = λ other p. there other (λ e. false≢true (sym p ∙ ap (λ b. get_or used b false) e ∙ is_used)) ∙ are.none other p;
    later = λ other h. there other (λ e. omega arith) ∙ are.later other (omega arith);
    most = λ other. ⊎_elim
        (λ e. omega (arith, ap (λ b. get_or more b 0) e, here))
        (λ ne. omega (arith, there other ne, are.most other))
        (cases_eq other byte);
    few = omega (arith, are.few);
  }

-- folding
pub folded-none : (lowered : List ℕ) → AreFolded lowered (replicate 256 0) 0
folded-none lowered = record { sized = length-replicate {A = ℕ} 256 0; folded = λ byte h. absurd (omega arith) }

pub folded-more : (lowered letters : List ℕ) (byte at : ℕ) → AreFolded lowered letters byte → byte < 256 → at ≡ lower byte → AreFolded lowered (set letters byte (get_or lowered at 0)) (byte + 1)
folded-more lowered letters byte at are within is = record {
  sized = length-set letters byte (get_or lowered at 0) ∙ are.sized;
  folded = λ other h. ⊎_elim
      (λ e. ap (λ b. get_or (set letters byte (get_or lowered at 0)) b 0) e ∙
      get_or-set_same letters byte (get_or lowered at 0) 0 (omega (arith, are.sized)) ∙
      ap (λ b. get_or lowered b 0) (is ∙ ap lower (sym e)))
      (λ ne. get_or-set_other letters byte other (get_or lowered at 0) 0 ne ∙ are.folded other (omega arith))
      (cases_eq other byte);
}

-- the letters tell the marked bytes apart
module _ (used : List Bool) (lowered letters : List ℕ) (last : ℕ) (numbered : AreNumbered used lowered 256 last) (folded : AreFolded lowered letters 256) where
  lowered-apart : (one other : ℕ) → one < 256 → other < 256 → get_or used one false ≡ true → get_or lowered one 0 ≡ get_or lowered other 0 → one ≡ other
  lowered-apart one other h k marked same = ⊎_elim
      (λ other_used. ⊎_elim
      (λ e. e)
      (λ ne. ⊎_elim
      (λ less. omega (arith, numbered.rising one other less k marked other_used))
      (λ more. omega (arith, numbered.rising other one more h other_used marked))
      ne)
      (cases_order one other))
      (λ unused. omega (arith, numbered.none other unused, numbered.some one h marked))
      (cases_Bool (get_or used other false))

  told : (byte : ℕ) → IsMarked used byte → IsTold letters byte
  told byte is = record {
    short = is.short;
    apart = λ other short.
        let one_is = folded.folded byte is.short in
        let other_is = folded.folded other short in
        same_bools (get_or letters byte 0 == get_or letters other 0) (lower byte == lower other)
        (λ e. eq-eqb (lower byte) (lower other)
        (lowered-apart (lower byte) (lower other) (lower-short byte is.short) (lower-short other short) is.marked
        (sym one_is ∙ eqb-true (get_or letters byte 0) (get_or letters other 0) e ∙ other_is)))
        (λ e. eq-eqb (get_or letters byte 0) (get_or letters other 0)
        (one_is ∙ ap (λ b. get_or lowered b 0) (eqb-true (lower byte) (lower other) e) ∙ sym other_is));
  }

  pub all-told : (patterns : List (List ℕ)) → AllMarked used patterns → AllTold letters patterns
  all-told patterns are = record {
    each = All-weaker (AreMarked used) (AreTold letters) (λ pattern marked. record { each = All-weaker (IsMarked used) (IsTold letters) told pattern marked.each }) patterns are.each;
  }

  pub all-below : (byte : ℕ) → get_or letters byte 0 < last + 1
  all-below byte = ⊎_elim
      (λ h. omega (arith, folded.folded byte h, numbered.most (lower byte)))
      (λ h. omega (arith, get_or_past letters byte 0 (omega (arith, folded.sized))))
      (cases_lt byte 256)
