-- Values of options lie in their ranges.
use Rattle.std.proofs.Common.{◌≡◌, ℕ, ◌<◌, ◌&&◌, Bool, true, false, cond, ℤ, pos, ◌≤ℤ◌, Option, Some, None, List, length, int_le, position, bytes_eq, refl, arith, IfSome, []}
use Rattle.std.proofs.lemmas.Int.{ints}
use Rattle.std.proofs.lemmas.List.Quantifiers.{position-Some}
use Rattle.edge_io.specs.OnOption.{◌>>=◌}
use Rattle.net_lists.specs.Numbers.{number_in, signed_number, signed_kept_in, signed_in}
use Rattle.net_lists.proofs.Steps.{Holds, given, refused, tested, number_in-within}
use Rattle.conf_types.specs.Sound.{IsWithin}
use Rattle.rule_types.specs.declared.option.Num.{Num}
use Rattle.rule_types.specs.declared.option.Num.TheVariants.{Value, Name}
use Rattle.net_lists.specs.Variables.{is_name}
use Rattle.rule_parser.specs.Names.{place_among, name_at, named, or_named, as_signed, signed_or_named, number_or_named}
use Rattle.rule_types.specs.Sound.{IsNum}
use Rattle.rule_parser.proofs.Sound.Drafts.{AreNamed}

-- a number from `least` to `most`
abbrev pub IsSignedIn : ℤ → ℤ → ℤ → Type 0
IsSignedIn least most number = (least ≤ℤ number) × (number ≤ℤ most)

pub signed_in-within : (least most : ℤ) (text : List ℕ) → IfSome (signed_in least most text) (IsSignedIn least most)
unfolding signed_in
signed_in-within least most text = read (signed_number text)
  where
    kept : (number : ℤ) (b : Bool) → (int_le least number && int_le number most) ≡ b → IfSome (cond b (Some number) None) (IsSignedIn least most)
    kept number true e = (grind (arith, ints), grind (arith, ints))
    kept number false e = tt

    read : (o : Option ℤ) → IfSome (o >>= signed_kept_in least most) (IsSignedIn least most)
    read None = tt
    read (Some number) = kept number (int_le least number && int_le number most) refl

-- a number from `least` to `most`, or one of the first `count` names
abbrev pub IsNumBelow : ℕ → ℤ → ℤ → Num → Type 0
IsNumBelow count least most (Value number) = IsSignedIn least most number
IsNumBelow count least most (Name place) = place < count

-- the first `count` names are extracted
pub num-named : (names : List ℕ) (count : ℕ) (least most : ℤ) (number : Num) → AreNamed names count → IsNumBelow count least most number → IsNum names least most number
num-named names count least most (Value number) named h = h
num-named names count least most (Name place) named h = named place h

pub place_among-below : (text : List ℕ) (known : List (List ℕ)) → IfSome (place_among text known) (λ place. place < length known)
unfolding place_among
place_among-below text known = go (position (λ one. bytes_eq one text) known) refl
  where
    go : (o : Option ℕ) → position (λ one. bytes_eq one text) known ≡ o → IfSome o (λ place. place < length known)
    go None e = tt
    go (Some place) e = (position-Some (λ one. bytes_eq one text) known place [] e).0

pub named-below : (least most : ℤ) (known : List (List ℕ)) (left : ℕ) (text : List ℕ) → Holds (IsNumBelow (length known) least most) (named known left text)
unfolding named
named-below least most known left text = tested (is_name text) (λ _. go (place_among text known) (place_among-below text known)) (λ _. refused)
  where
    go : (o : Option ℕ) → IfSome o (λ place. place < length known) → Holds (IsNumBelow (length known) least most) (name_at left text o)
    go None h = refused
    go (Some place) h = given h

or_named-below : (least most : ℤ) (known : List (List ℕ)) (left : ℕ) (text : List ℕ) (o : Option ℤ)
    → IfSome o (IsSignedIn least most)
    → Holds (IsNumBelow (length known) least most) (or_named known left text o)
or_named-below least most known left text None h = named-below least most known left text
or_named-below least most known left text (Some number) h = given h

pub signed_or_named-below : (least most : ℤ) (known : List (List ℕ)) (left : ℕ) (text : List ℕ) → Holds (IsNumBelow (length known) least most) (signed_or_named least most known left text)
unfolding signed_or_named
signed_or_named-below least most known left text = or_named-below least most known left text (signed_in least most text) (signed_in-within least most text)

pub number_or_named-below : (least most : ℕ) (known : List (List ℕ)) (left : ℕ) (text : List ℕ) → Holds (IsNumBelow (length known) (pos least) (pos most)) (number_or_named least most known left text)
unfolding number_or_named
number_or_named-below least most known left text =
    or_named-below (pos least) (pos most) known left text (as_signed (number_in least most text))
    (go (number_in least most text) (number_in-within least most text))
  where
    go : (o : Option ℕ) → IfSome o (IsWithin least most) → IfSome (as_signed o) (IsSignedIn (pos least) (pos most))
    go None h = tt
    go (Some number) h = (omega (arith, ints), omega (arith, ints))
