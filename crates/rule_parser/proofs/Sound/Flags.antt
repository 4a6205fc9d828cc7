-- Options on a session, on flags, on bits and on streams keep a rule sound.
use Rattle.std.proofs.Common.{◌≡◌, ℕ, ◌^◌, ◌<◌, ◌≤◌, ◌==◌, ◌||◌, ◌++◌, Bool, true, false, cond, Option, Some, None, Result, [], bytes_eq, codes}
use Rattle.std.proofs.Common.{List, ◌∷◌, length, nat_le, is_some, refl, arith, IfSome, IsTrue}
use Rattle.std.specs.Option.{unwrap_or}
use Rattle.std.proofs.lemmas.Bool.Decides.{nat_tests}
use Rattle.std.proofs.lemmas.Grind.{common_steps}
use Rattle.std.proofs.lemmas.Nat.{or_lt}
use Rattle.net_lists.specs.Cutting.{comma_parts}
use Rattle.net_lists.specs.Folds.{draft_after}
use Rattle.net_lists.proofs.Steps.{Holds, given, refused, tested, unless, kinded, chained, after_any, ranged, steps}
use Rattle.rule_parser.specs.declared.draft.RuleDraft.{RuleDraft}
use Rattle.rule_parser.specs.declared.fault.Fault.{Fault}
use Rattle.rule_parser.specs.declared.fault.Fault.TheVariants.{OptionValue}
use Rattle.rule_parser.specs.declared.flags.FlagLetters.{FlagLetters}
use Rattle.rule_parser.specs.declared.flowbits.BitWord.{BitWord}
use Rattle.rule_parser.specs.declared.flowbits.BitWord.TheVariants as word
use Rattle.rule_types.specs.declared.option.Mode.{Mode}
use Rattle.rule_types.specs.declared.option.Mode.TheVariants as mode
use Rattle.rule_types.specs.declared.option.Opt.TheVariants as opt
use Rattle.rule_types.specs.declared.option.Side.{Side}
use Rattle.rule_parser.specs.ByteOptions.{Part, first_part, next_part}
use Rattle.rule_parser.specs.Drafts.{kept}
use Rattle.rule_parser.specs.Flags.{flow_option, no_letters, mode_of, flag_bit, frag_bit, with_bit, with_mode, no_flow, flow_word}
use Rattle.rule_parser.specs.Flags.{if_any, flag_step, frag_step, flag_letters, frag_letters, frag_signed, mask_of, flags_parts}
use Rattle.rule_parser.specs.Flags.{flags_of, flags_option, fragbits_option}
use Rattle.rule_parser.specs.Flowbits.{bit_option, numbered, with_names, bit_parts, noalert, flowbits_parts, flowbits_option, bit_word}
use Rattle.rule_parser.specs.Names.{place_among}
use Rattle.rule_types.specs.Sound.{is_order, is_named_side}
use Rattle.rule_parser.specs.Steering.{side_of, size_cmp, size_parts, stream_size_option, reassemble_parts, stream_reassemble_option, sized_side, switched}
use Rattle.rule_parser.proofs.Sound.Drafts.{IsSoundDraft, kept-sound}
use Rattle.rule_parser.proofs.Sound.Fields.{IsAnywhere, anywhere, anywhere-sound}
use Rattle.rule_parser.proofs.Sound.Values.{place_among-below}

pub flow-sound : (classes : ℕ) (draft : RuleDraft) → IsSoundDraft classes draft → (value : List ℕ) → Holds (IsSoundDraft classes) (flow_option draft value)
unfolding flow_option
flow-sound classes draft sound value =
    after_any (draft_after flow_word no_flow (comma_parts value)) (λ flow.
    unless _ _ (λ _. kept-sound classes (record draft { flow = true }) (opt.Flow flow) (search sound) tt (refl, λ names. refl)))

-- letters whose bits are below a power of two
abbrev AreBelow : ℕ → FlagLetters → Type 0
AreBelow width letters = letters.bits < 2 ^ width

with_bit-below : (width : ℕ) (letters : FlagLetters) (bit : Option ℕ) → AreBelow width letters → IfSome bit (λ bit. bit < 2 ^ width) → IfSome (with_bit letters bit) (AreBelow width)
with_bit-below width letters None h k = tt
with_bit-below width letters (Some bit) h k = or_lt width letters.bits bit h k

with_mode-below : (width : ℕ) (letters : FlagLetters) (else_ : Option FlagLetters) (sign : Option Mode)
    → AreBelow width letters
    → IfSome else_ (AreBelow width)
    → IfSome (with_mode letters else_ sign) (AreBelow width)
with_mode-below width letters else_ None h k = k
with_mode-below width letters else_ (Some sign) h k = go (is_some letters.mode)
  where
    go : (b : Bool) → IfSome (cond b None (Some (record letters { mode = Some sign }))) (AreBelow width)
    go true = tt
    go false = h

flag_bit-below : (byte : ℕ) → IfSome (flag_bit byte) (λ bit. bit < 2 ^ 8)
flag_bit-below byte = grind arith

frag_bit-below : (byte : ℕ) → IfSome (frag_bit byte) (λ bit. bit < 2 ^ 3)
frag_bit-below byte = grind arith

flag_step-below : (signs : Bool) (letters : FlagLetters) (byte : ℕ) → AreBelow 8 letters → IfSome (flag_step signs letters byte) (AreBelow 8)
unfolding flag_step
flag_step-below signs letters byte h =
    with_mode-below 8 letters (with_bit letters (flag_bit byte)) (cond signs (mode_of byte) None) h
    (with_bit-below 8 letters (flag_bit byte) h (flag_bit-below byte))

frag_step-below : (last : Bool) (letters : FlagLetters) (byte : ℕ) → AreBelow 3 letters → IfSome (frag_step last letters byte) (AreBelow 3)
unfolding frag_step
frag_step-below last letters byte h = with_mode-below 3 letters (with_bit letters (frag_bit byte)) (cond last (mode_of byte) None) h (with_bit-below 3 letters (frag_bit byte) h (frag_bit-below byte))

if_any-below : (width : ℕ) (letters : FlagLetters) → AreBelow width letters → IfSome (if_any letters) (AreBelow width)
if_any-below width letters h = go letters.any
  where
    go : (b : Bool) → IfSome (cond b (Some letters) None) (AreBelow width)
    go true = h
    go false = tt

flag_letters-below : (signs : Bool) (text : List ℕ) (letters : FlagLetters) → AreBelow 8 letters → IfSome (flag_letters signs letters text) (AreBelow 8)
unfolding flag_letters
flag_letters-below signs [] letters h = if_any-below 8 letters h
flag_letters-below signs (byte ∷ rest) letters h = go (flag_step signs letters byte) (flag_step-below signs letters byte h) (flag_letters-below signs rest)
  where
    go : (o : Option FlagLetters) → IfSome o (AreBelow 8) → ((letters : FlagLetters) → AreBelow 8 letters → IfSome (flag_letters signs letters rest) (AreBelow 8))
        → IfSome (elim o as (λ _. Option FlagLetters) [ None ↦ None | Some next ↦ flag_letters signs next rest ]) (AreBelow 8)
    go None h more = tt
    go (Some next) h more = more next h

frag_letters-below : (text : List ℕ) (letters : FlagLetters) → AreBelow 3 letters → IfSome (frag_letters letters text) (AreBelow 3)
unfolding frag_letters
frag_letters-below [] letters h = if_any-below 3 letters h
frag_letters-below (byte ∷ rest) letters h = go (frag_step (length rest == 0) letters byte) (frag_step-below (length rest == 0) letters byte h) (frag_letters-below rest)
  where
    go : (o : Option FlagLetters) → IfSome o (AreBelow 3) → ((letters : FlagLetters) → AreBelow 3 letters → IfSome (frag_letters letters rest) (AreBelow 3))
        → IfSome (elim o as (λ _. Option FlagLetters) [ None ↦ None | Some next ↦ frag_letters next rest ]) (AreBelow 3)
    go None h more = tt
    go (Some next) h more = more next h

mask_of-below : (rest : List (List ℕ)) → Holds (λ mask. mask < 2 ^ 8) (mask_of rest)
mask_of-below [] = given (omega arith)
mask_of-below (mask ∷ []) = chained (kinded OptionValue (flag_letters false no_letters mask) (flag_letters-below false mask no_letters (omega arith))) (λ letters h. given h)
mask_of-below (mask ∷ more ∷ rest) = refused

flags_parts-anywhere : (parts : List (List ℕ)) → Holds IsAnywhere (flags_parts parts)
flags_parts-anywhere [] = refused
flags_parts-anywhere (first ∷ rest) =
    chained (kinded OptionValue (flag_letters true no_letters first) (flag_letters-below true first no_letters (omega arith))) (λ letters h.
    chained (mask_of-below rest) (λ mask k.
    given (anywhere (opt.Flags (unwrap_or letters.mode mode.Exact) letters.bits mask) (λ names. (h, k)) (refl, λ names. refl))))

pub flags-sound : (classes : ℕ) (draft : RuleDraft) → IsSoundDraft classes draft → (value : List ℕ) → Holds (IsSoundDraft classes) (flags_option draft value)
unfolding flags_option flags_of
flags-sound classes draft sound value = chained (flags_parts-anywhere (comma_parts value)) (anywhere-sound classes draft sound)

frag_signed-below : (text : List ℕ) → IfSome (frag_signed text) (AreBelow 3)
frag_signed-below [] = tt
frag_signed-below (byte ∷ rest) = go (mode_of byte)
  where
    go : (o : Option Mode)
        → IfSome (elim o as (λ _. Option FlagLetters) [
          | None ↦ frag_letters no_letters (byte ∷ rest)
          | Some sign ↦ frag_letters (record no_letters { mode = Some sign }) rest
        ]) (AreBelow 3)
    go None = frag_letters-below (byte ∷ rest) no_letters (omega arith)
    go (Some sign) = frag_letters-below rest (record no_letters { mode = Some sign }) (omega arith)

pub fragbits-sound : (classes : ℕ) (draft : RuleDraft) → IsSoundDraft classes draft → (value : List ℕ) → Holds (IsSoundDraft classes) (fragbits_option draft value)
unfolding fragbits_option
fragbits-sound classes draft sound value =
    chained (kinded _ (frag_signed value) (frag_signed-below value)) (λ letters h.
    kept-sound classes draft (opt.FragBits (unwrap_or letters.mode mode.Exact) letters.bits) sound h (refl, λ names. refl))

-- flowbits: a number below 1024, and at most 1024 names
bit-sound : (classes : ℕ) (draft : RuleDraft) → IsSoundDraft classes draft → (bit : BitWord) (place : ℕ) → place < 1024 → Holds (IsSoundDraft classes) (kept draft (bit_option bit place))
bit-sound classes draft sound word.Set place h = kept-sound classes draft (bit_option word.Set place) sound h (refl, λ names. refl)
bit-sound classes draft sound word.Unset place h = kept-sound classes draft (bit_option word.Unset place) sound h (refl, λ names. refl)
bit-sound classes draft sound word.Toggle place h = kept-sound classes draft (bit_option word.Toggle place) sound h (refl, λ names. refl)
bit-sound classes draft sound word.IsSet place h = kept-sound classes draft (bit_option word.IsSet place) sound h (refl, λ names. refl)
bit-sound classes draft sound word.IsNotSet place h = kept-sound classes draft (bit_option word.IsNotSet place) sound h (refl, λ names. refl)

-- a draft that is sound, beside at most 1024 names
abbrev pub IsSoundBeside : ℕ → RuleDraft × List (List ℕ) → Type 0
IsSoundBeside classes after = IsSoundDraft classes after.0 × (length after.1 ≤ 1024)

pub beside-sound : {classes : ℕ} (names : List (List ℕ)) {result : Result RuleDraft Fault}
    → length names ≤ 1024
    → Holds (IsSoundDraft classes) result
    → Holds (IsSoundBeside classes) (with_names names result)
beside-sound names few h = chained h (λ draft sound. given (sound, few))

numbered-below : (names : List (List ℕ)) (name : List ℕ) (place : Option ℕ)
    → length names ≤ 1024
    → IfSome place (λ place. place < length names)
    → Holds (λ found. (length found.0 ≤ 1024) × (found.1 < 1024)) (numbered names name place)
numbered-below names name (Some place) few h = given (few, omega arith)
numbered-below names name None few h = unless (nat_le 1024 (length names)) _ (λ room. given (longer names name (below (length names) room), below (length names) room))
  where
    below : (count : ℕ) → nat_le 1024 count ≡ false → count < 1024
    below count room = grind (arith, nat_tests)

    longer : (names : List (List ℕ)) (name : List ℕ) → length names < 1024 → length (names ++ name ∷ []) ≤ 1024
    longer names name h = grind (arith, common_steps)

bit_parts-sound : (classes : ℕ) (names : List (List ℕ)) (draft : RuleDraft)
    → length names ≤ 1024
    → IsSoundDraft classes draft
    → (first : Part) (bit : BitWord)
    → Holds (IsSoundBeside classes) (bit_parts names draft first bit)
unfolding bit_parts
bit_parts-sound classes names draft few sound first bit =
    after_any (next_part first) (λ part.
    after_any _ (λ name.
    chained (numbered-below names name (place_among name names) few (place_among-below name names)) (λ numbering h.
    beside-sound numbering.0 h.0 (bit-sound classes draft sound bit numbering.1 h.1))))

pub flowbits-sound : (classes : ℕ) (names : List (List ℕ)) (draft : RuleDraft)
    → length names ≤ 1024
    → IsSoundDraft classes draft
    → (value : List ℕ)
    → Holds (IsSoundBeside classes) (flowbits_option names draft value)
unfolding flowbits_option flowbits_parts
flowbits-sound classes names draft few sound value =
    tested (bytes_eq (first_part 0 value).text (codes "noalert")) (λ _. beside-sound names few (unless (is_some (first_part 0 value).after) _ (λ _. given (search sound))))
    (λ _. after_any (bit_word (first_part 0 value).text) (bit_parts-sound classes names draft few sound (first_part 0 value)))

-- streams
size_cmp-order : (text : List ℕ) → Holds (λ how. IsTrue (is_order how)) (size_cmp text)
unfolding size_cmp
size_cmp-order text = search steps depth 12

side_of-named : (text : List ℕ) → Holds (λ side. IsTrue (is_named_side side)) (side_of text)
unfolding side_of
side_of-named text = search steps depth 12

size_parts-anywhere : (parts : List (List ℕ)) → Holds IsAnywhere (size_parts parts)
unfolding size_parts
size_parts-anywhere [] = refused
size_parts-anywhere (first ∷ []) = refused
size_parts-anywhere (first ∷ second ∷ []) = refused
size_parts-anywhere (first ∷ second ∷ third ∷ []) =
    after_any (sized_side first) (λ side.
    chained (size_cmp-order second) (λ how order.
    chained (ranged _ 0 4294967295 third) (λ number within.
    given (anywhere (opt.StreamSize side how number) (λ names. (order, within.1)) (refl, λ names. refl)))))
size_parts-anywhere (first ∷ second ∷ third ∷ fourth ∷ more) = refused

pub stream_size-sound : (classes : ℕ) (draft : RuleDraft) → IsSoundDraft classes draft → (value : List ℕ) → Holds (IsSoundDraft classes) (stream_size_option draft value)
unfolding stream_size_option
stream_size-sound classes draft sound value = chained (size_parts-anywhere (comma_parts value)) (anywhere-sound classes draft sound)

-- a reassembly of a side that has a name
abbrev IsNamedSide : Bool × Side × Bool → Type 0
IsNamedSide said = IsTrue (is_named_side said.1)

reassemble_parts-named : (parts : List (List ℕ)) → Holds IsNamedSide (reassemble_parts parts)
unfolding reassemble_parts
reassemble_parts-named [] = refused
reassemble_parts-named (first ∷ []) = after_any (switched first) (λ on. refused)
reassemble_parts-named (first ∷ second ∷ rest) =
    after_any (switched first) (λ on.
    chained (side_of-named second) (λ side named.
    after_any _ (λ noalert. given named)))

pub stream_reassemble-sound : (classes : ℕ) (draft : RuleDraft) → IsSoundDraft classes draft → (value : List ℕ) → Holds (IsSoundDraft classes) (stream_reassemble_option draft value)
unfolding stream_reassemble_option
stream_reassemble-sound classes draft sound value =
    chained (reassemble_parts-named (comma_parts value)) (λ said named.
    kept-sound classes (record draft { noalert = draft.noalert || said.2 }) (opt.Reassemble said.0 said.1) (search sound) named (refl, λ names. refl))
