-- Contents and their modifiers keep a rule sound.
use Rattle.std.proofs.Common.{◌≡◌, ℕ, ◌+◌, ◌≤◌, ◌==◌, ◌&&◌, ◌||◌, Bool, true, false, not, cond, ℤ, pos, negsuc, ◌≤ℤ◌, Option, [], bytes_eq, codes}
use Rattle.std.proofs.Common.{Some, None, Result, Ok, Err, List, ◌∷◌, length, take, nat_le, is_some, refl}
use Rattle.std.proofs.Common.{sym, ap, subst, ◌∙◌, arith, IfSome, count_by, length-take}
use Rattle.std.proofs.lemmas.Bool.Decides.{nat_tests}
use Rattle.std.proofs.lemmas.Int.{ints}
use Rattle.std.proofs.lemmas.List.{take_all}
use Rattle.edge_io.specs.OnResult.{◌>>=◌}
use Rattle.net_lists.specs.Cutting.{comma_parts}
use Rattle.net_lists.specs.Numbers.{number_in}
use Rattle.net_lists.specs.Stops.{or_kind}
use Rattle.net_lists.proofs.Steps.{Holds, given, refused, tested, unless, chained, after_any, ranged, number_in-within}
use Rattle.conf_types.specs.Sound.{IsWithin}
use Rattle.rule_parser.specs.declared.draft.RuleDraft.{RuleDraft}
use Rattle.rule_parser.specs.declared.draft.LastContent.{LastContent}
use Rattle.rule_parser.specs.declared.fault.Fault.{Fault}
use Rattle.rule_parser.specs.declared.fault.Fault.TheVariants.{Misplaced, OptionValue}
use Rattle.rule_parser.specs.declared.names.Modifier.{Modifier}
use Rattle.rule_types.specs.declared.option.Content.{Content}
use Rattle.rule_types.specs.declared.option.FastMode.{FastMode}
use Rattle.rule_types.specs.declared.option.FastMode.TheVariants as fast
use Rattle.rule_types.specs.declared.option.Num.{Num}
use Rattle.rule_types.specs.declared.option.Num.TheVariants as num
use Rattle.rule_types.specs.declared.option.Opt.{Opt}
use Rattle.rule_parser.specs.declared.quoted.Style.TheVariants.{Bytes}
use Rattle.rule_parser.specs.declared.quoted.QuotedPlace.TheVariants.{Plain}
use Rattle.rule_parser.specs.Contents.{negation, plain_content, with_bytes, content_option, apart, with_last}
use Rattle.rule_parser.specs.Contents.{nocase, nocase_option, rawbytes, rawbytes_option, is_relative, bars_from, bars_room}
use Rattle.rule_parser.specs.Contents.{place_text, known_before, with_from, from_option, room_of, with_room, room_option}
use Rattle.rule_parser.specs.Contents.{fast_part, fast_mode, is_only, fast_on, has_room, bars_fast, fast_pattern_option}
use Rattle.rule_parser.specs.Drafts.{kept_count, settled}
use Rattle.rule_parser.specs.Quotes.{meaning}
use Rattle.rule_types.specs.Sound.{IsFast, IsContent, is_chosen, is_fast}
use Rattle.rule_parser.specs.Texts.{quoted_whole}
use Rattle.rule_parser.proofs.Sound.Drafts.{AreNamed, AreKept, IsHeld, IsSoundDraft, names_after, fast_held, count_held, settled-options, settled-names, settled-length, settled-fast}
use Rattle.rule_parser.proofs.Sound.Values.{IsNumBelow, signed_or_named-below, named-below, num-named}

-- a new content comes after all options that there are
held-new : (classes : ℕ) (draft : RuleDraft) (content : Content)
    → IsSoundDraft classes draft
    → ((names : List ℕ) → IsContent names content)
    → content.fast ≡ fast.No
    → IsHeld (settled draft)
    (record { content = content; place = length (settled draft); known = length draft.names; raw = false; placeless = false })
unfolding settled
held-new classes draft content sound is_content plain =
    let all = settled draft in
    let whole : take (length all) all ≡ all = take_all (length all) all (omega arith) in
    let names : names_after [] (take (length all) all) ≡ names_after [] draft.opts = ap (names_after []) whole ∙ settled-names draft.opts draft.held in
    let At : List ℕ → Type 0 = λ found. AreNamed found (length draft.names) in
    record {
      place = omega arith;
      known = subst At (sym names) sound.kept.named;
      content = is_content (names_after [] (take (length all) all));
      placeless = λ _. ap is_only plain;
    }

-- the options with the last content in its place, and this one apart
kept-new : (classes : ℕ) (draft : RuleDraft) (content : Content)
    → IsSoundDraft classes draft
    → ((names : List ℕ) → IsContent names content)
    → content.fast ≡ fast.No
    → nat_le 64 (kept_count draft) ≡ false
    → AreKept (settled draft)
    (Some (record {
      content = content;
      place = length (settled draft);
      known = length draft.names;
      raw = false;
      placeless = false;
    }))
    draft.names draft.fast
unfolding settled
kept-new classes draft content sound is_content plain room =
    let At : List ℕ → Type 0 = λ found. AreNamed found (length draft.names) in
    record {
      options = settled-options draft.opts draft.held sound.kept.options sound.kept.held;
      named = subst At (sym (settled-names draft.opts draft.held)) sound.kept.named;
      few = sound.kept.few;
      held = held-new classes draft content sound is_content plain;
      count =
          fits (length draft.opts) (count_held draft.held) (length (settled draft))
          (settled-length draft.opts draft.held sound.kept.held) room;
      chosen =
          same (count_by is_fast draft.opts) (count_by is_fast (settled draft)) (fast_held draft.held) (cond draft.fast 1 0)
          (is_chosen content.fast) (settled-fast draft.opts draft.held) (ap is_chosen plain) sound.kept.chosen;
    }
  where
    fits : (len held all : ℕ) → all ≡ len + held → nat_le 64 (len + held) ≡ false → all + 1 ≤ 64
    fits len held all e room = grind (arith, nat_tests)

    same : (counted all held most : ℕ) (chosen : Bool) → all ≡ counted + held → chosen ≡ false → counted + held ≤ most → all + cond chosen 1 0 ≤ most
    same counted all held most true e plain h = cc
    same counted all held most false e plain h = omega arith

with_bytes-sound : (classes : ℕ) (draft : RuleDraft) → IsSoundDraft classes draft → (negated : Bool) (bytes : List ℕ) → Holds (IsSoundDraft classes) (with_bytes draft negated bytes)
with_bytes-sound classes draft sound negated bytes =
    unless (length bytes == 0) _ (λ some.
    tested _ (λ room.
    let new =
    kept-new classes draft (plain_content negated bytes) sound (λ names. (sized (length bytes) (kept_count draft) some room, tt, tt, tt)) refl
    (free (length bytes) (kept_count draft) room) in
    given (search (new, sound))) (λ _. refused))
  where
    sized : (len count : ℕ) → (len == 0) ≡ false → (nat_le len 2048 && not (nat_le 64 count)) ≡ true → (1 ≤ len) × (len ≤ 2048)
    sized len count some room = (grind (arith, nat_tests), grind (arith, nat_tests))

    free : (len count : ℕ) → (nat_le len 2048 && not (nat_le 64 count)) ≡ true → nat_le 64 count ≡ false
    free len count room = grind (arith, nat_tests)

pub content-sound : (classes : ℕ) (draft : RuleDraft) → IsSoundDraft classes draft → (value : List ℕ) → Holds (IsSoundDraft classes) (content_option draft value)
unfolding content_option
content-sound classes draft sound value =
    after_any (quoted_whole (negation value).1) (λ inside.
    after_any (or_kind OptionValue (meaning Bytes Plain inside)) (λ bytes. with_bytes-sound classes draft sound (negation value).0 bytes))

-- the last content, and the draft without it
abbrev IsApart : RuleDraft → LastContent × RuleDraft → Type 0
IsApart draft parts = (draft.held ≡ Some parts.0) × (parts.1 ≡ record draft { held = None })

apart_ok : (draft : RuleDraft) → Holds (IsApart draft) (apart draft)
unfolding apart
apart_ok draft = chained (go draft.held) (λ held e. given (e, refl))
  where
    go : (o : Option LastContent) → Holds (λ held. o ≡ Some held) (or_kind Misplaced o)
    go None = refused
    go (Some held) = given refl

-- what a modifier makes of the last content is held as that is, and is a fast pattern where that is one
record IsModified (opts : List Opt) (held next : LastContent) : Type 0 where
  keeps : IsHeld opts held → IsHeld opts next
  same : is_chosen next.content.fast ≡ is_chosen held.content.fast

-- a draft with its last content changed
last-sound : (classes : ℕ) (draft rest : RuleDraft) (held next : LastContent)
    → IsSoundDraft classes draft
    → draft.held ≡ Some held
    → rest ≡ record draft { held = None }
    → IsModified draft.opts held next
    → IsSoundDraft classes (with_last rest next)
last-sound classes draft rest held next sound e r modified =
    let Kept : Option LastContent → Type 0 = λ o. AreKept draft.opts o draft.names draft.fast in
    let Sound : RuleDraft → Type 0 = λ d. IsSoundDraft classes (with_last d next) in
    let before : AreKept draft.opts (Some held) draft.names draft.fast = subst Kept e sound.kept in
    let kept : Kept (Some next) = record {
      options = before.options;
      named = before.named;
      few = before.few;
      held = modified.keeps before.held;
      count = before.count;
      chosen = as_many (count_by is_fast draft.opts) (is_chosen next.content.fast) (is_chosen held.content.fast) (cond draft.fast 1 0) modified.same before.chosen;
    } in
    subst Sound (sym r) (search (kept, sound))
  where
    as_many : (count : ℕ) (b before : Bool) (most : ℕ) → b ≡ before → count + cond before 1 0 ≤ most → count + cond b 1 0 ≤ most
    as_many count b before most e h = let number : Bool → ℕ = λ b. cond b 1 0 in omega (arith, ap number e)

-- a modifier, by what it makes of the last content among these names
modified-sound : (classes : ℕ) (draft : RuleDraft)
    → IsSoundDraft classes draft
    → (modify : LastContent → List (List ℕ) → Result LastContent Fault)
    → ((held : LastContent) → Holds (IsModified draft.opts held) (modify held draft.names))
    → Holds (IsSoundDraft classes) (apart draft >>= λ parts. modify parts.0 parts.1.names >>= λ held. Ok (with_last parts.1 held))
modified-sound classes draft sound modify h =
    chained (apart_ok draft) (λ parts e.
    let Modifies : List (List ℕ) → Type 0 = λ names. Holds (IsModified draft.opts parts.0) (modify parts.0 names) in
    chained (subst Modifies (sym (ap (λ (d : RuleDraft). d.names) e.1)) (h parts.0)) (λ next modified.
    given (last-sound classes draft parts.1 parts.0 next sound e.0 e.1 modified)))

pub nocase-sound : (classes : ℕ) (draft : RuleDraft) → IsSoundDraft classes draft → (value : Option (List ℕ)) → Holds (IsSoundDraft classes) (nocase_option draft value)
unfolding nocase_option nocase
nocase-sound classes draft sound value = modified-sound classes draft sound (λ held names. nocase held value) (λ held.
    unless held.content.nocase _ (λ _. unless (is_some value) _ (λ _. given (record { keeps = λ h. search (h.placeless, h); same = refl }))))

pub rawbytes-sound : (classes : ℕ) (draft : RuleDraft) → IsSoundDraft classes draft → (value : Option (List ℕ)) → Holds (IsSoundDraft classes) (rawbytes_option draft value)
unfolding rawbytes_option rawbytes
rawbytes-sound classes draft sound value = modified-sound classes draft sound (λ held names. rawbytes held value) (λ held.
    unless held.raw _ (λ _. unless (is_some value) _ (λ _. given (record { keeps = λ h. search (h.placeless, h); same = refl }))))

-- a place goes with any fast pattern but `only`
fast-placed : (content : Content) (relative : Bool) (from room : Option Num) (mode : FastMode)
    → is_only mode ≡ false
    → IsFast content mode
    → IsFast (record content { relative = relative; from = from; room = room }) mode
fast-placed content relative from room fast.No other h = tt
fast-placed content relative from room fast.Yes other h = h
fast-placed content relative from room fast.Only other h = absurd (true≢ other)
  where
    true≢ : true ≡ false → ⊥
    true≢ e = cc
fast-placed content relative from room (fast.Part start len) other h = h

-- the value of a modifier that tells a place is read only where a fast pattern excludes none
place_text-ok : (bars placeless : Bool) (value : Option (List ℕ)) → Holds (λ _. placeless ≡ false) (place_text bars placeless value)
place_text-ok true placeless value = refused
place_text-ok false true value = refused
place_text-ok false false None = refused
place_text-ok false false (Some text) = given refl

-- a name among the first ones is among those before the content
below-known : (known : List (List ℕ)) (count : ℕ) (least most : ℤ) (number : Num) → IsNumBelow (length (take count known)) least most number → IsNumBelow count least most number
below-known known count least most (num.Value number) h = h
below-known known count least most (num.Name place) h = omega (arith, length-take count known)

pub from-sound : (classes : ℕ) (name : Modifier) (draft : RuleDraft)
    → IsSoundDraft classes draft
    → (left : ℕ) (value : Option (List ℕ))
    → Holds (IsSoundDraft classes) (from_option name draft left value)
unfolding from_option with_from
from-sound classes name draft sound left value =
    modified-sound classes draft sound (λ held names. with_from name held names left value) (λ held.
    chained (place_text-ok (bars_from name held.content) held.placeless value) (λ text placed.
    chained (signed_or_named-below (negsuc 65534) (pos 65535) (known_before draft.names held) left text) (λ from below.
    let names = names_after [] (take held.place draft.opts) in
    given (record {
      keeps = λ h. record {
        place = h.place;
        known = h.known;
        content = (
          h.content.0,
          num-named names held.known (negsuc 65534) (pos 65535) from h.known
              (below-known draft.names held.known (negsuc 65534) (pos 65535) from below),
          h.content.2,
          fast-placed held.content (is_relative name) (Some from) held.content.room held.content.fast (h.placeless placed)
              h.content.3,
        );
        placeless = h.placeless;
      };
      same = refl;
    }))))

room_of-below : (size : ℕ) (known : List (List ℕ)) (left : ℕ) (text : List ℕ) (o : Option ℕ)
    → IfSome o (IsWithin 0 65535)
    → Holds (IsNumBelow (length known) (pos size) (pos 65535)) (room_of size known left text o)
room_of-below size known left text None h = named-below (pos size) (pos 65535) known left text
room_of-below size known left text (Some number) h = tested (nat_le size number) (λ e. given (least e, omega (arith, ints))) (λ _. refused)
  where
    least : nat_le size number ≡ true → pos size ≤ℤ pos number
    least e = let le : size ≤ number = grind (arith, nat_tests) in omega (arith, ints)

pub room-sound : (classes : ℕ) (name : Modifier) (draft : RuleDraft)
    → IsSoundDraft classes draft
    → (left : ℕ) (value : Option (List ℕ))
    → Holds (IsSoundDraft classes) (room_option name draft left value)
unfolding room_option with_room
room-sound classes name draft sound left value =
    modified-sound classes draft sound (λ held names. with_room name held names left value) (λ held.
    let size = length held.content.bytes in
    chained (place_text-ok (bars_room name held.content) held.placeless value) (λ text placed.
    chained (room_of-below size (known_before draft.names held) left text (number_in 0 65535 text) (number_in-within 0 65535 text)) (λ room below.
    let names = names_after [] (take held.place draft.opts) in
    given (record {
      keeps = λ h. record {
        place = h.place;
        known = h.known;
        content = (
          h.content.0,
          h.content.1,
          num-named names held.known (pos size) (pos 65535) room h.known
              (below-known draft.names held.known (pos size) (pos 65535) room below),
          fast-placed held.content (is_relative name) held.content.from (Some room) held.content.fast (h.placeless placed)
              h.content.3,
        );
        placeless = h.placeless;
      };
      same = refl;
    }))))

-- a form of fast pattern for a content of `size` bytes: its part lies within them
abbrev IsMode : ℕ → FastMode → Type 0
IsMode size fast.No = Unit {0}
IsMode size fast.Yes = Unit {0}
IsMode size fast.Only = Unit {0}
IsMode size (fast.Part from len) = (1 ≤ len) × (from + len ≤ size)

fast_part-ok : (size : ℕ) (parts : List (List ℕ)) → Holds (IsMode size) (fast_part size parts)
unfolding fast_part
fast_part-ok size [] = refused
fast_part-ok size (only ∷ []) = refused
fast_part-ok size (first ∷ second ∷ []) =
    after_any (or_kind OptionValue (number_in 0 2048 first)) (λ from.
    chained (ranged _ 1 2048 second) (λ len within.
    tested (nat_le (from + len) size) (λ fits. given (within.0, below (from + len) fits)) (λ _. refused)))
  where
    below : (end : ℕ) → nat_le end size ≡ true → end ≤ size
    below end fits = grind (arith, nat_tests)
fast_part-ok size (first ∷ second ∷ third ∷ more) = refused

fast_mode-ok : (size : ℕ) (value : Option (List ℕ)) → Holds (IsMode size) (fast_mode size value)
unfolding fast_mode
fast_mode-ok size None = given tt
fast_mode-ok size (Some value) = tested (bytes_eq value (codes "only")) (λ _. given tt) (λ _. fast_part-ok size (comma_parts value))

-- neither a place nor a room is told
unplaced : (from room : Option Num) → (is_some from || is_some room) ≡ false → (from ≡ None) × (room ≡ None)
unplaced None None e = (refl, refl)
unplaced None (Some room) e = cc
unplaced (Some from) room e = cc

-- a fast pattern that may be given for a content
fast-on : (content : Content) (mode : FastMode) (negated : Bool)
    → content.negated ≡ negated
    → IsMode (length content.bytes) mode
    → ((is_only mode && negated) || ((is_only mode || negated) && has_room content)) ≡ false
    → IsFast (record content { fast = fast_on negated mode }) (fast_on negated mode)
fast-on content mode true e h bars = tt
fast-on content fast.No false e h bars = tt
fast-on content fast.Yes false e h bars = e
fast-on content fast.Only false e h bars = let free = unplaced content.from content.room bars in (free.0, free.1, e)
fast-on content (fast.Part from len) false e h bars = (h.0, h.1, e)

only-on : (mode : FastMode) (negated : Bool) → (is_only mode || negated) ≡ false → is_only (fast_on negated mode) ≡ false
only-on fast.No true e = refl
only-on fast.Yes true e = refl
only-on fast.Only true e = refl
only-on (fast.Part from len) true e = refl
only-on fast.No false e = refl
only-on fast.Yes false e = refl
only-on fast.Only false e = e
only-on (fast.Part from len) false e = refl

pub fast_pattern-sound : (classes : ℕ) (draft : RuleDraft) → IsSoundDraft classes draft → (value : Option (List ℕ)) → Holds (IsSoundDraft classes) (fast_pattern_option draft value)
unfolding fast_pattern_option
fast_pattern-sound classes draft sound value =
    chained (first draft.fast draft.held) (λ held found.
    chained (fast_mode-ok (length held.content.bytes) value) (λ mode fits.
    unless (bars_fast mode held.content) _ (λ is_given.
    let Kept : Option LastContent → Type 0 = λ o. AreKept draft.opts o draft.names draft.fast in
    let before : AreKept draft.opts (Some held) draft.names draft.fast = subst Kept found.1 sound.kept in
    given (record {
      kept = record {
        options = before.options;
        named = before.named;
        few = before.few;
        held = record {
          place = before.held.place;
          known = before.held.known;
          content = (
            before.held.content.0,
            before.held.content.1,
            before.held.content.2,
            fast-on held.content mode held.content.negated refl fits is_given,
          );
          placeless = only-on mode held.content.negated;
        };
        count = before.count;
        chosen =
            one (count_by is_fast draft.opts) (is_chosen held.content.fast) (is_chosen (fast_on held.content.negated mode))
            draft.fast found.0 before.chosen;
      };
      msg = sound.msg;
      gid = sound.gid;
      sid = sound.sid;
      class = sound.class;
      period = sound.period;
    }))))
  where
    first : (is_given : Bool) (o : Option LastContent) → Holds (λ held. (is_given ≡ false) × (o ≡ Some held)) (cond is_given (Err Misplaced) (or_kind Misplaced o))
    first true o = refused
    first false None = refused
    first false (Some held) = given (refl, refl)

    one : (count : ℕ) (before after is_given : Bool) → is_given ≡ false → count + cond before 1 0 ≤ cond is_given 1 0 → count + cond after 1 0 ≤ 1
    one count before true is_given e h = let number : Bool → ℕ = λ b. cond b 1 0 in omega (arith, ap number e)
    one count before false is_given e h = let number : Bool → ℕ = λ b. cond b 1 0 in omega (arith, ap number e)
