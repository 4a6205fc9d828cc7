-- What the first block of a file may be, and what its bytes say of the file.
use Rattle.std.proofs.Common.{◌≡◌, ℕ, ◌+◌, ◌≤◌, Bool, true, false, List, ◌++◌, Option, Some, None, Result, Ok, Err, [], length, take, drop, refl, sym, ap, subst, ◌∙◌, arith}
use Rattle.std.specs.Prelude.{if◌then◌else◌, nat_lt, ◌==◌, ⊤}
use Rattle.std.proofs.lemmas.List.{append-nil, length-take-le, length-drop, take-append-drop}
use Rattle.std.proofs.lemmas.Bool.Decides.{nat_tests}
use Rattle.edge_io.specs.Files.{Files, IsOpened}
use Rattle.pcap_input.specs.Savefile.{number_at}
use Rattle.pcap_input.proofs.Told.{split_told}
use Rattle.pcapng_input.specs.declared.capture.NgFault.{NgFault}
use Rattle.pcapng_input.specs.declared.capture.NgFault.TheVariants as fault
use Rattle.pcapng_input.specs.declared.content.BlockContent.{BlockContent}
use Rattle.pcapng_input.specs.declared.content.BlockContent.TheVariants as content
use Rattle.pcapng_input.proofs.Blocks.Begins.{fronted-err, fronted-ok, number_front}
use Rattle.pcapng_input.proofs.Blocks.Openings.{opening_short, opening_other, opening_cut, magic_none, magic_known}
use Rattle.pcapng_input.specs.declared.walk.Walk.{Walk}
use Rattle.pcapng_input.specs.declared.step.BlockRead.{BlockRead}
use Rattle.pcapng_input.specs.declared.step.BlockRead.TheVariants as read
use Rattle.pcap_input.specs.Cut.{Clean, Refused}
use Rattle.pcapng_input.specs.Blocks.{section_type, Step, Stops, Skips, Gives, refused, truncated, bad_block, is_sized}
use Rattle.pcapng_input.specs.Blocks.{inner_length, order_of, first_walk, new_section, section_of, content_of, given_by, closing}
use Rattle.pcapng_input.specs.Blocks.{fronted, known, section_block, opening}
use Rattle.pcapng_input.specs.Steps.{TakesLess, EndsBy, Shows}
use Rattle.pcap_input.specs.Reader.{Tells}
use Rattle.pcapng_input.specs.Reader.{reader_at, Opens, ShowsHead, TakesHead, IsOfHead, IsHeadAnswer}

-- what a section header at the beginning gives: it is skipped, cut off or bad
abbrev pub IsHeadStep : Step → Type 0
IsHeadStep (Stops Clean) = ⊥
IsHeadStep (Stops (Refused why)) = IsOfHead why
IsHeadStep (Skips walk more) = ⊤
IsHeadStep (Gives given walk more) = ⊥

either : (test : Bool) (x y : Step) → IsHeadStep x → IsHeadStep y → IsHeadStep (if test then x else y)
either true x y one other = one
either false x y one other = other

closing_head : (walk : Walk) (swapped : Bool) (first after : List ℕ) → walk.at ≡ 0 → IsHeadStep (closing walk (section_block swapped first) content.Skipped after)
unfolding closing given_by
closing_head walk swapped first after start =
    let block = section_block swapped first in
    either (nat_lt (length after) (inner_length block + 4)) (truncated walk) _ start
    (either (number_at walk.section.swapped 0 4 (drop (inner_length block) after) == block.total)
    (given_by walk block content.Skipped (take (inner_length block) after) (drop (inner_length block + 4) after)) (refused (bad_block walk)) tt start)

-- the fixed front of a section header tells nothing, or is bad
section_told : (walk : Walk) (swapped : Bool) (first front : List ℕ) (one : Bool) → (number_at walk.section.swapped 0 2 front == 1) ≡ one
    → content_of walk (section_block swapped first) front ≡ (if one then Ok content.Skipped else Err (bad_block walk))
unfolding content_of section_of
section_told walk swapped first front one is =
    let told : Bool → Result BlockContent NgFault = λ b. if b then Ok content.Skipped else Err (bad_block walk) in
    ap told is

fronted_by : (walk : Walk) (swapped : Bool) (first front after : List ℕ) (one : Bool) → (number_at walk.section.swapped 0 2 front == 1) ≡ one → walk.at ≡ 0
    → IsHeadStep (fronted walk (section_block swapped first) front after)
fronted_by walk swapped first front after true is start =
    subst IsHeadStep (sym (fronted-ok walk (section_block swapped first) front content.Skipped (section_told walk swapped first front true is) after)) (closing_head walk swapped first after start)
fronted_by walk swapped first front after false is start =
    subst IsHeadStep (sym (fronted-err walk (section_block swapped first) front (bad_block walk) (section_told walk swapped first front false is) after)) start

known_head : (walk : Walk) (swapped : Bool) (first body : List ℕ) → walk.at ≡ 0 → IsHeadStep (known walk (section_block swapped first) body)
unfolding known
known_head walk swapped first body start =
    let block = section_block swapped first in
    either (is_sized block) _ (refused (bad_block walk))
    (either (nat_lt (length body) 12) (truncated walk) (fronted walk block (take 12 body) (drop 12 body)) start
    (fronted_by walk swapped first (take 12 body) (drop 12 body) _ refl start))
    start

-- what the first block of a file gives: no record, and no ending but a refusal
opening_by : (bytes : List ℕ) (short section cut : Bool) (order : Option Bool) → nat_lt (length bytes) 4 ≡ short → (number_at false 0 4 bytes == section_type) ≡ section
    → nat_lt (length bytes) 12 ≡ cut → order_of (take 4 (drop 8 bytes)) ≡ order → IsHeadStep (opening bytes)
opening_by bytes true section cut order short_is section_is cut_is order_is = subst IsHeadStep (sym (opening_short bytes (grind (arith, nat_tests, short_is)))) tt
opening_by bytes false false cut order short_is section_is cut_is order_is =
    let other = opening_other bytes (grind (arith, nat_tests, short_is)) (grind (arith, nat_tests, section_is)) [] in
    subst IsHeadStep (sym (ap opening (sym (append-nil bytes)) ∙ other)) tt
opening_by bytes false true true order short_is section_is cut_is order_is =
    let cut_off = opening_cut bytes (grind (arith, nat_tests, short_is)) (grind (arith, nat_tests, section_is)) (grind (arith, nat_tests, cut_is)) in
    subst IsHeadStep (sym cut_off) refl
opening_by bytes false true false order short_is section_is cut_is order_is =
    let long : 12 ≤ length bytes = grind (arith, nat_tests, cut_is) in
    let first = take 8 bytes in
    let eight : length first ≡ 8 = length-take-le 8 bytes (omega arith) in
    let begins : number_at false 0 4 first ≡ section_type = number_front 8 bytes (omega arith) ∙ grind (arith, nat_tests, section_is) in
    let after = drop 8 bytes in
    let four : length (take 4 after) ≡ 4 = length-take-le 4 after (omega (arith, length-drop 8 bytes)) in
    let joined : bytes ≡ first ++ (take 4 after ++ drop 4 after) =
    sym (take-append-drop 8 bytes) ∙ ap (λ xs. first ++ xs) (sym (take-append-drop 4 after)) in
    subst (λ xs. IsHeadStep (opening xs)) (sym joined) (magic_by first (take 4 after) (drop 4 after) order eight begins four order_is)
  where
    magic_by : (front magic more : List ℕ) (told : Option Bool) → length front ≡ 8 → number_at false 0 4 front ≡ section_type → length magic ≡ 4 → order_of magic ≡ told
        → IsHeadStep (opening (front ++ (magic ++ more)))
    magic_by front magic more None size is four none = subst IsHeadStep (sym (magic_none front magic size is four none more)) tt
    magic_by front magic more (Some swapped) size is four some =
        subst IsHeadStep (sym (magic_known front magic swapped size is four some more)) (known_head (new_section first_walk swapped) swapped front more refl)

pub opening_head : (bytes : List ℕ) → IsHeadStep (opening bytes)
opening_head bytes = opening_by bytes _ _ _ _ refl refl refl refl

-- what a step shows of a stage that gives no other
shown_kind : (stage : List ℕ → Step) (walk : Walk) (answer : Result BlockRead NgFault) (old new : Option (List ℕ))
    → ((bytes : List ℕ) → IsHeadStep (stage bytes)) → Shows stage walk answer old new → IsHeadAnswer answer
shown_kind stage walk (Ok read.End) old new heads shown = absurd (subst IsHeadStep shown.shows.0.shown (heads shown.taken))
shown_kind stage walk (Ok read.Skipped) old new heads shown = tt
shown_kind stage walk (Ok (read.Record given)) old new heads shown = absurd (subst IsHeadStep (shown.shows []) (heads (shown.taken ++ [])))
shown_kind stage walk (Err fault.Failed) old new heads shown = tt
shown_kind stage walk (Err fault.NoMemory) old new heads shown = tt
shown_kind stage walk (Err fault.NotPcapng) old new heads shown = tt
shown_kind stage walk (Err (fault.Truncated at)) old new heads shown = subst IsHeadStep shown.shows.shown (heads shown.taken)
shown_kind stage walk (Err (fault.BadBlock at)) old new heads shown = subst IsHeadStep shown.shows.shown (heads shown.taken)
shown_kind stage walk (Err (fault.LinkType at link)) old new heads shown = subst IsHeadStep shown.shows.shown (heads shown.taken)
shown_kind stage walk (Err (fault.TooLong at len)) old new heads shown = subst IsHeadStep shown.shows.shown (heads shown.taken)
shown_kind stage walk (Err fault.TooMany) old new heads shown = subst IsHeadStep shown.shows.shown (heads shown.taken)

pub known_kind : (walk after : Walk) (swapped : Bool) (first : List ℕ) (answer : Result BlockRead NgFault) (old new : Option (List ℕ))
    → walk.at ≡ 0 → Shows (known walk (section_block swapped first)) after answer old new → IsHeadAnswer answer
known_kind walk after swapped first answer old new start shown =
    shown_kind (known walk (section_block swapped first)) after answer old new (λ bytes. known_head walk swapped first bytes start) shown

-- a piece of it that was cut short
pub less_kind : (len : ℕ) (why : NgFault) (old new : Option (List ℕ)) → TakesLess 0 len why old new → IsOfHead why
less_kind len fault.NotPcapng old new less = tt
less_kind len (fault.Truncated at) old new less = less.cut.0
less_kind len (fault.BadBlock at) old new less = absurd less.cut
less_kind len (fault.LinkType at link) old new less = absurd less.cut
less_kind len (fault.TooLong at more) old new less = absurd less.cut
less_kind len fault.TooMany old new less = absurd less.cut
less_kind len fault.Failed old new less = tt
less_kind len fault.NoMemory old new less = tt

-- where contents are told, what was opened is what the name holds
pub tells_opened : (contents : Option Files) (name bytes : List ℕ) (left : Option (List ℕ)) → Tells contents name bytes → IsOpened contents name left → left ≡ Some bytes
tells_opened None name bytes left tells opened = absurd tells
tells_opened (Some files) name bytes left tells opened = opened.0 ∙ tells

-- the first block was read
ok_taken : (walk : Walk) (block : BlockRead) (old new : Option (List ℕ)) → IsHeadAnswer (Ok block) → (shown : Shows opening walk (Ok block) old new)
    → (more : List ℕ) → opening (shown.taken ++ more) ≡ Skips walk more
ok_taken walk read.End old new kind shown = absurd kind
ok_taken walk read.Skipped old new kind shown = shown.shows
ok_taken walk (read.Record given) old new kind shown = absurd kind

pub ok_opens : (contents : Option Files) (name bytes : List ℕ) (walk : Walk) (block : BlockRead) (old new : Option (List ℕ)) → IsHeadAnswer (Ok block) → Shows opening walk (Ok block) old new
    → IsOpened contents name old → Tells contents name bytes → Opens (Ok (reader_at walk)) (opening bytes)
ok_opens contents name bytes walk block old new kind shown opened tells =
    let split = split_told old new shown.taken bytes shown.took (tells_opened contents name bytes old tells opened) in
    (split.rest, ap opening split.joined ∙ ok_taken walk block old new kind shown split.rest, refl)

pub ok_takes : (contents : Option Files) (name : List ℕ) (walk : Walk) (block : BlockRead) (old new : Option (List ℕ)) → IsHeadAnswer (Ok block) → Shows opening walk (Ok block) old new
    → IsOpened contents name old → TakesHead contents name (Ok (reader_at walk)) new
ok_takes contents name walk block old new kind shown opened =
    record { whole = old; opened = opened; taken = shown.taken; took = shown.took; shows = ok_taken walk block old new kind shown }

-- an opening was refused
told_refused : (why : NgFault) (taken rest bytes : List ℕ) (new : Option (List ℕ)) → bytes ≡ taken ++ rest → new ≡ Some rest → EndsBy opening (refused why) taken new → opening bytes ≡ refused why
told_refused why taken rest bytes new joined still ends = ap opening joined ∙ ends.told rest still

err_by : (walk : Walk) (why : NgFault) (old new : Option (List ℕ)) (rest bytes : List ℕ)
    → (shown : Shows opening walk (Err why) old new)
    → bytes ≡ shown.taken ++ rest
    → new ≡ Some rest
    → Opens (Err why) (opening bytes)
err_by walk fault.NotPcapng old new rest bytes shown joined still = told_refused _ shown.taken rest bytes new joined still shown.shows
err_by walk (fault.Truncated at) old new rest bytes shown joined still = told_refused _ shown.taken rest bytes new joined still shown.shows
err_by walk (fault.BadBlock at) old new rest bytes shown joined still = told_refused _ shown.taken rest bytes new joined still shown.shows
err_by walk (fault.LinkType at link) old new rest bytes shown joined still = told_refused _ shown.taken rest bytes new joined still shown.shows
err_by walk (fault.TooLong at len) old new rest bytes shown joined still = told_refused _ shown.taken rest bytes new joined still shown.shows
err_by walk fault.TooMany old new rest bytes shown joined still = told_refused _ shown.taken rest bytes new joined still shown.shows
err_by walk fault.Failed old new rest bytes shown joined still = tt
err_by walk fault.NoMemory old new rest bytes shown joined still = tt

pub err_opens : (contents : Option Files) (name bytes : List ℕ) (walk : Walk) (why : NgFault) (old new : Option (List ℕ)) → Shows opening walk (Err why) old new
    → IsOpened contents name old → Tells contents name bytes → Opens (Err why) (opening bytes)
err_opens contents name bytes walk why old new shown opened tells =
    let split = split_told old new shown.taken bytes shown.took (tells_opened contents name bytes old tells opened) in
    err_by walk why old new split.rest bytes shown split.joined split.still

shows_head : (walk : Walk) (why : NgFault) (old new : Option (List ℕ)) (shown : Shows opening walk (Err why) old new) → ShowsHead (Err why) shown.taken
shows_head walk fault.NotPcapng old new shown = shown.shows.shown
shows_head walk (fault.Truncated at) old new shown = shown.shows.shown
shows_head walk (fault.BadBlock at) old new shown = shown.shows.shown
shows_head walk (fault.LinkType at link) old new shown = shown.shows.shown
shows_head walk (fault.TooLong at len) old new shown = shown.shows.shown
shows_head walk fault.TooMany old new shown = shown.shows.shown
shows_head walk fault.Failed old new shown = shown.shows
shows_head walk fault.NoMemory old new shown = shown.shows

pub err_takes : (contents : Option Files) (name : List ℕ) (walk : Walk) (why : NgFault) (old new : Option (List ℕ)) → Shows opening walk (Err why) old new
    → IsOpened contents name old → TakesHead contents name (Err why) new
err_takes contents name walk why old new shown opened =
    record { whole = old; opened = opened; taken = shown.taken; took = shown.took; shows = shows_head walk why old new shown }
