-- The records of blocks hold bytes of them, and no more than a record may have.
use Rattle.std.proofs.Common.{◌≡◌, ℕ, zero, suc, ◌+◌, ◌≤◌, Bool, true, false, List, Option, Some, None, Result, Ok, Err, length, take, drop, refl, sym, subst, arith}
use Rattle.std.specs.Prelude.{if◌then◌else◌, nat_le, nat_lt, slice_get, ◌==◌, ⊤}
use Rattle.std.specs.List.{All}
use Rattle.std.proofs.lemmas.List.{length-take}
use Rattle.std.proofs.lemmas.List.Elements.{All-cons, All-drop, All-nil, All-take}
use Rattle.std.proofs.lemmas.Bool.Decides.{nat_tests}
use Rattle.edge_io.specs.declared.link.Link.{Link}
use Rattle.edge_io.specs.declared.moment.Moment.{Moment}
use Rattle.pcap_input.specs.Savefile.{number_at}
use Rattle.pcapng_input.specs.declared.block.Block.{Block}
use Rattle.pcapng_input.specs.declared.block.BlockKind.{BlockKind}
use Rattle.pcapng_input.specs.declared.block.BlockKind.TheVariants as kind
use Rattle.pcapng_input.specs.declared.capture.NgFault.{NgFault}
use Rattle.pcapng_input.specs.declared.capture.NgRecord.{NgRecord}
use Rattle.pcapng_input.specs.declared.content.BlockContent.{BlockContent}
use Rattle.pcapng_input.specs.declared.content.BlockContent.TheVariants as content
use Rattle.pcapng_input.specs.declared.resolution.Resolution.{Resolution}
use Rattle.pcapng_input.specs.declared.walk.Interface.{Interface}
use Rattle.pcapng_input.specs.declared.walk.Walk.{Walk}
use Rattle.pcapng_input.specs.Options.{resolution_told}
use Rattle.pcapng_input.specs.Blocks.{Ends, Next, Follows, Step, Stops, Skips, Gives, begun, closing, content_of, cut_up}
use Rattle.pcapng_input.specs.Blocks.{enhanced_of, front_length, fronted, given_by, inner_length, interface_of, is_full, is_sized}
use Rattle.pcapng_input.specs.Blocks.{known, link_of, new_section, next_along, next_of, order_of, other_block, packet_of}
use Rattle.pcapng_input.specs.Blocks.{records_left, section_begun, section_block, section_of, section_type, simple_of, step_of}
use Rattle.pcapng_input.proofs.Blocks.Begins.{fronted-err, fronted-ok}
use Rattle.pcapng_input.proofs.Blocks.Closing.{given-interface, given-no_resolution}
use Rattle.unified2_out.specs.Records.{AllFit}
use Rattle.snort_engine.proofs.Fits.Savefiles.{FitsCaptured, IsByte}

-- a packet's captured bytes are no more than a record may have
abbrev IsShort : Result BlockContent NgFault → Type 0
IsShort (Ok (content.Packet packet)) = packet.captured ≤ 262144
IsShort (Ok content.Skipped) = ⊤
IsShort (Ok (content.Interface link snaplen)) = ⊤
IsShort (Err why) = ⊤

choice : (test : Bool) (x y : Result BlockContent NgFault) → IsShort x → (test ≡ false → IsShort y) → IsShort (if test then x else y)
choice true x y one other = one
choice false x y one other = other refl

packet_by : (walk : Walk) (block : Block) (interface : Interface) (moment : Option Moment) (original captured : ℕ) (link : Option Link) → link_of interface.link ≡ link
    → IsShort (packet_of walk block interface moment original captured)
unfolding packet_of
packet_by walk block interface moment original captured None is = rw (packet_of, is) tt
packet_by walk block interface None original captured (Some link) is =
    rw (packet_of, is) (choice (nat_lt 262144 captured) _ _ tt (λ short. choice (nat_lt (inner_length block) captured) _ _ tt (λ within. tt)))
packet_by walk block interface (Some moment) original captured (Some link) is =
    rw (packet_of, is)
    (choice (nat_lt 262144 captured) _ _ tt
    (λ short. choice (nat_lt (inner_length block) captured) _ _ tt
    (λ within. let small : captured ≤ 262144 = grind (arith, nat_tests, short) in small)))

packet_short : (walk : Walk) (block : Block) (interface : Interface) (moment : Option Moment) (original captured : ℕ) → IsShort (packet_of walk block interface moment original captured)
packet_short walk block interface moment original captured = packet_by walk block interface moment original captured _ refl

enhanced_by : (walk : Walk) (block : Block) (front : List ℕ) (found : Option Interface) → slice_get walk.section.interfaces (number_at walk.section.swapped 0 4 front) ≡ found
    → IsShort (enhanced_of walk block front)
unfolding enhanced_of
enhanced_by walk block front None is = rw (enhanced_of, is) tt
enhanced_by walk block front (Some interface) is = rw (enhanced_of, is) (packet_short walk block interface _ _ _)

simple_by : (walk : Walk) (block : Block) (front : List ℕ) (found : Option Interface) → slice_get walk.section.interfaces 0 ≡ found → IsShort (simple_of walk block front)
unfolding simple_of
simple_by walk block front None is = rw (simple_of, is) tt
simple_by walk block front (Some interface) is = rw (simple_of, is) (packet_short walk block interface _ _ _)

section_short : (walk : Walk) (front : List ℕ) → IsShort (section_of walk front)
unfolding section_of
section_short walk front = choice (number_at walk.section.swapped 0 2 front == 1) _ _ tt (λ other. tt)

interface_short : (walk : Walk) (front : List ℕ) → IsShort (interface_of walk front)
unfolding interface_of
interface_short walk front = choice (nat_le 4096 (length walk.section.interfaces)) _ _ tt (λ few. tt)

content_short : (walk : Walk) (which : BlockKind) (total : ℕ) (front : List ℕ) → IsShort (content_of walk (record { kind = which; total = total }) front)
unfolding content_of
content_short walk kind.Section total front = section_short walk front
content_short walk kind.Interface total front = interface_short walk front
content_short walk kind.Simple total front = simple_by walk _ front _ refl
content_short walk kind.Enhanced total front = enhanced_by walk _ front _ refl
content_short walk kind.Other total front = tt

-- what a block gives fits
abbrev FitsStep : Step → Type 0
FitsStep (Stops ending) = ⊤
FitsStep (Skips walk more) = AllFit 1 more
FitsStep (Gives given walk more) = FitsCaptured given.item × AllFit 1 more

either : (test : Bool) (x y : Step) → FitsStep x → FitsStep y → FitsStep (if test then x else y)
either true x y one other = one
either false x y one other = other

interface_fits : (walk : Walk) (block : Block) (link snaplen : ℕ) (inner more : List ℕ) (told : Option Resolution) → resolution_told walk.section.swapped inner ≡ told
    → AllFit 1 more → FitsStep (given_by walk block (content.Interface link snaplen) inner more)
interface_fits walk block link snaplen inner more None is all = subst FitsStep (sym (given-no_resolution walk block link snaplen inner more is)) tt
interface_fits walk block link snaplen inner more (Some resolution) is all =
    subst FitsStep (sym (given-interface walk block link snaplen inner more resolution is)) all

given_fits : (walk : Walk) (block : Block) (told : BlockContent) (inner more : List ℕ) → IsShort (Ok told) → AllFit 1 inner → AllFit 1 more → FitsStep (given_by walk block told inner more)
unfolding given_by
given_fits walk block content.Skipped inner more short own all = all
given_fits walk block (content.Interface link snaplen) inner more short own all = interface_fits walk block link snaplen inner more _ refl all
given_fits walk block (content.Packet packet) inner more short own all =
    let few : packet.captured ≤ 262144 = short in
    let less : length (take packet.captured inner) ≤ 262144 = omega (arith, few, length-take packet.captured inner) in
    (record { short = less; bytes = All-take IsByte packet.captured inner own }, all)

closing_fits : (walk : Walk) (block : Block) (told : BlockContent) (after : List ℕ) → IsShort (Ok told) → AllFit 1 after → FitsStep (closing walk block told after)
unfolding closing
closing_fits walk block told after short all =
    either (nat_lt (length after) (inner_length block + 4)) _ _ tt
    (either (number_at walk.section.swapped 0 4 (drop (inner_length block) after) == block.total) _ _
    (given_fits walk block told (take (inner_length block) after) (drop (inner_length block + 4) after) short
    (All-take IsByte (inner_length block) after all) (All-drop IsByte (inner_length block + 4) after all)) tt)

fronted_fits : (walk : Walk) (block : Block) (front after : List ℕ) (told : Result BlockContent NgFault) → content_of walk block front ≡ told → AllFit 1 after
    → FitsStep (fronted walk block front after)
fronted_fits walk block front after (Err why) is all = subst FitsStep (sym (fronted-err walk block front why is after)) tt
fronted_fits walk block front after (Ok told) is all =
    let short : IsShort (Ok told) = subst IsShort is (content_short walk block.kind block.total front) in
    subst FitsStep (sym (fronted-ok walk block front told is after)) (closing_fits walk block told after short all)

known_fits : (walk : Walk) (block : Block) (body : List ℕ) → AllFit 1 body → FitsStep (known walk block body)
unfolding known
known_fits walk block body all =
    either (is_sized block) _ _
    (either (nat_lt (length body) (front_length block.kind)) _ _ tt
    (fronted_fits walk block (take (front_length block.kind) body) (drop (front_length block.kind) body) _ refl (All-drop IsByte (front_length block.kind) body all)))
    tt

section_fits : (walk : Walk) (first body : List ℕ) (order : Option Bool) → order_of (take 4 body) ≡ order → AllFit 1 body → FitsStep (section_begun walk first body)
unfolding section_begun
section_fits walk first body None is all = either (nat_lt (length body) 4) _ _ tt (rw is tt)
section_fits walk first body (Some swapped) is all =
    either (nat_lt (length body) 4) _ _ tt (rw is (known_fits (new_section walk swapped) (section_block swapped first) (drop 4 body) (All-drop IsByte 4 body all)))

begun_fits : (walk : Walk) (first body : List ℕ) → AllFit 1 body → FitsStep (begun walk first body)
unfolding begun
begun_fits walk first body all =
    either (number_at false 0 4 first == section_type) _ _ (section_fits walk first body _ refl all)
    (known_fits walk (other_block walk.section.swapped first) body all)

step_fits : (walk : Walk) (rest : List ℕ) → AllFit 1 rest → FitsStep (step_of walk rest)
unfolding step_of
step_fits walk rest all =
    either (length rest == 0) _ _ tt (either (is_full walk) _ _ tt (either (nat_lt (length rest) 8) _ _ tt
    (begun_fits walk (take 8 rest) (drop 8 rest) (All-drop IsByte 8 rest all))))

-- what comes next fits
abbrev FitsNext : Next → Type 0
FitsNext (Ends ending) = ⊤
FitsNext (Follows given walk more) = FitsCaptured given.item × AllFit 1 more

along_by : (most : ℕ) (walk : Walk) (rest : List ℕ) (step : Step) → step_of walk rest ≡ step → FitsStep step
    → ((w : Walk) (more : List ℕ) → AllFit 1 more → FitsNext (next_along most w more)) → FitsNext (next_along (suc most) walk rest)
unfolding next_along
along_by most walk rest (Stops ending) is fits on = rw (next_along, is) tt
along_by most walk rest (Skips after more) is fits on = rw (next_along, is) (on after more fits)
along_by most walk rest (Gives given after more) is fits on = rw (next_along, is) fits

along_fits : (most : ℕ) (walk : Walk) (rest : List ℕ) → AllFit 1 rest → FitsNext (next_along most walk rest)
unfolding next_along
along_fits zero walk rest all = tt
along_fits (suc most) walk rest all = along_by most walk rest (step_of walk rest) refl (step_fits walk rest all) (λ w more fit. along_fits most w more fit)

next_of_fits : (walk : Walk) (rest : List ℕ) → AllFit 1 rest → FitsNext (next_of walk rest)
unfolding next_of
next_of_fits walk rest all = along_fits (length rest + 1) walk rest all

-- a record of blocks
abbrev pub FitsGiven : NgRecord → Type 0
FitsGiven given = FitsCaptured given.item

blocks_by : (most : ℕ) (walk : Walk) (rest : List ℕ) (next : Next) → next_of walk rest ≡ next → FitsNext next
    → ((w : Walk) (more : List ℕ) → AllFit 1 more → All FitsGiven (cut_up most w more).records) → All FitsGiven (cut_up (suc most) walk rest).records
unfolding cut_up
blocks_by most walk rest (Ends ending) is fits on = rw (cut_up, is) (All-nil FitsGiven)
blocks_by most walk rest (Follows given after more) is fits on =
    rw (cut_up, is) (All-cons FitsGiven given (cut_up most after more).records fits.0 (on after more fits.1))

blocks_cut_fits : (most : ℕ) (walk : Walk) (rest : List ℕ) → AllFit 1 rest → All FitsGiven (cut_up most walk rest).records
unfolding cut_up
blocks_cut_fits zero walk rest all = All-nil FitsGiven
blocks_cut_fits (suc most) walk rest all =
    blocks_by most walk rest (next_of walk rest) refl (next_of_fits walk rest all) (λ w more fit. blocks_cut_fits most w more fit)

-- the records of blocks
pub blocks_fit : (walk : Walk) (rest : List ℕ) → AllFit 1 rest → All FitsGiven (records_left walk rest).records
unfolding records_left
blocks_fit walk rest all = blocks_cut_fits (length rest + 1) walk rest all
