-- What the bytes after a fixed front show: the block is whole and ends with its total length, or not.
use Rattle.std.proofs.Common.{◌≡◌, ℕ, ◌+◌, ◌≤◌, Bool, true, false, List, [], ◌++◌, Option, Some, None, Ok, Err, length, take, drop, refl, sym, ap, subst, append_assoc, ◌∙◌, arith}
use Rattle.std.specs.Prelude.{if◌then◌else◌, nat_lt, ◌==◌}
use Rattle.std.proofs.lemmas.List.{append-nil, length-append, take_at, drop_at}
use Rattle.std.proofs.lemmas.Bool.Decides.{nat_tests}
use Rattle.edge_io.specs.Told.{before}
use Rattle.pcap_input.specs.Savefile.{number_at}
use Rattle.pcap_input.proofs.Laws.{number_at-append}
use Rattle.pcapng_input.specs.declared.capture.NgFault.{NgFault}
use Rattle.pcapng_input.specs.declared.capture.NgFault.TheVariants as fault
use Rattle.pcapng_input.specs.declared.block.Block.{Block}
use Rattle.pcapng_input.specs.declared.content.PacketBlock.{PacketBlock}
use Rattle.pcapng_input.specs.declared.content.BlockContent.{BlockContent}
use Rattle.pcapng_input.specs.declared.content.BlockContent.TheVariants as content
use Rattle.pcapng_input.specs.declared.resolution.Resolution.{Resolution}
use Rattle.pcapng_input.specs.declared.walk.Walk.{Walk}
use Rattle.pcapng_input.specs.declared.step.BlockRead.TheVariants as read
use Rattle.pcapng_input.specs.Options.{resolution_told}
use Rattle.pcapng_input.specs.Blocks.{Skips, Gives, refused, bad_block, inner_length, after_block, after_interface, after_packet, record_of, given_by, closing}
use Rattle.pcapng_input.specs.Steps.{TakesLess, TakesLast, HoldsNone, Shows}
use Rattle.pcapng_input.proofs.Blocks.Taking.{took_after, less_within}
use Rattle.pcapng_input.proofs.Blocks.Stages.{CutsBelow, shows_cut, shows_refused, shows_skipped, shows_given, shows_lacking}

-- fewer bytes than the block has
pub closing_cuts : (walk : Walk) (block : Block) (told : BlockContent) → CutsBelow (closing walk block told) walk.at (inner_length block + 4)
unfolding closing
closing_cuts walk block told bytes fewer =
    let test : nat_lt (length bytes) (inner_length block + 4) ≡ true = grind (arith, nat_tests) in
    rw test refl

-- the block whole: its last four bytes are its total length or not
pub closing_whole : (walk : Walk) (block : Block) (told : BlockContent) (inner last more : List ℕ) (same : Bool)
    → length inner ≡ inner_length block → length last ≡ 4 → (number_at walk.section.swapped 0 4 last == block.total) ≡ same
    → closing walk block told ((inner ++ last) ++ more) ≡ (if same then given_by walk block told inner more else refused (bad_block walk))
unfolding closing
closing_whole walk block told inner last more same size four tells =
    let all = (inner ++ last) ++ more in
    let long : length all ≡ (inner_length block + 4) + length more = omega (arith, length-append (inner ++ last) more, length-append inner last) in
    let test : nat_lt (length all) (inner_length block + 4) ≡ false = grind (arith, nat_tests) in
    let at_last : drop (inner_length block) all ≡ last ++ more = ap (drop (inner_length block)) (append_assoc inner last more) ∙ drop_at inner (last ++ more) (inner_length block) size in
    let number : number_at walk.section.swapped 0 4 (drop (inner_length block) all) ≡ number_at walk.section.swapped 0 4 last =
    ap (number_at walk.section.swapped 0 4) at_last ∙ number_at-append walk.section.swapped 0 4 last more (omega arith) in
    let front : take (inner_length block) all ≡ inner = ap (take (inner_length block)) (append_assoc inner last more) ∙ take_at inner (last ++ more) (inner_length block) size in
    let back : drop (inner_length block + 4) all ≡ more = drop_at (inner ++ last) more (inner_length block + 4) (omega (arith, length-append inner last)) in
    rw (test, number, tells, front, back) refl

-- some of a block's inner bytes were taken, and then the rest and the last four
pub record Whole (walk : Walk) (block : Block) (told : BlockContent) (same : Bool) (inner : List ℕ) (old new : Option (List ℕ)) : Type 0 where
  pub taken : List ℕ
  pub took : old ≡ before taken new
  pub is : (more : List ℕ) → closing walk block told (taken ++ more) ≡ (if same then given_by walk block told inner more else refused (bad_block walk))

pub whole : (walk : Walk) (block : Block) (told : BlockContent) (same : Bool) (len : ℕ) (front : List ℕ) (old mid new : Option (List ℕ))
    → old ≡ before front mid → length front + len ≡ inner_length block → (last : TakesLast walk.section.swapped block.total len same mid new)
    → Whole walk block told same (front ++ last.passed) old new
whole walk block told same len front old mid new took fits last = record {
  taken = (front ++ last.passed) ++ last.last;
  took = took_after front (last.passed ++ last.last) old mid new took last.took ∙ ap (λ (xs : List ℕ). before xs new) (sym (append_assoc front last.passed last.last));
  is = λ more. closing_whole walk block told (front ++ last.passed) last.last more same (omega (arith, length-append front last.passed, last.size)) last.four last.tells;
}

-- the block was cut short
pub closing_less : (walk new_walk : Walk) (block : Block) (told : BlockContent) (len : ℕ) (why : NgFault) (old new : Option (List ℕ))
    → len ≤ inner_length block + 4 → TakesLess walk.at len why old new → Shows (closing walk block told) new_walk (Err why) old new
closing_less walk new_walk block told len why old new fits less =
    shows_cut (closing walk block told) new_walk walk.at (inner_length block + 4) why old new (closing_cuts walk block told)
    (less_within walk.at len (inner_length block + 4) why old new fits less)

-- a block is refused whose last four bytes are another number
pub closing_differs : (walk new_walk : Walk) (block : Block) (told : BlockContent) (inner : List ℕ) (old new : Option (List ℕ))
    → Whole walk block told false inner old new → Shows (closing walk block told) new_walk (Err (bad_block walk)) old new
closing_differs walk new_walk block told inner old new all = shows_refused (closing walk block told) new_walk (bad_block walk) all.taken old new all.took all.is

-- a whole block is what its inner bytes give
pub closing_refused : (walk new_walk : Walk) (block : Block) (told : BlockContent) (inner : List ℕ) (why : NgFault) (old new : Option (List ℕ))
    → Whole walk block told true inner old new → ((more : List ℕ) → given_by walk block told inner more ≡ refused why)
    → Shows (closing walk block told) new_walk (Err why) old new
closing_refused walk new_walk block told inner why old new all is =
    shows_refused (closing walk block told) new_walk why all.taken old new all.took (λ more. all.is more ∙ is more)

pub closing_skipped : (walk new_walk : Walk) (block : Block) (told : BlockContent) (inner : List ℕ) (old new : Option (List ℕ))
    → Whole walk block told true inner old new → ((more : List ℕ) → given_by walk block told inner more ≡ Skips new_walk more)
    → Shows (closing walk block told) new_walk (Ok read.Skipped) old new
closing_skipped walk new_walk block told inner old new all is =
    shows_skipped (closing walk block told) new_walk all.taken old new all.took (λ more. all.is more ∙ is more)

pub closing_lacking : (walk new_walk after : Walk) (block : Block) (told : BlockContent) (inner : List ℕ) (old new : Option (List ℕ))
    → Whole walk block told true inner old new → ((more : List ℕ) → given_by walk block told inner more ≡ Skips after more)
    → Shows (closing walk block told) new_walk (Err fault.NoMemory) old new
closing_lacking walk new_walk after block told inner old new all is =
    let skips : closing walk block told all.taken ≡ Skips after [] = ap (closing walk block told) (sym (append-nil all.taken)) ∙ all.is [] ∙ is [] in
    shows_lacking (closing walk block told) new_walk all.taken old new all.took (subst HoldsNone (sym skips) refl)

-- a block that is skipped
pub given-skipped : (walk : Walk) (block : Block) (inner more : List ℕ) → given_by walk block content.Skipped inner more ≡ Skips (after_block walk block) more
unfolding given_by
given-skipped walk block inner more = refl

-- an interface, or options that are none
pub given-interface : (walk : Walk) (block : Block) (link snaplen : ℕ) (inner more : List ℕ) (resolution : Resolution) → resolution_told walk.section.swapped inner ≡ Some resolution
    → given_by walk block (content.Interface link snaplen) inner more
    ≡ Skips (after_interface walk block (record { link = link; snaplen = snaplen; resolution = resolution })) more
unfolding given_by
given-interface walk block link snaplen inner more resolution is = rw (given_by, is) refl

pub given-no_resolution : (walk : Walk) (block : Block) (link snaplen : ℕ) (inner more : List ℕ) → resolution_told walk.section.swapped inner ≡ None
    → given_by walk block (content.Interface link snaplen) inner more ≡ refused (bad_block walk)
unfolding given_by
given-no_resolution walk block link snaplen inner more is = rw (given_by, is) refl

-- a packet, whose captured bytes come first
pub given-packet : (walk : Walk) (block : Block) (packet : PacketBlock) (bytes passed more : List ℕ) → length bytes ≡ packet.captured
    → given_by walk block (content.Packet packet) (bytes ++ passed) more ≡ Gives (record_of walk packet bytes) (after_packet walk block packet) more
unfolding given_by
given-packet walk block packet bytes passed more size =
    let front = take_at bytes passed packet.captured size in
    rw front refl

pub closing_packet : (walk : Walk) (block : Block) (packet : PacketBlock) (bytes passed : List ℕ) (old new : Option (List ℕ)) → length bytes ≡ packet.captured
    → Whole walk block (content.Packet packet) true (bytes ++ passed) old new
    → Shows (closing walk block (content.Packet packet)) (after_packet walk block packet) (Ok (read.Record (record_of walk packet bytes))) old new
closing_packet walk block packet bytes passed old new size all =
    shows_given (closing walk block (content.Packet packet)) (after_packet walk block packet) (record_of walk packet bytes) all.taken old new all.took
    (λ more. all.is more ∙ given-packet walk block packet bytes passed more size)
