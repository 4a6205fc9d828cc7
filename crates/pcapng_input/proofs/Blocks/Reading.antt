-- What each step of reading a block shows, from what it took and what the steps after it show.
use Rattle.std.proofs.Common.{◌≡◌, ℕ, ◌+◌, ◌<◌, ◌≤◌, Bool, true, false, List, [], ◌++◌, Option, Some, None, Result, Ok, Err, length, refl, ap, subst, ◌∙◌, arith}
use Rattle.std.specs.Prelude.{nat_lt, nat_le, ◌==◌, ◌&&◌}
use Rattle.std.proofs.lemmas.List.{append-nil, length-append, nil_from_length}
use Rattle.std.proofs.lemmas.Bool.Decides.{nat_tests}
use Rattle.edge_io.specs.Told.{before, NothingLeft}
use Rattle.pcap_input.specs.Savefile.{number_at}
use Rattle.pcap_input.proofs.Told.{none_taken}
use Rattle.pcapng_input.specs.declared.capture.NgFault.{NgFault}
use Rattle.pcapng_input.specs.declared.capture.NgFault.TheVariants as fault
use Rattle.pcapng_input.specs.declared.block.Block.{Block}
use Rattle.pcapng_input.specs.declared.content.BlockContent.{BlockContent}
use Rattle.pcapng_input.specs.declared.walk.Walk.{Walk}
use Rattle.pcapng_input.specs.declared.step.BlockRead.{BlockRead}
use Rattle.pcapng_input.specs.declared.step.BlockRead.TheVariants as read
use Rattle.pcapng_input.specs.Blocks.{section_type, Step, bad_block, front_length, is_sized, inner_length, order_of, first_walk}
use Rattle.pcapng_input.specs.Blocks.{new_section, content_of, closing, known, section_block, other_block, section_begun, begun}
use Rattle.pcapng_input.specs.Blocks.{is_full, step_of, opening}
use Rattle.pcapng_input.specs.Steps.{TakesLess, TakesLast, HoldsNone, Shows}
use Rattle.pcapng_input.proofs.Blocks.Taking.{nothing_rest}
use Rattle.pcapng_input.proofs.Blocks.Stages.{shows_after, shows_cut, shows_refused}
use Rattle.pcapng_input.proofs.Blocks.Closing.{Whole, whole}
use Rattle.pcapng_input.proofs.Blocks.Begins.{fronted-err, fronted-ok, known_bad, known_cuts, known_fronted, section_cuts}
use Rattle.pcapng_input.proofs.Blocks.Begins.{section_none, section_known, begun_section, begun_other, step_nothing, step_full}
use Rattle.pcapng_input.proofs.Blocks.Begins.{step_cut, step_begun, step_few}
use Rattle.pcapng_input.proofs.Blocks.Openings.{opening_short, opening_other, opening_cut, magic_cuts, magic_none, magic_known}

-- all of a block's inner bytes were taken before the last four
pub whole_front : (walk : Walk) (block : Block) (told : BlockContent) (same : Bool) (front : List ℕ) (old mid new : Option (List ℕ))
    → old ≡ before front mid → length front ≡ inner_length block → TakesLast walk.section.swapped block.total 0 same mid new → Whole walk block told same front old new
whole_front walk block told same front old mid new took size last =
    let fits : length front + 0 ≡ inner_length block = omega (arith, size) in
    subst (λ (inner : List ℕ). Whole walk block told same inner old new) (ap (λ xs. front ++ xs) (nil_from_length last.passed last.size) ∙ append-nil front)
    (whole walk block told same 0 front old mid new took fits last)

-- one stage is another
shows_same : (stage next : List ℕ → Step) (walk : Walk) (answer : Result BlockRead NgFault) (old new : Option (List ℕ))
    → ((more : List ℕ) → stage more ≡ next more) → Shows next walk answer old new → Shows stage walk answer old new
shows_same stage next walk answer old new is shown = shows_after stage next walk answer [] old old new is (none_taken old) shown

-- a block from its fixed front on
pub known_unsized : (walk new_walk : Walk) (block : Block) (old : Option (List ℕ)) → is_sized block ≡ false → Shows (known walk block) new_walk (Err (bad_block walk)) old old
known_unsized walk new_walk block old is = shows_refused (known walk block) new_walk (bad_block walk) [] old old (none_taken old) (known_bad walk block is)

pub known_less : (walk new_walk : Walk) (block : Block) (len : ℕ) (why : NgFault) (old new : Option (List ℕ)) → is_sized block ≡ true → TakesLess walk.at len why old new
    → len ≡ front_length block.kind → Shows (known walk block) new_walk (Err why) old new
known_less walk new_walk block len why old new is less same =
    shows_cut (known walk block) new_walk walk.at (front_length block.kind) why old new (known_cuts walk block is) (subst (λ (n : ℕ). TakesLess walk.at n why old new) same less)

pub known_refused : (walk new_walk : Walk) (block : Block) (front : List ℕ) (why : NgFault) (old new : Option (List ℕ)) → is_sized block ≡ true → length front ≡ front_length block.kind
    → content_of walk block front ≡ Err why → old ≡ before front new → Shows (known walk block) new_walk (Err why) old new
known_refused walk new_walk block front why old new is size told took =
    shows_refused (known walk block) new_walk why front old new took (λ more. known_fronted walk block front is size more ∙ fronted-err walk block front why told more)

pub known_closing : (walk new_walk : Walk) (block : Block) (front : List ℕ) (told : BlockContent) (answer : Result BlockRead NgFault) (old mid new : Option (List ℕ)) → is_sized block ≡ true
    → length front ≡ front_length block.kind → content_of walk block front ≡ Ok told → old ≡ before front mid → Shows (closing walk block told) new_walk answer mid new
    → Shows (known walk block) new_walk answer old new
known_closing walk new_walk block front told answer old mid new is size is_told took shown =
    shows_after (known walk block) (closing walk block told) new_walk answer front old mid new
    (λ more. known_fronted walk block front is size more ∙ fronted-ok walk block front told is_told more) took shown

-- what a step shows of a known block it shows of an equal walk and block
pub known_at : (walk like new_walk : Walk) (block other : Block) (answer : Result BlockRead NgFault) (old new : Option (List ℕ)) → walk ≡ like → block ≡ other
    → Shows (known walk block) new_walk answer old new → Shows (known like other) new_walk answer old new
known_at walk like new_walk block other answer old new same_walk same_block shown =
    subst (λ (b : Block). Shows (known like b) new_walk answer old new) same_block (subst (λ (w : Walk). Shows (known w block) new_walk answer old new) same_walk shown)

-- a section header from its magic on
pub section_less : (walk new_walk : Walk) (first : List ℕ) (why : NgFault) (old new : Option (List ℕ)) → TakesLess walk.at 4 why old new → Shows (section_begun walk first) new_walk (Err why) old new
section_less walk new_walk first why old new less = shows_cut (section_begun walk first) new_walk walk.at 4 why old new (section_cuts walk first) less

pub section_refused : (walk new_walk : Walk) (first magic : List ℕ) (old new : Option (List ℕ)) → length magic ≡ 4 → order_of magic ≡ None → old ≡ before magic new
    → Shows (section_begun walk first) new_walk (Err (bad_block walk)) old new
section_refused walk new_walk first magic old new size is took = shows_refused (section_begun walk first) new_walk (bad_block walk) magic old new took (section_none walk first magic size is)

pub section_on : (walk new_walk : Walk) (first magic : List ℕ) (swapped : Bool) (answer : Result BlockRead NgFault) (old mid new : Option (List ℕ)) → length magic ≡ 4 → order_of magic ≡ Some swapped
    → old ≡ before magic mid → Shows (known (new_section walk swapped) (section_block swapped first)) new_walk answer mid new → Shows (section_begun walk first) new_walk answer old new
section_on walk new_walk first magic swapped answer old mid new size is took shown =
    shows_after (section_begun walk first) (known (new_section walk swapped) (section_block swapped first)) new_walk answer magic
    old mid new
    (section_known walk first magic swapped size is) took shown

-- a block after its first eight bytes
pub begun_on_section : (walk new_walk : Walk) (first : List ℕ) (answer : Result BlockRead NgFault) (old new : Option (List ℕ)) → number_at false 0 4 first ≡ section_type
    → Shows (section_begun walk first) new_walk answer old new → Shows (begun walk first) new_walk answer old new
begun_on_section walk new_walk first answer old new is shown = shows_same (begun walk first) (section_begun walk first) new_walk answer old new (begun_section walk first is) shown

pub begun_on_other : (walk new_walk : Walk) (first : List ℕ) (answer : Result BlockRead NgFault) (old new : Option (List ℕ)) → (number_at false 0 4 first ≡ section_type → ⊥)
    → Shows (known walk (other_block walk.section.swapped first)) new_walk answer old new → Shows (begun walk first) new_walk answer old new
begun_on_other walk new_walk first answer old new differs shown =
    shows_same (begun walk first) (known walk (other_block walk.section.swapped first)) new_walk answer old new (begun_other walk first differs) shown

-- the block that comes next
pub step_failed : (walk new_walk : Walk) (taken : List ℕ) (old new : Option (List ℕ)) → length taken < 8 → old ≡ before taken new → Shows (step_of walk) new_walk (Err fault.Failed) old new
step_failed walk new_walk taken old new fewer took = record { taken = taken; took = took; shows = step_few walk taken fewer }

pub step_ended : (walk : Walk) (old new : Option (List ℕ)) → old ≡ new → NothingLeft new → Shows (step_of walk) walk (Ok read.End) old new
step_ended walk old new same nothing = record {
  taken = [];
  took = none_taken old ∙ ap (before []) same;
  shows = (record { shown = step_nothing walk; told = λ rest still. ap (step_of walk) (nothing_rest new rest nothing still) ∙ step_nothing walk }, λ more. refl);
}

pub step_too_many : (walk new_walk : Walk) (taken : List ℕ) (old new : Option (List ℕ)) → 0 < length taken → is_full walk ≡ true → old ≡ before taken new
    → Shows (step_of walk) new_walk (Err fault.TooMany) old new
step_too_many walk new_walk taken old new some full took =
    shows_refused (step_of walk) new_walk fault.TooMany taken old new took (λ more. step_full walk (taken ++ more) (omega (arith, length-append taken more)) full)

pub step_short : (walk new_walk : Walk) (taken : List ℕ) (old new : Option (List ℕ)) → 0 < length taken → length taken < 8 → is_full walk ≡ false → old ≡ before taken new → NothingLeft new
    → Shows (step_of walk) new_walk (Err (fault.Truncated walk.at)) old new
step_short walk new_walk taken old new some fewer room took nothing = record {
  taken = taken;
  took = took;
  shows = record {
    shown = step_cut walk taken some fewer room;
    told = λ rest still. ap (λ (xs : List ℕ). step_of walk (taken ++ xs)) (nothing_rest new rest nothing still) ∙ ap (step_of walk) (append-nil taken) ∙ step_cut walk taken some fewer room;
  };
}

pub step_on : (walk new_walk : Walk) (first : List ℕ) (answer : Result BlockRead NgFault) (old mid new : Option (List ℕ)) → length first ≡ 8 → is_full walk ≡ false → old ≡ before first mid
    → Shows (begun walk first) new_walk answer mid new → Shows (step_of walk) new_walk answer old new
step_on walk new_walk first answer old mid new size room took shown =
    shows_after (step_of walk) (begun walk first) new_walk answer first old mid new (step_begun walk first size room) took shown

-- the first block of a file
few_by : (bytes : List ℕ) (begins : Bool) → (nat_le 4 (length bytes) && (number_at false 0 4 bytes == section_type)) ≡ begins → length bytes < 12 → HoldsNone (opening bytes)
unfolding opening
few_by bytes true is fewer =
    let test : nat_lt (length bytes) 12 ≡ true = grind (arith, nat_tests) in
    rw (is, test) tt
few_by bytes false is fewer = rw is tt

pub first_failed : (new_walk : Walk) (taken : List ℕ) (old new : Option (List ℕ)) → length taken < 12 → old ≡ before taken new → Shows opening new_walk (Err fault.Failed) old new
first_failed new_walk taken old new fewer took = record { taken = taken; took = took; shows = few_by taken _ refl fewer }

pub first_short : (new_walk : Walk) (taken : List ℕ) (old new : Option (List ℕ)) → length taken < 4 → old ≡ before taken new → NothingLeft new → Shows opening new_walk (Err fault.NotPcapng) old new
first_short new_walk taken old new fewer took nothing = record {
  taken = taken;
  took = took;
  shows = record {
    shown = opening_short taken fewer;
    told = λ rest still. ap (λ (xs : List ℕ). opening (taken ++ xs)) (nothing_rest new rest nothing still) ∙ ap opening (append-nil taken) ∙ opening_short taken fewer;
  };
}

pub first_other : (new_walk : Walk) (taken : List ℕ) (old new : Option (List ℕ)) → 4 ≤ length taken → (number_at false 0 4 taken ≡ section_type → ⊥) → old ≡ before taken new
    → Shows opening new_walk (Err fault.NotPcapng) old new
first_other new_walk taken old new long differs took = shows_refused opening new_walk fault.NotPcapng taken old new took (opening_other taken long differs)

pub first_cut : (new_walk : Walk) (taken : List ℕ) (old new : Option (List ℕ))
    → 4 ≤ length taken
    → number_at false 0 4 taken ≡ section_type
    → length taken < 12
    → old ≡ before taken new
    → NothingLeft new
    → Shows opening new_walk (Err (fault.Truncated 0)) old new
first_cut new_walk taken old new long is fewer took nothing = record {
  taken = taken;
  took = took;
  shows = record {
    shown = opening_cut taken long is fewer;
    told = λ rest still. ap (λ (xs : List ℕ). opening (taken ++ xs)) (nothing_rest new rest nothing still) ∙ ap opening (append-nil taken) ∙ opening_cut taken long is fewer;
  };
}

pub first_less : (new_walk : Walk) (first : List ℕ) (why : NgFault) (old mid new : Option (List ℕ)) → length first ≡ 8 → number_at false 0 4 first ≡ section_type → old ≡ before first mid
    → TakesLess 0 4 why mid new → Shows opening new_walk (Err why) old new
first_less new_walk first why old mid new size is took less =
    shows_after opening (λ more. opening (first ++ more)) new_walk (Err why) first old mid new (λ more. refl) took
    (shows_cut (λ more. opening (first ++ more)) new_walk 0 4 why mid new (magic_cuts first size is) less)

pub first_none : (new_walk : Walk) (first magic : List ℕ) (old mid new : Option (List ℕ)) → length first ≡ 8 → number_at false 0 4 first ≡ section_type → length magic ≡ 4 → order_of magic ≡ None
    → old ≡ before first mid → mid ≡ before magic new → Shows opening new_walk (Err fault.NotPcapng) old new
first_none new_walk first magic old mid new size is four none took took_magic =
    shows_after opening (λ more. opening (first ++ more)) new_walk (Err fault.NotPcapng) first old mid new (λ more. refl) took
    (shows_refused (λ more. opening (first ++ more)) new_walk fault.NotPcapng magic mid new took_magic (magic_none first magic size is four none))

pub first_on : (new_walk : Walk) (first magic : List ℕ) (swapped : Bool) (answer : Result BlockRead NgFault)
    (old mid after new : Option (List ℕ))
    → length first ≡ 8
    → number_at false 0 4 first ≡ section_type
    → length magic ≡ 4
    → order_of magic ≡ Some swapped
    → old ≡ before first mid
    → mid ≡ before magic after
    → Shows (known (new_section first_walk swapped) (section_block swapped first)) new_walk answer after new
    → Shows opening new_walk answer old new
first_on new_walk first magic swapped answer old mid after new size is four some took took_magic shown =
    shows_after opening (λ more. opening (first ++ more)) new_walk answer first old mid new (λ more. refl) took
    (shows_after (λ more. opening (first ++ more)) (known (new_section first_walk swapped) (section_block swapped first)) new_walk answer magic mid after new
    (magic_known first magic swapped size is four some) took_magic shown)
