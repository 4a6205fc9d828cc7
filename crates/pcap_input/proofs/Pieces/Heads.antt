-- What the file header's bytes say of the head, and which refusals it may have.
use Rattle.std.proofs.Common.{◌≡◌, ℕ, ◌<◌, Bool, true, false, List, Option, Some, None, Result, Ok, Err, length, drop, refl, sym, ap, ◌∙◌, arith}
use Rattle.std.specs.Prelude.{if◌then◌else◌, nat_lt, ◌==◌, ◌%◌, ⊤, IfErr, OnOk}
use Rattle.std.proofs.lemmas.List.{drop_at}
use Rattle.std.proofs.lemmas.Bool.Decides.{nat_tests}
use Rattle.edge_io.specs.Told.{before}
use Rattle.edge_io.specs.Files.{Files, IsOpened}
use Rattle.pcap_input.specs.declared.capture.CaptureHead.{CaptureHead}
use Rattle.pcap_input.specs.declared.capture.CaptureFault.{CaptureFault}
use Rattle.pcap_input.specs.declared.capture.CaptureFault.TheVariants.{NotPcap, LinkType, Truncated, TooLong, TooMany, Failed, NoMemory}
use Rattle.pcap_input.specs.Savefile.{number_at, head_with, head_after, head_of}
use Rattle.pcap_input.specs.Reader.{IsOfHead, Tells}
use Rattle.pcap_input.specs.Pieces.{Reads}
use Rattle.pcap_input.proofs.Told.{split_told}
use Rattle.pcap_input.proofs.Laws.{head_of-append}

-- a fault of a file header alone
abbrev IsRefusedHead : CaptureFault → Type 0
IsRefusedHead NotPcap = ⊤
IsRefusedHead (LinkType link_type) = ⊤
IsRefusedHead (Truncated place) = place ≡ 0
IsRefusedHead (TooLong place len) = ⊥
IsRefusedHead TooMany = ⊥
IsRefusedHead Failed = ⊥
IsRefusedHead NoMemory = ⊥

either : (test : Bool) (x y : Result CaptureHead CaptureFault) → IfErr x IsRefusedHead → IfErr y IsRefusedHead → IfErr (if test then x else y) IsRefusedHead
either true x y one other = one
either false x y one other = other

head_with_refuses : (swapped nanos : Bool) (link_type : ℕ) → IfErr (head_with swapped nanos link_type) IsRefusedHead
unfolding head_with
head_with_refuses swapped nanos link_type =
    either (link_type == 1) _ _ tt (either (link_type == 101) _ _ tt (either (link_type == 113) _ _ tt tt))

head_after_refuses : (swapped nanos : Bool) (bytes : List ℕ) → IfErr (head_after swapped nanos bytes) IsRefusedHead
unfolding head_after
head_after_refuses swapped nanos bytes =
    either (number_at swapped 4 2 bytes == 2) _ _ (head_with_refuses swapped nanos (number_at swapped 20 4 bytes % 65536)) tt

head_of_refuses : (bytes : List ℕ) → IfErr (head_of bytes) IsRefusedHead
unfolding head_of
head_of_refuses bytes =
    either (nat_lt (length bytes) 24) _ _ refl
    (either (number_at false 0 4 bytes == 0xa1b2_c3d4) _ _ (head_after_refuses false false bytes)
    (either (number_at false 0 4 bytes == 0xa1b2_3c4d) _ _ (head_after_refuses false true bytes)
    (either (number_at true 0 4 bytes == 0xa1b2_c3d4) _ _ (head_after_refuses true false bytes)
    (either (number_at true 0 4 bytes == 0xa1b2_3c4d) _ _ (head_after_refuses true true bytes) tt))))

refused_kind : (why : CaptureFault) → IsRefusedHead why → IsOfHead why
refused_kind NotPcap is = tt
refused_kind (LinkType link_type) is = tt
refused_kind (Truncated place) is = is
refused_kind (TooLong place len) is = absurd is
refused_kind TooMany is = absurd is
refused_kind Failed is = absurd is
refused_kind NoMemory is = absurd is

kinds_by : (answer : Result CaptureHead CaptureFault) → IfErr answer IsRefusedHead → IfErr answer IsOfHead
kinds_by (Ok head) is = tt
kinds_by (Err why) is = refused_kind why is

-- the refusals of a head are those of a file header
pub head_of_kinds : (bytes : List ℕ) → IfErr (head_of bytes) IsOfHead
head_of_kinds bytes = kinds_by (head_of bytes) (head_of_refuses bytes)

not_failed_by : (answer : Result CaptureHead CaptureFault) → IfErr answer IsRefusedHead → answer ≡ Err Failed → ⊥
not_failed_by (Ok head) is failed = cc
not_failed_by (Err NotPcap) is failed = cc
not_failed_by (Err (LinkType link_type)) is failed = cc
not_failed_by (Err (Truncated place)) is failed = cc
not_failed_by (Err (TooLong place len)) is failed = absurd is
not_failed_by (Err TooMany) is failed = absurd is
not_failed_by (Err Failed) is failed = absurd is
not_failed_by (Err NoMemory) is failed = absurd is

-- a head is never refused because the host failed
pub head_of_not_failed : (bytes : List ℕ) → head_of bytes ≡ Err Failed → ⊥
head_of_not_failed bytes = not_failed_by (head_of bytes) (head_of_refuses bytes)

-- fewer bytes than a file header
pub head_of_truncated : (bytes : List ℕ) → length bytes < 24 → head_of bytes ≡ Err (Truncated 0)
unfolding head_of
head_of_truncated bytes fewer =
    let test : nat_lt (length bytes) 24 ≡ true = grind (arith, nat_tests) in
    rw test refl

reads_same : (answer said : Result CaptureHead CaptureFault) → said ≡ answer → Reads answer said
reads_same (Ok head) said same = same
reads_same (Err NotPcap) said same = same
reads_same (Err (LinkType link_type)) said same = same
reads_same (Err (Truncated place)) said same = same
reads_same (Err (TooLong place len)) said same = same
reads_same (Err TooMany) said same = same
reads_same (Err Failed) said same = tt
reads_same (Err NoMemory) said same = same

-- 24 taken bytes have the head of all that was told
pub header_reads : (header : List ℕ) (answer : Result CaptureHead CaptureFault) (old new : Option (List ℕ)) → length header ≡ 24 → answer ≡ head_of header → old ≡ before header new
    → (bytes : List ℕ) → old ≡ Some bytes → Reads answer (head_of bytes)
header_reads header answer old new whole is took bytes told =
    let split = split_told old new header bytes took told in
    reads_same answer (head_of bytes) (ap head_of split.joined ∙ head_of-append header split.rest (omega arith) ∙ sym is)

pub answer_reads : (header : List ℕ) (answer : Result CaptureHead CaptureFault) → answer ≡ head_of header → Reads answer (head_of header)
answer_reads header answer is = reads_same answer (head_of header) (sym is)

on_ok : (answer : Result CaptureHead CaptureFault) (P : Type 0) → P → OnOk answer P
on_ok (Ok head) P holds = holds
on_ok (Err why) P holds = tt

-- 24 taken bytes leave what follows them
pub header_leaves : (header : List ℕ) (answer : Result CaptureHead CaptureFault) (old new : Option (List ℕ)) → length header ≡ 24 → old ≡ before header new
    → (bytes : List ℕ) → old ≡ Some bytes → OnOk answer (new ≡ Some (drop 24 bytes))
header_leaves header answer old new whole took bytes told =
    let split = split_told old new header bytes took told in
    on_ok answer _ (split.still ∙ ap Some (sym (ap (drop 24) split.joined ∙ drop_at header split.rest 24 whole)))

-- where contents are told, what was opened is what the name holds
pub tells_opened : (contents : Option Files) (name bytes : List ℕ) (left : Option (List ℕ)) → Tells contents name bytes → IsOpened contents name left → left ≡ Some bytes
tells_opened None name bytes left tells opened = absurd tells
tells_opened (Some files) name bytes left tells opened = opened.0 ∙ tells
