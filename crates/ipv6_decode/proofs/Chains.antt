-- Whole chains of extension headers, as a sender writes them (RFC 8200, section 4.1): a walk goes
-- over every chain of at most eight headers, whatever they hold, and a longer one is malformed.
use Rattle.std.proofs.Common.{◌≡◌, ℕ, zero, suc, ◌+◌, ◌*◌, ◌<◌, ◌≤◌, List, [], ◌∷◌, ◌++◌, length, true, false, ◌||◌, nat_lt, ◌==◌}
use Rattle.std.proofs.Common.{Ok, Err, refl, sym, ap, ◌∙◌, arith, length-append, append_assoc, append-nil}
use Rattle.std.proofs.lemmas.List.{get_or_at, get_or-append-add}
use Rattle.std.proofs.lemmas.Bool.{le-ltb}
use Rattle.std.proofs.lemmas.Bool.Decides.{nat_tests}
use Rattle.edge_io.specs.Bytes.{byte_at}
use Rattle.packet_decode.specs.declared.skip.Skip.TheVariants.{Malformed}
use Rattle.packet_decode.specs.declared.packet.IpHead.{IpHead}
use Rattle.ipv6_decode.specs.declared.walk.HeaderWalk.{HeaderWalk}
use Rattle.ipv6_decode.specs.Headers.{has_length_field, is_at_header, after_length_field, after_header, walk_end}
use Rattle.ipv6_decode.proofs.Walks.{ended, too_many, over}

-- an extension header with a length field: its number, its length field, and what it holds after
-- it
pub record Extension : Type 0 where
  pub number : ℕ
  pub units : ℕ
  pub content : List ℕ

-- the extension is one of the three kinds, and has 8 bytes for each unit beside the first 8
pub record IsExtension (header : Extension) : Type 0 where
  pub number : has_length_field header.number ≡ true
  pub size : length header.content ≡ 6 + 8 * header.units

abbrev pub AreExtensions : List Extension → Type 0
AreExtensions [] = Unit {0}
AreExtensions (header ∷ headers) = IsExtension header × AreExtensions headers

-- the number by which what is before a chain names what follows
abbrev pub first_number : List Extension → ℕ → ℕ
first_number [] next = next
first_number (header ∷ headers) next = header.number

-- the bytes of a header, after which comes what this number names
abbrev pub header_bytes : Extension → ℕ → List ℕ
header_bytes header next = next ∷ header.units ∷ header.content

-- the bytes of a chain, after which comes what this number names
abbrev pub chain_bytes : List Extension → ℕ → List ℕ
chain_bytes [] next = []
chain_bytes (header ∷ headers) next = header_bytes header (first_number headers next) ++ chain_bytes headers next

-- a walk that is after some bytes, before what the number names
abbrev pub walk_after : IpHead → ℕ → List ℕ → HeaderWalk
walk_after head next before = record { head = record head { protocol = next }; place = length before; is_part = false }

-- a header with a length field is no fragment header
not_fragment : (number : ℕ) → has_length_field number ≡ true → (number == 44) ≡ false
not_fragment number is = grind (arith, nat_tests)

-- where a head names a header with a length field, such a header is at the place
there : (head : IpHead) (number : ℕ) (before : List ℕ) → has_length_field number ≡ true → is_at_header (walk_after head number before) ≡ true
there head number before is = rw is refl

-- a walk goes over one header
over_one : (head : IpHead) (header : Extension) (next : ℕ) (before after : List ℕ) → IsExtension header
    → after_header (walk_after head header.number before) (before ++ (header_bytes header next ++ after)) ≡ Ok (walk_after head next (before ++ header_bytes header next))
unfolding after_header after_length_field
over_one head header next before after good =
    let other : (header.number == 44) ≡ false = not_fragment header.number good.number in
    let all : length (before ++ (header_bytes header next ++ after)) ≡ length before + (8 + 8 * header.units + length after) =
    omega (arith, length-append before (header_bytes header next ++ after), length-append (header_bytes header next) after, good.size) in
    let field : nat_lt (length (before ++ (header_bytes header next ++ after))) (length before + 2) ≡ false = le-ltb _ _ (omega arith) in
    let number : byte_at (before ++ (header_bytes header next ++ after)) (length before) ≡ next = get_or_at before next (header.units ∷ (header.content ++ after)) 0 (length before) refl in
    let units : byte_at (before ++ (header_bytes header next ++ after)) (length before + 1) ≡ header.units = get_or-append-add before (header_bytes header next ++ after) 1 0 in
    let whole : nat_lt (length (before ++ (header_bytes header next ++ after))) (length before + 8 + 8 * header.units) ≡ false = le-ltb _ _ (omega arith) in
    let end : length (before ++ header_bytes header next) ≡ length before + 8 + 8 * header.units = omega (arith, length-append before (header_bytes header next), good.size) in
    rw (other, field, units, whole, number, end) refl

-- a walk over a chain goes over its first header
over_first : (head : IpHead) (header : Extension) (headers : List Extension) (left next : ℕ) (before after : List ℕ)
    → IsExtension header
    → walk_end (suc left) (walk_after head header.number before) (before ++ (chain_bytes (header ∷ headers) next ++ after))
    ≡ walk_end left (walk_after head (first_number headers next) (before ++ header_bytes header (first_number headers next)))
    ((before ++ header_bytes header (first_number headers next)) ++ (chain_bytes headers next ++ after))
over_first head header headers left next before after good =
    let here : List ℕ = header_bytes header (first_number headers next) in
    let later : List ℕ = chain_bytes headers next in
    let walk : HeaderWalk = walk_after head header.number before in
    let beyond : HeaderWalk = walk_after head (first_number headers next) (before ++ here) in
    ap (λ (bytes : List ℕ). walk_end (suc left) walk (before ++ bytes)) (append_assoc here later after)
    ∙ over left walk beyond (before ++ (here ++ (later ++ after))) (there head header.number before good.number) (over_one head header (first_number headers next) before (later ++ after) good)
    ∙ ap (λ (bytes : List ℕ). walk_end left beyond bytes) (sym (append_assoc before here (later ++ after)))

-- a chain of at most `left` headers is gone over whole, up to what is no extension header
pub walk_end-chain : (headers : List Extension) (left : ℕ) (head : IpHead) (next : ℕ) (before after : List ℕ)
    → AreExtensions headers
    → length headers ≤ left
    → (has_length_field next || next == 44) ≡ false
    → walk_end left (walk_after head (first_number headers next) before) (before ++ (chain_bytes headers next ++ after)) ≡
    Ok (walk_after head next (before ++ chain_bytes headers next))
walk_end-chain [] left head next before after good few last =
    ended left (walk_after head next before) (before ++ after) (rw last refl)
    ∙ ap (λ (bytes : List ℕ). Ok (walk_after head next bytes)) (sym (append-nil before))
walk_end-chain (header ∷ headers) zero head next before after good few last = absurd (omega arith)
walk_end-chain (header ∷ headers) (suc left) head next before after good few last =
    over_first head header headers left next before after good.0
    ∙ walk_end-chain headers left head next (before ++ header_bytes header (first_number headers next)) after good.1 (omega arith) last
    ∙ ap (λ (bytes : List ℕ). Ok (walk_after head next bytes)) (append_assoc before (header_bytes header (first_number headers next)) (chain_bytes headers next))

-- a chain of more headers is malformed
pub walk_end-long_chain : (headers : List Extension) (left : ℕ) (head : IpHead) (next : ℕ) (before after : List ℕ) → AreExtensions headers → left < length headers
    → walk_end left (walk_after head (first_number headers next) before) (before ++ (chain_bytes headers next ++ after)) ≡ Err Malformed
walk_end-long_chain [] left head next before after good many = absurd (omega arith)
walk_end-long_chain (header ∷ headers) zero head next before after good many =
    too_many (walk_after head header.number before) (before ++ (chain_bytes (header ∷ headers) next ++ after)) (there head header.number before good.0.number)
walk_end-long_chain (header ∷ headers) (suc left) head next before after good many =
    over_first head header headers left next before after good.0
    ∙ walk_end-long_chain headers left head next (before ++ header_bytes header (first_number headers next)) after good.1 (omega arith)
