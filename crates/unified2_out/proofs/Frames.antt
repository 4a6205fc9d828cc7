-- Frames at the front of bytes: how long they are, what they read as, and that they are one.
use Rattle.std.proofs.Common.{◌≡◌, ℕ, ◌+◌, ◌^◌, ◌<◌, ◌≤◌, List, ◌++◌, length, take, drop, refl, sym, ap, ◌∙◌, length-append, arith}
use Rattle.std.proofs.lemmas.List.{length-take, length-drop, take-append-drop, take_at, drop_at, drop-drop}
use Rattle.byteorder.specs.Endian.{big_bytes, big_number}
use Rattle.byteorder.specs.Numbers.{big_from-lt, big_number-reads_back}
use Rattle.unified2_out.specs.Records.{frame_text, most_body_bytes}
use Rattle.unified2_out.specs.Fronts.{IsFrontFrame}
use Rattle.unified2_out.proofs.Numbers.{AreBytes, bytes-drop, bytes-first, number-split}

-- two lists of one length, with what follows them
append-split : (first second rest more : List ℕ) → length first ≡ length second → first ++ rest ≡ second ++ more → (first ≡ second) × (rest ≡ more)
append-split first second rest more sizes same = (
  sym (take_at first rest (length first) refl)
      ∙ ap (take (length first)) same
      ∙ take_at second more (length first) (sym sizes),
  sym (drop_at first rest (length first) refl)
      ∙ ap (drop (length first)) same
      ∙ drop_at second more (length first) (sym sizes),
)

-- a frame is as long as its header and its body
pub length-frame_text : (kind : ℕ) (body : List ℕ) → length (frame_text kind body) ≡ 8 + length body
unfolding frame_text
length-frame_text kind body = omega arith

-- two frames, with what follows them, are one where their bytes are
pub frame-split : (kind other : ℕ) (body second rest more : List ℕ) → kind < 256 ^ 4 → other < 256 ^ 4 → length body ≤ most_body_bytes → length second ≤ most_body_bytes
    → frame_text kind body ++ rest ≡ frame_text other second ++ more → (kind ≡ other) × (body ≡ second) × (rest ≡ more)
unfolding frame_text
frame-split kind other body second rest more fits as_well short as_short same =
    let kinds = number-split 4 kind other (big_bytes 4 (length body) ++ (body ++ rest)) (big_bytes 4 (length second) ++ (second ++ more)) fits as_well same in
    let sizes = number-split 4 (length body) (length second) (body ++ rest) (second ++ more) (omega arith) (omega arith) kinds.1 in
    let bodies = append-split body second rest more sizes.0 sizes.1 in
    (kinds.0, bodies.0, bodies.1)

-- the bytes of a frame are there
pub frame-long : (bytes : List ℕ) (kind : ℕ) (body : List ℕ) → IsFrontFrame bytes kind body → 8 + length body ≤ length bytes
frame-long bytes kind body front =
    let size = ap length front.is ∙ length-append (frame_text kind body) front.rest in
    omega (arith, size, length-frame_text kind body)

-- the length of a frame's body is at its place 4
pub frame-size : (bytes : List ℕ) (kind : ℕ) (body : List ℕ) → IsFrontFrame bytes kind body → big_number 4 (drop 4 bytes) ≡ length body
unfolding frame_text
frame-size bytes kind body front =
    let short = front.short in
    ap (λ (b : List ℕ). big_number 4 (drop 4 b)) front.is
    ∙ big_number-reads_back 4 (length body) (body ++ front.rest) (omega arith)

-- the frame that is read of bytes
pub frame-read : (bytes : List ℕ) (kind size : ℕ) (body : List ℕ) → AreBytes bytes → 8 + size ≤ length bytes → size ≤ most_body_bytes
    → kind ≡ big_number 4 bytes → size ≡ big_number 4 (drop 4 bytes) → body ≡ take size (drop 8 bytes)
    → IsFrontFrame bytes kind body
unfolding frame_text
frame-read bytes kind size body small long short kind_is size_is body_is =
    let after = drop 8 bytes in
    let rest = drop size after in
    let body_size : length body ≡ size = ap length body_is ∙ omega (arith, length-take size after, length-drop 8 bytes) in
    let front : big_bytes 4 kind ≡ take 4 bytes = ap (big_bytes 4) kind_is ∙ bytes-first 4 bytes small (omega arith) in
    let next : big_bytes 4 (length body) ≡ take 4 (drop 4 bytes) =
    ap (big_bytes 4) (body_size ∙ size_is) ∙ bytes-first 4 (drop 4 bytes) (bytes-drop 4 bytes small) (omega (arith, length-drop 4 bytes)) in
    let last : body ++ rest ≡ drop 4 (drop 4 bytes) =
    ap (λ (b : List ℕ). b ++ rest) body_is ∙ take-append-drop size after ∙ sym (drop-drop 4 4 bytes) in
    let whole =
    ap (λ (b : List ℕ). b ++ (big_bytes 4 (length body) ++ (body ++ rest))) front
    ∙ ap (λ (b : List ℕ). take 4 bytes ++ (b ++ (body ++ rest))) next
    ∙ ap (λ (b : List ℕ). take 4 bytes ++ (take 4 (drop 4 bytes) ++ b)) last
    ∙ ap (λ (b : List ℕ). take 4 bytes ++ b) (take-append-drop 4 (drop 4 bytes))
    ∙ take-append-drop 4 bytes in
    let few : length body ≤ most_body_bytes = omega arith in
    record {
      kind_fits = let fits = big_from-lt 0 4 bytes small in omega arith;
      short = few;
      rest = rest;
      is = sym whole;
    }
