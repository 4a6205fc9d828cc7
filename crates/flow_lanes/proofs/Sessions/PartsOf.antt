-- Parts of bytes, one after another.
use Rattle.std.proofs.Common.{◌≡◌, ℕ, ◌+◌, ◌-◌, ◌*◌, ◌/◌, ◌<◌, ◌≤◌, List, [], ◌∷◌, ◌++◌, length, map, take, drop, min, sym, ap, ◌∙◌, append_assoc, zero-add, arith}
use Rattle.std.specs.List.{flat_map, range_with_len}
use Rattle.std.proofs.lemmas.Grind.{flat_map-append}
use Rattle.std.proofs.lemmas.List.{append-nil, map-append, take_all, take_min}
use Rattle.std.proofs.lemmas.List.FromFn.{map-range_with_len_more}
use Rattle.overlap_core.specs.declared.segment.Run.{Run}
use Rattle.flow_lanes.specs.Streams.{item_size, parts_of, payloads_of}

-- a part more after those that were appended
pub parts-more : {A : Type 0} (f : ℕ → A) (count : ℕ) (first old new : List A) (part : A) → old ≡ first ++ map f (range_with_len 0 count) → part ≡ f count → new ≡ old ++ part ∷ []
    → new ≡ first ++ map f (range_with_len 0 (count + 1))
parts-more {A = A} f count first old new part so_far is pushed =
    pushed ∙ (λ i. so_far i ++ is i ∷ []) ∙ append_assoc first (map f (range_with_len 0 count)) (f count ∷ [])
    ∙ ap (λ (xs : List A). first ++ xs) (sym (map-range_with_len_more f 0 count count (zero-add count)))

-- a front of a list is the front up to its end at most
pub take-shorter : (n : ℕ) (xs : List ℕ) → take (min (length xs) n) xs ≡ take n xs
take-shorter n xs = let same : min (length xs) n ≡ min n (length xs) = omega arith in ap (λ (k : ℕ). take k xs) same ∙ take_min n xs

-- bytes that are not too many are one part by themselves
pub one-part : (bytes : List ℕ) → 0 < length bytes → length bytes ≤ item_size → parts_of item_size bytes ≡ bytes ∷ []
unfolding parts_of
one-part bytes some few =
    let count : (length bytes + (item_size - 1)) / item_size ≡ 1 = omega (arith, some, few) in
    ap (λ (n : ℕ). map (λ (part : ℕ). take item_size (drop (part * item_size) bytes)) (range_with_len 0 n)) count
    ∙ ap (λ (part : List ℕ). part ∷ []) (take_all item_size bytes few)

-- the payloads of one run more
pub payloads-more : (runs : List Run) (run : Run) → payloads_of (runs ++ run ∷ []) ≡ payloads_of runs ++ parts_of item_size run.bytes
payloads-more runs run =
    let bytes : List (List ℕ) = map (λ (r : Run). r.bytes) runs in
    ap (flat_map (parts_of item_size)) (map-append (λ (r : Run). r.bytes) runs (run ∷ []))
    ∙ flat_map-append (parts_of item_size) bytes (run.bytes ∷ [])
    ∙ ap (λ (parts : List (List ℕ)). payloads_of runs ++ parts) (append-nil (parts_of item_size run.bytes))
