-- What is appended to items.
use Rattle.std.proofs.Common.{◌≡◌, ℕ, List, [], ◌∷◌, ◌++◌, map, Result, ap, sym, ◌∙◌, append_assoc}
use Rattle.std.specs.Prelude.{OnOk}
use Rattle.std.proofs.lemmas.List.{map-append}
use Rattle.std.proofs.lemmas.Result.{on_ok_weaker}
use Rattle.edge_io.specs.declared.fault.NoMemory.{NoMemory}
use Rattle.overlap_core.specs.declared.segment.Run.{Run}
use Rattle.packet_decode.specs.declared.item.ItemHead.{ItemHead}
use Rattle.rule_eval.specs.declared.item.Item.{Item}
use Rattle.flow_lanes.specs.Streams.{item_size, parts_of, payloads_of}
use Rattle.flow_lanes.proofs.Sessions.PartsOf.{payloads-more}

abbrev pub items_with : ItemHead → List (List ℕ) → List Item
items_with head payloads = map (λ payload. record { head = head; payload = payload }) payloads

-- payloads of one head are appended
pub pushed-are : {A : Type 0} (result : Result A NoMemory) (old new : List Item) (head meant : ItemHead) (payloads given : List (List ℕ)) → head ≡ meant → payloads ≡ given
    → OnOk result (new ≡ old ++ items_with head payloads) → OnOk result (new ≡ old ++ items_with meant given)
pushed-are result old new head meant payloads given same is pushed = on_ok_weaker result (λ (e : new ≡ old ++ items_with head payloads). e ∙ (λ i. old ++ items_with (same i) (is i))) pushed

-- the items of one run more
pub items-more : (head : ItemHead) (first old new : List Item) (runs : List Run) (run : Run)
    → old ≡ first ++ items_with head (payloads_of runs)
    → new ≡ old ++ items_with head (parts_of item_size run.bytes)
    → new ≡ first ++ items_with head (payloads_of (runs ++ run ∷ []))
items-more head first old new runs run so_far pushed =
    let before : List (List ℕ) = payloads_of runs in
    let parts : List (List ℕ) = parts_of item_size run.bytes in
    pushed ∙ ap (λ (items : List Item). items ++ items_with head parts) so_far ∙ append_assoc first (items_with head before) (items_with head parts)
    ∙ ap (λ (items : List Item). first ++ items) (sym (map-append (λ payload. record { head = head; payload = payload }) before parts) ∙ ap (items_with head) (sym (payloads-more runs run)))
