-- A run that is one part is an item with its own bytes, and any other run is cut and its parts are pushed: either way the
-- items of `parts_of` are appended.
use Rattle.std.proofs.Common.{List, ℕ, ◌++◌, ap, sym, ◌∙◌}
use Rattle.flow_lanes.specs.Streams.{item_size, parts_of}
use Rattle.flow_lanes.proofs.Sessions.ItemsWith.{items_with, pushed-are}
use Rattle.flow_lanes.proofs.streams.push_run.Goals as goal

pub returns-then-is_one_part : goal.returns-then-is_one_part
returns-then-is_one_part c =
    c.in_ok-push.ensures.items ∙ ap (λ (parts : List (List ℕ)). c.args.out.now.items ++ items_with c.args.head.now parts) (sym (rw c.bytes.ensures at (c.is_one_part.ensures c.if-is_one_part.true)))

pub returns : goal.returns
returns c =
    let parts =
    c.from_vec.ensures
    ∙ c.in_ok-cut.ensures
    ∙ ap (λ (ps : List (List ℕ)). ps ++ parts_of item_size c.bytes-2.result.now) c.new-parts.ensures.items
    ∙ ap (parts_of item_size) c.bytes-2.ensures in
    pushed-are c.push_payloads.result c.args.out.now.items c.push_payloads.new.out.items c.args.head.now c.args.head.now
    c.from_vec.result (parts_of item_size c.args.run) (λ _. c.args.head.now) parts c.push_payloads.ensures
