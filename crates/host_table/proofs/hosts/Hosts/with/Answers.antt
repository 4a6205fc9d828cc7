-- The new entry's network has its place at the end, as no other entry has it, and its prefix length is marked: so the
-- entries are indexed still (`indexed-push`).
use Rattle.std.proofs.Common.{◌≡◌, ◌<◌, cond, length, Some, None, ◌∙◌, ap, arith}
use Rattle.std.specs.BTreeMap.{get, is_at}
use Rattle.host_table.specs.declared.key.NetworkKey.{NetworkKey}
use Rattle.host_table.specs.Index.{place_of}
use Rattle.host_table.specs.Keys.{key_of, key_cmp}
use Rattle.host_table.proofs.Indexed.{indexed-push, length-marked, place_of-new}
use Rattle.host_table.proofs.hosts.Hosts.with.Goals as goal

pub invariant_of-result : goal.invariant_of-result
invariant_of-result c =
    let inside = c.self.inside in
    let net = c.args.entry.network in
    let marked : net.length < 129 = length-marked net c.requires.network in
    let within : net.length < length inside.lengths = omega (arith, c.self.ranges) in
    let at_end : c.len-place.result ≡ length inside.entries.items = omega (arith, inside.entries.ok.0, c.len-place.ensures) in
    let lacks : place_of inside.entries.items net ≡ None = ap (λ es. place_of es net) c.self.view_is ∙ place_of-new c.args.self net c.requires.new in
    let updated : (q : NetworkKey) → get key_cmp c.insert.new.self q ≡ cond (is_at (key_cmp (key_of net)) q) (Some (length inside.entries.items)) (get key_cmp inside.places q) = λ q.
    c.in_ok-insert.ensures.updates.0 q
    ∙ ap (λ k. cond (is_at (key_cmp k) q) (Some c.len-place.result) (get key_cmp inside.places q)) c.of.ensures
    ∙ ap (λ n. cond (is_at (key_cmp (key_of net)) q) (Some n) (get key_cmp inside.places q)) at_end in
    rw c.in_ok-push.ensures.items
    (indexed-push inside.entries.items c.args.entry inside.places c.insert.new.self inside.lengths c.self.invariant c.requires.network lacks within updated)
