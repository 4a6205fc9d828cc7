-- Prefix lengths are tried from the longest one down, and an address has one network of each: so the first that an entry has
-- gives the entry with the longest prefix.
use Rattle.std.proofs.Common.{◌≡◌, ◌+◌, ◌-◌, length, get_or, Some, sym, ap, ◌∙◌, arith}
use Rattle.std.proofs.lemmas.Bool.{eqb-true}
use Rattle.std.proofs.lemmas.List.Elements.{All-same}
use Rattle.net_lists.specs.Addresses.{IsNetwork}
use Rattle.host_table.proofs.Longest.{below, entry_at-below}
use Rattle.host_table.proofs.Descent.{entry_at-nil, below-zero, below-found, below-lacking}
use Rattle.host_table.proofs.hosts.Hosts.entry.Goals as goal

pub returns-then-is_empty : goal.returns-then-is_empty
returns-then-is_empty c =
    let none = eqb-true _ 0 (sym c.is_empty.ensures ∙ c.if-is_empty.true) in
    entry_at-nil c.args.self.now c.args.addr (omega (arith, none, c.self.inside.entries.ok.0, ap length c.self.view_is))

pub loop-length-init : goal.loop-length-init
loop-length-init c =
    let entries = c.args.self.now in
    let addr = c.args.addr in
    let sound = All-same (λ entry. IsNetwork entry.network) entries c.self.inside.entries.items (sym c.self.view_is) c.self.invariant.sound in
    let bits = c.bits_of-length.ensures.bits in
    (omega arith, entry_at-below entries addr sound ∙ ap (λ n. below entries addr (n + 1)) (sym bits))

pub index-requires : goal.index-requires
index-requires c =
    let found = below-found c.args.self.now c.args.addr (c.loop-length.length - 1) c.in-Some.place c.in-Some.ensures in
    let same : length c.self.inside.entries.items ≡ length c.args.self.now = ap length c.self.view_is in
    omega (arith, found.0, c.self.inside.entries.ok.0)

pub returns-in-Some : goal.returns-in-Some
returns-in-Some c =
    let entries = c.args.self.now in
    let addr = c.args.addr in
    let entry = c.index.result.now in
    let found = below-found entries addr (c.loop-length.length - 1) c.in-Some.place c.in-Some.ensures in
    let next : c.loop-length.length ≡ c.loop-length.length - 1 + 1 = omega arith in
    let read = c.index.ensures ∙ ap (λ es. get_or es c.in-Some.place entry) c.self.view_is in
    sym (c.loop-length.invariant.1 ∙ ap (below entries addr) next ∙ found.1 entry ∙ ap Some (sym read))

pub loop-length-preserved : goal.loop-length-preserved
loop-length-preserved c =
    let entries = c.args.self.now in
    let addr = c.args.addr in
    let next : c.loop-length.length ≡ c.loop-length.length - 1 + 1 = omega arith in
    let lacking = below-lacking entries addr (c.loop-length.length - 1) c.in_default.ensures in
    (omega arith, c.loop-length.invariant.1 ∙ ap (below entries addr) next ∙ lacking)

pub returns : goal.returns
returns c =
    let zero : c.loop-length.length ≡ 0 = omega arith in
    sym (c.loop-length.invariant.1 ∙ ap (below c.args.self.now c.args.addr) zero ∙ below-zero c.args.self.now c.args.addr)
