-- A fragment by which a tracker grows is the definition's step (`takes-grown`), and so is one that begins a tracker
-- (`takes-begun`); no step leaves more than the most held (`held_count-takes`).
use Rattle.std.proofs.Common.{◌≡◌, ◌≤◌, true, false, ap, subst, sym, ◌∙◌}
use Rattle.std.proofs.lemmas.Result.{IfOk-weaker}
use Rattle.frag3_core.specs.Parts.{Begins, Grows, Takes, is_kept}
use Rattle.frag3_core.specs.Trackers.{fragment, held_count, key_of}
use Rattle.frag3_core.proofs.Steps.{held_count-takes, takes-begun, takes-grown}
use Rattle.frag3_core.proofs.trackers.TrackerCache.accept.Goals as goal

pub returns-then-keeps-clause-ok : goal.returns-then-keeps-clause-ok
returns-then-keeps-clause-ok c =
    let most = c.args.most in
    let ip = c.args.ip.now in
    let part = c.args.part.now in
    let ts = c.args.self.now in
    let new = c.grow.new.self in
    let f = fragment ip part c.args.moment c.args.rules in
    let kept : is_kept most ts (key_of ip) c.args.moment.nanos ≡ true =
    ap (λ k. is_kept most ts k c.args.moment.nanos) (sym c.of-key.ensures) ∙ sym c.keeps.ensures.value ∙ c.if-keeps.true in
    IfOk-weaker c.grow.result (Grows most ts c.of-key.result ip part new) (Takes most ts f new)
    (λ bytes grows. takes-grown most f ts new bytes c.keeps.ensures.sound c.requires.few kept (subst (λ k. Grows most ts k ip part new bytes) c.of-key.ensures grows))
    c.grow.ensures.ok

pub returns-then-keeps-clause-few : goal.returns-then-keeps-clause-few
returns-then-keeps-clause-few c =
    let f = fragment c.args.ip.now c.args.part.now c.args.moment c.args.rules in
    IfOk-weaker c.grow.result (Takes c.args.most c.args.self.now f c.grow.new.self) (λ _. held_count c.grow.new.self ≤ c.args.most)
    (λ bytes takes. held_count-takes c.args.most f c.args.self.now c.grow.new.self bytes c.requires.room takes) (returns-then-keeps-clause-ok c)

pub returns-else-keeps-clause-ok : goal.returns-else-keeps-clause-ok
returns-else-keeps-clause-ok c =
    let most = c.args.most in
    let ip = c.args.ip.now in
    let part = c.args.part.now in
    let ts = c.args.self.now in
    let new = c.begin.new.self in
    let f = fragment ip part c.args.moment c.args.rules in
    let kept : is_kept most ts (key_of ip) c.args.moment.nanos ≡ false =
    ap (λ k. is_kept most ts k c.args.moment.nanos) (sym c.of-key.ensures) ∙ sym c.keeps.ensures.value ∙ c.if-keeps.false in
    IfOk-weaker c.begin.result (Begins most ts c.new.result ip part new) (Takes most ts f new)
    (λ bytes begins. takes-begun most f ts new bytes c.keeps.ensures.sound c.requires.few c.requires.room kept (subst (λ t. Begins most ts t ip part new bytes) c.new.ensures begins))
    c.begin.ensures.ok

pub returns-else-keeps-clause-few : goal.returns-else-keeps-clause-few
returns-else-keeps-clause-few c =
    let f = fragment c.args.ip.now c.args.part.now c.args.moment c.args.rules in
    IfOk-weaker c.begin.result (Takes c.args.most c.args.self.now f c.begin.new.self) (λ _. held_count c.begin.new.self ≤ c.args.most)
    (λ bytes takes. held_count-takes c.args.most f c.args.self.now c.begin.new.self bytes c.requires.room takes) (returns-else-keeps-clause-ok c)
