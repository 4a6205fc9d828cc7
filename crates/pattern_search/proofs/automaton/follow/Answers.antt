-- Where a pattern was marked before, so were those that it ends in, and the rest of the chain is among them, so `follow` may
-- stop there (`follows-seen`).
use Rattle.std.proofs.Common.{ℕ, ◌-◌, true, false, not, ltb, List, length, sym, subst, ◌∙◌, arith}
use Rattle.std.proofs.lemmas.Bool.{and_parts, ltb-true, not-true}
use Rattle.pattern_search.specs.Marking.{is_marked}
use Rattle.pattern_search.specs.Finding.{IsFollowing}
use Rattle.pattern_search.proofs.Finding.Hitting.{unseen-less, following-none, following-more, follows-end, follows-seen, marked-by}
use Rattle.pattern_search.proofs.automaton.follow.Goals as goal

pub loop-at-init : goal.loop-at-init
loop-at-init c = following-none c.args.nexts.now c.args.head c.args.seen.now c.args.hits.now.items

pub loop-at-preserved : goal.loop-at-preserved
loop-at-preserved c =
    let at = c.loop-at.at in
    let seen = c.loop-at.seen in
    let parts =
    and_parts (ltb (at - 1) (length c.args.nexts.now)) (not (is_marked seen (at - 1)))
    (sym (c.in_ok-fresh.ensures.answer) ∙ c.if-not-fresh.false) in
    let also =
    marked-by seen c.mark.new.seen (at - 1) c.in_ok-fresh.fresh true c.if-not-fresh.false c.in_ok-fresh.ensures.marked in
    let Q : List ℕ → Type 0 = λ hits.
    IsFollowing c.args.nexts.now c.args.head c.args.seen.now c.args.hits.now.items c.read-at.result c.mark.new.seen hits in
    subst Q (sym c.in_ok-push.ensures.items)
    (following-more c.args.nexts.now c.args.head c.args.seen.now c.args.hits.now.items at seen c.loop-at.hits.items
    c.read-at.result c.loop-at.invariant (omega arith) (ltb-true (at - 1) (length c.args.nexts.now) parts.0)
    (not-true (is_marked seen (at - 1)) parts.1)
    c.read-at.ensures c.mark.new.seen also)

pub loop-at-smaller : goal.loop-at-smaller
loop-at-smaller c =
    let at = c.loop-at.at in
    let seen = c.loop-at.seen in
    let parts = and_parts (ltb (at - 1) (length c.args.nexts.now)) (not (is_marked seen (at - 1))) (sym (c.in_ok-fresh.ensures.answer) ∙ c.if-not-fresh.false) in
    let also = marked-by seen c.mark.new.seen (at - 1) c.in_ok-fresh.fresh true c.if-not-fresh.false c.in_ok-fresh.ensures.marked in
    unseen-less (length c.args.nexts.now) (at - 1) seen c.mark.new.seen (ltb-true (at - 1) (length c.args.nexts.now) parts.0) (not-true (is_marked seen (at - 1)) parts.1) also

pub returns-then-not-fresh : goal.returns-then-not-fresh
returns-then-not-fresh c =
    let at = c.loop-at.at in
    let seen = c.loop-at.seen in
    let also =
    marked-by seen c.mark.new.seen (at - 1) c.in_ok-fresh.fresh false c.if-not-fresh.true c.in_ok-fresh.ensures.marked in
    follows-seen c.args.nexts.now c.args.head c.args.seen.now c.args.hits.now.items at seen c.loop-at.hits.items
    c.loop-at.invariant (omega arith) (sym c.in_ok-fresh.ensures.answer ∙ c.if-not-fresh.true)
    c.mark.new.seen also

pub returns : goal.returns
returns c = follows-end c.args.nexts.now c.args.head c.args.seen.now c.args.hits.now.items c.loop-at.at c.loop-at.seen c.loop-at.hits.items c.loop-at.invariant (omega arith)
