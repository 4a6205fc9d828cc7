-- A body of kind 72 is its words, two addresses of 16 bytes and its tail, so one of any other size is no such record.
use Rattle.std.proofs.Common.{ap, ◌∙◌, take, drop, arith}
use Rattle.unified2_out.proofs.Bodies.{size-72, event-of-6}
use Rattle.unified2_out.proofs.read.event_ip6.Goals as goal

pub returns-then-body-ne-EVENT_IP6_LEN : goal.returns-then-body-ne-EVENT_IP6_LEN
returns-then-body-ne-EVENT_IP6_LEN c entry of = let size = size-72 c.args.body.now entry of in omega arith

pub returns : goal.returns
returns c =
    event-of-6 c.event_between.result c.args.body.now _ _ _ _ (record {
      bytes = λ k. omega (arith, c.type_inv.body k);
      size = omega arith;
      words_are = c.split_at.ensures.front;
      after = _;
      after_is = c.split_at.ensures.back;
      tail_is = c.split_at-2.ensures.back;
      src = _;
      src_is = c.split_at-3.ensures.front ∙ ap (take 16) c.split_at-2.ensures.front;
      dst = _;
      dst_is = c.split_at-3.ensures.back ∙ ap (drop 16) c.split_at-2.ensures.front;
      first_is = c.read_u128.ensures;
      second_is = c.read_u128-2.ensures;
    }) c.event_between.ensures
