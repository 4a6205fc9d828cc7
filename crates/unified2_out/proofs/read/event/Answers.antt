-- The body of an event of kind 7 has one size: a body of another is no such record,
-- and one of that size is its words, two addresses of 4 bytes and its tail.
use Rattle.std.proofs.Common.{ap, ◌∙◌, take, drop, arith}
use Rattle.unified2_out.proofs.Bodies.{size-7, event-of}
use Rattle.unified2_out.proofs.read.event.Goals as goal

pub returns-then-body-ne-EVENT_LEN : goal.returns-then-body-ne-EVENT_LEN
returns-then-body-ne-EVENT_LEN c entry of = let size = size-7 c.args.body.now entry of in omega arith

pub returns : goal.returns
returns c =
    event-of c.event_between.result c.args.body.now _ _ _ _ (record {
      bytes = λ k. omega (arith, c.type_inv.body k);
      size = omega arith;
      words_are = c.split_at.ensures.front;
      after = _;
      after_is = c.split_at.ensures.back;
      tail_is = c.split_at-2.ensures.back;
      src = _;
      src_is = c.split_at-3.ensures.front ∙ ap (take 4) c.split_at-2.ensures.front;
      dst = _;
      dst_is = c.split_at-3.ensures.back ∙ ap (drop 4) c.split_at-2.ensures.front;
      first_is = c.read_u32.ensures;
      second_is = c.read_u32-2.ensures;
    }) c.event_between.ensures
