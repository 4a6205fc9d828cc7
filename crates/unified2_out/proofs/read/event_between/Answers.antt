-- Nine words, two ports and four octets, read where they are, are the numbers of the event.
use Rattle.std.proofs.Common.{ℕ, ap, refl, subst, List, arith}
use Rattle.byteorder.specs.Endian.{big_number, IsRead}
use Rattle.unified2_out.proofs.Numbers.{places}
use Rattle.unified2_out.proofs.Bodies.{event-read}
use Rattle.unified2_out.proofs.read.event_between.Goals as goal

pub returns : goal.returns
returns c =
    event-read _ c.args.words.now c.args.src c.args.dst c.args.tail.now refl refl (record {
      words_bytes = λ k. omega (arith, c.type_inv.words k);
      tail_bytes = λ k. omega (arith, c.type_inv.tail k);
      words_size = c.requires.nine;
      tail_size = c.requires.eight;
      values = c.read_u32_into.new.dst;
      values_size = omega arith;
      values_read = c.read_u32_into.ensures;
      ends = c.read_u16_into.new.dst;
      ends_size = omega arith;
      ends_read = subst (λ (ports : List ℕ). IsRead big_number 2 ports c.read_u16_into.new.dst) c.split_at.ensures.front c.read_u16_into.ensures;
      words_are = refl;
      ports_are = refl;
      octets_are = ap (places 0 4) c.split_at.ensures.back;
    })
