-- The letters of marked bytes rise, so two bytes have the same one only where they are one byte in lower case (`all-told`),
-- and none is above the last (`all-below`).
use Rattle.std.proofs.Common.{◌-◌, arith}
use Rattle.pattern_search.proofs.Lettering.{all-told, all-below}
use Rattle.pattern_search.proofs.letters.letters_of.Goals as goal

pub returns-clause-told : goal.returns-clause-told
returns-clause-told c =
    all-told c.used_bytes-used.result c.numbered-numbered.result.of c.folded.result (c.numbered-numbered.result.count - 1)
    c.numbered-numbered.ensures.numbered c.folded.ensures c.args.patterns.now c.used_bytes-used.ensures

pub returns-clause-below : goal.returns-clause-below
returns-clause-below c = λ byte.
    omega (
      arith,
      all-below c.used_bytes-used.result c.numbered-numbered.result.of c.folded.result (c.numbered-numbered.result.count - 1)
          c.numbered-numbered.ensures.numbered c.folded.ensures byte,
      c.numbered-numbered.ensures.some,
    )
