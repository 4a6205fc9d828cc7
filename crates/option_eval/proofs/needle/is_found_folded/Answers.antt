-- Bytes occur at a place with case folded just if the part there, which is as long, is equal to them without case.
use Rattle.option_eval.proofs.Sets.Occurrences.{folded_is_found, is_found_folded}
use Rattle.option_eval.proofs.needle.is_found_folded.Goals as goal

pub returns : goal.returns
returns c =
    let payload = c.args.payload.now in
    let bytes = c.args.bytes.now in (
      λ yes. folded_is_found payload bytes c.args.at c.requires.fits (c.eq_ignore_ascii_case.ensures.test.0 yes),
      λ here. c.eq_ignore_ascii_case.ensures.test.1 (is_found_folded payload bytes c.args.at c.requires.fits here),
    )
