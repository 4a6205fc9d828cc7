-- A record that is neither event nor packet has as its text the frame of its kind and its bytes.
use Rattle.std.proofs.Common.{ap, ◌∙◌, ◌++◌, sym, ℕ, List}
use Rattle.std.proofs.lemmas.Result.{on_ok_weaker}
use Rattle.unified2_out.specs.Records.{frame_text, unified2_text}
use Rattle.unified2_out.proofs.write.push_record.Goals as goal

pub returns-in-Other-clause-appended : goal.returns-in-Other-clause-appended
unfolding unified2_text
returns-in-Other-clause-appended c =
    on_ok_weaker c.push_other.result
    (λ e. e ∙ ap (λ (b : List ℕ). c.args.out.now.items ++ frame_text c.in-Other.kind b) c.bytes.ensures ∙
    sym (ap (λ r. c.args.out.now.items ++ unified2_text r) c.in-Other.is))
    c.push_other.ensures.appended
