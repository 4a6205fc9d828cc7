-- The words are read from left to right, so the first that is wrong is the
-- header's fault: at each way out all readers before it answered well.
use Rattle.std.proofs.Common.{Ok, Err, refl}
use Rattle.std.proofs.lemmas.Result.{err_from_is_err_and}
use Rattle.net_lists.specs.declared.stop.Stop.TheVariants.{Wrong}
use Rattle.rule_parser.proofs.Lines.Heading.{Reading, action-read, proto-read, src-read, sports-read, direction-read, dst-read, dports-read}
use Rattle.rule_parser.proofs.header.Header.read.Goals as goal

pub returns-in_err-src : goal.returns-in_err-src
returns-in_err-src c = λ line cut.
    let p = err_from_is_err_and c.from_residual-in_err-src.result c.from_residual-in_err-src.ensures.1 in
    let r : Reading = record { variables = c.args.vars.now; line = line; texts = c.args.texts.now; cut = cut; answer = Err c.in_err-src.field-0.0 } in
    rw (p.1, p.2) (
    action-read r (Ok c.in_ok-action.action) c.in_ok-action.ensures c.word_of.ensures (
    proto-read r _ (Ok c.in_ok-proto.proto) c.in_ok-proto.ensures c.word_of-2.ensures (
    src-read r _ _ (Err c.in_err-src.field-0.0) c.in_err-src.ensures refl)))

pub returns-in_err-sports : goal.returns-in_err-sports
returns-in_err-sports c = λ line cut.
    let p = err_from_is_err_and c.from_residual-in_err-sports.result c.from_residual-in_err-sports.ensures.1 in
    let r : Reading = record { variables = c.args.vars.now; line = line; texts = c.args.texts.now; cut = cut; answer = Err c.in_err-sports.field-0.0 } in
    rw (p.1, p.2) (
    action-read r (Ok c.in_ok-action.action) c.in_ok-action.ensures c.word_of.ensures (
    proto-read r _ (Ok c.in_ok-proto.proto) c.in_ok-proto.ensures c.word_of-2.ensures (
    src-read r _ _ (Ok c.in_ok-src.src) c.in_ok-src.ensures (
    sports-read r _ _ _ (Err c.in_err-sports.field-0.0) c.in_err-sports.ensures refl))))

pub returns-in_err-both : goal.returns-in_err-both
returns-in_err-both c = λ line cut.
    let p = err_from_is_err_and c.from_residual-in_err-both.result c.from_residual-in_err-both.ensures.1 in
    let r : Reading = record { variables = c.args.vars.now; line = line; texts = c.args.texts.now; cut = cut; answer = Err (Wrong c.in_err-both.field-0.0) } in
    rw (p.1, p.2) (
    action-read r (Ok c.in_ok-action.action) c.in_ok-action.ensures c.word_of.ensures (
    proto-read r _ (Ok c.in_ok-proto.proto) c.in_ok-proto.ensures c.word_of-2.ensures (
    src-read r _ _ (Ok c.in_ok-src.src) c.in_ok-src.ensures (
    sports-read r _ _ _ (Ok c.in_ok-sports.sports) c.in_ok-sports.ensures (
    direction-read r _ _ _ _ (Err c.in_err-both.field-0.0) c.in_err-both.ensures c.word_of-3.ensures refl)))))

pub returns-in_err-dst : goal.returns-in_err-dst
returns-in_err-dst c = λ line cut.
    let p = err_from_is_err_and c.from_residual-in_err-dst.result c.from_residual-in_err-dst.ensures.1 in
    let r : Reading = record { variables = c.args.vars.now; line = line; texts = c.args.texts.now; cut = cut; answer = Err c.in_err-dst.field-0.0 } in
    rw (p.1, p.2) (
    action-read r (Ok c.in_ok-action.action) c.in_ok-action.ensures c.word_of.ensures (
    proto-read r _ (Ok c.in_ok-proto.proto) c.in_ok-proto.ensures c.word_of-2.ensures (
    src-read r _ _ (Ok c.in_ok-src.src) c.in_ok-src.ensures (
    sports-read r _ _ _ (Ok c.in_ok-sports.sports) c.in_ok-sports.ensures (
    direction-read r _ _ _ _ (Ok c.in_ok-both.both) c.in_ok-both.ensures c.word_of-3.ensures (
    dst-read r _ _ _ _ _ (Err c.in_err-dst.field-0.0) c.in_err-dst.ensures refl))))))

pub returns-in_err-dports : goal.returns-in_err-dports
returns-in_err-dports c = λ line cut.
    let p = err_from_is_err_and c.from_residual-in_err-dports.result c.from_residual-in_err-dports.ensures.1 in
    let r : Reading = record { variables = c.args.vars.now; line = line; texts = c.args.texts.now; cut = cut; answer = Err c.in_err-dports.field-0.0 } in
    rw (p.1, p.2) (
    action-read r (Ok c.in_ok-action.action) c.in_ok-action.ensures c.word_of.ensures (
    proto-read r _ (Ok c.in_ok-proto.proto) c.in_ok-proto.ensures c.word_of-2.ensures (
    src-read r _ _ (Ok c.in_ok-src.src) c.in_ok-src.ensures (
    sports-read r _ _ _ (Ok c.in_ok-sports.sports) c.in_ok-sports.ensures (
    direction-read r _ _ _ _ (Ok c.in_ok-both.both) c.in_ok-both.ensures c.word_of-3.ensures (
    dst-read r _ _ _ _ _ (Ok c.in_ok-dst.dst) c.in_ok-dst.ensures (
    dports-read r _ _ _ _ _ _ (Err c.in_err-dports.field-0.0) c.in_err-dports.ensures refl)))))))

pub returns : goal.returns
returns c = λ line cut.
    let r : Reading = record {
      variables = c.args.vars.now;
      line = line;
      texts = c.args.texts.now;
      cut = cut;
      answer = Ok (record {
        action = c.in_ok-action.action;
        proto = c.in_ok-proto.proto;
        src = c.in_ok-src.src;
        sports = c.in_ok-sports.sports;
        dst = c.in_ok-dst.dst;
        dports = c.in_ok-dports.dports;
        both = c.in_ok-both.both;
      });
    } in
    action-read r (Ok c.in_ok-action.action) c.in_ok-action.ensures c.word_of.ensures (
    proto-read r _ (Ok c.in_ok-proto.proto) c.in_ok-proto.ensures c.word_of-2.ensures (
    src-read r _ _ (Ok c.in_ok-src.src) c.in_ok-src.ensures (
    sports-read r _ _ _ (Ok c.in_ok-sports.sports) c.in_ok-sports.ensures (
    direction-read r _ _ _ _ (Ok c.in_ok-both.both) c.in_ok-both.ensures c.word_of-3.ensures (
    dst-read r _ _ _ _ _ (Ok c.in_ok-dst.dst) c.in_ok-dst.ensures (
    dports-read r _ _ _ _ _ _ (Ok c.in_ok-dports.dports) c.in_ok-dports.ensures refl))))))
