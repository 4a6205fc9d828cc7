-- A read notes the bytes that it gave: files that agree with the
-- notes had just these next, and none if no file of theirs was open.
use Rattle.std.proofs.Common.{rules}
use Rattle.edge_io.specs.Told.{before}
use Rattle.edge_io.proofs.Hosts.Hearing.{taken_by, unopened_by}
use Rattle.edge_io.proofs.heard_host.HeardHostHost.TheImpl.Goals as goal

-- what a read noted is what it took
pub read-tells : goal.read-tells
unfolding before
read-tells g c = record {
  within = search rules;
  taken = search rules;
  ended = search rules;
  unopened = search rules;
  failed = search rules;
  unfailed = search rules;
  nothing_taken = search rules;
  same_contents = search rules;
  agreed = search (rules, taken_by);
  agreed_end = search rules;
  agreed_unopened = unopened_by c.result c.args.self.now.heard.answers c.new.self.now.heard.answers c.args.buf.now c.new.buf.now (search rules) (search rules) (search rules);
  agreed_failed = search rules;
  earlier = search rules;
  same_opens = search rules;
  later = search rules;
}
