-- A line ends at the first line feed: without one none is there yet (`no-line`), and where too many bytes come before it,
-- there never is one, whatever follows (`too-long`, `none-ever`).
use Rattle.std.proofs.Common.{◌∷◌, length, ap, arith, length-append}
use Rattle.alert_json.proofs.LineMoments.Walks.{no-line, none-ever, too-long}
use Rattle.alert_json.proofs.line_walk.front_of.Goals as goal

pub returns-else-text-lt-MOST_LINE : goal.returns-else-text-lt-MOST_LINE
returns-else-text-lt-MOST_LINE c =
    let word = c.in-Some.ensures in (
      omega (arith, ap length word.spelled, length-append c.in-Some.text.now (10 ∷ c.in-Some.field-0-1.now)),
      too-long c.args.bytes.now c.in-Some.text.now c.in-Some.field-0-1.now word (omega (arith, c.if-text-lt-MOST_LINE.false)),
    )

pub returns-then-bytes-lt-MOST_LINE : goal.returns-then-bytes-lt-MOST_LINE
returns-then-bytes-lt-MOST_LINE c = no-line c.args.bytes.now c.in-None.ensures

pub returns-else-bytes-lt-MOST_LINE : goal.returns-else-bytes-lt-MOST_LINE
returns-else-bytes-lt-MOST_LINE c = (
  omega (arith, c.if-bytes-lt-MOST_LINE.false),
  none-ever c.args.bytes.now c.in-None.ensures (omega (arith, c.if-bytes-lt-MOST_LINE.false)),
)
