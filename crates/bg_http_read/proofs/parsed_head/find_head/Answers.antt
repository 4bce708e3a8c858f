use Rattle.std.proofs.Common.{arith}
use Rattle.std.proofs.lemmas.List.{length-take}
use Rattle.bg_http_read.proofs.HeadsFound.{front_fails, front_head, full_head}
use Rattle.bg_http_read.proofs.parsed_head.find_head.Goals as goal

pub returns-else-bytes-lt-MOST_HEAD : goal.returns-else-bytes-lt-MOST_HEAD
returns-else-bytes-lt-MOST_HEAD g c =
    full_head g.H.ParsedHead.heads c.args.bytes.now c.min.result c.min.ensures c.if-bytes-lt-MOST_HEAD.false
    (rw c.in-Ok-None.field-0-is at c.in-Ok-None.ensures)

pub returns-in-Ok-Some : goal.returns-in-Ok-Some
returns-in-Ok-Some g c =
    let found = rw c.in-Ok-Some.field-0-is at c.in-Ok-Some.ensures in (
      omega (arith, found.0, length-take c.min.result c.args.bytes.now),
      front_head g.H.ParsedHead.heads c.laws.ensures c.args.bytes.now c.min.result c.in-Ok-Some.found.1
          c.in-Ok-Some.found.0 found.0 found.1,
    )

pub returns-in-Err : goal.returns-in-Err
returns-in-Err g c =
    front_fails g.H.ParsedHead.heads c.laws.ensures c.args.bytes.now c.min.result c.in-Err.fault c.in-Err.ensures
