use Rattle.std.proofs.Common.{drop, rules, arith}
use Rattle.bg_http_read.specs.Heads.{response_heads}
use Rattle.bg_http_read.proofs.CopiedHeads.{fields_found, whole_response_head}
use Rattle.bg_http_read.proofs.HeadsFound.{many_fields}
use Rattle.bg_http_read.proofs.response_head.copy_head.Goals as goal

pub returns-then-spans-gt-MOST_FIELDS : goal.returns-then-spans-gt-MOST_FIELDS
returns-then-spans-gt-MOST_FIELDS c =
    let h = c.requires.complete in
    let bytes = c.args.bytes.now in
    let spans = c.args.spans in
    let count = fields_found bytes c.args.room.now spans.headers h.0.fields c.requires.within.section.count_fits h.1.fields in
    many_fields response_heads bytes h.0 (drop spans.len bytes) h.1.reads
    (omega (arith, count, c.if-spans-gt-MOST_FIELDS.true)) c.requires.size

pub returns : goal.returns
returns c = (
  search rules,
  whole_response_head c.args.bytes.now c.args.room.now c.args.spans c.requires.within c.requires.complete c.requires.size
      c.if-spans-gt-MOST_FIELDS.false _ _ (search rules) (search rules),
)
