use Rattle.std.proofs.Common.{ap, Err}
use Rattle.bg_http_read.specs.Heads.{response_heads}
use Rattle.bg_http_read.proofs.HeadsFound.{crowded_room, malformed_head, response_laws}
use Rattle.bg_http_read.proofs.response_head.ResponseHeadParsedHead.parse.Goals as goal

pub returns-in-TooManyHeaders : goal.returns-in-TooManyHeaders
returns-in-TooManyHeaders c =
    let many = c.in-Err.ensures.too_many (ap Err c.in-TooManyHeaders.is) in
    crowded_room response_heads response_laws c.args.bytes.now many.0 many.1 many.3 _ c.requires many.2 many.4 many.5

pub returns-in_default : goal.returns-in_default
returns-in_default c =
    malformed_head response_heads c.args.bytes.now c.requires
    (c.in-Err.ensures.invalid c.in_default.not-TooManyHeaders)
