use Rattle.std.proofs.Common.{◌∙◌, subst, sym}
use Rattle.bg_endpoint_side.specs.StreamedSteps.{EndsUnread}
use Rattle.bg_endpoint_side.proofs.streamed_request.StreamedRequest.ended.Goals as goal

pub returns : goal.returns
returns c =
    subst (λ unread. EndsUnread unread c.args.self c.after.result) (sym c.if-is_unread.false ∙ c.is_unread.ensures) (record {
      after = c.end_input-result.new.self;
      result = c.end_input-result.result;
      forwarded_is = c.end_input-result.ensures.forwarded;
      stream_is = c.end_input-result.ensures.stream;
      becomes = c.after.ensures;
    })
