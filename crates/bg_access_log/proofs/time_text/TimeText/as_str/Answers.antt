use Rattle.std.proofs.lemmas.Str.{IsUtf8-from_ascii}
use Rattle.bg_access_log.proofs.time_text.TimeText.as_str.Goals as goal

pub returns-in-Err : goal.returns-in-Err
returns-in-Err c =
    absurd (c.in-Err.ensures.cases.0 (IsUtf8-from_ascii c.args.self.now.bytes c.args.self.now.ascii))
