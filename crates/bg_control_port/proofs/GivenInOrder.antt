-- Lines are given as they were read, in this order.
use Rattle.std.proofs.Common.{◌≡◌, ℕ, Bool, true, false, cond, List, [], ◌∷◌, ◌++◌, length, drop, nat_le}
use Rattle.std.proofs.Common.{Option, Some, None, refl, sym, ap, ◌∙◌, append_assoc, append-nil}
use Rattle.bg_control_port.specs.Ahead.{Event, LinesAreGiven, Steps, bytes_came, given_in, given_of_all, listed, read_in, read_of_all, waiting, was_answered, was_given, was_read, was_taken}
use Rattle.bg_control_port.specs.Fronts.{front}
use Rattle.bg_control_port.specs.Lines.{Whole}
use Rattle.bg_control_port.specs.Stages.{interest_of}
use Rattle.bg_control_port.specs.Steps.{asked, asked_at, came, came_at, given_at, given_line, go_on, keep, read_as, read_at, replied, replied_at, seen, seen_from, skip, whole_at, whole_line, wrote, wrote_at}
use Rattle.bg_control_port.specs.declared.connection.Connection.{Connection}
use Rattle.bg_control_port.specs.declared.connection.Interest.TheVariants as interest
use Rattle.bg_control_port.specs.declared.connection.Moment.{Moment}
use Rattle.bg_control_port.specs.declared.connection.Stage.{Stage}
use Rattle.bg_control_port.specs.declared.connection.Stage.TheVariants as stage
use Rattle.bg_control_port.specs.declared.buffer.Front.{Front}
use Rattle.bg_control_port.specs.declared.buffer.Front.TheVariants as front_is
use Rattle.bg_control_port.specs.declared.buffer.Found.TheVariants as found_is
use Rattle.bg_control_port.specs.declared.reply.AfterReply.{AfterReply}
use Rattle.bg_control_port.specs.declared.reply.AfterReply.TheVariants as after_reply

module _ {L : Type 0} where
  -- no line waits after bytes are looked at
  none_skipped : (b : Bool) (number : ℕ) → listed (given_at {L = L} (cond b (stage.Came found_is.Skipped number) stage.Skips)) ≡ []
  none_skipped true number = refl
  none_skipped false number = refl

  skip_waits : (has_ended : Bool) (number : ℕ) (c : Connection L) → waiting (skip has_ended number c) ≡ []
  skip_waits has_ended number c = none_skipped _ number

  from_waits : (f : Front) (number : ℕ) (c : Connection L) → waiting (seen_from f false number c) ≡ []
  from_waits (front_is.Line count) number c = refl
  from_waits front_is.Part number c = refl
  from_waits front_is.TooLong number c = skip_waits false number c

  seen_waits : (number : ℕ) (c : Connection L) → waiting (seen false number c) ≡ []
  seen_waits number c = from_waits (front false c.input) number c

  came_waits : (bytes : List ℕ) (at : Moment) (c : Connection L) → interest_of c.stage ≡ Some interest.Input
      → waiting (came bytes at c) ≡ waiting c
  came_waits bytes at c awaits = go c.stage awaits where
    go : (s : Stage L) → interest_of s ≡ Some interest.Input → waiting (came_at s bytes at c) ≡ listed (given_at s)
    go stage.Awaits e = seen_waits at.number (record c { input = c.input ++ bytes; moved = at.now })
    go stage.Skips e = skip_waits false at.number (record c { input = c.input ++ bytes })
    go (stage.Came f number) e = absurd (cc)
    go (stage.Waits line place) e = absurd (cc)
    go stage.Asked e = absurd (cc)
    go (stage.Replies reply after) e = absurd (cc)

  read_waits : (whole : Whole) (line : L) (is_urgent : Bool) (c : Connection L) → whole_line c ≡ Some whole
      → waiting (read_as line is_urgent c) ≡ waiting c ++ line ∷ []
  read_waits whole line is_urgent c is = go c.stage is where
    go : (s : Stage L) → whole_at s c.input ≡ Some whole → waiting (read_at s line is_urgent c) ≡ listed (given_at s) ++ line ∷ []
    go stage.Awaits e = absurd (cc)
    go stage.Skips e = absurd (cc)
    go (stage.Came f number) e = refl
    go (stage.Waits other place) e = absurd (cc)
    go stage.Asked e = absurd (cc)
    go (stage.Replies reply after) e = absurd (cc)

  line_or : L → Option L → L
  line_or line None = line
  line_or line (Some other) = other

  asked_waits : (line : L) (c : Connection L) → given_line c ≡ Some line → line ∷ waiting (asked c) ≡ waiting c
  unfolding line_or
  asked_waits line c is = go c.stage is where
    go : (s : Stage L) → given_at s ≡ Some line → line ∷ waiting (asked_at s c) ≡ listed (given_at s)
    go stage.Awaits e = absurd (cc)
    go stage.Skips e = absurd (cc)
    go (stage.Came f number) e = absurd (cc)
    go (stage.Waits other place) e = ap (λ l. l ∷ []) (sym (ap (line_or line) e))
    go stage.Asked e = absurd (cc)
    go (stage.Replies reply after) e = absurd (cc)

  has_or : Connection L → Option (Connection L) → Connection L
  has_or c None = c
  has_or c (Some d) = d

  same_connection : (c d : Connection L) → Some c ≡ Some d → d ≡ c
  unfolding has_or
  same_connection c d e = sym (ap (has_or c) e)

  unchanged : (c d : Connection L) (s : Stage L) → c.stage ≡ s → Some c ≡ Some d → waiting d ≡ listed (given_at s)
  unchanged c d s is e = ap waiting (same_connection c d e) ∙ ap (λ t. listed (given_at t)) is

  go_on_waits : (after : AfterReply) (at : Moment) (c d : Connection L) → go_on after at c ≡ Some d → waiting d ≡ []
  go_on_waits after_reply.Closes at c d e = absurd (cc)
  go_on_waits after_reply.GoesOn at c d e =
      ap waiting (same_connection (seen false at.number (record c { moved = at.now })) d e)
      ∙ seen_waits at.number (record c { moved = at.now })

  replied_waits : (bytes : List ℕ) (after : AfterReply) (count : ℕ) (at : Moment) (c d : Connection L)
      → replied bytes after count at c ≡ Some d → waiting d ≡ waiting c
  replied_waits bytes after count at c d is = go c.stage refl is where
    kept : (b : Bool) (rest : List ℕ)
        → cond b (Some (record c { stage = stage.Replies rest after; moved = at.now })) None ≡ Some d → waiting d ≡ []
    kept true rest e = ap waiting (same_connection (record c { stage = stage.Replies rest after; moved = at.now }) d e)
    kept false rest e = absurd (cc)

    whole_or : (b : Bool) → cond b (go_on after at c) (keep (drop count bytes) after at c) ≡ Some d → waiting d ≡ []
    whole_or true e = go_on_waits after at c d e
    whole_or false e = kept (nat_le (length (drop count bytes)) 65536) (drop count bytes) e

    go : (s : Stage L) → c.stage ≡ s → replied_at s bytes after count at c ≡ Some d → waiting d ≡ listed (given_at s)
    go stage.Awaits same e = unchanged c d stage.Awaits same e
    go stage.Skips same e = unchanged c d stage.Skips same e
    go (stage.Came f number) same e = unchanged c d (stage.Came f number) same e
    go (stage.Waits line place) same e = unchanged c d (stage.Waits line place) same e
    go stage.Asked same e = whole_or (nat_le (length bytes) count) e
    go (stage.Replies reply last) same e = unchanged c d (stage.Replies reply last) same e

  wrote_waits : (count : ℕ) (at : Moment) (c d : Connection L) → wrote count at c ≡ Some d → waiting d ≡ waiting c
  wrote_waits count at c d is = go c.stage refl is where
    whole_or : (b : Bool) (reply : List ℕ) (after : AfterReply) (moved : ℕ)
        → cond b (go_on after at c) (Some (record c { stage = stage.Replies (drop count reply) after; moved = moved })) ≡ Some d
        → waiting d ≡ []
    whole_or true reply after moved e = go_on_waits after at c d e
    whole_or false reply after moved e =
        ap waiting (same_connection (record c { stage = stage.Replies (drop count reply) after; moved = moved }) d e)

    go : (s : Stage L) → c.stage ≡ s → wrote_at s count at c ≡ Some d → waiting d ≡ listed (given_at s)
    go stage.Awaits same e = unchanged c d stage.Awaits same e
    go stage.Skips same e = unchanged c d stage.Skips same e
    go (stage.Came f number) same e = unchanged c d (stage.Came f number) same e
    go (stage.Waits line place) same e = unchanged c d (stage.Waits line place) same e
    go stage.Asked same e = unchanged c d stage.Asked same e
    go (stage.Replies reply after) same e = whole_or (nat_le (length reply) count) reply after _ e

  step_waits : (event : Event L) (old new : Connection L) → Steps event old new
      → given_in event ++ waiting new ≡ waiting old ++ read_in event
  step_waits (bytes_came bytes at) old new steps =
      ap waiting steps.1 ∙ came_waits bytes at old steps.0 ∙ sym (append-nil (waiting old))
  step_waits (was_read whole line is_urgent) old new steps = ap waiting steps.1 ∙ read_waits whole line is_urgent old steps.0
  step_waits (was_given line) old new steps =
      ap (λ x. line ∷ waiting x) steps.1 ∙ asked_waits line old steps.0 ∙ sym (append-nil (waiting old))
  step_waits (was_answered bytes after count at) old new steps =
      replied_waits bytes after count at old new steps ∙ sym (append-nil (waiting old))
  step_waits (was_taken count at) old new steps = wrote_waits count at old new steps ∙ sym (append-nil (waiting old))

  pub lines_are_given : (events : List (Event L)) (old new : Connection L) → LinesAreGiven events old new
  lines_are_given [] old new runs = ap waiting runs ∙ sym (append-nil (waiting old))
  lines_are_given (event ∷ events) old new runs =
      append_assoc (given_in event) (given_of_all events) (waiting new)
      ∙ ap (λ lines. given_in event ++ lines) (lines_are_given events runs.0 new runs.2)
      ∙ sym (append_assoc (given_in event) (waiting runs.0) (read_of_all events))
      ∙ ap (λ lines. lines ++ read_of_all events) (step_waits event old runs.0 runs.1)
      ∙ append_assoc (waiting old) (read_in event) (read_of_all events)
