-- The steps keep the bounds of what a connection holds.
use Rattle.std.proofs.Common.{◌≡◌, ℕ, ◌+◌, ◌≤◌, Bool, true, false, ◌||◌, cond, List, length, drop, nat_le, is_some}
use Rattle.std.proofs.Common.{Option, Some, None, refl, sym, subst, arith}
use Rattle.std.proofs.lemmas.List.{length-drop}
use Rattle.bg_control_port.specs.Bounds.{IsBounded, IsBoundedAt}
use Rattle.bg_control_port.specs.Fronts.{front, front_with, line_length}
use Rattle.bg_control_port.specs.Lines.{Whole, behind, break_at}
use Rattle.bg_control_port.specs.Steps.{IsReadBy, IsReadFrom, asked, asked_at, go_on, keep, left_by, read_as, read_at, replied, replied_at, seen_from, skip, whole_line, wrote, wrote_at}
use Rattle.bg_control_port.specs.declared.connection.Connection.{Connection}
use Rattle.bg_control_port.specs.declared.connection.Moment.{Moment}
use Rattle.bg_control_port.specs.declared.connection.Stage.{Stage}
use Rattle.bg_control_port.specs.declared.connection.Stage.TheVariants as stage
use Rattle.bg_control_port.specs.declared.buffer.Found.{Found}
use Rattle.bg_control_port.specs.declared.buffer.Found.TheVariants as found_is
use Rattle.bg_control_port.specs.declared.buffer.Front.{Front}
use Rattle.bg_control_port.specs.declared.buffer.Front.TheVariants as front_is
use Rattle.bg_control_port.specs.declared.reply.AfterReply.{AfterReply}
use Rattle.bg_control_port.specs.declared.reply.AfterReply.TheVariants as after_reply

-- a part of a line is short
part_with : (count : Option ℕ) (bytes : List ℕ) → front_with count bytes ≡ front_is.Part → length bytes ≤ 4097
part_with None bytes is = grind arith
part_with (Some count) bytes is = grind arith

-- a line is read
left_short : (f : Found) (input : List ℕ) → length input ≤ 12289 → length (left_by f input) ≤ 12289
left_short (found_is.First count) input h = omega (arith, length-drop count input)
left_short found_is.Skipped input h = h

-- a line is skipped
skip_with : (L : Type 0) (p : Option ℕ) (has_ended : Bool) (number : ℕ) (input : List ℕ) → length input ≤ 12289
    → IsBoundedAt {L = L} (cond (is_some p || has_ended) (stage.Came found_is.Skipped number) stage.Skips) (behind p input)
skip_with L None true number input h = omega arith
skip_with L None false number input h = omega arith
skip_with L (Some index) has_ended number input h = omega (arith, length-drop (index + 1) input)

module _ {L : Type 0} where
  pub skip_bounded : (has_ended : Bool) (number : ℕ) (c : Connection L) → length c.input ≤ 12289
      → IsBounded (Some (skip has_ended number c))
  skip_bounded has_ended number c h = skip_with L (break_at c.input) has_ended number c.input h

  seen_with : (f : Front) (number : ℕ) (c : Connection L) → front false c.input ≡ f → length c.input ≤ 12289
      → IsBounded (Some (seen_from f false number c))
  seen_with (front_is.Line count) number c is h = h
  seen_with front_is.Part number c is h = part_with (line_length false c.input) c.input is
  seen_with front_is.TooLong number c is h = skip_bounded false number c h

  go_on_bounded : (after : AfterReply) (at : Moment) (c : Connection L) → length c.input ≤ 12289 → IsBounded (go_on after at c)
  go_on_bounded after_reply.Closes at c h = tt
  go_on_bounded after_reply.GoesOn at c h =
      seen_with (front false c.input) at.number (record c { moved = at.now }) refl h

  keep_with : (b : Bool) (rest : List ℕ) (after : AfterReply) (at : Moment) (c : Connection L) → nat_le (length rest) 65536 ≡ b
      → length c.input ≤ 12289
      → IsBounded (cond b (Some (record c { stage = stage.Replies rest after; moved = at.now })) None)
  keep_with true rest after at c is h = (h, grind arith)
  keep_with false rest after at c is h = tt

  read_bounded_as : (line : L) (is_urgent : Bool) (c : Connection L) → IsBounded (Some c) → IsBounded (Some (read_as line is_urgent c))
  read_bounded_as line is_urgent c bounded = go c.stage bounded where
    go : (s : Stage L) → IsBoundedAt s c.input → IsBounded (Some (read_at s line is_urgent c))
    go stage.Awaits h = bounded
    go stage.Skips h = bounded
    go (stage.Came f number) h = left_short f c.input h
    go (stage.Waits other place) h = bounded
    go stage.Asked h = bounded
    go (stage.Replies reply after) h = bounded

  -- a line is taken
  pub asked_bounded : (c : Connection L) → IsBounded (Some c) → IsBounded (Some (asked c))
  asked_bounded c bounded = go c.stage bounded where
    go : (s : Stage L) → IsBoundedAt s c.input → IsBounded (Some (asked_at s c))
    go stage.Awaits h = bounded
    go stage.Skips h = bounded
    go (stage.Came f number) h = bounded
    go (stage.Waits line place) h = h
    go stage.Asked h = bounded
    go (stage.Replies reply after) h = bounded

  pub read_bounded : (reads : Whole → L → Type 0) (puts_first : L → Bool) (c d : Connection L) → IsReadBy reads puts_first c d
      → IsBounded (Some c) → IsBounded (Some d)
  read_bounded reads puts_first c d is bounded = go (whole_line c) is where
    go : (whole : Option Whole) → IsReadFrom whole reads puts_first c d → IsBounded (Some d)
    go None same = subst (λ x. IsBounded (Some x)) (sym same) bounded
    go (Some whole) q = subst (λ x. IsBounded (Some x)) (sym q.2) (read_bounded_as q.0 (puts_first q.0) c bounded)

  pub replied_bounded : (bytes : List ℕ) (after : AfterReply) (count : ℕ) (at : Moment) (c : Connection L) → IsBounded (Some c)
      → IsBounded (replied bytes after count at c)
  replied_bounded bytes after count at c bounded = go c.stage bounded where
    whole_or : (b : Bool) → length c.input ≤ 12289
        → IsBounded (cond b (go_on after at c) (keep (drop count bytes) after at c))
    whole_or true h = go_on_bounded after at c h
    whole_or false h = keep_with _ (drop count bytes) after at c refl h

    go : (s : Stage L) → IsBoundedAt s c.input → IsBounded (replied_at s bytes after count at c)
    go stage.Awaits h = bounded
    go stage.Skips h = bounded
    go (stage.Came f number) h = bounded
    go (stage.Waits line place) h = bounded
    go stage.Asked h = whole_or (nat_le (length bytes) count) h
    go (stage.Replies reply last) h = bounded

  pub wrote_bounded : (count : ℕ) (at : Moment) (c : Connection L) → IsBounded (Some c) → IsBounded (wrote count at c)
  wrote_bounded count at c bounded = go c.stage bounded where
    whole_or : (b : Bool) (reply : List ℕ) (after : AfterReply) (moved : ℕ) → length c.input ≤ 12289 → length reply ≤ 65536
        → IsBounded (cond b (go_on after at c) (Some (record c { stage = stage.Replies (drop count reply) after; moved = moved })))
    whole_or true reply after moved h small = go_on_bounded after at c h
    whole_or false reply after moved h small = (h, omega (arith, length-drop count reply, small))

    go : (s : Stage L) → IsBoundedAt s c.input → IsBounded (wrote_at s count at c)
    go stage.Awaits h = bounded
    go stage.Skips h = bounded
    go (stage.Came f number) h = bounded
    go (stage.Waits line place) h = bounded
    go stage.Asked h = bounded
    go (stage.Replies reply after) h = whole_or (nat_le (length reply) count) reply after _ h.0 h.1
