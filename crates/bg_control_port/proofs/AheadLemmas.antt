-- The steps of a connection keep what it will still be given.
use Rattle.std.proofs.Common.{◌≡◌, ◌==◌, ℕ, ◌+◌, ◌≤◌, Bool, true, false, ◌||◌, cond, is_some, List, [], ◌∷◌, ◌++◌, length, drop, take, nat_le, nat_lt}
use Rattle.std.proofs.Common.{Option, Some, None, refl, sym, subst, ap, ◌∙◌, arith, inl, inr, ◌⊎◌, append_assoc, append-nil}
use Rattle.std.proofs.lemmas.List.{length-append}
use Rattle.std.proofs.Math.Seq.{drop-length, take-length}
use Rattle.bg_control_port.proofs.LineLemmas.{IsSplit, NoBreak, after_none, after_some, break_none, break_some, drop-split, given_none, given_some, given_text, no_break-append, split, take-split}
use Rattle.bg_control_port.specs.Ahead.{EndKeepsLines, Event, IsSameAtEnd, LinesAreRead, Steps, ahead, ahead_at, bytes_came, bytes_in, bytes_of_all, lines_in, lines_of_all, was_answered, was_given, was_read, was_taken}
use Rattle.bg_control_port.specs.Bounds.{IsBoundedAt}
use Rattle.bg_control_port.specs.Fronts.{front_with, length_with}
use Rattle.bg_control_port.specs.Lines.{Bytes, TooLong, Whole, after_break, behind, break_at, given}
use Rattle.bg_control_port.specs.Stages.{interest_of}
use Rattle.bg_control_port.specs.Steps.{asked, asked_at, came, came_at, ended_at, given_at, given_line, go_on, keep, left_by, read_as, read_at, replied, replied_at, seen, seen_from, skip, whole_at, whole_line, wrote, wrote_at}
use Rattle.bg_control_port.specs.declared.connection.Connection.{Connection}
use Rattle.bg_control_port.specs.declared.connection.Interest.TheVariants as interest
use Rattle.bg_control_port.specs.declared.connection.Moment.{Moment}
use Rattle.bg_control_port.specs.declared.connection.Stage.{Stage}
use Rattle.bg_control_port.specs.declared.connection.Stage.TheVariants as stage
use Rattle.bg_control_port.specs.declared.buffer.Front.{Front}
use Rattle.bg_control_port.specs.declared.buffer.Front.TheVariants as front_is
use Rattle.bg_control_port.specs.declared.buffer.Found.TheVariants as found_is
use Rattle.bg_control_port.specs.declared.reply.AfterReply.{AfterReply}
use Rattle.bg_control_port.specs.declared.reply.AfterReply.TheVariants as after_reply

long_append : (one other : List ℕ) → nat_le 4098 (length one) ≡ true → nat_le 4098 (length (one ++ other)) ≡ true
long_append one other h = let l = length-append one other in grind (arith, h, l)

-- behind bytes without a line break
after_open : (input more : List ℕ) → NoBreak input → after_break (input ++ more) ≡ after_break more
after_open input more n = go (split more) where
  go : NoBreak more ⊎ IsSplit more → after_break (input ++ more) ≡ after_break more
  go (inl m) = after_none (input ++ more) (no_break-append input more n m) ∙ sym (after_none more m)
  go (inr s) = subst (λ bytes. after_break (input ++ bytes) ≡ after_break bytes) (sym s.parts)
      (ap after_break (sym (append_assoc input s.text (10 ∷ s.rest)))
      ∙ after_some (input ++ s.text) s.rest (no_break-append input s.text n s.none)
      ∙ sym (after_some s.text s.rest s.none))

-- a line that is too long
given_long : (input more : List ℕ) → NoBreak input → nat_le 4098 (length input) ≡ true
    → given (input ++ more) ≡ TooLong ∷ given (after_break more)
given_long [] more n h = absurd (cc)
given_long (byte ∷ text) more n h = go (split more) where
  go : NoBreak more ⊎ IsSplit more → given ((byte ∷ text) ++ more) ≡ TooLong ∷ given (after_break more)
  go (inl m) =
      given_none byte (text ++ more) (no_break-append (byte ∷ text) more n m)
      ∙ ap (λ t. cond t TooLong (Bytes (byte ∷ (text ++ more))) ∷ []) (long_append (byte ∷ text) more h)
      ∙ ap (λ rest. TooLong ∷ given rest) (sym (after_none more m))
  go (inr s) = subst (λ bytes. given ((byte ∷ text) ++ bytes) ≡ TooLong ∷ given (after_break bytes)) (sym s.parts)
      (ap given (sym (append_assoc (byte ∷ text) s.text (10 ∷ s.rest)))
      ∙ given_some ((byte ∷ text) ++ s.text) s.rest (no_break-append (byte ∷ text) s.text n s.none)
      ∙ ap (λ t. cond t TooLong (Bytes (((byte ∷ text) ++ s.text) ++ 10 ∷ [])) ∷ given s.rest) (long_append (byte ∷ text) s.text h)
      ∙ ap (λ rest. TooLong ∷ given rest) (sym (after_some s.text s.rest s.none)))

-- what is given for an input with a line break, and more behind it
given_more : (text rest more : List ℕ) → NoBreak text
    → given ((text ++ 10 ∷ rest) ++ more) ≡ given_text text (text ++ 10 ∷ []) ∷ given (rest ++ more)
given_more text rest more n = ap given (append_assoc text (10 ∷ rest) more) ∙ given_some text (rest ++ more) n

after_more : (text rest more : List ℕ) → NoBreak text → after_break ((text ++ 10 ∷ rest) ++ more) ≡ rest ++ more
after_more text rest more n = ap after_break (append_assoc text (10 ∷ rest) more) ∙ after_some text (rest ++ more) n

-- what is still given after a line is skipped whose line break stands there
abbrev skips : (L : Type 0) → ℕ → List ℕ → Option ℕ → List ℕ → List Whole
skips L number more p input = ahead_at {L = L} (cond (is_some p || false) (stage.Came found_is.Skipped number) stage.Skips) (behind p input) more

short : (n : ℕ) → nat_le (n + 1) 4098 ≡ true → nat_le 4098 n ≡ false
short n h = grind arith

long : (n : ℕ) → nat_le (n + 1) 4098 ≡ false → nat_le 4098 n ≡ true
long n h = grind arith

-- a line with its line break
line_ahead : (text rest more : List ℕ) → NoBreak text → nat_le 4098 (length text) ≡ false
    → Bytes (take (length text + 1) (text ++ 10 ∷ rest)) ∷ given (drop (length text + 1) (text ++ 10 ∷ rest) ++ more)
    ≡ given ((text ++ 10 ∷ rest) ++ more)
line_ahead text rest more n h =
    ap (λ line. Bytes line ∷ given (drop (length text + 1) (text ++ 10 ∷ rest) ++ more)) (take-split text rest)
    ∙ ap (λ left. Bytes (text ++ 10 ∷ []) ∷ given (left ++ more)) (drop-split text rest)
    ∙ ap (λ t. cond t TooLong (Bytes (text ++ 10 ∷ [])) ∷ given (rest ++ more)) (sym h)
    ∙ sym (given_more text rest more n)

whole_or : Option Whole → Whole
whole_or None = TooLong
whole_or (Some whole) = whole

module _ {L : Type 0} where
  skip_ahead : (number : ℕ) (c : Connection L) (more : List ℕ)
      → ahead (skip false number c) more ≡ TooLong ∷ given (after_break (c.input ++ more))
  skip_ahead number c more = go (split c.input) where
    go : NoBreak c.input ⊎ IsSplit c.input → ahead (skip false number c) more ≡ TooLong ∷ given (after_break (c.input ++ more))
    go (inl n) =
        ap (λ p. skips L number more p c.input) (break_none c.input n) ∙ ap (λ rest. TooLong ∷ given rest) (sym (after_open c.input more n))
    go (inr s) = subst (λ input. skips L number more (break_at input) input ≡ TooLong ∷ given (after_break (input ++ more))) (sym s.parts)
        (ap (λ p. skips L number more p (s.text ++ 10 ∷ s.rest)) (break_some s.text s.rest s.none)
        ∙ ap (λ rest. TooLong ∷ given (rest ++ more)) (drop-split s.text s.rest)
        ∙ ap (λ rest. TooLong ∷ given rest) (sym (after_more s.text s.rest more s.none)))

  -- what is still given after this was seen at the front of the input
  abbrev sees : ℕ → Connection L → List ℕ → Front → List ℕ → List Whole
  sees number c more f input = ahead (seen_from f false number (record c { input = input })) more

  pub seen_ahead : (number : ℕ) (c : Connection L) (more : List ℕ) → ahead (seen false number c) more ≡ given (c.input ++ more)
  seen_ahead number c more = go (split c.input) where
    open_input : (b : Bool) (input : List ℕ) → NoBreak input → nat_le 4098 (length input) ≡ b
        → sees number c more (cond b front_is.TooLong front_is.Part) input ≡ given (input ++ more)
    open_input true input n e =
        skip_ahead number (record c { input = input }) more
        ∙ ap (λ rest. TooLong ∷ given rest) (after_open input more n)
        ∙ sym (given_long input more n e)
    open_input false input n e = refl

    text_input : (b : Bool) (text rest : List ℕ) → NoBreak text → nat_le (length text + 1) 4098 ≡ b
        → sees number c more (cond b (front_is.Line (length text + 1)) front_is.TooLong) (text ++ 10 ∷ rest)
        ≡ given ((text ++ 10 ∷ rest) ++ more)
    text_input true text rest n e = line_ahead text rest more n (short (length text) e)
    text_input false text rest n e =
        skip_ahead number (record c { input = text ++ 10 ∷ rest }) more
        ∙ ap (λ left. TooLong ∷ given left) (after_more text rest more n)
        ∙ ap (λ t. cond t TooLong (Bytes (text ++ 10 ∷ [])) ∷ given (rest ++ more)) (sym (long (length text) e))
        ∙ sym (given_more text rest more n)

    go : NoBreak c.input ⊎ IsSplit c.input → ahead (seen false number c) more ≡ given (c.input ++ more)
    go (inl n) =
        ap (λ p. sees number c more (front_with (length_with p false c.input) c.input) c.input) (break_none c.input n)
        ∙ open_input (nat_le 4098 (length c.input)) c.input n refl
    go (inr s) =
        subst (λ input. sees number c more (front_with (length_with (break_at input) false input) input) input ≡ given (input ++ more))
        (sym s.parts)
        (ap (λ p. sees number c more (front_with (length_with p false (s.text ++ 10 ∷ s.rest)) (s.text ++ 10 ∷ s.rest)) (s.text ++ 10 ∷ s.rest))
        (break_some s.text s.rest s.none)
        ∙ text_input (nat_le (length s.text + 1) 4098) s.text s.rest s.none refl)

  -- what an option has, if it has something
  has_or : Connection L → Option (Connection L) → Connection L
  has_or c None = c
  has_or c (Some d) = d

  same_connection : (c d : Connection L) → Some c ≡ Some d → d ≡ c
  unfolding has_or
  same_connection c d e = sym (ap (has_or c) e)

  -- the step changes nothing
  unchanged : (c d : Connection L) (s : Stage L) (more : List ℕ) → c.stage ≡ s → Some c ≡ Some d
      → ahead d more ≡ ahead_at s c.input more
  unchanged c d s more is e =
      ap (λ x. ahead x more) (same_connection c d e) ∙ ap (λ t. ahead_at t c.input more) is

  came_ahead : (bytes : List ℕ) (at : Moment) (c : Connection L) (more : List ℕ) → interest_of c.stage ≡ Some interest.Input
      → ahead (came bytes at c) more ≡ ahead c (bytes ++ more)
  came_ahead bytes at c more awaits = go c.stage awaits where
    go : (s : Stage L) → interest_of s ≡ Some interest.Input
        → ahead (came_at s bytes at c) more ≡ ahead_at s c.input (bytes ++ more)
    go stage.Awaits e =
        seen_ahead at.number (record c { input = c.input ++ bytes; moved = at.now }) more
        ∙ ap given (append_assoc c.input bytes more)
    go stage.Skips e =
        skip_ahead at.number (record c { input = c.input ++ bytes }) more
        ∙ ap (λ all. TooLong ∷ given (after_break all)) (append_assoc c.input bytes more)
    go (stage.Came f number) e = absurd (cc)
    go (stage.Waits line place) e = absurd (cc)
    go stage.Asked e = absurd (cc)
    go (stage.Replies reply after) e = absurd (cc)

  read_ahead : (whole : Whole) (line : L) (is_urgent : Bool) (c : Connection L) (more : List ℕ) → whole_line c ≡ Some whole
      → whole ∷ ahead (read_as line is_urgent c) more ≡ ahead c more
  unfolding whole_or
  read_ahead whole line is_urgent c more is = go c.stage is where
    go : (s : Stage L) → whole_at s c.input ≡ Some whole → whole ∷ ahead (read_at s line is_urgent c) more ≡ ahead_at s c.input more
    go stage.Awaits e = absurd (cc)
    go stage.Skips e = absurd (cc)
    go (stage.Came f number) e = ap (λ first. first ∷ given (left_by f c.input ++ more)) (sym (ap whole_or e))
    go (stage.Waits other place) e = absurd (cc)
    go stage.Asked e = absurd (cc)
    go (stage.Replies reply after) e = absurd (cc)

  asked_ahead : (line : L) (c : Connection L) (more : List ℕ) → given_line c ≡ Some line → ahead (asked c) more ≡ ahead c more
  asked_ahead line c more is = go c.stage is where
    go : (s : Stage L) → given_at s ≡ Some line → ahead (asked_at s c) more ≡ ahead_at s c.input more
    go stage.Awaits e = absurd (cc)
    go stage.Skips e = absurd (cc)
    go (stage.Came f number) e = absurd (cc)
    go (stage.Waits other place) e = refl
    go stage.Asked e = absurd (cc)
    go (stage.Replies reply after) e = absurd (cc)

  go_on_ahead : (after : AfterReply) (at : Moment) (c d : Connection L) (more : List ℕ) → go_on after at c ≡ Some d
      → ahead d more ≡ given (c.input ++ more)
  go_on_ahead after_reply.Closes at c d more e = absurd (cc)
  go_on_ahead after_reply.GoesOn at c d more e =
      ap (λ x. ahead x more) (same_connection (seen false at.number (record c { moved = at.now })) d e)
      ∙ seen_ahead at.number (record c { moved = at.now }) more

  replied_ahead : (bytes : List ℕ) (after : AfterReply) (count : ℕ) (at : Moment) (c d : Connection L) (more : List ℕ)
      → replied bytes after count at c ≡ Some d → ahead d more ≡ ahead c more
  replied_ahead bytes after count at c d more is = go c.stage refl is where
    kept : (b : Bool) (rest : List ℕ)
        → cond b (Some (record c { stage = stage.Replies rest after; moved = at.now })) None ≡ Some d
        → ahead d more ≡ given (c.input ++ more)
    kept true rest e = ap (λ x. ahead x more) (same_connection (record c { stage = stage.Replies rest after; moved = at.now }) d e)
    kept false rest e = absurd (cc)

    whole_or : (b : Bool) → cond b (go_on after at c) (keep (drop count bytes) after at c) ≡ Some d
        → ahead d more ≡ given (c.input ++ more)
    whole_or true e = go_on_ahead after at c d more e
    whole_or false e = kept (nat_le (length (drop count bytes)) 65536) (drop count bytes) e

    go : (s : Stage L) → c.stage ≡ s → replied_at s bytes after count at c ≡ Some d → ahead d more ≡ ahead_at s c.input more
    go stage.Awaits same e = unchanged c d stage.Awaits more same e
    go stage.Skips same e = unchanged c d stage.Skips more same e
    go (stage.Came f number) same e = unchanged c d (stage.Came f number) more same e
    go (stage.Waits line place) same e = unchanged c d (stage.Waits line place) more same e
    go stage.Asked same e = whole_or (nat_le (length bytes) count) e
    go (stage.Replies reply last) same e = unchanged c d (stage.Replies reply last) more same e

  wrote_ahead : (count : ℕ) (at : Moment) (c d : Connection L) (more : List ℕ) → wrote count at c ≡ Some d
      → ahead d more ≡ ahead c more
  wrote_ahead count at c d more is = go c.stage refl is where
    whole_or : (b : Bool) (reply : List ℕ) (after : AfterReply) (moved : ℕ)
        → cond b (go_on after at c) (Some (record c { stage = stage.Replies (drop count reply) after; moved = moved })) ≡ Some d
        → ahead d more ≡ given (c.input ++ more)
    whole_or true reply after moved e = go_on_ahead after at c d more e
    whole_or false reply after moved e =
        ap (λ x. ahead x more) (same_connection (record c { stage = stage.Replies (drop count reply) after; moved = moved }) d e)

    go : (s : Stage L) → c.stage ≡ s → wrote_at s count at c ≡ Some d → ahead d more ≡ ahead_at s c.input more
    go stage.Awaits same e = unchanged c d stage.Awaits more same e
    go stage.Skips same e = unchanged c d stage.Skips more same e
    go (stage.Came f number) same e = unchanged c d (stage.Came f number) more same e
    go (stage.Waits line place) same e = unchanged c d (stage.Waits line place) more same e
    go stage.Asked same e = unchanged c d stage.Asked more same e
    go (stage.Replies reply after) same e = whole_or (nat_le (length reply) count) reply after _ e

  step_ahead : (event : Event L) (old new : Connection L) (more : List ℕ) → Steps event old new
      → lines_in event ++ ahead new more ≡ ahead old (bytes_in event ++ more)
  step_ahead (bytes_came bytes at) old new more steps =
      ap (λ x. ahead x more) steps.1 ∙ came_ahead bytes at old more steps.0
  step_ahead (was_read whole line is_urgent) old new more steps =
      ap (λ x. whole ∷ ahead x more) steps.1 ∙ read_ahead whole line is_urgent old more steps.0
  step_ahead (was_given line) old new more steps =
      ap (λ x. ahead x more) steps.1 ∙ asked_ahead line old more steps.0
  step_ahead (was_answered bytes after count at) old new more steps = replied_ahead bytes after count at old new more steps
  step_ahead (was_taken count at) old new more steps = wrote_ahead count at old new more steps

  pub lines_are_read : (events : List (Event L)) (old new : Connection L) (more : List ℕ) → LinesAreRead events old new more
  lines_are_read [] old new more runs = ap (λ x. ahead x more) runs
  lines_are_read (event ∷ events) old new more runs =
      append_assoc (lines_in event) (lines_of_all events) (ahead new more)
      ∙ ap (λ lines. lines_in event ++ lines) (lines_are_read events runs.0 new more runs.2)
      ∙ step_ahead event old runs.0 (bytes_of_all events ++ more) runs.1
      ∙ ap (λ bytes. ahead old bytes) (sym (append_assoc (bytes_in event) (bytes_of_all events) more))

  -- the end of the input

  -- what is still given after the end, by the front of the input
  abbrev ends : ℕ → Connection L → Front → List ℕ → List Whole
  ends number c f input = ahead (seen_from f true number (record c { input = input })) []

  end_open : (number : ℕ) (c : Connection L) (byte : ℕ) (text : List ℕ) → NoBreak (byte ∷ text) → length (byte ∷ text) ≤ 4097
      → ahead (seen true number (record c { input = byte ∷ text })) [] ≡ given ((byte ∷ text) ++ [])
  end_open number c byte text n h =
      let input = byte ∷ text in
      let some : nat_lt 0 (length input) ≡ true = grind arith in
      let fits : nat_le (length input) 4098 ≡ true = grind (arith, h) in
      let few : nat_le 4098 (length input) ≡ false = grind (arith, h) in
      let all : take (length input) input ≡ input = take-length input in
      let none : drop (length input) input ≡ [] = drop-length input in
      ap (λ p. ends number c (front_with (length_with p true input) input) input) (break_none input n)
      ∙ ap (λ b. ends number c (front_with (cond b (Some (length input)) None) input) input) some
      ∙ ap (λ b. ends number c (cond b (front_is.Line (length input)) front_is.TooLong) input) fits
      ∙ ap (λ line. Bytes line ∷ given (drop (length input) input ++ [])) all
      ∙ ap (λ left. Bytes input ∷ given (left ++ [])) none
      ∙ ap (λ b. cond b TooLong (Bytes input) ∷ []) (sym few)
      ∙ sym (given_none byte text n)
      ∙ ap given (sym (append-nil input))

  end_text : (number : ℕ) (c : Connection L) (text rest : List ℕ) → NoBreak text → length (text ++ 10 ∷ rest) ≤ 4097
      → ahead (seen true number (record c { input = text ++ 10 ∷ rest })) [] ≡ given ((text ++ 10 ∷ rest) ++ [])
  end_text number c text rest n h =
      let input = text ++ 10 ∷ rest in
      let size = length-append text (10 ∷ rest) in
      let fits : nat_le (length text + 1) 4098 ≡ true = grind (arith, h, size) in
      ap (λ p. ends number c (front_with (length_with p true input) input) input) (break_some text rest n)
      ∙ ap (λ b. ends number c (cond b (front_is.Line (length text + 1)) front_is.TooLong) input) fits
      ∙ line_ahead text rest [] n (short (length text) fits)

  pub the_end_keeps_lines : (number : ℕ) (c : Connection L) → EndKeepsLines number c
  the_end_keeps_lines number c bounded = go c.stage refl bounded where
    awaits : (input : List ℕ) → length input ≤ 4097 → NoBreak input ⊎ IsSplit input
        → IsSameAtEnd (given (input ++ [])) (cond (length input == 0) None (Some (seen true number (record c { input = input }))))
    awaits [] h s = refl
    awaits (byte ∷ text) h s =
        let filled : (length (byte ∷ text) == 0) ≡ false = grind arith in
        subst (λ b. IsSameAtEnd (given ((byte ∷ text) ++ []))
        (cond b None (Some (seen true number (record c { input = byte ∷ text }))))) (sym filled) (last s)
      where
        last : NoBreak (byte ∷ text) ⊎ IsSplit (byte ∷ text)
            → ahead (seen true number (record c { input = byte ∷ text })) [] ≡ given ((byte ∷ text) ++ [])
        last (inl n) = end_open number c byte text n h
        last (inr s) =
            subst (λ input. ahead (seen true number (record c { input = input })) [] ≡ given (input ++ [])) (sym s.parts)
            (end_text number c s.text s.rest s.none (subst (λ input. length input ≤ 4097) s.parts h))

    skips_at : (input : List ℕ) → length input ≤ 0
        → ahead (skip true number (record c { input = input })) [] ≡ TooLong ∷ given (after_break (input ++ []))
    skips_at [] h = refl
    skips_at (byte ∷ text) h = absurd (omega (arith, h))

    go : (s : Stage L) → c.stage ≡ s → IsBoundedAt s c.input → IsSameAtEnd (ahead_at s c.input []) (ended_at s number c)
    go stage.Awaits same h = awaits c.input h (split c.input)
    go stage.Skips same h = skips_at c.input h
    go (stage.Came f number) same h = ap (λ t. ahead_at t c.input []) same
    go (stage.Waits line place) same h = ap (λ t. ahead_at t c.input []) same
    go stage.Asked same h = ap (λ t. ahead_at t c.input []) same
    go (stage.Replies reply after) same h = ap (λ t. ahead_at t c.input []) same
