-- Pasts that give the same answers, except about their requests and their moment.
use Rattle.std.specs.Prelude.{◌≡◌, ℕ, Bool, true, false, List, Option, Some, None, nat_lt}
use Rattle.bg_history.specs.declared.entry.Entry.{Entry}
use Rattle.bg_history.specs.declared.entry.Entry.TheVariants.{Tick, Enter, Leave}
use Rattle.bg_strategy.specs.declared.strategy.Strategy.{Strategy}
use Rattle.bg_history.specs.Kept.{Opening}
use Rattle.bg_history.specs.AttemptBounds.{stable_of, newest_of, is_running, is_halted}
use Rattle.bg_history.specs.Attempts.{in_attempt, pass_moment, has_ready, has_resumed, has_switched, has_promote, has_promote_full, has_post_success}
use Rattle.bg_history.specs.Selections.{active_of}
use Rattle.bg_history.specs.Sizes.{existing, last_number, desired, available}
use Rattle.bg_history.specs.Marks.{MarkKind, Mark, mark}
use Rattle.bg_history.specs.Templates.{template}

-- a tick, or an entry of a request
abbrev pub is_quiet : Entry → Bool
is_quiet (Tick m) = true
is_quiet (Enter seat service number r port) = true
is_quiet (Leave seat number r) = true
is_quiet _ = false

-- the kind and the moment of a mark
pub record Said : Type 0 where
  pub kind : MarkKind
  pub at : ℕ

abbrev pub said : Option Mark → Option Said
said None = None
said (Some m) = Some (record { kind = m.kind; at = m.moment })

-- there are both marks, and the first comes before the second
abbrev pub earlier : Option Mark → Option Mark → Bool
earlier None y = false
earlier (Some x) None = false
earlier (Some x) (Some y) = nat_lt x.position y.position

-- the marks of each revision say the same, and have the same order
pub record MarksAlike (s : Strategy) (a b : List Entry) : Type 0 where
  pub say : (r : ℕ) → said (mark s r a) ≡ said (mark s r b)
  pub order : (q r : ℕ) → earlier (mark s q a) (mark s r a) ≡ earlier (mark s q b) (mark s r b)

-- the pasts give the same answer to each question that depends on neither requests nor the moment
pub record Alike (s : Strategy) (o : Opening) (a b : List Entry) : Type 0 where
  pub stable : stable_of a ≡ stable_of b
  pub newest : newest_of a ≡ newest_of b
  pub running : is_running a ≡ is_running b
  pub halted : is_halted a ≡ is_halted b
  pub active : active_of a ≡ active_of b
  pub exist : existing a ≡ existing b
  pub last : last_number a ≡ last_number b
  pub size : (r : ℕ) → desired s r a ≡ desired s r b
  pub reported : (r : ℕ) → available r a ≡ available r b
  pub templates : (r : ℕ) → template o r a ≡ template o r b
  pub attempt : (test : Entry → Bool)
      → ((e : Entry) → is_quiet e ≡ true → test e ≡ false)
      → in_attempt test a ≡ in_attempt test b
  pub pass : pass_moment s a ≡ pass_moment s b
  pub marks : MarksAlike s a b

-- the same has happened in the running attempts
pub record Attempted (a b : List Entry) : Type 0 where
  pub ready : has_ready a ≡ has_ready b
  pub resumed : has_resumed a ≡ has_resumed b
  pub switched : has_switched a ≡ has_switched b
  pub promote : has_promote a ≡ has_promote b
  pub full : has_promote_full a ≡ has_promote_full b
  pub success : has_post_success a ≡ has_post_success b
