-- The facts about the rows of a simple command for words that it accepts, which each use keeps.
use Rattle.std.proofs.Common.{◌≡◌, ℕ, zero, suc, List, [], ◌∷◌, refl}
use Rattle.std.specs.Prelude.{Bool, true, false, not, ◌&&◌, Option, Some, None, is_some, find, fold, length, drop, slice_get, cond, encode_utf8, bytes_eq, chars}
use Rattle.std.specs.Option.{option_map_or}
use Rattle.clap.specs.Lexer.{long_of, short_of}
use Rattle.clap.specs.Walk.{Held, Names, Outcome, done, waits, plain, refused, Row, Rule, Step, next, trailing, subcommand, value, Text, Waiting, idle, option, positional, Walk, after_flag, after_step, arg_by_id, arg_by_index, arg_by_long, arg_by_short, attached_value, bundle, bundle_met, bundle_step, flag_met, has_long, has_short, is_pending, long_met, long_or_other, option_met, option_word, plain_word, reacted, settled, settled_rows, short_met, short_or_plain, subcommand_met, subcommand_or_other, takes_several, takes_values, to_positional, used, used_by_id, walked, walked_from, word_met}
use Rattle.clap.specs.Simple.{Shape}
use Rattle.clap.specs.Kinds.{Kinds, or_else}
use Rattle.clap.specs.Faults.{bundle_step_fault, flag_word_fault, flags_fault, long_fault, option_fault, other_fault, positional_fault, react_fault, settle_fault, short_fault, step_fault, stray_fault, turn_fault, use_fault, walk_fault, word_fault, bundle_fault}
use Rattle.clap.specs.declared.error.kind.ErrorKind.TheVariants as kind

pub none_else : (a b : Kinds) → or_else a b ≡ [] → (a ≡ []) × (b ≡ [])
none_else [] b e = (refl, e)
none_else (x ∷ xs) b e = cc

module _ (R : List Row → Type 0) (s : Shape)
    (keeps : (p : Rule → Bool) (a : Rule) → find p s.rules ≡ Some a → (values : List Text) (rows : List Row) → R rows
    → use_fault s.args_override_self a values rows ≡ [] → R (used a values rows)) where
  settle_by : (p : Rule → Bool) (o : Option Rule) (values : List Text) (rows : List Row) → find p s.rules ≡ o → R rows
      → option_map_or (λ a. use_fault s.args_override_self a values rows) o [] ≡ [] → R (used_by_id o values rows)
  settle_by p None values rows is r e = r
  settle_by p (Some a) values rows is r e = keeps p a is values rows r e

  settles : (pending : Option (Text × List Text)) (rows : List Row) → R rows
      → option_map_or (λ p. option_map_or (λ a. use_fault s.args_override_self a p.1 rows) (arg_by_id s.rules p.0) []) pending [] ≡ []
      → R (settled_rows s.rules pending rows)
  settles None rows r e = r
  settles (Some p) rows r e = settle_by (λ a. bytes_eq a.id p.0) (arg_by_id s.rules p.0) p.1 rows refl r e

  reacts : (p : Rule → Bool) (a : Rule) → find p s.rules ≡ Some a → (values : List Text) (h : Held) → R h.rows
      → react_fault s.rules s.args_override_self a values h ≡ [] → R (reacted s.rules a values h).rows
  reacts p a is values h r e =
      let f = none_else (settle_fault s.rules s.args_override_self h) _ e in
      keeps p a is values (settled s.rules h).rows (settles h.pending h.rows r f.0) f.1

  option_keeps : (p : Rule → Bool) (a : Rule) → find p s.rules ≡ Some a → (v : Option Text) (h : Held) → R h.rows
      → option_fault s.rules s.args_override_self a v h ≡ [] → R (option_met s.rules a v h).0.rows
  option_keeps p a is (Some v) h r e = reacts p a is (v ∷ []) h r e
  option_keeps p a is None h r e = settles h.pending h.rows r e

  flag_keeps : (p : Rule → Bool) (a : Rule) → find p s.rules ≡ Some a → (v : Option Text) (h : Held) → R h.rows
      → cond (is_some v) (kind.TooManyValues ∷ []) (react_fault s.rules s.args_override_self a [] h) ≡ [] → R (flag_met s.rules a v h).0.rows
  flag_keeps p a is (Some v) h r e = r
  flag_keeps p a is None h r e = reacts p a is [] h r e

  long_takes : (p : Rule → Bool) (a : Rule) → find p s.rules ≡ Some a → (b : Bool) (v : Option Text) (h : Held) → R h.rows
      → cond b (option_fault s.rules s.args_override_self a v h) (cond (is_some v) (kind.TooManyValues ∷ []) (react_fault s.rules s.args_override_self a [] h)) ≡ []
      → R (cond b (option_met s.rules a v h) (flag_met s.rules a v h)).0.rows
  long_takes p a is true v h r e = option_keeps p a is v h r e
  long_takes p a is false v h r e = flag_keeps p a is v h r e

  long_keeps : (p : Rule → Bool) (o : Option Rule) → find p s.rules ≡ o → (v : Option Text) (h : Held) → R h.rows
      → long_fault s.rules s.args_override_self o v h ≡ [] → R (long_met s.rules o v h).0.rows
  long_keeps p None is v h r e = r
  long_keeps p (Some a) is v h r e = long_takes p a is (takes_values a) v h r e

  short_takes : (p : Rule → Bool) (a : Rule) → find p s.rules ≡ Some a → (b : Bool) (rest : Text) (h : Held) (go : Held → Held × Outcome) (fault : Held → Kinds)
      → ((x : Held) → R x.rows → fault x ≡ [] → R (go x).0.rows) → R h.rows
      → cond b (option_fault s.rules s.args_override_self a (attached_value rest) h) (or_else (react_fault s.rules s.args_override_self a [] h) (fault (reacted s.rules a [] h))) ≡ []
      → R (cond b (option_met s.rules a (attached_value rest) h) (go (reacted s.rules a [] h))).0.rows
  short_takes p a is true rest h go fault step r e = option_keeps p a is (attached_value rest) h r e
  short_takes p a is false rest h go fault step r e =
      let f = none_else (react_fault s.rules s.args_override_self a [] h) _ e in
      step (reacted s.rules a [] h) (reacts p a is [] h r f.0) f.1

  short_keeps : (p : Rule → Bool) (o : Option Rule) → find p s.rules ≡ o → (rest : Text) (h : Held) (go : Held → Held × Outcome) (fault : Held → Kinds)
      → ((x : Held) → R x.rows → fault x ≡ [] → R (go x).0.rows) → R h.rows
      → short_fault s.rules s.args_override_self o rest h fault ≡ [] → R (short_met s.rules o rest h go).0.rows
  short_keeps p None is rest h go fault step r e = r
  short_keeps p (Some a) is rest h go fault step r e = short_takes p a is (takes_values a) rest h go fault step r e

  bundle_step_keeps : (x : Option ℕ) (flags : Text) (skip : ℕ) (so_far : Outcome) (h : Held) (go : Text → ℕ → Outcome → Held → Held × Outcome) (fault : Text → ℕ → Held → Kinds)
      → ((t : Text) (n : ℕ) (o : Outcome) (y : Held) → R y.rows → fault t n y ≡ [] → R (go t n o y).0.rows) → R h.rows
      → bundle_step_fault s.rules s.args_override_self x flags skip h fault ≡ [] → R (bundle_step s.rules x flags skip so_far h go).0.rows
  bundle_step_keeps None flags skip so_far h go fault step r e = r
  bundle_step_keeps (Some x) flags zero so_far h go fault step r e =
      let rest : Text = drop (length (encode_utf8 x)) flags in
      short_keeps (λ a. not (is_some a.index) && has_short a x) (arg_by_short s.rules x) refl rest h (go rest 0 done) (fault rest 0) (step rest 0 done) r e
  bundle_step_keeps (Some x) flags (suc skip) so_far h go fault step r e = step (drop (length (encode_utf8 x)) flags) skip so_far h r e

  flags_keep : (k : ℕ) (flags : Text) (skip : ℕ) (so_far : Outcome) (h : Held) → R h.rows
      → flags_fault s.rules s.args_override_self k flags skip h ≡ [] → R (bundle_met s.rules k flags skip so_far h).0.rows
  unfolding flags_fault bundle_met
  flags_keep zero flags skip so_far h r e = r
  flags_keep (suc k) flags skip so_far h r e =
      bundle_step_keeps (slice_get (chars flags) 0) flags skip so_far h (bundle_met s.rules k) (flags_fault s.rules s.args_override_self k) (flags_keep k) r e

  option_word_keeps : (o : Option Rule) (id word : Text) (h : Held) → R h.rows → R (option_word o id word h).0.rows
  option_word_keeps None id word h r = r
  option_word_keeps (Some a) id word h r = r

  plain_keeps : (w : Waiting) (word : Text) (h : Held) → R h.rows → R (plain_word s.rules w word h).0.rows
  plain_keeps idle word h r = r
  plain_keeps (option id) word h r = option_word_keeps (arg_by_id s.rules id) id word h r
  plain_keeps positional word h r = r

  after_keeps : (w : Waiting) (word : Text) (h : Held) (o : Outcome) → R h.rows → R (after_flag s.rules w word h o).0.rows
  after_keeps w word h done r = r
  after_keeps w word h (waits id) r = r
  after_keeps w word h plain r = plain_keeps w word h r
  after_keeps w word h refused r = plain_keeps w word h r

  short_or_plain_keeps : (o : Option Text) (w : Waiting) (word : Text) (h : Held) → R h.rows
      → option_map_or (λ flags. bundle_fault s.rules s.args_override_self flags h) o [] ≡ [] → R (short_or_plain s.rules w word o h).0.rows
  short_or_plain_keeps (Some flags) w word h r e =
      after_keeps w word (bundle s.rules flags h).0 (bundle s.rules flags h).1 (flags_keep (length flags) flags h.skip plain (record h { skip = 0 }) r e)
  short_or_plain_keeps None w word h r e = plain_keeps w word h r

  long_or_other_keeps : (o : Option (Text × Option Text)) (w : Waiting) (word : Text) (h : Held) → R h.rows
      → flag_word_fault s.rules s.args_override_self o word h ≡ [] → R (long_or_other s.rules w word o h).0.rows
  long_or_other_keeps (Some p) w word h r e =
      after_keeps w word (long_met s.rules (arg_by_long s.rules p.0) p.1 h).0 (long_met s.rules (arg_by_long s.rules p.0) p.1 h).1
      (long_keeps (λ a. not (is_some a.index) && has_long a p.0) (arg_by_long s.rules p.0) refl p.1 h r e)
  long_or_other_keeps None w word h r e = short_or_plain_keeps (short_of word) w word h r e

  dash_keeps : (b : Bool) (w : Waiting) (position : ℕ) (word : Text) (h : Held) → R h.rows
      → cond b [] (flag_word_fault s.rules s.args_override_self (long_of word) word h) ≡ []
      → R (cond b (h, trailing position) (long_or_other s.rules w word (long_of word) h)).0.rows
  dash_keeps true w position word h r e = r
  dash_keeps false w position word h r e = long_or_other_keeps (long_of word) w word h r e

  other_keeps : (o : Option Text) (w : Waiting) (position : ℕ) (word : Text) (h : Held) → R h.rows
      → other_fault s o word h ≡ [] → R (subcommand_or_other s.rules o w position word h).0.rows
  other_keeps (Some name) w position word h r e = r
  other_keeps None w position word h r e = dash_keeps (bytes_eq word (45 ∷ 45 ∷ [])) w position word h r e

  word_keeps : (names : Names) (t : Bool) (w : Waiting) (position : ℕ) (word : Text) (h : Held) → R h.rows
      → word_fault s names t w word h ≡ [] → R (word_met s.rules names t w position word h).0.rows
  word_keeps names true w position word h r e = r
  word_keeps names false w position word h r e = other_keeps (subcommand_met names w word) w position word h r e

  held_keeps : (b : Bool) (h : Held) → R h.rows → cond b [] (settle_fault s.rules s.args_override_self h) ≡ [] → R (cond b h (settled s.rules h)).rows
  held_keeps true h r e = r
  held_keeps false h r e = settles h.pending h.rows r e

  positional_keeps : (o : Option Rule) (word : Text) (w : Walk) (h : Held) → R h.rows
      → option_map_or (λ a. positional_fault s.rules s.args_override_self a h) o (stray_fault s) ≡ [] → R (to_positional s.rules o word w h).held.rows
  positional_keeps None word w h r e = r
  positional_keeps (Some a) word w h r e = held_keeps (is_pending a h.pending && takes_several a) h r e

  step_keeps : (x : Step) (word : Text) (w : Walk) (h : Held) → R h.rows → step_fault s w.position h x ≡ [] → R (after_step s.rules word w h x).held.rows
  step_keeps (next waiting) word w h r e = r
  step_keeps (trailing position) word w h r e = r
  step_keeps (subcommand name) word w h r e = r
  step_keeps value word w h r e = positional_keeps (arg_by_index s.rules w.position) word w h r e

  turn_keeps : (names : Names) (o : Option (Text × List Text)) (w : Walk) (word : Text) → R w.held.rows
      → (let met = word_met s.rules names w.is_trailing w.waiting w.position word w.held in
      cond (is_some o) [] (or_else (word_fault s names w.is_trailing w.waiting word w.held) (step_fault s w.position met.0 met.1))) ≡ []
      → R (walked_from s.rules names o w word).held.rows
  turn_keeps names (Some p) w word r e = r
  turn_keeps names None w word r e =
      let f = none_else (word_fault s names w.is_trailing w.waiting word w.held) _ e in
      let met = word_met s.rules names w.is_trailing w.waiting w.position word w.held in
      step_keeps met.1 word w met.0 (word_keeps names w.is_trailing w.waiting w.position word w.held r f.0) f.1

  pub walk_keeps : (names : Names) (words : List Text) (w : Walk) → R w.held.rows → walk_fault s names w words ≡ [] → R (fold (walked s.rules names) w words).held.rows
  unfolding walk_fault walked
  walk_keeps names [] w r e = r
  walk_keeps names (word ∷ rest) w r e =
      let f = none_else (turn_fault s names w word) _ e in
      walk_keeps names rest (walked s.rules names w word) (turn_keeps names w.stopped w word r f.0) f.1

  pub settled_keeps : (h : Held) → R h.rows → settle_fault s.rules s.args_override_self h ≡ [] → R (settled s.rules h).rows
  settled_keeps h r e = settles h.pending h.rows r e
