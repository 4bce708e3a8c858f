-- Pasts that give the same answers.
use Rattle.std.proofs.Common.{◌≡◌, Bool, true, false, ◌&&◌, ◌||◌, List, ◌∷◌, refl, ap, sym, ◌∙◌}
use Rattle.bg_history.specs.declared.entry.Entry.{Entry}
use Rattle.bg_history.specs.declared.entry.Entry.TheVariants.{Tick, Enter, Leave}
use Rattle.bg_strategy.specs.declared.strategy.Strategy.{Strategy}
use Rattle.bg_history.specs.Kept.{Opening}
use Rattle.bg_history.specs.AttemptBounds.{moment, is_running}
use Rattle.bg_history.specs.Attempts.{in_attempt, is_ready}
use Rattle.bg_history_laws.specs.Alike.{is_quiet, said, Alike}
use Rattle.bg_history_laws.proofs.Compacted.Steps.{stable-both, newest-both, running-both, halted-both, active-both, exist-both, last-both, begins-both, size-both, reported-both, templates-both, attempt-both, pass-both}
use Rattle.bg_history_laws.proofs.Compacted.Marks.{marks-both, kinds-both, quiet-mark}

pub alike_itself : (s : Strategy) (o : Opening) (a : List Entry) → Alike s o a a
alike_itself s o a = record {
  stable = refl;
  newest = refl;
  running = refl;
  halted = refl;
  active = refl;
  exist = refl;
  last = refl;
  size = λ r. refl;
  reported = λ r. refl;
  templates = λ r. refl;
  attempt = λ t q. refl;
  pass = refl;
  marks = record { say = λ r. refl; order = λ q r. refl };
}

pub alike_back : {s : Strategy} {o : Opening} {a b : List Entry} → Alike s o a b → Alike s o b a
alike_back h = record {
  stable = sym h.stable;
  newest = sym h.newest;
  running = sym h.running;
  halted = sym h.halted;
  active = sym h.active;
  exist = sym h.exist;
  last = sym h.last;
  size = λ r. sym (h.size r);
  reported = λ r. sym (h.reported r);
  templates = λ r. sym (h.templates r);
  attempt = λ t q. sym (h.attempt t q);
  pass = sym h.pass;
  marks = record { say = λ r. sym (h.marks.say r); order = λ q r. sym (h.marks.order q r) };
}

pub alike_then : {s : Strategy} {o : Opening} {a b c : List Entry} → Alike s o a b → Alike s o b c → Alike s o a c
alike_then h k = record {
  stable = h.stable ∙ k.stable;
  newest = h.newest ∙ k.newest;
  running = h.running ∙ k.running;
  halted = h.halted ∙ k.halted;
  active = h.active ∙ k.active;
  exist = h.exist ∙ k.exist;
  last = h.last ∙ k.last;
  size = λ r. h.size r ∙ k.size r;
  reported = λ r. h.reported r ∙ k.reported r;
  templates = λ r. h.templates r ∙ k.templates r;
  attempt = λ t q. h.attempt t q ∙ k.attempt t q;
  pass = h.pass ∙ k.pass;
  marks = record { say = λ r. h.marks.say r ∙ k.marks.say r; order = λ q r. h.marks.order q r ∙ k.marks.order q r };
}

-- a test for Ready passes no quiet entry
ready-quiet : (e : Entry) → is_quiet e ≡ true → is_ready e ≡ false
ready-quiet (Tick m) q = refl
ready-quiet (Enter seat service number r port) q = refl
ready-quiet (Leave seat number r) q = refl
ready-quiet e q = absurd (cc)

-- one more entry in front of both, at the same moment
pub alike_both : {s : Strategy} {o : Opening} {a b : List Entry} → (e : Entry) → Alike s o a b → moment a ≡ moment b → moment (e ∷ a) ≡ moment (e ∷ b) → Alike s o (e ∷ a) (e ∷ b)
alike_both {s} {o} {a} {b} e h was now = record {
  stable = stable-both e a b h.stable;
  newest = newest-both e a b h.newest;
  running = running-both e a b h.stable h.running;
  halted = halted-both e a b h.halted;
  active = active-both e a b h.stable h.active;
  exist = exist-both e a b h.exist;
  last = last-both e a b h.last;
  size = λ r. size-both s r e a b (begins-both r e a b h.stable h.newest) (h.size r);
  reported = λ r. reported-both r e a b (h.reported r);
  templates = λ r. templates-both o r e a b (h.templates r);
  attempt = λ t q. attempt-both t e a b h.running (h.attempt t q);
  pass = pass-both s e a b h.running (h.attempt is_ready ready-quiet) was h.pass;
  marks = marks-both s e a b (kinds-both s e a b h.stable h.newest h.active (active-both e a b h.stable h.active) h.size) now h.marks;
}

no-test : (t running rest : Bool) → t ≡ false → (t && running) || rest ≡ rest
no-test true running rest h = absurd (cc)
no-test false running rest h = refl

-- a quiet entry in front changes no answer
pub alike_quiet : (s : Strategy) (o : Opening) (e : Entry) (a : List Entry) → is_quiet e ≡ true → Alike s o (e ∷ a) a
alike_quiet s o (Tick m) a q = record {
  stable = refl;
  newest = refl;
  running = refl;
  halted = refl;
  active = refl;
  exist = refl;
  last = refl;
  size = λ r. refl;
  reported = λ r. refl;
  templates = λ r. refl;
  attempt = λ t no. no-test (t (Tick m)) (is_running a) (in_attempt t a) (no (Tick m) refl);
  pass = refl;
  marks = record { say = λ r. ap said (quiet-mark s r (Tick m) a refl); order = λ q r. rw (quiet-mark s q (Tick m) a refl, quiet-mark s r (Tick m) a refl) refl };
}
alike_quiet s o (Enter seat service number v port) a q = record {
  stable = refl;
  newest = refl;
  running = refl;
  halted = refl;
  active = refl;
  exist = refl;
  last = refl;
  size = λ r. refl;
  reported = λ r. refl;
  templates = λ r. refl;
  attempt = λ t no. no-test (t (Enter seat service number v port)) (is_running a) (in_attempt t a) (no (Enter seat service number v port) refl);
  pass = refl;
  marks = record {
    say = λ r. ap said (quiet-mark s r (Enter seat service number v port) a refl);
    order = λ q r. rw (quiet-mark s q (Enter seat service number v port) a refl, quiet-mark s r (Enter seat service number v port) a refl) refl;
  };
}
alike_quiet s o (Leave seat number v) a q = record {
  stable = refl;
  newest = refl;
  running = refl;
  halted = refl;
  active = refl;
  exist = refl;
  last = refl;
  size = λ r. refl;
  reported = λ r. refl;
  templates = λ r. refl;
  attempt = λ t no. no-test (t (Leave seat number v)) (is_running a) (in_attempt t a) (no (Leave seat number v) refl);
  pass = refl;
  marks = record {
    say = λ r. ap said (quiet-mark s r (Leave seat number v) a refl);
    order = λ q r. rw (quiet-mark s q (Leave seat number v) a refl, quiet-mark s r (Leave seat number v) a refl) refl;
  };
}
alike_quiet s o e a q = absurd (cc)
