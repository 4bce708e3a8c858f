-- A request that is written to its endpoint as it comes.
use Rattle.std.proofs.Common.{◌≡◌, true, ℕ, IsFalse, List, [], ◌++◌, take, drop, refl, ap, sym, ◌∙◌, append_assoc, subst, if◌then◌else◌, take-append-drop, Option, None, Some, IfSome}
use Rattle.std.proofs.lemmas.List.{append-nil}
use Rattle.bg_http.specs.Codings.{is_empty}
use Rattle.bg_http_read.specs.Bodies.{is_whole}
use Rattle.bg_http_read.specs.declared.body.BodyStage.{BodyStage}
use Rattle.bg_relay.specs.Relays.{BreaksOff, IsFaultAt, KeepsSides, PassesOn, RelayState, StandsFor, with_written}
use Rattle.bg_relay.specs.Laws.{IfItEnds}
use Rattle.bg_relay.specs.declared.framing.Framing.{Framing}
use Rattle.bg_relay.specs.declared.framing.Framing.TheVariants as framing
use Rattle.bg_relay.specs.declared.relay_fault.RelayFault.{RelayFault}
use Rattle.bg_relay.specs.declared.relay_fault.RelayFault.TheVariants as relay_fault
use Rattle.bg_upload.specs.Laws.{IsSent}
use Rattle.bg_upload.specs.OutgoingRequests.{IsFailure, IsSound, OutgoingState, tells_end, with_body_written, with_head_written, with_written as with_count_written}

-- ---- bytes of the body were taken

-- these bytes more came behind those that the relay took, it took the first of them, and the others wait
pub taken_on : (o : OutgoingState) (relay : RelayState) (came more left : List ℕ) → (s : IsSound o) → o.fault ≡ None
    → came ≡ s.input ++ (more ++ left) → PassesOn o.relay relay more → relay.fault ≡ None → KeepsSides o.relay relay
    → IsSound (record o { relay = relay; came = came; waiting = left })
taken_on o relay came more left s none came_is passes open_is sides = record {
  input = s.input ++ more;
  behind = left;
  output = s.output;
  came_is = came_is ∙ sym (append_assoc s.input more left);
  text_is = s.text_is;
  stands = passes s.input s.output s.stands;
  waits = λ still. (refl, open_is);
  fails = subst (λ fault. IfSome fault (λ f. IsFailure f relay.stage relay.left left)) (sym none) tt;
  incoming_ends = ap tells_end sides.incoming ∙ s.incoming_ends;
  outgoing_ends = ap tells_end sides.outgoing ∙ s.outgoing_ends;
}

-- the fault of a relay is that of the request
failure : (named : RelayFault) (stage : BodyStage) (left : ℕ) (bytes : List ℕ) → IsFalse (is_whole stage)
    → IsFaultAt named stage left bytes → IsFailure named stage left bytes
failure relay_fault.Malformed stage left bytes goes_on is = (goes_on, is)
failure relay_fault.Cut stage left bytes goes_on is = goes_on
failure relay_fault.TooLarge stage left bytes goes_on is = (goes_on, is)
failure relay_fault.OutOfMemory stage left bytes goes_on is = tt

-- a relay gives no cut while it is fed
pub no_cut : (named : RelayFault) (stage : BodyStage) (left : ℕ) (bytes : List ℕ) → IsFaultAt named stage left bytes
    → named ≡ relay_fault.Cut → ⊥
no_cut relay_fault.Malformed stage left bytes is e = cc
no_cut relay_fault.Cut stage left bytes is e = is
no_cut relay_fault.TooLarge stage left bytes is e = cc
no_cut relay_fault.OutOfMemory stage left bytes is e = cc

-- these bytes more came behind those that the relay took, and it refused a part of them
pub refused_on : (o : OutgoingState) (relay : RelayState) (came bytes : List ℕ) (named : RelayFault) → (s : IsSound o)
    → came ≡ s.input ++ bytes → BreaksOff o.relay relay bytes named → KeepsSides o.relay relay
    → IsSound (record o { relay = relay; came = came; fault = Some named })
refused_on o relay came bytes named s came_is (broken, kept) sides = record {
  input = s.input ++ take broken.taken bytes;
  behind = drop broken.taken bytes;
  output = s.output;
  came_is = came_is ∙ ap (λ l. s.input ++ l) (sym (take-append-drop broken.taken bytes))
      ∙ sym (append_assoc s.input (take broken.taken bytes) (drop broken.taken bytes));
  text_is = s.text_is;
  stands = broken.stands s.input s.output s.stands;
  waits = λ still. absurd (is_some still);
  fails = failure named relay.stage relay.left (drop broken.taken bytes) broken.goes_on broken.is_fault;
  incoming_ends = ap tells_end sides.incoming ∙ s.incoming_ends;
  outgoing_ends = ap tells_end sides.outgoing ∙ s.outgoing_ends;
}
  where
    is_some : ◌≡◌ {A = Option RelayFault} (Some named) None → ⊥
    is_some e = cc

-- all bytes that came, if nothing waits but these
pub came_all : (o : OutgoingState) (waits : List ℕ) → (s : IsSound o) → o.fault ≡ None → o.waiting ≡ waits → o.came ≡ s.input ++ waits
came_all o waits s none is = s.came_is ∙ ap (λ l. s.input ++ l) ((s.waits none).0 ∙ is)

-- ---- bytes were written

-- bytes of the head were written
pub head_sent : (o : OutgoingState) (left written : List ℕ) (more : List ℕ) → (s : IsSound o) → o.left ≡ more ++ left
    → written ≡ o.written ++ more → IsSound (record o { left = left; written = written })
head_sent o left written more s left_is written_is = record {
  input = s.input;
  behind = s.behind;
  output = s.output;
  came_is = s.came_is;
  text_is = ap (λ l. l ++ left) written_is ∙ append_assoc o.written more left ∙ ap (λ l. o.written ++ l) (sym left_is) ∙ s.text_is;
  stands = s.stands;
  waits = s.waits;
  fails = s.fails;
  incoming_ends = s.incoming_ends;
  outgoing_ends = s.outgoing_ends;
}

-- bytes of the body were written
pub body_sent : (o : OutgoingState) (relay : RelayState) (written : List ℕ) (count : ℕ) → (s : IsSound o) → o.left ≡ []
    → written ≡ o.written ++ take count o.relay.rest
    → ((input before : List ℕ) → StandsFor o.relay input before → StandsFor relay input (before ++ take count o.relay.rest))
    → relay ≡ with_written o.relay count
    → IsSound (record o { relay = relay; written = written })
body_sent o relay written count s none written_is stands same = record {
  input = s.input;
  behind = s.behind;
  output = s.output ++ more;
  came_is = s.came_is;
  text_is = ap (λ l. written ++ l) none ∙ append-nil written ∙ written_is
      ∙ ap (λ l. l ++ more) (sym (append-nil o.written) ∙ ap (λ l. o.written ++ l) (sym none) ∙ s.text_is)
      ∙ append_assoc o.head s.output more;
  stands = stands s.input s.output s.stands;
  waits = λ still. ((s.waits still).0, ap (λ r. r.fault) same ∙ (s.waits still).1);
  fails = subst (λ r. IfSome o.fault (λ f. IsFailure f r.stage r.left s.behind)) (sym same) s.fails;
  incoming_ends = ap (λ r. tells_end r.incoming) same ∙ s.incoming_ends;
  outgoing_ends = ap (λ r. tells_end r.outgoing) same ∙ s.outgoing_ends;
}
  where
    more : List ℕ
    more = take count o.relay.rest

-- the state after the body was written
pub body_state : (o : OutgoingState) (relay : RelayState) (written : List ℕ) (count : ℕ) → o.left ≡ []
    → written ≡ o.written ++ take count o.relay.rest → relay ≡ with_written o.relay count
    → record o { relay = relay; written = written } ≡ with_count_written count o
body_state o relay written count none written_is same =
    ap (λ r. record o { relay = r; written = written }) same
    ∙ ap (λ l. record o { relay = with_written o.relay count; written = l }) written_is
    ∙ sym (ap (λ l. if is_empty l then with_body_written count o else with_head_written count o) none)

-- ---- laws

-- what was written, and what is to be written
pub is_sent : (o : OutgoingState) → (s : IsSound o) → IsSent o s.input (s.output ++ o.relay.rest)
is_sent o s = record {
  behind = s.behind;
  came_is = s.came_is;
  text_is = sym (append_assoc o.written o.left o.relay.rest) ∙ ap (λ l. l ++ o.relay.rest) s.text_is
      ∙ append_assoc o.head s.output o.relay.rest;
}

-- a framing that ends by itself says so
pub if_it_ends : (named : Framing) (P : Type 0) → tells_end named ≡ true → IfItEnds named P → P
if_it_ends (framing.Length size) P ends h = h
if_it_ends framing.Chunks P ends h = h
if_it_ends framing.ToTheEnd P ends h = cc
