-- A response whose head came, as it is passed on.
use Rattle.std.specs.Prelude.{◌≡◌, ℕ, ◌≤◌, ◌+◌, Bool, IsFalse, if◌then◌else◌, nat_lt, List, [], ◌++◌, drop, length, take, None, Some, ⊤}
use Rattle.bg_http.specs.Codings.{is_empty}
use Rattle.bg_http.specs.Persistences.{keeps}
use Rattle.bg_http.specs.declared.response.ResponseHead.{ResponseHead}
use Rattle.bg_http.specs.declared.response_rules.ResponseFraming.{ResponseFraming}
use Rattle.bg_http_read.specs.Bodies.{is_whole}
use Rattle.bg_relay.specs.Framings.{most_to_come}
use Rattle.bg_relay.specs.Relays.{IsFaultAt, KeepsSides, StandsFor}
use Rattle.bg_relay.specs.declared.relay_fault.RelayFault.{RelayFault}
use Rattle.bg_relay.specs.declared.relay_fault.RelayFault.TheVariants as relay_fault
use Rattle.bg_streams.specs.Faults.{body_fault}
use Rattle.bg_streams.specs.Framings.{incoming, outgoing}
use Rattle.bg_streams.specs.HeadTexts.{IsStreamed, head_text}
use Rattle.bg_streams.specs.declared.passing.Passing.{Passing}
use Rattle.bg_streams.specs.declared.stream_fault.StreamFault.{StreamFault}
use Rattle.bg_streams.specs.declared.stream_fault.StreamFault.TheVariants as stream
use Rattle.bg_streams.specs.declared.stream_terms.StreamTerms.{StreamTerms}

-- what is to be written of the head
abbrev pub head_rest : Passing → List ℕ
head_rest passing = drop passing.sent passing.head.items

-- what is to be written next
abbrev pub rest_of : Passing → List ℕ
rest_of passing = if is_empty (head_rest passing) then passing.relay.rest else head_rest passing

-- what is left to be written: of the head, and then of the body
abbrev pub whole_rest : Passing → List ℕ
whole_rest passing = head_rest passing ++ passing.relay.rest

-- what is held of the body is within the window and the framing of the last piece
abbrev pub IsWithin : Passing → Type 0
IsWithin passing = length passing.relay.rest ≤ passing.relay.window + 25

-- behind the head these bytes came, and these were written: the text of the head, and then what stands for the bytes that came. No
-- byte of that text was written exactly if none was written
pub record Delivers (passing : Passing) (kept : Bool) (came written : List ℕ) : Type 0 where
  pub output : List ℕ
  pub text_is : written ++ head_rest passing ≡ head_text kept passing.relay.outgoing passing.response ++ output
  pub stands : StandsFor passing.relay came output
  pub begins : passing.sent ≡ 0 → written ≡ []
  pub begun : written ≡ [] → passing.sent ≡ 0

-- what was written for the bytes that came is the same for these bytes more
abbrev pub DeliversOn : Passing → Passing → List ℕ → Type 0
DeliversOn old new taken =
    (kept : Bool) (came written : List ℕ) → Delivers old kept came written → Delivers new kept (came ++ taken) written

-- the response, and both framings of its body, are the same
pub record KeepsHead (old new : Passing) : Type 0 where
  pub response : new.response ≡ old.response
  pub framing : new.framing ≡ old.framing
  pub sides : KeepsSides old.relay new.relay

-- the response that has this head, before the first byte of its body
pub record Starts (terms : StreamTerms) (head : ResponseHead) (named : ResponseFraming) (passing : Passing) : Type 0 where
  pub said : IsStreamed named head passing.response
  pub framing_is : passing.framing ≡ named
  pub incoming_is : passing.relay.incoming ≡ incoming named
  pub outgoing_is : passing.relay.outgoing ≡ outgoing terms.reads_chunks named
  pub window_is : passing.relay.window ≡ terms.window
  pub most_is : passing.relay.most ≡ most_to_come (incoming named) terms.most_body
  pub is_open : passing.relay.fault ≡ None
  pub delivers : Delivers passing (keeps terms.persistence) [] []

-- the fault of the body, by whether a byte was written
abbrev pub fault_of : Passing → RelayFault → StreamFault
fault_of passing fault = body_fault (nat_lt 0 passing.sent) fault

abbrev pub cut_of : Passing → StreamFault
cut_of passing = fault_of passing relay_fault.Cut

abbrev pub memory_of : Passing → StreamFault
memory_of passing = fault_of passing relay_fault.OutOfMemory

-- the first of the bytes were taken, and those behind them broke the relay off by a fault, of which this is the name
pub record IsBrokenOff (old new : Passing) (bytes : List ℕ) (named : StreamFault) : Type 0 where
  pub fault : RelayFault
  pub taken : ℕ
  pub fits : taken ≤ length bytes
  pub delivers : DeliversOn old new (take taken bytes)
  pub goes_on : IsFalse (is_whole new.relay.stage)
  pub is_fault : IsFaultAt fault new.relay.stage new.relay.left (drop taken bytes)
  pub kept : new.relay.fault ≡ Some fault
  pub named_is : named ≡ fault_of old fault

-- a cut is the fault of the relay
abbrev pub IsKeptIn : Passing → StreamFault → Type 0
IsKeptIn passing (stream.Refused fault) = ⊤
IsKeptIn passing (stream.Cut fault) = passing.relay.fault ≡ Some fault
