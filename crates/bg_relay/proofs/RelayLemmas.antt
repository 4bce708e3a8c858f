-- What a relay passes on.
use Rattle.std.proofs.Common.{◌≡◌, ℕ, ◌+◌, ◌<◌, Bool, true, false, List, [], ◌++◌, take, refl, ap, sym, ◌∙◌, append_assoc, subst, if◌then◌else◌, Result, Ok, Err, OnOk, IfErr, is_err, Option, Some, None, IsFalse, length, drop, ◌≤◌, arith}
use Rattle.std.proofs.lemmas.List.{append-nil, length-append, length-take-le}
use Rattle.bg_http_read.specs.Bodies.{is_whole}
use Rattle.bg_http_read.specs.Chunks.{Leads, joined}
use Rattle.bg_http_read.specs.declared.body.BodyStage.{BodyStage}
use Rattle.bg_http_read.specs.declared.body.BodyStage.TheVariants as stage
use Rattle.bg_relay.specs.declared.framing.Framing.{Framing}
use Rattle.bg_relay.specs.declared.framing.Framing.TheVariants as framing
use Rattle.bg_relay.specs.declared.relay_fault.RelayFault.{RelayFault}
use Rattle.bg_relay.specs.declared.relay_fault.RelayFault.TheVariants as relay_fault
use Rattle.bg_relay.specs.declared.steps.Step.{Step}
use Rattle.bg_relay.specs.Pieces.{Appends, EndsPiece, IsPiece, IsPieceIn, IsPieceInChunks}
use Rattle.bg_relay.specs.Places.{ChunksThen, NothingOf, StandsAt}
use Rattle.bg_relay.specs.Relays.{BreaksOff, IsFaultAt, IsRefusedBehind, KeepsSides, PassesOn, RelayState, StandsFor, stage_of_output}
use Rattle.bg_relay.specs.Steps.{IsStep, LeadsTo, data_of}
use Rattle.bg_relay.proofs.ChunkLists.{joined_both, leads_as, leads_both, leads_on}
use Rattle.bg_relay.proofs.StepLemmas.{no_more}

-- the output of a length
length_goes : (size : ℕ) (before next : BodyStage) (taken bytes output body piece : List ℕ)
    → StandsAt (framing.Length size) before output body
    → StandsAt (framing.Length size) next (output ++ taken) (body ++ bytes) → piece ≡ bytes
    → StandsAt (framing.Length size) next (output ++ piece) (body ++ bytes)
length_goes size (stage.Length left) (stage.Length later) taken bytes output body piece h k same =
    (ap (λ l. l ++ bytes) h.0 ∙ ap (λ l. output ++ l) (sym same), k.1)
length_goes size (stage.Length left) next taken bytes output body piece h k same = absurd k
length_goes size before next taken bytes output body piece h k same = absurd h

-- the output in chunks
module _ (bytes output body piece : List ℕ) (h : ChunksThen NothingOf output body) (last : Bool) (p : IsPieceInChunks last bytes piece) where
  both_lead : Leads (EndsPiece last) (h.chunks ++ p.chunks) (output ++ piece)
  both_lead =
      leads_both (EndsPiece last) h.chunks p.chunks (output ++ piece)
      (leads_on (λ end. NothingOf end h.begun) (Leads (EndsPiece last) p.chunks) piece
      (λ end none. subst (λ l. Leads (EndsPiece last) p.chunks (l ++ piece)) (sym none.0) p.leads)
      h.chunks output h.leads)

  both_join : body ++ bytes ≡ joined (h.chunks ++ p.chunks)
  both_join =
      ap (λ l. l ++ bytes) (sym (append-nil body) ∙ no_more NothingOf output body (λ end begun none. none.1) h ∙ append-nil (joined h.chunks))
      ∙ ap (λ l. joined h.chunks ++ l) p.bytes_are ∙ sym (joined_both h.chunks p.chunks)

chunks_go : (bytes output body piece : List ℕ) (last : Bool) → ChunksThen NothingOf output body
    → IsPieceInChunks last bytes piece
    → StandsAt framing.Chunks (if last then stage.Whole else stage.Line) (output ++ piece) (body ++ bytes)
chunks_go bytes output body piece true h p = record {
  chunks = h.chunks ++ p.chunks;
  leads = both_lead bytes output body piece h true p;
  body_is = both_join bytes output body piece h true p;
}
chunks_go bytes output body piece false h p = record {
  chunks = h.chunks ++ p.chunks;
  begun = [];
  leads = leads_as (EndsPiece false) (λ end. NothingOf end []) (λ end none. (none, refl)) (h.chunks ++ p.chunks)
      (output ++ piece) (both_lead bytes output body piece h false p);
  body_is = both_join bytes output body piece h false p ∙ sym (append-nil (joined (h.chunks ++ p.chunks)));
}

-- the output that goes to the end of the connection
all_go : (bytes output body piece : List ℕ) (whole last : Bool)
    → StandsAt framing.ToTheEnd (if whole then stage.Whole else stage.ToTheEnd) output body → piece ≡ bytes
    → StandsAt framing.ToTheEnd (if last then stage.Whole else stage.ToTheEnd) (output ++ piece) (body ++ bytes)
all_go bytes output body piece true true h same = ap (λ l. l ++ bytes) h ∙ ap (λ l. output ++ l) (sym same)
all_go bytes output body piece true false h same = ap (λ l. l ++ bytes) h ∙ ap (λ l. output ++ l) (sym same)
all_go bytes output body piece false true h same = ap (λ l. l ++ bytes) h ∙ ap (λ l. output ++ l) (sym same)
all_go bytes output body piece false false h same = ap (λ l. l ++ bytes) h ∙ ap (λ l. output ++ l) (sym same)

-- the piece leads the output on, as the bytes that were taken lead the input on
output_goes : (outgoing : Framing) (before next : BodyStage) (taken bytes output body piece : List ℕ)
    → is_whole before ≡ false → LeadsTo before next taken bytes → IsPieceIn outgoing (is_whole next) bytes piece
    → StandsAt outgoing (stage_of_output outgoing before) output body
    → StandsAt outgoing (stage_of_output outgoing next) (output ++ piece) (body ++ bytes)
output_goes (framing.Length size) before next taken bytes output body piece missing leads is h =
    length_goes size before next taken bytes output body piece h (leads (framing.Length size) output body h) is
output_goes framing.Chunks before next taken bytes output body piece missing leads is h =
    chunks_go bytes output body piece (is_whole next)
    (subst (λ t. StandsAt framing.Chunks (if t then stage.Whole else stage.Line) output body) missing h) is
output_goes framing.ToTheEnd before next taken bytes output body piece missing leads is h =
    all_go bytes output body piece (is_whole before) (is_whole next) h is

-- a relay after bytes of its input, and the piece of its output
leads_stand : (old : RelayState) (next : BodyStage) (left : ℕ) (taken bytes piece : List ℕ) → is_whole old.stage ≡ false
    → left + length taken ≡ old.left
    → LeadsTo old.stage next taken bytes → IsPieceIn old.outgoing (is_whole next) bytes piece
    → PassesOn old (record old { stage = next; left = left; rest = old.rest ++ piece }) taken
leads_stand old next left taken bytes piece missing counted leads made input written (body, passes) = (
  body ++ bytes,
  record {
    counts = omega (arith, passes.counts, counted, length-append input taken);
    comes = leads old.incoming input body passes.comes;
    goes = subst (λ l. StandsAt old.outgoing (stage_of_output old.outgoing next) l (body ++ bytes))
        (append_assoc written old.rest piece)
        (output_goes old.outgoing old.stage next taken bytes (written ++ old.rest) body piece missing leads made passes.goes);
  },
)

-- a relay after a step
pub step_stands : (old : RelayState) (bytes bytes_of rest : List ℕ) (room left : ℕ) (step : Step) (is_last : Bool)
    → IsStep old.stage bytes room step → left + step.count ≡ old.left → is_last ≡ is_whole step.next
    → bytes_of ≡ data_of bytes step → Appends (IsPiece old.outgoing is_last bytes_of) old.rest rest
    → PassesOn old (record old { stage = step.next; left = left; rest = rest }) (take step.count bytes)
step_stands old bytes bytes_of rest room left step is_last is counted last same (piece, made, whole) =
    subst (λ l. PassesOn old (record old { stage = step.next; left = left; rest = l }) (take step.count bytes)) (sym whole)
    (leads_stand old step.next left (take step.count bytes) (data_of bytes step) piece is.goes_on
    (ap (λ n. left + n) (length-take-le step.count bytes is.fits) ∙ counted) is.leads
    (subst (λ t. IsPieceIn old.outgoing t (data_of bytes step) piece) last
    (subst (λ l. IsPieceIn old.outgoing is_last l piece) same made.0)))

-- a relay after the end of its input
input_ends : LeadsTo stage.ToTheEnd stage.Whole [] []
input_ends (framing.Length size) input body h = absurd h
input_ends framing.Chunks input body h = absurd h
input_ends framing.ToTheEnd input body h = ap (λ l. l ++ []) h

pub end_stands : (old : RelayState) (rest : List ℕ) → old.stage ≡ stage.ToTheEnd
    → Appends (IsPiece old.outgoing true []) old.rest rest
    → PassesOn old (record old { stage = stage.Whole; rest = rest }) []
end_stands old rest at (piece, made, whole) =
    subst (λ l. PassesOn old (record old { stage = stage.Whole; rest = l }) []) (sym whole)
    (leads_stand old stage.Whole old.left [] [] piece (ap is_whole at) (omega arith) (subst (λ s. LeadsTo s stage.Whole [] []) (sym at) input_ends)
    made.0)

-- a relay that passed bytes on, and then others
pub passes_both : (one other next : RelayState) (first second : List ℕ) → PassesOn one other first
    → PassesOn other next second → PassesOn one next (first ++ second)
passes_both one other next first second h k input written stands =
    subst (λ l. StandsFor next l written) (append_assoc input first second)
    (k (input ++ first) written (h input written stands))

pub passes_none : (relay : RelayState) → PassesOn relay relay []
passes_none relay input written stands =
    subst (λ l. StandsFor relay l written) (sym (append-nil input)) stands

-- what holds of a result that is no error
pub of_ok : {T E P : Type 0} (r : Result T E) → is_err r ≡ false → OnOk r P → P
of_ok (Ok x) ok h = h
of_ok (Err e) ok h = cc

pub sides_both : (one other next : RelayState) → KeepsSides one other → KeepsSides other next → KeepsSides one next
sides_both one other next h k = record {
  incoming = k.incoming ∙ h.incoming;
  outgoing = k.outgoing ∙ h.outgoing;
  window = k.window ∙ h.window;
  most = k.most ∙ h.most;
}

-- a fault behind bytes that were taken
pub refused_behind : (old at new : RelayState) (bytes : List ℕ) (taken : ℕ) (named : RelayFault) → taken ≤ length bytes
    → PassesOn old at (take taken bytes)
    → (new ≡ at) × IsFalse (is_whole at.stage) × IsFaultAt named at.stage at.left (drop taken bytes)
    → IsRefusedBehind old new bytes named
refused_behind old at new bytes taken named fits stands (same, missing, is) =
    subst (λ relay. IsRefusedBehind old relay bytes named) (sym same)
    (record { taken = taken; fits = fits; stands = stands; goes_on = missing; is_fault = is })

-- too many bytes came, and none was taken
pub too_large : (relay : RelayState) (bytes : List ℕ) → IsFalse (is_whole relay.stage) → relay.left < length bytes
    → IsRefusedBehind relay relay bytes relay_fault.TooLarge
too_large relay bytes missing few = record {
  taken = 0;
  fits = omega arith;
  stands = passes_none relay;
  goes_on = missing;
  is_fault = few;
}

-- the fault is kept
ended : (old new : RelayState) (bytes : List ℕ) (named : RelayFault) (kept : Option RelayFault)
    → IsRefusedBehind old new bytes named → IsRefusedBehind old (record new { fault = kept }) bytes named
ended old new bytes named kept h = record {
  taken = h.taken;
  fits = h.fits;
  stands = λ input written stands.
      let after = h.stands input written stands in
      (after.0, record { counts = after.1.counts; comes = after.1.comes; goes = after.1.goes });
  goes_on = h.goes_on;
  is_fault = h.is_fault;
}

pub breaks_off : {T : Type 0} (r : Result T RelayFault) (old new : RelayState) (bytes : List ℕ) (named : RelayFault)
    → r ≡ Err named → IfErr r (λ fault. IsRefusedBehind old new bytes fault)
    → IfErr r (λ fault. old.fault ≡ None → BreaksOff old (record new { fault = Some named }) bytes fault)
breaks_off (Ok x) old new bytes named is h = tt
breaks_off (Err e) old new bytes named is h =
    let same : named ≡ e = cc in λ none. (ended old new bytes e (Some named) h, ap Some same)
