-- The laws of a relay.
use Rattle.std.proofs.Common.{◌≡◌, inl, inr, ℕ, ◌+◌, Bool, true, false, List, [], ◌++◌, length, drop, refl, ap, sym, ◌∙◌, arith, subst, if◌then◌else◌}
use Rattle.std.proofs.lemmas.List.{length-append}
use Rattle.std.proofs.Math.Seq.{drop-append_seam}
use Rattle.bg_http_read.specs.Bodies.{is_whole}
use Rattle.bg_http_read.specs.BodyFaults.{Failure, FailsAt, LineEndFails, LineFails, after_data, at_line, at_trailers}
use Rattle.bg_http_read.specs.Chunks.{joined}
use Rattle.bg_http_read.specs.declared.body.BodyStage.{BodyStage}
use Rattle.bg_http_read.specs.declared.body.BodyStage.TheVariants as stage
use Rattle.bg_relay.specs.declared.framing.Framing.{Framing}
use Rattle.bg_relay.specs.declared.framing.Framing.TheVariants as framing
use Rattle.bg_relay.specs.Laws.{FailsBody, FailsWhole, HoldsNoBody, PassesAlike, PassesWhole, WaitsShortly}
use Rattle.bg_relay.specs.Places.{ChunksThen, DataOf, EndOf, FailsHere, NothingOf, StandsAt}
use Rattle.bg_relay.specs.Relays.{Passes, RelayState, stage_of_output}
use Rattle.bg_relay.proofs.ChunkLists.{leads_on, line_goes_on}
use Rattle.bg_relay.proofs.OneBody.{is_body, no_body, one_body, plain_body}

-- the output is whole if and only if the body is
whole_output : (outgoing : Framing) (s : BodyStage) → is_whole (stage_of_output outgoing s) ≡ is_whole s
whole_output (framing.Length size) s = refl
whole_output framing.Chunks s = by_test (is_whole s)
  where
    by_test : (t : Bool) → is_whole (if t then stage.Whole else stage.Line) ≡ t
    by_test true = refl
    by_test false = refl
whole_output framing.ToTheEnd s = by_test (is_whole s)
  where
    by_test : (t : Bool) → is_whole (if t then stage.Whole else stage.ToTheEnd) ≡ t
    by_test true = refl
    by_test false = refl

pub passes_whole : (relay : RelayState) (input written : List ℕ) → PassesWhole relay input written
passes_whole relay input written (body, passes) whole = (
  body,
  is_body relay.incoming relay.stage input body whole passes.comes,
  is_body relay.outgoing (stage_of_output relay.outgoing relay.stage) (written ++ relay.rest) body
      (whole_output relay.outgoing relay.stage ∙ whole) passes.goes,
)

pub holds_no_body : (relay : RelayState) (input written : List ℕ) → HoldsNoBody relay input written
holds_no_body relay input written (body, passes) missing = (
  no_body relay.incoming relay.stage input body missing passes.comes,
  no_body relay.outgoing (stage_of_output relay.outgoing relay.stage) (written ++ relay.rest) body
      (whole_output relay.outgoing relay.stage ∙ missing) passes.goes,
)

pub passes_alike : (one other : RelayState) (input first second : List ℕ) → PassesAlike one other input first second
passes_alike one other input first second same (body, p) (more, q) =
    let equal = one_body one.incoming one.stage other.stage input body more p.comes
    (subst (λ named. StandsAt named other.stage input more) (sym same) q.comes) in (
      (body, p, subst (Passes other input (second ++ other.rest)) (sym equal) q),
      λ none none_other.
          sym (plain_body one.outgoing (stage_of_output one.outgoing one.stage) (first ++ one.rest) body none p.goes) ∙ equal
          ∙ plain_body other.outgoing (stage_of_output other.outgoing other.stage) (second ++ other.rest) more none_other q.goes,
    )

-- ---- what fails at a stage fails as a whole

line_fails : (failure : Failure) (input body bytes : List ℕ) → ChunksThen NothingOf input body → LineFails failure bytes
    → FailsBody failure framing.Chunks (input ++ bytes)
line_fails failure input body bytes h fails =
    let most = length (joined h.chunks) in (
      most,
      record {
        chunks = h.chunks;
        fits = omega arith;
        leads = leads_on (λ last. NothingOf last h.begun) (FailsAt failure most (0 + most)) bytes
            (λ last none. at_line (subst (λ l. LineFails failure (l ++ bytes)) (sym none.0) fails)) h.chunks input h.leads;
      },
    )

data_fails : (failure : Failure) (left : ℕ) (input body bytes : List ℕ) → ChunksThen (DataOf left) input body → left ≡ 0
    → LineEndFails failure bytes → FailsBody failure framing.Chunks (input ++ bytes)
data_fails failure left input body bytes h none fails =
    let most = length (joined h.chunks) + length h.begun in (
      most,
      record {
        chunks = h.chunks;
        fits = omega arith;
        leads = leads_on (λ last. DataOf left last h.begun) (FailsAt failure most (0 + length (joined h.chunks))) bytes
            (λ last d.
            let size : d.size ≡ length h.begun = omega (arith, d.size_is, none) in
            let behind : drop d.size (h.begun ++ bytes) ≡ bytes =
            ap (λ n. drop n (h.begun ++ bytes)) size ∙ drop-append_seam h.begun bytes in
            after_data d.size (h.begun ++ bytes) (line_goes_on last bytes h.begun d.size d.line) d.some
            (omega (arith, size)) (subst (LineEndFails failure) (sym behind) fails)) h.chunks input h.leads;
      },
    )

pub fails_whole : (relay : RelayState) (input written bytes : List ℕ) (failure : Failure)
    → FailsWhole relay input written bytes failure
fails_whole relay input written bytes failure (body, passes) fails =
    fails_body relay.incoming relay.stage passes.comes fails
  where
    fails_body : (named : Framing) (s : BodyStage) → StandsAt named s input body → FailsHere failure s bytes
        → FailsBody failure named (input ++ bytes)
    fails_body framing.Chunks stage.Line h fails = line_fails failure input body bytes h fails
    fails_body framing.Chunks (stage.Data left) h fails =
        data_fails failure left input body bytes h fails.0 fails.1
    fails_body framing.Chunks stage.Trailers h fails =
        let most = length (joined h.chunks) in (
          most,
          record {
            chunks = h.chunks;
            fits = omega arith;
            leads = leads_on (λ last. EndOf last h.begun) (FailsAt failure most (0 + most)) bytes
                (λ last end. at_trailers bytes (line_goes_on last bytes [] 0 end.0) fails) h.chunks input h.leads;
          },
        )
    fails_body framing.Chunks (stage.Length left) h fails = absurd h
    fails_body framing.Chunks stage.ToTheEnd h fails = absurd h
    fails_body framing.Chunks stage.Whole h fails = absurd fails
    fails_body (framing.Length size) (stage.Length left) h fails = absurd fails
    fails_body (framing.Length size) s h fails = absurd h
    fails_body framing.ToTheEnd stage.ToTheEnd h fails = absurd fails
    fails_body framing.ToTheEnd stage.Whole h fails = absurd fails
    fails_body framing.ToTheEnd s h fails = absurd h

-- ---- what waits is short

pub waits_shortly : (s : BodyStage) (bytes : List ℕ) → WaitsShortly s bytes
waits_shortly s bytes (inl none) = omega (arith, ap length none)
waits_shortly stage.Line bytes (inr fails) = omega (arith, fails.0)
waits_shortly (stage.Data left) bytes (inr fails) =
    let missing = fails.1 in
    omega (arith, missing.1, ap length missing.2, length-append bytes missing.0)
waits_shortly stage.Trailers bytes (inr fails) = omega (arith, fails.0)
waits_shortly (stage.Length left) bytes (inr fails) = absurd fails
waits_shortly stage.ToTheEnd bytes (inr fails) = absurd fails
waits_shortly stage.Whole bytes (inr fails) = absurd fails
