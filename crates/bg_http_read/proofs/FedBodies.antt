-- A message whose head is known, by the bytes that were fed.
use Rattle.std.proofs.Common.{◌≡◌, ℕ, ◌≤◌, List, [], ◌++◌, length, refl, sym, ◌∙◌, arith, subst}
use Rattle.bg_http_read.specs.Bodies.{Fails, Follows, KeepsLimit, Reads}
use Rattle.bg_http_read.specs.BodyFaults.{Failure}
use Rattle.bg_http_read.specs.BodyFramings.{FedBody, Finding, FramedFails, FramedReads, StartsBody}
use Rattle.bg_http_read.specs.declared.body.Body.{Body}
use Rattle.bg_http_read.specs.declared.message_body.MessageBody.{MessageBody}
use Rattle.bg_http_read.proofs.BodyLoop.{follows_behind, follows_both, follows_itself}
use Rattle.bg_http_read.proofs.FramedBodies.{framed_fails, framed_reads}

-- a head that was found is found whatever follows the bytes
abbrev pub StaysFound : {Head Framing : Type 0} → Finding Head Framing → Type 0
StaysFound kind =
    (input more : List ℕ) (head : _) (named : _) (after : List ℕ) → kind.Found input head named after
    → kind.Found (input ++ more) head named (after ++ more)

module _ {Head Framing : Type 0} (kind : Finding Head Framing) where
  -- the head was found, and no byte of the body was taken
  pub fed_head : (head : Head) (named : Framing) (p : MessageBody Head Framing) (waits seen : List ℕ)
      → kind.Found seen head named waits → p.head ≡ head → p.framing ≡ named
      → StartsBody (kind.ends named) p.body → FedBody kind p waits seen
  fed_head head named p waits seen found of_head of_framing starts = record {
    after = waits;
    found = subst (λ n. kind.Found seen p.head n waits) (sym of_framing)
        (subst (λ h. kind.Found seen h named waits) (sym of_head) found);
    start = p.body;
    starts = subst (λ n. StartsBody (kind.ends n) p.body) (sym of_framing) starts;
    follows = follows_itself p.body waits;
    limit = refl;
  }

  -- bytes that wait were taken
  pub fed_taken : (p : MessageBody Head Framing) (next : Body) (waits now seen : List ℕ)
      → FedBody kind p waits seen → Follows p.body waits next now → next.limit ≡ p.body.limit
      → FedBody kind (record p { body = next }) now seen
  fed_taken p next waits now seen h follows limit = record {
    after = h.after;
    found = h.found;
    start = h.start;
    starts = h.starts;
    follows = follows_both h.start p.body next h.after waits now h.follows follows;
    limit = limit ∙ h.limit;
  }

  -- what is read from the bytes that wait, and from those that follow, is the body
  pub fed_reads : (p : MessageBody Head Framing) (waits seen more rest : List ℕ)
      → (h : FedBody kind p waits seen) → KeepsLimit p.body
      → Reads p.body (waits ++ more) p.body.bytes.items rest
      → FramedReads (kind.ends p.framing) (h.after ++ more) p.body.bytes.items rest
  fed_reads p waits seen more rest h within reads =
      framed_reads (kind.ends p.framing) h.start h.starts (h.after ++ more) p.body.bytes.items rest
      small (h.follows.read more p.body.bytes.items rest reads)
    where
      small : length p.body.bytes.items ≤ h.start.limit
      small = omega (arith, within, h.limit)

  -- a failure of the bytes that wait, and of those that follow, is one of the body
  pub fed_failure : (p : MessageBody Head Framing) (waits seen more : List ℕ) (failure : Failure)
      → (h : FedBody kind p waits seen) → Fails p.body failure (waits ++ more)
      → FramedFails failure (kind.ends p.framing) (h.after ++ more)
  fed_failure p waits seen more failure h fails =
      framed_fails (kind.ends p.framing) h.start h.starts failure (h.after ++ more)
      (h.follows.fails failure more fails)

  module _ (stays : StaysFound kind) where
    -- more bytes were fed
    pub fed_longer : (p : MessageBody Head Framing) (waits seen more : List ℕ)
        → FedBody kind p waits seen → FedBody kind p (waits ++ more) (seen ++ more)
    fed_longer p waits seen more h = record {
      after = h.after ++ more;
      found = stays seen more p.head p.framing h.after h.found;
      start = h.start;
      starts = h.starts;
      follows = follows_behind h.start p.body h.after waits more h.follows;
      limit = h.limit;
    }

    -- bytes were read directly into the body, and none waited
    pub fed_straight : (p : MessageBody Head Framing) (next : Body) (seen came now : List ℕ)
        → FedBody kind p [] seen → now ≡ seen ++ came → Follows p.body came next []
        → next.limit ≡ p.body.limit → FedBody kind (record p { body = next }) [] now
    fed_straight p next seen came now h is follows limit =
        subst (FedBody kind (record p { body = next }) []) (sym is)
        (fed_taken p next came [] (seen ++ came) (fed_longer p [] seen came h) follows limit)
