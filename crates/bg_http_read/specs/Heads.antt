-- The head of a message of any kind, by its grammar, within limits.
use Rattle.std.specs.Prelude.{◌≡◌, ◌⊎◌, ℕ, ◌<◌, ◌≤◌, ◌*◌, List, ◌++◌, length, map, take, drop, Option, Some, None, Result, Ok, Err, ⊤, false}
use Rattle.httparse.specs.Grammar as grammar
use Rattle.httparse.specs.Spans.{name_and_value}
use Rattle.bg_http.specs.declared.request.RequestHead.{RequestHead}
use Rattle.bg_http.specs.declared.response.ResponseHead.{ResponseHead}
use Rattle.bg_http_read.specs.HeadEnds.{after_bytes, is_over}
use Rattle.bg_http_read.specs.declared.head_end.HeadEnd.TheVariants.{Blank}
use Rattle.bg_http_read.specs.declared.head_limits.TheConstants.{MOST_FIELDS, MOST_HEAD, ROOM}
use Rattle.bg_http_read.specs.declared.message_fault.MessageFault.{MessageFault}
use Rattle.bg_http_read.specs.declared.message_fault.MessageFault.TheVariants as fault
use Rattle.bg_http_read.specs.declared.parsed_head.Parsed.{Parsed}
use Rattle.bg_http_read.specs.declared.parsed_head.Parsed.TheVariants as parsed

-- the heads of a kind of message: how their trees are read, printed and counted, and which bytes may
-- become one
pub record HeadGrammar (Head : Type 0) : Type 1 where
  pub Tree : Type 0
  pub Reads : List ℕ → Tree → List ℕ → Type 0
  pub text : Tree → List ℕ
  pub fields : Tree → List grammar.Field
  pub parts : Tree → Head
  pub MayBecome : List ℕ → Type 0

-- no prefix of the bytes is a head
abbrev pub HasNoHead : {Head : Type 0} → HeadGrammar Head → List ℕ → Type 0
HasNoHead heads bytes = (tree : heads.Tree) (rest : List ℕ) → ¬ (heads.Reads bytes tree rest)

-- no bytes can follow that make a prefix a head
abbrev pub NeverHasHead : {Head : Type 0} → HeadGrammar Head → List ℕ → Type 0
NeverHasHead heads bytes = (more : List ℕ) → HasNoHead heads (bytes ++ more)

-- the input is this head, of at most `MOST_HEAD` bytes and `MOST_FIELDS` fields, and then `rest`
pub record ReadsHead
    {Head : Type 0} (heads : HeadGrammar Head) (input : List ℕ) (head : Head) (rest : List ℕ)
    : Type 0 where
  pub tree : heads.Tree
  pub reads : heads.Reads input tree rest
  pub size : length (heads.text tree) ≤ MOST_HEAD
  pub count : length (heads.fields tree) ≤ MOST_FIELDS
  pub head_is : head ≡ heads.parts tree

-- the first `MOST_HEAD` bytes are not the beginning of a head of any size
abbrev pub HeadIsMalformed : {Head : Type 0} → HeadGrammar Head → List ℕ → Type 0
HeadIsMalformed heads input = NeverHasHead heads (take MOST_HEAD input)

-- the first `MOST_HEAD` bytes begin with a head of more than `MOST_FIELDS` fields; or they have no
-- complete head, and are the beginning of one
abbrev pub HeadIsLarge : {Head : Type 0} → HeadGrammar Head → List ℕ → Type 0
HeadIsLarge heads input =
    ((tree : heads.Tree) × (rest : List ℕ) × heads.Reads (take MOST_HEAD input) tree rest
    × (MOST_FIELDS < length (heads.fields tree)))
    ⊎ ((MOST_HEAD ≤ length input) × HasNoHead heads (take MOST_HEAD input)
    × heads.MayBecome (take MOST_HEAD input))

-- there are fewer bytes, they have no complete head, and they are the beginning of one
abbrev pub HeadIsCut : {Head : Type 0} → HeadGrammar Head → List ℕ → Type 0
HeadIsCut heads input =
    (length input < MOST_HEAD) × HasNoHead heads input × heads.MayBecome input

-- what a fault says about an input that should begin with a head
abbrev pub HeadFails : {Head : Type 0} → HeadGrammar Head → List ℕ → MessageFault → Type 0
HeadFails heads input fault.Bad = HeadIsMalformed heads input
HeadFails heads input fault.HeadTooLarge = HeadIsLarge heads input
HeadFails heads input fault.TooLarge = ⊥
HeadFails heads input fault.OutOfMemory = ⊤

-- what is found in an input: the head and its length; or the first fact, that there is no head yet;
-- or a fault
abbrev pub FindsHeadOr
    : {Head : Type 0} → HeadGrammar Head → Type 0 → List ℕ
    → Result (Option (Head × ℕ)) MessageFault → Type 0
FindsHeadOr heads None_yet input (Ok (Some found)) =
    (found.1 ≤ length input) × ReadsHead heads input found.0 (drop found.1 input)
FindsHeadOr heads None_yet input (Ok None) = None_yet
FindsHeadOr heads None_yet input (Err named) = HeadFails heads input named

-- what is found in an input of any size
abbrev pub FindsHead
    : {Head : Type 0} → HeadGrammar Head → List ℕ → Result (Option (Head × ℕ)) MessageFault → Type 0
FindsHead heads input found = FindsHeadOr heads (HeadIsCut heads input) input found

-- what is found in at most `MOST_HEAD` bytes
abbrev pub FindsInFront
    : {Head : Type 0} → HeadGrammar Head → List ℕ → Result (Option (Head × ℕ)) MessageFault → Type 0
FindsInFront heads bytes found =
    FindsHeadOr heads (HasNoHead heads bytes × heads.MayBecome bytes) bytes found

-- what a parser with room for this many fields gives for at most `MOST_HEAD` bytes. With `ROOM`, it
-- never lacks room
abbrev pub IsParsed : {Head : Type 0} → HeadGrammar Head → List ℕ → ℕ → Parsed Head → Type 0
IsParsed heads bytes room parsed.Crowded = room < ROOM
IsParsed heads bytes room (parsed.Done found) = FindsInFront heads bytes found

-- the laws of heads: a head is its text, with at least three bytes for each field, and what follows; it
-- is one whatever follows; it is the only one; and it ends with an empty line
pub record HeadLaws {Head : Type 0} (heads : HeadGrammar Head) : Type 0 where
  pub printed : (bytes : List ℕ) (tree : heads.Tree) (rest : List ℕ) → heads.Reads bytes tree rest
      → (bytes ≡ heads.text tree ++ rest)
      × (3 * length (heads.fields tree) ≤ length (heads.text tree))
  pub again : (bytes other : List ℕ) (tree : heads.Tree) (rest left : List ℕ)
      → heads.Reads bytes tree rest → other ≡ heads.text tree ++ left → heads.Reads other tree left
  pub more : (bytes : List ℕ) (tree : heads.Tree) (rest more : List ℕ)
      → heads.Reads bytes tree rest → heads.Reads (bytes ++ more) tree (rest ++ more)
  pub one : (bytes : List ℕ) (tree other : heads.Tree) (rest left : List ℕ)
      → heads.Reads bytes tree rest → heads.Reads bytes other left → (tree ≡ other) × (rest ≡ left)
  pub none_yet : (bytes : List ℕ) → is_over (after_bytes Blank bytes) ≡ false
      → HasNoHead heads bytes

-- the parts of the head of a request
abbrev pub request_parts : grammar.RequestHead → RequestHead
request_parts tree = record {
  method = tree.method;
  target = tree.target;
  minor = tree.minor;
  fields = map name_and_value tree.fields;
}

abbrev pub request_heads : HeadGrammar RequestHead
request_heads = record {
  Tree = grammar.RequestHead;
  Reads = grammar.ReadsRequest;
  text = grammar.print_request;
  fields = λ tree. tree.fields;
  parts = request_parts;
  MayBecome = grammar.MayBecomeRequest;
}

abbrev pub ReadsRequestHead : List ℕ → RequestHead → List ℕ → Type 0
ReadsRequestHead input head rest = ReadsHead request_heads input head rest

-- the parts of the head of a response
abbrev pub response_parts : grammar.ResponseHead → ResponseHead
response_parts tree = record {
  minor = tree.minor;
  code = grammar.status_code tree;
  reason = grammar.reason_phrase tree.reason;
  fields = map name_and_value tree.fields;
}

abbrev pub response_heads : HeadGrammar ResponseHead
response_heads = record {
  Tree = grammar.ResponseHead;
  Reads = grammar.ReadsResponse;
  text = grammar.print_response;
  fields = λ tree. tree.fields;
  parts = response_parts;
  MayBecome = grammar.MayBecomeResponse;
}

abbrev pub ReadsResponseHead : List ℕ → ResponseHead → List ℕ → Type 0
ReadsResponseHead input head rest = ReadsHead response_heads input head rest
