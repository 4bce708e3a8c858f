-- What the bytes that came say about the head of a message.
use Rattle.std.proofs.Common.{◌≡◌, ℕ, ◌<◌, ◌≤◌, List, [], ◌++◌, length, take, drop, ap, sym, ◌∙◌, arith, append_assoc, take-append-drop, take_all, min, subst, inl, inr}
use Rattle.std.proofs.lemmas.List.{append-nil, length-append, drop-append-le, take-append-le}
use Rattle.httparse.specs.Grammar.{lf, print_end}
use Rattle.httparse.proofs.GrammarLemmas.{ReadsRequest-append, ReadsResponse-append, request_unique, response_unique}
use Rattle.bg_http_read.specs.HeadFaults.{RequestHeadFails, ResponseHeadFails}
use Rattle.bg_http_read.specs.Heads.{HasNoHead, HeadFails, HeadGrammar, HeadIsCut, HeadIsLarge, HeadIsMalformed, HeadLaws, NeverHasHead, ReadsHead, request_heads, response_heads}
use Rattle.bg_http_read.specs.MessageFaults.{as_request, as_response}
use Rattle.bg_http_read.specs.declared.message_fault.MessageFault.{MessageFault}
use Rattle.bg_http_read.specs.declared.message_fault.MessageFault.TheVariants as message_fault
use Rattle.bg_http_read.proofs.BodyOrFault.{text_in_front}
use Rattle.bg_http_read.proofs.Fronts.{front_is, front_grows}
use Rattle.bg_http_read.proofs.HeadLengths.{request_long, response_long}
use Rattle.bg_http_read.proofs.HeadsOver.{no_request_yet, no_response_yet}

pub request_laws : HeadLaws request_heads
request_laws = record {
  printed = λ bytes tree rest h. (h.1, request_long tree h.0.fields);
  again = λ bytes other tree rest left h is. (h.0, is);
  more = ReadsRequest-append;
  one = request_unique;
  none_yet = no_request_yet;
}

pub response_laws : HeadLaws response_heads
response_laws = record {
  printed = λ bytes tree rest h. (h.1, response_long tree h.0.fields);
  again = λ bytes other tree rest left h is. (h.0, is);
  more = ReadsResponse-append;
  one = response_unique;
  none_yet = no_response_yet;
}

-- what a fault says of a head, as a fault of a request or a response
pub request_head_fails : (input : List ℕ) (e : MessageFault) → HeadFails request_heads input e
    → RequestHeadFails input (as_request e)
request_head_fails input message_fault.Bad h = h
request_head_fails input message_fault.HeadTooLarge h = h
request_head_fails input message_fault.TooLarge h = h
request_head_fails input message_fault.OutOfMemory h = h

pub response_head_fails : (input : List ℕ) (e : MessageFault) → HeadFails response_heads input e
    → ResponseHeadFails input (as_response e)
response_head_fails input message_fault.Bad h = h
response_head_fails input message_fault.HeadTooLarge h = h
response_head_fails input message_fault.TooLarge h = h
response_head_fails input message_fault.OutOfMemory h = h

-- an input that begins with a head does so in every continuation
pub head_more : {Head : Type 0} (heads : HeadGrammar Head) (laws : HeadLaws heads)
    (bytes more : List ℕ) (head : Head) (rest : List ℕ) → ReadsHead heads bytes head rest
    → ReadsHead heads (bytes ++ more) head (rest ++ more)
head_more heads laws bytes more head rest h = record {
  tree = h.tree;
  reads = laws.more bytes h.tree rest more h.reads;
  size = h.size;
  count = h.count;
  head_is = h.head_is;
}

-- an input begins with at most one head
pub one_head : {Head : Type 0} (heads : HeadGrammar Head) (laws : HeadLaws heads)
    (bytes : List ℕ) (one other : Head) (a b : List ℕ) → ReadsHead heads bytes one a
    → ReadsHead heads bytes other b → (one ≡ other) × (a ≡ b)
one_head heads laws bytes one other a b h k =
    let same = laws.one bytes h.tree k.tree a b h.reads k.reads in
    (h.head_is ∙ ap heads.parts same.0 ∙ sym k.head_is, same.1)

-- a head of more than 64 fields is too large
pub many_fields : {Head : Type 0} (heads : HeadGrammar Head) (bytes : List ℕ) (tree : heads.Tree)
    (rest : List ℕ) → heads.Reads bytes tree rest → 64 < length (heads.fields tree)
    → length bytes ≤ 16384 → HeadIsLarge heads bytes
many_fields heads bytes tree rest reads many short =
    let same = take_all 16384 bytes short in
    inl (tree, rest, subst (λ l. heads.Reads l tree rest) (sym same) reads, many)

-- bytes that can't become a head are malformed if they are within the limit
pub malformed_head : {Head : Type 0} (heads : HeadGrammar Head) (bytes : List ℕ)
    → length bytes ≤ 16384 → NeverHasHead heads bytes → HeadIsMalformed heads bytes
malformed_head heads bytes short h =
    subst (NeverHasHead heads) (sym (take_all 16384 bytes short)) h

-- bytes within the limit have no head with more fields than the room of a crowded head
pub crowded_room : {Head : Type 0} (heads : HeadGrammar Head) (laws : HeadLaws heads)
    (bytes front rest : List ℕ) (tree : heads.Tree) (room : ℕ) → length bytes ≤ 16384
    → bytes ≡ front ++ rest → heads.Reads (front ++ print_end lf) tree []
    → room < length (heads.fields tree) → room < 5461
crowded_room heads laws bytes front rest tree room short whole reads above =
    let printed = laws.printed (front ++ print_end lf) tree [] reads in
    let text = ap length printed.0 in
    let long = printed.1 in
    let ends = length-append front (print_end lf) in
    let all = length-append (heads.text tree) [] in
    let front_fits = length-append front rest in
    omega (arith, text, long, ends, all, front_fits, ap length whole, short, above)

-- if 16,384 bytes are the beginning of a head and have no complete one, it is too large
pub full_head : {Head : Type 0} (heads : HeadGrammar Head) (bytes : List ℕ) (m : ℕ)
    → m ≡ min (length bytes) 16384 → 16384 ≤ length bytes
    → HasNoHead heads (take m bytes) × heads.MayBecome (take m bytes) → HeadIsLarge heads bytes
full_head heads bytes m e full h =
    let same = front_is bytes m 16384 e in
    inr (full, subst (HasNoHead heads) same h.0, subst heads.MayBecome same h.1)

-- if there are fewer bytes, the head is cut off
pub open_head : {Head : Type 0} (heads : HeadGrammar Head) (bytes : List ℕ) (m : ℕ)
    → m ≡ min (length bytes) 16384 → length bytes < 16384
    → HasNoHead heads (take m bytes) × heads.MayBecome (take m bytes) → HeadIsCut heads bytes
open_head heads bytes m e few h =
    let same : take m bytes ≡ bytes = take_all m bytes (omega (arith, e, few)) in
    (few, subst (HasNoHead heads) same h.0, subst heads.MayBecome same h.1)

-- a head that fails does so in every continuation
pub head_fails_more : {Head : Type 0} (heads : HeadGrammar Head) (laws : HeadLaws heads)
    (bytes more : List ℕ) (e : MessageFault) → HeadFails heads bytes e
    → HeadFails heads (bytes ++ more) e
head_fails_more heads laws bytes more message_fault.Bad h =
    let front = front_grows bytes more 16384 in
    subst (NeverHasHead heads) (sym front.1) (λ later. rw append_assoc (h (front.0 ++ later)))
head_fails_more heads laws bytes more message_fault.HeadTooLarge (inl (tree, rest, reads, many)) =
    let front = front_grows bytes more 16384 in
    inl (
      tree,
      rest ++ front.0,
      subst (λ l. heads.Reads l tree (rest ++ front.0)) (sym front.1)
          (laws.more (take 16384 bytes) tree rest front.0 reads),
      many,
    )
head_fails_more heads laws bytes more message_fault.HeadTooLarge (inr (full, none, may)) =
    let same = sym (take-append-le 16384 bytes more full) in
    inr (
      omega (arith, full, length-append bytes more),
      subst (HasNoHead heads) same none,
      subst heads.MayBecome same may,
    )
head_fails_more heads laws bytes more message_fault.TooLarge h = h
head_fails_more heads laws bytes more message_fault.OutOfMemory h = tt

-- what fails in the first bytes fails in all bytes
pub front_fails : {Head : Type 0} (heads : HeadGrammar Head) (laws : HeadLaws heads)
    (bytes : List ℕ) (m : ℕ) (e : MessageFault) → HeadFails heads (take m bytes) e
    → HeadFails heads bytes e
front_fails heads laws bytes m e h = subst (λ l. HeadFails heads l e) (take-append-drop m bytes)
    (head_fails_more heads laws (take m bytes) (drop m bytes) e h)

-- a head that begins the first bytes begins all bytes
pub front_head : {Head : Type 0} (heads : HeadGrammar Head) (laws : HeadLaws heads)
    (bytes : List ℕ) (m n : ℕ) (head : Head) → n ≤ length (take m bytes)
    → ReadsHead heads (take m bytes) head (drop n (take m bytes))
    → ReadsHead heads bytes head (drop n bytes)
front_head heads laws bytes m n head fits h =
    let more = head_more heads laws (take m bytes) (drop m bytes) head (drop n (take m bytes)) h in
    let whole = subst (λ l. ReadsHead heads l head (drop n (take m bytes) ++ drop m bytes))
    (take-append-drop m bytes) more in
    subst (ReadsHead heads bytes head) (sym (dropped bytes m n fits)) whole
  where
    dropped : (xs : List ℕ) (m n : ℕ) → n ≤ length (take m xs)
        → drop n xs ≡ drop n (take m xs) ++ drop m xs
    dropped xs m n fits =
        ap (drop n) (sym (take-append-drop m xs)) ∙ drop-append-le n (take m xs) (drop m xs) fits

-- the first bytes of an input that begins with a head begin with it
in_front : {Head : Type 0} (heads : HeadGrammar Head) (laws : HeadLaws heads)
    (input : List ℕ) (head : Head) (after : List ℕ) → (h : ReadsHead heads input head after)
    → heads.Reads (take 16384 input) h.tree
    (drop (length (heads.text h.tree)) (take 16384 input))
in_front heads laws input head after h =
    let text = heads.text h.tree in
    laws.again input (take 16384 input) h.tree after (drop (length text) (take 16384 input)) h.reads
    (text_in_front 16384 input text after (laws.printed input h.tree after h.reads).0 h.size)

-- bytes that begin with a head may become one
never_at : {Head : Type 0} (heads : HeadGrammar Head) (bytes : List ℕ) (tree : heads.Tree)
    (rest : List ℕ) → heads.Reads bytes tree rest → NeverHasHead heads bytes → ⊥
never_at heads bytes tree rest reads never =
    never [] tree rest (subst (λ l. heads.Reads l tree rest) (sym (append-nil bytes)) reads)

-- a head is not too large, malformed or cut off
pub not_large : {Head : Type 0} (heads : HeadGrammar Head) (laws : HeadLaws heads)
    (input : List ℕ) (head : Head) (after : List ℕ) → ReadsHead heads input head after
    → HeadIsLarge heads input → ⊥
not_large heads laws input head after h (inl (tree, rest, reads, many)) =
    let same = laws.one (take 16384 input) tree h.tree rest
    (drop (length (heads.text h.tree)) (take 16384 input)) reads (in_front heads laws input head after h) in
    let count = ap (λ t. length (heads.fields t)) same.0 in
    let few = h.count in
    omega (arith, count, few, many)
not_large heads laws input head after h (inr (full, none, may)) =
    none h.tree (drop (length (heads.text h.tree)) (take 16384 input)) (in_front heads laws input head after h)

pub not_malformed : {Head : Type 0} (heads : HeadGrammar Head) (laws : HeadLaws heads)
    (input : List ℕ) (head : Head) (after : List ℕ) → ReadsHead heads input head after
    → HeadIsMalformed heads input → ⊥
not_malformed heads laws input head after h never =
    never_at heads (take 16384 input) h.tree (drop (length (heads.text h.tree)) (take 16384 input))
    (in_front heads laws input head after h) never

pub not_cut : {Head : Type 0} (heads : HeadGrammar Head) (input : List ℕ) (head : Head)
    (after : List ℕ) → ReadsHead heads input head after → HeadIsCut heads input → ⊥
not_cut heads input head after h (few, none, may) = none h.tree after h.reads

-- of two faults of an input without a head, one is that the bytes may become a head and cannot
pub large_or_malformed : {Head : Type 0} (heads : HeadGrammar Head) (input : List ℕ)
    → HeadIsLarge heads input → HeadIsMalformed heads input
    → NeverHasHead heads (take 16384 input) × heads.MayBecome (take 16384 input)
large_or_malformed heads input (inl (tree, rest, reads, many)) never =
    absurd (never_at heads (take 16384 input) tree rest reads never)
large_or_malformed heads input (inr (full, none, may)) never = (never, may)

pub large_or_cut : {Head : Type 0} (heads : HeadGrammar Head) (input : List ℕ)
    → HeadIsLarge heads input → HeadIsCut heads input → ⊥
large_or_cut heads input (inl (tree, rest, reads, many)) (few, none, may) =
    let same = take_all 16384 input (omega (arith, few)) in
    none tree rest (subst (λ l. heads.Reads l tree rest) same reads)
large_or_cut heads input (inr (full, none, may)) (few, other, begun) = omega (arith, full, few)

pub malformed_or_cut : {Head : Type 0} (heads : HeadGrammar Head) (input : List ℕ)
    → HeadIsMalformed heads input → HeadIsCut heads input
    → NeverHasHead heads (take 16384 input) × heads.MayBecome (take 16384 input)
malformed_or_cut heads input never (few, none, may) =
    let same = take_all 16384 input (omega (arith, few)) in
    (never, subst heads.MayBecome (sym same) may)
