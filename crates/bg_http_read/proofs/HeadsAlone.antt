-- The heads of a response are the same, whatever follows them.
use Rattle.std.proofs.Common.{◌≡◌, ℕ, zero, suc, List, [], ◌++◌, take, drop, refl, ap, sym, ◌∙◌, append_assoc, take-append-drop, subst, Option, Some, None, IfNone, IfSome}
use Rattle.std.proofs.lemmas.List.{append_cancel_right}
use Rattle.bg_http.specs.declared.request.Request.{Request}
use Rattle.bg_http.specs.declared.response.ResponseHead.{ResponseHead}
use Rattle.bg_http.specs.declared.response_rules.ResponseFraming.{ResponseFraming}
use Rattle.bg_http_read.specs.Heads.{ReadsResponseHead, response_heads}
use Rattle.bg_http_read.specs.ResponseHeads.{AreHeads}
use Rattle.bg_http_read.specs.Responses.{AfterInterim, IsFinalHeadWithin, SkipsInterim}
use Rattle.bg_http_read.proofs.HeadsFound.{response_laws}

-- the bytes of a head
head_alone : (input after : List ℕ) (head : ResponseHead) → ReadsResponseHead input head after
    → (front : List ℕ) × (input ≡ front ++ after) × ((more : List ℕ) → ReadsResponseHead (front ++ more) head more)
head_alone input after head h =
    let text = response_heads.text h.tree in (
      text,
      (response_laws.printed input h.tree after h.reads).0,
      λ more. record {
        tree = h.tree;
        reads = response_laws.again input (text ++ more) h.tree after more h.reads refl;
        size = h.size;
        count = h.count;
        head_is = h.head_is;
      },
    )

-- the bytes of interim responses
skips_alone : (request : Request) (count : ℕ) (input after : List ℕ) → SkipsInterim request count input after
    → (front : List ℕ) × (input ≡ front ++ after) × ((more : List ℕ) → SkipsInterim request count (front ++ more) more)
skips_alone request zero input after h = ([], h, λ more. refl)
skips_alone request (suc count) input after (before, head, skips, judged) =
    let earlier = skips_alone request count input before skips in
    let last = head_alone before after head judged.reads in (
      earlier.0 ++ last.0,
      earlier.1 ∙ ap (λ l. earlier.0 ++ l) last.1 ∙ sym (append_assoc earlier.0 last.0 after),
      λ more. (
        last.0 ++ more,
        head,
        subst (λ l. SkipsInterim request count l (last.0 ++ more)) (sym (append_assoc earlier.0 last.0 more))
            (earlier.2 (last.0 ++ more)),
        record { reads = last.2 more; judged = judged.judged },
      ),
    )

-- the bytes of all heads
heads_alone : (most : ℕ) (request : Request) (input after : List ℕ) (head : ResponseHead) (named : ResponseFraming)
    → AfterInterim request input (IsFinalHeadWithin most request head named after)
    → (front : List ℕ) × (input ≡ front ++ after) × AreHeads most request front head named
heads_alone most request input after head named h =
    let earlier = skips_alone request h.count input h.after h.skips in
    let last = head_alone h.after after head h.holds.0.reads in (
      earlier.0 ++ last.0,
      earlier.1 ∙ ap (λ l. earlier.0 ++ l) last.1 ∙ sym (append_assoc earlier.0 last.0 after),
      λ more. record {
        count = h.count;
        few = h.few;
        after = last.0 ++ more;
        skips = subst (λ l. SkipsInterim request h.count l (last.0 ++ more)) (sym (append_assoc earlier.0 last.0 more))
            (earlier.2 (last.0 ++ more));
        holds = (record { reads = last.2 more; judged = h.holds.0.judged }, h.holds.1);
      },
    )

-- the bytes before those that are left
front_is : (input bytes front : List ℕ) (count : ℕ) → input ++ bytes ≡ front ++ drop count bytes
    → front ≡ input ++ take count bytes
front_is input bytes front count same =
    append_cancel_right front (input ++ take count bytes) (drop count bytes)
    (sym same ∙ ap (λ l. input ++ l) (sym (take-append-drop count bytes))
    ∙ sym (append_assoc input (take count bytes) (drop count bytes)))

pub interim_taken : (request : Request) (many count : ℕ) (input bytes : List ℕ)
    → SkipsInterim request many (input ++ bytes) (drop count bytes)
    → (more : List ℕ) → SkipsInterim request many ((input ++ take count bytes) ++ more) more
interim_taken request many count input bytes h more =
    let alone = skips_alone request many (input ++ bytes) (drop count bytes) h in
    subst (λ l. SkipsInterim request many (l ++ more) more) (front_is input bytes alone.0 count alone.1) (alone.2 more)

pub heads_taken : (most : ℕ) (request : Request) (count : ℕ) (input bytes : List ℕ) (head : ResponseHead) (named : ResponseFraming)
    → AfterInterim request (input ++ bytes) (IsFinalHeadWithin most request head named (drop count bytes))
    → AreHeads most request (input ++ take count bytes) head named
heads_taken most request count input bytes head named h =
    let alone = heads_alone most request (input ++ bytes) (drop count bytes) head named h in
    subst (λ l. AreHeads most request l head named) (front_is input bytes alone.0 count alone.1) alone.2

-- what holds of a head that may have been found
pub some_so : {A : Type 0} (P Q : A → Type 0) (found : Option A) → ((at : A) → P at → Q at) → IfSome found P → IfSome found Q
some_so P Q None so h = tt
some_so P Q (Some at) so h = so at h

pub none_so : {A : Type 0} (P Q : Type 0) (found : Option A) → (P → Q) → IfNone found P → IfNone found Q
none_so P Q None so h = so h
none_so P Q (Some at) so h = tt
