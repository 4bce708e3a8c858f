-- Where the bytes that a step takes lead to.
use Rattle.std.proofs.Common.{◌≡◌, ℕ, ◌<◌, ◌≤◌, ◌-◌, List, [], ◌∷◌, ◌++◌, length, take, drop, zero, suc, false, true, refl, ap, ap₂, sym, ◌∙◌, arith, append_assoc, min, subst, take-append-drop, get_or, Result, Ok, Err, IfOk, Option, Some, None, IfSome, IfNone, ◌==◌}
use Rattle.std.proofs.lemmas.List.{append-nil, append_cancel_right, length-append, length-take-le}
use Rattle.httparse.specs.Ascii.{crlf_bytes}
use Rattle.httparse.specs.Grammar.{print_chunk_line, print_section}
use Rattle.bg_http_read.specs.Bodies.{is_whole}
use Rattle.bg_http_read.specs.BodyFaults.{LineEndFails, cut}
use Rattle.bg_http_read.specs.Chunks.{Leads, ReadsChunk, ReadsEnd, ReadsLine, ReadsTrailers, joined}
use Rattle.bg_http_read.specs.declared.body.BodyStage.{BodyStage}
use Rattle.bg_http_read.specs.declared.body.BodyStage.TheVariants as stage
use Rattle.bg_relay.specs.declared.framing.Framing.TheVariants as framing
use Rattle.bg_relay.specs.Places.{ChunksThen, DataOf, EndOf, NothingOf}
use Rattle.bg_relay.specs.Steps.{IsStep, LeadsTo}
use Rattle.bg_relay.specs.declared.steps.Step.{Step}
use Rattle.bg_relay.proofs.ChunkLists.{joined_both, last_of, leads_both, leads_on, line_goes_on}

-- the bytes of a length
pub length_leads : (left count : ℕ) (taken : List ℕ) → length taken ≡ count → count ≤ left
    → LeadsTo (stage.Length left) (stage.Length (left - count)) taken taken
length_leads left count taken size fits (framing.Length n) input body h =
    (ap (λ l. l ++ taken) h.0, omega (arith, h.1, length-append body taken, size, fits))
length_leads left count taken size fits framing.Chunks input body h = absurd h
length_leads left count taken size fits framing.ToTheEnd input body h = absurd h

-- all bytes
pub all_leads : (taken : List ℕ) → LeadsTo stage.ToTheEnd stage.ToTheEnd taken taken
all_leads taken (framing.Length n) input body h = absurd h
all_leads taken framing.Chunks input body h = absurd h
all_leads taken framing.ToTheEnd input body h = ap (λ l. l ++ taken) h

-- a line, or trailers, without what follows
pub line_alone : (bytes : List ℕ) (count size : ℕ) → ReadsLine bytes size (drop count bytes)
    → ReadsLine (take count bytes) size []
line_alone bytes count size h = record {
  line = h.line;
  is = h.is;
  input_is = append_cancel_right (take count bytes) (print_chunk_line h.line) (drop count bytes)
      (take-append-drop count bytes ∙ h.input_is) ∙ sym (append-nil (print_chunk_line h.line));
}

pub trailers_alone : (bytes : List ℕ) (count : ℕ) → ReadsTrailers bytes (drop count bytes)
    → ReadsTrailers (take count bytes) []
trailers_alone bytes count h = record {
  fields = h.fields;
  last = h.last;
  reads = (
    h.reads.0,
    append_cancel_right (take count bytes) (print_section h.fields h.last) (drop count bytes)
        (take-append-drop count bytes ∙ h.reads.1) ∙ sym (append-nil (print_section h.fields h.last)),
  );
  size = h.size;
  count = h.count;
}

-- no byte of the next chunk adds to the body
pub no_more : (Last : List ℕ → List ℕ → Type 0) (input body : List ℕ) → ((last begun : List ℕ) → Last last begun → begun ≡ [])
    → (h : ChunksThen Last input body) → body ++ [] ≡ joined h.chunks ++ []
no_more Last input body none h =
    let last = last_of (λ last. Last last h.begun) h.chunks input h.leads in
    append-nil body ∙ h.body_is ∙ ap (λ l. joined h.chunks ++ l) (none last.0 h.begun last.1)

-- the line of a chunk
pub line_leads : (taken : List ℕ) (size : ℕ) → ReadsLine taken size [] → 0 < size
    → LeadsTo stage.Line (stage.Data size) taken []
line_leads taken size line some (framing.Length n) input body h = absurd h
line_leads taken size line some framing.ToTheEnd input body h = absurd h
line_leads taken size line some framing.Chunks input body h = record {
  chunks = h.chunks;
  begun = [];
  leads = leads_on (λ last. NothingOf last h.begun) (λ last. DataOf size last []) taken
      (λ last none. record {
        size = size;
        line = subst (λ l. ReadsLine (l ++ taken) size []) (sym none.0) line;
        some = some;
        size_is = omega arith;
      }) h.chunks input h.leads;
  body_is = no_more NothingOf input body (λ last begun none. none.1) h;
}

-- the line of size 0
pub end_leads : (taken : List ℕ) → ReadsLine taken 0 [] → LeadsTo stage.Line stage.Trailers taken []
end_leads taken line (framing.Length n) input body h = absurd h
end_leads taken line framing.ToTheEnd input body h = absurd h
end_leads taken line framing.Chunks input body h = record {
  chunks = h.chunks;
  begun = [];
  leads = leads_on (λ last. NothingOf last h.begun) (λ last. EndOf last []) taken
      (λ last none. (subst (λ l. ReadsLine (l ++ taken) 0 []) (sym none.0) line, refl))
      h.chunks input h.leads;
  body_is = no_more NothingOf input body (λ last begun none. none.1) h;
}

-- the bytes of a chunk's data
pub data_leads : (left count : ℕ) (taken : List ℕ) → length taken ≡ count → count ≤ left
    → LeadsTo (stage.Data left) (stage.Data (left - count)) taken taken
data_leads left count taken size fits (framing.Length n) input body h = absurd h
data_leads left count taken size fits framing.ToTheEnd input body h = absurd h
data_leads left count taken size fits framing.Chunks input body h = record {
  chunks = h.chunks;
  begun = h.begun ++ taken;
  leads = leads_on (λ last. DataOf left last h.begun) (λ last. DataOf (left - count) last (h.begun ++ taken)) taken
      (λ last d. record {
        size = d.size;
        line = line_goes_on last taken h.begun d.size d.line;
        some = d.some;
        size_is = omega (arith, d.size_is, length-append h.begun taken, size, fits);
      }) h.chunks input h.leads;
  body_is = ap (λ l. l ++ taken) h.body_is ∙ append_assoc (joined h.chunks) h.begun taken;
}

-- the CR LF after a chunk's data
pub line_end_leads : LeadsTo (stage.Data 0) stage.Line crlf_bytes []
line_end_leads (framing.Length n) input body h = absurd h
line_end_leads framing.ToTheEnd input body h = absurd h
line_end_leads framing.Chunks input body h = record {
  chunks = h.chunks ++ h.begun ∷ [];
  begun = [];
  leads = leads_both (λ last. NothingOf last []) h.chunks (h.begun ∷ []) (input ++ crlf_bytes)
      (leads_on (λ last. DataOf 0 last h.begun) (Leads (λ last. NothingOf last []) (h.begun ∷ [])) crlf_bytes
      (λ last d. ([], chunk last d, (refl, refl))) h.chunks input h.leads);
  body_is = append-nil body ∙ h.body_is ∙ ap (λ l. joined h.chunks ++ l) (sym (append-nil h.begun))
      ∙ sym (joined_both h.chunks (h.begun ∷ [])) ∙ sym (append-nil (joined (h.chunks ++ h.begun ∷ [])));
}
  where
    chunk : (last : List ℕ) → DataOf 0 last h.begun → ReadsChunk (last ++ crlf_bytes) h.begun []
    chunk last d =
        let size : d.size ≡ length h.begun = omega (arith, d.size_is) in
        record {
          after = h.begun ++ crlf_bytes;
          line = subst (λ n. ReadsLine (last ++ crlf_bytes) n (h.begun ++ crlf_bytes)) size
              (line_goes_on last crlf_bytes h.begun d.size d.line);
          some = omega (arith, d.some, size);
          bytes_are = refl;
        }

-- the trailers
pub trailers_lead : (taken : List ℕ) → ReadsTrailers taken [] → LeadsTo stage.Trailers stage.Whole taken []
trailers_lead taken trailers (framing.Length n) input body h = absurd h
trailers_lead taken trailers framing.ToTheEnd input body h = absurd h
trailers_lead taken trailers framing.Chunks input body h = record {
  chunks = h.chunks;
  leads = leads_on (λ last. EndOf last h.begun) (ReadsEnd []) taken
      (λ last end. record {
        after = taken;
        line = line_goes_on last taken [] 0 end.0;
        trailers = trailers;
      }) h.chunks input h.leads;
  body_is = no_more EndOf input body (λ last begun end. end.1) h ∙ append-nil (joined h.chunks);
}

-- ---- the steps

pub data_step : (bytes : List ℕ) (left count room : ℕ) → 0 < count → count ≤ length bytes → count ≤ left → count ≤ room
    → IsStep (stage.Data left) bytes room (record { count = count; is_data = true; next = stage.Data (left - count) })
data_step bytes left count room some fits within_left within_room =
    let size = length-take-le count bytes fits in
    record {
      goes_on = refl;
      some = some;
      fits = fits;
      within = omega (arith, size, within_room);
      leads = data_leads left count (take count bytes) size within_left;
    }

pub length_step : (bytes : List ℕ) (left count room : ℕ) → 0 < count → count ≤ length bytes → count ≤ left
    → count ≤ room
    → IsStep (stage.Length left) bytes room (record { count = count; is_data = true; next = stage.Length (left - count) })
length_step bytes left count room some fits within_left within_room =
    let size = length-take-le count bytes fits in
    record {
      goes_on = not_zero left (omega (arith, some, within_left));
      some = some;
      fits = fits;
      within = omega (arith, size, within_room);
      leads = length_leads left count (take count bytes) size within_left;
    }
  where
    not_zero : (n : ℕ) → 0 < n → (n == 0) ≡ false
    not_zero zero some = absurd (omega (arith, some))
    not_zero (suc n) some = grind arith

pub all_step : (bytes : List ℕ) (count room : ℕ) → 0 < count → count ≤ length bytes → count ≤ room
    → IsStep stage.ToTheEnd bytes room (record { count = count; is_data = true; next = stage.ToTheEnd })
all_step bytes count room some fits within_room = record {
  goes_on = refl;
  some = some;
  fits = fits;
  within = omega (arith, length-take-le count bytes fits, within_room);
  leads = all_leads (take count bytes);
}

-- a step over as many bytes of the body as there are, if there are any
pub if_over : (P : Step → Type 0) (count : ℕ) (step : Step) (found : Option Step) → (count ≡ 0 → found ≡ None)
    → (0 < count → found ≡ Some step) → (0 < count → P step) → IfSome found P
if_over P zero step found none some is = subst (λ f. IfSome f P) (sym (none refl)) tt
if_over P (suc count) step found none some is =
    subst (λ f. IfSome f P) (sym (some (omega arith))) (is (omega arith))

pub no_bytes : (bytes : List ℕ) → length bytes ≡ 0 → bytes ≡ []
no_bytes [] none = refl
no_bytes (byte ∷ bytes) none = absurd (omega (arith, none))

pub if_none : (Q : Type 0) (count : ℕ) (step : Step) (found : Option Step) → (0 < count → found ≡ Some step)
    → (count ≡ 0 → Q) → IfNone found Q
if_none Q zero step (Some other) some is = tt
if_none Q zero step None some is = is refl
if_none Q (suc count) step found some is = subst (λ f. IfNone f Q) (sym (some (omega arith))) tt

-- the same of at most so many bytes that are left
module _ (at : ℕ → BodyStage) (bytes : List ℕ) (left room few count : ℕ) (found : Option Step)
    (few_is : few ≡ min (length bytes) left) (count_is : count ≡ min few room)
    (some : 0 < count → found ≡ Some (record { count = count; is_data = true; next = at (left - count) })) where
  pub if_over_left : (count ≡ 0 → found ≡ None)
      → (0 < count → count ≤ length bytes → count ≤ left → count ≤ room
      → IsStep (at left) bytes room (record { count = count; is_data = true; next = at (left - count) }))
      → IfSome found (IsStep (at left) bytes room)
  if_over_left none is =
      if_over (IsStep (at left) bytes room) count (record { count = count; is_data = true; next = at (left - count) }) found
      none some (λ more. is more (omega (arith, few_is, count_is)) (omega (arith, few_is, count_is)) (omega (arith, count_is)))

  pub if_none_left : IfNone found (0 < left → 0 < room → bytes ≡ [])
  if_none_left =
      if_none (0 < left → 0 < room → bytes ≡ []) count
      (record { count = count; is_data = true; next = at (left - count) }) found some
      (λ none more space. no_bytes bytes (omega (arith, none, more, space, few_is, count_is)))

-- a step over bytes of the framing
framing_step : (before next : BodyStage) (bytes : List ℕ) (count room : ℕ) → is_whole before ≡ false → 0 < count
    → count ≤ length bytes → LeadsTo before next (take count bytes) []
    → IsStep before bytes room (record { count = count; is_data = false; next = next })
framing_step before next bytes count room missing some fits leads = record {
  goes_on = missing;
  some = some;
  fits = fits;
  within = omega arith;
  leads = leads;
}

pub line_step : (bytes : List ℕ) (count size room : ℕ) (next : BodyStage) → (0 < count) × (count ≤ length bytes)
    → ReadsLine bytes size (drop count bytes) → (size ≡ 0 → next ≡ stage.Trailers) → (0 < size → next ≡ stage.Data size)
    → IsStep stage.Line bytes room (record { count = count; is_data = false; next = next })
line_step bytes count zero room next within line last more =
    subst (λ n. IsStep stage.Line bytes room (record { count = count; is_data = false; next = n })) (sym (last refl))
    (framing_step stage.Line stage.Trailers bytes count room refl within.0 within.1
    (end_leads (take count bytes) (line_alone bytes count 0 line)))
line_step bytes count (suc size) room next within line last more =
    subst (λ n. IsStep stage.Line bytes room (record { count = count; is_data = false; next = n })) (sym (more (omega arith)))
    (framing_step stage.Line (stage.Data (suc size)) bytes count room refl within.0 within.1
    (line_leads (take count bytes) (suc size) (line_alone bytes count (suc size) line) (omega arith)))

pub trailers_step : (bytes : List ℕ) (count room : ℕ) → (0 < count) × (count ≤ length bytes)
    → ReadsTrailers bytes (drop count bytes)
    → IsStep stage.Trailers bytes room (record { count = count; is_data = false; next = stage.Whole })
trailers_step bytes count room within trailers =
    framing_step stage.Trailers stage.Whole bytes count room refl within.0 within.1
    (trailers_lead (take count bytes) (trailers_alone bytes count trailers))

-- the bytes begin with CR LF
begins_with : (bytes : List ℕ) → 2 ≤ length bytes → get_or bytes 0 0 ≡ 13 → get_or bytes 1 0 ≡ 10
    → take 2 bytes ≡ crlf_bytes
begins_with [] two first second = absurd (omega (arith, two))
begins_with (x ∷ []) two first second = absurd (omega (arith, two))
begins_with (x ∷ y ∷ bytes) two first second = ap₂ (λ a b. a ∷ b ∷ []) first second

pub line_end_step : (bytes : List ℕ) (room : ℕ) → 2 ≤ length bytes → get_or bytes 0 0 ≡ 13 → get_or bytes 1 0 ≡ 10
    → IsStep (stage.Data 0) bytes room (record { count = 2; is_data = false; next = stage.Line })
line_end_step bytes room two first second =
    framing_step (stage.Data 0) stage.Line bytes 2 room refl (omega arith) two
    (subst (λ l. LeadsTo (stage.Data 0) stage.Line l []) (sym (begins_with bytes two first second)) line_end_leads)

-- only CR has come
pub return_alone : (bytes : List ℕ) → 1 ≤ length bytes → length bytes < 2 → get_or bytes 0 0 ≡ 13
    → LineEndFails cut bytes
return_alone [] some few first = absurd (omega (arith, some))
return_alone (x ∷ []) some few first = (10 ∷ [], omega arith, ap (λ b. b ∷ 10 ∷ []) first)
return_alone (x ∷ y ∷ bytes) some few first = absurd (omega (arith, few))

-- a step that takes no byte of the body needs no room
pub any_room : {E : Type 0} (before stage : BodyStage) (bytes : List ℕ) (room : ℕ) (found : Result (Option Step) E)
    → stage ≡ before → IfOk found (λ found. IfSome found (λ step. (room : ℕ) → IsStep before bytes room step))
    → IfOk found (λ found. IfSome found (IsStep stage bytes room))
any_room before stage bytes room (Ok (Some step)) same h =
    subst (λ s. IsStep s bytes room step) (sym same) (h room)
any_room before stage bytes room (Ok None) same h = tt
any_room before stage bytes room (Err e) same h = tt
