-- The journal of a legal past is followed.
use Rattle.std.proofs.Common.{◌≡◌, ℕ, ◌+◌, Bool, true, false, not, List, [], ◌∷◌, ◌++◌, reverse, take, drop, sym, ap, ◌∙◌}
use Rattle.std.specs.List.{list_all}
use Rattle.std.proofs.lemmas.List.{reverse-append, reverse-reverse, take-append-drop}
use Rattle.bg_strategy.specs.declared.strategy.Strategy.{Strategy}
use Rattle.bg_history.specs.declared.entry.Entry.{Entry}
use Rattle.bg_history.specs.Kept.{Opening}
use Rattle.bg_history.specs.Allowed.{is_allowed}
use Rattle.bg_history.specs.Steps.{all_allowed}
use Rattle.bg_history_laws.specs.Journaled.{is_of_request}
use Rattle.bg_rollout.specs.declared.follow_fault.JournalFault.{JournalFault}
use Rattle.bg_rollout.specs.declared.follow_fault.JournalFault.TheVariants.{TooManyEntries, OfRequest, NotAllowed, OutOfMemory}
use Rattle.bg_rollout.specs.declared.limits.Limits.{Limits}
use Rattle.bg_rollout.specs.Following.{first_entries, IsShortage, JournalFaultIs}
use Rattle.bg_rollout.proofs.OpenRequests.Requests.{and_parts}
use Rattle.bg_rollout.proofs.Following.{next_entries}

-- the older entries of an allowed past are allowed
older_allowed : (s : Strategy) (o : Opening) (newer older : List Entry) → all_allowed s o (newer ++ older) ≡ true → all_allowed s o older ≡ true
older_allowed s o [] older h = h
older_allowed s o (e ∷ newer) older h =
    older_allowed s o newer older (and_parts (is_allowed s o e (newer ++ older)) (all_allowed s o (newer ++ older)) h).1

older_pass : (p : Entry → Bool) (newer older : List Entry) → list_all p (newer ++ older) ≡ true → list_all p older ≡ true
older_pass p [] older h = h
older_pass p (e ∷ newer) older h = older_pass p newer older (and_parts (p e) (list_all p (newer ++ older)) h).1

-- the first entries, the oldest first, are the older ones of the past
older_first : (n : ℕ) (past : List Entry) → reverse (drop n (reverse past)) ++ first_entries n (reverse past) ≡ past
older_first n past =
    sym (reverse-append (take n (reverse past)) (drop n (reverse past)))
    ∙ ap (λ es. reverse es) (take-append-drop n (reverse past))
    ∙ reverse-reverse past

first_allowed : (s : Strategy) (o : Opening) (n : ℕ) (past : List Entry) → all_allowed s o past ≡ true → all_allowed s o (first_entries n (reverse past)) ≡ true
first_allowed s o n past h =
    older_allowed s o (reverse (drop n (reverse past))) (first_entries n (reverse past)) (ap (all_allowed s o) (older_first n past) ∙ h)

first_pass : (p : Entry → Bool) (n : ℕ) (past : List Entry) → list_all p past ≡ true → list_all p (first_entries n (reverse past)) ≡ true
first_pass p n past h =
    older_pass p (reverse (drop n (reverse past))) (first_entries n (reverse past)) (ap (list_all p) (older_first n past) ∙ h)

both_ways : (t : Bool) → t ≡ true → not t ≡ true → ⊥
both_ways true h k = absurd (cc)
both_ways false h k = absurd (cc)

not_both : (t : Bool) → t ≡ true → t ≡ false → ⊥
not_both true h k = absurd (cc)
not_both false h k = absurd (cc)

-- a fault of an allowed past without entries of requests is one of room or of memory
pub only_shortage : (s : Strategy) (o : Opening) (l : Limits) (past : List Entry) (fault : JournalFault) → all_allowed s o past ≡ true
    → list_all (λ e. not (is_of_request e)) past ≡ true → JournalFaultIs s o l (reverse past) fault → IsShortage fault
only_shortage s o l past TooManyEntries allowed plain is = tt
only_shortage s o l past (OfRequest place) allowed plain is =
    let e : Entry = is.0 in
    let more = ap (list_all (λ x. not (is_of_request x))) (sym (next_entries place (reverse past) e is.1.entry)) ∙ first_pass (λ x. not (is_of_request x)) (place + 1) past plain in
    absurd (both_ways (is_of_request e) is.2 (and_parts (not (is_of_request e)) (list_all (λ x. not (is_of_request x)) (first_entries place (reverse past))) more).0)
only_shortage s o l past (NotAllowed place) allowed plain is =
    let e : Entry = is.0 in
    let more = ap (all_allowed s o) (sym (next_entries place (reverse past) e is.1.entry)) ∙ first_allowed s o (place + 1) past allowed in
    absurd (not_both (is_allowed s o e (first_entries place (reverse past))) (and_parts (is_allowed s o e (first_entries place (reverse past))) (all_allowed s o (first_entries place (reverse past))) more).0 is.3)
only_shortage s o l past OutOfMemory allowed plain is = tt
