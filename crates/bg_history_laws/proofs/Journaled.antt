-- A past without the entries of its requests.
use Rattle.std.proofs.Common.{◌≡◌, ◌≤◌, ℕ, zero, suc, Bool, true, not, cond, ◌==◌, ◌&&◌, nat_le, List, [], ◌∷◌, length, replicate, Option, Some, None, refl, arith, ap, sym, ◌∙◌}
use Rattle.std.specs.Option.{option_or}
use Rattle.std.specs.List.{list_all}
use Rattle.std.proofs.lemmas.Bool.Decides.{nat_tests}
use Rattle.bg_strategy.specs.declared.strategy.Strategy.{Strategy}
use Rattle.bg_strategy.specs.Label.{is_label}
use Rattle.bg_revisions.specs.PortLists.{are_ports}
use Rattle.bg_history.specs.declared.entry.Entry.{Entry}
use Rattle.bg_history.specs.declared.entry.Entry.TheVariants.{Deploy, Enter, Leave}
use Rattle.bg_history.specs.Kept.{Opening}
use Rattle.bg_history.specs.AttemptBounds.{newest_of}
use Rattle.bg_history.specs.Sizes.{existing}
use Rattle.bg_history.specs.Templates.{template, is_named, has_ports, namesake}
use Rattle.bg_history.specs.Allowed.{fits_namesake, is_template, is_allowed, may_deploy}
use Rattle.bg_history.specs.Requests.{open_requests, request_numbers, given, calls_in}
use Rattle.bg_history.specs.Steps.{all_allowed, all_given, is_opening, IsLegal}
use Rattle.bg_history_laws.specs.Journaled.{is_of_request, journaled, Journals}
use Rattle.bg_history_laws.proofs.Tests.{and_parts, and_both}
use Rattle.bg_history_laws.proofs.Compacted.Questions.{find-same}
use Rattle.bg_history_laws.proofs.Compacted.Without.{without-moment, without-alike}
use Rattle.bg_history_laws.proofs.Compacted.Legal.{without-allowed}
use Rattle.bg_history_laws.proofs.Compacted.Tables.{table-without}
use Rattle.bg_history_laws.proofs.Compacted.Compacted.{answers-alike}

-- the opening with another number of seats
abbrev seated : ℕ → Opening → Opening
seated n o = record o { seats = n }

-- the templates don't depend on the number of seats
template-seated : (n : ℕ) (o : Opening) (r : ℕ) (past : List Entry) → template (seated n o) r past ≡ template o r past
template-seated n o r [] = refl
template-seated n o r (Deploy q name ports ∷ before) =
    ap (λ t. option_or t (cond (q == r) (Some (record { name = name; ports = ports })) None)) (template-seated n o r before)
template-seated n o r (e ∷ before) = template-seated n o r before

namesake-seated : (n : ℕ) (o : Opening) (name : List ℕ) (past : List Entry) → namesake (seated n o) name past ≡ namesake o name past
namesake-seated n o name past =
    find-same (λ q. is_named name (template (seated n o) q past)) (λ q. is_named name (template o q past)) (λ q. ap (is_named name) (template-seated n o q past)) (existing past)

fits-seated : (n : ℕ) (o : Opening) (q : Option ℕ) (r : ℕ) (ports : List ℕ) (past : List Entry) → fits_namesake (seated n o) q r ports past ≡ fits_namesake o q r ports past
fits-seated n o None r ports past = refl
fits-seated n o (Some q) r ports past = ap (λ t. (q == r) && has_ports ports t) (template-seated n o q past)

deploy-seated : (s : Strategy) (n : ℕ) (o : Opening) (r : ℕ) (name ports : List ℕ) (past : List Entry) → may_deploy s (seated n o) r name ports past ≡ may_deploy s o r name ports past
deploy-seated s n o r name ports past =
    ap (λ t. is_label name && are_ports s.replicas ports && not (is_template name ports t) && fits_namesake (seated n o) (namesake (seated n o) name past) r ports past) (template-seated n o (newest_of past) past)
    ∙ ap (λ q. is_label name && are_ports s.replicas ports && not (is_template name ports (template o (newest_of past) past)) && fits_namesake (seated n o) q r ports past) (namesake-seated n o name past)
    ∙ ap (λ b. is_label name && are_ports s.replicas ports && not (is_template name ports (template o (newest_of past) past)) && b) (fits-seated n o (namesake o name past) r ports past)

-- the journaled past is allowed with any number of seats, if it is with one
seated-allowed : (s : Strategy) (n : ℕ) (o : Opening) (past : List Entry) → all_allowed s o (journaled past) ≡ true → all_allowed s (seated n o) (journaled past) ≡ true
seated-allowed s n o [] h = refl
seated-allowed s n o (Enter seat service number r port ∷ before) h = seated-allowed s n o before h
seated-allowed s n o (Leave seat number r ∷ before) h = seated-allowed s n o before h
seated-allowed s n o (Deploy r name ports ∷ before) h =
    let two = and_parts (is_allowed s o (Deploy r name ports) (journaled before)) (all_allowed s o (journaled before)) h in
    and_both (is_allowed s (seated n o) (Deploy r name ports) (journaled before)) _ (deploy-seated s n o r name ports (journaled before) ∙ two.0) (seated-allowed s n o before two.1)
seated-allowed s n o (e ∷ before) h =
    let two = and_parts (is_allowed s o e (journaled before)) (all_allowed s o (journaled before)) h in
    and_both (is_allowed s (seated n o) e (journaled before)) _ two.0 (seated-allowed s n o before two.1)

none-open : (past : List Entry) → open_requests (journaled past) ≡ []
none-open [] = refl
none-open (Enter seat service number r port ∷ before) = none-open before
none-open (Leave seat number r ∷ before) = none-open before
none-open (e ∷ before) = none-open before

none-numbered : (past : List Entry) → request_numbers (journaled past) ≡ []
none-numbered [] = refl
none-numbered (Enter seat service number r port ∷ before) = none-numbered before
none-numbered (Leave seat number r ∷ before) = none-numbered before
none-numbered (e ∷ before) = none-numbered before

none-called : (i : ℕ) (past : List Entry) → calls_in i (journaled past) ≡ 0
none-called i [] = refl
none-called i (Enter seat service number r port ∷ before) = none-called i before
none-called i (Leave seat number r ∷ before) = none-called i before
none-called i (e ∷ before) = none-called i before

no-request : (past : List Entry) → list_all (λ e. not (is_of_request e)) (journaled past) ≡ true
no-request [] = refl
no-request (Enter seat service number r port ∷ before) = no-request before
no-request (Leave seat number r ∷ before) = no-request before
no-request (e ∷ before) = no-request before

length-zeros : (n : ℕ) → length {A = ℕ} (replicate n 0) ≡ n
length-zeros zero = refl
length-zeros (suc n) = ap (λ k. suc k) (length-zeros n)

opens : (s : Strategy) (n : ℕ) (o : Opening) → is_opening s o ≡ true → 1 ≤ n → n ≤ 2048 → is_opening s (seated n o) ≡ true
opens s n o h least most =
    let three = and_parts _ (nat_le o.seats 2048) h in
    let two = and_parts (is_label o.template.name && are_ports s.replicas o.template.ports) (nat_le 1 o.seats) three.0 in
    and_both _ (nat_le n 2048) (and_both (is_label o.template.name && are_ports s.replicas o.template.ports) (nat_le 1 n) two.0 (grind (arith, nat_tests))) (grind (arith, nat_tests))

pub journals : (s : Strategy) (o : Opening) (closed : List ℕ) (past : List Entry) → IsLegal s o closed past → Journals s o past
journals s o closed past legal =
    let all : ℕ → Bool = λ number. true in
    record {
      legal = λ n least most. record {
        opening = opens s n o legal.opening least most;
        seats = length-zeros n;
        allowed = seated-allowed s n o past (without-allowed s o all past legal.allowed);
        numbers = ap (all_given (given (replicate n 0) (journaled past))) (none-numbered past);
      };
      alike = without-alike s o all past;
      now = without-moment all past;
      answers = answers-alike s o past (journaled past) (without-alike s o all past) (without-moment all past);
      table = table-without s o all past;
      no_request = no-request past;
      none_open = none-open past;
      numbers = none-numbered past;
      calls = λ i. none-called i past;
      templates = λ n r. template-seated n o r (journaled past) ∙ sym ((without-alike s o all past).templates r);
    }
