-- Each entry of a legal past, but for those of requests, has a line.
use Rattle.std.proofs.Common.{◌≡◌, ℕ, true, List, [], ◌∷◌, refl}
use Rattle.std.specs.Prelude.{◌==◌, ◌&&◌, not, length}
use Rattle.std.specs.List.{list_all}
use Rattle.std.proofs.lemmas.Bool.{and_from, and_parts}
use Rattle.bg_strategy.specs.declared.strategy.Strategy.{Strategy}
use Rattle.bg_strategy.specs.Label.{is_label}
use Rattle.bg_revisions.specs.PortLists.{are_distinct, are_ports}
use Rattle.bg_history.specs.declared.entry.Entry.{Entry}
use Rattle.bg_history.specs.declared.entry.Entry.TheVariants.{Tick, Deploy, Available, Verdict, Promote, PromoteFull, Abort, Retry, Enter, Leave, Outcome}
use Rattle.bg_history.specs.AttemptBounds.{newest_of}
use Rattle.bg_history.specs.Allowed.{fits_namesake, is_allowed, is_template, may_deploy}
use Rattle.bg_history.specs.Kept.{Opening}
use Rattle.bg_history.specs.Steps.{all_allowed}
use Rattle.bg_history.specs.Templates.{namesake, template}
use Rattle.bg_history_laws.specs.Journaled.{is_of_request}
use Rattle.bg_journal.specs.Texts.{has_line, is_port}

are_ports_in_range : (replicas : ℕ) (ports : List ℕ) → are_ports replicas ports ≡ true → list_all is_port ports ≡ true
are_ports_in_range replicas ports e =
    (and_parts (length ports == replicas) (list_all is_port ports) (and_parts ((length ports == replicas) && list_all is_port ports) (are_distinct ports) e).0).1

deploy_has_line : (s : Strategy) (o : Opening) (r : ℕ) (name ports : List ℕ) (before : List Entry)
    → may_deploy s o r name ports before ≡ true → has_line (Deploy r name ports) ≡ true
deploy_has_line s o r name ports before e =
    let but_last = (and_parts (is_label name && are_ports s.replicas ports && not (is_template name ports (template o (newest_of before) before))) (fits_namesake o (namesake o name before) r ports before) e).0 in
    let first_two = (and_parts (is_label name && are_ports s.replicas ports) (not (is_template name ports (template o (newest_of before) before))) but_last).0 in
    let both = and_parts (is_label name) (are_ports s.replicas ports) first_two in
    and_from (is_label name) (list_all is_port ports) both.0 (are_ports_in_range s.replicas ports both.1)

allowed_has_line : (s : Strategy) (o : Opening) (e : Entry) (before : List Entry)
    → is_allowed s o e before ≡ true → not (is_of_request e) ≡ true → has_line e ≡ true
allowed_has_line s o (Tick m) before a n = refl
allowed_has_line s o (Deploy r name ports) before a n = deploy_has_line s o r name ports before a
allowed_has_line s o (Available r size) before a n = refl
allowed_has_line s o (Verdict analysis result) before a n = refl
allowed_has_line s o Promote before a n = refl
allowed_has_line s o PromoteFull before a n = refl
allowed_has_line s o Abort before a n = refl
allowed_has_line s o Retry before a n = refl
allowed_has_line s o (Enter seat service number r port) before a n = n
allowed_has_line s o (Leave seat number r) before a n = n
allowed_has_line s o (Outcome x) before a n = refl

pub allowed_have_lines : (s : Strategy) (o : Opening) (past : List Entry) → all_allowed s o past ≡ true
    → list_all (λ e. not (is_of_request e)) past ≡ true → list_all has_line past ≡ true
allowed_have_lines s o [] a n = refl
allowed_have_lines s o (e ∷ before) a n =
    let allowed = and_parts (is_allowed s o e before) (all_allowed s o before) a in
    let plain = and_parts (not (is_of_request e)) (list_all (λ f. not (is_of_request f)) before) n in
    and_from (has_line e) (list_all has_line before) (allowed_has_line s o e before allowed.0 plain.0)
    (allowed_have_lines s o before allowed.1 plain.1)
