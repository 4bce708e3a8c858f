-- The answer of a roster to the template of a deploy.
use Rattle.std.specs.Prelude.{ℕ, if◌then◌else◌, List, Option, Some, None, Result, Ok, Err}
use Rattle.bg_revisions.specs.declared.revision_fault.RevisionFault.{RevisionFault}
use Rattle.bg_revisions.specs.declared.revision_fault.RevisionFault.TheVariants.{SameTemplate, PortsDiffer}
use Rattle.bg_history.specs.declared.entry.Entry.{Entry}
use Rattle.bg_history.specs.Kept.{Opening}
use Rattle.bg_history.specs.Templates.{template, has_ports, namesake}
use Rattle.bg_history.specs.Allowed.{is_template}

-- the namesake of the name, or none if no revision has the name; a fault if the namesake has other ports
abbrev pub namesake_answer : Opening → List ℕ → Option ℕ → List Entry
    → Result (Option ℕ) RevisionFault
namesake_answer o ports None past = Ok None
namesake_answer o ports (Some q) past =
    if has_ports ports (template o q past) then Ok (Some q) else Err PortsDiffer

-- the answer to a template: a fault if it is the newest revision's; else the namesake of the name, a fault if that has
-- other ports
abbrev pub template_answer : Opening → ℕ → List ℕ → List ℕ → List Entry
    → Result (Option ℕ) RevisionFault
template_answer o newest name ports past =
    if is_template name ports (template o newest past) then Err SameTemplate
    else namesake_answer o ports (namesake o name past) past
