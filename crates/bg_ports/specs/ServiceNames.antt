-- The names of the services.
use Rattle.std.specs.Prelude.{ℕ, List, codes}
use Rattle.bg_revisions.specs.declared.revision.Service.{Service}
use Rattle.bg_revisions.specs.declared.revision.Service.TheVariants as service

-- the word of the command line that gives the service's port
abbrev pub name_of_service : Service → List ℕ
name_of_service service.Active = codes "active"
name_of_service service.Preview = codes "preview"
