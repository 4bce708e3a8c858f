-- Whether a connection is kept after a message (RFC 9112 section 9.3).
use Rattle.std.specs.Prelude.{Bool, true, false}
use Rattle.bg_http.specs.declared.persistence.Persistence.{Persistence}
use Rattle.bg_http.specs.declared.persistence.Persistence.TheVariants.{Close, Keep}

abbrev pub keeps : Persistence → Bool
keeps Close = false
keeps Keep = true
