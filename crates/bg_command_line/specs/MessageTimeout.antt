-- The message timeout that the environment sets.
use Rattle.std.specs.Prelude.{◌≡◌, ℕ}
use Rattle.clap.specs.Words.{IsUnsignedIn, Text}
use Rattle.bg_command_line.specs.ServeArguments.{number}
use Rattle.bg_command_line.specs.declared.message_timeout.MessageTimeout.{MessageTimeout}
use Rattle.bg_command_line.specs.declared.message_timeout.MessageTimeout.TheVariants.{Default, Given, Unusable}

-- the timeout in seconds
abbrev pub seconds_of : MessageTimeout → ℕ
seconds_of Default = 60
seconds_of (Given seconds) = seconds
seconds_of Unusable = 60

-- the timeout of a text: its number, from 1 to 3,600; unusable if it is not such a number
abbrev pub IsTimeoutIn : Text → MessageTimeout → Type 0
IsTimeoutIn text Default = ⊥
IsTimeoutIn text (Given seconds) = IsUnsignedIn 1 3600 text × (seconds ≡ number text)
IsTimeoutIn text Unusable = IsUnsignedIn 1 3600 text → ⊥
