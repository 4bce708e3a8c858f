-- What the words ask for, and the faults of words.
use Rattle.std.specs.Prelude.{◌≡◌, ◌≢◌, ◌⊎◌, List, [], codes, Some, is_some, false, true, option_map, unwrap_or}
use Rattle.clap.specs.Words.{IsAmong, Row, Text, first_of, kind_of, subcommand_of}
use Rattle.clap.specs.declared.error.Error.{Error}
use Rattle.clap.specs.declared.error.kind.ErrorKind.{ErrorKind}
use Rattle.clap.specs.declared.error.kind.ErrorKind.TheVariants as kind
use Rattle.bg_command_line.specs.GivenAddresses.{HasBadAddress}
use Rattle.bg_command_line.specs.GivenWords.{flags_of, kinds_of}
use Rattle.bg_command_line.specs.ServeArguments.{IsBetween, IsServe, has_flag, number_of}
use Rattle.bg_command_line.specs.Subcommands.{program}
use Rattle.bg_command_line.specs.declared.invocation.Flags.{Flags}
use Rattle.bg_command_line.specs.declared.invocation.Invocation.{Invocation}
use Rattle.bg_command_line.specs.declared.invocation.Invocation.TheVariants.{Check, Journal, Replay, RestartJournal, Serve}
use Rattle.bg_command_line.specs.declared.invocation.InvocationFault.{InvocationFault}
use Rattle.bg_command_line.specs.declared.invocation.InvocationFault.TheVariants.{Words, OutOfMemory}

-- the invocation is the subcommand of this name with these matches; 4 seats if no number is given
abbrev pub IsInvocationOf : Flags → Text → List Row → Invocation → Type 0
IsInvocationOf flags name rows Check = name ≡ codes "check"
IsInvocationOf flags name rows (Replay seats) = (name ≡ codes "replay")
    × (seats ≡ unwrap_or (number_of (codes "seats") rows) 4) × IsBetween 1 8 seats
IsInvocationOf flags name rows (Journal path) =
    (name ≡ codes "journal") × (first_of (codes "file") rows ≡ Some path.now)
    × (has_flag (codes "restart") rows ≡ false)
IsInvocationOf flags name rows (RestartJournal path ports) =
    (name ≡ codes "journal") × (first_of (codes "file") rows ≡ Some path.now)
    × (has_flag (codes "restart") rows ≡ true)
    × (option_map (λ text. text.now) ports ≡ first_of (codes "ports") rows)
IsInvocationOf flags name rows (Serve settings) = (name ≡ codes "serve") × IsServe flags rows settings

-- the words are accepted, and the invocation is the subcommand of their matches
abbrev pub IsInvocationIn : List Text → Invocation → Type 0
IsInvocationIn words o = (kinds_of words ≡ [])
    × ((name : Text) × (rows : List Row)
    × (subcommand_of (program (flags_of words)) words ≡ Some (name, rows))
    × IsInvocationOf (flags_of words) name rows o)

-- how much of a request is held, how long its body may be and how long that of a response are set only with `--stream`
abbrev pub NeedsStream : Invocation → Type 0
NeedsStream (Serve settings) = (is_some settings.buffer ≡ true → settings.stream ≡ true)
    × (is_some settings.max_request_body ≡ true → settings.stream ≡ true)
    × (is_some settings.max_response_body ≡ true → settings.stream ≡ true)
NeedsStream Check = Unit {0}
NeedsStream (Replay seats) = Unit {0}
NeedsStream (Journal path) = Unit {0}
NeedsStream (RestartJournal path ports) = Unit {0}

-- the words are accepted but for an address, which is bad
abbrev pub HasBadAddressIn : List Text → Type 0
HasBadAddressIn words = (kinds_of words ≡ [])
    × ((name : Text) × (rows : List Row)
    × (subcommand_of (program (flags_of words)) words ≡ Some (name, rows))
    × HasBadAddress rows)

-- an allocation failed, or the words are refused with this error
abbrev pub IsFaultIn : List Text → InvocationFault → Type 0
IsFaultIn words OutOfMemory = Unit {0}
IsFaultIn words (Words e) =
    (IsAmong (kind_of e) (kinds_of words) × (kind_of e ≢ kind.OutOfMemory))
    ⊎ (HasBadAddressIn words × (kind_of e ≡ kind.ValueValidation))

-- the words ask for the program's version
abbrev pub AsksForVersion : InvocationFault → Type 0
AsksForVersion OutOfMemory = ⊥
AsksForVersion (Words e) = kind_of e ≡ kind.DisplayVersion

-- the fault for an error of `clap`
abbrev pub IsFaultFrom : Error → InvocationFault → Type 0
IsFaultFrom e OutOfMemory = kind_of e ≡ kind.OutOfMemory
IsFaultFrom e (Words x) = (x ≡ e) × (kind_of e ≢ kind.OutOfMemory)

-- the fault with an error of this kind
abbrev pub IsFaultOf : ErrorKind → InvocationFault → Type 0
IsFaultOf k OutOfMemory = Unit {0}
IsFaultOf k (Words e) = kind_of e ≡ k

-- the fault for two words of which one replaces the other
abbrev pub IsConflict : InvocationFault → Type 0
IsConflict fault = IsFaultOf kind.ArgumentConflict fault

-- the fault for a word that is missing beside another one
abbrev pub IsMissing : InvocationFault → Type 0
IsMissing fault = IsFaultOf kind.MissingRequiredArgument fault

-- the fault for a bad value
abbrev pub IsValueFault : InvocationFault → Type 0
IsValueFault OutOfMemory = Unit {0}
IsValueFault (Words e) = kind_of e ≡ kind.ValueValidation

-- the fault for a bad address among the arguments
abbrev pub IsAddressFault : List Row → InvocationFault → Type 0
IsAddressFault rows OutOfMemory = Unit {0}
IsAddressFault rows (Words e) = HasBadAddress rows × (kind_of e ≡ kind.ValueValidation)
