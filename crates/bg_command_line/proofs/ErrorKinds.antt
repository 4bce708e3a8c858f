-- The kinds of error that the words may give.
use Rattle.std.proofs.Common.{◌≡◌, inl, inr, List, [], ◌∷◌, refl, ◌∙◌, ap, subst}
use Rattle.std.specs.Prelude.{Bool, true, false, Some, cond}
use Rattle.clap.specs.Walk.{Row, Text}
use Rattle.clap.specs.Simple.{App, subcommand_of}
use Rattle.clap.specs.Kinds.{HasKind, IsAmong, Kinds, or_else}
use Rattle.clap.specs.Faults.{fault_of}
use Rattle.clap.specs.Words.{is_simple_and_free}
use Rattle.clap.specs.Values.{kind_of}
use Rattle.clap.specs.declared.error.Error.{Error}
use Rattle.clap.specs.declared.error.kind.ErrorKind.{ErrorKind}
use Rattle.clap.specs.declared.error.kind.ErrorKind.TheVariants as kind
use Rattle.bg_command_line.specs.declared.invocation.InvocationFault.{InvocationFault}
use Rattle.bg_command_line.specs.declared.invocation.InvocationFault.TheVariants.{OutOfMemory, Words}
use Rattle.bg_command_line.specs.GivenWords.{flags_of, is_in_conflict, kinds_of, lacks_stream}
use Rattle.bg_command_line.specs.Invocations.{IsAddressFault, IsConflict, IsFaultFrom, IsFaultIn, IsMissing}
use Rattle.bg_command_line.specs.Subcommands.{program}
use Rattle.bg_command_line.proofs.AcceptedWords.{is_free_program}

among_first : (k : ErrorKind) (first second : Kinds) → IsAmong k first → IsAmong k (or_else first second)
among_first k [] second among = absurd among
among_first k (x ∷ xs) second among = among

-- an error of `clap` is among those that the words may give
pub fault_as : (words : List Text) (app : App) (e : Error) (fault : InvocationFault) → app ≡ program (flags_of words)
    → (is_simple_and_free app ≡ true → HasKind (fault_of app words) e) → IsFaultFrom e fault → IsFaultIn words fault
fault_as words app e OutOfMemory is has from = tt
fault_as words app e (Words x) is has from =
    let free : is_simple_and_free app ≡ true = ap is_simple_and_free is ∙ is_free_program (flags_of words) in
    let kinds : HasKind (fault_of (program (flags_of words)) words) e = subst (λ (a : App). HasKind (fault_of a words) e) is (has free) in
    let among : IsAmong (kind_of e) (kinds_of words) = elim kinds [
      | inl memory ↦ absurd (from.1 memory)
      | inr h ↦ among_first (kind_of e) (fault_of (program (flags_of words)) words) _ h
    ] in
    rw from.0 (inl (among, from.1))

-- words that `clap` accepts give no error other than that of a conflict, or else that of `--stream` where it is needed
kinds_are : (words : List Text) (name : Text) (rows : List Row) (b lacks : Bool) → fault_of (program (flags_of words)) words ≡ []
    → subcommand_of (program (flags_of words)) words ≡ Some (name, rows) → is_in_conflict (flags_of words) rows ≡ b
    → lacks_stream rows ≡ lacks
    → kinds_of words ≡ cond b (kind.ArgumentConflict ∷ []) (cond lacks (kind.MissingRequiredArgument ∷ []) [])
kinds_are words name rows b lacks none is conflict stream = rw (none, is, conflict, stream) refl

pub no_kinds : (words : List Text) (name : Text) (rows : List Row) → fault_of (program (flags_of words)) words ≡ []
    → subcommand_of (program (flags_of words)) words ≡ Some (name, rows) → is_in_conflict (flags_of words) rows ≡ false
    → lacks_stream rows ≡ false → kinds_of words ≡ []
no_kinds words name rows none is conflict stream = kinds_are words name rows false false none is conflict stream

pub conflict_as : (words : List Text) (name : Text) (rows : List Row) (fault : InvocationFault) → fault_of (program (flags_of words)) words ≡ []
    → subcommand_of (program (flags_of words)) words ≡ Some (name, rows) → is_in_conflict (flags_of words) rows ≡ true
    → IsConflict fault → IsFaultIn words fault
conflict_as words name rows OutOfMemory none is conflict e_is = tt
conflict_as words name rows (Words e) none is conflict e_is =
    let kinds : kinds_of words ≡ kind.ArgumentConflict ∷ [] = kinds_are words name rows true (lacks_stream rows) none is conflict refl in
    inl (rw kinds (inl e_is), λ memory. cc)

pub missing_as : (words : List Text) (name : Text) (rows : List Row) (fault : InvocationFault) → fault_of (program (flags_of words)) words ≡ []
    → subcommand_of (program (flags_of words)) words ≡ Some (name, rows) → is_in_conflict (flags_of words) rows ≡ false
    → lacks_stream rows ≡ true → IsMissing fault → IsFaultIn words fault
missing_as words name rows OutOfMemory none is conflict stream e_is = tt
missing_as words name rows (Words e) none is conflict stream e_is =
    let kinds : kinds_of words ≡ kind.MissingRequiredArgument ∷ [] = kinds_are words name rows false true none is conflict stream in
    inl (rw kinds (inl e_is), λ memory. cc)

-- the fault for a bad address, if the words are accepted but for it
pub address_as : (words : List Text) (name : Text) (rows : List Row) (fault : InvocationFault) → kinds_of words ≡ []
    → subcommand_of (program (flags_of words)) words ≡ Some (name, rows) → IsAddressFault rows fault → IsFaultIn words fault
address_as words name rows OutOfMemory none is bad = tt
address_as words name rows (Words e) none is bad = inr ((none, (name, rows, is, bad.0)), bad.1)
