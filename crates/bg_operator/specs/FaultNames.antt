-- The names of the faults of a line.
use Rattle.std.specs.Prelude.{ℕ, List, codes}
use Rattle.bg_operator.specs.declared.line_fault.LineFault.{LineFault}
use Rattle.bg_operator.specs.declared.line_fault.LineFault.TheVariants.{TooLong, NotAscii, Empty, UnknownWord, WrongCount, BadWord, BadNumber, OutOfMemory}

-- the name of a fault
abbrev pub line_fault_name : LineFault → List ℕ
line_fault_name TooLong = codes "TooLong"
line_fault_name NotAscii = codes "NotAscii"
line_fault_name Empty = codes "Empty"
line_fault_name UnknownWord = codes "UnknownWord"
line_fault_name WrongCount = codes "WrongCount"
line_fault_name BadWord = codes "BadWord"
line_fault_name BadNumber = codes "BadNumber"
line_fault_name OutOfMemory = codes "OutOfMemory"
