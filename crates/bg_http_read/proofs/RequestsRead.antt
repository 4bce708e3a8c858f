-- The bytes that are written while a request is read.
use Rattle.std.proofs.Common.{Bool, true, false, ℕ, List, ◌++◌, ap, ◌∙◌, Option, Some, None, Err}
use Rattle.std.proofs.KnownBytes.{Appends-kept, Keeps-trans}
use Rattle.std.specs.Io.KnownBytes.{Appends, Keeps}
use Rattle.bg_http.specs.declared.request_fault.RequestFault.{RequestFault}
use Rattle.bg_http.specs.declared.request_fault.RequestFault.TheVariants as fault
use Rattle.bg_http_read.specs.Requests.{WroteOnFault, continue_text, WritesContinue, WroteFor}

-- on a fault nothing was written, or what is owed to the head was written
pub wrote_for : (input old new : Option (List ℕ)) (e : RequestFault)
    → WroteOnFault input old new e → WroteFor input old new (Err e)
wrote_for input old new fault.ReadFailed h = h
wrote_for input old new fault.WriteFailed h = tt
wrote_for input old new fault.HeadTooLarge h = h
wrote_for input old new fault.Bad h = h
wrote_for input old new fault.Closed h = h
wrote_for input old new fault.NotDone h = h
wrote_for input old new fault.TooLarge h = h
wrote_for input old new fault.OutOfMemory h = h

-- what was written stays written
pub continue_kept : (owed : Bool) (old mid new last : Option (List ℕ)) → Keeps old mid
    → WritesContinue owed mid new → Keeps new last → WritesContinue owed old last
continue_kept true old mid new last k h l = Appends-kept old new last continue_text (appends_after old mid new continue_text k h) l
  where
    appends_after : (a b c : Option (List ℕ)) (bs : List ℕ) → Keeps a b → Appends b c bs → Appends a c bs
    appends_after None b c bs k h = tt
    appends_after (Some x) None c bs k h = absurd k
    appends_after (Some x) (Some y) None bs k h = absurd h
    appends_after (Some x) (Some y) (Some z) bs k h = h ∙ ap (λ l. l ++ bs) k
continue_kept false old mid new last k h l = Keeps-trans old new last (Keeps-trans old mid new k h) l
