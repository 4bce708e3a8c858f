-- Facts about the unread bytes of a reader, one after the other.
use Rattle.std.proofs.Common.{ℕ, List, Option, None, Some, IfSome}
use Rattle.bg_operator.specs.Reading.{Known}

pub Known-both : (P Q S : List ℕ → List ℕ → Type 0) (first old new : Option (List ℕ)) → ((xs ys zs : List ℕ) → P xs ys → Q ys zs → S xs zs) → Known first old P → Known old new Q → Known first new S
Known-both P Q S None old new f k l = tt
Known-both P Q S (Some xs) None new f k l = absurd k
Known-both P Q S (Some xs) (Some ys) None f k l = absurd l
Known-both P Q S (Some xs) (Some ys) (Some zs) f k l = f xs ys zs k l

pub Known-some : (P Q : List ℕ → List ℕ → Type 0) (S : List ℕ → Type 0) (first old new : Option (List ℕ)) → ((xs ys zs : List ℕ) → P xs ys → Q ys zs → S xs) → Known first old P → Known old new Q → IfSome first S
Known-some P Q S None old new f k l = tt
Known-some P Q S (Some xs) None new f k l = absurd k
Known-some P Q S (Some xs) (Some ys) None f k l = absurd l
Known-some P Q S (Some xs) (Some ys) (Some zs) f k l = f xs ys zs k l

pub Known-then : (P : List ℕ → List ℕ → Type 0) (Q S : List ℕ → Type 0) (first old : Option (List ℕ)) → ((xs ys : List ℕ) → P xs ys → Q ys → S xs) → Known first old P → IfSome old Q → IfSome first S
Known-then P Q S None old f k l = tt
Known-then P Q S (Some xs) None f k l = absurd k
Known-then P Q S (Some xs) (Some ys) f k l = f xs ys k l
