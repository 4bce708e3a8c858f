-- No rule speaks of a name that is not standard.
use Rattle.std.proofs.Common.{◌≡◌, ℕ, Bool, true, false, List, Option, Some, None, IfSome, IfNone, refl, subst, sym, ◌∙◌}
use Rattle.std.specs.Prelude.{bytes_eq}
use Rattle.std.specs.Str.{str_eq_ignore_ascii_case, str_to_ascii_lowercase}
use Rattle.std.proofs.lemmas.Slice.Eq.{bytes_eq-Decides}
use Rattle.http_header.specs.StandardHeader.{IsStandardName}
use Rattle.http_header.specs.declared.name.standard.StandardHeader.TheVariants as standard
use Rattle.bg_http.specs.Names.{IsRuledAs, spelled}
use Rattle.bg_http.specs.declared.names.RuledName.{RuledName}
use Rattle.bg_http.specs.declared.names.RuledName.TheVariants as ruled

-- each name that a rule speaks of is standard
is_standard : (name : RuledName) → IsStandardName (str_to_ascii_lowercase (spelled name))
is_standard ruled.Accept = (standard.Accept, refl)
is_standard ruled.Connection = (standard.Connection, refl)
is_standard ruled.ContentLength = (standard.ContentLength, refl)
is_standard ruled.Expect = (standard.Expect, refl)
is_standard ruled.Host = (standard.Host, refl)
is_standard ruled.Te = (standard.Te, refl)
is_standard ruled.Trailer = (standard.Trailer, refl)
is_standard ruled.TransferEncoding = (standard.TransferEncoding, refl)
is_standard ruled.Upgrade = (standard.Upgrade, refl)

pub not_ruled : (text : List ℕ) → (IsStandardName (str_to_ascii_lowercase text) → false ≡ true)
    → (name : RuledName) → str_eq_ignore_ascii_case text (spelled name) ≡ false
not_ruled text h name = by_test (str_eq_ignore_ascii_case text (spelled name)) refl
  where
    by_test : (t : Bool) → str_eq_ignore_ascii_case text (spelled name) ≡ t → t ≡ false
    by_test true e =
        let same = (bytes_eq-Decides (str_to_ascii_lowercase text) (str_to_ascii_lowercase (spelled name))).0 e in
        let found = is_standard name in sym (h (found.0, found.1 ∙ sym same))
    by_test false e = refl

lower_case : (name : RuledName) → str_to_ascii_lowercase (spelled name) ≡ spelled name
lower_case ruled.Accept = refl
lower_case ruled.Connection = refl
lower_case ruled.ContentLength = refl
lower_case ruled.Expect = refl
lower_case ruled.Host = refl
lower_case ruled.Te = refl
lower_case ruled.Trailer = refl
lower_case ruled.TransferEncoding = refl
lower_case ruled.Upgrade = refl

-- the name of a text is that of the text in lower case
pub ruled_in_lower_case : (text lower : List ℕ) (r : Option RuledName) → lower ≡ str_to_ascii_lowercase text
    → IfSome r (λ name. lower ≡ spelled name) → IfNone r ((name : RuledName) → bytes_eq lower (spelled name) ≡ false)
    → IsRuledAs text r
ruled_in_lower_case text lower (Some name) is found none = sym is ∙ found
ruled_in_lower_case text lower None is found none = λ name.
    subst (λ t. bytes_eq (str_to_ascii_lowercase text) t ≡ false) (sym (lower_case name))
    (subst (λ t. bytes_eq t (spelled name) ≡ false) is (none name))
