-- Whether a client accepts HTML (RFC 9110 sections 12.4.2 and 12.5.1).
use Rattle.std.specs.Prelude.{ℕ, Bool, false, not, ◌==◌, ◌&&◌, List, [], ◌∷◌, map, codes}
use Rattle.std.specs.List.{list_any, slice_split}
use Rattle.std.specs.Str.{str_eq_ignore_ascii_case}
use Rattle.bg_http.specs.Elements.{Field, elements_named, trimmed}

abbrev pub is_semicolon : ℕ → Bool
is_semicolon byte = byte == 59

-- the trimmed parts between the semicolons: in an element of Accept, a media range and then its
-- parameters
abbrev pub parts : List ℕ → List (List ℕ)
parts text = map trimmed (slice_split is_semicolon text)

-- the media range is `text/html`, in any case of its letters
abbrev pub is_html : List ℕ → Bool
is_html media_range = str_eq_ignore_ascii_case media_range (codes "text/html")

-- the weights of what is not acceptable: a zero has at most three digits after its point
abbrev pub zero_weights : List (List ℕ)
zero_weights =
    codes "q=0" ∷ codes "q=0." ∷ codes "q=0.0" ∷ codes "q=0.00" ∷ codes "q=0.000" ∷ []

-- the parameter is one of these weights, in any case of its letter
abbrev pub is_zero_weight : List ℕ → Bool
is_zero_weight parameter = list_any (str_eq_ignore_ascii_case parameter) zero_weights

-- the media range is HTML, and no parameter is a weight of zero
abbrev pub is_html_with : List (List ℕ) → Bool
is_html_with [] = false
is_html_with (media_range ∷ parameters) = is_html media_range && not (list_any is_zero_weight parameters)

-- the element of Accept names HTML, and does not say that it is not acceptable
abbrev pub takes_html : List ℕ → Bool
takes_html element = is_html_with (parts element)

-- an element of the Accept fields takes HTML
abbrev pub accepts_html : List Field → Bool
accepts_html fields = list_any takes_html (elements_named (codes "accept") fields)
