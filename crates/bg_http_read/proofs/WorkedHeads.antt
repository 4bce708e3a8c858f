-- Worked heads of responses: one complete, one cut off, and one malformed.
use Rattle.std.proofs.Common.{◌≡◌, ℕ, ◌++◌, List, [], ◌∷◌, length, codes, Some, get_or, refl, arith, ap}
use Rattle.std.proofs.lemmas.List.{length-append}
use Rattle.std.proofs.lemmas.List.Elements.{All-nil}
use Rattle.std.proofs.lemmas.List.Sums.{AllPass-from_list_all}
use Rattle.std.specs.Char.{is_ascii_digit}
use Rattle.httparse.specs.Grammar as grammar
use Rattle.httparse.proofs.OnLiterals.{httparse_on_literals}
use Rattle.httparse.proofs.GrammarLemmas.{response_prefix_free}
use Rattle.bg_http_read.specs.Heads.{HeadIsCut, HeadIsMalformed, ReadsResponseHead, response_heads}

-- the head of a response without fields
abbrev plain : grammar.ResponseHead
plain = record {
  blank = [];
  minor = 1;
  digits = codes "200";
  reason = Some (codes "OK");
  line_end = grammar.crlf;
  fields = [];
  last = grammar.crlf;
}

is_plain : grammar.IsResponseHead plain
is_plain = record {
  minor = omega arith;
  digits = (refl, AllPass-from_list_all is_ascii_digit (codes "200") refl);
  reason = AllPass-from_list_all grammar.is_value_byte (codes "OK") refl;
  fields = All-nil _;
}

plain_head : ReadsResponseHead (codes "HTTP/1.1 200 OK\r\n\r\nhi")
    (record { minor = 1; code = 200; reason = codes "OK"; fields = [] }) (codes "hi")
unfolding httparse_on_literals
plain_head = record {
  tree = plain;
  reads = (is_plain, refl);
  size = omega arith;
  count = omega arith;
  head_is = refl;
}

-- a head without its empty line is cut off
abbrev begun : List ℕ
begun = codes "HTTP/1.1 200 OK\r\n"

whole : begun ++ codes "\r\n" ≡ grammar.print_response plain ++ []
unfolding httparse_on_literals
whole = refl

size_of_plain : length (grammar.print_response plain) ≡ 19
unfolding httparse_on_literals
size_of_plain = refl

cut_head : HeadIsCut response_heads begun
cut_head = (omega arith, none, (codes "\r\n", plain, (is_plain, whole)))
  where
    none : grammar.HasNoResponse begun
    none head rest reads =
        let same = response_prefix_free begun (codes "\r\n") head plain rest [] reads (is_plain, whole) in
        let long = ap (λ tree. length (grammar.print_response tree)) same.0 in
        let printed = length-append (grammar.print_response head) rest in
        omega (arith, long, size_of_plain, printed, ap length reads.1)

-- bytes that begin neither with a line end nor with a version are malformed
malformed_head : HeadIsMalformed response_heads (codes "x")
unfolding httparse_on_literals
malformed_head more head rest reads = other head.blank reads.1
  where
    other : (blank : List grammar.LineEnd) → codes "x" ++ more
        ≡ grammar.print_blank blank ++ grammar.print_version head.minor ++ 32 ∷ head.digits
        ++ grammar.print_reason head.reason ++ grammar.print_end head.line_end
        ++ grammar.print_section head.fields head.last ++ rest → ⊥
    other [] e =
        let first : 120 ≡ 72 = ap (λ l. get_or l 0 0) e in
        omega (arith, first)
    other (grammar.crlf ∷ blank) e =
        let first : 120 ≡ 13 = ap (λ l. get_or l 0 0) e in
        omega (arith, first)
    other (grammar.lf ∷ blank) e =
        let first : 120 ≡ 10 = ap (λ l. get_or l 0 0) e in
        omega (arith, first)
