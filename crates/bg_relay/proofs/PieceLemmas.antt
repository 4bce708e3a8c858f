-- The pieces of a body as they are written.
use Rattle.std.proofs.Common.{◌≡◌, ℕ, zero, suc, ◌<◌, ◌≤◌, ◌/◌, ◌%◌, ◌^◌, true, false, List, [], ◌∷◌, ◌++◌, length, refl, ap, sym, ◌∙◌, arith, append_assoc, subst, None, Result, Ok, Err, OnOk, is_ok, if◌then◌else◌}
use Rattle.std.proofs.lemmas.Int.Digits.{digits_value_push}
use Rattle.std.proofs.lemmas.List.{append-nil, length-append}
use Rattle.std.proofs.lemmas.List.Elements.{All-nil, All-push}
use Rattle.std.proofs.lemmas.Str.{digit_value-digit_char}
use Rattle.std.proofs.Math.Nat.{pow-suc}
use Rattle.std.specs.Char.{digit_char, is_ascii_hexdigit}
use Rattle.httparse.specs.Ascii.{crlf_bytes}
use Rattle.httparse.specs.Grammar.{ChunkLine, crlf, print_chunk_line}
use Rattle.bg_http_read.specs.Chunks.{ReadsChunk, ReadsEnd, ReadsLine}
use Rattle.bg_relay.specs.declared.framing.Framing.TheVariants as framing
use Rattle.bg_relay.specs.Pieces.{Appends, EndsPiece, IsPiece, IsSize}
use Rattle.bg_relay.proofs.ChunkLists.{leads_on}

hex_digit : (n : ℕ) → n < 16 → is_ascii_hexdigit (digit_char n) ≡ true
hex_digit n small = grind arith

-- the digits of a size
pub one_digit : (size : ℕ) → size < 16 → IsSize size (digit_char size ∷ [])
one_digit size small = record {
  some = omega arith;
  digits_are = All-push (λ v. is_ascii_hexdigit v ≡ true) [] (digit_char size) (All-nil _) (hex_digit size small);
  value_is = omega (arith, digit_value-digit_char size (omega (arith, small)));
  short = λ most some fits. some;
}

short_digits : (size : ℕ) (digits : List ℕ) → 16 ≤ size → IsSize (size / 16) digits → (most : ℕ) → 0 < most
    → size < 16 ^ most → length (digits ++ digit_char (size % 16) ∷ []) ≤ most
short_digits size digits large front zero some fits = absurd (omega (arith, some))
short_digits size digits large front (suc zero) some fits = absurd (omega (arith, fits, large))
short_digits size digits large front (suc (suc most)) some fits =
    let power = pow-suc 16 (suc most) in
    let short = front.short (suc most) (omega arith) (omega (arith, power, fits)) in
    omega (arith, short, length-append digits (digit_char (size % 16) ∷ []))

pub more_digits : (size : ℕ) (digits : List ℕ) → 16 ≤ size → IsSize (size / 16) digits
    → IsSize size (digits ++ digit_char (size % 16) ∷ [])
more_digits size digits large front =
    let last = digit_char (size % 16) in
    record {
      some = omega (arith, length-append digits (last ∷ []));
      digits_are = All-push (λ v. is_ascii_hexdigit v ≡ true) digits last front.digits_are (hex_digit (size % 16) (omega arith));
      value_is = omega (
        arith,
        digits_value_push 16 digits last,
        digit_value-digit_char (size % 16) (omega arith),
        front.value_is,
      );
      short = short_digits size digits large front;
    }

-- the line of a chunk
line_text : (digits : List ℕ) → print_chunk_line (record { digits = digits; pad = []; extension = None }) ≡ digits ++ crlf_bytes
unfolding print_chunk_line
line_text digits = ap (λ l. l ++ crlf_bytes) (append-nil (digits ++ []) ∙ append-nil digits)

line_of_size : (size : ℕ) (digits rest : List ℕ) → IsSize size digits → size < 2 ^ 64
    → ReadsLine (digits ++ (crlf_bytes ++ rest)) size rest
line_of_size size digits rest h fits =
    let line : ChunkLine = record { digits = digits; pad = []; extension = None } in
    let short = h.short 16 (omega arith) (omega (arith, fits)) in
    let text = line_text digits in
    record {
      line = line;
      is = record {
        valid = record { digits = (h.some, short, h.digits_are); pad = All-nil _; extension = tt };
        short = omega (arith, short, ap length text, length-append digits crlf_bytes);
        size_is = sym h.value_is;
      };
      input_is = sym (append_assoc digits crlf_bytes rest) ∙ ap (λ l. l ++ rest) (sym text);
    }

-- a chunk
pub chunk_text : List ℕ → List ℕ → List ℕ
chunk_text digits bytes = digits ++ (crlf_bytes ++ (bytes ++ crlf_bytes))

pub chunk_piece : (bytes digits : List ℕ) → IsSize (length bytes) digits → 0 < length bytes → length bytes < 2 ^ 64
    → IsPiece framing.Chunks false bytes (digits ++ (crlf_bytes ++ (bytes ++ crlf_bytes)))
chunk_piece [] digits h some fits = absurd (omega (arith, some))
chunk_piece (byte ∷ more) digits h some fits =
    let bytes : List ℕ = byte ∷ more in
    let short = h.short 16 (omega arith) (omega (arith, fits)) in
    let chunk : ReadsChunk (digits ++ (crlf_bytes ++ (bytes ++ crlf_bytes))) bytes [] = record {
      after = bytes ++ crlf_bytes;
      line = line_of_size (length bytes) digits (bytes ++ crlf_bytes) h fits;
      some = some;
      bytes_are = refl;
    } in (
      record { chunks = bytes ∷ []; leads = ([], chunk, refl); bytes_are = sym (append-nil bytes) },
      omega (
        arith,
        short,
        length-append digits (crlf_bytes ++ (bytes ++ crlf_bytes)),
        length-append bytes crlf_bytes,
      ),
    )

pub no_chunk : IsPiece framing.Chunks false [] []
no_chunk = (record { chunks = []; leads = refl; bytes_are = refl }, omega arith)

-- what was appended to a text
pub appended : {T E Q : Type 0} (r : Result T E) (old new more : List ℕ) → new ≡ (if is_ok r then old ++ more else old)
    → (new ≡ old ++ more → Q) → OnOk r Q
appended (Ok x) old new more h next = next h
appended (Err e) old new more h next = tt

pub size_pushed : (size : ℕ) (old mid new : List ℕ) → 16 ≤ size → Appends (IsSize (size / 16)) old mid
    → new ≡ mid ++ digit_char (size % 16) ∷ [] → Appends (IsSize size) old new
size_pushed size old mid new large (digits, is, whole) more =
    let last : List ℕ = digit_char (size % 16) ∷ [] in
    (digits ++ last, more_digits size digits large is, more ∙ ap (λ l. l ++ last) whole ∙ append_assoc old digits last)

pub chunk_pushed : (bytes old sized lined filled new : List ℕ) → 0 < length bytes → length bytes < 2 ^ 64
    → Appends (IsSize (length bytes)) old sized → lined ≡ sized ++ crlf_bytes → filled ≡ lined ++ bytes
    → new ≡ filled ++ crlf_bytes → Appends (IsPiece framing.Chunks false bytes) old new
chunk_pushed bytes old sized lined filled new some fits (digits, is, first) second third fourth = (
  digits ++ (crlf_bytes ++ (bytes ++ crlf_bytes)),
  chunk_piece bytes digits is some fits,
  fourth ∙ ap (λ l. l ++ crlf_bytes) (third ∙ ap (λ l. l ++ bytes) (second ∙ ap (λ l. l ++ crlf_bytes) first))
      ∙ regroup old digits crlf_bytes bytes crlf_bytes,
)
  where
    regroup : (a b c d e : List ℕ) → (((a ++ b) ++ c) ++ d) ++ e ≡ a ++ (b ++ (c ++ (d ++ e)))
    regroup a b c d e = simp append_assoc

last_chunk : ReadsEnd [] (48 ∷ 13 ∷ 10 ∷ 13 ∷ 10 ∷ [])
last_chunk = record {
  after = crlf_bytes;
  line = line_of_size 0 (48 ∷ []) crlf_bytes (one_digit 0 (omega arith)) (omega arith);
  trailers = record {
    fields = [];
    last = crlf;
    reads = (All-nil _, refl);
    size = omega arith;
    count = omega arith;
  };
}

pub end_pushed : (bytes old mid new : List ℕ) → Appends (IsPiece framing.Chunks false bytes) old mid
    → new ≡ mid ++ 48 ∷ 13 ∷ 10 ∷ 13 ∷ 10 ∷ [] → Appends (IsPiece framing.Chunks true bytes) old new
end_pushed bytes old mid new (piece, is, whole) more =
    let end : List ℕ = 48 ∷ 13 ∷ 10 ∷ 13 ∷ 10 ∷ [] in (
      piece ++ end,
      (
        record {
          chunks = is.0.chunks;
          leads = leads_on (EndsPiece false) (EndsPiece true) end
              (λ last none. subst (λ l. ReadsEnd [] (l ++ end)) (sym none) last_chunk) is.0.chunks piece is.0.leads;
          bytes_are = is.0.bytes_are;
        },
        omega (arith, is.1, length-append piece end),
      ),
      more ∙ ap (λ l. l ++ end) whole ∙ append_assoc old piece end,
    )
