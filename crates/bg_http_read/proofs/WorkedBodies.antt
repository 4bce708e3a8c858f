-- Worked bodies, one for each place at which the text of a body ends or fails.
use Rattle.std.proofs.Common.{◌≡◌, ℕ, ◌++◌, List, [], ◌∷◌, length, codes, IsTrue, None, refl, arith, ap}
use Rattle.std.proofs.lemmas.List.{length-append}
use Rattle.std.proofs.lemmas.List.Elements.{All-nil, All-cons}
use Rattle.httparse.specs.Grammar.{ChunkLine, IsChunkLine, print_chunk_line, HasNoChunkLine, crlf}
use Rattle.std.specs.Char.{is_ascii_hexdigit}
use Rattle.httparse.proofs.OnLiterals.{httparse_on_literals}
use Rattle.bg_http_read.specs.BodyFaults.{malformed, large, cut, at_line, at_size, after_data, ChunksFail, LengthFails, EndFails}
use Rattle.bg_http_read.specs.Chunks.{ReadsLine, ReadsChunk, ReadsChunks}
use Rattle.bg_http_read.proofs.ChunkLines.{line_some}

-- the line of a chunk of two bytes, and the line of the last chunk
abbrev two : ChunkLine
two = record { digits = codes "2"; pad = []; extension = None }

abbrev last : ChunkLine
last = record { digits = codes "0"; pad = []; extension = None }

is_two : IsChunkLine two
is_two = record {
  digits = (omega arith, omega arith, All-cons (λ b. IsTrue (is_ascii_hexdigit b)) 50 [] refl (All-nil _));
  pad = All-nil _;
  extension = tt;
}

is_last : IsChunkLine last
is_last = record {
  digits = (omega arith, omega arith, All-cons (λ b. IsTrue (is_ascii_hexdigit b)) 48 [] refl (All-nil _));
  pad = All-nil _;
  extension = tt;
}

two_then : (after : List ℕ) → ReadsLine (codes "2\r\n" ++ after) 2 after
unfolding httparse_on_literals
two_then after = record {
  line = two;
  is = record { valid = is_two; short = omega arith; size_is = refl };
  input_is = refl;
}

last_then : (after : List ℕ) → ReadsLine (codes "0\r\n" ++ after) 0 after
unfolding httparse_on_literals
last_then after = record {
  line = last;
  is = record { valid = is_last; short = omega arith; size_is = refl };
  input_is = refl;
}

chunk_then : (rest : List ℕ) → ReadsChunk (codes "2\r\nab\r\n" ++ rest) (codes "ab") rest
chunk_then rest = record {
  after = codes "ab\r\n" ++ rest;
  line = two_then (codes "ab\r\n" ++ rest);
  some = omega arith;
  bytes_are = refl;
}

-- a body of one chunk without trailers, and the bytes after it
whole_body : ReadsChunks (codes "2\r\nab\r\n0\r\n\r\nGET") (codes "ab") (codes "GET")
whole_body = record {
  chunks = codes "ab" ∷ [];
  leads = (
    codes "0\r\n\r\nGET",
    chunk_then (codes "0\r\n\r\nGET"),
    record {
      after = codes "\r\nGET";
      line = last_then (codes "\r\nGET");
      trailers = record {
        fields = [];
        last = crlf;
        reads = (All-nil _, refl);
        size = omega arith;
        count = omega arith;
      };
    },
  );
  body_is = refl;
}

-- the line of the first chunk, or of the second, brings the body above the limit
above_at_once : ChunksFail large 1 0 (codes "2\r\n")
above_at_once = record {
  chunks = [];
  fits = omega arith;
  leads = at_size 2 [] (two_then []) refl (omega arith);
}

above_later : ChunksFail large 3 0 (codes "2\r\nab\r\n2\r\n")
above_later = record {
  chunks = codes "ab" ∷ [];
  fits = omega arith;
  leads = (codes "2\r\n", chunk_then (codes "2\r\n"), at_size 2 [] (two_then []) refl (omega arith));
}

-- a chunk at the limit fits, and a body with missing bytes is cut off
cut_in_data : ChunksFail cut 2 0 (codes "2\r\na")
cut_in_data = record {
  chunks = [];
  fits = omega arith;
  leads = after_data 2 (codes "a") (two_then (codes "a")) (omega arith) (omega arith)
      (codes "\r\n", omega arith, refl);
}

cut_after_data : ChunksFail cut 2 0 (codes "2\r\nab\r")
cut_after_data = record {
  chunks = [];
  fits = omega arith;
  leads = after_data 2 (codes "ab\r") (two_then (codes "ab\r")) (omega arith) (omega arith)
      (codes "\n", omega arith, refl);
}

-- bytes other than CR LF after the data are malformed
wrong_after_data : ChunksFail malformed 2 0 (codes "2\r\nabc")
wrong_after_data = record {
  chunks = [];
  fits = omega arith;
  leads = after_data 2 (codes "abc") (two_then (codes "abc")) (omega arith) (omega arith)
      (λ more after e. other more after e);
}
  where
    other : (more after : List ℕ) → codes "c" ++ more ≡ codes "\r\n" ++ after → ⊥
    other more after e = cc

-- the line is cut off if no byte comes
no_line : HasNoChunkLine []
no_line line rest reads =
    let some = line_some line in
    omega (arith, some, length-append (print_chunk_line line) rest, ap length reads.1)

cut_at_once : ChunksFail cut 2 0 []
unfolding httparse_on_literals
cut_at_once = record {
  chunks = [];
  fits = omega arith;
  leads = at_line (omega arith, no_line, (codes "2\r\n", two, (is_two, refl)));
}

-- bodies of a length, and bodies that go to the end of the input
cut_length : LengthFails cut 3 (codes "ab")
cut_length = omega arith

above_the_limit : EndFails large 1 (codes "ab")
above_the_limit = omega arith
