-- The whole reading of answers, held against literal ones.
use Rattle.std.proofs.Common.{◌≡◌, ℕ, ◌^◌, true, false, List, [], ◌∷◌, ◌++◌, Some, None, codes, refl}
use Rattle.httparse.specs.Grammar.{is_token_byte, print_response, print_chunk_line, trim_ows}
use Rattle.httpdate.proofs.OnLiterals.{httpdate_on_literals}
use Rattle.acng_base.specs.Heads.{Head}
use Rattle.acng_base.specs.Fields.{length_of, agreed, range_of, tag_of, modified_of, location_of}
use Rattle.acng_base.specs.Framings.{Empty, Chunks, Counted, framing, total_of, due_of}
use Rattle.acng_base.specs.SizeLines.{size_of}
use Rattle.acng_base.specs.Answers.{Whole, Early, Open, Bad, reading}

abbrev end : List ℕ
end = 13 ∷ 10 ∷ []

abbrev line : List ℕ → List ℕ
line text = text ++ end

abbrev ok : List ℕ
ok = codes "HTTP/1.1 200 OK" ++ end

abbrev part : List ℕ
part = codes "HTTP/1.1 206 P" ++ end ++ codes "Content-Range: bytes 1-3/9" ++ end

-- a head of this status and these fields
abbrev head : ℕ → List (List ℕ × List ℕ) → Head
head s fields = record { status = s; fields = fields }

abbrev ranged : List (List ℕ × List ℕ) → Head
ranged fields = head 206 ((codes "Content-Range", codes "bytes 1-3/9") ∷ fields)

abbrev chunked : List (List ℕ × List ℕ)
chunked = (codes "Transfer-Encoding", codes "chunked") ∷ []

-- ---- fields

leading_zeros : length_of (codes "0000000000003") ≡ Some 3
leading_zeros = refl

fourteen_digits : length_of (codes "00000000000003") ≡ None
fourteen_digits = refl

most : length_of (codes "2199023255552") ≡ Some (2 ^ 41)
most = refl

one_more : length_of (codes "2199023255553") ≡ None
one_more = refl

equal_by_value : agreed (codes "3" ∷ codes "03" ∷ []) ≡ Some 3
equal_by_value = refl

two_lengths : agreed (codes "3" ∷ codes "4" ∷ []) ≡ None
two_lengths = refl

a_range : range_of (codes "bytes 0-0/1") ≡ Some (0, 0, 1)
a_range = refl

a_range_to_the_end : range_of (codes "bytes 500-2199023255551/2199023255552") ≡ Some (500, 2199023255551, 2 ^ 41)
a_range_to_the_end = refl

a_zero_in_front : range_of (codes "bytes 02-2/3") ≡ None
a_zero_in_front = refl

past_the_total : range_of (codes "bytes 2-3/3") ≡ None
past_the_total = refl

turned_round : range_of (codes "bytes 2-1/3") ≡ None
turned_round = refl

no_total : range_of (codes "bytes 0-1/*") ≡ None
no_total = refl

in_capitals : range_of (codes "Bytes 0-1/2") ≡ None
in_capitals = refl

a_date : modified_of (head 200 ((codes "last-modified", codes "Sun, 06 Nov 1994 08:49:37 GMT") ∷ [])) ≡ Some (record { 0 = 784111777 })
unfolding httpdate_on_literals
a_date = refl

a_weak_tag : tag_of (head 200 ((codes "ETag", codes "W/\"x\"") ∷ [])) ≡ None
a_weak_tag = refl

a_strong_tag : tag_of (head 200 ((codes "ETag", codes "\"x\"") ∷ [])) ≡ Some (codes "\"x\"")
a_strong_tag = refl

two_places : location_of (head 302 ((codes "Location", codes "/a") ∷ (codes "LOCATION", codes "/a") ∷ [])) ≡ None
two_places = refl

-- ---- framing

beside_a_length : framing (head 200 ((codes "Content-Length", codes "x") ∷ chunked)) ≡ Some Chunks
beside_a_length = refl

two_encodings : framing (head 200 (chunked ++ chunked)) ≡ None
two_encodings = refl

no_length_on_304 : framing (head 304 ((codes "Content-Length", codes "x") ∷ [])) ≡ Some Empty
no_length_on_304 = refl

other_length : framing (ranged ((codes "Content-Length", codes "4") ∷ [])) ≡ None
other_length = refl

range_length : framing (ranged ((codes "Content-Length", codes "3") ∷ [])) ≡ Some (Counted 3)
range_length = refl

due_in_chunks : due_of (ranged chunked) ≡ Some 3
due_in_chunks = refl

no_total_in_chunks : total_of (head 200 ((codes "Content-Length", codes "3") ∷ chunked)) ≡ None
no_total_in_chunks = refl

-- ---- size lines

a_size : size_of (line (codes "1aF \t;x=y")) ≡ Some 431
unfolding print_chunk_line
a_size = refl

seventeen_digits : size_of (line (codes "00000000000000001")) ≡ None
unfolding print_chunk_line
seventeen_digits = refl

bare_line_feed : size_of (codes "1" ++ 10 ∷ []) ≡ None
unfolding print_chunk_line
bare_line_feed = refl

-- ---- readings

interim_and_no_content : reading (codes "HTTP/1.1 100" ++ 10 ∷ 10 ∷ codes "HTTP/1.1 204 N" ++ end ++ codes "Content-Length: 9" ++ end ++ end) false (2 ^ 41)
    ≡ record { interim = head 100 [] ∷ []; head = Some (head 204 ((codes "Content-Length", codes "9") ∷ [])); body = []; outcome = Whole }
unfolding is_token_byte print_response trim_ows
interim_and_no_content = refl

interim_alone : reading (codes "HTTP/1.1 103" ++ end ++ end) true (2 ^ 41) ≡ record { interim = head 103 [] ∷ []; head = None; body = []; outcome = Early }
unfolding is_token_byte print_response trim_ows
interim_alone = refl

to_the_end : reading (ok ++ end ++ codes "ab") true (2 ^ 41) ≡ record { interim = []; head = Some (head 200 []); body = codes "ab"; outcome = Whole }
unfolding is_token_byte print_response trim_ows
to_the_end = refl

not_ended : reading (ok ++ end ++ codes "ab") false (2 ^ 41) ≡ record { interim = []; head = Some (head 200 []); body = codes "ab"; outcome = Open }
unfolding is_token_byte print_response trim_ows
not_ended = refl

at_the_limit : reading (ok ++ end ++ codes "ab") true 20 ≡ record { interim = []; head = Some (head 200 []); body = codes "a"; outcome = Bad 20 }
unfolding is_token_byte print_response trim_ows
at_the_limit = refl

chunks_whole : reading (ok ++ line (codes "Transfer-Encoding: chunked") ++ end ++ line (codes "2;x") ++ line (codes "ab") ++ line (codes "0") ++ codes "t: u" ++ 10 ∷ end) false (2 ^ 41)
    ≡ record { interim = []; head = Some (head 200 chunked); body = codes "ab"; outcome = Whole }
unfolding is_token_byte print_response trim_ows print_chunk_line
chunks_whole = refl

chunks_broken_off : reading (ok ++ line (codes "Transfer-Encoding: chunked") ++ end ++ line (codes "2") ++ line (codes "ab") ++ line (codes "0")) true (2 ^ 41)
    ≡ record { interim = []; head = Some (head 200 chunked); body = codes "ab"; outcome = Early }
unfolding is_token_byte print_response trim_ows print_chunk_line
chunks_broken_off = refl

byte_after_a_chunk : reading (ok ++ line (codes "Transfer-Encoding: chunked") ++ end ++ line (codes "1") ++ codes "ab") true (2 ^ 41)
    ≡ record { interim = []; head = Some (head 200 chunked); body = codes "a"; outcome = Bad 51 }
unfolding is_token_byte print_response trim_ows print_chunk_line
byte_after_a_chunk = refl

part_to_the_end : reading (part ++ end ++ codes "abc") true (2 ^ 41) ≡ record { interim = []; head = Some (ranged []); body = codes "abc"; outcome = Whole }
unfolding is_token_byte print_response trim_ows
part_to_the_end = refl

part_short : reading (part ++ end ++ codes "ab") true (2 ^ 41) ≡ record { interim = []; head = Some (ranged []); body = codes "ab"; outcome = Early }
unfolding is_token_byte print_response trim_ows
part_short = refl

part_too_long : reading (part ++ end ++ codes "abcd") false (2 ^ 41) ≡ record { interim = []; head = Some (ranged []); body = codes "abc"; outcome = Bad 49 }
unfolding is_token_byte print_response trim_ows
part_too_long = refl

part_in_short_chunks : reading (part ++ line (codes "Transfer-Encoding: chunked") ++ end ++ line (codes "2") ++ line (codes "ab") ++ line (codes "0")) false (2 ^ 41)
    ≡ record { interim = []; head = Some (ranged chunked); body = codes "ab"; outcome = Bad 81 }
unfolding is_token_byte print_response trim_ows print_chunk_line
part_in_short_chunks = refl
