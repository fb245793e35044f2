-- Worked rows of what bytes ask next.
use Rattle.std.proofs.Common.{◌≡◌, ℕ, zero, suc, true, false, List, [], ◌∷◌, ◌++◌, Some, None, codes, refl}
use Rattle.std.specs.Str.{is_utf8}
use Rattle.httparse.proofs.OnLiterals.{httparse_on_literals}
use Rattle.httpdate.proofs.OnLiterals.{httpdate_on_literals}
use Rattle.acng_request.specs.Nexts.{next, Asks, Refuses, Ends}
use Rattle.acng_request.specs.RequestFields.{part_of, says_close}
use Rattle.acng_request.specs.declared.got.HeadFault.TheVariants.{BadHead, TooLarge, Method, HasBody}

abbrev end : List ℕ
end = 13 ∷ 10 ∷ []

-- a head without fields, and the start of the next one
first : next (codes "GET http://h/a HTTP/1.1" ++ end ++ end ++ codes "GET")
    ≡ Asks (record { method = codes "GET"; target = codes "http://h/a"; part = None; if_range = None; since = None; close = false; minor = 1 }) (codes "GET")
unfolding httparse_on_literals httpdate_on_literals is_utf8
first = refl

-- an empty line before the head, LF alone, HTTP/1.0, and every field
every : next (10 ∷ codes "HEAD /a HTTP/1.0" ++ 10 ∷ codes "range:bytes=0-0" ++ 10 ∷ codes "IF-RANGE: x " ++ 10 ∷ codes "If-Modified-Since:Sun, 06 Nov 1994 08:49:37 GMT" ++ 10 ∷ codes "Content-Length: 0" ++ 10 ∷ 10 ∷ [])
    ≡ Asks (record { method = codes "HEAD"; target = codes "/a"; part = Some (record { from = 0; to = Some 0 }); if_range = Some (codes "x"); since = Some (record { 0 = 784111777 }); close = true; minor = 0 }) []
unfolding httparse_on_literals httpdate_on_literals is_utf8
every = refl

-- the refusals, in their order
bad_head : next (codes "GET x HTTP/9.9" ++ end ++ end) ≡ Refuses BadHead
unfolding httparse_on_literals httpdate_on_literals is_utf8
bad_head = refl

method : next (codes "POST x HTTP/1.1" ++ end ++ codes "Content-Length: 1" ++ end ++ end) ≡ Refuses Method
unfolding httparse_on_literals httpdate_on_literals is_utf8
method = refl

has_body : next (codes "GET x HTTP/1.1" ++ end ++ codes "Content-Length: 1" ++ end ++ end) ≡ Refuses HasBody
unfolding httparse_on_literals httpdate_on_literals is_utf8
has_body = refl

-- so many field lines
lines_of : ℕ → List ℕ
lines_of zero = []
lines_of (suc n) = 97 ∷ 58 ∷ 10 ∷ lines_of n

large : next (codes "GET x HTTP/1.1" ++ 10 ∷ lines_of 65 ++ 10 ∷ []) ≡ Refuses TooLarge
unfolding lines_of httparse_on_literals httpdate_on_literals is_utf8
large = refl

-- a head that isn't whole
ends : next (codes "GET x HTTP/1.1" ++ end ++ 13 ∷ []) ≡ Ends
ends = refl

none : next [] ≡ Ends
none = refl

-- ranges
from : part_of (codes "bytes=007-") ≡ Some (record { from = 7; to = None })
from = refl

both : part_of (codes "bytes=1-2") ≡ Some (record { from = 1; to = Some 2 })
both = refl

reversed : part_of (codes "bytes=1-0") ≡ None
reversed = refl

suffix : part_of (codes "bytes=-5") ≡ None
suffix = refl

two : part_of (codes "bytes=0-1,3-4") ≡ None
two = refl

long : part_of (codes "bytes=12345678901234567890-") ≡ None
long = refl

-- lists of words
one_of_three : says_close (codes "keep-alive , CLOSE, x") ≡ true
one_of_three = refl

no_word : says_close (codes "closed, close-x") ≡ false
no_word = refl
