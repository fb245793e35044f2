-- How lines come out of pieces of a text.
use Rattle.std.proofs.Common.{◌≡◌, ℕ, suc, ◌+◌, ◌-◌, ◌<◌, ◌≤◌, Bool, true, false, List, [], ◌∷◌, ◌++◌, Option, Some, None, MatchOption, Result, Ok, Err, cond, length, take, drop, nat_lt, refl, sym, ap, ◌∙◌, subst, arith, append_assoc, length-append, length-drop}
use Rattle.std.proofs.lemmas.List.{drop-drop, take-append-drop}
use Rattle.std.specs.List.{position, position_from}
use Rattle.std.proofs.lemmas.Grind.{common_steps}
use Rattle.std.proofs.lemmas.Iterator.Adapters.{position_from-zero}
use Rattle.acng_stanza.specs.Stanzas.{Reading, Field, line_limit, step, after_step, from_lines, ahead, some_stanza, Refused, Goes, Ends}
use Rattle.acng_stanza.specs.Readers.{Lined, Reader, Unfinished, Unbroken, after, rest}
use Rattle.acng_stanza.specs.declared.fault.StanzaFault.TheVariants.{LineTooLong}
use Rattle.acng_stanza.specs.Feeds.{TakesPiece, RefusesPiece, TakesLine, RefusesLine, Feeds, FeedsLine, Hands}
use Rattle.acng_stanza.specs.declared.fault.StanzaFault.{StanzaFault}
use Rattle.acng_base.specs.Cuts.{is_lf, pieces}
use Rattle.acng_base.proofs.Ranges.{rest_is_drop}
use Rattle.acng_base.proofs.Cutting.{some_piece}

-- ---- lines without a line feed

pub unbroken_append : (l m : List ℕ) → Unbroken l → Unbroken m → Unbroken (l ++ m)
unbroken_append [] m u v = v
unbroken_append (b ∷ l) m u v = (u.0, unbroken_append l m u.1 v)

pub line_whole : (l more : List ℕ) → Unbroken l → pieces (l ++ 10 ∷ more) ≡ l ∷ pieces more
line_whole [] more u = refl
line_whole (b ∷ l) more u = rw (u.0, line_whole l more u.1) refl

-- a line that goes on begins with what is there
pub line_begins : (l more : List ℕ) → Unbroken l → (x : List ℕ) × (xs : List (List ℕ)) × (pieces (l ++ more) ≡ (l ++ x) ∷ xs)
line_begins [] more u = some_piece is_lf more
line_begins (b ∷ l) more u = let g = line_begins l more u.1 in (g.0, g.1, rw (u.0, g.2) refl)

lines_none_from : (text : List ℕ) (i : ℕ) → position_from is_lf i text ≡ None → Unbroken text
lines_none_from [] i h = tt
lines_none_from (b ∷ bs) i h = cases (is_lf b) refl h (lines_none_from bs (i + 1))
  where
    cases : (t : Bool) → is_lf b ≡ t → cond t (Some i) (position_from is_lf (i + 1) bs) ≡ None
        → (position_from is_lf (i + 1) bs ≡ None → Unbroken bs) → (is_lf b ≡ false) × Unbroken bs
    cases true t e again = cc
    cases false t e again = (t, again e)

pub unbroken_none : (text : List ℕ) → position is_lf text ≡ None → Unbroken text
unbroken_none text h = lines_none_from text 0 (sym (position_from-zero is_lf text) ∙ h)

-- up to a line feed, and after it
pub record CutsAt (k : ℕ) (text : List ℕ) : Type 0 where
  pub within : k < length text
  pub line : Unbroken (take k text)
  pub parts : text ≡ take k text ++ 10 ∷ drop (k + 1) text

lf_is : (b : ℕ) → is_lf b ≡ true → b ≡ 10
lf_is b h = grind (arith, common_steps)

cut_from : (text : List ℕ) (i k : ℕ) → position_from is_lf i text ≡ Some k → (i ≤ k) × CutsAt (k - i) text
cut_from [] i k h = cc
cut_from (b ∷ bs) i k h = cases (is_lf b) refl h (λ e. cut_from bs (i + 1) k e)
  where
    cases : (t : Bool) → is_lf b ≡ t → cond t (Some i) (position_from is_lf (i + 1) bs) ≡ Some k
        → (position_from is_lf (i + 1) bs ≡ Some k → (i + 1 ≤ k) × CutsAt (k - (i + 1)) bs) → (i ≤ k) × CutsAt (k - i) (b ∷ bs)
    cases true t e again =
        let same : i ≡ k = cc in
        let none : k - i ≡ 0 = omega arith in (
          omega arith,
          subst (λ j. CutsAt j (b ∷ bs)) (sym none)
              (record { within = omega arith; line = tt; parts = ap (λ x. x ∷ bs) (lf_is b t) }),
        )
    cases false t e again =
        let g = again e in
        let one : k - i ≡ suc (k - (i + 1)) = omega arith in
        let next : suc (k - (i + 1)) + 1 ≡ suc (k - (i + 1) + 1) = omega arith in (
          omega arith,
          subst (λ j. CutsAt j (b ∷ bs)) (sym one) (record {
            within = omega (arith, g.1.within);
            line = (t, g.1.line);
            parts = ap (λ xs. b ∷ xs) g.1.parts ∙ ap (λ j. (b ∷ take (k - (i + 1)) bs) ++ 10 ∷ drop j (b ∷ bs)) (sym next);
          }),
        )

pub cut_at : (text : List ℕ) (k : ℕ) → position is_lf text ≡ Some k → CutsAt k text
cut_at text k h = let g = cut_from text 0 k (sym (position_from-zero is_lf text) ∙ h) in let e : k - 0 ≡ k =
    omega arith in subst (λ j. CutsAt j text) e g.1

-- ---- steps

goes_same : (w : List (List Field)) (old : Unfinished) (gs : List Field) (s n : ℕ) (line : List ℕ)
    → step old.line old.fields old.size line ≡ Goes gs s → n ≡ old.line
    → (ls : List (List ℕ)) → ahead w (from_lines gs s (n + 1) ls) ≡ after (record { waiting = w; last = old }) (line ∷ ls)
goes_same w old gs s n line e m ls =
    ap (λ j. ahead w (from_lines gs s (j + 1) ls)) m
    ∙ ap (λ t. ahead w (after_step (λ fs z. from_lines fs z (old.line + 1) ls) old.fields t)) (sym e)

pub goes : (w : List (List Field)) (old new : Unfinished) (line : List ℕ)
    → step old.line old.fields old.size line ≡ Goes new.fields new.size → new.line ≡ old.line
    → TakesLine line (record { waiting = w; last = old })
    (record { waiting = w; last = record { fields = new.fields; size = new.size; line = new.line + 1 } })
goes w old new line e m = record { same = goes_same w old new.fields new.size new.line line e m }

pub ahead_ahead : (v w : List (List Field)) (r : Reading) → ahead v (ahead w r) ≡ ahead (v ++ w) r
ahead_ahead v w r = ap (λ ss. record { stanzas = ss; fault = r.fault }) (sym (append_assoc v w r.stanzas))

pub ends : (w : List (List Field)) (old : Unfinished) (line : List ℕ) → step old.line old.fields old.size line ≡ Ends
    → TakesLine line (record { waiting = w; last = old })
    (record { waiting = w ++ some_stanza old.fields; last = record { fields = []; size = 0; line = old.line + 1 } })
ends w old line e = record {
  same = λ ls. sym (ahead_ahead w (some_stanza old.fields) (from_lines [] 0 (old.line + 1) ls))
      ∙ ap (λ t. ahead w (after_step (λ fs z. from_lines fs z (old.line + 1) ls) old.fields t)) (sym e);
}

pub refuses : (l : Lined) (line : List ℕ) (f : _) → step l.last.line l.last.fields l.last.size line ≡ Refused f → RefusesLine line f l l
refuses l line f e =
    record { same = λ ls. ap (λ t. ahead l.waiting (after_step (λ fs z. from_lines fs z (l.last.line + 1) ls) l.last.fields t)) (sym e) }

-- ---- pieces

longer_begins : (held part more : List ℕ) → Unbroken held → Unbroken part
    → (x : List ℕ) × (xs : List (List ℕ)) × (pieces (held ++ (part ++ more)) ≡ ((held ++ part) ++ x) ∷ xs)
longer_begins held part more u v =
    let g = line_begins (held ++ part) more (unbroken_append held part u v) in
    (g.0, g.1, ap pieces (sym (append_assoc held part more)) ∙ g.2)

limit_lt : (a b : ℕ) → a < b → nat_lt a b ≡ true
limit_lt a b h = grind (arith, common_steps)

-- a line that is too long already is refused, whatever follows
pub too_long : (r : Reader) (part : List ℕ) → Unbroken r.held → Unbroken part → line_limit < length (r.held ++ part)
    → RefusesPiece part (LineTooLong r.lines.last.line) r r
too_long r part u v h = record {
  same = λ more.
      let g = longer_begins r.held part more u v in
      let size : length ((r.held ++ part) ++ g.0) ≡ length (r.held ++ part) + length g.0 = length-append (r.held ++ part) g.0 in
      let test : nat_lt line_limit (length ((r.held ++ part) ++ g.0)) ≡ true =
      limit_lt line_limit (length ((r.held ++ part) ++ g.0)) (omega arith) in
      sym (rw (g.2, test) refl);
}

-- the part of a line is held
pub held_more : (l : Lined) (held part : List ℕ) (f : _)
    → TakesPiece part (record { lines = l; held = held; fault = f }) (record { lines = l; held = held ++ part; fault = f })
held_more l held part f = record { same = λ more. ap (λ t. after l (pieces t)) (append_assoc held part more) }

-- the line is whole
whole_same : (held part more : List ℕ) → Unbroken held → Unbroken part
    → pieces (held ++ ((part ++ 10 ∷ []) ++ more)) ≡ (held ++ part) ∷ pieces more
whole_same held part more u v =
    ap (λ t. pieces (held ++ t)) (append_assoc part (10 ∷ []) more)
    ∙ ap pieces (sym (append_assoc held part (10 ∷ more)))
    ∙ line_whole (held ++ part) more (unbroken_append held part u v)

pub whole : (old new : Reader) (part : List ℕ) → Unbroken old.held → Unbroken part → new.held ≡ []
    → TakesLine (old.held ++ part) old.lines new.lines → TakesPiece (part ++ 10 ∷ []) old new
whole old new part u v e t = record {
  same = λ more. ap (λ h. after new.lines (pieces (h ++ more))) e ∙ t.same (pieces more)
      ∙ ap (after old.lines) (sym (whole_same old.held part more u v));
}

pub whole_refused : (old new : Reader) (part : List ℕ) (f : _) → Unbroken old.held → Unbroken part
    → RefusesLine (old.held ++ part) f old.lines new.lines → RefusesPiece (part ++ 10 ∷ []) f old new
whole_refused old new part f u v t = record {
  same = λ more. t.same (pieces more) ∙ ap (after old.lines) (sym (whole_same old.held part more u v));
}

-- one piece after another
pub both : (a b : List ℕ) (r s t : Reader) → TakesPiece a r s → TakesPiece b s t → TakesPiece (a ++ b) r t
both a b r s t f g = record { same = λ more. g.same more ∙ f.same (b ++ more) ∙ ap (rest r) (sym (append_assoc a b more)) }

pub both_refused : (a b : List ℕ) (f : _) (r s t : Reader) → TakesPiece a r s → RefusesPiece b f s t → RefusesPiece (a ++ b) f r t
both_refused a b f r s t g h = record { same = λ more. h.same more ∙ g.same (b ++ more) ∙ ap (rest r) (sym (append_assoc a b more)) }

-- what follows a refused piece doesn't count
pub refused_more : (a b : List ℕ) (f : _) (r s : Reader) → RefusesPiece a f r s → RefusesPiece (a ++ b) f r s
refused_more a b f r s h = record { same = λ more. h.same (b ++ more) ∙ ap (rest r) (sym (append_assoc a b more)) }

pub nil_end : {A : Type 0} (xs : List A) → xs ++ [] ≡ xs
nil_end [] = refl
nil_end (x ∷ xs) = ap (λ ys. x ∷ ys) (nil_end xs)

all_one : (l : List ℕ) → Unbroken l → pieces (l ++ []) ≡ l ∷ []
all_one [] u = refl
all_one (b ∷ l) u = rw (u.0, all_one l u.1) refl

-- ---- by the answer of a call

pub feeds_whole : (old new : Reader) (part : List ℕ) (r : Result (Unit {0}) StanzaFault) → Unbroken old.held → Unbroken part
    → new.held ≡ [] → FeedsLine (old.held ++ part) old.lines new.lines r → Feeds (part ++ 10 ∷ []) old new r
feeds_whole old new part (Ok x) u v e t = whole old new part u v e t
feeds_whole old new part (Err f) u v e t = λ real. whole_refused old new part f u v (t real)

pub feeds_held : (old new : Reader) (r : Result (Unit {0}) StanzaFault) → Unbroken old.held → new.held ≡ []
    → FeedsLine old.held old.lines new.lines r → Feeds (10 ∷ []) old new r
feeds_held old new r u e t = feeds_whole old new [] r u tt e (subst (λ h. FeedsLine h old.lines new.lines r) (sym (nil_end old.held)) t)

pub feeds_both : (a b : List ℕ) (r s t : Reader) (x : Result (Unit {0}) StanzaFault) → TakesPiece a r s → Feeds b s t x
    → Feeds (a ++ b) r t x
feeds_both a b r s t (Ok u) f g = both a b r s t f g
feeds_both a b r s t (Err e) f g = λ real. both_refused a b e r s t f (g real)

-- ---- the last line

pub last_line : (old : Reader) (new : Lined) (ws : List (List Field)) → TakesLine old.held old.lines new → Unbroken old.held
    → ws ≡ new.waiting ++ some_stanza new.last.fields
    → ◌≡◌ {A = Reading} (record { stanzas = ws; fault = None }) (rest old [])
last_line old new ws t u e =
    ap (λ ss. record { stanzas = ss; fault = None }) (e ∙ ap (λ ss. new.waiting ++ ss) (sym (nil_end (some_stanza new.last.fields))))
    ∙ t.same [] ∙ ap (after old.lines) (sym (all_one old.held u))

pub last_refused : (old : Reader) (new : Lined) (f : StanzaFault) → RefusesLine old.held f old.lines new → Unbroken old.held
    → ◌≡◌ {A = Reading} (record { stanzas = new.waiting; fault = Some f }) (rest old [])
last_refused old new f t u =
    ap (λ ss. record { stanzas = ss; fault = Some f }) (sym (nil_end new.waiting)) ∙ t.same []
    ∙ ap (after old.lines) (sym (all_one old.held u))

-- ---- a piece, line by line

-- what is left of the piece gives what all of it gave
pub record Left (piece : List ℕ) (start : ℕ) (r s : Reader) : Type 0 where
  pub same : (more : List ℕ) → rest s (drop start piece ++ more) ≡ rest r (piece ++ more)

pub left_all : (piece : List ℕ) (r : Reader) → Left piece 0 r r
left_all piece r = record { same = λ more. refl }

-- the piece up to the next line feed
pub record NextLine (piece : List ℕ) (start len : ℕ) : Type 0 where
  pub within : start + (len + 1) ≤ length piece
  pub line : Unbroken (take len (drop start piece))
  pub parts : drop start piece ≡ (take len (drop start piece) ++ 10 ∷ []) ++ drop (start + (len + 1)) piece

pub next_line : (piece : List ℕ) (start len : ℕ) → start ≤ length piece
    → position is_lf (take (length piece - start) (drop start piece)) ≡ Some len → NextLine piece start len
next_line piece start len within h =
    let rest_text = drop start piece in
    let cut = cut_at rest_text len (ap (position is_lf) (sym (rest_is_drop start piece)) ∙ h) in
    let size = length-drop start piece in
    let after_it : drop (len + 1) rest_text ≡ drop (start + (len + 1)) piece = drop-drop (len + 1) start piece in
    record {
      within = omega (arith, cut.within);
      line = cut.line;
      parts = cut.parts ∙ ap (λ t. take len rest_text ++ 10 ∷ t) after_it
          ∙ sym (append_assoc (take len rest_text) (10 ∷ []) (drop (start + (len + 1)) piece));
    }

pub left_step : (piece : List ℕ) (start len : ℕ) (r s t : Reader) → NextLine piece start len → Left piece start r s
    → TakesPiece (take len (drop start piece) ++ 10 ∷ []) s t → Left piece (start + (len + 1)) r t
left_step piece start len r s t n l f = record {
  same = λ more.
      let tail = drop (start + (len + 1)) piece in
      let front = take len (drop start piece) ++ 10 ∷ [] in
      f.same (tail ++ more) ∙ ap (rest s) (sym (append_assoc front tail more)) ∙ ap (λ x. rest s (x ++ more)) (sym n.parts) ∙ l.same more;
}

pub left_refused : (piece : List ℕ) (start len : ℕ) (r s t : Reader) (f : StanzaFault) → NextLine piece start len
    → Left piece start r s → RefusesPiece (take len (drop start piece) ++ 10 ∷ []) f s t → RefusesPiece piece f r t
left_refused piece start len r s t f n l h = record {
  same = λ more.
      let tail = drop (start + (len + 1)) piece in
      let front = take len (drop start piece) ++ 10 ∷ [] in
      h.same (tail ++ more) ∙ ap (rest s) (sym (append_assoc front tail more)) ∙ ap (λ x. rest s (x ++ more)) (sym n.parts) ∙ l.same more;
}

pub left_feeds : (piece : List ℕ) (start : ℕ) (r s t : Reader) (x : Result (Unit {0}) StanzaFault) → Left piece start r s
    → Feeds (drop start piece) s t x → Feeds piece r t x
left_feeds piece start r s t (Ok u) l h = record { same = λ more. h.same more ∙ l.same more }
left_feeds piece start r s t (Err f) l h = λ real. record { same = λ more. (h real).same more ∙ l.same more }

-- ---- a stanza that is handed out

pub hands : (old new : Lined) (held : List ℕ) (fault : Option StanzaFault) (r : Option (List Field))
    → MatchOption r ((old.waiting ≡ []) × (new.waiting ≡ [])) (λ s. old.waiting ≡ s ∷ new.waiting) → new.last ≡ old.last
    → Hands (record { lines = old; held = held; fault = fault }) (record { lines = new; held = held; fault = fault }) r
hands old new held fault None h e =
    (h.0, λ i. record { lines = record { waiting = (h.1 ∙ sym h.0) i; last = e i }; held = held; fault = fault })
hands old new held fault (Some s) h e = record { waiting = h; last = e; held = refl; fault = refl }

-- ---- the pieces of a whole text

pub piece_rest : (text : List ℕ) (start stop : ℕ) → start ≤ stop
    → take (stop - start) (drop start text) ++ drop stop text ≡ drop start text
piece_rest text start stop h =
    let e : start + (stop - start) ≡ stop = omega arith in
    ap (λ t. take (stop - start) (drop start text) ++ t) (ap (λ n. drop n text) (sym e) ∙ sym (drop-drop (stop - start) start text))
    ∙ take-append-drop (stop - start) (drop start text)
