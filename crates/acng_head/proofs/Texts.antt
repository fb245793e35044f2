-- The text of a record's lines, from each line on: what is left after a line is taken is the text from the next line.
use Rattle.std.proofs.Common.{◌≡◌, ◌≢◌, ℕ, List, [], ◌∷◌, ◌++◌, codes, eqb, Bool, true, false, not, get_or, arith, Some}
use Rattle.std.proofs.Common.{None, Option, refl, sym, ap, ◌∙◌, append_assoc}
use Rattle.std.specs.Option.{IfSome}
use Rattle.std.specs.Str.{bytes_eq}
use Rattle.std.proofs.lemmas.Slice.Eq.{bytes_eq-Decides}
use Rattle.acng_head.specs.Records.{Lacks, line, maybe, Values, AreValues, text_of}
use Rattle.acng_head.proofs.Cuts.{front_same, line_same}

abbrev pub from_end : List ℕ
from_end = codes "end\n"

abbrev pub from_mark : Values → List ℕ
from_mark v = maybe (codes "mark ") v.mark from_end

abbrev pub from_checked : Values → List ℕ
from_checked v = line (codes "checked ") v.checked (from_mark v)

abbrev pub from_modified : Values → List ℕ
from_modified v = maybe (codes "modified ") v.modified (from_checked v)

abbrev pub from_tag : Values → List ℕ
from_tag v = maybe (codes "tag ") v.tag (from_modified v)

abbrev pub from_size : Values → List ℕ
from_size v = line (codes "size ") v.size (from_tag v)

abbrev pub from_origin : Values → List ℕ
from_origin v = line (codes "origin ") v.origin (from_size v)

abbrev pub from_path : Values → List ℕ
from_path v = line (codes "path ") v.path (from_origin v)

-- two texts that begin with different bytes
pub apart : (a b : ℕ) (xs ys : List ℕ) → a ∷ xs ≡ b ∷ ys → eqb a b ≡ false → ⊥
apart a b xs ys e t = let same : a ≡ b = ap (λ zs. get_or zs 0 0) e in grind (arith)

-- what a line is, where it is known to be there
line_next : (key a b r s t : List ℕ) → Lacks 10 a → line key a r ≡ t → Lacks 10 b × (t ≡ line key b s) → (a ≡ b) × (r ≡ s)
line_next key a b r s t la e f = line_same key a b r s la f.0 (e ∙ f.1)

-- a line that may be missing, where what follows it is no such line
maybe_next : (key : List ℕ) (a b : Option (List ℕ)) (r s t : List ℕ) → IfSome a (Lacks 10) → ((v rest : List ℕ) → r ≢ line key v rest)
    → maybe key a r ≡ t
    → IfSome b (Lacks 10) → t ≡ maybe key b s → (b ≡ None → (v rest : List ℕ) → t ≢ line key v rest) → (a ≡ b) × (r ≡ s)
maybe_next key None None r s t la other e lb f missing = (refl, e ∙ f)
maybe_next key None (Some b) r s t la other e lb f missing = absurd (other b s (e ∙ f))
maybe_next key (Some a) None r s t la other e lb f missing = absurd (missing refl a r (sym e))
maybe_next key (Some a) (Some b) r s t la other e lb f missing =
    let h = line_same key a b r s la lb (e ∙ f) in (ap Some h.0, h.1)

pub text_is : (v : Values) → text_of v ≡ codes "acng-head 1\n" ++ from_path v
unfolding text_of
text_is v = refl

pub to_path : (v : Values) (t r : List ℕ) → text_of v ≡ t → t ≡ codes "acng-head 1\n" ++ r → from_path v ≡ r
unfolding text_of
to_path v t r e f = front_same (codes "acng-head 1\n") (from_path v) r (e ∙ f)

module _ (v : Values) (h : AreValues v) (t : List ℕ) where
  pub to_origin : (p r : List ℕ) → from_path v ≡ t → Lacks 10 p × (t ≡ line (codes "path ") p r) → (v.path ≡ p) × (from_origin v ≡ r)
  to_origin p r e f = line_next (codes "path ") v.path p (from_origin v) r t h.path e f

  pub to_size : (p r : List ℕ) → from_origin v ≡ t → Lacks 10 p × (t ≡ line (codes "origin ") p r) → (v.origin ≡ p) × (from_size v ≡ r)
  to_size p r e f = line_next (codes "origin ") v.origin p (from_size v) r t h.origin e f

  pub to_tag : (p r : List ℕ) → from_size v ≡ t → Lacks 10 p × (t ≡ line (codes "size ") p r) → (v.size ≡ p) × (from_tag v ≡ r)
  to_tag p r e f = line_next (codes "size ") v.size p (from_tag v) r t h.size e f

  pub to_mark : (p r : List ℕ) → from_checked v ≡ t → Lacks 10 p × (t ≡ line (codes "checked ") p r) → (v.checked ≡ p) × (from_mark v ≡ r)
  to_mark p r e f = line_next (codes "checked ") v.checked p (from_mark v) r t h.checked e f

  no_tag : (o : Option (List ℕ)) (w rest : List ℕ) → maybe (codes "modified ") o (from_checked v) ≢ line (codes "tag ") w rest
  no_tag None w rest = λ e. apart 99 116 _ _ e refl
  no_tag (Some m) w rest = λ e. apart 109 116 _ _ e refl

  pub to_modified : (o : Option (List ℕ)) (r : List ℕ) → from_tag v ≡ t → IfSome o (Lacks 10) → t ≡ maybe (codes "tag ") o r
      → (o ≡ None → (w rest : List ℕ) → t ≢ line (codes "tag ") w rest) → (v.tag ≡ o) × (from_modified v ≡ r)
  to_modified o r e l f missing = maybe_next (codes "tag ") v.tag o (from_modified v) r t h.tag (no_tag v.modified) e l f missing

  pub to_checked : (o : Option (List ℕ)) (r : List ℕ) → from_modified v ≡ t → IfSome o (Lacks 10) → t ≡ maybe (codes "modified ") o r
      → (o ≡ None → (w rest : List ℕ) → t ≢ line (codes "modified ") w rest) → (v.modified ≡ o) × (from_checked v ≡ r)
  to_checked o r e l f missing =
      maybe_next (codes "modified ") v.modified o (from_checked v) r t h.modified (λ w rest e. apart 99 109 _ _ e refl) e l f missing

  pub to_end : (o : Option (List ℕ)) (r : List ℕ) → from_mark v ≡ t → IfSome o (Lacks 10) → t ≡ maybe (codes "mark ") o r
      → (o ≡ None → (w rest : List ℕ) → t ≢ line (codes "mark ") w rest) → (v.mark ≡ o) × (from_end ≡ r)
  to_end o r e l f missing = maybe_next (codes "mark ") v.mark o from_end r t h.mark (λ w rest e. apart 101 109 _ _ e refl) e l f missing

-- the values of lines are the same where each is
pub values_same : (v w : Values) → v.path ≡ w.path → v.origin ≡ w.origin → v.size ≡ w.size → v.tag ≡ w.tag → v.modified ≡ w.modified
    → v.checked ≡ w.checked → v.mark ≡ w.mark → v ≡ w
values_same v w e1 e2 e3 e4 e5 e6 e7 =
    all v.path w.path v.origin w.origin v.size w.size v.tag w.tag v.modified w.modified v.checked w.checked v.mark w.mark
    e1 e2 e3 e4 e5 e6 e7
  where
    all : (p p' o o' s s' : List ℕ) (t t' d d' : Option (List ℕ)) (c c' : List ℕ) (m m' : Option (List ℕ))
        → p ≡ p' → o ≡ o' → s ≡ s' → t ≡ t' → d ≡ d' → c ≡ c' → m ≡ m'
        → ◌≡◌ {A = Values} (record { path = p; origin = o; size = s; tag = t; modified = d; checked = c; mark = m })
        (record { path = p'; origin = o'; size = s'; tag = t'; modified = d'; checked = c'; mark = m' })
    all p p' o o' s s' t t' d d' c c' m m' e1 e2 e3 e4 e5 e6 e7 = cc

-- a line that may be missing, in two texts
maybe_same : (key : List ℕ) (a b : Option (List ℕ)) (r s : List ℕ) → IfSome a (Lacks 10) → IfSome b (Lacks 10)
    → ((v rest : List ℕ) → r ≢ line key v rest)
    → ((v rest : List ℕ) → s ≢ line key v rest) → maybe key a r ≡ maybe key b s → (a ≡ b) × (r ≡ s)
maybe_same key a b r s la lb other_r other_s e = maybe_next key a b r s (maybe key b s) la other_r e lb refl (missing b)
  where
    missing : (b : Option (List ℕ)) → b ≡ None → (v rest : List ℕ) → maybe key b s ≢ line key v rest
    missing None n = other_s
    missing (Some w) n = cc

-- a text has one cut into values
pub texts_same : (v w : Values) → AreValues v → AreValues w → text_of v ≡ text_of w → v ≡ w
texts_same v w hv hw e =
    let e0 = to_path v _ _ e (text_is w) in
    let e1 = to_origin v hv _ _ _ e0 (hw.path, refl) in
    let e2 = to_size v hv _ _ _ e1.1 (hw.origin, refl) in
    let e3 = to_tag v hv _ _ _ e2.1 (hw.size, refl) in
    let e4 = maybe_same (codes "tag ") v.tag w.tag _ _ hv.tag hw.tag (no_tag v hv [] v.modified) (no_tag w hw [] w.modified) e3.1 in
    let e5 = maybe_same (codes "modified ") v.modified w.modified _ _ hv.modified hw.modified (λ a rest e. apart 99 109 _ _ e refl)
    (λ a rest e. apart 99 109 _ _ e refl) e4.1 in
    let e6 = to_mark v hv _ _ _ e5.1 (hw.checked, refl) in
    let e7 = maybe_same (codes "mark ") v.mark w.mark from_end from_end hv.mark hw.mark (λ a rest e. apart 101 109 _ _ e refl)
    (λ a rest e. apart 101 109 _ _ e refl) e6.1 in
    values_same v w e1.0 e2.0 e3.0 e4.0 e5.0 e6.0 e7.0

-- the lines, one after another, are the text
pub whole : (v : Values) (t r0 r1 r2 r3 r4 r5 r6 r7 : List ℕ) → t ≡ codes "acng-head 1\n" ++ r0 → r0 ≡ line (codes "path ") v.path r1
    → r1 ≡ line (codes "origin ") v.origin r2
    → r2 ≡ line (codes "size ") v.size r3 → r3 ≡ maybe (codes "tag ") v.tag r4 → r4 ≡ maybe (codes "modified ") v.modified r5
    → r5 ≡ line (codes "checked ") v.checked r6
    → r6 ≡ maybe (codes "mark ") v.mark r7 → r7 ≡ from_end → text_of v ≡ t
unfolding text_of
whole v t r0 r1 r2 r3 r4 r5 r6 r7 e0 e1 e2 e3 e4 e5 e6 e7 e8 = rw (e0, e1, e2, e3, e4, e5, e6, e7, e8) refl

-- the answer of `!=` that tells nothing
pub same_text : (xs ys : List ℕ) → not (bytes_eq xs ys) ≡ false → xs ≡ ys
same_text xs ys h = (bytes_eq-Decides xs ys).0 (cases (bytes_eq xs ys) h)
  where
    cases : (b : Bool) → not b ≡ false → b ≡ true
    cases true h = refl
    cases false h = cc

pub other_text : (xs ys : List ℕ) → not (bytes_eq xs ys) ≡ true → xs ≢ ys
other_text xs ys h e = cases (bytes_eq xs ys) h ((bytes_eq-Decides xs ys).1 e)
  where
    cases : (b : Bool) → not b ≡ true → b ≡ true → ⊥
    cases true h g = cc
    cases false h g = cc

-- ---- the lines put together

line_more : (key v r : List ℕ) → line key v [] ++ r ≡ line key v r
line_more key v r = append_assoc key (v ++ 10 ∷ []) r ∙ ap (λ x. key ++ x) (append_assoc v (10 ∷ []) r)

maybe_more : (key : List ℕ) (o : Option (List ℕ)) (r : List ℕ) → maybe key o [] ++ r ≡ maybe key o r
maybe_more key None r = refl
maybe_more key (Some v) r = line_more key v r

pub joined : (v : Values) → codes "acng-head 1\n" ++
    (line (codes "path ") v.path [] ++ (line (codes "origin ") v.origin [] ++ (line (codes "size ") v.size []
    ++ (maybe (codes "tag ") v.tag [] ++
    (maybe (codes "modified ") v.modified [] ++
    (line (codes "checked ") v.checked [] ++ (maybe (codes "mark ") v.mark [] ++ from_end))))))) ≡ text_of v
joined v =
    let m = maybe_more (codes "mark ") v.mark from_end in
    let k = ap (λ r. line (codes "checked ") v.checked [] ++ r) m ∙ line_more (codes "checked ") v.checked (from_mark v) in
    let d = ap (λ r. maybe (codes "modified ") v.modified [] ++ r) k ∙ maybe_more (codes "modified ") v.modified (from_checked v) in
    let t = ap (λ r. maybe (codes "tag ") v.tag [] ++ r) d ∙ maybe_more (codes "tag ") v.tag (from_modified v) in
    let s = ap (λ r. line (codes "size ") v.size [] ++ r) t ∙ line_more (codes "size ") v.size (from_tag v) in
    let o = ap (λ r. line (codes "origin ") v.origin [] ++ r) s ∙ line_more (codes "origin ") v.origin (from_size v) in
    let p = ap (λ r. line (codes "path ") v.path [] ++ r) o ∙ line_more (codes "path ") v.path (from_origin v) in
    ap (λ r. codes "acng-head 1\n" ++ r) p ∙ sym (text_is v)
