-- A record has one spelling: what was written of two heads is the same only where the heads are.
use Rattle.std.proofs.Common.{◌≡◌, ◌≢◌, ℕ, ◌^◌, ◌<◌, List, Option, Some, None, decimal, codes, refl, sym, ap, ◌∙◌, subst, arith}
use Rattle.std.specs.Option.{IfSome, MatchOption}
use Rattle.acng_base.specs.Paths.{path_refusal}
use Rattle.std.proofs.lemmas.Fmt.{decimal_injective}
use Rattle.hex.specs.Hex.{decode_sized, encode_lower}
use Rattle.hex.proofs.HexLemmas.{decode_sized-encode_lower}
use Rattle.acng_base.specs.declared.clock.Moment.{Moment}
use Rattle.acng_base.specs.declared.hash.Hash.{Hash}
use Rattle.acng_head.specs.declared.head.Head.{Head}
use Rattle.acng_head.specs.declared.head.Label.{Label}
use Rattle.acng_head.specs.declared.head.Label.TheVariants.{Fetched, Imported}
use Rattle.acng_head.specs.Records.{Values, AreValues, text_of, values_of, record_text, origin_text, moment_text}
use Rattle.acng_head.specs.Records.{IsHash, IsTypedLabel, IsBoundedLabel, IsHead, IsRecordOf, OneRecord}
use Rattle.acng_head.proofs.Cuts.{cut_same, front_same}
use Rattle.acng_head.proofs.Lacking.{are_values, below}
use Rattle.acng_head.proofs.Numbers.{Lacks-decimal}
use Rattle.acng_head.proofs.Texts.{apart, texts_same}

-- ---- values

pub moment_same : (o p : Option Moment) → IfSome o (λ m. m.0 < 2 ^ 64) → IfSome p (λ m. m.0 < 2 ^ 64) → moment_text o ≡ moment_text p
    → o ≡ p
moment_same None None ho hp e = refl
moment_same None (Some n) ho hp e = cc
moment_same (Some m) None ho hp e = cc
moment_same (Some m) (Some n) ho hp e =
    let text : decimal m.0 ≡ decimal n.0 = cc in
    let number : m.0 ≡ n.0 = decimal_injective m.0 n.0 ho hp text in
    ap (λ x. let w : Moment = record { 0 = x } in Some w) number

hash_same : (g h : Hash) → IsHash g → IsHash h → encode_lower g.0 ≡ encode_lower h.0 → g ≡ h
hash_same g h hg hh e =
    let both = sym (decode_sized-encode_lower g.0 32 hg.0 hg.1) ∙ ap (λ t. decode_sized t 32) e
    ∙ decode_sized-encode_lower h.0 32 hh.0 hh.1 in
    let bytes : g.0 ≡ h.0 = cc in
    ap (λ x. let w : Hash = record { 0 = x } in w) bytes

pub label_same : (bytes : ℕ) (l m : Label) → IsTypedLabel l → IsTypedLabel m → IsBoundedLabel bytes l → IsBoundedLabel bytes m
    → origin_text l ≡ origin_text m → l ≡ m
label_same bytes (Fetched a b) (Fetched c d) tl tm bl bm e =
    let rest = front_same (codes "fetched ") _ _ e in
    let parts = cut_same 32 (decimal a) (decimal c) (decimal b) (decimal d) (Lacks-decimal 32 a (omega arith) (omega arith))
    (Lacks-decimal 32 c (omega arith) (omega arith)) rest in
    let first : a ≡ c = decimal_injective a c (omega arith) (omega arith) parts.0 in
    let last : b ≡ d = decimal_injective b d (omega arith) (omega arith) parts.1 in
    cc
label_same bytes (Fetched a b) (Imported y t) tl tm bl bm e = absurd (apart 102 105 _ _ e refl)
label_same bytes (Imported x s) (Fetched c d) tl tm bl bm e = absurd (apart 105 102 _ _ e refl)
label_same bytes (Imported x s) (Imported y t) tl tm bl bm e =
    let hash = hash_same x y tl tm (front_same (codes "imported ") _ _ e) in
    let size : s ≡ t = bl ∙ sym bm in
    cc

-- ---- heads

pub heads_same : (g h : Head) → IsHead g → IsHead h → values_of g ≡ values_of h → g ≡ h
unfolding values_of
heads_same g h ig ih e =
    let size : g.size ≡ h.size = decimal_injective g.size h.size (omega (arith, ig.bounded.size)) (omega (arith, ih.bounded.size))
    (ap (λ v. v.size) e) in
    let bounded : IsBoundedLabel h.size g.label = subst (λ n. IsBoundedLabel n g.label) size ig.bounded.label in
    let label = label_same h.size g.label h.label ig.typed.label ih.typed.label bounded ih.bounded.label (ap (λ v. v.origin) e) in
    let modified = moment_same g.modified h.modified (below g.modified ig.bounded.modified) (below h.modified ih.bounded.modified)
    (ap (λ v. v.modified) e) in
    let seconds : g.checked.0 ≡ h.checked.0 = decimal_injective g.checked.0 h.checked.0 ig.typed.checked ih.typed.checked
    (ap (λ v. v.checked) e) in
    let checked : g.checked ≡ h.checked = ap (λ x. let w : Moment = record { 0 = x } in w) seconds in
    let mark = moment_same g.mark h.mark ig.typed.mark ih.typed.mark (ap (λ v. v.mark) e) in
    all g.path h.path g.label h.label g.size h.size g.tag h.tag g.modified h.modified g.checked h.checked g.mark h.mark
    (ap (λ v. v.path) e) label size (ap (λ v. v.tag) e) modified checked mark
  where
    all : (p p' : List ℕ) (l l' : Label) (s s' : ℕ) (t t' : Option (List ℕ)) (d d' : Option Moment) (c c' : Moment) (m m' : Option Moment)
        → p ≡ p' → l ≡ l' → s ≡ s' → t ≡ t' → d ≡ d' → c ≡ c' → m ≡ m'
        → ◌≡◌ {A = Head} (record { path = p; label = l; size = s; tag = t; modified = d; checked = c; mark = m })
        (record { path = p'; label = l'; size = s'; tag = t'; modified = d'; checked = c'; mark = m' })
    all p p' l l' s s' t t' d d' c c' m m' e1 e2 e3 e4 e5 e6 e7 = cc

-- ---- texts

-- a head has one record, and a record one head
pub record_same : (g h : Head) → IsHead g → IsHead h → record_text g ≡ record_text h → g ≡ h
record_same g h ig ih e = heads_same g h ig ih (texts_same (values_of g) (values_of h) (are_values g ig) (are_values h ih) e)

-- for a caller to cite
pub same_head : OneRecord
same_head bytes g h rg rh = record_same g h rg.head rh.head (rg.text ∙ sym rh.text)

module _ (v : Values) (t : List ℕ) (av : AreValues v) (et : text_of v ≡ t) where
  cut_as : (h : Head) → IsRecordOf t h → values_of h ≡ v
  cut_as h r = texts_same (values_of h) v (are_values h r.head) av (r.text ∙ sym et)

  -- the head of a text is that of its values
  pub head_in : (o : Option Head) → MatchOption o ((h : Head) → IsHead h → values_of h ≢ v) (λ h. IsHead h × (values_of h ≡ v))
      → MatchOption o ((h : Head) → IsRecordOf t h → ⊥) (IsRecordOf t)
  head_in None g = λ h r. g h r.head (cut_as h r)
  head_in (Some h) g = record { head = g.0; text = ap text_of g.1 ∙ et }

  pub same_in : (o : Option Head) → MatchOption o ((h : Head) → IsHead h → values_of h ≢ v) (λ h. IsHead h × (values_of h ≡ v))
      → (h : Head) → IsRecordOf t h → o ≡ Some h
  same_in None g h r = absurd (g h r.head (cut_as h r))
  same_in (Some x) g h r = ap Some (record_same x h g.0 r.head (ap text_of g.1 ∙ et ∙ sym r.text))

  -- a text whose path is none is no record
  pub no_path : path_refusal v.path ≢ None → (h : Head) → IsRecordOf t h → ⊥
  unfolding values_of
  no_path bad h r = bad (ap path_refusal (sym (ap (λ (w : Values). w.path) (cut_as h r))) ∙ r.head.typed.path)
