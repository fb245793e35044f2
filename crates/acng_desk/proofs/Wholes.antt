-- What is known of a whole body that a desk holds.
use Rattle.std.proofs.Common.{◌≡◌, ℕ, ◌<◌, Bool, true, List, Some, None, Option, IfSome, is_some, refl, sym, ap, subst}
use Rattle.std.proofs.Common.{◌∙◌, unwrap_or}
use Rattle.std.specs.Option.{option_map}
use mathlib.Core.Bool.{true≢false}
use Rattle.std.specs.FinMap as map
use Rattle.acng_site.specs.declared.site.Site.{Ghosts as SiteGhosts}
use Rattle.acng_head.specs.declared.head.Head.{Head}
use Rattle.acng_head.specs.declared.head.Label.{Label}
use Rattle.acng_head.specs.declared.head.Label.TheVariants.{Fetched, Imported}
use Rattle.acng_head.specs.Records.{IsHead, IsBoundedLabel}
use Rattle.acng_keeper.specs.Kept.{Kept, stored}
use Rattle.acng_keeper.specs.Handles.{Handle}
use Rattle.acng_grow.specs.declared.facts.Facts.{Facts}
use Rattle.acng_grow.specs.Faithful.{IsHeldAs}
use Rattle.acng_grow.specs.Keeps.{IsBounded, IsDated}
use Rattle.acng_grow.specs.Stands.{StandsWhole, FactsStand}
use Rattle.acng_rows.specs.declared.row.Whole.{Whole}
use Rattle.acng_rows.specs.Rows.{head_of, whole_at}
use Rattle.acng_rows.specs.Goods.{IsGood, HeldAs, Core}
use Rattle.acng_desk.specs.declared.ticket.OldFile.{OldFile}
use Rattle.acng_desk.specs.House.{House, facts_by}
use Rattle.acng_desk.specs.Keeps.{IsSound}
use Rattle.acng_desk.specs.Tickets.{IsOld, IsOldBody, old_of}
use Rattle.acng_desk.specs.Begins.{IsHandleOf}

-- the keeper's words of a good head
pub as_held : (k : Kept) (id : ℕ) (h : Head) (text : List ℕ) → IsGood (stored k) id h text → IsHeldAs k id h text
as_held k id h text g = record { head = g.head; reads = g.reads; body = g.body; size = g.size }

bounded_by : (size : ℕ) (l : Label) → IsBoundedLabel size l → IsBounded l
bounded_by size (Fetched first last) b = b
bounded_by size (Imported hash n) b = tt

total_by : (l : Label) (w : Whole) → (facts_by l w).total ≡ Some w.size
total_by (Fetched first last) w = refl
total_by (Imported hash n) w = refl

dated_by : (l : Label) (w : Whole) → IfSome w.modified (λ m. m.0 < 253402300800) → IsDated (facts_by l w)
dated_by (Fetched first last) w d = d
dated_by (Imported hash n) w d = tt

-- the facts as the head has them
abbrev own_facts : Whole → Facts
own_facts w = record { total = Some w.size; modified = w.modified; tag = w.tag }

stand_by : {S : Type 0} (s : SiteGhosts S) (path : List ℕ) (l : Label) (w : Whole) → IsBoundedLabel w.size l
    → (s.tells ≡ true → FactsStand s path None l (own_facts w)) → FactsStand s path None l (facts_by l w)
stand_by s path (Fetched first last) w b f = record { total = λ told. (f told).total told; from = λ told. (f told).from told }
stand_by s path (Imported hash n) w b f = record {
  total = sym b;
  from = record { tag = refl; modified = refl; total = ap (λ x. Some x) (sym b) };
}

module _ {S : Type 0} (s : SiteGhosts S) (tells : Bool) (h : House) (path : List ℕ) (w : Whole) (a : IsSound s tells h)
    (at : whole_at h.plain.rows path ≡ Some w) where
  pub held_as : tells ≡ true → HeldAs (stored h.kept) path w
  held_as told = (a.kept told).holds.each path w at

  -- its body is there
  pub held_there : tells ≡ true → map.contains_key h.kept.bodies w.id ≡ true
  held_there told = ap is_some (held_as told).good.body

  pub is_head : IsHead (head_of path w)
  is_head = a.plain.heads.each path w at

  facts_told : tells ≡ true → FactsStand s path None w.label (own_facts w)
  facts_told told =
      let g = held_as told in
      let P : Core → Type 0 = λ c. FactsStand s c.path None c.label (record { total = Some c.size; modified = c.modified; tag = c.tag }) in
      subst P g.alike ((a.kept told).faithful.facts w.id g.head g.text (as_held h.kept w.id g.head g.text g.good))

  pub is_old : IsOld s path (old_of w)
  is_old = record {
    small = is_head.bounded.size;
    total = total_by w.label w;
    bounded = bounded_by w.size w.label is_head.bounded.label;
    dated = dated_by w.label w is_head.bounded.modified;
    stand = stand_by s path w.label w is_head.bounded.label (λ told. facts_told (a.told told));
  }

  -- a handle of it is whole
  pub text_whole : (b : List ℕ) → tells ≡ true → map.get h.kept.bodies w.id ≡ Some b → StandsWhole s path w.label b
  text_whole b told has =
      let g = held_as told in
      let texts : Some g.text ≡ Some b = sym g.good.body ∙ has in
      let text : g.text ≡ b = ap (λ o. unwrap_or o b) texts in
      let P : Core → Type 0 = λ c. StandsWhole s c.path c.label b in
      subst P g.alike (subst (StandsWhole s g.head.path g.head.label) text
      ((a.kept told).faithful.body w.id g.head g.text (as_held h.kept w.id g.head g.text g.good)))

  pub is_old_body : (b : Handle) → IsHandleOf tells h.kept w b → IsOldBody s tells path (old_of w) b
  is_old_body b is = record {
    number = is.number;
    size = is.size;
    sealed = is.sealed;
    stands = λ told. text_whole b.bytes told (is.bytes told);
  }

-- ---- the old body of a ticket

record Was (o : Option Whole) (f : OldFile) : Type 0 where
  whole : Whole
  at : o ≡ Some whole
  is : old_of whole ≡ f

was_in : (o : Option Whole) (f : OldFile) → Some f ≡ option_map old_of o → Was o f
was_in None f is = absurd (true≢false (ap is_some is))
was_in (Some w) f is = record { whole = w; at = refl; is = sym (ap (λ o. unwrap_or o f) is) }

pub was_there : {S : Type 0} (s : SiteGhosts S) (tells : Bool) (h : House) (path : List ℕ) (f : OldFile) → IsSound s tells h
    → Some f ≡ option_map old_of (whole_at h.plain.rows path) → tells ≡ true → map.contains_key h.kept.bodies f.id ≡ true
was_there s tells h path f a is told =
    let w = was_in (whole_at h.plain.rows path) f is in
    subst (λ (x : OldFile). map.contains_key h.kept.bodies x.id ≡ true) w.is (held_there s tells h path w.whole a w.at told)
