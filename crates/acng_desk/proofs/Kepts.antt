-- What the keeper has of a desk, where rows and their heads and bodies change together.
use Rattle.std.proofs.Common.{ℕ, Bool, List, Some}
use Rattle.std.proofs.Common.{sym, ap, ◌∙◌}
use Rattle.std.specs.Option.{option_map}
use Rattle.acng_site.specs.declared.site.Site.{Ghosts as SiteGhosts}
use Rattle.acng_head.specs.declared.head.Head.{Head}
use Rattle.acng_keeper.specs.Kept.{Kept, stored}
use Rattle.acng_grow.specs.Faithful.{IsHeldAs, IsFaithful}
use Rattle.acng_rows.specs.declared.row.Whole.{Whole}
use Rattle.acng_rows.specs.Goods.{IsGood, core_of, AreHeld, AreSealed, IsFaithfulTo}
use Rattle.acng_desk.specs.Stops.{IsFile}
use Rattle.acng_desk.specs.House.{House}
use Rattle.acng_desk.specs.Keeps.{Held, IsSound}
use Rattle.acng_desk.proofs.Wholes.{as_held}

pub file_is : {S : Type 0} (s : SiteGhosts S) (k : Kept) (id : ℕ) (h : Head) (text : List ℕ) → IsFaithful s k → IsGood (stored k) id h text
    → IsFile s (core_of h) text
file_is s k id h text f g = (f.body id h text (as_held k id h text g), f.facts id h text (as_held k id h text g))

as_good : (k : Kept) (id : ℕ) (h : Head) (text : List ℕ) → IsHeldAs k id h text → IsGood (stored k) id h text
as_good k id h text g = record { head = g.head; reads = g.reads; body = g.body; size = g.size }

pub held_of : {S : Type 0} (s : SiteGhosts S) (tells : Bool) (h : House) → IsSound s tells h
    → AreHeld tells h.plain.next_id h.plain.rows h.kept
held_of s tells h a = record {
  heads = a.plain.heads.each;
  below = λ path w at. a.plain.below.each path Held w.id (ap (option_map (λ (x : Whole). x.id)) at);
  apart = λ path other w x at bt same. (a.plain.apart.each path other Held Held w.id (ap (option_map (λ (x : Whole). x.id)) at)
      (ap (option_map (λ (x : Whole). x.id)) bt ∙ ap (λ n. Some n) (sym same))).0;
  holds = λ told. (a.kept told).holds;
}

pub sealed_of : {S : Type 0} (s : SiteGhosts S) (k : Kept) → IsFaithful s k → AreSealed k
sealed_of s k f = record { each = f.sealed }

-- in the words of rows
pub to_so : {S : Type 0} (s : SiteGhosts S) (k : Kept) → IsFaithful s k → IsFaithfulTo (IsFile s) k
to_so s k f = record { good = λ id h text g. file_is s k id h text f g; sealed = record { each = f.sealed } }

pub from_so : {S : Type 0} (s : SiteGhosts S) (k : Kept) → IsFaithfulTo (IsFile s) k → IsFaithful s k
from_so s k f = record {
  body = λ id h text g. (f.good id h text (as_good k id h text g)).0;
  facts = λ id h text g. (f.good id h text (as_good k id h text g)).1;
  sealed = f.sealed.each;
}
