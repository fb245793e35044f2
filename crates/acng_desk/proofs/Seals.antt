-- What the keeper has where one of the ticket's bodies is sealed.
use Rattle.std.proofs.Common.{◌≡◌, ◌≢◌, ℕ, true, List, Some, is_some}
use Rattle.std.proofs.Common.{sym, ap, subst, ◌∙◌, inl, inr}
use mathlib.Core.Bool.{true≢false}
use Rattle.std.specs.FinMap as map
use Rattle.acng_site.specs.declared.site.Site.{Ghosts as SiteGhosts}
use Rattle.acng_head.specs.declared.head.Head.{Head}
use Rattle.acng_head.specs.Records.{IsHead, record_text}
use Rattle.acng_keeper.specs.declared.effect.Effect.TheVariants.{Sealed}
use Rattle.acng_keeper.specs.Kept.{Kept, stored, after, MayCome}
use Rattle.acng_grow.specs.Faithful.{IsHeldAs, IsFaithful}
use Rattle.acng_rows.specs.Rows.{Rows}
use Rattle.acng_rows.specs.Goods.{IsGood, Holds, IsUnnamed}
use Rattle.acng_rows.proofs.Ids.{split, put_off, put_own, less_off, less_none}

module _ (k : Kept) (id : ℕ) (text : List ℕ) where
  abbrev sealed : Kept
  sealed = after (Sealed id text) k

  held_off : (q : ℕ) (h : Head) (t : List ℕ) → q ≢ id → IsHeldAs sealed q h t → IsHeldAs k q h t
  held_off q h t off g = record { head = g.head; reads = g.reads; body = sym (put_off k.bodies id text q off) ∙ g.body; size = g.size }

  good_off : (q : ℕ) (h : Head) (t : List ℕ) → q ≢ id → IsGood (stored k) q h t → IsGood (stored sealed) q h t
  good_off q h t off g = record { head = g.head; reads = g.reads; body = put_off k.bodies id text q off ∙ g.body; size = g.size }

  -- the sealed body had no head that reads
  no_head : {P : Type 0} {S : Type 0} (s : SiteGhosts S) (h : Head) → IsFaithful s k → map.contains_key k.loose id ≡ true
      → map.get k.heads id ≡ Some (record_text h) → IsHead h → P
  no_head s h f loose has reads = absurd (true≢false (sym loose ∙ f.sealed id h has reads))

  sealed_faithful : {S : Type 0} (s : SiteGhosts S) → IsFaithful s k → map.contains_key k.loose id ≡ true → IsFaithful s sealed
  sealed_faithful s f loose = record {
    body = λ q h t g. split q id (λ e. no_head s h f loose (subst (λ n. map.get k.heads n ≡ Some (record_text h)) e g.head) g.reads)
        (λ off. f.body q h t (held_off q h t off g));
    facts = λ q h t g. split q id (λ e. no_head s h f loose (subst (λ n. map.get k.heads n ≡ Some (record_text h)) e g.head) g.reads)
        (λ off. f.facts q h t (held_off q h t off g));
    sealed = λ q h has reads. less_none k.loose id q (f.sealed q h has reads);
  }

  sealed_holds : (rows : Rows) → IsUnnamed rows id → Holds rows (stored k) → Holds rows (stored sealed)
  sealed_holds rows none a = record {
    each = λ path w at. let g = a.each path w at in
        record { head = g.head; text = g.text; good = good_off w.id g.head g.text (none.each path w at) g.good; alike = g.alike };
  }

  pub body_there : map.get sealed.bodies id ≡ Some text
  body_there = put_own k.bodies id text

-- the effect came, or nothing did
pub may_faithful : {S : Type 0} (s : SiteGhosts S) (k l : Kept) (id : ℕ) (text : List ℕ) → MayCome (Sealed id text) k l → IsFaithful s k
    → map.contains_key k.loose id ≡ true → IsFaithful s l
may_faithful s k l id text (inl is) f loose = subst (IsFaithful s) (sym is) (sealed_faithful k id text s f loose)
may_faithful s k l id text (inr is) f loose = subst (IsFaithful s) (sym is) f

pub may_holds : (rows : Rows) (k l : Kept) (id : ℕ) (text : List ℕ) → MayCome (Sealed id text) k l → IsUnnamed rows id
    → Holds rows (stored k) → Holds rows (stored l)
may_holds rows k l id text (inl is) none a = subst (λ (x : Kept). Holds rows (stored x)) (sym is) (sealed_holds k id text rows none a)
may_holds rows k l id text (inr is) none a = subst (λ (x : Kept). Holds rows (stored x)) (sym is) a

pub may_loose : (k l : Kept) (id : ℕ) (text : List ℕ) (q : ℕ) → MayCome (Sealed id text) k l → q ≢ id → map.contains_key k.loose q ≡ true
    → map.contains_key l.loose q ≡ true
may_loose k l id text q (inl is) off has = ap (λ (x : Kept). map.contains_key x.loose q) is ∙ ap is_some (less_off k.loose id q off) ∙ has
may_loose k l id text q (inr is) off has = ap (λ (x : Kept). map.contains_key x.loose q) is ∙ has
