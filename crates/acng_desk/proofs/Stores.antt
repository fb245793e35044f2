-- What the keeper has of a desk, where heads and bodies stay.
use Rattle.std.proofs.Common.{◌≡◌, ◌≢◌, ◌==◌, ℕ, ◌+◌, ◌≤◌, Bool, true, false, List, Some, is_some, cond, refl}
use Rattle.std.proofs.Common.{sym, ap, subst, ◌∙◌, arith}
use Rattle.std.specs.FinMap as map
use Rattle.std.specs.Cmp.{nat_cmp_total, unsigned_tied}
use Rattle.acng_site.specs.declared.site.Site.{Ghosts as SiteGhosts}
use Rattle.acng_head.specs.declared.head.Head.{Head}
use Rattle.acng_head.specs.Records.{record_text}
use Rattle.acng_keeper.specs.Kept.{Kept, Stored, stored, with_loose, IdsBelow as KeysBelow}
use Rattle.acng_keeper.specs.Slips.{Faults}
use Rattle.acng_grow.specs.Faithful.{IsHeldAs, IsFaithful}
use Rattle.acng_rows.specs.Goods.{Holds}
use Rattle.acng_desk.specs.House.{Plain, House}
use Rattle.acng_desk.specs.Keeps.{IsKept, IsSound}

held_same : (k l : Kept) (id : ℕ) (h : Head) (text : List ℕ) → stored l ≡ stored k → IsHeldAs l id h text → IsHeldAs k id h text
held_same k l id h text same g = record {
  head = sym (ap (λ (t : Stored). map.get t.heads id) same) ∙ g.head;
  reads = g.reads;
  body = sym (ap (λ (t : Stored). map.get t.bodies id) same) ∙ g.body;
  size = g.size;
}

pub faithful_same : {S : Type 0} (s : SiteGhosts S) (k l : Kept) → stored l ≡ stored k
    → ((id : ℕ) → map.contains_key k.heads id ≡ true → map.contains_key l.loose id ≡ map.contains_key k.loose id)
    → IsFaithful s k → IsFaithful s l
faithful_same s k l same loose f = record {
  body = λ id h text g. f.body id h text (held_same k l id h text same g);
  facts = λ id h text g. f.facts id h text (held_same k l id h text same g);
  sealed = λ id h has reads.
      let was : map.get k.heads id ≡ Some (record_text h) = sym (ap (λ (t : Stored). map.get t.heads id) same) ∙ has in
      loose id (ap is_some was) ∙ f.sealed id h was reads;
}

-- a call without an effect, by which no unsealed body came
pub kept_same : {S : Type 0} (s : SiteGhosts S) (p : Plain) (k l : Kept) → stored l ≡ stored k → l.loose ≡ k.loose → IsKept s p k
    → IsKept s p l
kept_same s p k l same loose a = record {
  holds = subst (Holds p.rows) (sym same) a.holds;
  loose = record { each = λ path r id not at. ap (λ m. map.contains_key m id) loose ∙ a.loose.each path r id not at };
  faithful = faithful_same s k l same (λ id has. ap (λ m. map.contains_key m id) loose) a.faithful;
}

pub sound_same : {S : Type 0} (s : SiteGhosts S) (tells : Bool) (p : Plain) (k l : Kept) (f g : Faults)
    → (tells ≡ true → stored l ≡ stored k) → (tells ≡ true → l.loose ≡ k.loose)
    → IsSound s tells (record { plain = p; kept = k; faults = f }) → IsSound s tells (record { plain = p; kept = l; faults = g })
sound_same s tells p k l f g same loose a = record {
  told = a.told;
  plain = a.plain;
  kept = λ t. kept_same s p k l (same t) (loose t) (a.kept t);
}

-- the next id is the same
pub sound_next : {S : Type 0} (s : SiteGhosts S) (tells : Bool) (h : House) (k : Kept) (f : Faults) (n : ℕ) → n ≡ h.plain.next_id
    → (tells ≡ true → stored k ≡ stored h.kept) → (tells ≡ true → k.loose ≡ h.kept.loose) → IsSound s tells h
    → IsSound s tells (record { plain = record h.plain { next_id = n }; kept = k; faults = f })
sound_next s tells h k f n is same loose a =
    subst (λ m. IsSound s tells (record { plain = record h.plain { next_id = m }; kept = k; faults = f })) (sym is)
    (sound_same s tells h.plain h.kept k h.faults f same loose a)

-- ---- a new body

module _ (k l : Kept) (new : ℕ) (is : l ≡ with_loose new k) where
  loose_by : (id : ℕ) → map.contains_key l.loose id ≡ is_some (cond (id == new) (Some tt) (map.get k.loose id))
  loose_by id = ap (λ (x : Kept). map.contains_key x.loose id) is
      ∙ ap is_some (map.get-insert nat_cmp_total k.loose new tt id ∙ ap (λ b. cond b (Some tt) (map.get k.loose id)) (unsigned_tied id new))

  in_case : (id : ℕ) (b : Bool) → is_some (map.get k.loose id) ≡ true → is_some (cond b (Some tt) (map.get k.loose id)) ≡ true
  in_case id true has = refl
  in_case id false has = has

  pub still_loose : (id : ℕ) → map.contains_key k.loose id ≡ true → map.contains_key l.loose id ≡ true
  still_loose id has = loose_by id ∙ in_case id (id == new) has

  pub new_loose : map.contains_key l.loose new ≡ true
  new_loose = let e : (new == new) ≡ true = grind arith in loose_by new ∙ ap (λ b. is_some (cond b (Some tt) (map.get k.loose new))) e

  pub other_loose : (id : ℕ) → id ≢ new → map.contains_key l.loose id ≡ map.contains_key k.loose id
  other_loose id not = let e : (id == new) ≡ false = grind (arith, not) in loose_by id
      ∙ ap (λ b. is_some (cond b (Some tt) (map.get k.loose id))) e

  pub made_faithful : {S : Type 0} (s : SiteGhosts S) → KeysBelow new k.heads → IsFaithful s k → IsFaithful s l
  made_faithful s below f = faithful_same s k l (ap stored is)
      (λ id has. other_loose id (λ e. let b : id + 1 ≤ new = below.each id has in absurd (omega (arith, b, e)))) f
