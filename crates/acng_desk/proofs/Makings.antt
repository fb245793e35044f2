-- What a desk keeps where a body is made.
use Rattle.std.proofs.Common.{◌≡◌, ◌⊎◌, inl, inr, ℕ, ◌+◌, Bool, true, Result, Ok, Err, OnOk}
use Rattle.std.proofs.Common.{IfOk, sym, ap, subst, arith}
use Rattle.acng_site.specs.declared.site.Site.{Ghosts as SiteGhosts}
use Rattle.acng_keeper.specs.Kept.{Kept, stored, with_loose, IdsBelow as KeysBelow}
use Rattle.acng_keeper.specs.Slips.{Faults}
use Rattle.acng_keeper.specs.declared.slip.KeepFault.{KeepFault}
use Rattle.acng_keeper.specs.declared.slip.KeepFault.TheVariants.{Slip, NoMemory}
use Rattle.acng_rows.specs.Goods.{Holds}
use Rattle.acng_desk.specs.House.{House}
use Rattle.acng_desk.specs.Keeps.{IsSound}
use Rattle.acng_desk.specs.Calls.{IsSpare, put_result}
use Rattle.acng_desk.proofs.Stores.{still_loose, new_loose, made_faithful, sound_next}

module _ {S : Type 0} (s : SiteGhosts S) (tells : Bool) (h : House) (k : Kept) (f : Faults) (n : ℕ) (a : IsSound s tells h)
    (is : n ≡ h.plain.next_id + 1)
    (come : tells ≡ true → k ≡ with_loose h.plain.next_id h.kept) where
  pub made_sound : (tells ≡ true → KeysBelow h.plain.next_id h.kept.heads)
      → IsSound s tells (record { plain = record h.plain { next_id = n }; kept = k; faults = f })
  made_sound below = record {
    told = a.told;
    plain = record {
      heads = a.plain.heads;
      tries = a.plain.tries;
      below = record { each = λ path r id at. omega (arith, is, a.plain.below.each path r id at) };
      apart = a.plain.apart;
      stand = a.plain.stand;
      few = a.plain.few;
      few_parts = a.plain.few_parts;
    };
    kept = λ told. record {
      holds = subst (Holds h.plain.rows) (sym (ap stored (come told))) (a.kept told).holds;
      loose = record {
        each = λ path r id not at. still_loose h.kept k h.plain.next_id (come told) id
            ((a.kept told).loose.each path r id not at);
      };
      faithful = made_faithful h.kept k h.plain.next_id (come told) s (below told) (a.kept told).faithful;
    };
  }

  pub made_spare : IsSpare tells (record { plain = record h.plain { next_id = n }; kept = k; faults = f }) h.plain.next_id
  made_spare = record {
    nobodys = record { each = λ path r at. absurd (omega (arith, a.plain.below.each path r h.plain.next_id at)) };
    below = omega (arith, is);
    loose = λ told. new_loose h.kept k h.plain.next_id (come told);
  }

-- a body was made, or nothing
pub may_sound : {S : Type 0} (s : SiteGhosts S) (tells : Bool) (h : House) (k : Kept) (f : Faults) (n : ℕ) → IsSound s tells h
    → (tells ≡ true → KeysBelow h.plain.next_id h.kept.heads)
    → ((n ≡ h.plain.next_id + 1) × (tells ≡ true → k ≡ with_loose h.plain.next_id h.kept)) ⊎ ((n ≡ h.plain.next_id) × (k ≡ h.kept))
    → IsSound s tells (record { plain = record h.plain { next_id = n }; kept = k; faults = f })
may_sound s tells h k f n a below (inl is) = made_sound s tells h k f n a is.0 is.1 below
may_sound s tells h k f n a below (inr is) = sound_next s tells h k f n is.0 (λ told. ap stored is.1)
    (λ told. ap (λ (x : Kept). x.loose) is.1) a

-- the id that was given is nobody's
pub spare_result : {X P S : Type 0} (id_of : X → ℕ) (r : Result X (KeepFault P)) (s : SiteGhosts S) (tells : Bool) (h : House) (k : Kept)
    (f : Faults) (n : ℕ) → IsSound s tells h
    → OnOk r (n ≡ h.plain.next_id + 1) → OnOk r (tells ≡ true → k ≡ with_loose h.plain.next_id h.kept)
    → IfOk r (λ x. id_of x ≡ h.plain.next_id)
    → IfOk (put_result r) (λ x. IsSpare tells (record { plain = record h.plain { next_id = n }; kept = k; faults = f }) (id_of x))
spare_result id_of (Ok x) s tells h k f n a is come id =
    subst (IsSpare tells (record { plain = record h.plain { next_id = n }; kept = k; faults = f })) (sym id)
    (made_spare s tells h k f n a is come)
spare_result id_of (Err (Slip p)) s tells h k f n a is come id = tt
spare_result id_of (Err NoMemory) s tells h k f n a is come id = tt
