-- The steps of holding a new whole body.
use Rattle.std.proofs.Common.{◌≡◌, ℕ, ◌<◌, Bool, true, false, List, length, Some, None, Option, unwrap_or}
use Rattle.std.proofs.Common.{refl, sym, ap, subst, ◌∙◌, inl, inr, arith}
use Rattle.std.specs.Option.{option_map, IfSome}
use Rattle.std.specs.FinMap as map
use Rattle.acng_site.specs.declared.site.Site.{Ghosts as SiteGhosts}
use Rattle.acng_keeper.specs.declared.effect.Effect.TheVariants.{Sealed}
use Rattle.acng_keeper.specs.Kept.{Kept, stored, Comes, MayCome}
use Rattle.acng_keeper.specs.Images.{LeavesOnly}
use Rattle.acng_grow.specs.Faithful.{IsFaithful}
use Rattle.acng_grow.specs.Grown.{File, number_in, text_in}
use Rattle.acng_rows.specs.declared.row.Whole.{Whole}
use Rattle.acng_rows.specs.Rows.{Rows, Load, head_of, whole_at, out_at, with_whole, closed}
use Rattle.acng_rows.specs.Goods.{AreHeld, AreSealed, core_of, HasBody, IsBetween, IsExact, IsUnnamed, whole_comes}
use Rattle.acng_rows.proofs.Faithful.{faithful_between}
use Rattle.acng_rows.proofs.Seals.{seal_stops, mid_exact, mid_held, since_stops, stops_alike}
use Rattle.acng_desk.specs.House.{House}
use Rattle.acng_desk.specs.Keeps.{Held, Fresh, Carried, join, IsSound}
use Rattle.acng_desk.specs.Settles.{HasOwn, left_rows}
use Rattle.acng_desk.proofs.Kepts.{held_of, sealed_of, to_so, from_so}
use Rattle.acng_desk.specs.Stops.{IsFile}
use Rattle.acng_desk.proofs.Lefts.{own_had}
use Rattle.acng_desk.proofs.Seals.{may_faithful, may_holds, body_there}
use Rattle.acng_desk.proofs.Holdings.{own_loose, exact_closed}
use Rattle.acng_desk.proofs.Stopped.{with_alike}

pub own_below : {S : Type 0} (s : SiteGhosts S) (tells : Bool) (h : House) (path : List ℕ) (id : ℕ) → IsSound s tells h
    → HasOwn (out_at h.plain.rows path) id → id < h.plain.next_id
own_below s tells h path id a own = let had = own_had h.plain path id own in a.plain.below.each path had.role id had.at

pub own_unnamed : {S : Type 0} (s : SiteGhosts S) (tells : Bool) (h : House) (path : List ℕ) (id : ℕ) → IsSound s tells h
    → HasOwn (out_at h.plain.rows path) id → IsUnnamed h.plain.rows id
own_unnamed s tells h path id a own = record { each = λ q w at same. by (out_at h.plain.rows path) refl own q w at same }
  where
    held_fresh : Held ≡ Fresh → ⊥
    held_fresh e = cc

    held_carried : Held ≡ Carried → ⊥
    held_carried e = cc

    by : (o : Option Load) → out_at h.plain.rows path ≡ o → HasOwn o id → (q : List ℕ) (w : Whole) → whole_at h.plain.rows q ≡ Some w
        → w.id ≡ id → ⊥
    by None e none q w at same = absurd none
    by (Some o) e (inl is) q w at same = held_fresh (a.plain.apart.each q path Held Fresh id
        (ap (option_map (λ (x : Whole). x.id)) at ∙ ap (λ n. Some n) same) (ap (option_map (λ (l : Load). l.fresh)) e
        ∙ ap (λ n. Some n) is)).1
    by (Some o) e (inr is) q w at same = held_carried (a.plain.apart.each q path Held Carried id
        (ap (option_map (λ (x : Whole). x.id)) at ∙ ap (λ n. Some n) same) (ap (λ (x : Option Load). join x (λ l. l.part)) e ∙ is)).1

-- what is said of the file's number and bytes
pub of_file : (P : ℕ → List ℕ → Type 0) (o : Option File) (id : ℕ) → number_in o ≡ Some id → IfSome o (λ f. P f.0.number f.0.bytes)
    → P id (text_in o)
of_file P None id is may = absurd (no_none is)
  where
    no_none : None ≡ Some id → ⊥
    no_none e = cc
of_file P (Some f) id is may = subst (λ n. P n f.0.bytes) (ap (λ o. unwrap_or o id) is) may

pub file_below : (o : Option File) (id n : ℕ) → number_in o ≡ Some id → id < n → IfSome o (λ f. f.0.number < n)
file_below None id n is small = tt
file_below (Some f) id n is small = let e : f.0.number ≡ id = ap (λ o. unwrap_or o id) is in omega (arith, e, small)

-- the rows are held where the body was sealed
pub sealed_held : {S : Type 0} (s : SiteGhosts S) (tells : Bool) (h : House) (path : List ℕ) (id next : ℕ) (text : List ℕ) (k : Kept)
    → IsSound s tells h → HasOwn (out_at h.plain.rows path) id
    → next ≡ h.plain.next_id → (tells ≡ true → MayCome (Sealed id text) h.kept k) → AreHeld tells next h.plain.rows k
sealed_held s tells h path id next text k a own is may =
    let was = held_of s tells h a in
    record {
      heads = was.heads;
      below = λ q w at. subst (λ n. w.id < n) (sym is) (was.below q w at);
      apart = was.apart;
      holds = λ told. may_holds h.plain.rows h.kept k id text (may told) (own_unnamed s tells h path id a own) (was.holds told);
    }

pub has_body : (k l : Kept) (w : Whole) (text : List ℕ) → Comes (Sealed w.id text) k l → length text ≡ w.size → HasBody l w
has_body k l w text is size = record {
  text = text;
  body = ap (λ (x : Kept). map.get x.bodies w.id) is ∙ body_there k w.id text;
  size =
      size;
}

text_is : (k l : Kept) (w : Whole) (text other : List ℕ) → Comes (Sealed w.id text) k l → map.get l.bodies w.id ≡ Some other → text ≡ other
text_is k l w text other is has =
    let e : Some text ≡ Some other = sym (ap (λ (x : Kept). map.get x.bodies w.id) is ∙ body_there k w.id text) ∙ has in
    ap (λ o. unwrap_or o text) e

-- the keeper is faithful when the head was put, whatever was refused behind it
pub held_faithful : {S : Type 0} (s : SiteGhosts S) (tells : Bool) (h : House) (path : List ℕ) (w : Whole) (text : List ℕ) (k l : Kept)
    (new : Rows) → IsSound s tells h → tells ≡ true
    → HasOwn (out_at h.plain.rows path) w.id → Comes (Sealed w.id text) h.kept k → IsFile s (core_of (head_of path w)) text
    → LeavesOnly (IsBetween (whole_comes path w k) h.plain.rows new (stored k)) k l → (AreSealed k → AreSealed l) → IsFaithful s l
held_faithful s tells h path w text k l new a told own is file left sealed =
    let loose = own_loose h.kept h.plain.rows h.plain.parts path w.id (a.kept told).loose own in
    let f : IsFaithful s k = may_faithful s h.kept k w.id text (inl is) (a.kept told).faithful loose in
    from_so s l (faithful_between (IsFile s) (whole_comes path w k) h.plain.rows new k l left
    (λ core other comes. subst (λ c. IsFile s c other) (sym comes.0)
    (subst (IsFile s (core_of (head_of path w))) (text_is h.kept k w text other is comes.1) file))
    (sealed (sealed_of s k f)) (to_so s k f))

-- ---- at any stop

-- the body may have been sealed
pub sealed_stops : {S : Type 0} (s : SiteGhosts S) (tells : Bool) (h : House) (path : List ℕ) (id : ℕ) (text : List ℕ) (k : Kept)
    (new : Rows)
    → IsSound s tells h → tells ≡ true → HasOwn (out_at h.plain.rows path) id → MayCome (Sealed id text) h.kept k
    → LeavesOnly (IsBetween (IsFile s) h.plain.rows new (stored h.kept)) h.kept k
sealed_stops s tells h path id text k new a told own may =
    seal_stops h.kept id text (sealed_of s h.kept (a.kept told).faithful)
    (own_loose h.kept h.plain.rows h.plain.parts path id (a.kept told).loose own) k may (IsFile s) h.plain.rows new

-- it was sealed, and then held
pub held_stops : {S : Type 0} (s : SiteGhosts S) (tells : Bool) (h : House) (path : List ℕ) (w : Whole) (text : List ℕ) (k l : Kept)
    → IsSound s tells h → tells ≡ true → HasOwn (out_at h.plain.rows path) w.id → Comes (Sealed w.id text) h.kept k
    → IsFile s (core_of (head_of path w)) text
    → LeavesOnly (IsBetween (whole_comes path w k) h.plain.rows (with_whole h.plain.rows path (Some w)) (stored k)) k l
    → LeavesOnly (IsBetween (IsFile s) h.plain.rows (left_rows h.plain.rows path (Some w) false) (stored h.kept)) h.kept l
held_stops s tells h path w text k l a told own is file left =
    let rows = h.plain.rows in
    let new = left_rows rows path (Some w) false in
    let sealed = sealed_of s h.kept (a.kept told).faithful in
    let loose = own_loose h.kept rows h.plain.parts path w.id (a.kept told).loose own in
    since_stops (IsFile s) rows new h.kept k l
    (seal_stops h.kept w.id text sealed loose k (inl is) (IsFile s) rows rows)
    (mid_exact h.kept w.id text sealed loose k (inl is) rows)
    (mid_held h.kept w.id text sealed loose k (inl is) rows)
    (stops_alike (whole_comes path w k) (IsFile s) rows rows (with_whole rows path (Some w)) new (stored k) k l (λ q. refl)
    (with_alike rows path (Some w) false)
    (λ core other comes. subst (λ c. IsFile s c other) (sym comes.0)
    (subst (IsFile s (core_of (head_of path w))) (text_is h.kept k w text other is comes.1) file)) left)

-- a start finds the new rows
pub held_found : {S : Type 0} (s : SiteGhosts S) (tells : Bool) (h : House) (path : List ℕ) (w : Whole) (text : List ℕ) (k l : Kept)
    (m : Rows)
    → IsSound s tells h → tells ≡ true → HasOwn (out_at h.plain.rows path) w.id → Comes (Sealed w.id text) h.kept k
    → (IsExact h.plain.rows (stored k) → IsExact m (stored l)) → IsExact h.plain.rows (stored h.kept)
    → IsExact (closed m path false) (stored l)
held_found s tells h path w text k l m a told own is exact found =
    exact_closed m path (stored l) (exact (mid_exact h.kept w.id text (sealed_of s h.kept (a.kept told).faithful)
    (own_loose h.kept h.plain.rows h.plain.parts path w.id (a.kept told).loose own) k (inl is) h.plain.rows found))
