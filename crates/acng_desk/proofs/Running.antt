-- What lists of calls and of events make of a desk, and what a stop in a call leaves.
use Rattle.std.proofs.Common.{◌≡◌, ◌≢◌, ◌⊎◌, ℕ, zero, suc, ◌+◌, ◌<◌, ◌≤◌, Bool, true, false, ◌||◌, List, [], ◌∷◌, ◌++◌, length, take}
use Rattle.std.proofs.Common.{Some, None, Option, is_some, cond, unwrap_or, refl, sym, ap, subst, ◌∙◌, inl, inr, arith}
use Rattle.std.proofs.Math.Seq.{take-length}
use mathlib.Core.Bool.{true≢false}
use Rattle.std.specs.FinMap as map
use Rattle.acng_base.specs.declared.clock.Moment.{Moment}
use Rattle.acng_class.specs.declared.class.Class.{Class}
use Rattle.acng_site.specs.declared.site.Site.{Ghosts as SiteGhosts}
use Rattle.acng_head.specs.declared.head.Head.{Head}
use Rattle.acng_keeper.specs.Kept.{Kept, stored, IsSound as IsKeeperSound}
use Rattle.acng_keeper.specs.Images.{IsImage}
use Rattle.acng_keeper.specs.Stops.{image_has}
use Rattle.acng_keeper.proofs.Unsealed.{image_apart}
use Rattle.acng_grow.specs.Events.{Body, Event, stepped, IsKept}
use Rattle.acng_grow.specs.Faithful.{IsFaithful}
use Rattle.acng_grow.specs.Grown.{Grown}
use Rattle.acng_grow.proofs.Fronts.{front_trans}
use Rattle.acng_grow.proofs.Growth.{bodies_grow}
use Rattle.acng_rows.specs.declared.row.Whole.{Whole}
use Rattle.acng_rows.specs.declared.stamp.Stamp.TheVariants.{Mark}
use Rattle.acng_rows.specs.Rows.{Rows, Row, Load, whole_in, whole_at, out_at, with_whole, without_whole, restamped, stamped_in}
use Rattle.acng_rows.specs.Goods.{IsExact, WasGood, HasHead, IsNamed, IsBetween, core_of}
use Rattle.acng_rows.proofs.Points.{tie, tied}
use Rattle.acng_rows.proofs.Changes.{rest_stops}
use Rattle.acng_rows.proofs.Seals.{alike_exact}
use Rattle.acng_rows.proofs.Wholes.{out-insert, out-remove, same_outs, same_wholes}
use Rattle.acng_desk.specs.declared.case.Case.{Case}
use Rattle.acng_desk.specs.declared.case.Case.TheVariants as case
use Rattle.acng_desk.specs.declared.ending.Ending.{Ending}
use Rattle.acng_desk.specs.declared.ending.Ending.TheVariants as ending
use Rattle.acng_desk.specs.House.{House, Plain, spot_at}
use Rattle.acng_desk.specs.Tickets.{Ticketed}
use Rattle.acng_desk.specs.Begins.{begin_case, let_in, led_row, is_full, HasRested}
use Rattle.acng_desk.specs.Settles.{is_out, end_of, ended, whole_after, part_after, left_rows}
use Rattle.acng_desk.specs.Commands.{Command, Begin, Settle, SetMark, Remove, NewBody, PutImport, Look, step, steps}
use Rattle.acng_desk.specs.Commands.{is_out_of_ids, imported, put_in}
use Rattle.acng_desk.specs.Keeps.{IsSound}
use Rattle.acng_desk.specs.Stops.{IsFile, StopsAt, IsFound}
use Rattle.acng_desk.specs.Laws.{IsQuiet, QuietCallsAnswer, RunsAreSteps, Spends, TicketsStay, StopsSurvive}
use Rattle.acng_desk.specs.Laws.{World, Happening, Call, Open, Befall, body_at, befallen, after_one, calls_of, MayBefall, May}
use Rattle.acng_desk.specs.Laws.{Stayed, BodiesStay}
use Rattle.acng_desk.proofs.Endings.{end_out}
use Rattle.acng_desk.proofs.Kepts.{file_is, from_so}
use Rattle.acng_desk.proofs.Stopped.{Alike}

-- ---- calls, one after the other

pub runs_are_steps : RunsAreSteps
runs_are_steps h k [] is = record { plain = ap (λ (x : House). x.plain) is; found = λ f. subst IsFound (sym is) f }
runs_are_steps h k (c ∷ cs) r =
    let rest = runs_are_steps r.0 k cs r.2 in
    record { plain = rest.plain ∙ ap (steps cs) r.1.plain; found = λ f. rest.found (r.1.exact f) }

let_alike : (e : Case) (path : List ℕ) (p : Plain) → Alike (let_in e path p).rows p.rows
let_alike case.Join path p q = refl
let_alike case.Keep path p q = refl
let_alike case.Offline path p q = refl
let_alike case.Full path p q = refl
let_alike case.Worn path p q = refl
let_alike case.Lead path p q = same_wholes p.rows path (led_row (spot_at p path)) refl q

made_alike : (p : Plain) (b : Bool) → Alike (cond b p (record p { next_id = p.next_id + 1 })).rows p.rows
made_alike p true q = refl
made_alike p false q = refl

quiet_alike : (c : Command) (p : Plain) → IsQuiet c → Alike (step c p).rows p.rows
quiet_alike (Begin path class now) p is q = let_alike (begin_case (spot_at p path) class now.0) path p q
quiet_alike (Settle ticket body) p is q = absurd is
quiet_alike (SetMark path mark) p is q = absurd is
quiet_alike (Remove path) p is q = absurd is
quiet_alike NewBody p is q = made_alike p (is_out_of_ids p) q
quiet_alike (PutImport path id hash size now) p is q = absurd is
quiet_alike Look p is q = refl

quiet_found : (c : Command) (old new : House) → IsQuiet c → new.plain ≡ step c old.plain → HasRested old.kept new.kept → IsFound old
    → IsFound new
quiet_found c old new quiet is rests found = subst (IsExact new.plain.rows) (sym rests.stored_is)
    (alike_exact old.plain.rows new.plain.rows (λ q. ap (λ (p : Plain). whole_at p.rows q) is ∙ quiet_alike c old.plain quiet q)
    (stored old.kept) found)

quiet_stops : {S : Type 0} (s : SiteGhosts S) (old new : House) → HasRested old.kept new.kept → StopsAt s old.plain.rows old new
quiet_stops s old new rests =
    let rest = rest_stops (IsFile s) old.plain.rows old.plain.rows old.kept in
    record { since = rest.since; trail = rests.trail_is ∙ rest.trail; now = rests.stored_is ∙ rest.now; each = rest.each }

pub quiet_calls_answer : {S : Type 0} (s : SiteGhosts S) → QuietCallsAnswer s
quiet_calls_answer s c old new quiet is rests = (
  record { plain = is; exact = λ found. quiet_found c old new quiet is rests found },
  quiet_stops s old new rests,
)

-- ---- one ticket a path

off_case : {X : Type 0} (q k : List ℕ) (x o : X) (b : Bool) → tie q k ≡ b → q ≢ k → cond b x o ≡ o
off_case q k x o true t not = absurd (not (tied q k t))
off_case q k x o false t not = refl

off_out : (rows : Rows) (k q : List ℕ) (r : Row) → q ≢ k → out_at (map.insert rows k r) q ≡ out_at rows q
off_out rows k q r not = out-insert rows k r q ∙ off_case q k r.out (out_at rows q) (tie q k) refl not

off_gone : (rows : Rows) (k q : List ℕ) → q ≢ k → out_at (map.remove rows k) q ≡ out_at rows q
off_gone rows k q not = out-remove rows k q ∙ off_case q k None (out_at rows q) (tie q k) refl not

left_by : (rows : Rows) (k q : List ℕ) (w : Option Whole) (b : Bool) → q ≢ k
    → out_at (cond b (map.insert rows k (record { whole = w; out = None })) (map.remove rows k)) q ≡ out_at rows q
left_by rows k q w true not = off_out rows k q (record { whole = w; out = None }) not
left_by rows k q w false not = off_gone rows k q not

left_out : (rows : Rows) (k q : List ℕ) (w : Option Whole) (stays : Bool) → q ≢ k → out_at (left_rows rows k w stays) q ≡ out_at rows q
left_out rows k q w stays not = left_by rows k q w (stays || is_some w) not

join_not : (b : Bool) (x : Case) → cond b case.Join x ≡ case.Lead → b ≡ false
join_not true x is = absurd (join_lead is)
  where
    join_lead : case.Join ≡ case.Lead → ⊥
    join_lead e = cc
join_not false x is = refl

join_is : (b : Bool) (x : Case) → b ≡ true → cond b case.Join x ≡ case.Join
join_is true x is = refl
join_is false x is = absurd (true≢false (sym is))

module _ (p : Plain) (path : List ℕ) (o : Load) (at : out_at p.rows path ≡ Some o) where
  begin_by : (q : List ℕ) (class : Class) (now : Moment) (e : Case) → begin_case (spot_at p q) class now.0 ≡ e
      → out_at (let_in e q p).rows path ≡ Some o
  begin_by q class now case.Join is = at
  begin_by q class now case.Keep is = at
  begin_by q class now case.Offline is = at
  begin_by q class now case.Full is = at
  begin_by q class now case.Worn is = at
  begin_by q class now case.Lead is =
      let free : is_some (out_at p.rows q) ≡ false = join_not (is_some (out_at p.rows q)) _ is in
      off_out p.rows q path (led_row (spot_at p q))
      (λ same. true≢false (sym (ap is_some at) ∙ ap (λ k. is_some (out_at p.rows k)) same ∙ free)) ∙ at

  settle_off : (t : Ticketed) (g : Grown) (e : Ending) → (Spends path o (Settle t g) → ⊥) → end_of (spot_at p g.path) t g ≡ e
      → e ≢ ending.Unknown → path ≢ g.path
  settle_off t g e free is known same =
      let out : is_out (out_at p.rows g.path) t.info ≡ true = (end_out (spot_at p g.path) t g e is known).0 in
      free (sym same, sym (ap (λ l. is_out l t.info) at) ∙ ap (λ k. is_out (out_at p.rows k) t.info) same ∙ out)

  settle_by : (t : Ticketed) (g : Grown) (e : Ending) → (Spends path o (Settle t g) → ⊥) → end_of (spot_at p g.path) t g ≡ e
      → out_at (ended e t g p).rows path ≡ Some o
  settle_by t g ending.Unknown free is = at
  settle_by t g ending.Keep free is =
      left_out p.rows g.path path (whole_after ending.Keep (spot_at p g.path) t g) false (settle_off t g ending.Keep free is (λ q. cc)) ∙ at
  settle_by t g ending.Same free is =
      left_out p.rows g.path path (whole_after ending.Same (spot_at p g.path) t g) false (settle_off t g ending.Same free is (λ q. cc)) ∙ at
  settle_by t g ending.Park free is =
      left_out p.rows g.path path (whole_in (map.get p.rows g.path)) (is_some (part_after ending.Park t g))
      (settle_off t g ending.Park free is (λ q. cc)) ∙ at
  settle_by t g ending.Back free is =
      left_out p.rows g.path path (whole_in (map.get p.rows g.path)) (is_some (part_after ending.Back t g))
      (settle_off t g ending.Back free is (λ q. cc)) ∙ at
  settle_by t g ending.Drop free is =
      left_out p.rows g.path path (whole_in (map.get p.rows g.path)) false (settle_off t g ending.Drop free is (λ q. cc)) ∙ at

  with_by : (q : List ℕ) (w : Option Whole) → out_at (with_whole p.rows q w) path ≡ Some o
  with_by q w = same_outs p.rows q (record { whole = w; out = out_at p.rows q }) refl path ∙ at

  mark_by : (q : List ℕ) (mark : Option Moment) (b : Bool)
      → out_at (cond b (record p { rows = restamped (Mark mark) p.rows q }) p).rows path ≡ Some o
  mark_by q mark true = with_by q (stamped_in (Mark mark) (whole_at p.rows q))
  mark_by q mark false = at

  gone_by : (q : List ℕ) (b : Bool) → is_some (out_at p.rows q) ≡ b
      → out_at (cond b (with_whole p.rows q None) (map.remove p.rows q)) path ≡ Some o
  gone_by q true is = with_by q None
  gone_by q false is = off_gone p.rows q path
      (λ same. true≢false (sym (ap is_some at) ∙ ap (λ k. is_some (out_at p.rows k)) same ∙ is)) ∙ at

  remove_by : (q : List ℕ) (b : Bool)
      → out_at (cond b (record p { rows = without_whole p.rows q; parts = map.remove p.parts q }) p).rows path ≡ Some o
  remove_by q true = gone_by q (is_some (out_at p.rows q)) refl
  remove_by q false = at

  made_by : (b : Bool) → out_at (cond b p (record p { next_id = p.next_id + 1 })).rows path ≡ Some o
  made_by true = at
  made_by false = at

  put_by : (q : List ℕ) (w : Whole) (b : Bool) → out_at (cond b p (put_in q w p)).rows path ≡ Some o
  put_by q w true = at
  put_by q w false = with_by q (Some w)

  one : (c : Command) → (Spends path o c → ⊥) → out_at (step c p).rows path ≡ Some o
  one (Begin q class now) free = begin_by q class now (begin_case (spot_at p q) class now.0) refl
  one (Settle t g) free = settle_by t g (end_of (spot_at p g.path) t g) free refl
  one (SetMark q mark) free = mark_by q mark (is_some (whole_at p.rows q))
  one (Remove q) free = remove_by q (is_some (whole_at p.rows q))
  one NewBody free = made_by (is_out_of_ids p)
  one (PutImport q id hash size now) free = put_by q (imported id hash size now) (is_full (spot_at p q))
  one Look free = at

pub tickets_stay : TicketsStay
tickets_stay [] p path o at free = record { out = at; joins = λ class now. join_is (is_some (out_at p.rows path)) _ (ap is_some at) }
tickets_stay (c ∷ cs) p path o at free = tickets_stay cs (step c p) path o (one p path o at c free.0) free.1

-- ---- bodies

append_at : (bs : List Body) (c : Body) (i : ℕ) (b : Body) → body_at bs i ≡ Some b → body_at (bs ++ c ∷ []) i ≡ Some b
append_at [] c i b is = absurd (true≢false (sym (ap is_some is)))
append_at (x ∷ xs) c zero b is = is
append_at (x ∷ xs) c (suc i) b is = append_at xs c i b is

module _ {S : Type 0} (s : SiteGhosts S) where
  here : (b : Body) (bodies : List Body) (i : ℕ) → body_at bodies i ≡ Some b → IsKept s b → Stayed s b bodies i
  here b bodies i is kept = record { later = b; at = is; kept = kept; path = refl; grows = take-length b.text }

  befell : (b : Body) (e : Event) → MayBefall s (b ∷ []) zero e → IsKept s b → Stayed s b (stepped b e ∷ []) zero
  befell b e may kept =
      let g = bodies_grow s 0 (e ∷ []) b (stepped b e) _ kept (may, (refl, refl)) in
      record { later = stepped b e; at = refl; kept = g.kept; path = g.path; grows = g.grows }

  some_body : (x b : Body) → Some x ≡ Some b → x ≡ b
  some_body x b is = ap (λ o. unwrap_or o x) is

  befallen_at : (bs : List Body) (i : ℕ) (e : Event) (j : ℕ) (b : Body) → MayBefall s bs i e → body_at bs j ≡ Some b → IsKept s b
      → Stayed s b (befallen bs i e) j
  befallen_at [] i e j b may is kept = absurd (true≢false (sym (ap is_some is)))
  befallen_at (x ∷ xs) zero e zero b may is kept =
      let same : x ≡ b = some_body x b is in
      let r = befell x e may (subst (IsKept s) (sym same) kept) in
      record {
        later = r.later;
        at = r.at;
        kept = r.kept;
        path = r.path ∙ ap (λ (y : Body). y.path) same;
        grows = subst (λ (y : Body). take (length y.text) r.later.text ≡ y.text) same r.grows;
      }
  befallen_at (x ∷ xs) zero e (suc j) b may is kept = let r = here b xs j is kept in
      record { later = r.later; at = r.at; kept = r.kept; path = r.path; grows = r.grows }
  befallen_at (x ∷ xs) (suc i) e zero b may is kept = record { later = b; at = is; kept = kept; path = refl; grows = take-length b.text }
  befallen_at (x ∷ xs) (suc i) e (suc j) b may is kept = let r = befallen_at xs i e j b may is kept in
      record { later = r.later; at = r.at; kept = r.kept; path = r.path; grows = r.grows }

  one_stays : (w : World) (x : Happening) (i : ℕ) (b : Body) → May s w x → body_at w.bodies i ≡ Some b → IsKept s b
      → Stayed s b (after_one w x).bodies i
  one_stays w (Call c) i b may is kept = here b w.bodies i is kept
  one_stays w (Open c) i b may is kept = here b (w.bodies ++ c ∷ []) i (append_at w.bodies c i b is) kept
  one_stays w (Befall j e) i b may is kept = befallen_at w.bodies j e i b may is kept

  first_row : (w : World) (x : Happening) (xs : List Happening)
      → steps (calls_of xs) (after_one w x).plain ≡ steps (calls_of (x ∷ xs)) w.plain
  first_row w (Call c) xs = refl
  first_row w (Open b) xs = refl
  first_row w (Befall i e) xs = refl

  pub bodies_stay : BodiesStay s
  bodies_stay w [] may = record { rows = refl; bodies = λ i b is kept. here b w.bodies i is kept }
  bodies_stay w (x ∷ xs) may =
      let rest = bodies_stay (after_one w x) xs may.1 in
      record {
        rows = rest.rows ∙ first_row w x xs;
        bodies = λ i b is kept.
            let one = one_stays w x i b may.0 is kept in
            let more = rest.bodies i one.later one.at one.kept in
            record {
              later = more.later;
              at = more.at;
              kept = more.kept;
              path = more.path ∙ one.path;
              grows = front_trans b.text one.later.text more.later.text one.grows more.grows;
            };
      }

-- ---- a stop in a call

module _ {S : Type 0} (s : SiteGhosts S) (tells : Bool) (h : House) (a : IsSound s tells h) (keeper : IsKeeperSound h.plain.next_id h.kept)
    (told : tells ≡ true) (new : House) (rows : Rows) (image : Kept) (stops : StopsAt s rows h new)
    (i : IsImage h.kept new.kept h.plain.next_id new.plain.next_id image) where
  between : IsBetween (IsFile s) h.plain.rows rows (stored h.kept) (stored image)
  between = image_has stops i

  file_by : (id : ℕ) (hd : Head) (text : List ℕ) → WasGood (stored h.kept) id hd text ⊎ IsFile s (core_of hd) text
      → IsFile s (core_of hd) text
  file_by id hd text (inl w) = subst (λ c. IsFile s c text) w.alike (file_is s h.kept id w.was text (a.kept told).faithful w.good)
  file_by id hd text (inr c) = c

  -- a head that was there is of a body that wasn't unsealed, and isn't of one that was made since
  old_sealed : (id : ℕ) → HasHead (stored h.kept) id → (b : Bool) → map.contains_key image.loose id ≡ b → b ≡ false
  old_sealed id had false is = refl
  old_sealed id had true is = by (i.loose id is)
    where
      by : (map.contains_key h.kept.loose id ≡ true) ⊎ ((h.plain.next_id ≤ id) × (id < new.plain.next_id)) → true ≡ false
      by (inl loose) = sym loose ∙ (a.kept told).faithful.sealed id had.head had.at had.reads
      by (inr late) = let low : id + 1 ≤ h.plain.next_id = keeper.heads.each id (ap is_some had.at) in
          absurd (omega (arith, low, late.0))

  sealed_by : (id : ℕ) → HasHead (stored h.kept) id ⊎ (IsNamed rows id × (map.contains_key image.bodies id ≡ true))
      → map.contains_key image.loose id ≡ false
  sealed_by id (inl had) = old_sealed id had (map.contains_key image.loose id) refl
  sealed_by id (inr n) = (image_apart h.kept new.kept image h.plain.next_id new.plain.next_id keeper i).each id n.1

  pub image_faithful : IsFaithful s image
  image_faithful = from_so s image (record {
    good = λ id hd text g. file_by id hd text (between.goods.each id hd text g);
    sealed = record {
      each = λ id hd has reads. sealed_by id ((between.heads (a.kept told).holds).each id (record { head = hd; at = has; reads = reads }));
    };
  })

pub stops_survive : {S : Type 0} (s : SiteGhosts S) (tells : Bool) (h : House) → IsSound s tells h → IsKeeperSound h.plain.next_id h.kept
    → tells ≡ true → StopsSurvive s h
stops_survive s tells h a keeper told new rows image stops i =
    let b : IsBetween (IsFile s) h.plain.rows rows (stored h.kept) (stored image) = image_has stops i in
    record {
      faithful = image_faithful s tells h a keeper told new rows image stops i;
      holds = b.holds (a.kept told).holds;
      found = λ f. b.stands f;
    }
