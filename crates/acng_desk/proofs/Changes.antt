-- What a desk keeps where the row and the partial body of one path are put in the place of others.
use Rattle.std.proofs.Common.{◌≡◌, ◌≢◌, ◌⊎◌, ℕ, ◌+◌, ◌<◌, ◌≤◌, Bool, true, false, List, Some, None, Option, is_some, cond, refl, sym, ap}
use Rattle.std.proofs.Common.{subst, ◌∙◌, inl, inr, arith}
use Rattle.std.specs.Option.{option_map}
use mathlib.Core.Bool.{true≢false}
use Rattle.std.specs.FinMap as map
use Rattle.acng_site.specs.declared.site.Site.{Ghosts as SiteGhosts}
use Rattle.acng_head.specs.declared.head.Label.{Label}
use Rattle.acng_head.specs.declared.head.Label.TheVariants.{Fetched, Imported}
use Rattle.acng_head.specs.Records.{IsHead}
use Rattle.acng_conf.specs.Settings.{Rules}
use Rattle.acng_rows.specs.declared.row.Whole.{Whole}
use Rattle.acng_rows.specs.Rows.{Rows, Row, Load, head_of, whole_in, out_in, whole_at, out_at}
use Rattle.acng_rows.specs.Starts.{NamesBelow}
use Rattle.acng_rows.proofs.Points.{tie, tied, untied}
use Rattle.acng_desk.specs.House.{Parked, Parts, most_parts}
use Rattle.acng_desk.specs.Keeps.{Role, Held, Fresh, Carried, Resting, join, id_at, IsPlain, IsParked}

pub no_some : {X : Type 0} {P : Type 0} (x : X) → None ≡ Some x → P
no_some x is = absurd (true≢false (sym (ap is_some is)))

pub later : (n m : ℕ) (l : Label) → n ≤ m → NamesBelow n l → NamesBelow m l
later n m (Fetched first last) le below = omega (arith, le, below)
later n m (Imported hash size) le below = tt

-- the id of a role in a row with a partial body
abbrev pub id_in : Option Row → Option Parked → Role → Option ℕ
id_in row part Held = option_map (λ (w : Whole). w.id) (whole_in row)
id_in row part Fresh = option_map (λ (o : Load). o.fresh) (out_in row)
id_in row part Carried = join (out_in row) (λ o. o.part)
id_in row part Resting = option_map (λ (p : Parked). p.handle.number) part

pub at_path : (rows : Rows) (parts : Parts) (path : List ℕ) (r : Role)
    → id_at rows parts path r ≡ id_in (map.get rows path) (map.get parts path) r
at_path rows parts path Held = refl
at_path rows parts path Fresh = refl
at_path rows parts path Carried = refl
at_path rows parts path Resting = refl

-- one path has this row and this partial body now; the others have what they had
pub record Changes (rows rows' : Rows) (parts parts' : Parts) (path : List ℕ) (row : Option Row) (part : Option Parked) : Type 0 where
  pub rows_at : (q : List ℕ) → map.get rows' q ≡ cond (tie q path) row (map.get rows q)
  pub parts_at : (q : List ℕ) → map.get parts' q ≡ cond (tie q path) part (map.get parts q)

-- row and partial body fit the rest
pub record FitsAt {S : Type 0} (s : SiteGhosts S) (tells : Bool) (next_try next_id : ℕ) (rows : Rows) (parts : Parts) (path : List ℕ)
    (row : Option Row) (part : Option Parked) : Type 0 where
  pub heads : (w : Whole) → whole_in row ≡ Some w → IsHead (head_of path w)
  pub tries : (w : Whole) → whole_in row ≡ Some w → NamesBelow next_try w.label
  pub part_tries : (p : Parked) → part ≡ Some p → NamesBelow next_try p.label
  pub out_tries : (o : Load) → out_in row ≡ Some o → o.first + 16 ≤ next_try
  pub below : (r : Role) (id : ℕ) → id_in row part r ≡ Some id → id < next_id
  pub foreign : (r t : Role) (q : List ℕ) (id : ℕ) → q ≢ path → id_in row part r ≡ Some id → id_at rows parts q t ≢ Some id
  pub own : (r t : Role) (id : ℕ) → id_in row part r ≡ Some id → id_in row part t ≡ Some id → r ≡ t
  pub parked : (p : Parked) → part ≡ Some p → IsParked s tells path p
  pub rowed : (p : Parked) → part ≡ Some p → is_some row ≡ true
  pub free : (p : Parked) → part ≡ Some p → out_in row ≡ None

pub record Here (rows' : Rows) (parts' : Parts) (path : List ℕ) (row : Option Row) (part : Option Parked) (q : List ℕ) : Type 0 where
  pub is : q ≡ path
  pub row_is : map.get rows' q ≡ row
  pub part_is : map.get parts' q ≡ part

pub record There (rows rows' : Rows) (parts parts' : Parts) (path q : List ℕ) : Type 0 where
  pub isnt : q ≢ path
  pub row_is : map.get rows' q ≡ map.get rows q
  pub part_is : map.get parts' q ≡ map.get parts q

pub here_id : (rows rows' : Rows) (parts parts' : Parts) (path : List ℕ) (row : Option Row) (part : Option Parked) (q : List ℕ) (r : Role)
    (id : ℕ) → Here rows' parts' path row part q → id_at rows' parts' q r ≡ Some id → id_in row part r ≡ Some id
here_id rows rows' parts parts' path row part q Held id h at = sym (ap (λ o. option_map (λ (w : Whole). w.id) (whole_in o)) h.row_is) ∙ at
here_id rows rows' parts parts' path row part q Fresh id h at = sym (ap (λ o. option_map (λ (o : Load). o.fresh) (out_in o)) h.row_is) ∙ at
here_id rows rows' parts parts' path row part q Carried id h at = sym (ap (λ o. join (out_in o) (λ (o : Load). o.part)) h.row_is) ∙ at
here_id rows rows' parts parts' path row part q Resting id h at = sym (ap (option_map (λ (p : Parked). p.handle.number)) h.part_is) ∙ at

pub there_id : (rows rows' : Rows) (parts parts' : Parts) (path q : List ℕ) (r : Role) (id : ℕ) → There rows rows' parts parts' path q
    → id_at rows' parts' q r ≡ Some id → id_at rows parts q r ≡ Some id
there_id rows rows' parts parts' path q Held id h at = sym (ap (λ o. option_map (λ (w : Whole). w.id) (whole_in o)) h.row_is) ∙ at
there_id rows rows' parts parts' path q Fresh id h at = sym (ap (λ o. option_map (λ (o : Load). o.fresh) (out_in o)) h.row_is) ∙ at
there_id rows rows' parts parts' path q Carried id h at = sym (ap (λ o. join (out_in o) (λ (o : Load). o.part)) h.row_is) ∙ at
there_id rows rows' parts parts' path q Resting id h at = sym (ap (option_map (λ (p : Parked). p.handle.number)) h.part_is) ∙ at

module _ (rows rows' : Rows) (parts parts' : Parts) (path : List ℕ) (row : Option Row) (part : Option Parked)
    (c : Changes rows rows' parts parts' path row part) where
  by_tie : (q : List ℕ) (b : Bool) → tie q path ≡ b → map.get rows' q ≡ cond b row (map.get rows q)
      → map.get parts' q ≡ cond b part (map.get parts q)
      → Here rows' parts' path row part q ⊎ There rows rows' parts parts' path q
  by_tie q true t r p = inl (record { is = tied q path t; row_is = r; part_is = p })
  by_tie q false t r p = inr (record { isnt = untied q path t; row_is = r; part_is = p })

  pub found : (q : List ℕ) → Here rows' parts' path row part q ⊎ There rows rows' parts parts' path q
  found q = by_tie q (tie q path) refl (c.rows_at q) (c.parts_at q)

  module _ {S : Type 0} (s : SiteGhosts S) (tells : Bool) (limit : ℕ) (rules : Rules) (next_try next_id next_try' next_id' : ℕ)
      (f : FitsAt s tells next_try' next_id' rows parts path row part)
      (a : IsPlain s tells (record { rows = rows; parts = parts; next_try = next_try; next_id = next_id; limit = limit; rules = rules }))
      (more_tries : next_try ≤ next_try') (more_ids : next_id ≤ next_id') where
    Where : List ℕ → Type 0
    Where q = Here rows' parts' path row part q ⊎ There rows rows' parts parts' path q

    heads_by : (q : List ℕ) (w : Whole) → Where q → whole_at rows' q ≡ Some w → IsHead (head_of q w)
    unfolding Where
    heads_by q w (inl h) at = subst (λ p. IsHead (head_of p w)) (sym h.is) (f.heads w (sym (ap whole_in h.row_is) ∙ at))
    heads_by q w (inr t) at = a.heads.each q w (sym (ap whole_in t.row_is) ∙ at)

    tries_by : (q : List ℕ) (w : Whole) → Where q → whole_at rows' q ≡ Some w → NamesBelow next_try' w.label
    unfolding Where
    tries_by q w (inl h) at = f.tries w (sym (ap whole_in h.row_is) ∙ at)
    tries_by q w (inr t) at = later next_try next_try' w.label more_tries (a.tries.whole q w (sym (ap whole_in t.row_is) ∙ at))

    part_tries_by : (q : List ℕ) (p : Parked) → Where q → map.get parts' q ≡ Some p → NamesBelow next_try' p.label
    unfolding Where
    part_tries_by q p (inl h) at = f.part_tries p (sym h.part_is ∙ at)
    part_tries_by q p (inr t) at = later next_try next_try' p.label more_tries (a.tries.part q p (sym t.part_is ∙ at))

    out_tries_by : (q : List ℕ) (o : Load) → Where q → out_at rows' q ≡ Some o → o.first + 16 ≤ next_try'
    unfolding Where
    out_tries_by q o (inl h) at = f.out_tries o (sym (ap out_in h.row_is) ∙ at)
    out_tries_by q o (inr t) at = omega (arith, more_tries, a.tries.out q o (sym (ap out_in t.row_is) ∙ at))

    below_by : (q : List ℕ) (r : Role) (id : ℕ) → Where q → id_at rows' parts' q r ≡ Some id → id < next_id'
    unfolding Where
    below_by q r id (inl h) at = f.below r id (here_id rows rows' parts parts' path row part q r id h at)
    below_by q r id (inr t) at = omega (arith, more_ids, a.below.each q r id (there_id rows rows' parts parts' path q r id t at))

    apart_by : (q o : List ℕ) (r t : Role) (id : ℕ) → Where q → Where o → id_at rows' parts' q r ≡ Some id
        → id_at rows' parts' o t ≡ Some id → (q ≡ o) × (r ≡ t)
    unfolding Where
    apart_by q o r t id (inl h) (inl k) x y = (
      h.is ∙ sym k.is,
      f.own r t id (here_id rows rows' parts parts' path row part q r id h x)
          (here_id rows rows' parts parts' path row part o t id k y),
    )
    apart_by q o r t id (inl h) (inr k) x y =
        absurd (f.foreign r t o id k.isnt (here_id rows rows' parts parts' path row part q r id h x)
        (there_id rows rows' parts parts' path o t id k y))
    apart_by q o r t id (inr h) (inl k) x y =
        absurd (f.foreign t r q id h.isnt (here_id rows rows' parts parts' path row part o t id k y)
        (there_id rows rows' parts parts' path q r id h x))
    apart_by q o r t id (inr h) (inr k) x y = a.apart.each q o r t id (there_id rows rows' parts parts' path q r id h x)
        (there_id rows rows' parts parts' path o t id k y)

    parked_by : (q : List ℕ) (p : Parked) → Where q → map.get parts' q ≡ Some p → IsParked s tells q p
    unfolding Where
    parked_by q p (inl h) at = subst (λ x. IsParked s tells x p) (sym h.is) (f.parked p (sym h.part_is ∙ at))
    parked_by q p (inr t) at = a.stand.parked q p (sym t.part_is ∙ at)

    rowed_by : (q : List ℕ) (p : Parked) → Where q → map.get parts' q ≡ Some p → map.contains_key rows' q ≡ true
    unfolding Where
    rowed_by q p (inl h) at = ap is_some h.row_is ∙ f.rowed p (sym h.part_is ∙ at)
    rowed_by q p (inr t) at = ap is_some t.row_is ∙ a.stand.rowed q p (sym t.part_is ∙ at)

    free_by : (q : List ℕ) (p : Parked) → Where q → map.get parts' q ≡ Some p → out_at rows' q ≡ None
    unfolding Where
    free_by q p (inl h) at = ap out_in h.row_is ∙ f.free p (sym h.part_is ∙ at)
    free_by q p (inr t) at = ap out_in t.row_is ∙ a.stand.free q p (sym t.part_is ∙ at)

    pub changed_plain : map.len rows' ≤ limit → map.len parts' ≤ most_parts
        → IsPlain s tells (record { rows = rows'; parts = parts'; next_try = next_try'; next_id = next_id'; limit = limit; rules = rules })
    unfolding Where
    changed_plain few few_parts = record {
      heads = record { each = λ q w at. heads_by q w (found q) at };
      tries = record {
        whole = λ q w at. tries_by q w (found q) at;
        part = λ q p at. part_tries_by q p (found q) at;
        out = λ q o at. out_tries_by q o (found q) at;
      };
      below = record { each = λ q r id at. below_by q r id (found q) at };
      apart = record { each = λ q o r t id x y. apart_by q o r t id (found q) (found o) x y };
      stand = record {
        parked = λ q p at. parked_by q p (found q) at;
        rowed = λ q p at. rowed_by q p (found q) at;
        free = λ q p at. free_by q p (found q) at;
      };
      few = few;
      few_parts = few_parts;
    }
