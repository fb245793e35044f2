-- A desk of which no ticket is out, once the ticket that it gave out was settled.
use Rattle.std.proofs.Common.{◌≡◌, ◌≢◌, ℕ, Bool, true, false, ◌||◌, List, None, Option, is_some, cond, refl, sym, subst}
use Rattle.std.proofs.Common.{◌∙◌, inl, inr}
use Rattle.std.specs.FinMap as map
use Rattle.acng_grow.specs.Grown.{Grown}
use Rattle.acng_rows.specs.declared.row.Whole.{Whole}
use Rattle.acng_rows.specs.Rows.{Rows, Load, out_at, whole_in}
use Rattle.acng_rows.proofs.Points.{tie, tied, untied}
use Rattle.acng_rows.proofs.Wholes.{out-insert, out-remove}
use Rattle.acng_desk.specs.declared.ending.Ending.{Ending}
use Rattle.acng_desk.specs.declared.ending.Ending.TheVariants as ending
use Rattle.acng_desk.specs.House.{Parked, Plain, spot_at}
use Rattle.acng_desk.specs.Keeps.{IsIdle}
use Rattle.acng_desk.specs.Tickets.{Ticketed}
use Rattle.acng_desk.specs.Begins.{led, led_row}
use Rattle.acng_desk.specs.Settles.{ended, left_with, whole_after, part_after, Falls}

-- no ticket is out but at this path
pub record IsIdleBut (path : List ℕ) (p : Plain) : Type 0 where
  pub each : (q : List ℕ) → q ≢ path → out_at p.rows q ≡ None

off_case : (b : Bool) (q path : List ℕ) (x o : Option Load) → tie q path ≡ b → q ≢ path → cond b x o ≡ o
off_case true q path x o t off = absurd (off (tied q path t))
off_case false q path x o t off = refl

pub led_idle : (path : List ℕ) (p : Plain) → IsIdle p → IsIdleBut path (led path p)
led_idle path p a = record {
  each = λ q off. out-insert p.rows path (led_row (spot_at p path)) q
      ∙ off_case (tie q path) q path (led_row (spot_at p path)).out (out_at p.rows q) refl off ∙ a.each q;
}

none_case : (rows : Rows) (b : Bool) (q path : List ℕ) → tie q path ≡ b → ((q : List ℕ) → q ≢ path → out_at rows q ≡ None)
    → cond b None (out_at rows q) ≡ None
none_case rows true q path t a = refl
none_case rows false q path t a = a q (untied q path t)

left_by : (rows : Rows) (path q : List ℕ) (w : Option Whole) (b : Bool) → ((q : List ℕ) → q ≢ path → out_at rows q ≡ None)
    → out_at (cond b (map.insert rows path (record { whole = w; out = None })) (map.remove rows path)) q ≡ None
left_by rows path q w true a = out-insert rows path (record { whole = w; out = None }) q ∙ none_case rows (tie q path) q path refl a
left_by rows path q w false a = out-remove rows path q ∙ none_case rows (tie q path) q path refl a

pub left_idle : (path : List ℕ) (w : Option Whole) (part : Option Parked) (p : Plain) → IsIdleBut path p → IsIdle (left_with path w part p)
left_idle path w part p a = record { each = λ q. left_by p.rows path q w (is_some part || is_some w) a.each }

pub ended_idle : (e : Ending) (t : Ticketed) (g : Grown) (p : Plain) → e ≢ ending.Unknown → IsIdleBut g.path p → IsIdle (ended e t g p)
ended_idle ending.Unknown t g p not a = absurd (not refl)
ended_idle ending.Keep t g p not a = left_idle g.path (whole_after ending.Keep (spot_at p g.path) t g) None p a
ended_idle ending.Same t g p not a = left_idle g.path (whole_after ending.Same (spot_at p g.path) t g) None p a
ended_idle ending.Park t g p not a = left_idle g.path (whole_in (map.get p.rows g.path)) (part_after ending.Park t g) p a
ended_idle ending.Back t g p not a = left_idle g.path (whole_in (map.get p.rows g.path)) (part_after ending.Back t g) p a
ended_idle ending.Drop t g p not a = left_idle g.path (whole_in (map.get p.rows g.path)) None p a

pub fallen_idle : (e : Ending) (t : Ticketed) (g : Grown) (p q : Plain) → e ≢ ending.Unknown → IsIdleBut g.path p → Falls e t g p q
    → IsIdle q
fallen_idle e t g p q not a (inl is) = subst IsIdle (sym is) (ended_idle e t g p not a)
fallen_idle e t g p q not a (inr is) = subst IsIdle (sym is) (left_idle g.path (whole_in (map.get p.rows g.path)) None p a)
