-- What each end of a ticket tells of the desk, the ticket and the body.
use Rattle.std.proofs.Common.{◌≡◌, ◌≢◌, ℕ, ◌<◌, Bool, true, false, not, ◌&&◌, nat_lt, List, Some, None, Option}
use Rattle.std.proofs.Common.{is_some, cond, refl, sym, ap, subst, ◌∙◌, arith}
use Rattle.std.specs.Option.{option_map}
use Rattle.std.specs.Prelude.{IsSome, IsSomeAnd}
use mathlib.Core.Bool.{true≢false}
use Rattle.std.specs.FinMap as map
use Rattle.acng_head.specs.declared.head.Label.{Label}
use Rattle.acng_grow.specs.declared.facts.Facts.{Facts}
use Rattle.acng_grow.specs.declared.facts.Stage.{Stage}
use Rattle.acng_grow.specs.declared.facts.Stage.TheVariants as stage
use Rattle.acng_grow.specs.Grown.{Grown, File, number_in}
use Rattle.acng_rows.specs.declared.row.Whole.{Whole}
use Rattle.acng_rows.specs.declared.stamp.Stamp.{Stamp}
use Rattle.acng_rows.specs.Rows.{Rows, whole_in, out_in, whole_at, out_at, restamped, stamped_in}
use Rattle.acng_site.specs.declared.site.Site.{Ghosts as SiteGhosts}
use Rattle.acng_rows.specs.Starts.{NamesBelow}
use Rattle.acng_rows.proofs.Wholes.{own_whole, twice, same_outs}
use Rattle.acng_desk.proofs.Parks.{some_if}
use Rattle.acng_desk.specs.declared.ending.Ending.{Ending}
use Rattle.acng_desk.specs.declared.ending.Ending.TheVariants as ending
use Rattle.acng_desk.specs.declared.ticket.Info.{Info}
use Rattle.acng_desk.specs.House.{Parked, Plain, Spot, spot_at, most_parts}
use Rattle.acng_desk.specs.declared.ticket.PartFile.{PartFile}
use Rattle.acng_desk.specs.Tickets.{Ticketed, IsTicket, IsPartBody, file_of}
use Rattle.acng_desk.specs.Settles.{is_out, same_id, id_of, was_id, part_id, can_park, by_stage, end_of, left_rows, parked_in}

and_left : (a b : Bool) → (a && b) ≡ true → a ≡ true
and_left true b is = refl
and_left false b is = is

and_right : (a b : Bool) → (a && b) ≡ true → b ≡ true
and_right true b is = is
and_right false b is = absurd (true≢false (sym is))

-- ---- a ticket that isn't out

out_by : (b : Bool) (x e : Ending) → cond b x ending.Unknown ≡ e → e ≢ ending.Unknown → (b ≡ true) × (x ≡ e)
out_by true x e is not = (refl, is)
out_by false x e is not = absurd (not (sym is))

pub end_out : (s : Spot) (t : Ticketed) (g : Grown) (e : Ending) → end_of s t g ≡ e → e ≢ ending.Unknown
    → (is_out (out_in s.row) t.info ≡ true) × (by_stage s t g g.seen.stage ≡ e)
end_out s t g e is not = out_by (is_out (out_in s.row) t.info) (by_stage s t g g.seen.stage) e is not

-- ---- the stage

cond_keep : {P : Type 0} (b : Bool) (x : Ending) → x ≢ ending.Keep → cond b x ending.Drop ≡ ending.Keep → P
cond_keep true x not is = absurd (not is)
cond_keep false x not is = absurd (drop_keep is)
  where
    drop_keep : ending.Drop ≡ ending.Keep → ⊥
    drop_keep e = cc

pub keep_stage : (s : Spot) (t : Ticketed) (g : Grown) (st : Stage) → by_stage s t g st ≡ ending.Keep → st ≡ stage.Whole
keep_stage s t g stage.Opening is = cc
keep_stage s t g stage.Running is = cc
keep_stage s t g stage.Whole is = refl
keep_stage s t g stage.Same is = cond_keep (same_id (id_of (whole_in s.row)) (was_id t.info)) ending.Same (λ e. cc) is
keep_stage s t g stage.Cut is = cond_keep (can_park s g) ending.Park (λ e. cc) is
keep_stage s t g stage.Refused is = cond_keep (is_some t.part_body && s.roomy) ending.Back (λ e. cc) is

cond_is : (b : Bool) (x : Ending) → x ≢ ending.Drop → cond b x ending.Drop ≡ x → b ≡ true
cond_is true x not is = refl
cond_is false x not is = absurd (not (sym is))

cond_other : {P : Type 0} (b : Bool) (x y : Ending) → x ≢ y → ending.Drop ≢ y → cond b x ending.Drop ≡ y → P
cond_other true x y not drop is = absurd (not is)
cond_other false x y not drop is = absurd (drop is)

pub same_stage : (s : Spot) (t : Ticketed) (g : Grown) (st : Stage) → by_stage s t g st ≡ ending.Same → (st ≡ stage.Same)
    × (same_id (id_of (whole_in s.row)) (was_id t.info) ≡ true)
same_stage s t g stage.Opening is = cc
same_stage s t g stage.Running is = cc
same_stage s t g stage.Whole is = cc
same_stage s t g stage.Same is = (refl, cond_is (same_id (id_of (whole_in s.row)) (was_id t.info)) ending.Same (λ e. cc) is)
same_stage s t g stage.Cut is = cond_other (can_park s g) ending.Park ending.Same (λ e. cc) (λ e. cc) is
same_stage s t g stage.Refused is = cond_other (is_some t.part_body && s.roomy) ending.Back ending.Same (λ e. cc) (λ e. cc) is

pub park_stage : (s : Spot) (t : Ticketed) (g : Grown) (st : Stage) → by_stage s t g st ≡ ending.Park → (st ≡ stage.Cut)
    × (can_park s g ≡ true)
park_stage s t g stage.Opening is = cc
park_stage s t g stage.Running is = cc
park_stage s t g stage.Whole is = cc
park_stage s t g stage.Same is = cond_other (same_id (id_of (whole_in s.row)) (was_id t.info)) ending.Same ending.Park (λ e. cc) (λ e. cc)
    is
park_stage s t g stage.Cut is = (refl, cond_is (can_park s g) ending.Park (λ e. cc) is)
park_stage s t g stage.Refused is = cond_other (is_some t.part_body && s.roomy) ending.Back ending.Park (λ e. cc) (λ e. cc) is

pub back_stage : (s : Spot) (t : Ticketed) (g : Grown) (st : Stage) → by_stage s t g st ≡ ending.Back → (st ≡ stage.Refused)
    × (is_some t.part_body ≡ true) × (s.roomy ≡ true)
back_stage s t g stage.Opening is = cc
back_stage s t g stage.Running is = cc
back_stage s t g stage.Whole is = cc
back_stage s t g stage.Same is = cond_other (same_id (id_of (whole_in s.row)) (was_id t.info)) ending.Same ending.Back (λ e. cc) (λ e. cc)
    is
back_stage s t g stage.Cut is = cond_other (can_park s g) ending.Park ending.Back (λ e. cc) (λ e. cc) is
back_stage s t g stage.Refused is =
    let b = cond_is (is_some t.part_body && s.roomy) ending.Back (λ e. cc) is in
    (refl, and_left (is_some t.part_body) s.roomy b, and_right (is_some t.part_body) s.roomy b)

-- ---- what a cut body that may rest has

pub park_file : (s : Spot) (g : Grown) → can_park s g ≡ true → is_some g.file ≡ true
park_file s g is = by (is_some g.file) (is_some g.seen.facts.tag) (is_some g.seen.facts.total) (nat_lt 0 g.seen.size) _ s.roomy is
  where
    by : (a b c d e f : Bool) → (a && b && c && d && e && f) ≡ true → a ≡ true
    by true b c d e f is = refl
    by false b c d e f is = is

pub park_room : (s : Spot) (g : Grown) → can_park s g ≡ true → s.roomy ≡ true
park_room s g is = and_right _ s.roomy is

pub room_is : (p : Plain) (path : List ℕ) → (spot_at p path).roomy ≡ true → map.len p.parts < most_parts
room_is p path is = grind (arith, is)

-- ---- the old body that is still the file

pub same_held : (o : Option Whole) (i : Info) (n : Option ℕ) → same_id (id_of o) (was_id i) ≡ true → n ≡ was_id i → is_some n ≡ true
    → is_some o ≡ true
same_held (Some w) i n same is some = refl
same_held None i n same is some = by (was_id i) (sym (ap is_some is) ∙ some) same
  where
    by : (x : Option ℕ) → is_some x ≡ true → same_id None x ≡ true → false ≡ true
    by None has same = has
    by (Some k) has same = same

-- ---- the row of a stamped body, once the ticket came in

pub stamp_out : (rows : Rows) (path : List ℕ) (stamp : Stamp) → out_at (restamped stamp rows path) path ≡ out_at rows path
stamp_out rows path stamp = same_outs rows path (record { whole = stamped_in stamp (whole_at rows path); out = out_at rows path }) refl path

some_stamped : (stamp : Stamp) (o : Option Whole) → is_some o ≡ true → is_some (stamped_in stamp o) ≡ true
some_stamped stamp None has = has
some_stamped stamp (Some w) has = refl

pub stamp_left : (rows : Rows) (path : List ℕ) (stamp : Stamp) → is_some (whole_at rows path) ≡ true
    → left_rows (restamped stamp rows path) path (whole_at (restamped stamp rows path) path) false ≡ left_rows rows path
    (stamped_in stamp (whole_at rows path)) false
stamp_left rows path stamp has =
    let x = stamped_in stamp (whole_at rows path) in
    let m = restamped stamp rows path in
    let own : whole_at m path ≡ x = own_whole rows path (record { whole = x; out = out_at rows path }) in
    let there : is_some x ≡ true = some_stamped stamp (whole_at rows path) has in
    ap (λ y. left_rows m path y false) own
    ∙ ap (λ b. cond b (map.insert m path (record { whole = x; out = None })) (map.remove m path)) there
    ∙ twice rows path (record { whole = x; out = out_at rows path }) (record { whole = x; out = None })
    ∙ sym (ap (λ b. cond b (map.insert rows path (record { whole = x; out = None })) (map.remove rows path)) there)

-- ---- the body at rest

pub park_is : (o : Option File) (u : Option (List ℕ)) (l : Option Label) (facts : Facts) (x : File) (url : List ℕ) (label : Label)
    → o ≡ Some x → u ≡ Some url → l ≡ Some label
    → parked_in o u l facts ≡ Some (record { handle = x.0; url = url; label = label; facts = facts })
park_is o u l facts x url label a b c = (λ i. parked_in (a i) (b i) (c i) facts)

-- ---- the partial body that the ticket had

pub record PartOf (i : Info) (b : Parked) : Type 0 where
  pub part : PartFile
  pub at : i.part ≡ Some part
  pub is : file_of b ≡ part

part_by : {S : Type 0} (s : SiteGhosts S) (tells : Bool) (path : List ℕ) (i : Info) (b : Parked) (o : Option PartFile) → i.part ≡ o
    → IsSomeAnd o (λ p. IsPartBody s tells path p b) → PartOf i b
part_by s tells path i b None at is = absurd is
part_by s tells path i b (Some p) at is = record { part = p; at = at; is = is.of }

pub ticket_part : {S : Type 0} (s : SiteGhosts S) (tells : Bool) (t : Ticketed) (b : Parked) → IsTicket s tells t → t.part_body ≡ Some b
    → PartOf t.info b
ticket_part s tells t b a is = part_by s tells t.info.path t.info b t.info.part refl
    (some_if (λ x. IsSomeAnd t.info.part (λ p. IsPartBody s tells t.info.path p x)) t.part_body b is a.part_body)

pub ticket_below : {S : Type 0} (s : SiteGhosts S) (tells : Bool) (t : Ticketed) (b : Parked) → IsTicket s tells t → t.part_body ≡ Some b
    → NamesBelow t.info.first b.label
ticket_below s tells t b a is =
    let p = ticket_part s tells t b a is in
    subst (NamesBelow t.info.first) (sym (ap (λ (f : PartFile). f.label) p.is)) (some_if (λ (f : PartFile). NamesBelow t.info.first f.label)
    t.info.part p.part p.at a.part_below)

pub part_number : (i : Info) (b : Parked) → PartOf i b → part_id i ≡ Some b.handle.number
part_number i b p = ap (option_map (λ (f : PartFile). f.id)) p.at ∙ ap (λ n. Some n) (sym (ap (λ (f : PartFile). f.id) p.is))

-- a file has a number
pub file_number : (o : Option File) → IsSome o → is_some (number_in o) ≡ true
file_number None is = is
file_number (Some f) is = refl
