-- How an import goes on from file to file.
use Rattle.std.proofs.Common.{◌≡◌, ℕ, suc, ◌+◌, Bool, true, false, List, [], cond, Result, Ok, Err, refl, ap, subst, arith}
use Rattle.acng_base.specs.declared.clock.Moment.{Moment}
use Rattle.acng_site.specs.declared.site.Site.{Ghosts as SiteGhosts}
use Rattle.acng_keeper.specs.Kept.{stored, nothing}
use Rattle.acng_desk.specs.House.{Plain, House}
use Rattle.acng_desk.specs.Keeps.{IsSound}
use Rattle.acng_reach.specs.Desks.{rest_of}
use Rattle.acng_reach.specs.declared.index.Index.{Index}
use Rattle.acng_import.specs.declared.ending.FileEnd.{FileEnd}
use Rattle.acng_import.specs.declared.ending.Halt.{Halt}
use Rattle.acng_import.specs.declared.ending.Halt.TheVariants as halt
use Rattle.acng_import.specs.Files.{file_at}
use Rattle.acng_import.specs.Imports.{Run, Ran, RanFrom, Turn}
use Rattle.acng_import.specs.Puts.{Did, IfDid}

-- what holds of what was done, of more
pub if_did : {P : Type 0} (A B : Did → Type 0) (r : Result FileEnd (Halt P)) (p : Plain) → ((d : Did) → A d → B d) → IfDid A r p → IfDid B r p
if_did A B (Ok e) p more h = more _ h
if_did A B (Err halt.Worn) p more h = more _ h
if_did A B (Err (halt.Slip s)) p more h = tt
if_did A B (Err halt.NoMemory) p more h = tt

-- ---- after reach was read

stored_by : (t : Bool) (old new : House) → t ≡ true
    → cond t (stored new.kept) (stored nothing) ≡ cond t (stored old.kept) (stored nothing) → stored new.kept ≡ stored old.kept
stored_by true old new is h = h
stored_by false old new is h = cc

pub ran_none : {S : Type 0} (s : SiteGhosts S) (tells : Bool) (xs : List Index) (now : Moment) (files : List (List ℕ)) (old new : House)
    (faults : ℕ) → tells ≡ true → rest_of tells new ≡ rest_of tells old
    → RanFrom s tells xs now files old faults 0 (record { ends = []; house = new; faults = faults })
ran_none s tells xs now files old new faults t is = record {
  first = new;
  plain = ap (λ r. r.plain) is;
  stored_is = stored_by tells old new t (ap (λ r. r.stored) is);
  ran = refl;
}

-- one more file
pub ran_more : {S : Type 0} (s : SiteGhosts S) (tells : Bool) (xs : List Index) (now : Moment) (files : List (List ℕ)) (old : House)
    (faults n : ℕ) (r t : Run) → RanFrom s tells xs now files old faults n r → Turn xs now (file_at files n) r t → IsSound s tells t.house
    → RanFrom s tells xs now files old faults (n + 1) t
ran_more s tells xs now files old faults n r t a turn sound =
    let next : suc n ≡ n + 1 = omega arith in
    record {
      first = a.first;
      plain = a.plain;
      stored_is = a.stored_is;
      ran = subst (λ m. Ran s tells xs now files (record { ends = []; house = a.first; faults = faults }) m t) next
          (r, a.ran, turn, sound);
    }
