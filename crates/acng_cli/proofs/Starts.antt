-- Why an opening ended, and what it leaves.
use Rattle.std.proofs.Common.{◌≡◌, ◌⊎◌, inl, inr, ℕ, Bool, true, List, Option, Some, None, Result, Ok, Err, IfSome, refl, sym, subst, ap, arith}
use Rattle.acng_site.specs.declared.site.Site.{Ghosts as SiteGhosts}
use Rattle.acng_conf.specs.Settings.{Settings, rules_of}
use Rattle.acng_conf.specs.Readings.{reading}
use Rattle.acng_conf.specs.declared.fault.ConfFault.{ConfFault}
use Rattle.acng_conf.specs.declared.fault.ListFile.{ListFile}
use Rattle.acng_keeper.specs.Slips.{Faults, Later}
use Rattle.acng_grow.specs.Faithful.{IsFaithful}
use Rattle.acng_desk.specs.declared.start.StartCause.{StartCause}
use Rattle.acng_desk.specs.declared.start.StartCause.TheVariants as start
use Rattle.acng_desk.specs.declared.start.StartFault.{StartFault}
use Rattle.acng_desk.specs.House.{House}
use Rattle.acng_desk.specs.Starts.{IsStarted, StartRose, most_rows}
use Rattle.acng_cli.specs.declared.opening.Maint.{Maint}
use Rattle.acng_cli.specs.declared.opening.Opened.TheVariants.{Ended}
use Rattle.acng_cli.specs.Opens.{Store, Given, MaySay, SlipsAtStart, EndsBySelf, CannotRead, RefusesConf, HoldsTooMany, IsReady, IsEnded, start_status, start_slip, stopped, idle, OpensAs}
use Rattle.acng_cli.specs.declared.words.Words.{Words}
use Rattle.acng_cli.specs.declared.words.WordsFault.{WordsFault}
use Rattle.acng_cli.proofs.Cases.{if_also}

pub same_faults : (f : Faults) → Later f f
same_faults f = record { count = omega arith; may_fail = refl }

-- the desk was started
pub ready : (tells : Bool) (g : Given) (was : Store) → g.store ≡ was → (conf : Settings) → MaySay g.text g.lists conf → (words : Words)
    (desk : House) (next : ℕ) → g.next_try ≡ next → IsStarted tells was.kept was.next_id next most_rows (rules_of conf) desk
    → IsReady tells g words words conf desk
ready tells g was same conf says words desk next is started = record {
  same = refl;
  says = says;
  started = subst (λ (x : Store). IsStarted tells x.kept x.next_id g.next_try most_rows (rules_of conf) desk) (sym same)
      (subst (λ n. IsStarted tells was.kept was.next_id n most_rows (rules_of conf) desk) (sym is) started);
}

module _ {S K Q : Type 0} (s : SiteGhosts S) (tells : Bool) (store : K → Store) (g : Given) (before after : ℕ) where
  -- the keeper wasn't used
  pub ended_idle : (status : ℕ) (keeper : K) → g.store ≡ store keeper → (tells ≡ true → IsFaithful s (store keeper).kept)
      → CannotRead status before after ⊎ RefusesConf g status ⊎ HoldsTooMany tells g status ⊎ (status ≡ 6)
      → IsEnded s tells store g before after (idle {Q = Q} status keeper)
  ended_idle status keeper same faithful why = record {
    why = inr (record { quiet = refl; why = why });
    later = subst (λ (x : Store). Later x.faults (store keeper).faults) (sym same) (same_faults (store keeper).faults);
    still = faithful;
  }

  module _ (was : Store) (same : g.store ≡ was) (conf : Settings) (says : MaySay g.text g.lists conf) where
    -- the start was refused
    start_why : (keeper : K) (c : StartCause Q) → StartRose tells g.store.kept most_rows g.store.faults (store keeper).faults c
        → SlipsAtStart g (store keeper).faults (record { status = start_status c; keeper = keeper; slip = start_slip c })
        ⊎ EndsBySelf tells g before after (record { status = start_status c; keeper = keeper; slip = start_slip c })
    start_why keeper (start.KeeperFault slip) failed =
        inl (record { is = refl; conf = conf; says = says; slip = slip; handed = refl; failed = failed })
    start_why keeper (start.TooMany count) more =
        inr (record { quiet = refl; why = inr (inr (inl (record { is = refl; conf = conf; says = says; count = count; more = more }))) })
    start_why keeper start.NoMemory free = inr (record { quiet = refl; why = inr (inr (inr refl)) })

    pub ended_start : (f : StartFault K Q) → StartRose tells was.kept most_rows was.faults (store f.keeper).faults f.cause
        → Later was.faults (store f.keeper).faults → (tells ≡ true → IsFaithful s (store f.keeper).kept)
        → IsEnded s tells store g before after (stopped f)
    ended_start f rose later still = record {
      why = start_why f.keeper f.cause
          (subst (λ (x : Store). StartRose tells x.kept most_rows x.faults (store f.keeper).faults f.cause) (sym same) rose);
      later = subst (λ (x : Store). Later x.faults (store f.keeper).faults) (sym same) later;
      still = still;
    }

-- a reading of a configuration, the other way round
pub says_so : (text : Option (List ℕ)) (lists : List ListFile) (read : Result Settings ConfFault) → IfSome text (λ t. read ≡ reading t lists)
    → IfSome text (λ t. reading t lists ≡ read)
says_so text lists read is = if_also (λ t. read ≡ reading t lists) (λ t. reading t lists ≡ read) (λ t k. sym k) text is

-- memory was refused before anything was done, whatever the words say
pub lacks : {S K Q : Type 0} (T B : Type 0) (s : SiteGhosts S) (tells : Bool) (store : K → Store) (g : Given) (before after : ℕ) (keeper : K) → g.store ≡ store keeper
    → (tells ≡ true → IsFaithful s (store keeper).kept) → (r : Result Words WordsFault) (e : Maint K Q) → e ≡ idle 6 keeper
    → OpensAs {T = T} {B = B} s tells store g before after keeper r (Ended e)
lacks T B s tells store g before after keeper same faithful (Ok w) e is =
    subst (λ x. IsEnded s tells store g before after x) (sym is)
    (ended_idle s tells store g before after 6 keeper same faithful (inr (inr (inr refl))))
lacks T B s tells store g before after keeper same faithful (Err fault) e is = inr (ap Ended is)
