-- What a command of maintenance says, in each of its cases.
use Rattle.std.proofs.Common.{◌≡◌, inl, inr, ℕ, Bool, true, false, List, Option, Some, None, Result, Ok, Err, refl, sym, subst, ap}
use Rattle.acng_base.specs.declared.stream.Sink.{Ghosts as SinkGhosts}
use Rattle.acng_site.specs.declared.site.Site.{Ghosts as SiteGhosts}
use Rattle.acng_conf.specs.Settings.{Settings}
use Rattle.acng_conf.specs.declared.fault.ListFile.{ListFile}
use Rattle.acng_grow.specs.Faithful.{IsFaithful}
use Rattle.acng_import.specs.declared.finder.Finder.{Ghosts as FinderGhosts}
use Rattle.acng_cli.specs.declared.opening.Maint.{Maint}
use Rattle.acng_cli.specs.declared.opening.Opened.{Opened}
use Rattle.acng_cli.specs.declared.opening.Opened.TheVariants.{Ready, Ended}
use Rattle.acng_cli.specs.declared.task.Task.{Task}
use Rattle.acng_cli.specs.declared.words.Command.{Command}
use Rattle.acng_cli.specs.declared.words.Command.TheVariants as command
use Rattle.acng_cli.specs.declared.words.Words.{Words}
use Rattle.acng_cli.specs.declared.words.WordsFault.{WordsFault}
use Rattle.acng_cli.specs.Imports.{Lent}
use Rattle.acng_cli.specs.Maint.{PrintsNone, RefusesCommand, RanPlain, reads_conf}
use Rattle.acng_cli.specs.Opens.{Store, Given, MaySay, OpensBy, idle}
use Rattle.acng_cli.specs.Tasks.{OpensNone, OpensSaying, UsesNone, RanTask, RanBy, RanMaint, task_of}

module _ {S W K Q : Type 0} (s : SiteGhosts S) (tells : Bool) (w : SinkGhosts W) (store : K → Store) (g : Given) (before after : ℕ)
    (keeper : K) where
  -- a desk was started, or it wasn't, and nothing was printed
  pub opens : {T B : Type 0} (asked : Words) (old : W) (o : Opened S K T B Q) (conf : Settings) → MaySay g.text g.lists conf
      → OpensBy s tells store g before after asked o → OpensSaying s tells w store g before after keeper asked old old o
  opens asked old (Ready words conf desk) read says h = (h, refl)
  opens asked old (Ended e) read says h = inl (record { conf = read; says = says; ended = h; silent = refl })

  -- where none was, the keeper that is given back is faithful
  pub none_still : (old new : W) (e : Maint K Q) → OpensNone s tells w store g before after keeper old new e
      → (tells ≡ true → IsFaithful s (store keeper).kept) → tells ≡ true → IsFaithful s (store e.keeper).kept
  none_still old new e (inl starts) faithful t = starts.ended.still t
  none_still old new e (inr (inl refuses)) faithful t = subst (λ x. IsFaithful s (store x.keeper).kept) (sym refuses.is) (faithful t)
  none_still old new e (inr (inr reads)) faithful t = subst (λ x. IsFaithful s (store x.keeper).kept) (sym reads.is) (faithful t)

-- nothing was used
pub uses_none : {W F K Q : Type 0} (keeper : K) (old new : Lent W F) (status : ℕ) (e : Maint K Q) → e ≡ idle status keeper
    → new.coming ≡ old.coming → new.found ≡ old.found → UsesNone keeper old new e
uses_none {K = K} {Q = Q} keeper old new status e is coming found = record {
  is = subst (λ (x : Maint K Q). x ≡ idle x.status keeper) (sym is) refl;
  coming = coming;
  found = found;
}

-- ---- memory was refused before the words were read

none_printed : {W : Type 0} {status : ℕ} {out : W} → status ≡ 6 → PrintsNone status out out
none_printed is = record { is = is; quiet = refl }

plain_lacks : {U W : Type 0} (u : SiteGhosts U) (w : SinkGhosts W) (text : Option (List ℕ)) (lists : List ListFile) (before : ℕ) (out : W) (c : Command)
    (status : ℕ) → status ≡ 6 → RanPlain u w text lists before before c status out out
plain_lacks u w text lists before out command.CheckConf status is = inr (record { why = inr is; silent = refl })
plain_lacks u w text lists before out command.Serve status is = inr (none_printed is)
plain_lacks u w text lists before out command.Once status is = inr (none_printed is)
plain_lacks u w text lists before out command.Expire status is = inr (none_printed is)
plain_lacks u w text lists before out command.Import status is = inr (none_printed is)
plain_lacks u w text lists before out command.Report status is = inr (none_printed is)
plain_lacks u w text lists before out (command.Gen n) status is = inr (none_printed is)

module _ {S U W F K Q : Type 0} (s : SiteGhosts S) (u : SiteGhosts U) (tells : Bool) (w : SinkGhosts W) (f : FinderGhosts F) (store : K → Store)
    (g : Given) (before : ℕ) (keeper : K) (old : Lent W F) where
  by_lacks : (t : Option Task) (asked : Words) (e : Maint K Q) → e ≡ idle 6 keeper
      → RanBy s u tells w f store g before before keeper t asked old old e
  by_lacks (Some todo) asked e is = inr (record {
    opens = inr (inr (record {
      why = inr (ap (λ x. x.status) is);
      is = subst (λ (x : Maint K Q). x ≡ idle x.status keeper) (sym is) refl;
      silent = refl;
    }));
    coming = refl;
    found = refl;
  })
  by_lacks None asked e is = (
    uses_none keeper old old 6 e is refl refl,
    plain_lacks u w g.text g.lists before old.out asked.command e.status (ap (λ x. x.status) is),
  )

  pub lacks : (r : Result Words WordsFault) (e : Maint K Q) → e ≡ idle 6 keeper → RanMaint s u tells w f store g before before keeper r old old e
  lacks (Ok asked) e is = by_lacks (task_of asked.command) asked e is
  lacks (Err fault) e is = (uses_none keeper old old 6 e is refl refl, inr (none_printed (ap (λ x. x.status) is)))

-- ---- a command that makes no desk

-- each but `check-conf` and `gen` is refused
pub refused_plain : {U W : Type 0} (u : SiteGhosts U) (w : SinkGhosts W) (text : Option (List ℕ)) (lists : List ListFile) (before after : ℕ) (c : Command)
    (status : ℕ) (old new : W) → (c ≡ command.CheckConf → ⊥) → ((n : ℕ) → c ≡ command.Gen n → ⊥) → RefusesCommand w status old new
    → RanPlain u w text lists before after c status old new
refused_plain u w text lists before after command.CheckConf status old new not gen h = absurd (not refl)
refused_plain u w text lists before after command.Serve status old new not gen h = h
refused_plain u w text lists before after command.Once status old new not gen h = h
refused_plain u w text lists before after command.Expire status old new not gen h = h
refused_plain u w text lists before after command.Import status old new not gen h = h
refused_plain u w text lists before after command.Report status old new not gen h = h
refused_plain u w text lists before after (command.Gen n) status old new not gen h = absurd (gen n refl)

-- a command that makes a desk reads a configuration
pub task_reads : (c : Command) (todo : Task) → task_of c ≡ Some todo → reads_conf c ≡ false → ⊥
task_reads command.Serve todo is none = cc
task_reads command.Once todo is none = cc
task_reads command.Expire todo is none = cc
task_reads command.Import todo is none = cc
task_reads command.Report todo is none = cc
task_reads command.CheckConf todo is none = cc
task_reads (command.Gen n) todo is none = cc

-- ---- by the words

pub plain_status : {U W : Type 0} (u : SiteGhosts U) (w : SinkGhosts W) (text : Option (List ℕ)) (lists : List ListFile)
    (before after : ℕ) (c : Command) (m n : ℕ) (old new : W) → m ≡ n → RanPlain u w text lists before after c m old new
    → RanPlain u w text lists before after c n old new
plain_status u w text lists before after c m n old new is h = subst (λ k. RanPlain u w text lists before after c k old new) is h

module _ {S U W F K Q : Type 0} (s : SiteGhosts S) (u : SiteGhosts U) (tells : Bool) (w : SinkGhosts W) (f : FinderGhosts F)
    (store : K → Store) (g : Given) (before after : ℕ) (keeper : K) (asked : Words) (old new : Lent W F) (e : Maint K Q) where
  pub by_task : (t : Option Task) (todo : Task) → Some todo ≡ t
      → RanTask s tells w f store g before after keeper todo asked old new e
      → RanBy s u tells w f store g before after keeper t asked old new e
  by_task t todo is h = subst (λ o. RanBy s u tells w f store g before after keeper o asked old new e) is h

  pub by_none : (t : Option Task) → None ≡ t → UsesNone keeper old new e
      → RanPlain u w g.text g.lists before after asked.command e.status old.out new.out
      → RanBy s u tells w f store g before after keeper t asked old new e
  by_none t is none h = subst (λ o. RanBy s u tells w f store g before after keeper o asked old new e) is (none, h)

  pub by_read : (r : Result Words WordsFault) → Ok asked ≡ r
      → RanBy s u tells w f store g before after keeper (task_of asked.command) asked old new e
      → RanMaint s u tells w f store g before after keeper r old new e
  by_read r is h = subst (λ x. RanMaint s u tells w f store g before after keeper x old new e) is h
