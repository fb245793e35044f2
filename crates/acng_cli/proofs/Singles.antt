-- What a run of `once` by its words says, in each of its cases.
use Rattle.std.proofs.Common.{◌≡◌, ◌⊎◌, inl, inr, ℕ, Bool, true, Option, Some, None, refl, sym, ap, subst}
use Rattle.acng_base.specs.declared.link.Link.{Ghosts as LinkGhosts}
use Rattle.acng_site.specs.declared.site.Site.{Ghosts as SiteGhosts}
use Rattle.acng_conf.specs.Settings.{Settings}
use Rattle.acng_grow.specs.Faithful.{IsFaithful}
use Rattle.acng_desk.specs.House.{House}
use Rattle.acng_cli.specs.declared.opening.Maint.{Maint}
use Rattle.acng_cli.specs.declared.single.Single.{Single}
use Rattle.acng_cli.specs.declared.words.Words.{Words}
use Rattle.acng_cli.specs.Opens.{Store, Given, IsReady, IsEnded}
use Rattle.acng_cli.specs.Single.{Streams, RunsOver, RanSingle, start_of}
use Rattle.acng_cli.proofs.Starts.{ended_idle}

-- what is given back where no request was waited for
abbrev unran : {K Q : Type 0} → Maint K Q → Single K Q
unran e = record { status = e.status; keeper = e.keeper; slip = e.slip; once = None }

module _ {S L K Q : Type 0} (s : SiteGhosts S) (tells : Bool) (l : LinkGhosts L) (store : K → Store) (g : Given) (before after : ℕ) (keeper : K)
    (same : g.store ≡ store keeper) (faithful : tells ≡ true → IsFaithful s (store keeper).kept) (old : Streams L) where
  abbrev Ran : Streams L → Option Words → Single K Q → Type 0
  Ran new o one = RanSingle s tells l store g before after keeper old new o one

  -- memory was refused before the words were read, whatever they say
  lacks : (o : Option Words) (one : Single K Q) → one ≡ record { status = 6; keeper = keeper; slip = None; once = None } → Ran old o one
  lacks (Some w) one is = inr (record {
    ended = subst (λ x. IsEnded s tells store g before after (start_of x)) (sym is)
        (ended_idle s tells store g before after 6 keeper same faithful (inr (inr (inr refl))));
    unasked = ap (λ x. x.once) is;
    untouched = refl;
  })
  lacks None one is = inr (record { is = is; untouched = refl })

  -- the words don't name `once`, or memory was refused before they were read
  pub ran_idle : (o : Option Words) (status : ℕ) (one : Single K Q) → (status ≡ 6) ⊎ ((status ≡ 2) × (o ≡ None))
      → one ≡ record { status = status; keeper = keeper; slip = None; once = None } → Ran old o one
  ran_idle o status one (inl six) is =
      lacks o one (subst (λ n. one ≡ record { status = n; keeper = keeper; slip = None; once = None }) six is)
  ran_idle o status one (inr (two, none)) is =
      subst (λ x. Ran old x one) (sym none)
      (inl (record {
        is = subst (λ n. one ≡ record { status = n; keeper = keeper; slip = None; once = None }) two is;
        untouched = refl;
      }))

  -- a desk was opened, and one request waited for
  pub ran_over : (o : Option Words) (w words : Words) (conf : Settings) (desk : House) (new : Streams L) (one : Single K Q) → o ≡ Some w
      → IsReady tells g w words conf desk → RunsOver s tells l store conf desk old new one → Ran new o one
  ran_over o w words conf desk new one is ready over =
      subst (λ x. Ran new x one) (sym is) (inl (record { words = words; conf = conf; desk = desk; ready = ready; over = over }))

  -- none was opened
  pub ran_ended : (o : Option Words) (w : Words) (e : Maint K Q) (one : Single K Q) → o ≡ Some w → IsEnded s tells store g before after e
      → one ≡ unran e → Ran old o one
  ran_ended o w e one is ended same_one =
      subst (λ x. Ran old x one) (sym is)
      (inr (record {
        ended = subst (λ x. IsEnded s tells store g before after (start_of x)) (sym same_one) ended;
        unasked = ap (λ x. x.once) same_one;
        untouched = refl;
      }))

  -- the keeper that is given back is faithful, so another run may start over it
  pub still : (new : Streams L) (o : Option Words) (one : Single K Q) → Ran new o one → tells ≡ true → IsFaithful s (store one.keeper).kept
  still new (Some w) one (inl runs) t = runs.over.still t
  still new (Some w) one (inr ends) t = ends.ended.still t
  still new None one (inl idle) t = subst (λ x. IsFaithful s (store x.keeper).kept) (sym idle.is) (faithful t)
  still new None one (inr idle) t = subst (λ x. IsFaithful s (store x.keeper).kept) (sym idle.is) (faithful t)
