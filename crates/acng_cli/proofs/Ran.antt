-- What a run of `once` says, in each of its cases.
use Rattle.std.proofs.Common.{◌≡◌, ℕ, ◌⊎◌, inl, inr, Bool, true, List, [], Option, Some, None, IfSome, refl, sym, subst, ap}
use Rattle.std.specs.Io.KnownBytes.{Keeps}
use Rattle.acng_base.specs.declared.link.Link.{Ghosts as LinkGhosts}
use Rattle.acng_site.specs.declared.site.Site.{Ghosts as SiteGhosts}
use Rattle.acng_conf.specs.Settings.{Settings}
use Rattle.acng_request.specs.Nexts.{Next, next, Asks, Refuses, Ends}
use Rattle.acng_request.specs.declared.got.Request.{Request}
use Rattle.acng_request.specs.declared.got.HeadFault.{HeadFault}
use Rattle.acng_reply.specs.Manners.{manner_of, unread}
use Rattle.acng_reply.specs.Replies.{sent_by}
use Rattle.acng_serve.specs.declared.note.Cause.{Cause}
use Rattle.acng_serve.specs.declared.note.Cause.TheVariants as cause
use Rattle.acng_serve.specs.declared.note.Note.{Note}
use Rattle.acng_serve.specs.Notes.{LinkTold}
use Rattle.acng_cli.specs.declared.once.Once.{Once}
use Rattle.acng_cli.specs.declared.once.OnceStop.TheVariants as stop
use Rattle.acng_cli.specs.Once.{Outside, Replied, Answered, Lined, EndsUnread, IsHindered, IsFileStatus, SendsFileOf, AsksPage, RanOnce}
use Rattle.acng_cli.proofs.FileNotes.{not_lined, names_file}
use Rattle.acng_cli.proofs.Cases.{if_also}

-- a reply that was made since the request was read
pub replied_since : {L Q : Type 0} (l : LinkGhosts L) (old mid new : L) (once : Once Q) (note : Note Q) → once ≡ record { note = Some note; stop = stop.Replied }
    → Keeps (l.written old) (l.written mid) → l.faults mid ≡ l.faults old → LinkTold note (l.faults mid) (l.faults new)
    → Replied l old new once note (sent_by l mid new)
replied_since l old mid new once note is kept worked told = record {
  stop = ap (λ o. o.stop) is;
  noted = ap (λ o. o.note) is;
  since = record { kept = kept; now = refl; before = worked; after = refl };
  told = told;
}

-- what known bytes ask next; of others nothing is told
abbrev asked_in : Option (List ℕ) → Next
asked_in None = Ends
asked_in (Some bytes) = next bytes

told_in : (o : Option (List ℕ)) → IfSome o (λ bytes. asked_in o ≡ next bytes)
told_in None = tt
told_in (Some bytes) = refl

-- the bytes that are left behind a request
rest_in : (r : Request) (o : Option (List ℕ)) → IfSome o (λ bytes. (rest : List ℕ) × (next bytes ≡ Asks r rest))
    → (rest : List ℕ) × IfSome o (λ bytes. Asks r rest ≡ next bytes)
rest_in r None asked = ([], tt)
rest_in r (Some bytes) (rest, is) = (rest, sym is)

module _ {S L Q : Type 0} (s : SiteGhosts S) (tells : Bool) (l : LinkGhosts L) (conf : Settings) (old new : Outside L) (once : Once Q) where
  abbrev left : Option (List ℕ)
  left = l.left old.client

  abbrev Headline : Type 0
  Headline = s.tells ≡ true → tells ≡ true → (note : Note Q) → once.note ≡ Some note → IsFileStatus note.status
      → SendsFileOf s l conf note old new ⊎ AsksPage l conf old

  -- where no reply was made, or that of a line, none is a file's
  unnoted : once.note ≡ None → Headline
  unnoted none st kt note noted status = absurd (cc)

  of_line : (c : Cause Q) → Lined l c once old new → Headline
  of_line c k st kt note noted status =
      let given = k.replied.noted in
      let same : k.note ≡ note = cc in
      absurd (not_lined unread k.note k.io (subst (λ n. IsFileStatus n.status) (sym same) status) c None None k.gives)

  pub ran_hindered : IsHindered l once old new → RanOnce s tells l conf old new once
  ran_hindered (inl f) = record { asks = asked_in left; told = told_in left; runs = inr (inl f); headline = unnoted f.unanswered.noted }
  ran_hindered (inr k) = record { asks = asked_in left; told = told_in left; runs = inr (inr k); headline = of_line cause.NoMemory k }

  -- the client's link ended inside a head
  pub ran_ended : EndsUnread l once old new → IfSome left (λ b. next b ≡ Ends) → RanOnce s tells l conf old new once
  ran_ended e is = record {
    asks = Ends;
    told = if_also (λ b. next b ≡ Ends) (λ b. Ends ≡ next b) (λ b k. sym k) left is;
    runs = inl e;
    headline = unnoted e.unanswered.noted;
  }

  -- the head was refused
  pub ran_refused : (fault : HeadFault) → Lined l (cause.Head fault) once old new → IfSome left (λ b. next b ≡ Refuses fault)
      → RanOnce s tells l conf old new once
  ran_refused fault r is = record {
    asks = Refuses fault;
    told = if_also (λ b. next b ≡ Refuses fault) (λ b. Refuses fault ≡ next b) (λ b k. sym k) left is;
    runs = inl r;
    headline = of_line (cause.Head fault) r;
  }

  -- a request was answered
  module _ (r : Request) (a : Answered s tells l conf r once old new) (is : IfSome left (λ b. (rest : List ℕ) × (next b ≡ Asks r rest))) where
    of_answer : Headline
    of_answer st kt note noted status =
        let given = a.replied.noted in
        let same : a.note ≡ note = cc in
        let own = subst (λ n. IsFileStatus n.status) (sym same) status in
        let named = names_file (manner_of true r) a.note a.io own s tells conf r a.answers.now a.answers.at.lawful in
        elim named [
          | inl file ↦ inl (subst (λ n. SendsFileOf s l conf n old new) same
              (record {
                request = r;
                asked = is;
                path = file.0;
                origins = file.1;
                target = file.2;
                io = a.io;
                since = a.replied.since;
                sends = λ get. a.answers.at.sends st kt file.0 file.1 file.2 get own;
              }))
          | inr page ↦ inr (record { request = r; asked = is; query = page.0; target = page.1 })
        ]

    pub ran_answered : RanOnce s tells l conf old new once
    ran_answered = let rest = rest_in r left is in record { asks = Asks r rest.0; told = rest.1; runs = inl a; headline = of_answer }
