-- What a request for the report page gets.
use Rattle.std.proofs.Common.{◌≡◌, inl, inr, ◌⊎◌, ℕ, Bool, true, false, List, [], length, Option, Some, None, Result, Ok, Err, IfOk}
use Rattle.std.proofs.Common.{IfSome, refl, ap, sym, subst, ◌∙◌}
use Rattle.acng_base.specs.declared.clock.Moment.{Moment}
use Rattle.acng_site.specs.declared.site.Site.{Ghosts as SiteGhosts}
use Rattle.acng_conf.specs.Settings.{Settings}
use Rattle.acng_remap.specs.Readings.{Reading, reading}
use Rattle.acng_remap.specs.declared.target.Target.TheVariants.{File, Page}
use Rattle.acng_keeper.specs.Slips.{Later}
use Rattle.acng_request.specs.declared.got.Request.{Request}
use Rattle.acng_desk.specs.declared.entry.Entry.{Entry}
use Rattle.acng_desk.specs.House.{House, Plain}
use Rattle.acng_expire.specs.declared.line.ExpireLine.{ExpireLine}
use Rattle.acng_report.specs.Pages.{Page as PageSeen}
use Rattle.acng_reply.specs.declared.manner.Manner.{Manner}
use Rattle.acng_reply.specs.Replies.{Sent, WroteAll, WroteFront, page_reply}
use Rattle.acng_serve.specs.declared.note.Note.{Note}
use Rattle.acng_serve.specs.declared.note.Cause.TheVariants as cause
use Rattle.acng_serve.specs.declared.page.Report.{Report}
use Rattle.acng_serve.specs.Among.{LawfulAt}
use Rattle.acng_serve.specs.Answered.{Answered, answered_as, by_target, by_visit, world_of}
use Rattle.acng_serve.specs.Answers.{AnswersAt, AfterAny, SettledAny, VisitsBy}
use Rattle.acng_serve.specs.Causes.{is_slip}
use Rattle.acng_serve.specs.Headline.{SendsFiles}
use Rattle.acng_serve.specs.Lawful.{ByTarget, ByVisit, IsLawfulNote, LacksNote, PageNote, RunNote}
use Rattle.acng_serve.specs.Notes.{Gives, lined, paged}
use Rattle.acng_serve.specs.Pages.{Visit, Shows, Runs, Forbids, Visits, IsRunPage, IsSomePage, IsSomeRun, ShowsDesk, RunsDesk, LacksRun, page_at, visit_of}
use Rattle.acng_serve.specs.Ways.{LeadsToPage}
use Rattle.acng_serve.proofs.Filing.{line_moment}
use Rattle.acng_serve.proofs.Frees.{line_slip}

-- ---- a page's note

module _ {Q : Type 0} (m : Manner) (page : PageSeen) (run : Option (ExpireLine Q)) (note : Note Q) (io : Sent)
    (g : Gives (paged m page run) note io) where
  none_entered : note.entry ≡ None
  none_entered = elim g [
    | inl x ↦ ap (λ n. n.entry) x.0
    | inr b ↦ b.entry
  ]

  page_moment : (now : Moment) (e : Entry) → note.entry ≡ Some e → e.moment ≡ now
  page_moment now e has = let none : None ≡ Some e = sym none_entered ∙ has in absurd (cc)

  page_slip : is_slip note.cause ≡ true → ⊥
  page_slip is = elim g [
    | inl x ↦ let e : true ≡ false = sym is ∙ ap (λ n. is_slip n.cause) x.0 in absurd (cc)
    | inr b ↦ let e : true ≡ false = sym is ∙ ap is_slip b.cause in absurd (cc)
  ]

-- what is told of a visit's note
record Told {Q : Type 0} (now : Moment) (note : Note Q) : Type 0 where
  moment : (e : Entry) → note.entry ≡ Some e → e.moment ≡ now
  slip : is_slip note.cause ≡ true → ⊥

told_page : {Q : Type 0} (m : Manner) (now : Moment) (page : PageSeen) (run : Option (ExpireLine Q)) (note : Note Q) (io : Sent)
    → Gives (paged m page run) note io → Told now note
told_page m now page run note io g = record { moment = page_moment m page run note io g now; slip = page_slip m page run note io g }

told_lack : {Q : Type 0} (m : Manner) (now : Moment) (note : Note Q) (io : Sent) → LacksNote m note io → Told now note
told_lack m now note io g = record {
  moment = line_moment m cause.NoMemory note io now g;
  slip = line_slip m cause.NoMemory note io refl g;
}

-- ---- a request

both_read : (q : List ℕ) (p : List ℕ) (o : List (List ℕ)) → ◌≡◌ {A = Reading} (Ok (Page q)) (Ok (File p o)) → ⊥
both_read q p o e = absurd (cc)

module _ {S Q : Type 0} (s : SiteGhosts S) (tells : Bool) (conf : Settings) (m : Manner) (r : Request) (now : Moment) (note : Note Q)
    (io : Sent) (v : Visit) (way : LeadsToPage conf r v) where
  no_files : SendsFiles s conf m r note io
  no_files path origins is bare status = absurd (both_read way.query path origins (sym way.read ∙ is))

  lawful_by : ByVisit tells m now note io v ⊎ LacksNote m note io → IsLawfulNote s tells conf m r now note io
  lawful_by (inl x) = inl (subst (ByTarget s tells conf m r now note io) (sym way.read) (subst (ByVisit tells m now note io) (sym way.visit) x))
  lawful_by (inr x) = inr (inr x)

  -- among others
  visited_among : ByVisit tells m now note io v ⊎ LacksNote m note io → Told now note → LawfulAt s tells conf m r now note io
  visited_among x t = record { lawful = lawful_by x; sends = λ k l. no_files; moment = t.moment }

  -- with the desk to itself
  module _ (old new : House) where
    visited : by_visit {Q = Q} m v ≡ None → Visits tells m now old new note io v → ByVisit tells m now note io v ⊎ LacksNote m note io
        → Told now note → AnswersAt s tells conf m r now old new note io
    visited none x lawful t =
        let read : answered_as {Q = Q} conf m (world_of s old now) r ≡ None =
        ap (by_target conf m (world_of s old now) r) way.read ∙ ap (by_visit m) way.visit ∙ none in
        record {
          exact = λ k free. subst (λ o. IfSome o (λ a. Gives a.answer note io)) (sym read) tt;
          page = subst (VisitsBy tells conf m now old new note io) (sym way.read) (subst (Visits tells m now old new note io) (sym way.visit) x);
          lawful = lawful_by lawful;
          sends = λ k l. no_files;
          settles = λ free. subst (λ o. IfSome o (λ a. SettledAny s a.loads now old new)) (sym read) tt;
          leaves = subst (λ o. IfSome o (λ a. AfterAny s a.loads now old new)) (sym read) tt;
          moment = t.moment;
          slip = λ is whole. absurd (t.slip is);
          later = subst (λ o. IfSome o (λ a. Later old.faults new.faults)) (sym read) tt;
        }

module _ {S Q : Type 0} (s : SiteGhosts S) (tells : Bool) (conf : Settings) (m : Manner) (r : Request) (now : Moment) (note : Note Q)
    (io : Sent) where
  -- the page alone
  pub shown_at : LeadsToPage conf r Shows → (old new : House) → ShowsDesk m old new note io → AnswersAt s tells conf m r now old new note io
  shown_at way old new x = elim x.gives [
    | inl g ↦ visited s tells conf m r now note io Shows way old new refl x (inl (record { desk = old.plain; gives = g }))
        (told_page m now (page_at [] old.plain) None note io g)
    | inr g ↦ visited s tells conf m r now note io Shows way old new refl x (inr g) (told_lack m now note io g)
  ]

  pub shown_among : LeadsToPage conf r Shows → PageNote m note io ⊎ LacksNote m note io → LawfulAt s tells conf m r now note io
  shown_among way (inl x) = visited_among s tells conf m r now note io Shows way (inl x)
      (told_page m now (page_at [] x.desk) None note io x.gives)
  shown_among way (inr x) = visited_among s tells conf m r now note io Shows way (inr x) (told_lack m now note io x)

  -- a run before it
  pub ran_at : LeadsToPage conf r Runs → (old new : House) → RunsDesk tells m now old new note io ⊎ LacksRun tells m now old new note io
      → AnswersAt s tells conf m r now old new note io
  ran_at way old new (inl x) = visited s tells conf m r now note io Runs way old new refl (inl x)
      (inl (record { old = old; new = new; runs = x })) (told_page m now x.page x.run note io x.gives)
  ran_at way old new (inr x) = visited s tells conf m r now note io Runs way old new refl (inr x) (inr x.gives) (told_lack m now note io x.gives)

  pub ran_among : LeadsToPage conf r Runs → RunNote tells m now note io ⊎ LacksNote m note io → LawfulAt s tells conf m r now note io
  ran_among way (inl x) = visited_among s tells conf m r now note io Runs way (inl x)
      (told_page m now x.runs.page x.runs.run note io x.runs.gives)
  ran_among way (inr x) = visited_among s tells conf m r now note io Runs way (inr x) (told_lack m now note io x)

-- ---- what was made

-- of a desk behind a lock
pub some_page : {Q E : Type 0} (r : Result (Report Q) E) (p : Plain) → IfOk r (λ x. x.page ≡ page_at [] p) → IfOk r (λ x. x.run ≡ None)
    → IfOk r (λ x. IsSomePage x.page x.run)
some_page (Ok x) p shows none = record { desk = p; shows = shows; none = none }
some_page (Err e) p shows none = tt

pub some_run : {Q E : Type 0} (r : Result (Report Q) E) (tells : Bool) (now : Moment) (old new : House)
    → IfOk r (λ x. IsRunPage tells now old new x.page x.run) → IfOk r (λ x. IsSomeRun tells now x.page x.run)
some_run (Ok x) tells now old new is = record { old = old; new = new; is = is }
some_run (Err e) tells now old new is = tt

module _ {Q : Type 0} (m : Manner) (page : PageSeen) (run : Option (ExpireLine Q)) (note : Note Q) (io : Sent)
    (g : Gives (paged m page run) note io) where
  pub page_gives : (p : Plain) → page ≡ page_at [] p → run ≡ None → Gives (paged m (page_at [] p) None) note io
  page_gives p shows none =
      subst (λ x. Gives (paged m x None) note io) shows (subst (λ x. Gives (paged m page x) note io) none g)

  pub page_note : IsSomePage page run → PageNote m note io
  page_note x = record { desk = x.desk; gives = page_gives x.desk x.shows x.none }

  pub run_note : (tells : Bool) (now : Moment) → IsSomeRun tells now page run → RunNote tells m now note io
  run_note tells now x = record { old = x.old; new = x.new; runs = record { page = page; run = run; is = x.is; gives = g } }

-- ---- what was sent

module _ {Q : Type 0} (m : Manner) (page : PageSeen) (run : Option (ExpireLine Q)) (io : Sent) (sent : ℕ) (note : Note Q) where
  -- all of it
  pub page_sent : note ≡ record
      { status = 200; cause = cause.Page page run; label = None; entry = None; part = None; sent = sent; whole = true }
      → sent ≡ length (page_reply m page.bytes).body → WroteAll (page_reply m page.bytes) io → Gives (paged m page run) note io
  page_sent is count wrote = inl (
    is ∙ ap (λ n. record
        { status = 200; cause = cause.Page page run; label = None; entry = None; part = None; sent = n; whole = true }) count,
    wrote,
  )

  -- a front of it
  pub page_broke : note ≡ record
      { status = 200; cause = cause.ClientFault; label = None; entry = None; part = None; sent = sent; whole = false }
      → WroteFront (page_reply m page.bytes) sent io → Gives (paged m page run) note io
  page_broke is w = inr (record {
    status = ap (λ n. n.status) is;
    cause = ap (λ n. n.cause) is;
    label = ap (λ n. n.label) is;
    entry = ap (λ n. n.entry) is;
    part = ap (λ n. n.part) is;
    whole = ap (λ n. n.whole) is;
    wrote = subst (λ k. WroteFront (page_reply m page.bytes) k io) (sym (ap (λ n. n.sent) is)) w;
  })
