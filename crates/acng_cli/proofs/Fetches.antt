-- The requests of `gen`, one more at a time.
use Rattle.std.proofs.Common.{◌≡◌, ℕ, true, Option, Some, suc, ◌+◌, ◌<◌, List, [], ◌∷◌, ◌++◌, length, take, get_or, refl, sym, ap, subst, ◌∙◌, arith}
use Rattle.std.proofs.Math.Seq.{take-suc}
use Rattle.acng_base.specs.Moments.{Ticks}
use Rattle.acng_site.specs.declared.site.Site.{Ghosts as SiteGhosts}
use Rattle.acng_conf.specs.Settings.{Settings}
use Rattle.acng_keeper.specs.declared.calls.CallSlip.{CallSlip}
use Rattle.acng_request.specs.declared.got.Request.{Request}
use Rattle.acng_reply.specs.Manners.{manner_of}
use Rattle.acng_reply.specs.Replies.{Sent}
use Rattle.acng_desk.specs.House.{House}
use Rattle.acng_serve.specs.declared.note.Note.{Note}
use Rattle.acng_serve.specs.Answers.{AnswersAt, AnswersOne}
use Rattle.acng_cli.specs.declared.repository.RepositoryFile.{RepositoryFile}
use Rattle.acng_cli.specs.Generated.{first_moment, request_of, is_sent, IsAsked, AreAsked}

-- ---- lists

-- the front with one more file
front_more : (files : List RepositoryFile) (i : ℕ) (file : RepositoryFile) → i < length files → file ≡ get_or files i file
    → take (i + 1) files ≡ take i files ++ file ∷ []
front_more files i file inside is =
    let e : suc i ≡ i + 1 = omega arith in
    ap (λ j. take j files) (sym e) ∙ take-suc files i file inside ∙ ap (λ x. take i files ++ x ∷ []) (sym is)

-- ---- one request

abbrev first_of : List ℕ → ℕ
first_of [] = 0
first_of (x ∷ xs) = x

module _ {S : Type 0} (s : SiteGhosts S) (conf : Settings) where
  pub asked_by : (file : RepositoryFile) (r : Request) → r ≡ request_of file → (before after : Option (List ℕ))
      → before ≡ Some (first_moment ∷ []) → (old new : House) (note : Note CallSlip) (io : Sent)
      → AnswersOne s true conf (manner_of true r) r before after old new note io → is_sent note ≡ true → IsAsked s conf file old new
  asked_by file r is before after moments old new note io one sent =
      let tick = subst (λ b. Ticks b after one.now.0) moments one.ticked in
      let at = subst (λ n. AnswersAt s true conf (manner_of true r) r (record { 0 = n }) old new note io) (sym (ap first_of tick.1)) one.at in
      record {
        note = note;
        io = io;
        answers = subst (λ q. AnswersAt s true conf (manner_of true q) q (record { 0 = first_moment }) old new note io) is at;
        sent = sent;
      }

  -- ---- one more

  asked_more : (files : List RepositoryFile) (file : RepositoryFile) (a b c : House) → AreAsked s conf files a b → IsAsked s conf file b c
      → AreAsked s conf (files ++ file ∷ []) a c
  asked_more [] file a b c same one = (c, subst (λ x. IsAsked s conf file x c) same one, refl)
  asked_more (x ∷ files) file a b c some one = (some.0, some.1, asked_more files file some.0 b c some.2 one)

  pub asked_step : (files : List RepositoryFile) (i : ℕ) (file : RepositoryFile) → i < length files → file ≡ get_or files i file
      → (a b c : House) → AreAsked s conf (take i files) a b → IsAsked s conf file b c → AreAsked s conf (take (i + 1) files) a c
  asked_step files i file inside is a b c some one =
      subst (λ xs. AreAsked s conf xs a c) (sym (front_more files i file inside is)) (asked_more (take i files) file a b c some one)
