-- A body that was cut, as a partial body at rest.
use Rattle.std.proofs.Common.{◌≡◌, ℕ, ◌≤◌, Bool, true, List, length, take, Some, Option, refl, sym, ap, subst}
use Rattle.std.proofs.Common.{◌∙◌, inr, arith}
use Rattle.std.proofs.lemmas.List.{length-take}
use Rattle.std.specs.Option.{IfSome}
use Rattle.acng_site.specs.declared.site.Site.{Ghosts as SiteGhosts}
use Rattle.acng_site.specs.Honest.{IsFront}
use Rattle.acng_head.specs.declared.head.Label.{Label}
use Rattle.acng_head.specs.declared.head.Label.TheVariants.{Fetched, Imported}
use Rattle.acng_grow.specs.declared.facts.Stage.TheVariants as stage
use Rattle.acng_grow.specs.Grown.{Grown, File, text_of, text_in, size_in}
use Rattle.acng_grow.specs.Keeps.{IsSound as IsGrown, IsBounded, IsFetched, HasRoom}
use Rattle.acng_grow.specs.Stands.{StandsFor, FactsStand}
use Rattle.acng_desk.specs.Keeps.{IsParked}
use Rattle.acng_desk.specs.Tickets.{first_in}

pub some_if : {X : Type 0} (P : X → Type 0) (o : Option X) (x : X) → o ≡ Some x → IfSome o P → P x
some_if P o x is = subst (λ q. IfSome q P) is

front_within : (file text : List ℕ) → IsFront file text → length text ≤ length file
front_within file text is = let e : length (take (length text) file) ≡ length text = ap length is in
    omega (arith, e, length-take (length text) file)

within_by : {S : Type 0} (s : SiteGhosts S) (path : List ℕ) (l : Label) (text : List ℕ) (size : ℕ) → IsFetched l → size ≡ length text
    → StandsFor s path l text → s.tells ≡ true
    → size ≤ length (s.instance (first_in l) path)
within_by s path (Fetched first last) text size f is stands told = let e = front_within (s.instance first path) text (stands told) in
    omega (arith, is, e)
within_by s path (Imported hash n) text size f is stands told = absurd f

pub cut_parked : {S : Type 0} (s : SiteGhosts S) (body_tells tells : Bool) (g : Grown) (x : File) (url : List ℕ) (label : Label)
    → body_tells ≡ tells → (s.tells ≡ true → tells ≡ true)
    → IsGrown s body_tells g → g.seen.stage ≡ stage.Cut → g.file ≡ Some x → g.seen.url ≡ Some url → g.seen.label ≡ Some label
    → IsParked s tells g.path (record { handle = x.0; url = url; label = label; facts = g.seen.facts })
cut_parked s body_tells tells g x url label same told a cut file_is url_is label_is =
    let size : g.seen.size ≡ x.0.size = a.file.size ∙ ap size_in file_is in
    let texts : text_of g ≡ x.0.bytes = ap text_in file_is in
    let fetched : IsFetched label = some_if IsFetched g.seen.label label label_is (a.seen.cut cut).fetched in
    record {
      file = record {
        small = omega (arith, size, a.seen.small);
        room = subst (HasRoom g.seen.facts) size a.seen.room;
        dated = a.seen.dated;
        bounded = some_if IsBounded g.seen.label label label_is a.seen.bounded;
        fetched = fetched;
        place = λ t. some_if (λ u. s.serves u g.path ≡ true) g.seen.url url url_is (a.seen.place t);
        stand = subst (λ u. FactsStand s g.path u label g.seen.facts) url_is
            (some_if (λ l. FactsStand s g.path g.seen.url l g.seen.facts) g.seen.label label label_is a.seen.facts);
        within = λ t. let k = a.text (same ∙ told t) in
            within_by s g.path label (text_of g) x.0.size fetched (sym size ∙ k.size)
            (some_if (λ l. StandsFor s g.path l (text_of g)) g.seen.label label label_is k.stands) t;
      };
      body = record {
        of = refl;
        writable = some_if (λ (f : File). f.0.writable ≡ true) g.file x file_is (a.file.writable (inr cut));
        stands = λ t. subst (StandsFor s g.path label) texts
            (some_if (λ l. StandsFor s g.path l (text_of g)) g.seen.label label label_is (a.text (same ∙ t)).stands);
      };
    }
