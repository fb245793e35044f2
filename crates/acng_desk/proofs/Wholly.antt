-- The whole body that a download gave.
use Rattle.std.proofs.Common.{◌≡◌, ℕ, ◌<◌, ◌^◌, Bool, true, List, length, Some, None, Option, unwrap_or}
use Rattle.std.proofs.Common.{refl, sym, ap, subst, ◌∙◌}
use Rattle.std.specs.Option.{IfSome}
use Rattle.acng_base.specs.Paths.{path_refusal}
use Rattle.acng_base.specs.Tags.{is_tag}
use Rattle.acng_base.specs.declared.clock.Moment.{Moment}
use Rattle.acng_site.specs.declared.site.Site.{Ghosts as SiteGhosts}
use Rattle.acng_head.specs.declared.head.Label.{Label}
use Rattle.acng_head.specs.declared.head.Label.TheVariants.{Fetched, Imported}
use Rattle.acng_head.specs.Records.{IsHead, IsTypedLabel, IsBoundedLabel}
use Rattle.acng_grow.specs.declared.facts.Facts.{Facts}
use Rattle.acng_grow.specs.declared.facts.Stage.TheVariants as stage
use Rattle.acng_grow.specs.Grown.{Grown, text_of, number_of}
use Rattle.acng_grow.specs.Keeps.{IsSound as IsGrown, IsBounded, IsFetched}
use Rattle.acng_grow.specs.Stands.{StandsWhole, FactsStand}
use Rattle.acng_rows.specs.declared.row.Whole.{Whole}
use Rattle.acng_rows.specs.Rows.{head_of}
use Rattle.acng_rows.specs.Goods.{core_of}
use Rattle.acng_desk.specs.Settles.{new_in, new_whole}
use Rattle.acng_desk.proofs.Changes.{no_some}
use Rattle.acng_desk.specs.Stops.{IsFile}
use Rattle.acng_desk.proofs.Parks.{some_if}

-- what is known of it
pub record IsNew (now : Moment) (g : Grown) (w : Whole) : Type 0 where
  pub id : ℕ
  pub label : Label
  pub number : number_of g ≡ Some id
  pub labelled : g.seen.label ≡ Some label
  pub is : w ≡ new_whole now id label g.seen

new_by : (now : Moment) (g : Grown) (w : Whole) (n : Option ℕ) (l : Option Label) → number_of g ≡ n → g.seen.label ≡ l
    → new_in now n l g.seen ≡ Some w → IsNew now g w
new_by now g w None l a b is = no_some w is
new_by now g w (Some id) None a b is = no_some w is
new_by now g w (Some id) (Some label) a b is = record {
  id = id;
  label = label;
  number = a;
  labelled = b;
  is =
      sym (ap (λ o. unwrap_or o w) is);
}

pub is_new : (now : Moment) (g : Grown) (w : Whole) → new_in now (number_of g) g.seen.label g.seen ≡ Some w → IsNew now g w
is_new now g w is = new_by now g w (number_of g) g.seen.label refl refl is

bounded_by : (l : Label) (size : ℕ) → IsFetched l → IsBounded l → IsBoundedLabel size l
bounded_by (Fetched first last) size f b = b
bounded_by (Imported hash n) size f b = absurd f

typed_by : (l : Label) → IsFetched l → IsTypedLabel l
typed_by (Fetched first last) f = tt
typed_by (Imported hash n) f = absurd f

facts_by : {S : Type 0} (s : SiteGhosts S) (path : List ℕ) (l : Label) (facts : Facts) (url : Option (List ℕ)) (size : ℕ) (text : List ℕ)
    → IsFetched l
    → FactsStand s path url l facts → (s.tells ≡ true → size ≡ length text) → StandsWhole s path l text
    → FactsStand s path None l (record { total = Some size; modified = facts.modified; tag = facts.tag })
facts_by s path (Fetched first last) facts url size text f stand is whole = record {
  total = λ told. is told ∙ ap length (sym (whole told));
  from = λ told. let g = stand.from told in record {
    ask = g.ask;
    head = g.head;
    place = g.place;
    at = tt;
    read = g.read;
    full = g.full;
    tag = g.tag;
    modified = g.modified;
    total = λ no. no_some size (sym no);
  };
}
facts_by s path (Imported hash n) facts url size text f stand is whole = absurd f

module _ {S : Type 0} (s : SiteGhosts S) (body_tells tells : Bool) (g : Grown) (w : Whole) (same : body_tells ≡ tells)
    (told : s.tells ≡ true → tells ≡ true)
    (a : IsGrown s body_tells g) (whole : g.seen.stage ≡ stage.Whole) (n : IsNew w.checked g w) where
  fetched : IsFetched n.label
  fetched = some_if IsFetched g.seen.label n.label n.labelled (a.seen.whole whole).fetched

  pub new_head : path_refusal g.path ≡ None → IfSome g.seen.facts.tag (λ t. is_tag t ≡ true) → w.checked.0 < 2 ^ 64
      → IsHead (head_of g.path w)
  new_head path tag checked =
      subst (λ (x : Whole). IsHead (head_of g.path x)) (sym n.is) (record {
        typed = record { path = path; label = typed_by n.label fetched; tag = tag; checked = checked; mark = tt };
        bounded = record {
          label = bounded_by n.label g.seen.size fetched (some_if IsBounded g.seen.label n.label n.labelled a.seen.bounded);
          size = a.seen.small;
          modified = a.seen.dated;
        };
      })

  stands : tells ≡ true → StandsWhole s g.path n.label (text_of g)
  stands t = some_if (λ l. StandsWhole s g.path l (text_of g)) g.seen.label n.label n.labelled ((a.text (same ∙ t)).whole whole)

  pub new_file : tells ≡ true → IsFile s (core_of (head_of g.path w)) (text_of g)
  new_file t = subst (λ (x : Whole). IsFile s (core_of (head_of g.path x)) (text_of g)) (sym n.is) (
    stands t,
    facts_by s g.path n.label g.seen.facts g.seen.url g.seen.size (text_of g) fetched
        (some_if (λ l. FactsStand s g.path g.seen.url l g.seen.facts) g.seen.label n.label n.labelled a.seen.facts)
        (λ _. (a.text (same ∙ t)).size) (stands t),
  )

  pub new_size : tells ≡ true → length (text_of g) ≡ w.size
  new_size t = sym (a.text (same ∙ t)).size ∙ sym (ap (λ (x : Whole). x.size) n.is)

  pub new_id : w.id ≡ n.id
  new_id = ap (λ (x : Whole). x.id) n.is
